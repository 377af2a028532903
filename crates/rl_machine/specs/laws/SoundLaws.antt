-- What is true of a machine at every moment gives what is promised of it.
use Rattle.std.specs.Prelude.{◌≡◌, ◌≢◌, ℕ, ◌≤◌, ◌<◌, true, false, List, [], ◌∷◌, length, map, slice_get, slice_index, Some, refl}
use Rattle.std.proofs.Common.{sym, ◌∙◌, ap, subst, ⊎_elim, arith}
use Rattle.std.proofs.lemmas.Option.{slice_get_within}
use Rattle.rl_word.specs.laws.Places.{get_map, same_or_not, some_at}
use Rattle.rl_journal.specs.Legal.{IsLegal}
use Rattle.rl_journal.specs.Ranks.{IsRankInOrder}
use Rattle.rl_journal.specs.laws.HistoryLaws.{replayed}
use Rattle.rl_step.specs.Lock.{Deed}
use Rattle.rl_step.specs.QueuePromises.{CountTenures}
use Rattle.rl_core.specs.Asks.{asked_of}
use Rattle.rl_core.specs.EventRanks.{AreByRanks}
use Rattle.rl_ops.specs.Asked.{BeginsAt}
use Rattle.rl_core.specs.Desks.{Desk, desk_entries}
use Rattle.rl_core.specs.RankGood.{entries_in}
use Rattle.rl_core.specs.ShardLaws.{LawsOf, IsSeated}
use Rattle.rl_core.specs.Moments.{CoreSays, Moment}
use Rattle.rl_machine.specs.Running.{ShardRun, Running, moment_of}
use Rattle.rl_machine.specs.ShardSteps.{desk_at, desk_on, kept_on, open_at, open_on}
use Rattle.rl_step.specs.Traces.{events_of}
use Rattle.rl_machine.specs.Run.{desks_by, on_shard, calls_by, sizes_by, place_of, kept_by, done_of, block_opened, IsAllClosed, IsShut}
use Rattle.rl_machine.specs.laws.BlockEnds.{rest_begins, work_begins}
use Rattle.rl_machine.specs.MachineGood.{IsShardOf, MachineGood}
use Rattle.rl_machine.specs.laws.MachineLaws.{found_at, laws_of, block_good, said_by}
use Rattle.rl_machine.specs.Promises.{shard_journal, transcripts_on, IsShardSound, IsSound}
use Rattle.rl_machine.specs.Changes.{OnlyWritersChange}
use Rattle.rl_machine.specs.laws.ChangeLaws.{step_comes}

-- the entries of a rank's desks
pub kept_desks : {V : Type 0} (k : ℕ) (shards : List (ShardRun V)) → map desk_entries (map (desk_on k) shards) ≡ map (kept_on k) shards
kept_desks k [] = refl
kept_desks k (S ∷ shards) = ap (λ z. kept_on k S ∷ z) (kept_desks k shards)

module _ {C V : Type 0} (says : C → CoreSays V) (laws : LawsOf says) (cores : List C)
    (acts : List (List Deed)) (m : Running V) (g : MachineGood says cores acts m) where
  -- the shard, with what is true of it
  pub shard_is : (s : ℕ) (S : ShardRun V) → slice_get m.shards s ≡ Some S → (c : C) × (ds : List Deed) × IsShardOf says m.geom m.calls s c ds S
  shard_is s S has =
      let f = found_at says laws cores acts m s g (slice_get_within m.shards s S has) in
      (f.core, f.deeds, g.shards s S f.core f.deeds has f.has_core f.has_acts)

  pub shard_sound : (s : ℕ) (S : ShardRun V) → slice_get m.shards s ≡ Some S → IsShardSound m.geom S
  shard_sound s S has =
      let q = shard_is s S has in
      let is = q.2 in
      let moment : Moment V = moment_of S q.1 in
      let seat : (k : ℕ) (x : V) → slice_get S.views k ≡ Some x → IsSeated (said_by (says q.0) S.table) moment k x = λ k x view. record { is_good = is.is_good; has = view } in
      let lawful = laws_of says laws cores q.0 S.table is.table_is in
      let geom_is : S.table.site.geom ≡ m.geom = ap (λ z. z.site.geom) is.table_is ∙ is.geom_is in
      let legal : IsLegal m.geom (shard_journal S) (transcripts_on S) = subst (λ z. IsLegal z (shard_journal S) (transcripts_on S)) geom_is (lawful.legal moment is.is_good) in
      record {
        exclusive = lawful.exclusive moment is.is_good;
        guarded = λ k x at view next. lawful.guards moment k x at (record { seated = seat k x view; next = next });
        stands = λ k x view. lawful.stands moment k x (seat k x view);
        queues = lawful.queues moment is.is_good;
        named = lawful.named moment is.is_good;
        ordered = (g.told s S has).ordered;
        domains = record {
          cards = λ k x at view next kind. lawful.cards moment k x at (record { seated = seat k x view; next = next }) kind;
          locals = λ k x at view next kind. lawful.locals moment k x at (record { seated = seat k x view; next = next }) kind;
        };
        legal = legal;
        replayed = replayed m.geom (shard_journal S) (transcripts_on S) legal;
        sorted = lawful.sorted moment is.is_good;
      }

module _ {C V : Type 0} (says : C → CoreSays V) (laws : LawsOf says) (cores : List C)
    (acts : List (List Deed)) (m : Running V) (g : MachineGood says cores acts m) where
  -- what is true of a shard
  abbrev here : (s : ℕ) (S : ShardRun V) → slice_get m.shards s ≡ Some S → (c : C) × (ds : List Deed) × IsShardOf says m.geom m.calls s c ds S
  here s S has = shard_is says laws cores acts m g s S has

  -- a rank's entries are its first calls
  rank_order : (k : ℕ) → k < length m.calls → IsRankInOrder m.geom k (asked_of (calls_by m k) (sizes_by m k)) (done_of m k) (kept_by m k)
  rank_order k h =
      let r = g.ranks k h in
      subst (λ z. IsRankInOrder m.geom k (asked_of (calls_by m k) (sizes_by m k)) (entries_in z) z) (kept_desks k m.shards)
      (subst (λ n. IsRankInOrder m.geom k (asked_of (calls_by m k) (sizes_by m k)) n (map desk_entries (desks_by m k))) (sym r.total) r.order)

  rank_done : (k : ℕ) → k < length m.calls → done_of m k ≤ slice_index m.opened k
  rank_done k h =
      let r = g.ranks k h in
      let f = found_at says laws cores acts m (place_of m k) g (g.stands k h) in
      let o = r.on (place_of m k) (desk_on k f.shard) (get_map (desk_on k) m.shards (place_of m k) f.shard f.has) in
      let total : done_of m k ≡ r.done = sym (ap entries_in (kept_desks k m.shards)) ∙ r.total in
      elim (desk_on k f.shard).owes as (λ b. (desk_on k f.shard).owes ≡ b → done_of m k ≤ slice_index m.opened k) [
        | true ↦ λ w. let e = (o.working w).ends in omega arith
        | false ↦ λ w. let e = o.resting refl w in omega arith
      ] refl

  -- and those are whole blocks
  rank_whole : (k : ℕ) → k < length m.calls → BeginsAt (calls_by m k) (sizes_by m k) (done_of m k)
  rank_whole k h =
      let r = g.ranks k h in
      let f = found_at says laws cores acts m (place_of m k) g (g.stands k h) in
      let d : Desk = desk_on k f.shard in
      let o = r.on (place_of m k) d (get_map (desk_on k) m.shards (place_of m k) f.shard f.has) in
      let total : done_of m k ≡ r.done = sym (ap entries_in (kept_desks k m.shards)) ∙ r.total in
      let settled : r.done ≡ slice_index m.opened k → BeginsAt (calls_by m k) (sizes_by m k) r.done =
      λ e. subst (BeginsAt (calls_by m k) (sizes_by m k)) (sym e) (rest_begins m.geom (calls_by m k) (sizes_by m k) (slice_index m.opened k) r.low r.rest) in
      subst (BeginsAt (calls_by m k) (sizes_by m k)) (sym total)
      (elim d.owes as (λ b. d.owes ≡ b → BeginsAt (calls_by m k) (sizes_by m k) r.done) [
        | true ↦ λ w. work_begins m.geom (calls_by m k) (sizes_by m k) r.done (slice_index m.opened k) d.calls (g.blocks k) (o.working w).ends settled (o.working w).next
        | false ↦ λ w. settled (o.resting refl w)
      ] refl)

  -- while no call is open no view has a block open
  shut_at : IsAllClosed m → (s : ℕ) (S : ShardRun V) (k : ℕ) (x : V) → slice_get m.shards s ≡ Some S → slice_get S.views k ≡ Some x → (S.table.own x).is_open ≡ false
  shut_at shut s S k x has view =
      let q = here s S has in
      let is = q.2 in
      let h : k < length m.calls = let a = is.ranks in let b = slice_get_within S.views k x view in omega arith in
      let lawful = laws_of says laws cores q.0 S.table is.table_is in
      ⊎_elim
      (λ (e : s ≡ place_of m k). sym (ap (on_shard false (open_on k)) (ap (slice_get m.shards) (sym e) ∙ has) ∙ ap (open_at S.table) view) ∙ shut k h)
      (λ (ne : s ≢ place_of m k).
      sym (lawful.knows_open (moment_of S q.1) k x (record { is_good = is.is_good; has = view }))
      ∙ ((g.ranks k h).on s (S.table.desk S.held.words k x) (get_map (desk_on k) m.shards s S has ∙ ap (λ o. Some (desk_at S.table S.held.words k o)) view)).elsewhere ne)
      (same_or_not s (place_of m k))

  all_shut : IsAllClosed m → (s : ℕ) (S : ShardRun V) → slice_get m.shards s ≡ Some S → IsShut S
  all_shut shut s S has k h = let there = some_at S.views k h in ap (open_at S.table) there.1 ∙ shut_at shut s S k there.0 has there.1

  counts : (s : ℕ) (S : ShardRun V) → slice_get m.shards s ≡ Some S → IsShut S → CountTenures S.table.queues (events_of S.trace)
  counts s S has shut =
      let q = here s S has in
      (laws_of says laws cores q.0 S.table q.2.table_is).counted (moment_of S q.1) q.2.is_good (λ r v e. sym (ap (open_at S.table) e) ∙ shut r (slice_get_within S.views r v e))

  pub is_sound : IsSound m
  is_sound =
      record {
        shards = λ s S has. shard_sound says laws cores acts m g s S has;
        order = rank_order;
        done = rank_done;
        whole = rank_whole;
        given = λ k h. (g.ranks k h).low;
        views = λ s S has. (here s S has).2.ranks;
        made = λ s S has. (g.told s S has).before;
        by_ranks = λ s S has.
            let q = here s S has in
            subst (λ n. AreByRanks n (events_of S.trace)) q.2.ranks
            ((laws_of says laws cores q.0 S.table q.2.table_is).by_ranks (moment_of S q.1) q.2.is_good);
        counted = counts;
        shut = all_shut;
      }

  -- the shards are sound once a block is opened too, so the atom behind it is a writer's where it changes what the lock guards
  pub only_writers : OnlyWritersChange m
  only_writers k s S N h has there =
      step_comes m k s S N (λ T is. shard_sound says laws cores acts (block_opened m k) (block_good says laws cores acts m k g h) s T is) has there
