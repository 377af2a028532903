-- Whatever the order of the steps, all that is true of a machine stays so, for every core.
use Rattle.std.specs.Prelude.{◌≡◌, ◌≢◌, ℕ, zero, suc, ◌+◌, ◌<◌, ◌≤◌, Bool, true, false, not, ◌&&◌, nat_lt, List}
use Rattle.std.specs.Prelude.{[], ◌∷◌, ◌++◌, count_by, drop, length, map, get_or, slice_get, slice_index, slice_set, Option, Some, None, refl}
use Rattle.std.proofs.Common.{sym, ◌∙◌, ap, subst, ⊎_elim, arith, length-set, get_or-set_same, get_or-set_other}
use Rattle.std.proofs.lemmas.List.{length-drop, map-append, append-nil}
use Rattle.std.proofs.lemmas.Option.{get_or_from_slice_get}
use Rattle.std.proofs.lemmas.Bool.Decides.{nat_tests}
use Rattle.rl_word.specs.laws.Places.{get_set_cases, get_set_same, get_set_other, get_map, map_set, set_same_get, some_at, one_at, same_or_not}
use Rattle.rl_word.specs.declared.acts.Atom.{Atom}
use Rattle.rl_model.specs.declared.call.Call.{Call}
use Rattle.rl_step.specs.declared.events.Event.{Event}
use Rattle.rl_step.specs.declared.tallies.Steps.{Steps}
use Rattle.rl_step.specs.Answers.{counted, steps_made}
use Rattle.rl_step.specs.Do.{do_got}
use Rattle.rl_step.specs.Lock.{Deed}
use Rattle.rl_site.specs.Opens.{IsOpen}
use Rattle.rl_core.specs.Asks.{block_shard, place_after, is_update_on}
use Rattle.rl_core.specs.laws.AskLaws.{NextBlock, next_of_blocks, size_is, block_is, block_at, stands_at}
use Rattle.rl_core.specs.Desks.{Desk, IsDesk, OpensBlock, Turns}
use Rattle.rl_core.specs.RankGood.{RankGood}
use Rattle.rl_core.specs.laws.RankLaws.{closed_all, all_done, block_fits, rank_opens, rank_turns}
use Rattle.rl_core.specs.ShardTables.{ShardTable}
use Rattle.rl_core.specs.ShardLaws.{LawsOf, MayOpen, IsSeated, IsDeskOf, ShardCoreLaws}
use Rattle.rl_core.specs.Moments.{CoreSays}
use Rattle.rl_machine.specs.Running.{ShardRun, Running, moment_of}
use Rattle.rl_machine.specs.ShardSteps.{numbered, opened_at, opened_on, makes, made_at, atom_on, deeds_to, deeds_at, deeds_on, desk_at, desk_on, open_at, open_on}
use Rattle.rl_step.specs.Traces.{events_of}
use Rattle.rl_machine.specs.Run.{desks_by, changed, changed_if, on_shard, calls_by, sizes_by, place_of, has_open_call}
use Rattle.rl_machine.specs.Run.{opens, opened_if, block_opened, atom_answer, atom_made, stepped, run_of, AreThere}
use Rattle.rl_machine.specs.laws.RunActs.{acts_with, atom_acts, step_acts, run_acts}
use Rattle.rl_machine.specs.MachineGood.{IsShardOf, MachineGood}
use Rattle.rl_machine.specs.EventOrder.{AreTold}
use Rattle.rl_machine.specs.laws.EventOrderLaws.{told_more, told_then}
use Rattle.rl_machine.specs.laws.ReplayLaws.{counts_one}

-- the events of a step, without their numbers, stand at the end
events-numbered : (n : ℕ) (es : List Event) → events_of (numbered n es) ≡ es
events-numbered n [] = refl
events-numbered n (e ∷ es) = ap (λ z. e ∷ z) (events-numbered n es)

pub events-more : (t : List (ℕ × Event)) (n : ℕ) (es : List Event) → events_of (t ++ numbered n es) ≡ events_of t ++ es
events-more t n es = map-append (λ e. e.1) t (numbered n es) ∙ ap (λ z. events_of t ++ z) (events-numbered n es)

-- what holds of a rank's desk on a shard holds of each desk
pub fine_desk : {V : Type 0} (T : ShardTable V) (r : ℕ) (d : Desk) → IsDeskOf T.site r d → IsDesk d
fine_desk T r d is = record { in_order = is.own.in_order; owing = is.owing }

-- a block is opened only where none is open and one is left
pub not_open : (b left : Bool) → (not b && left) ≡ true → b ≡ false
not_open false left e = refl
not_open true left e = cc

is_left : (b left : Bool) → (not b && left) ≡ true → left ≡ true
is_left false left e = e
is_left true left e = cc

index_map : {X : Type 0} (f : X → ℕ) (l : List X) (k : ℕ) (d : X) → f d ≡ 0 → slice_index (map f l) k ≡ f (get_or l k d)
index_map f [] k d e = sym e
index_map f (x ∷ l) zero d e = refl
index_map f (x ∷ l) (suc k) d e = index_map f l k d e

-- an atom, or none, leaves the lock and the other ranks' views
made_table : {V : Type 0} (S : ShardRun V) (k step : ℕ) (x : V) (o : Option Atom) → (makes S k step x o).table ≡ S.table
made_table S k step x None = refl
made_table S k step x (Some at) = refl

made_length : {V : Type 0} (S : ShardRun V) (k step : ℕ) (x : V) (o : Option Atom) → length (makes S k step x o).views ≡ length S.views
made_length S k step x None = refl
made_length S k step x (Some at) = length-set S.views k (S.table.core.after x (do_got at S.held.words S.held.cards)).view

-- what is said of a core, with this table, which is its own
abbrev pub said_by : {V : Type 0} → CoreSays V → ShardTable V → CoreSays V
said_by S T = record S { table = T }

module _ {C V : Type 0} (says : C → CoreSays V) (laws : LawsOf says) (cores : List C) where
  abbrev Fine : List (List Deed) → Running V → Type 0
  Fine acts m = MachineGood says cores acts m

  -- a shard with its core, its acts and what is true of it
  pub record Found (acts : List (List Deed)) (m : Running V) (s : ℕ) : Type 0 where
    pub shard : ShardRun V
    pub core : C
    pub deeds : List Deed
    pub has : slice_get m.shards s ≡ Some shard
    pub has_core : slice_get cores s ≡ Some core
    pub has_acts : slice_get acts s ≡ Some deeds
    pub is : IsShardOf says m.geom m.calls s core deeds shard

  pub found_at : (acts : List (List Deed)) (m : Running V) (s : ℕ) → Fine acts m → s < length m.shards → Found acts m s
  found_at acts m s g h =
      let S = some_at m.shards s h in
      let c = some_at cores s (let a = g.all in omega arith) in
      let d = some_at acts s (let a = g.all in let b = g.all_acts in omega arith) in
      record { shard = S.0; core = c.0; deeds = d.0; has = S.1; has_core = c.1; has_acts = d.1; is = g.shards s S.0 c.0 d.0 S.1 c.1 d.1 }

  -- the laws of its lock
  pub laws_of : (core : C) (T : ShardTable V) → T ≡ (says core).table → ShardCoreLaws (said_by (says core) T)
  laws_of core T is = subst (λ z. ShardCoreLaws (said_by (says core) z)) (sym is) (laws core)

  -- where it has no block open by its view, it has none open at its desk; and a rank that isn't there has none
  pub open_desk : (core : C) (acts : List Deed) (S : ShardRun V) (k : ℕ) → S.table ≡ (says core).table → (says core).good (moment_of S acts) →
      (o : Option V) → slice_get S.views k ≡ o → (desk_at S.table S.held.words k o).is_open ≡ open_at S.table o
  open_desk core acts S k is g None has = refl
  open_desk core acts S k is g (Some x) has = (laws_of core S.table is).knows_open (moment_of S acts) k x (record { is_good = g; has = has })

  -- the desks of a rank where one shard changed
  desks_set : (m : Running V) (j s : ℕ) (S' : ShardRun V) → map (desk_on j) (slice_set m.shards s S') ≡ slice_set (desks_by m j) s (desk_on j S')
  desks_set m j s S' = map_set (desk_on j) m.shards s S'

  desks_stay : (m : Running V) (j s : ℕ) (S S' : ShardRun V) → slice_get m.shards s ≡ Some S → desk_on j S' ≡ desk_on j S → map (desk_on j) (slice_set m.shards s S') ≡ desks_by m j
  desks_stay m j s S S' has same = desks_set m j s S' ∙ ap (slice_set (desks_by m j) s) same ∙ set_same_get (desks_by m j) s (desk_on j S) (get_map (desk_on j) m.shards s S has)

  -- one shard changed
  changes : (acts : List (List Deed)) (m : Running V) (g : Fine acts m) (s : ℕ) (f : Found acts m s) (S' : ShardRun V) (ds : List Deed) (opened : List ℕ) (steps : Steps) →
      steps_made m.steps ≤ steps_made steps → AreTold (steps_made steps) S'.trace → S'.table ≡ f.shard.table →
      length S'.views ≡ length f.shard.views →
      (says f.core).good (moment_of S' ds) → length opened ≡ length m.opened →
      ((k : ℕ) → k < length m.calls → place_after m.geom (calls_by m k) (slice_index opened k) < length m.shards) →
      ((k : ℕ) → k < length m.calls → RankGood m.geom (calls_by m k) (sizes_by m k) (slice_index opened k) (map (desk_on k) (slice_set m.shards s S')) k) →
      Fine (slice_set acts s ds) (record { shards = slice_set m.shards s S'; geom = m.geom; calls = m.calls; sizes = m.sizes; opened = opened; steps = steps })
  changes acts m g s f S' ds opened steps later told lock views is_good many stands ranks =
      record {
        all = length-set m.shards s S' ∙ g.all;
        all_acts = length-set acts s ds ∙ g.all_acts;
        many = length-set m.shards s S' ∙ g.many;
        shards = λ i T c d getT getC getD. ⊎_elim
            (λ q.
            let same_core : f.core ≡ c = one_at cores s f.core c f.has_core (ap (slice_get cores) (sym q.0) ∙ getC) in
            let same_acts : ds ≡ d = one_at (slice_set acts s ds) s ds d (get_set_same acts s f.deeds ds f.has_acts) (ap (slice_get (slice_set acts s ds)) (sym q.0) ∙ getD) in
            let here : IsShardOf says m.geom m.calls s f.core ds S' =
            record { table_is = lock ∙ f.is.table_is; geom_is = f.is.geom_is; shard_is = f.is.shard_is; rooms_are = f.is.rooms_are; ranks = views ∙ f.is.ranks; is_good = is_good } in
            subst (λ z. IsShardOf says m.geom m.calls z c d T) (sym q.0)
            (subst (λ z. IsShardOf says m.geom m.calls s c d z) (sym q.1)
            (subst (λ z. IsShardOf says m.geom m.calls s c z S') same_acts
            (subst (λ z. IsShardOf says m.geom m.calls s z ds S') same_core here))))
            (λ q. g.shards i T c d q.1 getC (sym (get_set_other acts s i ds q.0) ∙ getD))
            (get_set_cases m.shards s i S' T getT);
        told = λ i T getT. ⊎_elim (λ q. subst (λ z. AreTold (steps_made steps) z.trace) (sym q.1) told)
            (λ q. told_more (steps_made m.steps) (steps_made steps) T.trace later (g.told i T q.1)) (get_set_cases m.shards s i S' T getT);
        all_opened = many ∙ g.all_opened;
        few = g.few;
        blocks = g.blocks;
        takes = g.takes;
        stands = λ k h. subst (λ n. place_after m.geom (calls_by m k) (slice_index opened k) < n) (sym (length-set m.shards s S')) (stands k h);
        ranks = ranks;
      }

  -- the machine with this block of rank k opened
  abbrev opened_with : Running V → ℕ → List Call → ℕ → Running V
  opened_with m k block s =
      record {
        shards = changed m.shards s (opened_on k block (slice_index m.opened k));
        geom = m.geom;
        calls = m.calls;
        sizes = m.sizes;
        opened = slice_set m.opened k (slice_index m.opened k + length block);
        steps = m.steps;
      }

  -- rank k opens its next block: the block, its shard with the rank's view there, and that the block may be opened there
  pub record OpensAt (acts : List (List Deed)) (m : Running V) (k : ℕ) : Type 0 where
    pub left : slice_index m.opened k < length (calls_by m k)
    pub rank : RankGood m.geom (calls_by m k) (sizes_by m k) (slice_index m.opened k) (desks_by m k) k
    pub next : NextBlock m.geom (drop (slice_index m.opened k) (calls_by m k)) (drop (slice_index m.opened k) (sizes_by m k))
    pub done : rank.done ≡ slice_index m.opened k
    pub closed : (d : Desk) → slice_get (desks_by m k) (place_of m k) ≡ Some d → d.is_open ≡ false
    pub found : Found acts m next.is_block.shard
    pub view : V
    pub has_view : slice_get found.shard.views k ≡ Some view
    pub shut : (found.shard.table.own view).is_open ≡ false
    pub none : found.shard.table.core.next view ≡ None
    pub fits : MayOpen found.shard.table k view next.block (slice_index m.opened k)

  pub opens_at : (acts : List (List Deed)) (m : Running V) (k : ℕ) → Fine acts m → k < length m.calls → opens m k ≡ true → OpensAt acts m k
  opens_at acts m k g h e =
      let n : ℕ = slice_index m.opened k in
      let calls : List Call = calls_by m k in
      let left_test : nat_lt n (length calls) ≡ true = is_left (has_open_call m k) (nat_lt n (length calls)) e in
      let left : n < length calls = grind (arith, nat_tests) in
      let shut : has_open_call m k ≡ false = not_open (has_open_call m k) (nat_lt n (length calls)) e in
      let r : RankGood m.geom calls (sizes_by m k) n (desks_by m k) k = g.ranks k h in
      let f0 : Found acts m (place_of m k) = found_at acts m (place_of m k) g (g.stands k h) in
      let here : slice_get (desks_by m k) (place_of m k) ≡ Some (desk_on k f0.shard) = get_map (desk_on k) m.shards (place_of m k) f0.shard f0.has in
      let shut0 : (desk_on k f0.shard).is_open ≡ false =
      open_desk f0.core f0.deeds f0.shard k f0.is.table_is f0.is.is_good (slice_get f0.shard.views k) refl ∙ sym (ap (on_shard false (open_on k)) f0.has) ∙ shut in
      let closed : (d : Desk) → slice_get (desks_by m k) (place_of m k) ≡ Some d → d.is_open ≡ false =
      λ d e. ap (λ (z : Desk). z.is_open) (one_at (desks_by m k) (place_of m k) d (desk_on k f0.shard) e here) ∙ shut0 in
      let done : r.done ≡ n = all_done m.geom calls (sizes_by m k) k n (desks_by m k) r closed (desk_on k f0.shard) here in
      let b : NextBlock m.geom (drop n calls) (drop n (sizes_by m k)) = next_of_blocks m.geom (drop n calls) (drop n (sizes_by m k)) r.rest (omega (arith, length-drop n calls)) in
      let s : ℕ = b.is_block.shard in
      let f : Found acts m s = found_at acts m s g (let t = b.is_block.there in let a = g.many in omega arith) in
      let S : ShardRun V = f.shard in
      let T : ShardTable V = S.table in
      let lawful = laws_of f.core T f.is.table_is in
      let view = some_at S.views k (let a = f.is.ranks in omega arith) in
      let x : V = view.0 in
      let seat : IsSeated (said_by (says f.core) T) (moment_of S f.deeds) k x = record { is_good = f.is.is_good; has = view.1 } in
      let desk : slice_get (desks_by m k) s ≡ Some (T.desk S.held.words k x) = get_map (desk_on k) m.shards s S f.has ∙ ap (λ o. Some (desk_at T S.held.words k o)) view.1 in
      let shut_desk : (T.desk S.held.words k x).is_open ≡ false = closed_all m.geom calls (sizes_by m k) k n (desks_by m k) r closed s (T.desk S.held.words k x) desk in
      let shut_own : (T.own x).is_open ≡ false = sym (lawful.knows_open (moment_of S f.deeds) k x seat) ∙ shut_desk in
      let fits : IsOpen T.site k b.block n (T.desk S.held.words k x).kept =
      block_fits m.geom calls (sizes_by m k) k n (desks_by m k) r b done closed T.site (T.desk S.held.words k x) desk
      (ap (λ z. z.site.geom) f.is.table_is ∙ f.is.geom_is) (ap (λ z. z.site.shard) f.is.table_is ∙ f.is.shard_is)
      (let many : slice_index T.site.rooms k ≡ count_by (is_update_on m.geom s) calls = ap (λ z. slice_index z.site.rooms k) f.is.table_is
      ∙ ap (λ z. slice_index z k) f.is.rooms_are ∙ index_map (count_by (is_update_on m.geom s)) m.calls k [] refl in omega arith) (g.few k) in
      record {
        left = left;
        rank = r;
        next = b;
        done = done;
        closed = closed;
        found = f;
        view = x;
        has_view = view.1;
        shut = shut_own;
        none = (lawful.open_is (moment_of S f.deeds) k x seat).1 shut_own;
        fits = record {
          shut = shut_own;
          fits = subst (λ (d : Desk). IsOpen T.site k b.block n d.kept) (lawful.settled (moment_of S f.deeds) k x seat shut_own) fits;
          takes = λ none.
              let one : slice_index (sizes_by m k) n ≤ 1 = g.takes s f.core f.has_core (sym (ap (λ (z : ShardTable V). z.batches) f.is.table_is) ∙ none) k n in
              let size : slice_index (sizes_by m k) n ≡ length b.block = size_is m.geom calls (sizes_by m k) n b in
              let some : 1 ≤ length b.block = b.is_block.is_asked.some in omega arith;
        };
      }

  open_good_at : (acts : List (List Deed)) (m : Running V) (k : ℕ) → Fine acts m → k < length m.calls → (b : Bool) → opens m k ≡ b → Fine acts (opened_if m k b)
  open_good_at acts m k g h false e = g
  open_good_at acts m k g h true e =
      let o : OpensAt acts m k = opens_at acts m k g h e in
      let n : ℕ = slice_index m.opened k in
      let calls : List Call = calls_by m k in
      let r : RankGood m.geom calls (sizes_by m k) n (desks_by m k) k = o.rank in
      let b : NextBlock m.geom (drop n calls) (drop n (sizes_by m k)) = o.next in
      let s : ℕ = b.is_block.shard in
      let f : Found acts m s = o.found in
      let S : ShardRun V = f.shard in
      let T : ShardTable V = S.table in
      let lawful = laws_of f.core T f.is.table_is in
      let x : V = o.view in
      let y : V = T.opened b.block n x in
      let S' : ShardRun V = opened_at S k b.block n (Some x) in
      let seat : IsSeated (said_by (says f.core) T) (moment_of S f.deeds) k x = record { is_good = f.is.is_good; has = o.has_view } in
      let is_good : (says f.core).good (moment_of S' f.deeds) = lawful.open_keeps (moment_of S f.deeds) k x b.block n seat o.fits in
      let desk : slice_get (desks_by m k) s ≡ Some (T.desk S.held.words k x) = get_map (desk_on k) m.shards s S f.has ∙ ap (λ u. Some (desk_at T S.held.words k u)) o.has_view in
      let now : desk_on k S' ≡ T.desk S.held.words k y = ap (desk_at T S.held.words k) (get_set_same S.views k x y o.has_view) in
      let opens_block : OpensBlock b.block n (T.desk S.held.words k x) (T.desk S.held.words k y) = lawful.opens_told (moment_of S f.deeds) k x b.block n seat o.fits in
      let mine : RankGood m.geom calls (sizes_by m k) (n + length b.block) (map (desk_on k) (slice_set m.shards s S')) k =
      subst (λ z. RankGood m.geom calls (sizes_by m k) (n + length b.block) z k) (sym (desks_set m k s S' ∙ ap (slice_set (desks_by m k) s) now))
      (rank_opens m.geom calls (sizes_by m k) k n (desks_by m k) r b o.done o.closed (T.desk S.held.words k x) (T.desk S.held.words k y) desk opens_block) in
      let opened : List ℕ = slice_set m.opened k (n + length b.block) in
      let at_k : slice_index opened k ≡ n + length b.block = get_or-set_same m.opened k (n + length b.block) 0 (let a = g.all_opened in omega arith) in
      let at_j : (j : ℕ) → j ≢ k → slice_index opened j ≡ slice_index m.opened j = λ j ne. get_or-set_other m.opened k j (n + length b.block) 0 ne in
      let whole : Fine (slice_set acts s f.deeds) (record { shards = slice_set m.shards s S'; geom = m.geom; calls = m.calls; sizes = m.sizes; opened = opened; steps = m.steps }) =
      changes acts m g s f S' f.deeds opened m.steps (omega arith) (g.told s S f.has) refl (length-set S.views k y) is_good (length-set m.opened k (n + length b.block))
      (λ j low. ⊎_elim
      (λ (q : j ≡ k). subst (λ z. place_after m.geom (calls_by m z) (slice_index opened z) < length m.shards) (sym q)
      (subst (λ z. place_after m.geom calls z < length m.shards) (sym at_k)
      (subst (λ z. z < length m.shards) (sym (stands_at m.geom calls (sizes_by m k) n b)) (let t = b.is_block.there in let a = g.many in omega arith))))
      (λ (q : j ≢ k). subst (λ z. place_after m.geom (calls_by m j) z < length m.shards) (sym (at_j j q)) (g.stands j low))
      (same_or_not j k))
      (λ j low. ⊎_elim
      (λ (q : j ≡ k). subst (λ z. RankGood m.geom (calls_by m z) (sizes_by m z) (slice_index opened z) (map (desk_on z) (slice_set m.shards s S')) z) (sym q)
      (subst (λ z. RankGood m.geom calls (sizes_by m k) z (map (desk_on k) (slice_set m.shards s S')) k) (sym at_k) mine))
      (λ (q : j ≢ k). subst (λ z. RankGood m.geom (calls_by m j) (sizes_by m j) z (map (desk_on j) (slice_set m.shards s S')) j) (sym (at_j j q))
      (subst (λ z. RankGood m.geom (calls_by m j) (sizes_by m j) (slice_index m.opened j) z j)
      (sym (desks_stay m j s S S' f.has (ap (desk_at T S.held.words j) (get_set_other S.views k j y q)))) (g.ranks j low)))
      (same_or_not j k)) in
      let same_acts : slice_set acts s f.deeds ≡ acts = set_same_get acts s f.deeds f.has_acts in
      let same_shards : changed m.shards s (opened_on k b.block n) ≡ slice_set m.shards s S' =
      ap (changed_if m.shards s (opened_on k b.block n)) f.has ∙ ap (λ o. slice_set m.shards s (opened_at S k b.block n o)) o.has_view in
      let same : opened_if m k true ≡ record { shards = slice_set m.shards s S'; geom = m.geom; calls = m.calls; sizes = m.sizes; opened = opened; steps = m.steps } =
      ap (λ block. opened_with m k block (block_shard m.geom block)) (block_is m.geom calls (sizes_by m k) n b) ∙ ap (opened_with m k b.block) (block_at m.geom calls (sizes_by m k) n b)
      ∙ ap (λ shards. record { shards = shards; geom = m.geom; calls = m.calls; sizes = m.sizes; opened = opened; steps = m.steps }) same_shards in
      subst (Fine acts) (sym same)
      (subst (λ z. Fine z (record { shards = slice_set m.shards s S'; geom = m.geom; calls = m.calls; sizes = m.sizes; opened = opened; steps = m.steps })) same_acts whole)

  pub block_good : (acts : List (List Deed)) (m : Running V) (k : ℕ) → Fine acts m → k < length m.calls → Fine acts (block_opened m k)
  block_good acts m k g h = open_good_at acts m k g h (opens m k) refl

  -- where no block is opened or one is, the calls stay
  pub opened_calls : (m : Running V) (k : ℕ) (b : Bool) → (opened_if m k b).calls ≡ m.calls
  opened_calls m k false = refl
  opened_calls m k true = refl

  module _ (acts : List (List Deed)) (m : Running V) (k : ℕ) (g : Fine acts m) (h : k < length m.calls) where
    -- an atom of a rank keeps all that is true of its shard, and turns the desks of all ranks there
    module _ (f : Found acts m (place_of m k)) (x : V) (view : slice_get f.shard.views k ≡ Some x) where
      abbrev after : Option Atom → ShardRun V
      after o = makes f.shard k (steps_made m.steps) x o

      made_good : (o : Option Atom) → f.shard.table.core.next x ≡ o → (says f.core).good (moment_of (after o) (f.deeds ++ deeds_to f.shard x o))
      made_good None e = subst (λ ds. (says f.core).good (moment_of f.shard ds)) (sym (append-nil f.deeds)) f.is.is_good
      made_good (Some at) e =
          let S : ShardRun V = f.shard in
          let seat : IsSeated (said_by (says f.core) S.table) (moment_of S f.deeds) k x = record { is_good = f.is.is_good; has = view } in
          subst (λ t. (says f.core).good (record (moment_of (after (Some at)) (f.deeds ++ deeds_to S x (Some at))) { trace = t }))
          (sym (events-more S.trace (steps_made m.steps) (S.table.core.after x (do_got at S.held.words S.held.cards)).events))
          ((laws_of f.core S.table f.is.table_is).atom_keeps (moment_of S f.deeds) k x at (record { seated = seat; next = e }))

      -- its events are the last
      made_told : (o : Option Atom) → f.shard.table.core.next x ≡ o → AreTold (steps_made (counted (atom_answer m k) m.steps)) (after o).trace
      made_told None e =
          told_more (steps_made m.steps) (steps_made (counted (atom_answer m k) m.steps)) f.shard.trace
          (let one = counts_one (atom_answer m k) m.steps in omega arith) (g.told (place_of m k) f.shard f.has)
      made_told (Some at) e =
          let S : ShardRun V = f.shard in
          let seat : IsSeated (said_by (says f.core) S.table) (moment_of S f.deeds) k x = record { is_good = f.is.is_good; has = view } in
          subst (λ n. AreTold n (after (Some at)).trace) (sym (counts_one (atom_answer m k) m.steps))
          (told_then (steps_made m.steps) S.trace (S.table.core.after x (do_got at S.held.words S.held.cards)).events (g.told (place_of m k) S f.has)
          ((laws_of f.core S.table f.is.table_is).orders (moment_of S f.deeds) k x at (record { seated = seat; next = e })).0)

      made_rank : (o : Option Atom) → f.shard.table.core.next x ≡ o → (j : ℕ) → j < length m.calls →
          RankGood m.geom (calls_by m j) (sizes_by m j) (slice_index m.opened j) (map (desk_on j) (slice_set m.shards (place_of m k) (after o))) j
      made_rank None e j low = subst (λ z. RankGood m.geom (calls_by m j) (sizes_by m j) (slice_index m.opened j) z j) (sym (desks_stay m j (place_of m k) f.shard f.shard f.has refl)) (g.ranks j low)
      made_rank (Some at) e j low =
          let s : ℕ = place_of m k in
          let S : ShardRun V = f.shard in
          let S' : ShardRun V = after (Some at) in
          let T : ShardTable V = S.table in
          let lawful = laws_of f.core T f.is.table_is in
          let ds : List Deed = f.deeds ++ deeds_to S x (Some at) in
          let fine = made_good (Some at) e in
          let seat : IsSeated (said_by (says f.core) T) (moment_of S f.deeds) k x = record { is_good = f.is.is_good; has = view } in
          let u = some_at S.views j (let a = f.is.ranks in omega arith) in
          let w = some_at S'.views j (let a = f.is.ranks in let b = length-set S.views k (T.core.after x (do_got at S.held.words S.held.cards)).view in omega arith) in
          let old : slice_get (desks_by m j) s ≡ Some (T.desk S.held.words j u.0) = get_map (desk_on j) m.shards s S f.has ∙ ap (λ o. Some (desk_at T S.held.words j o)) u.1 in
          let new : desk_on j S' ≡ T.desk S'.held.words j w.0 = ap (desk_at T S'.held.words j) w.1 in
          let shard_is : T.site.shard ≡ s = ap (λ z. z.site.shard) f.is.table_is ∙ f.is.shard_is in
          subst (λ z. RankGood m.geom (calls_by m j) (sizes_by m j) (slice_index m.opened j) z j) (sym (desks_set m j s S' ∙ ap (slice_set (desks_by m j) s) new))
          (rank_turns m.geom (calls_by m j) (sizes_by m j) j (slice_index m.opened j) (desks_by m j) s (T.desk S.held.words j u.0) (T.desk S'.held.words j w.0) (g.ranks j low) old
          (subst (λ z. Turns z j (T.desk S.held.words j u.0) (T.desk S'.held.words j w.0)) shard_is
          (lawful.turns_told (moment_of S f.deeds) k x at (record { seated = seat; next = e }) j u.0 w.0 u.1 w.1))
          (fine_desk T j (T.desk S'.held.words j w.0) (lawful.told_desk (moment_of S' ds) j w.0 (record { is_good = fine; has = w.1 }))) (g.few j))

    pub atom_good : Fine (atom_acts acts m k) (atom_made m k)
    atom_good =
        let s : ℕ = place_of m k in
        let step : ℕ = steps_made m.steps in
        let f : Found acts m s = found_at acts m s g (g.stands k h) in
        let S : ShardRun V = f.shard in
        let view = some_at S.views k (let a = f.is.ranks in omega arith) in
        let x : V = view.0 in
        let S' : ShardRun V = made_at S k step (Some x) in
        let ds : List Deed = f.deeds ++ deeds_at S (Some x) in
        let whole : Fine (slice_set acts s ds)
        (record { shards = slice_set m.shards s S'; geom = m.geom; calls = m.calls; sizes = m.sizes; opened = m.opened; steps = counted (atom_answer m k) m.steps }) =
        changes acts m g s f S' ds m.opened (counted (atom_answer m k) m.steps) (let one = counts_one (atom_answer m k) m.steps in omega arith) (made_told f x view.1 (S.table.core.next x) refl)
        (made_table S k step x (S.table.core.next x)) (made_length S k step x (S.table.core.next x)) (made_good f x view.1 (S.table.core.next x) refl) refl g.stands
        (made_rank f x view.1 (S.table.core.next x) refl) in
        let same_shards : changed m.shards s (atom_on k step) ≡ slice_set m.shards s S' =
        ap (changed_if m.shards s (atom_on k step)) f.has ∙ ap (λ o. slice_set m.shards s (made_at S k step o)) view.1 in
        let same_acts : atom_acts acts m k ≡ slice_set acts s ds =
        ap (λ o. acts_with acts s (on_shard [] (deeds_on k) o)) f.has ∙ ap (λ o. acts_with acts s (deeds_at S o)) view.1
        ∙ ap (λ z. slice_set acts s (z ++ deeds_at S (Some x))) (get_or_from_slice_get acts s f.deeds [] f.has_acts) in
        subst (λ z. Fine z (atom_made m k)) (sym same_acts)
        (subst (λ z. Fine (slice_set acts s ds) (record { shards = z; geom = m.geom; calls = m.calls; sizes = m.sizes; opened = m.opened; steps = counted (atom_answer m k) m.steps }))
        (sym same_shards) whole)

  -- a step, and a whole run
  pub stepped_good : (acts : List (List Deed)) (m : Running V) (k : ℕ) → Fine acts m → k < length m.calls → Fine (step_acts acts m k) (stepped m k)
  stepped_good acts m k g h = atom_good acts (block_opened m k) k (block_good acts m k g h) (subst (λ c. k < length c) (sym (opened_calls m k (opens m k))) h)

  pub stepped_calls : (m : Running V) (k : ℕ) → (stepped m k).calls ≡ m.calls
  stepped_calls m k = opened_calls m k (opens m k)

  pub run_good : (acts : List (List Deed)) (m : Running V) (ks : List ℕ) → Fine acts m → AreThere (length m.calls) ks → Fine (run_acts acts m ks) (run_of m ks)
  run_good acts m [] g there = g
  run_good acts m (k ∷ ks) g there = run_good (step_acts acts m k) (stepped m k) ks (stepped_good acts m k g there.0) (subst (λ c. AreThere (length c) ks) (sym (stepped_calls m k)) there.1)
