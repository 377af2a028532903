-- A sound run of a placement's lock keeps all that is promised of a replay.
use Rattle.std.proofs.Common.{◌≡◌, ℕ, ◌<◌, List, [], length, get_or, Result, Ok, Err, IfOk, ap, sym, subst, ◌∙◌}
use Rattle.std.proofs.lemmas.List.{length-map}
use Rattle.rl_word.specs.Shapes.{TheShape}
use Rattle.rl_word.specs.declared.shapes.Knobs.{Knobs}
use Rattle.rl_word.specs.declared.locks.LockName.{LockName}
use Rattle.rl_model.specs.declared.geom.Geom.{Geom}
use Rattle.rl_journal.specs.Legal.{IsLegal}
use Rattle.rl_journal.specs.History.{IsReplayedByOneThread}
use Rattle.rl_journal.specs.Ranks.{IsRankInOrder}
use Rattle.rl_step.specs.LockQueues.{lock_under}
use Rattle.rl_report.proofs.QueueLaws.{under_queues}
use Rattle.rl_place.specs.LockWords.{name_of}
use Rattle.rl_place.specs.Places.{ThePlace}
use Rattle.rl_place.specs.Shapes.{shape_of, knobs_of}
use Rattle.rl_ops.specs.declared.ops.Ops.{Ops}
use Rattle.rl_ops.specs.declared.schedule.Schedule.{Schedule}
use Rattle.rl_ops.specs.declared.schedule.Turn.{Turn}
use Rattle.std.specs.FinMap as finite
use Rattle.rl_site.specs.Site.{Site}
use Rattle.rl_core.specs.ShardTables.{ShardTable}
use Rattle.rl_machine.specs.Running.{Running}
use Rattle.rl_core.specs.Asks.{asked_of}
use Rattle.rl_machine.specs.Start.{start_of}
use Rattle.rl_machine.specs.laws.StartLaws.{shards_length}
use Rattle.rl_machine.specs.Run.{calls_by, run_of, ranks_of_turns, done_of, kept_by}
use Rattle.rl_machine.specs.RunTransitions.{EachSays}
use Rattle.rl_machine.specs.Changes.{OnlyWritersChange}
use Rattle.rl_machine.specs.Promises.{shard_journal, transcripts_on, history_on, IsSound, KeepsQueues, EachKeepsQueues}
use Rattle.rl_locks.specs.Kinds.{Defined, Promised}
use Rattle.rl_locks.specs.OnShards.{OfShard, EachShard}
use Rattle.rl_locks.specs.Runs.{start_with, machine_after}
use Rattle.rl_program.specs.Headline.{IsKept}
use Rattle.rl_machine.specs.laws.Alike.{table_in, IsAlike, run_alike}

-- What a machine is made from, by the parts of a placement and a schedule.
module _ {V : Type 0} (defined : Defined V) (place : ThePlace) (ops : Ops) (schedule : Schedule) (shape : TheShape) (knobs : Knobs) (geom : Geom) (homes : List ℕ) (turns : List Turn)
    (shape_is : shape ≡ shape_of place) (knobs_is : knobs ≡ knobs_of place.lock) (geom_is : geom ≡ place.geom) (homes_are : homes ≡ place.homes) (turns_are : turns ≡ schedule.turns) where
  -- the run is that of the placement and the schedule
  pub run_is : run_of (start_of defined shape knobs geom homes ops) (ranks_of_turns turns) ≡ machine_after defined place ops schedule.turns
  run_is =
      let at : TheShape → Knobs → Geom → List ℕ → List Turn → Running V = λ s k g hs ts. run_of (start_of defined s k g hs ops) (ranks_of_turns ts) in
      ap (λ s. at s knobs geom homes turns) shape_is ∙ ap (λ k. at (shape_of place) k geom homes turns) knobs_is ∙ ap (λ g. at (shape_of place) (knobs_of place.lock) g homes turns) geom_is
      ∙ ap (λ hs. at (shape_of place) (knobs_of place.lock) place.geom hs turns) homes_are ∙ ap (λ ts. at (shape_of place) (knobs_of place.lock) place.geom place.homes ts) turns_are

  -- and what a kind of lock says of it
  pub says_is : (promised : Promised) → EachSays promised shape knobs homes (start_of defined shape knobs geom homes ops) (ranks_of_turns turns) →
      EachSays promised (shape_of place) (knobs_of place.lock) place.homes (start_with defined place ops) (ranks_of_turns schedule.turns)
  says_is promised says =
      let at : TheShape → Knobs → Geom → List ℕ → List Turn → Type 0 = λ s k g hs ts. EachSays promised s k hs (start_of defined s k g hs ops) (ranks_of_turns ts) in
      subst (λ ts. at (shape_of place) (knobs_of place.lock) place.geom place.homes ts) turns_are
      (subst (λ hs. at (shape_of place) (knobs_of place.lock) place.geom hs turns) homes_are
      (subst (λ g. at (shape_of place) (knobs_of place.lock) g homes turns) geom_is
      (subst (λ k. at (shape_of place) k geom homes turns) knobs_is (subst (λ s. at s knobs geom homes turns) shape_is says))))

-- A run of a machine that was made from the parts of a placement and a schedule.
pub ran : {V : Type 0} (defined : Defined V) (place : ThePlace) (ops : Ops) (schedule : Schedule) (inside : ThePlace) (shape : TheShape) (knobs : Knobs) (homes : List ℕ) (turns : List Turn) (end : Running V) →
    inside ≡ place → shape ≡ shape_of place → knobs ≡ knobs_of place.lock → homes ≡ inside.homes → turns ≡ schedule.turns → end ≡ run_of (start_of defined shape knobs inside.geom homes ops) (ranks_of_turns turns) → end ≡ machine_after defined place ops schedule.turns
ran defined place ops schedule inside shape knobs homes turns end same shape_is knobs_is homes_are turns_are run =
    run ∙ run_is defined place ops schedule shape knobs inside.geom homes turns shape_is knobs_is (ap (λ (p : ThePlace). p.geom) same) (homes_are ∙ ap (λ (p : ThePlace). p.homes) same) turns_are

-- The queues of a run, by the parts of a placement.
pub keeps_is : {V : Type 0} (name : LockName) (place : ThePlace) (shape : TheShape) (knobs : Knobs) (homes : List ℕ) (m n : Running V) → name ≡ lock_under (name_of place.lock) → shape ≡ shape_of place → knobs ≡ knobs_of place.lock → homes ≡ place.homes →
    m ≡ n → EachKeepsQueues name shape knobs homes m → EachKeepsQueues (name_of place.lock) (shape_of place) (knobs_of place.lock) place.homes n
keeps_is name place shape knobs homes m n named shape_is knobs_is homes_are same keep s home get =
    subst (λ qs. KeepsQueues qs n s) (under_queues (name_of place.lock) (shape_of place) home (knobs_of place.lock)) (under s home get) where
      under : EachKeepsQueues (lock_under (name_of place.lock)) (shape_of place) (knobs_of place.lock) place.homes n
      under =
          subst (λ z. EachKeepsQueues (lock_under (name_of place.lock)) (shape_of place) (knobs_of place.lock) place.homes z) same
          (subst (λ hs. EachKeepsQueues (lock_under (name_of place.lock)) (shape_of place) (knobs_of place.lock) hs m) homes_are
          (subst (λ k. EachKeepsQueues (lock_under (name_of place.lock)) (shape_of place) k homes m) knobs_is
          (subst (λ s. EachKeepsQueues (lock_under (name_of place.lock)) s knobs homes m) shape_is (subst (λ z. EachKeepsQueues z shape knobs homes m) named keep))))

module _ {V : Type 0} (defined : Defined V) (place : ThePlace) (ops : Ops) (schedule : Schedule) where
  abbrev first : Running V
  first = start_with defined place ops

  abbrev last : Running V
  last = machine_after defined place ops schedule.turns

  abbrev table_of : ℕ → Site → ShardTable V
  table_of home = defined (shape_of place) home (knobs_of place.lock)

  alike : IsAlike last first
  alike = run_alike first (ranks_of_turns schedule.turns)

  -- the ranks' calls are those that were given
  pub same_calls : last.calls ≡ ops.by_rank
  same_calls = alike.calls

  -- there are as many shards as homes
  pub each_shard : length last.shards ≡ length place.homes
  each_shard =
      sym (length-map last.shards table_in) ∙ ap length alike.tables ∙ length-map first.shards table_in ∙ shards_length table_of (shape_of place).nodes place.geom ops.by_rank 0 place.homes

  pub is_kept : (promised : Promised) (ways : OfShard V) → IsSound last → OnlyWritersChange last → EachKeepsQueues (name_of place.lock) (shape_of place) (knobs_of place.lock) place.homes last →
      EachSays promised (shape_of place) (knobs_of place.lock) place.homes first (ranks_of_turns schedule.turns) → EachShard ways last → IsKept defined promised ways place ops schedule
  is_kept promised ways sound changes queues further kept =
      let in_order : (k : ℕ) → k < length ops.by_rank → IsRankInOrder place.geom k (asked_of (get_or ops.by_rank k []) (get_or ops.sizes k [])) (done_of last k) (kept_by last k) = λ k low.
      let there : k < length last.calls = subst (λ l. k < length l) (sym alike.calls) low in
      subst (λ geom. IsRankInOrder geom k (asked_of (get_or ops.by_rank k []) (get_or ops.sizes k [])) (done_of last k) (kept_by last k)) alike.geom
      (subst (λ l. IsRankInOrder last.geom k (asked_of (get_or l k []) (get_or ops.sizes k [])) (done_of last k) (kept_by last k)) alike.calls
      (subst (λ l. IsRankInOrder last.geom k (asked_of (calls_by last k) (get_or l k [])) (done_of last k) (kept_by last k)) alike.sizes (sound.order k there))) in
      record {
        exclusive = λ s S has. (sound.shards s S has).exclusive;
        guarded = λ s S has. (sound.shards s S has).guarded;
        changes = changes;
        queues = queues;
        further = further;
        ways = kept;
        replies = λ s S has. subst (λ geom. IsReplayedByOneThread geom finite.empty 0 (history_on S)) alike.geom (sound.shards s S has).replayed;
        legal = λ s S has. subst (λ geom. IsLegal geom (shard_journal S) (transcripts_on S)) alike.geom (sound.shards s S has).legal;
        sorted = λ s S has. (sound.shards s S has).sorted;
        calls = in_order;
      }

-- what holds whatever came of a call holds where it went well
pub where_ok : {X E : Type 0} {P : Type 0} (result : Result X E) → P → IfOk result (λ _. P)
where_ok (Ok x) p = p
where_ok (Err e) p = tt
