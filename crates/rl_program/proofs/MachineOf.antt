-- The machine at the end of a replay is one of its placement and its calls.
use Rattle.std.proofs.Common.{◌≡◌, ℕ, ◌+◌, ◌≤◌, List, [], ◌∷◌, length, map, Some, refl, sym, ap, subst, ◌∙◌, arith, length-append}
use Rattle.std.specs.Prelude.{slice_get, sum_by}
use Rattle.std.proofs.lemmas.List.{length-replicate}
use Rattle.std.proofs.lemmas.Option.{same_Some, slice_get_within}
use Rattle.rl_word.specs.laws.Places.{get_map, get_map_back, some_at}
use Rattle.rl_word.specs.Shapes.{TheShape}
use Rattle.rl_word.specs.declared.locks.LockName.{LockName}
use Rattle.rl_word.specs.declared.shapes.Knobs.{Knobs}
use Rattle.rl_step.specs.Answers.{steps_made}
use Rattle.rl_step.specs.LockQueues.{queues_of, lock_under, cohorts_of}
use Rattle.rl_place.specs.LockWords.{name_of}
use Rattle.rl_place.specs.Places.{ThePlace}
use Rattle.rl_place.specs.Shapes.{shape_of, knobs_of}
use Rattle.rl_ops.specs.declared.ops.Ops.{Ops}
use Rattle.rl_ops.specs.declared.schedule.Schedule.{Schedule}
use Rattle.rl_ops.specs.declared.schedule.Turn.{Turn}
use Rattle.rl_ops.specs.declared.schedule.Turn.TheVariants as turn
use Rattle.rl_ops.specs.Schedule.{ScheduleFits, steps_of}
use Rattle.rl_site.specs.Site.{Site}
use Rattle.rl_core.specs.ShardTables.{ShardTable}
use Rattle.rl_report.proofs.QueueLaws.{under_queues}
use Rattle.rl_machine.specs.Running.{ShardRun, Running}
use Rattle.rl_machine.specs.Run.{stepped, run_of, ranks_of_turns, turn_ranks, steps_in}
use Rattle.rl_machine.specs.Start.{site_of, start_of}
use Rattle.rl_machine.specs.laws.StartLaws.{shard_first}
use Rattle.rl_machine.specs.laws.ReplayLaws.{stepped_one}
use Rattle.rl_program.specs.Replay.{AreCohortsOf, IsMachineOf}
use Rattle.rl_program.proofs.CohortLaws.{cohorts_by}
use Rattle.rl_program.proofs.KeptLaws.{each_shard}
use Rattle.rl_machine.specs.laws.Alike.{table_in, IsAlike, run_alike, steps_are}

-- a run makes as many steps as it has
run_counts : {V : Type 0} (m : Running V) (ks : List ℕ) → steps_made (run_of m ks).steps ≡ steps_made m.steps + length ks
run_counts m [] = omega arith
run_counts m (k ∷ ks) = let one = (stepped_one m k).0 in let on = run_counts (stepped m k) ks in omega arith

turn_long : (t : Turn) → length (turn_ranks t) ≡ steps_of t
turn_long (turn.Steps rank count) = length-replicate count rank
turn_long (turn.Stop rank) = refl

ranks_long : (turns : List Turn) → length (ranks_of_turns turns) ≡ steps_in turns
ranks_long [] = refl
ranks_long (t ∷ ts) = let one = turn_long t in let on = ranks_long ts in let both = length-append (turn_ranks t) (ranks_of_turns ts) in omega arith

module _ {V : Type 0} (defined : TheShape → ℕ → Knobs → Site → ShardTable V) (name : LockName) (has_queues : (shape : TheShape) (home : ℕ) (knobs : Knobs) (site : Site) → (defined shape home knobs site).queues ≡ queues_of name shape home knobs)
    (place : ThePlace) (ops : Ops) (schedule : Schedule) (kind : name ≡ lock_under (name_of place.lock)) (has_cohorts : (shape : TheShape) (home : ℕ) (knobs : Knobs) (site : Site) → (defined shape home knobs site).cohort ≡ cohorts_of name) (fits : ScheduleFits (length place.paths) schedule) where
  abbrev first : Running V
  first = start_of defined (shape_of place) (knobs_of place.lock) place.geom place.homes ops

  abbrev last : Running V
  last = run_of first (ranks_of_turns schedule.turns)

  alike : IsAlike last first
  alike = run_alike first (ranks_of_turns schedule.turns)

  abbrev table_on : ℕ → Site → ShardTable V
  table_on home site = defined (shape_of place) home (knobs_of place.lock) site

  all : length last.shards ≡ length place.homes
  all = each_shard defined place ops schedule

  -- the table of a shard is that which is defined so
  table_is : (s home : ℕ) (S : ShardRun V) → slice_get place.homes s ≡ Some home → slice_get last.shards s ≡ Some S → S.table ≡ table_on home (site_of place.geom ops.by_rank (0 + s))
  table_is s home S has_home get =
      let at : slice_get (map table_in first.shards) s ≡ Some S.table = ap (λ z. slice_get z s) (sym alike.tables) ∙ get_map table_in last.shards s S get in
      let back = get_map_back table_in first.shards s S.table at in
      let q = shard_first table_on (shape_of place).nodes place.geom ops.by_rank 0 place.homes s back.0 back.1 in
      let same : q.0 ≡ home = same_Some _ _ (sym q.1 ∙ has_home) in
      sym back.2 ∙ ap table_in q.2 ∙ ap (λ h. table_on h (site_of place.geom ops.by_rank (0 + s))) same

  few : steps_made last.steps ≤ 2000000
  few =
      let counts = run_counts first (ranks_of_turns schedule.turns) in
      let long = ranks_long schedule.turns in
      let steps = steps_are schedule.turns in
      let most : sum_by steps_of schedule.turns ≤ 2000000 = fits.few in
      omega arith

  pub machine_of : IsMachineOf place ops last
  machine_of =
      record {
        geom = alike.geom;
        calls = alike.calls;
        sizes = alike.sizes;
        all = all;
        queues = λ s home S has_home get.
            ap (λ z. z.queues) (table_is s home S has_home get) ∙ has_queues (shape_of place) home (knobs_of place.lock) (site_of place.geom ops.by_rank (0 + s))
            ∙ ap (λ l. queues_of l (shape_of place) home (knobs_of place.lock)) kind ∙ under_queues (name_of place.lock) (shape_of place) home (knobs_of place.lock);
        cohorts = λ s S get.
            let home = some_at place.homes s (let h = slice_get_within last.shards s S get in let a = all in omega arith) in
            let named = ap (λ z. z.cohort) (table_is s home.0 S home.1 get) ∙ has_cohorts (shape_of place) home.0 (knobs_of place.lock) (site_of place.geom ops.by_rank (0 + s)) ∙ ap cohorts_of kind in
            subst (AreCohortsOf place.lock) (sym named) (cohorts_by place.lock);
        few = few;
      }
