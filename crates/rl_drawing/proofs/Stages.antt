-- What the turns of a stage tell of its machine.
use Rattle.std.proofs.Common.{◌≡◌, ℕ, ◌+◌, ◌-◌, ◌<◌, ◌≤◌, Bool, List, [], ◌∷◌, ◌++◌, length, replicate, refl, sym, ap, subst, ◌∙◌, arith}
use Rattle.std.specs.List.{AllByRecursion}
use Rattle.std.proofs.lemmas.List.{append-nil}
use Rattle.rl_step.specs.Answers.{steps_made}
use Rattle.rl_place.specs.Places.{ThePlace}
use Rattle.rl_ops.specs.declared.ops.Ops.{Ops}
use Rattle.rl_ops.specs.Ops.{OpsFit}
use Rattle.rl_ops.specs.declared.schedule.Turn.{Turn}
use Rattle.rl_ops.specs.declared.schedule.Turn.TheVariants as turn
use Rattle.rl_ops.specs.Schedule.{TurnFits, steps_of}
use Rattle.rl_core.specs.Moments.{CoreSays}
use Rattle.rl_machine.specs.Running.{Running, TheMachine, running}
use Rattle.rl_machine.specs.Run.{stepped, run_of, turn_ranks, ranks_of_turns, steps_in}
use Rattle.rl_machine.specs.laws.ReplayLaws.{stepped_one, run_append}
use Rattle.rl_locks.specs.Kinds.{Defined}
use Rattle.rl_shown.proofs.FrontLaws.{ranks_append, ranks_long}
use Rattle.rl_locks.specs.Runs.{start_with}
use Rattle.rl_drawing.specs.declared.stage.Stage.{Stage}
use Rattle.rl_drawing.specs.declared.looking.Scene.{Scene}
use Rattle.rl_drawing.specs.Leads.{HasCome, SceneFits, OnStage}
use Rattle.rl_drawing.proofs.Leading.{steps_append}

run_counts : {V : Type 0} (m : Running V) (ks : List ℕ) → (steps_made (run_of m ks).steps ≡ steps_made m.steps + length ks) × ((run_of m ks).calls ≡ m.calls)
run_counts m [] = (omega arith, refl)
run_counts m (k ∷ ks) =
    let one = stepped_one m k in
    let more = run_counts (stepped m k) ks in
    (more.0 ∙ ap (λ n. n + length ks) one.0 ∙ omega arith, more.1 ∙ one.1)

pub all_append : {X : Type 0} (P : X → Type 0) (xs ys : List X) → AllByRecursion P xs → AllByRecursion P ys → AllByRecursion P (xs ++ ys)
all_append P [] ys a b = b
all_append P (x ∷ xs) ys a b = (a.0, all_append P xs ys a.1 b)

module _ {V : Type 0} (defined : Defined V) (place : ThePlace) (ops : Ops) where
  -- so many steps were made as the turns have
  pub steps_at : (m : Running V) (x : List Turn) (left : ℕ) → HasCome defined place ops m x left → steps_made m.steps ≡ steps_in x
  steps_at m x left on =
      let are : steps_made m.steps ≡ steps_made (run_of (start_with defined place ops) (ranks_of_turns x)).steps = ap (λ (n : Running V). steps_made n.steps) on.machine in
      let made : steps_made (run_of (start_with defined place ops) (ranks_of_turns x)).steps ≡ 0 + length (ranks_of_turns x) = (run_counts (start_with defined place ops) (ranks_of_turns x)).0 in
      let long = ranks_long x in
      omega (arith, are, made, long)

  -- and the ranks are the placement's
  pub ranks_at : (m : Running V) (x : List Turn) (left : ℕ) → OpsFit (length place.paths) place.geom.shards ops → HasCome defined place ops m x left → length m.calls ≡ length place.paths
  ranks_at m x left fit on =
      ap (λ (n : Running V). length n.calls) on.machine ∙ ap length (run_counts (start_with defined place ops) (ranks_of_turns x)).1 ∙ fit.ranks_there

  pub there_at : (m : Running V) (x : List Turn) (left k : ℕ) → OpsFit (length place.paths) place.geom.shards ops → HasCome defined place ops m x left → k < length place.paths → k < length m.calls
  there_at m x left k fit on there = subst (λ n. k < n) (sym (ranks_at m x left fit on)) there

  -- the machine goes on by the steps of the turns that were added
  pub moved : (m now : Running V) (x y ts : List Turn) (left rest : ℕ) → HasCome defined place ops m x left → HasCome defined place ops now y rest → y ≡ x ++ ts → now ≡ run_of m (ranks_of_turns ts)
  moved m now x y ts left rest old new are =
      let first = start_with defined place ops in
      new.machine ∙ ap (λ z. run_of first (ranks_of_turns z)) are ∙ ap (run_of first) (ranks_append x ts) ∙ run_append first (ranks_of_turns x) (ranks_of_turns ts)
      ∙ ap (λ n. run_of n (ranks_of_turns ts)) (sym old.machine)

  pub moved_by : (m now : Running V) (x y : List Turn) (t : Turn) (left rest : ℕ) → HasCome defined place ops m x left → HasCome defined place ops now y rest → y ≡ x ++ t ∷ [] → now ≡ run_of m (turn_ranks t)
  moved_by m now x y t left rest old new are = moved m now x y (t ∷ []) left rest old new are ∙ ap (run_of m) (append-nil (turn_ranks t))

  -- a turn is added
  pub stage_on : (m now : Running V) (x y : List Turn) (t : Turn) (left rest : ℕ) → HasCome defined place ops m x left → now ≡ run_of m (turn_ranks t) → y ≡ x ++ t ∷ [] → rest + steps_of t ≡ left → TurnFits (length place.paths) t →
      HasCome defined place ops now y rest
  stage_on m now x y t left rest old run are fewer fits =
      let first = start_with defined place ops in
      let long : steps_in y ≡ steps_in x + (steps_of t + 0) = ap steps_in are ∙ steps_append x (t ∷ []) in
      let left_is = old.left_is in
      record {
        machine = run ∙ ap (λ n. run_of n (turn_ranks t)) old.machine ∙ sym (run_append first (ranks_of_turns x) (turn_ranks t))
            ∙ ap (λ ks. run_of first (ranks_of_turns x ++ ks)) (sym (append-nil (turn_ranks t))) ∙ ap (run_of first) (sym (ranks_append x (t ∷ []))) ∙ ap (λ z. run_of first (ranks_of_turns z)) (sym are);
        fit = subst (AllByRecursion (TurnFits (length place.paths))) (sym are) (all_append (TurnFits (length place.paths)) x (t ∷ []) old.fit (fits, tt));
        left_is = omega (arith, long, fewer, left_is);
      }

  -- the machine is made anew from its turns
  pub stage_anew : (m now : Running V) (x y : List Turn) (t : Turn) (left rest : ℕ) → HasCome defined place ops m x left → now ≡ run_of (start_with defined place ops) (ranks_of_turns y) → y ≡ x ++ t ∷ [] → rest + steps_of t ≡ left → TurnFits (length place.paths) t →
      HasCome defined place ops now y rest
  stage_anew m now x y t left rest old run are fewer fits =
      let first = start_with defined place ops in
      stage_on m now x y t left rest old
      (run ∙ ap (λ z. run_of first (ranks_of_turns z)) are ∙ ap (run_of first) (ranks_append x (t ∷ [])) ∙ ap (λ ks. run_of first (ranks_of_turns x ++ ks)) (append-nil (turn_ranks t))
      ∙ run_append first (ranks_of_turns x) (turn_ranks t) ∙ ap (λ n. run_of n (turn_ranks t)) (sym old.machine))
      are fewer fits

  -- no turn yet
  pub stage_first : (m : Running V) → m ≡ start_with defined place ops → HasCome defined place ops m [] 2000000
  stage_first m is = record { machine = is; fit = tt; left_is = omega arith }

-- ---- what a rank's steps ask of the stage, and the stage behind them

module _ {C V : Type 0} (says : C → CoreSays V) (defined : Defined V) (scene : Scene) (s : Stage C V) (on : OnStage says defined scene s) where
  -- so many steps are left on a later stage as there are, but for those of the turns that were added
  pub same_left : (t : Stage C V) → OnStage says defined scene t → t.left + steps_in t.turns ≡ s.left + steps_in s.turns
  same_left t now = now.left_is ∙ sym on.left_is

  -- the machine has the rank; and the steps that were made and those that are left are all that there may be
  pub may_step : {batches : Bool} (k : ℕ) → SceneFits batches scene → k < length scene.place.now.paths → (k < length s.machine.calls) × (s.left + steps_made s.machine.steps ≡ 2000000)
  may_step k fits there = (
    there_at defined scene.place.now scene.ops.now (running says s.machine) s.turns s.left k fits.calls on there,
    ap (λ n. s.left + n) (steps_at defined scene.place.now scene.ops.now (running says s.machine) s.turns s.left on) ∙ on.left_is,
  )

  -- so many steps of rank k were made, and are a turn
  pub steps_on : (now : TheMachine C V) (turns : List Turn) (k made n : ℕ) → running says now ≡ run_of (running says s.machine) (replicate n made) → made ≡ k → turns ≡ s.turns ++ turn.Steps k n ∷ [] → n ≤ s.left →
      k < length scene.place.now.paths → HasCome defined scene.place.now scene.ops.now (running says now) turns (s.left - n)
  steps_on now turns k made n run same are few there =
      let fewer : (s.left - n) + n ≡ s.left = omega (arith, few) in
      let m = running says s.machine in
      stage_on defined scene.place.now scene.ops.now m (running says now) s.turns turns (turn.Steps k n) s.left (s.left - n) on (run ∙ ap (λ j. run_of m (replicate n j)) same) are fewer there
