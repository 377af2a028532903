-- How a drawing goes on: where its machine stands, and what its turns lead to.
use Rattle.std.specs.Prelude.{◌≡◌, ℕ, ◌+◌, ◌≤◌, ◌<◌, List, [], ◌∷◌, ◌++◌, length, Bool, true, false, Option, Some, None, Result, Ok, Err}
use Rattle.std.specs.List.{AllByRecursion}
use Rattle.rl_step.specs.LockQueues.{does_batches}
use Rattle.rl_place.specs.LockWords.{name_of}
use Rattle.rl_place.specs.Places.{ThePlace, IsProper}
use Rattle.rl_ops.specs.declared.ops.Ops.{Ops}
use Rattle.rl_ops.specs.Ops.{OpsFit}
use Rattle.rl_ops.specs.declared.schedule.Turn.{Turn}
use Rattle.rl_ops.specs.declared.schedule.Turn.TheVariants as turn
use Rattle.rl_ops.specs.declared.schedule.TheConstants.{MOST_STEPS}
use Rattle.rl_ops.specs.Schedule.{TurnFits, steps_of}
use Rattle.rl_report.specs.Naming.{naming_of}
use Rattle.rl_inputs.specs.Reading.{SuitsLock}
use Rattle.rl_core.specs.Moments.{CoreSays}
use Rattle.rl_machine.specs.Running.{Running, TheMachine, running}
use Rattle.rl_machine.specs.Run.{run_of, ranks_of_turns, steps_in}
use Rattle.rl_locks.specs.Kinds.{Defined}
use Rattle.rl_drawing.specs.declared.stage.Halt.{Halt}
use Rattle.rl_drawing.specs.declared.stage.Halt.TheVariants.{Never, Memory}
use Rattle.rl_drawing.specs.declared.stage.Stage.{Stage}
use Rattle.rl_drawing.specs.declared.looking.Scene.{Scene}
use Rattle.rl_drawing.specs.declared.looking.Sought.{Sought}
use Rattle.rl_drawing.specs.declared.looking.Sought.TheVariants as sought
use Rattle.rl_drawing.specs.declared.courses.Each.{Each}
use Rattle.rl_drawing.specs.declared.courses.Each.TheVariants as each
use Rattle.rl_drawing.specs.Sights.{shows, ends_calls}
use Rattle.rl_sketch.specs.declared.sketch.Ranks.{Ranks}
use Rattle.rl_sketch.specs.declared.sketch.Ranks.TheVariants.{All, These}
use Rattle.rl_sketch.specs.declared.sketch.Sight.{Sight}
use Rattle.rl_sketch.specs.declared.sketch.Sight.TheVariants as sight
use Rattle.rl_sketch.specs.declared.sketch.Course.{Course}
use Rattle.rl_sketch.specs.declared.sketch.Course.TheVariants as course
use Rattle.rl_sketch.specs.declared.sketch.SketchLine.{SketchLine}
use Rattle.rl_locks.specs.Runs.{start_with}
use Rattle.rl_drawing.specs.Drawing.{IsFirst, IsUntil, IsBefore, AreOfLine, AreOfLines, IsNever}

-- what is looked at fits together: the names are the placement's, and the calls are of its ranks, and suit its lock
pub record SceneFits (batches : Bool) (scene : Scene) : Type 0 where
  pub proper : IsProper scene.place.now
  pub names : scene.naming.now ≡ naming_of scene.place.now
  pub as_named : batches ≡ does_batches (name_of scene.place.now.lock)
  pub calls : OpsFit (length scene.place.now.paths) scene.place.now.geom.shards scene.ops.now
  pub suits : SuitsLock scene.place.now scene.ops.now

-- a drawing has come so far: the machine has made the steps of its turns, which are of ranks that are there, and so many are left
pub record HasCome {V : Type 0} (defined : Defined V) (place : ThePlace) (ops : Ops) (m : Running V) (turns : List Turn) (left : ℕ) : Type 0 where
  pub machine : m ≡ run_of (start_with defined place ops) (ranks_of_turns turns)
  pub fit : AllByRecursion (TurnFits (length place.paths)) turns
  pub left_is : left + steps_in turns ≡ MOST_STEPS

module _ {V : Type 0} (place : ThePlace) where
  -- the step of rank k shows what is looked for
  abbrev pub sees : Sought → Running V → ℕ → Bool
  sees (sought.Shown sight) m k = shows place sight.now m k
  sees sought.Over m k = ends_calls m k

  -- a turn is one of a rank that does this
  abbrev pub IsOf : Each → Running V → ℕ → Turn → Type 0
  IsOf (each.Steps count) m k t = t ≡ turn.Steps k count
  IsOf (each.Until what) m k t = IsUntil (sees what) m k t
  IsOf (each.Before what) m k t = IsBefore (sees what) m k t
  IsOf each.Stop m k t = t ≡ turn.Stop k

-- `all until done`
abbrev pub is_done : Sight → Bool
is_done (sight.Words text) = false
is_done sight.Done = true
is_done sight.Out = false

abbrev pub is_until_done : Course → Bool
is_until_done (course.Steps count) = false
is_until_done (course.Until sight) = is_done sight
is_until_done (course.Before sight) = false
is_until_done (course.InTurn count) = false
is_until_done (course.InTurnUntil sight) = false
is_until_done (course.AtRandom seed count) = false

abbrev pub is_to_the_end : Ranks → Course → Bool
is_to_the_end All c = is_until_done c
is_to_the_end (These list) c = false

-- no turn
abbrev pub IsNone : List Turn → Type 0
IsNone turns = turns ≡ []

-- some turns were added to those that were there, behind which turns of `rest` make turns of `whole`; and each turns of `whole` are these, and behind them turns of `rest`
pub record Leads (whole rest : List Turn → Type 0) (old now : List Turn) : Type 0 where
  pub turns : List Turn
  pub are : now ≡ old ++ turns
  pub on : (more : List Turn) → rest more → whole (turns ++ more)
  pub back : (all : List Turn) → whole all → (more : List Turn) × (all ≡ turns ++ more) × rest more

-- turns were added that are the only ones that are so; or no such turns have as few steps as are left
abbrev pub Adds : {X : Type 0} → (List Turn → Type 0) → ℕ → List Turn → List Turn → Result X Halt → Type 0
Adds whole left old now (Ok done) = Leads whole IsNone old now
Adds whole left old now (Err Never) = (all : List Turn) → whole all → left < steps_in all
Adds whole left old now (Err Memory) = Unit {0}

-- one turn was added that is the only one that is so; or no such turn has as few steps as are left
abbrev pub AddsTurn : {X : Type 0} → (Turn → Type 0) → ℕ → List Turn → List Turn → Result X Halt → Type 0
AddsTurn Is left old now (Ok done) = (t : Turn) × (now ≡ old ++ t ∷ []) × Is t × ((other : Turn) → Is other → other ≡ t)
AddsTurn Is left old now (Err Never) = (t : Turn) → Is t → left < steps_of t
AddsTurn Is left old now (Err Memory) = Unit {0}

-- ---- a stage before, and a stage after

module _ {C V : Type 0} (says : C → CoreSays V) where
  -- the drawing of this scene has come as far as the stage says
  abbrev pub OnStage : Defined V → Scene → Stage C V → Type 0
  OnStage defined scene s = HasCome defined scene.place.now scene.ops.now (running says s.machine) s.turns s.left

  -- the machine of this scene has made these turns, and nothing else
  abbrev pub IsAfter : Defined V → Scene → List Turn → TheMachine C V → Type 0
  IsAfter defined scene turns m = running says m ≡ run_of (start_with defined scene.place.now scene.ops.now) (ranks_of_turns turns)

  -- after so many steps of rank k, and no fewer, its next step would show what is looked for
  abbrev pub IsFirstSeen : Scene → Sought → TheMachine C V → ℕ → ℕ → Type 0
  IsFirstSeen scene what m k n = IsFirst (sees scene.place.now what) (running says m) k n

  -- from the first stage to the second, turns were added that are the only ones that are so of its machine; or no such turns have as few
  -- steps as are left
  abbrev pub Draws : {X : Type 0} → (Running V → List Turn → Type 0) → Stage C V → Stage C V → Result X Halt → Type 0
  Draws Are old now result = Adds (Are (running says old.machine)) old.left old.turns now.turns result

  -- what rank k does, as a turn
  abbrev pub DrawsOne : {X : Type 0} → Scene → Each → ℕ → Stage C V → Stage C V → Result X Halt → Type 0
  DrawsOne scene what k old now result = AddsTurn (IsOf scene.place.now what (running says old.machine) k) old.left old.turns now.turns result

  -- what a line draws, where these ranks were stopped before it
  abbrev pub DrawsLine : {X : Type 0} → Scene → List ℕ → SketchLine → Stage C V → Stage C V → Result X Halt → Type 0
  DrawsLine scene stopped line = Draws (λ m. AreOfLine scene.place.now (length scene.place.now.paths) m stopped line)

-- the turns are those of all lines, and not too many steps; or this is the number of the line that never comes to its end
abbrev pub LinesCome : {V : Type 0} → Defined V → ThePlace → Ops → List SketchLine → List Turn → Option ℕ → Type 0
LinesCome defined place ops lines turns None =
    AreOfLines place (length place.paths) (start_with defined place ops) [] lines turns × AllByRecursion (TurnFits (length place.paths)) turns × (steps_in turns ≤ MOST_STEPS)
LinesCome defined place ops lines turns (Some number) = IsNever place (length place.paths) (start_with defined place ops) lines number
