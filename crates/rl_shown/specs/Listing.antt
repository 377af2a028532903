-- The listing of a replay: a line for each step of the run.
use Rattle.std.specs.Prelude.{◌≡◌, ℕ, List, [], ◌∷◌, ◌++◌, Bool, true, false, not, ◌&&◌, codes, decimal, if◌then◌else◌}
use Rattle.rl_text.specs.Spelling.{text_of}
use Rattle.rl_step.specs.Answers.{steps_made}
use Rattle.rl_step.specs.declared.events.Standing.{Standing}
use Rattle.rl_step.specs.declared.events.Standing.TheVariants as standing
use Rattle.rl_place.specs.Places.{ThePlace}
use Rattle.rl_place.specs.Shapes.{shape_of, knobs_of}
use Rattle.rl_ops.specs.declared.ops.Ops.{Ops}
use Rattle.rl_ops.specs.declared.schedule.Schedule.{Schedule}
use Rattle.rl_report.specs.Naming.{TheNaming, naming_of}
use Rattle.rl_names.specs.StepWords.{step_words}
use Rattle.rl_core.specs.Moments.{CoreSays}
use Rattle.rl_machine.specs.Running.{Running, TheMachine, running}
use Rattle.rl_machine.specs.Whereabouts.{standing_by}
use Rattle.rl_machine.specs.Run.{stepped, ranks_of_turns}
use Rattle.rl_machine.specs.Start.{start_of}
use Rattle.rl_locks.specs.Kinds.{Defined, lock_kind_of}
use Rattle.rl_inputs.specs.declared.replay.Replay.{Replay}
use Rattle.rl_viewer.specs.declared.asking.Window.{Window}
use Rattle.rl_viewer.specs.Asking.{is_in}
use Rattle.rl_shown.specs.declared.stepping.Scene.{Scene}

-- the line of a step that is in the window
abbrev pub shown : Bool → List (List ℕ) → List (List (List ℕ))
shown b line = if b then line ∷ [] else []

abbrev pub is_out : Standing → Bool
is_out standing.Out = true
is_out standing.Asking = false
is_out standing.Writer = false
is_out standing.Reader = false
is_out standing.Leaving = false

-- `out`, with the step behind which a rank that asked, held or gave back is out of the lock again
abbrev pub out_word : Standing → Standing → List (List ℕ)
out_word before behind = if not (is_out before) && is_out behind then codes "out" ∷ [] else []

module _ {V : Type 0} where
  abbrev pub out_words : Running V → ℕ → List (List ℕ)
  out_words m k = out_word (standing_by m k) (standing_by (stepped m k) k)

  -- `STEP rank RANK ..`: its number is that of the steps made before
  abbrev pub step_line : ThePlace → TheNaming → Running V → ℕ → List (List ℕ)
  step_line place naming m k = decimal (steps_made m.steps) ∷ codes "rank" ∷ decimal k ∷ (step_words place naming m k ++ out_words m k)

  -- a line for the step of each of these ranks, in order, where it is in the window
  abbrev pub step_lines : ThePlace → TheNaming → Window → Running V → List ℕ → List (List (List ℕ))
  step_lines place naming window m [] = []
  step_lines place naming window m (k ∷ ks) = shown (is_in window (steps_made m.steps)) (step_line place naming m k) ++ step_lines place naming window (stepped m k) ks

  -- the lines of a whole replay, for a rank's machine as it is defined
  abbrev pub lines_with : Defined V → ThePlace → Ops → Schedule → Window → List (List (List ℕ))
  lines_with defined place ops schedule window =
      step_lines place (naming_of place) window (start_of defined (shape_of place) (knobs_of place.lock) place.geom place.homes ops) (ranks_of_turns schedule.turns)

-- the line of a machine's next step, by rank k, in a scene; and those of its next steps, by these ranks
module _ {C V : Type 0} (says : C → CoreSays V) where
  abbrev pub scene_line : Scene → TheMachine C V → ℕ → List (List ℕ)
  scene_line scene m k = step_line scene.place.now scene.naming.now (running says m) k

  abbrev pub scene_lines : Scene → TheMachine C V → List ℕ → List (List (List ℕ))
  scene_lines scene m ks = step_lines scene.place.now scene.naming.now scene.window (running says m) ks

-- the first lines: the version, and the lock
abbrev pub head_lines : TheNaming → List (List (List ℕ))
head_lines naming = (codes "rmalock-steps" ∷ codes "2" ∷ []) ∷ (codes "replay" ∷ naming.lock ∷ []) ∷ []

abbrev pub listing_text : TheNaming → List (List (List ℕ)) → List ℕ
listing_text naming lines = text_of (head_lines naming ++ (lines ++ (codes "end" ∷ []) ∷ []))

abbrev pub listing_with : {V : Type 0} → Defined V → ThePlace → Ops → Schedule → Window → List ℕ
listing_with defined place ops schedule window = listing_text (naming_of place) (lines_with defined place ops schedule window)

-- the listing of a replay, whose shards are guarded by the lock of its placement
abbrev pub listing_of : Replay → Window → List ℕ
listing_of replay window = listing_with (lock_kind_of replay.place.lock).defined replay.place replay.ops replay.schedule window

-- a text is exactly that listing
abbrev pub IsListing : Replay → Window → List ℕ → Type 0
IsListing replay window text = text ≡ listing_of replay window
