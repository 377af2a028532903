-- A replay's schedule made complete: further turns by which all calls of all ranks end; and why there is none.
use Rattle.std.specs.Prelude.{◌≡◌, ℕ, ◌+◌, ◌<◌, List, [], ◌∷◌, ◌++◌, codes, decimal, length, position, Bool, true, false, Option, Some, Result, Ok, Err}
use Rattle.std.specs.List.{AllByRecursion}
use Rattle.std.specs.Option.{option_map}
use Rattle.rl_text.specs.Spelling.{line_text}
use Rattle.rl_place.specs.Places.{ThePlace}
use Rattle.rl_place.specs.Shapes.{shape_of, knobs_of}
use Rattle.rl_ops.specs.declared.ops.Ops.{Ops}
use Rattle.rl_ops.specs.declared.schedule.Turn.{Turn}
use Rattle.rl_ops.specs.declared.schedule.Turn.TheVariants as turn
use Rattle.rl_ops.specs.declared.schedule.Schedule.{Schedule}
use Rattle.rl_ops.specs.declared.schedule.TheConstants.{MOST_STEPS}
use Rattle.rl_ops.specs.Ops.{OpsFit}
use Rattle.rl_ops.specs.Schedule.{ScheduleFits, schedule_spelling}
use Rattle.rl_machine.specs.Running.{Running}
use Rattle.rl_machine.specs.Run.{run_of, ranks_of_turns, steps_in}
use Rattle.rl_machine.specs.MachineEnding.{AllDone}
use Rattle.rl_machine.specs.Start.{site_of}
use Rattle.rl_finish.specs.WayOn.{IsWayOn, AreWhole}
use Rattle.rl_locks.specs.Kinds.{Defined, lock_kind_of}
use Rattle.rl_locks.specs.Runs.{machine_after}
use Rattle.rl_locks.specs.Urgencies.{Urgent, urgency_of}
use Rattle.rl_inputs.specs.Reading.{SuitsLock, scheduled}
use Rattle.rl_completed.specs.declared.uncompleted.Reason.{Reason}
use Rattle.rl_completed.specs.declared.uncompleted.Reason.TheVariants.{Stopped, Steps, Bytes}
use Rattle.rl_completed.specs.declared.uncompleted.Uncompleted.{Uncompleted}
use Rattle.rl_completed.specs.declared.uncompleted.Uncompleted.TheVariants.{Refused, Memory}

-- a turn that stops its rank
abbrev pub is_stop : Turn → Bool
is_stop (turn.Steps rank count) = false
is_stop (turn.Stop rank) = true

-- the line of the first of them in a schedule file of these turns: they stand from line 2 on, each in a line of its own
abbrev pub line_of_stop : List Turn → Option ℕ
line_of_stop turns = option_map (λ before. before + 2) (position is_stop turns)

-- it stops nobody
abbrev pub MakesSteps : Turn → Type 0
MakesSteps (turn.Steps rank count) = Unit {0}
MakesSteps (turn.Stop rank) = ⊥

-- the calls and the schedule are of the placement's ranks and suit its lock, and nobody is stopped
abbrev pub MayGoOn : ThePlace → Ops → Schedule → Type 0
MayGoOn place ops given =
    OpsFit (length place.paths) place.geom.shards ops × SuitsLock place ops × ScheduleFits (length place.paths) given × AllByRecursion MakesSteps given.turns

module _ {V : Type 0} (defined : Defined V) (urgent : Urgent V) (place : ThePlace) (ops : Ops) where
  -- how urgently a rank goes on at each shard from one on, where these are their homes
  abbrev pub urgencies_from : ℕ → List ℕ → List (List ℕ → V → Option ℕ)
  urgencies_from s [] = []
  urgencies_from s (home ∷ homes) = urgent (shape_of place) home (knobs_of place.lock) (site_of place.geom ops.by_rank s) ∷ urgencies_from (s + 1) homes

  -- behind these turns whoever goes next makes a step, one after the other: they are these ranks
  abbrev pub GoNext : List Turn → List ℕ → Type 0
  GoNext turns ranks = IsWayOn (λ urgency. urgency) (urgencies_from 0 place.homes) (machine_after defined place ops turns) ranks

  -- A schedule is another one made complete: the given turns stand in front as they were, and behind them those of whoever goes next, no rank is
  -- stopped, all is as in any schedule of the placement, and after it all calls of all ranks are done.
  pub record Completes (given whole : Schedule) : Type 0 where
    pub more : List Turn
    pub behind : whole.turns ≡ given.turns ++ more
    pub next : GoNext given.turns (ranks_of_turns more)
    pub turns : AreWhole more
    pub unstopped : AllByRecursion MakesSteps whole.turns
    pub fits : ScheduleFits (length place.paths) whole
    pub done : AllDone (machine_after defined place ops whole.turns)

  -- A schedule has no room for its way on: as many steps of whoever goes next as it still may have don't end all calls.
  pub record IsTooLong (given : Schedule) : Type 0 where
    pub unstopped : AllByRecursion MakesSteps given.turns
    pub more : List ℕ
    pub next : GoNext given.turns more
    pub full : steps_in given.turns + length more ≡ MOST_STEPS
    pub undone : AllDone (run_of (machine_after defined place ops given.turns) more) → ⊥

  -- what the turns behind a schedule are, or why there are none
  abbrev pub ComeBehind : Schedule → Result (List Turn) Uncompleted → Type 0
  ComeBehind given (Ok more) = Completes given (record { turns = given.turns ++ more })
  ComeBehind given (Err (Refused (Stopped line))) = ⊥
  ComeBehind given (Err (Refused Steps)) = IsTooLong given
  ComeBehind given (Err (Refused Bytes)) = ⊥
  ComeBehind given (Err Memory) = Unit {0}

  -- A text is a schedule made complete: it spells it, and is read as it where it stands in a file, of whatever name.
  pub record IsComplete (given : Schedule) (text : List ℕ) : Type 0 where
    pub whole : Schedule
    pub completes : Completes given whole
    pub spells : text ≡ schedule_spelling whole
    pub again : (name : List ℕ) → scheduled name place text ≡ Ok whole

  -- The schedule that is complete has a text that is too long for a file.
  pub record HasLongText (given : Schedule) : Type 0 where
    pub whole : Schedule
    pub completes : Completes given whole
    pub long : 16777216 < length (schedule_spelling whole)

  -- why there is none
  abbrev pub IsReason : Schedule → Reason → Type 0
  IsReason given (Stopped line) = line_of_stop given.turns ≡ Some line
  IsReason given Steps = IsTooLong given
  IsReason given Bytes = HasLongText given

  abbrev pub IsWhyNot : Schedule → Uncompleted → Type 0
  IsWhyNot given (Refused reason) = IsReason given reason
  IsWhyNot given Memory = Unit {0}

-- under the lock of the placement, by its kind and by how urgently that lets its ranks go on
abbrev pub IsCompleteUnder : ThePlace → Ops → Schedule → List ℕ → Type 0
IsCompleteUnder place = IsComplete (lock_kind_of place.lock).defined (urgency_of place.lock) place

abbrev pub IsWhyNotUnder : ThePlace → Ops → Schedule → Uncompleted → Type 0
IsWhyNotUnder place = IsWhyNot (lock_kind_of place.lock).defined (urgency_of place.lock) place

-- a text isn't given because it is too long for a schedule file, or for want of memory
abbrev pub IsLong : List ℕ → Uncompleted → Type 0
IsLong text (Refused (Stopped line)) = ⊥
IsLong text (Refused Steps) = ⊥
IsLong text (Refused Bytes) = 16777216 < length text
IsLong text Memory = Unit {0}

-- `refused NAME LINE 1 stop`, and the others
abbrev pub reason_words : Reason → List (List ℕ)
reason_words (Stopped line) = decimal line ∷ codes "1" ∷ codes "stop" ∷ []
reason_words Steps = codes "0" ∷ codes "0" ∷ codes "steps" ∷ []
reason_words Bytes = codes "0" ∷ codes "0" ∷ codes "toolong" ∷ []

abbrev pub reason_line : List ℕ → Reason → List ℕ
reason_line name reason = line_text (codes "refused" ∷ name ∷ reason_words reason)
