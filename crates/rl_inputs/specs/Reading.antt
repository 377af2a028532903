-- How the files of a replay are read, one after the other: the first that is too long or refused ends it. Reading a file gives a value, or the
-- line that refuses the file.
use Rattle.std.specs.Prelude.{◌≡◌, ℕ, ◌&&◌, not, Bool, true, false, List, [], ◌∷◌, length, codes, nat_le, Option, Some, None, Result, Ok, Err, if◌then◌else◌}
use Rattle.rl_text.specs.declared.causes.Refusal.{Refusal}
use Rattle.rl_text.specs.declared.failing.TextErr.{TextErr}
use Rattle.rl_text.specs.declared.failing.TextErr.TheVariants as text
use Rattle.rl_text.specs.Spelling.{line_text, refusal_words}
use Rattle.rl_step.specs.LockQueues.{does_batches}
use Rattle.rl_place.specs.LockWords.{name_of}
use Rattle.rl_place.specs.Places.{ThePlace}
use Rattle.rl_place.specs.Reading.{place_at}
use Rattle.rl_ops.specs.declared.ops.Ops.{Ops}
use Rattle.rl_ops.specs.declared.schedule.Schedule.{Schedule}
use Rattle.rl_ops.specs.ScheduleReading.{schedule_at}
use Rattle.rl_ops.specs.OpsReading.{ops_at}
use Rattle.rl_ops.specs.Ops.{has_batch}
use Rattle.rl_inputs.specs.declared.stop.Stop.{Stop}
use Rattle.rl_inputs.specs.declared.stop.Stop.TheVariants as stop

-- one step after the other: the first line that refuses a file ends it
infixl 10 ◌>>=◌
abbrev pub ◌>>=◌ : {A B : Type 0} → Result A (List ℕ) → (A → Result B (List ℕ)) → Result B (List ℕ)
(Ok x) >>= f = f x
(Err line) >>= f = Err line

-- `refused NAME LINE WORD WHY`: a file is refused for the first fault of its text
abbrev pub refused_at : List ℕ → Refusal → List ℕ
refused_at name refusal = line_text (codes "refused" ∷ name ∷ refusal_words refusal)

-- `refused NAME 0 0 CAUSE`: it is refused as a whole
abbrev pub refused_whole : List ℕ → List ℕ → List ℕ
refused_whole name cause = line_text (codes "refused" ∷ name ∷ codes "0" ∷ codes "0" ∷ cause ∷ [])

-- the bytes of a file of this name that isn't longer than a file of its kind may be
abbrev pub within : List ℕ → ℕ → List ℕ → Result (List ℕ) (List ℕ)
within name most bytes = if nat_le (length bytes) most then Ok bytes else Err (refused_whole name (codes "toolong"))

-- a refusal is one of the file of this name
abbrev pub refused_in : {X : Type 0} → List ℕ → Result X Refusal → Result X (List ℕ)
refused_in name (Ok x) = Ok x
refused_in name (Err refusal) = Err (refused_at name refusal)

-- calls that the placement's lock can do: flat combining does no batches
abbrev pub SuitsLock : ThePlace → Ops → Type 0
SuitsLock place ops = does_batches (name_of place.lock) ≡ false → has_batch ops ≡ false

-- calls with a batch are refused where the lock does none
abbrev pub as_done : List ℕ → ThePlace → Ops → Result Ops (List ℕ)
as_done name place ops = if not (does_batches (name_of place.lock)) && has_batch ops then Err (refused_whole name (codes "word")) else Ok ops

-- the placement, the calls and the schedule of a replay, each from the name of its file and the bytes
unfoldable pub placed : List ℕ → List ℕ → Result ThePlace (List ℕ)
placed name bytes = within name 4194304 bytes >>= λ text. refused_in name (place_at text)

unfoldable pub called : List ℕ → ThePlace → List ℕ → Result Ops (List ℕ)
called name place bytes = within name 4194304 bytes >>= λ text. refused_in name (ops_at (length place.paths) place.geom.shards text) >>= as_done name place

unfoldable pub scheduled : List ℕ → ThePlace → List ℕ → Result Schedule (List ℕ)
scheduled name place bytes = within name 16777216 bytes >>= λ text. refused_in name (schedule_at (length place.paths) text)

-- ---- how far the reading has come

-- what ends the reading is this line, unless memory ran out
abbrev pub IsRefusal : Stop → List ℕ → Type 0
IsRefusal (stop.Refused told) line = told.items ≡ line
IsRefusal stop.Fault line = ⊥
IsRefusal stop.Memory line = Unit {0}

-- what the reader of a text gave in place of a value ends the reading of the file of this name so
abbrev pub IsStoppedBy : List ℕ → TextErr → Stop → Type 0
IsStoppedBy name (text.Refused refusal) why = IsRefusal why (refused_at name refusal)
IsStoppedBy name text.Memory why = why ≡ stop.Memory

-- the source failed
abbrev pub stopped_by_fault : Stop → Bool
stopped_by_fault (stop.Refused line) = false
stopped_by_fault stop.Fault = true
stopped_by_fault stop.Memory = false

-- what ended early ended by this line, or by a fault or for want of memory, which say nothing of it
abbrev pub EndsEarly : {Y : Type 0} → Stop → Result Y (List ℕ) → Type 0
EndsEarly (stop.Refused line) told = told ≡ Err line.items
EndsEarly stop.Fault told = Unit {0}
EndsEarly stop.Memory told = Unit {0}

-- what a function returned is what this gives, unless it ended early by a fault or for want of memory
abbrev pub Ends : {X Y : Type 0} → (X → Y) → Result X Stop → Result Y (List ℕ) → Type 0
Ends view (Ok x) told = told ≡ Ok (view x)
Ends view (Err why) told = EndsEarly why told

-- a file has these bytes, where the source tells them
abbrev pub Fits : Option (List ℕ) → List ℕ → Type 0
Fits None bytes = Unit {0}
Fits (Some told) bytes = told ≡ bytes

-- a file was read, with these bytes, and it came to what reading them gives
pub record WasRead {X Y : Type 0} (told : Option (List ℕ)) (view : X → Y) (reading : List ℕ → Result Y (List ℕ)) (result : Result X Stop) : Type 0 where
  pub bytes : List ℕ
  pub fits : Fits told bytes
  pub ends : Ends view result (reading bytes)
