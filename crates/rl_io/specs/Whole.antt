-- How a count of faults moves where a call may end by a fault.
use Rattle.std.specs.Prelude.{◌≡◌, ℕ, ◌<◌, Bool, true, false, Result, Ok, Err, MatchBool}
use Rattle.rl_io.specs.declared.whole.ReadErr.{ReadErr}
use Rattle.rl_io.specs.declared.whole.ReadErr.TheVariants.{Fault}

-- the count rose exactly where the answer is an error that this test finds to be a fault
abbrev pub RisesWithFault : {X E : Type 0} → (E → Bool) → Result X E → ℕ → ℕ → Type 0
RisesWithFault is_fault (Ok x) before now = now ≡ before
RisesWithFault is_fault (Err why) before now = MatchBool (is_fault why) (before < now) (now ≡ before)

-- of a file that is read whole: the source failed
abbrev pub is_fault : ReadErr → Bool
is_fault Fault = true
is_fault _ = false
