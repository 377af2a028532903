-- What a step of a rank shows.
use Rattle.std.specs.Prelude.{ℕ, ◌==◌, List, [], ◌∷◌, length, nat_lt, slice_index, Bool, true, false, not, ◌&&◌, ◌||◌}
use Rattle.rl_place.specs.Places.{ThePlace}
use Rattle.rl_report.specs.Naming.{naming_of}
use Rattle.rl_report.specs.Printing.{spaced}
use Rattle.rl_names.specs.StepWords.{step_words}
use Rattle.rl_machine.specs.Running.{Running}
use Rattle.rl_machine.specs.Run.{calls_by, has_open_call, done_of, stepped}
use Rattle.rl_sketch.specs.declared.sketch.Sight.{Sight}
use Rattle.rl_sketch.specs.declared.sketch.Sight.TheVariants as sight

-- a text begins with these bytes, and a word ends behind them
abbrev pub begins_whole : List ℕ → List ℕ → Bool
begins_whole [] [] = true
begins_whole [] (byte ∷ bytes) = byte == 32
begins_whole (sought ∷ more) [] = false
begins_whole (sought ∷ more) (byte ∷ bytes) = (byte == sought) && begins_whole more bytes

-- these bytes stand in a text, where a word ends behind them
abbrev pub stands_in : List ℕ → List ℕ → Bool
stands_in sought [] = begins_whole sought []
stands_in sought (byte ∷ bytes) = begins_whole sought (byte ∷ bytes) || stands_in sought bytes

module _ {V : Type 0} where
  -- the words stand side by side in those of the step of rank k, as a listing has them, each behind a space
  abbrev pub shows_words : ThePlace → List ℕ → Running V → ℕ → Bool
  shows_words place text m k = stands_in (32 ∷ text) (spaced (step_words place (naming_of place) m k))

  -- a call of rank k is done by its step
  abbrev pub does_call : Running V → ℕ → Bool
  does_call m k = not (done_of (stepped m k) k == done_of m k)

  -- no call of rank k is open behind its step
  abbrev pub closes_call : Running V → ℕ → Bool
  closes_call m k = not (has_open_call (stepped m k) k)

  -- the step of rank k in the state m shows the sight
  abbrev pub shows : ThePlace → Sight → Running V → ℕ → Bool
  shows place (sight.Words text) m k = shows_words place text m k
  shows place sight.Done m k = does_call m k
  shows place sight.Out m k = closes_call m k

  -- rank k has no open call, and none left
  abbrev pub is_over : Running V → ℕ → Bool
  is_over m k = not (has_open_call m k) && not (nat_lt (slice_index m.opened k) (length (calls_by m k)))

  -- it has none behind its step
  abbrev pub ends_calls : Running V → ℕ → Bool
  ends_calls m k = is_over (stepped m k) k
