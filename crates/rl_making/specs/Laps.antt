-- A machine whose ranks take turns, one step each, lap after lap.
use Rattle.std.specs.Prelude.{ℕ, zero, suc, length, Bool, false, ◌||◌, ◌&&◌, nat_lt, slice_index, if◌then◌else◌}
use Rattle.rl_step.specs.Answers.{steps_made}
use Rattle.rl_machine.specs.Running.{Running}
use Rattle.rl_machine.specs.Run.{calls_by, has_open_call, stepped}

module _ {V : Type 0} where
  -- a rank has an open call, or one left
  abbrev pub has_work : Running V → ℕ → Bool
  has_work m rank = has_open_call m rank || nat_lt (slice_index m.opened rank) (length (calls_by m rank))

  -- one of the first ranks has
  abbrev pub any_has_work : Running V → ℕ → Bool
  any_has_work m zero = false
  any_has_work m (suc rank) = any_has_work m rank || has_work m rank

  -- a step may be made where fewer than the most were made
  abbrev pub may_step : ℕ → Running V → Bool
  may_step most m = nat_lt (steps_made m.steps) most

  abbrev pub stepped_if : Bool → Running V → ℕ → Running V
  stepped_if may m rank = if may then stepped m rank else m

  -- the first ranks have taken their turns in order, each a step where one may be made
  abbrev pub turns : ℕ → Running V → ℕ → Running V
  turns most m zero = m
  turns most m (suc rank) = stepped_if (may_step most (turns most m rank)) (turns most m rank) rank

  -- another lap is made where a rank has an open call or one left, and a step may be made: a turn of each rank
  abbrev pub goes_on : ℕ → Running V → Bool
  goes_on most m = any_has_work m (length m.calls) && may_step most m

  abbrev pub next_lap : ℕ → Running V → Running V
  next_lap most m = if goes_on most m then turns most m (length m.calls) else m

  -- the machine after so many laps, or fewer where no other is made
  unfoldable pub laps : ℕ → Running V → ℕ → Running V
  laps most m zero = m
  laps most m (suc n) = next_lap most (laps most m n)

  -- the machine after all laps, where at most so many steps are made: a lap that is made has a step, so there are no more
  -- laps than steps
  abbrev pub all_laps : ℕ → Running V → Running V
  all_laps most m = laps most m most
