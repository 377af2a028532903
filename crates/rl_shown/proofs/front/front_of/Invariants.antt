-- the turns so far, with at most so many steps
use Rattle.std.proofs.Common.{◌≡◌, ℕ, ◌-◌, take}
use Rattle.std.specs.List.{AllByRecursion}
use Rattle.rl_ops.specs.Schedule.{TurnFits}
use Rattle.rl_machine.specs.Run.{ranks_of_turns, steps_in}
use Rattle.rl_shown.proofs.front.front_of.Given as goal

abbrev pub invariant-loop-turn : goal.invariant-loop-turn
invariant-loop-turn l =
    (ranks_of_turns l.front.items ≡ take l.steps (ranks_of_turns (take l.turn-index l.turns))) × (l.left ≡ l.steps - steps_in (take l.turn-index l.turns))
    × ((ranks : ℕ) → AllByRecursion (TurnFits ranks) l.turns → AllByRecursion (TurnFits ranks) l.front.items)
