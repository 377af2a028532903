-- What a replay makes: the steps of turns, all of them, or some of one.
use Rattle.std.specs.Prelude.{◌≡◌, ℕ, ◌<◌, List, replicate}
use Rattle.rl_ops.specs.declared.schedule.Turn.{Turn}
use Rattle.rl_machine.specs.Running.{Running}
use Rattle.rl_machine.specs.Run.{run_of, ranks_of_turns}

module _ {V : Type 0} where
  -- from m to n by some steps of rank k, fewer than so many
  abbrev pub MadeFewer : Running V → ℕ → ℕ → Running V → Type 0
  MadeFewer m k count n = (made : ℕ) × (made < count) × (n ≡ run_of m (replicate made k))

  -- the machine after all steps of these turns
  abbrev pub run_of_turns : Running V → List Turn → Running V
  run_of_turns m turns = run_of m (ranks_of_turns turns)
