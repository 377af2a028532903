-- The machine of a placement and calls, for a rank's machine as a kind of lock defines it: at its start, and after turns.
use Rattle.std.specs.Prelude.{List}
use Rattle.rl_place.specs.Places.{ThePlace}
use Rattle.rl_place.specs.Shapes.{shape_of, knobs_of}
use Rattle.rl_ops.specs.declared.ops.Ops.{Ops}
use Rattle.rl_ops.specs.declared.schedule.Turn.{Turn}
use Rattle.rl_machine.specs.Running.{Running}
use Rattle.rl_machine.specs.Start.{start_of}
use Rattle.rl_machine.specs.Run.{run_of, ranks_of_turns}
use Rattle.rl_locks.specs.Kinds.{Defined}

module _ {V : Type 0} where
  -- it has made no step
  abbrev pub start_with : Defined V → ThePlace → Ops → Running V
  start_with defined place ops = start_of defined (shape_of place) (knobs_of place.lock) place.geom place.homes ops

  -- and after these turns
  abbrev pub machine_after : Defined V → ThePlace → Ops → List Turn → Running V
  machine_after defined place ops turns = run_of (start_with defined place ops) (ranks_of_turns turns)
