use Rattle.std.proofs.Common.{◌≡◌, replicate}
use Rattle.rl_machine.specs.Running.{running}
use Rattle.rl_machine.specs.Run.{run_of}
use Rattle.rl_drawing.proofs.looking.make_steps.Given as goal

-- so many steps were made
abbrev pub invariant-loop : goal.invariant-loop
invariant-loop g l = running g.C.ShardCore.says l.machine ≡ run_of (running g.C.ShardCore.says l.fn.machine) (replicate l.counter l.rank)
