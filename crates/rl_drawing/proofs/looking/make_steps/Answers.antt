-- One step more.
use Rattle.std.proofs.Common.{arith}
use Rattle.rl_machine.specs.Running.{running}
use Rattle.rl_replay.specs.laws.RunLaws.{made_after, there_after, next}
use Rattle.rl_drawing.proofs.looking.make_steps.Goals as goal

pub step-requires-clause-there : goal.step-requires-clause-there
step-requires-clause-there g c =
    there_after (running g.C.ShardCore.says c.args.machine.now) (running g.C.ShardCore.says c.loop.machine) c.loop.counter c.args.rank c.loop.invariant c.requires.there

pub step-requires-clause-few : goal.step-requires-clause-few
step-requires-clause-few g c =
    let made = made_after (running g.C.ShardCore.says c.args.machine.now) (running g.C.ShardCore.says c.loop.machine) c.loop.counter c.args.rank c.loop.invariant in
    let few = c.requires.few in
    omega arith

pub loop-preserved : goal.loop-preserved
loop-preserved g c =
    next (running g.C.ShardCore.says c.args.machine.now) (running g.C.ShardCore.says c.loop.machine) (running g.C.ShardCore.says c.step.new.self)
    c.loop.counter c.args.rank c.loop.invariant c.in_ok-step.ensures.stepped
