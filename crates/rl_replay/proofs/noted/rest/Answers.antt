-- A rank that has done all its calls rests for ever.
use Rattle.std.proofs.Common.{subst}
use Rattle.rl_step.specs.declared.events.Stepped.TheVariants.{Finished}
use Rattle.rl_machine.specs.Running.{running}
use Rattle.rl_replay.specs.Rested.{Rested}
use Rattle.rl_replay.specs.laws.RestedLaws.{over_rests, counted_run, keeps_with}
use Rattle.rl_replay.proofs.noted.rest.Goals as goal

pub rest_waiting-requires-clause-rested : goal.rest_waiting-requires-clause-rested
rest_waiting-requires-clause-rested g c = (c.args.rank, subst (Rested g.C.Resting.with_sight (running g.C.ShardCore.says c.args.machine.now) c.args.rank) c.in-Waits.is c.requires.rested)

pub returns-in-Waits-clause-run : goal.returns-in-Waits-clause-run
returns-in-Waits-clause-run g c = λ is. c.rest_waiting.ensures.run is c.args.rank
    (subst (Rested g.C.Resting.with_sight (running g.C.ShardCore.says c.args.machine.now) c.args.rank) c.in-Waits.is c.requires.rested)

pub returns-in-Finished-clause-run : goal.returns-in-Finished-clause-run
returns-in-Finished-clause-run g c = λ _.
    let m = running g.C.ShardCore.says c.args.machine.now in
    let over = subst (Rested g.C.Resting.with_sight m c.args.rank) c.in-Finished.is c.requires.rested in
    counted_run m (running g.C.ShardCore.says c.count_more.new.self) c.args.rank c.args.count Finished (over_rests m c.args.rank over) c.count_more.ensures.counted

pub returns-in-Finished-clause-noted : goal.returns-in-Finished-clause-noted
returns-in-Finished-clause-noted g c =
    keeps_with g.C.Resting.with_sight (running g.C.ShardCore.says c.args.machine.now) (running g.C.ShardCore.says c.count_more.new.self) _ c.count_more.ensures.counted
