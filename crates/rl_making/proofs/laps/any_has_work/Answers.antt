use Rattle.std.proofs.Common.{sym, ◌∙◌}
use Rattle.rl_machine.specs.Running.{running}
use Rattle.rl_making.proofs.LapLaws.{one_has}
use Rattle.rl_making.proofs.laps.any_has_work.Goals as goal

pub returns-then-has_work : goal.returns-then-has_work
returns-then-has_work g c = sym (one_has (running g.C.ShardCore.says c.args.machine.now) c.args.ranks c.loop-rank.rank c.loop-rank-test.true (sym c.has_work.ensures ∙ c.if-has_work.true))
