use Rattle.std.proofs.Common.{subst}
use Rattle.rl_step.specs.declared.events.Standing.TheVariants.{Writer}
use Rattle.table_tests.specs.OneRank.{IsAlone}
use Rattle.rl_work.specs.WorkGood.{standing_after}
use Rattle.table_tests.proofs.AloneLaws.{ended}
use Rattle.table_tests.proofs.blocks.done.Goals as goal

pub returns-then-step : goal.returns-then-step
returns-then-step g c =
    ended c.args.geom c.args.room c.step.new.words c.step.new.work
    (subst (λ b. IsAlone c.args.geom c.args.room c.step.new.words (standing_after b Writer) c.step.new.work) c.if-step.true c.step.ensures)
