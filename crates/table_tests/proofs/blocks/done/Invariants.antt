use Rattle.rl_step.specs.declared.events.Standing.TheVariants.{Writer}
use Rattle.table_tests.specs.OneRank.{IsAlone}
use Rattle.table_tests.proofs.blocks.done.Given as goal

abbrev pub invariant-loop-atoms : goal.invariant-loop-atoms
invariant-loop-atoms g l = IsAlone l.geom l.room l.words Writer l.work
