use Rattle.rl_step.specs.declared.events.Standing.TheVariants.{Out}
use Rattle.table_tests.specs.OneRank.{IsAlone}
use Rattle.table_tests.proofs.blocks.gets_and_holds_leave_the_journal_alone.Given as goal

abbrev pub invariant-loop-seq : goal.invariant-loop-seq
invariant-loop-seq g l = IsAlone l.geom 9 l.words Out l.work
