use Rattle.rl_step.specs.declared.events.Standing.TheVariants.{Out}
use Rattle.table_tests.specs.OneRank.{IsAlone}
use Rattle.table_tests.proofs.blocks.six_calls_on_one_bucket_and_one_cell.Given as goal

abbrev pub invariant-loop-seq : goal.invariant-loop-seq
invariant-loop-seq g l = IsAlone l.geom 6 l.words Out l.work
