use Rattle.std.proofs.Common.{◌≡◌}
use Rattle.rl_volume.specs.Words.{volume_words}
use Rattle.table_tests.proofs.volumes.what_is_no_volume_ends_the_walk.Given as goal

abbrev pub invariant-loop-call : goal.invariant-loop-call
invariant-loop-call g l = l.seen.room ≡ volume_words l.geom
