use Rattle.std.proofs.Common.{◌≡◌, take}
use Rattle.rl_volume.specs.Decision.{words_written}
use Rattle.table_tests.proofs.volumes.make.Given as goal

abbrev pub invariant-loop-write : goal.invariant-loop-write
invariant-loop-write l = l.words ≡ words_written l.fn.words (take l.write-index l.writes)
