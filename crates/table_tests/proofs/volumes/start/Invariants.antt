use Rattle.std.proofs.Common.{◌≡◌, take}
use Rattle.rl_volume.specs.Volume.{start_words}
use Rattle.table_tests.proofs.volumes.start.Given as goal

abbrev pub invariant-loop-word : goal.invariant-loop-word
invariant-loop-word l = l.words.items ≡ take l.word (start_words l.geom)
