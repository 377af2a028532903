-- What is told of a fault: whose it is, where, and by which test.
use Rattle.std.specs.Prelude.{◌≡◌, ℕ, List, codes}
use Rattle.rl_check.specs.declared.illegal.Group.{Group}
use Rattle.rl_check.specs.declared.illegal.Test.{Test}
use Rattle.rl_check.specs.declared.illegal.Test.TheVariants as test
use Rattle.rl_check.specs.declared.illegal.Illegal.{Illegal}
use Rattle.rl_check.specs.Tests.{Tests}

-- the tests of a shard or rank, which is told too
abbrev pub of_group : Group → Tests (ℕ × Test) → Tests Illegal
of_group g T = record { pass = T.pass; fails_at = λ f. (f.group ≡ g) × T.fails_at (f.place, f.test) }

-- the word of a test
abbrev pub test_word : Test → List ℕ
test_word test.Shard = codes "shard"
test_word test.Order = codes "order"
test_word test.Batch = codes "batch"
test_word test.At = codes "at"
test_word test.Reply = codes "reply"
test_word test.Updates = codes "updates"
test_word test.Tally = codes "tally"
test_word test.Pairs = codes "pairs"
test_word test.Events = codes "events"
test_word test.Calls = codes "calls"
test_word test.Fresh = codes "fresh"
test_word test.Done = codes "done"
