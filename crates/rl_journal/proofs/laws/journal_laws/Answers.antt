-- Words that spell a legal journal are read back as it.
use Rattle.rl_journal.specs.laws.ReadBack.{journaled, journal_read}
use Rattle.rl_journal.proofs.laws.journal_laws.Goals as goal

pub returns : goal.returns
returns c = record { read = λ geom shard base words journal legal own agrees. journal_read shard base words journal (journaled geom shard journal legal own) agrees }
