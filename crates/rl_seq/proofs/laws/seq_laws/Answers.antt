-- Each law, by its proof.
use Rattle.rl_seq.specs.laws.SeqLaws.{seq_laws}
use Rattle.rl_seq.specs.laws.VersionLaws.{odd_between, writers_odd, never_lowers, no_lower, stands_still, gets_load, reads_few, waits_at, loses_at}
use Rattle.rl_seq.proofs.laws.seq_laws.Goals as goal

pub returns-clause-way : goal.returns-clause-way
returns-clause-way c = seq_laws

pub returns-clause-odd : goal.returns-clause-odd
returns-clause-odd c = odd_between

pub returns-clause-writers : goal.returns-clause-writers
returns-clause-writers c = writers_odd

pub returns-clause-never_lower : goal.returns-clause-never_lower
returns-clause-never_lower c = never_lowers

pub returns-clause-no_lower : goal.returns-clause-no_lower
returns-clause-no_lower c = no_lower

pub returns-clause-still : goal.returns-clause-still
returns-clause-still c = stands_still

pub returns-clause-loads : goal.returns-clause-loads
returns-clause-loads c = gets_load

pub returns-clause-waits : goal.returns-clause-waits
returns-clause-waits c = λ at r x got word value. waits_at at r x.work got word value x.stage

pub returns-clause-loses : goal.returns-clause-loses
returns-clause-loses c = λ at r x got guess seen. loses_at at r x.work got guess seen x.stage

pub returns-clause-few : goal.returns-clause-few
returns-clause-few c = reads_few
