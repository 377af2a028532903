-- Each law of a block, by its proof.
use Rattle.rl_journal.specs.laws.BatchLaws.{undone_where, stopped_stays, unstopped_turns}
use Rattle.rl_journal.proofs.laws.block_laws.Goals as goal

pub returns-clause-undone : goal.returns-clause-undone
returns-clause-undone c = undone_where

pub returns-clause-none : goal.returns-clause-none
returns-clause-none c = stopped_stays

pub returns-clause-all : goal.returns-clause-all
returns-clause-all c = unstopped_turns
