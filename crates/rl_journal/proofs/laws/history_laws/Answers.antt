-- Each law of a history, by its proof.
use Rattle.rl_journal.specs.laws.HistoryLaws.{replayed}
use Rattle.rl_journal.specs.laws.HistoryPlaces.{places_told}
use Rattle.rl_journal.specs.laws.HistoryCounts.{same_entries}
use Rattle.rl_journal.specs.laws.HistorySorted.{history_sorted}
use Rattle.rl_journal.specs.laws.HistoryParts.{updates_are, rank_is}
use Rattle.rl_journal.proofs.laws.history_laws.Goals as goal

pub returns-clause-replayed : goal.returns-clause-replayed
returns-clause-replayed c = replayed

pub returns-clause-places : goal.returns-clause-places
returns-clause-places c = places_told

pub returns-clause-entries : goal.returns-clause-entries
returns-clause-entries c = λ geom journal ts test. same_entries test geom journal ts

pub returns-clause-sorted : goal.returns-clause-sorted
returns-clause-sorted c = history_sorted

pub returns-clause-updates : goal.returns-clause-updates
returns-clause-updates c = updates_are

pub returns-clause-ranks : goal.returns-clause-ranks
returns-clause-ranks c = rank_is
