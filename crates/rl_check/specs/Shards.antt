-- The tests of a shard's part of a report.
use Rattle.std.specs.Prelude.{◌≡◌, ℕ, ◌+◌, Bool, true, false, List, length, take, Some}
use Rattle.std.specs.FinMap as finite
use Rattle.rl_step.specs.declared.events.Event.{Event}
use Rattle.rl_step.specs.Exclusion.{IsExclusive}
use Rattle.rl_step.specs.LockQueues.{spares_gets}
use Rattle.rl_step.specs.QueuePromises.{KeepBudgets}
use Rattle.rl_step.specs.Queues.{QueueOf}
use Rattle.rl_journal.specs.Blocks.{is_last}
use Rattle.rl_journal.specs.Tenures.{AreTallied}
use Rattle.rl_model.specs.declared.entry.Entry.{Entry}
use Rattle.rl_model.specs.declared.geom.Geom.{Geom}
use Rattle.rl_model.specs.Table.{Table}
use Rattle.rl_place.specs.LockWords.{name_of}
use Rattle.rl_place.specs.Places.{ThePlace}
use Rattle.rl_report.specs.Reports.{TheShard}
use Rattle.rl_report.specs.Tallies.{tallies_from}
use Rattle.rl_step.specs.Traces.{events_of}
use Rattle.rl_report.specs.Lawful.{queues_at}
use Rattle.rl_check.specs.Entries.{before, updates_before, table_before, IsOfShard, EntryIsInOrder, IsInBatch, IsAtPlace, HasReply}
use Rattle.rl_check.specs.Tests.{Tests, one, ◌and_then◌, each, at_place}
use Rattle.rl_check.specs.declared.illegal.Test.{Test}
use Rattle.rl_check.specs.declared.illegal.Test.TheVariants as test

-- ---- entry by entry

-- the tests of the entry at a place
abbrev pub entry_tests : Geom → ℕ → List Entry → ℕ → Tests Test
entry_tests geom shard entries p =
    one test.Shard (IsOfShard entries p geom shard)
    and_then one test.Order (EntryIsInOrder entries p)
    and_then one test.Batch (IsInBatch entries p)
    and_then one test.At (IsAtPlace entries p)
    and_then one test.Reply (HasReply entries p geom)

abbrev pub entries_tests : Geom → ℕ → List Entry → Tests (ℕ × Test)
entries_tests geom shard entries = each (length entries) (λ p. at_place p (entry_tests geom shard entries p))

-- ---- behind the entries

-- the last entry, if there is one, leaves no batch begun
abbrev pub NoneIsBegun : List Entry → Type 0
NoneIsBegun entries = (d : Entry) → before entries (length entries) ≡ Some d → is_last d ≡ true

-- the tallies of a run keep the budgets in all, and count the tenures; those of a replay count its events
abbrev pub TalliesHold : ThePlace → Bool → ℕ → TheShard → Type 0
TalliesHold place false home S = AreTallied (queues_at place home) (spares_gets (name_of place.lock)) S.entries S.queues
TalliesHold place true home S = S.queues ≡ tallies_from 0 (length S.queues) (events_of S.events)

-- the pairs of a run are the table after all entries, by rising key; a replay has none
abbrev pub PairsHold : Bool → TheShard → Table → Type 0
PairsHold false S table = S.pairs ≡ finite.entries table
PairsHold true S table = Unit {0}

-- as many updates are told as there are
abbrev pub UpdatesHold : TheShard → Type 0
UpdatesHold S = S.updates ≡ updates_before S.entries (length S.entries)

-- no writer was ever beside another holder, and no queue with a budget was passed more often than that between two settlements
pub record KeepsRules (queues : List QueueOf) (trace : List Event) : Type 0 where
  pub exclusive : IsExclusive trace
  pub budgets : KeepBudgets queues trace

-- the rules are kept so far as each event
abbrev pub event_tests : List QueueOf → List (ℕ × Event) → Tests (ℕ × Test)
event_tests queues events = each (length events) (λ p. at_place p (one test.Events (KeepsRules queues (events_of (take (p + 1) events)))))

-- with this said of tallies and pairs
abbrev pub tests_behind : Type 0 → Type 0 → List QueueOf → TheShard → Tests (ℕ × Test)
tests_behind tallies pairs queues S =
    at_place (length S.entries) (one test.Tally tallies and_then one test.Pairs pairs) and_then event_tests queues S.events

-- ---- all of them

-- of a shard with this home, whose entries leave this table
module _ (place : ThePlace) (replay : Bool) (shard home : ℕ) (S : TheShard) where
  abbrev pub part_tests : Table → Tests (ℕ × Test)
  part_tests table = tests_behind (TalliesHold place replay home S) (PairsHold replay S table) (queues_at place home) S

  abbrev pub shard_tests : Tests (ℕ × Test)
  shard_tests =
      entries_tests place.geom shard S.entries
      and_then at_place (length S.entries) (one test.Batch (NoneIsBegun S.entries) and_then one test.Updates (UpdatesHold S))
      and_then part_tests (table_before place.geom S.entries (length S.entries))
