-- What is found of a shard's entries.
use Rattle.std.specs.Prelude.{◌≡◌, ℕ, Bool, List, length, Option, Some, None, Result, Ok, Err}
use Rattle.std.specs.FinMap as finite
use Rattle.rl_model.specs.declared.entry.Entry.{Entry}
use Rattle.rl_model.specs.declared.geom.Geom.{Geom}
use Rattle.rl_model.specs.Table.{Table}
use Rattle.rl_journal.specs.Tenures.{AreTallied}
use Rattle.rl_step.specs.Queues.{QueueOf}
use Rattle.rl_step.specs.Traces.{events_of}
use Rattle.rl_report.specs.Reports.{TheShard}
use Rattle.rl_report.specs.Tallies.{tallies_from}
use Rattle.rl_check.specs.Entries.{updates_before}
use Rattle.rl_check.specs.Shards.{entry_tests, entries_tests, tests_behind}
use Rattle.rl_check.specs.Tests.{Tests, IsFirstOf, PassBelow, one, ◌and_then◌, at_place}
use Rattle.rl_check.specs.declared.illegal.Test.{Test}
use Rattle.rl_check.specs.declared.illegal.Test.TheVariants as test

module _ (geom : Geom) (shard : ℕ) (entries : List Entry) where
  -- the first n entries pass all tests
  abbrev pub AreGood : ℕ → Type 0
  AreGood n = PassBelow (λ p. at_place p (entry_tests geom shard entries p)) n

  -- how many updates they have, or the first fault
  abbrev pub FoundAmong : Result ℕ (ℕ × Test) → Type 0
  FoundAmong (Ok n) = IsFirstOf (entries_tests geom shard entries) None × (n ≡ updates_before entries (length entries))
  FoundAmong (Err fault) = IsFirstOf (entries_tests geom shard entries) (Some fault)

-- of a run's shard behind its entries, which leave this table
abbrev pub run_tests : List QueueOf → Bool → TheShard → Table → Tests Test
run_tests queues spares S table =
    one test.Tally (AreTallied queues spares S.entries S.queues) and_then one test.Pairs (S.pairs ≡ finite.entries table)

-- and of a replay's, which has no pairs
abbrev pub replay_tests : List QueueOf → TheShard → Tests (ℕ × Test)
replay_tests queues S = tests_behind (S.queues ≡ tallies_from 0 (length S.queues) (events_of S.events)) (Unit {0}) queues S

-- the test of an event
abbrev pub of_event : Option ℕ → Option (ℕ × Test)
of_event None = None
of_event (Some p) = Some (p, test.Events)
