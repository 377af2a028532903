-- What is reported of a machine.
use Rattle.std.specs.Prelude.{ℕ, ◌+◌, List, [], ◌∷◌, All, filter, length, map, Some}
use Rattle.rl_model.specs.declared.call.Call.{Call}
use Rattle.rl_step.specs.Traces.{events_of}
use Rattle.rl_place.specs.Places.{ThePlace}
use Rattle.rl_report.specs.declared.report.Done.{Done}
use Rattle.rl_report.specs.Naming.{naming_of}
use Rattle.rl_report.specs.Reports.{TheShard, TheReport, ReplyFits, TallyFits}
use Rattle.rl_report.specs.Spelling.{is_printed}
use Rattle.rl_report.specs.Tallies.{tallies_from}
use Rattle.rl_machine.specs.Running.{ShardRun, Running}
use Rattle.rl_machine.specs.Run.{done_of}
use Rattle.rl_machine.specs.Promises.{shard_journal, history_on}

-- how many queues a placement's lock has
abbrev pub queue_count : ThePlace → ℕ
queue_count place = length (naming_of place).queues

module _ {V : Type 0} where
  -- the part of a shard: its history, the tally of each of its queues, and what happened on it but for touches
  abbrev pub part_of_replay : ℕ → ShardRun V → TheShard
  part_of_replay queues S =
      record {
        updates = length (shard_journal S);
        entries = history_on S;
        queues = tallies_from 0 queues (events_of S.trace);
        pairs = [];
        events = filter (λ e. is_printed e.1) S.trace;
      }

  -- how many of its calls each rank has done, from a rank on
  abbrev pub dones_from : Running V → ℕ → List (List Call) → List Done
  dones_from m rank [] = []
  dones_from m rank (calls ∷ lists) = record { done = done_of m rank; given = length calls } ∷ dones_from m (rank + 1) lists

  -- what is reported of a machine whose locks have so many queues
  abbrev pub report_in : ℕ → Running V → TheReport
  report_in queues m = record { shards = map (part_of_replay queues) m.shards; done = dones_from m 0 m.calls; steps = Some m.steps }

-- the numbers of a part are in their ranges
pub record NumbersFit (part : TheShard) : Type 0 where
  pub replies : All (λ e. ReplyFits e.reply) part.entries
  pub tallies : All TallyFits part.queues
