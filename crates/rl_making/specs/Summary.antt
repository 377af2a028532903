-- The summary of a machine that made the calls of a generator in laps.
use Rattle.std.specs.Prelude.{ℕ, List, [], ◌∷◌, ◌++◌, length, map, filter, codes, decimal, Bool, true, false, Option, sum_by}
use Rattle.std.specs.List.{enumerate_from}
use Rattle.rl_text.specs.Spelling.{text_of}
use Rattle.rl_model.specs.declared.call.Call.{Call}
use Rattle.rl_model.specs.declared.call.Call.TheVariants.{Get}
use Rattle.rl_step.specs.declared.events.Event.{Event}
use Rattle.rl_step.specs.declared.events.Event.TheVariants.{Settle, Pass}
use Rattle.rl_place.specs.Places.{ThePlace}
use Rattle.rl_ops.specs.declared.ops.Ops.{Ops}
use Rattle.rl_report.specs.declared.report.Done.{Done}
use Rattle.rl_report.specs.Reports.{TheShard, TheReport}
use Rattle.rl_report.specs.Spelling.{steps_lines}
use Rattle.rl_step.specs.declared.tallies.Steps.{Steps}
use Rattle.rl_machine.specs.Running.{Running}
use Rattle.rl_making.specs.declared.counts.ShardCounts.{ShardCounts}
use Rattle.rl_locks.specs.Kinds.{Defined, alock}
use Rattle.rl_locks.specs.Runs.{start_with}
use Rattle.rl_reporting.specs.Reported.{queue_count, report_in}
use Rattle.rl_making.specs.Generate.{made_place, made_ops}
use Rattle.rl_making.specs.Laps.{all_laps}

-- ---- the run

-- what is reported of a placement and calls after laps of at most so many steps, for a rank's machine that is defined so
abbrev pub report_of_laps : {V : Type 0} → Defined V → ThePlace → Ops → ℕ → TheReport
report_of_laps defined place ops most = report_in (queue_count place) (all_laps most (start_with defined place ops))

-- the machine over the placement and the calls that are made from a number, after laps of at most 2,000,000 steps
abbrev pub made_run : ℕ → ℕ → ℕ → Running alock.View
made_run number ranks calls = all_laps 2000000 (start_with alock.defined (made_place ranks) (made_ops number ranks calls))

-- what is reported of it
abbrev pub made_report : ℕ → ℕ → ℕ → TheReport
made_report number ranks calls = report_in (queue_count (made_place ranks)) (made_run number ranks calls)

-- ---- its summary

abbrev pub is_get : Call → Bool
is_get (Get key) = true
is_get _ = false

abbrev pub is_settle : Event → Bool
is_settle (Settle queue member) = true
is_settle _ = false

abbrev pub is_pass : Event → Bool
is_pass (Pass queue member) = true
is_pass _ = false

-- how many gets a shard's history has, and how often its queues were settled and passed, those of both cohorts together
abbrev pub reads_of : TheShard → ℕ
reads_of part = length (filter (λ entry. is_get entry.call) part.entries)

abbrev pub settled_of : TheShard → ℕ
settled_of part = length (filter (λ event. is_settle event.1) part.events)

abbrev pub passed_of : TheShard → ℕ
passed_of part = length (filter (λ event. is_pass event.1) part.events)

-- what the summary tells of a shard
abbrev pub counts_of : TheShard → ShardCounts
counts_of part = record { updates = part.updates; reads = reads_of part; settled = settled_of part; passed = passed_of part }

-- `shard I updates U reads Q settled X passed Y`
abbrev pub shard_words : ℕ × ShardCounts → List (List ℕ)
shard_words shard =
    codes "shard" ∷ decimal shard.0 ∷ codes "updates" ∷ decimal shard.1.updates ∷ codes "reads" ∷ decimal shard.1.reads
    ∷ codes "settled" ∷ decimal shard.1.settled ∷ codes "passed" ∷ decimal shard.1.passed ∷ []

-- a line for each shard
abbrev pub shard_lines : List ShardCounts → List (List (List ℕ))
shard_lines shards = map shard_words (enumerate_from 0 shards)

-- how many calls all ranks have done
abbrev pub all_done : List Done → ℕ
all_done done = sum_by (λ rank. rank.done) done

-- what the summary tells of a report: of each shard, how many calls all ranks have done, and how often each answer came
pub record TheCounts : Type 0 where
  pub shards : List ShardCounts
  pub done : ℕ
  pub steps : Option Steps

abbrev pub counts_in : TheReport → TheCounts
counts_in report = record { shards = map counts_of report.shards; done = all_done report.done; steps = report.steps }

-- `ranks R calls C`
abbrev pub sizes_words : ℕ → ℕ → List (List ℕ)
sizes_words ranks calls = codes "ranks" ∷ decimal ranks ∷ codes "calls" ∷ decimal calls ∷ []

-- `done D of C`
abbrev pub done_words : ℕ → ℕ → List (List ℕ)
done_words done calls = codes "done" ∷ decimal done ∷ codes "of" ∷ decimal calls ∷ []

-- the lines of so many ranks and calls; the steps are told as in a report
abbrev pub summary_lines : ℕ → ℕ → TheCounts → List (List (List ℕ))
summary_lines ranks calls counts =
    (codes "rmalock-summary" ∷ codes "1" ∷ []) ∷ sizes_words ranks calls
    ∷ (shard_lines counts.shards ++ done_words counts.done calls ∷ (steps_lines counts.steps ++ (codes "end" ∷ []) ∷ []))

abbrev pub summary_spelling : ℕ → ℕ → TheReport → List ℕ
summary_spelling ranks calls report = text_of (summary_lines ranks calls (counts_in report))

-- the summary of the calls that are made from a number
abbrev pub made_summary : ℕ → ℕ → ℕ → List ℕ
made_summary number ranks calls = summary_spelling ranks calls (made_report number ranks calls)
