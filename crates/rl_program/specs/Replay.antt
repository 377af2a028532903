-- The run of a placement, calls and a schedule, and the report of it.
use Rattle.std.specs.Prelude.{◌≡◌, ◌⊎◌, ◌≤◌, ℕ, Bool, true, length, slice_get, Some}
use Rattle.rl_word.specs.Shapes.{TheShape}
use Rattle.rl_word.specs.declared.shapes.Knobs.{Knobs}
use Rattle.rl_step.specs.Answers.{steps_made}
use Rattle.rl_site.specs.Site.{Site}
use Rattle.rl_core.specs.ShardTables.{ShardTable}
use Rattle.rl_place.specs.declared.lock.Lock.{Lock}
use Rattle.rl_place.specs.Places.{ThePlace}
use Rattle.rl_ops.specs.declared.ops.Ops.{Ops}
use Rattle.rl_ops.specs.declared.schedule.Schedule.{Schedule}
use Rattle.rl_ops.specs.declared.schedule.TheConstants.{MOST_STEPS}
use Rattle.rl_report.specs.Lawful.{queues_at}
use Rattle.rl_word.specs.LockFacts.{has_cohorts}
use Rattle.rl_report.specs.Naming.{queue_kind}
use Rattle.rl_report.specs.Reports.{TheReport}
use Rattle.rl_machine.specs.Running.{ShardRun, Running}
use Rattle.rl_locks.specs.Kinds.{lock_kind_of}
use Rattle.rl_locks.specs.Runs.{machine_after}
use Rattle.rl_reporting.specs.Reported.{queue_count, report_in}

-- the machine at the end of a schedule, with the kind of the placement's lock
abbrev pub replay_of : (place : ThePlace) → Ops → Schedule → Running (lock_kind_of place.lock).View
replay_of place ops schedule = machine_after (lock_kind_of place.lock).defined place ops schedule.turns

-- a report is that of the replay of a machine which is defined so
abbrev pub IsReportOf : {V : Type 0} → (TheShape → ℕ → Knobs → Site → ShardTable V) → ThePlace → Ops → Schedule → TheReport → Type 0
IsReportOf defined place ops schedule report = report ≡ report_in (queue_count place) (machine_after defined place ops schedule.turns)

-- the report of a replay
abbrev pub report_of_replay : ThePlace → Ops → Schedule → TheReport
report_of_replay place ops schedule = report_in (queue_count place) (replay_of place ops schedule)

-- ---- when it fits

-- these are the cohorts of a lock that has cohorts
abbrev pub AreCohortsOf : Lock → (ℕ → Bool) → Type 0
AreCohortsOf lock cohort = (c : ℕ) → cohort c ≡ true → (has_cohorts (queue_kind lock) ≡ true) × ((c ≡ 1) ⊎ (c ≡ 2))

-- a machine of a placement and calls, which has made no more steps than a schedule has
pub record IsMachineOf {V : Type 0} (place : ThePlace) (ops : Ops) (m : Running V) : Type 0 where
  pub geom : m.geom ≡ place.geom
  pub calls : m.calls ≡ ops.by_rank
  pub sizes : m.sizes ≡ ops.sizes
  -- a shard for each home, with the queues and the cohorts of the placement's lock
  pub all : length m.shards ≡ length place.homes
  pub queues : (s home : ℕ) (S : ShardRun V) → slice_get place.homes s ≡ Some home → slice_get m.shards s ≡ Some S → S.table.queues ≡ queues_at place home
  pub cohorts : (s : ℕ) (S : ShardRun V) → slice_get m.shards s ≡ Some S → AreCohortsOf place.lock S.table.cohort
  pub few : steps_made m.steps ≤ MOST_STEPS
