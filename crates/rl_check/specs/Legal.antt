-- When a report is legal for a placement and calls.
use Rattle.std.specs.Prelude.{◌≡◌, ◌↔◌, ℕ, true, [], get_or, length, None, is_some}
use Rattle.rl_place.specs.Places.{ThePlace, IsProper}
use Rattle.rl_ops.specs.declared.ops.Ops.{Ops}
use Rattle.rl_ops.specs.Ops.{OpsFit}
use Rattle.rl_report.specs.Naming.{naming_of}
use Rattle.rl_report.specs.Reports.{TheReport, ReportFits}
use Rattle.rl_report.specs.Lawful.{IsLawful}
use Rattle.rl_check.specs.declared.illegal.Group.TheVariants as group
use Rattle.rl_check.specs.declared.illegal.Illegal.{Illegal}
use Rattle.rl_check.specs.declared.illegal.Test.{Test}
use Rattle.rl_check.specs.Tests.{Tests, ◌and_then◌, each, where_there}
use Rattle.rl_check.specs.Faults.{of_group}
use Rattle.rl_check.specs.Shards.{shard_tests}
use Rattle.rl_check.specs.Ranks.{entries_of_rank, rank_tests}
use Rattle.rl_check.specs.LawfulReplays.{IsLawfulReplay}

-- the tests of the shard of this number, if there is such a shard
abbrev pub tests_on : ThePlace → TheReport → ℕ → Tests Illegal
tests_on place report s =
    of_group (group.Shard s) (where_there place.homes s (λ home. where_there report.shards s
    (shard_tests place (is_some report.steps) s home)))

-- the same of a rank
abbrev pub tests_of : Ops → TheReport → ℕ → Tests (ℕ × Test)
tests_of ops report k =
    where_there report.done k (rank_tests (is_some report.steps) (get_or ops.by_rank k []) (get_or ops.sizes k []) (entries_of_rank report k))

abbrev pub tests_by : Ops → TheReport → ℕ → Tests Illegal
tests_by ops report k = of_group (group.Rank k) (tests_of ops report k)

-- shards come before ranks, and either by number
abbrev pub report_tests : ThePlace → Ops → TheReport → Tests Illegal
report_tests place ops report = each (length report.shards) (tests_on place report) and_then each (length report.done) (tests_by ops report)

-- all tests are passed
abbrev pub IsLegalReport : ThePlace → Ops → TheReport → Type 0
IsLegalReport place ops report = (report_tests place ops report).pass

-- a report and calls that are proper for some placement
pub record AreOfSomePlace (ops : Ops) (report : TheReport) : Type 0 where
  pub place : ThePlace
  pub proper : IsProper place
  pub calls : OpsFit (length place.paths) place.geom.shards ops
  pub fits : ReportFits (naming_of place) report

-- The law of reports of runs: all tests are passed exactly where the report is lawful.
abbrev pub LegalIsLawful : Type 0
LegalIsLawful =
    (place : ThePlace) (ops : Ops) (report : TheReport) → IsProper place → OpsFit (length place.paths) place.geom.shards ops → ReportFits (naming_of place) report → report.steps ≡ None →
    IsLegalReport place ops report ↔ IsLawful place ops report

-- And of reports of replays, in the same words.
abbrev pub LegalIsLawfulReplay : Type 0
LegalIsLawfulReplay =
    (place : ThePlace) (ops : Ops) (report : TheReport) → IsProper place → OpsFit (length place.paths) place.geom.shards ops → ReportFits (naming_of place) report → is_some report.steps ≡ true →
    IsLegalReport place ops report ↔ IsLawfulReplay place ops report
