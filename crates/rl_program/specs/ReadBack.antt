-- The report that a replay or a run writes, read back. All of it follows from what the two headlines say; who believes them need not read the
-- reading of a report or the tests of a check.
use Rattle.std.specs.Prelude.{◌≡◌, ℕ, List, Ok}
use Rattle.rl_place.specs.Places.{ThePlace}
use Rattle.rl_ops.specs.declared.ops.Ops.{Ops}
use Rattle.rl_report.specs.Naming.{naming_of}
use Rattle.rl_report.specs.Reports.{TheReport}
use Rattle.rl_report.specs.Reading.{report_at}
use Rattle.rl_check.specs.Legal.{IsLegalReport}
use Rattle.rl_inputs.specs.Files.{Texts}
use Rattle.rl_program.specs.Replay.{report_of_replay}
use Rattle.rl_program.specs.Headline.{IsReplay}
use Rattle.rl_program.specs.RunHeadline.{IsRun}

-- this text is read as this report, and a check finds the report legal for the placement and the calls
pub record IsReadBack (place : ThePlace) (ops : Ops) (report : TheReport) (text : List ℕ) : Type 0 where
  pub read : report_at (naming_of place) text ≡ Ok report
  pub legal : IsLegalReport place ops report

-- these texts are replayed, and the report of their run is read back from this text
pub record IsReplayReadBack (texts : Texts) (text : List ℕ) : Type 0 where
  pub replay : IsReplay texts text
  pub back : IsReadBack replay.place replay.ops (report_of_replay replay.place replay.ops replay.schedule) text

-- these texts are run, and the report of the run is read back from this text
pub record IsRunReadBack (texts : Texts) (text : List ℕ) : Type 0 where
  pub run : IsRun texts text
  pub back : IsReadBack run.place run.ops run.report text
