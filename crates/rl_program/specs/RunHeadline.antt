-- The headline of a run: what is true of the texts that are run, and of the report that is written.
use Rattle.std.specs.Prelude.{◌≡◌, ℕ, List, length, slice_get, Some}
use Rattle.std.specs.FinMap as map
use Rattle.rl_journal.specs.History.{IsReplayedByOneThread}
use Rattle.rl_place.specs.Places.{ThePlace, IsProper}
use Rattle.rl_place.specs.Spelling.{place_spelling}
use Rattle.rl_ops.specs.declared.ops.Ops.{Ops}
use Rattle.rl_ops.specs.Ops.{SpellsOps}
use Rattle.rl_report.specs.Naming.{naming_of}
use Rattle.rl_report.specs.Reports.{TheShard, TheReport}
use Rattle.rl_report.specs.Spelling.{report_spelling}
use Rattle.rl_report.specs.Lawful.{IsLawful}
use Rattle.rl_run.specs.Made.{IsRunBy}
use Rattle.rl_locks.specs.Kinds.{lock_kind_of}
use Rattle.rl_inputs.specs.Files.{Texts}

-- These texts are run: they spell a placement and calls, and this text is a report of all these calls that is lawful for them.
pub record IsRun (texts : Texts) (text : List ℕ) : Type 0 where
  pub place : ThePlace
  pub ops : Ops
  pub report : TheReport
  pub proper : IsProper place
  pub place_spelled : texts.place ≡ place_spelling place
  pub calls_spelled : SpellsOps (length place.paths) place.geom.shards ops texts.calls
  pub bytes : text ≡ report_spelling (naming_of place) report
  -- the entries are the history of a legal journal and legal transcripts, and hold each rank's calls, all of them, each once and in its
  -- order; the pairs are the table after them; and no queue with a budget was passed more often, in all, than that for each settlement,
  -- and each was settled and passed as often as it was had
  pub lawful : IsLawful place ops report
  -- and it tells of each shard what some order of the ranks' openings and atoms leaves there, each of the machine that a replay has under the
  -- placement's lock
  pub made : IsRunBy (lock_kind_of place.lock).defined place ops report
  -- so one thread that makes the calls of a shard's entries in order, from the empty table, gets the replies that are written, `full`
  -- exactly where a new key finds its bucket taken and no overflow cell left
  pub replies : (s : ℕ) (S : TheShard) → slice_get report.shards s ≡ Some S → IsReplayedByOneThread place.geom map.empty 0 S.entries
