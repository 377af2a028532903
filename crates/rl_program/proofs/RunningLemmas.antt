-- A run by threads, from what its two files came to.
use Rattle.std.proofs.Common.{◌≡◌, ℕ, List, [], length, Option, Some, Ok, Err, refl, sym, subst, arith, unwrap_or, Vec, Global}
use Rattle.std.specs.FinMap as map
use Rattle.std.proofs.lemmas.Option.{slice_get_within}
use Rattle.std.specs.List.{slice_get}
use Rattle.rl_word.specs.laws.Places.{some_at}
use Rattle.rl_journal.specs.History.{IsReplayedByOneThread}
use Rattle.rl_journal.specs.laws.HistoryLaws.{replayed}
use Rattle.rl_place.specs.Places.{ThePlace, IsProper}
use Rattle.rl_ops.specs.declared.ops.Ops.{Ops}
use Rattle.rl_ops.specs.Ops.{OpsFit}
use Rattle.rl_report.specs.Naming.{naming_of}
use Rattle.rl_report.specs.Reports.{TheShard, TheReport}
use Rattle.rl_report.specs.Spelling.{report_spelling}
use Rattle.rl_report.specs.Reading.{report_at}
use Rattle.rl_report.specs.Lawful.{IsLawful, journal_among, transcripts_in}
use Rattle.rl_run.specs.Made.{IsRunBy}
use Rattle.rl_locks.specs.Kinds.{lock_kind_of}
use Rattle.rl_check.specs.Legal.{LegalIsLawful}
use Rattle.rl_inputs.specs.declared.stop.Stop.{Stop}
use Rattle.rl_inputs.specs.declared.stop.Stop.TheVariants as stop
use Rattle.rl_program.specs.Command.{RunNames}
use Rattle.rl_inputs.specs.Files.{Texts}
use Rattle.rl_program.specs.ReadBack.{IsRunReadBack}
use Rattle.rl_inputs.specs.Reading.{WasRead, placed, called}
use Rattle.rl_program.specs.RunAnswer.{run_read, WasRun}
use Rattle.rl_inputs.proofs.ReadLemmas.{replay_texts, fits_told, stops_at}
use Rattle.rl_program.proofs.SpelledLaws.{PlaceRead, place_read, calls_read}

-- the replies of a lawful report are those of one thread
replies_are : (place : ThePlace) (ops : Ops) (report : TheReport) → IsProper place → IsLawful place ops report → (s : ℕ) (S : TheShard) →
    slice_get report.shards s ≡ Some S → IsReplayedByOneThread place.geom map.empty 0 S.entries
replies_are place ops report proper lawful s S has =
    let within = slice_get_within report.shards s S has in
    let homes = proper.each_shard in
    let shards = lawful.fits.each_shard in
    let home = some_at place.homes s (omega (arith, within, homes, shards)) in
    let part = lawful.shards s home.0 S home.1 has in
    subst (λ es. IsReplayedByOneThread place.geom map.empty 0 es) (sym part.in_order)
    (replayed place.geom (journal_among S.entries) (transcripts_in S.entries 0 (length place.paths)) part.legal)

is_run : LegalIsLawful → (names : RunNames) (texts : Texts) (place : ThePlace) (ops : Ops) (report : TheReport) (text : List ℕ) →
    OpsFit (length place.paths) place.geom.shards ops → placed names.place texts.place ≡ Ok place → called names.calls place texts.calls ≡ Ok ops →
    text ≡ report_spelling (naming_of place) report → IsLawful place ops report →
    IsRunBy (lock_kind_of place.lock).defined place ops report → report_at (naming_of place) text ≡ Ok report → IsRunReadBack texts text
is_run laws names texts place ops report text fit p c is lawful made again =
    let read : PlaceRead texts.place place = place_read names.place texts.place place p in
    record {
      run = record {
        place = place;
        ops = ops;
        report = report;
        proper = read.proper;
        place_spelled = read.spelled;
        calls_spelled = calls_read names.calls place texts.calls ops read.ranks read.shards c;
        bytes = is;
        lawful = lawful;
        made = made;
        replies = replies_are place ops report read.proper lawful;
      };
      back = record { read = again; legal = (laws place ops report read.proper fit lawful.fits lawful.of_run).1 lawful };
    }

module _ (file : List ℕ → Option (List ℕ)) (names : RunNames) where
  abbrev texts_of : List ℕ → List ℕ → Texts
  texts_of place calls = replay_texts place calls []

  pub place_stops : (why : Stop) → WasRead {X = ThePlace} (file names.place) (λ place. place) (placed names.place) (Err why) → WasRun file names (Err why)
  unfolding run_read
  place_stops why r =
      record {
        texts = texts_of r.bytes (unwrap_or (file names.calls) []);
        are = (r.fits, fits_told (file names.calls));
        read =
            stops_at why (placed names.place r.bytes) _ r.ends;
        run = tt;
      }

  pub calls_stop : (place : ThePlace) (why : Stop) → WasRead {X = ThePlace} (file names.place) (λ place. place) (placed names.place) (Ok place) →
      WasRead {X = Ops} (file names.calls) (λ ops. ops) (called names.calls place) (Err why) → WasRun file names (Err why)
  unfolding run_read
  calls_stop place why r c = record {
    texts = texts_of r.bytes c.bytes;
    are = (r.fits, c.fits);
    read =
        rw r.ends (stops_at why (called names.calls place c.bytes) _ c.ends);
    run = tt;
  }

  -- both files were read, and then memory ran out
  pub memory_stops : (place : ThePlace) (ops : Ops) → WasRead {X = ThePlace} (file names.place) (λ place. place) (placed names.place) (Ok place) →
      WasRead {X = Ops} (file names.calls) (λ ops. ops) (called names.calls place) (Ok ops) → WasRun file names (Err stop.Memory)
  memory_stops place ops r c = record { texts = texts_of r.bytes c.bytes; are = (r.fits, c.fits); read = tt; run = tt }

  -- both files were read, and this is the text of a report
  pub was_run : LegalIsLawful → (place : ThePlace) (ops : Ops) (report : TheReport) (text : Vec ℕ Global) →
      OpsFit (length place.paths) place.geom.shards ops → WasRead {X = ThePlace} (file names.place) (λ place. place) (placed names.place) (Ok place) →
      WasRead {X = Ops} (file names.calls) (λ ops. ops) (called names.calls place) (Ok ops) →
      text.items ≡ report_spelling (naming_of place) report → IsLawful place ops report → IsRunBy (lock_kind_of place.lock).defined place ops report →
      report_at (naming_of place) text.items ≡ Ok report → WasRun file names (Ok text)
  unfolding run_read
  was_run laws place ops report text fit r c is lawful made again =
      record {
        texts = texts_of r.bytes c.bytes;
        are = (r.fits, c.fits);
        read = ((place, ops), rw (r.ends, c.ends) refl);
        run = is_run laws names (texts_of r.bytes c.bytes) place ops report text.items fit r.ends c.ends is lawful made again;
      }
