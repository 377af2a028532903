-- A check, from what its three files came to.
use Rattle.std.proofs.Common.{◌≡◌, ℕ, List, [], Option, Result, Ok, Err, unwrap_or, refl, ap}
use Rattle.rl_place.specs.Places.{ThePlace}
use Rattle.rl_ops.specs.declared.ops.Ops.{Ops}
use Rattle.rl_report.specs.Reports.{TheReport}
use Rattle.rl_inputs.specs.declared.stop.Stop.{Stop}
use Rattle.rl_inputs.specs.Files.{Texts}
use Rattle.rl_inputs.specs.Reading.{◌>>=◌, Fits, Ends, WasRead, placed, called}
use Rattle.rl_inputs.proofs.ReadLemmas.{fits_told, stops_at}
use Rattle.rl_program.specs.declared.checking.Checked.{Checked}
use Rattle.rl_program.specs.Command.{CheckNames}
use Rattle.rl_program.specs.CheckAnswer.{reported, checked, WereChecked}

-- the bytes of the files of a check, among which no schedule is
abbrev check_texts : List ℕ → List ℕ → List ℕ → Texts
check_texts place calls report = record { place = place; calls = calls; schedule = []; report = report }

module _ (file : List ℕ → Option (List ℕ)) (names : CheckNames) where
  -- texts that fit, and what they came to
  were_checked : (place calls report : List ℕ) (result : Result Checked Stop) → Fits (file names.place) place →
      Fits (file names.calls) calls → Fits (file names.report) report →
      Ends (λ read. read) result (checked names (check_texts place calls report)) → WereChecked file names result
  were_checked place calls report result p c r e = record { texts = check_texts place calls report; are = (p, c, r); ends = e }

  pub place_stops : (why : Stop) → WasRead {X = ThePlace} (file names.place) (λ place. place) (placed names.place) (Err why) → WereChecked file names (Err why)
  unfolding checked
  place_stops why r =
      were_checked r.bytes (unwrap_or (file names.calls) []) (unwrap_or (file names.report) []) (Err why) r.fits
      (fits_told (file names.calls)) (fits_told (file names.report))
      (stops_at why (placed names.place r.bytes) _ r.ends)

  pub calls_stop : (place : ThePlace) (why : Stop) → WasRead {X = ThePlace} (file names.place) (λ place. place) (placed names.place) (Ok place) →
      WasRead {X = Ops} (file names.calls) (λ ops. ops) (called names.calls place) (Err why) → WereChecked file names (Err why)
  unfolding checked
  calls_stop place why r c =
      were_checked r.bytes c.bytes (unwrap_or (file names.report) []) (Err why) r.fits c.fits (fits_told (file names.report))
      (rw r.ends (stops_at why (called names.calls place c.bytes) _ c.ends))

  pub report_stops : (place : ThePlace) (ops : Ops) (why : Stop) → WasRead {X = ThePlace} (file names.place) (λ place. place) (placed names.place) (Ok place) →
      WasRead {X = Ops} (file names.calls) (λ ops. ops) (called names.calls place) (Ok ops) →
      WasRead {X = TheReport} (file names.report) (λ report. report) (reported names.report place) (Err why) → WereChecked file names (Err why)
  unfolding checked
  report_stops place ops why r c t =
      were_checked r.bytes c.bytes t.bytes (Err why) r.fits c.fits t.fits (rw (r.ends, c.ends) (stops_at why (reported names.report place t.bytes) _ t.ends))

  -- all files were read
  pub all_checked : (place : ThePlace) (ops : Ops) (report : TheReport) →
      WasRead {X = ThePlace} (file names.place) (λ place. place) (placed names.place) (Ok place) →
      WasRead {X = Ops} (file names.calls) (λ ops. ops) (called names.calls place) (Ok ops) →
      WasRead {X = TheReport} (file names.report) (λ report. report) (reported names.report place) (Ok report) →
      WereChecked file names (Ok (record { place = place; ops = ops; report = report }))
  unfolding checked
  all_checked place ops report r c t = were_checked r.bytes c.bytes t.bytes _ r.fits c.fits t.fits (rw (r.ends, c.ends, t.ends) refl)
