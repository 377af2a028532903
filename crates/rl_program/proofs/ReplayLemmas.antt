-- A replay, from what its three files came to.
use Rattle.std.proofs.Common.{◌≡◌, ℕ, List, [], Option, Result, Ok, Err, IfOk, unwrap_or, ap, sym, Vec, Global}
use Rattle.rl_place.specs.Places.{ThePlace}
use Rattle.rl_ops.specs.declared.ops.Ops.{Ops}
use Rattle.rl_ops.specs.declared.schedule.Schedule.{Schedule}
use Rattle.rl_report.specs.Naming.{naming_of}
use Rattle.rl_report.specs.Spelling.{report_spelling}
use Rattle.rl_report.specs.Reading.{report_at}
use Rattle.rl_check.specs.LawfulReplays.{IsLawfulReplay}
use Rattle.rl_check.specs.Legal.{IsLegalReport}
use Rattle.rl_program.specs.Replay.{report_of_replay}
use Rattle.rl_program.specs.Headline.{KeepsPromises}
use Rattle.rl_program.specs.ReadBack.{IsReplayReadBack}
use Rattle.rl_inputs.specs.declared.stop.Stop.{Stop}
use Rattle.rl_inputs.specs.declared.stop.Stop.TheVariants as stop
use Rattle.rl_inputs.specs.Files.{Names}
use Rattle.rl_inputs.specs.Reading.{◌>>=◌, Fits, Ends, WasRead, placed, called, scheduled}
use Rattle.rl_program.specs.Answer.{WasReplayed, replayed}
use Rattle.rl_inputs.proofs.ReadLemmas.{replay_texts, fits_told, stops_at}
use Rattle.rl_program.proofs.HeadlineLaws.{is_replay}

module _ (file : List ℕ → Option (List ℕ)) (names : Names) where
  -- texts that fit, and what the replay came to for them
  replay_was : (place calls schedule : List ℕ) (result : Result (Vec ℕ Global) Stop) → Fits (file names.place) place →
      Fits (file names.calls) calls → Fits (file names.schedule) schedule →
      Ends (λ text. text.items) result (replayed names (replay_texts place calls schedule)) → IfOk result
      (λ text. IsReplayReadBack (replay_texts place calls schedule) text.items) → WasReplayed file names result
  replay_was place calls schedule result p c s e kept =
      record { texts = replay_texts place calls schedule; are = (p, c, s); ends = e; replay = kept }

  pub place_stops : (why : Stop) → WasRead {X = ThePlace} (file names.place) (λ place. place) (placed names.place) (Err why) → WasReplayed file names (Err why)
  unfolding replayed
  place_stops why r =
      replay_was r.bytes (unwrap_or (file names.calls) []) (unwrap_or (file names.schedule) []) (Err why) r.fits
      (fits_told (file names.calls)) (fits_told (file names.schedule))
      (stops_at why (placed names.place r.bytes) _ r.ends) tt

  pub calls_stop : (place : ThePlace) (why : Stop) → WasRead {X = ThePlace} (file names.place) (λ place. place) (placed names.place) (Ok place) →
      WasRead {X = Ops} (file names.calls) (λ ops. ops) (called names.calls place) (Err why) → WasReplayed file names (Err why)
  unfolding replayed
  calls_stop place why r c =
      replay_was r.bytes c.bytes (unwrap_or (file names.schedule) []) (Err why) r.fits c.fits (fits_told (file names.schedule))
      (rw r.ends (stops_at why (called names.calls place c.bytes) _ c.ends)) tt

  pub schedule_stops : (place : ThePlace) (ops : Ops) (why : Stop) →
      WasRead {X = ThePlace} (file names.place) (λ place. place) (placed names.place) (Ok place) →
      WasRead {X = Ops} (file names.calls) (λ ops. ops) (called names.calls place) (Ok ops) →
      WasRead {X = Schedule} (file names.schedule) (λ schedule. schedule) (scheduled names.schedule place) (Err why) → WasReplayed file names (Err why)
  unfolding replayed
  schedule_stops place ops why r c s =
      replay_was r.bytes c.bytes s.bytes (Err why) r.fits c.fits s.fits
      (rw (r.ends, c.ends) (stops_at why (scheduled names.schedule place s.bytes) _ s.ends)) tt

  -- all files were read, and then memory ran out
  pub memory_stops : (place : ThePlace) (ops : Ops) (schedule : Schedule) →
      WasRead {X = ThePlace} (file names.place) (λ place. place) (placed names.place) (Ok place) →
      WasRead {X = Ops} (file names.calls) (λ ops. ops) (called names.calls place) (Ok ops) →
      WasRead {X = Schedule} (file names.schedule) (λ schedule. schedule) (scheduled names.schedule place)
      (Ok schedule) → WasReplayed file names (Err stop.Memory)
  memory_stops place ops schedule r c s = replay_was r.bytes c.bytes s.bytes (Err stop.Memory) r.fits c.fits s.fits tt tt

  -- all files were read, and this is the text of the report
  pub all_read : (place : ThePlace) (ops : Ops) (schedule : Schedule) (text : Vec ℕ Global) →
      WasRead {X = ThePlace} (file names.place) (λ place. place) (placed names.place) (Ok place) →
      WasRead {X = Ops} (file names.calls) (λ ops. ops) (called names.calls place) (Ok ops) →
      WasRead {X = Schedule} (file names.schedule) (λ schedule. schedule) (scheduled names.schedule place) (Ok schedule) →
      text.items ≡ report_spelling (naming_of place) (report_of_replay place ops schedule) → KeepsPromises place ops schedule →
      IsLawfulReplay place ops (report_of_replay place ops schedule) → IsLegalReport place ops (report_of_replay place ops schedule) →
      report_at (naming_of place) text.items ≡ Ok (report_of_replay place ops schedule) → WasReplayed file names (Ok text)
  unfolding replayed
  all_read place ops schedule text r c s is kept lawful legal again =
      replay_was r.bytes c.bytes s.bytes (Ok text) r.fits c.fits s.fits (rw (r.ends, c.ends, s.ends) (ap (λ t. Ok t) (sym is)))
      (is_replay names (replay_texts r.bytes c.bytes s.bytes) place ops schedule text.items r.ends c.ends s.ends is kept lawful legal again)
