-- The three files of a replay, from what each came to.
use Rattle.std.proofs.Common.{ℕ, List, [], Option, Result, Ok, Err, unwrap_or, refl}
use Rattle.rl_place.specs.Places.{ThePlace}
use Rattle.rl_ops.specs.declared.ops.Ops.{Ops}
use Rattle.rl_ops.specs.declared.schedule.Schedule.{Schedule}
use Rattle.rl_inputs.specs.declared.stop.Stop.{Stop}
use Rattle.rl_inputs.specs.declared.replay.Replay.{Replay}
use Rattle.rl_inputs.specs.Reading.{Fits, Ends, WasRead, placed, called, scheduled}
use Rattle.rl_inputs.specs.Files.{Names, WereRead, spelled}
use Rattle.rl_inputs.proofs.ReadLemmas.{replay_texts, fits_told, stops_at}

module _ (file : List ℕ → Option (List ℕ)) (names : Names) where
  -- texts that fit, and what they came to
  were_read : (place calls schedule : List ℕ) (result : Result Replay Stop) → Fits (file names.place) place →
      Fits (file names.calls) calls → Fits (file names.schedule) schedule →
      Ends (λ replay. replay) result (spelled names (replay_texts place calls schedule)) → WereRead file names result
  were_read place calls schedule result p c s e =
      record { texts = replay_texts place calls schedule; are = (p, c, s); ends = e }

  pub place_stops : (why : Stop) → WasRead {X = ThePlace} (file names.place) (λ place. place) (placed names.place) (Err why) → WereRead file names (Err why)
  unfolding spelled
  place_stops why r =
      were_read r.bytes (unwrap_or (file names.calls) []) (unwrap_or (file names.schedule) []) (Err why) r.fits
      (fits_told (file names.calls)) (fits_told (file names.schedule))
      (stops_at why (placed names.place r.bytes) _ r.ends)

  pub calls_stop : (place : ThePlace) (why : Stop) → WasRead {X = ThePlace} (file names.place) (λ place. place) (placed names.place) (Ok place) →
      WasRead {X = Ops} (file names.calls) (λ ops. ops) (called names.calls place) (Err why) → WereRead file names (Err why)
  unfolding spelled
  calls_stop place why r c =
      were_read r.bytes c.bytes (unwrap_or (file names.schedule) []) (Err why) r.fits c.fits (fits_told (file names.schedule))
      (rw r.ends (stops_at why (called names.calls place c.bytes) _ c.ends))

  pub schedule_stops : (place : ThePlace) (ops : Ops) (why : Stop) →
      WasRead {X = ThePlace} (file names.place) (λ place. place) (placed names.place) (Ok place) →
      WasRead {X = Ops} (file names.calls) (λ ops. ops) (called names.calls place) (Ok ops) →
      WasRead {X = Schedule} (file names.schedule) (λ schedule. schedule) (scheduled names.schedule place) (Err why) → WereRead file names (Err why)
  unfolding spelled
  schedule_stops place ops why r c s =
      were_read r.bytes c.bytes s.bytes (Err why) r.fits c.fits s.fits (rw (r.ends, c.ends) (stops_at why (scheduled names.schedule place s.bytes) _ s.ends))

  -- all files were read
  pub all_read : (place : ThePlace) (ops : Ops) (schedule : Schedule) →
      WasRead {X = ThePlace} (file names.place) (λ place. place) (placed names.place) (Ok place) →
      WasRead {X = Ops} (file names.calls) (λ ops. ops) (called names.calls place) (Ok ops) →
      WasRead {X = Schedule} (file names.schedule) (λ schedule. schedule) (scheduled names.schedule place) (Ok schedule) →
      WereRead file names (Ok (record { place = place; ops = ops; schedule = schedule }))
  unfolding spelled
  all_read place ops schedule r c s = were_read r.bytes c.bytes s.bytes _ r.fits c.fits s.fits (rw (r.ends, c.ends, s.ends) refl)
