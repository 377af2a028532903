-- The three files of a drawing, from what each came to.
use Rattle.std.proofs.Common.{◌≡◌, ℕ, List, [], Option, Result, Ok, Err, unwrap_or, ap, refl}
use Rattle.rl_place.specs.Places.{ThePlace}
use Rattle.rl_ops.specs.declared.ops.Ops.{Ops}
use Rattle.rl_sketch.specs.declared.sketch.Sketch.{Sketch}
use Rattle.rl_inputs.specs.declared.stop.Stop.{Stop}
use Rattle.rmalock_schedule.specs.declared.reading.Sketched.{Sketched}
use Rattle.rl_inputs.specs.Reading.{◌>>=◌, Fits, Ends, WasRead, placed, called}
use Rattle.rl_inputs.specs.Files.{Names}
use Rattle.rmalock_schedule.specs.Answer.{WereRead, spelled, sketched}
use Rattle.rl_inputs.proofs.ReadLemmas.{replay_texts, fits_told, stops_at}

module _ (file : List ℕ → Option (List ℕ)) (names : Names) where
  -- texts that fit, and what they came to
  were_read : (place calls schedule : List ℕ) (result : Result Sketched Stop) → Fits (file names.place) place →
      Fits (file names.calls) calls → Fits (file names.schedule) schedule →
      Ends (λ sketched. sketched) result (spelled names (replay_texts place calls schedule)) → WereRead file names result
  were_read place calls schedule result p c s e =
      record { texts = replay_texts place calls schedule; are = (p, c, s); ends = e }

  pub place_stops : (why : Stop) → WasRead {X = ThePlace} (file names.place) (λ place. place) (placed names.place) (Err why) → WereRead file names (Err why)
  unfolding spelled
  place_stops why r =
      were_read r.bytes (unwrap_or (file names.calls) []) (unwrap_or (file names.schedule) []) (Err why) r.fits
      (fits_told (file names.calls)) (fits_told (file names.schedule))
      (stops_at why (placed names.place r.bytes) _ r.ends)

  pub calls_stop : (place : ThePlace) (why : Stop) → WasRead {X = ThePlace} (file names.place) (λ place. place) (placed names.place) (Ok place) →
      WasRead {X = Ops} (file names.calls) (λ ops. ops) (called names.calls place) (Err why) → WereRead file names (Err why)
  unfolding spelled
  calls_stop place why r c =
      were_read r.bytes c.bytes (unwrap_or (file names.schedule) []) (Err why) r.fits c.fits (fits_told (file names.schedule))
      (rw r.ends (stops_at why (called names.calls place c.bytes) _ c.ends))

  pub sketch_stops : (place : ThePlace) (ops : Ops) (why : Stop) → WasRead {X = ThePlace} (file names.place) (λ place. place) (placed names.place) (Ok place) →
      WasRead {X = Ops} (file names.calls) (λ ops. ops) (called names.calls place) (Ok ops) →
      WasRead {X = Sketch} (file names.schedule) (λ sketch. sketch) (sketched names.schedule place) (Err why) → WereRead file names (Err why)
  unfolding spelled
  sketch_stops place ops why r c s =
      were_read r.bytes c.bytes s.bytes (Err why) r.fits c.fits s.fits (rw (r.ends, c.ends) (stops_at why (sketched names.schedule place s.bytes) _ s.ends))

  -- all files were read
  pub all_read : (place : ThePlace) (ops : Ops) (sketch : Sketch) → WasRead {X = ThePlace} (file names.place) (λ place. place) (placed names.place) (Ok place) →
      WasRead {X = Ops} (file names.calls) (λ ops. ops) (called names.calls place) (Ok ops) →
      WasRead {X = Sketch} (file names.schedule) (λ sketch. sketch) (sketched names.schedule place) (Ok sketch) →
      WereRead file names (Ok (record { place = place; ops = ops; sketch = sketch }))
  unfolding spelled
  all_read place ops sketch r c s = were_read r.bytes c.bytes s.bytes _ r.fits c.fits s.fits (rw (r.ends, c.ends, s.ends) refl)
