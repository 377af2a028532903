-- What is known of a file that was read, to its end or not.
use Rattle.std.proofs.Common.{◌≡◌, ℕ, ◌+◌, ◌<◌, List, [], length, Option, Some, None, Result, Err, IsErrAnd, false, nat_le, replicate, unwrap_or, arith, refl, ap, sym, subst, ◌∙◌}
use Rattle.std.proofs.lemmas.List.{length-replicate}
use Rattle.std.proofs.lemmas.Result.{err_from_is_err_and}
use Rattle.std.specs.Prelude.{codes}
use Rattle.rl_io.specs.Outside.{IsLonger}
use Rattle.rl_text.specs.Reading.{Gives}
use Rattle.rl_text.specs.declared.causes.Refusal.{Refusal}
use Rattle.rl_text.specs.declared.failing.TextErr.{TextErr}
use Rattle.rl_text.specs.declared.failing.TextErr.TheVariants as text
use Rattle.rl_inputs.specs.declared.stop.Stop.{Stop}
use Rattle.rl_inputs.specs.declared.stop.Stop.TheVariants as stop
use Rattle.rl_inputs.specs.Reading.{◌>>=◌, Fits, EndsEarly, WasRead, IsRefusal, IsStoppedBy, within, refused_in, refused_whole}
use Rattle.rl_inputs.specs.Files.{Texts}

-- the bytes of no files
abbrev pub no_texts : Texts
no_texts = record { place = []; calls = []; schedule = []; report = [] }

-- the bytes of the files of a replay, among which no report is
abbrev pub replay_texts : List ℕ → List ℕ → List ℕ → Texts
replay_texts place calls schedule = record { place = place; calls = calls; schedule = schedule; report = [] }

-- ---- a file that wasn't read to its end

-- the bytes that the source tells, or none where it tells none
pub fits_told : (told : Option (List ℕ)) → Fits told (unwrap_or told [])
fits_told None = tt
fits_told (Some bytes) = refl

-- a fault says nothing of the file
pub was_fault : {X Y : Type 0} (told : Option (List ℕ)) (view : X → Y) (reading : List ℕ → Result Y (List ℕ)) → WasRead told view reading (Err stop.Fault)
was_fault told view reading = record { bytes = unwrap_or told []; fits = fits_told told; ends = tt }

-- nor does want of memory
pub was_memory : {X Y : Type 0} (told : Option (List ℕ)) (view : X → Y) (reading : List ℕ → Result Y (List ℕ)) → WasRead told view reading (Err stop.Memory)
was_memory told view reading = record { bytes = unwrap_or told []; fits = fits_told told; ends = tt }

-- more bytes than the most are too long
longer_within : (name : List ℕ) (most : ℕ) (bytes : List ℕ) → most < length bytes → within name most bytes ≡ Err (refused_whole name (codes "toolong"))
longer_within name most bytes more =
    let test : nat_le (length bytes) most ≡ false = grind (arith, more) in
    rw test refl

-- and end the reading so
long_ends : (name : List ℕ) (most : ℕ) (bytes : List ℕ) (why : Stop) → most < length bytes →
    IsRefusal why (refused_whole name (codes "toolong")) → EndsEarly why (within name most bytes)
long_ends name most bytes (stop.Refused line) more is = longer_within name most bytes more ∙ ap (λ l. Err l) (sym is)
long_ends name most bytes stop.Fault more is = absurd is
long_ends name most bytes stop.Memory more is = tt

pub was_longer : {X : Type 0} (told : Option (List ℕ)) (view : X → List ℕ) (name : List ℕ) (most : ℕ) (left : Option (List ℕ)) (why : Stop) →
    IsLonger told most left → IsRefusal why (refused_whole name (codes "toolong")) → WasRead told view (within name most) (Err why)
was_longer None view name most left why longer is =
    let zero_byte : ℕ = 0 in
    let long : length (replicate (most + 1) zero_byte) ≡ most + 1 = length-replicate (most + 1) zero_byte in
    record { bytes = replicate (most + 1) zero_byte; fits = tt; ends = long_ends name most (replicate (most + 1) zero_byte) why (omega (arith, long)) is }
was_longer (Some bytes) view name most left why longer is = record { bytes = bytes; fits = refl; ends = long_ends name most bytes why longer.0 is }

-- ---- a text that is none of its kind

-- what its reader gave ends the reading so
pub text_ends : {Y : Type 0} (name : List ℕ) (error : TextErr) (why : Stop) (read : Result Y Refusal) → Gives {X = Y} (Err error) read →
    IsStoppedBy name error why → EndsEarly why (refused_in name read)
text_ends name (text.Refused refusal) (stop.Refused line) read gives is = rw gives (ap (λ l. Err l) (sym is))
text_ends name (text.Refused refusal) stop.Fault read gives is = absurd is
text_ends name (text.Refused refusal) stop.Memory read gives is = tt
text_ends name text.Memory why read gives is = rw is tt

-- ---- several files

-- a step that ends early ends all that follows
pub stops_at : {X Y : Type 0} (why : Stop) (told : Result X (List ℕ)) (next : X → Result Y (List ℕ)) → EndsEarly why told → EndsEarly why (told >>= next)
stops_at (stop.Refused line) told next e = ap (λ z. z >>= next) e
stops_at stop.Fault told next e = tt
stops_at stop.Memory told next e = tt

-- what `?` returns is what ended the call before it
pub ended : {X : Type 0} (P : Result X Stop → Type 0) (why : Stop) (result : Result X Stop) → IsErrAnd result (λ e. e ≡ why) → P (Err why) → P result
ended P why result e holds =
    let is = err_from_is_err_and result e in
    subst P (sym (is.1 ∙ ap (λ y. Err y) is.2)) holds

-- what was read where the files are still those of before
pub still_read : {X Y : Type 0} {view : X → Y} {reading : List ℕ → Result Y (List ℕ)} {result : Result X Stop}
    {now before : Option (List ℕ)} → now ≡ before → WasRead now view reading result → WasRead before view reading result
still_read {X} {Y} {view} {reading} {result} same read = subst (λ told. WasRead told view reading result) same read
