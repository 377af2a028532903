-- Files that are read spell what was read.
use Rattle.std.proofs.Common.{◌≡◌, ℕ, ◌<◌, ◌^◌, List, length, Bool, true, false, nat_le, not, ◌&&◌, Result, Ok, Err, refl, sym, ap, subst, ◌∙◌, if◌then◌else◌, arith}
use Rattle.rl_text.specs.declared.causes.Refusal.{Refusal}
use Rattle.rl_step.specs.LockQueues.{does_batches}
use Rattle.rl_place.specs.LockWords.{name_of}
use Rattle.rl_place.specs.Places.{ThePlace, IsProper}
use Rattle.rl_place.specs.Reading.{place_at}
use Rattle.rl_place.specs.Spelling.{place_spelling}
use Rattle.rl_place.proofs.PlaceLaws.{place-takes}
use Rattle.rl_ops.specs.declared.ops.Ops.{Ops}
use Rattle.rl_ops.specs.declared.schedule.Schedule.{Schedule}
use Rattle.rl_ops.specs.Ops.{SpellsOps, has_batch}
use Rattle.rl_ops.specs.OpsReading.{ops_at}
use Rattle.rl_ops.specs.Schedule.{ScheduleFits, schedule_spelling}
use Rattle.rl_ops.specs.ScheduleReading.{schedule_at}
use Rattle.rl_ops.proofs.OpsLaws.{ops-takes}
use Rattle.rl_ops.proofs.ScheduleLaws.{schedule-takes}
use Rattle.rl_inputs.specs.Reading.{◌>>=◌, within, refused_in, as_done, placed, called, scheduled}

-- what follows a step that went well
pub step_ok : {A B : Type 0} (r : Result A (List ℕ)) (f : A → Result B (List ℕ)) (y : B) → (r >>= f) ≡ Ok y → (x : A) × (r ≡ Ok x) × (f x ≡ Ok y)
step_ok (Ok x) f y e = (x, refl, e)
step_ok (Err d) f y e = absurd cc

-- one value that went well is one value
abbrev pub went_well : {A E : Type 0} → A → Result A E
went_well x = Ok x

pub same_value : {A E : Type 0} (x y : A) → went_well {E = E} x ≡ went_well {E = E} y → x ≡ y
same_value x y e = cc

-- a test that was passed
passed_with : {A E : Type 0} (b : Bool) (x y : A) (d : E) → (if b then Ok x else Err d) ≡ Ok y → (b ≡ true) × (x ≡ y)
passed_with {E = E} true x y d e = (refl, same_value {E = E} x y e)
passed_with false x y d e = absurd cc

-- a test that was not met
as_it_was : {A E : Type 0} (b : Bool) (x y : A) (d : E) → (if b then Err d else Ok x) ≡ Ok y → x ≡ y
as_it_was true x y d e = absurd cc
as_it_was {E = E} false x y d e = same_value {E = E} x y e

refused_ok : {X : Type 0} (name : List ℕ) (r : Result X Refusal) (x : X) → refused_in name r ≡ Ok x → r ≡ Ok x
refused_ok name (Ok a) x e = ap (λ z. Ok z) (same_value {E = List ℕ} a x e)
refused_ok name (Err d) x e = absurd cc

-- a file that is short enough and was read
read_ok : {X : Type 0} (name : List ℕ) (most : ℕ) (reading : List ℕ → Result X Refusal) (bytes : List ℕ) (x : X) →
    (within name most bytes >>= λ text. refused_in name (reading text)) ≡ Ok x → reading bytes ≡ Ok x
read_ok name most reading bytes x e =
    let a = step_ok (within name most bytes) (λ text. refused_in name (reading text)) x e in
    let same : bytes ≡ a.0 = (passed_with (nat_le (length bytes) most) bytes a.0 _ a.1).1 in
    subst (λ text. reading text ≡ Ok x) (sym same) (refused_ok name (reading a.0) x a.2)

-- a placement that was read: it has few ranks and shards
pub record PlaceRead (bytes : List ℕ) (place : ThePlace) : Type 0 where
  pub proper : IsProper place
  pub spelled : bytes ≡ place_spelling place
  pub ranks : length place.paths < 2 ^ 32
  pub shards : place.geom.shards < 2 ^ 32

pub place_read : (name bytes : List ℕ) (place : ThePlace) → placed name bytes ≡ Ok place → PlaceRead bytes place
unfolding placed
place_read name bytes place e =
    let taken = place-takes bytes place (read_ok name 4194304 place_at bytes place e) in
    let most = taken.proper.most_ranks in
    let few = taken.proper.geom.shards in
    record { proper = taken.proper; spelled = taken.spelled; ranks = omega (arith, most); shards = omega (arith, few) }

pub calls_read : (name : List ℕ) (place : ThePlace) (bytes : List ℕ) (ops : Ops) → length place.paths < 2 ^ 32 →
    place.geom.shards < 2 ^ 32 → called name place bytes ≡ Ok ops → SpellsOps (length place.paths) place.geom.shards ops bytes
unfolding called
calls_read name place bytes ops ranks shards e =
    let reading : List ℕ → Result Ops Refusal = ops_at (length place.paths) place.geom.shards in
    let text = step_ok (within name 4194304 bytes) (λ text. refused_in name (reading text) >>= as_done name place) ops e in
    let calls = step_ok (refused_in name (reading text.0)) (as_done name place) ops text.2 in
    let same : calls.0 ≡ ops = as_it_was (not (does_batches (name_of place.lock)) && has_batch calls.0) calls.0 ops _ calls.2 in
    let read = read_ok name 4194304 reading bytes calls.0 (ap (λ z. z >>= λ t. refused_in name (reading t)) text.1 ∙ calls.1) in
    ops-takes (length place.paths) place.geom.shards bytes ops ranks shards (subst (λ z. reading bytes ≡ Ok z) same read)

pub schedule_read : (name : List ℕ) (place : ThePlace) (bytes : List ℕ) (schedule : Schedule) → length place.paths < 2 ^ 32 →
    scheduled name place bytes ≡ Ok schedule → ScheduleFits (length place.paths) schedule × (bytes ≡ schedule_spelling schedule)
unfolding scheduled
schedule_read name place bytes schedule ranks e =
    let taken = schedule-takes (length place.paths) bytes schedule ranks
    (read_ok name 16777216 (schedule_at (length place.paths)) bytes schedule e) in (taken.0, taken.1)
