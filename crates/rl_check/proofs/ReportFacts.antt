-- What the limits of a report say of a shard's queues and events.
use Rattle.std.proofs.Common.{◌≡◌, ℕ, zero, suc, ◌+◌, ◌<◌, Bool, true, false, List, [], ◌∷◌, length, get_or, Option, Some, sym, ap, subst, ◌∙◌, arith}
use Rattle.std.specs.Prelude.{slice_get, slice_index}
use Rattle.std.specs.Option.{is_some}
use Rattle.std.proofs.lemmas.Option.{same_Some, slice_get-get_or}
use Rattle.rl_step.specs.declared.events.Event.{Event}
use Rattle.rl_step.specs.declared.events.Event.TheVariants.{Join, Announce, Pass, Settle, Touch, EnterW, EnterR, LeaveW, LeaveR}
use Rattle.rl_place.specs.Places.{ThePlace}
use Rattle.rl_report.specs.Naming.{TheNaming, naming_of, EventFits}
use Rattle.rl_report.specs.Reports.{TheShard, TheReport, EachAfter, StepFits, step_of, ShardFits, ShardsFit, ReportFits}
use Rattle.rl_check.specs.declared.illegal.Test.{Test}
use Rattle.rl_check.specs.Shards.{shard_tests}
use Rattle.rl_check.specs.Tests.{IsFirstOf, where_there}
use Rattle.rl_check.specs.Watching.{IsThere}
use Rattle.rl_check.proofs.TestLaws.{found_there}

-- ---- events

event_fits : (naming : TheNaming) (least : ℕ) (events : List (ℕ × Event)) → EachAfter (StepFits naming) step_of least events → (i : ℕ) (e : ℕ × Event) → slice_get events i ≡ Some e → EventFits naming e.1
event_fits naming least [] fits i e get = absurd (cc)
event_fits naming least (x ∷ xs) fits zero e get = subst (λ (z : ℕ × Event). EventFits naming z.1) (same_Some _ _ get) fits.0.2
event_fits naming least (x ∷ xs) fits (suc i) e get = event_fits naming (step_of x) xs fits.1 i e get

is_there : (naming : TheNaming) (e : Event) → EventFits naming e → IsThere naming.ranks e
is_there naming (Join q m) f = tt
is_there naming (Announce c) f = tt
is_there naming (Pass q m) f = tt
is_there naming (Settle q m) f = tt
is_there naming (Touch k w) f = f
is_there naming (EnterW k) f = tt
is_there naming (EnterR k) f = f
is_there naming (LeaveW k) f = tt
is_there naming (LeaveR k) f = tt

pub events_there : (place : ThePlace) (replay : Bool) (number : ℕ) (S : TheShard) → ShardFits (naming_of place) replay number S → replay ≡ true → (i : ℕ) (e : ℕ × Event) → slice_get S.events i ≡ Some e → IsThere (length place.paths) e.1
events_there place true number S fits so i e get = is_there (naming_of place) e.1 (event_fits (naming_of place) 0 S.events fits.events i e get)
events_there place false number S fits so i e get = absurd (cc)

-- ---- shards

shard_in : (naming : TheNaming) (replay : Bool) (from : ℕ) (shards : List TheShard) → ShardsFit naming replay from shards → (s : ℕ) (S : TheShard) → slice_get shards s ≡ Some S → ShardFits naming replay (from + s) S
shard_in naming replay from [] fits s S get = absurd (cc)
shard_in naming replay from (x ∷ xs) fits zero S get = let at : from ≡ from + 0 = omega arith in subst (λ n. ShardFits naming replay n S) at (subst (ShardFits naming replay from) (same_Some _ _ get) fits.0)
shard_in naming replay from (x ∷ xs) fits (suc s) S get = let at : from + 1 + s ≡ from + suc s = omega arith in subst (λ n. ShardFits naming replay n S) at (shard_in naming replay (from + 1) xs fits.1 s S get)

pub shard_fits : (naming : TheNaming) (replay : Bool) (shards : List TheShard) → ShardsFit naming replay 0 shards → (s : ℕ) (S : TheShard) → slice_get shards s ≡ Some S → ShardFits naming replay s S
shard_fits naming replay shards fits s S get = let at : 0 + s ≡ s = omega arith in subst (λ n. ShardFits naming replay n S) at (shard_in naming replay 0 shards fits s S get)

-- ---- the part of a shard

pub part_there : (shards items : List TheShard) → items ≡ shards → (s : ℕ) (part : TheShard) → s < length shards → part ≡ get_or items s part → slice_get shards s ≡ Some part
part_there shards items same s part low is =
    slice_get-get_or shards s part low ∙ ap (λ (z : List TheShard). Some (get_or z s part)) (sym same) ∙ ap (λ z. Some z) (sym is)

pub part_fits : (naming : TheNaming) (report : TheReport) → ReportFits naming report → (b : Bool) → b ≡ is_some report.steps → (s : ℕ) (part : TheShard) → slice_get report.shards s ≡ Some part → ShardFits naming b s part
part_fits naming report fits b mode s part get = subst (λ z. ShardFits naming z s part) (sym mode) (shard_fits naming (is_some report.steps) report.shards fits.shards s part get)

module _ (place : ThePlace) (report : TheReport) (s : ℕ) (part : TheShard) (b : Bool) (mode : b ≡ is_some report.steps) (there : slice_get report.shards s ≡ Some part) (homes : s < length place.homes) where
  pub first_on : (o : Option (ℕ × Test)) → IsFirstOf (shard_tests place b s (slice_index place.homes s) part) o →
      IsFirstOf (where_there place.homes s (λ home. where_there report.shards s (shard_tests place (is_some report.steps) s home))) o
  first_on o first =
      found_there place.homes s (λ home. where_there report.shards s (shard_tests place (is_some report.steps) s home))
      (slice_index place.homes s) (slice_get-get_or place.homes s 0 homes) o
      (found_there report.shards s (shard_tests place (is_some report.steps) s (slice_index place.homes s)) part there o
      (subst (λ z. IsFirstOf (shard_tests place z s (slice_index place.homes s) part) o) mode first))
