-- The events of a shard but for its touches: they fit a report, keep what the whole trace keeps, and count for its queues as it does.
use Rattle.std.proofs.Common.{◌≡◌, ◌⊎◌, ℕ, zero, suc, ◌+◌, ◌<◌, ◌≤◌, Bool, true, false, cond, List, [], ◌∷◌, length, refl, sym, ap, subst, ◌∙◌, ⊎_elim, arith}
use Rattle.std.specs.Prelude.{filter}
use Rattle.rl_step.specs.declared.events.Event.{Event}
use Rattle.rl_step.specs.declared.events.Event.TheVariants.{Join, Announce, Pass, Settle, Touch, EnterW, EnterR, LeaveW, LeaveR}
use Rattle.rl_step.specs.declared.tallies.Tally.{Tally}
use Rattle.rl_step.specs.Exclusion.{IsExclusive, ExclusiveFrom, writers_after, readers_after, nobody}
use Rattle.rl_step.specs.laws.ExclusionLaws.{is_exclusive, exclusive_from}
use Rattle.rl_step.specs.Lock.{Names, AllNamed}
use Rattle.rl_step.specs.Queues.{QueueOf, settles, passes, settled, passed, tally_of, room_after, WithinFrom}
use Rattle.rl_step.specs.laws.QueueLemmas.{is_within, within_from}
use Rattle.rl_step.specs.QueuePromises.{KeepBudgets}
use Rattle.rl_ops.specs.declared.schedule.TheConstants.{MOST_STEPS}
use Rattle.rl_place.specs.Places.{ThePlace, IsProper}
use Rattle.rl_core.specs.EventRanks.{IsByRank, AreByRanks}
use Rattle.rl_report.specs.Naming.{EventFits, naming_of}
use Rattle.rl_report.specs.Reports.{EachAfter, StepFits, step_of}
use Rattle.rl_report.specs.Spelling.{is_printed}
use Rattle.rl_report.specs.Tallies.{tallies_from}
use Rattle.rl_step.specs.Traces.{events_of}
use Rattle.rl_report.specs.Lawful.{queues_at}
use Rattle.rl_report.proofs.MemberLaws.{member_named}
use Rattle.rl_machine.specs.EventOrder.{AreOrdered, AreBefore}
use Rattle.rl_check.specs.Shards.{KeepsRules}
use Rattle.rl_program.specs.Replay.{AreCohortsOf}

abbrev pub untouched : List (ℕ × Event) → List (ℕ × Event)
untouched t = filter (λ e. is_printed e.1) t

-- what isn't printed is a touch
touch_is : (e : Event) → is_printed e ≡ false → (k : ℕ) × (w : Bool) × (e ≡ Touch k w)
touch_is (Touch k w) h = (k, w, refl)
touch_is (Join q m) h = absurd (cc)
touch_is (Announce c) h = absurd (cc)
touch_is (Pass q m) h = absurd (cc)
touch_is (Settle q m) h = absurd (cc)
touch_is (EnterW k) h = absurd (cc)
touch_is (EnterR k) h = absurd (cc)
touch_is (LeaveW k) h = absurd (cc)
touch_is (LeaveR k) h = absurd (cc)

-- ---- what is kept

exclusive_still : (ws rs : ℕ → Bool) (t : List (ℕ × Event)) → ExclusiveFrom ws rs (events_of t) → ExclusiveFrom ws rs (events_of (untouched t))
exclusive_still ws rs [] x = x
exclusive_still ws rs (e ∷ t) x =
    elim (is_printed e.1) as (λ b. is_printed e.1 ≡ b → ExclusiveFrom ws rs (events_of (cond b (e ∷ untouched t) (untouched t)))) [
      | true ↦ λ q. (x.0, x.1, exclusive_still (writers_after e.1 ws) (readers_after e.1 rs) t x.2)
      | false ↦ λ q. let z = touch_is e.1 q in exclusive_still ws rs t (subst (λ f. ExclusiveFrom (writers_after f ws) (readers_after f rs) (events_of t)) z.2 x.2)
    ] refl

within_still : (q budget room : ℕ) (t : List (ℕ × Event)) → WithinFrom q budget room (events_of t) → WithinFrom q budget room (events_of (untouched t))
within_still q budget room [] x = tt
within_still q budget room (e ∷ t) x =
    elim (is_printed e.1) as (λ b. is_printed e.1 ≡ b → WithinFrom q budget room (events_of (cond b (e ∷ untouched t) (untouched t)))) [
      | true ↦ λ p. (x.0, within_still q budget (room_after q budget e.1 room) t x.1)
      | false ↦ λ p. let z = touch_is e.1 p in within_still q budget room t (subst (λ f. WithinFrom q budget (room_after q budget f room) (events_of t)) z.2 x.1)
    ] refl

pub rules_still : (queues : List QueueOf) (t : List (ℕ × Event)) → IsExclusive (events_of t) → KeepBudgets queues (events_of t) → KeepsRules queues (events_of (untouched t))
rules_still queues t exclusive budgets =
    record {
      exclusive = is_exclusive (events_of (untouched t)) (exclusive_still nobody nobody t (exclusive_from (events_of t) exclusive));
      budgets = λ q budget queue has b. is_within (events_of (untouched t)) q budget (within_still q budget 0 t (within_from (events_of t) q budget (budgets q budget queue has b)));
    }

-- ---- what is counted

settled_still : (q : ℕ) (t : List (ℕ × Event)) → settled q (events_of (untouched t)) ≡ settled q (events_of t)
settled_still q [] = refl
settled_still q (e ∷ t) =
    elim (is_printed e.1) as (λ b. is_printed e.1 ≡ b → settled q (events_of (cond b (e ∷ untouched t) (untouched t))) ≡ settles q e.1 + settled q (events_of t)) [
      | true ↦ λ p. ap (λ n. settles q e.1 + n) (settled_still q t)
      | false ↦ λ p. let z = touch_is e.1 p in let none : settles q e.1 ≡ 0 = ap (settles q) z.2 in settled_still q t ∙ omega arith
    ] refl

passed_still : (q : ℕ) (t : List (ℕ × Event)) → passed q (events_of (untouched t)) ≡ passed q (events_of t)
passed_still q [] = refl
passed_still q (e ∷ t) =
    elim (is_printed e.1) as (λ b. is_printed e.1 ≡ b → passed q (events_of (cond b (e ∷ untouched t) (untouched t))) ≡ passes q e.1 + passed q (events_of t)) [
      | true ↦ λ p. ap (λ n. passes q e.1 + n) (passed_still q t)
      | false ↦ λ p. let z = touch_is e.1 p in let none : passes q e.1 ≡ 0 = ap (passes q) z.2 in passed_still q t ∙ omega arith
    ] refl

same_tally : (a b c d : ℕ) → a ≡ c → b ≡ d → ◌≡◌ {A = Tally} (record { settled = a; passed = b }) (record { settled = c; passed = d })
same_tally a b c d e f = cc

pub tallies_still : (from n : ℕ) (t : List (ℕ × Event)) → tallies_from from n (events_of t) ≡ tallies_from from n (events_of (untouched t))
tallies_still from zero t = refl
tallies_still from (suc n) t =
    ap (λ x. x ∷ tallies_from (from + 1) n (events_of t)) (same_tally _ _ _ _ (sym (settled_still from t)) (sym (passed_still from t)))
    ∙ ap (λ xs. tally_of from (events_of (untouched t)) ∷ xs) (tallies_still (from + 1) n t)

pub tallies_long : (from n : ℕ) (t : List Event) → length (tallies_from from n t) ≡ n
tallies_long from zero t = refl
tallies_long from (suc n) t = ap suc (tallies_long (from + 1) n t)

-- ---- what fits

module _ (place : ThePlace) (proper : IsProper place) (home : ℕ) (cohort : ℕ → Bool) (cohorts : AreCohortsOf place.lock cohort) (steps : ℕ) (few : steps ≤ MOST_STEPS) where
  event_fits : (e : Event) → Names (queues_at place home) cohort e → IsByRank (length place.paths) e → is_printed e ≡ true → EventFits (naming_of place) e
  event_fits (Join q m) names by printed = member_named place proper home q m names
  event_fits (Announce c) names by printed = cohorts c names
  event_fits (Pass q m) names by printed = member_named place proper home q m names
  event_fits (Settle q m) names by printed = member_named place proper home q m names
  event_fits (Touch k w) names by printed = absurd (let bad : false ≡ true = printed in cc)
  event_fits (EnterW k) names by printed = by
  event_fits (EnterR k) names by printed = by
  event_fits (LeaveW k) names by printed = by
  event_fits (LeaveR k) names by printed = by

  -- the first of the events, if there is one, is of this step or a later one
  abbrev pub BeginsFrom : ℕ → List (ℕ × Event) → Type 0
  BeginsFrom least [] = Unit {0}
  BeginsFrom least (e ∷ t) = least ≤ e.0

  goes_on : (e : ℕ × Event) (t : List (ℕ × Event)) → AreOrdered (e ∷ t) → BeginsFrom e.0 t × AreOrdered t
  goes_on e [] o = (tt, tt)
  goes_on e (f ∷ t) o = (⊎_elim (λ (low : e.0 < f.0). omega arith) (λ (q : (e.0 ≡ f.0) × _). let same = q.0 in omega arith) o.0, o.1)

  from_before : (least now : ℕ) (t : List (ℕ × Event)) → least ≤ now → BeginsFrom now t → BeginsFrom least t
  from_before least now [] low b = tt
  from_before least now (e ∷ t) low b = omega arith

  pub events_fit : (least : ℕ) (t : List (ℕ × Event)) → BeginsFrom least t → AreOrdered t → AreBefore steps t → AllNamed (queues_at place home) cohort (events_of t) → AreByRanks (length place.paths) (events_of t) →
      EachAfter (StepFits (naming_of place)) step_of least (untouched t)
  events_fit least [] from o before names by = tt
  events_fit least (e ∷ t) from o before names by =
      let next = goes_on e t o in
      let now : least ≤ e.0 = from in
      let low : e.0 < MOST_STEPS = let b = before.0 in omega (arith, few, b) in
      elim (is_printed e.1) as (λ b. is_printed e.1 ≡ b → EachAfter (StepFits (naming_of place)) step_of least (cond b (e ∷ untouched t) (untouched t))) [
        | true ↦ λ p. ((now, low, event_fits e.1 names.0 by.0 p), events_fit e.0 t next.0 next.1 before.1 names.1 by.1)
        | false ↦ λ p. events_fit least t (from_before least e.0 t now next.0) next.1 before.1 names.1 by.1
      ] refl
