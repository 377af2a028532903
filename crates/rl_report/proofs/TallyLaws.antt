-- The tallies of queues after one event more.
use Rattle.std.proofs.Common.{◌≡◌, ◌≢◌, ℕ, zero, suc, ◌+◌, ◌<◌, ◌≤◌, Bool, true, false, eqb, List, [], ◌∷◌, ◌++◌, length, get_or, slice_set, take, Option, Some, None, replicate, refl, sym, ap, subst, ◌∙◌, add-one, eq-eqb, length-take, arith}
use Rattle.std.proofs.lemmas.Bool.{ne_eqb}
use Rattle.std.proofs.lemmas.List.{map-append}
use Rattle.std.proofs.lemmas.Option.{same_Some}
use Rattle.std.proofs.Math.Seq.{take-suc}
use Rattle.rl_step.specs.declared.events.Event.{Event}
use Rattle.rl_step.specs.declared.events.Event.TheVariants.{Join, Announce, Pass, Settle, Touch, EnterW, EnterR, LeaveW, LeaveR}
use Rattle.rl_step.specs.declared.tallies.Tally.{Tally}
use Rattle.rl_step.specs.Queues.{count, settles, passes, settled, passed, tally_of}
use Rattle.rl_step.specs.laws.QueueLemmas.{settled-append, passed-append}
use Rattle.rl_report.specs.Tallies.{tallies_from, counts_for}
use Rattle.rl_step.specs.Traces.{events_of}

-- a tally by its numbers
same_tally : (a b c d : ℕ) → a ≡ c → b ≡ d → ◌≡◌ {A = Tally} (record { settled = a; passed = b }) (record { settled = c; passed = d })
same_tally a b c d e f = cc

-- one event more
more : (q : ℕ) (t : List Event) (e : Event) → tally_of q (t ++ e ∷ []) ≡ record { settled = settled q t + settles q e; passed = passed q t + passes q e }
more q t e = same_tally _ _ _ _ (settled-append q t (e ∷ []) ∙ omega arith) (passed-append q t (e ∷ []) ∙ omega arith)

-- ---- events that count

hits : (q : ℕ) → count (eqb q q) ≡ 1
hits q = ap count (eq-eqb q q refl)

misses : (q k : ℕ) → k ≢ q → count (eqb q k) ≡ 0
misses q k ne = ap count (ne_eqb q k (λ e. ne (sym e)))

-- what an event counts for a queue, by the queue that it counts for
record Counts (e : Event) (o : Option (ℕ × Tally)) : Type 0 where
  none : o ≡ None → (k : ℕ) → (settles k e ≡ 0) × (passes k e ≡ 0)
  here : (q : ℕ) (a : Tally) → o ≡ Some (q, a) → (settles q e ≡ a.settled) × (passes q e ≡ a.passed)
  elsewhere : (q : ℕ) (a : Tally) → o ≡ Some (q, a) → (k : ℕ) → k ≢ q → (settles k e ≡ 0) × (passes k e ≡ 0)

uncounted : (e : Event) → ((k : ℕ) → (settles k e ≡ 0) × (passes k e ≡ 0)) → Counts e None
uncounted e h = record { none = λ is k. h k; here = λ q a is. absurd (cc); elsewhere = λ q a is. absurd (cc) }

counted : (e : Event) (p : ℕ) (b : Tally) → (settles p e ≡ b.settled) × (passes p e ≡ b.passed) → ((k : ℕ) → k ≢ p → (settles k e ≡ 0) × (passes k e ≡ 0)) → Counts e (Some (p, b))
counted e p b here else = record {
  none = λ is. absurd (cc);
  here = λ q a is.
      let same : ◌≡◌ {A = ℕ × Tally} (p, b) (q, a) = same_Some _ _ is in
      subst (λ (z : ℕ × Tally). (settles z.0 e ≡ z.1.settled) × (passes z.0 e ≡ z.1.passed)) same here;
  elsewhere = λ q a is k ne.
      let same : ◌≡◌ {A = ℕ × Tally} (p, b) (q, a) = same_Some _ _ is in
      else k (λ at. ne (at ∙ ap (λ (z : ℕ × Tally). z.0) same));
}

counts : (e : Event) → Counts e (counts_for e)
counts (Join q m) = uncounted _ (λ k. (refl, refl))
counts (Announce c) = uncounted _ (λ k. (refl, refl))
counts (Pass q m) = counted (Pass q m) q (record { settled = 0; passed = 1 }) (refl, hits q) (λ k ne. (refl, misses q k ne))
counts (Settle q m) = counted (Settle q m) q (record { settled = 1; passed = 0 }) (hits q, refl) (λ k ne. (misses q k ne, refl))
counts (Touch k w) = uncounted _ (λ k. (refl, refl))
counts (EnterW k) = uncounted _ (λ k. (refl, refl))
counts (EnterR k) = uncounted _ (λ k. (refl, refl))
counts (LeaveW k) = uncounted _ (λ k. (refl, refl))
counts (LeaveR k) = uncounted _ (λ k. (refl, refl))

-- ---- the tallies of queues

stays : (k : ℕ) (t : List Event) (e : Event) → (settles k e ≡ 0) × (passes k e ≡ 0) → tally_of k (t ++ e ∷ []) ≡ tally_of k t
stays k t e none = more k t e ∙ same_tally _ _ _ _ (omega (arith, none.0)) (omega (arith, none.1))

all_stay : (from n : ℕ) (t : List Event) (e : Event) → ((k : ℕ) → k < from + n → (settles k e ≡ 0) × (passes k e ≡ 0)) → tallies_from from n (t ++ e ∷ []) ≡ tallies_from from n t
all_stay from zero t e none = refl
all_stay from (suc n) t e none =
    ap (λ x. x ∷ tallies_from (from + 1) n (t ++ e ∷ [])) (stays from t e (none from (omega arith)))
    ∙ ap (λ xs. tally_of from t ∷ xs) (all_stay (from + 1) n t e (λ k high. none k (omega arith)))

-- the queues behind one, of which none counts
rest_stay : (from n : ℕ) (t : List Event) (e : Event) → ((k : ℕ) → from < k → (settles k e ≡ 0) × (passes k e ≡ 0)) → tallies_from (from + 1) n (t ++ e ∷ []) ≡ tallies_from (from + 1) n t
rest_stay from zero t e none = refl
rest_stay from (suc n) t e none =
    ap (λ x. x ∷ tallies_from (from + 1 + 1) n (t ++ e ∷ [])) (stays (from + 1) t e (none (from + 1) (omega arith)))
    ∙ ap (λ xs. tally_of (from + 1) t ∷ xs) (rest_stay (from + 1) n t e (λ k high. none k (omega arith)))

one_counts : (from n q : ℕ) (t : List Event) (e : Event) → q < n → ((k : ℕ) → k ≢ from + q → (settles k e ≡ 0) × (passes k e ≡ 0))
    → slice_set (tallies_from from n t) q (tally_of (from + q) (t ++ e ∷ [])) ≡ tallies_from from n (t ++ e ∷ [])
one_counts from zero q t e low else = absurd (omega arith)
one_counts from (suc n) zero t e low else =
    ap (λ k. tally_of k (t ++ e ∷ []) ∷ tallies_from (from + 1) n t) (omega arith)
    ∙ ap (λ xs. tally_of from (t ++ e ∷ []) ∷ xs) (sym (rest_stay from n t e (λ k high. else k (λ same. absurd (omega arith)))))
one_counts from (suc n) (suc q) t e low else =
    let place : from + 1 + q ≡ from + suc q = omega arith in
    ap (λ y. y ∷ slice_set (tallies_from (from + 1) n t) q (tally_of (from + suc q) (t ++ e ∷ []))) (sym (stays from t e (else from (λ same. absurd (omega arith)))))
    ∙ ap (λ k. tally_of from (t ++ e ∷ []) ∷ slice_set (tallies_from (from + 1) n t) q (tally_of k (t ++ e ∷ []))) (sym place)
    ∙ ap (λ xs. tally_of from (t ++ e ∷ []) ∷ xs) (one_counts (from + 1) n q t e (omega arith) (λ k ne. else k (λ same. ne (same ∙ sym place))))

got_is : (from n q : ℕ) (t : List Event) (d : Tally) → q < n → get_or (tallies_from from n t) q d ≡ tally_of (from + q) t
got_is from zero q t d low = absurd (omega arith)
got_is from (suc n) zero t d low = ap (λ k. tally_of k t) (omega arith)
got_is from (suc n) (suc q) t d low = got_is (from + 1) n q t d (omega arith) ∙ ap (λ k. tally_of k t) (omega arith)

-- no queue is settled and passed more often than there were events
count_low : (b : Bool) → count b ≤ 1
count_low true = omega arith
count_low false = omega arith

settles_low : (q : ℕ) (e : Event) → settles q e + passes q e ≤ 1
settles_low q (Join k m) = omega arith
settles_low q (Announce c) = omega arith
settles_low q (Pass k m) = omega (arith, count_low (eqb k q))
settles_low q (Settle k m) = omega (arith, count_low (eqb k q))
settles_low q (Touch k w) = omega arith
settles_low q (EnterW k) = omega arith
settles_low q (EnterR k) = omega arith
settles_low q (LeaveW k) = omega arith
settles_low q (LeaveR k) = omega arith

few_counted : (q : ℕ) (t : List Event) → settled q t + passed q t ≤ length t
few_counted q [] = omega arith
few_counted q (e ∷ t) = omega (arith, few_counted q t, settles_low q e)

same_length : (events : List (ℕ × Event)) → length (events_of events) ≡ length events
same_length [] = refl
same_length (e ∷ events) = ap suc (same_length events)

-- before the first event
pub none_yet : (from n : ℕ) → replicate n (record { settled = 0; passed = 0 }) ≡ tallies_from from n []
none_yet from zero = refl
none_yet from (suc n) = ap (λ xs. record { settled = 0; passed = 0 } ∷ xs) (none_yet (from + 1) n)

-- the trace up to one event more
trace_more : (events : List (ℕ × Event)) (place : ℕ) (d : ℕ × Event) → place < length events → events_of (take (place + 1) events) ≡ events_of (take place events) ++ (get_or events place d).1 ∷ []
trace_more events place d there =
    ap (λ n. events_of (take n events)) (add-one place) ∙ ap events_of (take-suc events place d there) ∙ map-append (λ (e : ℕ × Event). e.1) (take place events) (get_or events place d ∷ [])

-- the event at a place, after those before it
module _ (ts : List Tally) (events : List (ℕ × Event)) (place : ℕ) (d : ℕ × Event) (there : place < length events) (so_far : ts ≡ tallies_from 0 (length ts) (events_of (take place events))) where
  abbrev trace : List Event
  trace = events_of (take place events)

  abbrev event : Event
  event = (get_or events place d).1

  abbrev then : List Tally
  then = tallies_from 0 (length ts) (events_of (take (place + 1) events))

  next : then ≡ tallies_from 0 (length ts) (trace ++ event ∷ [])
  next = ap (tallies_from 0 (length ts)) (trace_more events place d there)

  -- it counts for no queue
  pub counts_none : counts_for event ≡ None → ts ≡ then
  counts_none is = so_far ∙ sym (next ∙ all_stay 0 (length ts) trace event (λ k high. (counts event).none is k))

  -- it counts for a queue that isn't there
  pub counts_beyond : (q : ℕ) (a : Tally) → counts_for event ≡ Some (q, a) → length ts ≤ q → ts ≡ then
  counts_beyond q a is past = so_far ∙ sym (next ∙ all_stay 0 (length ts) trace event (λ k high. (counts event).elsewhere q a is k (λ same. absurd (omega arith))))

  -- a queue's numbers so far
  at_queue : (q : ℕ) (z : Tally) → q < length ts → get_or ts q z ≡ tally_of q trace
  at_queue q z low = ap (λ xs. get_or xs q z) so_far ∙ got_is 0 (length ts) q trace z low ∙ ap (λ k. tally_of k trace) (omega arith)

  -- it counts for a queue that is there
  pub counts_one : (q : ℕ) (a z : Tally) → counts_for event ≡ Some (q, a) → q < length ts → slice_set ts q (record { settled = (get_or ts q z).settled + a.settled; passed = (get_or ts q z).passed + a.passed }) ≡ then
  counts_one q a z is low =
      let here = (counts event).here q a is in
      let had : get_or ts q z ≡ tally_of q trace = at_queue q z low in
      let same : 0 + q ≡ q = omega arith in
      let new : ◌≡◌ {A = Tally} (record { settled = (get_or ts q z).settled + a.settled; passed = (get_or ts q z).passed + a.passed }) (tally_of (0 + q) (trace ++ event ∷ [])) =
      same_tally _ _ _ _ (omega (arith, ap (λ (y : Tally). y.settled) had, here.0)) (omega (arith, ap (λ (y : Tally). y.passed) had, here.1)) ∙ sym (more q trace event) ∙ ap (λ k. tally_of k (trace ++ event ∷ [])) (sym same) in
      ap (slice_set ts q) new ∙ ap (λ xs. slice_set xs q (tally_of (0 + q) (trace ++ event ∷ []))) so_far
      ∙ one_counts 0 (length ts) q trace event low (λ k ne. (counts event).elsewhere q a is k (λ e. ne (e ∙ sym same))) ∙ sym next

  -- and the sums fit
  pub sums_fit : (q : ℕ) (a z : Tally) → counts_for event ≡ Some (q, a) → q < length ts → ((get_or ts q z).settled + a.settled ≤ length events) × ((get_or ts q z).passed + a.passed ≤ length events)
  sums_fit q a z is low =
      let here = (counts event).here q a is in
      let had : get_or ts q z ≡ tally_of q trace = at_queue q z low in
      let few : settled q trace + passed q trace ≤ length trace = few_counted q trace in
      let one = settles_low q event in
      let short : length trace ≤ place = omega (arith, same_length (take place events), length-take place events) in
      (omega (arith, ap (λ (y : Tally). y.settled) had, here.0), omega (arith, ap (λ (y : Tally). y.passed) had, here.1))
