-- What events do to tallies: a count goes up by as much as they say, unless it is full.
use Rattle.std.specs.Prelude.{◌≡◌, ◌⊎◌, ◌≢◌, ℕ, zero, suc, ◌+◌, ◌<◌, ◌≤◌, ◌==◌, true, false, List, [], ◌∷◌, length, slice_set, slice_get, sum_by, get_or, Some, refl}
use Rattle.std.proofs.Common.{sym, ◌∙◌, ap, subst, inl, inr, ⊎_elim, arith, ltb, length-set}
use Rattle.std.proofs.lemmas.Bool.Decides.{nat_tests}
use Rattle.std.proofs.lemmas.List.Sums.{sum_by-set}
use Rattle.std.proofs.lemmas.Option.{slice_get_within, get_or_from_slice_get}
use Rattle.rl_word.specs.laws.Places.{get_set_same, get_set_other, same_or_not, one_at}
use Rattle.rl_step.specs.declared.events.Event.{Event}
use Rattle.rl_step.specs.declared.events.Event.TheVariants as event
use Rattle.rl_step.specs.declared.tallies.Tally.{Tally}
use Rattle.rl_step.specs.Queues.{count, settles, passes, settled, passed}
use Rattle.rl_shard.specs.declared.counting.CountedView.{CountedView}
use Rattle.rl_shard.specs.Tallies.{full, raised, tally_at, settled_once, passed_once, noted, all_noted}
use Rattle.rl_shard.specs.Counting.{AnyFull, ComeTo}

-- a count goes from n to m by so much, unless it is full then
abbrev pub Rises : ℕ → ℕ → ℕ → Type 0
Rises n d m = (full ≤ m) ⊎ (m ≡ n + d)

rises_once : (n : ℕ) → Rises n 1 (raised n)
rises_once n = elim (ltb (n + 1) full) as (λ b. ltb (n + 1) full ≡ b → Rises n 1 (raised n)) [
  | true ↦ λ e. let low : n + 1 < full = grind (arith, nat_tests) in inr (omega arith)
  | false ↦ λ e. let high : full ≤ n + 1 = grind (arith, nat_tests) in inl (omega arith)
] refl

rises_on : (n d m e k : ℕ) → Rises n d m → Rises m e k → Rises n (d + e) k
rises_on n d m e k one two = ⊎_elim (λ (h : full ≤ k). inl h) (λ (is : k ≡ m + e). ⊎_elim (λ (h : full ≤ m). inl (omega arith)) (λ (was : m ≡ n + d). inr (omega arith)) one) two

rises_still : (n m : ℕ) → m ≡ n → Rises n 0 m
rises_still n m e = inr (omega arith)

-- a tally is written: it is there, and all others stay
at_set : (ts : List Tally) (k q : ℕ) (t : Tally) → q < length ts → ((k ≡ q) × (tally_at q (slice_set ts k t) ≡ t)) ⊎ ((k ≢ q) × (tally_at q (slice_set ts k t) ≡ tally_at q ts))
at_set [] k q t h = absurd (omega arith)
at_set (x ∷ ts) zero zero t h = inl (refl, refl)
at_set (x ∷ ts) zero (suc q) t h = inr (λ e. absurd (omega arith), refl)
at_set (x ∷ ts) (suc k) zero t h = inr (λ e. absurd (omega arith), refl)
at_set (x ∷ ts) (suc k) (suc q) t h = ⊎_elim (λ p. inl (ap suc p.0, p.1)) (λ p. inr (λ e. p.0 (omega arith), p.1)) (at_set ts k q t (omega arith))

hit : (k q : ℕ) → k ≡ q → count (k == q) ≡ 1
hit k q e = let yes : (k == q) ≡ true = grind (arith, nat_tests) in ap count yes

miss : (k q : ℕ) → k ≢ q → count (k == q) ≡ 0
miss k q ne = let no : (k == q) ≡ false = grind (arith, nat_tests) in ap count no

-- a count f of the tallies is raised by t at queue k, or stays
raises_at : (f : Tally → ℕ) (ts : List Tally) (k q : ℕ) (t : Tally) → q < length ts → f t ≡ raised (f (tally_at k ts)) → Rises (f (tally_at q ts)) (count (k == q)) (f (tally_at q (slice_set ts k t)))
raises_at f ts k q t h is =
    ⊎_elim
    (λ (p : (k ≡ q) × (tally_at q (slice_set ts k t) ≡ t)).
    subst (λ n. Rises (f (tally_at q ts)) n (f (tally_at q (slice_set ts k t)))) (sym (hit k q p.0))
    (subst (Rises (f (tally_at q ts)) 1) (sym (ap f p.1 ∙ is ∙ ap (λ n. raised (f (tally_at n ts))) p.0)) (rises_once (f (tally_at q ts)))))
    (λ (p : (k ≢ q) × (tally_at q (slice_set ts k t) ≡ tally_at q ts)).
    subst (λ n. Rises (f (tally_at q ts)) n (f (tally_at q (slice_set ts k t)))) (sym (miss k q p.0)) (rises_still (f (tally_at q ts)) (f (tally_at q (slice_set ts k t))) (ap f p.1)))
    (at_set ts k q t h)

stays_at : (f : Tally → ℕ) (ts : List Tally) (k q : ℕ) (t : Tally) → q < length ts → f t ≡ f (tally_at k ts) → f (tally_at q (slice_set ts k t)) ≡ f (tally_at q ts)
stays_at f ts k q t h is =
    ⊎_elim
    (λ (p : (k ≡ q) × (tally_at q (slice_set ts k t) ≡ t)). ap f p.1 ∙ is ∙ ap (λ n. f (tally_at n ts)) p.0)
    (λ (p : (k ≢ q) × (tally_at q (slice_set ts k t) ≡ tally_at q ts)). ap f p.1)
    (at_set ts k q t h)

pub length_noted : (e : Event) (ts : List Tally) → length (noted e ts) ≡ length ts
length_noted (event.Join q m) ts = refl
length_noted (event.Announce c) ts = refl
length_noted (event.Pass q m) ts = length-set ts q (passed_once (tally_at q ts))
length_noted (event.Settle q m) ts = length-set ts q (settled_once (tally_at q ts))
length_noted (event.Touch k w) ts = refl
length_noted (event.EnterW k) ts = refl
length_noted (event.EnterR k) ts = refl
length_noted (event.LeaveW k) ts = refl
length_noted (event.LeaveR k) ts = refl

pub length_all : (es : List Event) (ts : List Tally) → length (all_noted es ts) ≡ length ts
length_all [] ts = refl
length_all (e ∷ es) ts = length_all es (noted e ts) ∙ length_noted e ts

settles_once : (q : ℕ) (e : Event) (ts : List Tally) → q < length ts → Rises (tally_at q ts).settled (settles q e) (tally_at q (noted e ts)).settled
settles_once q (event.Join k m) ts h = rises_still _ _ refl
settles_once q (event.Announce c) ts h = rises_still _ _ refl
settles_once q (event.Pass k m) ts h = rises_still _ _ (stays_at (λ t. t.settled) ts k q (passed_once (tally_at k ts)) h refl)
settles_once q (event.Settle k m) ts h = raises_at (λ t. t.settled) ts k q (settled_once (tally_at k ts)) h refl
settles_once q (event.Touch k w) ts h = rises_still _ _ refl
settles_once q (event.EnterW k) ts h = rises_still _ _ refl
settles_once q (event.EnterR k) ts h = rises_still _ _ refl
settles_once q (event.LeaveW k) ts h = rises_still _ _ refl
settles_once q (event.LeaveR k) ts h = rises_still _ _ refl

passes_once : (q : ℕ) (e : Event) (ts : List Tally) → q < length ts → Rises (tally_at q ts).passed (passes q e) (tally_at q (noted e ts)).passed
passes_once q (event.Join k m) ts h = rises_still _ _ refl
passes_once q (event.Announce c) ts h = rises_still _ _ refl
passes_once q (event.Pass k m) ts h = raises_at (λ t. t.passed) ts k q (passed_once (tally_at k ts)) h refl
passes_once q (event.Settle k m) ts h = rises_still _ _ (stays_at (λ t. t.passed) ts k q (settled_once (tally_at k ts)) h refl)
passes_once q (event.Touch k w) ts h = rises_still _ _ refl
passes_once q (event.EnterW k) ts h = rises_still _ _ refl
passes_once q (event.EnterR k) ts h = rises_still _ _ refl
passes_once q (event.LeaveW k) ts h = rises_still _ _ refl
passes_once q (event.LeaveR k) ts h = rises_still _ _ refl

-- after some events
pub settles_all : (q : ℕ) (es : List Event) (ts : List Tally) → q < length ts → Rises (tally_at q ts).settled (settled q es) (tally_at q (all_noted es ts)).settled
settles_all q [] ts h = rises_still _ _ refl
settles_all q (e ∷ es) ts h =
    rises_on (tally_at q ts).settled (settles q e) (tally_at q (noted e ts)).settled (settled q es) (tally_at q (all_noted es (noted e ts))).settled
    (settles_once q e ts h) (settles_all q es (noted e ts) (let l = length_noted e ts in omega arith))

pub passes_all : (q : ℕ) (es : List Event) (ts : List Tally) → q < length ts → Rises (tally_at q ts).passed (passed q es) (tally_at q (all_noted es ts)).passed
passes_all q [] ts h = rises_still _ _ refl
passes_all q (e ∷ es) ts h =
    rises_on (tally_at q ts).passed (passes q e) (tally_at q (noted e ts)).passed (passed q es) (tally_at q (all_noted es (noted e ts))).passed
    (passes_once q e ts h) (passes_all q es (noted e ts) (let l = length_noted e ts in omega arith))

-- the counts of all ranks come to so much more, where one rank's goes up by it
pub come_to_more : {V : Type 0} (f : CountedView V → ℕ) (vs : List (CountedView V)) (r : ℕ) (x y : CountedView V) (n d : ℕ) → slice_get vs r ≡ Some x →
    Rises (f x) d (f y) → ComeTo f vs n → ComeTo f (slice_set vs r y) (n + d)
come_to_more f vs r x y n d has rises sum =
    let new : slice_get (slice_set vs r y) r ≡ Some y = get_set_same vs r x y has in
    ⊎_elim
    (λ (high : full ≤ f y). inl (record { rank = r; view = y; has = new; is_full = high }))
    (λ (is : f y ≡ f x + d). ⊎_elim
    (λ (w : AnyFull f vs). inl (⊎_elim
    (λ (e : w.rank ≡ r). record {
      rank = r;
      view = y;
      has = new;
      is_full = let h = w.is_full in let same = ap f (one_at vs r w.view x (subst (λ k. slice_get vs k ≡ Some w.view) e w.has) has) in omega arith;
    })
    (λ (ne : w.rank ≢ r). record { rank = w.rank; view = w.view; has = get_set_other vs r w.rank y ne ∙ w.has; is_full = w.is_full })
    (same_or_not w.rank r)))
    (λ (all : sum_by f vs ≡ n). inr (
    let low : r < length vs = slice_get_within vs r x has in
    let was : f (get_or vs r x) ≡ f x = ap f (get_or_from_slice_get vs r x x has) in
    omega (arith, sum_by-set f vs r y x low)))
    sum)
    rises
