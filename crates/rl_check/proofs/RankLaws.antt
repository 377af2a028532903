-- The tests of a rank, by what the code has found.
use Rattle.std.proofs.Common.{◌≡◌, ◌≢◌, ℕ, zero, suc, ◌+◌, ◌<◌, ◌≤◌, Bool, true, false, cond, List, [], ◌∷◌, length, drop, get_or, Option, Some, None, replicate, IsTrue, refl, sym, ap, subst, ◌∙◌, inr, ⊎_elim, arith, add-one}
use Rattle.std.specs.Prelude.{slice_get, slice_set, ◌↔◌}
use Rattle.std.specs.List.{count_by}
use Rattle.std.proofs.lemmas.List.{at_drop_more, at_drop_all}
use Rattle.std.specs.Prelude.{nat_lt}
use Rattle.rl_word.specs.laws.Places.{get_set_cases}
use Rattle.rl_report.specs.declared.report.Done.{Done}
use Rattle.std.proofs.lemmas.Option.{same_Some, slice_get-get_or}
use Rattle.std.proofs.lemmas.Bool.Decides.{nat_tests}
use Rattle.rl_model.specs.declared.call.Call.{Call}
use Rattle.rl_model.specs.declared.entry.Entry.{Entry}
use Rattle.rl_model.specs.Asked.{Asked}
use Rattle.rl_model.proofs.Counts.{count-cons}
use Rattle.rl_ops.specs.Asked.{asked_of, asked_after}
use Rattle.rl_check.specs.declared.slots.Slot.{Slot}
use Rattle.rl_check.specs.declared.slots.Slot.TheVariants.{Empty, One, More}
use Rattle.rl_check.specs.declared.ranks.Part.{Part}
use Rattle.rl_check.specs.Ranks.{Stands, is_numbered, IsCalled, IsFresh, IsLatest, IsFreshAfter, IsDone}
use Rattle.rl_check.specs.Slots.{SlotTells, AreSlots, LastIs, AreLasts, GoesOnWith, AreCalled, begun_by}
use Rattle.rl_check.proofs.Places.{below_next}
use Rattle.rl_check.proofs.SlotLaws.{one_of_one}

numbered : (i : ℕ) (e : Entry) → e.seq ≡ i → is_numbered i e ≡ true
numbered i e h = grind (arith, nat_tests)

-- ---- what is asked for

from_drop : (xs : List Asked) (i : ℕ) (x : Asked) (rest : List Asked) → drop i xs ≡ x ∷ rest → (slice_get xs i ≡ Some x) × (drop (i + 1) xs ≡ rest)
from_drop xs i x rest e = (by xs i e, ap (λ n. drop n xs) (add-one i) ∙ on xs i e) where
  by : (xs : List Asked) (i : ℕ) → drop i xs ≡ x ∷ rest → slice_get xs i ≡ Some x
  by [] zero e = absurd (cc)
  by [] (suc i) e = absurd (cc)
  by (y ∷ xs) zero e = cc
  by (y ∷ xs) (suc i) e = by xs i e

  on : (xs : List Asked) (i : ℕ) → drop i xs ≡ x ∷ rest → drop (suc i) xs ≡ rest
  on [] zero e = absurd (cc)
  on [] (suc i) e = absurd (cc)
  on (y ∷ xs) zero e = cc
  on (y ∷ xs) (suc i) e = on xs i e

next_asked : (p : Part) (size : ℕ) (c : Call) (cs : List Call) (ss : List ℕ) →
    asked_after p.batch p.part (c ∷ cs) (size ∷ ss) ≡ record { call = c; batch = (begun_by p size).batch; part = (begun_by p size).part } ∷ asked_after (begun_by p size).batch ((begun_by p size).part + 1) cs ss
next_asked p zero c cs ss = refl
next_asked p (suc n) c cs ss = refl

module _ (calls : List Call) (sizes : List ℕ) (sized : length sizes ≡ length calls) where
  -- the call at a place, and how it goes on
  pub asked_here : (i : ℕ) (p : Part) (c : Call) (s : ℕ) → i < length calls → GoesOnWith calls sizes i p.batch p.part →
      (slice_get (asked_of calls sizes) i ≡ Some (record { call = get_or calls i c; batch = (begun_by p (get_or sizes i s)).batch; part = (begun_by p (get_or sizes i s)).part }))
      × GoesOnWith calls sizes (i + 1) (begun_by p (get_or sizes i s)).batch ((begun_by p (get_or sizes i s)).part + 1)
  asked_here i p c s low on =
      let cs : drop i calls ≡ get_or calls i c ∷ drop (i + 1) calls = at_drop_more (λ x. x) calls i c low in
      let ss : drop i sizes ≡ get_or sizes i s ∷ drop (i + 1) sizes = at_drop_more (λ x. x) sizes i s (omega arith) in
      from_drop (asked_of calls sizes) i _ _
      (on ∙ ap (λ z. asked_after p.batch p.part z (drop i sizes)) cs ∙ ap (asked_after p.batch p.part (get_or calls i c ∷ drop (i + 1) calls)) ss
      ∙ next_asked p (get_or sizes i s) (get_or calls i c) (drop (i + 1) calls) (drop (i + 1) sizes))

-- ---- one call

module _ (asked : List Asked) (own : List Entry) (i : ℕ) where
  pub is_called : (e : Entry) (c : Call) (b p : ℕ) → SlotTells own i (One e) → slice_get asked i ≡ Some (record { call = c; batch = b; part = p }) → e.call ≡ c → e.batch ≡ b → e.part ≡ p → IsCalled asked own i
  is_called e c b p told at call batch part =
      record {
        once = told.0;
        asked_is = λ f stands seq.
            let same : e ≡ f = one_of_one (is_numbered i) own e f told.1.0 stands.0 told.0 told.1.1 (numbered i e told.2) stands.1 (numbered i f seq) in
            subst (λ (z : Entry). slice_get asked i ≡ Some (record { call = z.call; batch = z.batch; part = z.part })) same
            (at ∙ ap (λ z. Some z) (same_asked c e.call b e.batch p e.part (sym call) (sym batch) (sym part)));
      } where
        same_asked : (c d : Call) (b x p y : ℕ) → c ≡ d → b ≡ x → p ≡ y → ◌≡◌ {A = Asked} (record { call = c; batch = b; part = p }) (record { call = d; batch = x; part = y })
        same_asked c d b x p y h k l = cc

  -- it is not, where nothing was found
  pub isnt_called : (s : Slot) (c : Call) (b p : ℕ) (found : Option Entry) → SlotTells own i s → slice_get asked i ≡ Some (record { call = c; batch = b; part = p }) →
      ((e : Entry) → s ≡ One e → e.call ≡ c → e.batch ≡ b → e.part ≡ p → found ≡ Some e) → found ≡ None → IsCalled asked own i → ⊥
  isnt_called Empty c b p found told at is none called = let one = called.once in absurd (omega arith)
  isnt_called More c b p found told at is none called = let one = called.once in absurd (omega arith)
  isnt_called (One e) c b p found told at is none called =
      let there : slice_get asked i ≡ Some (record { call = e.call; batch = e.batch; part = e.part }) = called.asked_is e told.1 told.2 in
      let same : ◌≡◌ {A = Asked} (record { call = e.call; batch = e.batch; part = e.part }) (record { call = c; batch = b; part = p }) = same_Some _ _ (sym there ∙ at) in
      let some : found ≡ Some e = is e refl (ap (λ (z : Asked). z.call) same) (ap (λ (z : Asked). z.batch) same) (ap (λ (z : Asked). z.part) same) in
      let bad : ◌≡◌ {A = Option Entry} None (Some e) = sym none ∙ some in cc

  -- nothing is asked for
  pub past_calls : slice_get asked i ≡ None → IsCalled asked own i → ⊥
  past_calls none called = by own refl where
    stands_one : (xs : List Entry) → count_by (is_numbered i) xs ≡ 1 → (e : Entry) × Stands xs e × (e.seq ≡ i)
    stands_one [] one = absurd (cc)
    stands_one (x ∷ xs) one =
        elim (is_numbered i x) as (λ b. is_numbered i x ≡ b → (e : Entry) × Stands (x ∷ xs) e × (e.seq ≡ i)) [
          | true ↦ λ h. (x, (0, refl), grind (arith, nat_tests))
          | false ↦ λ h.
              let z : ◌≡◌ {A = ℕ} (cond (is_numbered i x) 1 0) 0 = ap (λ b. cond {A = ℕ} b 1 0) h in
              let q = stands_one xs (omega (arith, one, count-cons (is_numbered i) x xs)) in
              (q.0, (suc q.1.0, q.1.1), q.2)
        ] refl

    by : (z : List Entry) → own ≡ z → ⊥
    by z same =
        let q = stands_one own called.once in
        let there = called.asked_is q.0 q.1 q.2 in
        let bad : ◌≡◌ {A = Option Asked} None (Some (record { call = q.0.call; batch = q.0.batch; part = q.0.part })) = sym none ∙ there in cc

-- ---- the entry before it on its shard

module _ (asked : List Asked) (own : List Entry) (i : ℕ) (before : AreCalled asked own i) (e : Entry) (told : SlotTells own i (One e)) (lasts : List (Option Entry)) (are : AreLasts own i lasts) (o : Option Entry) (at : slice_get lasts e.shard ≡ Some o) where
  the_one : (f : Entry) → Stands own f → f.seq ≡ i → e ≡ f
  the_one f stands seq = one_of_one (is_numbered i) own e f told.1.0 stands.0 told.0 told.1.1 (numbered i e told.2) stands.1 (numbered i f seq)

  last : LastIs own e.shard i o
  last = are e.shard o at

  -- the latest entry is the one that is noted
  same_latest : (d x : Entry) → IsLatest own e.shard i d → IsLatest own e.shard i x → d ≡ x
  same_latest d x a b =
      let low : d.seq ≤ x.seq = b.greatest d a.stands a.on_shard a.low in
      let high : x.seq ≤ d.seq = a.greatest x b.stands b.on_shard b.low in
      let same : x.seq ≡ d.seq = omega arith in
      one_of_one (is_numbered d.seq) own d x a.stands.0 b.stands.0 (before d.seq a.low).0.once a.stands.1 (numbered d.seq d refl) b.stands.1 (numbered d.seq x same)

  fresh_by : (z : Option Entry) → LastIs own e.shard i z → ((d : Entry) → z ≡ Some d → IsFreshAfter d e) → IsFresh own i
  fresh_by z is h d f stands seq latest =
      let same : e ≡ f = the_one f stands seq in
      subst (IsFreshAfter d) same (by z is h (subst (λ (y : Entry). IsLatest own y.shard i d) (sym same) latest)) where
        by : (z : Option Entry) → LastIs own e.shard i z → ((d : Entry) → z ≡ Some d → IsFreshAfter d e) → IsLatest own e.shard i d → IsFreshAfter d e
        by None none h l = absurd (none d l.stands l.on_shard l.low)
        by (Some x) is h l = subst (λ y. IsFreshAfter y e) (sym (same_latest d x l is)) (h x refl)

  pub fresh : ((d : Entry) → o ≡ Some d → IsFreshAfter d e) → IsFresh own i
  fresh = fresh_by o last

  pub not_fresh : (b : Bool) → IsTrue b ↔ ((d : Entry) → o ≡ Some d → IsFreshAfter d e) → b ≡ false → IsFresh own i → ⊥
  not_fresh b is isnt f = let bad : false ≡ true = sym isnt ∙ is.1 (λ d same. f d e told.1 told.2 (subst (LastIs own e.shard i) same last)) in cc

  -- and it is the latest from then on
  pub lasts_more : AreLasts own (i + 1) (slice_set lasts e.shard (Some e))
  lasts_more s q get =
      ⊎_elim
      (λ p. subst (LastIs own s (i + 1)) (sym p.1) (subst (λ z. IsLatest own z (i + 1) e) (sym p.0)
      (record { stands = told.1; on_shard = refl; low = let n = told.2 in omega arith; greatest = λ f stands on low. let n = told.2 in omega arith })))
      (λ p. still s q p.0 (are s q p.1))
      (get_set_cases lasts e.shard s (Some e) q get) where
        less : (s : ℕ) → s ≢ e.shard → (f : Entry) → Stands own f → f.shard ≡ s → f.seq < i + 1 → f.seq < i
        less s ne f stands on low =
            ⊎_elim (λ l. l) (λ same. absurd (ne (sym on ∙ ap (λ (z : Entry). z.shard) (sym (the_one f stands same))))) (below_next f.seq i low)

        still : (s : ℕ) (q : Option Entry) → s ≢ e.shard → LastIs own s i q → LastIs own s (i + 1) q
        still s None ne none = λ f stands on low. none f stands on (less s ne f stands on low)
        still s (Some d) ne l = record { stands = l.stands; on_shard = l.on_shard; low = let h = l.low in omega arith; greatest = λ f stands on low. l.greatest f stands on (less s ne f stands on low) }

-- nothing is noted yet
pub no_lasts : (own : List Entry) (n : ℕ) (lasts : List (Option Entry)) → lasts ≡ replicate n None → AreLasts own 0 lasts
no_lasts own n lasts is s o get = subst (LastIs own s 0) (sym (none n s (ap (λ z. slice_get z s) (sym is) ∙ get))) (λ e stands on low. absurd (omega arith)) where
  none : (n s : ℕ) → slice_get (replicate n None) s ≡ Some o → o ≡ None
  none zero s g = absurd (cc)
  none (suc n) zero g = sym (same_Some _ _ g)
  none (suc n) (suc s) g = none n s g

-- one call more
pub called_more : (asked : List Asked) (own : List Entry) (i : ℕ) → AreCalled asked own i → IsCalled asked own i → IsFresh own i → AreCalled asked own (i + 1)
called_more asked own i before called fresh j h = ⊎_elim (λ less. before j less) (λ same. subst (λ z. IsCalled asked own z × IsFresh own z) (sym same) (called, fresh)) (below_next j i h)

-- ---- behind the last call

none_at : (xs : List Asked) (i : ℕ) → drop i xs ≡ [] → slice_get xs i ≡ None
none_at [] i e = refl
none_at (x ∷ xs) zero e = absurd (cc)
none_at (x ∷ xs) (suc i) e = none_at xs i e

pub past_asked : (calls : List Call) (sizes : List ℕ) (i batch part : ℕ) → length calls ≤ i → GoesOnWith calls sizes i batch part → slice_get (asked_of calls sizes) i ≡ None
past_asked calls sizes i batch part past on = none_at (asked_of calls sizes) i (on ∙ at_drop_all (λ z. asked_after batch part z (drop i sizes)) calls i past)

-- ---- the numbers of a place in a block

pub begun_low : (p : Part) (size i : ℕ) → p.part ≤ i → (begun_by p size).part ≤ i
begun_low p zero i h = h
begun_low p (suc n) i h = omega arith

pub slot_told : (own : List Entry) (slots : List Slot) (i : ℕ) (s : Slot) → AreSlots own slots → i < length slots → s ≡ get_or slots i s → SlotTells own i s
slot_told own slots i s are low is = are i s (slice_get-get_or slots i s low ∙ ap (λ z. Some z) (sym is))

-- ---- what is told of the end

module _ (calls : List Call) (sizes : List ℕ) (sized : length sizes ≡ length calls) (n : ℕ) (d : Done) (done : d.done ≡ n) (given : d.given ≡ length calls) where
  pub done_within : (replay : Bool) → n ≢ length calls → replay ≡ true → n < length sizes → IsTrue (nat_lt 0 (get_or sizes n 0)) ↔ IsDone replay calls sizes n d
  done_within false more e low = absurd (cc)
  done_within true more e low = (
    (λ h. let some : 0 < get_or sizes n 0 = grind (arith, nat_tests) in record { done = done; given = given; ends = inr (begins (get_or sizes n 0) some (slice_get-get_or sizes n 0 low)) }),
    (λ i. ⊎_elim (λ all. absurd (more all)) (λ q. let same : get_or sizes n 0 ≡ suc q.0 = same_Some _ _ (sym (slice_get-get_or sizes n 0 low) ∙ q.1) in let some : 0 < get_or sizes n 0 = omega arith in grind (arith, nat_tests)) i.ends),
  ) where
    begins : (s : ℕ) → 0 < s → slice_get sizes n ≡ Some s → (m : ℕ) × (slice_get sizes n ≡ Some (suc m))
    begins zero h get = absurd (omega arith)
    begins (suc m) h get = (m, get)

-- ---- a turn of the loop

module _ (calls : List Call) (sizes : List ℕ) (sized : length sizes ≡ length calls) (own : List Entry) (slots : List Slot) (are : AreSlots own slots) (each : length slots ≡ length own) (i : ℕ) (low : i < length own) (few : i < length calls) (p h : Part) (x : ℕ)
    (here : h ≡ begun_by p (get_or sizes i x)) (on : GoesOnWith calls sizes i p.batch p.part) (c : Call) (slot : Slot) (read : slot ≡ get_or slots i slot) (found : Option Entry)
    (isnt : (e : Entry) → slot ≡ One e → e.call ≡ get_or calls i c → e.batch ≡ h.batch → e.part ≡ h.part → found ≡ Some e) where
  abbrev asked : List Asked
  asked = asked_of calls sizes

  told : SlotTells own i slot
  told = slot_told own slots i slot are (omega arith) read

  at : slice_get asked i ≡ Some (record { call = get_or calls i c; batch = h.batch; part = h.part })
  at =
      subst (λ (z : Part). slice_get asked i ≡ Some (record { call = get_or calls i c; batch = z.batch; part = z.part })) (sym here) (asked_here calls sizes sized i p c x few on).0

  pub goes_on : GoesOnWith calls sizes (i + 1) h.batch (h.part + 1)
  goes_on = subst (λ (z : Part). GoesOnWith calls sizes (i + 1) z.batch (z.part + 1)) (sym here) (asked_here calls sizes sized i p c x few on).1

  pub not_this : found ≡ None → IsCalled asked own i → ⊥
  not_this none = isnt_called asked own i slot (get_or calls i c) h.batch h.part found told at isnt none

  module _ (e : Entry) (is : (slot ≡ One e) × (e.call ≡ get_or calls i c) × (e.batch ≡ h.batch) × (e.part ≡ h.part)) where
    pub alone_told : SlotTells own i (One e)
    alone_told = subst (SlotTells own i) is.0 told

    pub this : IsCalled asked own i
    this = is_called asked own i e (get_or calls i c) h.batch h.part alone_told at is.1 is.2 is.3

    pub stands_there : Stands own e
    stands_there = alone_told.1
