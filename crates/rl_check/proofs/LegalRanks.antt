-- What the tests of a rank say of its entries.
use Rattle.std.proofs.Common.{◌≡◌, ◌⊎◌, ℕ, zero, suc, ◌+◌, ◌<◌, ◌≤◌, ◌==◌, Bool, true, false, cond, eqb, ltb, List, [], ◌∷◌, length, Some, refl, sym, ap, subst, ◌∙◌, inl, inr, ⊎_elim, arith}
use Rattle.std.specs.Prelude.{slice_get, nat_lt}
use Rattle.std.specs.List.{count_by, filter}
use Rattle.std.proofs.lemmas.Bool.Decides.{nat_tests}
use Rattle.std.proofs.lemmas.List.Sums.{count_by-le-length}
use Rattle.std.proofs.lemmas.Option.{same_Some}
use Rattle.rl_model.proofs.Counts.{count-cons, sum_of_counts}
use Rattle.rl_model.specs.declared.call.Call.{Call}
use Rattle.rl_model.specs.declared.entry.Entry.{Entry}
use Rattle.rl_ops.specs.Asked.{asked_of}
use Rattle.rl_report.specs.declared.report.Done.{Done}
use Rattle.rl_check.specs.Ranks.{Stands, is_numbered, IsCalled, IsLatest, IsFreshAfter, IsDone, rank_tests}
use Rattle.rl_check.proofs.SlotLaws.{one_of_one}
use Rattle.rl_check.proofs.EntryFacts.{was_there, ones, head_or}

-- ---- counts

all_hit : (p : Entry → Bool) (xs : List Entry) → count_by p xs ≡ length xs → (i : ℕ) (e : Entry) → slice_get xs i ≡ Some e → p e ≡ true
all_hit p [] all i e get = absurd (cc)
all_hit p (x ∷ xs) all zero e get = ap p (sym (same_Some _ _ get)) ∙ by (p x) refl where
  by : (b : Bool) → p x ≡ b → p x ≡ true
  by true h = h
  by false h = absurd (let z : ◌≡◌ {A = ℕ} (cond (p x) 1 0) 0 = ap (λ b. cond {A = ℕ} b 1 0) h in omega (arith, count-cons p x xs, count_by-le-length p xs))
all_hit p (x ∷ xs) all (suc i) e get = all_hit p xs (rest (p x) refl) i e get where
  rest : (b : Bool) → p x ≡ b → count_by p xs ≡ length xs
  rest true h = let z : ◌≡◌ {A = ℕ} (cond (p x) 1 0) 1 = ap (λ b. cond {A = ℕ} b 1 0) h in omega (arith, count-cons p x xs)
  rest false h = absurd (let z : ◌≡◌ {A = ℕ} (cond (p x) 1 0) 0 = ap (λ b. cond {A = ℕ} b 1 0) h in omega (arith, count-cons p x xs, count_by-le-length p xs))

-- ---- the latest entry on a shard

latest_of : (xs : List Entry) (s i : ℕ) → ((d : Entry) × IsLatest xs s i d) ⊎ ((f : Entry) → Stands xs f → f.shard ≡ s → f.seq < i → ⊥)
latest_of [] s i = inr (λ f h on low. let bad = h.1 in cc)
latest_of (y ∷ ys) s i = by (latest_of ys s i) (y.shard == s) (nat_lt y.seq i) refl refl where
  behind : (f : Entry) (P : Type 0) → Stands (y ∷ ys) f → (y ≡ f → P) → (Stands ys f → P) → P
  behind f P h here on = ⊎_elim here on (head_or y ys f h)

  no_more : ((d : Entry) × IsLatest ys s i d) ⊎ ((f : Entry) → Stands ys f → f.shard ≡ s → f.seq < i → ⊥) → ((y.shard ≡ s) → (y.seq < i) → ⊥) → ((d : Entry) × IsLatest (y ∷ ys) s i d) ⊎ ((f : Entry) → Stands (y ∷ ys) f → f.shard ≡ s → f.seq < i → ⊥)
  no_more r none =
      ⊎_elim
      (λ q. inl (
        q.0,
        record {
          stands = (suc q.1.stands.0, q.1.stands.1);
          on_shard = q.1.on_shard;
          low = q.1.low;
          greatest = λ f h on low. behind f (f.seq ≤ q.0.seq) h (λ same. absurd (none (ap (λ (z : Entry). z.shard) same ∙ on) (let n : y.seq ≡ f.seq = ap (λ (z : Entry). z.seq) same in omega arith))) (λ g. q.1.greatest f g on low);
        },
      ))
      (λ q. inr (λ f h on low. behind f ⊥ h (λ same. none (ap (λ (z : Entry). z.shard) same ∙ on) (let n : y.seq ≡ f.seq = ap (λ (z : Entry). z.seq) same in omega arith)) (λ g. q f g on low)))
      r

  this : ((d : Entry) × IsLatest ys s i d) ⊎ ((f : Entry) → Stands ys f → f.shard ≡ s → f.seq < i → ⊥) → (y.shard ≡ s) → (y.seq < i) → (d : Entry) × IsLatest (y ∷ ys) s i d
  this (inr q) on low = (
    y,
    record {
      stands = (0, refl);
      on_shard = on;
      low = low;
      greatest = λ f h of less. behind f (f.seq ≤ y.seq) h (λ same. let n : y.seq ≡ f.seq = ap (λ (z : Entry). z.seq) same in omega arith) (λ g. absurd (q f g of less));
    },
  )
  this (inl q) on low = go (nat_lt q.0.seq y.seq) refl where
    go : (b : Bool) → nat_lt q.0.seq y.seq ≡ b → (d : Entry) × IsLatest (y ∷ ys) s i d
    go true h =
        let less : q.0.seq < y.seq = grind (arith, nat_tests) in (
          y,
          record {
            stands = (0, refl);
            on_shard = on;
            low = low;
            greatest = λ f h of more. behind f (f.seq ≤ y.seq) h (λ same. let n : y.seq ≡ f.seq = ap (λ (z : Entry). z.seq) same in omega arith) (λ g. let k = q.1.greatest f g of more in omega arith);
          },
        )
    go false h =
        let least : y.seq ≤ q.0.seq = grind (arith, nat_tests) in (
          q.0,
          record {
            stands = (suc q.1.stands.0, q.1.stands.1);
            on_shard = q.1.on_shard;
            low = q.1.low;
            greatest = λ f h of more. behind f (f.seq ≤ q.0.seq) h (λ same. let n : y.seq ≡ f.seq = ap (λ (z : Entry). z.seq) same in omega arith) (λ g. q.1.greatest f g of more);
          },
        )

  by : ((d : Entry) × IsLatest ys s i d) ⊎ ((f : Entry) → Stands ys f → f.shard ≡ s → f.seq < i → ⊥) → (a b : Bool) → (y.shard == s) ≡ a → nat_lt y.seq i ≡ b →
      ((d : Entry) × IsLatest (y ∷ ys) s i d) ⊎ ((f : Entry) → Stands (y ∷ ys) f → f.shard ≡ s → f.seq < i → ⊥)
  by r true true h g = inl (this r (grind (arith, nat_tests)) (grind (arith, nat_tests)))
  by r true false h g = no_more r (λ on low. let past : i ≤ y.seq = grind (arith, nat_tests) in absurd (omega arith))
  by r false b h g = no_more r (λ on low. let bad : (y.shard == s) ≡ true = grind (arith, nat_tests) in let worse : true ≡ false = sym bad ∙ h in cc)

-- ---- the tests

module _ (replay : Bool) (calls : List Call) (sizes : List ℕ) (own : List Entry) (d : Done)
    (T : (rank_tests replay calls sizes own d).pass) where
  pub done_is : IsDone replay calls sizes (length own) d
  done_is = T.1

  called : (i : ℕ) → i < length own → IsCalled (asked_of calls sizes) own i
  called i low = (T.0 i low).0

  pub once : (i : ℕ) → i < length own → count_by (is_numbered i) own ≡ 1
  once i low = (called i low).once

  pub low_number : (e : Entry) → Stands own e → e.seq < length own
  low_number e h =
      let n : ℕ = length own in
      let all : count_by (λ (f : Entry). ltb f.seq n) own ≡ length own =
      sym (sum_of_counts (λ (f : Entry). f.seq) n own) ∙ ones (λ i. count_by (λ (f : Entry). eqb f.seq i) own) n (λ i low. (called i low).once) in
      let hit : ltb e.seq n ≡ true = all_hit (λ (f : Entry). ltb f.seq n) own all h.0 e h.1 in
      grind (arith, nat_tests)

  pub asked_is : (e : Entry) → Stands own e → slice_get (asked_of calls sizes) e.seq ≡ Some (record { call = e.call; batch = e.batch; part = e.part })
  asked_is e h = (called e.seq (low_number e h)).asked_is e h refl

  numbered : (i : ℕ) (e : Entry) → e.seq ≡ i → is_numbered i e ≡ true
  numbered i e h = grind (arith, nat_tests)

  -- a number is of one entry alone
  pub one_number : (e f : Entry) → Stands own e → Stands own f → e.seq ≡ f.seq → e ≡ f
  one_number e f he hf same = one_of_one (is_numbered e.seq) own e f he.0 hf.0 (called e.seq (low_number e he)).once he.1 (numbered e.seq e refl) hf.1 (numbered e.seq f (sym same))

  pub fresh_far : (b : ℕ) (d e : Entry) → Stands own d → Stands own e → d.shard ≡ e.shard → d.seq < e.seq → e.seq < b → IsFreshAfter d e
  fresh_far zero d e hd he on low under = absurd (omega arith)
  fresh_far (suc b) d e hd he on low under = by (latest_of own e.shard e.seq) (λ x hx shard less next. fresh_far b d x hd hx shard less next) where
    by : ((x : Entry) × IsLatest own e.shard e.seq x) ⊎ ((f : Entry) → Stands own f → f.shard ≡ e.shard → f.seq < e.seq → ⊥) → ((x : Entry) → Stands own x → d.shard ≡ x.shard → d.seq < x.seq → x.seq < b → IsFreshAfter d x) → IsFreshAfter d e
    by (inr none) later = absurd (none d hd on low)
    by (inl q) later =
        let x : Entry = q.0 in
        let f : IsFreshAfter x e = (T.0 e.seq (low_number e he)).1 x e he refl q.1 in
        let high : d.seq ≤ x.seq = q.1.greatest d hd on low in
        let less : x.seq < e.seq = q.1.low in
        go x (nat_lt d.seq x.seq) refl f high less q.1.stands q.1.on_shard
      where
        go : (x : Entry) (c : Bool) → nat_lt d.seq x.seq ≡ c → IsFreshAfter x e → d.seq ≤ x.seq → x.seq < e.seq → Stands own x → x.shard ≡ e.shard → IsFreshAfter d e
        go x true h f high less hx shard =
            let under_x : d.seq < x.seq = grind (arith, nat_tests) in
            let g : IsFreshAfter d x = later x hx (on ∙ sym shard) under_x (omega arith) in
            let u = g.place in let v = f.place in
            record { place = omega arith; beyond = λ hit. let w = g.beyond hit in omega arith }
        go x false h f high less hx shard =
            let least : x.seq ≤ d.seq = grind (arith, nat_tests) in
            let same : x.seq ≡ d.seq = omega arith in
            subst (λ z. IsFreshAfter z e) (one_number x d hx hd same) f

-- ---- entries of a rank in a shard's list

-- the next entry of a rank stands behind this one
pub next_behind : (p : Entry → Bool) (xs : List Entry) (i : ℕ) (e f : Entry) → slice_get (filter p xs) i ≡ Some e → slice_get (filter p xs) (suc i) ≡ Some f →
    (a : ℕ) × (n : ℕ) × (slice_get xs a ≡ Some e) × (slice_get xs (suc (a + n)) ≡ Some f)
next_behind p [] i e f ge gf = absurd (cc)
next_behind p (x ∷ xs) i e f ge gf = by (p x) i ge gf (λ j h g. next_behind p xs j e f h g) where
  by : (b : Bool) (i : ℕ) → slice_get (cond b (x ∷ filter p xs) (filter p xs)) i ≡ Some e → slice_get (cond b (x ∷ filter p xs) (filter p xs)) (suc i) ≡ Some f →
      ((j : ℕ) → slice_get (filter p xs) j ≡ Some e → slice_get (filter p xs) (suc j) ≡ Some f → (a : ℕ) × (n : ℕ) × (slice_get xs a ≡ Some e) × (slice_get xs (suc (a + n)) ≡ Some f)) →
      (a : ℕ) × (n : ℕ) × (slice_get (x ∷ xs) a ≡ Some e) × (slice_get (x ∷ xs) (suc (a + n)) ≡ Some f)
  by true zero ge gf later = let q = was_there p xs 0 f gf in let at : suc (0 + q.1) ≡ suc q.1 = omega arith in (0, q.1, ge, ap (slice_get (x ∷ xs)) at ∙ q.2)
  by true (suc i) ge gf later = let q = later i ge gf in let at : suc (suc q.0 + q.1) ≡ suc (suc (q.0 + q.1)) = omega arith in (suc q.0, q.1, q.2, ap (slice_get (x ∷ xs)) at ∙ q.3)
  by false i ge gf later = let q = later i ge gf in let at : suc (suc q.0 + q.1) ≡ suc (suc (q.0 + q.1)) = omega arith in (suc q.0, q.1, q.2, ap (slice_get (x ∷ xs)) at ∙ q.3)
