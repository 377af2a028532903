-- One call more, and one block more, keep a rank's entries in order.
use Rattle.std.specs.Prelude.{◌≡◌, ◌≢◌, ℕ, zero, suc, ◌+◌, ◌<◌, ◌==◌, Bool, true, false, cond, List, [], ◌∷◌, ◌++◌, All, count_by, length, slice_get, slice_set, Some, refl}
use Rattle.std.proofs.Common.{sym, ◌∙◌, ap, subst, ⊎_elim, arith, eqb, append_assoc}
use Rattle.std.proofs.lemmas.List.Elements.{All-head, All-tail, All-weaker, All-push}
use Rattle.std.proofs.lemmas.Bool.Decides.{nat_tests}
use Rattle.std.proofs.lemmas.Option.{same_Some}
use Rattle.std.proofs.lemmas.List.{append-nil}
use Rattle.rl_word.specs.laws.Places.{get_set_cases, get_set_same, set_same_get}
use Rattle.rl_model.specs.declared.entry.Entry.{Entry}
use Rattle.rl_model.specs.declared.geom.Geom.{Geom}
use Rattle.rl_model.specs.Call.{shard_of}
use Rattle.rl_model.proofs.Counts.{count-append, count-cons}
use Rattle.rl_journal.specs.Ranks.{IsOwn, IsInOrder, count_in, Asked, IsEntryOf, IsRankInOrder, AreAsked}
use Rattle.rl_journal.specs.laws.Lists.{get_left}

-- the counts over all lists, where one list has one entry more
count_more : (test : Entry → Bool) (ts : List (List Entry)) (s : ℕ) (t : List Entry) (e : Entry) → slice_get ts s ≡ Some t →
    count_in test (slice_set ts s (t ++ e ∷ [])) ≡ count_in test ts + cond (test e) 1 0
count_more test [] s t e get = absurd (cc)
count_more test (u ∷ ts) zero t e get =
    let same : count_by test t ≡ count_by test u = ap (count_by test) (sym (same_Some _ _ get)) in
    omega (arith, count-append test t (e ∷ []), count-cons test e [])
count_more test (u ∷ ts) (suc s) t e get = omega (arith, count_more test ts s t e get)

-- where all numbers are below n, none is n
none_at : (n : ℕ) (t : List Entry) → All (λ e. e.seq < n) t → count_by (λ e. e.seq == n) t ≡ 0
none_at n [] all = refl
none_at n (e ∷ es) all =
    let low : e.seq < n = All-head (λ f. f.seq < n) e es all in
    let miss : (e.seq == n) ≡ false = grind (arith, nat_tests) in
    let zero_is : ◌≡◌ {A = ℕ} (cond (e.seq == n) 1 0) 0 = ap (λ b. cond {A = ℕ} b 1 0) miss in
    omega (arith, count-cons (λ (f : Entry). f.seq == n) e es, none_at n es (All-tail (λ f. f.seq < n) e es all))

none_in : (n : ℕ) (ts : List (List Entry)) → ((s : ℕ) (t : List Entry) → slice_get ts s ≡ Some t → All (λ e. e.seq < n) t) → count_in (λ e. e.seq == n) ts ≡ 0
none_in n [] all = refl
none_in n (t ∷ ts) all = omega (arith, none_at n t (all 0 t refl), none_in n ts (λ s u get. all (suc s) u get))

module _ (geom : Geom) (rank : ℕ) (calls : List Asked) (n : ℕ) (ts : List (List Entry)) (o : IsRankInOrder geom rank calls n ts) where
  later : (s : ℕ) (e : Entry) → IsEntryOf geom rank calls n s e → IsEntryOf geom rank calls (n + 1) s e
  later s e is = record { low = let l = is.low in omega arith; own = is.own; asked_is = is.asked_is; place = is.place }

  -- the next call was done
  pub rank_more : (s : ℕ) (t : List Entry) (e : Entry) → slice_get ts s ≡ Some t → e.seq ≡ n → IsOwn s rank e →
      slice_get calls n ≡ Some (record { call = e.call; batch = e.batch; part = e.part }) → shard_of geom e.call ≡ s →
      IsInOrder (t ++ e ∷ []) →
      IsRankInOrder geom rank calls (n + 1) (slice_set ts s (t ++ e ∷ []))
  rank_more s t e get seq own is place order =
      record {
        once = λ i h. elim (eqb i n) as (λ b. eqb i n ≡ b → count_in (λ f. f.seq == i) (slice_set ts s (t ++ e ∷ [])) ≡ 1) [
          | true ↦ λ q.
              let same : i ≡ n = grind (arith, nat_tests) in
              let hit : (e.seq == i) ≡ true = grind (arith, nat_tests) in
              let one_is : ◌≡◌ {A = ℕ} (cond (e.seq == i) 1 0) 1 = ap (λ b. cond {A = ℕ} b 1 0) hit in
              omega (
                arith,
                count_more (λ f. f.seq == i) ts s t e get,
                none_in n ts (λ k u g. All-weaker (IsEntryOf geom rank calls n k) (λ f. f.seq < n) (λ f is_one. is_one.low) u (o.each k u g)),
                ap (λ m. count_in (λ f. f.seq == m) ts) same,
              )
          | false ↦ λ q.
              let other : i ≢ n = grind (arith, nat_tests) in
              let miss : (e.seq == i) ≡ false = grind (arith, nat_tests) in
              let zero_is : ◌≡◌ {A = ℕ} (cond (e.seq == i) 1 0) 0 = ap (λ b. cond {A = ℕ} b 1 0) miss in
              omega (arith, count_more (λ f. f.seq == i) ts s t e get, o.once i (omega arith))
        ] refl;
        each = λ k u g. ⊎_elim
            (λ q. subst (λ z. All (IsEntryOf geom rank calls (n + 1) z) u) (sym q.0) (subst (All (IsEntryOf geom rank calls (n + 1) s)) (sym q.1)
            (All-push (IsEntryOf geom rank calls (n + 1) s) t e
            (All-weaker (IsEntryOf geom rank calls n s) (IsEntryOf geom rank calls (n + 1) s) (later s) t (o.each s t get))
            (record { low = omega arith; own = own; asked_is = ap (slice_get calls) seq ∙ is; place = place }))))
            (λ q. All-weaker (IsEntryOf geom rank calls n k) (IsEntryOf geom rank calls (n + 1) k) (later k) u (o.each k u q.1))
            (get_set_cases ts s k (t ++ e ∷ []) u g);
        in_order = λ k u g. ⊎_elim (λ q. subst IsInOrder (sym q.1) order) (λ q. o.in_order k u q.1) (get_set_cases ts s k (t ++ e ∷ []) u g);
      }

-- the next block was done
pub block_more : (geom : Geom) (rank : ℕ) (calls : List Asked) (s : ℕ) (b : List Entry) (n : ℕ) (ts : List (List Entry)) (t : List Entry) →
    IsRankInOrder geom rank calls n ts → slice_get ts s ≡ Some t → AreAsked geom rank calls s n b → IsInOrder (t ++ b) →
    IsRankInOrder geom rank calls (n + length b) (slice_set ts s (t ++ b))
block_more geom rank calls s [] n ts t o get all order =
    let same : t ++ [] ≡ t = append-nil t in
    subst (λ m. IsRankInOrder geom rank calls m (slice_set ts s (t ++ []))) (omega arith)
    (subst (IsRankInOrder geom rank calls n) (sym (set_same_get ts s (t ++ []) (get ∙ ap (λ z. Some z) (sym same)))) o)
block_more geom rank calls s (e ∷ es) n ts t o get all order =
    let whole : IsInOrder ((t ++ e ∷ []) ++ es) = subst IsInOrder (sym (append_assoc t (e ∷ []) es)) order in
    let front : IsInOrder (t ++ e ∷ []) = λ i d f a b. whole i d f (get_left (t ++ e ∷ []) es i d a) (get_left (t ++ e ∷ []) es (suc i) f b) in
    let one : IsRankInOrder geom rank calls (n + 1) (slice_set ts s (t ++ e ∷ [])) =
    rank_more geom rank calls n ts o s t e get all.0.0 all.0.1 all.0.2 all.0.3 front in
    let there : slice_get (slice_set ts s (t ++ e ∷ [])) s ≡ Some (t ++ e ∷ []) = get_set_same ts s t (t ++ e ∷ []) get in
    let more : IsRankInOrder geom rank calls (n + 1 + length es) (slice_set (slice_set ts s (t ++ e ∷ [])) s ((t ++ e ∷ []) ++ es)) =
    block_more geom rank calls s es (n + 1) (slice_set ts s (t ++ e ∷ [])) (t ++ e ∷ []) one there all.1 whole in
    let lists : slice_set (slice_set ts s (t ++ e ∷ [])) s ((t ++ e ∷ []) ++ es) ≡ slice_set ts s (t ++ e ∷ es) =
    set_twice ts s (t ++ e ∷ []) ((t ++ e ∷ []) ++ es) ∙ ap (slice_set ts s) (append_assoc t (e ∷ []) es) in
    subst (λ m. IsRankInOrder geom rank calls m (slice_set ts s (t ++ e ∷ es))) (omega arith)
    (subst (IsRankInOrder geom rank calls (n + 1 + length es)) lists more)
  where
    set_twice : {X : Type 0} (xs : List X) (i : ℕ) (a b : X) → slice_set (slice_set xs i a) i b ≡ slice_set xs i b
    set_twice [] i a b = refl
    set_twice (x ∷ xs) zero a b = refl
    set_twice (x ∷ xs) (suc i) a b = ap (λ z. x ∷ z) (set_twice xs i a b)
