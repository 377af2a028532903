-- The history is ordered: by the count that an entry looked at or made, gets and holds before the update at that count, then by
-- rank, then by the rank's own numbers.
use Rattle.std.specs.Prelude.{◌≡◌, ◌⊎◌, ℕ, suc, ◌+◌, ◌<◌, ◌≤◌, ◌==◌, Bool, true, false, not, ◌&&◌, cond, List, [], ◌∷◌, ◌++◌, filter, length, slice_get, Some, refl}
use Rattle.std.specs.List.{AllByRecursion}
use Rattle.std.proofs.Common.{sym, ◌∙◌, subst, inl, inr, ⊎_elim, arith, length-append, append_assoc}
use Rattle.std.proofs.lemmas.Bool.Decides.{nat_tests}
use Rattle.rl_model.specs.declared.entry.Entry.{Entry}
use Rattle.rl_model.specs.declared.geom.Geom.{Geom}
use Rattle.rl_journal.specs.Legal.{updates, IsLegal}
use Rattle.rl_journal.specs.Ranks.{IsInOrder}
use Rattle.rl_journal.specs.History.{looked_at, reads_at, history_from, history, Precedes, IsSorted, AreOwn}
use Rattle.rl_journal.specs.laws.LegalLaws.{IsPlaced, placed}

each_append : (P : Entry → Type 0) (xs ys : List Entry) → AllByRecursion P xs → AllByRecursion P ys → AllByRecursion P (xs ++ ys)
each_append P [] ys a b = b
each_append P (x ∷ xs) ys a b = (a.0, each_append P xs ys a.1 b)

each_weaker : (P Q : Entry → Type 0) → ((e : Entry) → P e → Q e) → (xs : List Entry) → AllByRecursion P xs → AllByRecursion Q xs
each_weaker P Q f [] a = tt
each_weaker P Q f (x ∷ xs) a = (f x a.0, each_weaker P Q f xs a.1)

sorted_append : (P Q : Entry → Type 0) → ((e f : Entry) → P e → Q f → Precedes e f) → (xs ys : List Entry) → AllByRecursion P xs →
    AllByRecursion Q ys → IsSorted xs → IsSorted ys → IsSorted (xs ++ ys)
sorted_append P Q before [] ys a b sx sy = sy
sorted_append P Q before (x ∷ xs) ys a b sx sy =
    (each_append (Precedes x) xs ys sx.0 (each_weaker Q (Precedes x) (λ f q. before x f a.0 q) ys b), sorted_append P Q before xs ys a.1 b sx.1 sy)

-- a get or hold that looked at this count, of a rank from r on
pub record IsReadOf (p r : ℕ) (e : Entry) : Type 0 where
  pub is : updates e ≡ false
  pub place : e.at ≡ p
  pub rank : r ≤ e.rank

-- such an entry of the rank r itself
pub record IsReadBy (p r : ℕ) (e : Entry) : Type 0 where
  pub is : updates e ≡ false
  pub place : e.at ≡ p
  pub rank : e.rank ≡ r

looks : (p : ℕ) (e : Entry) → looked_at p e ≡ true → (updates e ≡ false) × (e.at ≡ p)
looks p e is =
    elim (updates e) as (λ b. updates e ≡ b → (not b && (e.at == p)) ≡ true → (updates e ≡ false) × (e.at ≡ p)) [
      | true ↦ λ u h. absurd (cc)
      | false ↦ λ u h. (u, grind (arith, nat_tests))
    ] refl is

-- the reads of one rank
read_by : (p r : ℕ) (t : List Entry) → AllByRecursion (λ e. e.rank ≡ r) t → AllByRecursion (IsReadBy p r) (filter (looked_at p) t)
read_by p r [] own = tt
read_by p r (e ∷ es) own =
    elim (looked_at p e) as (λ b. looked_at p e ≡ b → AllByRecursion (IsReadBy p r) (cond b (e ∷ filter (looked_at p) es) (filter (looked_at p) es))) [
      | true ↦ λ h. let l = looks p e h in (record { is = l.0; place = l.1; rank = own.0 }, read_by p r es own.1)
      | false ↦ λ h. read_by p r es own.1
    ] refl

-- in a transcript the numbers rise
rising : (e : Entry) (es : List Entry) → IsInOrder (e ∷ es) → AllByRecursion (λ f. e.seq < f.seq) es
rising e [] order = tt
rising e (f ∷ fs) order =
    let first : e.seq < f.seq = (order 0 e f refl refl).later in
    (first, each_weaker (λ g. f.seq < g.seq) (λ g. e.seq < g.seq) (λ g h. omega arith) fs (rising f fs (λ i a b x y. order (suc i) a b x y)))

each_filter : (P : Entry → Type 0) (p : Entry → Bool) (xs : List Entry) → AllByRecursion P xs → AllByRecursion P (filter p xs)
each_filter P p [] a = tt
each_filter P p (x ∷ xs) a = elim (p x) as (λ b. AllByRecursion P (cond b (x ∷ filter p xs) (filter p xs)))
    [ true ↦ (a.0, each_filter P p xs a.1) | false ↦ each_filter P p xs a.1 ]

each_both : (P Q R : Entry → Type 0) → ((e : Entry) → P e → Q e → R e) → (xs : List Entry) → AllByRecursion P xs → AllByRecursion Q xs → AllByRecursion R xs
each_both P Q R f [] a b = tt
each_both P Q R f (x ∷ xs) a b = (f x a.0 b.0, each_both P Q R f xs a.1 b.1)

one_sorted : (p r : ℕ) (t : List Entry) → AllByRecursion (λ e. e.rank ≡ r) t → IsInOrder t → IsSorted (filter (looked_at p) t)
one_sorted p r [] own order = tt
one_sorted p r (e ∷ es) own order =
    let rest : IsSorted (filter (looked_at p) es) = one_sorted p r es own.1 (λ i a b x y. order (suc i) a b x y) in
    elim (looked_at p e) as (λ b. looked_at p e ≡ b → IsSorted (cond b (e ∷ filter (looked_at p) es) (filter (looked_at p) es))) [
      | true ↦ λ h.
          let l = looks p e h in
          let here : e.rank ≡ r = own.0 in (
            each_both (IsReadBy p r) (λ f. e.seq < f.seq) (Precedes e)
                (λ f by later. inr (l.1 ∙ sym by.place, l.0, inr (by.is, inr (here ∙ sym by.rank, later))))
                (filter (looked_at p) es) (read_by p r es own.1) (each_filter (λ f. e.seq < f.seq) (looked_at p) es (rising e es order)),
            rest,
          )
      | false ↦ λ h. rest
    ] refl

reads_from : (p r : ℕ) (ts : List (List Entry)) → AreOwn r ts → AllByRecursion (IsReadOf p r) (reads_at p ts) × IsSorted (reads_at p ts)
reads_from p r [] own = (tt, tt)
reads_from p r (t ∷ ts) own =
    let rest = reads_from p (r + 1) ts own.1 in
    let here : AllByRecursion (IsReadBy p r) (filter (looked_at p) t) = read_by p r t own.0.0 in (
      each_append (IsReadOf p r) (filter (looked_at p) t) (reads_at p ts)
          (each_weaker (IsReadBy p r) (IsReadOf p r) (λ e b. record { is = b.is; place = b.place; rank = let same = b.rank in omega arith })
          (filter (looked_at p) t) here)
          (each_weaker (IsReadOf p (r + 1)) (IsReadOf p r) (λ e b.
          record { is = b.is; place = b.place; rank = let low = b.rank in omega arith }) (reads_at p ts) rest.0),
      sorted_append (IsReadBy p r) (IsReadOf p (r + 1))
          (λ e f a b. inr (a.place ∙ sym b.place, a.is, inr (b.is, inl (let low = b.rank in let same = a.rank in omega arith))))
          (filter (looked_at p) t) (reads_at p ts) here rest.0 (one_sorted p r t own.0.0 own.0.1) rest.1,
    )

module _ (geom : Geom) (journal : List Entry) (ts : List (List Entry)) (legal : IsLegal geom journal ts) (own : AreOwn 0 ts) where
  sorted_from : (front rest : List Entry) → front ++ rest ≡ journal →
      AllByRecursion (λ e. length front ≤ e.at) (history_from ts (length front) rest) × IsSorted (history_from ts (length front) rest)
  sorted_from front [] e =
      let r = reads_from (length front) 0 ts own in
      (each_weaker (IsReadOf (length front) 0) (λ e. length front ≤ e.at) (λ e b. let same = b.place in omega arith) (reads_at (length front) ts) r.0, r.1)
  sorted_from front (u ∷ rest) e =
      let n : ℕ = length front in
      let r = reads_from n 0 ts own in
      let l : IsPlaced n u = placed geom journal legal.journal_is n u (subst (λ z. slice_get z n ≡ Some u) e (found front)) in
      let here : u.at ≡ n = l.place in
      let one_more : length (front ++ u ∷ []) ≡ n + 1 = length-append front (u ∷ []) in
      let on = sorted_from (front ++ u ∷ []) rest (append_assoc front (u ∷ []) rest ∙ e) in
      let on_each : AllByRecursion (λ e. n + 1 ≤ e.at) (history_from ts (n + 1) rest) =
      subst (λ m. AllByRecursion (λ e. m ≤ e.at) (history_from ts m rest)) one_more on.0 in
      let on_sorted : IsSorted (history_from ts (n + 1) rest) = subst (λ m. IsSorted (history_from ts m rest)) one_more on.1 in
      let after : IsSorted (u ∷ history_from ts (n + 1) rest) =
      (each_weaker (λ e. n + 1 ≤ e.at) (Precedes u) (λ f h. inl (omega arith)) (history_from ts (n + 1) rest) on_each, on_sorted) in
      let behind : AllByRecursion (λ f. (updates f ≡ true) × (f.at ≡ n) ⊎ (n < f.at)) (u ∷ history_from ts (n + 1) rest) = (
        inl (l.is_update, here),
        each_weaker (λ f. n + 1 ≤ f.at) (λ f. (updates f ≡ true) × (f.at ≡ n) ⊎ (n < f.at))
            (λ f h. inr (omega arith)) (history_from ts (n + 1) rest) on_each,
      ) in (
        each_append (λ e. n ≤ e.at) (reads_at n ts) (u ∷ history_from ts (n + 1) rest)
            (each_weaker (IsReadOf n 0) (λ e. n ≤ e.at) (λ e b. let same = b.place in omega arith) (reads_at n ts) r.0)
            (omega arith, each_weaker (λ e. n + 1 ≤ e.at) (λ e. n ≤ e.at) (λ f h. omega arith) (history_from ts (n + 1) rest) on_each),
        sorted_append (IsReadOf n 0) (λ f. (updates f ≡ true) × (f.at ≡ n) ⊎ (n < f.at))
            (λ e f a b. ⊎_elim (λ q. inr (a.place ∙ sym q.1, a.is, inl q.0)) (λ q. inl (let same = a.place in omega arith)) b)
            (reads_at n ts) (u ∷ history_from ts (n + 1) rest) r.0 behind r.1 after,
      )
    where
      found : (xs : List Entry) → slice_get (xs ++ u ∷ rest) (length xs) ≡ Some u
      found [] = refl
      found (x ∷ xs) = found xs

  pub history_sorted : IsSorted (history journal ts)
  history_sorted = (sorted_from [] journal refl).1
