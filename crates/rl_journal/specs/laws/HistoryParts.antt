-- The history's parts: its updates, in their order, are the journal, and its entries of a rank are that rank's transcript.
use Rattle.std.specs.Prelude.{◌≡◌, ℕ, zero, suc, ◌+◌, ◌<◌, ◌≤◌, ◌==◌, nat_le, Bool, true, false, not, ◌&&◌, cond, List, [], ◌∷◌, ◌++◌, filter, length, slice_get, Some, refl}
use Rattle.std.specs.List.{AllByRecursion}
use Rattle.std.proofs.Common.{sym, ◌∙◌, ap, subst, arith, length-append, append_assoc}
use Rattle.std.proofs.lemmas.Bool.Decides.{nat_tests}
use Rattle.std.proofs.lemmas.List.{append-nil}
use Rattle.std.proofs.lemmas.List.Elements.{filter-append}
use Rattle.std.proofs.lemmas.Option.{same_Some}
use Rattle.rl_model.specs.declared.entry.Entry.{Entry}
use Rattle.rl_model.specs.declared.geom.Geom.{Geom}
use Rattle.rl_journal.specs.Legal.{updates, is_of, IsLegal}
use Rattle.rl_journal.specs.Ranks.{IsInOrder, Follows}
use Rattle.rl_journal.specs.History.{looked_at, reads_at, history_from, history, AreOwn}
use Rattle.rl_journal.specs.laws.LegalLaws.{placed, IsMarked, marked}
use Rattle.rl_journal.specs.laws.Lists.{filter_all, filter_none, get_left, all_at}

-- ---- the order of a transcript, as numbers that never fall

abbrev bit : Bool → ℕ
bit true = 1
bit false = 0

-- where an entry stands in the history: behind the gets and holds of its place, if it is an update
abbrev key : Entry → ℕ
key e = e.at + e.at + bit (updates e)

abbrev is_at : ℕ → Entry → Bool
is_at k e = key e == k

abbrev is_from : ℕ → Entry → Bool
is_from k e = nat_le k (key e)

-- no entry stands before one that it follows
rises : (e f : Entry) → Follows e f → key e ≤ key f
rises e f h =
    elim (updates e) as (λ b. updates e ≡ b → e.at + e.at + bit b ≤ key f) [
      | true ↦ λ u. let far = h.beyond u in omega arith
      | false ↦ λ u. let low = h.place in omega arith
    ] refl

above : (e : Entry) (es : List Entry) → IsInOrder (e ∷ es) → (i : ℕ) (f : Entry) → slice_get es i ≡ Some f → key e ≤ key f
above e [] order i f has = absurd (cc)
above e (g ∷ es) order zero f has = subst (λ z. key e ≤ key z) (same_Some _ _ has) (rises e g (order 0 e g refl refl))
above e (g ∷ es) order (suc i) f has =
    let here : key e ≤ key g = rises e g (order 0 e g refl refl) in
    let on : key g ≤ key f = above g es (λ j a b x y. order (suc j) a b x y) i f has in
    omega arith

-- those from a number on: those at it, and then those behind it
split : (k : ℕ) (t : List Entry) → IsInOrder t → filter (is_from k) t ≡ filter (is_at k) t ++ filter (is_from (k + 1)) t
split k [] order = refl
split k (e ∷ es) order =
    let on : filter (is_from k) es ≡ filter (is_at k) es ++ filter (is_from (k + 1)) es = split k es (λ j a b x y. order (suc j) a b x y) in
    elim (is_from k e) as
    (λ a. is_from k e ≡ a → cond a (e ∷ filter (is_from k) es) (filter (is_from k) es) ≡
    cond (is_at k e) (e ∷ filter (is_at k) es) (filter (is_at k) es) ++ cond (is_from (k + 1) e) (e ∷ filter (is_from (k + 1)) es)
    (filter (is_from (k + 1)) es)) [
      | true ↦ λ yes. elim (is_at k e) as
          (λ b. is_at k e ≡ b → e ∷ filter (is_from k) es ≡ cond b (e ∷ filter (is_at k) es) (filter (is_at k) es) ++ cond
          (is_from (k + 1) e) (e ∷ filter (is_from (k + 1)) es) (filter (is_from (k + 1)) es)) [
            | true ↦ λ here.
                let not_behind : is_from (k + 1) e ≡ false = grind (arith, nat_tests) in
                ap (λ z. e ∷ z) on ∙ ap (λ c. e ∷ (filter (is_at k) es ++ cond c (e ∷ filter (is_from (k + 1)) es)
                (filter (is_from (k + 1)) es))) (sym not_behind)
            | false ↦ λ elsewhere.
                let behind : is_from (k + 1) e ≡ true = grind (arith, nat_tests) in
                let none : filter (is_at k) es ≡ [] = filter_none (is_at k) es (λ i f has. let up = above e es order i f has in grind (arith, nat_tests)) in
                ap (λ z. e ∷ z) (on ∙ ap (λ z. z ++ filter (is_from (k + 1)) es) none)
                ∙ ap (λ c. cond c (e ∷ filter (is_from (k + 1)) es) (filter (is_from (k + 1)) es)) (sym behind)
                ∙ ap (λ z. z ++ cond (is_from (k + 1) e) (e ∷ filter (is_from (k + 1)) es) (filter (is_from (k + 1)) es)) (sym none)
          ] refl
      | false ↦ λ no.
          let not_here : is_at k e ≡ false = grind (arith, nat_tests) in
          let not_behind : is_from (k + 1) e ≡ false = grind (arith, nat_tests) in
          on ∙ ap (λ c. cond c (e ∷ filter (is_at k) es) (filter (is_at k) es) ++ filter (is_from (k + 1)) es) (sym not_here)
          ∙ ap (λ c. cond (is_at k e) (e ∷ filter (is_at k) es) (filter (is_at k) es) ++ cond c (e ∷ filter (is_from (k + 1)) es)
          (filter (is_from (k + 1)) es)) (sym not_behind)
    ] refl

-- ---- filters

-- two tests that agree on a list
agree : (p q : Entry → Bool) (es : List Entry) → ((i : ℕ) (e : Entry) → slice_get es i ≡ Some e → p e ≡ q e) → filter p es ≡ filter q es
agree p q [] same = refl
agree p q (e ∷ es) same =
    ap (λ c. cond c (e ∷ filter p es) (filter p es)) (same 0 e refl) ∙ ap (λ z. cond (q e) (e ∷ z) z) (agree p q es (λ i f has. same (suc i) f has))

-- one filter after the other
both : (p q : Entry → Bool) (es : List Entry) → filter p (filter q es) ≡ filter (λ e. q e && p e) es
both p q [] = refl
both p q (e ∷ es) =
    elim (q e) as (λ b. filter p (cond b (e ∷ filter q es) (filter q es)) ≡ cond (b && p e) (e ∷ filter (λ f. q f && p f) es) (filter (λ f. q f && p f) es)) [
      | true ↦ ap (λ z. cond (p e) (e ∷ z) z) (both p q es)
      | false ↦ both p q es
    ]

either : (p q : Entry → Bool) (es : List Entry) → filter p (filter q es) ≡ filter q (filter p es)
either p q es = both p q es ∙ agree (λ e. q e && p e) (λ e. p e && q e) es (λ i e has. turned (q e) (p e)) ∙ sym (both q p es)
  where
    turned : (a b : Bool) → (a && b) ≡ (b && a)
    turned true true = refl
    turned true false = refl
    turned false true = refl
    turned false false = refl

-- the gets and holds at a count are those that stand at its number
looks : (n : ℕ) (e : Entry) → looked_at n e ≡ is_at (n + n) e
looks n e =
    elim (updates e) as (λ b. (not b && (e.at == n)) ≡ (e.at + e.at + bit b == n + n)) [
      | true ↦ grind (arith, nat_tests)
      | false ↦ elim (e.at == n) as (λ c. (e.at == n) ≡ c → c ≡ (e.at + e.at + 0 == n + n))
          [ true ↦ λ h. grind (arith, nat_tests) | false ↦ λ h. grind (arith, nat_tests) ] refl
    ]

-- and the updates at a place those that stand at the next
stores : (n : ℕ) (e : Entry) → (updates e && (e.at == n)) ≡ is_at (n + n + 1) e
stores n e =
    elim (updates e) as (λ b. (b && (e.at == n)) ≡ (e.at + e.at + bit b == n + n + 1)) [
      | true ↦ elim (e.at == n) as (λ c. (e.at == n) ≡ c → c ≡ (e.at + e.at + 1 == n + n + 1))
          [ true ↦ λ h. grind (arith, nat_tests) | false ↦ λ h. grind (arith, nat_tests) ] refl
      | false ↦ grind (arith, nat_tests)
    ]

at_some : (P : Entry → Type 0) (es : List Entry) → AllByRecursion P es → (i : ℕ) (e : Entry) → slice_get es i ≡ Some e → P e
at_some P [] each i e has = absurd (cc)
at_some P (x ∷ es) each zero e has = subst P (same_Some _ _ has) each.0
at_some P (x ∷ es) each (suc i) e has = at_some P es each.1 i e has

each_filter : (P : Entry → Type 0) (p : Entry → Bool) (es : List Entry) → AllByRecursion P es → AllByRecursion P (filter p es)
each_filter P p [] each = tt
each_filter P p (e ∷ es) each = elim (p e) as (λ b. AllByRecursion P (cond b (e ∷ filter p es) (filter p es)))
    [ true ↦ (each.0, each_filter P p es each.1) | false ↦ each_filter P p es each.1 ]

-- ---- the updates

no_updates : (p : ℕ) (ts : List (List Entry)) → filter updates (reads_at p ts) ≡ []
no_updates p [] = refl
no_updates p (t ∷ ts) =
    filter-append updates (filter (looked_at p) t) (reads_at p ts)
    ∙ ap (λ z. z ++ filter updates (reads_at p ts)) (both updates (looked_at p) t ∙ filter_none (λ e. looked_at p e && updates e) t
    (λ i e has. never (updates e) (e.at == p)))
    ∙ no_updates p ts
  where
    never : (a b : Bool) → ((not a && b) && a) ≡ false
    never true b = refl
    never false true = refl
    never false false = refl

updates_from : (ts : List (List Entry)) (p : ℕ) (es : List Entry) → ((i : ℕ) (e : Entry) → slice_get es i ≡ Some e → updates e ≡ true) →
    filter updates (history_from ts p es) ≡ es
updates_from ts p [] each = no_updates p ts
updates_from ts p (e ∷ es) each =
    filter-append updates (reads_at p ts) (e ∷ history_from ts (p + 1) es)
    ∙ ap (λ z. z ++ filter updates (e ∷ history_from ts (p + 1) es)) (no_updates p ts)
    ∙ ap (λ c. cond c (e ∷ filter updates (history_from ts (p + 1) es)) (filter updates (history_from ts (p + 1) es))) (each 0 e refl)
    ∙ ap (λ z. e ∷ z) (updates_from ts (p + 1) es (λ i f has. each (suc i) f has))

pub updates_are : (geom : Geom) (journal : List Entry) (ts : List (List Entry)) → IsLegal geom journal ts → filter updates (history journal ts) ≡ journal
updates_are geom journal ts legal = updates_from ts 0 journal (λ i e has. (placed geom journal legal.journal_is i e has).is_update)

-- ---- the entries of a rank

-- among the gets and holds at a count, from a rank on
none_of : (p r base : ℕ) (ts : List (List Entry)) → AreOwn base ts → r < base → filter (is_of r) (reads_at p ts) ≡ []
none_of p r base [] own low = refl
none_of p r base (t ∷ ts) own low =
    filter-append (is_of r) (filter (looked_at p) t) (reads_at p ts)
    ∙ ap (λ z. z ++ filter (is_of r) (reads_at p ts))
    (filter_none (is_of r) (filter (looked_at p) t) (λ i e has. let same = at_some (λ f. f.rank ≡ base) (filter (looked_at p) t)
    (each_filter (λ f. f.rank ≡ base) (looked_at p) t own.0.0) i e has in grind (arith, nat_tests)))
    ∙ none_of p r (base + 1) ts own.1 (omega arith)

one_of : (p base i : ℕ) (ts : List (List Entry)) (t : List Entry) → AreOwn base ts → slice_get ts i ≡ Some t →
    filter (is_of (base + i)) (reads_at p ts) ≡ filter (looked_at p) t
one_of p base i [] t own has = absurd (cc)
one_of p base zero (u ∷ ts) t own has =
    filter-append (is_of (base + 0)) (filter (looked_at p) u) (reads_at p ts)
    ∙ ap (λ z. z ++ filter (is_of (base + 0)) (reads_at p ts))
    (filter_all (is_of (base + 0)) (filter (looked_at p) u) (λ i e is. let same = at_some (λ f. f.rank ≡ base) (filter (looked_at p) u)
    (each_filter (λ f. f.rank ≡ base) (looked_at p) u own.0.0) i e is in grind (arith, nat_tests)))
    ∙ ap (λ z. filter (looked_at p) u ++ z) (none_of p (base + 0) (base + 1) ts own.1 (omega arith))
    ∙ append-nil (filter (looked_at p) u) ∙ ap (filter (looked_at p)) (same_Some _ _ has)
one_of p base (suc i) (u ∷ ts) t own has =
    let next : base + suc i ≡ base + 1 + i = omega arith in
    filter-append (is_of (base + suc i)) (filter (looked_at p) u) (reads_at p ts)
    ∙ ap (λ z. z ++ filter (is_of (base + suc i)) (reads_at p ts))
    (filter_none (is_of (base + suc i)) (filter (looked_at p) u)
    (λ j e is. let same = at_some (λ f. f.rank ≡ base) (filter (looked_at p) u)
    (each_filter (λ f. f.rank ≡ base) (looked_at p) u own.0.0) j e is in grind (arith, nat_tests)))
    ∙ ap (λ n. filter (is_of n) (reads_at p ts)) next
    ∙ one_of p (base + 1) i ts t own.1 has

own_at : (base i : ℕ) (ts : List (List Entry)) (t : List Entry) → AreOwn base ts → slice_get ts i ≡ Some t → IsInOrder t
own_at base i [] t own has = absurd (cc)
own_at base zero (u ∷ ts) t own has = subst IsInOrder (same_Some _ _ has) own.0.1
own_at base (suc i) (u ∷ ts) t own has = own_at (base + 1) i ts t own.1 has

module _ (geom : Geom) (journal : List Entry) (ts : List (List Entry)) (legal : IsLegal geom journal ts) (own : AreOwn 0 ts) (r : ℕ)
    (t : List Entry) (has : slice_get ts r ≡ Some t) where
  order : IsInOrder t
  order = own_at 0 r ts t own has

  reads_are : (n : ℕ) → filter (is_of r) (reads_at n ts) ≡ filter (is_at (n + n)) t
  reads_are n =
      ap (λ k. filter (is_of k) (reads_at n ts)) (omega arith) ∙ one_of n 0 r ts t own has ∙ agree (looked_at n) (is_at (n + n)) t (λ i e is. looks n e)

  -- the update at a place
  store_is : (front rest : List Entry) (u : Entry) → front ++ u ∷ rest ≡ journal →
      filter (is_at (length front + length front + 1)) t ≡ filter (is_of r) (u ∷ [])
  store_is front rest u e =
      let n : ℕ = length front in
      let place : (i : ℕ) (f : Entry) → slice_get (front ++ u ∷ rest) i ≡ Some f → f.at ≡ i =
      λ i f is. (placed geom journal legal.journal_is i f (ap (λ z. slice_get z i) (sym e) ∙ is)).place in
      sym (agree (λ f. updates f && (f.at == n)) (is_at (n + n + 1)) t (λ i f is. stores n f)) ∙ sym (both (λ f. f.at == n) updates t)
      ∙ ap (filter (λ f. f.at == n)) (legal.updates_are r t has) ∙ either (λ f. f.at == n) (is_of r) journal
      ∙ ap (λ z. filter (is_of r) (filter (λ f. f.at == n) z)) (sym e)
      ∙ ap (filter (is_of r)) (
      filter-append (λ f. f.at == n) front (u ∷ rest)
      ∙ ap (λ z. z ++ filter (λ f. f.at == n) (u ∷ rest))
      (filter_none (λ f. f.at == n) front (λ i f is. let same = place i f (get_left front (u ∷ rest) i f is) in let low = within front i f
      is in grind (arith, nat_tests)))
      ∙ ap (λ c. cond c (u ∷ filter (λ f. f.at == n) rest) (filter (λ f. f.at == n) rest))
      (let hit : (u.at == n) ≡ true = let same = place n u (found front) in grind (arith, nat_tests) in hit)
      ∙ ap (λ z. u ∷ z) (filter_none (λ f. f.at == n) rest (λ i f is. let same = place (suc (n + i)) f (behind front i f is) in grind (arith, nat_tests)))
      )
    where
      found : (xs : List Entry) → slice_get (xs ++ u ∷ rest) (length xs) ≡ Some u
      found [] = refl
      found (x ∷ xs) = found xs

      behind : (xs : List Entry) (i : ℕ) (f : Entry) → slice_get rest i ≡ Some f → slice_get (xs ++ u ∷ rest) (suc (length xs + i)) ≡ Some f
      behind [] i f is = ap (λ k. slice_get rest k) (omega arith) ∙ is
      behind (x ∷ xs) i f is = ap (λ k. slice_get (xs ++ u ∷ rest) k) (omega arith) ∙ behind xs i f is

      within : (xs : List Entry) (i : ℕ) (f : Entry) → slice_get xs i ≡ Some f → i < length xs
      within [] i f is = absurd (cc)
      within (x ∷ xs) zero f is = omega arith
      within (x ∷ xs) (suc i) f is = let low = within xs i f is in omega arith

  rank_from : (front rest : List Entry) → front ++ rest ≡ journal →
      filter (is_of r) (history_from ts (length front) rest) ≡ filter (is_from (length front + length front)) t
  rank_from front [] e =
      let n : ℕ = length front in
      let all_here : length journal ≡ n = ap length (sym e ∙ append-nil front) in
      reads_are n ∙ sym (
      split (n + n) t order
      ∙ ap (λ z. filter (is_at (n + n)) t ++ z) (filter_none (is_from (n + n + 1)) t (λ i f is. ended n all_here i f is))
      ∙ append-nil (filter (is_at (n + n)) t)
      )
    where
      ended : (n : ℕ) → length journal ≡ n → (i : ℕ) (f : Entry) → slice_get t i ≡ Some f → is_from (n + n + 1) f ≡ false
      ended n all_here i f is =
          let m : IsMarked journal f = all_at (IsMarked journal) t i f (marked geom journal ts legal r t has) is in
          let low = m.low in
          elim (updates f) as (λ b. updates f ≡ b → nat_le (n + n + 1) (f.at + f.at + bit b) ≡ false) [
            | true ↦ λ yes. let in_it = m.within yes in grind (arith, nat_tests)
            | false ↦ λ no. grind (arith, nat_tests)
          ] refl
  rank_from front (u ∷ rest) e =
      let n : ℕ = length front in
      let one_more : length (front ++ u ∷ []) ≡ n + 1 = length-append front (u ∷ []) in
      let later : filter (is_of r) (history_from ts (n + 1) rest) ≡ filter (is_from (n + 1 + (n + 1))) t =
      subst (λ m. filter (is_of r) (history_from ts m rest) ≡ filter (is_from (m + m)) t) one_more
      (rank_from (front ++ u ∷ []) rest (append_assoc front (u ∷ []) rest ∙ e)) in
      filter-append (is_of r) (reads_at n ts) (u ∷ history_from ts (n + 1) rest)
      ∙ ap (λ z. z ++ filter (is_of r) (u ∷ history_from ts (n + 1) rest)) (reads_are n)
      ∙ ap (λ z. filter (is_at (n + n)) t ++ z) (
      filter-append (is_of r) (u ∷ []) (history_from ts (n + 1) rest)
      ∙ ap (λ z. z ++ filter (is_of r) (history_from ts (n + 1) rest)) (sym (store_is front rest u e))
      ∙ ap (λ z. filter (is_at (n + n + 1)) t ++ z) (later ∙ ap (λ k. filter (is_from k) t) (omega arith))
      ∙ sym (split (n + n + 1) t order)
      )
      ∙ sym (split (n + n) t order)

  pub rank_is : filter (is_of r) (history journal ts) ≡ t
  rank_is = rank_from [] journal refl ∙ filter_all (is_from 0) t (λ i e is. grind (arith, nat_tests))
