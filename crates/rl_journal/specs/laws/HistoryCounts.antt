-- The history has each entry of the transcripts as often as they have it, and no other.
use Rattle.std.specs.Prelude.{◌≡◌, ℕ, zero, suc, ◌+◌, ◌<◌, ◌≤◌, ◌==◌, Bool, true, false, not, ◌&&◌, cond, List, [], ◌∷◌, All, filter, count_by, length, slice_get, Some, refl}
use Rattle.std.proofs.Common.{◌∙◌, ap, arith, ltb, eqb}
use Rattle.std.proofs.lemmas.List.Elements.{All-filter, All-head, All-tail, All-nil, All-cons}
use Rattle.std.proofs.lemmas.List.Sums.{length-filter}
use Rattle.std.proofs.lemmas.Bool.Decides.{nat_tests}
use Rattle.rl_model.specs.Table.{sum_below}
use Rattle.rl_model.specs.declared.entry.Entry.{Entry}
use Rattle.rl_model.specs.declared.geom.Geom.{Geom}
use Rattle.rl_model.proofs.Counts.{sum_of_counts, count-cons, count-append}
use Rattle.rl_journal.specs.Legal.{updates, is_of, IsLegal, IsLegalRead}
use Rattle.rl_journal.specs.Ranks.{count_in}
use Rattle.rl_journal.specs.History.{looked_at, reads_at, history}
use Rattle.rl_journal.specs.laws.HistoryLaws.{reads_within, history_counts}

abbrev one_if : Bool → ℕ
one_if b = cond b 1 0

-- two tests may be taken in either order
swapped : (p q : Entry → Bool) (es : List Entry) → count_by p (filter q es) ≡ count_by q (filter p es)
swapped p q [] = refl
swapped p q (e ∷ es) =
    elim (p e) as (λ a. p e ≡ a → count_by p (cond (q e) (e ∷ filter q es) (filter q es)) ≡ count_by q (cond a (e ∷ filter p es) (filter p es))) [
      | true ↦ λ ep. elim (q e) as (λ b. q e ≡ b → count_by p (cond b (e ∷ filter q es) (filter q es)) ≡ count_by q (e ∷ filter p es)) [
        | true ↦ λ eq.
            let hp : ◌≡◌ {A = ℕ} (cond (p e) 1 0) 1 = ap one_if ep in
            let hq : ◌≡◌ {A = ℕ} (cond (q e) 1 0) 1 = ap one_if eq in
            omega (arith, count-cons p e (filter q es), count-cons q e (filter p es), swapped p q es)
        | false ↦ λ eq. let hq : ◌≡◌ {A = ℕ} (cond (q e) 1 0) 0 = ap one_if eq in omega (arith, count-cons q e (filter p es), swapped p q es)
      ] refl
      | false ↦ λ ep. elim (q e) as (λ b. count_by p (cond b (e ∷ filter q es) (filter q es)) ≡ count_by q (filter p es)) [
        | true ↦ let hp : ◌≡◌ {A = ℕ} (cond (p e) 1 0) 0 = ap one_if ep in omega (arith, count-cons p e (filter q es), swapped p q es)
        | false ↦ swapped p q es
      ]
    ] refl

-- what passes a test or doesn't
both : (test p : Entry → Bool) (es : List Entry) → count_by test (filter p es) + count_by test (filter (λ e. not (p e)) es) ≡ count_by test es
both test p [] = refl
both test p (e ∷ es) =
    elim (p e) as (λ a. count_by test (cond a (e ∷ filter p es) (filter p es)) + count_by test
    (cond (not a) (e ∷ filter (λ f. not (p f)) es) (filter (λ f. not (p f)) es)) ≡ count_by test (e ∷ es)) [
      | true ↦ omega (arith, count-cons test e (filter p es), count-cons test e es, both test p es)
      | false ↦ omega (arith, count-cons test e (filter (λ f. not (p f)) es), count-cons test e es, both test p es)
    ]

-- those that fall below a bound
all_under : (f : Entry → ℕ) (n : ℕ) (es : List Entry) → All (λ e. f e < n) es → count_by (λ e. ltb (f e) n) es ≡ length es
all_under f n [] all = refl
all_under f n (e ∷ es) all =
    let low : f e < n = All-head (λ g. f g < n) e es all in
    let hit : ltb (f e) n ≡ true = grind (arith, nat_tests) in
    let one_is : ◌≡◌ {A = ℕ} (cond (ltb (f e) n) 1 0) 1 = ap one_if hit in
    omega (arith, count-cons (λ (g : Entry). ltb (f g) n) e es, all_under f n es (All-tail (λ g. f g < n) e es all))

sum_same : (f g : ℕ → ℕ) (n : ℕ) → ((k : ℕ) → k < n → f k ≡ g k) → sum_below f n ≡ sum_below g n
sum_same f g zero same = refl
sum_same f g (suc n) same = omega (arith, sum_same f g n (λ k h. same k (omega arith)), same n (omega arith))

-- counted by a number below a bound, entries come to all
by_number : (f : Entry → ℕ) (n : ℕ) (test : Entry → Bool) (es : List Entry) → All (λ e. f e < n) es →
    sum_below (λ k. count_by test (filter (λ e. eqb (f e) k) es)) n ≡ count_by test es
by_number f n test es all =
    sum_same (λ k. count_by test (filter (λ e. eqb (f e) k) es)) (λ k. count_by (λ e. eqb (f e) k) (filter test es)) n
    (λ k h. swapped test (λ e. eqb (f e) k) es)
    ∙ sum_of_counts f n (filter test es) ∙ all_under f n (filter test es) (All-filter test (λ e. f e < n) es all) ∙ length-filter test es

sum_shift : (f : ℕ → ℕ) (n : ℕ) → sum_below f (suc n) ≡ f 0 + sum_below (λ k. f (suc k)) n
sum_shift f zero = omega arith
sum_shift f (suc n) = omega (arith, sum_shift f n)

sum_add : (f g : ℕ → ℕ) (n : ℕ) → sum_below (λ k. f k + g k) n ≡ sum_below f n + sum_below g n
sum_add f g zero = refl
sum_add f g (suc n) = omega (arith, sum_add f g n)

sum_zero : (n : ℕ) → sum_below (λ k. 0) n ≡ 0
sum_zero zero = refl
sum_zero (suc n) = omega (arith, sum_zero n)

-- a filter that looks at two things
twice : (k : ℕ) (t : List Entry) → filter (looked_at k) t ≡ filter (λ e. eqb e.at k) (filter (λ e. not (updates e)) t)
twice k [] = refl
twice k (e ∷ es) =
    elim (updates e) as (λ b. cond (not b && (e.at == k)) (e ∷ filter (looked_at k) es) (filter (looked_at k) es) ≡ filter (λ f. eqb f.at k)
    (cond (not b) (e ∷ filter (λ f. not (updates f)) es) (filter (λ f. not (updates f)) es))) [
      | true ↦ twice k es
      | false ↦ elim (e.at == k) as (λ c. cond c (e ∷ filter (looked_at k) es) (filter (looked_at k) es) ≡ cond c
          (e ∷ filter (λ f. eqb f.at k) (filter (λ f. not (updates f)) es)) (filter (λ f. eqb f.at k) (filter (λ f. not (updates f)) es))) [
            | true ↦ ap (λ z. e ∷ z) (twice k es)
            | false ↦ twice k es
          ]
    ]

-- the gets and holds looked at counts up to the journal's end
low_reads : (geom : Geom) (journal : List Entry) (t : List Entry) → All (IsLegalRead geom journal) t →
    All (λ e. e.at < length journal + 1) (filter (λ e. not (updates e)) t)
low_reads geom journal [] all = All-nil (λ e. e.at < length journal + 1)
low_reads geom journal (e ∷ es) all =
    let rest : All (λ f. f.at < length journal + 1) (filter (λ f. not (updates f)) es) =
    low_reads geom journal es (All-tail (IsLegalRead geom journal) e es all) in
    elim (updates e) as (λ b. updates e ≡ b → All (λ f. f.at < length journal + 1)
    (cond (not b) (e ∷ filter (λ f. not (updates f)) es) (filter (λ f. not (updates f)) es))) [
      | true ↦ λ u. rest
      | false ↦ λ u.
          let low : e.at ≤ length journal = (All-head (IsLegalRead geom journal) e es all u).0 in
          let under : e.at < length journal + 1 = omega arith in
          All-cons (λ f. f.at < length journal + 1) e (filter (λ f. not (updates f)) es) under rest
    ] refl

module _ (test : Entry → Bool) where
  -- how many of those that pass a first test pass this one
  abbrev kept_in : (Entry → Bool) → List (List Entry) → ℕ
  kept_in p [] = 0
  kept_in p (t ∷ ts) = count_by test (filter p t) + kept_in p ts

  kept_both : (ts : List (List Entry)) → kept_in updates ts + kept_in (λ e. not (updates e)) ts ≡ count_in test ts
  kept_both [] = refl
  kept_both (t ∷ ts) = omega (arith, both test updates t, kept_both ts)

  -- the updates of all transcripts are those of the journal
  updates_in : (journal : List Entry) (ts : List (List Entry)) (from : ℕ) →
      ((k : ℕ) (t : List Entry) → slice_get ts k ≡ Some t → filter updates t ≡ filter (is_of (from + k)) journal) →
      kept_in updates ts ≡ sum_below (λ k. count_by test (filter (is_of (from + k)) journal)) (length ts)
  updates_in journal [] from same = refl
  updates_in journal (t ∷ ts) from same =
      let rest : kept_in updates ts ≡ sum_below (λ k. count_by test (filter (is_of (from + 1 + k)) journal)) (length ts) =
      updates_in journal ts (from + 1) (λ k u get. same (suc k) u get ∙ ap (λ n. filter (is_of n) journal) (omega arith)) in
      let moved : sum_below (λ k. count_by test (filter (is_of (from + 1 + k)) journal)) (length ts) ≡ sum_below
      (λ k. count_by test (filter (is_of (from + suc k)) journal)) (length ts) =
      sum_same _ _ (length ts) (λ k h. ap (λ n. count_by test (filter (is_of n) journal)) (omega arith)) in
      omega (arith, ap (count_by test) (same 0 t refl), rest, moved, sum_shift (λ k. count_by test (filter (is_of (from + k)) journal)) (length ts))

  -- the gets and holds at a count
  reads_at_in : (k : ℕ) (ts : List (List Entry)) → count_by test (reads_at k ts) ≡ kept_in (looked_at k) ts
  reads_at_in k [] = refl
  reads_at_in k (t ∷ ts) = omega (arith, count-append test (filter (looked_at k) t) (reads_at k ts), reads_at_in k ts)

  reads_within_is : (p n : ℕ) (ts : List (List Entry)) → reads_within p n test ts ≡ sum_below (λ k. count_by test (reads_at (p + k) ts)) n
  reads_within_is p zero ts = refl
  reads_within_is p (suc n) ts =
      let first : count_by test (reads_at p ts) ≡ count_by test (reads_at (p + 0) ts) = ap (λ m. count_by test (reads_at m ts)) (omega arith) in
      let moved : sum_below (λ k. count_by test (reads_at (p + 1 + k) ts)) n ≡ sum_below (λ k. count_by test (reads_at (p + suc k) ts)) n =
      sum_same _ _ n (λ k h. ap (λ m. count_by test (reads_at m ts)) (omega arith)) in
      omega (arith, reads_within_is (p + 1) n ts, first, moved, sum_shift (λ k. count_by test (reads_at (p + k) ts)) n)

  -- at all counts
  reads_in : (geom : Geom) (journal : List Entry) (ts : List (List Entry)) →
      ((k : ℕ) (t : List Entry) → slice_get ts k ≡ Some t → All (IsLegalRead geom journal) t) →
      sum_below (λ k. kept_in (looked_at k) ts) (length journal + 1) ≡ kept_in (λ e. not (updates e)) ts
  reads_in geom journal [] all = sum_zero (length journal + 1)
  reads_in geom journal (t ∷ ts) all =
      let n : ℕ = length journal + 1 in
      let here : sum_below (λ k. count_by test (filter (looked_at k) t)) n ≡ count_by test (filter (λ e. not (updates e)) t) =
      sum_same _ _ n (λ k h. ap (count_by test) (twice k t)) ∙ by_number (λ e. e.at) n test (filter (λ e. not (updates e)) t)
      (low_reads geom journal t (all 0 t refl)) in
      omega (
        arith,
        sum_add (λ k. count_by test (filter (looked_at k) t)) (λ k. kept_in (looked_at k) ts) n,
        here,
        reads_in geom journal ts
            (λ k u get. all (suc k) u get),
      )

  -- whatever is counted, the history has as much of it as the transcripts
  pub same_entries : (geom : Geom) (journal : List Entry) (ts : List (List Entry)) → IsLegal geom journal ts →
      count_by test (history journal ts) ≡ count_in test ts
  same_entries geom journal ts legal =
      let n : ℕ = length journal + 1 in
      let ups : kept_in updates ts ≡ count_by test journal =
      updates_in journal ts 0 (λ k t get. legal.updates_are k t get ∙ ap (λ m. filter (is_of m) journal) (omega arith))
      ∙ sum_same (λ k. count_by test (filter (is_of (0 + k)) journal)) (λ k. count_by test (filter (λ e. eqb e.rank k) journal)) (length ts)
      (λ k h. ap (λ m. count_by test (filter (is_of m) journal)) (omega arith))
      ∙ by_number (λ e. e.rank) (length ts) test journal legal.ranks_are in
      let at_counts : sum_below (λ k. count_by test (reads_at (0 + k) ts)) n ≡ sum_below (λ k. kept_in (looked_at k) ts) n =
      sum_same _ _ n (λ k h. ap (λ m. count_by test (reads_at m ts)) (omega arith) ∙ reads_at_in k ts) in
      omega (arith, history_counts test ts 0 journal, reads_within_is 0 n ts, at_counts, reads_in geom journal ts legal.reads_are, ups, kept_both ts)
