-- The lines of a lock: what is read is spelled so, and what is spelled so is read.
use Rattle.std.proofs.Common.{◌≡◌, ℕ, zero, suc, ◌+◌, ◌-◌, ◌≤◌, Bool, true, false, cond, List, [], ◌∷◌, ◌++◌, map, drop, codes, decimal, Option, Some, None, Ok, refl, sym, ap, subst, ◌∙◌, arith}
use Rattle.std.specs.Str.{bytes_eq}
use Rattle.std.proofs.lemmas.Slice.Eq.{bytes_eq-Decides}
use Rattle.std.proofs.lemmas.List.{append-nil}
use Rattle.rl_text.specs.declared.causes.Why.TheVariants.{Word}
use Rattle.rl_text.specs.Rows.{Row, words, word_at}
use Rattle.rl_text.specs.Reading.{needed_at, fixed_at, between_at, no_word_at}
use Rattle.rl_text.proofs.FromLaws.{from_bind, rest_from, rest_from-word, word_at-rest}
use Rattle.rl_text.proofs.WordLaws.{ok_is, words-cons, words-nil, needed-takes, needed-again, fixed-takes, fixed-again, between-takes, between-again, no_word-takes, no_word-again}
use Rattle.rl_word.specs.declared.locks.LockName.{LockName}
use Rattle.rl_word.specs.declared.locks.LockName.TheVariants as named
use Rattle.rl_place.specs.declared.limits.TheConstants.{MOST_BUDGET}
use Rattle.rl_place.specs.Places.{BudgetsFit}
use Rattle.rl_place.specs.Reading.{or_no_lock, lock_name_at, budgets_from, budgets_at, cohorts_at}
use Rattle.rl_place.specs.LockWords.{lock_word, lock_named}
use Rattle.rl_place.specs.Spelling.{budget_words}

-- ---- the name

-- a test of a name: it is met, or the others are asked
asked : {P : Type 0} (b : Bool) (x name : LockName) (others : Option LockName) → cond b (Some x) others ≡ Some name → (b ≡ true → x ≡ name → P) → (others ≡ Some name → P) → P
asked true x name others e met not_met = met refl cc
asked false x name others e met not_met = not_met e

is_named : (word : List ℕ) (name : LockName) → lock_named word ≡ Some name → word ≡ lock_word name
unfolding lock_named
is_named word name e =
    asked (bytes_eq (lock_word named.Spin) word) named.Spin name _ e (met named.Spin) (λ e1.
    asked (bytes_eq (lock_word named.Dmcs) word) named.Dmcs name _ e1 (met named.Dmcs) (λ e2.
    asked (bytes_eq (lock_word named.Alock) word) named.Alock name _ e2 (met named.Alock) (λ e3.
    asked (bytes_eq (lock_word named.Mcs) word) named.Mcs name _ e3 (met named.Mcs) (λ e4.
    asked (bytes_eq (lock_word named.Rw) word) named.Rw name _ e4 (met named.Rw) (λ e5.
    asked (bytes_eq (lock_word named.Seq) word) named.Seq name _ e5 (met named.Seq) (λ e6.
    asked (bytes_eq (lock_word named.Combine) word) named.Combine name _ e6 (met named.Combine) (λ e7. absurd cc)))))))
  where
    met : (x : LockName) → bytes_eq (lock_word x) word ≡ true → x ≡ name → word ≡ lock_word name
    met x is same = sym ((bytes_eq-Decides (lock_word x) word).0 is) ∙ ap lock_word same

pub lock_name-takes : (row : Row) (name : LockName) → lock_name_at row ≡ Ok name → words row ≡ codes "lock" ∷ lock_word name ∷ []
unfolding lock_name_at
lock_name-takes row name e =
    from_bind (fixed_at row 1 (codes "lock") Word) _ name e (λ u first e1.
    from_bind (needed_at row 2) _ name e1 (λ word second e2.
    from_bind (or_no_lock row (lock_named word)) _ name e2 (λ x is_name e3.
    from_bind (no_word_at row 3) _ name e3 (λ v alone e4.
    let all : words row ≡ codes "lock" ∷ word ∷ [] = words-cons (words row) 0 _ _ (fixed-takes row 1 (codes "lock") Word u first) (words-cons (words row) 1 _ _ (needed-takes row 2 word second) (words-nil (words row) 2 (no_word-takes row 3 v alone))) in
    all ∙ ap (λ (w : List ℕ). codes "lock" ∷ w ∷ []) (is_named word name (found (lock_named word) x is_name ∙ ap (λ (y : LockName). Some y) (ok_is x name e4)))))))
  where
    found : (o : Option LockName) (x : LockName) → or_no_lock row o ≡ Ok x → o ≡ Some x
    found None x e = absurd cc
    found (Some y) x e = cc

pub lock_name-again : (row : Row) (name : LockName) → words row ≡ codes "lock" ∷ lock_word name ∷ [] → lock_name_at row ≡ Ok name
unfolding lock_name_at lock_named
lock_name-again row name e = rw (fixed-again row 1 (codes "lock") Word (rw e refl), needed-again row 2 (lock_word name) (rw e refl), known name, no_word-again row 3 (rw e refl)) refl
  where
    known : (x : LockName) → lock_named (lock_word x) ≡ Some x
    known named.Spin = refl
    known named.Dmcs = refl
    known named.Alock = refl
    known named.Mcs = refl
    known named.Rw = refl
    known named.Seq = refl
    known named.Combine = refl

-- ---- budgets

-- the words from n on are these budgets and then the words from m on
pub record BudgetsTaken (row : Row) (n count m : ℕ) (budgets : List ℕ) : Type 0 where
  pub fit : BudgetsFit count budgets
  pub are : rest_from row n ≡ map decimal budgets ++ rest_from row m

pub budgets-take : (row : Row) (n count m : ℕ) (budgets : List ℕ) → 1 ≤ n → m ≡ n + count → budgets_from row n count ≡ Ok budgets → BudgetsTaken row n count m budgets
unfolding budgets_from
budgets-take row n zero m budgets one last e =
    let same : m ≡ n = omega (arith, last) in
    subst (λ (bs : List ℕ). BudgetsTaken row n 0 m bs) (ok_is [] budgets e) (record { fit = record { each_level = refl; small = tt }; are = rw same refl })
budgets-take row n (suc count) m budgets one last e =
    from_bind (between_at row n 0 MOST_BUDGET) _ budgets e (λ budget first e1.
    from_bind (budgets_from row (n + 1) count) _ budgets e1 (λ others more e2.
    let a = between-takes row n 0 MOST_BUDGET budget first in
    let b = budgets-take row (n + 1) count m others (omega arith) (omega (arith, last)) more in
    subst (λ (bs : List ℕ). BudgetsTaken row n (suc count) m bs) (ok_is (budget ∷ others) budgets e2) (record {
      fit = record { each_level = ap suc b.fit.each_level; small = (a.2, b.fit.small) };
      are = rest_from-word row n (n + 1) (decimal budget) one refl a.0.word ∙ ap (λ (ws : List (List ℕ)). decimal budget ∷ ws) b.are;
    })))

pub record BudgetsMade (row : Row) (n count m : ℕ) (budgets : List ℕ) (more : List (List ℕ)) : Type 0 where
  pub read : budgets_from row n count ≡ Ok budgets
  pub rest : rest_from row m ≡ more

tails : (a b : List ℕ) (xs ys : List (List ℕ)) → a ∷ xs ≡ b ∷ ys → xs ≡ ys
tails a b xs ys e = ap (drop 1) e

pub budgets-again : (row : Row) (n count m : ℕ) (budgets : List ℕ) (more : List (List ℕ)) → 1 ≤ n → m ≡ n + count → BudgetsFit count budgets → rest_from row n ≡ map decimal budgets ++ more → BudgetsMade row n count m budgets more
unfolding budgets_from
budgets-again row n zero m [] more one last fit e =
    let same : m ≡ n = omega (arith, last) in
    record { read = refl; rest = rw same e }
budgets-again row n (suc count) m [] more one last fit e = absurd (omega (arith, fit.each_level))
budgets-again row n zero m (budget ∷ budgets) more one last fit e = absurd (omega (arith, fit.each_level))
budgets-again row n (suc count) m (budget ∷ budgets) more one last fit e =
    let word : word_at row n ≡ Some (decimal budget) = word_at-rest row n n 0 (decimal budget ∷ map decimal budgets ++ more) one (omega arith) e in
    let next : rest_from row (n + 1) ≡ map decimal budgets ++ more = tails (decimal budget) (decimal budget) _ _ (sym (rest_from-word row n (n + 1) (decimal budget) one refl word) ∙ e) in
    let others = budgets-again row (n + 1) count m budgets more (omega arith) (omega (arith, last)) (record { each_level = omega (arith, fit.each_level); small = fit.small.1 }) next in
    record {
      read = rw (between-again row n 0 MOST_BUDGET budget (record { word = word; fits = omega (arith, fit.small.0) }) (omega arith) fit.small.0, others.read) refl;
      rest = others.rest;
    }

pub record BudgetLine (row : Row) (count : ℕ) (budgets : List ℕ) : Type 0 where
  pub fit : BudgetsFit count budgets
  pub are : words row ≡ budget_words budgets

pub budget_line-takes : (row : Row) (count : ℕ) (budgets : List ℕ) → budgets_at row count ≡ Ok budgets → BudgetLine row count budgets
unfolding budgets_at
budget_line-takes row count budgets e =
    from_bind (fixed_at row 1 (codes "budget") Word) _ budgets e (λ u first e1.
    from_bind (budgets_from row 2 count) _ budgets e1 (λ bs numbers e2.
    from_bind (no_word_at row (count + 2)) _ budgets e2 (λ v alone e3.
    let taken = budgets-take row 2 count (count + 2) bs (omega arith) (omega arith) numbers in
    let none : rest_from row (count + 2) ≡ [] = words-nil (words row) (count + 2 - 1) (no_word-takes row (count + 2) v alone) in
    let all : words row ≡ budget_words bs = words-cons (words row) 0 _ _ (fixed-takes row 1 (codes "budget") Word u first) (taken.are ∙ ap (λ (ws : List (List ℕ)). map decimal bs ++ ws) none ∙ append-nil (map decimal bs)) in
    subst (λ (cs : List ℕ). BudgetLine row count cs) (ok_is bs budgets e3) (record { fit = taken.fit; are = all }))))

pub budget_line-again : (row : Row) (count : ℕ) (budgets : List ℕ) → BudgetsFit count budgets → words row ≡ budget_words budgets → budgets_at row count ≡ Ok budgets
unfolding budgets_at
budget_line-again row count budgets fit e =
    let first : word_at row 1 ≡ Some (codes "budget") = rw e refl in
    let numbers : rest_from row 2 ≡ map decimal budgets ++ [] = rw (e, append-nil (map decimal budgets)) refl in
    let made = budgets-again row 2 count (count + 2) budgets [] (omega arith) (omega arith) fit numbers in
    let none : word_at row (count + 2) ≡ None = word_at-rest row (count + 2) (count + 2) 0 [] (omega arith) (omega arith) made.rest in
    rw (fixed-again row 1 (codes "budget") Word first, made.read, no_word-again row (count + 2) none) refl

-- ---- the two budgets of ALock

pub record CohortsTaken (row : Row) (p : ℕ × ℕ) : Type 0 where
  pub are : words row ≡ budget_words (p.0 ∷ p.1 ∷ [])
  pub local : p.0 ≤ MOST_BUDGET
  pub remote : p.1 ≤ MOST_BUDGET

pub cohorts-take : (row : Row) (p : ℕ × ℕ) → cohorts_at row ≡ Ok p → CohortsTaken row p
unfolding cohorts_at
cohorts-take row p e =
    from_bind (fixed_at row 1 (codes "budget") Word) _ p e (λ u first e1.
    from_bind (between_at row 2 0 MOST_BUDGET) _ p e1 (λ local second e2.
    from_bind (between_at row 3 0 MOST_BUDGET) _ p e2 (λ remote third e3.
    from_bind (no_word_at row 4) _ p e3 (λ v alone e4.
    let a = between-takes row 2 0 MOST_BUDGET local second in
    let b = between-takes row 3 0 MOST_BUDGET remote third in
    let all : words row ≡ budget_words (local ∷ remote ∷ []) = words-cons (words row) 0 _ _ (fixed-takes row 1 (codes "budget") Word u first)
    (words-cons (words row) 1 _ _ a.0.word (words-cons (words row) 2 _ _ b.0.word (words-nil (words row) 3 (no_word-takes row 4 v alone)))) in
    subst (λ (q : ℕ × ℕ). CohortsTaken row q) (ok_is (local, remote) p e4) (record { are = all; local = a.2; remote = b.2 })))))

pub cohorts-again : (row : Row) (local remote : ℕ) → local ≤ MOST_BUDGET → remote ≤ MOST_BUDGET → words row ≡ budget_words (local ∷ remote ∷ []) → cohorts_at row ≡ Ok (local, remote)
unfolding cohorts_at
cohorts-again row local remote few small e =
    rw (
      fixed-again row 1 (codes "budget") Word (rw e refl),
      between-again row 2 0 MOST_BUDGET local (record { word = rw e refl; fits = omega arith }) (omega arith) few,
      between-again row 3 0 MOST_BUDGET remote (record { word = rw e refl; fits = omega arith }) (omega arith) small,
      no_word-again row 4 (rw e refl),
    ) refl
