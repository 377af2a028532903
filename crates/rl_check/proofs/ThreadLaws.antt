-- What is found side by side is found in order.
use Rattle.std.proofs.Common.{◌≡◌, ℕ, zero, suc, ◌+◌, ◌<◌, ◌≤◌, Bool, false, List, [], ◌∷◌, length, Option, Some, None, Ok, Err, IfOk, IsTrue, refl, sym, ap, subst, ◌∙◌, arith}
use Rattle.std.specs.Prelude.{slice_get, ◌↔◌}
use Rattle.std.specs.List.{AllZip, range_with_len}
use Rattle.std.proofs.lemmas.Option.{same_Some}
use Rattle.rl_word.specs.laws.Places.{some_at}
use Rattle.rl_check.specs.declared.illegal.Illegal.{Illegal}
use Rattle.rl_check.specs.Tests.{Tests, IsFirstOf, PassBelow, each}
use Rattle.rl_check.specs.Threads.{Found, something, answer_test, answer_tests}
use Rattle.rl_check.proofs.EntryTests.{false_true}

-- ---- the first answer that is something

module _ (all : List Found) (p : ℕ) (x : Found) where
  pub nothing_here : slice_get all p ≡ Some x → x ≡ Ok None → (answer_test all p).pass
  nothing_here at none y get = sym (same_Some _ _ (sym at ∙ get)) ∙ none

  pub something_here : p < length all → PassBelow (answer_test all) p → slice_get all p ≡ Some x → (b : Bool) → IsTrue b ↔ (x ≡ Ok None) →
      b ≡ false → IsFirstOf (answer_tests all) (something x)
  something_here low before at b is not = by x at (λ none. false_true b not (is.1 none)) where
    by : (y : Found) → slice_get all p ≡ Some y → (y ≡ Ok None → ⊥) → IsFirstOf (answer_tests all) (something y)
    by (Ok None) get some = absurd (some refl)
    by (Ok (Some f)) get some = (p, low, before, (Ok (Some f), get, (refl, some)))
    by (Err e) get some = (p, low, before, (Err e, get, (refl, some)))

-- ---- each is as it is by its number

each_from : (P : ℕ → Option Illegal → Type 0) (from n : ℕ) (all : List Found) → AllZip (λ s found. IfOk found (P s)) (range_with_len from n) all → (length all ≡ n) × ((s : ℕ) (x : Found) → slice_get all s ≡ Some x → IfOk x (P (from + s)))
each_from P from zero [] z = (refl, λ s x get. absurd (cc))
each_from P from zero (y ∷ all) z = absurd z
each_from P from (suc n) [] z = absurd z
each_from P from (suc n) (y ∷ all) z =
    let on = each_from P (from + 1) n all z.1 in
    (ap suc on.0, at on.1) where
      at : ((s : ℕ) (x : Found) → slice_get all s ≡ Some x → IfOk x (P (from + 1 + s))) → (s : ℕ) (x : Found) → slice_get (y ∷ all) s ≡ Some x → IfOk x (P (from + s))
      at on zero x get = let same : from + 0 ≡ from = omega arith in subst (λ k. IfOk x (P k)) (sym same) (subst (λ w. IfOk w (P from)) (same_Some _ _ get) z.0)
      at on (suc s) x get = let same : from + 1 + s ≡ from + suc s = omega arith in subst (λ k. IfOk x (P k)) same (on s x get)

-- the first answer that is something is the first fault
module _ (c : ℕ → Tests Illegal) (n : ℕ) (all : List Found) (z : AllZip (λ s found. IfOk found (IsFirstOf (c s))) (range_with_len 0 n)
    all) where
  long : length all ≡ n
  long = (each_from (λ s. IsFirstOf (c s)) 0 n all z).0

  found : (s : ℕ) (x y : Found) → slice_get all s ≡ Some x → x ≡ y → IfOk y (IsFirstOf (c s))
  found s x y get is =
      let same : 0 + s ≡ s = omega arith in
      subst (λ k. IfOk y (IsFirstOf (c k))) same (subst (λ (w : Found). IfOk w (IsFirstOf (c (0 + s)))) is
      ((each_from (λ s. IsFirstOf (c s)) 0 n all z).1 s x get))

  passed : (k : ℕ) → k ≤ length all → PassBelow (answer_test all) k → PassBelow c k
  passed k there before s low = let x = some_at all s (omega arith) in found s x.0 (Ok None) x.1 (before s low x.0 x.1)

  pub answered : (m : ℕ) → m ≡ n → (r : Found) → IsFirstOf (answer_tests all) (something r) → IfOk r (IsFirstOf (each m c))
  answered m same (Ok None) first = λ i low. passed (length all) (omega arith) first i (let h = long in omega arith)
  answered m same (Ok (Some f)) first = (
    first.0,
    (let h = long in let low = first.1 in omega arith),
    passed first.0 (let low = first.1 in omega arith) first.2,
    found first.0 first.3.0 (Ok (Some f)) first.3.1 (sym first.3.2.0),
  )
  answered m same (Err e) first = tt
