-- What is found of some tests is found of more in their order.
use Rattle.std.proofs.Common.{◌≡◌, ℕ, ◌+◌, ◌<◌, true, false, List, Option, Some, None, Result, Ok, Err, IfOk, sym, subst, ◌∙◌, inl, inr, ⊎_elim}
use Rattle.std.specs.Prelude.{slice_get}
use Rattle.std.specs.Option.{is_some}
use Rattle.std.proofs.lemmas.Option.{same_Some}
use Rattle.rl_check.specs.Tests.{Tests, IsFirstOf, ◌and_then◌, PassBelow, each, where_there}
use Rattle.rl_check.proofs.Places.{below_next}

pub if_ok : {X E : Type 0} (r : Result X E) (P Q : X → Type 0) → ((x : X) → P x → Q x) → IfOk r P → IfOk r Q
if_ok (Ok x) P Q f h = f x h
if_ok (Err e) P Q f h = tt

module _ {F : Type 0} (a b : Tests F) where
  -- behind those that are passed
  pub then_first : (o : Option F) → a.pass → IsFirstOf b o → IsFirstOf (a and_then b) o
  then_first None passed first = (passed, first)
  then_first (Some f) passed first = inr (passed, first)

  pub then_found : {E : Type 0} (r : Result (Option F) E) → a.pass → IfOk r (IsFirstOf b) → IfOk r (IsFirstOf (a and_then b))
  then_found r passed = if_ok r (IsFirstOf b) (IsFirstOf (a and_then b)) (λ o. then_first o passed)

  -- a fault of the first
  pub stops_first : (o : Option F) → IsFirstOf a o → is_some o ≡ true → IsFirstOf (a and_then b) o
  stops_first None first so = absurd (cc)
  stops_first (Some f) first so = inl first

module _ {F : Type 0} (c : ℕ → Tests F) where
  -- those of one number more are passed
  pub pass_more : (n : ℕ) → PassBelow c n → (c n).pass → PassBelow c (n + 1)
  pass_more n before here i low = ⊎_elim (λ less. before i less) (λ same. subst (λ z. (c z).pass) (sym same) here) (below_next i n low)

  pub pass_next : (n : ℕ) (o : Option F) → PassBelow c n → IsFirstOf (c n) o → is_some o ≡ false → PassBelow c (n + 1)
  pass_next n None before first none = pass_more n before first
  pass_next n (Some f) before first none = absurd (cc)

  -- a fault behind those that are passed
  pub each_first : (n i : ℕ) (o : Option F) → i < n → PassBelow c i → IsFirstOf (c i) o → is_some o ≡ true → IsFirstOf (each n c) o
  each_first n i None low before first so = absurd (cc)
  each_first n i (Some f) low before first so = (i, low, before, first)

-- the element is there
pub found_there : {F X : Type 0} (xs : List X) (i : ℕ) (c : X → Tests F) (x : X) → slice_get xs i ≡ Some x → (o : Option F) →
    IsFirstOf (c x) o → IsFirstOf (where_there xs i c) o
found_there xs i c x there None first = λ y get. subst (λ z. (c z).pass) (same_Some _ _ (sym there ∙ get)) first
found_there xs i c x there (Some f) first = (x, there, first)
