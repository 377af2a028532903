-- The acts that are begun stay the same ones where the first rank that is in a card goes on.
use Rattle.std.specs.Prelude.{◌≡◌, ◌⊎◌, ℕ, zero, suc, ◌+◌, ◌<◌, List, [], ◌∷◌, slice_get, slice_set, Option, Some, None, refl}
use Rattle.std.proofs.Common.{sym, ◌∙◌, ap, subst, inl, inr, ⊎_elim, arith}
use Rattle.std.proofs.lemmas.Option.{same_Some}
use Rattle.rl_word.specs.declared.acts.Act.{Act}
use Rattle.rl_step.specs.Lock.{LockTable}
use Rattle.rl_rank.specs.declared.card_state.CardState.{CardState}
use Rattle.rl_rank.specs.declared.card_state.CardState.TheVariants.{Free, InCard, Loaded, ToLeave}
use Rattle.rl_rank.specs.declared.side.Side.{Side}
use Rattle.rl_rank.specs.Begun.{Sight, begun_by, begun_of, begun}

pub free_or_not : (c : CardState) → (c ≡ Free) ⊎ (c ≡ Free → ⊥)
free_or_not Free = inl refl
free_or_not InCard = inr (λ e. cc)
free_or_not (Loaded g) = inr (λ e. cc)
free_or_not (ToLeave n) = inr (λ e. cc)

-- all ranks of a list are in no card
abbrev pub AllFree : {V : Type 0} → List (Side V) → Type 0
AllFree xs = (r : ℕ) (x : Side _) → slice_get xs r ≡ Some x → x.card ≡ Free

-- the first rank that is in a card
pub record IsFirstIn {V : Type 0} (xs : List (Side V)) (r : ℕ) : Type 0 where
  pub side : Side V
  pub has : slice_get xs r ≡ Some side
  pub in_card : side.card ≡ Free → ⊥
  pub before : (k : ℕ) (u : Side V) → k < r → slice_get xs k ≡ Some u → u.card ≡ Free

pub first_in : {V : Type 0} (xs : List (Side V)) → AllFree xs ⊎ ((r : ℕ) × IsFirstIn xs r)
first_in [] = inl (λ r x e. cc)
first_in (x ∷ xs) =
    ⊎_elim
    (λ free. ⊎_elim
    (λ rest. inl (all_of free rest))
    (λ some. inr (suc some.0, record { side = some.1.side; has = some.1.has; in_card = some.1.in_card; before = before_of free some.0 some.1.before }))
    (first_in xs))
    (λ not. inr (0, record { side = x; has = refl; in_card = not; before = λ k u lt e. absurd (omega arith) }))
    (free_or_not x.card) where
      all_of : x.card ≡ Free → AllFree xs → AllFree (x ∷ xs)
      all_of free rest zero u e = ap (λ (z : Side _). z.card) (sym (same_Some _ _ e)) ∙ free
      all_of free rest (suc r) u e = rest r u e

      before_of : x.card ≡ Free → (r : ℕ) → ((k : ℕ) (u : Side _) → k < r → slice_get xs k ≡ Some u → u.card ≡ Free) →
          (k : ℕ) (u : Side _) → k < suc r → slice_get (x ∷ xs) k ≡ Some u → u.card ≡ Free
      before_of free r old zero u lt e = ap (λ (z : Side _). z.card) (sym (same_Some _ _ e)) ∙ free
      before_of free r old (suc k) u lt e = let b : k < r = omega arith in old k u b e

module _ {V : Type 0} (T : LockTable V) where
  free_by : (z : Sight V) (r : ℕ) (v : V) (p : Option Act) → begun_by T z r v p Free ≡ z
  free_by z r v None = refl
  free_by z r v (Some a) = refl

  -- who is in no card has begun nothing
  pub free_begins : (z : Sight V) (r : ℕ) (x : Side V) → x.card ≡ Free → begun_of T z r x ≡ z
  free_begins z r x free = ap (begun_by T z r x.view (T.plan x.view)) free ∙ free_by z r x.view (T.plan x.view)

  pub all_free_begin : (z : Sight V) (i : ℕ) (xs : List (Side V)) → AllFree xs → begun T z i xs ≡ z
  all_free_begin z i [] free = refl
  all_free_begin z i (x ∷ xs) free =
      ap (λ y. begun T y (i + 1) xs) (free_begins z i x (free 0 x refl)) ∙ all_free_begin z (i + 1) xs (λ r u e. free (suc r) u e)

  -- one side is exchanged behind ranks that are in no card, and what it has begun is the same
  pub same_begun : (xs : List (Side V)) (i r : ℕ) (x y : Side V) (z w : Sight V) → slice_get xs r ≡ Some x →
      ((k : ℕ) (u : Side V) → k < r → slice_get xs k ≡ Some u → u.card ≡ Free) →
      begun_of T z (i + r) x ≡ begun_of T w (i + r) y → begun T z i xs ≡ begun T w i (slice_set xs r y)
  same_begun [] i r x y z w has before e = cc
  same_begun (u ∷ us) i zero x y z w has before e =
      let at : i + 0 ≡ i = omega arith in
      let e' : begun_of T z i x ≡ begun_of T w i y = subst (λ k. begun_of T z k x ≡ begun_of T w k y) at e in
      ap (λ q. begun T q (i + 1) us) (ap (begun_of T z i) (same_Some _ _ has) ∙ e')
  same_begun (u ∷ us) i (suc r) x y z w has before e =
      let at : i + suc r ≡ (i + 1) + r = omega arith in
      let lt : 0 < suc r = omega arith in
      let free : u.card ≡ Free = before 0 u lt refl in
      ap (λ q. begun T q (i + 1) us) (free_begins z i u free)
      ∙ same_begun us (i + 1) r x y z w has (λ k v b h. let c : suc k < suc r = omega arith in before (suc k) v c h)
      (subst (λ k. begun_of T z k x ≡ begun_of T w k y) at e)
      ∙ ap (λ q. begun T q (i + 1) (slice_set us r y)) (sym (free_begins w i u free))

  -- where nobody was in a card, what is begun is what the exchanged side has begun
  pub one_begun : (xs : List (Side V)) (i r : ℕ) (x y : Side V) (w : Sight V) → slice_get xs r ≡ Some x → AllFree xs →
      begun T w i (slice_set xs r y) ≡ begun_of T w (i + r) y
  one_begun [] i r x y w has free = cc
  one_begun (u ∷ us) i zero x y w has free =
      let at : i ≡ i + 0 = omega arith in
      all_free_begin (begun_of T w i y) (i + 1) us (λ k v e. free (suc k) v e) ∙ ap (λ k. begun_of T w k y) at
  one_begun (u ∷ us) i (suc r) x y w has free =
      let at : (i + 1) + r ≡ i + suc r = omega arith in
      ap (λ q. begun T q (i + 1) (slice_set us r y)) (free_begins w i u (free 0 u refl))
      ∙ one_begun us (i + 1) r x y w has (λ k v e. free (suc k) v e) ∙ ap (λ k. begun_of T w k y) at
