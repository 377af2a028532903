-- What is left at the lock where nobody is in a card and one side changes; and the inequalities.
use Rattle.std.specs.Prelude.{◌≡◌, ◌⊎◌, ℕ, zero, suc, ◌+◌, ◌*◌, ◌<◌, ◌≤◌, Bool, true, false, List, [], ◌∷◌, map, slice_get, slice_set, Option, Some, None, is_some, refl, sum_by}
use Rattle.std.proofs.Common.{sym, ◌∙◌, ap, inl, inr, ⊎_elim, arith}
use Rattle.std.proofs.lemmas.Bool.{cases_Bool}
use Rattle.std.proofs.lemmas.Option.{same_Some}
use Rattle.std.proofs.Math.Nat.{mul-le-mul_left}
use Rattle.rl_word.specs.laws.Places.{get_set_cases, map_set}
use Rattle.rl_step.specs.Lock.{LockTable}
use Rattle.rl_rank.specs.declared.card_state.CardState.TheVariants.{Free}
use Rattle.rl_rank.specs.declared.side.Side.{Side}
use Rattle.rl_rank.specs.Split.{SplitState, view_of}
use Rattle.rl_ending.specs.laws.Sums.{sum_turned}
use Rattle.rl_rank.specs.Begun.{atoms_in, atoms_of, sight_of, begun_in, left_at}
use Rattle.rl_rank.specs.laws.BegunLaws.{AllFree, all_free_begin}
use Rattle.rl_rank.specs.WholeLeft.{lock_left}

module _ {V : Type 0} (T : LockTable V) (left : List ℕ → List V → ℕ) where
  abbrev state : List ℕ → List (Side V) → SplitState V
  state words sides = record { words = words; cards = []; sides = sides; modes = []; past = record { trace = []; deeds = [] } }

  quiet_begun : (words : List ℕ) (sides : List (Side V)) → AllFree sides → left_at T left (begun_in T (state words sides)) ≡ left words (map view_of sides)
  quiet_begun words sides free = ap (left_at T left) (all_free_begin T (sight_of T (state words sides)) 0 sides free)

  four : (a b n m k : ℕ) → a ≤ b + k → n ≡ m → 4 * a + n ≤ 4 * b + m + 4 * k
  four a b n m k le e = omega arith

  pub quiet_turn : (words : List ℕ) (sides : List (Side V)) (r most : ℕ) (x y : Side V) → AllFree sides → slice_get sides r ≡ Some x → y.card ≡ Free →
      left words (slice_set (map view_of sides) r y.view) ≤ left words (map view_of sides) + most → lock_left T left words
      (slice_set sides r y) ≤ lock_left T left words sides + 4 * most
  quiet_turn words sides r most x y free has out adds =
      let free_then : AllFree (slice_set sides r y) = λ i u e. ⊎_elim (λ q. ap (λ (z : Side V). z.card) q.1 ∙ out) (λ q. free i u q.1)
      (get_set_cases sides r i y u e) in
      let now : left_at T left (begun_in T (state words sides)) ≡ left words (map view_of sides) = quiet_begun words sides free in
      let then_is : left_at T left (begun_in T (state words (slice_set sides r y))) ≡ left words (slice_set (map view_of sides) r y.view) =
      quiet_begun words (slice_set sides r y) free_then ∙ ap (left words) (map_set view_of sides r y) in
      let none_x : atoms_of x ≡ 0 = ap atoms_in (free r x has) in
      let none_y : atoms_of y ≡ 0 = ap atoms_in out in
      let turned = sum_turned atoms_of sides r x y has in
      four (left_at T left (begun_in T (state words (slice_set sides r y)))) (left_at T left (begun_in T (state words sides)))
      (sum_by atoms_of (slice_set sides r y)) (sum_by atoms_of sides) most
      (omega (arith, now, then_is, adds)) (omega (arith, none_x, none_y, turned))

-- an atom of the lock; an atom of the work; and a block that is opened
pub lock_less : (w u l l2 : ℕ) → l2 < l → w * u + l2 < w * u + l
lock_less w u l l2 lt = omega arith

pub work_less : (m u u2 l l2 : ℕ) → u2 < u → l2 ≤ l + 4 * m → (4 * m + 1) * u2 + l2 < (4 * m + 1) * u + l
work_less m u u2 l l2 lt le =
    let one : u2 + 1 ≤ u = omega arith in
    let k : (4 * m + 1) * (u2 + 1) ≤ (4 * m + 1) * u = mul-le-mul_left (4 * m + 1) one in
    let p : (4 * m + 1) * (u2 + 1) ≡ (4 * m + 1) * u2 + (4 * m + 1) = grind arith in
    omega arith

pub open_more : (m u u2 a l l2 : ℕ) → u2 ≤ u + a → l2 ≤ l + 4 * m → (4 * m + 1) * u2 + l2 ≤ (4 * m + 1) * u + l + ((4 * m + 1) * a + 4 * m)
open_more m u u2 a l l2 few le =
    let k : (4 * m + 1) * u2 ≤ (4 * m + 1) * (u + a) = mul-le-mul_left (4 * m + 1) few in
    let p : (4 * m + 1) * (u + a) ≡ (4 * m + 1) * u + (4 * m + 1) * a = grind arith in
    omega arith

-- ---- small things

pub some_next : {X : Type 0} (o : Option X) → is_some o ≡ true → (x : X) × (o ≡ Some x)
some_next None e = cc
some_next (Some x) e = (x, refl)

-- an element of which a test says true, or none
pub some_or_all : {X : Type 0} (f : X → Bool) (xs : List X) → ((r : ℕ) × (x : X) × (slice_get xs r ≡ Some x) × (f x ≡ true)) ⊎
    ((r : ℕ) (x : X) → slice_get xs r ≡ Some x → f x ≡ false)
some_or_all f [] = inr (λ r x e. cc)
some_or_all f (x ∷ xs) =
    ⊎_elim
    (λ yes. inl (0, x, refl, yes))
    (λ no. ⊎_elim (λ s. inl (suc s.0, s.1, s.2, s.3)) (λ none. inr (all_of no none)) (some_or_all f xs))
    (cases_Bool (f x)) where
      all_of : f x ≡ false → ((r : ℕ) (u : _) → slice_get xs r ≡ Some u → f u ≡ false) → (r : ℕ) (u : _) → slice_get (x ∷ xs) r ≡ Some u → f u ≡ false
      all_of isnt none zero u e = ap f (sym (same_Some _ _ e)) ∙ isnt
      all_of isnt none (suc r) u e = none r u e
