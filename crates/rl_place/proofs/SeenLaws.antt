-- Lists of what was seen: what stands there stays, and what is seen is there.
use Rattle.std.proofs.Common.{◌≡◌, ℕ, zero, suc, ◌<◌, Bool, true, false, ◌||◌, cond, List, [], ◌∷◌, ◌++◌, length, get_or, Some, ◌⊎◌, inl, inr, refl, sym, ap, ◌∙◌, arith}
use Rattle.std.specs.List.{slice_get, list_any}
use Rattle.std.proofs.lemmas.Option.{same_Some, slice_get_within, get_or_from_slice_get, slice_get-get_or}
use Rattle.std.proofs.lemmas.List.Sums.{position_or_len_is}
use Rattle.rl_place.specs.declared.path.Path.{Path}
use Rattle.rl_place.specs.Paths.{root_path}
use Rattle.rl_place.specs.Numbering.{same_path, seen_after}
use Rattle.rl_place.specs.Shapes.{number_in}
use Rattle.rl_place.proofs.NodeLaws.{same_path-is, same_path-same}

-- a path that stands at a place
abbrev pub IsIn : List Path → Path → Type 0
IsIn seen p = (i : ℕ) × (slice_get seen i ≡ Some p)

-- no path stands at two places
abbrev pub AreOnce : List Path → Type 0
AreOnce seen = (i j : ℕ) (p : Path) → slice_get seen i ≡ Some p → slice_get seen j ≡ Some p → i ≡ j

pub get-old : {X : Type 0} (xs : List X) (y : X) (i : ℕ) (x : X) → slice_get xs i ≡ Some x → slice_get (xs ++ y ∷ []) i ≡ Some x
get-old [] y i x h = absurd cc
get-old (z ∷ xs) y zero x h = h
get-old (z ∷ xs) y (suc i) x h = get-old xs y i x h

pub get-new : {X : Type 0} (xs : List X) (y : X) → slice_get (xs ++ y ∷ []) (length xs) ≡ Some y
get-new [] y = refl
get-new (x ∷ xs) y = get-new xs y

pub get-cases : {X : Type 0} (xs : List X) (y : X) (i : ℕ) (x : X) → slice_get (xs ++ y ∷ []) i ≡ Some x → (slice_get xs i ≡ Some x) ⊎ ((i ≡ length xs) × (x ≡ y))
get-cases [] y zero x h = inr (refl, sym (same_Some y x h))
get-cases [] y (suc i) x h = absurd cc
get-cases (z ∷ xs) y zero x h = inl h
get-cases (z ∷ xs) y (suc i) x h = elim (get-cases xs y i x h) [
  | inl p ↦ inl p
  | inr p ↦ inr (ap suc p.0, p.1)
]

either : (a b : Bool) → (a || b) ≡ true → (a ≡ true) ⊎ (b ≡ true)
either true b e = inl refl
either false b e = inr e

neither : (a b : Bool) → (a || b) ≡ false → (a ≡ false) × (b ≡ false)
neither true b e = absurd cc
neither false b e = (refl, e)

pub seen_is : (seen : List Path) (p : Path) → list_any (same_path p) seen ≡ true → IsIn seen p
seen_is [] p e = absurd cc
seen_is (q ∷ seen) p e = elim (either (same_path p q) (list_any (same_path p) seen) e) [
  | inl h ↦ (0, ap (λ (x : Path). Some x) (sym (same_path-is p q h)))
  | inr h ↦ let t = seen_is seen p h in (suc t.0, t.1)
]

pub unseen : (seen : List Path) (p : Path) (i : ℕ) → list_any (same_path p) seen ≡ false → slice_get seen i ≡ Some p → ⊥
unseen [] p i e h = absurd cc
unseen (q ∷ seen) p zero e h =
    let same : q ≡ p = same_Some q p h in
    let yes : same_path p q ≡ true = ap (same_path p) same ∙ same_path-same p in
    let no_ : same_path p q ≡ false = (neither (same_path p q) (list_any (same_path p) seen) e).0 in
    absurd cc
unseen (q ∷ seen) p (suc i) e h = unseen seen p i (neither (same_path p q) (list_any (same_path p) seen) e).1 h

-- what stood there stays there
pub stays : (seen : List Path) (p : Path) (i : ℕ) (x : Path) → slice_get seen i ≡ Some x → slice_get (seen_after seen p) i ≡ Some x
stays seen p i x h = by (list_any (same_path p) seen)
  where
    by : (b : Bool) → slice_get (cond b seen (seen ++ p ∷ [])) i ≡ Some x
    by true = h
    by false = get-old seen p i x h

-- what is seen is there
pub is_there : (seen : List Path) (p : Path) → IsIn (seen_after seen p) p
is_there seen p = by (list_any (same_path p) seen) refl
  where
    by : (b : Bool) → list_any (same_path p) seen ≡ b → IsIn (cond b seen (seen ++ p ∷ [])) p
    by true e = seen_is seen p e
    by false e = (length seen, get-new seen p)

once-push : (seen : List Path) (p : Path) → AreOnce seen → list_any (same_path p) seen ≡ false → AreOnce (seen ++ p ∷ [])
once-push seen p once e i j x h k = elim (get-cases seen p i x h) [
  | inl a ↦ elim (get-cases seen p j x k) [
    | inl b ↦ once i j x a b
    | inr b ↦ absurd (unseen seen p i e (a ∙ ap (λ (y : Path). Some y) b.1))
  ]
  | inr a ↦ elim (get-cases seen p j x k) [
    | inl b ↦ absurd (unseen seen p j e (b ∙ ap (λ (y : Path). Some y) a.1))
    | inr b ↦ a.0 ∙ sym b.0
  ]
]

pub once-after : (seen : List Path) (p : Path) → AreOnce seen → AreOnce (seen_after seen p)
once-after seen p once = by (list_any (same_path p) seen) refl
  where
    by : (b : Bool) → list_any (same_path p) seen ≡ b → AreOnce (cond b seen (seen ++ p ∷ []))
    by true e = once
    by false e = once-push seen p once e

-- the number of a path that is there is its place
pub number_is : (seen : List Path) (p : Path) (i : ℕ) → AreOnce seen → slice_get seen i ≡ Some p → number_in seen p ≡ i
number_is seen p i once h =
    let within = slice_get_within seen i p h in
    position_or_len_is (same_path p) seen i root_path (omega (arith, within)) before (λ _. ap (same_path p) (get_or_from_slice_get seen i p root_path h) ∙ same_path-same p)
  where
    differ : (b : Bool) → (b ≡ true → ⊥) → b ≡ false
    differ true never = absurd (never refl)
    differ false never = refl

    before : (k : ℕ) → k < i → same_path p (get_or seen k root_path) ≡ false
    before k less = differ (same_path p (get_or seen k root_path)) (λ e.
        let there = slice_get-get_or seen k root_path (omega (arith, less, slice_get_within seen i p h)) in
        let same : k ≡ i = once k i p (there ∙ ap (λ (x : Path). Some x) (sym (same_path-is p (get_or seen k root_path) e))) h in
        omega (arith, same, less))
