-- What is left at a machine where one shard turns, and where a block is opened.
use Rattle.std.specs.Prelude.{◌≡◌, ◌⊎◌, ℕ, zero, suc, ◌+◌, ◌*◌, ◌<◌, ◌≤◌, Bool, true, false, List, [], ◌∷◌, length, get_or, slice_get, slice_index, slice_set, sum_by, Some}
use Rattle.std.proofs.Common.{◌∙◌, ap, inl, inr, ⊎_elim, arith}
use Rattle.std.proofs.lemmas.Option.{same_Some}
use Rattle.std.proofs.Math.Nat.{mul-le-mul_left}
use Rattle.std.proofs.lemmas.Bool.{cases_Bool, cases_lt}
use Rattle.rl_model.specs.declared.call.Call.{Call}
use Rattle.rl_machine.specs.Running.{ShardRun}
use Rattle.std.proofs.lemmas.List.Sums.{sum_by-cons}
use Rattle.rl_core.specs.ShardEnding.{LeftOf}
use Rattle.rl_machine.specs.MachineEnding.{unopened, shards_left}

module _ {C V : Type 0} (left : LeftOf C V) where
  pub shards_turned : (cores : List C) (shards : List (ShardRun V)) (s : ℕ) (c : C) (S S' : ShardRun V) → slice_get cores s ≡ Some c → slice_get shards s ≡ Some S →
      shards_left left cores (slice_set shards s S') + left c S.held S.views ≡ shards_left left cores shards + left c S'.held S'.views
  shards_turned [] shards s c S S' a b = cc
  shards_turned (d ∷ cores) [] s c S S' a b = cc
  shards_turned (d ∷ cores) (Z ∷ shards) zero c S S' a b =
      let e : left d Z.held Z.views ≡ left c S.held S.views = ap (λ z. left z Z.held Z.views) (same_Some _ _ a) ∙ ap (λ (z : ShardRun V). left c z.held z.views) (same_Some _ _ b) in
      let f : left d S'.held S'.views ≡ left c S'.held S'.views = ap (λ z. left z S'.held S'.views) (same_Some _ _ a) in
      omega arith
  shards_turned (d ∷ cores) (Z ∷ shards) (suc s) c S S' a b = let k = shards_turned cores shards s c S S' a b in omega arith

-- a part of a sum
pub is_part : {X : Type 0} (f : X → ℕ) (xs : List X) (s : ℕ) (x : X) → slice_get xs s ≡ Some x → f x ≤ sum_by f xs
is_part f [] s x h = cc
is_part f (y ∷ xs) zero x h = let e : f y ≡ f x = ap f (same_Some _ _ h) in omega (arith, sum_by-cons f y xs)
is_part f (y ∷ xs) (suc s) x h = let k = is_part f xs s x h in omega (arith, sum_by-cons f y xs)

-- so many calls more of a rank are opened
pub unopened_turned : (calls : List (List Call)) (opened : List ℕ) (k n : ℕ) → k < length calls → k < length opened → slice_index opened k + n ≤ length (get_or calls k []) →
    unopened calls (slice_set opened k (slice_index opened k + n)) + n ≡ unopened calls opened
unopened_turned [] opened k n low there fits = absurd (omega arith)
unopened_turned (c ∷ calls) [] k n low there fits = absurd (omega arith)
unopened_turned (c ∷ calls) (o ∷ opened) zero n low there fits = omega arith
unopened_turned (c ∷ calls) (o ∷ opened) (suc k) n low there fits = let e = unopened_turned calls opened k n (omega arith) (omega arith) fits in omega arith

-- an atom alone: x before it on its shard, x2 after
pub atom_less : (w u l l2 x x2 : ℕ) → l2 + x ≡ l + x2 → x2 < x → w * u + l2 < w * u + l
atom_less w u l l2 x x2 e lt = let k : l2 < l = omega arith in omega arith

-- a block is opened, and then an atom is made: x before it, x1 between, x2 after
pub block_less : (most u u2 n l l2 x x1 x2 a : ℕ) → u2 + n ≡ u → 1 ≤ n → l2 + x ≡ l + x2 → x2 < x1 → x1 ≤ x + a → a ≤ most → (most + 1) * u2 + l2 < (most + 1) * u + l
block_less most u u2 n l l2 x x1 x2 a e some turned lt adds few =
    let le : u2 + 1 ≤ u = omega arith in
    let k : (most + 1) * (u2 + 1) ≤ (most + 1) * u = mul-le-mul_left (most + 1) le in
    let p : (most + 1) * (u2 + 1) ≡ (most + 1) * u2 + (most + 1) = grind arith in
    let q : l2 < l + most = omega arith in
    omega arith

-- ---- a rank of which a test says true, or none

pub some_or_none : (f : ℕ → Bool) (n : ℕ) → ((k : ℕ) × (k < n) × (f k ≡ true)) ⊎ ((k : ℕ) → k < n → f k ≡ false)
some_or_none f zero = inr (λ k low. absurd (omega arith))
some_or_none f (suc n) =
    ⊎_elim
    (λ yes. let here : n < suc n = omega arith in inl (n, here, yes))
    (λ no. ⊎_elim
    (λ s. let q : s.0 < n = s.1 in let low : s.0 < suc n = omega arith in inl (s.0, low, s.2))
    (λ none. inr (λ k low. ⊎_elim (λ lt. none k lt) (λ ge. let e : k ≡ n = omega arith in ap f e ∙ no) (cases_lt k n)))
    (some_or_none f n))
    (cases_Bool (f n))
