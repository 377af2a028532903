-- The two sums fall where one rank is less far, whatever it does to the small change of all; and where it is as far, with less change.
use Rattle.std.specs.Prelude.{◌≡◌, ℕ, ◌+◌, ◌*◌, ◌<◌, ◌≤◌, List, length, slice_get, slice_set, sum_by, Some}
use Rattle.std.proofs.Common.{sym, subst, arith, length-set}
use Rattle.std.proofs.Math.Nat.{mul-le-mul_left}
use Rattle.rl_ending.specs.laws.Sums.{sum_turned, sum_falls, sum_grows, sum_few}
use Rattle.rl_ending.specs.TwoSums.{two_sums}

pub pays : (w a b n m : ℕ) → a < b → n < w → w * a + n < w * b + m
pays w a b n m lt less =
    let le : a + 1 ≤ b = omega arith in
    let k : w * (a + 1) ≤ w * b = mul-le-mul_left w le in
    let e : w * (a + 1) ≡ w * a + w = grind arith in
    omega arith

pub same_far : (w a b n m : ℕ) → a ≡ b → n < m → w * a + n < w * b + m
same_far w a b n m e lt = subst (λ k. w * a + n < w * k + m) e (omega arith)

more : (w a b n m k : ℕ) → a ≤ b + k → n ≤ m → w * a + n ≤ w * b + m + k * w
more w a b n m k le small =
    let l : w * a ≤ w * (b + k) = mul-le-mul_left w le in
    let e : w * (b + k) ≡ w * b + k * w = grind arith in
    omega arith

module _ {X : Type 0} (change : ℕ) (far : X → ℕ) where
  pub nearer : (near near' : X → ℕ) → ((x : X) → near' x ≤ change) → (vs : List X) (r : ℕ) (v u : X) → slice_get vs r ≡ Some v →
      far u < far v → two_sums change far near' (slice_set vs r u) < two_sums change far near vs
  nearer near near' bound vs r v u has lt =
      let len : length (slice_set vs r u) ≡ length vs = length-set vs r u in
      let sum : sum_by far (slice_set vs r u) < sum_by far vs = sum_falls far vs r v u has lt in
      let few : sum_by near' (slice_set vs r u) ≤ change * length vs =
      subst (λ n. sum_by near' (slice_set vs r u) ≤ change * n) len (sum_few change near' bound (slice_set vs r u)) in
      let less : sum_by near' (slice_set vs r u) < 1 + change * length vs = omega arith in
      subst (λ n. (1 + change * n) * sum_by far (slice_set vs r u) + sum_by near' (slice_set vs r u) < two_sums change far near vs) (sym len)
      (pays (1 + change * length vs) (sum_by far (slice_set vs r u)) (sum_by far vs) (sum_by near' (slice_set vs r u)) (sum_by near vs) sum less)

  pub less_change : (near : X → ℕ) (vs : List X) (r : ℕ) (v u : X) → slice_get vs r ≡ Some v → far u ≡ far v → near u < near v →
      two_sums change far near (slice_set vs r u) < two_sums change far near vs
  less_change near vs r v u has e lt =
      let len : length (slice_set vs r u) ≡ length vs = length-set vs r u in
      let sum = sum_turned far vs r v u has in
      let same : sum_by far (slice_set vs r u) ≡ sum_by far vs = omega arith in
      let fall : sum_by near (slice_set vs r u) < sum_by near vs = sum_falls near vs r v u has lt in
      subst (λ n. (1 + change * n) * sum_by far (slice_set vs r u) + sum_by near (slice_set vs r u) < two_sums change far near vs) (sym len)
      (same_far (1 + change * length vs) (sum_by far (slice_set vs r u)) (sum_by far vs) (sum_by near (slice_set vs r u)) (sum_by near vs) same fall)

  -- a rank that is farther, by so much at most, and has no change
  pub grows : (near : X → ℕ) (vs : List X) (n r k : ℕ) (v u : X) → length vs ≡ n → slice_get vs r ≡ Some v → far u ≤ k → near u ≤ 0 →
      two_sums change far near (slice_set vs r u) ≤ two_sums change far near vs + k * (1 + change * n)
  grows near vs n r k v u long has small none =
      let len : length (slice_set vs r u) ≡ length vs = length-set vs r u in
      let a : sum_by far (slice_set vs r u) ≤ sum_by far vs + k = sum_grows far vs r k v u has small in
      let c : sum_by near (slice_set vs r u) ≤ sum_by near vs + 0 = sum_grows near vs r 0 v u has none in
      let c' : sum_by near (slice_set vs r u) ≤ sum_by near vs = omega arith in
      subst (λ m. (1 + change * m) * sum_by far (slice_set vs r u) + sum_by near (slice_set vs r u) ≤ two_sums change far near vs + k *
      (1 + change * n)) (sym len)
      (subst (λ m. (1 + change * length vs) * sum_by far (slice_set vs r u) + sum_by near
      (slice_set vs r u) ≤ two_sums change far near vs + k * (1 + change * m)) long
      (more (1 + change * length vs) (sum_by far (slice_set vs r u)) (sum_by far vs) (sum_by near (slice_set vs r u)) (sum_by near vs) k a c'))
