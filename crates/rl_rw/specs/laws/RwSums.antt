-- The three sums fall where one rank is less far or fewer counters are full, whatever that does to the small change of all; and where they are
-- as far and as full, with less change of that rank and no other change.
use Rattle.std.specs.Prelude.{◌≡◌, ℕ, suc, ◌+◌, ◌*◌, ◌<◌, ◌≤◌, List, [], ◌∷◌, length, slice_get, slice_set, sum_by, Some, refl}
use Rattle.std.proofs.Common.{sym, subst, arith, length-set}
use Rattle.std.proofs.Math.Nat.{mul-le-mul_left}
use Rattle.std.proofs.lemmas.List.Sums.{sum_by-cons}
use Rattle.rl_ending.specs.laws.Sums.{sum_turned, sum_falls, sum_grows, sum_few}
use Rattle.rl_ending.specs.laws.SumLaws.{pays, same_far}
use Rattle.rl_rw.specs.RwLeft.{three_sums}

more : (w a b n m k j : ℕ) → a ≤ b + k → n ≤ m + j → w * a + n ≤ w * b + m + (k * w + j)
more w a b n m k j le small =
    let l : w * a ≤ w * (b + k) = mul-le-mul_left w le in
    let e : w * (b + k) ≡ w * b + k * w = grind arith in
    omega arith

-- two numbers that are the same on each element of a list have one sum
sum_same : {X : Type 0} (f g : X → ℕ) (xs : List X) → ((i : ℕ) (x : X) → slice_get xs i ≡ Some x → f x ≡ g x) → sum_by f xs ≡ sum_by g xs
sum_same f g [] same = refl
sum_same f g (x ∷ xs) same =
    let a : f x ≡ g x = same 0 x refl in
    let k = sum_same f g xs (λ i y h. same (suc i) y h) in
    omega (arith, sum_by-cons f x xs, sum_by-cons g x xs)

module _ {X : Type 0} (change : ℕ) (far : X → ℕ) where
  pub nearer : (near near' : X → ℕ) → ((x : X) → near' x ≤ change) → (full full' : ℕ) (vs : List X) (r : ℕ) (v u : X) →
      slice_get vs r ≡ Some v → far u + full' < far v + full → three_sums change far near' full' (slice_set vs r u) < three_sums change far
      near full vs
  nearer near near' bound full full' vs r v u has lt =
      let len : length (slice_set vs r u) ≡ length vs = length-set vs r u in
      let turn = sum_turned far vs r v u has in
      let sum : sum_by far (slice_set vs r u) + full' < sum_by far vs + full = omega arith in
      let few : sum_by near' (slice_set vs r u) ≤ change * length vs =
      subst (λ n. sum_by near' (slice_set vs r u) ≤ change * n) len (sum_few change near' bound (slice_set vs r u)) in
      let less : sum_by near' (slice_set vs r u) < 1 + change * length vs = omega arith in
      subst (λ n. (1 + change * n) * (sum_by far (slice_set vs r u) + full') + sum_by near' (slice_set vs r u) < three_sums change far near full vs) (sym len)
      (pays (1 + change * length vs) (sum_by far (slice_set vs r u) + full') (sum_by far vs + full) (sum_by near' (slice_set vs r u)) (sum_by near vs) sum less)

  pub less_change : (near near' : X → ℕ) (full full' : ℕ) (vs : List X) (r : ℕ) (v u : X) → slice_get vs r ≡ Some v →
      ((i : ℕ) (x : X) → slice_get vs i ≡ Some x → near' x ≡ near x) → far u ≡ far v → full' ≡ full → near' u < near v →
      three_sums change far near' full' (slice_set vs r u) < three_sums change far near full vs
  less_change near near' full full' vs r v u has others same level lt =
      let len : length (slice_set vs r u) ≡ length vs = length-set vs r u in
      let turn = sum_turned far vs r v u has in
      let even : sum_by far (slice_set vs r u) + full' ≡ sum_by far vs + full = omega arith in
      let own = others r v has in
      let own_less : near' u < near' v = omega arith in
      let fall : sum_by near' (slice_set vs r u) < sum_by near' vs = sum_falls near' vs r v u has own_less in
      let old = sum_same near' near vs others in
      let less : sum_by near' (slice_set vs r u) < sum_by near vs = omega arith in
      subst (λ n. (1 + change * n) * (sum_by far (slice_set vs r u) + full') + sum_by near' (slice_set vs r u) < three_sums change far near full vs) (sym len)
      (same_far (1 + change * length vs) (sum_by far (slice_set vs r u) + full') (sum_by far vs + full) (sum_by near' (slice_set vs r u))
      (sum_by near vs) even less)

  -- a rank that is farther, and has more change, by so much at most
  pub grows : (near : X → ℕ) (full : ℕ) (vs : List X) (n r k j : ℕ) (v u : X) → length vs ≡ n → slice_get vs r ≡ Some v → far u ≤ k →
      near u ≤ j → three_sums change far near full (slice_set vs r u) ≤ three_sums change far near full vs + (k * (1 + change * n) + j)
  grows near full vs n r k j v u long has small few =
      let len : length (slice_set vs r u) ≡ length vs = length-set vs r u in
      let a : sum_by far (slice_set vs r u) ≤ sum_by far vs + k = sum_grows far vs r k v u has small in
      let a' : sum_by far (slice_set vs r u) + full ≤ sum_by far vs + full + k = omega arith in
      let c : sum_by near (slice_set vs r u) ≤ sum_by near vs + j = sum_grows near vs r j v u has few in
      subst (λ m. (1 + change * m) * (sum_by far (slice_set vs r u) + full) + sum_by near
      (slice_set vs r u) ≤ three_sums change far near full vs + (k * (1 + change * n) + j)) (sym len)
      (subst (λ m. (1 + change * length vs) * (sum_by far (slice_set vs r u) + full) + sum_by near
      (slice_set vs r u) ≤ three_sums change far near full vs + (k * (1 + change * m) + j)) long
      (more (1 + change * length vs) (sum_by far (slice_set vs r u) + full) (sum_by far vs + full) (sum_by near (slice_set vs r u)) (sum_by near vs) k j a' c))
