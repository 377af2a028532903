-- Where no batch is among the calls, each has at most the size of a call alone.
use Rattle.std.proofs.Common.{◌≡◌, ◌≤◌, ℕ, zero, suc, ◌||◌, Bool, true, false, nat_lt, List, [], ◌∷◌, map, get_or, refl, ap, arith}
use Rattle.std.specs.Prelude.{slice_index}
use Rattle.std.specs.List.{list_any}
use Rattle.rl_ops.specs.declared.ops.Ops.{Ops}
use Rattle.rl_ops.specs.Ops.{begins_batch, has_batch}

-- a batch begins in one of the lists
pub any-map : {V : Type 0} (items : V → List ℕ) (vs : List V) → list_any (λ v. begins_batch (items v)) vs ≡ list_any begins_batch (map items vs)
any-map items [] = refl
any-map items (v ∷ vs) = ap (λ (b : Bool). begins_batch (items v) || b) (any-map items vs)

neither : (a b : Bool) → (a || b) ≡ false → (a ≡ false) × (b ≡ false)
neither true b e = absurd (cc)
neither false b e = (refl, e)

small_in : (sizes : List ℕ) → begins_batch sizes ≡ false → (i : ℕ) → slice_index sizes i ≤ 1
small_in [] none i = omega arith
small_in (size ∷ sizes) none zero = grind (arith, (neither (nat_lt 1 size) (begins_batch sizes) none).0)
small_in (size ∷ sizes) none (suc i) = small_in sizes (neither (nat_lt 1 size) (begins_batch sizes) none).1 i

small_on : (lists : List (List ℕ)) → list_any begins_batch lists ≡ false → (k i : ℕ) → slice_index (get_or lists k []) i ≤ 1
small_on [] none k i = omega arith
small_on (sizes ∷ lists) none zero i = small_in sizes (neither (begins_batch sizes) (list_any begins_batch lists) none).0 i
small_on (sizes ∷ lists) none (suc k) i = small_on lists (neither (begins_batch sizes) (list_any begins_batch lists) none).1 k i

pub all_alone : (ops : Ops) → has_batch ops ≡ false → (k i : ℕ) → slice_index (get_or ops.sizes k []) i ≤ 1
all_alone ops none k i = small_on ops.sizes none k i
