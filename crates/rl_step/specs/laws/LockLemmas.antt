-- The first views of ranks: how many there are, and what stands at each place.
use Rattle.std.specs.Prelude.{◌≡◌, ℕ, zero, suc, ◌+◌, length, slice_get, Some, refl}
use Rattle.std.proofs.Common.{sym, ◌∙◌, ap, arith}
use Rattle.std.proofs.lemmas.Option.{same_Some}
use Rattle.rl_step.specs.Lock.{first_views}

-- there are as many first views as ranks
pub length-first_views : {V : Type 0} (f : ℕ → V) (from n : ℕ) → length (first_views f from n) ≡ n
length-first_views f from zero = refl
length-first_views f from (suc n) = ap suc (length-first_views f (from + 1) n)

-- the first view at a place is that of the rank with that number
pub first_views_at : {V : Type 0} (f : ℕ → V) (from n r : ℕ) (v : V) → slice_get (first_views f from n) r ≡ Some v → v ≡ f (from + r)
first_views_at f from zero r v h = cc
first_views_at f from (suc n) zero v h =
    let e : from ≡ from + 0 = omega arith in sym (same_Some _ _ h) ∙ ap f e
first_views_at f from (suc n) (suc r) v h =
    let e : (from + 1) + r ≡ from + suc r = omega arith in first_views_at f (from + 1) n r v h ∙ ap f e
