-- What is read off the views of ranks: that of a view, how it changes where one view does, and what is read of all alike.
use Rattle.std.specs.Prelude.{◌≡◌, ◌≢◌, ℕ, zero, suc, ◌+◌, List, [], ◌∷◌, slice_get, slice_set, Some, refl}
use Rattle.std.proofs.Common.{ap, sym, subst, ⊎_elim}
use Rattle.std.proofs.lemmas.Option.{same_Some}
use Rattle.rl_word.specs.laws.Places.{get_set_cases}
use Rattle.rl_step.specs.Lock.{first_views}
use Rattle.rl_queue.specs.RankViews.{of_rank}

-- where rank r's view changes, what holds of its new one, and of each other, holds of all
pub each_set : {V : Type 0} (P : ℕ → V → Type 0) (vs us : List V) (r : ℕ) (w : V) → us ≡ slice_set vs r w → P r w →
    ((i : ℕ) (u : V) → i ≢ r → slice_get vs i ≡ Some u → P i u) → (i : ℕ) (u : V) → slice_get us i ≡ Some u → P i u
each_set P vs us r w e here there i u h =
    ⊎_elim
    (λ p. subst (λ z. P z u) (sym p.0) (subst (P r) (sym p.1) here))
    (λ p. there i u p.0 p.1) (get_set_cases vs r i w u (subst (λ z. slice_get z i ≡ Some u) e h))

module _ {V X : Type 0} (read : V → X) (other : X) where
  pub read_get : (vs : List V) (r : ℕ) (v : V) → slice_get vs r ≡ Some v → of_rank read other vs r ≡ read v
  read_get [] r v h = cc
  read_get (x ∷ vs) zero v h = ap read (same_Some _ _ h)
  read_get (x ∷ vs) (suc r) v h = read_get vs r v h

  pub read_set_same : (vs : List V) (r : ℕ) (v w : V) → slice_get vs r ≡ Some v → of_rank read other (slice_set vs r w) r ≡ read w
  read_set_same [] r v w h = cc
  read_set_same (x ∷ vs) zero v w h = refl
  read_set_same (x ∷ vs) (suc r) v w h = read_set_same vs r v w h

  pub read_set_other : (vs : List V) (r : ℕ) (w : V) (i : ℕ) → i ≢ r → of_rank read other (slice_set vs r w) i ≡ of_rank read other vs i
  read_set_other [] r w i ne = refl
  read_set_other (x ∷ vs) zero w zero ne = absurd (ne refl)
  read_set_other (x ∷ vs) zero w (suc i) ne = refl
  read_set_other (x ∷ vs) (suc r) w zero ne = refl
  read_set_other (x ∷ vs) (suc r) w (suc i) ne = read_set_other vs r w i (λ e. ne (ap suc e))

  -- where all views read alike every number does
  pub read_all : (vs : List V) → ((r : ℕ) (v : V) → slice_get vs r ≡ Some v → read v ≡ other) → (m : ℕ) → of_rank read other vs m ≡ other
  read_all [] f m = refl
  read_all (v ∷ vs) f zero = f 0 v refl
  read_all (v ∷ vs) f (suc m) = read_all vs (λ r u h. f (suc r) u h) m

  -- so it is at first, where all first views do
  pub read_first : (first : ℕ → V) → ((r : ℕ) → read (first r) ≡ other) → (from n m : ℕ) → of_rank read other (first_views first from n) m ≡ other
  read_first first f from zero m = refl
  read_first first f from (suc n) zero = f from
  read_first first f from (suc n) (suc m) = read_first first f (from + 1) n m
