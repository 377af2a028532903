-- The volume among the words of a window, under a write.
use Rattle.std.specs.Prelude.{◌≡◌, ℕ, zero, suc, ◌+◌, ◌-◌, ◌<◌, ◌≤◌, List, [], ◌∷◌, take, drop, slice_index, slice_set, refl}
use Rattle.std.proofs.Common.{◌∙◌, ap, arith, get_or-drop}
use Rattle.std.proofs.lemmas.List.{drop-set-add, drop-set-lt, take-set-le, get_or-take}
use Rattle.rl_model.specs.declared.geom.Geom.{Geom}
use Rattle.rl_volume.specs.Words.{volume_words}
use Rattle.rl_site.specs.Site.{volume_of}

module _ (geom : Geom) where
  -- a write to the volume
  pub volume_set : (words : List ℕ) (w v : ℕ) → w < volume_words geom → volume_of geom (slice_set words (2 + w) v) ≡ slice_set (volume_of geom words) w v
  volume_set words w v h = ap (take (volume_words geom)) (drop-set-add 2 words w v) ∙ take_set_in (volume_words geom) (drop 2 words) w v h where
    take_set_in : (n : ℕ) (l : List ℕ) (i v : ℕ) → i < n → take n (slice_set l i v) ≡ slice_set (take n l) i v
    take_set_in zero l i v h = absurd (omega arith)
    take_set_in (suc n) [] i v h = refl
    take_set_in (suc n) (x ∷ xs) zero v h = refl
    take_set_in (suc n) (x ∷ xs) (suc i) v h = ap (λ z. x ∷ z) (take_set_in n xs i v (omega arith))

  -- and elsewhere
  pub volume_before : (words : List ℕ) (w v : ℕ) → w < 2 → volume_of geom (slice_set words w v) ≡ volume_of geom words
  volume_before words w v h = ap (take (volume_words geom)) (drop-set-lt 2 words w v h)

  pub volume_behind : (words : List ℕ) (w v : ℕ) → 2 + volume_words geom ≤ w → volume_of geom (slice_set words w v) ≡ volume_of geom words
  volume_behind words w v h =
      let u : ℕ = w - 2 in
      let e : w ≡ 2 + u = omega arith in
      ap (λ z. volume_of geom (slice_set words z v)) e ∙ ap (take (volume_words geom)) (drop-set-add 2 words u v) ∙ take-set-le (volume_words geom) (drop 2 words) u v (omega arith)

  -- a word of the volume
  pub volume_get : (words : List ℕ) (w : ℕ) → w < volume_words geom → slice_index (volume_of geom words) w ≡ slice_index words (2 + w)
  volume_get words w h = get_or-take (volume_words geom) (drop 2 words) w 0 h ∙ get_or-drop 2 words w 0
