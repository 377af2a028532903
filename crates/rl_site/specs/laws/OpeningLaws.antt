-- The words before the first block, one by one.
use Rattle.std.specs.Prelude.{◌≡◌, ℕ, zero, suc, ◌+◌, ◌-◌, ◌*◌, ◌<◌, ◌≤◌, ◌++◌, length, replicate, slice_index, refl}
use Rattle.std.proofs.Common.{◌∙◌, ap, arith, length-append}
use Rattle.std.proofs.lemmas.List.{length-replicate, get_or_append_left, get_or-append-add}
use Rattle.rl_volume.specs.Words.{volume_words}
use Rattle.rl_volume.specs.Volume.{start_words}
use Rattle.rl_volume.proofs.StartLaws.{start_size}
use Rattle.rl_site.specs.Site.{Site, places, lock_base}
use Rattle.rl_site.specs.Opens.{opening_words}

zero_at : (n i : ℕ) → slice_index (replicate n 0) i ≡ 0
zero_at zero i = refl
zero_at (suc n) zero = refl
zero_at (suc n) (suc i) = zero_at n i

pub opening_size : (site : Site) → length (opening_words site) ≡ lock_base site
opening_size site = omega (arith, length-append (start_words site.geom) (replicate (6 * places site) 0), start_size site.geom, length-replicate {A = ℕ} (6 * places site) 0)

module _ (site : Site) (word : ℕ) (low : 2 ≤ word) where
  behind_count : slice_index (opening_words site) word ≡ slice_index (start_words site.geom ++ replicate (6 * places site) 0) (word - 2)
  behind_count =
      let e : word ≡ suc (suc (word - 2)) = omega arith in
      ap (slice_index (opening_words site)) e

  -- a word of the volume
  pub opening_in_volume : word - 2 < volume_words site.geom → slice_index (opening_words site) word ≡ slice_index (start_words site.geom) (word - 2)
  opening_in_volume h =
      let inside : word - 2 < length (start_words site.geom) = omega (arith, start_size site.geom) in
      behind_count ∙ get_or_append_left (start_words site.geom) (replicate (6 * places site) 0) 0 (word - 2) inside

  -- and one behind it
  pub opening_behind : volume_words site.geom ≤ word - 2 → slice_index (opening_words site) word ≡ 0
  opening_behind h =
      let start = start_words site.geom in
      let i : ℕ = word - 2 - length start in
      let e : word - 2 ≡ length start + i = omega (arith, start_size site.geom) in
      behind_count ∙ ap (slice_index (start ++ replicate (6 * places site) 0)) e ∙ get_or-append-add start (replicate (6 * places site) 0) i 0 ∙ zero_at (6 * places site) i
