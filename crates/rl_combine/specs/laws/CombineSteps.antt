-- How far a rank of flat combining is after an atom: where the sweep goes on, where the next word is read or the call is decided, and after a write.
use Rattle.std.specs.Prelude.{◌≡◌, ◌≢◌, ℕ, zero, suc, ◌+◌, ◌*◌, ◌-◌, ◌<◌, ◌≤◌, ◌==◌, Bool, true, false, if◌then◌else◌, List, length, slice_get, Option, Some, None, refl}
use Rattle.std.proofs.Common.{sym, ◌∙◌, ap, ⊎_elim, arith}
use Rattle.std.proofs.lemmas.Option.{slice_get_within}
use Rattle.std.proofs.lemmas.Bool.Decides.{eqb_tells}
use Rattle.rl_model.specs.Call.{is_update}
use Rattle.rl_volume.specs.declared.write.Write.{Write}
use Rattle.rl_volume.specs.Seen.{value_or_zero, next_word}
use Rattle.rl_volume.specs.Words.{volume_words}
use Rattle.rl_volume.specs.Decision.{decision}
use Rattle.rl_work.specs.Ways.{Worked}
use Rattle.rl_work.specs.LockedLeft.{words_unseen}
use Rattle.rl_work.specs.laws.LockedSteps.{decision_few}
use Rattle.rl_combine.specs.declared.stage.CombineStage.TheVariants.{Sweep, Volume}
use Rattle.rl_combine.specs.Posts.{combine_ranks}
use Rattle.rl_site.specs.Site.{WaySite}
use Rattle.rl_combine.specs.Combine.{TheCombineSide, combine_to_stage, to_collect, sweep_on, combine_read_on, combine_read_next, with_decision, combine_written_on}
use Rattle.rl_combine.specs.laws.Cases.{decided_stage}
use Rattle.rl_combine.specs.CombineLeft.{sweep_left, far_at, far}

-- the sweep of one rank more
pub sweep_more : (volume ranks owner : ℕ) → owner < ranks → sweep_left volume ranks owner ≡ sweep_left volume ranks (owner + 1) + (volume + 40)
sweep_more volume ranks owner low =
    let e : ranks - owner ≡ ranks - (owner + 1) + 1 = omega arith in
    ap (λ n. 5 + (volume + 40) * n) e ∙ grind arith

-- both ways of a choice leave less
pub either : (S : WaySite) (b : Bool) (p q : Worked TheCombineSide) (n : ℕ) → (b ≡ true → far S p.work < n) →
    (b ≡ false → far S q.work < n) → far S (if b then p else q).work < n
either S true p q n here there = here refl
either S false p q n here there = there refl

-- the test of a number of words that were made
pub below : (made n : ℕ) → made < n → (made + 1 == n) ≡ false → made + 1 < n
below made n low other = ⊎_elim (λ q. let bad : true ≡ false = sym q.0 ∙ other in cc) (λ q. apart (made + 1) n (omega arith) q.1) (eqb_tells (made + 1) n) where
  apart : (a b : ℕ) → a ≤ b → a ≢ b → a < b
  apart zero zero le ne = absurd (ne refl)
  apart zero (suc b) le ne = omega arith
  apart (suc a) zero le ne = absurd (omega arith)
  apart (suc a) (suc b) le ne = let k = apart a b (omega arith) (λ e. ne (ap suc e)) in omega arith

module _ (S : WaySite) where
  abbrev V : ℕ
  V = volume_words S.site.geom

  abbrev R : ℕ
  R = combine_ranks S

  -- the sweep goes on, or the own answer is collected
  pub swept : (x : TheCombineSide) (owner n : ℕ) → sweep_left V R owner ≤ n → far S (sweep_on S x owner).work ≤ n
  swept x owner n le = by (owner == R) where
    by : (b : Bool) → far S (if b then to_collect x else combine_to_stage x (Sweep owner)).work ≤ n
    by true = omega arith
    by false = le

  decided : (x : TheCombineSide) (owner : ℕ) (b : Bool) (d : List Write × _) → length d.0 ≤ 5 →
      far S (combine_to_stage (with_decision S x owner d) (decided_stage owner b)).work ≤ sweep_left V R (owner + 1) + 17
  decided x owner true d few = omega arith
  decided x owner false d few = omega arith

  pub read_far : (x : TheCombineSide) (owner : ℕ) → far S (combine_read_on S x owner).work ≤ sweep_left V R (owner + 1) + 18 + words_unseen V x.seen.pairs
  read_far x owner = by (next_word S.site.geom x.posted x.seen.pairs) where
    by : (o : Option ℕ) → far S (combine_read_next S x owner o).work ≤ sweep_left V R (owner + 1) + 18 + words_unseen V x.seen.pairs
    by (Some word) = omega arith
    by None =
        let few = decision_few S.site.geom x.posted (value_or_zero x.seen.pairs) in
        let k = decided x owner (is_update x.posted) (decision S.site.geom x.posted (value_or_zero x.seen.pairs)) few in
        omega arith

  pub written : (x : TheCombineSide) (owner made : ℕ) (o : Option Write) → slice_get x.writes made ≡ o →
      far S (combine_written_on x owner made o).work < far_at V R x (Volume owner made)
  written x owner made (Some w) e = let k = slice_get_within x.writes made w e in omega arith
  written x owner made None e = omega arith
