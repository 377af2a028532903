-- Blocks under their lock have no dead end.
use Rattle.std.specs.Prelude.{◌≡◌, ℕ, ◌<◌, ◌≤◌, List, length, take, Some, None, refl}
use Rattle.std.proofs.Common.{arith}
use Rattle.rl_word.specs.laws.Places.{get_map}
use Rattle.rl_word.specs.declared.acts.Atom.{Atom}
use Rattle.rl_step.specs.Do.{do_got}
use Rattle.rl_volume.specs.Words.{volume_words}
use Rattle.rl_work.specs.declared.stage.Stage.{Stage}
use Rattle.rl_work.specs.declared.stage.Stage.TheVariants.{Rest, Begin, Read, Journal, Volume}
use Rattle.rl_site.specs.Site.{Site, lock_base}
use Rattle.rl_work.specs.Work.{stage_atom, with_block, work_after}
use Rattle.rl_work.specs.WorkGood.{FitsAt, WorkSide, WorkGood}
use Rattle.rl_work.specs.Ways.{Works}
use Rattle.rl_work.specs.Locked.{locked_table, locked_good}
use Rattle.rl_work.specs.laws.LockedLaws.{may_turn}
use Rattle.rl_ending.specs.laws.Sums.{sum_falls, sum_grows}
use Rattle.rl_work.specs.WorkEnding.{works_in, WorkEnds}
use Rattle.rl_work.specs.LockedLeft.{far, locked_left, locked_most}
use Rattle.rl_work.specs.laws.LockedSteps.{BeginsAnew, stage_less}

module _ (site : Site) (behind : ℕ) where
  begins_at : (words : List ℕ) (sides : List WorkSide) (g : WorkGood site words sides) (r : ℕ) (x : WorkSide) (at : Atom) (stage : Stage) →
      stage_atom site.geom x.work stage ≡ Some at → FitsAt site words g.journal g.before r x stage →
      BeginsAnew site.geom site.shard r x.work stage
  begins_at words sides g r x at Rest e f = let bad : None ≡ Some at = e in cc
  begins_at words sides g r x at Begin e f = (f.2, f.3, f.4)
  begins_at words sides g r x at (Read count word) e f = tt
  begins_at words sides g r x at (Journal made) e f = tt
  begins_at words sides g r x at (Volume made) e f = tt

  atom_less : (words cards : List ℕ) (sides : List WorkSide) (r : ℕ) (x : WorkSide) (at : Atom) →
      Works (locked_table site behind) (locked_good site) words sides r x at →
      far (volume_words site.geom) (work_after site.geom site.shard r x.work (do_got at words cards)).work < far (volume_words site.geom) x.work
  atom_less words cards sides r x at w =
      let got : ℕ = do_got at words cards in
      let can = may_turn site behind r x.work got
      (record { words = words; cards = cards; sides = sides; standing = x.standing; at = at; works = w; gives = refl }) in
      let g : WorkGood site (take (lock_base site) words) sides = w.side.is_good in
      stage_less site.geom site.shard r x.work got x.work.stage
      (begins_at (take (lock_base site) words) sides g r x at x.work.stage w.planned (g.fits r x w.side.there)) can

  pub locked_ends : WorkEnds (locked_table site behind) (locked_good site) (locked_left site) (locked_most site)
  locked_ends =
      record {
        nears = λ words cards sides r x at w may. sum_falls (far (volume_words site.geom)) (works_in sides) r x.work
            (work_after site.geom site.shard r x.work (do_got at words cards)).work
            (get_map (λ (z : WorkSide). z.work) sides r x w.side.there) (atom_less words cards sides r x at w);
        frame = λ words others sides g laid same. refl;
        open_adds = λ words sides r x calls seq s shut fits takes.
            let few : length calls ≤ 8 = fits.is_block.few in
            sum_grows (far (volume_words site.geom)) (works_in sides) r (locked_most site) x.work (with_block x.work calls seq)
            (get_map (λ (z : WorkSide). z.work) sides r x s.there) (omega arith);
      }
