-- How a rank stands by where it is in its block: a get alone is out, and a block that is under way inside the lock is a holder's.
use Rattle.std.specs.Prelude.{◌≡◌, ℕ, true, List, map, slice_get, Some, refl}
use Rattle.std.proofs.Common.{sym, ap, subst}
use Rattle.rl_step.specs.declared.events.Standing.TheVariants.{Out}
use Rattle.rl_step.specs.Lock.{Rests}
use Rattle.rl_site.specs.Site.{WaySite}
use Rattle.rl_work.specs.Work.{is_under_way}
use Rattle.rl_work.specs.laws.RestLaws.{holder_rests, under_way_holds}
use Rattle.rl_seq.specs.declared.stage.SeqStage.{SeqStage}
use Rattle.rl_seq.specs.declared.stage.SeqStage.TheVariants as stage
use Rattle.rl_seq.specs.Site.{front}
use Rattle.rl_seq.specs.SeqGood.{SeqRank, SeqGood, as_locked}
use Rattle.rl_seq.specs.laws.FitLaws.{fit_at, locked_there, decided_writes, is_decided}

module _ (at : WaySite) (words : List ℕ) (sides : List SeqRank) (g : SeqGood at words sides) (r : ℕ) (x : SeqRank) (has : slice_get sides r ≡ Some x) where
  pub inside_rests : x.work.stage ≡ stage.Locked → is_under_way x.work.work.stage ≡ true → Rests x.standing
  inside_rests e goes =
      holder_rests x.standing
      (under_way_holds at.site (front at words) (map as_locked sides) g.locked r (record { standing = x.standing; work = x.work.work })
      (locked_there at words sides g r x has stage.Locked e) goes)

  pub outside_rests : (x.work.stage ≡ stage.Locked → ⊥) → Rests x.standing
  outside_rests away = by_stage x.work.stage refl where
    out : x.standing ≡ Out → Rests x.standing
    out e = subst Rests (sym e) tt

    decided : is_decided x.work.stage ≡ true → Rests x.standing
    decided d = subst Rests (sym (decided_writes at words sides g r x has d)) tt

    by_stage : (st : SeqStage) → x.work.stage ≡ st → Rests x.standing
    by_stage stage.Locked e = absurd (away e)
    by_stage stage.Look e = out (fit_at at words sides g r x has stage.Look e).0.out
    by_stage (stage.Count version) e = out (fit_at at words sides g r x has (stage.Count version) e).0.out
    by_stage (stage.Read version count word) e = out (fit_at at words sides g r x has (stage.Read version count word) e).getting.out
    by_stage (stage.Again version count) e = out (fit_at at words sides g r x has (stage.Again version count) e).getting.out
    by_stage stage.Decided e = decided (ap is_decided e)
    by_stage (stage.Open version) e = decided (ap is_decided e)
    by_stage (stage.Write version) e = decided (ap is_decided e)
    by_stage (stage.Close version) e = decided (ap is_decided e)
