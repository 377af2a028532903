-- A rank whose block is under way has the lock, and so it rests.
use Rattle.std.specs.Prelude.{◌≡◌, ℕ, true, List, slice_get, Some}
use Rattle.std.proofs.Common.{sym, subst}
use Rattle.rl_step.specs.declared.events.Standing.{Standing}
use Rattle.rl_step.specs.declared.events.Standing.TheVariants.{Out, Asking, Writer, Reader, Leaving}
use Rattle.rl_step.specs.Lock.{IsHolder, Rests}
use Rattle.rl_site.specs.Site.{Site}
use Rattle.rl_work.specs.declared.stage.Stage.{Stage}
use Rattle.rl_work.specs.declared.stage.Stage.TheVariants.{Rest, Begin, Read, Journal, Volume}
use Rattle.rl_work.specs.Work.{is_under_way}
use Rattle.rl_work.specs.WorkGood.{WorkSide, WorkGood, FitsAt}

pub holder_rests : (st : Standing) → IsHolder st → Rests st
holder_rests Out holds = absurd holds
holder_rests Asking holds = absurd holds
holder_rests Writer holds = tt
holder_rests Reader holds = tt
holder_rests Leaving holds = absurd holds

pub under_way_holds : (site : Site) (words : List ℕ) (sides : List WorkSide) → WorkGood site words sides → (r : ℕ) (x : WorkSide) →
    slice_get sides r ≡ Some x → is_under_way x.work.stage ≡ true → IsHolder x.standing
under_way_holds site words sides g r x has goes = by_stage x.work.stage (g.fits r x has) goes where
  by_stage : (st : Stage) → FitsAt site words g.journal g.before r x st → is_under_way st ≡ true → IsHolder x.standing
  by_stage Rest f e = absurd (cc)
  by_stage Begin f e = absurd (cc)
  by_stage (Read count word) f e = f.holds
  by_stage (Journal made) f e = subst IsHolder (sym f.0.writes) tt
  by_stage (Volume made) f e = subst IsHolder (sym f.0.writes) tt
