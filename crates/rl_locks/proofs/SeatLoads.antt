-- What the rule of the work says of the words that a rank has loaded, of a rank's whole view.
use Rattle.std.proofs.Common.{◌≡◌, ◌<◌, ℕ, List, [], ◌∷◌, length, map, take, Some}
use Rattle.std.specs.List.{slice_get}
use Rattle.rl_word.specs.Acts.{Layout}
use Rattle.rl_word.specs.laws.Places.{get_map}
use Rattle.rl_model.specs.declared.call.Call.{Call}
use Rattle.rl_step.specs.Do.{TheWindow}
use Rattle.rl_step.specs.Lock.{LockState}
use Rattle.rl_volume.specs.Walk.{most_reads}
use Rattle.rl_work.specs.declared.stage.Stage.TheVariants.{Read}
use Rattle.rl_site.specs.Site.{Site, lock_base}
use Rattle.rl_work.specs.Work.{TheWork}
use Rattle.rl_work.specs.Locked.{locked_good}
use Rattle.rl_work.specs.laws.AtomLaws.{few_loads}
use Rattle.rl_rank.specs.declared.whole.WholeView.{WholeView}
use Rattle.rl_rank.specs.Running.{LockAt}
use Rattle.rl_rank.specs.Whole.{Good, work_side}

module _ {V : Type 0} (good : LockState V → Type 0) (layout : Layout) (h : TheWindow) where
  pub locked_few : (L : LockAt V TheWork) (site : Site) (vs : List (WholeView V TheWork)) → Good L (record { lock = good; work = locked_good site }) layout h vs →
      (r : ℕ) (v : WholeView V TheWork) → slice_get vs r ≡ Some v → (call : Call) (count word : ℕ) → v.work.calls ≡ call ∷ [] → v.work.stage ≡ Read count word → length v.work.seen.pairs < most_reads site.geom call
  locked_few L site vs g r v has call count word alone stage =
      few_loads site (take (lock_base site) h.words) (map (work_side L.table) vs) g.work_part r (work_side L.table v) (get_map (work_side L.table) vs r v has) call count word alone stage
