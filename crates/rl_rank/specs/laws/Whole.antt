-- A rank's whole machine over any lock: the lock's atoms, and the work of a block while it holds; and the rule of its window.
use Rattle.std.specs.Prelude.{◌≡◌, ℕ, List}
use Rattle.std.proofs.Common.{ap}
use Rattle.rl_work.specs.Ways.{Look, look}
use Rattle.rl_rank.specs.declared.effect.Effect.{Effect}
use Rattle.rl_rank.specs.declared.whole.WholeView.{WholeView}
use Rattle.rl_rank.specs.Running.{LockAt}
use Rattle.rl_rank.specs.Split.{effect_at, plan_home}
use Rattle.rl_rank.specs.Whole.{effect_turned, after_of}

-- how a view's work looks, by the words
abbrev pub look_of : {V K : Type 0} → LockAt V K → List ℕ → WholeView V K → Look
look_of L words x = look L.work words x.rank x.work

pub after_effect : {V K : Type 0} (L : LockAt V K) (x : WholeView V K) (got : ℕ) (e : Effect) →
    effect_at (plan_home L.table (L.table.plan x.side.view)) (L.table.plan x.side.view) x.side.card got ≡ e → after_of L x got ≡
    effect_turned L x (L.work.after x.rank x.work got) e
after_effect L x got e is = ap (effect_turned L x (L.work.after x.rank x.work got)) is
