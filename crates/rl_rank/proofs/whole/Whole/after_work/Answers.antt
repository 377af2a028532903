-- What the calls of the work ask follows from the rule, by the lock's laws.
use Rattle.std.proofs.Common.{◌≡◌, ◌≤◌, ◌++◌, List, Bool, Option, Some, None, ℕ, length, ap, sym, ◌∙◌, subst, arith}
use Rattle.rl_step.specs.Core.{turned_with}
use Rattle.rl_step.specs.declared.events.Event.{Event}
use Rattle.rl_work.specs.declared.follow.WorkStep.{WorkStep}
use Rattle.rl_work.specs.Ways.{AsksOut, Worked, worked_with}
use Rattle.rl_rank.specs.declared.card_state.CardState.TheVariants.{Free}
use Rattle.rl_rank.specs.declared.effect.Effect.TheVariants.{Work}
use Rattle.rl_rank.specs.declared.whole.WholeView.{WholeView}
use Rattle.rl_rank.specs.Running.{LockAt, lock_at, tables, goods}
use Rattle.rl_rank.specs.Split.{effect_at, plan_home}
use Rattle.rl_rank.specs.Whole.{touch_by, departure_by, followed, work_turned, effect_turned}
use Rattle.rl_rank.specs.laws.OfCore.{both_laws}
use Rattle.rl_rank.specs.laws.Whole.{after_effect}
use Rattle.rl_rank.specs.laws.WholeOwes.{may_turn, work_asks}
use Rattle.rl_rank.proofs.AtomLaws.{with_side}
use Rattle.rl_rank.proofs.whole.Whole.after_work.Goals as goal

-- in no card, with no act planned, an atom is one of the work
works : {V K : Type 0} (L : LockAt V K) (x : WholeView V K) (got : ℕ) → x.side.card ≡ Free → L.table.plan x.side.view ≡ None →
    effect_at (plan_home L.table (L.table.plan x.side.view)) (L.table.plan x.side.view) x.side.card got ≡ Work
works L x got free planned =
    ap (λ p. effect_at (plan_home L.table p) p x.side.card got) planned ∙ ap (λ c. effect_at (plan_home L.table None) None c got) free

pub after-step-requires : goal.after-step-requires
after-step-requires g c =
    let table = tables g.A.Algo.table g.W.Work.table in
    let core = c.args.self.now in
    let x = c.args.view.now in
    may_turn _ _ _ _ _ _ (both_laws table (goods g.A.Algo.good g.W.Work.good) g.A.Algo.further g.A.Algo.layout g.met.A.Algo.laws g.met.W.Work.laws core)
    core.home x c.args.got c.requires.may (works (lock_at table core) x c.args.got c.requires.free c.requires.planned)

pub follow-requires-clause-asks : goal.follow-requires-clause-asks
follow-requires-clause-asks g c =
    let table = tables g.A.Algo.table g.W.Work.table in
    let core = c.args.self.now in
    let x = c.args.view.now in
    let asks = work_asks _ _ _ _ _ _
    (both_laws table (goods g.A.Algo.good g.W.Work.good) g.A.Algo.further g.A.Algo.layout g.met.A.Algo.laws g.met.W.Work.laws core)
    core.home x c.args.got c.requires.may (works (lock_at table core) x c.args.got c.requires.free c.requires.planned) in
    subst (λ f. AsksOut f ((g.A.Algo.table core.algo).standing x.side.view)) (sym (ap (λ t. t.follow) c.after-step.ensures)) asks

-- an atom is one touch at most
one_touch : (rank : ℕ) (touch : Option Bool) → length (touch_by rank touch) ≤ 1
one_touch rank None = omega arith
one_touch rank (Some write) = omega arith

pub follow-requires-clause-room : goal.follow-requires-clause-room
follow-requires-clause-room g c =
    subst (λ es. length es ≤ 1) (sym c.tell_touch.ensures) (one_touch c.args.view.now.rank c.touch-touch.result)

-- its touch, and what follows
work_leaves : {V K : Type 0} (L : LockAt V K) (x : WholeView V K) (t : Worked K) (v : V) (w : K) (es first : List Event) (touch : Option Bool)
    (step : WorkStep) → x.side.card ≡ Free → worked_with w step ≡ t → v ≡ followed L.table x.side.view step.follow → touch ≡ L.work.touch x.work →
    first ≡ touch_by x.rank touch → es ≡ first ++ departure_by x.rank (L.table.standing x.side.view) step.follow →
    turned_with (record (with_side x v x.side.card x.kept) { work = w }) es step.stepped ≡ effect_turned L x t Work
work_leaves L x t v w es first touch step free same moved same_touch touched told =
    let with : _ → _ → WholeView _ _ = λ z c. record { side = record { view = z; card = c }; kept = x.kept; rank = x.rank; work = w } in
    let left = departure_by x.rank (L.table.standing x.side.view) step.follow in
    ap (λ c. turned_with (with v c) es step.stepped) free
    ∙ ap (λ z. turned_with (with z Free) es step.stepped) moved
    ∙ ap (λ z. turned_with (with (followed L.table x.side.view step.follow) Free) z step.stepped)
    (told ∙ ap (λ z. z ++ left) (touched ∙ ap (touch_by x.rank) same_touch))
    ∙ ap (work_turned L x) same

pub returns : goal.returns
returns g c =
    let L = lock_at (tables g.A.Algo.table g.W.Work.table) c.args.self.now in
    let x = c.args.view.now in
    work_leaves L x _ _ _ _ _ c.touch-touch.result c.after-step.result c.requires.free
    c.after-step.ensures c.follow.ensures.view c.touch-touch.ensures c.tell_touch.ensures c.follow.ensures.told
    ∙ sym (after_effect L x c.args.got Work (works L x c.args.got c.requires.free c.requires.planned))
