-- What the calls of the lock ask follows from the rule, by the lock's laws. Where the lock isn't asked, or plans nothing, the rank rests.
use Rattle.std.proofs.Common.{rules, ◌≡◌, Some, None, sym, subst, ⊎_elim, ◌∙◌}
use Rattle.rl_step.specs.Core.{atom_in}
use Rattle.rl_step.specs.Lock.{Rests}
use Rattle.rl_rank.specs.declared.card_state.CardState.TheVariants.{Free}
use Rattle.rl_rank.specs.Running.{lock_at, tables, goods}
use Rattle.rl_rank.specs.laws.OfCore.{both_laws}
use Rattle.rl_rank.specs.laws.WholeOwes.{shifts, may_work, rests_as_said, rests_unplanned}
use Rattle.rl_rank.proofs.AtomLaws.{lock_atom, none_planned, work_next}
use Rattle.rl_rank.proofs.whole.Whole.next_free.Goals as goal
use Rattle.rl_rank.proofs.whole.Whole.next_free.Goals.{Joined-not-rests, then-not-rests+in_default+in-Out, else-not-rests}
use Rattle.rl_rank.proofs.whole.Whole.next_free.Given.{Over}

pub shift-requires : goal.shift-requires
shift-requires g c =
    let table = tables g.A.Algo.table g.W.Work.table in
    let core = c.args.self.now in
    shifts _ _ _ _ _ _ (both_laws table (goods g.A.Algo.good g.W.Work.good) g.A.Algo.further g.A.Algo.layout g.met.A.Algo.laws g.met.W.Work.laws core)
    core.home c.args.view.now c.in-Some.atom c.requires.may
    (sym (lock_atom (lock_at table core) c.args.view.now Free c.planned_free-plan.result c.requires.free c.planned_free-plan.ensures
    (Some c.in-Some.atom) (sym c.in-Some.is ∙ c.next_atom.ensures)))

-- the rank rests: the work says so, or the lock
rests : (g : Over) (c : Joined-not-rests g) → Rests ((g.A.Algo.table c.args.self.now.algo).standing c.args.view.now.side.view)
rests g c =
    let table = tables g.A.Algo.table g.W.Work.table in
    let core = c.args.self.now in
    let laws = both_laws table (goods g.A.Algo.good g.W.Work.good) g.A.Algo.further g.A.Algo.layout g.met.A.Algo.laws g.met.W.Work.laws core in
    elim c.if-not-rests.branch [
      | then-not-rests+in_default+in-Out w ↦ subst Rests w.standing.ensures
          (⊎_elim (λ e. subst Rests (sym e) tt) (λ h. ⊎_elim (λ e. subst Rests (sym e) tt) (λ e. subst Rests (sym e) tt) h) w.in-Out.is)
      | else-not-rests w ↦ rests_as_said _ _ _ _ _ _ laws core.home c.args.view.now c.requires.may (c.rests.ensures w.if-not-rests.false)
    ]

pub next-requires : goal.next-requires
next-requires g c =
    let table = tables g.A.Algo.table g.W.Work.table in
    let core = c.args.self.now in
    may_work _ _ _ _ _ _ (both_laws table (goods g.A.Algo.good g.W.Work.good) g.A.Algo.further g.A.Algo.layout g.met.A.Algo.laws g.met.W.Work.laws core)
    core.home c.args.view.now c.requires.may

-- so nothing is planned
none : (g : Over) (c : Joined-not-rests g) → (g.A.Algo.table c.args.self.now.algo).plan c.args.view.now.side.view ≡ None
none g c =
    let table = tables g.A.Algo.table g.W.Work.table in
    let core = c.args.self.now in
    let laws = both_laws table (goods g.A.Algo.good g.W.Work.good) g.A.Algo.further g.A.Algo.layout g.met.A.Algo.laws g.met.W.Work.laws core in
    rests_unplanned _ _ _ _ _ _ laws core.home c.args.view.now c.requires.may (rests g c)

pub returns-in_err-atom-clause-atom : goal.returns-in_err-atom-clause-atom
returns-in_err-atom-clause-atom g c =
    let d = (goal.at.returns-in_err-atom-clause-atom g c).Joined-not-rests in
    let found : atom_in c.from_residual.result ≡ c.next.result = search rules in
    found ∙ c.next.ensures
    ∙ work_next (lock_at (tables g.A.Algo.table g.W.Work.table) c.args.self.now) c.args.view.now c.requires.free (none g d) (rests g d)

pub returns-clause-atom : goal.returns-clause-atom
returns-clause-atom g c =
    let d = (goal.at.returns-clause-atom g c).Joined-not-rests in
    let found : Some c.in_ok-atom.atom ≡ c.next.result = search rules in
    found ∙ c.next.ensures
    ∙ work_next (lock_at (tables g.A.Algo.table g.W.Work.table) c.args.self.now) c.args.view.now c.requires.free (none g d) (rests g d)

pub returns-clause-plan : goal.returns-clause-plan
returns-clause-plan g c =
    let d = (goal.at.returns-clause-plan g c).Joined-not-rests in
    none_planned (lock_at (tables g.A.Algo.table g.W.Work.table) c.args.self.now) c.args.view.now c.requires.free (none g d)
