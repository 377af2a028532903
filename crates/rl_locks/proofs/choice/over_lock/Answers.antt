-- The settings of a proper placement suit its lock; and each core lets its ranks go on as its kind defines it.
use Rattle.std.proofs.Common.{◌≡◌, ap, sym, subst, ◌∙◌}
use Rattle.rl_place.specs.declared.lock.Lock.{Lock}
use Rattle.rl_place.specs.Places.{ThePlace}
use Rattle.rl_locks.specs.Kinds.{LockKind, lock_kind_of}
use Rattle.rl_locks.specs.Urgencies.{Urgent, urgency_of}
use Rattle.rl_locks.proofs.BudgetLaws.{budgeted, suits_rw}
use Rattle.rl_locks.proofs.UrgencyLaws.{spin_goes, dmcs_goes, alock_goes, mcs_goes, rw_goes, seq_goes, combine_goes}
use Rattle.rl_locks.proofs.choice.over_lock.Goals as goal

pub over-requires-in-Mcs-clause-knobs : goal.over-requires-in-Mcs-clause-knobs
over-requires-in-Mcs-clause-knobs g c = budgeted c.args.place.now _ c.requires.proper (ap (λ p. p.lock) (sym c.place.view_is) ∙ c.in-Mcs.is)

pub over-requires-in-Rw-clause-knobs : goal.over-requires-in-Rw-clause-knobs
over-requires-in-Rw-clause-knobs g c = suits_rw c.args.place.now _ _ _ _ c.requires.proper (ap (λ p. p.lock) (sym c.place.view_is) ∙ c.in-Rw.is)

-- what comes of it by the kind of this lock comes by the placement's
of_kind : {Out : Type 0} (gives : (kind : LockKind) → Urgent kind.View → Out → Type 0) (out : Out) (place seen : ThePlace) (here : Lock) → seen ≡ place → seen.lock ≡ here → gives (lock_kind_of here) (urgency_of here) out →
    gives (lock_kind_of place.lock) (urgency_of place.lock) out
of_kind gives out place seen here same is done = subst (λ l. gives (lock_kind_of l) (urgency_of l) out) (sym (ap (λ p. p.lock) (sym same) ∙ is)) done

pub returns-in-Spin : goal.returns-in-Spin
returns-in-Spin g c = of_kind (g.T.CoreTask.gives c.args.task c.args.place.now) c.over.result c.args.place.now _ _ c.place.view_is c.in-Spin.is (c.over.ensures _ spin_goes)

pub returns-in-Dmcs : goal.returns-in-Dmcs
returns-in-Dmcs g c = of_kind (g.T.CoreTask.gives c.args.task c.args.place.now) c.over-in-Dmcs.result c.args.place.now _ _ c.place.view_is c.in-Dmcs.is (c.over-in-Dmcs.ensures _ dmcs_goes)

pub returns-in-Alock : goal.returns-in-Alock
returns-in-Alock g c = of_kind (g.T.CoreTask.gives c.args.task c.args.place.now) c.over-in-Alock.result c.args.place.now _ _ c.place.view_is c.in-Alock.is (c.over-in-Alock.ensures _ alock_goes)

pub returns-in-Mcs : goal.returns-in-Mcs
returns-in-Mcs g c = of_kind (g.T.CoreTask.gives c.args.task c.args.place.now) c.over-in-Mcs.result c.args.place.now _ _ c.place.view_is c.in-Mcs.is (c.over-in-Mcs.ensures _ mcs_goes)

pub returns-in-Rw : goal.returns-in-Rw
returns-in-Rw g c = of_kind (g.T.CoreTask.gives c.args.task c.args.place.now) c.over-in-Rw.result c.args.place.now _ _ c.place.view_is c.in-Rw.is (c.over-in-Rw.ensures _ rw_goes)

pub returns-in-Seq : goal.returns-in-Seq
returns-in-Seq g c = of_kind (g.T.CoreTask.gives c.args.task c.args.place.now) c.over-in-Seq.result c.args.place.now _ _ c.place.view_is c.in-Seq.is (c.over-in-Seq.ensures _ seq_goes)

pub returns-in-Combine : goal.returns-in-Combine
returns-in-Combine g c = of_kind (g.T.CoreTask.gives c.args.task c.args.place.now) c.over-in-Combine.result c.args.place.now _ _ c.place.view_is c.in-Combine.is (c.over-in-Combine.ensures _ combine_goes)
