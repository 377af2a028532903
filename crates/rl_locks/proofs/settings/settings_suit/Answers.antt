-- Each by the cases of a lock, of which one has the name.
use Rattle.std.proofs.Common.{◌≡◌, ◌≤◌, true, refl, sym, ap, ◌∙◌, subst}
use Rattle.rl_word.specs.declared.locks.LockName.{LockName}
use Rattle.rl_word.specs.declared.locks.LockName.TheVariants as named
use Rattle.rl_word.specs.LockFacts.{facts_of, has_cohorts}
use Rattle.rl_tree.specs.TreeShape.{IsBudgeted}
use Rattle.rl_rw.specs.Rw.{SuitsRw}
use Rattle.rl_place.specs.declared.lock.Lock.{Lock}
use Rattle.rl_place.specs.declared.lock.Lock.TheVariants as lock
use Rattle.rl_place.specs.LockWords.{name_of}
use Rattle.rl_place.specs.Places.{ThePlace, IsProper, LockFits}
use Rattle.rl_place.specs.Shapes.{shape_of, knobs_of}
use Rattle.rl_locks.proofs.BudgetLaws.{budgeted, suits_rw}
use Rattle.rl_locks.proofs.settings.settings_suit.Goals as goal

-- both budgets of two cohorts are small
abbrev AreSmall : Lock → Type 0
AreSmall l = ((knobs_of l).local ≤ 1000) × ((knobs_of l).remote ≤ 1000)

-- whatever lock has its ranks in two cohorts
small : (p : ThePlace) → IsProper p → (name : LockName) → name_of p.lock ≡ name → has_cohorts (facts_of name).queues ≡ true → AreSmall p.lock
small p proper name is two = by_lock p.lock refl (ap (λ n. has_cohorts (facts_of n).queues) is ∙ two) where
  by_lock : (l : Lock) → p.lock ≡ l → has_cohorts (facts_of (name_of l)).queues ≡ true → AreSmall p.lock
  by_lock lock.Spin e c = absurd (cc)
  by_lock lock.Dmcs e c = absurd (cc)
  by_lock (lock.Alock local remote) e c = let f : LockFits p.levels (lock.Alock local remote) = subst (LockFits p.levels) e proper.lock in subst AreSmall (sym e) f
  by_lock (lock.Mcs budgets) e c = absurd (cc)
  by_lock (lock.Rw budgets writers readers group) e c = absurd (cc)
  by_lock (lock.Seq local remote) e c = let f : LockFits p.levels (lock.Seq local remote) = subst (LockFits p.levels) e proper.lock in subst AreSmall (sym e) f
  by_lock (lock.Combine local remote) e c = let f : LockFits p.levels (lock.Combine local remote) = subst (LockFits p.levels) e proper.lock in subst AreSmall (sym e) f

pub returns-clause-alock : goal.returns-clause-alock
returns-clause-alock c p proper is = small p proper named.Alock is refl

pub returns-clause-seq : goal.returns-clause-seq
returns-clause-seq c p proper is = small p proper named.Seq is refl

pub returns-clause-combine : goal.returns-clause-combine
returns-clause-combine c p proper is = small p proper named.Combine is refl

pub returns-clause-mcs : goal.returns-clause-mcs
returns-clause-mcs c p proper is = by_lock p.lock refl is where
  by_lock : (l : Lock) → p.lock ≡ l → name_of l ≡ named.Mcs → IsBudgeted (shape_of p)
  by_lock lock.Spin e i = absurd cc
  by_lock lock.Dmcs e i = absurd cc
  by_lock (lock.Alock local remote) e i = absurd cc
  by_lock (lock.Mcs budgets) e i = budgeted p budgets proper e
  by_lock (lock.Rw budgets writers readers group) e i = absurd cc
  by_lock (lock.Seq local remote) e i = absurd cc
  by_lock (lock.Combine local remote) e i = absurd cc

pub returns-clause-rw : goal.returns-clause-rw
returns-clause-rw c p proper is = by_lock p.lock refl is where
  by_lock : (l : Lock) → p.lock ≡ l → name_of l ≡ named.Rw → SuitsRw (shape_of p) (knobs_of p.lock)
  by_lock lock.Spin e i = absurd cc
  by_lock lock.Dmcs e i = absurd cc
  by_lock (lock.Alock local remote) e i = absurd cc
  by_lock (lock.Mcs budgets) e i = absurd cc
  by_lock (lock.Rw budgets writers readers group) e i = suits_rw p budgets writers readers group proper e
  by_lock (lock.Seq local remote) e i = absurd cc
  by_lock (lock.Combine local remote) e i = absurd cc
