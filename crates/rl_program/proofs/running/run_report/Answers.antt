use Rattle.std.proofs.Common.{◌≡◌, Result, IfOk, ap, sym, subst, ◌∙◌, rules}
use Rattle.rl_tree.specs.TreeShape.{IsBudgeted}
use Rattle.rl_rw.specs.Rw.{SuitsRw}
use Rattle.rl_step.specs.LockQueues.{does_batches}
use Rattle.rl_ops.proofs.BatchLaws.{all_alone}
use Rattle.rl_place.specs.declared.lock.Lock.{Lock}
use Rattle.rl_place.specs.LockWords.{name_of}
use Rattle.rl_place.specs.Places.{ThePlace}
use Rattle.rl_place.specs.Shapes.{shape_of, knobs_of}
use Rattle.rl_ops.specs.declared.ops.Ops.{Ops}
use Rattle.rl_report.specs.Reports.{TheReport}
use Rattle.rl_run.specs.Made.{IsRunBy}
use Rattle.rl_locks.specs.Kinds.{lock_kind_of}
use Rattle.rl_program.proofs.running.run_report.Goals as goal

pub run_all-requires-in-Mcs-clause-knobs : goal.run_all-requires-in-Mcs-clause-knobs
run_all-requires-in-Mcs-clause-knobs g c =
    let suits : IsBudgeted (shape_of c.args.place.now) = c.settings_suit.ensures.mcs c.args.place.now c.requires.proper (ap (λ p. name_of p.lock) (sym c.place.view_is) ∙ ap name_of c.in-Mcs.is) in
    search rules

pub run_all-requires-in-Rw-clause-knobs : goal.run_all-requires-in-Rw-clause-knobs
run_all-requires-in-Rw-clause-knobs g c =
    let suits : SuitsRw (shape_of c.args.place.now) (knobs_of c.args.place.now.lock) = c.settings_suit.ensures.rw c.args.place.now c.requires.proper (ap (λ p. name_of p.lock) (sym c.place.view_is) ∙ ap name_of c.in-Rw.is) in
    search rules

pub run_all-requires-in-Combine-clause-batches : goal.run_all-requires-in-Combine-clause-batches
run_all-requires-in-Combine-clause-batches g c κs within none =
    all_alone c.args.ops (c.requires.suits (ap (λ p. does_batches (name_of p.lock)) (sym c.place.view_is) ∙ ap (λ l. does_batches (name_of l)) c.in-Combine.is))

-- a run by the machine of this lock is one by the placement's, whose lock it is
made_by : {E : Type 0} {place shown : ThePlace} {lock : Lock} (ops : Ops) (result : Result TheReport E) → shown ≡ place → shown.lock ≡ lock →
    IfOk result (λ report. IsRunBy (lock_kind_of lock).defined place ops report) →
    IfOk result (λ report. IsRunBy (lock_kind_of place.lock).defined place ops report)
made_by {E} {place} {shown} {lock} ops result is kind made =
    subst (λ l. IfOk result (λ report. IsRunBy (lock_kind_of l).defined place ops report)) (sym (ap (λ p. p.lock) (sym is) ∙ kind)) made

pub returns-in-Spin-clause-made : goal.returns-in-Spin-clause-made
returns-in-Spin-clause-made g c = made_by _ _ c.place.view_is c.in-Spin.is c.run_all.ensures.made

pub returns-in-Dmcs-clause-made : goal.returns-in-Dmcs-clause-made
returns-in-Dmcs-clause-made g c = made_by _ _ c.place.view_is c.in-Dmcs.is c.run_all-in-Dmcs.ensures.made

pub returns-in-Alock-clause-made : goal.returns-in-Alock-clause-made
returns-in-Alock-clause-made g c = made_by _ _ c.place.view_is c.in-Alock.is c.run_all-in-Alock.ensures.made

pub returns-in-Mcs-clause-made : goal.returns-in-Mcs-clause-made
returns-in-Mcs-clause-made g c = made_by _ _ c.place.view_is c.in-Mcs.is c.run_all-in-Mcs.ensures.made

pub returns-in-Rw-clause-made : goal.returns-in-Rw-clause-made
returns-in-Rw-clause-made g c = made_by _ _ c.place.view_is c.in-Rw.is c.run_all-in-Rw.ensures.made

pub returns-in-Seq-clause-made : goal.returns-in-Seq-clause-made
returns-in-Seq-clause-made g c = made_by _ _ c.place.view_is c.in-Seq.is c.run_all-in-Seq.ensures.made

pub returns-in-Combine-clause-made : goal.returns-in-Combine-clause-made
returns-in-Combine-clause-made g c = made_by _ _ c.place.view_is c.in-Combine.is c.run_all-in-Combine.ensures.made
