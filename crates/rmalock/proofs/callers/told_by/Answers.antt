-- The callers have begun, and a step leaves each as one that may go on.
use Rattle.std.proofs.Common.{sym, subst}
use Rattle.rl_inputs.proofs.SuitLaws.{sizes_suit}
use Rattle.rl_run.specs.Runs.{AreCallers}
use Rattle.rmalock.proofs.callers.told_by.Goals as goal
use Rattle.rmalock.proofs.callers.told_by.Goals.{then-rank-len+in_ok-answer_sign+in_ok-push_str+in_ok-push_str-2, else-rank-len}

pub begin_all-requires-clause-batches : goal.begin_all-requires-clause-batches
begin_all-requires-clause-batches g c = sizes_suit c.args.place.now c.args.ops g.C.ShardCore.batches c.requires.batches c.requires.suits

pub loop-digit-init : goal.loop-digit-init
loop-digit-init g c =
    subst (λ ws. AreCallers g.C.ShardCore.says ws c.in_ok-shards.callers.items) (sym c.as_slice-shared.ensures.value) c.in_ok-shards.ensures.callers

pub loop-digit-preserved : goal.loop-digit-preserved
loop-digit-preserved g c =
    elim c.if-rank-len.branch [
      | then-rank-len+in_ok-answer_sign+in_ok-push_str+in_ok-push_str-2 w ↦ rw w.callers-is w.step_of-answer.ensures.callers
      | else-rank-len w ↦ rw w.callers-is c.loop-digit.invariant
    ]
