-- Each rank has at most as many calls as all have.
use Rattle.rl_ops.specs.declared.ops.TheConstants.{MOST_CALLS}
use Rattle.rl_ops.proofs.RankLemmas.{list-le-total}
use Rattle.rl_ops.proofs.ops.Ops.tallies.Goals as goal

pub tally_of-requires-clause-few : goal.tally_of-requires-clause-few
tally_of-requires-clause-few c =
    let few = list-le-total (λ v. v.items) c.as_slice-calls-items.result.now c.loop-calls.calls-index MOST_CALLS c.calls-item.result c.loop-calls-test.true (rw c.as_slice-calls-items.ensures c.requires.few) in
    rw c.deref.ensures.value (rw (← c.calls-item.is) at few)
