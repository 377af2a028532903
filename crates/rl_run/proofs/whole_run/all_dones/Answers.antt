use Rattle.std.proofs.Common.{rules, ◌≡◌, ◌≤◌, ◌∙◌, length}
use Rattle.rl_run.proofs.WholeRun.{next_done, few_here, item_is}
use Rattle.rl_run.proofs.whole_run.all_dones.Goals as goal

pub overflow_cast-count : goal.overflow_cast-count
overflow_cast-count c =
    let get = item_is c.as_slice-calls-items.result.now c.args.ops.now.by_rank c.loop-calls.calls-index c.calls-item.result c.as_slice-calls-items.ensures c.loop-calls-test.true c.calls-item.is in
    let few : length c.calls-item.result.items ≤ 20000 = few_here c.args.ops.now.by_rank c.loop-calls.calls-index c.calls-item.result.items get c.requires in
    search rules

pub loop-calls-preserved : goal.loop-calls-preserved
loop-calls-preserved c =
    let get = item_is c.as_slice-calls-items.result.now c.args.ops.now.by_rank c.loop-calls.calls-index c.calls-item.result c.as_slice-calls-items.ensures c.loop-calls-test.true c.calls-item.is in
    let long : c.len-count.result ≡ length c.calls-item.result.items = search rules in
    c.in_ok-push.ensures.items ∙ next_done c.args.ops.now.by_rank c.loop-calls.calls-index c.len-count.result c.calls-item.result.items c.loop-calls.dones.items get long c.loop-calls.invariant
