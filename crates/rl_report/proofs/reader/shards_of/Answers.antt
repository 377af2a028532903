use Rattle.std.proofs.Common.{◌≡◌, ◌<◌, ◌≤◌, ap, arith}
use Rattle.std.proofs.lemmas.Result.{err_from_is_err_and}
use Rattle.rl_report.specs.Naming.{TheNaming}
use Rattle.rl_report.proofs.Loops.{shard_fails, next_shard, shards_end}
use Rattle.rl_report.proofs.reader.shards_of.Goals as goal

pub returns-in_err-shard : goal.returns-in_err-shard
returns-in_err-shard c =
    let same : c.naming.inside.shards ≡ c.args.naming.now.shards = ap (λ (n : TheNaming). n.shards) c.naming.view_is in
    let more : c.loop-number.number < c.args.naming.now.shards = omega (arith, same, c.loop-number-test.true) in
    let p = err_from_is_err_and c.from_residual.result c.from_residual.ensures.1 in
    rw (p.1, p.2) (shard_fails _ _ _ _ _ _ _ _ _ _ c.loop-number.invariant more c.in_err-shard.ensures)

pub loop-number-preserved : goal.loop-number-preserved
loop-number-preserved c =
    let same : c.naming.inside.shards ≡ c.args.naming.now.shards = ap (λ (n : TheNaming). n.shards) c.naming.view_is in
    let more : c.loop-number.number < c.args.naming.now.shards = omega (arith, same, c.loop-number-test.true) in
    rw c.in_ok-push.ensures.items (next_shard _ _ _ _ _ _ _ _ _ _ c.loop-number.invariant more c.in_ok-shard.ensures)

pub returns : goal.returns
returns c =
    let same : c.naming.inside.shards ≡ c.args.naming.now.shards = ap (λ (n : TheNaming). n.shards) c.naming.view_is in
    let most : c.args.naming.now.shards ≤ c.loop-number.number = omega (arith, same, c.loop-number-test.false) in
    shards_end _ _ _ _ _ _ _ _ c.loop-number.invariant most
