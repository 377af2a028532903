use Rattle.std.proofs.Common.{◌<◌, sym, arith}
use Rattle.rl_ops.proofs.ShortAsk.{begins-ask, ask-left, next-ask, new-block}
use Rattle.rl_ops.proofs.short_reader.short_ask.Goals as goal

pub pass-requires-clause-there : goal.pass-requires-clause-there
pass-requires-clause-there c =
    let there : c.in_ok-rank.rank < c.args.ranks = omega (arith, c.if-rank-from.false, c.from.ensures) in
    let begins = begins-ask c.args.ranks c.args.shards c.in_ok-rank.rank c.in_ok-call.call _ _ _ _ c.in_ok-rest.rest.now there c.in_ok-call.ensures.0 c.in_ok-rank.ensures.1 c.in_ok-after_byte.ensures c.in_ok-call.ensures.1 c.in_ok-rest.ensures in
    ask-left c.args.lines.now.read c.args.ranks c.args.shards c.in_ok-rank.rank c.in_ok-call.call c.args.lines.now.rows _ c.in_ok-rest.rest.now (omega arith) (omega arith) c.front.ensures.rows begins

pub returns : goal.returns
returns c =
    let there : c.in_ok-rank.rank < c.args.ranks = omega (arith, c.if-rank-from.false, c.from.ensures) in
    let begins = begins-ask c.args.ranks c.args.shards c.in_ok-rank.rank c.in_ok-call.call _ _ _ _ c.in_ok-rest.rest.now there c.in_ok-call.ensures.0 c.in_ok-rank.ensures.1 c.in_ok-after_byte.ensures c.in_ok-call.ensures.1 c.in_ok-rest.ensures in
    next-ask c.args.version c.args.ranks c.args.shards c.args.progress c.args.lines.now c.pass.new.self c.in_ok-rank.rank c.in_ok-call.call _ c.in_ok-rest.rest.now (omega arith) (omega arith) (omega (arith, c.if-progress-ge-MOST_CALLS.false))
    (new-block c.args.progress.expected (sym c.if-not-may_end.ensures)) c.front.ensures.rows begins c.pass.ensures.rows c.pass.ensures.read
