use Rattle.std.proofs.Common.{sym, arith}
use Rattle.std.proofs.lemmas.Result.{err_from_is_err_and}
use Rattle.rl_place.proofs.HomeLoop.{no_line, bad_home, goes_on, ends_so}
use Rattle.rl_place.proofs.sections.homes_of.Goals as goal

pub returns-in_err-line : goal.returns-in_err-line
returns-in_err-line c =
    let p = err_from_is_err_and c.from_residual.result c.from_residual.ensures.1 in
    rw (p.1, p.2) (no_line _ _ _ _ _ _ _ _ c.loop-shard.invariant c.loop-shard-test.true c.in_err-line.ensures.leaves)

pub returns-in_err-home : goal.returns-in_err-home
returns-in_err-home c =
    let p = err_from_is_err_and c.from_residual-in_err-home.result c.from_residual-in_err-home.ensures.1 in
    rw (p.1, p.2) (bad_home _ _ _ _ _ _ _ _ _ _ c.loop-shard.invariant c.loop-shard-test.true c.in_ok-line.ensures.leaves (sym c.in_err-home.ensures.value))

pub loop-shard-preserved : goal.loop-shard-preserved
loop-shard-preserved c = rw c.in_ok-push.ensures.items (goes_on _ _ _ _ _ _ _ _ _ _ c.loop-shard.invariant c.loop-shard-test.true c.in_ok-line.ensures.leaves (sym c.in_ok-home.ensures.value))

pub returns : goal.returns
returns c = ends_so _ _ _ _ _ _ _ c.loop-shard.invariant (omega (arith, c.loop-shard-test.false))
