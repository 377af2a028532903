use Rattle.std.proofs.Common.{◌<◌, ◌≤◌, ap, sym, arith, length}
use Rattle.rl_check.specs.Legal.{tests_on, tests_by}
use Rattle.rl_check.specs.Tests.{each}
use Rattle.rl_check.proofs.TestLaws.{pass_next, each_first, stops_first, then_first}
use Rattle.rl_check.proofs.whole.check_one.Goals as goal

pub loop-shard-preserved : goal.loop-shard-preserved
loop-shard-preserved c =
    pass_next (tests_on c.args.place.now c.args.report.now) c.loop-shard.shard c.in_ok-on_shard.on_shard c.loop-shard.invariant
    c.in_ok-on_shard.ensures
    (sym c.if-is_some.ensures)

pub returns-then-is_some : goal.returns-then-is_some
returns-then-is_some c =
    let r = c.args.report.now in
    let tests = tests_on c.args.place.now r in
    let low : c.loop-shard.shard < length r.shards =
    omega (arith, c.requires.fits.each_shard, c.loop-shard-test.true, ap (λ p. p.geom.shards) c.place.view_is) in
    stops_first (each (length r.shards) tests) (each (length r.done) (tests_by c.args.ops.now r)) c.in_ok-on_shard.on_shard
    (each_first tests (length r.shards) c.loop-shard.shard c.in_ok-on_shard.on_shard low c.loop-shard.invariant c.in_ok-on_shard.ensures
    (sym c.if-is_some.ensures))
    (sym c.if-is_some.ensures)

pub loop-rank-preserved : goal.loop-rank-preserved
loop-rank-preserved c =
    pass_next (tests_by c.args.ops.now c.args.report.now) c.loop-rank.rank c.in_ok-by_rank.by_rank c.loop-rank.invariant
    c.in_ok-by_rank.ensures
    (sym c.if-is_some-2.ensures)

pub returns-then-is_some-2 : goal.returns-then-is_some-2
returns-then-is_some-2 c =
    let r = c.args.report.now in
    let tests = tests_by c.args.ops.now r in
    let past : length r.shards ≤ c.loop-shard.shard =
    omega (arith, c.requires.fits.each_shard, c.loop-shard-test.false, ap (λ p. p.geom.shards) c.place.view_is) in
    let low : c.loop-rank.rank < length r.done =
    omega (
      arith,
      c.requires.fits.each_rank,
      c.loop-rank-test.true,
      c.len-rank-end.ensures,
      ap
          (λ p. length p.paths) c.place.view_is,
      c.place.inside.paths.ok.0,
    ) in
    then_first (each (length r.shards) (tests_on c.args.place.now r)) (each (length r.done) tests) c.in_ok-by_rank.by_rank
    (λ i less. c.loop-shard.invariant i (omega arith))
    (each_first tests (length r.done) c.loop-rank.rank c.in_ok-by_rank.by_rank low c.loop-rank.invariant c.in_ok-by_rank.ensures
    (sym c.if-is_some-2.ensures))

pub returns : goal.returns
returns c =
    let r = c.args.report.now in
    let past : length r.shards ≤ c.loop-shard.shard =
    omega (arith, c.requires.fits.each_shard, c.loop-shard-test.false, ap (λ p. p.geom.shards) c.place.view_is) in
    let beyond : length r.done ≤ c.loop-rank.rank =
    omega (
      arith,
      c.requires.fits.each_rank,
      c.loop-rank-test.false,
      c.len-rank-end.ensures,
      ap
          (λ p. length p.paths) c.place.view_is,
      c.place.inside.paths.ok.0,
    ) in
    ((λ i less. c.loop-shard.invariant i (omega arith)), (λ i less. c.loop-rank.invariant i (omega arith)))
