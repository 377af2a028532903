use Rattle.std.proofs.Common.{◌≡◌, ap, subst, arith, List, length, Some, None, Ok, inl}
use Rattle.rl_check.specs.Legal.{tests_on, tests_by}
use Rattle.rl_check.specs.Tests.{IsFirstOf, each}
use Rattle.rl_check.specs.Threads.{Found, something, answer_tests}
use Rattle.rl_check.proofs.TestLaws.{then_found}
use Rattle.rl_check.proofs.ThreadLaws.{answered}
use Rattle.rl_check.proofs.threads.check_all.Goals as goal

pub returns-in-Some : goal.returns-in-Some
returns-in-Some g c =
    let r = c.args.report.now in
    inl (answered (tests_on c.args.place.now r) c.args.place.now.geom.shards c.in_ok-shards.shards.items c.in_ok-shards.ensures
    (length r.shards) c.requires.fits.each_shard (Ok (Some c.in-Some.fault))
    (subst (λ (z : List Found). IsFirstOf (answer_tests z) (Some (Ok (Some c.in-Some.fault)))) c.as_slice.ensures.value
    (subst (λ o. IsFirstOf (answer_tests c.as_slice.result.now) (something (Ok o))) c.in-Some.is c.in_ok-fault.ensures)))

pub returns : goal.returns
returns g c =
    let r = c.args.report.now in
    let ranks : length r.done ≡ c.len.result =
    omega (arith, c.requires.fits.each_rank, c.len.ensures, ap (λ p. length p.paths) c.place.view_is, c.place.inside.paths.ok.0) in
    then_found (each (length r.shards) (tests_on c.args.place.now r)) (each (length r.done) (tests_by c.args.ops.now r)) c.first-2.result
    (answered (tests_on c.args.place.now r) c.args.place.now.geom.shards c.in_ok-shards.shards.items c.in_ok-shards.ensures
    (length r.shards) c.requires.fits.each_shard (Ok None)
    (subst (λ (z : List Found). IsFirstOf (answer_tests z) None) c.as_slice.ensures.value
    (subst (λ o. IsFirstOf (answer_tests c.as_slice.result.now) (something (Ok o))) c.in_default.is c.in_ok-fault.ensures)))
    (answered (tests_by c.args.ops.now r) c.len.result c.in_ok-ranks.ranks.items c.in_ok-ranks.ensures
    (length r.done) ranks c.first-2.result
    (subst (λ (z : List Found). IsFirstOf (answer_tests z) (something c.first-2.result)) c.as_slice-2.ensures.value c.first-2.ensures))
