use Rattle.std.proofs.Common.{◌<◌, ap, ◌∙◌, arith, length, refl}
use Rattle.std.proofs.Common.{Some, None, subst, slice_index}
use Rattle.rl_check.specs.Shards.{shard_tests}
use Rattle.rl_check.specs.Tests.{IsFirstOf}
use Rattle.std.specs.Option.{is_some}
use Rattle.rl_check.proofs.ReportFacts.{part_there, part_fits, first_on}
use Rattle.rl_check.proofs.shards.check_shard.Goals as goal

pub fault_of-requires-clause-fits : goal.fault_of-requires-clause-fits
fault_of-requires-clause-fits c =
    let r = c.args.report.now in
    let low : c.args.shard < length r.shards = omega (arith, c.requires.there, c.requires.fits.each_shard) in
    part_fits _ r c.requires.fits _ (c.is_some.ensures ∙ ap (λ z. is_some z.steps) c.report.view_is) c.args.shard _
    (part_there r.shards _ (ap (λ z. z.shards) c.report.view_is) c.args.shard _ low c.index-part.ensures)

pub returns-in-Some : goal.returns-in-Some
returns-in-Some c =
    let r = c.args.report.now in
    let low : c.args.shard < length r.shards = omega (arith, c.requires.there, c.requires.fits.each_shard) in
    let homes : c.args.shard < length c.args.place.now.homes = omega (arith, c.requires.there, c.requires.proper.each_shard) in
    let tests = shard_tests c.args.place.now c.is_some.result c.args.shard
    (slice_index c.args.place.now.homes c.args.shard) c.index-part.result.now in (
      refl,
      first_on c.args.place.now r c.args.shard _ _ (c.is_some.ensures ∙ ap (λ z. is_some z.steps) c.report.view_is)
          (part_there r.shards _ (ap (λ z. z.shards) c.report.view_is) c.args.shard _ low c.index-part.ensures) homes (Some c.in-Some.fault)
          (subst (IsFirstOf tests) c.in-Some.is c.in_ok-fault.ensures),
    )

pub returns-in-None : goal.returns-in-None
returns-in-None c =
    let r = c.args.report.now in
    let low : c.args.shard < length r.shards = omega (arith, c.requires.there, c.requires.fits.each_shard) in
    let homes : c.args.shard < length c.args.place.now.homes = omega (arith, c.requires.there, c.requires.proper.each_shard) in
    let tests = shard_tests c.args.place.now c.is_some.result c.args.shard
    (slice_index c.args.place.now.homes c.args.shard) c.index-part.result.now in
    first_on c.args.place.now r c.args.shard _ _ (c.is_some.ensures ∙ ap (λ z. is_some z.steps) c.report.view_is)
    (part_there r.shards _ (ap (λ z. z.shards) c.report.view_is) c.args.shard _ low c.index-part.ensures) homes None
    (subst (IsFirstOf tests) c.in-None.is c.in_ok-fault.ensures)
