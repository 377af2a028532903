use Rattle.std.proofs.Common.{◌≡◌, length, refl, ◌∙◌, ap, arith}
use Rattle.rl_check.specs.Entries.{updates_before}
use Rattle.rl_check.specs.Shards.{entry_tests}
use Rattle.rl_check.specs.Tests.{at_place}
use Rattle.rl_check.proofs.EntryTests.{counted_on}
use Rattle.rl_check.proofs.TestLaws.{pass_more}
use Rattle.rl_check.proofs.entries.first_fault.Goals as goal

pub returns-in-Some : goal.returns-in-Some
returns-in-Some c = (c.loop-place.place, c.loop-place-test.true, c.loop-place.invariant.good, (refl, c.in-Some.ensures))

pub loop-place-preserved : goal.loop-place-preserved
loop-place-preserved c =
    record {
      good = pass_more (λ p. at_place p (entry_tests c.args.geom c.args.shard c.args.entries.now p)) c.loop-place.place
          c.loop-place.invariant.good c.in_default.ensures;
      counted = counted_on c.args.entries.now c.loop-place.place _ c.loop-place.updates _ _ c.loop-place-test.true c.loop-place.invariant.counted c.from-updates.ensures c.is_update.ensures;
    }

pub returns : goal.returns
returns c =
    let whole : c.loop-place.place ≡ length c.args.entries.now = omega arith in
    ((λ q h. c.loop-place.invariant.good q (omega arith)), c.loop-place.invariant.counted ∙ ap (updates_before c.args.entries.now) whole)
