use Rattle.std.proofs.Common.{sym, ◌∙◌}
use Rattle.rl_ops.proofs.RankLemmas.{lists_from-nil}
use Rattle.rl_making.specs.Generate.{drawn_calls, dealt, sized}
use Rattle.rl_making.proofs.DealtLaws.{next-state, next-dealt, next-sized, next-lists, ranks-there}
use Rattle.rl_making.proofs.generating.ops_of.Goals as goal

pub loop-index-init : goal.loop-index-init
loop-index-init c = record {
  state = c.new-generator.ensures;
  calls = c.in_ok-by_rank.ensures ∙ sym (lists_from-nil 0 c.args.ranks);
  sizes = c.in_ok-sizes.ensures ∙ sym (lists_from-nil 0 c.args.ranks);
}

pub push-requires : goal.push-requires
push-requires c = ranks-there c.args.ranks c.loop-index.index _ _ c.requires c.loop-index.invariant.calls

pub push-requires-in-loop-index : goal.push-requires-in-loop-index
push-requires-in-loop-index c = ranks-there c.args.ranks c.loop-index.index _ _ c.requires c.loop-index.invariant.sizes

pub loop-index-preserved : goal.loop-index-preserved
loop-index-preserved c =
    let so_far = c.loop-index.invariant in
    let index = c.loop-index.index in
    let ranks = c.args.ranks in
    let told = dealt ranks (drawn_calls c.args.number index).0 in
    let more = next-dealt c.args.number ranks index c.loop-index.generator.state c.call_of.new.generator.state c.call_of.result so_far.state c.call_of.ensures in
    record {
      state = next-state c.args.number index c.loop-index.generator.state c.call_of.new.generator.state c.call_of.result so_far.state c.call_of.ensures;
      calls = next-lists ranks _ c.call_of.result told _ _ _ so_far.calls c.in_ok-push.ensures.ok more;
      sizes = next-lists ranks _ 1 (sized told) _ _ _ so_far.sizes c.in_ok-push-2.ensures.ok (next-sized told _ _ c.call_of.result more);
    }
