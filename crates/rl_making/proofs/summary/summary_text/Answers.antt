use Rattle.std.proofs.Common.{ap, ◌∙◌}
use Rattle.rl_making.specs.Summary.{TheCounts}
use Rattle.rl_making.proofs.SummaryLaws.{summary-printed}
use Rattle.rl_making.proofs.summary.summary_text.Goals as goal

pub returns : goal.returns
returns c =
    let counts = c.args.counts.now in
    let shards = c.as_slice.ensures.value ∙ ap (λ (n : TheCounts). n.shards) c.counts.view_is in
    let done = ap (λ (n : TheCounts). n.done) c.counts.view_is in
    let steps = ap (λ (n : TheCounts). n.steps) c.counts.view_is in
    summary-printed c.args.ranks c.args.calls _ counts _ _ _ _ _ _ _ shards done steps c.in_ok-out.ensures.items c.in_ok-put_sizes.ensures c.in_ok-put_shards.ensures c.in_ok-put_done.ensures c.in_ok-put_end.ensures.puts
