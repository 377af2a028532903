use Rattle.std.proofs.Common.{length, ap, ◌∙◌, arith}
use Rattle.rl_machine.specs.Running.{running}
use Rattle.rl_reporting.specs.Reported.{queue_count}
use Rattle.rl_making.specs.Summary.{all_done}
use Rattle.rl_making.proofs.CountLaws.{each_told, counts_are}
use Rattle.rl_making.proofs.counts.counts_of_machine.Goals as goal

pub all_done-requires : goal.all_done-requires
all_done-requires g c =
    let m = running g.C.ShardCore.says c.args.machine.now in
    let told = ap length (c.as_slice.ensures.value ∙ c.in_ok-done.ensures) ∙ each_told m 0 c.args.machine.now.calls in
    omega (arith, told, c.requires.ranks, c.requires.proper.most_ranks)

pub returns : goal.returns
returns g c =
    let m = running g.C.ShardCore.says c.args.machine.now in
    counts_are m (queue_count c.args.place.now) c.soundness.ensures.sound _ _ _ c.in_ok-all_shards.ensures
    (c.all_done.ensures ∙ ap all_done (c.as_slice.ensures.value ∙ c.in_ok-done.ensures)) c.steps.ensures
