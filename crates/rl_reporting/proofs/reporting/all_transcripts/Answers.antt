use Rattle.std.proofs.Common.{map, ap, ◌∙◌, arith}
use Rattle.std.proofs.lemmas.List.{length-map}
use Rattle.rl_machine.specs.Running.{running, shard_run}
use Rattle.rl_reporting.specs.Lists.{lists_in}
use Rattle.rl_reporting.specs.laws.ReportLaws.{told_more}
use Rattle.rl_reporting.proofs.reporting.all_transcripts.Goals as goal

pub loop-shard-preserved : goal.loop-shard-preserved
loop-shard-preserved g c =
    let m = running g.C.ShardCore.says c.args.machine.now in
    let shards = length-map c.args.machine.now.shards (shard_run g.C.ShardCore.says) in
    ap (map lists_in) c.in_ok-push.ensures.items
    ∙ told_more m c.loop-shard.told.items c.loop-shard.shard c.in_ok-transcripts.field-0 (omega (arith, shards)) c.loop-shard.invariant c.in_ok-transcripts.ensures
