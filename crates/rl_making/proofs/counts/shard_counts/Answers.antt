use Rattle.std.proofs.Common.{ap, ◌∙◌, count_by, arith}
use Rattle.std.proofs.lemmas.List.{length-map}
use Rattle.rl_machine.specs.Running.{running, shard_run}
use Rattle.rl_making.specs.Summary.{is_settle, is_pass}
use Rattle.rl_making.proofs.CountLaws.{counts_there}
use Rattle.rl_making.proofs.counts.shard_counts.Goals as goal

pub returns : goal.returns
returns g c =
    let m = running g.C.ShardCore.says c.args.machine.now in
    let shards = length-map c.args.machine.now.shards (shard_run g.C.ShardCore.says) in
    counts_there m c.args.shard (omega (arith, shards)) _ _ _ _ c.updates.ensures c.reads_of.ensures
    (c.settled_of.ensures ∙ ap (count_by (λ event. is_settle event.1)) c.events-events.ensures) (c.passed_of.ensures ∙ ap (count_by (λ event. is_pass event.1)) c.events-events.ensures)
