use Rattle.std.proofs.Common.{◌≡◌, count_by, Bool, ap, ◌∙◌, arith}
use Rattle.std.proofs.lemmas.List.{length-map}
use Rattle.rl_model.specs.declared.entry.Entry.{Entry}
use Rattle.rl_machine.specs.Running.{running, shard_run}
use Rattle.rl_making.specs.Summary.{is_get}
use Rattle.rl_making.proofs.CountLaws.{few_gets, gets_more, gets_of_all}
use Rattle.rl_making.proofs.counts.reads_of.Goals as goal

abbrev gets : Entry → Bool
gets entry = is_get entry.call

pub overflow_add-reads : goal.overflow_add-reads
overflow_add-reads g c =
    let m = running g.C.ShardCore.says c.args.machine.now in
    let here : c.gets_of-reads.result ≡ count_by gets c.transcript.result.now = c.gets_of-reads.ensures in
    let same = ap (count_by gets) c.transcript.ensures in
    let few = few_gets m c.args.shard gets c.loop-rank.rank (omega arith) c.soundness.ensures.sound c.requires.small in
    omega (arith, here, same, few)

pub loop-rank-preserved : goal.loop-rank-preserved
loop-rank-preserved g c =
    let m = running g.C.ShardCore.says c.args.machine.now in
    let here : c.gets_of-reads.result ≡ count_by gets c.transcript.result.now = c.gets_of-reads.ensures in
    let same = ap (count_by gets) c.transcript.ensures in
    let few = few_gets m c.args.shard gets c.loop-rank.rank (omega arith) c.soundness.ensures.sound c.requires.small in
    let shards = length-map c.args.machine.now.shards (shard_run g.C.ShardCore.says) in
    let more = gets_more m c.args.shard (omega (arith, shards)) gets c.loop-rank.rank in
    record { counted = omega (arith, here, same, more); few = omega (arith, here, same, few) }

pub returns : goal.returns
returns g c =
    let m = running g.C.ShardCore.says c.args.machine.now in
    let shards = length-map c.args.machine.now.shards (shard_run g.C.ShardCore.says) in
    c.loop-rank.invariant.counted ∙ gets_of_all m c.args.shard (omega (arith, shards)) gets c.loop-rank.rank (omega arith) c.requires.small
