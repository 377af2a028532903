-- One shard more.
use Rattle.std.proofs.Common.{◌≡◌, ◌<◌, Some, length, slice_get, ap, sym, ◌∙◌, arith}
use Rattle.std.proofs.lemmas.List.{length-map}
use Rattle.std.proofs.lemmas.Option.{slice_get-get_or}
use Rattle.rl_machine.specs.Running.{running, shard_run}
use Rattle.rl_shown.specs.State.{lines_of_shard}
use Rattle.rl_shown.proofs.CoresLaws.{core_at, as_many}
use Rattle.rl_shown.proofs.TellingLaws.{lines_more}
use Rattle.rl_shown.proofs.words.put_words.Goals as goal

pub bounds-cores-shard : goal.bounds-cores-shard
bounds-cores-shard g c =
    let m = running g.C.ShardCore.says c.args.machine.now in
    let many = as_many g.C.ShardCore.says c.args.cores.now m c.requires.cores in
    let all = length-map c.args.machine.now.shards (shard_run g.C.ShardCore.says) in
    omega arith

pub put_shard-requires-clause-core : goal.put_shard-requires-clause-core
put_shard-requires-clause-core g c =
    let m = running g.C.ShardCore.says c.args.machine.now in
    let many = as_many g.C.ShardCore.says c.args.cores.now m c.requires.cores in
    let all = length-map c.args.machine.now.shards (shard_run g.C.ShardCore.says) in
    let low : c.loop-shard.shard < length c.args.cores.now = omega arith in
    let at : slice_get c.args.cores.now c.loop-shard.shard ≡ Some c.index-cores-shard.result = slice_get-get_or c.args.cores.now c.loop-shard.shard c.index-cores-shard.result low ∙ ap Some (sym c.index-cores-shard.is) in
    core_at g.C.ShardCore.says c.args.cores.now m c.loop-shard.shard c.index-cores-shard.result c.requires.cores at

pub loop-shard-preserved : goal.loop-shard-preserved
loop-shard-preserved g c =
    lines_more (lines_of_shard c.args.place.now c.args.naming.now (running g.C.ShardCore.says c.args.machine.now)) c.args.out.now.items c.loop-shard.out.items c.put_shard.new.out.items c.loop-shard.shard c.loop-shard.invariant c.in_ok-put_shard.ensures
