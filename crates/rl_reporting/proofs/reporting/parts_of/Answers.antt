use Rattle.std.proofs.Common.{◌≡◌, ◌<◌, [], ◌∷◌, ◌++◌, length, map, slice_get, take, Some, ap, sym, ◌∙◌, arith}
use Rattle.std.proofs.lemmas.List.{length-map, take_more}
use Rattle.std.proofs.lemmas.Option.{slice_get-get_or, slice_get_within, get_or_from_slice_get}
use Rattle.rl_machine.specs.Running.{running, shard_run}
use Rattle.rl_reporting.specs.Reported.{part_of_replay}
use Rattle.rl_reporting.specs.laws.ReportLaws.{told_shards, told_there}
use Rattle.rl_reporting.proofs.reporting.parts_of.Goals as goal

pub part_of-requires-clause-told : goal.part_of-requires-clause-told
part_of-requires-clause-told g c =
    let m = running g.C.ShardCore.says c.args.machine.now in
    let told = c.args.told.now in
    let i = c.loop-shard.shard in
    let shards = length-map c.args.machine.now.shards (shard_run g.C.ShardCore.says) in
    let low : i < length told = omega (arith, told_shards m told c.requires.told, c.loop-shard-test.true, c.requires.shards, shards) in
    let get : slice_get told i ≡ Some c.index-told-shard.result = slice_get-get_or told i c.index-told-shard.result low ∙ ap Some (sym c.index-told-shard.is) in
    ap (map (λ t. t.items)) c.as_slice-transcripts.ensures.value ∙ told_there m told c.requires.told i c.index-told-shard.result get

pub loop-shard-preserved : goal.loop-shard-preserved
loop-shard-preserved g c =
    let parts = map (part_of_replay c.args.queues) (running g.C.ShardCore.says c.args.machine.now).shards in
    let i = c.loop-shard.shard in
    let part = c.in_ok-part_of.field-0 in
    c.in_ok-push.ensures.items ∙ ap (λ l. l ++ part ∷ []) c.loop-shard.invariant
    ∙ ap (λ x. take i parts ++ x ∷ []) (sym (get_or_from_slice_get parts i part part c.in_ok-part_of.ensures))
    ∙ sym (take_more parts i part (slice_get_within parts i part c.in_ok-part_of.ensures))
