-- One more.
use Rattle.std.proofs.Common.{◌≡◌, ◌<◌, ◌∷◌, [], ◌++◌, map, take, length, Vec, Global, ap, sym, ◌∙◌, arith}
use Rattle.std.proofs.lemmas.List.{map-append}
use Rattle.rl_model.specs.declared.entry.Entry.{Entry}
use Rattle.std.proofs.Math.Seq.{take-length}
use Rattle.rl_core.specs.laws.Filling.{take_next}
use Rattle.rl_machine.specs.Promises.{transcripts_on}
use Rattle.rl_machine.specs.ShardSteps.{kept_on}
use Rattle.rl_machine.specs.State.{running_shard}
use Rattle.rl_machine.specs.laws.RecordLaws.{kept_among, kept_long}
use Rattle.rl_machine.proofs.records.transcripts.Goals as goal

pub loop-rank-preserved : goal.loop-rank-preserved
loop-rank-preserved g c =
    let rank = c.loop-rank.rank in
    let S = running_shard g.C.ShardCore.says c.args.shard.now in
    let all = transcripts_on S in
    let there : rank < length S.views = let r = c.requires.all in let t = c.loop-rank-test.true in omega arith in
    let told = c.in_ok-told.told in
    let entries = λ (v : Vec Entry Global). v.items in
    ap (map entries) c.in_ok-push.ensures.items ∙ map-append entries c.loop-rank.transcripts.items (told ∷ [])
    ∙ ap (λ ts. ts ++ told.items ∷ []) c.loop-rank.invariant ∙ ap (λ t. take rank all ++ t ∷ []) c.in_ok-told.ensures
    ∙ sym (take_next all rank (kept_on rank S) (kept_among S rank there))

pub returns : goal.returns
returns g c =
    let s = c.args.shard.now in
    let all = transcripts_on (running_shard g.C.ShardCore.says s) in
    let long : c.loop-rank.rank ≡ length all = (let l = kept_long (g.C.ShardCore.says s.core).table s.flat.words.words 0 s.flat.views.items in let r = c.requires.all in omega arith) in
    c.loop-rank.invariant ∙ ap (λ n. take n all) long ∙ take-length all
