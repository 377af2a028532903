-- One word more; its home is that of the core.
use Rattle.std.proofs.Common.{◌≡◌, ◌<◌, ◌++◌, length, ap, sym, subst, ◌∙◌, arith}
use Rattle.std.specs.Prelude.{flat_map, slice_index}
use Rattle.std.specs.List.{range_with_len}
use Rattle.rl_text.specs.Spelling.{text_of}
use Rattle.rl_step.specs.Core.{CoreTable}
use Rattle.rl_names.specs.Names.{name_of}
use Rattle.rl_shown.specs.State.{word_lines}
use Rattle.rl_shown.proofs.TellingLaws.{lines_more}
use Rattle.rl_shown.proofs.words.put_words_of.Goals as goal

pub home-node-requires : goal.home-node-requires
home-node-requires g c =
    let low : c.loop-word.word < (g.C.ShardCore.says c.args.core.now).table.core.size = (let test = c.loop-word-test.true in let sized = c.requires.sized in let all = c.requires.all in let many = c.words.ensures in omega arith) in
    subst (λ (T : CoreTable _). c.loop-word.word < T.size) (g.met.C.ShardCore.same_table c.args.core.now) low

pub loop-word-preserved : goal.loop-word-preserved
loop-word-preserved g c =
    let T = (g.C.ShardCore.says c.args.core.now).table in
    let w = c.loop-word.word in
    let naming = c.args.naming.now in
    let shard = c.args.shard in
    let map = c.args.map.now in
    let words = c.args.words.now.words in
    let out = c.loop-word.out.items in
    let home = c.home-node.ensures ∙ ap (λ (t : CoreTable _). t.home w) (sym (g.met.C.ShardCore.same_table c.args.core.now)) in
    lines_more (λ w. word_lines naming shard (T.core.home w) (name_of map w) (slice_index words w)) c.args.out.now.items out c.put_told.new.out.items w c.loop-word.invariant
    (c.in_ok-put_told.ensures
    ∙ ap (λ n. out ++ text_of (word_lines naming shard n c.name_of.result c.value.result)) home
    ∙ ap (λ n. out ++ text_of (word_lines naming shard (T.core.home w) n c.value.result)) c.name_of.ensures.name
    ∙ ap (λ v. out ++ text_of (word_lines naming shard (T.core.home w) (name_of map w) v)) c.value.ensures)

pub returns : goal.returns
returns g c =
    let T = (g.C.ShardCore.says c.args.core.now).table in
    let done : c.loop-word.word ≡ length c.args.words.now.words = omega arith in
    c.loop-word.invariant ∙ ap (λ n. c.args.out.now.items ++ text_of (flat_map (λ w. word_lines c.args.naming.now c.args.shard (T.core.home w) (name_of c.args.map.now w) (slice_index c.args.words.now.words w)) (range_with_len 0 n))) done
