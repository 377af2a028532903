-- One word more.
use Rattle.std.proofs.Common.{◌≡◌, ◌+◌, ◌<◌, slice_index, slice_set, replicate, ap, sym, ◌∙◌, arith, rules}
use Rattle.rl_site.specs.Site.{journal_base, lock_base}
use Rattle.rl_site.specs.Opens.{opening_words}
use Rattle.rl_core.specs.laws.Filling.{opened_none, opened_next, opened_all}
use Rattle.rl_core.proofs.opening.first_words.Goals as goal

pub loop-word-init : goal.loop-word-init
loop-word-init g c =
    let T = (g.C.ShardCore.says c.args.core.now).table in
    let zeros : c.in_ok-words.words.items ≡ replicate (c.lock_base-base.result + c.words.result) 0 = search rules in
    zeros ∙ opened_none T.site T.behind (c.lock_base-base.result + c.words.result) (let b = c.lock_base-base.ensures in let e = c.words.ensures in omega arith)

pub loop-word-preserved : goal.loop-word-preserved
loop-word-preserved g c =
    let T = (g.C.ShardCore.says c.args.core.now).table in
    let word = c.loop-word.word in
    let b : c.journal_base-word-end.result ≡ journal_base T.site.geom = c.journal_base-word-end.ensures ∙ ap journal_base c.geom-geom.ensures in
    let test = c.loop-word-test.true in
    let low : word < lock_base T.site = omega arith in
    let value : c.opening_word.result ≡ slice_index (opening_words T.site) word = c.opening_word.ensures T.site (sym c.geom-geom.ensures) in
    ap (λ w. slice_set w word c.opening_word.result) c.loop-word.invariant ∙ opened_next T.site T.behind word c.opening_word.result low value

pub returns : goal.returns
returns g c =
    let T = (g.C.ShardCore.says c.args.core.now).table in
    let b : c.journal_base-word-end.result ≡ journal_base T.site.geom = c.journal_base-word-end.ensures ∙ ap journal_base c.geom-geom.ensures in
    c.loop-word.invariant ∙ opened_all T.site T.behind c.loop-word.word (omega arith)
