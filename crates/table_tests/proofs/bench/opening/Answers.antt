use Rattle.std.proofs.Common.{◌≡◌, ◌∙◌, ◌+◌, ◌*◌, ◌++◌, ◌∷◌, [], ◌<◌, ◌≤◌, ap, sym, arith, length, replicate, take}
use Rattle.std.proofs.lemmas.List.{append_assoc, append-nil, replicate_more, take_all}
use Rattle.std.proofs.lemmas.Grind.{take_at_read}
use Rattle.rl_site.specs.Opens.{opening_words}
use Rattle.rl_site.specs.laws.OpeningLaws.{opening_size}
use Rattle.rl_site.specs.Site.{journal_base, places}
use Rattle.table_tests.proofs.bench.opening.Goals as goal

pub loop-word-preserved : goal.loop-word-preserved
loop-word-preserved c s is many =
    let words = opening_words s in
    let i = c.loop-word.word in
    let size : length words ≡ journal_base c.args.geom + 6 * c.args.updates = opening_size s ∙ ap (λ g. journal_base g + 6 * places s) is ∙ ap (λ n. journal_base c.args.geom + 6 * n) many in
    let below : i < length words = omega (arith, c.loop-word-test.true, c.journal_base.ensures, size) in
    c.in_ok-push.ensures.items ∙ ap (λ ws. ws ++ c.opening_word.result ∷ []) (c.loop-word.invariant s is many) ∙ ap (λ w. take i words ++ w ∷ []) (c.opening_word.ensures s is) ∙ sym (take_at_read words i 0 below).1

pub loop-init : goal.loop-init
loop-init c s is many =
    let words = opening_words s in
    let size : length words ≡ journal_base c.args.geom + 6 * c.args.updates = opening_size s ∙ ap (λ g. journal_base g + 6 * places s) is ∙ ap (λ n. journal_base c.args.geom + 6 * n) many in
    let past : length words ≤ c.loop-word.word = omega (arith, c.loop-word-test.false, c.journal_base.ensures, size) in
    c.loop-word.invariant s is many ∙ take_all c.loop-word.word words past ∙ sym (append-nil words)

pub loop-preserved : goal.loop-preserved
loop-preserved c s is many =
    let n = c.loop.counter in
    c.in_ok-push-2.ensures.items ∙ ap (λ ws. ws ++ 0 ∷ []) (c.loop.invariant s is many) ∙ append_assoc (opening_words s) (replicate n 0) (0 ∷ []) ∙ ap (λ ws. opening_words s ++ ws) (replicate_more n 0)
