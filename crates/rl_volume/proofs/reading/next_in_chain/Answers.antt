use Rattle.std.proofs.Common.{◌≡◌, ◌∙◌, ap, sym, Some, None}
use Rattle.rl_volume.specs.Seen.{value_of}
use Rattle.rl_volume.specs.Words.{cell_key_word, link_word}
use Rattle.rl_volume.proofs.WalkLaws.{key_found, key_passed}
use Rattle.rl_volume.proofs.reading.next_in_chain.Goals as goal

pub returns-then-there-key : goal.returns-then-there-key
returns-then-there-key c =
    let pairs = c.args.seen.now.pairs in
    let read : value_of pairs (cell_key_word c.args.geom c.in-Some.cell) ≡ Some c.in-Some-value_at.there = ap (value_of pairs) (sym c.cell_key_word.ensures) ∙ sym c.in-Some-value_at.ensures in
    c.next_in_cell.ensures
    ∙ sym (c.loop-passed.invariant ∙ key_found c.args.geom c.args.call c.args.key c.loop-passed.link c.loop-passed.passed c.in-Some.cell pairs c.loop-passed-test.true (sym c.in-Some.ensures.cell) c.in-Some-value_at.there read c.if-there-key.true)

pub returns-in_default-value_at-2 : goal.returns-in_default-value_at-2
returns-in_default-value_at-2 c =
    let pairs = c.args.seen.now.pairs in
    let read : value_of pairs (cell_key_word c.args.geom c.in-Some.cell) ≡ Some c.in-Some-value_at.there = ap (value_of pairs) (sym c.cell_key_word.ensures) ∙ sym c.in-Some-value_at.ensures in
    let none : value_of pairs (link_word c.args.geom c.in-Some.cell) ≡ None = ap (value_of pairs) (sym c.link_word.ensures) ∙ sym c.value_at-in-loop-passed.ensures ∙ c.in_default-value_at-2.is in
    ap Some c.link_word-in_default-value_at-2.ensures
    ∙ sym (c.loop-passed.invariant ∙ key_passed c.args.geom c.args.call c.args.key c.loop-passed.link c.loop-passed.passed c.in-Some.cell pairs c.loop-passed-test.true (sym c.in-Some.ensures.cell) c.in-Some-value_at.there read c.if-there-key.false None none)

pub loop-passed-preserved : goal.loop-passed-preserved
loop-passed-preserved c =
    let pairs = c.args.seen.now.pairs in
    let read : value_of pairs (cell_key_word c.args.geom c.in-Some.cell) ≡ Some c.in-Some-value_at.there = ap (value_of pairs) (sym c.cell_key_word.ensures) ∙ sym c.in-Some-value_at.ensures in
    let next : value_of pairs (link_word c.args.geom c.in-Some.cell) ≡ Some c.in-Some-value_at-2.next = ap (value_of pairs) (sym c.link_word.ensures) ∙ sym c.in-Some-value_at-2.ensures in
    c.loop-passed.invariant
    ∙ key_passed c.args.geom c.args.call c.args.key c.loop-passed.link c.loop-passed.passed c.in-Some.cell pairs c.loop-passed-test.true (sym c.in-Some.ensures.cell) c.in-Some-value_at.there read c.if-there-key.false (Some c.in-Some-value_at-2.next) next
