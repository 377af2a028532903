use Rattle.std.proofs.Common.{◌≤◌, length, sym, ap, ◌∙◌}
use Rattle.std.proofs.lemmas.List.{at_drop_all}
use Rattle.rl_drawing.specs.Sights.{begins_whole, stands_in}
use Rattle.rl_drawing.proofs.Texts.{stands_on, rest_is}
use Rattle.rl_drawing.proofs.looking.stands_in.Goals as goal

pub loop-first-preserved : goal.loop-first-preserved
loop-first-preserved c =
    c.loop-first.invariant ∙ stands_on c.args.sought.now c.args.text.now c.loop-first.first c.loop-first-test.true
    (ap (begins_whole c.args.sought.now) (sym (rest_is c.loop-first.first c.args.text.now)) ∙ sym c.begins_whole.ensures ∙ c.if-begins_whole.false)

pub returns : goal.returns
returns c =
    let sought = c.args.sought.now in
    let all : length c.args.text.now ≤ c.loop-first.first = c.loop-first-test.false in
    c.begins_whole-2.ensures ∙ sym (c.loop-first.invariant ∙ at_drop_all (stands_in sought) c.args.text.now c.loop-first.first all)
