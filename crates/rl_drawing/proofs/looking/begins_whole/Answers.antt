use Rattle.std.proofs.Common.{◌<◌, ◌≤◌, [], length, sym, ap, ◌∙◌, arith}
use Rattle.rl_drawing.specs.Sights.{begins_whole}
use Rattle.rl_drawing.proofs.Texts.{begins_front, begins_not, ends_empty, ends_byte}
use Rattle.rl_drawing.proofs.looking.begins_whole.Goals as goal

pub returns-in-Some-empty : goal.returns-in-Some-empty
returns-in-Some-empty c =
    let found = c.in-Some-empty.ensures.cases in
    let rest = c.in-Some-empty.field-0.now in
    let none : length rest < 1 = omega arith in
    sym (begins_front c.args.sought.now c.args.text.now found.0 ∙ ap (begins_whole []) (sym found.1) ∙ ends_empty rest none)

pub returns-in-Some-len1-up : goal.returns-in-Some-len1-up
returns-in-Some-len1-up c =
    let found = c.in-Some-len1-up.ensures.cases in
    let rest = c.in-Some-len1-up.field-0.now in
    let some : 1 ≤ length rest = omega arith in
    sym (begins_front c.args.sought.now c.args.text.now found.0 ∙ ap (begins_whole []) (sym found.1) ∙ ends_byte rest some)

pub returns-in-None : goal.returns-in-None
returns-in-None c = sym (begins_not c.args.sought.now c.args.text.now c.in-None.ensures.cases)
