-- The block is opened, the atom told, and the step made; what is appended is what the definition says of the step.
use Rattle.std.proofs.Common.{◌∙◌}
use Rattle.rl_machine.specs.Running.{running}
use Rattle.rl_names.proofs.StepLaws.{new_is, step_text}
use Rattle.rl_names.proofs.stepping.put_step.Goals as goal

pub returns-clause-text : goal.returns-clause-text
returns-clause-text g c =
    let m = running g.C.ShardCore.says c.args.machine.now in
    let n = running g.C.ShardCore.says c.open_next.new.self in
    let last = running g.C.ShardCore.says c.step.new.self in
    let opened = c.open_next.ensures.opened in
    let told = c.in_ok-answer.ensures.answer ∙ c.open_next.ensures.same_answer in
    let made = c.in_ok-answer.ensures.stepped ∙ c.open_next.ensures.same_step in
    let new = new_is c.args.place.now c.args.naming.now m n last c.args.rank c.place.result c.place-2.result c.in_ok-answer.answer
    c.events-before.result.now c.events-events.result.now c.events_from.result.now opened made c.place.ensures.place c.place-2.ensures.place c.events-before.ensures c.events-events.ensures c.events_from.ensures in
    step_text c.args.place.now c.args.naming.now m n last c.args.rank c.place.result c.place-2.result c.in_ok-answer.answer
    c.args.out.now.items c.put_made.new.out.items c.put_answer.new.out.items c.put_events.new.out.items c.events_from.result.now opened told new
    c.in_ok-put_made.ensures c.in_ok-put_answer.ensures c.in_ok-put_events.ensures
