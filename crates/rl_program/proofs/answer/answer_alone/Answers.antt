-- No file is named where the words are no form, or ask for what is made.
use Rattle.std.proofs.Common.{Some, ap, sym, ◌∙◌}
use Rattle.std.specs.Option.{option_map}
use Rattle.rl_program.specs.Command.{asked, without_runs}
use Rattle.rl_program.proofs.AnswerLemmas.{formless, was_made}
use Rattle.rl_program.proofs.answer.answer_alone.Goals as goal

pub returns-in-Some-Run-clause-answered : goal.returns-in-Some-Run-clause-answered
returns-in-Some-Run-clause-answered g c =
    let field = rw c.in-Some-Run.is at c.in-Some-Run.field-0-is in
    let same = ap (λ form. without_runs (Some (asked form))) (sym field) ∙ ap (λ form. without_runs (option_map asked form)) (sym c.in-Some-Run.is) in
    let said = c.usage.ensures in
    formless _ _ _ same said.answer said.memory

pub returns-in-Some-Make-clause-answered : goal.returns-in-Some-Make-clause-answered
returns-in-Some-Make-clause-answered g c =
    let field = rw c.in-Some-Make.is at c.in-Some-Make.field-0-is in
    let same = ap (λ form. without_runs (Some (asked form))) (sym field) ∙ ap (λ form. without_runs (option_map asked form)) (sym c.in-Some-Make.is) in
    let said = c.answer_make.ensures in
    was_made _ _ c.in-Some-Make.number c.in-Some-Make.ranks c.in-Some-Make.calls _ same said.answer said.memory

pub returns-in-None-clause-answered : goal.returns-in-None-clause-answered
returns-in-None-clause-answered g c =
    let same = ap (λ form. without_runs (option_map asked form)) (sym c.in-None.is) in
    let said = c.usage-in-None.ensures in
    formless _ _ _ same said.answer said.memory
