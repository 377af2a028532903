-- What was told is the answer that belongs to the words and the files.
use Rattle.std.proofs.Common.{inl, lit≤, refl, sym, ap, ◌∙◌}
use Rattle.std.specs.Option.{option_map}
use Rattle.rl_inputs.proofs.TellingLaws.{done_is}
use Rattle.rl_viewer.specs.Asking.{the_asked}
use Rattle.rl_viewer.proofs.AnswerLaws.{answered_as, usage_answered}
use Rattle.rl_viewer.proofs.program.answer_words.Goals as goal

pub returns-in_default-clause-done : goal.returns-in_default-clause-done
returns-in_default-clause-done g c =
    let told = c.tell_text.ensures in
    done_is _ _ _ _ _ _ _ _ _ _ _ _ _ (usage_answered _ g.P.Program.answers _ _ (ap (option_map the_asked) (sym c.in_default.is) ∙ c.asked_in.ensures.asked)) (inl (lit≤ tt)) refl
    told.told told.write_fault told.write_quiet

pub returns-clause-done : goal.returns-clause-done
returns-clause-done g c =
    let said = c.answer.ensures in
    let told = c.tell.ensures in
    done_is _ _ _ _ _ _ _ _ _ _ _ _ _ (answered_as _ g.P.Program.answers _ _ _ _ (ap (option_map the_asked) (sym c.in-Some.is) ∙ c.asked_in.ensures.asked) said.answered) said.status said.faults
    told.told told.write_fault told.write_quiet
