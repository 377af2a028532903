use Rattle.rl_inputs.proofs.TellingLaws.{done_is}
use Rattle.rl_program.proofs.AnswerLemmas.{answered_as}
use Rattle.rl_program.proofs.program.rmalock.Goals as goal

pub returns-clause-done : goal.returns-clause-done
returns-clause-done g c =
    let said = c.answer_in_threads.ensures in
    let told = c.tell.ensures in
    done_is _ _ _ _ _ _ _ _ _ _ _ _ _ (answered_as _ _ _ _ c.form_of_words.ensures.asked said.answered) said.status said.faults
    told.told told.write_fault told.write_quiet
