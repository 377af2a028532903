use Rattle.std.proofs.Common.{ap}
use Rattle.rl_inputs.proofs.TellingLaws.{done_is}
use Rattle.rl_program.specs.Command.{without_runs}
use Rattle.rl_program.proofs.AnswerLemmas.{answered_as}
use Rattle.rl_program.proofs.threadless.offline.Goals as goal

pub returns-clause-done : goal.returns-clause-done
returns-clause-done g c =
    let said = c.answer_alone.ensures in
    let told = c.tell.ensures in
    done_is _ _ _ _ _ _ _ _ _ _ _ _ _ (answered_as _ _ _ _ (ap without_runs c.form_of_words.ensures.asked) said.answered) said.status said.faults
    told.told told.write_fault told.write_quiet
