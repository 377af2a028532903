use Rattle.rl_inputs.specs.Done.{WasAnswered}
use Rattle.rl_inputs.proofs.ReadLemmas.{ended}
use Rattle.rl_program.proofs.AnswerLemmas.{show_answered, show_stopped}
use Rattle.rl_program.proofs.answer.answer_show.Goals as goal

pub returns-in_err-text-clause-answered : goal.returns-in_err-text-clause-answered
returns-in_err-text-clause-answered g c = ended (WasAnswered _ _ _) _ _ c.from_residual.ensures.1 (show_stopped _ _ _ c.in_err-text.ensures.shown)

pub returns-clause-answered : goal.returns-clause-answered
returns-clause-answered g c = show_answered _ _ _ _ c.in_ok-text.ensures.shown c.new.ensures
