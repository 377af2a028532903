use Rattle.rl_inputs.specs.Done.{WasAnswered}
use Rattle.rl_inputs.proofs.ReadLemmas.{ended}
use Rattle.rl_program.proofs.AnswerLemmas.{check_answered, check_stopped, check_wants}
use Rattle.rl_program.proofs.checking.answer_check.Goals as goal

pub returns-in_err-read-clause-answered : goal.returns-in_err-read-clause-answered
returns-in_err-read-clause-answered g c = ended (WasAnswered _ _ _) _ _ c.from_residual.ensures.1 (check_stopped _ _ _ c.in_err-read.ensures.read)

pub returns-in_err-found-clause-answered : goal.returns-in_err-found-clause-answered
returns-in_err-found-clause-answered g c = ended (WasAnswered _ _ _) _ _ c.from_residual-in_err-found.ensures.1 (check_wants _ _ _ c.in_ok-read.ensures.read)

pub returns-in_err-verdict-clause-answered : goal.returns-in_err-verdict-clause-answered
returns-in_err-verdict-clause-answered g c = ended (WasAnswered _ _ _) _ _ c.from_residual-in_err-verdict.ensures.1 (check_wants _ _ _ c.in_ok-read.ensures.read)

pub returns-clause-answered : goal.returns-clause-answered
returns-clause-answered g c = check_answered _ _ _ _ _ c.in_ok-read.ensures.read c.in_ok-found.ensures c.in_ok-verdict.ensures
