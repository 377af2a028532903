use Rattle.rl_inputs.specs.Done.{WasAnswered}
use Rattle.rl_inputs.proofs.ReadLemmas.{ended}
use Rattle.rl_program.proofs.AnswerLemmas.{replay_answered, replay_stopped}
use Rattle.rl_program.proofs.answer.answer_replay.Goals as goal

pub returns-in_err-text-clause-answered : goal.returns-in_err-text-clause-answered
returns-in_err-text-clause-answered g c = ended (WasAnswered _ _ _) _ _ c.from_residual.ensures.1 (replay_stopped _ _ _ c.in_err-text.ensures.replayed)

pub returns-clause-answered : goal.returns-clause-answered
returns-clause-answered g c = replay_answered _ _ _ _ c.in_ok-text.ensures.replayed c.new.ensures
