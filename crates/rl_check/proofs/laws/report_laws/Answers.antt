-- Each law of a report, by its proof.
use Rattle.rl_check.proofs.LawfulReports.{is_legal, replay_is_legal}
use Rattle.rl_check.proofs.LegalReports.{is_lawful, replay_is_lawful}
use Rattle.rl_check.proofs.laws.report_laws.Goals as goal

pub returns : goal.returns
returns c =
    record {
      legal = λ place ops report proper calls fits of_run. ((λ legal. is_lawful place ops report proper calls fits of_run legal), (λ lawful. is_legal place ops report calls lawful));
      replays = λ place ops report proper calls fits of_replay. ((λ legal. replay_is_lawful place ops report proper calls fits of_replay legal), (λ lawful. replay_is_legal place ops report calls lawful));
    }
