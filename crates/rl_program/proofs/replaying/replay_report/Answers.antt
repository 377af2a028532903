use Rattle.rl_program.proofs.ReplayReports.{legal_ok}
use Rattle.rl_program.proofs.replaying.replay_report.Goals as goal

pub returns-clause-legal : goal.returns-clause-legal
returns-clause-legal c = legal_ok c.report_laws.ensures.replays c.args.place.now c.args.ops c.requires.proper c.requires.calls c.over_lock.result c.over_lock.ensures.2
