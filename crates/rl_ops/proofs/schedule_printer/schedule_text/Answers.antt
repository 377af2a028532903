use Rattle.rl_ops.proofs.ScheduleLaws.{is_printed}
use Rattle.rl_ops.proofs.schedule_printer.schedule_text.Goals as goal

pub returns-clause-again : goal.returns-clause-again
returns-clause-again c = is_printed (λ text. text.items) c.args.schedule.now c.printed.result c.printed.ensures
