use Rattle.rl_report.specs.Naming.{naming_of}
use Rattle.rl_report.proofs.NamingLaws.{is_naming}
use Rattle.rl_report.proofs.ReportLaws.{printed-again}
use Rattle.rl_report.proofs.printer.report_text.Goals as goal

pub returns-clause-again : goal.returns-clause-again
returns-clause-again c = λ fit. printed-again (naming_of c.args.place.now) (is_naming c.args.place.now c.requires) c.args.report.now c.printed.result (λ text. text.items) c.printed.ensures fit
