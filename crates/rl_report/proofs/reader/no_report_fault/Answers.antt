use Rattle.rl_report.specs.Naming.{naming_of}
use Rattle.rl_report.proofs.NamingLaws.{is_naming}
use Rattle.rl_report.proofs.ReportLaws.{no_fault, one_report}
use Rattle.rl_report.proofs.reader.no_report_fault.Goals as goal

pub returns-clause-spelled : goal.returns-clause-spelled
returns-clause-spelled c = λ place proper text. no_fault (naming_of place) (is_naming place proper) text

pub returns-clause-one : goal.returns-clause-one
returns-clause-one c = λ place proper text a b first second. one_report (naming_of place) (is_naming place proper) text a b first.0 second.0 first.1 second.1
