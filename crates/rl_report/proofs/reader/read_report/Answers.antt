use Rattle.rl_report.specs.Naming.{naming_of}
use Rattle.rl_report.proofs.NamingLaws.{is_naming}
use Rattle.rl_report.proofs.ReportLaws.{is_found, is_only}
use Rattle.rl_report.proofs.reader.read_report.Goals as goal

pub returns-clause-found : goal.returns-clause-found
returns-clause-found c = is_found (naming_of c.args.place.now) (is_naming c.args.place.now c.requires.proper) c.args.bytes.now c.report_of.result c.report_of.ensures

pub returns-clause-only : goal.returns-clause-only
returns-clause-only c = λ r text. is_only (naming_of c.args.place.now) (is_naming c.args.place.now c.requires.proper) c.args.bytes.now c.report_of.result r c.report_of.ensures text.0 text.1
