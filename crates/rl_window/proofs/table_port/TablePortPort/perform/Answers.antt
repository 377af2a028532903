use Rattle.rl_window.specs.laws.SeatLemmas.{kept_still}
use Rattle.rl_window.proofs.table_port.TablePortPort.perform.Goals as goal

pub returns-clause-fits : goal.returns-clause-fits
returns-clause-fits g c = record { core_is = c.requires.fits.core_is; seat = c.perform.ensures.seat; kept = kept_still g.C.Core.rule c.args.self.now.window.now c.perform.new.seat c.perform.ensures.same.1 }
