-- The seat is the window's, as its port says.
use Rattle.std.proofs.Common.{rules, ◌∙◌}
use Rattle.rl_window.specs.laws.SeatLemmas.{fit_seat}
use Rattle.rl_shard.proofs.stepping.step.Goals as goal

pub returns-clause-seat : goal.returns-clause-seat
returns-clause-seat g c = fit_seat g.C.Core.rule c.args.window.now c.advance.new.port.window.now _ c.advance.new.port.seat.now _ c.advance.ensures.fits (c.advance.ensures.frame.0 ∙ c.port-port.ensures.window) (search rules)

pub returns-clause-made : goal.returns-clause-made
returns-clause-made g c = λ at e. record { goes_on = search rules; one_step = search rules; performs = search rules }
