use Rattle.std.proofs.Common.{rules, ◌∙◌}
use Rattle.lock_tests.specs.Rounds.{rounds_rule}
use Rattle.rl_window.specs.laws.SeatLemmas.{fit_seat}
use Rattle.lock_tests.proofs.windows.step.Goals as goal

pub returns-clause-seat : goal.returns-clause-seat
returns-clause-seat c =
    fit_seat rounds_rule c.args.window.now c.advance.new.port.window.now _ c.advance.new.port.seat.now _ c.advance.ensures.fits (c.advance.ensures.frame.0 ∙ c.port-port.ensures.window) (search rules)
