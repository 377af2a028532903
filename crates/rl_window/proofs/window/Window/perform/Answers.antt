use Rattle.std.proofs.Common.{ap}
use Rattle.rl_window.specs.laws.SeatLemmas.{seat_may_be}
use Rattle.rl_window.proofs.Made.{made_seat, made_performs}
use Rattle.rl_window.proofs.window.Window.perform.Goals as goal

pub make-got-requires-clause-may_be : goal.make-got-requires-clause-may_be
make-got-requires-clause-may_be g c = seat_may_be g.C.Core.rule c.args.self.now c.args.seat.now c.requires.seat c.requires.kept

pub returns-clause-seat : goal.returns-clause-seat
returns-clause-seat g c =
    made_seat g.C.Core.rule g.C.Core.table c.args.self.now c.args.seat.now c.make-got.new.seat c.after.new.view c.make-got.result c.requires.seat c.make-got.ensures.own.0 c.make-got.ensures.own.2 c.make-got.ensures.moves

pub returns-clause-made : goal.returns-clause-made
returns-clause-made g c =
    made_performs g.C.Core.rule g.C.Core.table c.args.self.now c.args.seat.now c.args.core.now c.make-got.new.seat.me.0 c.make-got.result c.args.atom c.after.new.view c.after.new.events.items c.after.result
    c.requires.core c.requires.seat c.make-got.ensures.moves (ap (λ t. t.view) c.after.ensures) (ap (λ t. t.events) c.after.ensures) (ap (λ t. t.stepped) c.after.ensures)
