use Rattle.std.proofs.Common.{rules, refl}
use Rattle.rl_window.proofs.SplitOff.{one_split_off}
use Rattle.rl_window.proofs.opening.split_one.Goals as goal

pub split_next-seat-requires-clause-root : goal.split_next-seat-requires-clause-root
split_next-seat-requires-clause-root g c = let o = c.requires.opening in (_, o.0, o.1.root_is, refl)

pub returns-clause-opening : goal.returns-clause-opening
returns-clause-opening g c = λ rest D.
    rw c.push_reserved.ensures.items (one_split_off c.args.table.now.key c.args.table.now.table_id c.args.root.now _ c.args.seats.now.items D c.args.view rest refl c.split_next-seat.new.root c.split_next-seat.result c.split_next-seat.ensures.table.0 c.split_next-seat.ensures.table.1 c.split_next-seat.ensures.root c.split_next-seat.ensures.seat _ refl refl (search rules))
