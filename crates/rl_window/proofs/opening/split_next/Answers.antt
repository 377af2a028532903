use Rattle.rl_window.proofs.Splits.{splits}
use Rattle.rl_window.proofs.opening.split_next.Goals as goal

pub split_seat-requires : goal.split_seat-requires
split_seat-requires g c = let r = c.requires.root in (c.requires.table.0, c.requires.table.1, splits g.C.Core.rule c.args.table.now.key c.args.root.now.id r.0 c.args.view.now r.1 c.args.root.now.me r.2 r.3)
