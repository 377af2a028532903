-- Some good state has the side, so its numbers fit.
use Rattle.rl_work.specs.laws.LockedLaws.{may_name}
use Rattle.rl_work.proofs.locked.LockedWorkWork.next.Goals as goal

pub next-requires-clause-can : goal.next-requires-clause-can
next-requires-clause-can c = may_name (record { geom = c.args.self.now.geom; shard = c.args.self.now.shard; rooms = c.args.self.now.rooms.items }) c.args.self.now.behind c.args._rank c.args.side.now c.requires
