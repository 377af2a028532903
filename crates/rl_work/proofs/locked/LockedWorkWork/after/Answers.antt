-- Some good state has the side and gives what was found, so the numbers fit.
use Rattle.rl_work.specs.laws.LockedLaws.{may_turn}
use Rattle.rl_work.proofs.locked.LockedWorkWork.after.Goals as goal

pub turn-over-requires-clause-can : goal.turn-over-requires-clause-can
turn-over-requires-clause-can c = may_turn (record { geom = c.args.self.now.geom; shard = c.args.self.now.shard; rooms = c.args.self.now.rooms.items }) c.args.self.now.behind c.args.rank c.args.side.now c.args.got c.requires
