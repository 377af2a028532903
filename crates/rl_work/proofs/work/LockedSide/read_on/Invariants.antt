use Rattle.std.proofs.Common.{◌≡◌, drop, length}
use Rattle.rl_work.specs.Work as model
use Rattle.rl_work.proofs.work.LockedSide.read_on.Given as goal

abbrev pub invariant-loop-place : goal.invariant-loop-place
invariant-loop-place l =
    (model.read_on l.geom l.shard l.rank l.count (drop l.place l.self.calls) l.self ≡ model.seen_on l.geom l.shard l.rank l.fn.self l.count)
    × (length l.self.replies ≡ l.place)
    × (l.self.calls ≡ l.fn.self.calls)
    × model.CanDecide l.geom l.self l.count
