use Rattle.std.proofs.Common.{◌≡◌, ◌-◌, length}
use Rattle.rl_check.specs.OneThread.{IsToldTo}
use Rattle.rl_check.proofs.due_replies.one_thread.Given as goal

abbrev pub invariant-loop-place : goal.invariant-loop-place
invariant-loop-place l = record {
  size : l.told.table.geom ≡ l.fn.geom;
  so_far : IsToldTo l.fn.geom l.entries l.place l.told.replies.items l.told.table.table;
}

abbrev pub decreases-loop-place : goal.decreases-loop-place
decreases-loop-place l = length l.entries - l.place
