use Rattle.std.proofs.Common.{◌≡◌, vec_len}
use Rattle.rmalock_picture.proofs.recording.first_lanes.Given as goal

-- a lane for each rank so far
abbrev pub invariant-loop-rank : goal.invariant-loop-rank
invariant-loop-rank l = vec_len l.lanes ≡ l.rank
