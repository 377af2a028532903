use Rattle.std.proofs.Common.{◌≡◌, drop}
use Rattle.rl_volume.specs.Seen.{patched}
use Rattle.rl_volume.proofs.seen.Seen.write_all.Given as goal

abbrev pub invariant-loop-write : goal.invariant-loop-write
invariant-loop-write l = (patched l.self.pairs (drop l.write-index l.writes) ≡ patched l.fn.self.pairs l.writes) × (l.self.room ≡ l.fn.self.room)
