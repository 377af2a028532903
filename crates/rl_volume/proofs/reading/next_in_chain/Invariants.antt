use Rattle.std.proofs.Common.{◌≡◌, ◌-◌}
use Rattle.rl_volume.specs.Walk.{chain_walk}
use Rattle.rl_volume.specs.Seen.{next_in}
use Rattle.rl_volume.proofs.reading.next_in_chain.Given as goal

abbrev pub invariant-loop-passed : goal.invariant-loop-passed
invariant-loop-passed l = next_in (chain_walk l.geom l.call l.key l.fn.from.link (l.geom.overflow - l.fn.from.passed)) l.seen.pairs ≡ next_in (chain_walk l.geom l.call l.key l.link (l.geom.overflow - l.passed)) l.seen.pairs
