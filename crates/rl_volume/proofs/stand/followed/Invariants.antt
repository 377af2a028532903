use Rattle.rl_volume.specs.Stand.{GoesOn}
use Rattle.rl_volume.proofs.stand.followed.Given as goal

abbrev pub invariant-loop-passed : goal.invariant-loop-passed
invariant-loop-passed l = GoesOn l.geom l.key l.link l.passed l.seen.pairs
