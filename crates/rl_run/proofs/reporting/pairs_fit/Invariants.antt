use Rattle.std.proofs.Common.{ℕ, ◌<◌, ◌^◌, get_or}
use Rattle.rl_run.proofs.reporting.pairs_fit.Given as goal

abbrev pub invariant-loop-pair : goal.invariant-loop-pair
invariant-loop-pair l = (k : ℕ) (d : ℕ × ℕ) → k < l.pair-index → ((get_or l.pairs k d).0 < 2 ^ 64) × ((get_or l.pairs k d).1 < 2 ^ 64)
