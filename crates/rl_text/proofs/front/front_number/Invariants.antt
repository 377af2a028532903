use Rattle.std.proofs.Common.{◌≡◌, ◌<◌, ◌++◌, decimal, length}
use Rattle.rl_text.proofs.front.front_number.Given as goal

-- what was read is a number, and it fits
abbrev pub invariant-loop-value : goal.invariant-loop-value
invariant-loop-value l = record {
  fits : l.value < 10000000000000000000;
  so_far : l.bytes ≡ decimal l.value ++ l.rest;
}

abbrev pub decreases-loop-value : goal.decreases-loop-value
decreases-loop-value l = length l.rest
