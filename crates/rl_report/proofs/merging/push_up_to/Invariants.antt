use Rattle.std.proofs.Common.{◌≡◌, ◌+◌, ◌++◌, drop, take}
use Rattle.rl_report.specs.Merging.{seen, up_to}
use Rattle.rl_report.proofs.merging.push_up_to.Given as goal

-- those so far stand, and are among the first that looked at the count or an earlier one
abbrev pub invariant-loop-place : goal.invariant-loop-place
invariant-loop-place l = record {
  pushed : l.history.items ≡ l.fn.history.items ++ seen (take l.place l.reads);
  counted : up_to l.count (seen l.reads) ≡ l.place + up_to l.count (seen (drop l.place l.reads));
}
