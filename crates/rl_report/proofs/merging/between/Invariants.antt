use Rattle.std.proofs.Common.{◌≡◌, ◌≤◌, ◌++◌, drop, length}
use Rattle.rl_report.specs.Merging.{seen, merged}
use Rattle.rl_report.proofs.merging.between.Given as goal

-- what stands, and what is still to come
abbrev pub invariant-loop-place : goal.invariant-loop-place
invariant-loop-place l = record {
  within : l.start ≤ length l.reads;
  stands : l.history.items ++ merged (seen (drop l.start l.reads)) l.place (drop l.place l.journal) ≡ merged (seen l.reads) 0 l.journal;
}
