use Rattle.std.proofs.Common.{◌≡◌}
use Rattle.rl_check.specs.Entries.{updates_before}
use Rattle.rl_check.specs.Finding.{AreGood}
use Rattle.rl_check.proofs.entries.first_fault.Given as goal

abbrev pub invariant-loop-place : goal.invariant-loop-place
invariant-loop-place l = record { good : AreGood l.fn.geom l.fn.shard l.entries l.place; counted : l.updates ≡ updates_before l.entries l.place }
