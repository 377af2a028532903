use Rattle.std.proofs.Common.{◌≡◌, take}
use Rattle.std.specs.List.{flat_map}
use Rattle.rl_report.specs.Reports.{TheShard}
use Rattle.rl_report.specs.Lawful.{transcript_in}
use Rattle.rl_check.proofs.slots.own_of.Given as goal

abbrev pub invariant-loop-part : goal.invariant-loop-part
invariant-loop-part l = l.own.items ≡ flat_map (λ (S : TheShard). transcript_in S.entries l.rank) (take l.part-index l.shards)
