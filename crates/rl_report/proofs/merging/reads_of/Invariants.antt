use Rattle.std.proofs.Common.{◌≡◌, take, map}
use Rattle.rl_report.specs.Merging.{all_reads, seen}
use Rattle.rl_report.proofs.merging.reads_of.Given as goal

-- those of the ranks so far stand
abbrev pub invariant-loop-transcript : goal.invariant-loop-transcript
invariant-loop-transcript l = seen l.reads.items ≡ all_reads (map (λ t. t.now) (take l.transcript-index l.transcripts))
