use Rattle.std.proofs.Common.{◌≡◌, take, map}
use Rattle.rl_report.proofs.merging.lent_slices.Given as goal

-- those so far are lent
abbrev pub invariant-loop-transcript : goal.invariant-loop-transcript
invariant-loop-transcript l = map (λ t. t.now) l.lent.items ≡ map (λ t. t.items) (take l.transcript-index l.transcripts)
