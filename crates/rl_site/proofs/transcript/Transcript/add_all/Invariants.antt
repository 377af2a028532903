use Rattle.std.proofs.Common.{◌≡◌, ◌++◌, take}
use Rattle.rl_site.proofs.transcript.Transcript.add_all.Given as goal

abbrev pub invariant-loop-entry : goal.invariant-loop-entry
invariant-loop-entry l = (l.self.items ≡ l.fn.self.items ++ take l.entry-index l.entries) × (l.self.room ≡ l.fn.self.room)
