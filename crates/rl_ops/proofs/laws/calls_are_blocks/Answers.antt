use Rattle.rl_ops.proofs.AskedLaws.{block-at, begins-at-first}
use Rattle.rl_ops.proofs.laws.calls_are_blocks.Goals as goal

pub returns-clause-first : goal.returns-clause-first
returns-clause-first c = begins-at-first

pub returns-clause-next : goal.returns-clause-next
returns-clause-next c = block-at
