use Rattle.rl_ops.proofs.OpsLaws.{no_fault-value, value-no_fault, ops-takes, ops-again}
use Rattle.rl_ops.proofs.laws.no_ops_fault.Goals as goal

pub returns-clause-spelled : goal.returns-clause-spelled
returns-clause-spelled c = λ ranks shards text small shards_small. (no_fault-value ranks shards text small shards_small, value-no_fault ranks shards text small shards_small)

pub returns-clause-read : goal.returns-clause-read
returns-clause-read c = λ ranks shards text ops small shards_small. (ops-takes ranks shards text ops small shards_small, ops-again ranks shards text ops small shards_small)
