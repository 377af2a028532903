-- Its ranks may make no local act.
use Rattle.rl_shard.specs.Shards.{rank_at}
use Rattle.rl_locks.proofs.SwapLaws.{uses_none}
use Rattle.rl_locks.proofs.domains.dmcs_domains.Goals as goal

pub returns : goal.returns
returns g c = λ s at is next local. uses_none (rank_at s) (c.domains.ensures.locals s at is next local)
