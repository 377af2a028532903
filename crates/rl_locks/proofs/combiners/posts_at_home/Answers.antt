-- The post words stand behind the lock's, nine a rank.
use Rattle.std.proofs.Common.{◌∙◌, ap, slice_index, ◌+◌, ◌*◌}
use Rattle.rl_rank.specs.Running.{lock_with, kinds}
use Rattle.rl_locks.specs.Kinds.{combining}
use Rattle.rl_locks.proofs.PostHomes.{of_rank, lives_behind}
use Rattle.rl_locks.proofs.combiners.posts_at_home.Goals as goal

pub returns : goal.returns
returns g c shape home knobs site rank i low =
    lives_behind (lock_with (kinds g.A.Algo.defined combining shape home knobs) site) home (9 * rank + i) ∙ ap (slice_index shape.node_of) (of_rank rank i low)
