-- The rank's view with the block open stands in place of the one before.
use Rattle.std.proofs.Common.{refl}
use Rattle.rl_machine.specs.State.{running_shard}
use Rattle.rl_machine.specs.laws.StepLaws.{opened_shard}
use Rattle.rl_machine.proofs.shard.open_on.Goals as goal

pub returns-clause-opened : goal.returns-clause-opened
returns-clause-opened g c =
    opened_shard (running_shard g.C.ShardCore.says c.args.shard.now) c.args.rank c.args.calls.now c.args.seq c.open_in.new.flat.words c.open_in.new.flat.views.items c.args.shard.now.events.items
    c.requires.there c.open_in.ensures.words c.open_in.ensures.views refl
