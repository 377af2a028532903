-- Each is a law of the core.
use Rattle.rl_core.proofs.laws.core_laws.Goals as goal

pub returns-clause-ruled : goal.returns-clause-ruled
returns-clause-ruled g c = g.met.C.ShardCore.ruled c.args.core.now

pub returns-clause-begins : goal.returns-clause-begins
returns-clause-begins g c = (g.met.C.ShardCore.shard_laws c.args.core.now).begins

pub returns-clause-atoms : goal.returns-clause-atoms
returns-clause-atoms g c = (g.met.C.ShardCore.shard_laws c.args.core.now).atom_keeps

pub returns-clause-opens : goal.returns-clause-opens
returns-clause-opens g c = (g.met.C.ShardCore.shard_laws c.args.core.now).open_keeps

pub returns-clause-excludes : goal.returns-clause-excludes
returns-clause-excludes g c = (g.met.C.ShardCore.shard_laws c.args.core.now).alone_in

pub returns-clause-causes : goal.returns-clause-causes
returns-clause-causes g c = (g.met.C.ShardCore.shard_laws c.args.core.now).causes

pub returns-clause-stands : goal.returns-clause-stands
returns-clause-stands g c = (g.met.C.ShardCore.shard_laws c.args.core.now).stands

pub returns-clause-guards : goal.returns-clause-guards
returns-clause-guards g c = (g.met.C.ShardCore.shard_laws c.args.core.now).guards

pub returns-clause-answers : goal.returns-clause-answers
returns-clause-answers g c = (g.met.C.ShardCore.shard_laws c.args.core.now).answers
