-- The shard is the one with this number, and its journal has few places.
use Rattle.std.proofs.Common.{refl, ap, sym, ◌∙◌}
use Rattle.rl_site.specs.Site.{lock_base}
use Rattle.rl_machine.specs.Run.{on_shard}
use Rattle.rl_machine.specs.laws.StateLaws.{IsThere, read_there}
use Rattle.rl_machine.proofs.state.MachineState.behind_journal.Goals as goal
use Rattle.rl_machine.proofs.state.MachineState.behind_journal.Goals.{After-index}
use Rattle.rl_machine.proofs.state.MachineState.behind_journal.Given.{Over}

there : (g : Over) (c : After-index g) → IsThere g.C.ShardCore.says c.args.self.now c.requires.good c.args.shard c.index.result.now
there g c = read_there g.C.ShardCore.says c.args.self.now c.requires.good c.args.self.now.shards.items c.args.shard c.index.result.now refl c.requires.there c.index.ensures

pub behind_on-requires-clause-good : goal.behind_on-requires-clause-good
behind_on-requires-clause-good g c = (there g (goal.at.behind_on-requires-clause-good g c).After-index).is_good

pub behind_on-requires-clause-few : goal.behind_on-requires-clause-few
behind_on-requires-clause-few g c = (there g (goal.at.behind_on-requires-clause-few g c).After-index).few

pub returns : goal.returns
returns g c = c.behind_on.ensures ∙ sym (ap (on_shard 0 (λ S. lock_base S.table.site)) (there g (goal.at.returns g c).After-index).has)
