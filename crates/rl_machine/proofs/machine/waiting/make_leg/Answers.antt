-- The view exchanged on the shard of the round is the step.
use Rattle.std.proofs.Common.{◌≡◌, slice_get, Some, ap, sym, ◌∙◌}
use Rattle.std.proofs.lemmas.Option.{slice_get-get_or}
use Rattle.rl_step.specs.Answers.{counted}
use Rattle.rl_machine.specs.Running.{viewed}
use Rattle.rl_machine.specs.laws.RoundSteps.{round_there, round_seen, round_rank, leg_made, leg_turned}
use Rattle.rl_machine.specs.State.{running_shard}
use Rattle.rl_machine.specs.laws.StateLaws.{core_set}
use Rattle.rl_machine.proofs.machine.waiting.make_leg.Goals as goal
use Rattle.rl_machine.proofs.machine.waiting.make_leg.Goals.{After-index_mut, After-set_on}
use Rattle.rl_machine.proofs.machine.waiting.make_leg.Given.{Over}

-- the shard of the round
has : (g : Over) (c : After-index_mut g) → slice_get c.args.state.now.shards.items c.args.shard ≡ Some c.index_mut.result.now
has g c =
    slice_get-get_or c.args.state.now.shards.items c.args.shard c.index_mut.result.now
    (round_there g.C.ShardCore.says g.C.Resting.with_sight c.args.state.now c.requires.good c.args.rank c.args.shard c.args.round c.requires.shows.0)
    ∙ ap Some (sym c.index_mut.ensures.value)

pub set_on-requires : goal.set_on-requires
set_on-requires g c =
    record {
      there =
          round_rank g.C.ShardCore.says g.C.Resting.with_sight c.args.state.now c.requires.good c.args.rank c.args.shard c.args.round c.requires.shows.0 c.index_mut.result.now
          (has g (goal.at.set_on-requires g c).After-index_mut);
    }

-- the view that is exchanged is the rank's
set : (g : Over) (c : After-set_on g) →
    running_shard g.C.ShardCore.says c.set_on.new.shard ≡ viewed (running_shard g.C.ShardCore.says c.index_mut.result.now) c.args.rank
    (g.C.Resting.with_sight c.requires.shows.0.view c.args.round.here.sight)
set g c =
    c.set_on.ensures.made c.requires.shows.0.view
    (round_seen g.C.ShardCore.says g.C.Resting.with_sight c.args.state.now c.requires.good c.args.rank c.args.shard c.args.round c.requires.shows.0 c.index_mut.result.now
    (has g (goal.at.After-set_on g c).After-index_mut))

pub returns-clause-made : goal.returns-clause-made
returns-clause-made g c =
    let h = has g (goal.at.returns-clause-made g c).After-index_mut in
    leg_made g.C.ShardCore.says g.C.Resting.with_sight c.args.state.now c.requires.good c.args.rank c.args.shard c.args.round c.requires.shows.0 c.index_mut.result.now h c.set_on.new.shard
    (set g (goal.at.returns-clause-made g c).After-set_on) c.requires.shows.1.0 c.count.new.self (c.count.ensures ∙ ap (λ a. counted a c.args.state.now.steps) c.answer.ensures)

pub returns-clause-in_round : goal.returns-clause-in_round
returns-clause-in_round g c =
    let h = has g (goal.at.returns-clause-in_round g c).After-index_mut in
    leg_turned g.C.ShardCore.says g.C.Resting.with_sight c.args.state.now c.requires.good c.args.rank c.args.shard c.args.round c.requires.shows.0 c.index_mut.result.now h c.set_on.new.shard
    (set g (goal.at.returns-clause-in_round g c).After-set_on) c.count.new.self

pub returns-clause-cores : goal.returns-clause-cores
returns-clause-cores g c =
    core_set c.args.state.now.shards.items c.args.shard c.index_mut.result.now c.set_on.new.shard (has g (goal.at.returns-clause-cores g c).After-index_mut) c.set_on.ensures.core
