-- The block is opened, and then the atom is made.
use Rattle.std.proofs.Common.{ap, sym, subst, ◌∙◌}
use Rattle.rl_machine.specs.ShardSteps.{atom_on, answer_on}
use Rattle.rl_machine.specs.laws.StepLaws.{opened_shard}
use Rattle.rl_step.specs.Traces.{events_of}
use Rattle.rl_machine.specs.State.{running_shard, flat_moment}
use Rattle.rl_machine.proofs.shard.block_at.Goals as goal

pub atom_on-requires-clause-good : goal.atom_on-requires-clause-good
atom_on-requires-clause-good g c =
    let s = c.args.shard.now in
    record {
      acts = c.requires.good.acts;
      is_good = subst (λ es. (g.C.ShardCore.says s.core).good (flat_moment c.open_in.new.flat (events_of es) c.requires.good.acts)) (sym c.reserve.ensures.items)
          (c.open_in.ensures.keeps (events_of s.events.items) c.requires.good.acts c.requires.good.is_good);
    }

pub returns-clause-made : goal.returns-clause-made
returns-clause-made g c =
    c.atom_on.ensures.made ∙ ap (atom_on c.args.rank c.args.step)
    (opened_shard (running_shard g.C.ShardCore.says c.args.shard.now) c.args.rank c.args.calls.now c.args.seq c.open_in.new.flat.words c.open_in.new.flat.views.items c.reserve.new.self.items
    c.requires.there c.open_in.ensures.words c.open_in.ensures.views c.reserve.ensures.items)

pub returns-clause-answer : goal.returns-clause-answer
returns-clause-answer g c =
    c.atom_on.ensures.answer ∙ ap (answer_on c.args.rank)
    (opened_shard (running_shard g.C.ShardCore.says c.args.shard.now) c.args.rank c.args.calls.now c.args.seq c.open_in.new.flat.words c.open_in.new.flat.views.items c.reserve.new.self.items
    c.requires.there c.open_in.ensures.words c.open_in.ensures.views c.reserve.ensures.items)
