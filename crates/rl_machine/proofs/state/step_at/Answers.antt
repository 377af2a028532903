-- One atom on the shard where the rank stands.
use Rattle.std.proofs.Common.{slice_get, slice_set, refl, ap, sym, ◌∙◌, arith}
use Rattle.std.proofs.lemmas.Result.{err_from_is_err_and}
use Rattle.rl_machine.specs.Run.{place_of}
use Rattle.rl_machine.specs.ShardSteps.{atom_on}
use Rattle.rl_machine.specs.State.{running_machine, running_shard}
use Rattle.rl_machine.specs.laws.MachineSteps.{machine_with, atom_is}
use Rattle.rl_machine.specs.laws.StateLaws.{IsThere, read_there, shard_set, kept_set, core_set}
use Rattle.rl_machine.proofs.state.step_at.Goals as goal
use Rattle.rl_machine.proofs.state.step_at.Goals.{After-index_mut}
use Rattle.rl_machine.proofs.state.step_at.Given.{Over}

there : (g : Over) (c : After-index_mut g) → IsThere g.C.ShardCore.says c.args.state.now c.requires.good c.args.place c.index_mut.result.now
there g c =
    read_there g.C.ShardCore.says c.args.state.now c.requires.good c.args.state.now.shards.items c.args.place c.index_mut.result.now refl c.requires.place c.index_mut.ensures.value

pub atom_at-requires-clause-there : goal.atom_at-requires-clause-there
atom_at-requires-clause-there g c = let all = (there g c).ranks in let low = c.requires.there in omega arith

pub atom_at-requires-clause-good : goal.atom_at-requires-clause-good
atom_at-requires-clause-good g c = (there g c).is_good

pub returns-in_err-answer-clause-cores : goal.returns-in_err-answer-clause-cores
returns-in_err-answer-clause-cores g c =
    core_set c.args.state.now.shards.items c.args.place c.index_mut.result.now c.atom_at.new.shard
    (there g (goal.at.returns-in_err-answer-clause-cores g c).After-index_mut).listed c.atom_at.ensures.core

pub returns-in_err-answer-clause-kept : goal.returns-in_err-answer-clause-kept
returns-in_err-answer-clause-kept g c =
    let p = err_from_is_err_and c.from_residual.result c.from_residual.ensures.1 in
    rw p.1 (kept_set c.args.state.now c.args.place c.index_mut.result.now c.atom_at.new.shard (there g (goal.at.returns-in_err-answer-clause-kept g c).After-index_mut).listed c.in_err-answer.ensures.kept)

-- the step is the definition's
pub returns-clause-made : goal.returns-clause-made
returns-clause-made g c =
    let state = c.args.state.now in
    let m = running_machine g.C.ShardCore.says state in
    let rank = c.args.rank in
    let S = running_shard g.C.ShardCore.says c.index_mut.result.now in
    let S' = running_shard g.C.ShardCore.says c.atom_at.new.shard in
    let place = c.requires.stands in
    let t = there g (goal.at.returns-clause-made g c).After-index_mut in
    let made = c.in_ok-answer.ensures.made ∙ ap (λ n. atom_on rank n S) c.steps_made-step.ensures in
    let q = atom_is m rank S S' c.in_ok-answer.answer (ap (slice_get m.shards) (sym place) ∙ t.has) made c.in_ok-answer.ensures.answer in
    ap (λ z. machine_with m z m.opened c.count.new.self) (shard_set g.C.ShardCore.says state.shards.items c.args.place c.atom_at.new.shard ∙ ap (λ s. slice_set m.shards s S') place)
    ∙ ap (λ z. machine_with m (slice_set m.shards (place_of m rank) S') m.opened z) c.count.ensures ∙ q.0

pub returns-clause-answer : goal.returns-clause-answer
returns-clause-answer g c =
    let m = running_machine g.C.ShardCore.says c.args.state.now in
    let rank = c.args.rank in
    let S = running_shard g.C.ShardCore.says c.index_mut.result.now in
    let S' = running_shard g.C.ShardCore.says c.atom_at.new.shard in
    let t = there g (goal.at.returns-clause-answer g c).After-index_mut in
    let made = c.in_ok-answer.ensures.made ∙ ap (λ n. atom_on rank n S) c.steps_made-step.ensures in
    (atom_is m rank S S' c.in_ok-answer.answer (ap (slice_get m.shards) (sym c.requires.stands) ∙ t.has) made c.in_ok-answer.ensures.answer).1

pub returns-clause-cores : goal.returns-clause-cores
returns-clause-cores g c =
    core_set c.args.state.now.shards.items c.args.place c.index_mut.result.now c.atom_at.new.shard
    (there g (goal.at.returns-clause-cores g c).After-index_mut).listed c.atom_at.ensures.core
