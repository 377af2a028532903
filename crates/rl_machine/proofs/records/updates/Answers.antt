-- The count is the length of the journal.
use Rattle.std.proofs.Common.{◌≡◌, ◌∙◌, ap, length, slice_index, arith}
use Rattle.rl_step.specs.Do.{TheWindow}
use Rattle.rl_core.specs.laws.JournalLaws.{count_is, few_updates}
use Rattle.rl_machine.specs.Promises.{shard_journal}
use Rattle.rl_machine.specs.State.{running_shard}
use Rattle.rl_machine.specs.laws.JournalAt.{short, fits}
use Rattle.rl_machine.proofs.records.updates.Goals as goal
use Rattle.rl_machine.proofs.records.updates.Goals.{After-value}
use Rattle.rl_machine.proofs.records.updates.Given.{Over}

count : (g : Over) (c : After-value g) → c.value.result ≡ length (shard_journal (running_shard g.C.ShardCore.says c.args.shard.now))
count g c =
    let s = c.args.shard.now in
    c.value.ensures ∙ ap (λ (h : TheWindow). slice_index h.words 1) c.words.ensures
    ∙ count_is (g.C.ShardCore.says s.core).table.site s.flat.words.words (short g.C.ShardCore.says g.met.C.ShardCore.shard_laws s c.requires)

pub overflow_cast-result : goal.overflow_cast-result
overflow_cast-result g c =
    let s = c.args.shard.now in
    let few = few_updates (g.C.ShardCore.says s.core).table.site s.flat.words.words (short g.C.ShardCore.says g.met.C.ShardCore.shard_laws s c.requires) in
    let f = fits g.C.ShardCore.says g.met.C.ShardCore.shard_laws s c.requires in
    let is = count g (goal.at.overflow_cast-result g c).After-value in
    omega arith

pub returns : goal.returns
returns g c = count g (goal.at.returns g c).After-value
