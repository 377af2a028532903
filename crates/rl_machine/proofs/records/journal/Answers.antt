-- One entry more.
use Rattle.std.proofs.Common.{◌∷◌, [], ◌++◌, ap, sym, ◌∙◌}
use Rattle.rl_machine.specs.Promises.{shard_journal}
use Rattle.rl_machine.specs.State.{running_shard}
use Rattle.rl_core.specs.laws.Filling.{take_next}
use Rattle.rl_machine.proofs.records.journal.Goals as goal

pub loop-at-preserved : goal.loop-at-preserved
loop-at-preserved g c =
    c.in_ok-push.ensures.items ∙ ap (λ es. es ++ c.update_at.result ∷ []) c.loop-at.invariant
    ∙ sym (take_next (shard_journal (running_shard g.C.ShardCore.says c.args.shard.now)) c.loop-at.at c.update_at.result c.update_at.ensures)
