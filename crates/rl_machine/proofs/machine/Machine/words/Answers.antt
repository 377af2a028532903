-- The shard is the one with this number.
use Rattle.std.proofs.Common.{◌≡◌, None, Some, ap, sym, ◌∙◌, subst}
use Rattle.rl_machine.specs.Records.{window_of}
use Rattle.rl_machine.specs.Run.{on_shard}
use Rattle.rl_machine.specs.Running.{running}
use Rattle.rl_machine.proofs.machine.Machine.words.Goals as goal

pub returns : goal.returns
returns g c =
    subst (λ m. window_of (running g.C.ShardCore.says m) c.args.shard ≡ Some c.words.result.now) c.self.view_is
    (ap (on_shard None (λ S. Some S.held)) c.shard.ensures.has ∙ ap Some (sym c.words.ensures))
