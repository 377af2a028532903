-- The rank's entries are among those of all.
use Rattle.std.proofs.Common.{◌≡◌, ◌<◌, [], length, slice_get, Some, ap, sym, subst, ◌∙◌, arith}
use Rattle.std.proofs.lemmas.Result.{IfOk-weaker}
use Rattle.rl_machine.specs.Promises.{transcripts_on}
use Rattle.rl_machine.specs.Run.{on_shard}
use Rattle.rl_machine.specs.Running.{running}
use Rattle.rl_machine.specs.State.{running_shard}
use Rattle.rl_machine.specs.laws.RecordLaws.{kept_among}
use Rattle.rl_machine.proofs.machine.Machine.transcript_of.Goals as goal

pub returns-clause-among : goal.returns-clause-among
returns-clause-among g c =
    let says = g.C.ShardCore.says in
    let shard = c.args.shard in
    let rank = c.args.rank in
    let S = running_shard says c.shard.result.now in
    let has : slice_get (running says c.args.self.now).shards shard ≡ Some S = subst (λ m. slice_get (running says m).shards shard ≡ Some S) c.self.view_is c.shard.ensures.has in
    let low = subst (λ m. rank < length m.calls) (sym c.self.view_is) c.requires.rank in
    let there : rank < length S.views = let all = c.shard.ensures.ranks in omega arith in
    IfOk-weaker c.transcript_of.result _ _ (λ told is. ap (λ o. slice_get (on_shard [] transcripts_on o) rank) has ∙ kept_among S rank there ∙ ap Some (sym is)) c.transcript_of.ensures
