-- The core tells what the definition does, by the words and the view that it is given.
use Rattle.std.proofs.Common.{◌∙◌, ap, sym, refl}
use Rattle.std.proofs.lemmas.Result.{IfOk-weaker}
use Rattle.rl_core.specs.Desks.{desk_entries}
use Rattle.rl_machine.specs.ShardSteps.{desk_at}
use Rattle.rl_machine.proofs.records.transcript_by.Goals as goal

pub transcript-requires-clause-seen : goal.transcript-requires-clause-seen
transcript-requires-clause-seen g c =
    let s = c.args.shard.now in
    let good = c.requires.good in (
      record { held = s.flat.words; views = s.flat.views.items; rank = c.args.rank; is_ruled = g.met.C.ShardCore.ruled s.core _ good.is_good; has = c.view-view.ensures },
      (sym c.words-words.ensures, refl),
    )

pub returns : goal.returns
returns g c =
    let s = c.args.shard.now in
    let T = (g.C.ShardCore.says s.core).table in
    let rank = c.args.rank in
    IfOk-weaker c.transcript.result _ _ (λ told is. is ∙ ap (λ h. desk_entries (T.desk h.words rank c.view-view.result.now)) c.words-words.ensures
    ∙ sym (ap (λ o. desk_entries (desk_at T s.flat.words.words rank o)) c.view-view.ensures)) c.transcript.ensures
