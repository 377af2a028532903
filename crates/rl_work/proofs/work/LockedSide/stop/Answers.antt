use Rattle.std.proofs.Common.{◌≡◌, ◌+◌, ◌++◌, ◌∷◌, ap, ◌∙◌, arith, drop, length, List}
use Rattle.std.proofs.lemmas.List.{length-drop}
use Rattle.rl_model.specs.declared.entry.Reply.{Reply}
use Rattle.rl_volume.specs.declared.write.Write.{Write}
use Rattle.rl_journal.specs.Blocks.{undone}
use Rattle.rl_work.specs.laws.TurnLaws.{undone_filled}
use Rattle.rl_work.specs.Work.{TheWork}
use Rattle.rl_work.proofs.work.LockedSide.stop.Goals as goal

abbrev filled : TheWork → List Reply → List Write → TheWork
filled x replies writes = record x { replies = replies; writes = writes }

pub returns : goal.returns
returns c =
    let x = c.args.self.now in
    let e = ap (λ w. length w.replies) c.self.view_is in
    let f = ap (λ w. length w.calls) c.self.view_is in
    let rest = drop (length x.replies + 1) x.calls in
    let items : c.undone_but-self-inside.result.items ≡ undone x.replies ++ c.args.reply ∷ undone rest =
    c.undone_but-self-inside.ensures ∙ undone_filled x.replies c.args.reply rest _ _ (c.len-before.ensures.value ∙ e) (omega (arith, length-drop (length x.replies + 1) x.calls, c.len-before.ensures.value, c.len.ensures.value)) in
    ap (λ w. filled w c.undone_but-self-inside.result.items c.new-self-inside.result.items) c.self.view_is
    ∙ ap (λ rs. filled x rs c.new-self-inside.result.items) items
    ∙ ap (λ ws. filled x (undone x.replies ++ c.args.reply ∷ undone rest) ws) c.new-self-inside.ensures
