use Rattle.std.proofs.Common.{◌≡◌, ◌∙◌, ap, arith, length, List, slice_index}
use Rattle.rl_model.specs.declared.entry.Entry.{Entry}
use Rattle.rl_journal.specs.Journal.{spelled}
use Rattle.rl_journal.specs.laws.ReadBack.{spelled_or}
use Rattle.rl_work.proofs.work.LockedSide.journal_at.Goals as goal

pub returns : goal.returns
returns c =
    let e : c.deref.result.now ≡ c.args.self.now.entries = c.deref.ensures.0 ∙ ap (λ w. w.entries) c.self.view_is in
    c.journal_value.ensures ∙ spelled_or c.deref.result.now c.args.made _ (omega (arith, c.requires, ap length e)) ∙ ap (λ (es : List Entry). slice_index (spelled es) c.args.made) e
