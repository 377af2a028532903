use Rattle.std.proofs.Common.{◌≡◌, map, ap, sym, ◌∙◌, rules}
use Rattle.std.specs.FinMap as finite
use Rattle.std.specs.Map.Iter.{deref_pair}
use Rattle.std.proofs.lemmas.Map.Iter.{iter_end}
use Rattle.rl_model.proofs.Views.{in_order}
use Rattle.rl_model.proofs.plain.Plain.pairs.Goals as goal

pub returns : goal.returns
returns c =
    let es = c.self.inside.entries.entries in
    let same : finite.entries c.args.self.now.table ≡ es = ap (λ t. finite.entries t.table) (sym c.self.view_is) ∙ in_order es c.iter-key-items.ensures.ordered in
    let e : map deref_pair c.loop-key.yielded ≡ es = search (rules, iter_end) in
    c.loop-key.invariant ∙ e ∙ sym same
