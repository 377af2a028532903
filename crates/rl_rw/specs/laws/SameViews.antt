-- Views that `==` finds equal are one.
use Rattle.std.proofs.Common.{◌≡◌, Bool, true, false, ◌&&◌, ap, refl, ◌∙◌, rules}
use Rattle.rl_tree.specs.laws.SameViews.{same_tree}
use Rattle.rl_counter.specs.declared.view.CounterView.{CounterView}
use Rattle.rl_rw.specs.declared.view.RwView.{RwView}
use Rattle.rl_rw.specs.contracts.view.RwViewPartialEq.TheImpl as rw
use Rattle.rl_counter.specs.contracts.view.CounterViewPartialEq.TheImpl as counter

both : (a b : Bool) → (a && b) ≡ true → (a ≡ true) × (b ≡ true)
both true b e = (refl, e)
both false b e = cc

same_counter : (x y : CounterView) → counter.ghosts.eq x y ≡ true → x ≡ y
same_counter x y e = search rules

pub same_rw : (x y : RwView) → rw.ghosts.eq x y ≡ true → x ≡ y
same_rw x y e =
    let p = both _ _ e in
    ap (λ z. record { tree = z; counter = x.counter }) (same_tree x.tree y.tree p.0)
    ∙ ap (λ z. record { tree = y.tree; counter = z }) (same_counter x.counter y.counter p.1)
