-- Views that `==` finds equal are one.
use Rattle.std.proofs.Common.{◌≡◌, Bool, true, false, ◌&&◌, ap, refl, ◌∙◌, rules}
use Rattle.rl_queue.specs.declared.view.QueueView.{QueueView}
use Rattle.rl_alock.specs.declared.view.SettleStage.{SettleStage}
use Rattle.rl_alock.specs.declared.view.AlockView.{AlockView}
use Rattle.rl_queue.specs.contracts.view.QueueViewPartialEq.TheImpl as queue
use Rattle.rl_alock.specs.contracts.view.SettleStagePartialEq.TheImpl as entry
use Rattle.rl_alock.specs.contracts.view.AlockViewPartialEq.TheImpl as alock

both : (a b : Bool) → (a && b) ≡ true → (a ≡ true) × (b ≡ true)
both true b e = (refl, e)
both false b e = cc

same_queue : (x y : QueueView) → queue.ghosts.eq x y ≡ true → x ≡ y
same_queue x y e = search rules

same_entry : (x y : SettleStage) → entry.ghosts.eq x y ≡ true → x ≡ y
same_entry x y e = search rules

pub same_alock : (x y : AlockView) → alock.ghosts.eq x y ≡ true → x ≡ y
same_alock x y e =
    let p = both (queue.ghosts.eq x.queue y.queue) (entry.ghosts.eq x.entry y.entry) e in
    ap (λ z. record { queue = z; entry = x.entry }) (same_queue x.queue y.queue p.0)
    ∙ ap (λ z. record { queue = y.queue; entry = z }) (same_entry x.entry y.entry p.1)
