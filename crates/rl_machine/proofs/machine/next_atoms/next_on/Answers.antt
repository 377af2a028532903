-- The view's next atom can be made, and so its word or card is there.
use Rattle.std.proofs.Common.{sym, subst}
use Rattle.rl_step.specs.Core.{home_at}
use Rattle.rl_step.specs.Do.{TheWindow, CanDo}
use Rattle.rl_machine.proofs.machine.next_atoms.next_on.Goals as goal

pub found-requires : goal.found-requires
found-requires g c =
    let s = c.args.shard.now in
    let good = c.requires.good in
    let laws = g.met.C.Core.laws s.core in
    let ruled = g.met.C.ShardCore.ruled s.core _ good.is_good in
    let can = laws.can s.flat.words s.flat.views.items c.args.rank c.view.result.now c.in-Some.atom (record { is_ruled = ruled; has = c.view.ensures; planned = sym c.in-Some.ensures.atom }) in
    let home = home_at (g.C.Core.table s.core).home c.in-Some.atom in
    record { can = (home, subst (λ (h : TheWindow). CanDo home c.args.rank c.in-Some.atom h.words h.cards) (sym c.words.ensures) can) }
