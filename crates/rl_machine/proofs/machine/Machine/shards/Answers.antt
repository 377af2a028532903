-- A machine has a shard for each of the table's.
use Rattle.std.proofs.Common.{◌≡◌, length, ap, sym, ◌∙◌, subst}
use Rattle.std.proofs.lemmas.List.{length-map}
use Rattle.rl_machine.proofs.machine.Machine.shards.Goals as goal

pub returns : goal.returns
returns g c =
    let m = c.args.self.now in
    let many = (subst (λ z. length z.shards ≡ z.geom.shards) c.self.view_is (sym (length-map _ _) ∙ c.self.invariant.is_good.many)) in
    ap (λ z. z.geom.shards) c.self.view_is ∙ sym many
