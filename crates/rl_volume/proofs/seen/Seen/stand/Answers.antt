use Rattle.std.proofs.Common.{◌<◌, sym, ap, arith}
use Rattle.rl_volume.proofs.StandLaws.{same_geom, same_stand}
use Rattle.rl_volume.proofs.seen.Seen.stand.Goals as goal

pub returns-then-eq-clause-goes_on : goal.returns-then-eq-clause-goes_on
returns-then-eq-clause-goes_on c =
    let s = c.self.inside in
    let some : 0 < s.passed = omega (arith, c.if-self-ne0.true) in
    same_stand s.geom c.args.geom s.key c.args.key s.link c.from.result s.passed c.from-then-eq.result s.pairs.items c.args.self.now.pairs (same_geom s.geom c.args.geom c.if-eq.ensures) c.if-self-key.true (sym c.from.ensures) (sym c.from-then-eq.ensures) (ap (λ v. v.pairs) c.self.view_is) (c.self.invariant.4 some)
