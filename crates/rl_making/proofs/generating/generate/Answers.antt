use Rattle.std.proofs.Common.{sym, subst}
use Rattle.rl_place.specs.Places.{ThePlace, IsProper}
use Rattle.rl_ops.specs.declared.ops.Ops.{Ops}
use Rattle.rl_ops.specs.Ops.{OpsFit}
use Rattle.rl_making.proofs.DealtLaws.{made-fits}
use Rattle.rl_making.proofs.MadePlaceLaws.{made-proper}
use Rattle.rl_making.proofs.generating.generate.Goals as goal

pub returns-clause-proper : goal.returns-clause-proper
returns-clause-proper c = subst (λ (place : ThePlace). IsProper place) (sym c.in_ok-place.ensures) (made-proper c.args.ranks c.requires.some_ranks c.requires.most_ranks)

pub returns-clause-fit : goal.returns-clause-fit
returns-clause-fit c = subst (λ (ops : Ops). OpsFit c.args.ranks 4 ops) (sym c.in_ok-ops.ensures) (made-fits c.args.number c.args.ranks c.args.calls c.requires.some_ranks c.requires.most_calls)
