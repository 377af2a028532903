-- The lock that was made has the cohorts that were asked for.
use Rattle.std.proofs.Common.{◌≡◌, ◌∙◌, ap, subst}
use Rattle.rl_queue.specs.Queue.{full_budget}
use Rattle.rl_alock.specs.Alock.{Cohorts, cohorts_of, BoundsOvertaking}
use Rattle.rl_alock.proofs.alock.AlockAlgo.make.Goals as goal

pub returns-clause-promised : goal.returns-clause-promised
returns-clause-promised c =
    let asked : Cohorts = record { home = c.args.home; node_of = c.args.shape.now.node_of; local = c.args.knobs.local; remote = c.args.knobs.remote } in
    let same : cohorts_of c.args.home c.in_ok-node_of.node_of.items c.in_ok-local.local c.in_ok-remote.remote ≡ asked =
    ap (λ z. cohorts_of c.args.home z c.in_ok-local.local c.in_ok-remote.remote) c.in_ok-node_of.ensures ∙
    ap (λ z. cohorts_of c.args.home c.args.shape.now.node_of z c.in_ok-remote.remote) c.in_ok-local.ensures ∙
    ap (λ z. record { home = c.args.home; node_of = c.args.shape.now.node_of; local = c.args.knobs.local; remote = full_budget z.budget }) c.in_ok-remote.ensures in
    λ t ds ts shown b. subst (λ K. BoundsOvertaking K t ts) same b
