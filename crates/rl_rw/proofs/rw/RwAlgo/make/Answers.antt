-- The lock that was made has the counters that were asked for.
use Rattle.std.proofs.Common.{ap}
use Rattle.rl_rw.specs.Rw.{shared_of, shared_in}
use Rattle.rl_rw.specs.laws.RwLaws.{hands_on}
use Rattle.rl_rw.proofs.rw.RwAlgo.make.Goals as goal

pub returns-clause-promised : goal.returns-clause-promised
returns-clause-promised c =
    hands_on (shared_of c.in_ok-tree.tree.rooted c.args.knobs.readers c.args.knobs.group) (shared_in c.args.home c.args.shape.now c.args.knobs)
    (ap (λ z. shared_of z c.args.knobs.readers c.args.knobs.group) c.in_ok-tree.ensures)
