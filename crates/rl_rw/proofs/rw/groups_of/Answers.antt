-- Few ranks make few groups.
use Rattle.rl_rw.specs.laws.RwWords.{groups_low}
use Rattle.rl_rw.proofs.rw.groups_of.Goals as goal

pub returns-clause-few : goal.returns-clause-few
returns-clause-few c = groups_low c.args.ranks c.args.group c.requires.ranks c.requires.some
