-- It rests so whoever is in the card.
use Rattle.std.proofs.Common.{subst}
use Rattle.rl_machine.specs.Rested.{RestsAt}
use Rattle.rl_replay.specs.laws.RestedLaws.{held_by_another}
use Rattle.rl_replay.proofs.noted.noted.Goals as goal

pub returns-in-Busy : goal.returns-in-Busy
returns-in-Busy g c = λ m k rests. held_by_another m k c.args.at.shard c.in-Busy.node c.in-Busy.holder 0 (subst (RestsAt m k c.args.at.shard) c.in-Busy.is rests)
