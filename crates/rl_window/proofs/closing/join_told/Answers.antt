use Rattle.std.proofs.Common.{rules}
use Rattle.rl_window.proofs.Joins.{joins}
use Rattle.rl_window.proofs.closing.join_told.Goals as goal

pub join_seat-requires : goal.join_seat-requires
join_seat-requires g c = (search rules, search rules, search rules, search rules, joins g.C.Core.rule _ _ _ _ _ _ _ c.requires.told c.requires.ending)
