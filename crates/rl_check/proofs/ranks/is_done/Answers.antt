use Rattle.rl_check.proofs.RankLaws.{done_within}
use Rattle.rl_check.proofs.ranks.is_done.Goals as goal

pub returns : goal.returns
returns c = done_within c.args.calls.now c.args.sizes.now c.requires c.args.entries c.args.done c.if-done-entries.false c.if-done-calls.false c.args.replay c.if-entries-calls.false c.if-not-replay.false c.if-entries-sizes.false
