-- One rank more.
use Rattle.rl_machine.specs.Running.{running}
use Rattle.rl_shown.specs.State.{card_lines}
use Rattle.rl_shown.proofs.TellingLaws.{lines_more}
use Rattle.rl_shown.proofs.ranks.put_cards.Goals as goal

pub loop-rank-preserved : goal.loop-rank-preserved
loop-rank-preserved g c =
    lines_more (card_lines (running g.C.ShardCore.says c.args.machine.now)) c.args.out.now.items c.loop-rank.out.items c.put_card_of.new.out.items c.loop-rank.rank c.loop-rank.invariant c.in_ok-put_card_of.ensures
