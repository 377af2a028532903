use Rattle.rl_window.proofs.TakenIn.{begins, closed_window}
use Rattle.rl_window.proofs.closing.finish.Goals as goal

pub join_all-requires-clause-closing : goal.join_all-requires-clause-closing
join_all-requires-clause-closing g c = rw c.requires.views.0 (begins g.C.Core.rule c.args.window c.args.seats.items c.args.window.table.shared.key c.requires.all c.requires.kept c.args.window.about c.args.window.counts.0 c.args.window.counts.1 c.into_seat-root.result c.into_seat-root.ensures)

pub returns-clause-rule : goal.returns-clause-rule
returns-clause-rule g c = closed_window g.C.Core.rule c.args.window c.args.window.table.shared.key c.args.window.table.shared.table_id _ c.join_all.new.root c.join_all.new.views.items _ _ c.read_words.new.words.items c.args.window.about c.args.window.counts.0 c.read_words.ensures c.join_all.ensures.closing c.close_with-closed.ensures.values.2
