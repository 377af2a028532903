use Rattle.std.proofs.Common.{refl}
use Rattle.rl_window.proofs.TakenIn.{next_joins, one_joined}
use Rattle.rl_window.proofs.closing.join_one.Goals as goal

pub join-requires-clause-table : goal.join-requires-clause-table
join-requires-clause-table g c =
    let e = c.requires.closing in
    (c.requires.table.0, (next_joins g.C.Core.rule c.args.table.now.key c.args.table.now.table_id c.args.root.now _ c.args.views.now.items e.1 c.args.seat e.0 refl).0, c.requires.table.1)

pub join-requires-clause-ending : goal.join-requires-clause-ending
join-requires-clause-ending g c =
    let e = c.requires.closing in
    (next_joins g.C.Core.rule c.args.table.now.key c.args.table.now.table_id c.args.root.now _ c.args.views.now.items e.1 c.args.seat e.0 refl).1

pub returns-clause-closing : goal.returns-clause-closing
returns-clause-closing g c = λ rest E.
    rw c.push_reserved.ensures.items
    (one_joined g.C.Core.rule c.args.table.now.key c.args.table.now.table_id c.args.root.now _ c.args.views.now.items E c.args.seat rest refl c.join.new.root c.join.ensures.0 c.join.ensures.2)
