use Rattle.std.proofs.Common.{rules, ◌≡◌, None}
use Rattle.lock_tests.proofs.RoundBegins.{begun}
use Rattle.lock_tests.proofs.windows.begin.Goals as goal

pub returns-clause-seat : goal.returns-clause-seat
returns-clause-seat c =
    let none : c.args.seat.now.view ≡ None = search rules in
    (begun c.args.window.now c.args.seat.now _ (c.requires.seat, c.requires.kept) none (search rules)).0

pub returns-clause-kept : goal.returns-clause-kept
returns-clause-kept c =
    let none : c.args.seat.now.view ≡ None = search rules in
    (begun c.args.window.now c.args.seat.now _ (c.requires.seat, c.requires.kept) none (search rules)).1
