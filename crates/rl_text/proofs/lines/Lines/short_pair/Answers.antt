use Rattle.std.proofs.Common.{◌+◌}
use Rattle.rl_text.proofs.ShortLaws.{pair-row}
use Rattle.rl_text.proofs.lines.Lines.short_pair.Goals as goal

pub returns-then-b-second-clause-pair : goal.returns-then-b-second-clause-pair
returns-then-b-second-clause-pair c =
    let e = c.in_ok-a.ensures in
    rw (← c.self.view_is) (pair-row (c.self.inside.read + 1) c.in_ok-a.a c.in_ok-a.b c.self.inside.rest.now c.in_ok-a.after.now e.0 e.1 e.2)
