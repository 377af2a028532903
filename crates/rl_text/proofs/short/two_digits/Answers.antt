use Rattle.std.proofs.Common.{◌<◌, arith}
use Rattle.rl_text.proofs.ShortLaws.{two-digits}
use Rattle.rl_text.proofs.short.two_digits.Goals as goal

pub returns : goal.returns
returns c =
    let tens = c.in_ok-tens.ensures in
    let units = c.in_ok-digit.ensures in
    let some : 0 < c.in_ok-tens.tens = omega (arith, c.if-tens-eq0.false) in
    (omega (arith, tens.0, units.0), two-digits c.in_ok-tens.tens c.in_ok-digit.field-0 c.args.first c.args.second some tens.0 units.0 tens.1 units.1)
