use Rattle.std.proofs.Common.{◌≡◌, ◌-◌, drop}
use Rattle.rl_text.specs.Rows.{rows_from}
use Rattle.rl_explain.proofs.finding.line_in.Given as goal

abbrev pub invariant-loop : goal.invariant-loop
invariant-loop l = l.lines.rows ≡ drop (l.counter - 1) (rows_from 1 l.text)
