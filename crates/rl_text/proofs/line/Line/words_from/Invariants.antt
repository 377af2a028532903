use Rattle.std.proofs.Common.{◌≡◌}
use Rattle.rl_text.specs.Rows.{row_of}
use Rattle.rl_text.proofs.line.Line.words_from.Given as goal

abbrev pub invariant-loop : goal.invariant-loop
invariant-loop l = l.words ≡ record { row = row_of l.self; next = l.counter }
