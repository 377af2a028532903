use Rattle.std.proofs.Common.{sym, ◌∙◌, []}
use Rattle.rl_text.specs.Cut.{pieces}
use Rattle.rl_text.specs.Rows.{row_of}
use Rattle.rl_text.proofs.LineWordLemmas.{word-there, no_word-there}
use Rattle.rl_text.proofs.line_words.LineWords.peek.Goals as goal

pub returns-in_err-rest : goal.returns-in_err-rest
returns-in_err-rest c = rw (c.from_residual.ensures, ← c.self.view_is) (sym (no_word-there (row_of c.self.inside.line) c.self.inside.next c.self.invariant.0 (rw c.in_err-rest.was at c.self.invariant.1)))

pub returns-in-Some : goal.returns-in-Some
returns-in-Some c = rw (← c.self.view_is) (sym (word-there (row_of c.self.inside.line) c.self.inside.next c.in-Some.word.now (pieces 32 c.in-Some.field-0-1.now) c.self.invariant.0 ((rw c.in_ok-rest.was at c.self.invariant.1) ∙ c.in-Some.ensures.0)))

pub returns-in-None : goal.returns-in-None
returns-in-None c = rw (← c.self.view_is) (sym (word-there (row_of c.self.inside.line) c.self.inside.next c.in_ok-rest.rest.now [] c.self.invariant.0 ((rw c.in_ok-rest.was at c.self.invariant.1) ∙ c.in-None.ensures)))
