use Rattle.std.proofs.Common.{sym, ◌∙◌, [], arith}
use Rattle.rl_text.specs.Cut.{pieces}
use Rattle.rl_text.specs.Rows.{row_of}
use Rattle.rl_text.proofs.LineWordLemmas.{past-word, past-end, word-there, no_word-there}
use Rattle.rl_text.proofs.line_words.LineWords.next_word.Goals as goal

pub invariant_of-self : goal.invariant_of-self
invariant_of-self c = (omega arith, rw c.in_err-rest.was (past-end (row_of c.self.inside.line) c.self.inside.next c.self.invariant.0 (rw c.in_err-rest.was at c.self.invariant.1)))

pub returns-in_err-rest-clause-word : goal.returns-in_err-rest-clause-word
returns-in_err-rest-clause-word c = rw (c.from_residual.ensures, ← c.self.view_is) (sym (no_word-there (row_of c.self.inside.line) c.self.inside.next c.self.invariant.0 (rw c.in_err-rest.was at c.self.invariant.1)))

pub invariant_of-self-in-Some : goal.invariant_of-self-in-Some
invariant_of-self-in-Some c = (omega arith, past-word (row_of c.self.inside.line) c.self.inside.next c.in-Some.word.now (pieces 32 c.in-Some.after.now) c.self.invariant.0 ((rw c.in_ok-rest.was at c.self.invariant.1) ∙ c.in-Some.ensures.0))

pub invariant_of-self-in-None : goal.invariant_of-self-in-None
invariant_of-self-in-None c = (omega arith, past-word (row_of c.self.inside.line) c.self.inside.next c.in_ok-rest.rest.now [] c.self.invariant.0 ((rw c.in_ok-rest.was at c.self.invariant.1) ∙ c.in-None.ensures))

pub returns-in-Some-clause-word : goal.returns-in-Some-clause-word
returns-in-Some-clause-word c = rw (← c.self.view_is) (sym (word-there (row_of c.self.inside.line) c.self.inside.next c.in-Some.word.now (pieces 32 c.in-Some.after.now) c.self.invariant.0 ((rw c.in_ok-rest.was at c.self.invariant.1) ∙ c.in-Some.ensures.0)))

pub returns-in-None-clause-word : goal.returns-in-None-clause-word
returns-in-None-clause-word c = rw (← c.self.view_is) (sym (word-there (row_of c.self.inside.line) c.self.inside.next c.in_ok-rest.rest.now [] c.self.invariant.0 ((rw c.in_ok-rest.was at c.self.invariant.1) ∙ c.in-None.ensures)))
