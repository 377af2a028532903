use Rattle.std.proofs.Common.{refl}
use Rattle.rl_text.specs.Rows.{row_of}
use Rattle.rl_text.specs.Reading.{no_word_at}
use Rattle.rl_text.proofs.LineWordLemmas.{some_word-there, no_word-there}
use Rattle.rl_text.proofs.line_words.LineWords.no_more.Goals as goal

pub returns-in-Some : goal.returns-in-Some
unfolding no_word_at
returns-in-Some c =
    let there = some_word-there (row_of c.self.inside.line) c.self.inside.next c.in-Some.field-0.now c.self.invariant.0 (rw c.in-Some.is at c.self.invariant.1) in
    rw (c.refusal.ensures, ← c.self.view_is, there.1) refl

pub returns-in-None : goal.returns-in-None
unfolding no_word_at
returns-in-None c =
    let past = no_word-there (row_of c.self.inside.line) c.self.inside.next c.self.invariant.0 (rw c.in-None.is at c.self.invariant.1) in
    rw (← c.self.view_is, past) refl
