use Rattle.std.proofs.Common.{◌≡◌, drop}
use Rattle.rl_text.specs.Cut.{pieces}
use Rattle.rl_sketch.proofs.sight_reader.behind_words.Given as goal

abbrev pub invariant-loop : goal.invariant-loop
invariant-loop l = pieces 32 l.rest ≡ drop l.counter (pieces 32 l.text)
