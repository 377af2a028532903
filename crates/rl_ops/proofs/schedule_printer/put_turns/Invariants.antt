use Rattle.std.proofs.Common.{◌≡◌, ◌++◌, take, map}
use Rattle.rl_text.specs.Spelling.{text_of}
use Rattle.rl_ops.specs.Schedule.{turn_words}
use Rattle.rl_ops.proofs.schedule_printer.put_turns.Given as goal

abbrev pub invariant-loop-turn : goal.invariant-loop-turn
invariant-loop-turn l = l.out.items ≡ l.fn.out.items ++ text_of (map turn_words (take l.turn-index l.turns))
