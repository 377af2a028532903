-- the stops so far stand, and the steps so far are counted
use Rattle.std.proofs.Common.{◌≡◌, ◌++◌, take}
use Rattle.rl_text.specs.Spelling.{text_of}
use Rattle.rl_machine.specs.Run.{steps_in}
use Rattle.rl_page.specs.PageData.{stop_lines}
use Rattle.rl_page.proofs.own_lines.put_stops.Given as goal

abbrev pub invariant-loop-turn : goal.invariant-loop-turn
invariant-loop-turn l =
    (l.out.items ≡ l.fn.out.items ++ text_of (stop_lines 0 (take l.turn-index l.turns))) × (l.made ≡ steps_in (take l.turn-index l.turns))
