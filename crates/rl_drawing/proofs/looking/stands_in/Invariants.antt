use Rattle.std.proofs.Common.{◌≡◌, drop}
use Rattle.rl_drawing.specs.Sights.{stands_in}
use Rattle.rl_drawing.proofs.looking.stands_in.Given as goal

-- they stand in the text where they stand in what is left of it
abbrev pub invariant-loop-first : goal.invariant-loop-first
invariant-loop-first l = stands_in l.sought l.text ≡ stands_in l.sought (drop l.first l.text)
