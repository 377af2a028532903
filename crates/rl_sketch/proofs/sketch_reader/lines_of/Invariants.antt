use Rattle.std.proofs.Common.{◌≡◌, [], length}
use Rattle.rl_ops.specs.Body.{gathered}
use Rattle.rl_sketch.specs.SketchReading.{lines_at}
use Rattle.rl_sketch.proofs.SketchLaws.{with_line}
use Rattle.rl_sketch.proofs.sketch_reader.lines_of.Given as goal

abbrev pub invariant-read : goal.invariant-read
invariant-read l = gathered with_line l.taken (lines_at l.ranks l.stopped.items l.lines.read l.lines.rows) ≡ lines_at l.ranks [] l.fn.lines.read l.fn.lines.rows

abbrev pub decreases-read : goal.decreases-read
decreases-read l = length l.lines.rows
