use Rattle.std.proofs.Common.{◌≡◌, ◌-◌}
use Rattle.rl_report.specs.Reading.{shards_next}
use Rattle.rl_place.proofs.Fronts.{with_lines}
use Rattle.rl_report.proofs.reader.shards_of.Given as goal

abbrev pub invariant-loop-number : goal.invariant-loop-number
invariant-loop-number l =
    with_lines l.shards.items (shards_next l.naming l.version l.replay l.number (l.naming.shards - l.number) l.lines) ≡ shards_next l.naming l.version l.replay 0 l.naming.shards l.fn.lines
