use Rattle.std.proofs.Common.{◌≡◌, ◌-◌}
use Rattle.rl_place.specs.Reading.{homes_from}
use Rattle.rl_place.proofs.Fronts.{with_lines}
use Rattle.rl_place.proofs.sections.homes_of.Given as goal

abbrev pub invariant-loop-shard : goal.invariant-loop-shard
invariant-loop-shard l = with_lines l.homes.items (homes_from l.levels l.nodes.keys l.shards l.shard (l.shards - l.shard) l.lines) ≡ homes_from l.levels l.nodes.keys l.shards 0 l.shards l.fn.lines
