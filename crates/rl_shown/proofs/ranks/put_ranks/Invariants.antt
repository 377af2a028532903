-- the ranks so far are told
use Rattle.std.proofs.Common.{◌≡◌, ◌++◌}
use Rattle.std.specs.Prelude.{flat_map}
use Rattle.std.specs.List.{range_with_len}
use Rattle.rl_text.specs.Spelling.{text_of}
use Rattle.rl_machine.specs.Running.{running}
use Rattle.rl_shown.specs.State.{rank_lines}
use Rattle.rl_shown.proofs.ranks.put_ranks.Given as goal

abbrev pub invariant-loop-rank : goal.invariant-loop-rank
invariant-loop-rank g l = l.out.items ≡ l.fn.out.items ++ text_of (flat_map (rank_lines (running g.C.ShardCore.says l.machine)) (range_with_len 0 l.rank))
