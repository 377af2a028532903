use Rattle.std.proofs.Common.{◌≡◌, [], get_or, map, take}
use Rattle.rl_core.specs.RankGood.{entries_in}
use Rattle.rl_reporting.specs.Lists.{lists_in}
use Rattle.rl_reporting.proofs.reporting.done_by.Given as goal

-- those on the shards so far
abbrev pub invariant-loop-transcripts : goal.invariant-loop-transcripts
invariant-loop-transcripts l = l.done ≡ entries_in (map (λ t. get_or (lists_in t) l.rank []) (take l.transcripts-index l.told))
