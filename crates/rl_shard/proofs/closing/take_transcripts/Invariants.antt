-- The transcripts so far stand behind those that were there.
use Rattle.std.proofs.Common.{◌≡◌, map, vec_items, vec_len, vec_capacity, ◌+◌, ◌++◌, ◌≤◌}
use Rattle.std.specs.Vec.Iter.{into_iter_items, into_iter_len}
use Rattle.rl_shard.specs.Closing.{entries_in}
use Rattle.rl_shard.proofs.closing.take_transcripts.Given as goal

abbrev pub invariant-loop-view : goal.invariant-loop-view
invariant-loop-view g l =
    (map vec_items l.transcripts.items ++ map (entries_in (g.C.ShardCore.says l.core).table) (into_iter_items l.view-iterator) ≡ map vec_items l.fn.transcripts.items ++ map (entries_in (g.C.ShardCore.says l.core).table) l.fn.views.items)
    × (into_iter_len l.view-iterator + vec_len l.transcripts ≤ vec_capacity l.transcripts)
