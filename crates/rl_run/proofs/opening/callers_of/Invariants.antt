use Rattle.std.proofs.Common.{◌≡◌, All, map, vec_items, vec_len, vec_capacity, ◌+◌, ◌++◌, ◌≤◌}
use Rattle.rl_run.specs.Runs.{CallerMayWork, made_of, wanted}
use Rattle.rl_run.proofs.opening.callers_of.Given as goal

abbrev pub invariant-loop-geom : goal.invariant-loop-geom
invariant-loop-geom g l =
    (map made_of l.callers.items ++ wanted l.geom l.rank (map vec_items l.calls.items) (map vec_items l.sizes.items) (map vec_items l.rows.items) ≡ wanted l.geom 0 (map vec_items l.fn.calls.items) (map vec_items l.fn.sizes.items) (map vec_items l.fn.rows.items))
    × All (CallerMayWork g.C.ShardCore.says) l.callers.items × (vec_len l.sizes ≡ vec_len l.calls) × (vec_len l.rows ≡ vec_len l.calls) × (vec_len l.calls + l.rank ≤ 32)
    × (vec_len l.calls + vec_len l.callers ≤ vec_capacity l.callers)

abbrev pub decreases-loop-geom : goal.decreases-loop-geom
decreases-loop-geom g l = vec_len l.calls
