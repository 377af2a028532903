use Rattle.std.proofs.Common.{◌≡◌, ◌<◌, ◌^◌, ◌++◌, All, map, vec_len}
use Rattle.rl_shard.specs.declared.closed.Closed.{Closed}
use Rattle.rl_run.specs.Runs.{told}
use Rattle.rl_run.specs.Told.{ToldNumbersFit, part_of}
use Rattle.rl_run.proofs.whole_run.parts_of.Given as goal

-- the parts so far, and whatever the others will be
abbrev pub invariant-loop-alloc : goal.invariant-loop-alloc
invariant-loop-alloc l =
    All (λ (e : Closed). vec_len e.journal < 2 ^ 32) l.ends.items × (l.parts.items ++ map part_of (map told l.ends.items) ≡ map part_of (map told l.fn.ends.items))
    × (All ToldNumbersFit (map told l.ends.items) → All ToldNumbersFit (map told l.fn.ends.items))

abbrev pub decreases-loop-alloc : goal.decreases-loop-alloc
decreases-loop-alloc l = vec_len l.ends
