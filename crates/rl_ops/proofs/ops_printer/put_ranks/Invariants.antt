use Rattle.std.proofs.Common.{◌≡◌, ◌++◌, map}
use Rattle.rl_text.specs.Spelling.{text_of}
use Rattle.rl_ops.specs.Ops.{rank_after_rank}
use Rattle.rl_ops.proofs.ops_printer.put_ranks.Given as goal

-- what was printed and what is left to print
abbrev pub invariant-loop-rank : goal.invariant-loop-rank
invariant-loop-rank l =
    l.out.items ++ text_of (rank_after_rank l.rank-iterator.count (map (λ v. v.items) l.rank-iterator.iter.a.rest.now) (map (λ v. v.items) l.rank-iterator.iter.b.rest.now))
    ≡ l.fn.out.items ++ text_of (rank_after_rank 0 (map (λ v. v.items) l.calls) (map (λ v. v.items) l.sizes))
