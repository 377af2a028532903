use Rattle.std.proofs.Common.{◌≡◌}
use Rattle.rl_ops.specs.ByRank.{by_rank}
use Rattle.rl_making.specs.Generate.{drawn_calls, dealt, sized}
use Rattle.rl_making.proofs.generating.ops_of.Given as goal

-- the calls so far
abbrev pub invariant-loop-index : goal.invariant-loop-index
invariant-loop-index l = record {
  state : l.generator.state ≡ (drawn_calls l.number l.index).1;
  calls : l.by_rank ≡ by_rank l.ranks (dealt l.ranks (drawn_calls l.number l.index).0);
  sizes : l.sizes ≡ by_rank l.ranks (sized (dealt l.ranks (drawn_calls l.number l.index).0));
}
