-- All seats are still the shard's, and no block is open.
use Rattle.std.proofs.Common.{rules, ap, sym, subst, ◌∙◌}
use Rattle.rl_place.specs.Places.{ThePlace}
use Rattle.rl_shard.specs.Shards.{IsShardOf, AreOf, AreClosed}
use Rattle.rmalock.specs.Fresh.{IsFresh}
use Rattle.rmalock.proofs.seat_tests.closed_by_threads.Goals as goal

pub begin_all-requires-clause-fresh : goal.begin_all-requires-clause-fresh
begin_all-requires-clause-fresh g c = λ r s get.
    subst (λ z. IsFresh g.C.ShardCore.says z 0 1 c.in_ok-shard.shard s) (sym (ap (λ (p : ThePlace). p.geom) c.place.view_is)) (c.in_ok-shard.ensures.fresh r s get)

pub all_closed-requires : goal.all_closed-requires
all_closed-requires g c =
    subst (AreOf g.C.ShardCore.says c.in_ok-shard.shard) (sym c.as_slice.ensures.value) c.go_by_turns.ensures.seats

pub close-requires-clause-shard : goal.close-requires-clause-shard
close-requires-clause-shard g c =
    subst (λ n. IsShardOf g.C.ShardCore.says n c.in_ok-shard.shard) (sym (c.go_by_turns.ensures.long ∙ c.go_in_threads.ensures.long ∙ c.begin_all.ensures.long)) c.in_ok-shard.ensures.shard

pub close-requires-clause-closed : goal.close-requires-clause-closed
close-requires-clause-closed g c =
    let closed : AreClosed g.C.ShardCore.says c.in_ok-shard.shard c.as_slice.result.now = c.all_closed.ensures (search rules) in
    subst (AreClosed g.C.ShardCore.says c.in_ok-shard.shard) c.as_slice.ensures.value closed
