-- Each seat is still the shard's, and its rank's.
use Rattle.std.proofs.Common.{rules, ◌≡◌, length, subst, ap, sym, ◌∙◌}
use Rattle.rl_shard.specs.Shards.{IsOf, AreOf, rank_at}
use Rattle.rl_run.proofs.Running.{written_back}
use Rattle.rmalock.proofs.SeatLists.{each_of, all_changed}
use Rattle.rmalock.proofs.seat_tests.go_in_threads.Goals as goal

pub for_each_mut-requires-clause-accepts : goal.for_each_mut-requires-clause-accepts
for_each_mut-requires-clause-accepts g c =
    let are : AreOf g.C.ShardCore.says c.args.shard.now c.as_mut_slice.result.now = subst (AreOf g.C.ShardCore.says c.args.shard.now) (sym c.as_mut_slice.ensures.value) c.requires in
    λ lives within i p h e. subst (IsOf g.C.ShardCore.says c.args.shard.now) (sym e) (each_of g.C.ShardCore.says c.args.shard.now c.as_mut_slice.result.now are i p.now h).1

pub returns-clause-seats : goal.returns-clause-seats
returns-clause-seats g c =
    let old = c.as_mut_slice.result.now in
    let new = c.for_each_mut.new.s in
    let are : AreOf g.C.ShardCore.says c.args.shard.now old = subst (AreOf g.C.ShardCore.says c.args.shard.now) (sym c.as_mut_slice.ensures.value) c.requires in
    let long : length new ≡ length old = search rules in
    subst (AreOf g.C.ShardCore.says c.args.shard.now) (sym (written_back c.args.seats.now.items new c.args.seats.now.len (search rules)))
    (all_changed g.C.ShardCore.says c.args.shard.now old new are long
    (λ i d h. let q = c.for_each_mut.ensures i d h in (subst (IsOf g.C.ShardCore.says c.args.shard.now) q.1.left q.1.call.0, ap rank_at (sym q.1.left) ∙ q.1.call.1 ∙ ap rank_at q.1.argument_is)))
