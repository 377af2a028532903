-- A seat's view is one that some state under the rule has, and the work's part of that state's rule says it.
use Rattle.std.proofs.Common.{map, subst, Some, ◌≡◌}
use Rattle.std.specs.List.{slice_get}
use Rattle.rl_word.specs.laws.Places.{get_map}
use Rattle.rl_window.specs.laws.SeatLemmas.{seat_may_be}
use Rattle.rl_shard.specs.Counting.{whole_of}
use Rattle.rl_shard.specs.Shards.{counted_at, view_at, rank_at}
use Rattle.rl_locks.proofs.SeatLoads.{locked_few}
use Rattle.rl_locks.proofs.loads.few_loads.Goals as goal

pub returns : goal.returns
returns g c = λ s call count word is alone stage.
    let at = seat_may_be _ c.args.shard.now.window s.seat is.seat is.kept in
    let has = subst (λ n. slice_get at.0.views n ≡ Some (counted_at s)) at.1 at.0.has in
    locked_few _ _ at.0.held _ _ (map whole_of at.0.views) at.0.is_ruled.0.is_good.rule (rank_at s) (view_at s) (get_map whole_of at.0.views (rank_at s) (counted_at s) has) call count word alone stage
