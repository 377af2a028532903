-- The seats of a shard: where the shard is new, and where one seat has changed; and callers, where one has changed. For tests.
use Rattle.std.proofs.Common.{◌≡◌, ◌<◌, ◌≢◌, ℕ, ◌*◌, List, length, map, sum, replicate, slice_get, slice_set, get_or, Some, sym, ap, ◌∙◌, subst, ⊎_elim, arith}
use Rattle.std.proofs.lemmas.List.{length-map, length-replicate}
use Rattle.std.proofs.lemmas.List.Folds.{sum_by-replicate}
use Rattle.std.proofs.lemmas.Option.{slice_get-get_or, slice_get_within, get_or_from_slice_get}
use Rattle.rl_word.specs.Shapes.{TheShape, IsProper}
use Rattle.rl_word.specs.laws.Places.{get_set_cases, some_at}
use Rattle.rl_place.specs.Places.{ThePlace}
use Rattle.rl_place.specs.Shapes.{shape_of}
use Rattle.rl_core.specs.ShardTables.{ShardTable, first_views}
use Rattle.rl_core.specs.Moments.{CoreSays}
use Rattle.rl_core.specs.laws.Filling.{first_length}
use Rattle.rl_shard.specs.declared.shard.Shard.{Shard}
use Rattle.rl_shard.specs.declared.seat.Seat.{Seat}
use Rattle.rl_shard.specs.Counting.{first_counted}
use Rattle.rl_shard.specs.Shards.{IsOf, AreOf, counted_at, rank_at}
use Rattle.rl_run.specs.declared.caller.Caller.{Caller}
use Rattle.rl_run.specs.Callers.{IsCaller}
use Rattle.rl_run.specs.Runs.{AreCallers}

-- there is a node
pub node_there : (s : TheShape) → IsProper s → 0 < s.nodes
node_there s p =
    let first = some_at s.node_of 0 p.some in
    let low = p.sits 0 first.0 first.1 in
    omega arith

-- room for one of each rank is as long as the shape's list of ranks
pub room_long : (place : ThePlace) (shape : TheShape) (ranks : ℕ) (room : List ℕ) → shape ≡ shape_of place → ranks ≡ length place.paths → room ≡ replicate ranks 1 → length room ≡ length shape.node_of
room_long place shape ranks room exact there ones =
    ap length ones ∙ length-replicate ranks 1 ∙ there ∙ sym (ap (λ (s : TheShape). length s.node_of) exact ∙ length-map place.paths _)

-- one update of each rank
pub sum_ones : (n : ℕ) → sum (replicate n 1) ≡ n
sum_ones n = let all : sum (replicate n 1) ≡ n * 1 = sum_by-replicate (λ (x : ℕ). x) n 1 in omega arith

module _ {C V : Type 0} where
  -- one caller is changed, and is still its rank's
  pub one_caller_changed : (says : C → CoreSays V) (shards : List (Shard C V)) (cs : List (Caller C V)) (r : ℕ) (c d : Caller C V) → AreCallers says shards cs → slice_get cs r ≡ Some c →
      d.rank ≡ c.rank → IsCaller says shards d → AreCallers says shards (slice_set cs r d)
  one_caller_changed says shards cs r c d are get same is k e at =
      ⊎_elim
      (λ (p : (k ≡ r) × (e ≡ d)). subst (λ z. (z.rank ≡ k) × IsCaller says shards z) (sym p.1) (same ∙ (are r c get).0 ∙ sym p.0, is))
      (λ (p : (k ≢ r) × (slice_get cs k ≡ Some e)). are k e p.1)
      (get_set_cases cs r k d e at)

  -- a new shard has a seat for each rank
  pub new_long : (T : ShardTable V) (queues ranks : ℕ) (seats : List (Seat C V)) → map counted_at seats ≡ first_counted T queues (replicate ranks 1) → length seats ≡ ranks
  new_long T queues ranks seats views =
      sym (length-map seats counted_at) ∙ ap length views ∙ length-map (first_views T 0 (replicate ranks 1)) _ ∙ first_length T 0 (replicate ranks 1) ∙ length-replicate ranks 1

  module _ (says : C → CoreSays V) (shard : Shard C V) where
    -- one seat is changed, and is still its rank's
    pub one_changed : (seats : List (Seat C V)) (r : ℕ) (s t : Seat C V) → AreOf says shard seats → slice_get seats r ≡ Some s → rank_at t ≡ rank_at s → IsOf says shard t → AreOf says shard (slice_set seats r t)
    one_changed seats r s t are get same is k u e =
        ⊎_elim
        (λ (p : (k ≡ r) × (u ≡ t)). subst (λ z. (rank_at z ≡ k) × IsOf says shard z) (sym p.1) (same ∙ (are r s get).0 ∙ sym p.0, is))
        (λ (p : (k ≢ r) × (slice_get seats k ≡ Some u)). are k u p.1)
        (get_set_cases seats r k t u e)

    -- each of the shard's seats
    pub each_of : (seats : List (Seat C V)) → AreOf says shard seats → (i : ℕ) (d : Seat C V) → i < length seats → (rank_at (get_or seats i d) ≡ i) × IsOf says shard (get_or seats i d)
    each_of seats are i d low = are i (get_or seats i d) (slice_get-get_or seats i d low)

    -- all seats are changed, and each is still its rank's
    pub all_changed : (old new : List (Seat C V)) → AreOf says shard old → length new ≡ length old →
        ((i : ℕ) (d : Seat C V) → i < length old → IsOf says shard (get_or new i d) × (rank_at (get_or new i d) ≡ rank_at (get_or old i d))) → AreOf says shard new
    all_changed old new are long each r s get =
        let there : r < length new = slice_get_within new r s get in
        let low : r < length old = omega arith in
        let at : get_or new r s ≡ s = get_or_from_slice_get new r s s get in
        (ap rank_at (sym at) ∙ (each r s low).1 ∙ (each_of old are r s low).0, subst (IsOf says shard) at (each r s low).0)
