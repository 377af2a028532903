-- For tests: a seat that can begin one call.
use Rattle.std.specs.Prelude.{◌≡◌, ◌≤◌, ℕ, [], slice_index}
use Rattle.rl_model.specs.declared.geom.Geom.{Geom}
use Rattle.rl_core.specs.Moments.{CoreSays}
use Rattle.rl_shard.specs.declared.shard.Shard.{Shard}
use Rattle.rl_shard.specs.declared.seat.Seat.{Seat}
use Rattle.rl_shard.specs.Shards.{IsOf, IsClosed, table_at, desk_at, entries_at, rank_at}

-- the seat has made no entry, and has room for an entry and for so many updates
pub record IsFresh {C V : Type 0} (says : C → CoreSays V) (geom : Geom) (number places : ℕ) (shard : Shard C V) (s : Seat C V) : Type 0 where
  pub is_of : IsOf says shard s
  pub closed : IsClosed says shard s
  pub geom_is : (table_at says shard).site.geom ≡ geom
  pub number_is : (table_at says shard).site.shard ≡ number
  pub nothing : entries_at says shard s ≡ []
  pub room : 1 ≤ (desk_at says shard s).kept.room
  pub place : places ≤ slice_index (table_at says shard).site.rooms (rank_at s)
