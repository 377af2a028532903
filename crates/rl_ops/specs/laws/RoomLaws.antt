-- Rooms are taken one after the other.
use Rattle.std.specs.Prelude.{◌≡◌, ℕ, ◌+◌, ◌<◌, List, [], ◌∷◌, length, slice_index_or}
use Rattle.std.specs.List.{remove}
use Rattle.std.proofs.Common.{subst, sym, arith}
use Rattle.rl_model.specs.declared.call.Call.{Call}
use Rattle.rl_model.specs.declared.geom.Geom.{Geom}
use Rattle.rl_ops.specs.declared.room.Room.{Room}
use Rattle.rl_ops.specs.Room.{IsRoom, AreRooms}

-- The rooms of the shards from one on are left. The first is that of the first of these shards, and behind it those of the others are
-- left.
pub first_room : (geom : Geom) (by_rank : List (List Call)) (shard : ℕ) (rooms : List Room) (first : Room) → AreRooms geom by_rank shard rooms → length rooms + shard ≡ geom.shards → shard < geom.shards → first ≡ slice_index_or rooms 0 first →
    IsRoom geom by_rank shard first × AreRooms geom by_rank (shard + 1) (remove rooms 0) × (length (remove rooms 0) + (shard + 1) ≡ geom.shards)
first_room geom by_rank shard [] first are left low e = absurd (omega arith)
first_room geom by_rank shard (room ∷ rooms) first are left low e =
    let same : first ≡ room = e in
    (subst (IsRoom geom by_rank shard) (sym same) are.0, are.1, omega arith)
