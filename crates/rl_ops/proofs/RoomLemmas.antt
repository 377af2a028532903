-- One room more.
use Rattle.std.proofs.Common.{◌≡◌, ℕ, ◌+◌, List, [], ◌∷◌, ◌++◌, length, subst, arith}
use Rattle.rl_model.specs.declared.call.Call.{Call}
use Rattle.rl_model.specs.declared.geom.Geom.{Geom}
use Rattle.rl_ops.specs.declared.room.Room.{Room}
use Rattle.rl_ops.specs.Room.{IsRoom, AreRooms}

-- the room on the shard behind these
pub rooms-push : (geom : Geom) (by_rank : List (List Call)) (shard : ℕ) (rooms : List Room) (room : Room) (next : ℕ) → AreRooms geom by_rank shard rooms → shard + length rooms ≡ next → IsRoom geom by_rank next room → AreRooms geom by_rank shard (rooms ++ room ∷ [])
rooms-push geom by_rank shard [] room next are e is =
    let same : next ≡ shard = omega arith in
    (subst (λ s. IsRoom geom by_rank s room) same is, tt)
rooms-push geom by_rank shard (first ∷ rooms) room next are e is =
    (are.0, rooms-push geom by_rank (shard + 1) rooms room next are.1 (omega arith) is)
