-- How many calls and updates the ranks make on the shards.
use Rattle.std.specs.Prelude.{◌≡◌, ℕ, ◌+◌, List, [], ◌∷◌, map, ◌==◌, ◌&&◌, count_by}
use Rattle.rl_model.specs.declared.call.Call.{Call}
use Rattle.rl_model.specs.declared.geom.Geom.{Geom}
use Rattle.rl_model.specs.Call.{shard_of, is_update}
use Rattle.rl_ops.specs.declared.room.Room.{Room}

-- the calls of a shard
abbrev pub calls_on : Geom → ℕ → List Call → ℕ
calls_on geom shard calls = count_by (λ call. shard_of geom call == shard) calls

-- the updates among them
abbrev pub updates_on : Geom → ℕ → List Call → ℕ
updates_on geom shard calls = count_by (λ call. (shard_of geom call == shard) && is_update call) calls

-- the room on a shard is what each rank makes there
pub record IsRoom (geom : Geom) (by_rank : List (List Call)) (shard : ℕ) (room : Room) : Type 0 where
  pub calls : room.calls.items ≡ map (calls_on geom shard) by_rank
  pub updates : room.updates.items ≡ map (updates_on geom shard) by_rank

-- these are the rooms on the shards from one on
abbrev pub AreRooms : Geom → List (List Call) → ℕ → List Room → Type 0
AreRooms geom by_rank shard [] = Unit {0}
AreRooms geom by_rank shard (room ∷ rooms) = IsRoom geom by_rank shard room × AreRooms geom by_rank (shard + 1) rooms
