-- What a rank asks for, as its list of calls with a size for each: blocks, one after the other.
use Rattle.std.specs.Prelude.{◌≡◌, ◌<◌, ℕ, zero, suc, List, [], ◌∷◌, ◌++◌, All, take, drop, slice_get, slice_index, Option, Some, None, Bool, ◌==◌, ◌&&◌}
use Rattle.rl_model.specs.declared.call.Call.{Call}
use Rattle.rl_model.specs.declared.geom.Geom.{Geom}
use Rattle.rl_model.specs.Call.{shard_of, is_update}
use Rattle.rl_model.specs.Asked.{IsAsked}
pub use Rattle.rl_ops.specs.Asked.{asked_after, asked_of}
pub use Rattle.rl_ops.specs.Blocks.{sizes_of}

-- a call of this shard
abbrev pub is_on : Geom → ℕ → Call → Bool
is_on geom s call = shard_of geom call == s

-- a block that is asked rightly, of one shard
pub record IsBlockOf (geom : Geom) (block : List Call) : Type 0 where
  pub is_asked : IsAsked block
  pub shard : ℕ
  pub there : shard < geom.shards
  pub one_shard : All (λ call. shard_of geom call ≡ shard) block

-- calls and their sizes are those of blocks, one after the other
pub data AreBlocks (geom : Geom) : List Call → List ℕ → Type 0 where
  none : AreBlocks geom [] []
  more : (block calls : List Call) (sizes : List ℕ) → IsBlockOf geom block → AreBlocks geom calls sizes →
      AreBlocks geom (block ++ calls) (sizes_of block ++ sizes)

-- the calls of the block that begins with the call of this number
abbrev pub block_from : List Call → List ℕ → ℕ → List Call
block_from calls sizes n = take (slice_index sizes n) (drop n calls)

-- the shard of a block, which is that of its first call
abbrev pub block_shard : Geom → List Call → ℕ
block_shard geom [] = 0
block_shard geom (call ∷ calls) = shard_of geom call

-- where a rank stands that has opened so many calls: at the shard of the last of them, and before the first at shard 0
abbrev pub call_shard : Geom → Option Call → ℕ
call_shard geom None = 0
call_shard geom (Some call) = shard_of geom call

abbrev pub place_after : Geom → List Call → ℕ → ℕ
place_after geom calls zero = 0
place_after geom calls (suc n) = call_shard geom (slice_get calls n)

-- an update of the shard
abbrev pub is_update_on : Geom → ℕ → Call → Bool
is_update_on geom s call = is_on geom s call && is_update call
