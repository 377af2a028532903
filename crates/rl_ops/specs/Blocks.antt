-- Blocks: what a rank asks for in one go, which is one call alone, or the calls of a batch.
use Rattle.std.specs.Prelude.{◌≡◌, ℕ, suc, ◌<◌, List, [], ◌∷◌, length, map}
use Rattle.std.specs.List.{AllByRecursion}
use Rattle.rl_model.specs.declared.call.Call.{Call}
use Rattle.rl_model.specs.Call.{shard_of}
use Rattle.rl_model.specs.Asked.{IsAsked}
use Rattle.rl_ops.specs.CallSpelling.{CallFits}

-- a rank, and the calls that it asks for in one go
pub record Block : Type 0 where
  pub rank : ℕ
  pub calls : List Call

-- the calls of blocks, each with its rank
abbrev pub block_calls : Block → List (ℕ × Call)
block_calls block = map (λ call. (block.rank, call)) block.calls

-- the sizes of a block's calls: of the first the number of them all, and 0 of the others
abbrev pub sizes_of : List Call → List ℕ
sizes_of [] = []
sizes_of (call ∷ calls) = suc (length calls) ∷ map (λ _. 0) calls

-- the same, each with its rank
abbrev pub block_sizes : Block → List (ℕ × ℕ)
block_sizes block = map (λ size. (block.rank, size)) (sizes_of block.calls)

-- the shard of a call on a table of so many shards, whatever the size of each
abbrev pub shard_among : ℕ → Call → ℕ
shard_among shards call = shard_of (record { shards = shards; buckets = 1; overflow = 0 }) call

-- a call alone, or 2 to 8 updates of one shard, each of which fits
pub record AreOneBlock (shards : ℕ) (calls : List Call) : Type 0 where
  pub asked : IsAsked calls
  pub shard : ℕ
  pub one_shard : AllByRecursion (λ call. shard_among shards call ≡ shard) calls
  pub fit : AllByRecursion (CallFits shards) calls

-- and the rank is there
abbrev pub BlockFits : ℕ → ℕ → Block → Type 0
BlockFits ranks shards block = (block.rank < ranks) × AreOneBlock shards block.calls
