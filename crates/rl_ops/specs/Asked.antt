-- What a rank asks for, call by call: each with the size of its batch and its place in it.
use Rattle.std.specs.Prelude.{◌≡◌, ℕ, zero, suc, ◌+◌, ◌≤◌, List, [], ◌∷◌, length, take, drop, slice_get, Some, ◌⊎◌}
use Rattle.rl_model.specs.declared.call.Call.{Call}
use Rattle.rl_model.specs.Asked.{Asked, batch_number}
use Rattle.rl_ops.specs.Blocks.{AreOneBlock}

-- calls of one batch from a place in it on
abbrev pub parts_from : ℕ → ℕ → List Call → List Asked
parts_from batch part [] = []
parts_from batch part (call ∷ calls) = record { call = call; batch = batch; part = part } ∷ parts_from batch (part + 1) calls

-- the calls of one block
abbrev pub asked_in : List Call → List Asked
asked_in calls = parts_from (batch_number (length calls)) 0 calls

-- calls with their sizes, after those of a batch up to a place in it: a size begins a block, and 0 goes on with it
abbrev pub asked_after : ℕ → ℕ → List Call → List ℕ → List Asked
asked_after batch part [] sizes = []
asked_after batch part (call ∷ calls) [] = []
asked_after batch part (call ∷ calls) (zero ∷ sizes) = record { call = call; batch = batch; part = part } ∷ asked_after batch (part + 1) calls sizes
asked_after batch part (call ∷ calls) (suc n ∷ sizes) = record { call = call; batch = batch_number (suc n); part = 0 } ∷ asked_after (batch_number (suc n)) 1 calls sizes

-- all calls of a rank
abbrev pub asked_of : List Call → List ℕ → List Asked
asked_of calls sizes = asked_after 0 0 calls sizes

-- a block begins at this place, or nothing is left
abbrev pub BeginsAt : List Call → List ℕ → ℕ → Type 0
BeginsAt calls sizes i = (i ≡ length calls) ⊎ ((n : ℕ) × (slice_get sizes i ≡ Some (suc n)))

-- so many calls from this place on are one block, and after them a block begins or nothing is left
pub record IsBlockAt (shards : ℕ) (calls : List Call) (sizes : List ℕ) (i size : ℕ) : Type 0 where
  pub within : i + size ≤ length calls
  pub one : AreOneBlock shards (take size (drop i calls))
  pub asked : take size (drop i (asked_of calls sizes)) ≡ asked_in (take size (drop i calls))
  pub after : BeginsAt calls sizes (i + size)
