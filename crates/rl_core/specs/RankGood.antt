-- What is true of a rank at every moment of a run: its entries are its first calls in order, and it is in a block at one shard at most.
use Rattle.std.specs.Prelude.{◌≡◌, ◌≢◌, ℕ, ◌+◌, ◌≤◌, true, false, List, [], ◌∷◌, All, count_by, filter, take, drop, length, map, slice_get, Some}
use Rattle.rl_model.specs.declared.call.Call.{Call}
use Rattle.rl_model.specs.declared.entry.Entry.{Entry}
use Rattle.rl_model.specs.declared.geom.Geom.{Geom}
use Rattle.rl_model.specs.Call.{shard_of}
use Rattle.rl_model.specs.Asked.{Asked, batch_number}
use Rattle.rl_journal.specs.Blocks.{calls_of}
use Rattle.rl_journal.specs.Ranks.{IsRankInOrder}
use Rattle.rl_core.specs.Asks.{is_on, AreBlocks, place_after, asked_of}
use Rattle.rl_core.specs.Desks.{Desk, desk_entries}

-- the calls of a block are the next ones that are asked for, from a number on
abbrev pub AsksNext : ℕ → ℕ → List Asked → ℕ → List Call → Type 0
AsksNext batch part asked n [] = Unit {0}
AsksNext batch part asked n (call ∷ calls) = (slice_get asked n ≡ Some (record { call = call; batch = batch; part = part })) × AsksNext
    batch (part + 1) asked (n + 1) calls

-- a rank is at work on shard s, on this block, whose first call has this number: its next calls after the first `done`, up to those
-- that it has opened
pub record IsAtWork (geom : Geom) (calls : List Call) (asked : List Asked) (done opened s : ℕ) (block : List Call) (seq : ℕ) : Type 0 where
  pub seq_is : seq ≡ done
  pub ends : done + length block ≡ opened
  pub calls_are : take (length block) (drop done calls) ≡ block
  pub next : AsksNext (batch_number (length block)) 0 asked done block
  pub one_shard : All (λ call. shard_of geom call ≡ s) block

-- a rank's desk at shard s: it has an entry for each of the first `done` calls on the shard, in their order, and room for all; no block
-- is open but where the rank stands; and where entries are owed, those are of the next block, and else all calls that were opened are
-- done
pub record IsOn (geom : Geom) (calls : List Call) (asked : List Asked) (done opened s : ℕ) (d : Desk) : Type 0 where
  pub calls_are : calls_of d.kept.items ≡ filter (is_on geom s) (take done calls)
  pub room : count_by (is_on geom s) calls ≤ d.kept.room
  pub elsewhere : s ≢ place_after geom calls opened → d.is_open ≡ false
  pub owing : d.owes ≡ true → d.is_open ≡ true
  pub resting : s ≡ place_after geom calls opened → d.owes ≡ false → done ≡ opened
  pub working : d.owes ≡ true → IsAtWork geom calls asked done opened s d.calls d.seq

-- how many entries there are on all shards
abbrev pub entries_in : List (List Entry) → ℕ
entries_in [] = 0
entries_in (t ∷ ts) = length t + entries_in ts

-- rank k, with these calls of these sizes, of which so many were opened, has these desks, one at each shard
pub record RankGood (geom : Geom) (calls : List Call) (sizes : List ℕ) (opened : ℕ) (desks : List Desk) (k : ℕ) : Type 0 where
  pub done : ℕ
  pub low : opened ≤ length calls
  pub rest : AreBlocks geom (drop opened calls) (drop opened sizes)
  pub order : IsRankInOrder geom k (asked_of calls sizes) done (map desk_entries desks)
  pub total : entries_in (map desk_entries desks) ≡ done
  pub on : (s : ℕ) (d : Desk) → slice_get desks s ≡ Some d → IsOn geom calls (asked_of calls sizes) done opened s d

-- a desk at which nothing was done, with room for the rank's calls on the shard at least
pub record IsFreshDesk (geom : Geom) (calls : List Call) (s : ℕ) (d : Desk) : Type 0 where
  pub shut : d.is_open ≡ false
  pub owing : d.owes ≡ true → d.is_open ≡ true
  pub nothing : d.kept.items ≡ []
  pub room : count_by (is_on geom s) calls ≤ d.kept.room
