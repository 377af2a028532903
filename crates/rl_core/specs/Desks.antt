-- What a rank has at one shard, and how that goes on: the block that is open goes on, or ends, and then its entries join.
use Rattle.std.specs.Prelude.{◌≡◌, ◌⊎◌, ℕ, Bool, true, false, List, [], ◌++◌, length}
use Rattle.rl_model.specs.declared.call.Call.{Call}
use Rattle.rl_model.specs.declared.entry.Entry.{Entry}
use Rattle.rl_journal.specs.Blocks.{calls_of}
use Rattle.rl_model.specs.Asked.{batch_number}
use Rattle.rl_journal.specs.Ranks.{IsInOrder}
use Rattle.rl_site.specs.Transcript.{TheTranscript}
use Rattle.rl_site.specs.Opens.{Tells}

-- a rank's desk at a shard
pub record Desk : Type 0 where
  -- its entries there, with the room for them
  pub kept : TheTranscript
  -- a block of it is open there; and the entries of the block are still owed: they aren't among these yet
  pub is_open : Bool
  pub owes : Bool
  -- the calls of the block that was opened last, and the number of the first
  pub calls : List Call
  pub seq : ℕ

abbrev pub desk_entries : Desk → List Entry
desk_entries d = d.kept.items

-- the desk of a rank that isn't there
abbrev pub no_desk : Desk
no_desk = record { kept = record { items = []; room = 0 }; is_open = false; owes = false; calls = []; seq = 0 }

-- What holds of each desk by itself: its entries are in order, and none are owed but those of an open block.
pub record IsDesk (d : Desk) : Type 0 where
  pub in_order : IsInOrder d.kept.items
  pub owing : d.owes ≡ true → d.is_open ≡ true

-- a block was opened: these calls, the first of which has this number
pub record OpensBlock (calls : List Call) (seq : ℕ) (d e : Desk) : Type 0 where
  pub same_kept : e.kept ≡ d.kept
  pub is_open : e.is_open ≡ true
  pub owed : e.owes ≡ true
  pub calls_are : e.calls ≡ calls
  pub seq_is : e.seq ≡ seq

-- the block goes on, or there is none: the rank owes what it owed
pub record KeepsBlock (d e : Desk) : Type 0 where
  pub same_calls : e.calls ≡ d.calls
  pub same_seq : e.seq ≡ d.seq
  pub same_kept : e.kept ≡ d.kept
  pub same_owes : e.owes ≡ d.owes

-- the block is done: its entries join, all of them
pub record EndsBlock (shard rank : ℕ) (d e : Desk) : Type 0 where
  pub owed : d.owes ≡ true
  pub is_over : e.owes ≡ false
  pub same_room : e.kept.room ≡ d.kept.room
  pub entries : List Entry
  pub items : e.kept.items ≡ d.kept.items ++ entries
  pub calls_are : calls_of entries ≡ d.calls
  pub tells : Tells shard rank (batch_number (length d.calls)) d.seq 0 entries

-- how the desk of a rank on a shard goes on with an atom, its own or another rank's; no atom opens a block
pub record Turns (shard rank : ℕ) (d e : Desk) : Type 0 where
  pub opens_none : d.is_open ≡ false → e.is_open ≡ false
  pub way : KeepsBlock d e ⊎ EndsBlock shard rank d e
