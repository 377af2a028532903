-- What a close takes and reads.
use Rattle.std.specs.Prelude.{◌≡◌, ◌<◌, ◌≤◌, ℕ, ◌+◌, List, [], length, map, slice_get, Some, sum, vec_capacity}
use Rattle.std.specs.FinMap as finite
use Rattle.rl_model.specs.declared.entry.Entry.{Entry}
use Rattle.rl_step.specs.declared.tallies.Tally.{Tally}
use Rattle.rl_journal.specs.Legal.{table_after}
use Rattle.rl_core.specs.Desks.{desk_entries}
use Rattle.rl_core.specs.ShardTables.{ShardTable, AllShut, journal_at}
use Rattle.rl_core.specs.Moments.{Moment, CoreSays}
use Rattle.rl_window.specs.declared.window.WinSeat.{WinSeat}
use Rattle.rl_shard.specs.declared.seat.Seat.{Seat}
use Rattle.rl_shard.specs.declared.closed.Closed.{Closed}
use Rattle.rl_shard.specs.declared.counting.Counting.{Counting}
use Rattle.rl_shard.specs.declared.counting.CountedView.{CountedView}
use Rattle.rl_shard.specs.Tallies.{full, tally_at}
use Rattle.rl_shard.specs.Shards.{tallies_at}
use Rattle.rl_shard.specs.Ends.{all_settled, all_passed}

module _ {V : Type 0} (T : ShardTable V) where
  -- a rank's entries, and those of all ranks
  abbrev pub entries_in : CountedView V → List Entry
  entries_in x = desk_entries (T.own x.whole)

  abbrev pub all_entries : List (CountedView V) → List (List Entry)
  all_entries vs = map entries_in vs

  -- how many pairs the table has at most
  abbrev pub most_pairs : ℕ
  most_pairs = T.site.geom.buckets + T.site.geom.overflow

  -- all parts but the tallies are empty, and have room for what a shard of so many ranks can leave
  pub record IsEmptyWithRoom (ranks : ℕ) (e : Closed) : Type 0 where
    pub journal : (e.journal.items ≡ []) × (sum T.site.rooms ≤ vec_capacity e.journal)
    pub pairs : (e.pairs.items ≡ []) × (most_pairs ≤ vec_capacity e.pairs)
    pub transcripts : (e.transcripts.items ≡ []) × (ranks ≤ vec_capacity e.transcripts)

  -- the table after the journal that they spell
  abbrev pub pairs_left : List ℕ → List (ℕ × ℕ)
  pairs_left words = finite.entries (table_after T.site.geom finite.empty (journal_at T words))

-- the words of a window on which no block is open: those of a good moment at which all are shut
pub record IsLeft {V : Type 0} (S : CoreSays V) (words : List ℕ) : Type 0 where
  pub moment : Moment V
  pub words_are : moment.held.words ≡ words
  pub is_good : S.good moment
  pub closed : AllShut S.table moment.views

module _ {C V : Type 0} where
  -- the window's seat in a shard's, and back
  abbrev pub inner_of : Seat C V → WinSeat (Counting C V) (CountedView V)
  inner_of s = s.seat

  abbrev pub seated : WinSeat (Counting C V) (CountedView V) → Seat C V
  seated s = record { seat = s }

  -- there is a tally for each of so many queues: what the seats hold together, and no count is full
  pub record AreTotals (seats : List (Seat C V)) (queues : ℕ) (tallies : List Tally) : Type 0 where
    pub each : length tallies ≡ queues
    pub settled_are : (q : ℕ) → q < queues → ((tally_at q tallies).settled ≡ all_settled q seats) × (all_settled q seats < full)
    pub passed_are : (q : ℕ) → q < queues → ((tally_at q tallies).passed ≡ all_passed q seats) × (all_passed q seats < full)

  -- and these are so of each queue of which the first seat has a tally
  abbrev pub AreAllTotals : List (Seat C V) → List Tally → Type 0
  AreAllTotals seats tallies = (s : Seat C V) → slice_get seats 0 ≡ Some s → AreTotals seats (length (tallies_at s)) tallies
