-- What a closed shard leaves.
use Rattle.std.specs.Prelude.{◌≡◌, ◌<◌, ℕ, Bool, List, length, map, sum_by, slice_get, Some, vec_items}
use Rattle.std.specs.FinMap as finite
use Rattle.rl_model.specs.declared.entry.Entry.{Entry}
use Rattle.rl_journal.specs.Blocks.{is_tenure}
use Rattle.rl_journal.specs.Legal.{IsLegal, table_after}
use Rattle.rl_journal.specs.History.{history, IsReplayedByOneThread, IsSorted}
use Rattle.rl_site.specs.Opens.{IsOwnTranscript}
use Rattle.rl_core.specs.Moments.{CoreSays}
use Rattle.rl_shard.specs.declared.shard.Shard.{Shard}
use Rattle.rl_shard.specs.declared.seat.Seat.{Seat}
use Rattle.rl_shard.specs.declared.closed.Closed.{Closed}
use Rattle.rl_shard.specs.Tallies.{tally_at}
use Rattle.rl_shard.specs.Queues.{AreTallied}
use Rattle.rl_shard.specs.Reached.{IsLeftBehind}
use Rattle.rl_shard.specs.Shards.{says_at, table_at, desk_at, entries_at, tallies_at}

abbrev pub transcripts_of : Closed → List (List Entry)
transcripts_of e = map vec_items e.transcripts.items

-- the entries in the order in which one thread could have made them
abbrev pub history_of : Closed → List Entry
history_of e = history e.journal.items (transcripts_of e)

module _ {C V : Type 0} where
  -- how often the ranks of these seats settled the queue, and passed it, together
  abbrev pub all_settled : ℕ → List (Seat C V) → ℕ
  all_settled q seats = sum_by (λ s. (tally_at q (tallies_at s)).settled) seats

  abbrev pub all_passed : ℕ → List (Seat C V) → ℕ
  all_passed q seats = sum_by (λ s. (tally_at q (tallies_at s)).passed) seats

  module _ (says : C → CoreSays V) where
    -- the room for the entries of each seat's rank
    abbrev pub rooms_at : Shard C V → List (Seat C V) → List ℕ
    rooms_at shard seats = map (λ s. (desk_at says shard s).kept.room) seats

    -- the parts are those of a shard that was closed with these seats
    pub record IsEnd (shard : Shard C V) (seats : List (Seat C V)) (e : Closed) : Type 0 where
      -- they are what the ranks' machines leave, by some order of their openings and atoms
      pub left_behind : IsLeftBehind (table_at says shard) (says_at says shard).layout.nodes (rooms_at shard seats) e.journal.items (transcripts_of e) e.pairs.items e.queues.items
      -- each transcript is its seat's, and has the rank's entries in order
      pub transcripts_are : transcripts_of e ≡ map (entries_at says shard) seats
      pub own : (r : ℕ) (t : List Entry) → slice_get (transcripts_of e) r ≡ Some t → IsOwnTranscript (table_at says shard).site r t
      -- journal and transcripts are legal: a batch all or nothing, each reply that of a one-thread table at its place
      pub legal : IsLegal (table_at says shard).site.geom e.journal.items (transcripts_of e)
      -- so from the empty table the calls of the history, in order, give every entry its reply
      pub replayed : IsReplayedByOneThread (table_at says shard).site.geom finite.empty 0 (history_of e)
      pub sorted : IsSorted (history_of e)
      -- the pairs are the table after the whole journal, by rising key
      pub pairs_are : e.pairs.items ≡ finite.entries (table_after (table_at says shard).site.geom finite.empty e.journal.items)
      -- each queue's tally is what the ranks have counted, together
      pub settled_are : (q : ℕ) → q < length e.queues.items → (tally_at q e.queues.items).settled ≡ all_settled q seats
      pub passed_are : (q : ℕ) → q < length e.queues.items → (tally_at q e.queues.items).passed ≡ all_passed q seats
      -- budgets in all, and tenures: of the entries that stand for a tenure, which are those of calls that write, or of all calls
      pub tallied : (shares : Bool) → (table_at says shard).tenure ≡ is_tenure shares → AreTallied (table_at says shard).queues shares (history_of e) e.queues.items
