-- To which moments the ranks of a shard come by what they do: from the opening, by openings of blocks and by atoms, one after the other, in
-- some order. And what they leave of the shard where they stop.
use Rattle.std.specs.Prelude.{◌≡◌, ◌<◌, ℕ, List, length, map, slice_get, Some}
use Rattle.std.specs.FinMap as finite
use Rattle.rl_word.specs.declared.acts.Atom.{Atom}
use Rattle.rl_model.specs.declared.call.Call.{Call}
use Rattle.rl_model.specs.declared.entry.Entry.{Entry}
use Rattle.rl_step.specs.declared.tallies.Tally.{Tally}
use Rattle.rl_step.specs.Queues.{settled, passed}
use Rattle.rl_journal.specs.Legal.{table_after}
use Rattle.rl_journal.specs.Tenures.{tally_at}
use Rattle.rl_core.specs.Desks.{desk_entries}
use Rattle.rl_core.specs.ShardTables.{ShardTable, AllShut, journal_at}
use Rattle.rl_core.specs.Moments.{Moment, first_moment, after_atom, after_opening}
use Rattle.rl_core.specs.ShardLaws.{MayOpen}

module _ {V : Type 0} (T : ShardTable V) where
  -- The ranks' machines, of this table, come to this moment: from the opening on so many nodes, where each rank has so much room for its
  -- entries, by what one rank after the other does.
  pub data IsReached (nodes : ℕ) (rooms : List ℕ) : Moment V → Type 0 where
    -- before anything is done: the opening words, free cards and first views, and nothing has happened
    opening : IsReached nodes rooms (first_moment T nodes rooms)
    -- a rank opens a block that it may open
    opens : (m : Moment V) (r : ℕ) (v : V) (calls : List Call) (seq : ℕ) → IsReached nodes rooms m → slice_get m.views r ≡ Some v → MayOpen T r v calls seq →
        IsReached nodes rooms (after_opening T m r v calls seq)
    -- a rank makes its next atom
    makes : (m : Moment V) (r : ℕ) (v : V) (at : Atom) → IsReached nodes rooms m → slice_get m.views r ≡ Some v → T.core.next v ≡ Some at → IsReached nodes rooms (after_atom T m r v at)

  -- This is what the ranks leave: at a moment to which they come, and at which no block is open, the words have this journal, the ranks have
  -- these entries, the pairs are the table after the journal, and each queue was settled and passed as often as its tally says.
  pub record IsLeftBehind (nodes : ℕ) (rooms : List ℕ) (journal : List Entry) (transcripts : List (List Entry)) (pairs : List (ℕ × ℕ)) (tallies : List Tally) : Type 0 where
    pub moment : Moment V
    pub reached : IsReached nodes rooms moment
    pub closed : AllShut T moment.views
    pub journal_is : journal ≡ journal_at T moment.held.words
    pub transcripts_are : transcripts ≡ map (λ v. desk_entries (T.own v)) moment.views
    pub pairs_are : pairs ≡ finite.entries (table_after T.site.geom finite.empty (journal_at T moment.held.words))
    pub settled_are : (q : ℕ) → q < length T.queues → (tally_at q tallies).settled ≡ settled q moment.trace
    pub passed_are : (q : ℕ) → q < length T.queues → (tally_at q tallies).passed ≡ passed q moment.trace
