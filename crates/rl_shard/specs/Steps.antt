-- What one step of a seat does, and why it is answered as it is.
use Rattle.std.specs.Prelude.{◌≡◌, ◌↔◌, ℕ, ◌+◌, List, length, slice_get, Some, None}
use Rattle.rl_word.specs.declared.acts.Atom.{Atom}
use Rattle.rl_step.specs.declared.events.Event.{Event}
use Rattle.rl_step.specs.declared.events.Stepped.{Stepped}
use Rattle.rl_step.specs.declared.events.Stepped.TheVariants.{Finished}
use Rattle.rl_step.specs.Do.{TheWindow}
use Rattle.rl_step.specs.Core.{Performs}
use Rattle.rl_core.specs.Desks.{Turns}
use Rattle.rl_core.specs.Answering.{AnswersNext}
pub use Rattle.rl_core.specs.Standings.{IsUnhindered}
use Rattle.rl_core.specs.Moments.{CoreSays}
use Rattle.rl_shard.specs.declared.shard.Shard.{Shard}
use Rattle.rl_shard.specs.declared.seat.Seat.{Seat}
use Rattle.rl_shard.specs.declared.counting.CountedView.{CountedView}
use Rattle.rl_shard.specs.Counting.{counted_table, counting_rule, CountGood}
use Rattle.rl_shard.specs.Shards.{IsOf, IsClosed, counting_at, says_at, table_at, counted_at, rank_at, steps_at, desk_at, next_at}

-- Some state of the window that meets the rule has the rank's view, and there the answer has its cause: by the rank's next atom, and by
-- what that finds in the state. Nobody can know more of words that others change at any moment.
pub record HasCause {V : Type 0} (S : CoreSays V) (rank : ℕ) (x : CountedView V) (answer : Stepped) : Type 0 where
  pub held : TheWindow
  pub views : List (CountedView V)
  pub is_ruled : CountGood S held views
  pub has : slice_get views rank ≡ Some x
  pub is_cause : S.cause held x.whole (S.table.core.next x.whole) answer
  -- and there it says of the atom what it has to say
  pub tells : AnswersNext held (S.table.core.next x.whole) answer

-- the cause of a seat's answer
abbrev pub CauseAt : {C V : Type 0} → (C → CoreSays V) → Shard C V → Seat C V → Stepped → Type 0
CauseAt says shard s answer = HasCause (says_at says shard) (rank_at s) (counted_at s) answer

module _ {C V : Type 0} (says : C → CoreSays V) (shard : Shard C V) (s t : Seat C V) where
  -- how the desk of the seat's rank goes on: the block stays what it was, or ends, and then the entries of all its calls join
  abbrev pub TurnsAt : Type 0
  TurnsAt = Turns (table_at says shard).site.shard (rank_at s) (desk_at says shard s) (desk_at says shard t)

  -- the seat has made this atom in one table step: its view and the answer are those after a number that some state under the rule,
  -- with the seat's view at its rank, gives for the atom
  pub record Makes (at : Atom) (answer : Stepped) : Type 0 where
    pub one_step : steps_at t ≡ steps_at s + 1
    pub events : List Event
    pub performs : Performs (counted_table (table_at says shard).core) (counting_rule says (counting_at shard)) (rank_at s) at (counted_at s) (counted_at t) None None events answer

  -- One step of a seat, with its answer: Finished where no block is open, and then nothing changes; else its next atom, in one table step. The
  -- answer has its cause, a rank that is alone on the shard is never hindered, and the desk of the seat's rank goes on.
  pub record IsSeatStep (answer : Stepped) : Type 0 where
    -- the seat stays the shard's, and its rank's
    pub seat : IsOf says shard t
    pub rank : rank_at t ≡ rank_at s
    pub finished : (answer ≡ Finished) ↔ IsClosed says shard s
    pub nothing : IsClosed says shard s → t ≡ s
    pub makes : (at : Atom) → next_at says shard s ≡ Some at → Makes at answer
    pub cause : CauseAt says shard s answer
    pub alone : length (says_at says shard).layout.node_of ≡ 1 → IsUnhindered answer
    pub turned : TurnsAt
