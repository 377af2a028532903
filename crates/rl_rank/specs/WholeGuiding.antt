-- How urgently a rank goes on at a shard: who is in a card before all others, then as the lock says, and behind all these a rank that is out
-- of the lock with a block open.
use Rattle.std.specs.Prelude.{ℕ, ◌+◌, Bool, true, false, Option, Some, None}
use Rattle.rl_step.specs.declared.events.Standing.{Standing}
use Rattle.rl_step.specs.declared.events.Standing.TheVariants.{Out, Asking, Writer, Reader, Leaving}
use Rattle.rl_ending.specs.Guiding.{UrgencyOf}
use Rattle.rl_rank.specs.declared.card_state.CardState.{CardState}
use Rattle.rl_rank.specs.declared.card_state.CardState.TheVariants.{Free, InCard, Loaded, ToLeave}
use Rattle.rl_rank.specs.declared.whole.WholeView.{WholeView}
use Rattle.rl_rank.specs.Running.{LockAt}
use Rattle.rl_rank.specs.Whole.{lock_words}

-- a rank of which the lock says nothing, by its standing and whether its block is open
abbrev pub out_urgency : Standing → Bool → Option ℕ
out_urgency Out true = Some 9
out_urgency Out false = None
out_urgency Asking in_block = None
out_urgency Writer in_block = None
out_urgency Reader in_block = None
out_urgency Leaving in_block = None

-- a rank that is in no card: the lock's numbers are less than 8
abbrev pub free_urgency : Option ℕ → Standing → Bool → Option ℕ
free_urgency (Some urgency) standing in_block = Some (urgency + 1)
free_urgency None standing in_block = out_urgency standing in_block

-- any rank, by its card state, and by how urgent it is if it is in no card
abbrev pub card_urgency : CardState → Option ℕ → Option ℕ
card_urgency Free urgency = urgency
card_urgency InCard urgency = Some 0
card_urgency (Loaded value) urgency = Some 0
card_urgency (ToLeave node) urgency = Some 0

-- over a lock that says how urgent its ranks are
abbrev pub whole_urgent : {V K : Type 0} → LockAt V K → UrgencyOf V → UrgencyOf (WholeView V K)
whole_urgent L urgent words x =
    card_urgency x.side.card (free_urgency (urgent (lock_words L words) x.side.view) (L.table.standing x.side.view) (L.work.is_open x.work))
