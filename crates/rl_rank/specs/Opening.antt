-- How a rank begins, and how a block is opened.
use Rattle.std.specs.Prelude.{ℕ, List, Option, Some, None}
use Rattle.rl_model.specs.declared.call.Call.{Call}
use Rattle.rl_step.specs.Lock.{LockTable}
use Rattle.rl_step.specs.declared.cores.Plan.{Plan}
use Rattle.rl_word.specs.declared.classes.Mode.{Mode}
use Rattle.rl_rank.specs.Running.{LockAt}
use Rattle.rl_rank.specs.declared.card_state.CardState.TheVariants.{Free}
use Rattle.rl_rank.specs.declared.whole.WholeView.{WholeView}

-- the lock's view where it is asked for in this mode, if it is
abbrev pub asked_if : {V : Type 0} → LockTable V → V → Option Mode → V
asked_if T v None = v
asked_if T v (Some m) = T.ask v m

-- the plan that a rank keeps which was in no card yet: nobody reads it
abbrev pub no_plan : Plan
no_plan = record { act = None; home = 0 }

module _ {V K : Type 0} where
  -- a rank's view before its first block, with room for so many entries
  abbrev pub first_view : LockAt V K → ℕ → ℕ → WholeView V K
  first_view L room rank = record { side = record { view = L.table.first rank; card = Free }; kept = no_plan; rank = rank; work = L.work.first rank room }

  -- the view with this block open, whose first call has this number: the lock is asked for in the block's mode, if it is
  abbrev pub opened_in : LockAt V K → List Call → ℕ → WholeView V K → WholeView V K
  opened_in L calls seq x =
      record x { side = record { view = asked_if L.table x.side.view (L.work.asks calls); card = x.side.card }; work = L.work.opens x.rank x.work calls seq }
