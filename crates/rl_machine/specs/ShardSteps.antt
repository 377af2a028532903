-- What a step does on one shard: a block is opened, or an atom is made; and its answer.
use Rattle.std.specs.Prelude.{ℕ, List, [], ◌∷◌, ◌++◌, map, Bool, false, slice_get, slice_set, Option, Some, None}
use Rattle.rl_word.specs.declared.acts.Atom.{Atom}
use Rattle.rl_model.specs.declared.call.Call.{Call}
use Rattle.rl_model.specs.declared.entry.Entry.{Entry}
use Rattle.rl_step.specs.declared.events.Event.{Event}
use Rattle.rl_step.specs.declared.events.Stepped.{Stepped}
use Rattle.rl_step.specs.declared.events.Stepped.TheVariants.{Finished}
use Rattle.rl_step.specs.Lock.{Deed}
use Rattle.rl_step.specs.Transitions.{Transition}
use Rattle.rl_step.specs.Do.{TheWindow, do_atom, do_got}
use Rattle.rl_machine.specs.Running.{ShardRun}
use Rattle.rl_core.specs.ShardTables.{ShardTable, transition_by}
use Rattle.rl_core.specs.Desks.{Desk, desk_entries, no_desk}

-- the events of the step with this number
abbrev pub numbered : ℕ → List Event → List (ℕ × Event)
numbered n es = map (λ e. (n, e)) es

module _ {V : Type 0} where
  -- rank k, if it has a view, opens a block, whose first call has the number seq
  abbrev pub opened_at : ShardRun V → ℕ → List Call → ℕ → Option V → ShardRun V
  opened_at S k block seq None = S
  opened_at S k block seq (Some x) = record S { views = slice_set S.views k (S.table.opened block seq x) }

  abbrev pub opened_on : ℕ → List Call → ℕ → ShardRun V → ShardRun V
  opened_on k block seq S = opened_at S k block seq (slice_get S.views k)

  -- rank k, with the view x, makes this atom, if it is one, in the step with this number
  abbrev pub makes : ShardRun V → ℕ → ℕ → V → Option Atom → ShardRun V
  makes S k step x None = S
  makes S k step x (Some at) =
      record S {
        held = do_atom k at S.held;
        views = slice_set S.views k (S.table.core.after x (do_got at S.held.words S.held.cards)).view;
        trace = S.trace ++ numbered step (S.table.core.after x (do_got at S.held.words S.held.cards)).events;
      }

  -- the same with the view's own next atom, for a rank that may not be there
  abbrev pub made_at : ShardRun V → ℕ → ℕ → Option V → ShardRun V
  made_at S k step None = S
  made_at S k step (Some x) = makes S k step x (S.table.core.next x)

  abbrev pub atom_on : ℕ → ℕ → ShardRun V → ShardRun V
  atom_on k step S = made_at S k step (slice_get S.views k)

  -- rank k opens a block, and makes its first atom in the step with this number
  abbrev pub block_on : ℕ → ℕ → List Call → ℕ → ShardRun V → ShardRun V
  block_on k step block seq S = atom_on k step (opened_on k block seq S)

  -- the answer of an atom that finds these words and cards; Finished where there is none
  abbrev pub answer_to : ShardTable V → TheWindow → V → Option Atom → Stepped
  answer_to T h x None = Finished
  answer_to T h x (Some at) = (T.core.after x (do_got at h.words h.cards)).stepped

  abbrev pub answer_at : ShardRun V → Option V → Stepped
  answer_at S None = Finished
  answer_at S (Some x) = answer_to S.table S.held x (S.table.core.next x)

  abbrev pub answer_on : ℕ → ShardRun V → Stepped
  answer_on k S = answer_at S (slice_get S.views k)

  -- the atom as the lock's words show it, if it is one
  abbrev pub transition_of : ShardRun V → V → Option Atom → List Transition
  transition_of S x None = []
  transition_of S x (Some at) = transition_by S.table S.held x at ∷ []

  abbrev pub transitions_at : ShardRun V → Option V → List Transition
  transitions_at S None = []
  transitions_at S (Some x) = transition_of S x (S.table.core.next x)

  abbrev pub transitions_by : ℕ → ShardRun V → List Transition
  transitions_by k S = transitions_at S (slice_get S.views k)

  -- the acts of the lock that the atom decides
  abbrev pub deeds_to : ShardRun V → V → Option Atom → List Deed
  deeds_to S x None = []
  deeds_to S x (Some at) = S.table.deeds x (do_got at S.held.words S.held.cards)

  abbrev pub deeds_at : ShardRun V → Option V → List Deed
  deeds_at S None = []
  deeds_at S (Some x) = deeds_to S x (S.table.core.next x)

  abbrev pub deeds_on : ℕ → ShardRun V → List Deed
  deeds_on k S = deeds_at S (slice_get S.views k)

  -- the desk of rank k on the shard, and its entries there
  abbrev pub desk_at : ShardTable V → List ℕ → ℕ → Option V → Desk
  desk_at T words k None = no_desk
  desk_at T words k (Some x) = T.desk words k x

  abbrev pub desk_on : ℕ → ShardRun V → Desk
  desk_on k S = desk_at S.table S.held.words k (slice_get S.views k)

  abbrev pub kept_on : ℕ → ShardRun V → List Entry
  kept_on k S = desk_entries (desk_on k S)

  -- whether a call of rank k is open on the shard: it is until its last atom was made, the Leave of a card among them
  abbrev pub open_at : ShardTable V → Option V → Bool
  open_at T None = false
  open_at T (Some x) = (T.own x).is_open

  abbrev pub open_on : ℕ → ShardRun V → Bool
  open_on k S = open_at S.table (slice_get S.views k)
