-- What a shard's core says of itself, as one value; and a moment of a shard, as one.
use Rattle.std.specs.Prelude.{ℕ, List, [], ◌++◌, slice_set, Option}
use Rattle.rl_word.specs.Acts.{Layout}
use Rattle.rl_word.specs.declared.acts.Atom.{Atom}
use Rattle.rl_model.specs.declared.call.Call.{Call}
use Rattle.rl_step.specs.declared.events.Event.{Event}
use Rattle.rl_step.specs.declared.events.Stepped.{Stepped}
use Rattle.rl_step.specs.Do.{TheWindow, do_atom, do_got}
use Rattle.rl_step.specs.Lock.{Deed}
use Rattle.rl_core.specs.ShardTables.{ShardTable, opening_held, first_views, turned_by}

-- a moment of a shard: its words and cards, each rank's view, and all events and all acts of the lock so far
pub record Moment (V : Type 0) : Type 0 where
  pub held : TheWindow
  pub views : List V
  pub trace : List Event
  pub acts : List Deed

-- what is said of one core
pub record CoreSays (V : Type 0) : Type 1 where
  -- the machine as plain functions; its atoms are the core's
  pub table : ShardTable V
  -- which moments are good
  pub good : Moment V → Type 0
  -- why an atom, or none, is answered as it is, by the words and cards that it found
  pub cause : TheWindow → V → Option Atom → Stepped → Type 0
  -- what the lock says of all events and acts so far, beyond the laws: its own way to say what is promised
  pub further : List Event → List Deed → Type 0
  -- where the ranks sit
  pub layout : Layout

module _ {V : Type 0} (T : ShardTable V) where
  -- before the first atom, over so many nodes, each rank with room for so many entries: nothing has happened
  abbrev pub first_moment : ℕ → List ℕ → Moment V
  first_moment nodes rooms = record { held = opening_held T.site T.behind nodes; views = first_views T 0 rooms; trace = []; acts = [] }

  -- once rank r, with the view v, has made this atom
  abbrev pub after_atom : Moment V → ℕ → V → Atom → Moment V
  after_atom m r v at =
      record {
        held = do_atom r at m.held;
        views = slice_set m.views r (turned_by T m.held v at).view;
        trace = m.trace ++ (turned_by T m.held v at).events;
        acts = m.acts ++ T.deeds v (do_got at m.held.words m.held.cards);
      }

  -- once it has opened this block, whose first call has this number: nothing has happened
  abbrev pub after_opening : Moment V → ℕ → V → List Call → ℕ → Moment V
  after_opening m r v calls seq = record m { views = slice_set m.views r (T.opened calls seq v) }
