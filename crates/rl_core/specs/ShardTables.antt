-- A rank's machine on one shard as plain functions, with what machines, shards, seats and callers read of it: the wall between a lock
-- with its work and all that stands above.
use Rattle.std.specs.Prelude.{◌≡◌, ℕ, ◌+◌, Bool, false, List, [], ◌∷◌, ◌++◌, replicate, take, drop, slice_get, Option, Some}
use Rattle.rl_word.specs.Shapes.{TheShape}
use Rattle.rl_word.specs.declared.shapes.Knobs.{Knobs}
use Rattle.rl_word.specs.declared.acts.Act.{Act}
use Rattle.rl_word.specs.declared.acts.Atom.{Atom}
use Rattle.rl_model.specs.declared.call.Call.{Call}
use Rattle.rl_model.specs.declared.entry.Entry.{Entry}
use Rattle.rl_model.specs.declared.geom.Geom.{Geom}
use Rattle.rl_step.specs.declared.events.Standing.{Standing}
use Rattle.rl_step.specs.Core.{CoreTable, Turned}
use Rattle.rl_step.specs.Do.{TheWindow, do_words, do_got}
use Rattle.rl_step.specs.Lock.{Deed}
use Rattle.rl_step.specs.Transitions.{Transition}
use Rattle.rl_step.specs.Queues.{QueueOf}
use Rattle.rl_site.specs.Site.{Site, lock_base, journal_of}
use Rattle.rl_site.specs.Opens.{opening_words}
use Rattle.rl_core.specs.Desks.{Desk, desk_entries}

pub record ShardTable (V : Type 0) : Type 0 where
  -- the atoms: a view's next one and what it leaves, how many words there are, and the home of each
  pub core : CoreTable V
  -- the shard's number, the size of its table, and how many updates each rank may make on it; and how many words stand behind the journal
  pub site : Site
  pub behind : ℕ
  -- of these the last are those of the work's own, if it has any: the number of the first, and how many
  pub own_at : ℕ
  pub own_words : ℕ
  -- a rank's view before its first block: by the room for its entries, and its number
  pub first : ℕ → ℕ → V
  -- the view with this block open, whose first call has this number; no table step
  pub opened : List Call → ℕ → V → V
  -- the acts of the lock that an atom decides which found this number
  pub deeds : V → ℕ → List Deed
  -- how a rank with this view stands on the shard, asking while a block of it is open that isn't at the lock; and the node whose card it is in
  pub standing : V → Standing
  pub card : V → Option ℕ
  -- the rank's desk as its view alone tells it, and as the words tell it too, which may hold entries that the rank hasn't taken in yet: of
  -- the words and the rank
  pub own : V → Desk
  pub desk : List ℕ → ℕ → V → Desk
  -- the lock's queues and cohorts, which entries stand for a tenure of it by a writer, and which acts each rank may make of its words
  pub queues : List QueueOf
  pub cohort : ℕ → Bool
  pub tenure : Entry → Bool
  pub may_make : ℕ → Act → Bool
  -- whether a block may be a batch; else each is a call alone
  pub batches : Bool

abbrev pub site_with : Geom → ℕ → List ℕ → Site
site_with geom shard rooms = record { geom = geom; shard = shard; rooms = rooms }

-- the words and cards at the start, with so many words behind the journal: word 0 is 1, the count is 0, the volume is that of the empty
-- table, and all else is 0
abbrev pub opening_held : Site → ℕ → ℕ → TheWindow
opening_held site behind nodes = record { words = opening_words site ++ replicate behind 0; cards = replicate nodes 0 }

module _ {V : Type 0} (T : ShardTable V) where
  -- the views of the ranks from one on, before their first block, with these rooms
  abbrev pub first_views : ℕ → List ℕ → List V
  first_views rank [] = []
  first_views rank (room ∷ rooms) = T.first room rank ∷ first_views (rank + 1) rooms

  -- the words behind the journal: the lock's, as the lock numbers them, and behind these the work's own
  abbrev pub words_behind : List ℕ → List ℕ
  words_behind words = drop (lock_base T.site) words

  -- an atom of a rank with this view: the lock's words before and after it, and what it told
  abbrev pub transition_by : TheWindow → V → Atom → Transition
  transition_by h v at =
      record { before = words_behind h.words; after = words_behind (do_words at h.words); events = (T.core.after v (do_got at h.words h.cards)).events }

  -- what an atom of a rank with this view leaves, by the words and cards that it finds
  abbrev pub turned_by : TheWindow → V → Atom → Turned V
  turned_by h v at = T.core.after v (do_got at h.words h.cards)

  -- no block of any rank is open
  abbrev pub AllShut : List V → Type 0
  AllShut vs = (r : ℕ) (v : V) → slice_get vs r ≡ Some v → (T.own v).is_open ≡ false

  -- the shard's journal, as its words say
  abbrev pub journal_at : List ℕ → List Entry
  journal_at words = journal_of T.site (take (lock_base T.site) words)

  -- the entries of the ranks from one on
  abbrev pub kept_in : List ℕ → ℕ → List V → List (List Entry)
  kept_in words rank [] = []
  kept_in words rank (v ∷ vs) = desk_entries (T.desk words rank v) ∷ kept_in words (rank + 1) vs

-- it is so of each shard as it is defined
abbrev pub OfDefined : {V : Type 0} → (TheShape → ℕ → Knobs → Site → ShardTable V) → (TheShape → ℕ → Knobs → ShardTable V → Type 0) → Type 0
OfDefined defined P = (shape : TheShape) (home : ℕ) (knobs : Knobs) (site : Site) → P shape home knobs (defined shape home knobs site)

-- by whatever words, the desk of a rank is the one that its view tells
abbrev pub HasOwnDesks : {V : Type 0} → ShardTable V → Type 0
HasOwnDesks T = (words : List ℕ) (rank : ℕ) (v : _) → T.desk words rank v ≡ T.own v

-- the words at the start
abbrev pub words_at_first : {V : Type 0} → ShardTable V → List ℕ
words_at_first T = opening_words T.site ++ replicate T.behind 0
