-- Bounded batches of readers by a lock's own acts: what a lock's proof speaks of. BatchLaws shows that it gives the bound over the words.
use Rattle.std.specs.Prelude.{◌≡◌, ℕ, ◌+◌, ◌≤◌, ◌==◌, ◌&&◌, Bool, List, [], ◌∷◌, ◌++◌, nat_lt, if◌then◌else◌, slice_index}
use Rattle.rl_word.specs.Acts.{word_of, written}
use Rattle.rl_step.specs.declared.events.Event.{Event}
use Rattle.rl_step.specs.Lock.{Deed}
use Rattle.rl_step.specs.Queues.{count}
use Rattle.rl_step.specs.Transitions.{Transition, reader_entries}

-- how many of these ranks enter as readers by all acts
abbrev pub readers_in : (ℕ → Bool) → List Deed → ℕ
readers_in these [] = 0
readers_in these (d ∷ ds) = reader_entries these d.events + readers_in these ds

-- An act lowers a word where it writes less than it found. The act and what it told say so, where it told what it found: so does each
-- act through a card.
abbrev pub lowers : ℕ → Deed → Bool
lowers w d = (word_of d.act == w) && nat_lt (written d.act d.got) d.got

-- how many acts lower it
abbrev pub lowerings : ℕ → List Deed → ℕ
lowerings w [] = 0
lowerings w (d ∷ ds) = count (lowers w d) + lowerings w ds

-- Those who have entered since the word was lowered are counted, and are never more than the bound.
abbrev pub since_after : (ℕ → Bool) → ℕ → ℕ → Deed → ℕ
since_after mine w n d = if lowers w d then 0 else n + reader_entries mine d.events

abbrev pub since : (ℕ → Bool) → ℕ → ℕ → List Deed → ℕ
since mine w n [] = n
since mine w n (d ∷ ds) = since mine w (since_after mine w n d) ds

abbrev pub BatchedFrom : (ℕ → Bool) → ℕ → ℕ → ℕ → List Deed → Type 0
BatchedFrom mine w bound n [] = Unit {0}
BatchedFrom mine w bound n (d ∷ ds) = (since_after mine w n d ≤ bound) × BatchedFrom mine w bound (since_after mine w n d) ds

-- Acts are those of one atom, as its words and its events show: they lower no word that has as much after it as before, and by them
-- the readers enter whose entries it told.
pub record AreActsOf (ds : List Deed) (x : Transition) : Type 0 where
  pub lowered : (w : ℕ) → slice_index x.before w ≤ slice_index x.after w → lowerings w ds ≡ 0
  pub entered : (mine : ℕ → Bool) → readers_in mine ds ≡ reader_entries mine x.events

-- so they are of a list of atoms, one atom after the other
pub data AreShown : List Deed → List Transition → Type 0 where
  none : AreShown [] []
  more : (ds later : List Deed) (x : Transition) (xs : List Transition) → AreActsOf ds x → AreShown later xs → AreShown (ds ++ later) (x ∷ xs)

-- what a lock says of all events and acts so far gives what was promised of these events, and of all atoms that show such acts
abbrev pub HandsOn : (List Event → List Deed → Type 0) → (List Event → List Transition → Type 0) → Type 0
HandsOn said promised = (t : List Event) (ds : List Deed) (ts : List Transition) → AreShown ds ts → said t ds → promised t ts

-- ---- the bound, along the acts

module _ (mine : ℕ → Bool) (w bound : ℕ) where
  -- What is kept: so far it is so, and those who have entered since the word was lowered are no more than the word says.
  pub record Batched (words : List ℕ) (deeds : List Deed) : Type 0 where
    pub so_far : BatchedFrom mine w bound 0 deeds
    pub counted : since mine w 0 deeds ≤ slice_index words w
