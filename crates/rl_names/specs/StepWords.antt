-- The words of a step: the atom that the definition makes in it, what that finds, the step's answer, and the events that come with it.
use Rattle.std.specs.Prelude.{ℕ, List, [], ◌∷◌, ◌++◌, drop, filter, flat_map, length, ◌==◌, codes, decimal, Option, Some, None, if◌then◌else◌}
use Rattle.rl_step.specs.declared.events.Event.{Event}
use Rattle.rl_place.specs.Places.{ThePlace}
use Rattle.rl_report.specs.Naming.{TheNaming}
use Rattle.rl_report.specs.Printing.{spaced}
use Rattle.rl_report.specs.Spelling.{event_words, is_printed}
use Rattle.rl_machine.specs.declared.machine.next_atoms.NextAtom.{NextAtom}
use Rattle.rl_machine.specs.NextAtoms.{next_by, behind_journal}
use Rattle.rl_machine.specs.Running.{Running}
use Rattle.rl_machine.specs.Run.{block_opened, place_of, trace_of, stepped, answer_of_step}
use Rattle.rl_names.specs.Layout.{map_of}
use Rattle.rl_names.specs.Spelling.{atom_words, answer_words}

-- the shard of an atom is told where there are more than one
abbrev pub shard_words : ℕ → ℕ → List (List ℕ)
shard_words shards shard = if shards == 1 then [] else codes "shard" ∷ decimal shard ∷ []

-- `event EVENT`, but for touches
abbrev pub told_words : TheNaming → ℕ × Event → List (List ℕ)
told_words naming e = codes "event" ∷ event_words naming e.1

abbrev pub events_words : TheNaming → List (ℕ × Event) → List (List ℕ)
events_words naming events = flat_map (told_words naming) (filter (λ e. is_printed e.1) events)

module _ {V : Type 0} where
  -- the atom by the name of its word, on a shard of this machine; nothing where none is made
  abbrev pub made_words : ThePlace → TheNaming → Running V → ℕ → Option NextAtom → List (List ℕ)
  made_words place naming m shard None = []
  made_words place naming m shard (Some next) = shard_words (length m.shards) shard ++ atom_words naming (map_of place naming (behind_journal m shard)) next.atom next.found

  -- rank k's next atom, where it stands
  abbrev pub next_words : ThePlace → TheNaming → Running V → ℕ → List (List ℕ)
  next_words place naming m k = made_words place naming m (place_of m k) (next_by m k)

  -- the events that a step of rank k adds to the shard where it stands
  abbrev pub new_events : Running V → ℕ → List (ℕ × Event)
  new_events m k = drop (length (trace_of (block_opened m k) (place_of (block_opened m k) k))) (trace_of (stepped m k) (place_of (block_opened m k) k))

  -- a step of rank k in the state m: its atom is made once its next block is opened, where one is opened
  abbrev pub step_words : ThePlace → TheNaming → Running V → ℕ → List (List ℕ)
  step_words place naming m k =
      next_words place naming (block_opened m k) k ++ (answer_words (answer_of_step m k) ++ events_words naming (new_events m k))

  -- and each of them after a space
  abbrev pub spaced_step : ThePlace → TheNaming → Running V → ℕ → List ℕ
  spaced_step place naming m k = spaced (step_words place naming m k)
