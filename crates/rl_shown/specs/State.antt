-- The state before a step of a replay: each word by its name, with its home and its value; who is in a card; and how each rank stands.
use Rattle.std.specs.Prelude.{◌≡◌, ℕ, ◌==◌, List, [], ◌∷◌, ◌++◌, Bool, true, false, not, codes, decimal, flat_map, length, sum_by, take, slice_get, slice_index, Option, Some, None}
use Rattle.std.specs.List.{AllByRecursion, range_with_len}
use Rattle.rl_text.specs.Spelling.{text_of}
use Rattle.rl_step.specs.declared.events.Standing.{Standing}
use Rattle.rl_step.specs.declared.events.Standing.TheVariants as standing
use Rattle.rl_place.specs.Places.{ThePlace}
use Rattle.rl_place.specs.Shapes.{shape_of, knobs_of}
use Rattle.rl_ops.specs.declared.ops.Ops.{Ops}
use Rattle.rl_ops.specs.declared.schedule.Schedule.{Schedule}
use Rattle.rl_ops.specs.declared.schedule.Turn.{Turn}
use Rattle.rl_ops.specs.Schedule.{TurnFits, steps_of}
use Rattle.rl_site.specs.Site.{lock_base}
use Rattle.rl_report.specs.Naming.{TheNaming, naming_of}
use Rattle.rl_names.specs.declared.word_map.WordMap.{WordMap}
use Rattle.rl_names.specs.declared.word_name.WordName.{WordName}
use Rattle.rl_names.specs.declared.word_name.WordName.TheVariants as word
use Rattle.rl_names.specs.Layout.{map_of}
use Rattle.rl_names.specs.Names.{name_of}
use Rattle.rl_names.specs.Spelling.{name_words, found_words}
use Rattle.rl_core.specs.Moments.{CoreSays}
use Rattle.rl_machine.specs.Running.{ShardRun, Running, TheMachine, running}
use Rattle.rl_machine.specs.Run.{on_shard, place_of, done_of, run_of, ranks_of_turns}
use Rattle.rl_machine.specs.Start.{start_of}
use Rattle.rl_machine.specs.Whereabouts.{standing_by, card_by}
use Rattle.rl_locks.specs.Kinds.{Defined, lock_kind_of}
use Rattle.rl_inputs.specs.declared.replay.Replay.{Replay}
use Rattle.rl_viewer.specs.declared.asking.Window.{Window}
use Rattle.rl_shown.specs.Listing.{shown}

-- ---- words

-- a word is told, but for word 0, which is always 1, and a word of the journal that is 0
abbrev pub is_told : WordName → ℕ → Bool
is_told word.Fixed value = false
is_told (word.Journal place i) value = not (value == 0)
is_told _ value = true

-- `word SHARD NODE NAME = V`, of a word that lives on this node, and has this value; the same where it is told
abbrev pub word_line : TheNaming → ℕ → ℕ → WordName → ℕ → List (List ℕ)
word_line naming shard node name value = codes "word" ∷ decimal shard ∷ decimal node ∷ (name_words naming name ++ found_words value)

abbrev pub word_lines : TheNaming → ℕ → ℕ → WordName → ℕ → List (List (List ℕ))
word_lines naming shard node name value = shown (is_told name value) (word_line naming shard node name value)

-- all words of a shard by their numbers: these are their homes, and their values
abbrev pub words_lines : TheNaming → WordMap → ℕ → (ℕ → ℕ) → List ℕ → List (List (List ℕ))
words_lines naming map shard home words = flat_map (λ w. word_lines naming shard (home w) (name_of map w) (slice_index words w)) (range_with_len 0 (length words))

module _ {V : Type 0} where
  abbrev pub shard_lines : ThePlace → TheNaming → ℕ → ShardRun V → List (List (List ℕ))
  shard_lines place naming s S = words_lines naming (map_of place naming (lock_base S.table.site)) s S.table.core.home S.held.words

  -- those of the shard with this number
  abbrev pub lines_of_shard : ThePlace → TheNaming → Running V → ℕ → List (List (List ℕ))
  lines_of_shard place naming m s = on_shard [] (shard_lines place naming s) (slice_get m.shards s)

module _ {C V : Type 0} (says : C → CoreSays V) where
  -- those of a shard whose core is this one
  abbrev pub core_lines : TheNaming → WordMap → ℕ → C → List ℕ → List (List (List ℕ))
  core_lines naming map shard core words = words_lines naming map shard (says core).table.core.home words

  -- those of all shards of a machine
  abbrev pub machine_lines : ThePlace → TheNaming → TheMachine C V → List (List (List ℕ))
  machine_lines place naming m = flat_map (lines_of_shard place naming (running says m)) (range_with_len 0 (length m.shards))

-- ---- ranks

-- how a rank stands to the lock of the shard where it stands
abbrev pub standing_word : Standing → List ℕ
standing_word standing.Out = codes "out"
standing_word standing.Asking = codes "asks"
standing_word standing.Writer = codes "writer"
standing_word standing.Reader = codes "reader"
standing_word standing.Leaving = codes "leaves"

-- `rank RANK SHARD STANDING opened N done M`: how many of its calls it has opened, and how many are done
abbrev pub told_line : ℕ → ℕ → Standing → ℕ → ℕ → List (List ℕ)
told_line k s standing opened done =
    codes "rank" ∷ decimal k ∷ decimal s ∷ standing_word standing ∷ codes "opened" ∷ decimal opened ∷ codes "done" ∷ decimal done ∷ []

-- `card SHARD NODE RANK`, where a rank is in the card of a node
abbrev pub card_line : ℕ → ℕ → Option ℕ → List (List (List ℕ))
card_line k s None = []
card_line k s (Some node) = (codes "card" ∷ decimal s ∷ decimal node ∷ decimal k ∷ []) ∷ []

module _ {V : Type 0} where
  abbrev pub card_lines : Running V → ℕ → List (List (List ℕ))
  card_lines m k = card_line k (place_of m k) (card_by m k)

  -- the line of rank k
  abbrev pub rank_line : Running V → ℕ → List (List ℕ)
  rank_line m k = told_line k (place_of m k) (standing_by m k) (slice_index m.opened k) (done_of m k)

  abbrev pub rank_lines : Running V → ℕ → List (List (List ℕ))
  rank_lines m k = rank_line m k ∷ []

  -- ---- all of it

  -- the words shard by shard; then the cards that a rank is in, and the ranks, by the ranks' numbers
  abbrev pub body_lines : ThePlace → TheNaming → Running V → List (List (List ℕ))
  body_lines place naming m =
      flat_map (lines_of_shard place naming m) (range_with_len 0 (length m.shards))
      ++ (flat_map (card_lines m) (range_with_len 0 (length m.calls)) ++ flat_map (rank_lines m) (range_with_len 0 (length m.calls)))

-- the first lines: the version, and before which of how many steps
abbrev pub head_lines : ℕ → ℕ → List (List (List ℕ))
head_lines step total = (codes "rmalock-state" ∷ codes "1" ∷ []) ∷ (codes "before" ∷ decimal step ∷ codes "of" ∷ decimal total ∷ []) ∷ []

abbrev pub state_spelling : {V : Type 0} → ThePlace → ℕ → ℕ → Running V → List ℕ
state_spelling place step total m = text_of (head_lines step total ++ (body_lines place (naming_of place) m ++ (codes "end" ∷ []) ∷ []))

-- how many steps a schedule has
abbrev pub steps_of_all : Schedule → ℕ
steps_of_all schedule = sum_by steps_of schedule.turns

-- the machine before a step, for a rank's machine as it is defined: after all steps before it, or after all that there are
abbrev pub machine_before : {V : Type 0} → Defined V → ThePlace → Ops → Schedule → ℕ → Running V
machine_before defined place ops schedule step =
    run_of (start_of defined (shape_of place) (knobs_of place.lock) place.geom place.homes ops) (take step (ranks_of_turns schedule.turns))

abbrev pub state_with : {V : Type 0} → Defined V → ThePlace → Ops → Schedule → ℕ → List ℕ
state_with defined place ops schedule step = state_spelling place step (steps_of_all schedule) (machine_before defined place ops schedule step)

-- turns of so many ranks
abbrev pub AreTurnsOf : ℕ → List Turn → Type 0
AreTurnsOf ranks turns = AllByRecursion (TurnFits ranks) turns

-- the state before a step of a replay, whose shards are guarded by the lock of its placement
abbrev pub state_of : Replay → ℕ → List ℕ
state_of replay step = state_with (lock_kind_of replay.place.lock).defined replay.place replay.ops replay.schedule step

-- a text is exactly the state before the first step of this window
abbrev pub IsState : Replay → Window → List ℕ → Type 0
IsState replay window text = text ≡ state_of replay window.from
