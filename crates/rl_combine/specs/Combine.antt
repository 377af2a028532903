-- A rank's call under the lock, as plain functions: it posts the call, and whoever has the lock does all calls that it finds posted.
use Rattle.std.specs.Prelude.{ℕ, ◌+◌, ◌*◌, ◌/◌, ◌==◌, Bool, true, false, ◌&&◌, if◌then◌else◌, List, [], ◌∷◌, ◌++◌, filter, length, slice_get, slice_index, Option, Some, None}
use Rattle.rl_word.specs.declared.acts.Atom.{Atom}
use Rattle.rl_word.specs.declared.acts.Atom.TheVariants.{Load, Store}
use Rattle.rl_word.specs.declared.classes.Mode.TheVariants as mode
use Rattle.rl_model.specs.declared.call.Call.{Call}
use Rattle.rl_model.specs.declared.call.Call.TheVariants.{Hold}
use Rattle.rl_model.specs.declared.entry.Entry.{Entry}
use Rattle.rl_model.specs.declared.entry.Reply.{Reply}
use Rattle.rl_model.specs.declared.entry.Reply.TheVariants.{Held}
use Rattle.rl_model.specs.declared.geom.Geom.{Geom}
use Rattle.rl_model.specs.Call.{is_update}
use Rattle.rl_volume.specs.declared.write.Write.{Write}
use Rattle.rl_volume.specs.Seen.{SeenWords, value_or_zero, next_word}
use Rattle.rl_volume.specs.Words.{volume_words}
use Rattle.rl_volume.specs.Decision.{decision}
use Rattle.rl_journal.specs.Journal.{spelling}
use Rattle.rl_journal.specs.Legal.{is_of}
use Rattle.rl_site.specs.Site.{count_word, volume_base, journal_base, journal_by, WaySite}
use Rattle.rl_site.specs.Transcript.{TheTranscript}
use Rattle.rl_work.specs.declared.follow.Follow.{Follow}
use Rattle.rl_work.specs.declared.follow.Follow.TheVariants.{On, Ask, Over}
use Rattle.rl_work.specs.Ways.{Worked, WorkTable}
use Rattle.rl_work.specs.Work.{write_atom, more_entries}
use Rattle.rl_step.specs.declared.events.Stepped.TheVariants.{Moved}
use Rattle.rl_combine.specs.declared.stage.CombineStage.{CombineStage}
use Rattle.rl_combine.specs.declared.stage.CombineStage.TheVariants.{Rest, Post, Raise, Look, Count, Sweep, Copy, Read, Journal, Volume, Answer, Mark, Collect, Lower}
use Rattle.rl_combine.specs.Posts.{ThePost, TheCombineWork, node_in, combine_ranks, post_word, flag_word, post_of, post_spelling, posted_call, posted_seq, answer_spelling, answered_entry}

-- a rank's side of the work
pub record TheCombineSide : Type 0 where
  -- where it stands in its open call
  pub stage : CombineStage
  -- that call, and its number
  pub call : Call
  pub seq : ℕ
  -- the count, as it is while the rank sweeps
  pub count : ℕ
  -- the words of a post that it has copied
  pub copied : List ℕ
  -- the posted call that it does, and its number; what it has seen of the volume for it
  pub posted : Call
  pub posted_number : ℕ
  pub seen : SeenWords
  -- once that is decided: its entry, and the writes
  pub entry : Entry
  pub writes : List Write
  -- its own entries that it has collected
  pub kept : TheTranscript

-- its open call, and the entries that it keeps
pub record Opened : Type 0 where
  pub call : Call
  pub seq : ℕ
  pub kept : TheTranscript

abbrev pub opened_of : TheCombineSide → Opened
opened_of x = record { call = x.call; seq = x.seq; kept = x.kept }

-- the store of a word of the journal, for a call that is decided
abbrev pub journal_atom : WaySite → TheCombineSide → ℕ → Option Atom
journal_atom S x made = Some (Store (journal_base S.site.geom + (6 * x.count + made)) (slice_index (spelling x.entry) made))

-- the atom of a stage
abbrev pub combine_stage_atom : WaySite → ℕ → TheCombineSide → CombineStage → Option Atom
combine_stage_atom S rank x Rest = None
combine_stage_atom S rank x (Post made) = Some (Store (post_word S rank (1 + made)) (slice_index (post_spelling x.call x.seq) made))
combine_stage_atom S rank x Raise = Some (Store (flag_word S rank) 1)
combine_stage_atom S rank x Look = Some (Load (flag_word S rank))
combine_stage_atom S rank x Count = Some (Load count_word)
combine_stage_atom S rank x (Sweep owner) = Some (Load (flag_word S owner))
combine_stage_atom S rank x (Copy owner made) = Some (Load (post_word S owner (1 + made)))
combine_stage_atom S rank x (Read owner word) = Some (Load (volume_base + word))
combine_stage_atom S rank x (Journal owner made) = journal_atom S x made
combine_stage_atom S rank x (Volume owner made) = Some (write_atom (x.count + 1) (slice_get x.writes made))
combine_stage_atom S rank x (Answer owner made) = Some (Store (post_word S owner (6 + made)) (slice_index (answer_spelling x.entry) made))
combine_stage_atom S rank x (Mark owner) = Some (Store (flag_word S owner) 2)
combine_stage_atom S rank x (Collect made) = Some (Load (post_word S rank (6 + made)))
combine_stage_atom S rank x Lower = Some (Store (flag_word S rank) 0)

-- the next atom of a rank for which the lock plans none
abbrev pub combine_atom : WaySite → ℕ → TheCombineSide → Option Atom
combine_atom S rank x = combine_stage_atom S rank x x.stage

-- what an atom leaves: the side, and what follows. It has always moved
abbrev pub turned : TheCombineSide → Follow → Worked TheCombineSide
turned x follow = record { work = x; follow = follow; stepped = Moved }

-- the same side at another stage
abbrev pub combine_at_stage : TheCombineSide → CombineStage → TheCombineSide
combine_at_stage x stage = record x { stage = stage }

abbrev pub combine_to_stage : TheCombineSide → CombineStage → Worked TheCombineSide
combine_to_stage x stage = turned (combine_at_stage x stage) On

-- a rank's side before its first call, with room for so many entries
abbrev pub first_combine : Geom → ℕ → TheCombineSide
first_combine geom room =
    record {
      stage = Rest;
      call = Hold 0;
      seq = 0;
      count = 0;
      copied = [];
      posted = Hold 0;
      posted_number = 0;
      seen = record { pairs = []; room = volume_words geom };
      entry = record { shard = 0; rank = 0; seq = 0; call = Hold 0; at = 0; reply = Held; batch = 0; part = 0 };
      writes = [];
      kept = record { items = []; room = room };
    }

-- a call is opened: it is posted next
abbrev pub with_open : TheCombineSide → Call → ℕ → TheCombineSide
with_open x call seq = record x { stage = Post 0; call = call; seq = seq }

-- a block is opened: it is a call alone
abbrev pub combine_with_block : ℕ → TheCombineSide → List Call → ℕ → TheCombineSide
combine_with_block rank x [] seq = x
combine_with_block rank x (call ∷ calls) seq = with_open x call seq

-- one word more of a post is copied
abbrev pub with_copied : TheCombineSide → ℕ → TheCombineSide
with_copied x got = record x { copied = x.copied ++ got ∷ [] }

-- nothing is copied yet
abbrev pub with_nothing : TheCombineSide → TheCombineSide
with_nothing x = record x { copied = [] }

-- the own answer is collected next
abbrev pub to_collect : TheCombineSide → Worked TheCombineSide
to_collect x = combine_to_stage (with_nothing x) (Collect 0)

-- the sweep goes on with this rank, or is over
abbrev pub sweep_on : WaySite → TheCombineSide → ℕ → Worked TheCombineSide
sweep_on S x owner = if owner == combine_ranks S then to_collect x else combine_to_stage x (Sweep owner)

-- one word more of the own answer is copied
abbrev pub collect_on : TheCombineSide → ℕ → ℕ → Worked TheCombineSide
collect_on x got made = if made + 1 == 3 then combine_to_stage (with_copied x got) Lower else combine_to_stage (with_copied x got) (Collect (made + 1))

-- the posted call of a shard whose words were copied is in hand
abbrev pub with_post : ℕ → TheCombineSide → TheCombineSide
with_post shard x = record x { posted = posted_call shard x.copied; posted_number = posted_seq x.copied; seen = record x.seen { pairs = [] } }

-- all words of a rank's posted call are copied
abbrev pub with_posted : WaySite → TheCombineSide → TheCombineSide
with_posted S x = with_post S.site.shard x

-- the entry of the posted call, with its reply
abbrev pub posted_entry : WaySite → TheCombineSide → ℕ → Reply → Entry
posted_entry S x owner reply =
    record { shard = S.site.shard; rank = owner; seq = x.posted_number; call = x.posted; at = x.count; reply = reply; batch = 0; part = 0 }

-- the posted call is decided: its writes and its reply
abbrev pub with_decision : WaySite → TheCombineSide → ℕ → List Write × Reply → TheCombineSide
with_decision S x owner d = record x { entry = posted_entry S x owner d.1; writes = d.0 }

-- an update goes on to the journal, any other call to its answer
abbrev pub decided_on : WaySite → TheCombineSide → ℕ → Worked TheCombineSide
decided_on S x owner = combine_to_stage (with_decision S x owner (decision S.site.geom x.posted (value_or_zero x.seen.pairs)))
    (if is_update x.posted then Journal owner 0 else Answer owner 0)

-- the next word of the volume is read, or the call is decided
abbrev pub combine_read_next : WaySite → TheCombineSide → ℕ → Option ℕ → Worked TheCombineSide
combine_read_next S x owner (Some word) = combine_to_stage x (Read owner word)
combine_read_next S x owner None = decided_on S x owner

abbrev pub combine_read_on : WaySite → TheCombineSide → ℕ → Worked TheCombineSide
combine_read_on S x owner = combine_read_next S x owner (next_word S.site.geom x.posted x.seen.pairs)

-- what the rank has seen, and one word more
abbrev pub combine_with_word : TheCombineSide → ℕ → ℕ → TheCombineSide
combine_with_word x word got = record x { seen = record x.seen { pairs = x.seen.pairs ++ (word, got) ∷ [] } }

-- after a write the next one follows; the store of the count makes the count one more
abbrev pub combine_written_on : TheCombineSide → ℕ → ℕ → Option Write → Worked TheCombineSide
combine_written_on x owner made (Some w) = combine_to_stage x (Volume owner (made + 1))
combine_written_on x owner made None = combine_to_stage (record x { count = x.count + 1 }) (Answer owner 0)

-- the rank's own entry, by the answer that it has copied, joins those that it keeps
abbrev pub with_own : WaySite → ℕ → TheCombineSide → TheCombineSide
with_own S rank x = record x { stage = Rest; kept = more_entries x.kept (answered_entry S.site.shard rank x.seq x.call x.copied ∷ []) }

-- what the atom of a stage leaves
abbrev pub combine_stage_after : WaySite → ℕ → TheCombineSide → ℕ → CombineStage → Worked TheCombineSide
combine_stage_after S rank x got Rest = turned x On
combine_stage_after S rank x got (Post made) = if made + 1 == 5 then combine_to_stage x Raise else combine_to_stage x (Post (made + 1))
combine_stage_after S rank x got Raise = turned (combine_at_stage x Look) (Ask mode.Write)
combine_stage_after S rank x got Look = if got == 2 then to_collect x else combine_to_stage x Count
combine_stage_after S rank x got Count = sweep_on S (record x { count = got }) 0
combine_stage_after S rank x got (Sweep owner) = if got == 1 then combine_to_stage (with_nothing x) (Copy owner 0) else sweep_on S x (owner + 1)
combine_stage_after S rank x got (Copy owner made) =
    if made + 1 == 5 then combine_read_on S (with_posted S (with_copied x got)) owner else combine_to_stage (with_copied x got) (Copy owner (made + 1))
combine_stage_after S rank x got (Read owner word) = combine_read_on S (combine_with_word x word got) owner
combine_stage_after S rank x got (Journal owner made) = if made + 1 == 6 then combine_to_stage x (Volume owner 0) else combine_to_stage x
    (Journal owner (made + 1))
combine_stage_after S rank x got (Volume owner made) = combine_written_on x owner made (slice_get x.writes made)
combine_stage_after S rank x got (Answer owner made) = if made + 1 == 3 then combine_to_stage x (Mark owner) else combine_to_stage x (Answer owner (made + 1))
combine_stage_after S rank x got (Mark owner) = sweep_on S x (owner + 1)
combine_stage_after S rank x got (Collect made) = collect_on x got made
combine_stage_after S rank x got Lower = turned (with_own S rank x) Over

-- what an atom that gave got leaves of rank's side
abbrev pub combine_after : WaySite → ℕ → TheCombineSide → ℕ → Worked TheCombineSide
combine_after S rank x got = combine_stage_after S rank x got x.stage

-- the atom of this stage touches what the lock guards, and whether it writes there
abbrev pub combine_touch_at : CombineStage → Option Bool
combine_touch_at Count = Some false
combine_touch_at (Read owner word) = Some false
combine_touch_at (Journal owner made) = Some true
combine_touch_at (Volume owner made) = Some true
combine_touch_at _ = None

-- what follows the atom of a stage: the lock is asked for once the call is posted, and the call is over once its flag is lowered
abbrev pub follow_of : CombineStage → Follow
follow_of Raise = Ask mode.Write
follow_of Lower = Over
follow_of _ = On

-- a call is open
abbrev pub combine_is_open : CombineStage → Bool
combine_is_open Rest = false
combine_is_open _ = true

-- the rank whose posted call is in hand: all its words were copied
abbrev pub in_hand : CombineStage → Option ℕ
in_hand (Read owner word) = Some owner
in_hand (Journal owner made) = Some owner
in_hand (Volume owner made) = Some owner
in_hand (Answer owner made) = Some owner
in_hand (Mark owner) = Some owner
in_hand _ = None

-- the entry is that of the rank's call with this number
abbrev pub is_call : ℕ → ℕ → Entry → Bool
is_call rank seq e = is_of rank e && (e.seq == seq)

-- the entry of the open call, by the answer in its post
abbrev pub entry_by : WaySite → ThePost → ℕ → TheCombineSide → Entry
entry_by S p rank x = answered_entry S.site.shard rank x.seq x.call p.answer

-- the entry of a get or hold, by its post
abbrev pub early_read : WaySite → ThePost → ℕ → TheCombineSide → List Entry
early_read S p rank x = if p.flag == 2 then entry_by S p rank x ∷ [] else []

-- Entries of the open call that are done by the words, and not kept yet: an update is done where the journal has its entry, a get or
-- hold where the rank's flag is 2.
abbrev pub early : WaySite → List ℕ → ℕ → TheCombineSide → List Entry
early S words rank x =
    if combine_is_open x.stage then (if is_update x.call then filter (is_call rank x.seq) (journal_by S.site words) else early_read S
    (post_of S words rank) rank x) else []

-- the rank's transcript: what it keeps, and then these
abbrev pub transcript : WaySite → List ℕ → ℕ → TheCombineSide → List Entry
transcript S words rank x = x.kept.items ++ early S words rank x

-- a call is open, and its entry isn't in the transcript yet
abbrev pub combine_owes : WaySite → List ℕ → ℕ → TheCombineSide → Bool
combine_owes S words rank x = combine_is_open x.stage && (length (early S words rank x) == 0)

-- the way of working, over nodes of the ranks
abbrev pub combine_table : WaySite → (ℕ → ℕ) → WorkTable TheCombineSide
combine_table S node =
    record {
      site = S.site;
      behind = S.behind;
      size = 9 * combine_ranks S;
      home = λ word. node (word / 9);
      first = λ rank room. first_combine S.site.geom room;
      opens = combine_with_block;
      asks = λ calls. None;
      next = combine_atom S;
      after = combine_after S;
      touch = λ x. combine_touch_at x.stage;
      is_open = λ x. combine_is_open x.stage;
      calls = λ x. x.call ∷ [];
      seq = λ x. x.seq;
      mode = λ x. mode.Write;
      kept = λ x. x.kept;
      pends = λ x. true;
      ended = λ x. x.kept.items;
      transcript = transcript S;
      owes = combine_owes S;
      spares = λ shares. false;
      batches = false;
    }

-- the way of working of a shard
abbrev pub combine_of : TheCombineWork → WorkTable TheCombineSide
combine_of p = combine_table p.here (node_in p)

-- the rank whose flag the sweep has found 1, and not made 2 yet
abbrev pub found : CombineStage → Option ℕ
found (Copy owner made) = Some owner
found (Read owner word) = Some owner
found (Journal owner made) = Some owner
found (Volume owner made) = Some owner
found (Answer owner made) = Some owner
found (Mark owner) = Some owner
found _ = None
