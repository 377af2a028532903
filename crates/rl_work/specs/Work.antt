-- The work of a block inside its lock, as plain functions: the next atom, and what it leaves.
use Rattle.std.specs.Prelude.{◌≡◌, ℕ, ◌+◌, ◌*◌, ◌^◌, ◌<◌, ◌≤◌, ◌==◌, Bool, true, false, not, ◌&&◌, if◌then◌else◌, List, [], ◌∷◌, ◌++◌, All, drop, length, slice_get, slice_index, Option, Some, None}
use Rattle.rl_word.specs.declared.acts.Atom.{Atom}
use Rattle.rl_word.specs.declared.acts.Atom.TheVariants.{Load, Store}
use Rattle.rl_model.specs.declared.call.Call.{Call}
use Rattle.rl_model.specs.declared.entry.Entry.{Entry}
use Rattle.rl_model.specs.declared.entry.Reply.{Reply}
use Rattle.rl_model.specs.declared.geom.Geom.{Geom}
use Rattle.rl_model.specs.Asked.{asks_update, batch_number}
use Rattle.rl_volume.specs.declared.write.Write.{Write}
use Rattle.rl_volume.specs.Seen.{SeenWords, value_of, value_or_zero, next_word, patched}
use Rattle.rl_volume.specs.Words.{volume_words}
use Rattle.rl_volume.specs.Decision.{decision}
use Rattle.rl_work.specs.declared.stage.Stage.{Stage}
use Rattle.rl_work.specs.declared.stage.Stage.TheVariants.{Rest, Begin, Read, Journal, Volume}
use Rattle.rl_journal.specs.Journal.{spelled}
use Rattle.rl_journal.specs.Blocks.{undone, stops}
use Rattle.rl_site.specs.Site.{count_word, volume_base, journal_base}
use Rattle.rl_site.specs.Transcript.{TheTranscript}

-- a rank's side of the work
pub record TheWork : Type 0 where
  -- where it stands in its open block
  pub stage : Stage
  -- the calls of the block, and the number of the first
  pub calls : List Call
  pub seq : ℕ
  -- what it has seen of the volume, with the kept writes applied
  pub seen : SeenWords
  -- the replies of the calls that it has decided
  pub replies : List Reply
  -- once all are decided: the count that it found, and the entries
  pub at : ℕ
  pub entries : List Entry
  -- the writes that it keeps to make at the end
  pub writes : List Write
  -- its entries of earlier blocks
  pub transcript : TheTranscript

-- the store after so many writes: the next write, or the count's
abbrev pub write_atom : ℕ → Option Write → Atom
write_atom count (Some w) = Store (volume_base + w.word) w.value
write_atom count None = Store count_word count

-- the atom of a stage
abbrev pub stage_atom : Geom → TheWork → Stage → Option Atom
stage_atom geom x Rest = None
stage_atom geom x Begin = Some (Load count_word)
stage_atom geom x (Read count word) = Some (Load (volume_base + word))
stage_atom geom x (Journal made) = Some (Store (journal_base geom + (6 * x.at + made)) (slice_index (spelled x.entries) made))
stage_atom geom x (Volume made) = Some (write_atom (x.at + length x.entries) (slice_get x.writes made))

-- the next atom of a rank that holds the lock
abbrev pub work_atom : Geom → TheWork → Option Atom
work_atom geom x = stage_atom geom x x.stage

-- what an atom leaves: the rank's side, and whether the work is over
pub record WorkTurned : Type 0 where
  pub work : TheWork
  pub over : Bool

-- the same side at another stage
abbrev pub at_stage : TheWork → Stage → TheWork
at_stage x stage = record x { stage = stage }

-- the entries of a block more
abbrev pub more_entries : TheTranscript → List Entry → TheTranscript
more_entries t es = record t { items = t.items ++ es }

-- the work is over, with the entries of the block
abbrev pub at_rest : TheWork → WorkTurned
at_rest x = record { work = record x { stage = Rest; transcript = more_entries x.transcript x.entries }; over = true }

-- the work goes on at a stage
abbrev pub to_stage : TheWork → Stage → WorkTurned
to_stage x stage = record { work = at_stage x stage; over = false }

-- a rank's side before its first block, with room for so many entries
abbrev pub first_work : Geom → ℕ → TheWork
first_work geom room =
    record {
      stage = Rest;
      calls = [];
      seq = 0;
      seen = record { pairs = []; room = volume_words geom };
      replies = [];
      at = 0;
      entries = [];
      writes = [];
      transcript = record { items = []; room = room };
    }

-- what a rank has seen
abbrev pub with_seen : TheWork → List (ℕ × ℕ) → TheWork
with_seen x pairs = record x { seen = record x.seen { pairs = pairs } }

-- one call more is decided: its reply and its writes are kept, and what was seen has the writes
abbrev pub with_call : TheWork → List Write × Reply → TheWork
with_call x d = record (with_seen x (patched x.seen.pairs d.0)) { replies = x.replies ++ d.1 ∷ []; writes = x.writes ++ d.0 }

-- a call of the batch has this reply, which stops it: all others are undone, and no write is kept
abbrev pub with_stop : TheWork → Reply → List Call → TheWork
with_stop x a rest = record x { replies = undone x.replies ++ a ∷ undone rest; writes = [] }

-- the block's batch number
abbrev pub batch_in : TheWork → ℕ
batch_in x = batch_number (length x.calls)

-- the entries of calls with their replies, from a number, a place and a part on
abbrev pub entries_of : ℕ → ℕ → ℕ → ℕ → ℕ → ℕ → List Call → List Reply → List Entry
entries_of shard rank batch seq at part [] rs = []
entries_of shard rank batch seq at part (c ∷ cs) [] = []
entries_of shard rank batch seq at part (c ∷ cs) (a ∷ rs) =
    record { shard = shard; rank = rank; seq = seq; call = c; at = at; reply = a; batch = batch; part = part } ∷ entries_of shard rank batch
    (seq + 1) (at + 1) (part + 1) cs rs

-- the entries of the open block, which found this count
abbrev pub block_entries : ℕ → ℕ → TheWork → ℕ → List Entry
block_entries shard rank x count = entries_of shard rank (batch_in x) x.seq count 0 x.calls x.replies

-- the block that found a count is decided: its entries
abbrev pub with_entries : ℕ → ℕ → TheWork → ℕ → Stage → TheWork
with_entries shard rank x count stage = record x { stage = stage; at = count; entries = block_entries shard rank x count }

-- all calls of the block are decided: updates go on to the journal, and any other call is over
abbrev pub block_close : ℕ → ℕ → TheWork → ℕ → WorkTurned
block_close shard rank x count =
    if asks_update x.calls then record { work = with_entries shard rank x count (Journal 0); over = false } else at_rest
    (with_entries shard rank x count x.stage)

-- the reply stops a block of so many calls: a call alone is never stopped
abbrev pub stops_block : ℕ → Reply → Bool
stops_block size a = not (size == 1) && stops a

-- what a call comes to by what was seen: its writes and its reply
abbrev pub decision_of : Geom → TheWork → Call → List Write × Reply
decision_of geom x c = decision geom c (value_or_zero x.seen.pairs)

-- a call of the block is decided, and these are left: it stops the block or not
abbrev pub after_decision : Bool → TheWork → List Write × Reply → List Call → TheWork
after_decision true x d rest = with_stop x d.1 rest
after_decision false x d rest = with_call x d

-- the next call is decided
abbrev pub after_call : Geom → TheWork → Call → TheWork
after_call geom x c = after_decision (stops_block (length x.calls) (decision_of geom x c).1) x (decision_of geom x c) (drop (length x.replies + 1) x.calls)

-- the rank reads the next word for a call, or goes on
abbrev pub read_next : TheWork → ℕ → Option ℕ → WorkTurned → WorkTurned
read_next x count (Some word) on = to_stage x (Read count word)
read_next x count None on = on

-- A rank that found a count has seen what it has seen, and these calls of its block are left: it reads the next word for the first
-- of them, or decides it and goes on with the others.
abbrev pub read_on : Geom → ℕ → ℕ → ℕ → List Call → TheWork → WorkTurned
read_on geom shard rank count [] x = block_close shard rank x count
read_on geom shard rank count (c ∷ rest) x =
    let d = decision_of geom x c in
    read_next x count (next_word geom c x.seen.pairs)
    (if stops_block (length x.calls) d.1 then block_close shard rank (with_stop x d.1 rest) count else read_on geom shard rank count rest (with_call x d))

-- the calls that aren't decided yet
abbrev pub left_of : TheWork → List Call
left_of x = drop (length x.replies) x.calls

-- the work goes on from what the rank has seen
abbrev pub seen_on : Geom → ℕ → ℕ → TheWork → ℕ → WorkTurned
seen_on geom shard rank x count = read_on geom shard rank count (left_of x) x

-- after a write, or after the store of the count
abbrev pub written_on : TheWork → ℕ → Option Write → WorkTurned
written_on x made (Some w) = to_stage x (Volume (made + 1))
written_on x made None = at_rest x

-- after a store to the journal
abbrev pub journal_on : TheWork → ℕ → WorkTurned
journal_on x made = if made + 1 == 6 * length x.entries then to_stage x (Volume 0) else to_stage x (Journal (made + 1))

-- what the atom of a stage leaves
abbrev pub stage_after : Geom → ℕ → ℕ → TheWork → ℕ → Stage → WorkTurned
stage_after geom shard rank x got Rest = record { work = x; over = false }
stage_after geom shard rank x got Begin = seen_on geom shard rank x got
stage_after geom shard rank x got (Read count word) = seen_on geom shard rank (with_seen x (x.seen.pairs ++ (word, got) ∷ [])) count
stage_after geom shard rank x got (Journal made) = journal_on x made
stage_after geom shard rank x got (Volume made) = written_on x made (slice_get x.writes made)

-- what an atom that gave got leaves of rank's side
abbrev pub work_after : Geom → ℕ → ℕ → TheWork → ℕ → WorkTurned
work_after geom shard rank x got = stage_after geom shard rank x got x.stage

-- a block is opened
abbrev pub with_block : TheWork → List Call → ℕ → TheWork
with_block x calls seq = record (with_seen x []) { stage = Begin; calls = calls; seq = seq; replies = []; writes = [] }

-- the transcript has room for the calls of the block
abbrev pub HasRoom : TheWork → Type 0
HasRoom x = length x.transcript.items + length x.calls ≤ x.transcript.room

-- the numbers of the entries fit, and so do the entries
pub record CanDecide (geom : Geom) (x : TheWork) (count : ℕ) : Type 0 where
  pub room : HasRoom x
  pub seen_room : x.seen.room ≡ volume_words geom
  pub small : x.seq + length x.calls ≤ 2 ^ 32
  pub places : count + length x.calls ≤ 2 ^ 32

-- and of a block whose calls are all decided
pub record CanClose (x : TheWork) (count : ℕ) : Type 0 where
  pub room : HasRoom x
  pub whole : length x.replies ≡ length x.calls
  pub small : x.seq + length x.calls ≤ 2 ^ 32
  pub places : count + length x.calls ≤ 2 ^ 32

-- what the code needs to know of a side whose atom it names: the numbers fit
abbrev pub CanName : Geom → TheWork → Stage → Type 0
CanName geom x Rest = Unit {0}
CanName geom x Begin = Unit {0}
CanName geom x (Read count word) = word < volume_words geom
CanName geom x (Journal made) = (made < 6 * length x.entries) × (journal_base geom + (6 * x.at + made) < 2 ^ 32)
CanName geom x (Volume made) = (made ≤ length x.writes) × All (λ w. w.word < 2 ^ 31) x.writes × (x.at + length x.entries < 2 ^ 32)

-- and of one whose atom gave got
abbrev pub CanTurn : Geom → TheWork → ℕ → Stage → Type 0
CanTurn geom x got Rest = Unit {0}
CanTurn geom x got Begin = (got < 2 ^ 32) × CanDecide geom x got
CanTurn geom x got (Read count word) = (word < x.seen.room) × (value_of x.seen.pairs word ≡ None) × CanDecide geom x count
CanTurn geom x got (Journal made) = made < 6 * length x.entries
CanTurn geom x got (Volume made) = (made ≤ length x.writes) × (length x.transcript.items + length x.entries ≤ x.transcript.room)

-- a call is open, as far as the work goes
abbrev pub has_work : Stage → Bool
has_work Rest = false
has_work stage = true

-- an atom of the open block was made, and the work isn't over
abbrev pub is_under_way : Stage → Bool
is_under_way Rest = false
is_under_way Begin = false
is_under_way stage = true

-- the atom at this stage writes
abbrev pub stores : Stage → Bool
stores (Journal made) = true
stores (Volume made) = true
stores stage = false
