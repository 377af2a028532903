-- How an entry of the journal is spelled in six words, and how it is read back.
use Rattle.std.specs.Prelude.{◌≡◌, ℕ, zero, suc, ◌+◌, ◌*◌, ◌/◌, ◌%◌, ◌^◌, ◌<◌, ◌≤◌, ◌==◌, Bool, true, false, if◌then◌else◌, List, [], ◌∷◌, ◌++◌, length, slice_index}
use Rattle.rl_model.specs.declared.call.Call.{Call}
use Rattle.rl_model.specs.declared.call.Call.TheVariants.{Put, Get, Del, Add, Cas, Hold}
use Rattle.rl_model.specs.declared.entry.Entry.{Entry}
use Rattle.rl_model.specs.declared.entry.Reply.{Reply}
use Rattle.rl_model.specs.declared.entry.Reply.TheVariants.{New, Was, Full, Val, Nothing, Sum, Over, No, Held, Undone}
use Rattle.rl_journal.specs.Legal.{updates}

-- the kinds of updates; the two others aren't journaled
abbrev pub kind_of : Call → ℕ
kind_of (Put key value) = 1
kind_of (Del key) = 2
kind_of (Add key by) = 3
kind_of (Cas key old new) = 4
kind_of _ = 0

abbrev pub key_of : Call → ℕ
key_of (Put key value) = key
key_of (Get key) = key
key_of (Del key) = key
key_of (Add key by) = key
key_of (Cas key old new) = key
key_of (Hold shard) = 0

-- the two further numbers of an update
abbrev pub first_of : Call → ℕ
first_of (Put key value) = value
first_of (Add key by) = by
first_of (Cas key old new) = old
first_of _ = 0

abbrev pub second_of : Call → ℕ
second_of (Cas key old new) = new
second_of _ = 0

-- the codes of replies; the two that no update gets have none
abbrev pub code_of : Reply → ℕ
code_of New = 1
code_of (Was v) = 2
code_of Full = 3
code_of Nothing = 4
code_of (Sum v) = 5
code_of (Over v) = 6
code_of (No v) = 7
code_of Undone = 8
code_of _ = 0

-- the value in a reply, or 0
abbrev pub value_in : Reply → ℕ
value_in (Was v) = v
value_in (Val v) = v
value_in (Sum v) = v
value_in (Over v) = v
value_in (No v) = v
value_in _ = 0

-- the six words of an entry
abbrev pub spelling : Entry → List ℕ
spelling e =
    (e.rank * 2 ^ 32 + e.seq)
    ∷ (kind_of e.call + 8 * code_of e.reply + 128 * e.batch + 2048 * e.part)
    ∷ key_of e.call
    ∷ first_of e.call
    ∷ second_of e.call
    ∷ value_in e.reply
    ∷ []

-- the words of several entries, one after the other
abbrev pub spelled : List Entry → List ℕ
spelled [] = []
spelled (e ∷ es) = spelling e ++ spelled es

-- the update of a kind
abbrev pub call_of : ℕ → ℕ → ℕ → ℕ → Call
call_of kind key first second =
    if kind == 1 then Put key first
    else (if kind == 2 then Del key
    else (if kind == 3 then Add key first
    else Cas key first second))

-- the reply of a code
abbrev pub reply_of : ℕ → ℕ → Reply
reply_of code value =
    if code == 1 then New
    else (if code == 2 then Was value
    else (if code == 3 then Full
    else (if code == 4 then Nothing
    else (if code == 5 then Sum value
    else (if code == 6 then Over value
    else (if code == 7 then No value
    else Undone))))))

-- the entry of a shard's journal at a place, from its six words
abbrev pub entry_of : ℕ → ℕ → List ℕ → Entry
entry_of shard at ws =
    record {
      shard = shard;
      rank = slice_index ws 0 / 2 ^ 32;
      seq = slice_index ws 0 % 2 ^ 32;
      call = call_of (slice_index ws 1 % 8) (slice_index ws 2) (slice_index ws 3) (slice_index ws 4);
      at = at;
      reply = reply_of (slice_index ws 1 / 8 % 16) (slice_index ws 5);
      batch = slice_index ws 1 / 128 % 16;
      part = slice_index ws 1 / 2048;
    }

-- an update may get this reply
abbrev pub is_for_update : Reply → Bool
is_for_update New = true
is_for_update (Was v) = true
is_for_update Full = true
is_for_update (Val v) = false
is_for_update Nothing = true
is_for_update (Sum v) = true
is_for_update (Over v) = true
is_for_update (No v) = true
is_for_update Held = false
is_for_update Undone = true

-- the entry may stand at this place of the shard's journal
pub record IsJournaled (shard at : ℕ) (e : Entry) : Type 0 where
  pub is_update : updates e ≡ true
  pub answered : is_for_update e.reply ≡ true
  pub shard_is : e.shard ≡ shard
  pub place : e.at ≡ at
  pub small : e.seq < 2 ^ 32
  pub few : e.batch ≤ 8

-- from a word on, the words are those of the list
abbrev pub Agrees : List ℕ → ℕ → List ℕ → Type 0
Agrees words from list = (i : ℕ) → i < length list → slice_index words (from + i) ≡ slice_index list i

-- the six words from a word on
abbrev pub six_from : List ℕ → ℕ → List ℕ
six_from words base =
    slice_index words base ∷ slice_index words (base + 1) ∷ slice_index words (base + 2) ∷ slice_index words (base + 3) ∷ slice_index words
    (base + 4) ∷ slice_index words (base + 5) ∷ []

-- so many entries from place p on, of a shard's journal that begins at a word
abbrev pub entries_from : ℕ → List ℕ → ℕ → ℕ → ℕ → List Entry
entries_from shard words base p zero = []
entries_from shard words base p (suc n) = entry_of shard p (six_from words (base + 6 * p)) ∷ entries_from shard words base (p + 1) n

-- a shard's journal of so many entries, as the words say from a word on
abbrev pub journal_in : ℕ → List ℕ → ℕ → ℕ → List Entry
journal_in shard words base count = entries_from shard words base 0 count
