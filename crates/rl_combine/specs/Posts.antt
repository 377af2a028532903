-- The post words of the ranks: where they lie, and how a call and its answer are spelled in them.
use Rattle.std.specs.Prelude.{ℕ, ◌+◌, ◌*◌, ◌==◌, if◌then◌else◌, List, [], ◌∷◌, length, slice_index}
use Rattle.rl_model.specs.declared.call.Call.{Call}
use Rattle.rl_model.specs.declared.call.Call.TheVariants.{Get, Hold}
use Rattle.rl_model.specs.declared.entry.Entry.{Entry}
use Rattle.rl_model.specs.declared.entry.Reply.{Reply}
use Rattle.rl_model.specs.declared.entry.Reply.TheVariants.{Val, Held}
use Rattle.rl_journal.specs.Journal.{kind_of, key_of, code_of, first_of, second_of, value_in, call_of, reply_of}
use Rattle.rl_site.specs.Site.{Site, WaySite}

abbrev pub combine_ranks : WaySite → ℕ
combine_ranks S = length S.site.rooms

-- each rank has nine words behind the lock's: flag, kind, key, first, second, number, place, code and value
abbrev pub post_word : WaySite → ℕ → ℕ → ℕ
post_word S rank i = S.behind + (9 * rank + i)

-- 0 where nothing is posted, 1 where a call is, 2 where it is done
abbrev pub flag_word : WaySite → ℕ → ℕ
flag_word S rank = post_word S rank 0

-- the kinds of all calls: an update's is that of the journal
abbrev pub post_kind : Call → ℕ
post_kind (Get key) = 5
post_kind (Hold shard) = 6
post_kind call = kind_of call

-- the key, or the shard of a hold
abbrev pub post_key : Call → ℕ
post_key (Hold shard) = shard
post_key call = key_of call

-- a posted call with its number
abbrev pub post_spelling : Call → ℕ → List ℕ
post_spelling call seq = post_kind call ∷ post_key call ∷ first_of call ∷ second_of call ∷ seq ∷ []

-- the call of a kind, posted on a shard: a hold is one of that shard
abbrev pub posted_call_of : ℕ → ℕ → ℕ → ℕ → ℕ → Call
posted_call_of shard kind key first second =
    if kind == 5 then Get key
    else (if kind == 6 then Hold shard
    else call_of kind key first second)

-- from the words that were copied
abbrev pub posted_call : ℕ → List ℕ → Call
posted_call shard copied = posted_call_of shard (slice_index copied 0) (slice_index copied 1) (slice_index copied 2) (slice_index copied 3)

abbrev pub posted_seq : List ℕ → ℕ
posted_seq copied = slice_index copied 4

-- the codes of all replies: one that an update may get has that of the journal
abbrev pub post_code : Reply → ℕ
post_code (Val v) = 9
post_code Held = 10
post_code reply = code_of reply

-- the answer to a posted call
abbrev pub answer_spelling : Entry → List ℕ
answer_spelling e = e.at ∷ post_code e.reply ∷ value_in e.reply ∷ []

-- the reply of a code
abbrev pub combine_reply_of : ℕ → ℕ → Reply
combine_reply_of code value =
    if code == 9 then Val value
    else (if code == 10 then Held
    else reply_of code value)

-- the entry of a rank's call, by the answer that was copied
abbrev pub answered_entry : ℕ → ℕ → ℕ → Call → List ℕ → Entry
answered_entry shard rank seq call copied =
    record {
      shard = shard;
      rank = rank;
      seq = seq;
      call = call;
      at = slice_index copied 0;
      reply = combine_reply_of (slice_index copied 1) (slice_index copied 2);
      batch = 0;
      part = 0;
    }

-- what a rank's nine words hold
pub record ThePost : Type 0 where
  pub flag : ℕ
  -- kind, key, first, second and number
  pub call : List ℕ
  -- place, code and value
  pub answer : List ℕ

abbrev pub post_of : WaySite → List ℕ → ℕ → ThePost
post_of S words rank =
    record {
      flag = slice_index words (post_word S rank 0);
      call =
          slice_index words (post_word S rank 1)
          ∷ slice_index words (post_word S rank 2)
          ∷ slice_index words (post_word S rank 3)
          ∷ slice_index words (post_word S rank 4)
          ∷ slice_index words (post_word S rank 5)
          ∷ [];
      answer = slice_index words (post_word S rank 6) ∷ slice_index words (post_word S rank 7) ∷ slice_index words (post_word S rank 8) ∷ [];
    }

-- what contracts see of a shard's way of working: its place, and the node of each rank
pub record TheCombineWork : Type 0 where
  pub here : WaySite
  pub nodes : List ℕ

-- by a site, the number of the first word behind the lock's, and the nodes of the ranks
abbrev pub work_at : Site → ℕ → List ℕ → TheCombineWork
work_at site behind nodes = record { here = record { site = site; behind = behind }; nodes = nodes }

-- the node of a rank; beyond the ranks it is 0
abbrev pub node_in : TheCombineWork → ℕ → ℕ
node_in p rank = slice_index p.nodes rank
