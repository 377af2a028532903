-- Reading a calls file, with its first fault.
use Rattle.std.specs.Prelude.{◌≡◌, ℕ, zero, suc, ◌+◌, ◌-◌, ◌^◌, ◌<◌, ◌%◌, List, [], ◌∷◌, codes, Bool, true, false, ◌||◌, ◌&&◌, not, ◌==◌, Option, Some, None, Result, Ok, Err, nat_lt, if◌then◌else◌}
use Rattle.std.specs.Str.{bytes_eq}
use Rattle.rl_text.specs.declared.causes.Refusal.{Refusal}
use Rattle.rl_text.specs.declared.causes.Why.TheVariants.{Word, Number, Range, Order, Version}
use Rattle.rl_text.specs.Rows.{Row, rows_from, word_at}
use Rattle.rl_text.specs.Reading.{◌>>=◌, fault_of, refusal_at, needed_at, fixed_at, number_at, below_at, between_at, no_word_at, starts_with_word, begins, next_row}
use Rattle.rl_model.specs.declared.call.Call.{Call}
use Rattle.rl_ops.specs.declared.ops.Ops.{Ops}
use Rattle.rl_ops.specs.declared.ops.TheConstants.{MOST_CALLS, MOST_IN_BATCH}
use Rattle.rl_ops.specs.declared.calls_line.CallsVersion.{CallsVersion}
use Rattle.rl_ops.specs.declared.calls_line.CallsVersion.TheVariants.{One, Two}
use Rattle.rl_ops.specs.declared.calls_line.CallsLine.{CallsLine}
use Rattle.rl_ops.specs.declared.calls_line.CallsLine.TheVariants.{Batch, Asks}
use Rattle.rl_ops.specs.declared.progress.Expected.{Expected}
use Rattle.rl_ops.specs.declared.progress.Expected.TheVariants.{NewBlock, FirstCall, FurtherCall}
use Rattle.rl_ops.specs.declared.progress.Progress.{Progress}
use Rattle.rl_ops.specs.CallReading.{call_at}
use Rattle.rl_ops.specs.ByRank.{by_rank, with_item}
use Rattle.rl_ops.specs.Blocks.{shard_among}
use Rattle.rl_ops.specs.Body.{passed_at, Items, body_at}
use Rattle.rl_ops.specs.Ops.{OpsFit}

-- ---- the first line

-- the version that a word names
abbrev pub version_named : Row → List ℕ → Result CallsVersion Refusal
version_named row word =
    if bytes_eq word (codes "1") then Ok One else (if bytes_eq word (codes "2") then Ok Two else Err (refusal_at row 2 Version))

-- rmalock-calls VERSION
unfoldable pub version_at : Row → Result CallsVersion Refusal
version_at row = do
  name ← fixed_at row 1 (codes "rmalock-calls") Word
  word ← needed_at row 2
  version ← version_named row word
  alone ← no_word_at row 3
  Ok version

-- ---- a line

-- CALL, from word 2 on, and no further word
unfoldable pub own_call_at : ℕ → Row → Result Call Refusal
own_call_at shards row = do
  call ← call_at shards row 2
  alone ← no_word_at row call.1
  Ok call.0

-- the size of a batch, and no further word
unfoldable pub size_at : Row → Result ℕ Refusal
size_at row = do
  size ← between_at row 3 2 MOST_IN_BATCH
  alone ← no_word_at row 4
  Ok size

abbrev pub has_batches : CallsVersion → Bool
has_batches One = false
has_batches Two = true

-- RANK CALL, or, in the second version, RANK batch SIZE
unfoldable pub block_at : CallsVersion → ℕ → ℕ → Row → Result CallsLine Refusal
block_at version ranks shards row = do
  rank ← below_at row 1 ranks
  if has_batches version && starts_with_word (codes "batch") (word_at row 2)
      then (size_at row >>= λ size. Ok (Batch rank size))
      else (own_call_at shards row >>= λ call. Ok (Asks rank call 1))

-- the names of updates
abbrev pub names_update : List ℕ → Bool
names_update name = bytes_eq name (codes "put") || (bytes_eq name (codes "del") || (bytes_eq name (codes "add") || bytes_eq name (codes "cas")))

-- a key is of the shard that a batch has; a batch without a call has none yet
abbrev pub is_of_shard : ℕ → Option ℕ → ℕ → Bool
is_of_shard shards None key = true
is_of_shard shards (Some shard) key = (key % shards) == shard

-- RANK UPDATE in a batch of this rank and this shard
unfoldable pub part_at : ℕ → ℕ → ℕ → Option ℕ → Row → Result Call Refusal
part_at ranks shards rank shard row = do
  there ← below_at row 1 ranks
  own ← passed_at row 1 Order (there == rank)
  name ← needed_at row 2
  update ← passed_at row 2 Word (names_update name)
  key ← number_at row 3
  here ← passed_at row 3 Range (is_of_shard shards shard key)
  own_call_at shards row

-- a line where this is expected
unfoldable pub expected_at : CallsVersion → ℕ → ℕ → Expected → Row → Result CallsLine Refusal
expected_at version ranks shards NewBlock row = block_at version ranks shards row
expected_at version ranks shards (FirstCall rank size) row = part_at ranks shards rank None row >>= λ call. Ok (Asks rank call size)
expected_at version ranks shards (FurtherCall rank left shard) row = part_at ranks shards rank (Some shard) row >>= λ call. Ok (Asks rank call 0)

-- ---- line after line

-- a file may end where a new block may begin, and not inside a batch
abbrev pub may_end : Expected → Bool
may_end NewBlock = true
may_end (FirstCall rank size) = false
may_end (FurtherCall rank left shard) = false

-- a line that is one too many; inside a batch that isn't whole the line `end` is refused as what is no number
abbrev pub one_too_many : Expected → Row → Refusal
one_too_many expected row =
    if not (may_end expected) && begins row (codes "end") then refusal_at row 1 Number else refusal_at row 0 Range

-- a line after those that were read
unfoldable pub line_after : CallsVersion → ℕ → ℕ → Progress → Row → Result CallsLine Refusal
line_after version ranks shards progress row =
    if nat_lt progress.count MOST_CALLS
    then expected_at version ranks shards progress.expected row
    else Err (one_too_many progress.expected row)

-- so many more calls of a batch of this rank and shard
abbrev pub rest_of : ℕ → ℕ → ℕ → Expected
rest_of rank zero shard = NewBlock
rest_of rank (suc left) shard = FurtherCall rank (suc left) shard

-- what is expected after a call
abbrev pub after_call : ℕ → Expected → Call → Expected
after_call shards NewBlock call = NewBlock
after_call shards (FirstCall rank size) call = rest_of rank (size - 1) (shard_among shards call)
after_call shards (FurtherCall rank left shard) call = rest_of rank (left - 1) shard

-- the line of a batch isn't counted
abbrev pub after_line : ℕ → Progress → CallsLine → Progress
after_line shards progress (Batch rank size) = record { count = progress.count; expected = FirstCall rank size }
after_line shards progress (Asks rank call size) = record { count = progress.count + 1; expected = after_call shards progress.expected call }

abbrev pub calls_items : CallsVersion → ℕ → ℕ → Items Progress CallsLine
calls_items version ranks shards = record {
  item = line_after version ranks shards;
  next = after_line shards;
  may_end = λ progress. may_end progress.expected;
}

abbrev pub nothing_read : Progress
nothing_read = record { count = 0; expected = NewBlock }

-- all lines, from a line on
abbrev pub lines_at : CallsVersion → ℕ → ℕ → Progress → ℕ → List Row → Result (List CallsLine) Refusal
lines_at version ranks shards progress read rows = body_at (calls_items version ranks shards) progress read rows

-- ---- the calls

-- the calls that the lines ask for, and their sizes, each with its rank
abbrev pub asked_calls : List CallsLine → List (ℕ × Call)
asked_calls [] = []
asked_calls (Batch rank size ∷ lines) = asked_calls lines
asked_calls (Asks rank call size ∷ lines) = (rank, call) ∷ asked_calls lines

abbrev pub asked_sizes : List CallsLine → List (ℕ × ℕ)
asked_sizes [] = []
asked_sizes (Batch rank size ∷ lines) = asked_sizes lines
asked_sizes (Asks rank call size ∷ lines) = (rank, size) ∷ asked_sizes lines

abbrev pub ops_of : ℕ → List CallsLine → Ops
ops_of ranks lines = record { by_rank = by_rank ranks (asked_calls lines); sizes = by_rank ranks (asked_sizes lines) }

-- what one line more asks for
abbrev pub with_line : Ops → CallsLine → Ops
with_line ops (Batch rank size) = ops
with_line ops (Asks rank call size) = record { by_rank = with_item ops.by_rank rank call; sizes = with_item ops.sizes rank size }

-- the rank of the line is there
abbrev pub IsLineOf : ℕ → CallsLine → Type 0
IsLineOf ranks (Batch rank size) = rank < ranks
IsLineOf ranks (Asks rank call size) = rank < ranks

-- the calls of each rank, from a line on
unfoldable pub calls_at : CallsVersion → ℕ → ℕ → ℕ → List Row → Result Ops Refusal
calls_at version ranks shards read rows = do
  lines ← lines_at version ranks shards nothing_read read rows
  Ok (ops_of ranks lines)

-- the calls that a text spells, or its first fault
unfoldable pub ops_at : ℕ → ℕ → List ℕ → Result Ops Refusal
ops_at ranks shards text = do
  first ← next_row 0 (rows_from 1 text)
  version ← version_at first.0
  calls_at version ranks shards 1 first.1

-- the first fault of a text
abbrev pub ops_fault : ℕ → ℕ → List ℕ → Option Refusal
ops_fault ranks shards text = fault_of (ops_at ranks shards text)

-- the text is read as these calls, by all numbers of ranks and shards that they fit
abbrev pub IsReadAsOps : List ℕ → Ops → Type 0
IsReadAsOps text ops = (ranks shards : ℕ) → ranks < 2 ^ 32 → shards < 2 ^ 32 → OpsFit ranks shards ops → ops_at ranks shards text ≡ Ok ops
