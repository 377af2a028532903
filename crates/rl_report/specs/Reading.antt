-- Reading a report, line by line and word by word, with its first fault.
use Rattle.std.specs.Prelude.{ℕ, zero, suc, ◌+◌, List, [], ◌∷◌, codes, Bool, true, false, Option, Some, None, Result, Ok, Err, ◌==◌, ◌&&◌, nat_lt, nat_le, position, slice_get, if◌then◌else◌}
use Rattle.std.specs.Str.{bytes_eq}
use Rattle.rl_text.specs.declared.causes.Refusal.{Refusal}
use Rattle.rl_text.specs.declared.causes.Why.TheVariants.{Word, Range, Repeat, Order, Version}
use Rattle.rl_text.specs.Rows.{Row, Left, rows_from}
use Rattle.rl_text.specs.Reading.{◌>>=◌, refusal_at, needed_at, fixed_at, number_at, below_at, between_at, no_word_at, whole, begins, next_left, end_at, fault_of}
use Rattle.rl_model.specs.declared.entry.Entry.{Entry}
use Rattle.rl_model.specs.declared.entry.Reply.{Reply}
use Rattle.rl_model.specs.declared.entry.Reply.TheVariants as reply
use Rattle.rl_step.specs.declared.events.Event.{Event}
use Rattle.rl_step.specs.declared.events.Event.TheVariants.{Join, Announce, Pass, Settle, EnterW, EnterR, LeaveW, LeaveR}
use Rattle.rl_step.specs.declared.tallies.Steps.{Steps}
use Rattle.rl_step.specs.declared.tallies.Tally.{Tally}
use Rattle.rl_ops.specs.declared.ops.TheConstants.{MOST_CALLS, MOST_IN_BATCH}
use Rattle.rl_ops.specs.declared.schedule.TheConstants.{MOST_STEPS}
use Rattle.rl_ops.specs.CallReading.{call_at}
use Rattle.rl_report.specs.declared.report.Done.{Done}
use Rattle.rl_report.specs.declared.version.Version.{Version as TheVersion}
use Rattle.rl_report.specs.declared.version.Version.TheVariants.{First, Second}
use Rattle.rl_report.specs.Naming.{TheNaming, TheQueueName, parent_is_at}
use Rattle.rl_report.specs.Reports.{TheShard, TheReport, pair_key, step_of}

-- a test that has to hold
abbrev pub or_refused : Bool → Refusal → Result (Unit {0}) Refusal
or_refused true refusal = Ok tt
or_refused false refusal = Err refusal

-- ---- the first three lines

abbrev pub version_named : Row → List ℕ → Result TheVersion Refusal
version_named row word =
    if bytes_eq word (codes "1") then Ok First else (if bytes_eq word (codes "2") then Ok Second else Err (refusal_at row 2 Version))

-- rmalock-report 1, or 2
unfoldable pub version_at : Row → Result TheVersion Refusal
version_at row = do
  name_there ← fixed_at row 1 (codes "rmalock-report") Word
  word ← needed_at row 2
  version ← version_named row word
  alone ← no_word_at row 3
  Ok version

abbrev pub mode_named : Row → List ℕ → Result Bool Refusal
mode_named row word =
    if bytes_eq word (codes "replay") then Ok true else (if bytes_eq word (codes "run") then Ok false else Err (refusal_at row 1 Word))

-- replay LOCK, or run LOCK: whether it is a replay
unfoldable pub mode_at : TheNaming → Row → Result Bool Refusal
mode_at naming row = do
  word ← needed_at row 1
  replay ← mode_named row word
  lock_there ← fixed_at row 2 naming.lock Word
  alone ← no_word_at row 3
  Ok replay

-- ranks R shards S
unfoldable pub sizes_at : TheNaming → Row → Result (Unit {0}) Refusal
sizes_at naming row = do
  ranks_named ← fixed_at row 1 (codes "ranks") Word
  ranks ← between_at row 2 naming.ranks naming.ranks
  shards_named ← fixed_at row 3 (codes "shards") Word
  shards ← between_at row 4 naming.shards naming.shards
  no_word_at row 5

-- word n is this number; another one comes out of its order
unfoldable pub counted_at : Row → ℕ → ℕ → Result (Unit {0}) Refusal
counted_at row n next = do
  k ← number_at row n
  or_refused (k == next) (refusal_at row n Order)

-- ---- entries

-- a reply of one word, and the number of the word after it
abbrev pub plain_reply : ℕ → Reply → Result (Reply × ℕ) Refusal
plain_reply n r = Ok (r, n + 1)

-- a reply with its value
abbrev pub reply_with : Row → ℕ → (ℕ → Reply) → Result (Reply × ℕ) Refusal
reply_with row n r = number_at row (n + 1) >>= λ value. Ok (r value, n + 2)

-- the second version alone has calls that are undone
abbrev pub undone_at : TheVersion → Row → ℕ → Result (Reply × ℕ) Refusal
undone_at First row n = Err (refusal_at row n Word)
undone_at Second row n = plain_reply n reply.Undone

-- the reply that begins with this word
unfoldable pub reply_named : TheVersion → Row → ℕ → List ℕ → Result (Reply × ℕ) Refusal
reply_named version row n name =
    if bytes_eq name (codes "new") then plain_reply n reply.New
    else (if bytes_eq name (codes "was") then reply_with row n (λ v. reply.Was v)
    else (if bytes_eq name (codes "full") then plain_reply n reply.Full
    else (if bytes_eq name (codes "val") then reply_with row n (λ v. reply.Val v)
    else (if bytes_eq name (codes "none") then plain_reply n reply.Nothing
    else (if bytes_eq name (codes "sum") then reply_with row n (λ v. reply.Sum v)
    else (if bytes_eq name (codes "over") then reply_with row n (λ v. reply.Over v)
    else (if bytes_eq name (codes "no") then reply_with row n (λ v. reply.No v)
    else (if bytes_eq name (codes "held") then plain_reply n reply.Held
    else (if bytes_eq name (codes "undone") then undone_at version row n
    else Err (refusal_at row n Word))))))))))

-- the reply that begins at this word, and the number of the word after it
unfoldable pub reply_at : TheVersion → Row → ℕ → Result (Reply × ℕ) Refusal
reply_at version row n = do
  name ← needed_at row n
  reply_named version row n name

-- part I of N, with which the line ends: the size of the batch and the part
unfoldable pub part_of_at : Row → ℕ → Result (ℕ × ℕ) Refusal
part_of_at row n = do
  part_named ← fixed_at row n (codes "part") Word
  part ← below_at row (n + 1) MOST_IN_BATCH
  of_there ← fixed_at row (n + 2) (codes "of") Word
  batch ← between_at row (n + 3) 2 MOST_IN_BATCH
  there ← or_refused (nat_lt part batch) (refusal_at row (n + 3) Range)
  alone ← no_word_at row (n + 4)
  Ok (batch, part)

-- in the second version a word may follow, and begins a part
abbrev pub after_reply : TheVersion → Row → ℕ → Result (Unit {0}) Refusal → Result (ℕ × ℕ) Refusal
after_reply version row n (Ok alone) = Ok (0, 0)
after_reply First row n (Err extra) = Err extra
after_reply Second row n (Err extra) = part_of_at row n

-- what follows a reply
unfoldable pub part_at : TheVersion → Row → ℕ → Result (ℕ × ℕ) Refusal
part_at version row n = after_reply version row n (no_word_at row n)

-- entry AT RANK SEQ CALL = REPLY, of a shard
unfoldable pub entry_at : TheNaming → TheVersion → ℕ → Row → Result Entry Refusal
entry_at naming version shard row = do
  name_there ← fixed_at row 1 (codes "entry") Word
  at ← below_at row 2 (MOST_CALLS + 1)
  rank ← below_at row 3 naming.ranks
  seq ← below_at row 4 MOST_CALLS
  call ← call_at naming.shards row 5
  equals ← fixed_at row call.1 (codes "=") Word
  answer ← reply_at version row (call.1 + 1)
  part ← part_at version row answer.1
  Ok (record { shard = shard; rank = rank; seq = seq; call = call.0; at = at; reply = answer.0; batch = part.0; part = part.1 })

-- so many lines of entries
unfoldable pub entries_next : TheNaming → TheVersion → ℕ → ℕ → Left → Result (List Entry × Left) Refusal
entries_next naming version shard zero left = Ok ([], left)
entries_next naming version shard (suc more) left = do
  line ← next_left left
  entry ← entry_at naming version shard line.0
  others ← entries_next naming version shard more line.1
  Ok (entry ∷ others.0, others.1)

-- ---- queues, pairs and events

-- queue NAME settled X passed Y, of this queue
unfoldable pub tally_in_row : TheQueueName → Row → Result Tally Refusal
tally_in_row queue row = do
  named ← fixed_at row 1 (codes "queue") Word
  name_there ← fixed_at row 2 queue.word Word
  settled_named ← fixed_at row 3 (codes "settled") Word
  settled ← number_at row 4
  passed_named ← fixed_at row 5 (codes "passed") Word
  passed ← number_at row 6
  alone ← no_word_at row 7
  Ok (record { settled = settled; passed = passed })

-- the lines of these queues
unfoldable pub tallies_next : List TheQueueName → Left → Result (List Tally × Left) Refusal
tallies_next [] left = Ok ([], left)
tallies_next (queue ∷ queues) left = do
  line ← next_left left
  tally ← tally_in_row queue line.0
  others ← tallies_next queues line.1
  Ok (tally ∷ others.0, others.1)

-- the key comes after the last one
abbrev pub rising_at : Row → Option ℕ → ℕ → Result (Unit {0}) Refusal
rising_at row None key = Ok tt
rising_at row (Some last) key =
    if key == last then Err (refusal_at row 2 Repeat) else (if nat_lt key last then Err (refusal_at row 2 Order) else Ok tt)

-- pair K V, after the last key
unfoldable pub pair_at : Option ℕ → Row → Result (ℕ × ℕ) Refusal
pair_at last row = do
  named ← fixed_at row 1 (codes "pair") Word
  key ← number_at row 2
  rising ← rising_at row last key
  value ← number_at row 3
  alone ← no_word_at row 4
  Ok (key, value)

-- lines as long as they begin with this word; `item` reads one after the one before it
unfoldable pub lines_while : {X S : Type 0} → List ℕ → (S → Row → Result X Refusal) → (X → S) → S → ℕ → List Row → Result (List X × Left) Refusal
lines_while name item after state read [] = Ok ([], record { rows = []; read = read })
lines_while name item after state read (row ∷ rows) =
    if begins row name
    then (whole row >>= λ line. item state line >>= λ x. lines_while name item after (after x) (read + 1) rows >>= λ others. Ok (x ∷ others.0, others.1))
    else Ok ([], record { rows = row ∷ rows; read = read })

abbrev pub or_no_name : {X : Type 0} → Row → ℕ → Option X → Result X Refusal
or_no_name row n None = Err (refusal_at row n Word)
or_no_name row n (Some x) = Ok x

-- word n is the name of a queue
unfoldable pub queue_at : TheNaming → Row → ℕ → Result ℕ Refusal
queue_at naming row n = do
  word ← needed_at row n
  or_no_name row n (position (λ queue. bytes_eq word queue.word) naming.queues)

-- word n is the name of a queue right below queue q
unfoldable pub below_queue_at : TheNaming → ℕ → Row → ℕ → Result ℕ Refusal
below_queue_at naming q row n = do
  word ← needed_at row n
  or_no_name row n (position (λ queue. parent_is_at q queue.parent && bytes_eq word queue.word) naming.queues)

abbrev pub member_of : TheNaming → ℕ → Row → ℕ → Option TheQueueName → Result ℕ Refusal
member_of naming q row n None = Err (refusal_at row n Word)
member_of naming q row n (Some queue) = if queue.of_ranks then below_at row n naming.ranks else below_queue_at naming q row n

-- word n is a member of the queue
unfoldable pub member_in_row : TheNaming → ℕ → Row → ℕ → Result ℕ Refusal
member_in_row naming q row n = member_of naming q row n (slice_get naming.queues q)

-- the cohort of a name, under a lock that has cohorts
abbrev pub cohort_named : Bool → Row → ℕ → List ℕ → Result ℕ Refusal
cohort_named false row n word = Err (refusal_at row n Word)
cohort_named true row n word =
    if bytes_eq word (codes "local") then Ok 1 else (if bytes_eq word (codes "remote") then Ok 2 else Err (refusal_at row n Word))

-- QUEUE MEMBER, with which the line ends
unfoldable pub in_queue_at : TheNaming → Row → Result (ℕ × ℕ) Refusal
in_queue_at naming row = do
  queue ← queue_at naming row 4
  member ← member_in_row naming queue row 5
  alone ← no_word_at row 6
  Ok (queue, member)

-- COHORT, with which the line ends
unfoldable pub cohort_at : TheNaming → Row → Result ℕ Refusal
cohort_at naming row = do
  word ← needed_at row 4
  cohort ← cohort_named naming.cohorts row 4 word
  alone ← no_word_at row 5
  Ok cohort

-- RANK, with which the line ends
unfoldable pub rank_at : TheNaming → Row → Result ℕ Refusal
rank_at naming row = do
  rank ← below_at row 4 naming.ranks
  alone ← no_word_at row 5
  Ok rank

-- an event of a queue and a member
abbrev pub in_queue_with : TheNaming → Row → (ℕ → ℕ → Event) → Result Event Refusal
in_queue_with naming row event = in_queue_at naming row >>= λ x. Ok (event x.0 x.1)

-- an event of a cohort
abbrev pub cohort_with : TheNaming → Row → (ℕ → Event) → Result Event Refusal
cohort_with naming row event = cohort_at naming row >>= λ c. Ok (event c)

-- an event of a rank
abbrev pub rank_with : TheNaming → Row → (ℕ → Event) → Result Event Refusal
rank_with naming row event = rank_at naming row >>= λ k. Ok (event k)

-- the event that begins with this word, at word 3
unfoldable pub event_named : TheNaming → Row → List ℕ → Result Event Refusal
event_named naming row name =
    if bytes_eq name (codes "join") then (in_queue_at naming row >>= λ x. Ok (Join x.0 x.1))
    else (if bytes_eq name (codes "announce") then (cohort_at naming row >>= λ c. Ok (Announce c))
    else (if bytes_eq name (codes "pass") then (in_queue_at naming row >>= λ x. Ok (Pass x.0 x.1))
    else (if bytes_eq name (codes "settle") then (in_queue_at naming row >>= λ x. Ok (Settle x.0 x.1))
    else (if bytes_eq name (codes "enter-w") then (rank_at naming row >>= λ k. Ok (EnterW k))
    else (if bytes_eq name (codes "enter-r") then (rank_at naming row >>= λ k. Ok (EnterR k))
    else (if bytes_eq name (codes "leave-w") then (rank_at naming row >>= λ k. Ok (LeaveW k))
    else (if bytes_eq name (codes "leave-r") then (rank_at naming row >>= λ k. Ok (LeaveR k))
    else Err (refusal_at row 3 Word))))))))

-- event STEP EVENT, after an event of this step
unfoldable pub event_at : TheNaming → ℕ → Row → Result (ℕ × Event) Refusal
event_at naming least row = do
  named ← fixed_at row 1 (codes "event") Word
  step ← below_at row 2 MOST_STEPS
  in_order ← or_refused (nat_le least step) (refusal_at row 2 Order)
  name ← needed_at row 3
  event ← event_named naming row name
  Ok (step, event)

-- a run has the pairs of the table
unfoldable pub pairs_next : Bool → Left → Result (List (ℕ × ℕ) × Left) Refusal
pairs_next true left = Ok ([], left)
pairs_next false left = lines_while (codes "pair") pair_at pair_key None left.read left.rows

-- a replay has events
unfoldable pub events_next : TheNaming → Bool → Left → Result (List (ℕ × Event) × Left) Refusal
events_next naming true left = lines_while (codes "event") (event_at naming) step_of 0 left.read left.rows
events_next naming false left = Ok ([], left)

-- ---- shards

-- shard I updates U entries N: the updates, and how many entries follow
unfoldable pub shard_at : ℕ → Row → Result (ℕ × ℕ) Refusal
shard_at number row = do
  named ← fixed_at row 1 (codes "shard") Word
  in_order ← counted_at row 2 number
  updates_named ← fixed_at row 3 (codes "updates") Word
  updates ← below_at row 4 (MOST_CALLS + 1)
  entries_named ← fixed_at row 5 (codes "entries") Word
  entries ← below_at row 6 (MOST_CALLS + 1)
  alone ← no_word_at row 7
  Ok (updates, entries)

unfoldable pub shard_next : TheNaming → TheVersion → Bool → ℕ → Left → Result (TheShard × Left) Refusal
shard_next naming version replay number left = do
  line ← next_left left
  head ← shard_at number line.0
  entries ← entries_next naming version number head.1 line.1
  queues ← tallies_next naming.queues entries.1
  pairs ← pairs_next replay queues.1
  events ← events_next naming replay pairs.1
  Ok (record { updates = head.0; entries = entries.0; queues = queues.0; pairs = pairs.0; events = events.0 }, events.1)

-- so many shards from one on
unfoldable pub shards_next : TheNaming → TheVersion → Bool → ℕ → ℕ → Left → Result (List TheShard × Left) Refusal
shards_next naming version replay number zero left = Ok ([], left)
shards_next naming version replay number (suc more) left = do
  shard ← shard_next naming version replay number left
  others ← shards_next naming version replay (number + 1) more shard.1
  Ok (shard.0 ∷ others.0, others.1)

-- all of them
abbrev pub all_shards_next : TheNaming → TheVersion → Bool → Left → Result (List TheShard × Left) Refusal
all_shards_next naming version replay left = shards_next naming version replay 0 naming.shards left

-- ---- ranks and steps

-- rank K done D of C
unfoldable pub done_at : ℕ → Row → Result Done Refusal
done_at rank row = do
  named ← fixed_at row 1 (codes "rank") Word
  in_order ← counted_at row 2 rank
  done_named ← fixed_at row 3 (codes "done") Word
  done ← below_at row 4 (MOST_CALLS + 1)
  of_there ← fixed_at row 5 (codes "of") Word
  given ← below_at row 6 (MOST_CALLS + 1)
  alone ← no_word_at row 7
  Ok (record { done = done; given = given })

-- so many ranks from one on
unfoldable pub dones_next : ℕ → ℕ → Left → Result (List Done × Left) Refusal
dones_next rank zero left = Ok ([], left)
dones_next rank (suc more) left = do
  line ← next_left left
  done ← done_at rank line.0
  others ← dones_next (rank + 1) more line.1
  Ok (done ∷ others.0, others.1)

-- a name at word n, and a count of steps
unfoldable pub count_at : Row → ℕ → List ℕ → Result ℕ Refusal
count_at row n name = do
  name_there ← fixed_at row n name Word
  below_at row (n + 1) (MOST_STEPS + 1)

-- steps T moved M waiting W lost L busy Z finished F, where T is the sum of the others
unfoldable pub steps_at : Row → Result Steps Refusal
steps_at row = do
  all ← count_at row 1 (codes "steps")
  moved ← count_at row 3 (codes "moved")
  waiting ← count_at row 5 (codes "waiting")
  lost ← count_at row 7 (codes "lost")
  busy ← count_at row 9 (codes "busy")
  finished ← count_at row 11 (codes "finished")
  is_sum ← or_refused (moved + waiting + lost + busy + finished == all) (refusal_at row 2 Range)
  alone ← no_word_at row 13
  Ok (record { moved = moved; waiting = waiting; lost = lost; busy = busy; finished = finished })

-- a replay has the line of its steps
unfoldable pub steps_next : Bool → Left → Result (Option Steps × Left) Refusal
steps_next false left = Ok (None, left)
steps_next true left = do
  line ← next_left left
  steps ← steps_at line.0
  Ok (Some steps, line.1)

-- ---- the file

-- end, after which nothing follows
unfoldable pub closing_at : Left → Result (Unit {0}) Refusal
closing_at left = do
  line ← next_left left
  named ← fixed_at line.0 1 (codes "end") Word
  end_at line.0 line.1.rows

-- the lines after the first: the mode, the sizes, the shards, the ranks, the steps and `end`
unfoldable pub body_next : TheNaming → TheVersion → Left → Result TheReport Refusal
body_next naming version left = do
  mode ← next_left left
  replay ← mode_at naming mode.0
  sizes ← next_left mode.1
  same ← sizes_at naming sizes.0
  shards ← all_shards_next naming version replay sizes.1
  dones ← dones_next 0 naming.ranks shards.1
  steps ← steps_next replay dones.1
  closing ← closing_at steps.1
  Ok (record { shards = shards.0; done = dones.0; steps = steps.0 })

-- the report that a text spells, or its first fault
unfoldable pub report_at : TheNaming → List ℕ → Result TheReport Refusal
report_at naming text = do
  first ← next_left (record { rows = rows_from 1 text; read = 0 })
  version ← version_at first.0
  body_next naming version first.1

-- the first fault of a text
abbrev pub report_fault : TheNaming → List ℕ → Option Refusal
report_fault naming text = fault_of (report_at naming text)
