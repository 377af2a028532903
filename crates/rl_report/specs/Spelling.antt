-- The text of a report, line by line. It knows nothing of reading.
use Rattle.std.specs.Prelude.{◌≡◌, ◌⊎◌, ℕ, ◌+◌, List, [], ◌∷◌, ◌++◌, length, map, filter, Bool, true, false, ◌==◌, codes, decimal, Option, Some, None, if◌then◌else◌}
use Rattle.rl_model.specs.declared.entry.Entry.{Entry}
use Rattle.rl_model.specs.declared.entry.Reply.{Reply}
use Rattle.rl_model.specs.declared.entry.Reply.TheVariants as reply
use Rattle.rl_step.specs.declared.events.Event.{Event}
use Rattle.rl_step.specs.declared.events.Event.TheVariants.{Join, Announce, Pass, Settle, Touch, EnterW, EnterR, LeaveW, LeaveR}
use Rattle.rl_step.specs.declared.tallies.Steps.{Steps}
use Rattle.rl_step.specs.declared.tallies.Tally.{Tally}
use Rattle.rl_step.specs.Answers.{steps_made}
use Rattle.std.specs.List.{zip}
use Rattle.rl_text.specs.Spelling.{text_of}
use Rattle.rl_ops.specs.CallSpelling.{call_words}
use Rattle.rl_report.specs.declared.report.Done.{Done}
use Rattle.rl_report.specs.Naming.{TheNaming, TheQueueName, queue_word, member_word, cohort_word}
use Rattle.rl_report.specs.Reports.{TheShard, TheReport, ReportFits, IsOld}

-- ---- entries

abbrev pub reply_words : Reply → List (List ℕ)
reply_words reply.New = codes "new" ∷ []
reply_words (reply.Was v) = codes "was" ∷ decimal v ∷ []
reply_words reply.Full = codes "full" ∷ []
reply_words (reply.Val v) = codes "val" ∷ decimal v ∷ []
reply_words reply.Nothing = codes "none" ∷ []
reply_words (reply.Sum v) = codes "sum" ∷ decimal v ∷ []
reply_words (reply.Over v) = codes "over" ∷ decimal v ∷ []
reply_words (reply.No v) = codes "no" ∷ decimal v ∷ []
reply_words reply.Held = codes "held" ∷ []
reply_words reply.Undone = codes "undone" ∷ []

-- `part I of N`, and nothing for a call alone
abbrev pub part_words : ℕ → ℕ → List (List ℕ)
part_words batch part = if batch == 0 then [] else codes "part" ∷ decimal part ∷ codes "of" ∷ decimal batch ∷ []

-- `CALL = REPLY`, and the part of a batch
abbrev pub answer_words : Entry → List (List ℕ)
answer_words e = call_words e.call ++ codes "=" ∷ (reply_words e.reply ++ part_words e.batch e.part)

-- `entry AT RANK SEQ CALL = REPLY`
abbrev pub entry_words : Entry → List (List ℕ)
entry_words e = codes "entry" ∷ decimal e.at ∷ decimal e.rank ∷ decimal e.seq ∷ answer_words e

-- ---- queues, pairs and events

-- `queue NAME settled X passed Y`
abbrev pub queue_words : TheQueueName → Tally → List (List ℕ)
queue_words queue tally = codes "queue" ∷ queue.word ∷ codes "settled" ∷ decimal tally.settled ∷ codes "passed" ∷ decimal tally.passed ∷ []

-- the line of a queue, where it has a tally
abbrev pub queue_line : TheQueueName → Option Tally → List (List (List ℕ))
queue_line queue None = []
queue_line queue (Some tally) = queue_words queue tally ∷ []

-- a line for each queue
abbrev pub queue_lines : List TheQueueName → List Tally → List (List (List ℕ))
queue_lines queues tallies = map (λ p. queue_words p.0 p.1) (zip queues tallies)

-- `pair K V`
abbrev pub pair_words : ℕ × ℕ → List (List ℕ)
pair_words p = codes "pair" ∷ decimal p.0 ∷ decimal p.1 ∷ []

-- what happened in a queue, and to which member
abbrev pub in_queue_words : TheNaming → List ℕ → ℕ → ℕ → List (List ℕ)
in_queue_words naming name q m = name ∷ queue_word naming q ∷ member_word naming q m ∷ []

-- what happened
abbrev pub event_words : TheNaming → Event → List (List ℕ)
event_words naming (Join q m) = in_queue_words naming (codes "join") q m
event_words naming (Announce c) = codes "announce" ∷ cohort_word c ∷ []
event_words naming (Pass q m) = in_queue_words naming (codes "pass") q m
event_words naming (Settle q m) = in_queue_words naming (codes "settle") q m
event_words naming (Touch k w) = []
event_words naming (EnterW k) = codes "enter-w" ∷ decimal k ∷ []
event_words naming (EnterR k) = codes "enter-r" ∷ decimal k ∷ []
event_words naming (LeaveW k) = codes "leave-w" ∷ decimal k ∷ []
event_words naming (LeaveR k) = codes "leave-r" ∷ decimal k ∷ []

-- `event STEP EVENT`
abbrev pub event_line : TheNaming → ℕ × Event → List (List ℕ)
event_line naming e = codes "event" ∷ decimal e.0 ∷ event_words naming e.1

-- touches aren't printed
abbrev pub is_printed : Event → Bool
is_printed (Touch k w) = false
is_printed _ = true

abbrev pub event_lines : TheNaming → List (ℕ × Event) → List (List (List ℕ))
event_lines naming events = map (event_line naming) (filter (λ e. is_printed e.1) events)

-- ---- shards

-- `shard I updates U entries N`
abbrev pub shard_words : ℕ → TheShard → List (List ℕ)
shard_words number s = codes "shard" ∷ decimal number ∷ codes "updates" ∷ decimal s.updates ∷ codes "entries" ∷ decimal (length s.entries) ∷ []

abbrev pub shard_lines : TheNaming → ℕ → TheShard → List (List (List ℕ))
shard_lines naming number s =
    shard_words number s ∷ (map entry_words s.entries ++ (queue_lines naming.queues s.queues ++ (map pair_words s.pairs ++ event_lines naming s.events)))

-- the shards from one on
abbrev pub shards_lines : TheNaming → ℕ → List TheShard → List (List (List ℕ))
shards_lines naming number [] = []
shards_lines naming number (s ∷ ss) = shard_lines naming number s ++ shards_lines naming (number + 1) ss

-- ---- ranks and steps

-- `rank K done D of C`
abbrev pub rank_done_words : ℕ → Done → List (List ℕ)
rank_done_words rank d = codes "rank" ∷ decimal rank ∷ codes "done" ∷ decimal d.done ∷ codes "of" ∷ decimal d.given ∷ []

-- the ranks from one on
abbrev pub rank_done_lines : ℕ → List Done → List (List (List ℕ))
rank_done_lines rank [] = []
rank_done_lines rank (d ∷ ds) = rank_done_words rank d ∷ rank_done_lines (rank + 1) ds

-- `lost L busy Z finished F`
abbrev pub last_steps_words : Steps → List (List ℕ)
last_steps_words s = codes "lost" ∷ decimal s.lost ∷ codes "busy" ∷ decimal s.busy ∷ codes "finished" ∷ decimal s.finished ∷ []

-- `steps T moved M waiting W lost L busy Z finished F`
abbrev pub steps_words : Steps → List (List ℕ)
steps_words s =
    codes "steps" ∷ decimal (steps_made s) ∷ codes "moved" ∷ decimal s.moved ∷ codes "waiting" ∷ decimal s.waiting ∷ last_steps_words s

abbrev pub steps_lines : Option Steps → List (List (List ℕ))
steps_lines None = []
steps_lines (Some s) = steps_words s ∷ []

-- ---- the whole

-- a replay counts its steps
abbrev pub mode_word : Option Steps → List ℕ
mode_word None = codes "run"
mode_word (Some s) = codes "replay"

-- `ranks R shards S`
abbrev pub sizes_words : TheNaming → List (List ℕ)
sizes_words naming = codes "ranks" ∷ decimal naming.ranks ∷ codes "shards" ∷ decimal naming.shards ∷ []

-- the lines after the first
abbrev pub report_body_lines : TheNaming → TheReport → List (List (List ℕ))
report_body_lines naming r =
    (mode_word r.steps ∷ naming.lock ∷ []) ∷ sizes_words naming
    ∷ (shards_lines naming 0 r.shards ++ (rank_done_lines 0 r.done ++ (steps_lines r.steps ++ (codes "end" ∷ []) ∷ [])))

abbrev pub report_lines : List ℕ → TheNaming → TheReport → List (List (List ℕ))
report_lines version naming r = (codes "rmalock-report" ∷ version ∷ []) ∷ report_body_lines naming r

-- the text that is printed
abbrev pub report_spelling : TheNaming → TheReport → List ℕ
report_spelling naming r = text_of (report_lines (codes "2") naming r)

-- A text spells a report in the second version; and in the first, where the report has no batch and nothing undone.
abbrev pub SpellsReport : TheNaming → TheReport → List ℕ → Type 0
SpellsReport naming r text = (text ≡ report_spelling naming r) ⊎ (IsOld r × (text ≡ text_of (report_lines (codes "1") naming r)))

-- The text of a report that keeps its limits. It has two texts where it has no batch and nothing undone, else one.
abbrev pub IsTextOf : TheNaming → TheReport → List ℕ → Type 0
IsTextOf naming r text = ReportFits naming r × SpellsReport naming r text
