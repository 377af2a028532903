-- A report as plain lists, and its limits.
use Rattle.std.specs.Prelude.{◌≡◌, ◌≢◌, ◌⊎◌, ℕ, ◌+◌, ◌^◌, ◌<◌, ◌≤◌, List, [], ◌∷◌, length, Bool, true, false, not, Option, Some, None, is_some}
use Rattle.std.specs.List.{AllByRecursion}
use Rattle.rl_model.specs.declared.entry.Entry.{Entry}
use Rattle.rl_model.specs.declared.entry.Reply.{Reply}
use Rattle.rl_model.specs.declared.entry.Reply.TheVariants as reply
use Rattle.rl_step.specs.declared.events.Event.{Event}
use Rattle.rl_step.specs.declared.tallies.Steps.{Steps}
use Rattle.rl_step.specs.declared.tallies.Tally.{Tally}
use Rattle.rl_step.specs.Answers.{steps_made}
use Rattle.rl_ops.specs.declared.ops.TheConstants.{MOST_CALLS, MOST_IN_BATCH}
use Rattle.rl_ops.specs.declared.schedule.TheConstants.{MOST_STEPS}
use Rattle.rl_ops.specs.CallSpelling.{CallFits}
use Rattle.rl_report.specs.Naming.{TheNaming, EventFits}
use Rattle.rl_report.specs.declared.report.Done.{Done}

-- ---- the value

-- one shard: how many updates it had, its history, the tallies of its queues, what its table held at last, and what happened
-- on it, with the numbers of the steps
pub record TheShard : Type 0 where
  pub updates : ℕ
  pub entries : List Entry
  pub queues : List Tally
  pub pairs : List (ℕ × ℕ)
  pub events : List (ℕ × Event)

-- the shards, what each rank did, and how often each answer came: a replay has these counts, and a run has none
pub record TheReport : Type 0 where
  pub shards : List TheShard
  pub done : List Done
  pub steps : Option Steps

-- ---- its limits

-- the value in a reply is below 2 ^ 64
abbrev pub ReplyFits : Reply → Type 0
ReplyFits (reply.Was v) = v < 2 ^ 64
ReplyFits (reply.Val v) = v < 2 ^ 64
ReplyFits (reply.Sum v) = v < 2 ^ 64
ReplyFits (reply.Over v) = v < 2 ^ 64
ReplyFits (reply.No v) = v < 2 ^ 64
ReplyFits _ = Unit {0}

-- a call alone, or a part of a batch of at least 2
abbrev pub PartFits : ℕ → ℕ → Type 0
PartFits batch part = ((batch ≡ 0) × (part ≡ 0)) ⊎ ((2 ≤ batch) × (batch ≤ MOST_IN_BATCH) × (part < batch))

-- an entry of a shard's list
pub record EntryFits (naming : TheNaming) (shard : ℕ) (e : Entry) : Type 0 where
  pub shard_is : e.shard ≡ shard
  pub low_place : e.at ≤ MOST_CALLS
  pub rank_there : e.rank < naming.ranks
  pub low_number : e.seq < MOST_CALLS
  pub call : CallFits naming.shards e.call
  pub reply : ReplyFits e.reply
  pub part : PartFits e.batch e.part

abbrev pub TallyFits : Tally → Type 0
TallyFits t = (t.settled < 2 ^ 64) × (t.passed < 2 ^ 64)

-- each keeps its limits after the one before it
abbrev pub EachAfter : {X S : Type 0} → (S → X → Type 0) → (X → S) → S → List X → Type 0
EachAfter Fits after state [] = Unit {0}
EachAfter Fits after state (x ∷ xs) = Fits state x × EachAfter Fits after (after x) xs

-- beyond the last key, if there was one
abbrev pub IsBeyond : Option ℕ → ℕ → Type 0
IsBeyond None key = Unit {0}
IsBeyond (Some last) key = last < key

-- the keys of pairs rise
abbrev pub PairFits : Option ℕ → ℕ × ℕ → Type 0
PairFits last p = IsBeyond last p.0 × (p.0 < 2 ^ 64) × (p.1 < 2 ^ 64)

abbrev pub pair_key : ℕ × ℕ → Option ℕ
pair_key pair = Some pair.0

-- the numbers of steps don't fall
abbrev pub StepFits : TheNaming → ℕ → ℕ × Event → Type 0
StepFits naming least e = (least ≤ e.0) × (e.0 < MOST_STEPS) × EventFits naming e.1

abbrev pub step_of : ℕ × Event → ℕ
step_of event = event.0

-- what a report may only have where a test holds
abbrev pub OnlyWhere : {X : Type 0} → Bool → (List X → Type 0) → List X → Type 0
OnlyWhere true Fit xs = Fit xs
OnlyWhere false Fit xs = xs ≡ []

-- the part of one shard; a replay has events and no pairs, a run has pairs and no events
pub record ShardFits (naming : TheNaming) (replay : Bool) (number : ℕ) (s : TheShard) : Type 0 where
  pub few_updates : s.updates ≤ MOST_CALLS
  pub few_entries : length s.entries ≤ MOST_CALLS
  pub entries : AllByRecursion (EntryFits naming number) s.entries
  pub each_queue : length s.queues ≡ length naming.queues
  pub queues : AllByRecursion TallyFits s.queues
  pub pairs : OnlyWhere (not replay) (EachAfter PairFits pair_key None) s.pairs
  pub events : OnlyWhere replay (EachAfter (StepFits naming) step_of 0) s.events

-- the shards from one on
abbrev pub ShardsFit : TheNaming → Bool → ℕ → List TheShard → Type 0
ShardsFit naming replay number [] = Unit {0}
ShardsFit naming replay number (s ∷ ss) = ShardFits naming replay number s × ShardsFit naming replay (number + 1) ss

abbrev pub DoneFits : Done → Type 0
DoneFits d = (d.done ≤ MOST_CALLS) × (d.given ≤ MOST_CALLS)

abbrev pub StepsFit : Option Steps → Type 0
StepsFit None = Unit {0}
StepsFit (Some s) = steps_made s ≤ MOST_STEPS

-- a report of a placement that names things so
pub record ReportFits (naming : TheNaming) (r : TheReport) : Type 0 where
  pub each_shard : length r.shards ≡ naming.shards
  pub shards : ShardsFit naming (is_some r.steps) 0 r.shards
  pub each_rank : length r.done ≡ naming.ranks
  pub done : AllByRecursion DoneFits r.done
  pub steps : StepsFit r.steps

-- no batch and nothing undone, as it was before there were batches
pub record IsOldEntry (e : Entry) : Type 0 where
  pub alone : e.batch ≡ 0
  pub not_undone : e.reply ≢ reply.Undone

abbrev pub IsOldShard : TheShard → Type 0
IsOldShard s = AllByRecursion IsOldEntry s.entries

abbrev pub IsOld : TheReport → Type 0
IsOld r = AllByRecursion IsOldShard r.shards
