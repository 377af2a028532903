-- ALock as plain functions: two queues of ranks, by where they sit, and the entry in which their heads meet.
use Rattle.std.specs.Prelude.{◌≡◌, ℕ, zero, suc, ◌+◌, ◌*◌, ◌/◌, ◌==◌, ◌||◌, Bool, true, false, not, List, [], ◌∷◌, ◌++◌, length, if◌then◌else◌, slice_index, Option, Some}
use Rattle.rl_word.specs.Shapes.{TheShape}
use Rattle.rl_word.specs.declared.shapes.Knobs.{Knobs}
use Rattle.rl_word.specs.declared.classes.Spot.{Spot}
use Rattle.rl_word.specs.declared.classes.Class.{Class}
use Rattle.rl_word.specs.declared.classes.Class.TheVariants as class
use Rattle.rl_word.specs.declared.acts.Act.{Act}
use Rattle.rl_word.specs.declared.acts.Act.TheVariants.{Load, Store, LocalCas}
use Rattle.rl_word.specs.Acts.{by_card}
use Rattle.rl_step.specs.declared.events.Event.{Event}
use Rattle.rl_step.specs.declared.events.Event.TheVariants as event
use Rattle.rl_step.specs.Lock.{LockTable, Told, no_local}
use Rattle.rl_step.specs.Queues.{QueueOf}
use Rattle.rl_step.specs.LockQueues.{sits_at, same, cohort_queue}
use Rattle.rl_step.specs.Overtaking.{IsOvertakenAtMost}
use Rattle.rl_queue.specs.declared.view.Phase.{Phase}
use Rattle.rl_queue.specs.declared.view.Phase.TheVariants.{Idle, Clear, Settle, Granted}
use Rattle.rl_queue.specs.Queue.{TheNames, QueueTurn, full_budget, at_phase, plan_at, turn_at, settled_at, leave_at}
use Rattle.rl_queue.specs.RankWords.{every_second}
use Rattle.rl_queue.specs.Standings.{standing_of}
use Rattle.rl_alock.specs.declared.cohort.Cohort.{Cohort}
use Rattle.rl_alock.specs.declared.cohort.Cohort.TheVariants.{Local, Remote}
use Rattle.rl_alock.specs.declared.view.SettleStage.{SettleStage}
use Rattle.rl_alock.specs.declared.view.SettleStage.TheVariants.{Announce, Tail, Victim}
use Rattle.rl_alock.specs.declared.view.AlockView.{AlockView}

-- THE COHORTS: where the shard is and where its ranks sit, and the budget of each cohort.
pub record Cohorts : Type 0 where
  pub home : ℕ
  pub node_of : List ℕ
  pub local : ℕ
  pub remote : ℕ

abbrev pub ranks_of : Cohorts → ℕ
ranks_of K = length K.node_of

abbrev pub budget_in : Cohorts → Cohort → ℕ
budget_in K Local = K.local
budget_in K Remote = K.remote

-- those whose queues have these names
abbrev pub cohorts_of : ℕ → List ℕ → TheNames → TheNames → Cohorts
cohorts_of home node_of local remote = record { home = home; node_of = node_of; local = full_budget local.budget; remote = full_budget remote.budget }

-- those of a shape, for a shard with this home
abbrev pub cohorts_in : ℕ → TheShape → Knobs → Cohorts
cohorts_in home shape knobs = record { home = home; node_of = shape.node_of; local = knobs.local; remote = knobs.remote }

-- a rank is local where it sits on the shard's home
abbrev pub sits_at_home : Cohorts → ℕ → Bool
sits_at_home K r = sits_at K.home K.node_of r

abbrev pub cohort_of : Cohorts → ℕ → Cohort
cohort_of K r = if sits_at_home K r then Local else Remote

abbrev pub is_home : Cohort → Bool
is_home Local = true
is_home Remote = false

abbrev pub is_in_cohort : Cohorts → Cohort → ℕ → Bool
is_in_cohort K c r = same (is_home c) (sits_at_home K r)

abbrev pub other : Cohort → Cohort
other Local = Remote
other Remote = Local

-- the number by which a cohort is announced, which is also what the victim word says of it
abbrev pub cohort_no : Cohort → ℕ
cohort_no Local = 1
cohort_no Remote = 2

-- THE WORDS: words 0 and 1 are the tails, and the numbers of the queues; word 2 is the victim; then come the next word and the status
-- word of each rank.
abbrev pub tail_no : Cohort → ℕ
tail_no Local = 0
tail_no Remote = 1

abbrev pub victim_no : ℕ
victim_no = 2

-- the tail of the ranks at home is compared by them alone, that of the others through the card
abbrev pub tail_class : Cohort → Class
tail_class Local = class.Local
tail_class Remote = class.Card

abbrev pub cohort_names : Cohort → ℕ → ℕ → TheNames
cohort_names c ranks budget =
    record { queue = tail_no c; tail = tail_no c; tail_class = tail_class c; next = every_second 3 ranks; status = every_second 4 ranks; budget = Some budget }

abbrev pub names_of : Cohorts → Cohort → TheNames
names_of K c = cohort_names c (ranks_of K) (budget_in K c)

-- a rank's words are plain and live on its node, all others on the shard's home
abbrev pub alock_spot : Cohorts → ℕ → Spot
alock_spot K zero = record { class = class.Local; home = K.home }
alock_spot K (suc zero) = record { class = class.Card; home = K.home }
alock_spot K (suc (suc zero)) = record { class = class.Plain; home = K.home }
alock_spot K (suc (suc (suc w))) = record { class = class.Plain; home = slice_index K.node_of (w / 2) }

-- the queue of a cohort, as events and tallies know it
abbrev pub queue_in : Cohorts → Cohort → QueueOf
queue_in K c = cohort_queue K.home K.node_of (is_home c) (budget_in K c)

-- THE ENTRY: a head that must settle names its cohort the victim, then looks at the other's tail and at the victim by turns.
abbrev pub entry_act : Cohort → SettleStage → Act
entry_act c Announce = Store victim_no (cohort_no c)
entry_act c Tail = Load (tail_no (other c))
entry_act c Victim = Load victim_no

abbrev pub at_entry : ℕ → Phase → SettleStage → AlockView
at_entry m p st = record { queue = at_phase m p; entry = st }

-- a head that settles has the whole budget, and enters at once
abbrev pub settles_now : TheNames → ℕ → Told AlockView
settles_now N m = record { view = at_entry m (settled_at N.budget) Announce; events = event.Settle N.queue m ∷ event.EnterW m ∷ []; waits = false }

-- it settles where the other cohort's queue is empty, or where its own cohort isn't the victim; else it looks on
abbrev pub entry_told : TheNames → Cohort → ℕ → SettleStage → ℕ → Told AlockView
entry_told N c m Announce got = record { view = at_entry m Settle Tail; events = event.Announce (cohort_no c) ∷ []; waits = false }
entry_told N c m Tail got = if got == 0 then settles_now N m else record { view = at_entry m Settle Victim; events = []; waits = false }
entry_told N c m Victim got = if got == cohort_no c then record { view = at_entry m Settle Tail; events = []; waits = true } else settles_now N m

-- THE ACTS of rank m, of the cohort c, whose queue has the names N: at Settle those of the entry, else those of its queue.
abbrev pub alock_plan : TheNames → Cohort → ℕ → Phase → SettleStage → Option Act
alock_plan N c m Settle st = Some (entry_act c st)
alock_plan N c m p st = plan_at N m p

-- who has the queue enters
abbrev pub entry_events : ℕ → Phase → List Event
entry_events m (Granted left) = event.EnterW m ∷ []
entry_events m p = []

abbrev pub told_turn : ℕ → QueueTurn → Told AlockView
told_turn m t = record { view = at_entry m t.phase Announce; events = t.events ++ entry_events m t.phase; waits = t.waits }

abbrev pub alock_learn : TheNames → Cohort → ℕ → Phase → SettleStage → ℕ → Told AlockView
alock_learn N c m Settle st got = entry_told N c m st got
alock_learn N c m p st got = told_turn m (turn_at N m p got)

-- two domains: a local rank makes no act through a card, and a remote rank no local compare-and-swap
abbrev pub domain : Cohort → ℕ → Act → Bool
domain Local r a = not (by_card a)
domain Remote r a = no_local r a

-- THE LOCK: a rank joins its cohort's queue when it asks, and leaves it by the leave of a queue that has nothing above it.
abbrev pub alock_table : Cohorts → LockTable AlockView
alock_table K =
    record {
      size = 3 + 2 * ranks_of K;
      spot = alock_spot K;
      first = λ r. at_entry r Idle Announce;
      ask = λ v m. at_entry v.queue.member Clear Announce;
      plan = λ v. alock_plan (names_of K (cohort_of K v.queue.member)) (cohort_of K v.queue.member) v.queue.member v.queue.phase v.entry;
      learn = λ v got. alock_learn (names_of K (cohort_of K v.queue.member)) (cohort_of K v.queue.member) v.queue.member v.queue.phase v.entry got;
      leave = λ v. at_entry v.queue.member (leave_at v.queue.phase false) Announce;
      standing = λ v. standing_of v.queue.phase;
      queues = queue_in K Local ∷ queue_in K Remote ∷ [];
      cohort = λ c. (c == 1) || (c == 2);
      shares = false;
      may_make = λ r a. domain (cohort_of K r) r a;
    }

-- WHAT IT SAYS FURTHER: a cohort that has announced itself is overtaken by the other's budget and one of its ranks at most. The events alone
-- say it, whatever else is given, as all acts or all atoms.
abbrev pub BoundsOvertaking : {X : Type 0} → Cohorts → List Event → X → Type 0
BoundsOvertaking K t xs = (c : Cohort) → IsOvertakenAtMost (is_in_cohort K c) (cohort_no c) (budget_in K (other c) + 1) t

-- TWO DOMAINS: which acts the ranks on the shard's home may make, and which all others.
pub record HasTwoDomains (K : Cohorts) : Type 0 where
  pub home : (r : ℕ) (a : Act) → slice_index K.node_of r ≡ K.home → (alock_table K).may_make r a ≡ true → by_card a ≡ false
  pub away : (r : ℕ) (w old new : ℕ) → (slice_index K.node_of r ≡ K.home → ⊥) → (alock_table K).may_make r (LocalCas w old new) ≡ false
