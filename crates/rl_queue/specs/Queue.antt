-- One queue as plain functions: its words, the act of a member in each phase, what it learns, and the moves that are no acts.
use Rattle.std.specs.Prelude.{ℕ, ◌≡◌, ◌+◌, ◌-◌, ◌<◌, ◌^◌, ◌==◌, Bool, true, false, List, [], ◌∷◌, length, if◌then◌else◌, slice_index, Option, Some, None}
use Rattle.rl_word.specs.declared.classes.Class.{Class}
use Rattle.rl_word.specs.declared.classes.Class.TheVariants as class
use Rattle.rl_word.specs.declared.acts.Act.{Act}
use Rattle.rl_word.specs.declared.acts.Act.TheVariants.{Load, Store, LocalCas, CardCas}
use Rattle.rl_step.specs.declared.events.Event.{Event}
use Rattle.rl_step.specs.declared.events.Event.TheVariants as event
use Rattle.rl_step.specs.Lock.{Told}
use Rattle.rl_queue.specs.declared.view.Phase.{Phase}
use Rattle.rl_queue.specs.declared.view.Phase.TheVariants.{Idle, Clear, Reset, Swing, Link, Wait, Settle, Granted, Look, Close, Await, Hand, Above}
use Rattle.rl_queue.specs.declared.view.QueueView.{QueueView}
use Rattle.rl_queue.specs.declared.view.Stage.{Stage}
use Rattle.rl_queue.specs.declared.view.Stage.TheVariants as stage

-- a queue's number, its words by member, the class of its tail, and its budget: none is no limit
pub record TheNames : Type 0 where
  pub queue : ℕ
  pub tail : ℕ
  pub tail_class : Class
  pub next : List ℕ
  pub status : List ℕ
  pub budget : Option ℕ

-- the next word and the status word of member m
abbrev pub queue_next_word : TheNames → ℕ → ℕ
queue_next_word n m = slice_index n.next m

abbrev pub status_word : TheNames → ℕ → ℕ
status_word n m = slice_index n.status m

-- the passes that a member has that has settled; without limit they aren't counted
abbrev pub full_budget : Option ℕ → ℕ
full_budget None = 0
full_budget (Some b) = b

-- The code that a member with so many passes left stores to its successor's status: 1 is "settle first", 2 + b is "you have
-- the queue, and b passes are left". Without limit it is always 2.
abbrev pub status_code : Option ℕ → ℕ → ℕ
status_code None left = 2
status_code (Some b) left = if left == 0 then 1 else left + 1

-- how many passes such a code of 2 or more leaves
abbrev pub code_left : Option ℕ → ℕ → ℕ
code_left None code = 0
code_left (Some b) code = code - 2

-- a compare-and-swap of a word of this class: a local word is compared by its node's ranks, any other through the card
abbrev pub swap_act : Class → ℕ → ℕ → ℕ → Act
swap_act class.Local w old new = LocalCas w old new
swap_act c w old new = CardCas w old new

-- The act of member m in each phase. A joiner clears its two words, swings the tail from its guess to itself, links itself to
-- the one before it and loads its status. A leaver loads its next word, empties the tail where it has no successor, loads its
-- next word again where that fails, and stores the code to its successor's status.
abbrev pub plan_at : TheNames → ℕ → Phase → Option Act
plan_at n m Clear = Some (Store (queue_next_word n m) 0)
plan_at n m Reset = Some (Store (status_word n m) 0)
plan_at n m (Swing guess) = Some (swap_act n.tail_class n.tail guess (m + 1))
plan_at n m (Link guess) = Some (Store (queue_next_word n (guess - 1)) (m + 1))
plan_at n m Wait = Some (Load (status_word n m))
plan_at n m (Look left upper) = Some (Load (queue_next_word n m))
plan_at n m (Close left) = Some (swap_act n.tail_class n.tail (m + 1) 0)
plan_at n m (Await left) = Some (Load (queue_next_word n m))
plan_at n m (Hand succ left) = Some (Store (status_word n succ) (status_code n.budget left))
plan_at n m phase = None

-- what an act leaves of a member: its phase, what happened with the act, and whether it has to be made again
pub record QueueTurn : Type 0 where
  pub phase : Phase
  pub events : List Event
  pub waits : Bool

-- a turn to a phase: with no event, with one, and to the same load once more
abbrev pub moves_to : Phase → QueueTurn
moves_to p = record { phase = p; events = []; waits = false }

abbrev pub moves_with : Phase → Event → QueueTurn
moves_with p e = record { phase = p; events = e ∷ []; waits = false }

abbrev pub waits_at : Phase → QueueTurn
waits_at p = record { phase = p; events = []; waits = true }

-- where a successful swing leads: a guess of 0 makes a head that must settle, another names the one before
abbrev pub joined_at : ℕ → Phase
joined_at guess = if guess == 0 then Settle else Link guess

-- Where the first load of the next word leads. A member with no successor empties the tail; but one that has something above it
-- gives that up first, and also where it has no pass left.
abbrev pub look_at : ℕ → Bool → ℕ → Phase
look_at left false got = if got == 0 then Close left else Hand (got - 1) left
look_at left true got = if got == 0 then Above None else if left == 0 then Above (Some (got - 1)) else Hand (got - 1) left

-- handing the queue over ends the leave; it is a pass, but for the code 1
abbrev pub hand_turn : ℕ → Option ℕ → ℕ → ℕ → QueueTurn
hand_turn q None succ left = moves_with Idle (event.Pass q succ)
hand_turn q (Some b) succ left = if left == 0 then moves_to Idle else moves_with Idle (event.Pass q succ)

-- what member m learns where its act told got
abbrev pub turn_at : TheNames → ℕ → Phase → ℕ → QueueTurn
turn_at n m Idle got = moves_to Idle
turn_at n m Clear got = moves_to Reset
turn_at n m Reset got = moves_to (Swing 0)
turn_at n m (Swing guess) got = if got == guess then moves_with (joined_at guess) (event.Join n.queue m) else moves_to (Swing got)
turn_at n m (Link guess) got = moves_to Wait
turn_at n m Wait got = if got == 0 then waits_at Wait else if got == 1 then moves_to Settle else moves_to (Granted (code_left n.budget got))
turn_at n m Settle got = moves_to Settle
turn_at n m (Granted left) got = moves_to (Granted left)
turn_at n m (Look left upper) got = moves_to (look_at left upper got)
turn_at n m (Close left) got = if got == m + 1 then moves_to Idle else moves_to (Await left)
turn_at n m (Await left) got = if got == 0 then waits_at (Await left) else moves_to (Hand (got - 1) left)
turn_at n m (Hand succ left) got = hand_turn n.queue n.budget succ left
turn_at n m (Above succ) got = moves_to (Above succ)

-- the moves that are no acts: a head has settled, a member begins to leave, and what is above was given up
abbrev pub settled_at : Option ℕ → Phase
settled_at budget = Granted (full_budget budget)

abbrev pub leave_at : Phase → Bool → Phase
leave_at (Granted left) upper = Look left upper
leave_at p upper = p

abbrev pub resume_at : Phase → Phase
resume_at (Above None) = Close 0
resume_at (Above (Some succ)) = Hand succ 0
resume_at p = p

abbrev pub IsGranted : Phase → Type 0
IsGranted (Granted left) = Unit {0}
IsGranted _ = ⊥

-- where a member stands, as the layer above sees it
abbrev pub stage_at : Phase → Stage
stage_at Idle = stage.Idle
stage_at Clear = stage.Joining
stage_at Reset = stage.Joining
stage_at (Swing guess) = stage.Joining
stage_at (Link guess) = stage.Joining
stage_at Wait = stage.Joining
stage_at Settle = stage.Settle
stage_at (Granted left) = stage.Granted left
stage_at (Look left upper) = stage.Leaving
stage_at (Close left) = stage.Leaving
stage_at (Await left) = stage.Leaving
stage_at (Hand succ left) = stage.Leaving
stage_at (Above succ) = stage.Above

-- the view of member m in a phase
abbrev pub at_phase : ℕ → Phase → QueueView
at_phase m p = record { member = m; phase = p }

-- what a member learns by a turn
abbrev pub told_by : ℕ → QueueTurn → Told QueueView
told_by m t = record { view = at_phase m t.phase; events = t.events; waits = t.waits }

-- the other member that a phase's act speaks of is one of the first n numbers
abbrev pub PhaseFits : ℕ → Phase → Type 0
PhaseFits n (Link guess) = (0 < guess) × (guess - 1 < n)
PhaseFits n (Hand succ left) = succ < n
PhaseFits n _ = Unit {0}

-- what an act told fits it: a status is a code, a next word is 0 or one more than a member
abbrev pub GotFits : Phase → ℕ → Type 0
GotFits Wait got = got < 2 ^ 32 + 2
GotFits (Look left upper) got = got < 2 ^ 32 + 1
GotFits (Await left) got = got < 2 ^ 32 + 1
GotFits _ got = Unit {0}

-- the names have as many status words as next words, and name the member and the other one that its act speaks of
pub record PlanFits (n : TheNames) (m : ℕ) (p : Phase) : Type 0 where
  pub alike : length n.status ≡ length n.next
  pub named : m < length n.next
  pub phase : PhaseFits (length n.next) p

-- an act is planned exactly where a member is joining or leaving
abbrev pub MakesActs : Stage → Type 0
MakesActs stage.Joining = Unit {0}
MakesActs stage.Leaving = Unit {0}
MakesActs _ = ⊥
