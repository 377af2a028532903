-- The queue invariant: the line of a queue's members, and what is true of their words, their phases and the trace.
use Rattle.std.specs.Prelude.{ℕ, ◌≡◌, ◌≢◌, ◌⊎◌, zero, suc, ◌+◌, ◌-◌, ◌<◌, ◌≤◌, Bool, true, false, List, [], ◌∷◌, ◌++◌, slice_index, Option, Some, None}
use Rattle.rl_step.specs.declared.events.Event.{Event}
use Rattle.rl_step.specs.Queues.{count, joined, given, settled, passed, WithinFrom, room_of}
use Rattle.rl_queue.specs.declared.view.Phase.{Phase}
use Rattle.rl_queue.specs.declared.view.Phase.TheVariants.{Idle, Clear, Reset, Swing, Link, Wait, Settle, Granted, Look, Close, Await, Hand, Above}
use Rattle.rl_queue.specs.Queue.{TheNames, queue_next_word, status_word, full_budget}

-- a queue as it stands: its tail, and by member the next word, the status word and the phase
pub record Lane : Type 0 where
  pub tail : ℕ
  pub next : ℕ → ℕ
  pub status : ℕ → ℕ
  pub phase : ℕ → Phase

-- the lane of a queue with these names, in these words, with these phases of its members
abbrev pub lane_of : TheNames → List ℕ → (ℕ → Phase) → Lane
lane_of n ws ph =
    record { tail = slice_index ws n.tail; next = λ m. slice_index ws (queue_next_word n m); status = λ m. slice_index ws (status_word n m); phase = ph }

-- a number stands in a list; a list has no number twice
abbrev pub Has : ℕ → List ℕ → Type 0
Has m [] = ⊥
Has m (x ∷ xs) = (m ≡ x) ⊎ Has m xs

abbrev pub Distinct : List ℕ → Type 0
Distinct [] = Unit {0}
Distinct (x ∷ xs) = (Has x xs → ⊥) × Distinct xs

-- the last of a list that begins with p
abbrev pub last_of : ℕ → List ℕ → ℕ
last_of p [] = p
last_of p (m ∷ r) = last_of m r

-- a member in this phase stands in the line: from its successful swing on, until it has left
abbrev pub Listed : Phase → Type 0
Listed Idle = ⊥
Listed Clear = ⊥
Listed Reset = ⊥
Listed (Swing g) = ⊥
Listed _ = Unit {0}

-- it uses the queue
abbrev pub Busy : Phase → Type 0
Busy Idle = ⊥
Busy _ = Unit {0}

-- a status that was handed over
abbrev pub IsCode : Option ℕ → ℕ → Type 0
IsCode None s = s ≡ 2
IsCode (Some b) s = (0 < s) × (s ≤ b + 1)

-- how the first of a line may stand, with this status: where it still waits it was handed a code
abbrev pub Leads : Option ℕ → Phase → ℕ → Type 0
Leads B Idle s = ⊥
Leads B Clear s = ⊥
Leads B Reset s = ⊥
Leads B (Swing g) s = ⊥
Leads B (Link g) s = ⊥
Leads B Wait s = IsCode B s
Leads B _ s = Unit {0}

-- how member m may stand behind member p, whose next word is x: it is about to link itself, or it waits and is linked
abbrev pub Follows : Phase → ℕ → ℕ → ℕ → Type 0
Follows (Link g) p x m = (g ≡ p + 1) × (x ≡ 0)
Follows Wait p x m = x ≡ m + 1
Follows _ p x m = ⊥

-- the members behind p, each with status 0; the last one's next word is 0
abbrev pub Chain : Lane → ℕ → List ℕ → Type 0
Chain L p [] = L.next p ≡ 0
Chain L p (m ∷ r) = (L.status m ≡ 0) × Follows (L.phase m) p (L.next p) m × Chain L m r

-- the line of a queue with the budget B: the tail is 0 where it is empty, and else one more than its last
abbrev pub Line : Option ℕ → Lane → List ℕ → Type 0
Line B L [] = L.tail ≡ 0
Line B L (h ∷ r) = Leads B (L.phase h) (L.status h) × Chain L h r × (L.tail ≡ last_of h r + 1)

-- how many passes a status leaves the member that has the queue: 0 and 1 leave the whole budget
abbrev pub told_left : Option ℕ → ℕ → ℕ
told_left B zero = full_budget B
told_left B (suc zero) = full_budget B
told_left None (suc (suc k)) = 0
told_left (Some b) (suc (suc k)) = k

-- a guess is 0 or one more than a member; In says who is one
abbrev pub Guessed : (ℕ → Type 0) → ℕ → Type 0
Guessed In g = (0 < g) → In (g - 1)

-- a known successor is in the next word
abbrev pub Followed : Option ℕ → ℕ → Type 0
Followed None x = Unit {0}
Followed (Some s) x = x ≡ s + 1

-- What a member knows of its own words, the next word x and the status s: a joiner has cleared them before it swings; the
-- passes left are within the budget and, until it has looked, what its status tells; its successor is in its next word.
abbrev pub Own : Option ℕ → (ℕ → Type 0) → Phase → ℕ → ℕ → Type 0
Own B In Idle x s = Unit {0}
Own B In Clear x s = Unit {0}
Own B In Reset x s = x ≡ 0
Own B In (Swing g) x s = (x ≡ 0) × (s ≡ 0) × Guessed In g
Own B In (Link g) x s = Unit {0}
Own B In Wait x s = Unit {0}
Own B In Settle x s = s ≤ 1
Own B In (Granted left) x s = (left ≤ full_budget B) × (left ≡ told_left B s)
Own B In (Look left upper) x s = (left ≤ full_budget B) × (left ≡ told_left B s)
Own B In (Close left) x s = left ≤ full_budget B
Own B In (Await left) x s = left ≤ full_budget B
Own B In (Hand succ left) x s = (left ≤ full_budget B) × (x ≡ succ + 1)
Own B In (Above succ) x s = Followed succ x

-- The invariant of a queue with the members In, whose line is l: no member stands in it twice, and those stand in it whose
-- phase says so; its words are a line; each member knows its own words; and who isn't a member is idle.
pub record QueueInvariant (B : Option ℕ) (In : ℕ → Type 0) (L : Lane) (l : List ℕ) : Type 0 where
  pub distinct : Distinct l
  pub listed : (m : ℕ) → Listed (L.phase m) → Has m l
  pub only : (m : ℕ) → Has m l → Listed (L.phase m)
  pub line : Line B L l
  pub own : (m : ℕ) → Own B In (L.phase m) (L.next m) (L.status m)
  pub inside : (m : ℕ) → Busy (L.phase m) → In m

-- a status of 2 or more passes the queue on
abbrev pub is_pass : ℕ → Bool
is_pass zero = false
is_pass (suc zero) = false
is_pass (suc (suc k)) = true

-- a member in this phase, with this status, has been given the queue: passed to it, or settled
abbrev pub served : Phase → ℕ → Bool
served Idle s = false
served Clear s = false
served Reset s = false
served (Swing g) s = false
served (Link g) s = false
served Wait s = is_pass s
served Settle s = false
served _ s = true

-- how many passes it may still make or hand on
abbrev pub credit : Phase → ℕ → ℕ
credit Wait s = s - 2
credit (Granted left) s = left
credit (Look left upper) s = left
credit (Close left) s = left
credit (Await left) s = left
credit (Hand succ left) s = left
credit _ s = 0

-- it has been given the queue and hasn't begun to leave it
abbrev pub holds : Phase → ℕ → Bool
holds Wait s = is_pass s
holds (Granted left) s = true
holds _ s = false

-- the members of a line that haven't been given the queue, the credit of its first, and whether its first holds the queue
abbrev pub rest_if : Bool → ℕ → List ℕ → List ℕ
rest_if true h r = r
rest_if false h r = h ∷ r

abbrev pub waits_in : Lane → List ℕ → List ℕ
waits_in L [] = []
waits_in L (h ∷ r) = rest_if (served (L.phase h) (L.status h)) h r

abbrev pub credit_in : Lane → List ℕ → ℕ
credit_in L [] = 0
credit_in L (h ∷ r) = credit (L.phase h) (L.status h)

abbrev pub held_in : Lane → List ℕ → ℕ
held_in L [] = 0
held_in L (h ∷ r) = count (holds (L.phase h) (L.status h))

-- What the trace says of queue q, where `ended` tenures of it have ended: who joined it are those who were given it and then
-- those who wait, in order; it was settled and passed as often as it was had, now or before; and its budget is kept, with
-- room for the credit.
pub record QueueTrace (q : ℕ) (B : Option ℕ) (t : List Event) (ended : ℕ) (wait : List ℕ) (credit held : ℕ) : Type 0 where
  pub fifo : joined q t ≡ given q t ++ wait
  pub tenure : settled q t + passed q t ≡ ended + held
  pub within : (b : ℕ) → B ≡ Some b → WithinFrom q b 0 t × (credit ≤ room_of q b 0 t)

-- m is the only member
abbrev pub IsAlone : (ℕ → Type 0) → ℕ → Type 0
IsAlone In m = (x : ℕ) → In x → x ≡ m

-- where a member may stand that is the only one: it has nobody to guess, to link to, to wait for
abbrev pub SuitsAlone : Phase → Type 0
SuitsAlone (Swing g) = g ≡ 0
SuitsAlone (Link g) = ⊥
SuitsAlone Wait = ⊥
SuitsAlone (Await left) = ⊥
SuitsAlone _ = Unit {0}

-- a member in this phase waits for the next word of its follower
abbrev pub Awaits : Phase → Type 0
Awaits (Await left) = Unit {0}
Awaits _ = ⊥

-- a lane is good with the line l, after the trace t: and who waits for its follower isn't the last of the line
pub record LaneGood (q : ℕ) (B : Option ℕ) (In : ℕ → Type 0) (L : Lane) (l : List ℕ) (t : List Event) (ended : ℕ) : Type 0 where
  pub inv : QueueInvariant B In L l
  pub alone : (m : ℕ) → IsAlone In m → SuitsAlone (L.phase m)
  pub awaited : (m : ℕ) → Awaits (L.phase m) → L.tail ≢ m + 1
  pub says : QueueTrace q B t ended (waits_in L l) (credit_in L l) (held_in L l)

-- How a move of member m from phase p to phase q changes the line from l to k: a swing puts the member at its end, a close
-- empties it, a hand over drops its first. Nothing else changes it.
abbrev pub LineStep : ℕ → Phase → Phase → List ℕ → List ℕ → Type 0
LineStep m (Swing g) Settle l k = (l ≡ []) × (k ≡ m ∷ [])
LineStep m (Swing g) (Link h) l k = (x : ℕ) × ((r : List ℕ) × ((l ≡ x ∷ r) × (k ≡ x ∷ (r ++ m ∷ []))))
LineStep m (Close left) Idle l k = (l ≡ m ∷ []) × (k ≡ [])
LineStep m (Hand s left) q l k = (r : List ℕ) × ((l ≡ m ∷ s ∷ r) × (k ≡ s ∷ r))
LineStep m p q l k = k ≡ l

-- how a first member stands that isn't just waiting with status 0
abbrev pub IsFirst : Phase → ℕ → Type 0
IsFirst Idle s = ⊥
IsFirst Clear s = ⊥
IsFirst Reset s = ⊥
IsFirst (Swing g) s = ⊥
IsFirst (Link g) s = ⊥
IsFirst Wait s = 0 < s
IsFirst _ s = Unit {0}
