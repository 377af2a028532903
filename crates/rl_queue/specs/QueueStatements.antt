-- What is proved of one queue, for any names of its words, any members and any budget: each statement as one word, in the order of the
-- clauses of `queue_laws`.
use Rattle.std.specs.Prelude.{◌≡◌, ℕ, ◌+◌, ◌<◌, ◌≤◌, ◌^◌, Bool, true, false, List, [], ◌∷◌, ◌++◌, length, slice_index, slice_set, Option, Some}
use Rattle.rl_word.specs.declared.acts.Act.{Act}
use Rattle.rl_word.specs.Acts.{word_of, written, told}
use Rattle.rl_step.specs.declared.events.Event.{Event}
use Rattle.rl_step.specs.declared.events.Event.TheVariants as event
use Rattle.rl_step.specs.Lock.{FindsOld, PlansLoad}
use Rattle.rl_step.specs.Queues.{IsWithin, IsFifo, settled, passed}
use Rattle.rl_queue.specs.declared.view.Phase.{Phase}
use Rattle.rl_queue.specs.declared.view.Phase.TheVariants.{Idle, Clear, Settle, Granted, Look, Above}
use Rattle.rl_queue.specs.Queue.{TheNames, full_budget, status_word, plan_at, turn_at, settled_at, resume_at, PlanFits, GotFits}
use Rattle.rl_queue.specs.Lane.{lane_of, told_left, served, IsAlone, SuitsAlone, LineStep, IsFirst}
use Rattle.rl_queue.specs.QueuesApart.{Apart, AreApart, AllApart, Place}
use Rattle.rl_queue.specs.Heads.{head_in, Spends}
use Rattle.rl_queue.specs.QueueGood.{IsNaming, QueueGood, Moves, ActMoves, ActGoes}

-- the members that a test names
abbrev pub In : (ℕ → Bool) → ℕ → Type 0
In members m = members m ≡ true

-- all of one queue: the words it stands in, the phase of each member, its line, all events so far and how many tenures ended
pub record QueueState : Type 0 where
  pub words : List ℕ
  pub phases : ℕ → Phase
  pub line : List ℕ
  pub trace : List Event
  pub ended : ℕ

-- the queue is good
abbrev pub IsGoodQueue : (n : TheNames) (In : ℕ → Type 0) → QueueState → Type 0
IsGoodQueue n In q = QueueGood n In q.words q.phases q.line q.trace q.ended

module _ (n : TheNames) (In : ℕ → Type 0) where
  -- before any event a queue that nobody uses is good, where its tail is 0
  abbrev pub BeginsGood : Type 0
  BeginsGood =
      (words : List ℕ) → slice_index words n.tail ≡ 0 → IsGoodQueue n In (record { words = words; phases = λ m. Idle; line = []; trace = []; ended = 0 })

  -- events of others leave it good
  abbrev pub IgnoresEvents : Type 0
  IgnoresEvents =
      (q : QueueState) (es : List Event) → IsGoodQueue n In q → AllApart n.queue n.budget es → IsGoodQueue n In (record q { trace = q.trace ++ es })

  -- and so does a write to a word that isn't its own
  abbrev pub IgnoresWrites : Type 0
  IgnoresWrites =
      (q : QueueState) (w v : ℕ) → IsGoodQueue n In q → (Place n In w → ⊥) → IsGoodQueue n In (record q { words = slice_set q.words w v })

  -- each planned act keeps a queue good, with a line that changes by a swing or a close alone
  abbrev pub ActsKeep : Type 0
  ActsKeep =
      (q : QueueState) (ph' : ℕ → Phase) (m : ℕ) (p : Phase) (a : Act) → IsNaming n In (length q.words) → IsGoodQueue n In q → plan_at n m p ≡ Some a →
      ActMoves n In q.words q.phases ph' m p a → ActGoes n In q.line q.words ph' q.trace q.ended m p a

  -- so does a member that begins to join
  abbrev pub JoinsKeep : Type 0
  JoinsKeep =
      (q : QueueState) (ph' : ℕ → Phase) (m : ℕ) → IsGoodQueue n In q → In m → Moves q.phases ph' m Idle Clear → IsGoodQueue n In (record q { phases = ph' })

  -- a head that settles
  abbrev pub SettlesKeep : Type 0
  SettlesKeep =
      (q : QueueState) (ph' : ℕ → Phase) (m : ℕ) → IsGoodQueue n In q → Moves q.phases ph' m Settle (settled_at n.budget) → IsGoodQueue n In
      (record q { phases = ph'; trace = q.trace ++ event.Settle n.queue m ∷ [] })

  -- a member that begins to leave, where an event comes with it
  abbrev pub LeavesKeep : Type 0
  LeavesKeep =
      (q : QueueState) (ph' : ℕ → Phase) (m left : ℕ) (u : Bool)
      (ev : Event) → IsGoodQueue n In q → Apart n.queue n.budget ev → Moves q.phases ph' m (Granted left) (Look left u) →
      IsGoodQueue n In (record q { phases = ph'; trace = q.trace ++ ev ∷ []; ended = q.ended + 1 })

  -- and where none does
  abbrev pub LeavesKeepQuietly : Type 0
  LeavesKeepQuietly =
      (q : QueueState) (ph' : ℕ → Phase) (m left : ℕ) (u : Bool) → IsGoodQueue n In q → Moves q.phases ph' m (Granted left)
      (Look left u) → IsGoodQueue n In (record q { phases = ph'; ended = q.ended + 1 })

  -- and one that goes on once what is above was given up
  abbrev pub ResumesKeep : Type 0
  ResumesKeep =
      (q : QueueState) (ph' : ℕ → Phase) (m : ℕ) (s : Option ℕ) → IsGoodQueue n In q → Moves q.phases ph' m (Above s)
      (resume_at (Above s)) → IsGoodQueue n In (record q { phases = ph' })

  -- at most one member is first
  abbrev pub HasOneFirst : Type 0
  HasOneFirst =
      (q : QueueState) (i j : ℕ) → IsGoodQueue n In q → IsFirst (q.phases i) (slice_index q.words (status_word n i)) → IsFirst (q.phases j)
      (slice_index q.words (status_word n j)) → i ≡ j

  -- it serves first who came first
  abbrev pub ServesInOrder : Type 0
  ServesInOrder =
      (q : QueueState) → IsGoodQueue n In q → IsFifo q.trace n.queue

  -- it keeps its budget
  abbrev pub KeepsBudget : Type 0
  KeepsBudget =
      (q : QueueState) (b : ℕ) → IsGoodQueue n In q → n.budget ≡ Some b → IsWithin q.trace n.queue b

  -- and where no member uses it, it was settled and passed as often as it was had
  abbrev pub CountsTenures : Type 0
  CountsTenures =
      (q : QueueState) → IsGoodQueue n In q → ((m : ℕ) → q.phases m ≡ Idle) → settled n.queue q.trace + passed n.queue q.trace ≡ q.ended

  -- a member meets the condition of queue_plan
  abbrev pub PlansFit : Type 0
  PlansFit =
      (q : QueueState) (m : ℕ) (p : Phase) → IsGoodQueue n In q → q.phases m ≡ p → In m → length n.status ≡ length n.next →
      ((x : ℕ) → In x → x < length n.next) → PlanFits n m p

  -- and what its act finds that of queue_learn
  abbrev pub LearnsFit : Type 0
  LearnsFit =
      (q : QueueState) (m : ℕ) (p : Phase) (a : Act) → IsGoodQueue n In q → q.phases m ≡ p → plan_at n m p ≡ Some a →
      ((x : ℕ) → In x → x < 2 ^ 32) → ((b : ℕ) → n.budget ≡ Some b → b < 2 ^ 32) → GotFits p (told a (slice_index q.words (word_of a)))

  -- a member that is alone finds what it compares with
  abbrev pub FindsAlone : Type 0
  FindsAlone =
      (q : QueueState) (m : ℕ) (p : Phase) (a : Act) → IsGoodQueue n In q → IsAlone In m → q.phases m ≡ p → plan_at n m p ≡ Some a →
      FindsOld a (slice_index q.words (word_of a))

  -- and waits for nobody
  abbrev pub MovesOnAlone : Type 0
  MovesOnAlone =
      (m : ℕ) (p : Phase) (got : ℕ) → SuitsAlone p → (turn_at n m p got).waits ≡ false

  -- a member waits on after a load alone, and stands at that load again
  abbrev pub WaitsOnLoads : Type 0
  WaitsOnLoads =
      (m : ℕ) (p : Phase) (got : ℕ) → (turn_at n m p got).waits ≡ true → ((turn_at n m p got).phase ≡ p) × PlansLoad (plan_at n m p)

  -- an act spends a pass of its head where it passes, and none else
  abbrev pub SpendsPasses : Type 0
  SpendsPasses =
      (q : QueueState) (ph' : ℕ → Phase) (k : List ℕ) (m b : ℕ) (p : Phase) (a : Act) → IsNaming n In
      (length q.words) → IsGoodQueue n In q → q.phases m ≡ p → plan_at n m p ≡ Some a → n.budget ≡ Some b →
      ActMoves n In q.words q.phases ph' m p a → LineStep m p (turn_at n m p (told a (slice_index q.words (word_of a)))).phase q.line k →
      Spends (passed n.queue (turn_at n m p (told a (slice_index q.words (word_of a)))).events)
      (head_in (lane_of n q.words q.phases) q.line) (head_in
      (lane_of n (slice_set q.words (word_of a) (written a (slice_index q.words (word_of a)))) ph') k)

  -- no act serves where nobody was served
  abbrev pub ServedCameSo : Type 0
  ServedCameSo =
      (q : QueueState) (ph' : ℕ → Phase) (k : List ℕ) (t' : List Event) (e' m : ℕ) (p : Phase) (a : Act) → IsNaming n In
      (length q.words) → IsGoodQueue n In q → plan_at n m p ≡ Some a →
      (mv : Moves q.phases ph' m p (turn_at n m p (told a (slice_index q.words (word_of a)))).phase) → LineStep m p
      (turn_at n m p (told a (slice_index q.words (word_of a)))).phase q.line k →
      IsGoodQueue n In (record q {
        words = slice_set q.words (word_of a) (written a (slice_index q.words (word_of a)));
        phases = ph';
        line =
            k;
        trace = t';
        ended = e';
      }) → (i : ℕ) → served (ph' i)
      (slice_index (slice_set q.words (word_of a) (written a (slice_index q.words (word_of a)))) (status_word n i)) ≡ true →
      (h : ℕ) × (In h × (served (q.phases h) (slice_index q.words (status_word n h)) ≡ true))

  -- who must settle is the only one that may be served
  abbrev pub SettlesFirst : Type 0
  SettlesFirst =
      (q : QueueState) (m i : ℕ) → IsGoodQueue n In q → q.phases m ≡ Settle → served (q.phases i) (slice_index q.words (status_word n i)) ≡ true → ⊥

  -- who has the queue has no more passes left than its budget, and as many as it was told
  abbrev pub HoldsWhatItWasTold : Type 0
  HoldsWhatItWasTold =
      (q : QueueState) (m left : ℕ) → IsGoodQueue n In q → q.phases m ≡ Granted left →
      (left ≤ full_budget n.budget) × (left ≡ told_left n.budget (slice_index q.words (status_word n m)))

-- an act of one queue leaves another good whose words and members are apart from it
abbrev pub LeavesOthersGood : (n o : TheNames) (In On : ℕ → Type 0) → Type 0
LeavesOthersGood n o In On =
    AreApart n o In On → (ws : List ℕ) (ph qh : ℕ → Phase) (l k : List ℕ) (t : List Event) (e f m : ℕ) (p : Phase) (a : Act) →
    QueueGood n In ws ph l t e → QueueGood o On ws qh k t f → ph m ≡ p → plan_at n m p ≡ Some a →
    QueueGood o On (slice_set ws (word_of a) (written a (slice_index ws (word_of a)))) qh k
    (t ++ (turn_at n m p (told a (slice_index ws (word_of a)))).events) f
