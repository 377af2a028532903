-- What a lock is: its table of plain functions, its states and how they change, and its laws.
use Rattle.std.specs.Prelude.{◌≡◌, ◌↔◌, ℕ, zero, suc, ◌+◌, ◌^◌, ◌<◌, ◌≤◌, Bool, true, false, List, [], ◌∷◌, ◌++◌, length, replicate, slice_get, slice_index, slice_set, Option, Some, None}
use Rattle.std.specs.List.{AllByRecursion}
use Rattle.rl_word.specs.declared.classes.Mode.{Mode}
use Rattle.rl_word.specs.declared.classes.Mode.TheVariants as mode
use Rattle.rl_word.specs.declared.classes.Spot.{Spot}
use Rattle.rl_word.specs.declared.acts.Act.{Act}
use Rattle.rl_word.specs.declared.acts.Act.TheVariants as act
use Rattle.rl_word.specs.Acts.{word_of, written, told, Layout, IsLawful}
use Rattle.rl_step.specs.declared.events.Event.{Event}
use Rattle.rl_step.specs.declared.events.Event.TheVariants.{Join, Announce, Pass, Settle, Touch, EnterW, EnterR, LeaveW, LeaveR}
use Rattle.rl_step.specs.declared.events.Learnt.{Learnt}
use Rattle.rl_step.specs.declared.events.Standing.{Standing}
use Rattle.rl_step.specs.declared.events.Standing.TheVariants.{Out, Asking, Writer, Reader, Leaving}
use Rattle.rl_step.specs.Queues.{QueueOf, IsWithin, IsFifo, settled, passed, tenures}

-- what a learnt act leaves: the view, what happened with the act, and whether a waiting round has to be made again
pub record Told (V : Type 0) : Type 0 where
  pub view : V
  pub events : List Event
  pub waits : Bool

abbrev pub told_as : {V : Type 0} → V → List Event → Bool → Told V
told_as view events waits = record { view = view; events = events; waits = waits }

-- the same, of what a rank learnt with these events
abbrev pub told_with : {V : Type 0} → Learnt V → List Event → Told V
told_with l es = record { view = l.view; events = es; waits = l.waits }

-- A lock as plain functions: how many words it has and what they are, a rank's view at first and after it asks, the act that
-- a view plans, what is learnt of what the act told, the view after the holder's work, and how a view stands.
-- With it goes its description: its queues by number, its cohorts, whether readers share it, and which acts a rank may make
-- beyond the rule of classes.
pub record LockTable (V : Type 0) : Type 0 where
  pub size : ℕ
  pub spot : ℕ → Spot
  pub first : ℕ → V
  pub ask : V → Mode → V
  pub plan : V → Option Act
  pub learn : V → ℕ → Told V
  pub leave : V → V
  pub standing : V → Standing
  pub queues : List QueueOf
  pub cohort : ℕ → Bool
  pub shares : Bool
  pub may_make : ℕ → Act → Bool

-- an act that was made: by whom, what it told, and what happened with it
pub record Deed : Type 0 where
  pub rank : ℕ
  pub act : Act
  pub got : ℕ
  pub events : List Event

-- what a lock's laws speak of: the words, the ranks' views, the mode of each rank's last ask, and all events and acts so far
pub record LockState (V : Type 0) : Type 0 where
  pub words : List ℕ
  pub views : List V
  pub modes : List Mode
  pub trace : List Event
  pub deeds : List Deed

-- a rank that stands so holds the lock
abbrev pub IsHolder : Standing → Type 0
IsHolder Writer = Unit {0}
IsHolder Reader = Unit {0}
IsHolder _ = ⊥

-- the first views of n ranks, numbered on from a rank
abbrev pub first_views : {V : Type 0} → (ℕ → V) → ℕ → ℕ → List V
first_views first from zero = []
first_views first from (suc n) = first from ∷ first_views first (from + 1) n

-- the opening state of n ranks: all words are 0, and nothing has happened
abbrev pub opening : {V : Type 0} → LockTable V → ℕ → LockState V
opening T n =
    record { words = replicate T.size 0; views = first_views T.first 0 n; modes = replicate n mode.Write; trace = []; deeds = [] }

-- the value of the act's word
abbrev pub found : {V : Type 0} → LockState V → Act → ℕ
found s a = slice_index s.words (word_of a)

-- what the view v learns from the act a
abbrev pub learnt : {V : Type 0} → LockTable V → LockState V → V → Act → Told V
learnt T s v a = T.learn v (told a (found s a))

-- rank r, whose view is v, makes the act a, as one step
abbrev pub acted : {V : Type 0} → LockTable V → LockState V → ℕ → V → Act → LockState V
acted T s r v a =
    record {
      words = slice_set s.words (word_of a) (written a (found s a));
      views = slice_set s.views r (learnt T s v a).view;
      modes = s.modes;
      trace = s.trace ++ (learnt T s v a).events;
      deeds = s.deeds ++ record { rank = r; act = a; got = told a (found s a); events = (learnt T s v a).events } ∷ [];
    }

-- rank r, whose view is v, asks for the lock in the mode m
abbrev pub asked : {V : Type 0} → LockTable V → LockState V → ℕ → V → Mode → LockState V
asked T s r v m =
    record { words = s.words; views = slice_set s.views r (T.ask v m); modes = slice_set s.modes r m; trace = s.trace; deeds = s.deeds }

-- rank r, whose view is v, ends its work, with the event e
abbrev pub left : {V : Type 0} → LockTable V → LockState V → ℕ → V → Event → LockState V
left T s r v e =
    record { words = s.words; views = slice_set s.views r (T.leave v); modes = s.modes; trace = s.trace ++ e ∷ []; deeds = s.deeds }

-- rank r touches what the lock guards, and w says whether it writes
abbrev pub touched : {V : Type 0} → LockState V → ℕ → Bool → LockState V
touched s r w = record { words = s.words; views = s.views; modes = s.modes; trace = s.trace ++ Touch r w ∷ []; deeds = s.deeds }

-- the events among these that speak of holders
abbrev pub holds_only : List Event → List Event
holds_only [] = []
holds_only (Join q m ∷ es) = holds_only es
holds_only (Announce c ∷ es) = holds_only es
holds_only (Pass q m ∷ es) = holds_only es
holds_only (Settle q m ∷ es) = holds_only es
holds_only (Touch k w ∷ es) = Touch k w ∷ holds_only es
holds_only (EnterW k ∷ es) = EnterW k ∷ holds_only es
holds_only (EnterR k ∷ es) = EnterR k ∷ holds_only es
holds_only (LeaveW k ∷ es) = LeaveW k ∷ holds_only es
holds_only (LeaveR k ∷ es) = LeaveR k ∷ holds_only es

-- How an act of rank r may change its standing, with the events of holders that come with it: an asking rank goes on asking
-- or enters, with its own enter event; a leaving rank goes on leaving or is out. Nothing else is possible.
abbrev pub Shift : ℕ → Standing → Standing → List Event → Type 0
Shift r Asking Asking es = es ≡ []
Shift r Asking Writer es = es ≡ EnterW r ∷ []
Shift r Asking Reader es = es ≡ EnterR r ∷ []
Shift r Leaving Leaving es = es ≡ []
Shift r Leaving Out es = es ≡ []
Shift r _ _ es = ⊥

-- a rank that stands so plans no act
abbrev pub Rests : Standing → Type 0
Rests Out = Unit {0}
Rests Asking = ⊥
Rests Writer = Unit {0}
Rests Reader = Unit {0}
Rests Leaving = ⊥

-- How a rank may stand whose last ask was in this mode. A lock that readers don't share has no reader at all; in one that
-- they share a reader has asked to read, and a writer to write.
abbrev pub Suits : Bool → Mode → Standing → Type 0
Suits shares m Out = Unit {0}
Suits shares m Asking = Unit {0}
Suits false m Writer = Unit {0}
Suits true m Writer = m ≡ mode.Write
Suits false m Reader = ⊥
Suits true m Reader = m ≡ mode.Read
Suits shares m Leaving = Unit {0}

-- the place of an event's kind in the order of one act's events
abbrev pub kind : Event → ℕ
kind (Join q m) = 0
kind (Announce c) = 1
kind (Pass q m) = 2
kind (Settle q m) = 3
kind (Touch k w) = 4
kind (EnterW k) = 5
kind (EnterR k) = 6
kind (LeaveW k) = 7
kind (LeaveR k) = 8

-- one event may stand before the next of the same act: of two settlements that of the upper queue, whose number is lower
abbrev pub Before : Event → Event → Type 0
Before (Settle p m) (Settle q k) = p < q
Before e f = kind e < kind f

-- the events of one act stand in order
abbrev pub InOrder : List Event → Type 0
InOrder [] = Unit {0}
InOrder (e ∷ []) = Unit {0}
InOrder (e ∷ f ∷ es) = Before e f × InOrder (f ∷ es)

-- m is a member of queue number q
pub record IsMember (queues : List QueueOf) (q m : ℕ) : Type 0 where
  pub queue : QueueOf
  pub is_queue : slice_get queues q ≡ Some queue
  pub is_member : queue.members m ≡ true

-- the queue and member, or the cohort, that an event names are the lock's
abbrev pub Names : List QueueOf → (ℕ → Bool) → Event → Type 0
Names queues cohort (Join q m) = IsMember queues q m
Names queues cohort (Announce c) = cohort c ≡ true
Names queues cohort (Pass q m) = IsMember queues q m
Names queues cohort (Settle q m) = IsMember queues q m
Names queues cohort _ = Unit {0}

abbrev pub AllNamed : List QueueOf → (ℕ → Bool) → List Event → Type 0
AllNamed queues cohort es = AllByRecursion (Names queues cohort) es

-- a compare-and-swap finds its old value
abbrev pub FindsOld : Act → ℕ → Type 0
FindsOld (act.Load w) g = Unit {0}
FindsOld (act.Store w v) g = Unit {0}
FindsOld (act.LocalCas w old new) g = g ≡ old
FindsOld (act.CardCas w old new) g = g ≡ old
FindsOld (act.CardSwap w v) g = Unit {0}
FindsOld (act.CardAdd w d) g = Unit {0}

-- the act is a load, and a plan is one
abbrev pub IsLoad : Act → Type 0
IsLoad (act.Load w) = Unit {0}
IsLoad _ = ⊥

abbrev pub PlansLoad : Option Act → Type 0
PlansLoad None = ⊥
PlansLoad (Some a) = IsLoad a

-- no rank makes a local compare-and-swap: what locks without local words say of their acts
abbrev pub no_local : ℕ → Act → Bool
no_local r (act.Load w) = true
no_local r (act.Store w v) = true
no_local r (act.LocalCas w old new) = false
no_local r (act.CardCas w old new) = true
no_local r (act.CardSwap w v) = true
no_local r (act.CardAdd w d) = true

-- A lock that says no more than the laws of every lock: nothing of all events, nor of what else is given, as all acts or all atoms.
abbrev pub no_more : {X : Type 0} → List Event → X → Type 0
no_more t xs = Unit {0}

-- some good state has this view
pub record MayStep {V : Type 0} (good : LockState V → Type 0) (v : V) : Type 0 where
  pub state : LockState V
  pub rank : ℕ
  pub is_good : good state
  pub has : slice_get state.views rank ≡ Some v

-- some good state has this view, which plans an act, and got is what the act tells there
pub record MayLearn {V : Type 0} (T : LockTable V) (good : LockState V → Type 0) (v : V) (got : ℕ) : Type 0 where
  pub state : LockState V
  pub rank : ℕ
  pub act : Act
  pub is_good : good state
  pub has : slice_get state.views rank ≡ Some v
  pub planned : T.plan v ≡ Some act
  pub gives : got ≡ told act (found state act)

-- rank r of the good state s has the view v, which plans the act a
pub record Acts {V : Type 0} (T : LockTable V) (good : LockState V → Type 0) (s : LockState V) (r : ℕ) (v : V) (a : Act) : Type 0 where
  pub is_good : good s
  pub has : slice_get s.views r ≡ Some v
  pub planned : T.plan v ≡ Some a

-- no rank is in a call
abbrev pub AllOut : {V : Type 0} → LockTable V → LockState V → Type 0
AllOut T s = (r : ℕ) (v : _) → slice_get s.views r ≡ Some v → T.standing v ≡ Out

-- The laws of a lock: of its table T, of what it calls a good state, of what it says further of all events and acts, and of
-- where its ranks sit.
pub record LockLaws {V : Type 0} (T : LockTable V) (good : LockState V → Type 0) (further : List Event → List Deed → Type 0) (layout : Layout) : Type 0 where
  -- the opening state is good
  pub begins : good (opening T (length layout.node_of))
  -- a good state has all words, and a view and a mode for each rank
  pub sized : (s : LockState V) → good s → (length s.words ≡ T.size) × (length s.views ≡ length layout.node_of) × (length s.modes ≡ length layout.node_of)
  -- it has few words
  pub few_words : T.size ≤ 2 ^ 16
  -- each of its words lives on a node that is there
  pub homes : (w : ℕ) → w < T.size → (T.spot w).home < layout.nodes
  -- a planned act is on a word that is there, the rule of classes allows it, and it is one that the rank may make
  pub lawful : (s : LockState V) (r : ℕ) (v : V) (a : Act) → Acts T good s r v a → IsLawful T.size T.spot layout r a × (T.may_make r a ≡ true)
  -- a state stays good when a rank makes its act
  pub keeps : (s : LockState V) (r : ℕ) (v : V) (a : Act) → Acts T good s r v a → good (acted T s r v a)
  -- when a rank that is out asks
  pub ask_keeps : (s : LockState V) (r : ℕ) (v : V) (m : Mode) → good s → slice_get s.views r ≡ Some v → T.standing v ≡ Out → good (asked T s r v m)
  -- when a writer leaves, and when a reader leaves
  pub leave_keeps_writer : (s : LockState V) (r : ℕ) (v : V) → good s → slice_get s.views r ≡ Some v → T.standing v ≡ Writer → good (left T s r v (LeaveW r))
  pub leave_keeps_reader : (s : LockState V) (r : ℕ) (v : V) → good s → slice_get s.views r ≡ Some v → T.standing v ≡ Reader → good (left T s r v (LeaveR r))
  -- and when anybody touches what the lock guards
  pub touch_keeps : (s : LockState V) (r : ℕ) (w : Bool) → good s → good (touched s r w)
  -- where there is a writer nobody else holds the lock
  pub excludes : (s : LockState V) (i j : ℕ) (v w : V) → good s → slice_get s.views i ≡ Some v → slice_get s.views j ≡ Some w →
      T.standing v ≡ Writer → IsHolder (T.standing w) → i ≡ j
  -- who holds the lock has asked for it in a mode that suits: no reader has asked to write; and there is no reader at all, or,
  -- where readers share the lock, no writer has asked to read
  pub suits : (s : LockState V) (r : ℕ) (v : V) (m : Mode) → good s → slice_get s.views r ≡ Some v → slice_get s.modes r ≡ Some m →
      Suits T.shares m (T.standing v)
  -- a rank is out at first, asks once it has asked, and leaves once it has left
  pub first_out : (r : ℕ) → T.standing (T.first r) ≡ Out
  pub ask_asks : (v : V) (m : Mode) → T.standing v ≡ Out → T.standing (T.ask v m) ≡ Asking
  pub leave_leaves : (v : V) → IsHolder (T.standing v) → T.standing (T.leave v) ≡ Leaving
  -- no act is planned exactly where a rank is out or holds the lock
  pub rests : (s : LockState V) (r : ℕ) (v : V) → good s → slice_get s.views r ≡ Some v → (T.plan v ≡ None) ↔ Rests (T.standing v)
  -- an act changes its rank's standing from asking to holding or from leaving to out alone; the enter event comes exactly with
  -- it and names the rank; acts give no touch and no leave event
  pub shifts : (s : LockState V) (r : ℕ) (v : V) (a : Act) → Acts T good s r v a →
      Shift r (T.standing v) (T.standing (learnt T s v a).view) (holds_only (learnt T s v a).events)
  -- a round has to be made again after a load alone, and begins with a load
  pub waits_on_loads : (s : LockState V) (r : ℕ) (v : V) (a : Act) → Acts T good s r v a → (learnt T s v a).waits ≡ true →
      IsLoad a × PlansLoad (T.plan (learnt T s v a).view)
  -- the events of an act stand in the order of their kinds, and there are at most 8
  pub orders : (s : LockState V) (r : ℕ) (v : V) (a : Act) → Acts T good s r v a → InOrder (learnt T s v a).events × (length (learnt T s v a).events ≤ 8)
  -- they name queues, members and cohorts that the lock has
  pub names : (s : LockState V) (r : ℕ) (v : V) (a : Act) → Acts T good s r v a → AllNamed T.queues T.cohort (learnt T s v a).events
  -- a queue with a budget keeps it
  pub within : (s : LockState V) (q B : ℕ) (d : QueueOf) → good s → slice_get T.queues q ≡ Some d → d.budget ≡ Some B → IsWithin s.trace q B
  -- a queue serves first who came first
  pub fifo : (s : LockState V) (q : ℕ) (d : QueueOf) → good s → slice_get T.queues q ≡ Some d → IsFifo s.trace q
  -- while no rank is in a call, a queue was settled and passed as often as it was had
  pub counted : (s : LockState V) (q : ℕ) (d : QueueOf) → good s → AllOut T s → slice_get T.queues q ≡ Some d →
      settled q s.trace + passed q s.trace ≡ tenures d s.trace
  -- what the lock says further of all events and acts so far
  pub goes_further : (s : LockState V) → good s → further s.trace s.deeds
  -- where there is one rank alone, a compare-and-swap finds its old value and nothing waits
  pub finds : (s : LockState V) (r : ℕ) (v : V) (a : Act) → length layout.node_of ≡ 1 → Acts T good s r v a → FindsOld a (found s a)
  pub moves_on : (s : LockState V) (r : ℕ) (v : V) (a : Act) → length layout.node_of ≡ 1 → Acts T good s r v a → (learnt T s v a).waits ≡ false
