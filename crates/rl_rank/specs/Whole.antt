-- A rank's whole machine over any lock: the lock's atoms, and the work of a block while it holds; and the rule of its window.
use Rattle.std.specs.Prelude.{◌≡◌, ℕ, ◌+◌, ◌-◌, ◌^◌, ◌<◌, List, [], ◌∷◌, ◌++◌, Bool, true, false, ◌||◌, length, map, take, drop, count_by, if◌then◌else◌, nat_lt, slice_get, Option, Some, None}
use Rattle.rl_word.specs.declared.classes.Mode.{Mode}
use Rattle.rl_word.specs.declared.acts.Atom.{Atom}
use Rattle.rl_word.specs.declared.acts.Atom.TheVariants as atom
use Rattle.rl_word.specs.Acts.{Layout}
use Rattle.rl_model.specs.declared.entry.Entry.{Entry}
pub use Rattle.rl_journal.specs.Blocks.{is_tenure}
use Rattle.rl_work.specs.declared.follow.Follow.{Follow}
use Rattle.rl_work.specs.declared.follow.Follow.TheVariants.{On, Ask, Over}
use Rattle.rl_site.specs.Site.{lock_base}
use Rattle.rl_work.specs.Ways.{WorkSide, Worked, Look, look, own_look}
use Rattle.rl_core.specs.Desks.{Desk}
pub use Rattle.rl_core.specs.Standings.{leaves}
use Rattle.rl_step.specs.declared.events.Event.{Event}
use Rattle.rl_step.specs.declared.events.Event.TheVariants.{Touch}
use Rattle.rl_step.specs.declared.events.Standing.{Standing}
use Rattle.rl_step.specs.declared.events.Standing.TheVariants as standing
use Rattle.rl_step.specs.declared.events.Stepped.{Stepped}
use Rattle.rl_step.specs.declared.events.Stepped.TheVariants.{Moved, Waiting, Lost, Busy, Finished}
use Rattle.rl_step.specs.Lock.{LockTable, Deed}
use Rattle.rl_step.specs.Do.{TheWindow}
use Rattle.rl_step.specs.Core.{CoreTable, MayGet, Turned}
use Rattle.rl_step.specs.declared.cores.Plan.{Plan}
use Rattle.rl_rank.specs.declared.card_state.CardState.{CardState}
use Rattle.rl_rank.specs.declared.card_state.CardState.TheVariants.{Free, InCard, Loaded}
use Rattle.rl_rank.specs.declared.effect.Effect.{Effect}
use Rattle.rl_rank.specs.declared.effect.Effect.TheVariants as effect
use Rattle.rl_rank.specs.declared.whole.Whole.{Whole}
use Rattle.rl_rank.specs.declared.whole.WholeView.{WholeView}
use Rattle.rl_rank.specs.declared.side.Side.{Side}
use Rattle.rl_rank.specs.Running.{LockAt, Tables, Goods, Rules, lock_at, good_at}
use Rattle.rl_rank.specs.Split.{SplitState, LockGood, Past, SideTurned, departure, side_atom, side_after, home_of, word_home, card_word, asked_act, turned_side, effect_at, plan_home}

-- the lock's side of a rank's view
abbrev pub side_of : {V K : Type 0} → WholeView V K → Side V
side_of x = x.side

-- an atom of the lock, whose words stand in the window from base on
abbrev pub shifted : ℕ → Atom → Atom
shifted base (atom.Load w) = atom.Load (base + w)
shifted base (atom.Store w v) = atom.Store (base + w) v
shifted base (atom.LocalCas w old new) = atom.LocalCas (base + w) old new
shifted base (atom.Take n) = atom.Take n
shifted base (atom.CardLoad w) = atom.CardLoad (base + w)
shifted base (atom.CardStore w v) = atom.CardStore (base + w) v
shifted base (atom.Leave n) = atom.Leave n

-- the lock's answer: the word of a Waiting is the window's
abbrev pub shifted_answer : ℕ → Stepped → Stepped
shifted_answer base (Waiting w v) = Waiting (base + w) v
shifted_answer base answer = answer

-- the plan of a view: the lock's act and the home of its word, each where the card state asks for it
abbrev pub planned_in : {V K : Type 0} → LockTable V → WholeView V K → Plan
planned_in T x =
    let act = asked_act (T.plan x.side.view) x.side.card in
    record { act = act; home = word_home T (card_word act x.side.card) }

-- the plan that a rank keeps which planned this, by its new card state: this one where its Take succeeded, and else what it kept
abbrev pub plan_kept : CardState → Plan → Plan → Plan
plan_kept InCard plan kept = plan
plan_kept c plan kept = kept

-- what is kept is the plan of a rank in a card that hasn't learnt its act yet
abbrev pub IsKept : CardState → Plan → Plan → Type 0
IsKept InCard plan kept = kept ≡ plan
IsKept (Loaded g) plan kept = kept ≡ plan
IsKept c plan kept = Unit {0}

-- the work's atom, of a rank for which the lock plans nothing
abbrev pub work_plan : Standing → Option Atom → Option Atom
work_plan standing.Asking next = None
work_plan standing.Leaving next = None
work_plan st next = next

-- the lock's atom, if it has one, and else the work's
abbrev pub lock_or_work : ℕ → Option Atom → Option Atom → Option Atom
lock_or_work base (Some at) work = Some (shifted base at)
lock_or_work base None work = work

-- the next atom of a rank; none where no call of it is open
abbrev pub next_of : {V K : Type 0} → LockAt V K → WholeView V K → Option Atom
next_of L x = lock_or_work L.base (side_atom L.table x.side) (work_plan (L.table.standing x.side.view) (L.work.next x.rank x.work))

-- a rank is in a call: it isn't out, or it is still in a card or about to leave one
abbrev pub is_at_work : Standing → CardState → Bool
is_at_work standing.Out Free = false
is_at_work st c = true

-- the view, the events and the answer, by what is left of the lock's side
abbrev pub whole_turned : {V K : Type 0} → LockAt V K → WholeView V K → SideTurned V → Turned (WholeView V K)
whole_turned L x left_of =
    record {
      view = record x { side = left_of.side; kept = plan_kept left_of.side.card (planned_in L.table x) x.kept };
      events = left_of.events;
      stepped = shifted_answer L.base left_of.stepped;
    }

-- a holder whose block is over leaves the lock
abbrev pub left_by : {V : Type 0} → LockTable V → V → Standing → V
left_by T v standing.Writer = T.leave v
left_by T v standing.Reader = T.leave v
left_by T v st = v

-- the lock's view behind an atom of the work, by what follows
abbrev pub followed : {V : Type 0} → LockTable V → V → Follow → V
followed T v On = v
followed T v (Ask m) = T.ask v m
followed T v Over = left_by T v (T.standing v)

-- the events of an atom of the work: its touch, and the departure
abbrev pub touch_by : ℕ → Option Bool → List Event
touch_by rank None = []
touch_by rank (Some write) = Touch rank write ∷ []

abbrev pub departure_by : ℕ → Standing → Follow → List Event
departure_by rank st Over = departure rank st
departure_by rank st follow = []

abbrev pub work_events : ℕ → Option Bool → Standing → Follow → List Event
work_events rank touch st follow = touch_by rank touch ++ departure_by rank st follow

-- what an atom of the work leaves of a whole view
abbrev pub work_turned : {V K : Type 0} → LockAt V K → WholeView V K → Worked K → Turned (WholeView V K)
work_turned L x t =
    record {
      view = record x { side = record { view = followed L.table x.side.view t.follow; card = Free }; work = t.work };
      events = work_events x.rank (L.work.touch x.work) (L.table.standing x.side.view) t.follow;
      stepped = t.stepped;
    }

-- what an effect leaves of a whole view; t is what the atom would leave of the work
abbrev pub effect_turned : {V K : Type 0} → LockAt V K → WholeView V K → Worked K → Effect → Turned (WholeView V K)
effect_turned L x t effect.Work = work_turned L x t
effect_turned L x t (effect.Stay c answer) = whole_turned L x (turned_side L.table x.rank x.side.view (L.table.plan x.side.view) (effect.Stay c answer))
effect_turned L x t (effect.Learn c told lost) = whole_turned L x (turned_side L.table x.rank x.side.view (L.table.plan x.side.view) (effect.Learn c told lost))

-- what an atom that gave got leaves of a rank's view
abbrev pub after_of : {V K : Type 0} → LockAt V K → WholeView V K → ℕ → Turned (WholeView V K)
after_of L x got =
    effect_turned L x (L.work.after x.rank x.work got)
    (effect_at (plan_home L.table (L.table.plan x.side.view)) (L.table.plan x.side.view) x.side.card got)

-- the home of a word of the window: that of the shard below the lock's words, and behind them as the work says
abbrev pub home_of_word : {V K : Type 0} → LockAt V K → ℕ → ℕ → ℕ
home_of_word L home w = if nat_lt w L.base then home else if nat_lt (w - L.base) L.table.size then home_of L.table
    (w - L.base) else L.work.home (w - L.base - L.table.size)

-- the whole machine as plain functions
abbrev pub whole_table : {V K : Type 0} → LockAt V K → ℕ → CoreTable (WholeView V K)
whole_table L home =
    record { next = next_of L; after = after_of L; size = L.base + L.table.size + L.work.size; home = home_of_word L home }

-- a call of the rank is open: the rank is in it, by the lock or by the work
abbrev pub is_open : {V K : Type 0} → LockAt V K → WholeView V K → Bool
is_open L x = is_at_work (L.table.standing x.side.view) x.side.card || L.work.is_open x.work

-- the acts that an atom decides which found got: the one that the rank learns, if it learns one
abbrev pub made_deeds : {V K : Type 0} → LockTable V → WholeView V K → ℕ → List Deed
made_deeds T x got = (side_after T x.rank x.side got).deeds

-- the lock's words in a window
abbrev pub lock_words : {V K : Type 0} → LockAt V K → List ℕ → List ℕ
lock_words L words = take L.table.size (drop L.base words)

-- the lock's part of a window
abbrev pub split_of : {V K : Type 0} → LockAt V K → TheWindow → List (WholeView V K) → List Mode → Past → SplitState V
split_of L h vs modes past = record { words = lock_words L h.words; cards = h.cards; sides = map side_of vs; modes = modes; past = past }

-- the work's side of a view
abbrev pub work_side : {V K : Type 0} → LockTable V → WholeView V K → WorkSide K
work_side T x = record { standing = T.standing x.side.view; work = x.work }

-- a rank's desk, by how its work looks
abbrev pub desk_by : Bool → Look → Desk
desk_by b a = record { kept = record { items = a.items; room = a.room }; is_open = b; owes = a.owes; calls = a.calls; seq = a.seq }

-- by its view alone, and by the words too
abbrev pub own_desk : {V K : Type 0} → LockAt V K → WholeView V K → Desk
own_desk L x = desk_by (is_open L x) (own_look L.work x.work)

abbrev pub told_desk : {V K : Type 0} → LockAt V K → List ℕ → ℕ → WholeView V K → Desk
told_desk L words r x = desk_by (is_open L x) (look L.work words r x.work)

-- the entries that are tenures of the lock by a writer
abbrev pub counts : {V K : Type 0} → LockAt V K → Entry → Bool
counts L = is_tenure (L.work.spares L.table.shares)

-- The rule of a window: some modes of the last asks, some events and some acts explain it; the lock's part, and the work's part over
-- all words; what ties the two; and the numbers fit the machine's.
pub record Good {V K : Type 0} (L : LockAt V K) (good : Goods V K) (layout : Layout) (h : TheWindow) (vs : List (WholeView V K)) : Type 0 where
  pub modes : List Mode
  pub past : Past
  pub lock_part : LockGood L.table good.lock layout (split_of L h vs modes past)
  pub work_part : good.work h.words (map (work_side L.table) vs)
  -- the last ask of a rank was in the mode that its work notes
  pub asked_as : (r : ℕ) (x : WholeView V K) → slice_get vs r ≡ Some x → slice_get modes r ≡ Some (L.work.mode x.work)
  -- a rank has left as a writer as often as the entries of its blocks say that are over
  pub left_as : (r : ℕ) (x : WholeView V K) → slice_get vs r ≡ Some x → leaves r past.trace ≡ count_by (counts L) (L.work.ended x.work)
  -- a rank that took a card keeps the plan for which it did
  pub keeps : (r : ℕ) (x : WholeView V K) → slice_get vs r ≡ Some x → IsKept x.side.card (planned_in L.table x) x.kept
  pub own : (r : ℕ) (x : WholeView V K) → slice_get vs r ≡ Some x → x.rank ≡ r
  pub base_is : L.base ≡ lock_base L.work.site
  pub behind_is : L.work.behind ≡ L.base + L.table.size
  pub all_words : length h.words ≡ L.base + L.table.size + L.work.size
  pub fits : L.base + L.table.size + L.work.size < 2 ^ 32
  pub few : length vs < 2 ^ 32

-- the rule of the window of a core
abbrev pub rule_of : {A W V K : Type 0} → Tables A W V K → Rules A W V K → (A → Layout) → Whole A W V K → TheWindow → List (WholeView V K) → Type 0
rule_of table good layout core = Good (lock_at table core) (good_at good core) (layout core.algo)

-- some state under that rule has this view and gives this number for its next atom
abbrev pub CoreMayGet : {A W V K : Type 0} → Tables A W V K → Rules A W V K → (A → Layout) → Whole A W V K → WholeView V K → ℕ → Type 0
CoreMayGet table good layout core = MayGet (whole_table (lock_at table core) core.home) (rule_of table good layout core)

-- a lock word that an atom names fits, once it is shifted
abbrev pub IsShiftable : ℕ → Atom → Type 0
IsShiftable base (atom.Load w) = base + w < 2 ^ 32
IsShiftable base (atom.Store w v) = base + w < 2 ^ 32
IsShiftable base (atom.LocalCas w old new) = base + w < 2 ^ 32
IsShiftable base (atom.Take n) = Unit {0}
IsShiftable base (atom.CardLoad w) = base + w < 2 ^ 32
IsShiftable base (atom.CardStore w v) = base + w < 2 ^ 32
IsShiftable base (atom.Leave n) = Unit {0}

-- and so does the word that an answer names
abbrev pub IsAnswerShiftable : ℕ → Stepped → Type 0
IsAnswerShiftable base Moved = Unit {0}
IsAnswerShiftable base (Waiting w v) = base + w < 2 ^ 32
IsAnswerShiftable base (Lost guess seen) = Unit {0}
IsAnswerShiftable base (Busy node holder) = Unit {0}
IsAnswerShiftable base Finished = Unit {0}
