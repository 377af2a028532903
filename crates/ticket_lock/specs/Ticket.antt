-- The ticket lock as plain functions, and which of its states are good.
use Rattle.std.specs.Prelude.{◌≡◌, ℕ, ◌+◌, ◌%◌, ◌^◌, ◌<◌, ◌≤◌, ◌==◌, Bool, true, false, List, [], ◌∷◌, length, map, count_by, is_some, if◌then◌else◌, slice_get, Option, Some, None}
use Rattle.rl_word.specs.declared.classes.Class.TheVariants as class
use Rattle.rl_word.specs.declared.classes.Mode.{Mode}
use Rattle.rl_word.specs.declared.acts.Act.{Act}
use Rattle.rl_word.specs.declared.acts.Act.TheVariants.{Load, Store, CardAdd}
use Rattle.rl_step.specs.declared.events.Event.{Event}
use Rattle.rl_step.specs.declared.events.Event.TheVariants.{EnterW}
use Rattle.rl_step.specs.declared.events.Standing.{Standing}
use Rattle.rl_step.specs.declared.events.Standing.TheVariants as standing
use Rattle.rl_step.specs.Lock.{LockTable, Told, no_local}
use Rattle.ticket_lock.specs.declared.view.TicketView.{TicketView}
use Rattle.ticket_lock.specs.declared.view.Phase.{Phase}
use Rattle.ticket_lock.specs.declared.view.Phase.TheVariants.{Out, Drawing, Waiting, Inside, Releasing}

-- the view of rank r in phase p, and what is learnt where that is the view
abbrev pub at_phase : ℕ → Phase → TicketView
at_phase r p = record { rank = r; phase = p }

abbrev pub told_as : ℕ → Phase → List Event → Bool → Told TicketView
told_as r p es waits = record { view = at_phase r p; events = es; waits = waits }

-- A rank adds 1 to the next ticket through the card of its home; it loads the ticket that is served; it stores there the one
-- after its own.
abbrev pub ticket_plan : Phase → Option Act
ticket_plan Drawing = Some (CardAdd 0 1)
ticket_plan (Waiting x) = Some (Load 1)
ticket_plan (Releasing x) = Some (Store 1 ((x + 1) % 2 ^ 64))
ticket_plan _ = None

-- What the add finds is the rank's ticket. A rank whose ticket is served is inside, and enters with that load; another one
-- waits, and loads again.
abbrev pub ticket_learn : ℕ → Phase → ℕ → Told TicketView
ticket_learn r Drawing got = told_as r (Waiting got) [] false
ticket_learn r (Waiting x) got = if got == x then told_as r (Inside x) (EnterW r ∷ []) false else told_as r (Waiting x) [] true
ticket_learn r (Releasing x) got = told_as r Out [] false
ticket_learn r p got = told_as r p [] false

-- who has done its work releases the lock, with the ticket that it has
abbrev pub ticket_leave : Phase → Phase
ticket_leave (Inside x) = Releasing x
ticket_leave p = p

abbrev pub ticket_standing : Phase → Standing
ticket_standing Out = standing.Out
ticket_standing Drawing = standing.Asking
ticket_standing (Waiting x) = standing.Asking
ticket_standing (Inside x) = standing.Writer
ticket_standing (Releasing x) = standing.Leaving

-- the ticket lock of a shard with this home: word 0, the next ticket, is a card word, and word 1, the ticket that is served, a
-- plain one; no queue, no cohort, no readers that share, and no local compare-and-swap
abbrev pub ticket_table : ℕ → LockTable TicketView
ticket_table home =
    record {
      size = 2;
      spot = λ w. record { class = if w == 0 then class.Card else class.Plain; home = home };
      first = λ r. at_phase r Out;
      ask = λ v m. at_phase v.rank Drawing;
      plan = λ v. ticket_plan v.phase;
      learn = λ v got. ticket_learn v.rank v.phase got;
      leave = λ v. at_phase v.rank (ticket_leave v.phase);
      standing = λ v. ticket_standing v.phase;
      queues = [];
      cohort = λ c. false;
      shares = false;
      may_make = no_local;
    }

-- the ticket that a rank in this phase has
abbrev pub ticket_of : Phase → Option ℕ
ticket_of (Waiting x) = Some x
ticket_of (Inside x) = Some x
ticket_of (Releasing x) = Some x
ticket_of _ = None

-- the tickets of all ranks, and how many have one
abbrev pub tickets : List TicketView → List (Option ℕ)
tickets views = map (λ v. ticket_of v.phase) views

abbrev pub drawn : List (Option ℕ) → ℕ
drawn ts = count_by (λ o. is_some o) ts

-- Tickets are numbered from 0 on without end; a word and a view have a number modulo 2^64. Where so many were served, ticket x
-- is due if its number is among the next `count`.
pub record IsDue (served count x : ℕ) : Type 0 where
  pub number : ℕ
  pub since : served ≤ number
  pub before : number < served + count
  pub is : x ≡ number % 2 ^ 64

-- The tickets of the ranks are a line: they are due, no two ranks have the same, and each number in it is some rank's. As there are
-- fewer ranks than 2^64, no two numbers in it have the same ticket, so that it harms nobody when tickets begin at 0 again.
pub record IsLine (served : ℕ) (ts : List (Option ℕ)) : Type 0 where
  pub due : (r x : ℕ) → slice_get ts r ≡ Some (Some x) → IsDue served (drawn ts) x
  pub apart : (i j x : ℕ) → slice_get ts i ≡ Some (Some x) → slice_get ts j ≡ Some (Some x) → i ≡ j
  pub taken : (k : ℕ) → k < drawn ts → (r : ℕ) × (slice_get ts r ≡ Some (Some ((served + k) % 2 ^ 64)))

-- a rank in this phase has the turn
abbrev pub HasTurn : Phase → Type 0
HasTurn (Inside x) = Unit {0}
HasTurn (Releasing x) = Unit {0}
HasTurn _ = ⊥

-- the words where so many tickets were served and so many ranks have one: the next ticket, and the one that is served
abbrev pub words_at : ℕ → ℕ → List ℕ
words_at served count = (served + count) % 2 ^ 64 ∷ served % 2 ^ 64 ∷ []

-- A state is good where the tickets of its ranks are a line, the words tell where it begins and ends, and who has the turn has
-- the ticket that is served.
pub record TicketGood (ranks : ℕ) (words : List ℕ) (views : List TicketView) (modes : List Mode) : Type 0 where
  pub few : ranks < 2 ^ 64
  pub all_views : length views ≡ ranks
  pub all_modes : length modes ≡ ranks
  pub named : (r : ℕ) (v : TicketView) → slice_get views r ≡ Some v → v.rank ≡ r
  pub served : ℕ
  pub line : IsLine served (tickets views)
  pub two_words : words ≡ words_at served (drawn (tickets views))
  pub turns : (r : ℕ) (v : TicketView) → slice_get views r ≡ Some v → HasTurn v.phase → ticket_of v.phase ≡ Some (served % 2 ^ 64)
