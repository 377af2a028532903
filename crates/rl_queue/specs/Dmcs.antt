-- D-MCS as plain functions: one queue of all ranks, without limit; and which of its states are good.
use Rattle.std.specs.Prelude.{◌≡◌, ℕ, ◌+◌, ◌-◌, ◌*◌, ◌/◌, ◌<◌, ◌==◌, Bool, true, false, List, [], ◌∷◌, ◌++◌, length, if◌then◌else◌, slice_get, slice_index, Some, None}
use Rattle.rl_word.specs.declared.classes.Spot.{Spot}
use Rattle.rl_word.specs.declared.classes.Class.TheVariants as class
use Rattle.rl_step.specs.declared.events.Event.{Event}
use Rattle.rl_step.specs.declared.events.Event.TheVariants as event
use Rattle.rl_step.specs.Lock.{LockTable, LockState, Told, no_local}
use Rattle.rl_step.specs.LockQueues.{all_ranks}
use Rattle.rl_step.specs.Queues.{QueueOf, tenures}
use Rattle.rl_queue.specs.declared.view.Phase.{Phase}
use Rattle.rl_queue.specs.declared.view.Phase.TheVariants.{Idle, Clear, Settle, Granted, Look, Above}
use Rattle.rl_queue.specs.declared.view.QueueView.{QueueView}
use Rattle.rl_queue.specs.Queue.{TheNames, QueueTurn, at_phase, plan_at, turn_at, settled_at, leave_at}
use Rattle.rl_queue.specs.QueueGood.{QueueGood}
use Rattle.rl_queue.specs.RankWords.{every_second}
use Rattle.rl_queue.specs.RankViews.{of_rank}
use Rattle.rl_queue.specs.Standings.{standing_of}

-- the words of the queue of n ranks: word 0 is the tail, a card word; then come the next word and the status word of each rank
abbrev pub dmcs_names : ℕ → TheNames
dmcs_names n = record { queue = 0; tail = 0; tail_class = class.Card; next = every_second 1 n; status = every_second 2 n; budget = None }

-- the tail lives on the shard's home; a rank's words are plain and live on its node
abbrev pub dmcs_spot : ℕ → List ℕ → ℕ → Spot
dmcs_spot home node_of w =
    if w == 0 then record { class = class.Card; home = home } else record { class = class.Plain; home = slice_index node_of ((w - 1) / 2) }

-- what rank m, come to a phase, learns of the lock: a head settles at once, and who has the queue is inside
abbrev pub dmcs_enter : ℕ → Phase → List Event → Bool → Told QueueView
dmcs_enter m Settle es w = record { view = at_phase m (settled_at None); events = es ++ event.Settle 0 m ∷ event.EnterW m ∷ []; waits = w }
dmcs_enter m (Granted left) es w = record { view = at_phase m (Granted left); events = es ++ event.EnterW m ∷ []; waits = w }
dmcs_enter m p es w = record { view = at_phase m p; events = es; waits = w }

abbrev pub dmcs_turn : ℕ → QueueTurn → Told QueueView
dmcs_turn m t = dmcs_enter m t.phase t.events t.waits

-- what rank m of n learns where its act told got
abbrev pub dmcs_learn : ℕ → ℕ → Phase → ℕ → Told QueueView
dmcs_learn n m p got = dmcs_turn m (turn_at (dmcs_names n) m p got)

-- one queue of all n ranks, without limit
abbrev pub dmcs_queue : ℕ → QueueOf
dmcs_queue n = all_ranks n

-- The lock of a shard with this home, of ranks on these nodes: a rank joins the queue when it asks, and leaves it by the leave of
-- a queue that has nothing above it. No cohort, no readers that share, and no local compare-and-swap.
abbrev pub dmcs_table : ℕ → List ℕ → LockTable QueueView
dmcs_table home node_of =
    record {
      size = 1 + 2 * length node_of;
      spot = dmcs_spot home node_of;
      first = λ r. at_phase r Idle;
      ask = λ v m. at_phase v.member Clear;
      plan = λ v. plan_at (dmcs_names (length node_of)) v.member v.phase;
      learn = λ v got. dmcs_learn (length node_of) v.member v.phase got;
      leave = λ v. at_phase v.member (leave_at v.phase false);
      standing = λ v. standing_of v.phase;
      queues = dmcs_queue (length node_of) ∷ [];
      cohort = λ c. false;
      shares = false;
      may_make = no_local;
    }

-- the phase of each rank, by its number
abbrev pub phase_in : List QueueView → ℕ → Phase
phase_in vs m = of_rank {V = QueueView} (λ v. v.phase) Idle vs m

-- between acts no rank is left where it must settle, or where something is above
abbrev pub Calm : Phase → Type 0
Calm Settle = ⊥
Calm (Look left true) = ⊥
Calm (Above succ) = ⊥
Calm p = Unit {0}

-- the ranks are the numbers below n
abbrev pub Below : ℕ → ℕ → Type 0
Below n m = m < n

-- A state is good where its queue is, with some line, and its ended tenures are the departures of ranks.
pub record DmcsGood (n : ℕ) (s : LockState QueueView) : Type 0 where
  pub all_words : length s.words ≡ 1 + 2 * n
  pub all_views : length s.views ≡ n
  pub all_modes : length s.modes ≡ n
  pub named : (r : ℕ) (v : QueueView) → slice_get s.views r ≡ Some v → v.member ≡ r
  pub calm : (r : ℕ) (v : QueueView) → slice_get s.views r ≡ Some v → Calm v.phase
  pub line : List ℕ
  pub queue : QueueGood (dmcs_names n) (Below n) s.words (phase_in s.views) line s.trace (tenures (dmcs_queue n) s.trace)
