-- D-MCS has no dead end.
use Rattle.std.specs.Prelude.{◌≡◌, ◌⊎◌, ℕ, ◌+◌, ◌*◌, ◌<◌, ◌≤◌, ◌==◌, Bool, true, false, List, if◌then◌else◌, length, slice_get, slice_index, slice_set, Some, None, refl}
use Rattle.std.proofs.Common.{sym, ◌∙◌, ap, subst, inl, inr, ⊎_elim, arith}
use Rattle.std.proofs.lemmas.List.{set-get_or}
use Rattle.std.proofs.lemmas.Bool.Decides.{eqb_tells}
use Rattle.rl_word.specs.laws.Places.{some_at}
use Rattle.rl_word.specs.Acts.{word_of, written, told}
use Rattle.rl_word.specs.declared.acts.Act.{Act}
use Rattle.rl_word.specs.declared.acts.Act.TheVariants.{CardCas}
use Rattle.rl_step.specs.declared.events.Event.{Event}
use Rattle.rl_step.specs.declared.events.Event.TheVariants as event
use Rattle.rl_step.specs.Lock.{LockTable, LockState, AllOut, IsHolder}
use Rattle.rl_queue.specs.declared.view.Phase.{Phase}
use Rattle.rl_queue.specs.declared.view.Phase.TheVariants.{Idle, Clear, Reset, Swing, Link, Wait, Settle, Granted, Look, Close, Await, Hand, Above}
use Rattle.rl_queue.specs.declared.view.QueueView.{QueueView}
use Rattle.rl_queue.specs.laws.Choices.{choose, same_test}
use Rattle.rl_queue.specs.Lane.{lane_of, Busy}
use Rattle.rl_queue.specs.Queue.{TheNames, QueueTurn, at_phase, plan_at, turn_at, queue_next_word, status_word, moves_to, moves_with, joined_at, leave_at}
use Rattle.rl_queue.specs.Standings.{standing_of}
use Rattle.rl_queue.specs.laws.StandingLaws.{not_out_busy}
use Rattle.rl_queue.specs.Dmcs.{dmcs_names, dmcs_enter, dmcs_learn, dmcs_turn, dmcs_table, phase_in, Below, Calm, DmcsGood}
use Rattle.rl_queue.specs.laws.DmcsPhases.{phase_get}
use Rattle.rl_queue.specs.DmcsLeft.{far, near, far_of, near_of, dmcs_left}
use Rattle.rl_queue.specs.laws.Stuck.{Stuck, Goes, GetsOn, Falls}
use Rattle.rl_queue.specs.laws.TurnsFall.{turn_falls}
use Rattle.rl_queue.specs.laws.LineGoes.{busy_goes}
use Rattle.rl_ending.specs.Ending.{LockEnds, CanGoOn}
use Rattle.rl_ending.specs.laws.SumLaws.{nearer, less_change, grows}
use Rattle.rl_ending.specs.laws.EndingLaws.{all_out_or_not, goes_on_by}

far_falls : Falls far far
far_falls = grind arith

-- entering brings nobody farther
enter_far : (m : ℕ) (p : Phase) (es : List Event) (w : Bool) → far (dmcs_enter m p es w).view.phase ≤ far p
enter_far m Settle es w = omega arith
enter_far m (Granted left) es w = omega arith
enter_far m Idle es w = omega arith
enter_far m Clear es w = omega arith
enter_far m Reset es w = omega arith
enter_far m (Swing g) es w = omega arith
enter_far m (Link g) es w = omega arith
enter_far m Wait es w = omega arith
enter_far m (Look left upper) es w = omega arith
enter_far m (Close left) es w = omega arith
enter_far m (Await left) es w = omega arith
enter_far m (Hand succ left) es w = omega arith
enter_far m (Above succ) es w = omega arith

near_few : (tail : ℕ) (p : Phase) → near tail p ≤ 1
near_few tail (Swing g) = choose (λ k. k ≤ 1) (tail == g) 0 1 (omega arith) (omega arith)
near_few tail Idle = omega arith
near_few tail _ = omega arith

module _ (home : ℕ) (node_of : List ℕ) where
  abbrev T : LockTable QueueView
  T = dmcs_table home node_of

  abbrev N : TheNames
  N = dmcs_names (length node_of)

  -- an act that gets its member on brings it nearer
  by_act : (s : LockState QueueView) (m : ℕ) (p : Phase) (a : Act) → slice_get s.views m ≡ Some (at_phase m p) → plan_at N m p ≡ Some a →
      GetsOn p (told a (slice_index s.words (word_of a))) → CanGoOn T dmcs_left s m
  by_act s m p a has pl gets =
      let got : ℕ = told a (slice_index s.words (word_of a)) in
      let t : QueueTurn = turn_at N m p (told a (slice_index s.words (word_of a))) in
      let falls : far (turn_at N m p (told a (slice_index s.words (word_of a)))).phase < far p =
      turn_falls far far far_falls N m p (told a (slice_index s.words (word_of a))) gets in
      let enters = enter_far m t.phase t.events t.waits in
      let words : List ℕ = slice_set s.words (word_of a) (written a (slice_index s.words (word_of a))) in
      goes_on_by (at_phase m p) a has pl
      (nearer 1 far_of (near_of s.words) (near_of words) (λ v. near_few (slice_index words 0) v.phase) s.views m (at_phase m p)
      (dmcs_turn m t).view has (omega arith))

  -- a swing that is lost learns the tail
  by_loss : (s : LockState QueueView) (m g : ℕ) → slice_get s.views m ≡ Some (at_phase m (Swing g)) → (slice_index s.words 0 == g) ≡ false →
      CanGoOn T dmcs_left s m
  by_loss s m g has lost =
      let words : slice_set s.words 0 (if slice_index s.words 0 == g then m + 1 else slice_index s.words 0) ≡ s.words =
      ap (λ b. slice_set s.words 0 (if b then m + 1 else slice_index s.words 0)) lost ∙ set-get_or s.words 0 0 in
      let view : (dmcs_learn (length node_of) m (Swing g) (slice_index s.words 0)).view ≡ at_phase m (Swing (slice_index s.words 0)) =
      ap (λ b. (dmcs_turn m (if b then moves_with (joined_at g) (event.Join 0 m) else moves_to (Swing (slice_index s.words 0)))).view) lost in
      let old : near (slice_index s.words 0) (Swing g) ≡ 1 = ap (λ b. if b then 0 else 1) lost in
      let new : near (slice_index s.words 0) (Swing (slice_index s.words 0)) ≡ 0 = ap (λ b. if b then 0 else 1) (same_test (slice_index s.words 0)) in
      goes_on_by (at_phase m (Swing g)) (CardCas 0 g (m + 1)) has refl
      (subst (λ ws. dmcs_left ws (slice_set s.views m (dmcs_learn (length node_of) m (Swing g) (slice_index s.words 0)).view) <
      dmcs_left s.words s.views) (sym words)
      (subst (λ u. dmcs_left s.words (slice_set s.views m u) < dmcs_left s.words s.views) (sym view)
      (less_change 1 far_of (near_of s.words) s.views m (at_phase m (Swing g)) (at_phase m (Swing (slice_index s.words 0))) has refl
      (omega (arith, old, new)))))

  -- who uses the queue, isn't stuck and is calm goes on
  pub goes_by : (s : LockState QueueView) (m : ℕ) (p : Phase) → slice_get s.views m ≡ Some (at_phase m p) → Busy p → Calm p →
      (Stuck p (slice_index s.words (queue_next_word N m)) (slice_index s.words (status_word N m)) → ⊥) → CanGoOn T dmcs_left s m
  goes_by s m Idle has busy calm free = absurd busy
  goes_by s m Clear has busy calm free = by_act s m Clear _ has refl tt
  goes_by s m Reset has busy calm free = by_act s m Reset _ has refl tt
  goes_by s m (Swing g) has busy calm free =
      ⊎_elim (λ q. by_act s m (Swing g) (CardCas 0 g (m + 1)) has refl q.1) (λ q. by_loss s m g has q.0) (eqb_tells (slice_index s.words 0) g)
  goes_by s m (Link g) has busy calm free = by_act s m (Link g) _ has refl tt
  goes_by s m Wait has busy calm free = by_act s m Wait _ has refl free
  goes_by s m Settle has busy calm free = absurd calm
  goes_by s m (Granted left) has busy calm free = record { view = at_phase m (Granted left); has = has; way = inl tt }
  goes_by s m (Look left true) has busy calm free = absurd calm
  goes_by s m (Look left false) has busy calm free = by_act s m (Look left false) _ has refl tt
  goes_by s m (Close left) has busy calm free = by_act s m (Close left) _ has refl tt
  goes_by s m (Await left) has busy calm free = by_act s m (Await left) _ has refl free
  goes_by s m (Hand succ left) has busy calm free = by_act s m (Hand succ left) _ has refl tt
  goes_by s m (Above succ) has busy calm free = absurd calm

  -- a member that goes on, as a rank
  goes_on : (s : LockState QueueView) (m : ℕ) → DmcsGood (length node_of) s → Goes (lane_of N s.words (phase_in s.views)) m → CanGoOn T dmcs_left s m
  goes_on s m g k =
      let lt : m < length node_of = g.queue.inv.inside m k.busy in
      let all : length s.views ≡ length node_of = g.all_views in
      let there : m < length s.views = omega arith in
      let v = some_at s.views m there in
      let at : phase_in s.views m ≡ v.0.phase = phase_get s.views m v.0 v.1 in
      let has : slice_get s.views m ≡ Some (at_phase m v.0.phase) = v.1 ∙ ap (λ i. Some (at_phase i v.0.phase)) (g.named m v.0 v.1) in
      goes_by s m v.0.phase has (subst Busy at k.busy) (g.calm m v.0 v.1)
      (λ z. k.goes (subst (λ p. Stuck p (slice_index s.words (queue_next_word N m)) (slice_index s.words (status_word N m))) (sym at) z))

  somebody_goes : (s : LockState QueueView) → DmcsGood (length node_of) s → AllOut T s ⊎ ((r : ℕ) × CanGoOn T dmcs_left s r)
  somebody_goes s g =
      ⊎_elim inl
      (λ b.
      let busy : Busy b.1.view.phase = not_out_busy b.1.view.phase b.1.busy in
      let k = busy_goes None (Below (length node_of)) (lane_of N s.words (phase_in s.views)) g.line b.0 b.1.view.phase g.queue.inv
      g.queue.awaited (phase_get s.views b.0 b.1.view b.1.has) busy in
      inr (k.0, goes_on s k.0 g k.1))
      (all_out_or_not (λ (v : QueueView). standing_of v.phase) s.views)

  leaves_far : (p : Phase) → IsHolder (standing_of p) → far (leave_at p false) ≤ 6
  leaves_far (Granted left) h = omega arith
  leaves_far _ h = absurd h

  leaves_near : (tail : ℕ) (p : Phase) → IsHolder (standing_of p) → near tail (leave_at p false) ≤ 0
  leaves_near tail (Granted left) h = omega arith
  leaves_near tail _ h = absurd h

  pub dmcs_ends : LockEnds T dmcs_left (DmcsGood (length node_of)) (6 * (1 + 1 * length node_of))
  dmcs_ends =
      record {
        somebody = λ s g. somebody_goes s g;
        ask_adds = λ s r v m g has out. grows 1 far_of (near_of s.words) s.views (length node_of) r 6 v
            (at_phase v.member Clear) g.all_views has (omega arith) (omega arith);
        leave_adds = λ s r v g has holds.
            grows 1 far_of (near_of s.words) s.views (length node_of) r 6 v (at_phase v.member (leave_at v.phase false)) g.all_views has
            (leaves_far v.phase holds) (leaves_near (slice_index s.words 0) v.phase holds);
      }
