-- What a layer above reads off a turn: what happened with it, and where it may lead; and what an act of one queue leaves of others.
use Rattle.std.specs.Prelude.{◌≡◌, ◌⊎◌, ℕ, zero, suc, ◌+◌, ◌-◌, ◌==◌, List, [], ◌∷◌, if◌then◌else◌, slice_index, slice_set, Option, Some, None, refl}
use Rattle.std.proofs.Common.{sym, ap, subst, inl, inr, ⊎_elim, get_or-set_other, arith}
use Rattle.rl_word.specs.Acts.{word_of, written}
use Rattle.rl_word.specs.declared.acts.Act.{Act}
use Rattle.rl_step.specs.declared.events.Event.{Event}
use Rattle.rl_step.specs.declared.events.Event.TheVariants as event
use Rattle.rl_queue.specs.declared.view.Phase.{Phase}
use Rattle.rl_queue.specs.declared.view.Phase.TheVariants.{Idle, Swing, Wait, Settle, Granted, Close, Await, Hand}
use Rattle.rl_queue.specs.laws.Choices.{choose}
use Rattle.rl_queue.specs.Queue.{TheNames, status_word, code_left, moves_to, moves_with, waits_at, joined_at, hand_turn, plan_at, turn_at}
use Rattle.rl_queue.specs.Lane.{lane_of, Has, Line, Listed}
use Rattle.rl_queue.specs.laws.LaneLaws.{in_line}
use Rattle.rl_queue.specs.QueueGood.{QueueGood}
use Rattle.rl_queue.specs.laws.QueueActs.{pass_more}
use Rattle.rl_queue.specs.QueuesApart.{AreApart}
use Rattle.rl_queue.specs.laws.QueueFrame.{act_place}
use Rattle.rl_queue.specs.Heads.{head_in}
use Rattle.rl_queue.specs.laws.QueueHeads.{same_head}

-- nothing happens, or the member joins, or it passes the queue to its successor
abbrev pub TurnEvents : ℕ → ℕ → Phase → List Event → Type 0
TurnEvents q m p es = (es ≡ []) ⊎ ((es ≡ event.Join q m ∷ []) ⊎ ((s : ℕ) × (left : ℕ) × (p ≡ Hand s left) × (es ≡ event.Pass q s ∷ [])))

hand_events : (q m : ℕ) (B : Option ℕ) (s left : ℕ) → TurnEvents q m (Hand s left) (hand_turn q B s left).events
hand_events q m None s left = inr (inr (s, left, refl, refl))
hand_events q m (Some b) s zero = inl refl
hand_events q m (Some b) s (suc k) = inr (inr (s, suc k, refl, ap (λ z. z.events) (pass_more q b s k)))

pub turn_events : (n : TheNames) (m : ℕ) (p : Phase) (got : ℕ) → TurnEvents n.queue m p (turn_at n m p got).events
turn_events n m (Swing guess) got = choose (λ z. TurnEvents n.queue m (Swing guess) z.events) (got == guess)
    (moves_with (joined_at guess) (event.Join n.queue m)) (moves_to (Swing got)) (inr (inl refl)) (inl refl)
turn_events n m Wait got =
    choose (λ z. TurnEvents n.queue m Wait z.events) (got == 0) (waits_at Wait)
    (if got == 1 then moves_to Settle else moves_to (Granted (code_left n.budget got))) (inl refl)
    (choose (λ z. TurnEvents n.queue m Wait z.events) (got == 1) (moves_to Settle) (moves_to (Granted (code_left n.budget got))) (inl refl) (inl refl))
turn_events n m (Close left) got = choose (λ z. TurnEvents n.queue m (Close left) z.events) (got == m + 1) (moves_to Idle)
    (moves_to (Await left)) (inl refl) (inl refl)
turn_events n m (Await left) got = choose (λ z. TurnEvents n.queue m (Await left) z.events) (got == 0) (waits_at (Await left))
    (moves_to (Hand (got - 1) left)) (inl refl) (inl refl)
turn_events n m (Hand succ left) got = hand_events n.queue m n.budget succ left
turn_events n m _ got = inl refl

-- what holds of no event, of a join, and of each pass holds of a turn's events
pub turn_all : (P : List Event → Type 0) (n : TheNames) (m : ℕ) (p : Phase) (got : ℕ) → P [] → P (event.Join n.queue m ∷ []) →
    ((s : ℕ) → P (event.Pass n.queue s ∷ [])) → P (turn_at n m p got).events
turn_all P n m p got a b c =
    ⊎_elim (λ e. subst P (sym e) a) (λ q. ⊎_elim (λ e. subst P (sym e) b) (λ x. subst P (sym x.3) (c x.0)) q) (turn_events n m p got)

-- where the tail is 0 nobody stands in the line
pub empty_unlisted : (n : TheNames) (In : ℕ → Type 0) (ws : List ℕ) (ph : ℕ → Phase) (l : List ℕ) (t : List Event) (e m : ℕ) →
    QueueGood n In ws ph l t e → slice_index ws n.tail ≡ 0 → Listed (ph m) → ⊥
empty_unlisted n In ws ph l t e m g z h = at l g.inv.line (g.inv.listed m h) where
  at : (k : List ℕ) → Line n.budget (lane_of n ws ph) k → Has m k → ⊥
  at [] line h = h
  at (x ∷ r) line h = let k = line.2 in absurd (omega arith)

-- an act of queue n leaves the head of queue o who it was
pub other_head_stays : (n o : TheNames) (In On : ℕ → Type 0) → AreApart n o In On →
    (ws : List ℕ) (ph qh : ℕ → Phase) (l k : List ℕ) (t : List Event) (e f m : ℕ) (p : Phase) (a : Act) →
    QueueGood n In ws ph l t e → QueueGood o On ws qh k t f → ph m ≡ p → plan_at n m p ≡ Some a →
    head_in (lane_of o (slice_set ws (word_of a) (written a (slice_index ws (word_of a)))) qh) k ≡ head_in (lane_of o ws qh) k
other_head_stays n o In On apart ws ph qh l k t e f m p a g h q pl =
    let place = act_place n In ws ph l t e m p a g q pl in
    same_head (lane_of o ws qh) (lane_of o (slice_set ws (word_of a) (written a (slice_index ws (word_of a)))) qh) k
    (λ x hx b.
    let i : On x = in_line o.budget On (lane_of o ws qh) k x h.inv hx in (
      refl,
      get_or-set_other ws (word_of a) (status_word o x) (written a (slice_index ws (word_of a))) 0
          (λ eq. apart.places (word_of a) place (inr (inr (x, (i, sym eq))))),
    ))
