-- What passes cost: each act of a queue with a budget takes the passes that it makes off the credit of the queue's head.
use Rattle.std.specs.Prelude.{◌≡◌, ℕ, zero, suc, ◌+◌, ◌-◌, ◌≤◌, ◌==◌, Bool, true, false, List, [], ◌∷◌, if◌then◌else◌, length, slice_index, slice_set, Option, Some, None, refl}
use Rattle.std.proofs.Common.{sym, ◌∙◌, ap, subst, arith}
use Rattle.rl_word.specs.Acts.{word_of, written, told}
use Rattle.rl_word.specs.declared.acts.Act.{Act}
use Rattle.rl_step.specs.declared.events.Event.{Event}
use Rattle.rl_step.specs.declared.events.Event.TheVariants as event
use Rattle.rl_step.specs.Queues.{passed}
use Rattle.rl_queue.specs.declared.view.Phase.{Phase}
use Rattle.rl_queue.specs.declared.view.Phase.TheVariants.{Idle, Swing, Link, Wait, Settle, Granted, Look, Close, Await, Hand, Above}
use Rattle.rl_queue.specs.laws.Choices.{choose, same_test}
use Rattle.rl_queue.specs.Queue.{TheNames, status_word, status_code, code_left, QueueTurn, moves_to, moves_with, waits_at, joined_at, look_at, hand_turn, plan_at, turn_at}
use Rattle.rl_queue.specs.Lane.{lane_of, credit, LineStep}
use Rattle.rl_queue.specs.QueueGood.{IsNaming, QueueGood, ActMoves}
use Rattle.rl_queue.specs.laws.QueueActs.{code_more, pass_more}
use Rattle.rl_queue.specs.Heads.{Head, head_in, head_credit, Spends}
use Rattle.rl_queue.specs.laws.QueueHeads.{head, HeadStep, head_act}
use Rattle.rl_queue.specs.laws.QueueServed.{wait_found}

same_spends : (x y : Option Head) → y ≡ x → Spends 0 x y
same_spends x y e = let k : head_credit y ≡ head_credit x = ap head_credit e in omega arith

less_spends : (x y : Option Head) (m : ℕ) (p q : Phase) (s : ℕ) → x ≡ head m p s → y ≡ head m q s → credit q s ≤ credit p s → Spends 0 x y
less_spends x y m p q s ex ey le =
    let a : head_credit x ≡ credit p s = ap head_credit ex in
    let b : head_credit y ≡ credit q s = ap head_credit ey in omega arith

-- looking for a successor costs nothing
look_credit : (left : ℕ) (u : Bool) (got s : ℕ) → credit (look_at left u got) s ≤ left
look_credit left false got s = choose (λ q. credit q s ≤ left) (got == 0) (Close left) (Hand (got - 1) left) (omega arith) (omega arith)
look_credit left true got s =
    choose (λ q. credit q s ≤ left) (got == 0) (Above None) (if left == 0 then Above (Some (got - 1)) else Hand (got - 1) left) (omega arith)
    (choose (λ q. credit q s ≤ left) (left == 0) (Above (Some (got - 1))) (Hand (got - 1) left) (omega arith) (omega arith))

-- a hand over with a pass costs that pass
pass_cost : (q b succ left : ℕ) → passed q (hand_turn q (Some b) succ left).events + (status_code (Some b) left - 2) ≤ left
pass_cost q b succ zero = omega arith
pass_cost q b succ (suc k) =
    let a : passed q (hand_turn q (Some b) succ (suc k)).events ≡ 1 = ap (λ z. passed q z.events) (pass_more q b succ k) ∙ one in
    let c : status_code (Some b) (suc k) ≡ suc (suc k) = code_more b k in omega arith where
      one : passed q (event.Pass q succ ∷ []) ≡ 1
      one = rw (same_test q)

module _ (n : TheNames) (In : ℕ → Type 0) where
  -- a turn that changes the head so spends no more than it had
  abbrev TurnSpends : ℕ → Phase → ℕ → Option Head → Option Head → QueueTurn → Type 0
  TurnSpends m p s x y u = HeadStep n.budget m p u.phase s x y → Spends (passed n.queue u.events) x y

  join_spends : (m guess s : ℕ) (x y : Option Head) → TurnSpends m (Swing guess) s x y (moves_with (joined_at guess) (event.Join n.queue m))
  join_spends m guess s x y =
      choose (λ q. TurnSpends m (Swing guess) s x y (moves_with q (event.Join n.queue m))) (guess == 0) Settle (Link guess)
      (λ f. let a : head_credit y ≡ 0 = ap head_credit f.1.1 in omega arith) (λ f. same_spends x y f)

  granted_spends : (m got s b : ℕ) (x y : Option Head) → n.budget ≡ Some b → got ≡ s → TurnSpends m Wait s x y (moves_to (Granted (code_left n.budget got)))
  granted_spends m got s b x y eb es f =
      let c : code_left n.budget got ≡ s - 2 = ap (λ z. code_left z got) eb ∙ ap (λ z. z - 2) es in
      less_spends x y m Wait (Granted (code_left n.budget got)) s f.0 f.1 (omega arith)

  hand_spends : (m succ left s b : ℕ) (x y : Option Head) → n.budget ≡ Some b → TurnSpends m (Hand succ left) s x y (hand_turn n.queue n.budget succ left)
  hand_spends m succ left s b x y eb f =
      let a : head_credit x ≡ left = ap head_credit f.0 in
      let c : head_credit y ≡ status_code n.budget left - 2 = ap head_credit f.1 in
      let k : passed n.queue (hand_turn n.queue n.budget succ left).events + (status_code n.budget left - 2) ≤ left =
      subst (λ z. passed n.queue (hand_turn n.queue z succ left).events + (status_code z left - 2) ≤ left) (sym eb) (pass_cost n.queue b succ left) in
      omega arith

  -- each turn of a member; one that waits has found its status
  turn_spends : (m : ℕ) (p : Phase) (got s b : ℕ) (x y : Option Head) → n.budget ≡ Some b → (p ≡ Wait → got ≡ s) → TurnSpends m p s x y (turn_at n m p got)
  turn_spends m (Swing guess) got s b x y eb es =
      choose (TurnSpends m (Swing guess) s x y) (got == guess) (moves_with (joined_at guess) (event.Join n.queue m)) (moves_to (Swing got))
      (join_spends m guess s x y) (λ f. same_spends x y f)
  turn_spends m Wait got s b x y eb es =
      choose (TurnSpends m Wait s x y) (got == 0) (waits_at Wait) (if got == 1 then moves_to Settle else moves_to (Granted (code_left n.budget got)))
      (λ f. same_spends x y f)
      (choose (TurnSpends m Wait s x y) (got == 1) (moves_to Settle) (moves_to (Granted (code_left n.budget got)))
      (λ f. less_spends x y m Wait Settle s f.0 f.1 (omega arith))
      (granted_spends m got s b x y eb (es refl)))
  turn_spends m (Look left u) got s b x y eb es = λ f. less_spends x y m (Look left u) (look_at left u got) s f.0 f.1 (look_credit left u got s)
  turn_spends m (Close left) got s b x y eb es =
      choose (TurnSpends m (Close left) s x y) (got == m + 1) (moves_to Idle) (moves_to (Await left))
      (λ f. let a : head_credit y ≡ 0 = ap head_credit f.1 in omega arith)
      (λ f. less_spends x y m (Close left) (Await left) s f.0 f.1 (omega arith))
  turn_spends m (Await left) got s b x y eb es =
      choose (TurnSpends m (Await left) s x y) (got == 0) (waits_at (Await left)) (moves_to (Hand (got - 1) left))
      (λ f. same_spends x y f)
      (λ f. less_spends x y m (Await left) (Hand (got - 1) left) s f.0 f.1 (omega arith))
  turn_spends m (Hand succ left) got s b x y eb es = hand_spends m succ left s b x y eb
  turn_spends m _ got s b x y eb es = λ f. same_spends x y f

  -- each planned act of a queue with a budget takes its passes off the head's credit: settling alone gives new credit
  pub act_spends : (ws : List ℕ) (ph ph' : ℕ → Phase) (l k : List ℕ) (t : List Event) (e m b : ℕ) (p : Phase) (a : Act) →
      IsNaming n In (length ws) → QueueGood n In ws ph l t e → ph m ≡ p → plan_at n m p ≡ Some a → n.budget ≡ Some b →
      ActMoves n In ws ph ph' m p a → LineStep m p (turn_at n m p (told a (slice_index ws (word_of a)))).phase l k →
      Spends (passed n.queue (turn_at n m p (told a (slice_index ws (word_of a)))).events) (head_in (lane_of n ws ph) l)
      (head_in (lane_of n (slice_set ws (word_of a) (written a (slice_index ws (word_of a)))) ph') k)
  act_spends ws ph ph' l k t e m b p a d g q pl eb mv step =
      turn_spends m p (told a (slice_index ws (word_of a))) (slice_index ws (status_word n m)) b (head_in (lane_of n ws ph) l)
      (head_in (lane_of n (slice_set ws (word_of a) (written a (slice_index ws (word_of a)))) ph') k) eb
      (λ w. wait_found n In ws m p a pl w)
      (head_act n In ws ph ph' l k t e m p a d g q pl mv step)
