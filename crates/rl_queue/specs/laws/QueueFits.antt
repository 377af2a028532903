-- A good queue meets the conditions of the calls; and where a member is alone, its compares succeed and it never waits.
use Rattle.std.specs.Prelude.{◌↔◌, ◌≡◌, ℕ, zero, suc, ◌+◌, ◌-◌, ◌<◌, ◌≤◌, ◌==◌, if◌then◌else◌, true, false, List, ◌∷◌, length, slice_index, Option, Some, None, refl, ◌^◌}
use Rattle.std.proofs.Common.{sym, ◌∙◌, ap, subst, inl, inr, arith}
use Rattle.std.proofs.lemmas.Option.{same_Some}
use Rattle.rl_word.specs.Acts.{word_of, told}
use Rattle.rl_word.specs.declared.acts.Act.{Act}
use Rattle.rl_step.specs.declared.events.Event.{Event}
use Rattle.rl_step.specs.declared.events.Event.TheVariants as event
use Rattle.rl_step.specs.Lock.{FindsOld, PlansLoad}
use Rattle.rl_queue.specs.declared.view.Phase.{Phase}
use Rattle.rl_queue.specs.declared.view.Phase.TheVariants.{Idle, Swing, Link, Wait, Settle, Granted, Look, Close, Await, Hand, Above}
use Rattle.rl_queue.specs.laws.Choices.{choose}
use Rattle.rl_queue.specs.Queue.{stage_at, full_budget, TheNames, queue_next_word, status_word, plan_at, turn_at, moves_to, moves_with, waits_at, code_left, joined_at, hand_turn, PlanFits, PhaseFits, GotFits, MakesActs}
use Rattle.rl_queue.specs.Lane.{Own, told_left, lane_of, Has, last_of, Listed, IsCode, QueueInvariant, SuitsAlone, IsAlone, IsFirst}
use Rattle.rl_queue.specs.laws.LineLaws.{has_last_of, chain_next}
use Rattle.rl_queue.specs.laws.LaneLaws.{in_line, is_first}
use Rattle.rl_queue.specs.laws.LaneMoves.{link_guess}
use Rattle.rl_queue.specs.QueueGood.{QueueGood}
use Rattle.rl_queue.specs.laws.QueueLaws.{swap_word}
use Rattle.rl_queue.specs.laws.QueueActs.{tail_last, first_code, pass_more}
use Rattle.rl_queue.specs.laws.QueueMoves.{hand_succ, swap_finds}

module _ (n : TheNames) (In : ℕ → Type 0) where
  -- a member of a good queue, in any phase, meets the condition of queue_plan
  pub plan_fits : (ws : List ℕ) (ph : ℕ → Phase) (l : List ℕ) (t : List Event) (e m : ℕ) (p : Phase) → QueueGood n In ws ph l t e →
      ph m ≡ p → In m → length n.status ≡ length n.next → ((x : ℕ) → In x → x < length n.next) → PlanFits n m p
  plan_fits ws ph l t e m p g ep i alike there = record { alike = alike; named = there m i; phase = at p ep } where
    at : (p : Phase) → ph m ≡ p → PhaseFits (length n.next) p
    at (Link guess) q = let k = link_guess n.budget In (lane_of n ws ph) l m guess g.inv q in
        (k.1, there (guess - 1) (in_line n.budget In (lane_of n ws ph) l (guess - 1) g.inv k.0))
    at (Hand s left) q = there s (hand_succ n In ws ph l t e m s left g q)
    at _ q = tt

  -- a first member's next word is 0 or names a member
  next_names : (ws : List ℕ) (ph : ℕ → Phase) (l : List ℕ) (t : List Event) (e m s : ℕ) → QueueGood n In ws ph l t e →
      IsFirst (ph m) (slice_index ws (status_word n m)) → slice_index ws (queue_next_word n m) ≡ s + 1 → In s
  next_names ws ph l t e m s g first es =
      let a = is_first n.budget In (lane_of n ws ph) l m g.inv first in
      let g1 : QueueInvariant n.budget In (lane_of n ws ph) (m ∷ a.0) = subst (λ z. QueueInvariant n.budget In (lane_of n ws ph) z) a.1 g.inv in
      let c = chain_next (lane_of n ws ph) m s a.0 g1.line.1 es in
      let h : Has s l = subst (λ z. Has s z) (sym (a.1 ∙ ap (λ z. m ∷ z) c.1)) (inr (inl refl)) in
      in_line n.budget In (lane_of n ws ph) l s g.inv h

  -- so that word is small
  next_small : (ws : List ℕ) (ph : ℕ → Phase) (l : List ℕ) (t : List Event) (e m size : ℕ) → QueueGood n In ws ph l t e →
      IsFirst (ph m) (slice_index ws (status_word n m)) → ((x : ℕ) → In x → x < size) → slice_index ws (queue_next_word n m) < size + 1
  next_small ws ph l t e m size g first small = at (slice_index ws (queue_next_word n m)) refl where
    at : (x : ℕ) → slice_index ws (queue_next_word n m) ≡ x → slice_index ws (queue_next_word n m) < size + 1
    at zero ex = omega arith
    at (suc s) ex =
        let es : slice_index ws (queue_next_word n m) ≡ s + 1 = omega arith in
        let k : s < size = small s (next_names ws ph l t e m s g first es) in omega arith

  -- a code is small
  code_small : (B : Option ℕ) (s : ℕ) → IsCode B s → ((b : ℕ) → B ≡ Some b → b < 2 ^ 32) → s < 2 ^ 32 + 2
  code_small None s c f = omega arith
  code_small (Some b) s c f = let k : b < 2 ^ 32 = f b refl in let j : s ≤ b + 1 = c.1 in omega arith

  -- and what its act finds meets the condition of queue_learn
  pub learn_fits : (ws : List ℕ) (ph : ℕ → Phase) (l : List ℕ) (t : List Event) (e m : ℕ) (p : Phase) (a : Act) →
      QueueGood n In ws ph l t e → ph m ≡ p → plan_at n m p ≡ Some a →
      ((x : ℕ) → In x → x < 2 ^ 32) → ((b : ℕ) → n.budget ≡ Some b → b < 2 ^ 32) → GotFits p (told a (slice_index ws (word_of a)))
  learn_fits ws ph l t e m Wait a g q pl small few =
      subst (λ b. GotFits Wait (told b (slice_index ws (word_of b)))) (same_Some _ _ pl) (at (slice_index ws (status_word n m)) refl) where
        at : (s : ℕ) → slice_index ws (status_word n m) ≡ s → slice_index ws (status_word n m) < 2 ^ 32 + 2
        at zero es = omega arith
        at (suc s) es = let pos : 0 < slice_index ws (status_word n m) = omega arith in
            code_small n.budget (slice_index ws (status_word n m)) (first_code n In ws ph l t e m g q pos) few
  learn_fits ws ph l t e m (Look left u) a g q pl small few =
      subst (λ b. GotFits (Look left u) (told b (slice_index ws (word_of b)))) (same_Some _ _ pl)
      (next_small ws ph l t e m (2 ^ 32) g (subst (λ z. IsFirst z (slice_index ws (status_word n m))) (sym q) tt) small)
  learn_fits ws ph l t e m (Await left) a g q pl small few =
      subst (λ b. GotFits (Await left) (told b (slice_index ws (word_of b)))) (same_Some _ _ pl)
      (next_small ws ph l t e m (2 ^ 32) g (subst (λ z. IsFirst z (slice_index ws (status_word n m))) (sym q) tt) small)
  learn_fits ws ph l t e m _ a g q pl small few = tt

  -- where m is the only member, its compare-and-swaps find what they compare with
  alone_tail : (ws : List ℕ) (ph : ℕ → Phase) (l : List ℕ) (t : List Event) (e m : ℕ) → QueueGood n In ws ph l t e → IsAlone In m →
      (Listed (ph m) → ⊥) → slice_index ws n.tail ≡ 0
  alone_tail ws ph l t e m g alone out = at (slice_index ws n.tail) refl where
    at : (z : ℕ) → slice_index ws n.tail ≡ z → slice_index ws n.tail ≡ 0
    at zero ez = ez
    at (suc z) ez =
        let pos : 0 < slice_index ws n.tail = omega arith in
        let h : Has (slice_index ws n.tail - 1) l = tail_last n In ws ph l t e g pos in
        let same : slice_index ws n.tail - 1 ≡ m = alone _ (in_line n.budget In (lane_of n ws ph) l (slice_index ws n.tail - 1) g.inv h) in
        absurd (out (g.inv.only m (subst (λ y. Has y l) same h)))

  alone_close : (ws : List ℕ) (ph : ℕ → Phase) (l : List ℕ) (t : List Event) (e m left : ℕ) → QueueGood n In ws ph l t e → IsAlone In m →
      ph m ≡ Close left → slice_index ws n.tail ≡ m + 1
  alone_close ws ph l t e m left g alone q =
      let a = is_first n.budget In (lane_of n ws ph) l m g.inv (subst (λ z. IsFirst z (slice_index ws (status_word n m))) (sym q) tt) in
      let g1 : QueueInvariant n.budget In (lane_of n ws ph) (m ∷ a.0) = subst (λ z. QueueInvariant n.budget In (lane_of n ws ph) z) a.1 g.inv in
      let last : last_of m a.0 ≡ m = alone _ (in_line n.budget In (lane_of n ws ph) (m ∷ a.0) (last_of m a.0) g1 (has_last_of m a.0)) in
      g1.line.2 ∙ ap (λ z. z + 1) last

  -- a member that is alone finds with a compare-and-swap what it compares with
  pub alone_finds : (ws : List ℕ) (ph : ℕ → Phase) (l : List ℕ) (t : List Event) (e m : ℕ) (p : Phase) (a : Act) →
      QueueGood n In ws ph l t e → IsAlone In m → ph m ≡ p → plan_at n m p ≡ Some a → FindsOld a (slice_index ws (word_of a))
  alone_finds ws ph l t e m Idle a g alone q pl = cc
  alone_finds ws ph l t e m (Swing guess) a g alone q pl =
      let zero_guess : guess ≡ 0 = subst SuitsAlone q (g.alone m alone) in
      let z : slice_index ws n.tail ≡ guess = alone_tail ws ph l t e m g alone (λ h. subst Listed q h) ∙ sym zero_guess in
      subst (λ b. FindsOld b (slice_index ws (word_of b))) (same_Some _ _ pl)
      (swap_finds n.tail_class n.tail guess (m + 1) _ (ap (slice_index ws) (swap_word n.tail_class n.tail guess (m + 1)) ∙ z))
  alone_finds ws ph l t e m Settle a g alone q pl = cc
  alone_finds ws ph l t e m (Granted left) a g alone q pl = cc
  alone_finds ws ph l t e m (Close left) a g alone q pl =
      subst (λ b. FindsOld b (slice_index ws (word_of b))) (same_Some _ _ pl)
      (swap_finds n.tail_class n.tail (m + 1) 0 _ (ap (slice_index ws) (swap_word n.tail_class n.tail (m + 1) 0) ∙ alone_close ws ph l t e m left g alone q))
  alone_finds ws ph l t e m (Above s) a g alone q pl = cc
  alone_finds ws ph l t e m _ a g alone q pl = subst (λ b. FindsOld b (slice_index ws (word_of b))) (same_Some _ _ pl) tt

  -- handing over doesn't wait
  hand_goes : (q : ℕ) (B : Option ℕ) (s left : ℕ) → (hand_turn q B s left).waits ≡ false
  hand_goes q None s left = refl
  hand_goes q (Some b) s zero = refl
  hand_goes q (Some b) s (suc k) = ap (λ z. z.waits) (pass_more q b s k)

  -- and it waits for nobody
  pub alone_moves_on : (m : ℕ) (p : Phase) (got : ℕ) → SuitsAlone p → (turn_at n m p got).waits ≡ false
  alone_moves_on m (Swing guess) got s = choose (λ z. z.waits ≡ false) (got == guess) (moves_with (joined_at guess) (event.Join n.queue m))
      (moves_to (Swing got)) refl refl
  alone_moves_on m Wait got s = absurd s
  alone_moves_on m (Close left) got s = choose (λ z. z.waits ≡ false) (got == m + 1) (moves_to Idle) (moves_to (Await left)) refl refl
  alone_moves_on m (Await left) got s = absurd s
  alone_moves_on m (Hand succ left) got s = hand_goes n.queue n.budget succ left
  alone_moves_on m _ got s = refl

  -- a member has to wait on after a load alone, and stands at that load again
  pub waits_on : (m : ℕ) (p : Phase) (got : ℕ) → (turn_at n m p got).waits ≡ true → ((turn_at n m p got).phase ≡ p) × PlansLoad (plan_at n m p)
  waits_on m (Swing guess) got e = choose (λ z. z.waits ≡ true → (z.phase ≡ Swing guess) × PlansLoad (plan_at n m (Swing guess)))
      (got == guess) (moves_with (joined_at guess) (event.Join n.queue m)) (moves_to (Swing got)) (λ e. cc) (λ e. cc) e
  waits_on m Wait got e =
      choose (λ z. z.waits ≡ true → (z.phase ≡ Wait) × Unit {0}) (got == 0) (waits_at Wait)
      (if got == 1 then moves_to Settle else moves_to (Granted (code_left n.budget got))) (λ e. (refl, tt))
      (choose (λ z. z.waits ≡ true → (z.phase ≡ Wait) × Unit {0}) (got == 1) (moves_to Settle) (moves_to (Granted (code_left n.budget got)))
      (λ e. cc) (λ e. cc)) e
  waits_on m (Close left) got e = choose (λ z. z.waits ≡ true → (z.phase ≡ Close left) × PlansLoad (plan_at n m (Close left)))
      (got == m + 1) (moves_to Idle) (moves_to (Await left)) (λ e. cc) (λ e. cc) e
  waits_on m (Await left) got e = choose (λ z. z.waits ≡ true → (z.phase ≡ Await left) × Unit {0}) (got == 0) (waits_at (Await left))
      (moves_to (Hand (got - 1) left)) (λ e. (refl, tt)) (λ e. cc) e
  waits_on m (Hand succ left) got e = let bad : false ≡ true = sym (hand_goes n.queue n.budget succ left) ∙ e in cc
  waits_on m _ got e = cc

pub plans_where : (n : TheNames) (m : ℕ) (p : Phase) → (plan_at n m p ≡ None) ↔ (MakesActs (stage_at p) → ⊥)
plans_where n m Idle = (λ e a. a, λ f. refl)
plans_where n m Settle = (λ e a. a, λ f. refl)
plans_where n m (Granted left) = (λ e a. a, λ f. refl)
plans_where n m (Above succ) = (λ e a. a, λ f. refl)
plans_where n m _ = (λ e a. cc, λ f. absurd (f tt))

-- the passes that a holder has left are those that its status tells, and are within the budget
pub holder_told : (n : TheNames) (In : ℕ → Type 0) (ws : List ℕ) (ph : ℕ → Phase) (l : List ℕ) (t : List Event) (e m left : ℕ) →
    QueueGood n In ws ph l t e → ph m ≡ Granted left →
    (left ≤ full_budget n.budget) × (left ≡ told_left n.budget (slice_index ws (status_word n m)))
holder_told n In ws ph l t e m left g q =
    subst (λ z. Own n.budget In z (slice_index ws (queue_next_word n m)) (slice_index ws (status_word n m))) q (g.inv.own m)
