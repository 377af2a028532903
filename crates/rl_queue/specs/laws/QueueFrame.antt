-- An act of one queue leaves all other queues as they were.
use Rattle.std.specs.Prelude.{◌≡◌, ◌≢◌, ℕ, zero, suc, ◌+◌, ◌-◌, ◌==◌, List, [], ◌∷◌, ◌++◌, if◌then◌else◌, slice_index, slice_set, Option, Some, None, refl}
use Rattle.std.proofs.Common.{sym, ap, subst, inl, inr, append_assoc, get_or-set_other, arith}
use Rattle.std.proofs.lemmas.Option.{same_Some}
use Rattle.rl_word.specs.Acts.{word_of, written, told}
use Rattle.rl_word.specs.declared.acts.Act.{Act}
use Rattle.rl_step.specs.declared.events.Event.{Event}
use Rattle.rl_step.specs.declared.events.Event.TheVariants as event
use Rattle.rl_queue.specs.declared.view.Phase.{Phase}
use Rattle.rl_queue.specs.declared.view.Phase.TheVariants.{Idle, Clear, Reset, Swing, Link, Wait, Settle, Granted, Look, Close, Await, Hand}
use Rattle.rl_queue.specs.laws.Choices.{choose}
use Rattle.rl_queue.specs.Queue.{TheNames, queue_next_word, status_word, code_left, plan_at, turn_at, moves_to, moves_with, waits_at, joined_at, hand_turn}
use Rattle.rl_queue.specs.Lane.{lane_of, Busy}
use Rattle.rl_queue.specs.laws.LaneLaws.{in_line}
use Rattle.rl_queue.specs.laws.LaneMoves.{link_guess}
use Rattle.rl_queue.specs.QueueGood.{QueueGood}
use Rattle.rl_queue.specs.laws.QueueLaws.{swap_word, still_keeps}
use Rattle.rl_queue.specs.laws.QueueActs.{no_event, pass_more}
use Rattle.rl_queue.specs.laws.QueueMoves.{hand_succ, beside_keeps}
use Rattle.rl_queue.specs.QueuesApart.{Place, AllApart, AreApart}

module _ (n : TheNames) (In : ℕ → Type 0) where
  -- an act is made on a word of its queue
  pub act_place : (ws : List ℕ) (ph : ℕ → Phase) (l : List ℕ) (t : List Event) (e m : ℕ) (p : Phase) (a : Act) →
      QueueGood n In ws ph l t e → ph m ≡ p → plan_at n m p ≡ Some a → Place n In (word_of a)
  act_place ws ph l t e m Clear a g q pl = subst (Place n In) (ap word_of (same_Some _ _ pl)) (inr (inl (m, (g.inv.inside m (subst Busy (sym q) tt), refl))))
  act_place ws ph l t e m Reset a g q pl = subst (Place n In) (ap word_of (same_Some _ _ pl)) (inr (inr (m, (g.inv.inside m (subst Busy (sym q) tt), refl))))
  act_place ws ph l t e m (Swing guess) a g q pl = subst (Place n In) (ap word_of (same_Some _ _ pl)) (inl (swap_word n.tail_class n.tail guess (m + 1)))
  act_place ws ph l t e m (Link guess) a g q pl =
      let k = link_guess n.budget In (lane_of n ws ph) l m guess g.inv q in
      subst (Place n In) (ap word_of (same_Some _ _ pl)) (inr (inl (guess - 1, (in_line n.budget In (lane_of n ws ph) l (guess - 1) g.inv k.0, refl))))
  act_place ws ph l t e m Wait a g q pl = subst (Place n In) (ap word_of (same_Some _ _ pl)) (inr (inr (m, (g.inv.inside m (subst Busy (sym q) tt), refl))))
  act_place ws ph l t e m (Look left u) a g q pl = subst (Place n In) (ap word_of (same_Some _ _ pl))
      (inr (inl (m, (g.inv.inside m (subst Busy (sym q) tt), refl))))
  act_place ws ph l t e m (Close left) a g q pl = subst (Place n In) (ap word_of (same_Some _ _ pl)) (inl (swap_word n.tail_class n.tail (m + 1) 0))
  act_place ws ph l t e m (Await left) a g q pl = subst (Place n In) (ap word_of (same_Some _ _ pl))
      (inr (inl (m, (g.inv.inside m (subst Busy (sym q) tt), refl))))
  act_place ws ph l t e m (Hand succ left) a g q pl = subst (Place n In) (ap word_of (same_Some _ _ pl))
      (inr (inr (succ, (hand_succ n In ws ph l t e m succ left g q, refl))))
  act_place ws ph l t e m _ a g q pl = cc

  -- handing over tells of its own queue alone
  hand_apart : (o : ℕ) (B : Option ℕ) (q : ℕ) (D : Option ℕ) (s left : ℕ) → q ≢ o → AllApart o B (hand_turn q D s left).events
  hand_apart o B q None s left ne = (ne, tt)
  hand_apart o B q (Some b) s zero ne = tt
  hand_apart o B q (Some b) s (suc k) ne = let a : AllApart o B (event.Pass q s ∷ []) = (ne, tt) in
      subst (λ z. AllApart o B z.events) (sym (pass_more q b s k)) a

  -- its events are of its queue
  pub turn_apart : (o : ℕ) (B : Option ℕ) (m : ℕ) (p : Phase) (got : ℕ) → n.queue ≢ o → AllApart o B (turn_at n m p got).events
  turn_apart o B m (Swing guess) got ne = choose (λ z. AllApart o B z.events) (got == guess)
      (moves_with (joined_at guess) (event.Join n.queue m)) (moves_to (Swing got)) (ne, tt) tt
  turn_apart o B m Wait got ne = choose (λ z. AllApart o B z.events) (got == 0) (waits_at Wait)
      (if got == 1 then moves_to Settle else moves_to (Granted (code_left n.budget got))) tt
      (choose (λ z. AllApart o B z.events) (got == 1) (moves_to Settle) (moves_to (Granted (code_left n.budget got))) tt tt)
  turn_apart o B m (Close left) got ne = choose (λ z. AllApart o B z.events) (got == m + 1) (moves_to Idle) (moves_to (Await left)) tt tt
  turn_apart o B m (Await left) got ne = choose (λ z. AllApart o B z.events) (got == 0) (waits_at (Await left)) (moves_to (Hand (got - 1) left)) tt tt
  turn_apart o B m (Hand succ left) got ne = hand_apart o B n.queue n.budget succ left ne
  turn_apart o B m _ got ne = tt

  -- before any event a queue that nobody uses is good, where its tail is 0
  pub begins_good : (ws : List ℕ) → slice_index ws n.tail ≡ 0 → QueueGood n In ws (λ m. Idle) [] [] 0
  begins_good ws empty =
      record {
        inv = record { distinct = tt; listed = λ m h. absurd h; only = λ m h. absurd h; line = empty; own = λ m. tt; inside = λ m b. absurd b };
        alone = λ m h. tt;
        awaited = λ m x. absurd x;
        says = record { fifo = refl; tenure = refl; within = λ b e. (tt, omega arith) };
      }

  -- so a write elsewhere leaves the queue as it was
  pub elsewhere_keeps : (ws : List ℕ) (ph : ℕ → Phase) (l : List ℕ) (t : List Event) (e w v : ℕ) → QueueGood n In ws ph l t e →
      (Place n In w → ⊥) → QueueGood n In (slice_set ws w v) ph l t e
  elsewhere_keeps ws ph l t e w v g out =
      still_keeps n In ws (slice_set ws w v) ph ph l t e g (λ x. refl)
      (get_or-set_other ws w n.tail v 0 (λ k. out (inl (sym k))))
      (λ x i. get_or-set_other ws w (queue_next_word n x) v 0 (λ k. out (inr (inl (x, (i, sym k))))))
      (λ x i. get_or-set_other ws w (status_word n x) v 0 (λ k. out (inr (inr (x, (i, sym k))))))

  -- events of others leave the queue as it was
  pub beside_all_keep : (ws : List ℕ) (ph : ℕ → Phase) (l : List ℕ) (t es : List Event) (e : ℕ) → QueueGood n In ws ph l t e →
      AllApart n.queue n.budget es → QueueGood n In ws ph l (t ++ es) e
  beside_all_keep ws ph l t [] e g a = no_event n In ws ph l t e g
  beside_all_keep ws ph l t (ev ∷ es) e g a =
      subst (λ z. QueueGood n In ws ph l z e) (append_assoc t (ev ∷ []) es)
      (beside_all_keep ws ph l (t ++ ev ∷ []) es e (beside_keeps n In ws ph l t e ev g a.0) a.1)

-- an act of queue n leaves queue o good, with the same line
pub other_queue_keeps : (n o : TheNames) (In On : ℕ → Type 0) → AreApart n o In On →
    (ws : List ℕ) (ph qh : ℕ → Phase) (l k : List ℕ) (t : List Event) (e f m : ℕ) (p : Phase) (a : Act) →
    QueueGood n In ws ph l t e → QueueGood o On ws qh k t f → ph m ≡ p → plan_at n m p ≡ Some a →
    QueueGood o On (slice_set ws (word_of a) (written a (slice_index ws (word_of a)))) qh k
    (t ++ (turn_at n m p (told a (slice_index ws (word_of a)))).events) f
other_queue_keeps n o In On apart ws ph qh l k t e f m p a g h q pl =
    beside_all_keep o On (slice_set ws (word_of a) (written a (slice_index ws (word_of a)))) qh k t
    (turn_at n m p (told a (slice_index ws (word_of a)))).events f
    (elsewhere_keeps o On ws qh k t f (word_of a) (written a (slice_index ws (word_of a))) h
    (λ w. apart.places (word_of a) (act_place n In ws ph l t e m p a g q pl) w))
    (turn_apart n In o.queue o.budget m p (told a (slice_index ws (word_of a))) apart.numbers)
