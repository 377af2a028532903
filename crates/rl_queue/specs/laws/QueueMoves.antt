-- Handing over; each planned act and each move that is no act keeps a queue good; and what follows for its trace.
use Rattle.std.specs.Prelude.{◌≡◌, ◌≢◌, ◌⊎◌, ℕ, zero, suc, ◌+◌, ◌-◌, ◌≤◌, ◌==◌, Bool, true, false, List, [], ◌∷◌, ◌++◌, length, if◌then◌else◌, slice_index, slice_set, Option, Some, None, refl}
use Rattle.std.proofs.Common.{sym, ◌∙◌, ap, subst, inl, inr, ⊎_elim, arith}
use Rattle.std.proofs.lemmas.List.{append-nil, set-get_or}
use Rattle.std.proofs.lemmas.Option.{same_Some}
use Rattle.std.proofs.lemmas.Bool.Decides.{eqb_tells}
use Rattle.rl_word.specs.Acts.{word_of, written, told}
use Rattle.rl_word.specs.declared.acts.Act.{Act}
use Rattle.rl_word.specs.declared.classes.Class.{Class}
use Rattle.rl_word.specs.declared.classes.Class.TheVariants as class
use Rattle.rl_step.specs.declared.events.Event.{Event}
use Rattle.rl_step.specs.declared.events.Event.TheVariants as event
use Rattle.rl_step.specs.Queues.{count, IsFifo, IsWithin, settled, passed}
use Rattle.rl_step.specs.laws.QueueLemmas.{is_within}
use Rattle.rl_step.specs.Lock.{FindsOld}
use Rattle.rl_queue.specs.declared.view.Phase.{Phase}
use Rattle.rl_queue.specs.declared.view.Phase.TheVariants.{Idle, Clear, Reset, Swing, Link, Wait, Settle, Granted, Look, Close, Await, Hand, Above}
use Rattle.rl_queue.specs.Queue.{TheNames, queue_next_word, status_word, full_budget, status_code, swap_act, plan_at, turn_at, moves_to, moves_with, joined_at, hand_turn, resume_at, settled_at}
use Rattle.rl_queue.specs.Lane.{Lane, lane_of, Has, Listed, IsCode, Own, QueueInvariant, is_pass, rest_if, waits_in, credit_in, held_in, QueueTrace, IsFirst}
use Rattle.rl_queue.specs.laws.LineLaws.{chain_next}
use Rattle.rl_queue.specs.QueuesApart.{Apart}
use Rattle.rl_queue.specs.laws.TraceLaws.{trace_quiet, trace_settle, trace_pass, trace_leave, trace_leave_quiet, trace_apart}
use Rattle.rl_queue.specs.laws.LaneLaws.{in_line, is_first}
use Rattle.rl_queue.specs.laws.LaneMoves.{hand_moves}
use Rattle.rl_queue.specs.QueueGood.{IsNaming, Moves, QueueGood, QueueGoes, ActMoves, ActGoes}
use Rattle.rl_queue.specs.laws.QueueLaws.{says_first, first_says, status_write, alone_moves, awaited_stays, outside_keeps, first_keeps}
use Rattle.rl_queue.specs.laws.QueueActs.{own_in, clear_act, reset_act, swing_lost, swing_won, link_act, wait_act, go_on, look_act, close_won, close_lost, await_act, code_more, pass_more, told_whole}

-- who hands the queue over is idle then
pub hand_idle : (q : ℕ) (B : Option ℕ) (s left : ℕ) → (hand_turn q B s left).phase ≡ Idle
hand_idle q None s left = refl
hand_idle q (Some b) s zero = refl
hand_idle q (Some b) s (suc k) = ap (λ z. z.phase) (pass_more q b s k)

-- what is handed on is a code
pub is_code : (B : Option ℕ) (left : ℕ) → left ≤ full_budget B → IsCode B (status_code B left)
is_code None left h = refl
is_code (Some b) zero h = (omega arith, omega arith)
is_code (Some b) (suc k) h = let c : IsCode (Some b) (suc (suc k)) = (omega arith, omega arith) in subst (IsCode (Some b)) (sym (code_more b k)) c

-- what the trace says once the queue was handed to s: passed to it, or left to it to settle
pub hand_says : (q : ℕ) (B : Option ℕ) (t : List Event) (e s : ℕ) (r : List ℕ) (left : ℕ) → QueueTrace q B t e (s ∷ r) left 0 →
    QueueTrace q B (t ++ (hand_turn q B s left).events) e (rest_if (is_pass (status_code B left)) s r) (status_code B left - 2)
    (count (is_pass (status_code B left)))
hand_says q None t e s r left k = trace_pass q None t e left 0 r s k (λ b eb. cc)
hand_says q (Some b) t e s r zero k = trace_quiet q (Some b) t e 0 0 0 (s ∷ r) k (omega arith)
hand_says q (Some b) t e s r (suc j) k =
    subst (λ z. QueueTrace q (Some b) (t ++ z.events) e (rest_if (is_pass (status_code (Some b) (suc j))) s r)
    (status_code (Some b) (suc j) - 2) (count (is_pass (status_code (Some b) (suc j))))) (sym (pass_more q b s j))
    (subst (λ z. QueueTrace q (Some b) (t ++ event.Pass q s ∷ []) e (rest_if (is_pass z) s r) (z - 2) (count (is_pass z))) (sym (code_more b j))
    (trace_pass q (Some b) t e (suc j) (suc (suc j) - 2) r s k (λ d ed. omega arith)))

-- what holds of a compare-and-swap holds whatever its class
pub at_swap : (P : ℕ → ℕ → ℕ → Type 0) (ws : List ℕ) (c : Class) (w old new : ℕ) →
    P w (if slice_index ws w == old then new else slice_index ws w) (slice_index ws w) →
    P (word_of (swap_act c w old new)) (written (swap_act c w old new) (slice_index ws (word_of (swap_act c w old new))))
    (told (swap_act c w old new) (slice_index ws (word_of (swap_act c w old new))))
at_swap P ws class.Local w old new h = h
at_swap P ws class.Card w old new h = h
at_swap P ws class.Plain w old new h = h
at_swap P ws class.Fixed w old new h = h

-- a compare-and-swap of any class finds its old value where its word has it
pub swap_finds : (c : Class) (w old new g : ℕ) → g ≡ old → FindsOld (swap_act c w old new) g
swap_finds class.Local w old new g e = e
swap_finds class.Card w old new g e = e
swap_finds class.Plain w old new g e = e
swap_finds class.Fixed w old new g e = e

module _ (n : TheNames) (In : ℕ → Type 0) where
  -- the successor of one that hands over
  pub hand_succ : (ws : List ℕ) (ph : ℕ → Phase) (l : List ℕ) (t : List Event) (e m s left : ℕ) → QueueGood n In ws ph l t e → ph m ≡ Hand s left → In s
  hand_succ ws ph l t e m s left g eh =
      let L : Lane = lane_of n ws ph in
      let a = is_first n.budget In (lane_of n ws ph) l m g.inv (subst (λ z. IsFirst z (slice_index ws (status_word n m))) (sym eh) tt) in
      let g1 : QueueInvariant n.budget In (lane_of n ws ph) (m ∷ a.0) = subst (λ z. QueueInvariant n.budget In (lane_of n ws ph) z) a.1 g.inv in
      let o : Own n.budget In (Hand s left) (slice_index ws (queue_next_word n m)) (slice_index ws (status_word n m)) =
      subst (λ z. Own n.budget In z (slice_index ws (queue_next_word n m)) (slice_index ws (status_word n m))) eh (g.inv.own m) in
      let c = chain_next (lane_of n ws ph) m s a.0 g1.line.1 o.1 in
      let h : Has s l = subst (λ z. Has s z) (sym (a.1 ∙ ap (λ z. m ∷ z) c.1)) (inr (inl refl)) in
      in_line n.budget In (lane_of n ws ph) l s g.inv h

  -- a leaver hands the queue to its successor
  pub hand_act : (ws : List ℕ) (ph ph' : ℕ → Phase) (l : List ℕ) (t : List Event) (e m s left : ℕ) → IsNaming n In (length ws) →
      QueueGood n In ws ph l t e → Moves ph ph' m (Hand s left) (hand_turn n.queue n.budget s left).phase →
      QueueGoes n In m (Hand s left) (hand_turn n.queue n.budget s left).phase l
      (slice_set ws (status_word n s) (status_code n.budget left)) ph' (t ++ (hand_turn n.queue n.budget s left).events) e
  hand_act ws ph ph' l t e m s left d g mv0 =
      let mv : Moves ph ph' m (Hand s left) Idle = record { was = mv0.was; now = mv0.now ∙ hand_idle n.queue n.budget s left; others = mv0.others } in
      let i : In s = hand_succ ws ph l t e m s left g mv.was in
      let w = status_write n In ws ph ph' s (status_code n.budget left) d i in
      let M : Lane = lane_of n (slice_set ws (status_word n s) (status_code n.budget left)) ph' in
      let o = own_in n In ws ph ph' l t e m (Hand s left) Idle g mv in
      let new = hand_moves n.budget In (lane_of n ws ph) M l m s left (status_code n.budget left) g.inv mv.was (is_code n.budget left o.0) mv.now w.tail (λ j. w.here) (λ x j ne. w.status x j ne) (λ x j. w.next x j) mv.others in
      let old : QueueTrace n.queue n.budget t e (waits_in (lane_of n ws ph) (m ∷ s ∷ new.0)) (credit_in (lane_of n ws ph) (m ∷ s ∷ new.0))
      (held_in (lane_of n ws ph) (m ∷ s ∷ new.0)) =
      subst (λ z. QueueTrace n.queue n.budget t e (waits_in (lane_of n ws ph) z) (credit_in (lane_of n ws ph) z) (held_in (lane_of n ws ph) z)) new.1 g.says in
      let at_hand : QueueTrace n.queue n.budget t e (s ∷ new.0) left 0 =
      first_says n.queue n.budget (lane_of n ws ph) m (s ∷ new.0) t e (Hand s left) _ mv.was refl old in (
        s ∷ new.0,
        record {
          inv = new.6;
          alone = alone_moves n In ph ph' m (Hand s left) Idle mv g.alone (λ a k. tt);
          awaited = awaited_stays n In ws (slice_set ws (status_word n s) (status_code n.budget left)) ph ph' m
              (Hand s left) Idle mv g.awaited w.tail (λ x. absurd x);
          says = says_first n.queue n.budget M s new.0 (t ++ (hand_turn n.queue n.budget s left).events) e Wait
              (status_code n.budget left) new.4 new.5 (hand_says n.queue n.budget t e s new.0 left at_hand);
        },
        (new.0, (new.1, refl)),
      )

  -- by the test of a compare-and-swap
  swing_by : (ws : List ℕ) (ph ph' : ℕ → Phase) (l : List ℕ) (t : List Event) (e m guess : ℕ) (b : Bool) → IsNaming n In (length ws) →
      QueueGood n In ws ph l t e →
      ((b ≡ true) × (slice_index ws n.tail ≡ guess)) ⊎ ((b ≡ false) × (slice_index ws n.tail ≢ guess)) →
      Moves ph ph' m (Swing guess) (if b then moves_with (joined_at guess) (event.Join n.queue m) else moves_to (Swing (slice_index ws n.tail))).phase →
      QueueGoes n In m (Swing guess) (if b then moves_with (joined_at guess) (event.Join n.queue m) else moves_to
      (Swing (slice_index ws n.tail))).phase l (slice_set ws n.tail (if b then m + 1 else slice_index ws n.tail)) ph'
      (t ++ (if b then moves_with (joined_at guess) (event.Join n.queue m) else moves_to (Swing (slice_index ws n.tail))).events) e
  swing_by ws ph ph' l t e m guess true d g c mv = ⊎_elim (λ q. swing_won n In ws ph ph' l t e m guess d g q.1 mv) (λ q. absurd (cc q.0)) c
  swing_by ws ph ph' l t e m guess false d g c mv =
      (l, subst (λ z. QueueGood n In z ph' l (t ++ []) e) (sym (set-get_or ws n.tail 0)) (swing_lost n In ws ph ph' l t e m guess g mv), refl)

  close_by : (ws : List ℕ) (ph ph' : ℕ → Phase) (l : List ℕ) (t : List Event) (e m left : ℕ) (b : Bool) → IsNaming n In (length ws) →
      QueueGood n In ws ph l t e →
      ((b ≡ true) × (slice_index ws n.tail ≡ m + 1)) ⊎ ((b ≡ false) × (slice_index ws n.tail ≢ m + 1)) →
      Moves ph ph' m (Close left) (if b then moves_to Idle else moves_to (Await left)).phase →
      QueueGoes n In m (Close left) (if b then moves_to Idle else moves_to (Await left)).phase l
      (slice_set ws n.tail (if b then 0 else slice_index ws n.tail)) ph'
      (t ++ (if b then moves_to Idle else moves_to (Await left)).events) e
  close_by ws ph ph' l t e m left true d g c mv = ⊎_elim (λ q. close_won n In ws ph ph' l t e m left d g q.1 mv) (λ q. absurd (cc q.0)) c
  close_by ws ph ph' l t e m left false d g c mv =
      ⊎_elim (λ q. absurd (cc q.0))
      (λ q. (l, subst (λ z. QueueGood n In z ph' l (t ++ []) e) (sym (set-get_or ws n.tail 0)) (close_lost n In ws ph ph' l t e m left g q.1 mv), refl)) c

  -- each planned act keeps the queue good, its trace, and the line but for the step that LineStep says
  pub act_keeps : (ws : List ℕ) (ph ph' : ℕ → Phase) (l : List ℕ) (t : List Event) (e m : ℕ) (p : Phase) (a : Act) →
      IsNaming n In (length ws) → QueueGood n In ws ph l t e → plan_at n m p ≡ Some a →
      ActMoves n In ws ph ph' m p a → ActGoes n In l ws ph' t e m p a
  act_keeps ws ph ph' l t e m Clear a d g pl =
      subst (λ b. (ActMoves n In) ws ph ph' m Clear b → ActGoes n In l ws ph' t e m Clear b) (same_Some _ _ pl) (λ mv. clear_act n In ws ph ph' l t e m d g mv)
  act_keeps ws ph ph' l t e m Reset a d g pl =
      subst (λ b. (ActMoves n In) ws ph ph' m Reset b → ActGoes n In l ws ph' t e m Reset b) (same_Some _ _ pl) (λ mv. reset_act n In ws ph ph' l t e m d g mv)
  act_keeps ws ph ph' l t e m (Swing guess) a d g pl =
      subst (λ b. (ActMoves n In) ws ph ph' m (Swing guess) b → ActGoes n In l ws ph' t e m (Swing guess) b) (same_Some _ _ pl)
      (at_swap (λ w v k. Moves ph ph' m (Swing guess) (turn_at n m (Swing guess) k).phase → QueueGoes n In m (Swing guess)
      (turn_at n m (Swing guess) k).phase l (slice_set ws w v) ph' (t ++ (turn_at n m (Swing guess) k).events) e) ws n.tail_class n.tail
      guess (m + 1)
      (λ mv. swing_by ws ph ph' l t e m guess (slice_index ws n.tail == guess) d g (eqb_tells (slice_index ws n.tail) guess) mv))
  act_keeps ws ph ph' l t e m (Link guess) a d g pl =
      subst (λ b. (ActMoves n In) ws ph ph' m (Link guess) b → ActGoes n In l ws ph' t e m (Link guess) b) (same_Some _ _ pl)
      (λ mv. link_act n In ws ph ph' l t e m guess d g mv)
  act_keeps ws ph ph' l t e m Wait a d g pl =
      subst (λ b. (ActMoves n In) ws ph ph' m Wait b → ActGoes n In l ws ph' t e m Wait b) (same_Some _ _ pl)
      (λ mv. (
        l,
        subst (λ z. QueueGood n In z ph' l (t ++ (turn_at n m Wait (slice_index ws (status_word n m))).events) e)
            (sym (set-get_or ws (status_word n m) 0)) (wait_act n In ws ph ph' l t e m (slice_index ws (status_word n m)) g refl mv),
        refl,
      ))
  act_keeps ws ph ph' l t e m (Look left u) a d g pl =
      subst (λ b. (ActMoves n In) ws ph ph' m (Look left u) b → ActGoes n In l ws ph' t e m (Look left u) b) (same_Some _ _ pl)
      (λ mv. (
        l,
        subst (λ z. QueueGood n In z ph' l (t ++ []) e) (sym (set-get_or ws (queue_next_word n m) 0))
            (look_act n In ws ph ph' l t e m left u (slice_index ws (queue_next_word n m)) g refl mv),
        refl,
      ))
  act_keeps ws ph ph' l t e m (Close left) a d g pl =
      subst (λ b. (ActMoves n In) ws ph ph' m (Close left) b → ActGoes n In l ws ph' t e m (Close left) b) (same_Some _ _ pl)
      (at_swap (λ w v k. Moves ph ph' m (Close left) (turn_at n m (Close left) k).phase → QueueGoes n In m (Close left)
      (turn_at n m (Close left) k).phase l (slice_set ws w v) ph' (t ++ (turn_at n m (Close left) k).events) e) ws n.tail_class n.tail
      (m + 1) 0
      (λ mv. close_by ws ph ph' l t e m left (slice_index ws n.tail == m + 1) d g (eqb_tells (slice_index ws n.tail) (m + 1)) mv))
  act_keeps ws ph ph' l t e m (Await left) a d g pl =
      subst (λ b. (ActMoves n In) ws ph ph' m (Await left) b → ActGoes n In l ws ph' t e m (Await left) b) (same_Some _ _ pl)
      (λ mv. (l, subst (λ z. QueueGood n In z ph' l (t ++ (turn_at n m (Await left) (slice_index ws (queue_next_word n m))).events) e) (sym (set-get_or ws (queue_next_word n m) 0)) (await_act n In ws ph ph' l t e m left (slice_index ws (queue_next_word n m)) g refl mv), refl))
  act_keeps ws ph ph' l t e m (Hand s left) a d g pl =
      subst (λ b. (ActMoves n In) ws ph ph' m (Hand s left) b → ActGoes n In l ws ph' t e m (Hand s left) b) (same_Some _ _ pl)
      (λ mv. hand_act ws ph ph' l t e m s left d g mv)
  act_keeps ws ph ph' l t e m _ a d g pl = cc

  -- The moves that are no acts keep it good too: a member begins to join.
  pub join_keeps : (ws : List ℕ) (ph ph' : ℕ → Phase) (l : List ℕ) (t : List Event) (e m : ℕ) → QueueGood n In ws ph l t e → In m →
      Moves ph ph' m Idle Clear → QueueGood n In ws ph' l t e
  join_keeps ws ph ph' l t e m g i mv = outside_keeps n In ws ws ph ph' l t e m Idle Clear g mv (λ h. h) (λ h. h) refl (λ x ne j. refl)
      (λ x ne j. refl) tt (λ b. i) (λ s k. tt)

  -- a head settles
  pub settle_keeps : (ws : List ℕ) (ph ph' : ℕ → Phase) (l : List ℕ) (t : List Event) (e m : ℕ) → QueueGood n In ws ph l t e →
      Moves ph ph' m Settle (settled_at n.budget) → QueueGood n In ws ph' l (t ++ event.Settle n.queue m ∷ []) e
  settle_keeps ws ph ph' l t e m g mv =
      let o = own_in n In ws ph ph' l t e m Settle (settled_at n.budget) g mv in
      first_keeps n In ws ph ph' l t (t ++ event.Settle n.queue m ∷ []) e e m Settle (settled_at n.budget) g mv tt tt
      (omega arith, told_whole n.budget _ o) (λ s k. tt) (λ x. absurd x)
      (λ r s. trace_settle n.queue n.budget t e 0 (full_budget n.budget) r m s (omega arith))

  -- the holder begins to leave, with an event that isn't of the queue, such as its leave event
  pub leave_keeps : (ws : List ℕ) (ph ph' : ℕ → Phase) (l : List ℕ) (t : List Event) (e m left : ℕ) (u : Bool) (ev : Event) →
      QueueGood n In ws ph l t e → Apart n.queue n.budget ev → Moves ph ph' m (Granted left) (Look left u) →
      QueueGood n In ws ph' l (t ++ ev ∷ []) (e + 1)
  leave_keeps ws ph ph' l t e m left u ev g apart mv =
      let o = own_in n In ws ph ph' l t e m (Granted left) (Look left u) g mv in
      first_keeps n In ws ph ph' l t (t ++ ev ∷ []) e (e + 1) m (Granted left) (Look left u) g mv tt tt o (λ s k. tt) (λ x. absurd x)
      (λ r s. trace_leave n.queue n.budget t ev e left r apart s)

  -- the same with no event, as for an element
  pub leave_keeps_quietly : (ws : List ℕ) (ph ph' : ℕ → Phase) (l : List ℕ) (t : List Event) (e m left : ℕ) (u : Bool) →
      QueueGood n In ws ph l t e → Moves ph ph' m (Granted left) (Look left u) → QueueGood n In ws ph' l t (e + 1)
  leave_keeps_quietly ws ph ph' l t e m left u g mv =
      let o = own_in n In ws ph ph' l t e m (Granted left) (Look left u) g mv in
      first_keeps n In ws ph ph' l t t e (e + 1) m (Granted left) (Look left u) g mv tt tt o (λ s k. tt) (λ x. absurd x)
      (λ r s. trace_leave_quiet n.queue n.budget t e left r s)

  -- what is above was given up
  pub resume_keeps : (ws : List ℕ) (ph ph' : ℕ → Phase) (l : List ℕ) (t : List Event) (e m : ℕ) (s : Option ℕ) →
      QueueGood n In ws ph l t e → Moves ph ph' m (Above s) (resume_at (Above s)) → QueueGood n In ws ph' l t e
  resume_keeps ws ph ph' l t e m None g mv =
      subst (λ z. QueueGood n In ws ph' l z e) (append-nil t)
      (go_on n In ws ph ph' l t e m (Above None) (Close 0) g mv tt tt (omega arith) (λ a k. tt) (λ x. absurd x) refl refl refl refl (omega arith))
  resume_keeps ws ph ph' l t e m (Some s) g mv =
      let o : slice_index ws (queue_next_word n m) ≡ s + 1 = own_in n In ws ph ph' l t e m (Above (Some s)) (Hand s 0) g mv in
      subst (λ z. QueueGood n In ws ph' l z e) (append-nil t)
      (go_on n In ws ph ph' l t e m (Above (Some s)) (Hand s 0) g mv tt tt (omega arith, o) (λ a k. tt) (λ x. absurd x) refl refl refl refl (omega arith))

  -- an event that isn't of the queue changes nothing
  pub beside_keeps : (ws : List ℕ) (ph : ℕ → Phase) (l : List ℕ) (t : List Event) (e : ℕ) (ev : Event) → QueueGood n In ws ph l t e →
      Apart n.queue n.budget ev → QueueGood n In ws ph l (t ++ ev ∷ []) e
  beside_keeps ws ph l t e ev g apart = record {
    inv = g.inv;
    alone = g.alone;
    awaited = g.awaited;
    says =
        trace_apart n.queue n.budget t ev e _ _ _ apart g.says;
  }

  -- What follows: one member alone has been given the queue, or must settle.
  pub one_first : (ws : List ℕ) (ph : ℕ → Phase) (l : List ℕ) (t : List Event) (e i j : ℕ) → QueueGood n In ws ph l t e →
      IsFirst (ph i) (slice_index ws (status_word n i)) → IsFirst (ph j) (slice_index ws (status_word n j)) → i ≡ j
  one_first ws ph l t e i j g fi fj =
      let a = is_first n.budget In (lane_of n ws ph) l i g.inv fi in
      let b = is_first n.budget In (lane_of n ws ph) l j g.inv fj in
      let same : i ∷ a.0 ≡ j ∷ b.0 = sym a.1 ∙ b.1 in
      cc

  -- the queue serves first who came first
  pub queue_fifo : (ws : List ℕ) (ph : ℕ → Phase) (l : List ℕ) (t : List Event) (e : ℕ) → QueueGood n In ws ph l t e → IsFifo t n.queue
  queue_fifo ws ph l t e g = record { waiting = waits_in (lane_of n ws ph) l; in_order = g.says.fifo }

  -- it keeps its budget
  pub queue_within : (ws : List ℕ) (ph : ℕ → Phase) (l : List ℕ) (t : List Event) (e b : ℕ) → QueueGood n In ws ph l t e →
      n.budget ≡ Some b → IsWithin t n.queue b
  queue_within ws ph l t e b g eb = is_within t n.queue b (g.says.within b eb).0

  -- and where no member uses it, it was settled and passed as often as it was had
  pub queue_counted : (ws : List ℕ) (ph : ℕ → Phase) (l : List ℕ) (t : List Event) (e : ℕ) → QueueGood n In ws ph l t e →
      ((m : ℕ) → ph m ≡ Idle) → settled n.queue t + passed n.queue t ≡ e
  queue_counted ws ph l t e g idle = at l (λ m h. g.inv.only m h) g.says.tenure where
    at : (k : List ℕ) → ((m : ℕ) → Has m k → Listed (ph m)) → settled n.queue t + passed n.queue t ≡ e + held_in (lane_of n ws ph) k →
        settled n.queue t + passed n.queue t ≡ e
    at [] only s = omega arith
    at (h ∷ r) only s = absurd (subst Listed (idle h) (only h (inl refl)))
