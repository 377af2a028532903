-- Each act of a member keeps its queue good: joining, waiting and leaving, but for handing over.
use Rattle.std.specs.Prelude.{◌≡◌, ◌≢◌, ℕ, zero, suc, ◌+◌, ◌-◌, ◌<◌, ◌≤◌, Bool, true, false, List, [], ◌∷◌, ◌++◌, length, slice_index, slice_set, Option, Some, None, refl}
use Rattle.std.proofs.Common.{sym, ◌∙◌, ap, subst, inl, ⊎_elim, arith}
use Rattle.std.proofs.Math.Dec.{eqb-suc-zero}
use Rattle.rl_word.specs.laws.Places.{same_or_not}
use Rattle.rl_step.specs.declared.events.Event.{Event}
use Rattle.rl_step.specs.declared.events.Event.TheVariants as event
use Rattle.rl_step.specs.Queues.{count}
use Rattle.rl_queue.specs.declared.view.Phase.{Phase}
use Rattle.rl_queue.specs.declared.view.Phase.TheVariants.{Idle, Clear, Reset, Swing, Link, Wait, Settle, Granted, Look, Close, Await, Hand, Above}
use Rattle.rl_queue.specs.laws.Choices.{other_test}
use Rattle.rl_queue.specs.Queue.{TheNames, queue_next_word, status_word, full_budget, status_code, code_left, turn_at, moves_to, moves_with, joined_at, look_at, hand_turn}
use Rattle.rl_queue.specs.Lane.{Awaits, Lane, lane_of, Has, last_of, Listed, Busy, IsCode, Leads, Line, Own, Guessed, told_left, QueueInvariant, is_pass, served, credit, holds, rest_if, waits_in, credit_in, held_in, QueueTrace, SuitsAlone, IsAlone, LineStep, IsFirst}
use Rattle.rl_queue.specs.laws.LineLaws.{has_last_of}
use Rattle.rl_queue.specs.laws.TraceLaws.{trace_quiet, trace_join}
use Rattle.rl_queue.specs.laws.LaneLaws.{in_line, is_first, swing_first, swing_next}
use Rattle.rl_queue.specs.laws.LaneMoves.{link_guess, link_moves, close_moves}
use Rattle.rl_queue.specs.QueueGood.{IsNaming, Moves, QueueGood, QueueGoes}
use Rattle.rl_queue.specs.laws.QueueLaws.{says_first, first_says, tail_write, next_write, status_write, alone_moves, awaited_moves, awaited_stays, still_keeps, outside_keeps, first_keeps}

-- one more at the end of a line waits
pub rest_more : (b : Bool) (h : ℕ) (r : List ℕ) (m : ℕ) → rest_if b h r ++ m ∷ [] ≡ rest_if b h (r ++ m ∷ [])
rest_more true h r m = refl
rest_more false h r m = refl

-- one less than the next number
pub suc_less : (s : ℕ) → suc s - 1 ≡ s
suc_less s = omega arith

-- What a turn is where the number found isn't 0: a code of 2 or more, a next word, a code to hand on.
pub wait_turn : (n : TheNames) (m k : ℕ) → turn_at n m Wait (suc (suc k)) ≡ moves_to (Granted (code_left n.budget (suc (suc k))))
wait_turn n m k =
    let e : suc (suc k) ≢ 1 = λ q. absurd (omega arith) in
    rw (eqb-suc-zero (suc k), other_test (suc (suc k)) 1 e)

pub look_flat : (left s : ℕ) → look_at left false (suc s) ≡ Hand s left
look_flat left s = rw (eqb-suc-zero s) (ap (λ z. Hand z left) (suc_less s))

pub look_last : (s : ℕ) → look_at 0 true (suc s) ≡ Above (Some s)
look_last s = rw (eqb-suc-zero s) (ap (λ z. Above (Some z)) (suc_less s))

pub look_upper : (k s : ℕ) → look_at (suc k) true (suc s) ≡ Hand s (suc k)
look_upper k s = rw (eqb-suc-zero s, eqb-suc-zero k) (ap (λ z. Hand z (suc k)) (suc_less s))

pub await_turn : (n : TheNames) (m left s : ℕ) → turn_at n m (Await left) (suc s) ≡ moves_to (Hand s left)
await_turn n m left s = rw (eqb-suc-zero s) (ap (λ z. moves_to (Hand z left)) (suc_less s))

pub code_more : (b k : ℕ) → status_code (Some b) (suc k) ≡ suc (suc k)
code_more b k = rw (eqb-suc-zero k) (omega arith)

pub pass_more : (q b s k : ℕ) → hand_turn q (Some b) s (suc k) ≡ moves_with Idle (event.Pass q s)
pass_more q b s k = rw (eqb-suc-zero k)

-- what a code leaves
pub granted_facts : (B : Option ℕ) (k : ℕ) → IsCode B (suc (suc k)) →
    (code_left B (suc (suc k)) ≤ full_budget B) × (code_left B (suc (suc k)) ≡ told_left B (suc (suc k))) × (code_left B (suc (suc k)) ≤ suc (suc k) - 2)
granted_facts None k c = (omega arith, refl, omega arith)
granted_facts (Some b) k c = let h : suc (suc k) ≤ b + 1 = c.1 in (omega arith, omega arith, omega arith)

-- a status of 0 or 1 leaves the whole budget
pub told_whole : (B : Option ℕ) (s : ℕ) → s ≤ 1 → full_budget B ≡ told_left B s
told_whole B zero h = refl
told_whole B (suc zero) h = refl
told_whole None (suc (suc k)) h = absurd (omega arith)
told_whole (Some b) (suc (suc k)) h = absurd (omega arith)

module _ (n : TheNames) (In : ℕ → Type 0) where
  -- with no event all stays as it was
  pub no_event : (ws : List ℕ) (ph : ℕ → Phase) (l : List ℕ) (t : List Event) (e : ℕ) → QueueGood n In ws ph l t e → QueueGood n In ws ph l (t ++ []) e
  no_event ws ph l t e g = record { inv = g.inv; alone = g.alone; awaited = g.awaited; says = trace_quiet n.queue n.budget t e _ _ _ _ g.says (omega arith) }

  -- who moves from a phase in which it uses the queue is a member
  pub busy_in : (ws : List ℕ) (ph ph' : ℕ → Phase) (l : List ℕ) (t : List Event) (e m : ℕ) (p p' : Phase) → QueueGood n In ws ph l t e →
      Moves ph ph' m p p' → Busy p → In m
  busy_in ws ph ph' l t e m p p' g mv b = g.inv.inside m (subst Busy (sym mv.was) b)

  -- what a member knows of its words before it moves
  pub own_in : (ws : List ℕ) (ph ph' : ℕ → Phase) (l : List ℕ) (t : List Event) (e m : ℕ) (p p' : Phase) → QueueGood n In ws ph l t e → Moves ph ph' m p p' →
      Own n.budget In p (slice_index ws (queue_next_word n m)) (slice_index ws (status_word n m))
  own_in ws ph ph' l t e m p p' g mv =
      subst (λ z. Own n.budget In z (slice_index ws (queue_next_word n m)) (slice_index ws (status_word n m))) mv.was (g.inv.own m)

  -- nothing moves
  pub stays_keeps : (ws : List ℕ) (ph ph' : ℕ → Phase) (l : List ℕ) (t : List Event) (e m : ℕ) (p : Phase) → QueueGood n In ws ph l t e →
      Moves ph ph' m p p → QueueGood n In ws ph' l (t ++ []) e
  stays_keeps ws ph ph' l t e m p g mv =
      no_event ws ph' l t e
      (still_keeps n In ws ws ph ph' l t e g
      (λ x. ⊎_elim (λ q. subst (λ z. ph' z ≡ ph z) (sym q) (mv.now ∙ sym mv.was)) (λ q. mv.others x q) (same_or_not x m)) refl (λ x i. refl) (λ x i. refl))

  -- a tail that isn't 0 names the last of the line
  pub tail_last : (ws : List ℕ) (ph : ℕ → Phase) (l : List ℕ) (t : List Event) (e : ℕ) → QueueGood n In ws ph l t e →
      0 < slice_index ws n.tail → Has (slice_index ws n.tail - 1) l
  tail_last ws ph l t e g pos = at l g.inv.line where
    at : (k : List ℕ) → Line n.budget (lane_of n ws ph) k → Has (slice_index ws n.tail - 1) k
    at [] line = let z : slice_index ws n.tail ≡ 0 = line in absurd (omega arith)
    at (h ∷ r) line =
        let k : slice_index ws n.tail ≡ last_of h r + 1 = line.2 in
        let z : slice_index ws n.tail - 1 ≡ last_of h r = omega arith in
        subst (λ y. Has y (h ∷ r)) (sym z) (has_last_of h r)

  -- Each act below keeps the queue good. A joiner clears its next word.
  pub clear_act : (ws : List ℕ) (ph ph' : ℕ → Phase) (l : List ℕ) (t : List Event) (e m : ℕ) → IsNaming n In (length ws) →
      QueueGood n In ws ph l t e → Moves ph ph' m Clear Reset →
      QueueGoes n In m Clear Reset l (slice_set ws (queue_next_word n m) 0) ph' (t ++ []) e
  clear_act ws ph ph' l t e m d g mv =
      let i : In m = busy_in ws ph ph' l t e m Clear Reset g mv tt in
      let w = next_write n In ws ph ph' m 0 d i in (
        l,
        no_event (slice_set ws (queue_next_word n m) 0) ph' l t e
            (outside_keeps n In ws (slice_set ws (queue_next_word n m) 0) ph ph' l t e m Clear Reset g mv (λ h. h) (λ h. h) w.tail
            (λ x ne j. w.next x j ne) (λ x ne j. w.status x j) w.here (λ b. i) (λ s k. tt)),
        refl,
      )

  -- it clears its status
  pub reset_act : (ws : List ℕ) (ph ph' : ℕ → Phase) (l : List ℕ) (t : List Event) (e m : ℕ) → IsNaming n In (length ws) →
      QueueGood n In ws ph l t e → Moves ph ph' m Reset (Swing 0) →
      QueueGoes n In m Reset (Swing 0) l (slice_set ws (status_word n m) 0) ph' (t ++ []) e
  reset_act ws ph ph' l t e m d g mv =
      let i : In m = busy_in ws ph ph' l t e m Reset (Swing 0) g mv tt in
      let w = status_write n In ws ph ph' m 0 d i in
      let o : slice_index ws (queue_next_word n m) ≡ 0 = own_in ws ph ph' l t e m Reset (Swing 0) g mv in (
        l,
        no_event (slice_set ws (status_word n m) 0) ph' l t e
            (outside_keeps n In ws (slice_set ws (status_word n m) 0) ph ph' l t e m Reset (Swing 0) g mv (λ h. h) (λ h. h) w.tail
            (λ x ne j. w.next x j) (λ x ne j. w.status x j ne)
            (w.next m i ∙ o, w.here, λ h. absurd (omega arith)) (λ b. i) (λ s k. refl)),
        refl,
      )

  -- it finds another tail than it guessed, and guesses that one
  pub swing_lost : (ws : List ℕ) (ph ph' : ℕ → Phase) (l : List ℕ) (t : List Event) (e m guess : ℕ) → QueueGood n In ws ph l t e →
      Moves ph ph' m (Swing guess) (Swing (slice_index ws n.tail)) → QueueGood n In ws ph' l (t ++ []) e
  swing_lost ws ph ph' l t e m guess g mv =
      let T : ℕ = slice_index ws n.tail in
      let i : In m = busy_in ws ph ph' l t e m (Swing guess) (Swing (slice_index ws n.tail)) g mv tt in
      let o = own_in ws ph ph' l t e m (Swing guess) (Swing (slice_index ws n.tail)) g mv in
      let named : Guessed In (slice_index ws n.tail) = λ pos. in_line n.budget In (lane_of n ws ph) l (slice_index ws n.tail - 1) g.inv
      (tail_last ws ph l t e g pos) in
      no_event ws ph' l t e
      (outside_keeps n In ws ws ph ph' l t e m (Swing guess) (Swing (slice_index ws n.tail)) g mv (λ h. h) (λ h. h) refl (λ x ne j. refl) (λ x ne j. refl)
      (o.0, o.1, named) (λ b. i)
      (λ s k. alone (slice_index ws n.tail) refl s)) where
        alone : (z : ℕ) → slice_index ws n.tail ≡ z → IsAlone In m → slice_index ws n.tail ≡ 0
        alone zero ez s = ez
        alone (suc z) ez s =
            let pos : 0 < slice_index ws n.tail = omega arith in
            let h : Has (slice_index ws n.tail - 1) l = tail_last ws ph l t e g pos in
            let same : slice_index ws n.tail - 1 ≡ m = s _ (in_line n.budget In (lane_of n ws ph) l (slice_index ws n.tail - 1) g.inv h) in
            absurd (subst Listed mv.was (g.inv.only m (subst (λ y. Has y l) same h)))

  -- it swings the tail: it is the head of an empty queue, or stands behind the last
  pub swing_won : (ws : List ℕ) (ph ph' : ℕ → Phase) (l : List ℕ) (t : List Event) (e m guess : ℕ) → IsNaming n In (length ws) →
      QueueGood n In ws ph l t e → slice_index ws n.tail ≡ guess → Moves ph ph' m (Swing guess) (joined_at guess) →
      QueueGoes n In m (Swing guess) (joined_at guess) l (slice_set ws n.tail (m + 1)) ph' (t ++ event.Join n.queue m ∷ []) e
  swing_won ws ph ph' l t e m zero d g z mv =
      let L : Lane = lane_of n ws ph in
      let us : List ℕ = slice_set ws n.tail (m + 1) in
      let M : Lane = lane_of n (slice_set ws n.tail (m + 1)) ph' in
      let i : In m = busy_in ws ph ph' l t e m (Swing 0) Settle g mv tt in
      let w = tail_write n In ws ph ph' (m + 1) d in
      let o = own_in ws ph ph' l t e m (Swing 0) Settle g mv in
      let new = swing_first n.budget In (lane_of n ws ph) M l m g.inv z i w.tail (w.next m i ∙ o.0) (w.status m i ∙ o.1) mv.now
      (λ x ne. record { phase = mv.others x ne; next = w.next x; status = w.status x }) in
      let old : QueueTrace n.queue n.budget t e [] 0 0 =
      subst (λ k. QueueTrace n.queue n.budget t e (waits_in (lane_of n ws ph) k) (credit_in (lane_of n ws ph) k)
      (held_in (lane_of n ws ph) k)) new.0 g.says in (
        m ∷ [],
        record {
          inv = new.1;
          alone = alone_moves n In ph ph' m (Swing 0) Settle mv g.alone (λ s k. tt);
          awaited = awaited_moves n In ws (slice_set ws n.tail (m + 1)) ph ph' m (Swing 0) Settle mv g.awaited (λ x. absurd x)
              (λ x ne k q. let at : slice_index (slice_set ws n.tail (m + 1)) n.tail ≡ m + 1 = w.tail in ne (omega arith));
          says = says_first n.queue n.budget M m [] (t ++ event.Join n.queue m ∷ []) e Settle _ mv.now refl
              (trace_join n.queue n.budget t e 0 0 0 [] m old (omega arith));
        },
        (new.0, refl),
      )
  swing_won ws ph ph' l t e m (suc g') d g z mv0 =
      let L : Lane = lane_of n ws ph in
      let M : Lane = lane_of n (slice_set ws n.tail (m + 1)) ph' in
      let link : joined_at (suc g') ≡ Link (suc g') = rw (eqb-suc-zero g') in
      let mv : Moves ph ph' m (Swing (suc g')) (Link (suc g')) = record { was = mv0.was; now = mv0.now ∙ link; others = mv0.others } in
      let i : In m = busy_in ws ph ph' l t e m (Swing (suc g')) (Link (suc g')) g mv tt in
      let w = tail_write n In ws ph ph' (m + 1) d in
      let o = own_in ws ph ph' l t e m (Swing (suc g')) (Link (suc g')) g mv in
      let out : Listed (ph m) → ⊥ = λ h. subst Listed mv.was h in
      let new = swing_next n.budget In (lane_of n ws ph) M l m (suc g') g.inv out z (omega arith) i w.tail (w.next m i ∙ o.0) (w.status m i ∙ o.1) mv.now
      (λ x ne. record { phase = mv.others x ne; next = w.next x; status = w.status x }) in
      let h : ℕ = new.0 in
      let r : List ℕ = new.1 in
      let old : QueueTrace n.queue n.budget t e (rest_if (served (ph new.0) (slice_index ws (status_word n new.0))) new.0 new.1)
      (credit (ph new.0) (slice_index ws (status_word n new.0))) (count (holds (ph new.0) (slice_index ws (status_word n new.0)))) =
      subst (λ k. QueueTrace n.queue n.budget t e (waits_in (lane_of n ws ph) k) (credit_in (lane_of n ws ph) k) (held_in (lane_of n ws ph) k)) new.2 g.says in
      let hl : Has new.0 l = subst (λ k. Has new.0 k) (sym new.2) (inl refl) in
      let ne : new.0 ≢ m = λ q. out (g.inv.only m (subst (λ k. Has k l) q hl)) in
      let more = trace_join n.queue n.budget t e (credit (ph new.0) (slice_index ws (status_word n new.0)))
      (credit (ph new.0) (slice_index ws (status_word n new.0)))
      (count (holds (ph new.0) (slice_index ws (status_word n new.0)))) _ m old (omega arith) in (
        new.0 ∷ (new.1 ++ m ∷ []),
        record {
          inv = new.3;
          alone = alone_moves n In ph ph' m (Swing (suc g')) (Link (suc g')) mv g.alone (λ s k. let k1 : suc g' ≡ 0 = k in absurd (omega arith));
          awaited = awaited_moves n In ws (slice_set ws n.tail (m + 1)) ph ph' m (Swing (suc g')) (Link (suc g')) mv g.awaited
              (λ x. absurd x) (λ x ne k q. let at : slice_index (slice_set ws n.tail (m + 1)) n.tail ≡ m + 1 = w.tail in ne (omega arith));
          says = says_first n.queue n.budget M new.0 (new.1 ++ m ∷ []) (t ++ event.Join n.queue m ∷ []) e (ph new.0)
              (slice_index ws (status_word n new.0)) (mv.others new.0 ne)
              (w.status new.0 (in_line n.budget In (lane_of n ws ph) l new.0 g.inv hl))
              (subst (λ k. QueueTrace n.queue n.budget (t ++ event.Join n.queue m ∷ []) e k
              (credit (ph new.0) (slice_index ws (status_word n new.0)))
              (count (holds (ph new.0) (slice_index ws (status_word n new.0)))))
              (rest_more (served (ph new.0) (slice_index ws (status_word n new.0))) new.0 new.1 m) more);
        },
        subst (λ z. LineStep m (Swing (suc g')) z l (new.0 ∷ (new.1 ++ m ∷ []))) (sym link) (new.0, (new.1, (new.2, refl))),
      )

  -- it links itself to the one before it
  pub link_act : (ws : List ℕ) (ph ph' : ℕ → Phase) (l : List ℕ) (t : List Event) (e m guess : ℕ) → IsNaming n In (length ws) →
      QueueGood n In ws ph l t e → Moves ph ph' m (Link guess) Wait →
      QueueGoes n In m (Link guess) Wait l (slice_set ws (queue_next_word n (guess - 1)) (m + 1)) ph' (t ++ []) e
  link_act ws ph ph' l t e m guess d g mv =
      let k = link_guess n.budget In (lane_of n ws ph) l m guess g.inv mv.was in
      let i : In (guess - 1) = in_line n.budget In (lane_of n ws ph) l (guess - 1) g.inv k.0 in
      let w = next_write n In ws ph ph' (guess - 1) (m + 1) d i in
      let M : Lane = lane_of n (slice_set ws (queue_next_word n (guess - 1)) (m + 1)) ph' in (
        l,
        no_event (slice_set ws (queue_next_word n (guess - 1)) (m + 1)) ph' l t e
            (record {
              inv = link_moves n.budget In (lane_of n ws ph) M l m guess g.inv mv.was mv.now w.tail (λ j. w.here) (λ x j ne. w.next x j ne)
                  (λ x j. w.status x j) mv.others;
              alone = alone_moves n In ph ph' m (Link guess) Wait mv g.alone (λ s k. k);
              awaited = awaited_stays n In ws (slice_set ws (queue_next_word n (guess - 1)) (m + 1)) ph ph' m
                  (Link guess) Wait mv g.awaited w.tail (λ x. absurd x);
              says = at l g.inv.line (λ x h. w.status x (in_line n.budget In (lane_of n ws ph) l x g.inv h)) g.says;
            }),
        refl,
      ) where
        at : (k : List ℕ) → Line n.budget (lane_of n ws ph) k → ((x : ℕ) → Has x k → slice_index (slice_set ws (queue_next_word n (guess - 1)) (m + 1)) (status_word n x) ≡ slice_index ws (status_word n x)) →
            QueueTrace n.queue n.budget t e (waits_in (lane_of n ws ph) k) (credit_in (lane_of n ws ph) k) (held_in (lane_of n ws ph) k) →
            QueueTrace n.queue n.budget t e (waits_in (lane_of n (slice_set ws (queue_next_word n (guess - 1)) (m + 1)) ph') k) (credit_in (lane_of n (slice_set ws (queue_next_word n (guess - 1)) (m + 1)) ph') k) (held_in (lane_of n (slice_set ws (queue_next_word n (guess - 1)) (m + 1)) ph') k)
        at [] line f s = s
        at (x ∷ r) line f s =
            let ne : x ≢ m = λ q. let bad : Leads n.budget (Link guess) (slice_index ws (status_word n x)) =
            subst (λ z. Leads n.budget z (slice_index ws (status_word n x))) (ap ph q ∙ mv.was) line.0 in bad in
            says_first n.queue n.budget (lane_of n (slice_set ws (queue_next_word n (guess - 1)) (m + 1)) ph') x r t e (ph x)
            (slice_index ws (status_word n x)) (mv.others x ne) (f x (inl refl)) s

  -- what a first member's status is where it waits
  pub first_code : (ws : List ℕ) (ph : ℕ → Phase) (l : List ℕ) (t : List Event) (e m : ℕ) → QueueGood n In ws ph l t e → ph m ≡ Wait →
      0 < slice_index ws (status_word n m) → IsCode n.budget (slice_index ws (status_word n m))
  first_code ws ph l t e m g w pos =
      let a = is_first n.budget In (lane_of n ws ph) l m g.inv (subst (λ z. IsFirst z (slice_index ws (status_word n m))) (sym w) pos) in
      let g1 : QueueInvariant n.budget In (lane_of n ws ph) (m ∷ a.0) = subst (λ z. QueueInvariant n.budget In (lane_of n ws ph) z) a.1 g.inv in
      subst (λ z. Leads n.budget z (slice_index ws (status_word n m))) w g1.line.0

  -- it loads its status
  pub wait_act : (ws : List ℕ) (ph ph' : ℕ → Phase) (l : List ℕ) (t : List Event) (e m s : ℕ) → QueueGood n In ws ph l t e →
      slice_index ws (status_word n m) ≡ s → Moves ph ph' m Wait (turn_at n m Wait s).phase →
      QueueGood n In ws ph' l (t ++ (turn_at n m Wait s).events) e
  wait_act ws ph ph' l t e m zero g es mv = stays_keeps ws ph ph' l t e m Wait g mv
  wait_act ws ph ph' l t e m (suc zero) g es mv =
      first_keeps n In ws ph ph' l t (t ++ []) e e m Wait Settle g mv (omega arith) tt (omega arith) (λ a k. tt) (λ x. absurd x)
      (λ r s.
      let k : QueueTrace n.queue n.budget t e (m ∷ r) 0 0 = subst
      (λ z. QueueTrace n.queue n.budget t e (rest_if (is_pass z) m r) (z - 2) (count (is_pass z))) es s in
      trace_quiet n.queue n.budget t e 0 0 0 (m ∷ r) k (omega arith))
  wait_act ws ph ph' l t e m (suc (suc k)) g es mv0 =
      let turn = wait_turn n m k in
      let left : ℕ = code_left n.budget (suc (suc k)) in
      let mv : Moves ph ph' m Wait (Granted (code_left n.budget (suc (suc k)))) =
      record { was = mv0.was; now = mv0.now ∙ ap (λ z. z.phase) turn; others = mv0.others } in
      let pos : 0 < slice_index ws (status_word n m) = omega arith in
      let code : IsCode n.budget (suc (suc k)) = subst (IsCode n.budget) es (first_code ws ph l t e m g mv0.was pos) in
      let f = granted_facts n.budget k code in
      subst (λ z. QueueGood n In ws ph' l (t ++ z) e) (sym (ap (λ z. z.events) turn))
      (first_keeps n In ws ph ph' l t (t ++ []) e e m Wait (Granted (code_left n.budget (suc (suc k)))) g mv pos tt
      (f.0, f.1 ∙ ap (told_left n.budget) (sym es)) (λ a k. tt) (λ x. absurd x)
      (λ r s.
      let k1 : QueueTrace n.queue n.budget t e r (suc (suc k) - 2) 1 =
      subst (λ z. QueueTrace n.queue n.budget t e (rest_if (is_pass z) m r) (z - 2) (count (is_pass z))) es s in
      trace_quiet n.queue n.budget t e (suc (suc k) - 2) (code_left n.budget (suc (suc k))) 1 r k1 f.2))

  -- a first member that was given the queue goes on, with no event
  pub go_on : (ws : List ℕ) (ph ph' : ℕ → Phase) (l : List ℕ) (t : List Event) (e m : ℕ) (p p' : Phase) → QueueGood n In ws ph l t e → Moves ph ph' m p p' →
      IsFirst p (slice_index ws (status_word n m)) → Leads n.budget p' (slice_index ws (status_word n m)) →
      Own n.budget In p' (slice_index ws (queue_next_word n m)) (slice_index ws (status_word n m)) →
      (IsAlone In m → SuitsAlone p → SuitsAlone p') → (Awaits p' → slice_index ws n.tail ≢ m + 1) →
      served p (slice_index ws (status_word n m)) ≡ true → served p' (slice_index ws (status_word n m)) ≡ true → holds p
      (slice_index ws (status_word n m)) ≡ false → holds p' (slice_index ws (status_word n m)) ≡ false →
      credit p' (slice_index ws (status_word n m)) ≤ credit p (slice_index ws (status_word n m)) → QueueGood n In ws ph' l (t ++ []) e
  go_on ws ph ph' l t e m p p' g mv first leads own alone waits s s' h h' c =
      first_keeps n In ws ph ph' l t (t ++ []) e e m p p' g mv first leads own alone waits
      (λ r old.
      let st : ℕ = slice_index ws (status_word n m) in
      let a : QueueTrace n.queue n.budget t e r (credit p (slice_index ws (status_word n m))) 0 =
      subst (λ z. QueueTrace n.queue n.budget t e r (credit p (slice_index ws (status_word n m))) (count z)) h
      (subst (λ z. QueueTrace n.queue n.budget t e (rest_if z m r) (credit p (slice_index ws (status_word n m)))
      (count (holds p (slice_index ws (status_word n m))))) s old) in
      let b : QueueTrace n.queue n.budget (t ++ []) e r (credit p' (slice_index ws (status_word n m))) 0 = trace_quiet n.queue n.budget t e _ _ 0 r a c in
      subst (λ z. QueueTrace n.queue n.budget (t ++ []) e (rest_if z m r) (credit p' (slice_index ws (status_word n m)))
      (count (holds p' (slice_index ws (status_word n m))))) (sym s')
      (subst (λ z. QueueTrace n.queue n.budget (t ++ []) e r (credit p' (slice_index ws (status_word n m))) (count z)) (sym h') b))

  -- A leaver loads its next word.
  pub look_act : (ws : List ℕ) (ph ph' : ℕ → Phase) (l : List ℕ) (t : List Event) (e m left : ℕ) (u : Bool) (x : ℕ) →
      QueueGood n In ws ph l t e → slice_index ws (queue_next_word n m) ≡ x → Moves ph ph' m (Look left u) (look_at left u x) →
      QueueGood n In ws ph' l (t ++ []) e
  look_act ws ph ph' l t e m left false zero g ex mv =
      let o = own_in ws ph ph' l t e m (Look left false) (Close left) g mv in
      go_on ws ph ph' l t e m (Look left false) (Close left) g mv tt tt o.0 (λ a k. tt) (λ x. absurd x) refl refl refl refl (omega arith)
  look_act ws ph ph' l t e m left false (suc s) g ex mv0 =
      let mv : Moves ph ph' m (Look left false) (Hand s left) = record { was = mv0.was; now = mv0.now ∙ look_flat left s; others = mv0.others } in
      let o = own_in ws ph ph' l t e m (Look left false) (Hand s left) g mv in
      go_on ws ph ph' l t e m (Look left false) (Hand s left) g mv tt tt (o.0, omega arith) (λ a k. tt) (λ x. absurd x) refl refl refl refl (omega arith)
  look_act ws ph ph' l t e m left true zero g ex mv =
      go_on ws ph ph' l t e m (Look left true) (Above None) g mv tt tt tt (λ a k. tt) (λ x. absurd x) refl refl refl refl (omega arith)
  look_act ws ph ph' l t e m zero true (suc s) g ex mv0 =
      let mv : Moves ph ph' m (Look 0 true) (Above (Some s)) = record { was = mv0.was; now = mv0.now ∙ look_last s; others = mv0.others } in
      go_on ws ph ph' l t e m (Look 0 true) (Above (Some s)) g mv tt tt (omega arith) (λ a k. tt) (λ x. absurd x) refl refl refl refl (omega arith)
  look_act ws ph ph' l t e m (suc k) true (suc s) g ex mv0 =
      let mv : Moves ph ph' m (Look (suc k) true) (Hand s (suc k)) = record { was = mv0.was; now = mv0.now ∙ look_upper k s; others = mv0.others } in
      let o = own_in ws ph ph' l t e m (Look (suc k) true) (Hand s (suc k)) g mv in
      go_on ws ph ph' l t e m (Look (suc k) true) (Hand s (suc k)) g mv tt tt (o.0, omega arith) (λ a k. tt) (λ x. absurd x) refl refl refl refl (omega arith)

  -- it empties the tail
  pub close_won : (ws : List ℕ) (ph ph' : ℕ → Phase) (l : List ℕ) (t : List Event) (e m left : ℕ) → IsNaming n In (length ws) →
      QueueGood n In ws ph l t e → slice_index ws n.tail ≡ m + 1 → Moves ph ph' m (Close left) Idle →
      QueueGoes n In m (Close left) Idle l (slice_set ws n.tail 0) ph' (t ++ []) e
  close_won ws ph ph' l t e m left d g et mv =
      let M : Lane = lane_of n (slice_set ws n.tail 0) ph' in
      let w = tail_write n In ws ph ph' 0 d in
      let first : IsFirst (ph m) (slice_index ws (status_word n m)) = subst (λ z. IsFirst z (slice_index ws (status_word n m))) (sym mv.was) tt in
      let new = close_moves n.budget In (lane_of n ws ph) M l m g.inv first et w.tail mv.now
      (λ x ne. record { phase = mv.others x ne; next = w.next x; status = w.status x }) in
      let old : QueueTrace n.queue n.budget t e (waits_in (lane_of n ws ph) (m ∷ [])) (credit_in (lane_of n ws ph) (m ∷ []))
      (held_in (lane_of n ws ph) (m ∷ [])) =
      subst (λ z. QueueTrace n.queue n.budget t e (waits_in (lane_of n ws ph) z) (credit_in (lane_of n ws ph) z) (held_in (lane_of n ws ph) z)) new.0 g.says in
      let at_close : QueueTrace n.queue n.budget t e [] left 0 = first_says n.queue n.budget (lane_of n ws ph) m [] t e (Close left) _ mv.was refl old in (
        [],
        record {
          inv = new.1;
          alone = alone_moves n In ph ph' m (Close left) Idle mv g.alone (λ s k. tt);
          awaited = awaited_moves n In ws (slice_set ws n.tail 0) ph ph' m (Close left) Idle mv g.awaited (λ x. absurd x)
              (λ x ne k q. let at : slice_index (slice_set ws n.tail 0) n.tail ≡ 0 = w.tail in absurd (omega arith));
          says = trace_quiet n.queue n.budget t e left 0 0 [] at_close (omega arith);
        },
        (new.0, refl),
      )

  -- it finds another tail than itself
  pub close_lost : (ws : List ℕ) (ph ph' : ℕ → Phase) (l : List ℕ) (t : List Event) (e m left : ℕ) → QueueGood n In ws ph l t e →
      slice_index ws n.tail ≢ m + 1 → Moves ph ph' m (Close left) (Await left) → QueueGood n In ws ph' l (t ++ []) e
  close_lost ws ph ph' l t e m left g ne mv =
      let o = own_in ws ph ph' l t e m (Close left) (Await left) g mv in
      let a = is_first n.budget In (lane_of n ws ph) l m g.inv (subst (λ z. IsFirst z (slice_index ws (status_word n m))) (sym mv.was) tt) in
      let g1 : QueueInvariant n.budget In (lane_of n ws ph) (m ∷ a.0) = subst (λ z. QueueInvariant n.budget In (lane_of n ws ph) z) a.1 g.inv in
      let alone : IsAlone In m → ⊥ = λ s.
      let last : last_of m a.0 ≡ m = s _ (in_line n.budget In (lane_of n ws ph) (m ∷ a.0) (last_of m a.0) g1 (has_last_of m a.0)) in
      ne (g1.line.2 ∙ ap (λ z. z + 1) last) in
      go_on ws ph ph' l t e m (Close left) (Await left) g mv tt tt o (λ s k. alone s) (λ x. ne) refl refl refl refl (omega arith)

  -- it loads its next word until that isn't 0
  pub await_act : (ws : List ℕ) (ph ph' : ℕ → Phase) (l : List ℕ) (t : List Event) (e m left x : ℕ) → QueueGood n In ws ph l t e →
      slice_index ws (queue_next_word n m) ≡ x → Moves ph ph' m (Await left) (turn_at n m (Await left) x).phase →
      QueueGood n In ws ph' l (t ++ (turn_at n m (Await left) x).events) e
  await_act ws ph ph' l t e m left zero g ex mv = stays_keeps ws ph ph' l t e m (Await left) g mv
  await_act ws ph ph' l t e m left (suc s) g ex mv0 =
      let turn = await_turn n m left s in
      let mv : Moves ph ph' m (Await left) (Hand s left) = record { was = mv0.was; now = mv0.now ∙ ap (λ z. z.phase) turn; others = mv0.others } in
      let o = own_in ws ph ph' l t e m (Await left) (Hand s left) g mv in
      subst (λ z. QueueGood n In ws ph' l (t ++ z) e) (sym (ap (λ z. z.events) turn))
      (go_on ws ph ph' l t e m (Await left) (Hand s left) g mv tt tt (o, omega arith) (λ a k. tt) (λ x. absurd x) refl refl refl refl (omega arith))
