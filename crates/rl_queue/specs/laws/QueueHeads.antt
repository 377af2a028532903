-- How an act changes the head of its queue: what a layer above reads off it.
use Rattle.std.specs.Prelude.{◌≡◌, ◌≢◌, ℕ, zero, suc, ◌+◌, ◌-◌, ◌==◌, Bool, true, false, List, [], ◌∷◌, ◌++◌, length, if◌then◌else◌, slice_index, slice_set, Option, Some, None, refl}
use Rattle.std.proofs.Common.{sym, ◌∙◌, ap, subst, inl, ⊎_elim, arith}
use Rattle.std.proofs.lemmas.List.{set-get_or}
use Rattle.std.proofs.lemmas.Option.{same_Some}
use Rattle.std.proofs.Math.Dec.{eqb-suc-zero}
use Rattle.rl_word.specs.laws.Places.{same_or_not}
use Rattle.rl_word.specs.Acts.{word_of, written, told}
use Rattle.rl_word.specs.declared.acts.Act.{Act}
use Rattle.rl_step.specs.declared.events.Event.{Event}
use Rattle.rl_step.specs.declared.events.Event.TheVariants as event
use Rattle.rl_queue.specs.declared.view.Phase.{Phase}
use Rattle.rl_queue.specs.declared.view.Phase.TheVariants.{Idle, Clear, Reset, Swing, Link, Wait, Settle, Granted, Look, Close, Await, Hand, Above}
use Rattle.rl_queue.specs.Queue.{TheNames, queue_next_word, status_word, status_code, code_left, plan_at, turn_at, moves_to, moves_with, joined_at, look_at}
use Rattle.rl_queue.specs.Lane.{Lane, lane_of, Has, Listed, Busy, Leads, Line, is_pass, served, LineStep, IsFirst}
use Rattle.rl_queue.specs.laws.LaneLaws.{in_line, is_first}
use Rattle.rl_queue.specs.laws.LaneMoves.{link_guess, hand_moves}
use Rattle.rl_queue.specs.QueueGood.{IsNaming, Moves, QueueGood}
use Rattle.rl_queue.specs.laws.QueueLaws.{tail_write, next_write, status_write}
use Rattle.rl_queue.specs.laws.QueueActs.{own_in, wait_turn, await_turn}
use Rattle.rl_queue.specs.laws.QueueMoves.{hand_succ, at_swap, is_code, hand_idle}
use Rattle.rl_queue.specs.Heads.{Head, head_in}

abbrev pub head : ℕ → Phase → ℕ → Option Head
head h p s = Some (record { who = h; phase = p; status = s })

-- How an act of member m, from phase p to phase q, with the status s, changes the head from x to y: a swing on an empty queue
-- makes m the head, and a hand over its successor, which waits with the code; else the head stays who it is, and moves as m does.
abbrev pub HeadStep : Option ℕ → ℕ → Phase → Phase → ℕ → Option Head → Option Head → Type 0
HeadStep B m Idle q s x y = y ≡ x
HeadStep B m Clear q s x y = y ≡ x
HeadStep B m Reset q s x y = y ≡ x
HeadStep B m (Swing g) Settle s x y = (x ≡ None) × ((u : ℕ) × (y ≡ head m Settle u))
HeadStep B m (Swing g) q s x y = y ≡ x
HeadStep B m (Link g) q s x y = y ≡ x
HeadStep B m Wait Wait s x y = y ≡ x
HeadStep B m Wait q s x y = (x ≡ head m Wait s) × (y ≡ head m q s)
HeadStep B m Settle q s x y = y ≡ x
HeadStep B m (Granted left) q s x y = y ≡ x
HeadStep B m (Look left u) q s x y = (x ≡ head m (Look left u) s) × (y ≡ head m q s)
HeadStep B m (Close left) Idle s x y = (x ≡ head m (Close left) s) × (y ≡ None)
HeadStep B m (Close left) q s x y = (x ≡ head m (Close left) s) × (y ≡ head m q s)
HeadStep B m (Await left) (Await k) s x y = y ≡ x
HeadStep B m (Await left) q s x y = (x ≡ head m (Await left) s) × (y ≡ head m q s)
HeadStep B m (Hand succ left) q s x y = (x ≡ head m (Hand succ left) s) × (y ≡ head succ Wait (status_code B left))
HeadStep B m (Above succ) q s x y = y ≡ x

-- the head of a line is its first, with the phase and status that it has
pub head_at : (L : Lane) (h : ℕ) (r : List ℕ) (p : Phase) (s : ℕ) → L.phase h ≡ p → L.status h ≡ s → head_in L (h ∷ r) ≡ head h p s
head_at L h r p s ep es = ap (λ z. head h z (L.status h)) ep ∙ ap (λ z. head h p z) es

-- h is the first of l
abbrev pub StartsWith : List ℕ → ℕ → Type 0
StartsWith [] h = ⊥
StartsWith (x ∷ r) h = h ≡ x

-- who isn't in a line doesn't begin it
pub unlisted : (l : List ℕ) (m : ℕ) → (Has m l → ⊥) → StartsWith l m → ⊥
unlisted [] m f b = b
unlisted (x ∷ r) m f b = f (inl b)

-- a line has the same head where its first has the same phase and status
pub same_head : (L M : Lane) (l : List ℕ) → ((h : ℕ) → Has h l → StartsWith l h → (M.phase h ≡ L.phase h) × (M.status h ≡ L.status h)) →
    head_in M l ≡ head_in L l
same_head L M [] f = refl
same_head L M (h ∷ r) f = let k = f h (inl refl) refl in head_at M h r (L.phase h) (L.status h) k.0 k.1

module _ (n : TheNames) (In : ℕ → Type 0) where
  -- a member that isn't first moves, and no status of the line changes
  pub head_kept : (ws us : List ℕ) (ph ph' : ℕ → Phase) (l : List ℕ) (t : List Event) (e m : ℕ) (p q : Phase) → QueueGood n In ws ph l t e →
      Moves ph ph' m p q → (StartsWith l m → ⊥) →
      ((x : ℕ) → In x → x ≢ m → slice_index us (status_word n x) ≡ slice_index ws (status_word n x)) → head_in
      (lane_of n us ph') l ≡ head_in (lane_of n ws ph) l
  head_kept ws us ph ph' l t e m p q g mv out st =
      same_head (lane_of n ws ph) (lane_of n us ph') l
      (λ h k b. let ne : h ≢ m = λ eq. out (subst (StartsWith l) eq b) in (mv.others h ne, st h (in_line n.budget In (lane_of n ws ph) l h g.inv k) ne))

  -- a member that is about to link itself doesn't begin the line
  link_behind : (ws : List ℕ) (ph : ℕ → Phase) (l : List ℕ) (t : List Event) (e m guess : ℕ) → QueueGood n In ws ph l t e →
      ph m ≡ Link guess → StartsWith l m → ⊥
  link_behind ws ph l t e m guess g q b = at l g.inv.line b where
    at : (k : List ℕ) → Line n.budget (lane_of n ws ph) k → StartsWith k m → ⊥
    at [] line b = b
    at (x ∷ r) line b = let bad : Leads n.budget (Link guess) (slice_index ws (status_word n x)) =
        subst (λ z. Leads n.budget z (slice_index ws (status_word n x))) (ap ph (sym b) ∙ q) line.0 in bad

  -- the head moves, and no word changes: also by the moves that are no acts
  pub head_first : (ws : List ℕ) (ph ph' : ℕ → Phase) (l : List ℕ) (t : List Event) (e m : ℕ) (p q : Phase) → QueueGood n In ws ph l t e →
      Moves ph ph' m p q → IsFirst p (slice_index ws (status_word n m)) →
      (head_in (lane_of n ws ph) l ≡ head m p (slice_index ws (status_word n m))) × (head_in (lane_of n ws ph') l ≡ head m q (slice_index ws (status_word n m)))
  head_first ws ph ph' l t e m p q g mv first =
      let a = is_first n.budget In (lane_of n ws ph) l m g.inv (subst (λ z. IsFirst z (slice_index ws (status_word n m))) (sym mv.was) first) in (
        ap (head_in (lane_of n ws ph)) a.1 ∙ head_at (lane_of n ws ph) m a.0 p _ mv.was refl,
        ap (head_in (lane_of n ws ph')) a.1
            ∙ head_at (lane_of n ws ph') m a.0 q _ mv.now refl,
      )

  -- nothing moves
  head_stays : (ws : List ℕ) (ph ph' : ℕ → Phase) (l : List ℕ) (m : ℕ) (p : Phase) → Moves ph ph' m p p →
      head_in (lane_of n ws ph') l ≡ head_in (lane_of n ws ph) l
  head_stays ws ph ph' l m p mv =
      same_head (lane_of n ws ph) (lane_of n ws ph') l
      (λ h k b. (⊎_elim (λ q. subst (λ z. ph' z ≡ ph z) (sym q) (mv.now ∙ sym mv.was)) (λ q. mv.others h q) (same_or_not h m), refl))

  -- what each act does to the head
  swing_head : (ws : List ℕ) (ph ph' : ℕ → Phase) (l k : List ℕ) (t : List Event) (e m guess : ℕ) → IsNaming n In (length ws) →
      QueueGood n In ws ph l t e → Moves ph ph' m (Swing guess) (joined_at guess) → LineStep m (Swing guess) (joined_at guess) l k →
      HeadStep n.budget m (Swing guess) (joined_at guess) (slice_index ws (status_word n m)) (head_in (lane_of n ws ph) l)
      (head_in (lane_of n (slice_set ws n.tail (m + 1)) ph') k)
  swing_head ws ph ph' l k t e m zero d g mv s =
      let M : Lane = lane_of n (slice_set ws n.tail (m + 1)) ph' in (
        ap (head_in (lane_of n ws ph)) s.0,
        (
          slice_index (slice_set ws n.tail (m + 1)) (status_word n m),
          ap (head_in M) s.1 ∙ head_at M m []
              Settle _ mv.now refl,
        ),
      )
  swing_head ws ph ph' l k t e m (suc j) d g mv0 s0 =
      let M : Lane = lane_of n (slice_set ws n.tail (m + 1)) ph' in
      let link : joined_at (suc j) ≡ Link (suc j) = rw (eqb-suc-zero j) in
      let s : LineStep m (Swing (suc j)) (Link (suc j)) l k = subst (λ z. LineStep m (Swing (suc j)) z l k) link s0 in
      let w = tail_write n In ws ph ph' (m + 1) d in
      let hl : Has s.0 l = subst (Has s.0) (sym s.1.1.0) (inl refl) in
      let ne : s.0 ≢ m = λ q. subst Listed mv0.was (g.inv.only m (subst (λ z. Has z l) q hl)) in
      let r : head_in M k ≡ head_in (lane_of n ws ph) l =
      ap (head_in M) s.1.1.1 ∙ head_at M s.0 (s.1.0 ++ m ∷ []) (ph s.0) (slice_index ws (status_word n s.0)) (mv0.others s.0 ne)
      (w.status s.0 (in_line n.budget In (lane_of n ws ph) l s.0 g.inv hl)) ∙ sym (ap (head_in (lane_of n ws ph)) s.1.1.0) in
      subst (λ z. HeadStep n.budget m (Swing (suc j)) z (slice_index ws (status_word n m)) (head_in (lane_of n ws ph) l)
      (head_in (lane_of n (slice_set ws n.tail (m + 1)) ph') k)) (sym link) r

  hand_head : (ws : List ℕ) (ph ph' : ℕ → Phase) (l k : List ℕ) (t : List Event) (e m s left : ℕ) → IsNaming n In (length ws) →
      QueueGood n In ws ph l t e → Moves ph ph' m (Hand s left) Idle → LineStep m (Hand s left) Idle l k →
      (head_in (lane_of n ws ph) l ≡ head m (Hand s left) (slice_index ws (status_word n m))) ×
      (head_in (lane_of n (slice_set ws (status_word n s) (status_code n.budget left)) ph') k ≡ head s Wait (status_code n.budget left))
  hand_head ws ph ph' l k t e m s left d g mv step =
      let M : Lane = lane_of n (slice_set ws (status_word n s) (status_code n.budget left)) ph' in
      let i : In s = hand_succ n In ws ph l t e m s left g mv.was in
      let w = status_write n In ws ph ph' s (status_code n.budget left) d i in
      let o = own_in n In ws ph ph' l t e m (Hand s left) Idle g mv in
      let new = hand_moves n.budget In (lane_of n ws ph) M l m s left (status_code n.budget left) g.inv mv.was (is_code n.budget left o.0) mv.now w.tail (λ j. w.here) (λ x j ne. w.status x j ne) (λ x j. w.next x j) mv.others in (
        ap (head_in (lane_of n ws ph)) step.1.0 ∙ head_at (lane_of n ws ph) m (s ∷ step.0) (Hand s left) _ mv.was refl,
        ap (head_in M) step.1.1 ∙ head_at M s step.0 Wait (status_code n.budget left) new.4 new.5,
      )

  close_head : (ws : List ℕ) (ph ph' : ℕ → Phase) (l k : List ℕ) (t : List Event) (e m left : ℕ) (b : Bool) → QueueGood n In ws ph l t e →
      Moves ph ph' m (Close left) (if b then moves_to Idle else moves_to (Await left)).phase →
      LineStep m (Close left) (if b then moves_to Idle else moves_to (Await left)).phase l k →
      HeadStep n.budget m (Close left) (if b then moves_to Idle else moves_to (Await left)).phase (slice_index ws (status_word n m))
      (head_in (lane_of n ws ph) l) (head_in (lane_of n (slice_set ws n.tail (if b then 0 else slice_index ws n.tail)) ph') k)
  close_head ws ph ph' l k t e m left true g mv step =
      ((head_first ws ph ph' l t e m (Close left) Idle g mv tt).0, ap (head_in (lane_of n (slice_set ws n.tail 0) ph')) step.1)
  close_head ws ph ph' l k t e m left false g mv step =
      let f = head_first ws ph ph' l t e m (Close left) (Await left) g mv tt in
      (f.0, ap (λ z. head_in (lane_of n z ph') k) (set-get_or ws n.tail 0) ∙ ap (head_in (lane_of n ws ph')) step ∙ f.1)

  swing_by_head : (ws : List ℕ) (ph ph' : ℕ → Phase) (l k : List ℕ) (t : List Event) (e m guess : ℕ) (b : Bool) →
      IsNaming n In (length ws) → QueueGood n In ws ph l t e →
      Moves ph ph' m (Swing guess) (if b then moves_with (joined_at guess) (event.Join n.queue m) else moves_to (Swing (slice_index ws n.tail))).phase →
      LineStep m (Swing guess) (if b then moves_with (joined_at guess) (event.Join n.queue m) else moves_to (Swing (slice_index ws n.tail))).phase l k →
      HeadStep n.budget m (Swing guess) (if b then moves_with (joined_at guess) (event.Join n.queue m) else moves_to
      (Swing (slice_index ws n.tail))).phase (slice_index ws (status_word n m)) (head_in (lane_of n ws ph) l)
      (head_in (lane_of n (slice_set ws n.tail (if b then m + 1 else slice_index ws n.tail)) ph') k)
  swing_by_head ws ph ph' l k t e m guess true d g mv step = swing_head ws ph ph' l k t e m guess d g mv step
  swing_by_head ws ph ph' l k t e m guess false d g mv step =
      ap (λ z. head_in (lane_of n z ph') k) (set-get_or ws n.tail 0) ∙ ap (head_in (lane_of n ws ph')) step ∙
      head_kept ws ws ph ph' l t e m (Swing guess) (Swing (slice_index ws n.tail)) g mv
      (unlisted l m (λ h. subst Listed mv.was (g.inv.only m h))) (λ x i ne. refl)

  wait_head : (ws : List ℕ) (ph ph' : ℕ → Phase) (l : List ℕ) (t : List Event) (e m s : ℕ) → QueueGood n In ws ph l t e →
      slice_index ws (status_word n m) ≡ s → Moves ph ph' m Wait (turn_at n m Wait s).phase →
      HeadStep n.budget m Wait (turn_at n m Wait s).phase (slice_index ws (status_word n m)) (head_in (lane_of n ws ph) l) (head_in (lane_of n ws ph') l)
  wait_head ws ph ph' l t e m zero g es mv = head_stays ws ph ph' l m Wait mv
  wait_head ws ph ph' l t e m (suc zero) g es mv = head_first ws ph ph' l t e m Wait Settle g mv (omega arith)
  wait_head ws ph ph' l t e m (suc (suc k)) g es mv0 =
      let turn = wait_turn n m k in
      let mv : Moves ph ph' m Wait (Granted (code_left n.budget (suc (suc k)))) =
      record { was = mv0.was; now = mv0.now ∙ ap (λ z. z.phase) turn; others = mv0.others } in
      subst (λ z. HeadStep n.budget m Wait z (slice_index ws (status_word n m)) (head_in (lane_of n ws ph) l)
      (head_in (lane_of n ws ph') l)) (sym (ap (λ z. z.phase) turn))
      (head_first ws ph ph' l t e m Wait (Granted (code_left n.budget (suc (suc k)))) g mv (omega arith))

  await_head : (ws : List ℕ) (ph ph' : ℕ → Phase) (l : List ℕ) (t : List Event) (e m left x : ℕ) → QueueGood n In ws ph l t e → Moves ph ph' m (Await left) (turn_at n m (Await left) x).phase →
      HeadStep n.budget m (Await left) (turn_at n m (Await left) x).phase (slice_index ws (status_word n m)) (head_in (lane_of n ws ph) l) (head_in (lane_of n ws ph') l)
  await_head ws ph ph' l t e m left zero g mv = head_stays ws ph ph' l m (Await left) mv
  await_head ws ph ph' l t e m left (suc s) g mv0 =
      let turn = await_turn n m left s in
      let mv : Moves ph ph' m (Await left) (Hand s left) = record { was = mv0.was; now = mv0.now ∙ ap (λ z. z.phase) turn; others = mv0.others } in
      subst (λ z. HeadStep n.budget m (Await left) z (slice_index ws (status_word n m)) (head_in (lane_of n ws ph) l) (head_in (lane_of n ws ph') l)) (sym (ap (λ z. z.phase) turn))
      (head_first ws ph ph' l t e m (Await left) (Hand s left) g mv tt)

  -- the act a of member m changes the head as HeadStep says
  abbrev pub ActHeads : List ℕ → List ℕ → List ℕ → (ℕ → Phase) → (ℕ → Phase) → ℕ → Phase → Act → Type 0
  ActHeads l k ws ph ph' m p a =
      Moves ph ph' m p (turn_at n m p (told a (slice_index ws (word_of a)))).phase → LineStep m p
      (turn_at n m p (told a (slice_index ws (word_of a)))).phase l k →
      HeadStep n.budget m p (turn_at n m p (told a (slice_index ws (word_of a)))).phase (slice_index ws (status_word n m)) (head_in (lane_of n ws ph) l)
      (head_in (lane_of n (slice_set ws (word_of a) (written a (slice_index ws (word_of a)))) ph') k)

  -- the same, by the word, what is written there and what was found
  abbrev HeadsBy : List ℕ → List ℕ → List ℕ → (ℕ → Phase) → (ℕ → Phase) → ℕ → Phase → ℕ → ℕ → ℕ → Type 0
  HeadsBy l k ws ph ph' m p w v g =
      Moves ph ph' m p (turn_at n m p g).phase → LineStep m p (turn_at n m p g).phase l k →
      HeadStep n.budget m p (turn_at n m p g).phase (slice_index ws (status_word n m)) (head_in (lane_of n ws ph) l)
      (head_in (lane_of n (slice_set ws w v) ph') k)

  -- each planned act changes the head of its queue as HeadStep says
  pub head_act : (ws : List ℕ) (ph ph' : ℕ → Phase) (l k : List ℕ) (t : List Event) (e m : ℕ) (p : Phase) (a : Act) →
      IsNaming n In (length ws) → QueueGood n In ws ph l t e → ph m ≡ p → plan_at n m p ≡ Some a → ActHeads l k ws ph ph' m p a
  head_act ws ph ph' l k t e m Clear a d g q pl =
      let w = next_write n In ws ph ph' m 0 d (g.inv.inside m (subst Busy (sym q) tt)) in
      subst (ActHeads l k ws ph ph' m Clear) (same_Some _ _ pl)
      (λ mv step. ap (head_in (lane_of n (slice_set ws (queue_next_word n m) 0) ph')) step ∙
      head_kept ws (slice_set ws (queue_next_word n m) 0) ph ph' l t e m Clear Reset g mv
      (unlisted l m (λ h. subst Listed q (g.inv.only m h))) (λ x i ne. w.status x i))
  head_act ws ph ph' l k t e m Reset a d g q pl =
      let w = status_write n In ws ph ph' m 0 d (g.inv.inside m (subst Busy (sym q) tt)) in
      subst (ActHeads l k ws ph ph' m Reset) (same_Some _ _ pl)
      (λ mv step. ap (head_in (lane_of n (slice_set ws (status_word n m) 0) ph')) step ∙
      head_kept ws (slice_set ws (status_word n m) 0) ph ph' l t e m Reset (Swing 0) g mv
      (unlisted l m (λ h. subst Listed q (g.inv.only m h))) (λ x i ne. w.status x i ne))
  head_act ws ph ph' l k t e m (Swing guess) a d g q pl =
      subst (ActHeads l k ws ph ph' m (Swing guess)) (same_Some _ _ pl)
      (at_swap (HeadsBy l k ws ph ph' m (Swing guess)) ws n.tail_class n.tail guess (m + 1)
      (λ mv step. swing_by_head ws ph ph' l k t e m guess (slice_index ws n.tail == guess) d g mv step))
  head_act ws ph ph' l k t e m (Link guess) a d g q pl =
      let b = link_guess n.budget In (lane_of n ws ph) l m guess g.inv q in
      let w = next_write n In ws ph ph' (guess - 1) (m + 1) d (in_line n.budget In (lane_of n ws ph) l (guess - 1) g.inv b.0) in
      subst (ActHeads l k ws ph ph' m (Link guess)) (same_Some _ _ pl)
      (λ mv step. ap (head_in (lane_of n (slice_set ws (queue_next_word n (guess - 1)) (m + 1)) ph')) step ∙
      head_kept ws (slice_set ws (queue_next_word n (guess - 1)) (m + 1)) ph ph' l t e m (Link guess) Wait g mv
      (link_behind ws ph l t e m guess g q) (λ x i ne. w.status x i))
  head_act ws ph ph' l k t e m Wait a d g q pl =
      subst (ActHeads l k ws ph ph' m Wait) (same_Some _ _ pl)
      (λ mv step.
      subst (λ z. HeadStep n.budget m Wait (turn_at n m Wait (slice_index ws (status_word n m))).phase (slice_index ws (status_word n m))
      (head_in (lane_of n ws ph) l) (head_in (lane_of n z ph') k)) (sym (set-get_or ws (status_word n m) 0))
      (subst (λ z. HeadStep n.budget m Wait (turn_at n m Wait (slice_index ws (status_word n m))).phase (slice_index ws (status_word n m))
      (head_in (lane_of n ws ph) l) (head_in (lane_of n ws ph') z)) (sym step)
      (wait_head ws ph ph' l t e m (slice_index ws (status_word n m)) g refl mv)))
  head_act ws ph ph' l k t e m (Look left u) a d g q pl =
      subst (ActHeads l k ws ph ph' m (Look left u)) (same_Some _ _ pl)
      (λ mv step.
      let f = head_first ws ph ph' l t e m (Look left u) (look_at left u (slice_index ws (queue_next_word n m))) g mv tt in
      (f.0, ap (λ z. head_in (lane_of n z ph') k) (set-get_or ws (queue_next_word n m) 0) ∙ ap (head_in (lane_of n ws ph')) step ∙ f.1))
  head_act ws ph ph' l k t e m (Close left) a d g q pl =
      subst (ActHeads l k ws ph ph' m (Close left)) (same_Some _ _ pl)
      (at_swap (HeadsBy l k ws ph ph' m (Close left)) ws n.tail_class n.tail (m + 1) 0
      (λ mv step. close_head ws ph ph' l k t e m left (slice_index ws n.tail == m + 1) g mv step))
  head_act ws ph ph' l k t e m (Await left) a d g q pl =
      subst (ActHeads l k ws ph ph' m (Await left)) (same_Some _ _ pl)
      (λ mv step.
      subst (λ z. HeadStep n.budget m (Await left) (turn_at n m (Await left) (slice_index ws (queue_next_word n m))).phase
      (slice_index ws (status_word n m)) (head_in (lane_of n ws ph) l) (head_in (lane_of n z ph') k))
      (sym (set-get_or ws (queue_next_word n m) 0))
      (subst (λ z. HeadStep n.budget m (Await left) (turn_at n m (Await left) (slice_index ws (queue_next_word n m))).phase (slice_index ws (status_word n m)) (head_in (lane_of n ws ph) l) (head_in (lane_of n ws ph') z)) (sym step)
      (await_head ws ph ph' l t e m left (slice_index ws (queue_next_word n m)) g mv)))
  head_act ws ph ph' l k t e m (Hand s left) a d g q pl =
      let idle = hand_idle n.queue n.budget s left in
      subst (ActHeads l k ws ph ph' m (Hand s left)) (same_Some _ _ pl)
      (λ mv step. hand_head ws ph ph' l k t e m s left d g (record { was = mv.was; now = mv.now ∙ idle; others = mv.others }) step)
  head_act ws ph ph' l k t e m _ a d g q pl = cc

-- some member of the queue has been given it
abbrev pub is_served : Option Head → Bool
is_served None = false
is_served (Some f) = served f.phase f.status

-- the queue is served after a move that leaves the head, or whose head had been given it
same_served : (x y : Option Head) → y ≡ x → is_served y ≡ true → is_served x ≡ true
same_served x y e h = ap is_served (sym e) ∙ h

was_served : (x : Option Head) (m : ℕ) (p : Phase) (s : ℕ) → x ≡ head m p s → served p s ≡ true → is_served x ≡ true
was_served x m p s e h = ap is_served e ∙ h

not_served : (y : Option Head) (m : ℕ) (p : Phase) (s : ℕ) (X : Type 0) → y ≡ head m p s → served p s ≡ false → is_served y ≡ true → X
not_served y m p s X e f h = let k : true ≡ false = sym h ∙ ap is_served e ∙ f in cc

-- a member that waits goes on waiting, must settle, or has the queue
abbrev pub MayGo : Phase → Phase → Type 0
MayGo Wait Wait = Unit {0}
MayGo Wait Settle = Unit {0}
MayGo Wait (Granted left) = Unit {0}
MayGo Wait q = ⊥
MayGo p q = Unit {0}

-- a move as HeadStep says leaves a queue served only where it was served before
pub served_before : (B : Option ℕ) (m : ℕ) (p q : Phase) (s : ℕ) (x y : Option Head) → HeadStep B m p q s x y →
    (p ≡ Wait → (left : ℕ) → q ≡ Granted left → is_pass s ≡ true) → MayGo p q → is_served y ≡ true → is_served x ≡ true
served_before B m (Swing g0) Settle s x y f w g h = not_served y m Settle f.1.0 (is_served x ≡ true) f.1.1 refl h
served_before B m Wait Wait s x y f w g h = same_served x y f h
served_before B m Wait Settle s x y f w g h = not_served y m Settle s (is_served x ≡ true) f.1 refl h
served_before B m Wait (Granted left) s x y f w g h = was_served x m Wait s f.0 (w refl left refl)
served_before B m Wait _ s x y f w g h = absurd g
served_before B m (Look left u) q s x y f w g h = was_served x m (Look left u) s f.0 refl
served_before B m (Close k0) Idle s x y f w g h = was_served x m (Close k0) s f.0 refl
served_before B m (Close k0) _ s x y f w g h = was_served x m (Close k0) s f.0 refl
served_before B m (Await k0) (Await left) s x y f w g h = same_served x y f h
served_before B m (Await k0) _ s x y f w g h = was_served x m (Await k0) s f.0 refl
served_before B m (Hand succ left) q s x y f w g h = was_served x m (Hand succ left) s f.0 refl
served_before B m _ _ s x y f w g h = same_served x y f h
