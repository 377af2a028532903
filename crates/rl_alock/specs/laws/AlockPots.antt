-- How many ranks of a cohort may still enter while the other one waits that has announced: each act of its queue takes the entry
-- that it makes off that number.
use Rattle.std.specs.Prelude.{◌≡◌, ◌≢◌, ◌⊎◌, ℕ, zero, suc, ◌+◌, ◌-◌, ◌<◌, ◌≤◌, ◌==◌, Bool, true, false, List, [], ◌∷◌, length, if◌then◌else◌, slice_index, slice_set, Option, Some, None, refl}
use Rattle.std.proofs.Common.{sym, ◌∙◌, ap, subst, inl, inr, ⊎_elim, arith}
use Rattle.std.proofs.lemmas.Option.{same_Some}
use Rattle.std.proofs.lemmas.Bool.Decides.{eqb_tells}
use Rattle.rl_word.specs.laws.Places.{same_or_not}
use Rattle.rl_word.specs.Acts.{word_of, written, told}
use Rattle.rl_word.specs.declared.acts.Act.{Act}
use Rattle.rl_step.specs.declared.events.Event.{Event}
use Rattle.rl_step.specs.declared.events.Event.TheVariants as event
use Rattle.rl_queue.specs.declared.view.Phase.{Phase}
use Rattle.rl_queue.specs.declared.view.Phase.TheVariants.{Idle, Clear, Reset, Swing, Link, Wait, Settle, Granted, Look, Close, Await, Hand, Above}
use Rattle.rl_queue.specs.laws.Choices.{choose}
use Rattle.rl_queue.specs.Queue.{TheNames, status_word, status_code, code_left, QueueTurn, moves_to, moves_with, waits_at, joined_at, look_at, hand_turn, plan_at, turn_at}
use Rattle.rl_queue.specs.Lane.{lane_of, Lane, Has, LineStep, IsFirst}
use Rattle.rl_queue.specs.laws.LaneLaws.{is_first, in_line}
use Rattle.rl_queue.specs.QueueGood.{IsNaming, QueueGood, ActMoves}
use Rattle.rl_queue.specs.laws.QueueActs.{code_more}
use Rattle.rl_queue.specs.Heads.{Head, head_in}
use Rattle.rl_queue.specs.laws.QueueHeads.{head, HeadStep, head_act}
use Rattle.rl_queue.specs.laws.QueueServed.{wait_found}
use Rattle.rl_alock.specs.declared.view.SettleStage.{SettleStage}
use Rattle.rl_alock.specs.declared.view.SettleStage.TheVariants.{Announce, Tail, Victim}
use Rattle.rl_alock.specs.Overtakes.{pot}

-- the victim may enter no more
pub pot_victim : (B : ℕ) (y : Bool) (e : SettleStage) (p : Phase) (s : ℕ) → pot B true e p s ≤ pot B y e p s
pot_victim B y Announce Settle s = omega arith
pot_victim B y Tail Settle s = omega arith
pot_victim B y Victim Settle s = omega arith
pot_victim B y e _ s = omega arith

-- it is asked of a head alone how far it is in the entry
pub pot_away : (B : ℕ) (y : Bool) (e f : SettleStage) (p : Phase) (s : ℕ) → p ≢ Settle → pot B y e p s ≡ pot B y f p s
pot_away B y e f Settle s n = absurd (n refl)
pot_away B y e f _ s n = refl

-- whoever may let any in is first
pub pot_first : (B : ℕ) (y : Bool) (e : SettleStage) (p : Phase) (s : ℕ) → 0 < pot B y e p s → IsFirst p s
pot_first B y e Idle s h = absurd (omega arith)
pot_first B y e Clear s h = absurd (omega arith)
pot_first B y e Reset s h = absurd (omega arith)
pot_first B y e (Swing g) s h = absurd (omega arith)
pot_first B y e (Link g) s h = absurd (omega arith)
pot_first B y e Wait s h = omega arith
pot_first B y e _ s h = tt

-- of a queue: that of its head
abbrev pub head_pot : ℕ → Bool → (ℕ → SettleStage) → Option Head → ℕ
head_pot B y en None = 0
head_pot B y en (Some h) = pot B y (en h.who) h.phase h.status

-- a turn that leads to having the queue lets its rank enter
abbrev pub enters : Phase → ℕ
enters (Granted left) = 1
enters p = 0

module _ (n : TheNames) (In : ℕ → Type 0) (B : ℕ) (limit : n.budget ≡ Some B) (y : Bool) (en en' : ℕ → SettleStage) (m : ℕ)
    (moved : en' m ≡ Announce) (others : (i : ℕ) → i ≢ m → en' i ≡ en i) where
  -- the head stays who it is
  stays_pot : (p : Phase) (x z : Option Head) → p ≢ Settle → ((h : Head) → x ≡ Some h → h.who ≡ m → h.phase ≡ p) → z ≡ x →
      0 + head_pot B y en' z ≤ head_pot B y en x
  stays_pot p None z ne at e = let k : head_pot B y en' z ≡ 0 = ap (head_pot B y en') e in omega arith
  stays_pot p (Some h) z ne at e =
      let k : head_pot B y en' z ≡ pot B y (en' h.who) h.phase h.status = ap (head_pot B y en') e in
      let same : pot B y (en' h.who) h.phase h.status ≡ pot B y (en h.who) h.phase h.status =
      ⊎_elim
      (λ q. pot_away B y (en' h.who) (en h.who) h.phase h.status (λ r. ne (sym (at h refl q) ∙ r)))
      (λ q. ap (λ w. pot B y w h.phase h.status) (others h.who q)) (same_or_not h.who m) in
      omega arith

  -- the head moves, to one that lets no more in
  head_pots : (x z : Option Head) (p q : Phase) (s c : ℕ) → x ≡ head m p s → z ≡ head m q s → c + pot B y (en' m) q s ≤ pot B y (en m) p s →
      c + head_pot B y en' z ≤ head_pot B y en x
  head_pots x z p q s c ex ez le =
      let a : head_pot B y en x ≡ pot B y (en m) p s = ap (head_pot B y en) ex in
      let b : head_pot B y en' z ≡ pot B y (en' m) q s = ap (head_pot B y en') ez in omega arith

  new_head : (z : Option Head) (u : ℕ) → z ≡ head m Settle u → head_pot B y en' z ≡ 0
  new_head z u e = ap (head_pot B y en') e ∙ ap (λ w. pot B y w Settle u) moved

  -- a turn of the member takes its entry off
  abbrev TurnPots : Phase → ℕ → Option Head → Option Head → QueueTurn → Type 0
  TurnPots p s x z u = HeadStep n.budget m p u.phase s x z → enters u.phase + head_pot B y en' z ≤ head_pot B y en x

  abbrev Known : Phase → Option Head → Type 0
  Known p x = (h : Head) → x ≡ Some h → h.who ≡ m → h.phase ≡ p

  join_pots : (guess s : ℕ) (x z : Option Head) → Known (Swing guess) x → TurnPots (Swing guess) s x z (moves_with (joined_at guess) (event.Join n.queue m))
  join_pots guess s x z k =
      choose (λ q. TurnPots (Swing guess) s x z (moves_with q (event.Join n.queue m))) (guess == 0) Settle (Link guess)
      (λ f. let a = new_head z f.1.0 f.1.1 in omega arith) (λ f. stays_pot (Swing guess) x z (λ e. cc) k f)

  look_pot : (left : ℕ) (u : Bool) (got s : ℕ) (e : SettleStage) → pot B y e (look_at left u got) s ≤ left
  look_pot left false got s e = choose (λ q. pot B y e q s ≤ left) (got == 0) (Close left) (Hand (got - 1) left) (omega arith) (omega arith)
  look_pot left true got s e =
      choose (λ q. pot B y e q s ≤ left) (got == 0) (Above None) (if left == 0 then Above (Some (got - 1)) else Hand (got - 1) left) (omega arith)
      (choose (λ q. pot B y e q s ≤ left) (left == 0) (Above (Some (got - 1))) (Hand (got - 1) left) (omega arith) (omega arith))

  look_outside : (left : ℕ) (u : Bool) (got : ℕ) → enters (look_at left u got) ≡ 0
  look_outside left false got = choose (λ q. enters q ≡ 0) (got == 0) (Close left) (Hand (got - 1) left) refl refl
  look_outside left true got =
      choose (λ q. enters q ≡ 0) (got == 0) (Above None) (if left == 0 then Above (Some (got - 1)) else Hand (got - 1) left) refl
      (choose (λ q. enters q ≡ 0) (left == 0) (Above (Some (got - 1))) (Hand (got - 1) left) refl refl)

  granted_pots : (got s : ℕ) (x z : Option Head) → got ≡ s → got ≢ 0 → got ≢ 1 → TurnPots Wait s x z (moves_to (Granted (code_left n.budget got)))
  granted_pots got s x z es n0 n1 f =
      let c : code_left n.budget got ≡ got - 2 = ap (λ w. code_left w got) limit in
      head_pots x z Wait (Granted (code_left n.budget got)) s 1 f.0 f.1 (omega arith)

  pass_pot : (left : ℕ) → status_code (Some B) left - 1 ≤ left
  pass_pot zero = omega arith
  pass_pot (suc k) = let c : status_code (Some B) (suc k) ≡ suc (suc k) = code_more B k in omega arith

  hand_pots : (succ left s : ℕ) (x z : Option Head) → TurnPots (Hand succ left) s x z (hand_turn n.queue n.budget succ left)
  hand_pots succ left s x z f =
      let idle : enters (hand_turn n.queue n.budget succ left).phase ≡ 0 = hand_out n.budget in
      let a : head_pot B y en x ≡ left = ap (head_pot B y en) f.0 in
      let b : head_pot B y en' z ≡ status_code n.budget left - 1 = ap (head_pot B y en') f.1 in
      let c : status_code n.budget left - 1 ≤ left = subst (λ w. status_code w left - 1 ≤ left) (sym limit) (pass_pot left) in omega arith where
        hand_out : (D : Option ℕ) → enters (hand_turn n.queue D succ left).phase ≡ 0
        hand_out None = refl
        hand_out (Some b) = choose (λ w. enters w.phase ≡ 0) (left == 0) (moves_to Idle) (moves_with Idle (event.Pass n.queue succ)) refl refl

  choose_by : (P : QueueTurn → Type 0) (a b : ℕ) (u w : QueueTurn) → P u → (a ≢ b → P w) → P (if a == b then u else w)
  choose_by P a b u w pu pw = ⊎_elim (λ q. subst (λ z. P (if z then u else w)) (sym q.0) pu)
      (λ q. subst (λ z. P (if z then u else w)) (sym q.0) (pw q.1)) (eqb_tells a b)

  turn_pots : (p : Phase) (got s : ℕ) (x z : Option Head) → p ≢ Settle → ((left : ℕ) → p ≢ Granted left) → (p ≡ Wait → got ≡ s) →
      Known p x → TurnPots p s x z (turn_at n m p got)
  turn_pots (Swing guess) got s x z n0 g es k =
      choose (TurnPots (Swing guess) s x z) (got == guess) (moves_with (joined_at guess) (event.Join n.queue m)) (moves_to (Swing got))
      (join_pots guess s x z k) (λ f. stays_pot (Swing guess) x z n0 k f)
  turn_pots Wait got s x z n0 g es k =
      choose_by (TurnPots Wait s x z) got 0 (waits_at Wait) (if got == 1 then moves_to Settle else moves_to (Granted (code_left n.budget got)))
      (λ f. stays_pot Wait x z n0 k f)
      (λ a. choose_by (TurnPots Wait s x z) got 1 (moves_to Settle) (moves_to (Granted (code_left n.budget got)))
      (λ f. let b = new_head z s f.1 in omega arith)
      (λ b. granted_pots got s x z (es refl) a b))
  turn_pots Settle got s x z n g es k = absurd (n refl)
  turn_pots (Granted left) got s x z n g es k = absurd (g left refl)
  turn_pots (Look left u) got s x z n0 g es k =
      λ f. let a = look_pot left u got s (en' m) in let b = look_outside left u got in
      head_pots x z (Look left u) (look_at left u got) s (enters (look_at left u got)) f.0 f.1 (omega arith)
  turn_pots (Close left) got s x z n0 g es k =
      choose (TurnPots (Close left) s x z) (got == m + 1) (moves_to Idle) (moves_to (Await left))
      (λ f. let a : head_pot B y en' z ≡ 0 = ap (head_pot B y en') f.1 in omega arith)
      (λ f. head_pots x z (Close left) (Await left) s 0 f.0 f.1 (omega arith))
  turn_pots (Await left) got s x z n0 g es k =
      choose (TurnPots (Await left) s x z) (got == 0) (waits_at (Await left)) (moves_to (Hand (got - 1) left))
      (λ f. stays_pot (Await left) x z n0 k f)
      (λ f. head_pots x z (Await left) (Hand (got - 1) left) s 0 f.0 f.1 (omega arith))
  turn_pots (Hand succ left) got s x z n g es k = hand_pots succ left s x z
  turn_pots p got s x z n g es k = λ f. stays_pot p x z n k f

  plans_no_settle : (p : Phase) (a : Act) → plan_at n m p ≡ Some a → (p ≢ Settle) × ((left : ℕ) → p ≢ Granted left)
  plans_no_settle p a pl =
      (λ e. let k : None ≡ Some a = sym (ap (plan_at n m) e) ∙ pl in cc, λ left e. let k : None ≡ Some a = sym (ap (plan_at n m) e) ∙ pl in cc)

  -- the head of a line has the phase of its member
  head_known : (L : Lane) (l : List ℕ) (p : Phase) → L.phase m ≡ p → Known p (head_in L l)
  head_known L [] p e h eq who = cc
  head_known L (x ∷ r) p e h eq who =
      let same : record { who = x; phase = L.phase x; status = L.status x } ≡ h = same_Some _ _ eq in
      sym (ap (λ w. w.phase) same) ∙ ap L.phase (ap (λ w. w.who) same ∙ who) ∙ e

  -- Each planned act of the queue takes the entry that it makes off what its head may let in.
  pub act_pots : (ws : List ℕ) (ph ph' : ℕ → Phase) (l k : List ℕ) (t : List Event) (e : ℕ) (p : Phase) (a : Act) →
      IsNaming n In (length ws) → QueueGood n In ws ph l t e → ph m ≡ p → plan_at n m p ≡ Some a →
      ActMoves n In ws ph ph' m p a → LineStep m p (turn_at n m p (told a (slice_index ws (word_of a)))).phase l k →
      enters (turn_at n m p (told a (slice_index ws (word_of a)))).phase + head_pot B y en'
      (head_in (lane_of n (slice_set ws (word_of a) (written a (slice_index ws (word_of a)))) ph') k) ≤ head_pot B y en
      (head_in (lane_of n ws ph) l)
  act_pots ws ph ph' l k t e p a d g q pl mv step =
      let no = plans_no_settle p a pl in
      turn_pots p (told a (slice_index ws (word_of a))) (slice_index ws (status_word n m)) (head_in (lane_of n ws ph) l)
      (head_in (lane_of n (slice_set ws (word_of a) (written a (slice_index ws (word_of a)))) ph') k)
      no.0 no.1 (λ w. wait_found n In ws m p a pl w) (head_known (lane_of n ws ph) l p q) (head_act n In ws ph ph' l k t e m p a d g q pl mv step)

-- a member lets no more in than its queue's head, and the head is a member
pub pot_of_head : (n : TheNames) (In : ℕ → Type 0) (B : ℕ) (y : Bool) (en : ℕ → SettleStage) (ws : List ℕ) (ph : ℕ → Phase) (l : List ℕ)
    (t : List Event) (e m : ℕ) → QueueGood n In ws ph l t e →
    pot B y (en m) (ph m) (slice_index ws (status_word n m)) ≤ head_pot B y en (head_in (lane_of n ws ph) l)
pot_of_head n In B y en ws ph l t e m g = by (pot B y (en m) (ph m) (slice_index ws (status_word n m))) refl where
  by : (x : ℕ) → pot B y (en m) (ph m) (slice_index ws (status_word n m)) ≡ x →
      pot B y (en m) (ph m) (slice_index ws (status_word n m)) ≤ head_pot B y en (head_in (lane_of n ws ph) l)
  by zero eq = omega arith
  by (suc x) eq =
      let a = is_first n.budget In (lane_of n ws ph) l m g.inv (pot_first B y (en m) (ph m) (slice_index ws (status_word n m)) (omega arith)) in
      let same : head_pot B y en (head_in (lane_of n ws ph) l) ≡ pot B y (en m) (ph m) (slice_index ws (status_word n m)) =
      ap (λ z. head_pot B y en (head_in (lane_of n ws ph) z)) a.1 in
      omega arith

pub head_is : (n : TheNames) (In : ℕ → Type 0) (B : ℕ) (y : Bool) (en : ℕ → SettleStage) (ws : List ℕ) (ph : ℕ → Phase) (l : List ℕ)
    (t : List Event) (e : ℕ) → QueueGood n In ws ph l t e →
    (head_pot B y en (head_in (lane_of n ws ph) l) ≡ 0) ⊎ ((h : ℕ) × (In h) ×
    (head_pot B y en (head_in (lane_of n ws ph) l) ≡ pot B y (en h) (ph h) (slice_index ws (status_word n h))))
head_is n In B y en ws ph l t e g = at l (λ x h. in_line n.budget In (lane_of n ws ph) l x g.inv h) where
  at : (k : List ℕ) → ((x : ℕ) → Has x k → In x) → (head_pot B y en (head_in (lane_of n ws ph) k) ≡ 0) ⊎ ((h : ℕ) × (In h) ×
      (head_pot B y en (head_in (lane_of n ws ph) k) ≡ pot B y (en h) (ph h) (slice_index ws (status_word n h))))
  at [] f = inl refl
  at (x ∷ r) f = inr (x, f x (inl refl), refl)
