-- No act gives a queue to a member where none had it: settling alone does.
use Rattle.std.specs.Prelude.{◌≡◌, ℕ, zero, suc, ◌<◌, true, false, List, [], ◌∷◌, length, slice_index, slice_set, Some, refl}
use Rattle.std.proofs.Common.{sym, ◌∙◌, ap, subst, inl, arith}
use Rattle.std.proofs.lemmas.Option.{same_Some}
use Rattle.rl_word.specs.Acts.{word_of, written, told}
use Rattle.rl_word.specs.declared.acts.Act.{Act}
use Rattle.rl_word.specs.declared.acts.Act.TheVariants.{Load}
use Rattle.rl_step.specs.declared.events.Event.{Event}
use Rattle.rl_queue.specs.declared.view.Phase.{Phase}
use Rattle.rl_queue.specs.declared.view.Phase.TheVariants.{Wait, Settle, Granted, Look, Close, Await, Hand, Above}
use Rattle.rl_queue.specs.Queue.{TheNames, status_word, plan_at, turn_at}
use Rattle.rl_queue.specs.Lane.{lane_of, Has, is_pass, served, LineStep, IsFirst}
use Rattle.rl_queue.specs.laws.LaneLaws.{in_line, is_first}
use Rattle.rl_queue.specs.QueueGood.{IsNaming, Moves, QueueGood}
use Rattle.rl_queue.specs.laws.QueueActs.{wait_turn}
use Rattle.rl_queue.specs.laws.QueueMoves.{one_first}
use Rattle.rl_queue.specs.Heads.{head_in}
use Rattle.rl_queue.specs.laws.QueueHeads.{head_act, is_served, served_before, MayGo}

-- a status that passes isn't 0
pass_pos : (s : ℕ) → is_pass s ≡ true → 0 < s
pass_pos zero h = cc
pass_pos (suc s) h = omega arith

-- who is served stands as a first does
pub served_first : (p : Phase) (s : ℕ) → served p s ≡ true → IsFirst p s
served_first Wait s h = pass_pos s h
served_first (Granted left) s h = tt
served_first (Look left u) s h = tt
served_first (Close left) s h = tt
served_first (Await left) s h = tt
served_first (Hand succ left) s h = tt
served_first (Above succ) s h = tt
served_first _ s h = cc

module _ (n : TheNames) (In : ℕ → Type 0) where
  -- one that is served is the first
  pub served_head : (ws : List ℕ) (ph : ℕ → Phase) (l : List ℕ) (t : List Event) (e i : ℕ) → QueueGood n In ws ph l t e →
      served (ph i) (slice_index ws (status_word n i)) ≡ true → is_served (head_in (lane_of n ws ph) l) ≡ true
  served_head ws ph l t e i g h =
      let a = is_first n.budget In (lane_of n ws ph) l i g.inv (served_first (ph i) _ h) in
      ap (λ z. is_served (head_in (lane_of n ws ph) z)) a.1 ∙ h

  -- and where the head is served a member is
  pub head_served : (ws : List ℕ) (ph : ℕ → Phase) (l : List ℕ) (t : List Event) (e : ℕ) → QueueGood n In ws ph l t e →
      is_served (head_in (lane_of n ws ph) l) ≡ true → (h : ℕ) × (In h × (served (ph h) (slice_index ws (status_word n h)) ≡ true))
  head_served ws ph l t e g h = at l (λ x k. in_line n.budget In (lane_of n ws ph) l x g.inv k) h where
    at : (k : List ℕ) → ((x : ℕ) → Has x k → In x) → is_served (head_in (lane_of n ws ph) k) ≡ true →
        (h : ℕ) × (In h × (served (ph h) (slice_index ws (status_word n h)) ≡ true))
    at [] f h = cc
    at (x ∷ r) f h = (x, (f x (inl refl), h))

  -- what turns may lead to, and that a waiting member is given the queue by its status alone
  wait_may_go : (m s : ℕ) → MayGo Wait (turn_at n m Wait s).phase
  wait_may_go m zero = tt
  wait_may_go m (suc zero) = tt
  wait_may_go m (suc (suc k)) = subst (λ z. MayGo Wait z) (sym (ap (λ z. z.phase) (wait_turn n m k))) tt

  wait_passes : (m s left : ℕ) → (turn_at n m Wait s).phase ≡ Granted left → is_pass s ≡ true
  wait_passes m zero left e = cc
  wait_passes m (suc zero) left e = cc
  wait_passes m (suc (suc k)) left e = refl

  turn_may_go : (m : ℕ) (p : Phase) (got : ℕ) → MayGo p (turn_at n m p got).phase
  turn_may_go m Wait got = wait_may_go m got
  turn_may_go m _ got = tt

  -- what a waiting member finds is its status
  pub wait_found : (ws : List ℕ) (m : ℕ) (p : Phase) (a : Act) → plan_at n m p ≡ Some a → p ≡ Wait →
      told a (slice_index ws (word_of a)) ≡ slice_index ws (status_word n m)
  wait_found ws m p a pl e =
      let same : Load (status_word n m) ≡ a = same_Some _ _ (sym (ap (plan_at n m) e) ∙ pl) in
      ap (λ b. told b (slice_index ws (word_of b))) (sym same)

  -- no act gives the queue to a member where none had it: settling alone does
  pub served_back : (ws : List ℕ) (ph ph' : ℕ → Phase) (l k : List ℕ) (t t' : List Event) (e e' m : ℕ) (p : Phase) (a : Act) →
      IsNaming n In (length ws) → QueueGood n In ws ph l t e → plan_at n m p ≡ Some a →
      (mv : Moves ph ph' m p (turn_at n m p (told a (slice_index ws (word_of a)))).phase) → LineStep m p
      (turn_at n m p (told a (slice_index ws (word_of a)))).phase l k →
      QueueGood n In (slice_set ws (word_of a) (written a (slice_index ws (word_of a)))) ph' k t' e' → (i : ℕ) →
      served (ph' i) (slice_index (slice_set ws (word_of a) (written a (slice_index ws (word_of a)))) (status_word n i)) ≡ true →
      (h : ℕ) × (In h × (served (ph h) (slice_index ws (status_word n h)) ≡ true))
  served_back ws ph ph' l k t t' e e' m p a d g pl mv step new i h =
      let q : Phase = (turn_at n m p (told a (slice_index ws (word_of a)))).phase in
      let f = head_act n In ws ph ph' l k t e m p a d g mv.was pl mv step in
      head_served ws ph l t e g
      (served_before n.budget m p q (slice_index ws (status_word n m)) (head_in (lane_of n ws ph) l)
      (head_in (lane_of n (slice_set ws (word_of a) (written a (slice_index ws (word_of a)))) ph') k) f
      (λ w left eq.
      let found : told a (slice_index ws (word_of a)) ≡ slice_index ws (status_word n m) = wait_found ws m p a pl w in
      wait_passes m _ left (sym (ap (λ z. (turn_at n m z (told a (slice_index ws (word_of a)))).phase) w ∙ ap (λ z. (turn_at n m Wait z).phase) found) ∙ eq))
      (turn_may_go m p (told a (slice_index ws (word_of a))))
      (served_head (slice_set ws (word_of a) (written a (slice_index ws (word_of a)))) ph' k t' e' i new h))

  -- while a member must settle nobody has been given the queue
  pub settle_unserved : (ws : List ℕ) (ph : ℕ → Phase) (l : List ℕ) (t : List Event) (e m i : ℕ) → QueueGood n In ws ph l t e →
      ph m ≡ Settle → served (ph i) (slice_index ws (status_word n i)) ≡ true → ⊥
  settle_unserved ws ph l t e m i g q h =
      let same : m ≡ i = one_first n In ws ph l t e m i g (subst (λ z. IsFirst z (slice_index ws (status_word n m))) (sym q) tt) (served_first (ph i) _ h) in
      let no : served (ph i) (slice_index ws (status_word n i)) ≡ false = ap (λ z. served z (slice_index ws (status_word n i))) (ap ph (sym same) ∙ q) in
      let k : true ≡ false = sym h ∙ no in cc
