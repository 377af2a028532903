-- The moves that link a member to the one before it, empty the line, and hand the queue on.
use Rattle.std.specs.Prelude.{◌≡◌, ◌≢◌, ℕ, ◌+◌, ◌-◌, ◌<◌, List, [], ◌∷◌, Option, Some, None, refl}
use Rattle.std.proofs.Common.{sym, ◌∙◌, ap, subst, inl, inr, ⊎_elim, arith}
use Rattle.rl_word.specs.laws.Places.{same_or_not}
use Rattle.rl_queue.specs.declared.view.Phase.{Phase}
use Rattle.rl_queue.specs.declared.view.Phase.TheVariants.{Idle, Clear, Reset, Swing, Link, Wait, Hand, Above}
use Rattle.rl_queue.specs.Lane.{Lane, Has, Distinct, last_of, Listed, Busy, IsCode, Leads, Follows, Chain, Line, Own, QueueInvariant, IsFirst}
use Rattle.rl_queue.specs.laws.LineLaws.{last_first, chain_frame, chain_next, chain_link}
use Rattle.rl_queue.specs.laws.LaneLaws.{Stays, in_line, others_own, rebuild, is_first}

-- the guess of a member at Link is the one before it
pub chain_guess : (L : Lane) (p : ℕ) (l : List ℕ) (m g : ℕ) → Chain L p l → Has m l → L.phase m ≡ Link g → Has (g - 1) (p ∷ l) × (0 < g) × (L.next (g - 1) ≡ 0)
chain_guess L p [] m g c h e = absurd h
chain_guess L p (x ∷ r) m g c h e =
    ⊎_elim
    (λ q.
    let f : Follows (Link g) p (L.next p) x = subst (λ z. Follows z p (L.next p) x) (subst (λ z. L.phase z ≡ Link g) q e) c.1 in
    let gp : g - 1 ≡ p = omega (arith, f.0) in
    (inl gp, omega (arith, f.0), ap L.next gp ∙ f.1))
    (λ k. let rec = chain_guess L x r m g c.2 k e in (inr rec.0, rec.1, rec.2)) h

-- a next word of 0 may change where the member doesn't speak of it
own_next : (B : Option ℕ) (In : ℕ → Type 0) (p : Phase) (y s : ℕ) → Listed p → Own B In p 0 s → Own B In p y s
own_next B In Idle y s l o = tt
own_next B In Clear y s l o = tt
own_next B In Reset y s l o = absurd l
own_next B In (Swing g) y s l o = absurd l
own_next B In (Link g) y s l o = tt
own_next B In Wait y s l o = tt
own_next B In (Hand succ left) y s l o = let k : 0 ≡ succ + 1 = o.1 in absurd (omega arith)
own_next B In (Above None) y s l o = tt
own_next B In (Above (Some succ)) y s l o = let k : 0 ≡ succ + 1 = o in absurd (omega arith)
own_next B In _ y s l o = o

module _ (B : Option ℕ) (In : ℕ → Type 0) where
  -- what the guess of a member at Link names
  pub link_guess : (L : Lane) (l : List ℕ) (m g : ℕ) → QueueInvariant B In L l → L.phase m ≡ Link g → Has (g - 1) l × (0 < g) × (L.next (g - 1) ≡ 0)
  link_guess L l m g q e = at l (q.listed m (subst Listed (sym e) tt)) q.line where
    at : (k : List ℕ) → Has m k → Line B L k → Has (g - 1) k × (0 < g) × (L.next (g - 1) ≡ 0)
    at [] h line = absurd h
    at (x ∷ r) h line =
        ⊎_elim
        (λ k. let no_lead : Leads B (Link g) (L.status x) = subst (λ z. Leads B z (L.status x)) (subst (λ z. L.phase z ≡ Link g) k e) line.0 in absurd no_lead)
        (λ k. chain_guess L x r m g line.1 k e) h

  -- a member that links itself to the one before it waits from then on, in the same line
  pub link_moves : (L M : Lane) (l : List ℕ) (m g : ℕ) → QueueInvariant B In L l → L.phase m ≡ Link g → M.phase m ≡ Wait → M.tail ≡ L.tail →
      (In (g - 1) → M.next (g - 1) ≡ m + 1) →
      ((x : ℕ) → In x → x ≢ g - 1 → M.next x ≡ L.next x) → ((x : ℕ) → In x → M.status x ≡ L.status x) →
      ((x : ℕ) → x ≢ m → M.phase x ≡ L.phase x) → QueueInvariant B In M l
  link_moves L M l m g q e pm t nm ns ss ps =
      let guess = link_guess L l m g q e in
      let i : In (g - 1) = in_line B In L l (g - 1) q guess.0 in
      let listed : Listed (M.phase m) = subst Listed (sym pm) tt in
      rebuild B In L M l l m q ps q.distinct (λ x ne h. h) (λ x ne h. h) (λ h. q.listed m (subst Listed (sym e) tt)) (λ h. listed)
      (at l q.distinct (λ x h. in_line B In L l x q h) (q.listed m (subst Listed (sym e) tt)) (nm i) q.line)
      (λ x ne.
      ⊎_elim
      (λ k.
      let old : Own B In (L.phase x) 0 (L.status x) = subst (λ z. Own B In (L.phase x) z (L.status x)) (ap L.next k ∙ guess.2) (q.own x) in
      let ix : In x = subst In (sym k) i in
      let hx : Has x l = subst (λ z. Has z l) (sym k) guess.0 in
      subst (λ z. Own B In z (M.next x) (M.status x)) (sym (ps x ne))
      (own_next B In (L.phase x) (M.next x) (M.status x) (q.only x hx) (subst (λ z. Own B In (L.phase x) 0 z) (sym (ss x ix)) old)))
      (λ k. others_own B In L M l x q (record { phase = ps x ne; next = λ ix. ns x ix k; status = λ ix. ss x ix }))
      (same_or_not x (g - 1)))
      (subst (λ z. Own B In z (M.next m) (M.status m)) (sym pm) tt)
      (λ b. q.inside m (subst Busy (sym e) tt)) where
        at : (k : List ℕ) → Distinct k → ((x : ℕ) → Has x k → In x) → Has m k → M.next (g - 1) ≡ m + 1 → Line B L k → Line B M k
        at [] d ins h nx line = absurd h
        at (x ∷ r) d ins h nx line =
            let not_x : m ≢ x = λ k. let no_lead : Leads B (Link g) (L.status x) =
            subst (λ z. Leads B z (L.status x)) (subst (λ z. L.phase z ≡ Link g) k e) line.0 in no_lead in
            let hm : Has m r = ⊎_elim (λ k. absurd (not_x k)) (λ k. k) h in
            let c = chain_link L M x r m g d hm e line.1 pm (ss m (ins m h)) nx (λ y hy ne. ns y (ins y hy) ne)
            (λ y hy ne. (ss y (ins y (inr hy)), ps y ne)) in (
              subst (λ z. Leads B z (M.status x)) (sym (ps x (λ k. not_x (sym k)))) (subst (λ z. Leads B (L.phase x) z) (sym (ss x (ins x (inl refl)))) line.0),
              c.1,
              t ∙ line.2,
            )

  -- the last one empties the line
  pub close_moves : (L M : Lane) (l : List ℕ) (m : ℕ) → QueueInvariant B In L l → IsFirst (L.phase m) (L.status m) → L.tail ≡ m + 1 →
      M.tail ≡ 0 → M.phase m ≡ Idle →
      ((x : ℕ) → x ≢ m → Stays In L M x) → (l ≡ m ∷ []) × QueueInvariant B In M []
  close_moves L M l m q f tail t pm s =
      let a = is_first B In L l m q f in
      let g : QueueInvariant B In L (m ∷ a.0) = subst (λ z. QueueInvariant B In L z) a.1 q in
      let last : last_of m a.0 ≡ m = let k : L.tail ≡ last_of m a.0 + 1 = g.line.2 in omega arith in
      let nil : a.0 ≡ [] = last_first m a.0 g.distinct last in
      let one : l ≡ m ∷ [] = a.1 ∙ ap (λ z. m ∷ z) nil in
      let g1 : QueueInvariant B In L (m ∷ []) = subst (λ z. QueueInvariant B In L z) one q in (
        one,
        rebuild B In L M (m ∷ []) [] m g1 (λ x ne. (s x ne).phase) tt (λ x ne h. ⊎_elim (λ k. absurd (ne k)) (λ k. k) h) (λ x ne h. absurd h)
            (λ h. subst Listed pm h) (λ h. absurd h) t
            (λ x ne. others_own B In L M (m ∷ []) x g1 (s x ne))
            (subst (λ z. Own B In z (M.next m) (M.status m)) (sym pm) tt) (λ b. absurd (subst Busy pm b)),
      )

  -- the first hands the queue to the next
  pub hand_moves : (L M : Lane) (l : List ℕ) (m s left code : ℕ) → QueueInvariant B In L l → L.phase m ≡ Hand s left → IsCode B code →
      M.phase m ≡ Idle → M.tail ≡ L.tail →
      (In s → M.status s ≡ code) → ((x : ℕ) → In x → x ≢ s → M.status x ≡ L.status x) → ((x : ℕ) → In x → M.next x ≡ L.next x) → ((x : ℕ) → x ≢ m → M.phase x ≡ L.phase x) →
      (r : List ℕ) × (l ≡ m ∷ s ∷ r) × (L.phase s ≡ Wait) × (L.status s ≡ 0) × (M.phase s ≡ Wait) × (M.status s ≡ code) × QueueInvariant B In M (s ∷ r)
  hand_moves L M l m s left code q e good pm t sm ss ns ps =
      let f : IsFirst (L.phase m) (L.status m) = subst (λ z. IsFirst z (L.status m)) (sym e) tt in
      let a = is_first B In L l m q f in
      let g : QueueInvariant B In L (m ∷ a.0) = subst (λ z. QueueInvariant B In L z) a.1 q in
      let o : Own B In (Hand s left) (L.next m) (L.status m) = subst (λ z. Own B In z (L.next m) (L.status m)) e (q.own m) in
      let n = chain_next L m s a.0 g.line.1 o.1 in
      let two : l ≡ m ∷ s ∷ n.0 = a.1 ∙ ap (λ z. m ∷ z) n.1 in
      let g2 : QueueInvariant B In L (m ∷ s ∷ n.0) = subst (λ z. QueueInvariant B In L z) two q in
      let r = n.0 in
      let is : In s = in_line B In L (m ∷ s ∷ r) s g2 (inr (inl refl)) in
      let other : s ≢ m = λ k. g2.distinct.0 (inl (sym k)) in
      let ws : M.phase s ≡ Wait = ps s other ∙ n.2 in
      let lead : Leads B (M.phase s) (M.status s) = subst (λ z. Leads B z (M.status s)) (sym ws) (subst (IsCode B) (sym (sm is)) good) in (
        r,
        two,
        n.2,
        n.3,
        ws,
        sm is,
        rebuild B In L M (m ∷ s ∷ r) (s ∷ r) m g2 ps g2.distinct.1 (λ x ne h. ⊎_elim (λ k. absurd (ne k)) (λ k. k) h) (λ x ne h. inr h)
            (λ h. absurd (subst Listed pm h)) (λ h. absurd (g2.distinct.0 h)) (
              lead,
              chain_frame L M s r (ns s is)
                  (λ x h.
                  let ix : In x = in_line B In L (m ∷ s ∷ r) x g2 (inr (inr h)) in
                  let not_s : x ≢ s = λ k. g2.distinct.1.0 (subst (λ z. Has z r) k h) in
                  let not_m : x ≢ m = λ k. g2.distinct.0 (inr (subst (λ z. Has z r) k h)) in
                  (ns x ix, ss x ix not_s, ps x not_m)) n.4,
              t ∙ g2.line.2,
            )
            (λ x ne.
            ⊎_elim
            (λ k. subst (λ z. Own B In (M.phase z) (M.next z) (M.status z)) (sym k) (subst (λ z. Own B In z (M.next s) (M.status s)) (sym ws) tt))
            (λ k. others_own B In L M (m ∷ s ∷ r) x g2 (record { phase = ps x ne; next = λ ix. ns x ix; status = λ ix. ss x ix k }))
            (same_or_not x s))
            (subst (λ z. Own B In z (M.next m) (M.status m)) (sym pm) tt) (λ b. absurd (subst Busy pm b)),
      )
