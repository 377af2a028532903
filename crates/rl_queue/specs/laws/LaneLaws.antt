-- How a queue stays good while one member moves: outside the line, at its head, and into it.
use Rattle.std.specs.Prelude.{◌≡◌, ◌≢◌, ◌⊎◌, ℕ, ◌+◌, ◌<◌, ◌≤◌, List, [], ◌∷◌, ◌++◌, Option, refl}
use Rattle.std.proofs.Common.{sym, ◌∙◌, ap, subst, inl, inr, ⊎_elim, arith}
use Rattle.rl_word.specs.laws.Places.{same_or_not}
use Rattle.rl_queue.specs.declared.view.Phase.{Phase}
use Rattle.rl_queue.specs.declared.view.Phase.TheVariants.{Idle, Clear, Reset, Swing, Link, Wait, Settle}
use Rattle.rl_queue.specs.Lane.{Lane, Has, Distinct, last_of, Listed, Busy, Leads, Line, Own, QueueInvariant, IsFirst}
use Rattle.rl_queue.specs.laws.LineLaws.{has_last, has_more, has_less, distinct_more, last_more, chain_frame, chain_append, chain_behind, Behind}

-- who stands in the line uses the queue
pub listed_busy : (p : Phase) → Listed p → Busy p
listed_busy Idle h = h
listed_busy Clear h = absurd h
listed_busy Reset h = absurd h
listed_busy (Swing g) h = absurd h
listed_busy _ h = tt

-- a member uses the queue or is idle
pub busy_or_idle : (p : Phase) → Busy p ⊎ (p ≡ Idle)
busy_or_idle Idle = inr refl
busy_or_idle _ = inl tt

-- who stands as a first does stands in the line
first_listed : (p : Phase) (s : ℕ) → IsFirst p s → Listed p
first_listed Idle s h = h
first_listed Clear s h = h
first_listed Reset s h = h
first_listed (Swing g) s h = h
first_listed (Link g) s h = absurd h
first_listed _ s h = tt

-- and isn't one with status 0 behind another
first_behind : (p : Phase) (s : ℕ) → IsFirst p s → s ≡ 0 → Behind p → ⊥
first_behind Idle s h z b = h
first_behind Clear s h z b = h
first_behind Reset s h z b = h
first_behind (Swing g) s h z b = h
first_behind (Link g) s h z b = h
first_behind Wait s h z b = absurd (omega arith)
first_behind _ s h z b = b

-- a member that leads isn't at Link, and is listed
leads_listed : (B : Option ℕ) (p : Phase) (s : ℕ) → Leads B p s → Listed p
leads_listed B Idle s h = h
leads_listed B Clear s h = h
leads_listed B Reset s h = h
leads_listed B (Swing g) s h = h
leads_listed B _ s h = tt

-- member x's phase and words are as they were
pub record Stays (In : ℕ → Type 0) (L M : Lane) (x : ℕ) : Type 0 where
  pub phase : M.phase x ≡ L.phase x
  pub next : In x → M.next x ≡ L.next x
  pub status : In x → M.status x ≡ L.status x

module _ (B : Option ℕ) (In : ℕ → Type 0) where
  -- who stands in the line is a member
  pub in_line : (L : Lane) (l : List ℕ) (x : ℕ) → QueueInvariant B In L l → Has x l → In x
  in_line L l x g h = g.inside x (listed_busy (L.phase x) (g.only x h))

  -- what a member knows of its words stays true while they stay
  pub own_stays : (p : Phase) (x s y u : ℕ) → Own B In p x s → (Busy p → y ≡ x) → (Busy p → u ≡ s) → Own B In p y u
  own_stays p x s y u o en es =
      ⊎_elim
      (λ b. subst (λ z. Own B In p z u) (sym (en b)) (subst (λ z. Own B In p x z) (sym (es b)) o))
      (λ e. subst (λ z. Own B In z y u) (sym e) tt)
      (busy_or_idle p)

  -- so it does for each member that is as it was
  pub others_own : (L M : Lane) (l : List ℕ) (x : ℕ) → QueueInvariant B In L l → Stays In L M x → Own B In (M.phase x) (M.next x) (M.status x)
  others_own L M l x g s =
      subst (λ z. Own B In z (M.next x) (M.status x)) (sym s.phase)
      (own_stays (L.phase x) (L.next x) (L.status x) (M.next x) (M.status x) (g.own x) (λ b. s.next (g.inside x b)) (λ b. s.status (g.inside x b)))

  -- a lane M with the line k, after a move of member m alone
  pub rebuild : (L M : Lane) (l k : List ℕ) (m : ℕ) → QueueInvariant B In L l → ((x : ℕ) → x ≢ m → M.phase x ≡ L.phase x) → Distinct k →
      ((x : ℕ) → x ≢ m → Has x l → Has x k) → ((x : ℕ) → x ≢ m → Has x k → Has x l) → (Listed (M.phase m) → Has m k) → (Has m k → Listed (M.phase m)) →
      Line B M k → ((x : ℕ) → x ≢ m → Own B In (M.phase x) (M.next x) (M.status x)) → Own B In (M.phase m) (M.next m) (M.status m) →
      (Busy (M.phase m) → In m) → QueueInvariant B In M k
  rebuild L M l k m g ph d into back mine listed line others own inside =
      record {
        distinct = d;
        listed = λ x h. ⊎_elim
            (λ q. subst (λ z. Has z k) (sym q) (mine (subst (λ z. Listed (M.phase z)) q h)))
            (λ q. into x q (g.listed x (subst Listed (ph x q) h))) (same_or_not x m);
        only = λ x h. ⊎_elim
            (λ q. subst (λ z. Listed (M.phase z)) (sym q) (listed (subst (λ z. Has z k) q h)))
            (λ q. subst Listed (sym (ph x q)) (g.only x (back x q h))) (same_or_not x m);
        line = line;
        own = λ x. ⊎_elim (λ q. subst (λ z. Own B In (M.phase z) (M.next z) (M.status z)) (sym q) own) (λ q. others x q) (same_or_not x m);
        inside = λ x b. ⊎_elim
            (λ q. subst In (sym q) (inside (subst (λ z. Busy (M.phase z)) q b)))
            (λ q. g.inside x (subst Busy (ph x q) b)) (same_or_not x m);
      }

  -- a line whose members and words stay
  pub line_frame : (L M : Lane) (l : List ℕ) → M.tail ≡ L.tail →
      ((x : ℕ) → Has x l → (M.next x ≡ L.next x) × (M.status x ≡ L.status x) × (M.phase x ≡ L.phase x)) → Line B L l → Line B M l
  line_frame L M [] t f c = t ∙ c
  line_frame L M (h ∷ r) t f c =
      let s = f h (inl refl) in (
        subst (λ z. Leads B z (M.status h)) (sym s.2) (subst (λ z. Leads B (L.phase h) z) (sym s.1) c.0),
        chain_frame L M h r s.0 (λ x k. f x (inr k)) c.1,
        t ∙ c.2,
      )

  -- a member outside the line moves, and stays outside
  pub outside : (L M : Lane) (l : List ℕ) (m : ℕ) → QueueInvariant B In L l → (Listed (L.phase m) → ⊥) → (Listed (M.phase m) → ⊥) → M.tail ≡ L.tail →
      ((x : ℕ) → x ≢ m → Stays In L M x) → Own B In (M.phase m) (M.next m) (M.status m) → (Busy (M.phase m) → In m) → QueueInvariant B In M l
  outside L M l m g was now t s own inside =
      rebuild L M l l m g (λ x ne. (s x ne).phase) g.distinct (λ x ne h. h) (λ x ne h. h) (λ h. absurd (now h)) (λ h. absurd (was (g.only m h)))
      (line_frame L M l t
      (λ x h.
      let ne : x ≢ m = λ e. was (g.only m (subst (λ z. Has z l) e h)) in
      let k : In x = in_line L l x g h in
      ((s x ne).next k, (s x ne).status k, (s x ne).phase)) g.line)
      (λ x ne. others_own L M l x g (s x ne)) own inside

  -- the first member moves, and stays first
  pub first_moves : (L M : Lane) (h : ℕ) (r : List ℕ) → QueueInvariant B In L (h ∷ r) → M.tail ≡ L.tail → M.next h ≡ L.next h → M.status h ≡ L.status h →
      ((x : ℕ) → x ≢ h → Stays In L M x) → Leads B (M.phase h) (M.status h) → Own B In (M.phase h) (M.next h) (M.status h) → QueueInvariant B In M (h ∷ r)
  first_moves L M h r g t en es s leads own =
      rebuild L M (h ∷ r) (h ∷ r) h g (λ x ne. (s x ne).phase) g.distinct (λ x ne k. k) (λ x ne k. k) (λ k. inl refl)
      (λ k. leads_listed B (M.phase h) (M.status h) leads) (
        leads,
        chain_frame L M h r en
            (λ x k.
            let ne : x ≢ h = λ e. g.distinct.0 (subst (λ z. Has z r) e k) in
            let i : In x = in_line L (h ∷ r) x g (inr k) in
            ((s x ne).next i, (s x ne).status i, (s x ne).phase)) g.line.1,
        t ∙ g.line.2,
      )
      (λ x ne. others_own L M (h ∷ r) x g (s x ne)) own (λ b. in_line L (h ∷ r) h g (inl refl))

  -- who stands as a first does is the first
  pub is_first : (L : Lane) (l : List ℕ) (m : ℕ) → QueueInvariant B In L l → IsFirst (L.phase m) (L.status m) → (r : List ℕ) × (l ≡ m ∷ r)
  is_first L l m g f = at l (g.listed m (first_listed (L.phase m) (L.status m) f)) g.line where
    at : (k : List ℕ) → Has m k → Line B L k → (r : List ℕ) × (k ≡ m ∷ r)
    at [] h line = absurd h
    at (x ∷ r) h line =
        ⊎_elim
        (λ e. (r, ap (λ z. z ∷ r) (sym e)))
        (λ k. let b = chain_behind L x r m line.1 k in absurd (first_behind (L.phase m) (L.status m) f b.0 b.1)) h

  -- a swing from 0 on an empty queue
  pub swing_first : (L M : Lane) (l : List ℕ) (m : ℕ) → QueueInvariant B In L l → L.tail ≡ 0 → In m → M.tail ≡ m + 1 → M.next m ≡ 0 →
      M.status m ≡ 0 → M.phase m ≡ Settle →
      ((x : ℕ) → x ≢ m → Stays In L M x) → (l ≡ []) × QueueInvariant B In M (m ∷ [])
  swing_first L M [] m g z i t nx st ph s = (
    refl,
    rebuild L M [] (m ∷ []) m g (λ x ne. (s x ne).phase) ((λ h. h), tt) (λ x ne h. absurd h) (λ x ne h. ⊎_elim (λ e. absurd (ne e)) (λ k. k) h)
        (λ h. inl refl) (λ h. subst Listed (sym ph) tt)
        (subst (λ y. Leads B y (M.status m)) (sym ph) tt, nx, t)
        (λ x ne. others_own L M [] x g (s x ne))
        (let small : M.status m ≤ 1 = omega arith in subst (λ y. Own B In y (M.next m) (M.status m)) (sym ph) small) (λ b. i),
  )
  swing_first L M (h ∷ r) m g z i t nx st ph s = let k : L.tail ≡ last_of h r + 1 = g.line.2 in absurd (omega arith)

  -- a swing behind the last
  pub swing_next : (L M : Lane) (l : List ℕ) (m g : ℕ) → QueueInvariant B In L l → (Listed (L.phase m) → ⊥) → L.tail ≡ g → 0 < g → In m →
      M.tail ≡ m + 1 → M.next m ≡ 0 → M.status m ≡ 0 → M.phase m ≡ Link g →
      ((x : ℕ) → x ≢ m → Stays In L M x) → (h : ℕ) × (r : List ℕ) × (l ≡ h ∷ r) × QueueInvariant B In M (h ∷ (r ++ m ∷ []))
  swing_next L M [] m g q was e pos i t nx st ph s = let k : L.tail ≡ 0 = q.line in absurd (omega arith)
  swing_next L M (h ∷ r) m g q was e pos i t nx st ph s =
      let new : Has m (h ∷ r) → ⊥ = λ k. was (q.only m k) in
      let tail : L.tail ≡ last_of h r + 1 = q.line.2 in
      let guess : g ≡ last_of h r + 1 = sym e ∙ tail in
      let same : (x : ℕ) → Has x (h ∷ r) → (M.next x ≡ L.next x) × (M.status x ≡ L.status x) × (M.phase x ≡ L.phase x) = λ x k.
      let ne : x ≢ m = λ y. new (subst (λ z. Has z (h ∷ r)) y k) in
      let j : In x = in_line L (h ∷ r) x q k in
      ((s x ne).next j, (s x ne).status j, (s x ne).phase) in
      let a = same h (inl refl) in (
        h,
        r,
        refl,
        rebuild L M (h ∷ r) (h ∷ (r ++ m ∷ [])) m q (λ x ne. (s x ne).phase) (distinct_more m (h ∷ r) q.distinct new)
            (λ x ne k. has_more x m (h ∷ r) k)
            (λ x ne k. ⊎_elim (λ p. p) (λ p. absurd (ne p)) (has_less x m (h ∷ r) k))
            (λ k. inr (has_last m r)) (λ k. subst Listed (sym ph) tt) (
              subst (λ z. Leads B z (M.status h)) (sym a.2) (subst (λ z. Leads B (L.phase h) z) (sym a.1) q.line.0),
              chain_append M h r m (chain_frame L M h r a.0 (λ x k. same x (inr k)) q.line.1) st (ph ∙ ap (λ z. Link z) guess) nx,
              t ∙ ap (λ z. z + 1) (sym (last_more h m r)),
            )
            (λ x ne. others_own L M (h ∷ r) x q (s x ne)) (subst (λ z. Own B In z (M.next m) (M.status m)) (sym ph) tt) (λ b. i),
      )
