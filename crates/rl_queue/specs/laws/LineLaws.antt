-- Lists without a number twice, and the chain of members behind a first one.
use Rattle.std.specs.Prelude.{◌≡◌, ◌≢◌, ◌⊎◌, ℕ, ◌+◌, ◌-◌, List, [], ◌∷◌, ◌++◌, refl}
use Rattle.std.proofs.Common.{sym, ◌∙◌, ap, subst, inl, inr, ⊎_elim, arith}
use Rattle.rl_word.specs.laws.Places.{same_or_not}
use Rattle.rl_queue.specs.declared.view.Phase.{Phase}
use Rattle.rl_queue.specs.declared.view.Phase.TheVariants.{Link, Wait}
use Rattle.rl_queue.specs.Lane.{Lane, Has, Distinct, last_of, Follows, Chain}

-- what was put at the end of a list stands in it
pub has_last : (m : ℕ) (xs : List ℕ) → Has m (xs ++ m ∷ [])
has_last m [] = inl refl
has_last m (x ∷ xs) = inr (has_last m xs)

-- what stood in a list stands in a longer one
pub has_more : (m y : ℕ) (xs : List ℕ) → Has m xs → Has m (xs ++ y ∷ [])
has_more m y [] h = absurd h
has_more m y (x ∷ xs) h = ⊎_elim (λ e. inl e) (λ k. inr (has_more m y xs k)) h

-- what stands in a longer list stood in it before, or is what was put at its end
pub has_less : (m y : ℕ) (xs : List ℕ) → Has m (xs ++ y ∷ []) → Has m xs ⊎ (m ≡ y)
has_less m y [] h = ⊎_elim (λ e. inr e) (λ k. absurd k) h
has_less m y (x ∷ xs) h = ⊎_elim (λ e. inl (inl e)) (λ k. ⊎_elim (λ p. inl (inr p)) (λ q. inr q) (has_less m y xs k)) h

-- a list stays without a number twice where a new one is put at its end
pub distinct_more : (y : ℕ) (xs : List ℕ) → Distinct xs → (Has y xs → ⊥) → Distinct (xs ++ y ∷ [])
distinct_more y [] d f = (λ h. h, tt)
distinct_more y (x ∷ xs) d f =
    (λ h. ⊎_elim (λ k. d.0 k) (λ e. f (inl (sym e))) (has_less x y xs h), distinct_more y xs d.1 (λ k. f (inr k)))

-- the last of a list is what was put at its end
pub last_more : (p y : ℕ) (r : List ℕ) → last_of p (r ++ y ∷ []) ≡ y
last_more p y [] = refl
last_more p y (x ∷ r) = last_more x y r

-- the last of p and r is p or stands in r
pub has_last_of : (p : ℕ) (r : List ℕ) → Has (last_of p r) (p ∷ r)
has_last_of p [] = inl refl
has_last_of p (x ∷ r) = inr (has_last_of x r)

-- only a list of one has its first as its last
pub last_first : (h : ℕ) (r : List ℕ) → Distinct (h ∷ r) → last_of h r ≡ h → r ≡ []
last_first h [] d e = refl
last_first h (x ∷ r) d e = absurd (d.0 (subst (λ z. Has z (x ∷ r)) e (has_last_of x r)))

-- frame: what is said of a chain stays where its words and phases do
pub chain_frame : (L M : Lane) (p : ℕ) (l : List ℕ) → M.next p ≡ L.next p →
    ((x : ℕ) → Has x l → (M.next x ≡ L.next x) × (M.status x ≡ L.status x) × (M.phase x ≡ L.phase x)) → Chain L p l → Chain M p l
chain_frame L M p [] e f c = e ∙ c
chain_frame L M p (m ∷ r) e f c =
    let s = f m (inl refl) in (
      s.1 ∙ c.0,
      subst (λ z. Follows z p (M.next p) m) (sym s.2) (subst (λ z. Follows (L.phase m) p z m) (sym e) c.1),
      chain_frame L M m r s.0 (λ x h. f x (inr h)) c.2,
    )

-- one more at the end
pub chain_append : (L : Lane) (p : ℕ) (l : List ℕ) (x : ℕ) → Chain L p l → L.status x ≡ 0 → L.phase x ≡ Link (last_of p l + 1) →
    L.next x ≡ 0 → Chain L p (l ++ x ∷ [])
chain_append L p [] x c s e n = (s, subst (λ z. Follows z p (L.next p) x) (sym e) (refl, c), n)
chain_append L p (m ∷ r) x c s e n = (c.0, c.1, chain_append L m r x c.2 s e n)

-- a member behind the first is at Link or waits, with status 0
abbrev pub Behind : Phase → Type 0
Behind (Link g) = Unit {0}
Behind Wait = Unit {0}
Behind _ = ⊥

-- so stands whoever follows a member
follows_behind : (ph : Phase) (p x m : ℕ) → Follows ph p x m → Behind ph
follows_behind (Link g) p x m f = tt
follows_behind Wait p x m f = tt
follows_behind _ p x m f = f

-- each member of a chain stands behind the first, with status 0
pub chain_behind : (L : Lane) (p : ℕ) (l : List ℕ) (m : ℕ) → Chain L p l → Has m l → (L.status m ≡ 0) × Behind (L.phase m)
chain_behind L p [] m c h = absurd h
chain_behind L p (x ∷ r) m c h =
    ⊎_elim
    (λ e. let k : (L.status x ≡ 0) × Behind (L.phase x) = (c.0, follows_behind (L.phase x) p (L.next p) x c.1) in
    subst (λ z. (L.status z ≡ 0) × Behind (L.phase z)) (sym e) k)
    (λ k. chain_behind L x r m c.2 k) h

-- a next word that isn't 0 names the next in the chain, which waits
pub chain_next : (L : Lane) (p s : ℕ) (l : List ℕ) → Chain L p l → L.next p ≡ s + 1 →
    (r : List ℕ) × (l ≡ s ∷ r) × (L.phase s ≡ Wait) × (L.status s ≡ 0) × Chain L s r
chain_next L p s [] c e = absurd (omega arith)
chain_next L p s (m ∷ r) c e = by_phase (L.phase m) refl c.1 where
  by_phase : (ph : Phase) → L.phase m ≡ ph → Follows ph p (L.next p) m → (t : List ℕ) × (m ∷ r ≡ s ∷ t) × (L.phase s ≡ Wait) × (L.status s ≡ 0) × Chain L s t
  by_phase (Link g) q f = absurd (omega arith)
  by_phase Wait q f =
      let same : m ≡ s = omega arith in
      (r, ap (λ z. z ∷ r) same, subst (λ z. L.phase z ≡ Wait) same q, subst (λ z. L.status z ≡ 0) same c.0, subst (λ z. Chain L z r) same c.2)
  by_phase _ q f = absurd f

-- a member links itself to the one before it
pub chain_link : (L M : Lane) (p : ℕ) (l : List ℕ) (m g : ℕ) → Distinct (p ∷ l) → Has m l → L.phase m ≡ Link g → Chain L p l →
    M.phase m ≡ Wait → M.status m ≡ L.status m → M.next (g - 1) ≡ m + 1 →
    ((x : ℕ) → Has x (p ∷ l) → x ≢ g - 1 → M.next x ≡ L.next x) →
    ((x : ℕ) → Has x l → x ≢ m → (M.status x ≡ L.status x) × (M.phase x ≡ L.phase x)) →
    Has (g - 1) (p ∷ l) × Chain M p l
chain_link L M p [] m g d h e c pm sm nm ns fs = absurd h
chain_link L M p (x ∷ r) m g d h e c pm sm nm ns fs =
    ⊎_elim here
    (there (λ hm. chain_link L M x r m g d.1 hm e c.2 pm sm nm (λ y hy. ns y (inr hy)) (λ y hy. fs y (inr hy))))
    (same_or_not m x) where
      here : m ≡ x → Has (g - 1) (p ∷ x ∷ r) × Chain M p (x ∷ r)
      here q =
          let f : Follows (Link g) p (L.next p) x = subst (λ z. Follows z p (L.next p) x) (subst (λ z. L.phase z ≡ Link g) q e) c.1 in
          let gp : g - 1 ≡ p = omega (arith, f.0) in
          let not_p : x ≢ p = λ k. d.0 (inl (sym k)) in
          let keeps : (y : ℕ) → Has y (x ∷ r) → M.next y ≡ L.next y = λ y hy. ns y (inr hy) (λ k. d.0 (subst (λ z. Has z (x ∷ r)) (k ∙ gp) hy)) in
          let mx : M.phase x ≡ Wait = subst (λ z. M.phase z ≡ Wait) q pm in
          let sx : M.status x ≡ L.status x = subst (λ z. M.status z ≡ L.status z) q sm in
          let nx : M.next p ≡ x + 1 = subst (λ z. M.next z ≡ m + 1) gp nm ∙ ap (λ z. z + 1) q in (
            inl gp,
            (
              sx ∙ c.0,
              subst (λ z. Follows z p (M.next p) x) (sym mx) nx,
              chain_frame L M x r (keeps x (inl refl))
                  (λ y hy. let ne : y ≢ m = λ k. d.1.0 (subst (λ z. Has z r) (k ∙ q) hy) in (keeps y (inr hy), (fs y (inr hy) ne).0, (fs y (inr hy) ne).1)) c.2,
            ),
          )

      there : (Has m r → Has (g - 1) (x ∷ r) × Chain M x r) → m ≢ x → Has (g - 1) (p ∷ x ∷ r) × Chain M p (x ∷ r)
      there behind q =
          let hm : Has m r = ⊎_elim (λ k. absurd (q k)) (λ k. k) h in
          let rec : Has (g - 1) (x ∷ r) × Chain M x r = behind hm in
          let ne : p ≢ g - 1 = λ k. d.0 (subst (λ z. Has z (x ∷ r)) (sym k) rec.0) in
          let s = fs x (inl refl) (λ k. q (sym k)) in (
            inr rec.0,
            (s.0 ∙ c.0, subst (λ z. Follows z p (M.next p) x) (sym s.1) (subst (λ z. Follows (L.phase x) p z x) (sym (ns p (inl refl) ne)) c.1), rec.1),
          )
