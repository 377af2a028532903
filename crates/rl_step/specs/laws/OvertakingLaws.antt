-- Bounded overtaking along a trace: what events at its end change, and that a trace that keeps the bound event by event keeps it.
use Rattle.std.specs.Prelude.{◌≡◌, ℕ, ◌+◌, ◌≤◌, ◌==◌, Bool, true, false, not, List, [], ◌∷◌, ◌++◌, if◌then◌else◌, Option, Some, None, refl}
use Rattle.std.proofs.Common.{◌∙◌, ap, subst, ⊎_elim, arith}
use Rattle.std.proofs.lemmas.Bool.Decides.{eqb_tells}
use Rattle.rl_step.specs.declared.events.Event.{Event}
use Rattle.rl_step.specs.declared.events.Event.TheVariants.{Join, Announce, Pass, Settle, Touch, EnterW, EnterR, LeaveW, LeaveR}
use Rattle.rl_step.specs.Queues.{count}
use Rattle.rl_step.specs.Overtaking.{entries, IsOvertakenAtMost, opened, window_after, window_of, OvertakenFrom}

module _ (mine : ℕ → Bool) (cohort : ℕ) where
  -- a trace after another one
  pub window-append : (w : Option ℕ) (t es : List Event) → window_of mine cohort w (t ++ es) ≡ window_of mine cohort (window_of mine cohort w t) es
  window-append w [] es = refl
  window-append w (e ∷ t) es = window-append (window_after mine cohort w e) t es

  pub overtaken-append : (bound : ℕ) (w : Option ℕ) (t es : List Event) → OvertakenFrom mine cohort bound w t →
      OvertakenFrom mine cohort bound (window_of mine cohort w t) es → OvertakenFrom mine cohort bound w (t ++ es)
  overtaken-append bound w [] es a b = b
  overtaken-append bound w (e ∷ t) es a b = (a.0, overtaken-append bound (window_after mine cohort w e) t es a.1 b)

  rest_of : (bound : ℕ) (w : Option ℕ) (p s : List Event) → OvertakenFrom mine cohort bound w (p ++ s) →
      OvertakenFrom mine cohort bound (window_of mine cohort w p) s
  rest_of bound w [] s a = a
  rest_of bound w (e ∷ p) s a = rest_of bound (window_after mine cohort w e) p s a.1

  -- the announcement opens the window
  open_window : (w : Option ℕ) → (n : ℕ) × (opened w ≡ Some n)
  open_window None = (0, refl)
  open_window (Some n) = (n, refl)

  stays_open : (b : Bool) (n : ℕ) → (if b then opened (Some n) else Some n) ≡ Some n
  stays_open true n = refl
  stays_open false n = refl

  -- along a stretch in which no rank of the cohort enters the window counts the entries of others
  counts : (bound n : ℕ) (u s : List Event) → n ≤ bound → OvertakenFrom mine cohort bound (Some n) (u ++ s) → entries mine u ≡ 0 →
      n + entries (λ k. not (mine k)) u ≤ bound
  counts bound n [] s h a z = omega arith
  counts bound n (Join q m ∷ u) s h a z = let r = counts bound n u s h a.1 (omega arith) in omega arith
  counts bound n (Announce c ∷ u) s h a z =
      let r = counts bound n u s h (subst (λ w. OvertakenFrom mine cohort bound w (u ++ s)) (stays_open (c == cohort) n) a.1) (omega arith) in omega arith
  counts bound n (Pass q m ∷ u) s h a z = let r = counts bound n u s h a.1 (omega arith) in omega arith
  counts bound n (Settle q m ∷ u) s h a z = let r = counts bound n u s h a.1 (omega arith) in omega arith
  counts bound n (Touch k w ∷ u) s h a z = let r = counts bound n u s h a.1 (omega arith) in omega arith
  counts bound n (EnterW k ∷ u) s h a z = at (mine k) refl (λ low b y. counts bound (n + 1) u s low b y) where
    at : (b : Bool) → mine k ≡ b → (n + 1 ≤ bound → OvertakenFrom mine cohort bound (Some (n + 1)) (u ++ s) → entries mine u ≡ 0 →
        (n + 1) + entries (λ i. not (mine i)) u ≤ bound) → n + (count (not (mine k)) + entries (λ i. not (mine i)) u) ≤ bound
    at true e rec = let one : count (mine k) ≡ 1 = ap count e in absurd (omega arith)
    at false e rec =
        let none : count (mine k) ≡ 0 = ap count e in
        let one : count (not (mine k)) ≡ 1 = ap (λ b. count (not b)) e in
        let w : (if mine k then None else Some (n + 1)) ≡ Some (n + 1) = ap (λ b. if b then None else Some (n + 1)) e in
        let low : n + 1 ≤ bound = a.0 (n + 1) w in
        let r : (n + 1) + entries (λ i. not (mine i)) u ≤ bound = rec low (subst (λ y. OvertakenFrom mine cohort bound y (u ++ s)) w a.1) (omega arith) in
        omega arith
  counts bound n (EnterR k ∷ u) s h a z = let r = counts bound n u s h a.1 (omega arith) in omega arith
  counts bound n (LeaveW k ∷ u) s h a z = let r = counts bound n u s h a.1 (omega arith) in omega arith
  counts bound n (LeaveR k ∷ u) s h a z = let r = counts bound n u s h a.1 (omega arith) in omega arith

  same_test : (cohort == cohort) ≡ true
  same_test = ⊎_elim (λ p. p.0) (λ p. absurd (p.1 refl)) (eqb_tells cohort cohort)

  -- a trace that keeps the bound event by event keeps it
  pub is_overtaken : (bound : ℕ) (t : List Event) → OvertakenFrom mine cohort bound None t → IsOvertakenAtMost mine cohort bound t
  is_overtaken bound t a =
      record {
        stretch = λ p u s e z.
            let b : OvertakenFrom mine cohort bound (window_of mine cohort None p) (Announce cohort ∷ (u ++ s)) =
            rest_of bound None p (Announce cohort ∷ (u ++ s)) (subst (OvertakenFrom mine cohort bound None) e a) in
            let o = open_window (window_of mine cohort None p) in
            let w : (if cohort == cohort then opened (window_of mine cohort None p) else window_of mine cohort None p) ≡ Some o.0 =
            ap (λ y. if y then opened (window_of mine cohort None p) else window_of mine cohort None p) same_test ∙ o.1 in
            let low : o.0 ≤ bound = b.0 o.0 w in
            let r : o.0 + entries (λ k. not (mine k)) u ≤ bound = counts bound o.0 u s low (subst (λ y. OvertakenFrom mine cohort bound y (u ++ s)) w b.1) z in
            omega arith;
      }
