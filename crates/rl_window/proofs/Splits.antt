-- The root seat cuts off a seat for the next rank.
use Rattle.std.proofs.Common.{◌≡◌, ℕ, zero, suc, ◌+◌, ◌<◌, ◌≤◌, ◌≢◌, ◌⊎◌, inl, inr, List, [], ◌∷◌, ◌++◌, length, set, drop, slice_get, Some, sym, refl, ap, ◌∙◌, subst, ⊎_elim, arith, length-set, length-append, drop-drop}
use mathlib.Core.Option.{some, some-injective, some-ne-none}
use lib.ListN.{get_elem?}
use Rattle.atomic_table.specs.Table.{Me, Splits}
use Rattle.atomic_table.proofs.Lists.{at_set}
use Rattle.rl_step.specs.Do.{TheWindow}
use Rattle.rl_window.specs.declared.knows.Setup.{Setup}
use Rattle.rl_window.specs.declared.knows.RootKnows.{RootKnows}
use Rattle.rl_window.specs.declared.knows.Knows.{Knows}
use Rattle.rl_window.specs.declared.knows.Knows.TheVariants.{Root, Rank, Spent}
use Rattle.rl_window.specs.Rule.{Fits, IsRuled}
use Rattle.rl_window.specs.Plays.{without_next, next_seat, first_of}

pub at_end : {A : Type 0} (l : List A) (a b : A) (j : ℕ) → get_elem? (l ++ a ∷ []) j ≡ some b → (get_elem? l j ≡ some b) ⊎ ((j ≡ length l) × (a ≡ b))
at_end [] a b zero e = inr (refl, some-injective a b e)
at_end [] a b (suc j) e = absurd (some-ne-none b (sym e))
at_end (x ∷ xs) a b zero e = inl e
at_end (x ∷ xs) a b (suc j) e = ⊎_elim inl (λ (t : (j ≡ length xs) × (a ≡ b)). inr (ap suc t.0, t.1)) (at_end xs a b j e)

cons_head : {A : Type 0} (x : A) (xs : List A) (y : A) (ys : List A) → x ∷ xs ≡ y ∷ ys → x ≡ y
cons_head x xs y ys e = cc

head_at : {A : Type 0} (l : List A) (n : ℕ) (x : A) (xs : List A) → x ∷ xs ≡ drop n l → (n < length l) × (slice_get l n ≡ Some x)
head_at [] zero x xs e = absurd (cc)
head_at [] (suc n) x xs e = absurd (cc)
head_at (y ∷ ys) zero x xs e = (omega arith, ap (λ z. Some z) (sym (cons_head x xs y ys e)))
head_at (y ∷ ys) (suc n) x xs e = let h = head_at ys n x xs e in (let k = h.0 in omega arith, h.1)

module _ {C V : Type 0} where
  -- what another seat knows stays so
  still_fit : (core : C) (size nodes : ℕ) (views : List V) (given joined j : ℕ) → j ≢ 0 → (k : Knows C V) → Fits core size nodes views given joined j k → Fits core size nodes views (given + 1) joined j k
  still_fit core size nodes views given joined j other (Root r) f = absurd (other f.0)
  still_fit core size nodes views given joined j other (Rank r) f = (f.0, f.1, f.2, f.3, f.4, (let h = f.5 in omega arith), f.6)
  still_fit core size nodes views given joined j other Spent f = tt

  splits_at : (rule : C → TheWindow → List V → Type 0) (key : Setup C V) (id : ℕ) (r : RootKnows C V) (v : V) (rest : List V) → r.to_come ≡ v ∷ rest
      → Splits (IsRuled rule key) id (Root r) (Root (record r { given = r.given + 1; to_come = drop 1 r.to_come }))
      (Rank (record { core = r.core; size = r.size; nodes = r.nodes; rank = r.given; view = v; steps = 0 }))
  splits_at rule key id r v rest more s R at =
      let F = R.each id (Root r) at in
      let left : Knows C V = Root (record r { given = r.given + 1; to_come = drop 1 r.to_come }) in
      let right : Knows C V = Rank (record { core = r.core; size = r.size; nodes = r.nodes; rank = r.given; view = v; steps = 0 }) in
      let next = head_at R.views R.given v rest (sym more ∙ F.5) in
      let low : R.given < length R.views = next.0 in record {
        held = R.held;
        views = R.views;
        given = R.given + 1;
        joined = R.joined;
        laid = R.laid;
        kept = R.kept;
        seats = length-append (set s.views id left) (right ∷ []) ∙ ap (λ (n : ℕ). n + 1) (length-set s.views id left ∙ R.seats);
        enough = omega arith;
        order = let h = R.order in omega arith;
        each = λ j k e. ⊎_elim
            (λ (old : get_elem? (set s.views id left) j ≡ some k). ⊎_elim
            (λ (t : (j ≡ id) × (left ≡ k)). subst (Fits key.core key.size key.nodes R.views (R.given + 1) R.joined j) t.1
            (t.0 ∙ F.0, F.1, F.2, F.3, ap (λ (n : ℕ). n + 1) F.4, ap (drop 1) F.5 ∙ drop-drop 1 R.given R.views, F.6))
            (λ (t : (j ≢ id) × (get_elem? s.views j ≡ some k)). still_fit key.core key.size key.nodes R.views R.given R.joined j (λ (is : j ≡ 0). t.0 (is ∙ sym F.0)) k (R.each j k t.1))
            (at_set s.views id j left k old))
            (λ (t : (j ≡ length (set s.views id left)) × (right ≡ k)). subst (Fits key.core key.size key.nodes R.views (R.given + 1) R.joined j) t.1
            (t.0 ∙ (length-set s.views id left ∙ (R.seats ∙ ap (λ (n : ℕ). n + 1) (sym F.4))), F.1, F.2, F.3, subst (λ (n : ℕ). R.joined ≤ n) (sym F.4) R.order, subst (λ (n : ℕ). n < R.given + 1) (sym F.4) (omega arith), subst (λ (n : ℕ). slice_get R.views n ≡ Some v) (sym F.4) next.1))
            (at_end (set s.views id left) right k j e);
      }

  pub splits : (rule : C → TheWindow → List V → Type 0) (key : Setup C V) (id : ℕ) (r : RootKnows C V) (v : V) (rest : List V) (me : Me ℕ (Knows C V)) → me ≡ (Root r, []) → r.to_come ≡ v ∷ rest
      → Splits (IsRuled rule key) id me.0 (without_next me.0) (next_seat me.0)
  splits rule key id r v rest me is more = let base = splits_at rule key id r v rest more in
      let cut : Splits (IsRuled rule key) id (Root r) (without_next (Root r)) (next_seat (Root r)) = subst (λ (l : List V). Splits (IsRuled rule key) id (Root r) (without_next (Root r)) (first_of r l)) (sym more) base in
      subst (λ (k : Knows C V). Splits (IsRuled rule key) id k (without_next k) (next_seat k)) (sym (ap (λ (m : Me ℕ (Knows C V)). m.0) is)) cut
