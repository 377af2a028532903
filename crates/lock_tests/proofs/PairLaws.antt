-- The two seats of a window, before and after steps.
use Rattle.std.proofs.Common.{◌≡◌, ℕ, zero, suc, List, [], ◌∷◌, ◌++◌, slice_get, Some, refl, ap, ◌∙◌, subst}
use Rattle.std.proofs.lemmas.Option.{same_Some}
use Rattle.rl_step.specs.Do.{TheWindow}
use Rattle.rl_window.specs.declared.window.Window.{Window}
use Rattle.rl_window.specs.declared.window.WinSeat.{WinSeat}
use Rattle.rl_window.specs.Seats.{IsSeatOf, IsKept, IsAll, AreKept}

module _ {C V : Type 0} (rule : C → TheWindow → List V → Type 0) (w : Window C V) where
  -- these two are the window's seats
  pub record ArePair (a b : WinSeat C V) : Type 0 where
    pub all : IsAll rule w (a ∷ b ∷ [])
    pub kept : AreKept rule w (a ∷ b ∷ [])

  pub pair_of : (xs ys zs : List (WinSeat C V)) (a b : WinSeat C V) → IsAll rule w xs → AreKept rule w xs → xs ≡ ys ++ b ∷ [] → ys ≡ zs ++ a ∷ [] → zs ≡ [] → ArePair a b
  pair_of xs ys zs a b A K ex ey ez =
      let e : xs ≡ a ∷ b ∷ [] = ex ∙ ap (λ l. l ++ b ∷ []) (ey ∙ ap (λ l. l ++ a ∷ []) ez) in
      record { all = subst (IsAll rule w) e A; kept = subst (AreKept rule w) e K }

  all_at : (a b : WinSeat C V) → (a.rank ≡ 0) × IsSeatOf rule w a → (b.rank ≡ 1) × IsSeatOf rule w b → (i : ℕ) (s : WinSeat C V) → slice_get (a ∷ b ∷ []) i ≡ Some s → (s.rank ≡ i) × IsSeatOf rule w s
  all_at a b A B zero s e = subst (λ z. (z.rank ≡ 0) × IsSeatOf rule w z) (same_Some _ _ e) A
  all_at a b A B (suc zero) s e = subst (λ z. (z.rank ≡ 1) × IsSeatOf rule w z) (same_Some _ _ e) B
  all_at a b A B (suc (suc i)) s e = cc

  kept_at : (a b : WinSeat C V) → IsKept rule w a → IsKept rule w b → (i : ℕ) (s : WinSeat C V) → slice_get (a ∷ b ∷ []) i ≡ Some s → IsKept rule w s
  kept_at a b A B zero s e = subst (IsKept rule w) (same_Some _ _ e) A
  kept_at a b A B (suc zero) s e = subst (IsKept rule w) (same_Some _ _ e) B
  kept_at a b A B (suc (suc i)) s e = cc

  pub pair_first : (a b : WinSeat C V) → ArePair a b → IsSeatOf rule w a × IsKept rule w a
  pair_first a b P = ((P.all.each 0 a refl).1, P.kept 0 a refl)

  pub pair_second : (a b : WinSeat C V) → ArePair a b → IsSeatOf rule w b × IsKept rule w b
  pair_second a b P = ((P.all.each 1 b refl).1, P.kept 1 b refl)

  pub pair_stepped : (a b c d : WinSeat C V) → ArePair a b → IsSeatOf rule w c × IsKept rule w c × (c.rank ≡ a.rank) → IsSeatOf rule w d × IsKept rule w d × (d.rank ≡ b.rank) → ArePair c d
  pair_stepped a b c d P A B = record {
    all = record {
      table = P.all.table;
      root = P.all.root;
      each = all_at c d (A.2 ∙ (P.all.each 0 a refl).0, A.0) (B.2 ∙ (P.all.each 1 b refl).0, B.0);
    };
    kept = kept_at c d A.1 B.1;
  }
