-- The seats that are split off, one by one.
use Rattle.std.proofs.Common.{◌≡◌, ℕ, zero, suc, ◌+◌, ◌⊎◌, inl, inr, List, [], ◌∷◌, ◌++◌, map, length, drop, slice_get, Some, sym, refl, ap, ◌∙◌, subst, ⊎_elim, length-append, append_assoc}
use Rattle.std.proofs.lemmas.Option.{same_Some}
use mathlib.Core.List.{map-append}
use Rattle.atomic_table.specs.Table.{Me}
use Rattle.atomic_table.specs.Seated.{TableId}
use Rattle.atomic_table.specs.declared.shared.Seat.{Seat}
use Rattle.rl_window.specs.declared.knows.Setup.{Setup}
use Rattle.rl_window.specs.declared.knows.RootKnows.{RootKnows}
use Rattle.rl_window.specs.declared.knows.Knows.{Knows}
use Rattle.rl_window.specs.declared.knows.Knows.TheVariants.{Root, Rank}
use Rattle.rl_window.specs.declared.window.WinSeat.{WinSeat}
use Rattle.rl_window.specs.Plays.{without_next, next_seat, first_of}
use Rattle.rl_window.specs.Seats.{IsOpening, view_of}

seat_at_end : {A : Type 0} (l : List A) (a b : A) (j : ℕ) → slice_get (l ++ a ∷ []) j ≡ Some b → (slice_get l j ≡ Some b) ⊎ ((j ≡ length l) × (a ≡ b))
seat_at_end [] a b zero e = inr (refl, same_Some _ _ e)
seat_at_end [] a b (suc j) e = cc
seat_at_end (x ∷ xs) a b zero e = inl e
seat_at_end (x ∷ xs) a b (suc j) e = ⊎_elim inl (λ (t : (j ≡ length xs) × (a ≡ b)). inr (ap suc t.0, t.1)) (seat_at_end xs a b j e)

module _ {C V : Type 0} where
  pub one_split_off : (key : Setup C V) (table : TableId) (root : Seat ℕ (Knows C V)) (views : List V) (seats : List (WinSeat C V)) → IsOpening key table root views seats → (x : V) (rest : List V) → views ≡ x ∷ rest
      → (root' seat : Seat ℕ (Knows C V)) → root'.table_id ≡ root.table_id → seat.table_id ≡ root.table_id → root'.me ≡ (without_next root.me.0, []) → seat.me ≡ (next_seat root.me.0, [])
      → (s : WinSeat C V) → s.seat ≡ seat → s.view ≡ x → s.rank ≡ length seats → IsOpening key table root' rest (seats ++ s ∷ [])
  one_split_off key table root views seats D x rest more root' seat t1 t2 m1 m2 s is_seat is_view is_rank =
      let old : RootKnows C V = record { core = key.core; size = key.size; nodes = key.nodes; given = length seats; to_come = views; ended = [] } in
      let was : root.me.0 ≡ Root old = ap (λ (m : Me ℕ (Knows C V)). m.0) D.root_is in
      let now : root'.me ≡ (Root (record old { given = length seats + 1; to_come = drop 1 views }), []) = m1 ∙ ap (λ (k : Knows C V). (without_next k, [])) was in
      let count : length (seats ++ s ∷ []) ≡ length seats + 1 = length-append seats (s ∷ []) in record {
        table_is = t1 ∙ D.table_is;
        root_is = now ∙ (ap (λ (l : List V). (Root (record old { given = length seats + 1; to_come = drop 1 l }), [])) more ∙ ap (λ (n : ℕ). (Root (record old { given = n; to_come = rest }), [])) (sym count));
        each = λ i k e. ⊎_elim (λ (o : slice_get seats i ≡ Some k). D.each i k o)
            (λ (n : (i ≡ length seats) × (s ≡ k)). subst (λ (z : WinSeat C V). (z.rank ≡ i) × (z.seat.table_id ≡ table) × (z.seat.me ≡ (Rank (record { core = key.core; size = key.size; nodes = key.nodes; rank = i; view = z.view; steps = 0 }), []))) n.1 (
              is_rank ∙ sym n.0,
              ap (λ (z : Seat ℕ (Knows C V)). z.table_id) is_seat ∙ (t2 ∙ D.table_is),
              ap (λ (z : Seat ℕ (Knows C V)). z.me) is_seat ∙ (m2 ∙ (ap (λ (k' : Knows C V). (next_seat k', [])) was ∙ (ap (λ (l : List V). (first_of old l, [])) more
                  ∙ ap (λ (p : ℕ × V). (Rank (record { core = key.core; size = key.size; nodes = key.nodes; rank = p.0; view = p.1; steps = 0 }), [])) (λ j. (sym n.0 j, sym is_view j))))),
            ))
            (seat_at_end seats s k i e);
        all = ap (λ (l : List V). l ++ rest) (map-append view_of seats (s ∷ []))
            ∙ (append_assoc (map view_of seats) (s.view ∷ []) rest
            ∙ (ap (λ (v : V). map view_of seats ++ v ∷ rest) is_view ∙ (ap (λ (l : List V). map view_of seats ++ l) (sym more) ∙ D.all)));
      }
