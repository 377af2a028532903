-- A table that is new meets the rule, and all seats are the window's.
use Rattle.std.proofs.Common.{◌≡◌, ℕ, zero, suc, List, [], ◌∷◌, ◌++◌, map, length, slice_get, Some, sym, refl, ap, ◌∙◌, subst, arith}
use mathlib.Core.Option.{some, some-injective, some-ne-none}
use mathlib.Core.List.{append-nil}
use lib.ListN.{get_elem?}
use Rattle.atomic_table.specs.Table.{Me, opening}
use Rattle.atomic_table.specs.declared.shared.Seat.{Seat}
use Rattle.rl_word.specs.laws.Places.{get_map}
use Rattle.rl_step.specs.Do.{TheWindow}
use Rattle.rl_window.specs.declared.knows.Setup.{Setup}
use Rattle.rl_window.specs.declared.knows.Knows.{Knows}
use Rattle.rl_window.specs.declared.knows.Knows.TheVariants.{Root, Rank}
use Rattle.rl_window.specs.declared.window.Window.{Window}
use Rattle.rl_window.specs.declared.window.WinSeat.{WinSeat}
use Rattle.rl_window.specs.Rule.{apart, Fits, IsRuled, opening_root}
use Rattle.rl_window.specs.Plays.{rank_knows, last_of, steps_of}
use Rattle.rl_window.specs.laws.SeatLemmas.{kept_still}
use Rattle.rl_window.specs.Seats.{IsOpening, IsAll, AreNew, AreKept, view_of, last_view}

module _ {C V : Type 0} (rule : C → TheWindow → List V → Type 0) where
  root_fits : (key : Setup C V) (id : ℕ) (k : Knows C V) → get_elem? (opening_root key ∷ []) id ≡ some k → Fits key.core key.size key.nodes key.views.items 0 0 id k
  root_fits key zero k e = subst (Fits key.core key.size key.nodes key.views.items 0 0 0) (some-injective (opening_root key) k e) (refl, refl, refl, refl, refl, refl, refl)
  root_fits key (suc id) k e = absurd (some-ne-none k (sym e))

  pub opens : (key : Setup C V) (all : List ℕ) (h : TheWindow) → all ≡ h.words ++ apart h.cards → length h.words ≡ key.size → length h.cards ≡ key.nodes → rule key.core h key.views.items → IsRuled rule key (opening all [] (opening_root key))
  opens key all h laid wide deep kept = record {
    held = h;
    views = key.views.items;
    given = 0;
    joined = 0;
    laid = laid;
    kept = (kept, wide, deep);
    seats = refl;
    enough = omega arith;
    order = omega arith;
    each = root_fits key;
  }

  pub all_split_off : (w : Window C V) (seats : List (WinSeat C V)) (key : Setup C V) (h : TheWindow) → length h.words ≡ key.size → length h.cards ≡ key.nodes → rule key.core h key.views.items
      → (root : Seat ℕ (Knows C V)) → IsOpening key w.table.shared.table_id root [] seats → w.root.seat ≡ root → key.core ≡ w.core → key.size ≡ w.size → key.nodes ≡ w.nodes → IsAll rule w seats × AreNew seats × AreKept rule w seats
  all_split_off w seats key h wide deep kept root D is e1 e2 e3 =
      let knows : (i : ℕ) (s : WinSeat C V) → slice_get seats i ≡ Some s → s.seat.me.0 ≡ Rank (record { core = key.core; size = key.size; nodes = key.nodes; rank = i; view = s.view; steps = 0 }) = λ i s e. ap (λ (m : Me ℕ (Knows C V)). m.0) (D.each i s e).2 in (
        record {
          table = ap (λ (z : Seat ℕ (Knows C V)). z.table_id) is ∙ D.table_is;
          root = ap (λ (z : Seat ℕ (Knows C V)). z.me) is ∙ (D.root_is ∙ (λ j. (Root (record { core = e1 j; size = e2 j; nodes = e3 j; given = length seats; to_come = []; ended = [] }), [])));
          each = λ i s e.
              let d = D.each i s e in
              let last : last_view s ≡ s.view = ap (last_of s.view) (knows i s e) in
              let at_i : slice_get key.views.items s.rank ≡ Some s.view = subst (λ (n : ℕ). slice_get key.views.items n ≡ Some s.view) (sym d.0) (subst (λ (l : List V). slice_get l i ≡ Some s.view) (sym (append-nil (map view_of seats)) ∙ D.all) (get_map view_of seats i s e)) in (
                d.0,
                record {
                  table = d.1;
                  at = d.2 ∙ ((λ j. (Rank (record { core = e1 j; size = e2 j; nodes = e3 j; rank = sym d.0 j; view = s.view; steps = 0 }), [])) ∙ sym (ap (λ (k : Knows C V). (rank_knows w.core w.size w.nodes s.rank s.view k, [])) (knows i s e)));
                  may_be = (
                    record {
                      held = h;
                      views = key.views.items;
                      rank = s.rank;
                      is_ruled = (subst (λ (c : C). rule c h key.views.items) e1 kept, wide ∙ e2, deep ∙ e3);
                      has = at_i ∙ ap (λ (v : V). Some v) (sym last);
                    },
                    refl,
                  );
                },
              );
        },
        λ i s e. (ap (last_of s.view) (knows i s e), ap steps_of (knows i s e)),
        λ i s e. kept_still rule w s (ap (last_of s.view) (knows i s e)),
      )

  pub all_split_off_at : (w : Window C V) (seats : List (WinSeat C V)) (told key : Setup C V) → told ≡ key → (h : TheWindow) → length h.words ≡ key.size → length h.cards ≡ key.nodes → rule key.core h key.views.items
      → (root : Seat ℕ (Knows C V)) → IsOpening told w.table.shared.table_id root [] seats → w.root.seat ≡ root → key.core ≡ w.core → key.size ≡ w.size → key.nodes ≡ w.nodes → IsAll rule w seats × AreNew seats × AreKept rule w seats
  all_split_off_at w seats told key is h wide deep kept root D r e1 e2 e3 = all_split_off w seats key h wide deep kept root (subst (λ (k : Setup C V). IsOpening k w.table.shared.table_id root [] seats) is D) r e1 e2 e3
