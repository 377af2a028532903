-- The seats are taken in, one by one.
use Rattle.std.proofs.Common.{◌≡◌, ℕ, zero, suc, ◌+◌, List, [], ◌∷◌, ◌++◌, length, take, slice_get, Some, sym, refl, ap, ◌∙◌, subst, arith, length-append, zero-add, suc-add}
use mathlib.Core.Option.{some, some-injective, some-ne-none}
use lib.ListN.{get_elem?}
use Rattle.atomic_table.specs.Table.{Me, Final, Seen}
use Rattle.atomic_table.specs.Seated.{TableId}
use Rattle.atomic_table.specs.declared.shared.Seat.{Seat}
use Rattle.rl_step.specs.Do.{TheWindow}
use Rattle.rl_window.specs.declared.knows.Setup.{Setup}
use Rattle.rl_window.specs.declared.knows.RootKnows.{RootKnows}
use Rattle.rl_window.specs.declared.knows.Knows.{Knows}
use Rattle.rl_window.specs.declared.knows.Knows.TheVariants.{Root}
use Rattle.rl_window.specs.declared.window.Window.{Window}
use Rattle.rl_window.specs.declared.window.WinSeat.{WinSeat}
use Rattle.rl_window.specs.Rule.{IsRuled}
use Rattle.rl_window.specs.Plays.{with_ended, CanEnd, steps_of}
use Rattle.rl_window.specs.Seats.{IsClosing, IsAll, AreKept, last_view}
use Rattle.rl_window.proofs.Joins.{last}

module _ {C V : Type 0} (rule : C → TheWindow → List V → Type 0) (key : Setup C V) (table : TableId) where
  pub next_joins : (root : Seat ℕ (Knows C V)) (left : List (WinSeat C V)) (views : List V) → IsClosing rule key table root left views → (s : WinSeat C V) (rest : List (WinSeat C V)) → left ≡ s ∷ rest
      → (s.seat.table_id ≡ table) × CanEnd rule root.me s.seat.me s.view
  next_joins root left views E s rest more = let e = E.each 0 s (ap (λ (l : List (WinSeat C V)). slice_get l 0) more) in let r = e.1 in
      (e.0, (record { core = key.core; size = key.size; nodes = key.nodes; given = length views + length left; to_come = []; ended = views }, r.0, E.root_is, r.1, (let h = r.2 in omega arith), r.3, r.4))

  pub one_joined : (root : Seat ℕ (Knows C V)) (left : List (WinSeat C V)) (views : List V) → IsClosing rule key table root left views → (s : WinSeat C V) (rest : List (WinSeat C V)) → left ≡ s ∷ rest
      → (root' : Seat ℕ (Knows C V)) → root'.table_id ≡ root.table_id → root'.me ≡ (with_ended (Some s.view) root.me.0, []) → IsClosing rule key table root' rest (views ++ s.view ∷ [])
  one_joined root left views E s rest more root' t m =
      let q : RootKnows C V = record { core = key.core; size = key.size; nodes = key.nodes; given = length views + length left; to_come = []; ended = views } in
      let l : length left ≡ suc (length rest) = ap length more in
      let k = length-append views (s.view ∷ []) in
      let count : length views + length left ≡ length (views ++ s.view ∷ []) + length rest = omega arith in record {
        table_is = t ∙ E.table_is;
        root_is = m ∙ (ap (λ (z : Me ℕ (Knows C V)). (with_ended (Some s.view) z.0, [])) E.root_is ∙ ap (λ (n : ℕ). (Root (record q { given = n; ended = views ++ s.view ∷ [] }), [])) count);
        each = λ i w at. let e = E.each (suc i) w (ap (λ (z : List (WinSeat C V)). slice_get z (suc i)) more ∙ at) in let r = e.1 in
            (e.0, (r.0, r.1, (let h = r.2 in omega arith), r.3, r.4));
      }

  -- once all are taken in
  pub closed : (id : ℕ) (root : Seat ℕ (Knows C V)) (views : List V) (ws xs : List ℕ) → IsClosing rule key table root [] views → Final (Seen (IsRuled rule key) id root.me.0) ws xs → (cards : List ℕ) × rule key.core (record { words = take key.size ws; cards = cards }) views
  closed id root views ws xs E F = last rule key id (record { core = key.core; size = key.size; nodes = key.nodes; given = length views + length {A = WinSeat C V} []; to_come = []; ended = views }) root.me ws xs E.root_is refl (omega arith) F

pub begins : {C V : Type 0} (rule : C → TheWindow → List V → Type 0) (w : Window C V) (seats : List (WinSeat C V)) (key : Setup C V) → IsAll rule w seats → AreKept rule w seats → key.core ≡ w.core → key.size ≡ w.size → key.nodes ≡ w.nodes
    → (root : Seat ℕ (Knows C V)) → root ≡ w.root.seat → IsClosing rule key w.table.shared.table_id root seats []
begins rule w seats key A K e1 e2 e3 root is = record {
  table_is = ap (λ (z : Seat ℕ (Knows _ _)). z.table_id) is ∙ A.table;
  root_is = ((ap (λ (z : Seat ℕ (Knows _ _)). z.me) is ∙ A.root) ∙ (λ j. (Root (record { core = sym e1 j; size = sym e2 j; nodes = sym e3 j; given = length seats; to_come = []; ended = [] }), [])))
      ∙ ap (λ (n : ℕ). (Root (record { core = key.core; size = key.size; nodes = key.nodes; given = n; to_come = []; ended = [] }), [])) (sym (zero-add (length seats)));
  each = λ i s at. let a = A.each i s at in
      (a.1.table, (record { core = w.core; size = w.size; nodes = w.nodes; rank = s.rank; view = last_view s; steps = steps_of s.seat.me.0 }, a.1.at, a.0 ∙ sym (zero-add i), sym e1, K i s at));
}

pub more_taken : {A : Type 0} (l : List A) (i : ℕ) (x : A) → get_elem? l i ≡ some x → take i l ++ x ∷ [] ≡ take (i + 1) l
more_taken [] i x e = absurd (some-ne-none x (sym e))
more_taken (y ∷ ys) zero x e = λ j. sym (some-injective y x e) j ∷ []
more_taken (y ∷ ys) (suc i) x e = ap (λ l. y ∷ l) (more_taken ys i x e) ∙ ap (λ (n : ℕ). take n (y ∷ ys)) (sym (suc-add i 1))

-- the same, said of the window's own core and number of words
pub closed_window : {C V : Type 0} (rule : C → TheWindow → List V → Type 0) (w : Window C V) (key : Setup C V) (table : TableId) (id : ℕ) (root : Seat ℕ (Knows C V)) (views : List V) (ws xs got : List ℕ) → key.core ≡ w.core → key.size ≡ w.size
    → got ≡ take w.size ws → IsClosing rule key table root [] views → Final (Seen (IsRuled rule key) id root.me.0) ws xs → (cards : List ℕ) × rule w.core (record { words = got; cards = cards }) views
closed_window rule w key table id root views ws xs got e1 e2 is E F =
    let r = closed rule key table id root views ws xs E F in
    let P : List ℕ → Type 0 = λ l. rule w.core (record { words = l; cards = r.0 }) views in
    (r.0, subst P (ap (λ (n : ℕ). take n ws) e2 ∙ sym is) (subst (λ (c : _). rule c (record { words = take key.size ws; cards = r.0 }) views) e1 r.1))
