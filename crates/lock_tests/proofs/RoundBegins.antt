-- A rank of the tests' core that begins a round.
use Rattle.std.specs.Prelude.{◌≡◌, ℕ, Option, Some, None}
use Rattle.std.proofs.Common.{sym, subst, ⊎_elim, arith}
use Rattle.rl_word.specs.laws.Places.{get_set_cases}
use Rattle.rl_word.specs.declared.acts.Atom.{Atom}
use Rattle.rl_word.specs.declared.acts.Atom.TheVariants.{Take}
use Rattle.rl_window.specs.declared.window.Window.{Window}
use Rattle.rl_window.specs.declared.window.WinSeat.{WinSeat}
use Rattle.rl_window.specs.Rule.{Keeps}
use Rattle.rl_window.specs.Seats.{IsSeatOf, IsKept, with_view}
use Rattle.rl_window.specs.laws.SeatLemmas.{reviewed, changed}
use Rattle.lock_tests.specs.Rounds.{CanGoOn, GoOn, rounds_rule}

begins_round : (r : ℕ) → Keeps GoOn r None (Some (Take 0))
begins_round r h vs g at = record {
  words = g.words;
  cards = g.cards;
  each = λ o v e. ⊎_elim
      (λ (p : (o ≡ r) × (v ≡ Some (Take 0))). subst (λ z. CanGoOn o z h.words h.cards) (sym p.1) (let one = g.cards in omega arith))
      (λ p. g.each o v p.1) (get_set_cases vs r o (Some (Take 0)) v e);
}

pub begun : {C : Type 0} (w : Window C (Option Atom)) (s : WinSeat C (Option Atom)) (v : Option Atom) → IsSeatOf rounds_rule w s × IsKept rounds_rule w s → s.view ≡ None → v ≡ Some (Take 0) →
    IsSeatOf rounds_rule w (with_view s v) × IsKept rounds_rule w (with_view s v)
begun w s v S none is =
    let keeps : Keeps GoOn s.rank s.view v = subst (λ z. Keeps GoOn s.rank z v) (sym none) (subst (Keeps GoOn s.rank None) (sym is) (begins_round s.rank)) in
    ((reviewed rounds_rule w s v S.0).0, changed rounds_rule w s v S.0 S.1 keeps)
