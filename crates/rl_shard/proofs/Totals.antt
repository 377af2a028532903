-- One tally more.
use Rattle.std.proofs.Common.{◌≡◌, ◌≢◌, ◌<◌, ◌+◌, ℕ, zero, suc, ◌++◌, List, [], ◌∷◌, min, length, sum_by, take, sym, refl, ap, ◌∙◌, ⊎_elim, arith, length-append}
use Rattle.std.specs.Prelude.{◌⊎◌, slice_get, Some}
use Rattle.std.proofs.Common.{inl, inr}
use Rattle.std.proofs.lemmas.List.Sums.{sum_by-append, sum_by-cons}
use Rattle.rl_core.specs.laws.Filling.{take_next}
use Rattle.rl_step.specs.declared.tallies.Tally.{Tally}
use Rattle.rl_shard.specs.declared.seat.Seat.{Seat}
use Rattle.rl_shard.specs.Tallies.{full, tally_at}
use Rattle.rl_shard.specs.Shards.{tallies_at}
use Rattle.rl_shard.specs.Ends.{all_settled, all_passed}
use Rattle.rl_shard.specs.Closing.{AreTotals}

more_at : (ts : List Tally) (t : Tally) (q n : ℕ) → n ≡ length ts → q < n + 1 → ((q < n) × (tally_at q (ts ++ t ∷ []) ≡ tally_at q ts)) ⊎ ((q ≡ n) × (tally_at q (ts ++ t ∷ []) ≡ t))
more_at [] t zero n e h = inr (omega arith, refl)
more_at [] t (suc q) n e h = absurd (omega arith)
more_at (x ∷ ts) t zero n e h = inl (omega arith, refl)
more_at (x ∷ ts) t (suc q) n e h =
    ⊎_elim (λ p. inl (let a = p.0 in omega arith, p.1)) (λ p. inr (let a = p.0 in omega arith, p.1)) (more_at ts t q (length ts) refl (omega arith))

module _ {C V : Type 0} (seats : List (Seat C V)) where
  pub totals_more : (n : ℕ) (ts : List Tally) (t : Tally) → AreTotals seats n ts → t.settled ≡ min (all_settled n seats) full → t.passed ≡ min (all_passed n seats) full → t.settled ≢ full → t.passed ≢ full → AreTotals seats (n + 1) (ts ++ t ∷ [])
  totals_more n ts t so_far s p sn pn =
      let each = so_far.each in
      record {
        each = length-append ts (t ∷ []) ∙ omega arith;
        settled_are = λ q h. ⊎_elim
            (λ m. (ap (λ (z : Tally). z.settled) m.1 ∙ (so_far.settled_are q m.0).0, (so_far.settled_are q m.0).1))
            (λ m. let here : all_settled q seats ≡ all_settled n seats = ap (λ k. all_settled k seats) m.0 in let at = ap (λ (z : Tally). z.settled) m.1 in (omega arith, omega arith))
            (more_at ts t q n (sym each) h);
        passed_are = λ q h. ⊎_elim
            (λ m. (ap (λ (z : Tally). z.passed) m.1 ∙ (so_far.passed_are q m.0).0, (so_far.passed_are q m.0).1))
            (λ m. let here : all_passed q seats ≡ all_passed n seats = ap (λ k. all_passed k seats) m.0 in let at = ap (λ (z : Tally). z.passed) m.1 in (omega arith, omega arith))
            (more_at ts t q n (sym each) h);
      }

  -- what the seats hold so far
  pub settled_more : (q i : ℕ) (s : Seat C V) → slice_get seats i ≡ Some s → all_settled q (take (i + 1) seats) ≡ all_settled q (take i seats) + (tally_at q (tallies_at s)).settled
  settled_more q i s get =
      let f : Seat C V → ℕ = λ z. (tally_at q (tallies_at z)).settled in
      ap (sum_by f) (take_next seats i s get) ∙ sum_by-append f (take i seats) (s ∷ []) ∙ ap (λ n. sum_by f (take i seats) + n) (sum_by-cons f s [] ∙ omega arith)

  pub passed_more : (q i : ℕ) (s : Seat C V) → slice_get seats i ≡ Some s → all_passed q (take (i + 1) seats) ≡ all_passed q (take i seats) + (tally_at q (tallies_at s)).passed
  passed_more q i s get =
      let f : Seat C V → ℕ = λ z. (tally_at q (tallies_at z)).passed in
      ap (sum_by f) (take_next seats i s get) ∙ sum_by-append f (take i seats) (s ∷ []) ∙ ap (λ n. sum_by f (take i seats) + n) (sum_by-cons f s [] ∙ omega arith)
