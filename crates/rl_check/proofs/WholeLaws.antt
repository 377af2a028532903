-- A whole batch, by what a loop over it has seen.
use Rattle.std.proofs.Common.{◌≡◌, ◌≢◌, ℕ, ◌+◌, ◌-◌, ◌<◌, ◌≤◌, Bool, true, List, length, get_or, Some, IsTrue, refl, sym, ap, subst, ◌∙◌, ⊎_elim, arith}
use Rattle.std.specs.Prelude.{slice_get, ◌↔◌}
use Rattle.std.proofs.lemmas.Option.{same_Some, slice_get-get_or}
use Rattle.rl_model.specs.declared.entry.Entry.{Entry}
use Rattle.rl_model.specs.Call.{is_update}
use Rattle.rl_journal.specs.Legal.{updates}
use Rattle.rl_check.specs.Entries.{GoesOnInBatch, IsWholeBatch}
use Rattle.rl_check.proofs.Places.{below_next}

abbrev pub GoOn : List Entry → ℕ → ℕ → Type 0
GoOn entries i j = (k : ℕ) (d e : Entry) → i ≤ k → k + 1 < j → slice_get entries k ≡ Some d → slice_get entries (k + 1) ≡ Some e → GoesOnInBatch d e

module _ (entries : List Entry) (i : ℕ) where
  -- one entry more goes on
  pub one_more : (j : ℕ) (d e : Entry) → i + 1 ≤ j → slice_get entries (j - 1) ≡ Some d → slice_get entries j ≡ Some e → GoesOnInBatch d e → GoOn entries i j → GoOn entries i (j + 1)
  one_more j d e low gd ge g so_far k a b from to ga gb =
      ⊎_elim
      (λ less. so_far k a b from less ga gb)
      (λ same.
      let at : j - 1 ≡ k = omega arith in
      let first : d ≡ a = same_Some _ _ (sym gd ∙ ap (slice_get entries) at ∙ ga) in
      let second : e ≡ b = same_Some _ _ (sym ge ∙ ap (slice_get entries) (sym same) ∙ gb) in
      subst (λ z. GoesOnInBatch z b) first (subst (GoesOnInBatch d) second g))
      (below_next (k + 1) j (omega arith))

  -- all of them have
  pub whole_here : (e : Entry) → slice_get entries i ≡ Some e → updates e ≡ true → e.part ≡ 0 → e.batch ≢ 0 → i + e.batch ≤ length entries → GoOn entries i (i + e.batch) → IsWholeBatch entries i e.batch
  whole_here e get is none some there on =
      record { first = e; begins = get; is_update = is; batch_is = refl; part_is = none; some = omega arith; there = there; goes_on = λ j d f low high gd gf. on j d f low high gd gf }

  module _ (o : Entry) (low : i < length entries) where
    pub whole_by : is_update (get_or entries i o).call ≡ true → (get_or entries i o).part ≡ 0 → (get_or entries i o).batch ≢ 0 → (get_or entries i o).batch ≤ length entries - i → (j : ℕ) → i + (get_or entries i o).batch ≤ j → GoOn entries i j →
        (e : Entry) → slice_get entries i ≡ Some e → IsTrue true ↔ IsWholeBatch entries i e.batch
    whole_by is none some there j end on e get =
        let w : IsWholeBatch entries i (get_or entries i o).batch =
        whole_here (get_or entries i o) (slice_get-get_or entries i o low) is none some (omega arith) (λ k d f from to gd gf. on k d f from (omega arith) gd gf) in
        let same : (get_or entries i o).batch ≡ e.batch = ap (λ (z : Entry). z.batch) (same_Some _ _ (sym (slice_get-get_or entries i o low) ∙ get)) in
        ((λ _. subst (IsWholeBatch entries i) same w), (λ _. refl))

    pub one_more_by : (j : ℕ) (b : Bool) → i + 1 ≤ j → j < length entries → IsTrue b ↔ GoesOnInBatch (get_or entries (j - 1) o) (get_or entries j o) → b ≡ true → GoOn entries i j → GoOn entries i (j + 1)
    one_more_by j b low here is so on =
        one_more j (get_or entries (j - 1) o) (get_or entries j o) low (slice_get-get_or entries (j - 1) o (omega arith)) (slice_get-get_or entries j o here) (is.0 so) on
