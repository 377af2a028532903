-- What holds of an act, by what it finds.
use Rattle.std.specs.Prelude.{◌≡◌, ℕ, ◌==◌, cond}
use Rattle.std.proofs.Common.{sym, subst, ⊎_elim}
use Rattle.std.proofs.lemmas.Bool.{cases_Bool, eqb-true, eqb-false}
use Rattle.rl_word.specs.Acts.{written}
use Rattle.rl_word.specs.declared.acts.Act.TheVariants.{CardCas}

-- A compare-and-swap by two cases. What a rank learns of it and what the word is afterwards hang on one test: the word was the guess, and is
-- the new value then; or it was another, and stays. A local one computes the same.
pub by_cas : {A : Type 0} (P : A → ℕ → Type 0) (w old new got : ℕ) (x y : A) → (got ≡ old → P x new) → ((got ≡ old → ⊥) → P y got) → P (cond (got == old) x y) (written (CardCas w old new) got)
by_cas P w old new got x y won lost = ⊎_elim (λ e. subst (λ b. P (cond b x y) (cond b new got)) (sym e) (won (eqb-true got old e)))
    (λ e. subst (λ b. P (cond b x y) (cond b new got)) (sym e) (lost (eqb-false got old e))) (cases_Bool (got == old))
