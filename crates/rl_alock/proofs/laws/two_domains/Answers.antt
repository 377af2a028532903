-- By where the rank sits.
use Rattle.std.proofs.Common.{◌≡◌, ◌∙◌, ap, sym, ⊎_elim, ◌==◌, Bool, true, false, not, refl, slice_index}
use Rattle.std.proofs.lemmas.Bool.Decides.{eqb_tells}
use Rattle.rl_word.specs.declared.acts.Act.TheVariants.{LocalCas}
use Rattle.rl_word.specs.Acts.{by_card}
use Rattle.rl_alock.specs.Alock.{domain}
use Rattle.rl_alock.specs.laws.Cases.{cohort_by}
use Rattle.rl_alock.proofs.laws.two_domains.Goals as goal

not_card : (b : Bool) → not b ≡ true → b ≡ false
not_card true e = cc
not_card false e = refl

pub returns : goal.returns
returns c = λ K. record {
  home = λ r a e h.
      let here : (slice_index K.node_of r == K.home) ≡ true = ⊎_elim (λ p. p.0) (λ p. absurd (p.1 e)) (eqb_tells (slice_index K.node_of r) K.home) in
      not_card (by_card a) (sym (ap (λ b. domain (cohort_by b) r a) here) ∙ h);
  away = λ r w old new ne.
      let far : (slice_index K.node_of r == K.home) ≡ false = ⊎_elim (λ p. absurd (ne p.1)) (λ p. p.0) (eqb_tells (slice_index K.node_of r) K.home) in
      ap (λ b. domain (cohort_by b) r (LocalCas w old new)) far;
}
