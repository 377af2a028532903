-- What `==` of pairs and of tallies tells.
use Rattle.std.proofs.Common.{◌≡◌, ℕ, ◌==◌, ◌&&◌, Bool, true, false, Decides, refl, ap, ◌∙◌}
use Rattle.std.proofs.lemmas.Bool.Decides.{Decides-eqb}
use Rattle.rl_step.specs.declared.tallies.Tally.{Tally}

both : (a b : Bool) → (a && b) ≡ true → (a ≡ true) × (b ≡ true)
both true true h = (refl, refl)
both true false h = absurd (cc)
both false b h = absurd (cc)

same_both : (a b : Bool) → a ≡ true → b ≡ true → (a && b) ≡ true
same_both a b p q = ap (λ z. z && b) p ∙ q

pub pair_decides : (a b : ℕ × ℕ) → Decides ((a.0 == b.0) && (a.1 == b.1)) (a ≡ b)
pair_decides a b = (
  (λ h. let q = both (a.0 == b.0) (a.1 == b.1) h in let x = (Decides-eqb a.0 b.0).0 q.0 in let y = (Decides-eqb a.1 b.1).0 q.1 in ap (λ (z : ℕ). (z, a.1)) x ∙ ap (λ (z : ℕ). (b.0, z)) y),
  (λ e. same_both (a.0 == b.0) (a.1 == b.1) ((Decides-eqb a.0 b.0).1 (ap (λ (z : ℕ × ℕ). z.0) e)) ((Decides-eqb a.1 b.1).1 (ap (λ (z : ℕ × ℕ). z.1) e))),
)

abbrev made : ℕ → ℕ → Tally
made settled passed = record { settled = settled; passed = passed }

pub tally_decides : (a b : Tally) → Decides ((a.settled == b.settled) && (a.passed == b.passed)) (a ≡ b)
tally_decides a b = (
  (λ h. let q = both (a.settled == b.settled) (a.passed == b.passed) h in let x = (Decides-eqb a.settled b.settled).0 q.0 in let y = (Decides-eqb a.passed b.passed).0 q.1 in ap (λ z. made z a.passed) x ∙ ap (λ z. made b.settled z) y),
  (λ e. same_both (a.settled == b.settled) (a.passed == b.passed) ((Decides-eqb a.settled b.settled).1 (ap (λ (z : Tally). z.settled) e)) ((Decides-eqb a.passed b.passed).1 (ap (λ (z : Tally). z.passed) e))),
)
