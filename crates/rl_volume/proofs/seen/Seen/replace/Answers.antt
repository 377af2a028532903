use Rattle.std.proofs.Common.{◌≡◌, ◌∙◌, sym, ap, subst, arith, ℕ, List, eqb, Some}
use Rattle.std.specs.List.{position}
use Rattle.rl_volume.specs.Seen.{AreApart, ArePlaced, with_value}
use Rattle.rl_volume.specs.Words.{volume_words}
use Rattle.rl_volume.proofs.Patches.{replaced, apart_replaced}
use Rattle.rl_volume.proofs.SeenPlaces.{placed_same}
use Rattle.rl_volume.proofs.seen.Seen.replace.Goals as goal

pub invariant_of-self : goal.invariant_of-self
invariant_of-self c =
    let s = c.self.inside in
    let at : position (λ (q : ℕ × ℕ). eqb q.0 c.args.word) s.pairs.items ≡ Some c.args.index = ap (λ v. position (λ (q : ℕ × ℕ). eqb q.0 c.args.word) v.pairs) c.self.view_is ∙ c.requires.there in
    let new = replaced s.pairs.items c.args.word c.args.value c.args.index at in
    let P : List (ℕ × ℕ) → Type 0 = λ ps. AreApart ps (volume_words s.geom) in (
      subst P (sym new.1) (apart_replaced s.pairs.items (volume_words s.geom) c.args.word c.args.value c.self.invariant.0 new.2),
      c.self.invariant.1,
      c.self.invariant.2,
      omega arith,
      λ some. absurd (omega (arith, some)),
      c.self.invariant.5,
      subst (λ ps. ArePlaced ps s.places.items) (sym new.1) (placed_same s.pairs.items s.places.items c.args.word c.args.value c.self.invariant.6 new.2),
    )

pub returns-clause-written : goal.returns-clause-written
returns-clause-written c =
    let s = c.self.inside in
    let at : position (λ (q : ℕ × ℕ). eqb q.0 c.args.word) s.pairs.items ≡ Some c.args.index = ap (λ v. position (λ (q : ℕ × ℕ). eqb q.0 c.args.word) v.pairs) c.self.view_is ∙ c.requires.there in
    (replaced s.pairs.items c.args.word c.args.value c.args.index at).1 ∙ ap (λ v. with_value v.pairs c.args.word c.args.value) c.self.view_is
