use Rattle.std.proofs.Common.{◌≡◌, ◌∙◌, [], length-set, sym, ap, subst, arith, drop, List, ℕ, refl}
use Rattle.std.proofs.lemmas.List.{drop_all}
use Rattle.rl_volume.specs.Seen.{value_of, AreApart, ArePlaced}
use Rattle.rl_volume.specs.Words.{volume_words}
use Rattle.rl_volume.proofs.SeenPlaces.{in_volume, none_forgotten, one_forgotten}
use Rattle.rl_volume.proofs.seen.Seen.clear.Goals as goal

pub loop-seen-init : goal.loop-seen-init
loop-seen-init c =
    let s = c.self.inside in
    (refl, λ word none. none_forgotten s.pairs.items s.places.items c.self.invariant.6 word (ap (λ ps. value_of ps word) (sym c.deref-seen-items.ensures.value) ∙ none))

pub index_mut-requires : goal.index_mut-requires
index_mut-requires c =
    let s = c.self.inside in
    let items = c.deref-seen-items.result.now in
    let apart : AreApart items (volume_words s.geom) = subst (λ ps. AreApart ps (volume_words s.geom)) (sym c.deref-seen-items.ensures.value) c.self.invariant.0 in
    omega (arith, in_volume items (volume_words s.geom) c.loop-seen.seen-index (0, 0) apart.below c.loop-seen-test.true, c.loop-seen.invariant.0, c.self.invariant.5)

pub loop-seen-preserved : goal.loop-seen-preserved
loop-seen-preserved c =
    let s = c.self.inside in
    let items = c.deref-seen-items.result.now in
    let places = c.loop-seen.self-inside.1.1.0.items in
    let apart : AreApart items (volume_words s.geom) = subst (λ ps. AreApart ps (volume_words s.geom)) (sym c.deref-seen-items.ensures.value) c.self.invariant.0 in
    let there = in_volume items (volume_words s.geom) c.loop-seen.seen-index (0, 0) apart.below c.loop-seen-test.true in (
      length-set places _ 0 ∙ c.loop-seen.invariant.0,
      one_forgotten items places c.loop-seen.seen-index (0, 0) c.loop-seen-test.true (omega (arith, there, c.loop-seen.invariant.0, c.self.invariant.5)) c.loop-seen.invariant.1,
    )

pub invariant_of-self : goal.invariant_of-self
invariant_of-self c =
    let s = c.self.inside in
    let items = c.deref-seen-items.result.now in
    let places = c.loop-seen.self-inside.1.1.0.items in
    let over : drop c.loop-seen.seen-index items ≡ [] = drop_all c.loop-seen.seen-index items c.loop-seen-test.false in
    let Kept : List (ℕ × ℕ) → Type 0 = λ ps. AreApart ps (volume_words s.geom) × ArePlaced ps places in
    let kept : Kept c.clear.new.self.items = subst Kept (sym c.clear.ensures.items) (record { once = λ word. omega arith; below = refl }, λ word. c.loop-seen.invariant.1 word (ap (λ ps. value_of ps word) over)) in
    (kept.0, omega (arith, c.self.invariant.1, c.clear.ensures.capacity), c.self.invariant.2, omega arith, λ some. absurd (omega (arith, some)), c.loop-seen.invariant.0 ∙ c.self.invariant.5, kept.1)
