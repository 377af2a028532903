use Rattle.std.proofs.Common.{◌≡◌, ◌∙◌, ◌<◌, sym, arith, ap, get_or, length, refl, ℕ, List}
use Rattle.rl_volume.specs.Seen.{value_of}
use Rattle.rl_volume.proofs.Pairs.{same_pair}
use Rattle.rl_volume.proofs.SeenLaws.{value_at}
use Rattle.rl_volume.proofs.seen.Seen.value_at.Goals as goal

pub returns-in-Some : goal.returns-in-Some
returns-in-Some c =
    let at_word = c.in-Some.ensures.lookup.3 in
    let pair = c.in-Some.field-0.now in
    let items = c.self.inside.pairs.items in
    let below : c.args.position < length items = omega (arith, at_word.0, ap length c.deref.ensures.value) in
    let stands : get_or items c.args.position (0, 0) ≡ (c.args.word, pair.1) =
    sym (ap (λ (ps : List (ℕ × ℕ)). get_or ps c.args.position (0, 0)) c.deref.ensures.value) ∙ sym (at_word.1 (0, 0)) ∙ same_pair pair.0 pair.1 c.args.word pair.1 c.if-seen-word.true refl in
    sym (value_at items c.args.position c.args.word pair.1 below stands (c.self.invariant.0.once c.args.word)) ∙ ap (λ s. value_of s.pairs c.args.word) c.self.view_is
