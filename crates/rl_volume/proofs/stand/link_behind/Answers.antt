use Rattle.std.proofs.Common.{◌≡◌, ◌∙◌, ◌+◌, sym, ap, refl, ℕ, Option, Some, None, IfSome}
use Rattle.rl_volume.specs.Words.{named, cell_key_word, link_word}
use Rattle.rl_volume.specs.Seen.{value_of}
use Rattle.rl_volume.specs.Stand.{GoesOn}
use Rattle.rl_volume.proofs.StandLaws.{behind_cell}
use Rattle.rl_volume.proofs.stand.link_behind.Goals as goal

pub returns : goal.returns
returns c =
    let pairs = c.args.seen.now.pairs in
    let stand = c.args.stand in
    let cell = c.in_ok-cell.cell in
    let there = c.in_ok-there.there in
    let is : named c.args.geom stand.link ≡ Some cell = sym c.named.ensures.cell ∙ c.in_ok-cell.was in
    let read : value_of pairs (cell_key_word c.args.geom cell) ≡ Some there = ap (value_of pairs) (sym c.cell_key_word.ensures) ∙ sym c.value_at.ensures ∙ c.in_ok-there.was in
    let link : c.value_at-2.result ≡ value_of pairs (link_word c.args.geom cell) = c.value_at-2.ensures ∙ ap (value_of pairs) c.link_word.ensures in
    let P : Option ℕ → Type 0 = λ o. IfSome o (λ next. GoesOn c.args.geom c.args.key next (stand.passed + 1) pairs) in
    elim c.value_at-2.result as (λ o. c.value_at-2.result ≡ o → P o) [
      | None ↦ λ e. tt
      | Some next ↦ λ e. behind_cell c.args.geom c.args.key pairs stand.link stand.passed cell there next c.requires.there is read c.if-there-key.false (sym link ∙ e) c.requires.goes_on
    ] refl
