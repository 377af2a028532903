-- The words of the window's line, one after the other.
use Rattle.std.proofs.Common.{[], ◌∷◌, codes, decimal, ap, refl, ◌∙◌}
use Rattle.rl_shown.proofs.TellingLaws.{line_begins, line_word, line_ends}
use Rattle.rl_page.specs.PageData.{count_of}
use Rattle.rl_page.proofs.own_lines.put_window.Goals as goal

pub returns : goal.returns
returns c =
    let out = c.args.out.now.items in
    let w = codes "window" in
    let from = decimal c.args.window.from in
    let to = decimal c.args.window.to in
    let count = decimal (count_of c.args.window c.args.total) in
    let total = decimal c.args.total in
    let begun = line_begins out c.extend_from_slice.new.self.items w c.in_ok-extend_from_slice.ensures.items in
    let first = line_word out c.extend_from_slice.new.self.items c.put_value.new.out.items w [] _ from begun c.in_ok-put_value.ensures (ap decimal c.from.ensures) in
    let last = line_word out c.put_value.new.out.items c.put_value-2.new.out.items w (from ∷ []) _ to first c.in_ok-put_value-2.ensures (ap decimal c.from-2.ensures) in
    let shown = line_word out c.put_value-2.new.out.items c.put_word.new.out.items w (from ∷ to ∷ []) _ (codes "shown") last c.in_ok-put_word.ensures refl in
    let counted = line_word out c.put_word.new.out.items c.put_value-3.new.out.items w (from ∷ to ∷ codes "shown" ∷ []) _ count shown c.in_ok-put_value-3.ensures (ap decimal (c.from-3.ensures ∙ c.count_of.ensures)) in
    let of = line_word out c.put_value-3.new.out.items c.put_word-2.new.out.items w (from ∷ to ∷ codes "shown" ∷ count ∷ []) _ (codes "of") counted c.in_ok-put_word-2.ensures refl in
    let all = line_word out c.put_word-2.new.out.items c.put_value-4.new.out.items w (from ∷ to ∷ codes "shown" ∷ count ∷ codes "of" ∷ []) _ total of c.in_ok-put_value-4.ensures (ap decimal c.from-4.ensures) in
    line_ends out c.put_value-4.new.out.items c.push.new.self.items w (from ∷ to ∷ codes "shown" ∷ count ∷ codes "of" ∷ total ∷ []) all c.in_ok-push.ensures.items
