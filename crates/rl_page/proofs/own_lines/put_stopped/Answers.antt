-- The words of a stop's line, one after the other.
use Rattle.std.proofs.Common.{[], ◌∷◌, codes, decimal, ap, refl}
use Rattle.rl_shown.proofs.TellingLaws.{line_begins, line_word, line_ends}
use Rattle.rl_page.proofs.own_lines.put_stopped.Goals as goal

pub returns : goal.returns
returns c =
    let out = c.args.out.now.items in
    let w = codes "stop" in
    let rank = decimal c.args.rank in
    let made = decimal c.args.made in
    let begun = line_begins out c.extend_from_slice.new.self.items w c.in_ok-extend_from_slice.ensures.items in
    let named = line_word out c.extend_from_slice.new.self.items c.put_value.new.out.items w [] _ rank begun c.in_ok-put_value.ensures (ap decimal c.from.ensures) in
    let before = line_word out c.put_value.new.out.items c.put_word.new.out.items w (rank ∷ []) _ (codes "before") named c.in_ok-put_word.ensures refl in
    let step = line_word out c.put_word.new.out.items c.put_value-2.new.out.items w (rank ∷ codes "before" ∷ []) _ made before c.in_ok-put_value-2.ensures (ap decimal c.from-2.ensures) in
    line_ends out c.put_value-2.new.out.items c.push.new.self.items w (rank ∷ codes "before" ∷ made ∷ []) step c.in_ok-push.ensures.items
