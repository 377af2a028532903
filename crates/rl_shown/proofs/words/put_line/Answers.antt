-- The words of a word's line, one after the other.
use Rattle.std.proofs.Common.{◌++◌, [], ◌∷◌, codes, decimal, ap, refl, ◌∙◌, append_assoc}
use Rattle.rl_text.specs.Spelling.{line_text}
use Rattle.rl_names.specs.Spelling.{name_words}
use Rattle.rl_shown.proofs.TellingLaws.{line_begins, line_word, line_words, line_ends}
use Rattle.rl_shown.proofs.words.put_line.Goals as goal

pub returns : goal.returns
returns c =
    let out = c.args.out.now.items in
    let w = codes "word" in
    let s = decimal c.args.shard in
    let n = decimal c.args.node in
    let name = name_words c.args.naming.now c.args.name in
    let v = decimal c.args.value in
    let begun = line_begins out c.extend_from_slice.new.self.items w c.in_ok-extend_from_slice.ensures.items in
    let placed = line_word out c.extend_from_slice.new.self.items c.put_value.new.out.items w [] _ s begun c.in_ok-put_value.ensures (ap decimal c.from.ensures) in
    let housed = line_word out c.put_value.new.out.items c.put_value-2.new.out.items w (s ∷ []) _ n placed c.in_ok-put_value-2.ensures (ap decimal c.from-2.ensures) in
    let named = line_words out c.put_value-2.new.out.items c.put_name.new.out.items w (s ∷ n ∷ []) name housed c.in_ok-put_name.ensures in
    let is = line_word out c.put_name.new.out.items c.put_word.new.out.items w (s ∷ n ∷ name) _ (codes "=") named c.in_ok-put_word.ensures refl in
    let valued = line_word out c.put_word.new.out.items c.put_value-3.new.out.items w (s ∷ n ∷ (name ++ codes "=" ∷ [])) _ v is c.in_ok-put_value-3.ensures refl in
    line_ends out c.put_value-3.new.out.items c.push.new.self.items w (s ∷ n ∷ ((name ++ codes "=" ∷ []) ++ v ∷ [])) valued c.in_ok-push.ensures.items
    ∙ ap (λ z. out ++ line_text (w ∷ s ∷ n ∷ z)) (append_assoc name (codes "=" ∷ []) (v ∷ []))
