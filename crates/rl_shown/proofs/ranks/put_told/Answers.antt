-- The words of a rank's line, one after the other.
use Rattle.std.proofs.Common.{[], ◌∷◌, codes, decimal, ap, refl}
use Rattle.rl_shown.specs.State.{standing_word}
use Rattle.rl_shown.proofs.TellingLaws.{line_begins, line_word, line_ends}
use Rattle.rl_shown.proofs.ranks.put_told.Goals as goal

pub returns : goal.returns
returns c =
    let out = c.args.out.now.items in
    let told = c.args.told in
    let w = codes "rank" in
    let k = decimal c.args.rank in
    let s = decimal told.shard in
    let how = standing_word told.standing in
    let begun = line_begins out c.extend_from_slice.new.self.items w c.in_ok-extend_from_slice.ensures.items in
    let ranked = line_word out c.extend_from_slice.new.self.items c.put_value.new.out.items w [] _ k begun c.in_ok-put_value.ensures (ap decimal c.from.ensures) in
    let placed = line_word out c.put_value.new.out.items c.put_value-2.new.out.items w (k ∷ []) _ s ranked c.in_ok-put_value-2.ensures (ap decimal c.from-2.ensures) in
    let stood = line_word out c.put_value-2.new.out.items c.put_word.new.out.items w (k ∷ s ∷ []) _ how placed c.in_ok-put_word.ensures c.standing_word.ensures in
    let opens = line_word out c.put_word.new.out.items c.put_word-2.new.out.items w (k ∷ s ∷ how ∷ []) _ (codes "opened") stood c.in_ok-put_word-2.ensures refl in
    let opened = line_word out c.put_word-2.new.out.items c.put_value-3.new.out.items w (k ∷ s ∷ how ∷ codes "opened" ∷ []) _ (decimal told.opened) opens c.in_ok-put_value-3.ensures (ap decimal c.from-3.ensures) in
    let does = line_word out c.put_value-3.new.out.items c.put_word-3.new.out.items w (k ∷ s ∷ how ∷ codes "opened" ∷ decimal told.opened ∷ []) _ (codes "done") opened c.in_ok-put_word-3.ensures refl in
    let done = line_word out c.put_word-3.new.out.items c.put_value-4.new.out.items w (k ∷ s ∷ how ∷ codes "opened" ∷ decimal told.opened ∷ codes "done" ∷ []) _ (decimal told.done) does c.in_ok-put_value-4.ensures (ap decimal c.from-4.ensures) in
    line_ends out c.put_value-4.new.out.items c.push.new.self.items w (k ∷ s ∷ how ∷ codes "opened" ∷ decimal told.opened ∷ codes "done" ∷ decimal told.done ∷ []) done c.in_ok-push.ensures.items
