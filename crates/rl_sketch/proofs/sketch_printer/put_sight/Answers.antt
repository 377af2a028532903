use Rattle.std.proofs.Common.{ℕ, List, ◌++◌, codes, refl, sym, ap, ◌∙◌, append_assoc}
use Rattle.rl_sketch.proofs.PrintLaws.{both_put, sight_behind}
use Rattle.rl_sketch.proofs.sketch_printer.put_sight.Goals as goal

pub returns : goal.returns
returns c =
    let word = c.args.word.now in
    let spaced = both_put _ word (codes " ") (word ++ codes " ") _ _ c.in_ok-extend_from_slice.ensures.items c.in_ok-push.ensures.items refl in
    let behind = sight_behind word c.args.sight.now ∙ sym (append_assoc word (codes " ") _) ∙ ap (λ (bytes : List ℕ). (word ++ codes " ") ++ bytes) (sym c.sight_bytes.ensures) in
    both_put _ _ _ _ _ _ spaced c.in_ok-extend_from_slice-2.ensures.items behind
