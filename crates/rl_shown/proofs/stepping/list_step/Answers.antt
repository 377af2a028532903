-- The pieces that were appended are the step's line.
use Rattle.std.proofs.Common.{◌++◌, ◌∷◌, decimal, ap, ◌∙◌}
use Rattle.rl_step.specs.Answers.{steps_made}
use Rattle.rl_machine.specs.Running.{running}
use Rattle.rl_machine.specs.Whereabouts.{standing_by}
use Rattle.rl_report.specs.Printing.{spaced}
use Rattle.rl_names.specs.StepWords.{step_words}
use Rattle.rl_shown.specs.Listing.{out_word, out_words}
use Rattle.rl_shown.proofs.ListingLaws.{line_is, words_more}
use Rattle.rl_shown.proofs.stepping.list_step.Goals as goal

pub returns-clause-text : goal.returns-clause-text
returns-clause-text g c =
    let out = c.args.out.now.items in
    let m = running g.C.ShardCore.says c.args.machine.now in
    let k = c.args.rank in
    let words = step_words c.args.scene.place.now c.args.scene.naming.now m k in
    let after = c.standing.ensures ∙ ap (λ n. standing_by n k) c.in_ok-put_step.ensures.stepped in
    let more = words_more c.put_value.new.out.items c.put_step.new.out.items c.put_out.new.out.items words (out_words m k) c.in_ok-put_step.ensures.text
    (c.in_ok-put_out.ensures ∙ ap (λ s. c.put_step.new.out.items ++ spaced (out_word s c.standing.result)) c.standing-before.ensures ∙ ap (λ s. c.put_step.new.out.items ++ spaced (out_word (standing_by m k) s)) after) in
    let number = c.from.ensures ∙ c.steps_made.ensures ∙ ap steps_made c.steps.ensures in
    line_is out c.put_number.new.out.items c.put_word.new.out.items c.put_value.new.out.items c.put_out.new.out.items c.push.new.self.items
    (words ++ out_words m k) (steps_made m.steps) k
    (c.in_ok-put_number.ensures.puts ∙ ap (λ n. out ++ decimal n) number) c.in_ok-put_word.ensures
    (c.in_ok-put_value.ensures ∙ ap (λ n. c.put_word.new.out.items ++ 32 ∷ decimal n) c.from-2.ensures) more c.in_ok-push.ensures.items
