-- A tree has a queue for each of its elements.
use Rattle.std.proofs.Common.{◌≡◌, length, ap, sym, ◌∙◌, rules}
use Rattle.rl_word.specs.Shapes.{TheShape}
use Rattle.rl_step.specs.LockQueues.{queues_of_kind, root_budget}
use Rattle.rl_step.specs.laws.QueueLemmas.{elements_long}
use Rattle.rl_step.proofs.queues.count_of_kind.Goals as goal

pub returns-in-Elements : goal.returns-in-Elements
returns-in-Elements c = λ home knobs.
    let shape : TheShape = c.args.shape.now in
    let inside : c.len.result ≡ length c.shape.inside.elements.items = search rules in
    let many = inside ∙ ap (λ (s : TheShape). length s.elements) c.shape.view_is in
    many ∙ sym (elements_long shape (root_budget _ knobs) 0 (length shape.elements)) ∙ ap (λ kind. length (queues_of_kind kind shape home knobs)) (sym c.in-Elements.is)
