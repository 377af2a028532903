-- The planned act is made on a word of the lock, which the code finds where it looks.
use Rattle.std.proofs.Common.{false, ap, sym, ◌∙◌, drop, take}
use Rattle.rl_word.specs.Shapes.{layout_of}
use Rattle.rl_step.specs.Lock.{no_more}
use Rattle.rl_tree.specs.Elements.{of_tree, tree_of}
use Rattle.rl_tree.specs.Tree.{tree_plan}
use Rattle.rl_tree.specs.TreeShape.{levels_of}
use Rattle.rl_tree.specs.laws.TreeLaid.{laid_shaped}
use Rattle.rl_queue.specs.Urgency.{loaded}
use Rattle.rl_queue.specs.laws.UrgencyLaws.{loaded_in, aims, load_there, load_fits}
use Rattle.rl_mcs.specs.Mcs.{mcs_table, McsGood}
use Rattle.rl_mcs.specs.laws.McsLaws.{mcs_laws}
use Rattle.rl_mcs.specs.McsUrgency.{urgent_by}
use Rattle.rl_mcs.proofs.guiding.McsGuiding.urgency.Goals as goal

pub queue_urgency-requires-clause-there : goal.queue_urgency-requires-clause-there
queue_urgency-requires-clause-there c w planned =
    let s = c.args.self.now in
    let K = s.tree.rooted in
    let n = levels_of K.shape in
    load_there (mcs_table K) (McsGood K n) no_more (layout_of K.shape) (mcs_laws K n (laid_shaped K n s.tree.laid) s.unlimited) c.args.view c.requires.may
    c.args.base c.args.words.now.words c.requires.there w (sym c.plan.ensures ∙ planned)

pub queue_urgency-requires-clause-fits : goal.queue_urgency-requires-clause-fits
queue_urgency-requires-clause-fits c w planned =
    let s = c.args.self.now in
    let K = s.tree.rooted in
    let n = levels_of K.shape in
    load_fits (mcs_table K) (McsGood K n) no_more (layout_of K.shape) (mcs_laws K n (laid_shaped K n s.tree.laid) s.unlimited) c.args.view c.requires.may
    c.args.base c.requires.fits w (sym c.plan.ensures ∙ planned)

pub returns-else-view : goal.returns-else-view
returns-else-view c =
    let s = c.args.self.now in
    let v = c.args.view in
    let K = s.tree.rooted in
    let n = levels_of K.shape in
    let ws = drop c.args.base c.args.words.now.words in
    c.queue_urgency.ensures ∙ ap (λ p. urgent_by false v.phase (loaded ws p)) c.plan.ensures
    ∙ ap (urgent_by false v.phase)
    (loaded_in (of_tree K) ws (tree_plan (tree_of K) v) (aims (mcs_table K) (McsGood K n) no_more (layout_of K.shape) (mcs_laws K n (laid_shaped K n s.tree.laid) s.unlimited) v c.requires.may))
    ∙ ap (λ b. urgent_by b v.phase (loaded (take (of_tree K) ws) (tree_plan (tree_of K) v))) (sym c.if-view.false)
