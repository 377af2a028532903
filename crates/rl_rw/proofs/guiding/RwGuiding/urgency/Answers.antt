-- The planned act is made on a word of the lock, which the code finds where it looks.
use Rattle.std.proofs.Common.{ℕ, ◌+◌, ◌*◌, List, ap, sym, ◌∙◌, drop, take}
use Rattle.rl_word.specs.Shapes.{layout_of}
use Rattle.rl_tree.specs.TreeShape.{levels_of}
use Rattle.rl_queue.specs.Urgency.{loaded, urgent_at}
use Rattle.rl_queue.specs.laws.UrgencyLaws.{loaded_in, aims, load_there, load_fits}
use Rattle.rl_counter.specs.Counter.{busy}
use Rattle.rl_counter.specs.declared.view.Doing.TheVariants.{Nothing}
use Rattle.rl_rw.specs.Rw.{shared_of, groups, behind_tree, plan_of, rw_table, KeepsBatches}
use Rattle.rl_rw.specs.RwGood.{RwGood}
use Rattle.rl_rw.specs.laws.RwLaws.{laws_of}
use Rattle.rl_rw.specs.RwUrgency.{where_some, turn_of, tree_urgency, urgency_at}
use Rattle.rl_rw.proofs.guiding.RwGuiding.urgency.Goals as goal

pub at_queue-requires-clause-there : goal.at_queue-requires-clause-there
at_queue-requires-clause-there c w planned =
    let s = c.args.self.now in
    let K = shared_of s.tree.rooted s.counters.readers s.group in
    let n = levels_of s.tree.rooted.shape in
    load_there (rw_table K) (RwGood K n) (KeepsBatches K) (layout_of s.tree.rooted.shape) (laws_of s.tree.rooted s.counters.readers s.group s.tree.laid s.limited s.few s.grouped) c.args.view c.requires.may
    c.args.base c.args.words.now.words c.requires.there w (sym c.plan.ensures ∙ planned)

pub at_queue-requires-clause-fits : goal.at_queue-requires-clause-fits
at_queue-requires-clause-fits c w planned =
    let s = c.args.self.now in
    let K = shared_of s.tree.rooted s.counters.readers s.group in
    let n = levels_of s.tree.rooted.shape in
    load_fits (rw_table K) (RwGood K n) (KeepsBatches K) (layout_of s.tree.rooted.shape) (laws_of s.tree.rooted s.counters.readers s.group s.tree.laid s.limited s.few s.grouped) c.args.view c.requires.may
    c.args.base c.requires.fits w (sym c.plan.ensures ∙ planned)

pub returns-else-view : goal.returns-else-view
returns-else-view c =
    let s = c.args.self.now in
    let v = c.args.view in
    let K = shared_of s.tree.rooted s.counters.readers s.group in
    let n = levels_of s.tree.rooted.shape in
    let size : ℕ = behind_tree K + 2 * groups K in
    let ws : List ℕ = drop c.args.base c.args.words.now.words in
    c.at_queue.ensures ∙ ap (λ p. where_some (turn_of v.tree.phase) (urgent_at v.tree.phase (loaded ws p))) c.plan.ensures
    ∙ ap (λ w. where_some (turn_of v.tree.phase) (urgent_at v.tree.phase w))
    (loaded_in size ws (plan_of K v (busy v.counter.doing))
    (aims (rw_table K) (RwGood K n) (KeepsBatches K) (layout_of s.tree.rooted.shape) (laws_of s.tree.rooted s.counters.readers s.group s.tree.laid s.limited s.few s.grouped) v c.requires.may))
    ∙ ap (λ d. where_some (turn_of v.tree.phase) (urgent_at v.tree.phase (loaded (take size ws) (plan_of K v (busy d))))) c.in-Nothing.is
    ∙ ap (λ b. tree_urgency b v.tree.phase (loaded (take size ws) (plan_of K v (busy Nothing)))) (sym c.if-view.false)
    ∙ ap (λ d. urgency_at K (take size ws) d v.tree) (sym c.in-Nothing.is)
