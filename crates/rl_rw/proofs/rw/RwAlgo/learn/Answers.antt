-- What a good state gives meets the conditions of the calls of the tree and of the counters.
use Rattle.std.proofs.Common.{◌≤◌, ◌∙◌, ap, sym, subst, length}
use Rattle.rl_step.specs.Lock.{Told}
use Rattle.rl_tree.specs.declared.view.TreeView.{TreeView}
use Rattle.rl_tree.specs.Tree.{at_hook, with_entry}
use Rattle.rl_tree.specs.TreeShape.{levels_of}
use Rattle.rl_tree.specs.laws.TreeLaid.{laid_shaped}
use Rattle.rl_counter.specs.Counter.{NamesCounters, counter_turn}
use Rattle.rl_rw.specs.Rw.{shared_of, from_tree, rw_learn}
use Rattle.rl_rw.specs.Fits.{Ends}
use Rattle.rl_rw.proofs.CodeLaws.{names_learn, plans_learn, ends_learn, learns_tree, few_told}
use Rattle.rl_rw.proofs.rw.RwAlgo.learn.Goals as goal

pub counter_learn-turn-requires : goal.counter_learn-turn-requires
counter_learn-turn-requires c =
    let s = c.args.self.now in
    let v = c.args.view.now in
    subst (λ z. NamesCounters z v.counter.counter v.counter.doing) (sym s.counted)
    (names_learn (shared_of s.tree.rooted s.counters.readers s.group) (levels_of s.tree.rooted.shape) (laid_shaped s.tree.rooted (levels_of s.tree.rooted.shape) s.tree.laid) s.limited s.few s.grouped v c.args.got c.requires.may)

pub at_counters-requires-clause-ends : goal.at_counters-requires-clause-ends
at_counters-requires-clause-ends c =
    let s = c.args.self.now in
    let v = c.args.view.now in
    let told = ap (λ z. z.doing) c.counter_learn-turn.ensures.view ∙ ap (λ z. (counter_turn z v.counter.doing c.args.got).doing) s.counted in
    subst (Ends s.tree.rooted v.tree v.counter.doing) (sym told)
    (ends_learn (shared_of s.tree.rooted s.counters.readers s.group) (levels_of s.tree.rooted.shape) (laid_shaped s.tree.rooted (levels_of s.tree.rooted.shape) s.tree.laid) s.limited s.few s.grouped v c.args.got c.requires.may (sym c.counter_busy.ensures ∙ c.if-counter_busy.true))

pub learn-waits-requires-clause-fits : goal.learn-waits-requires-clause-fits
learn-waits-requires-clause-fits c =
    let s = c.args.self.now in
    plans_learn (shared_of s.tree.rooted s.counters.readers s.group) (levels_of s.tree.rooted.shape) (laid_shaped s.tree.rooted (levels_of s.tree.rooted.shape) s.tree.laid) s.limited s.few s.grouped c.args.view.now c.args.got c.requires.may

pub learn-waits-requires-clause-got : goal.learn-waits-requires-clause-got
learn-waits-requires-clause-got c =
    let s = c.args.self.now in
    learns_tree (shared_of s.tree.rooted s.counters.readers s.group) (levels_of s.tree.rooted.shape) (laid_shaped s.tree.rooted (levels_of s.tree.rooted.shape) s.tree.laid) s.limited s.few s.grouped c.args.view.now c.args.got c.requires.may (sym c.counter_busy.ensures ∙ c.if-counter_busy.false)

pub within_tree-requires : goal.within_tree-requires
within_tree-requires c =
    let s = c.args.self.now in
    subst (λ u. length (with_entry u).events ≤ 8) (sym c.learn-waits.ensures)
    (few_told (shared_of s.tree.rooted s.counters.readers s.group) (levels_of s.tree.rooted.shape) (laid_shaped s.tree.rooted (levels_of s.tree.rooted.shape) s.tree.laid) s.limited s.few s.grouped c.args.view.now c.args.got c.requires.may (sym c.counter_busy.ensures ∙ c.if-counter_busy.false))

-- what was learnt in the tree leads to the whole view, at the hook and elsewhere
pub returns-then-is_at_hook : goal.returns-then-is_at_hook
returns-then-is_at_hook c =
    let s = c.args.self.now in
    let v = c.args.view.now in
    let turn : Told TreeView = record { view = c.learn-waits.new.view; events = c.learn-waits.new.events.items; waits = c.learn-waits.result } in
    c.comes_to_hook.ensures turn.events turn.waits
    ∙ ap (λ b. from_tree v b turn) (sym c.if-is_at_hook.true ∙ c.is_at_hook.ensures)
    ∙ ap (λ u. from_tree v (at_hook u.view) u) c.learn-waits.ensures
    ∙ ap (λ b. rw_learn (shared_of s.tree.rooted s.counters.readers s.group) v b c.args.got) (sym c.if-counter_busy.false ∙ c.counter_busy.ensures)

pub returns-else-is_at_hook : goal.returns-else-is_at_hook
returns-else-is_at_hook c =
    let s = c.args.self.now in
    let v = c.args.view.now in
    let turn : Told TreeView = record { view = c.learn-waits.new.view; events = c.learn-waits.new.events.items; waits = c.learn-waits.result } in
    c.within_tree.ensures turn.waits
    ∙ ap (λ b. from_tree v b turn) (sym c.if-is_at_hook.false ∙ c.is_at_hook.ensures)
    ∙ ap (λ u. from_tree v (at_hook u.view) u) c.learn-waits.ensures
    ∙ ap (λ b. rw_learn (shared_of s.tree.rooted s.counters.readers s.group) v b c.args.got) (sym c.if-counter_busy.false ∙ c.counter_busy.ensures)
