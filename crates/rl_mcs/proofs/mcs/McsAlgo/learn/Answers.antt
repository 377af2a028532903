-- What a good state gives meets the conditions of the tree's calls.
use Rattle.std.proofs.Common.{◌∙◌, ◌≤◌, ◌≡◌, ap, sym, subst, length, true}
use Rattle.rl_tree.specs.Tree.{at_hook, with_entry}
use Rattle.rl_tree.specs.Elements.{tree_of}
use Rattle.rl_tree.specs.Fits.{IsPlaced}
use Rattle.rl_tree.specs.TreeShape.{levels_of}
use Rattle.rl_tree.specs.laws.TreeLaid.{laid_shaped}
use Rattle.rl_step.specs.Lock.{Told}
use Rattle.rl_tree.specs.declared.view.TreeView.{TreeView}
use Rattle.rl_mcs.proofs.CodeLaws.{past, plans_it, learns_it, placed_after, few_after, few_told}
use Rattle.rl_mcs.proofs.mcs.McsAlgo.learn.Goals as goal

pub learn-turn-requires-clause-fits : goal.learn-turn-requires-clause-fits
learn-turn-requires-clause-fits c =
    let t = c.args.self.now.tree in
    plans_it t.rooted (levels_of t.rooted.shape) (laid_shaped t.rooted (levels_of t.rooted.shape) t.laid) c.args.self.now.unlimited c.args.view.now c.args.got c.requires.may

pub learn-turn-requires-clause-got : goal.learn-turn-requires-clause-got
learn-turn-requires-clause-got c =
    let t = c.args.self.now.tree in
    learns_it t.rooted (levels_of t.rooted.shape) (laid_shaped t.rooted (levels_of t.rooted.shape) t.laid) c.args.self.now.unlimited c.args.view.now c.args.got c.requires.may

-- what was learnt in the tree, by its parts
abbrev the_view : Told TreeView → TreeView
the_view u = u.view

pub past_hook-waits-requires-clause-placed : goal.past_hook-waits-requires-clause-placed
past_hook-waits-requires-clause-placed c on =
    let t = c.args.self.now.tree in
    let same = ap the_view c.learn-turn.ensures in
    subst (IsPlaced t.rooted) (sym same)
    (placed_after t.rooted (levels_of t.rooted.shape) (laid_shaped t.rooted (levels_of t.rooted.shape) t.laid) c.args.self.now.unlimited c.args.view.now c.args.got c.requires.may (subst (λ z. at_hook z ≡ true) same on))

pub past_hook-waits-requires-clause-room : goal.past_hook-waits-requires-clause-room
past_hook-waits-requires-clause-room c on =
    let t = c.args.self.now.tree in
    subst (λ z. length z ≤ 3) (sym (ap (λ u. u.events) c.learn-turn.ensures))
    (few_after t.rooted (levels_of t.rooted.shape) (laid_shaped t.rooted (levels_of t.rooted.shape) t.laid) c.args.self.now.unlimited c.args.view.now c.args.got c.requires.may (subst (λ z. at_hook z ≡ true) (ap the_view c.learn-turn.ensures) on))

pub tree_enter-requires : goal.tree_enter-requires
tree_enter-requires c =
    let t = c.args.self.now.tree in
    subst (λ z. length (with_entry z).events ≤ 8) (sym (c.past_hook-waits.ensures ∙ ap (past (tree_of t.rooted)) c.learn-turn.ensures))
    (few_told t.rooted (levels_of t.rooted.shape) (laid_shaped t.rooted (levels_of t.rooted.shape) t.laid) c.args.self.now.unlimited c.args.view.now c.args.got c.requires.may)
