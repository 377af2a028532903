-- A counter's words live on the node of its group's first rank.
use Rattle.std.proofs.Common.{◌≤◌, ◌<◌, ◌∙◌, ap, sym, subst, ℕ, ◌-◌, ◌*◌, ◌/◌, length, slice_index}
use Rattle.std.proofs.lemmas.List.{get_or_default}
use Rattle.rl_word.specs.declared.classes.Class.TheVariants.{Card}
use Rattle.rl_tree.specs.TreeShape.{levels_of}
use Rattle.rl_tree.specs.laws.TreeLaid.{laid_shaped}
use Rattle.rl_rw.specs.Rw.{shared_of, behind_tree}
use Rattle.rl_rw.specs.laws.RwFits.{spot_behind}
use Rattle.rl_rw.proofs.CodeLaws.{first_there}
use Rattle.rl_rw.proofs.rw.RwAlgo.spot.Goals as goal

pub returns-else-word-of_tree : goal.returns-else-word-of_tree
returns-else-word-of_tree c =
    let s = c.args.self.now in
    let w = c.args.word in
    let behind = subst (λ z. z ≤ w) c.words-of_tree.ensures c.if-word-of_tree.false in
    let at : ℕ → ℕ = λ z. (w - z) / 2 * s.group in
    let there = first_there (shared_of s.tree.rooted s.counters.readers s.group) (levels_of s.tree.rooted.shape) (laid_shaped s.tree.rooted (levels_of s.tree.rooted.shape) s.tree.laid) s.limited s.few s.grouped w behind c.requires in
    let in_list : at c.words-of_tree.result < length s.node_of.items = subst (λ z. at z < length s.node_of.items) (sym c.words-of_tree.ensures) (subst (λ z. at (behind_tree (shared_of s.tree.rooted s.counters.readers s.group)) < length z) (sym s.seated) there) in
    let sits = c.index.ensures ∙ get_or_default s.node_of.items (at c.words-of_tree.result) c.index.result.now 0 in_list ∙ ap (λ z. slice_index z (at c.words-of_tree.result)) s.seated ∙ ap (λ z. slice_index s.tree.rooted.shape.node_of (at z)) c.words-of_tree.ensures in
    ap (λ z. record { class = Card; home = z }) sits ∙ sym (spot_behind (shared_of s.tree.rooted s.counters.readers s.group) w behind)
