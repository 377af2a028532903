-- Views of the tree that `==` finds equal are one.
use Rattle.std.proofs.Common.{◌≡◌, ℕ, Bool, true, false, ◌&&◌, nat_eq, List, [], ◌∷◌, Option, Some, None, refl, ap, ◌∙◌, arith, rules}
use Rattle.std.proofs.lemmas.Bool.Decides.{nat_tests}
use Rattle.std.specs.Option.{option_eq}
use mathlib.Core.Bool.{beq}
use lib.Pointwise.{pointwise}
use Rattle.rl_queue.specs.declared.view.Phase.{Phase}
use Rattle.rl_tree.specs.declared.view.TreeView.{TreeView}
use Rattle.rl_queue.specs.contracts.view.PhasePartialEq.TheImpl as phase
use Rattle.rl_tree.specs.contracts.view.TreeViewPartialEq.TheImpl as tree

both : (a b : Bool) → (a && b) ≡ true → (a ≡ true) × (b ≡ true)
both true b e = (refl, e)
both false b e = cc

same_number : (a b : ℕ) → nat_eq a b ≡ true → a ≡ b
same_number a b e = grind (arith, nat_tests)

same_bool : (a b : Bool) → beq a b ≡ true → a ≡ b
same_bool true true e = refl
same_bool true false e = cc
same_bool false true e = cc
same_bool false false e = refl

same_option : (x y : Option ℕ) → option_eq nat_eq x y ≡ true → x ≡ y
same_option None None e = refl
same_option None (Some b) e = cc
same_option (Some a) None e = cc
same_option (Some a) (Some b) e = ap (λ z. Some z) (same_number a b e)

same_list : (xs ys : List (Option ℕ)) → pointwise (option_eq nat_eq) xs ys ≡ true → xs ≡ ys
same_list [] [] e = refl
same_list [] (y ∷ ys) e = cc
same_list (x ∷ xs) [] e = cc
same_list (x ∷ xs) (y ∷ ys) e =
    let p = both (option_eq nat_eq x y) (pointwise (option_eq nat_eq) xs ys) e in
    ap (λ z. z ∷ xs) (same_option x y p.0) ∙ ap (λ zs. y ∷ zs) (same_list xs ys p.1)

same_phase : (x y : Phase) → phase.ghosts.eq x y ≡ true → x ≡ y
same_phase x y e = search rules

tree_fields : (x y : TreeView) → x.rank ≡ y.rank → x.leaf ≡ y.leaf → x.level ≡ y.level → x.phase ≡ y.phase → x.query ≡ y.query → x.behind ≡ y.behind → x ≡ y
tree_fields x y a b c d e f =
    ap (λ z. record { rank = z; leaf = x.leaf; level = x.level; phase = x.phase; query = x.query; behind = x.behind }) a
    ∙ ap (λ z. record { rank = y.rank; leaf = z; level = x.level; phase = x.phase; query = x.query; behind = x.behind }) b
    ∙ ap (λ z. record { rank = y.rank; leaf = y.leaf; level = z; phase = x.phase; query = x.query; behind = x.behind }) c
    ∙ ap (λ z. record { rank = y.rank; leaf = y.leaf; level = y.level; phase = z; query = x.query; behind = x.behind }) d
    ∙ ap (λ z. record { rank = y.rank; leaf = y.leaf; level = y.level; phase = y.phase; query = z; behind = x.behind }) e
    ∙ ap (λ z. record { rank = y.rank; leaf = y.leaf; level = y.level; phase = y.phase; query = y.query; behind = z }) f

pub same_tree : (x y : TreeView) → tree.ghosts.eq x y ≡ true → x ≡ y
same_tree x y e =
    let p1 = both _ _ e in
    let p2 = both _ _ p1.1 in
    let p3 = both _ _ p2.1 in
    let p4 = both _ _ p3.1 in
    let p5 = both _ _ p4.1 in
    tree_fields x y (same_number _ _ p1.0) (same_number _ _ p2.0) (same_number _ _ p3.0) (same_phase _ _ p4.0) (same_bool _ _ p5.0) (same_list _ _ p5.1)
