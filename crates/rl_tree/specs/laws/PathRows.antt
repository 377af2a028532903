-- What the rows of paths tell that the code keeps, and which of the elements is the root.
use Rattle.std.specs.Prelude.{◌≡◌, ℕ, zero, suc, ◌<◌, ◌==◌, false, slice_index_or, refl}
use Rattle.std.proofs.Common.{sym, ◌∙◌, ap, arith}
use Rattle.std.proofs.lemmas.Bool.Decides.{nat_tests}
use Rattle.rl_tree.specs.Tree.{path, is_none}
use Rattle.rl_tree.specs.declared.rooted.Rooted.{Rooted}
use Rattle.rl_tree.specs.Elements.{how_many, path_row, tree_of}
use Rattle.rl_tree.specs.TreeShape.{IsParented, IsTreeLaid}

-- a row tells its path
pub row_at : (K : Rooted) (e j d : ℕ) → j < 4 → slice_index_or (path_row K e) j d ≡ path (tree_of K) e j
row_at K e zero d lt = refl
row_at K e (suc zero) d lt = refl
row_at K e (suc (suc zero)) d lt = refl
row_at K e (suc (suc (suc zero))) d lt = refl
row_at K e (suc (suc (suc (suc j)))) d lt = absurd (omega arith)

-- of the elements that are there 0 alone has no parent
pub root_alone : (K : Rooted) (levels : ℕ) → IsTreeLaid K levels → IsParented K → (e : ℕ) → e < how_many K → (e == 0) ≡ is_none ((tree_of K).parent e)
root_alone K levels laid parented zero there = sym (ap is_none laid.root_free)
root_alone K levels laid parented (suc e) there = let other : suc e == 0 ≡ false = grind (arith, nat_tests) in other ∙ sym (parented (suc e) (omega arith) there)
