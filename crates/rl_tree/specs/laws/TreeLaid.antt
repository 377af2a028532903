-- A proper shape that holds the home, with a budget on every element but the root, is what a lock asks of its tree.
use Rattle.std.specs.Prelude.{◌≡◌, ℕ, zero, suc, ◌<◌, ◌≤◌, length, slice_get, slice_index, true, Option, Some, None, refl, is_some}
use Rattle.std.proofs.Common.{sym, ◌∙◌, ap, subst, arith}
use Rattle.std.proofs.lemmas.Option.{slice_get_within}
use Rattle.rl_word.specs.declared.shapes.Element.{Element}
use Rattle.rl_word.specs.Shapes.{IsProper}
use Rattle.rl_step.specs.LockQueues.{parent_of, budget_by}
use Rattle.rl_tree.specs.Tree.{path, is_none}
use Rattle.rl_tree.specs.declared.rooted.Rooted.{Rooted}
use Rattle.rl_tree.specs.Elements.{how_many, ranks_in, leaf_of_rank, names_in, tree_of}
use Rattle.rl_tree.specs.laws.TreeProper.{root_free, rising, seated, path_root, is_treed, depth_same, levels_are, reached, first_there}
use Rattle.rl_tree.specs.laws.TreeSize.{few_elements}
use Rattle.rl_tree.specs.TreeShape.{IsTreed, IsWellShaped, IsBudgeted, IsParented, levels_of, level_in, IsTreeLaid}

pub laid_shaped : (K : Rooted) (levels : ℕ) → IsTreeLaid K levels → IsWellShaped K levels
laid_shaped K levels d =
    record {
      treed = record {
        depth = level_in K levels;
        there = d.there;
        deep = d.deep;
        up = d.up;
        top = λ r lt. ap (λ z. parent_of (slice_get K.shape.elements z)) (d.top r lt) ∙ d.root_free;
        node = d.node;
        leaf = d.leaf;
        over = λ e p lt h. let a : p < e = d.rising e p lt h in (omega arith, d.over e p lt h);
      };
      high = d.high;
      low = d.low;
      some = d.some;
      one_root = d.top;
      root_free = d.root_free;
      budgeted = λ e p lt up. has_budget e p lt up;
      rising = d.rising;
      lonely = d.lonely;
      few = d.few;
      homed = d.homed;
      first_there = d.first_there;
      seated = d.seated;
      ranks = d.ranks;
      modest = d.modest;
    } where
      has_budget : (e p : ℕ) → e < how_many K → parent_of (slice_get K.shape.elements e) ≡ Some p → is_some (names_in K e).budget ≡ true
      has_budget zero p lt up = let bad : None ≡ Some p = sym d.root_free ∙ up in cc
      has_budget (suc e) p lt up = d.budgeted (suc e) (omega arith) lt

-- every element but the root has a parent
pub proper_parented : (K : Rooted) → IsProper K.shape → IsParented K
proper_parented K proper e some there = let k = proper.parented e some there in ap is_none (ap parent_of k.1.1 ∙ k.1.2)

-- A PROPER SHAPE that holds the home, with a budget on every element but the root, is laid so; the root's budget is modest, if it has one.
pub proper_laid : (K : Rooted) → IsProper K.shape → K.home < K.shape.nodes → IsBudgeted K.shape → ((b : ℕ) → K.root ≡ Some b → b ≤ 1000) →
    IsTreeLaid K (levels_of K.shape)
proper_laid K proper homed budgeted low = subst (IsTreeLaid K) (sym (levels_are K proper)) laid where
  T : IsTreed K proper.levels
  T = is_treed K proper

  same : (e : ℕ) → T.depth e ≡ level_in K proper.levels e
  same e = depth_same K proper e

  reaches : (e : ℕ) → e < how_many K → (r : ℕ) × (j : ℕ) × (r < ranks_in K) × (j ≤ 3) × (e ≡ path (tree_of K) (leaf_of_rank K r) j)
  reaches e lt = let k = reached K proper e lt in let a : k.1 ≤ proper.levels = k.3 in let b : proper.levels ≤ 3 = proper.shallow in
      (k.0, k.1, k.2, omega arith, k.4)

  lone : (e : ℕ) → ranks_in K ≡ 1 → e < how_many K → e ≡ path (tree_of K) (leaf_of_rank K 0) (level_in K proper.levels e)
  lone e one lt =
      let k = reached K proper e lt in
      let a : k.0 < ranks_in K = k.2 in
      let z : k.0 ≡ 0 = omega arith in
      let level : k.1 ≡ level_in K proper.levels e = sym (T.deep k.0 k.1 k.2 k.3) ∙ ap T.depth (sym k.4) ∙ same e in
      k.4 ∙ ap (λ y. path (tree_of K) (leaf_of_rank K y) k.1) z ∙ ap (path (tree_of K) (leaf_of_rank K 0)) level

  modest : (q b : ℕ) → (names_in K q).budget ≡ Some b → b ≤ 1000
  modest zero b e = low b e
  modest (suc q) b e = at (slice_get K.shape.elements (suc q)) refl e where
    at : (o : Option Element) → slice_get K.shape.elements (suc q) ≡ o → budget_by o ≡ Some b → b ≤ 1000
    at None h f = cc
    at (Some x) h f = proper.budgets (suc q) b x h f

  laid : IsTreeLaid K proper.levels
  laid =
      record {
        there = T.there;
        deep = λ r j h le. sym (same (path (tree_of K) (leaf_of_rank K r) j)) ∙ T.deep r j h le;
        up = T.up;
        top = λ r lt. path_root K proper r lt;
        node = λ e lt h. sym (same e) ∙ T.node e lt h;
        leaf = T.leaf;
        over = λ e p lt h. sym (same p) ∙ (T.over e p lt h).1 ∙ ap suc (same e);
        rising = λ e p lt h. rising K proper e p lt h;
        root_free = root_free K proper;
        high = proper.deep;
        low = proper.shallow;
        budgeted = budgeted;
        lonely = lone;
        few = few_elements K reaches;
        some = slice_get_within K.shape.elements 0 proper.root.0 proper.root.1;
        ranks = proper.few;
        homed = homed;
        first_there = λ e lt. first_there K proper e lt;
        seated = λ r lt. seated K proper r lt;
        leafed = λ r lt. let a : slice_index K.shape.node_of r < K.shape.nodes = seated K proper r lt in
            let c : length K.shape.leaf_of ≡ K.shape.nodes = proper.each_node in omega arith;
        modest = modest;
      }

-- by the levels of the shape itself
pub well_shaped : (K : Rooted) → IsTreeLaid K (levels_of K.shape) → IsWellShaped K (levels_of K.shape)
well_shaped K laid = laid_shaped K (levels_of K.shape) laid
