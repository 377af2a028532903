-- An act in the tree brings its rank nearer, whatever walk over the levels follows it, and whether it comes to the hook.
use Rattle.std.specs.Prelude.{◌≡◌, ℕ, zero, suc, ◌+◌, ◌*◌, ◌-◌, ◌<◌, ◌≤◌, Bool, true, false, List, [], Option, Some, None, refl}
use Rattle.std.proofs.Common.{sym, subst, arith}
use Rattle.rl_step.specs.declared.events.Event.{Event}
use Rattle.rl_step.specs.Lock.{Told}
use Rattle.rl_queue.specs.declared.view.Phase.{Phase}
use Rattle.rl_queue.specs.declared.view.Phase.TheVariants.{Idle, Clear, Reset, Swing, Link, Wait, Settle, Granted, Look, Close, Await, Hand, Above}
use Rattle.rl_queue.specs.Queue.{full_budget, resume_at}
use Rattle.rl_queue.specs.laws.Stuck.{Falls}
use Rattle.rl_tree.specs.declared.view.TreeView.{TreeView}
use Rattle.rl_tree.specs.Tree.{TheTree, is_none, path, inside_from, goes_up, gives_up, goes_down, behind_at, hook_by, at_hook, resume_by, tree_walk}
use Rattle.rl_rw.specs.declared.view.RwView.{RwView}
use Rattle.rl_rw.specs.Rw.{Shared, groups, hooks, from_tree}
use Rattle.rl_rw.specs.RwLeft.{far_by, far_in, far_at, rw_far}

module _ (n m : ℕ) where
  -- how far a rank is at most that has come to a phase at a level, once it has walked on
  abbrev pub cap : ℕ → Phase → ℕ
  cap w Settle = 2 * m + (7 * (n - w) + 1)
  cap w (Granted left) = 0
  cap w (Above s) = 2 * m + (4 * n + 2 * (n - w) + 4)
  cap w Idle = 4 * w
  cap w p = far_by n (2 * m) false w p

  inside_zero : (T : TheTree) (v : TreeView) (w left : ℕ) → far_by n (2 * m) false 0 (inside_from T v w left) ≤ 0
  inside_zero T v zero left = omega arith
  inside_zero T v (suc j) left = omega arith

  up_cap : (w : ℕ) (b : Bool) (v : TreeView) (es : List Event) → (b ≡ false → w < n) → far_in n m (goes_up b v w es).view ≤ 2 * m + (7 * (n - w) + 1)
  up_cap w true v es low = omega arith
  up_cap w false v es low = let lt = low refl in omega arith

  away_cap : (w : ℕ) (b : Bool) (v : TreeView) (s : Option ℕ) (es : List Event) → w ≤ n → (b ≡ false → w < n) →
      far_in n m (gives_up b v w s es).view ≤ 2 * m + (4 * n + 2 * (n - w) + 4)
  away_cap w true v s es le low = omega arith
  away_cap w false v s es le low = let lt = low refl in omega arith

  pub resumed : (j : ℕ) (s : Option ℕ) → far_by n (2 * m) false j (resume_at (Above s)) ≤ 4 * j + 3
  resumed j None = omega arith
  resumed j (Some k) = omega arith

  down_cap : (w : ℕ) (v : TreeView) (es : List Event) → far_in n m (goes_down v w es).view ≤ 4 * w
  down_cap zero v es = omega arith
  down_cap (suc j) v es = let k = resumed j (behind_at v.behind j) in omega arith

  pub walk_cap : (T : TheTree) (v : TreeView) (w : ℕ) (p : Phase) (es : List Event) (b : Bool) → w ≤ n →
      (is_none (T.parent (path T v.leaf w)) ≡ false → w < n) → far_in n m (tree_walk T v w p es b).view ≤ cap w p
  walk_cap T v w Settle es b le low = up_cap w (is_none (T.parent (path T v.leaf w))) v es low
  walk_cap T v w (Granted left) es b le low = inside_zero T v w left
  walk_cap T v w (Above s) es b le low = away_cap w (is_none (T.parent (path T v.leaf w))) v s es le low
  walk_cap T v w Idle es b le low = down_cap w v es
  walk_cap T v w Clear es b le low = omega arith
  walk_cap T v w Reset es b le low = omega arith
  walk_cap T v w (Swing g) es b le low = omega arith
  walk_cap T v w (Link g) es b le low = omega arith
  walk_cap T v w Wait es b le low = omega arith
  walk_cap T v w (Look left u) es b le low = omega arith
  walk_cap T v w (Close left) es b le low = omega arith
  walk_cap T v w (Await left) es b le low = omega arith
  walk_cap T v w (Hand s left) es b le low = omega arith

  -- each act that gets its member on makes it less far, once it has walked on
  pub far_falls : (w : ℕ) → w ≤ n → Falls (far_by n (2 * m) false w) (cap w)
  far_falls w within = grind arith

  -- what is to do at the hook is no more than what was
  begun_cap : (w : ℕ) (t : TreeView) (p : Phase) → hook_by false p ≡ true → far_at n m (hooks p) t ≤ far_by n (2 * m) false w p
  begun_cap w t Settle h = omega arith
  begun_cap w t (Above s) h = omega arith
  begun_cap w t Idle h = cc
  begun_cap w t Clear h = cc
  begun_cap w t Reset h = cc
  begun_cap w t (Swing g) h = cc
  begun_cap w t (Link g) h = cc
  begun_cap w t Wait h = cc
  begun_cap w t (Granted left) h = cc
  begun_cap w t (Look left u) h = cc
  begun_cap w t (Close left) h = cc
  begun_cap w t (Await left) h = cc
  begun_cap w t (Hand k left) h = cc

  not_asking : (q : Bool) (p : Phase) → hook_by q p ≡ true → (q ≡ false) × (hook_by false p ≡ true)
  not_asking true p h = cc
  not_asking false p h = (refl, h)

  hooked_cap : (q : Bool) (w : ℕ) (t : TreeView) (p : Phase) → hook_by q p ≡ true → far_at n m (hooks p) t ≤ far_by n (2 * m) q w p
  hooked_cap q w t p h =
      let k = not_asking q p h in
      subst (λ z. far_at n m (hooks p) t ≤ far_by n (2 * m) z w p) (sym k.0) (begun_cap w t p k.1)

  -- from the hook a rank that settles comes in, and one that leaves goes down
  pub settles_cap : (T : TheTree) (v : TreeView) (p : Phase) → p ≡ Settle → far_in n m (resume_by T v p []).view ≤ 0
  settles_cap T v p e = subst (λ z. far_in n m (resume_by T v z []).view ≤ 0) (sym e)
      (inside_zero T v v.level (full_budget (T.names (path T v.leaf v.level)).budget))

  pub leaves_cap : (T : TheTree) (v : TreeView) (p : Phase) (s : Option ℕ) → v.level ≤ n → p ≡ Above s → far_in n m (resume_by T v p []).view ≤ 4 * n + 3
  leaves_cap T v p s le e = subst (λ z. far_in n m (resume_by T v z []).view ≤ 4 * n + 3) (sym e) (let k = resumed v.level s in omega arith)

-- so it is where the walk ends at the hook, or away from it
pub hook_cap : (K : Shared) (n : ℕ) (v : RwView) (u : Told TreeView) (b : Bool) → at_hook u.view ≡ b →
    rw_far K n (from_tree v b u).view ≤ far_in n (groups K) u.view
hook_cap K n v u false e = omega arith
hook_cap K n v u true e = hooked_cap n (groups K) u.view.query u.view.level u.view u.view.phase e
