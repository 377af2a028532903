-- An act in the tree brings its rank nearer, whatever walk over the levels follows it.
use Rattle.std.specs.Prelude.{◌≡◌, ℕ, zero, suc, ◌+◌, ◌*◌, ◌-◌, ◌<◌, ◌≤◌, ◌==◌, Bool, true, false, List, Option, Some, None, refl}
use Rattle.std.proofs.Common.{sym, subst, arith}
use Rattle.rl_step.specs.declared.events.Event.{Event}
use Rattle.rl_step.specs.Lock.{Told}
use Rattle.rl_queue.specs.declared.view.Phase.{Phase}
use Rattle.rl_queue.specs.declared.view.Phase.TheVariants.{Idle, Clear, Reset, Swing, Link, Wait, Settle, Granted, Look, Close, Await, Hand, Above}
use Rattle.rl_queue.specs.laws.Choices.{choose}
use Rattle.rl_queue.specs.Queue.{full_budget, resume_at}
use Rattle.rl_queue.specs.laws.Stuck.{Falls}
use Rattle.rl_tree.specs.declared.view.TreeView.{TreeView}
use Rattle.rl_tree.specs.Tree.{TheTree, is_none, path, inside_from, goes_up, gives_up, goes_down, behind_at, hook_by, at_hook, resume_by, tree_walk}
use Rattle.rl_mcs.specs.Mcs.{past_hook}
use Rattle.rl_mcs.specs.McsLeft.{far_by, far_of, near_by}

-- how far a rank is at most that has come to a phase at a level, once it has walked on
abbrev pub cap : ℕ → ℕ → Phase → ℕ
cap n w Settle = 7 * (n - w) + 1
cap n w (Granted left) = 0
cap n w (Above s) = 4 * n + 2 * (n - w) + 4
cap n w Idle = 4 * w
cap n w p = far_by n false w p

inside_zero : (n : ℕ) (T : TheTree) (v : TreeView) (w left : ℕ) → far_by n false 0 (inside_from T v w left) ≤ 0
inside_zero n T v zero left = omega arith
inside_zero n T v (suc j) left = omega arith

up_cap : (n w : ℕ) (b : Bool) (v : TreeView) (es : List Event) → (b ≡ false → w < n) → far_of n (goes_up b v w es).view ≤ 7 * (n - w) + 1
up_cap n w true v es low = omega arith
up_cap n w false v es low = let lt = low refl in omega arith

away_cap : (n w : ℕ) (b : Bool) (v : TreeView) (s : Option ℕ) (es : List Event) → w ≤ n → (b ≡ false → w < n) →
    far_of n (gives_up b v w s es).view ≤ 4 * n + 2 * (n - w) + 4
away_cap n w true v s es le low = omega arith
away_cap n w false v s es le low = let lt = low refl in omega arith

resumed : (n j : ℕ) (s : Option ℕ) → far_by n false j (resume_at (Above s)) ≤ 4 * j + 3
resumed n j None = omega arith
resumed n j (Some k) = omega arith

down_cap : (n w : ℕ) (v : TreeView) (es : List Event) → far_of n (goes_down v w es).view ≤ 4 * w
down_cap n zero v es = omega arith
down_cap n (suc j) v es = let k = resumed n j (behind_at v.behind j) in omega arith

pub walk_cap : (n : ℕ) (T : TheTree) (v : TreeView) (w : ℕ) (p : Phase) (es : List Event) (b : Bool) → w ≤ n →
    (is_none (T.parent (path T v.leaf w)) ≡ false → w < n) → far_of n (tree_walk T v w p es b).view ≤ cap n w p
walk_cap n T v w Settle es b le low = up_cap n w (is_none (T.parent (path T v.leaf w))) v es low
walk_cap n T v w (Granted left) es b le low = inside_zero n T v w left
walk_cap n T v w (Above s) es b le low = away_cap n w (is_none (T.parent (path T v.leaf w))) v s es le low
walk_cap n T v w Idle es b le low = down_cap n w v es
walk_cap n T v w Clear es b le low = omega arith
walk_cap n T v w Reset es b le low = omega arith
walk_cap n T v w (Swing g) es b le low = omega arith
walk_cap n T v w (Link g) es b le low = omega arith
walk_cap n T v w Wait es b le low = omega arith
walk_cap n T v w (Look left u) es b le low = omega arith
walk_cap n T v w (Close left) es b le low = omega arith
walk_cap n T v w (Await left) es b le low = omega arith
walk_cap n T v w (Hand s left) es b le low = omega arith

-- going on from the hook brings nobody farther
resume_cap : (n : ℕ) (T : TheTree) (v : TreeView) (p : Phase) (es : List Event) → hook_by false p ≡ true →
    far_of n (resume_by T v p es).view ≤ far_by n false v.level p
resume_cap n T v Settle es h = let k = inside_zero n T v v.level (full_budget (T.names (path T v.leaf v.level)).budget) in omega arith
resume_cap n T v (Above s) es h = let k = resumed n v.level s in omega arith
resume_cap n T v Idle es h = cc
resume_cap n T v Clear es h = cc
resume_cap n T v Reset es h = cc
resume_cap n T v (Swing g) es h = cc
resume_cap n T v (Link g) es h = cc
resume_cap n T v Wait es h = cc
resume_cap n T v (Granted left) es h = cc
resume_cap n T v (Look left u) es h = cc
resume_cap n T v (Close left) es h = cc
resume_cap n T v (Await left) es h = cc
resume_cap n T v (Hand k left) es h = cc

not_asking : (q : Bool) (p : Phase) → hook_by q p ≡ true → (q ≡ false) × (hook_by false p ≡ true)
not_asking true p h = cc
not_asking false p h = (refl, h)

pub hook_cap : (n : ℕ) (T : TheTree) (u : Told TreeView) (b : Bool) → at_hook u.view ≡ b → far_of n (past_hook T b u).view ≤ far_of n u.view
hook_cap n T u false e = omega arith
hook_cap n T u true e =
    let k = not_asking u.view.query u.view.phase e in
    let r = resume_cap n T u.view u.view.phase u.events k.1 in
    subst (λ q. far_of n (resume_by T u.view u.view.phase u.events).view ≤ far_by n q u.view.level u.view.phase) (sym k.0) r

-- each act that gets its member on makes it less far, once it has walked on
pub far_falls : (n w : ℕ) → w ≤ n → Falls (far_by n false w) (cap n w)
far_falls n w within = grind arith

pub near_few : (q : Bool) (t : ℕ) (p : Phase) → near_by q t p ≤ 1
near_few true t p = omega arith
near_few false t (Swing g) = choose (λ k. k ≤ 1) (t == g) 0 1 (omega arith) (omega arith)
near_few false t Idle = omega arith
near_few false t Clear = omega arith
near_few false t _ = omega arith
