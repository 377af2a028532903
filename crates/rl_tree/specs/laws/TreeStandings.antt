-- What a rank's standing in a tree says of its view, and where no act is planned.
use Rattle.std.specs.Prelude.{◌≡◌, ◌⊎◌, ◌↔◌, ℕ, Bool, true, false, Option, None, refl}
use Rattle.std.proofs.Common.{sym, subst, inl, inr}
use Rattle.rl_word.specs.declared.classes.Mode.{Mode}
use Rattle.rl_step.specs.declared.events.Standing.{Standing}
use Rattle.rl_step.specs.declared.events.Standing.TheVariants.{Out, Writer, Reader, Leaving}
use Rattle.rl_step.specs.Lock.{IsHolder, Rests, Suits}
use Rattle.rl_queue.specs.declared.view.Phase.{Phase}
use Rattle.rl_queue.specs.declared.view.Phase.TheVariants.{Idle, Settle, Granted, Above}
use Rattle.rl_queue.specs.Queue.{leave_at}
use Rattle.rl_queue.specs.Lane.{IsFirst}
use Rattle.rl_queue.specs.Standings.{standing_of}
use Rattle.rl_queue.specs.laws.StandingLaws.{no_reader, out_idle, suits_at}
use Rattle.rl_tree.specs.declared.view.TreeView.{TreeView}
use Rattle.rl_tree.specs.Tree.{TheTree, hook_by, works_for, names_at}
use Rattle.rl_tree.specs.laws.Cases.{standing_by}
use Rattle.rl_tree.specs.laws.Cases.{plan_by}
use Rattle.rl_tree.specs.TreeGood.{Open, gate_at, is_open, IsGrantedAt, IsAbove}
use Rattle.rl_tree.specs.laws.TreeLawful.{rests_by}

-- who holds the lock has its queue, and leaves it so
pub phase_holds : (p : Phase) → IsHolder (standing_of p) → IsGrantedAt p
phase_holds (Granted left) h = tt
phase_holds _ h = h

pub phase_leaves : (p : Phase) → IsGrantedAt p → standing_of (leave_at p true) ≡ Leaving
phase_leaves (Granted left) h = refl
phase_leaves _ h = absurd h

-- who has its queue is first in it, and its gate is open
pub granted_first : (p : Phase) (s : ℕ) → IsGrantedAt p → IsFirst p s
granted_first (Granted left) s h = tt
granted_first _ s h = absurd h

pub granted_gate : (p : Phase) (s : ℕ) → IsGrantedAt p → gate_at p s ≡ Open
granted_gate (Granted left) s h = refl
granted_gate _ s h = absurd h

pub above_is : (p : Phase) → IsAbove p → (s : Option ℕ) × (p ≡ Above s)
above_is (Above succ) h = (succ, refl)
above_is _ h = absurd h

-- who stands at the hook must settle or gives up what is above; it is first, and its gate is not open
pub hook_phase : (p : Phase) → hook_by false p ≡ true → (p ≡ Settle) ⊎ IsAbove p
hook_phase Settle h = inl refl
hook_phase (Above succ) h = inr tt
hook_phase _ h = cc

pub hook_cases : (q : Bool) (p : Phase) → hook_by q p ≡ true → (q ≡ false) × ((p ≡ Settle) ⊎ IsAbove p)
hook_cases true p h = cc
hook_cases false p h = (refl, hook_phase p h)

pub hook_first : (p : Phase) (s : ℕ) → hook_by false p ≡ true → IsFirst p s × (is_open (gate_at p s) ≡ false)
hook_first Settle s h = (tt, refl)
hook_first (Above succ) s h = (tt, refl)
hook_first _ s h = cc

pub out_is : (q : Bool) (p : Phase) → standing_by q p ≡ Out → (q ≡ false) × (p ≡ Idle)
out_is true p e = cc
out_is false p e = (refl, out_idle p e)

pub holds_is : (q : Bool) (p : Phase) → IsHolder (standing_by q p) → (q ≡ false) × IsGrantedAt p
holds_is true p h = absurd h
holds_is false p h = (refl, phase_holds p h)

pub writer_holds : (s : Standing) → s ≡ Writer → IsHolder s
writer_holds s e = subst IsHolder (sym e) tt

pub not_reader : (q : Bool) (p : Phase) → standing_by q p ≡ Reader → ⊥
not_reader true p e = cc
not_reader false p e = no_reader p e

pub suits_by : (m : Mode) (q : Bool) (p : Phase) → Suits false m (standing_by q p)
suits_by m true p = tt
suits_by m false p = suits_at m p

-- away from the hook no act is planned exactly where a rank is out or inside
pub rests_at : (T : TheTree) (v : TreeView) (q : Bool) → hook_by q v.phase ≡ false → (plan_by T v q ≡ None) ↔ Rests (standing_by q v.phase)
rests_at T v true h = (λ e. cc, λ t. absurd t)
rests_at T v false h = rests_by (names_at T v v.level) (works_for T v v.level) v.phase h
