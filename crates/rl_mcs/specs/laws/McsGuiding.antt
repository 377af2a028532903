-- RMA-MCS says who goes on.
use Rattle.std.specs.Prelude.{◌≡◌, ℕ, ◌<◌, Bool, true, false, List, Option, Some, None, refl}
use Rattle.std.proofs.Common.{sym, ◌∙◌, ap, subst, ⊎_elim, arith}
use Rattle.rl_step.specs.Lock.{LockState, AllOut}
use Rattle.rl_queue.specs.declared.view.Phase.{Phase}
use Rattle.rl_queue.specs.Queue.{plan_at}
use Rattle.rl_queue.specs.Urgency.{loaded, urgent_at}
use Rattle.rl_queue.specs.laws.UrgencyLaws.{few_at, urgent_busy, urgent_free, free_urgent}
use Rattle.rl_tree.specs.declared.view.TreeView.{TreeView}
use Rattle.rl_tree.specs.declared.rooted.Rooted.{Rooted}
use Rattle.rl_tree.specs.Tree.{hook_by, path, works_for, tree_plan, tree_standing}
use Rattle.rl_tree.specs.laws.Cases.{plan_by}
use Rattle.rl_tree.specs.Elements.{names_in, tree_of}
use Rattle.rl_tree.specs.TreeShape.{IsWellShaped}
use Rattle.rl_tree.specs.laws.RankGoes.{GoesIn, RankGoes}
use Rattle.rl_tree.specs.laws.TreeGoes.{tree_goes}
use Rattle.rl_mcs.specs.Mcs.{mcs_table, McsGood}
use Rattle.rl_mcs.specs.McsLeft.{mcs_left}
use Rattle.rl_mcs.specs.McsUrgency.{urgent_by, mcs_urgent}
use Rattle.rl_mcs.specs.laws.McsEnding.{placed, phase_goes, query_goes, level_view}
use Rattle.rl_ending.specs.Ending.{CanGoOn}
use Rattle.rl_ending.specs.laws.EndingLaws.{all_out_or_not}
use Rattle.rl_ending.specs.Guiding.{IsChosen, LockGuides, NoneUrgent}

few_by : (b : Bool) (p : Phase) (w k : ℕ) → urgent_by b p w ≡ Some k → k < 8
few_by true p w k e = let z : 0 ≡ k = cc in omega arith
few_by false p w k e = few_at p w k e

module _ (K : Rooted) (n : ℕ) (S : IsWellShaped K n) where
  -- how urgent a rank is that works at its queue, or loads a status there
  abbrev urgent_there : List ℕ → TreeView → Bool → Option ℕ
  urgent_there ws v b = urgent_by b v.phase (loaded ws (plan_by (tree_of K) v b))

  -- the rank that is chosen goes on, as all do that are urgent
  chosen_goes : (s : LockState TreeView) (r : ℕ) → McsGood K n s → IsChosen (mcs_urgent K s.words) s.views r → CanGoOn (mcs_table K) (mcs_left K n) s r
  chosen_goes s r g c = by c.view.query refl where
    by : (b : Bool) → c.view.query ≡ b → CanGoOn (mcs_table K) (mcs_left K n) s r
    by true e = query_goes K n S s r c.view c.has e
    by false e =
        let v = c.view in
        let q : ℕ = path (tree_of K) v.leaf v.level in
        let m : ℕ = works_for (tree_of K) v v.level in
        let urgent : urgent_at v.phase (loaded s.words (plan_at (names_in K (path (tree_of K) v.leaf v.level))
        (works_for (tree_of K) v v.level) v.phase)) ≡ Some c.urgency =
        subst (λ b. urgent_there s.words v b ≡ Some c.urgency) e c.is_urgent in
        phase_goes K n S s r v v.phase (placed K n S s r v g c.has) (c.has ∙ ap Some (level_view K n S v e))
        (urgent_busy (names_in K q) s.words m v.phase c.urgency urgent)
        (urgent_free (names_in K q) s.words m v.phase c.urgency urgent) (sym (ap (λ b. hook_by b v.phase) e) ∙ g.unhooked r v c.has)

  pub mcs_guides : LockGuides (mcs_table K) (mcs_left K n) (McsGood K n) (mcs_urgent K)
  mcs_guides =
      record {
        few = λ words v k e. few_by v.query v.phase (loaded words (tree_plan (tree_of K) v)) k e;
        goes = λ s r g c. chosen_goes s r g c;
        rest = λ s g none. all_rest s g none;
      } where
        -- a rank that goes on in the tree is urgent
        not_urgent : (s : LockState TreeView) (r : ℕ) → RankGoes K s.words s.views r → NoneUrgent (mcs_urgent K s.words) s.views → ⊥
        not_urgent s r go none = by go.view.query refl where
          by : (b : Bool) → go.view.query ≡ b → ⊥
          by true e = let no : urgent_there s.words go.view true ≡ None = subst (λ b. urgent_there s.words go.view b ≡ None) e (none r go.view go.has) in cc
          by false e =
              let v = go.view in
              let q : ℕ = path (tree_of K) v.leaf v.level in
              let m : ℕ = works_for (tree_of K) v v.level in
              let at : GoesIn K s.words false (path (tree_of K) v.leaf v.level) (works_for (tree_of K) v v.level) v.phase =
              subst (λ b. GoesIn K s.words b (path (tree_of K) v.leaf v.level) (works_for (tree_of K) v v.level) v.phase) e go.goes in
              free_urgent (names_in K q) s.words m v.phase at.0 at.1 (subst (λ b. urgent_there s.words v b ≡ None) e (none r v go.has))

        all_rest : (s : LockState TreeView) → McsGood K n s → NoneUrgent (mcs_urgent K s.words) s.views → AllOut (mcs_table K) s
        all_rest s g none =
            ⊎_elim (λ out. out)
            (λ b. let k = tree_goes K n S s.words s.views s.trace g.tree.tree g.all_views b.0 b.1.view b.1.has b.1.busy in absurd (not_urgent s k.0 k.1 none))
            (all_out_or_not tree_standing s.views)
