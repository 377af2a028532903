-- What the code of RMA-MCS needs of a good state: that views meet the conditions of the tree's calls, and that little is told.
use Rattle.std.proofs.Common.{◌≡◌, ◌≤◌, sym, ap, subst, ⊎_elim, arith, ℕ, true, List, length, None}
use Rattle.rl_step.specs.declared.events.Event.{Event}
use Rattle.rl_step.specs.Lock.{Told, Acts, MayStep, MayLearn as StepLearns}
use Rattle.rl_tree.specs.declared.rooted.Rooted.{Rooted}
use Rattle.rl_tree.specs.declared.view.TreeView.{TreeView}
use Rattle.rl_tree.specs.Tree.{TheTree, tree_learn, at_hook}
use Rattle.rl_tree.specs.Elements.{tree_of}
use Rattle.rl_tree.specs.Fits.{IsPlaced, MayPlan, TreeMayLearn}
use Rattle.rl_tree.specs.TreeShape.{IsWellShaped}
use Rattle.rl_tree.specs.TreeFacts.{JoinsAtMost, TreeFacts}
use Rattle.rl_tree.specs.laws.TreeLaws.{tree_facts}
use Rattle.rl_mcs.specs.Mcs.{past_hook, mcs_learn, mcs_table, McsGood}
use Rattle.rl_mcs.specs.laws.McsLearns.{after}
use Rattle.rl_mcs.specs.laws.McsLaws.{view_of, planned, turn_of}

few_joins : (es : List Event) → JoinsAtMost es → length es ≤ 3
few_joins es h = ⊎_elim (λ e. let k : length es ≡ 0 = ap length e in omega arith) (λ e. let k : length es ≡ 1 = ap length e.2 in omega arith) h

-- what is told past the hook, with the entry, where the turn before it was this
abbrev pub past : TheTree → Told TreeView → Told TreeView
past T u = past_hook T (at_hook u.view) u

module _ (K : Rooted) (levels : ℕ) (S : IsWellShaped K levels) (unlimited : K.root ≡ None) where
  F : TreeFacts K levels
  F = tree_facts K levels S

  pub plans : (v : TreeView) → MayStep (McsGood K levels) v → MayPlan K v
  plans v h = F.may_plan h.is_good.inside h.state.words h.state.views h.state.trace h.rank v (view_of K levels S F unlimited h.state h.rank v h.is_good h.has)

  module _ (v : TreeView) (got : ℕ) (h : StepLearns (mcs_table K) (McsGood K levels) v got) where
    abbrev step : Acts (mcs_table K) (McsGood K levels) h.state h.rank v h.act
    step = record { is_good = h.is_good; has = h.has; planned = h.planned }

    pub plans_it : MayPlan K v
    plans_it = plans v (record { state = h.state; rank = h.rank; is_good = h.is_good; has = h.has })

    pub learns_it : TreeMayLearn K v got
    learns_it = subst (TreeMayLearn K v) (sym h.gives) (F.may_learn h.is_good.inside h.state.words h.state.views h.state.trace h.rank v h.act (planned K levels S F unlimited h.state h.rank v h.act step))

    pub placed_after : at_hook (tree_learn (tree_of K) v got).view ≡ true → IsPlaced K (tree_learn (tree_of K) v got).view
    placed_after on =
        subst (λ z. IsPlaced K (tree_learn (tree_of K) v z).view) (sym h.gives)
        (F.placed _ _ _ _ h.rank _ (after K levels S F unlimited h.is_good.inside h.state.words h.state.views h.state.trace h.rank v h.act (planned K levels S F unlimited h.state h.rank v h.act step)))

    pub few_after : at_hook (tree_learn (tree_of K) v got).view ≡ true → length (tree_learn (tree_of K) v got).events ≤ 3
    few_after on = few_joins (tree_learn (tree_of K) v got).events (F.joins v got on)

    pub few_told : length (mcs_learn K v got).events ≤ 8
    few_told = subst (λ z. length (mcs_learn K v z).events ≤ 8) (sym h.gives) (turn_of K levels S F unlimited h.state h.rank v h.act step).fits.few
