-- What a rank learns in RMA-MCS: what it learns in the tree, and where it comes to the hook what goes on from there besides.
use Rattle.std.specs.Prelude.{◌≡◌, ℕ, zero, suc, ◌≤◌, Bool, true, false, List, [], ◌∷◌, ◌++◌, length, slice_get, slice_index, slice_set, Some, None, refl}
use Rattle.std.proofs.Common.{sym, ◌∙◌, ap, subst, ⊎_elim, length-set, append_assoc, arith}
use Rattle.std.proofs.lemmas.List.{append-nil}
use Rattle.rl_word.specs.Acts.{word_of, written, told}
use Rattle.rl_word.specs.declared.acts.Act.{Act}
use Rattle.rl_step.specs.declared.events.Event.{Event}
use Rattle.rl_step.specs.declared.events.Event.TheVariants as event
use Rattle.rl_step.specs.declared.events.Standing.{Standing}
use Rattle.rl_step.specs.declared.events.Standing.TheVariants.{Out, Asking, Writer, Reader, Leaving}
use Rattle.rl_step.specs.Lock.{Told, Shift, InOrder, AllNamed, holds_only}
use Rattle.rl_queue.specs.declared.view.Phase.{Phase}
use Rattle.rl_queue.specs.declared.view.Phase.TheVariants.{Settle}
use Rattle.rl_tree.specs.declared.rooted.Rooted.{Rooted}
use Rattle.rl_tree.specs.declared.view.TreeView.{TreeView}
use Rattle.rl_tree.specs.Tree.{TheTree, at_hook, resume_by, tree_standing, entry_if}
use Rattle.rl_tree.specs.laws.Cases.{standing_by}
use Rattle.rl_tree.specs.Elements.{how_many, ranks_in, of_tree, tree_of, queues_from}
use Rattle.rl_tree.specs.TreeGood.{GoodAt}
use Rattle.rl_tree.specs.TreeShape.{IsWellShaped}
use Rattle.rl_tree.specs.laws.TreeEvents.{Named, named_append, append_length}
use Rattle.rl_tree.specs.laws.TreeStandings.{hook_cases}
use Rattle.rl_tree.specs.TreeFacts.{HasView, PlansAct, JoinsAtMost, all_events, learnt_in, resumed_in, opens, TreeFacts}
use Rattle.rl_mcs.specs.Mcs.{past_hook}

-- a view that is set is there, and a second one takes its place
has_set : (vs : List TreeView) (r : ℕ) (v w : TreeView) → slice_get vs r ≡ Some v → slice_get (slice_set vs r w) r ≡ Some w
has_set [] r v w h = cc
has_set (x ∷ vs) zero v w h = refl
has_set (x ∷ vs) (suc r) v w h = has_set vs r v w h

set_again : (vs : List TreeView) (r : ℕ) (v w : TreeView) → slice_set (slice_set vs r v) r w ≡ slice_set vs r w
set_again [] r v w = refl
set_again (x ∷ vs) zero v w = refl
set_again (x ∷ vs) (suc r) v w = ap (λ z. x ∷ z) (set_again vs r v w)

-- what goes on from the hook stands behind what was told before
pub resume_after : (T : TheTree) (v : TreeView) (p : Phase) (es : List Event) →
    resume_by T v p es ≡ record { view = (resume_by T v p []).view; events = es ++ (resume_by T v p []).events; waits = false }
resume_after T v Settle es = ap (λ z. record { view = (resume_by T v Settle []).view; events = z; waits = false }) (append_assoc es _ _)
resume_after T v p es = ap (λ z. record { view = (resume_by T v p []).view; events = z; waits = false }) (sym (append-nil es))

-- the laws' part of what RMA-MCS tells in an act, before the entry
pub record TurnFits (K : Rooted) (r : ℕ) (v : TreeView) (u : Told TreeView) : Type 0 where
  pub shift : Shift r (tree_standing v) (tree_standing u.view) (holds_only (all_events u))
  pub order : InOrder (all_events u)
  pub few : length (all_events u) ≤ 8
  pub names : AllNamed (queues_from K 0 (how_many K)) (λ c. false) (all_events u)

still_asks : (r : ℕ) (s : Standing) (es : List Event) → Shift r s Asking es → s ≡ Asking
still_asks r Asking es h = refl
still_asks r Out es h = absurd h
still_asks r Writer es h = absurd h
still_asks r Reader es h = absurd h
still_asks r Leaving es h = absurd h

-- and so what is told of both fits
both : (K : Rooted) (r q m : ℕ) (s s' : Standing) (es : List Event) (e : Event) (fs : List Event) → JoinsAtMost es → Named K es →
    Shift r s s' (holds_only (e ∷ fs)) → InOrder (e ∷ fs) → length (e ∷ fs) ≤ 5 → Named K (e ∷ fs) → e ≡ event.Settle q m →
    Shift r s s' (holds_only (es ++ e ∷ fs)) × InOrder (es ++ e ∷ fs) × (length (es ++ e ∷ fs) ≤ 8) × Named K (es ++ e ∷ fs)
both K r q m s s' es e fs joins named shift order few names is = (
  ⊎_elim (λ z. subst (λ y. Shift r s s' (holds_only (y ++ e ∷ fs))) (sym z) shift)
      (λ z. subst (λ y. Shift r s s' (holds_only (y ++ e ∷ fs))) (sym z.2) shift) joins,
  ⊎_elim (λ z. subst (λ y. InOrder (y ++ e ∷ fs)) (sym z) order)
      (λ z. subst (λ y. InOrder (y ++ e ∷ fs)) (sym z.2) (subst (λ y. InOrder (event.Join z.0 z.1 ∷ y ∷ fs)) (sym is)
      (omega arith, subst (λ y. InOrder (y ∷ fs)) is order))) joins,
  (let n = append_length es (e ∷ fs) in let l : length es ≤ 1 = ⊎_elim (λ z. let k : length es ≡ 0 = ap length z in omega arith)
      (λ z. let k : length es ≡ 1 = ap length z.2 in omega arith) joins in omega arith),
  named_append K es (e ∷ fs) named names,
)

module _ (K : Rooted) (levels : ℕ) (S : IsWellShaped K levels) (F : TreeFacts K levels) (unlimited : K.root ≡ None) where
  -- What is learnt before the entry: the tree is good after it, its rank isn't at the hook, and it fits.
  pub record Turned (ws : List ℕ) (vs : List TreeView) (t : List Event) (r : ℕ) (v : TreeView) (a : Act) (u : Told TreeView) : Type 0 where
    pub inside : Bool
    pub is_good : GoodAt K levels inside (slice_set ws (word_of a) (written a (slice_index ws (word_of a)))) (slice_set vs r u.view) (t ++ u.events)
    pub unhooked : at_hook u.view ≡ false
    pub fits : TurnFits K r v u

  module _ (inside : Bool) (ws : List ℕ) (vs : List TreeView) (t : List Event) (r : ℕ) (v : TreeView) (a : Act)
      (x : PlansAct K levels inside ws vs t r v a) where
    abbrev us : List ℕ
    us = slice_set ws (word_of a) (written a (slice_index ws (word_of a)))

    abbrev turn : Told TreeView
    turn = learnt_in K ws v a

    abbrev now : Bool
    now = (F.acts inside ws vs t r v a x).0

    good_now : GoodAt K levels now us (slice_set vs r turn.view) (t ++ turn.events)
    good_now = (F.acts inside ws vs t r v a x).2

    -- the rank after the act
    pub after : HasView K levels now us (slice_set vs r turn.view) (t ++ turn.events) r turn.view
    after =
        let long : of_tree K ≤ length ws = x.viewed.long in
        let all : length vs ≡ ranks_in K = x.viewed.all in
        let same = length-set ws (word_of a) (written a (slice_index ws (word_of a))) in
        let kept = length-set vs r turn.view in
        record { long = omega arith; all = omega arith; is_good = good_now; has = has_set vs r v turn.view x.viewed.has }

    away : at_hook turn.view ≡ false → Turned ws vs t r v a turn
    away off =
        let k = F.learns inside ws vs t r v a x in
        let few : length (all_events turn) ≤ 5 = k.few in
        record { inside = now; is_good = good_now; unhooked = off; fits = record { shift = k.shift; order = k.order; few = omega arith; names = k.names } }

    -- one that comes to the hook comes in, in the same act
    module _ (on : at_hook turn.view ≡ true) where
      abbrev w : Told TreeView
      w = resumed_in K turn.view

      must : turn.view.phase ≡ Settle
      must = F.comes_in now us (slice_set vs r turn.view) (t ++ turn.events) r turn.view after unlimited on

      unasked : turn.view.query ≡ false
      unasked = (hook_cases turn.view.query turn.view.phase on).0

      asks : tree_standing turn.view ≡ Asking
      asks = ap (λ z. standing_by z turn.view.phase) unasked ∙ ap (standing_by false) must

      -- what the tree told before it comes to the hook
      told_first : all_events turn ≡ turn.events
      told_first = ap (λ z. turn.events ++ z) (ap (λ z. entry_if z turn.view.phase turn.view.rank) unasked ∙ ap
          (λ z. entry_if false z turn.view.rank) must) ∙ append-nil turn.events

      -- and what is told as it goes on: first that the root is settled
      told_then : all_events w ≡ all_events (resume_by (tree_of K) turn.view Settle [])
      told_then = ap (λ z. all_events (resume_by (tree_of K) turn.view z [])) must

      fits : TurnFits K r v (record { view = w.view; events = turn.events ++ w.events; waits = false })
      fits =
          let k = F.learns inside ws vs t r v a x in
          let n = F.goes_on now us (slice_set vs r turn.view) (t ++ turn.events) r turn.view after on in
          let asked : tree_standing v ≡ Asking = still_asks r (tree_standing v) (holds_only (all_events turn))
          (subst (λ z. Shift r (tree_standing v) z (holds_only (all_events turn))) asks k.shift) in
          let all : (turn.events ++ w.events) ++ entry_if w.view.query w.view.phase w.view.rank ≡ turn.events ++ all_events
          (resume_by (tree_of K) turn.view Settle []) =
          append_assoc turn.events w.events (entry_if w.view.query w.view.phase w.view.rank) ∙ ap (λ z. turn.events ++ z) told_then in
          let f = both K r _ _ (tree_standing v) (tree_standing w.view) turn.events _ _ (F.joins v (told a (slice_index ws (word_of a))) on)
          (subst (Named K) told_first k.names)
          (subst (λ z. Shift r z (tree_standing w.view) (holds_only (all_events (resume_by (tree_of K) turn.view Settle []))))
          (asks ∙ sym asked) (subst (λ z. Shift r (tree_standing turn.view) (tree_standing w.view) (holds_only z)) told_then n.shift))
          (subst InOrder told_then n.order) (subst (λ z. length z ≤ 5) told_then n.few) (subst (Named K) told_then n.names) refl in
          record {
            shift = subst (λ z. Shift r (tree_standing v) (tree_standing w.view) (holds_only z)) (sym all) f.0;
            order = subst InOrder (sym all) f.1;
            few = subst (λ z. length z ≤ 8) (sym all) f.2;
            names = subst (Named K) (sym all) f.3;
          }

      hooked : Turned ws vs t r v a (resume_by (tree_of K) turn.view turn.view.phase turn.events)
      hooked =
          subst (Turned ws vs t r v a) (sym (resume_after (tree_of K) turn.view turn.view.phase turn.events))
          (record {
            inside = opens turn.view.phase;
            is_good = subst (λ z. GoodAt K levels (opens turn.view.phase) us (slice_set vs r w.view) z) (append_assoc t turn.events w.events)
                (subst (λ z. GoodAt K levels (opens turn.view.phase) us z ((t ++ turn.events) ++ w.events))
                (set_again vs r turn.view w.view) (F.resumes now us (slice_set vs r turn.view) (t ++ turn.events) r turn.view after
                on));
            unhooked = F.unhooks turn.view on;
            fits = fits;
          })

    -- so each act
    pub turned : Turned ws vs t r v a (past_hook (tree_of K) (at_hook (learnt_in K ws v a).view) (learnt_in K ws v a))
    turned = by (at_hook turn.view) refl where
      by : (b : Bool) → at_hook turn.view ≡ b → Turned ws vs t r v a (past_hook (tree_of K) b turn)
      by true e = hooked e
      by false e = away e
