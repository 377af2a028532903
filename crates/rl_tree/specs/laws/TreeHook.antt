-- The hook above the root, for a lock that goes on there later: a head of the root stands at it, and so does one that gives up what is
-- above; and the entry goes on from there.
use Rattle.std.specs.Prelude.{◌≡◌, ℕ, suc, true, false, ◌++◌, if◌then◌else◌, slice_set, Option, Some, None, refl, is_some}
use Rattle.std.proofs.Common.{sym, ◌∙◌, ap, subst, inl, ⊎_elim, arith}
use Rattle.rl_word.specs.laws.Places.{same_or_not}
use Rattle.rl_step.specs.Queues.{count}
use Rattle.rl_step.specs.LockQueues.{is_at}
use Rattle.rl_queue.specs.declared.view.Phase.{Phase}
use Rattle.rl_queue.specs.declared.view.Phase.TheVariants.{Settle, Above}
use Rattle.rl_queue.specs.Queue.{resume_at}
use Rattle.rl_tree.specs.Tree.{behind_at, at_level, settles_below}
use Rattle.rl_tree.specs.declared.rooted.Rooted.{Rooted}
use Rattle.rl_tree.specs.Elements.{is_node, names_in, tree_of}
use Rattle.rl_tree.specs.TreeGood.{Down, Rest, way_of, below_by, gate_of, Matches, IsGrantedAt, IsGoodBy}
use Rattle.rl_tree.specs.laws.TreePaths.{put, put_here, put_away, el, me, el_top, el_apart}
use Rattle.rl_tree.specs.laws.RanksInTree.{StandsInTree, queue_of, member_of, shape_of, level_low, queue_there, phase_of}
use Rattle.rl_tree.specs.laws.TreeClimb.{settled, MustSettle, else_zero}
use Rattle.rl_tree.specs.laws.TreePuts.{resume_way, resume_unhooked, resume_matches, spent_resume, match_put, spent_put, head_put, tenured_put, resume_put}
use Rattle.rl_tree.specs.laws.TreeParts.{all_others, others_put, first_of, assembles}
use Rattle.rl_tree.specs.laws.TreeKeeps.{climbs}

module _ {K : Rooted} {levels : ℕ} (s : StandsInTree K levels) (no_query : s.on.view.query ≡ false) (at_top : s.on.view.level ≡ levels) where
  open s use {on.{view as v}, good as g}

  abbrev Q : ℕ
  Q = queue_of s

  pub must_settle : v.phase ≡ Settle → MustSettle s.on g.phase (suc levels)
  must_settle must i b =
      ⊎_elim
      (λ e. subst (λ z. g.phase (el s.on z) (me s.on z) ≡ Settle) (at_top ∙ sym e) (phase_of s no_query ∙ must))
      (λ ne. g.by.below v.rank v i s.has (omega arith)
      ∙ ap (λ z. below_by z (behind_at v.behind i)) (ap (λ z. way_of z v.phase) no_query ∙ ap (way_of false) must)) (same_or_not i levels)

  -- THE ENTRY GOES ON from the hook: a rank that must settle in each queue on its path does so, from the root down.
  pub hook_enters : (must : v.phase ≡ Settle) (q : Phase) → settled s.on g.phase (suc levels) (el s.on 0) (me s.on 0) ≡ q → IsGrantedAt q →
      IsGoodBy K levels (settled s.on g.phase (suc levels)) g.line g.ended s.words (slice_set s.views v.rank (at_level v 0 q))
      (s.trace ++ settles_below (tree_of K) v (suc levels))
  hook_enters must q now inside =
      climbs s.on s.words g.phase g.line g.ended s.trace s.views (suc levels) q (shape_of s).three (all_others s) g.by.queue (omega arith)
      (must_settle must) (λ bad. absurd (omega arith)) (λ x p tx ux off. g.by.gates x p tx ux) g.by.spent
      (λ x tx. let k = g.by.tenured x tx in
      let z : (if is_node K x then 0 else count (is_at ((tree_of K).parent (el s.on levels)) x)) ≡ 0 =
      else_zero (is_node K x) _ (ap (λ y. count (is_at y x)) (el_top s.on)) in omega arith) now inside

  -- THE LEAVE GOES ON from the hook: what is above the root was given up, and the rank hands the root over, or empties it.
  pub hook_leaves : (o : Option ℕ) → v.phase ≡ Above o →
      IsGoodBy K levels (put g.phase Q (member_of s) (resume_at (Above o))) g.line g.ended s.words
      (slice_set s.views v.rank (at_level v v.level (resume_at (Above o)))) s.trace
  hook_leaves o gave =
      let p : Phase = resume_at (Above o) in
      let low = level_low s in
      let was = phase_of s no_query ∙ gave in
      let resumed = resume_put K s.words g.phase g.line g.ended s.trace Q (member_of s) o g.by.queue (queue_there s) was in
      assembles s.on s.words (put g.phase Q (member_of s) p) g.line g.ended s.trace s.views (at_level v v.level p) refl refl
      (record {
        within = low;
        resting = λ e. let bad : Down ≡ Rest = sym (resume_way o) ∙ e in cc;
        above = λ e. cc;
        three = (shape_of s).three;
        hooked = λ e. let bad : true ≡ false = sym e ∙ resume_unhooked o in cc;
      })
      (others_put s.on s.words g.phase g.line g.ended s.trace s.views v.level p low g.by.queue (all_others s) (first_of s)) resumed.0
      (λ k b. put_away g.phase Q (member_of s) p (el s.on k) (me s.on k) (inl (el_apart s.on k v.level (omega arith) low (omega arith)))
      ∙ g.by.below v.rank v k s.has b ∙ ap (λ z. below_by z (behind_at v.behind k))
      (ap (λ z. way_of z v.phase) no_query ∙ ap (way_of false) gave ∙ sym (resume_way o)))
      (put_here g.phase Q (member_of s) p)
      (λ x y tx ux.
      ⊎_elim
      (λ e. let bad : Some y ≡ None = sym ux ∙ ap (tree_of K).parent e ∙ ap (λ z. (tree_of K).parent (el s.on z)) at_top ∙ el_top s.on in cc)
      (λ ne.
      subst (λ z. Matches z (put g.phase Q (member_of s) p y x)) (sym (ap gate_of (head_put K s.words g.phase g.line Q (member_of s) p x ne)))
      (match_put g.phase Q (member_of s) p _ (λ h. resume_matches o _ (subst (Matches _) was h)) y x (g.by.gates x y tx ux)))
      (same_or_not x Q))
      (spent_put K g.phase Q (member_of s) p g.by.spent (spent_resume (is_some (names_in K Q).budget) o))
      (tenured_put K s.words g.phase g.line g.ended s.trace Q (member_of s) p g.by.tenured resumed.2)
