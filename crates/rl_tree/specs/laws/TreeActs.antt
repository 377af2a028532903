-- An act of a rank in the queue at its level: all queues stay good, no other head moves, and what the other ranks tell stays true.
use Rattle.std.specs.Prelude.{◌≡◌, ◌≢◌, ◌⊎◌, ℕ, zero, suc, ◌<◌, ◌==◌, true, false, List, ◌++◌, if◌then◌else◌, slice_index, slice_set, Option, Some, refl, is_some}
use Rattle.std.proofs.Common.{sym, ◌∙◌, ap, subst, inl, inr, ⊎_elim, arith}
use Rattle.rl_word.specs.laws.Places.{same_or_not}
use Rattle.rl_step.specs.Queues.{tenures}
use Rattle.rl_step.specs.laws.QueueLemmas.{tenures-append}
use Rattle.rl_queue.specs.laws.Choices.{same_test, other_test}
use Rattle.rl_queue.specs.declared.view.Phase.{Phase}
use Rattle.rl_queue.specs.Queue.{QueueTurn, status_word}
use Rattle.rl_queue.specs.Lane.{lane_of}
use Rattle.rl_queue.specs.QueueGood.{QueueGood}
use Rattle.rl_queue.specs.laws.QueueLaws.{still_keeps}
use Rattle.rl_queue.specs.laws.QueueMoves.{act_keeps}
use Rattle.rl_queue.specs.laws.QueueFrame.{other_queue_keeps}
use Rattle.rl_queue.specs.laws.QueueTurns.{turn_all, other_head_stays}
use Rattle.rl_queue.specs.Heads.{Head, head_in}
use Rattle.rl_queue.specs.laws.QueueHeads.{HeadStep, head_act}
use Rattle.rl_tree.specs.declared.view.TreeView.{TreeView}
use Rattle.rl_tree.specs.Tree.{hook_by, behind_at, at_level}
use Rattle.rl_tree.specs.declared.rooted.Rooted.{Rooted}
use Rattle.rl_tree.specs.Elements.{how_many, is_node, names_in, tree_of, queue_at}
use Rattle.rl_tree.specs.TreeGood.{Rest, way_at, way_of, below_by, Gate, gate_of, granted_in, Matches, Spent, InQueue, IsGoodBy}
use Rattle.rl_tree.specs.laws.TreePaths.{put_here, put_away, put_moves, head_by, AllGood, el, me, el_deep, el_apart}
use Rattle.rl_tree.specs.laws.RanksInTree.{ActsInTree, queue_of, member_of, head_before, shape_of, level_low, queue_there, words_after, turn_of, phases_after, phase_was, finds}
use Rattle.rl_tree.specs.laws.TreeClimb.{heads_same}
use Rattle.rl_tree.specs.laws.TreePuts.{Tenured, match_put, spent_put}
use Rattle.rl_tree.specs.laws.TreeParts.{OthersTell, TellsBelow, all_others, first_of, others_put, assembles}

module _ {K : Rooted} {levels : ℕ} (a : ActsInTree K levels) where
  open a use {stands as s, stands.{on.{view as v}, good as g}}

  abbrev Q : ℕ
  Q = queue_of s

  abbrev turn : QueueTurn
  turn = turn_of a

  abbrev W : List ℕ
  W = words_after a

  abbrev P : ℕ → ℕ → Phase
  P = phases_after a

  pub moved : (k : List ℕ) × QueueGood (names_in K Q) (InQueue K Q) W (P Q) k (s.trace ++ turn.events) (g.ended Q) ×
      (HeadStep (names_in K Q).budget (member_of s) v.phase turn.phase (slice_index s.words (status_word (names_in K Q) (member_of s))) (head_before s Q)
      (head_in (lane_of (names_in K Q) W (P Q)) k))
  moved =
      let mv = put_moves g.phase Q (member_of s) v.phase turn.phase (phase_was a) in
      let n = a.worded.naming Q (queue_there s) in
      let good = g.by.queue Q (queue_there s) in
      let k = act_keeps (names_in K Q) (InQueue K Q) s.words (g.phase Q) (P Q) (g.line Q) s.trace (g.ended Q) (member_of s) v.phase a.act n good a.planned mv in (
        k.0,
        k.1,
        head_act (names_in K Q) (InQueue K Q) s.words (g.phase Q) (P Q) (g.line Q) k.0 s.trace (g.ended Q) (member_of s) v.phase a.act n good
            (phase_was a) a.planned mv k.2,
      )

  -- the lines after it, and the head of each queue
  abbrev pub lines_after : ℕ → List ℕ
  lines_after x = if x == Q then moved.0 else g.line x

  abbrev pub head_after : ℕ → Option Head
  head_after x = head_by K W P lines_after x

  -- the tree is good after it, by these phases, where the rank's view is w
  abbrev pub GoodAfter : (ℕ → ℕ → Phase) → TreeView → Type 0
  GoodAfter F w = IsGoodBy K levels F lines_after g.ended W (slice_set s.views v.rank w) (s.trace ++ turn.events)

  line_here : lines_after Q ≡ moved.0
  line_here = ap (λ z. if z then moved.0 else g.line Q) (same_test Q)

  line_other : (x : ℕ) → x ≢ Q → lines_after x ≡ g.line x
  line_other x ne = ap (λ z. if z then moved.0 else g.line x) (other_test x Q ne)

  other_kept : (x : ℕ) → x < how_many K → x ≢ Q → QueueGood (names_in K x) (InQueue K x) W (P x) (g.line x) (s.trace ++ turn.events) (g.ended x)
  other_kept x there ne =
      still_keeps (names_in K x) (InQueue K x) W W (g.phase x) (P x) (g.line x) (s.trace ++ turn.events) (g.ended x)
      (other_queue_keeps (names_in K Q) (names_in K x) (InQueue K Q) (InQueue K x)
      (a.worded.apart Q x (queue_there s) there (λ k. ne (sym k))) s.words (g.phase Q) (g.phase x) (g.line Q) (g.line x) s.trace
      (g.ended Q) (g.ended x) (member_of s) v.phase a.act (g.by.queue Q (queue_there s)) (g.by.queue x there) (phase_was a) a.planned)
      (λ y. put_away g.phase Q (member_of s) turn.phase x y (inl ne)) refl (λ y i. refl) (λ y i. refl)

  -- all queues are good
  pub all_good : AllGood K W P lines_after g.ended (s.trace ++ turn.events)
  all_good x there =
      ⊎_elim
      (λ q. subst (λ y. QueueGood (names_in K y) (InQueue K y) W (P y) (lines_after y) (s.trace ++ turn.events) (g.ended y)) (sym q)
      (subst (λ y. QueueGood (names_in K Q) (InQueue K Q) W (P Q) y (s.trace ++ turn.events) (g.ended Q)) (sym line_here) moved.1))
      (λ ne. subst (λ y. QueueGood (names_in K x) (InQueue K x) W (P x) y (s.trace ++ turn.events) (g.ended x)) (sym (line_other x ne))
      (other_kept x there ne))
      (same_or_not x Q)

  -- the head here moves as the act says, and no other does
  pub head_here : HeadStep (names_in K Q).budget (member_of s) v.phase turn.phase (slice_index s.words (status_word (names_in K Q) (member_of s)))
      (head_before s Q) (head_after Q)
  head_here = subst (λ y. HeadStep (names_in K Q).budget (member_of s) v.phase turn.phase (slice_index s.words (status_word (names_in K Q) (member_of s)))
      (head_before s Q) (head_in (lane_of (names_in K Q) W (P Q)) y)) (sym line_here) moved.2

  pub head_other : (x : ℕ) → x < how_many K → x ≢ Q → head_after x ≡ head_before s x
  head_other x there ne =
      ap (head_in (lane_of (names_in K x) W (P x))) (line_other x ne) ∙
      heads_same (lane_of (names_in K x) W (g.phase x)) (lane_of (names_in K x) W (P x)) (g.line x)
      (λ y. put_away g.phase Q (member_of s) turn.phase x y (inl ne)) (λ y h. refl) ∙
      other_head_stays (names_in K Q) (names_in K x) (InQueue K Q) (InQueue K x)
      (a.worded.apart Q x (queue_there s) there (λ k. ne (sym k))) s.words (g.phase Q) (g.phase x) (g.line Q) (g.line x) s.trace
      (g.ended Q) (g.ended x) (member_of s) v.phase a.act (g.by.queue Q (queue_there s)) (g.by.queue x there) (phase_was a) a.planned

  -- so what is so of the heads stays so of all, where it does of that one
  pub kept_act : {X : Type 0} (f : Option Head → X) → f (head_after Q) ≡ f (head_before s Q) → (x : ℕ) → x < how_many K →
      f (head_after x) ≡ f (head_before s x)
  kept_act f same x there =
      ⊎_elim (λ q. subst (λ z. f (head_after z) ≡ f (head_before s z)) (sym q) same) (λ ne. ap f (head_other x there ne)) (same_or_not x Q)

  pub gates_act : ((p : ℕ) → (tree_of K).parent Q ≡ Some p → gate_of (head_after Q) ≡ gate_of (head_before s Q)) →
      (x p : ℕ) → x < how_many K → (tree_of K).parent x ≡ Some p → gate_of (head_after x) ≡ gate_of (head_before s x)
  gates_act same x p there up =
      ⊎_elim
      (λ q. subst (λ z. gate_of (head_after z) ≡ gate_of (head_before s z)) (sym q) (same p (ap (tree_of K).parent (sym q) ∙ up)))
      (λ ne. ap gate_of (head_other x there ne)) (same_or_not x Q)

  -- the tenures stay where nobody has come to have a queue, or has left it
  pub none_ends : (x : ℕ) → tenures (queue_at K x) turn.events ≡ 0
  none_ends x = turn_all (λ z. tenures (queue_at K x) z ≡ 0) (names_in K Q) (member_of s) v.phase (finds a) refl refl (λ m. refl)

  pub tenured_act : granted_in (head_after Q) ≡ granted_in (head_before s Q) → Tenured K W P lines_after g.ended (s.trace ++ turn.events)
  tenured_act same x there =
      let k = g.by.tenured x there in
      let none = none_ends x in
      let more = tenures-append (queue_at K x) s.trace turn.events in
      let o : (if is_node K x then 0 else granted_in (head_after x)) ≡ (if is_node K x then 0 else granted_in (head_before s x)) =
      ap (λ z. if is_node K x then 0 else z) (kept_act granted_in same x there) in
      omega arith

  -- what the others tell stays true, and the rank's own members below its level stand as they did
  pub others : OthersTell K levels P s.views v.rank
  others = others_put s.on s.words g.phase g.line g.ended s.trace s.views v.level turn.phase (level_low s) g.by.queue (all_others s) (first_of s)

  pub below_mine : TellsBelow K P v
  below_mine k b =
      let low = level_low s in
      put_away g.phase Q (member_of s) turn.phase (el s.on k) (me s.on k) (inl (el_apart s.on k v.level (omega arith) low (omega arith)))
      ∙ g.by.below v.rank v k s.has b

  -- the place of an element in its parent's queue is the rank's own only where the rank works for it
  pub cell_of : (x p : ℕ) → x < how_many K → (tree_of K).parent x ≡ Some p → ((j : ℕ) → v.level ≡ suc j → x ≢ el s.on j) → P p x ≡ g.phase p x
  cell_of x p there up off = put_away g.phase Q (member_of s) turn.phase p x (by v.level refl) where
    by : (n : ℕ) → v.level ≡ n → (p ≢ Q) ⊎ (x ≢ (member_of s))
    by zero e =
        inl (λ q.
        let b = el_deep s.on v.level (level_low s) in
        let c = ap s.on.well.treed.depth q in let f = (s.on.well.treed.over x p there up).1 in absurd (omega arith))
    by (suc j) e = inr (λ q. off j e (q ∙ ap (me s.on) e))

  -- a place matches what it matched, where the turn's phase does
  pub match_act : (y : Gate) → (Matches y v.phase → Matches y turn.phase) → (q m : ℕ) → Matches y (g.phase q m) → Matches y (P q m)
  match_act y f = match_put g.phase Q (member_of s) turn.phase y (λ h. f (subst (Matches y) (phase_was a) h))

  -- AN ACT THAT LEAVES ITS RANK AT ITS LEVEL keeps the tree good: the gate of its queue stays, it goes the same way, and how it
  -- stands above a queue below matches still.
  pub stays_at_level : ((p : ℕ) → (tree_of K).parent Q ≡ Some p → gate_of (head_after Q) ≡ gate_of (head_before s Q)) →
      granted_in (head_after Q) ≡ granted_in (head_before s Q) →
      way_at turn.phase ≡ way_at v.phase → (way_at turn.phase ≡ Rest → ⊥) → hook_by false turn.phase ≡ false →
      Spent (is_some (names_in K Q).budget) turn.phase → ((y : Gate) → Matches y v.phase → Matches y turn.phase) →
      GoodAfter P (at_level v v.level turn.phase)
  stays_at_level gate granted way moves unhooked spent matches =
      assembles s.on W P lines_after g.ended (s.trace ++ turn.events) s.views (at_level v v.level turn.phase) refl refl
      (record {
        within = level_low s;
        resting = λ e. absurd (moves e);
        above = λ e. cc;
        three = (shape_of s).three;
        hooked = λ e. let k : true ≡ false = sym e ∙ unhooked in cc;
      })
      others all_good
      (λ k b. below_mine k b ∙ ap (λ z. below_by z (behind_at v.behind k)) (ap (λ z. way_of z v.phase) a.no_query ∙ sym way))
      (put_here g.phase Q (member_of s) turn.phase)
      (λ x p there up. subst (λ z. Matches z (P p x)) (sym (gates_act gate x p there up))
      (match_act (gate_of (head_before s x)) (matches (gate_of (head_before s x))) p x (g.by.gates x p there up)))
      (spent_put K g.phase Q (member_of s) turn.phase g.by.spent spent) (tenured_act granted)
