-- Acts that take a rank to another level of its path: a head below the root begins above, one that gives up what is above asks for
-- its element's status, one that has left goes on below, and one that is passed a queue settles in all below.
use Rattle.std.specs.Prelude.{◌≡◌, ◌≢◌, ℕ, zero, suc, ◌+◌, ◌<◌, ◌≤◌, ◌==◌, true, false, List, [], ◌∷◌, ◌++◌, length, if◌then◌else◌, slice_index, slice_set, Option, Some, None, refl, is_some}
use Rattle.std.proofs.Common.{sym, ◌∙◌, ap, subst, inl, inr, ⊎_elim, arith, length-set}
use Rattle.rl_word.specs.laws.Places.{same_or_not}
use Rattle.rl_step.specs.Queues.{tenures, count}
use Rattle.rl_step.specs.laws.QueueLemmas.{tenures-append}
use Rattle.rl_queue.specs.laws.Choices.{same_test, other_test}
use Rattle.rl_queue.specs.declared.view.Phase.{Phase}
use Rattle.rl_queue.specs.declared.view.Phase.TheVariants.{Idle, Clear, Wait, Settle, Granted, Above}
use Rattle.rl_queue.specs.Queue.{QueueTurn, status_word, resume_at}
use Rattle.rl_queue.specs.Lane.{is_pass, IsFirst}
use Rattle.rl_queue.specs.laws.QueueHeads.{HeadStep, head}
use Rattle.rl_tree.specs.Tree.{behind_at, at_level, asks_status, leaves_behind, settles_below}
use Rattle.rl_tree.specs.declared.rooted.Rooted.{Rooted}
use Rattle.rl_tree.specs.Elements.{how_many, is_node, names_in, tree_of, queue_at}
use Rattle.rl_tree.specs.TreeGood.{Way, Up, Down, Rest, way_at, way_of, below_by, Gate, Shut, Asking, Open, Releasing, gate_of, granted_in, Matches, Spent, IsGrantedAt, IsGoodBy, open_if}
use Rattle.rl_tree.specs.laws.TreePaths.{put, put_here, put_away, head_by, AllGood, FirstBelow, el, me, el_there, el_in, el_up, el_top, el_apart}
use Rattle.rl_tree.specs.laws.RanksInTree.{ActsInTree, queue_of, member_of, head_before, shape_of, level_low, queue_there, words_after, turn_of, phases_after}
use Rattle.rl_tree.specs.laws.TreeClimb.{settled, MustSettle, owed, debt, debt_is, Owes, else_zero, else_parts}
use Rattle.rl_tree.specs.laws.TreePuts.{Gated, AllSpent, spent_clear, spent_idle, spent_settle, spent_resume, granted_opens, granted_releases, resume_way, resume_unhooked, resume_matches, spent_put, match_put, head_put, tenured_put, gated_at, join_put, resume_put}
use Rattle.rl_tree.specs.laws.TreeParts.{first_below, others_put, assembles}
use Rattle.rl_tree.specs.laws.TreeKeeps.{climbs, spent_granted}
use Rattle.rl_tree.specs.laws.TreeActs.{lines_after, head_after, GoodAfter, all_good, head_here, head_other, gates_act, none_ends, tenured_act, others, below_mine, cell_of, match_act}

-- what is written at a place of a list
behind_same : (s : Option ℕ) (xs : List (Option ℕ)) (j : ℕ) → j < length xs → behind_at (slice_set xs j s) j ≡ s
behind_same s [] j h = absurd (omega arith)
behind_same s (x ∷ xs) zero h = refl
behind_same s (x ∷ xs) (suc j) h = let k : j < length xs = omega arith in behind_same s xs j k

behind_other : (s : Option ℕ) (xs : List (Option ℕ)) (j k : ℕ) → k ≢ j → behind_at (slice_set xs j s) k ≡ behind_at xs k
behind_other s [] j k ne = refl
behind_other s (x ∷ xs) zero zero ne = absurd (ne refl)
behind_other s (x ∷ xs) zero (suc k) ne = refl
behind_other s (x ∷ xs) (suc j) zero ne = refl
behind_other s (x ∷ xs) (suc j) (suc k) ne = behind_other s xs j k (λ e. ne (ap suc e))

module _ {K : Rooted} {levels : ℕ} (a : ActsInTree K levels) where
  open a use {stands as s, stands.{on.{view as v}, good as g}}

  abbrev Q : ℕ
  Q = queue_of s

  abbrev P : ℕ → ℕ → Phase
  P = phases_after a

  abbrev W : List ℕ
  W = words_after a

  abbrev Z : ℕ → List ℕ
  Z = lines_after a

  abbrev turn : QueueTurn
  turn = turn_of a

  -- the element above its queue, and the phases once that has begun to join there
  abbrev upper : ℕ
  upper = el a.stands.on (suc a.stands.on.view.level)

  abbrev pub begun : ℕ → ℕ → Phase
  begun = put P upper Q Clear

  -- the phases once the rank has gone on in the queue below
  abbrev pub below_phase : ℕ → Phase
  below_phase j = resume_at (Above (behind_at v.behind j))

  abbrev pub gone_on : ℕ → ℕ → ℕ → Phase
  gone_on j = put P (el s.on j) (me s.on j) (below_phase j)

  here_now : P Q (member_of s) ≡ turn.phase
  here_now = put_here g.phase Q (member_of s) turn.phase

  -- which way it went, and so the phases below its level
  went : (w : Way) → way_at v.phase ≡ w → (k : ℕ) → k < v.level → P (el s.on k) (me s.on k) ≡ below_by w (behind_at v.behind k)
  went w is k b = below_mine a k b ∙ ap (λ z. below_by z (behind_at v.behind k)) (ap (λ z. way_of z v.phase) a.no_query ∙ is)

  -- the gates of all other queues match
  gates_away : (q : Phase) → turn.phase ≡ q → ((y : Gate) → Matches y v.phase → Matches y q) → (x p : ℕ) → x < how_many K →
      (tree_of K).parent x ≡ Some p → x ≢ Q → Matches (gate_of (head_after a x)) (P p x)
  gates_away q is f x p tx up ne =
      subst (λ z. Matches z (P p x)) (ap gate_of (sym (head_other a x tx ne)))
      (match_act a (gate_of (head_before s x)) (λ m. subst (Matches (gate_of (head_before s x))) (sym is) (f (gate_of (head_before s x)) m))
      p x (g.by.gates x p tx up))

  -- what is spent stays so
  spent_act : (q : Phase) → turn.phase ≡ q → Spent (is_some (names_in K Q).budget) q → AllSpent K P
  spent_act q is h = spent_put K g.phase Q (member_of s) turn.phase g.by.spent (subst (Spent (is_some (names_in K Q).budget)) (sym is) h)

  -- A HEAD BELOW THE ROOT must settle, and begins to join above.
  pub begins : v.level < levels → gate_of (head_before s Q) ≡ Shut →
      AllGood K W begun Z g.ended (s.trace ++ turn.events) × ((x : ℕ) → head_by K W begun Z x ≡ head_after a x)
  begins lt shut =
      let low = level_low s in
      let ne : upper ≢ Q = el_apart s.on (suc v.level) v.level (omega arith) low (omega arith) in
      join_put K W P Z g.ended (s.trace ++ turn.events) upper Q (all_good a) (el_there s.on (suc v.level) (omega arith))
      (el_in s.on (suc v.level) (omega arith))
      (put_away g.phase Q (member_of s) turn.phase upper Q (inl ne)
      ∙ subst (λ z. Matches z (g.phase upper Q)) shut (g.by.gates Q upper (queue_there s) (el_up s.on v.level lt)))

  pub begins_above : turn.phase ≡ Settle → v.level < levels → gate_of (head_before s Q) ≡ Shut → gate_of (head_after a Q) ≡ Asking →
      granted_in (head_after a Q) ≡ granted_in (head_before s Q) → way_at v.phase ≡ Up →
      ((y : Gate) → Matches y v.phase → Matches y Settle) → GoodAfter a begun (at_level v (suc v.level) Clear)
  begins_above settles lt shut asks granted up matches =
      let lu : suc v.level ≤ levels = omega arith in
      let joined = begins lt shut in
      let must : MustSettle s.on P (suc v.level) = λ k b.
      ⊎_elim (λ e. ap (λ z. P (el s.on z) (me s.on z)) e ∙ here_now ∙ settles) (λ n. went Up up k (omega arith)) (same_or_not k v.level) in
      let first : FirstBelow s.on W P (suc v.level) = λ k b.
      subst (λ z. IsFirst z (slice_index W (status_word (names_in K (el s.on k)) (me s.on k)))) (sym (must k b)) tt in
      assembles s.on W begun Z g.ended (s.trace ++ turn.events) s.views (at_level v (suc v.level) Clear) refl refl
      (record { within = lu; resting = λ e. cc; above = λ e. cc; three = (shape_of s).three; hooked = λ e. cc })
      (others_put s.on W P Z g.ended (s.trace ++ turn.events) s.views (suc v.level) Clear lu (all_good a) (others a) first) joined.0
      (λ k b. put_away P upper Q Clear (el s.on k) (me s.on k) (inl (el_apart s.on k (suc v.level) (omega arith) lu (omega arith))) ∙ must k b)
      (put_here P upper Q Clear)
      (gated_at K W begun Z Q upper (el_up s.on v.level lt)
      (subst (λ z. Matches z (begun upper Q)) (sym (ap gate_of (joined.1 Q) ∙ asks)) (subst (Matches Asking) (sym (put_here P upper Q Clear)) tt))
      (λ x p tx ux nx. subst (λ z. Matches z (begun p x)) (ap gate_of (sym (joined.1 x)))
      (subst (Matches (gate_of (head_after a x))) (sym (put_away P upper Q Clear p x (inr nx)))
      (gates_away Settle settles matches x p tx ux nx))))
      (spent_put K P upper Q Clear (spent_act Settle settles (spent_settle _)) (spent_clear _))
      (tenured_put K W P Z g.ended (s.trace ++ turn.events) upper Q Clear (tenured_act a granted) (ap granted_in (joined.1 upper)))

  -- ONE THAT GIVES UP WHAT IS ABOVE asks for the status of its element there.
  pub releases_above : (o : Option ℕ) → turn.phase ≡ Above o → v.level < levels → gate_of (head_before s Q) ≡ Open →
      gate_of (head_after a Q) ≡ Releasing → granted_in (head_after a Q) ≡ granted_in (head_before s Q) → way_at v.phase ≡ Down →
      ((y : Gate) → Matches y v.phase → Matches y (Above o)) → Spent (is_some (names_in K Q).budget) (Above o) →
      GoodAfter a P (asks_status (leaves_behind v v.level o) (suc v.level))
  releases_above o gives lt opens releasing granted down matches spent =
      let lu : suc v.level ≤ levels = omega arith in
      let low = level_low s in
      let three : levels ≤ 3 = s.on.well.low in
      let shape : length v.behind ≡ 3 = (shape_of s).three in
      let pq = el_up s.on v.level lt in
      let same_cell : P upper Q ≡ g.phase upper Q =
      put_away g.phase Q (member_of s) turn.phase upper Q (inl (el_apart s.on (suc v.level) v.level lu low (omega arith))) in
      let open_cell : Matches Open (g.phase upper Q) = subst (λ z. Matches z (g.phase upper Q)) opens (g.by.gates Q upper (queue_there s) pq) in
      assembles s.on W P Z g.ended (s.trace ++ turn.events) s.views (asks_status (leaves_behind v v.level o) (suc v.level)) refl refl
      (record { within = lu; resting = λ e. cc; above = λ e. omega arith; three = length-set v.behind v.level o ∙ shape; hooked = λ e. cc })
      (others a) (all_good a)
      (λ k b.
      ⊎_elim
      (λ e. ap (λ z. P (el s.on z) (me s.on z)) e ∙ here_now ∙ gives
      ∙ ap Above (sym (ap (behind_at (slice_set v.behind v.level o)) e ∙ behind_same o v.behind v.level (omega arith))))
      (λ n. went Down down k (omega arith) ∙ ap Above (sym (behind_other o v.behind v.level k n)))
      (same_or_not k v.level))
      (subst IsGrantedAt (sym same_cell) (granted_opens (g.phase upper Q) open_cell))
      (gated_at K W P Z Q upper pq
      (subst (λ z. Matches z (P upper Q)) (sym releasing)
      (subst (Matches Releasing) (sym same_cell) (granted_releases (g.phase upper Q) open_cell)))
      (gates_away (Above o) gives matches))
      (spent_act (Above o) gives spent) (tenured_act a granted)

  -- the gates where nothing is above, or its own stays
  gates_stay : (F : ℕ → ℕ → Phase) → ((p : ℕ) → (tree_of K).parent Q ≡ Some p → gate_of (head_after a Q) ≡ gate_of (head_before s Q)) →
      (x p : ℕ) → x < how_many K → (tree_of K).parent x ≡ Some p → Matches (gate_of (head_before s x)) (F p x) →
      Matches (gate_of (head_after a x)) (F p x)
  gates_stay F gate x p tx ux h = subst (λ z. Matches z (F p x)) (sym (gates_act a gate x p tx ux)) h

  -- ONE THAT HAS LEFT its node's queue is out.
  pub ends_leaf : turn.phase ≡ Idle → v.level ≡ 0 →
      ((p : ℕ) → (tree_of K).parent Q ≡ Some p → gate_of (head_after a Q) ≡ gate_of (head_before s Q)) →
      granted_in (head_after a Q) ≡ granted_in (head_before s Q) → GoodAfter a P (at_level v 0 Idle)
  ends_leaf left lv gate granted =
      assembles s.on W P Z g.ended (s.trace ++ turn.events) s.views (at_level v 0 Idle) refl refl
      (record { within = omega arith; resting = λ e. refl; above = λ e. cc; three = (shape_of s).three; hooked = λ e. cc })
      (others a) (all_good a) (λ k b. absurd (omega arith))
      (subst (λ z. P (el s.on z) (me s.on z) ≡ Idle) lv (here_now ∙ left))
      (λ x p tx ux. gates_stay P gate x p tx ux (subst (Matches (gate_of (head_before s x)))
      (sym (cell_of a x p tx ux (λ j e. let bad : 0 ≡ suc j = sym lv ∙ e in cc))) (g.by.gates x p tx ux)))
      (spent_act Idle left (spent_idle _)) (tenured_act a granted)

  -- ONE THAT HAS LEFT above goes on in the queue below.
  pub ends_above : (j : ℕ) → turn.phase ≡ Idle → v.level ≡ suc j →
      ((p : ℕ) → (tree_of K).parent Q ≡ Some p → gate_of (head_after a Q) ≡ gate_of (head_before s Q)) →
      granted_in (head_after a Q) ≡ granted_in (head_before s Q) → way_at v.phase ≡ Down →
      GoodAfter a (gone_on j) (at_level v j (below_phase j))
  ends_above j left lv gate granted down =
      let low = level_low s in
      let lj : j ≤ levels = omega arith in
      let o : Option ℕ = behind_at v.behind j in
      let was : P (el s.on j) (me s.on j) ≡ Above (behind_at v.behind j) = went Down down j (omega arith) in
      let ne : el s.on j ≢ Q = el_apart s.on j v.level lj low (omega arith) in
      let is_d : (member_of s) ≡ el s.on j = ap (me s.on) lv in
      let resumed = resume_put K W P Z g.ended (s.trace ++ turn.events) (el s.on j) (me s.on j) o (all_good a) (el_there s.on j lj) was in
      let first : FirstBelow s.on W P j = λ k b. first_below s.on W P v.level (shape_of s) (omega arith) (below_mine a) k (omega arith) in
      assembles s.on W (gone_on j) Z g.ended (s.trace ++ turn.events) s.views (at_level v j (below_phase j)) refl refl
      (record {
        within = lj;
        resting = λ e. let bad : Down ≡ Rest = sym (resume_way o) ∙ e in cc;
        above = λ e. cc;
        three = (shape_of s).three;
        hooked = λ e. let bad : true ≡ false = sym e ∙ resume_unhooked o in cc;
      })
      (others_put s.on W P Z g.ended (s.trace ++ turn.events) s.views j (below_phase j) lj (all_good a) (others a) first) resumed.0
      (λ k b. put_away P (el s.on j) (me s.on j) (below_phase j) (el s.on k) (me s.on k) (inl (el_apart s.on k j (omega arith) lj (omega arith)))
      ∙ went Down down k (omega arith) ∙ ap (λ z. below_by z (behind_at v.behind k)) (sym (resume_way o)))
      (put_here P (el s.on j) (me s.on j) (below_phase j))
      (gated_at K W (gone_on j) Z (el s.on j) Q (el_up s.on j (omega arith) ∙ ap (λ z. Some (el s.on z)) (sym lv))
      (subst (λ z. Matches z (gone_on j Q (el s.on j))) (sym resumed.1)
      (put_away P (el s.on j) (me s.on j) (below_phase j) Q (el s.on j) (inl (λ y. ne (sym y))) ∙ ap (P Q) (sym is_d) ∙ here_now ∙ left))
      (λ x p tx ux nx.
      subst (λ z. Matches z (gone_on j p x)) (sym (ap gate_of (head_put K W P Z (el s.on j) (me s.on j) (below_phase j) x nx)))
      (gates_stay (gone_on j) gate x p tx ux
      (match_put P (el s.on j) (me s.on j) (below_phase j) (gate_of (head_before s x))
      (λ y. resume_matches o (gate_of (head_before s x)) (subst (Matches (gate_of (head_before s x))) was y)) p x
      (subst (Matches (gate_of (head_before s x)))
      (sym (cell_of a x p tx ux (λ k e.
      let same : k ≡ j = let z : suc k ≡ suc j = sym e ∙ lv in omega arith in subst (λ z. x ≢ el s.on z) (sym same) nx)))
      (g.by.gates x p tx ux))))))
      (spent_put K P (el s.on j) (me s.on j) (below_phase j) (spent_act Idle left (spent_idle _)) (spent_resume _ o))
      (tenured_put K W P Z g.ended (s.trace ++ turn.events) (el s.on j) (me s.on j) (below_phase j) (tenured_act a granted) resumed.2)

  -- AT THE ROOT a head stands at the hook.
  root_gates : (q : Phase) → turn.phase ≡ q → v.level ≡ levels → ((y : Gate) → Matches y v.phase → Matches y q) → Gated K W P Z
  root_gates q is lv matches x p tx ux =
      ⊎_elim
      (λ e. let bad : Some p ≡ None = sym ux ∙ ap (tree_of K).parent e ∙ ap (λ z. (tree_of K).parent (el s.on z)) lv ∙ el_top s.on in cc)
      (λ ne. gates_away q is matches x p tx ux ne) (same_or_not x Q)

  pub settles_at_hook : turn.phase ≡ Settle → v.level ≡ levels → granted_in (head_after a Q) ≡ granted_in (head_before s Q) →
      way_at v.phase ≡ Up → ((y : Gate) → Matches y v.phase → Matches y Settle) → GoodAfter a P (at_level v v.level Settle)
  settles_at_hook settles lv granted up matches =
      assembles s.on W P Z g.ended (s.trace ++ turn.events) s.views (at_level v v.level Settle) refl refl
      (record { within = level_low s; resting = λ e. cc; above = λ e. cc; three = (shape_of s).three; hooked = λ e. lv })
      (others a) (all_good a) (went Up up) (here_now ∙ settles) (root_gates Settle settles lv matches)
      (spent_act Settle settles (spent_settle _)) (tenured_act a granted)

  -- and one that gives the root up does.
  pub releases_at_hook : (o : Option ℕ) → turn.phase ≡ Above o → v.level ≡ levels →
      granted_in (head_after a Q) ≡ granted_in (head_before s Q) → way_at v.phase ≡ Down →
      ((y : Gate) → Matches y v.phase → Matches y (Above o)) → Spent (is_some (names_in K Q).budget) (Above o) →
      GoodAfter a P (at_level (leaves_behind v v.level o) v.level (Above o))
  releases_at_hook o gives lv granted down matches spent =
      assembles s.on W P Z g.ended (s.trace ++ turn.events) s.views (at_level (leaves_behind v v.level o) v.level (Above o)) refl refl
      (record {
        within = level_low s;
        resting = λ e. cc;
        above = λ e. cc;
        three = length-set v.behind v.level o ∙ (shape_of s).three;
        hooked = λ e. lv;
      })
      (others a) (all_good a)
      (λ k b. let ne : k ≢ v.level = λ e. absurd (omega arith) in
      went Down down k b ∙ ap Above (sym (behind_other o v.behind v.level k ne)))
      (here_now ∙ gives) (root_gates (Above o) gives lv matches) (spent_act (Above o) gives spent) (tenured_act a granted)

  -- A HEAD THAT HAS BEEN PASSED THE QUEUE: it has the queue, and so has each below, which must settle, in the same act.
  module _ (waits : v.phase ≡ Wait) (left : ℕ) (passed : turn.phase ≡ Granted left)
      (by_pass : is_pass (slice_index s.words (status_word (names_in K Q) (member_of s))) ≡ true) where
    -- the head waited with a pass, and has the queue now
    heads : (head_before s Q ≡ head (member_of s) Wait (slice_index s.words (status_word (names_in K Q) (member_of s)))) ×
        (head_after a Q ≡ head (member_of s) (Granted left) (slice_index s.words (status_word (names_in K Q) (member_of s))))
    heads =
        subst (λ z. HeadStep (names_in K Q).budget (member_of s) Wait z (slice_index s.words (status_word (names_in K Q) (member_of s))) (head_before s Q) (head_after a Q)) passed
        (subst (λ z. HeadStep (names_in K Q).budget (member_of s) z turn.phase (slice_index s.words (status_word (names_in K Q) (member_of s))) (head_before s Q)
        (head_after a Q)) waits (head_here a))

    pub gate_same : gate_of (head_after a Q) ≡ gate_of (head_before s Q)
    gate_same = ap gate_of heads.1 ∙ sym (ap gate_of heads.0 ∙ ap open_if by_pass)

    -- what is owed below: the element has the queue, and its own queue hasn't settled yet
    here_owed : owed s.on W P Z Q ≡ owed s.on s.words g.phase g.line Q + debt s.on v.level Q
    here_owed =
        let k = debt_is s.on v.level Q (level_low s) (queue_there s) in
        let p = else_parts (is_node K Q) (granted_in (head_after a Q)) (granted_in (head_before s Q)) (count (Q == Q)) (ap granted_in heads.1)
        (ap granted_in heads.0) (ap count (same_test Q)) in
        omega arith

    other_owed : (x : ℕ) → x < how_many K → x ≢ Q → owed s.on W P Z x ≡ owed s.on s.words g.phase g.line x + debt s.on v.level x
    other_owed x tx ne =
        let k = debt_is s.on v.level x (level_low s) tx in
        let z : (if is_node K x then 0 else count (Q == x)) ≡ 0 = else_zero (is_node K x) (count (Q == x)) (ap count (other_test Q x (λ y. ne (sym y)))) in
        let o : owed s.on W P Z x ≡ owed s.on s.words g.phase g.line x =
        ap (λ y. if is_node K x then 0 else granted_in y) (head_other a x tx ne) in omega arith

    owes_now : Owes s.on W P Z g.ended (s.trace ++ turn.events) v.level
    owes_now x tx =
        let none = none_ends a x in
        let more = tenures-append (queue_at K x) s.trace turn.events in
        let old : g.ended x + owed s.on s.words g.phase g.line x ≡ tenures (queue_at K x) s.trace = g.by.tenured x tx in
        let k : owed s.on W P Z x ≡ owed s.on s.words g.phase g.line x + debt s.on v.level x =
        ⊎_elim (λ q. subst (λ z. owed s.on W P Z z ≡ owed s.on s.words g.phase g.line z + debt s.on v.level z) (sym q) here_owed)
        (λ ne. other_owed x tx ne) (same_or_not x Q) in
        omega arith

    -- the state is good after it
    pub passed_climbs : (q : Phase) → settled s.on P v.level (el s.on 0) (me s.on 0) ≡ q → IsGrantedAt q →
        IsGoodBy K levels (settled s.on P v.level) Z g.ended W (slice_set s.views v.rank (at_level v 0 q))
        ((s.trace ++ turn.events) ++ settles_below (tree_of K) v v.level)
    passed_climbs q now inside =
        let low = level_low s in
        climbs s.on W P Z g.ended (s.trace ++ turn.events) s.views v.level q (shape_of s).three (others a) (all_good a)
        (omega arith) (went Up (ap (way_of false) waits))
        (λ l. subst IsGrantedAt (sym (here_now ∙ passed)) tt)
        (λ x p tx ux off. gates_stay P (λ i e. gate_same) x p tx ux
        (subst (Matches (gate_of (head_before s x))) (sym (cell_of a x p tx ux (λ j e. off j (omega arith)))) (g.by.gates x p tx ux)))
        (spent_act (Granted left) passed (spent_granted _ left)) owes_now now inside
