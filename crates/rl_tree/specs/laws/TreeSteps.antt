-- Each act in a tree away from the hook: the tree stays good, its root's gate moves as it may, and the events fit the laws of a lock.
use Rattle.std.specs.Prelude.{◌≡◌, ◌≢◌, ◌⊎◌, ℕ, zero, suc, ◌+◌, ◌-◌, ◌<◌, ◌≤◌, ◌==◌, Bool, true, false, List, [], ◌∷◌, ◌++◌, length, if◌then◌else◌, slice_index, slice_set, Option, Some, None, refl, is_some}
use Rattle.std.proofs.Common.{sym, ◌∙◌, ap, subst, inl, inr, ⊎_elim, arith}
use Rattle.std.proofs.lemmas.List.{append-nil}
use Rattle.std.proofs.lemmas.Option.{same_Some}
use Rattle.std.proofs.lemmas.Bool.Decides.{eqb_tells}
use Rattle.rl_word.specs.laws.Places.{same_or_not}
use Rattle.rl_word.specs.Acts.{word_of, told}
use Rattle.rl_word.specs.declared.acts.Act.TheVariants.{Load}
use Rattle.rl_step.specs.declared.events.Event.{Event}
use Rattle.rl_step.specs.declared.events.Event.TheVariants as event
use Rattle.rl_step.specs.declared.events.Standing.TheVariants as standing
use Rattle.rl_step.specs.Lock.{Told, Shift, holds_only, InOrder}
use Rattle.rl_queue.specs.declared.view.Phase.{Phase}
use Rattle.rl_queue.specs.declared.view.Phase.TheVariants.{Idle, Clear, Reset, Swing, Link, Wait, Settle, Granted, Look, Close, Await, Hand, Above}
use Rattle.rl_queue.specs.Queue.{QueueTurn, status_word, full_budget, plan_at, status_code, code_left, turn_at, moves_to, moves_with, waits_at, joined_at, hand_turn, resume_at}
use Rattle.rl_queue.specs.Lane.{is_pass}
use Rattle.rl_queue.specs.laws.QueueActs.{wait_turn, pass_more, code_more}
use Rattle.rl_queue.specs.laws.QueueMoves.{hand_succ}
use Rattle.rl_queue.specs.laws.QueueHeads.{HeadStep}
use Rattle.rl_queue.specs.Standings.{standing_of}
use Rattle.rl_tree.specs.declared.view.TreeView.{TreeView}
use Rattle.rl_tree.specs.Tree.{TheTree, is_none, behind_at, names_at, at_level, asks_status, leaves_behind, settles_below, inside_from, goes_up, goes_down, gives_up, walk_turn, at_hook, tree_standing, entry_if}
use Rattle.rl_tree.specs.laws.Cases.{standing_by}
use Rattle.rl_tree.specs.declared.rooted.Rooted.{Rooted}
use Rattle.rl_tree.specs.Elements.{names_in, tree_of}
use Rattle.rl_tree.specs.TreeGood.{Up, Rest, way_at, way_by, Gate, Shut, Asking, Open, Releasing, open_if, some_left, gate_of, granted_in, Matches, Spent, InQueue, is_open, root_open, IsGoodBy, TreeGood}
use Rattle.rl_tree.specs.TreeFacts.{GateMoves, LearnFits}
use Rattle.rl_tree.specs.laws.TreePaths.{put_here, OnPath, el, me, el_in, el_up, el_root, el_top, not_root}
use Rattle.rl_tree.specs.laws.RanksInTree.{StandsInTree, ActsInTree, queue_of, member_of, head_before, level_low, queue_there, words_after, phases_after, turn_of, finds, phase_was}
use Rattle.rl_tree.specs.laws.TreeClimb.{settled, settled_here, settled_off}
use Rattle.rl_tree.specs.laws.TreePuts.{plus_one, resume_unhooked, head_put}
use Rattle.rl_tree.specs.laws.TreeActs.{lines_after, head_after, GoodAfter, head_here, head_other, kept_act}
use Rattle.rl_tree.specs.laws.TreeStays.{Stays, level_keeps, stays_clear, stays_reset, stays_swing, stays_link, stays_linked, stays_wait, stays_pass, stays_flat_hand, stays_flat_close, stays_close, stays_await, stays_hand}
use Rattle.rl_tree.specs.laws.TreeOnward.{begun, below_phase, gone_on, begins, begins_above, releases_above, ends_leaf, ends_above, settles_at_hook, releases_at_hook, gate_same, passed_climbs}
use Rattle.rl_tree.specs.laws.TreeEvents.{Named, is_member, holds_append, append_length, settles_order, settles_length, settles_hold, settles_enter}

inside_granted : (T : TheTree) (v : TreeView) (w left : ℕ) → (n : ℕ) × (inside_from T v w left ≡ Granted n)
inside_granted T v zero left = (left, refl)
inside_granted T v (suc w) left = (full_budget (names_at T v 0).budget, refl)

pub resume_entry : (s : Option ℕ) (m : ℕ) → entry_if false (resume_at (Above s)) m ≡ []
resume_entry None m = refl
resume_entry (Some s) m = refl

pub resume_standing : (s : Option ℕ) → standing_of (resume_at (Above s)) ≡ standing.Leaving
resume_standing None = refl
resume_standing (Some s) = refl

pass_pos : (s : ℕ) → s ≡ 1 → is_pass s ≡ false
pass_pos s e = ap is_pass e

none_above : (B : Option ℕ) → is_some B ≡ false → B ≡ None
none_above None e = refl
none_above (Some b) e = cc

-- the gate after a hand over
hand_gate : (B : Option ℕ) (left : ℕ) → is_some B ≡ true → open_if (is_pass (status_code B left)) ≡ open_if (some_left left)
hand_gate None left h = cc
hand_gate (Some b) zero h = refl
hand_gate (Some b) (suc k) h = ap (λ z. open_if (is_pass z)) (code_more b k)

hand_phase : (q : ℕ) (B : Option ℕ) (s left : ℕ) → (es : List Event) ×
    (hand_turn q B s left ≡ record { phase = Idle; events = es; waits = false }) × ((es ≡ []) ⊎ (es ≡ event.Pass q s ∷ []))
hand_phase q None s left = (event.Pass q s ∷ [], refl, inr refl)
hand_phase q (Some b) s zero = ([], refl, inl refl)
hand_phase q (Some b) s (suc k) = (event.Pass q s ∷ [], pass_more q b s k, inr refl)

-- the phase in its node's queue of one that has settled below a level
settled_leaf : {K : Rooted} {levels : ℕ} (r : OnPath K levels) (F : ℕ → ℕ → Phase) (w left : ℕ) → w ≤ levels →
    F (el r w) (me r w) ≡ Granted left → settled r F w (el r 0) (me r 0) ≡ inside_from (tree_of K) r.view w left
settled_leaf r F zero left le e = e
settled_leaf r F (suc j) left le e = settled_here r F (suc j) 0 (omega arith) (omega arith)

-- what is asked of what a rank learns by an act
pub record Steps (K : Rooted) (levels : ℕ) (s : StandsInTree K levels) (us : List ℕ) (u : Told TreeView) : Type 0 where
  pub good : TreeGood K levels us (slice_set s.views s.on.view.rank u.view) (s.trace ++ u.events)
  pub moves : is_some K.root ≡ true → GateMoves (at_hook u.view) u.view.phase (root_open K s.words s.good.phase s.good.line)
      (root_open K us good.phase good.line)
  pub fits : LearnFits K s.on.view.rank s.on.view u

-- events of queues alone
pub record Plain (K : Rooted) (es : List Event) : Type 0 where
  pub holds : holds_only es ≡ []
  pub order : InOrder es
  pub few : length es ≤ 5
  pub names : Named K es

pub none_plain : (K : Rooted) → Plain K []
none_plain K = record { holds = refl; order = tt; few = omega arith; names = tt }

entry_none : (q : Phase) (m : ℕ) → (way_at q ≡ Rest → ⊥) → entry_if false q m ≡ []
entry_none (Granted l) m f = absurd (f refl)
entry_none _ m f = refl

pub fits_plain : (K : Rooted) (r : ℕ) (v : TreeView) (u : Told TreeView) → entry_if u.view.query u.view.phase u.view.rank ≡ [] →
    Shift r (tree_standing v) (tree_standing u.view) [] → Plain K u.events → LearnFits K r v u
fits_plain K r v u e shift plain =
    let same : u.events ≡ u.events ++ entry_if u.view.query u.view.phase u.view.rank = sym (ap (λ z. u.events ++ z) e ∙ append-nil u.events) in
    record {
      shift = subst (λ z. Shift r (tree_standing v) (tree_standing u.view) (holds_only z)) same
          (subst (Shift r (tree_standing v) (tree_standing u.view)) (sym plain.holds) shift);
      order = subst InOrder same plain.order;
      few = subst (λ z. length z ≤ 5) same plain.few;
      names = subst (Named K) same plain.names;
    }

-- one that settles below a level, and enters
pub enters_fit : {K : Rooted} {levels : ℕ} (r : OnPath K levels) (j left : ℕ) → j ≤ suc levels → tree_standing r.view ≡ standing.Asking →
    LearnFits K r.view.rank r.view (record { view = at_level r.view 0 (Granted left); events = settles_below (tree_of K) r.view j; waits = false })
enters_fit {K} {levels} r j left le asks =
    let enter : List Event = event.EnterW r.view.rank ∷ [] in
    let n1 = append_length (settles_below (tree_of K) r.view j) enter in
    let n2 = settles_length r j in
    let n3 : levels ≤ 3 = r.well.low in
    record {
      shift = subst (λ z. Shift r.view.rank z standing.Writer (holds_only (settles_below (tree_of K) r.view j ++ event.EnterW r.view.rank ∷ [])))
          (sym asks) (holds_append (settles_below (tree_of K) r.view j) enter (settles_hold r j));
      order = settles_order r j le;
      few = omega arith;
      names = settles_enter r j le;
    }

-- a joiner matches no gate but Asking
swing_settles : (g : ℕ) (y : Gate) → Matches y (Swing g) → Matches y Settle
swing_settles g Shut h = cc
swing_settles g Asking h = tt
swing_settles g Open h = absurd h
swing_settles g Releasing h = absurd h

wait_settles : (y : Gate) → Matches y Wait → Matches y Settle
wait_settles Shut h = cc
wait_settles Asking h = tt
wait_settles Open h = absurd h
wait_settles Releasing h = absurd h

look_above : (left : ℕ) (u : Bool) (s : Option ℕ) (y : Gate) → Matches y (Look left u) → Matches y (Above s)
look_above left u s Shut h = cc
look_above left u s Asking h = absurd h
look_above left u s Open h = absurd h
look_above left u s Releasing h = tt

-- a rank that acts in a phase
pub record Acting (K : Rooted) (levels : ℕ) (p : Phase) : Type 0 where
  pub acts : ActsInTree K levels
  pub at : acts.stands.on.view.phase ≡ p

module _ {K : Rooted} {levels : ℕ} {p : Phase} (x : Acting K levels p) where
  abbrev a : ActsInTree K levels
  a = x.acts

  abbrev s : StandsInTree K levels
  s = x.acts.stands

  abbrev v : TreeView
  v = x.acts.stands.on.view

  abbrev g : TreeGood K levels x.acts.stands.words x.acts.stands.views x.acts.stands.trace
  g = x.acts.stands.good

  abbrev Q : ℕ
  Q = queue_of x.acts.stands

  abbrev N : ℕ
  N = member_of x.acts.stands

  abbrev P : ℕ → ℕ → Phase
  P = phases_after x.acts

  abbrev W : List ℕ
  W = words_after x.acts

  abbrev Z : ℕ → List ℕ
  Z = lines_after x.acts

  abbrev B : Option ℕ
  B = (names_in K (queue_of x.acts.stands)).budget

  abbrev status : ℕ
  status = slice_index x.acts.stands.words (status_word (names_in K (queue_of x.acts.stands)) (member_of x.acts.stands))

  abbrev was_open : Bool
  was_open = root_open K s.words g.phase g.line

  abbrev pub turn : QueueTurn
  turn = turn_at (names_in K Q) N p (finds a)

  abbrev pub Goal : QueueTurn → Type 0
  Goal y = Steps K levels s W (walk_turn (tree_of K) v v.level y)

  turn_is : turn_of a ≡ turn
  turn_is = ap (λ z. turn_at (names_in K Q) N z (finds a)) x.at

  -- the heads of the rank's queue, and its phase
  heads : (q : Phase) → turn.phase ≡ q → HeadStep B N p q status (head_before s Q) (head_after a Q)
  heads q e =
      subst (λ z. HeadStep B N p z status (head_before s Q) (head_after a Q)) (ap (λ z. z.phase) turn_is ∙ e)
      (subst (λ z. HeadStep B N z (turn_of a).phase status (head_before s Q) (head_after a Q)) x.at (head_here a))

  phase_is : g.phase Q N ≡ p
  phase_is = phase_was a ∙ x.at

  spent_is : Spent (is_some B) p
  spent_is = subst (Spent (is_some B)) phase_is (g.by.spent Q N)

  matched : (q : Phase) → ((y : Gate) → Matches y p → Matches y q) → (y : Gate) → Matches y v.phase → Matches y q
  matched q f y m = f y (subst (Matches y) x.at m)

  join_plain : Plain K (event.Join Q N ∷ [])
  join_plain =
      record {
        holds = refl;
        order = tt;
        few = omega arith;
        names = (is_member K Q N (queue_there s) (el_in s.on v.level (level_low s)), tt);
      }

  -- at the top level its queue is the root's
  root_here : v.level ≡ levels → Q ≡ 0
  root_here e = ap (el s.on) e ∙ el_root s.on

  -- each queue on the path has a budget, where the root has one
  limited : is_some K.root ≡ true → is_some B ≡ true
  limited lim =
      ⊎_elim (λ e. ap (λ z. is_some (names_in K z).budget) (root_here e) ∙ lim)
      (λ ne. let low = level_low s in
      s.on.well.budgeted Q (el s.on (suc v.level)) (queue_there s) (el_up s.on v.level (omega arith)))
      (same_or_not v.level levels)

  -- the root's gate, where its own queue's stays, and where its own isn't the root's
  top_same : gate_of (head_after a Q) ≡ gate_of (head_before s Q) → is_open (gate_of (head_after a 0)) ≡ was_open
  top_same same = ap is_open (kept_act a gate_of same 0 s.on.well.some)

  top_other : v.level < levels → is_open (gate_of (head_after a 0)) ≡ was_open
  top_other lt = ap (λ z. is_open (gate_of z)) (head_other a 0 s.on.well.some (not_root s.on v.level lt))

  -- what the rank learns by a turn, where the tree is good by these phases
  steps_by : (y : QueueTurn) (w : TreeView) (waits : Bool) (F : ℕ → ℕ → Phase) → turn ≡ y →
      walk_turn (tree_of K) v v.level y ≡ record { view = w; events = y.events; waits = waits } → GoodAfter a F w →
      (is_some K.root ≡ true → GateMoves (at_hook w) w.phase was_open (root_open K W F Z)) → entry_if w.query w.phase w.rank ≡ [] →
      Shift v.rank (standing_of p) (tree_standing w) [] → Plain K y.events → Goal turn
  steps_by y w waits F e form good moves entry shift plain =
      subst Goal (sym e)
      (subst (Steps K levels s W) (sym form)
      (record {
        good = record {
          phase = F;
          line = Z;
          ended = g.ended;
          by = subst (λ z. IsGoodBy K levels F Z g.ended W (slice_set s.views v.rank w) (s.trace ++ z)) (ap (λ z. z.events) (turn_is ∙ e)) good;
        };
        moves = moves;
        fits = fits_plain K v.rank v (record { view = w; events = y.events; waits = waits }) entry
            (subst (λ z. Shift v.rank z (tree_standing w) []) (sym (ap (λ z. standing_by z v.phase) a.no_query ∙ ap standing_of x.at)) shift) plain;
      }))

  -- AN ACT THAT STAYS at its level
  stays : (y : QueueTurn) → turn ≡ y → Stays B p y.phase →
      walk_turn (tree_of K) v v.level y ≡ record { view = at_level v v.level y.phase; events = y.events; waits = y.waits } →
      Shift v.rank (standing_of p) (standing_of y.phase) [] → Plain K y.events → Goal turn
  stays y e st form shift plain =
      let k = level_keeps a (subst (λ z. Stays B z (turn_of a).phase) (sym x.at) (subst (λ z. Stays B p z.phase) (sym (turn_is ∙ e)) st)) in
      steps_by y (at_level v v.level y.phase) y.waits P e form
      (subst (λ z. GoodAfter a P (at_level v v.level z.phase)) (turn_is ∙ e) k)
      (λ lim. subst (λ z. GateMoves z y.phase was_open (root_open K W P Z)) (sym st.unhooked)
      (top_same (st.gate _ _ _ _ (limited lim) (heads y.phase (ap (λ z. z.phase) e)))))
      (entry_none y.phase v.rank st.moves) shift plain

  quiet : (q : Phase) (h : Bool) → turn ≡ record { phase = q; events = []; waits = h } → Stays B p q →
      walk_turn (tree_of K) v v.level (record { phase = q; events = []; waits = h }) ≡
      record { view = at_level v v.level q; events = []; waits = h } → Shift v.rank (standing_of p) (standing_of q) [] → Goal turn
  quiet q h e st form shift = stays (record { phase = q; events = []; waits = h }) e st form shift (none_plain K)

  -- ONE THAT MUST SETTLE: below the root it begins to join above, at the root it comes to the hook
  arrives : (es : List Event) → turn ≡ record { phase = Settle; events = es; waits = false } → gate_of (head_before s Q) ≡ Shut →
      gate_of (head_after a Q) ≡ Asking → granted_in (head_after a Q) ≡ granted_in (head_before s Q) →
      ((y : Gate) → Matches y p → Matches y Settle) → standing_of p ≡ standing.Asking → Plain K es → Goal turn
  arrives es e shut asks granted matches st plain =
      let settles : (turn_of a).phase ≡ Settle = ap (λ z. z.phase) (turn_is ∙ e) in
      let up : way_at v.phase ≡ Up = ap way_at x.at ∙ ap way_by st in
      let shift = subst (λ z. Shift v.rank z standing.Asking []) (sym st) refl in
      ⊎_elim
      (λ lv. steps_by (record { phase = Settle; events = es; waits = false }) (at_level v v.level Settle) false P e
      (ap (λ z. goes_up z v v.level es) (ap (λ z. is_none ((tree_of K).parent (el s.on z))) lv ∙ ap is_none (el_top s.on)))
      (settles_at_hook a settles lv granted up (matched Settle matches))
      (λ lim. (
        subst (λ z. is_open (gate_of (head_before s z)) ≡ false) (root_here lv) (ap is_open shut),
        subst (λ z. is_open (gate_of (head_after a z)) ≡ false) (root_here lv) (ap is_open asks),
      ))
      refl shift plain)
      (λ ne.
      let low = level_low s in
      let lt : v.level < levels = omega arith in
      steps_by (record { phase = Settle; events = es; waits = false }) (at_level v (suc v.level) Clear) false (begun a) e
      (ap (λ z. goes_up z v v.level es) (ap is_none (el_up s.on v.level lt))
      ∙ ap (λ z. record { view = at_level v z Clear; events = es; waits = false }) (plus_one v.level))
      (begins_above a settles lt shut asks granted up (matched Settle matches))
      (λ lim. ap (λ z. is_open (gate_of z)) ((begins a lt shut).1 0) ∙ top_other lt) refl shift plain)
      (same_or_not v.level levels)

  -- ONE THAT GIVES UP what is above: below the root it asks for its element's status, at the root it comes to the hook
  gives : (o : Option ℕ) → turn ≡ moves_to (Above o) → gate_of (head_before s Q) ≡ Open → gate_of (head_after a Q) ≡ Releasing →
      granted_in (head_after a Q) ≡ granted_in (head_before s Q) → ((y : Gate) → Matches y p → Matches y (Above o)) →
      Spent (is_some B) (Above o) → standing_of p ≡ standing.Leaving → Goal turn
  gives o e opens releasing granted matches spent st =
      let above : (turn_of a).phase ≡ Above o = ap (λ z. z.phase) (turn_is ∙ e) in
      let down = ap way_at x.at ∙ ap way_by st in
      let shift = subst (λ z. Shift v.rank z standing.Leaving []) (sym st) refl in
      ⊎_elim
      (λ lv. steps_by (moves_to (Above o)) (at_level (leaves_behind v v.level o) v.level (Above o)) false P e
      (ap (λ z. gives_up z v v.level o []) (ap (λ z. is_none ((tree_of K).parent (el s.on z))) lv ∙ ap is_none (el_top s.on)))
      (releases_at_hook a o above lv granted down (matched (Above o) matches) spent)
      (λ lim. (
        subst (λ z. is_open (gate_of (head_before s z)) ≡ true) (root_here lv) (ap is_open opens),
        subst (λ z. is_open (gate_of (head_after a z)) ≡ false) (root_here lv) (ap is_open releasing),
      ))
      refl shift (none_plain K))
      (λ ne.
      let low = level_low s in
      let lt : v.level < levels = omega arith in
      steps_by (moves_to (Above o)) (asks_status (leaves_behind v v.level o) (suc v.level)) false P e
      (ap (λ z. gives_up z v v.level o []) (ap is_none (el_up s.on v.level lt))
      ∙ ap (λ z. record { view = asks_status (leaves_behind v v.level o) z; events = []; waits = false }) (plus_one v.level))
      (releases_above a o above lt opens releasing granted down (matched (Above o) matches) spent)
      (λ lim. top_other lt) refl shift (none_plain K))
      (same_or_not v.level levels)

  -- ONE WHOSE LEAVE HAS ENDED at its level
  ends : (es : List Event) → turn ≡ record { phase = Idle; events = es; waits = false } →
      (is_some B ≡ true → gate_of (head_after a Q) ≡ gate_of (head_before s Q)) →
      granted_in (head_after a Q) ≡ granted_in (head_before s Q) → standing_of p ≡ standing.Leaving → Plain K es → Goal turn
  ends es e gate granted st plain = by v.level refl where
    left : (turn_of a).phase ≡ Idle
    left = ap (λ z. z.phase) (turn_is ∙ e)

    above : (q : ℕ) → (tree_of K).parent Q ≡ Some q → gate_of (head_after a Q) ≡ gate_of (head_before s Q)
    above q up = gate (s.on.well.budgeted Q q (queue_there s) up)

    by : (n : ℕ) → v.level ≡ n → Goal turn
    by zero lv =
        steps_by (record { phase = Idle; events = es; waits = false }) (at_level v 0 Idle) false P e (ap (λ z. goes_down v z es) lv)
        (ends_leaf a left lv above granted) (λ lim. top_same (gate (limited lim))) refl
        (subst (λ z. Shift v.rank z standing.Out []) (sym st) refl) plain
    by (suc j) lv =
        let low = level_low s in
        let o : Option ℕ = behind_at v.behind j in
        steps_by (record { phase = Idle; events = es; waits = false }) (at_level v j (below_phase a j)) false (gone_on a j) e
        (ap (λ z. goes_down v z es) lv) (ends_above a j left lv above granted (ap way_at x.at ∙ ap way_by st))
        (λ lim. subst (λ z. GateMoves z (below_phase a j) was_open (root_open K W (gone_on a j) Z)) (sym (resume_unhooked o))
        (ap (λ z. is_open (gate_of z)) (head_put K W P Z (el s.on j) (me s.on j) (below_phase a j) 0 (not_root s.on j (omega arith)))
        ∙ top_same (gate (limited lim))))
        (resume_entry o v.rank)
        (subst (λ z. Shift v.rank z (standing_of (below_phase a j)) []) (sym st)
        (subst (λ z. Shift v.rank standing.Leaving z []) (sym (resume_standing o)) refl)) plain

  -- ONE THAT IS PASSED TO at its level settles below, and enters
  passes : (left : ℕ) → p ≡ Wait → turn ≡ moves_to (Granted left) → is_pass status ≡ true → Goal turn
  passes left waits e by_pass =
      let n = inside_granted (tree_of K) v v.level left in
      let low = level_low s in
      let passed : (turn_of a).phase ≡ Granted left = ap (λ z. z.phase) (turn_is ∙ e) in
      let now = settled_leaf s.on P v.level left low (put_here g.phase Q N (turn_of a).phase ∙ passed) in
      let k = passed_climbs a (x.at ∙ waits) left passed by_pass (Granted n.0) (now ∙ n.1) tt in
      subst Goal (sym e)
      (subst (Steps K levels s W)
      (sym (ap (λ z. record { view = at_level v 0 z; events = settles_below (tree_of K) v v.level; waits = false }) n.1))
      (record {
        good = record {
          phase = settled s.on P v.level;
          line = Z;
          ended = g.ended;
          by = subst (λ z. IsGoodBy K levels (settled s.on P v.level) Z g.ended W (slice_set s.views v.rank (at_level v 0 (Granted n.0)))
              (z ++ settles_below (tree_of K) v v.level)) (ap (λ z. s.trace ++ z.events) (turn_is ∙ e) ∙ append-nil s.trace) k;
        };
        moves = λ lim. ap (λ z. is_open (gate_of z)) (settled_off s.on W P Z v.level 0 (λ i c. not_root s.on i (omega arith)))
            ∙ top_same (gate_same a (x.at ∙ waits) left passed by_pass);
        fits = enters_fit s.on v.level n.0 (omega arith)
            (ap (λ z. standing_by z v.phase) a.no_query ∙ ap standing_of (x.at ∙ waits));
      }))

module _ {K : Rooted} {levels : ℕ} where
  -- a swing
  swing_learns : (guess : ℕ) (x : Acting K levels (Swing guess)) → Goal x (turn x)
  swing_learns guess x =
      ⊎_elim
      (λ q.
      let won : turn x ≡ moves_with (joined_at guess) (event.Join (Q x) (N x)) =
      ap (λ z. if z then moves_with (joined_at guess) (event.Join (Q x) (N x)) else moves_to (Swing (finds x.acts))) q.0 in
      ⊎_elim
      (λ z.
      let e : turn x ≡ moves_with Settle (event.Join (Q x) (N x)) =
      won ∙ ap (λ y. moves_with (if y then Settle else Link guess) (event.Join (Q x) (N x))) z.0 in
      let h = heads x Settle (ap (λ y. y.phase) e) in
      arrives x (event.Join (Q x) (N x) ∷ []) e (ap gate_of h.0) (ap gate_of h.1.1) (ap granted_in h.1.1 ∙ sym (ap granted_in h.0))
      (swing_settles guess) refl (join_plain x))
      (λ ne.
      stays x (moves_with (Link guess) (event.Join (Q x) (N x)))
      (won ∙ ap (λ y. moves_with (if y then Settle else Link guess) (event.Join (Q x) (N x))) ne.0)
      (stays_link (B x) guess guess) refl refl (join_plain x))
      (eqb_tells guess 0))
      (λ q. quiet x (Swing (finds x.acts)) false
      (ap (λ z. if z then moves_with (joined_at guess) (event.Join (Q x) (N x)) else moves_to (Swing (finds x.acts))) q.0)
      (stays_swing (B x) guess (finds x.acts)) refl refl)
      (eqb_tells (finds x.acts) guess)

  -- a load of the status
  wait_learns : (x : Acting K levels Wait) → Goal x (turn x)
  wait_learns x = by (status x) refl where
    load : Load (status_word (names_in K (Q x)) (N x)) ≡ x.acts.act
    load = same_Some _ _ (sym (ap (λ z. plan_at (names_in K (Q x)) (N x) z) x.at) ∙ x.acts.planned)

    by : (n : ℕ) → status x ≡ n → Goal x (turn x)
    by n is = at n is
        (ap (turn_at (names_in K (Q x)) (N x) Wait) (sym (ap (λ c. told c (slice_index x.acts.stands.words (word_of c))) load) ∙ is)) where
          at : (n : ℕ) → status x ≡ n → turn x ≡ turn_at (names_in K (Q x)) (N x) Wait n → Goal x (turn x)
          at zero is e = quiet x Wait true e (stays_wait (B x)) refl refl
          at (suc zero) is e =
              let h = heads x Settle (ap (λ y. y.phase) e) in
              arrives x [] e (ap gate_of h.0 ∙ ap open_if (pass_pos (status x) is)) (ap gate_of h.1)
              (ap granted_in h.1 ∙ sym (ap granted_in h.0)) wait_settles refl (none_plain K)
          at (suc (suc k)) is e =
              passes x (code_left (B x) (suc (suc k))) refl (e ∙ wait_turn (names_in K (Q x)) (N x) k) (ap is_pass is)

  -- a look at the next word
  gives_by : (left : ℕ) (x : Acting K levels (Look left true)) (o : Option ℕ) → is_some (B x) ≡ true → turn x ≡ moves_to (Above o) →
      Goal x (turn x)
  gives_by left x o above e =
      let h = heads x (Above o) (ap (λ y. y.phase) e) in
      gives x o e (ap gate_of h.0) (ap gate_of h.1) (ap granted_in h.1 ∙ sym (ap granted_in h.0)) (look_above left true o)
      (subst (λ z. Spent z (Above o)) (sym above) tt) refl

  hands_by : (left : ℕ) (x : Acting K levels (Look left true)) (o : ℕ) → left ≢ 0 → turn x ≡ moves_to (Hand o left) → Goal x (turn x)
  hands_by zero x o ne e = absurd (ne refl)
  hands_by (suc n) x o ne e = quiet x (Hand o (suc n)) false e (stays_pass (B x) n o) refl refl

  look_learns : (left : ℕ) (u : Bool) (x : Acting K levels (Look left u)) → Goal x (turn x)
  look_learns left true x = by (is_some (B x)) refl (spent_is x) where
    got : ℕ
    got = finds x.acts

    by : (b : Bool) → is_some (B x) ≡ b → Spent (is_some (B x)) (Look left true) → Goal x (turn x)
    by false above spent = let bad : true ≡ false = subst (λ z. Spent z (Look left true)) above spent in cc
    by true above spent =
        ⊎_elim
        (λ z. gives_by left x None above
        (ap (λ y. moves_to (if y then Above None else if left == 0 then Above (Some (got - 1)) else Hand (got - 1) left)) z.0))
        (λ z.
        let e1 : turn x ≡ moves_to (if left == 0 then Above (Some (got - 1)) else Hand (got - 1) left) =
        ap (λ y. moves_to (if y then Above None else if left == 0 then Above (Some (got - 1)) else Hand (got - 1) left)) z.0 in
        ⊎_elim
        (λ y. gives_by left x (Some (got - 1)) above (e1 ∙ ap (λ c. moves_to (if c then Above (Some (got - 1)) else Hand (got - 1) left)) y.0))
        (λ y. hands_by left x (got - 1) y.1 (e1 ∙ ap (λ c. moves_to (if c then Above (Some (got - 1)) else Hand (got - 1) left)) y.0))
        (eqb_tells left 0))
        (eqb_tells got 0)
  look_learns left false x = by (is_some (B x)) refl (spent_is x) where
    got : ℕ
    got = finds x.acts

    by : (b : Bool) → is_some (B x) ≡ b → Spent (is_some (B x)) (Look left false) → Goal x (turn x)
    by true above spent = let bad : false ≡ true = subst (λ z. Spent z (Look left false)) above spent in cc
    by false above spent =
        let none : B x ≡ None = none_above (B x) above in
        ⊎_elim
        (λ z. quiet x (Close left) false (ap (λ y. moves_to (if y then Close left else Hand (got - 1) left)) z.0)
        (subst (λ y. Stays y (Look left false) (Close left)) (sym none) (stays_flat_close left)) refl refl)
        (λ z. quiet x (Hand (got - 1) left) false (ap (λ y. moves_to (if y then Close left else Hand (got - 1) left)) z.0)
        (subst (λ y. Stays y (Look left false) (Hand (got - 1) left)) (sym none) (stays_flat_hand left (got - 1))) refl refl)
        (eqb_tells got 0)

  -- the rest of a leave
  close_learns : (left : ℕ) (x : Acting K levels (Close left)) → Goal x (turn x)
  close_learns left x =
      ⊎_elim
      (λ z.
      let e : turn x ≡ moves_to Idle = ap (λ y. if y then moves_to Idle else moves_to (Await left)) z.0 in
      let h = heads x Idle (ap (λ y. y.phase) e) in
      ends x [] e (λ lim. ap gate_of h.1 ∙ sym (ap gate_of h.0)) (ap granted_in h.1 ∙ sym (ap granted_in h.0)) refl (none_plain K))
      (λ z. quiet x (Await left) false (ap (λ y. if y then moves_to Idle else moves_to (Await left)) z.0)
      (stays_close (B x) left (spent_is x)) refl refl)
      (eqb_tells (finds x.acts) (N x + 1))

  await_learns : (left : ℕ) (x : Acting K levels (Await left)) → Goal x (turn x)
  await_learns left x =
      let got : ℕ = finds x.acts in
      ⊎_elim
      (λ z. quiet x (Await left) true (ap (λ y. if y then waits_at (Await left) else moves_to (Hand (got - 1) left)) z.0)
      (stays_await (B x) left (spent_is x)) refl refl)
      (λ z. quiet x (Hand (got - 1) left) false (ap (λ y. if y then waits_at (Await left) else moves_to (Hand (got - 1) left)) z.0)
      (stays_hand (B x) left (got - 1) (spent_is x)) refl refl)
      (eqb_tells got 0)

  hand_learns : (succ left : ℕ) (x : Acting K levels (Hand succ left)) → Goal x (turn x)
  hand_learns succ left x =
      let s = x.acts.stands in
      let k = hand_phase (Q x) (B x) succ left in
      let e : turn x ≡ record { phase = Idle; events = k.0; waits = false } = k.1 in
      let h = heads x Idle (ap (λ y. y.phase) e) in
      let i : InQueue K (Q x) succ = hand_succ (names_in K (Q x)) (InQueue K (Q x)) s.words (s.good.phase (Q x)) (s.good.line (Q x)) s.trace
      (s.good.ended (Q x)) (N x) succ left (s.good.by.queue (Q x) (queue_there s)) (phase_is x) in
      let pass : Plain K (event.Pass (Q x) succ ∷ []) =
      record { holds = refl; order = tt; few = omega arith; names = (is_member K (Q x) succ (queue_there s) i, tt) } in
      ends x k.0 e (λ lim. ap gate_of h.1 ∙ hand_gate (B x) left lim ∙ sym (ap gate_of h.0))
      (ap granted_in h.1 ∙ sym (ap granted_in h.0)) refl
      (⊎_elim (λ q. subst (Plain K) (sym q) (none_plain K)) (λ q. subst (Plain K) (sym q) pass) k.2)

  -- EACH ACT by its phase
  by_phase : (p : Phase) (x : Acting K levels p) → Goal x (turn x)
  by_phase Clear x = quiet x Reset false refl (stays_clear (B x)) refl refl
  by_phase Reset x = quiet x (Swing 0) false refl (stays_reset (B x) 0) refl refl
  by_phase (Swing guess) x = swing_learns guess x
  by_phase (Link guess) x = quiet x Wait false refl (stays_linked (B x) guess) refl refl
  by_phase Wait x = wait_learns x
  by_phase (Look left u) x = look_learns left u x
  by_phase (Close left) x = close_learns left x
  by_phase (Await left) x = await_learns left x
  by_phase (Hand succ left) x = hand_learns succ left x
  by_phase p x =
      let none : None ≡ Some x.acts.act = sym (ap (λ z. plan_at (names_in K (Q x)) (N x) z) x.at) ∙ x.acts.planned in cc

  pub learns : (a : ActsInTree K levels) →
      Steps K levels a.stands (words_after a) (walk_turn (tree_of K) a.stands.on.view a.stands.on.view.level (turn_of a))
  learns a = by_phase a.stands.on.view.phase (record { acts = a; at = refl })
