-- RMA-RW has no dead end: the chosen rank goes on, and where none is urgent all are out.
use Rattle.std.specs.Prelude.{◌≡◌, ℕ, zero, suc, ◌+◌, ◌*◌, ◌<◌, ◌≤◌, ◌==◌, Bool, true, false, if◌then◌else◌, List, slice_get, Some, None, refl, is_some}
use Rattle.std.proofs.Common.{sym, ◌∙◌, ap, inl, inr, ⊎_elim, arith}
use Rattle.std.proofs.lemmas.Option.{same_Some}
use Rattle.rl_word.specs.declared.classes.Mode.{Mode}
use Rattle.rl_word.specs.declared.classes.Mode.TheVariants as mode
use Rattle.rl_step.specs.Lock.{LockState, AllOut, IsHolder}
use Rattle.rl_queue.specs.declared.view.Phase.{Phase}
use Rattle.rl_queue.specs.declared.view.Phase.TheVariants.{Idle, Clear, Reset, Swing, Link, Wait, Settle, Granted, Look, Close, Await, Hand, Above}
use Rattle.rl_queue.specs.Queue.{leave_at}
use Rattle.rl_queue.specs.Urgency.{loaded}
use Rattle.rl_tree.specs.declared.view.TreeView.{TreeView}
use Rattle.rl_tree.specs.declared.rooted.Rooted.{Rooted}
use Rattle.rl_tree.specs.Tree.{tree_plan}
use Rattle.rl_tree.specs.laws.Cases.{standing_by}
use Rattle.rl_tree.specs.Elements.{ranks_in, tree_of}
use Rattle.rl_tree.specs.TreeFacts.{TreeFacts}
use Rattle.rl_tree.specs.laws.TreeLaid.{laid_shaped}
use Rattle.rl_tree.specs.laws.TreeLaws.{tree_facts}
use Rattle.rl_tree.specs.TreeShape.{IsWellShaped, IsTreeLaid, levels_of}
use Rattle.rl_counter.specs.declared.view.Doing.{Doing}
use Rattle.rl_counter.specs.declared.view.Doing.TheVariants.{Nothing, Refused, Reset as ResetOff, Inside, Depart, Put, Count, Compare, TakeOut, TakeOff}
use Rattle.rl_ending.specs.Ending.{LockEnds, CanGoOn}
use Rattle.rl_ending.specs.Guiding.{IsChosen, NoneUrgent, LockGuides}
use Rattle.rl_rw.specs.declared.view.RwView.{RwView}
use Rattle.rl_rw.specs.Rw.{Shared, shared_of, groups, rw_view, asks_for, leaves_at, rw_standing, rw_table}
use Rattle.rl_rw.specs.RwGood.{RwGood}
use Rattle.rl_rw.specs.laws.RwWords.{IsSound}
use Rattle.rl_rw.specs.laws.RwKeeps.{as_tree}
use Rattle.rl_rw.specs.laws.RwLaws.{sound_of}
use Rattle.rl_rw.specs.RwLeft.{far_by, rw_far, fulls, rw_near, rw_left, rw_most}
use Rattle.rl_rw.specs.RwUrgency.{where_some, tree_urgency, urgency_at, rw_urgent}
use Rattle.rl_rw.specs.laws.RwSums.{grows}
use Rattle.rl_rw.specs.laws.RwNear.{near_few}
use Rattle.rl_rw.specs.laws.RwBalance.{NoneAt}
use Rattle.rl_rw.specs.laws.RwGoes.{depart_goes, refused_goes, reset_goes}
use Rattle.rl_rw.specs.laws.RwWriters.{marks_go}
use Rattle.rl_rw.specs.laws.RwClimbs.{climbs_go}
use Rattle.rl_rw.specs.laws.RwReaders.{Quiet, trees_out, readers_go}
use Rattle.rl_rw.specs.laws.Chosen.{chosen_or_none}

one_not_zero : (a b : ℕ) → a ≡ 1 → b ≡ 0 → Some a ≡ Some b → ⊥
one_not_zero a b x y e = let no : a ≡ b = same_Some a b e in absurd (omega arith)

-- as urgent as it can be
unless_some : (b : Bool) → where_some 1 (if b then None else Some 0) ≡ Some 0 → ⊥
unless_some true e = cc
unless_some false e = one_not_zero 1 0 refl refl e

two_not : (k : ℕ) → k < 2 → Some 2 ≡ Some k → ⊥
two_not k lt e = let no : 2 ≡ k = same_Some _ _ e in absurd (omega arith)

-- in the tree only a holder is
tree_holds : (b : Bool) (p : Phase) (w : ℕ) → tree_urgency b p w ≡ Some 0 → IsHolder (standing_by b p)
tree_holds true p w e = absurd (one_not_zero 1 0 refl refl e)
tree_holds false Idle w e = cc
tree_holds false Wait w e = absurd (unless_some (w == 0) e)
tree_holds false (Await left) w e = absurd (unless_some (w == 0) e)
tree_holds false (Granted left) w e = tt
tree_holds false _ w e = absurd (one_not_zero 1 0 refl refl e)

is_few : (k n : ℕ) → k < 8 → Some k ≡ Some n → n < 8
is_few k n lt e = let is : k ≡ n = same_Some k n e in omega arith

zero_few : (n : ℕ) → Some 0 ≡ Some n → n < 8
zero_few n e = is_few 0 n (omega arith) e

one_few : (n : ℕ) → Some 1 ≡ Some n → n < 8
one_few n e = is_few 1 n (omega arith) e

two_few : (n : ℕ) → Some 2 ≡ Some n → n < 8
two_few n e = is_few 2 n (omega arith) e

unless_few : (b : Bool) (n : ℕ) → where_some 1 (if b then None else Some 0) ≡ Some n → n < 8
unless_few true n e = cc
unless_few false n e = one_few n e

tree_few : (b : Bool) (p : Phase) (w n : ℕ) → tree_urgency b p w ≡ Some n → n < 8
tree_few true p w n e = one_few n e
tree_few false Idle w n e = cc
tree_few false Wait w n e = unless_few (w == 0) n e
tree_few false (Await left) w n e = unless_few (w == 0) n e
tree_few false (Granted left) w n e = zero_few n e
tree_few false _ w n e = one_few n e

few_at : (K : Shared) (ws : List ℕ) (p : Doing) (t : TreeView) (n : ℕ) → urgency_at K ws p t ≡ Some n → n < 8
few_at K ws Nothing t n e = tree_few t.query t.phase (loaded ws (tree_plan (tree_of K.rooted) t)) n e
few_at K ws Inside t n e = zero_few n e
few_at K ws Depart t n e = zero_few n e
few_at K ws (Refused a) t n e = zero_few n e
few_at K ws (ResetOff x) t n e = zero_few n e
few_at K ws (Put i) t n e = one_few n e
few_at K ws (Count i) t n e = one_few n e
few_at K ws (Compare i a) t n e = one_few n e
few_at K ws (TakeOut i) t n e = one_few n e
few_at K ws (TakeOff i x) t n e = one_few n e
few_at K ws _ t n e = two_few n e

-- who isn't urgent has no task at the counters
idle_at : (K : Shared) (ws : List ℕ) (p : Doing) (t : TreeView) → urgency_at K ws p t ≡ None → p ≡ Nothing
idle_at K ws Nothing t e = refl
idle_at K ws _ t e = cc

-- what a rank that leaves has before it
leaves_far : (n m : ℕ) (p : Phase) → far_by n (2 * m) false 0 (leave_at p true) ≤ 2 * m + (7 * n + 6)
leaves_far n m (Granted left) = omega arith
leaves_far n m Idle = omega arith
leaves_far n m Clear = omega arith
leaves_far n m Reset = omega arith
leaves_far n m (Swing g) = omega arith
leaves_far n m (Link g) = omega arith
leaves_far n m Wait = omega arith
leaves_far n m Settle = omega arith
leaves_far n m (Look left u) = omega arith
leaves_far n m (Close left) = omega arith
leaves_far n m (Await left) = omega arith
leaves_far n m (Hand k left) = omega arith
leaves_far n m (Above k) = omega arith

leave_far : (K : Shared) (n : ℕ) (t : TreeView) (c : ℕ) (p : Doing) → IsHolder (rw_standing p t) →
    rw_far K n (leaves_at (rw_view t c p) p) ≤ 2 * groups K + (7 * n + 6)
leave_far K n t c Inside h = omega arith
leave_far K n t c Nothing h = leaves_far n (groups K) t.phase
leave_far K n t c _ h = absurd h

ask_far : (K : Shared) (n : ℕ) (v : RwView) (m : Mode) → rw_far K n (asks_for v m) ≤ 2 * groups K + (7 * n + 6)
ask_far K n v mode.Read = omega arith
ask_far K n v mode.Write = omega arith

module _ (K : Shared) (n : ℕ) (F : TreeFacts K.rooted n) (d : IsSound K) (S : IsWellShaped K.rooted n) (some : 0 < K.readers) where
  abbrev Going : LockState RwView → ℕ → Type 0
  Going s r = CanGoOn (rw_table K) (rw_left K n) s r

  -- The three kinds of ranks that go on: one that holds the lock, or goes out of a counter;
  out_goes : (s : LockState RwView) (r : ℕ) (t : TreeView) (c : ℕ) (p : Doing) → RwGood K n s → slice_get s.views r ≡ Some (rw_view t c p) →
      urgency_at K s.words p t ≡ Some 0 → Going s r
  out_goes s r t c Nothing g has e = record {
    view = rw_view t c Nothing;
    has = has;
    way =
        inl (tree_holds t.query t.phase (loaded s.words (tree_plan (tree_of K.rooted) t)) e);
  }
  out_goes s r t c Inside g has e = record { view = rw_view t c Inside; has = has; way = inl tt }
  out_goes s r t c Depart g has e = depart_goes K n F d S s r t c g has
  out_goes s r t c (Refused a) g has e = refused_goes K n F d S s r t c a g has
  out_goes s r t c (ResetOff x) g has e = reset_goes K n F d S s r t c x g has
  out_goes s r t c (Put i) g has e = absurd (one_not_zero 1 0 refl refl e)
  out_goes s r t c (Count i) g has e = absurd (one_not_zero 1 0 refl refl e)
  out_goes s r t c (Compare i a) g has e = absurd (one_not_zero 1 0 refl refl e)
  out_goes s r t c (TakeOut i) g has e = absurd (one_not_zero 1 0 refl refl e)
  out_goes s r t c (TakeOff i x) g has e = absurd (one_not_zero 1 0 refl refl e)
  out_goes s r t c _ g has e = let low : 0 < 2 = omega arith in absurd (two_not 0 low e)

  -- a writer, where nobody does so;
  writer_goes : (s : LockState RwView) (r : ℕ) (t : TreeView) (c : ℕ) (p : Doing) → NoneAt K s 0 → RwGood K n s →
      slice_get s.views r ≡ Some (rw_view t c p) → urgency_at K s.words p t ≡ Some 1 → Going s r
  writer_goes s r t c Nothing none g has e = climbs_go K n F d S s r t c g has e
  writer_goes s r t c (Put i) none g has e = marks_go K n F d S s r t c (Put i) some none g has tt
  writer_goes s r t c (Count i) none g has e = marks_go K n F d S s r t c (Count i) some none g has tt
  writer_goes s r t c (Compare i a) none g has e = marks_go K n F d S s r t c (Compare i a) some none g has tt
  writer_goes s r t c (TakeOut i) none g has e = marks_go K n F d S s r t c (TakeOut i) some none g has tt
  writer_goes s r t c (TakeOff i x) none g has e = marks_go K n F d S s r t c (TakeOff i x) some none g has tt
  writer_goes s r t c Inside none g has e = absurd (one_not_zero 1 0 refl refl (sym e))
  writer_goes s r t c Depart none g has e = absurd (one_not_zero 1 0 refl refl (sym e))
  writer_goes s r t c (Refused a) none g has e = absurd (one_not_zero 1 0 refl refl (sym e))
  writer_goes s r t c (ResetOff x) none g has e = absurd (one_not_zero 1 0 refl refl (sym e))
  writer_goes s r t c _ none g has e = let low : 1 < 2 = omega arith in absurd (two_not 1 low e)

  -- and a reader that asks, where no writer goes on either.
  chosen_goes : (s : LockState RwView) (r : ℕ) → RwGood K n s → IsChosen (rw_urgent K s.words) s.views r → Going s r
  chosen_goes s r g c = by c.urgency c.is_urgent c.least where
    by : (u : ℕ) → rw_urgent K s.words c.view ≡ Some u → ((i : ℕ) (v : RwView) (k : ℕ) → slice_get s.views i ≡ Some v →
        rw_urgent K s.words v ≡ Some k → u ≤ k) → Going s r
    by zero e least = out_goes s r c.view.tree c.view.counter.counter c.view.counter.doing g c.has e
    by (suc zero) e least = writer_goes s r c.view.tree c.view.counter.counter c.view.counter.doing
        (λ i x h a. let le = least i x 0 h a in absurd (omega arith)) g c.has e
    by (suc (suc k)) e least =
        readers_go K n F d S s r c.view.tree c.view.counter.counter c.view.counter.doing k some g
        (record {
          leaving = λ i x h a. let le = least i x 0 h a in absurd (omega arith);
          writing = λ i x h a. let le = least i x 1 h a in
              absurd (omega arith);
        }) c.has e

  -- where none is urgent all are out
  rest_out : (s : LockState RwView) → RwGood K n s → NoneUrgent (rw_urgent K s.words) s.views → AllOut (rw_table K) s
  rest_out s g none r v has =
      let quiet : Quiet K n F d S s = record {
        leaving = λ i x h a. let no : None ≡ Some 0 = sym (none i x h) ∙ a in cc;
        writing =
            λ i x h a. let no : None ≡ Some 1 = sym (none i x h) ∙ a in cc;
      } in
      ap (λ z. rw_standing z v.tree) (idle_at K s.words v.counter.doing v.tree (none r v has))
      ∙ trees_out K n F d S s g quiet r v.tree (as_tree K n F d s r v has)

  pub rw_ends : LockEnds (rw_table K) (rw_left K n) (RwGood K n) (rw_most K n)
  rw_ends =
      record {
        somebody = λ s g. ⊎_elim (λ none. inl (rest_out s g none)) (λ c. inr (c.0, chosen_goes s c.0 g c.1)) (chosen_or_none (rw_urgent K s.words) s.views);
        ask_adds = λ s r v m g has out.
            grows 8 (rw_far K n) (rw_near K s.words) (fulls K s.words (groups K)) s.views (ranks_in K.rooted) r
            (2 * groups K + (7 * n + 6)) 8 v (asks_for v m) g.all_views has (ask_far K n v m)
            (near_few K s.words (asks_for v m).counter.counter (asks_for v m).counter.doing (asks_for v m).tree);
        leave_adds = λ s r v g has holds.
            grows 8 (rw_far K n) (rw_near K s.words) (fulls K s.words (groups K)) s.views (ranks_in K.rooted) r
            (2 * groups K + (7 * n + 6)) 8 v (leaves_at v v.counter.doing) g.all_views has
            (leave_far K n v.tree v.counter.counter v.counter.doing holds)
            (near_few K s.words (leaves_at v v.counter.doing).counter.counter (leaves_at v v.counter.doing).counter.doing (leaves_at v v.counter.doing).tree);
      }

  pub rw_guides : LockGuides (rw_table K) (rw_left K n) (RwGood K n) (rw_urgent K)
  rw_guides =
      record {
        few = λ ws v k e. few_at K ws v.counter.doing v.tree k e;
        goes = λ s r g c. chosen_goes s r g c;
        rest = λ s g none. rest_out s g none;
      }

-- so it is with the lock that was made: at least one reader may come to a counter
pub ends_of : (rooted : Rooted) (readers group : ℕ) → IsTreeLaid rooted (levels_of rooted.shape) → is_some rooted.root ≡ true →
    readers ≤ 1000 → 0 < group → 0 < readers →
    LockEnds (rw_table (shared_of rooted readers group)) (rw_left (shared_of rooted readers group) (levels_of rooted.shape))
    (RwGood (shared_of rooted readers group) (levels_of rooted.shape))
    (rw_most (shared_of rooted readers group) (levels_of rooted.shape))
ends_of rooted readers group laid limited few grouped some =
    let S : IsWellShaped rooted (levels_of rooted.shape) = laid_shaped rooted (levels_of rooted.shape) laid in
    rw_ends (shared_of rooted readers group) (levels_of rooted.shape) (tree_facts rooted (levels_of rooted.shape) S) (sound_of (shared_of rooted readers group) (levels_of rooted.shape) S limited few grouped) S some

pub guides_of : (rooted : Rooted) (readers group : ℕ) → IsTreeLaid rooted (levels_of rooted.shape) → is_some rooted.root ≡ true →
    readers ≤ 1000 → 0 < group → 0 < readers →
    LockGuides (rw_table (shared_of rooted readers group)) (rw_left (shared_of rooted readers group) (levels_of rooted.shape))
    (RwGood (shared_of rooted readers group) (levels_of rooted.shape)) (rw_urgent (shared_of rooted readers group))
guides_of rooted readers group laid limited few grouped some =
    let S : IsWellShaped rooted (levels_of rooted.shape) = laid_shaped rooted (levels_of rooted.shape) laid in
    rw_guides (shared_of rooted readers group) (levels_of rooted.shape) (tree_facts rooted (levels_of rooted.shape) S) (sound_of (shared_of rooted readers group) (levels_of rooted.shape) S limited few grouped) S some
