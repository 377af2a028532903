-- Each act keeps a state of RMA-RW good: an act of the tree, of a reader, and of a rank at the marks, the last of which lets the tree go
-- on in the same act.
use Rattle.std.specs.Prelude.{◌≡◌, ◌⊎◌, ◌↔◌, ℕ, ◌+◌, ◌*◌, ◌^◌, ◌<◌, ◌≤◌, ◌==◌, ◌&&◌, Bool, true, false, List, [], ◌∷◌, ◌++◌, length, nat_lt, if◌then◌else◌, slice_get, slice_set, Some, refl}
use Rattle.std.proofs.Common.{sym, ◌∙◌, ap, subst, inl, inr, ⊎_elim, arith, length-set}
use Rattle.std.proofs.lemmas.Bool.Decides.{nat_tests}
use Rattle.std.proofs.lemmas.List.{append-nil, length-map}
use Rattle.std.proofs.lemmas.Option.{slice_get_within}
use Rattle.rl_word.specs.laws.Places.{get_set_same, get_set_other, get_map}
use Rattle.rl_word.specs.declared.classes.Mode.{Mode}
use Rattle.rl_word.specs.declared.classes.Mode.TheVariants as mode
use Rattle.rl_word.specs.declared.acts.Act.{Act}
use Rattle.rl_word.specs.Acts.{word_of, written, told}
use Rattle.rl_step.specs.declared.events.Event.{Event}
use Rattle.rl_step.specs.declared.events.Event.TheVariants as event
use Rattle.rl_step.specs.declared.events.Standing.TheVariants as standing
use Rattle.rl_step.specs.Lock.{LockState, Told, found}
use Rattle.rl_step.specs.Batches.{Batched}
use Rattle.rl_queue.specs.declared.view.Phase.{Phase}
use Rattle.rl_queue.specs.declared.view.Phase.TheVariants.{Settle, Granted}
use Rattle.rl_queue.specs.laws.Choices.{choose}
use Rattle.rl_tree.specs.declared.view.TreeView.{TreeView}
use Rattle.rl_tree.specs.Tree.{at_hook, tree_plan, tree_standing, entry_if}
use Rattle.rl_tree.specs.Elements.{ranks_in, tree_of}
use Rattle.rl_tree.specs.TreeFacts.{GateMoves, HasView, PlansAct, TreeFacts, opens}
use Rattle.rl_tree.specs.TreeGood.{GoodAt, IsAbove}
use Rattle.rl_tree.specs.laws.TreeStandings.{above_is}
use Rattle.rl_counter.specs.declared.view.Doing.{Doing}
use Rattle.rl_counter.specs.declared.view.Doing.TheVariants.{Nothing, Arrive, Refused, SeeTail, Swap, Reset as ResetOff, Round, RoundTail, Inside, Depart, Put, Count, Compare, TakeOut, TakeOff}
use Rattle.rl_counter.specs.laws.CounterLaws.{begins_at_marks}
use Rattle.rl_counter.specs.CounterGood.{GroupGood, IsMark, IsReader, Mark, mark_by}
use Rattle.rl_counter.specs.Counter.{CounterTurn, counter_turn, to}
use Rattle.rl_rw.specs.declared.view.RwView.{RwView}
use Rattle.rl_rw.specs.Rw.{Shared, groups, behind_tree, counters_of, rw_view, hooks, from_counter, mine_of}
use Rattle.rl_rw.specs.RwGood.{trees, doings, Place, Moded, Lonely, RwGood}
use Rattle.rl_rw.specs.laws.RwRows.{marks_hook, out_away, OthersAway}
use Rattle.rl_rw.specs.laws.RwWords.{IsSound, group_there}

-- a reader's row
pub reader_out : (n : ℕ) (p : Doing) (t : TreeView) → IsReader p → Place n p t → tree_standing t ≡ standing.Out
reader_out n Nothing t h x = absurd h
reader_out n Inside t h x = absurd h
reader_out n (Put i) t h x = absurd h
reader_out n (Count i) t h x = absurd h
reader_out n (Compare i a) t h x = absurd h
reader_out n (TakeOut i) t h x = absurd h
reader_out n (TakeOff i y) t h x = absurd h
reader_out n _ t h x = x

pub reader_read : (p : Doing) (t : TreeView) (m : Mode) → IsReader p → Moded p t m → m ≡ mode.Read
reader_read Nothing t m h x = absurd h
reader_read Inside t m h x = absurd h
reader_read (Put i) t m h x = absurd h
reader_read (Count i) t m h x = absurd h
reader_read (Compare i a) t m h x = absurd h
reader_read (TakeOut i) t m h x = absurd h
reader_read (TakeOff i y) t m h x = absurd h
reader_read _ t m h x = x

pub reader_unmarked : (p : Doing) → IsReader p → IsMark p → ⊥
reader_unmarked (Put i) h m = h
reader_unmarked (Count i) h m = h
reader_unmarked (Compare i a) h m = h
reader_unmarked (TakeOut i) h m = h
reader_unmarked (TakeOff i y) h m = h
reader_unmarked _ h m = m

-- a rank at the marks asked to write
pub mark_mode : (p : Doing) (t : TreeView) (m : Mode) → IsMark p → Moded p t m ↔ (m ≡ mode.Write)
mark_mode (Put i) t m h = (λ x. x, λ x. x)
mark_mode (Count i) t m h = (λ x. x, λ x. x)
mark_mode (Compare i a) t m h = (λ x. x, λ x. x)
mark_mode (TakeOut i) t m h = (λ x. x, λ x. x)
mark_mode (TakeOff i y) t m h = (λ x. x, λ x. x)
mark_mode _ t m h = absurd h

-- what holds of both tasks at the hook holds of the one that is begun
pub hooks_all : (P : Doing → Type 0) (p : Phase) → P (Put 0) → P (TakeOut 0) → P (hooks p)
hooks_all P Settle a b = a
hooks_all P _ a b = b

-- what the marks are when a rank begins there is what they were
pub hook_marks : (p : Phase) (o n : Bool) (g : ℕ) → (p ≡ Settle) ⊎ IsAbove p → GateMoves true p o n → mark_by o Nothing g ≡ mark_by n (hooks p) g
hook_marks p o n g h m =
    let from : (b : Bool) (q : Doing) → o ≡ b → hooks p ≡ q → mark_by b Nothing g ≡ mark_by n q g → mark_by o Nothing g ≡ mark_by n (hooks p) g =
    λ b q e k same. ap (λ z. mark_by z Nothing g) e ∙ same ∙ sym (ap (λ z. mark_by n z g) k) in
    ⊎_elim
    (λ e. let shut : (o ≡ false) × (n ≡ false) = subst (λ z. GateMoves true z o n) e m in from false (Put 0) shut.0 (ap hooks e) (begins_at_marks n g).0)
    (λ a.
    let k = above_is p a in
    let inside : (o ≡ true) × (n ≡ false) = subst (λ z. GateMoves true z o n) k.1 m in from true (TakeOut 0) inside.0 (ap hooks k.1) (begins_at_marks n g).1) h

-- one task or the other ends at the hook
pub above_shuts : (p : Phase) → IsAbove p → opens p ≡ false
above_shuts p h = let k = above_is p h in ap opens k.1

pub by_bool : (P : Bool → Type 0) (b : Bool) → (b ≡ true → P true) → (b ≡ false → P false) → P b
by_bool P true f g = f refl
by_bool P false f g = g refl

-- the state after an act of rank r that learnt u
abbrev pub after : LockState RwView → ℕ → Act → Told RwView → LockState RwView
after s r a u =
    record {
      words = slice_set s.words (word_of a) (written a (found s a));
      views = slice_set s.views r u.view;
      modes = s.modes;
      trace = s.trace ++ u.events;
      deeds = s.deeds ++ record { rank = r; act = a; got = told a (found s a); events = u.events } ∷ [];
    }

abbrev pub AllCounters : Shared → List ℕ → List Doing → (ℕ → Mark) → Type 0
AllCounters K ws ps M = (g : ℕ) → g < groups K → GroupGood (counters_of K) (mine_of K g) g ws ps (M g)

abbrev pub AllBatched : Shared → LockState RwView → Type 0
AllBatched K s = (g : ℕ) → g < groups K → Batched (mine_of K g) (behind_tree K + 2 * g) K.readers s.words s.deeds

-- where a reader goes on
abbrev pub QuietEvents : ℕ → List Event → Type 0
QuietEvents m es = (es ≡ []) ⊎ (es ≡ event.EnterR m ∷ [])

abbrev pub ReaderGoes : Shared → TreeView → ℕ → Doing → CounterTurn → Type 0
ReaderGoes K t c p u =
    ((from_counter K (rw_view t c p) p u.doing u.waits).view ≡ rw_view t c u.doing) × Place (groups K) u.doing t × Moded u.doing t mode.Read × (IsMark u.doing → ⊥) × QuietEvents t.rank (from_counter K (rw_view t c p) p u.doing u.waits).events

pub reader_goes : (K : Shared) (t : TreeView) (c : ℕ) (p : Doing) (got : ℕ) → tree_standing t ≡ standing.Out → IsReader p →
    ReaderGoes K t c p (counter_turn (counters_of K) p got)
reader_goes K t c Arrive got out h = choose (ReaderGoes K t c Arrive) (nat_lt got K.readers) (to Inside) (to (Refused got)) (refl, out, refl, λ m. m, inr refl) (refl, out, refl, λ m. m, inl refl)
reader_goes K t c (Refused x) got out h = (refl, out, refl, λ m. m, inl refl)
reader_goes K t c (SeeTail x) got out h = choose (ReaderGoes K t c (SeeTail x)) ((got == 0) && nat_lt x (2 ^ 32)) (to Swap) (to Round) (refl, out, refl, λ m. m, inl refl) (refl, out, refl, λ m. m, inl refl)
reader_goes K t c Swap got out h = (refl, out, refl, λ m. m, inl refl)
reader_goes K t c (ResetOff x) got out h = (refl, out, refl, λ m. m, inl refl)
reader_goes K t c Round got out h = choose (ReaderGoes K t c Round) (nat_lt got K.readers) (to Arrive) (to (RoundTail got)) (refl, out, refl, λ m. m, inl refl) (refl, out, refl, λ m. m, inl refl)
reader_goes K t c (RoundTail x) got out h = choose (ReaderGoes K t c (RoundTail x)) ((got == 0) && nat_lt x (2 ^ 32)) (to Arrive) (record { doing = Round; waits = true }) (refl, out, refl, λ m. m, inl refl) (refl, out, refl, λ m. m, inl refl)
reader_goes K t c Depart got out h = (refl, out_away t out, inl out, λ m. m, inl refl)
reader_goes K t c _ got out h = absurd h

pub both_tests : (x y : ℕ) → x ≡ 0 → y < 2 ^ 32 → ((x == 0) && nat_lt y (2 ^ 32)) ≡ true
both_tests x y e l = let k : nat_lt y (2 ^ 32) ≡ true = grind (arith, nat_tests) in ap (λ z. (z == 0) && nat_lt y (2 ^ 32)) e ∙ k

-- what one rank alone knows as a reader stays true
pub reader_lonely : (K : Shared) (ws us : List ℕ) (p : Doing) (got : ℕ) → IsReader p → Lonely K ws p → (p ≡ Arrive → got < 2 ^ 32) →
    ((x : ℕ) → p ≡ SeeTail x → got ≡ 0) → Lonely K us (counter_turn (counters_of K) p got).doing
reader_lonely K ws us Arrive got h l low tail = choose (λ u. Lonely K us u.doing) (nat_lt got K.readers) (to Inside) (to (Refused got)) tt (low refl)
reader_lonely K ws us (Refused x) got h l low tail = l
reader_lonely K ws us (SeeTail x) got h l low tail = subst (λ z. Lonely K us (if z then to Swap else to Round).doing)
    (sym (both_tests got x (tail x refl) l)) tt
reader_lonely K ws us Swap got h l low tail = tt
reader_lonely K ws us (ResetOff x) got h l low tail = tt
reader_lonely K ws us Round got h l low tail = absurd l
reader_lonely K ws us (RoundTail x) got h l low tail = absurd l
reader_lonely K ws us Depart got h l low tail = tt
reader_lonely K ws us _ got h l low tail = absurd h

module _ (K : Shared) (levels : ℕ) (F : TreeFacts K.rooted levels) (d : IsSound K) where
  abbrev Good : Bool → List ℕ → List TreeView → List Event → Type 0
  Good = GoodAt K.rooted levels

  pub as_tree : (s : LockState RwView) (r : ℕ) (v : RwView) → slice_get s.views r ≡ Some v → slice_get (trees s.views) r ≡ Some v.tree
  as_tree s r v has = get_map (λ x. x.tree) s.views r v has

  pub as_doing : (s : LockState RwView) (r : ℕ) (v : RwView) → slice_get s.views r ≡ Some v → slice_get (doings s.views) r ≡ Some v.counter.doing
  as_doing s r v has = get_map (λ x. x.counter.doing) s.views r v has

  pub all_trees : (s : LockState RwView) → RwGood K levels s → length (trees s.views) ≡ ranks_in K.rooted
  all_trees s g = length-map s.views (λ x. x.tree) ∙ g.all_views

  pub all_doings : (s : LockState RwView) → RwGood K levels s → length (doings s.views) ≤ 32
  all_doings s g = let a = length-map s.views (λ x. x.counter.doing) in let b = g.all_views in let c = d.seats in omega arith

  pub is_there : (s : LockState RwView) (r : ℕ) (v : RwView) → RwGood K levels s → slice_get s.views r ≡ Some v → r < ranks_in K.rooted
  is_there s r v g has = let a = slice_get_within s.views r v has in let b = g.all_views in omega arith

  pub is_named : (s : LockState RwView) (r : ℕ) (v : RwView) → RwGood K levels s → slice_get s.views r ≡ Some v → v.tree.rank ≡ r
  is_named s r v g has = (g.tree.tree.by.own r v.tree (as_tree s r v has)).0

  pub tree_long : (s : LockState RwView) → RwGood K levels s → behind_tree K ≤ length s.words
  tree_long s g = let a = g.all_words in omega arith

  pub some_group : (s : LockState RwView) (r : ℕ) (v : RwView) → RwGood K levels s → slice_get s.views r ≡ Some v → 0 < groups K
  some_group s r v g has = let a = group_there K r d (is_there s r v g has) in omega arith

  -- the tree of a rank, in its good states
  pub viewed : (s : LockState RwView) (r : ℕ) (v : RwView) (g : RwGood K levels s) → slice_get s.views r ≡ Some v →
      HasView K.rooted levels g.inside s.words (trees s.views) s.trace r v.tree
  viewed s r v g has = record { long = tree_long s g; all = all_trees s g; is_good = g.tree; has = as_tree s r v has }

  -- nobody else is at the marks where rank r is at the hook, or comes to it
  pub away_now : (s : LockState RwView) (r : ℕ) (v : RwView) → RwGood K levels s → slice_get s.views r ≡ Some v → at_hook v.tree ≡ true → OthersAway s.views r
  away_now s r v g has hook k y hk ne m =
      ne (F.one_hook g.inside s.words (trees s.views) s.trace k r y.tree v.tree (viewed s k y g hk) (viewed s r v g has)
      (marks_hook (groups K) y.counter.doing y.tree m (g.place k y hk)) hook)

  pub away_then : (s : LockState RwView) (r : ℕ) (v : RwView) (n : Bool) (ws : List ℕ) (x : TreeView) (t : List Event) → RwGood K levels s →
      slice_get s.views r ≡ Some v → behind_tree K ≤ length ws → Good n ws (slice_set (trees s.views) r x) t → at_hook x ≡ true →
      OthersAway s.views r
  away_then s r v n ws x t g has long good hook k y hk ne m =
      let all : length (slice_set (trees s.views) r x) ≡ ranks_in K.rooted = length-set (trees s.views) r x ∙ all_trees s g in
      ne (F.one_hook n ws (slice_set (trees s.views) r x) t k r y.tree x
      (record { long = long; all = all; is_good = good; has = get_set_other (trees s.views) r k x ne ∙ as_tree s k y hk })
      (record { long = long; all = all; is_good = good; has = get_set_same (trees s.views) r v.tree x (as_tree s r v has) })
      (marks_hook (groups K) y.counter.doing y.tree m (g.place k y hk)) hook)

  -- an entry is of no queue
  pub entered : (n : Bool) (ws : List ℕ) (vs : List TreeView) (t : List Event) (q : Bool) (p : Phase) (m : ℕ) → Good n ws vs t →
      Good n ws vs (t ++ entry_if q p m)
  entered n ws vs t true p m g = subst (Good n ws vs) (sym (append-nil t)) g
  entered n ws vs t false (Granted l) m g = F.beside n ws vs t (event.EnterW m) tt g
  entered n ws vs t false _ m g = subst (Good n ws vs) (sym (append-nil t)) g

  -- An act of the tree, with what the tree says of it.
  pub acts_in : (s : LockState RwView) (r : ℕ) (t : TreeView) (c : ℕ) (a : Act) (g : RwGood K levels s) →
      slice_get s.views r ≡ Some (rw_view t c Nothing) → tree_plan (tree_of K.rooted) t ≡ Some a →
      PlansAct K.rooted levels g.inside s.words (trees s.views) s.trace r t a
  acts_in s r t c a g has pl = record { viewed = viewed s r (rw_view t c Nothing) g has; away = g.place r (rw_view t c Nothing) has; planned = pl }
