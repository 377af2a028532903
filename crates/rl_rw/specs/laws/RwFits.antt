-- What the laws ask of what a rank of RMA-RW learns: its standing, its events, that its acts are lawful, and what one rank alone finds.
use Rattle.std.specs.Prelude.{◌%◌, ◌≡◌, ℕ, ◌+◌, ◌-◌, ◌*◌, ◌/◌, ◌^◌, ◌<◌, ◌≤◌, ◌==◌, ◌&&◌, Bool, true, false, List, [], ◌∷◌, ◌++◌, length, nat_lt, if◌then◌else◌, slice_get, slice_index, Some, None, refl, ◌↔◌}
use Rattle.std.proofs.Common.{⊎_elim, sym, ◌∙◌, ap, subst, arith}
use Rattle.std.proofs.lemmas.Bool.Decides.{nat_tests}
use Rattle.std.proofs.lemmas.List.{append-nil}
use Rattle.std.proofs.lemmas.Option.{same_Some}
use Rattle.rl_word.specs.declared.acts.Act.{Act}
use Rattle.rl_word.specs.declared.acts.Act.TheVariants.{Load, CardSwap, CardAdd}
use Rattle.rl_word.specs.Acts.{word_of, told, IsAllowed, IsLawful}
use Rattle.rl_word.specs.declared.classes.Class.TheVariants as class
use Rattle.rl_word.specs.Shapes.{layout_of}
use Rattle.rl_step.specs.declared.events.Event.{Event}
use Rattle.rl_step.specs.declared.events.Event.TheVariants as event
use Rattle.rl_step.specs.declared.events.Standing.TheVariants as standing
use Rattle.rl_step.specs.declared.events.Standing.{Standing}
use Rattle.rl_step.specs.Lock.{LockState, Told, found, Shift, holds_only, InOrder, AllNamed, Rests, no_local}
use Rattle.rl_queue.specs.declared.view.Phase.{Phase}
use Rattle.rl_queue.specs.declared.view.Phase.TheVariants.{Settle}
use Rattle.rl_queue.specs.laws.Choices.{choose}
use Rattle.rl_tree.specs.declared.view.TreeView.{TreeView}
use Rattle.rl_tree.specs.Tree.{at_hook, tree_standing, entry_if, hook_by}
use Rattle.rl_tree.specs.laws.Cases.{standing_by}
use Rattle.rl_tree.specs.Elements.{ranks_in, tree_of, how_many, tree_spot, queues_from}
use Rattle.rl_tree.specs.TreeGood.{GoodAt, IsAbove}
use Rattle.rl_tree.specs.laws.TreeStandings.{hook_cases, above_is, rests_at as tree_rests}
use Rattle.rl_tree.specs.TreeFacts.{LearnFits, TreeFacts, all_events, learnt_in, resumed_in}
use Rattle.rl_counter.specs.declared.view.Doing.{Doing}
use Rattle.rl_counter.specs.declared.view.Doing.TheVariants.{Nothing, Arrive, Refused, SeeTail, Swap, Reset as ResetOff, Round, RoundTail, Inside, Depart, Put, Count, Compare, TakeOut, TakeOff}
use Rattle.rl_counter.specs.CounterGood.{IsMark}
use Rattle.rl_counter.specs.Counter.{CounterTurn, arrive_word, busy, depart_word, off, to}
use Rattle.rl_rw.specs.declared.view.RwView.{RwView}
use Rattle.rl_rw.specs.Rw.{Shared, groups, behind_tree, counters_of, rw_view, plan_of, hooks, from_tree, after_hook, from_counter, rw_learn, rw_standing, rw_spot}
use Rattle.rl_rw.specs.RwGood.{trees, Place, RwGood}
use Rattle.rl_rw.specs.laws.RwRows.{marks_hook, out_plans_not}
use Rattle.rl_rw.specs.laws.RwWords.{IsSound, group_there, arrive_is, depart_is, group_first}
use Rattle.rl_rw.specs.laws.RwKeeps.{by_bool, is_there, is_named, acts_in, viewed}

-- what the laws ask of a rank that stood so and learns u
pub record RwFits (K : Shared) (r : ℕ) (st : Standing) (u : Told RwView) : Type 0 where
  pub shift : Shift r st (rw_standing u.view.counter.doing u.view.tree) (holds_only u.events)
  pub order : InOrder u.events
  pub few : length u.events ≤ 8
  pub names : AllNamed (queues_from K.rooted 0 (how_many K.rooted)) (λ c. false) u.events

-- no event, or a reader's entry
no_events : (K : Shared) (r : ℕ) (st : Standing) (v : RwView) (w : Bool) → Shift r st (rw_standing v.counter.doing v.tree) [] →
    RwFits K r st (record { view = v; events = []; waits = w })
no_events K r st v w h = record { shift = h; order = tt; few = omega arith; names = tt }

-- who is at the hook doesn't enter, and stands as its task does
hook_enters : (q : Bool) (p : Phase) (m : ℕ) → hook_by q p ≡ true → entry_if q p m ≡ []
hook_enters q p m e =
    let c = hook_cases q p e in
    ap (λ z. entry_if z p m) c.0 ∙ ⊎_elim (λ s. ap (λ z. entry_if false z m) s) (λ a. let k = above_is p a in ap (λ z. entry_if false z m) k.1) c.1

hook_stands : (x : TreeView) (q : Bool) (p : Phase) → hook_by q p ≡ true → rw_standing (hooks p) x ≡ standing_by q p
hook_stands x q p e =
    let c = hook_cases q p e in
    let same : rw_standing (hooks p) x ≡ standing_by false p = ⊎_elim
    (λ s. ap (λ z. rw_standing (hooks z) x) s ∙ sym (ap (standing_by false) s))
    (λ a. let k = above_is p a in ap (λ z. rw_standing (hooks z) x) k.1 ∙ sym (ap (standing_by false) k.1)) c.1 in
    same ∙ sym (ap (λ z. standing_by z p) c.0)

above_leaves : (p : Phase) → IsAbove p → standing_by false p ≡ standing.Leaving
above_leaves p h = let k = above_is p h in ap (standing_by false) k.1

-- the tree's part fits
tree_fits_off : (K : Shared) (r c : ℕ) (v : RwView) (t : TreeView) (u : Told TreeView) → LearnFits K.rooted r t u →
    RwFits K r (tree_standing t) (from_tree v false u)
tree_fits_off K r c v t u f = let few : length (all_events u) ≤ 5 = f.few in record { shift = f.shift; order = f.order; few = omega arith; names = f.names }

tree_fits_on : (K : Shared) (r c : ℕ) (v : RwView) (t : TreeView) (u : Told TreeView) → at_hook u.view ≡ true → LearnFits K.rooted r t u →
    RwFits K r (tree_standing t) (from_tree v true u)
tree_fits_on K r c v t u e f =
    let same : all_events u ≡ u.events = ap (λ z. u.events ++ z) (hook_enters u.view.query u.view.phase u.view.rank e) ∙ append-nil u.events in
    let few : length u.events ≤ 5 = subst (λ z. length z ≤ 5) same f.few in
    record {
      shift = subst (λ z. Shift r (tree_standing t) z (holds_only u.events)) (sym (hook_stands u.view u.view.query u.view.phase e))
          (subst (λ z. Shift r (tree_standing t) (tree_standing u.view) (holds_only z)) same f.shift);
      order = subst InOrder same f.order;
      few = omega arith;
      names = subst (AllNamed (queues_from K.rooted 0 (how_many K.rooted)) (λ c. false)) same f.names;
    }

-- no act is planned exactly where a rank is out or holds the lock
pub rests_at : (K : Shared) (t : TreeView) (c : ℕ) (p : Doing) → Place (groups K) p t → (plan_of K (rw_view t c p) (busy p) ≡ None) ↔ Rests (rw_standing p t)
rests_at K t c Nothing h = tree_rests (tree_of K.rooted) t t.query h
rests_at K t c Inside h = (λ e. tt, λ x. out_plans_not (tree_of K.rooted) t h)
rests_at K t c _ h = (λ e. cc, λ x. absurd x)

-- Where the words of the lock live, and of which class they are.
spot_low : (K : Shared) (w : ℕ) → w < behind_tree K → rw_spot K w ≡ tree_spot K.rooted w
spot_low K w lt = let k : nat_lt w (behind_tree K) ≡ true = grind (arith, nat_tests) in
    ap (λ z. if z then tree_spot K.rooted w else record {
      class = class.Card;
      home = slice_index K.rooted.shape.node_of
          (((w - behind_tree K) / 2) * K.group);
    }) k

pub spot_behind : (K : Shared) (w : ℕ) → behind_tree K ≤ w → rw_spot K w ≡
    record { class = class.Card; home = slice_index K.rooted.shape.node_of (((w - behind_tree K) / 2) * K.group) }
spot_behind K w le =
    let k : nat_lt w (behind_tree K) ≡ false = grind (arith, nat_tests) in
    ap (λ z. if z then tree_spot K.rooted w else record {
      class = class.Card;
      home = slice_index K.rooted.shape.node_of
          (((w - behind_tree K) / 2) * K.group);
    }) k

spot_high : (K : Shared) (w : ℕ) → behind_tree K ≤ w → ((rw_spot K w).class ≡ class.Card) ×
    ((rw_spot K w).home ≡ slice_index K.rooted.shape.node_of (((w - behind_tree K) / 2) * K.group))
spot_high K w le = let e = spot_behind K w le in (ap (λ z. z.class) e, ap (λ z. z.home) e)

module _ (K : Shared) (levels : ℕ) (F : TreeFacts K.rooted levels) (d : IsSound K) where
  abbrev Good : Bool → List ℕ → List TreeView → List Event → Type 0
  Good = GoodAt K.rooted levels

  pub home_at : (w : ℕ) → w < behind_tree K + 2 * groups K → (rw_spot K w).home < K.rooted.shape.nodes
  home_at w lt = by_bool (λ b. nat_lt w (behind_tree K) ≡ b → (rw_spot K w).home < K.rooted.shape.nodes) (nat_lt w (behind_tree K))
      (λ e0 e. let low : w < behind_tree K = grind (arith, nat_tests) in subst (λ z. z.home < K.rooted.shape.nodes) (sym (spot_low K w low)) (F.homes w low))
      (λ e0 e.
      let high : behind_tree K ≤ w = grind (arith, nat_tests) in
      let g : (w - behind_tree K) / 2 < groups K = omega arith in
      let first : ((w - behind_tree K) / 2) * K.group < ranks_in K.rooted = group_first K ((w - behind_tree K) / 2) d g in
      subst (λ z. z < K.rooted.shape.nodes) (sym (spot_high K w high).1) (d.seated (((w - behind_tree K) / 2) * K.group) first)) refl

  abbrev pub MayMake : ℕ → Act → Type 0
  MayMake r a = IsLawful (behind_tree K + 2 * groups K) (rw_spot K) (layout_of K.rooted.shape) r a × (no_local r a ≡ true)

  lawful_add : (r w x : ℕ) → behind_tree K ≤ w → w < behind_tree K + 2 * groups K → MayMake r (CardAdd w x)
  lawful_add r w x high lt = (record { there = lt; homed = home_at w lt; allowed = (spot_high K w high).0 }, refl)

  lawful_swap : (r w x : ℕ) → behind_tree K ≤ w → w < behind_tree K + 2 * groups K → MayMake r (CardSwap w x)
  lawful_swap r w x high lt = (record { there = lt; homed = home_at w lt; allowed = (spot_high K w high).0 }, refl)

  lawful_load : (r w : ℕ) → w < behind_tree K + 2 * groups K → MayMake r (Load w)
  lawful_load r w lt = (record { there = lt; homed = home_at w lt; allowed = tt }, refl)

  lawful_arrive : (r g x : ℕ) → g < groups K → MayMake r (CardAdd (arrive_word (counters_of K) g) x)
  lawful_arrive r g x lt = let e = arrive_is K g lt in lawful_add r (arrive_word (counters_of K) g) x (omega arith) (omega arith)

  lawful_depart : (r g : ℕ) → g < groups K → MayMake r (CardSwap (depart_word (counters_of K) g) 0)
  lawful_depart r g lt = let e = depart_is K g lt in lawful_swap r (depart_word (counters_of K) g) 0 (omega arith) (omega arith)

  pub lawful_at : (s : LockState RwView) (r : ℕ) (t : TreeView) (c : ℕ) (p : Doing) (a : Act) → RwGood K levels s →
      slice_get s.views r ≡ Some (rw_view t c p) → plan_of K (rw_view t c p) (busy p) ≡ Some a → MayMake r a
  lawful_at s r t c p a g has pl =
      let own : c ≡ r / K.group = g.own r (rw_view t c p) has in
      let lc : c < groups K = subst (λ z. z < groups K) (sym own) (group_there K r d (is_there K levels F d s r (rw_view t c p) g has)) in
      by p has pl lc where
        by : (p : Doing) → slice_get s.views r ≡ Some (rw_view t c p) → plan_of K (rw_view t c p) (busy p) ≡ Some a → c < groups K → MayMake r a
        by Nothing has pl lc =
            let k = F.lawful g.inside s.words (trees s.views) s.trace r t a (acts_in K levels F d s r t c a g has pl) in
            let low : word_of a < behind_tree K = k.0.there in
            let same = spot_low K (word_of a) low in (
              record {
                there = omega arith;
                homed = subst (λ z. z.home < K.rooted.shape.nodes) (sym same) k.0.homed;
                allowed = subst (λ z. IsAllowed K.rooted.shape.node_of r z a) (sym same) k.0.allowed;
              },
              k.1,
            )
        by Inside has pl lc = let no : None ≡ Some a = sym (out_plans_not (tree_of K.rooted) t (g.place r (rw_view t c Inside) has)) ∙ pl in cc
        by Arrive has pl lc = subst (MayMake r) (same_Some _ _ pl) (lawful_arrive r c 1 lc)
        by (Refused y) has pl lc = subst (MayMake r) (same_Some _ _ pl) (lawful_arrive r c (off 1) lc)
        by (SeeTail y) has pl lc = subst (MayMake r) (same_Some _ _ pl) (lawful_load r 0 (omega arith))
        by Swap has pl lc = subst (MayMake r) (same_Some _ _ pl) (lawful_depart r c lc)
        by (ResetOff y) has pl lc = subst (MayMake r) (same_Some _ _ pl) (lawful_arrive r c (off y) lc)
        by Round has pl lc = subst (MayMake r) (same_Some _ _ pl) (let e = arrive_is K c lc in lawful_load r (arrive_word (counters_of K) c) (omega arith))
        by (RoundTail y) has pl lc = subst (MayMake r) (same_Some _ _ pl) (lawful_load r 0 (omega arith))
        by Depart has pl lc = subst (MayMake r) (same_Some _ _ pl)
            (let e = depart_is K c lc in lawful_add r (depart_word (counters_of K) c) 1 (omega arith) (omega arith))
        by (Put i) has pl lc = subst (MayMake r) (same_Some _ _ pl) (lawful_arrive r i (2 ^ 32) (g.place r (rw_view t c (Put i)) has).2)
        by (Count i) has pl lc = subst (MayMake r) (same_Some _ _ pl)
            (let li = (g.place r (rw_view t c (Count i)) has).2 in let e = arrive_is K i li in
            lawful_load r (arrive_word (counters_of K) i) (omega arith))
        by (Compare i y) has pl lc = subst (MayMake r) (same_Some _ _ pl)
            (let li = (g.place r (rw_view t c (Compare i y)) has).2 in let e = depart_is K i li in
            lawful_load r (depart_word (counters_of K) i) (omega arith))
        by (TakeOut i) has pl lc = subst (MayMake r) (same_Some _ _ pl) (lawful_depart r i (g.place r (rw_view t c (TakeOut i)) has).2)
        by (TakeOff i y) has pl lc = subst (MayMake r) (same_Some _ _ pl)
            (lawful_arrive r i (off ((2 ^ 32 + y) % 2 ^ 64)) (g.place r (rw_view t c (TakeOff i y)) has).2)

  -- what the last act of a task at the marks leaves, which lets the tree go on
  end_fits : (s : LockState RwView) (r : ℕ) (t : TreeView) (c : ℕ) (p : Doing) (st : Standing) → RwGood K levels s →
      slice_get s.views r ≡ Some (rw_view t c p) → IsMark p → tree_standing t ≡ st → RwFits K r st (after_hook K (rw_view t c p))
  end_fits s r t c p st g has mp e =
      let hook : at_hook t ≡ true = marks_hook (groups K) p t mp (g.place r (rw_view t c p) has) in
      subst (λ z. RwFits K r z (after_hook K (rw_view t c p))) e
      (tree_fits_off K r c (rw_view t c p) t (resumed_in K.rooted t)
      (F.goes_on g.inside s.words (trees s.views) s.trace r t (viewed K levels F d s r (rw_view t c p) g has) hook))

  stands_up : (t : TreeView) → t.query ≡ false → t.phase ≡ Settle → tree_standing t ≡ standing.Asking
  stands_up t e f = ap (λ z. standing_by z t.phase) e ∙ ap (standing_by false) f

  stands_out : (t : TreeView) → t.query ≡ false → IsAbove t.phase → tree_standing t ≡ standing.Leaving
  stands_out t e h = ap (λ z. standing_by z t.phase) e ∙ above_leaves t.phase h

  abbrev GoesOn : ℕ → TreeView → ℕ → Doing → CounterTurn → Type 0
  GoesOn r t c p u = RwFits K r (rw_standing p t) (from_counter K (rw_view t c p) p u.doing u.waits)

  -- what each act leaves fits
  pub fits_at : (s : LockState RwView) (r : ℕ) (t : TreeView) (c : ℕ) (p : Doing) (a : Act) → RwGood K levels s →
      slice_get s.views r ≡ Some (rw_view t c p) → plan_of K (rw_view t c p) (busy p) ≡ Some a →
      RwFits K r (rw_standing p t) (rw_learn K (rw_view t c p) (busy p) (told a (found s a)))
  fits_at s r t c Nothing a g has pl =
      let f = F.learns g.inside s.words (trees s.views) s.trace r t a (acts_in K levels F d s r t c a g has pl) in
      let U = learnt_in K.rooted s.words t a in
      by_bool (λ b. RwFits K r (tree_standing t) (from_tree (rw_view t c Nothing) b U)) (at_hook U.view)
      (λ e. tree_fits_on K r c (rw_view t c Nothing) t U e f) (λ e. tree_fits_off K r c (rw_view t c Nothing) t U f)
  fits_at s r t c Inside a g has pl = let no : None ≡ Some a = sym (out_plans_not (tree_of K.rooted) t (g.place r (rw_view t c Inside) has)) ∙ pl in cc
  fits_at s r t c Arrive a g has pl =
      let name : t.rank ≡ r = is_named K levels F d s r (rw_view t c Arrive) g has in
      choose (GoesOn r t c Arrive) (nat_lt (told a (found s a)) K.readers) (to Inside) (to (Refused (told a (found s a))))
      (record { shift = ap (λ z. event.EnterR z ∷ []) name; order = tt; few = omega arith; names = (tt, tt) }) (no_events K r standing.Asking _ false refl)
  fits_at s r t c (SeeTail x) a g has pl = choose (GoesOn r t c (SeeTail x)) ((told a (found s a) == 0) && nat_lt x (2 ^ 32)) (to Swap)
      (to Round) (no_events K r standing.Asking _ false refl) (no_events K r standing.Asking _ false refl)
  fits_at s r t c Round a g has pl = choose (GoesOn r t c Round) (nat_lt (told a (found s a)) K.readers) (to Arrive)
      (to (RoundTail (told a (found s a)))) (no_events K r standing.Asking _ false refl) (no_events K r standing.Asking _ false refl)
  fits_at s r t c (RoundTail x) a g has pl = choose (GoesOn r t c (RoundTail x)) ((told a (found s a) == 0) && nat_lt x (2 ^ 32))
      (to Arrive) (record { doing = Round; waits = true }) (no_events K r standing.Asking _ false refl)
      (no_events K r standing.Asking _ true refl)
  fits_at s r t c Depart a g has pl =
      let out : tree_standing t ≡ standing.Out = g.place r (rw_view t c Depart) has in
      no_events K r standing.Leaving (rw_view t c Nothing) false (subst (λ z. Shift r standing.Leaving z []) (sym out) refl)
  fits_at s r t c (Put i) a g has pl = choose (GoesOn r t c (Put i)) (nat_lt (i + 1) (length (counters_of K).arrive)) (to (Put (i + 1)))
      (to (Count 0)) (no_events K r standing.Asking _ false refl) (no_events K r standing.Asking _ false refl)
  fits_at s r t c (Compare i x) a g has pl =
      let row = g.place r (rw_view t c (Compare i x)) has in
      choose (GoesOn r t c (Compare i x)) (told a (found s a) == x - 2 ^ 32)
      (if nat_lt (i + 1) (length (counters_of K).arrive) then to (Count (i + 1)) else to Nothing)
      (record { doing = Count i; waits = true })
      (choose (GoesOn r t c (Compare i x)) (nat_lt (i + 1) (length (counters_of K).arrive)) (to (Count (i + 1))) (to Nothing)
      (no_events K r standing.Asking _ false refl)
      (end_fits s r t c (Compare i x) standing.Asking g has tt (stands_up t row.0 row.1))) (no_events K r standing.Asking _ true refl)
  fits_at s r t c (TakeOut i) a g has pl = no_events K r standing.Leaving _ false refl
  fits_at s r t c (TakeOff i x) a g has pl =
      let row = g.place r (rw_view t c (TakeOff i x)) has in
      choose (GoesOn r t c (TakeOff i x)) (nat_lt (i + 1) (length (counters_of K).arrive)) (to (TakeOut (i + 1))) (to Nothing)
      (no_events K r standing.Leaving _ false refl)
      (end_fits s r t c (TakeOff i x) standing.Leaving g has tt (stands_out t row.0 row.1))
  fits_at s r t c _ a g has pl = no_events K r standing.Asking _ false refl
