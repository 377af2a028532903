-- What the code of RMA-RW needs of a good state: that views meet the conditions of the calls of the tree and of the counters, that little
-- is told, and how many words there are.
use Rattle.std.proofs.Common.{◌≡◌, ◌<◌, ◌≤◌, ◌∙◌, sym, subst, ◌+◌, ◌-◌, ◌*◌, ◌/◌, ◌^◌, ◌==◌, ◌&&◌, nat_lt, if◌then◌else◌, arith, ℕ, true, false, length, slice_get, Some}
use Rattle.rl_step.specs.Lock.{LockState, Told, MayStep, MayLearn as StepLearns}
use Rattle.rl_queue.specs.laws.Choices.{choose}
use Rattle.rl_queue.specs.laws.RankWordLaws.{length-every_second}
use Rattle.rl_tree.specs.declared.view.TreeView.{TreeView}
use Rattle.rl_tree.specs.Tree.{tree_learn, tree_resume, at_hook, with_entry}
use Rattle.std.specs.Prelude.{is_some}
use Rattle.rl_tree.specs.Elements.{ranks_in, tree_of}
use Rattle.rl_tree.specs.Fits.{MayPlan, TreeMayLearn}
use Rattle.rl_tree.specs.TreeShape.{IsWellShaped}
use Rattle.rl_tree.specs.TreeFacts.{PlansAct, TreeFacts}
use Rattle.rl_tree.specs.laws.TreeLaws.{tree_facts}
use Rattle.rl_counter.specs.declared.view.Doing.{Doing}
use Rattle.rl_counter.specs.declared.view.Doing.TheVariants.{Nothing, Arrive, Refused, SeeTail, Swap, Round, RoundTail, Inside, Put, Count, Compare, TakeOut, TakeOff}
use Rattle.rl_counter.specs.Counter.{to, busy, counter_turn, counter_at, NamesCounters}
use Rattle.rl_counter.specs.CounterGood.{IsMark}
use Rattle.rl_rw.specs.declared.view.RwView.{RwView}
use Rattle.rl_rw.specs.Rw.{Shared, groups, behind_tree, counters_of, plan_of, rw_table}
use Rattle.rl_rw.specs.Fits.{MayLeaveHook, Ends}
use Rattle.rl_rw.specs.RwGood.{Place, trees, RwGood}
use Rattle.rl_rw.specs.laws.RwRows.{marks_hook, out_away}
use Rattle.rl_rw.specs.laws.RwWords.{IsSound, group_there, group_first, groups_low}
use Rattle.rl_rw.specs.laws.RwKeeps.{is_there, viewed}
use Rattle.rl_rw.specs.laws.RwLaws.{sound_of}

-- the counter at which a rank is, is there
place_at : (n g : ℕ) (p : Doing) (t : TreeView) → g < n → Place n p t → counter_at g p < n
place_at n g (Put i) t lt h = h.2
place_at n g (Count i) t lt h = h.2
place_at n g (Compare i x) t lt h = h.2
place_at n g (TakeOut i) t lt h = h.2
place_at n g (TakeOff i x) t lt h = h.2
place_at n g _ t lt h = lt

-- a rank without a task is away from the hook
idle_away : (n : ℕ) (p : Doing) (t : TreeView) → busy p ≡ false → Place n p t → at_hook t ≡ false
idle_away n Nothing t e h = h
idle_away n Inside t e h = out_away t h
idle_away n _ t e h = cc

-- where a task at the marks ends the tree can go on
ends_at : (K : Shared) (t : TreeView) (p : Doing) (got : ℕ) → busy p ≡ true → (IsMark p → MayLeaveHook K.rooted t) → Ends K.rooted t p (counter_turn (counters_of K) p got).doing
ends_at K t Nothing got b may = cc
ends_at K t Inside got b may = cc
ends_at K t Arrive got b may = choose (λ u. Ends K.rooted t Arrive u.doing) (nat_lt got K.readers) (to Inside) (to (Refused got)) tt tt
ends_at K t (SeeTail x) got b may = choose (λ u. Ends K.rooted t (SeeTail x) u.doing) ((got == 0) && nat_lt x (2 ^ 32)) (to Swap) (to Round) tt tt
ends_at K t Round got b may = choose (λ u. Ends K.rooted t Round u.doing) (nat_lt got K.readers) (to Arrive) (to (RoundTail got)) tt tt
ends_at K t (RoundTail x) got b may = choose (λ u. Ends K.rooted t (RoundTail x) u.doing) ((got == 0) && nat_lt x (2 ^ 32)) (to Arrive) (record { doing = Round; waits = true }) tt tt
ends_at K t (Put i) got b may = choose (λ u. Ends K.rooted t (Put i) u.doing) (nat_lt (i + 1) (length (counters_of K).arrive)) (to (Put (i + 1))) (to (Count 0)) tt tt
ends_at K t (Compare i f) got b may =
    choose (λ u. Ends K.rooted t (Compare i f) u.doing) (got == f - 2 ^ 32) (if nat_lt (i + 1) (length (counters_of K).arrive) then to (Count (i + 1)) else to Nothing) (record { doing = Count i; waits = true })
    (choose (λ u. Ends K.rooted t (Compare i f) u.doing) (nat_lt (i + 1) (length (counters_of K).arrive)) (to (Count (i + 1))) (to Nothing) tt (may tt)) tt
ends_at K t (TakeOff i x) got b may = choose (λ u. Ends K.rooted t (TakeOff i x) u.doing) (nat_lt (i + 1) (length (counters_of K).arrive)) (to (TakeOut (i + 1))) (to Nothing) tt (may tt)
ends_at K t _ got b may = tt

module _ (K : Shared) (levels : ℕ) (S : IsWellShaped K.rooted levels) (limited : is_some K.rooted.root ≡ true) (few : K.readers ≤ 1000) (grouped : 0 < K.group) where
  F : TreeFacts K.rooted levels
  F = tree_facts K.rooted levels S

  d : IsSound K
  d = sound_of K levels S limited few grouped

  -- there are few counters
  pub counters_few : (length (counters_of K).arrive ≡ groups K) × (groups K ≤ 32)
  counters_few = (length-every_second (behind_tree K) (groups K), groups_low (ranks_in K.rooted) K.group S.ranks grouped)

  -- the first rank of a counter's group is there
  pub first_there : (w : ℕ) → behind_tree K ≤ w → w < behind_tree K + 2 * groups K → (w - behind_tree K) / 2 * K.group < ranks_in K.rooted
  first_there w high low = group_first K ((w - behind_tree K) / 2) d (omega arith)

  pub names_it : (s : LockState RwView) (r : ℕ) (v : RwView) → RwGood K levels s → slice_get s.views r ≡ Some v → NamesCounters (counters_of K) v.counter.counter v.counter.doing
  names_it s r v g has =
      let many : length (counters_of K).arrive ≡ groups K = counters_few.0 in
      let much : length (counters_of K).depart ≡ groups K = length-every_second (behind_tree K + 1) (groups K) in
      let low : groups K ≤ 32 = counters_few.1 in
      let own : v.counter.counter < groups K = subst (λ z. z < groups K) (sym (g.own r v has)) (group_there K r d (is_there K levels F d s r v g has)) in
      let here : counter_at v.counter.counter v.counter.doing < groups K = place_at (groups K) v.counter.counter v.counter.doing v.tree own (g.place r v has) in
      record { alike = much ∙ sym many; few = omega arith; own = omega arith; here = omega arith }

  pub names_step : (v : RwView) → MayStep (RwGood K levels) v → NamesCounters (counters_of K) v.counter.counter v.counter.doing
  names_step v h = names_it h.state h.rank v h.is_good h.has

  pub plans_step : (v : RwView) → MayStep (RwGood K levels) v → MayPlan K.rooted v.tree
  plans_step v h = F.may_plan h.is_good.inside h.state.words (trees h.state.views) h.state.trace h.rank v.tree (viewed K levels F d h.state h.rank v h.is_good h.has)

  module _ (v : RwView) (got : ℕ) (h : StepLearns (rw_table K) (RwGood K levels) v got) where
    abbrev step : MayStep (RwGood K levels) v
    step = record { state = h.state; rank = h.rank; is_good = h.is_good; has = h.has }

    pub names_learn : NamesCounters (counters_of K) v.counter.counter v.counter.doing
    names_learn = names_step v step

    pub plans_learn : MayPlan K.rooted v.tree
    plans_learn = plans_step v step

    -- a task that ends at the marks lets the tree go on
    leaves : IsMark v.counter.doing → MayLeaveHook K.rooted v.tree
    leaves m =
        let x = viewed K levels F d h.state h.rank v h.is_good h.has in
        let hook : at_hook v.tree ≡ true = marks_hook (groups K) v.counter.doing v.tree m (h.is_good.place h.rank v h.has) in
        let told : length (with_entry (resumed v.tree)).events ≤ 5 = (F.goes_on h.is_good.inside h.state.words (trees h.state.views) h.state.trace h.rank v.tree x hook).few in
        record { hooked = hook; placed = F.placed h.is_good.inside h.state.words (trees h.state.views) h.state.trace h.rank v.tree x; room = omega arith } where
          resumed : TreeView → Told TreeView
          resumed t = tree_resume (tree_of K.rooted) t

    pub ends_learn : busy v.counter.doing ≡ true → Ends K.rooted v.tree v.counter.doing (counter_turn (counters_of K) v.counter.doing got).doing
    ends_learn b = ends_at K v.tree v.counter.doing got b leaves

    module _ (rests : busy v.counter.doing ≡ false) where
      plans_act : PlansAct K.rooted levels h.is_good.inside h.state.words (trees h.state.views) h.state.trace h.rank v.tree h.act
      plans_act =
          record {
            viewed = viewed K levels F d h.state h.rank v h.is_good h.has;
            away = idle_away (groups K) v.counter.doing v.tree rests (h.is_good.place h.rank v h.has);
            planned = subst (λ b. plan_of K v b ≡ Some h.act) rests h.planned;
          }

      pub learns_tree : TreeMayLearn K.rooted v.tree got
      learns_tree = subst (TreeMayLearn K.rooted v.tree) (sym h.gives) (F.may_learn h.is_good.inside h.state.words (trees h.state.views) h.state.trace h.rank v.tree h.act plans_act)

      pub few_told : length (with_entry (tree_learn (tree_of K.rooted) v.tree got)).events ≤ 8
      few_told =
          let few : length (with_entry (tree_learn (tree_of K.rooted) v.tree got)).events ≤ 5 =
          subst (λ z. length (with_entry (tree_learn (tree_of K.rooted) v.tree z)).events ≤ 5) (sym h.gives) (F.learns h.is_good.inside h.state.words (trees h.state.views) h.state.trace h.rank v.tree h.act plans_act).few in
          omega arith
