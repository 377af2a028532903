-- Where some rank isn't out, some rank goes on. Three short inductions: a member that is on its way has a rank that works for it (up the
-- tree); below an element that has its queue somebody goes on (down); and a rank that is stuck waits for one that works higher (up).
use Rattle.std.specs.Prelude.{◌≡◌, ◌⊎◌, ℕ, zero, suc, ◌+◌, ◌<◌, ◌≤◌, Bool, true, false, List, length, slice_get, slice_index, Some, refl, unwrap_or}
use Rattle.std.proofs.Common.{sym, ◌∙◌, ap, subst, inl, inr, ⊎_elim, arith}
use Rattle.std.proofs.lemmas.Bool.{cases_lt}
use Rattle.rl_word.specs.laws.Places.{some_at}
use Rattle.rl_step.specs.declared.events.Event.{Event}
use Rattle.rl_step.specs.declared.events.Standing.TheVariants as standing
use Rattle.rl_queue.specs.declared.view.Phase.{Phase}
use Rattle.rl_queue.specs.declared.view.Phase.TheVariants.{Idle, Clear, Wait, Settle, Granted, Look, Hand, Above}
use Rattle.rl_queue.specs.Lane.{Lane, lane_of, Busy, is_pass}
use Rattle.rl_queue.specs.laws.LaneLaws.{busy_or_idle}
use Rattle.rl_queue.specs.Queue.{queue_next_word, status_word}
use Rattle.rl_queue.specs.laws.StandingLaws.{not_out_busy}
use Rattle.rl_tree.specs.declared.view.TreeView.{TreeView}
use Rattle.rl_tree.specs.Tree.{hook_by, path, works_for, behind_at, tree_standing}
use Rattle.rl_tree.specs.laws.Cases.{standing_by}
use Rattle.rl_tree.specs.declared.rooted.Rooted.{Rooted}
use Rattle.rl_tree.specs.Elements.{how_many, ranks_in, names_in, tree_of}
use Rattle.rl_tree.specs.TreeGood.{Tells, IsGrantedAt, way_of, InQueue, TreeGood}
use Rattle.rl_tree.specs.TreeShape.{IsWellShaped}
use Rattle.rl_tree.specs.laws.TreeWords.{OfNode, OfElement, member_is}
use Rattle.rl_tree.specs.laws.TreePaths.{el_deep, el_root}
use Rattle.rl_tree.specs.laws.RanksInTree.{stands_of, queue_there, phase_of}
use Rattle.rl_tree.specs.laws.TreeHolders.{at_rest}
use Rattle.rl_queue.specs.laws.Stuck.{Stuck, Goes}
use Rattle.rl_queue.specs.laws.LineGoes.{busy_goes}
use Rattle.rl_tree.specs.laws.RankGoes.{IsFree, GoesIn, RankGoes}
use Rattle.rl_tree.specs.laws.Gates.{Climbs, climbs_busy, climbs_not, climbs_hooked, granted_busy, below_climbs, kind, head_climbs, Opens, head_opens}

pass_not_zero : (s : ℕ) → is_pass s ≡ true → s ≡ 0 → ⊥
pass_not_zero zero e z = cc
pass_not_zero (suc s) e z = absurd (omega arith)

granted_free : (p : Phase) (x s : ℕ) → IsGrantedAt p → Stuck p x s → ⊥
granted_free (Granted left) x s h k = k
granted_free _ x s h k = h

climbs_free : (p : Phase) (x s : ℕ) → Climbs p → Stuck p x s → ⊥
climbs_free Settle x s c k = k
climbs_free (Above n) x s c k = k
climbs_free _ x s c k = c

module _ (K : Rooted) (levels : ℕ) (S : IsWellShaped K levels) (ws : List ℕ) (vs : List TreeView) (t : List Event)
    (g : TreeGood K levels ws vs t) (all : length vs ≡ ranks_in K) where
  abbrev Some_goes : Type 0
  Some_goes = (r : ℕ) × RankGoes K ws vs r

  abbrev lane_at : ℕ → Lane
  lane_at q = lane_of (names_in K q) ws (g.phase q)

  -- a rank goes on whose member, where it works, does
  here_goes : (r : ℕ) (v : TreeView) (q m : ℕ) → slice_get vs r ≡ Some v → path (tree_of K) v.leaf v.level ≡ q →
      works_for (tree_of K) v v.level ≡ m → Busy (g.phase q m) → IsFree K ws q m (g.phase q m) → RankGoes K ws vs r
  here_goes r v q m has eq em busy free =
      let Q : ℕ = path (tree_of K) v.leaf v.level in
      let M : ℕ = works_for (tree_of K) v v.level in
      let at : Busy (g.phase Q M) × IsFree K ws Q M (g.phase Q M) =
      subst (λ z. Busy (g.phase z M) × IsFree K ws z M (g.phase z M)) (sym eq)
      (subst (λ z. Busy (g.phase q z) × IsFree K ws q z (g.phase q z)) (sym em) (busy, free)) in
      record { view = v; has = has; goes = by v.query refl at } where
        by : (b : Bool) → v.query ≡ b → Busy (g.phase (path (tree_of K) v.leaf v.level) (works_for (tree_of K) v v.level)) × IsFree K ws
            (path (tree_of K) v.leaf v.level) (works_for (tree_of K) v v.level)
            (g.phase (path (tree_of K) v.leaf v.level) (works_for (tree_of K) v v.level)) →
            GoesIn K ws v.query (path (tree_of K) v.leaf v.level) (works_for (tree_of K) v v.level) v.phase
        by true e at = subst (λ b. GoesIn K ws b (path (tree_of K) v.leaf v.level) (works_for (tree_of K) v v.level) v.phase) (sym e) tt
        by false e at =
            let h = phase_of (stands_of S g all r v has) e in
            subst (λ b. GoesIn K ws b (path (tree_of K) v.leaf v.level) (works_for (tree_of K) v v.level) v.phase) (sym e)
            (subst (λ p. Busy p × IsFree K ws (path (tree_of K) v.leaf v.level) (works_for (tree_of K) v v.level) p) h at)

  -- below its level a rank's members are on their way
  higher : (r : ℕ) (v : TreeView) (d q m : ℕ) → slice_get vs r ≡ Some v → d < v.level → path (tree_of K) v.leaf d ≡ q →
      works_for (tree_of K) v d ≡ m → Climbs (g.phase q m)
  higher r v d q m has lt eq em =
      let c : Climbs (g.phase (path (tree_of K) v.leaf d) (works_for (tree_of K) v d)) =
      subst Climbs (sym (g.by.below r v d has lt)) (below_climbs (way_of v.query v.phase) (behind_at v.behind d)
      (λ e. let z = (g.by.shaped r v has).resting e in absurd (omega arith))) in
      subst (λ z. Climbs (g.phase z m)) eq (subst (λ z. Climbs (g.phase (path (tree_of K) v.leaf d) z)) em c)

  -- a rank that works for member m of queue q, which is at this level of its path
  record Agent (q m d : ℕ) : Type 0 where
    rank : ℕ
    view : TreeView
    has : slice_get vs rank ≡ Some view
    level : d ≤ view.level
    at : path (tree_of K) view.leaf d ≡ q
    mine : works_for (tree_of K) view d ≡ m

  node_agent : (q m : ℕ) → OfNode K q m → Agent q m 0
  node_agent q m n =
      let lm : m < length vs = let b : m < ranks_in K = n.there in omega arith in
      let v = some_at vs m lm in
      let own = g.by.own m v.0 v.1 in
      record { rank = m; view = v.0; has = v.1; level = omega arith; at = own.1 ∙ n.mine; mine = own.0 }

  -- at its own level or above
  level_cases : (d w : ℕ) → d ≤ w → (d < w) ⊎ (w ≡ d)
  level_cases d w le = ⊎_elim (λ lt. inl lt) (λ ge. inr (omega arith)) (cases_lt d w)

  at_level : (q m d : ℕ) (a : Agent q m d) → a.view.level ≡ d →
      (path (tree_of K) a.view.leaf a.view.level ≡ q) × (works_for (tree_of K) a.view a.view.level ≡ m)
  at_level q m d a e = (ap (path (tree_of K) a.view.leaf) e ∙ a.at, ap (works_for (tree_of K) a.view) e ∙ a.mine)

  agent_goes : (q m d : ℕ) → Agent q m d → Busy (g.phase q m) → IsFree K ws q m (g.phase q m) → (Climbs (g.phase q m) → ⊥) → Some_goes
  agent_goes q m d a busy free not =
      ⊎_elim
      (λ lt. absurd (not (higher a.rank a.view d q m a.has lt a.at a.mine)))
      (λ e. let p = at_level q m d a e in (a.rank, here_goes a.rank a.view q m a.has p.0 p.1 busy free))
      (level_cases d a.view.level a.level)

  -- one that climbs from a queue with something above it works higher
  not_here : (r : ℕ) (v : TreeView) (m x : ℕ) → slice_get vs r ≡ Some v → path (tree_of K) v.leaf v.level ≡ m →
      works_for (tree_of K) v v.level ≡ x → Climbs (g.phase m x) → 0 < m → ⊥
  not_here r v m x has eq ex climbs low = by v.query refl where
    by : (b : Bool) → v.query ≡ b → ⊥
    by true e =
        let h : IsGrantedAt (g.phase (path (tree_of K) v.leaf v.level) (works_for (tree_of K) v v.level)) =
        subst (λ z. Tells v z (g.phase (path (tree_of K) v.leaf v.level) (works_for (tree_of K) v v.level))) e (g.by.here r v has) in
        climbs_not (g.phase m x) climbs (subst (λ z. IsGrantedAt (g.phase z x)) eq
        (subst (λ z. IsGrantedAt (g.phase (path (tree_of K) v.leaf v.level) z)) ex h))
    by false e =
        let h = phase_of (stands_of S g all r v has) e in
        let same : g.phase m x ≡ v.phase = sym (ap (λ z. g.phase z x) eq) ∙ sym (ap (g.phase (path (tree_of K) v.leaf v.level)) ex) ∙ h in
        let hook : hook_by v.query v.phase ≡ true = ap (λ z. hook_by z v.phase) e ∙ climbs_hooked v.phase (subst Climbs same climbs) in
        let top : v.level ≡ levels = (g.by.shaped r v has).hooked hook in
        let root : m ≡ 0 = sym eq ∙ ap (path (tree_of K) v.leaf) top ∙ el_root (stands_of S g all r v has).on in
        absurd (omega arith)

  -- WHO IS ON ITS WAY HAS AN AGENT
  agent : (d q m : ℕ) → q < how_many K → S.treed.depth q ≡ d → Busy (g.phase q m) → (IsGrantedAt (g.phase q m) → ⊥) → Agent q m d
  agent zero q m lq dq busy not =
      ⊎_elim (λ n. node_agent q m n) (λ n. let o = S.treed.over m q n.there n.mine in
      let z : S.treed.depth q ≡ suc (S.treed.depth m) = o.1 in absurd (omega arith))
      (member_is K S.root_free q m ((g.by.queue q lq).inv.inside m busy))
  agent (suc c) q m lq dq busy not =
      ⊎_elim
      (λ n. let z : S.treed.depth q ≡ 0 = S.treed.node q lq n.is in absurd (omega arith))
      (λ n.
      let o = S.treed.over m q n.there n.mine in
      let z : S.treed.depth q ≡ suc (S.treed.depth m) = o.1 in
      let dm : S.treed.depth m ≡ c = omega arith in
      let h = head_climbs (lane_at m) (g.line m) (g.phase q m) (g.by.gates m q n.there n.mine) busy not in
      let a = agent c m h.0 n.there dm (climbs_busy (g.phase m h.0) h.1) (climbs_not (g.phase m h.0) h.1) in
      let lt : c < a.view.level =
      ⊎_elim (λ k. k) (λ e. let p = at_level m h.0 c a e in absurd (not_here a.rank a.view m h.0 a.has p.0 p.1 h.1 n.low))
      (level_cases c a.view.level a.level) in
      record {
        rank = a.rank;
        view = a.view;
        has = a.has;
        level = omega arith;
        at = ap (λ y. unwrap_or ((tree_of K).parent y) 0) a.at
            ∙ ap (λ o. unwrap_or o 0) n.mine;
        mine = a.at;
      })
      (member_is K S.root_free q m ((g.by.queue q lq).inv.inside m busy))

  -- BELOW AN ELEMENT THAT HAS ITS QUEUE SOMEBODY GOES ON
  above_goes : (d e p x : ℕ) → (tree_of K).parent e ≡ Some p → Agent e x d → Climbs (g.phase e x) → IsGrantedAt (g.phase p e) → Some_goes
  above_goes d e p x up a climbs h =
      ⊎_elim
      (λ lt.
      let at : path (tree_of K) a.view.leaf (suc d) ≡ p = ap (λ y. unwrap_or ((tree_of K).parent y) 0) a.at ∙ ap (λ o. unwrap_or o 0) up in
      let le : suc d ≤ a.view.level = omega arith in
      ⊎_elim
      (λ more_up. absurd (climbs_not (g.phase p e) (higher a.rank a.view (suc d) p e a.has more_up at a.at) h))
      (λ k. (
        a.rank,
        here_goes a.rank a.view p e a.has (ap (path (tree_of K) a.view.leaf) k ∙ at) (ap (works_for (tree_of K) a.view) k ∙ a.at)
            (granted_busy (g.phase p e) h) (granted_free (g.phase p e) _ _ h),
      ))
      (level_cases (suc d) a.view.level le))
      (λ k. let q = at_level e x d a k in
      (a.rank, here_goes a.rank a.view e x a.has q.0 q.1 (climbs_busy (g.phase e x) climbs) (climbs_free (g.phase e x) _ _ climbs)))
      (level_cases d a.view.level a.level)

  opens_goes : (d e p x : ℕ) (ph : Phase) → e < how_many K → S.treed.depth e ≡ d → (tree_of K).parent e ≡ Some p →
      IsGrantedAt (g.phase p e) → g.phase e x ≡ ph → Opens ph (slice_index ws (status_word (names_in K e) x)) →
      (OfElement K e x → IsGrantedAt (g.phase e x) → Some_goes) → Some_goes
  opens_goes d e p x Wait le de up h eq o down =
      let a = agent d e x le de (subst Busy (sym eq) tt) (λ k. subst IsGrantedAt eq k) in
      agent_goes e x d a (subst Busy (sym eq) tt) (λ k. pass_not_zero (slice_index ws (status_word (names_in K e) x)) o
      (subst (λ z. Stuck z (slice_index ws (queue_next_word (names_in K e) x)) (slice_index ws (status_word (names_in K e) x))) eq k))
      (λ k. subst Climbs eq k)
  opens_goes d e p x (Look left u) le de up h eq o down =
      let a = agent d e x le de (subst Busy (sym eq) tt) (λ k. subst IsGrantedAt eq k) in
      agent_goes e x d a (subst Busy (sym eq) tt)
      (λ k. subst (λ z. Stuck z (slice_index ws (queue_next_word (names_in K e) x)) (slice_index ws (status_word (names_in K e) x))) eq
      k) (λ k. subst Climbs eq k)
  opens_goes d e p x (Hand n left) le de up h eq o down =
      let a = agent d e x le de (subst Busy (sym eq) tt) (λ k. subst IsGrantedAt eq k) in
      agent_goes e x d a (subst Busy (sym eq) tt)
      (λ k. subst (λ z. Stuck z (slice_index ws (queue_next_word (names_in K e) x)) (slice_index ws (status_word (names_in K e) x))) eq
      k) (λ k. subst Climbs eq k)
  opens_goes d e p x (Above n) le de up h eq o down =
      let a = agent d e x le de (subst Busy (sym eq) tt) (λ k. subst IsGrantedAt eq k) in
      above_goes d e p x up a (subst Climbs (sym eq) tt) h
  opens_goes d e p x (Granted left) le de up h eq o down =
      ⊎_elim
      (λ n. agent_goes e x 0 (node_agent e x n) (subst Busy (sym eq) tt)
      (λ k. subst (λ z. Stuck z (slice_index ws (queue_next_word (names_in K e) x)) (slice_index ws (status_word (names_in K e) x))) eq
      k) (λ k. subst Climbs eq k))
      (λ n. down n (subst IsGrantedAt (sym eq) tt))
      (member_is K S.root_free e x ((g.by.queue e le).inv.inside x (subst Busy (sym eq) tt)))
  opens_goes d e p x Idle le de up h eq o down = absurd o
  opens_goes d e p x Clear le de up h eq o down = absurd o
  opens_goes d e p x _ le de up h eq o down = absurd o

  granted_goes : (d e p : ℕ) → e < how_many K → S.treed.depth e ≡ d → (tree_of K).parent e ≡ Some p → IsGrantedAt (g.phase p e) → Some_goes
  granted_goes zero e p le de up h =
      let x = head_opens (lane_at e) (g.line e) (g.phase p e) (g.by.gates e p le up) h in
      opens_goes zero e p x.0 (g.phase e x.0) le de up h refl x.1
      (λ n k. let o = S.treed.over x.0 e n.there n.mine in let z : S.treed.depth e ≡ suc (S.treed.depth x.0) = o.1 in absurd (omega arith))
  granted_goes (suc c) e p le de up h =
      let x = head_opens (lane_at e) (g.line e) (g.phase p e) (g.by.gates e p le up) h in
      opens_goes (suc c) e p x.0 (g.phase e x.0) le de up h refl x.1
      (λ n k.
      let o = S.treed.over x.0 e n.there n.mine in
      let z : S.treed.depth e ≡ suc (S.treed.depth x.0) = o.1 in
      let dx : S.treed.depth x.0 ≡ c = omega arith in
      granted_goes c x.0 e n.there dx n.mine k)

  -- A RANK THAT IS STUCK WAITS FOR ONE THAT WORKS HIGHER, or goes on
  raised_busy : (r : ℕ) (v : TreeView) → slice_get vs r ≡ Some v → 0 < v.level → (v.query ≡ true) ⊎ Busy v.phase
  raised_busy r v has low = by v.query refl where
    by : (b : Bool) → v.query ≡ b → (v.query ≡ true) ⊎ Busy v.phase
    by true e = inl e
    by false e = ⊎_elim (λ k. inr k) (λ k. let z = at_rest (stands_of S g all r v has) e (inl k) in absurd (omega arith)) (busy_or_idle v.phase)

  member_goes : (d q k : ℕ) → q < how_many K → S.treed.depth q ≡ d → Goes (lane_at q) k →
      ((r : ℕ) (u : TreeView) → slice_get vs r ≡ Some u → d < u.level → Some_goes) → Some_goes
  member_goes d q k lq dq go rise =
      ⊎_elim
      (λ climbs.
      let a = agent d q k lq dq go.busy (climbs_not (g.phase q k) climbs) in
      ⊎_elim (λ lt. rise a.rank a.view a.has lt) (λ e. let p = at_level q k d a e in
      (a.rank, here_goes a.rank a.view q k a.has p.0 p.1 go.busy go.goes)) (level_cases d a.view.level a.level))
      (λ other. ⊎_elim
      (λ h. ⊎_elim
      (λ n. agent_goes q k 0 (node_agent q k n) go.busy go.goes (λ c. climbs_not (g.phase q k) c h))
      (λ n. granted_goes (S.treed.depth k) k q n.there refl n.mine h)
      (member_is K S.root_free q k ((g.by.queue q lq).inv.inside k go.busy)))
      (λ not. agent_goes q k d (agent d q k lq dq go.busy not.1) go.busy go.goes not.0)
      other)
      (kind (g.phase q k))

  rank_with : (r : ℕ) (v : TreeView) → slice_get vs r ≡ Some v →
      ((k : ℕ) (u : TreeView) → slice_get vs k ≡ Some u → v.level < u.level → Some_goes) → (v.query ≡ true) ⊎ Busy v.phase → Some_goes
  rank_with r v has rise busy = by v.query refl where
    q : ℕ
    q = path (tree_of K) v.leaf v.level

    m : ℕ
    m = works_for (tree_of K) v v.level

    by : (b : Bool) → v.query ≡ b → Some_goes
    by true e = (
      r,
      record {
        view = v;
        has = has;
        goes =
            subst (λ b. GoesIn K ws b (path (tree_of K) v.leaf v.level) (works_for (tree_of K) v v.level) v.phase) (sym e) tt;
      },
    )
    by false e =
        let uses : Busy v.phase = ⊎_elim (λ k. let bad : true ≡ false = sym k ∙ e in cc) (λ k. k) busy in
        let here = phase_of (stands_of S g all r v has) e in
        let lq : path (tree_of K) v.leaf v.level < how_many K = queue_there (stands_of S g all r v has) in
        let deep : S.treed.depth (path (tree_of K) v.leaf v.level) ≡ v.level =
        el_deep (stands_of S g all r v has).on v.level (g.by.shaped r v has).within in
        let k = busy_goes (names_in K q).budget (InQueue K q) (lane_at q) (g.line q) m (g.phase q m) (g.by.queue q lq).inv
        (g.by.queue q lq).awaited refl (subst Busy (sym here) uses) in
        member_goes v.level q k.0 lq deep k.1 rise

  rank_goes : (n r : ℕ) (v : TreeView) → slice_get vs r ≡ Some v → levels ≤ v.level + n → (v.query ≡ true) ⊎ Busy v.phase → Some_goes
  rank_goes zero r v has far busy = rank_with r v has (λ k u hu lt. let w : u.level ≤ levels = (g.by.shaped k u hu).within in absurd (omega arith)) busy
  rank_goes (suc i) r v has far busy = rank_with r v has (λ k u hu lt. rank_goes i k u hu (omega arith) (raised_busy k u hu (omega arith))) busy

  -- SOMEBODY GOES ON where some rank isn't out
  pub tree_goes : (r : ℕ) (v : TreeView) → slice_get vs r ≡ Some v → (tree_standing v ≡ standing.Out → ⊥) → (k : ℕ) × RankGoes K ws vs k
  tree_goes r v has not = rank_goes levels r v has (omega arith) (by v.query refl) where
    by : (b : Bool) → v.query ≡ b → (v.query ≡ true) ⊎ Busy v.phase
    by true e = inl e
    by false e = inr (not_out_busy v.phase (λ k. not (ap (λ z. standing_by z v.phase) e ∙ k)))
