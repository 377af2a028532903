-- The words of a tree: where they live, and that planned acts on them are lawful; when nothing waits; and a rank that is alone.
use Rattle.std.specs.Prelude.{◌≡◌, ◌↔◌, ℕ, zero, suc, ◌+◌, ◌-◌, ◌/◌, ◌<◌, ◌≤◌, ◌==◌, Bool, true, false, List, nat_lt, if◌then◌else◌, slice_get, slice_index, Option, Some, None, refl}
use Rattle.std.proofs.Common.{sym, ◌∙◌, ap, subst, ⊎_elim, arith}
use Rattle.std.proofs.lemmas.Option.{same_Some}
use Rattle.std.proofs.lemmas.Bool.Decides.{nat_tests}
use Rattle.rl_word.specs.Acts.{IsLawful}
use Rattle.rl_word.specs.Shapes.{layout_of}
use Rattle.rl_word.specs.declared.classes.Spot.{Spot}
use Rattle.rl_word.specs.declared.classes.Class.TheVariants as class
use Rattle.rl_word.specs.declared.acts.Act.{Act}
use Rattle.rl_word.specs.declared.acts.Act.TheVariants.{Load, Store, CardCas}
use Rattle.rl_step.specs.declared.events.Event.{Event}
use Rattle.rl_step.specs.Lock.{Rests, no_local}
use Rattle.rl_queue.specs.declared.view.Phase.{Phase}
use Rattle.rl_queue.specs.declared.view.Phase.TheVariants.{Idle, Clear, Reset, Swing, Link, Wait, Settle, Granted, Look, Close, Await, Hand, Above}
use Rattle.rl_queue.specs.Queue.{TheNames, queue_next_word, status_word, plan_at}
use Rattle.rl_queue.specs.Lane.{lane_of, Busy, IsAlone}
use Rattle.rl_queue.specs.laws.LaneLaws.{in_line}
use Rattle.rl_queue.specs.laws.LaneMoves.{link_guess}
use Rattle.rl_queue.specs.QueueGood.{QueueGood}
use Rattle.rl_queue.specs.laws.QueueMoves.{hand_succ}
use Rattle.rl_queue.specs.Standings.{standing_of}
use Rattle.rl_tree.specs.declared.view.TreeView.{TreeView}
use Rattle.rl_tree.specs.Tree.{TheTree, is_none, hook_by, path, member_at, tree_walk, goes_up, gives_up, goes_down}
use Rattle.rl_tree.specs.declared.rooted.Rooted.{Rooted}
use Rattle.rl_tree.specs.Elements.{how_many, ranks_in, leaf_of_rank, first_node_of, of_elements, of_tree, names_in, tree_of, tree_spot}
use Rattle.rl_tree.specs.TreeGood.{InQueue}
use Rattle.rl_tree.specs.laws.TreeWords.{member_is, words_at}
use Rattle.rl_tree.specs.TreeShape.{IsWellShaped}

lt_true : (a b : ℕ) → nat_lt a b ≡ true → a < b
lt_true a b e = grind (arith, nat_tests)

lt_false : (a b : ℕ) → nat_lt a b ≡ false → b ≤ a
lt_false a b e = grind (arith, nat_tests)

zero_true : (a : ℕ) → (a == 0) ≡ true → a ≡ 0
zero_true a e = grind (arith, nat_tests)

-- the spot of a word, by the tests
abbrev spot_by : Rooted → Bool → Bool → Bool → ℕ → Spot
spot_by K x y z w =
    if x then record { class = class.Card; home = K.home }
    else if y then record { class = class.Card; home = first_node_of (slice_get K.shape.elements w) }
    else if z then record { class = class.Plain; home = first_node_of (slice_get K.shape.elements ((w - how_many K) / 2 + 1)) }
    else record { class = class.Plain; home = slice_index K.shape.node_of ((w - of_elements K) / 2) }

-- what holds of the spot by each outcome of the tests holds of it
by_tests : (K : Rooted) (P : Spot → Type 0) (w : ℕ) → ((x y z : Bool) → (w == 0) ≡ x → nat_lt w (how_many K) ≡ y →
    nat_lt w (of_elements K) ≡ z → P (spot_by K x y z w)) → P (tree_spot K w)
by_tests K P w f = f (w == 0) (nat_lt w (how_many K)) (nat_lt w (of_elements K)) refl refl refl

module _ (K : Rooted) (levels : ℕ) (S : IsWellShaped K levels) where
  -- each word lives on a node that is there
  pub spot_home : (w : ℕ) → w < of_tree K → (tree_spot K w).home < K.shape.nodes
  spot_home w lt = by_tests K (λ z. z.home < K.shape.nodes) w at where
    at : (x y z : Bool) → (w == 0) ≡ x → nat_lt w (how_many K) ≡ y → nat_lt w (of_elements K) ≡ z → (spot_by K x y z w).home < K.shape.nodes
    at true y z ex ey ez = S.homed
    at false true z ex ey ez = S.first_there w (lt_true w (how_many K) ey)
    at false false true ex ey ez =
        let a = lt_false w (how_many K) ey in
        let b = lt_true w (of_elements K) ez in
        S.first_there ((w - how_many K) / 2 + 1) (omega arith)
    at false false false ex ey ez = let b = lt_false w (of_elements K) ez in S.seated ((w - of_elements K) / 2) (omega arith)

  -- tails are card words, the others plain ones
  card_word : (w : ℕ) → w < how_many K → (tree_spot K w).class ≡ class.Card
  card_word w lt = by_tests K (λ z. z.class ≡ class.Card) w at where
    at : (x y z : Bool) → (w == 0) ≡ x → nat_lt w (how_many K) ≡ y → nat_lt w (of_elements K) ≡ z → (spot_by K x y z w).class ≡ class.Card
    at true y z ex ey ez = refl
    at false true z ex ey ez = refl
    at false false z ex ey ez = let a = lt_false w (how_many K) ey in absurd (omega arith)

  plain_word : (w : ℕ) → 0 < how_many K → how_many K ≤ w → (tree_spot K w).class ≡ class.Plain
  plain_word w some le = by_tests K (λ z. z.class ≡ class.Plain) w at where
    at : (x y z : Bool) → (w == 0) ≡ x → nat_lt w (how_many K) ≡ y → nat_lt w (of_elements K) ≡ z → (spot_by K x y z w).class ≡ class.Plain
    at true y z ex ey ez = let a = zero_true w ex in absurd (omega arith)
    at false true z ex ey ez = let a = lt_true w (how_many K) ey in absurd (omega arith)
    at false false true ex ey ez = refl
    at false false false ex ey ez = refl

  -- rank r may make this act
  abbrev pub MayMake : ℕ → Act → Type 0
  MayMake r a = IsLawful (of_tree K) (tree_spot K) (layout_of K.shape) r a × (no_local r a ≡ true)

  pub may_load : (r w : ℕ) → w < of_tree K → MayMake r (Load w)
  may_load r w lt = (record { there = lt; homed = spot_home w lt; allowed = tt }, refl)

  may_store : (r w x : ℕ) → 0 < how_many K → how_many K ≤ w → w < of_tree K → MayMake r (Store w x)
  may_store r w x some le lt = (record { there = lt; homed = spot_home w lt; allowed = plain_word w some le }, refl)

  may_swap : (r w old new : ℕ) → w < how_many K → MayMake r (CardCas w old new)
  may_swap r w old new lt = let there : w < of_tree K = omega arith in (record { there = there; homed = spot_home w there; allowed = card_word w lt }, refl)

  -- the words of a member
  stores_next : (r q m x : ℕ) → q < how_many K → InQueue K q m → MayMake r (Store (queue_next_word (names_in K q) m) x)
  stores_next r q m x lq i = let k = words_at K S.root_free q m i in may_store r (queue_next_word (names_in K q) m) x (omega arith) k.0 k.1

  stores_status : (r q m x : ℕ) → q < how_many K → InQueue K q m → MayMake r (Store (status_word (names_in K q) m) x)
  stores_status r q m x lq i = let k = words_at K S.root_free q m i in let a = k.0 in let b = k.2 in
      may_store r (status_word (names_in K q) m) x (omega arith) (omega arith) k.3

  pub loads_status : (r q m : ℕ) → InQueue K q m → MayMake r (Load (status_word (names_in K q) m))
  loads_status r q m i = may_load r (status_word (names_in K q) m) (words_at K S.root_free q m i).3

  loads_next : (r q m : ℕ) → InQueue K q m → MayMake r (Load (queue_next_word (names_in K q) m))
  loads_next r q m i = may_load r (queue_next_word (names_in K q) m) (words_at K S.root_free q m i).1

  -- each planned act is lawful
  pub lawful_in : (r q m : ℕ) (p : Phase) (a : Act) (ws : List ℕ) (ph : ℕ → Phase) (l : List ℕ) (t : List Event) (e : ℕ) → q < how_many K →
      QueueGood (names_in K q) (InQueue K q) ws ph l t e → ph m ≡ p → plan_at (names_in K q) m p ≡ Some a → MayMake r a
  lawful_in r q m Clear a ws ph l t e lq g ep pl = subst (MayMake r) (same_Some _ _ pl) (stores_next r q m 0 lq (g.inv.inside m (subst Busy (sym ep) tt)))
  lawful_in r q m Reset a ws ph l t e lq g ep pl = subst (MayMake r) (same_Some _ _ pl) (stores_status r q m 0 lq (g.inv.inside m (subst Busy (sym ep) tt)))
  lawful_in r q m (Swing guess) a ws ph l t e lq g ep pl = subst (MayMake r) (same_Some _ _ pl) (may_swap r q guess (m + 1) lq)
  lawful_in r q m (Link guess) a ws ph l t e lq g ep pl =
      let b = link_guess (names_in K q).budget (InQueue K q) (lane_of (names_in K q) ws ph) l m guess g.inv ep in
      subst (MayMake r) (same_Some _ _ pl) (stores_next r q (guess - 1) (m + 1) lq
      (in_line (names_in K q).budget (InQueue K q) (lane_of (names_in K q) ws ph) l (guess - 1) g.inv b.0))
  lawful_in r q m Wait a ws ph l t e lq g ep pl = subst (MayMake r) (same_Some _ _ pl) (loads_status r q m (g.inv.inside m (subst Busy (sym ep) tt)))
  lawful_in r q m (Look left u) a ws ph l t e lq g ep pl = subst (MayMake r) (same_Some _ _ pl) (loads_next r q m (g.inv.inside m (subst Busy (sym ep) tt)))
  lawful_in r q m (Close left) a ws ph l t e lq g ep pl = subst (MayMake r) (same_Some _ _ pl) (may_swap r q (m + 1) 0 lq)
  lawful_in r q m (Await left) a ws ph l t e lq g ep pl = subst (MayMake r) (same_Some _ _ pl) (loads_next r q m (g.inv.inside m (subst Busy (sym ep) tt)))
  lawful_in r q m (Hand succ left) a ws ph l t e lq g ep pl =
      subst (MayMake r) (same_Some _ _ pl) (stores_status r q succ _ lq (hand_succ (names_in K q) (InQueue K q) ws ph l t e m succ left g ep))
  lawful_in r q m _ a ws ph l t e lq g ep pl = cc

  -- where there is one rank, each queue on its path has one member
  pub alone_on : (r i : ℕ) → ranks_in K ≡ 1 → r < ranks_in K → i ≤ levels →
      IsAlone (InQueue K (path (tree_of K) (leaf_of_rank K r) i)) (member_at (tree_of K) r (leaf_of_rank K r) i)
  alone_on r zero one hr le x j =
      ⊎_elim (λ n. let a : x < ranks_in K = n.there in omega arith)
      (λ n. let bad : true ≡ false = sym (S.treed.leaf r hr) ∙ n.is in cc)
      (member_is K S.root_free (leaf_of_rank K r) x j)
  alone_on r (suc i) one hr le x j =
      let q : ℕ = path (tree_of K) (leaf_of_rank K r) (suc i) in
      let dq : S.treed.depth (path (tree_of K) (leaf_of_rank K r) (suc i)) ≡ suc i = S.treed.deep r (suc i) hr le in
      let lq : path (tree_of K) (leaf_of_rank K r) (suc i) < how_many K = S.treed.there r (suc i) hr le in
      ⊎_elim
      (λ n. let z : S.treed.depth (path (tree_of K) (leaf_of_rank K r) (suc i)) ≡ 0 =
      S.treed.node (path (tree_of K) (leaf_of_rank K r) (suc i)) lq n.is in absurd (omega arith))
      (λ n.
      let o = S.treed.over x (path (tree_of K) (leaf_of_rank K r) (suc i)) n.there n.mine in
      let dx0 : S.treed.depth (path (tree_of K) (leaf_of_rank K r) (suc i)) ≡ suc (S.treed.depth x) = o.1 in
      let dx : S.treed.depth x ≡ i = omega arith in
      let zero_rank : 0 ≡ r = omega arith in
      S.lonely x one n.there ∙ ap (λ z. path (tree_of K) (leaf_of_rank K 0) z) dx ∙ ap (λ z. path (tree_of K) (leaf_of_rank K z) i) zero_rank)
      (member_is K S.root_free (path (tree_of K) (leaf_of_rank K r) (suc i)) x j)

-- nothing but a load waits; one that goes up, or gives up what is above, tells what was told before
pub up_goes : (b : Bool) (v : TreeView) (w : ℕ) (es : List Event) → ((goes_up b v w es).events ≡ es) × ((goes_up b v w es).waits ≡ false)
up_goes true v w es = (refl, refl)
up_goes false v w es = (refl, refl)

pub gives_goes : (b : Bool) (v : TreeView) (w : ℕ) (s : Option ℕ) (es : List Event) →
    ((gives_up b v w s es).events ≡ es) × ((gives_up b v w s es).waits ≡ false)
gives_goes true v w s es = (refl, refl)
gives_goes false v w s es = (refl, refl)

down_waits : (v : TreeView) (w : ℕ) (es : List Event) → (goes_down v w es).waits ≡ false
down_waits v zero es = refl
down_waits v (suc j) es = refl

pub walk_waits : (T : TheTree) (v : TreeView) (w : ℕ) (p : Phase) (es : List Event) (b : Bool) → b ≡ false → (tree_walk T v w p es b).waits ≡ false
walk_waits T v w Idle es b e = down_waits v w es
walk_waits T v w Settle es b e = (up_goes (is_none (T.parent (path T v.leaf w))) v w es).1
walk_waits T v w (Granted left) es b e = refl
walk_waits T v w (Above s) es b e = (gives_goes (is_none (T.parent (path T v.leaf w))) v w s es).1
walk_waits T v w _ es b e = e

-- no act is planned exactly where a rank is out or inside
pub rests_by : (n : TheNames) (m : ℕ) (p : Phase) → hook_by false p ≡ false → (plan_at n m p ≡ None) ↔ Rests (standing_of p)
rests_by n m Idle h = (λ e. tt, λ t. refl)
rests_by n m Settle h = cc
rests_by n m (Granted left) h = (λ e. tt, λ t. refl)
rests_by n m (Above succ) h = cc
rests_by n m _ h = (λ e. cc, λ t. absurd t)
