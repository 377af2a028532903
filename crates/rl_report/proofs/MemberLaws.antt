-- What a lock of a placement names in an event a report may name: the queues' members, and the cohorts.
use Rattle.std.proofs.Common.{◌≡◌, ℕ, zero, suc, ◌+◌, ◌-◌, ◌<◌, ◌≤◌, ◌==◌, ◌&&◌, ◌||◌, Bool, true, false, cond, eqb, List, [], ◌∷◌, length, Option, Some, None, refl, sym, ap, ◌∙◌, arith, eq-eqb}
use Rattle.std.specs.Prelude.{slice_get, nat_lt}
use Rattle.std.proofs.lemmas.Bool.{ne_eqb}
use Rattle.std.proofs.lemmas.Bool.Decides.{nat_tests}
use Rattle.std.proofs.lemmas.List.{length-map}
use Rattle.std.proofs.lemmas.Option.{same_Some}
use Rattle.rl_word.specs.laws.Places.{get_map, get_map_back, some_at}
use Rattle.rl_word.specs.declared.locks.QueueKind.{QueueKind}
use Rattle.rl_word.specs.declared.locks.QueueKind.TheVariants.{NoQueue, OneForAll, TwoCohorts, Elements}
use Rattle.rl_word.specs.LockFacts.{has_cohorts}
use Rattle.rl_word.specs.declared.shapes.Element.{Element}
use Rattle.rl_word.specs.declared.shapes.Knobs.{Knobs}
use Rattle.rl_word.specs.Shapes.{TheShape}
use Rattle.rl_step.specs.Lock.{IsMember}
use Rattle.rl_step.specs.Queues.{QueueOf}
use Rattle.rl_step.specs.LockQueues.{queues_of_kind, root_budget, all_ranks, cohort_queue, cohort_queues, same, sits_at, stands, is_node, is_in, leaf_of, parent_of, is_at as is_parent, element_queue as queue_in, element_queues as queues_in}
use Rattle.rl_place.specs.declared.path.Path.{Path}
use Rattle.rl_place.specs.LockWords.{lock_word, name_of}
use Rattle.rl_place.specs.Paths.{IsPath, prefix}
use Rattle.rl_place.specs.Numbering.{node_paths, element_paths}
use Rattle.rl_place.specs.Places.{ThePlace, IsProper}
use Rattle.rl_place.specs.Shapes.{shape_of, knobs_of, number_in, parent_in, element_of}
use Rattle.rl_place.proofs.PrefixLaws.{trim-path, prefix-whole, prefix-prefix}
use Rattle.rl_place.proofs.SeenLaws.{number_is}
use Rattle.rl_place.proofs.NumberingLaws.{nodes-are, ElementsAre, elements-are}
use Rattle.rl_report.specs.Naming.{TheNaming, queue_kind, cohort_queue_names, element_queue_name, element_queue_names, queue_names, parent_is_at, is_below, may_be_in, is_member, naming_of}
use Rattle.rl_report.specs.Lawful.{queues_at}
use Rattle.rl_report.proofs.NamingLaws.{all_paths, all_trim}

left_true : (a b : Bool) → (a && b) ≡ true → a ≡ true
left_true true b e = refl
left_true false b e = e

same_number : (a b : ℕ) → (a == b) ≡ true → a ≡ b
same_number a b q = grind (arith, nat_tests)

-- what a list has at a number that stands in it
stands_at : (xs : List ℕ) (e : ℕ) → stands xs e ≡ true → (i : ℕ) × (slice_get xs i ≡ Some e)
stands_at [] e h = absurd (cc)
stands_at (x ∷ xs) e h =
    elim (x == e) as (λ b. (x == e) ≡ b → (i : ℕ) × (slice_get (x ∷ xs) i ≡ Some e)) [
      | true ↦ λ q. (0, ap (λ z. Some z) (same_number x e q))
      | false ↦ λ q. let on = stands_at xs e (sym (ap (λ b. b || stands xs e) q) ∙ h) in (suc on.0, on.1)
    ] refl

-- the queue of an element
queue_there : (shape : TheShape) (root : Option ℕ) (from n q : ℕ) (d : QueueOf) → slice_get (queues_in shape root from n) q ≡ Some d → (q < n) × (d ≡ queue_in shape root (from + q))
queue_there shape root from zero q d get = absurd (cc)
queue_there shape root from (suc n) zero d get = let at : from ≡ from + 0 = omega arith in (omega arith, sym (same_Some _ _ get) ∙ ap (queue_in shape root) at)
queue_there shape root from (suc n) (suc q) d get =
    let on = queue_there shape root (from + 1) n q d get in
    let low = on.0 in
    let at : from + 1 + q ≡ from + suc q = omega arith in
    (omega arith, on.1 ∙ ap (queue_in shape root) at)

module _ (place : ThePlace) (proper : IsProper place) where
  abbrev names : List Path
  names = element_paths place.paths

  abbrev nodes : List Path
  nodes = node_paths place.paths

  abbrev shape : TheShape
  shape = shape_of place

  are : ElementsAre place.paths names
  are = elements-are place.paths proper.some_ranks (all_trim place.levels place.paths proper.paths)

  whole : (r : ℕ) (p : Path) → slice_get place.paths r ≡ Some p → IsPath place.levels p
  whole r p get = all_paths place.levels place.paths r p proper.paths get

  levels_of : (r : ℕ) (p : Path) → slice_get place.paths r ≡ Some p → p.len ≡ place.levels
  levels_of r p get = let w = whole r p get in ap (λ (q : Path). q.len) w.is ∙ w.count

  -- a node's element has all numbers
  node_long : (q : ℕ) (p : Path) → slice_get names q ≡ Some p → is_node shape q ≡ true → p.len ≡ place.levels
  node_long q p get node =
      let at = stands_at shape.leaf_of q node in
      let back = get_map_back (number_in names) nodes at.0 q at.1 in
      let r = (nodes-are place.paths).of at.0 back.0 back.1 in
      let i = are.each r.0 back.0 r.1 back.0.len (omega arith) in
      let here : slice_get names i.0 ≡ Some back.0 = i.1 ∙ ap (λ z. Some z) (prefix-whole back.0 (trim-path place.levels back.0 (whole r.0 back.0 r.1))) in
      let same : i.0 ≡ q = sym (number_is names back.0 i.0 are.are.once here) ∙ back.2 in
      ap (λ (z : Path). z.len) (same_Some _ _ (sym get ∙ ap (slice_get names) (sym same) ∙ here)) ∙ levels_of r.0 back.0 r.1

  -- an element above another has fewer numbers
  record IsAbove (q m : ℕ) : Type 0 where
    name : Path
    at : slice_get names m ≡ Some name
    parent : parent_in names name ≡ Some q
    up : (p : Path) → slice_get names q ≡ Some p → p.len < place.levels

  parent_number : (b : Bool) (n q : ℕ) → cond b None (Some n) ≡ Some q → (b ≡ false) × (n ≡ q)
  parent_number true n q e = absurd (cc)
  parent_number false n q e = (refl, same_Some n q e)

  positive : (n : ℕ) → eqb n 0 ≡ false → 1 ≤ n
  positive zero e = absurd (cc)
  positive (suc n) e = omega arith

  above : (q m : ℕ) (x : Element) → slice_get shape.elements m ≡ Some x → x.parent ≡ Some q → IsAbove q m
  above q m x get is =
      let back = get_map_back (element_of place.lock nodes names) names m x get in
      let name : Path = back.0 in
      let parent : parent_in names name ≡ Some q = ap (λ (y : Element). y.parent) back.2 ∙ is in
      let p = parent_number (eqb name.len 0) (number_in names (prefix name (name.len - 1))) q parent in
      let some : 1 ≤ name.len = positive name.len p.0 in
      let f = are.are.of m name back.1 in
      let most : name.len ≤ f.path.len = f.most in
      let all : f.path.len ≡ place.levels = levels_of f.there.0 f.path f.there.1 in
      let i = are.each f.there.0 f.path f.there.1 (name.len - 1) (omega arith) in
      let same : prefix name (name.len - 1) ≡ prefix f.path (name.len - 1) =
      ap (λ (z : Path). prefix z (name.len - 1)) f.is ∙ prefix-prefix f.path (name.len - 1) name.len (trim-path place.levels f.path (whole f.there.0 f.path f.there.1)) (omega arith) most in
      let here : slice_get names i.0 ≡ Some (prefix name (name.len - 1)) = i.1 ∙ ap (λ z. Some z) (sym same) in
      let number : i.0 ≡ q = sym (number_is names (prefix name (name.len - 1)) i.0 are.are.once here) ∙ p.1 in
      record {
        name = name;
        at = back.1;
        parent = parent;
        up = λ u get_u.
            let len : u.len ≡ name.len - 1 = ap (λ (z : Path). z.len) (same_Some _ _ (sym get_u ∙ ap (slice_get names) (sym number) ∙ here)) in
            omega arith;
      }

  -- a naming of the queues of this kind
  abbrev naming_with : QueueKind → TheNaming
  naming_with kind = record { lock = lock_word (name_of place.lock); ranks = length place.paths; shards = place.geom.shards; cohorts = has_cohorts kind; queues = queue_names kind place.levels place.paths }

  ranks_long : length shape.node_of ≡ length place.paths
  ranks_long = length-map place.paths (number_in nodes)

  rank_there : (m : ℕ) → nat_lt m (length shape.node_of) ≡ true → nat_lt m (length place.paths) ≡ true
  rank_there m h = ap (nat_lt m) (sym ranks_long) ∙ h

  -- a rank in a node's queue
  node_in : (q m : ℕ) → is_node shape q ≡ true → is_in shape q m ≡ true → nat_lt m (length place.paths) ≡ true
  node_in q m node member =
      rank_there m (left_true (nat_lt m (length shape.node_of)) (leaf_of shape m == q)
      (sym (ap (λ b. cond b (nat_lt m (length shape.node_of) && (leaf_of shape m == q)) (is_parent (parent_of (slice_get shape.elements m)) q)) node) ∙ member))

  -- an element in the queue of the one above it
  parent_is : (q : ℕ) (o : Option Element) → is_parent (parent_of o) q ≡ true → (x : Element) × (o ≡ Some x) × (x.parent ≡ Some q)
  parent_is q None h = absurd (cc)
  parent_is q (Some x) h = by x.parent refl h where
    by : (u : Option ℕ) → x.parent ≡ u → is_parent u q ≡ true → (y : Element) × (◌≡◌ {A = Option Element} (Some x) (Some y)) × (y.parent ≡ Some q)
    by None e h = absurd (cc)
    by (Some p) e h = (x, refl, e ∙ ap (λ z. Some z) (same_number p q h))

  element_in : (q m : ℕ) → is_node shape q ≡ false → is_in shape q m ≡ true → IsAbove q m
  element_in q m node member =
      let h : is_parent (parent_of (slice_get shape.elements m)) q ≡ true =
      sym (ap (λ b. cond b (nat_lt m (length shape.node_of) && (leaf_of shape m == q)) (is_parent (parent_of (slice_get shape.elements m)) q)) node) ∙ member in
      let x = parent_is q (slice_get shape.elements m) h in
      above q m x.0 x.1 x.2

  -- the queues of a tree, by a naming of them
  module _ (N : TheNaming) (ranks : N.ranks ≡ length place.paths) (queues : N.queues ≡ element_queue_names place.levels names) where
    named_at : (q : ℕ) (p : Path) → slice_get names q ≡ Some p → slice_get N.queues q ≡ Some (element_queue_name place.levels names p)
    named_at q p get = ap (λ z. slice_get z q) queues ∙ get_map (element_queue_name place.levels names) names q p get

    may_be : (q m : ℕ) (p : Path) → slice_get names q ≡ Some p → is_in shape q m ≡ true → (b : Bool) → is_node shape q ≡ b → cond (p.len == place.levels) (nat_lt m N.ranks) (is_below q (slice_get N.queues m)) ≡ true
    may_be q m p get member true node =
        let long : (p.len == place.levels) ≡ true = eq-eqb p.len place.levels (node_long q p get node) in
        ap (λ b. cond b (nat_lt m N.ranks) (is_below q (slice_get N.queues m))) long ∙ ap (nat_lt m) ranks ∙ node_in q m node member
    may_be q m p get member false node =
        let a = element_in q m node member in
        let low : p.len < place.levels = a.up p get in
        let short : (p.len == place.levels) ≡ false = ne_eqb p.len place.levels (λ e. absurd (omega (arith, low, e))) in
        ap (λ b. cond b (nat_lt m N.ranks) (is_below q (slice_get N.queues m))) short
        ∙ ap (is_below q) (named_at m a.name a.at) ∙ ap (parent_is_at q) a.parent ∙ eq-eqb q q refl

    pub in_tree : (root : Option ℕ) (q m : ℕ) → IsMember (queues_in shape root 0 (length shape.elements)) q m → is_member N q m ≡ true
    in_tree root q m is =
        let t = queue_there shape root 0 (length shape.elements) q is.queue is.is_queue in
        let none : 0 + q ≡ q = omega arith in
        let member : is_in shape q m ≡ true = ap (λ (d : QueueOf). d.members m) (sym (t.1 ∙ ap (queue_in shape root) none)) ∙ is.is_member in
        let low : q < length names = let h = t.0 in let n = length-map names (element_of place.lock nodes names) in omega arith in
        let p = some_at names q low in
        ap (may_be_in N q m) (named_at q p.0 p.1) ∙ may_be q m p.0 p.1 member (is_node shape q) refl

  -- a rank of a cohort
  first_rank : (b : Bool) (m : ℕ) → (nat_lt m (length shape.node_of) && b) ≡ true → nat_lt m (length place.paths) ≡ true
  first_rank b m h = rank_there m (left_true (nat_lt m (length shape.node_of)) b h)

  in_cohorts : (N : TheNaming) (home q m : ℕ) (knobs : Knobs) → N.ranks ≡ length place.paths → N.queues ≡ cohort_queue_names → IsMember (cohort_queues shape home knobs) q m → is_member N q m ≡ true
  in_cohorts N home zero m knobs ranks queues is =
      let d : cohort_queue home shape.node_of true knobs.local ≡ is.queue = same_Some _ _ is.is_queue in
      ap (λ z. may_be_in N 0 m (slice_get z 0)) queues ∙ ap (nat_lt m) ranks ∙ first_rank (same true (sits_at home shape.node_of m)) m (ap (λ (z : QueueOf). z.members m) d ∙ is.is_member)
  in_cohorts N home (suc zero) m knobs ranks queues is =
      let d : cohort_queue home shape.node_of false knobs.remote ≡ is.queue = same_Some _ _ is.is_queue in
      ap (λ z. may_be_in N 1 m (slice_get z 1)) queues ∙ ap (nat_lt m) ranks ∙ first_rank (same false (sits_at home shape.node_of m)) m (ap (λ (z : QueueOf). z.members m) d ∙ is.is_member)
  in_cohorts N home (suc (suc q)) m knobs ranks queues is = absurd (let bad = is.is_queue in cc)

  by_kind : (kind : QueueKind) (home : ℕ) (knobs : Knobs) (q m : ℕ) → IsMember (queues_of_kind kind shape home knobs) q m → is_member (naming_with kind) q m ≡ true
  by_kind NoQueue home knobs q m is = absurd (let bad = is.is_queue in cc)
  by_kind OneForAll home knobs zero m is =
      let d : all_ranks (length shape.node_of) ≡ is.queue = same_Some _ _ is.is_queue in
      rank_there m (ap (λ (z : QueueOf). z.members m) d ∙ is.is_member)
  by_kind OneForAll home knobs (suc q) m is = absurd (let bad = is.is_queue in cc)
  by_kind TwoCohorts home knobs q m is = in_cohorts (naming_with TwoCohorts) home q m knobs refl refl is
  by_kind (Elements root) home knobs q m is = in_tree (naming_with (Elements root)) refl refl (root_budget root knobs) q m is

  -- a member of a queue of the lock on a home is one that an event may name
  pub member_named : (home q m : ℕ) → IsMember (queues_at place home) q m → is_member (naming_of place) q m ≡ true
  member_named home q m is = by_kind (queue_kind place.lock) home (knobs_of place.lock) q m is
