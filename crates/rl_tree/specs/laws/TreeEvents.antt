-- The queues of a tree by number, and its events: what they name, and the settlements on a path.
use Rattle.std.specs.Prelude.{◌≡◌, ℕ, zero, suc, ◌+◌, ◌<◌, ◌≤◌, false, List, [], ◌∷◌, ◌++◌, length, slice_get, Some, refl}
use Rattle.std.proofs.Common.{sym, ◌∙◌, ap, arith}
use Rattle.std.proofs.lemmas.Option.{same_Some}
use Rattle.rl_step.specs.declared.events.Event.{Event}
use Rattle.rl_step.specs.declared.events.Event.TheVariants as event
use Rattle.rl_step.specs.Lock.{InOrder, IsMember, AllNamed, holds_only}
use Rattle.rl_step.specs.Queues.{QueueOf}
use Rattle.rl_tree.specs.Tree.{settles_below}
use Rattle.rl_tree.specs.declared.rooted.Rooted.{Rooted}
use Rattle.rl_tree.specs.Elements.{how_many, tree_of, queue_at, queues_from}
use Rattle.rl_tree.specs.TreeGood.{InQueue}
use Rattle.rl_tree.specs.laws.TreePaths.{OnPath, el, me, el_there, el_up, el_in}

-- the queues by number
queues_at : (K : Rooted) (from n q : ℕ) → q < n → slice_get (queues_from K from n) q ≡ Some (queue_at K (from + q))
queues_at K from zero q h = absurd (omega arith)
queues_at K from (suc n) zero h = let e : from ≡ from + 0 = omega arith in ap (λ z. Some (queue_at K z)) e
queues_at K from (suc n) (suc q) h =
    let k : q < n = omega arith in
    let e : (from + 1) + q ≡ from + suc q = omega arith in queues_at K (from + 1) n q k ∙ ap (λ z. Some (queue_at K z)) e

queues_back : (K : Rooted) (from n q : ℕ) (d : QueueOf) → slice_get (queues_from K from n) q ≡ Some d → (q < n) × (d ≡ queue_at K (from + q))
queues_back K from zero q d h = cc
queues_back K from (suc n) zero d h = let e : from ≡ from + 0 = omega arith in (omega arith, sym (same_Some _ _ h) ∙ ap (queue_at K) e)
queues_back K from (suc n) (suc q) d h =
    let k = queues_back K (from + 1) n q d h in
    let e : (from + 1) + q ≡ from + suc q = omega arith in
    let lt : q < n = k.0 in (omega arith, k.1 ∙ ap (queue_at K) e)

pub queue_is : (K : Rooted) (q : ℕ) (d : QueueOf) → slice_get (queues_from K 0 (how_many K)) q ≡ Some d → (q < how_many K) × (d ≡ queue_at K q)
queue_is K q d h =
    let k = queues_back K 0 (how_many K) q d h in
    let e : 0 + q ≡ q = omega arith in (k.0, k.1 ∙ ap (queue_at K) e)

pub is_member : (K : Rooted) (q m : ℕ) → q < how_many K → InQueue K q m → IsMember (queues_from K 0 (how_many K)) q m
is_member K q m h i =
    let e : 0 + q ≡ q = omega arith in
    record { queue = queue_at K q; is_queue = queues_at K 0 (how_many K) q h ∙ ap (λ z. Some (queue_at K z)) e; is_member = i.is }

-- events that name queues and members of the tree
abbrev pub Named : Rooted → List Event → Type 0
Named K es = AllNamed (queues_from K 0 (how_many K)) (λ c. false) es

pub named_append : (K : Rooted) (es fs : List Event) → Named K es → Named K fs → Named K (es ++ fs)
named_append K [] fs a b = b
named_append K (e ∷ es) fs a b = (a.0, named_append K es fs a.1 b)

pub holds_append : (es fs : List Event) → holds_only es ≡ [] → holds_only (es ++ fs) ≡ holds_only fs
holds_append [] fs h = refl
holds_append (event.Join q m ∷ es) fs h = holds_append es fs h
holds_append (event.Announce c ∷ es) fs h = holds_append es fs h
holds_append (event.Pass q m ∷ es) fs h = holds_append es fs h
holds_append (event.Settle q m ∷ es) fs h = holds_append es fs h
holds_append (event.Touch k w ∷ es) fs h = cc
holds_append (event.EnterW k ∷ es) fs h = cc
holds_append (event.EnterR k ∷ es) fs h = cc
holds_append (event.LeaveW k ∷ es) fs h = cc
holds_append (event.LeaveR k ∷ es) fs h = cc

pub append_length : (es fs : List Event) → length (es ++ fs) ≡ length es + length fs
append_length [] fs = omega arith
append_length (e ∷ es) fs = let k = append_length es fs in omega arith

module _ {K : Rooted} {levels : ℕ} (r : OnPath K levels) where
  -- the settlements below a level, and the entry after them
  pub settles_order : (j : ℕ) → j ≤ suc levels → InOrder (settles_below (tree_of K) r.view j ++ event.EnterW r.view.rank ∷ [])
  settles_order zero le = tt
  settles_order (suc zero) le = (omega arith, tt)
  settles_order (suc (suc i)) le =
      let a : el r (suc i) < el r i =
      r.well.rising (el r i) (el r (suc i)) (el_there r i (omega arith)) (el_up r i (omega arith)) in
      (a, settles_order (suc i) (omega arith))

  pub settles_length : (j : ℕ) → length (settles_below (tree_of K) r.view j) ≡ j
  settles_length zero = refl
  settles_length (suc j) = ap suc (settles_length j)

  pub settles_hold : (j : ℕ) → holds_only (settles_below (tree_of K) r.view j) ≡ []
  settles_hold zero = refl
  settles_hold (suc j) = settles_hold j

  pub settles_named : (j : ℕ) → j ≤ suc levels → Named K (settles_below (tree_of K) r.view j)
  settles_named zero le = tt
  settles_named (suc j) le = (is_member K (el r j) (me r j) (el_there r j (omega arith)) (el_in r j (omega arith)), settles_named j (omega arith))

  pub settles_enter : (j : ℕ) → j ≤ suc levels → Named K (settles_below (tree_of K) r.view j ++ event.EnterW r.view.rank ∷ [])
  settles_enter j le = named_append K (settles_below (tree_of K) r.view j) (event.EnterW r.view.rank ∷ []) (settles_named j le) (tt, tt)
