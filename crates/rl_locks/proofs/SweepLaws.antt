-- What a sweep has found it keeps through all steps of a machine, until it stores 2 there; and so it doesn't leave before.
use Rattle.std.proofs.Common.{◌≡◌, ◌≢◌, ◌⊎◌, ℕ, Bool, true, false, List, [], ◌∷◌, ◌++◌, length, nat_lt, slice_get, slice_index, Option, Some, None, refl, sym, ap, ◌∙◌, subst, inl, inr, ⊎_elim, arith}
use Rattle.rl_word.specs.laws.Places.{get_set_same, get_set_other, same_or_not, one_at}
use Rattle.rl_word.specs.declared.acts.Atom.{Atom}
use Rattle.rl_word.specs.declared.acts.Atom.TheVariants.{Store}
use Rattle.rl_model.specs.declared.call.Call.{Call}
use Rattle.rl_model.specs.declared.entry.Entry.{Entry}
use Rattle.rl_step.specs.Do.{TheWindow, do_got}
use Rattle.rl_site.specs.Transcript.{TheTranscript}
use Rattle.rl_core.specs.ShardTables.{ShardTable}
use Rattle.rl_core.specs.Moments.{Moment, CoreSays}
use Rattle.rl_core.specs.ShardLaws.{IsSeated}
use Rattle.rl_core.specs.Standings.{leaves}
use Rattle.rl_combine.specs.Combine.{TheCombineSide, found}
use Rattle.rl_combine.specs.Posts.{flag_word}
use Rattle.rl_machine.specs.Running.{ShardRun, Running, moment_of}
use Rattle.rl_machine.specs.ShardSteps.{open_at, open_on, opened_at, opened_on, makes, made_at, atom_on}
use Rattle.rl_step.specs.Traces.{events_of}
use Rattle.rl_machine.specs.Run.{changed, changed_if, on_shard, calls_by, place_of, has_open_call, opens, opened_if, block_opened, next_block, atom_made, stepped, run_of, AreThere}
use Rattle.rl_machine.specs.laws.StateSteps.{stepped_shape}
use Rattle.rl_machine.specs.laws.RestLaws.{open_shuts}
use Rattle.rl_machine.specs.Ruled.{AreRuled}
use Rattle.rl_core.specs.Asks.{block_shard}
use Rattle.rl_step.specs.Answers.{steps_made}
use Rattle.rl_rank.specs.declared.whole.WholeView.{WholeView}
use Rattle.rl_locks.specs.Combining.{posts, HasFound}
use Rattle.rl_locks.specs.SweepRuns.{MakesIn, left_so_far, StoresTwoFirst}

-- ---- what a step leaves of a shard, for the ranks that don't make it

-- a shard with the same table, on which rank k has the same view
record SameFor {V : Type 0} (k : ℕ) (S T : ShardRun V) : Type 0 where
  same_table : T.table ≡ S.table
  same_view : slice_get T.views k ≡ slice_get S.views k

changed_at : {V : Type 0} (shards : List (ShardRun V)) (p s : ℕ) (f : ShardRun V → ShardRun V) (S : ShardRun V) → slice_get shards s ≡ Some S →
    (slice_get (changed shards p f) s ≡ Some S) ⊎ (slice_get (changed shards p f) s ≡ Some (f S))
changed_at shards p s f S has =
    ⊎_elim
    (λ (e : s ≡ p).
    let here : slice_get shards p ≡ Some S = ap (slice_get shards) (sym e) ∙ has in
    inr (ap (slice_get (changed shards p f)) e ∙ ap (λ o. slice_get (changed_if shards p f o) p) here ∙ get_set_same shards p S (f S) here))
    (λ (ne : s ≢ p). inl (elsewhere (slice_get shards p) ne))
    (same_or_not s p)
  where
    elsewhere : (o : Option (ShardRun _)) → s ≢ p → slice_get (changed_if shards p f o) s ≡ Some S
    elsewhere None ne = has
    elsewhere (Some T) ne = get_set_other shards p s (f T) ne ∙ has

record Leaves {V : Type 0} (m : Running V) (s k : ℕ) (S : ShardRun V) : Type 0 where
  shard : ShardRun V
  has : slice_get m.shards s ≡ Some shard
  same : SameFor k S shard

opened_same : {V : Type 0} (S : ShardRun V) (j k seq : ℕ) (block : List Call) → k ≢ j → SameFor k S (opened_on j block seq S)
opened_same S j k seq block ne = by_view (slice_get S.views j) where
  by_view : (o : Option _) → SameFor k S (opened_at S j block seq o)
  by_view None = record { same_table = refl; same_view = refl }
  by_view (Some x) = record { same_table = refl; same_view = get_set_other S.views j k (S.table.opened block seq x) ne }

made_same : {V : Type 0} (S : ShardRun V) (j k step : ℕ) → k ≢ j → SameFor k S (atom_on j step S)
made_same S j k step ne = by_view (slice_get S.views j) where
  by_next : (x : _) (o : Option Atom) → SameFor k S (makes S j step x o)
  by_next x None = record { same_table = refl; same_view = refl }
  by_next x (Some at) = record { same_table = refl; same_view = get_set_other S.views j k (S.table.core.after x (do_got at S.held.words S.held.cards)).view ne }

  by_view : (o : Option _) → SameFor k S (made_at S j step o)
  by_view None = record { same_table = refl; same_view = refl }
  by_view (Some x) = by_next x (S.table.core.next x)

left_by : {V : Type 0} (m n : Running V) (p s k : ℕ) (f : ShardRun V → ShardRun V) (S : ShardRun V) → n.shards ≡ changed m.shards p f → ((T : ShardRun V) → SameFor k T (f T)) → slice_get m.shards s ≡ Some S → Leaves n s k S
left_by m n p s k f S is same has =
    ⊎_elim
    (λ q. record { shard = S; has = ap (λ l. slice_get l s) is ∙ q; same = record { same_table = refl; same_view = refl } })
    (λ q. record { shard = f S; has = ap (λ l. slice_get l s) is ∙ q; same = same S })
    (changed_at m.shards p s f S has)

step_leaves : {V : Type 0} (m : Running V) (j k s : ℕ) (S : ShardRun V) → k ≢ j → slice_get m.shards s ≡ Some S → Leaves (stepped m j) s k S
step_leaves m j k s S ne has =
    let first : Leaves (block_opened m j) s k S = by_opening (opens m j) in
    let then : Leaves (stepped m j) s k first.shard =
    left_by (block_opened m j) (stepped m j) (place_of (block_opened m j) j) s k (atom_on j (steps_made (block_opened m j).steps)) first.shard refl (λ T. made_same T j k (steps_made (block_opened m j).steps) ne) first.has in
    record {
      shard = then.shard;
      has = then.has;
      same = record { same_table = then.same.same_table ∙ first.same.same_table; same_view = then.same.same_view ∙ first.same.same_view };
    }
  where
    by_opening : (b : Bool) → Leaves (opened_if m j b) s k S
    by_opening false = record { shard = S; has = has; same = record { same_table = refl; same_view = refl } }
    by_opening true =
        left_by m (opened_if m j true) (block_shard m.geom (next_block m j)) s k (opened_on j (next_block m j) (slice_index m.opened j)) S refl (λ T. opened_same T j k (slice_index m.opened j) (next_block m j) ne) has

-- the front of a list of ranks that are there
front_there : (n : ℕ) (ks js : List ℕ) → AreThere n (ks ++ js) → AreThere n ks
front_there n [] js a = tt
front_there n (k ∷ ks) js a = (a.0, front_there n ks js a.1)

-- ---- what a sweep has found

-- whoever has found a flag goes on so, with the entries that it keeps, or stores 2 there
abbrev pub GoesOnFound : {V : Type 0} → ShardTable (WholeView V TheCombineSide) → TheWindow → List (WholeView V TheCombineSide) → Type 0
GoesOnFound T h vs =
    (r owner : ℕ) (x : WholeView _ TheCombineSide) (at : Atom) → HasFound T h vs r owner x → T.core.next x ≡ Some at →
    (at ≡ Store (flag_word (posts T) owner) 2)
    ⊎ ((found (T.core.after x (do_got at h.words h.cards)).view.work.stage ≡ Some owner) × ((T.core.after x (do_got at h.words h.cards)).view.work.kept ≡ x.work.kept))

module _ (C V : Type 0) (cores : List C) (says : C → CoreSays (WholeView V TheCombineSide))
    (found_on : (core : C) (m : Moment (WholeView V TheCombineSide)) → (says core).good m → GoesOnFound (says core).table m.held m.views)
    (in_call : (core : C) (x : WholeView V TheCombineSide) (owner : ℕ) → found x.work.stage ≡ Some owner → ((says core).table.own x).is_open ≡ true)
    (count : C → List Entry → ℕ)
    (left : (core : C) (m : Moment (WholeView V TheCombineSide)) (r : ℕ) (x : WholeView V TheCombineSide) → IsSeated (says core) m r x → leaves r m.trace ≡ count core x.work.kept.items) where
  abbrev Machine : Type 0
  Machine = Running (WholeView V TheCombineSide)

  abbrev Ruled : Machine → Type 0
  Ruled m = AreRuled says cores m

  -- rank k has still found the flag of the owner on shard s, and keeps these entries
  record Holding (m : Machine) (T : ShardTable (WholeView V TheCombineSide)) (s k owner : ℕ) (kept : TheTranscript) : Type 0 where
    shard : ShardRun (WholeView V TheCombineSide)
    has : slice_get m.shards s ≡ Some shard
    table_is : shard.table ≡ T
    view : WholeView V TheCombineSide
    there : slice_get shard.views k ≡ Some view
    found_it : found view.work.stage ≡ Some owner
    same : view.work.kept ≡ kept

  -- or stores 2 there next
  record StoresNow (m : Machine) (T : ShardTable (WholeView V TheCombineSide)) (s k owner : ℕ) : Type 0 where
    shard : ShardRun (WholeView V TheCombineSide)
    has : slice_get m.shards s ≡ Some shard
    stands : place_of m k ≡ s
    goes_on : opens m k ≡ false
    view : WholeView V TheCombineSide
    there : slice_get shard.views k ≡ Some view
    next : shard.table.core.next view ≡ Some (Store (flag_word (posts T) owner) 2)

  module _ (m : Machine) (ruled : Ruled m) (T : ShardTable (WholeView V TheCombineSide)) (s k owner : ℕ) (kept : TheTranscript) (o : Holding m T s k owner kept) where
    -- it stands on the shard, and opens no block
    open_here : (o.shard.table.own o.view).is_open ≡ true
    open_here = let q = ruled.shards s o.shard o.has in subst (λ z. (z.own o.view).is_open ≡ true) (sym q.is.table_is) (in_call q.core o.view owner o.found_it)

    stands : place_of m k ≡ s
    stands = ruled.stands s k o.shard o.view o.has o.there open_here

    opens_none : opens m k ≡ false
    opens_none =
        let at_place : slice_get m.shards (place_of m k) ≡ Some o.shard = ap (slice_get m.shards) stands ∙ o.has in
        let is_in : has_open_call m k ≡ true = ap (on_shard false (open_on k)) at_place ∙ ap (open_at o.shard.table) o.there ∙ open_here in
        open_shuts (has_open_call m k) (nat_lt (slice_index m.opened k) (length (calls_by m k))) is_in

    -- its own step
    own_step : StoresNow m T s k owner ⊎ Holding (stepped m k) T s k owner kept
    own_step =
        let S : ShardRun (WholeView V TheCombineSide) = o.shard in
        let n : ℕ = steps_made m.steps in
        let only_atom : stepped m k ≡ atom_made m k = ap (λ b. atom_made (opened_if m k b) k) opens_none in
        let here : slice_get m.shards (place_of m k) ≡ Some S = ap (slice_get m.shards) stands ∙ o.has in
        let shards_are : slice_get (atom_made m k).shards (place_of m k) ≡ Some (atom_on k n S) =
        ap (λ z. slice_get (changed_if m.shards (place_of m k) (atom_on k n) z) (place_of m k)) here ∙ get_set_same m.shards (place_of m k) S (atom_on k n S) here in
        let after : slice_get (stepped m k).shards s ≡ Some (makes S k n o.view (S.table.core.next o.view)) =
        ap (λ z. slice_get z.shards s) only_atom ∙ ap (slice_get (atom_made m k).shards) (sym stands) ∙ shards_are ∙ ap (λ z. Some (made_at S k n z)) o.there in
        by_next (S.table.core.next o.view) refl after
      where
        by_next : (next : Option Atom) → o.shard.table.core.next o.view ≡ next → slice_get (stepped m k).shards s ≡ Some (makes o.shard k (steps_made m.steps) o.view next) → StoresNow m T s k owner ⊎ Holding (stepped m k) T s k owner kept
        by_next None e after = inr (record { shard = o.shard; has = after; table_is = o.table_is; view = o.view; there = o.there; found_it = o.found_it; same = o.same })
        by_next (Some at) e after =
            let S : ShardRun (WholeView V TheCombineSide) = o.shard in
            let q = ruled.shards s S o.has in
            let law : GoesOnFound S.table S.held S.views = subst (λ z. GoesOnFound z S.held S.views) (sym q.is.table_is) (found_on q.core (moment_of S q.acts) q.is.is_good) in
            ⊎_elim
            (λ stores. inl (record {
              shard = S;
              has = o.has;
              stands = stands;
              goes_on = opens_none;
              view = o.view;
              there = o.there;
              next = e ∙ ap (λ z. Some z) stores ∙ ap (λ z. Some (Store (flag_word (posts z) owner) 2)) o.table_is;
            }))
            (λ still. inr (record {
              shard = makes S k (steps_made m.steps) o.view (Some at);
              has = after;
              table_is = o.table_is;
              view = (S.table.core.after o.view (do_got at S.held.words S.held.cards)).view;
              there = get_set_same S.views k o.view (S.table.core.after o.view (do_got at S.held.words S.held.cards)).view o.there;
              found_it = still.0;
              same = still.1 ∙ o.same;
            }))
            (law k owner o.view at (record { there = o.there; found_it = o.found_it }) e)

    -- and that of another rank
    others_step : (j : ℕ) → k ≢ j → Holding (stepped m j) T s k owner kept
    others_step j ne =
        let q = step_leaves m j k s o.shard ne o.has in
        record { shard = q.shard; has = q.has; table_is = q.same.same_table ∙ o.table_is; view = o.view; there = q.same.same_view ∙ o.there; found_it = o.found_it; same = o.same }

    any_step : (j : ℕ) → ((k ≡ j) × StoresNow m T s k owner) ⊎ Holding (stepped m j) T s k owner kept
    any_step j =
        ⊎_elim
        (λ (e : k ≡ j). ⊎_elim (λ now. inl (e, now)) (λ h. inr (subst (λ n. Holding (stepped m n) T s k owner kept) e h)) own_step)
        (λ (ne : k ≢ j). inr (others_step j ne))
        (same_or_not k j)

  -- one of rank k's steps in a run of these ranks stores 2 there, and up to it the rank has still found the flag
  record StoresIn (m : Machine) (ks : List ℕ) (T : ShardTable (WholeView V TheCombineSide)) (s k owner : ℕ) (kept : TheTranscript) : Type 0 where
    made : MakesIn m ks s k (Store (flag_word (posts T) owner) 2)
    still : Holding (run_of m made.before) T s k owner kept

  holds_through : (m : Machine) (ks : List ℕ) → AreThere (length m.calls) ks → ((js : List ℕ) → AreThere (length m.calls) js → Ruled (run_of m js)) → (T : ShardTable (WholeView V TheCombineSide)) (s k owner : ℕ) (kept : TheTranscript) →
      Holding m T s k owner kept → StoresIn m ks T s k owner kept ⊎ Holding (run_of m ks) T s k owner kept
  holds_through m [] there ruled T s k owner kept o = inr o
  holds_through m (j ∷ ks) there ruled T s k owner kept o =
      let same : (stepped m j).calls ≡ m.calls = (stepped_shape m j).1 in
      ⊎_elim
      (λ q. let now = q.1 in
      inl (record {
        made = record { before = []; rest = ks; is = ap (λ z. z ∷ ks) (sym q.0); stands = now.stands; goes_on = now.goes_on; shard = now.shard; has = now.has; view = now.view; there = now.there; next = now.next };
        still = o;
      }))
      (λ h. ⊎_elim
      (λ (later : StoresIn (stepped m j) ks T s k owner kept).
      let made = later.made in
      inl (record {
        made = record {
          before = j ∷ made.before;
          rest = made.rest;
          is = ap (λ z. j ∷ z) made.is;
          stands = made.stands;
          goes_on = made.goes_on;
          shard = made.shard;
          has = made.has;
          view = made.view;
          there = made.there;
          next = made.next;
        };
        still = later.still;
      }))
      (λ end. inr end)
      (holds_through (stepped m j) ks (subst (λ c. AreThere (length c) ks) (sym same) there.1) (λ js low. ruled (j ∷ js) (there.0, subst (λ c. AreThere (length c) js) same low)) T s k owner kept h))
      (any_step m (ruled [] tt) T s k owner kept o j)

  -- how often the rank has left, by the entries that it keeps
  left_is : (m : Machine) → Ruled m → (s k : ℕ) (core : C) (S : ShardRun (WholeView V TheCombineSide)) (x : WholeView V TheCombineSide) → slice_get cores s ≡ Some core → slice_get m.shards s ≡ Some S → slice_get S.views k ≡ Some x →
      left_so_far m s k ≡ count core x.work.kept.items
  left_is m ruled s k core S x has_core has view =
      let q = ruled.shards s S has in
      ap (λ o. leaves k (events_of (on_shard [] (λ z. z.trace) o))) has ∙ left q.core (moment_of S q.acts) k x (record { is_good = q.is.is_good; has = view })
      ∙ ap (λ c. count c x.work.kept.items) (one_at cores s q.core core q.has_core has_core)

  pub stores_first : (m : Machine) → ((ks : List ℕ) → AreThere (length m.calls) ks → Ruled (run_of m ks)) → StoresTwoFirst m
  stores_first m ruled ks s k owner S x there has f leaves_more =
      let q = (ruled [] tt).shards s S has in
      let first : left_so_far m s k ≡ count q.core x.work.kept.items = left_is m (ruled [] tt) s k q.core S x q.has_core has f.there in
      let last : (js : List ℕ) → AreThere (length m.calls) js → Holding (run_of m js) S.table s k owner x.work.kept → left_so_far (run_of m js) s k ≡ left_so_far m s k =
      λ js low o. left_is (run_of m js) (ruled js low) s k q.core o.shard o.view q.has_core o.has o.there ∙ ap (λ z. count q.core z.items) o.same ∙ sym first in
      ⊎_elim
      (λ (o : StoresIn m ks S.table s k owner x.work.kept).
      let made = o.made in
      (made, last made.before (front_there (length m.calls) made.before (k ∷ made.rest) (subst (AreThere (length m.calls)) made.is there)) o.still))
      (λ (o : Holding (run_of m ks) S.table s k owner x.work.kept). let same = last ks there o in absurd (omega arith))
      (holds_through m ks there ruled S.table s k owner x.work.kept (record { shard = S; has = has; table_is = refl; view = x; there = f.there; found_it = f.found_it; same = refl }))
