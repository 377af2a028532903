-- Who goes next by the cores of a machine goes next by the kind: the cores have the tables that are defined, so at each a rank goes on as urgently
-- as it is defined.
use Rattle.std.specs.Prelude.{◌≡◌, ℕ, zero, suc, ◌+◌, Bool, true, false, List, [], ◌∷◌, drop, map, slice_get, slice_index, Option, Some, None, refl}
use Rattle.std.proofs.Common.{sym, ◌∙◌, ap, subst, ⊎_elim, inl, inr}
use Rattle.std.proofs.lemmas.Option.{same_Some}
use Rattle.rl_word.specs.declared.acts.Atom.{Atom}
use Rattle.rl_model.specs.declared.call.Call.{Call}
use Rattle.rl_ending.specs.Guiding.{IsChosen}
use Rattle.rl_place.specs.Places.{ThePlace}
use Rattle.rl_place.specs.Shapes.{shape_of, knobs_of}
use Rattle.rl_ops.specs.declared.ops.Ops.{Ops}
use Rattle.rl_ops.specs.declared.schedule.Turn.{Turn}
use Rattle.rl_core.specs.ShardTables.{ShardTable}
use Rattle.rl_core.specs.Moments.{CoreSays}
use Rattle.rl_step.specs.Answers.{steps_made}
use Rattle.rl_core.specs.Asks.{block_shard}
use Rattle.rl_machine.specs.Running.{ShardRun, Running, TheShard, TheMachine, shard_run, running, shard_cores, cores_of}
use Rattle.rl_machine.specs.ShardSteps.{opened_at, opened_on, makes, made_at, atom_on}
use Rattle.rl_machine.specs.Run.{changed_if, changed, place_of, next_block, opens, opened_if, block_opened, stepped, run_of, ranks_of_turns}
use Rattle.rl_machine.specs.GoesNext.{IsChosenOn, GoesNext}
use Rattle.rl_machine.specs.Start.{site_of, first_shards, start_of}
use Rattle.rl_finish.specs.WayOn.{IsWayOn}
use Rattle.rl_locks.specs.Kinds.{Defined}
use Rattle.rl_locks.specs.Urgencies.{Urgent, GoesAsDefined}
use Rattle.rl_locks.specs.Runs.{machine_after}
use Rattle.rl_completed.specs.Completing.{urgencies_from, GoNext}

-- ---- a run leaves the tables of the shards

module _ {V : Type 0} where
  abbrev tables_of : List (ShardRun V) → List (ShardTable V)
  tables_of shards = map (λ S. S.table) shards

  -- a shard becomes one with the same table
  abbrev KeepsTable : (ShardRun V → ShardRun V) → Type 0
  KeepsTable f = (S : ShardRun V) → (f S).table ≡ S.table

  set_behind : (S : ShardRun V) (shards : List (ShardRun V)) (s : ℕ) (f : ShardRun V → ShardRun V) (o : Option (ShardRun V)) → slice_get shards s ≡ o → tables_of (changed shards s f) ≡ tables_of shards →
      tables_of (changed_if (S ∷ shards) (suc s) f o) ≡ S.table ∷ tables_of shards
  set_behind S shards s f None e same = refl
  set_behind S shards s f (Some at) e same = ap (λ ts. S.table ∷ ts) (sym (ap (λ o. tables_of (changed_if shards s f o)) e) ∙ same)

  set_tables : (shards : List (ShardRun V)) (s : ℕ) (f : ShardRun V → ShardRun V) → KeepsTable f → tables_of (changed shards s f) ≡ tables_of shards
  set_tables [] s f keeps = refl
  set_tables (S ∷ shards) zero f keeps = ap (λ T. T ∷ tables_of shards) (keeps S)
  set_tables (S ∷ shards) (suc s) f keeps = set_behind S shards s f (slice_get shards s) refl (set_tables shards s f keeps)

  opened_table : (k : ℕ) (block : List Call) (seq : ℕ) → KeepsTable (opened_on k block seq)
  opened_table k block seq S = by_view (slice_get S.views k) where
    by_view : (o : Option V) → (opened_at S k block seq o).table ≡ S.table
    by_view None = refl
    by_view (Some x) = refl

  made_table : (k step : ℕ) → KeepsTable (atom_on k step)
  made_table k step S = by_view (slice_get S.views k) where
    by_atom : (x : V) (o : Option Atom) → (makes S k step x o).table ≡ S.table
    by_atom x None = refl
    by_atom x (Some at) = refl

    by_view : (o : Option V) → (made_at S k step o).table ≡ S.table
    by_view None = refl
    by_view (Some x) = by_atom x (S.table.core.next x)

  open_tables : (m : Running V) (k : ℕ) (b : Bool) → tables_of (opened_if m k b).shards ≡ tables_of m.shards
  open_tables m k false = refl
  open_tables m k true = set_tables m.shards (block_shard m.geom (next_block m k)) (opened_on k (next_block m k) (slice_index m.opened k)) (opened_table k (next_block m k) (slice_index m.opened k))

  run_tables : (m : Running V) (ks : List ℕ) → tables_of (run_of m ks).shards ≡ tables_of m.shards
  run_tables m [] = refl
  run_tables m (k ∷ ks) =
      run_tables (stepped m k) ks ∙ set_tables (block_opened m k).shards (place_of (block_opened m k) k) (atom_on k (steps_made (block_opened m k).steps)) (made_table k (steps_made (block_opened m k).steps)) ∙ open_tables m k (opens m k)

-- the tables of a machine are those of its cores
core_tables : {C V : Type 0} (says : C → CoreSays V) (shards : List (TheShard C V)) → tables_of (map (shard_run says) shards) ≡ map (λ core. (says core).table) (shard_cores shards)
core_tables says [] = refl
core_tables says (S ∷ shards) = ap (λ ts. (says S.core).table ∷ ts) (core_tables says shards)

-- ---- two lists that say the same of a rank

module _ {C D V : Type 0} (urgent : C → List ℕ → V → Option ℕ) (others : D → List ℕ → V → Option ℕ) (cores : List C) (ds : List D) where
  -- what the other list has for a core, and says the same
  record HasAlike (s : ℕ) (core : C) : Type 0 where
    pub other : D
    pub has : slice_get ds s ≡ Some other
    pub alike : (words : List ℕ) (v : V) → urgent core words v ≡ others other words v

  abbrev AreAlike : Type 0
  AreAlike = (s : ℕ) (core : C) → slice_get cores s ≡ Some core → HasAlike s core

  chosen_alike : (f g : V → Option ℕ) (vs : List V) (r : ℕ) → ((v : V) → f v ≡ g v) → IsChosen f vs r → IsChosen g vs r
  chosen_alike f g vs r same c =
      record {
        view = c.view;
        has = c.has;
        urgency = c.urgency;
        is_urgent = sym (same c.view) ∙ c.is_urgent;
        least = λ i v n has is. c.least i v n has (same v ∙ is);
        first = λ i v n has is low. c.first i v n has (same v ∙ is) low;
      }

  module _ (alike : AreAlike) where
    chosen_on : (m : Running V) (shard r : ℕ) → IsChosenOn urgent cores m shard r → IsChosenOn others ds m shard r
    chosen_on m shard r c =
        let a = alike shard c.core c.has_core in
        record {
          core = a.other;
          has_core = a.has;
          state = c.state;
          has = c.has;
          chosen = chosen_alike (urgent c.core c.state.held.words) (others a.other c.state.held.words) c.state.views r (a.alike c.state.held.words) c.chosen;
        }

    next_alike : (m : Running V) (r : ℕ) → GoesNext urgent cores m r → GoesNext others ds m r
    next_alike m r next = ⊎_elim (λ o. inl (record { rank = o.rank; in_call = o.in_call; chosen = chosen_on m (place_of m o.rank) r o.chosen })) (λ o. inr (record { closed = o.closed; first = o.first })) next

    way_alike : (m : Running V) (ranks : List ℕ) → IsWayOn urgent cores m ranks → IsWayOn others ds m ranks
    way_alike m [] way = tt
    way_alike m (k ∷ ks) way = (next_alike m k way.0, way_alike (stepped m k) ks way.1)

-- ---- the cores of a kind

module _ {C V : Type 0} (says : C → CoreSays V) (by_core : C → List ℕ → V → Option ℕ) (defined : Defined V) (urgent : Urgent V)
    (defines : GoesAsDefined says by_core defined urgent) (place : ThePlace) (ops : Ops) where
  abbrev table : C → ShardTable V
  table core = (says core).table

  abbrev urgency : (List ℕ → V → Option ℕ) → List ℕ → V → Option ℕ
  urgency u = u

  cores_alike : (nodes from : ℕ) (homes : List ℕ) (cores : List C) → map table cores ≡ tables_of (first_shards (λ home. defined (shape_of place) home (knobs_of place.lock)) nodes place.geom ops.by_rank from homes) →
      AreAlike by_core urgency cores (urgencies_from defined urgent place ops from homes)
  cores_alike nodes from homes [] same s core has = cc
  cores_alike nodes from [] (c ∷ cores) same s core has = cc
  cores_alike nodes from (home ∷ homes) (c ∷ cores) same zero core has =
      record {
        other = urgent (shape_of place) home (knobs_of place.lock) (site_of place.geom ops.by_rank from);
        has = refl;
        alike = λ words v. defines core (shape_of place) home (knobs_of place.lock) (site_of place.geom ops.by_rank from) words v (ap table (sym (same_Some _ _ has)) ∙ same_Some _ _ (ap (λ ts. slice_get ts 0) same));
      }
  cores_alike nodes from (home ∷ homes) (c ∷ cores) same (suc s) core has =
      let a = cores_alike nodes (from + 1) homes cores (ap (λ ts. drop 1 ts) same) s core has in
      record { other = a.other; has = a.has; alike = a.alike }

  -- of a machine that has taken the given turns
  pub goes_next : (given : List Turn) (m : TheMachine C V) → running says m ≡ machine_after defined place ops given → (ranks : List ℕ) → IsWayOn by_core (cores_of m) (running says m) ranks → GoNext defined urgent place ops given ranks
  goes_next given m run ranks way =
      let shape = shape_of place in
      let start = start_of defined shape (knobs_of place.lock) place.geom place.homes ops in
      let tables : map table (cores_of m) ≡ tables_of start.shards = sym (core_tables says m.shards) ∙ ap (λ z. tables_of z.shards) run ∙ run_tables start (ranks_of_turns given) in
      subst (λ z. IsWayOn urgency (urgencies_from defined urgent place ops 0 place.homes) z ranks) run
      (way_alike by_core urgency (cores_of m) (urgencies_from defined urgent place ops 0 place.homes) (cores_alike shape.nodes 0 place.homes (cores_of m) tables) (running says m) ranks way)
