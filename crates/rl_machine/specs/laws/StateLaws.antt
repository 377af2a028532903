-- What is true of a machine's shards is true of the code's.
use Rattle.std.specs.Prelude.{◌≡◌, ℕ, zero, suc, ◌<◌, ◌≤◌, List, [], ◌∷◌, length, map, sum, get_or, slice_get, slice_set, Some}
use Rattle.std.proofs.Common.{sym, ◌∙◌, ap, subst, arith}
use Rattle.std.proofs.lemmas.List.{length-map}
use Rattle.std.proofs.lemmas.Option.{slice_get_within, slice_get-get_or}
use Rattle.rl_word.specs.laws.Places.{get_map, map_set, set_same_get, some_at}
use Rattle.rl_core.specs.Moments.{CoreSays}
use Rattle.rl_machine.specs.declared.shard.ShardState.{ShardState}
use Rattle.rl_machine.specs.declared.state.MachineState.{MachineState}
use Rattle.rl_core.specs.laws.OpsBridge.{few_updates}
use Rattle.rl_machine.specs.Running.{TheShard, shard_run, cores_of}
use Rattle.rl_machine.specs.MachineGood.{IsMachine}
use Rattle.rl_machine.specs.State.{shard_view, machine_view, IsGood, running_shard, running_machine, running_shards}

module _ {C V : Type 0} (says : C → CoreSays V) where
  -- one shard put in a place
  pub shard_set : (items : List (ShardState C V)) (s : ℕ) (new : ShardState C V) →
      running_shards says (slice_set items s new) ≡ slice_set (running_shards says items) s (running_shard says new)
  shard_set items s new = ap (map (shard_run says)) (map_set shard_view items s new) ∙ map_set (shard_run says) (map shard_view items) s (shard_view new)

pub view_set : {C V : Type 0} (items : List (ShardState C V)) (s : ℕ) (item new : ShardState C V) → slice_get items s ≡ Some item →
    shard_view new ≡ shard_view item → map shard_view (slice_set items s new) ≡ map shard_view items
view_set items s item new has same =
    map_set shard_view items s new ∙ ap (slice_set (map shard_view items) s) same ∙ set_same_get (map shard_view items) s (shard_view item) (get_map shard_view items s item has)

-- so a machine whose shard has the same value is the same
pub kept_set : {C V : Type 0} (m : MachineState C V) (s : ℕ) (item new : ShardState C V) → slice_get m.shards.items s ≡ Some item → shard_view new ≡ shard_view item →
    record { shards = map shard_view (slice_set m.shards.items s new); geom = m.geom; calls = m.ops.by_rank; sizes = m.ops.sizes; opened = m.opened.items; steps = m.steps } ≡ machine_view m
kept_set m s item new has same =
    ap (λ z. record { shards = z; geom = m.geom; calls = m.ops.by_rank; sizes = m.ops.sizes; opened = m.opened.items; steps = m.steps }) (view_set m.shards.items s item new has same)

pub core_set : {C V : Type 0} (items : List (ShardState C V)) (s : ℕ) (item new : ShardState C V) → slice_get items s ≡ Some item → new.core ≡ item.core →
    map (λ (x : TheShard C V). x.core) (map shard_view (slice_set items s new)) ≡ map (λ (x : TheShard C V). x.core) (map shard_view items)
core_set items s item new has same =
    ap (map (λ (x : TheShard _ _). x.core)) (map_set shard_view items s new)
    ∙ map_set (λ (x : TheShard _ _). x.core) (map shard_view items) s (shard_view new)
    ∙ ap (slice_set (map (λ (x : TheShard _ _). x.core) (map shard_view items)) s) same
    ∙ set_same_get (map (λ (x : TheShard _ _). x.core) (map shard_view items)) s item.core
    (get_map (λ (x : TheShard _ _). x.core) (map shard_view items) s (shard_view item) (get_map shard_view items s item has))

module _ {C V : Type 0} (says : C → CoreSays V) (m : MachineState C V) (is : IsMachine says (machine_view m)) where
  -- a shard of it, where each rank has a view that may be, and whose journal has few places
  pub record IsThere (s : ℕ) (item : ShardState C V) : Type 0 where
    pub listed : slice_get m.shards.items s ≡ Some item
    pub has : slice_get (running_machine says m).shards s ≡ Some (running_shard says item)
    pub has_core : slice_get (cores_of (machine_view m)) s ≡ Some item.core
    pub ranks : length item.flat.views.items ≡ length m.ops.by_rank
    pub is_good : IsGood says item
    pub few : sum (says item.core).table.site.rooms ≤ 20000

  pub is_there : (s : ℕ) (item : ShardState C V) → slice_get m.shards.items s ≡ Some item → IsThere s item
  is_there s item has =
      let view = get_map shard_view m.shards.items s item has in
      let shard = get_map (shard_run says) (map shard_view m.shards.items) s (shard_view item) view in
      let core = get_map (λ (x : TheShard C V). x.core) (map shard_view m.shards.items) s (shard_view item) view in
      let deeds = some_at is.acts s (let a = is.is_good.all_acts in let h = slice_get_within (cores_of (machine_view m)) s item.core core in omega arith) in
      let all = is.is_good.shards s (running_shard says item) item.core deeds.0 shard core deeds.1 in
      record {
        listed = has;
        has = shard;
        has_core = core;
        ranks = all.ranks;
        is_good = record { acts = deeds.0; is_good = all.is_good };
        few = subst (λ l. sum l ≤ 20000) (sym all.rooms_are) (few_updates m.geom s 20000 m.ops.by_rank is.few);
      }

  -- as the code reads it, in the list or in its slice
  pub read_there : (items : List (ShardState C V)) (s : ℕ) (item : ShardState C V) → items ≡ m.shards.items → s < length items → item ≡ get_or items s item → IsThere s item
  read_there items s item same low value = is_there s item (ap (λ xs. slice_get xs s) (sym same) ∙ slice_get-get_or items s item low ∙ ap Some (sym value))

  pub many : length m.shards.items ≡ m.geom.shards
  many = sym (length_views m.shards.items) ∙ is.is_good.many where
    length_views : (items : List (ShardState C V)) → length (map (shard_run says) (map shard_view items)) ≡ length items
    length_views items = length-map (map shard_view items) (shard_run says) ∙ length-map items shard_view

-- a list that isn't empty is there
pub is_listed : {X : Type 0} (lists : List (List X)) (k : ℕ) → 0 < length (get_or lists k []) → k < length lists
is_listed [] k h = absurd (omega arith)
is_listed (l ∷ lists) zero h = omega arith
is_listed (l ∷ lists) (suc k) h = let q = is_listed lists k h in omega arith
