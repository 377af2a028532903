-- One shard of the code more.
use Rattle.std.specs.Prelude.{◌≡◌, ℕ, zero, suc, ◌+◌, ◌<◌, List, [], ◌∷◌, ◌++◌, length, map, take, slice_index, refl}
use Rattle.std.proofs.Common.{sym, ◌∙◌, ap, arith, length-append}
use Rattle.rl_model.specs.declared.call.Call.{Call}
use Rattle.rl_model.specs.declared.geom.Geom.{Geom}
use Rattle.rl_ops.specs.Room.{calls_on}
use Rattle.rl_site.specs.Site.{Site}
use Rattle.rl_core.specs.ShardTables.{ShardTable}
use Rattle.rl_core.specs.Moments.{CoreSays}
use Rattle.rl_machine.specs.declared.shard.ShardState.{ShardState}
use Rattle.rl_machine.specs.Start.{site_of, first_shard, first_shards}
use Rattle.rl_machine.specs.State.{running_shard, running_shards, cores_in}

-- one shard of the code more
pub length_more : {X : Type 0} (items : List X) (x : X) → length (items ++ x ∷ []) ≡ length items + 1
length_more items x = length-append items (x ∷ [])

pub length_cores : {C V : Type 0} (items : List (ShardState C V)) → length (cores_in items) ≡ length items
length_cores [] = refl
length_cores (x ∷ items) = ap suc (length_cores items)

pub cores_more : {C V : Type 0} (items : List (ShardState C V)) (first : ShardState C V) → cores_in (items ++ first ∷ []) ≡ cores_in items ++ first.core ∷ []
cores_more [] first = refl
cores_more (x ∷ items) first = ap (λ z. x.core ∷ z) (cores_more items first)

-- one first shard more
shards_next : {V : Type 0} (T : ℕ → Site → ShardTable V) (nodes : ℕ) (geom : Geom) (calls : List (List Call)) (from : ℕ) (homes : List ℕ) (i : ℕ) → i < length homes →
    first_shards T nodes geom calls from (take (suc i) homes) ≡ first_shards T nodes geom calls from (take i homes)
    ++ first_shards T nodes geom calls (from + i) (slice_index homes i ∷ [])
shards_next T nodes geom calls from [] i h = absurd (omega arith)
shards_next T nodes geom calls from (home ∷ homes) zero h = let at : from ≡ from + 0 = omega arith in ap (λ n. first_shards T nodes geom calls n (home ∷ [])) at
shards_next T nodes geom calls from (home ∷ homes) (suc i) h =
    let at : (from + 1) + i ≡ from + suc i = omega arith in
    ap (λ t. first_shards T nodes geom calls from (home ∷ []) ++ t) (shards_next T nodes geom calls (from + 1) homes i (omega arith)
    ∙ ap (λ n. first_shards T nodes geom calls (from + 1) (take i homes) ++ first_shards T nodes geom calls n (slice_index homes i ∷ [])) at)

pub shards_more : {C V : Type 0} (says : C → CoreSays V) (tables : ℕ → Site → ShardTable V) (nodes : ℕ) (geom : Geom) (calls : List (List Call)) (homes : List ℕ) →
    (items : List (ShardState C V)) (i home : ℕ) (first : ShardState C V) → running_shards says items ≡ first_shards tables nodes geom calls 0 (take i homes) →
    i < length homes → home ≡ slice_index homes i → running_shard says first ≡ first_shard (tables home (site_of geom calls i)) nodes (map (calls_on geom i) calls) →
    running_shards says (items ++ first ∷ []) ≡ first_shards tables nodes geom calls 0 (take (i + 1) homes)
shards_more says tables nodes geom calls homes items i home first so_far low is made =
    let nth : i ≡ 0 + i = omega arith in
    let next : suc i ≡ i + 1 = omega arith in
    behind items ∙ ap (λ z. z ++ running_shard says first ∷ []) so_far
    ∙ ap (λ z. first_shards tables nodes geom calls 0 (take i homes) ++ z ∷ []) (made ∙ ap (λ h. first_shard (tables h (site_of geom calls i)) nodes (map (calls_on geom i) calls)) is)
    ∙ ap (λ n. first_shards tables nodes geom calls 0 (take i homes) ++ first_shards tables nodes geom calls n (slice_index homes i ∷ [])) nth
    ∙ sym (shards_next tables nodes geom calls 0 homes i low) ∙ ap (λ n. first_shards tables nodes geom calls 0 (take n homes)) next where
      behind : (xs : List (ShardState _ _)) → running_shards says (xs ++ first ∷ []) ≡ running_shards says xs ++ running_shard says first ∷ []
      behind [] = refl
      behind (x ∷ xs) = ap (λ z. running_shard says x ∷ z) (behind xs)
