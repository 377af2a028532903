-- Proper calls are calls that a machine can begin with.
use Rattle.std.specs.Prelude.{◌≡◌, ℕ, zero, suc, ◌≤◌, ◌<◌, ◌^◌, List, [], ◌∷◌, ◌++◌, All, flat_map, get_or, length, map, sum, refl}
use Rattle.std.specs.List.{AllByRecursion}
use Rattle.std.proofs.Common.{sym, ◌∙◌, subst, arith}
use Rattle.std.proofs.lemmas.List.Concat.{flat_map-cons}
use Rattle.std.proofs.lemmas.List.Elements.{All-cons, All-nil}
use Rattle.std.proofs.lemmas.List.Sums.{sum-map, sum_by-le-sum_by, count_by-le-length}
use Rattle.std.proofs.lemmas.Nat.{mod_below}
use Rattle.rl_model.specs.declared.call.Call.{Call}
use Rattle.rl_model.specs.declared.call.Call.TheVariants.{Put, Get, Del, Add, Cas, Hold}
use Rattle.rl_model.specs.declared.geom.Geom.{Geom}
use Rattle.rl_model.specs.Call.{shard_of}
use Rattle.rl_model.specs.Geom.{GeomFits}
use Rattle.rl_ops.specs.declared.ops.Ops.{Ops}
use Rattle.rl_ops.specs.CallSpelling.{CallFits}
use Rattle.rl_ops.specs.Blocks.{sizes_of, shard_among, AreOneBlock}
use Rattle.rl_ops.specs.Ops as ops
use Rattle.rl_ops.specs.Ops.{total_calls, EachOfBlocks, OpsFit}
use Rattle.rl_ops.specs.Room.{updates_on}
use Rattle.rl_core.specs.Asks.{IsBlockOf, AreBlocks, is_update_on}
use Rattle.rl_core.specs.laws.AskLaws.{few_calls}

module _ (geom : Geom) (fits : GeomFits geom) where
  -- the shard of a call is there
  shard_same : (call : Call) → shard_among geom.shards call ≡ shard_of geom call
  shard_same (Put key value) = refl
  shard_same (Get key) = refl
  shard_same (Del key) = refl
  shard_same (Add key by) = refl
  shard_same (Cas key old new) = refl
  shard_same (Hold shard) = refl

  shard_there : (call : Call) → CallFits geom.shards call → shard_of geom call < geom.shards
  shard_there (Put key value) c = mod_below key geom.shards fits.some_shards
  shard_there (Get key) c = mod_below key geom.shards fits.some_shards
  shard_there (Del key) c = mod_below key geom.shards fits.some_shards
  shard_there (Add key by) c = mod_below key geom.shards fits.some_shards
  shard_there (Cas key old new) c = mod_below key geom.shards fits.some_shards
  shard_there (Hold shard) c = c

  all_shards : (s : ℕ) (block : List Call) → AllByRecursion (λ call. shard_among geom.shards call ≡ s) block → All (λ call. shard_of geom call ≡ s) block
  all_shards s [] all = All-nil (λ call. shard_of geom call ≡ s)
  all_shards s (call ∷ calls) all = All-cons (λ call. shard_of geom call ≡ s) call calls (sym (shard_same call) ∙ all.0) (all_shards s calls all.1)

  first_there : (s : ℕ) (block : List Call) → 1 ≤ length block → AllByRecursion (λ call. shard_among geom.shards call ≡ s) block →
      AllByRecursion (CallFits geom.shards) block → s < geom.shards
  first_there s [] h all each = absurd (omega arith)
  first_there s (call ∷ calls) h all each = subst (λ z. z < geom.shards) (sym (shard_same call) ∙ all.0) (shard_there call each.0)

  block_of : (block : List Call) → AreOneBlock geom.shards block → IsBlockOf geom block
  block_of block is = record {
    is_asked = is.asked;
    shard = is.shard;
    there = first_there is.shard block is.asked.some is.one_shard is.fit;
    one_shard = all_shards is.shard block is.one_shard;
  }

  blocks_of : (blocks : List (List Call)) → AllByRecursion (AreOneBlock geom.shards) blocks →
      AreBlocks geom (flat_map (λ (block : List Call). block) blocks) (flat_map sizes_of blocks)
  blocks_of [] all = AreBlocks.none
  blocks_of (block ∷ blocks) all =
      subst (λ calls. AreBlocks geom calls (flat_map sizes_of (block ∷ blocks))) (sym (flat_map-cons (λ (b : List Call). b) block blocks))
      (subst (AreBlocks geom (block ++ flat_map (λ (b : List Call). b) blocks)) (sym (flat_map-cons sizes_of block blocks))
      (AreBlocks.more block (flat_map (λ (b : List Call). b) blocks) (flat_map sizes_of blocks) (block_of block all.0) (blocks_of blocks all.1)))

  rank_blocks : (calls : List Call) (sizes : List ℕ) → ops.AreBlocks geom.shards calls sizes → AreBlocks geom calls sizes
  rank_blocks calls sizes are = subst (λ z. AreBlocks geom z sizes) (sym are.calls_are)
      (subst (AreBlocks geom (flat_map (λ (block : List Call). block) are.blocks)) (sym are.sizes_are) (blocks_of are.blocks are.fit))

  -- each rank's calls are blocks
  pub each_blocks : (lists : List (List Call)) (sizes : List (List ℕ)) → EachOfBlocks geom.shards lists sizes → (k : ℕ) →
      AreBlocks geom (get_or lists k []) (get_or sizes k [])
  each_blocks [] [] each k = AreBlocks.none
  each_blocks [] (s ∷ sizes) each k = absurd each
  each_blocks (c ∷ lists) [] each k = absurd each
  each_blocks (c ∷ lists) (s ∷ sizes) each zero = rank_blocks c s each.0
  each_blocks (c ∷ lists) (s ∷ sizes) each (suc k) = each_blocks lists sizes each.1 k

-- the updates of a shard are among all calls
pub few_updates : (geom : Geom) (s n : ℕ) (lists : List (List Call)) → total_calls lists ≤ n → sum (map (updates_on geom s) lists) ≤ n
few_updates geom s n lists few =
    let a = sum-map (updates_on geom s) lists in
    let b = sum_by-le-sum_by (updates_on geom s) (λ (calls : List Call). length calls) lists (λ calls. count_by-le-length (is_update_on geom s) calls) in
    omega arith

-- what a machine begins with
pub record CanBegin (geom : Geom) (calls : List (List Call)) (sizes : List (List ℕ)) : Type 0 where
  pub blocks : (k : ℕ) → AreBlocks geom (get_or calls k []) (get_or sizes k [])
  pub few : (k : ℕ) → length (get_or calls k []) ≤ 2 ^ 32
  pub room : (s : ℕ) → sum (map (updates_on geom s) calls) ≤ 20000

pub can_begin : (ranks : ℕ) (geom : Geom) (o : Ops) → GeomFits geom → OpsFit ranks geom.shards o → CanBegin geom o.by_rank o.sizes
can_begin ranks geom o fits is =
    record {
      blocks = each_blocks geom fits o.by_rank o.sizes is.blocks;
      few = λ k. let f = few_calls o.by_rank k 20000 is.few in omega arith;
      room = λ s. few_updates geom s 20000 o.by_rank is.few;
    }
