-- The placement that is made: its nodes, and that it is proper.
use Rattle.std.proofs.Common.{◌≡◌, ℕ, zero, suc, ◌+◌, ◌/◌, ◌%◌, ◌<◌, ◌≤◌, true, false, Bool, eqb, List, [], ◌∷◌, ◌++◌, ◌⊎◌, inl, inr, length, map, refl, sym, ap, ◌∙◌, add-one, arith}
use Rattle.std.specs.Int.{div_ceil}
use Rattle.std.specs.List.{AllByRecursion, list_any, range_with_len}
use Rattle.std.proofs.lemmas.Bool.{eqb-false, ne_eqb}
use Rattle.std.proofs.lemmas.List.FromFn.{map-range_with_len_more, length-map-range_with_len}
use Rattle.std.proofs.lemmas.List.Sums.{fold-append}
use Rattle.rl_word.specs.laws.Places.{same_or_not}
use Rattle.rl_place.specs.declared.path.Path.{Path}
use Rattle.rl_place.specs.Paths.{IsPath, path_of}
use Rattle.rl_place.specs.Numbering.{same_path, seen_after, node_paths}
use Rattle.rl_place.specs.Places.{ThePlace, IsProper}
use Rattle.rl_place.specs.declared.lock.Lock.TheVariants.{Alock}
use Rattle.rl_making.specs.Generate.{made_paths, made_place}

-- the path of node n
abbrev at : ℕ → Path
at n = path_of (n ∷ [])

-- ---- the nodes

-- a path that is there is seen
at-seen : (k from n : ℕ) → from ≤ k → k < from + n → list_any (same_path (at k)) (map at (range_with_len from n)) ≡ true
at-seen k from zero above below = absurd (omega arith)
at-seen k from (suc n) above below = here (eqb k from) refl (λ (other : from + 1 ≤ k). at-seen k (from + 1) n other (omega arith))
  where
    here : (b : Bool) → eqb k from ≡ b → (from + 1 ≤ k → list_any (same_path (at k)) (map at (range_with_len (from + 1) n)) ≡ true) → list_any (same_path (at k)) (map at (range_with_len from (suc n))) ≡ true
    here true e later = rw e refl
    here false e later = rw e (later (omega (arith, eqb-false k from e)))

-- and one that isn't there isn't
at-not_seen : (k from n : ℕ) → from + n ≤ k → list_any (same_path (at k)) (map at (range_with_len from n)) ≡ false
at-not_seen k from zero above = refl
at-not_seen k from (suc n) above =
    let other = ne_eqb k from (λ (e : k ≡ from). omega (arith, e)) in
    rw other (at-not_seen k (from + 1) n (omega arith))

-- a path more is a node more, or is that of the last node
one_more : (k nodes after : ℕ) → k ≤ nodes → nodes ≤ k + 1 → after ≡ k + 1 → seen_after (map at (range_with_len 0 nodes)) (at k) ≡ map at (range_with_len 0 after)
one_more k nodes after low high is = here (same_or_not nodes k)
  where
    here : (nodes ≡ k) ⊎ (nodes ≡ k → ⊥) → seen_after (map at (range_with_len 0 nodes)) (at k) ≡ map at (range_with_len 0 after)
    here (inl e) = rw (at-not_seen k 0 nodes (omega (arith, e)), is, e) (sym (map-range_with_len_more at 0 k k (omega arith)))
    here (inr ne) =
        let same : nodes ≡ after = omega (arith, ne) in
        rw (at-seen k 0 nodes (omega arith) (omega (arith, ne)), same) refl

nodes-are : (ranks : ℕ) → node_paths (made_paths ranks) ≡ map at (range_with_len 0 ((ranks + 3) / 4))
unfolding node_paths
nodes-are zero = refl
nodes-are (suc ranks) =
    let paths : made_paths (suc ranks) ≡ made_paths ranks ++ at (ranks / 4) ∷ [] = ap made_paths (sym (add-one ranks)) ∙ map-range_with_len_more (λ rank. at (rank / 4)) 0 ranks ranks (omega arith) in
    ap node_paths paths ∙ fold-append seen_after [] (made_paths ranks) (at (ranks / 4) ∷ []) ∙ ap (λ (nodes : List Path). seen_after nodes (at (ranks / 4))) (nodes-are ranks)
    ∙ one_more (ranks / 4) ((ranks + 3) / 4) ((suc ranks + 3) / 4) (omega arith) (omega arith) (omega arith)

-- each node has four ranks, the last one perhaps fewer
pub node-count : (ranks : ℕ) → length (node_paths (made_paths ranks)) ≡ (ranks + 3) / 4
node-count ranks = ap (λ (nodes : List Path). length nodes) (nodes-are ranks) ∙ length-map-range_with_len at 0 ((ranks + 3) / 4)

-- the placement of these paths and homes
abbrev placed : List Path → List ℕ → ThePlace
placed paths homes = record { levels = 1; lock = Alock 4 4; geom = record { shards = 4; buckets = 16; overflow = 16 }; paths = paths; homes = homes }

pub place-made : (ranks nodes : ℕ) (paths : List Path) (homes : List ℕ) → nodes ≡ div_ceil ranks 4 → paths ≡ made_paths ranks → homes ≡ map (λ shard. shard % nodes) (range_with_len 0 4)
    → placed paths homes ≡ made_place ranks
place-made ranks nodes paths homes ceil p h =
    let same : nodes ≡ length (node_paths (made_paths ranks)) = omega (arith, node-count ranks) in
    ap (λ (ps : List Path). placed ps homes) p ∙ ap (λ (hs : List ℕ). placed (made_paths ranks) hs) (h ∙ ap (λ (n : ℕ). map (λ shard. shard % n) (range_with_len 0 4)) same)

-- ---- it is proper

proper-paths : (from n : ℕ) → from + n ≤ 32 → AllByRecursion (λ path. IsPath 1 path) (map (λ rank. at (rank / 4)) (range_with_len from n))
proper-paths from zero few = tt
proper-paths from (suc n) few =
    let small : from / 4 ≤ 999 = omega arith in
    (record { numbers = from / 4 ∷ []; count = refl; small = (small, tt); is = refl }, proper-paths (from + 1) n (omega arith))

pub made-proper : (ranks : ℕ) → 1 ≤ ranks → ranks ≤ 32 → IsProper (made_place ranks)
made-proper ranks some few =
    let ranks-are : length (made_paths ranks) ≡ ranks = length-map-range_with_len (λ rank. at (rank / 4)) 0 ranks in
    let nodes = length (node_paths (made_paths ranks)) in
    let there : 0 < nodes = omega (arith, node-count ranks) in
    record {
      some_levels = omega arith;
      most_levels = omega arith;
      lock = (omega arith, omega arith);
      geom = record { some_shards = omega arith; shards = omega arith; some_buckets = omega arith; buckets = omega arith; overflow = omega arith };
      some_ranks = omega (arith, ranks-are);
      most_ranks = omega (arith, ranks-are);
      paths = proper-paths 0 ranks (omega arith);
      each_shard = refl;
      homes = (within 0 nodes there, (within 1 nodes there, (within 2 nodes there, (within 3 nodes there, tt))));
    }
  where
    within : (shard nodes : ℕ) → 0 < nodes → shard % nodes < nodes
    within shard nodes there = omega arith
