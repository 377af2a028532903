-- A placement and calls, made from a number: what is drawn from the generator in which order, and what is made of it.
use Rattle.std.specs.Prelude.{ℕ, zero, suc, ◌+◌, ◌*◌, ◌/◌, ◌%◌, ◌^◌, List, [], ◌∷◌, length, map, ◌==◌, nat_lt, if◌then◌else◌}
use Rattle.std.specs.List.{enumerate_from, range_with_len}
use Rattle.rl_chance.specs.Draws.{first_state, draw}
use Rattle.rl_model.specs.declared.call.Call.{Call}
use Rattle.rl_model.specs.declared.call.Call.TheVariants.{Put, Get, Del, Add, Cas}
use Rattle.rl_place.specs.declared.path.Path.{Path}
use Rattle.rl_place.specs.declared.lock.Lock.TheVariants.{Alock}
use Rattle.rl_place.specs.Paths.{path_of}
use Rattle.rl_place.specs.Numbering.{node_paths}
use Rattle.rl_place.specs.Places.{ThePlace}
use Rattle.rl_ops.specs.declared.ops.Ops.{Ops}
use Rattle.rl_ops.specs.ByRank.{by_rank}

-- ---- draws

-- something that is made by draws: from the state before them, the thing and the state after them
abbrev pub Draws : Type 0 → Type 0
Draws X = ℕ → X × ℕ

-- one thing drawn after the other
infixl 10 ◌>>=◌
abbrev pub ◌>>=◌ : {A B : Type 0} → Draws A → (A → Draws B) → Draws B
◌>>=◌ first next state = next (first state).0 (first state).1

-- nothing more is drawn
abbrev pub made : {X : Type 0} → X → Draws X
made x state = (x, state)

-- ---- calls

abbrev pub put_drawn : ℕ → Draws Call
put_drawn key = do
  value ← draw 1000
  made (Put key value)

abbrev pub add_drawn : ℕ → Draws Call
add_drawn key = do
  by ← draw 1000
  made (Add key by)

abbrev pub cas_drawn : ℕ → Draws Call
cas_drawn key = do
  old ← draw 1000
  new ← draw 1000
  made (Cas key old new)

-- the kinds 0 to 2 are a put, 3 and 4 a get, 5 a delete, 6 an add, and 7 is a compare-and-swap
abbrev pub call_of_kind : ℕ → ℕ → Draws Call
call_of_kind kind key =
    if nat_lt kind 3 then put_drawn key else (
    if nat_lt kind 5 then made (Get key) else (
    if kind == 5 then made (Del key) else (
    if kind == 6 then add_drawn key else cas_drawn key)))

-- a call: its kind, then its key, then its arguments
abbrev pub call_drawn : Draws Call
call_drawn = do
  kind ← draw 8
  key ← draw 100
  call_of_kind kind key

-- so many things, one after the other
abbrev pub several : {X : Type 0} → Draws X → ℕ → Draws (List X)
several one zero = made []
several one (suc n) = do
  x ← one
  xs ← several one n
  made (x ∷ xs)

-- the calls of a number, and the state after them
abbrev pub drawn_calls : ℕ → ℕ → List Call × ℕ
drawn_calls number calls = several call_drawn calls (first_state number)

-- call i, counted from 0, is of rank i mod the number of ranks
abbrev pub dealt : ℕ → List Call → List (ℕ × Call)
dealt ranks calls = map (λ call. (call.0 % ranks, call.1)) (enumerate_from 0 calls)

-- each call stands alone
abbrev pub sized : List (ℕ × Call) → List (ℕ × ℕ)
sized calls = map (λ call. (call.0, 1)) calls

-- the calls of each rank, in their order
abbrev pub made_ops : ℕ → ℕ → ℕ → Ops
made_ops number ranks calls =
    let told = dealt ranks (drawn_calls number calls).0 in
    record { by_rank = by_rank ranks told; sizes = by_rank ranks (sized told) }

-- ---- the placement

-- four ranks sit on each node: rank k sits at path k div 4
abbrev pub made_paths : ℕ → List Path
made_paths ranks = map (λ rank. path_of (rank / 4 ∷ [])) (range_with_len 0 ranks)

-- ALock with budgets 4 and 4 guards four shards of 16 buckets and 16 overflow cells, which go round the nodes
abbrev pub made_place : ℕ → ThePlace
made_place ranks = record {
  levels = 1;
  lock = Alock 4 4;
  geom = record { shards = 4; buckets = 16; overflow = 16 };
  paths = made_paths ranks;
  homes = map (λ shard. shard % length (node_paths (made_paths ranks))) (range_with_len 0 4);
}
