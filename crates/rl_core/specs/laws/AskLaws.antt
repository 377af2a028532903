-- Calls as blocks: the next block, where it stands, which calls it asks for, and how many it adds to a shard.
use Rattle.std.specs.Prelude.{◌≡◌, ◌≢◌, ℕ, zero, suc, ◌+◌, ◌≤◌, ◌<◌, ◌==◌, ◌&&◌, Bool, true, false, cond, List, [], ◌∷◌, ◌++◌, All, count_by, filter, take, drop, length, map, get_or, slice_get, slice_index, Some, refl}
use Rattle.std.proofs.Common.{sym, ◌∙◌, ap, subst, ⊎_elim, arith, get_or-drop, length-append}
use Rattle.std.proofs.Math.Seq.{take-append_seam, drop-append_seam, drop-nil}
use Rattle.std.proofs.lemmas.Bool.{cases_lt}
use Rattle.std.proofs.lemmas.List.{length-map, take-append-drop, get_or_past}
use Rattle.std.proofs.lemmas.List.Elements.{All-head, All-tail}
use Rattle.std.proofs.lemmas.List.Sums.{length-filter, get_or-le-sum_by}
use Rattle.std.proofs.lemmas.Bool.Decides.{nat_tests}
use Rattle.rl_model.specs.declared.call.Call.{Call}
use Rattle.rl_model.specs.declared.geom.Geom.{Geom}
use Rattle.rl_model.specs.Call.{shard_of, is_update}
use Rattle.rl_model.specs.Asked.{Asked, IsAsked, AreUpdates, asks_update, batch_number}
use Rattle.rl_model.proofs.Counts.{count-append, count-cons}
use Rattle.rl_ops.specs.Ops.{total_calls}
use Rattle.rl_site.specs.Opens.{places_needed}
use Rattle.rl_core.specs.Asks.{is_on, sizes_of, IsBlockOf, AreBlocks, block_from, block_shard, call_shard, place_after, asked_after, asked_of, is_update_on}
use Rattle.rl_core.specs.RankGood.{AsksNext}

-- ---- lists

drop_more : {X : Type 0} (n m : ℕ) (l : List X) → drop (n + m) l ≡ drop m (drop n l)
drop_more zero m l = let e : 0 + m ≡ m = omega arith in ap (λ k. drop k l) e
drop_more (suc n) m [] = drop-nil (suc n + m) ∙ sym (drop-nil m)
drop_more (suc n) m (x ∷ l) = let e : suc n + m ≡ suc (n + m) = omega arith in ap (λ k. drop k (x ∷ l)) e ∙ drop_more n m l

take_nil : {X : Type 0} (n : ℕ) → take {A = X} n [] ≡ []
take_nil zero = refl
take_nil (suc n) = refl

pub take_more : {X : Type 0} (n m : ℕ) (l : List X) → take (n + m) l ≡ take n l ++ take m (drop n l)
take_more zero m l = let e : 0 + m ≡ m = omega arith in ap (λ k. take k l) e
take_more (suc n) m [] = take_nil (suc n + m) ∙ sym (take_nil m)
take_more (suc n) m (x ∷ l) = let e : suc n + m ≡ suc (n + m) = omega arith in ap (λ k. take k (x ∷ l)) e ∙ ap (λ z. x ∷ z) (take_more n m l)

get_behind : {X : Type 0} (n i : ℕ) (l : List X) → slice_get l (n + i) ≡ slice_get (drop n l) i
get_behind zero i l = let e : 0 + i ≡ i = omega arith in ap (slice_get l) e
get_behind (suc n) i [] = refl
get_behind (suc n) i (x ∷ l) = let e : suc n + i ≡ suc (n + i) = omega arith in ap (slice_get (x ∷ l)) e ∙ get_behind n i l

head_suc : {X : Type 0} (n : ℕ) (l : List X) (x : X) (rest : List X) → drop n l ≡ x ∷ rest → (slice_get l n ≡ Some x) × (drop (suc n) l ≡ rest)
head_suc zero [] x rest e = absurd (cc)
head_suc zero (y ∷ l) x rest e = (ap (λ z. slice_get z 0) e, ap (drop 1) e)
head_suc (suc n) [] x rest e = absurd (cc)
head_suc (suc n) (y ∷ l) x rest e = head_suc n l x rest e

head_at : {X : Type 0} (n : ℕ) (l : List X) (x : X) (rest : List X) → drop n l ≡ x ∷ rest → (slice_get l n ≡ Some x) × (drop (n + 1) l ≡ rest)
head_at n l x rest e =
    let q = head_suc n l x rest e in
    let at : n + 1 ≡ suc n = omega arith in (q.0, ap (λ k. drop k l) at ∙ q.1)

-- ---- the next block

pub sizes_length : (block : List Call) → length (sizes_of block) ≡ length block
sizes_length [] = refl
sizes_length (c ∷ cs) = ap suc (length-map cs (λ (z : Call). 0))

-- blocks begin with one, if there are calls
pub record NextBlock (geom : Geom) (calls : List Call) (sizes : List ℕ) : Type 0 where
  pub block : List Call
  pub later : List Call
  pub later_sizes : List ℕ
  pub calls_are : calls ≡ block ++ later
  pub sizes_are : sizes ≡ sizes_of block ++ later_sizes
  pub is_block : IsBlockOf geom block
  pub rest : AreBlocks geom later later_sizes

pub next_of_blocks : (geom : Geom) (calls : List Call) (sizes : List ℕ) → AreBlocks geom calls sizes → 0 < length calls → NextBlock geom calls sizes
next_of_blocks geom _ _ AreBlocks.none h = absurd (omega arith)
next_of_blocks geom _ _ (AreBlocks.more block calls sizes is rest) h =
    record { block = block; later = calls; later_sizes = sizes; calls_are = refl; sizes_are = refl; is_block = is; rest = rest }

first_size : (block : List Call) (sizes : List ℕ) → 1 ≤ length block → slice_index (sizes_of block ++ sizes) 0 ≡ length block
first_size [] sizes h = absurd (omega arith)
first_size (c ∷ cs) sizes h = refl

module _ (geom : Geom) (calls : List Call) (sizes : List ℕ) (n : ℕ) (b : NextBlock geom (drop n calls) (drop n sizes)) where
  -- it is the block that begins with the call of this number
  pub size_is : slice_index sizes n ≡ length b.block
  size_is =
      ap (slice_index sizes) (omega arith) ∙ sym (get_or-drop n sizes 0 0) ∙ ap (λ z. slice_index z 0) b.sizes_are
      ∙ first_size b.block b.later_sizes b.is_block.is_asked.some

  pub block_is : block_from calls sizes n ≡ b.block
  block_is = ap (λ k. take k (drop n calls)) size_is ∙ ap (take (length b.block)) b.calls_are ∙ take-append_seam b.block b.later

  -- its calls stand there
  pub calls_there : take (length b.block) (drop n calls) ≡ b.block
  calls_there = ap (take (length b.block)) b.calls_are ∙ take-append_seam b.block b.later

  -- behind it the calls are blocks again
  pub rest_behind : AreBlocks geom (drop (n + length b.block) calls) (drop (n + length b.block) sizes)
  rest_behind =
      let c : drop (n + length b.block) calls ≡ b.later = drop_more n (length b.block) calls ∙ ap (drop (length b.block)) b.calls_are
      ∙ drop-append_seam b.block b.later in
      let s : drop (n + length b.block) sizes ≡ b.later_sizes =
      drop_more n (length b.block) sizes ∙ ap (drop (length b.block)) b.sizes_are
      ∙ ap (λ k. drop k (sizes_of b.block ++ b.later_sizes)) (sym (sizes_length b.block))
      ∙ drop-append_seam (sizes_of b.block) b.later_sizes in
      subst (λ z. AreBlocks geom z (drop (n + length b.block) sizes)) (sym c) (subst (AreBlocks geom b.later) (sym s) b.rest)

  pub inside : n + length b.block ≤ length calls
  inside = inside_by n calls b.block b.later b.is_block.is_asked.some b.calls_are where
    inside_by : (n : ℕ) (l block later : List Call) → 1 ≤ length block → drop n l ≡ block ++ later → n + length block ≤ length l
    inside_by zero l block later h e = omega (arith, ap length e, length-append block later)
    inside_by (suc n) [] block later h e = absurd (let long = length-append block later in let none = ap length e in omega arith)
    inside_by (suc n) (c ∷ l) block later h e = let k = inside_by n l block later h e in omega arith

  -- the rank that has opened it stands at its shard
  shard_in : (i : ℕ) (block : List Call) (later : List Call) (s : ℕ) → All (λ call. shard_of geom call ≡ s) block → i < length block →
      call_shard geom (slice_get (block ++ later) i) ≡ s
  shard_in i [] later s all h = absurd (omega arith)
  shard_in zero (c ∷ cs) later s all h = All-head (λ call. shard_of geom call ≡ s) c cs all
  shard_in (suc i) (c ∷ cs) later s all h = shard_in i cs later s (All-tail (λ call. shard_of geom call ≡ s) c cs all) (omega arith)

  pub block_at : block_shard geom b.block ≡ b.is_block.shard
  block_at = first_at b.block b.is_block.is_asked.some b.is_block.one_shard where
    first_at : (block : List Call) → 1 ≤ length block → All (λ call. shard_of geom call ≡ b.is_block.shard) block → block_shard geom block ≡ b.is_block.shard
    first_at [] h all = absurd (omega arith)
    first_at (c ∷ cs) h all = All-head (λ call. shard_of geom call ≡ b.is_block.shard) c cs all

  pub stands_at : place_after geom calls (n + length b.block) ≡ b.is_block.shard
  stands_at = by_last (length b.block) refl where
    by_last : (k : ℕ) → length b.block ≡ k → place_after geom calls (n + k) ≡ b.is_block.shard
    by_last zero e = let some : 1 ≤ length b.block = b.is_block.is_asked.some in absurd (omega arith)
    by_last (suc k) e =
        let at : n + suc k ≡ suc (n + k) = omega arith in
        ap (place_after geom calls) at ∙ ap (call_shard geom) (get_behind n k calls ∙ ap (λ z. slice_get z k) b.calls_are)
        ∙ shard_in k b.block b.later b.is_block.shard b.is_block.one_shard (omega arith)

-- ---- which calls it asks for

-- a block's calls with their batch and place
abbrev asked_from : ℕ → ℕ → List Call → List Asked
asked_from batch part [] = []
asked_from batch part (c ∷ cs) = record { call = c; batch = batch; part = part } ∷ asked_from batch (part + 1) cs

asked_tail : (batch part : ℕ) (cs later : List Call) (sizes : List ℕ) →
    asked_after batch part (cs ++ later) (map (λ (z : Call). 0) cs ++ sizes) ≡ asked_from batch part cs ++ asked_after batch (part + length
    cs) later sizes
asked_tail batch part [] later sizes = ap (λ p. asked_after batch p later sizes) (omega arith)
asked_tail batch part (c ∷ cs) later sizes = ap (λ z. record { call = c; batch = batch; part = part } ∷ z)
    (asked_tail batch (part + 1) cs later sizes ∙ ap (λ p. asked_from batch (part + 1) cs ++ asked_after batch p later sizes) (omega arith))

asked_block : (batch part : ℕ) (block later : List Call) (sizes : List ℕ) → 1 ≤ length block →
    (rest : List Asked) × (asked_after batch part (block ++ later) (sizes_of block ++ sizes) ≡ asked_from (batch_number (length block)) 0 block ++ rest)
asked_block batch part [] later sizes h = absurd (omega arith)
asked_block batch part (c ∷ cs) later sizes h = (
  asked_after (batch_number (suc (length cs))) (1 + length cs) later sizes,
  ap (λ z. record { call = c; batch = batch_number (suc (length cs)); part = 0 } ∷ z) (asked_tail (batch_number (suc (length cs))) 1 cs later sizes),
)

-- the calls behind a number are asked for as they stand, after some batch and place
asked_drop : (n batch part : ℕ) (calls : List Call) (sizes : List ℕ) →
    (b p : ℕ) × (drop n (asked_after batch part calls sizes) ≡ asked_after b p (drop n calls) (drop n sizes))
asked_drop zero batch part calls sizes = (batch, part, refl)
asked_drop (suc n) batch part [] sizes = (batch, part, refl)
asked_drop (suc n) batch part (c ∷ cs) [] = (batch, part, none_left (drop n cs)) where
  none_left : (l : List Call) → [] ≡ asked_after batch part l []
  none_left [] = refl
  none_left (c ∷ cs) = refl
asked_drop (suc n) batch part (c ∷ cs) (zero ∷ ss) = asked_drop n batch (part + 1) cs ss
asked_drop (suc n) batch part (c ∷ cs) (suc k ∷ ss) = asked_drop n (batch_number (suc k)) 1 cs ss

next_from : (asked : List Asked) (n batch part : ℕ) (block : List Call) (rest : List Asked) →
    drop n asked ≡ asked_from batch part block ++ rest → AsksNext batch part asked n block
next_from asked n batch part [] rest e = tt
next_from asked n batch part (c ∷ cs) rest e =
    let q = head_at n asked (record { call = c; batch = batch; part = part }) (asked_from batch (part + 1) cs ++ rest) e in
    (q.0, next_from asked (n + 1) batch (part + 1) cs rest q.1)

pub asks_next : (geom : Geom) (calls : List Call) (sizes : List ℕ) (n : ℕ) (b : NextBlock geom (drop n calls) (drop n sizes)) →
    AsksNext (batch_number (length b.block)) 0 (asked_of calls sizes) n b.block
asks_next geom calls sizes n b =
    let d = asked_drop n 0 0 calls sizes in
    let k = asked_block d.0 d.1 b.block b.later b.later_sizes b.is_block.is_asked.some in
    next_from (asked_of calls sizes) n (batch_number (length b.block)) 0 b.block k.0
    (d.2 ∙ ap (λ z. asked_after d.0 d.1 z (drop n sizes)) b.calls_are ∙ ap (asked_after d.0 d.1 (b.block ++ b.later)) b.sizes_are ∙ k.1)

-- ---- how many it adds to a shard

pub all_on : (geom : Geom) (s : ℕ) (block : List Call) → All (λ call. shard_of geom call ≡ s) block → filter (is_on geom s) block ≡ block
all_on geom s [] all = refl
all_on geom s (c ∷ cs) all =
    let here : shard_of geom c ≡ s = All-head (λ call. shard_of geom call ≡ s) c cs all in
    let hit : (shard_of geom c == s) ≡ true = grind (arith, nat_tests) in
    ap (λ b. cond b (c ∷ filter (is_on geom s) cs) (filter (is_on geom s) cs)) hit
    ∙ ap (λ z. c ∷ z) (all_on geom s cs (All-tail (λ call. shard_of geom call ≡ s) c cs all))

pub none_on : (geom : Geom) (s other : ℕ) (block : List Call) → s ≢ other → All (λ call. shard_of geom call ≡ s) block → filter (is_on geom other) block ≡ []
none_on geom s other [] ne all = refl
none_on geom s other (c ∷ cs) ne all =
    let here : shard_of geom c ≡ s = All-head (λ call. shard_of geom call ≡ s) c cs all in
    let miss : (shard_of geom c == other) ≡ false = grind (arith, nat_tests) in
    ap (λ b. cond b (c ∷ filter (is_on geom other) cs) (filter (is_on geom other) cs)) miss
    ∙ none_on geom s other cs ne (All-tail (λ call. shard_of geom call ≡ s) c cs all)

-- the calls of a shard among the first n, and those of the next block, are no more than there are
count_split : (p : Call → Bool) (n m : ℕ) (calls : List Call) → count_by p (take n calls) + count_by p (take m (drop n calls)) ≤ count_by p calls
count_split p n m calls =
    let a : take n calls ++ drop n calls ≡ calls = take-append-drop n calls in
    let b : take m (drop n calls) ++ drop m (drop n calls) ≡ drop n calls = take-append-drop m (drop n calls) in
    omega (
      arith,
      count-append p (take n calls) (drop n calls),
      ap (count_by p) a,
      count-append p (take m (drop n calls))
          (drop m (drop n calls)),
      ap (count_by p) b,
    )

pub room_for : (geom : Geom) (s n : ℕ) (calls block : List Call) → take (length block) (drop n calls) ≡ block → All (λ call. shard_of geom call ≡ s) block →
    length (filter (is_on geom s) (take n calls)) + length block ≤ count_by (is_on geom s) calls
room_for geom s n calls block e all =
    let many : count_by (is_on geom s) block ≡ length block = sym (length-filter (is_on geom s) block) ∙ ap length (all_on geom s block all) in
    omega (arith, length-filter (is_on geom s) (take n calls), count_split (is_on geom s) n (length block) calls, ap (count_by (is_on geom s)) e, many)

count_updates : (geom : Geom) (s : ℕ) (calls : List Call) → count_by is_update (filter (is_on geom s) calls) ≡ count_by (is_update_on geom s) calls
count_updates geom s [] = refl
count_updates geom s (c ∷ cs) =
    elim (is_on geom s c) as (λ b. is_on geom s c ≡ b → count_by is_update (filter (is_on geom s) (c ∷ cs)) ≡ count_by (is_update_on geom s) (c ∷ cs)) [
      | true ↦ λ e.
          let left : filter (is_on geom s) (c ∷ cs) ≡ c ∷ filter (is_on geom s) cs =
          ap (λ b. cond b (c ∷ filter (is_on geom s) cs) (filter (is_on geom s) cs)) e in
          let here : is_update_on geom s c ≡ is_update c = ap (λ b. b && is_update c) e in
          ap (count_by is_update) left ∙ count-cons is_update c (filter (is_on geom s) cs)
          ∙ ap (λ b. cond b 1 0 + count_by is_update (filter (is_on geom s) cs)) (sym here)
          ∙ ap (λ n. cond (is_update_on geom s c) 1 0 + n) (count_updates geom s cs) ∙ sym (count-cons (is_update_on geom s) c cs)
      | false ↦ λ e.
          let left : filter (is_on geom s) (c ∷ cs) ≡ filter (is_on geom s) cs = ap (λ b. cond b (c ∷ filter (is_on geom s) cs) (filter (is_on geom s) cs)) e in
          let here : is_update_on geom s c ≡ false = ap (λ b. b && is_update c) e in
          let zero_is : ◌≡◌ {A = ℕ} (cond (is_update_on geom s c) 1 0) 0 = ap (λ b. cond {A = ℕ} b 1 0) here in
          omega (arith, ap (count_by is_update) left, count_updates geom s cs, count-cons (is_update_on geom s) c cs)
    ] refl

all_updates : (geom : Geom) (s : ℕ) (block : List Call) → AreUpdates block → All (λ call. shard_of geom call ≡ s) block →
    count_by (is_update_on geom s) block ≡ length block
all_updates geom s [] u all = refl
all_updates geom s (c ∷ cs) u all =
    let here : shard_of geom c ≡ s = All-head (λ call. shard_of geom call ≡ s) c cs all in
    let hit : (shard_of geom c == s) ≡ true = grind (arith, nat_tests) in
    let is : is_update_on geom s c ≡ true = ap (λ b. b && is_update c) hit ∙ u.0 in
    let one_is : ◌≡◌ {A = ℕ} (cond (is_update_on geom s c) 1 0) 1 = ap (λ b. cond {A = ℕ} b 1 0) is in
    omega (arith, count-cons (is_update_on geom s) c cs, all_updates geom s cs u.1 (All-tail (λ call. shard_of geom call ≡ s) c cs all))

pub updates_room : (geom : Geom) (s n : ℕ) (calls block : List Call) → IsAsked block → take (length block) (drop n calls) ≡ block →
    All (λ call. shard_of geom call ≡ s) block →
    count_by is_update (filter (is_on geom s) (take n calls)) + places_needed (asks_update block) (length block) ≤ count_by (is_update_on geom s) calls
updates_room geom s n calls block is e all =
    elim (asks_update block) as (λ b. asks_update block ≡ b → count_by is_update (filter (is_on geom s) (take n calls)) + places_needed b
    (length block) ≤ count_by (is_update_on geom s) calls) [
      | true ↦ λ u.
          omega (
            arith,
            count_updates geom s (take n calls),
            count_split (is_update_on geom s) n (length block) calls,
            ap
                (count_by (is_update_on geom s)) e,
            all_updates geom s block (is.all_update u) all,
          )
      | false ↦ λ u. omega (arith, count_updates geom s (take n calls), count_split (is_update_on geom s) n (length block) calls)
    ] refl

-- ---- all ranks

-- an element that isn't 0 is there
pub is_begun : (l : List ℕ) (n : ℕ) → 0 < slice_index l n → n < length l
is_begun [] n h = absurd (omega arith)
is_begun (x ∷ l) zero h = omega arith
is_begun (x ∷ l) (suc n) h = let q = is_begun l n h in omega arith

-- each rank's calls are among all
pub few_calls : (lists : List (List Call)) (k n : ℕ) → total_calls lists ≤ n → length (get_or lists k []) ≤ n
few_calls lists k n few =
    ⊎_elim
    (λ (h : k < length lists). let l = get_or-le-sum_by (λ (calls : List Call). length calls) lists k [] h in omega arith)
    (λ (h : length lists ≤ k). let none = ap (λ (calls : List Call). length calls) (get_or_past lists k [] h) in omega arith)
    (cases_lt k (length lists))
