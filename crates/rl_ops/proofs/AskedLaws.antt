-- The sizes of a rank's calls tell its blocks.
use Rattle.std.proofs.Common.{◌≡◌, ℕ, zero, suc, ◌+◌, ◌<◌, ◌≤◌, List, [], ◌∷◌, ◌++◌, length, map, take, drop, Some, ◌⊎◌, inl, inr, refl, sym, ap, ◌∙◌, zero-add, suc-add, arith}
use Rattle.std.specs.List.{AllByRecursion, flat_map, slice_get}
use Rattle.std.proofs.lemmas.List.{length-append, length-map}
use Rattle.std.proofs.Math.Seq.{take-append_seam, drop-append-add}
use Rattle.rl_model.specs.declared.call.Call.{Call}
use Rattle.rl_model.specs.Asked.{Asked, batch_number}
use Rattle.rl_ops.specs.Blocks.{sizes_of, AreOneBlock}
use Rattle.rl_ops.specs.Ops.{AreBlocks}
use Rattle.rl_ops.specs.Asked.{parts_from, asked_in, asked_after, asked_of, BeginsAt, IsBlockAt}

-- ---- the calls of blocks, one block after the other

-- the later calls of a block, and what comes after them
later-asked : (batch part : ℕ) (calls more : List Call) (sizes : List ℕ) → asked_after batch part (calls ++ more) (map (λ _. 0) calls ++ sizes) ≡ parts_from batch part calls ++ asked_after batch (part + length calls) more sizes
later-asked batch part [] more sizes =
    let place : part ≡ part + 0 = omega arith in
    ap (λ (n : ℕ). asked_after batch n more sizes) place
later-asked batch part (call ∷ calls) more sizes =
    let place : part + 1 + length calls ≡ part + suc (length calls) = omega arith in
    ap (λ (rest : List Asked). record { call = call; batch = batch; part = part } ∷ rest) (later-asked batch (part + 1) calls more sizes ∙ ap (λ (n : ℕ). parts_from batch (part + 1) calls ++ asked_after batch n more sizes) place)

block-asked : (shards batch part : ℕ) (calls more : List Call) (sizes : List ℕ) → AreOneBlock shards calls → asked_after batch part (calls ++ more) (sizes_of calls ++ sizes) ≡ asked_in calls ++ asked_after (batch_number (length calls)) (length calls) more sizes
block-asked shards batch part [] more sizes one = absurd (omega (arith, one.asked.some))
block-asked shards batch part (call ∷ calls) more sizes one =
    let place : 1 + length calls ≡ suc (length calls) = omega arith in
    let b : ℕ = batch_number (suc (length calls)) in
    ap (λ (rest : List Asked). record { call = call; batch = b; part = 0 } ∷ rest) (later-asked b 1 calls more sizes ∙ ap (λ (n : ℕ). parts_from b 1 calls ++ asked_after b n more sizes) place)

blocks-asked : (shards batch part : ℕ) (blocks : List (List Call)) → AllByRecursion (AreOneBlock shards) blocks → asked_after batch part (flat_map (λ block. block) blocks) (flat_map sizes_of blocks) ≡ flat_map asked_in blocks
blocks-asked shards batch part [] fit = refl
blocks-asked shards batch part (calls ∷ blocks) fit =
    block-asked shards batch part calls (flat_map (λ block. block) blocks) (flat_map sizes_of blocks) fit.0
    ∙ ap (λ (rest : List Asked). asked_in calls ++ rest) (blocks-asked shards (batch_number (length calls)) (length calls) blocks fit.1)

-- ---- the block at a place

length-parts : (batch part : ℕ) (calls : List Call) → length (parts_from batch part calls) ≡ length calls
length-parts batch part [] = refl
length-parts batch part (call ∷ calls) = ap suc (length-parts batch (part + 1) calls)

length-sizes : (calls : List Call) → length (sizes_of calls) ≡ length calls
length-sizes [] = refl
length-sizes (call ∷ calls) = ap suc (length-map _ _)

slice_get-past : {X : Type 0} (xs ys : List X) (i : ℕ) → slice_get (xs ++ ys) (length xs + i) ≡ slice_get ys i
slice_get-past [] ys i = rw zero-add refl
slice_get-past (x ∷ xs) ys i = rw suc-add (slice_get-past xs ys i)

-- later calls have size 0
later-size : (calls : List Call) (sizes : List ℕ) (i : ℕ) → i < length calls → slice_get (map (λ _. 0) calls ++ sizes) i ≡ Some 0
later-size [] sizes i h = absurd (omega (arith, h))
later-size (call ∷ calls) sizes zero h = refl
later-size (call ∷ calls) sizes (suc i) h = later-size calls sizes i (omega arith)

same_some : (a b : ℕ) → Some a ≡ Some b → a ≡ b
same_some a b e = cc

-- a place is in the first block or behind it
where_is : (i k : ℕ) → (i < k) ⊎ ((j : ℕ) × (i ≡ k + j))
where_is i zero = inr (i, omega arith)
where_is zero (suc k) = inl (omega arith)
where_is (suc i) (suc k) = elim (where_is i k) [ inl h ↦ inl (omega (arith, h)) | inr w ↦ inr (w.0, omega (arith, w.1)) ]

-- a place in the first block at which a block begins is its first
first_place : (calls : List Call) (sizes : List ℕ) (i n : ℕ) → i < length calls → slice_get (sizes_of calls ++ sizes) i ≡ Some (suc n) → (i ≡ 0) × (suc n ≡ length calls)
first_place [] sizes i n h e = absurd (omega (arith, h))
first_place (call ∷ calls) sizes zero n h e = (refl, sym (same_some (suc (length calls)) (suc n) e))
first_place (call ∷ calls) sizes (suc i) n h e = absurd (omega (arith, same_some 0 (suc n) (sym (later-size calls sizes i (omega arith)) ∙ e)))

-- where a block begins after the calls of blocks
begins-first : (shards : ℕ) (blocks : List (List Call)) → AllByRecursion (AreOneBlock shards) blocks → BeginsAt (flat_map (λ block. block) blocks) (flat_map sizes_of blocks) 0
begins-first shards [] fit = inl refl
begins-first shards ([] ∷ blocks) fit = absurd (omega (arith, fit.0.asked.some))
begins-first shards ((call ∷ calls) ∷ blocks) fit = inr (length calls, refl)

begins-past : (front calls : List Call) (sizes : List ℕ) (i m : ℕ) → m ≡ length front + i → BeginsAt calls sizes i → BeginsAt (front ++ calls) (sizes_of front ++ sizes) m
begins-past front calls sizes i m is (inl e) = inl (omega (arith, is, e, length-append front calls))
begins-past front calls sizes i m is (inr w) =
    let place : m ≡ length (sizes_of front) + i = omega (arith, is, length-sizes front) in
    inr (w.0, ap (slice_get (sizes_of front ++ sizes)) place ∙ slice_get-past (sizes_of front) sizes i ∙ w.1)

-- what is known of the block at a place, where the calls as they are asked for are these
record Found (shards : ℕ) (calls : List Call) (sizes : List ℕ) (asked : List Asked) (i size : ℕ) : Type 0 where
  within : i + size ≤ length calls
  one : AreOneBlock shards (take size (drop i calls))
  asked_are : take size (drop i asked) ≡ asked_in (take size (drop i calls))
  after : BeginsAt calls sizes (i + size)

found-first : (shards : ℕ) (calls : List Call) (blocks : List (List Call)) (i size : ℕ) → AreOneBlock shards calls → AllByRecursion (AreOneBlock shards) blocks → i ≡ 0 → size ≡ length calls
    → Found shards (calls ++ flat_map (λ block. block) blocks) (sizes_of calls ++ flat_map sizes_of blocks) (asked_in calls ++ flat_map asked_in blocks) i size
found-first shards calls blocks i size one fit e f =
    let rest : List Call = flat_map (λ block. block) blocks in
    let block : take size (drop i (calls ++ rest)) ≡ calls = rw (e, f) (take-append_seam calls rest) in
    let asked : List Asked = asked_in calls ++ flat_map asked_in blocks in
    let long : length calls ≡ length (asked_in calls) = sym (length-parts (batch_number (length calls)) 0 calls) in
    record {
      within = omega (arith, e, f, length-append calls rest);
      one = rw block one;
      asked_are = rw block (ap (λ (m : ℕ). take m (drop i asked)) (f ∙ long) ∙ ap (λ (k : ℕ). take (length (asked_in calls)) (drop k asked)) e ∙ take-append_seam (asked_in calls) (flat_map asked_in blocks));
      after = begins-past calls rest (flat_map sizes_of blocks) 0 (i + size) (omega (arith, e, f)) (begins-first shards blocks fit);
    }

found-past : (shards : ℕ) (front calls : List Call) (sizes : List ℕ) (asked : List Asked) (i j size : ℕ) → i ≡ length front + j → Found shards calls sizes asked j size → Found shards (front ++ calls) (sizes_of front ++ sizes) (asked_in front ++ asked) i size
found-past shards front calls sizes asked i j size is f =
    let here : drop i (front ++ calls) ≡ drop j calls = rw is (drop-append-add front calls j) in
    let place : i ≡ length (asked_in front) + j = omega (arith, is, length-parts (batch_number (length front)) 0 front) in
    let there : drop i (asked_in front ++ asked) ≡ drop j asked = rw place (drop-append-add (asked_in front) asked j) in
    record {
      within = omega (arith, is, f.within, length-append front calls);
      one = rw here f.one;
      asked_are = rw (here, there) f.asked_are;
      after = begins-past front calls sizes (j + size) (i + size) (omega (arith, is)) f.after;
    }

find : (shards : ℕ) (blocks : List (List Call)) (i n : ℕ) → AllByRecursion (AreOneBlock shards) blocks → slice_get (flat_map sizes_of blocks) i ≡ Some (suc n)
    → Found shards (flat_map (λ block. block) blocks) (flat_map sizes_of blocks) (flat_map asked_in blocks) i (suc n)
find shards [] i n fit e = absurd cc
find shards (calls ∷ blocks) i n fit e =
    elim (where_is i (length calls)) [
      | inl h ↦ let p = first_place calls (flat_map sizes_of blocks) i n h e in found-first shards calls blocks i (suc n) fit.0 fit.1 p.0 p.1
      | inr w ↦
          let place : i ≡ length (sizes_of calls) + w.0 = omega (arith, w.1, length-sizes calls) in
          let size : slice_get (flat_map sizes_of blocks) w.0 ≡ Some (suc n) = sym (slice_get-past (sizes_of calls) (flat_map sizes_of blocks) w.0) ∙ ap (slice_get (sizes_of calls ++ flat_map sizes_of blocks)) (sym place) ∙ e in
          found-past shards calls (flat_map (λ block. block) blocks) (flat_map sizes_of blocks) (flat_map asked_in blocks) i w.0 (suc n) w.1 (find shards blocks w.0 n fit.1 size)
    ]

pub block-at : (shards : ℕ) (calls : List Call) (sizes : List ℕ) (i n : ℕ) → AreBlocks shards calls sizes → slice_get sizes i ≡ Some (suc n) → IsBlockAt shards calls sizes i (suc n)
block-at shards calls sizes i n b e =
    let f = find shards b.blocks i n b.fit (ap (λ (s : List ℕ). slice_get s i) (sym b.sizes_are) ∙ e) in
    let asked : asked_of calls sizes ≡ flat_map asked_in b.blocks = rw (b.calls_are, b.sizes_are) (blocks-asked shards 0 0 b.blocks b.fit) in
    let seen : Found shards calls sizes (asked_of calls sizes) i (suc n) = rw (asked, b.calls_are, b.sizes_are) f in
    record { within = seen.within; one = seen.one; asked = seen.asked_are; after = seen.after }

pub begins-at-first : (shards : ℕ) (calls : List Call) (sizes : List ℕ) → AreBlocks shards calls sizes → BeginsAt calls sizes 0
begins-at-first shards calls sizes b = rw (b.calls_are, b.sizes_are) (begins-first shards b.blocks b.fit)
