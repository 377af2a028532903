-- A rank has done whole blocks at every moment: the next call that it has not done begins a block.
use Rattle.std.specs.Prelude.{◌≡◌, ℕ, zero, suc, ◌+◌, ◌-◌, ◌≤◌, List, [], ◌∷◌, ◌++◌, drop, length, map, slice_get, Some, refl}
use Rattle.std.proofs.Common.{sym, ◌∙◌, ap, inl, inr, ⊎_elim, arith}
use Rattle.std.proofs.lemmas.List.{length-drop}
use Rattle.std.proofs.lemmas.Option.{same_Some}
use Rattle.rl_model.specs.declared.call.Call.{Call}
use Rattle.rl_model.specs.declared.geom.Geom.{Geom}
use Rattle.rl_model.specs.Asked.{Asked, batch_number}
use Rattle.rl_ops.specs.Asked.{BeginsAt}
use Rattle.rl_core.specs.Asks.{AreBlocks, sizes_of, asked_after, asked_of}
use Rattle.rl_core.specs.RankGood.{AsksNext}

-- a size that begins a block, at a place of a list
abbrev BeginsBlock : List ℕ → ℕ → Type 0
BeginsBlock sizes n = (size : ℕ) × (slice_get sizes n ≡ Some (suc size))

-- in the middle of a block, the first part of a block stands where one begins
first_begins : (batch part : ℕ) (calls : List Call) (sizes : List ℕ) (n : ℕ) (a : Asked) → 1 ≤ part → slice_get (asked_after batch part calls sizes) n ≡ Some a → a.part ≡ 0 → BeginsBlock sizes n
first_begins batch part [] sizes n a some get is = absurd (cc)
first_begins batch part (call ∷ calls) [] n a some get is = absurd (cc)
first_begins batch part (call ∷ calls) (zero ∷ sizes) zero a some get is = absurd (let same : part ≡ a.part = ap (λ (z : Asked). z.part) (same_Some _ _ get) in omega arith)
first_begins batch part (call ∷ calls) (zero ∷ sizes) (suc n) a some get is = first_begins batch (part + 1) calls sizes n a (omega arith) get is
first_begins batch part (call ∷ calls) (suc size ∷ sizes) zero a some get is = (size, refl)
first_begins batch part (call ∷ calls) (suc size ∷ sizes) (suc n) a some get is = first_begins (batch_number (suc size)) 1 calls sizes n a (omega arith) get is

begins_in : (block calls : List Call) (sizes : List ℕ) (n : ℕ) (a : Asked) → 1 ≤ length block →
    slice_get (asked_of (block ++ calls) (sizes_of block ++ sizes)) n ≡ Some a → a.part ≡ 0 → BeginsBlock (sizes_of block ++ sizes) n
begins_in [] calls sizes n a some get is = absurd (omega arith)
begins_in (c ∷ cs) calls sizes zero a some get is = (length cs, refl)
begins_in (c ∷ cs) calls sizes (suc n) a some get is = first_begins (batch_number (suc (length cs))) 1 (cs ++ calls) (map (λ _. 0) cs ++ sizes) n a (omega arith) get is

-- so it does in all that is asked for
part_begins : (geom : Geom) (calls : List Call) (sizes : List ℕ) (n : ℕ) (a : Asked) → AreBlocks geom calls sizes → slice_get (asked_of calls sizes) n ≡ Some a → a.part ≡ 0 → BeginsBlock sizes n
part_begins geom _ _ n a AreBlocks.none get is = absurd (cc)
part_begins geom _ _ n a (AreBlocks.more block calls sizes is_block rest) get is = begins_in block calls sizes n a is_block.is_asked.some get is

get_behind : (xs : List ℕ) (n i x : ℕ) → slice_get (drop n xs) i ≡ Some x → slice_get xs (n + i) ≡ Some x
get_behind xs zero i x get = let at : 0 + i ≡ i = omega arith in ap (slice_get xs) at ∙ get
get_behind [] (suc n) i x get = absurd (cc)
get_behind (y ∷ xs) (suc n) i x get = let at : suc n + i ≡ suc (n + i) = omega arith in ap (slice_get (y ∷ xs)) at ∙ get_behind xs n i x get

block_first : (block : List Call) (sizes : List ℕ) → 1 ≤ length block → BeginsBlock (sizes_of block ++ sizes) 0
block_first [] sizes some = absurd (omega arith)
block_first (c ∷ cs) sizes some = (length cs, refl)

begins_left : (geom : Geom) (calls : List Call) (sizes : List ℕ) → AreBlocks geom calls sizes → BeginsAt calls sizes 0
begins_left geom _ _ AreBlocks.none = inl refl
begins_left geom _ _ (AreBlocks.more block calls sizes is_block rest) = inr (block_first block sizes is_block.is_asked.some)

-- where blocks are left from a place on, one begins there or nothing is left
pub rest_begins : (geom : Geom) (calls : List Call) (sizes : List ℕ) (n : ℕ) → n ≤ length calls → AreBlocks geom (drop n calls) (drop n sizes) → BeginsAt calls sizes n
rest_begins geom calls sizes n low rest =
    ⊎_elim
    (λ none. inl (let a : length (drop n calls) ≡ length calls - n = length-drop n calls in omega arith))
    (λ q. let at : n + 0 ≡ n = omega arith in inr (q.0, ap (slice_get sizes) (sym at) ∙ get_behind sizes n 0 (suc q.0) q.1))
    (begins_left geom (drop n calls) (drop n sizes) rest)

-- where a block is asked for next, its first call stands where one begins; and an empty one leaves what is left behind it
pub work_begins : (geom : Geom) (calls : List Call) (sizes : List ℕ) (n opened : ℕ) (block : List Call) → AreBlocks geom calls sizes →
    n + length block ≡ opened → (n ≡ opened → BeginsAt calls sizes n) →
    AsksNext (batch_number (length block)) 0 (asked_of calls sizes) n block → BeginsAt calls sizes n
work_begins geom calls sizes n opened [] blocks ends settled next = settled (omega arith)
work_begins geom calls sizes n opened (call ∷ block) blocks ends settled next =
    inr (part_begins geom calls sizes n (record { call = call; batch = batch_number (length (call ∷ block)); part = 0 }) blocks next.0 refl)
