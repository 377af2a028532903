-- Calls printed rank by rank are spelled so, and are read as the calls of each rank.
use Rattle.std.proofs.Common.{◌≡◌, ℕ, suc, ◌+◌, ◌<◌, ◌≤◌, ◌^◌, Bool, true, false, ◌||◌, cond, codes, nat_lt, List, [], ◌∷◌, ◌++◌, length, map, Result, Ok, Err, IfOk, ◌⊎◌, inl, inr, refl, sym, ap, subst, ◌∙◌, append_assoc, arith}
use Rattle.std.specs.List.{AllByRecursion, flat_map, list_any, sum_by, zip}
use Rattle.std.proofs.lemmas.Bool.{ltb-false}
use Rattle.std.proofs.lemmas.Grind.{flat_map-append}
use Rattle.std.proofs.lemmas.List.{length-append, length-map, map-append}
use Rattle.std.proofs.lemmas.List.Sums.{sum_by-cons, sum_by-append}
use Rattle.rl_text.specs.Spelling.{line_text, text_of}
use Rattle.rl_text.proofs.TextLaws.{AllByRecursion-append}
use Rattle.rl_model.specs.declared.call.Call.{Call}
use Rattle.rl_ops.specs.declared.ops.Ops.{Ops}
use Rattle.rl_ops.specs.declared.calls_line.CallsVersion.{CallsVersion}
use Rattle.rl_ops.specs.Blocks.{Block, block_calls, block_sizes, sizes_of, AreOneBlock, BlockFits}
use Rattle.rl_ops.specs.Ops.{line_words, batch_words, block_lines, version_word, file_lines, Allows, EachOfBlocks, OpsFit, SpellsOps, total_calls, sized_lines, rank_after_rank, begins_batch, printed_version, ops_spelling}
use Rattle.rl_ops.specs.OpsReading.{ops_at}
use Rattle.rl_ops.proofs.OpsLaws.{ops-again}
use Rattle.rl_ops.proofs.RankLemmas.{told, lists_from-told}

-- ---- the loops

-- a pair is left where something is left of both
pub zip-none : {X Y : Type 0} (xs : List X) (ys : List Y) → (length xs ≡ 0) ⊎ (length ys ≡ 0) → zip xs ys ≡ []
zip-none [] ys e = refl
zip-none (x ∷ xs) [] e = refl
zip-none (x ∷ xs) (y ∷ ys) (inl e) = absurd (omega (arith, e))
zip-none (x ∷ xs) (y ∷ ys) (inr e) = absurd (omega (arith, e))

pub ranks-none : (rank : ℕ) (lists : List (List Call)) (sizes : List (List ℕ)) → (length lists ≡ 0) ⊎ (length sizes ≡ 0) → rank_after_rank rank lists sizes ≡ []
ranks-none rank [] sizes e = refl
ranks-none rank (calls ∷ lists) [] e = refl
ranks-none rank (calls ∷ lists) (sizes ∷ more) (inl e) = absurd (omega (arith, e))
ranks-none rank (calls ∷ lists) (sizes ∷ more) (inr e) = absurd (omega (arith, e))

-- the first line, the lines of the calls and the line `end` are the file
pub file-text : (version : CallsVersion) (lines : List (List (List ℕ))) → (line_text (codes "rmalock-calls" ∷ version_word version ∷ []) ++ text_of lines) ++ codes "end\n" ≡ text_of (file_lines version lines)
file-text version lines =
    append_assoc (line_text (codes "rmalock-calls" ∷ version_word version ∷ [])) (text_of lines) (codes "end\n")
    ∙ ap (λ (t : List ℕ). line_text (codes "rmalock-calls" ∷ version_word version ∷ []) ++ t) (sym (flat_map-append line_text lines ((codes "end" ∷ []) ∷ [])))

-- ---- the lines of blocks

zip-append : {X Y : Type 0} (xs more : List X) (ys others : List Y) → length xs ≡ length ys → zip (xs ++ more) (ys ++ others) ≡ zip xs ys ++ zip more others
zip-append [] more [] others e = refl
zip-append [] more (y ∷ ys) others e = absurd (omega (arith, e))
zip-append (x ∷ xs) more [] others e = absurd (omega (arith, e))
zip-append (x ∷ xs) more (y ∷ ys) others e = ap (λ (ps : List _). (x, y) ∷ ps) (zip-append xs more ys others (omega (arith, e)))

length-sizes : (calls : List Call) → length calls ≡ length (sizes_of calls)
length-sizes [] = refl
length-sizes (call ∷ calls) = rw length-map refl

later-lines : (rank : ℕ) (calls : List Call) → flat_map (sized_lines rank) (zip calls (map (λ _. 0) calls)) ≡ map (line_words rank) calls
later-lines rank [] = refl
later-lines rank (call ∷ calls) = ap (λ (ls : List (List (List ℕ))). line_words rank call ∷ ls) (later-lines rank calls)

own-lines : (rank : ℕ) (calls : List Call) → flat_map (sized_lines rank) (zip calls (sizes_of calls)) ≡ block_lines (record { rank = rank; calls = calls })
own-lines rank [] = refl
own-lines rank (call ∷ calls) = rw (later-lines rank calls) (here (nat_lt 1 (suc (length calls))))
  where
    here : (b : Bool) → cond b (batch_words rank (suc (length calls)) ∷ line_words rank call ∷ []) (line_words rank call ∷ []) ++ map (line_words rank) calls
        ≡ cond b (batch_words rank (suc (length calls)) ∷ map (line_words rank) (call ∷ calls)) (map (line_words rank) (call ∷ calls))
    here true = refl
    here false = refl

-- blocks of one rank
abbrev of_one : ℕ → List (List Call) → List Block
of_one rank blocks = map (λ calls. record { rank = rank; calls = calls }) blocks

blocks-lines : (rank : ℕ) (blocks : List (List Call)) → flat_map (sized_lines rank) (zip (flat_map (λ block. block) blocks) (flat_map sizes_of blocks)) ≡ flat_map block_lines (of_one rank blocks)
blocks-lines rank [] = refl
blocks-lines rank (calls ∷ blocks) =
    ap (flat_map (sized_lines rank)) (zip-append calls (flat_map (λ block. block) blocks) (sizes_of calls) (flat_map sizes_of blocks) (length-sizes calls))
    ∙ flat_map-append (sized_lines rank) (zip calls (sizes_of calls)) (zip (flat_map (λ block. block) blocks) (flat_map sizes_of blocks))
    ∙ rw (own-lines rank calls, blocks-lines rank blocks) refl

-- the blocks of all ranks, rank after rank
file_blocks : (shards rank : ℕ) (lists : List (List Call)) (sizes : List (List ℕ)) → EachOfBlocks shards lists sizes → List Block
file_blocks shards rank [] [] each = []
file_blocks shards rank [] (sizes ∷ more) each = absurd each
file_blocks shards rank (calls ∷ lists) [] each = absurd each
file_blocks shards rank (calls ∷ lists) (sizes ∷ more) each = of_one rank each.0.blocks ++ file_blocks shards (rank + 1) lists more each.1

file-lines : (shards rank : ℕ) (lists : List (List Call)) (sizes : List (List ℕ)) (each : EachOfBlocks shards lists sizes) → rank_after_rank rank lists sizes ≡ flat_map block_lines (file_blocks shards rank lists sizes each)
unfolding file_blocks
file-lines shards rank [] [] each = refl
file-lines shards rank [] (sizes ∷ more) each = absurd each
file-lines shards rank (calls ∷ lists) [] each = absurd each
file-lines shards rank (calls ∷ lists) (sizes ∷ more) each =
    let own : flat_map (sized_lines rank) (zip calls sizes) ≡ flat_map block_lines (of_one rank each.0.blocks) = rw (each.0.calls_are, each.0.sizes_are) (blocks-lines rank each.0.blocks) in
    rw (own, file-lines shards (rank + 1) lists more each.1) (sym (flat_map-append block_lines (of_one rank each.0.blocks) (file_blocks shards (rank + 1) lists more each.1)))

one-calls : (rank : ℕ) (blocks : List (List Call)) → flat_map block_calls (of_one rank blocks) ≡ map (λ call. (rank, call)) (flat_map (λ block. block) blocks)
one-calls rank [] = refl
one-calls rank (calls ∷ blocks) = rw (one-calls rank blocks, map-append) refl

one-sizes : (rank : ℕ) (blocks : List (List Call)) → flat_map block_sizes (of_one rank blocks) ≡ map (λ size. (rank, size)) (flat_map sizes_of blocks)
one-sizes rank [] = refl
one-sizes rank (calls ∷ blocks) = rw (one-sizes rank blocks, map-append) refl

file-calls : (shards rank : ℕ) (lists : List (List Call)) (sizes : List (List ℕ)) (each : EachOfBlocks shards lists sizes) → flat_map block_calls (file_blocks shards rank lists sizes each) ≡ told rank lists
unfolding file_blocks
file-calls shards rank [] [] each = refl
file-calls shards rank [] (sizes ∷ more) each = absurd each
file-calls shards rank (calls ∷ lists) [] each = absurd each
file-calls shards rank (calls ∷ lists) (sizes ∷ more) each =
    flat_map-append block_calls (of_one rank each.0.blocks) (file_blocks shards (rank + 1) lists more each.1)
    ∙ rw (one-calls rank each.0.blocks, file-calls shards (rank + 1) lists more each.1, ← each.0.calls_are) refl

file-sizes : (shards rank : ℕ) (lists : List (List Call)) (sizes : List (List ℕ)) (each : EachOfBlocks shards lists sizes) → flat_map block_sizes (file_blocks shards rank lists sizes each) ≡ told rank sizes
unfolding file_blocks
file-sizes shards rank [] [] each = refl
file-sizes shards rank [] (sizes ∷ more) each = absurd each
file-sizes shards rank (calls ∷ lists) [] each = absurd each
file-sizes shards rank (calls ∷ lists) (sizes ∷ more) each =
    flat_map-append block_sizes (of_one rank each.0.blocks) (file_blocks shards (rank + 1) lists more each.1)
    ∙ rw (one-sizes rank each.0.blocks, file-sizes shards (rank + 1) lists more each.1, ← each.0.sizes_are) refl

-- ---- the limits

one-fit : (ranks shards rank : ℕ) (blocks : List (List Call)) → rank < ranks → AllByRecursion (AreOneBlock shards) blocks → AllByRecursion (BlockFits ranks shards) (of_one rank blocks)
one-fit ranks shards rank [] there fit = tt
one-fit ranks shards rank (calls ∷ blocks) there fit = ((there, fit.0), one-fit ranks shards rank blocks there fit.1)

file-fit : (ranks shards rank : ℕ) (lists : List (List Call)) (sizes : List (List ℕ)) (each : EachOfBlocks shards lists sizes) → rank + length lists ≤ ranks → AllByRecursion (BlockFits ranks shards) (file_blocks shards rank lists sizes each)
unfolding file_blocks
file-fit ranks shards rank [] [] each few = tt
file-fit ranks shards rank [] (sizes ∷ more) each few = absurd each
file-fit ranks shards rank (calls ∷ lists) [] each few = absurd each
file-fit ranks shards rank (calls ∷ lists) (sizes ∷ more) each few =
    AllByRecursion-append (BlockFits ranks shards) (of_one rank each.0.blocks) (file_blocks shards (rank + 1) lists more each.1)
    (one-fit ranks shards rank each.0.blocks (omega (arith, few)) each.0.fit)
    (file-fit ranks shards (rank + 1) lists more each.1 (omega (arith, few)))

one-total : (rank : ℕ) (blocks : List (List Call)) → sum_by (λ block. length block.calls) (of_one rank blocks) ≡ length (flat_map (λ block. block) blocks)
one-total rank [] = refl
one-total rank (calls ∷ blocks) = rw (sum_by-cons, length-append, one-total rank blocks) refl

file-total : (shards rank : ℕ) (lists : List (List Call)) (sizes : List (List ℕ)) (each : EachOfBlocks shards lists sizes) → sum_by (λ block. length block.calls) (file_blocks shards rank lists sizes each) ≡ total_calls lists
unfolding file_blocks
file-total shards rank [] [] each = refl
file-total shards rank [] (sizes ∷ more) each = absurd each
file-total shards rank (calls ∷ lists) [] each = absurd each
file-total shards rank (calls ∷ lists) (sizes ∷ more) each =
    let own : sum_by (λ block. length block.calls) (of_one rank each.0.blocks) ≡ length calls = one-total rank each.0.blocks ∙ ap length (sym each.0.calls_are) in
    sum_by-append (λ block. length block.calls) (of_one rank each.0.blocks) (file_blocks shards (rank + 1) lists more each.1)
    ∙ rw (own, file-total shards (rank + 1) lists more each.1) (sym (sum_by-cons (λ calls. length calls) calls lists))

-- ---- the version

or_false : (a b : Bool) → (a || b) ≡ false → (a ≡ false) × (b ≡ false)
or_false true b e = absurd cc
or_false false b e = (refl, e)

any-append : (xs ys : List ℕ) → begins_batch (xs ++ ys) ≡ (begins_batch xs || begins_batch ys)
any-append [] ys = refl
any-append (x ∷ xs) ys = rw (any-append xs ys) (assoc (nat_lt 1 x) (begins_batch xs) (begins_batch ys))
  where
    assoc : (a b c : Bool) → (a || (b || c)) ≡ ((a || b) || c)
    assoc true b c = refl
    assoc false b c = refl

-- where no batch begins each block is a call alone
one-alone : (shards rank : ℕ) (blocks : List (List Call)) → AllByRecursion (AreOneBlock shards) blocks → begins_batch (flat_map sizes_of blocks) ≡ false → AllByRecursion (λ block. length block.calls ≡ 1) (of_one rank blocks)
one-alone shards rank [] fit none = tt
one-alone shards rank ([] ∷ blocks) fit none = absurd (omega (arith, fit.0.asked.some))
one-alone shards rank ((call ∷ calls) ∷ blocks) fit none =
    let parts = or_false (begins_batch (sizes_of (call ∷ calls))) (begins_batch (flat_map sizes_of blocks)) (sym (any-append (sizes_of (call ∷ calls)) (flat_map sizes_of blocks)) ∙ none) in
    let first = or_false (nat_lt 1 (suc (length calls))) (begins_batch (map (λ _. 0) calls)) parts.0 in
    (omega (arith, ltb-false 1 (suc (length calls)) first.0), one-alone shards rank blocks fit.1 parts.1)

file-alone : (shards rank : ℕ) (lists : List (List Call)) (sizes : List (List ℕ)) (each : EachOfBlocks shards lists sizes) → list_any begins_batch sizes ≡ false → AllByRecursion (λ block. length block.calls ≡ 1) (file_blocks shards rank lists sizes each)
unfolding file_blocks
file-alone shards rank [] [] each none = tt
file-alone shards rank [] (sizes ∷ more) each none = absurd each
file-alone shards rank (calls ∷ lists) [] each none = absurd each
file-alone shards rank (calls ∷ lists) (sizes ∷ more) each none =
    let parts = or_false (begins_batch sizes) (list_any begins_batch more) none in
    AllByRecursion-append (λ (block : Block). length block.calls ≡ 1) (of_one rank each.0.blocks) (file_blocks shards (rank + 1) lists more each.1)
    (one-alone shards rank each.0.blocks each.0.fit (ap begins_batch (sym each.0.sizes_are) ∙ parts.0))
    (file-alone shards (rank + 1) lists more each.1 parts.1)

allowed-printed : (batches : Bool) (blocks : List Block) → (batches ≡ false → AllByRecursion (λ block. length block.calls ≡ 1) blocks) → Allows (printed_version batches) blocks
allowed-printed true blocks h = tt
allowed-printed false blocks h = h refl

-- ---- the file

length-each : (shards : ℕ) (lists : List (List Call)) (sizes : List (List ℕ)) → EachOfBlocks shards lists sizes → length sizes ≡ length lists
length-each shards [] [] each = refl
length-each shards [] (sizes ∷ more) each = absurd each
length-each shards (calls ∷ lists) [] each = absurd each
length-each shards (calls ∷ lists) (sizes ∷ more) each = ap suc (length-each shards lists more each.1)

-- what is printed spells the calls
pub printed-spells : (ranks shards : ℕ) (ops : Ops) → OpsFit ranks shards ops → SpellsOps ranks shards ops (ops_spelling ops)
printed-spells ranks shards ops fits =
    let each = fits.blocks in
    let blocks : List Block = file_blocks shards 0 ops.by_rank ops.sizes each in (
      printed_version (list_any begins_batch ops.sizes),
      blocks,
      record {
        allowed = allowed-printed (list_any begins_batch ops.sizes) blocks (file-alone shards 0 ops.by_rank ops.sizes each);
        fit = file-fit ranks shards 0 ops.by_rank ops.sizes each (omega (arith, fits.ranks_there));
        few = omega (arith, file-total shards 0 ops.by_rank ops.sizes each, fits.few);
        text_is = rw (file-lines shards 0 ops.by_rank ops.sizes each) refl;
        calls_are = rw (file-calls shards 0 ops.by_rank ops.sizes each) (sym (lists_from-told 0 ranks ops.by_rank fits.ranks_there));
        sizes_are = rw (file-sizes shards 0 ops.by_rank ops.sizes each) (sym (lists_from-told 0 ranks ops.sizes (length-each shards ops.by_rank ops.sizes each ∙ fits.ranks_there)));
      },
    )

-- ---- the clauses of the printer

pub is_spelled : {V E : Type 0} (items : V → List ℕ) (ops : Ops) (r : Result V E) → IfOk r (λ text. items text ≡ ops_spelling ops)
    → IfOk r (λ text. (ranks shards : ℕ) → OpsFit ranks shards ops → SpellsOps ranks shards ops (items text))
is_spelled items ops (Ok text) e = λ ranks shards fits. subst (λ (t : List ℕ). SpellsOps ranks shards ops t) (sym e) (printed-spells ranks shards ops fits)
is_spelled items ops (Err e) h = tt

pub is_read : {V E : Type 0} (items : V → List ℕ) (ops : Ops) (r : Result V E) → IfOk r (λ text. items text ≡ ops_spelling ops)
    → IfOk r (λ text. (ranks shards : ℕ) → ranks < 2 ^ 32 → shards < 2 ^ 32 → OpsFit ranks shards ops → ops_at ranks shards (items text) ≡ Ok ops)
is_read items ops (Ok text) e = λ ranks shards small shards_small fits.
    ap (ops_at ranks shards) e ∙ ops-again ranks shards (ops_spelling ops) ops small shards_small (printed-spells ranks shards ops fits)
is_read items ops (Err e) h = tt
