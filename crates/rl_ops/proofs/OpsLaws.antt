-- A calls file that is read is spelled so, and one that is spelled so is read.
use Rattle.std.proofs.Common.{◌≡◌, ℕ, zero, suc, ◌+◌, ◌^◌, ◌<◌, ◌≤◌, Bool, true, false, cond, eqb, List, [], ◌∷◌, ◌++◌, length, map, replicate, fold, codes, None, Some, Result, Ok, Err, IfOk, inl, inr, refl, sym, ap, subst, ◌∙◌, append_assoc, arith}
use Rattle.std.specs.List.{AllByRecursion, flat_map, join_with_byte, sum_by}
use Rattle.std.specs.Str.{bytes_eq}
use Rattle.std.proofs.lemmas.List.{append-nil}
use Rattle.std.proofs.lemmas.Slice.Eq.{bytes_eq-Decides}
use Rattle.rl_text.specs.declared.causes.Refusal.{Refusal}
use Rattle.rl_text.specs.declared.causes.Why.TheVariants as why
use Rattle.rl_text.specs.declared.failing.TextErr.{TextErr}
use Rattle.rl_text.specs.Rows.{Row, words, rows_from}
use Rattle.rl_text.specs.Reading.{◌>>=◌, Gives, fault_of, refusal_at, needed_at, fixed_at, no_word_at, next_row}
use Rattle.rl_text.proofs.TextLaws.{AreLines, IsPlain, rows_of_lines, rows-text, text-lines}
use Rattle.rl_text.proofs.WordLaws.{ok_is, chosen, next-takes, next-again, fixed-takes, fixed-again, needed-takes, needed-again, no_word-takes, no_word-again, words-cons, words-nil, words-made}
use Rattle.rl_text.proofs.FromLaws.{from_bind}
use Rattle.rl_model.specs.declared.call.Call.{Call}
use Rattle.rl_ops.specs.declared.ops.Ops.{Ops}
use Rattle.rl_ops.specs.declared.ops.TheConstants.{MOST_CALLS}
use Rattle.rl_ops.specs.declared.calls_line.CallsVersion.{CallsVersion}
use Rattle.rl_ops.specs.declared.calls_line.CallsVersion.TheVariants.{One, Two}
use Rattle.rl_ops.specs.declared.calls_line.CallsLine.{CallsLine}
use Rattle.rl_ops.specs.declared.calls_line.CallsLine.TheVariants.{Batch, Asks}
use Rattle.rl_ops.specs.declared.progress.Progress.{Progress}
use Rattle.rl_ops.specs.Body.{body_lines, gathered}
use Rattle.rl_ops.specs.ByRank.{of_rank, lists_from, by_rank}
use Rattle.rl_ops.specs.Blocks.{Block, block_calls, block_sizes, sizes_of, AreOneBlock, BlockFits}
use Rattle.rl_ops.specs.Ops.{block_lines, version_word, file_lines, Allows, EachOfBlocks, OpsFit, SpellsOps}
use Rattle.rl_ops.specs.OpsReading.{version_named, version_at, nothing_read, asked_calls, asked_sizes, lines_at, ops_of, with_line, after_line, calls_at, ops_at, ops_fault}
use Rattle.rl_ops.proofs.BodyLaws.{body-takes, body-again, body-plain}
use Rattle.rl_ops.proofs.BlockLaws.{lines_of, blocks-words, calls-push, sizes-push, calls-batch, sizes-batch, blocks-calls, blocks-sizes, length-blocks, lines-blocks, lines-few, blocks-follow}
use Rattle.rl_ops.proofs.LineLaws.{words_of, line_laws}
use Rattle.rl_ops.proofs.RankLemmas.{by_rank-push, length-with_item, lists_from-nil, length-lists_from, total-le-length, of_rank-several}

-- ---- the first line

refused_ok : {A : Type 0} (d : Refusal) (y : A) → ◌≡◌ {A = Result A Refusal} (Err d) (Ok y) → ⊥
refused_ok d y e = cc

named-takes : (row : Row) (word : List ℕ) (version : CallsVersion) → version_named row word ≡ Ok version → word ≡ version_word version
named-takes row word version e =
    elim (chosen (bytes_eq word (codes "1")) (Ok One) (cond (bytes_eq word (codes "2")) (Ok Two) (Err (refusal_at row 2 why.Version))) (Ok version) e) [
      | inl p ↦ subst (λ (v : CallsVersion). word ≡ version_word v) (ok_is One version p.1) ((bytes_eq-Decides word (codes "1")).0 p.0)
      | inr p ↦ elim (chosen (bytes_eq word (codes "2")) (Ok Two) (Err (refusal_at row 2 why.Version)) (Ok version) p.1) [
        | inl q ↦ subst (λ (v : CallsVersion). word ≡ version_word v) (ok_is Two version q.1) ((bytes_eq-Decides word (codes "2")).0 q.0)
        | inr q ↦ absurd (refused_ok (refusal_at row 2 why.Version) version q.1)
      ]
    ]

version-takes : (row : Row) (version : CallsVersion) → version_at row ≡ Ok version → words row ≡ codes "rmalock-calls" ∷ version_word version ∷ []
unfolding version_at
version-takes row version e =
    from_bind (fixed_at row 1 (codes "rmalock-calls") why.Word) (λ name. needed_at row 2 >>= λ word. version_named row word >>= λ version. no_word_at row 3 >>= λ alone. Ok version) version e (λ name n e1.
    from_bind (needed_at row 2) (λ word. version_named row word >>= λ version. no_word_at row 3 >>= λ alone. Ok version) version e1 (λ word w e2.
    from_bind (version_named row word) (λ version. no_word_at row 3 >>= λ alone. Ok version) version e2 (λ read r e3.
    from_bind (no_word_at row 3) (λ alone. Ok read) version e3 (λ alone a last.
    words-cons (words row) 0 _ _ (fixed-takes row 1 (codes "rmalock-calls") why.Word name n)
    (words-cons (words row) 1 _ _ (needed-takes row 2 word w ∙ ap (λ (v : List ℕ). Some v) (named-takes row word read r ∙ ap version_word (ok_is read version last)))
    (words-nil (words row) 2 (no_word-takes row 3 alone a)))))))

header-plain : (version : CallsVersion) → IsPlain (codes "rmalock-calls" ∷ version_word version ∷ [])
header-plain One = (omega arith, (refl, (refl, tt)))
header-plain Two = (omega arith, (refl, (refl, tt)))

version-named : (row : Row) (version : CallsVersion) → version_named row (version_word version) ≡ Ok version
version-named row One = refl
version-named row Two = refl

version-again : (row : Row) (version : CallsVersion) → words row ≡ codes "rmalock-calls" ∷ version_word version ∷ [] → version_at row ≡ Ok version
unfolding version_at
version-again row version e =
    rw (
      fixed-again row 1 (codes "rmalock-calls") why.Word (rw e refl),
      needed-again row 2 (version_word version) (rw e refl),
      version-named row version,
      no_word-again row 3 (rw e refl),
    ) refl

-- ---- the file

-- what is read of the lines after the first
record CallsTaken (version : CallsVersion) (ranks shards : ℕ) (rows : List Row) (ops : Ops) : Type 0 where
  blocks : List Block
  are_lines : AreLines rows (body_lines (flat_map block_lines blocks))
  allowed : Allows version blocks
  fit : AllByRecursion (BlockFits ranks shards) blocks
  few : sum_by (λ block. length block.calls) blocks ≤ MOST_CALLS
  calls_are : ops.by_rank ≡ by_rank ranks (flat_map block_calls blocks)
  sizes_are : ops.sizes ≡ by_rank ranks (flat_map block_sizes blocks)

calls-take : (version : CallsVersion) (ranks shards read : ℕ) (rows : List Row) (ops : Ops) → ranks < 2 ^ 32 → shards < 2 ^ 32 → calls_at version ranks shards read rows ≡ Ok ops → CallsTaken version ranks shards rows ops
unfolding calls_at
calls-take version ranks shards read rows ops small shards_small e =
    from_bind (lines_at version ranks shards nothing_read read rows) (λ lines. Ok (ops_of ranks lines)) ops e (λ lines l last.
    let t = body-takes (line_laws version ranks shards small shards_small) nothing_read read rows lines l in
    let b = lines-blocks version ranks shards lines t.fit in
    let words_are : map words_of lines ≡ flat_map block_lines b.blocks = ap (map words_of) b.lines_are ∙ blocks-words b.blocks in
    let calls : asked_calls lines ≡ flat_map block_calls b.blocks = ap asked_calls b.lines_are ∙ blocks-calls b.blocks in
    let sizes : asked_sizes lines ≡ flat_map block_sizes b.blocks = ap asked_sizes b.lines_are ∙ blocks-sizes b.blocks in
    let made : ops_of ranks lines ≡ ops = ok_is (ops_of ranks lines) ops last in
    record {
      blocks = b.blocks;
      are_lines = subst (λ (ls : List (List (List ℕ))). AreLines rows (body_lines ls)) words_are t.lines;
      allowed = b.allowed;
      fit = b.fit;
      few = omega (arith, lines-few version ranks shards lines t.fit, ap length calls, length-blocks b.blocks);
      calls_are = ap (λ (o : Ops). o.by_rank) (sym made) ∙ ap (by_rank ranks) calls;
      sizes_are = ap (λ (o : Ops). o.sizes) (sym made) ∙ ap (by_rank ranks) sizes;
    })

pub ops-takes : (ranks shards : ℕ) (text : List ℕ) (ops : Ops) → ranks < 2 ^ 32 → shards < 2 ^ 32 → ops_at ranks shards text ≡ Ok ops → SpellsOps ranks shards ops text
unfolding ops_at
ops-takes ranks shards text ops small shards_small e =
    from_bind (next_row 0 (rows_from 1 text)) (λ first. version_at first.0 >>= λ version. calls_at version ranks shards 1 first.1) ops e (λ first f rest.
    from_bind (version_at first.0) (λ version. calls_at version ranks shards 1 first.1) ops rest (λ version v last.
    let n = next-takes 0 (rows_from 1 text) first.1 first.0 f in
    let t = calls-take version ranks shards 1 first.1 ops small shards_small last in
    let lines : List (List (List ℕ)) = file_lines version (flat_map block_lines t.blocks) in
    let rows : AreLines (rows_from 1 text) lines = subst (λ (rows : List Row). AreLines rows lines) (sym n.0) (record { ended = n.1; words = version-takes first.0 version v }, t.are_lines) in (
      version,
      t.blocks,
      record {
        allowed = t.allowed;
        fit = t.fit;
        few = t.few;
        text_is = text-lines 1 text lines rows;
        calls_are = t.calls_are;
        sizes_are = t.sizes_are;
      },
    )))

calls-again : (version : CallsVersion) (ranks shards read n : ℕ) (blocks : List Block) → ranks < 2 ^ 32 → shards < 2 ^ 32 → Allows version blocks → AllByRecursion (BlockFits ranks shards) blocks → sum_by (λ block. length block.calls) blocks ≤ MOST_CALLS
    → calls_at version ranks shards read (rows_of_lines n (body_lines (flat_map block_lines blocks))) ≡ Ok (record { by_rank = by_rank ranks (flat_map block_calls blocks); sizes = by_rank ranks (flat_map block_sizes blocks) })
unfolding calls_at
calls-again version ranks shards read n blocks small shards_small allowed fit few =
    let lines : List CallsLine = flat_map lines_of blocks in
    rw (
      ← blocks-words blocks,
      body-again (line_laws version ranks shards small shards_small) nothing_read read n lines (blocks-follow version ranks shards blocks allowed fit few),
      blocks-calls blocks,
      blocks-sizes blocks,
    ) refl

-- the text of blocks that fit is read as the calls of each rank
pub ops-again : (ranks shards : ℕ) (text : List ℕ) (ops : Ops) → ranks < 2 ^ 32 → shards < 2 ^ 32 → SpellsOps ranks shards ops text → ops_at ranks shards text ≡ Ok ops
unfolding ops_at
ops-again ranks shards text ops small shards_small spells =
    let version = spells.0 in
    let blocks = spells.1 in
    let s = spells.2 in
    let lines : List CallsLine = flat_map lines_of blocks in
    let header : List (List ℕ) = codes "rmalock-calls" ∷ version_word version ∷ [] in
    let plain : AllByRecursion IsPlain (body_lines (map words_of lines)) =
    body-plain (line_laws version ranks shards small shards_small) nothing_read lines (blocks-follow version ranks shards blocks s.allowed s.fit s.few) in
    let row : Row = record { number = 1; text = join_with_byte 32 header; ended = true } in
    rw (
      s.text_is,
      rows-text 1 (file_lines version (flat_map block_lines blocks)) (header-plain version, rw (← blocks-words blocks) plain),
      next-again 0 row (rows_of_lines 2 (body_lines (flat_map block_lines blocks))) refl,
      version-again row version (words-made 1 header (header-plain version)),
      calls-again version ranks shards 1 2 blocks small shards_small s.allowed s.fit s.few,
      ← s.calls_are,
      ← s.sizes_are,
    ) refl

-- ---- what a text spells keeps the limits

-- the blocks of one rank
own_blocks : ℕ → List Block → List (List Call)
own_blocks rank [] = []
own_blocks rank (block ∷ blocks) = cond (eqb block.rank rank) (block.calls ∷ own_blocks rank blocks) (own_blocks rank blocks)

own-all : {X : Type 0} (f : List Call → List X) (rank : ℕ) (blocks : List Block) → of_rank rank (flat_map (λ block. map (λ x. (block.rank, x)) (f block.calls)) blocks) ≡ flat_map f (own_blocks rank blocks)
unfolding own_blocks
own-all f rank [] = refl
own-all f rank (block ∷ blocks) =
    of_rank-several rank block.rank (f block.calls) (flat_map (λ block. map (λ x. (block.rank, x)) (f block.calls)) blocks)
    ∙ ap (λ (xs : List _). cond (eqb block.rank rank) (f block.calls) [] ++ xs) (own-all f rank blocks) ∙ here (eqb block.rank rank)
  where
    here : (b : Bool) → cond b (f block.calls) [] ++ flat_map f (own_blocks rank blocks) ≡ flat_map f (cond b (block.calls ∷ own_blocks rank blocks) (own_blocks rank blocks))
    here true = refl
    here false = refl

own-fit : (ranks shards rank : ℕ) (blocks : List Block) → AllByRecursion (BlockFits ranks shards) blocks → AllByRecursion (AreOneBlock shards) (own_blocks rank blocks)
unfolding own_blocks
own-fit ranks shards rank [] fit = tt
own-fit ranks shards rank (block ∷ blocks) fit = here (eqb block.rank rank) (own-fit ranks shards rank blocks fit.1)
  where
    here : (b : Bool) → AllByRecursion (AreOneBlock shards) (own_blocks rank blocks) → AllByRecursion (AreOneBlock shards) (cond b (block.calls ∷ own_blocks rank blocks) (own_blocks rank blocks))
    here true others = (fit.0.1, others)
    here false others = others

each-own : (ranks shards from n : ℕ) (blocks : List Block) → AllByRecursion (BlockFits ranks shards) blocks → EachOfBlocks shards (lists_from from n (flat_map block_calls blocks)) (lists_from from n (flat_map block_sizes blocks))
each-own ranks shards from zero blocks fit = tt
each-own ranks shards from (suc n) blocks fit = (
  record {
    blocks = own_blocks from blocks;
    fit = own-fit ranks shards from blocks fit;
    calls_are = own-all (λ calls. calls) from blocks;
    sizes_are = own-all sizes_of from blocks;
  },
  each-own ranks shards (from + 1) n blocks fit,
)

pub spelled-fits : (ranks shards : ℕ) (text : List ℕ) (ops : Ops) → SpellsOps ranks shards ops text → OpsFit ranks shards ops
spelled-fits ranks shards text ops spells =
    let blocks = spells.1 in
    let s = spells.2 in
    record {
      ranks_there = rw s.calls_are (length-lists_from 0 ranks (flat_map block_calls blocks));
      few = rw s.calls_are (omega (arith, total-le-length 0 ranks (flat_map block_calls blocks), length-blocks blocks, s.few));
      blocks = rw (s.calls_are, s.sizes_are) (each-own ranks shards 0 ranks blocks s.fit);
    }

-- ---- the loop

with-line : (ranks : ℕ) (front : List CallsLine) (line : CallsLine) → with_line (ops_of ranks front) line ≡ ops_of ranks (front ++ line ∷ [])
with-line ranks front (Batch rank size) = rw (calls-batch front rank size, sizes-batch front rank size) refl
with-line ranks front (Asks rank call size) =
    rw (
      by_rank-push ranks rank call (asked_calls front),
      by_rank-push ranks rank size (asked_sizes front),
      calls-push front rank size call,
      sizes-push front rank size call,
    ) refl

fold-lines : (ranks : ℕ) (front lines : List CallsLine) → fold with_line (ops_of ranks front) lines ≡ ops_of ranks (front ++ lines)
fold-lines ranks front [] = ap (ops_of ranks) (sym (append-nil front))
fold-lines ranks front (line ∷ lines) =
    ap (λ (ops : Ops). fold with_line ops lines) (with-line ranks front line)
    ∙ fold-lines ranks (front ++ line ∷ []) lines
    ∙ ap (ops_of ranks) (append_assoc front (line ∷ []) lines)

gathered-lines : (ranks : ℕ) (read : Result (List CallsLine) Refusal) → gathered with_line (ops_of ranks []) read ≡ (read >>= λ lines. Ok (ops_of ranks lines))
gathered-lines ranks (Ok lines) = ap (λ (ops : Ops). Ok ops) (fold-lines ranks [] lines)
gathered-lines ranks (Err f) = refl

-- the calls are gathered from the lines
pub calls_at-gathered : (version : CallsVersion) (ranks shards read : ℕ) (rows : List Row) (ops : Ops) → ops.by_rank ≡ replicate ranks [] → ops.sizes ≡ replicate ranks []
    → gathered with_line ops (lines_at version ranks shards nothing_read read rows) ≡ calls_at version ranks shards read rows
unfolding calls_at
calls_at-gathered version ranks shards read rows ops calls sizes =
    let none : ops ≡ ops_of ranks [] = made ops _ _ (calls ∙ sym (lists_from-nil 0 ranks)) (sizes ∙ sym (lists_from-nil 0 ranks)) in
    rw none (gathered-lines ranks (lines_at version ranks shards nothing_read read rows))
  where
    made : (ops : Ops) (cs : List (List Call)) (ss : List (List ℕ)) → ops.by_rank ≡ cs → ops.sizes ≡ ss → ops ≡ record { by_rank = cs; sizes = ss }
    made ops cs ss c s = rw (← c, ← s) refl

-- a line keeps the numbers of lists
pub with_line-ranks : (ops : Ops) (line : CallsLine) → (length (with_line ops line).by_rank ≡ length ops.by_rank) × (length (with_line ops line).sizes ≡ length ops.sizes)
with_line-ranks ops (Batch rank size) = (refl, refl)
with_line-ranks ops (Asks rank call size) = (length-with_item ops.by_rank rank call, length-with_item ops.sizes rank size)

-- and the count is at most one more
pub count-after : (shards : ℕ) (progress : Progress) (line : CallsLine) → progress.count < MOST_CALLS → (after_line shards progress line).count ≤ MOST_CALLS
count-after shards progress (Batch rank size) few = omega (arith, few)
count-after shards progress (Asks rank call size) few = omega (arith, few)

-- ---- the clauses of the reader

pub is_found : (ranks shards : ℕ) (text : List ℕ) (r : Result Ops TextErr) → ranks < 2 ^ 32 → shards < 2 ^ 32 → Gives r (ops_at ranks shards text) → IfOk r (λ ops. SpellsOps ranks shards ops text)
is_found ranks shards text (Ok ops) small shards_small given = ops-takes ranks shards text ops small shards_small given
is_found ranks shards text (Err e) small shards_small given = tt

pub is_fit : (ranks shards : ℕ) (text : List ℕ) (r : Result Ops TextErr) → ranks < 2 ^ 32 → shards < 2 ^ 32 → Gives r (ops_at ranks shards text) → IfOk r (λ ops. OpsFit ranks shards ops)
is_fit ranks shards text (Ok ops) small shards_small given = spelled-fits ranks shards text ops (ops-takes ranks shards text ops small shards_small given)
is_fit ranks shards text (Err e) small shards_small given = tt

no_fault-at : (ranks shards : ℕ) (text : List ℕ) (r : Result Ops Refusal) → ranks < 2 ^ 32 → shards < 2 ^ 32 → ops_at ranks shards text ≡ r → fault_of r ≡ None → (ops : Ops) × SpellsOps ranks shards ops text
no_fault-at ranks shards text (Ok ops) small shards_small e none = (ops, ops-takes ranks shards text ops small shards_small e)
no_fault-at ranks shards text (Err f) small shards_small e none = absurd cc

pub no_fault-value : (ranks shards : ℕ) (text : List ℕ) → ranks < 2 ^ 32 → shards < 2 ^ 32 → ops_fault ranks shards text ≡ None → (ops : Ops) × SpellsOps ranks shards ops text
no_fault-value ranks shards text small shards_small none = no_fault-at ranks shards text (ops_at ranks shards text) small shards_small refl none

pub value-no_fault : (ranks shards : ℕ) (text : List ℕ) → ranks < 2 ^ 32 → shards < 2 ^ 32 → (ops : Ops) × SpellsOps ranks shards ops text → ops_fault ranks shards text ≡ None
value-no_fault ranks shards text small shards_small v = ap fault_of (ops-again ranks shards text v.0 small shards_small v.1)
