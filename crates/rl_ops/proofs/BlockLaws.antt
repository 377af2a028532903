-- The lines of a calls file are those of blocks, and the lines of blocks may follow each other in a file.
use Rattle.std.proofs.Common.{◌≡◌, ℕ, zero, suc, ◌+◌, ◌-◌, ◌<◌, ◌≤◌, Bool, true, false, cond, nat_lt, List, [], ◌∷◌, ◌++◌, length, map, refl, sym, ap, subst, ◌∙◌, arith}
use Rattle.std.specs.List.{AllByRecursion, flat_map, sum_by}
use Rattle.std.proofs.lemmas.Bool.{lt-ltb}
use Rattle.std.proofs.lemmas.List.{append-nil, length-append, length-map, map-append}
use Rattle.std.proofs.lemmas.List.Sums.{sum_by-cons}
use Rattle.rl_model.specs.declared.call.Call.{Call}
use Rattle.rl_model.specs.Call.{is_update}
use Rattle.rl_model.specs.Asked.{AreUpdates, IsAsked}
use Rattle.rl_ops.specs.declared.ops.TheConstants.{MOST_CALLS, MOST_IN_BATCH}
use Rattle.rl_ops.specs.declared.calls_line.CallsVersion.{CallsVersion}
use Rattle.rl_ops.specs.declared.calls_line.CallsVersion.TheVariants.{One, Two}
use Rattle.rl_ops.specs.declared.calls_line.CallsLine.{CallsLine}
use Rattle.rl_ops.specs.declared.calls_line.CallsLine.TheVariants.{Batch, Asks}
use Rattle.rl_ops.specs.declared.progress.Expected.{Expected}
use Rattle.rl_ops.specs.declared.progress.Expected.TheVariants.{NewBlock, FirstCall, FurtherCall}
use Rattle.rl_ops.specs.CallSpelling.{CallFits}
use Rattle.rl_ops.specs.Blocks.{Block, block_calls, block_sizes, sizes_of, shard_among, AreOneBlock, BlockFits}
use Rattle.rl_ops.specs.Ops.{block_lines, line_words, batch_words, Allows}
use Rattle.rl_ops.specs.OpsReading.{rest_of, calls_items, asked_calls, asked_sizes}
use Rattle.rl_ops.proofs.BodyLaws.{FitsAfter}
use Rattle.rl_ops.proofs.LineLaws.{words_of, PartFits, LineFits}

-- ---- the lines of a block

-- the lines of the later calls of a batch
abbrev further : ℕ → List Call → List CallsLine
further rank calls = map (λ call. Asks rank call 0) calls

-- the lines of a block's calls, of which the first has the size
abbrev asked_lines : ℕ → ℕ → List Call → List CallsLine
asked_lines rank size [] = []
asked_lines rank size (call ∷ calls) = Asks rank call size ∷ further rank calls

abbrev pub lines_of : Block → List CallsLine
lines_of block =
    cond (nat_lt 1 (length block.calls)) (Batch block.rank (length block.calls) ∷ asked_lines block.rank (length block.calls) block.calls)
    (asked_lines block.rank (length block.calls) block.calls)

further-words : (rank : ℕ) (calls : List Call) → map words_of (further rank calls) ≡ map (line_words rank) calls
further-words rank [] = refl
further-words rank (call ∷ calls) = ap (λ (ls : List (List (List ℕ))). line_words rank call ∷ ls) (further-words rank calls)

asked-words : (rank size : ℕ) (calls : List Call) → map words_of (asked_lines rank size calls) ≡ map (line_words rank) calls
asked-words rank size [] = refl
asked-words rank size (call ∷ calls) = ap (λ (ls : List (List (List ℕ))). line_words rank call ∷ ls) (further-words rank calls)

block-words : (block : Block) → map words_of (lines_of block) ≡ block_lines block
block-words block = here (nat_lt 1 (length block.calls))
  where
    here : (b : Bool) → map words_of (cond b (Batch block.rank (length block.calls) ∷ asked_lines block.rank (length block.calls) block.calls) (asked_lines block.rank (length block.calls) block.calls))
        ≡ cond b (batch_words block.rank (length block.calls) ∷ map (line_words block.rank) block.calls) (map (line_words block.rank) block.calls)
    here true = ap (λ (ls : List (List (List ℕ))). batch_words block.rank (length block.calls) ∷ ls) (asked-words block.rank (length block.calls) block.calls)
    here false = asked-words block.rank (length block.calls) block.calls

-- the lines of the file
pub blocks-words : (blocks : List Block) → map words_of (flat_map lines_of blocks) ≡ flat_map block_lines blocks
blocks-words [] = refl
blocks-words (block ∷ blocks) = rw (map-append, block-words block, blocks-words blocks) refl

-- ---- what the lines ask for

calls-append : (front lines : List CallsLine) → asked_calls (front ++ lines) ≡ asked_calls front ++ asked_calls lines
calls-append [] lines = refl
calls-append (Batch rank size ∷ front) lines = calls-append front lines
calls-append (Asks rank call size ∷ front) lines = ap (λ (cs : List (ℕ × Call)). (rank, call) ∷ cs) (calls-append front lines)

sizes-append : (front lines : List CallsLine) → asked_sizes (front ++ lines) ≡ asked_sizes front ++ asked_sizes lines
sizes-append [] lines = refl
sizes-append (Batch rank size ∷ front) lines = sizes-append front lines
sizes-append (Asks rank call size ∷ front) lines = ap (λ (ss : List (ℕ × ℕ)). (rank, size) ∷ ss) (sizes-append front lines)

pub calls-push : (lines : List CallsLine) (rank size : ℕ) (call : Call) → asked_calls (lines ++ Asks rank call size ∷ []) ≡ asked_calls lines ++ (rank, call) ∷ []
calls-push lines rank size call = calls-append lines (Asks rank call size ∷ [])

pub sizes-push : (lines : List CallsLine) (rank size : ℕ) (call : Call) → asked_sizes (lines ++ Asks rank call size ∷ []) ≡ asked_sizes lines ++ (rank, size) ∷ []
sizes-push lines rank size call = sizes-append lines (Asks rank call size ∷ [])

pub calls-batch : (lines : List CallsLine) (rank size : ℕ) → asked_calls (lines ++ Batch rank size ∷ []) ≡ asked_calls lines
calls-batch lines rank size = calls-append lines (Batch rank size ∷ []) ∙ append-nil (asked_calls lines)

pub sizes-batch : (lines : List CallsLine) (rank size : ℕ) → asked_sizes (lines ++ Batch rank size ∷ []) ≡ asked_sizes lines
sizes-batch lines rank size = sizes-append lines (Batch rank size ∷ []) ∙ append-nil (asked_sizes lines)

further-calls : (rank : ℕ) (calls : List Call) → asked_calls (further rank calls) ≡ map (λ call. (rank, call)) calls
further-calls rank [] = refl
further-calls rank (call ∷ calls) = ap (λ (cs : List (ℕ × Call)). (rank, call) ∷ cs) (further-calls rank calls)

further-sizes : (rank : ℕ) (calls : List Call) → asked_sizes (further rank calls) ≡ map (λ size. (rank, size)) (map (λ _. 0) calls)
further-sizes rank [] = refl
further-sizes rank (call ∷ calls) = ap (λ (ss : List (ℕ × ℕ)). (rank, 0) ∷ ss) (further-sizes rank calls)

block-calls : (rank : ℕ) (calls : List Call) → asked_calls (lines_of (record { rank = rank; calls = calls })) ≡ map (λ call. (rank, call)) calls
block-calls rank [] = refl
block-calls rank (call ∷ calls) = here (nat_lt 1 (suc (length calls)))
  where
    here : (b : Bool) → asked_calls (cond b (Batch rank (suc (length calls)) ∷ Asks rank call (suc (length calls)) ∷ further rank calls) (Asks rank call (suc (length calls)) ∷ further rank calls))
        ≡ (rank, call) ∷ map (λ call. (rank, call)) calls
    here true = ap (λ (cs : List (ℕ × Call)). (rank, call) ∷ cs) (further-calls rank calls)
    here false = ap (λ (cs : List (ℕ × Call)). (rank, call) ∷ cs) (further-calls rank calls)

block-sizes : (rank : ℕ) (calls : List Call) → asked_sizes (lines_of (record { rank = rank; calls = calls })) ≡ map (λ size. (rank, size)) (sizes_of calls)
block-sizes rank [] = refl
block-sizes rank (call ∷ calls) = here (nat_lt 1 (suc (length calls)))
  where
    here : (b : Bool) → asked_sizes (cond b (Batch rank (suc (length calls)) ∷ Asks rank call (suc (length calls)) ∷ further rank calls) (Asks rank call (suc (length calls)) ∷ further rank calls))
        ≡ (rank, suc (length calls)) ∷ map (λ size. (rank, size)) (map (λ _. 0) calls)
    here true = ap (λ (ss : List (ℕ × ℕ)). (rank, suc (length calls)) ∷ ss) (further-sizes rank calls)
    here false = ap (λ (ss : List (ℕ × ℕ)). (rank, suc (length calls)) ∷ ss) (further-sizes rank calls)

pub blocks-calls : (blocks : List Block) → asked_calls (flat_map lines_of blocks) ≡ flat_map block_calls blocks
blocks-calls [] = refl
blocks-calls (block ∷ blocks) = calls-append (lines_of block) (flat_map lines_of blocks) ∙ rw (block-calls block.rank block.calls, blocks-calls blocks) refl

pub blocks-sizes : (blocks : List Block) → asked_sizes (flat_map lines_of blocks) ≡ flat_map block_sizes blocks
blocks-sizes [] = refl
blocks-sizes (block ∷ blocks) = sizes-append (lines_of block) (flat_map lines_of blocks) ∙ rw (block-sizes block.rank block.calls, blocks-sizes blocks) refl

pub length-blocks : (blocks : List Block) → length (flat_map block_calls blocks) ≡ sum_by (λ block. length block.calls) blocks
length-blocks [] = refl
length-blocks (block ∷ blocks) = rw (sum_by-cons, length-append, length-map, length-blocks blocks) refl

-- ---- from lines to blocks

module _ (version : CallsVersion) (ranks shards : ℕ) where
  abbrev FitsAt : ℕ → Expected → List CallsLine → Type 0
  FitsAt count expected lines = FitsAfter (LineFits version ranks shards) (calls_items version ranks shards) (record { count = count; expected = expected }) lines

  -- the lines are those of blocks
  pub record OfBlocks (lines : List CallsLine) : Type 0 where
    pub blocks : List Block
    pub allowed : Allows version blocks
    pub fit : AllByRecursion (BlockFits ranks shards) blocks
    pub lines_are : lines ≡ flat_map lines_of blocks

  -- the lines are so many calls of a batch, and then those of blocks
  record OfRest (own left shard : ℕ) (lines : List CallsLine) : Type 0 where
    calls : List Call
    count : length calls ≡ left
    fit : AllByRecursion (PartFits ranks shards own) calls
    one_shard : AllByRecursion (λ call. shard_among shards call ≡ shard) calls
    after : List CallsLine
    lines_are : lines ≡ further own calls ++ after
    blocks : OfBlocks after

  -- the lines are all calls of a batch, and then those of blocks
  record OfBatch (own size : ℕ) (lines : List CallsLine) : Type 0 where
    first : Call
    first_fits : PartFits ranks shards own first
    after : List CallsLine
    lines_are : lines ≡ Asks own first size ∷ after
    rest : OfRest own (size - 1) (shard_among shards first) after

  abbrev Whole : Expected → List CallsLine → Type 0
  Whole NewBlock lines = OfBlocks lines
  Whole (FirstCall own size) lines = OfBatch own size lines
  Whole (FurtherCall own left shard) lines = OfRest own left shard lines

  -- there is a further call where one is expected
  abbrev IsSome : Expected → Type 0
  IsSome NewBlock = Unit {0}
  IsSome (FirstCall own size) = Unit {0}
  IsSome (FurtherCall own left shard) = 1 ≤ left

  rest-some : (own left shard : ℕ) → IsSome (rest_of own left shard)
  rest-some own zero shard = tt
  rest-some own (suc left) shard = omega arith

  rest-whole : (own left shard : ℕ) (lines : List CallsLine) → Whole (rest_of own left shard) lines → OfRest own left shard lines
  rest-whole own zero shard lines w = record { calls = []; count = refl; fit = tt; one_shard = tt; after = lines; lines_are = refl; blocks = w }
  rest-whole own (suc left) shard lines w = w

  parts-update : (own : ℕ) (calls : List Call) → AllByRecursion (PartFits ranks shards own) calls → AreUpdates calls
  parts-update own [] fit = tt
  parts-update own (call ∷ calls) fit = (fit.0.update, parts-update own calls fit.1)

  parts-fit : (own : ℕ) (calls : List Call) → AllByRecursion (PartFits ranks shards own) calls → AllByRecursion (CallFits shards) calls
  parts-fit own [] fit = tt
  parts-fit own (call ∷ calls) fit = (fit.0.fits, parts-fit own calls fit.1)

  allow-alone : (version : CallsVersion) (block : Block) (blocks : List Block) → length block.calls ≡ 1 → Allows version blocks → Allows version (block ∷ blocks)
  allow-alone One block blocks one allowed = (one, allowed)
  allow-alone Two block blocks one allowed = tt

  -- a call alone, and then blocks
  alone-more : (rank : ℕ) (call : Call) (lines : List CallsLine) → rank < ranks → CallFits shards call → OfBlocks lines → OfBlocks (Asks rank call 1 ∷ lines)
  alone-more rank call lines there fits b =
      let block : Block = record { rank = rank; calls = call ∷ [] } in
      record {
        blocks = block ∷ b.blocks;
        allowed = allow-alone version block b.blocks refl b.allowed;
        fit = (
          (
            there,
            record {
              asked = record { some = omega arith; few = omega arith; all_update = λ e. (e, tt); alone = λ e. refl };
              shard = shard_among shards call;
              one_shard = (refl, tt);
              fit = (fits, tt);
            },
          ),
          b.fit,
        );
        lines_are = ap (λ (ls : List CallsLine). Asks rank call 1 ∷ ls) b.lines_are;
      }

  -- the calls of a batch make a block
  batch-fits : (own size : ℕ) (lines : List CallsLine) (b : OfBatch own size lines) → own < ranks → 2 ≤ size → size ≤ MOST_IN_BATCH → BlockFits ranks shards (record { rank = own; calls = b.first ∷ b.rest.calls })
  batch-fits own size lines b there some few = (
    there,
    record {
      asked = record {
        some = omega arith;
        few = omega (arith, b.rest.count);
        all_update = λ e. (e, parts-update own b.rest.calls b.rest.fit);
        alone = λ e. absurd (let is = b.first_fits.update in cc);
      };
      shard = shard_among shards b.first;
      one_shard = (refl, b.rest.one_shard);
      fit = (b.first_fits.fits, parts-fit own b.rest.calls b.rest.fit);
    },
  )

  batch-lines : (own size : ℕ) (first : Call) (calls : List Call) → suc (length calls) ≡ size → 2 ≤ size
      → lines_of (record { rank = own; calls = first ∷ calls }) ≡ Batch own size ∷ Asks own first size ∷ further own calls
  batch-lines own size first calls e some =
      let n : suc (length calls) ≡ size = e in
      rw (lt-ltb 1 (suc (length calls)) (omega (arith, e, some)), n) refl

  allow-two : (version : CallsVersion) (blocks : List Block) → version ≡ Two → Allows version blocks
  allow-two version blocks e = subst (λ (v : CallsVersion). Allows v blocks) (sym e) tt

  -- a batch, and then blocks
  batch-more : (own size : ℕ) (lines : List CallsLine) → version ≡ Two → own < ranks → 2 ≤ size → size ≤ MOST_IN_BATCH → OfBatch own size lines → OfBlocks (Batch own size ∷ lines)
  batch-more own size lines two there some few b =
      let block : Block = record { rank = own; calls = b.first ∷ b.rest.calls } in
      let size_is : suc (length b.rest.calls) ≡ size = omega (arith, b.rest.count, some) in
      record {
        blocks = block ∷ b.rest.blocks.blocks;
        allowed = allow-two version (block ∷ b.rest.blocks.blocks) two;
        fit = (batch-fits own size lines b there some few, b.rest.blocks.fit);
        lines_are =
            ap (λ (ls : List CallsLine). Batch own size ∷ ls) (b.lines_are ∙ ap (λ (ls : List CallsLine). Asks own b.first size ∷ ls) (b.rest.lines_are ∙ ap (λ (ls : List CallsLine). further own b.rest.calls ++ ls) b.rest.blocks.lines_are))
            ∙ ap (λ (ls : List CallsLine). ls ++ flat_map lines_of b.rest.blocks.blocks) (sym (batch-lines own size b.first b.rest.calls size_is some));
      }

  -- a further call of a batch, and then what is left
  rest-more : (own left shard : ℕ) (call : Call) (lines : List CallsLine) → 1 ≤ left → PartFits ranks shards own call → shard_among shards call ≡ shard → OfRest own (left - 1) shard lines → OfRest own left shard (Asks own call 0 ∷ lines)
  rest-more own left shard call lines some fits of r = record {
    calls = call ∷ r.calls;
    count = omega (arith, r.count, some);
    fit = (fits, r.fit);
    one_shard = (of, r.one_shard);
    after = r.after;
    lines_are = ap (λ (ls : List CallsLine). Asks own call 0 ∷ ls) r.lines_are;
    blocks = r.blocks;
  }

  split : (count : ℕ) (expected : Expected) (lines : List CallsLine) → IsSome expected → FitsAt count expected lines → Whole expected lines
  split count NewBlock [] some fit = record { blocks = []; allowed = none version; fit = tt; lines_are = refl }
    where
      none : (version : CallsVersion) → Allows version []
      none One = tt
      none Two = tt
  split count (FirstCall own size) [] some fit = absurd cc
  split count (FurtherCall own left shard) [] some fit = absurd cc
  split count NewBlock (Batch rank size ∷ lines) some fit =
      batch-more rank size lines fit.0.1.0 fit.0.1.1 fit.0.1.2 fit.0.1.3 (split count (FirstCall rank size) lines tt fit.1)
  split count NewBlock (Asks rank call size ∷ lines) some fit =
      subst (λ (n : ℕ). OfBlocks (Asks rank call n ∷ lines)) (sym fit.0.1.2) (alone-more rank call lines fit.0.1.0 fit.0.1.1 (split (count + 1) NewBlock lines tt fit.1))
  split count (FirstCall own n) (Batch rank size ∷ lines) some fit = absurd fit.0.1
  split count (FirstCall own n) (Asks rank call size ∷ lines) some fit =
      let shard : ℕ = shard_among shards call in
      record {
        first = call;
        first_fits = fit.0.1.0;
        after = lines;
        lines_are = rw (fit.0.1.1, fit.0.1.2) refl;
        rest = rest-whole own (n - 1) shard lines (split (count + 1) (rest_of own (n - 1) shard) lines (rest-some own (n - 1) shard) fit.1);
      }
  split count (FurtherCall own left shard) (Batch rank size ∷ lines) some fit = absurd fit.0.1
  split count (FurtherCall own left shard) (Asks rank call size ∷ lines) some fit =
      let rest = rest-whole own (left - 1) shard lines (split (count + 1) (rest_of own (left - 1) shard) lines (rest-some own (left - 1) shard) fit.1) in
      rw (fit.0.1.2, fit.0.1.3) (rest-more own left shard call lines some fit.0.1.0 fit.0.1.1 rest)

  -- lines that may follow each other from the first on are those of blocks
  pub lines-blocks : (lines : List CallsLine) → FitsAt 0 NewBlock lines → OfBlocks lines
  lines-blocks lines fit = split 0 NewBlock lines tt fit

  -- and there are not too many calls
  calls-few : (count : ℕ) (expected : Expected) (lines : List CallsLine) → count ≤ MOST_CALLS → FitsAt count expected lines → count + length (asked_calls lines) ≤ MOST_CALLS
  calls-few count expected [] few fit = omega arith
  calls-few count expected (Batch rank size ∷ lines) few fit = calls-few count (FirstCall rank size) lines few fit.1
  calls-few count expected (Asks rank call size ∷ lines) few fit = omega (arith, calls-few (count + 1) _ lines (omega (arith, fit.0.0)) fit.1)

  pub lines-few : (lines : List CallsLine) → FitsAt 0 NewBlock lines → length (asked_calls lines) ≤ MOST_CALLS
  lines-few lines fit = omega (arith, calls-few 0 NewBlock lines (omega arith) fit)

  -- ---- from blocks to lines

  -- the later calls of a batch may follow, and what may follow after them
  further-follow : (own shard count m : ℕ) (calls : List Call) (lines : List CallsLine) → own < ranks → AllByRecursion (PartFits ranks shards own) calls → AllByRecursion (λ call. shard_among shards call ≡ shard) calls
      → m ≡ count + length calls → m ≤ MOST_CALLS → FitsAt m NewBlock lines → FitsAt count (rest_of own (length calls) shard) (further own calls ++ lines)
  further-follow own shard count m [] lines there fit of e few after = subst (λ (n : ℕ). FitsAt n NewBlock lines) (omega (arith, e)) after
  further-follow own shard count m (call ∷ calls) lines there fit of e few after =
      let left : suc (length calls) - 1 ≡ length calls = omega arith in
      let others = further-follow own shard (count + 1) m calls lines there fit.1 of.1 (omega (arith, e)) few after in
      ((omega (arith, e, few), (fit.0, of.0, refl, refl)), rw left others)

  updates-part : (own : ℕ) (calls : List Call) → own < ranks → AreUpdates calls → AllByRecursion (CallFits shards) calls → AllByRecursion (PartFits ranks shards own) calls
  updates-part own [] there update fit = tt
  updates-part own (call ∷ calls) there update fit = (record { there = there; fits = fit.0; update = update.0 }, updates-part own calls there update.1 fit.1)

  same-shards : (shard other : ℕ) (calls : List Call) → shard ≡ other → AllByRecursion (λ call. shard_among shards call ≡ shard) calls → AllByRecursion (λ call. shard_among shards call ≡ other) calls
  same-shards shard other calls e all = subst (λ (s : ℕ). AllByRecursion (λ call. shard_among shards call ≡ s) calls) e all

  is_two : (version : CallsVersion) (block : Block) (blocks : List Block) → 2 ≤ length block.calls → Allows version (block ∷ blocks) → version ≡ Two
  is_two One block blocks some allowed = absurd (omega (arith, allowed.0))
  is_two Two block blocks some allowed = refl

  others-allowed : (version : CallsVersion) (block : Block) (blocks : List Block) → Allows version (block ∷ blocks) → Allows version blocks
  others-allowed One block blocks allowed = allowed.1
  others-allowed Two block blocks allowed = tt

  -- all of several calls that are asked for in one go are updates
  all_update : (first second : Call) (calls : List Call) → IsAsked (first ∷ second ∷ calls) → AreUpdates (first ∷ second ∷ calls)
  all_update first second calls asked = by (is_update first) refl
    where
      by : (b : Bool) → is_update first ≡ b → AreUpdates (first ∷ second ∷ calls)
      by true e = asked.all_update e
      by false e = absurd (omega (arith, asked.alone e))

  block-follow : (rank count m : ℕ) (calls : List Call) (blocks : List Block) (lines : List CallsLine) → Allows version (record { rank = rank; calls = calls } ∷ blocks) → rank < ranks → AreOneBlock shards calls
      → m ≡ count + length calls → m ≤ MOST_CALLS → FitsAt m NewBlock lines → FitsAt count NewBlock (lines_of (record { rank = rank; calls = calls }) ++ lines)
  block-follow rank count m [] blocks lines allowed there one e few after = absurd (omega (arith, one.asked.some))
  block-follow rank count m (call ∷ []) blocks lines allowed there one e few after =
      ((omega (arith, e, few), (there, one.fit.0, refl)), subst (λ (n : ℕ). FitsAt n NewBlock lines) (omega (arith, e)) after)
  block-follow rank count m (first ∷ second ∷ calls) blocks lines allowed there one e few after =
      let more : List Call = second ∷ calls in
      let size : ℕ = suc (length more) in
      let two : version ≡ Two = is_two version (record { rank = rank; calls = first ∷ more }) blocks (omega arith) allowed in
      let parts = updates-part rank (first ∷ more) there (all_update first second calls one.asked) one.fit in
      let left : size - 1 ≡ length more = omega arith in
      let shards_are = same-shards one.shard (shard_among shards first) more (sym one.one_shard.0) one.one_shard.1 in
      let rest = further-follow rank (shard_among shards first) (count + 1) m more lines there parts.1 shards_are (omega (arith, e)) few after in
      let all : FitsAt count NewBlock ((Batch rank size ∷ Asks rank first size ∷ further rank more) ++ lines) =
      ((omega (arith, e, few), (two, there, omega arith, omega (arith, one.asked.few))), ((omega (arith, e, few), (parts.0, refl, refl)), rw left rest)) in
      subst (λ (ls : List CallsLine). FitsAt count NewBlock (ls ++ lines)) (sym (batch-lines rank size first more refl (omega arith))) all

  follow : (count : ℕ) (blocks : List Block) → Allows version blocks → AllByRecursion (BlockFits ranks shards) blocks → count + sum_by (λ block. length block.calls) blocks ≤ MOST_CALLS → FitsAt count NewBlock (flat_map lines_of blocks)
  follow count [] allowed fit few = refl
  follow count (block ∷ blocks) allowed fit few =
      let total : count + (length block.calls + sum_by (λ block. length block.calls) blocks) ≤ MOST_CALLS = rw sum_by-cons at few in
      block-follow block.rank count (count + length block.calls) block.calls blocks (flat_map lines_of blocks) allowed fit.0.0 fit.0.1 refl (omega (arith, total))
      (follow (count + length block.calls) blocks (others-allowed version block blocks allowed) fit.1 (omega (arith, total)))

  -- the lines of blocks that fit may follow each other from the first on
  pub blocks-follow : (blocks : List Block) → Allows version blocks → AllByRecursion (BlockFits ranks shards) blocks → sum_by (λ block. length block.calls) blocks ≤ MOST_CALLS → FitsAt 0 NewBlock (flat_map lines_of blocks)
  blocks-follow blocks allowed fit few = follow 0 blocks allowed fit (omega (arith, few))
