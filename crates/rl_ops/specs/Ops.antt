-- The calls of each rank, and the calls file.
use Rattle.std.specs.Prelude.{◌≡◌, ℕ, ◌+◌, ◌≤◌, List, [], ◌∷◌, ◌++◌, length, map, flat_map, sum_by, codes, decimal, Bool, nat_lt, if◌then◌else◌}
use Rattle.std.specs.List.{AllByRecursion, list_any, zip}
use Rattle.rl_text.specs.Spelling.{text_of}
use Rattle.rl_model.specs.declared.call.Call.{Call}
use Rattle.rl_ops.specs.declared.ops.Ops.{Ops}
use Rattle.rl_ops.specs.declared.ops.TheConstants.{MOST_CALLS}
use Rattle.rl_ops.specs.declared.calls_line.CallsVersion.{CallsVersion}
use Rattle.rl_ops.specs.declared.calls_line.CallsVersion.TheVariants.{One, Two}
use Rattle.rl_ops.specs.CallSpelling.{call_words}
use Rattle.rl_ops.specs.ByRank.{by_rank}
use Rattle.rl_ops.specs.Body.{body_lines}
use Rattle.rl_ops.specs.Blocks.{Block, block_calls, block_sizes, sizes_of, AreOneBlock, BlockFits}

-- ---- proper calls

-- the number of calls of all ranks
abbrev pub total_calls : List (List Call) → ℕ
total_calls lists = sum_by (λ calls. length calls) lists

-- a rank's calls and their sizes are those of blocks
pub record AreBlocks (shards : ℕ) (calls : List Call) (sizes : List ℕ) : Type 0 where
  pub blocks : List (List Call)
  pub fit : AllByRecursion (AreOneBlock shards) blocks
  pub calls_are : calls ≡ flat_map (λ block. block) blocks
  pub sizes_are : sizes ≡ flat_map sizes_of blocks

abbrev pub EachOfBlocks : ℕ → List (List Call) → List (List ℕ) → Type 0
EachOfBlocks shards [] [] = Unit {0}
EachOfBlocks shards [] (sizes ∷ more) = ⊥
EachOfBlocks shards (calls ∷ lists) [] = ⊥
EachOfBlocks shards (calls ∷ lists) (sizes ∷ more) = AreBlocks shards calls sizes × EachOfBlocks shards lists more

-- a list for each rank, not too many calls in all, and each rank's are blocks
pub record OpsFit (ranks shards : ℕ) (ops : Ops) : Type 0 where
  pub ranks_there : length ops.by_rank ≡ ranks
  pub few : total_calls ops.by_rank ≤ MOST_CALLS
  pub blocks : EachOfBlocks shards ops.by_rank ops.sizes

-- ---- the spelling

-- RANK CALL
abbrev pub line_words : ℕ → Call → List (List ℕ)
line_words rank call = decimal rank ∷ call_words call

-- RANK batch SIZE
abbrev pub batch_words : ℕ → ℕ → List (List ℕ)
batch_words rank size = decimal rank ∷ codes "batch" ∷ decimal size ∷ []

-- a line for each call, and before those of a batch the line of the batch
abbrev pub block_lines : Block → List (List (List ℕ))
block_lines block =
    let lines = map (line_words block.rank) block.calls in
    if nat_lt 1 (length block.calls) then batch_words block.rank (length block.calls) ∷ lines else lines

abbrev pub version_word : CallsVersion → List ℕ
version_word One = codes "1"
version_word Two = codes "2"

-- the first line, lines of blocks, and the line `end`
abbrev pub file_lines : CallsVersion → List (List (List ℕ)) → List (List (List ℕ))
file_lines version lines = (codes "rmalock-calls" ∷ version_word version ∷ []) ∷ body_lines lines

-- the blocks of a file of the first version are calls alone
abbrev pub Allows : CallsVersion → List Block → Type 0
Allows One blocks = AllByRecursion (λ block. length block.calls ≡ 1) blocks
Allows Two blocks = Unit {0}

-- blocks in any order of the ranks spell the calls that each rank has among them
pub record SpelledBy (ranks shards : ℕ) (ops : Ops) (text : List ℕ) (version : CallsVersion) (blocks : List Block) : Type 0 where
  pub allowed : Allows version blocks
  pub fit : AllByRecursion (BlockFits ranks shards) blocks
  pub few : sum_by (λ block. length block.calls) blocks ≤ MOST_CALLS
  pub text_is : text ≡ text_of (file_lines version (flat_map block_lines blocks))
  pub calls_are : ops.by_rank ≡ by_rank ranks (flat_map block_calls blocks)
  pub sizes_are : ops.sizes ≡ by_rank ranks (flat_map block_sizes blocks)

-- the text spells the calls, in one of the versions and by some order of the ranks
abbrev pub SpellsOps : ℕ → ℕ → Ops → List ℕ → Type 0
SpellsOps ranks shards ops text = (version : CallsVersion) × (blocks : List Block) × SpelledBy ranks shards ops text version blocks

-- ---- the spelling that is printed

-- a call's line, and before it the line of the batch that it begins
abbrev pub sized_lines : ℕ → Call × ℕ → List (List (List ℕ))
sized_lines rank sized = if nat_lt 1 sized.1 then batch_words rank sized.1 ∷ line_words rank sized.0 ∷ [] else line_words rank sized.0 ∷ []

-- the lines of each rank after those of the ranks before it
abbrev pub rank_after_rank : ℕ → List (List Call) → List (List ℕ) → List (List (List ℕ))
rank_after_rank rank [] sizes = []
rank_after_rank rank (calls ∷ lists) [] = []
rank_after_rank rank (calls ∷ lists) (sizes ∷ more) = flat_map (sized_lines rank) (zip calls sizes) ++ rank_after_rank (rank + 1) lists more

-- a batch begins at one of these sizes
abbrev pub begins_batch : List ℕ → Bool
begins_batch sizes = list_any (λ size. nat_lt 1 size) sizes

abbrev pub has_batch : Ops → Bool
has_batch ops = list_any begins_batch ops.sizes

abbrev pub printed_version : Bool → CallsVersion
printed_version batches = if batches then Two else One

-- the first version where no batch is there, and rank by rank
abbrev pub ops_spelling : Ops → List ℕ
ops_spelling ops = text_of (file_lines (printed_version (has_batch ops)) (rank_after_rank 0 ops.by_rank ops.sizes))
