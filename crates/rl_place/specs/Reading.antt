-- The grammar of a placement, line by line and word by word, with its first fault.
use Rattle.std.specs.Prelude.{ℕ, zero, suc, ◌+◌, List, [], ◌∷◌, codes, Option, Some, None, Result, Ok, Err, position, if◌then◌else◌}
use Rattle.rl_text.specs.declared.causes.Refusal.{Refusal}
use Rattle.rl_text.specs.declared.causes.Why.TheVariants.{Word, Range}
use Rattle.rl_text.specs.Rows.{Row, Left, rows_from}
use Rattle.rl_text.specs.Reading.{◌>>=◌, refusal_at, needed_at, fixed_at, below_at, between_at, next_at, no_word_at, header_at, whole, no_end, next_left, next_begins, end_at, fault_of}
use Rattle.rl_model.specs.declared.geom.Geom.{Geom}
use Rattle.rl_place.specs.declared.path.Path.{Path}
use Rattle.rl_place.specs.declared.lock.Lock.{Lock}
use Rattle.rl_place.specs.declared.lock.Lock.TheVariants.{Spin, Dmcs, Alock, Mcs, Rw, Seq, Combine}
use Rattle.rl_word.specs.declared.locks.LockName.{LockName}
use Rattle.rl_word.specs.declared.locks.LockName.TheVariants as named
use Rattle.rl_place.specs.declared.limits.TheConstants.{MOST_BUDGET, MOST_RANKS, MOST_SHARDS, MOST_BUCKETS, MOST_CELLS}
use Rattle.rl_place.specs.LockWords.{lock_named}
use Rattle.rl_place.specs.Paths.{path_at}
use Rattle.rl_place.specs.Numbering.{node_paths, same_path}
use Rattle.rl_place.specs.Places.{ThePlace}

-- ---- lines of a name and a number

-- NAME NUMBER, with the number from low to high
unfoldable pub setting_at : Row → List ℕ → ℕ → ℕ → Result ℕ Refusal
setting_at row name low high = do
  name_there ← fixed_at row 1 name Word
  n ← between_at row 2 low high
  alone ← no_word_at row 3
  Ok n

-- the next line is such a line
unfoldable pub setting_next : List ℕ → ℕ → ℕ → Left → Result (ℕ × Left) Refusal
setting_next name low high left = do
  line ← next_left left
  n ← setting_at line.0 name low high
  Ok (n, line.1)

-- shards S, buckets B, overflow O
unfoldable pub geom_next : Left → Result (Geom × Left) Refusal
geom_next left = do
  shards ← setting_next (codes "shards") 1 MOST_SHARDS left
  buckets ← setting_next (codes "buckets") 1 MOST_BUCKETS shards.1
  overflow ← setting_next (codes "overflow") 0 MOST_CELLS buckets.1
  Ok (record { shards = shards.0; buckets = buckets.0; overflow = overflow.0 }, overflow.1)

-- ---- the lock and its settings

abbrev pub or_no_lock : Row → Option LockName → Result LockName Refusal
or_no_lock row None = Err (refusal_at row 2 Word)
or_no_lock row (Some name) = Ok name

-- lock NAME
unfoldable pub lock_name_at : Row → Result LockName Refusal
lock_name_at row = do
  name_there ← fixed_at row 1 (codes "lock") Word
  word ← needed_at row 2
  name ← or_no_lock row (lock_named word)
  alone ← no_word_at row 3
  Ok name

-- so many budgets from word n on, each within its limit
unfoldable pub budgets_from : Row → ℕ → ℕ → Result (List ℕ) Refusal
budgets_from row n zero = Ok []
budgets_from row n (suc more) = do
  budget ← between_at row n 0 MOST_BUDGET
  budgets ← budgets_from row (n + 1) more
  Ok (budget ∷ budgets)

-- budget B1 .. BN
unfoldable pub budgets_at : Row → ℕ → Result (List ℕ) Refusal
budgets_at row count = do
  name_there ← fixed_at row 1 (codes "budget") Word
  budgets ← budgets_from row 2 count
  alone ← no_word_at row (count + 2)
  Ok budgets

-- budget LOCAL REMOTE
unfoldable pub cohorts_at : Row → Result (ℕ × ℕ) Refusal
cohorts_at row = do
  name_there ← fixed_at row 1 (codes "budget") Word
  local ← between_at row 2 0 MOST_BUDGET
  remote ← between_at row 3 0 MOST_BUDGET
  alone ← no_word_at row 4
  Ok (local, remote)

-- the line of budgets of ALock, and of what stands on it
unfoldable pub cohorts_next : Left → Result ((ℕ × ℕ) × Left) Refusal
cohorts_next left = do
  line ← next_left left
  cohorts ← cohorts_at line.0
  Ok (cohorts, line.1)

-- the lock with these two budgets
abbrev pub of_cohorts : (ℕ → ℕ → Lock) → (ℕ × ℕ) × Left → Result (Lock × Left) Refusal
of_cohorts lock read = Ok (lock read.0.0 read.0.1, read.1)

-- the line of budgets of RMA-MCS
unfoldable pub mcs_next : ℕ → Left → Result (Lock × Left) Refusal
mcs_next levels left = do
  line ← next_left left
  budgets ← budgets_at line.0 levels
  Ok (Mcs budgets, line.1)

-- the line of budgets of RMA-RW, then writers, readers and group
unfoldable pub rw_next : ℕ → Left → Result (Lock × Left) Refusal
rw_next levels left = do
  line ← next_left left
  budgets ← budgets_at line.0 levels
  writers ← setting_next (codes "writers") 0 MOST_BUDGET line.1
  readers ← setting_next (codes "readers") 1 MOST_BUDGET writers.1
  group ← setting_next (codes "group") 1 MOST_RANKS readers.1
  Ok (Rw budgets writers.0 readers.0 group.0, group.1)

-- the lines of the settings of the lock of this name
unfoldable pub settings_next : ℕ → LockName → Left → Result (Lock × Left) Refusal
settings_next levels named.Spin left = Ok (Spin, left)
settings_next levels named.Dmcs left = Ok (Dmcs, left)
settings_next levels named.Alock left = cohorts_next left >>= of_cohorts Alock
settings_next levels named.Mcs left = mcs_next levels left
settings_next levels named.Rw left = rw_next levels left
settings_next levels named.Seq left = cohorts_next left >>= of_cohorts Seq
settings_next levels named.Combine left = cohorts_next left >>= of_cohorts Combine

-- lock NAME, and the lines of its settings
unfoldable pub lock_next : ℕ → Left → Result (Lock × Left) Refusal
lock_next levels left = do
  line ← next_left left
  name ← lock_name_at line.0
  settings_next levels name line.1

-- ---- ranks

-- rank K at PATH, where K is the next rank
unfoldable pub rank_at : Row → ℕ → ℕ → Result Path Refusal
rank_at row levels next = do
  name_there ← fixed_at row 1 (codes "rank") Word
  rank ← below_at row 2 MOST_RANKS
  in_order ← next_at row 2 rank next
  at_there ← fixed_at row 3 (codes "at") Word
  path ← path_at row 4 levels
  alone ← no_word_at row 5
  Ok path

-- one rank line or more, up to the first line that begins with home
unfoldable pub ranks_from : ℕ → ℕ → ℕ → List Row → Result (List Path × Left) Refusal
ranks_from levels next read [] = Err (no_end read)
ranks_from levels next read (row ∷ rows) = do
  line ← whole row
  path ← rank_at line levels next
  if next_begins rows (codes "home")
      then Ok (path ∷ [], record { rows = rows; read = read + 1 })
      else (ranks_from levels (next + 1) (read + 1) rows >>= λ others. Ok (path ∷ others.0, others.1))

abbrev pub ranks_next : ℕ → Left → Result (List Path × Left) Refusal
ranks_next levels left = ranks_from levels 0 left.read left.rows

-- ---- the homes of the shards

abbrev pub or_no_node : Row → Option ℕ → Result ℕ Refusal
or_no_node row None = Err (refusal_at row 3 Range)
or_no_node row (Some node) = Ok node

-- home I PATH, where I is the next shard and PATH is that of a node: the node's number
unfoldable pub home_at : Row → ℕ → List Path → ℕ → ℕ → Result ℕ Refusal
home_at row levels nodes shards next = do
  name_there ← fixed_at row 1 (codes "home") Word
  shard ← below_at row 2 shards
  in_order ← next_at row 2 shard next
  path ← path_at row 3 levels
  node ← or_no_node row (position (same_path path) nodes)
  alone ← no_word_at row 4
  Ok node

-- the home lines of so many shards, from one on
unfoldable pub homes_from : ℕ → List Path → ℕ → ℕ → ℕ → Left → Result (List ℕ × Left) Refusal
homes_from levels nodes shards next zero left = Ok ([], left)
homes_from levels nodes shards next (suc more) left = do
  line ← next_left left
  node ← home_at line.0 levels nodes shards next
  others ← homes_from levels nodes shards (next + 1) more line.1
  Ok (node ∷ others.0, others.1)

abbrev pub homes_next : ℕ → List Path → ℕ → Left → Result (List ℕ × Left) Refusal
homes_next levels nodes shards left = homes_from levels nodes shards 0 shards left

-- ---- the file

-- rmalock-place 1
unfoldable pub opening_next : Left → Result (Unit {0} × Left) Refusal
opening_next left = do
  line ← next_left left
  header ← header_at line.0 (codes "rmalock-place")
  Ok (tt, line.1)

-- end, after which nothing follows
unfoldable pub closing_at : Left → Result (Unit {0}) Refusal
closing_at left = do
  line ← next_left left
  name_there ← fixed_at line.0 1 (codes "end") Word
  end_at line.0 line.1.rows

-- the lines of the ranks and of the homes, and the last line: the path of each rank, and the node of each shard
unfoldable pub sites_at : ℕ → ℕ → Left → Result (List Path × List ℕ) Refusal
sites_at levels shards left = do
  paths ← ranks_next levels left
  homes ← homes_next levels (node_paths paths.0) shards paths.1
  closing ← closing_at homes.1
  Ok (paths.0, homes.0)

-- the placement that a text spells, or the text's first fault
unfoldable pub place_at : List ℕ → Result ThePlace Refusal
place_at text = do
  opening ← opening_next (record { rows = rows_from 1 text; read = 0 })
  levels ← setting_next (codes "levels") 1 3 opening.1
  lock ← lock_next levels.0 levels.1
  geom ← geom_next lock.1
  paths ← ranks_next levels.0 geom.1
  homes ← homes_next levels.0 (node_paths paths.0) geom.0.shards paths.1
  closing ← closing_at homes.1
  Ok (record { levels = levels.0; lock = lock.0; geom = geom.0; paths = paths.0; homes = homes.0 })

-- the first fault of a text, if it has one
abbrev pub place_fault : List ℕ → Option Refusal
place_fault text = fault_of (place_at text)
