-- The name of each word of a shard. That it leads back to the word by the layout is a clause of `WordMap::name_of`.
use Rattle.std.specs.Prelude.{ℕ, ◌+◌, ◌-◌, ◌*◌, ◌/◌, ◌%◌, ◌==◌, nat_lt, if◌then◌else◌}
use Rattle.rl_model.specs.declared.geom.Geom.{Geom}
use Rattle.rl_word.specs.declared.locks.LockName.{LockName}
use Rattle.rl_word.specs.declared.locks.LockName.TheVariants as lock
use Rattle.rl_site.specs.Site.{journal_base}
use Rattle.rl_names.specs.declared.word_map.WordMap.{WordMap}
use Rattle.rl_names.specs.declared.word_name.WordName.{WordName}
use Rattle.rl_names.specs.declared.word_name.WordName.TheVariants as word
use Rattle.rl_names.specs.Layout.{of_elements}

-- ---- the table and its journal

-- three words for each bucket, and for each overflow cell
abbrev pub bucket_name : ℕ → WordName
bucket_name n = if n % 3 == 0 then word.State (n / 3) else (if n % 3 == 1 then word.Key (n / 3) else word.Value (n / 3))

abbrev pub cell_name : ℕ → WordName
cell_name n = if n % 3 == 0 then word.Link (n / 3) else (if n % 3 == 1 then word.CellKey (n / 3) else word.CellValue (n / 3))

-- the free head, the buckets, the cells
abbrev pub volume_name : Geom → ℕ → WordName
volume_name geom n = if n == 0 then word.Free else (if nat_lt n (1 + 3 * geom.buckets) then bucket_name (n - 1) else cell_name (n - (1 + 3 * geom.buckets)))

-- six words for each entry
abbrev pub journal_name : ℕ → WordName
journal_name n = word.Journal (n / 6) (n % 6)

-- ---- the lock's words, and those of a way of working

-- two words for each rank, for each element but the root, and for each group
abbrev pub rank_name : ℕ → WordName
rank_name n = if n % 2 == 0 then word.Next (n / 2) else word.Status (n / 2)

abbrev pub element_name : ℕ → WordName
element_name n = if n % 2 == 0 then word.ElementNext (n / 2 + 1) else word.ElementStatus (n / 2 + 1)

abbrev pub group_name : ℕ → WordName
group_name n = if n % 2 == 0 then word.Arrive (n / 2) else word.Depart (n / 2)

-- nine words for each rank
abbrev pub post_name : ℕ → WordName
post_name n = word.Post (n / 9) (n % 9)

abbrev pub cohort_name : ℕ → WordName
cohort_name n =
    if n == 0 then word.LocalTail else (if n == 1 then word.RemoteTail else (if n == 2 then word.Victim else rank_name (n - 3)))

abbrev pub tree_name : ℕ → ℕ → WordName
tree_name elements n =
    if nat_lt n elements then word.ElementTail n
    else (if nat_lt n (of_elements elements) then element_name (n - elements) else rank_name (n - of_elements elements))

abbrev pub lock_name : LockName → ℕ → ℕ → ℕ → WordName
lock_name lock.Spin elements ranks n = word.Lock
lock_name lock.Dmcs elements ranks n = if n == 0 then word.Tail else rank_name (n - 1)
lock_name lock.Alock elements ranks n = cohort_name n
lock_name lock.Mcs elements ranks n = tree_name elements n
lock_name lock.Rw elements ranks n =
    if nat_lt n (of_elements elements + 2 * ranks) then tree_name elements n else group_name (n - (of_elements elements + 2 * ranks))
lock_name lock.Seq elements ranks n = if nat_lt n (3 + 2 * ranks) then cohort_name n else word.Version
lock_name lock.Combine elements ranks n = if nat_lt n (3 + 2 * ranks) then cohort_name n else post_name (n - (3 + 2 * ranks))

-- ---- all words

abbrev pub name_of : WordMap → ℕ → WordName
name_of map w =
    if w == 0 then word.Fixed
    else (if w == 1 then word.Count
    else (if nat_lt w (journal_base map.geom) then volume_name map.geom (w - 2)
    else (if nat_lt w map.lock_at then journal_name (w - journal_base map.geom)
    else lock_name map.lock map.elements map.ranks (w - map.lock_at))))
