-- Where each word of a shard lies, by its name: word 0, the count, the volume, the journal; then the lock's words, and behind them those of a way of working.
use Rattle.std.specs.Prelude.{◌≡◌, ℕ, ◌+◌, ◌-◌, ◌*◌, ◌≤◌, length}
use Rattle.rl_word.specs.declared.locks.LockName.{LockName}
use Rattle.rl_word.specs.declared.locks.LockName.TheVariants as lock
use Rattle.rl_volume.specs.Words.{state_word, key_word, value_word, link_word, cell_key_word, cell_value_word}
use Rattle.rl_site.specs.Site.{count_word, volume_base, journal_base}
use Rattle.rl_place.specs.LockWords.{name_of}
use Rattle.rl_place.specs.Places.{ThePlace}
use Rattle.rl_report.specs.Naming.{TheNaming}
use Rattle.rl_names.specs.declared.word_map.WordMap.{WordMap}
use Rattle.rl_names.specs.declared.word_name.WordName.{WordName}
use Rattle.rl_names.specs.declared.word_name.WordName.TheVariants as word

-- the map of a shard of a placement, the words behind whose journal begin with this one
abbrev pub map_of : ThePlace → TheNaming → ℕ → WordMap
map_of place naming behind = record { geom = place.geom; lock = name_of place.lock; elements = length naming.queues; ranks = naming.ranks; lock_at = behind }

-- ---- the lock's words, counted from the first of them

-- a tree has a tail for each element, and then a next word and a status word for each but the root
abbrev pub of_elements : ℕ → ℕ
of_elements elements = elements + 2 * (elements - 1)

-- how many words stand before those of the ranks
abbrev pub before_ranks : LockName → ℕ → ℕ
before_ranks lock.Spin elements = 1
before_ranks lock.Dmcs elements = 1
before_ranks lock.Alock elements = 3
before_ranks lock.Mcs elements = of_elements elements
before_ranks lock.Rw elements = of_elements elements
before_ranks lock.Seq elements = 3
before_ranks lock.Combine elements = 3

abbrev pub ranks_at : WordMap → ℕ
ranks_at map = map.lock_at + before_ranks map.lock map.elements

-- a rank has a next word and a status word, but for a spin lock; behind these stand the words of groups, the version, or posts
abbrev pub behind_ranks : WordMap → ℕ
behind_ranks map = ranks_at map + 2 * map.ranks

-- ---- all words

-- the number of the word with this name
abbrev pub word_named : WordMap → WordName → ℕ
word_named map word.Fixed = 0
word_named map word.Count = count_word
word_named map word.Free = volume_base
word_named map (word.State bucket) = volume_base + state_word bucket
word_named map (word.Key bucket) = volume_base + key_word bucket
word_named map (word.Value bucket) = volume_base + value_word bucket
word_named map (word.Link cell) = volume_base + link_word map.geom cell
word_named map (word.CellKey cell) = volume_base + cell_key_word map.geom cell
word_named map (word.CellValue cell) = volume_base + cell_value_word map.geom cell
word_named map (word.Journal place i) = journal_base map.geom + 6 * place + i
word_named map word.Lock = map.lock_at
word_named map word.Tail = map.lock_at
word_named map word.LocalTail = map.lock_at
word_named map word.RemoteTail = map.lock_at + 1
word_named map word.Victim = map.lock_at + 2
word_named map (word.Next rank) = ranks_at map + 2 * rank
word_named map (word.Status rank) = ranks_at map + 2 * rank + 1
word_named map (word.ElementTail element) = map.lock_at + element
word_named map (word.ElementNext element) = map.lock_at + map.elements + 2 * (element - 1)
word_named map (word.ElementStatus element) = map.lock_at + map.elements + 2 * (element - 1) + 1
word_named map (word.Arrive group) = behind_ranks map + 2 * group
word_named map (word.Depart group) = behind_ranks map + 2 * group + 1
word_named map word.Version = behind_ranks map
word_named map (word.Post rank i) = behind_ranks map + 9 * rank + i

-- in each map of so many elements, whose ranks' words stand behind those of a tree, this is the name of the lock's word n
abbrev pub NamesTreeWord : ℕ → ℕ → WordName → Type 0
NamesTreeWord elements n name =
    (map : WordMap) → map.elements ≡ elements → 1 ≤ elements → before_ranks map.lock elements ≡ of_elements elements → word_named map name ≡ map.lock_at + n

-- The word is one of the shard's, as far as that is to be told: a spin lock has one word, optimistic readers have one behind the ranks', and
-- a tree has its root.
abbrev pub HasWord : WordMap → LockName → ℕ → Type 0
HasWord map lock.Spin w = w ≤ map.lock_at
HasWord map lock.Dmcs w = Unit {0}
HasWord map lock.Alock w = Unit {0}
HasWord map lock.Mcs w = 1 ≤ map.elements
HasWord map lock.Rw w = 1 ≤ map.elements
HasWord map lock.Seq w = w ≤ behind_ranks map
HasWord map lock.Combine w = Unit {0}

abbrev pub IsWordOf : WordMap → ℕ → Type 0
IsWordOf map w = (journal_base map.geom ≤ map.lock_at) × HasWord map map.lock w
