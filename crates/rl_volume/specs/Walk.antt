-- The walk of a call: the words of the volume that it reads, each by what the words before it gave.
use Rattle.std.specs.Prelude.{ℕ, zero, suc, ◌+◌, ◌-◌, ◌*◌, ◌==◌, if◌then◌else◌, Option, Some, None}
use Rattle.rl_model.specs.declared.call.Call.{Call}
use Rattle.rl_model.specs.declared.call.Call.TheVariants.{Put, Get, Del, Add, Cas, Hold}
use Rattle.rl_model.specs.declared.geom.Geom.{Geom}
use Rattle.rl_model.specs.Geom.{bucket_of}
use Rattle.rl_volume.specs.Words.{state_word, key_word, value_word, link_word, cell_key_word, cell_value_word, named}

-- a walk is over, or looks at a word and goes on by what the word gives
pub data Walk : Type 0 where
  stop : Walk
  look : ℕ → (ℕ → Walk) → Walk

-- the search for a free cell: the free head and, where it names a cell, that cell's link
abbrev pub free_walk : Geom → Walk
free_walk geom = look 0 (λ head. elim (named geom head) [ None ↦ stop | Some cell ↦ look (link_word geom cell) (λ link. stop) ])

-- what gives a cell back to the free list: its link and the free head
abbrev pub freed_walk : Geom → ℕ → Walk
freed_walk geom cell = look (link_word geom cell) (λ link. look 0 (λ head. stop))

-- behind the end of a chain without the key: a put looks for a free cell
abbrev pub absent_walk : Geom → Call → Walk
absent_walk geom (Put key value) = free_walk geom
absent_walk geom _ = stop

-- the first cell of the chain, if there is one: a delete in the bucket's own cell moves its key and value there
abbrev pub first_walk : Geom → Option ℕ → Walk
first_walk geom None = stop
first_walk geom (Some cell) = look (cell_key_word geom cell) (λ key. look (cell_value_word geom cell) (λ value. freed_walk geom cell))

-- behind the value in the bucket's own cell, by the bucket's state
abbrev pub behind_value : Geom → Call → ℕ → Walk
behind_value geom (Del key) state = first_walk geom (named geom (state - 1))
behind_value geom _ state = stop

-- behind the value in an overflow cell
abbrev pub behind_cell_value : Geom → Call → ℕ → Walk
behind_cell_value geom (Del key) cell = freed_walk geom cell
behind_cell_value geom _ cell = stop

-- the key stands in the bucket's own cell
abbrev pub inline_walk : Geom → Call → ℕ → ℕ → Walk
inline_walk geom call bucket state = look (value_word bucket) (λ value. behind_value geom call state)

-- the key stands in an overflow cell
abbrev pub cell_walk : Geom → Call → ℕ → Walk
cell_walk geom call cell = look (cell_value_word geom cell) (λ value. behind_cell_value geom call cell)

-- a link that leads no further: 0 is the end of the chain. Any other, which no well-formed volume has, ends the walk
abbrev pub end_walk : Geom → Call → ℕ → Walk
end_walk geom call link = if link == 0 then absent_walk geom call else stop

-- from a link on, past so many cells at most: where there are as many in all, one more would be one a second time
abbrev pub chain_walk : Geom → Call → ℕ → ℕ → ℕ → Walk
chain_walk geom call key link zero = end_walk geom call link
chain_walk geom call key link (suc left) =
    elim (named geom link) [
      | None ↦ end_walk geom call link
      | Some cell ↦ look (cell_key_word geom cell) (λ there. if there == key then cell_walk geom call cell else look (link_word geom cell) (λ next. chain_walk geom call key next left))
    ]

-- a bucket and its chain
abbrev pub bucket_walk : Geom → Call → ℕ → ℕ → Walk
bucket_walk geom call key bucket =
    look (state_word bucket) (λ state.
    if state == 0 then stop
    else look (key_word bucket) (λ own. if own == key then inline_walk geom call bucket state else chain_walk geom call key (state - 1) geom.overflow))

-- the walk of a call. A hold reads nothing
abbrev pub walk : Geom → Call → Walk
walk geom (Put key value) = bucket_walk geom (Put key value) key (bucket_of geom key)
walk geom (Get key) = bucket_walk geom (Get key) key (bucket_of geom key)
walk geom (Del key) = bucket_walk geom (Del key) key (bucket_of geom key)
walk geom (Add key by) = bucket_walk geom (Add key by) key (bucket_of geom key)
walk geom (Cas key old new) = bucket_walk geom (Cas key old new) key (bucket_of geom key)
walk geom (Hold shard) = stop

-- how many words a call reads at most
abbrev pub most_reads : Geom → Call → ℕ
most_reads geom (Put key value) = 4 + 2 * geom.overflow
most_reads geom (Del key) = 5 + 2 * geom.overflow
most_reads geom (Hold shard) = 0
most_reads geom _ = 3 + 2 * geom.overflow
