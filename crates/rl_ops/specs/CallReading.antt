-- Reading a call from a word of a line on. Each word is there, has its form, and is in its range.
use Rattle.std.specs.Prelude.{ℕ, ◌+◌, List, codes, Result, Ok, Err, if◌then◌else◌}
use Rattle.std.specs.Str.{bytes_eq}
use Rattle.rl_text.specs.declared.causes.Refusal.{Refusal}
use Rattle.rl_text.specs.declared.causes.Why.TheVariants.{Word}
use Rattle.rl_text.specs.Rows.{Row}
use Rattle.rl_text.specs.Reading.{◌>>=◌, refusal_at, needed_at, number_at, below_at}
use Rattle.rl_model.specs.declared.call.Call.{Call}
use Rattle.rl_model.specs.declared.call.Call.TheVariants.{Put, Get, Del, Add, Cas, Hold}

-- put KEY VALUE
unfoldable pub put_at : Row → ℕ → Result (Call × ℕ) Refusal
put_at row from = do
  key ← number_at row (from + 1)
  value ← number_at row (from + 2)
  Ok (Put key value, from + 3)

-- get KEY
unfoldable pub get_at : Row → ℕ → Result (Call × ℕ) Refusal
get_at row from = do
  key ← number_at row (from + 1)
  Ok (Get key, from + 2)

-- del KEY
unfoldable pub del_at : Row → ℕ → Result (Call × ℕ) Refusal
del_at row from = do
  key ← number_at row (from + 1)
  Ok (Del key, from + 2)

-- add KEY BY
unfoldable pub add_at : Row → ℕ → Result (Call × ℕ) Refusal
add_at row from = do
  key ← number_at row (from + 1)
  by ← number_at row (from + 2)
  Ok (Add key by, from + 3)

-- cas KEY OLD NEW
unfoldable pub cas_at : Row → ℕ → Result (Call × ℕ) Refusal
cas_at row from = do
  key ← number_at row (from + 1)
  old ← number_at row (from + 2)
  new ← number_at row (from + 3)
  Ok (Cas key old new, from + 4)

-- hold SHARD
unfoldable pub hold_at : ℕ → Row → ℕ → Result (Call × ℕ) Refusal
hold_at shards row from = do
  shard ← below_at row (from + 1) shards
  Ok (Hold shard, from + 2)

-- the call that begins with this word
unfoldable pub call_named : ℕ → Row → ℕ → List ℕ → Result (Call × ℕ) Refusal
call_named shards row from name =
    if bytes_eq name (codes "put") then put_at row from
    else (if bytes_eq name (codes "get") then get_at row from
    else (if bytes_eq name (codes "del") then del_at row from
    else (if bytes_eq name (codes "add") then add_at row from
    else (if bytes_eq name (codes "cas") then cas_at row from
    else (if bytes_eq name (codes "hold") then hold_at shards row from
    else Err (refusal_at row from Word))))))

-- the call that begins at this word, and the number of the word after it
unfoldable pub call_at : ℕ → Row → ℕ → Result (Call × ℕ) Refusal
call_at shards row from = do
  name ← needed_at row from
  call_named shards row from name
