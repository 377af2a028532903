-- The spelling of a call.
use Rattle.std.specs.Prelude.{◌≡◌, ℕ, ◌+◌, ◌-◌, ◌<◌, ◌^◌, List, [], ◌∷◌, ◌++◌, length, drop, codes, decimal}
use Rattle.rl_text.specs.Rows.{Row, words}
use Rattle.rl_model.specs.declared.call.Call.{Call}
use Rattle.rl_model.specs.declared.call.Call.TheVariants.{Put, Get, Del, Add, Cas, Hold}

-- the name of the call, and its numbers
abbrev pub call_words : Call → List (List ℕ)
call_words (Put key value) = codes "put" ∷ decimal key ∷ decimal value ∷ []
call_words (Get key) = codes "get" ∷ decimal key ∷ []
call_words (Del key) = codes "del" ∷ decimal key ∷ []
call_words (Add key by) = codes "add" ∷ decimal key ∷ decimal by ∷ []
call_words (Cas key old new) = codes "cas" ∷ decimal key ∷ decimal old ∷ decimal new ∷ []
call_words (Hold shard) = codes "hold" ∷ decimal shard ∷ []

-- keys and values are below 2 ^ 64, and the shard of a hold is there
abbrev pub CallFits : ℕ → Call → Type 0
CallFits shards (Put key value) = (key < 2 ^ 64) × (value < 2 ^ 64)
CallFits shards (Get key) = key < 2 ^ 64
CallFits shards (Del key) = key < 2 ^ 64
CallFits shards (Add key by) = (key < 2 ^ 64) × (by < 2 ^ 64)
CallFits shards (Cas key old new) = (key < 2 ^ 64) × (old < 2 ^ 64) × (new < 2 ^ 64)
CallFits shards (Hold shard) = shard < shards

-- the words of a line from word n on
abbrev pub words_from : Row → ℕ → List (List ℕ)
words_from row n = drop (n - 1) (words row)

-- the words from one on begin with the spelling of this call, and word `after` comes after it
pub record SpellsCall (shards : ℕ) (row : Row) (from : ℕ) (call : Call) (after : ℕ) : Type 0 where
  pub fits : CallFits shards call
  pub words_are : words_from row from ≡ call_words call ++ words_from row after
  pub after_is : after ≡ from + length (call_words call)
