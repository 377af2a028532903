-- What ranks ask for: blocks, which are a call alone or the calls of a batch.
use Rattle.std.specs.Prelude.{◌≡◌, ℕ, ◌≤◌, ◌==◌, if◌then◌else◌, Bool, true, false, List, [], ◌∷◌, length}
use Rattle.rl_model.specs.declared.call.Call.{Call}
use Rattle.rl_model.specs.Call.{is_update}

-- all are updates
abbrev pub AreUpdates : List Call → Type 0
AreUpdates [] = Unit {0}
AreUpdates (call ∷ calls) = (is_update call ≡ true) × AreUpdates calls

-- a block asks for updates where its first call does
abbrev pub asks_update : List Call → Bool
asks_update [] = false
asks_update (call ∷ calls) = is_update call

-- the calls of a block: a call alone, or 2 to 8 updates
pub record IsAsked (calls : List Call) : Type 0 where
  pub some : 1 ≤ length calls
  pub few : length calls ≤ 8
  pub all_update : asks_update calls ≡ true → AreUpdates calls
  pub alone : asks_update calls ≡ false → length calls ≡ 1

-- the batch number of a block of so many calls, which is 0 for a call alone
abbrev pub batch_number : ℕ → ℕ
batch_number size = if size == 1 then 0 else size

-- a call as a rank's list has it: with the size of its batch and its place in it, from 0; both are 0 for a call alone
pub record Asked : Type 0 where
  pub call : Call
  pub batch : ℕ
  pub part : ℕ
