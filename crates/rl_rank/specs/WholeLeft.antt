-- What is left to do on a shard: by its lock, and by the work.
use Rattle.std.specs.Prelude.{ℕ, ◌+◌, ◌*◌, List, [], map}
use Rattle.rl_step.specs.Lock.{LockTable}
use Rattle.rl_step.specs.Do.{TheWindow}
use Rattle.rl_rank.specs.declared.side.Side.{Side}
use Rattle.rl_rank.specs.declared.whole.WholeView.{WholeView}
use Rattle.rl_rank.specs.Running.{LockAt}
use Rattle.rl_rank.specs.Whole.{side_of, work_side, lock_words}
use Rattle.rl_rank.specs.Begun.{split_left}
use Rattle.rl_work.specs.WorkEnding.{works_in}

-- by the lock, of its words and the ranks' sides
abbrev pub lock_left : {V : Type 0} → LockTable V → (List ℕ → List V → ℕ) → List ℕ → List (Side V) → ℕ
lock_left T left words sides = split_left T left (record { words = words; cards = []; sides = sides; modes = []; past = record { trace = []; deeds = [] } })

-- a part of the work counts more than it may add at the lock, where its rank asks or leaves
module _ {V K : Type 0} (L : LockAt V K) (left : List ℕ → List V → ℕ) (most : ℕ) (work_left : List ℕ → List K → ℕ) where
  abbrev pub whole_left : TheWindow → List (WholeView V K) → ℕ
  whole_left h vs = (4 * most + 1) * work_left h.words (works_in (map (work_side L.table) vs)) + lock_left L.table left (lock_words L h.words) (map side_of vs)

  abbrev pub whole_most : ℕ → ℕ
  whole_most work_most = (4 * most + 1) * work_most + 4 * most
