-- The words of ranks in the queues of a lock: each rank has a next word and a status word, pair behind pair; and where ranks sit.
use Rattle.std.specs.Prelude.{◌≡◌, ℕ, zero, suc, ◌+◌, ◌<◌, ◌≤◌, List, [], ◌∷◌, length, slice_get, Some}
use Rattle.rl_word.specs.Acts.{Layout}

-- n numbers from one on, each 2 more than the one before
abbrev pub every_second : ℕ → ℕ → List ℕ
every_second from zero = []
every_second from (suc n) = from ∷ every_second (from + 2) n

-- what is asked of where the ranks sit: there are at most 32, and each sits on a node that is there
pub record Seated (layout : Layout) : Type 0 where
  pub few : length layout.node_of ≤ 32
  pub sits : (r n : ℕ) → slice_get layout.node_of r ≡ Some n → n < layout.nodes
