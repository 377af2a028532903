-- Who goes on at a lock that has no dead end: of the ranks that needn't wait the most urgent one, and of those the first.
use Rattle.std.specs.Prelude.{◌≡◌, ℕ, ◌<◌, ◌≤◌, List, slice_get, Option, Some, None}
use Rattle.rl_step.specs.Lock.{LockTable, LockState, AllOut}
use Rattle.rl_ending.specs.Ending.{CanGoOn}

-- How urgently a rank with such a view goes on where the words are these: the smaller number first. None of who waits for others, or is out.
abbrev pub UrgencyOf : Type 0 → Type 0
UrgencyOf V = List ℕ → V → Option ℕ

module _ {V : Type 0} (urgent : V → Option ℕ) where
  -- of the ranks with these views r is the most urgent one, and the first of those that are as urgent
  pub record IsChosen (vs : List V) (r : ℕ) : Type 0 where
    pub view : V
    pub has : slice_get vs r ≡ Some view
    pub urgency : ℕ
    pub is_urgent : urgent view ≡ Some urgency
    pub least : (i : ℕ) (v : V) (n : ℕ) → slice_get vs i ≡ Some v → urgent v ≡ Some n → urgency ≤ n
    pub first : (i : ℕ) (v : V) (n : ℕ) → slice_get vs i ≡ Some v → urgent v ≡ Some n → i < r → urgency < n

  -- none of them is
  abbrev pub NoneUrgent : List V → Type 0
  NoneUrgent vs = (i : ℕ) (v : V) → slice_get vs i ≡ Some v → urgent v ≡ None

-- The laws of a lock that says who goes on: in its good states the chosen rank can go on, and where nobody is urgent all ranks are out.
pub record LockGuides {V : Type 0} (T : LockTable V) (left : List ℕ → List V → ℕ) (good : LockState V → Type 0) (urgent : UrgencyOf V) : Type 0 where
  pub few : (words : List ℕ) (v : V) (n : ℕ) → urgent words v ≡ Some n → n < 8
  pub goes : (s : LockState V) (r : ℕ) → good s → IsChosen (urgent s.words) s.views r → CanGoOn T left s r
  pub rest : (s : LockState V) → good s → NoneUrgent (urgent s.words) s.views → AllOut T s
