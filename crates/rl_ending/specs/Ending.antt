-- A lock has no dead end: in each good state where some rank isn't out, somebody can go on.
-- Nothing is said of time, nor of which ranks a schedule takes: a rank that waits may be passed over as long as there is anything to do.
use Rattle.std.specs.Prelude.{◌≡◌, ◌⊎◌, ℕ, ◌+◌, ◌<◌, ◌≤◌, List, slice_get, slice_set, Some}
use Rattle.rl_word.specs.declared.classes.Mode.{Mode}
use Rattle.rl_word.specs.declared.acts.Act.{Act}
use Rattle.rl_step.specs.declared.events.Standing.TheVariants.{Out}
use Rattle.rl_step.specs.Lock.{LockTable, LockState, IsHolder, AllOut, acted}

-- `left` is what is left to do at the lock, of its words and the ranks' views
module _ {V : Type 0} (T : LockTable V) (left : List ℕ → List V → ℕ) where
  abbrev pub left_in : LockState V → ℕ
  left_in s = left s.words s.views

  -- the act that a rank with this view plans leaves less to do
  pub record Nears (s : LockState V) (r : ℕ) (v : V) : Type 0 where
    pub act : Act
    pub planned : T.plan v ≡ Some act
    pub less : left_in (acted T s r v act) < left_in s

  -- rank r can go on: it holds the lock, and so goes on with its work; or its act leaves less to do
  pub record CanGoOn (s : LockState V) (r : ℕ) : Type 0 where
    pub view : V
    pub has : slice_get s.views r ≡ Some view
    pub way : IsHolder (T.standing view) ⊎ Nears s r view

  -- The laws of a lock without a dead end: of its good states. Asking and leaving add so much at most to what is left.
  pub record LockEnds (good : LockState V → Type 0) (most : ℕ) : Type 0 where
    pub somebody : (s : LockState V) → good s → AllOut T s ⊎ ((r : ℕ) × CanGoOn s r)
    pub ask_adds : (s : LockState V) (r : ℕ) (v : V) (m : Mode) → good s → slice_get s.views r ≡ Some v → T.standing v ≡ Out →
        left s.words (slice_set s.views r (T.ask v m)) ≤ left_in s + most
    pub leave_adds : (s : LockState V) (r : ℕ) (v : V) → good s → slice_get s.views r ≡ Some v → IsHolder (T.standing v) →
        left s.words (slice_set s.views r (T.leave v)) ≤ left_in s + most
