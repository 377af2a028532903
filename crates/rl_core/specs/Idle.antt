-- An atom that changes nothing, and which windows show that it does not.
use Rattle.std.specs.Prelude.{◌≡◌, ℕ, ◌-◌, ◌<◌, ◌==◌, true, false, [], length, slice_index, Option, Some, None}
use Rattle.rl_word.specs.declared.acts.Atom.{Atom}
use Rattle.rl_step.specs.declared.events.Stepped.{Stepped}
use Rattle.rl_step.specs.declared.events.Stepped.TheVariants.{Moved, Waiting, Lost, Busy, Finished}
use Rattle.rl_step.specs.Do.{TheWindow, do_atom, do_got}
use Rattle.rl_core.specs.ShardTables.{ShardTable}

-- rank k's atom, of the view x, leaves words, cards and the view as they are, nothing happens with it, and this is its answer; without
-- an atom that is Finished
abbrev pub IsIdle : {V : Type 0} → ShardTable V → TheWindow → ℕ → V → Option Atom → Stepped → Type 0
IsIdle T h k x None answer = Finished ≡ answer
IsIdle T h k x (Some at) answer =
    (do_atom k at h ≡ h) × ((T.core.after x (do_got at h.words h.cards)).view ≡ x) × ((T.core.after x (do_got at h.words h.cards)).events ≡ []) ×
    ((T.core.after x (do_got at h.words h.cards)).stepped ≡ answer)

-- the window shows that a rank which rested with the first answer rests with the second: another rank is in the card that it takes, or
-- the word that it loads has the value that it had
abbrev pub Shows : TheWindow → Stepped → Stepped → Type 0
Shows h Moved a = ⊥
Shows h (Waiting w v) a = (slice_index h.words w ≡ v) × (a ≡ Waiting w v)
Shows h (Lost guess seen) a = ⊥
Shows h (Busy n holder) a = ((slice_index h.cards n == 0) ≡ false) × (a ≡ Busy n (slice_index h.cards n - 1))
Shows h Finished a = ⊥

-- rank k's next atom, of the view x, is idle in each window that shows that a rank which rested with this answer rests still
abbrev pub IdleWhile : {V : Type 0} → ShardTable V → ℕ → V → Stepped → Type 0
IdleWhile T k x answer = (h : TheWindow) (a : Stepped) → Shows h answer a → IsIdle T h k x (T.core.next x) a

-- the card or the word is there
abbrev pub IsNamed : TheWindow → Stepped → Type 0
IsNamed h Moved = Unit {0}
IsNamed h (Waiting w v) = w < length h.words
IsNamed h (Lost guess seen) = Unit {0}
IsNamed h (Busy n holder) = n < length h.cards
IsNamed h Finished = Unit {0}

-- it is seen in the window h that a rank with the view x waits in a call: it rests with this answer, in each window that shows it
pub record SeenWaiting {V : Type 0} (T : ShardTable V) (h : TheWindow) (x : V) (answer : Stepped) : Type 0 where
  pub in_call : (T.own x).is_open ≡ true
  pub named : IsNamed h answer
  pub shows : Shows h answer answer
  pub idle : (k : ℕ) → IdleWhile T k x answer
