-- The atom that a rank makes next where it stands, with what it will find there; and where the words behind a shard's journal begin.
use Rattle.std.specs.Prelude.{ℕ, slice_get, Option, Some, None}
use Rattle.rl_word.specs.declared.acts.Atom.{Atom}
use Rattle.rl_step.specs.Do.{TheWindow, do_got}
use Rattle.rl_site.specs.Site.{lock_base}
use Rattle.rl_machine.specs.declared.machine.next_atoms.NextAtom.{NextAtom}
use Rattle.rl_machine.specs.Running.{ShardRun, Running}
use Rattle.rl_machine.specs.Run.{on_shard, place_of}

-- what the atom finds on these words and cards
abbrev pub found_by : TheWindow → Option Atom → Option NextAtom
found_by h None = None
found_by h (Some at) = Some (record { atom = at; found = do_got at h.words h.cards })

module _ {V : Type 0} where
  abbrev pub next_at : ShardRun V → Option V → Option NextAtom
  next_at S None = None
  next_at S (Some x) = found_by S.held (S.table.core.next x)

  abbrev pub next_on : ℕ → ShardRun V → Option NextAtom
  next_on k S = next_at S (slice_get S.views k)

  -- rank k's next atom, where a call of it is open
  abbrev pub next_by : Running V → ℕ → Option NextAtom
  next_by m k = on_shard None (next_on k) (slice_get m.shards (place_of m k))

  -- the number of the first word behind the journal of a shard, if it is there
  abbrev pub behind_journal : Running V → ℕ → ℕ
  behind_journal m s = on_shard 0 (λ S. lock_base S.table.site) (slice_get m.shards s)
