-- Who goes on at the spin lock: who tries while the word is 0, and who has the lock or releases it.
use Rattle.std.specs.Prelude.{ℕ, ◌==◌, List, if◌then◌else◌, slice_index, Option, Some, None}
use Rattle.rl_spin.specs.declared.view.SpinView.{SpinView}
use Rattle.rl_spin.specs.declared.view.SpinPhase.{SpinPhase}
use Rattle.rl_spin.specs.declared.view.SpinPhase.TheVariants.{Out, Trying, Inside, Releasing}

abbrev pub urgent_in : ℕ → SpinPhase → Option ℕ
urgent_in word Out = None
urgent_in word Trying = if word == 0 then Some 0 else None
urgent_in word Inside = Some 0
urgent_in word Releasing = Some 0

abbrev pub spin_urgent : List ℕ → SpinView → Option ℕ
spin_urgent words v = urgent_in (slice_index words 0) v.phase
