-- What is left to do at the spin lock: of each rank the acts up to its work, or after it.
use Rattle.std.specs.Prelude.{ℕ, List, sum_by}
use Rattle.rl_spin.specs.declared.view.SpinView.{SpinView}
use Rattle.rl_spin.specs.declared.view.SpinPhase.{SpinPhase}
use Rattle.rl_spin.specs.declared.view.SpinPhase.TheVariants.{Out, Trying, Inside, Releasing}

abbrev pub acts_in : SpinPhase → ℕ
acts_in Out = 0
acts_in Trying = 1
acts_in Inside = 0
acts_in Releasing = 1

abbrev pub acts_of : SpinView → ℕ
acts_of v = acts_in v.phase

abbrev pub spin_left : List ℕ → List SpinView → ℕ
spin_left words views = sum_by acts_of views
