-- A core whose ranks load the window's one word again and again: a rank's view is the value that it loaded last.
use Rattle.std.specs.Prelude.{◌≡◌, ℕ, List, [], length, Some}
use Rattle.rl_word.specs.declared.acts.Atom.TheVariants.{Load}
use Rattle.rl_step.specs.declared.events.Stepped.TheVariants.{Moved}
use Rattle.rl_step.specs.Do.{TheWindow}
use Rattle.rl_step.specs.Core.{CoreTable}

abbrev pub loader_table : CoreTable ℕ
loader_table = record { next = λ v. Some (Load 0); after = λ v got. record { view = got; events = []; stepped = Moved }; size = 1; home = λ w. 0 }
