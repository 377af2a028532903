use Rattle.std.proofs.Common.{Some}
use Rattle.rl_window.proofs.closing.join.Given as goal

abbrev pub ghosts-join_told : goal.ghosts-join_told
ghosts-join_told g a = record { told = Some a.view.now }
