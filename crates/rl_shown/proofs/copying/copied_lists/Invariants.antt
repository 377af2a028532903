-- the lists so far are copied
use Rattle.std.proofs.Common.{◌≡◌, map, take}
use Rattle.rl_shown.proofs.copying.copied_lists.Given as goal

abbrev pub invariant-loop-list : goal.invariant-loop-list
invariant-loop-list g l = map (λ list. list.items) l.copies.items ≡ map (λ list. list.items) (take l.list-index l.lists)
