use Rattle.std.proofs.Common.{◌≡◌, ◌+◌, ◌-◌}
use Rattle.rl_place.specs.Reading.{budgets_from}
use Rattle.rl_place.proofs.Fronts.{with_front}
use Rattle.rl_place.proofs.settings.budget_words.Given as goal

abbrev pub invariant-loop : goal.invariant-loop
invariant-loop l = record {
  row : l.words.row ≡ l.fn.words.row;
  next : l.words.next ≡ 2 + l.counter;
  so_far : with_front l.budgets (budgets_from l.fn.words.row (2 + l.counter) (l.count - l.counter)) ≡ budgets_from l.fn.words.row 2 l.count;
}
