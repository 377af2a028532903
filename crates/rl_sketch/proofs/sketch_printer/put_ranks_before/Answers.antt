use Rattle.std.proofs.Common.{ℕ, List, ◌++◌, ap, ◌∙◌}
use Rattle.rl_sketch.proofs.PrintLaws.{each_before}
use Rattle.rl_sketch.proofs.sketch_printer.put_ranks_before.Goals as goal

pub returns-in_ok-put_each-in-These : goal.returns-in_ok-put_each-in-These
returns-in_ok-put_each-in-These c =
    rw c.in-These.is (rw c.as_slice.ensures at c.in_ok-put_each-in-These.ensures ∙ ap (λ (text : List ℕ). c.args.out.now.items ++ text) (each_before c.in-These.list))
