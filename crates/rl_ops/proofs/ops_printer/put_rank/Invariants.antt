use Rattle.std.proofs.Common.{◌≡◌, ◌++◌}
use Rattle.std.specs.List.{flat_map, zip}
use Rattle.rl_text.specs.Spelling.{text_of}
use Rattle.rl_ops.specs.Ops.{sized_lines}
use Rattle.rl_ops.proofs.ops_printer.put_rank.Given as goal

-- what was printed and what is left to print
abbrev pub invariant-loop-call : goal.invariant-loop-call
invariant-loop-call l =
    l.out.items ++ text_of (flat_map (sized_lines l.rank) (zip l.call-iterator.a.rest.now l.call-iterator.b.rest.now)) ≡ l.fn.out.items ++ text_of (flat_map (sized_lines l.rank) (zip l.calls l.sizes))
