use Rattle.std.proofs.Common.{◌≡◌, ◌++◌, replicate, take}
use Rattle.rl_site.specs.Opens.{opening_words}
use Rattle.rl_site.specs.Site.{Site, places}
use Rattle.table_tests.proofs.bench.opening.Given as goal

abbrev pub invariant-loop-word : goal.invariant-loop-word
invariant-loop-word l = (s : Site) → s.geom ≡ l.fn.geom → places s ≡ l.fn.updates → l.words.items ≡ take l.word (opening_words s)

abbrev pub invariant-loop : goal.invariant-loop
invariant-loop l = (s : Site) → s.geom ≡ l.fn.geom → places s ≡ l.fn.updates → l.words.items ≡ opening_words s ++ replicate l.counter 0
