-- the words so far are told
use Rattle.std.proofs.Common.{◌≡◌, ◌++◌}
use Rattle.std.specs.Prelude.{flat_map, slice_index}
use Rattle.std.specs.List.{range_with_len}
use Rattle.rl_text.specs.Spelling.{text_of}
use Rattle.rl_names.specs.Names.{name_of}
use Rattle.rl_shown.specs.State.{word_lines}
use Rattle.rl_shown.proofs.words.put_words_of.Given as goal

abbrev pub invariant-loop-word : goal.invariant-loop-word
invariant-loop-word g l =
    l.out.items ≡ l.fn.out.items ++ text_of (flat_map (λ w. word_lines l.naming l.shard ((g.C.ShardCore.says l.core).table.core.home w) (name_of l.map w) (slice_index l.words.words w)) (range_with_len 0 l.word))
