-- the words that are forgotten have no place, and the others are still to come
use Rattle.std.proofs.Common.{◌≡◌, ℕ, None, drop, length, slice_index}
use Rattle.rl_volume.specs.Seen.{value_of}
use Rattle.rl_volume.proofs.seen.Seen.clear.Given as goal

abbrev pub invariant-loop-seen : goal.invariant-loop-seen
invariant-loop-seen l =
    (length l.self-inside.1.1.0.items ≡ length l.initial.self-inside.1.1.0.items) × ((word : ℕ) → value_of (drop l.seen-index l.seen-items) word ≡ None → slice_index l.self-inside.1.1.0.items word ≡ 0)
