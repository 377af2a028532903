use Rattle.std.proofs.Common.{◌≡◌, ◌==◌, ℕ, get_or, length, map}
use Rattle.std.specs.List.{count_by}
use Rattle.std.specs.Map.Iter.{deref}
use Rattle.rl_model.specs.Geom.{bucket_of}
use Rattle.rl_model.proofs.plain.Plain.counts.Given as goal

abbrev pub invariant-loop-key : goal.invariant-loop-key
invariant-loop-key l = record {
  wide : length l.counts ≡ 64;
  counted : (bucket : ℕ) → get_or l.counts bucket 0 ≡ count_by (λ key. bucket_of l.self-inside.geom key == bucket) (map deref l.yielded);
}
