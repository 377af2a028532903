-- What room in a sink is good for.
use Rattle.std.proofs.Common.{ℕ, ◌+◌, IsSome, arith}
use Rattle.rl_io.specs.Sinks.{TheFixedSink, HasRoom, told}

-- a sink with room tells its bytes
pub told-HasRoom : (kept : TheFixedSink) (n : ℕ) → HasRoom kept n → IsSome (told kept)
told-HasRoom kept n has = rw has.all

-- with room for more there is room for fewer
pub HasRoom-fewer : (kept : TheFixedSink) (n m : ℕ) → HasRoom kept (n + m) → HasRoom kept m
HasRoom-fewer kept n m has = record { all = has.all; room = omega arith }
