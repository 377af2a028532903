-- Where the words of the work's own live: behind those of the lock, as the work says.
use Rattle.std.proofs.Common.{◌≡◌, ◌<◌, ℕ, ◌+◌, ◌-◌, ◌*◌, ◌/◌, false, nat_lt, refl, arith}
use Rattle.std.proofs.lemmas.Bool.Decides.{nat_tests}
use Rattle.rl_rank.specs.Running.{LockAt}
use Rattle.rl_rank.specs.Whole.{home_of_word}

-- nine words a rank
pub of_rank : (rank i : ℕ) → i < 9 → (9 * rank + i) / 9 ≡ rank
of_rank rank i low = omega arith

pub lives_behind : {V K : Type 0} (L : LockAt V K) (home i : ℕ) → home_of_word L home (L.base + L.table.size + i) ≡ L.work.home i
lives_behind L home i =
    let e : nat_lt (L.base + L.table.size + i) L.base ≡ false = grind (arith, nat_tests) in
    let f : nat_lt (L.base + L.table.size + i - L.base) L.table.size ≡ false = grind (arith, nat_tests) in
    let d : L.base + L.table.size + i - L.base - L.table.size ≡ i = omega arith in
    rw (e, f, d) refl
