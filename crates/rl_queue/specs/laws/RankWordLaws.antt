-- The words of ranks: which number each is, and that all are 0 at first.
use Rattle.std.specs.Prelude.{◌≡◌, ℕ, zero, suc, ◌+◌, ◌*◌, ◌<◌, [], ◌∷◌, ◌++◌, length, replicate, slice_index, refl}
use Rattle.std.proofs.Common.{◌∙◌, ap, arith}
use Rattle.rl_queue.specs.RankWords.{every_second}

-- number m of every second number
pub every_second_at : (from n m : ℕ) → m < n → slice_index (every_second from n) m ≡ from + 2 * m
every_second_at from zero m h = absurd (omega arith)
every_second_at from (suc n) zero h = omega arith
every_second_at from (suc n) (suc m) h =
    let k : m < n = omega arith in
    let e : slice_index (every_second (from + 2) n) m ≡ (from + 2) + 2 * m = every_second_at (from + 2) n m k in
    e ∙ omega arith

-- how many there are
pub length-every_second : (from n : ℕ) → length (every_second from n) ≡ n
length-every_second from zero = refl
length-every_second from (suc n) = ap suc (length-every_second (from + 2) n)

-- one more of them stands at the end
pub every_second_more : (from n : ℕ) → every_second from (suc n) ≡ every_second from n ++ (from + 2 * n) ∷ []
every_second_more from zero = let e : from ≡ from + 2 * 0 = omega arith in ap (λ z. z ∷ []) e
every_second_more from (suc n) =
    let e : (from + 2) + 2 * n ≡ from + 2 * suc n = omega arith in
    ap (λ z. from ∷ z) (every_second_more (from + 2) n ∙ ap (λ z. every_second (from + 2) n ++ z ∷ []) e)

-- each of the opening words is 0
pub all_zero : (size w : ℕ) → slice_index (replicate size 0) w ≡ 0
all_zero zero w = refl
all_zero (suc size) zero = refl
all_zero (suc size) (suc w) = all_zero size w
