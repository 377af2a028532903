-- A generator of numbers, and what is drawn from it.
use Rattle.std.specs.Prelude.{ℕ, ◌+◌, ◌*◌, ◌/◌, ◌%◌, ◌^◌}

-- the state that it begins with
abbrev pub first_state : ℕ → ℕ
first_state number = number % 2 ^ 31

-- the state after a state
abbrev pub next_state : ℕ → ℕ
next_state state = (state * 1103515245 + 12345) % 2 ^ 31

-- a number below n: the state moves on, and its high bits give the number
abbrev pub draw : ℕ → ℕ → ℕ × ℕ
draw n state = (next_state state / 65536 % n, next_state state)
