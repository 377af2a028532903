-- Calls that are to fail, by their number.
use Rattle.std.specs.Prelude.{◌≡◌, ℕ, ◌+◌, ◌-◌, ◌^◌, ◌<◌, List, Contains}

-- the numbers of the calls that are to fail, how many calls were made, and how many failed
pub record TheFailing : Type 0 where
  pub numbers : List ℕ
  pub calls : ℕ
  pub faults : ℕ

-- with no call made
abbrev pub unbegun : List ℕ → TheFailing
unbegun numbers = record { numbers = numbers; calls = 0; faults = 0 }

-- the next call is one of those that are to fail
abbrev pub FailsNext : TheFailing → Type 0
FailsNext script = Contains script.numbers script.calls

-- one more call, which failed or not
pub record Counts (old new : TheFailing) : Type 0 where
  pub numbers : new.numbers ≡ old.numbers
  pub calls : old.calls < 2 ^ 64 - 1 → new.calls ≡ old.calls + 1
