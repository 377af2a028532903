-- Who goes next of the ranks that were looked at so far: the most urgent, and of these the first.
use Rattle.std.specs.Prelude.{ℕ, Bool, true, false, nat_lt, Option, Some, None}
use Rattle.rl_machine.specs.declared.machine.guiding.Urgent.{Urgent}

-- of two ranks the more urgent one, the one before where both are as urgent
abbrev pub sooner_if : Bool → Urgent → ℕ → ℕ → Urgent
sooner_if true chosen rank urgency = record { rank = rank; urgency = urgency }
sooner_if false chosen rank urgency = chosen

abbrev pub sooner : Option Urgent → ℕ → Option ℕ → Option Urgent
sooner chosen rank None = chosen
sooner None rank (Some urgency) = Some (record { rank = rank; urgency = urgency })
sooner (Some chosen) rank (Some urgency) = Some (sooner_if (nat_lt urgency chosen.urgency) chosen rank urgency)
