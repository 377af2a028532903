use Rattle.std.proofs.Common.{◌≡◌, length, take}
use Rattle.rl_check.specs.Slots.{AreSlots}
use Rattle.rl_check.proofs.slots.slots_of.Given as goal

abbrev pub invariant-loop-place : goal.invariant-loop-place
invariant-loop-place l = record { slots : AreSlots (take l.place l.own) l.slots.items; each : length l.slots.items ≡ length l.own }
