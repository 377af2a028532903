-- How far the tests of a rank have come.
use Rattle.std.specs.Prelude.{◌≡◌, ℕ, zero, suc, ◌<◌, List, count_by, drop, slice_get, Option, Some, None}
use Rattle.rl_model.specs.declared.call.Call.{Call}
use Rattle.rl_model.specs.declared.entry.Entry.{Entry}
use Rattle.rl_model.specs.Asked.{Asked, batch_number}
use Rattle.rl_ops.specs.Asked.{asked_of, asked_after}
use Rattle.rl_check.specs.declared.ranks.Part.{Part}
use Rattle.rl_check.specs.Ranks.{Stands, is_numbered, IsCalled, IsFresh, IsLatest}
use Rattle.rl_check.specs.declared.slots.Slot.{Slot}
use Rattle.rl_check.specs.declared.slots.Slot.TheVariants.{Empty, One, More}

-- what a slot tells of the entries with its number
abbrev pub SlotTells : List Entry → ℕ → Slot → Type 0
SlotTells own i Empty = count_by (is_numbered i) own ≡ 0
SlotTells own i (One e) = (count_by (is_numbered i) own ≡ 1) × Stands own e × (e.seq ≡ i)
SlotTells own i More = 1 < count_by (is_numbered i) own

abbrev pub AreSlots : List Entry → List Slot → Type 0
AreSlots own slots = (i : ℕ) (s : Slot) → slice_get slots i ≡ Some s → SlotTells own i s

-- a slot with an entry more
abbrev pub slot_with : Slot → Entry → Slot
slot_with Empty e = One e
slot_with (One d) e = More
slot_with More e = More

-- the latest entry of a shard with a number below i, if there is one
abbrev pub LastIs : List Entry → ℕ → ℕ → Option Entry → Type 0
LastIs own shard i None = (e : Entry) → Stands own e → e.shard ≡ shard → e.seq < i → ⊥
LastIs own shard i (Some d) = IsLatest own shard i d

abbrev pub AreLasts : List Entry → ℕ → List (Option Entry) → Type 0
AreLasts own i lasts = (s : ℕ) (o : Option Entry) → slice_get lasts s ≡ Some o → LastIs own s i o

-- where a call stands whose size this is: a size begins a block, and 0 goes on with the one before
abbrev pub begun_by : Part → ℕ → Part
begun_by p zero = p
begun_by p (suc n) = record { batch = batch_number (suc n); part = 0 }

-- what is left of the calls that are asked for, from place i on, is what comes after this part of a batch
abbrev pub GoesOnWith : List Call → List ℕ → ℕ → ℕ → ℕ → Type 0
GoesOnWith calls sizes i batch part = drop i (asked_of calls sizes) ≡ asked_after batch part (drop i calls) (drop i sizes)

-- the first n entries by number pass the tests
abbrev pub AreCalled : List Asked → List Entry → ℕ → Type 0
AreCalled calls own n = (i : ℕ) → i < n → IsCalled calls own i × IsFresh own i
