-- Bytes kept in memory.
use Rattle.std.specs.Prelude.{◌≡◌, ℕ, ◌+◌, ◌-◌, ◌≤◌, List, ◌++◌, length, take, Bool, true, ◌&&◌, nat_le, Option, Some, None, if◌then◌else◌}
use Rattle.rl_io.specs.Script.{TheFailing}

-- the first bytes that were written, up to some room, and whether that is all that was written
pub record TheFixedSink : Type 0 where
  pub bytes : List ℕ
  pub room : ℕ
  pub all : Bool

-- the bytes are told while all of them are kept
abbrev pub told : TheFixedSink → Option (List ℕ)
told kept = if kept.all then Some kept.bytes else None

-- all of the bytes are kept, and there is room for n more
pub record HasRoom (kept : TheFixedSink) (n : ℕ) : Type 0 where
  pub all : kept.all ≡ true
  pub room : length kept.bytes + n ≤ kept.room

-- one piece more: what doesn't fit is dropped
abbrev pub kept_with : TheFixedSink → List ℕ → TheFixedSink
kept_with kept piece =
    let left = kept.room - length kept.bytes in
    record { bytes = kept.bytes ++ take left piece; room = kept.room; all = kept.all && nat_le (length piece) left }

-- bytes kept a piece at a time, and writes that are to fail
pub record TheMemSink : Type 0 where
  pub kept : TheFixedSink
  pub piece : ℕ
  pub script : TheFailing
