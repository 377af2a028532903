-- What is told of the entries by one thread that makes their calls, up to a place.
use Rattle.std.specs.Prelude.{◌≡◌, ◌↔◌, ℕ, ◌+◌, ◌<◌, Bool, true, false, not, List, [], ◌∷◌, ◌++◌, length, map, slice_get, take, Option, Some, None}
use Rattle.std.specs.FinMap as finite
use Rattle.rl_model.specs.declared.call.Call.{Call}
use Rattle.rl_model.specs.declared.entry.Entry.{Entry}
use Rattle.rl_model.specs.declared.entry.Reply.{Reply}
use Rattle.rl_model.specs.declared.geom.Geom.{Geom}
use Rattle.rl_model.specs.Table.{Table, apply}
use Rattle.rl_model.specs.Plain.{OneTable}
use Rattle.rl_journal.specs.Blocks.{apply_batch, half_after, is_last}
use Rattle.rl_report.specs.Lawful.{journal_among}
use Rattle.rl_check.specs.Entries.{before, IsInBatch, EntryIsAnswered, HasReply, IsWholeBatch}

-- an entry leaves a batch begun
abbrev pub is_begun : Option Entry → Bool
is_begun None = false
is_begun (Some d) = not (is_last d)

-- the first n entries are rightly in batches
abbrev pub BatchesFit : List Entry → ℕ → Type 0
BatchesFit entries n = (q : ℕ) → q < n → IsInBatch entries q

-- what is told of the entry at a place: the reply that passes the test, or that any does
abbrev pub Tells : Geom → List Entry → ℕ → Option Reply → Type 0
Tells geom entries p None = HasReply entries p geom
Tells geom entries p (Some reply) = (e : Entry) → slice_get entries p ≡ Some e → (e.reply ≡ reply) ↔ EntryIsAnswered entries p geom e

-- no whole batch has entries on both sides of a place
abbrev pub IsBroken : List Entry → ℕ → Type 0
IsBroken entries i = (b n : ℕ) → IsWholeBatch entries b n → b < i → i < b + n → ⊥

-- The first i entries are done. Where they are rightly in batches: if no batch is begun, the table is the one after them; and a batch that
-- is begun isn't whole.
pub record IsToldTo (geom : Geom) (entries : List Entry) (i : ℕ) (replies : List (Option Reply)) (table : Table) : Type 0 where
  pub long : length replies ≡ i
  pub within : i < length entries + 1
  pub tells : (p : ℕ) (o : Option Reply) → slice_get replies p ≡ Some o → BatchesFit entries (p + 1) → Tells geom entries p o
  pub table_is : BatchesFit entries i → is_begun (before entries i) ≡ false → half_after geom finite.empty [] (journal_among (take i entries)) ≡ (table, [])
  pub broken : BatchesFit entries i → is_begun (before entries i) ≡ true → IsBroken entries i

-- the replies that were told, with that of a call alone, and with those of a whole batch
abbrev pub with_call : OneTable → List (Option Reply) → Call → List (Option Reply)
with_call p replies call = replies ++ Some (apply p.geom call p.table).1 ∷ []

abbrev pub with_batch : OneTable → List (Option Reply) → List Call → List (Option Reply)
with_batch p replies calls = replies ++ map (λ (r : Reply). Some r) (apply_batch p.geom calls p.table).1
