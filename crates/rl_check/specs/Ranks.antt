-- The tests of a rank: its entries on all shards, by number.
use Rattle.std.specs.Prelude.{◌≡◌, ℕ, ◌<◌, ◌≤◌, ◌==◌, Bool, true, false, List, count_by, flat_map, length, slice_get, Some}
use Rattle.rl_model.specs.declared.call.Call.{Call}
use Rattle.rl_model.specs.declared.entry.Entry.{Entry}
use Rattle.rl_model.specs.Asked.{Asked}
use Rattle.rl_journal.specs.Legal.{updates}
use Rattle.rl_ops.specs.Asked.{asked_of, BeginsAt}
use Rattle.rl_report.specs.declared.report.Done.{Done}
use Rattle.rl_report.specs.Reports.{TheShard, TheReport}
use Rattle.rl_report.specs.Lawful.{transcript_in}
use Rattle.rl_check.specs.Tests.{Tests, one, ◌and_then◌, each, at_place}
use Rattle.rl_check.specs.declared.illegal.Test.{Test}
use Rattle.rl_check.specs.declared.illegal.Test.TheVariants as test

-- a rank's entries, shard after shard
abbrev pub entries_of_rank : TheReport → ℕ → List Entry
entries_of_rank report rank = flat_map (λ (S : TheShard). transcript_in S.entries rank) report.shards

-- an entry is one of these
abbrev pub Stands : List Entry → Entry → Type 0
Stands own e = (j : ℕ) × (slice_get own j ≡ Some e)

-- the entry has this number
abbrev pub is_numbered : ℕ → Entry → Bool
is_numbered i e = e.seq == i

-- one entry has the number i, and it is what the rank asked for there
pub record IsCalled (calls : List Asked) (own : List Entry) (i : ℕ) : Type 0 where
  pub once : count_by (is_numbered i) own ≡ 1
  pub asked_is : (e : Entry) → Stands own e → e.seq ≡ i → slice_get calls i ≡ Some (record { call = e.call; batch = e.batch; part = e.part })

-- of a rank's entries on a shard, d has the greatest number below i
pub record IsLatest (own : List Entry) (shard i : ℕ) (d : Entry) : Type 0 where
  pub stands : Stands own d
  pub on_shard : d.shard ≡ shard
  pub low : d.seq < i
  pub greatest : (f : Entry) → Stands own f → f.shard ≡ shard → f.seq < i → f.seq ≤ d.seq

-- e looked at no fewer updates than d, and at more where d is an update
pub record IsFreshAfter (d e : Entry) : Type 0 where
  pub place : d.at ≤ e.at
  pub beyond : updates d ≡ true → d.at < e.at

-- the entry with the number i is fresh after the rank's entry before it on its shard
abbrev pub IsFresh : List Entry → ℕ → Type 0
IsFresh own i = (d e : Entry) → Stands own e → e.seq ≡ i → IsLatest own e.shard i d → IsFreshAfter d e

-- A run has done all calls, and a replay doesn't end inside a batch.
abbrev pub EndsWell : Bool → List Call → List ℕ → ℕ → Type 0
EndsWell false calls sizes n = n ≡ length calls
EndsWell true calls sizes n = BeginsAt calls sizes n

-- the rank has done as many calls as it has entries, and was given as many as the file has
pub record IsDone (replay : Bool) (calls : List Call) (sizes : List ℕ) (n : ℕ) (d : Done) : Type 0 where
  pub done : d.done ≡ n
  pub given : d.given ≡ length calls
  pub ends : EndsWell replay calls sizes n

-- entry by entry, by number
abbrev pub number_tests : List Asked → List Entry → Tests (ℕ × Test)
number_tests asked own = each (length own) (λ i. at_place i (one test.Calls (IsCalled asked own i) and_then one test.Fresh (IsFresh own i)))

-- and behind them
abbrev pub rank_tests : Bool → List Call → List ℕ → List Entry → Done → Tests (ℕ × Test)
rank_tests replay calls sizes own d =
    number_tests (asked_of calls sizes) own and_then at_place (length own) (one test.Done (IsDone replay calls sizes (length own) d))
