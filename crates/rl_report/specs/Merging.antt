-- The gets and holds of all transcripts, and how the journal is put between them.
use Rattle.std.specs.Prelude.{ℕ, ◌+◌, nat_le, Bool, not, List, [], ◌∷◌, ◌++◌, drop, filter, flat_map, map, take}
use Rattle.std.specs.List.{prefix_len}
use Rattle.std.specs.List.Sorted.{IsStableByKey}
use Rattle.std.specs.Ordering.{nat_cmp}
use denote.Ref.{Bor}
use Rattle.rl_model.specs.declared.entry.Entry.{Entry}
use Rattle.rl_journal.specs.Legal.{updates}

abbrev pub is_read : Entry → Bool
is_read e = not (updates e)

-- the gets and holds, rank after rank
abbrev pub all_reads : List (List Entry) → List Entry
all_reads transcripts = flat_map (filter is_read) transcripts

-- the entries that references show
abbrev pub seen : List (Bor Entry) → List Entry
seen = map (λ r. r.now)

-- the same gets and holds by the counts that they looked at, and at one count in the order in which they were
abbrev pub AreInOrder : List Entry → List Entry → Type 0
AreInOrder reads sorted = IsStableByKey (λ (e : Entry). e.at) nat_cmp reads sorted

-- how many of the first entries looked at this count or an earlier one
abbrev pub up_to : ℕ → List Entry → ℕ
up_to count entries = prefix_len (λ e. nat_le e.at count) entries

-- at each place from p on the gets and holds up to that count, and then the update
abbrev pub merged : List Entry → ℕ → List Entry → List Entry
merged reads p [] = take (up_to p reads) reads
merged reads p (e ∷ es) = take (up_to p reads) reads ++ e ∷ merged (drop (up_to p reads) reads) (p + 1) es
