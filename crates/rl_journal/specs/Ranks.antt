-- What a rank did: its entries on one shard, and on all.
use Rattle.std.specs.Prelude.{◌≡◌, ℕ, suc, ◌+◌, ◌^◌, ◌<◌, ◌≤◌, ◌==◌, Bool, true, List, [], ◌∷◌, All, count_by, slice_get, Some}
use Rattle.rl_model.specs.declared.entry.Entry.{Entry}
use Rattle.rl_model.specs.declared.geom.Geom.{Geom}
use Rattle.rl_model.specs.Call.{shard_of}
pub use Rattle.rl_model.specs.Asked.{Asked}
use Rattle.rl_journal.specs.Legal.{updates}

-- the entry f of a transcript may follow the entry e
pub record Follows (e f : Entry) : Type 0 where
  pub later : e.seq < f.seq
  pub place : e.at ≤ f.at
  pub beyond : updates e ≡ true → e.at < f.at

-- each entry of a transcript follows the one before it
abbrev pub IsInOrder : List Entry → Type 0
IsInOrder t = (i : ℕ) (e f : Entry) → slice_get t i ≡ Some e → slice_get t (suc i) ≡ Some f → Follows e f

-- a rank's entry of this shard
pub record IsOwn (shard rank : ℕ) (e : Entry) : Type 0 where
  pub shard_is : e.shard ≡ shard
  pub rank_is : e.rank ≡ rank
  pub small : e.seq < 2 ^ 32

-- how many entries of several lists pass a test
abbrev pub count_in : (Entry → Bool) → List (List Entry) → ℕ
count_in test [] = 0
count_in test (t ∷ ts) = count_by test t + count_in test ts

-- an entry of the rank on a shard: it is one of the first n calls, with that call, batch and part, and on that call's shard
pub record IsEntryOf (geom : Geom) (rank : ℕ) (calls : List Asked) (n shard : ℕ) (e : Entry) : Type 0 where
  pub low : e.seq < n
  pub own : IsOwn shard rank e
  pub asked_is : slice_get calls e.seq ≡ Some (record { call = e.call; batch = e.batch; part = e.part })
  pub place : shard_of geom e.call ≡ shard

-- the rank's transcripts, one for each shard, are its first n calls
pub record IsRankInOrder (geom : Geom) (rank : ℕ) (calls : List Asked) (n : ℕ) (ts : List (List Entry)) : Type 0 where
  pub once : (i : ℕ) → i < n → count_in (λ e. e.seq == i) ts ≡ 1
  pub each : (s : ℕ) (t : List Entry) → slice_get ts s ≡ Some t → All (IsEntryOf geom rank calls n s) t
  pub in_order : (s : ℕ) (t : List Entry) → slice_get ts s ≡ Some t → IsInOrder t

-- the entries of a block, from the call n on, are the rank's next calls
abbrev pub AreAsked : Geom → ℕ → List Asked → ℕ → ℕ → List Entry → Type 0
AreAsked geom rank calls s n [] = Unit {0}
AreAsked geom rank calls s n (e ∷ es) =
    ((e.seq ≡ n) × IsOwn s rank e × (slice_get calls n ≡ Some (record { call = e.call; batch = e.batch; part = e.part })) ×
    (shard_of geom e.call ≡ s)) × AreAsked geom rank calls s (n + 1) es
