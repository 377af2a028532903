-- What a summary tells of a report is what is counted where it stands in the machine.
use Rattle.std.proofs.Common.{◌≡◌, ℕ, zero, suc, ◌+◌, ◌<◌, ◌≤◌, List, [], ◌∷◌, Bool, true, false, cond, length, map, filter, count_by, get_or, take, slice_get, Some, refl, ap, sym, ◌∙◌, add-one, arith}
use Rattle.std.proofs.lemmas.List.{take_all, length-map}
use Rattle.std.proofs.lemmas.List.Sums.{length-filter, count_by-le-length}
use Rattle.std.proofs.lemmas.Option.{get_or_from_slice_get}
use Rattle.rl_word.specs.laws.Places.{get_map, some_at}
use Rattle.rl_model.specs.declared.call.Call.{Call}
use Rattle.rl_model.specs.declared.entry.Entry.{Entry}
use Rattle.rl_model.specs.declared.geom.Geom.{Geom}
use Rattle.rl_model.proofs.Counts.{count-cons}
use Rattle.rl_journal.specs.Legal.{IsLegal}
use Rattle.rl_journal.specs.Ranks.{count_in}
use Rattle.rl_journal.specs.laws.HistoryCounts.{same_entries}
use Rattle.rl_step.specs.declared.events.Event.{Event}
use Rattle.rl_step.specs.declared.events.Event.TheVariants.{Join, Announce, Pass, Settle, Touch, EnterW, EnterR, LeaveW, LeaveR}
use Rattle.rl_step.specs.declared.tallies.Steps.{Steps}
use Rattle.rl_report.specs.Spelling.{is_printed}
use Rattle.rl_machine.specs.Running.{ShardRun, Running}
use Rattle.rl_machine.specs.ShardSteps.{kept_on}
use Rattle.rl_core.specs.RankGood.{entries_in}
use Rattle.rl_machine.specs.Run.{on_shard, kept_by, trace_of}
use Rattle.rl_machine.specs.Records.{journal_at, transcripts_at}
use Rattle.rl_machine.specs.laws.RecordLaws.{kept_long}
use Rattle.rl_core.specs.laws.AskLaws.{few_calls}
use Rattle.rl_machine.specs.Promises.{shard_journal, transcripts_on, history_on, IsSound}
use Rattle.rl_making.specs.declared.counts.ShardCounts.{ShardCounts}
use Rattle.rl_reporting.specs.laws.ReportLaws.{kept_told}
use Rattle.rl_reporting.specs.Reported.{part_of_replay, dones_from, report_in}
use Rattle.rl_making.specs.Summary.{TheCounts, is_get, is_settle, is_pass, counts_of, counts_in, all_done}
use Rattle.rl_making.specs.Counting.{counts_on, IsSmall}

-- ---- of a shard

-- a touch settles no queue, and passes none
unprinted : (e : Event) → is_printed e ≡ false → (is_settle e ≡ false) × (is_pass e ≡ false)
unprinted (Join q m) touch = absurd cc
unprinted (Announce c) touch = absurd cc
unprinted (Pass q m) touch = absurd cc
unprinted (Settle q m) touch = absurd cc
unprinted (Touch k w) touch = (refl, refl)
unprinted (EnterW k) touch = absurd cc
unprinted (EnterR k) touch = absurd cc
unprinted (LeaveW k) touch = absurd cc
unprinted (LeaveR k) touch = absurd cc

-- where nothing that is left out passes a test, as many pass it with it
module _ {X : Type 0} (test kept : X → Bool) (none : (x : X) → kept x ≡ false → test x ≡ false) where
  all_kept : (xs : List X) → count_by test (filter kept xs) ≡ count_by test xs
  all_kept [] = refl
  all_kept (x ∷ xs) =
      elim (kept x) as (λ b. kept x ≡ b → count_by test (cond b (x ∷ filter kept xs) (filter kept xs)) ≡ count_by test (x ∷ xs)) [
        | true ↦ λ in_it. omega (arith, count-cons test x (filter kept xs), count-cons test x xs, all_kept xs)
        | false ↦ λ out.
            let zero_is : ◌≡◌ {A = ℕ} (cond (test x) 1 0) 0 = ap (λ (b : Bool). cond {A = ℕ} b 1 0) (none x out) in
            omega (arith, count-cons test x xs, all_kept xs)
      ] refl

abbrev tells : ℕ → ℕ → ℕ → ℕ → ShardCounts
tells updates reads settled passed = record { updates = updates; reads = reads; settled = settled; passed = passed }

-- one number after the other
same_counts : (u v r q s t p o : ℕ) → u ≡ v → r ≡ q → s ≡ t → p ≡ o → tells u r s p ≡ tells v q t o
same_counts u v r q s t p o a b c d = ap (λ (n : ℕ). tells n r s p) a ∙ ap (λ (n : ℕ). tells v n s p) b ∙ ap (λ (n : ℕ). tells v q n p) c ∙ ap (λ (n : ℕ). tells v q t n) d

module _ {V : Type 0} where
  -- what a summary tells of a shard is what is counted of it
  counted : (geom : Geom) (queues : ℕ) (S : ShardRun V) → IsLegal geom (shard_journal S) (transcripts_on S) → counts_on S ≡ counts_of (part_of_replay queues S)
  counted geom queues S legal =
      let is_read : Entry → Bool = λ entry. is_get entry.call in
      let settles : ℕ × Event → Bool = λ event. is_settle event.1 in
      let passes : ℕ × Event → Bool = λ event. is_pass event.1 in
      let printed : ℕ × Event → Bool = λ event. is_printed event.1 in
      let reads : length (filter is_read (history_on S)) ≡ count_in is_read (transcripts_on S) =
      length-filter is_read (history_on S) ∙ same_entries is_read geom (shard_journal S) (transcripts_on S) legal in
      let settled : length (filter settles (filter printed S.trace)) ≡ count_by settles S.trace =
      length-filter settles (filter printed S.trace) ∙ all_kept settles printed (λ e touch. (unprinted e.1 touch).0) S.trace in
      let passed : length (filter passes (filter printed S.trace)) ≡ count_by passes S.trace =
      length-filter passes (filter printed S.trace) ∙ all_kept passes printed (λ e touch. (unprinted e.1 touch).1) S.trace in
      same_counts (length (shard_journal S)) (length (shard_journal S)) _ _ _ _ _ _ refl (sym reads) (sym settled) (sym passed)

  -- and so of all shards
  pub all_counted : (geom : Geom) (queues : ℕ) (shards : List (ShardRun V)) → ((s : ℕ) (S : ShardRun V) → slice_get shards s ≡ Some S → IsLegal geom (shard_journal S) (transcripts_on S)) →
      map counts_on shards ≡ map counts_of (map (part_of_replay queues) shards)
  all_counted geom queues [] legal = refl
  all_counted geom queues (S ∷ shards) legal =
      ap (λ c. c ∷ map counts_on shards) (counted geom queues S (legal 0 S refl)) ∙ ap (λ cs. counts_of (part_of_replay queues S) ∷ cs) (all_counted geom queues shards (λ s T has. legal (suc s) T has))

-- ---- gets, rank by rank

-- one transcript more
count_more : (test : Entry → Bool) (ts : List (List Entry)) (k : ℕ) → count_in test (take (k + 1) ts) ≡ count_in test (take k ts) + count_by test (get_or ts k [])
count_more test ts k = rw add-one (more ts k) where
  more : (ts : List (List Entry)) (k : ℕ) → count_in test (take (suc k) ts) ≡ count_in test (take k ts) + count_by test (get_or ts k [])
  more [] zero = refl
  more [] (suc k) = refl
  more (t ∷ ts) zero = omega arith
  more (t ∷ ts) (suc k) = omega (arith, more ts k)

-- each is among all
among : (ts : List (List Entry)) (k : ℕ) → length (get_or ts k []) ≤ entries_in ts
among [] k = omega arith
among (t ∷ ts) zero = omega arith
among (t ∷ ts) (suc k) = omega (arith, among ts k)

module _ {V : Type 0} where
  module _ (m : Running V) (s : ℕ) where
    -- what a rank did on a shard is among the shard's transcripts
    kept_there : (S : ShardRun V) → slice_get m.shards s ≡ Some S → (k : ℕ) → get_or (kept_by m k) s [] ≡ get_or (transcripts_at m s) k []
    kept_there S has k = get_or_from_slice_get (kept_by m k) s (kept_on k S) [] (get_map (kept_on k) m.shards s S has)
        ∙ kept_told S k
        ∙ ap (λ found. get_or (on_shard [] transcripts_on found) k []) (sym has)

    -- a rank has few
    pub few_gets : (test : Entry → Bool) (k : ℕ) → k < length m.calls → IsSound m → IsSmall m → count_by test (get_or (kept_by m k) s []) ≤ 20000
    few_gets test k low sound small =
        let done = sound.done k low in
        let given = sound.given k low in
        omega (arith, count_by-le-length test (get_or (kept_by m k) s []), among (kept_by m k) s, done, given, few_calls m.calls k 20000 small.few)

    module _ (low : s < length m.shards) where
      abbrev there : (S : ShardRun V) × (slice_get m.shards s ≡ Some S)
      there = some_at m.shards s low

      -- the gets of one rank more
      pub gets_more : (test : Entry → Bool) (k : ℕ) → count_in test (take (k + 1) (transcripts_at m s)) ≡ count_in test (take k (transcripts_at m s)) + count_by test (get_or (kept_by m k) s [])
      gets_more test k =
          count_more test (transcripts_at m s) k ∙ ap (λ t. count_in test (take k (transcripts_at m s)) + count_by test t) (sym (kept_there there.0 there.1 k))

      -- those of all ranks
      pub gets_of_all : (test : Entry → Bool) (ranks : ℕ) → ranks ≡ length m.calls → IsSmall m → count_in test (take ranks (transcripts_at m s)) ≡ count_in test (transcripts_at m s)
      gets_of_all test ranks each small =
          let has = there.1 in
          let are : length (transcripts_at m s) ≡ length (transcripts_on there.0) = ap (λ found. length (on_shard [] transcripts_on found)) has in
          let many : length (transcripts_on there.0) ≡ length m.calls = kept_long there.0.table there.0.held.words 0 there.0.views ∙ small.views s there.0 has in
          let all : length (transcripts_at m s) ≤ ranks = omega (arith, are, many, each) in
          ap (count_in test) (take_all ranks (transcripts_at m s) all)

      -- what is told of the shard is what is counted of it
      pub counts_there : (updates reads settled passed : ℕ) → updates ≡ length (journal_at m s) → reads ≡ count_in (λ entry. is_get entry.call) (transcripts_at m s) →
          settled ≡ count_by (λ event. is_settle event.1) (trace_of m s) → passed ≡ count_by (λ event. is_pass event.1) (trace_of m s) →
          slice_get (map counts_on m.shards) s ≡ Some (record { updates = updates; reads = reads; settled = settled; passed = passed })
      counts_there updates reads settled passed u r t p =
          let S = there.0 in
          let has = there.1 in
          let us : updates ≡ length (shard_journal S) = u ∙ ap (λ found. length (on_shard [] shard_journal found)) has in
          let rs : reads ≡ count_in (λ entry. is_get entry.call) (transcripts_on S) = r ∙ ap (λ found. count_in (λ entry. is_get entry.call) (on_shard [] transcripts_on found)) has in
          let ts : settled ≡ count_by (λ event. is_settle event.1) S.trace = t ∙ ap (λ found. count_by (λ event. is_settle event.1) (on_shard [] (λ T. T.trace) found)) has in
          let ps : passed ≡ count_by (λ event. is_pass event.1) S.trace = p ∙ ap (λ found. count_by (λ event. is_pass event.1) (on_shard [] (λ T. T.trace) found)) has in
          get_map counts_on m.shards s S has ∙ ap (λ (n : ShardCounts). Some n) (sym (same_counts _ _ _ _ _ _ _ _ us rs ts ps))

-- ---- of a machine

-- each rank is told
pub each_told : {V : Type 0} (m : Running V) (rank : ℕ) (lists : List (List Call)) → length (dones_from m rank lists) ≡ length lists
each_told m rank [] = refl
each_told m rank (calls ∷ lists) = ap (λ n. suc n) (each_told m (rank + 1) lists)

-- what is counted of the shards, of what is done and of the answers is what a summary tells of the report
pub counts_are : {V : Type 0} (m : Running V) (queues : ℕ) → IsSound m → (shards : List ShardCounts) (done : ℕ) (steps : Steps) → shards ≡ map counts_on m.shards → done ≡ all_done (dones_from m 0 m.calls) → steps ≡ m.steps →
    record { shards = shards; done = done; steps = Some steps } ≡ counts_in (report_in queues m)
counts_are m queues sound shards done steps s d t =
    let counts : List ShardCounts → ℕ → Steps → TheCounts = λ x n z. record { shards = x; done = n; steps = Some z } in
    ap (λ x. counts x done steps) (s ∙ all_counted m.geom queues m.shards (λ i S has. (sound.shards i S has).legal))
    ∙ ap (λ n. counts (map counts_of (map (part_of_replay queues) m.shards)) n steps) d
    ∙ ap (counts (map counts_of (map (part_of_replay queues) m.shards)) (all_done (dones_from m 0 m.calls))) t
