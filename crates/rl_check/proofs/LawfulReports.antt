-- A lawful report passes all tests: that of a run, and that of a replay.
use Rattle.std.proofs.Common.{◌≡◌, ℕ, ◌<◌, Bool, true, false, List, [], length, map, get_or, Some, refl, sym, ap, subst, ◌∙◌, arith}
use Rattle.std.specs.Prelude.{slice_get}
use Rattle.std.specs.Option.{is_some}
use Rattle.std.specs.FinMap as finite
use Rattle.std.proofs.lemmas.List.{length-map, take_all}
use Rattle.std.proofs.lemmas.Bool.Decides.{nat_tests}
use Rattle.std.proofs.lemmas.Option.{same_Some, slice_get_within, get_or_from_slice_get}
use Rattle.rl_word.specs.laws.Places.{some_at, get_map}
use Rattle.rl_model.specs.declared.call.Call.{Call}
use Rattle.rl_model.specs.declared.entry.Entry.{Entry}
use Rattle.rl_model.specs.Asked.{Asked}
use Rattle.rl_journal.specs.Legal.{updates, is_of, table_after}
use Rattle.rl_journal.specs.laws.Lists.{all_at}
use Rattle.rl_journal.specs.Ranks.{IsEntryOf, IsRankInOrder}
use Rattle.rl_place.specs.Places.{ThePlace}
use Rattle.rl_ops.specs.declared.ops.Ops.{Ops}
use Rattle.rl_ops.specs.Asked.{asked_of}
use Rattle.rl_ops.specs.Ops.{OpsFit, AreBlocks}
use Rattle.rl_report.specs.declared.report.Done.{Done}
use Rattle.rl_report.specs.Naming.{naming_of}
use Rattle.rl_report.specs.Reports.{TheShard, TheReport, EntryFits, ShardFits, ReportFits}
use Rattle.rl_report.specs.Lawful.{journal_among, transcript_in, queues_at, IsLawfulShard, IsLawful}
use Rattle.rl_step.specs.Traces.{events_of}
use Rattle.rl_check.specs.Entries.{table_before}
use Rattle.rl_check.specs.Shards.{TalliesHold, PairsHold, KeepsRules, event_tests, shard_tests}
use Rattle.rl_check.specs.LawfulReplays.{TellsHistory, IsReplayedShard, IsLawfulReplay, done_by}
use Rattle.rl_check.specs.Ranks.{entries_of_rank, EndsWell, rank_tests}
use Rattle.rl_check.specs.Legal.{IsLegalReport}
use Rattle.rl_check.proofs.RankFirst.{each_block}
use Rattle.rl_check.proofs.ReportFacts.{shard_fits}
use Rattle.rl_check.proofs.EntryFacts.{one_of_all, kept_there, flat_joined, IsRightlyBatched, asked_rightly}
use Rattle.rl_check.proofs.LawfulShards.{shard_passes}
use Rattle.rl_check.proofs.WatchLaws.{all_hold}
use Rattle.rl_check.proofs.LawfulRanks.{rank_passes}

-- what is told of calls and entries of a report whose ranks have done so many calls
module _ (place : ThePlace) (ops : Ops) (report : TheReport) (calls : OpsFit (length place.paths) place.geom.shards ops) (fits : ReportFits (naming_of place) report) (replay : Bool) (mode : is_some report.steps ≡ replay) (done : ℕ → ℕ)
    (order : (k : ℕ) → k < length ops.by_rank → IsRankInOrder place.geom k (asked_of (get_or ops.by_rank k []) (get_or ops.sizes k [])) (done k) (map (λ (S : TheShard). transcript_in S.entries k) report.shards)) where
  abbrev asked_by : ℕ → List Asked
  asked_by k = asked_of (get_or ops.by_rank k []) (get_or ops.sizes k [])

  abbrev told_by : ℕ → TheShard → List Entry
  told_by k S = transcript_in S.entries k

  module _ (s home : ℕ) (S : TheShard) (gS : slice_get report.shards s ≡ Some S) where
    fit : ShardFits (naming_of place) replay s S
    fit = subst (λ b. ShardFits (naming_of place) b s S) mode (shard_fits (naming_of place) (is_some report.steps) report.shards fits.shards s S gS)

    entry_is : (p : ℕ) (e : Entry) → slice_get S.entries p ≡ Some e → IsEntryOf place.geom e.rank (asked_by e.rank) (done e.rank) s e
    entry_is p e get =
        let there : e.rank < length place.paths = (one_of_all (EntryFits (naming_of place) s) S.entries p e fit.entries get).rank_there in
        let low : e.rank < length ops.by_rank = let n = calls.ranks_there in omega arith in
        let mine : is_of e.rank e ≡ true = grind (arith, nat_tests) in
        let q = kept_there (is_of e.rank) S.entries p e get mine in
        all_at (IsEntryOf place.geom e.rank (asked_by e.rank) (done e.rank) s) (transcript_in S.entries e.rank) q.0 e
        ((order e.rank low).each s (transcript_in S.entries e.rank) (get_map (told_by e.rank) report.shards s S gS)) q.1

    alone : (p : ℕ) (e : Entry) → slice_get S.entries p ≡ Some e → updates e ≡ false → e.batch ≡ 0
    alone p e get r =
        let there : e.rank < length place.paths = (one_of_all (EntryFits (naming_of place) s) S.entries p e fit.entries get).rank_there in
        let low : e.rank < length ops.by_rank = let n = calls.ranks_there in omega arith in
        let blocks : AreBlocks place.geom.shards (get_or ops.by_rank e.rank []) (get_or ops.sizes e.rank []) = each_block place.geom.shards ops.by_rank ops.sizes calls.blocks e.rank low in
        one_of_all IsRightlyBatched (asked_by e.rank) e.seq (record { call = e.call; batch = e.batch; part = e.part }) (asked_rightly place.geom.shards (get_or ops.by_rank e.rank []) (get_or ops.sizes e.rank []) blocks) (entry_is p e get).asked_is r

    on_shard : TellsHistory place S → TalliesHold place replay home S →
        PairsHold replay S (table_before place.geom S.entries (length S.entries)) → (event_tests (queues_at place home) S.events).pass →
        (shard_tests place (is_some report.steps) s home S).pass
    on_shard tells tallies pairs events =
        subst (λ b. (shard_tests place b s home S).pass) (sym mode)
        (shard_passes place s home S tells
        (λ k low. (order k (let n = calls.ranks_there in omega arith)).in_order s (transcript_in S.entries k)
        (get_map (told_by k) report.shards s S gS))
        alone (λ p e get. (entry_is p e get).place) replay tallies pairs events)

  by_rank : (k : ℕ) → k < length ops.by_rank → EndsWell replay (get_or ops.by_rank k []) (get_or ops.sizes k []) (done k) → (d : Done) →
      d.done ≡ done k → d.given ≡ length (get_or ops.by_rank k []) →
      (rank_tests (is_some report.steps) (get_or ops.by_rank k []) (get_or ops.sizes k []) (entries_of_rank report k) d).pass
  by_rank k low ends d as_done as_given =
      subst (λ b. (rank_tests b (get_or ops.by_rank k []) (get_or ops.sizes k []) (entries_of_rank report k) d).pass) (sym mode)
      (subst (λ z. (rank_tests replay (get_or ops.by_rank k []) (get_or ops.sizes k []) z d).pass)
      (sym (flat_joined (told_by k) report.shards))
      (rank_passes place.geom k (get_or ops.by_rank k []) (get_or ops.sizes k []) (done k) (map (told_by k) report.shards)
      (order k low) replay ends d as_done as_given))

-- ---- of a run

module _ (place : ThePlace) (ops : Ops) (report : TheReport) (calls : OpsFit (length place.paths) place.geom.shards ops) (lawful : IsLawful place ops report) where
  abbrev calls_of : ℕ → List Call
  calls_of k = get_or ops.by_rank k []

  is_run : is_some report.steps ≡ false
  is_run = ap is_some lawful.of_run

  run_shard : (s home : ℕ) (S : TheShard) → slice_get place.homes s ≡ Some home → slice_get report.shards s ≡ Some S →
      (shard_tests place (is_some report.steps) s home S).pass
  run_shard s home S gh gS =
      let L : IsLawfulShard place home S = lawful.shards s home S gh gS in
      let quiet : S.events ≡ [] = (fit place ops report calls lawful.fits false is_run (λ k. length (calls_of k)) lawful.calls s home S gS).events in
      on_shard place ops report calls lawful.fits false is_run (λ k. length (calls_of k)) lawful.calls s home S gS
      (record { legal = L.legal; in_order = L.in_order; told = L.told }) L.tallied
      (L.table ∙ ap (λ es. finite.entries (table_after place.geom finite.empty (journal_among es)))
      (sym (take_all (length S.entries) S.entries (omega arith))))
      (λ p low. absurd (let none : length S.events ≡ 0 = ap length quiet in omega arith))

  run_rank : (k : ℕ) (d : Done) → slice_get report.done k ≡ Some d →
      (rank_tests (is_some report.steps) (calls_of k) (get_or ops.sizes k []) (entries_of_rank report k) d).pass
  run_rank k d gd = by_rank place ops report calls lawful.fits false is_run (λ k. length (calls_of k)) lawful.calls k low refl d
      (ap (λ (z : Done). z.done) done_is) (ap (λ (z : Done). z.given) done_is) where
        low : k < length ops.by_rank
        low = let h = slice_get_within report.done k d gd in let n : length report.done ≡ length ops.by_rank = ap length lawful.done ∙ length-map ops.by_rank _ in omega arith

        done_is : d ≡ record { done = length (calls_of k); given = length (calls_of k) }
        done_is =
            let c = some_at ops.by_rank k low in
            let same : calls_of k ≡ c.0 = get_or_from_slice_get ops.by_rank k c.0 [] c.1 in
            same_Some _ _ (sym gd ∙ ap (λ z. slice_get z k) lawful.done ∙ get_map
            (λ (z : List Call). record { done = length z; given = length z }) ops.by_rank k c.0 c.1
            ∙ ap (λ (z : List Call). Some (record { done = length z; given = length z })) (sym same))

  pub is_legal : IsLegalReport place ops report
  is_legal = ((λ s low home gh S gS. run_shard s home S gh gS), λ k low. run_rank k)

-- ---- of a replay

module _ (place : ThePlace) (ops : Ops) (report : TheReport) (calls : OpsFit (length place.paths) place.geom.shards ops) (lawful : IsLawfulReplay place ops report) where
  replay_shard : (s home : ℕ) (S : TheShard) → slice_get place.homes s ≡ Some home → slice_get report.shards s ≡ Some S →
      (shard_tests place (is_some report.steps) s home S).pass
  replay_shard s home S gh gS =
      let L : IsReplayedShard place home S = lawful.shards s home S gh gS in
      on_shard place ops report calls lawful.fits true lawful.of_replay
      (done_by report) lawful.calls s home S gS L.history_told L.tallied tt
      (all_hold (queues_at place home) S.events (length S.events) (omega arith)
      (subst (λ z. KeepsRules (queues_at place home) (events_of z)) (sym (take_all (length S.events) S.events (omega arith))) L.rules))

  replay_rank : (k : ℕ) (d : Done) → slice_get report.done k ≡ Some d →
      (rank_tests (is_some report.steps) (get_or ops.by_rank k []) (get_or ops.sizes k []) (entries_of_rank report k) d).pass
  replay_rank k d gd =
      let low : k < length ops.by_rank = let h = slice_get_within report.done k d gd in let a = lawful.fits.each_rank in let b = calls.ranks_there in omega arith in
      by_rank place ops report calls lawful.fits true lawful.of_replay (done_by report) lawful.calls k low (lawful.whole k low) d
      (ap (λ (z : Done). z.done) (sym (get_or_from_slice_get report.done k d (record { done = 0; given = 0 }) gd))) (lawful.given k d gd)

  pub replay_is_legal : IsLegalReport place ops report
  replay_is_legal = ((λ s low home gh S gS. replay_shard s home S gh gS), λ k low. replay_rank k)
