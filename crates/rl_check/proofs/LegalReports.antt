-- A report that passes all tests is lawful: that of a run, and that of a replay.
use Rattle.std.proofs.Common.{◌≡◌, ℕ, suc, ◌+◌, ◌<◌, ◌≤◌, ◌==◌, Bool, true, false, List, [], ◌∷◌, length, map, get_or, Some, None, sym, ap, subst, ◌∙◌, ⊎_elim, arith}
use Rattle.std.specs.Prelude.{slice_get, All}
use Rattle.std.specs.Option.{is_some}
use Rattle.std.specs.FinMap as finite
use Rattle.std.proofs.lemmas.Bool.Decides.{nat_tests}
use Rattle.std.proofs.lemmas.List.{length-map, take_all}
use Rattle.std.proofs.lemmas.Option.{slice_get_within, get_or_from_slice_get}
use Rattle.rl_word.specs.laws.Places.{get_map_back, some_at, get_map}
use Rattle.rl_model.specs.declared.call.Call.{Call}
use Rattle.rl_model.specs.declared.entry.Entry.{Entry}
use Rattle.rl_step.specs.declared.events.Event.{Event}
use Rattle.rl_step.specs.laws.ExclusionLaws.{is_exclusive}
use Rattle.rl_step.specs.Queues.{QueueOf}
use Rattle.rl_step.specs.laws.QueueLemmas.{is_within}
use Rattle.rl_journal.specs.Legal.{is_of, blocks_joined, table_after}
use Rattle.rl_journal.specs.laws.LegalLaws.{each_part}
use Rattle.rl_journal.specs.Ranks.{IsInOrder, IsEntryOf, IsRankInOrder}
use Rattle.rl_place.specs.Places.{ThePlace, IsProper}
use Rattle.rl_ops.specs.declared.ops.Ops.{Ops}
use Rattle.rl_ops.specs.Asked.{asked_of, BeginsAt}
use Rattle.rl_ops.specs.Ops.{OpsFit}
use Rattle.rl_report.specs.declared.report.Done.{Done}
use Rattle.rl_report.specs.Naming.{naming_of}
use Rattle.rl_report.specs.Reports.{TheShard, TheReport, ShardFits, ReportFits}
use Rattle.rl_report.specs.Lawful.{journal_among, transcript_in, queues_at, IsLawfulShard, IsLawful}
use Rattle.rl_step.specs.Traces.{events_of}
use Rattle.rl_check.specs.Entries.{updates_before, StandsBefore}
use Rattle.rl_check.specs.Shards.{KeepsRules, event_tests, shard_tests}
use Rattle.rl_check.specs.LawfulReplays.{TellsHistory, IsReplayedShard, IsLawfulReplay, done_by}
use Rattle.rl_check.specs.Ranks.{entries_of_rank, IsDone, Stands, rank_tests}
use Rattle.rl_check.specs.Legal.{IsLegalReport}
use Rattle.rl_check.proofs.ReportFacts.{shard_fits}
use Rattle.rl_check.proofs.EntryFacts.{was_there, flat_joined, count_joined, stands_out}
use Rattle.rl_check.proofs.LawfulRanks.{apart}
use Rattle.rl_check.proofs.LegalShards.{up_grows, up_after, at_is, entry_fits, of_shard, stands, not_before_itself}
use Rattle.rl_check.proofs.LegalHistories.{tells_history}
use Rattle.rl_check.proofs.LegalJournals.{same_lists}
use Rattle.rl_check.proofs.LegalRanks.{done_is, once, low_number, asked_is, one_number, fresh_far, next_behind}

same_done : (d : Done) (n m : ℕ) → d.done ≡ n → d.given ≡ m → d ≡ record { done = n; given = m }
same_done d n m a b = ap (λ z. record { done = z; given = d.given }) a ∙ ap (λ z. record { done = n; given = z }) b

-- the rules hold of all events where they hold so far as each
rules_of : (queues : List QueueOf) (events : List (ℕ × Event)) → (event_tests queues events).pass → KeepsRules queues (events_of events)
rules_of queues [] hold =
    record {
      exclusive = is_exclusive [] (record { one = λ i j p q. absurd (cc); none = λ i j p q. absurd (cc) });
      budgets = λ q budget queue has b. is_within [] q budget tt;
    }
rules_of queues (e ∷ events) hold = subst (λ z. KeepsRules queues (events_of z)) (take_all (length events + 1) (e ∷ events) (omega arith))
    (hold (length events) (omega arith))

-- ---- what is told

module _ (place : ThePlace) (ops : Ops) (report : TheReport) (proper : IsProper place) (calls : OpsFit (length place.paths) place.geom.shards ops) (fits : ReportFits (naming_of place) report)
    (replay : Bool) (mode : is_some report.steps ≡ replay) (legal : IsLegalReport place ops report) where
  abbrev calls_by : ℕ → List Call
  calls_by k = get_or ops.by_rank k []

  abbrev sizes_by : ℕ → List ℕ
  sizes_by k = get_or ops.sizes k []

  abbrev told_by : ℕ → TheShard → List Entry
  told_by k S = transcript_in S.entries k

  -- a rank's entries, shard after shard
  abbrev own : ℕ → List Entry
  own k = blocks_joined (map (told_by k) report.shards)

  by_rank : (k : ℕ) (d : Done) → slice_get report.done k ≡ Some d → (rank_tests replay (calls_by k) (sizes_by k) (own k) d).pass
  by_rank k d gd =
      subst (λ z. (rank_tests replay (calls_by k) (sizes_by k) z d).pass) (flat_joined (told_by k) report.shards)
      (subst (λ b. (rank_tests b (calls_by k) (sizes_by k) (entries_of_rank report k) d).pass) mode
      (legal.1 k (slice_get_within report.done k d gd) d gd))

  module _ (s home : ℕ) (S : TheShard) (gh : slice_get place.homes s ≡ Some home) (gS : slice_get report.shards s ≡ Some S) where
    fit : ShardFits (naming_of place) replay s S
    fit = subst (λ b. ShardFits (naming_of place) b s S) mode (shard_fits (naming_of place) (is_some report.steps) report.shards fits.shards s S gS)

    pub tests : (shard_tests place replay s home S).pass
    tests = subst (λ b. (shard_tests place b s home S).pass) mode (legal.0 s (slice_get_within report.shards s S gS) home gh S gS)

    module _ (k : ℕ) (d : Done) (gd : slice_get report.done k ≡ Some d) where
      abbrev t : List Entry
      t = transcript_in S.entries k

      abbrev R : (rank_tests replay (calls_by k) (sizes_by k) (own k) d).pass
      R = by_rank k d gd

      in_own : (i : ℕ) (e : Entry) → slice_get t i ≡ Some e → Stands (own k) e
      in_own i e get = stands_out (map (told_by k) report.shards) s t i e (get_map (told_by k) report.shards s S gS) get

      mine : (i : ℕ) (e : Entry) → slice_get t i ≡ Some e → e.rank ≡ k
      mine i e get = let hit : is_of k e ≡ true = (was_there (is_of k) S.entries i e get).0 in grind (arith, nat_tests)

      on_shard : (i : ℕ) (e : Entry) → slice_get t i ≡ Some e → e.shard ≡ s
      on_shard i e get = let q = was_there (is_of k) S.entries i e get in (entry_fits place replay s home S fit tests q.1 e q.2).shard_is

      entry_of : (i : ℕ) (e : Entry) → slice_get t i ≡ Some e → IsEntryOf place.geom k (asked_of (calls_by k) (sizes_by k)) (length (own k)) s e
      entry_of i e get =
          let q = was_there (is_of k) S.entries i e get in
          let f = entry_fits place replay s home S fit tests q.1 e q.2 in
          record {
            low = low_number replay (calls_by k) (sizes_by k) (own k) d R e (in_own i e get);
            own = record { shard_is = f.shard_is; rank_is = mine i e get; small = let h = f.low_number in omega arith };
            asked_is = asked_is replay (calls_by k) (sizes_by k) (own k) d R e (in_own i e get);
            place = of_shard place replay s home S fit tests q.1 e q.2;
          }

      -- of two entries that follow one another in the rank's list the later one has the greater number
      later : (a n : ℕ) (e f : Entry) → slice_get S.entries a ≡ Some e → slice_get S.entries (suc (a + n)) ≡ Some f → Stands (own k) e → Stands (own k) f → e.shard ≡ f.shard → e.rank ≡ f.rank → e.seq < f.seq
      later a n e f ge gf he hf shard rank =
          let before : StandsBefore e f = stands place replay s home S fit tests n a e f ge gf in
          let ae = at_is place replay s home S fit tests a e ge in
          let af = at_is place replay s home S fit tests (suc (a + n)) f gf in
          ⊎_elim
          (λ q. let h = q.1 in omega arith)
          (λ q. ⊎_elim
          (λ same. absurd (not_before_itself e (subst (StandsBefore e) (sym (one_number replay (calls_by k) (sizes_by k) (own k) d R e f he hf same)) before)))
          (λ r.
          let low : f.seq < e.seq = let h = r.1 in omega arith in
          let far = fresh_far replay (calls_by k) (sizes_by k) (own k) d R (suc e.seq) f e hf he (sym shard) low (omega arith) in
          let back : f.at ≤ e.at = far.place in
          absurd (⊎_elim
          (λ less. omega arith)
          (λ x. let level = x.0 in ⊎_elim
          (λ u. let beyond : f.at < e.at = far.beyond u.1 in omega arith)
          (λ u. ⊎_elim (λ v. omega arith) (λ v. let more = v.1 in omega arith) u.1)
          x.1)
          before))
          q)
          (apart e.seq f.seq)

      in_order : IsInOrder t
      in_order i e f ge gf =
          let q = next_behind (is_of k) S.entries i e f ge gf in
          let a : ℕ = q.0 in
          let n : ℕ = q.1 in
          let ae : e.at ≡ _ = at_is place replay s home S fit tests a e q.2 in
          let af : f.at ≡ _ = at_is place replay s home S fit tests (suc (a + n)) f q.3 in
          let grows = up_grows S.entries a (suc n) in
          let at : a + suc n ≡ suc (a + n) = omega arith in
          record {
            later = later a n e f q.2 q.3 (in_own i e ge) (in_own (suc i) f gf) (on_shard i e ge ∙ sym (on_shard (suc i) f gf)) (mine i e ge ∙ sym (mine (suc i) f gf));
            place = let far : updates_before S.entries a ≤ updates_before S.entries (suc (a + n)) = subst (λ z. updates_before S.entries a ≤ updates_before S.entries z) at grows in omega arith;
            beyond = λ hit. let far = up_after S.entries a n e q.2 hit in omega arith;
          }

  pub done_at : (k : ℕ) → k < length ops.by_rank → (d : Done) × (slice_get report.done k ≡ Some d)
  done_at k low = some_at report.done k (let a = fits.each_rank in let b = calls.ranks_there in omega arith)

  home_at : (s : ℕ) (S : TheShard) → slice_get report.shards s ≡ Some S → (home : ℕ) × (slice_get place.homes s ≡ Some home)
  home_at s S gS = some_at place.homes s (let h = slice_get_within report.shards s S gS in let a = fits.each_shard in let b = proper.each_shard in omega arith)

  pub rank_lawful : (k : ℕ) → k < length ops.by_rank → IsRankInOrder place.geom k (asked_of (calls_by k) (sizes_by k)) (length (own k)) (map (told_by k) report.shards)
  rank_lawful k low =
      let d = done_at k low in
      record {
        once = λ i less. sym (count_joined (λ e. e.seq == i) (map (told_by k) report.shards))
            ∙ once replay (calls_by k) (sizes_by k) (own k) d.0 (by_rank k d.0 d.1) i less;
        each = λ s t get.
            let q = get_map_back (told_by k) report.shards s t get in
            let h = home_at s q.0 q.1 in
            subst (All (IsEntryOf place.geom k (asked_of (calls_by k) (sizes_by k)) (length (own k)) s)) q.2
            (each_part (IsEntryOf place.geom k (asked_of (calls_by k) (sizes_by k)) (length (own k)) s) (told_by k q.0) (λ i e g. entry_of s h.0 q.0 h.1 q.1 k d.0 d.1 i e g));
        in_order = λ s t get.
            let q = get_map_back (told_by k) report.shards s t get in
            let h = home_at s q.0 q.1 in
            subst IsInOrder q.2 (in_order s h.0 q.0 h.1 q.1 k d.0 d.1);
      }

  -- what is told of it
  pub done_told : (k : ℕ) (d : Done) → slice_get report.done k ≡ Some d → IsDone replay (calls_by k) (sizes_by k) (length (own k)) d
  done_told k d gd = done_is replay (calls_by k) (sizes_by k) (own k) d (by_rank k d gd)

  -- and of a shard
  pub shard_tells : (s home : ℕ) (S : TheShard) → slice_get place.homes s ≡ Some home → slice_get report.shards s ≡ Some S → TellsHistory place S
  shard_tells s home S gh gS =
      tells_history place replay s home S (fit s home S gh gS) (tests s home S gh gS) (λ k low.
      let d = done_at k (let n = calls.ranks_there in omega arith) in in_order s home S gh gS k d.0 d.1)

-- ---- of a run

module _ (place : ThePlace) (ops : Ops) (report : TheReport) (proper : IsProper place) (calls : OpsFit (length place.paths) place.geom.shards ops) (fits : ReportFits (naming_of place) report)
    (of_run : report.steps ≡ None) (legal : IsLegalReport place ops report) where
  is_run : is_some report.steps ≡ false
  is_run = ap is_some of_run

  all_done : report.done ≡ map (λ z. record { done = length z; given = length z }) ops.by_rank
  all_done =
      same_lists report.done (map (λ z. record { done = length z; given = length z }) ops.by_rank)
      (fits.each_rank ∙ sym calls.ranks_there ∙ sym (length-map ops.by_rank (λ (z : List Call). record { done = length z; given = length z })))
      (λ k d gd.
      let low : k < length ops.by_rank = let h = slice_get_within report.done k d gd in let a = fits.each_rank in let b = calls.ranks_there in omega arith in
      let c = some_at ops.by_rank k low in
      let same : get_or ops.by_rank k [] ≡ c.0 = get_or_from_slice_get ops.by_rank k c.0 [] c.1 in
      let is = done_told place ops report proper calls fits false is_run legal k d gd in
      get_map (λ (z : List Call). record { done = length z; given = length z }) ops.by_rank k c.0 c.1
      ∙ ap (λ z. Some z) (sym (same_done d (length c.0) (length c.0) (is.done ∙ is.ends ∙ ap length same) (is.given ∙ ap length same))))

  run_shard : (s home : ℕ) (S : TheShard) → slice_get place.homes s ≡ Some home → slice_get report.shards s ≡ Some S → IsLawfulShard place home S
  run_shard s home S gh gS =
      let t = shard_tells place ops report proper calls fits false is_run legal s home S gh gS in
      let T = tests place ops report proper calls fits false is_run legal s home S gh gS in
      record {
        legal = t.legal;
        in_order = t.in_order;
        told = t.told;
        table = T.1.1.0.1 ∙ ap (λ z. finite.entries (table_after place.geom finite.empty (journal_among z)))
            (take_all (length S.entries) S.entries (omega arith));
        tallied = T.1.1.0.0;
      }

  pub is_lawful : IsLawful place ops report
  is_lawful =
      record {
        fits = fits;
        of_run = of_run;
        shards = run_shard;
        calls = λ k low.
            let d = done_at place ops report proper calls fits false is_run legal k low in
            subst (λ n. IsRankInOrder place.geom k (asked_of (get_or ops.by_rank k []) (get_or ops.sizes k [])) n (map (λ (S : TheShard). transcript_in S.entries k) report.shards))
            (done_told place ops report proper calls fits false is_run legal k d.0 d.1).ends
            (rank_lawful place ops report proper calls fits false is_run legal k low);
        done = all_done;
      }

-- ---- of a replay

module _ (place : ThePlace) (ops : Ops) (report : TheReport) (proper : IsProper place) (calls : OpsFit (length place.paths) place.geom.shards ops) (fits : ReportFits (naming_of place) report)
    (of_replay : is_some report.steps ≡ true) (legal : IsLegalReport place ops report) where
  replay_shard : (s home : ℕ) (S : TheShard) → slice_get place.homes s ≡ Some home → slice_get report.shards s ≡ Some S → IsReplayedShard place home S
  replay_shard s home S gh gS =
      let T = tests place ops report proper calls fits true of_replay legal s home S gh gS in
      record {
        history_told = shard_tells place ops report proper calls fits true of_replay legal s home S gh gS;
        tallied = T.1.1.0.0;
        rules = rules_of (queues_at place home) S.events T.1.1.1;
      }

  abbrev entries_of : ℕ → List Entry
  entries_of k = blocks_joined (map (λ (S : TheShard). transcript_in S.entries k) report.shards)

  told : (k : ℕ) → k < length ops.by_rank → (done_by report k ≡ length (entries_of k)) × BeginsAt (get_or ops.by_rank k []) (get_or ops.sizes k []) (length (entries_of k))
  told k low =
      let d = done_at place ops report proper calls fits true of_replay legal k low in
      let is = done_told place ops report proper calls fits true of_replay legal k d.0 d.1 in
      (ap (λ (z : Done). z.done) (get_or_from_slice_get report.done k d.0 (record { done = 0; given = 0 }) d.1) ∙ is.done, is.ends)

  pub replay_is_lawful : IsLawfulReplay place ops report
  replay_is_lawful =
      record {
        fits = fits;
        of_replay = of_replay;
        shards = replay_shard;
        calls = λ k low. let q = told k low in subst (λ n. IsRankInOrder place.geom k (asked_of (get_or ops.by_rank k []) (get_or ops.sizes k [])) n (map (λ (S : TheShard). transcript_in S.entries k) report.shards)) (sym q.0)
            (rank_lawful place ops report proper calls fits true of_replay legal k low);
        whole = λ k low. let q = told k low in subst (BeginsAt (get_or ops.by_rank k []) (get_or ops.sizes k [])) (sym q.0) q.1;
        given = λ k d gd. (done_told place ops report proper calls fits true of_replay legal k d gd).given;
      }
