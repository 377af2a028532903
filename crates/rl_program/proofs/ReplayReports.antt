-- The report of a sound machine that is made of a placement fits, and is lawful as that of a replay.
use Rattle.std.proofs.Common.{◌≡◌, ℕ, zero, suc, ◌+◌, ◌<◌, ◌≤◌, true, List, [], ◌∷◌, length, get_or, map, Some, Result, Ok, Err, IfOk, refl, sym, ap, subst, ◌∙◌, arith}
use Rattle.std.specs.Prelude.{All, slice_get}
use Rattle.std.proofs.lemmas.List.{length-map}
use Rattle.std.proofs.lemmas.Option.{same_Some, slice_get_within, slice_get-get_or, get_or_from_slice_get}
use Rattle.rl_word.specs.laws.Places.{get_map, get_map_back, some_at}
use Rattle.rl_model.specs.declared.call.Call.{Call}
use Rattle.rl_model.specs.declared.entry.Entry.{Entry}
use Rattle.rl_step.specs.declared.events.Event.{Event}
use Rattle.rl_step.specs.Answers.{steps_made}
use Rattle.rl_step.specs.Lock.{AllNamed}
use Rattle.rl_step.specs.QueuePromises.{KeepBudgets}
use Rattle.rl_journal.specs.Legal.{IsLegal}
use Rattle.rl_journal.specs.History.{history}
use Rattle.rl_journal.specs.laws.Lists.{all_at}
use Rattle.rl_journal.specs.Ranks.{IsOwn, IsInOrder, IsRankInOrder}
use Rattle.rl_place.specs.Places.{ThePlace, IsProper}
use Rattle.rl_ops.specs.declared.ops.Ops.{Ops}
use Rattle.rl_ops.specs.Asked.{BeginsAt}
use Rattle.rl_ops.specs.Ops.{OpsFit}
use Rattle.rl_core.specs.EventRanks.{AreByRanks}
use Rattle.rl_core.specs.Asks.{asked_of}
use Rattle.rl_core.specs.Desks.{desk_entries}
use Rattle.rl_core.specs.RankGood.{entries_in}
use Rattle.rl_core.specs.ShardTables.{ShardTable, kept_in}
use Rattle.rl_report.specs.declared.report.Done.{Done}
use Rattle.rl_report.specs.Naming.{naming_of}
use Rattle.rl_report.specs.Reports.{TheShard, TheReport, EntryFits, TallyFits, ShardFits, ShardsFit, DoneFits, ReportFits}
use Rattle.rl_report.specs.Tallies.{tallies_from}
use Rattle.rl_report.specs.Lawful.{journal_among, transcript_in, transcripts_in, queues_at}
use Rattle.rl_machine.specs.Running.{ShardRun, Running}
use Rattle.rl_machine.specs.ShardSteps.{desk_at, kept_on}
use Rattle.rl_step.specs.Traces.{events_of}
use Rattle.rl_machine.specs.laws.RecordLaws.{kept_long}
use Rattle.rl_machine.specs.Run.{calls_by, done_of, kept_by}
use Rattle.rl_machine.specs.Promises.{shard_journal, transcripts_on, history_on, IsShardSound, IsSound}
use Rattle.rl_check.specs.LawfulReplays.{IsReplayedShard, IsLawfulReplay, done_by}
use Rattle.rl_check.specs.Legal.{IsLegalReport, LegalIsLawfulReplay}
use Rattle.rl_run.specs.Told.{ToldShard, told_of}
use Rattle.rl_run.specs.laws.ToldLaws.{all_by_place}
use Rattle.rl_run.specs.laws.RowLaws.{same_maps}
use Rattle.rl_run.specs.laws.EndLaws.{own_all}
use Rattle.rl_run.specs.laws.EntriesFit.{HasTranscripts, HasDone, some_calls, same_journal, same_transcripts, rank_of_it, few_here, few_updates, entry_fits}
use Rattle.rl_reporting.specs.Reported.{queue_count, part_of_replay, dones_from, report_in, NumbersFit}
use Rattle.rl_program.specs.Replay.{IsMachineOf}
use Rattle.rl_program.proofs.ReplayEvents.{untouched, BeginsFrom, rules_still, tallies_still, tallies_long, events_fit}

-- ---- what a machine tells

module _ {V : Type 0} where
  -- the transcripts of a shard, rank by rank
  kept_get : (T : ShardTable V) (words : List ℕ) (r : ℕ) (vs : List V) (k : ℕ) → get_or (kept_in T words r vs) k [] ≡ desk_entries (desk_at T words (r + k) (slice_get vs k))
  kept_get T words r [] k = refl
  kept_get T words r (v ∷ vs) zero = let at : r ≡ r + 0 = omega arith in ap (λ n. desk_entries (T.desk words n v)) at
  kept_get T words r (v ∷ vs) (suc k) = let at : r + 1 + k ≡ r + suc k = omega arith in kept_get T words (r + 1) vs k ∙ ap (λ n. desk_entries (desk_at T words n (slice_get vs k))) at

  -- what a shard tells, as a closed one does
  abbrev told_on : ℕ → ShardRun V → ToldShard
  told_on queues S = record { journal = shard_journal S; transcripts = transcripts_on S; pairs = []; queues = tallies_from 0 queues (events_of S.trace) }

  told_same : (queues k : ℕ) (S : ShardRun V) → told_of k (told_on queues S) ≡ kept_on k S
  told_same queues k S = let none : 0 + k ≡ k = omega arith in kept_get S.table S.held.words 0 S.views k ∙ ap (λ n. desk_entries (desk_at S.table S.held.words n (slice_get S.views k))) none

  told_all : (queues k : ℕ) (shards : List (ShardRun V)) → map (told_of k) (map (told_on queues) shards) ≡ map (kept_on k) shards
  told_all queues k [] = refl
  told_all queues k (S ∷ shards) = ap (λ z. z ∷ map (told_of k) (map (told_on queues) shards)) (told_same queues k S) ∙ ap (λ z. kept_on k S ∷ z) (told_all queues k shards)

  -- what is told of each rank
  dones_long : (m : Running V) (rank : ℕ) (lists : List (List Call)) → length (dones_from m rank lists) ≡ length lists
  dones_long m rank [] = refl
  dones_long m rank (calls ∷ lists) = ap suc (dones_long m (rank + 1) lists)

  dones_at : (m : Running V) (rank : ℕ) (lists : List (List Call)) (k : ℕ) (d : Done) → slice_get (dones_from m rank lists) k ≡ Some d → d ≡ record { done = done_of m (rank + k); given = length (get_or lists k []) }
  dones_at m rank [] k d get = absurd (cc)
  dones_at m rank (calls ∷ lists) zero d get = let at : rank ≡ rank + 0 = omega arith in sym (same_Some _ _ get) ∙ ap (λ n. record { done = done_of m n; given = length calls }) at
  dones_at m rank (calls ∷ lists) (suc k) d get =
      let at : rank + 1 + k ≡ rank + suc k = omega arith in dones_at m (rank + 1) lists k d get ∙ ap (λ n. record { done = done_of m n; given = length (get_or lists k []) }) at

  module _ (place : ThePlace) (ops : Ops) (proper : IsProper place) (fit : OpsFit (length place.paths) place.geom.shards ops) (m : Running V) (sound : IsSound m) (of : IsMachineOf place ops m)
      (numbers : (s : ℕ) (S : ShardRun V) → slice_get m.shards s ≡ Some S → NumbersFit (part_of_replay (queue_count place) S)) where
    abbrev queues : ℕ
    queues = queue_count place

    abbrev es : List ToldShard
    es = map (told_on queues) m.shards

    -- ---- ranks

    there : (k : ℕ) → k < length ops.by_rank → k < length m.calls
    there k low = subst (λ l. k < length l) (sym of.calls) low

    abbrev done : ℕ → ℕ
    done k = done_of m k

    low_done : (k : ℕ) → k < length ops.by_rank → done k ≤ length (get_or ops.by_rank k [])
    low_done k low = let a = sound.done k (there k low) in let b = sound.given k (there k low) in let same : length (calls_by m k) ≡ length (get_or ops.by_rank k []) = ap (λ l. length (get_or l k [])) of.calls in omega arith

    has_done : (k : ℕ) → k < length ops.by_rank → HasDone place ops k (done k) es
    has_done k low =
        record {
          order = subst (IsRankInOrder place.geom k (asked_of (get_or ops.by_rank k []) (get_or ops.sizes k [])) (done k)) (sym (told_all queues k m.shards))
              (subst (λ geom. IsRankInOrder geom k (asked_of (get_or ops.by_rank k []) (get_or ops.sizes k [])) (done k) (kept_by m k)) of.geom
              (subst (λ l. IsRankInOrder m.geom k (asked_of (get_or l k []) (get_or ops.sizes k [])) (done k) (kept_by m k)) of.calls
              (subst (λ l. IsRankInOrder m.geom k (asked_of (calls_by m k) (get_or l k [])) (done k) (kept_by m k)) of.sizes (sound.order k (there k low)))));
          total = ap entries_in (told_all queues k m.shards);
          low = low_done k low;
        }

    -- ---- one shard

    module _ (s : ℕ) (S : ShardRun V) (get : slice_get m.shards s ≡ Some S) where
      is : IsShardSound m.geom S
      is = sound.shards s S get

      has : slice_get es s ≡ Some (told_on queues S)
      has = get_map (told_on queues) m.shards s S get

      long : length (transcripts_on S) ≡ length ops.by_rank
      long = kept_long S.table S.held.words 0 S.views ∙ sound.views s S get ∙ ap length of.calls

      own_at : (i : ℕ) (t : List Entry) → slice_get (transcripts_on S) i ≡ Some t → All (IsOwn s (0 + i)) t × IsInOrder t
      own_at i t g =
          let low : i < length ops.by_rank = let h = slice_get_within (transcripts_on S) i t g in let a = long in omega arith in
          let same : told_of i (told_on queues S) ≡ t = get_or_from_slice_get (transcripts_on S) i t [] g in
          let at : slice_get (map (told_of i) es) s ≡ Some t = get_map (told_of i) es s (told_on queues S) has ∙ ap (λ z. Some z) same in
          let d = has_done i low in
          let none : i ≡ 0 + i = omega arith in
          let all = d.order.each s t at in
          let own : All (IsOwn s i) t = λ k e h. (all k e h).own in
          (subst (λ n. All (IsOwn s n) t) none own, d.order.in_order s t at)

      tells : HasTranscripts place (told_on queues S)
      tells =
          record {
            ranks = long ∙ fit.ranks_there;
            legal = subst (λ geom. IsLegal geom (shard_journal S) (transcripts_on S)) of.geom is.legal;
            own = own_all s 0 (transcripts_on S) own_at;
          }

      fits_shard : (home : ℕ) → slice_get place.homes s ≡ Some home → ShardFits (naming_of place) true s (part_of_replay queues S)
      fits_shard home has_home =
          let n = numbers s S get in
          record {
            few_updates = few_updates place ops fit es done has_done s (told_on queues S) has tells;
            few_entries = few_here place ops fit es done has_done s (told_on queues S) has tells;
            entries = all_by_place (EntryFits (naming_of place) s) (history_on S) (entry_fits place ops fit es done has_done s (told_on queues S) has tells n.replies);
            each_queue = tallies_long 0 queues (events_of S.trace);
            queues = all_by_place TallyFits (tallies_from 0 queues (events_of S.trace)) (λ i t g. subst TallyFits (get_or_from_slice_get _ i t t g) (n.tallies i t (slice_get_within _ i t g)));
            pairs = refl;
            events = events_fit place proper home S.table.cohort (of.cohorts s S get) (steps_made m.steps) of.few 0 S.trace (begins S.trace) is.ordered (sound.made s S get)
                (subst (λ qs. AllNamed qs S.table.cohort (events_of S.trace)) (of.queues s home S has_home get) is.named)
                (subst (λ k. AreByRanks k (events_of S.trace)) (ap length of.calls ∙ fit.ranks_there) (sound.by_ranks s S get));
          } where
            begins : (t : List (ℕ × Event)) → BeginsFrom place proper home S.table.cohort (of.cohorts s S get) (steps_made m.steps) of.few 0 t
            begins [] = tt
            begins (e ∷ t) = omega arith

      replayed : (home : ℕ) → slice_get place.homes s ≡ Some home → IsReplayedShard place home (part_of_replay queues S)
      replayed home has_home =
          let journal : journal_among (history_on S) ≡ shard_journal S = same_journal place ops fit es done has_done s (told_on queues S) has tells in
          let transcripts : transcripts_in (history_on S) 0 (length place.paths) ≡ transcripts_on S = same_transcripts place ops fit es done has_done s (told_on queues S) has tells in
          let all : length (tallies_from 0 queues (events_of S.trace)) ≡ queues = tallies_long 0 queues (events_of S.trace) in
          record {
            history_told = record {
              legal = subst (λ j. IsLegal place.geom j (transcripts_in (history_on S) 0 (length place.paths))) (sym journal) (subst (IsLegal place.geom (shard_journal S)) (sym transcripts) tells.legal);
              in_order = ap (λ ts. history (shard_journal S) ts) (sym transcripts) ∙ ap (λ j. history j (transcripts_in (history_on S) 0 (length place.paths))) (sym journal);
              told = ap length (sym journal);
            };
            tallied = tallies_still 0 queues S.trace ∙ ap (λ n. tallies_from 0 n (events_of (untouched S.trace))) (sym all);
            rules = rules_still (queues_at place home) S.trace is.exclusive (subst (λ qs. KeepBudgets qs (events_of S.trace)) (of.queues s home S has_home get) is.queues.budgets);
          }

    -- ---- the report

    abbrev report : TheReport
    report = report_in queues m

    home_at : (s : ℕ) (S : ShardRun V) → slice_get m.shards s ≡ Some S → (home : ℕ) × (slice_get place.homes s ≡ Some home)
    home_at s S get = some_at place.homes s (let h = slice_get_within m.shards s S get in let a = of.all in omega arith)

    shards_fit : (from : ℕ) (rest : List (ShardRun V)) → ((i : ℕ) (S : ShardRun V) → slice_get rest i ≡ Some S → slice_get m.shards (from + i) ≡ Some S) → ShardsFit (naming_of place) true from (map (part_of_replay queues) rest)
    shards_fit from [] at = tt
    shards_fit from (S ∷ rest) at =
        let none : from + 0 ≡ from = omega arith in
        let here : slice_get m.shards from ≡ Some S = ap (slice_get m.shards) (sym none) ∙ at 0 S refl in
        let home = home_at from S here in (
          fits_shard from S here home.0 home.1,
          shards_fit (from + 1) rest (λ i R g. let next : from + 1 + i ≡ from + suc i = omega arith in ap (slice_get m.shards) next ∙ at (suc i) R g),
        )

    all_long : length (dones_from m 0 m.calls) ≡ length ops.by_rank
    all_long = dones_long m 0 m.calls ∙ ap length of.calls

    done_is : (k : ℕ) (d : Done) → slice_get (dones_from m 0 m.calls) k ≡ Some d → (d.done ≡ done k) × (d.given ≡ length (get_or ops.by_rank k []))
    done_is k d get =
        let q = dones_at m 0 m.calls k d get in
        let none : 0 + k ≡ k = omega arith in
        (ap (λ (z : Done). z.done) q ∙ ap (done_of m) none, ap (λ (z : Done). z.given) q ∙ ap (λ l. length (get_or l k [])) of.calls)

    done_fits : (k : ℕ) (d : Done) → slice_get (dones_from m 0 m.calls) k ≡ Some d → DoneFits d
    done_fits k d get =
        let low : k < length ops.by_rank = let h = slice_get_within (dones_from m 0 m.calls) k d get in let a = all_long in omega arith in
        let is = done_is k d get in
        let as_done = is.0 in
        let as_given = is.1 in
        let few = some_calls ops.by_rank k (get_or ops.by_rank k []) (slice_get-get_or ops.by_rank k [] low) in
        let all = fit.few in
        let most = low_done k low in
        (omega arith, omega arith)

    pub fits : ReportFits (naming_of place) report
    fits =
        record {
          each_shard = length-map m.shards (part_of_replay queues) ∙ of.all ∙ proper.each_shard;
          shards = shards_fit 0 m.shards (λ i S get. let none : 0 + i ≡ i = omega arith in ap (slice_get m.shards) none ∙ get);
          each_rank = all_long ∙ fit.ranks_there;
          done = all_by_place DoneFits (dones_from m 0 m.calls) done_fits;
          steps = of.few;
        }

    told_done : (k : ℕ) → k < length ops.by_rank → done_by report k ≡ done k
    told_done k low =
        let d = some_at (dones_from m 0 m.calls) k (let a = all_long in omega arith) in
        ap (λ (z : Done). z.done) (get_or_from_slice_get (dones_from m 0 m.calls) k d.0 (record { done = 0; given = 0 }) d.1) ∙ (done_is k d.0 d.1).0

    told_by : (k : ℕ) → k < length ops.by_rank → map (told_of k) es ≡ map (λ (P : TheShard). transcript_in P.entries k) (map (part_of_replay queues) m.shards)
    told_by k low =
        same_maps (told_of k) (λ (P : TheShard). transcript_in P.entries k) es (map (part_of_replay queues) m.shards) (length-map m.shards (told_on queues) ∙ sym (length-map m.shards (part_of_replay queues)))
        (λ s e P get gP.
        let q = get_map_back (told_on queues) m.shards s e get in
        let p = get_map_back (part_of_replay queues) m.shards s P gP in
        let same : q.0 ≡ p.0 = same_Some _ _ (sym q.1 ∙ p.1) in
        let inside : k < length (transcripts_on q.0) = let a = long s q.0 q.1 in omega arith in
        ap (told_of k) (sym q.2)
        ∙ sym (rank_of_it place ops fit es done has_done s (told_on queues q.0) (has s q.0 q.1) (tells s q.0 q.1) k (get_or (transcripts_on q.0) k []) (slice_get-get_or (transcripts_on q.0) k [] inside))
        ∙ ap (λ (R : ShardRun V). transcript_in (history_on R) k) same ∙ ap (λ (z : TheShard). transcript_in z.entries k) p.2)

    pub lawful : IsLawfulReplay place ops report
    lawful =
        record {
          fits = fits;
          of_replay = refl;
          shards = λ s home P gh gP. let q = get_map_back (part_of_replay queues) m.shards s P gP in subst (IsReplayedShard place home) q.2 (replayed s q.0 q.1 home gh);
          calls = λ k low. subst (IsRankInOrder place.geom k (asked_of (get_or ops.by_rank k []) (get_or ops.sizes k [])) (done_by report k)) (told_by k low)
              (subst (λ n. IsRankInOrder place.geom k (asked_of (get_or ops.by_rank k []) (get_or ops.sizes k [])) n (map (told_of k) es)) (sym (told_done k low)) (has_done k low).order);
          whole = λ k low. subst (BeginsAt (get_or ops.by_rank k []) (get_or ops.sizes k [])) (sym (told_done k low))
              (subst (λ l. BeginsAt (get_or l k []) (get_or ops.sizes k []) (done k)) of.calls
              (subst (λ l. BeginsAt (calls_by m k) (get_or l k []) (done k)) of.sizes (sound.whole k (there k low))));
          given = λ k d get. (done_is k d get).1;
        }

-- where the report of such a machine was made
pub lawful_ok : {V E : Type 0} (place : ThePlace) (ops : Ops) (m : Running V) (result : Result TheReport E) → IfOk result (λ report. report ≡ report_in (queue_count place) m) → IfOk result (λ report. All NumbersFit report.shards) →
    (((s : ℕ) (S : ShardRun V) → slice_get m.shards s ≡ Some S → NumbersFit (part_of_replay (queue_count place) S)) → IsLawfulReplay place ops (report_in (queue_count place) m)) → IfOk result (λ report. IsLawfulReplay place ops report)
lawful_ok place ops m (Ok made) same numbers law =
    subst (IsLawfulReplay place ops) (sym same)
    (law (λ s S get. all_at NumbersFit (map (part_of_replay (queue_count place)) m.shards) s (part_of_replay (queue_count place) S) (subst (λ (r : TheReport). All NumbersFit r.shards) same numbers) (get_map (part_of_replay (queue_count place)) m.shards s S get)))
lawful_ok place ops m (Err e) same numbers law = tt

-- and a lawful one is legal
pub legal_ok : {E : Type 0} → LegalIsLawfulReplay → (place : ThePlace) (ops : Ops) → IsProper place → OpsFit (length place.paths) place.geom.shards ops → (result : Result TheReport E) → IfOk result (λ report. IsLawfulReplay place ops report) → IfOk result (λ report. IsLegalReport place ops report)
legal_ok laws place ops proper fit (Ok made) keeps = (laws place ops made proper fit keeps.fits keeps.of_replay).1 keeps
legal_ok laws place ops proper fit (Err e) keeps = tt
