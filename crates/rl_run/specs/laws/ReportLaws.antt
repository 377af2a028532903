-- The report of closed shards is lawful.
use Rattle.std.specs.Prelude.{◌≡◌, ℕ, suc, ◌+◌, ◌<◌, ◌≤◌, ◌^◌, false, List, [], ◌∷◌, All, get_or, length, map, slice_get, Some, refl}
use Rattle.std.specs.List.{AllByRecursion}
use Rattle.std.specs.FinMap as finite
use Rattle.std.specs.FinMap.Entries.{is_sorted}
use Rattle.std.specs.Ordering.{nat_cmp}
use Rattle.std.proofs.Common.{sym, ◌∙◌, ap, subst, arith, T}
use Rattle.std.proofs.lemmas.List.{length-map}
use Rattle.std.proofs.lemmas.List.Sums.{sum_by-cons}
use Rattle.std.proofs.lemmas.Option.{same_Some, slice_get_within, slice_get-get_or}
use Rattle.rl_word.specs.laws.Places.{get_map_back, some_at}
use Rattle.rl_model.specs.declared.call.Call.{Call}
use Rattle.rl_model.specs.declared.entry.Entry.{Entry}
use Rattle.rl_journal.specs.Legal.{IsLegal, table_after}
use Rattle.rl_journal.specs.laws.Lists.{all_at}
use Rattle.rl_journal.specs.History.{history}
use Rattle.rl_journal.specs.Ranks.{IsRankInOrder}
use Rattle.rl_place.specs.Places.{ThePlace, IsProper}
use Rattle.rl_ops.specs.declared.ops.Ops.{Ops}
use Rattle.rl_ops.specs.Ops.{OpsFit, total_calls}
use Rattle.rl_ops.specs.Asked.{asked_of}
use Rattle.rl_report.specs.Naming.{naming_of}
use Rattle.rl_report.specs.Reports.{TheShard, EntryFits, TallyFits, ShardFits, ShardsFit, DoneFits}
use Rattle.rl_report.specs.Lawful.{journal_among, transcript_in, transcripts_in, IsLawfulShard, IsLawful}
use Rattle.rl_report.proofs.QueueLaws.{queues_long}
use Rattle.rl_run.specs.laws.EntriesFit.{HasTranscripts, HasDone, same_journal, same_transcripts, rank_of_it, as_many, few_here, few_updates, entry_fits}
use Rattle.rl_run.specs.laws.RowLaws.{same_maps}
use Rattle.rl_run.specs.Told.{ToldShard, told_of, part_of, report_of, ToldNumbersFit, IsClosedShard, AreClosedShards}
use Rattle.rl_run.specs.laws.ToldLaws.{all_by_place, pairs_fit}

module _ (place : ThePlace) (ops : Ops) (proper : IsProper place) (fit : OpsFit (length place.paths) place.geom.shards ops) (es : List ToldShard) (are : AreClosedShards place ops es) where
  -- all calls of a rank
  abbrev calls_of : ℕ → ℕ
  calls_of k = length (get_or ops.by_rank k [])

  all_done : (k : ℕ) → k < length ops.by_rank → HasDone place ops k (calls_of k) es
  all_done k low = let r = are.ranks k low in record { order = r.order; total = r.total; low = omega arith }

  -- ---- one shard

  module _ (s home : ℕ) (e : ToldShard) (has_home : slice_get place.homes s ≡ Some home) (has : slice_get es s ≡ Some e) where
    c : IsClosedShard place home e
    c = are.shards s home e has_home has

    abbrev entries : List Entry
    entries = history e.journal e.transcripts

    has_transcripts : HasTranscripts place e
    has_transcripts = record { ranks = c.ranks; legal = c.legal; own = c.own }

    journal_same : journal_among entries ≡ e.journal
    journal_same = same_journal place ops fit es calls_of all_done s e has has_transcripts

    transcripts_same : transcripts_in entries 0 (length place.paths) ≡ e.transcripts
    transcripts_same = same_transcripts place ops fit es calls_of all_done s e has has_transcripts

    pub shard_lawful : IsLawfulShard place home (part_of e)
    shard_lawful =
        record {
          legal = subst (λ j. IsLegal place.geom j (transcripts_in entries 0 (length place.paths))) (sym journal_same) (subst (IsLegal place.geom e.journal) (sym transcripts_same) c.legal);
          in_order = ap (λ ts. history e.journal ts) (sym transcripts_same) ∙ ap (λ j. history j (transcripts_in entries 0 (length place.paths))) (sym journal_same);
          told = ap length (sym journal_same);
          table = c.pairs_are ∙ ap (λ j. finite.entries (table_after place.geom finite.empty j)) (sym journal_same);
          tallied = c.tallied;
        }

    pub updates_few : length e.journal ≤ 20000
    updates_few = few_updates place ops fit es calls_of all_done s e has has_transcripts

    pub shard_fits : ToldNumbersFit e → ShardFits (naming_of place) false s (part_of e)
    shard_fits numbers =
        record {
          few_updates = updates_few;
          few_entries = few_here place ops fit es calls_of all_done s e has has_transcripts;
          entries = all_by_place (EntryFits (naming_of place) s) entries (entry_fits place ops fit es calls_of all_done s e has has_transcripts numbers.replies);
          each_queue = c.tallied.each ∙ queues_long place home;
          queues = all_by_place TallyFits e.queues (λ i t get. all_at TallyFits e.queues i t numbers.tallies get);
          pairs = pairs_fit e.pairs (subst (λ ps. T (is_sorted nat_cmp ps)) (sym c.pairs_are) (finite.entries_sorted (table_after place.geom finite.empty e.journal)))
              (all_by_place (λ p. (p.0 < 2 ^ 64) × (p.1 < 2 ^ 64)) e.pairs (λ i p get. all_at (λ q. (q.0 < 2 ^ 64) × (q.1 < 2 ^ 64)) e.pairs i p numbers.pairs get));
          events = refl;
        }

  -- ---- the report

  shards_fit : All ToldNumbersFit es → (from : ℕ) (rest : List ToldShard) → ((i : ℕ) (e : ToldShard) → slice_get rest i ≡ Some e → slice_get es (from + i) ≡ Some e) →
      ShardsFit (naming_of place) false from (map part_of rest)
  shards_fit numbers from [] at = tt
  shards_fit numbers from (e ∷ rest) at =
      let none : from + 0 ≡ from = omega arith in
      let here : slice_get es from ≡ Some e = ap (slice_get es) (sym none) ∙ at 0 e refl in
      let home = some_at place.homes from (let h = slice_get_within es from e here in let a = are.all in let b = proper.each_shard in omega arith) in (
        shard_fits from home.0 e home.1 here (all_at ToldNumbersFit es from e numbers here),
        shards_fit numbers (from + 1) rest (λ i f get. let next : from + 1 + i ≡ from + suc i = omega arith in ap (slice_get es) next ∙ at (suc i) f get),
      )

  done_fit : (n : ℕ) (lists : List (List Call)) → total_calls lists ≤ n → n ≤ 20000 → AllByRecursion DoneFits (map (λ calls. record { done = length calls; given = length calls }) lists)
  done_fit n [] few low = tt
  done_fit n (l ∷ lists) few low =
      let both = sum_by-cons (λ (c : List Call). length c) l lists in ((omega arith, omega arith), done_fit n lists (omega arith) low)

  pub lawful : All ToldNumbersFit es → IsLawful place ops (report_of ops es)
  lawful numbers =
      record {
        fits = record {
          each_shard = length-map es part_of ∙ are.all;
          shards = shards_fit numbers 0 es (λ i e get. let z : 0 + i ≡ i = omega arith in ap (slice_get es) z ∙ get);
          each_rank = length-map ops.by_rank (λ calls. record { done = length calls; given = length calls }) ∙ fit.ranks_there;
          done = done_fit (total_calls ops.by_rank) ops.by_rank (omega arith) fit.few;
          steps = tt;
        };
        of_run = refl;
        shards = λ s home S has_home get. let q = get_map_back part_of es s S get in subst (IsLawfulShard place home) q.2 (shard_lawful s home q.0 has_home q.1);
        calls = λ k low. subst (IsRankInOrder place.geom k (asked_of (get_or ops.by_rank k []) (get_or ops.sizes k [])) (length (get_or ops.by_rank k [])))
            (same_maps (told_of k) (λ (S : TheShard). transcript_in S.entries k) es (map part_of es) (sym (length-map es part_of))
            (λ s e S get gS.
            let q = get_map_back part_of es s S gS in
            let same : e ≡ q.0 = same_Some _ _ (sym get ∙ q.1) in
            let home = some_at place.homes s (let h = slice_get_within es s e get in let a = are.all in let b = proper.each_shard in omega arith) in
            let own : HasTranscripts place e = has_transcripts s home.0 e home.1 get in
            let there : k < length e.transcripts = let a = as_many place ops fit es calls_of all_done s e get own in omega arith in
            sym (rank_of_it place ops fit es calls_of all_done s e get own k (get_or e.transcripts k []) (slice_get-get_or e.transcripts k [] there))
            ∙ ap (λ z. transcript_in (part_of z).entries k) same ∙ ap (λ z. transcript_in z.entries k) q.2))
            (are.ranks k low).order;
        done = refl;
      }
