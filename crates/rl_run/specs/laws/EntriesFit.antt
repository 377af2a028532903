-- The entries of shards whose ranks have done their first calls in order fit a report.
use Rattle.std.specs.Prelude.{◌≡◌, ℕ, zero, suc, ◌+◌, ◌<◌, ◌≤◌, nat_eq, nat_lt, true, false, not, List, [], ◌∷◌, All, count_by, filter, get_or, length, map, slice_get, Some, refl}
use Rattle.std.proofs.Common.{sym, ◌∙◌, ap, arith}
use Rattle.std.proofs.lemmas.Bool.Decides.{nat_tests}
use Rattle.std.proofs.lemmas.List.Sums.{length-filter, count_by-le-length, sum_by-cons}
use Rattle.std.proofs.lemmas.Option.{same_Some, slice_get_within, slice_get-get_or}
use Rattle.rl_word.specs.laws.Places.{get_map, some_at}
use Rattle.rl_model.specs.declared.call.Call.{Call}
use Rattle.rl_model.specs.declared.entry.Entry.{Entry}
use Rattle.rl_journal.specs.Legal.{updates, is_of, IsLegal}
use Rattle.rl_journal.specs.laws.LegalLaws.{IsMarked, marked}
use Rattle.rl_journal.specs.laws.Lists.{all_at}
use Rattle.rl_journal.specs.History.{history, AreOwn}
use Rattle.rl_journal.specs.laws.HistoryCounts.{same_entries}
use Rattle.rl_journal.specs.laws.HistoryParts.{updates_are, rank_is}
use Rattle.rl_journal.specs.Ranks.{count_in, IsEntryOf, IsRankInOrder}
use Rattle.rl_place.specs.Places.{ThePlace}
use Rattle.rl_ops.specs.declared.ops.Ops.{Ops}
use Rattle.rl_ops.specs.Ops.{AreBlocks, EachOfBlocks, OpsFit, total_calls}
use Rattle.rl_ops.specs.Asked.{asked_of}
use Rattle.rl_core.specs.RankGood.{entries_in}
use Rattle.rl_report.specs.Naming.{naming_of}
use Rattle.rl_report.specs.Reports.{EntryFits, ReplyFits}
use Rattle.rl_report.specs.Lawful.{journal_among, transcripts_in}
use Rattle.rl_run.specs.Told.{ToldShard, told_of}
use Rattle.rl_run.specs.laws.ToldLaws.{no_such, kept_there, one_of_all, AskedFits, asked_fit, at_most_all, count_all, few_entries, is_beyond, ranks_there, transcripts_are}

-- the journal and the transcripts of a shard, one for each rank, are legal
pub record HasTranscripts (place : ThePlace) (e : ToldShard) : Type 0 where
  pub ranks : length e.transcripts ≡ length place.paths
  pub legal : IsLegal place.geom e.journal e.transcripts
  pub own : AreOwn 0 e.transcripts

-- a rank has done its first n calls, each once and in its order
pub record HasDone (place : ThePlace) (ops : Ops) (k n : ℕ) (es : List ToldShard) : Type 0 where
  pub order : IsRankInOrder place.geom k (asked_of (get_or ops.by_rank k []) (get_or ops.sizes k [])) n (map (told_of k) es)
  pub total : entries_in (map (told_of k) es) ≡ n
  pub low : n ≤ length (get_or ops.by_rank k [])

pub each_block : (shards : ℕ) (lists : List (List Call)) (sizes : List (List ℕ)) → EachOfBlocks shards lists sizes → (k : ℕ) → k < length lists →
    AreBlocks shards (get_or lists k []) (get_or sizes k [])
each_block shards [] sizes each k h = absurd (omega arith)
each_block shards (c ∷ lists) [] each k h = absurd each
each_block shards (c ∷ lists) (s ∷ sizes) each zero h = each.0
each_block shards (c ∷ lists) (s ∷ sizes) each (suc k) h = each_block shards lists sizes each.1 k (omega arith)

-- a rank's calls are among all
pub some_calls : (lists : List (List Call)) (k : ℕ) (calls : List Call) → slice_get lists k ≡ Some calls → length calls ≤ total_calls lists
some_calls [] k calls e = absurd (cc)
some_calls (c ∷ lists) zero calls e = let same : length c ≡ length calls = ap length (same_Some _ _ e) in omega (arith, sum_by-cons (λ (l : List Call). length l) c lists)
some_calls (c ∷ lists) (suc k) calls e = let on = some_calls lists k calls e in omega (arith, sum_by-cons (λ (l : List Call). length l) c lists)

module _ (place : ThePlace) (ops : Ops) (fit : OpsFit (length place.paths) place.geom.shards ops) (es : List ToldShard)
    (done : ℕ → ℕ) (are : (k : ℕ) → k < length ops.by_rank → HasDone place ops k (done k) es)
    (s : ℕ) (e : ToldShard) (has : slice_get es s ≡ Some e) (c : HasTranscripts place e) where
  abbrev pub entries : List Entry
  entries = history e.journal e.transcripts

  pub as_many : length e.transcripts ≡ length ops.by_rank
  as_many = c.ranks ∙ sym fit.ranks_there

  -- a rank's transcript here, and its calls
  record IsMine (k : ℕ) (t : List Entry) : Type 0 where
    low : k < length ops.by_rank
    has_calls : slice_get ops.by_rank k ≡ Some (get_or ops.by_rank k [])
    there : slice_get (map (told_of k) es) s ≡ Some t

  mine : (k : ℕ) (t : List Entry) → slice_get e.transcripts k ≡ Some t → IsMine k t
  mine k t get =
      let low : k < length ops.by_rank = let h = slice_get_within e.transcripts k t get in let a = as_many in omega arith in
      record {
        low = low;
        has_calls = slice_get-get_or ops.by_rank k [] low;
        there = get_map (told_of k) es s e has ∙ ap (λ z. Some z) (same_Some _ _ (sym (slice_get-get_or e.transcripts k [] (slice_get_within e.transcripts k t get)) ∙ get));
      }

  pub rank_of_it : (k : ℕ) (t : List Entry) → slice_get e.transcripts k ≡ Some t → filter (is_of k) entries ≡ t
  rank_of_it k t get = rank_is place.geom e.journal e.transcripts c.legal c.own k t get

  pub same_journal : journal_among entries ≡ e.journal
  same_journal = updates_are place.geom e.journal e.transcripts c.legal

  pub same_transcripts : transcripts_in entries 0 (length place.paths) ≡ e.transcripts
  same_transcripts =
      ap (transcripts_in entries 0) (sym c.ranks)
      ∙ transcripts_are entries 0 e.transcripts (λ i t get. let z : 0 + i ≡ i = omega arith in ap (λ k. filter (is_of k) entries) z ∙ rank_of_it i t get)

  -- how many there are
  pub few_here : length entries ≤ 20000
  few_here =
      let all : count_by (λ (f : Entry). true) entries ≡ count_in (λ f. true) e.transcripts = same_entries (λ f. true) place.geom e.journal e.transcripts c.legal in
      let each = few_entries e.transcripts ops.by_rank as_many
      (λ k t calls gt gc.
      let m = mine k t gt in
      let total = (are k m.low).total in
      let few = (are k m.low).low in
      let most = at_most_all (map (told_of k) es) s t m.there in
      let same : length (get_or ops.by_rank k []) ≡ length calls = ap length (same_Some _ _ (sym m.has_calls ∙ gc)) in
      omega arith) in
      let few : total_calls ops.by_rank ≤ 20000 = fit.few in
      omega (arith, count_all entries)

  pub few_updates : length e.journal ≤ 20000
  few_updates = omega (arith, few_here, ap length same_journal, length-filter updates entries, count_by-le-length updates entries)

  -- an entry is one of a rank's
  pub entry_fits : All (λ g. ReplyFits g.reply) entries → (i : ℕ) (f : Entry) → slice_get entries i ≡ Some f → EntryFits (naming_of place) s f
  entry_fits replies i f get =
      let n : ℕ = length e.transcripts in
      let none : count_by (is_beyond n) entries ≡ 0 = same_entries (is_beyond n) place.geom e.journal e.transcripts c.legal ∙ ranks_there n 0 e.transcripts c.own (omega arith) in
      let inside : is_beyond n f ≡ false = no_such (is_beyond n) entries i f none get in
      let low : f.rank < n = below f.rank n inside in
      let t = some_at e.transcripts f.rank low in
      let hit : is_of f.rank f ≡ true = same_rank f.rank in
      let at = kept_there (is_of f.rank) entries i f get hit in
      let there : slice_get t.0 at.0 ≡ Some f = ap (λ z. slice_get z at.0) (sym (rank_of_it f.rank t.0 t.1)) ∙ at.1 in
      let m = mine f.rank t.0 t.1 in
      let own = are f.rank m.low in
      let is : IsEntryOf place.geom f.rank (asked_of (get_or ops.by_rank f.rank []) (get_or ops.sizes f.rank [])) (done f.rank) s f =
      all_at (IsEntryOf place.geom f.rank (asked_of (get_or ops.by_rank f.rank []) (get_or ops.sizes f.rank [])) (done f.rank) s) t.0 at.0 f (own.order.each s t.0 m.there) there in
      let asked : AskedFits place.geom.shards (record { call = f.call; batch = f.batch; part = f.part }) =
      one_of_all (AskedFits place.geom.shards) (asked_of (get_or ops.by_rank f.rank []) (get_or ops.sizes f.rank [])) f.seq (record { call = f.call; batch = f.batch; part = f.part })
      (asked_fit place.geom.shards (get_or ops.by_rank f.rank []) (get_or ops.sizes f.rank []) (each_block place.geom.shards ops.by_rank ops.sizes fit.blocks f.rank m.low)) is.asked_is in
      let mark : IsMarked e.journal f = all_at (IsMarked e.journal) t.0 at.0 f (marked place.geom e.journal e.transcripts c.legal f.rank t.0 t.1) there in
      record {
        shard_is = is.own.shard_is;
        low_place = let a = mark.low in let b = few_updates in omega arith;
        rank_there = let a = c.ranks in omega arith;
        low_number = let a = is.low in let z = own.low in let b = some_calls ops.by_rank f.rank (get_or ops.by_rank f.rank []) m.has_calls in let d = fit.few in omega arith;
        call = asked.call;
        reply = all_at (λ g. ReplyFits g.reply) entries i f replies get;
        part = asked.part;
      } where
        below : (r n : ℕ) → not (nat_lt r n) ≡ false → r < n
        below r n q =
            elim (nat_lt r n) as (λ b. nat_lt r n ≡ b → r < n) [
              | true ↦ λ h. grind (arith, nat_tests)
              | false ↦ λ h. absurd (let bad : true ≡ false = ap not (sym h) ∙ q in cc)
            ] refl

        same_rank : (r : ℕ) → nat_eq r r ≡ true
        same_rank r = grind (arith, nat_tests)
