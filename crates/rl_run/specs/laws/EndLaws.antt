-- All callers are done and all shards closed: what the shards tell makes a lawful report.
use Rattle.std.specs.Prelude.{◌≡◌, ℕ, suc, ◌+◌, ◌<◌, Bool, List, [], ◌∷◌, All, get_or, length, map, slice_get, Some, refl}
use Rattle.std.specs.FinMap as finite
use Rattle.std.proofs.Common.{sym, ◌∙◌, ap, subst, arith}
use Rattle.std.proofs.lemmas.List.{length-map}
use Rattle.std.proofs.lemmas.Option.{slice_get_within, get_or_from_slice_get}
use Rattle.rl_word.specs.Shapes.{TheShape}
use Rattle.rl_word.specs.declared.shapes.Knobs.{Knobs}
use Rattle.rl_word.specs.declared.locks.LockName.{LockName}
use Rattle.rl_word.specs.laws.Places.{get_map, get_map_back, some_at}
use Rattle.rl_model.specs.declared.call.Call.{Call}
use Rattle.rl_model.specs.declared.entry.Entry.{Entry}
use Rattle.rl_model.specs.declared.geom.Geom.{Geom}
use Rattle.rl_core.specs.ShardTables.{ShardTable}
use Rattle.rl_core.specs.Moments.{CoreSays}
use Rattle.rl_step.specs.LockQueues.{queues_of, readers_share, lock_under, spares_gets}
use Rattle.rl_journal.specs.Blocks.{is_tenure}
use Rattle.rl_journal.specs.History.{AreOwn}
use Rattle.std.specs.List.{AllByRecursion}
use Rattle.rl_journal.specs.Legal.{IsLegal, table_after}
use Rattle.rl_journal.specs.laws.Lists.{all_at}
use Rattle.rl_journal.specs.Ranks.{IsInOrder, IsOwn, IsRankInOrder}
use Rattle.rl_journal.specs.Tenures.{AreTallied}
use Rattle.rl_place.specs.LockWords.{name_of}
use Rattle.rl_place.specs.Places.{ThePlace, IsProper}
use Rattle.rl_place.specs.Shapes.{shape_of, knobs_of}
use Rattle.rl_ops.specs.declared.ops.Ops.{Ops}
use Rattle.rl_site.specs.Site.{Site}
use Rattle.rl_ops.specs.Ops.{OpsFit}
use Rattle.rl_core.specs.Asks.{asked_of}
use Rattle.rl_core.specs.RankGood.{entries_in}
use Rattle.rl_shard.specs.declared.closed.Closed.{Closed}
use Rattle.rl_shard.specs.declared.shard.Shard.{Shard}
use Rattle.rl_shard.specs.declared.seat.Seat.{Seat}
use Rattle.rl_shard.specs.Shards.{table_at, entries_at}
use Rattle.rl_shard.specs.Ends.{IsEnd, transcripts_of, history_of}
use Rattle.rl_report.specs.Lawful.{queues_at}
use Rattle.rl_report.proofs.QueueLaws.{under_queues}
use Rattle.rl_run.specs.declared.caller.Caller.{Caller}
use Rattle.rl_run.specs.laws.RowLaws.{ends_long}
use Rattle.rl_run.specs.Told.{told_of, IsClosedShard, IsRankDone, AreClosedShards}
use Rattle.rl_run.specs.Runs.{AreNew, HasRun, table_of, site_in, told, told_by, made_of, wanted}
use Rattle.rl_run.specs.laws.RunLaws.{wanted_at, wanted_long}

each_of : (P : Entry → Type 0) (t : List Entry) → ((i : ℕ) (e : Entry) → slice_get t i ≡ Some e → P e) → AllByRecursion P t
each_of P [] at = tt
each_of P (e ∷ t) at = (at 0 e refl, each_of P t (λ i f g. at (suc i) f g))

-- transcripts by rank
pub own_all : (shard r : ℕ) (ts : List (List Entry)) → ((i : ℕ) (t : List Entry) → slice_get ts i ≡ Some t → All (IsOwn shard (r + i)) t × IsInOrder t) → AreOwn r ts
own_all shard r [] own = tt
own_all shard r (t ∷ ts) own =
    let none : r + 0 ≡ r = omega arith in
    let here = own 0 t refl in (
      (each_of (λ e. e.rank ≡ r) t (λ i e g. (all_at (IsOwn shard (r + 0)) t i e here.0 g).rank_is ∙ none), here.1),
      own_all shard (r + 1) ts (λ i u g. let next : r + suc i ≡ r + 1 + i = omega arith in let q = own (suc i) u g in (subst (λ n. All (IsOwn shard n) u) next q.0, q.1)),
    )

module _ {C V : Type 0} (D : TheShape → ℕ → Knobs → Site → ShardTable V) (name : LockName) (says : C → CoreSays V)
    (has_queues : (shape : TheShape) (home : ℕ) (knobs : Knobs) (site : Site) → (D shape home knobs site).queues ≡ queues_of name shape home knobs)
    (spares : Bool → Bool) (has_tenures : (shape : TheShape) (home : ℕ) (knobs : Knobs) (site : Site) → (D shape home knobs site).tenure ≡ is_tenure (spares (readers_share name)))
    (place : ThePlace) (ops : Ops) (kind : name ≡ lock_under (name_of place.lock))
    (as_told : spares (readers_share name) ≡ spares_gets (name_of place.lock)) (proper : IsProper place) (fit : OpsFit (length place.paths) place.geom.shards ops)
    (long : length ops.sizes ≡ length ops.by_rank)
    (shards : List (Shard C V)) (rows : List (List (Seat C V))) (new : AreNew D says (table_of place ops) shards rows) (all : length shards ≡ place.geom.shards)
    (cs : List (Caller C V)) (made : map made_of cs ≡ wanted place.geom 0 ops.by_rank ops.sizes rows) (ends : List Closed) (run : HasRun says shards cs ends) where
  as_many : length cs ≡ length ops.by_rank
  as_many = sym (length-map cs made_of) ∙ ap length made ∙ wanted_long place.geom 0 ops.by_rank ops.sizes rows long new.ranks

  all_ends : length ends ≡ length shards
  all_ends = ends_long (IsEnd says) shards run.rows ends run.ended

  closed_shard : (s home : ℕ) (e : Closed) → slice_get place.homes s ≡ Some home → slice_get ends s ≡ Some e → IsClosedShard place home (told e)
  closed_shard s home e gh ge =
      let w = some_at shards s (let h = slice_get_within ends s e ge in let a = all_ends in omega arith) in
      let q = run.at s w.0 e w.1 ge in
      let E : IsEnd says w.0 q.0 e = q.1 in
      let n = new.each s w.0 w.1 in
      let T : ShardTable V = table_at says w.0 in
      let site : Site = site_in (table_of place ops) s in
      let geom : T.site.geom ≡ place.geom = ap (λ z. z.geom) n.site_is in
      let home_is : get_or place.homes s 0 ≡ home = get_or_from_slice_get place.homes s home 0 gh in
      let table_is : T ≡ D (shape_of place) home (knobs_of place.lock) site = n.table_is ∙ ap (λ h. D (shape_of place) h (knobs_of place.lock) site) home_is in
      let queues : T.queues ≡ queues_at place home =
      ap (λ z. z.queues) table_is ∙ has_queues (shape_of place) home (knobs_of place.lock) site ∙ ap (λ l. queues_of l (shape_of place) home (knobs_of place.lock)) kind
      ∙ under_queues (name_of place.lock) (shape_of place) home (knobs_of place.lock) in
      let tenure : T.tenure ≡ is_tenure (spares_gets (name_of place.lock)) = ap (λ z. z.tenure) table_is ∙ has_tenures (shape_of place) home (knobs_of place.lock) site ∙ ap is_tenure as_told in
      record {
        ranks = ap length E.transcripts_are ∙ length-map q.0 (entries_at says w.0) ∙ q.2 ∙ as_many ∙ fit.ranks_there;
        legal = subst (λ g. IsLegal g e.journal.items (transcripts_of e)) geom E.legal;
        own = own_all T.site.shard 0 (transcripts_of e) (λ i t g. let z : i ≡ 0 + i = omega arith in let o = E.own i t g in (subst (λ k. All (IsOwn T.site.shard k) t) z o.own, o.in_order));
        pairs_are = subst (λ g. e.pairs.items ≡ finite.entries (table_after g finite.empty e.journal.items)) geom E.pairs_are;
        tallied = subst (λ qs. AreTallied qs (spares_gets (name_of place.lock)) (history_of e) e.queues.items) queues (E.tallied (spares_gets (name_of place.lock)) tenure);
      }

  rank_done : (k : ℕ) → k < length ops.by_rank → IsRankDone place ops k (map told ends)
  rank_done k low =
      let c = some_at cs k (let a = as_many in omega arith) in
      let w = wanted_at place.geom 0 ops.by_rank ops.sizes rows k (made_of c.0) long new.ranks (ap (λ l. slice_get l k) (sym made) ∙ get_map made_of cs k c.0 c.1) in
      let first : 0 + k ≡ k = omega arith in
      let lists : map (told_of k) (map told ends) ≡ map (told_by k) ends = twice ends in
      let O : ℕ × List Call × List ℕ × Geom → Type 0 = λ z. IsRankInOrder z.3 k (asked_of z.1 z.2) (length z.1) (map (told_by k) ends) in
      record {
        order = subst (IsRankInOrder place.geom k (asked_of (get_or ops.by_rank k []) (get_or ops.sizes k [])) (length (get_or ops.by_rank k []))) (sym lists) (subst O w.0 (run.order k c.0 c.1));
        total = ap entries_in lists ∙ run.total k c.0 c.1 ∙ ap (λ (z : ℕ × List Call × List ℕ × Geom). length z.1) w.0;
      } where
        twice : (es : List Closed) → map (told_of k) (map told es) ≡ map (told_by k) es
        twice [] = refl
        twice (e ∷ es) = ap (λ z. told_by k e ∷ z) (twice es)

  pub closed_shards : AreClosedShards place ops (map told ends)
  closed_shards = record {
    all = length-map ends told ∙ all_ends ∙ all;
    shards = λ s home e gh ge. let q = get_map_back told ends s e ge in subst (IsClosedShard place home) q.2 (closed_shard s home q.0 gh q.1);
    ranks = rank_done;
  }
