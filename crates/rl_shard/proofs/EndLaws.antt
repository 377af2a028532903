-- What the rule tells once no block is open: the parts that a closed shard leaves are right.
use Rattle.std.proofs.Common.{◌≡◌, ◌<◌, ◌≤◌, ℕ, ◌+◌, ◌*◌, Bool, true, false, List, [], ◌∷◌, All, count_by, length, map, sum_by, get_or, slice_get, Some, sym, refl, ap, ◌∙◌, subst, ⊎_elim, arith}
use Rattle.std.specs.Prelude.{if◌then◌else◌}
use Rattle.std.proofs.lemmas.List.{length-map}
use Rattle.std.proofs.lemmas.List.Elements.{All-head, All-tail, All-nil, All-cons}
use Rattle.std.proofs.lemmas.List.Sums.{get_or-le-sum_by}
use Rattle.std.proofs.lemmas.Option.{slice_get_within, get_or_from_slice_get}
use Rattle.std.specs.Prelude.{suc}
use Rattle.rl_word.specs.laws.Places.{get_map_back}
use Rattle.rl_model.specs.Table.{sum_below}
use Rattle.rl_model.specs.declared.entry.Entry.{Entry}
use Rattle.rl_step.specs.declared.events.Event.{Event}
use Rattle.rl_step.specs.declared.tallies.Tally.{Tally}
use Rattle.rl_step.specs.Do.{TheWindow}
use Rattle.rl_step.specs.Queues.{QueueOf, settled, passed, tenures}
use Rattle.rl_journal.specs.Blocks.{is_tenure}
use Rattle.rl_journal.specs.Legal.{IsLegal}
use Rattle.rl_journal.specs.History.{history, IsSorted}
use Rattle.rl_journal.specs.laws.HistoryCounts.{same_entries}
use Rattle.rl_journal.specs.Ranks.{IsOwn}
use Rattle.rl_site.specs.Opens.{IsOwnTranscript}
use Rattle.rl_core.specs.Desks.{desk_entries}
use Rattle.rl_core.specs.Standings.{leaves}
use Rattle.rl_core.specs.ShardTables.{ShardTable, AllShut, journal_at, kept_in}
use Rattle.rl_core.specs.Moments.{Moment, CoreSays}
use Rattle.rl_core.specs.ShardLaws.{ShardCoreLaws, IsSeated}
use Rattle.rl_shard.specs.declared.counting.CountedView.{CountedView}
use Rattle.rl_shard.specs.Tallies.{full, tally_at}
use Rattle.rl_shard.specs.Queues.{is_had_by, settled_if, tenures_of, AreTallied}
use Rattle.rl_shard.specs.Reached.{IsLeftBehind}
use Rattle.rl_shard.specs.Counting.{whole_of, rooms_of, settled_by, passed_by, AnyFull, ComeTo, CountGood}
use Rattle.rl_shard.specs.laws.CountingLaws.{moment_of, seated}
use Rattle.rl_shard.specs.Closing.{entries_in, pairs_left}
use Rattle.rl_shard.proofs.Tenures.{only_if, sum_same, rank_tenures, element_tenures, had_all}

-- an exact count
exact : {V : Type 0} (f : CountedView V → ℕ) (vs : List (CountedView V)) (n : ℕ) → ComeTo f vs n → sum_by f vs < full → sum_by f vs ≡ n
exact f vs n come low =
    ⊎_elim
    (λ (w : AnyFull f vs).
    let most = get_or-le-sum_by f vs w.rank w.view (slice_get_within vs w.rank w.view w.has) in
    let here : f (get_or vs w.rank w.view) ≡ f w.view = ap f (get_or_from_slice_get vs w.rank w.view w.view w.has) in
    let high = w.is_full in
    absurd (omega arith))
    (λ (e : sum_by f vs ≡ n). e)
    come

own_ranks : (shard r : ℕ) (es : List Entry) → All (IsOwn shard r) es → All (λ e. e.rank ≡ r) es
own_ranks shard r [] own = All-nil (λ (e : Entry). e.rank ≡ r)
own_ranks shard r (e ∷ es) own = All-cons (λ (f : Entry). f.rank ≡ r) e es (All-head (IsOwn shard r) e es own).rank_is (own_ranks shard r es (All-tail (IsOwn shard r) e es own))

-- the entries of ranks whose desks the words tell as the views do
kept_same : {V : Type 0} (T : ShardTable V) (words : List ℕ) (from : ℕ) (vs : List (CountedView V)) → ((r : ℕ) (x : CountedView V) → slice_get vs r ≡ Some x → T.desk words (from + r) x.whole ≡ T.own x.whole) →
    kept_in T words from (map whole_of vs) ≡ map (entries_in T) vs
kept_same T words from [] same = refl
kept_same T words from (x ∷ vs) same =
    let here : from + 0 ≡ from = omega arith in
    let first : T.desk words from x.whole ≡ T.own x.whole = subst (λ n. T.desk words n x.whole ≡ T.own x.whole) here (same 0 x refl) in
    ap (λ d. desk_entries d ∷ kept_in T words (from + 1) (map whole_of vs)) first
    ∙ ap (λ z. entries_in T x ∷ z) (kept_same T words (from + 1) vs (λ r y e. let at : from + suc r ≡ (from + 1) + r = omega arith in subst (λ n. T.desk words n y.whole ≡ T.own y.whole) at (same (suc r) y e)))

-- the entries of ranks, by their views without tallies
entries_twice : {V : Type 0} (T : ShardTable V) (vs : List (CountedView V)) → map (entries_in T) vs ≡ map (λ v. desk_entries (T.own v)) (map whole_of vs)
entries_twice T [] = refl
entries_twice T (x ∷ vs) = ap (λ z. entries_in T x ∷ z) (entries_twice T vs)

module _ {V : Type 0} (S : CoreSays V) (laws : ShardCoreLaws S) (h : TheWindow) (vs : List (CountedView V)) (g : CountGood S h vs)
    (none : (r : ℕ) (x : CountedView V) → slice_get vs r ≡ Some x → (S.table.own x.whole).is_open ≡ false) where
  abbrev T : ShardTable V
  T = S.table

  -- the moment by which the state meets the rule
  abbrev now : Moment V
  now = moment_of S h vs g

  -- the journal, and a rank as the machine sees it
  abbrev the_journal : List Entry
  the_journal = journal_at T h.words

  seat_of : (r : ℕ) (x : CountedView V) → slice_get vs r ≡ Some x → IsSeated S now r x.whole
  seat_of r x has = seated S h vs r x g has

  -- the words tell each desk as its rank's view does
  as_told : kept_in T h.words 0 (map whole_of vs) ≡ map (entries_in T) vs
  as_told = kept_same T h.words 0 vs (λ r x has. let at : r ≡ 0 + r = omega arith in
      subst (λ n. T.desk h.words n x.whole ≡ T.own x.whole) at (laws.settled now r x.whole (seat_of r x has) (none r x has)))

  pub own_at : (r : ℕ) (t : List Entry) → slice_get (map (entries_in T) vs) r ≡ Some t → IsOwnTranscript T.site r t
  own_at r t e =
      let x = get_map_back (entries_in T) vs r t e in
      subst (IsOwnTranscript T.site r) x.2 (laws.own_desk now r x.0.whole (seat_of r x.0 x.1)).own

  pub legal_now : IsLegal T.site.geom the_journal (map (entries_in T) vs)
  legal_now = subst (IsLegal T.site.geom the_journal) as_told (laws.legal now g.is_good)

  pub sorted_now : IsSorted (history the_journal (map (entries_in T) vs))
  sorted_now = subst (λ ts. IsSorted (history the_journal ts)) as_told (laws.sorted now g.is_good)

  ranks_are : length vs ≡ length S.layout.node_of
  ranks_are = sym (length-map vs whole_of) ∙ laws.ranks now g.is_good

  all_shut : AllShut T (map whole_of vs)
  all_shut r v e = let x = get_map_back whole_of vs r v e in ap (λ z. (T.own z).is_open) (sym x.2) ∙ none r x.0 x.1

  module _ (tallies : List Tally)
      (settles : (q : ℕ) → q < length T.queues → ((tally_at q tallies).settled ≡ sum_by (settled_by q) vs) × (sum_by (settled_by q) vs < full))
      (passes : (q : ℕ) → q < length T.queues → ((tally_at q tallies).passed ≡ sum_by (passed_by q) vs) × (sum_by (passed_by q) vs < full)) where
    abbrev the_trace : List Event
    the_trace = g.trace

    settled_is : (q : ℕ) → q < length T.queues → (tally_at q tallies).settled ≡ settled q the_trace
    settled_is q low = let s = settles q low in s.0 ∙ exact (settled_by q) vs (settled q the_trace) (g.settled_are q low) s.1

    passed_is : (q : ℕ) → q < length T.queues → (tally_at q tallies).passed ≡ passed q the_trace
    passed_is q low = let s = passes q low in s.0 ∙ exact (passed_by q) vs (passed q the_trace) (g.passed_are q low) s.1

    -- the state of the rule is one that leaves this behind
    pub left_now : (journal : List Entry) (transcripts : List (List Entry)) (pairs : List (ℕ × ℕ)) → journal ≡ the_journal → transcripts ≡ map (entries_in T) vs →
        pairs ≡ pairs_left T h.words → IsLeftBehind T S.layout.nodes (rooms_of T vs) journal transcripts pairs tallies
    left_now journal transcripts pairs journal_is transcripts_are pairs_are =
        record {
          moment = now;
          reached = g.reached;
          closed = all_shut;
          journal_is = journal_is;
          transcripts_are = transcripts_are ∙ entries_twice T vs;
          pairs_are = pairs_are;
          settled_are = settled_is;
          passed_are = passed_is;
        }

    module _ (shares : Bool) (tenure : T.tenure ≡ is_tenure shares) (many : length tallies ≡ length T.queues) where
      -- a queue of ranks, by the history
      by_ranks : (q : ℕ) (d : QueueOf) → slice_get T.queues q ≡ Some d → d.of_ranks ≡ true → tenures d the_trace ≡ count_by (is_had_by d shares) (history the_journal (map (entries_in T) vs))
      by_ranks q d has ranks =
          let n : ℕ = length S.layout.node_of in
          let as_many : length (map (entries_in T) vs) ≡ n = length-map vs (entries_in T) ∙ ranks_are in
          rank_tenures d ranks n (λ k is. g.members.of_ranks q k d has ranks is) the_trace
          ∙ ap (sum_below (λ k. only_if (d.members k) (leaves k the_trace))) (sym as_many)
          ∙ sym (had_all d shares the_trace (map (entries_in T) vs) (λ k es e.
          let x = get_map_back (entries_in T) vs k es e in (
            own_ranks T.site.shard k es (own_at k es e).own,
            laws.left_as now k x.0.whole (seat_of k x.0 x.1) (none k x.0 x.1) ∙ ap (λ f. count_by f (entries_in T x.0)) tenure ∙ ap (count_by (is_tenure shares)) x.2,
          )))
          ∙ sym (same_entries (is_had_by d shares) T.site.geom the_journal (map (entries_in T) vs) legal_now)

      -- a queue of elements, by the settlements
      by_elements : (q : ℕ) (d : QueueOf) → slice_get T.queues q ≡ Some d → d.of_ranks ≡ false → tenures d the_trace ≡ sum_below (settled_if d.members tallies) (length tallies)
      by_elements q d has elements =
          let n : ℕ = length T.queues in
          element_tenures d elements n (λ k is. g.members.of_elements q k d has elements is) the_trace
          ∙ sum_same (λ k. only_if (d.members k) (settled k the_trace)) (settled_if d.members tallies) n (λ k low. ap (only_if (d.members k)) (sym (settled_is k low)))
          ∙ ap (sum_below (settled_if d.members tallies)) (sym many)

      tenures_is : (q : ℕ) (d : QueueOf) → slice_get T.queues q ≡ Some d → (b : Bool) → d.of_ranks ≡ b → tenures d the_trace ≡ tenures_of shares (history the_journal (map (entries_in T) vs)) tallies d
      tenures_is q d has true ranks =
          by_ranks q d has ranks
          ∙ ap (λ b. if b then count_by (is_had_by d shares) (history the_journal (map (entries_in T) vs)) else sum_below (settled_if d.members tallies) (length tallies)) (sym ranks)
      tenures_is q d has false elements =
          by_elements q d has elements
          ∙ ap (λ b. if b then count_by (is_had_by d shares) (history the_journal (map (entries_in T) vs)) else sum_below (settled_if d.members tallies) (length tallies)) (sym elements)

      pub tallied_now : AreTallied T.queues shares (history the_journal (map (entries_in T) vs)) tallies
      tallied_now =
          record {
            each = many;
            budgets = λ q budget d has is.
                let low : q < length T.queues = slice_get_within T.queues q d has in
                let within = (laws.queues now g.is_good).totals q budget d has is in
                subst (λ n. n ≤ budget * (tally_at q tallies).settled) (sym (passed_is q low)) (subst (λ n. passed q the_trace ≤ budget * n) (sym (settled_is q low)) within);
            tenures = λ q d has.
                let low : q < length T.queues = slice_get_within T.queues q d has in
                let s = settled_is q low in
                let p = passed_is q low in
                let counted = laws.counted now g.is_good all_shut q d has in
                let same : settled q the_trace + passed q the_trace ≡ (tally_at q tallies).settled + (tally_at q tallies).passed = omega arith in
                sym same ∙ counted ∙ tenures_is q d has d.of_ranks refl;
          }
