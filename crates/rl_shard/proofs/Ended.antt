-- A closed shard's parts are what is promised of them.
use Rattle.std.proofs.Common.{◌≡◌, ◌<◌, ℕ, List, [], ◌∷◌, length, map, sum_by, slice_get, sym, refl, ap, ◌∙◌, subst, arith}
use Rattle.std.specs.FinMap as finite
use Rattle.std.proofs.lemmas.List.Sums.{sum_by-cons}
use Rattle.rl_word.specs.laws.Places.{get_map, get_map_back, some_at}
use Rattle.rl_step.specs.Do.{TheWindow}
use Rattle.rl_journal.specs.Legal.{IsLegal, table_after}
use Rattle.rl_journal.specs.History.{history, IsSorted}
use Rattle.rl_journal.specs.laws.HistoryLaws.{replayed}
use Rattle.rl_core.specs.ShardTables.{ShardTable, journal_at}
use Rattle.rl_core.specs.Moments.{CoreSays}
use Rattle.rl_core.specs.ShardLaws.{LawsOf}
use Rattle.rl_shard.specs.declared.shard.Shard.{Shard}
use Rattle.rl_shard.specs.declared.seat.Seat.{Seat}
use Rattle.rl_shard.specs.declared.closed.Closed.{Closed}
use Rattle.rl_shard.specs.declared.counting.Counting.{Counting}
use Rattle.rl_shard.specs.declared.counting.CountedView.{CountedView}
use Rattle.rl_shard.specs.Tallies.{full, tally_at}
use Rattle.rl_shard.specs.Queues.{AreTallied}
use Rattle.rl_shard.specs.Reached.{IsLeftBehind}
use Rattle.rl_shard.specs.Counting.{whole_of, rooms_of, settled_by, passed_by, counting_rule}
use Rattle.rl_shard.specs.laws.CountingLaws.{moment_of}
use Rattle.rl_shard.specs.Shards.{AreClosed, core_at, says_at, table_at, counting_at, counted_at, desk_at, entries_at, tallies_at}
use Rattle.rl_shard.specs.Ends.{IsEnd, transcripts_of, history_of, rooms_at, all_settled, all_passed}
use Rattle.rl_shard.specs.Closing.{entries_in, IsLeft, AreTotals, AreAllTotals, pairs_left}
use Rattle.rl_shard.proofs.EndLaws.{own_at, legal_now, sorted_now, left_now, tallied_now}
use Rattle.rl_shard.proofs.SeatLists.{views_closed}

module _ {C V : Type 0} where
  sums_settled : (q : ℕ) (seats : List (Seat C V)) → sum_by (settled_by q) (map counted_at seats) ≡ all_settled q seats
  sums_settled q [] = refl
  sums_settled q (s ∷ seats) =
      let f : Seat C V → ℕ = λ z. (tally_at q (tallies_at z)).settled in
      sum_by-cons (settled_by q) (counted_at s) (map counted_at seats) ∙ (omega (arith, sums_settled q seats, sum_by-cons f s seats))

  sums_passed : (q : ℕ) (seats : List (Seat C V)) → sum_by (passed_by q) (map counted_at seats) ≡ all_passed q seats
  sums_passed q [] = refl
  sums_passed q (s ∷ seats) =
      let f : Seat C V → ℕ = λ z. (tally_at q (tallies_at z)).passed in
      sum_by-cons (passed_by q) (counted_at s) (map counted_at seats) ∙ (omega (arith, sums_passed q seats, sum_by-cons f s seats))

  seat_entries : (says : C → CoreSays V) (shard : Shard C V) (seats : List (Seat C V)) → map (entries_in (table_at says shard)) (map counted_at seats) ≡ map (entries_at says shard) seats
  seat_entries says shard [] = refl
  seat_entries says shard (s ∷ seats) = ap (λ z. entries_at says shard s ∷ z) (seat_entries says shard seats)

  seat_rooms : (says : C → CoreSays V) (shard : Shard C V) (seats : List (Seat C V)) → rooms_of (table_at says shard) (map counted_at seats) ≡ rooms_at says shard seats
  seat_rooms says shard [] = refl
  seat_rooms says shard (s ∷ seats) = ap (λ z. (desk_at says shard s).kept.room ∷ z) (seat_rooms says shard seats)

module _ {C V : Type 0} (says : C → CoreSays V) (laws : LawsOf says) (shard : Shard C V) (seats : List (Seat C V)) (closed : AreClosed says shard seats) (words cards : List ℕ) (views : List (CountedView V))
    (rule : counting_rule says (counting_at shard) (record { words = words; cards = cards }) views) (is : views ≡ map counted_at seats) where
  abbrev S : CoreSays V
  S = says_at says shard

  abbrev T : ShardTable V
  T = S.table

  abbrev held : TheWindow
  held = record { words = words; cards = cards }

  -- the words are those of a window on which no block is open
  pub is_left : (k : Counting C V) → k ≡ counting_at shard → IsLeft (says k.whole) words
  is_left k e =
      subst (λ (c : Counting C V). IsLeft (says c.whole) words) (sym e)
      (record {
        moment = moment_of S held views rule;
        words_are = refl;
        is_good = rule.is_good;
        closed = λ r x has.
            let q = get_map_back whole_of views r x has in
            ap (λ z. (T.own z).is_open) (sym q.2) ∙ views_closed says shard seats views is closed r q.0 q.1;
      })

  pub is_end : (e : Closed) → e.journal.items ≡ journal_at T words → e.pairs.items ≡ pairs_left T words → transcripts_of e ≡ map (entries_in T) views →
      AreAllTotals seats e.queues.items → 0 < length seats → IsEnd says shard seats e
  is_end e journal pairs transcripts sums some =
      let first = some_at seats 0 some in
      let each : length (tallies_at first.0) ≡ length T.queues = rule.each 0 (counted_at first.0) (ap (λ l. slice_get l 0) is ∙ get_map counted_at seats 0 first.0 first.1) in
      let totals : AreTotals seats (length T.queues) e.queues.items = subst (λ n. AreTotals seats n e.queues.items) each (sums first.0 first.1) in
      let settles : (q : ℕ) → all_settled q seats ≡ sum_by (settled_by q) views = λ q. sym (ap (sum_by (settled_by q)) is ∙ sums_settled q seats) in
      let passes : (q : ℕ) → all_passed q seats ≡ sum_by (passed_by q) views = λ q. sym (ap (sum_by (passed_by q)) is ∙ sums_passed q seats) in
      let shut = views_closed says shard seats views is closed in
      let legal : IsLegal T.site.geom e.journal.items (transcripts_of e) =
      subst (λ j. IsLegal T.site.geom j (transcripts_of e)) (sym journal)
      (subst (IsLegal T.site.geom (journal_at T words)) (sym transcripts) (legal_now S (laws (core_at shard)) held views rule shut)) in
      let past : history_of e ≡ history (journal_at T words) (map (entries_in T) views) = ap (λ j. history j (transcripts_of e)) journal ∙ ap (history (journal_at T words)) transcripts in
      let settled : (q : ℕ) → q < length T.queues → ((tally_at q e.queues.items).settled ≡ sum_by (settled_by q) views) × (sum_by (settled_by q) views < full) =
      λ q low. let t = totals.settled_are q low in (t.0 ∙ settles q, subst (λ n. n < full) (settles q) t.1) in
      let passed : (q : ℕ) → q < length T.queues → ((tally_at q e.queues.items).passed ≡ sum_by (passed_by q) views) × (sum_by (passed_by q) views < full) =
      λ q low. let t = totals.passed_are q low in (t.0 ∙ passes q, subst (λ n. n < full) (passes q) t.1) in
      record {
        left_behind = subst (λ rooms. IsLeftBehind T S.layout.nodes rooms e.journal.items (transcripts_of e) e.pairs.items e.queues.items) (ap (rooms_of T) is ∙ seat_rooms says shard seats)
            (left_now S (laws (core_at shard)) held views rule shut e.queues.items settled passed e.journal.items (transcripts_of e) e.pairs.items journal transcripts pairs);
        transcripts_are = transcripts ∙ ap (map (entries_in T)) is ∙ seat_entries says shard seats;
        own = λ r t has. own_at S (laws (core_at shard)) held views rule shut r t (ap (λ l. slice_get l r) (sym transcripts) ∙ has);
        legal = legal;
        replayed = replayed T.site.geom e.journal.items (transcripts_of e) legal;
        sorted = subst IsSorted (sym past) (sorted_now S (laws (core_at shard)) held views rule shut);
        pairs_are = pairs ∙ ap (λ j. finite.entries (table_after T.site.geom finite.empty j)) (sym journal);
        settled_are = λ q low. (totals.settled_are q (let n = totals.each in omega arith)).0;
        passed_are = λ q low. (totals.passed_are q (let n = totals.each in omega arith)).0;
        tallied = λ shares tenure. subst (λ es. AreTallied T.queues shares es e.queues.items) (sym past)
            (tallied_now S (laws (core_at shard)) held views rule shut e.queues.items settled passed shares tenure totals.each);
      }
