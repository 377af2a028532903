-- While a rank's block is open, the journal has places for it.
use Rattle.std.specs.Prelude.{◌≡◌, ℕ, zero, suc, ◌+◌, ◌<◌, ◌≤◌, true, false, cond, List, [], ◌∷◌, All, length, count_by, sum, slice_get, slice_index, Some, refl}
use Rattle.std.proofs.Common.{sym, ◌∙◌, ap, subst, arith, ltb}
use Rattle.std.proofs.lemmas.List.{length-map}
use Rattle.std.proofs.lemmas.List.Elements.{All-head, All-tail}
use Rattle.std.proofs.lemmas.List.Sums.{length-filter, sum_by-cons}
use Rattle.std.proofs.lemmas.Bool.Decides.{nat_tests}
use Rattle.std.proofs.lemmas.Option.{slice_get_within}
use Rattle.rl_word.specs.laws.Places.{get_map, some_at}
use Rattle.rl_model.specs.Table.{sum_below}
use Rattle.rl_model.specs.declared.entry.Entry.{Entry}
use Rattle.rl_model.specs.Asked.{asks_update}
use Rattle.rl_journal.specs.Legal.{updates, is_of}
use Rattle.rl_site.specs.Site.{Site, places}
use Rattle.rl_site.specs.Opens.{places_needed}
use Rattle.rl_work.specs.WorkGood.{WorkSide, transcript_of, HasOpen, WorkGood}
use Rattle.rl_model.proofs.Counts.{sum_of_counts, count-cons}

-- the sum of a list is that of its elements by number
sum_front : (f : ℕ → ℕ) (n : ℕ) → sum_below f (suc n) ≡ f 0 + sum_below (λ k. f (suc k)) n
sum_front f zero = omega arith
sum_front f (suc n) = omega (arith, sum_front f n)

sum_is : (xs : List ℕ) → sum_below (slice_index xs) (length xs) ≡ sum xs
sum_is [] = refl
sum_is (x ∷ xs) = omega (arith, sum_front (slice_index (x ∷ xs)) (length xs), sum_is xs, sum_by-cons (λ (y : ℕ). y) x xs)

sum_at_most : (f g : ℕ → ℕ) (n : ℕ) → ((k : ℕ) → k < n → f k ≤ g k) → sum_below f n ≤ sum_below g n
sum_at_most f g zero le = omega arith
sum_at_most f g (suc n) le = omega (arith, sum_at_most f g n (λ k h. le k (omega arith)), le n (omega arith))

-- where one of them leaves so much
sum_less : (f g : ℕ → ℕ) (n r m : ℕ) → ((k : ℕ) → k < n → f k ≤ g k) → r < n → f r + m ≤ g r → sum_below f n + m ≤ sum_below g n
sum_less f g zero r m le there lt = absurd (omega arith)
sum_less f g (suc n) r m le there lt =
    elim (ltb r n) as (λ b. ltb r n ≡ b → sum_below f (suc n) + m ≤ sum_below g (suc n)) [
      | true ↦ λ e. let low : r < n = grind (arith, nat_tests) in omega (arith, sum_less f g n r m (λ k h. le k (omega arith)) low lt, le n (omega arith))
      | false ↦ λ e.
          let same : r ≡ n = grind (arith, nat_tests) in
          let here : f n + m ≤ g n = subst (λ z. f z + m ≤ g z) same lt in
          omega (arith, sum_at_most f g n (λ k h. le k (omega arith)))
    ] refl

-- all entries are of ranks that are there
all_below : (n : ℕ) (es : List Entry) → All (λ e. e.rank < n) es → count_by (λ e. ltb e.rank n) es ≡ length es
all_below n [] all = refl
all_below n (e ∷ es) all =
    let low : e.rank < n = All-head (λ f. f.rank < n) e es all in
    let hit : ltb e.rank n ≡ true = grind (arith, nat_tests) in
    let one_is : ◌≡◌ {A = ℕ} (cond (ltb e.rank n) 1 0) 1 = ap (λ b. cond {A = ℕ} b 1 0) hit in
    omega (arith, count-cons (λ (f : Entry). ltb f.rank n) e es, all_below n es (All-tail (λ f. f.rank < n) e es all))

module _ (site : Site) (words : List ℕ) (sides : List WorkSide) (g : WorkGood site words sides) where
  -- a rank's updates in the journal are those of its transcript
  made_by : (k : ℕ) (u : WorkSide) → slice_get sides k ≡ Some u → count_by (is_of k) g.journal ≡ count_by updates u.work.transcript.items
  made_by k u get =
      let t : List Entry = u.work.transcript.items in
      sym (length-filter (is_of k) g.journal) ∙ ap length (sym (g.legal.updates_are k t (get_map transcript_of sides k u get))) ∙ length-filter updates t

  -- they have room
  few_made : (k : ℕ) → k < length site.rooms → count_by (is_of k) g.journal ≤ slice_index site.rooms k
  few_made k h =
      let there : k < length sides = let e = g.ranks in omega arith in
      let u = some_at sides k there in
      let p = (g.own k u.0 u.1).place in
      omega (arith, made_by k u.0 u.1)

  all_ranks : All (λ e. e.rank < length site.rooms) g.journal
  all_ranks = subst (λ m. All (λ e. e.rank < m) g.journal) (length-map sides transcript_of ∙ g.ranks) g.legal.ranks_are

  pub place_left : (r : ℕ) (x : WorkSide) → slice_get sides r ≡ Some x → HasOpen site r x.work → asks_update x.work.calls ≡ true →
      length g.journal + length x.work.calls ≤ places site
  place_left r x has o is =
      let n : ℕ = length site.rooms in
      let there : r < n = let h = slice_get_within sides r x has in let e = g.ranks in omega arith in
      let f : ℕ → ℕ = λ k. count_by (is_of k) g.journal in
      let m : ℕ = length x.work.calls in
      let fewer : f r + m ≤ slice_index site.rooms r = let p = o.place in
      let yes : places_needed (asks_update x.work.calls) m ≡ m = ap (λ b. places_needed b m) is in omega (arith, made_by r x has) in
      omega (
        arith,
        sum_less f (slice_index site.rooms) n r m few_made there fewer,
        sum_is site.rooms,
        sum_of_counts (λ (e : Entry). e.rank)
            n g.journal,
        all_below n g.journal all_ranks,
      )

  -- the journal is never longer than its places
  pub journal_short : length g.journal ≤ places site
  journal_short =
      let n : ℕ = length site.rooms in
      let f : ℕ → ℕ = λ k. count_by (is_of k) g.journal in
      omega (
        arith,
        sum_at_most f (slice_index site.rooms) n few_made,
        sum_is site.rooms,
        sum_of_counts (λ (e : Entry). e.rank) n g.journal,
        all_below n g.journal all_ranks,
      )
