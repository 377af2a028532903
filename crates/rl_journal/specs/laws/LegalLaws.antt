-- One block more keeps a journal and its transcripts legal.
use Rattle.std.specs.Prelude.{◌≡◌, ◌≢◌, ℕ, suc, ◌+◌, ◌<◌, ◌≤◌, true, false, cond, List, [], ◌∷◌, ◌++◌, All, filter, length, get_or, slice_get, slice_set, Some, refl}
use Rattle.std.specs.FinMap as finite
use Rattle.std.proofs.Common.{sym, ◌∙◌, ap, subst, ⊎_elim, arith, length-set, length-append, append_assoc}
use Rattle.std.proofs.lemmas.List.{take-append-le, take_all, append-nil}
use Rattle.std.proofs.lemmas.List.Elements.{All-cons, All-nil, All-weaker, All-push, All-append, All-filter, filter-append}
use Rattle.std.proofs.lemmas.Bool.Decides.{nat_tests}
use Rattle.std.proofs.lemmas.Option.{slice_get-get_or}
use Rattle.rl_word.specs.laws.Places.{get_set_cases}
use Rattle.rl_model.specs.declared.entry.Entry.{Entry}
use Rattle.rl_model.specs.declared.geom.Geom.{Geom}
use Rattle.rl_model.specs.Table.{Table, apply}
use Rattle.rl_journal.specs.Blocks.{apply_block, calls_of, IsPart, AreParts, IsBlock}
use Rattle.rl_journal.specs.Legal.{table_after, map_at, updates, is_of, IsAnswered, IsLegalBlock, AreLegalFrom, blocks_joined, IsLegalJournal, Begins, IsLegalRead, IsLegal}
use Rattle.rl_journal.specs.Ranks.{Follows, IsInOrder}
use Rattle.rl_journal.specs.laws.Lists.{get_cases, get_more_cases, filter_all, filter_none, passed}
use Rattle.rl_journal.specs.laws.BlockLaws.{block_done, table_behind, legal_more, joined_more, part_at}

-- the table after a journal and one block more
pub table_more : (geom : Geom) (journal : List Entry) (b : List Entry) → IsLegalJournal geom journal → (rank batch seq at : ℕ) → IsBlock rank batch seq at b →
    table_after geom finite.empty (journal ++ b) ≡ (apply_block geom batch (calls_of b) (table_after geom finite.empty journal)).0
table_more geom journal b j rank batch seq at is =
    subst (λ z. table_after geom finite.empty (z ++ b) ≡ table_after geom (table_after geom finite.empty z) b) j.split
    (table_behind geom finite.empty 0 j.blocks b j.legal)
    ∙ block_done geom rank batch seq at (table_after geom finite.empty journal) b is

-- the table at a place that the journal already had
pub map_stays : (geom : Geom) (journal more : List Entry) (p : ℕ) → p ≤ length journal → map_at geom (journal ++ more) p ≡ map_at geom journal p
map_stays geom journal more p h = ap (table_after geom finite.empty) (take-append-le p journal more h)

-- at its end
pub map_end : (geom : Geom) (journal : List Entry) → map_at geom journal (length journal) ≡ table_after geom finite.empty journal
map_end geom journal = ap (table_after geom finite.empty) (take_all (length journal) journal (omega arith))

-- the block that an entry stands in
pub record IsIn (geom : Geom) (p : ℕ) (e : Entry) : Type 0 where
  pub table : Table
  pub first : ℕ
  pub block : List Entry
  pub legal : IsLegalBlock geom table first block
  pub behind : ℕ
  pub place : p ≡ first + behind
  pub there : slice_get block behind ≡ Some e

pub block_with : (geom : Geom) (t : Table) (n : ℕ) (bs : List (List Entry)) (p : ℕ) (e : Entry) → AreLegalFrom geom t n bs →
    slice_get (blocks_joined bs) p ≡ Some e → IsIn geom (n + p) e
block_with geom t n [] p e legal get = absurd (cc)
block_with geom t n (b ∷ bs) p e legal get =
    ⊎_elim
    (λ q. record { table = t; first = n; block = b; legal = legal.0; behind = p; place = refl; there = q.1 })
    (λ q. let more : n + length b + q.0 ≡ n + p = let e = q.1 in omega arith in
    subst (λ m. IsIn geom m e) more (block_with geom (table_after geom t b) (n + length b) bs q.0 e legal.1 q.2))
    (get_cases b (blocks_joined bs) p e get)

pub in_journal : (geom : Geom) (journal : List Entry) (p : ℕ) (e : Entry) → IsLegalJournal geom journal → slice_get journal p ≡ Some e → IsIn geom p e
in_journal geom journal p e j get = subst (λ n. IsIn geom n e) (omega arith)
    (block_with geom finite.empty 0 j.blocks p e j.legal (subst (λ z. slice_get z p ≡ Some e) (sym j.split) get))

-- the entry at place p of a journal is an update and has this place
pub record IsPlaced (p : ℕ) (e : Entry) : Type 0 where
  pub is_update : updates e ≡ true
  pub place : e.at ≡ p
  pub few : e.batch ≤ 8

pub placed : (geom : Geom) (journal : List Entry) → IsLegalJournal geom journal → (p : ℕ) (e : Entry) → slice_get journal p ≡ Some e → IsPlaced p e
placed geom journal j p e get =
    let q : IsIn geom p e = in_journal geom journal p e j get in
    let l : IsLegalBlock geom q.table q.first q.block = q.legal in
    let a : IsPart l.rank l.batch (l.seq + q.behind) (q.first + q.behind) (0 + q.behind) e =
    part_at l.rank l.batch l.seq q.first 0 q.block q.behind e l.is.parts q.there in
    record { is_update = a.is_update; place = a.place ∙ sym q.place; few = let same = a.batch_is in let low = l.is.few in omega arith }

-- what holds of each entry of a block holds of all
pub each_part : (P : Entry → Type 0) (b : List Entry) → ((i : ℕ) (e : Entry) → slice_get b i ≡ Some e → P e) → All P b
each_part P [] each = All-nil P
each_part P (e ∷ es) each = All-cons P e es (each 0 e refl) (each_part P es (λ i f get. each (suc i) f get))

module _ (geom : Geom) (journal : List Entry) where
  answered_stays : (more : List Entry) (e : Entry) → e.at ≤ length journal → IsAnswered geom journal e → IsAnswered geom (journal ++ more) e
  answered_stays more e h a = a ∙ ap (λ m. (apply geom e.call m).1) (sym (map_stays geom journal more e.at h))

  begins_stays : (b : List Entry) (rank batch seq at p : ℕ) → IsBlock rank batch seq at b → p ≤ length journal → Begins journal p → Begins (journal ++ b) p
  begins_stays b rank batch seq at p is low begins e get =
      ⊎_elim
      (λ q. begins e q.1)
      (λ q. let a : IsPart rank batch (seq + q.0) (at + q.0) (0 + q.0) e = part_at rank batch seq at 0 b q.0 e is.parts q.2 in
      let here = a.part_is in let behind = q.1 in omega arith)
      (get_cases journal b p e get)

  read_stays : (b : List Entry) (rank batch seq at : ℕ) → IsBlock rank batch seq at b → (e : Entry) → IsLegalRead geom journal e →
      IsLegalRead geom (journal ++ b) e
  read_stays b rank batch seq at is e r no_update =
      let q = r no_update in
      let low = q.0 in
      (omega (arith, length-append journal b), answered_stays b e q.0 q.1, begins_stays b rank batch seq at e.at is q.0 q.2)

  journal_more : (b : List Entry) → IsLegalJournal geom journal →
      IsLegalBlock geom (table_after geom finite.empty journal) (length journal) b → IsLegalJournal geom (journal ++ b)
  journal_more b j next =
      record {
        blocks = j.blocks ++ b ∷ [];
        split = joined_more j.blocks b ∙ ap (λ z. z ++ b) j.split;
        legal = legal_more geom finite.empty 0 j.blocks b j.legal
            (subst (λ m. IsLegalBlock geom (table_after geom finite.empty (blocks_joined j.blocks)) m b) (omega arith)
            (subst (λ z. IsLegalBlock geom (table_after geom finite.empty z) (length z) b) (sym j.split) next));
      }

  -- the tables are those of the journal, and so is every update's place in it
  module _ (ts : List (List Entry)) (legal : IsLegal geom journal ts) (r : ℕ) (t : List Entry) (has : slice_get ts r ≡ Some t) where
    -- a block of updates more
    pub legal_update : (b : List Entry) (next : IsLegalBlock geom (table_after geom finite.empty journal) (length journal) b) → next.rank ≡ r → r < length ts →
        IsLegal geom (journal ++ b) (slice_set ts r (t ++ b))
    legal_update b next mine there =
        let long : length (slice_set ts r (t ++ b)) ≡ length ts = length-set ts r (t ++ b) in
        let part : (i : ℕ) (e : Entry) → slice_get b i ≡ Some e → IsPart next.rank next.batch (next.seq + i) (length journal + i)
        (0 + i) e = λ i e get. part_at next.rank next.batch next.seq (length journal) 0 b i e next.is.parts get in
        let stays : (e : Entry) → IsLegalRead geom journal e → IsLegalRead geom (journal ++ b) e =
        read_stays b next.rank next.batch next.seq (length journal) next.is in
        record {
          journal_is = journal_more b legal.journal_is next;
          reads_are = λ k u get.
              ⊎_elim
              (λ q. subst (All (IsLegalRead geom (journal ++ b))) (sym q.1)
              (All-append (IsLegalRead geom (journal ++ b)) t b
              (All-weaker (IsLegalRead geom journal) (IsLegalRead geom (journal ++ b)) stays t (legal.reads_are r t has))
              (each_part (IsLegalRead geom (journal ++ b)) b (λ i e there no_update. let yes = (part i e there).is_update in absurd (cc)))))
              (λ q. All-weaker (IsLegalRead geom journal) (IsLegalRead geom (journal ++ b)) stays u (legal.reads_are k u q.1))
              (get_set_cases ts r k (t ++ b) u get);
          ranks_are = subst (λ n. All (λ f. f.rank < n) (journal ++ b)) (sym long)
              (All-append (λ f. f.rank < length ts) journal b legal.ranks_are
              (each_part (λ f. f.rank < length ts) b (λ i e here. let is = (part i e here).rank_is in omega arith)));
          updates_are = λ k u get.
              ⊎_elim
              (λ q.
              let ups : filter updates b ≡ b = filter_all updates b (λ i e here. (part i e here).is_update) in
              let hits : filter (is_of r) b ≡ b = filter_all (is_of r) b (λ i e here. let is = (part i e here).rank_is in
              let same : e.rank ≡ r = omega arith in grind (arith, nat_tests)) in
              ap (filter updates) q.1 ∙ filter-append updates t b ∙ ap (λ z. z ++ filter updates b) (legal.updates_are r t has)
              ∙ ap (λ z. filter (is_of r) journal ++ z) (ups ∙ sym hits) ∙ sym (filter-append (is_of r) journal b)
              ∙ ap (λ z. filter (is_of z) (journal ++ b)) (sym q.0))
              (λ q.
              let other : k ≢ r = q.0 in
              let misses : filter (is_of k) b ≡ [] = filter_none (is_of k) b (λ i e here. let is = (part i e here).rank_is in
              let same : e.rank ≡ r = omega arith in grind (arith, nat_tests)) in
              legal.updates_are k u q.1 ∙ sym (append-nil (filter (is_of k) journal)) ∙ ap (λ z. filter (is_of k) journal ++ z) (sym misses)
              ∙ sym (filter-append (is_of k) journal b))
              (get_set_cases ts r k (t ++ b) u get);
        }

    -- an entry more that is no update
    pub legal_read : (e : Entry) → updates e ≡ false → e.at ≤ length journal → IsAnswered geom journal e → Begins journal e.at →
        IsLegal geom journal (slice_set ts r (t ++ e ∷ []))
    legal_read e is low answered begins =
        let long : length (slice_set ts r (t ++ e ∷ [])) ≡ length ts = length-set ts r (t ++ e ∷ []) in
        record {
          journal_is = legal.journal_is;
          reads_are = λ k u get.
              ⊎_elim
              (λ q. subst (All (IsLegalRead geom journal)) (sym q.1)
              (All-push (IsLegalRead geom journal) t e (legal.reads_are r t has) (λ _. (low, answered, begins))))
              (λ q. legal.reads_are k u q.1)
              (get_set_cases ts r k (t ++ e ∷ []) u get);
          ranks_are = subst (λ n. All (λ f. f.rank < n) journal) (sym long) legal.ranks_are;
          updates_are = λ k u get.
              ⊎_elim
              (λ q. ap (filter updates) q.1 ∙ filter-append updates t (e ∷ []) ∙ ap (λ b. filter updates t ++ cond b (e ∷ []) []) is
              ∙ append-nil (filter updates t) ∙ legal.updates_are r t has
              ∙ ap (λ z. filter (is_of z) journal) (sym q.0))
              (λ q. legal.updates_are k u q.1)
              (get_set_cases ts r k (t ++ e ∷ []) u get);
        }

-- an entry more in a transcript
pub in_order_more : (t : List Entry) (f : Entry) → IsInOrder t → ((i : ℕ) (e : Entry) → slice_get t i ≡ Some e → Follows e f) → IsInOrder (t ++ f ∷ [])
in_order_more t f order follows i d e first second =
    ⊎_elim
    (λ p. ⊎_elim
    (λ q. order i d e p.1 q.1)
    (λ q. subst (Follows d) q.1 (follows i d p.1))
    (get_more_cases t f (suc i) e second))
    (λ p. ⊎_elim
    (λ q. let low = q.0 in let same = p.0 in absurd (omega arith))
    (λ q. let low = q.0 in let same = p.0 in absurd (omega arith))
    (get_more_cases t f (suc i) e second))
    (get_more_cases t f i d first)

-- every entry of a transcript stands before an update with this number and this place
pub record IsBefore (seq at : ℕ) (e : Entry) : Type 0 where
  pub number : e.seq < seq
  pub low : e.at ≤ at
  pub beyond : updates e ≡ true → e.at < at

pub before_follows : (seq at : ℕ) (d e : Entry) → IsBefore seq at d → e.seq ≡ seq → e.at ≡ at → Follows d e
before_follows seq at d e b same place = record {
  later = let h = b.number in omega arith;
  place = let h = b.low in omega arith;
  beyond =
      λ yes. let h = b.beyond yes in omega arith;
}

-- a block more in a transcript
pub in_order_block : (rank batch seq at part : ℕ) (t b : List Entry) → IsInOrder t →
    ((i : ℕ) (d : Entry) → slice_get t i ≡ Some d → IsBefore seq at d) → AreParts rank batch seq at part b → IsInOrder (t ++ b)
in_order_block rank batch seq at part t [] order before parts = subst IsInOrder (sym (append-nil t)) order
in_order_block rank batch seq at part t (e ∷ es) order before parts =
    let a : IsPart rank batch seq at part e = parts.0 in
    subst IsInOrder (append_assoc t (e ∷ []) es)
    (in_order_block rank batch (seq + 1) (at + 1) (part + 1) (t ++ e ∷ []) es
    (in_order_more t e order (λ i d get. before_follows seq at d e (before i d get) a.seq_is a.place))
    (λ i d get. ⊎_elim
    (λ q. let b : IsBefore seq at d = before i d q.1 in record {
      number = let h = b.number in omega arith;
      low = let h = b.low in
          omega arith;
      beyond = λ yes. let h = b.beyond yes in omega arith;
    })
    (λ q. subst (IsBefore (seq + 1) (at + 1)) q.1
    (record {
      number = let h = a.seq_is in omega arith;
      low = let h = a.place in omega arith;
      beyond = λ yes. let h = a.place in
          omega arith;
    }))
    (get_more_cases t e i d get))
    parts.1)

-- the entries of a journal have places in it
places_within : (geom : Geom) (journal : List Entry) → IsLegalJournal geom journal → All (λ e. e.at < length journal) journal
places_within geom journal legal k d h =
    let l : IsPlaced k (get_or journal k d) = placed geom journal legal k (get_or journal k d) (slice_get-get_or journal k d h) in
    let same : (get_or journal k d).at ≡ k = l.place in
    omega arith

-- each entry of a transcript looked at a count that the journal had, and an update has a place in it
pub record IsMarked (journal : List Entry) (e : Entry) : Type 0 where
  pub low : e.at ≤ length journal
  pub within : updates e ≡ true → e.at < length journal

pub marked : (geom : Geom) (journal : List Entry) (ts : List (List Entry)) → IsLegal geom journal ts → (r : ℕ) (t : List Entry) →
    slice_get ts r ≡ Some t → All (IsMarked journal) t
marked geom journal ts legal r t has k d h =
    let e : Entry = get_or t k d in
    let inside : All (λ f. updates f ≡ true → f.at < length journal) t =
    passed updates (λ f. f.at < length journal) t
    (subst (All (λ f. f.at < length journal)) (sym (legal.updates_are r t has))
    (All-filter (is_of r) (λ f. f.at < length journal) journal (places_within geom journal legal.journal_is))) in
    let read : IsLegalRead geom journal e = legal.reads_are r t has k d h in
    record {
      low = elim (updates e) as (λ b. updates e ≡ b → e.at ≤ length journal)
          [ true ↦ λ yes. let l = inside k d h yes in omega arith | false ↦ λ is. (read is).0 ] refl;
      within = inside k d h;
    }
