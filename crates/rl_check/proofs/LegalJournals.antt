-- The tests of a shard say that its journal is legal.
use Rattle.std.proofs.Common.{◌≡◌, ℕ, zero, suc, ◌+◌, ◌-◌, ◌<◌, ◌≤◌, Bool, true, false, not, cond, List, [], ◌∷◌, ◌++◌, length, take, drop, Some, refl, sym, ap, subst, ◌∙◌, ⊎_elim, arith}
use Rattle.std.specs.Prelude.{slice_get, nat_lt}
use Rattle.std.specs.List.{count_by}
use Rattle.std.specs.FinMap as finite
use Rattle.std.proofs.lemmas.Bool.Decides.{nat_tests}
use Rattle.std.proofs.lemmas.List.{drop-drop, drop_all, take-append-drop, length-map}
use Rattle.std.proofs.lemmas.List.Elements.{filter-append}
use Rattle.std.proofs.lemmas.Option.{same_Some, slice_get_within}
use Rattle.rl_word.specs.laws.Places.{some_at, get_map}
use Rattle.rl_model.specs.declared.call.Call.{Call}
use Rattle.rl_model.specs.declared.entry.Entry.{Entry}
use Rattle.rl_model.specs.Table.{Table, apply}
use Rattle.rl_journal.specs.Blocks.{apply_block, apply_batch, calls_of, replies_of, half_after, is_last, IsPart, AreParts, IsBlock}
use Rattle.rl_journal.specs.laws.BlockLaws.{block_done}
use Rattle.rl_journal.specs.Legal.{updates, table_after, blocks_joined, IsLegalBlock, AreLegalFrom, IsLegalJournal}
use Rattle.rl_journal.specs.laws.Lists.{filter_all}
use Rattle.rl_place.specs.Places.{ThePlace}
use Rattle.rl_report.specs.Naming.{naming_of}
use Rattle.rl_report.specs.Reports.{TheShard, PartFits, ShardFits}
use Rattle.rl_report.specs.Lawful.{journal_among}
use Rattle.rl_check.specs.Entries.{before, updates_before, table_before, GoesOnInBatch, IsFirstOfBlock, MayFollow, IsWholeBatch, EntryIsAnswered}
use Rattle.rl_check.specs.OneThread.{is_begun}
use Rattle.rl_check.specs.Shards.{shard_tests}
use Rattle.rl_check.proofs.Places.{below_next, take_more, in_stretch, length_stretch}
use Rattle.rl_check.proofs.BatchLaws.{is_the_last, not_last}
use Rattle.rl_check.proofs.TableLaws.{after_call, after_batch, read_leaves, batch_long, sized}
use Rattle.rl_check.proofs.LegalShards.{up_one, in_batch, answered, at_is, entry_fits, begins_here, first_part, up_none}

-- ---- lists

drop_none : {X : Type 0} (xs : List X) → drop 0 xs ≡ xs
drop_none [] = refl
drop_none (x ∷ xs) = refl

take_none : {X : Type 0} (xs : List X) → take 0 xs ≡ []
take_none [] = refl
take_none (x ∷ xs) = refl

drop_here : {X : Type 0} (xs : List X) (i : ℕ) (x : X) → slice_get xs i ≡ Some x → drop i xs ≡ x ∷ drop (suc i) xs
drop_here [] i x get = absurd (cc)
drop_here (y ∷ ys) zero x get = ap (λ z. z ∷ ys) (same_Some _ _ get) ∙ ap (λ z. x ∷ z) (sym (drop_none ys))
drop_here (y ∷ ys) (suc i) x get = drop_here ys i x get

pub same_lists : {X : Type 0} (xs ys : List X) → length xs ≡ length ys → ((k : ℕ) (x : X) → slice_get xs k ≡ Some x → slice_get ys k ≡ Some x) → xs ≡ ys
same_lists [] [] long at = refl
same_lists [] (y ∷ ys) long at = absurd (omega arith)
same_lists (x ∷ xs) [] long at = absurd (omega arith)
same_lists (x ∷ xs) (y ∷ ys) long at = ap (λ z. z ∷ xs) (sym (same_Some _ _ (at 0 x refl))) ∙ ap (λ zs. y ∷ zs) (same_lists xs ys (omega arith) (λ k z get. at (suc k) z get))

parts_from : (rank batch seq at part : ℕ) (b : List Entry) → ((j : ℕ) (d : Entry) → slice_get b j ≡ Some d → IsPart rank batch (seq + j) (at + j) (part + j) d) → AreParts rank batch seq at part b
parts_from rank batch seq at part [] each = tt
parts_from rank batch seq at part (d ∷ ds) each =
    let p = each 0 d refl in (
      record { is_update = p.is_update; rank_is = p.rank_is; batch_is = p.batch_is; seq_is = p.seq_is ∙ omega arith; place = p.place ∙ omega arith; part_is = p.part_is ∙ omega arith },
      parts_from rank batch (seq + 1) (at + 1) (part + 1) ds (λ j f get.
          let q = each (suc j) f get in
          record { is_update = q.is_update; rank_is = q.rank_is; batch_is = q.batch_is; seq_is = q.seq_is ∙ omega arith; place = q.place ∙ omega arith; part_is = q.part_is ∙ omega arith }),
    )

module _ (place : ThePlace) (replay : Bool) (s home : ℕ) (S : TheShard) (fit : ShardFits (naming_of place) replay s S)
    (T : (shard_tests place replay s home S).pass) where
  abbrev es : List Entry
  es = S.entries

  abbrev up : ℕ → ℕ
  up i = updates_before es i

  abbrev state : ℕ → Table × List Call
  state i = half_after place.geom finite.empty [] (journal_among (take i es))

  part_fits : (p : ℕ) (e : Entry) → slice_get es p ≡ Some e → PartFits e.batch e.part
  part_fits p e get = (entry_fits place replay s home S fit T p e get).part

  goes_on_from : (p : ℕ) (d f : Entry) → slice_get es p ≡ Some d → slice_get es (suc p) ≡ Some f → is_last d ≡ false → GoesOnInBatch d f
  goes_on_from p d f gd gf more = (subst (λ o. MayFollow o f) gd (in_batch place replay s home S fit T (suc p) f gf)).1 more

  -- ---- a batch that begins

  module _ (i : ℕ) (e : Entry) (get : slice_get es i ≡ Some e) (begins : IsFirstOfBlock e) (two : 2 ≤ e.batch) where
    is_update : updates e ≡ true
    is_update = ⊎_elim (λ z. absurd (omega arith)) (λ q. q.0) begins

    -- the entry at its place k
    record Link (k : ℕ) (d : Entry) : Type 0 where
      there : slice_get es (i + k) ≡ Some d
      part_is : d.part ≡ k
      batch_is : d.batch ≡ e.batch
      rank_is : d.rank ≡ e.rank
      seq_is : d.seq ≡ e.seq + k
      hit : updates d ≡ true
      count : up (i + k) ≡ up i + k

    chain : (k : ℕ) → k < e.batch → (d : Entry) × Link k d
    chain zero low = (
      e,
      record {
        there = let at : i ≡ i + 0 = omega arith in ap (slice_get es) (sym at) ∙ get;
        part_is = first_part place replay s home S fit T e begins (part_fits i e get);
        batch_is = refl;
        rank_is = refl;
        seq_is = omega arith;
        hit = is_update;
        count = let at : i + 0 ≡ i = omega arith in ap (λ z. up z) at ∙ omega arith;
      },
    )
    chain (suc k) low =
        let d = chain k (omega arith) in
        let more : is_last d.0 ≡ false = not_last d.0 (let x = d.1.part_is in let y = d.1.batch_is in omega arith) in
        let within = slice_get_within es (i + k) d.0 d.1.there in
        let next : suc (i + k) < length es =
        ⊎_elim
        (λ less. less)
        (λ end. absurd (let last : is_last d.0 ≡ true = T.1.0.0 d.0 (ap (before es) (sym end) ∙ d.1.there) in
        let bad : true ≡ false = sym last ∙ more in cc))
        (below_next (suc (i + k)) (length es) (omega arith)) in
        let f = some_at es (suc (i + k)) next in
        let g : GoesOnInBatch d.0 f.0 = goes_on_from (i + k) d.0 f.0 d.1.there f.1 more in
        let at : i + suc k ≡ suc (i + k) = omega arith in (
          f.0,
          record {
            there = ap (slice_get es) at ∙ f.1;
            part_is = let x = g.part_is in let y = d.1.part_is in omega arith;
            batch_is = g.batch_is ∙ d.1.batch_is;
            rank_is = g.rank_is ∙ d.1.rank_is;
            seq_is = let x = g.seq_is in let y = d.1.seq_is in omega arith;
            hit = g.is_update;
            count = ap (λ z. up z) at ∙ up_one es (i + k) d.0 d.1.there d.1.hit ∙ (let x = d.1.count in omega arith);
          },
        )

    link : (k : ℕ) (d : Entry) → k < e.batch → slice_get es (i + k) ≡ Some d → Link k d
    link k d low gd = let c = chain k low in subst (Link k) (same_Some _ _ (sym c.1.there ∙ gd)) c.1

    whole : IsWholeBatch es i e.batch
    whole =
        record {
          first = e;
          begins = get;
          is_update = is_update;
          batch_is = refl;
          part_is = first_part place replay s home S fit T e begins (part_fits i e get);
          some = omega arith;
          there = let c = chain (e.batch - 1) (omega arith) in let h = slice_get_within es (i + (e.batch - 1)) c.0 c.1.there in omega arith;
          goes_on = λ j d f low high gd gf.
              let at : j ≡ i + (j - i) = omega arith in
              let l : Link (j - i) d = link (j - i) d (omega arith) (ap (slice_get es) (sym at) ∙ gd) in
              let next : j + 1 ≡ suc j = omega arith in
              goes_on_from j d f gd (ap (slice_get es) (sym next) ∙ gf) (not_last d (let x = l.part_is in let y = l.batch_is in omega arith));
        }

    abbrev b : List Entry
    b = take e.batch (drop i es)

    long : length b ≡ e.batch
    long = length_stretch es i e.batch whole.there

    link_in : (k : ℕ) (d : Entry) → slice_get b k ≡ Some d → (k < e.batch) × Link k d
    link_in k d gd = let q = in_stretch es i e.batch k d gd in (q.0, link k d q.0 q.1)

    few : e.batch ≤ 8
    few = ⊎_elim (λ q. let none = q.0 in absurd (omega arith)) (λ q. q.1) (part_fits i e get)

    block : IsBlock e.rank e.batch e.seq (up i) b
    block =
        record {
          parts = parts_from e.rank e.batch e.seq (up i) 0 b (λ j d gd.
              let l = (link_in j d gd).1 in
              record {
                is_update = l.hit;
                rank_is = l.rank_is;
                batch_is = l.batch_is;
                seq_is = l.seq_is;
                place = at_is place replay s home S fit T (i + j) d l.there ∙ l.count;
                part_is = let x = l.part_is in omega arith;
              });
          whole = long ∙ sym (sized e.batch two);
          few = few;
          not_one = λ one. absurd (omega arith);
        }

    told : replies_of b ≡ (apply_batch place.geom (calls_of b) (table_before place.geom es i)).1
    told =
        same_lists (replies_of b) (apply_batch place.geom (calls_of b) (table_before place.geom es i)).1
        (length-map b _ ∙ sym (batch_long place.geom (table_before place.geom es i) (calls_of b) ∙ length-map b _))
        (λ k x gx.
        let within : k < length b = let h = slice_get_within (replies_of b) k x gx in omega (arith, length-map b (λ (z : Entry). z.reply)) in
        let d = some_at b k within in
        let q = link_in k d.0 d.1 in
        let a : EntryIsAnswered es (i + k) place.geom d.0 = answered place replay s home S fit T (i + k) d.0 q.1.there in
        let got = a.in_batch i (let z = q.1.part_is in omega arith) (let low = q.0 in let y = q.1.part_is in let z = q.1.batch_is in omega arith) (subst (IsWholeBatch es i) (sym q.1.batch_is) whole) in
        let here : slice_get (apply_batch place.geom (calls_of b) (table_before place.geom es i)).1 k ≡ Some d.0.reply =
        ap (slice_get (apply_batch place.geom (calls_of b) (table_before place.geom es i)).1) (sym q.1.part_is)
        ∙ subst (λ m. slice_get (apply_batch place.geom (calls_of (take m (drop i es))) (table_before place.geom es i)).1 d.0.part ≡ Some d.0.reply) q.1.batch_is got in
        here ∙ sym (get_map (λ (z : Entry). z.reply) b k d.0 d.1) ∙ gx)

    next_none : is_begun (before es (i + e.batch)) ≡ false
    next_none =
        let c = chain (e.batch - 1) (omega arith) in
        let at : i + e.batch ≡ suc (i + (e.batch - 1)) = omega arith in
        ap (λ z. is_begun (before es z)) at ∙ ap is_begun c.1.there ∙ ap not (is_the_last c.0 (let x = c.1.part_is in let y = c.1.batch_is in omega arith))

    next_up : up (i + e.batch) ≡ up i + length b
    next_up =
        let c = chain (e.batch - 1) (omega arith) in
        let at : i + e.batch ≡ suc (i + (e.batch - 1)) = omega arith in
        ap (λ z. up z) at ∙ up_one es (i + (e.batch - 1)) c.0 c.1.there c.1.hit ∙ (let x = c.1.count in let y = long in omega arith)

    in_journal : journal_among (drop i es) ≡ b ++ journal_among (drop (i + e.batch) es)
    in_journal =
        ap journal_among (sym (take-append-drop e.batch (drop i es))) ∙ filter-append updates b (drop e.batch (drop i es))
        ∙ ap (λ z. z ++ journal_among (drop e.batch (drop i es))) (filter_all updates b (λ k d gd. (link_in k d gd).1.hit))
        ∙ ap (λ z. b ++ journal_among z) (drop-drop e.batch i es)

    legal_batch : (t : Table) → table_before place.geom es i ≡ t → IsLegalBlock place.geom t (up i) b
    legal_batch t table =
        record { rank = e.rank; batch = e.batch; seq = e.seq; is = block; answered = by e.batch two (subst (λ u. replies_of b ≡ (apply_batch place.geom (calls_of b) u).1) table told) } where
          by : (n : ℕ) → 2 ≤ n → replies_of b ≡ (apply_batch place.geom (calls_of b) t).1 → replies_of b ≡ (apply_block place.geom n (calls_of b) t).1
          by zero h a = absurd (omega arith)
          by (suc n) h a = a

    batch_table : (t : Table) → table_after place.geom t b ≡ (apply_batch place.geom (calls_of b) t).0
    batch_table t = block_done place.geom e.rank e.batch e.seq (up i) t b block ∙ by e.batch two where
      by : (n : ℕ) → 2 ≤ n → (apply_block place.geom n (calls_of b) t).0 ≡ (apply_batch place.geom (calls_of b) t).0
      by zero h = absurd (omega arith)
      by (suc n) h = refl

  -- ---- block by block

  record IsSplit (i : ℕ) (t : Table) : Type 0 where
    blocks : List (List Entry)
    split : blocks_joined blocks ≡ journal_among (drop i es)
    legal : AreLegalFrom place.geom t (up i) blocks

  module _ (i : ℕ) (t : Table) (table : state i ≡ (t, [])) (e : Entry) (get : slice_get es i ≡ Some e) (none : e.batch ≡ 0) (first : e.part ≡ 0) where
    table_here : table_before place.geom es i ≡ t
    table_here = ap (λ (z : Table × List Call). z.0) table

    after_none : is_begun (before es (suc i)) ≡ false
    after_none = ap is_begun get ∙ ap not (is_the_last e (omega arith))

    after_table : state (suc i) ≡ ((apply place.geom e.call t).0, [])
    after_table =
        let at : i + 1 ≡ suc i = omega arith in
        ap (λ z. state z) (sym at) ∙ ap (λ z. half_after place.geom finite.empty [] (journal_among z)) (take_more es i e get) ∙ after_call place.geom (take i es) e t table none

    alone_is : updates e ≡ true → IsBlock e.rank 0 e.seq (up i) (e ∷ [])
    alone_is hit =
        record {
          parts = (record { is_update = hit; rank_is = refl; batch_is = none; seq_is = refl; place = at_is place replay s home S fit T i e get; part_is = first }, tt);
          whole = refl;
          few = omega arith;
          not_one = λ one. cc;
        }

    alone_block : updates e ≡ true → IsLegalBlock place.geom t (up i) (e ∷ [])
    alone_block hit =
        record {
          rank = e.rank;
          batch = 0;
          seq = e.seq;
          is = alone_is hit;
          answered = ap (λ z. z ∷ []) ((answered place replay s home S fit T i e get).alone none
              ∙ ap (λ u. (apply place.geom e.call u).1) table_here);
        }

    one_more : IsSplit (suc i) (apply place.geom e.call t).0 → IsSplit i t
    one_more on = by (updates e) refl where
      by : (x : Bool) → updates e ≡ x → IsSplit i t
      by true hit =
          let behind : table_after place.geom t (e ∷ []) ≡ (apply place.geom e.call t).0 = block_done place.geom e.rank 0 e.seq (up i) t (e ∷ []) (alone_is hit) in
          record {
            blocks = (e ∷ []) ∷ on.blocks;
            split = ap (λ z. e ∷ z) on.split ∙ ap (λ x. cond x (e ∷ journal_among (drop (suc i) es)) (journal_among (drop (suc i) es))) (sym hit) ∙ ap journal_among (sym (drop_here es i e get));
            legal = (alone_block hit, subst (λ u. AreLegalFrom place.geom u (up i + 1) on.blocks) (sym behind) (subst (λ m. AreLegalFrom place.geom (apply place.geom e.call t).0 m on.blocks) (up_one es i e get hit) on.legal));
          }
      by false miss =
          record {
            blocks = on.blocks;
            split = on.split ∙ ap (λ x. cond x (e ∷ journal_among (drop (suc i) es)) (journal_among (drop (suc i) es))) (sym miss) ∙ ap journal_among (sym (drop_here es i e get));
            legal = subst (λ u. AreLegalFrom place.geom u (up i) on.blocks) (read_leaves place.geom e.call t miss) (subst (λ m. AreLegalFrom place.geom (apply place.geom e.call t).0 m on.blocks) (up_none es i e get miss) on.legal);
          }

  walk : (m i : ℕ) (t : Table) → length es ≤ i + m → is_begun (before es i) ≡ false → state i ≡ (t, []) → IsSplit i t
  walk zero i t past none table = record { blocks = []; split = sym (ap journal_among (drop_all i es (omega arith))); legal = tt }
  walk (suc m) i t past none table =
      elim (nat_lt i (length es)) as (λ b. nat_lt i (length es) ≡ b → IsSplit i t) [
        | true ↦ λ h.
            let low : i < length es = grind (arith, nat_tests) in
            let e = some_at es i low in
            let begins : IsFirstOfBlock e.0 = begins_here place replay s home S fit T i e.0 e.1 none in
            ⊎_elim
            (λ q.
            one_more i t table e.0 e.1 q.0 q.1
            (walk m (suc i) (apply place.geom e.0.call t).0 (omega arith) (after_none i t table e.0 e.1 q.0 q.1) (after_table i t table e.0 e.1 q.0 q.1)))
            (λ q.
            let n : ℕ = e.0.batch in
            let two : 2 ≤ n = q.0 in
            let b : List Entry = take n (drop i es) in
            let on : IsSplit (i + n) (apply_batch place.geom (calls_of b) t).0 =
            walk m (i + n) (apply_batch place.geom (calls_of b) t).0 (omega arith) (next_none i e.0 e.1 begins two) (after_batch place.geom es i n t (whole i e.0 e.1 begins two) table) in
            record {
              blocks = b ∷ on.blocks;
              split = ap (λ z. b ++ z) on.split ∙ sym (in_journal i e.0 e.1 begins two);
              legal = (
                legal_batch i e.0 e.1 begins two t (ap (λ (z : Table × List Call). z.0) table),
                subst (λ u. AreLegalFrom place.geom u (up i + length b) on.blocks) (sym (batch_table i e.0 e.1 begins two t))
                    (subst (λ m. AreLegalFrom place.geom (apply_batch place.geom (calls_of b) t).0 m on.blocks) (next_up i e.0 e.1 begins two) on.legal),
              );
            })
            (part_fits i e.0 e.1)
        | false ↦ λ h.
            let past : length es ≤ i = grind (arith, nat_tests) in
            record { blocks = []; split = sym (ap journal_among (drop_all i es past)); legal = tt }
      ] refl

  pub journal_legal : IsLegalJournal place.geom (journal_among es)
  journal_legal =
      let all : IsSplit 0 finite.empty = walk (length es) 0 finite.empty (omega arith) refl (ap (λ z. half_after place.geom finite.empty [] (journal_among z)) (take_none es)) in
      record {
        blocks = all.blocks;
        split = all.split ∙ ap journal_among (drop_none es);
        legal = subst (λ m. AreLegalFrom place.geom finite.empty m all.blocks) (ap (count_by updates) (take_none es)) all.legal;
      }
