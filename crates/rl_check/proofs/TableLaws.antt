-- One thread goes on, block by block.
use Rattle.std.proofs.Common.{◌≡◌, ℕ, zero, suc, ◌+◌, ◌<◌, ◌≤◌, true, false, not, cond, List, [], ◌∷◌, ◌++◌, length, take, drop, map, Option, Some, None, refl, sym, ap, subst, ◌∙◌, ⊎_elim, arith, add-one, append_assoc, length-append}
use Rattle.std.specs.Prelude.{slice_get, ◌↔◌}
use Rattle.std.specs.FinMap as finite
use Rattle.std.proofs.lemmas.Option.{same_Some, slice_get_within}
use Rattle.std.proofs.lemmas.List.{length-map}
use Rattle.std.proofs.lemmas.List.Elements.{filter-append}
use Rattle.std.proofs.Math.Seq.{take-add}
use Rattle.rl_word.specs.laws.Places.{get_map_back, some_at}
use Rattle.rl_model.specs.declared.call.Call.{Call}
use Rattle.rl_model.specs.declared.call.Call.TheVariants.{Put, Get, Del, Add, Cas, Hold}
use Rattle.rl_model.specs.declared.entry.Entry.{Entry}
use Rattle.rl_model.specs.declared.entry.Reply.{Reply}
use Rattle.rl_model.specs.declared.geom.Geom.{Geom}
use Rattle.rl_model.specs.Call.{is_update}
use Rattle.rl_model.specs.Table.{Table, apply, after_get}
use Rattle.rl_journal.specs.Blocks.{stops, any_stops, only_first, undone, in_turn, apply_block, apply_batch, calls_of, half_after, is_last, size_of}
use Rattle.rl_journal.specs.laws.BlockLaws.{half_append}
use Rattle.rl_journal.specs.Legal.{updates}
use Rattle.rl_journal.specs.laws.Lists.{get_cases, get_more_cases, filter_all}
use Rattle.rl_report.specs.Lawful.{journal_among}
use Rattle.rl_check.specs.Entries.{before, table_before, IsWholeBatch, EntryIsAnswered}
use Rattle.rl_check.specs.OneThread.{is_begun, BatchesFit, Tells, IsToldTo}
use Rattle.rl_check.proofs.Places.{take_more, in_stretch, length_stretch}
use Rattle.rl_check.proofs.BatchLaws.{is_the_last, not_last, IsPartOf, part_of, none_begun, none_begun_alone, in_none, no_end, still_broken}

-- ---- replies of a batch

-- a batch has its size
pub sized : (n : ℕ) → 2 ≤ n → size_of n ≡ n
sized zero h = absurd (omega arith)
sized (suc n) h = refl

module _ (geom : Geom) where
  turn_long : (t : Table) (cs : List Call) → length (in_turn geom t cs).1 ≡ length cs
  turn_long t [] = refl
  turn_long t (c ∷ cs) = ap suc (turn_long (apply geom c t).0 cs)

  first_long : (rs : List Reply) → length (only_first rs) ≡ length rs
  first_long [] = refl
  first_long (r ∷ rs) =
      elim (stops r) as (λ b. length (cond b (r ∷ undone rs) (Undone_first rs)) ≡ suc (length rs)) [ true ↦ ap suc (length-map rs _) | false ↦ ap suc (first_long rs) ] where
        Undone_first : List Reply → List Reply
        Undone_first rs = Rattle.rl_model.specs.declared.entry.Reply.TheVariants.Undone ∷ only_first rs

  pub batch_long : (t : Table) (cs : List Call) → length (apply_batch geom cs t).1 ≡ length cs
  batch_long t cs =
      elim (any_stops (in_turn geom t cs).1) as (λ b. length (cond {A = Table × List Reply} b (t, only_first (in_turn geom t cs).1) (in_turn geom t cs)).1 ≡ length cs) [
        | true ↦ first_long (in_turn geom t cs).1 ∙ turn_long t cs
        | false ↦ turn_long t cs
      ]

  -- ---- tables

  -- a get or hold leaves the table
  pub read_leaves : (c : Call) (t : Table) → is_update c ≡ false → (apply geom c t).0 ≡ t
  read_leaves (Put key value) t is = absurd (cc)
  read_leaves (Get key) t is = elim (finite.get t key) as (λ o. (after_get t o).0 ≡ t) [ None ↦ refl | Some v ↦ refl ]
  read_leaves (Del key) t is = absurd (cc)
  read_leaves (Add key by) t is = absurd (cc)
  read_leaves (Cas key old new) t is = absurd (cc)
  read_leaves (Hold shard) t is = refl

  abbrev pub state : List Entry → Table × List Call
  state es = half_after geom finite.empty [] (journal_among es)

  pub behind : (es fs : List Entry) (t : Table) → state es ≡ (t, []) → state (es ++ fs) ≡ half_after geom t [] (journal_among fs)
  behind es fs t h =
      ap (half_after geom finite.empty []) (filter-append updates es fs) ∙ half_append geom finite.empty [] (journal_among es) (journal_among fs)
      ∙ ap (λ (z : Table × List Call). half_after geom z.0 z.1 (journal_among fs)) h

  -- behind a call alone
  pub after_call : (es : List Entry) (e : Entry) (t : Table) → state es ≡ (t, []) → e.batch ≡ 0 → state (es ++ e ∷ []) ≡ ((apply geom e.call t).0, [])
  after_call es e t h alone =
      behind es (e ∷ []) t h
      ∙ elim (updates e) as (λ b. updates e ≡ b → half_after geom t [] (cond b (e ∷ []) []) ≡ ((apply geom e.call t).0, [])) [
        | true ↦ λ is.
            let last : is_last e ≡ true = is_the_last e (omega arith) in
            ap (λ b. cond {A = Table × List Call} b ((apply_block geom e.batch (e.call ∷ []) t).0, []) (t, e.call ∷ [])) last
            ∙ ap (λ n. ((apply_block geom n (e.call ∷ []) t).0, [])) alone
        | false ↦ λ is. ap (λ u. (u, [])) (sym (read_leaves e.call t is))
      ] refl

  -- parts of a batch from one on
  abbrev PartsFrom : ℕ → ℕ → List Entry → Type 0
  PartsFrom n k [] = Unit {0}
  PartsFrom n k (e ∷ es) = (e.batch ≡ n) × (e.part ≡ k) × PartsFrom n (k + 1) es

  parts_done : (m k : ℕ) (t : Table) (begun : List Call) (e : Entry) (es : List Entry) → PartsFrom (suc m) k (e ∷ es) → k + length (e ∷ es) ≡ suc m →
      half_after geom t begun (e ∷ es) ≡ ((apply_batch geom (begun ++ calls_of (e ∷ es)) t).0, [])
  parts_done m k t begun e [] parts whole =
      let same : e.batch ≡ suc m = parts.0 in
      let here : e.part ≡ k = parts.1 in
      let last : is_last e ≡ true = is_the_last e (omega arith) in
      ap (λ b. cond {A = Table × List Call} b ((apply_block geom e.batch (begun ++ e.call ∷ []) t).0, []) (t, begun ++ e.call ∷ [])) last
      ∙ ap (λ n. ((apply_block geom n (begun ++ e.call ∷ []) t).0, [])) same
  parts_done m k t begun e (f ∷ fs) parts whole =
      let same : e.batch ≡ suc m = parts.0 in
      let here : e.part ≡ k = parts.1 in
      let more : is_last e ≡ false = not_last e (omega arith) in
      ap (λ b. cond b (half_after geom (apply_block geom e.batch (begun ++ e.call ∷ []) t).0 [] (f ∷ fs)) (half_after geom t (begun ++ e.call ∷ []) (f ∷ fs))) more
      ∙ parts_done m (k + 1) t (begun ++ e.call ∷ []) f fs parts.2 (omega arith)
      ∙ ap (λ z. ((apply_batch geom z t).0, [])) (append_assoc begun (e.call ∷ []) (calls_of (f ∷ fs)))

  all_parts : (n k : ℕ) (b : List Entry) → ((j : ℕ) (e : Entry) → slice_get b j ≡ Some e → (e.batch ≡ n) × (e.part ≡ k + j)) → PartsFrom n k b
  all_parts n k [] at = tt
  all_parts n k (e ∷ es) at =
      let here = at 0 e refl in
      (here.0, (let h = here.1 in omega arith), all_parts n (k + 1) es (λ j f get. let q = at (suc j) f get in (q.0, let h = q.1 in omega arith)))

  batch_done : (n : ℕ) (t : Table) (b : List Entry) → 1 ≤ n → length b ≡ n → ((j : ℕ) (e : Entry) → slice_get b j ≡ Some e → (e.batch ≡ n) × (e.part ≡ 0 + j)) →
      half_after geom t [] b ≡ ((apply_batch geom (calls_of b) t).0, [])
  batch_done zero t b some long at = absurd (omega arith)
  batch_done (suc m) t [] some long at = absurd (omega arith)
  batch_done (suc m) t (e ∷ es) some long at = parts_done m 0 t [] e es (all_parts (suc m) 0 (e ∷ es) at) (omega arith)

  module _ (entries : List Entry) where
    abbrev block_at : ℕ → ℕ → List Entry
    block_at i n = take n (drop i entries)

    in_block : (i n : ℕ) → IsWholeBatch entries i n → (j : ℕ) (e : Entry) → slice_get (block_at i n) j ≡ Some e → IsPartOf entries n j e
    in_block i n w j e get = let q = in_stretch entries i n j e get in part_of entries i n w j e q.0 q.1

    -- behind a whole batch
    pub after_batch : (i n : ℕ) (t : Table) → IsWholeBatch entries i n → state (take i entries) ≡ (t, []) → state (take (i + n) entries) ≡ ((apply_batch geom (calls_of (block_at i n)) t).0, [])
    after_batch i n t w h =
        ap state (take-add i n entries) ∙ behind (take i entries) (block_at i n) t h
        ∙ ap (half_after geom t []) (filter_all updates (block_at i n) (λ j e get. (in_block i n w j e get).is_update))
        ∙ batch_done n t (block_at i n) w.some (length_stretch entries i n w.there) (λ j e get. let p = in_block i n w j e get in (p.batch_is, let k = p.part_is in omega arith))

    before_next : (i : ℕ) (e : Entry) → slice_get entries i ≡ Some e → before entries (i + 1) ≡ Some e
    before_next i e get = ap (before entries) (add-one i) ∙ get

    fewer : (i n : ℕ) → i ≤ n → BatchesFit entries n → BatchesFit entries i
    fewer i n low fit q h = fit q (omega arith)

    -- ---- a call alone

    module _ (i : ℕ) (replies : List (Option Reply)) (t : Table) (so_far : IsToldTo geom entries i replies t) (e : Entry) (get : slice_get entries i ≡ Some e) where
      there : i < length entries
      there = slice_get_within entries i e get

      table_here : e.batch ≡ 0 → BatchesFit entries (i + 1) → state (take i entries) ≡ (t, [])
      table_here alone fit = so_far.table_is (fewer i (i + 1) (omega arith) fit) (none_begun_alone entries i e fit get alone)

      tells_call : e.batch ≡ 0 → BatchesFit entries (i + 1) → Tells geom entries i (Some (apply geom e.call t).1)
      tells_call alone fit f other =
          subst (λ z. (z.reply ≡ (apply geom e.call t).1) ↔ EntryIsAnswered entries i geom z) (same_Some _ _ (sym get ∙ other)) (
            (λ h. record { alone = λ _. h ∙ ap (λ u. (apply geom e.call u).1) (sym table); in_batch = λ b place low w. absurd (omega arith) }),
            (λ a. a.alone alone ∙ ap (λ u. (apply geom e.call u).1) table),
          ) where
            table : table_before geom entries i ≡ t
            table = ap (λ (z : Table × List Call). z.0) (table_here alone fit)

      pub call_told : e.batch ≡ 0 → IsToldTo geom entries (i + 1) (replies ++ Some (apply geom e.call t).1 ∷ []) (apply geom e.call t).0
      call_told alone =
          record {
            long = length-append replies (Some (apply geom e.call t).1 ∷ []) ∙ ap (λ n. n + 1) so_far.long;
            within = let h = there in omega arith;
            tells = λ p o at fit.
                ⊎_elim
                (λ q. so_far.tells p o q.1 fit)
                (λ q.
                let here : p ≡ i = q.0 ∙ so_far.long in
                subst (Tells geom entries p) q.1 (subst (λ z. Tells geom entries z (Some (apply geom e.call t).1)) (sym here) (tells_call alone (subst (λ z. BatchesFit entries (z + 1)) here fit))))
                (get_more_cases replies (Some (apply geom e.call t).1) p o at);
            table_is = λ fit none. ap state (take_more entries i e get) ∙ after_call (take i entries) e t (table_here alone fit) alone;
            broken = λ fit begun. absurd (let bad : false ≡ true = sym (ap not (is_the_last e (omega arith))) ∙ sym (ap is_begun (before_next i e get)) ∙ begun in cc);
          }

      -- ---- an entry of a batch that isn't whole

      module _ (some : 1 ≤ e.batch) (not_whole : IsWholeBatch entries i e.batch → ⊥) where
        tells_none : BatchesFit entries (i + 1) → Tells geom entries i None
        tells_none fit f other =
            subst (EntryIsAnswered entries i geom) (same_Some _ _ (sym get ∙ other))
            (record {
              alone = λ none. absurd (omega arith);
              in_batch = λ b place low w. absurd (in_none entries i e get not_whole so_far.broken (fewer i (i + 1) (omega arith) fit) b e.batch w (omega arith) (omega arith));
            })

        pub none_told : IsToldTo geom entries (i + 1) (replies ++ None ∷ []) t
        none_told =
            record {
              long = length-append replies (None ∷ []) ∙ ap (λ n. n + 1) so_far.long;
              within = let h = there in omega arith;
              tells = λ p o at fit.
                  ⊎_elim
                  (λ q. so_far.tells p o q.1 fit)
                  (λ q.
                  let here : p ≡ i = q.0 ∙ so_far.long in
                  subst (Tells geom entries p) q.1 (subst (λ z. Tells geom entries z None) (sym here) (tells_none (subst (λ z. BatchesFit entries (z + 1)) here fit))))
                  (get_more_cases replies None p o at);
              table_is = λ fit none. absurd (no_end entries i e get not_whole so_far.broken fit some (last (sym (ap is_begun (before_next i e get)) ∙ none)));
              broken = λ fit begun. still_broken entries i e get not_whole so_far.broken fit;
            } where
              last : not (is_last e) ≡ false → is_last e ≡ true
              last h = elim (is_last e) as (λ b. not b ≡ false → b ≡ true) [ true ↦ λ _. refl | false ↦ λ z. absurd (cc) ] h

      -- ---- a whole batch

      module _ (n : ℕ) (w : IsWholeBatch entries i n) where
        abbrev calls : List Call
        calls = calls_of (block_at i n)

        abbrev told : List Reply
        told = (apply_batch geom calls t).1

        first_is : IsPartOf entries n 0 e
        first_is = part_of entries i n w 0 e w.some (ap (slice_get entries) (omega arith) ∙ get)

        table_there : BatchesFit entries (i + 1) → state (take i entries) ≡ (t, [])
        table_there fit = so_far.table_is (fewer i (i + 1) (omega arith) fit) (none_begun entries i e fit get first_is.part_is)

        told_long : length told ≡ n
        told_long = batch_long t calls ∙ length-map (block_at i n) _ ∙ length_stretch entries i n w.there

        tells_part : (k : ℕ) (r : Reply) → slice_get told k ≡ Some r → BatchesFit entries (i + k + 1) → Tells geom entries (i + k) (Some r)
        tells_part k r is fit f at = (
          (λ h. record {
            alone = λ none. absurd (let size = p.batch_is in let some = w.some in omega arith);
            in_batch = λ b place low x.
                let same : b ≡ i = let at = p.part_is in omega arith in
                subst (λ z. slice_get (apply_batch geom (calls_of (take f.batch (drop z entries))) (table_before geom entries z)).1 f.part ≡ Some f.reply) (sym same)
                (subst (λ m. slice_get (apply_batch geom (calls_of (take m (drop i entries))) (table_before geom entries i)).1 f.part ≡ Some f.reply) (sym p.batch_is)
                (ap (λ u. slice_get (apply_batch geom calls u).1 f.part) table ∙ ap (slice_get told) p.part_is ∙ is ∙ ap (λ z. Some z) (sym h)));
          }),
          (λ a.
              let got : slice_get (apply_batch geom (calls_of (take f.batch (drop i entries))) (table_before geom entries i)).1 f.part ≡ Some f.reply =
              a.in_batch i (let at = p.part_is in omega arith) (let at = p.part_is in let size = p.batch_is in let low = low_k in omega arith) (subst (IsWholeBatch entries i) (sym p.batch_is) w) in
              let here : slice_get told k ≡ Some f.reply =
              ap (slice_get told) (sym p.part_is) ∙ ap (λ u. slice_get (apply_batch geom calls u).1 f.part) (sym table)
              ∙ subst (λ m. slice_get (apply_batch geom (calls_of (take m (drop i entries))) (table_before geom entries i)).1 f.part ≡ Some f.reply) p.batch_is got in
              same_Some _ _ (sym here ∙ is)),
        ) where
          low_k : k < n
          low_k = let h = slice_get_within told k r is in let l = told_long in omega arith

          p : IsPartOf entries n k f
          p = part_of entries i n w k f low_k at

          table : table_before geom entries i ≡ t
          table = ap (λ (z : Table × List Call). z.0) (table_there (fewer (i + 1) (i + k + 1) (omega arith) fit))

        pub batch_told : IsToldTo geom entries (i + n) (replies ++ map (λ (r : Reply). Some r) told) (apply_batch geom calls t).0
        batch_told =
            record {
              long = length-append replies (map (λ (r : Reply). Some r) told) ∙ (let a = so_far.long in let b = told_long in let c = length-map told (λ (r : Reply). Some r) in omega arith);
              within = let h = w.there in omega arith;
              tells = λ p o at fit.
                  ⊎_elim
                  (λ q. so_far.tells p o q.1 fit)
                  (λ q.
                  let here : p ≡ i + q.0 = q.1 ∙ ap (λ m. m + q.0) so_far.long in
                  let r = get_map_back (λ (r : Reply). Some r) told q.0 o q.2 in
                  subst (Tells geom entries p) r.2 (subst (λ z. Tells geom entries z (Some r.0)) (sym here) (tells_part q.0 r.0 r.1 (subst (λ z. BatchesFit entries (z + 1)) here fit))))
                  (get_cases replies (map (λ (r : Reply). Some r) told) p o at);
              table_is = λ fit none. after_batch i n t w (table_there (fewer (i + 1) (i + n) (let s = w.some in omega arith) fit));
              broken = λ fit begun. absurd (let bad : false ≡ true = sym ended ∙ begun in cc);
            } where
              back : (n : ℕ) → 1 ≤ n → (k : ℕ) × (n ≡ k + 1)
              back zero h = absurd (omega arith)
              back (suc k) h = (k, omega arith)

              ended : is_begun (before entries (i + n)) ≡ false
              ended =
                  let k = back n w.some in
                  let at : i + n ≡ (i + k.0) + 1 = let e = k.1 in omega arith in
                  let d = some_at entries (i + k.0) (let h = w.there in let e = k.1 in omega arith) in
                  let p : IsPartOf entries n k.0 d.0 = part_of entries i n w k.0 d.0 (let e = k.1 in omega arith) d.1 in
                  let last : is_last d.0 ≡ true = is_the_last d.0 (let b = p.batch_is in let c = p.part_is in let e = k.1 in omega arith) in
                  ap (λ z. is_begun (before entries z)) at ∙ ap is_begun (before_next (i + k.0) d.0 d.1) ∙ ap not last
