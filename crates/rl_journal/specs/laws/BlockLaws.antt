-- Whole blocks: the table after them, and what each of their entries is.
use Rattle.std.specs.Prelude.{◌≡◌, ℕ, zero, suc, ◌+◌, ◌<◌, ◌≤◌, true, false, cond, List, [], ◌∷◌, ◌++◌, length, slice_get, Some, refl}
use Rattle.std.proofs.Common.{sym, ◌∙◌, ap, subst, arith, length-append, append_assoc}
use Rattle.std.proofs.lemmas.Bool.Decides.{nat_tests}
use Rattle.std.proofs.lemmas.Option.{same_Some}
use Rattle.rl_model.specs.declared.call.Call.{Call}
use Rattle.rl_model.specs.declared.entry.Entry.{Entry}
use Rattle.rl_model.specs.declared.geom.Geom.{Geom}
use Rattle.rl_model.specs.Table.{Table}
use Rattle.rl_journal.specs.Blocks.{AreUpdates, apply_block, size_of, is_last, half_after, calls_of, IsPart, AreParts, IsBlock}
use Rattle.rl_journal.specs.Legal.{table_after, IsLegalBlock, AreLegalFrom, blocks_joined}

module _ (geom : Geom) where
  -- entries behind others
  pub half_append : (t : Table) (begun : List Call) (es fs : List Entry) →
      half_after geom t begun (es ++ fs) ≡ half_after geom (half_after geom t begun es).0 (half_after geom t begun es).1 fs
  half_append t begun [] fs = refl
  half_append t begun (e ∷ es) fs =
      let u : Table = (apply_block geom e.batch (begun ++ e.call ∷ []) t).0 in
      let more : List Call = begun ++ e.call ∷ [] in
      elim (is_last e) as (λ b. cond b (half_after geom u [] (es ++ fs)) (half_after geom t more (es ++ fs)) ≡
      half_after geom (cond b (half_after geom u [] es) (half_after geom t more es)).0 (cond b (half_after geom u [] es) (half_after geom t more es)).1 fs) [
        | true ↦ half_append u [] es fs
        | false ↦ half_append t more es fs
      ]

  pub size_pos : (batch : ℕ) → (batch ≤ size_of batch) × (1 ≤ size_of batch) × ((1 < size_of batch) → size_of batch ≡ batch)
  size_pos zero = (omega arith, omega arith, λ h. absurd (omega arith))
  size_pos (suc n) = (omega arith, omega arith, λ h. refl)

  -- the last entries of a block
  parts_done : (rank batch seq at part : ℕ) (t : Table) (begun : List Call) (e : Entry) (es : List Entry) →
      AreParts rank batch seq at part (e ∷ es) → part + length (e ∷ es) ≡ size_of batch →
      half_after geom t begun (e ∷ es) ≡ ((apply_block geom batch (begun ++ calls_of (e ∷ es)) t).0, [])
  parts_done rank batch seq at part t begun e [] parts whole =
      let same : e.batch ≡ batch = parts.0.batch_is in
      let here : e.part ≡ part = parts.0.part_is in
      let low = (size_pos batch).0 in
      let last : is_last e ≡ true = grind (arith, nat_tests) in
      ap (λ b. cond {A = Table × List Call} b ((apply_block geom e.batch (begun ++ e.call ∷ []) t).0, []) (t, begun ++ e.call ∷ [])) last
      ∙ ap (λ n. ((apply_block geom n (begun ++ e.call ∷ []) t).0, [])) same
  parts_done rank batch seq at part t begun e (f ∷ fs) parts whole =
      let same : e.batch ≡ batch = parts.0.batch_is in
      let here : e.part ≡ part = parts.0.part_is in
      let more : 1 < size_of batch = omega arith in
      let is : size_of batch ≡ batch = (size_pos batch).2 more in
      let not_last : is_last e ≡ false = grind (arith, nat_tests) in
      ap (λ b. cond b (half_after geom (apply_block geom e.batch (begun ++ e.call ∷ []) t).0 [] (f ∷ fs))
      (half_after geom t (begun ++ e.call ∷ []) (f ∷ fs))) not_last
      ∙ parts_done rank batch (seq + 1) (at + 1) (part + 1) t (begun ++ e.call ∷ []) f fs parts.1 (omega arith)
      ∙ ap (λ z. ((apply_block geom batch z t).0, [])) (append_assoc begun (e.call ∷ []) (calls_of (f ∷ fs)))

  -- a whole block
  pub block_half : (rank batch seq at : ℕ) (t : Table) (b : List Entry) → IsBlock rank batch seq at b →
      half_after geom t [] b ≡ ((apply_block geom batch (calls_of b) t).0, [])
  block_half rank batch seq at t [] is = let w = is.whole in let p = (size_pos batch).1 in absurd (omega arith)
  block_half rank batch seq at t (e ∷ es) is = parts_done rank batch seq at 0 t [] e es is.parts (let w = is.whole in omega arith)

  pub block_done : (rank batch seq at : ℕ) (t : Table) (b : List Entry) → IsBlock rank batch seq at b →
      table_after geom t b ≡ (apply_block geom batch (calls_of b) t).0
  block_done rank batch seq at t b is = ap (λ z. z.0) (block_half rank batch seq at t b is)

  -- whole blocks leave nothing begun
  pub blocks_whole : (t : Table) (n : ℕ) (bs : List (List Entry)) → AreLegalFrom geom t n bs → (half_after geom t [] (blocks_joined bs)).1 ≡ []
  blocks_whole t n [] legal = refl
  blocks_whole t n (b ∷ bs) legal =
      let l : IsLegalBlock geom t n b = legal.0 in
      let nothing : (half_after geom t [] b).1 ≡ [] = ap (λ z. z.1) (block_half l.rank l.batch l.seq n t b l.is) in
      ap (λ z. z.1) (half_append t [] b (blocks_joined bs)) ∙ ap (λ z. (half_after geom (table_after geom t b) z (blocks_joined bs)).1)
      nothing ∙ blocks_whole (table_after geom t b) (n + length b) bs legal.1

  -- what stands behind whole blocks
  pub table_behind : (t : Table) (n : ℕ) (bs : List (List Entry)) (es : List Entry) → AreLegalFrom geom t n bs →
      table_after geom t (blocks_joined bs ++ es) ≡ table_after geom (table_after geom t (blocks_joined bs)) es
  table_behind t n bs es legal =
      ap (λ z. z.0) (half_append t [] (blocks_joined bs) es) ∙ ap (λ z. (half_after geom (table_after geom t (blocks_joined bs)) z es).0)
      (blocks_whole t n bs legal)

  -- one block more
  pub legal_more : (t : Table) (n : ℕ) (bs : List (List Entry)) (b : List Entry) → AreLegalFrom geom t n bs →
      IsLegalBlock geom (table_after geom t (blocks_joined bs)) (n + length (blocks_joined bs)) b →
      AreLegalFrom geom t n (bs ++ b ∷ [])
  legal_more t n [] b legal next = (subst (λ m. IsLegalBlock geom t m b) (omega arith) next, tt)
  legal_more t n (c ∷ bs) b legal next =
      let l : IsLegalBlock geom t n c = legal.0 in
      let nothing : (half_after geom t [] c).1 ≡ [] = ap (λ z. z.1) (block_half l.rank l.batch l.seq n t c l.is) in
      let table : table_after geom t (c ++ blocks_joined bs) ≡ table_after geom (table_after geom t c) (blocks_joined bs) =
      ap (λ z. z.0) (half_append t [] c (blocks_joined bs)) ∙ ap (λ z. (half_after geom (table_after geom t c) z (blocks_joined bs)).0) nothing in
      let at : n + length (c ++ blocks_joined bs) ≡ n + length c + length (blocks_joined bs) = omega (arith, length-append c (blocks_joined bs)) in (
        l,
        legal_more (table_after geom t c) (n + length c) bs b legal.1
            (subst (λ m. IsLegalBlock geom (table_after geom (table_after geom t c) (blocks_joined bs)) m b) at
            (subst (λ u. IsLegalBlock geom u (n + length (c ++ blocks_joined bs)) b) table next)),
      )

pub joined_more : (bs : List (List Entry)) (b : List Entry) → blocks_joined (bs ++ b ∷ []) ≡ blocks_joined bs ++ b
joined_more [] b = at_end b where
  at_end : (xs : List Entry) → xs ++ [] ≡ xs
  at_end [] = refl
  at_end (x ∷ xs) = ap (λ z. x ∷ z) (at_end xs)
joined_more (c ∷ bs) b = ap (λ z. c ++ z) (joined_more bs b) ∙ sym (append_assoc c (blocks_joined bs) b)

-- the entry at a place of parts
pub part_at : (rank batch seq at part : ℕ) (b : List Entry) (i : ℕ) (e : Entry) → AreParts rank batch seq at part b →
    slice_get b i ≡ Some e → IsPart rank batch (seq + i) (at + i) (part + i) e
part_at rank batch seq at part [] i e parts get = absurd (cc)
part_at rank batch seq at part (f ∷ fs) zero e parts get =
    let p : IsPart rank batch seq at part e = subst (IsPart rank batch seq at part) (same_Some _ _ get) parts.0 in
    record {
      is_update = p.is_update;
      rank_is = p.rank_is;
      batch_is = p.batch_is;
      seq_is = p.seq_is ∙ omega arith;
      place = p.place
          ∙ omega arith;
      part_is = p.part_is ∙ omega arith;
    }
part_at rank batch seq at part (f ∷ fs) (suc i) e parts get =
    let p : IsPart rank batch (seq + 1 + i) (at + 1 + i) (part + 1 + i) e = part_at rank batch (seq + 1) (at + 1) (part + 1) fs i e parts.1 get in
    record {
      is_update = p.is_update;
      rank_is = p.rank_is;
      batch_is = p.batch_is;
      seq_is = p.seq_is ∙ omega arith;
      place = p.place
          ∙ omega arith;
      part_is = p.part_is ∙ omega arith;
    }

-- the calls of parts are updates
pub parts_update : (rank batch seq at part : ℕ) (b : List Entry) → AreParts rank batch seq at part b → AreUpdates (calls_of b)
parts_update rank batch seq at part [] parts = tt
parts_update rank batch seq at part (e ∷ es) parts = (parts.0.is_update, parts_update rank batch (seq + 1) (at + 1) (part + 1) es parts.1)
