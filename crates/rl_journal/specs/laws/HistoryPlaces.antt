-- In a replay each entry's place is the number of updates before it.
use Rattle.std.specs.Prelude.{◌≡◌, ℕ, zero, suc, ◌+◌, ◌≤◌, true, cond, List, [], ◌∷◌, ◌++◌, count_by, length, take, slice_get, Some, refl}
use Rattle.std.specs.FinMap as finite
use Rattle.std.proofs.Common.{sym, ◌∙◌, ap, subst, ⊎_elim, arith}
use Rattle.std.proofs.lemmas.List.{take-append-le}
use Rattle.std.proofs.lemmas.Option.{same_Some}
use Rattle.rl_model.proofs.Counts.{count-append, count-cons}
use Rattle.rl_model.specs.declared.entry.Entry.{Entry}
use Rattle.rl_model.specs.declared.geom.Geom.{Geom}
use Rattle.rl_model.specs.Table.{Table, apply}
use Rattle.rl_journal.specs.Blocks.{IsPart}
use Rattle.rl_journal.specs.Legal.{table_after, updates, blocks_joined, IsLegalBlock, IsLegal}
use Rattle.rl_journal.specs.History.{history, IsReadAlone, IsReplayed, IsReplayedByOneThread, TellsUpdatesBefore}
use Rattle.rl_journal.specs.laws.Lists.{get_cases}
use Rattle.rl_journal.specs.laws.BlockLaws.{part_at}
use Rattle.rl_journal.specs.laws.HistoryLaws.{replayed}

-- the beginning of two lists behind one another, beyond the first
take_behind : (xs ys : List Entry) (k : ℕ) → take (length xs + k) (xs ++ ys) ≡ xs ++ take k ys
take_behind [] ys k = ap (λ n. take n ys) (omega arith)
take_behind (x ∷ xs) ys k =
    let e : length (x ∷ xs) + k ≡ suc (length xs + k) = omega arith in
    ap (λ n. take n (x ∷ (xs ++ ys))) e ∙ ap (λ z. x ∷ z) (take_behind xs ys k)

-- the beginning of a list of updates alone
all_updates : (b : List Entry) (i : ℕ) → i ≤ length b → ((j : ℕ) (e : Entry) → slice_get b j ≡ Some e → updates e ≡ true) → count_by updates (take i b) ≡ i
all_updates [] zero low each = refl
all_updates [] (suc i) low each = absurd (omega arith)
all_updates (e ∷ es) zero low each = refl
all_updates (e ∷ es) (suc i) low each =
    let hit : ◌≡◌ {A = ℕ} (cond (updates e) 1 0) 1 = ap (λ b. cond {A = ℕ} b 1 0) (each 0 e refl) in
    omega (arith, count-cons updates e (take i es), all_updates es i (omega arith) (λ j f get. each (suc j) f get))

take_whole : (b : List Entry) → take (length b) b ≡ b
take_whole [] = refl
take_whole (x ∷ xs) = ap (λ z. x ∷ z) (take_whole xs)

module _ (geom : Geom) where
  -- in a get or hold alone, and behind it
  at_read : (t : Table) (n : ℕ) (b rest : List Entry) → IsReadAlone geom t n b →
      ((k : ℕ) (e : Entry) → slice_get rest k ≡ Some e → e.at ≡ n + count_by updates (take k rest)) →
      (i : ℕ) (e : Entry) → slice_get (b ++ rest) i ≡ Some e → e.at ≡ n + count_by updates (take i (b ++ rest))
  at_read t n b rest r on i e get =
      subst (λ z. slice_get (z ++ rest) i ≡ Some e → e.at ≡ n + count_by updates (take i (z ++ rest))) (sym r.alone) (by_place i) get
    where
      by_place : (i : ℕ) → slice_get (r.entry ∷ rest) i ≡ Some e → e.at ≡ n + count_by updates (take i (r.entry ∷ rest))
      by_place zero get = let place = r.place in let same : e.at ≡ r.entry.at = ap (λ (z : Entry). z.at) (sym (same_Some _ _ get)) in omega arith
      by_place (suc k) get =
          let miss : ◌≡◌ {A = ℕ} (cond (updates r.entry) 1 0) 0 = ap (λ b. cond {A = ℕ} b 1 0) r.is in
          omega (arith, on k e get, count-cons updates r.entry (take k rest))

  -- in a block of updates, and behind it
  at_block : (t : Table) (n : ℕ) (b rest : List Entry) → IsLegalBlock geom t n b →
      ((k : ℕ) (e : Entry) → slice_get rest k ≡ Some e → e.at ≡ n + length b + count_by updates (take k rest)) →
      (i : ℕ) (e : Entry) → slice_get (b ++ rest) i ≡ Some e → e.at ≡ n + count_by updates (take i (b ++ rest))
  at_block t n b rest l on i e get =
      let part : (j : ℕ) (f : Entry) → slice_get b j ≡ Some f → IsPart l.rank l.batch (l.seq + j) (n + j) (0 + j) f =
      λ j f has. part_at l.rank l.batch l.seq n 0 b j f l.is.parts has in
      let each : (j : ℕ) (f : Entry) → slice_get b j ≡ Some f → updates f ≡ true = λ j f has. (part j f has).is_update in
      ⊎_elim
      (λ q. let low = q.0 in let place = (part i e q.1).place in
      omega (arith, ap (count_by updates) (take-append-le i b rest (omega arith)), all_updates b i (omega arith) each))
      (λ q.
      let short : take i (b ++ rest) ≡ b ++ take q.0 rest = ap (λ m. take m (b ++ rest)) q.1 ∙ take_behind b rest q.0 in
      omega (
        arith,
        on q.0 e q.2,
        ap (count_by updates) short,
        count-append updates b (take q.0 rest),
        all_updates b (length b) (omega arith) each,
        ap (count_by updates) (take_whole b),
      ))
      (get_cases b rest i e get)

  by_blocks : (t : Table) (n : ℕ) (bs : List (List Entry)) → IsReplayed geom t n bs → (i : ℕ) (e : Entry) →
      slice_get (blocks_joined bs) i ≡ Some e → e.at ≡ n + count_by updates (take i (blocks_joined bs))
  by_blocks t n [] r i e get = absurd (cc)
  by_blocks t n (b ∷ bs) r i e get =
      ⊎_elim
      (λ q. at_read t n b (blocks_joined bs) q.0 (by_blocks (apply geom q.0.entry.call t).0 n bs q.1) i e get)
      (λ q. at_block t n b (blocks_joined bs) q.0 (by_blocks (table_after geom t b) (n + length b) bs q.1) i e get)
      r

  -- so every place of a history is told
  pub places_told : (journal : List Entry) (ts : List (List Entry)) → IsLegal geom journal ts → TellsUpdatesBefore (history journal ts)
  places_told journal ts legal i e get =
      let r : IsReplayedByOneThread geom finite.empty 0 (history journal ts) = replayed geom journal ts legal in
      let there : slice_get (blocks_joined r.blocks) i ≡ Some e = ap (λ z. slice_get z i) r.split ∙ get in
      by_blocks finite.empty 0 r.blocks r.replayed i e there ∙ omega arith ∙ ap (λ z. count_by updates (take i z)) r.split
