-- Where a journal and its transcripts are legal, their history is what one thread would have got.
use Rattle.std.specs.Prelude.{◌≡◌, ℕ, zero, suc, ◌+◌, ◌<◌, ◌==◌, Bool, true, false, not, ◌&&◌, cond, List, [], ◌∷◌, ◌++◌, All, filter, count_by, length, take, slice_get, Option, Some, None, refl}
use Rattle.std.specs.FinMap as finite
use Rattle.std.proofs.Common.{sym, ◌∙◌, ap, subst, inl, inr, arith, length-append, append_assoc}
use Rattle.std.proofs.lemmas.List.Elements.{All-head, All-tail, All-nil, All-cons, All-append}
use Rattle.std.proofs.lemmas.List.{take_at, append-nil}
use Rattle.std.proofs.lemmas.Bool.Decides.{nat_tests}
use Rattle.rl_word.specs.laws.Places.{some_at}
use Rattle.rl_model.proofs.Counts.{count-append, count-cons}
use Rattle.rl_model.specs.declared.call.Call.{Call}
use Rattle.rl_model.specs.declared.call.Call.TheVariants.{Put, Get, Del, Add, Cas, Hold}
use Rattle.rl_model.specs.declared.entry.Entry.{Entry}
use Rattle.rl_model.specs.declared.geom.Geom.{Geom}
use Rattle.rl_model.specs.Call.{is_update}
use Rattle.rl_model.specs.Table.{Table, apply, after_get}
use Rattle.rl_journal.specs.Blocks.{half_after}
use Rattle.rl_journal.specs.Legal.{table_after, map_at, updates, IsLegalBlock, AreLegalFrom, blocks_joined, IsLegalRead, IsLegal}
use Rattle.rl_journal.specs.laws.BlockLaws.{half_append, block_half, block_done, part_at, size_pos}
use Rattle.rl_journal.specs.laws.Lists.{get_left, filter_none, all_at}
use Rattle.rl_journal.specs.History.{looked_at, reads_at, history_from, history, IsReadAlone, IsReplayed, IsReplayedByOneThread}

module _ (geom : Geom) where
  -- a call that is no update leaves the table
  got_stays : (t : Table) (o : Option ℕ) → (after_get t o).0 ≡ t
  got_stays t None = refl
  got_stays t (Some v) = refl

  read_leaves : (c : Call) (t : Table) → is_update c ≡ false → (apply geom c t).0 ≡ t
  read_leaves (Put key value) t is = absurd (cc)
  read_leaves (Get key) t is = got_stays t (finite.get t key)
  read_leaves (Del key) t is = absurd (cc)
  read_leaves (Add key by) t is = absurd (cc)
  read_leaves (Cas key old new) t is = absurd (cc)
  read_leaves (Hold shard) t is = refl

  -- an entry that is no update was answered by this table, after n updates
  pub record IsRead (t : Table) (n : ℕ) (e : Entry) : Type 0 where
    pub is : updates e ≡ false
    pub place : e.at ≡ n
    pub answered : e.reply ≡ (apply geom e.call t).1

  -- such entries may come before what is replayed
  reads_replay : (t : Table) (n : ℕ) (es rest : List Entry) → All (IsRead t n) es → IsReplayedByOneThread geom t n rest →
      IsReplayedByOneThread geom t n (es ++ rest)
  reads_replay t n [] rest all later = later
  reads_replay t n (e ∷ es) rest all later =
      let r : IsRead t n e = All-head (IsRead t n) e es all in
      let on : IsReplayedByOneThread geom t n (es ++ rest) = reads_replay t n es rest (All-tail (IsRead t n) e es all) later in
      let alone : IsReadAlone geom t n (e ∷ []) = record { entry = e; alone = refl; is = r.is; place = r.place; answered = r.answered } in
      record {
        blocks = (e ∷ []) ∷ on.blocks;
        split = ap (λ z. e ∷ z) on.split;
        replayed = inl (alone, subst (λ m. IsReplayed geom m n on.blocks) (sym (read_leaves e.call t r.is)) on.replayed);
      }

  block_replay : (t : Table) (n : ℕ) (b rest : List Entry) → IsLegalBlock geom t n b →
      IsReplayedByOneThread geom (table_after geom t b) (n + length b) rest → IsReplayedByOneThread geom t n (b ++ rest)
  block_replay t n b rest legal on = record { blocks = b ∷ on.blocks; split = ap (λ z. b ++ z) on.split; replayed = inr (legal, on.replayed) }

  module _ (journal : List Entry) (ts : List (List Entry)) (legal : IsLegal geom journal ts) where
    -- the gets and holds at a count
    looked : (n : ℕ) (e : Entry) → IsLegalRead geom journal e → looked_at n e ≡ true → IsRead (map_at geom journal n) n e
    looked n e legal_read is =
        elim (updates e) as (λ b. updates e ≡ b → (not b && (e.at == n)) ≡ true → IsRead (map_at geom journal n) n e) [
          | true ↦ λ u yes. absurd (cc)
          | false ↦ λ u yes.
              let place : e.at ≡ n = grind (arith, nat_tests) in
              record { is = u; place = place; answered = (legal_read u).1 ∙ ap (λ m. (apply geom e.call m).1) (ap (map_at geom journal) place) }
        ] refl is

    kept : (n : ℕ) (t : List Entry) → All (IsLegalRead geom journal) t → All (IsRead (map_at geom journal n) n) (filter (looked_at n) t)
    kept n [] all = All-nil (IsRead (map_at geom journal n) n)
    kept n (e ∷ es) all =
        let rest : All (IsRead (map_at geom journal n) n) (filter (looked_at n) es) = kept n es (All-tail (IsLegalRead geom journal) e es all) in
        elim (looked_at n e) as (λ b. looked_at n e ≡ b → All (IsRead (map_at geom journal n) n)
        (cond b (e ∷ filter (looked_at n) es) (filter (looked_at n) es))) [
          | true ↦ λ is. All-cons (IsRead (map_at geom journal n) n) e (filter (looked_at n) es)
              (looked n e (All-head (IsLegalRead geom journal) e es all) is) rest
          | false ↦ λ is. rest
        ] refl

    all_kept : (n : ℕ) (us : List (List Entry)) → ((k : ℕ) (t : List Entry) → slice_get us k ≡ Some t → All (IsLegalRead geom journal) t) →
        All (IsRead (map_at geom journal n) n) (reads_at n us)
    all_kept n [] all = All-nil (IsRead (map_at geom journal n) n)
    all_kept n (t ∷ us) all =
        All-append (IsRead (map_at geom journal n) n) (filter (looked_at n) t) (reads_at n us) (kept n t (all 0 t refl))
        (all_kept n us (λ k u get. all (suc k) u get))

    -- none looked at a count within a block
    no_look : (p : ℕ) (e : Entry) → slice_get journal p ≡ Some e → (e.part ≡ 0 → ⊥) → (f : Entry) → IsLegalRead geom journal f → looked_at p f ≡ false
    no_look p e get within f is =
        elim (updates f) as (λ b. updates f ≡ b → (not b && (f.at == p)) ≡ false) [
          | true ↦ λ u. refl
          | false ↦ λ u. elim (f.at == p) as (λ b. (f.at == p) ≡ b → b ≡ false) [
            | true ↦ λ h. let place : f.at ≡ p = grind (arith, nat_tests) in absurd (within ((is u).2 e (ap (slice_get journal) place ∙ get)))
            | false ↦ λ h. refl
          ] refl
        ] refl

    none_in : (p : ℕ) (e : Entry) → slice_get journal p ≡ Some e → (e.part ≡ 0 → ⊥) → (us : List (List Entry)) →
        ((k : ℕ) (t : List Entry) → slice_get us k ≡ Some t → All (IsLegalRead geom journal) t) → reads_at p us ≡ []
    none_in p e get within [] all = refl
    none_in p e get within (t ∷ us) all =
        let here : filter (looked_at p) t ≡ [] = filter_none (looked_at p) t
        (λ i f there. no_look p e get within f (all_at (IsLegalRead geom journal) t i f (all 0 t refl) there)) in
        ap (λ z. z ++ reads_at p us) here ∙ none_in p e get within us (λ k u g. all (suc k) u g)

    -- so a block stands in the history as it is
    unbroken : (m : ℕ) (es rest : List Entry) → ((i : ℕ) → i < length es → reads_at (m + i) ts ≡ []) →
        history_from ts m (es ++ rest) ≡ es ++ history_from ts (m + length es) rest
    unbroken m [] rest none = ap (λ n. history_from ts n rest) (omega arith)
    unbroken m (e ∷ es) rest none =
        let first : reads_at m ts ≡ [] = ap (λ n. reads_at n ts) (omega arith) ∙ none 0 (omega arith) in
        let later : (i : ℕ) → i < length es → reads_at (m + 1 + i) ts ≡ [] = λ i h. ap (λ n. reads_at n ts) (omega arith) ∙ none (suc i) (omega arith) in
        let long : m + 1 + length es ≡ m + length (e ∷ es) = omega arith in
        ap (λ z. z ++ e ∷ history_from ts (m + 1) (es ++ rest)) first
        ∙ ap (λ z. e ∷ z) (unbroken (m + 1) es rest later ∙ ap (λ n. es ++ history_from ts n rest) long)

    get_behind : (xs ys : List Entry) (i : ℕ) → slice_get (xs ++ ys) (length xs + i) ≡ slice_get ys i
    get_behind [] ys i = ap (slice_get ys) (omega arith)
    get_behind (x ∷ xs) ys i = let e : length (x ∷ xs) + i ≡ suc (length xs + i) = omega arith in ap (slice_get (x ∷ (xs ++ ys))) e ∙ get_behind xs ys i

    -- from a block on
    from_blocks : (front : List Entry) (t : Table) (bs : List (List Entry)) → front ++ blocks_joined bs ≡ journal →
        half_after geom finite.empty [] front ≡ (t, []) → AreLegalFrom geom t (length front) bs →
        IsReplayedByOneThread geom t (length front) (history_from ts (length front) (blocks_joined bs))
    from_blocks front t [] e half all =
        let n : ℕ = length front in
        let short : take n journal ≡ front = ap (take n) (sym e) ∙ take_at front [] n refl in
        let here : map_at geom journal n ≡ t = ap (table_after geom finite.empty) short ∙ ap (λ z. z.0) half in
        subst (IsReplayedByOneThread geom t n) (append-nil (reads_at n ts))
        (reads_replay t n (reads_at n ts) [] (subst (λ m. All (IsRead m n) (reads_at n ts)) here (all_kept n ts legal.reads_are))
        (record { blocks = []; split = refl; replayed = tt }))
    from_blocks front t ([] ∷ bs) e half all = let w = all.0.is.whole in let p = (size_pos geom all.0.batch).1 in absurd (omega arith)
    from_blocks front t ((x ∷ xs) ∷ bs) e half all =
        let n : ℕ = length front in
        let b : List Entry = x ∷ xs in
        let l : IsLegalBlock geom t n b = all.0 in
        let rest : List Entry = blocks_joined bs in
        let short : take n journal ≡ front = ap (take n) (sym e) ∙ take_at front (b ++ rest) n refl in
        let here : map_at geom journal n ≡ t = ap (table_after geom finite.empty) short ∙ ap (λ z. z.0) half in
        let long : length (front ++ b) ≡ n + length b = length-append front b in
        let whole : half_after geom t [] b ≡ (table_after geom t b, []) = block_half geom l.rank l.batch l.seq n t b l.is
        ∙ ap (λ z. (z, [])) (sym (block_done geom l.rank l.batch l.seq n t b l.is)) in
        let half_on : half_after geom finite.empty [] (front ++ b) ≡ (table_after geom t b, []) = half_append geom finite.empty [] front b
        ∙ ap (λ z. half_after geom z.0 z.1 b) half ∙ whole in
        let on : IsReplayedByOneThread geom (table_after geom t b) (length (front ++ b)) (history_from ts (length (front ++ b)) rest) =
        from_blocks (front ++ b) (table_after geom t b) bs (append_assoc front b rest ∙ e) half_on
        (subst (λ m. AreLegalFrom geom (table_after geom t b) m bs) (sym long) all.1) in
        let on_at : IsReplayedByOneThread geom (table_after geom t b) (n + length b) (history_from ts (n + length b) rest) =
        subst (λ m. IsReplayedByOneThread geom (table_after geom t b) m (history_from ts m rest)) long on in
        let within : (i : ℕ) → i < length xs → reads_at (n + 1 + i) ts ≡ [] = λ i h.
        let f = some_at xs i h in
        none_in (n + 1 + i) f.0
        (subst (λ z. slice_get z (n + 1 + i) ≡ Some f.0) e (ap (slice_get (front ++ (b ++ rest))) (omega arith) ∙ get_behind front
        (b ++ rest) (suc i) ∙ get_left b rest (suc i) f.0 f.1))
        (λ zero_part. let is = (part_at l.rank l.batch l.seq n 0 b (suc i) f.0 l.is.parts f.1).part_is in omega arith)
        ts legal.reads_are in
        let split : n + 1 + length xs ≡ n + length b = omega arith in
        let order : history_from ts n (b ++ rest) ≡ reads_at n ts ++ (b ++ history_from ts (n + length b) rest) =
        ap (λ z. reads_at n ts ++ x ∷ z) (unbroken (n + 1) xs rest within ∙ ap (λ m. xs ++ history_from ts m rest) split) in
        subst (IsReplayedByOneThread geom t n) (sym order)
        (reads_replay t n (reads_at n ts) (b ++ history_from ts (n + length b) rest)
        (subst (λ m. All (IsRead m n) (reads_at n ts)) here (all_kept n ts legal.reads_are))
        (block_replay t n b (history_from ts (n + length b) rest) l on_at))

    -- the law
    pub replayed : IsReplayedByOneThread geom finite.empty 0 (history journal ts)
    replayed = subst (λ z. IsReplayedByOneThread geom finite.empty 0 (history_from ts 0 z)) legal.journal_is.split
        (from_blocks [] finite.empty legal.journal_is.blocks legal.journal_is.split refl legal.journal_is.legal)

-- the gets and holds that looked at counts from p on, of so many
abbrev pub reads_within : ℕ → ℕ → (Entry → Bool) → List (List Entry) → ℕ
reads_within p zero test ts = 0
reads_within p (suc n) test ts = count_by test (reads_at p ts) + reads_within (p + 1) n test ts

-- the history has each entry of the journal, and each get and hold that looked at a count up to its end
pub history_counts : (test : Entry → Bool) (ts : List (List Entry)) (p : ℕ) (rest : List Entry) →
    count_by test (history_from ts p rest) ≡ count_by test rest + reads_within p (length rest + 1) test ts
history_counts test ts p [] = omega arith
history_counts test ts p (e ∷ es) =
    let one_more : length (e ∷ es) + 1 ≡ suc (length es + 1) = omega arith in
    omega (
      arith,
      count-append test (reads_at p ts) (e ∷ history_from ts (p + 1) es),
      count-cons test e (history_from ts (p + 1) es),
      count-cons test e es,
      history_counts test ts (p + 1) es,
      ap (λ n. reads_within p n test ts) one_more,
    )
