-- In a replay each entry stands rightly in a block, and has its reply.
use Rattle.std.proofs.Common.{◌≡◌, ◌⊎◌, ℕ, zero, suc, ◌+◌, ◌<◌, ◌≤◌, true, false, not, List, [], ◌∷◌, ◌++◌, length, take, drop, Option, Some, None, refl, sym, ap, subst, ◌∙◌, inl, inr, ⊎_elim, arith, append_assoc, length-append}
use Rattle.std.specs.Prelude.{slice_get}
use Rattle.std.specs.FinMap as finite
use Rattle.std.proofs.lemmas.List.{take_at}
use Rattle.std.proofs.lemmas.Option.{same_Some, slice_get_within}
use Rattle.rl_word.specs.laws.Places.{some_at, get_map}
use Rattle.rl_model.specs.declared.entry.Entry.{Entry}
use Rattle.rl_model.specs.declared.call.Call.{Call}
use Rattle.rl_model.specs.declared.geom.Geom.{Geom}
use Rattle.rl_model.specs.Table.{Table, apply}
use Rattle.rl_journal.specs.Blocks.{apply_block, apply_batch, calls_of, replies_of, half_after, is_last, size_of, IsPart, IsBlock}
use Rattle.rl_journal.specs.laws.BlockLaws.{part_at, size_pos, block_half, block_done}
use Rattle.rl_journal.specs.Legal.{updates, table_after, blocks_joined, IsLegalBlock}
use Rattle.rl_journal.specs.History.{IsReplayed}
use Rattle.rl_journal.specs.laws.Lists.{get_cases, get_left, filter_all}
use Rattle.rl_report.specs.Lawful.{journal_among}
use Rattle.rl_check.specs.Entries.{before, table_before, IsFirstOfBlock, MayFollow, IsInBatch, EntryIsAnswered, HasReply}
use Rattle.rl_check.specs.OneThread.{is_begun}
use Rattle.rl_check.proofs.BatchLaws.{is_the_last, ends_here}
use Rattle.rl_check.proofs.TableLaws.{behind, after_call, sized}
use Rattle.rl_check.proofs.EntryFacts.{get_behind}

-- ---- lists

drop_front : {X : Type 0} (xs ys : List X) → drop (length xs) (xs ++ ys) ≡ ys
drop_front [] [] = refl
drop_front [] (y ∷ ys) = refl
drop_front (x ∷ xs) ys = drop_front xs ys

module _ (geom : Geom) (es : List Entry) (alone : (p : ℕ) (e : Entry) → slice_get es p ≡ Some e → updates e ≡ false → e.batch ≡ 0) where
  -- no batch is begun before a place, and this is the table there
  pub record IsBetween (i : ℕ) (t : Table) : Type 0 where
    pub none : is_begun (before es i) ≡ false
    pub table : half_after geom finite.empty [] (journal_among (take i es)) ≡ (t, [])

  -- a call alone, with its reply
  pub record IsAlone (p : ℕ) (e : Entry) : Type 0 where
    pub t : Table
    pub here : IsBetween p t
    pub batch_is : e.batch ≡ 0
    pub reply_is : e.reply ≡ (apply geom e.call t).1

  -- an entry of a whole batch with its replies
  pub record IsInside (p : ℕ) (e : Entry) : Type 0 where
    pub t : Table
    pub from : ℕ
    pub here : IsBetween from t
    pub rank : ℕ
    pub n : ℕ
    pub seq : ℕ
    pub at : ℕ
    pub b : List Entry
    pub is : IsBlock rank n seq at b
    pub two : 2 ≤ n
    pub k : ℕ
    pub place : p ≡ from + k
    pub there : slice_get b k ≡ Some e
    pub stands : take n (drop from es) ≡ b
    pub in_all : (j : ℕ) (d : Entry) → slice_get b j ≡ Some d → slice_get es (from + j) ≡ Some d
    pub replies : replies_of b ≡ (apply_batch geom (calls_of b) t).1

  abbrev pub IsPlaced : ℕ → Entry → Type 0
  IsPlaced p e = IsAlone p e ⊎ IsInside p e

  -- ---- what that says of the tests

  begins_free : (o : Option Entry) (e : Entry) → is_begun o ≡ false → IsFirstOfBlock e → MayFollow o e
  begins_free None e none b = b
  begins_free (Some d) e none b = ((λ _. b), (λ l. absurd (let bad : true ≡ false = sym (ap not l) ∙ none in cc)))

  module _ (p : ℕ) (e : Entry) (a : IsInside p e) where
    part : IsPart a.rank a.n (a.seq + a.k) (a.at + a.k) (0 + a.k) e
    part = part_at a.rank a.n a.seq a.at 0 a.b a.k e a.is.parts a.there

    inside_follows : (k : ℕ) → a.k ≡ k → MayFollow (before es p) e
    inside_follows zero h =
        let at : a.from ≡ p = let q = a.place in omega arith in
        let none : e.part ≡ 0 = let q = part.part_is in omega arith in
        subst (λ z. MayFollow (before es z) e) at (begins_free (before es a.from) e a.here.none (inr (part.is_update, none)))
    inside_follows (suc k) h =
        let at : p ≡ suc (a.from + k) = let q = a.place in omega arith in
        let within : a.k < length a.b = slice_get_within a.b a.k e a.there in
        let d = some_at a.b k (omega arith) in
        let q : IsPart a.rank a.n (a.seq + k) (a.at + k) (0 + k) d.0 = part_at a.rank a.n a.seq a.at 0 a.b k d.0 a.is.parts d.1 in
        let whole : length a.b ≡ a.n = a.is.whole ∙ sized a.n a.two in
        subst (λ z. MayFollow (before es z) e) (sym at)
        (subst (λ o. MayFollow o e) (sym (a.in_all k d.0 d.1)) (
          (λ l. absurd (let end = ends_here d.0 l in let size = q.batch_is in let place = q.part_is in omega arith)),
          (λ l. record {
            is_update = part.is_update;
            rank_is = part.rank_is ∙ sym q.rank_is;
            batch_is = part.batch_is ∙ sym q.batch_is;
            seq_is = let x = part.seq_is in let y = q.seq_is in omega arith;
            part_is = let x = part.part_is in let y = q.part_is in omega arith;
          }),
        ))

    inside_answered : EntryIsAnswered es p geom e
    inside_answered =
        record {
          alone = λ none. absurd (let size = part.batch_is in let two = a.two in omega arith);
          in_batch = λ i place low w.
              let same : i ≡ a.from = let q = a.place in let r = part.part_is in omega arith in
              let here : e.part ≡ a.k = let r = part.part_is in omega arith in
              subst (λ z. slice_get (apply_batch geom (calls_of (take e.batch (drop z es))) (table_before geom es z)).1 e.part ≡ Some e.reply) (sym same)
              (subst (λ m. slice_get (apply_batch geom (calls_of (take m (drop a.from es))) (table_before geom es a.from)).1 e.part ≡ Some e.reply) (sym part.batch_is)
              (ap (λ u. slice_get (apply_batch geom (calls_of (take a.n (drop a.from es))) u).1 e.part) (ap (λ (z : Table × List Call). z.0) a.here.table)
              ∙ ap (λ z. slice_get (apply_batch geom (calls_of z) a.t).1 e.part) a.stands
              ∙ ap (λ z. slice_get z e.part) (sym a.replies)
              ∙ ap (slice_get (replies_of a.b)) here
              ∙ get_map (λ (z : Entry). z.reply) a.b a.k e a.there));
        }

  pub placed_fits : (p : ℕ) (e : Entry) → slice_get es p ≡ Some e → IsPlaced p e → IsInBatch es p
  placed_fits p e get placed f other =
      subst (MayFollow (before es p)) (same_Some _ _ (sym get ∙ other))
      (⊎_elim (λ a. begins_free (before es p) e a.here.none (inl a.batch_is)) (λ a. inside_follows p e a a.k refl) placed)

  pub placed_answered : (p : ℕ) (e : Entry) → slice_get es p ≡ Some e → IsPlaced p e → HasReply es p geom
  placed_answered p e get placed f other =
      subst (EntryIsAnswered es p geom) (same_Some _ _ (sym get ∙ other))
      (⊎_elim
      (λ a. record {
        alone = λ none. a.reply_is ∙ ap (λ u. (apply geom e.call u).1) (sym (ap (λ (z : Table × List Call). z.0) a.here.table));
        in_batch = λ i place low w. absurd (let none = a.batch_is in omega arith);
      })
      (λ a. inside_answered p e a)
      placed)

  -- ---- block by block

  module _ (front b rest : List Entry) (split : front ++ (b ++ rest) ≡ es) where
    there_too : (j : ℕ) (d : Entry) → slice_get b j ≡ Some d → slice_get es (length front + j) ≡ Some d
    there_too j d get = ap (λ z. slice_get z (length front + j)) (sym split) ∙ get_behind front (b ++ rest) j ∙ get_left b rest j d get

    in_front : take (length front) es ≡ front
    in_front = ap (take (length front)) (sym split) ∙ take_at front (b ++ rest) (length front) refl

    in_front_too : take (length (front ++ b)) es ≡ front ++ b
    in_front_too = ap (take (length (front ++ b))) (sym (append_assoc front b rest ∙ split)) ∙ take_at (front ++ b) rest (length (front ++ b)) refl

    in_place : take (length b) (drop (length front) es) ≡ b
    in_place = ap (λ z. take (length b) (drop (length front) z)) (sym split) ∙ ap (take (length b)) (drop_front front (b ++ rest)) ∙ take_at b rest (length b) refl

    module _ (t : Table) (here : IsBetween (length front) t) where
      state_here : half_after geom finite.empty [] (journal_among front) ≡ (t, [])
      state_here = ap (λ z. half_after geom finite.empty [] (journal_among z)) (sym in_front) ∙ here.table

      -- the last entry of a block leaves no batch begun
      ended : (k : ℕ) (d : Entry) → length b ≡ suc k → slice_get b k ≡ Some d → is_last d ≡ true → is_begun (before es (length (front ++ b))) ≡ false
      ended k d long get last =
          let at : length (front ++ b) ≡ suc (length front + k) = omega (arith, length-append front b) in
          ap (λ z. is_begun (before es z)) at ∙ ap is_begun (there_too k d get) ∙ ap not last

      alone_placed : (x : Entry) → b ≡ x ∷ [] → x.batch ≡ 0 → x.reply ≡ (apply geom x.call t).1 → (k : ℕ) (e : Entry) → slice_get b k ≡ Some e → IsPlaced (length front + k) e
      alone_placed x is none answered k e get = by k (ap (λ z. slice_get z k) (sym is) ∙ get) where
        by : (k : ℕ) → slice_get (x ∷ []) k ≡ Some e → IsPlaced (length front + k) e
        by zero g =
            let at : length front ≡ length front + 0 = omega arith in
            subst (IsPlaced (length front + 0)) (same_Some _ _ g) (inl (record { t = t; here = subst (λ z. IsBetween z t) at here; batch_is = none; reply_is = answered }))
        by (suc k) g = absurd (cc)

      alone_between : (x : Entry) → b ≡ x ∷ [] → x.batch ≡ 0 → IsBetween (length (front ++ b)) (apply geom x.call t).0
      alone_between x is none =
          record {
            none = ended 0 x (ap length is) (ap (λ z. slice_get z 0) is) (is_the_last x (omega arith));
            table = ap (λ z. half_after geom finite.empty [] (journal_among z)) (in_front_too ∙ ap (λ z. front ++ z) is) ∙ after_call geom front x t state_here none;
          }

      module _ (rank seq at : ℕ) where
        batch_placed : (batch : ℕ) → IsBlock rank batch seq at b → replies_of b ≡ (apply_block geom batch (calls_of b) t).1 → (k : ℕ) (e : Entry) → slice_get b k ≡ Some e → IsPlaced (length front + k) e
        batch_placed zero is answered k e get = by b refl is answered where
          by : (z : List Entry) → b ≡ z → IsBlock rank 0 seq at z → replies_of z ≡ (apply_block geom 0 (calls_of z) t).1 → IsPlaced (length front + k) e
          by [] same is answered = absurd (let w = is.whole in omega arith)
          by (x ∷ []) same is answered = alone_placed x same is.parts.0.batch_is (let h : x.reply ∷ [] ≡ (apply geom x.call t).1 ∷ [] = answered in cc) k e get
          by (x ∷ y ∷ ys) same is answered = absurd (let w = is.whole in omega arith)
        batch_placed (suc zero) is answered k e get = absurd (is.not_one refl)
        batch_placed (suc (suc m)) is answered k e get =
            inr (record {
              t = t;
              from = length front;
              here = here;
              rank = rank;
              n = suc (suc m);
              seq = seq;
              at = at;
              b = b;
              is = is;
              two = omega arith;
              k = k;
              place = refl;
              there = get;
              stands = ap (λ z. take z (drop (length front) es)) (sym is.whole) ∙ in_place;
              in_all = there_too;
              replies = answered;
            })

        batch_between : (batch : ℕ) → IsBlock rank batch seq at b → IsBetween (length (front ++ b)) (table_after geom t b)
        batch_between batch is =
            record {
              none = by b refl is.whole;
              table = ap (λ z. half_after geom finite.empty [] (journal_among z)) in_front_too ∙ behind geom front b t state_here
                  ∙ ap (half_after geom t []) (filter_all updates b (λ j f get. (part_at rank batch seq at 0 b j f is.parts get).is_update))
                  ∙ block_half geom rank batch seq at t b is ∙ ap (λ z. (z, [])) (sym (block_done geom rank batch seq at t b is));
            } where
              by : (z : List Entry) → b ≡ z → length b ≡ size_of batch → is_begun (before es (length (front ++ b))) ≡ false
              by [] same whole = absurd (let long : length b ≡ 0 = ap length same in let p = (size_pos geom batch).1 in omega arith)
              by (x ∷ xs) same whole =
                  let long : length b ≡ suc (length xs) = ap length same in
                  let d = some_at b (length xs) (omega arith) in
                  let q = part_at rank batch seq at 0 b (length xs) d.0 is.parts d.1 in
                  ended (length xs) d.0 long d.1 (is_the_last d.0 (let low = (size_pos geom batch).0 in let x = q.batch_is in let y = q.part_is in omega arith))

      -- what is placed in the block and behind it
      both : ((k : ℕ) (e : Entry) → slice_get b k ≡ Some e → IsPlaced (length front + k) e) → ((k : ℕ) (e : Entry) → slice_get rest k ≡ Some e → IsPlaced (length (front ++ b) + k) e) →
          (k : ℕ) (e : Entry) → slice_get (b ++ rest) k ≡ Some e → IsPlaced (length front + k) e
      both in_b later k e get =
          ⊎_elim
          (λ q. in_b k e q.1)
          (λ q. let at : length (front ++ b) + q.0 ≡ length front + k = let h = q.1 in omega (arith, length-append front b) in subst (λ z. IsPlaced z e) at (later q.0 e q.2))
          (get_cases b rest k e get)

  walk : (front : List Entry) (t : Table) (n : ℕ) (bs : List (List Entry)) → front ++ blocks_joined bs ≡ es → IsBetween (length front) t → IsReplayed geom t n bs →
      ((k : ℕ) (e : Entry) → slice_get (blocks_joined bs) k ≡ Some e → IsPlaced (length front + k) e) × (is_begun (before es (length es)) ≡ false)
  walk front t n [] split here r = (
    (λ k e get. absurd (cc)),
    (let long : length front ≡ length es = omega (arith, length-append front [], ap length split) in subst (λ m. is_begun (before es m) ≡ false) long here.none),
  )
  walk front t n (b ∷ bs) split here r =
      ⊎_elim
      (λ q.
      let x : Entry = q.0.entry in
      let there : slice_get es (length front + 0) ≡ Some x = there_too front b (blocks_joined bs) split 0 x (ap (λ z. slice_get z 0) q.0.alone) in
      let none : x.batch ≡ 0 = alone (length front + 0) x there q.0.is in
      let on = walk (front ++ b) (apply geom x.call t).0 n bs (append_assoc front b (blocks_joined bs) ∙ split) (alone_between front b (blocks_joined bs) split t here x q.0.alone none) q.1 in
      (both front b (blocks_joined bs) split t here (alone_placed front b (blocks_joined bs) split t here x q.0.alone none q.0.answered) on.0, on.1))
      (λ q.
      let l : IsLegalBlock geom t n b = q.0 in
      let on = walk (front ++ b) (table_after geom t b) (n + length b) bs (append_assoc front b (blocks_joined bs) ∙ split) (batch_between front b (blocks_joined bs) split t here l.rank l.seq n l.batch l.is) q.1 in
      (both front b (blocks_joined bs) split t here (batch_placed front b (blocks_joined bs) split t here l.rank l.seq n l.batch l.is l.answered) on.0, on.1))
      r

  pub replay_placed : (n : ℕ) (bs : List (List Entry)) → blocks_joined bs ≡ es → IsReplayed geom finite.empty n bs →
      ((k : ℕ) (e : Entry) → slice_get es k ≡ Some e → IsPlaced k e) × (is_begun (before es (length es)) ≡ false)
  replay_placed n bs split r =
      let all = walk [] finite.empty n bs split (record { none = refl; table = refl }) r in
      ((λ k e get. let at : 0 + k ≡ k = omega arith in subst (λ z. IsPlaced z e) at (all.0 k e (ap (λ z. slice_get z k) split ∙ get))), all.1)
