-- Calls decided one after the other come to what their block does: all of them, or none.
use Rattle.std.specs.Prelude.{◌≡◌, ℕ, zero, suc, ◌+◌, ◌^◌, ◌≤◌, ◌==◌, Bool, true, false, not, ◌&&◌, ◌||◌, cond, List, [], ◌∷◌, ◌++◌, All, length, replicate, refl}
use Rattle.std.proofs.Common.{sym, ◌∙◌, ap, arith, length-append}
use Rattle.std.proofs.lemmas.List.Elements.{All-cons, All-nil}
use Rattle.std.proofs.lemmas.Bool.Decides.{nat_tests}
use Rattle.rl_model.specs.declared.call.Call.{Call}
use Rattle.rl_model.specs.declared.entry.Reply.{Reply}
use Rattle.rl_model.specs.declared.entry.Reply.TheVariants.{Undone}
use Rattle.rl_model.specs.declared.geom.Geom.{Geom}
use Rattle.rl_model.specs.Table.{Table, apply}
use Rattle.rl_volume.specs.declared.write.Write.{Write}
use Rattle.rl_volume.specs.Decision.{words_written}
use Rattle.rl_journal.specs.Blocks.{stops, in_turn, any_stops, undone, only_first, apply_batch, apply_block, size_of, AreUpdates, calls_of, replies_of, AreParts}
use Rattle.rl_model.specs.Asked.{batch_number}
use Rattle.rl_journal.specs.Ranks.{IsOwn}
use Rattle.rl_work.specs.Work.{entries_of, stops_block}

-- the writes of some calls behind those of others
pub written_append : (words : List ℕ) (ws vs : List Write) → words_written words (ws ++ vs) ≡ words_written (words_written words ws) vs
written_append words [] vs = refl
written_append words (w ∷ ws) vs = written_append _ ws vs

module _ (geom : Geom) where
  pub turn_length : (t : Table) (cs : List Call) → length (in_turn geom t cs).1 ≡ length cs
  turn_length t [] = refl
  turn_length t (c ∷ cs) = ap suc (turn_length (apply geom c t).0 cs)

  -- one call more
  pub turn_table : (t : Table) (cs : List Call) (c : Call) → (in_turn geom t (cs ++ c ∷ [])).0 ≡ (apply geom c (in_turn geom t cs).0).0
  turn_table t [] c = refl
  turn_table t (d ∷ cs) c = turn_table (apply geom d t).0 cs c

  -- calls behind others
  pub turn_replies : (t : Table) (cs ds : List Call) → (in_turn geom t (cs ++ ds)).1 ≡ (in_turn geom t cs).1 ++ (in_turn geom (in_turn geom t cs).0 ds).1
  turn_replies t [] ds = refl
  turn_replies t (c ∷ cs) ds = ap (λ z. (apply geom c t).1 ∷ z) (turn_replies (apply geom c t).0 cs ds)

pub any_append : (xs ys : List Reply) → any_stops (xs ++ ys) ≡ (any_stops xs || any_stops ys)
any_append [] ys = refl
any_append (x ∷ xs) ys = elim (stops x) as (λ b. (b || any_stops (xs ++ ys)) ≡ ((b || any_stops xs) || any_stops ys)) [ true ↦ refl | false ↦ any_append xs ys ]

-- the first reply that stops a batch, behind others
pub first_stop : (xs : List Reply) (a : Reply) (ys : List Reply) → any_stops xs ≡ false → stops a ≡ true →
    only_first (xs ++ a ∷ ys) ≡ undone xs ++ a ∷ undone ys
first_stop [] a ys none is = ap (λ b. cond b (a ∷ undone ys) (Undone ∷ only_first ys)) is
first_stop (x ∷ xs) a ys none is =
    elim (stops x) as (λ b. (b || any_stops xs) ≡ false → cond b (x ∷ undone (xs ++ a ∷ ys)) (Undone ∷ only_first (xs ++ a ∷ ys)) ≡ Undone ∷
    (undone xs ++ a ∷ undone ys)) [
      | true ↦ λ n. absurd (cc)
      | false ↦ λ n. ap (λ z. Undone ∷ z) (first_stop xs a ys n is)
    ] none

pub undone_same : {X : Type 0} {Y : Type 0} (xs : List X) (ys : List Y) → length xs ≡ length ys → undone xs ≡ undone ys
undone_same [] [] e = refl
undone_same [] (y ∷ ys) e = absurd (omega arith)
undone_same (x ∷ xs) [] e = absurd (omega arith)
undone_same (x ∷ xs) (y ∷ ys) e = ap (λ z. Undone ∷ z) (undone_same xs ys (omega arith))

undone_many : {X : Type 0} (xs : List X) → replicate (length xs) Undone ≡ undone xs
undone_many [] = refl
undone_many (x ∷ xs) = ap (λ z. Undone ∷ z) (undone_many xs)

-- as many undone calls as there are replies, and as many as there are calls left
pub undone_filled : {X : Type 0} (rs : List Reply) (a : Reply) (cs : List X) (before after : ℕ) → before ≡ length rs → after ≡ length cs →
    replicate before Undone ++ a ∷ replicate after Undone ≡ undone rs ++ a ∷ undone cs
undone_filled rs a cs before after b l =
    ap (λ n. replicate n Undone ++ a ∷ replicate after Undone) b ∙ ap (λ n. replicate (length rs) Undone ++ a ∷ replicate n Undone) l
    ∙ ap (λ z. z ++ a ∷ replicate (length cs) Undone) (undone_many rs) ∙ ap (λ z. undone rs ++ a ∷ z) (undone_many cs)

-- the batch number of a call alone, and of more
pub batch_alone : (n : ℕ) → n ≡ 1 → batch_number n ≡ 0
batch_alone n e = ap batch_number e

pub batch_more : (n : ℕ) → (n ≡ 1 → ⊥) → batch_number n ≡ n
batch_more n other = let miss : (n == 1) ≡ false = by_test (n == 1) refl in ap (λ b. cond {A = ℕ} b 0 n) miss where
  by_test : (b : Bool) → (n == 1) ≡ b → b ≡ false
  by_test true e = absurd (other (grind (arith, nat_tests)))
  by_test false e = refl

pub batch_size : (n : ℕ) → 1 ≤ n → size_of (batch_number n) ≡ n
batch_size n some =
    elim (n == 1) as (λ b. (n == 1) ≡ b → size_of (cond b 0 n) ≡ n) [
      | true ↦ λ e. let one : n ≡ 1 = grind (arith, nat_tests) in sym one
      | false ↦ λ e. pos n some
    ] refl
  where
    pos : (m : ℕ) → 1 ≤ m → size_of m ≡ m
    pos zero h = absurd (omega arith)
    pos (suc m) h = refl

pub batch_few : (n : ℕ) → n ≤ 8 → batch_number n ≤ 8
batch_few n few = elim (n == 1) as (λ b. cond b 0 n ≤ 8) [ true ↦ omega arith | false ↦ few ]

pub batch_not_one : (n : ℕ) → batch_number n ≡ 1 → ⊥
batch_not_one n is =
    elim (n == 1) as (λ b. (n == 1) ≡ b → cond {A = ℕ} b 0 n ≡ 1 → ⊥) [
      | true ↦ λ e h. absurd (omega arith)
      | false ↦ λ e h. let hit : (n == 1) ≡ true = ap (λ m. m == 1) h in absurd (cc)
    ] refl is

module _ (geom : Geom) (t : Table) where
  as_batch : (n : ℕ) (cs : List Call) → 1 ≤ n → apply_block geom n cs t ≡ apply_batch geom cs t
  as_batch zero cs h = absurd (omega arith)
  as_batch (suc n) cs h = refl

  -- a block that nothing stops
  pub block_runs : (cs : List Call) → 1 ≤ length cs → ((length cs ≡ 1 → ⊥) → any_stops (in_turn geom t cs).1 ≡ false) →
      apply_block geom (batch_number (length cs)) cs t ≡ in_turn geom t cs
  block_runs cs some none =
      elim (length cs == 1) as (λ b. (length cs == 1) ≡ b → apply_block geom (batch_number (length cs)) cs t ≡ in_turn geom t cs) [
        | true ↦ λ e. let one : length cs ≡ 1 = grind (arith, nat_tests) in ap (λ n. apply_block geom n cs t) (batch_alone (length cs) one)
        | false ↦ λ e.
            let other : length cs ≡ 1 → ⊥ = λ one. let hit : (length cs == 1) ≡ true = ap (λ n. n == 1) one in cc in
            ap (λ n. apply_block geom n cs t) (batch_more (length cs) other) ∙ as_batch (length cs) cs some
            ∙ ap (λ b. cond {A = Table × List Reply} b (t, only_first (in_turn geom t cs).1) (in_turn geom t cs)) (none other)
      ] refl

  -- a batch that a call stops
  pub block_stops : (first : List Call) (c : Call) (rest : List Call) → (length (first ++ c ∷ rest) ≡ 1 → ⊥) →
      any_stops (in_turn geom t first).1 ≡ false → stops (apply geom c (in_turn geom t first).0).1 ≡ true →
      apply_block geom (batch_number (length (first ++ c ∷ rest))) (first ++ c ∷ rest) t
      ≡ (t, undone (in_turn geom t first).1 ++ (apply geom c (in_turn geom t first).0).1 ∷ undone rest)
  block_stops first c rest other none is =
      let cs : List Call = first ++ c ∷ rest in
      let m : Table = (in_turn geom t first).0 in
      let a : Reply = (apply geom c m).1 in
      let later : List Reply = (in_turn geom (apply geom c m).0 rest).1 in
      let some : 1 ≤ length cs = omega (arith, length-append first (c ∷ rest)) in
      let replies : (in_turn geom t cs).1 ≡ (in_turn geom t first).1 ++ a ∷ later = turn_replies geom t first (c ∷ rest) in
      let hit : any_stops (in_turn geom t cs).1 ≡ true =
      ap any_stops replies ∙ any_append (in_turn geom t first).1 (a ∷ later) ∙ ap (λ b. b || (stops a || any_stops later)) none
      ∙ ap (λ b. b || any_stops later) is in
      ap (λ n. apply_block geom n cs t) (batch_more (length cs) other) ∙ as_batch (length cs) cs some
      ∙ ap (λ b. cond {A = Table × List Reply} b (t, only_first (in_turn geom t cs).1) (in_turn geom t cs)) hit
      ∙ ap (λ z. (t, only_first z)) replies ∙ ap (λ z. (t, z)) (first_stop (in_turn geom t first).1 a later none is)
      ∙ ap (λ z. (t, undone (in_turn geom t first).1 ++ a ∷ z)) (undone_same later rest (turn_length geom (apply geom c m).0 rest))

-- what a test of stopping says
pub stops_is : (n : ℕ) (a : Reply) → stops_block n a ≡ true → (n ≡ 1 → ⊥) × (stops a ≡ true)
stops_is n a e =
    elim (n == 1) as (λ b. (n == 1) ≡ b → (not b && stops a) ≡ true → (n ≡ 1 → ⊥) × (stops a ≡ true)) [
      | true ↦ λ h is. absurd (cc)
      | false ↦ λ h is. (λ one. let hit : (n == 1) ≡ true = ap (λ m. m == 1) one in cc, is)
    ] refl e

pub goes_is : (n : ℕ) (a : Reply) → stops_block n a ≡ false → (n ≡ 1 → ⊥) → stops a ≡ false
goes_is n a e other =
    elim (n == 1) as (λ b. (n == 1) ≡ b → (not b && stops a) ≡ false → stops a ≡ false) [
      | true ↦ λ h is. absurd (other (grind (arith, nat_tests)))
      | false ↦ λ h is. is
    ] refl e

-- the entries of calls and replies
module _ (shard rank batch : ℕ) where
  pub entries_calls : (seq at part : ℕ) (cs : List Call) (rs : List Reply) → length rs ≡ length cs →
      calls_of (entries_of shard rank batch seq at part cs rs) ≡ cs
  entries_calls seq at part [] rs e = refl
  entries_calls seq at part (c ∷ cs) [] e = absurd (omega arith)
  entries_calls seq at part (c ∷ cs) (a ∷ rs) e = ap (λ z. c ∷ z) (entries_calls (seq + 1) (at + 1) (part + 1) cs rs (omega arith))

  pub entries_replies : (seq at part : ℕ) (cs : List Call) (rs : List Reply) → length rs ≡ length cs →
      replies_of (entries_of shard rank batch seq at part cs rs) ≡ rs
  entries_replies seq at part [] [] e = refl
  entries_replies seq at part [] (a ∷ rs) e = absurd (omega arith)
  entries_replies seq at part (c ∷ cs) [] e = absurd (omega arith)
  entries_replies seq at part (c ∷ cs) (a ∷ rs) e = ap (λ z. a ∷ z) (entries_replies (seq + 1) (at + 1) (part + 1) cs rs (omega arith))

  pub entries_length : (seq at part : ℕ) (cs : List Call) (rs : List Reply) → length rs ≡ length cs →
      length (entries_of shard rank batch seq at part cs rs) ≡ length cs
  entries_length seq at part [] rs e = refl
  entries_length seq at part (c ∷ cs) [] e = absurd (omega arith)
  entries_length seq at part (c ∷ cs) (a ∷ rs) e = ap suc (entries_length (seq + 1) (at + 1) (part + 1) cs rs (omega arith))

  pub entries_parts : (seq at part : ℕ) (cs : List Call) (rs : List Reply) → AreUpdates cs →
      AreParts rank batch seq at part (entries_of shard rank batch seq at part cs rs)
  entries_parts seq at part [] rs all = tt
  entries_parts seq at part (c ∷ cs) [] all = tt
  entries_parts seq at part (c ∷ cs) (a ∷ rs) all = (
    record { is_update = all.0; rank_is = refl; batch_is = refl; seq_is = refl; place = refl; part_is = refl },
    entries_parts (seq + 1)
        (at + 1) (part + 1) cs rs all.1,
  )

  pub entries_own : (seq at part : ℕ) (cs : List Call) (rs : List Reply) → seq + length cs ≤ 2 ^ 32 →
      All (IsOwn shard rank) (entries_of shard rank batch seq at part cs rs)
  entries_own seq at part [] rs low = All-nil (IsOwn shard rank)
  entries_own seq at part (c ∷ cs) [] low = All-nil (IsOwn shard rank)
  entries_own seq at part (c ∷ cs) (a ∷ rs) low =
      All-cons (IsOwn shard rank) _ (entries_of shard rank batch (seq + 1) (at + 1) (part + 1) cs rs)
      (record { shard_is = refl; rank_is = refl; small = omega arith }) (entries_own (seq + 1) (at + 1) (part + 1) cs rs (omega arith))
