-- Lists that are filtered, told for each shard, or joined; and what calls that fit ask for.
use Rattle.std.proofs.Common.{◌≡◌, ℕ, zero, suc, ◌+◌, ◌<◌, ◌≤◌, Bool, true, false, cond, eqb, ltb, List, [], ◌∷◌, ◌++◌, length, map, Some, refl, sym, ap, subst, ◌∙◌, ⊎_elim, arith, ◌⊎◌, inl, inr}
use Rattle.std.specs.Prelude.{slice_get, flat_map}
use Rattle.std.specs.List.{AllByRecursion, filter, count_by}
use Rattle.std.proofs.lemmas.Bool.Decides.{nat_tests}
use Rattle.std.proofs.lemmas.List.Concat.{flat_map-cons}
use Rattle.std.proofs.lemmas.Option.{same_Some}
use Rattle.rl_model.specs.declared.call.Call.{Call}
use Rattle.rl_model.specs.declared.entry.Entry.{Entry}
use Rattle.rl_model.specs.Asked.{Asked, AreUpdates, batch_number}
use Rattle.rl_model.specs.Call.{is_update}
use Rattle.rl_model.specs.Table.{sum_below}
use Rattle.rl_model.proofs.Counts.{count-cons, count-append, sum_of_counts}
use Rattle.rl_journal.specs.Legal.{blocks_joined}
use Rattle.rl_journal.specs.laws.Lists.{get_cases, get_left}
use Rattle.rl_journal.specs.Ranks.{count_in}
use Rattle.rl_ops.specs.Asked.{asked_after, asked_of}
use Rattle.rl_ops.specs.Blocks.{AreOneBlock, sizes_of}
use Rattle.rl_ops.specs.Ops.{AreBlocks}
use Rattle.rl_check.specs.Ranks.{Stands}

-- ---- lists

pub one_of_all : {X : Type 0} (P : X → Type 0) (xs : List X) (i : ℕ) (x : X) → AllByRecursion P xs → slice_get xs i ≡ Some x → P x
one_of_all P [] i x all e = absurd (cc)
one_of_all P (y ∷ xs) zero x all e = subst P (same_Some _ _ e) all.0
one_of_all P (y ∷ xs) (suc i) x all e = one_of_all P xs i x all.1 e

pub kept_there : {X : Type 0} (p : X → Bool) (xs : List X) (i : ℕ) (e : X) → slice_get xs i ≡ Some e → p e ≡ true → (j : ℕ) × (slice_get (filter p xs) j ≡ Some e)
kept_there p [] i e has hit = absurd (cc)
kept_there p (x ∷ xs) zero e has hit =
    let here : p x ≡ true = ap p (same_Some _ _ has) ∙ hit in (0, ap (λ b. slice_get (cond b (x ∷ filter p xs) (filter p xs)) 0) here ∙ has)
kept_there p (x ∷ xs) (suc i) e has hit =
    let on = kept_there p xs i e has hit in
    elim (p x) as (λ b. p x ≡ b → (j : ℕ) × (slice_get (filter p (x ∷ xs)) j ≡ Some e)) [
      | true ↦ λ q. (suc on.0, ap (λ b. slice_get (cond b (x ∷ filter p xs) (filter p xs)) (suc on.0)) q ∙ on.1)
      | false ↦ λ q. (on.0, ap (λ b. slice_get (cond b (x ∷ filter p xs) (filter p xs)) on.0) q ∙ on.1)
    ] refl

pub was_there : {X : Type 0} (p : X → Bool) (xs : List X) (j : ℕ) (e : X) → slice_get (filter p xs) j ≡ Some e → (p e ≡ true) × (i : ℕ) × (slice_get xs i ≡ Some e)
was_there p [] j e has = absurd (cc)
was_there p (x ∷ xs) j e has = by (p x) refl j has (λ j h. was_there p xs j e h) where
  by : (b : Bool) → p x ≡ b → (j : ℕ) → slice_get (cond b (x ∷ filter p xs) (filter p xs)) j ≡ Some e → ((j : ℕ) → slice_get (filter p xs) j ≡ Some e → (p e ≡ true) × (i : ℕ) × (slice_get xs i ≡ Some e)) →
      (p e ≡ true) × (i : ℕ) × (slice_get (x ∷ xs) i ≡ Some e)
  by true hit zero has later = (ap p (sym (same_Some _ _ has)) ∙ hit, 0, has)
  by true hit (suc j) has later = let q = later j has in (q.0, suc q.1, q.2)
  by false miss j has later = let q = later j has in (q.0, suc q.1, q.2)

pub flat_joined : {X : Type 0} (f : X → List Entry) (xs : List X) → flat_map f xs ≡ blocks_joined (map f xs)
flat_joined f [] = refl
flat_joined f (x ∷ xs) = flat_map-cons f x xs ∙ ap (λ z. f x ++ z) (flat_joined f xs)

pub count_joined : (test : Entry → Bool) (ts : List (List Entry)) → count_by test (blocks_joined ts) ≡ count_in test ts
count_joined test [] = refl
count_joined test (t ∷ ts) = omega (arith, count-append test t (blocks_joined ts), count_joined test ts)

pub get_behind : {X : Type 0} (xs ys : List X) (i : ℕ) → slice_get (xs ++ ys) (length xs + i) ≡ slice_get ys i
get_behind [] ys i = ap (slice_get ys) (omega arith)
get_behind (x ∷ xs) ys i = let e : length (x ∷ xs) + i ≡ suc (length xs + i) = omega arith in ap (slice_get (x ∷ (xs ++ ys))) e ∙ get_behind xs ys i

-- the first entry, or one behind it
pub head_or : (x : Entry) (xs : List Entry) (e : Entry) → Stands (x ∷ xs) e → (x ≡ e) ⊎ Stands xs e
head_or x xs e h = by h.0 h.1 where
  by : (i : ℕ) → slice_get (x ∷ xs) i ≡ Some e → (x ≡ e) ⊎ Stands xs e
  by zero get = inl (same_Some _ _ get)
  by (suc i) get = inr (i, get)

-- an entry of some lists
pub record StandsIn (ts : List (List Entry)) (e : Entry) : Type 0 where
  pub s : ℕ
  pub t : List Entry
  pub list : slice_get ts s ≡ Some t
  pub j : ℕ
  pub there : slice_get t j ≡ Some e

pub stands_in : (ts : List (List Entry)) (e : Entry) → Stands (blocks_joined ts) e → StandsIn ts e
stands_in [] e h = absurd (let bad = h.1 in cc)
stands_in (t ∷ ts) e h =
    ⊎_elim
    (λ q. record { s = 0; t = t; list = refl; j = h.0; there = q.1 })
    (λ q. let r = stands_in ts e (q.0, q.2) in record { s = suc r.s; t = r.t; list = r.list; j = r.j; there = r.there })
    (get_cases t (blocks_joined ts) h.0 e h.1)

pub stands_out : (ts : List (List Entry)) (s : ℕ) (t : List Entry) (j : ℕ) (e : Entry) → slice_get ts s ≡ Some t → slice_get t j ≡ Some e → Stands (blocks_joined ts) e
stands_out [] s t j e list there = absurd (cc)
stands_out (u ∷ ts) zero t j e list there = (j, get_left u (blocks_joined ts) j e (ap (λ z. slice_get z j) (same_Some _ _ list) ∙ there))
stands_out (u ∷ ts) (suc s) t j e list there = let q = stands_out ts s t j e list there in (length u + q.0, get_behind u (blocks_joined ts) q.0 ∙ q.1)

-- ---- counts

all_under : (n : ℕ) (es : List Entry) → ((e : Entry) → Stands es e → e.seq < n) → count_by (λ (e : Entry). ltb e.seq n) es ≡ length es
all_under n [] all = refl
all_under n (e ∷ es) all =
    let low : e.seq < n = all e (0, refl) in
    let hit : ltb e.seq n ≡ true = grind (arith, nat_tests) in
    let one_is : ◌≡◌ {A = ℕ} (cond (ltb e.seq n) 1 0) 1 = ap (λ b. cond {A = ℕ} b 1 0) hit in
    omega (arith, count-cons (λ (g : Entry). ltb g.seq n) e es, all_under n es (λ f h. all f (suc h.0, h.1)))

pub ones : (f : ℕ → ℕ) (n : ℕ) → ((k : ℕ) → k < n → f k ≡ 1) → sum_below f n ≡ n
ones f zero one = refl
ones f (suc n) one = omega (arith, ones f n (λ k h. one k (omega arith)), one n (omega arith))

-- where each number below n is there once, and no other, there are n
pub as_many : (n : ℕ) (es : List Entry) → ((e : Entry) → Stands es e → e.seq < n) → ((i : ℕ) → i < n → count_by (λ (e : Entry). eqb e.seq i) es ≡ 1) → length es ≡ n
as_many n es low once =
    sym (all_under n es low) ∙ sym (sum_of_counts (λ (e : Entry). e.seq) n es) ∙ ones (λ i. count_by (λ (e : Entry). eqb e.seq i) es) n once

-- ---- what is asked for

-- a call of a batch is an update
abbrev pub IsRightlyBatched : Asked → Type 0
IsRightlyBatched a = is_update a.call ≡ false → a.batch ≡ 0

module _ (shards : ℕ) where
  later_are : (batch part : ℕ) (cs calls : List Call) (sizes : List ℕ) → AreUpdates cs → ((b p : ℕ) → AllByRecursion IsRightlyBatched (asked_after b p calls sizes)) →
      AllByRecursion IsRightlyBatched (asked_after batch part (cs ++ calls) (map (λ (z : Call). 0) cs ++ sizes))
  later_are batch part [] calls sizes all on = on batch part
  later_are batch part (c ∷ cs) calls sizes all on = ((λ r. absurd (let bad : true ≡ false = sym all.0 ∙ r in cc)), later_are batch (part + 1) cs calls sizes all.1 on)

  block_are : (batch part : ℕ) (block calls : List Call) (sizes : List ℕ) → AreOneBlock shards block → ((b p : ℕ) → AllByRecursion IsRightlyBatched (asked_after b p calls sizes)) →
      AllByRecursion IsRightlyBatched (asked_after batch part (block ++ calls) (sizes_of block ++ sizes))
  block_are batch part [] calls sizes is on = absurd (let some : 1 ≤ 0 = is.asked.some in omega arith)
  block_are batch part (c ∷ []) calls sizes is on = ((λ r. refl), on (batch_number 1) 1)
  block_are batch part (c ∷ d ∷ cs) calls sizes is on = by (is_update c) refl where
    by : (b : Bool) → is_update c ≡ b → AllByRecursion IsRightlyBatched (asked_after batch part ((c ∷ d ∷ cs) ++ calls) (sizes_of (c ∷ d ∷ cs) ++ sizes))
    by true y =
        let all : AreUpdates (c ∷ d ∷ cs) = is.asked.all_update y in
        ((λ r. absurd (let bad : true ≡ false = sym y ∙ r in cc)), later_are (batch_number (suc (suc (length cs)))) 1 (d ∷ cs) calls sizes all.1 on)
    by false n = absurd (let one : suc (suc (length cs)) ≡ 1 = is.asked.alone n in omega arith)

  blocks_are : (batch part : ℕ) (blocks : List (List Call)) → AllByRecursion (AreOneBlock shards) blocks →
      AllByRecursion IsRightlyBatched (asked_after batch part (flat_map (λ (b : List Call). b) blocks) (flat_map sizes_of blocks))
  blocks_are batch part [] all = tt
  blocks_are batch part (block ∷ blocks) all =
      subst (λ z. AllByRecursion IsRightlyBatched (asked_after batch part z (flat_map sizes_of (block ∷ blocks)))) (sym (flat_map-cons (λ (b : List Call). b) block blocks))
      (subst (λ z. AllByRecursion IsRightlyBatched (asked_after batch part (block ++ flat_map (λ (b : List Call). b) blocks) z)) (sym (flat_map-cons sizes_of block blocks))
      (block_are batch part block (flat_map (λ (b : List Call). b) blocks) (flat_map sizes_of blocks) all.0 (λ b p. blocks_are b p blocks all.1)))

  pub asked_rightly : (calls : List Call) (sizes : List ℕ) → AreBlocks shards calls sizes → AllByRecursion IsRightlyBatched (asked_of calls sizes)
  asked_rightly calls sizes are =
      subst (λ z. AllByRecursion IsRightlyBatched (asked_of z sizes)) (sym are.calls_are)
      (subst (λ z. AllByRecursion IsRightlyBatched (asked_of (flat_map (λ (b : List Call). b) are.blocks) z)) (sym are.sizes_are) (blocks_are 0 0 are.blocks are.fit))
