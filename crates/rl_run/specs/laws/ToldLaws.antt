-- The report of closed shards is lawful: the parts. What is asked fits; how many entries there are; and lists that are told again.
use Rattle.std.specs.Prelude.{◌≡◌, ℕ, zero, suc, ◌+◌, ◌<◌, ◌≤◌, ◌^◌, ◌==◌, nat_lt, Bool, true, false, not, ◌&&◌, if◌then◌else◌, cond}
use Rattle.std.specs.Prelude.{List, [], ◌∷◌, ◌++◌, count_by, filter, flat_map, length, map, sum_by, slice_get, Some, None, refl}
use Rattle.std.specs.List.{AllByRecursion}
use Rattle.std.specs.Ordering.{nat_cmp, is_lt}
use Rattle.std.specs.declared.cmp.Ordering.TheVariants.{Less, Equal, Greater}
use Rattle.std.specs.FinMap.Entries.{is_sorted, below_all}
use Rattle.std.proofs.Common.{sym, ◌∙◌, ap, subst, inl, inr, arith, T}
use Rattle.std.proofs.lemmas.Bool.Decides.{nat_tests}
use Rattle.std.proofs.lemmas.List.Concat.{flat_map-cons}
use Rattle.std.proofs.lemmas.List.Sums.{sum_by-cons}
use Rattle.std.proofs.lemmas.Option.{same_Some}
use Rattle.rl_model.specs.declared.call.Call.{Call}
use Rattle.rl_model.specs.declared.entry.Entry.{Entry}
use Rattle.rl_model.specs.Asked.{Asked, batch_number}
use Rattle.rl_model.proofs.Counts.{count-cons}
use Rattle.rl_journal.specs.Legal.{is_of}
use Rattle.rl_journal.specs.History.{AreOwn}
use Rattle.rl_journal.specs.Ranks.{count_in}
use Rattle.rl_ops.specs.CallSpelling.{CallFits}
use Rattle.rl_ops.specs.Blocks.{AreOneBlock, sizes_of}
use Rattle.rl_ops.specs.Ops.{AreBlocks}
use Rattle.rl_ops.specs.Asked.{asked_after, asked_of}
use Rattle.rl_core.specs.RankGood.{entries_in}
use Rattle.rl_report.specs.Reports.{PartFits, EachAfter, PairFits, pair_key}
use Rattle.rl_report.specs.Lawful.{transcripts_in}

-- ---- lists

none_passes : {X : Type 0} (p : X → Bool) (xs : List X) (i : ℕ) (e : X) → count_by p xs ≡ 0 → slice_get xs i ≡ Some e → p e ≡ false
none_passes p [] i e none has = absurd (cc)
none_passes p (x ∷ xs) zero e none has = subst (λ z. p z ≡ false) (same_Some _ _ has) (by_test (p x) refl) where
  by_test : (b : Bool) → p x ≡ b → p x ≡ false
  by_test false q = q
  by_test true q = absurd (let one : ◌≡◌ {A = ℕ} (cond (p x) 1 0) 1 = ap (λ b. cond {A = ℕ} b 1 0) q in omega (arith, count-cons p x xs))
none_passes p (x ∷ xs) (suc i) e none has = none_passes p xs i e (omega (arith, count-cons p x xs)) has

pub no_such : {X : Type 0} (p : X → Bool) (xs : List X) (i : ℕ) (e : X) → count_by p xs ≡ 0 → slice_get xs i ≡ Some e → p e ≡ false
no_such p xs i e none has = none_passes p xs i e none has

pub kept_there : {X : Type 0} (p : X → Bool) (xs : List X) (i : ℕ) (e : X) → slice_get xs i ≡ Some e → p e ≡ true → (j : ℕ) × (slice_get (filter p xs) j ≡ Some e)
kept_there p [] i e has hit = absurd (cc)
kept_there p (x ∷ xs) zero e has hit =
    let here : p x ≡ true = ap p (same_Some _ _ has) ∙ hit in (0, ap (λ b. slice_get (cond b (x ∷ filter p xs) (filter p xs)) 0) here ∙ has)
kept_there p (x ∷ xs) (suc i) e has hit =
    let on = kept_there p xs i e has hit in
    elim (p x) as (λ b. p x ≡ b → (j : ℕ) × (slice_get (filter p (x ∷ xs)) j ≡ Some e)) [
      | true ↦ λ q. (suc on.0, ap (λ b. slice_get (cond b (x ∷ filter p xs) (filter p xs)) (suc on.0)) q ∙ on.1)
      | false ↦ λ q. (on.0, ap (λ b. slice_get (cond b (x ∷ filter p xs) (filter p xs)) on.0) q ∙ on.1)
    ] refl

pub all_by_place : {X : Type 0} (P : X → Type 0) (xs : List X) → ((i : ℕ) (x : X) → slice_get xs i ≡ Some x → P x) → AllByRecursion P xs
all_by_place P [] at = tt
all_by_place P (x ∷ xs) at = (at 0 x refl, all_by_place P xs (λ i y g. at (suc i) y g))

pub one_of_all : {X : Type 0} (P : X → Type 0) (xs : List X) (i : ℕ) (x : X) → AllByRecursion P xs → slice_get xs i ≡ Some x → P x
one_of_all P [] i x all e = absurd (cc)
one_of_all P (y ∷ xs) zero x all e = subst P (same_Some _ _ e) all.0
one_of_all P (y ∷ xs) (suc i) x all e = one_of_all P xs i x all.1 e

-- ---- what is asked for fits

-- a call that fits, as a part of a block
pub record AskedFits (shards : ℕ) (a : Asked) : Type 0 where
  pub call : CallFits shards a.call
  pub part : PartFits a.batch a.part

module _ (shards : ℕ) where
  -- the later calls of a block
  later_fit : (batch part : ℕ) (cs calls : List Call) (sizes : List ℕ) → AllByRecursion (CallFits shards) cs → part + length cs ≤ batch → (0 < length cs → 2 ≤ batch) → batch ≤ 8 →
      ((b p : ℕ) → AllByRecursion (AskedFits shards) (asked_after b p calls sizes)) → AllByRecursion (AskedFits shards) (asked_after batch part (cs ++ calls) (map (λ (z : Call). 0) cs ++ sizes))
  later_fit batch part [] calls sizes fit h two few on = on batch part
  later_fit batch part (c ∷ cs) calls sizes fit h two few on = (
    record { call = fit.0; part = inr (two (omega arith), few, omega arith) },
    later_fit batch (part + 1) cs calls sizes fit.1 (omega arith) (λ some. two (omega arith)) few on,
  )

  block_fit : (batch part : ℕ) (block calls : List Call) (sizes : List ℕ) → AreOneBlock shards block → ((b p : ℕ) → AllByRecursion (AskedFits shards) (asked_after b p calls sizes)) →
      AllByRecursion (AskedFits shards) (asked_after batch part (block ++ calls) (sizes_of block ++ sizes))
  block_fit batch part [] calls sizes is on = absurd (let some : 1 ≤ 0 = is.asked.some in omega arith)
  block_fit batch part (c ∷ []) calls sizes is on = (record { call = is.fit.0; part = inl (refl, refl) }, on (batch_number 1) 1)
  block_fit batch part (c ∷ d ∷ cs) calls sizes is on =
      let many : (suc (suc (length cs)) == 1) ≡ false = grind (arith, nat_tests) in
      let same : batch_number (suc (suc (length cs))) ≡ suc (suc (length cs)) = ap (λ b. if b then 0 else suc (suc (length cs))) many in
      let few : suc (suc (length cs)) ≤ 8 = is.asked.few in (
        record { call = is.fit.0; part = inr (omega arith, omega arith, omega arith) },
        later_fit (batch_number (suc (suc (length cs)))) 1 (d ∷ cs) calls sizes is.fit.1 (omega arith) (λ some. omega arith) (omega arith) on,
      )

  blocks_fit : (batch part : ℕ) (blocks : List (List Call)) → AllByRecursion (AreOneBlock shards) blocks →
      AllByRecursion (AskedFits shards) (asked_after batch part (flat_map (λ (b : List Call). b) blocks) (flat_map sizes_of blocks))
  blocks_fit batch part [] all = tt
  blocks_fit batch part (block ∷ blocks) all =
      subst (λ z. AllByRecursion (AskedFits shards) (asked_after batch part z (flat_map sizes_of (block ∷ blocks)))) (sym (flat_map-cons (λ (b : List Call). b) block blocks))
      (subst (λ z. AllByRecursion (AskedFits shards) (asked_after batch part (block ++ flat_map (λ (b : List Call). b) blocks) z)) (sym (flat_map-cons sizes_of block blocks))
      (block_fit batch part block (flat_map (λ (b : List Call). b) blocks) (flat_map sizes_of blocks) all.0 (λ b p. blocks_fit b p blocks all.1)))

  pub asked_fit : (calls : List Call) (sizes : List ℕ) → AreBlocks shards calls sizes → AllByRecursion (AskedFits shards) (asked_of calls sizes)
  asked_fit calls sizes are =
      subst (λ z. AllByRecursion (AskedFits shards) (asked_of z sizes)) (sym are.calls_are)
      (subst (λ z. AllByRecursion (AskedFits shards) (asked_of (flat_map (λ (b : List Call). b) are.blocks) z)) (sym are.sizes_are) (blocks_fit 0 0 are.blocks are.fit))

-- ---- how many entries there are

pub at_most_all : (ts : List (List Entry)) (s : ℕ) (t : List Entry) → slice_get ts s ≡ Some t → length t ≤ entries_in ts
at_most_all [] s t e = absurd (cc)
at_most_all (u ∷ ts) zero t e = let same : length u ≡ length t = ap length (same_Some _ _ e) in omega arith
at_most_all (u ∷ ts) (suc s) t e = let k = at_most_all ts s t e in omega arith

pub count_all : {X : Type 0} (xs : List X) → count_by (λ (x : X). true) xs ≡ length xs
count_all [] = refl
count_all (x ∷ xs) = omega (arith, count-cons (λ (y : _). true) x xs, count_all xs)

pub few_entries : (ts : List (List Entry)) (lists : List (List Call)) → length ts ≡ length lists →
    ((k : ℕ) (t : List Entry) (calls : List Call) → slice_get ts k ≡ Some t → slice_get lists k ≡ Some calls → length t ≤ length calls) →
    count_in (λ e. true) ts ≤ sum_by (λ (calls : List Call). length calls) lists
few_entries [] [] e le = omega arith
few_entries [] (l ∷ lists) e le = absurd (omega arith)
few_entries (t ∷ ts) [] e le = absurd (omega arith)
few_entries (t ∷ ts) (l ∷ lists) e le =
    omega (arith, le 0 t l refl refl, few_entries ts lists (omega arith) (λ k u c a b. le (suc k) u c a b), count_all t, sum_by-cons (λ (calls : List Call). length calls) l lists)

-- no entry of the ranks' transcripts is of another rank
abbrev pub is_beyond : ℕ → Entry → Bool
is_beyond n e = not (nat_lt e.rank n)

none_beyond : (n r : ℕ) (t : List Entry) → AllByRecursion (λ e. e.rank ≡ r) t → r < n → count_by (is_beyond n) t ≡ 0
none_beyond n r [] each h = refl
none_beyond n r (e ∷ t) each h =
    let low : e.rank < n = let same = each.0 in omega arith in
    let inside : nat_lt e.rank n ≡ true = grind (arith, nat_tests) in
    let no_hit : ◌≡◌ {A = ℕ} (cond (is_beyond n e) 1 0) 0 = ap (λ b. cond {A = ℕ} (not b) 1 0) inside in
    omega (arith, count-cons (is_beyond n) e t, none_beyond n r t each.1 h)

pub ranks_there : (n r : ℕ) (ts : List (List Entry)) → AreOwn r ts → r + length ts ≤ n → count_in (is_beyond n) ts ≡ 0
ranks_there n r [] own h = refl
ranks_there n r (t ∷ ts) own h = omega (arith, none_beyond n r t own.0.0 (omega arith), ranks_there n (r + 1) ts own.1 (omega arith))

-- ---- lists that are told again

pub transcripts_are : (es : List Entry) (k : ℕ) (ts : List (List Entry)) → ((i : ℕ) (t : List Entry) → slice_get ts i ≡ Some t → filter (is_of (k + i)) es ≡ t) → transcripts_in es k (length ts) ≡ ts
transcripts_are es k [] all = refl
transcripts_are es k (t ∷ ts) all =
    let none : k + 0 ≡ k = omega arith in
    let here : filter (is_of k) es ≡ t = ap (λ z. filter (is_of z) es) (sym none) ∙ all 0 t refl in
    ap (λ z. z ∷ transcripts_in es (k + 1) (length ts)) here
    ∙ ap (λ z. t ∷ z) (transcripts_are es (k + 1) ts (λ i u g. let next : k + 1 + i ≡ k + suc i = omega arith in ap (λ z. filter (is_of z) es) next ∙ all (suc i) u g))

-- ---- pairs by rising key

never : (b : Bool) → is_lt (cond b Equal Greater) ≡ true → ⊥
never true q = let bad : false ≡ true = q in cc
never false q = let bad : false ≡ true = q in cc

less_is : (x y : ℕ) → is_lt (nat_cmp x y) ≡ true → x < y
less_is x y e =
    elim (nat_lt x y) as (λ b. nat_lt x y ≡ b → x < y) [
      | true ↦ λ q. grind (arith, nat_tests)
      | false ↦ λ q. absurd (never (x == y) (ap (λ b. is_lt (cond b Less (cond (x == y) Equal Greater))) (sym q) ∙ e))
    ] refl

left_true : (a b : Bool) → (a && b) ≡ true → a ≡ true
left_true true b e = refl
left_true false b e = e

right_true : (a b : Bool) → (a && b) ≡ true → b ≡ true
right_true true b e = e
right_true false b e = absurd (let bad : false ≡ true = e in cc)

true_of : (b : Bool) → T b → b ≡ true
true_of true t = refl
true_of false t = absurd t

abbrev FitPair : ℕ × ℕ → Type 0
FitPair p = (p.0 < 2 ^ 64) × (p.1 < 2 ^ 64)

pairs_after : (last : ℕ) (ps : List (ℕ × ℕ)) → below_all nat_cmp last ps ≡ true → is_sorted nat_cmp ps ≡ true → AllByRecursion FitPair ps → EachAfter PairFits pair_key (Some last) ps
pairs_after last [] low sorted fit = tt
pairs_after last (p ∷ ps) low sorted fit = (
  (less_is last p.0 (left_true (is_lt (nat_cmp last p.0)) (below_all nat_cmp last ps) low), fit.0.0, fit.0.1),
  pairs_after p.0 ps (left_true (below_all nat_cmp p.0 ps) (is_sorted nat_cmp ps) sorted) (right_true (below_all nat_cmp p.0 ps) (is_sorted nat_cmp ps) sorted) fit.1,
)

pub pairs_fit : (ps : List (ℕ × ℕ)) → T (is_sorted nat_cmp ps) → AllByRecursion (λ p. (p.0 < 2 ^ 64) × (p.1 < 2 ^ 64)) ps → EachAfter PairFits pair_key None ps
pairs_fit [] sorted fit = tt
pairs_fit (p ∷ ps) sorted fit =
    let s = true_of (below_all nat_cmp p.0 ps && is_sorted nat_cmp ps) sorted in (
      (tt, fit.0.0, fit.0.1),
      pairs_after p.0 ps (left_true (below_all nat_cmp p.0 ps) (is_sorted nat_cmp ps) s) (right_true (below_all nat_cmp p.0 ps) (is_sorted nat_cmp ps) s) fit.1,
    )
