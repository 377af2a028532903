-- From what is found among a rank's entries to its first fault.
use Rattle.std.proofs.Common.{◌≡◌, ℕ, zero, suc, ◌+◌, ◌<◌, ◌≤◌, Bool, true, false, cond, List, [], ◌∷◌, length, get_or, Option, Some, None, refl, sym, ap, subst, ◌∙◌, inr, ⊎_elim, arith, length-append}
use Rattle.std.specs.Prelude.{slice_get, ◌↔◌, IsTrue}
use Rattle.rl_check.proofs.WatchLaws.{none_is}
use Rattle.std.specs.List.{AllByRecursion, filter, flat_map}
use Rattle.std.specs.Option.{is_some}
use Rattle.std.proofs.lemmas.List.{length-map}
use Rattle.std.proofs.lemmas.List.Sums.{sum_by-cons}
use Rattle.std.proofs.lemmas.Option.{same_Some, slice_get-get_or, slice_get_past}
use Rattle.rl_model.specs.declared.call.Call.{Call}
use Rattle.rl_model.specs.declared.entry.Entry.{Entry}
use Rattle.rl_journal.specs.Legal.{is_of}
use Rattle.rl_journal.specs.laws.Lists.{get_cases}
use Rattle.rl_ops.specs.declared.ops.Ops.{Ops}
use Rattle.std.specs.Prelude.{nat_le}
use Rattle.std.proofs.lemmas.Bool.Decides.{nat_tests}
use Rattle.rl_ops.specs.Asked.{asked_of, asked_after}
use Rattle.rl_model.specs.Asked.{batch_number}
use Rattle.rl_check.proofs.RankLaws.{past_calls}
use Rattle.rl_ops.specs.Blocks.{sizes_of}
use Rattle.rl_ops.specs.Ops.{AreBlocks, EachOfBlocks, total_calls}
use Rattle.rl_report.specs.declared.report.Done.{Done}
use Rattle.rl_report.specs.Naming.{TheNaming}
use Rattle.rl_report.specs.Reports.{TheShard, TheReport, EntryFits, ShardsFit}
use Rattle.rl_report.specs.Lawful.{transcript_in}
use Rattle.rl_check.specs.declared.illegal.Test.{Test}
use Rattle.rl_check.specs.declared.illegal.Test.TheVariants as test
use Rattle.rl_check.specs.Ranks.{Stands, IsDone, entries_of_rank, number_tests, rank_tests}
use Rattle.rl_check.specs.Slots.{AreCalled}
use Rattle.rl_check.specs.Tests.{Tests, IsFirstOf, one, at_place, where_there}
use Rattle.rl_check.proofs.EntryTests.{false_true}
use Rattle.rl_check.proofs.TestLaws.{found_there, stops_first}

-- ---- the calls

sizes_long : (b : List Call) → length (sizes_of b) ≡ length b
sizes_long [] = refl
sizes_long (c ∷ cs) = ap suc (length-map cs (λ _. 0))

all_sizes_long : (bs : List (List Call)) → length (flat_map sizes_of bs) ≡ length (flat_map (λ b. b) bs)
all_sizes_long [] = refl
all_sizes_long (b ∷ bs) = length-append (sizes_of b) (flat_map sizes_of bs) ∙ (let x = sizes_long b in let y = all_sizes_long bs in omega (arith, length-append b (flat_map (λ b. b) bs)))

pub each_block : (shards : ℕ) (lists : List (List Call)) (sizes : List (List ℕ)) → EachOfBlocks shards lists sizes → (k : ℕ) → k < length lists → AreBlocks shards (get_or lists k []) (get_or sizes k [])
each_block shards [] sizes each k h = absurd (omega arith)
each_block shards (c ∷ lists) [] each k h = absurd each
each_block shards (c ∷ lists) (s ∷ sizes) each zero h = each.0
each_block shards (c ∷ lists) (s ∷ sizes) each (suc k) h = each_block shards lists sizes each.1 k (omega arith)

pub as_many_sizes : (shards : ℕ) (lists : List (List Call)) (sizes : List (List ℕ)) → EachOfBlocks shards lists sizes → length sizes ≡ length lists
as_many_sizes shards [] [] each = refl
as_many_sizes shards [] (s ∷ sizes) each = absurd each
as_many_sizes shards (c ∷ lists) [] each = absurd each
as_many_sizes shards (c ∷ lists) (s ∷ sizes) each = ap suc (as_many_sizes shards lists sizes each.1)

pub sized : (shards : ℕ) (lists : List (List Call)) (sizes : List (List ℕ)) → EachOfBlocks shards lists sizes → (k : ℕ) → k < length lists → length (get_or sizes k []) ≡ length (get_or lists k [])
sized shards lists sizes each k h = let b = each_block shards lists sizes each k h in ap length b.sizes_are ∙ all_sizes_long b.blocks ∙ sym (ap length b.calls_are)

pub few_calls : (lists : List (List Call)) (k : ℕ) → length (get_or lists k []) ≤ total_calls lists
few_calls [] k = omega arith
few_calls (c ∷ lists) zero = omega (arith, sum_by-cons (λ (l : List Call). length l) c lists)
few_calls (c ∷ lists) (suc k) = let on = few_calls lists k in omega (arith, sum_by-cons (λ (l : List Call). length l) c lists)

-- ---- the entries

kept_fits : (P : Entry → Type 0) (p : Entry → Bool) (xs : List Entry) → AllByRecursion P xs → (j : ℕ) (e : Entry) → slice_get (filter p xs) j ≡ Some e → P e
kept_fits P p [] all j e get = absurd (cc)
kept_fits P p (x ∷ xs) all j e get =
    elim (p x) as (λ b. slice_get (cond b (x ∷ filter p xs) (filter p xs)) j ≡ Some e → P e) [
      | true ↦ λ g. first_or (filter p xs) (λ i h. kept_fits P p xs all.1 i e h) j g
      | false ↦ λ g. kept_fits P p xs all.1 j e g
    ] get where
      first_or : (ys : List Entry) → ((i : ℕ) → slice_get ys i ≡ Some e → P e) → (j : ℕ) → slice_get (x ∷ ys) j ≡ Some e → P e
      first_or ys rest zero g = subst P (same_Some _ _ g) all.0
      first_or ys rest (suc j) g = rest j g

shard_low : (naming : TheNaming) (replay : Bool) (k from : ℕ) (shards : List TheShard) → ShardsFit naming replay from shards → (j : ℕ) (e : Entry) → slice_get (flat_map (λ (S : TheShard). transcript_in S.entries k) shards) j ≡ Some e → e.shard < from + length shards
shard_low naming replay k from [] fits j e get = absurd (cc)
shard_low naming replay k from (S ∷ shards) fits j e get =
    ⊎_elim
    (λ q. let is = (kept_fits (EntryFits naming from) (is_of k) S.entries fits.0.entries j e q.1).shard_is in omega arith)
    (λ q. let low = shard_low naming replay k (from + 1) shards fits.1 q.0 e q.2 in omega arith)
    (get_cases (transcript_in S.entries k) (flat_map (λ (S : TheShard). transcript_in S.entries k) shards) j e get)

pub shards_there : (naming : TheNaming) (report : TheReport) (replay : Bool) → ShardsFit naming replay 0 report.shards → (k : ℕ) (e : Entry) → Stands (entries_of_rank report k) e → e.shard < length report.shards
shards_there naming report replay fits k e stands = let low = shard_low naming replay k 0 report.shards fits stands.0 e stands.1 in omega arith

-- ---- a rank of a report

module _ (ops : Ops) (report : TheReport) (k : ℕ) (b : Bool) (mode : b ≡ is_some report.steps) (calls : List Call)
    (calls_are : calls ≡ get_or ops.by_rank k []) (sizes : List ℕ) (sizes_are : sizes ≡ get_or ops.sizes k []) (own : List Entry)
    (own_is : own ≡ entries_of_rank report k) where
  abbrev Here : Done → Tests (ℕ × Test)
  Here = rank_tests (is_some report.steps) (get_or ops.by_rank k []) (get_or ops.sizes k []) (entries_of_rank report k)

  pub first_by : (d : Done) → slice_get report.done k ≡ Some d → (o : Option (ℕ × Test)) → IsFirstOf (rank_tests b calls sizes own d) o →
      IsFirstOf (where_there report.done k Here) o
  first_by d there o h =
      found_there report.done k Here d there o
      (subst (λ z. IsFirstOf (rank_tests z (get_or ops.by_rank k []) (get_or ops.sizes k []) (entries_of_rank report k) d) o) mode
      (subst (λ z. IsFirstOf (rank_tests b z (get_or ops.sizes k []) (entries_of_rank report k) d) o) calls_are
      (subst (λ z. IsFirstOf (rank_tests b calls z (entries_of_rank report k) d) o) sizes_are
      (subst (λ z. IsFirstOf (rank_tests b calls sizes z d) o) own_is h))))

-- ---- there are no more entries than calls

asked_short : (batch part : ℕ) (cs : List Call) (ss : List ℕ) (i : ℕ) → length cs ≤ i → slice_get (asked_after batch part cs ss) i ≡ None
asked_short batch part [] ss i h = slice_get_past [] i (omega arith)
asked_short batch part (c ∷ cs) [] i h = slice_get_past [] i (omega arith)
asked_short batch part (c ∷ cs) (zero ∷ ss) zero h = absurd (omega arith)
asked_short batch part (c ∷ cs) (suc m ∷ ss) zero h = absurd (omega arith)
asked_short batch part (c ∷ cs) (zero ∷ ss) (suc i) h = asked_short batch (part + 1) cs ss i (omega arith)
asked_short batch part (c ∷ cs) (suc m ∷ ss) (suc i) h = asked_short (batch_number (suc m)) 1 cs ss i (omega arith)

pub few_own : (calls : List Call) (sizes : List ℕ) (own : List Entry) (n : ℕ) → AreCalled (asked_of calls sizes) own n → n ≤ length calls
few_own calls sizes own n called =
    elim (nat_le n (length calls)) as (λ b. nat_le n (length calls) ≡ b → n ≤ length calls) [
      | true ↦ λ h. grind (arith, nat_tests)
      | false ↦ λ h.
          let more : length calls < n = grind (arith, nat_tests) in
          absurd (past_calls (asked_of calls sizes) own (length calls) (asked_short 0 0 calls sizes (length calls) (omega arith)) (called (length calls) more).0)
    ] refl

-- ---- by what the code has found

pub read_there : {X : Type 0} (xs items : List X) → items ≡ xs → (i : ℕ) (x : X) → i < length xs → x ≡ get_or items i x → slice_get xs i ≡ Some x
read_there xs items same i x low is = slice_get-get_or xs i x low ∙ ap (λ z. Some (get_or z i x)) (sym same) ∙ ap (λ z. Some z) (sym is)

module _ (ops : Ops) (report : TheReport) (k : ℕ) (calls : List Call) (calls_are : calls ≡ get_or ops.by_rank k []) (sizes : List ℕ)
    (sizes_are : sizes ≡ get_or ops.sizes k []) (own : List Entry) (own_is : own ≡ entries_of_rank report k) (fault : Option (ℕ × Test))
    (found : IsFirstOf (number_tests (asked_of calls sizes) own) fault) where
  abbrev Tested : Option (ℕ × Test) → Type 0
  Tested = IsFirstOf (where_there report.done k (rank_tests (is_some report.steps) (get_or ops.by_rank k []) (get_or ops.sizes k [])
      (entries_of_rank report k)))

  pub rank_some : k < length report.done → is_some fault ≡ true → Tested fault
  rank_some low so =
      let d : Done = get_or report.done k (record { done = 0; given = 0 }) in
      let last = at_place (length own) (one test.Done (IsDone (is_some report.steps) calls sizes (length own) d)) in
      first_by ops report k (is_some report.steps) refl calls calls_are sizes sizes_are own own_is d
      (slice_get-get_or report.done k (record { done = 0; given = 0 }) low) fault
      (stops_first (number_tests (asked_of calls sizes) own) last fault found so)

  called_all : is_some fault ≡ false → AreCalled (asked_of calls sizes) own (length own)
  called_all not_so = subst (IsFirstOf (number_tests (asked_of calls sizes) own)) (none_is fault not_so) found

  pub rank_few : is_some fault ≡ false → length calls ≤ 20000 → length own ≤ 20000
  rank_few not_so few = let h = few_own calls sizes own (length own) (called_all not_so) in omega arith

  module _ (not_so : is_some fault ≡ false) (d : Done) (there : slice_get report.done k ≡ Some d) (b : Bool) (mode : b ≡ is_some report.steps) (n : ℕ) (same : n ≡ length own) (truth : Bool) (is : IsTrue truth ↔ IsDone b calls sizes n d) where
    pub rank_done : truth ≡ true → Tested None
    rank_done so =
        first_by ops report k b mode calls calls_are sizes sizes_are own own_is d there None
        (called_all not_so, subst (λ z. IsDone b calls sizes z d) same (is.0 so))

    pub rank_not : truth ≡ false → (m : ℕ) → m ≡ length own → Tested (Some (m, test.Done))
    rank_not isnt m last =
        first_by ops report k b mode calls calls_are sizes sizes_are own own_is d there (Some (m, test.Done))
        (inr (
          called_all not_so,
          (
            last,
            (
              refl,
              λ done. false_true truth isnt
                  (is.1 (subst (λ z. IsDone b calls sizes z d) (sym same) done)),
            ),
          ),
        ))
