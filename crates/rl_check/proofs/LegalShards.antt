-- What the tests of a shard say of the places and the order of its entries.
use Rattle.std.proofs.Common.{◌≡◌, ℕ, zero, suc, ◌+◌, ◌<◌, ◌≤◌, Bool, true, false, not, cond, List, [], ◌∷◌, take, drop, Option, Some, None, refl, sym, ap, subst, ◌∙◌, inl, inr, ⊎_elim, arith}
use Rattle.std.specs.Prelude.{slice_get}
use Rattle.std.specs.List.{count_by, AllByRecursion}
use Rattle.std.proofs.lemmas.Option.{slice_get_within}
use Rattle.std.proofs.Math.Seq.{take-add}
use Rattle.rl_word.specs.laws.Places.{some_at}
use Rattle.rl_model.proofs.Counts.{count-append}
use Rattle.rl_model.specs.declared.entry.Entry.{Entry}
use Rattle.rl_model.specs.Call.{shard_of}
use Rattle.rl_journal.specs.Blocks.{is_last}
use Rattle.rl_journal.specs.Legal.{updates}
use Rattle.rl_journal.specs.History.{Precedes, IsBeforeByRank, IsSorted}
use Rattle.rl_place.specs.Places.{ThePlace}
use Rattle.rl_report.specs.Naming.{naming_of}
use Rattle.rl_report.specs.Reports.{TheShard, EntryFits, PartFits, ShardFits}
use Rattle.rl_check.specs.Entries.{before, updates_before, StandsBefore, IsFirstOfBlock, MayFollow, EntryIsAnswered}
use Rattle.rl_check.specs.OneThread.{is_begun}
use Rattle.rl_check.specs.Shards.{entry_tests, shard_tests}
use Rattle.rl_check.proofs.EntryFacts.{one_of_all}
use Rattle.rl_check.proofs.EntryTests.{up_next}

-- ---- how many updates there are

module _ (es : List Entry) where
  pub up_grows : (i n : ℕ) → updates_before es i ≤ updates_before es (i + n)
  up_grows i n = omega (arith, ap (count_by updates) (take-add i n es), count-append updates (take i es) (take n (drop i es)))

  pub up_one : (i : ℕ) (e : Entry) → slice_get es i ≡ Some e → updates e ≡ true → updates_before es (suc i) ≡ updates_before es i + 1
  up_one i e get hit1 = let hit : ◌≡◌ {A = ℕ} (cond (updates e) 1 0) 1 = ap (λ b. cond {A = ℕ} b 1 0) hit1 in omega (arith, up_next es i e get)

  pub up_none : (i : ℕ) (e : Entry) → slice_get es i ≡ Some e → updates e ≡ false → updates_before es (suc i) ≡ updates_before es i
  up_none i e get miss = let hit : ◌≡◌ {A = ℕ} (cond (updates e) 1 0) 0 = ap (λ b. cond {A = ℕ} b 1 0) miss in omega (arith, up_next es i e get)

  pub up_after : (i n : ℕ) (e : Entry) → slice_get es i ≡ Some e → updates e ≡ true → updates_before es i < updates_before es (suc (i + n))
  up_after i n e get hit =
      let at : suc i + n ≡ suc (i + n) = omega arith in
      let far : updates_before es (suc i) ≤ updates_before es (suc (i + n)) = subst (λ z. updates_before es (suc i) ≤ updates_before es z) at (up_grows (suc i) n) in
      let one = up_one i e get hit in omega arith

-- ---- the order

by_rank_on : (d e f : Entry) → IsBeforeByRank d e → IsBeforeByRank e f → IsBeforeByRank d f
by_rank_on d e f a b =
    ⊎_elim
    (λ x. ⊎_elim (λ y. inl (omega arith)) (λ y. let same = y.0 in inl (omega arith)) b)
    (λ x. let one = x.0 in let low = x.1 in ⊎_elim (λ y. inl (omega arith)) (λ y. let same = y.0 in let more = y.1 in inr (omega arith, omega arith)) b)
    a

stands_on : (d e f : Entry) → StandsBefore d e → StandsBefore e f → StandsBefore d f
stands_on d e f a b =
    ⊎_elim
    (λ x. ⊎_elim (λ y. inl (omega arith)) (λ y. let same = y.0 in inl (omega arith)) b)
    (λ x. let one = x.0 in
    ⊎_elim
    (λ y. inl (omega arith))
    (λ y. inr (
      x.0 ∙ y.0,
      ⊎_elim
          (λ u. ⊎_elim
          (λ v. absurd (let bad : true ≡ false = sym u.1 ∙ v.0 in cc))
          (λ v. inl (u.0, sym v.0 ∙ u.1))
          y.1)
          (λ u. ⊎_elim
          (λ v. inl (u.0 ∙ v.0, v.1))
          (λ v. inr (u.0 ∙ v.0, by_rank_on d e f u.1 v.1))
          y.1)
          x.1,
    ))
    b)
    a

pub not_before_itself : (e : Entry) → StandsBefore e e → ⊥
not_before_itself e h =
    ⊎_elim
    (λ low. absurd (omega arith))
    (λ q. ⊎_elim (λ u. let bad : true ≡ false = sym u.1 ∙ u.0 in cc) (λ u. ⊎_elim (λ low. absurd (omega arith)) (λ r. let low = r.1 in absurd (omega arith)) u.1) q.1)
    h

each_by : (P : Entry → Type 0) (xs : List Entry) → ((i : ℕ) (e : Entry) → slice_get xs i ≡ Some e → P e) → AllByRecursion P xs
each_by P [] at = tt
each_by P (x ∷ xs) at = (at 0 x refl, each_by P xs (λ i e get. at (suc i) e get))

sorted_by : (xs : List Entry) → ((i n : ℕ) (d e : Entry) → slice_get xs i ≡ Some d → slice_get xs (suc (i + n)) ≡ Some e → Precedes d e) → IsSorted xs
sorted_by [] h = tt
sorted_by (x ∷ xs) h = (
  each_by (Precedes x) xs (λ j e get. let at : suc (0 + j) ≡ suc j = omega arith in h 0 j x e refl (ap (slice_get (x ∷ xs)) at ∙ get)),
  sorted_by xs (λ i n d e gd ge. let at : suc (suc i + n) ≡ suc (suc (i + n)) = omega arith in h (suc i) n d e gd (ap (slice_get (x ∷ xs)) at ∙ ge)),
)

module _ (place : ThePlace) (replay : Bool) (s home : ℕ) (S : TheShard) (fit : ShardFits (naming_of place) replay s S)
    (T : (shard_tests place replay s home S).pass) where
  abbrev es : List Entry
  es = S.entries

  at_entry : (p : ℕ) (e : Entry) → slice_get es p ≡ Some e → (entry_tests place.geom s es p).pass
  at_entry p e get = T.0 p (slice_get_within es p e get)

  pub of_shard : (p : ℕ) (e : Entry) → slice_get es p ≡ Some e → shard_of place.geom e.call ≡ s
  of_shard p e get = (at_entry p e get).0 e get

  pub in_batch : (p : ℕ) (e : Entry) → slice_get es p ≡ Some e → MayFollow (before es p) e
  in_batch p e get = (at_entry p e get).1.1.0 e get

  pub answered : (p : ℕ) (e : Entry) → slice_get es p ≡ Some e → EntryIsAnswered es p place.geom e
  answered p e get = (at_entry p e get).1.1.1.1 e get

  pub at_is : (p : ℕ) (e : Entry) → slice_get es p ≡ Some e → e.at ≡ updates_before es p
  at_is p e get = (at_entry p e get).1.1.1.0 e get

  pub entry_fits : (p : ℕ) (e : Entry) → slice_get es p ≡ Some e → EntryFits (naming_of place) s e
  entry_fits p e get = one_of_all (EntryFits (naming_of place) s) es p e fit.entries get

  pub stands : (n i : ℕ) (d e : Entry) → slice_get es i ≡ Some d → slice_get es (suc (i + n)) ≡ Some e → StandsBefore d e
  stands zero i d e gd ge = let at : suc (i + 0) ≡ suc i = omega arith in
      let there : slice_get es (suc i) ≡ Some e = ap (slice_get es) (sym at) ∙ ge in (at_entry (suc i) e there).1.0 d e gd there
  stands (suc n) i d e gd ge =
      let at : suc (i + suc n) ≡ suc (suc (i + n)) = omega arith in
      let there : slice_get es (suc (suc (i + n))) ≡ Some e = ap (slice_get es) (sym at) ∙ ge in
      let m = some_at es (suc (i + n)) (let h = slice_get_within es (suc (suc (i + n))) e there in omega arith) in
      stands_on d m.0 e (stands n i d m.0 gd m.1) ((at_entry (suc (suc (i + n))) e there).1.0 m.0 e m.1 there)

  precedes : (i n : ℕ) (d e : Entry) → slice_get es i ≡ Some d → slice_get es (suc (i + n)) ≡ Some e → Precedes d e
  precedes i n d e gd ge =
      ⊎_elim
      (λ low. inl low)
      (λ q.
      ⊎_elim
      (λ u. inr (q.0, u.0, inl u.1))
      (λ u. elim (updates d) as (λ b. updates d ≡ b → Precedes d e) [
        | true ↦ λ h. absurd (let same = q.0 in let far = up_after es i n d gd h in let x = at_is i d gd in let y = at_is (suc (i + n)) e ge in omega arith)
        | false ↦ λ h. inr (q.0, h, inr (sym u.0 ∙ h, u.1))
      ] refl)
      q.1)
      (stands n i d e gd ge)

  pub sorted : IsSorted es
  sorted = sorted_by es (λ i n d e gd ge. precedes i n d e gd ge)

  -- ---- blocks

  begins_if : (o : Option Entry) (e : Entry) → MayFollow o e → is_begun o ≡ false → IsFirstOfBlock e
  begins_if None e m none = m
  begins_if (Some d) e m none = m.0 (elim (is_last d) as (λ b. not b ≡ false → b ≡ true) [ true ↦ λ _. refl | false ↦ λ z. absurd (cc) ] none)

  pub begins_here : (p : ℕ) (e : Entry) → slice_get es p ≡ Some e → is_begun (before es p) ≡ false → IsFirstOfBlock e
  begins_here p e get none = begins_if (before es p) e (in_batch p e get) none

  read_begins : (o : Option Entry) (e : Entry) → MayFollow o e → updates e ≡ false → e.batch ≡ 0
  read_begins None e m miss = ⊎_elim (λ z. z) (λ q. absurd (let bad : true ≡ false = sym q.0 ∙ miss in cc)) m
  read_begins (Some d) e m miss =
      elim (is_last d) as (λ b. is_last d ≡ b → e.batch ≡ 0) [
        | true ↦ λ l. ⊎_elim (λ z. z) (λ q. absurd (let bad : true ≡ false = sym q.0 ∙ miss in cc)) (m.0 l)
        | false ↦ λ l. absurd (let bad : true ≡ false = sym (m.1 l).is_update ∙ miss in cc)
      ] refl

  pub read_alone : (p : ℕ) (e : Entry) → slice_get es p ≡ Some e → updates e ≡ false → e.batch ≡ 0
  read_alone p e get miss = read_begins (before es p) e (in_batch p e get) miss

  pub first_part : (e : Entry) → IsFirstOfBlock e → PartFits e.batch e.part → e.part ≡ 0
  first_part e b f = ⊎_elim (λ z. ⊎_elim (λ q. q.1) (λ q. let two = q.0 in absurd (omega arith)) f) (λ q. q.1) b
