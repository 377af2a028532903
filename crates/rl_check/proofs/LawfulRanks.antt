-- A rank whose entries are its first calls in order passes its tests.
use Rattle.std.proofs.Common.{◌≡◌, ◌⊎◌, ℕ, zero, suc, ◌+◌, ◌<◌, Bool, List, length, Some, refl, sym, ap, subst, ◌∙◌, inl, inr, ⊎_elim, arith}
use Rattle.std.specs.Prelude.{slice_get}
use Rattle.std.proofs.lemmas.Option.{same_Some, slice_get_within}
use Rattle.rl_word.specs.laws.Places.{some_at}
use Rattle.rl_model.specs.declared.call.Call.{Call}
use Rattle.rl_model.specs.declared.entry.Entry.{Entry}
use Rattle.rl_model.specs.declared.geom.Geom.{Geom}
use Rattle.rl_journal.specs.Legal.{blocks_joined}
use Rattle.rl_journal.specs.laws.Lists.{all_at}
use Rattle.rl_journal.specs.Ranks.{Follows, IsInOrder, IsEntryOf, IsRankInOrder}
use Rattle.rl_ops.specs.Asked.{asked_of}
use Rattle.rl_report.specs.declared.report.Done.{Done}
use Rattle.rl_check.specs.Ranks.{is_numbered, IsCalled, IsFresh, EndsWell, rank_tests}
use Rattle.rl_check.proofs.EntryFacts.{StandsIn, stands_in, count_joined, as_many}

-- ---- entries of a transcript

follows_on : (d e f : Entry) → Follows d e → Follows e f → Follows d f
follows_on d e f a b =
    let x = a.later in let y = b.later in let v = a.place in let w = b.place in
    record { later = omega arith; place = omega arith; beyond = λ up. let z = a.beyond up in omega arith }

-- each follows all before it
pub follows_later : (t : List Entry) → IsInOrder t → (n i : ℕ) (d e : Entry) → slice_get t i ≡ Some d → slice_get t (suc (i + n)) ≡ Some e → Follows d e
follows_later t order zero i d e gd ge = let at : suc (i + 0) ≡ suc i = omega arith in order i d e gd (ap (slice_get t) (sym at) ∙ ge)
follows_later t order (suc n) i d e gd ge =
    let at : suc (i + suc n) ≡ suc (suc (i + n)) = omega arith in
    let ge' : slice_get t (suc (suc (i + n))) ≡ Some e = ap (slice_get t) (sym at) ∙ ge in
    let m = some_at t (suc (i + n)) (let h = slice_get_within t (suc (suc (i + n))) e ge' in omega arith) in
    follows_on d m.0 e (follows_later t order n i d m.0 gd m.1) (order (suc (i + n)) m.0 e m.1 ge')

pub apart : (i j : ℕ) → ((n : ℕ) × (j ≡ suc (i + n))) ⊎ ((i ≡ j) ⊎ ((n : ℕ) × (i ≡ suc (j + n))))
apart zero zero = inr (inl refl)
apart zero (suc j) = inl (j, omega arith)
apart (suc i) zero = inr (inr (i, omega arith))
apart (suc i) (suc j) =
    ⊎_elim (λ q. inl (q.0, let h = q.1 in omega arith)) (λ q. inr (⊎_elim (λ r. inl (ap suc r)) (λ r. inr (r.0, let h = r.1 in omega arith)) q)) (apart i j)

-- of two entries the one with the greater number follows
pub follows_by : (t : List Entry) → IsInOrder t → (i j : ℕ) (d e : Entry) → slice_get t i ≡ Some d → slice_get t j ≡ Some e → d.seq < e.seq → Follows d e
follows_by t order i j d e gd ge low =
    ⊎_elim
    (λ q. follows_later t order q.0 i d e gd (ap (slice_get t) (sym q.1) ∙ ge))
    (λ q. ⊎_elim
    (λ same. absurd (let one : d.seq ≡ e.seq = ap (λ (z : Entry). z.seq) (same_Some _ _ (sym gd ∙ ap (slice_get t) same ∙ ge)) in omega arith))
    (λ r. absurd (let other = (follows_later t order r.0 j e d ge (ap (slice_get t) (sym r.1) ∙ gd)).later in omega arith))
    q)
    (apart i j)

-- ---- the tests

module _ (geom : Geom) (k : ℕ) (calls : List Call) (sizes : List ℕ) (n : ℕ) (ts : List (List Entry)) (O : IsRankInOrder geom k (asked_of calls sizes) n ts) where
  abbrev own : List Entry
  own = blocks_joined ts

  entry_is : (e : Entry) (h : StandsIn ts e) → IsEntryOf geom k (asked_of calls sizes) n h.s e
  entry_is e h = all_at (IsEntryOf geom k (asked_of calls sizes) n h.s) h.t h.j e (O.each h.s h.t h.list) h.there

  pub long : length own ≡ n
  long = as_many n own (λ e h. (entry_is e (stands_in ts e h)).low) (λ i low. count_joined (is_numbered i) ts ∙ O.once i low)

  called : (i : ℕ) → i < length own → IsCalled (asked_of calls sizes) own i
  called i low =
      record {
        once = count_joined (is_numbered i) ts ∙ O.once i (let h = long in omega arith);
        asked_is = λ e h seq. ap (slice_get (asked_of calls sizes)) (sym seq) ∙ (entry_is e (stands_in ts e h)).asked_is;
      }

  fresh : (i : ℕ) → IsFresh own i
  fresh i d e he seq latest =
      let y : StandsIn ts e = stands_in ts e he in
      let x : StandsIn ts d = stands_in ts d latest.stands in
      let same : x.s ≡ y.s = sym (entry_is d x).own.shard_is ∙ latest.on_shard ∙ (entry_is e y).own.shard_is in
      let list : x.t ≡ y.t = same_Some _ _ (sym x.list ∙ ap (slice_get ts) same ∙ y.list) in
      let f : Follows d e = follows_by y.t (O.in_order y.s y.t y.list) x.j y.j d e (ap (λ z. slice_get z x.j) (sym list) ∙ x.there) y.there (let low = latest.low in omega arith) in
      record { place = f.place; beyond = f.beyond }

  pub rank_passes : (replay : Bool) → EndsWell replay calls sizes n → (d : Done) → d.done ≡ n → d.given ≡ length calls →
      (rank_tests replay calls sizes own d).pass
  rank_passes replay ends d done given = (
    (λ i low. (called i low, fresh i)),
    record { done = done ∙ sym long; given = given; ends = subst (EndsWell replay calls sizes) (sym long) ends },
  )
