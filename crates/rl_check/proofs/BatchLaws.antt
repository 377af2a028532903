-- Where entries stand in batches.
use Rattle.std.proofs.Common.{◌≡◌, ℕ, zero, suc, ◌+◌, ◌<◌, ◌≤◌, true, false, not, List, Option, Some, None, refl, sym, ap, subst, ◌∙◌, ⊎_elim, arith}
use Rattle.std.specs.Prelude.{slice_get}
use Rattle.std.proofs.lemmas.Option.{same_Some, slice_get_within}
use Rattle.std.proofs.lemmas.Bool.Decides.{nat_tests}
use Rattle.rl_word.specs.laws.Places.{some_at}
use Rattle.rl_model.specs.declared.entry.Entry.{Entry}
use Rattle.rl_journal.specs.Blocks.{is_last}
use Rattle.rl_journal.specs.Legal.{updates}
use Rattle.rl_check.specs.Entries.{before, GoesOnInBatch, IsFirstOfBlock, MayFollow, IsWholeBatch}
use Rattle.rl_check.specs.OneThread.{is_begun, BatchesFit, IsBroken}
use Rattle.rl_check.proofs.Places.{below_next, away}

pub goes_beyond : (d : Entry) → is_last d ≡ false → d.part + 1 < d.batch
goes_beyond d h = grind (arith, nat_tests)

pub ends_here : (d : Entry) → is_last d ≡ true → d.batch ≤ d.part + 1
ends_here d h = grind (arith, nat_tests)

pub not_last : (d : Entry) → d.part + 1 < d.batch → is_last d ≡ false
not_last d h = grind (arith, nat_tests)

pub is_the_last : (d : Entry) → d.batch ≤ d.part + 1 → is_last d ≡ true
is_the_last d h = grind (arith, nat_tests)

-- what isn't begun is at its end, and what is, isn't
pub none_left : (o : Option Entry) (d : Entry) → is_begun o ≡ false → o ≡ Some d → is_last d ≡ true
none_left None d none is = absurd (cc)
none_left (Some x) d none is = subst (λ z. is_last z ≡ true) (same_Some _ _ is)
    (elim (is_last x) as (λ b. not b ≡ false → b ≡ true) [ true ↦ λ _. refl | false ↦ λ z. absurd (cc) ] none)

pub one_left : (o : Option Entry) → is_begun o ≡ true → ((d : Entry) → o ≡ Some d → is_last d ≡ true) → ⊥
one_left None begun last = cc
one_left (Some d) begun last = let bad : false ≡ true = sym (ap not (last d refl)) ∙ begun in cc

module _ (entries : List Entry) where
  -- the entry at place p stands in a batch, all of whose entries up to it are there
  pub record Standing (p : ℕ) (e : Entry) : Type 0 where
    pub from : ℕ
    pub place : p ≡ from + e.part
    pub low : e.part < e.batch
    pub first : Entry
    pub begins : slice_get entries from ≡ Some first
    pub is_update : updates first ≡ true
    pub batch_is : first.batch ≡ e.batch
    pub part_is : first.part ≡ 0
    pub goes_on : (j : ℕ) (d f : Entry) → from ≤ j → j + 1 < p + 1 → slice_get entries j ≡ Some d → slice_get entries (j + 1) ≡ Some f → GoesOnInBatch d f

  start : (p : ℕ) (e : Entry) → IsFirstOfBlock e → 1 ≤ e.batch → slice_get entries p ≡ Some e → Standing p e
  start p e begins some get =
      ⊎_elim
      (λ z. absurd (omega arith))
      (λ q. let none = q.1 in record { from = p; place = omega arith; low = omega arith; first = e; begins = get; is_update = q.0; batch_is = refl; part_is = q.1; goes_on = λ j d f low high gd gf. absurd (omega arith) })
      begins

  extend : (p : ℕ) (d e : Entry) → Standing p d → GoesOnInBatch d e → d.part + 1 < d.batch → slice_get entries p ≡ Some d → slice_get entries (suc p) ≡ Some e → Standing (suc p) e
  extend p d e r g l gd ge =
      let part = g.part_is in let batch = g.batch_is in let place = r.place in
      record {
        from = r.from;
        place = omega arith;
        low = omega arith;
        first = r.first;
        begins = r.begins;
        is_update = r.is_update;
        batch_is = r.batch_is ∙ sym g.batch_is;
        part_is = r.part_is;
        goes_on = λ j a b low high ga gb.
            ⊎_elim
            (λ less. r.goes_on j a b low (omega arith) ga gb)
            (λ same.
            let first : d ≡ a = same_Some _ _ (sym gd ∙ ap (slice_get entries) (sym same) ∙ ga) in
            let at : j + 1 ≡ suc p = omega arith in
            let second : e ≡ b = same_Some _ _ (sym ge ∙ ap (slice_get entries) (sym at) ∙ gb) in
            subst (λ z. GoesOnInBatch z b) first (subst (GoesOnInBatch d) second g))
            (below_next j p (omega arith));
      }

  -- an entry of a batch, where all up to it are rightly in batches
  pub stands_in : (p : ℕ) (e : Entry) → BatchesFit entries (p + 1) → slice_get entries p ≡ Some e → 1 ≤ e.batch → Standing p e
  stands_in zero e fit get some = start zero e (fit zero (omega arith) e get) some get
  stands_in (suc p) e fit get some =
      let d = some_at entries p (let h = slice_get_within entries (suc p) e get in omega arith) in
      let m : MayFollow (Some d.0) e = subst (λ o. MayFollow o e) d.1 (fit (suc p) (omega arith) e get) in
      elim (is_last d.0) as (λ b. is_last d.0 ≡ b → Standing (suc p) e) [
        | true ↦ λ l. start (suc p) e (m.0 l) some get
        | false ↦ λ l.
            let g = m.1 l in
            let more = goes_beyond d.0 l in
            extend p d.0 e (stands_in p d.0 (λ q h. fit q (omega arith)) d.1 (omega arith)) g more d.1 get
      ] refl

  -- the entry at a place of a whole batch
  pub record IsPartOf (n k : ℕ) (e : Entry) : Type 0 where
    pub batch_is : e.batch ≡ n
    pub part_is : e.part ≡ k
    pub is_update : updates e ≡ true

  pub part_of : (i n : ℕ) → IsWholeBatch entries i n → (k : ℕ) (e : Entry) → k < n → slice_get entries (i + k) ≡ Some e → IsPartOf n k e
  part_of i n w zero e low get =
      let at : i + 0 ≡ i = omega arith in
      let same : w.first ≡ e = same_Some _ _ (sym w.begins ∙ ap (slice_get entries) (sym at) ∙ get) in
      subst (IsPartOf n 0) same (record { batch_is = w.batch_is; part_is = w.part_is; is_update = w.is_update })
  part_of i n w (suc k) e low get =
      let at : i + suc k ≡ i + k + 1 = omega arith in
      let get_e : slice_get entries (i + k + 1) ≡ Some e = ap (slice_get entries) (sym at) ∙ get in
      let d = some_at entries (i + k) (let h = slice_get_within entries (i + k + 1) e get_e in omega arith) in
      let p : IsPartOf n k d.0 = part_of i n w k d.0 (omega arith) d.1 in
      let g : GoesOnInBatch d.0 e = w.goes_on (i + k) d.0 e (omega arith) (omega arith) d.1 get_e in
      let part = g.part_is in let before = p.part_is in
      record { batch_is = g.batch_is ∙ p.batch_is; part_is = omega arith; is_update = g.is_update }

  -- no batch is begun before one that begins
  pub none_begun : (i : ℕ) (e : Entry) → BatchesFit entries (i + 1) → slice_get entries i ≡ Some e → e.part ≡ 0 → is_begun (before entries i) ≡ false
  none_begun zero e fit get none = refl
  none_begun (suc p) e fit get none =
      let d = some_at entries p (let h = slice_get_within entries (suc p) e get in omega arith) in
      let m : MayFollow (Some d.0) e = subst (λ o. MayFollow o e) d.1 (fit (suc p) (omega arith) e get) in
      ap is_begun d.1 ∙ elim (is_last d.0) as (λ b. is_last d.0 ≡ b → not b ≡ false) [ true ↦ λ l. refl | false ↦ λ l. absurd (let g = (m.1 l).part_is in omega arith) ] refl

  -- nor before a call alone
  pub none_begun_alone : (i : ℕ) (e : Entry) → BatchesFit entries (i + 1) → slice_get entries i ≡ Some e → e.batch ≡ 0 → is_begun (before entries i) ≡ false
  none_begun_alone zero e fit get none = refl
  none_begun_alone (suc p) e fit get none =
      let d = some_at entries p (let h = slice_get_within entries (suc p) e get in omega arith) in
      let m : MayFollow (Some d.0) e = subst (λ o. MayFollow o e) d.1 (fit (suc p) (omega arith) e get) in
      ap is_begun d.1 ∙ elim (is_last d.0) as (λ b. is_last d.0 ≡ b → not b ≡ false) [ true ↦ λ l. refl | false ↦ λ l. absurd (let g = (m.1 l).batch_is in let more = goes_beyond d.0 l in omega arith) ] refl

  -- inside a whole batch one is begun
  pub begun_inside : (b n i : ℕ) → IsWholeBatch entries b n → b < i → i < b + n → is_begun (before entries i) ≡ true
  begun_inside b n zero w low high = absurd (omega arith)
  begun_inside b n (suc p) w low high =
      let there = w.there in
      let d = some_at entries p (omega arith) in
      let k = away b p (omega arith) in
      let at : p ≡ b + k.0 = k.1 in
      let part : IsPartOf n k.0 d.0 = part_of b n w k.0 d.0 (omega arith) (ap (slice_get entries) (sym at) ∙ d.1) in
      let same = part.part_is in let size = part.batch_is in
      ap is_begun d.1 ∙ ap not (not_last d.0 (omega arith))

  -- ---- a batch that isn't whole

  module _ (i : ℕ) (e : Entry) (get : slice_get entries i ≡ Some e) (not_whole : IsWholeBatch entries i e.batch → ⊥) (broken : BatchesFit entries i → is_begun (before entries i) ≡ true → IsBroken entries i) where
    -- no whole batch has it, if all before it are rightly in batches
    pub in_none : BatchesFit entries i → (b n : ℕ) → IsWholeBatch entries b n → b ≤ i → i < b + n → ⊥
    in_none fit b n w low high =
        ⊎_elim
        (λ less. broken fit (begun_inside b n i w less high) b n w less high)
        (λ same.
        let at : IsWholeBatch entries i n = subst (λ z. IsWholeBatch entries z n) same w in
        let first : at.first ≡ e = same_Some _ _ (sym at.begins ∙ get) in
        let size : n ≡ e.batch = sym at.batch_is ∙ ap (λ z. z.batch) first in
        not_whole (subst (IsWholeBatch entries i) size at))
        (below_next b i (omega arith))

    -- so it isn't a last part
    pub no_end : BatchesFit entries (i + 1) → 1 ≤ e.batch → is_last e ≡ true → ⊥
    no_end fit some last =
        let s : Standing i e = stands_in i e fit get some in
        let end = ends_here e last in
        let place = s.place in
        let low = s.low in
        let within = slice_get_within entries i e get in
        in_none (λ q h. fit q (omega arith)) s.from e.batch
        (record { first = s.first; begins = s.begins; is_update = s.is_update; batch_is = s.batch_is; part_is = s.part_is; some = some; there = omega arith; goes_on = λ j a b low high ga gb. s.goes_on j a b low (omega arith) ga gb })
        (omega arith) (omega arith)

    -- and behind it the batch is still not whole
    pub still_broken : BatchesFit entries (i + 1) → IsBroken entries (i + 1)
    still_broken fit b n w low high = in_none (λ q h. fit q (omega arith)) b n w (omega arith) (omega arith)
