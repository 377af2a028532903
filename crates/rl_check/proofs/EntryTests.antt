-- What the tests of an entry tell, by what the code has found.
use Rattle.std.proofs.Common.{◌≡◌, ◌≢◌, ℕ, ◌+◌, ◌<◌, Bool, true, false, cond, List, [], ◌∷◌, length, take, get_or, Option, Some, None, IsTrue, refl, sym, ap, subst, ◌∙◌, ⊎_elim, arith, suc, add-one}
use Rattle.std.specs.Prelude.{slice_get, ◌↔◌}
use Rattle.std.specs.List.{count_by}
use Rattle.std.specs.Int.{from_bool}
use Rattle.std.proofs.lemmas.Option.{same_Some, slice_get-get_or}
use Rattle.rl_word.specs.laws.Places.{some_at}
use Rattle.rl_model.specs.declared.entry.Entry.{Entry}
use Rattle.rl_model.specs.declared.entry.Reply.{Reply}
use Rattle.rl_model.specs.declared.geom.Geom.{Geom}
use Rattle.rl_model.specs.Call.{shard_of}
use Rattle.rl_model.specs.Table.{Table}
use Rattle.rl_model.proofs.Counts.{count-append, count-cons}
use Rattle.rl_journal.specs.Legal.{updates}
use Rattle.rl_check.specs.Entries.{before, updates_before, StandsBefore, MayFollow, IsOfShard, EntryIsInOrder, IsInBatch, IsAtPlace, HasReply}
use Rattle.rl_check.specs.OneThread.{BatchesFit, Tells, IsToldTo}
use Rattle.rl_check.specs.Finding.{AreGood}
use Rattle.rl_check.proofs.Places.{below_next, take_next}

-- a test doesn't both hold and fail
pub false_true : {B : Type 0} (b : Bool) → b ≡ false → b ≡ true → B
false_true b f t = let bad : false ≡ true = sym f ∙ t in cc

-- one update more, or none
pub up_next : (entries : List Entry) (p : ℕ) (e : Entry) → slice_get entries p ≡ Some e →
    updates_before entries (suc p) ≡ updates_before entries p + cond (updates e) 1 0
up_next entries p e get =
    ap (count_by updates) (take_next entries p e get) ∙ count-append updates (take p entries) (e ∷ [])
    ∙ ap (λ n. updates_before entries p + n) (count-cons updates e [] ∙ omega arith)

module _ (entries : List Entry) (p : ℕ) (d : Entry) (low : p < length entries) where
  abbrev e : Entry
  e = get_or entries p d

  here : slice_get entries p ≡ Some e
  here = slice_get-get_or entries p d low

  same : (f : Entry) → slice_get entries p ≡ Some f → e ≡ f
  same f get = same_Some _ _ (sym here ∙ get)

  pub of_shard : (geom : Geom) (shard : ℕ) → shard_of geom e.call ≡ shard → IsOfShard entries p geom shard
  of_shard geom shard is f get = ap (λ (z : Entry). shard_of geom z.call) (sym (same f get)) ∙ is

  pub not_of_shard : (geom : Geom) (shard : ℕ) → shard_of geom e.call ≢ shard → IsOfShard entries p geom shard → ⊥
  not_of_shard geom shard isnt is = isnt (is e here)

  module _ (o : Option Entry) (b : Bool) (is_before : o ≡ before entries p) where
    pub in_order : IsTrue b ↔ ((x : Entry) → o ≡ Some x → StandsBefore x e) → b ≡ true → EntryIsInOrder entries p
    in_order is so x f at get = subst (StandsBefore x) (same f get) (is.0 so x (is_before ∙ at))

    pub not_in_order : IsTrue b ↔ ((x : Entry) → o ≡ Some x → StandsBefore x e) → b ≡ false → EntryIsInOrder entries p → ⊥
    not_in_order is not_so order = false_true b not_so (is.1 (λ x at. order x e (sym is_before ∙ at) here))

    pub in_batch : IsTrue b ↔ MayFollow o e → b ≡ true → IsInBatch entries p
    in_batch is so f get = subst (MayFollow (before entries p)) (same f get) (subst (λ z. MayFollow z e) is_before (is.0 so))

    pub not_in_batch : IsTrue b ↔ MayFollow o e → b ≡ false → IsInBatch entries p → ⊥
    not_in_batch is not_so fits = false_true b not_so (is.1 (subst (λ z. MayFollow z e) (sym is_before) (fits e here)))

  module _ (n : ℕ) (counted : n ≡ updates_before entries p) where
    pub at_place : e.at ≡ n → IsAtPlace entries p
    at_place is f get = ap (λ (z : Entry). z.at) (sym (same f get)) ∙ is ∙ counted

    pub not_at_place : e.at ≢ n → IsAtPlace entries p → ⊥
    not_at_place isnt at = isnt (at e here ∙ sym counted)

  module _ (geom : Geom) (shard : ℕ) (replies : List (Option Reply)) (t : Table) (told : IsToldTo geom entries (length entries) replies t) (good : AreGood geom shard entries p) (fits : IsInBatch entries p) (b : Bool)
      (is : IsTrue b ↔ ((r : Reply) → slice_get replies p ≡ Some (Some r) → e.reply ≡ r)) where
    all_fit : BatchesFit entries (p + 1)
    all_fit q h f get = ⊎_elim (λ less. (good q less).1.1.0 f get) (λ at. subst (λ z. IsInBatch entries z) (sym at) fits f get)
        (below_next q p h)

    by_told : (o : Option Reply) → slice_get replies p ≡ Some o → Tells geom entries p o → ((b ≡ true → HasReply entries p geom) × (b ≡ false → HasReply entries p geom → ⊥))
    by_told None at tell = (λ so. tell, λ not_so has. false_true b not_so (is.1 (λ r eq. absurd (let bad : ◌≡◌ {A = Option Reply} None (Some r) = same_Some _ _ (sym at ∙ eq) in cc))))
    by_told (Some r) at tell = (
      (λ so f get. (tell f get).0 (ap (λ (z : Entry). z.reply) (sym (same f get)) ∙ is.0 so r at)),
      (λ not_so has. false_true b not_so (is.1 (λ q eq. (tell e here).1 (has e here) ∙ same_Some _ _ (same_Some _ _ (sym at ∙ eq))))),
    )

    both : (b ≡ true → HasReply entries p geom) × (b ≡ false → HasReply entries p geom → ⊥)
    both = let o = some_at replies p (let l = told.long in omega arith) in by_told o.0 o.1 (told.tells p o.0 o.1 all_fit)

    pub has_reply : b ≡ true → HasReply entries p geom
    has_reply = both.0

    pub has_no_reply : b ≡ false → HasReply entries p geom → ⊥
    has_no_reply = both.1

byte_is : (b : Bool) → from_bool b ≡ cond b 1 0
byte_is true = refl
byte_is false = refl

pub counted_on : (entries : List Entry) (p : ℕ) (d : Entry) (n x : ℕ) (y : Bool) → p < length entries → n ≡ updates_before entries p → x ≡ from_bool y → y ≡ updates (get_or entries p d) → n + x ≡ updates_before entries (p + 1)
counted_on entries p d n x y low so_far byte is =
    let one : x ≡ cond (updates (get_or entries p d)) 1 0 = byte ∙ byte_is y ∙ ap (λ b. cond {A = ℕ} b 1 0) is in
    omega (
      arith,
      so_far,
      one,
      ap (updates_before entries) (add-one p),
      up_next entries p (get_or entries p d)
          (slice_get-get_or entries p d low),
    )
