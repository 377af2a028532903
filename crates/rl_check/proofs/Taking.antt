-- What is told after one block more, by what the code has.
use Rattle.std.proofs.Common.{◌≡◌, ◌≢◌, ℕ, ◌+◌, ◌-◌, ◌<◌, ◌≤◌, Bool, true, false, List, [], ◌∷◌, ◌++◌, length, take, drop, map, get_or, Option, Some, None, IsTrue, refl, sym, ap, subst, ◌∙◌, arith}
use Rattle.std.specs.Prelude.{slice_get, ◌↔◌}
use Rattle.std.specs.FinMap as finite
use Rattle.std.proofs.lemmas.Option.{slice_get-get_or}
use Rattle.rl_model.specs.declared.entry.Entry.{Entry}
use Rattle.rl_model.specs.declared.entry.Reply.{Reply}
use Rattle.rl_model.specs.declared.geom.Geom.{Geom}
use Rattle.rl_model.specs.Table.{Table, apply}
use Rattle.rl_journal.specs.Blocks.{apply_batch, calls_of}
use Rattle.rl_check.specs.Entries.{IsWholeBatch}
use Rattle.rl_check.specs.OneThread.{IsToldTo}
use Rattle.rl_check.proofs.TableLaws.{call_told, none_told, batch_told}

-- before the first entry
pub first_told : (geom : Geom) (entries : List Entry) → IsToldTo geom entries 0 [] finite.empty
first_told geom entries =
    record { long = refl; within = omega arith; tells = λ p o at fit. absurd (cc); table_is = λ fit none. refl; broken = λ fit begun. absurd (cc) }

module _ (geom : Geom) (entries : List Entry) (i : ℕ) (replies : List (Option Reply)) (t : Table) (so_far : IsToldTo geom entries i replies t) (d : Entry) (there : i < length entries) where
  get : slice_get entries i ≡ Some (get_or entries i d)
  get = slice_get-get_or entries i d there

  pub alone_more : (rs : List (Option Reply)) (u : Table) → (get_or entries i d).batch ≡ 0 → rs ≡ replies ++ Some (apply geom (get_or entries i d).call t).1 ∷ [] → u ≡ (apply geom (get_or entries i d).call t).0 → IsToldTo geom entries (i + 1) rs u
  alone_more rs u alone told table =
      subst (λ z. IsToldTo geom entries (i + 1) z u) (sym told) (subst (IsToldTo geom entries (i + 1) (replies ++ Some (apply geom (get_or entries i d).call t).1 ∷ [])) (sym table) (call_told geom entries i replies t so_far (get_or entries i d) get alone))

  module _ (whole : Bool) (is : (e : Entry) → slice_get entries i ≡ Some e → IsTrue whole ↔ IsWholeBatch entries i e.batch) where
    is_whole : whole ≡ true → IsWholeBatch entries i (get_or entries i d).batch
    is_whole so = (is (get_or entries i d) get).0 so

    isnt_whole : whole ≡ false → IsWholeBatch entries i (get_or entries i d).batch → ⊥
    isnt_whole not_so w = let bad : true ≡ false = sym ((is (get_or entries i d) get).1 w) ∙ not_so in cc

    pub none_more : (rs : List (Option Reply)) → (get_or entries i d).batch ≢ 0 → whole ≡ false → rs ≡ replies ++ None ∷ [] → IsToldTo geom entries (i + 1) rs t
    none_more rs some not_so told = subst (λ z. IsToldTo geom entries (i + 1) z t) (sym told) (none_told geom entries i replies t so_far (get_or entries i d) get (omega arith) (isnt_whole not_so))

    pub fits_more : whole ≡ true → i + (get_or entries i d).batch ≤ length entries
    fits_more so = (is_whole so).there

    pub batch_more : (b : List Entry) (rs : List (Option Reply)) (u : Table) → whole ≡ true → b ≡ take (get_or entries i d).batch (drop i entries) → rs ≡ replies ++ map (λ (r : Reply). Some r) (apply_batch geom (calls_of b) t).1 →
        u ≡ (apply_batch geom (calls_of b) t).0 → IsToldTo geom entries (i + (get_or entries i d).batch) rs u
    batch_more b rs u so block told table =
        let n : ℕ = (get_or entries i d).batch in
        let done = batch_told geom entries i replies t so_far (get_or entries i d) get n (is_whole so) in
        subst (λ z. IsToldTo geom entries (i + n) z u) (sym told)
        (subst (IsToldTo geom entries (i + n) (replies ++ map (λ (r : Reply). Some r) (apply_batch geom (calls_of b) t).1)) (sym table)
        (subst (λ c. IsToldTo geom entries (i + n) (replies ++ map (λ (r : Reply). Some r) (apply_batch geom (calls_of c) t).1) (apply_batch geom (calls_of c) t).0) (sym block) done))

pub same_part : (entries : List Entry) (i n : ℕ) → take (i + n - i) (drop i entries) ≡ take n (drop i entries)
same_part entries i n = ap (λ m. take m (drop i entries)) (omega arith)

-- the same of the same
pub told_still : (geom : Geom) (entries : List Entry) (i : ℕ) (rs replies : List (Option Reply)) (t u : Table) → IsToldTo geom entries i replies t → rs ≡ replies → u ≡ t → IsToldTo geom entries i rs u
told_still geom entries i rs replies t u told r s = subst (λ z. IsToldTo geom entries i z u) (sym r) (subst (IsToldTo geom entries i replies) (sym s) told)
