-- From what is found at a place to the first fault of a shard.
use Rattle.std.proofs.Common.{◌≡◌, ◌≢◌, ℕ, Bool, true, false, List, length, Option, Some, Result, Ok, Err, refl, sym, ap, subst, ◌∙◌, inl, inr}
use Rattle.rl_model.specs.declared.entry.Entry.{Entry}
use Rattle.rl_model.specs.declared.geom.Geom.{Geom}
use Rattle.rl_model.specs.Table.{Table}
use Rattle.rl_model.specs.declared.call.Call.{Call}
use Rattle.rl_model.specs.declared.entry.Reply.{Reply}
use Rattle.rl_place.specs.Places.{ThePlace}
use Rattle.rl_report.specs.Reports.{TheShard}
use Rattle.rl_check.specs.declared.illegal.Test.{Test}
use Rattle.rl_check.specs.declared.illegal.Test.TheVariants as test
use Rattle.rl_check.specs.Entries.{before, table_before}
use Rattle.rl_check.specs.OneThread.{is_begun, IsToldTo}
use Rattle.rl_check.specs.Shards.{NoneIsBegun, UpdatesHold, entries_tests, part_tests, shard_tests}
use Rattle.rl_check.specs.Finding.{FoundAmong}
use Rattle.rl_check.specs.Tests.{IsFirstOf, one, ◌and_then◌, at_place}
use Rattle.rl_check.proofs.BatchLaws.{none_left, one_left}
use Rattle.rl_check.proofs.TestLaws.{then_first}

module _ (place : ThePlace) (replay : Bool) (shard home : ℕ) (S : TheShard) (g : Geom) (read : List Entry) (same_geom : g ≡ place.geom)
    (same : read ≡ S.entries) where
  -- the same of what is read
  as_read : (found : Result ℕ (ℕ × Test)) → FoundAmong g shard read found → FoundAmong place.geom shard S.entries found
  as_read found f = subst (λ z. FoundAmong place.geom shard z found) same (subst (λ z. FoundAmong z shard read found) same_geom f)

  pub err_first : (f : ℕ × Test) → FoundAmong g shard read (Err f) → IsFirstOf (shard_tests place replay shard home S) (Some f)
  err_first f found = inl (as_read (Err f) found)

  module _ (m : ℕ) (found : FoundAmong g shard read (Ok m)) (b : Bool) (begun : b ≡ is_begun (before read (length read))) where
    begun_here : b ≡ is_begun (before S.entries (length S.entries))
    begun_here = begun ∙ ap (λ z. is_begun (before z (length z))) same

    good : (entries_tests place.geom shard S.entries).pass
    good = (as_read (Ok m) found).0

    pub batch_first : b ≡ true → IsFirstOf (shard_tests place replay shard home S) (Some (length read, test.Batch))
    batch_first so = inr (good, inl (ap length same, inl (refl, one_left (before S.entries (length S.entries)) (sym begun_here ∙ so))))

    module _ (not_so : b ≡ false) where
      whole : NoneIsBegun S.entries
      whole d = none_left (before S.entries (length S.entries)) d (sym begun_here ∙ not_so)

      pub updates_first : S.updates ≢ m → IsFirstOf (shard_tests place replay shard home S) (Some (length read, test.Updates))
      updates_first isnt = inr (good, inl (ap length same, inr (whole, (refl, λ told. isnt (told ∙ sym (as_read (Ok m) found).1)))))

      pub behind_first : S.updates ≡ m → (replies : List (Option Reply)) (t : Table) → IsToldTo g read (length read) replies t →
          (o : Option (ℕ × Test)) → IsFirstOf (part_tests place replay shard home S t) o →
          IsFirstOf (shard_tests place replay shard home S) o
      behind_first as_many replies t told o first =
          let here : IsToldTo place.geom S.entries (length S.entries) replies t =
          subst (λ z. IsToldTo place.geom z (length z) replies t) same
          (subst (λ z. IsToldTo z read (length read) replies t) same_geom told) in
          let left : table_before place.geom S.entries (length S.entries) ≡ t =
          ap (λ (z : Table × List Call). z.0) (here.table_is (λ q low. (good q low).1.1.0) (sym begun_here ∙ not_so)) in
          let part = part_tests place replay shard home S in
          let ends = at_place (length S.entries) (one test.Batch (NoneIsBegun S.entries) and_then one test.Updates (UpdatesHold S)) in
          then_first (entries_tests place.geom shard S.entries)
          (ends and_then part (table_before place.geom S.entries (length S.entries))) o good
          (then_first ends (part (table_before place.geom S.entries (length S.entries))) o (whole, as_many ∙ (as_read (Ok m) found).1)
          (subst (λ z. IsFirstOf (part z) o) (sym left) first))
