-- A shard's words say its journal, place by place.
use Rattle.std.specs.Prelude.{◌≡◌, ℕ, zero, suc, ◌+◌, ◌*◌, ◌/◌, ◌^◌, ◌<◌, ◌≤◌, List, length, take, slice_get, slice_index, Some, refl}
use Rattle.std.proofs.Common.{sym, ◌∙◌, ap, arith}
use Rattle.std.proofs.lemmas.List.{get_or-take}
use Rattle.std.proofs.lemmas.Option.{slice_get_within}
use Rattle.rl_model.specs.declared.entry.Entry.{Entry}
use Rattle.rl_model.specs.declared.geom.Geom.{Geom}
use Rattle.rl_journal.specs.Blocks.{IsPart, size_of}
use Rattle.rl_journal.specs.laws.BlockLaws.{part_at}
use Rattle.rl_journal.specs.Journal.{entry_of, six_from, entries_from}
use Rattle.rl_journal.specs.Legal.{IsLegalJournal, IsLegalBlock}
use Rattle.rl_journal.specs.laws.LegalLaws.{IsIn, in_journal}
use Rattle.rl_site.specs.Site.{Site, places, count_word, journal_base, lock_base, journal_of}

-- so many entries, one by one
length_entries : (shard : ℕ) (words : List ℕ) (base p n : ℕ) → length (entries_from shard words base p n) ≡ n
length_entries shard words base p zero = refl
length_entries shard words base p (suc n) = ap suc (length_entries shard words base (p + 1) n)

entry_there : (shard : ℕ) (words : List ℕ) (base p n i : ℕ) → i < n →
    slice_get (entries_from shard words base p n) i ≡ Some (entry_of shard (p + i) (six_from words (base + 6 * (p + i))))
entry_there shard words base p zero i h = absurd (omega arith)
entry_there shard words base p (suc n) zero h = let at : p ≡ p + 0 = omega arith in ap (λ k. Some (entry_of shard k (six_from words (base + 6 * k)))) at
entry_there shard words base p (suc n) (suc i) h =
    let at : (p + 1) + i ≡ p + suc i = omega arith in
    entry_there shard words base (p + 1) n i (omega arith) ∙ ap (λ k. Some (entry_of shard k (six_from words (base + 6 * k)))) at

-- no part of a legal journal is beyond the calls of a batch
size_low : (batch : ℕ) → batch ≤ 8 → size_of batch ≤ 8
size_low zero h = omega arith
size_low (suc n) h = h

part_low : (geom : Geom) (journal : List Entry) (p : ℕ) (e : Entry) → IsLegalJournal geom journal → slice_get journal p ≡ Some e → e.part < 8
part_low geom journal p e legal get =
    let q : IsIn geom p e = in_journal geom journal p e legal get in
    let l : IsLegalBlock geom q.table q.first q.block = q.legal in
    let a : IsPart l.rank l.batch (l.seq + q.behind) (q.first + q.behind) (0 + q.behind) e =
    part_at l.rank l.batch l.seq q.first 0 q.block q.behind e l.is.parts q.there in
    let part : e.part ≡ 0 + q.behind = a.part_is in
    let within : q.behind < length q.block = slice_get_within q.block q.behind e q.there in
    let whole : length q.block ≡ size_of l.batch = l.is.whole in
    let low : size_of l.batch ≤ 8 = size_low l.batch l.is.few in
    omega arith

module _ (site : Site) (words : List ℕ) (short : length (journal_of site (take (lock_base site) words)) ≤ places site) where
  -- the words before the lock's, and the journal that they say
  abbrev front : List ℕ
  front = take (lock_base site) words

  abbrev journal : List Entry
  journal = journal_of site front

  same_word : (w : ℕ) → w < lock_base site → slice_index front w ≡ slice_index words w
  same_word w low = get_or-take (lock_base site) words w 0 low

  -- the count is the journal's length
  pub count_is : slice_index words count_word ≡ length journal
  count_is = sym (same_word 1 (omega arith)) ∙ sym (length_entries site.shard front (journal_base site.geom) 0 (slice_index front count_word))

  pub few_updates : 6 * length journal ≤ lock_base site
  few_updates = omega arith

  -- the six words of a place are before the lock's
  pub place_low : (at : ℕ) → at < length journal → journal_base site.geom + 6 * at + 6 ≤ lock_base site
  place_low at low = omega arith

  same_six : (from : ℕ) → from + 6 ≤ lock_base site → six_from front from ≡ six_from words from
  same_six from low =
      let a : slice_index front from ≡ slice_index words from = same_word from (omega arith) in
      let b : slice_index front (from + 1) ≡ slice_index words (from + 1) = same_word (from + 1) (omega arith) in
      let c : slice_index front (from + 2) ≡ slice_index words (from + 2) = same_word (from + 2) (omega arith) in
      let d : slice_index front (from + 3) ≡ slice_index words (from + 3) = same_word (from + 3) (omega arith) in
      let e : slice_index front (from + 4) ≡ slice_index words (from + 4) = same_word (from + 4) (omega arith) in
      let f : slice_index front (from + 5) ≡ slice_index words (from + 5) = same_word (from + 5) (omega arith) in
      cc

  -- so they say the entry there
  pub update_is : (at : ℕ) → at < length journal → slice_get journal at ≡ Some (entry_of site.shard at (six_from words (journal_base site.geom + 6 * at)))
  update_is at low =
      let many : length journal ≡ slice_index front count_word = length_entries site.shard front (journal_base site.geom) 0 (slice_index front count_word) in
      let nth : 0 + at ≡ at = omega arith in
      entry_there site.shard front (journal_base site.geom) 0 (slice_index front count_word) at (omega arith)
      ∙ ap (λ k. Some (entry_of site.shard k (six_from front (journal_base site.geom + 6 * k)))) nth
      ∙ ap (λ z. Some (entry_of site.shard at z)) (same_six (journal_base site.geom + 6 * at) (place_low at low))

  -- whose part is not beyond a number of the machine's
  pub part_fits : (geom : Geom) → IsLegalJournal geom journal → (at : ℕ) → at < length journal →
      slice_index words (journal_base site.geom + 6 * at + 1) / 2048 < 2 ^ 32
  part_fits geom legal at low =
      let e : Entry = entry_of site.shard at (six_from words (journal_base site.geom + 6 * at)) in
      let q : e.part < 8 = part_low geom journal at e legal (update_is at low) in
      omega arith
