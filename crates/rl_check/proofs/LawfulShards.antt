-- A shard whose entries tell a history passes its tests, where its tallies, pairs and events do.
use Rattle.std.proofs.Common.{◌≡◌, ℕ, zero, suc, ◌+◌, ◌<◌, ◌≤◌, Bool, true, false, cond, List, [], ◌∷◌, length, Some, refl, sym, ap, subst, ◌∙◌, inl, inr, ⊎_elim, arith}
use Rattle.std.specs.Prelude.{slice_get}
use Rattle.std.specs.List.{count_by, AllByRecursion}
use Rattle.std.specs.FinMap as finite
use Rattle.std.proofs.lemmas.Bool.Decides.{nat_tests}
use Rattle.std.proofs.lemmas.List.Sums.{length-filter}
use Rattle.std.proofs.lemmas.Option.{same_Some}
use Rattle.rl_model.specs.declared.entry.Entry.{Entry}
use Rattle.rl_model.specs.Call.{shard_of}
use Rattle.rl_journal.specs.Legal.{updates, is_of}
use Rattle.rl_journal.specs.History.{Precedes, IsSorted, AreOwn, IsReplayedByOneThread, TellsUpdatesBefore}
use Rattle.rl_journal.specs.laws.HistoryLaws.{replayed}
use Rattle.rl_journal.specs.laws.HistoryPlaces.{places_told}
use Rattle.rl_journal.specs.laws.HistorySorted.{history_sorted}
use Rattle.rl_journal.specs.Ranks.{IsInOrder}
use Rattle.rl_place.specs.Places.{ThePlace}
use Rattle.rl_report.specs.Reports.{TheShard}
use Rattle.rl_report.specs.Lawful.{journal_among, transcript_in, transcripts_in, queues_at}
use Rattle.rl_check.specs.Entries.{before, table_before, StandsBefore}
use Rattle.rl_check.specs.OneThread.{is_begun}
use Rattle.rl_check.specs.Shards.{TalliesHold, PairsHold, event_tests, shard_tests}
use Rattle.rl_check.specs.LawfulReplays.{TellsHistory}
use Rattle.rl_check.proofs.BatchLaws.{none_left}
use Rattle.rl_check.proofs.Replays.{IsPlaced, replay_placed, placed_fits, placed_answered}
use Rattle.std.proofs.lemmas.List.{take_all}
use Rattle.rl_check.proofs.EntryFacts.{one_of_all}

-- transcripts of some entries are their ranks' own
own_rank : (k : ℕ) (es : List Entry) → AllByRecursion (λ e. e.rank ≡ k) (transcript_in es k)
own_rank k [] = tt
own_rank k (e ∷ es) =
    elim (is_of k e) as (λ b. is_of k e ≡ b → AllByRecursion (λ e. e.rank ≡ k) (cond b (e ∷ transcript_in es k) (transcript_in es k))) [
      | true ↦ λ h. (grind (arith, nat_tests), own_rank k es)
      | false ↦ λ h. own_rank k es
    ] refl

pub own_from : (es : List Entry) (r n : ℕ) → ((k : ℕ) → r ≤ k → k < r + n → IsInOrder (transcript_in es k)) → AreOwn r (transcripts_in es r n)
own_from es r zero order = tt
own_from es r (suc n) order = ((own_rank r es, order r (omega arith) (omega arith)), own_from es (r + 1) n (λ k low high. order k (omega arith) (omega arith)))

sorted_next : (es : List Entry) (p : ℕ) (d e : Entry) → IsSorted es → slice_get es p ≡ Some d → slice_get es (suc p) ≡ Some e → Precedes d e
sorted_next [] p d e sorted gd ge = absurd (cc)
sorted_next (x ∷ es) zero d e sorted gd ge = subst (λ z. Precedes z e) (same_Some _ _ gd) (one_of_all (Precedes x) es 0 e sorted.0 ge)
sorted_next (x ∷ es) (suc p) d e sorted gd ge = sorted_next es p d e sorted.1 gd ge

pub stands_first : (d e : Entry) → Precedes d e → StandsBefore d e
stands_first d e h =
    ⊎_elim (λ low. inl low) (λ q. inr (q.0, ⊎_elim (λ up. inl (q.1, up)) (λ r. inr (q.1 ∙ sym r.0, r.1)) q.2)) h

-- ---- the tests

module _ (place : ThePlace) (s home : ℕ) (S : TheShard) (L : TellsHistory place S) (order : (k : ℕ) → k < length place.paths → IsInOrder (transcript_in S.entries k))
    (alone : (p : ℕ) (e : Entry) → slice_get S.entries p ≡ Some e → updates e ≡ false → e.batch ≡ 0) (of_shard : (p : ℕ) (e : Entry) → slice_get S.entries p ≡ Some e → shard_of place.geom e.call ≡ s) where
  abbrev es : List Entry
  es = S.entries

  abbrev ts : List (List Entry)
  ts = transcripts_in S.entries 0 (length place.paths)

  sorted : IsSorted es
  sorted = subst IsSorted (sym L.in_order) (history_sorted place.geom (journal_among es) ts L.legal (own_from es 0 (length place.paths) (λ k low high. order k (omega arith))))

  told : TellsUpdatesBefore es
  told = subst TellsUpdatesBefore (sym L.in_order) (places_told place.geom (journal_among es) ts L.legal)

  replay : IsReplayedByOneThread place.geom finite.empty 0 es
  replay = subst (IsReplayedByOneThread place.geom finite.empty 0) (sym L.in_order) (replayed place.geom (journal_among es) ts L.legal)

  placed : ((k : ℕ) (e : Entry) → slice_get es k ≡ Some e → IsPlaced place.geom es alone k e) × (is_begun (before es (length es)) ≡ false)
  placed = replay_placed place.geom es alone 0 replay.blocks replay.split replay.replayed

  in_order : (p : ℕ) (d e : Entry) → before es p ≡ Some d → slice_get es p ≡ Some e → StandsBefore d e
  in_order zero d e gd ge = absurd (cc)
  in_order (suc p) d e gd ge = stands_first d e (sorted_next es p d e sorted gd ge)

  pub shard_passes : (replay : Bool) → TalliesHold place replay home S → PairsHold replay S (table_before place.geom es (length es)) →
      (event_tests (queues_at place home) S.events).pass → (shard_tests place replay s home S).pass
  shard_passes mode tallies pairs events = (
    (λ p low. (
      of_shard p,
      (
        in_order p,
        (
          (λ e get. placed_fits place.geom es alone p e get (placed.0 p e get) e get),
          (told p, λ e get. placed_answered place.geom es alone p e get (placed.0 p e get) e get),
        ),
      ),
    )),
    (
      (
        (λ d get. none_left (before es (length es)) d placed.1 get),
        L.told ∙ length-filter updates es ∙ ap (count_by updates) (sym (take_all (length es) es (omega arith))),
      ),
      ((tallies, pairs), events),
    ),
  )
