-- What follows from the rule: the words spell the journal, and the history is in order.
use Rattle.std.specs.Prelude.{◌≡◌, ℕ, suc, ◌+◌, List, [], ◌∷◌, All, slice_get, Some, refl}
use Rattle.std.proofs.Common.{sym, ◌∙◌, ap, subst, arith}
use Rattle.std.proofs.lemmas.List.Elements.{All-head, All-tail}
use Rattle.rl_model.specs.declared.entry.Entry.{Entry}
use Rattle.rl_journal.specs.Journal.{journal_in}
use Rattle.rl_journal.specs.laws.ReadBack.{journaled, journal_read}
use Rattle.rl_journal.specs.Legal.{IsLegal}
use Rattle.rl_journal.specs.Ranks.{IsOwn}
use Rattle.rl_journal.specs.History.{history, AreOwn, IsSorted}
use Rattle.std.specs.List.{AllByRecursion}
use Rattle.rl_journal.specs.laws.HistorySorted.{history_sorted}
use Rattle.rl_site.specs.Site.{Site, journal_base, journal_of}
use Rattle.rl_site.specs.Opens.{IsOwnTranscript}
use Rattle.rl_work.specs.WorkGood.{WorkSide, WorkGood, transcripts}

-- what holds of all elements, one by one
each_of : (shard rank r : ℕ) → rank ≡ r → (es : List Entry) → All (IsOwn shard rank) es → AllByRecursion (λ e. e.rank ≡ r) es
each_of shard rank r same [] all = tt
each_of shard rank r same (e ∷ es) all = (
  (All-head (IsOwn shard rank) e es all).rank_is
      ∙ same,
  each_of shard rank r same es (All-tail (IsOwn shard rank) e es all),
)

own_from : (site : Site) (r : ℕ) (sides : List WorkSide) → ((i : ℕ) (x : WorkSide) → slice_get sides i ≡ Some x →
    IsOwnTranscript site (r + i) x.work.transcript.items) → AreOwn r (transcripts sides)
own_from site r [] own = tt
own_from site r (x ∷ sides) own =
    let q : IsOwnTranscript site (r + 0) x.work.transcript.items = own 0 x refl in (
      (each_of site.shard (r + 0) r (omega arith) x.work.transcript.items q.own, q.in_order),
      own_from site (r + 1) sides (λ i y get. subst (λ n. IsOwnTranscript site n y.work.transcript.items) (omega arith) (own (suc i) y get)),
    )

module _ (site : Site) (words : List ℕ) (sides : List WorkSide) (g : WorkGood site words sides) where
  -- the transcripts are the ranks' own
  pub transcripts_own : AreOwn 0 (transcripts sides)
  transcripts_own = own_from site 0 sides (λ i x get. subst (λ n. IsOwnTranscript site n x.work.transcript.items) (omega arith) (g.own i x get))

  -- the words below the count spell the journal, and are read back as it
  pub journal_is : journal_of site words ≡ g.journal
  journal_is =
      ap (journal_in site.shard words (journal_base site.geom)) g.count
      ∙ journal_read site.shard (journal_base site.geom) words g.journal (journaled site.geom site.shard g.journal g.legal.journal_is g.here) g.spells

  pub always_legal : IsLegal site.geom (journal_of site words) (transcripts sides)
  always_legal = subst (λ j. IsLegal site.geom j (transcripts sides)) (sym journal_is) g.legal

  pub always_sorted : IsSorted (history (journal_of site words) (transcripts sides))
  always_sorted = subst (λ j. IsSorted (history j (transcripts sides))) (sym journal_is)
      (history_sorted site.geom g.journal (transcripts sides) g.legal transcripts_own)
