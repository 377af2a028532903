-- The rule where one rank has another side: what holds of the other ranks stays.
use Rattle.std.specs.Prelude.{◌≡◌, ◌≢◌, ℕ, ◌<◌, false, cond, List, [], ◌∷◌, ◌++◌, All, length, slice_get, slice_index, slice_set, Some, refl}
use Rattle.std.specs.FinMap as finite
use Rattle.std.proofs.Common.{sym, ◌∙◌, ap, subst, ⊎_elim, arith, length-set}
use Rattle.std.proofs.lemmas.List.Elements.{All-push}
use Rattle.std.proofs.lemmas.Option.{slice_get_within}
use Rattle.rl_word.specs.laws.Places.{same_or_not, one_at, get_set_cases, get_set_same, get_set_other, set_same_get, get_map, map_set}
use Rattle.rl_model.proofs.Counts.{count-append, count-cons}
use Rattle.rl_model.specs.declared.entry.Entry.{Entry}
use Rattle.rl_model.specs.Table.{apply}
use Rattle.rl_volume.specs.Volume.{IsVolume}
use Rattle.rl_journal.specs.Journal.{Agrees, spelled}
use Rattle.rl_journal.specs.Legal.{table_after, map_at, IsAnswered, updates, Begins, IsLegal}
use Rattle.rl_journal.specs.laws.LegalLaws.{map_end, legal_read, in_order_more, IsBefore, before_follows, marked, IsMarked}
use Rattle.rl_journal.specs.laws.Lists.{all_at}
use Rattle.rl_journal.specs.Ranks.{IsOwn}
use Rattle.rl_site.specs.Site.{Site, count_word, journal_base, volume_of}
use Rattle.rl_site.specs.Transcript.{TheTranscript}
use Rattle.rl_site.specs.Opens.{IsOwnTranscript}
use Rattle.rl_work.specs.WorkGood.{WorkSide, WorkGood, Fits, is_writing, transcript_of, transcripts}

module _ (site : Site) (words : List ℕ) (sides : List WorkSide) (g : WorkGood site words sides) (r : ℕ) (x : WorkSide) (has : slice_get sides r ≡ Some x) where
  pub the_transcript : slice_get (transcripts sides) r ≡ Some x.work.transcript.items
  the_transcript = get_map transcript_of sides r x has

  -- every earlier entry of the rank stands before the next one
  pub stands : (seq : ℕ) → All (λ e. e.seq < seq) x.work.transcript.items → (i : ℕ) (d : Entry) →
      slice_get x.work.transcript.items i ≡ Some d → IsBefore seq (length g.journal) d
  stands seq fresh i d get =
      let m : IsMarked g.journal d = all_at (IsMarked g.journal) x.work.transcript.items i d
      (marked site.geom g.journal (transcripts sides) g.legal r x.work.transcript.items the_transcript) get in
      record { number = all_at (λ z. z.seq < seq) x.work.transcript.items i d fresh get; low = m.low; beyond = m.within }

  -- a transcript with a get or hold more
  own_read : (e : Entry) → IsOwn site.shard r e → updates e ≡ false → All (λ d. d.seq < e.seq) x.work.transcript.items →
      e.at ≡ length g.journal → IsOwnTranscript site r (x.work.transcript.items ++ e ∷ [])
  own_read e own is fresh at =
      let t : List Entry = x.work.transcript.items in
      let q : IsOwnTranscript site r t = g.own r x has in
      let none : ◌≡◌ {A = ℕ} (cond (updates e) 1 0) 0 = ap (λ b. cond {A = ℕ} b 1 0) is in
      record {
        own = All-push (IsOwn site.shard r) t e q.own own;
        in_order = in_order_more t e q.in_order (λ i d get. before_follows e.seq (length g.journal) d e (stands e.seq fresh i d get) refl at);
        place = let low = q.place in omega (arith, count-append updates t (e ∷ []), count-cons updates e []);
      }

  -- the transcripts are as they were where this rank's is
  pub legal_kept : (t : TheTranscript) → t ≡ x.work.transcript → IsLegal site.geom g.journal (slice_set (transcripts sides) r t.items)
  legal_kept t same =
      subst (λ (z : TheTranscript). IsLegal site.geom g.journal (slice_set (transcripts sides) r z.items)) (sym same)
      (subst (IsLegal site.geom g.journal) (sym (set_same_get (transcripts sides) r x.work.transcript.items the_transcript)) g.legal)

  pub own_kept : (t : TheTranscript) → t ≡ x.work.transcript → IsOwnTranscript site r t.items
  own_kept t same = subst (λ (z : TheTranscript). IsOwnTranscript site r z.items) (sym same) (g.own r x has)

  -- this rank's new side
  module _ (y : WorkSide) where
    -- by other words, too, which spell a journal and hold a volume: those that the others fit
    pub one_moves : (vs : List ℕ) (k : List Entry) (c : List ℕ) → length vs ≡ length words → slice_index vs 0 ≡ slice_index words 0 →
        slice_index vs count_word ≡ length k →
        Agrees vs (journal_base site.geom) (spelled k) → IsVolume site.geom site.shard c (table_after site.geom finite.empty k) →
        (((i : ℕ) (u : WorkSide) → slice_get (slice_set sides r y) i ≡ Some u → is_writing u.work.stage ≡ false) → volume_of site.geom vs ≡
        c) → All (λ e. IsOwn site.shard e.rank e) k →
        IsLegal site.geom k (slice_set (transcripts sides) r y.work.transcript.items) → y.work.seen.room ≡ x.work.seen.room →
        IsOwnTranscript site r y.work.transcript.items → Fits site vs k c r y →
        ((i : ℕ) (u : WorkSide) → i ≢ r → slice_get sides i ≡ Some u → Fits site vs k c i u) → WorkGood site vs (slice_set sides r y)
    one_moves vs k c size fixed count spells volume still here legal room own fits others =
        record {
          journal = k;
          before = c;
          geom_fits = g.geom_fits;
          size = size ∙ g.size;
          ranks = length-set sides r y ∙ g.ranks;
          fixed = fixed ∙ g.fixed;
          count = count;
          spells = spells;
          volume = volume;
          still = still;
          here = here;
          legal = subst (IsLegal site.geom k) (sym (map_set transcript_of sides r y)) legal;
          own = λ i u get. ⊎_elim
              (λ q. subst (λ z. IsOwnTranscript site z u.work.transcript.items) (sym q.0)
              (subst (λ (z : WorkSide). IsOwnTranscript site r z.work.transcript.items) (sym q.1) own))
              (λ q. g.own i u q.1)
              (get_set_cases sides r i y u get);
          seen_rooms = λ i u get. ⊎_elim
              (λ q. ap (λ (z : WorkSide). z.work.seen.room) q.1 ∙ room ∙ g.seen_rooms r x has)
              (λ q. g.seen_rooms i u q.1)
              (get_set_cases sides r i y u get);
          fits = λ i u get. ⊎_elim
              (λ q. subst (λ z. Fits site vs k c z u) (sym q.0) (subst (λ z. Fits site vs k c r z) (sym q.1) fits))
              (λ q. others i u q.0 q.1)
              (get_set_cases sides r i y u get);
        }

    -- by the same words: where the new side makes no writes, the one before made none
    pub side_moves : (is_writing y.work.stage ≡ false → is_writing x.work.stage ≡ false) →
        IsLegal site.geom g.journal (slice_set (transcripts sides) r y.work.transcript.items) →
        y.work.seen.room ≡ x.work.seen.room → IsOwnTranscript site r y.work.transcript.items → Fits site words g.journal g.before r y →
        WorkGood site words (slice_set sides r y)
    side_moves calm legal room own fits =
        one_moves words g.journal g.before refl refl g.count g.spells g.volume
        (λ none. g.still (λ i u get. ⊎_elim
        (λ (e : i ≡ r).
        let same_side : u ≡ x = one_at sides r u x (subst (λ z. slice_get sides z ≡ Some u) e get) has in
        ap (λ z. is_writing z.work.stage) same_side ∙ calm (none r y (get_set_same sides r x y has)))
        (λ (ne : i ≢ r). none i u (get_set_other sides r i y ne ∙ get))
        (same_or_not i r)))
        g.here legal room own fits (λ i u other get. g.fits i u get)

    -- and with the same transcript
    pub side_stays : (is_writing y.work.stage ≡ false → is_writing x.work.stage ≡ false) → y.work.transcript ≡ x.work.transcript →
        y.work.seen.room ≡ x.work.seen.room → Fits site words g.journal g.before r y →
        WorkGood site words (slice_set sides r y)
    side_stays calm kept room fits = side_moves calm (legal_kept y.work.transcript kept) room (own_kept y.work.transcript kept) fits

    -- or with an entry more, of a get or hold that looked at the journal as it is, and was answered by its table
    pub entry_joins : (e : Entry) → is_writing x.work.stage ≡ false → y.work.seen.room ≡ x.work.seen.room →
        y.work.transcript.items ≡ x.work.transcript.items ++ e ∷ [] →
        IsOwn site.shard r e → updates e ≡ false → All (λ d. d.seq < e.seq) x.work.transcript.items → e.at ≡ length g.journal → e.reply ≡
        (apply site.geom e.call (table_after site.geom finite.empty g.journal)).1 →
        Fits site words g.journal g.before r y → WorkGood site words (slice_set sides r y)
    entry_joins e calm room items own is fresh at reply fits =
        let answered : IsAnswered site.geom g.journal e = reply
        ∙ ap (λ m. (apply site.geom e.call m).1) (sym (ap (map_at site.geom g.journal) at ∙ map_end site.geom g.journal)) in
        let past : Begins g.journal e.at = λ f get. let within = slice_get_within g.journal e.at f get in absurd (omega arith) in
        side_moves (λ _. calm)
        (subst (λ z. IsLegal site.geom g.journal (slice_set (transcripts sides) r z)) (sym items)
        (legal_read site.geom g.journal (transcripts sides) g.legal r x.work.transcript.items the_transcript e is (omega arith) answered past))
        room
        (subst (IsOwnTranscript site r) (sym items) (own_read e own is fresh at))
        fits
