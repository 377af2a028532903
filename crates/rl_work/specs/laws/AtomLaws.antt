-- Every atom of the work keeps the work's part of the rule, and can be made; so do the opening of a call and a change of a rank's
-- standing by the lock; and the opening state meets it.
use Rattle.std.specs.Prelude.{◌≡◌, ◌⊎◌, ℕ, ◌+◌, ◌*◌, ◌^◌, ◌<◌, ◌≤◌, ◌==◌, if◌then◌else◌, zero, suc, true, false, List, [], ◌∷◌, ◌++◌, All, filter, length, replicate, slice_get, slice_index, slice_set, Option, Some, None, IfSome, refl}
use Rattle.std.proofs.Common.{sym, ◌∙◌, ap, subst, ⊎_elim, arith, length-append}
use Rattle.std.proofs.lemmas.List.{take_at, length-map}
use Rattle.std.proofs.lemmas.List.Elements.{All-nil, All-weaker}
use Rattle.std.proofs.lemmas.Bool.Decides.{nat_tests}
use Rattle.std.proofs.lemmas.Option.{same_Some}
use Rattle.rl_word.specs.laws.Places.{get_map_back}
use Rattle.rl_word.specs.declared.acts.Atom.{Atom}
use Rattle.rl_word.specs.declared.acts.Atom.TheVariants as atom
use Rattle.rl_model.specs.declared.call.Call.{Call}
use Rattle.rl_model.specs.declared.entry.Entry.{Entry}
use Rattle.rl_model.specs.Geom.{GeomFits}
use Rattle.rl_step.specs.declared.events.Event.{Event}
use Rattle.rl_step.specs.declared.events.Standing.{Standing}
use Rattle.rl_step.specs.declared.events.Standing.TheVariants.{Out, Asking, Writer, Reader, Leaving}
use Rattle.rl_step.specs.Lock.{IsHolder, Shift}
use Rattle.rl_step.specs.Do.{do_words, do_got, CanDo}
use Rattle.rl_step.specs.Core.{home_at}
use Rattle.rl_volume.specs.declared.write.Write.{Write}
use Rattle.rl_volume.specs.Words.{volume_words}
use Rattle.rl_volume.specs.Volume.{start_words}
use Rattle.rl_volume.specs.Walk.{most_reads}
use Rattle.rl_volume.proofs.StartLaws.{starts, start_size}
use Rattle.rl_work.specs.declared.stage.Stage.{Stage}
use Rattle.rl_work.specs.declared.stage.Stage.TheVariants.{Rest, Begin, Read, Journal, Volume}
use Rattle.rl_journal.specs.Journal.{spelled}
use Rattle.rl_journal.specs.Blocks.{calls_of, size_of}
use Rattle.rl_journal.specs.Legal.{updates, table_after, IsLegalBlock, IsLegalRead}
use Rattle.rl_journal.specs.Ranks.{IsOwn}
use Rattle.rl_model.specs.Asked.{asks_update, batch_number}
use Rattle.rl_journal.specs.laws.JournalLaws.{agrees_none}
use Rattle.rl_journal.specs.laws.Lists.{all_at}
use Rattle.rl_site.specs.Site.{Site, places, count_word, volume_base, journal_base, lock_base}
use Rattle.rl_work.specs.Work.{batch_in, stores, CanName, CanTurn, CanDecide, write_atom, stage_atom, work_atom, stage_after, with_block, written_on}
use Rattle.rl_site.specs.Opens.{IsOpen, IsOwnTranscript, opening_words, Tells}
use Rattle.rl_work.specs.laws.Shifts.{stays_done, asks_on, no_holder}
use Rattle.rl_work.specs.WorkGood.{WorkSide, IsApart, transcript_of, transcripts, IsDecided, IsReading, HasDecided, FitsAt, is_writing, IsDone, IsInCall, WorkGood, side_turned, side_after, HasOpen, IsFirst}
use Rattle.rl_work.specs.laws.EndLaws.{parts_tell}
use Rattle.rl_work.specs.laws.TurnLaws.{turn_length}
use Rattle.rl_site.specs.laws.OpeningLaws.{opening_size}
use Rattle.rl_work.specs.laws.RoomLaws.{place_left, journal_short}
use Rattle.rl_work.specs.laws.SideLaws.{side_stays}
use Rattle.rl_work.specs.laws.WorkLaws.{count_loaded, word_loaded, journal_stored, write_made, count_stored}
use Rattle.rl_volume.proofs.NextWord.{next_there, next_unseen, few_read}
use Rattle.std.specs.FinMap as finite

module _ (site : Site) (words : List ℕ) (sides : List WorkSide) (g : WorkGood site words sides) (r : ℕ) (x : WorkSide) (has : slice_get sides r ≡ Some x) where
  -- the word that an atom of the work names
  abbrev names : Atom → ℕ → Type 0
  names at w = (at ≡ atom.Load w) ⊎ ((v : ℕ) × (at ≡ atom.Store w v))

  -- an atom that loads or stores a word before the lock's can be made
  can_load : (at : Atom) (w : ℕ) (home : ℕ → ℕ) (cards : List ℕ) → w < length words → atom.Load w ≡ at → CanDo (home_at home at) r at words cards
  can_load at w home cards there e = subst (λ z. CanDo (home_at home z) r z words cards) e there

  can_store : (at : Atom) (w v : ℕ) (home : ℕ → ℕ) (cards : List ℕ) → w < length words → atom.Store w v ≡ at → CanDo (home_at home at) r at words cards
  can_store at w v home cards there e = subst (λ z. CanDo (home_at home z) r z words cards) e there

  pub atom_can : (at : Atom) (home : ℕ → ℕ) (cards : List ℕ) → work_atom site.geom x.work ≡ Some at → CanDo (home_at home at) r at words cards
  atom_can at home cards planned = by_stage x.work.stage (g.fits r x has) planned where
    by_write : (made : ℕ) → IsDecided site r g.journal g.before x → (o : Option Write) → slice_get x.work.writes made ≡ o →
        Some (write_atom (x.work.at + length x.work.entries) o) ≡ Some at → CanDo (home_at home at) r at words cards
    by_write made d (Some w) e p =
        let inside : w.word < volume_words site.geom = all_at (λ z. z.word < volume_words site.geom) x.work.writes made w d.is_next.inside e in
        let size = g.size in
        can_store at (volume_base + w.word) w.value home cards (omega arith) (same_Some _ _ p)
    by_write made d None e p = let size = g.size in can_store at count_word (x.work.at + length x.work.entries) home cards (omega arith) (same_Some _ _ p)

    by_stage : (st : Stage) → FitsAt site words g.journal g.before r x st → stage_atom site.geom x.work st ≡ Some at → CanDo (home_at home at) r at words cards
    by_stage Rest f p = absurd (cc)
    by_stage Begin f p = let size = g.size in can_load at count_word home cards (omega arith) (same_Some _ _ p)
    by_stage (Read count word) f p =
        let low = next_there site.geom g.geom_fits f.call x.work.seen.pairs word f.next in
        let size = g.size in
        can_load at (volume_base + word) home cards (omega arith) (same_Some _ _ p)
    by_stage (Journal made) f p =
        let d : IsDecided site r g.journal g.before x = f.0 in
        let below : length g.journal + length x.work.calls ≤ places site = place_left site words sides g r x has d.open_call d.update in
        let long : length x.work.entries ≡ length x.work.calls = sym (length-map x.work.entries (λ (e : Entry). e.call)) ∙ ap length d.same_calls in
        let at_end : x.work.at ≡ length g.journal = d.found in
        let low : made < 6 * length x.work.entries = f.1 in
        let size = g.size in
        can_store at (journal_base site.geom + (6 * x.work.at + made)) (slice_index (spelled x.work.entries) made) home cards (omega arith) (same_Some _ _ p)
    by_stage (Volume made) f p = by_write made f.0 (slice_get x.work.writes made) refl p

  -- an atom that finds the rank at this stage keeps the rule
  abbrev Kept : List ℕ → Stage → Atom → Type 0
  Kept cards st a = WorkGood site (do_words a words) (slice_set sides r
      (side_turned x.standing (stage_after site.geom site.shard r x.work (do_got a words cards) st)))

  -- every atom of the work keeps the rule
  pub atom_keeps : IsApart sides → IsHolder x.standing → (at : Atom) (cards : List ℕ) → work_atom site.geom x.work ≡ Some at →
      WorkGood site (do_words at words) (slice_set sides r (side_after site r x (do_got at words cards)))
  atom_keeps apart holds at cards planned = by_stage x.work.stage refl planned where
    by_write : (made : ℕ) → x.work.stage ≡ Volume made → (o : Option Write) → slice_get x.work.writes made ≡ o →
        Some (write_atom (x.work.at + length x.work.entries) o) ≡ Some at →
        WorkGood site (do_words at words) (slice_set sides r (side_turned x.standing (written_on x.work made o)))
    by_write made st (Some w) e p =
        subst (λ a. WorkGood site (do_words a words) (slice_set sides r (side_turned x.standing (written_on x.work made (Some w))))) (same_Some _ _ p)
        (write_made site words sides g apart r x has made w st e)
    by_write made st None e p =
        subst (λ a. WorkGood site (do_words a words) (slice_set sides r (side_turned x.standing (written_on x.work made None)))) (same_Some _ _ p)
        (count_stored site words sides g apart r x has made st e)

    by_stage : (st : Stage) → x.work.stage ≡ st → stage_atom site.geom x.work st ≡ Some at → Kept cards st at
    by_stage Rest e p = absurd (cc)
    by_stage Begin e p = subst (Kept cards Begin) (same_Some _ _ p) (count_loaded site words sides g apart r x has e holds)
    by_stage (Read count word) e p = subst (Kept cards (Read count word)) (same_Some _ _ p) (word_loaded site words sides g apart r x has count word e)
    by_stage (Journal made) e p = subst (Kept cards (Journal made)) (same_Some _ _ p) (journal_stored site words sides g apart r x has made e)
    by_stage (Volume made) e p = by_write made e (slice_get x.work.writes made) refl p

  -- what the code needs to know of the side, to name its atom
  pub can_name : lock_base site < 2 ^ 32 → CanName site.geom x.work x.work.stage
  can_name low = by_stage x.work.stage (g.fits r x has) where
    by_stage : (st : Stage) → FitsAt site words g.journal g.before r x st → CanName site.geom x.work st
    by_stage Rest f = tt
    by_stage Begin f = tt
    by_stage (Read count word) f = next_there site.geom g.geom_fits f.call x.work.seen.pairs word f.next
    by_stage (Journal made) f =
        let d : IsDecided site r g.journal g.before x = f.0 in
        let below : length g.journal + length x.work.calls ≤ places site = place_left site words sides g r x has d.open_call d.update in
        let long : length x.work.entries ≡ length x.work.calls = sym (length-map x.work.entries (λ (e : Entry). e.call)) ∙ ap length d.same_calls in
        let at_end : x.work.at ≡ length g.journal = d.found in
        let few : made < 6 * length x.work.entries = f.1 in
        (few, omega arith)
    by_stage (Volume made) f =
        let d : IsDecided site r g.journal g.before x = f.0 in
        let below : length g.journal + length x.work.calls ≤ places site = place_left site words sides g r x has d.open_call d.update in
        let long : length x.work.entries ≡ length x.work.calls = sym (length-map x.work.entries (λ (e : Entry). e.call)) ∙ ap length d.same_calls in
        let at_end : x.work.at ≡ length g.journal = d.found in
        let fits = g.geom_fits in
        let low_words : All (λ w. w.word < 2 ^ 31) x.work.writes =
        All-weaker (λ w. w.word < volume_words site.geom) (λ w. w.word < 2 ^ 31) (λ w h. omega arith) x.work.writes d.is_next.inside in
        (f.1, low_words, omega arith)

  -- the numbers of the entries of an open block fit
  decides : lock_base site < 2 ^ 32 → (count : ℕ) → count ≡ length g.journal → HasOpen site r x.work → CanDecide site.geom x.work count
  decides low count is o =
      record {
        room = o.room;
        seen_room = g.seen_rooms r x has;
        small = o.small;
        places = elim (asks_update x.work.calls) as (λ b. asks_update x.work.calls ≡ b → count + length x.work.calls ≤ 2 ^ 32) [
          | true ↦ λ e. let below = place_left site words sides g r x has o e in omega arith
          | false ↦ λ e. let one = o.is_block.alone e in let few = journal_short site words sides g in omega arith
        ] refl;
      }

  -- and to make what the atom gave of it
  pub can_turn : lock_base site < 2 ^ 32 → (at : Atom) (cards : List ℕ) → work_atom site.geom x.work ≡ Some at →
      CanTurn site.geom x.work (do_got at words cards) x.work.stage
  can_turn low at cards planned = by_stage x.work.stage (g.fits r x has) planned where
    by_stage : (st : Stage) → FitsAt site words g.journal g.before r x st → stage_atom site.geom x.work st ≡ Some at →
        CanTurn site.geom x.work (do_got at words cards) st
    by_stage Rest f p = tt
    by_stage Begin f p =
        let few : length g.journal ≤ places site = journal_short site words sides g in
        let got : do_got at words cards ≡ length g.journal = ap (λ a. do_got a words cards) (sym (same_Some _ _ p)) ∙ g.count in
        (omega arith, decides low (do_got at words cards) got f.0)
    by_stage (Read count word) f p =
        let there : word < volume_words site.geom = next_there site.geom g.geom_fits f.call x.work.seen.pairs word f.next in
        let room : x.work.seen.room ≡ volume_words site.geom = g.seen_rooms r x has in
        (omega arith, next_unseen site.geom f.call x.work.seen.pairs word f.next, decides low count f.found f.open_call)
    by_stage (Journal made) f p = f.1
    by_stage (Volume made) f p =
        let long : length x.work.entries ≡ length x.work.calls = sym (length-map x.work.entries (λ (e : Entry). e.call)) ∙ ap length f.0.same_calls in
        (f.1, let room = f.0.open_call.room in omega arith)

  -- a change of its standing by an atom of the lock
  pub shift_keeps : (st : Standing) (es : List Event) → Shift r x.standing st es →
      WorkGood site words (slice_set sides r (record { standing = st; work = x.work }))
  shift_keeps st es shift = side_stays site words sides g r x has (record { standing = st; work = x.work }) (λ calm. calm) refl refl
      (by_stage x.work.stage (g.fits r x has)) where
        by_stage : (stage : Stage) → FitsAt site words g.journal g.before r x stage →
            FitsAt site words g.journal g.before r (record { standing = st; work = x.work }) stage
        by_stage Rest f = stays_done r x.standing st es shift f
        by_stage Begin f = (f.0, asks_on r x.standing st es shift f.1, f.2, f.3, f.4)
        by_stage (Read count word) f = absurd (no_holder r x.standing st es shift f.holds)
        by_stage (Journal made) f = absurd (no_holder r x.standing st es shift (subst IsHolder (sym f.0.writes) tt))
        by_stage (Volume made) f = absurd (no_holder r x.standing st es shift (subst IsHolder (sym f.0.writes) tt))

  -- where a rank is out its work is over
  rests_out : x.standing ≡ Out → (stage : Stage) → FitsAt site words g.journal g.before r x stage → is_writing stage ≡ false
  rests_out out Rest f = refl
  rests_out out Begin f = refl
  rests_out out (Read count word) f = refl
  rests_out out (Journal made) f = refl
  rests_out out (Volume made) f = let e = f.0.writes in absurd (cc)

  -- the opening of a block
  pub open_keeps : (c : List Call) (seq : ℕ) → x.standing ≡ Out → IsOpen site r c seq x.work.transcript →
      WorkGood site words (slice_set sides r (record { standing = Asking; work = with_block x.work c seq }))
  open_keeps c seq out o =
      side_stays site words sides g r x has (record { standing = Asking; work = with_block x.work c seq })
      (λ _. rests_out out x.work.stage (g.fits r x has)) refl refl (o, tt, refl, refl, refl)

-- the opening state meets the rule
pub opening_good : (site : Site) → GeomFits site.geom → (sides : List WorkSide) → length sides ≡ length site.rooms →
    ((r : ℕ) (x : WorkSide) → slice_get sides r ≡ Some x → IsFirst site.geom x) →
    WorkGood site (opening_words site) sides
opening_good site fits sides ranks first =
    let empty : (k : ℕ) (t : List Entry) → slice_get (transcripts sides) k ≡ Some t → t ≡ [] = λ k t get.
    let q = get_map_back transcript_of sides k t get in sym q.2 ∙ (first k q.0 q.1).nothing in
    record {
      journal = [];
      before = start_words site.geom;
      geom_fits = fits;
      size = opening_size site;
      ranks = ranks;
      fixed = refl;
      count = refl;
      spells = agrees_none (opening_words site) (journal_base site.geom);
      volume = starts site.geom site.shard;
      still = λ _. take_at (start_words site.geom) (replicate (6 * places site) 0) (volume_words site.geom) (start_size site.geom);
      here = All-nil (λ e. IsOwn site.shard e.rank e);
      legal = record {
        journal_is = record { blocks = []; split = refl; legal = tt };
        reads_are = λ k t get. subst (All (IsLegalRead site.geom [])) (sym (empty k t get)) (All-nil (IsLegalRead site.geom []));
        ranks_are = All-nil (λ e. e.rank < length (transcripts sides));
        updates_are = λ k t get. ap (filter updates) (empty k t get);
      };
      own = λ r x get. subst (IsOwnTranscript site r) (sym (first r x get).nothing)
          (record { own = All-nil (IsOwn site.shard r); in_order = λ i e f a b. absurd (cc); place = omega arith });
      seen_rooms = λ r x get. (first r x get).seen_room;
      fits = λ r x get. subst (FitsAt site (opening_words site) [] (start_words site.geom) r x) (sym (first r x get).rests)
          (subst IsDone (sym (first r x get).out) tt);
    }

-- the batch number is that of so many calls
batch_back : (batch : ℕ) → (batch ≡ 1 → ⊥) → batch_number (size_of batch) ≡ batch
batch_back zero ne = refl
batch_back (suc zero) ne = absurd (ne refl)
batch_back (suc (suc n)) ne = let miss : (suc (suc n) == 1) ≡ false = grind (arith, nat_tests) in ap (λ b. if b then 0 else suc (suc n)) miss

-- the decided entries are of the open block
pub entry_calls : (site : Site) (words : List ℕ) (sides : List WorkSide) (g : WorkGood site words sides) (r : ℕ) (x : WorkSide) →
    slice_get sides r ≡ Some x → (made : ℕ) → x.work.stage ≡ Volume made →
    (calls_of x.work.entries ≡ x.work.calls) × Tells site.shard r (batch_in x.work) x.work.seq 0 x.work.entries
entry_calls site words sides g r x has made stage =
    let f : FitsAt site words g.journal g.before r x (Volume made) = subst (FitsAt site words g.journal g.before r x) stage (g.fits r x has) in
    let l : IsLegalBlock site.geom (table_after site.geom finite.empty g.journal) (length g.journal) x.work.entries = f.0.is_next.legal in
    let many : length x.work.calls ≡ size_of l.batch = ap length (sym f.0.same_calls) ∙ length-map x.work.entries (λ (e : Entry). e.call) ∙ l.is.whole in
    let batch : l.batch ≡ batch_in x.work = sym (batch_back l.batch l.is.not_one) ∙ ap batch_number (sym many) in
    let told : Tells site.shard l.rank l.batch l.seq 0 x.work.entries =
    parts_tell site.shard l.rank l.batch l.seq (length g.journal) 0 x.work.entries l.is.parts
    (subst (λ k. All (IsOwn site.shard k) x.work.entries) (sym f.0.is_next.mine) f.0.is_next.own) in (
      f.0.same_calls,
      subst (λ k. Tells site.shard k (batch_in x.work) x.work.seq 0 x.work.entries) f.0.is_next.mine
          (subst (λ n. Tells site.shard l.rank (batch_in x.work) n 0 x.work.entries) f.0.same_seq
          (subst (λ b. Tells site.shard l.rank b l.seq 0 x.work.entries) batch told)),
    )

-- where calls were decided, they are calls of the open block
pub few_replies : (site : Site) (words : List ℕ) (sides : List WorkSide) (g : WorkGood site words sides) (r : ℕ) (x : WorkSide) →
    slice_get sides r ≡ Some x → (x.work.stage ≡ Begin) ⊎ ((count : ℕ) × (word : ℕ) × (x.work.stage ≡ Read count word)) →
    length x.work.replies ≤ length x.work.calls
few_replies site words sides g r x has at =
    ⊎_elim
    (λ st. let f : FitsAt site words g.journal g.before r x Begin = subst (FitsAt site words g.journal g.before r x) st (g.fits r x has) in
    omega (arith, ap length f.3))
    (λ q.
    let f : IsReading site r g.journal g.before x q.0 q.1 = subst (FitsAt site words g.journal g.before r x) q.2 (g.fits r x has) in
    let p : HasDecided site g.journal g.before x.work (f.call ∷ f.rest) = f.partly in
    omega (
      arith,
      ap length p.replies_are,
      turn_length site.geom
          (table_after site.geom finite.empty g.journal) p.first,
      ap length p.split,
      length-append p.first (f.call ∷ f.rest),
    ))
    at

-- who reads a word for a call alone has read few
pub few_loads : (site : Site) (words : List ℕ) (sides : List WorkSide) (g : WorkGood site words sides) (r : ℕ) (x : WorkSide) →
    slice_get sides r ≡ Some x → (call : Call) (count word : ℕ) → x.work.calls ≡ call ∷ [] → x.work.stage ≡ Read count word →
    length x.work.seen.pairs < most_reads site.geom call
few_loads site words sides g r x has call count word alone stage =
    let f : IsReading site r g.journal g.before x count word = subst (FitsAt site words g.journal g.before r x) stage (g.fits r x has) in
    let p : HasDecided site g.journal g.before x.work (f.call ∷ f.rest) = f.partly in
    let few : length x.work.seen.pairs < most_reads site.geom f.call =
    subst (λ o. IfSome o (λ word. length x.work.seen.pairs < most_reads site.geom f.call)) f.next
    (few_read site.geom f.call x.work.seen.pairs (f.named (ap length alone))) in
    subst (λ c. length x.work.seen.pairs < most_reads site.geom c) (only p.first f.call f.rest (p.split ∙ alone)) few
  where
    only : (first : List Call) (c : Call) (rest : List Call) → first ++ c ∷ rest ≡ call ∷ [] → c ≡ call
    only [] c rest e = cc
    only (a ∷ first) c rest e = absurd (omega (arith, ap length e, length-append first (c ∷ rest)))

-- who holds the lock isn't done
holds_on : (st : Standing) → IsDone st → IsHolder st → ⊥
holds_on Out d h = h
holds_on Asking d h = d
holds_on Writer d h = d
holds_on Reader d h = d
holds_on Leaving d h = h

-- a rank that holds the lock has an atom of the work
pub holder_works : (site : Site) (words : List ℕ) (sides : List WorkSide) (g : WorkGood site words sides) (r : ℕ) (x : WorkSide) →
    slice_get sides r ≡ Some x → IsHolder x.standing → work_atom site.geom x.work ≡ None → ⊥
holder_works site words sides g r x has holds none = by_stage x.work.stage (g.fits r x has) none where
  by_stage : (st : Stage) → FitsAt site words g.journal g.before r x st → stage_atom site.geom x.work st ≡ None → ⊥
  by_stage Rest f e = holds_on x.standing f holds
  by_stage Begin f e = cc
  by_stage (Read count word) f e = cc
  by_stage (Journal made) f e = cc
  by_stage (Volume made) f e = cc

-- and its block has calls
pub holder_asks : (site : Site) (words : List ℕ) (sides : List WorkSide) (g : WorkGood site words sides) (r : ℕ) (x : WorkSide) →
    slice_get sides r ≡ Some x → IsHolder x.standing → 1 ≤ length x.work.calls
holder_asks site words sides g r x has holds = by_stage x.work.stage (g.fits r x has) where
  by_stage : (st : Stage) → FitsAt site words g.journal g.before r x st → 1 ≤ length x.work.calls
  by_stage Rest f = absurd (holds_on x.standing f holds)
  by_stage Begin f = f.0.is_block.some
  by_stage (Read count word) f = f.open_call.is_block.some
  by_stage (Journal made) f = f.0.open_call.is_block.some
  by_stage (Volume made) f = f.0.open_call.is_block.some

-- who stores is a writer
pub stores_alone : (site : Site) (words : List ℕ) (sides : List WorkSide) (g : WorkGood site words sides) (r : ℕ) (x : WorkSide) →
    slice_get sides r ≡ Some x → stores x.work.stage ≡ true → x.standing ≡ Writer
stores_alone site words sides g r x has writes = by_stage x.work.stage (g.fits r x has) writes where
  by_stage : (st : Stage) → FitsAt site words g.journal g.before r x st → stores st ≡ true → x.standing ≡ Writer
  by_stage Rest f e = absurd (cc)
  by_stage Begin f e = absurd (cc)
  by_stage (Read count word) f e = absurd (cc)
  by_stage (Journal made) f e = f.0.writes
  by_stage (Volume made) f e = f.0.writes
