-- The rule of a sequence lock where no atom of the work is made: at the start, where a block is opened, where the lock changes a
-- standing; and what it says of journal, transcripts and volume.
use Rattle.std.specs.Prelude.{◌≡◌, ℕ, ◌+◌, ◌-◌, ◌%◌, ◌≤◌, Bool, true, false, List, [], ◌∷◌, ◌++◌, length, map, replicate, slice_get, slice_index, slice_set, Some, refl}
use Rattle.std.specs.FinMap as finite
use Rattle.std.proofs.Common.{sym, ◌∙◌, ap, subst, arith}
use Rattle.std.proofs.lemmas.List.{length-map, take_at, get_or-append-add, get_or-replicate}
use Rattle.rl_word.specs.laws.Places.{get_map, get_map_back}
use Rattle.rl_word.specs.declared.classes.Mode.TheVariants as mode
use Rattle.rl_model.specs.declared.call.Call.{Call}
use Rattle.rl_model.specs.Geom.{GeomFits}
use Rattle.rl_step.specs.declared.events.Event.{Event}
use Rattle.rl_step.specs.declared.events.Standing.{Standing}
use Rattle.rl_step.specs.declared.events.Standing.TheVariants.{Out, Asking, Writer}
use Rattle.rl_step.specs.Lock.{Shift}
use Rattle.rl_volume.specs.Volume.{IsVolume}
use Rattle.rl_journal.specs.Legal.{IsLegal, table_after}
use Rattle.rl_journal.specs.History.{history, IsSorted}
use Rattle.rl_work.specs.declared.stage.Stage.TheVariants.{Rest}
use Rattle.rl_work.specs.laws.AtomLaws.{opening_good, open_keeps, shift_keeps}
use Rattle.rl_work.specs.Locked.{first_reads}
use Rattle.rl_site.specs.laws.OpeningLaws.{opening_size}
use Rattle.rl_work.specs.laws.RoomLaws.{journal_short}
use Rattle.rl_work.specs.laws.RuleLaws.{journal_is, always_legal, always_sorted}
use Rattle.rl_site.specs.Site.{count_word, lock_base, places, volume_of, journal_by, WaySite}
use Rattle.rl_site.specs.Opens.{IsOpen, opening_words, IsOwnTranscript}
use Rattle.rl_work.specs.Ways.{WorkTable, IsSide, IsFirst, SameWork, look, opened_look, opened_standing, opened_mode, transcripts_from}
use Rattle.rl_work.specs.Work.{TheWork, first_work, with_block, at_stage as at_work_stage, has_work}
use Rattle.rl_work.specs.WorkGood.{WorkSide, WorkGood, is_writing, transcripts, IsFirst as FirstLocked}
use Rattle.rl_seq.specs.declared.stage.SeqStage.{SeqStage}
use Rattle.rl_seq.specs.declared.stage.SeqStage.TheVariants as stage
use Rattle.rl_seq.specs.laws.FitLaws.{fit_at, locked_there, decided_writes, is_decided, no_store}
use Rattle.rl_seq.specs.laws.KeepLaws.{stays}
use Rattle.rl_seq.specs.laws.RestLaws.{rest_stays}
use Rattle.rl_seq.specs.Site.{front, version_in}
use Rattle.rl_seq.specs.SeqGood.{SeqRank, SeqGood, IsEven, SeqFits, SeqFitsAt, as_locked, locked_at, is_between}
use Rattle.rl_seq.specs.SeqWork.{TheSeqWork, seq_at_stage, first_seq, asks, seq_block, seq_is_open, is_open_at, ended_at, seq_table}
use Rattle.rl_seq.specs.laws.Cases.{asks_by}
use Rattle.rl_seq.specs.laws.Cases.{stage_of}

-- the transcript of a side is that of the work inside the lock
same_items : (x : SeqRank) → (as_locked x).work.transcript.items ≡ x.work.work.transcript.items
same_items x = by_stage x.work.stage where
  by_stage : (st : SeqStage) → (locked_at x.standing x.work.work st).work.transcript.items ≡ x.work.work.transcript.items
  by_stage stage.Locked = refl
  by_stage stage.Look = refl
  by_stage (stage.Count v) = refl
  by_stage (stage.Read v count word) = refl
  by_stage (stage.Again v count) = refl
  by_stage stage.Decided = refl
  by_stage (stage.Open v) = refl
  by_stage (stage.Write v) = refl
  by_stage (stage.Close v) = refl

-- where no block is open
pub closed_at : (w : TheWork) (st : SeqStage) → is_open_at w st ≡ false → (st ≡ stage.Locked) × (has_work w.stage ≡ false)
closed_at w stage.Locked e = (refl, e)
closed_at w stage.Look e = absurd (cc)
closed_at w (stage.Count v) e = absurd (cc)
closed_at w (stage.Read v count word) e = absurd (cc)
closed_at w (stage.Again v count) e = absurd (cc)
closed_at w stage.Decided e = absurd (cc)
closed_at w (stage.Open v) e = absurd (cc)
closed_at w (stage.Write v) e = absurd (cc)
closed_at w (stage.Close v) e = absurd (cc)

module _ (at : WaySite) (home : ℕ) where
  abbrev T : WorkTable TheSeqWork
  T = seq_table at home

  -- at the start
  pub begins : GeomFits at.site.geom → (n : ℕ) → lock_base at.site ≤ at.behind → lock_base at.site + n ≡ at.behind + 1 →
      (sides : List SeqRank) → length sides ≡ length at.site.rooms
      → ((r : ℕ) (x : SeqRank) → slice_get sides r ≡ Some x → IsFirst T r x) → SeqGood at (opening_words at.site ++ replicate n 0) sides
  begins fits n low all sides ranks first =
      let words : List ℕ = opening_words at.site ++ replicate n 0 in
      let long : length (opening_words at.site) ≡ lock_base at.site = opening_size at.site in
      let front_is : front at words ≡ opening_words at.site = take_at (opening_words at.site) (replicate n 0) (lock_base at.site) long in
      let i : ℕ = at.behind - lock_base at.site in
      let there : at.behind ≡ length (opening_words at.site) + i = omega arith in
      let none : version_in at words ≡ 0 = ap (slice_index words) there ∙ get_or-append-add (opening_words at.site) (replicate n 0) i 0
      ∙ get_or-replicate n i 0 0 (omega arith) in
      record {
        locked = subst (λ z. WorkGood at.site z (map as_locked sides)) (sym front_is)
            (opening_good at.site fits (map as_locked sides) (length-map sides as_locked ∙ ranks) (first_locked sides first));
        quiet = λ q. record { even = ap (λ v. v % 2) none; few = omega arith };
        fits = λ r x get. fits_at (front at words) (version_in at words) r x (first r x get);
      } where
        locked_first : (r : ℕ) (x : SeqRank) → IsFirst T r x → FirstLocked at.site.geom (as_locked x)
        locked_first r x f =
            let w : x.work ≡ first_seq at.site.geom f.room = f.work in
            let side : as_locked x ≡ record { standing = x.standing; work = first_work at.site.geom f.room } =
            ap (λ (z : TheSeqWork). locked_at x.standing z.work z.stage) w in
            subst (FirstLocked at.site.geom) (sym side) (record { out = f.out; rests = refl; nothing = refl; seen_room = refl })

        first_locked : (sides : List SeqRank) → ((r : ℕ) (x : SeqRank) → slice_get sides r ≡ Some x → IsFirst T r x) →
            (r : ℕ) (y : WorkSide) → slice_get (map as_locked sides) r ≡ Some y → FirstLocked at.site.geom y
        first_locked sides first r y get =
            let u = get_map_back as_locked sides r y get in
            subst (FirstLocked at.site.geom) u.2 (locked_first r u.0 (first r u.0 u.1))

        fits_at : (words : List ℕ) (now r : ℕ) (x : SeqRank) → IsFirst T r x → SeqFits at.site words now r x
        fits_at words now r x f = subst (λ (z : TheSeqWork). SeqFitsAt at.site words now r x.standing z.work z.stage) (sym f.work) (refl, λ b. absurd (cc))

  -- where words of the lock alone change
  pub frame : (words others : List ℕ) (sides : List SeqRank) → SeqGood at words sides → SameWork T words others → SeqGood at others sides
  frame words others sides g same =
      let f : front at words ≡ front at others = sym same.before in
      let n : version_in at words ≡ version_in at others = sym (same.behind at.behind (omega arith)) in
      record {
        locked = subst (λ z. WorkGood at.site z (map as_locked sides)) f g.locked;
        quiet = λ q. subst (λ z. IsEven (version_in at others) (slice_index z count_word)) f
            (subst (λ v. IsEven v (slice_index (front at words) count_word)) n (g.quiet q));
        fits = λ r x get. subst (λ z. SeqFits at.site z (version_in at others) r x) f (subst (λ v. SeqFits at.site (front at words) v r x) n (g.fits r x get));
      }

  -- where a block is opened, and where the lock changes a standing
  module _ (words : List ℕ) (sides : List SeqRank) (r : ℕ) (x : SeqRank) (s : IsSide T (SeqGood at) words sides r x) where
    size : length words ≡ at.behind + 1
    size = let laid = s.laid in laid.all

    low : lock_base at.site ≤ at.behind
    low = let laid = s.laid in laid.low

    g : SeqGood at words sides
    g = s.is_good

    opens_by : (calls : List Call) (seq : ℕ) → x.standing ≡ Out → x.work.stage ≡ stage.Locked →
        IsOpen at.site r calls seq x.work.work.transcript → (b : Bool) → first_reads calls ≡ b
        → SeqGood at words (slice_set sides r
        (record { standing = opened_standing (asks_by b); work = seq_at_stage (with_block x.work.work calls seq) (stage_of b) }))
    opens_by calls seq out e new true get =
        let f = fit_at at words sides g r x s.there stage.Locked e in
        stays at words low size sides g r x s.there (ap is_between e)
        (record { standing = Out; work = seq_at_stage (with_block x.work.work calls seq) stage.Look })
        (rest_stays at.site (front at words) (map as_locked sides) g.locked r (record { standing = x.standing; work = x.work.work })
        (locked_there at words sides g r x s.there stage.Locked e)
        (record { standing = Out; work = at_work_stage (with_block x.work.work calls seq) Rest }) refl tt (no_store x.work.work.stage f.0) refl refl)
        (record { open_call = new; get = get; out = refl; no_reply = refl }, refl)
    opens_by calls seq out e new false get =
        stays at words low size sides g r x s.there (ap is_between e)
        (record { standing = Asking; work = seq_at_stage (with_block x.work.work calls seq) stage.Locked })
        (open_keeps at.site (front at words) (map as_locked sides) g.locked r (record { standing = x.standing; work = x.work.work })
        (locked_there at words sides g r x s.there stage.Locked e) calls seq out new)
        (refl, λ b. get)

    pub opens : (calls : List Call) (seq : ℕ) → x.standing ≡ Out → seq_is_open x.work ≡ false → IsOpen at.site r calls seq x.work.work.transcript
        → SeqGood at words (slice_set sides r (record { standing = opened_standing (asks calls); work = seq_block x.work calls seq }))
    opens calls seq out closed new = opens_by calls seq out (closed_at x.work.work x.work.stage closed).0 new (first_reads calls) refl

    pub shifts : (standing : Standing) (events : List Event) → Shift r x.standing standing events →
        SeqGood at words (slice_set sides r (record { standing = standing; work = x.work }))
    shifts standing events shift = by_stage x.work.stage refl where
      never_out : x.standing ≡ Out → ⊥
      never_out out = subst (λ st. Shift r st standing events) out shift

      never_writer : x.standing ≡ Writer → ⊥
      never_writer writer = subst (λ st. Shift r st standing events) writer shift

      decided : (st : SeqStage) → x.work.stage ≡ st → is_decided st ≡ true → ⊥
      decided st e d = never_writer (decided_writes at words sides g r x s.there (ap is_decided e ∙ d))

      by_stage : (st : SeqStage) → x.work.stage ≡ st → SeqGood at words (slice_set sides r (record { standing = standing; work = x.work }))
      by_stage stage.Locked e =
          subst (λ z. SeqGood at words (slice_set sides r (record { standing = standing; work = seq_at_stage x.work.work z }))) (sym e)
          (stays at words low size sides g r x s.there (ap is_between e) (record { standing = standing; work = seq_at_stage x.work.work stage.Locked })
          (shift_keeps at.site (front at words) (map as_locked sides) g.locked r (record { standing = x.standing; work = x.work.work })
          (locked_there at words sides g r x s.there stage.Locked e) standing events shift)
          (fit_at at words sides g r x s.there stage.Locked e))
      by_stage stage.Look e = absurd (never_out (fit_at at words sides g r x s.there stage.Look e).0.out)
      by_stage (stage.Count v) e = absurd (never_out (fit_at at words sides g r x s.there (stage.Count v) e).0.out)
      by_stage (stage.Read v count word) e = absurd (never_out (fit_at at words sides g r x s.there (stage.Read v count word) e).getting.out)
      by_stage (stage.Again v count) e = absurd (never_out (fit_at at words sides g r x s.there (stage.Again v count) e).getting.out)
      by_stage stage.Decided e = absurd (decided stage.Decided e refl)
      by_stage (stage.Open v) e = absurd (decided (stage.Open v) e refl)
      by_stage (stage.Write v) e = absurd (decided (stage.Write v) e refl)
      by_stage (stage.Close v) e = absurd (decided (stage.Close v) e refl)

    -- what changes with the opening
    opened_by : (calls : List Call) (seq : ℕ) → x.work.stage ≡ stage.Locked → (b : Bool) →
        let y : TheSeqWork = seq_at_stage (with_block x.work.work calls seq) (stage_of b) in
        (look T words r y ≡ opened_look (look T words r x.work) calls seq) × (seq_is_open y ≡ true) × (T.ended y ≡ T.ended x.work) ×
        (mode.Write ≡ opened_mode (asks_by b) mode.Write)
    opened_by calls seq e true = (refl, refl, ap (ended_at x.work.work) (sym e), refl)
    opened_by calls seq e false = (refl, refl, ap (ended_at x.work.work) (sym e), refl)

    pub opened : (calls : List Call) (seq : ℕ) → seq_is_open x.work ≡ false → let y : TheSeqWork = seq_block x.work calls seq in
        (look T words r y ≡ opened_look (look T words r x.work) calls seq) × (seq_is_open y ≡ true) × (T.ended y ≡ T.ended x.work) ×
        (mode.Write ≡ opened_mode (asks calls) mode.Write)
    opened calls seq closed = opened_by calls seq (closed_at x.work.work x.work.stage closed).0 (first_reads calls)

    pub all_ended : seq_is_open x.work ≡ false → T.ended x.work ≡ x.work.work.transcript.items
    all_ended closed = ap (ended_at x.work.work) (closed_at x.work.work x.work.stage closed).0

    pub own : IsOwnTranscript at.site r x.work.work.transcript.items
    own = subst (IsOwnTranscript at.site r) (same_items x) (g.locked.own r (as_locked x) (get_map as_locked sides r x s.there))

  -- the transcripts are those of the work inside the lock
  same_transcripts : (words : List ℕ) (r : ℕ) (sides : List SeqRank) → transcripts (map as_locked sides) ≡ transcripts_from T words r sides
  same_transcripts words r [] = refl
  same_transcripts words r (x ∷ sides) = ap (λ z. z ∷ transcripts (map as_locked sides)) (same_items x)
      ∙ ap (λ z. x.work.work.transcript.items ∷ z) (same_transcripts words (r + 1) sides)

  module _ (words : List ℕ) (sides : List SeqRank) (g : SeqGood at words sides) where
    pub ranks : length sides ≡ length at.site.rooms
    ranks = sym (length-map sides as_locked) ∙ g.locked.ranks

    pub legal : IsLegal at.site.geom (journal_by at.site words) (transcripts_from T words 0 sides)
    legal = subst (IsLegal at.site.geom (journal_by at.site words)) (same_transcripts words 0 sides)
        (always_legal at.site (front at words) (map as_locked sides) g.locked)

    pub sorted : IsSorted (history (journal_by at.site words) (transcripts_from T words 0 sides))
    sorted = subst (λ t. IsSorted (history (journal_by at.site words) t)) (same_transcripts words 0 sides)
        (always_sorted at.site (front at words) (map as_locked sides) g.locked)

    pub short : length (journal_by at.site words) ≤ places at.site
    short = let few = journal_short at.site (front at words) (map as_locked sides) g.locked in
        let same = ap length (journal_is at.site (front at words) (map as_locked sides) g.locked) in omega arith

    pub volume : ((r : ℕ) (x : SeqRank) → slice_get sides r ≡ Some x → seq_is_open x.work ≡ false) →
        IsVolume at.site.geom at.site.shard (volume_of at.site.geom (front at words))
        (table_after at.site.geom finite.empty (journal_by at.site words))
    volume closed =
        let same : volume_of at.site.geom (front at words) ≡ g.locked.before = g.locked.still calm in
        subst (λ j. IsVolume at.site.geom at.site.shard (volume_of at.site.geom (front at words)) (table_after at.site.geom finite.empty j))
        (sym (journal_is at.site (front at words) (map as_locked sides) g.locked))
        (subst (λ l. IsVolume at.site.geom at.site.shard l (table_after at.site.geom finite.empty g.locked.journal)) (sym same) g.locked.volume) where
          calm : (r : ℕ) (y : WorkSide) → slice_get (map as_locked sides) r ≡ Some y → is_writing y.work.stage ≡ false
          calm r y get =
              let u = get_map_back as_locked sides r y get in
              let x : SeqRank = u.0 in
              let e : x.work.stage ≡ stage.Locked = (closed_at x.work.work x.work.stage (closed r x u.1)).0 in
              ap (λ (z : WorkSide). is_writing z.work.stage) (sym u.2) ∙ ap (λ st. is_writing
              (locked_at x.standing x.work.work st).work.stage) e ∙ no_store x.work.work.stage
              (fit_at at words sides g r x u.1 stage.Locked e).0
