-- A block of updates that is decided: its stores, and those of the version around them.
use Rattle.std.specs.Prelude.{◌≡◌, ◌≢◌, ℕ, ◌+◌, ◌*◌, ◌%◌, ◌==◌, ◌<◌, ◌≤◌, true, false, cond, List, length, map, slice_get, slice_index, slice_set, Option, Some, None, refl}
use Rattle.std.proofs.Common.{sym, ◌∙◌, ap, subst, ⊎_elim, arith, get_or-set_other, get_or-set_same}
use Rattle.std.proofs.lemmas.Bool.{cases_Bool}
use Rattle.std.proofs.lemmas.List.{length-map}
use Rattle.std.proofs.lemmas.Option.{same_Some}
use Rattle.rl_word.specs.laws.Places.{same_or_not, one_at}
use Rattle.rl_word.specs.declared.acts.Atom.{Atom}
use Rattle.rl_model.specs.declared.entry.Entry.{Entry}
use Rattle.rl_step.specs.declared.events.Standing.TheVariants.{Writer, Leaving}
use Rattle.rl_step.specs.Lock.{IsHolder}
use Rattle.rl_step.specs.Core.{home_at}
use Rattle.rl_step.specs.Do.{do_got, do_words}
use Rattle.rl_volume.specs.declared.write.Write.{Write}
use Rattle.rl_work.specs.declared.stage.Stage.{Stage}
use Rattle.rl_work.specs.declared.stage.Stage.TheVariants.{Rest, Begin, Read, Journal, Volume}
use Rattle.rl_work.specs.laws.AtomLaws.{atom_keeps, atom_can, entry_calls}
use Rattle.rl_work.specs.laws.EndLaws.{plain_atom, tells_rise}
use Rattle.rl_site.specs.Site.{count_word, volume_base, journal_base, lock_base, WaySite}
use Rattle.rl_work.specs.Ways.{side_turned, standing_done}
use Rattle.rl_work.specs.Work.{WorkTurned, has_work, stores, stage_atom, stage_after, to_stage, work_atom, work_after, write_atom, written_on}
use Rattle.rl_work.specs.WorkGood.{WorkSide, WorkGood, FitsAt, IsDecided, side_turned as locked_turned, standing_after as locked_standing}
use Rattle.rl_seq.specs.declared.stage.SeqStage.TheVariants as stage
use Rattle.rl_seq.specs.laws.FitLaws.{is_decided, between_decided, fits_odd, fits_raised, locked_apart, fit_at, locked_there, decided_writes}
use Rattle.rl_seq.specs.laws.FrontLaws.{IsInFront, in_front}
use Rattle.rl_seq.specs.laws.KeepLaws.{good_after, stays, version_moves, locked_same, never_quiet, not_alone}
use Rattle.rl_seq.specs.Site.{front, version_in}
use Rattle.rl_seq.specs.SeqGood.{SeqRank, SeqGood, IsSeqApart, IsQuiet, IsEven, IsOdd, HasJoined, SeqFits, as_locked, is_between}
use Rattle.rl_seq.specs.SeqWork.{seq_at_stage}
use Rattle.rl_seq.specs.laws.Cases.{stored_by}

module _ (at : WaySite) (words : List ℕ) (low : lock_base at.site ≤ at.behind) (size : length words ≡ at.behind + 1) (sides : List SeqRank)
    (g : SeqGood at words sides) (apart : IsSeqApart sides) (r : ℕ) (x : SeqRank) (has : slice_get sides r ≡ Some x) where
  -- beside a writer no other block is decided
  alone_decided : x.standing ≡ Writer → (i : ℕ) (u : SeqRank) → i ≢ r → slice_get sides i ≡ Some u → is_decided u.work.stage ≡ false
  alone_decided writer i u ne get =
      ⊎_elim
      (λ d. let other : u.standing ≡ Writer = decided_writes at words sides g i u get d in
      absurd (ne (sym (apart.excludes r i x u has get writer (subst IsHolder (sym other) tt)))))
      (λ d. d)
      (cases_Bool (is_decided u.work.stage))

  writer_quiet : x.standing ≡ Writer → is_between x.work.stage ≡ false → IsQuiet sides
  writer_quiet writer calm i u get =
      ⊎_elim
      (λ (e : i ≡ r). let same : u ≡ x = one_at sides r u x (subst (λ z. slice_get sides z ≡ Some u) e get) has in
      ap (λ (z : SeqRank). is_between z.work.stage) same ∙ calm)
      (λ (ne : i ≢ r). between_decided u.work.stage (alone_decided writer i u ne get))
      (same_or_not i r)

  others_raised : x.standing ≡ Writer → (v : ℕ) → version_in at words < v → (i : ℕ) (u : SeqRank) → i ≢ r → slice_get sides i ≡ Some u →
      SeqFits at.site (front at words) v i u
  others_raised writer v up i u ne get =
      fits_raised at.site i u.standing u.work.work (front at words) (version_in at words) v up
      (not_alone at words low size sides g r x has i u ne get) u.work.stage (alone_decided writer i u ne get) (g.fits i u get)

  -- the load of the version
  pub finds : x.work.stage ≡ stage.Decided →
      SeqGood at words (slice_set sides r
      (record { standing = x.standing; work = seq_at_stage x.work.work (stage.Open (version_in at words)) }))
  finds e =
      let f : x.work.work.stage ≡ Journal 0 = fit_at at words sides g r x has stage.Decided e in
      let writer : x.standing ≡ Writer = decided_writes at words sides g r x has (ap is_decided e) in
      stays at words low size sides g r x has (ap is_between e)
      (record { standing = x.standing; work = seq_at_stage x.work.work (stage.Open (version_in at words)) })
      (locked_same at words low size sides g r x has (record { standing = x.standing; work = x.work.work })
      (locked_there at words sides g r x has stage.Decided e))
      (f, refl, g.quiet (writer_quiet writer (ap is_between e)))

  -- the version becomes odd
  pub opens_version : (version : ℕ) → x.work.stage ≡ stage.Open version →
      SeqGood at (slice_set words at.behind (version + 1)) (slice_set sides r
      (record { standing = x.standing; work = seq_at_stage x.work.work (stage.Write version) }))
  opens_version version e =
      let f = fit_at at words sides g r x has (stage.Open version) e in
      let writer : x.standing ≡ Writer = decided_writes at words sides g r x has (ap is_decided e) in
      let y : SeqRank = record { standing = x.standing; work = seq_at_stage x.work.work (stage.Write version) } in
      let was : IsEven version (slice_index (front at words) count_word) = f.2 in
      version_moves at words low size sides g r x has (version + 1) y
      (locked_same at words low size sides g r x has (record { standing = x.standing; work = x.work.work })
      (locked_there at words sides g r x has (stage.Open version) e))
      (λ q. absurd (never_quiet at words low size sides g r x has y refl q))
      (ap stores f.0, record { even = was.even; one_more = refl }, was.few)
      (others_raised writer (version + 1) (let n = f.1 in omega arith))

  -- and even again
  pub closes_version : (version : ℕ) → x.work.stage ≡ stage.Close version
      → SeqGood at (slice_set words at.behind (version + 2)) (slice_set sides r
      (record { standing = standing_done x.standing; work = seq_at_stage x.work.work stage.Locked }))
  closes_version version e =
      let f = fit_at at words sides g r x has (stage.Close version) e in
      let rests : x.work.work.stage ≡ Rest = f.0 in
      let writer : x.standing ≡ Writer = f.1 in
      let odd : IsOdd version (version_in at words) = f.2 in
      let leaves : standing_done x.standing ≡ Leaving = ap standing_done writer in
      let y : SeqRank = record { standing = standing_done x.standing; work = seq_at_stage x.work.work stage.Locked } in
      version_moves at words low size sides g r x has (version + 2) y
      (subst (λ z. WorkGood at.site (front at words) (slice_set (map as_locked sides) r (record { standing = z; work = x.work.work }))) (sym leaves)
      (locked_same at words low size sides g r x has (record { standing = Leaving; work = x.work.work })
      (locked_there at words sides g r x has (stage.Close version) e)))
      (λ q. record { even = let even = odd.even in omega arith; few = f.3 })
      (ap stores rests, λ b. let no : has_work x.work.work.stage ≡ false = ap has_work rests in absurd (cc))
      (others_raised writer (version + 2) (let n = odd.one_more in omega arith))

  -- what a store between them leaves
  record IsWritten (a : Atom) (t : WorkTurned) : Type 0 where
    goes : t.over ≡ false → (stores t.work.stage ≡ true) × (slice_index (do_words a (front at words)) count_word ≡ slice_index (front at words) count_word)
    joins : t.over ≡ true → (t.work.stage ≡ Rest) ×
        (slice_index (front at words) count_word + 1 ≤ slice_index (do_words a (front at words)) count_word) × HasJoined t.work

  module _ (version : ℕ) (e : x.work.stage ≡ stage.Write version) where
    abbrev side : WorkSide
    side = record { standing = x.standing; work = x.work.work }

    there : slice_get (map as_locked sides) r ≡ Some side
    there = locked_there at words sides g r x has (stage.Write version) e

    written : (a : Atom) (got : ℕ) (st : Stage) → x.work.work.stage ≡ st → stores st ≡ true →
        stage_atom at.site.geom x.work.work st ≡ Some a → IsWritten a (stage_after at.site.geom at.site.shard r x.work.work got st)
    written a got Rest s stores p = absurd (cc)
    written a got Begin s stores p = absurd (cc)
    written a got (Read count word) s stores p = absurd (cc)
    written a got (Journal made) s stores p =
        let w : ℕ = journal_base at.site.geom + (6 * x.work.work.at + made) in
        let same : slice_index (do_words a (front at words)) count_word ≡ slice_index (front at words) count_word =
        ap (λ b. slice_index (do_words b (front at words)) count_word) (sym (same_Some _ _ p))
        ∙ get_or-set_other (front at words) w count_word _ 0 (λ q. absurd (omega arith)) in
        elim (made + 1 == 6 * length x.work.work.entries) as (λ b. IsWritten a
        (cond b (to_stage x.work.work (Volume 0)) (to_stage x.work.work (Journal (made + 1))))) [
          | true ↦ record { goes = λ o. (refl, same); joins = λ o. absurd (cc) }
          | false ↦ record { goes = λ o. (refl, same); joins = λ o. absurd (cc) }
        ]
    written a got (Volume made) s stores p = by_write (slice_get x.work.work.writes made) refl p where
      f : FitsAt at.site (front at words) g.locked.journal g.locked.before r side (Volume made)
      f = subst (FitsAt at.site (front at words) g.locked.journal g.locked.before r side) s (g.locked.fits r side there)

      d : IsDecided at.site r g.locked.journal g.locked.before side
      d = f.0

      by_write : (o : Option Write) → slice_get x.work.work.writes made ≡ o →
          Some (write_atom (x.work.work.at + length x.work.work.entries) o) ≡ Some a → IsWritten a (written_on x.work.work made o)
      by_write (Some v) get q =
          let same : slice_index (do_words a (front at words)) count_word ≡ slice_index (front at words) count_word =
          ap (λ b. slice_index (do_words b (front at words)) count_word) (sym (same_Some _ _ q))
          ∙ get_or-set_other (front at words) (volume_base + v.word) count_word v.value 0 (λ z. absurd (omega arith)) in
          record { goes = λ o. (refl, same); joins = λ o. absurd (cc) }
      by_write None get q =
          let count : ℕ = x.work.work.at + length x.work.work.entries in
          let inside : count_word < length (front at words) = let n = g.locked.size in omega arith in
          let stored : slice_index (do_words a (front at words)) count_word ≡ count =
          ap (λ b. slice_index (do_words b (front at words)) count_word) (sym (same_Some _ _ q)) ∙ get_or-set_same (front at words) count_word count 0 inside in
          let ends = entry_calls at.site (front at words) (map as_locked sides) g.locked r side there made s in
          let long : length x.work.work.entries ≡ length x.work.work.calls = sym (length-map x.work.work.entries (λ (z : Entry). z.call)) ∙ ap length ends.0 in
          let some : 1 ≤ length x.work.work.calls = d.open_call.is_block.some in
          let found : x.work.work.at ≡ length g.locked.journal = d.found in
          let counted : slice_index (front at words) count_word ≡ length g.locked.journal = g.locked.count in
          record {
            goes = λ o. absurd (cc);
            joins = λ o. (
              refl,
              omega arith,
              record {
                earlier = x.work.work.transcript.items;
                items = refl;
                calls_are = ends.0;
                parts =
                    tells_rise _ _ _ _ 0 x.work.work.entries ends.1;
                update = d.update;
              },
            );
          }

    -- a store between them
    pub writes_on : (a : Atom) (cards : List ℕ) (home : ℕ) → work_atom at.site.geom x.work.work ≡ Some a
        → SeqGood at (do_words a words)
        (slice_set sides r (side_turned x.standing (stored_by version
        (work_after at.site.geom at.site.shard r x.work.work (do_got a words cards)).work
        (work_after at.site.geom at.site.shard r x.work.work (do_got a words cards)).over)))
    writes_on a cards home planned =
        let f = fit_at at words sides g r x has (stage.Write version) e in
        let odd : IsOdd version (version_in at words) = f.1 in
        let writer : x.standing ≡ Writer = decided_writes at words sides g r x has (ap is_decided e) in
        let holds : IsHolder x.standing = subst IsHolder (sym writer) tt in
        let q : IsInFront at words low size a cards =
        in_front at words low size (home_at (λ w. 0) a) r a cards (plain_atom at.site.geom x.work.work x.work.work.stage a planned)
        (atom_can at.site (front at words) (map as_locked sides) g.locked r side there a (λ w. 0) cards planned) in
        let vs : List ℕ = do_words a words in
        let t : WorkTurned = work_after at.site.geom at.site.shard r x.work.work (do_got a words cards) in
        let kept : WorkGood at.site (do_words a (front at words)) (slice_set (map as_locked sides) r (locked_turned x.standing t)) =
        subst (λ n. WorkGood at.site (do_words a (front at words))
        (slice_set (map as_locked sides) r (locked_turned x.standing (work_after at.site.geom at.site.shard r x.work.work n))))
        (sym q.got_is)
        (atom_keeps at.site (front at words) (map as_locked sides) g.locked r side there (locked_apart sides apart) holds a cards planned) in
        let is : IsWritten a t = written a (do_got a words cards) x.work.work.stage refl f.0 planned in
        let never : version_in at words % 2 ≡ 0 → ⊥ = λ even. let was = odd.even in let n = odd.one_more in omega arith in
        let moves : (y : SeqRank) → is_between y.work.stage ≡ true → as_locked y ≡ locked_turned x.standing t → SeqFits at.site
        (do_words a (front at words)) (version_in at words) r y → SeqGood at vs (slice_set sides r y) =
        λ y between same here.
        good_after at words low size sides g r x has vs y
        (subst (λ z. WorkGood at.site z (slice_set (map as_locked sides) r (as_locked y))) (sym q.words_are)
        (subst (λ z. WorkGood at.site (do_words a (front at words)) (slice_set (map as_locked sides) r z)) (sym same) kept))
        (λ quiet. absurd (never_quiet at words low size sides g r x has y between quiet))
        (subst (λ z. SeqFits at.site z (version_in at vs) r y) (sym q.words_are)
        (subst (λ n. SeqFits at.site (do_words a (front at words)) n r y) (sym q.same_version) here))
        (λ i u ne get.
        subst (λ z. SeqFits at.site z (version_in at vs) i u) (sym q.words_are)
        (subst (λ n. SeqFits at.site (do_words a (front at words)) n i u) (sym q.same_version)
        (fits_odd at.site i u.standing u.work.work (front at words) (do_words a (front at words)) (version_in at words) never u.work.stage
        (alone_decided writer i u ne get) (g.fits i u get)))) in
        elim t.over as (λ b. t.over ≡ b → SeqGood at vs (slice_set sides r (side_turned x.standing (stored_by version t.work b)))) [
          | true ↦ λ over.
              let j = is.joins over in
              moves (record { standing = x.standing; work = seq_at_stage t.work (stage.Close version) }) refl
              (ap (λ b. record { standing = locked_standing b x.standing; work = t.work }) (sym over))
              (j.0, writer, odd, let up = j.1 in let few = f.2 in omega arith, j.2)
          | false ↦ λ over.
              let j = is.goes over in
              moves (record { standing = x.standing; work = seq_at_stage t.work (stage.Write version) }) refl
              (ap (λ b. record { standing = locked_standing b x.standing; work = t.work }) (sym over))
              (j.0, odd, let same = j.1 in let few = f.2 in omega arith)
        ] refl
