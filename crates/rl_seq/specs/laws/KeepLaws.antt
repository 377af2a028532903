-- The rule after a step of a rank, by what the step changes; and the loads of a get keep it.
use Rattle.std.specs.Prelude.{◌≡◌, ◌≢◌, ℕ, ◌+◌, ◌%◌, ◌==◌, ◌<◌, ◌≤◌, true, false, List, [], ◌∷◌, ◌++◌, length, map, slice_get, slice_index, slice_set, Option, Some, None, refl}
use Rattle.std.proofs.Common.{sym, ◌∙◌, ap, subst, ⊎_elim, arith, length-append}
use Rattle.std.proofs.lemmas.Bool.Decides.{nat_tests}
use Rattle.std.proofs.lemmas.List.{length-map, take_at, get_or_at, get_or_append_left, take-append-le}
use Rattle.std.proofs.lemmas.Option.{slice_get_within}
use Rattle.rl_word.specs.laws.Places.{same_or_not, one_at, each_set, get_set_same, get_set_other, set_same_get, map_set}
use Rattle.rl_model.specs.declared.call.Call.{Call}
use Rattle.rl_model.specs.declared.geom.Geom.{Geom}
use Rattle.rl_model.specs.Geom.{GeomFits}
use Rattle.rl_step.specs.declared.events.Standing.TheVariants.{Out}
use Rattle.rl_volume.specs.Words.{volume_words}
use Rattle.rl_volume.specs.Seen.{AgreesWith, value_of}
use Rattle.rl_volume.proofs.NextWord.{next_there, next_unseen}
use Rattle.rl_volume.proofs.SeenLaws.{agrees_more}
use Rattle.rl_work.specs.declared.stage.Stage.TheVariants.{Rest}
use Rattle.rl_site.specs.Site.{count_word, volume_base, lock_base, volume_of, WaySite}
use Rattle.rl_work.specs.Unlocked.{wanted, wanted_by, with_word}
use Rattle.rl_site.specs.laws.VolumeLaws.{volume_get}
use Rattle.rl_work.specs.Ways.{side_turned}
use Rattle.rl_work.specs.Work.{TheWork, at_stage as at_work_stage}
use Rattle.rl_work.specs.WorkGood.{WorkSide, WorkGood, IsDone}
use Rattle.rl_seq.specs.declared.stage.SeqStage.{SeqStage}
use Rattle.rl_seq.specs.declared.stage.SeqStage.TheVariants as stage
use Rattle.rl_seq.specs.laws.FitLaws.{fit_at, locked_there}
use Rattle.rl_seq.specs.laws.FrontLaws.{front_get, version_stored, front_kept}
use Rattle.rl_seq.specs.laws.RestLaws.{rest_stays}
use Rattle.rl_seq.specs.Site.{front, version_in}
use Rattle.rl_seq.specs.SeqGood.{AreWanted, SeqRank, SeqGood, IsQuiet, IsEven, IsGetting, IsReadingOut, HasVersion, StillHas, SeqFits, SeqFitsAt, as_locked, is_between}
use Rattle.rl_seq.specs.SeqWork.{seq_at_stage, read_by}
use Rattle.rl_seq.specs.laws.Cases.{looked_by}

-- a word that a block wants is one of the volume
pub wanted_there : (geom : Geom) → GeomFits geom → (cs : List Call) (pairs : List (ℕ × ℕ)) (word : ℕ) →
    wanted_by geom cs pairs ≡ Some word → word < volume_words geom
wanted_there geom fits [] pairs word e = absurd (cc)
wanted_there geom fits (c ∷ cs) pairs word e = next_there geom fits c pairs word e

pub wanted_unseen : (geom : Geom) (cs : List Call) (pairs : List (ℕ × ℕ)) (word : ℕ) → wanted_by geom cs pairs ≡ Some word → value_of pairs word ≡ None
wanted_unseen geom [] pairs word e = absurd (cc)
wanted_unseen geom (c ∷ cs) pairs word e = next_unseen geom c pairs word e

-- one word more, which was wanted
wanted_more : (geom : Geom) (cs : List Call) (pairs : List (ℕ × ℕ)) (word got : ℕ) → AreWanted geom cs pairs →
    wanted_by geom cs pairs ≡ Some word → AreWanted geom cs (pairs ++ (word, got) ∷ [])
wanted_more geom cs pairs word got named is i h =
    let last : List (ℕ × ℕ) = (word, got) ∷ [] in
    let long : length (pairs ++ last) ≡ length pairs + 1 = length-append pairs last in
    ⊎_elim
    (λ (e : i ≡ length pairs).
    ap (wanted_by geom cs) (take_at pairs last i (sym e)) ∙ is ∙ ap (λ (p : ℕ × ℕ). Some p.0) (sym (get_or_at pairs (word, got) [] (0, 0) i (sym e))))
    (λ (ne : i ≢ length pairs).
    let low : i < length pairs = omega arith in
    ap (wanted_by geom cs) (take-append-le i pairs last (omega arith)) ∙ named i low ∙ ap (λ (p : ℕ × ℕ). Some p.0)
    (sym (get_or_append_left pairs last (0, 0) i low)))
    (same_or_not i (length pairs))

module _ (at : WaySite) (words : List ℕ) (low : lock_base at.site ≤ at.behind) (size : length words ≡ at.behind + 1) (sides : List SeqRank)
    (g : SeqGood at words sides) (r : ℕ) (x : SeqRank) (has : slice_get sides r ≡ Some x) where
  -- the state after a step of the rank
  pub good_after : (vs : List ℕ) (y : SeqRank) → WorkGood at.site (front at vs) (slice_set (map as_locked sides) r (as_locked y))
      → (IsQuiet (slice_set sides r y) → IsEven (version_in at vs) (slice_index (front at vs) count_word)) → SeqFits at.site (front at vs)
      (version_in at vs) r y
      → ((i : ℕ) (u : SeqRank) → i ≢ r → slice_get sides i ≡ Some u → SeqFits at.site (front at vs) (version_in at vs) i u) → SeqGood at vs
      (slice_set sides r y)
  good_after vs y locked quiet here others =
      record {
        locked = subst (WorkGood at.site (front at vs)) (sym (map_set as_locked sides r y)) locked;
        quiet = quiet;
        fits = each_set (SeqFits at.site (front at vs) (version_in at vs)) sides r y here others;
      }

  -- a rank that wasn't between its stores to the version isn't why it is odd
  pub quiet_back : is_between x.work.stage ≡ false → (y : SeqRank) → IsQuiet (slice_set sides r y) → IsQuiet sides
  quiet_back calm y quiet i u get =
      ⊎_elim
      (λ (e : i ≡ r). let same : u ≡ x = one_at sides r u x (subst (λ z. slice_get sides z ≡ Some u) e get) has in
      ap (λ (z : SeqRank). is_between z.work.stage) same ∙ calm)
      (λ (ne : i ≢ r). quiet i u (get_set_other sides r i y ne ∙ get))
      (same_or_not i r)

  -- no word changes
  pub stays : is_between x.work.stage ≡ false → (y : SeqRank) →
      WorkGood at.site (front at words) (slice_set (map as_locked sides) r (as_locked y)) →
      SeqFits at.site (front at words) (version_in at words) r y
      → SeqGood at words (slice_set sides r y)
  stays calm y locked here = good_after words y locked (λ q. g.quiet (quiet_back calm y q)) here (λ i u ne get. g.fits i u get)

  -- the version is stored
  pub version_moves : (v : ℕ) (y : SeqRank) → WorkGood at.site (front at words) (slice_set (map as_locked sides) r (as_locked y)) →
      (IsQuiet (slice_set sides r y) → IsEven v (slice_index (front at words) count_word))
      → SeqFits at.site (front at words) v r y → ((i : ℕ) (u : SeqRank) → i ≢ r → slice_get sides i ≡ Some u → SeqFits at.site
      (front at words) v i u) → SeqGood at (slice_set words at.behind v) (slice_set sides r y)
  version_moves v y locked quiet here others =
      let f : front at (slice_set words at.behind v) ≡ front at words = front_kept at words low size v in
      let n : version_in at (slice_set words at.behind v) ≡ v = version_stored at words low size v in
      good_after (slice_set words at.behind v) y
      (subst (λ z. WorkGood at.site z (slice_set (map as_locked sides) r (as_locked y))) (sym f) locked)
      (λ q. subst (λ z. IsEven z (slice_index (front at (slice_set words at.behind v)) count_word)) (sym n)
      (subst (λ z. IsEven v (slice_index z count_word)) (sym f) (quiet q)))
      (subst (λ z. SeqFits at.site (front at (slice_set words at.behind v)) z r y) (sym n) (subst (λ z. SeqFits at.site z v r y) (sym f) here))
      (λ i u ne get. subst (λ z. SeqFits at.site (front at (slice_set words at.behind v)) z i u) (sym n)
      (subst (λ z. SeqFits at.site z v i u) (sym f) (others i u ne get)))

  -- the side in the work inside the lock is as it was
  pub locked_same : (p : WorkSide) → slice_get (map as_locked sides) r ≡ Some p → WorkGood at.site (front at words) (slice_set (map as_locked sides) r p)
  locked_same p there = subst (WorkGood at.site (front at words)) (sym (set_same_get (map as_locked sides) r p there)) g.locked

  -- the stage of a rank that is between its stores to the version says that it isn't quiet
  pub never_quiet : (y : SeqRank) → is_between y.work.stage ≡ true → IsQuiet (slice_set sides r y) → ⊥
  never_quiet y b q = let no : is_between y.work.stage ≡ false = q r y (get_set_same sides r x y has) in cc

  pub ranks : length sides ≡ length at.site.rooms
  ranks = sym (length-map sides as_locked) ∙ g.locked.ranks

  -- beside another rank there is more than one
  pub not_alone : (i : ℕ) (u : SeqRank) → i ≢ r → slice_get sides i ≡ Some u → length at.site.rooms ≡ 1 → ⊥
  not_alone i u ne get one =
      let a : i < length sides = slice_get_within sides i u get in
      let b : r < length sides = slice_get_within sides r x has in
      let e = ranks in
      ne (omega arith)

  -- a get goes on at a stage that no other side speaks of
  module _ (calm : is_between x.work.stage ≡ false) (there : slice_get (map as_locked sides) r ≡ Some
      (record { standing = x.standing; work = at_work_stage x.work.work Rest })) (out : x.standing ≡ Out) where
    pub getting_on : (w : TheWork) (st : SeqStage) → w.transcript ≡ x.work.work.transcript → w.seen.room ≡ x.work.work.seen.room
        → as_locked (record { standing = x.standing; work = seq_at_stage w st }) ≡ record { standing = x.standing; work = at_work_stage w Rest }
        → SeqFitsAt at.site (front at words) (version_in at words) r x.standing w st → SeqGood at words
        (slice_set sides r (record { standing = x.standing; work = seq_at_stage w st }))
    getting_on w st kept room same here =
        stays calm (record { standing = x.standing; work = seq_at_stage w st })
        (subst (λ z. WorkGood at.site (front at words) (slice_set (map as_locked sides) r z)) (sym same)
        (rest_stays at.site (front at words) (map as_locked sides) g.locked r (record { standing = x.standing; work = at_work_stage x.work.work Rest }) there
        (record { standing = x.standing; work = at_work_stage w Rest }) refl (subst IsDone (sym out) tt) refl room kept))
        here

    -- it reads the next word, or the version again
    reads_on : (w : TheWork) (version count : ℕ) → IsGetting at.site r x.standing w → HasVersion at.site version (version_in at words) →
        StillHas at.site (front at words) version (version_in at words) count w.seen.pairs
        → AreWanted at.site.geom w.calls w.seen.pairs → w.transcript ≡ x.work.work.transcript → w.seen.room ≡ x.work.work.seen.room →
        (next : Option ℕ) → wanted at.site.geom w ≡ next
        → SeqGood at words (slice_set sides r (side_turned x.standing (read_by w version count next)))
    reads_on w version count getting found still named kept room (Some word) wants =
        getting_on w (stage.Read version count word) kept room refl (record { getting = getting; has = found; still = still; wants = wants; named = named })
    reads_on w version count getting found still named kept room None wants =
        getting_on w (stage.Again version count) kept room refl (record { getting = getting; has = found; still = still; wants = wants; named = named })

  -- the atoms of a get
  abbrev pub now : ℕ
  now = version_in at words

  pub looks : x.work.stage ≡ stage.Look → SeqGood at words (slice_set sides r (side_turned x.standing (looked_by at x.work.work now (now % 2 == 0))))
  looks e =
      let f : IsGetting at.site r x.standing x.work.work × (x.work.work.seen.pairs ≡ []) = fit_at at words sides g r x has stage.Look e in
      let there = locked_there at words sides g r x has stage.Look e in
      elim (now % 2 == 0) as (λ b. (now % 2 == 0) ≡ b → SeqGood at words (slice_set sides r (side_turned x.standing (looked_by at x.work.work now b)))) [
        | true ↦ λ is.
            let even : now % 2 ≡ 0 = grind (arith, nat_tests) in
            getting_on (ap is_between e) there f.0.out x.work.work (stage.Count now) refl refl refl
            (f.0, record { even = even; past = omega arith; alone = λ _. refl }, f.1)
        | false ↦ λ is. getting_on (ap is_between e) there f.0.out x.work.work stage.Look refl refl refl f
      ] refl

  pub counts : (version : ℕ) → x.work.stage ≡ stage.Count version
      → SeqGood at words (slice_set sides r (side_turned x.standing
      (read_by x.work.work version (slice_index words count_word) (wanted at.site.geom x.work.work))))
  counts version e =
      let f : IsGetting at.site r x.standing x.work.work × HasVersion at.site version now × (x.work.work.seen.pairs ≡ []) =
      fit_at at words sides g r x has (stage.Count version) e in
      let there = locked_there at words sides g r x has (stage.Count version) e in
      let same : slice_index (front at words) count_word ≡ slice_index words count_word = front_get at words low size count_word (omega arith) in
      let nothing : AgreesWith x.work.work.seen.pairs (volume_of at.site.geom (front at words)) =
      subst (λ z. AgreesWith z (volume_of at.site.geom (front at words))) (sym f.2) (λ w. tt) in
      reads_on (ap is_between e) there f.0.out x.work.work version (slice_index words count_word) f.0 f.1
      (record { same_count = λ _. same; same_words = λ _. nothing })
      (subst (AreWanted at.site.geom x.work.work.calls) (sym f.2) (λ i h. absurd (omega arith))) refl refl
      (wanted at.site.geom x.work.work) refl

  pub reads_word : (version count word : ℕ) → x.work.stage ≡ stage.Read version count word
      → let w : TheWork = with_word x.work.work word (slice_index words (volume_base + word)) in
      SeqGood at words (slice_set sides r (side_turned x.standing (read_by w version count (wanted at.site.geom w))))
  reads_word version count word e =
      let f : IsReadingOut at.site (front at words) now r x.standing x.work.work version count (Some word) =
      fit_at at words sides g r x has (stage.Read version count word) e in
      let there = locked_there at words sides g r x has (stage.Read version count word) e in
      let got : ℕ = slice_index words (volume_base + word) in
      let w : TheWork = with_word x.work.work word got in
      let inside : word < volume_words at.site.geom = wanted_there at.site.geom g.locked.geom_fits x.work.work.calls x.work.work.seen.pairs word f.wants in
      let same : slice_index (volume_of at.site.geom (front at words)) word ≡ got = volume_get at.site.geom (front at words) word inside
      ∙ front_get at words low size (volume_base + word) (omega arith) in
      let q : IsGetting at.site r x.standing x.work.work = f.getting in
      reads_on (ap is_between e) there q.out w version count
      (record { open_call = q.open_call; get = q.get; out = q.out; no_reply = q.no_reply })
      f.has
      (record {
        same_count = f.still.same_count;
        same_words = λ s. agrees_more x.work.work.seen.pairs
            (volume_of at.site.geom (front at words)) word got (f.still.same_words s) same;
      })
      (wanted_more at.site.geom x.work.work.calls x.work.work.seen.pairs word got f.named f.wants)
      refl refl (wanted at.site.geom w) refl
