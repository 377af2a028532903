-- Each atom of the work under a sequence lock keeps the rule.
use Rattle.std.specs.Prelude.{◌≡◌, ◌≢◌, ℕ, ◌+◌, ◌<◌, ◌≤◌, true, false, List, [], length, map, slice_get, slice_set, Some, None, refl}
use Rattle.std.proofs.Common.{sym, ◌∙◌, ap, subst, inl, inr, arith}
use Rattle.std.proofs.lemmas.List.{length-take-le}
use Rattle.std.proofs.lemmas.Option.{same_Some}
use Rattle.rl_word.specs.declared.acts.Atom.{Atom}
use Rattle.rl_word.specs.declared.acts.Atom.TheVariants as atom
use Rattle.rl_step.specs.declared.events.Standing.{Standing}
use Rattle.rl_step.specs.declared.events.Standing.TheVariants.{Out, Asking, Writer, Reader, Leaving}
use Rattle.rl_step.specs.Lock.{IsHolder, Rests}
use Rattle.rl_step.specs.Core.{home_at}
use Rattle.rl_step.specs.Do.{CanDo, do_got, do_words}
use Rattle.rl_work.specs.declared.stage.Stage.{Stage}
use Rattle.rl_work.specs.declared.stage.Stage.TheVariants.{Rest, Begin, Read, Journal, Volume}
use Rattle.rl_work.specs.laws.AtomLaws.{atom_keeps, atom_can}
use Rattle.rl_work.specs.PlainWork.{IsPlain}
use Rattle.rl_work.specs.laws.EndLaws.{plain_atom}
use Rattle.rl_work.specs.Locked.{first_reads}
use Rattle.rl_site.specs.Site.{count_word, volume_base, lock_base, WaySite}
use Rattle.rl_work.specs.laws.LockedLaws.{front_names}
use Rattle.rl_work.specs.Ways.{IsWorkAtom, IsFrontAtom, side_turned, standing_done}
use Rattle.rl_work.specs.Work.{TheWork, WorkTurned, has_work, stores, stage_atom, work_atom, work_after}
use Rattle.rl_work.specs.WorkGood.{WorkSide, WorkGood, FitsAt, IsInCall, side_turned as locked_turned, standing_after as locked_standing}
use Rattle.rl_seq.specs.declared.stage.SeqStage.{SeqStage}
use Rattle.rl_seq.specs.declared.stage.SeqStage.TheVariants as stage
use Rattle.rl_seq.specs.laws.CheckLaws.{checks}
use Rattle.rl_seq.specs.laws.FitLaws.{locked_apart, fit_at, locked_there}
use Rattle.rl_seq.specs.laws.FrontLaws.{IsInFront, in_front}
use Rattle.rl_seq.specs.laws.KeepLaws.{stays, looks, counts, reads_word, wanted_there}
use Rattle.rl_seq.specs.laws.OutcomeLaws.{Outcome, load_outcome, load_changes}
use Rattle.rl_seq.specs.Site.{front, version_in}
use Rattle.rl_seq.specs.SeqGood.{SeqRank, SeqGood, IsSeqApart, SeqFits, as_locked, locked_at, is_between}
use Rattle.rl_seq.specs.SeqWork.{seq_at_stage, loaded_by, loaded_on, seq_touch_at, seq_stage_atom, seq_stage_after, seq_table}
use Rattle.rl_seq.specs.laws.WriterLaws.{finds, opens_version, closes_version, writes_on}

-- a side with an atom has an open block
pub works_on : (at : WaySite) (w : TheWork) (st : Stage) (a : Atom) → stage_atom at.site.geom w st ≡ Some a → has_work st ≡ true
works_on at w Rest a e = absurd (cc)
works_on at w Begin a e = refl
works_on at w (Read count word) a e = refl
works_on at w (Journal made) a e = refl
works_on at w (Volume made) a e = refl

module _ (at : WaySite) (words : List ℕ) (low : lock_base at.site ≤ at.behind) (size : length words ≡ at.behind + 1) (sides : List SeqRank)
    (g : SeqGood at words sides) (r : ℕ) (x : SeqRank) (has : slice_get sides r ≡ Some x) where
  -- a rank that loads inside the lock holds it
  pub loads_holding : Rests x.standing → x.work.stage ≡ stage.Locked → (a : Atom) → work_atom at.site.geom x.work.work ≡ Some a → IsHolder x.standing
  loads_holding rests e a planned =
      by_stage x.work.work.stage (g.locked.fits r (record { standing = x.standing; work = x.work.work })
      (locked_there at words sides g r x has stage.Locked e)) planned
    where
      in_call : (st : Standing) → Rests st → IsInCall st → IsHolder st
      in_call Out q i = absurd i
      in_call Asking q i = absurd q
      in_call Writer q i = tt
      in_call Reader q i = tt
      in_call Leaving q i = absurd i

      by_stage : (s : Stage) → FitsAt at.site (front at words) g.locked.journal g.locked.before r
          (record { standing = x.standing; work = x.work.work }) s → stage_atom at.site.geom x.work.work s ≡ Some a → IsHolder x.standing
      by_stage Rest f p = absurd (cc)
      by_stage Begin f p = in_call x.standing rests f.1
      by_stage (Read count word) f p = f.holds
      by_stage (Journal made) f p = subst IsHolder (sym f.0.writes) tt
      by_stage (Volume made) f p = subst IsHolder (sym f.0.writes) tt

  module _ (apart : IsSeqApart sides) (rests : Rests x.standing) where
    -- a load inside the lock
    loads : x.work.stage ≡ stage.Locked → (a : Atom) (cards : List ℕ) → work_atom at.site.geom x.work.work ≡ Some a
        → SeqGood at (do_words a words)
        (slice_set sides r (side_turned x.standing (loaded_on
        (work_after at.site.geom at.site.shard r x.work.work (do_got a words cards)))))
    loads e a cards planned =
        let w : TheWork = x.work.work in
        let f = fit_at at words sides g r x has stage.Locked e in
        let side : WorkSide = record { standing = x.standing; work = w } in
        let there : slice_get (map as_locked sides) r ≡ Some side = locked_there at words sides g r x has stage.Locked e in
        let holds : IsHolder x.standing = loads_holding rests e a planned in
        let leaves : standing_done x.standing ≡ Leaving = done_leaves x.standing holds in
        let q : IsInFront at words low size a cards =
        in_front at words low size (home_at (λ z. 0) a) r a cards (plain_atom at.site.geom w w.stage a planned)
        (atom_can at.site (front at words) (map as_locked sides) g.locked r side there a (λ z. 0) cards planned) in
        let t : WorkTurned = work_after at.site.geom at.site.shard r w (do_got a words cards) in
        let kept : WorkGood at.site (do_words a (front at words)) (slice_set (map as_locked sides) r (locked_turned x.standing t)) =
        subst (λ n. WorkGood at.site (do_words a (front at words))
        (slice_set (map as_locked sides) r (locked_turned x.standing (work_after at.site.geom at.site.shard r w n)))) (sym q.got_is)
        (atom_keeps at.site (front at words) (map as_locked sides) g.locked r side there (locked_apart sides apart) holds a cards planned) in
        let as_was : WorkGood at.site (front at words) (slice_set (map as_locked sides) r (locked_turned x.standing t)) =
        subst (λ z. WorkGood at.site z (slice_set (map as_locked sides) r (locked_turned x.standing t)))
        (load_changes at.site.geom w w.stage a (front at words) f.0 planned) kept in
        let o : Outcome w.calls t = load_outcome at.site.geom at.site.shard r w (do_got a words cards) w.stage f.0 (works_on at w w.stage a planned) in
        let moves : (y : SeqRank) → as_locked y ≡ locked_turned x.standing t → SeqFits at.site (front at words)
        (version_in at words) r y → SeqGood at words (slice_set sides r y) =
        λ y same here. stays at words low size sides g r x has (ap is_between e) y
        (subst (λ z. WorkGood at.site (front at words) (slice_set (map as_locked sides) r z)) (sym same) as_was) here in
        let gone : ◌≡◌ {A = WorkSide} (record { standing = standing_done x.standing; work = t.work })
        (record { standing = Leaving; work = t.work }) = ap (λ s. record { standing = s; work = t.work }) leaves in
        let done : t.over ≡ true → ◌≡◌ {A = WorkSide} (record { standing = Leaving; work = t.work }) (locked_turned x.standing t) =
        λ over. ap (λ b. record { standing = locked_standing b x.standing; work = t.work }) (sym over) in
        subst (λ z. SeqGood at z (slice_set sides r (side_turned x.standing (loaded_on t)))) (sym (load_changes at.site.geom w w.stage a words f.0 planned))
        (elim t.over as (λ b. t.over ≡ b → SeqGood at words (slice_set sides r (side_turned x.standing (loaded_by t.work b (stores t.work.stage))))) [
          | true ↦ λ over.
              moves (record { standing = standing_done x.standing; work = seq_at_stage t.work stage.Locked }) (gone ∙ done over)
              (ap stores (o.rests over), λ b. let no : has_work t.work.stage ≡ false = ap has_work (o.rests over) in absurd (cc))
          | false ↦ λ over.
              let same : record { standing = x.standing; work = t.work } ≡ locked_turned x.standing t =
              ap (λ b. record { standing = locked_standing b x.standing; work = t.work }) (sym over) in
              elim (stores t.work.stage) as (λ b. stores t.work.stage ≡ b → SeqGood at words
              (slice_set sides r (side_turned x.standing (loaded_by t.work false b)))) [
                | true ↦ λ yes. moves (record { standing = x.standing; work = seq_at_stage t.work stage.Decided }) same (o.decided over yes)
                | false ↦ λ no. moves (record { standing = x.standing; work = seq_at_stage t.work stage.Locked }) same
                    (no, λ b. ap first_reads o.same_calls ∙ f.1 (works_on at w w.stage a planned))
              ] refl
        ] refl)
      where
        done_leaves : (st : Standing) → IsHolder st → standing_done st ≡ Leaving
        done_leaves Out h = absurd h
        done_leaves Asking h = absurd h
        done_leaves Writer h = refl
        done_leaves Reader h = refl
        done_leaves Leaving h = absurd h

    -- every atom
    abbrev Made : List ℕ → SeqStage → Atom → Type 0
    Made cards st a = SeqGood at (do_words a words) (slice_set sides r (side_turned x.standing (seq_stage_after at r x.work.work (do_got a words cards) st)))

    pub makes_at : (a : Atom) (cards : List ℕ) → seq_stage_atom at x.work.work x.work.stage ≡ Some a → Made cards x.work.stage a
    makes_at a cards planned = by_stage x.work.stage refl planned where
      by_stage : (st : SeqStage) → x.work.stage ≡ st → seq_stage_atom at x.work.work st ≡ Some a → Made cards st a
      by_stage stage.Locked e p = loads e a cards p
      by_stage stage.Look e p = subst (Made cards stage.Look) (same_Some _ _ p) (looks at words low size sides g r x has e)
      by_stage (stage.Count version) e p = subst (Made cards (stage.Count version)) (same_Some _ _ p) (counts at words low size sides g r x has version e)
      by_stage (stage.Read version count word) e p = subst (Made cards (stage.Read version count word)) (same_Some _ _ p)
          (reads_word at words low size sides g r x has version count word e)
      by_stage (stage.Again version count) e p = subst (Made cards (stage.Again version count)) (same_Some _ _ p)
          (checks at words low size sides g r x has version count e)
      by_stage stage.Decided e p = subst (Made cards stage.Decided) (same_Some _ _ p) (finds at words low size sides g apart r x has e)
      by_stage (stage.Open version) e p = subst (Made cards (stage.Open version)) (same_Some _ _ p)
          (opens_version at words low size sides g apart r x has version e)
      by_stage (stage.Write version) e p = writes_on at words low size sides g apart r x has version e a cards 0 p
      by_stage (stage.Close version) e p = subst (Made cards (stage.Close version)) (same_Some _ _ p)
          (closes_version at words low size sides g apart r x has version e)

  -- and is a load or a store of a word that is there and isn't the lock's
  module _ (home : ℕ) where
    in_front_atom : (h : ℕ) (a : Atom) (cards : List ℕ) → IsPlain a → CanDo h r a (front at words) cards → IsWorkAtom (seq_table at home) a
    in_front_atom h (atom.Load w) cards p c =
        let there : w < length (front at words) = c in
        let here : w < lock_base at.site = omega (arith, length-take-le (lock_base at.site) words (omega arith)) in
        record { there = omega arith; place = inl here }
    in_front_atom h (atom.Store w v) cards p c =
        let there : w < length (front at words) = c in
        let here : w < lock_base at.site = omega (arith, length-take-le (lock_base at.site) words (omega arith)) in
        record { there = omega arith; place = inl here }
    in_front_atom h (atom.LocalCas w old new) cards p c = absurd p
    in_front_atom h (atom.Take n) cards p c = absurd p
    in_front_atom h (atom.CardLoad w) cards p c = absurd p
    in_front_atom h (atom.CardStore w v) cards p c = absurd p
    in_front_atom h (atom.Leave n) cards p c = absurd p

    pub plain_at : (a : Atom) → seq_stage_atom at x.work.work x.work.stage ≡ Some a → IsWorkAtom (seq_table at home) a
    plain_at a planned = by_stage x.work.stage refl planned where
      inside : (st : SeqStage) → x.work.stage ≡ st → locked_at x.standing x.work.work st ≡
          record { standing = x.standing; work = x.work.work } → work_atom at.site.geom x.work.work ≡ Some a →
          IsWorkAtom (seq_table at home) a
      inside st e same p =
          in_front_atom (home_at (λ z. 0) a) a [] (plain_atom at.site.geom x.work.work x.work.work.stage a p)
          (atom_can at.site (front at words) (map as_locked sides) g.locked r (record { standing = x.standing; work = x.work.work })
          (locked_there at words sides g r x has st e ∙ ap Some same) a (λ z. 0) [] p)

      version : (b : Atom) → IsWorkAtom (seq_table at home) b → Some b ≡ Some a → IsWorkAtom (seq_table at home) a
      version b is p = subst (IsWorkAtom (seq_table at home)) (same_Some _ _ p) is

      by_stage : (st : SeqStage) → x.work.stage ≡ st → seq_stage_atom at x.work.work st ≡ Some a → IsWorkAtom (seq_table at home) a
      by_stage stage.Locked e p = inside stage.Locked e refl p
      by_stage stage.Look e p = version (atom.Load at.behind) (record { there = omega arith; place = inr (omega arith) }) p
      by_stage (stage.Count v) e p = version (atom.Load count_word) (record { there = omega arith; place = inl (omega arith) }) p
      by_stage (stage.Read v count word) e p =
          let f = fit_at at words sides g r x has (stage.Read v count word) e in
          let there = wanted_there at.site.geom g.locked.geom_fits x.work.work.calls x.work.work.seen.pairs word f.wants in
          version (atom.Load (volume_base + word)) (record { there = omega arith; place = inl (omega arith) }) p
      by_stage (stage.Again v count) e p = version (atom.Load at.behind) (record { there = omega arith; place = inr (omega arith) }) p
      by_stage stage.Decided e p = version (atom.Load at.behind) (record { there = omega arith; place = inr (omega arith) }) p
      by_stage (stage.Open v) e p = version (atom.Store at.behind (v + 1)) (record { there = omega arith; place = inr (omega arith) }) p
      by_stage (stage.Write v) e p = inside (stage.Write v) e refl p
      by_stage (stage.Close v) e p = version (atom.Store at.behind (v + 2)) (record { there = omega arith; place = inr (omega arith) }) p

    -- an atom that is told as a touch is on a word before the lock's
    pub fronts_at : (a : Atom) → seq_stage_atom at x.work.work x.work.stage ≡ Some a → seq_touch_at x.work.work x.work.stage ≢ None →
        IsFrontAtom (lock_base at.site) a
    fronts_at a planned told = by_stage x.work.stage refl planned told where
      inside : (st : SeqStage) → x.work.stage ≡ st → locked_at x.standing x.work.work st ≡
          record { standing = x.standing; work = x.work.work } → work_atom at.site.geom x.work.work ≡ Some a →
          IsFrontAtom (lock_base at.site) a
      inside st e same p =
          front_names (lock_base at.site) r (home_at (λ z. 0) a) a words [] (plain_atom at.site.geom x.work.work x.work.work.stage a p)
          (atom_can at.site (front at words) (map as_locked sides) g.locked r (record { standing = x.standing; work = x.work.work })
          (locked_there at words sides g r x has st e ∙ ap Some same) a (λ z. 0) [] p)

      by_stage : (st : SeqStage) → x.work.stage ≡ st → seq_stage_atom at x.work.work st ≡ Some a → seq_touch_at x.work.work st ≢ None →
          IsFrontAtom (lock_base at.site) a
      by_stage stage.Locked e p told = inside stage.Locked e refl p
      by_stage stage.Look e p told = absurd (told refl)
      by_stage (stage.Count v) e p told = absurd (told refl)
      by_stage (stage.Read v count word) e p told = absurd (told refl)
      by_stage (stage.Again v count) e p told = absurd (told refl)
      by_stage stage.Decided e p told = absurd (told refl)
      by_stage (stage.Open v) e p told = absurd (told refl)
      by_stage (stage.Write v) e p told = inside (stage.Write v) e refl p
      by_stage (stage.Close v) e p told = absurd (told refl)
