-- Under the rule the numbers of a side fit.
use Rattle.std.specs.Prelude.{◌≡◌, ℕ, ◌+◌, ◌*◌, ◌^◌, ◌<◌, ◌≤◌, List, length, map, slice_get, slice_index, Some, refl}
use Rattle.std.proofs.Common.{sym, ◌∙◌, ap, subst, arith}
use Rattle.std.proofs.lemmas.Option.{same_Some}
use Rattle.rl_word.specs.declared.acts.Atom.{Atom}
use Rattle.rl_model.specs.Geom.{GeomFits}
use Rattle.rl_step.specs.Core.{home_at}
use Rattle.rl_step.specs.Do.{do_got}
use Rattle.rl_volume.specs.Words.{volume_words}
use Rattle.rl_work.specs.laws.AtomLaws.{atom_can, can_name, can_turn}
use Rattle.rl_work.specs.laws.EndLaws.{plain_atom}
use Rattle.rl_work.specs.laws.RoomLaws.{journal_short}
use Rattle.rl_site.specs.Site.{count_word, lock_base, places, WaySite}
use Rattle.rl_work.specs.Ways.{IsSide, MayWork, MayTurn}
use Rattle.rl_work.specs.Work.{TheWork, CanName, CanTurn, work_atom}
use Rattle.rl_work.specs.WorkGood.{WorkSide, HasOpen}
use Rattle.rl_seq.specs.declared.stage.SeqStage.{SeqStage}
use Rattle.rl_seq.specs.declared.stage.SeqStage.TheVariants as stage
use Rattle.rl_seq.specs.laws.CheckLaws.{get_alone}
use Rattle.rl_seq.specs.laws.FitLaws.{fit_at, locked_there}
use Rattle.rl_seq.specs.laws.FrontLaws.{IsInFront, in_front, front_get}
use Rattle.rl_seq.specs.laws.KeepLaws.{wanted_there, wanted_unseen}
use Rattle.rl_seq.specs.Site.{front, version_in}
use Rattle.rl_seq.specs.SeqCode.{CanNameAt, CanTurnAt}
use Rattle.rl_seq.specs.SeqGood.{SeqRank, SeqGood, IsGetting, as_locked, locked_at}
use Rattle.rl_seq.specs.SeqWork.{TheSeqWork, seq_stage_atom, seq_table}

module _ (at : WaySite) (home : ℕ) where
  module _ (words : List ℕ) (sides : List SeqRank) (r : ℕ) (x : SeqRank) (s : IsSide (seq_table at home) (SeqGood at) words sides r x) where
    abbrev w : TheWork
    w = x.work.work

    g : SeqGood at words sides
    g = s.is_good

    size : length words ≡ at.behind + 1
    size = let laid = s.laid in laid.all

    low : lock_base at.site ≤ at.behind
    low = let laid = s.laid in laid.low

    few : lock_base at.site < 2 ^ 32
    few = let laid = s.laid in omega arith

    -- the count is no more than the journal's places
    counted : slice_index (front at words) count_word ≤ places at.site
    counted = let c = g.locked.count in let short = journal_short at.site (front at words) (map as_locked sides) g.locked in omega arith

    inside : (st : SeqStage) → x.work.stage ≡ st → locked_at x.standing w st ≡ record { standing = x.standing; work = w } →
        slice_get (map as_locked sides) r ≡ Some (record { standing = x.standing; work = w })
    inside st e same = locked_there at words sides g r x s.there st e ∙ ap Some same

    names_inside : (st : SeqStage) → x.work.stage ≡ st → locked_at x.standing w st ≡ record { standing = x.standing; work = w } → CanName at.site.geom w w.stage
    names_inside st e same = can_name at.site (front at words) (map as_locked sides) g.locked r (record { standing = x.standing; work = w })
        (inside st e same) few

    pub names : CanNameAt at.site.geom w x.work.stage
    names = subst (CanNameAt at.site.geom w) refl (by_stage x.work.stage refl) where
      by_stage : (st : SeqStage) → x.work.stage ≡ st → CanNameAt at.site.geom w st
      by_stage stage.Locked e = names_inside stage.Locked e refl
      by_stage stage.Look e = tt
      by_stage (stage.Count v) e = tt
      by_stage (stage.Read v count word) e = wanted_there at.site.geom g.locked.geom_fits w.calls w.seen.pairs word
          (fit_at at words sides g r x s.there (stage.Read v count word) e).wants
      by_stage (stage.Again v count) e = tt
      by_stage stage.Decided e = tt
      by_stage (stage.Open v) e =
          let below : v ≤ 2 * slice_index (front at words) count_word = (fit_at at words sides g r x s.there (stage.Open v) e).2.few in
          let c = counted in let f = few in omega arith
      by_stage (stage.Write v) e = names_inside (stage.Write v) e refl
      by_stage (stage.Close v) e =
          let below : v + 2 ≤ 2 * slice_index (front at words) count_word = (fit_at at words sides g r x s.there (stage.Close v) e).3 in
          let c = counted in let f = few in omega arith

    seen_room : (st : SeqStage) → x.work.stage ≡ st → (locked_at x.standing w st).work.seen.room ≡ w.seen.room → w.seen.room ≡ volume_words at.site.geom
    seen_room st e same = sym same ∙ g.locked.seen_rooms r (locked_at x.standing w st) (locked_there at words sides g r x s.there st e)

    turns_inside : (cards : List ℕ) (a : Atom) (st : SeqStage) → x.work.stage ≡ st →
        locked_at x.standing w st ≡ record { standing = x.standing; work = w } → work_atom at.site.geom w ≡ Some a →
        CanTurn at.site.geom w (do_got a words cards) w.stage
    turns_inside cards a st e same planned =
        let there = inside st e same in
        let side : WorkSide = record { standing = x.standing; work = w } in
        let q : IsInFront at words low size a cards =
        in_front at words low size (home_at (λ z. 0) a) r a cards (plain_atom at.site.geom w w.stage a planned)
        (atom_can at.site (front at words) (map as_locked sides) g.locked r side there a (λ z. 0) cards planned) in
        subst (λ n. CanTurn at.site.geom w n w.stage) (sym q.got_is)
        (can_turn at.site (front at words) (map as_locked sides) g.locked r side there few a cards planned)

    pub turns : (cards : List ℕ) (a : Atom) → seq_stage_atom at w x.work.stage ≡ Some a → CanTurnAt at.site.geom w (do_got a words cards) x.work.stage
    turns cards a planned = by_stage x.work.stage refl planned where
      by_stage : (st : SeqStage) → x.work.stage ≡ st → seq_stage_atom at w st ≡ Some a → CanTurnAt at.site.geom w (do_got a words cards) st
      by_stage stage.Locked e p = turns_inside cards a stage.Locked e refl p
      by_stage stage.Look e p = tt
      by_stage (stage.Count v) e p =
          let got : do_got a words cards ≡ slice_index (front at words) count_word = ap (λ b. do_got b words cards) (sym (same_Some _ _ p))
          ∙ sym (front_get at words low size count_word (omega arith)) in
          let c = counted in let f = few in omega arith
      by_stage (stage.Read v count word) e p =
          let f = fit_at at words sides g r x s.there (stage.Read v count word) e in
          let there = wanted_there at.site.geom g.locked.geom_fits w.calls w.seen.pairs word f.wants in
          let room = seen_room (stage.Read v count word) e refl in
          (omega arith, wanted_unseen at.site.geom w.calls w.seen.pairs word f.wants)
      by_stage (stage.Again v count) e p = λ same.
          let f = fit_at at words sides g r x s.there (stage.Again v count) e in
          let q : IsGetting at.site r x.standing w = f.getting in
          let o : HasOpen at.site r w = q.open_call in
          let now : version_in at words ≡ v = ap (λ b. do_got b words cards) (same_Some _ _ p) ∙ same in
          let found : slice_index (front at words) count_word ≡ count = f.still.same_count now in
          let c = get_alone w.calls o.is_block q.get in
          let long : length w.calls ≡ 1 = ap length c.1 in
          record { room = o.room; seen_room = seen_room (stage.Again v count) e refl; small = o.small; places = let k = counted in let h = few in omega arith }
      by_stage stage.Decided e p = tt
      by_stage (stage.Open v) e p = tt
      by_stage (stage.Write v) e p = turns_inside cards a (stage.Write v) e refl p
      by_stage (stage.Close v) e p = tt

  -- of a rank's side alone
  pub may_name : (r : ℕ) (x : TheSeqWork) → MayWork (seq_table at home) (SeqGood at) r x → GeomFits at.site.geom × CanNameAt at.site.geom x.work x.stage
  may_name r x m = let g = m.side.is_good in (g.locked.geom_fits, names m.words m.sides r (record { standing = m.standing; work = x }) m.side)

  pub may_turn : (r : ℕ) (x : TheSeqWork) (got : ℕ) → MayTurn (seq_table at home) (SeqGood at) r x got →
      GeomFits at.site.geom × CanTurnAt at.site.geom x.work got x.stage
  may_turn r x got m =
      let g = m.works.side.is_good in (
        g.locked.geom_fits,
        subst (λ n. CanTurnAt at.site.geom x.work n x.stage) (sym m.gives)
            (turns m.words m.sides r (record { standing = m.standing; work = x }) m.works.side m.cards m.at m.works.planned),
      )
