-- The atoms of a writer that has a call in hand: each is one of that call's seat too, or leaves the seat as it is.
use Rattle.std.specs.Prelude.{◌≡◌, ◌≢◌, ◌⊎◌, ℕ, ◌+◌, ◌*◌, ◌^◌, ◌<◌, ◌≤◌, ◌==◌, Bool, true, false, cond, List, [], ◌∷◌, ◌++◌, length, take, slice_get, slice_index, slice_set, Option, Some, None, refl}
use Rattle.std.proofs.Common.{sym, ◌∙◌, ap, subst, inl, inr, ⊎_elim, arith, get_or-set_other, get_or-set_same}
use Rattle.std.proofs.lemmas.List.{set-set}
use Rattle.std.proofs.lemmas.List.Elements.{All-head}
use Rattle.std.proofs.lemmas.Bool.Decides.{nat_tests}
use Rattle.std.proofs.lemmas.Option.{same_Some}
use Rattle.rl_word.specs.laws.Places.{same_or_not, one_at, some_at, get_set_same, get_set_cases, set_same_get}
use Rattle.rl_word.specs.declared.acts.Atom.{Atom}
use Rattle.rl_word.specs.declared.acts.Atom.TheVariants as atom
use Rattle.rl_model.specs.declared.call.Call.{Call}
use Rattle.rl_model.specs.declared.entry.Entry.{Entry}
use Rattle.rl_model.specs.declared.entry.Reply.{Reply}
use Rattle.rl_model.specs.Call.{is_update, shard_of}
use Rattle.rl_step.specs.declared.events.Standing.TheVariants.{Out, Asking, Writer, Leaving}
use Rattle.rl_step.specs.declared.events.Event.TheVariants.{EnterW}
use Rattle.rl_step.specs.Lock.{IsHolder, Shift}
use Rattle.rl_step.specs.Do.{do_words, do_got}
use Rattle.rl_volume.specs.declared.write.Write.{Write}
use Rattle.rl_volume.specs.Seen.{value_or_zero, next_word}
use Rattle.rl_volume.specs.Decision.{decision}
use Rattle.rl_work.specs.declared.stage.Stage.{Stage as BlockStage}
use Rattle.rl_work.specs.declared.stage.Stage.TheVariants as block
use Rattle.rl_journal.specs.Journal.{spelling}
use Rattle.rl_site.specs.Site.{count_word, volume_base, journal_base, lock_base, WaySite}
use Rattle.rl_site.specs.Opens.{IsOpen}
use Rattle.rl_work.specs.Ways.{Worked, IsApart, IsLaid, side_turned}
use Rattle.rl_site.specs.Transcript.{TheTranscript}
use Rattle.rl_work.specs.Work.{WorkTurned, more_entries, work_atom, work_after, seen_on, at_rest, with_block, with_call, with_entries, journal_on, to_stage as block_to, read_next as block_next, written_on as block_written, write_atom}
use Rattle.rl_work.specs.laws.Cases.{block_close_by}
use Rattle.rl_work.specs.WorkGood.{WorkSide as Seat, WorkGood, IsApart as AreApart, side_turned as seat_turned, side_after as seat_after, FitsAt as BlockFits}
use Rattle.rl_work.specs.laws.RoomLaws.{journal_short}
use Rattle.rl_work.specs.laws.AtomLaws.{atom_can, atom_keeps, shift_keeps, open_keeps}
use Rattle.rl_combine.specs.declared.stage.CombineStage.{CombineStage}
use Rattle.rl_combine.specs.declared.stage.CombineStage.TheVariants.{Copy, Read, Journal, Volume, Answer, Mark}
use Rattle.rl_combine.specs.Posts.{ThePost, post_word, post_of, post_spelling, posted_call, posted_seq, answer_spelling, answered_entry}
use Rattle.rl_combine.specs.Combine.{TheCombineSide, Opened, opened_of, in_hand, combine_table, combine_stage_after, sweep_on, combine_to_stage, combine_at_stage, with_copied, with_posted, combine_with_word, with_decision, combine_read_next, combine_read_on, combine_written_on, found}
use Rattle.rl_combine.specs.laws.Cases.{decided_stage}
use Rattle.rl_combine.specs.CombineGood.{RankSide, front_of, Waits, IsInHand, IsCounted, Progress, waits, handled, counted, answered, IsPosted, IsCombiner, IsSweeping, IsCopying, HasEntry, IsWriting, IsAnswering, IsLeft, IsToEnd, OwnAt, SweepAt, CombineGood, reading, deciding}
use Rattle.rl_combine.specs.laws.PostLaws.{others_stay, posts_stay, call_word, flag_stored, answer_stored, front_get, front_set, front_behind, copies_on, stores_on, call_back, reply_back}
use Rattle.rl_combine.specs.laws.SideLaws.{posted_at, posted_on}
use Rattle.rl_combine.specs.laws.MoveLaws.{SeatGoesOn, Keeps, Combines, combiner_of, seat_of, held_by, seats_apart, writer_moves, combiner_moves}
use Rattle.rl_combine.specs.laws.OwnLaws.{found_flag, end_stays, sweeps_on}

-- a posted call stays in hand while its seat is that of a writer, with the same calls and entries
still_handled : (S : WaySite) (p : ThePost) (k : ℕ) (o : Opened) (y u : Seat) → y.standing ≡ Writer → u.standing ≡ Writer →
    u.work.transcript ≡ y.work.transcript → u.work.calls ≡ y.work.calls → u.work.seq ≡ y.work.seq →
    IsPosted S p k o y → IsPosted S p k o u
still_handled S p k o y u busy writes same calls seq is = record { open_call = is.open_call; spelled = is.spelled; progress = by_case is.progress } where
  by_case : Progress S p k o y → Progress S p k o u
  by_case (waits w) = let out = w.free.out in absurd (cc)
  by_case (handled h) = handled (record { flag = h.flag; writes = writes; has = same ∙ h.has; calls = calls ∙ h.calls; seq = seq ∙ h.seq })
  by_case (counted c) = let leaves = c.leaves in absurd (cc)
  by_case (answered a) = let out = a.free.out in absurd (cc)

-- and knows its calls and entries
pub handled_as : (S : WaySite) (p : ThePost) (k : ℕ) (o : Opened) (y : Seat) → y.standing ≡ Writer → IsPosted S p k o y → IsInHand p o y
handled_as S p k o y busy is = by_case is.progress where
  by_case : Progress S p k o y → IsInHand p o y
  by_case (waits w) = let out = w.free.out in absurd (cc)
  by_case (handled h) = h
  by_case (counted c) = let leaves = c.leaves in absurd (cc)
  by_case (answered a) = let out = a.free.out in absurd (cc)

-- a posted call whose seat is out, with the flag 1, waits
waits_as : (S : WaySite) (p : ThePost) (k : ℕ) (o : Opened) (y : Seat) → y.standing ≡ Out → p.flag ≡ 1 → IsPosted S p k o y → Waits p o y
waits_as S p k o y out one is = by_case is.progress where
  by_case : Progress S p k o y → Waits p o y
  by_case (waits w) = w
  by_case (handled h) = let writes = h.writes in absurd (cc)
  by_case (counted c) = let leaves = c.leaves in absurd (cc)
  by_case (answered a) = let two = a.flag in absurd (omega arith)

-- one whose seat leaves is counted
pub counted_as : (S : WaySite) (p : ThePost) (k : ℕ) (o : Opened) (y : Seat) → y.standing ≡ Leaving → IsPosted S p k o y → IsCounted p o y
counted_as S p k o y leaves is = by_case is.progress where
  by_case : Progress S p k o y → IsCounted p o y
  by_case (waits w) = let out = w.free.out in absurd (cc)
  by_case (handled h) = let writes = h.writes in absurd (cc)
  by_case (counted c) = c
  by_case (answered a) = let out = a.free.out in absurd (cc)

module _ (S : WaySite) (node : ℕ → ℕ) (words : List ℕ) (laid : IsLaid (combine_table S node) words) (sides : List RankSide)
    (g : CombineGood S words sides) (apart : IsApart (combine_table S node) sides) (r : ℕ) (x : RankSide)
    (has : slice_get sides r ≡ Some x) where
  -- the side that some stage leaves
  abbrev left_by : Worked TheCombineSide → RankSide
  left_by t = side_turned x.standing t

  -- an atom of a seat
  seat_turns : (seats : List Seat) → WorkGood S.site (front_of S words) seats → AreApart seats → (j : ℕ) (y : Seat) →
      slice_get seats j ≡ Some y → IsHolder y.standing → (at : Atom) → work_atom S.site.geom y.work ≡ Some at →
      WorkGood S.site (do_words at (front_of S words)) (slice_set seats j (seat_after S.site j y (do_got at (front_of S words) [])))
  seat_turns seats w a j y there holds at planned = atom_keeps S.site (front_of S words) seats w j y there a holds at [] planned

  -- the word of a store is one before the lock's
  pub seat_word : (j : ℕ) (y : Seat) → slice_get g.seats j ≡ Some y → (w v : ℕ) → work_atom S.site.geom y.work ≡ Some (atom.Store w v) → w < lock_base S.site
  seat_word j y there w v planned =
      let can : w < length (front_of S words) = atom_can S.site (front_of S words) g.seats g.work j y there (atom.Store w v) (λ n. 0) [] planned in
      let size = g.work.size in
      omega arith

  -- what is known of the rank at its stage
  sweep_at : (st : CombineStage) → x.work.stage ≡ st → SweepAt S words g.seats r x.work st
  sweep_at st e = subst (SweepAt S words g.seats r x.work) e (g.sweeps r x has)

  only_hand : (st : CombineStage) (owner : ℕ) → x.work.stage ≡ st → in_hand st ≡ Some owner → (k : ℕ) → in_hand x.work.stage ≡ Some k → k ≡ owner
  only_hand st owner e hand k is = same_Some k owner (sym is ∙ ap in_hand e ∙ hand)

  combines : (st : CombineStage) → x.work.stage ≡ st → Combines st → Combines x.work.stage
  combines st e c = subst Combines (sym e) c

  is_writer : (st : CombineStage) → x.work.stage ≡ st → Combines st → x.standing ≡ Writer
  is_writer st e c =
      let s = seat_of S node words laid sides g r x has in
      (combiner_of S (post_of S words r) r x s.0 st c (subst (OwnAt S (post_of S words r) r x s.0) e (g.own r x s.0 has s.1))).0

  -- a word of the answer is stored
  pub answer_told : (owner made : ℕ) → x.work.stage ≡ Answer owner made → (got : ℕ) →
      Keeps S words sides g (slice_set words (post_word S owner (6 + made)) (slice_index (answer_spelling x.work.entry) made))
      (slice_set sides r (left_by (combine_stage_after S r x.work got (Answer owner made))))
  answer_told owner made st got =
      let w : SweepAt S words g.seats r x.work (Answer owner made) = sweep_at (Answer owner made) st in
      let few : made < 3 = w.1 in
      let v : ℕ = slice_index (answer_spelling x.work.entry) made in
      let vs : List ℕ = slice_set words (post_word S owner (6 + made)) v in
      let p : post_of S vs owner ≡ record (post_of S words owner) { answer = slice_set (post_of S words owner).answer made v } =
      answer_stored S words owner v w.0.there laid.all made few in
      let posts : (k : ℕ) → k ≢ owner → post_of S vs k ≡ post_of S words k = λ k ne. others_stay S words owner (6 + made) v k (omega arith) ne in
      let low : lock_base S.site ≤ post_word S owner (6 + made) = (let l = laid.low in omega arith) in
      let same_front : front_of S vs ≡ front_of S words = front_behind S words (post_word S owner (6 + made)) v low in
      let one : (post_of S words owner).flag ≡ 1 = found_flag S node words laid sides g r x has owner (ap found st) in
      let stored : take (made + 1) (post_of S vs owner).answer ≡ take (made + 1) (answer_spelling x.work.entry) =
      ap (λ (q : ThePost). take (made + 1) q.answer) p ∙ stores_on (post_of S words owner).answer (answer_spelling x.work.entry) made few few w.2.stored in
      let side : (y : Seat) × (slice_get g.seats owner ≡ Some y) =
      ⊎_elim (λ (l : IsLeft g.seats x.work.entry owner). (l.side, l.seat))
      (λ (t : IsToEnd S words g.seats x.work.posted x.work.posted_number x.work.entry owner). (t.side, t.seat)) w.2.end in
      let seats : slice_set g.seats owner side.0 ≡ g.seats = set_same_get g.seats owner side.0 side.1 in
      let good : WorkGood S.site (front_of S vs) (slice_set g.seats owner side.0) =
      subst (WorkGood S.site (front_of S vs)) (sym seats) (subst (λ z. WorkGood S.site z g.seats) (sym same_front) g.work) in
      let sweeping : IsSweeping S vs r x.work.count owner =
      record {
        same = w.0.same ∙ sym (get_or-set_other words (post_word S owner (6 + made)) count_word v 0 (λ q. absurd (omega arith)));
        there = w.0.there;
        past = λ h. ap (λ (q : ThePost). q.flag) (posts r (λ e. omega arith)) ∙ w.0.past h;
      } in
      let answering : IsAnswering S vs (slice_set g.seats owner side.0) x.work.posted x.work.posted_number x.work.entry owner (made + 1) =
      subst (λ z. IsAnswering S vs z x.work.posted x.work.posted_number x.work.entry owner (made + 1)) (sym seats)
      (record { entry_is = w.2.entry_is; small = w.2.small; stored = stored; end = end_stays S words vs same_front g.seats x.work.posted x.work.posted_number x.work.entry owner w.2.end }) in
      let turn : (z : RankSide) → slice_get sides owner ≡ Some z → IsPosted S (post_of S words owner) owner
      (opened_of z.work) side.0 → IsPosted S (post_of S vs owner) owner (opened_of z.work) side.0 =
      λ z there is. subst (λ q. IsPosted S q owner (opened_of z.work) side.0) (sym p)
      (record {
        open_call = is.open_call;
        spelled = is.spelled;
        progress =
            answer_stays owner (opened_of z.work) side.0 (slice_set (post_of S words owner).answer made v) one is.progress;
      }) in
      elim (made + 1 == 3) as (λ b. (made + 1 == 3) ≡ b → Keeps S words sides g vs
      (slice_set sides r (left_by (cond b (combine_to_stage x.work (Mark owner)) (combine_to_stage x.work (Answer owner (made + 1))))))) [
        | true ↦ λ e.
            combiner_moves S node words laid sides g apart r x has vs
            (combine_at_stage x.work (Mark owner)) owner side.0 side.0 side.1 good posts refl refl
            (combines (Answer owner made) st tt) tt one turn (
              sweeping,
              subst (IsAnswering S vs (slice_set g.seats owner side.0) x.work.posted x.work.posted_number x.work.entry owner)
                  (grind (arith, nat_tests)) answering,
            )
            (only_hand (Answer owner made) owner st refl) (inr refl) (inl refl)
        | false ↦ λ e.
            combiner_moves S node words laid sides g apart r x has vs
            (combine_at_stage x.work (Answer owner (made + 1))) owner side.0 side.0 side.1 good posts refl refl
            (combines (Answer owner made) st tt) tt one turn
            (sweeping, (let ne : (made + 1 ≡ 3) → ⊥ = λ h. grind (arith, nat_tests) in omega arith), answering)
            (only_hand (Answer owner made) owner st refl) (inr refl) (inl refl)
      ] refl
    where
      answer_stays : (owner : ℕ) (o : Opened) (y : Seat) (answer : List ℕ) → (post_of S words owner).flag ≡ 1 →
          Progress S (post_of S words owner) owner o y → Progress S (record (post_of S words owner) { answer = answer }) owner o y
      answer_stays owner o y answer one (waits w) = waits (record { flag = w.flag; free = w.free })
      answer_stays owner o y answer one (handled h) = handled (record { flag = h.flag; writes = h.writes; has = h.has; calls = h.calls; seq = h.seq })
      answer_stays owner o y answer one (counted c) =
          counted (record {
            flag = c.flag;
            leaves = c.leaves;
            entry = c.entry;
            entries = c.entries;
            has = c.has;
            same_call = c.same_call;
            same_seq = c.same_seq;
            update = c.update;
          })
      answer_stays owner o y answer one (answered a) = let two = a.flag in absurd (omega arith)

  -- A store of the seat's block, to a word before the lock's and no count: the seat goes on as a writer.
  block_stored : (owner w v : ℕ) (y u : Seat) (s : TheCombineSide) → slice_get g.seats owner ≡ Some y →
      work_atom S.site.geom y.work ≡ Some (atom.Store w v) → (w ≡ count_word → ⊥) →
      y.standing ≡ Writer → u.standing ≡ Writer → u.work.transcript ≡ y.work.transcript → u.work.calls ≡ y.work.calls → u.work.seq ≡ y.work.seq →
      WorkGood S.site (slice_set (front_of S words) w v) (slice_set g.seats owner u) →
      (st : CombineStage) → x.work.stage ≡ st → Combines st → found st ≡ Some owner → in_hand st ≡ Some owner → Combines s.stage → in_hand
      s.stage ≡ Some owner → s.seen.room ≡ x.work.seen.room → opened_of s ≡ opened_of x.work →
      IsSweeping S words r x.work.count owner → (IsSweeping S (slice_set words w v) r x.work.count owner → SweepAt S (slice_set words w v)
      (slice_set g.seats owner u) r s s.stage) →
      Keeps S words sides g (slice_set words w v) (slice_set sides r (record { standing = x.standing; work = s }))
  block_stored owner w v y u s seat planned other busy writes kept calls seq good st at from finds hand to on_hand room same sweeps next =
      let low : w < lock_base S.site = seat_word owner y seat w v planned in
      let behind : w < S.behind = (let l = laid.low in omega arith) in
      let vs : List ℕ = slice_set words w v in
      let posts : (k : ℕ) → post_of S vs k ≡ post_of S words k = λ k. posts_stay S words w v k behind in
      let sweeping : IsSweeping S vs r x.work.count owner =
      record {
        same = sweeps.same ∙ sym (get_or-set_other words w count_word v 0 (λ e. other (sym e)));
        there = sweeps.there;
        past = λ h. ap (λ (q : ThePost). q.flag) (posts r) ∙ sweeps.past h;
      } in
      combiner_moves S node words laid sides g apart r x has vs s owner y u seat
      (subst (λ z. WorkGood S.site z (slice_set g.seats owner u)) (sym (front_set S words w v low)) good) (λ k ne. posts k) room same
      (combines st at from) to
      (found_flag S node words laid sides g r x has owner (ap found at ∙ finds))
      (λ z there is. subst (λ q. IsPosted S q owner (opened_of z.work) u) (sym (posts owner))
      (still_handled S (post_of S words owner) owner (opened_of z.work) y u busy writes kept calls seq is))
      (next sweeping)
      (only_hand st owner at hand) (inr on_hand) (inl kept)

  -- And where the call in hand is decided, it is written on from the seat's next stage.
  write_stored : (owner at v : ℕ) (stage next : BlockStage) (st to : CombineStage) → (w : IsSweeping S words r x.work.count owner × IsWriting S g.seats x.work owner stage) →
      work_atom S.site.geom (deciding x.work stage w.1.seen w.1.t).work ≡ Some (atom.Store at v) → (at ≡ count_word → ⊥) →
      WorkGood S.site (slice_set (front_of S words) at v) (slice_set g.seats owner (deciding x.work next w.1.seen w.1.t)) →
      x.work.stage ≡ st → Combines st → found st ≡ Some owner → in_hand st ≡ Some owner → Combines to → in_hand to ≡ Some owner →
      (IsSweeping S (slice_set words at v) r x.work.count owner × IsWriting S (slice_set g.seats owner (deciding x.work next w.1.seen w.1.t)) (combine_at_stage x.work to) owner next →
      SweepAt S (slice_set words at v) (slice_set g.seats owner (deciding x.work next w.1.seen w.1.t)) r (combine_at_stage x.work to) to) →
      Keeps S words sides g (slice_set words at v) (slice_set sides r (left_by (combine_to_stage x.work to)))
  write_stored owner at v stage next st to w planned other good is from finds hand on on_hand sweeps =
      let y : Seat = deciding x.work stage w.1.seen w.1.t in
      let u : Seat = deciding x.work next w.1.seen w.1.t in
      block_stored owner at v y u (combine_at_stage x.work to) w.1.seat planned other refl refl refl refl refl good st is from finds hand on on_hand refl refl w.0
      (λ sweeping. sweeps (sweeping, record { entry_is = w.1.entry_is; small = w.1.small; seen = w.1.seen; t = w.1.t; seat = get_set_same g.seats owner y u w.1.seat }))

  -- a word of the journal
  pub journal_told : (owner made : ℕ) → x.work.stage ≡ Journal owner made → (got : ℕ) →
      Keeps S words sides g (slice_set words (journal_base S.site.geom + (6 * x.work.count + made))
      (slice_index (spelling x.work.entry) made)) (slice_set sides r
      (left_by (combine_stage_after S r x.work got (Journal owner made))))
  journal_told owner made st got =
      let w : SweepAt S words g.seats r x.work (Journal owner made) = sweep_at (Journal owner made) st in
      let y : Seat = deciding x.work (block.Journal made) w.1.seen w.1.t in
      let word : ℕ = journal_base S.site.geom + (6 * x.work.count + made) in
      let v : ℕ = slice_index (spelling x.work.entry) made in
      let busy : x.standing ≡ Writer = is_writer (Journal owner made) st tt in
      let beside : AreApart (slice_set g.seats owner y) = seats_apart S node words laid sides g apart r x has busy owner
      (only_hand (Journal owner made) owner st refl) y (λ e. absurd (cc)) in
      let beside_now : AreApart g.seats = subst AreApart (set_same_get g.seats owner y w.1.seat) beside in
      let turned : WorkGood S.site (slice_set (front_of S words) word v) (slice_set g.seats owner (seat_turned Writer (journal_on y.work made))) =
      seat_turns g.seats g.work beside_now owner y w.1.seat tt (atom.Store word v) refl in
      let by_test : (b : Bool) → (made + 1 == 6) ≡ b → WorkGood S.site (slice_set (front_of S words) word v)
      (slice_set g.seats owner (seat_turned Writer (cond b (block_to y.work (block.Volume 0)) (block_to y.work (block.Journal (made + 1)))))) =
      λ b e. subst (λ c. WorkGood S.site (slice_set (front_of S words) word v)
      (slice_set g.seats owner (seat_turned Writer (cond c (block_to y.work (block.Volume 0)) (block_to y.work (block.Journal (made + 1))))))) e turned in
      elim (made + 1 == 6) as (λ b. (made + 1 == 6) ≡ b → Keeps S words sides g (slice_set words word v)
      (slice_set sides r (left_by (cond b (combine_to_stage x.work (Volume owner 0))
      (combine_to_stage x.work (Journal owner (made + 1))))))) [
        | true ↦ λ e. write_stored owner word v (block.Journal made) (block.Volume 0) (Journal owner made) (Volume owner 0) w refl
            (λ q. absurd (omega arith)) (by_test true e) st tt refl refl tt refl (λ q. q)
        | false ↦ λ e. write_stored owner word v (block.Journal made) (block.Journal (made + 1)) (Journal owner made) (Journal owner (made + 1)) w refl
            (λ q. absurd (omega arith)) (by_test false e) st tt refl refl tt refl (λ q. q)
      ] refl

  -- one of the writes
  pub write_told : (owner made : ℕ) (d : Write) → x.work.stage ≡ Volume owner made → slice_get x.work.writes made ≡ Some d →
      Keeps S words sides g (slice_set words (volume_base + d.word) d.value) (slice_set sides r (left_by (combine_to_stage x.work (Volume owner (made + 1)))))
  write_told owner made d st next =
      let w : SweepAt S words g.seats r x.work (Volume owner made) = sweep_at (Volume owner made) st in
      let y : Seat = deciding x.work (block.Volume made) w.1.seen w.1.t in
      let u : Seat = deciding x.work (block.Volume (made + 1)) w.1.seen w.1.t in
      let busy : x.standing ≡ Writer = is_writer (Volume owner made) st tt in
      let beside : AreApart (slice_set g.seats owner y) = seats_apart S node words laid sides g apart r x has busy owner
      (only_hand (Volume owner made) owner st refl) y (λ e. absurd (cc)) in
      let beside_now : AreApart g.seats = subst AreApart (set_same_get g.seats owner y w.1.seat) beside in
      let planned : work_atom S.site.geom y.work ≡ Some (atom.Store (volume_base + d.word) d.value) = ap (λ o. Some (write_atom (x.work.count + 1) o)) next in
      let good : WorkGood S.site (slice_set (front_of S words) (volume_base + d.word) d.value) (slice_set g.seats owner u) =
      subst (λ o. WorkGood S.site (slice_set (front_of S words) (volume_base + d.word) d.value)
      (slice_set g.seats owner (seat_turned Writer (block_written y.work made o)))) next
      (seat_turns g.seats g.work beside_now owner y w.1.seat tt (atom.Store (volume_base + d.word) d.value) planned) in
      write_stored owner (volume_base + d.word) d.value (block.Volume made) (block.Volume (made + 1)) (Volume owner made) (Volume owner (made + 1)) w planned
      (λ q. absurd (omega arith)) good st tt refl refl tt refl (λ q. q)

  -- the count behind the last write
  pub count_told : (owner made : ℕ) → x.work.stage ≡ Volume owner made → slice_get x.work.writes made ≡ None →
      Keeps S words sides g (slice_set words count_word (x.work.count + 1)) (slice_set sides r (left_by (combine_written_on x.work owner made None)))
  count_told owner made st last =
      let w : SweepAt S words g.seats r x.work (Volume owner made) = sweep_at (Volume owner made) st in
      let y : Seat = deciding x.work (block.Volume made) w.1.seen w.1.t in
      let u : Seat = seat_turned Writer (at_rest y.work) in
      let v : ℕ = x.work.count + 1 in
      let vs : List ℕ = slice_set words count_word v in
      let busy : x.standing ≡ Writer = is_writer (Volume owner made) st tt in
      let beside : AreApart (slice_set g.seats owner y) = seats_apart S node words laid sides g apart r x has busy owner
      (only_hand (Volume owner made) owner st refl) y (λ e. absurd (cc)) in
      let beside_now : AreApart g.seats = subst AreApart (set_same_get g.seats owner y w.1.seat) beside in
      let planned : work_atom S.site.geom y.work ≡ Some (atom.Store count_word v) = ap (λ o. Some (write_atom (x.work.count + 1) o)) last in
      let good : WorkGood S.site (slice_set (front_of S words) count_word v) (slice_set g.seats owner u) =
      subst (λ o. WorkGood S.site (slice_set (front_of S words) count_word v) (slice_set g.seats owner (seat_turned Writer (block_written y.work made o)))) last
      (seat_turns g.seats g.work beside_now owner y w.1.seat tt (atom.Store count_word v) planned) in
      let low : count_word < lock_base S.site = seat_word owner y w.1.seat count_word v planned in
      let behind : count_word < S.behind = (let l = laid.low in omega arith) in
      let posts : (k : ℕ) → post_of S vs k ≡ post_of S words k = λ k. posts_stay S words count_word v k behind in
      let fits : BlockFits S.site (front_of S words) g.work.journal g.work.before owner y (block.Volume made) = g.work.fits owner y w.1.seat in
      let update : is_update x.work.posted ≡ true = fits.0.update in
      combiner_moves S node words laid sides g apart r x has vs (combine_written_on x.work owner made None).work owner y u w.1.seat
      (subst (λ z. WorkGood S.site z (slice_set g.seats owner u)) (sym (front_set S words count_word v low)) good) (λ k ne. posts k)
      refl refl (combines (Volume owner made) st tt) tt
      (found_flag S node words laid sides g r x has owner (ap found st))
      (λ z there is. subst (λ q. IsPosted S q owner (opened_of z.work) u) (sym (posts owner)) (
      let h : IsInHand (post_of S words owner) (opened_of z.work) y = handled_as S (post_of S words owner) owner (opened_of z.work) y refl is in
      let calls : x.work.posted ∷ [] ≡ z.work.call ∷ [] = h.calls in
      let same_call : x.work.posted ≡ z.work.call = (cc) in
      let form : HasEntry S x.work.posted x.work.posted_number x.work.entry owner = w.1.entry_is in
      record {
        open_call = is.open_call;
        spelled = is.spelled;
        progress = counted (record {
          flag = h.flag;
          leaves = refl;
          entry = x.work.entry;
          entries = refl;
          has = ap (λ t. more_entries t (x.work.entry ∷ [])) h.has;
          same_call = ap (λ (e : Entry). e.call) form ∙ same_call;
          same_seq = ap (λ (e : Entry). e.seq) form ∙ h.seq;
          update = ap is_update (sym same_call) ∙ update;
        });
      }
      )) (
        record {
          same = sym (get_or-set_same words count_word v 0 (let a = laid.all in omega arith));
          there = w.0.there;
          past = λ h. ap (λ (q : ThePost). q.flag) (posts r) ∙ w.0.past h;
        },
        omega arith,
        record {
          entry_is = w.1.entry_is;
          small = w.1.small;
          stored = refl;
          end =
              inl (record { side = u; seat = get_set_same g.seats owner y u w.1.seat; leaves = refl; entries = refl });
        },
      )
      (only_hand (Volume owner made) owner st refl) (inr refl)
      (let form : HasEntry S x.work.posted x.work.posted_number x.work.entry owner = w.1.entry_is in inr (record {
        writes = refl;
        entry = x.work.entry;
        has = refl;
        calls = ap (λ (e : Entry). e.call ∷ []) (sym form);
        seq = ap (λ (e : Entry). e.seq) (sym form);
        shard_is = ap (λ (e : Entry). e.shard) form;
        rank_is = ap (λ (e : Entry). e.rank) form;
        batch_is = ap (λ (e : Entry). e.batch) form;
        part_is = ap (λ (e : Entry). e.part) form;
      }))

  -- What a seat reads on with, whose call is the rank's call in hand: the next word, or its block is decided.
  -- `good` is what holds where the seat has made its load too, and `lags` where it makes it later.
  reads_on : (owner : ℕ) (w : TheCombineSide) (b : BlockStage) (at : ℕ) (es : List Entry) (t : TheTranscript) (y0 y : Seat) →
      slice_get g.seats owner ≡ Some y0 →
      x.standing ≡ Writer → (st : CombineStage) → x.work.stage ≡ st → Combines st → found st ≡ Some owner →
      ((k : ℕ) → in_hand x.work.stage ≡ Some k → k ≡ owner) →
      w.seen.room ≡ x.work.seen.room → opened_of w ≡ opened_of x.work → w.count ≡ x.work.count → IsSweeping S words r x.work.count owner →
      ((z : RankSide) (u : Seat) → slice_get sides owner ≡ Some z → u.standing ≡ Writer → u.work.transcript ≡ t → u.work.calls ≡ w.posted ∷
      [] → u.work.seq ≡ w.posted_number → IsPosted S (post_of S words owner) owner (opened_of z.work) y0 →
      IsPosted S (post_of S words owner) owner (opened_of z.work) u) →
      y0.work.transcript ≡ t → y.standing ≡ Writer → y.work.transcript ≡ t → y.work.calls ≡ w.posted ∷ [] → y.work.seq ≡ w.posted_number →
      (l : ℕ) → l < lock_base S.site → work_atom S.site.geom y.work ≡ Some (atom.Load l) →
      work_after S.site.geom S.site.shard owner y.work (slice_index words l) ≡ seen_on S.site.geom S.site.shard owner (reading w b at es t).work w.count →
      WorkGood S.site (front_of S words) (slice_set g.seats owner y) →
      WorkGood S.site (front_of S words) (slice_set g.seats owner
      (seat_turned Writer (seen_on S.site.geom S.site.shard owner (reading w b at es t).work w.count))) →
      Keeps S words sides g words (slice_set sides r (left_by (combine_read_on S w owner)))
  reads_on owner w b at es t y0 y seat busy st stage from finds hand room same count sweeps turn y0_has y_writes y_has y_calls y_seq l low
      planned makes lags good =
      by_next (next_word S.site.geom w.posted w.seen.pairs) refl
    where
      sweeping : IsSweeping S words r w.count owner
      sweeping = record { same = count ∙ sweeps.same; there = sweeps.there; past = sweeps.past }

      moves : (s : TheCombineSide) (u : Seat) → WorkGood S.site (front_of S words) (slice_set g.seats owner u) → u.standing ≡ Writer →
          u.work.transcript ≡ t → u.work.calls ≡ w.posted ∷ [] → u.work.seq ≡ w.posted_number →
          s.seen.room ≡ w.seen.room → opened_of s ≡ opened_of w → Combines s.stage → in_hand s.stage ≡ Some owner → SweepAt S words
          (slice_set g.seats owner u) r s s.stage → Keeps S words sides g words
          (slice_set sides r (record { standing = x.standing; work = s }))
      moves s u good writes kept calls seq rooms opens to on_hand next =
          combiner_moves S node words laid sides g apart r x has words s owner y0 u seat good (λ k ne. refl) (rooms ∙ room) (opens ∙ same)
          (combines st stage from) to
          (found_flag S node words laid sides g r x has owner (ap found stage ∙ finds))
          (λ z there is. turn z u there writes kept calls seq is)
          next hand (inr on_hand) (inl (kept ∙ sym y0_has))

      -- the count is a number of 32 bits
      small_count : w.count < 2 ^ 32
      small_count =
          let found : slice_index (front_of S words) count_word ≡ length g.work.journal = g.work.count in
          let same = front_get S words count_word (omega arith) in
          let short = journal_short S.site (front_of S words) g.seats g.work in
          let fits = laid.fits in
          let behind = laid.low in
          let is = sweeping.same in
          omega arith

      d : List Write × Reply
      d = decision S.site.geom w.posted (value_or_zero w.seen.pairs)

      -- the block as it is decided
      closes : Bool → WorkTurned
      closes c = block_close_by S.site.shard owner (with_call (reading w b at es t).work d) w.count c

      by_next : (o : Option ℕ) → next_word S.site.geom w.posted w.seen.pairs ≡ o →
          Keeps S words sides g words (slice_set sides r (left_by (combine_read_next S w owner o)))
      by_next (Some word) e =
          let u : Seat = reading w (block.Read w.count word) at es t in
          let turned : WorkGood S.site (front_of S words) (slice_set g.seats owner u) =
          subst (λ o. WorkGood S.site (front_of S words) (slice_set g.seats owner
          (seat_turned Writer (block_next (reading w b at es t).work w.count o (closes (is_update w.posted)))))) e good in
          moves (combine_at_stage w (Read owner word)) u turned refl refl refl refl refl refl tt refl
          (sweeping, record { at = at; entries = es; t = t; seat = get_set_same g.seats owner y0 u seat })
      by_next None e =
          let turned : WorkGood S.site (front_of S words) (slice_set g.seats owner (seat_turned Writer (closes (is_update w.posted)))) =
          subst (λ o. WorkGood S.site (front_of S words) (slice_set g.seats owner
          (seat_turned Writer (block_next (reading w b at es t).work w.count o (closes (is_update w.posted)))))) e good in
          let made : work_after S.site.geom S.site.shard owner y.work (slice_index words l) ≡ closes (is_update w.posted) =
          makes ∙ ap (λ o. block_next (reading w b at es t).work w.count o (closes (is_update w.posted))) e in
          by_kind (is_update w.posted) turned made
        where
          by_kind : (c : Bool) → WorkGood S.site (front_of S words) (slice_set g.seats owner (seat_turned Writer (closes c))) →
              work_after S.site.geom S.site.shard owner y.work (slice_index words l) ≡ closes c →
              Keeps S words sides g words (slice_set sides r (left_by (combine_to_stage (with_decision S w owner d) (decided_stage owner c))))
          by_kind true turned made =
              moves (combine_at_stage (with_decision S w owner d) (Journal owner 0))
              (seat_turned Writer (closes true)) turned refl refl refl refl refl refl tt refl (
                sweeping,
                record {
                  entry_is = refl;
                  small = small_count;
                  seen = (closes true).work.seen;
                  t = t;
                  seat =
                      get_set_same g.seats owner y0 (seat_turned Writer (closes true)) seat;
                },
              )
          by_kind false turned made =
              moves (combine_at_stage (with_decision S w owner d) (Answer owner 0)) y lags y_writes y_has y_calls y_seq refl refl tt refl (
                sweeping,
                omega arith,
                record {
                  entry_is = refl;
                  small = small_count;
                  stored = refl;
                  end = inr (record {
                    side = y;
                    seat = get_set_same g.seats owner y0 y seat;
                    writes = y_writes;
                    calls = y_calls;
                    seq = y_seq;
                    loads = l;
                    low = low;
                    atom = planned;
                    last = with_entries S.site.shard owner (with_call (reading w b at es t).work d) w.count b;
                    ends = made;
                    entries = refl;
                    same = sym y_has;
                  });
                },
              )

  -- a word of the volume is loaded
  pub word_read : (owner word : ℕ) → x.work.stage ≡ Read owner word →
      Keeps S words sides g words (slice_set sides r
      (left_by (combine_stage_after S r x.work (slice_index words (volume_base + word)) (Read owner word))))
  word_read owner word st =
      let w : SweepAt S words g.seats r x.work (Read owner word) = sweep_at (Read owner word) st in
      let y : Seat = reading x.work (block.Read x.work.count word) w.1.at w.1.entries w.1.t in
      let l : ℕ = volume_base + word in
      let got : ℕ = slice_index words l in
      let busy : x.standing ≡ Writer = is_writer (Read owner word) st tt in
      let beside : AreApart (slice_set g.seats owner y) = seats_apart S node words laid sides g apart r x has busy owner
      (only_hand (Read owner word) owner st refl) y (λ e. absurd (cc)) in
      let same : slice_set g.seats owner y ≡ g.seats = set_same_get g.seats owner y w.1.seat in
      let beside_now : AreApart g.seats = subst AreApart same beside in
      let can : l < length (front_of S words) = atom_can S.site (front_of S words) g.seats g.work owner y w.1.seat (atom.Load l) (λ n. 0) [] refl in
      let low : l < lock_base S.site = (let size = g.work.size in omega arith) in
      let turned : WorkGood S.site (front_of S words) (slice_set g.seats owner
      (seat_turned Writer (seen_on S.site.geom S.site.shard owner
      (reading (combine_with_word x.work word (slice_index (front_of S words) l))
      (block.Read x.work.count word) w.1.at w.1.entries w.1.t).work x.work.count))) =
      seat_turns g.seats g.work beside_now owner y w.1.seat tt (atom.Load l) refl in
      reads_on owner (combine_with_word x.work word got) (block.Read x.work.count word) w.1.at w.1.entries w.1.t y y w.1.seat busy
      (Read owner word) st tt refl (only_hand (Read owner word) owner st refl) refl refl refl w.0
      (λ z u there writes kept calls seq is. still_handled S (post_of S words owner) owner (opened_of z.work) y u refl writes kept calls seq is)
      refl refl refl refl refl l low refl refl (subst (WorkGood S.site (front_of S words)) (sym same) g.work)
      (subst (λ n. WorkGood S.site (front_of S words) (slice_set g.seats owner
      (seat_turned Writer (seen_on S.site.geom S.site.shard owner
      (reading (combine_with_word x.work word n) (block.Read x.work.count word) w.1.at w.1.entries w.1.t).work x.work.count))))
      (front_get S words l low) turned)

  -- the last word of a post is copied: the call is in hand, and its seat is a writer's
  pub post_copied : (owner made : ℕ) → x.work.stage ≡ Copy owner made → made + 1 ≡ 5 →
      Keeps S words sides g words (slice_set sides r
      (left_by (combine_read_on S (with_posted S (with_copied x.work (slice_index words (post_word S owner (1 + made))))) owner)))
  post_copied owner made st last =
      let w : IsSweeping S words r x.work.count owner × IsCopying (post_of S words owner) x.work.copied made = sweep_at (Copy owner made) st in
      let got : ℕ = slice_index words (post_word S owner (1 + made)) in
      let busy : x.standing ≡ Writer = is_writer (Copy owner made) st tt in
      let z = some_at sides owner (let ranks = g.ranks in let there = w.0.there in omega arith) in
      let s = seat_of S node words laid sides g owner z.0 z.1 in
      let p : ThePost = post_of S words owner in
      let o : Opened = opened_of z.0.work in
      let one : p.flag ≡ 1 = w.1.flag in
      let is : IsPosted S p owner o s.0 = posted_at S p owner z.0 s.0 z.0.work.stage (g.own owner z.0 s.0 z.1 s.1) one in
      -- nobody has it in hand
      let nothing : (k : ℕ) → in_hand x.work.stage ≡ Some k → ⊥ = λ k e. let n = ap in_hand st in cc in
      let out : s.0.standing ≡ Out = ⊎_elim (λ e. e) (λ h. absurd
      (nothing owner (held_by S node words laid sides g apart r x has busy owner h))) (g.held owner s.0 s.1) in
      let waiting : Waits p o s.0 = waits_as S p owner o s.0 out one is in
      -- the words spell the call
      let copied : x.work.copied ++ got ∷ [] ≡ post_spelling o.call o.seq =
      copies_on p.call x.work.copied made got w.1.few w.1.same (call_word S words owner made w.1.few) ∙ ap (λ n. take n p.call) last ∙ is.spelled in
      let here : shard_of S.site.geom o.call ≡ S.site.shard = All-head (λ c. shard_of S.site.geom c ≡ S.site.shard) o.call [] is.open_call.of_shard in
      let call : Call = posted_call S.site.shard (x.work.copied ++ got ∷ []) in
      let number : ℕ = posted_seq (x.work.copied ++ got ∷ []) in
      let same_call : call ≡ o.call = ap (posted_call S.site.shard) copied ∙ call_back S o.call o.seq here in
      let same_number : number ≡ o.seq = ap posted_seq copied in
      let new : TheCombineSide = with_posted S (with_copied x.work got) in
      -- the seat opens its block, asks and enters
      let opens : IsOpen S.site owner (call ∷ []) number s.0.work.transcript =
      subst (λ c. IsOpen S.site owner (c ∷ []) number s.0.work.transcript) (sym same_call)
      (subst (λ n. IsOpen S.site owner (o.call ∷ []) n s.0.work.transcript) (sym same_number)
      (subst (IsOpen S.site owner (o.call ∷ []) o.seq) (sym waiting.free.has) is.open_call)) in
      let asks : Seat = record { standing = Asking; work = with_block s.0.work (call ∷ []) number } in
      let y : Seat = record { standing = Writer; work = with_block s.0.work (call ∷ []) number } in
      let asked : WorkGood S.site (front_of S words) (slice_set g.seats owner asks) =
      open_keeps S.site (front_of S words) g.seats g.work owner s.0 s.1 (call ∷ []) number out opens in
      let entered : WorkGood S.site (front_of S words) (slice_set g.seats owner y) =
      subst (WorkGood S.site (front_of S words)) (set-set g.seats owner asks y)
      (shift_keeps S.site (front_of S words) (slice_set g.seats owner asks) asked owner asks
      (get_set_same g.seats owner s.0 asks s.1) Writer (EnterW owner ∷ []) refl) in
      -- what it has seen is nothing, with the same room
      let rooms : s.0.work.seen.room ≡ x.work.seen.room = g.work.seen_rooms owner s.0 s.1 ∙ sym (g.seen_rooms r x has) in
      let t : TheTranscript = s.0.work.transcript in
      let begun : y ≡ reading new block.Begin s.0.work.at s.0.work.entries t =
      ap (λ n. record {
        standing = Writer;
        work = record {
          stage = block.Begin;
          calls = call ∷ [];
          seq = number;
          seen = record { pairs = []; room = n };
          replies = [];
          at = s.0.work.at;
          entries = s.0.work.entries;
          writes = [];
          transcript = t;
        };
      }) rooms in
      let u : Seat = reading new block.Begin s.0.work.at s.0.work.entries t in
      let lags : WorkGood S.site (front_of S words) (slice_set g.seats owner u) =
      subst (λ v. WorkGood S.site (front_of S words) (slice_set g.seats owner v)) begun entered in
      let beside : AreApart (slice_set g.seats owner u) = seats_apart S node words laid sides g apart r x has busy owner
      (λ k e. absurd (nothing k e)) u (λ e. absurd (cc)) in
      let turned : WorkGood S.site (front_of S words) (slice_set (slice_set g.seats owner u) owner
      (seat_turned Writer (seen_on S.site.geom S.site.shard owner u.work (slice_index (front_of S words) count_word)))) =
      seat_turns (slice_set g.seats owner u) lags beside owner u (get_set_same g.seats owner s.0 u s.1) tt (atom.Load count_word) refl in
      let low : count_word < lock_base S.site = omega arith in
      reads_on owner new block.Begin s.0.work.at s.0.work.entries t s.0 u s.1 busy (Copy owner made) st tt refl (λ k e. absurd (nothing k e)) refl refl refl w.0
      (λ a v there writes kept calls seq posted.
      let same_side : a ≡ z.0 = one_at sides owner a z.0 there z.1 in
      subst (λ (b : RankSide). IsPosted S p owner (opened_of b.work) v) (sym same_side)
      (record {
        open_call = is.open_call;
        spelled = is.spelled;
        progress = handled (record {
          flag = one;
          writes = writes;
          has = kept ∙ waiting.free.has;
          calls = calls ∙ ap (λ c. c ∷ []) same_call;
          seq = seq ∙ same_number;
        });
      }))
      refl refl refl refl refl count_word low refl (ap (seen_on S.site.geom S.site.shard owner u.work) (sym w.0.same)) lags
      (subst (WorkGood S.site (front_of S words)) {x = slice_set (slice_set g.seats owner u) owner
      (seat_turned Writer (seen_on S.site.geom S.site.shard owner u.work x.work.count))}
      (set-set g.seats owner u (seat_turned Writer (seen_on S.site.geom S.site.shard owner u.work x.work.count)))
      (subst (λ n. WorkGood S.site (front_of S words) (slice_set (slice_set g.seats owner u) owner
      (seat_turned Writer (seen_on S.site.geom S.site.shard owner u.work n))))
      (front_get S words count_word low ∙ sym w.0.same) turned))

  -- the entry of a call in hand is the one that its stored answer gives
  entry_told : (owner : ℕ) (o : Opened) (p : ThePost) (call : Call) (number : ℕ) (entry : Entry) → HasEntry S call number entry owner →
      call ≡ o.call → number ≡ o.seq → p.answer ≡ answer_spelling entry →
      entry ≡ answered_entry S.site.shard owner o.seq o.call p.answer
  entry_told owner o p call number entry form same_call same_seq stored =
      form
      ∙ ap (λ c. record { shard = S.site.shard; rank = owner; seq = number; call = c; at = entry.at; reply = entry.reply; batch = 0; part = 0 }) same_call
      ∙ ap (λ n. record { shard = S.site.shard; rank = owner; seq = n; call = o.call; at = entry.at; reply = entry.reply; batch = 0; part = 0 }) same_seq
      ∙ ap (λ a. record { shard = S.site.shard; rank = owner; seq = o.seq; call = o.call; at = entry.at; reply = a; batch = 0; part = 0 })
      (sym (reply_back entry.reply))
      ∙ ap (answered_entry S.site.shard owner o.seq o.call) (sym stored)

  -- 2 is stored to the flag of a call in hand, whose seat comes to have its entry, and the sweep goes on
  marks : (owner : ℕ) (y u : Seat) → x.work.stage ≡ Mark owner → slice_get g.seats owner ≡ Some y →
      WorkGood S.site (front_of S words) (slice_set g.seats owner u) → u.standing ≡ Out →
      ((o : Opened) → IsPosted S (post_of S words owner) owner o y → u.work.transcript ≡ more_entries o.kept (x.work.entry ∷ []) ×
      (x.work.posted ≡ o.call) × (x.work.posted_number ≡ o.seq)) → SeatGoesOn S owner y u →
      Keeps S words sides g (slice_set words (post_word S owner 0) 2) (slice_set sides r (left_by (sweep_on S x.work (owner + 1))))
  marks owner y u st seat good out told grows =
      let w : IsSweeping S words r x.work.count owner × IsAnswering S words g.seats x.work.posted x.work.posted_number x.work.entry owner
      3 = sweep_at (Mark owner) st in
      let vs : List ℕ = slice_set words (post_word S owner 0) 2 in
      let p : post_of S vs owner ≡ record (post_of S words owner) { flag = 2 } = flag_stored S words owner 2 w.0.there laid.all in
      let posts : (k : ℕ) → k ≢ owner → post_of S vs k ≡ post_of S words k = λ k ne. others_stay S words owner 0 2 k (omega arith) ne in
      let same_front : front_of S vs ≡ front_of S words = front_behind S words (post_word S owner 0) 2 (let l = laid.low in omega arith) in
      let one : (post_of S words owner).flag ≡ 1 = found_flag S node words laid sides g r x has owner (ap found st) in
      let busy : x.standing ≡ Writer = is_writer (Mark owner) st tt in
      let same_answer : (post_of S words owner).answer ≡ answer_spelling x.work.entry = w.1.stored in
      let small_answer : slice_index (post_of S words owner).answer 0 < 2 ^ 32 = subst (λ l. slice_index l 0 < 2 ^ 32) (sym same_answer) w.1.small in
      let turn : (o : Opened) → IsPosted S (post_of S words owner) owner o y → IsPosted S (post_of S vs owner) owner o u = λ o is.
      let q = told o is in
      let entry : x.work.entry ≡ answered_entry S.site.shard owner o.seq o.call (post_of S words owner).answer =
      entry_told owner o (post_of S words owner) x.work.posted x.work.posted_number x.work.entry w.1.entry_is q.1 q.2 w.1.stored in
      subst (λ p. IsPosted S p owner o u) (sym p) (record {
        open_call = is.open_call;
        spelled = is.spelled;
        progress = answered (record {
          flag = refl;
          small = small_answer;
          free =
              record { out = out; has = q.0 ∙ ap (λ e. more_entries o.kept (e ∷ [])) entry };
        });
      }) in
      let s = seat_of S node words laid sides g r x has in
      let c : IsCombiner S (post_of S words r) r x s.0 = combiner_of S (post_of S words r) r x s.0 (Mark owner) tt
      (subst (OwnAt S (post_of S words r) r x s.0) st (g.own r x s.0 has s.1)) in
      sweeps_on S node words laid sides g apart r x has vs (slice_set g.seats owner u) x.work (owner + 1) busy (let there = w.0.there in omega arith)
      (w.0.same ∙ sym (get_or-set_other words (post_word S owner 0) count_word 2 0 (λ q. absurd (let l = laid.low in omega arith))))
      (λ h. ⊎_elim
      (λ (same : r ≡ owner). subst (λ n. (post_of S vs n).flag ≡ 2) (sym same) (ap (λ (q : ThePost). q.flag) p))
      (λ (ne : r ≢ owner). ap (λ (q : ThePost). q.flag) (posts r ne) ∙ w.0.past (omega arith))
      (same_or_not r owner))
      (λ v there. ⊎_elim
      (λ (q : (r ≡ owner) × (v ≡ u)).
      let y_is : s.0 ≡ y = one_at g.seats owner s.0 y (subst (λ n. slice_get g.seats n ≡ Some s.0) q.0 s.1) seat in
      let before : IsPosted S (post_of S words owner) owner (opened_of x.work) y =
      subst (λ n. IsPosted S (post_of S words n) n (opened_of x.work) y) q.0 (subst (IsPosted S (post_of S words r) r (opened_of x.work)) y_is c.1) in
      subst (λ n. IsPosted S (post_of S vs n) n (opened_of x.work) v) (sym q.0)
      (subst (IsPosted S (post_of S vs owner) owner (opened_of x.work)) (sym q.1) (turn (opened_of x.work) before)))
      (λ (q : (r ≢ owner) × (slice_get g.seats r ≡ Some v)).
      let v_is : s.0 ≡ v = one_at g.seats r s.0 v s.1 q.1 in
      subst (λ p. IsPosted S p r (opened_of x.work) v) (sym (posts r q.0)) (subst (IsPosted S (post_of S words r) r (opened_of x.work)) v_is c.1))
      (get_set_cases g.seats owner r u v there))
      (λ t room none own sweep.
      writer_moves S node words laid sides g apart r x has busy vs (left_by t) owner y u seat
      (subst (λ z. WorkGood S.site z (slice_set g.seats owner u)) (sym same_front) good) posts room own
      (λ ne z there.
      let o : OwnAt S (post_of S words owner) owner z y z.work.stage = g.own owner z y there seat in
      posted_on S (post_of S words owner) owner z y z.work.stage o one (post_of S vs owner) u
      (turn (opened_of z.work) (posted_at S (post_of S words owner) owner z y z.work.stage o one)))
      sweep (only_hand (Mark owner) owner st refl) (inl out) grows)

  pub marked : (owner : ℕ) → x.work.stage ≡ Mark owner → (got : ℕ) →
      Keeps S words sides g (slice_set words (post_word S owner 0) 2)
      (slice_set sides r (left_by (combine_stage_after S r x.work got (Mark owner))))
  marked owner st got =
      let w : IsSweeping S words r x.work.count owner × IsAnswering S words g.seats x.work.posted x.work.posted_number x.work.entry owner
      3 = sweep_at (Mark owner) st in
      ⊎_elim left ends w.1.end
    where
      left : IsLeft g.seats x.work.entry owner → Keeps S words sides g (slice_set words (post_word S owner 0) 2)
          (slice_set sides r (left_by (sweep_on S x.work (owner + 1))))
      left l =
          let w : IsSweeping S words r x.work.count owner × IsAnswering S words g.seats x.work.posted x.work.posted_number x.work.entry
          owner 3 = sweep_at (Mark owner) st in
          let form : HasEntry S x.work.posted x.work.posted_number x.work.entry owner = w.1.entry_is in
          let u : Seat = record { standing = Out; work = l.side.work } in
          let good : WorkGood S.site (front_of S words) (slice_set g.seats owner u) =
          shift_keeps S.site (front_of S words) g.seats g.work owner l.side l.seat Out [] (subst (λ a. Shift owner a Out []) (sym l.leaves) refl) in
          marks owner l.side u st l.seat good refl (λ o is.
          let c : IsCounted (post_of S words owner) o l.side = counted_as S (post_of S words owner) owner o l.side l.leaves is in
          let same : c.entry ∷ [] ≡ x.work.entry ∷ [] = sym c.entries ∙ l.entries in
          let entry : c.entry ≡ x.work.entry = (cc) in (
            c.has ∙ ap (λ e. more_entries o.kept (e ∷ [])) entry,
            sym (ap (λ (e : Entry). e.call) form) ∙ ap (λ (e : Entry). e.call) (sym entry) ∙ c.same_call,
            sym (ap (λ (e : Entry). e.seq) form) ∙ ap (λ (e : Entry). e.seq) (sym entry) ∙ c.same_seq,
          )) (inl refl)

      ends : IsToEnd S words g.seats x.work.posted x.work.posted_number x.work.entry owner →
          Keeps S words sides g (slice_set words (post_word S owner 0) 2) (slice_set sides r (left_by (sweep_on S x.work (owner + 1))))
      ends t =
          let busy : x.standing ≡ Writer = is_writer (Mark owner) st tt in
          let beside : AreApart (slice_set g.seats owner t.side) =
          seats_apart S node words laid sides g apart r x has busy owner (only_hand (Mark owner) owner st refl) t.side
          (λ e. let writes = t.writes in absurd (cc)) in
          let beside_now : AreApart g.seats = subst AreApart (set_same_get g.seats owner t.side t.seat) beside in
          let leaves : Seat = record { standing = Leaving; work = (at_rest t.last).work } in
          let u : Seat = record { standing = Out; work = (at_rest t.last).work } in
          let made : work_after S.site.geom S.site.shard owner t.side.work (slice_index (front_of S words) t.loads) ≡ at_rest t.last =
          ap (work_after S.site.geom S.site.shard owner t.side.work) (front_get S words t.loads t.low) ∙ t.ends in
          let turned : WorkGood S.site (front_of S words) (slice_set g.seats owner leaves) =
          subst (λ a. WorkGood S.site (front_of S words) (slice_set g.seats owner (seat_turned t.side.standing a))) made
          (seat_turns g.seats g.work beside_now owner t.side t.seat (subst IsHolder (sym t.writes) tt) (atom.Load t.loads) t.atom) in
          let good : WorkGood S.site (front_of S words) (slice_set g.seats owner u) =
          subst (WorkGood S.site (front_of S words)) (set-set g.seats owner leaves u)
          (shift_keeps S.site (front_of S words) (slice_set g.seats owner leaves) turned owner leaves
          (get_set_same g.seats owner t.side leaves t.seat) Out [] refl) in
          marks owner t.side u st t.seat good refl (λ o is.
          let h : IsInHand (post_of S words owner) o t.side = handled_as S (post_of S words owner) owner o t.side t.writes is in
          let calls : x.work.posted ∷ [] ≡ o.call ∷ [] = sym t.calls ∙ h.calls in (
            ap (λ k. more_entries k t.last.entries) (t.same ∙ h.has) ∙ ap (more_entries o.kept) t.entries,
            (cc),
            sym t.seq ∙ h.seq,
          ))
          (let form : HasEntry S x.work.posted x.work.posted_number x.work.entry owner = (sweep_at (Mark owner) st).1.entry_is in inr (record {
            writes = t.writes;
            entry = x.work.entry;
            has = ap (λ k. more_entries k t.last.entries) t.same ∙ ap (more_entries t.side.work.transcript) t.entries;
            calls = t.calls ∙ ap (λ (e : Entry). e.call ∷ []) (sym form);
            seq = t.seq ∙ ap (λ (e : Entry). e.seq) (sym form);
            shard_is = ap (λ (e : Entry). e.shard) form;
            rank_is = ap (λ (e : Entry). e.rank) form;
            batch_is = ap (λ (e : Entry). e.batch) form;
            part_is = ap (λ (e : Entry). e.part) form;
          }))
