-- The atoms that change no seat: those on the own post, and those of a sweep on its way from one post to the next.
use Rattle.std.specs.Prelude.{◌≡◌, ◌≢◌, ◌⊎◌, ℕ, ◌+◌, ◌<◌, ◌≤◌, ◌==◌, true, false, cond, List, [], ◌∷◌, ◌++◌, take, slice_get, slice_index, slice_set, Option, Some, None, refl}
use Rattle.std.proofs.Common.{sym, ◌∙◌, ap, subst, inl, inr, ⊎_elim, arith}
use Rattle.std.proofs.lemmas.Bool.Decides.{nat_tests}
use Rattle.std.proofs.lemmas.Option.{same_Some}
use Rattle.rl_word.specs.laws.Places.{same_or_not}
use Rattle.rl_model.specs.declared.call.Call.{Call}
use Rattle.rl_model.specs.declared.entry.Entry.{Entry}
use Rattle.rl_step.specs.declared.events.Standing.{Standing}
use Rattle.rl_step.specs.declared.events.Standing.TheVariants.{Out, Asking, Writer, Reader, Leaving}
use Rattle.rl_step.specs.Lock.{Rests}
use Rattle.rl_site.specs.Site.{count_word, lock_base, WaySite}
use Rattle.rl_work.specs.Ways.{Worked, IsApart, IsLaid, side_turned, standing_done}
use Rattle.rl_work.specs.Work.{more_entries, work_after}
use Rattle.rl_work.specs.WorkGood.{WorkSide as Seat, IsDone, IsInCall}
use Rattle.rl_combine.specs.declared.stage.CombineStage.{CombineStage}
use Rattle.rl_combine.specs.declared.stage.CombineStage.TheVariants.{Rest, Post, Raise, Look, Count, Sweep, Copy, Read, Journal, Volume, Answer, Mark, Collect, Lower}
use Rattle.rl_combine.specs.Posts.{ThePost, combine_ranks, post_word, post_of, post_spelling, answered_entry}
use Rattle.rl_combine.specs.Combine.{TheCombineSide, Opened, opened_of, in_hand, combine_table, combine_stage_after, sweep_on, to_collect, combine_to_stage, with_nothing, with_copied, found}
use Rattle.rl_combine.specs.CombineGood.{RankSide, front_of, IsPosting, IsAnswered, Progress, waits, handled, counted, answered, IsPosted, IsCollecting, IsSweeping, IsCopying, IsAnswering, IsLeft, IsToEnd, OwnAt, SweepAt, CombineGood}
use Rattle.rl_combine.specs.laws.PostLaws.{others_stay, call_word, answer_word, flag_stored, call_stored, front_get, front_behind, copies_on, stores_on}
use Rattle.rl_combine.specs.laws.SideLaws.{sweep_any, flag_at}
use Rattle.rl_combine.specs.laws.MoveLaws.{Keeps, seat_of, side_of, is_rank, only_writer, own_moves}

-- what the flag of a posted call says
answered_of : (S : WaySite) (p : ThePost) (k : ℕ) (o : Opened) (y : Seat) → IsPosted S p k o y → p.flag ≡ 2 → IsAnswered S p k o y
answered_of S p k o y is two = by_case is.progress where
  by_case : Progress S p k o y → IsAnswered S p k o y
  by_case (waits w) = let f = w.flag in absurd (omega arith)
  by_case (handled h) = let f = h.flag in absurd (omega arith)
  by_case (counted c) = let f = c.flag in absurd (omega arith)
  by_case (answered a) = a

is_two : (S : WaySite) (p : ThePost) (k : ℕ) (o : Opened) (y : Seat) → IsPosted S p k o y → (p.flag ≡ 1 → ⊥) → p.flag ≡ 2
is_two S p k o y is isnt = by_case is.progress where
  by_case : Progress S p k o y → p.flag ≡ 2
  by_case (waits w) = absurd (isnt w.flag)
  by_case (handled h) = absurd (isnt h.flag)
  by_case (counted c) = absurd (isnt c.flag)
  by_case (answered a) = a.flag

-- while the words before the lock's stay as they are, each of them does, and the end of a call in hand
module _ (S : WaySite) (words vs : List ℕ) (front : front_of S vs ≡ front_of S words) where
  loaded : (w : ℕ) → w < lock_base S.site → slice_index vs w ≡ slice_index words w
  loaded w h = sym (front_get S vs w h) ∙ ap (λ l. slice_index l w) front ∙ front_get S words w h

  pub end_stays : (seats : List Seat) (call : Call) (number : ℕ) (entry : Entry) (owner : ℕ) → IsLeft seats entry owner ⊎ IsToEnd S words seats call number entry owner →
      IsLeft seats entry owner ⊎ IsToEnd S vs seats call number entry owner
  end_stays seats call number entry owner end = ⊎_elim (λ l. inl l) (λ (t : IsToEnd S words seats call number entry owner). inr (record {
    side = t.side;
    seat = t.seat;
    writes = t.writes;
    calls = t.calls;
    seq = t.seq;
    loads = t.loads;
    low = t.low;
    atom = t.atom;
    last = t.last;
    ends = ap (work_after S.site.geom S.site.shard owner t.side.work) (loaded t.loads t.low) ∙ t.ends;
    entries = t.entries;
    same = t.same;
  })) end

module _ (S : WaySite) (node : ℕ → ℕ) (words : List ℕ) (laid : IsLaid (combine_table S node) words) (sides : List RankSide)
    (g : CombineGood S words sides) where
  -- a flag that was found 1 is 1
  pub found_flag : (q : ℕ) (z : RankSide) → slice_get sides q ≡ Some z → (k : ℕ) → found z.work.stage ≡ Some k → (post_of S words k).flag ≡ 1
  found_flag q z there k e = by_stage z.work.stage (g.sweeps q z there) e where
    by_seat : (owner : ℕ) (y : Seat) → slice_get g.seats owner ≡ Some y → (y.standing ≡ Out → ⊥) → (post_of S words owner).flag ≡ 1
    by_seat owner y seat busy =
        let u = side_of S node words laid sides g owner y seat in
        flag_at S (post_of S words owner) owner u.0 y u.0.work.stage (g.own owner u.0 y u.1 seat) busy

    by_end : (owner : ℕ) → IsLeft g.seats z.work.entry owner ⊎ IsToEnd S words g.seats z.work.posted z.work.posted_number z.work.entry owner
        → (post_of S words owner).flag ≡ 1
    by_end owner end =
        ⊎_elim
        (λ (l : IsLeft g.seats z.work.entry owner). by_seat owner l.side l.seat (λ out. let leaves = l.leaves in absurd (cc)))
        (λ (t : IsToEnd S words g.seats z.work.posted z.work.posted_number z.work.entry owner). by_seat owner t.side t.seat
        (λ out. let writes = t.writes in absurd (cc)))
        end

    at_k : (owner : ℕ) → ◌≡◌ {A = Option ℕ} (Some owner) (Some k) → (post_of S words owner).flag ≡ 1 → (post_of S words k).flag ≡ 1
    at_k owner same f = subst (λ n. (post_of S words n).flag ≡ 1) (same_Some owner k same) f

    by_stage : (st : CombineStage) → SweepAt S words g.seats q z.work st → found st ≡ Some k → (post_of S words k).flag ≡ 1
    by_stage Rest s same = absurd (cc)
    by_stage (Post made) s same = absurd (cc)
    by_stage Raise s same = absurd (cc)
    by_stage Look s same = absurd (cc)
    by_stage Count s same = absurd (cc)
    by_stage (Sweep owner) s same = absurd (cc)
    by_stage (Copy owner made) s same = at_k owner same s.1.flag
    by_stage (Read owner word) s same = at_k owner same (by_seat owner _ s.1.seat (λ out. absurd (cc)))
    by_stage (Journal owner made) s same = at_k owner same (by_seat owner _ s.1.seat (λ out. absurd (cc)))
    by_stage (Volume owner made) s same = at_k owner same (by_seat owner _ s.1.seat (λ out. absurd (cc)))
    by_stage (Answer owner made) s same = at_k owner same (by_end owner s.2.end)
    by_stage (Mark owner) s same = at_k owner same (by_end owner s.1.end)
    by_stage (Collect made) s same = absurd (cc)
    by_stage Lower s same = absurd (cc)

  -- a sweep goes on while words change that it doesn't know
  pub sweep_same : (vs : List ℕ) (q : ℕ) (z : RankSide) → front_of S vs ≡ front_of S words → post_of S vs q ≡ post_of S words q →
      ((k : ℕ) → found z.work.stage ≡ Some k → post_of S vs k ≡ post_of S words k) →
      SweepAt S words g.seats q z.work z.work.stage → SweepAt S vs g.seats q z.work z.work.stage
  sweep_same vs q z front own posts = by_stage z.work.stage posts where
    sweeping : (owner : ℕ) → IsSweeping S words q z.work.count owner → IsSweeping S vs q z.work.count owner
    sweeping owner s = record {
      same = s.same ∙ sym (loaded S words vs front count_word (omega arith));
      there = s.there;
      past =
          λ h. ap (λ (p : ThePost). p.flag) own ∙ s.past h;
    }

    answering : (owner made : ℕ) → post_of S vs owner ≡ post_of S words owner →
        IsAnswering S words g.seats z.work.posted z.work.posted_number z.work.entry owner made →
        IsAnswering S vs g.seats z.work.posted z.work.posted_number z.work.entry owner made
    answering owner made same a =
        record {
          entry_is = a.entry_is;
          small = a.small;
          stored = ap (λ (p : ThePost). take made p.answer) same ∙ a.stored;
          end = end_stays S words vs front g.seats z.work.posted z.work.posted_number z.work.entry owner a.end;
        }

    by_stage : (st : CombineStage) → ((k : ℕ) → found st ≡ Some k → post_of S vs k ≡ post_of S words k) →
        SweepAt S words g.seats q z.work st → SweepAt S vs g.seats q z.work st
    by_stage Rest posts s = tt
    by_stage (Post made) posts s = tt
    by_stage Raise posts s = tt
    by_stage Look posts s = tt
    by_stage Count posts s = tt
    by_stage (Sweep owner) posts s = sweeping owner s
    by_stage (Copy owner made) posts s = (sweeping owner s.0, subst (λ p. IsCopying p z.work.copied made) (sym (posts owner refl)) s.1)
    by_stage (Read owner word) posts s = (sweeping owner s.0, s.1)
    by_stage (Journal owner made) posts s = (sweeping owner s.0, s.1)
    by_stage (Volume owner made) posts s = (sweeping owner s.0, s.1)
    by_stage (Answer owner made) posts s = (sweeping owner s.0, s.1, answering owner made (posts owner refl) s.2)
    by_stage (Mark owner) posts s = (sweeping owner s.0, answering owner 3 (posts owner refl) s.1)
    by_stage (Collect made) posts s = tt
    by_stage Lower posts s = tt

  module _ (apart : IsApart (combine_table S node) sides) (r : ℕ) (x : RankSide) (has : slice_get sides r ≡ Some x) where
    -- the side that some stage leaves
    abbrev left_by : Worked TheCombineSide → RankSide
    left_by t = side_turned x.standing t

    -- a store to the own post, while the flag is 0
    own_store : (i v : ℕ) → i < 9 → (w : RankSide) → w.work.seen.room ≡ x.work.seen.room → (post_of S words r).flag ≡ 0 → in_hand x.work.stage ≡ None →
        ((y : Seat) → slice_get g.seats r ≡ Some y → OwnAt S (post_of S (slice_set words (post_word S r i) v) r) r w y w.work.stage) →
        SweepAt S (slice_set words (post_word S r i) v) g.seats r w.work w.work.stage →
        Keeps S words sides g (slice_set words (post_word S r i) v) (slice_set sides r w)
    own_store i v few w room down empty own sweep =
        let vs : List ℕ = slice_set words (post_word S r i) v in
        let front : front_of S vs ≡ front_of S words = front_behind S words (post_word S r i) v (let l = laid.low in omega arith) in
        let posts : (k : ℕ) → k ≢ r → post_of S vs k ≡ post_of S words k = λ k ne. others_stay S words r i v k few ne in
        own_moves S node words laid sides g r x has vs w front posts room own sweep
        (λ q z ne there. sweep_same vs q z front (posts q ne) (λ k e. posts k
        (λ same. let one = subst (λ n. (post_of S words n).flag ≡ 1) same (found_flag q z there k e) in absurd (omega arith)))
        (g.sweeps q z there))
        (λ k e. absurd (cc))

    -- and where the rank is a writer
    writer_store : (i v : ℕ) → i < 9 → (w : RankSide) → w.work.seen.room ≡ x.work.seen.room → x.standing ≡ Writer → in_hand x.work.stage ≡ None →
        ((y : Seat) → slice_get g.seats r ≡ Some y → OwnAt S (post_of S (slice_set words (post_word S r i) v) r) r w y w.work.stage) →
        SweepAt S (slice_set words (post_word S r i) v) g.seats r w.work w.work.stage →
        Keeps S words sides g (slice_set words (post_word S r i) v) (slice_set sides r w)
    writer_store i v few w room writes empty own sweep =
        let vs : List ℕ = slice_set words (post_word S r i) v in
        let front : front_of S vs ≡ front_of S words = front_behind S words (post_word S r i) v (let l = laid.low in omega arith) in
        let posts : (k : ℕ) → k ≢ r → post_of S vs k ≡ post_of S words k = λ k ne. others_stay S words r i v k few ne in
        own_moves S node words laid sides g r x has vs w front posts room own sweep
        (λ q z ne there.
        let s = seat_of S node words laid sides g q z there in
        sweep_any S (post_of S words q) q z s.0 z.work.stage (g.own q z s.0 there s.1)
        (only_writer S node words laid sides g apart r x has writes q z there ne) vs g.seats)
        (λ k e. absurd (cc))

    -- a load
    loads : (w : RankSide) → w.work.seen.room ≡ x.work.seen.room →
        ((y : Seat) → slice_get g.seats r ≡ Some y → OwnAt S (post_of S words r) r w y w.work.stage) →
        SweepAt S words g.seats r w.work w.work.stage →
        ((k : ℕ) → in_hand x.work.stage ≡ Some k → in_hand w.work.stage ≡ Some k) → Keeps S words sides g words (slice_set sides r w)
    loads w room own sweep hand = own_moves S node words laid sides g r x has words w refl (λ k ne. refl) room own sweep
        (λ q z ne there. g.sweeps q z there) hand

    -- what is known of the rank at its stage
    own_at : (st : CombineStage) → x.work.stage ≡ st → (y : Seat) → slice_get g.seats r ≡ Some y → OwnAt S (post_of S words r) r x y st
    own_at st e y there = subst (OwnAt S (post_of S words r) r x y) e (g.own r x y has there)

    -- a word of the call is posted
    pub post_stored : (made : ℕ) → x.work.stage ≡ Post made → (got : ℕ) →
        Keeps S words sides g (slice_set words (post_word S r (1 + made)) (slice_index (post_spelling x.work.call x.work.seq) made))
        (slice_set sides r (left_by (combine_stage_after S r x.work got (Post made))))
    post_stored made st got =
        let s = seat_of S node words laid sides g r x has in
        let o : OwnAt S (post_of S words r) r x s.0 (Post made) = own_at (Post made) st s.0 s.1 in
        let few : made < 5 = o.1 in
        let v : ℕ = slice_index (post_spelling x.work.call x.work.seq) made in
        let vs : List ℕ = slice_set words (post_word S r (1 + made)) v in
        let p : post_of S vs r ≡ record (post_of S words r) { call = slice_set (post_of S words r).call made v } =
        call_stored S words r v (is_rank S node words laid sides g r x has) laid.all made few in
        let stored : take (made + 1) (slice_set (post_of S words r).call made v) ≡ take (made + 1) (post_spelling x.work.call x.work.seq) =
        stores_on (post_of S words r).call (post_spelling x.work.call x.work.seq) made few few o.2.spelled in
        let posting : (y : Seat) → slice_get g.seats r ≡ Some y → IsPosting S (post_of S vs r) r (opened_of x.work) y (made + 1) = λ y there.
        let q : OwnAt S (post_of S words r) r x y (Post made) = own_at (Post made) st y there in
        subst (λ p. IsPosting S p r (opened_of x.work) y (made + 1)) (sym p)
        (record { open_call = q.2.open_call; flag = q.2.flag; spelled = stored; free = q.2.free }) in
        elim (made + 1 == 5) as (λ b. (made + 1 == 5) ≡ b → Keeps S words sides g vs
        (slice_set sides r (left_by (cond b (combine_to_stage x.work Raise) (combine_to_stage x.work (Post (made + 1))))))) [
          | true ↦ λ e. own_store (1 + made) v (omega arith) (left_by (combine_to_stage x.work Raise)) refl o.2.flag (ap in_hand st)
              (λ y there. (o.0, subst (IsPosting S (post_of S vs r) r (opened_of x.work) y) (grind (arith, nat_tests)) (posting y there))) tt
          | false ↦ λ e. own_store (1 + made) v (omega arith) (left_by (combine_to_stage x.work (Post (made + 1)))) refl o.2.flag (ap in_hand st)
              (λ y there. (o.0, (let ne : (made + 1 ≡ 5) → ⊥ = λ h. grind (arith, nat_tests) in omega arith), posting y there)) tt
        ] refl

    -- the flag is raised
    pub raised : x.work.stage ≡ Raise → (got : ℕ) → Keeps S words sides g (slice_set words (post_word S r 0) 1)
        (slice_set sides r (left_by (combine_stage_after S r x.work got Raise)))
    raised st got =
        let s = seat_of S node words laid sides g r x has in
        let o : OwnAt S (post_of S words r) r x s.0 Raise = own_at Raise st s.0 s.1 in
        let p : post_of S (slice_set words (post_word S r 0) 1) r ≡ record (post_of S words r) { flag = 1 } =
        flag_stored S words r 1 (is_rank S node words laid sides g r x has) laid.all in
        own_store 0 1 (omega arith) (left_by (combine_stage_after S r x.work got Raise)) refl o.1.flag (ap in_hand st)
        (λ y there.
        let q : OwnAt S (post_of S words r) r x y Raise = own_at Raise st y there in
        subst (λ p. OwnAt S p r (left_by (combine_stage_after S r x.work got Raise)) y Look) (sym p)
        (tt, record { open_call = q.1.open_call; spelled = q.1.spelled; progress = waits (record { flag = refl; free = q.1.free }) }))
        tt

    -- who is about to make an atom after it asked is a writer: nobody has asked to read
    asked_writes : Rests x.standing → IsInCall x.standing → x.standing ≡ Writer
    asked_writes rests asked = by_standing x.standing refl rests asked where
      by_standing : (st : Standing) → x.standing ≡ st → Rests st → IsInCall st → st ≡ Writer
      by_standing Out e q a = absurd a
      by_standing Asking e q a = absurd q
      by_standing Writer e q a = refl
      by_standing Reader e q a = let m = apart.reads r x has e in absurd (cc)
      by_standing Leaving e q a = absurd a

    -- the flag of an own call that may be done
    pub looked : Rests x.standing → x.work.stage ≡ Look → Keeps S words sides g words
        (slice_set sides r (left_by (combine_stage_after S r x.work (post_of S words r).flag Look)))
    looked rests st =
        elim ((post_of S words r).flag == 2) as (λ b. ((post_of S words r).flag == 2) ≡ b → Keeps S words sides g words
        (slice_set sides r (left_by (cond b (to_collect x.work) (combine_to_stage x.work Count))))) [
          | true ↦ λ e.
              let two : (post_of S words r).flag ≡ 2 = grind (arith, nat_tests) in
              loads (left_by (to_collect x.work)) refl
              (λ y there.
              let o : OwnAt S (post_of S words r) r x y Look = own_at Look st y there in (
                asked_writes rests o.0,
                omega arith,
                record { open_call = o.1.open_call; done = answered_of S (post_of S words r) r (opened_of x.work) y o.1 two; same = refl },
              ))
              tt (λ k e. absurd (let n = ap in_hand st in cc))
          | false ↦ λ e.
              loads (left_by (combine_to_stage x.work Count)) refl
              (λ y there. let o : OwnAt S (post_of S words r) r x y Look = own_at Look st y there in (asked_writes rests o.0, o.1))
              tt (λ k e. absurd (let n = ap in_hand st in cc))
        ] refl

    -- How a sweep goes on behind words, seats and a side that are known to keep the rule at such stages.
    pub sweeps_on : (vs : List ℕ) (seats : List Seat) (w : TheCombineSide) (owner : ℕ) → x.standing ≡ Writer → owner ≤ combine_ranks S →
        w.count ≡ slice_index vs count_word → (r < owner → (post_of S vs r).flag ≡ 2) →
        ((v : Seat) → slice_get seats r ≡ Some v → IsPosted S (post_of S vs r) r (opened_of w) v) →
        ((t : Worked TheCombineSide) → t.work.seen.room ≡ w.seen.room → in_hand t.work.stage ≡ None →
        ((v : Seat) → slice_get seats r ≡ Some v → OwnAt S (post_of S vs r) r (left_by t) v t.work.stage) →
        SweepAt S vs seats r t.work t.work.stage → Keeps S words sides g vs (slice_set sides r (left_by t))) →
        Keeps S words sides g vs (slice_set sides r (left_by (sweep_on S w owner)))
    sweeps_on vs seats w owner writes few count past is keeps =
        elim (owner == combine_ranks S) as (λ b. (owner == combine_ranks S) ≡ b → Keeps S words sides g vs
        (slice_set sides r (left_by (cond b (to_collect w) (combine_to_stage w (Sweep owner)))))) [
          | true ↦ λ e.
              let all : owner ≡ combine_ranks S = grind (arith, nat_tests) in
              let two : (post_of S vs r).flag ≡ 2 = past (let h = is_rank S node words laid sides g r x has in omega arith) in
              keeps (to_collect w) refl refl
              (λ v there. (
                writes,
                omega arith,
                record {
                  open_call = (is v there).open_call;
                  done = answered_of S (post_of S vs r) r
                      (opened_of w) v (is v there) two;
                  same = refl;
                },
              ))
              tt
          | false ↦ λ e.
              let ne : (owner ≡ combine_ranks S) → ⊥ = λ h. grind (arith, nat_tests) in
              keeps (combine_to_stage w (Sweep owner)) refl refl
              (λ v there. (writes, is v there))
              (record { same = count; there = omega arith; past = past })
        ] refl

    -- the count is loaded
    pub counted_on : x.work.stage ≡ Count → Keeps S words sides g words
        (slice_set sides r (left_by (combine_stage_after S r x.work (slice_index words count_word) Count)))
    counted_on st =
        let s = seat_of S node words laid sides g r x has in
        let o : OwnAt S (post_of S words r) r x s.0 Count = own_at Count st s.0 s.1 in
        sweeps_on words g.seats (record x.work { count = slice_index words count_word }) 0 o.0 (omega arith) refl (λ h. absurd (omega arith))
        (λ v there. (own_at Count st v there).1)
        (λ t room none own sweep. loads (left_by t) room own sweep (λ k e. absurd (let n = ap in_hand st in cc)))

    -- the flag of a rank is loaded
    pub swept : (owner : ℕ) → x.work.stage ≡ Sweep owner → Keeps S words sides g words
        (slice_set sides r (left_by (combine_stage_after S r x.work (post_of S words owner).flag (Sweep owner))))
    swept owner st =
        let s = seat_of S node words laid sides g r x has in
        let o : OwnAt S (post_of S words r) r x s.0 (Sweep owner) = own_at (Sweep owner) st s.0 s.1 in
        let w : IsSweeping S words r x.work.count owner = subst (SweepAt S words g.seats r x.work) st (g.sweeps r x has) in
        elim ((post_of S words owner).flag == 1) as (λ b. ((post_of S words owner).flag == 1) ≡ b → Keeps S words sides g words
        (slice_set sides r (left_by (cond b (combine_to_stage (with_nothing x.work) (Copy owner 0)) (sweep_on S x.work (owner + 1)))))) [
          | true ↦ λ e.
              let one : (post_of S words owner).flag ≡ 1 = grind (arith, nat_tests) in
              loads (left_by (combine_to_stage (with_nothing x.work) (Copy owner 0))) refl
              (λ y there. own_at (Sweep owner) st y there)
              (record { same = w.same; there = w.there; past = w.past }, record { flag = one; few = omega arith; same = refl })
              (λ k e. absurd (let n = ap in_hand st in cc))
          | false ↦ λ e.
              let ne : ((post_of S words owner).flag ≡ 1) → ⊥ = λ h. grind (arith, nat_tests) in
              sweeps_on words g.seats x.work (owner + 1) o.0 (let h = w.there in omega arith) w.same
              (λ h. ⊎_elim
              (λ (same : r ≡ owner). is_two S (post_of S words r) r (opened_of x.work) s.0 o.1 (λ one. ne (subst (λ n. (post_of S words n).flag ≡ 1) same one)))
              (λ (other : r ≢ owner). w.past (omega arith))
              (same_or_not r owner))
              (λ v there. (own_at (Sweep owner) st v there).1)
              (λ t room none own sweep. loads (left_by t) room own sweep (λ k e. absurd (let n = ap in_hand st in cc)))
        ] refl

    -- a word of a post is copied, and not the last one
    pub copied_on : (owner made : ℕ) → x.work.stage ≡ Copy owner made → (made + 1 < 5) →
        Keeps S words sides g words (slice_set sides r (left_by
        (combine_to_stage (with_copied x.work (slice_index words (post_word S owner (1 + made)))) (Copy owner (made + 1)))))
    copied_on owner made st more =
        let w : IsSweeping S words r x.work.count owner × IsCopying (post_of S words owner) x.work.copied made =
        subst (SweepAt S words g.seats r x.work) st (g.sweeps r x has) in
        loads (left_by (combine_to_stage (with_copied x.work (slice_index words (post_word S owner (1 + made)))) (Copy owner (made + 1)))) refl
        (λ y there. own_at (Copy owner made) st y there) (
          record { same = w.0.same; there = w.0.there; past = w.0.past },
          record {
            flag = w.1.flag;
            few = more;
            same = copies_on (post_of S words owner).call x.work.copied made
                (slice_index words (post_word S owner (1 + made))) w.1.few w.1.same (call_word S words owner made w.1.few);
          },
        )
        (λ k e. absurd (let n = ap in_hand st in cc))

    -- a word of the own answer is copied
    pub collected : (made : ℕ) → x.work.stage ≡ Collect made → Keeps S words sides g words
        (slice_set sides r (left_by (combine_stage_after S r x.work (slice_index words (post_word S r (6 + made))) (Collect made))))
    collected made st =
        let got : ℕ = slice_index words (post_word S r (6 + made)) in
        let s = seat_of S node words laid sides g r x has in
        let few : made < 3 = (own_at (Collect made) st s.0 s.1).1 in
        let collecting : (y : Seat) → slice_get g.seats r ≡ Some y → IsCollecting S (post_of S words r) r (opened_of x.work) y
        (x.work.copied ++ got ∷ []) (made + 1) = λ y there.
        let o : OwnAt S (post_of S words r) r x y (Collect made) = own_at (Collect made) st y there in
        record {
          open_call = o.2.open_call;
          done = o.2.done;
          same =
              copies_on (post_of S words r).answer x.work.copied made got few o.2.same (answer_word S words r made few);
        } in
        elim (made + 1 == 3) as (λ b. (made + 1 == 3) ≡ b → Keeps S words sides g words
        (slice_set sides r (left_by (cond b (combine_to_stage (with_copied x.work got) Lower)
        (combine_to_stage (with_copied x.work got) (Collect (made + 1))))))) [
          | true ↦ λ e. loads (left_by (combine_to_stage (with_copied x.work got) Lower)) refl
              (λ y there. (
                (own_at (Collect made) st y there).0,
                subst
                    (IsCollecting S (post_of S words r) r (opened_of x.work) y (x.work.copied ++ got ∷ [])) (grind (arith, nat_tests))
                    (collecting y there),
              ))
              tt (λ k e. absurd (let n = ap in_hand st in cc))
          | false ↦ λ e. loads (left_by (combine_to_stage (with_copied x.work got) (Collect (made + 1)))) refl
              (λ y there. (
                (own_at (Collect made) st y there).0,
                (let ne : (made + 1 ≡ 3) → ⊥ = λ h. grind (arith, nat_tests) in omega arith),
                collecting y there,
              ))
              tt (λ k e. absurd (let n = ap in_hand st in cc))
        ] refl

    -- the flag is lowered: the own entry is kept, and the work is over
    pub lowered : x.work.stage ≡ Lower → (got : ℕ) → Keeps S words sides g (slice_set words (post_word S r 0) 0)
        (slice_set sides r (left_by (combine_stage_after S r x.work got Lower)))
    lowered st got =
        let s = seat_of S node words laid sides g r x has in
        let o : OwnAt S (post_of S words r) r x s.0 Lower = own_at Lower st s.0 s.1 in
        let p : post_of S (slice_set words (post_word S r 0) 0) r ≡ record (post_of S words r) { flag = 0 } =
        flag_stored S words r 0 (is_rank S node words laid sides g r x has) laid.all in
        writer_store 0 0 (omega arith) (left_by (combine_stage_after S r x.work got Lower)) refl o.0 (ap in_hand st)
        (λ y there.
        let q : OwnAt S (post_of S words r) r x y Lower = own_at Lower st y there in
        let own : x.work.copied ≡ (post_of S words r).answer = q.1.same in
        subst (λ p. OwnAt S p r (left_by (combine_stage_after S r x.work got Lower)) y Rest) (sym p) (
          subst (λ st. IsDone (standing_done st)) (sym o.0) tt,
          refl,
          record {
            out = q.1.done.free.out;
            has = q.1.done.free.has ∙ ap (λ l. more_entries x.work.kept (answered_entry S.site.shard r x.work.seq x.work.call l ∷ [])) (sym own);
          },
        ))
        tt
