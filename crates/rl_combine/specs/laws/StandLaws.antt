-- The rule at the start, where a call is opened, where the lock changes a standing, and where words of the lock alone change; and how a
-- rank goes on.
use Rattle.std.specs.Prelude.{◌≡◌, ℕ, zero, suc, ◌+◌, ◌-◌, ◌*◌, ◌<◌, ◌≤◌, Bool, true, false, List, [], ◌∷◌, ◌++◌, length, map, replicate, slice_get, slice_index, slice_set, Option, Some, None, refl}
use Rattle.std.proofs.Common.{sym, ◌∙◌, ap, subst, inl, arith}
use Rattle.std.proofs.lemmas.List.{get_or-append-add, length-map, take_at}
use Rattle.std.proofs.lemmas.Option.{same_Some}
use Rattle.rl_word.specs.declared.acts.Atom.{Atom}
use Rattle.rl_word.specs.declared.acts.Atom.TheVariants.{Load, Store}
use Rattle.rl_volume.specs.declared.write.Write.{Write}
use Rattle.rl_word.specs.laws.Places.{one_at, get_map_back}
use Rattle.rl_model.specs.declared.call.Call.{Call}
use Rattle.rl_model.specs.Geom.{GeomFits}
use Rattle.rl_step.specs.declared.events.Event.{Event}
use Rattle.rl_step.specs.declared.events.Standing.{Standing}
use Rattle.rl_step.specs.declared.events.Standing.TheVariants.{Out, Asking, Writer, Reader, Leaving}
use Rattle.rl_step.specs.Lock.{IsHolder, Rests, Shift}
use Rattle.rl_site.specs.Site.{lock_base, WaySite}
use Rattle.rl_site.specs.Opens.{IsOpen, opening_words}
use Rattle.rl_work.specs.Ways.{IsLaid, IsFirst, SameWork, GoesOnAt, TouchesAs, TellsTouch}
use Rattle.rl_site.specs.laws.OpeningLaws.{opening_size}
use Rattle.rl_work.specs.Work.{first_work, write_atom}
use Rattle.rl_work.specs.WorkGood.{WorkSide as Seat, WorkGood, IsDone, IsInCall, IsFirst as IsFirstSeat}
use Rattle.rl_work.specs.laws.Shifts.{stays_done, asks_on}
use Rattle.rl_work.specs.laws.AtomLaws.{opening_good}
use Rattle.rl_combine.specs.declared.stage.CombineStage.{CombineStage}
use Rattle.rl_combine.specs.declared.stage.CombineStage.TheVariants.{Rest, Post, Raise, Look, Count, Sweep, Copy, Read, Journal, Volume, Answer, Mark, Collect, Lower}
use Rattle.rl_combine.specs.Posts.{ThePost, combine_ranks, post_word, post_of}
use Rattle.rl_combine.specs.Combine.{TheCombineSide, combine_is_open, combine_touch_at, in_hand, combine_stage_atom, combine_table, with_open}
use Rattle.rl_combine.specs.CombineGood.{RankSide, front_of, IsFree, OwnAt, SweepAt, CombineGood}
use Rattle.rl_combine.specs.laws.PostLaws.{same_post}
use Rattle.rl_combine.specs.laws.MoveLaws.{Keeps, seat_of, own_moves}
use Rattle.rl_combine.specs.laws.OwnLaws.{sweep_same}

zero_at : (n i : ℕ) → slice_index (replicate n 0) i ≡ 0
zero_at zero i = refl
zero_at (suc n) zero = refl
zero_at (suc n) (suc i) = zero_at n i

-- the first seat of a rank
abbrev first_seat : WaySite → RankSide → Seat
first_seat S x = record { standing = Out; work = first_work S.site.geom x.work.kept.room }

-- before the first call the rule holds
pub begins : (S : WaySite) (node : ℕ → ℕ) → GeomFits S.site.geom → (n : ℕ) → lock_base S.site ≤ S.behind →
    lock_base S.site + n ≡ S.behind + 9 * combine_ranks S → (sides : List RankSide) → length sides ≡ combine_ranks S →
    ((r : ℕ) (x : RankSide) → slice_get sides r ≡ Some x → IsFirst (combine_table S node) r x) → CombineGood S (opening_words S.site ++ replicate n 0) sides
begins S node fits n low all sides ranks first =
    let words : List ℕ = opening_words S.site ++ replicate n 0 in
    let seats : List Seat = map (first_seat S) sides in
    let front : front_of S words ≡ opening_words S.site = take_at (opening_words S.site) (replicate n 0) (lock_base S.site) (opening_size S.site) in
    record {
      seats = seats;
      ranks = ranks;
      work = subst (λ z. WorkGood S.site z seats) (sym front) (opening_good S.site fits seats (length-map sides (first_seat S) ∙ ranks)
          (λ k y there. first_of_seat k y there));
      seen_rooms = λ r x there. ap (λ (w : TheCombineSide). w.seen.room) (first r x there).work;
      own = λ r x y there seat.
          let f : IsFirst (combine_table S node) r x = first r x there in
          subst (OwnAt S (post_of S words r) r x y) (sym (ap (λ (w : TheCombineSide). w.stage) f.work)) (
            subst IsDone (sym f.out) tt,
            empty r,
            free x y r there seat,
          );
      sweeps = λ r x there. subst (SweepAt S words seats r x.work) (sym (ap (λ (w : TheCombineSide). w.stage) (first r x there).work)) tt;
      held = λ k y seat. inl (let q = get_map_back (first_seat S) sides k y seat in ap (λ (u : Seat). u.standing) (sym q.2));
    }
  where
    empty : (k : ℕ) → slice_index (opening_words S.site ++ replicate n 0) (post_word S k 0) ≡ 0
    empty k =
        let i : ℕ = post_word S k 0 - lock_base S.site in
        let at : post_word S k 0 ≡ length (opening_words S.site) + i = omega (arith, opening_size S.site) in
        ap (slice_index (opening_words S.site ++ replicate n 0)) at ∙ get_or-append-add (opening_words S.site) (replicate n 0) i 0 ∙ zero_at n i

    first_of_seat : (k : ℕ) (y : Seat) → slice_get (map (first_seat S) sides) k ≡ Some y → IsFirstSeat S.site.geom y
    first_of_seat k y there =
        let q = get_map_back (first_seat S) sides k y there in
        subst (IsFirstSeat S.site.geom) q.2 (record { out = refl; rests = refl; nothing = refl; seen_room = refl })

    free : (x : RankSide) (y : Seat) (r : ℕ) → slice_get sides r ≡ Some x → slice_get (map (first_seat S) sides) r ≡ Some y → IsFree y x.work.kept
    free x y r there seat =
        let q = get_map_back (first_seat S) sides r y seat in
        let same : q.0 ≡ x = one_at sides r q.0 x q.1 there in
        let f : IsFirst (combine_table S node) r x = first r x there in
        let kept : x.work.kept ≡ record { items = []; room = f.room } = ap (λ (w : TheCombineSide). w.kept) f.work in
        let mine : record { items = []; room = x.work.kept.room } ≡ x.work.kept =
        ap (λ n. record { items = []; room = n }) (ap (λ (w : TheCombineSide). w.kept.room) f.work) ∙ sym kept in
        subst (λ (u : Seat). IsFree u x.work.kept) (ap (first_seat S) (sym same) ∙ q.2) (record { out = refl; has = mine })

-- words of the lock alone change
pub frame : (S : WaySite) (node : ℕ → ℕ) (words others : List ℕ) (sides : List RankSide) → CombineGood S words sides →
    IsLaid (combine_table S node) words → SameWork (combine_table S node) words others → CombineGood S others sides
frame S node words others sides g laid same =
    let posts : (k : ℕ) → post_of S others k ≡ post_of S words k = λ k. same_post S k words others (λ m h. same.behind (post_word S k m) (omega arith)) in
    record {
      seats = g.seats;
      ranks = g.ranks;
      work = subst (λ z. WorkGood S.site z g.seats) (sym same.before) g.work;
      seen_rooms = g.seen_rooms;
      own = λ r x y there seat. subst (λ p. OwnAt S p r x y x.work.stage) (sym (posts r)) (g.own r x y there seat);
      sweeps = λ r x there. sweep_frame r x there posts;
      held = g.held;
    }
  where
    sweep_frame : (r : ℕ) (x : RankSide) → slice_get sides r ≡ Some x → ((k : ℕ) → post_of S others k ≡ post_of S words k) →
        SweepAt S others g.seats r x.work x.work.stage
    sweep_frame r x there posts = sweep_same S node words laid sides g others r x same.before (posts r) (λ k e. posts k) (g.sweeps r x there)

module _ (S : WaySite) (node : ℕ → ℕ) (words : List ℕ) (laid : IsLaid (combine_table S node) words) (sides : List RankSide)
    (g : CombineGood S words sides) (r : ℕ) (x : RankSide) (has : slice_get sides r ≡ Some x) where
  own_now : (y : Seat) → slice_get g.seats r ≡ Some y → OwnAt S (post_of S words r) r x y x.work.stage
  own_now y seat = g.own r x y has seat

  -- with no open call a rank rests
  pub at_rest_of : combine_is_open x.work.stage ≡ false → x.work.stage ≡ Rest
  at_rest_of closed = by_stage x.work.stage closed where
    by_stage : (st : CombineStage) → combine_is_open st ≡ false → st ≡ Rest
    by_stage Rest e = refl
    by_stage (Post made) e = absurd (cc)
    by_stage Raise e = absurd (cc)
    by_stage Look e = absurd (cc)
    by_stage Count e = absurd (cc)
    by_stage (Sweep owner) e = absurd (cc)
    by_stage (Copy owner made) e = absurd (cc)
    by_stage (Read owner word) e = absurd (cc)
    by_stage (Journal owner made) e = absurd (cc)
    by_stage (Volume owner made) e = absurd (cc)
    by_stage (Answer owner made) e = absurd (cc)
    by_stage (Mark owner) e = absurd (cc)
    by_stage (Collect made) e = absurd (cc)
    by_stage Lower e = absurd (cc)

  -- a call is opened
  pub opens : (call : Call) (seq : ℕ) → x.standing ≡ Out → combine_is_open x.work.stage ≡ false →
      IsOpen S.site r (call ∷ []) seq x.work.kept → Keeps S words sides g words
      (slice_set sides r (record { standing = Out; work = with_open x.work call seq }))
  opens call seq out closed o =
      let rest : x.work.stage ≡ Rest = at_rest_of closed in
      own_moves S node words laid sides g r x has words (record { standing = Out; work = with_open x.work call seq }) refl (λ k ne. refl) refl
      (λ y seat.
      let own : OwnAt S (post_of S words r) r x y Rest = subst (OwnAt S (post_of S words r) r x y) rest (own_now y seat) in
      (refl, omega arith, record { open_call = o; flag = own.1; spelled = refl; free = own.2 }))
      tt
      (λ q z ne there. g.sweeps q z there)
      (λ k e. absurd (let n = ap in_hand rest in cc))

  -- the lock changes a standing
  shifted : (p : ThePost) (y : Seat) (st : Standing) (es : List Event) → Shift r x.standing st es → (stage : CombineStage) →
      OwnAt S p r x y stage → OwnAt S p r (record { standing = st; work = x.work }) y stage
  shifted p y st es shift Rest o = (stays_done r x.standing st es shift o.0, o.1, o.2)
  shifted p y st es shift (Post made) o = absurd (subst (λ a. Shift r a st es) o.0 shift)
  shifted p y st es shift Raise o = absurd (subst (λ a. Shift r a st es) o.0 shift)
  shifted p y st es shift Look o = (asks_on r x.standing st es shift o.0, o.1)
  shifted p y st es shift Count o = absurd (subst (λ a. Shift r a st es) o.0 shift)
  shifted p y st es shift (Sweep owner) o = absurd (subst (λ a. Shift r a st es) o.0 shift)
  shifted p y st es shift (Copy owner made) o = absurd (subst (λ a. Shift r a st es) o.0 shift)
  shifted p y st es shift (Read owner word) o = absurd (subst (λ a. Shift r a st es) o.0 shift)
  shifted p y st es shift (Journal owner made) o = absurd (subst (λ a. Shift r a st es) o.0 shift)
  shifted p y st es shift (Volume owner made) o = absurd (subst (λ a. Shift r a st es) o.0 shift)
  shifted p y st es shift (Answer owner made) o = absurd (subst (λ a. Shift r a st es) o.0 shift)
  shifted p y st es shift (Mark owner) o = absurd (subst (λ a. Shift r a st es) o.0 shift)
  shifted p y st es shift (Collect made) o = absurd (subst (λ a. Shift r a st es) o.0 shift)
  shifted p y st es shift Lower o = absurd (subst (λ a. Shift r a st es) o.0 shift)

  pub shifts : (st : Standing) (es : List Event) → Shift r x.standing st es → CombineGood S words (slice_set sides r (record { standing = st; work = x.work }))
  shifts st es shift =
      (own_moves S node words laid sides g r x has words (record { standing = st; work = x.work }) refl (λ k ne. refl) refl
      (λ y seat. shifted (post_of S words r) y st es shift x.work.stage (own_now y seat))
      (g.sweeps r x has)
      (λ q z ne there. g.sweeps q z there)
      (λ k e. e)).good

  -- how the rank goes on, by how it stands
  standing_goes : (p : ThePost) (y : Seat) (stage : CombineStage) → OwnAt S p r x y stage →
      GoesOnAt x.standing (combine_is_open stage) (combine_stage_atom S r x.work stage)
  standing_goes p y Rest o = by_standing x.standing o.0 where
    by_standing : (st : Standing) → IsDone st → GoesOnAt st false None
    by_standing Out d = refl
    by_standing Asking d = absurd d
    by_standing Writer d = absurd d
    by_standing Reader d = absurd d
    by_standing Leaving d = refl
  standing_goes p y (Post made) o = subst (λ a. GoesOnAt a true (combine_stage_atom S r x.work (Post made))) (sym o.0) refl
  standing_goes p y Raise o = subst (λ a. GoesOnAt a true (combine_stage_atom S r x.work Raise)) (sym o.0) refl
  standing_goes p y Look o = by_standing x.standing o.0 where
    by_standing : (st : Standing) → IsInCall st → GoesOnAt st true (combine_stage_atom S r x.work Look)
    by_standing Out d = absurd d
    by_standing Asking d = refl
    by_standing Writer d = (refl, refl)
    by_standing Reader d = (refl, refl)
    by_standing Leaving d = absurd d
  standing_goes p y Count o = subst (λ a. GoesOnAt a true (combine_stage_atom S r x.work Count)) (sym o.0) (refl, refl)
  standing_goes p y (Sweep owner) o = subst (λ a. GoesOnAt a true (combine_stage_atom S r x.work (Sweep owner))) (sym o.0) (refl, refl)
  standing_goes p y (Copy owner made) o = subst (λ a. GoesOnAt a true (combine_stage_atom S r x.work (Copy owner made))) (sym o.0) (refl, refl)
  standing_goes p y (Read owner word) o = subst (λ a. GoesOnAt a true (combine_stage_atom S r x.work (Read owner word))) (sym o.0) (refl, refl)
  standing_goes p y (Journal owner made) o = subst (λ a. GoesOnAt a true (combine_stage_atom S r x.work (Journal owner made))) (sym o.0) (refl, refl)
  standing_goes p y (Volume owner made) o = subst (λ a. GoesOnAt a true (combine_stage_atom S r x.work (Volume owner made))) (sym o.0) (refl, refl)
  standing_goes p y (Answer owner made) o = subst (λ a. GoesOnAt a true (combine_stage_atom S r x.work (Answer owner made))) (sym o.0) (refl, refl)
  standing_goes p y (Mark owner) o = subst (λ a. GoesOnAt a true (combine_stage_atom S r x.work (Mark owner))) (sym o.0) (refl, refl)
  standing_goes p y (Collect made) o = subst (λ a. GoesOnAt a true (combine_stage_atom S r x.work (Collect made))) (sym o.0) (refl, refl)
  standing_goes p y Lower o = subst (λ a. GoesOnAt a true (combine_stage_atom S r x.work Lower)) (sym o.0) (refl, refl)

  pub goes_on : GoesOnAt x.standing (combine_is_open x.work.stage) (combine_stage_atom S r x.work x.work.stage)
  goes_on =
      let s = seat_of S node words laid sides g r x has in
      standing_goes (post_of S words r) s.0 x.work.stage (own_now s.0 s.1)

  -- a Touch is a writer's
  touches_as : (p : ThePost) (y : Seat) (stage : CombineStage) → OwnAt S p r x y stage → TouchesAs (combine_touch_at stage) x.standing
  touches_as p y Rest o = tt
  touches_as p y (Post made) o = tt
  touches_as p y Raise o = tt
  touches_as p y Look o = tt
  touches_as p y Count o = subst IsHolder (sym o.0) tt
  touches_as p y (Sweep owner) o = tt
  touches_as p y (Copy owner made) o = tt
  touches_as p y (Read owner word) o = subst IsHolder (sym o.0) tt
  touches_as p y (Journal owner made) o = o.0
  touches_as p y (Volume owner made) o = o.0
  touches_as p y (Answer owner made) o = tt
  touches_as p y (Mark owner) o = tt
  touches_as p y (Collect made) o = tt
  touches_as p y Lower o = tt

  pub touches : TouchesAs (combine_touch_at x.work.stage) x.standing
  touches =
      let s = seat_of S node words laid sides g r x has in
      touches_as (post_of S words r) s.0 x.work.stage (own_now s.0 s.1)

-- each atom before the lock's words is told as a touch
pub tells_at : (S : WaySite) (r : ℕ) (x : TheCombineSide) (at : Atom) (seated : Standing) (calls : List Call) →
    lock_base S.site ≤ S.behind → (stage : CombineStage) → combine_stage_atom S r x stage ≡ Some at →
    TellsTouch (lock_base S.site) at seated calls (combine_touch_at stage)
tells_at S r x at seated calls low stage p = by_stage stage p where
  on_load : (w : ℕ) (t : Option Bool) → (w < lock_base S.site → t ≡ Some false) → Load w ≡ at → TellsTouch (lock_base S.site) at seated calls t
  on_load w t told p = subst (λ z. TellsTouch (lock_base S.site) z seated calls t) p (λ under. inl (told under))

  on_store : (w v : ℕ) (t : Option Bool) → (w < lock_base S.site → t ≡ Some true) → Store w v ≡ at → TellsTouch (lock_base S.site) at seated calls t
  on_store w v t told p = subst (λ z. TellsTouch (lock_base S.site) z seated calls t) p (λ under. told under)

  post_load : (k i : ℕ) → Load (post_word S k i) ≡ at → TellsTouch (lock_base S.site) at seated calls None
  post_load k i p = on_load (post_word S k i) None (λ under. absurd (omega arith)) p

  post_store : (k i v : ℕ) → Store (post_word S k i) v ≡ at → TellsTouch (lock_base S.site) at seated calls None
  post_store k i v p = on_store (post_word S k i) v None (λ under. absurd (omega arith)) p

  written : (n : ℕ) (o : Option Write) → write_atom n o ≡ at → TellsTouch (lock_base S.site) at seated calls (Some true)
  written n (Some w) p = on_store _ _ (Some true) (λ under. refl) p
  written n None p = on_store _ _ (Some true) (λ under. refl) p

  by_stage : (stage : CombineStage) → combine_stage_atom S r x stage ≡ Some at → TellsTouch (lock_base S.site) at seated calls (combine_touch_at stage)
  by_stage Rest p = absurd (cc)
  by_stage (Post made) p = post_store r (1 + made) _ (same_Some _ _ p)
  by_stage Raise p = post_store r 0 1 (same_Some _ _ p)
  by_stage Look p = post_load r 0 (same_Some _ _ p)
  by_stage Count p = on_load _ (Some false) (λ under. refl) (same_Some _ _ p)
  by_stage (Sweep owner) p = post_load owner 0 (same_Some _ _ p)
  by_stage (Copy owner made) p = post_load owner (1 + made) (same_Some _ _ p)
  by_stage (Read owner word) p = on_load _ (Some false) (λ under. refl) (same_Some _ _ p)
  by_stage (Journal owner made) p = on_store _ _ (Some true) (λ under. refl) (same_Some _ _ p)
  by_stage (Volume owner made) p = written (x.count + 1) (slice_get x.writes made) (same_Some _ _ p)
  by_stage (Answer owner made) p = post_store owner (6 + made) _ (same_Some _ _ p)
  by_stage (Mark owner) p = post_store owner 0 2 (same_Some _ _ p)
  by_stage (Collect made) p = post_load r (6 + made) (same_Some _ _ p)
  by_stage Lower p = post_store r 0 0 (same_Some _ _ p)

-- a rank that posts its call is out, and one that sweeps or collects its answer is a writer
pub busy_rests : (S : WaySite) (node : ℕ → ℕ) (words : List ℕ) → IsLaid (combine_table S node) words → (sides : List RankSide) → CombineGood S words sides →
    (r : ℕ) (x : RankSide) → slice_get sides r ≡ Some x → (x.work.stage ≡ Rest → ⊥) → (x.work.stage ≡ Look → ⊥) → Rests x.standing
busy_rests S node words laid sides g r x has busy asked =
    let s = seat_of S node words laid sides g r x has in by_stage s.0 x.work.stage refl (g.own r x s.0 has s.1)
  where
    writes : x.standing ≡ Writer → Rests x.standing
    writes e = subst Rests (sym e) tt

    by_stage : (y : Seat) (st : CombineStage) → x.work.stage ≡ st → OwnAt S (post_of S words r) r x y st → Rests x.standing
    by_stage y Rest e f = absurd (busy e)
    by_stage y (Post made) e f = subst Rests (sym f.0) tt
    by_stage y Raise e f = subst Rests (sym f.0) tt
    by_stage y Look e f = absurd (asked e)
    by_stage y Count e f = writes f.0
    by_stage y (Sweep owner) e f = writes f.0
    by_stage y (Copy owner made) e f = writes f.0
    by_stage y (Read owner word) e f = writes f.0
    by_stage y (Journal owner made) e f = writes f.0
    by_stage y (Volume owner made) e f = writes f.0
    by_stage y (Answer owner made) e f = writes f.0
    by_stage y (Mark owner) e f = writes f.0
    by_stage y (Collect made) e f = writes f.0
    by_stage y Lower e f = writes f.0
