-- Each atom of a rank's whole machine can be made and keeps the rule, for every lock and every way of working.
use Rattle.std.specs.Prelude.{◌≡◌, ◌⊎◌, ◌≢◌, ℕ, ◌+◌, ◌^◌, ◌<◌, ◌==◌, Bool, true, false, List, [], ◌++◌, length, map, take, drop, count_by, slice_get, slice_index, slice_set, Option, Some, None, refl}
use Rattle.std.proofs.Common.{sym, ◌∙◌, ap, subst, inl, inr, ⊎_elim, arith, length-set, length-take}
use Rattle.std.proofs.lemmas.Bool.Decides.{nat_tests}
use Rattle.std.proofs.lemmas.Option.{same_Some}
use Rattle.rl_word.specs.laws.Places.{get_set_cases, get_set_same, get_set_other, get_map, get_map_back, map_set, set_same_get}
use Rattle.rl_word.specs.Acts.{Layout}
use Rattle.rl_word.specs.declared.acts.Atom.{Atom}
use Rattle.rl_word.specs.declared.acts.Atom.TheVariants as atom
use Rattle.rl_word.specs.declared.classes.Mode.{Mode}
use Rattle.rl_word.specs.declared.classes.Mode.TheVariants as mode
use Rattle.rl_step.specs.declared.events.Event.{Event}
use Rattle.rl_step.specs.declared.events.Standing.{Standing}
use Rattle.rl_step.specs.declared.events.Standing.TheVariants as standing
use Rattle.rl_step.specs.declared.events.Stepped.TheVariants.{Finished}
use Rattle.rl_step.specs.Queues.{count}
use Rattle.rl_step.specs.Lock.{LockTable, LockState, LockLaws, Deed, IsHolder, Rests, Suits, holds_only}
use Rattle.rl_step.specs.laws.CoreLemmas.{length-do_words}
use Rattle.rl_step.specs.Do.{TheWindow, do_got, do_atom, do_words, CanDo}
use Rattle.rl_step.specs.Core.{CoreLaws, Turned, home_at}
use Rattle.rl_work.specs.declared.follow.Follow.{Follow}
use Rattle.rl_work.specs.declared.follow.Follow.TheVariants.{On, Ask, Over}
use Rattle.rl_site.specs.Site.{lock_base}
use Rattle.rl_work.specs.Ways.{WorkSide, Worked, IsApart, IsLaid, IsSide, Works, IsWorkAtom, AsksOut, AnswersAs, side_turned, standing_after, standing_done, mode_after, tenure_of}
use Rattle.rl_rank.specs.declared.card_state.CardState.TheVariants.{Free}
use Rattle.rl_rank.specs.declared.effect.Effect.{Effect}
use Rattle.rl_rank.specs.declared.effect.Effect.TheVariants as effect
use Rattle.rl_rank.specs.Running.{LockAt, Goods, BothLaws}
use Rattle.rl_rank.specs.declared.whole.WholeView.{WholeView}
use Rattle.rl_rank.specs.Split.{SplitState, SideTurned, Past, lock_of, view_of, side_atom, side_after, home_of, moved, turned_side, effect_at, plan_home, grown}
use Rattle.rl_rank.specs.laws.SplitLaws.{atom_keeps, atom_can, split_at, none_at}
use Rattle.rl_rank.specs.laws.AnswerLaws.{atom_goes_on}
use Rattle.rl_rank.specs.laws.CallLaws.{work_keeps, modes_after}
use Rattle.rl_rank.specs.laws.ShiftLaws.{IsLow, can_low, lock_words_made, lock_got, shift_cards, shift_home, there}
use Rattle.rl_rank.specs.laws.Bridge.{Moves, leaves_more, moves_leaves, is_work, no_work, IsOffLock, off_lock, same_work}
use Rattle.rl_rank.specs.laws.LearnLaws.{moves_by}
use Rattle.rl_rank.specs.laws.KeptLaws.{kept_turned, kept_after}
use Rattle.rl_rank.specs.Whole.{side_of, shifted, lock_words, lock_or_work, work_plan, next_of, after_of, effect_turned, whole_turned, work_turned, work_events, departure_by, followed, left_by, home_of_word, whole_table, split_of, work_side, counts, leaves, made_deeds, Good}

-- each view is still its rank's own after one rank's view was changed
pub own_after : {V K : Type 0} (vs : List (WholeView V K)) (r : ℕ) (x y : WholeView V K) →
    ((i : ℕ) (u : WholeView V K) → slice_get vs i ≡ Some u → u.rank ≡ i) → slice_get vs r ≡ Some x → y.rank ≡ x.rank →
    (i : ℕ) (u : WholeView V K) → slice_get (slice_set vs r y) i ≡ Some u → u.rank ≡ i
own_after vs r x y own has same i u q =
    ⊎_elim (λ p. ap (λ z. z.rank) p.1 ∙ same ∙ own r x has ∙ sym p.0) (λ p. own i u p.1) (get_set_cases vs r i y u q)

-- a lock that readers share gives them to ranks that asked to read; another lock has no reader
reader_mode : (shares : Bool) (m : Mode) → Suits shares m standing.Reader → m ≡ mode.Read
reader_mode false m s = absurd s
reader_mode true m s = s

-- a departure of a writer is one tenure, and nothing else is
departs : (r : ℕ) (st : Standing) (follow : Follow) → leaves r (departure_by r st follow) ≡ tenure_of follow st
departs r st On = refl
departs r st (Ask m) = refl
departs r standing.Out Over = refl
departs r standing.Asking Over = refl
departs r standing.Writer Over = let hit : (r == r) ≡ true = grind (arith, nat_tests) in ap (λ b. count b + 0) hit
departs r standing.Reader Over = refl
departs r standing.Leaving Over = refl

events_leave : (r : ℕ) (touch : Option Bool) (st : Standing) (follow : Follow) → leaves r (work_events r touch st follow) ≡ tenure_of follow st
events_leave r None st follow = departs r st follow
events_leave r (Some w) st follow = departs r st follow

-- of another rank it is none
departs_elsewhere : (i r : ℕ) (st : Standing) (follow : Follow) → i ≢ r → leaves i (departure_by r st follow) ≡ 0
departs_elsewhere i r st On ne = refl
departs_elsewhere i r st (Ask m) ne = refl
departs_elsewhere i r standing.Out Over ne = refl
departs_elsewhere i r standing.Asking Over ne = refl
departs_elsewhere i r standing.Writer Over ne = let miss : (r == i) ≡ false = grind (arith, nat_tests) in ap (λ b. count b + 0) miss
departs_elsewhere i r standing.Reader Over ne = refl
departs_elsewhere i r standing.Leaving Over ne = refl

events_elsewhere : (i r : ℕ) (touch : Option Bool) (st : Standing) (follow : Follow) → i ≢ r → leaves i (work_events r touch st follow) ≡ 0
events_elsewhere i r None st follow ne = departs_elsewhere i r st follow ne
events_elsewhere i r (Some w) st follow ne = departs_elsewhere i r st follow ne

-- the mode of the last ask of a rank, and of another one
mode_here : (modes : List Mode) (r : ℕ) (m : Mode) (follow : Follow) → slice_get modes r ≡ Some m →
    slice_get (modes_after modes r follow) r ≡ Some (mode_after follow m)
mode_here modes r m On e = e
mode_here modes r m (Ask n) e = get_set_same modes r m n e
mode_here modes r m Over e = e

mode_there : (modes : List Mode) (r i : ℕ) (follow : Follow) → i ≢ r → slice_get (modes_after modes r follow) i ≡ slice_get modes i
mode_there modes r i On ne = refl
mode_there modes r i (Ask n) ne = get_set_other modes r i n ne
mode_there modes r i Over ne = refl

-- an atom of the lock leaves of a view what it leaves of the lock's side
pub lock_turned : {V K : Type 0} (L : LockAt V K) (x : WholeView V K) (t : Worked K) (e : Effect) → is_work e ≡ false →
    effect_turned L x t e ≡ whole_turned L x (turned_side L.table x.rank x.side.view (L.table.plan x.side.view) e)
lock_turned L x t effect.Work calm = absurd (cc)
lock_turned L x t (effect.Stay c s) calm = refl
lock_turned L x t (effect.Learn c told lost) calm = refl

-- the numbers and places of the words, by the rule
pub laid_by : {V K : Type 0} (L : LockAt V K) (words : List ℕ) → L.base ≡ lock_base L.work.site → L.work.behind ≡ L.base + L.table.size →
    length words ≡ L.base + L.table.size + L.work.size → L.base + L.table.size + L.work.size < 2 ^ 32 → IsLaid L.work words
laid_by L words base_is behind_is all fits = record { low = omega arith; all = omega arith; fits = omega arith }

-- how a rank stands behind an atom of the work
module _ {V : Type 0} (T : LockTable V) (good : LockState V → Type 0) (further : List Event → List Deed → Type 0) (layout : Layout)
    (laws : LockLaws T good further layout) (v : V) where
  left_stands : (st : Standing) → T.standing v ≡ st → T.standing (left_by T v st) ≡ standing_done st
  left_stands standing.Out e = e
  left_stands standing.Asking e = e
  left_stands standing.Writer e = laws.leave_leaves v (subst IsHolder (sym e) tt)
  left_stands standing.Reader e = laws.leave_leaves v (subst IsHolder (sym e) tt)
  left_stands standing.Leaving e = e

  pub followed_stands : (follow : Follow) → AsksOut follow (T.standing v) → T.standing (followed T v follow) ≡ standing_after follow (T.standing v)
  followed_stands On a = refl
  followed_stands (Ask m) a = laws.ask_asks v m a
  followed_stands Over a = left_stands (T.standing v) refl

module _ (V K : Type 0) (L : LockAt V K) (good : Goods V K) (further : List Event → List Deed → Type 0) (layout : Layout)
    (laws : BothLaws L good further layout) (home : ℕ) where
  long : (n : ℕ) (ws : List ℕ) (w : ℕ) → w < length (take n (drop L.base ws)) → L.base + w < length ws
  long n ws w h = there L.base w ws (omega (arith, length-take n (drop L.base ws)))

  lowers : (n : ℕ) (ws : List ℕ) (w : ℕ) → w < length (take n ws) → w < n
  lowers n ws w h = omega (arith, length-take n ws)

  shift_can : (r : ℕ) (at : Atom) (ws cs : List ℕ) → CanDo (home_at (home_of L.table) at) r at (lock_words L ws) cs →
      CanDo (home_at (home_of_word L home) (shifted L.base at)) r (shifted L.base at) ws cs
  shift_can r (atom.Load w) ws cs c = long L.table.size ws w c
  shift_can r (atom.Store w v) ws cs c = long L.table.size ws w c
  shift_can r (atom.LocalCas w old new) ws cs c = long L.table.size ws w c
  shift_can r (atom.Take n) ws cs c = c
  shift_can r (atom.CardLoad w) ws cs c =
      let low : w < L.table.size = lowers L.table.size (drop L.base ws) w c.0 in (
        long L.table.size ws w c.0,
        subst (λ n. n < length cs) (sym (shift_home L home w low)) c.1,
        subst (λ n. slice_index cs n ≡ r + 1)
            (sym (shift_home L home w low)) c.2,
      )
  shift_can r (atom.CardStore w v) ws cs c =
      let low : w < L.table.size = lowers L.table.size (drop L.base ws) w c.0 in (
        long L.table.size ws w c.0,
        subst (λ n. n < length cs) (sym (shift_home L home w low)) c.1,
        subst (λ n. slice_index cs n ≡ r + 1)
            (sym (shift_home L home w low)) c.2,
      )
  shift_can r (atom.Leave n) ws cs c = c

  module _ (h : TheWindow) (vs : List (WholeView V K)) (g : Good L good layout h vs) where
    abbrev state : SplitState V
    state = split_of L h vs g.modes g.past

    abbrev sides : List (WorkSide K)
    sides = map (work_side L.table) vs

    pub laid : IsLaid L.work h.words
    laid = laid_by L h.words g.base_is g.behind_is g.all_words g.fits

    pub suits_at : (r : ℕ) (x : WholeView V K) → slice_get vs r ≡ Some x → Suits L.table.shares (L.work.mode x.work) (L.table.standing x.side.view)
    suits_at r x has = laws.lock.suits (lock_of state) r x.side.view (L.work.mode x.work) g.lock_part.lock
        (get_map view_of (map side_of vs) r x.side (get_map side_of vs r x has)) (g.asked_as r x has)

    -- the standings are apart
    pub apart : IsApart L.work (map (work_side L.table) vs)
    apart =
        record {
          excludes = λ i j x y hx hy writer holds.
              let p = get_map_back (work_side L.table) vs i x hx in
              let q = get_map_back (work_side L.table) vs j y hy in
              laws.lock.excludes (lock_of state) i j p.0.side.view q.0.side.view g.lock_part.lock
              (get_map view_of (map side_of vs) i p.0.side (get_map side_of vs i p.0 p.1))
              (get_map view_of (map side_of vs) j q.0.side (get_map side_of vs j q.0 q.1))
              (ap (λ z. z.standing) p.2 ∙ writer) (subst (λ z. IsHolder z.standing) (sym q.2) holds);
          reads = λ r x hx reader.
              let p = get_map_back (work_side L.table) vs r x hx in
              ap (λ z. L.work.mode z.work) (sym p.2) ∙ reader_mode L.table.shares (L.work.mode p.0.work)
              (subst (Suits L.table.shares (L.work.mode p.0.work)) (ap (λ z. z.standing) p.2 ∙ reader) (suits_at r p.0 p.1));
        }

    -- the side of a rank's work
    pub work_at : (r : ℕ) (x : WholeView V K) → slice_get vs r ≡ Some x → IsSide L.work good.work h.words (map (work_side L.table) vs) r (work_side L.table x)
    work_at r x has = record { is_good = g.work_part; laid = laid; there = get_map (work_side L.table) vs r x has }

    -- the word of an atom of the lock is one of the lock's
    pub lock_low : (r : ℕ) (x : WholeView V K) → slice_get vs r ≡ Some x → (at : Atom) → side_atom L.table x.side ≡ Some at → IsLow L.table.size at
    lock_low r x has at e =
        can_low L.table.size (home_at (home_of L.table) at) r at (drop L.base h.words) h.cards
        (atom_can V L.table good.lock further layout laws.lock state r x.side at g.lock_part (get_map side_of vs r x has) e)

    -- an atom that leaves this of rank r's view keeps the rule, with its events at the end of the trace
    abbrev Kept : ℕ → Atom → Turned (WholeView V K) → List Deed → Type 0
    Kept r at t ds = (q : Good L good layout (do_atom r at h) (slice_set vs r t.view)) × (q.past ≡ grown g.past t.events ds)

    module _ (r : ℕ) (x : WholeView V K) (has : slice_get vs r ≡ Some x) where
      -- an atom of the lock
      lock_atom_keeps : (at : Atom) → side_atom L.table x.side ≡ Some at →
          Kept r (shifted L.base at) (after_of L x (do_got (shifted L.base at) h.words h.cards))
          (made_deeds L.table x (do_got (shifted L.base at) h.words h.cards))
      lock_atom_keeps at e =
          let low : IsLow L.table.size at = lock_low r x has at e in
          let k : ℕ = do_got (shifted L.base at) h.words h.cards in
          let got : k ≡ do_got at state.words state.cards = lock_got L at h.words h.cards low in
          let named : x.rank ≡ r = g.own r x has in
          let ef : Effect = effect_at (plan_home L.table (L.table.plan x.side.view)) (L.table.plan x.side.view) x.side.card k in
          let calm : is_work ef ≡ false = no_work (plan_home L.table (L.table.plan x.side.view)) (L.table.plan x.side.view) x.side.card k at e in
          let after : after_of L x k ≡ whole_turned L x (side_after L.table x.rank x.side k) = lock_turned L x (L.work.after x.rank x.work k) ef calm in
          let left_of : SideTurned V = side_after L.table x.rank x.side k in
          let y : WholeView V K = (whole_turned L x left_of).view in
          let has_side : slice_get state.sides r ≡ Some x.side = get_map side_of vs r x has in
          let went : left_of ≡ side_after L.table r x.side (do_got at state.words state.cards) =
          ap (λ n. side_after L.table n x.side k) named ∙ ap (side_after L.table r x.side) got in
          let moves : Moves r (L.table.standing x.side.view) (L.table.standing y.side.view) left_of.events =
          subst (λ n. Moves r (L.table.standing x.side.view) (L.table.standing
          (turned_side L.table n x.side.view (L.table.plan x.side.view) ef).side.view)
          (turned_side L.table n x.side.view (L.table.plan x.side.view) ef).events) (sym named)
          (moves_by V L.table good.lock further layout laws.lock state r x.side.view x.side.card k ef g.lock_part has_side refl calm
          (λ b p. got ∙ ap (λ z. do_got z state.words state.cards) (same_Some _ _ (sym e ∙ p)))) in
          let past : Past = (moved L.table state r x.side at).past in
          let trace : past.trace ≡ g.past.trace ++ left_of.events = ap (λ z. g.past.trace ++ z.events) (sym went) in
          let side = work_at r x has in
          let set : good.work h.words (slice_set sides r (work_side L.table y)) =
          ⊎_elim
          (λ q. subst (good.work h.words)
          (sym (ap (λ z. slice_set sides r (record { standing = z; work = x.work })) q.0
          ∙ set_same_get sides r (work_side L.table x) side.there)) g.work_part)
          (λ q. laws.work.shifts h.words sides r (work_side L.table x) (L.table.standing y.side.view) (holds_only left_of.events) side q)
          moves in
          let work : good.work (do_words (shifted L.base at) h.words) (slice_set sides r (work_side L.table y)) =
          laws.work.frame h.words (do_words (shifted L.base at) h.words) (slice_set sides r (work_side L.table y)) set laid
          (same_work L g.base_is g.behind_is at h.words low) in
          let kept : Good L good layout (do_atom r (shifted L.base at) h) (slice_set vs r y) =
          record {
            modes = g.modes;
            past = past;
            lock_part = split_at V L.table good.lock further layout laws.lock (moved L.table state r x.side at)
                (split_of L (do_atom r (shifted L.base at) h) (slice_set vs r y) g.modes past)
                (sym (lock_words_made L at h.words low)) (sym (shift_cards L.base r at h.cards))
                (sym (map_set side_of vs r y ∙ ap (λ z. slice_set (map side_of vs) r z.side) went))
                refl refl
                (atom_keeps V L.table good.lock further layout laws.lock state r x.side at g.lock_part has_side e);
            work_part = subst (good.work (do_words (shifted L.base at) h.words)) (sym (map_set (work_side L.table) vs r y)) work;
            asked_as = λ i u q. ⊎_elim
                (λ p. ap (slice_get g.modes) p.0 ∙ g.asked_as r x has ∙ ap (λ z. Some (L.work.mode z.work)) (sym p.1))
                (λ p. g.asked_as i u p.1)
                (get_set_cases vs r i y u q);
            left_as = λ i u q.
                let same : leaves i past.trace ≡ leaves i g.past.trace = ap (leaves i) trace ∙ leaves_more i g.past.trace left_of.events
                ∙ omega (arith, moves_leaves i r (L.table.standing x.side.view) (L.table.standing y.side.view) left_of.events moves) in
                same ∙ ⊎_elim
                (λ p. ap (λ z. leaves z g.past.trace) p.0 ∙ g.left_as r x has ∙ ap (λ z. count_by (counts L) (L.work.ended z.work)) (sym p.1))
                (λ p. g.left_as i u p.1)
                (get_set_cases vs r i y u q);
            keeps = kept_after L.table vs r y g.keeps (kept_turned L.table x.rank x.side.view k x.kept (L.table.plan x.side.view)
                x.side.card refl (g.keeps r x has));
            own = own_after vs r x y g.own has refl;
            base_is = g.base_is;
            behind_is = g.behind_is;
            all_words = length-do_words (shifted L.base at) h.words ∙ g.all_words;
            fits = g.fits;
            few = subst (λ n. n < 2 ^ 32) (sym (length-set vs r y)) g.few;
          } in
          subst (λ t. Kept r (shifted L.base at) t left_of.deeds) (sym after) (kept, ap (λ z. grown g.past z.events z.deeds) (sym went))

      has_side : slice_get (map side_of vs) r ≡ Some x.side
      has_side = get_map side_of vs r x has

      -- the atom of the work that it makes
      pub works_at : (at : Atom) → Rests (L.table.standing x.side.view) → L.work.next x.rank x.work ≡ Some at →
          Works L.work good.work h.words (map (work_side L.table) vs) r (work_side L.table x) at
      works_at at rests planned = record {
        side = work_at r x has;
        apart = apart;
        rests = rests;
        planned =
            ap (λ n. L.work.next n x.work) (sym (g.own r x has)) ∙ planned;
      }

      -- with no atom of the lock the rank is in no card
      away : side_atom L.table x.side ≡ None → (L.table.plan x.side.view ≡ None) × (x.side.card ≡ Free)
      away none = none_at V L.table good.lock further layout laws.lock (lock_words L h.words) (L.table.plan x.side.view) x.side.card
          (g.lock_part.still r x.side has_side) none

      -- what an atom of the work leaves of a view, with the rank's number
      abbrev turned_as : ℕ → ℕ → Turned (WholeView V K)
      turned_as n got =
          record {
            view = record {
              side = record { view = followed L.table x.side.view (L.work.after n x.work got).follow; card = Free };
              kept =
                  x.kept;
              rank = x.rank;
              work = (L.work.after n x.work got).work;
            };
            events = work_events n (L.work.touch x.work) (L.table.standing x.side.view) (L.work.after n x.work got).follow;
            stepped = (L.work.after n x.work got).stepped;
          }

      work_kept : (at : Atom) → side_atom L.table x.side ≡ None →
          Works L.work good.work h.words (map (work_side L.table) vs) r (work_side L.table x) at →
          Kept r at (turned_as r (do_got at h.words h.cards)) []
      work_kept at none w =
          let k : ℕ = do_got at h.words h.cards in
          let t : Worked K = L.work.after r x.work k in
          let st : Standing = L.table.standing x.side.view in
          let follows = laws.work.follows h.words h.cards sides r (work_side L.table x) at w in
          let on : IsOffLock L r at h.words h.cards = off_lock L g.base_is g.behind_is r at h.words h.cards
          (laws.work.plain h.words sides r (work_side L.table x) at w) in
          let y : WholeView V K = record {
            side = record { view = followed L.table x.side.view t.follow; card = Free };
            kept = x.kept;
            rank = x.rank;
            work = t.work;
          } in
          let stands : side_turned st t ≡ work_side L.table y =
          ap (λ z. record { standing = z; work = t.work }) (sym
          (followed_stands L.table good.lock further layout laws.lock x.side.view t.follow follows.0)) in
          let events : List Event = work_events r (L.work.touch x.work) st t.follow in
          let tenures = laws.work.tenures h.words h.cards sides r (work_side L.table x) at w L.table.shares (suits_at r x has) in (
            record {
              modes = modes_after g.modes r t.follow;
              past = grown g.past events [];
              lock_part = work_keeps V L.table good.lock further layout laws.lock state
                  (split_of L (do_atom r at h) (slice_set vs r y) (modes_after g.modes r t.follow) (grown g.past events []))
                  r x.side (L.work.touch x.work) t.follow g.lock_part has_side none follows.0 on.words on.cards (map_set side_of vs r y) refl refl;
              work_part = subst (good.work (do_words at h.words)) (sym (map_set (work_side L.table) vs r y ∙ ap (slice_set sides r) (sym stands)))
                  (laws.work.makes h.words h.cards sides r (work_side L.table x) at w);
              asked_as = λ i u q. ⊎_elim
                  (λ p. ap (slice_get (modes_after g.modes r t.follow)) p.0
                  ∙ mode_here g.modes r (L.work.mode x.work) t.follow (g.asked_as r x has) ∙ ap (λ m. Some m) (sym follows.1)
                  ∙ ap (λ z. Some (L.work.mode z.work)) (sym p.1))
                  (λ p. mode_there g.modes r i t.follow p.0 ∙ g.asked_as i u p.1)
                  (get_set_cases vs r i y u q);
              left_as = λ i u q. leaves_more i g.past.trace events ∙ ⊎_elim
                  (λ p.
                  let here : leaves i g.past.trace + leaves i events ≡ leaves r g.past.trace + leaves r events =
                  ap (λ z. leaves z g.past.trace + leaves z events) p.0 in
                  here ∙ ap (λ n. n + leaves r events) (g.left_as r x has)
                  ∙ ap (λ n. count_by (counts L) (L.work.ended x.work) + n) (events_leave r (L.work.touch x.work) st t.follow)
                  ∙ sym tenures ∙ ap (λ z. count_by (counts L) (L.work.ended z.work)) (sym p.1))
                  (λ p. ap (λ n. leaves i g.past.trace + n) (events_elsewhere i r (L.work.touch x.work) st t.follow p.0) ∙ omega (arith, g.left_as i u p.1))
                  (get_set_cases vs r i y u q);
              keeps = kept_after L.table vs r y g.keeps tt;
              own = own_after vs r x y g.own has refl;
              base_is = g.base_is;
              behind_is = g.behind_is;
              all_words = length-do_words at h.words ∙ g.all_words;
              fits = g.fits;
              few = subst (λ n. n < 2 ^ 32) (sym (length-set vs r y)) g.few;
            },
            refl,
          )

      work_kept_at : (at : Atom) → side_atom L.table x.side ≡ None → Rests (L.table.standing x.side.view) →
          L.work.next x.rank x.work ≡ Some at → Kept r at (after_of L x (do_got at h.words h.cards))
          (made_deeds L.table x (do_got at h.words h.cards))
      work_kept_at at none rests planned =
          let k : ℕ = do_got at h.words h.cards in
          let named : x.rank ≡ r = g.own r x has in
          let after : after_of L x k ≡ effect_turned L x (L.work.after x.rank x.work k) effect.Work =
          ap (λ p. effect_turned L x (L.work.after x.rank x.work k) (effect_at (plan_home L.table p) p x.side.card k)) (away none).0
          ∙ ap (λ c. effect_turned L x (L.work.after x.rank x.work k) (effect_at (plan_home L.table None) None c k)) (away none).1 in
          let mine : turned_as x.rank k ≡ turned_as r k = ap (λ n. turned_as n k) named in
          let no_deeds : made_deeds L.table x k ≡ [] =
          ap (λ p. (turned_side L.table x.rank x.side.view p (effect_at (plan_home L.table p) p x.side.card k)).deeds) (away none).0
          ∙ ap (λ c. (turned_side L.table x.rank x.side.view None (effect_at (plan_home L.table None) None c k)).deeds) (away none).1 in
          subst (Kept r at (after_of L x k)) (sym no_deeds) (subst (λ t. Kept r at t []) (sym (after ∙ mine)) (work_kept at none (works_at at rests planned)))

      -- no atom of the work is answered as if none was made
      pub work_answers : (at : Atom) → Rests (L.table.standing x.side.view) → L.work.next x.rank x.work ≡ Some at →
          AnswersAs at (do_got at h.words h.cards) (L.work.next x.rank (L.work.after x.rank x.work (do_got at h.words h.cards)).work)
          (L.work.after x.rank x.work (do_got at h.words h.cards)).follow
          (L.work.after x.rank x.work (do_got at h.words h.cards)).stepped
      work_answers at rests planned =
          subst (λ n. AnswersAs at (do_got at h.words h.cards) (L.work.next n (L.work.after n x.work (do_got at h.words h.cards)).work)
          (L.work.after n x.work (do_got at h.words h.cards)).follow (L.work.after n x.work (do_got at h.words h.cards)).stepped)
          (sym (g.own r x has))
          (laws.work.answers h.words h.cards sides r (work_side L.table x) at (works_at at rests planned))

  pub plan_cases : (st : Standing) (next : Option Atom) (at : Atom) → work_plan st next ≡ Some at → Rests st × (next ≡ Some at)
  plan_cases standing.Out next at e = (tt, e)
  plan_cases standing.Asking next at e = absurd (cc)
  plan_cases standing.Writer next at e = (tt, e)
  plan_cases standing.Reader next at e = (tt, e)
  plan_cases standing.Leaving next at e = absurd (cc)

  pub next_cases : (o w : Option Atom) (at : Atom) → lock_or_work L.base o w ≡ Some at →
      ((b : Atom) × (o ≡ Some b) × (shifted L.base b ≡ at)) ⊎ ((o ≡ None) × (w ≡ Some at))
  next_cases (Some b) w at e = inl (b, refl, same_Some _ _ e)
  next_cases None w at e = inr (refl, e)

  -- the atom of a view: one of the lock's, or one of the work
  pub next_either : (x : WholeView V K) (at : Atom) → next_of L x ≡ Some at →
      ((b : Atom) × (side_atom L.table x.side ≡ Some b) × (shifted L.base b ≡ at)) ⊎
      ((side_atom L.table x.side ≡ None) × Rests (L.table.standing x.side.view) × (L.work.next x.rank x.work ≡ Some at))
  next_either x at e =
      ⊎_elim (λ q. inl q) (λ q. let p = plan_cases (L.table.standing x.side.view) (L.work.next x.rank x.work) at q.1 in inr (q.0, p.0, p.1))
      (next_cases (side_atom L.table x.side) (work_plan (L.table.standing x.side.view) (L.work.next x.rank x.work)) at e)

  -- what an atom of the lock leaves of the work
  pub after_lock : (x : WholeView V K) (b at : Atom) (got : ℕ) → side_atom L.table x.side ≡ Some b →
      (x.rank ≡ (after_of L x got).view.rank) × (x.work ≡ (after_of L x got).view.work)
  after_lock x b at got e =
      let ef : Effect = effect_at (plan_home L.table (L.table.plan x.side.view)) (L.table.plan x.side.view) x.side.card got in
      let q = lock_turned L x (L.work.after x.rank x.work got) ef
      (no_work (plan_home L.table (L.table.plan x.side.view)) (L.table.plan x.side.view) x.side.card got b e) in
      (ap (λ t. t.view.rank) (sym q), ap (λ t. t.view.work) (sym q))

  -- and what one of the work leaves of a view
  pub after_work : (h : TheWindow) (vs : List (WholeView V K)) (g : Good L good layout h vs) (r : ℕ) (x : WholeView V K)
      (has : slice_get vs r ≡ Some x) → side_atom L.table x.side ≡ None → (got : ℕ) →
      after_of L x got ≡ work_turned L x (L.work.after x.rank x.work got)
  after_work h vs g r x has none got =
      let q = away h vs g r x has none in
      ap (λ p. effect_turned L x (L.work.after x.rank x.work got) (effect_at (plan_home L.table p) p x.side.card got)) q.0
      ∙ ap (λ c. effect_turned L x (L.work.after x.rank x.work got) (effect_at (plan_home L.table None) None c got)) q.1

  pub keeps_at : (h : TheWindow) (vs : List (WholeView V K)) (r : ℕ) (x : WholeView V K) (at : Atom) (g : Good L good layout h vs) →
      slice_get vs r ≡ Some x → next_of L x ≡ Some at →
      Kept h vs g r at (after_of L x (do_got at h.words h.cards)) (made_deeds L.table x (do_got at h.words h.cards))
  keeps_at h vs r x at g has e =
      ⊎_elim
      (λ q. subst (λ z. Kept h vs g r z (after_of L x (do_got z h.words h.cards)) (made_deeds L.table x (do_got z h.words h.cards))) q.2
      (lock_atom_keeps h vs g r x has q.0 q.1))
      (λ q. work_kept_at h vs g r x has at q.0 q.1 q.2)
      (next_either x at e)

  -- an atom of the work can be made
  work_can : (r n : ℕ) (at : Atom) (ws cs : List ℕ) → IsLaid L.work ws → IsWorkAtom L.work at → CanDo n r at ws cs
  work_can r n (atom.Load w) ws cs l p = let a = l.all in let t = p.there in let there : w < length ws = omega arith in there
  work_can r n (atom.Store w v) ws cs l p = let a = l.all in let t = p.there in let there : w < length ws = omega arith in there
  work_can r n (atom.LocalCas w old new) ws cs l p = absurd p
  work_can r n (atom.Take m) ws cs l p = absurd p
  work_can r n (atom.CardLoad w) ws cs l p = absurd p
  work_can r n (atom.CardStore w v) ws cs l p = absurd p
  work_can r n (atom.Leave m) ws cs l p = absurd p

  can_at : (h : TheWindow) (vs : List (WholeView V K)) (r : ℕ) (x : WholeView V K) (at : Atom) → Good L good layout h vs →
      slice_get vs r ≡ Some x → next_of L x ≡ Some at →
      CanDo (home_at (home_of_word L home) at) r at h.words h.cards
  can_at h vs r x at g has e =
      ⊎_elim
      (λ q. subst (λ z. CanDo (home_at (home_of_word L home) z) r z h.words h.cards) q.2
      (shift_can r q.0 h.words h.cards (atom_can V L.table good.lock further layout laws.lock (split_of L h vs g.modes g.past) r x.side q.0
      g.lock_part (get_map side_of vs r x has) q.1)))
      (λ q. work_can r (home_at (home_of_word L home) at) at h.words h.cards (laid h vs g)
      (laws.work.plain h.words (map (work_side L.table) vs) r (work_side L.table x) at (works_at h vs g r x has at q.1 q.2)))
      (next_either x at e)

  finishes : (h : TheWindow) (vs : List (WholeView V K)) (r : ℕ) (x : WholeView V K) (at : Atom) → Good L good layout h vs →
      slice_get vs r ≡ Some x → next_of L x ≡ Some at →
      effect_at (plan_home L.table (L.table.plan x.side.view)) (L.table.plan x.side.view) x.side.card
      (do_got at h.words h.cards) ≡ effect.Work → (L.work.after x.rank x.work (do_got at h.words h.cards)).stepped ≡ Finished → ⊥
  finishes h vs r x at g has e works is =
      ⊎_elim
      (λ q.
      let calm = no_work (plan_home L.table (L.table.plan x.side.view)) (L.table.plan x.side.view) x.side.card (do_got at h.words h.cards) q.0 q.1 in
      let bad : true ≡ false = sym (ap is_work works) ∙ calm in cc)
      (λ q. subst (AnswersAs at (do_got at h.words h.cards) (L.work.next x.rank
      (L.work.after x.rank x.work (do_got at h.words h.cards)).work) (L.work.after x.rank x.work (do_got at h.words h.cards)).follow) is
      (work_answers h vs g r x has at q.1 q.2))
      (next_either x at e)

  pub whole_laws : CoreLaws (whole_table L home) (Good L good layout)
  whole_laws =
      record {
        sized = λ h vs g. g.all_words;
        can = λ h vs r x at p. can_at h vs r x at p.is_ruled p.has p.planned;
        keeps = λ h vs r x at p small. (keeps_at h vs r x at p.is_ruled p.has p.planned).0;
        goes_on = λ h vs r x at p e. atom_goes_on L x (do_got at h.words h.cards) (finishes h vs r x at p.is_ruled p.has p.planned) e;
      }
