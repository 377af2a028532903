-- The start of a window, and a call that is opened in it: both meet the rule, for every lock and every way of working.
use Rattle.std.specs.Prelude.{◌≡◌, ℕ, zero, suc, ◌+◌, ◌^◌, ◌<◌, Bool, true, false, ◌||◌, List, [], ◌∷◌, ◌++◌, length, map, replicate, take, count_by, slice_get, slice_set, Option, Some, None, is_some, refl}
use Rattle.std.proofs.Common.{sym, ◌∙◌, ap, subst, ⊎_elim, arith, length-set, length-append}
use Rattle.std.proofs.lemmas.List.{length-replicate, length-map, drop_at}
use Rattle.std.proofs.lemmas.Option.{slice_get_within}
use Rattle.rl_word.specs.laws.Places.{get_map, get_map_back, map_set, get_set_same, get_set_other, get_set_cases, set_same_get}
use Rattle.rl_word.specs.Acts.{Layout}
use Rattle.rl_word.specs.declared.classes.Mode.{Mode}
use Rattle.rl_word.specs.declared.classes.Mode.TheVariants as mode
use Rattle.rl_word.specs.declared.acts.Atom.{Atom}
use Rattle.rl_model.specs.declared.call.Call.{Call}
use Rattle.rl_model.specs.Geom.{GeomFits}
use Rattle.rl_step.specs.declared.events.Event.{Event}
use Rattle.rl_step.specs.declared.events.Standing.{Standing}
use Rattle.rl_step.specs.declared.events.Standing.TheVariants.{Out, Asking, Writer, Reader, Leaving}
use Rattle.rl_step.specs.Lock.{Deed, Rests, first_views}
use Rattle.rl_step.specs.Do.{TheWindow}
use Rattle.rl_step.specs.Core.{MayBe}
use Rattle.rl_site.specs.Site.{lock_base}
use Rattle.rl_site.specs.laws.OpeningLaws.{opening_size}
use Rattle.rl_site.specs.Transcript.{TheTranscript}
use Rattle.rl_site.specs.Opens.{IsOpen, opening_words}
use Rattle.rl_work.specs.Ways.{WorkSide, GoesOnAt, IsFirst, IsSide, Takes, opened_mode, opened_standing}
use Rattle.rl_rank.specs.declared.card_state.CardState.{CardState}
use Rattle.rl_rank.specs.declared.card_state.CardState.TheVariants.{Free, InCard, Loaded, ToLeave}
use Rattle.rl_rank.specs.Running.{LockAt, Goods, BothLaws}
use Rattle.rl_rank.specs.Opening.{opened_in, asked_if}
use Rattle.rl_core.specs.ShardTables.{opening_held}
use Rattle.rl_rank.specs.declared.whole.WholeView.{WholeView}
use Rattle.rl_rank.specs.Split.{SplitState, LockGood, card_atom, side_atom, lock_of, view_of}
use Rattle.rl_rank.specs.laws.KeptLaws.{kept_after, kept_free}
use Rattle.rl_rank.specs.laws.SplitLaws.{split_at, none_at}
use Rattle.rl_rank.specs.laws.CallLaws.{opening_good, ask_keeps}
use Rattle.rl_rank.specs.Whole.{side_of, work_side, split_of, lock_words, next_of, lock_or_work, work_plan, is_at_work, is_open, planned_in, counts, leaves, Good}
use Rattle.rl_rank.specs.laws.WholeLaws.{own_after, laid_by, work_at}

none_is : (o : Option Atom) → is_some o ≡ false → o ≡ None
none_is None e = refl
none_is (Some at) e = cc

zeros_taken : (a b : ℕ) → take {A = ℕ} a (replicate (a + b) 0) ≡ replicate a 0
zeros_taken zero b = refl
zeros_taken (suc a) b = let e : suc a + b ≡ suc (a + b) = omega arith in ap (λ n. take {A = ℕ} (suc a) (replicate n 0)) e ∙ ap (λ z. 0 ∷ z) (zeros_taken a b)

nothing_planned : (base : ℕ) (o w : Option Atom) → lock_or_work base o w ≡ None → (o ≡ None) × (w ≡ None)
nothing_planned base (Some at) w e = absurd (cc)
nothing_planned base None w e = (refl, e)

-- a rank without any atom is out, and no block of it is open
none_out : (st : Standing) (b : Bool) (next : Option Atom) → Rests st → GoesOnAt st b next → work_plan st next ≡ None → (st ≡ Out) × (b ≡ false)
none_out Out b next r g e = (refl, sym g ∙ ap is_some e)
none_out Asking b next r g e = absurd r
none_out Writer b next r g e = let bad : true ≡ false = sym g.1 ∙ ap is_some e in cc
none_out Reader b next r g e = let bad : true ≡ false = sym g.1 ∙ ap is_some e in cc
none_out Leaving b next r g e = absurd r

-- the modes of the last asks where a block is opened
abbrev pub asked_modes : List Mode → ℕ → Option Mode → List Mode
asked_modes modes r None = modes
asked_modes modes r (Some m) = slice_set modes r m

asked_here : (modes : List Mode) (r : ℕ) (m : Mode) (o : Option Mode) → slice_get modes r ≡ Some m →
    slice_get (asked_modes modes r o) r ≡ Some (opened_mode o m)
asked_here modes r m None e = e
asked_here modes r m (Some n) e = get_set_same modes r m n e

asked_there : (modes : List Mode) (r i : ℕ) (o : Option Mode) → (i ≡ r → ⊥) → slice_get (asked_modes modes r o) i ≡ slice_get modes i
asked_there modes r i None ne = refl
asked_there modes r i (Some n) ne = get_set_other modes r i n ne

module _ (V K : Type 0) (L : LockAt V K) (good : Goods V K) (further : List Event → List Deed → Type 0) (layout : Layout)
    (laws : BothLaws L good further layout) (home : ℕ) where
  -- a rank's view before its first call
  pub record IsFirstView (r : ℕ) (x : WholeView V K) : Type 0 where
    pub lock : x.side.view ≡ L.table.first r
    pub free : x.side.card ≡ Free
    pub rank : x.rank ≡ r
    pub room : ℕ
    pub work : x.work ≡ L.work.first r room

  lock_views : (from : ℕ) (vs : List (WholeView V K)) → ((r : ℕ) (x : WholeView V K) → slice_get vs r ≡ Some x →
      x.side.view ≡ L.table.first (from + r)) → map view_of (map side_of vs) ≡ first_views L.table.first from (length vs)
  lock_views from [] first = refl
  lock_views from (x ∷ vs) first =
      let here : x.side.view ≡ L.table.first from = first 0 x refl ∙ ap L.table.first (omega arith) in
      let rest : map view_of (map side_of vs) ≡ first_views L.table.first (from + 1) (length vs) =
      lock_views (from + 1) vs (λ r y h. first (suc r) y h ∙ ap L.table.first (omega arith)) in
      ap (λ z. z ∷ map view_of (map side_of vs)) here ∙ ap (λ z. L.table.first from ∷ z) rest

  writes_at : (n r : ℕ) → r < n → slice_get (replicate n mode.Write) r ≡ Some mode.Write
  writes_at zero r h = absurd (omega arith)
  writes_at (suc n) zero h = refl
  writes_at (suc n) (suc r) h = writes_at n r (omega arith)

  first_side : (r : ℕ) (x : WholeView V K) → IsFirstView r x → IsFirst L.work r (work_side L.table x)
  first_side r x f = record { out = ap L.table.standing f.lock ∙ laws.lock.first_out r; room = f.room; work = f.work }

  -- the start meets the rule
  pub opening_rule : GeomFits L.work.site.geom → L.base ≡ lock_base L.work.site → L.work.behind ≡ L.base + L.table.size →
      L.base + L.table.size + L.work.size < 2 ^ 32 → length layout.node_of < 2 ^ 32 → length L.work.site.rooms ≡ length layout.node_of →
      (vs : List (WholeView V K)) → length vs ≡ length layout.node_of → ((r : ℕ) (x : WholeView V K) → slice_get vs r ≡ Some x → IsFirstView r x) →
      (q : Good L good layout (opening_held L.work.site (L.table.size + L.work.size) layout.nodes) vs) × (q.past ≡ record { trace = []; deeds = [] })
  opening_rule fits is behind low few rooms vs all first =
      let n : ℕ = length layout.node_of in
      let size : ℕ = L.table.size + L.work.size in
      let modes : List Mode = replicate n mode.Write in
      let words : List ℕ = opening_words L.work.site ++ replicate size 0 in
      let work : good.work words (map (work_side L.table) vs) =
      laws.work.begins fits size (omega arith) (omega arith) (map (work_side L.table) vs) (length-map vs (work_side L.table) ∙ all ∙ sym rooms)
      (λ r y h. let q = get_map_back (work_side L.table) vs r y h in subst (IsFirst L.work r) q.2 (first_side r q.0 (first r q.0 q.1))) in
      let long : length (opening_words L.work.site) ≡ L.base = opening_size L.work.site ∙ sym is in
      let many : length words ≡ L.base + L.table.size + L.work.size = length-append (opening_words L.work.site) (replicate size 0)
      ∙ omega (arith, length-replicate {A = ℕ} size 0) in
      let lock_is : lock_words L words ≡ replicate L.table.size 0 =
      ap (take L.table.size) (drop_at (opening_words L.work.site) (replicate size 0) L.base long)
      ∙ zeros_taken L.table.size L.work.size in
      let laid = laid_by L words is behind many low in
      let s : SplitState V = record {
        words = replicate L.table.size 0;
        cards = replicate layout.nodes 0;
        sides = map side_of vs;
        modes =
            modes;
        past = record { trace = []; deeds = [] };
      } in (
        record {
          modes = modes;
          past = record { trace = []; deeds = [] };
          lock_part = split_at V L.table good.lock further layout laws.lock s
              (split_of L (opening_held L.work.site size layout.nodes) vs modes (record { trace = []; deeds = [] }))
              (sym lock_is) refl refl refl refl
              (opening_good V L.table good.lock further layout laws.lock (map side_of vs)
              (lock_views 0 vs (λ r x h. (first r x h).lock ∙ ap L.table.first (omega arith)) ∙ ap (first_views L.table.first 0) all)
              (λ r y h. let q = get_map_back side_of vs r y h in ap (λ z. z.card) (sym q.2) ∙ (first r q.0 q.1).free));
          work_part = work;
          asked_as = λ r x h. let f = first r x h in
              writes_at n r (let w = slice_get_within vs r x h in omega arith) ∙ ap (λ m. Some m) (sym (ap L.work.mode f.work ∙ (laws.work.first r f.room).1));
          left_as = λ r x h.
              let f = first r x h in
              let shut : L.work.is_open x.work ≡ false = ap L.work.is_open f.work ∙ (laws.work.first r f.room).2 in
              let side : IsSide L.work good.work words (map (work_side L.table) vs) r (work_side L.table x) =
              record { is_good = work; laid = laid; there = get_map (work_side L.table) vs r x h } in
              let none : L.work.ended x.work ≡ [] =
              (laws.work.closed words (map (work_side L.table) vs) r (work_side L.table x) side shut).1
              ∙ ap (λ z. (L.work.kept z).items) f.work ∙ ap (λ (z : TheTranscript). z.items) (laws.work.first r f.room).0 in
              ap (count_by (counts L)) (sym none);
          keeps = λ r x h. kept_free x.side.card (planned_in L.table x) x.kept (first r x h).free;
          own = λ r x h. (first r x h).rank;
          base_is = is;
          behind_is = behind;
          all_words = many;
          fits = low;
          few = omega arith;
        },
        refl,
      )

  -- where the machine has no atom the rank is out and in no card, and no block of it is open
  module _ (h : TheWindow) (vs : List (WholeView V K)) (r : ℕ) (x : WholeView V K) (g : Good L good layout h vs) (has : slice_get vs r ≡ Some x) where
    here : slice_get (map side_of vs) r ≡ Some x.side
    here = get_map side_of vs r x has

    goes_on : GoesOnAt (L.table.standing x.side.view) (L.work.is_open x.work) (L.work.next x.rank x.work)
    goes_on =
        subst (λ n. GoesOnAt (L.table.standing x.side.view) (L.work.is_open x.work) (L.work.next n x.work)) (sym (g.own r x has))
        (laws.work.goes_on h.words (map (work_side L.table) vs) r (work_side L.table x) (work_at V K L good further layout laws home h vs g r x has))

    pub closed_parts : next_of L x ≡ None → (L.table.standing x.side.view ≡ Out) × (x.side.card ≡ Free) × (L.work.is_open x.work ≡ false)
    closed_parts e =
        let none = nothing_planned L.base (side_atom L.table x.side) (work_plan (L.table.standing x.side.view) (L.work.next x.rank x.work)) e in
        let away : (L.table.plan x.side.view ≡ None) × (x.side.card ≡ Free) =
        none_at V L.table good.lock further layout laws.lock (lock_words L h.words) (L.table.plan x.side.view) x.side.card
        (g.lock_part.still r x.side here) none.0 in
        let rests : Rests (L.table.standing x.side.view) =
        (laws.lock.rests (lock_of (split_of L h vs g.modes g.past)) r x.side.view g.lock_part.lock
        (get_map view_of (map side_of vs) r x.side here)).0 away.0 in
        let out = none_out (L.table.standing x.side.view) (L.work.is_open x.work) (L.work.next x.rank x.work) rests goes_on none.1 in
        (out.0, away.1, out.1)

    out_is_closed : L.table.standing x.side.view ≡ Out → x.side.card ≡ Free → L.work.is_open x.work ≡ false → next_of L x ≡ None
    out_is_closed out free shut =
        let plans : L.table.plan x.side.view ≡ None =
        (laws.lock.rests (lock_of (split_of L h vs g.modes g.past)) r x.side.view g.lock_part.lock
        (get_map view_of (map side_of vs) r x.side here)).1 (subst Rests (sym out) tt) in
        let open_is : is_some (L.work.next x.rank x.work) ≡ L.work.is_open x.work =
        subst (λ st. GoesOnAt st (L.work.is_open x.work) (L.work.next x.rank x.work)) out goes_on in
        let no_next : L.work.next x.rank x.work ≡ None = none_is (L.work.next x.rank x.work) (open_is ∙ shut) in
        ap (λ st. lock_or_work L.base (side_atom L.table x.side) (work_plan st (L.work.next x.rank x.work))) out
        ∙ ap (λ n. lock_or_work L.base (side_atom L.table x.side) n) no_next
        ∙ ap (λ p. lock_or_work L.base (card_atom L.table p x.side.card) None) plans ∙ ap (λ c. lock_or_work L.base (card_atom L.table None c) None) free

    -- opening a call where none is open keeps the rule, and the rank was out
    module _ (c : List Call) (seq : ℕ) (e : next_of L x ≡ None) (o : IsOpen L.work.site r c seq (L.work.kept x.work)) (takes : Takes L.work c) where
      parts : (L.table.standing x.side.view ≡ Out) × (x.side.card ≡ Free) × (L.work.is_open x.work ≡ false)
      parts = closed_parts e

      abbrev opens : K
      opens = L.work.opens x.rank x.work c seq

      abbrev opened_by : Option Mode → WholeView V K
      opened_by m = record { side = record { view = asked_if L.table x.side.view m; card = x.side.card }; kept = x.kept; rank = x.rank; work = opens }

      asked_part : (m : Option Mode) → LockGood L.table good.lock layout (split_of L h (slice_set vs r (opened_by m)) (asked_modes g.modes r m) g.past)
      asked_part None =
          split_at V L.table good.lock further layout laws.lock (split_of L h vs g.modes g.past) (split_of L h (slice_set vs r (opened_by None)) g.modes g.past)
          refl refl (sym (map_set side_of vs r (opened_by None) ∙ set_same_get (map side_of vs) r x.side here)) refl refl g.lock_part
      asked_part (Some m) =
          ask_keeps V L.table good.lock further layout laws.lock (split_of L h vs g.modes g.past)
          (split_of L h (slice_set vs r (opened_by (Some m))) (slice_set g.modes r m) g.past) r x.side m g.lock_part here parts.1
          parts.0
          refl refl (map_set side_of vs r (opened_by (Some m)) ∙ ap
          (λ k. slice_set (map side_of vs) r (record { view = L.table.ask x.side.view m; card = k })) parts.1) refl refl

      asked_stands : (m : Option Mode) → L.table.standing (asked_if L.table x.side.view m) ≡ opened_standing m
      asked_stands None = parts.0
      asked_stands (Some m) = laws.lock.ask_asks x.side.view m parts.0

      pub open_keeps : (q : Good L good layout h (slice_set vs r (opened_in L c seq x))) × (q.past ≡ g.past) × (L.table.standing x.side.view ≡ Out)
      open_keeps =
          let m : Option Mode = L.work.asks c in
          let y : WholeView V K = opened_in L c seq x in
          let sides : List (WorkSide K) = map (work_side L.table) vs in
          let named : x.rank ≡ r = g.own r x has in
          let at = work_at V K L good further layout laws home h vs g r x has in
          let opened = laws.work.opened h.words sides r (work_side L.table x) c seq at parts.0 parts.2 o takes in
          let same : L.work.opens r x.work c seq ≡ opens = ap (λ n. L.work.opens n x.work c seq) (sym named) in
          let stands : record { standing = opened_standing m; work = L.work.opens r x.work c seq } ≡ work_side L.table y =
          ap (λ z. record { standing = opened_standing m; work = z }) same ∙ ap (λ st. record { standing = st; work = opens }) (sym (asked_stands m)) in (
            record {
              modes = asked_modes g.modes r m;
              past = g.past;
              lock_part = asked_part m;
              work_part = subst (good.work h.words) (sym (map_set (work_side L.table) vs r y ∙ ap (slice_set sides r) (sym stands)))
                  (laws.work.opens h.words sides r (work_side L.table x) c seq at parts.0 parts.2 o takes);
              asked_as = λ i u q. ⊎_elim
                  (λ p. ap (slice_get (asked_modes g.modes r m)) p.0 ∙ asked_here g.modes r (L.work.mode x.work) m (g.asked_as r x has)
                  ∙ ap (λ z. Some z) (sym opened.4) ∙ ap (λ z. Some (L.work.mode z)) same
                  ∙ ap (λ z. Some (L.work.mode z.work)) (sym p.1))
                  (λ p. asked_there g.modes r i m p.0 ∙ g.asked_as i u p.1)
                  (get_set_cases vs r i y u q);
              left_as = λ i u q. ⊎_elim
                  (λ p. ap (λ z. leaves z g.past.trace) p.0 ∙ g.left_as r x has ∙ ap (count_by (counts L)) (sym opened.3)
                  ∙ ap (λ z. count_by (counts L) (L.work.ended z)) same ∙ ap (λ z. count_by (counts L) (L.work.ended z.work)) (sym p.1))
                  (λ p. g.left_as i u p.1)
                  (get_set_cases vs r i y u q);
              keeps = kept_after L.table vs r y g.keeps (kept_free x.side.card (planned_in L.table y) x.kept parts.1);
              own = own_after vs r x y g.own has refl;
              base_is = g.base_is;
              behind_is = g.behind_is;
              all_words = g.all_words;
              fits = g.fits;
              few = subst (λ n. n < 2 ^ 32) (sym (length-set vs r y)) g.few;
            },
            refl,
            parts.0,
          )

  pub closed_is_out : (x : WholeView V K) → MayBe (Good L good layout) x → next_of L x ≡ None → L.table.standing x.side.view ≡ Out
  closed_is_out x m e = (closed_parts m.held m.views m.rank x m.is_ruled m.has e).0

  -- and no block is open, as far as the work goes
  pub closed_work : (x : WholeView V K) → MayBe (Good L good layout) x → next_of L x ≡ None → L.work.is_open x.work ≡ false
  closed_work x m e = (closed_parts m.held m.views m.rank x m.is_ruled m.has e).2

  -- so a call is open exactly where the rank isn't out or is in a card, or its block is open
  open_either : (st : Standing) (c : CardState) (w : Bool) (o : Option Atom) → (o ≡ None → (st ≡ Out) × (c ≡ Free) × (w ≡ false)) →
      (st ≡ Out → c ≡ Free → w ≡ false → o ≡ None) → (is_at_work st c || w) ≡ is_some o
  open_either st c w None none closed = let p = none refl in ap (λ z. is_at_work z c || w) p.0 ∙ ap (λ z. is_at_work Out z || w) p.1 ∙ p.2
  open_either Out Free false (Some at) none closed = absurd (let bad : Some at ≡ None = closed refl refl refl in cc)
  open_either Out Free true (Some at) none closed = refl
  open_either Out InCard w (Some at) none closed = refl
  open_either Out (Loaded v) w (Some at) none closed = refl
  open_either Out (ToLeave n) w (Some at) none closed = refl
  open_either Asking c w (Some at) none closed = refl
  open_either Writer c w (Some at) none closed = refl
  open_either Reader c w (Some at) none closed = refl
  open_either Leaving c w (Some at) none closed = refl

  pub open_is : (x : WholeView V K) → MayBe (Good L good layout) x → is_open L x ≡ is_some (next_of L x)
  open_is x m =
      open_either (L.table.standing x.side.view) x.side.card (L.work.is_open x.work) (next_of L x)
      (closed_parts m.held m.views m.rank x m.is_ruled m.has) (out_is_closed m.held m.views m.rank x m.is_ruled m.has)

  -- and none is exactly where there is no atom
  pub shut_is_none : (x : WholeView V K) → MayBe (Good L good layout) x → is_open L x ≡ false → next_of L x ≡ None
  shut_is_none x m e = none_is (next_of L x) (sym (open_is x m) ∙ e)

  pub none_is_shut : (x : WholeView V K) → MayBe (Good L good layout) x → next_of L x ≡ None → is_open L x ≡ false
  none_is_shut x m e = open_is x m ∙ ap is_some e
