-- A rank's machine over any lock and any way of working keeps the laws of one.
use Rattle.std.specs.Prelude.{◌≡◌, ◌↔◌, ℕ, zero, suc, ◌+◌, ◌-◌, ◌==◌, ◌^◌, ◌<◌, ◌≤◌, Bool, true, false, List, [], ◌∷◌, ◌++◌, count_by, length, map, take, drop, slice_get, slice_index, slice_set, Option, Some, None, refl}
use Rattle.std.specs.FinMap as finite
use Rattle.std.proofs.Common.{sym, ◌∙◌, ap, subst, ⊎_elim, inl, inr, arith, length-set}
use Rattle.std.proofs.lemmas.List.{length-map, drop-take, take-take}
use Rattle.std.proofs.lemmas.Option.{same_Some, slice_get_within}
use Rattle.rl_word.specs.laws.Places.{get_map, get_map_back, get_set_cases, map_set}
use Rattle.rl_word.specs.Acts.{Layout, word_of, by_card}
use Rattle.rl_word.specs.Shapes.{TheShape}
use Rattle.rl_word.specs.declared.shapes.Knobs.{Knobs}
use Rattle.rl_word.specs.declared.acts.Act.{Act}
use Rattle.rl_word.specs.declared.acts.Act.TheVariants as act
use Rattle.rl_word.specs.declared.acts.Atom.{Atom}
use Rattle.rl_word.specs.declared.acts.Atom.TheVariants as atom
use Rattle.rl_model.specs.declared.call.Call.{Call}
use Rattle.rl_model.specs.Geom.{GeomFits}
use Rattle.rl_journal.specs.Legal.{IsLegal, table_after}
use Rattle.rl_journal.specs.History.{history, IsSorted}
use Rattle.rl_volume.specs.Words.{volume_words}
use Rattle.rl_volume.specs.Volume.{IsVolume}
use Rattle.rl_step.specs.declared.events.Event.{Event}
use Rattle.rl_step.specs.declared.events.Standing.{Standing}
use Rattle.rl_step.specs.declared.events.Standing.TheVariants.{Out, Asking, Writer, Reader, Leaving}
use Rattle.rl_step.specs.declared.events.Stepped.TheVariants.{Busy}
use Rattle.rl_step.specs.Core.{MayBe, Turned}
use Rattle.rl_step.specs.Do.{TheWindow, do_atom, do_got}
use Rattle.rl_step.specs.Exclusion.{writers, readers, writers_of, readers_of, nobody}
use Rattle.rl_step.specs.laws.ExclusionLaws.{exclusive_append, writers_append, readers_append, is_exclusive, is_writer, writer_found, is_reader, reader_found}
use Rattle.rl_step.specs.Lock.{IsHolder, LockTable, LockState, Deed, AllOut, Rests}
use Rattle.rl_step.specs.Queues.{IsFifo, settled, passed, tenures}
use Rattle.rl_step.specs.laws.QueueLemmas.{within_bound}
use Rattle.rl_step.specs.QueuePromises.{KeepQueues, KeepBudgets, CountTenures}
use Rattle.rl_site.specs.Site.{Site, lock_base, places, volume_of}
use Rattle.rl_work.specs.Ways.{WorkSide, WorkTable, GoesOnAt, transcripts_from}
use Rattle.rl_core.specs.Domains.{IsLocalAct}
use Rattle.rl_core.specs.Idle.{IsIdle}
use Rattle.rl_core.specs.EventRanks.{AreByRanks}
use Rattle.rl_core.specs.Standings.{AloneIn, leaves}
use Rattle.rl_core.specs.ShardTables.{ShardTable, first_views, journal_at, kept_in}
use Rattle.rl_core.specs.Moments.{Moment, CoreSays, first_moment, after_atom, after_opening}
use Rattle.rl_core.specs.ShardLaws.{IsLaidAtSite, IsSeated, IsNext, MayBegin, MayOpen, ShardCoreLaws}
use Rattle.rl_rank.specs.declared.card_state.CardState.{CardState}
use Rattle.rl_rank.specs.declared.card_state.CardState.TheVariants.{Free, InCard, Loaded, ToLeave}
use Rattle.rl_rank.specs.declared.whole.WholeView.{WholeView}
use Rattle.rl_rank.specs.Running.{LockAt, Goods, BothLaws, lock_with, kinds}
use Rattle.rl_rank.specs.Opening.{first_view, opened_in}
use Rattle.rl_rank.specs.Split.{lock_of, view_of, home_of, first_at, card_atom, side_atom}
use Rattle.rl_rank.specs.Whole.{side_of, work_side, split_of, is_open, next_of, after_of, counts, made_deeds, Good}
use Rattle.rl_rank.specs.laws.WholeLaws.{keeps_at, laid, next_either, after_lock, after_work, work_at, works_at}
use Rattle.rl_rank.specs.laws.OpenLaws.{IsFirstView, opening_rule, open_keeps, shut_is_none, none_is_shut, closed_is_out, closed_parts, closed_work}
use Rattle.rl_rank.specs.Holders.{Match}
use Rattle.rl_rank.specs.laws.Changes.{Change, Goes, goes}
use Rattle.rl_rank.specs.laws.StandLaws.{atom_change, alone_in, asked_change}
use Rattle.rl_rank.specs.laws.DeskLaws.{first_is_new, told_is, own_is, settled_is, told_opens, own_opens, own_turns, told_turns}
use Rattle.rl_rank.specs.laws.GuardLaws.{guarded}
use Rattle.rl_rank.specs.laws.ActLaws.{acts_shown}
use Rattle.rl_rank.specs.laws.Domains.{next_card_allowed, next_local_allowed}
use Rattle.rl_rank.specs.laws.IdleLaws.{held_idle}
use Rattle.rl_rank.specs.Causes.{Cause}
use Rattle.rl_rank.specs.laws.CauseLaws.{answer_cause, work_no_take}
use Rattle.rl_rank.specs.laws.AnswerAtoms.{cause_answers}
use Rattle.rl_rank.specs.WholeShards.{stand, standing_while, stand_on, IsDoneInCard, whole_shard, WholeGood, whole_says}
use Rattle.rl_rank.specs.laws.Events.{all_named, atom_events}
use Rattle.rl_rank.specs.laws.EventsBy.{by_ranks_more, change_by}
use Rattle.rl_rank.specs.laws.Alone.{unhindered, take_unshifted}

-- as it is defined its words lie by the site
pub laid_with : {V K : Type 0} (lock : TheShape → ℕ → Knobs → LockTable V) (work : TheShape → ℕ → Site → ℕ → WorkTable K) →
    ((shape : TheShape) (home : ℕ) (site : Site) (behind : ℕ) → ((work shape home site behind).site ≡ site) × ((work shape home site behind).behind ≡ behind)) →
    (shape : TheShape) (home : ℕ) (knobs : Knobs) (site : Site) → IsLaidAtSite (whole_shard (lock_with (kinds lock work shape home knobs) site) home) site
laid_with lock work placed shape home knobs site =
    let p = placed shape home site (lock_base site + (lock shape home knobs).size) in
    record { site_is = p.0; words_are = omega arith; own_last = let b = p.1 in omega arith }

-- the first views, one by one
first_one : {V K : Type 0} (L : LockAt V K) (home from : ℕ) (rooms : List ℕ) (r : ℕ) (x : WholeView V K) →
    slice_get (first_views (whole_shard L home) from rooms) r ≡ Some x → x ≡ first_view L (slice_index rooms r) (from + r)
first_one L home from [] r x e = absurd (cc)
first_one L home from (room ∷ rooms) zero x e = sym (same_Some _ _ e) ∙ (let at : from ≡ from + 0 = omega arith in ap (first_view L room) at)
first_one L home from (room ∷ rooms) (suc r) x e = first_one L home (from + 1) rooms r x e
    ∙ (let at : (from + 1) + r ≡ from + suc r = omega arith in ap (first_view L (slice_index rooms r)) at)

firsts_long : {V K : Type 0} (L : LockAt V K) (home from : ℕ) (rooms : List ℕ) → length (first_views (whole_shard L home) from rooms) ≡ length rooms
firsts_long L home from [] = refl
firsts_long L home from (room ∷ rooms) = ap suc (firsts_long L home (from + 1) rooms)

-- the entries of the ranks are their transcripts
kept_all : {V K : Type 0} (L : LockAt V K) (home : ℕ) (words : List ℕ) (r : ℕ) (vs : List (WholeView V K)) →
    kept_in (whole_shard L home) words r vs ≡ transcripts_from L.work words r (map (work_side L.table) vs)
kept_all L home words r [] = refl
kept_all L home words r (x ∷ vs) = ap (λ z. L.work.transcript words r x.work ∷ z) (kept_all L home words (r + 1) vs)

-- the volume lies before the lock's words
volume_before : (n b : ℕ) (words : List ℕ) → 2 + n ≤ b → take n (drop 2 (take b words)) ≡ take n (drop 2 words)
volume_before n b words h =
    let split : b ≡ 2 + (b - 2) = omega arith in
    ap (λ k. take n (drop 2 (take k words))) split ∙ ap (take n) (drop-take 2 (b - 2) words) ∙ take-take n (b - 2) (drop 2 words) (omega arith)

-- a lock's act that begins with a Take
record BeginsTake {V : Type 0} (T : LockTable V) (p : Option Act) (c : CardState) (node : ℕ) : Type 0 where
  a : Act
  planned : p ≡ Some a
  free : c ≡ Free
  card : by_card a ≡ true
  at_home : home_of T (word_of a) ≡ node

take_first : {V : Type 0} (T : LockTable V) (node home : ℕ) (a : Act) → first_at home a ≡ atom.Take node → (by_card a ≡ true) × (home ≡ node)
take_first T node home (act.Load w) e = absurd (cc)
take_first T node home (act.Store w v) e = absurd (cc)
take_first T node home (act.LocalCas w old new) e = absurd (cc)
take_first T node home (act.CardCas w old new) e = (refl, cc)
take_first T node home (act.CardSwap w v) e = (refl, cc)
take_first T node home (act.CardAdd w d) e = (refl, cc)

takes_card : {V : Type 0} (T : LockTable V) (p : Option Act) (c : CardState) (node : ℕ) → card_atom T p c ≡ Some (atom.Take node) → BeginsTake T p c node
takes_card T p (ToLeave n) node e = absurd (cc)
takes_card T None Free node e = absurd (cc)
takes_card T None InCard node e = absurd (cc)
takes_card T None (Loaded g) node e = absurd (cc)
takes_card T (Some a) Free node e = let q = take_first T node (home_of T (word_of a)) a (same_Some _ _ e) in
    record { a = a; planned = refl; free = refl; card = q.0; at_home = q.1 }
takes_card T (Some a) InCard node e = absurd (cc)
takes_card T (Some a) (Loaded g) node e = absurd (cc)

module _ (V K : Type 0) (L : LockAt V K) (good : Goods V K) (further : List Event → List Deed → Type 0) (layout : Layout)
    (laws : BothLaws L good further layout) (home : ℕ) where
  abbrev T : ShardTable (WholeView V K)
  T = whole_shard L home

  abbrev S : CoreSays (WholeView V K)
  S = whole_says L good further layout home

  abbrev G : Moment (WholeView V K) → Type 0
  G = WholeGood L good layout

  abbrev locked : (h : TheWindow) (vs : List (WholeView V K)) → Good L good layout h vs → LockState V
  locked h vs g = lock_of (split_of L h vs g.modes g.past)

  may : (m : Moment (WholeView V K)) (r : ℕ) (x : WholeView V K) → IsSeated S m r x → MayBe (Good L good layout) x
  may m r x s = record { held = m.held; views = m.views; rank = r; is_ruled = s.is_good.rule; has = s.has }

  few_behind : length L.work.site.rooms ≤ 32 → L.table.size + L.work.size ≤ 2 ^ 17
  few_behind few = let a = laws.lock.few_words in let b = laws.work.few_words few in omega arith

  all_words : (m : Moment (WholeView V K)) → G m → length m.held.words ≡ lock_base L.work.site + (L.table.size + L.work.size)
  all_words m g = let all = g.rule.all_words in let base = g.rule.base_is in omega arith

  all_fit : (m : Moment (WholeView V K)) → G m → lock_base L.work.site + (L.table.size + L.work.size) < 2 ^ 32
  all_fit m g = let fits = g.rule.fits in let base = g.rule.base_is in omega arith

  all_ranks : (m : Moment (WholeView V K)) → G m → length m.views ≡ length layout.node_of
  all_ranks m g = sym (length-map m.views side_of) ∙ sym (length-map (map side_of m.views) view_of)
      ∙ (laws.lock.sized (locked m.held m.views g.rule) g.rule.lock_part.lock).1

  sizes : (m : Moment (WholeView V K)) → G m → GeomFits L.work.site.geom
  sizes m g = (laws.work.fits m.held.words (map (work_side L.table) m.views) g.rule.work_part).0

  -- ---- what keeps it good

  begins : (rooms : List ℕ) → MayBegin S rooms → G (first_moment T layout.nodes rooms)
  begins rooms b =
      let base : L.base ≡ lock_base L.work.site = let w = b.laid.words_are in omega arith in
      let behind : L.work.behind ≡ L.base + L.table.size = let o = b.laid.own_last in omega arith in
      let vs : List (WholeView V K) = first_views T 0 rooms in
      let view : (r : ℕ) (x : WholeView V K) → slice_get vs r ≡ Some x → IsFirstView V K L good further layout laws home r x = λ r x e.
      let x_is : x ≡ first_view L (slice_index rooms r) (0 + r) = first_one L home 0 rooms r x e in
      let at : 0 + r ≡ r = omega arith in
      subst (IsFirstView V K L good further layout laws home r) (sym (x_is ∙ ap (first_view L (slice_index rooms r)) at))
      (record { lock = refl; free = refl; rank = refl; room = slice_index rooms r; work = refl }) in
      let small : L.base + L.table.size + L.work.size < 2 ^ 32 = let low = b.small in omega arith in
      let q = opening_rule V K L good further layout laws home b.fits base behind small b.few b.updates vs (firsts_long L home 0 rooms ∙ b.entries) view in
      let out : (k : ℕ) (st : Standing) → slice_get (map (stand L.table) vs) k ≡ Some st → st ≡ Out = λ k st e.
      let x = get_map_back (stand L.table) vs k st e in
      sym x.2 ∙ ap (stand L.table) (first_one L home 0 rooms k x.0 x.1) ∙ laws.lock.first_out (0 + k) in
      record {
        rule = q.0;
        same = ap (λ z. z.trace) q.1;
        made = ap (λ z. z.deeds) q.1;
        match = record {
          writes = λ k e. cc;
          writer = λ k e. let bad : Writer ≡ Out = out k Writer e in cc;
          reads = λ k e. cc;
          reader = λ k e. let bad : Reader ≡ Out = out k Reader e in cc;
        };
        exclusive = record { one = λ i j p e. cc; none = λ i j p e. cc };
        named = tt;
        by_ranks = tt;
        done = λ r x e o. inl (ap (λ (z : WholeView V K). z.side.card) (first_one L home 0 rooms r x e));
      }

  -- a rank comes out of the lock only from leaving it, where its block is over
  shut_by : (r : ℕ) (st : Standing) (b : Bool) (next : Option Atom) (es : List Event) → Change r st Out es → GoesOnAt st b next →
      (st ≡ Out → b ≡ false) → b ≡ false
  shut_by r Out b next es c at out = out refl
  shut_by r Asking b next es c at out = absurd c
  shut_by r Writer b next es c at out = absurd c
  shut_by r Reader b next es c at out = absurd c
  shut_by r Leaving b next es c at out = at

  -- so who is only in a card yet stays done
  done_after : (m : Moment (WholeView V K)) (r : ℕ) (x : WholeView V K) (at : Atom) → IsNext S m r x at →
      IsDoneInCard L (after_of L x (do_got at m.held.words m.held.cards)).view
  done_after m r x at n out =
      let s = n.seated in
      let e = n.next in
      let g = s.is_good in
      let got : ℕ = do_got at m.held.words m.held.cards in
      let es : List Event = (after_of L x got).events in
      ⊎_elim
      (λ q.
      let planned_none : stand L.table x ≡ Out → L.table.plan x.side.view ≡ None = λ was.
      (laws.lock.rests (locked m.held m.views g.rule) r x.side.view g.rule.lock_part.lock
      (get_map view_of (map side_of m.views) r x.side (get_map side_of m.views r x s.has))).1 (subst Rests (sym was) tt) in
      let was_shut : stand L.table x ≡ Out → L.work.is_open x.work ≡ false = λ was. ⊎_elim
      (λ free.
      let none : side_atom L.table x.side ≡ None = ap (λ p. card_atom L.table p x.side.card) (planned_none was) ∙ ap (card_atom L.table None) free in
      let some = q.1 in
      absurd (cc))
      (λ shut. shut)
      (g.done r x s.has was) in
      let same : x.work ≡ (after_of L x got).view.work = (after_lock V K L good further layout laws home x q.0 at got q.1).1 in
      inr (ap L.work.is_open (sym same)
      ∙ shut_by r (stand L.table x) (L.work.is_open x.work) (L.work.next r x.work) es
      (subst (λ z. Change r (stand L.table x) z es) out (atom_change V K L good further layout laws home m.held m.views r x at g.rule s.has e))
      (laws.work.goes_on m.held.words (map (work_side L.table) m.views) r (work_side L.table x)
      (work_at V K L good further layout laws home m.held m.views g.rule r x s.has)) was_shut))
      (λ q. inl (ap (λ (z : Turned (WholeView V K)). z.view.side.card)
      (after_work V K L good further layout laws home m.held m.views g.rule r x s.has q.0 got)))
      (next_either V K L good further layout laws home x at e)

  done_set : (vs : List (WholeView V K)) (r : ℕ) (y : WholeView V K) →
      ((i : ℕ) (u : WholeView V K) → slice_get vs i ≡ Some u → IsDoneInCard L u) → IsDoneInCard L y → (i : ℕ) (u : WholeView V K) →
      slice_get (slice_set vs r y) i ≡ Some u → IsDoneInCard L u
  done_set vs r y done here i u e = ⊎_elim (λ q. subst (IsDoneInCard L) (sym q.1) here) (λ q. done i u q.1) (get_set_cases vs r i y u e)

  atom_keeps : (m : Moment (WholeView V K)) (r : ℕ) (x : WholeView V K) (at : Atom) → IsNext S m r x at → G (after_atom T m r x at)
  atom_keeps m r x at n =
      let s = n.seated in
      let e = n.next in
      let g = s.is_good in
      let y : WholeView V K = (after_of L x (do_got at m.held.words m.held.cards)).view in
      let es : List Event = (after_of L x (do_got at m.held.words m.held.cards)).events in
      let q = keeps_at V K L good further layout laws home m.held m.views r x at g.rule s.has e in
      let went : Goes (writers_of nobody m.trace) (readers_of nobody m.trace) es (slice_set (map (stand L.table) m.views) r (stand L.table y)) =
      goes (writers_of nobody m.trace) (readers_of nobody m.trace) (map (stand L.table) m.views) r (stand L.table x)
      (stand L.table y) es g.match (alone_in V K L good further layout laws home m.held m.views g.rule)
      (subst AloneIn (map_set (stand L.table) m.views r y) (alone_in V K L good further layout laws home (do_atom r at m.held) (slice_set m.views r y) q.0))
      (get_map (stand L.table) m.views r x s.has) (atom_change V K L good further layout laws home m.held m.views r x at g.rule s.has e) in
      record {
        rule = q.0;
        same = ap (λ z. z.trace) q.1 ∙ ap (λ z. z ++ es) g.same;
        made = ap (λ z. z.deeds) q.1 ∙ ap (λ z. z ++ made_deeds L.table x (do_got at m.held.words m.held.cards)) g.made;
        match = subst (λ z. Match z (readers_of nobody (m.trace ++ es)) (map (stand L.table) (slice_set m.views r y))) (sym (writers_append nobody m.trace es))
            (subst (λ z. Match (writers_of (writers_of nobody m.trace) es) z (map (stand L.table) (slice_set m.views r y)))
            (sym (readers_append nobody m.trace es))
            (subst (Match (writers_of (writers_of nobody m.trace) es) (readers_of (readers_of nobody m.trace) es))
            (sym (map_set (stand L.table) m.views r y)) went.match));
        exclusive = exclusive_append nobody nobody m.trace es g.exclusive went.exclusive;
        named = all_named L.table.queues L.table.cohort m.trace es g.named
            (atom_events V K L good further layout laws home m.held m.views r x at g.rule s.has e).named;
        by_ranks = subst (λ n. AreByRanks n (m.trace ++ es)) (sym (length-set m.views r y))
            (by_ranks_more (length m.views) m.trace es g.by_ranks
            (change_by (length m.views) r (stand L.table x) (stand L.table y) es (slice_get_within m.views r x s.has)
            (atom_change V K L good further layout laws home m.held m.views r x at g.rule s.has e)));
        done = done_set m.views r y g.done (done_after m r x at n);
      }

  open_good : (m : Moment (WholeView V K)) (r : ℕ) (x : WholeView V K) (calls : List Call) (seq : ℕ) → IsSeated S m r x →
      MayOpen T r x calls seq → G (after_opening T m r x calls seq)
  open_good m r x calls seq s o =
      let g = s.is_good in
      let y : WholeView V K = opened_in L calls seq x in
      let q = open_keeps V K L good further layout laws home m.held m.views r x g.rule s.has calls seq
      (shut_is_none V K L good further layout laws home x (may m r x s) o.shut) o.fits o.takes in
      let went : Goes (writers_of nobody m.trace) (readers_of nobody m.trace) [] (slice_set (map (stand L.table) m.views) r (stand L.table y)) =
      goes (writers_of nobody m.trace) (readers_of nobody m.trace) (map (stand L.table) m.views) r (stand L.table x)
      (stand L.table y) [] g.match (alone_in V K L good further layout laws home m.held m.views g.rule)
      (subst AloneIn (map_set (stand L.table) m.views r y) (alone_in V K L good further layout laws home m.held (slice_set m.views r y) q.0))
      (get_map (stand L.table) m.views r x s.has)
      (subst (λ z. Change r z (stand L.table y) []) (sym q.2) (asked_change V K L good further layout laws home r x (L.work.asks calls) q.2)) in
      record {
        rule = q.0;
        same = ap (λ z. z.trace) q.1 ∙ g.same;
        made = ap (λ z. z.deeds) q.1 ∙ g.made;
        match = subst (Match (writers_of nobody m.trace) (readers_of nobody m.trace)) (sym (map_set (stand L.table) m.views r y)) went.match;
        exclusive = g.exclusive;
        named = g.named;
        by_ranks = subst (λ n. AreByRanks n m.trace) (sym (length-set m.views r y)) g.by_ranks;
        done = done_set m.views r y g.done
            (λ out. inl (closed_parts V K L good further layout laws home m.held m.views r x g.rule s.has
            (shut_is_none V K L good further layout laws home x (may m r x s) o.shut)).1);
      }

  -- whoever stands as a holder on the shard stands so at the lock
  holder_at : (p : Standing) → IsHolder p → (st : Standing) (b : Bool) → standing_while st b ≡ p → st ≡ p
  holder_at p holds Out true e = absurd (subst IsHolder (sym e) holds)
  holder_at p holds Out false e = e
  holder_at p holds Asking b e = e
  holder_at p holds Writer b e = e
  holder_at p holds Reader b e = e
  holder_at p holds Leaving b e = e

  alone_on : (h : TheWindow) (vs : List (WholeView V K)) → Good L good layout h vs → AloneIn (map (stand_on L) vs)
  alone_on h vs g =
      let a : AloneIn (map (stand L.table) vs) = alone_in V K L good further layout laws home h vs g in
      let holder : (p : Standing) → IsHolder p → (i : ℕ) → slice_get (map (stand_on L) vs) i ≡ Some p → slice_get
      (map (stand L.table) vs) i ≡ Some p = λ p holds i e.
      let x = get_map_back (stand_on L) vs i p e in
      get_map (stand L.table) vs i x.0 x.1 ∙ ap (λ z. Some z) (holder_at p holds (stand L.table x.0) (L.work.is_open x.0.work) x.2) in
      record {
        one = λ i j p q. a.one i j (holder Writer tt i p) (holder Writer tt j q);
        none =
            λ i j p q. a.none i j (holder Writer tt i p) (holder Reader tt j q);
      }

  stands_so : (m : Moment (WholeView V K)) (r : ℕ) (x : WholeView V K) → IsSeated S m r x →
      ((stand_on L x ≡ Writer) ↔ writers m.trace r) × ((stand_on L x ≡ Reader) ↔ readers m.trace r)
  stands_so m r x s =
      let m0 : Match (writers_of nobody m.trace) (readers_of nobody m.trace) (map (stand L.table) m.views) = s.is_good.match in
      let b : Bool = L.work.is_open x.work in
      let here : slice_get (map (stand L.table) m.views) r ≡ Some (stand L.table x) = get_map (stand L.table) m.views r x s.has in (
        (
          λ e. is_writer m.trace r (m0.writer r (here ∙ ap (λ z. Some z) (holder_at Writer tt (stand L.table x) b e))),
          λ w. let same : stand L.table x ≡ Writer = same_Some _ _ (sym here ∙ m0.writes r (writer_found m.trace r w)) in
              ap (λ z. standing_while z (L.work.is_open x.work)) same,
        ),
        (
          λ e. is_reader m.trace r (m0.reader r (here ∙ ap (λ z. Some z) (holder_at Reader tt (stand L.table x) b e))),
          λ w. let same : stand L.table x ≡ Reader = same_Some _ _ (sym here ∙ m0.reads r (reader_found m.trace r w)) in
              ap (λ z. standing_while z (L.work.is_open x.work)) same,
        ),
      )

  none_open : (m : Moment (WholeView V K)) (r : ℕ) (x : WholeView V K) → IsSeated S m r x → is_open L x ≡ false → next_of L x ≡ None
  none_open m r x s shut = shut_is_none V K L good further layout laws home x (may m r x s) shut

  -- ---- what is known

  legal : (m : Moment (WholeView V K)) → G m → IsLegal L.work.site.geom (journal_at T m.held.words) (kept_in T m.held.words 0 m.views)
  legal m g =
      subst (IsLegal L.work.site.geom (journal_at T m.held.words)) (sym (kept_all L home m.held.words 0 m.views))
      (laws.work.legal m.held.words (map (work_side L.table) m.views) g.rule.work_part (laid V K L good further layout laws home m.held m.views g.rule))

  sorted : (m : Moment (WholeView V K)) → G m → IsSorted (history (journal_at T m.held.words) (kept_in T m.held.words 0 m.views))
  sorted m g =
      subst (λ k. IsSorted (history (journal_at T m.held.words) k)) (sym (kept_all L home m.held.words 0 m.views))
      (laws.work.sorted m.held.words (map (work_side L.table) m.views) g.rule.work_part (laid V K L good further layout laws home m.held m.views g.rule))

  short : (m : Moment (WholeView V K)) → G m → length (journal_at T m.held.words) ≤ places L.work.site
  short m g = laws.work.short m.held.words (map (work_side L.table) m.views) g.rule.work_part (laid V K L good further layout laws home m.held m.views g.rule)

  -- no block of any rank is open
  abbrev NoneOpen : List (WholeView V K) → Type 0
  NoneOpen vs = (r : ℕ) (x : WholeView V K) → slice_get vs r ≡ Some x → is_open L x ≡ false

  left : (m : Moment (WholeView V K)) → G m → NoneOpen m.views →
      IsVolume L.work.site.geom L.work.site.shard (volume_of L.work.site.geom m.held.words)
      (table_after L.work.site.geom finite.empty (journal_at T m.held.words))
  left m g shut =
      let rests : (r : ℕ) (y : WorkSide K) → slice_get (map (work_side L.table) m.views) r ≡ Some y → L.work.is_open y.work ≡ false = λ r y e.
      let x = get_map_back (work_side L.table) m.views r y e in
      let m0 : MayBe (Good L good layout) x.0 = record { held = m.held; views = m.views; rank = r; is_ruled = g.rule; has = x.1 } in
      ap (λ (z : WorkSide K). L.work.is_open z.work) (sym x.2) ∙ closed_work V K L good further layout laws home x.0 m0 (shut_is_none V K L
      good further layout laws home x.0 m0 (shut r x.0 x.1)) in
      subst (λ l. IsVolume L.work.site.geom L.work.site.shard l (table_after L.work.site.geom finite.empty (journal_at T m.held.words)))
      (volume_before (volume_words L.work.site.geom) (lock_base L.work.site) m.held.words (omega arith))
      (laws.work.volume m.held.words (map (work_side L.table) m.views) g.rule.work_part (laid V K L good further layout laws home m.held m.views g.rule) rests)

  queues : (m : Moment (WholeView V K)) → G m → KeepQueues L.table.queues m.trace
  queues m g =
      let within : KeepBudgets L.table.queues m.trace = subst (KeepBudgets L.table.queues) g.same
      (λ i budget queue has b. laws.lock.within _ i budget queue g.rule.lock_part.lock has b) in
      record {
        budgets = within;
        totals = λ i budget queue has b. within_bound m.trace i budget (within i budget queue has b);
        order = λ i queue has. subst (λ z. IsFifo z i) g.same (laws.lock.fifo _ i queue g.rule.lock_part.lock has);
      }

  counted : (m : Moment (WholeView V K)) → G m → NoneOpen m.views → CountTenures L.table.queues m.trace
  counted m g shut =
      let out : AllOut L.table (locked m.held m.views g.rule) = λ r v e.
      let y = get_map_back view_of (map side_of m.views) r v e in
      let x = get_map_back side_of m.views r y.0 y.1 in
      let m0 : MayBe (Good L good layout) x.0 = record { held = m.held; views = m.views; rank = r; is_ruled = g.rule; has = x.1 } in
      ap L.table.standing (sym y.2 ∙ ap view_of (sym x.2)) ∙ closed_is_out V K L good further layout laws home x.0 m0
      (shut_is_none V K L good further layout laws home x.0 m0 (shut r x.0 x.1)) in
      λ i queue has. subst (λ z. settled i z + passed i z ≡ tenures queue z) g.same (laws.lock.counted _ i queue g.rule.lock_part.lock out has)

  left_count : (m : Moment (WholeView V K)) (r : ℕ) (x : WholeView V K) → IsSeated S m r x → is_open L x ≡ false →
      leaves r m.trace ≡ count_by (counts L) (L.work.kept x.work).items
  left_count m r x s shut =
      let g = s.is_good in
      let closed : L.work.is_open x.work ≡ false = closed_work V K L good further layout laws home x (may m r x s) (none_open m r x s shut) in
      ap (leaves r) (sym g.same) ∙ g.rule.left_as r x s.has
      ∙ ap (count_by (counts L)) (laws.work.closed m.held.words (map (work_side L.table) m.views) r (work_side L.table x)
      (work_at V K L good further layout laws home m.held m.views g.rule r x s.has) closed).1

  -- ---- answers

  -- what a Take of this node leaves that finds its card held
  abbrev LeftHeld : WholeView V K → TheWindow → ℕ → Type 0
  LeftHeld x k n =
      ((after_of L x (do_got (atom.Take n) k.words k.cards)).view ≡ x) × ((after_of L x (do_got (atom.Take n) k.words k.cards)).events ≡ []) ×
      ((after_of L x (do_got (atom.Take n) k.words k.cards)).stepped ≡ Busy n (slice_index k.cards n - 1))

  idle_held : (x : WholeView V K) (k : TheWindow) (r n : ℕ) (o : Option Atom) → o ≡ Some (atom.Take n) →
      IsIdle T k r x o (Busy n (slice_index k.cards n - 1)) → LeftHeld x k n
  idle_held x k r n None e i = absurd (cc)
  idle_held x k r n (Some at) e i =
      let same : at ≡ atom.Take n = same_Some _ _ e in
      subst (λ z. ((after_of L x (do_got z k.words k.cards)).view ≡ x) × ((after_of L x (do_got z k.words k.cards)).events ≡ []) ×
      ((after_of L x (do_got z k.words k.cards)).stepped ≡ Busy n (slice_index k.cards n - 1))) same (i.1, i.2, i.3)

  held : (m : Moment (WholeView V K)) (r : ℕ) (x : WholeView V K) (node : ℕ) (k : TheWindow) → IsNext S m r x (atom.Take node) →
      (slice_index k.cards node == 0) ≡ false →
      LeftHeld x k node
  held m r x node k n full =
      let s = n.seated in
      let e = n.next in
      let g = s.is_good.rule in
      ⊎_elim
      (λ q.
      let b = takes_card L.table (L.table.plan x.side.view) x.side.card node (q.1 ∙ ap (λ z. Some z) (take_unshifted L.base q.0 node q.2)) in
      subst (LeftHeld x k) b.at_home
      (idle_held x k r (home_of L.table (word_of b.a)) (next_of L x) (e ∙ ap (λ n. Some (atom.Take n)) (sym b.at_home))
      (held_idle L x b.a b.planned b.free b.card home k r (ap (λ n. slice_index k.cards n == 0) b.at_home ∙ full))))
      (λ q. absurd (work_no_take L.work (atom.Take node) node (laws.work.plain m.held.words (map (work_side L.table) m.views) r
      (work_side L.table x) (atom.Take node) (works_at V K L good further layout laws home m.held m.views g r x s.has (atom.Take node)
      q.1 q.2)) refl))
      (next_either V K L good further layout laws home x (atom.Take node) e)

  cause_of : (m : Moment (WholeView V K)) (r : ℕ) (x : WholeView V K) (at : Atom) → IsNext S m r x at →
      Cause L m.held x (Some at) (after_of L x (do_got at m.held.words m.held.cards)).stepped
  cause_of m r x at n = answer_cause V K L good further layout laws home m.held m.views r x at n.seated.is_good.rule n.seated.has n.next

  pub whole_shard_laws : ShardCoreLaws S
  whole_shard_laws =
      record {
        few_words = few_behind;
        words = all_words;
        fits = all_fit;
        geom_fits = sizes;
        few_ranks = λ m g. g.rule.few;
        ranks = all_ranks;
        begins = begins;
        atom_keeps = atom_keeps;
        open_keeps = open_good;
        first_desk = λ room rank. first_is_new V K L good further layout laws home room rank;
        own_desk = λ m r x s. own_is V K L good further layout laws home m.held m.views r x s.is_good.rule s.has;
        told_desk = λ m r x s. told_is V K L good further layout laws home m.held m.views r x s.is_good.rule s.has;
        open_is = λ m r x s. (none_is_shut V K L good further layout laws home x (may m r x s), none_open m r x s);
        knows_open = λ m r x s. refl;
        settled = λ m r x s shut. settled_is V K L good further layout laws home m.held m.views r x s.is_good.rule s.has shut;
        opens_own = λ m r x calls seq s o. own_opens V K L good further layout laws home m.held m.views r x s.is_good.rule s.has calls seq
            (none_open m r x s o.shut) o.fits o.takes;
        opens_told = λ m r x calls seq s o. told_opens V K L good further layout laws home m.held m.views r x s.is_good.rule s.has calls seq
            (none_open m r x s o.shut) o.fits o.takes;
        turns_own = λ m r x at n. own_turns V K L good further layout laws home m.held m.views r x n.seated.is_good.rule n.seated.has at n.next;
        turns_told = λ m r x at n. told_turns V K L good further layout laws home m.held m.views r x n.seated.is_good.rule n.seated.has at n.next;
        exclusive = λ m g. is_exclusive m.trace g.exclusive;
        alone_in = λ m g. alone_on m.held m.views g.rule;
        stands = stands_so;
        legal = legal;
        sorted = sorted;
        short = short;
        volume_left = left;
        queues = queues;
        counted = counted;
        left_as = left_count;
        named = λ m g. g.named;
        by_ranks = λ m g. g.by_ranks;
        orders = λ m r x at n. let a = atom_events V K L good further layout laws home m.held m.views r x at n.seated.is_good.rule
            n.seated.has n.next in (a.order, a.few);
        guards = λ m r x at n. guarded V K L good further layout laws home m.held m.views r x at n.seated.is_good.rule n.seated.has n.next;
        cards = λ m r x at n kind. subst (λ k. (a : Act) × (by_card a ≡ true) × (L.table.may_make k a ≡ true))
            (n.seated.is_good.rule.own r x n.seated.has) (next_card_allowed V K L good further layout laws home x at (may m r x n.seated)
            n.next kind);
        locals = λ m r x at n kind. subst (λ k. (a : Act) × IsLocalAct a × (L.table.may_make k a ≡ true))
            (n.seated.is_good.rule.own r x n.seated.has) (next_local_allowed V K L good further layout laws home x at (may m r x n.seated)
            n.next kind);
        goes_on = λ m r x at n fin. subst (Cause L m.held x (Some at)) fin (cause_of m r x at n);
        busy = λ m r x at node holder n b. subst (Cause L m.held x (Some at)) b (cause_of m r x at n);
        held = held;
        answers = λ m r x at n. cause_answers L m.held x at (after_of L x (do_got at m.held.words m.held.cards)).stepped (cause_of m r x at n);
        causes = cause_of;
        rests = λ h x. tt;
        unhindered = λ m r x answer one s c. unhindered V K L good further layout laws home one m.held m.views r x s.is_good.rule s.has
            (next_of L x) refl answer c;
        says = λ m g. subst (λ z. further z m.acts) g.same (subst (further g.rule.past.trace) g.made (laws.lock.goes_further _ g.rule.lock_part.lock));
        shows = λ m r x at n. acts_shown V K L good further layout laws home m.held m.views r x n.seated.is_good.rule n.seated.has at n.next;
      }
