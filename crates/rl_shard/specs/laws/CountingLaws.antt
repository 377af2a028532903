-- A machine with tallies keeps the laws of a core, as the one without does; and blocks that are opened keep its rule.
use Rattle.std.specs.Prelude.{◌≡◌, ℕ, List, [], ◌++◌, length, map, slice_get, slice_set, Some, refl}
use Rattle.std.proofs.Common.{sym, ◌∙◌, ap, subst, ⊎_elim, arith}
use Rattle.std.proofs.lemmas.List.{append-nil}
use Rattle.rl_word.specs.laws.Places.{get_map, map_set, set_same_get, get_set_cases}
use Rattle.rl_word.specs.declared.acts.Atom.{Atom}
use Rattle.rl_model.specs.declared.call.Call.{Call}
use Rattle.rl_step.specs.declared.events.Event.{Event}
use Rattle.rl_step.specs.Lock.{Deed}
use Rattle.rl_step.specs.Do.{TheWindow, do_atom, do_got, CanDo}
use Rattle.rl_step.specs.Core.{CoreTable, CoreLaws, Plans, MayBe, MayGet, home_at}
use Rattle.rl_step.specs.Queues.{settled, passed}
use Rattle.rl_step.specs.laws.QueueLemmas.{settled-append, passed-append}
use Rattle.rl_core.specs.Desks.{Desk, Turns}
use Rattle.rl_core.specs.ShardTables.{ShardTable}
use Rattle.rl_core.specs.Moments.{Moment, CoreSays}
use Rattle.rl_core.specs.ShardLaws.{ShardCoreLaws, LawsOf, IsSeated, IsNext, MayOpen}
use Rattle.rl_shard.specs.declared.counting.Counting.{Counting}
use Rattle.rl_shard.specs.declared.counting.CountedView.{CountedView}
use Rattle.rl_shard.specs.Tallies.{tally_at, all_noted}
use Rattle.rl_shard.specs.Reached.{IsReached}
use Rattle.rl_shard.specs.Counting.{whole_of, whole_moment, room_of, rooms_of, settled_by, passed_by, counted_after, counted_table, counting_rule, ComeTo, CountGood}
use Rattle.rl_shard.specs.laws.TallyLaws.{Rises, length_all, settles_all, passes_all, come_to_more}

-- a desk's room stays
same_room : (shard rank : ℕ) (d e : Desk) → Turns shard rank d e → e.kept.room ≡ d.kept.room
same_room shard rank d e turns = ⊎_elim (λ keeps. ap (λ k. k.room) keeps.same_kept) (λ ends. ends.same_room) turns.way

-- and so do all rooms, where one rank's does
same_rooms : {V : Type 0} (T : ShardTable V) (vs : List (CountedView V)) (r : ℕ) (x y : CountedView V) → slice_get vs r ≡ Some x → room_of T y ≡ room_of T x →
    rooms_of T (slice_set vs r y) ≡ rooms_of T vs
same_rooms T vs r x y has same =
    map_set (room_of T) vs r y ∙ set_same_get (rooms_of T vs) r (room_of T y) (get_map (room_of T) vs r x has ∙ ap (λ n. Some n) (sym same))

module _ {V : Type 0} (S : CoreSays V) where
  -- the moment by which a state meets the rule
  abbrev pub moment_of : (h : TheWindow) (vs : List (CountedView V)) → CountGood S h vs → Moment V
  moment_of h vs g = whole_moment h vs g.trace g.acts

  -- a rank of the window, as the machine without tallies sees it; and with its next atom
  pub seated : (h : TheWindow) (vs : List (CountedView V)) (r : ℕ) (x : CountedView V) (g : CountGood S h vs) → slice_get vs r ≡ Some x → IsSeated S (moment_of h vs g) r x.whole
  seated h vs r x g has = record { is_good = g.is_good; has = get_map whole_of vs r x has }

  pub next_there : (h : TheWindow) (vs : List (CountedView V)) (r : ℕ) (x : CountedView V) (at : Atom) (g : CountGood S h vs) → slice_get vs r ≡ Some x → S.table.core.next x.whole ≡ Some at →
      IsNext S (moment_of h vs g) r x.whole at
  next_there h vs r x at g has e = record { seated = seated h vs r x g has; next = e }

  -- the moment once the rank's view has become another, with these words and cards, events and acts
  abbrev moved : TheWindow → List (CountedView V) → ℕ → V → List Event → List Deed → Moment V
  moved k vs r v t ds = record { held = k; views = slice_set (map whole_of vs) r v; trace = t; acts = ds }

  -- a change of one rank's view keeps the rule, where the moment stays good with these events more and is one to which the ranks come, the
  -- rank's room stays, and the tallies count the events
  counts_on : (h k : TheWindow) (vs : List (CountedView V)) (r : ℕ) (x y : CountedView V) (es : List Event) (ds : List Deed) (g : CountGood S h vs) → slice_get vs r ≡ Some x →
      y.tallies ≡ all_noted es x.tallies → S.good (moved k vs r y.whole (g.trace ++ es) ds) → room_of S.table y ≡ room_of S.table x →
      IsReached S.table S.layout.nodes (rooms_of S.table vs) (moved k vs r y.whole (g.trace ++ es) ds) → CountGood S k (slice_set vs r y)
  counts_on h k vs r x y es ds g has tallies q room come =
      let views = sym (map_set whole_of vs r y) in
      let each : length x.tallies ≡ length S.table.queues = g.each r x has in
      record {
        trace = g.trace ++ es;
        acts = ds;
        is_good = subst (λ l. S.good (record { held = k; views = l; trace = g.trace ++ es; acts = ds })) views q;
        reached = subst (λ rooms. IsReached S.table S.layout.nodes rooms (whole_moment k (slice_set vs r y) (g.trace ++ es) ds)) (sym (same_rooms S.table vs r x y has room))
            (subst (λ l. IsReached S.table S.layout.nodes (rooms_of S.table vs) (record { held = k; views = l; trace = g.trace ++ es; acts = ds })) views come);
        each = λ i u e. ⊎_elim (λ p. ap (λ z. length z.tallies) p.1 ∙ ap length tallies ∙ length_all es x.tallies ∙ each) (λ p. g.each i u p.1) (get_set_cases vs r i y u e);
        members = g.members;
        settled_are = λ i low. subst (ComeTo (settled_by i) (slice_set vs r y)) (sym (settled-append i g.trace es))
            (come_to_more (settled_by i) vs r x y (settled i g.trace) (settled i es) has
            (subst (λ t. Rises (settled_by i x) (settled i es) (tally_at i t).settled) (sym tallies) (settles_all i es x.tallies (omega arith))) (g.settled_are i low));
        passed_are = λ i low. subst (ComeTo (passed_by i) (slice_set vs r y)) (sym (passed-append i g.trace es))
            (come_to_more (passed_by i) vs r x y (passed i g.trace) (passed i es) has
            (subst (λ t. Rises (passed_by i x) (passed i es) (tally_at i t).passed) (sym tallies) (passes_all i es x.tallies (omega arith))) (g.passed_are i low));
      }

  module _ (laws : ShardCoreLaws S) where
    pub atom_keeps : (h : TheWindow) (vs : List (CountedView V)) (r : ℕ) (x : CountedView V) (at : Atom) → CountGood S h vs → slice_get vs r ≡ Some x → S.table.core.next x.whole ≡ Some at →
        CountGood S (do_atom r at h) (slice_set vs r (counted_after S.table.core x (do_got at h.words h.cards)).view)
    atom_keeps h vs r x at g has e =
        let T : ShardTable V = S.table in
        let m : Moment V = moment_of h vs g in
        let got : ℕ = do_got at h.words h.cards in
        let next : IsNext S m r x.whole at = next_there h vs r x at g has e in
        counts_on h (do_atom r at h) vs r x (counted_after T.core x got).view (T.core.after x.whole got).events (g.acts ++ T.deeds x.whole got) g has refl
        (laws.atom_keeps m r x.whole at next)
        (same_room T.site.shard r (T.own x.whole) (T.own (T.core.after x.whole got).view) (laws.turns_own m r x.whole at next))
        (IsReached.makes m r x.whole at g.reached (get_map whole_of vs r x has) e)

    -- a block that is opened where none is open
    pub open_counts : (h : TheWindow) (vs : List (CountedView V)) (r : ℕ) (x : CountedView V) (calls : List Call) (seq : ℕ) → CountGood S h vs → slice_get vs r ≡ Some x →
        MayOpen S.table r x.whole calls seq → CountGood S h (slice_set vs r (record x { whole = S.table.opened calls seq x.whole }))
    open_counts h vs r x calls seq g has may =
        let T : ShardTable V = S.table in
        let m : Moment V = moment_of h vs g in
        let v : V = T.opened calls seq x.whole in
        let at : IsSeated S m r x.whole = seated h vs r x g has in
        counts_on h h vs r x (record x { whole = v }) [] g.acts g has refl
        (subst (λ t. S.good (moved h vs r v t g.acts)) (sym (append-nil g.trace)) (laws.open_keeps m r x.whole calls seq at may))
        (ap (λ k. k.room) (laws.opens_own m r x.whole calls seq at may).same_kept)
        (subst (λ t. IsReached T S.layout.nodes (rooms_of T vs) (moved h vs r v t g.acts)) (sym (append-nil g.trace))
        (IsReached.opens m r x.whole calls seq g.reached (get_map whole_of vs r x has) may))

-- the laws of the core with tallies, by those of the core without, whose rule all that is good meets
module _ {C V : Type 0} (says : C → CoreSays V) (laws : LawsOf says) (rule : C → TheWindow → List V → Type 0) (ruled : (c : C) (m : Moment V) → (says c).good m → rule c m.held m.views) where
  -- what the rule says of the machine alone
  pub whole_may_be : (c : Counting C V) (x : CountedView V) → MayBe (counting_rule says c) x → MayBe (rule c.whole) x.whole
  whole_may_be c x m = record {
    held = m.held;
    views = map whole_of m.views;
    rank = m.rank;
    is_ruled = ruled c.whole (moment_of (says c.whole) m.held m.views m.is_ruled) m.is_ruled.is_good;
    has = get_map whole_of m.views m.rank x m.has;
  }

  module _ (table : C → CoreTable V) (same : (c : C) → (says c).table.core ≡ table c) where
    abbrev counted : Counting C V → CoreTable (CountedView V)
    counted c = counted_table (says c.whole).table.core

    whole_plans : (c : Counting C V) (h : TheWindow) (vs : List (CountedView V)) (r : ℕ) (x : CountedView V) (at : Atom) → Plans (counted c) (counting_rule says c) h vs r x at →
        Plans (table c.whole) (rule c.whole) h (map whole_of vs) r x.whole at
    whole_plans c h vs r x at p =
        record {
          is_ruled = ruled c.whole (moment_of (says c.whole) h vs p.is_ruled) p.is_ruled.is_good;
          has = get_map whole_of vs r x p.has;
          planned = subst (λ (k : CoreTable V). k.next x.whole ≡ Some at) (same c.whole) p.planned;
        }

    pub whole_may_get : (c : Counting C V) (x : CountedView V) (got : ℕ) → MayGet (counted c) (counting_rule says c) x got → MayGet (table c.whole) (rule c.whole) x.whole got
    whole_may_get c x got m = record {
      held = m.held;
      views = map whole_of m.views;
      rank = m.rank;
      atom = m.atom;
      plans = whole_plans c m.held m.views m.rank x m.atom m.plans;
      gives = m.gives;
    }

    pub counting_laws : ((c : C) → CoreLaws (table c) (rule c)) → (c : Counting C V) → CoreLaws (counted c) (counting_rule says c)
    counting_laws lawful c =
        let L : CoreLaws (table c.whole) (rule c.whole) = lawful c.whole in
        let S : CoreSays V = says c.whole in
        record {
          sized = λ h vs g. L.sized h (map whole_of vs) (ruled c.whole (moment_of S h vs g) g.is_good) ∙ ap (λ (k : CoreTable V). k.size) (sym (same c.whole));
          can = λ h vs r x at p. subst (λ (k : CoreTable V). CanDo (home_at k.home at) r at h.words h.cards) (sym (same c.whole))
              (L.can h (map whole_of vs) r x.whole at (whole_plans c h vs r x at p));
          keeps = λ h vs r x at p small. atom_keeps S (laws c.whole) h vs r x at p.is_ruled p.has p.planned;
          goes_on = λ h vs r x at p. (laws c.whole).goes_on (moment_of S h vs p.is_ruled) r x.whole at (next_there S h vs r x at p.is_ruled p.has p.planned);
        }
