-- Over a lock that says who goes on the chosen rank's next atom leaves less to do, and where nobody is urgent no block is open.
use Rattle.std.specs.Prelude.{◌≡◌, ◌⊎◌, ℕ, ◌+◌, ◌<◌, ◌≤◌, Bool, true, false, ◌||◌, List, map, slice_get, Option, Some, None, refl}
use Rattle.std.proofs.Common.{sym, ◌∙◌, ap, subst, inl, inr, ⊎_elim, arith}
use Rattle.std.proofs.lemmas.Option.{same_Some}
use Rattle.rl_word.specs.laws.Places.{get_map, get_map_back}
use Rattle.rl_word.specs.Acts.{Layout}
use Rattle.rl_step.specs.declared.events.Event.{Event}
use Rattle.rl_step.specs.declared.events.Standing.{Standing}
use Rattle.rl_step.specs.declared.events.Standing.TheVariants as standing
use Rattle.rl_step.specs.Lock.{Deed, IsHolder, AllOut}
use Rattle.rl_step.specs.Do.{TheWindow}
use Rattle.rl_ending.specs.Ending.{LockEnds}
use Rattle.rl_ending.specs.Guiding.{UrgencyOf, IsChosen, NoneUrgent, LockGuides}
use Rattle.rl_core.specs.ShardTables.{AllShut}
use Rattle.rl_core.specs.ShardEnding.{Lessens}
use Rattle.rl_core.specs.ShardGuiding.{ShardGuides}
use Rattle.rl_work.specs.WorkEnding.{WorkEnds}
use Rattle.rl_rank.specs.declared.card_state.CardState.{CardState}
use Rattle.rl_rank.specs.declared.card_state.CardState.TheVariants.{Free, InCard, Loaded, ToLeave}
use Rattle.rl_rank.specs.declared.side.Side.{Side}
use Rattle.rl_rank.specs.declared.whole.WholeView.{WholeView}
use Rattle.rl_rank.specs.Running.{LockAt, Goods, BothLaws}
use Rattle.rl_rank.specs.Split.{SplitState, lock_of, view_of}
use Rattle.rl_rank.specs.Whole.{side_of, split_of, lock_words, is_at_work, Good}
use Rattle.rl_rank.specs.WholeShards.{whole_shard, whole_says}
use Rattle.rl_rank.specs.laws.BegunLaws.{AllFree, IsFirstIn}
use Rattle.rl_rank.specs.laws.CardEnding.{first_goes, act_goes}
use Rattle.rl_rank.specs.WholeLeft.{whole_left}
use Rattle.rl_rank.specs.laws.WholeEnding.{atom_leads, holder_works, out_works}
use Rattle.rl_rank.specs.WholeGuiding.{out_urgency, free_urgency, card_urgency, whole_urgent}

free_or_in : (c : CardState) → (c ≡ Free) ⊎ (c ≡ Free → ⊥)
free_or_in Free = inl refl
free_or_in InCard = inr (λ e. cc)
free_or_in (Loaded value) = inr (λ e. cc)
free_or_in (ToLeave node) = inr (λ e. cc)

in_first : (c : CardState) (o : Option ℕ) → (c ≡ Free → ⊥) → card_urgency c o ≡ Some 0
in_first Free o not = absurd (not refl)
in_first InCard o not = refl
in_first (Loaded value) o not = refl
in_first (ToLeave node) o not = refl

some_or_not : (o : Option ℕ) → (o ≡ None) ⊎ ((n : ℕ) × (o ≡ Some n))
some_or_not None = inl refl
some_or_not (Some n) = inr (n, refl)

-- who is urgent though the lock says nothing is out, with a block open, and comes last
out_open : (st : Standing) (b : Bool) (n : ℕ) → out_urgency st b ≡ Some n → (b ≡ true) × (n ≡ 9)
out_open standing.Out true n e = (refl, sym (same_Some _ _ e))
out_open standing.Out false n e = cc
out_open standing.Asking b n e = cc
out_open standing.Writer b n e = cc
out_open standing.Reader b n e = cc
out_open standing.Leaving b n e = cc

-- who is out, and isn't urgent, has no block open
out_shut : (b : Bool) → out_urgency standing.Out b ≡ None → b ≡ false
out_shut true e = cc
out_shut false e = refl

module _ (V K : Type 0) (L : LockAt V K) (good : Goods V K) (further : List Event → List Deed → Type 0) (layout : Layout)
    (laws : BothLaws L good further layout) (home : ℕ)
    (left : List ℕ → List V → ℕ) (most : ℕ) (ends : LockEnds L.table left good.lock most) (work_left : List ℕ → List K → ℕ) (work_most : ℕ)
    (work_ends : WorkEnds L.work good.work work_left work_most)
    (urgent : UrgencyOf V) (guides : LockGuides L.table left good.lock urgent) where
  module _ (h : TheWindow) (vs : List (WholeView V K)) (g : Good L good layout h vs) where
    abbrev state : SplitState V
    state = split_of L h vs g.modes g.past

    abbrev views : List V
    views = map view_of (map side_of vs)

    abbrev by_lock : V → Option ℕ
    by_lock = urgent (lock_words L h.words)

    abbrev urgency : WholeView V K → Option ℕ
    urgency = whole_urgent L urgent h.words

    abbrev Goes : ℕ → WholeView V K → Type 0
    Goes r x = Lessens (whole_shard L home) (whole_left L left most work_left) h vs r x

    -- a view of the lock is that of a rank
    record Owner (r : ℕ) (v : V) : Type 0 where
      whole : WholeView V K
      has : slice_get vs r ≡ Some whole
      view_is : whole.side.view ≡ v

    owner : (r : ℕ) (v : V) → slice_get views r ≡ Some v → Owner r v
    owner r v has =
        let side = get_map_back view_of (map side_of vs) r v has in
        let x = get_map_back side_of vs r side.0 side.1 in
        record { whole = x.0; has = x.1; view_is = ap (λ (z : Side V). z.view) x.2 ∙ side.2 }

    view_there : (r : ℕ) (x : WholeView V K) → slice_get vs r ≡ Some x → slice_get views r ≡ Some x.side.view
    view_there r x has = get_map view_of (map side_of vs) r x.side (get_map side_of vs r x has)

    -- the urgency of a rank that is in no card, by what the lock says
    free_is : (x : WholeView V K) (o : Option ℕ) → x.side.card ≡ Free → by_lock x.side.view ≡ o →
        urgency x ≡ free_urgency o (L.table.standing x.side.view) (L.work.is_open x.work)
    free_is x o free is =
        ap (λ c. card_urgency c (free_urgency (by_lock x.side.view) (L.table.standing x.side.view) (L.work.is_open x.work))) free
        ∙ ap (λ z. free_urgency z (L.table.standing x.side.view) (L.work.is_open x.work)) is

    in_is : (x : WholeView V K) → (x.side.card ≡ Free → ⊥) → urgency x ≡ Some 0
    in_is x not = in_first x.side.card (free_urgency (by_lock x.side.view) (L.table.standing x.side.view) (L.work.is_open x.work)) not

    -- where who is chosen isn't in a card nobody is in one
    all_free : (n : ℕ) → 0 < n → ((i : ℕ) (u : WholeView V K) (k : ℕ) → slice_get vs i ≡ Some u → urgency u ≡ Some k → n ≤ k) → AllFree (map side_of vs)
    all_free n some least i side has =
        let u = get_map_back side_of vs i side has in
        subst (λ (z : Side V). z.card ≡ Free) u.2 (⊎_elim (λ free. free)
        (λ not. let low = least i u.0 0 u.1 (in_is u.0 not) in absurd (omega arith)) (free_or_in u.0.side.card))

    is_free : AllFree (map side_of vs) → (i : ℕ) (u : WholeView V K) → slice_get vs i ≡ Some u → u.side.card ≡ Free
    is_free quiet i u has = quiet i u.side (get_map side_of vs i u has)

    -- and how urgent the lock says that the others are
    by_lock_is : AllFree (map side_of vs) → (i : ℕ) (v : V) (k : ℕ) (o : Owner i v) → by_lock v ≡ Some k → urgency o.whole ≡ Some (k + 1)
    by_lock_is quiet i v k o is = free_is o.whole (Some k) (is_free quiet i o.whole o.has) (ap by_lock o.view_is ∙ is)

    -- nobody is urgent by the lock: all are out
    outs : AllOut L.table (lock_of state) → (i : ℕ) (u : WholeView V K) → slice_get vs i ≡ Some u → L.table.standing u.side.view ≡ standing.Out
    outs out i u has = out i u.side.view (view_there i u has)

    module _ (r : ℕ) (c : IsChosen urgency vs r) where
      abbrev x : WholeView V K
      x = c.view

      -- in a card, and the first that is in one
      in_goes : (x.side.card ≡ Free → ⊥) → Goes r x
      in_goes not =
          let first : c.urgency ≡ 0 = same_Some _ _ (sym c.is_urgent ∙ in_is x not) in
          let before : (k : ℕ) (side : Side V) → k < r → slice_get (map side_of vs) k ≡ Some side → side.card ≡ Free =
          λ k side low has.
          let u = get_map_back side_of vs k side has in
          subst (λ (z : Side V). z.card ≡ Free) u.2
          (⊎_elim (λ free. free) (λ in_card. let less = c.first k u.0 0 u.1 (in_is u.0 in_card) low in absurd (omega arith)) (free_or_in u.0.side.card)) in
          let is_first : IsFirstIn (map side_of vs) r = record { side = x.side; has = get_map side_of vs r x c.has; in_card = not; before = before } in
          atom_leads V K L good further layout laws home left most ends work_left work_most work_ends h vs g r x c.has
          (first_goes V L.table good.lock further layout laws.lock left most ends state r g.lock_part is_first)

      -- in none, and urgent by the lock
      lock_goes : x.side.card ≡ Free → (k : ℕ) → by_lock x.side.view ≡ Some k → Goes r x
      lock_goes free k is =
          let n : c.urgency ≡ k + 1 = same_Some _ _ (sym c.is_urgent ∙ free_is x (Some k) free is) in
          let quiet : AllFree (map side_of vs) = all_free c.urgency (omega arith) c.least in
          let chosen : IsChosen by_lock views r =
          record {
            view = x.side.view;
            has = view_there r x c.has;
            urgency = k;
            is_urgent = is;
            least = λ i v q has e. let o = owner i v has in let le = c.least i o.whole (q + 1) o.has (by_lock_is quiet i v q o e) in omega arith;
            first = λ i v q has e low. let o = owner i v has in let lt = c.first i o.whole (q + 1) o.has (by_lock_is quiet i v q o e) low in omega arith;
          } in
          let can = guides.goes (lock_of state) r g.lock_part.lock chosen in
          let same : can.view ≡ x.side.view = same_Some _ _ (sym can.has ∙ view_there r x c.has) in
          ⊎_elim
          (λ holds. holder_works V K L good further layout laws home left most ends work_left work_most work_ends h vs g r x c.has quiet
          (subst (λ v. IsHolder (L.table.standing v)) same holds))
          (λ nears. atom_leads V K L good further layout laws home left most ends work_left work_most work_ends h vs g r x c.has
          (act_goes V L.table good.lock further layout laws.lock left most ends state r can.view g.lock_part quiet can.has nears))
          can.way

      -- in none, and the lock says nothing of it: nor of anybody, so all are out
      out_goes : x.side.card ≡ Free → by_lock x.side.view ≡ None → Goes r x
      out_goes free is =
          let last = out_open (L.table.standing x.side.view) (L.work.is_open x.work) c.urgency (sym (free_is x None free is) ∙ c.is_urgent) in
          let n : c.urgency ≡ 9 = last.1 in
          let quiet : AllFree (map side_of vs) = all_free c.urgency (omega arith) c.least in
          let nobody : NoneUrgent by_lock views =
          λ i v has.
          ⊎_elim
          (λ none. none)
          (λ some.
          let o = owner i v has in
          let le = c.least i o.whole (some.0 + 1) o.has (by_lock_is quiet i v some.0 o some.1) in
          let few = guides.few (lock_words L h.words) v some.0 some.1 in absurd (omega arith))
          (some_or_not (by_lock v)) in
          out_works V K L good further layout laws home left most ends work_left work_most work_ends h vs g r x c.has quiet
          (outs (guides.rest (lock_of state) g.lock_part.lock nobody)) last.0

      chosen_goes : Goes r x
      chosen_goes = ⊎_elim (λ free. ⊎_elim (λ none. out_goes free none) (λ some. lock_goes free some.0 some.1)
          (some_or_not (by_lock x.side.view))) (λ not. in_goes not) (free_or_in x.side.card)

    -- nobody is urgent
    module _ (none : NoneUrgent urgency vs) where
      quiet : AllFree (map side_of vs)
      quiet i side has =
          let u = get_map_back side_of vs i side has in
          subst (λ (z : Side V). z.card ≡ Free) u.2
          (⊎_elim (λ free. free) (λ not. let bad : None ≡ Some 0 = sym (none i u.0 u.1) ∙ in_is u.0 not in cc) (free_or_in u.0.side.card))

      nobody : NoneUrgent by_lock views
      nobody i v has =
          ⊎_elim
          (λ is. is)
          (λ some.
          let o = owner i v has in
          let bad : None ≡ Some (some.0 + 1) = sym (none i o.whole o.has) ∙ by_lock_is quiet i v some.0 o some.1 in cc)
          (some_or_not (by_lock v))

      all_shut : AllShut (whole_shard L home) vs
      all_shut r x has =
          let out : L.table.standing x.side.view ≡ standing.Out = outs (guides.rest (lock_of state) g.lock_part.lock nobody) r x has in
          let free : x.side.card ≡ Free = is_free quiet r x has in
          let shut : L.work.is_open x.work ≡ false =
          out_shut (L.work.is_open x.work) (ap (λ st. out_urgency st (L.work.is_open x.work)) (sym out) ∙ sym
          (free_is x None free (nobody r x.side.view (view_there r x has))) ∙ none r x has) in
          ap (λ st. is_at_work st x.side.card || L.work.is_open x.work) out ∙ ap (λ c. is_at_work standing.Out c || L.work.is_open x.work) free ∙ shut

  pub whole_guides : ShardGuides (whole_says L good further layout home) (whole_left L left most work_left) (whole_urgent L urgent)
  whole_guides =
      record {
        goes = λ m r v s c.
            subst (λ z. Lessens (whole_shard L home) (whole_left L left most work_left) m.held m.views r z)
            (same_Some _ _ (sym c.has ∙ s.has)) (chosen_goes m.held m.views s.is_good.rule r c);
        rest = λ m g none. all_shut m.held m.views g.rule none;
      }
