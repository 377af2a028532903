-- Loads that were seen are made so while their words have their values; and two of them that lead back are a round.
use Rattle.std.specs.Prelude.{◌≡◌, ℕ, ◌+◌, ◌^◌, ◌<◌, ◌==◌, Bool, true, false, List, [], ◌∷◌, length, slice_index, slice_set, Some, refl}
use Rattle.std.proofs.Common.{sym, ◌∙◌, ap, subst, ⊎_elim, arith}
use Rattle.std.proofs.lemmas.Bool.Decides.{eqb_tells}
use Rattle.rl_word.specs.Acts.{Layout}
use Rattle.rl_word.specs.laws.Places.{get_set_same}
use Rattle.rl_word.specs.declared.acts.Act.TheVariants as act
use Rattle.rl_word.specs.declared.acts.Atom.{Atom}
use Rattle.rl_word.specs.declared.acts.Atom.TheVariants as atom
use Rattle.rl_step.specs.declared.events.Event.{Event}
use Rattle.rl_step.specs.Core.{MayBe, Plans}
use Rattle.rl_step.specs.Do.{TheWindow}
use Rattle.rl_step.specs.Lock.{Deed}
use Rattle.rl_core.specs.declared.round.Leg.{Leg}
use Rattle.rl_core.specs.Rounds.{load_answer, leg_answer, Makes, GoesBy, IsRound}
use Rattle.rl_rank.specs.declared.card_state.CardState.TheVariants.{Free}
use Rattle.rl_rank.specs.declared.effect.Effect.TheVariants.{Learn}
use Rattle.rl_rank.specs.declared.whole.WholeView.{WholeView}
use Rattle.rl_rank.specs.Running.{LockAt, Goods, BothLaws}
use Rattle.rl_rank.specs.Split.{answer_of}
use Rattle.rl_rank.specs.Whole.{Good, shifted_answer, next_of, after_of, effect_turned, whole_table}
use Rattle.rl_rank.specs.laws.Whole.{after_effect}
use Rattle.rl_rank.specs.laws.WholeLaws.{whole_laws}
use Rattle.rl_rank.specs.laws.IdleLaws.{load_next, load_means, load_open}
use Rattle.rl_rank.specs.SeenLoads.{with_lock, IsAtLoad, IsSeenLoad}
use Rattle.rl_rank.specs.WholeShards.{whole_shard}

-- a list of which none is counted is empty
no_length : {X : Type 0} (xs : List X) → length xs ≡ 0 → xs ≡ []
no_length [] e = refl
no_length (x ∷ xs) e = absurd (omega arith)

pub none_there : {X : Type 0} (xs : List X) → (length xs == 0) ≡ true → xs ≡ []
none_there xs e = ⊎_elim (λ q. no_length xs q.1) (λ q. let bad : true ≡ false = sym e ∙ q.0 in cc) (eqb_tells (length xs) 0)

-- a load that was seen is made so whatever the window is, while its word has the value
module _ {V K : Type 0} (L : LockAt V K) (home : ℕ) (h : TheWindow) (x : WholeView V K) (leg : Leg V) (s : IsSeenLoad L h x.side.view leg)
    (free : x.side.card ≡ Free) where
  seen_next : next_of L x ≡ Some (atom.Load (L.base + s.load))
  seen_next = load_next L x s.load s.planned free

  answered : (b : Bool) → shifted_answer L.base (answer_of (Some (act.Load s.load)) leg.value false b) ≡ load_answer (L.base + s.load) leg.value b
  answered true = refl
  answered false = refl

  pub goes_by : (k : ℕ) → GoesBy (whole_shard L home) with_lock k x leg
  goes_by k w shows =
      let got : ℕ = leg.value in
      let is : got ≡ slice_index w.words (L.base + s.load) = sym shows ∙ ap (slice_index w.words) s.word in
      let turned : after_of L x got ≡ effect_turned L x (L.work.after x.rank x.work got) (Learn Free got false) =
      after_effect L x got (Learn Free got false) (load_means L x s.load s.planned free got) in
      let view : (after_of L x got).view ≡ with_lock x leg.sight =
      ap (λ z. z.view) turned ∙ ap (λ v. record { side = record { view = v; card = Free }; kept = x.kept; rank = x.rank; work = x.work }) s.view
      ∙ ap (λ c. record { side = record { view = leg.sight; card = c }; kept = x.kept; rank = x.rank; work = x.work }) (sym free) in
      let answer : (after_of L x got).stepped ≡ leg_answer leg =
      ap (λ z. z.stepped) turned ∙ ap (λ q. shifted_answer L.base (answer_of q got false (L.table.learn x.side.view got).waits)) s.planned
      ∙ ap (λ b. shifted_answer L.base (answer_of (Some (act.Load s.load)) got false b)) s.waits ∙ answered leg.waits
      ∙ ap (λ n. load_answer n got leg.waits) (sym s.word) in
      subst (Makes (whole_shard L home) with_lock w k x leg) (sym seen_next) (
        refl,
        subst (λ g. (after_of L x g).view ≡ with_lock x leg.sight) is view,
        subst (λ g. (after_of L x g).events ≡ []) is (ap (λ z. z.events) turned ∙ s.quiet),
        subst (λ g. (after_of L x g).stepped ≡ leg_answer leg) is answer,
      )

module _ {V K : Type 0} (L : LockAt V K) (good : Goods V K) (further : List Event → List Deed → Type 0) (layout : Layout)
    (laws : BothLaws L good further layout) (home : ℕ) (x : WholeView V K) (may : MayBe (Good L good layout) x)
    (free : x.side.card ≡ Free) where
  -- the view after a load that was seen may be there
  after_leg : (leg : Leg V) → IsSeenLoad L may.held x.side.view leg → MayBe (Good L good layout) (with_lock x leg.sight)
  after_leg leg s =
      let at : Atom = atom.Load (L.base + s.load) in
      let is : slice_index may.held.words (L.base + s.load) ≡ leg.value = ap (slice_index may.held.words) (sym s.word) ∙ s.shows in
      let planned : next_of L x ≡ Some at = seen_next L home may.held x leg s free in
      let plans : Plans (whole_table L home) (Good L good layout) may.held may.views may.rank x at =
      record { is_ruled = may.is_ruled; has = may.has; planned = planned } in
      let kept : Good L good layout may.held (slice_set may.views may.rank (after_of L x (slice_index may.held.words (L.base + s.load))).view) =
      (whole_laws V K L good further layout laws home).keeps may.held may.views may.rank x at plans (subst (λ n. n < 2 ^ 64) (sym is) s.fits) in
      let made : Makes (whole_shard L home) with_lock may.held may.rank x leg (Some at) =
      subst (Makes (whole_shard L home) with_lock may.held may.rank x leg) planned
      (goes_by L home may.held x leg s free may.rank may.held s.shows) in
      record {
        held = may.held;
        views = slice_set may.views may.rank (with_lock x leg.sight);
        rank = may.rank;
        is_ruled = subst (λ y. Good L good layout may.held (slice_set may.views may.rank y)) made.1 kept;
        has = get_set_same may.views may.rank x (with_lock x leg.sight) may.has;
      }

  pub at_next : (h : TheWindow) → may.held ≡ h → (leg : Leg V) → IsSeenLoad L h x.side.view leg → IsAtLoad (Good L good layout) h leg.sight
  unfolding after_leg
  at_next h held leg s = record {
    view = with_lock x leg.sight;
    may =
        after_leg leg (subst (λ w. IsSeenLoad L w x.side.view leg) (sym held) s);
    held = held;
    is = refl;
    free = free;
  }

  -- two loads that were seen, of which the second leads back, are a round
  pub round_seen : (h : TheWindow) → may.held ≡ h → (here there : Leg V) → IsSeenLoad L h x.side.view here →
      IsSeenLoad L h here.sight there → there.sight ≡ x.side.view → (k : ℕ) →
      IsRound (whole_shard L home) with_lock (length h.words) k x (record { here = here; there = there })
  round_seen h held here there a b back k =
      let y : WholeView V K = with_lock x here.sight in
      let after : MayBe (Good L good layout) y = after_leg here (subst (λ w. IsSeenLoad L w x.side.view here) (sym held) a) in
      record {
        back = ap (with_lock x) back;
        in_call = load_open L x a.load a.planned free good further layout laws home may;
        in_call_there = load_open L y b.load b.planned free good further layout laws home after;
        word_here = a.there;
        word_there = b.there;
        first = goes_by L home h x here a free k;
        second = goes_by L home h y there b free k;
      }
