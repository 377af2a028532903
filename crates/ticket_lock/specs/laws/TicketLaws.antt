-- The ticket lock meets the laws of a lock.
use Rattle.std.specs.Prelude.{◌≡◌, ◌≢◌, ℕ, zero, suc, ◌+◌, ◌%◌, ◌^◌, ◌<◌, ◌≤◌, ◌↔◌, ◌==◌, true, false, List, [], ◌∷◌, length, slice_get, slice_index, slice_set, replicate, cond, is_some, Option, Some, None, refl}
use Rattle.std.proofs.Common.{lit≤, lit<, sym, ◌∙◌, ap, subst, ⊎_elim, arith, length-set}
use Rattle.std.proofs.lemmas.Option.{same_Some, slice_get_within, get_or_from_slice_get}
use Rattle.std.proofs.lemmas.List.{length-replicate, length-map}
use Rattle.std.proofs.lemmas.List.Sums.{count_by-le-length, sum_by-cons, sum_by-set}
use Rattle.std.proofs.lemmas.Bool.{cases_lt, cond_both, eqb-true, eqb-false}
use Rattle.rl_word.specs.laws.Places.{get_set_cases, get_set_same, get_set_other, get_map, get_map_back, map_set, set_same_get}
use Rattle.rl_word.specs.Acts.{written, told, word_of, Layout, IsLawful}
use Rattle.rl_word.specs.declared.acts.Act.{Act}
use Rattle.rl_word.specs.declared.acts.Act.TheVariants.{Load, Store, CardAdd}
use Rattle.rl_word.specs.declared.classes.Mode.{Mode}
use Rattle.rl_word.specs.declared.classes.Mode.TheVariants as mode
use Rattle.rl_step.specs.declared.events.Event.TheVariants.{EnterW}
use Rattle.rl_step.specs.declared.events.Standing.TheVariants as standing
use Rattle.rl_step.specs.Lock.{LockLaws, found, Told, IsHolder, Rests, Shift, holds_only, Suits, InOrder, AllNamed, FindsOld, IsLoad, PlansLoad, first_views, no_local, no_more}
use Rattle.rl_step.specs.laws.LockLemmas.{length-first_views, first_views_at}
use Rattle.ticket_lock.specs.declared.view.TicketView.{TicketView}
use Rattle.ticket_lock.specs.declared.view.Phase.{Phase}
use Rattle.ticket_lock.specs.declared.view.Phase.TheVariants.{Out, Drawing, Waiting, Inside, Releasing}
use Rattle.ticket_lock.specs.Ticket.{ticket_table, at_phase, told_as, ticket_plan, ticket_learn, ticket_leave, ticket_standing, ticket_of, tickets, drawn, words_at, HasTurn, IsLine, TicketGood}

-- one ticket for who has one, and none else
abbrev one : Option ℕ → ℕ
one o = cond (is_some o) 1 0

-- how many ranks have a ticket once the rank with the ticket `old` has `new`
drawn-set : (ts : List (Option ℕ)) (r : ℕ) (old new : Option ℕ) → slice_get ts r ≡ Some old → drawn (slice_set ts r new) + one old ≡ drawn ts + one new
drawn-set ts r old new h =
    subst (λ o. drawn (slice_set ts r new) + one o ≡ drawn ts + one new) (get_or_from_slice_get ts r old new h)
    (sum_by-set one ts r new new (slice_get_within ts r old h))

-- a rank without a ticket draws the next one
draws : (s : ℕ) (ts : List (Option ℕ)) (r x : ℕ) → IsLine s ts → slice_get ts r ≡ Some None → length ts < 2 ^ 64 →
    x ≡ (s + drawn ts) % 2 ^ 64 → IsLine s (slice_set ts r (Some x))
draws s ts r x line none few is =
    let more = drawn-set ts r None (Some x) none in
    let all = count_by-le-length (λ o. is_some o) (slice_set ts r (Some x)) in
    let long = length-set ts r (Some x) in
    let fresh : (i : ℕ) → slice_get ts i ≡ Some (Some x) → ⊥ = λ i h. let d = line.due i x h in omega (arith, d.since, d.before, d.is) in
    let cases = λ (i y : ℕ). get_set_cases ts r i (Some x) (Some y) in
    record {
      due = λ i y h. ⊎_elim
          (λ q. record { number = s + drawn ts; since = omega arith; before = omega arith; is = same_Some _ _ q.1 ∙ is })
          (λ q. let d = line.due i y q.1 in record { number = d.number; since = d.since; before = omega (arith, d.before); is = d.is }) (cases i y h);
      apart = λ i j y hi hj. ⊎_elim
          (λ p. ⊎_elim (λ q. p.0 ∙ sym q.0) (λ q. absurd (fresh j (q.1 ∙ ap Some p.1))) (cases j y hj))
          (λ p. ⊎_elim (λ q. absurd (fresh i (p.1 ∙ ap Some q.1))) (λ q. line.apart i j y p.1 q.1) (cases j y hj)) (cases i y hi);
      taken = λ k low. ⊎_elim
          (λ old. let t = line.taken k old in (t.0, get_set_other ts r t.0 (Some x) (λ e. let both = sym t.1 ∙ ap (slice_get ts) e ∙ none in cc) ∙ t.1))
          (λ new. let last : s + k ≡ s + drawn ts = omega (arith, more) in
          (r, get_set_same ts r None (Some x) none ∙ ap (λ y. Some (Some y)) (is ∙ ap (λ y. y % 2 ^ 64) (sym last))))
          (cases_lt k (drawn ts));
    }

-- the rank whose ticket is served gives it up, and the next one is served
releases : (s : ℕ) (ts : List (Option ℕ)) (r : ℕ) → IsLine s ts → slice_get ts r ≡ Some (Some (s % 2 ^ 64)) → length ts < 2 ^ 64 →
    IsLine (s + 1) (slice_set ts r None)
releases s ts r line mine few =
    let less = drawn-set ts r (Some (s % 2 ^ 64)) None mine in
    let old : (i x : ℕ) → slice_get (slice_set ts r None) i ≡ Some (Some x) → (i ≢ r) × (slice_get ts i ≡ Some (Some x)) =
    λ i x h. ⊎_elim (λ q. cc) (λ q. q) (get_set_cases ts r i None (Some x) h) in
    record {
      due = λ i x h. let q = old i x h in let d = line.due i x q.1 in
          let later : d.number ≢ s = λ e. q.0 (line.apart i r (s % 2 ^ 64) (q.1 ∙ ap (λ y. Some (Some y)) (d.is ∙ ap (λ y. y % 2 ^ 64) e)) mine) in
          record { number = d.number; since = omega (arith, d.since, later); before = omega (arith, d.before); is = d.is };
      apart = λ i j x hi hj. line.apart i j x (old i x hi).1 (old j x hj).1;
      taken = λ k low.
          let t = line.taken (k + 1) (omega (arith, less)) in
          let same : (s + (k + 1)) % 2 ^ 64 ≡ (s + 1 + k) % 2 ^ 64 = ap (λ y. y % 2 ^ 64) (omega arith) in
          let later : t.0 ≢ r = λ e.
          let one : (s + (k + 1)) % 2 ^ 64 ≡ s % 2 ^ 64 = same_Some _ _ (same_Some _ _ (sym t.1 ∙ ap (slice_get ts) e ∙ mine)) in
          omega (arith, one, less, few, count_by-le-length (λ o. is_some o) ts) in
          (t.0, get_set_other ts r t.0 None later ∙ t.1 ∙ ap (λ y. Some (Some y)) same);
    }

-- what holds of each act: three phases plan one
by_act : (P : Phase → Act → Type 0) → P Drawing (CardAdd 0 1) → ((x : ℕ) → P (Waiting x) (Load 1)) → ((x : ℕ) → P (Releasing x) (Store 1 ((x + 1) % 2 ^ 64))) →
    (p : Phase) (a : Act) → ticket_plan p ≡ Some a → P p a
by_act P draw look release Drawing a pl = subst (P Drawing) (same_Some _ _ pl) draw
by_act P draw look release (Waiting x) a pl = subst (P (Waiting x)) (same_Some _ _ pl) (look x)
by_act P draw look release (Releasing x) a pl = subst (P (Releasing x)) (same_Some _ _ pl) (release x)
by_act P draw look release _ a pl = cc

-- what holds of each holder: only who is inside is one
by_holder : (P : Phase → Type 0) → ((x : ℕ) → P (Inside x)) → (p : Phase) → IsHolder (ticket_standing p) → P p
by_holder P inside (Inside x) h = inside x
by_holder P inside _ h = absurd h

-- what a load of the served ticket tells: it is the rank's own, or it isn't
pub by_look : (P : Told TicketView → Type 0) (r x got : ℕ) → (got ≡ x → P (told_as r (Inside x) (EnterW r ∷ []) false)) →
    ((got ≡ x → ⊥) → P (told_as r (Waiting x) [] true)) →
    P (ticket_learn r (Waiting x) got)
by_look P r x got own other = cond_both (got == x) _ _ P (λ e. own (eqb-true got x e)) (λ e. other (eqb-false got x e))

-- what is told by each act: how it shifts the standing, on what it waits, in which order its events stand, and what they name
abbrev Tells : ℕ → Phase → Act → Told TicketView → Type 0
Tells r p a t = Shift r (ticket_standing p) (ticket_standing t.view.phase) (holds_only t.events) ×
    (t.waits ≡ true → IsLoad a × PlansLoad (ticket_plan t.view.phase)) ×
    (InOrder t.events × (length t.events ≤ 8)) × AllNamed [] (λ c. false) t.events

tells : (r k got : ℕ) → k ≡ r → (p : Phase) (a : Act) → ticket_plan p ≡ Some a → Tells r p a (ticket_learn k p got)
tells r k got e = by_act (λ p a. Tells r p a (ticket_learn k p got)) (refl, (λ w. cc), (tt, lit≤ tt), tt)
    (λ x. by_look (Tells r (Waiting x) (Load 1)) k x got (λ own. (ap (λ i. EnterW i ∷ []) e, (λ w. cc), (tt, lit≤ tt), (tt, tt)))
    (λ other. (refl, (λ w. (tt, tt)), (tt, lit≤ tt), tt)))
    (λ x. (refl, (λ w. cc), (tt, lit≤ tt), tt))

-- rank r's view, that of rank k in phase p, stands in a good state
module _ {n : ℕ} {ws : List ℕ} {views : List TicketView} {modes : List Mode} (g : TicketGood n ws views modes)
    (r : ℕ) {k : ℕ} {p : Phase} (has : slice_get views r ≡ Some (at_phase k p)) where
  -- so does the ticket that it has
  held : slice_get (tickets views) r ≡ Some (ticket_of p)
  held = get_map (λ z. ticket_of z.phase) views r _ has

  -- the state stays good where the rank goes to phase q, with the line, the words and the turns that this makes
  moves : {later_ws : List ℕ} {later_modes : List Mode} (q : Phase) (later : ℕ) → length later_modes ≡ n →
      later_ws ≡ words_at later (drawn (slice_set (tickets views) r (ticket_of q))) → IsLine later (slice_set (tickets views) r (ticket_of q)) →
      (HasTurn q → ticket_of q ≡ Some (later % 2 ^ 64)) → ((i : ℕ) (u : TicketView) → i ≢ r → slice_get views i ≡ Some u → HasTurn u.phase →
      ticket_of u.phase ≡ Some (later % 2 ^ 64)) →
      TicketGood n later_ws (slice_set views r (at_phase k q)) later_modes
  moves q later all_modes words line turn others =
      let same : slice_set (tickets views) r (ticket_of q) ≡ tickets (slice_set views r (at_phase k q)) =
      sym (map_set (λ v. ticket_of v.phase) views r (at_phase k q)) in
      let cases = λ (i : ℕ) (v : TicketView). get_set_cases views r i (at_phase k q) v in
      record {
        few = g.few;
        all_views = length-set views r (at_phase k q) ∙ g.all_views;
        all_modes = all_modes;
        named = λ i v h. ⊎_elim (λ c. ap (λ z. z.rank) c.1 ∙ g.named r _ has ∙ sym c.0) (λ c. g.named i v c.1) (cases i v h);
        served = later;
        two_words = words ∙ ap (λ ts. words_at later (drawn ts)) same;
        line = subst (IsLine later) same line;
        turns = λ i v h. ⊎_elim (λ c. subst (λ z. HasTurn z.phase → ticket_of z.phase ≡ Some (later % 2 ^ 64)) (sym c.1) turn)
            (λ c. others i v c.0 c.1) (cases i v h);
      }

  -- so it does where the rank keeps its ticket, or has none before and after, and the words are what they were
  stays : {later_ws : List ℕ} {later_modes : List Mode} (q : Phase) → length later_modes ≡ n →
      later_ws ≡ words_at g.served (drawn (tickets views)) → ticket_of p ≡ ticket_of q →
      (HasTurn q → ticket_of q ≡ Some (g.served % 2 ^ 64)) → TicketGood n later_ws (slice_set views r (at_phase k q)) later_modes
  stays q all_modes words keeps turn =
      let same = sym (set_same_get (tickets views) r (ticket_of q) (held ∙ ap Some keeps)) in
      moves q g.served all_modes (words ∙ ap (λ ts. words_at g.served (drawn ts)) same) (subst (IsLine g.served) same g.line) turn (λ i u ne. g.turns i u)

-- what an act of rank r in phase p leaves keeps the state good
abbrev After : ℕ → List TicketView → List Mode → ℕ → ℕ → Phase → Act → List ℕ → Type 0
After n views modes r k p a ws =
    TicketGood n (slice_set ws (word_of a) (written a (slice_index ws (word_of a))))
    (slice_set views r (ticket_learn k p (told a (slice_index ws (word_of a)))).view) modes

act_keeps : (n : ℕ) (ws : List ℕ) (views : List TicketView) (modes : List Mode) (r k : ℕ) (p : Phase) (a : Act) → TicketGood n ws views modes →
    slice_get views r ≡ Some (at_phase k p) → ticket_plan p ≡ Some a → After n views modes r k p a ws
act_keeps n ws views modes r k p a g has plans = subst (After n views modes r k p a) (sym g.two_words)
    (by_act (λ p a. slice_get views r ≡ Some (at_phase k p) → After n views modes r k p a (words_at g.served (drawn (tickets views)))) draw
    look release p a plans has) where
      draw : slice_get views r ≡ Some (at_phase k Drawing) → After n views modes r k Drawing (CardAdd 0 1) (words_at g.served (drawn (tickets views)))
      draw has =
          let next : ℕ = (g.served + drawn (tickets views)) % 2 ^ 64 in
          let more = drawn-set (tickets views) r None (Some next) (held g r has) in
          moves g r has (Waiting next) g.served g.all_modes (ap (λ y. y ∷ g.served % 2 ^ 64 ∷ []) (omega (arith, more)))
          (draws g.served (tickets views) r next g.line (held g r has) (omega (arith, length-map views (λ v. ticket_of v.phase), g.all_views, g.few)) refl)
          absurd (λ i u ne. g.turns i u)

      look : (x : ℕ) → slice_get views r ≡ Some (at_phase k (Waiting x)) →
          After n views modes r k (Waiting x) (Load 1) (words_at g.served (drawn (tickets views)))
      look x has = by_look (λ t. TicketGood n (words_at g.served (drawn (tickets views))) (slice_set views r t.view) modes) k x (g.served % 2 ^ 64)
          (λ own. stays g r has (Inside x) g.all_modes refl refl (λ t. ap Some (sym own))) (λ other. stays g r has (Waiting x) g.all_modes refl refl absurd)

      release : (x : ℕ) → slice_get views r ≡ Some (at_phase k (Releasing x)) →
          After n views modes r k (Releasing x) (Store 1 ((x + 1) % 2 ^ 64)) (words_at g.served (drawn (tickets views)))
      release x has =
          let turn = same_Some _ _ (g.turns r _ has tt) in
          let mine = held g r has ∙ ap (λ y. Some (Some y)) turn in
          let less = drawn-set (tickets views) r (Some (g.served % 2 ^ 64)) None mine in
          let next : (g.served + drawn (tickets views)) % 2 ^ 64 ≡ (g.served + 1 + drawn (slice_set (tickets views) r None)) % 2 ^ 64 =
          ap (λ y. y % 2 ^ 64) (omega (arith, less)) in
          let served : (x + 1) % 2 ^ 64 ≡ (g.served + 1) % 2 ^ 64 = omega (arith, turn) in
          moves g r has Out (g.served + 1) g.all_modes (cc) (releases g.served (tickets views) r g.line mine
          (omega (arith, length-map views (λ v. ticket_of v.phase), g.all_views, g.few)))
          absurd (λ i u ne h t. absurd (ne (g.line.apart i r (g.served % 2 ^ 64) (held g i h ∙ ap Some (g.turns i u h t)) mine)))

-- at first nobody has a ticket
none_at_first : (from n : ℕ) → drawn (tickets (first_views (λ r. at_phase r Out) from n)) ≡ 0
none_at_first from zero = refl
none_at_first from (suc n) = omega (arith, none_at_first (from + 1) n, sum_by-cons one None (tickets (first_views (λ r. at_phase r Out) (from + 1) n)))

begins_at : (n : ℕ) → n < 2 ^ 64 → TicketGood n (0 ∷ 0 ∷ []) (first_views (λ r. at_phase r Out) 0 n) (replicate n mode.Write)
begins_at n few =
    let first = first_views_at (λ r. at_phase r Out) 0 n in
    let none : (r x : ℕ) → slice_get (tickets (first_views (λ k. at_phase k Out) 0 n)) r ≡ Some (Some x) → ⊥ = λ r x h.
    let v = get_map_back (λ (v : TicketView). ticket_of v.phase) _ r (Some x) h in let out = ap (λ v. ticket_of v.phase) (first r v.0 v.1) in cc (out, v.2) in
    record {
      few = few;
      all_views = length-first_views (λ r. at_phase r Out) 0 n;
      all_modes = length-replicate n mode.Write;
      named = λ r v h. ap (λ z. z.rank) (first r v h) ∙ omega arith;
      served = 0;
      two_words = ap (λ c. words_at 0 c) (sym (none_at_first 0 n));
      line = record {
        due = λ r x h. absurd (none r x h);
        apart = λ i j x hi hj. absurd (none i x hi);
        taken =
            λ k low. absurd (omega (arith, none_at_first 0 n));
      };
      turns = λ r v h. subst (λ z. HasTurn z.phase → ticket_of z.phase ≡ Some 0) (sym (first r v h)) absurd;
    }

-- where there is one rank alone its ticket is served
served_alone : (ws : List ℕ) (views : List TicketView) (modes : List Mode) (r k x : ℕ) → TicketGood 1 ws views modes →
    slice_get views r ≡ Some (at_phase k (Waiting x)) → slice_index ws 1 ≡ x
served_alone ws views modes r k x g has =
    let d = g.line.due r x (held g r has) in
    let here : d.number ≡ g.served =
    omega (
      arith,
      d.since,
      d.before,
      g.all_views,
      count_by-le-length (λ o. is_some o) (tickets views),
      length-map views
          (λ v. ticket_of v.phase),
    ) in
    ap (λ z. slice_index z 1) g.two_words ∙ ap (λ y. y % 2 ^ 64) (sym here) ∙ sym d.is

pub ticket_laws : (home : ℕ) (layout : Layout) → home < layout.nodes → length layout.node_of < 2 ^ 64 →
    LockLaws (ticket_table home) (λ t. TicketGood (length layout.node_of) t.words t.views t.modes) no_more layout
ticket_laws home layout homed few =
    let n = length layout.node_of in
    record {
      begins = begins_at n few;
      sized = λ s g. (ap length g.two_words, g.all_views, g.all_modes);
      few_words = lit≤ tt;
      homes = λ w lt. homed;
      lawful = λ s r v a h. by_act (λ p b. IsLawful 2 (ticket_table home).spot layout r b × (no_local r b ≡ true))
          (record { there = lit< tt; homed = homed; allowed = refl }, refl)
          (λ x. (record { there = lit< tt; homed = homed; allowed = tt }, refl))
          (λ x. (record { there = lit< tt; homed = homed; allowed = refl }, refl)) v.phase a h.planned;
      keeps = λ s r v a h. act_keeps n s.words s.views s.modes r v.rank v.phase a h.is_good h.has h.planned;
      ask_keeps = λ s r v m g has out. stays g r has Drawing (length-set s.modes r m ∙ g.all_modes) g.two_words
          (elim v.phase as (λ p. ticket_standing p ≡ standing.Out → ticket_of p ≡ None) [ Out ↦ λ e. refl | _ ↦ λ e. cc ] out) absurd;
      leave_keeps_writer = λ s r v g has writes. by_holder (λ p. slice_get s.views r ≡ Some (at_phase v.rank p) → TicketGood n s.words
          (slice_set s.views r (at_phase v.rank (ticket_leave p))) s.modes)
          (λ x at. stays g r at (Releasing x) g.all_modes g.two_words refl (g.turns r _ at)) v.phase (subst IsHolder (sym writes) tt) has;
      leave_keeps_reader = λ s r v g has reads. absurd (elim v.phase as (λ p. ticket_standing p ≡ standing.Reader → ⊥) [ Out ↦ λ e. cc | _ ↦ λ e. cc ] reads);
      touch_keeps = λ s r w g. g;
      excludes = λ s i j v w g hi hj writes holds. let turn = by_holder HasTurn (λ x. tt) in
          g.line.apart i j (g.served % 2 ^ 64) (held g i hi ∙ ap Some (g.turns i v hi (turn v.phase (subst IsHolder (sym writes) tt))))
          (held g j hj ∙ ap Some (g.turns j w hj (turn w.phase holds)));
      suits = λ s r v m g has asked. elim v.phase as (λ p. Suits false m (ticket_standing p)) [ Out ↦ tt | _ ↦ tt ];
      first_out = λ r. refl;
      ask_asks = λ v m out. refl;
      leave_leaves = λ v h. by_holder (λ p. ticket_standing (ticket_leave p) ≡ standing.Leaving) (λ x. refl) v.phase h;
      rests = λ s r v g has. elim v.phase as (λ p. (ticket_plan p ≡ None) ↔ Rests (ticket_standing p))
          [ Out ↦ (λ e. tt, λ t. refl) | Inside x ↦ (λ e. tt, λ t. refl) | _ ↦ (λ e. cc, λ t. absurd t) ];
      shifts = λ s r v a h. (tells r v.rank _ (h.is_good.named r v h.has) v.phase a h.planned).0;
      waits_on_loads = λ s r v a h. (tells r v.rank _ (h.is_good.named r v h.has) v.phase a h.planned).1;
      orders = λ s r v a h. (tells r v.rank _ (h.is_good.named r v h.has) v.phase a h.planned).2;
      names = λ s r v a h. (tells r v.rank _ (h.is_good.named r v h.has) v.phase a h.planned).3;
      within = λ s q B d g has. cc;
      fifo = λ s q d g has. cc;
      counted = λ s q d g out has. cc;
      goes_further = λ s g. tt;
      finds = λ s r v a one h. by_act (λ p b. FindsOld b (found s b)) tt (λ x. tt) (λ x. tt) v.phase a h.planned;
      moves_on = λ s r v a one h. by_act (λ p b. slice_get s.views r ≡ Some (at_phase v.rank p) →
          (ticket_learn v.rank p (told b (found s b))).waits ≡ false) (λ has. refl)
          (λ x has. by_look (λ t. t.waits ≡ false) v.rank x _ (λ own. refl)
          (λ other. absurd (other (served_alone s.words s.views s.modes r v.rank x (subst (λ m. TicketGood m s.words s.views s.modes) one h.is_good) has))))
          (λ x has. refl) v.phase a h.planned h.has;
    }
