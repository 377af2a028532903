-- The spin lock meets the laws of a lock.
use Rattle.std.specs.Prelude.{◌≡◌, ◌≢◌, ◌⊎◌, ℕ, zero, suc, ◌+◌, ◌<◌, ◌≤◌, ◌↔◌, true, false, [], ◌∷◌, length, slice_get, slice_index, slice_set, Some, None, refl}
use Rattle.std.proofs.Common.{lit≤, sym, ◌∙◌, ap, subst, ⊎_elim, arith, length-set, get_or-set_same}
use Rattle.std.proofs.lemmas.Option.{same_Some, slice_get_within}
use Rattle.std.proofs.lemmas.List.{set-get_or, length-replicate}
use Rattle.rl_word.specs.laws.Places.{same_or_not}
use Rattle.std.proofs.Math.Dec.{eqb-suc-zero}
use Rattle.rl_word.specs.laws.Places.{get_set_cases, get_set_same, get_set_other}
use Rattle.rl_word.specs.Acts.{written, told, Layout, IsLawful}
use Rattle.rl_word.specs.declared.acts.Act.{Act}
use Rattle.rl_word.specs.declared.acts.Act.TheVariants.{CardCas, CardSwap}
use Rattle.rl_word.specs.declared.classes.Mode.{Mode}
use Rattle.rl_word.specs.declared.classes.Mode.TheVariants as mode
use Rattle.rl_step.specs.declared.events.Event.{Event}
use Rattle.rl_step.specs.declared.events.Event.TheVariants.{EnterW}
use Rattle.rl_step.specs.declared.events.Standing.TheVariants as standing
use Rattle.rl_step.specs.Lock.{LockState, LockLaws, opening, acted, asked, left, found, Told, IsHolder, Rests, Shift, holds_only, Suits, InOrder, AllNamed, FindsOld, no_local, no_more}
use Rattle.rl_step.specs.laws.LockLemmas.{length-first_views, first_views_at}
use Rattle.rl_spin.specs.declared.view.SpinView.{SpinView}
use Rattle.rl_spin.specs.declared.view.SpinPhase.{SpinPhase}
use Rattle.rl_spin.specs.declared.view.SpinPhase.TheVariants.{Out, Trying, Inside, Releasing}
use Rattle.rl_spin.specs.Spin.{SpinGood, spin_table, spin_at_phase, Owns, spin_plan, spin_learn, spin_standing, told_as}

-- A state stays good where rank r goes to phase p and the word becomes x: x is the rank's number exactly where p owns the
-- word, and another rank's exactly where that rank owned it before.
stays_good : (n : ℕ) (s t : LockState SpinView) (r : ℕ) (p : SpinPhase) (x : ℕ) →
    SpinGood n s → length t.modes ≡ n → length t.words ≡ 1 → slice_index t.words 0 ≡ x → (v : SpinView) → slice_get s.views r ≡ Some v →
    t.views ≡ slice_set s.views r (spin_at_phase v.rank p) →
    (Owns p → x ≡ r + 1) → (x ≡ r + 1 → Owns p) →
    ((i : ℕ) (u : SpinView) → i ≢ r → slice_get s.views i ≡ Some u → Owns u.phase → x ≡ i + 1) →
    ((i : ℕ) → i ≢ r → x ≡ i + 1 → (u : SpinView) × (slice_get s.views i ≡ Some u) × Owns u.phase) →
    SpinGood n t
stays_good n s t r p x g modes one is v has e mine back others kept =
    let cases : (i : ℕ) (u : SpinView) → slice_get t.views i ≡ Some u → ((i ≡ r) × (u ≡ spin_at_phase v.rank p)) ⊎ ((i ≢ r) × (slice_get s.views i ≡ Some u)) =
    λ i u h. get_set_cases s.views r i (spin_at_phase v.rank p) u (subst (λ vs. slice_get vs i ≡ Some u) e h) in
    record {
      one_word = one;
      all_modes = modes;
      all_views = ap length e ∙ length-set s.views r (spin_at_phase v.rank p) ∙ g.all_views;
      named = λ i u h. ⊎_elim (λ q. ap (λ z. z.rank) q.1 ∙ g.named r v has ∙ sym q.0) (λ q. g.named i u q.1) (cases i u h);
      owner = λ i u h o.
          is ∙ ⊎_elim (λ q. mine (subst (λ z. Owns z.phase) q.1 o) ∙ ap (λ k. k + 1) (sym q.0)) (λ q. others i u q.0 q.1 o) (cases i u h);
      held = λ i h.
          ⊎_elim
          (λ q. (
            spin_at_phase v.rank p,
            subst (λ vs. slice_get vs i ≡ Some (spin_at_phase v.rank p)) (sym e)
                (subst (λ k. slice_get (slice_set s.views r (spin_at_phase v.rank p)) k ≡ Some (spin_at_phase v.rank p)) (sym q)
                (get_set_same s.views r v _ has)),
            back (sym is ∙ h ∙ ap (λ k. k + 1) q),
          ))
          (λ q. let old = kept i q (sym is ∙ h) in
          (old.0, subst (λ vs. slice_get vs i ≡ Some old.0) (sym e) (get_set_other s.views r i _ q ∙ old.1), old.2))
          (same_or_not i r);
    }

-- the number of a rank that doesn't own the word isn't in it
not_its_number : (n : ℕ) (s : LockState SpinView) (r : ℕ) (v : SpinView) → SpinGood n s → slice_get s.views r ≡ Some v →
    (Owns v.phase → ⊥) → slice_index s.words 0 ≡ r + 1 → ⊥
not_its_number n s r v g has free e =
    let o = g.held r e in free (subst (λ z. Owns z.phase) (same_Some _ _ (sym o.1 ∙ has)) o.2)

-- the word after a write
after_write : (n : ℕ) (s : LockState SpinView) (y : ℕ) → SpinGood n s → slice_index (slice_set s.words 0 y) 0 ≡ y
after_write n s y g = let lt : 0 < length s.words = omega (arith, g.one_word) in get_or-set_same s.words 0 y 0 lt

-- a compare-and-swap that finds another value than 0 writes nothing, and the rank tries again
lost_word : (n w : ℕ) → written (CardCas 0 0 n) (suc w) ≡ suc w
lost_word n w = rw (eqb-suc-zero w)

lost_view : (k w : ℕ) → spin_learn k Trying (suc w) ≡ told_as (spin_at_phase k Trying) []
lost_view k w = rw (eqb-suc-zero w)

-- trying keeps a state good, whatever value w the word has
try_keeps : (n home : ℕ) (s : LockState SpinView) (r k : ℕ) (w : ℕ) → SpinGood n s → slice_get s.views r ≡ Some (spin_at_phase k Trying) →
    slice_index s.words 0 ≡ w →
    (t : LockState SpinView) → t.modes ≡ s.modes → t.words ≡ slice_set s.words 0
    (written (CardCas 0 0 (k + 1)) w) → t.views ≡ slice_set s.views r (spin_learn k Trying w).view → SpinGood n t
try_keeps n home s r k zero g has is t em ew ev =
    stays_good n s t r Inside (r + 1) g (ap length em ∙ g.all_modes) (ap length ew ∙ length-set s.words 0 (k + 1) ∙ g.one_word)
    (ap (λ ws. slice_index ws 0) ew ∙ after_write n s (k + 1) g ∙ ap (λ m. m + 1) (g.named r _ has)) _ has ev
    (λ o. refl) (λ o. tt)
    (λ i u ne h o. let c : 0 ≡ i + 1 = sym is ∙ g.owner i u h o in absurd (omega arith))
    (λ i ne h. absurd (ne (omega arith)))
try_keeps n home s r k (suc w) g has is t em ew ev =
    let same : t.words ≡ s.words = ew ∙ ap (λ z. slice_set s.words 0 z) (lost_word (k + 1) w)
    ∙ subst (λ z. slice_set s.words 0 z ≡ s.words) is (set-get_or s.words 0 0) in
    stays_good n s t r Trying (suc w) g (ap length em ∙ g.all_modes) (ap length same ∙ g.one_word)
    (ap (λ ws. slice_index ws 0) same ∙ is) _ has (ev ∙ ap (λ z. slice_set s.views r z.view) (lost_view k w))
    absurd (λ h. not_its_number n s r _ g has (λ o. o) (is ∙ h))
    (λ i u ne h o. sym is ∙ g.owner i u h o)
    (λ i ne h. g.held i (is ∙ h))

-- releasing keeps a state good
release_keeps : (n home : ℕ) (s : LockState SpinView) (r k : ℕ) → SpinGood n s → slice_get s.views r ≡ Some (spin_at_phase k Releasing) →
    (t : LockState SpinView) → t.modes ≡ s.modes → t.words ≡ slice_set s.words 0 0 → t.views ≡ slice_set s.views r (spin_at_phase k Out) → SpinGood n t
release_keeps n home s r k g has t em ew ev =
    stays_good n s t r Out 0 g (ap length em ∙ g.all_modes) (ap length ew ∙ length-set s.words 0 0 ∙ g.one_word)
    (ap (λ ws. slice_index ws 0) ew ∙ after_write n s 0 g) _ has ev
    absurd (λ h. absurd (omega arith))
    (λ i u ne h o. let a : slice_index s.words 0 ≡ i + 1 = g.owner i u h o in let b : slice_index s.words 0 ≡ r + 1 = g.owner r _ has tt in
    absurd (ne (omega arith)))
    (λ i ne h. absurd (omega arith))

-- an act in any phase keeps a state good
act_keeps : (n home : ℕ) (s : LockState SpinView) (r k : ℕ) (p : SpinPhase) (a : Act) → SpinGood n s →
    slice_get s.views r ≡ Some (spin_at_phase k p) → spin_plan k p ≡ Some a →
    SpinGood n (acted (spin_table home) s r (spin_at_phase k p) a)
act_keeps n home s r k Out a g has pl = cc
act_keeps n home s r k Trying a g has pl =
    subst (λ b. SpinGood n (acted (spin_table home) s r (spin_at_phase k Trying) b)) (same_Some _ _ pl)
    (try_keeps n home s r k (slice_index s.words 0) g has refl (acted (spin_table home) s r (spin_at_phase k Trying) (CardCas 0 0 (k + 1))) refl refl refl)
act_keeps n home s r k Inside a g has pl = cc
act_keeps n home s r k Releasing a g has pl =
    subst (λ b. SpinGood n (acted (spin_table home) s r (spin_at_phase k Releasing) b)) (same_Some _ _ pl)
    (release_keeps n home s r k g has (acted (spin_table home) s r (spin_at_phase k Releasing) (CardSwap 0 0)) refl refl refl)

-- both acts are card acts on the one word, which is a card word
lawful_at : (home : ℕ) (layout : Layout) (r k : ℕ) (p : SpinPhase) (a : Act) → home < layout.nodes → spin_plan k p ≡ Some a →
    IsLawful 1 (spin_table home).spot layout r a × (no_local r a ≡ true)
lawful_at home layout r k Out a h pl = cc
lawful_at home layout r k Trying a h pl =
    subst (λ b. IsLawful 1 (spin_table home).spot layout r b × (no_local r b ≡ true)) (same_Some _ _ pl)
    (record { there = omega arith; homed = h; allowed = refl }, refl)
lawful_at home layout r k Inside a h pl = cc
lawful_at home layout r k Releasing a h pl =
    subst (λ b. IsLawful 1 (spin_table home).spot layout r b × (no_local r b ≡ true)) (same_Some _ _ pl)
    (record { there = omega arith; homed = h; allowed = refl }, refl)

-- asking keeps a state good
ask_keeps_at : (n home : ℕ) (s : LockState SpinView) (r k : ℕ) (p : SpinPhase) (m : Mode) → SpinGood n s →
    slice_get s.views r ≡ Some (spin_at_phase k p) → spin_standing p ≡ standing.Out →
    SpinGood n (asked (spin_table home) s r (spin_at_phase k p) m)
ask_keeps_at n home s r k Out m g has st =
    stays_good n s _ r Trying (slice_index s.words 0) g (length-set s.modes r m ∙ g.all_modes) g.one_word refl _ has refl
    absurd (λ h. not_its_number n s r _ g has (λ o. o) h)
    (λ i u ne h o. g.owner i u h o)
    (λ i ne h. g.held i h)
ask_keeps_at n home s r k Trying m g has st = cc
ask_keeps_at n home s r k Inside m g has st = cc
ask_keeps_at n home s r k Releasing m g has st = cc

-- so does leaving, with whatever event
leave_keeps_at : (n home : ℕ) (s : LockState SpinView) (r k : ℕ) (p : SpinPhase) (e : Event) → SpinGood n s →
    slice_get s.views r ≡ Some (spin_at_phase k p) → spin_standing p ≡ standing.Writer →
    SpinGood n (left (spin_table home) s r (spin_at_phase k p) e)
leave_keeps_at n home s r k Out e g has st = cc
leave_keeps_at n home s r k Trying e g has st = cc
leave_keeps_at n home s r k Inside e g has st =
    stays_good n s _ r Releasing (slice_index s.words 0) g g.all_modes g.one_word refl _ has refl
    (λ o. g.owner r _ has tt) (λ h. tt)
    (λ i u ne h o. g.owner i u h o)
    (λ i ne h. g.held i h)
leave_keeps_at n home s r k Releasing e g has st = cc

-- nobody stands as a reader; who stands as a writer, or holds the lock, owns the word
no_reader : (p : SpinPhase) → spin_standing p ≡ standing.Reader → ⊥
no_reader Out e = cc
no_reader Trying e = cc
no_reader Inside e = cc
no_reader Releasing e = cc

writer_owns : (p : SpinPhase) → spin_standing p ≡ standing.Writer → Owns p
writer_owns Out e = cc
writer_owns Trying e = cc
writer_owns Inside e = tt
writer_owns Releasing e = cc

holder_owns : (p : SpinPhase) → IsHolder (spin_standing p) → Owns p
holder_owns Out h = absurd h
holder_owns Trying h = absurd h
holder_owns Inside h = tt
holder_owns Releasing h = absurd h

-- no act is planned exactly where a rank is out or inside
rests_at : (k : ℕ) (p : SpinPhase) → (spin_plan k p ≡ None) ↔ Rests (spin_standing p)
rests_at k Out = (λ e. tt, λ t. refl)
rests_at k Trying = (λ e. cc, λ t. absurd t)
rests_at k Inside = (λ e. tt, λ t. refl)
rests_at k Releasing = (λ e. cc, λ t. absurd t)

suits_at : (m : Mode) (p : SpinPhase) → Suits false m (spin_standing p)
suits_at m Out = tt
suits_at m Trying = tt
suits_at m Inside = tt
suits_at m Releasing = tt

-- the events of an act, and that none waits
act_events : (k : ℕ) (p : SpinPhase) (w : ℕ) → InOrder (spin_learn k p w).events × (length (spin_learn k p w).events ≤ 8) × AllNamed []
    (λ c. false) (spin_learn k p w).events × ((spin_learn k p w).waits ≡ false)
act_events k Out w = (tt, omega arith, tt, refl)
act_events k Trying zero = (tt, omega arith, (tt, tt), refl)
act_events k Trying (suc w) =
    let P : Told SpinView → Type 0 = λ z. InOrder z.events × (length z.events ≤ 8) × AllNamed [] (λ c. false) z.events × (z.waits ≡ false) in
    subst P (sym (lost_view k w)) (tt, omega arith, tt, refl)
act_events k Inside w = (tt, omega arith, tt, refl)
act_events k Releasing w = (tt, omega arith, tt, refl)

-- one rank alone finds the word free
finds_at : (s : LockState SpinView) (r k : ℕ) (p : SpinPhase) (a : Act) → SpinGood 1 s → slice_get s.views r ≡ Some (spin_at_phase k p) →
    spin_plan k p ≡ Some a → FindsOld a (found s a)
finds_at s r k Out a g has pl = cc
finds_at s r k Trying a g has pl = subst (λ b. FindsOld b (found s b)) (same_Some _ _ pl) (free (slice_index s.words 0) refl) where
  free : (w : ℕ) → slice_index s.words 0 ≡ w → slice_index s.words 0 ≡ 0
  free zero e = e
  free (suc w) e =
      let here : slice_index s.words 0 ≡ w + 1 = e ∙ omega arith in
      let h = g.held w here in
      let a : w < length s.views = slice_get_within s.views w h.0 h.1 in
      let b : r < length s.views = slice_get_within s.views r (spin_at_phase k Trying) has in
      let c : length s.views ≡ 1 = g.all_views in
      let same : w ≡ r = omega arith in
      absurd (not_its_number 1 s r _ g has (λ o. o) (here ∙ ap (λ z. z + 1) same))
finds_at s r k Inside a g has pl = cc
finds_at s r k Releasing a g has pl = subst (λ b. FindsOld b (found s b)) (same_Some _ _ pl) tt

-- an act takes a rank from asking to writer, with its enter event, or from leaving to out
shifts_at : (r k : ℕ) (p : SpinPhase) (a : Act) (w : ℕ) → k ≡ r → spin_plan k p ≡ Some a →
    Shift r (spin_standing p) (spin_standing (spin_learn k p w).view.phase) (holds_only (spin_learn k p w).events)
shifts_at r k Out a w e pl = cc
shifts_at r k Trying a zero e pl = ap (λ i. EnterW i ∷ []) e
shifts_at r k Trying a (suc w) e pl =
    let P : Told SpinView → Type 0 = λ z. Shift r standing.Asking (spin_standing z.view.phase) (holds_only z.events) in subst P (sym (lost_view k w)) refl
shifts_at r k Inside a w e pl = cc
shifts_at r k Releasing a w e pl = refl

-- the opening state is good: the word is 0 and nobody owns it
begins_at : (home n : ℕ) → SpinGood n (opening (spin_table home) n)
begins_at home n =
    let first : (r : ℕ) (v : SpinView) → slice_get (opening (spin_table home) n).views r ≡ Some v → v ≡ spin_at_phase (0 + r) Out =
    λ r v h. first_views_at (spin_table home).first 0 n r v h in
    record {
      one_word = refl;
      all_views = length-first_views (spin_table home).first 0 n;
      all_modes = length-replicate n mode.Write;
      named = λ r v h. ap (λ z. z.rank) (first r v h) ∙ omega arith;
      owner = λ r v h o. absurd (subst (λ z. Owns z.phase) (first r v h) o);
      held = λ r h. absurd (omega arith);
    }

-- all laws of a lock
pub spin_laws : (home : ℕ) (layout : Layout) → home < layout.nodes → LockLaws (spin_table home) (SpinGood (length layout.node_of)) no_more layout
spin_laws home layout homed =
    record {
      begins = begins_at home (length layout.node_of);
      sized = λ s g. (g.one_word, g.all_views, g.all_modes);
      few_words = lit≤ tt;
      homes = λ w lt. homed;
      lawful = λ s r v a h. lawful_at home layout r v.rank v.phase a homed h.planned;
      keeps = λ s r v a h. act_keeps (length layout.node_of) home s r v.rank v.phase a h.is_good h.has h.planned;
      ask_keeps = λ s r v m g has out. ask_keeps_at (length layout.node_of) home s r v.rank v.phase m g has out;
      leave_keeps_writer = λ s r v g has st. leave_keeps_at (length layout.node_of) home s r v.rank v.phase _ g has st;
      leave_keeps_reader = λ s r v g has st. absurd (no_reader v.phase st);
      touch_keeps = λ s r w g. record {
        one_word = g.one_word;
        all_views = g.all_views;
        all_modes = g.all_modes;
        named = g.named;
        owner =
            g.owner;
        held = g.held;
      };
      excludes = λ s i j v w g hi hj wv hw.
          let a : slice_index s.words 0 ≡ i + 1 = g.owner i v hi (writer_owns v.phase wv) in
          let b : slice_index s.words 0 ≡ j + 1 = g.owner j w hj (holder_owns w.phase hw) in
          omega arith;
      suits = λ s r v m g has asked. suits_at m v.phase;
      first_out = λ r. refl;
      ask_asks = λ v m out. refl;
      leave_leaves = λ v h. refl;
      rests = λ s r v g has. rests_at v.rank v.phase;
      shifts = λ s r v a h. shifts_at r v.rank v.phase a _ (h.is_good.named r v h.has) h.planned;
      waits_on_loads = λ s r v a h w. let never = (act_events v.rank v.phase (told a (found s a))).3 in let bad : false ≡ true = sym never ∙ w in cc;
      orders = λ s r v a h. let e = act_events v.rank v.phase (told a (found s a)) in (e.0, e.1);
      names = λ s r v a h. (act_events v.rank v.phase (told a (found s a))).2;
      within = λ s q B d g has. cc;
      fifo = λ s q d g has. cc;
      counted = λ s q d g out has. cc;
      goes_further = λ s g. tt;
      finds = λ s r v a one h. finds_at s r v.rank v.phase a (subst (λ n. SpinGood n s) one h.is_good) h.has h.planned;
      moves_on = λ s r v a one h. (act_events v.rank v.phase (told a (found s a))).3;
    }
