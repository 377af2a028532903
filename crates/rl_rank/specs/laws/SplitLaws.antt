-- Each atom of a split act can be made and keeps the lock's part of the rule, for every lock.
use Rattle.std.specs.Prelude.{◌≡◌, ◌≢◌, ◌⊎◌, ℕ, ◌+◌, ◌<◌, ◌==◌, true, false, List, [], ◌++◌, length, map, if◌then◌else◌, slice_get, slice_index, slice_set, ◌-◌, Option, Some, None, refl}
use Rattle.std.proofs.Common.{sym, ◌∙◌, ap, subst, inl, inr, ⊎_elim, arith, length-set, get_or-set_same, get_or-set_other}
use Rattle.std.proofs.lemmas.Option.{same_Some}
use Rattle.std.proofs.lemmas.List.{set-get_or, append-nil}
use Rattle.rl_step.specs.declared.events.Stepped.TheVariants.{Moved, Busy}
use Rattle.std.proofs.lemmas.Bool.Decides.{eqb_tells}
use Rattle.rl_word.specs.laws.Places.{get_set_cases, get_set_same, get_set_other, same_or_not, set_same_get, get_map, map_set}
use Rattle.rl_word.specs.Acts.{word_of, written, told, by_card, Layout, IsLawful}
use Rattle.rl_word.specs.declared.acts.Act.{Act}
use Rattle.rl_word.specs.declared.acts.Act.TheVariants as act
use Rattle.rl_word.specs.declared.classes.Class.TheVariants as class
use Rattle.rl_word.specs.declared.acts.Atom.{Atom}
use Rattle.rl_word.specs.declared.acts.Atom.TheVariants as atom
use Rattle.rl_step.specs.Lock.{LockTable, LockState, LockLaws, acted, Deed}
use Rattle.rl_step.specs.Do.{do_words, do_cards, do_got, CanDo}
use Rattle.rl_step.specs.Core.{home_at}
use Rattle.rl_step.specs.declared.events.Event.{Event}
use Rattle.rl_rank.specs.declared.card_state.CardState.{CardState}
use Rattle.rl_rank.specs.declared.card_state.CardState.TheVariants.{Free, InCard, Loaded, ToLeave}
use Rattle.rl_rank.specs.declared.effect.Effect.TheVariants.{Stay, Learn}
use Rattle.rl_rank.specs.declared.side.Side.{Side}
use Rattle.rl_core.specs.Domains.{UsesCards}
use Rattle.rl_rank.specs.Split.{SplitState, LockGood, side_atom, card_atom, card_after, lock_of, view_of, card_of, card_in, StandsStill, moved, skips, home_of, turned_side, first_atom, Leads, Past, grown, deed_of}
use Rattle.rl_rank.specs.laws.SplitActs.{bool_cases, in_range, still_after_write, first_card, plain_words, plain_cards, plain_got, skipped_words, told_card, card_class, plain_class, after_plain, after_take, after_busy, after_load, after_skip}

module _ (V : Type 0) (T : LockTable V) (good : LockState V → Type 0) (further : List Event → List Deed → Type 0) (layout : Layout)
    (laws : LockLaws T good further layout) where
  pub good_at : (l m : LockState V) → l.words ≡ m.words → l.views ≡ m.views → l.modes ≡ m.modes → l.trace ≡ m.trace → l.deeds ≡ m.deeds → good l → good m
  good_at l m ew ev em et ed g =
      subst (λ z. good (record { words = m.words; views = m.views; modes = m.modes; trace = m.trace; deeds = z })) ed
      (subst (λ z. good (record { words = m.words; views = m.views; modes = m.modes; trace = z; deeds = l.deeds })) et
      (subst (λ z. good (record { words = m.words; views = m.views; modes = z; trace = l.trace; deeds = l.deeds })) em
      (subst (λ z. good (record { words = m.words; views = z; modes = l.modes; trace = l.trace; deeds = l.deeds })) ev
      (subst (λ z. good (record { words = z; views = l.views; modes = l.modes; trace = l.trace; deeds = l.deeds })) ew g))))

  pub grown_nil : (p : Past) → grown p [] [] ≡ p
  grown_nil p = ap (λ z. record { trace = z; deeds = p.deeds ++ [] }) (append-nil p.trace)
      ∙ ap (λ z. record { trace = p.trace; deeds = z }) (append-nil p.deeds)

  -- the lock sees nothing of a step that keeps the words, the rank's view and the trace
  pub lock_same : (s t : SplitState V) (r : ℕ) (x y : Side V) → good (lock_of s) → slice_get s.sides r ≡ Some x →
      t.words ≡ s.words → t.sides ≡ slice_set s.sides r y → y.view ≡ x.view → t.modes ≡ s.modes → t.past ≡ s.past → good (lock_of t)
  lock_same s t r x y g has ew es ev em et =
      good_at (lock_of s) (lock_of t) (sym ew)
      (sym (ap (map view_of) es ∙ map_set view_of s.sides r y ∙ ap (slice_set (map view_of s.sides) r) ev
      ∙ set_same_get (map view_of s.sides) r x.view (get_map view_of s.sides r x has)))
      (sym em) (sym (ap (λ z. z.trace) et)) (sym (ap (λ z. z.deeds) et)) g

  -- the lock sees a learnt act made at once
  pub lock_acted : (s t : SplitState V) (r : ℕ) (x y : Side V) (a : Act) → good (lock_of s) → slice_get s.sides r ≡ Some x → T.plan x.view ≡ Some a →
      t.words ≡ slice_set s.words (word_of a) (written a (slice_index s.words (word_of a))) → t.sides ≡ slice_set s.sides r y →
      y.view ≡ (T.learn x.view (told a (slice_index s.words (word_of a)))).view → t.modes ≡ s.modes →
      t.past ≡ grown s.past (T.learn x.view (told a (slice_index s.words (word_of a)))).events
      (deed_of r (Some a) (told a (slice_index s.words (word_of a))) (T.learn x.view (told a (slice_index s.words (word_of a)))).events)
      → good (lock_of t)
  lock_acted s t r x y a g has pl ew es ev em et =
      good_at (acted T (lock_of s) r x.view a) (lock_of t) (sym ew)
      (sym (ap (map view_of) es ∙ map_set view_of s.sides r y ∙ ap (slice_set (map view_of s.sides) r) ev))
      (sym em) (sym (ap (λ z. z.trace) et)) (sym (ap (λ z. z.deeds) et))
      (laws.keeps (lock_of s) r x.view a (record { is_good = g; has = get_map view_of s.sides r x has; planned = pl }))

  -- a state with rank r's side changed to y
  pub changed : (s t : SplitState V) (r : ℕ) (x y : Side V) → LockGood T good layout s → slice_get s.sides r ≡ Some x → t.sides ≡ slice_set s.sides r y →
      good (lock_of t) → length t.cards ≡ layout.nodes →
      ((n : ℕ) → card_of T y ≡ Some n → slice_index t.cards n ≡ r + 1) →
      ((n : ℕ) → slice_index t.cards n ≡ r + 1 → card_of T y ≡ Some n) →
      ((n : ℕ) → card_of T y ≡ Some n → UsesCards T.may_make r) →
      ((i n : ℕ) → i ≢ r → slice_index s.cards n ≡ i + 1 → slice_index t.cards n ≡ i + 1) →
      ((i n : ℕ) → i ≢ r → slice_index t.cards n ≡ i + 1 → slice_index s.cards n ≡ i + 1) →
      StandsStill t.words (T.plan y.view) y.card →
      ((i : ℕ) (u : Side V) → i ≢ r → slice_get s.sides i ≡ Some u → StandsStill t.words (T.plan u.view) u.card) →
      LockGood T good layout t
  changed s t r x y g has es lock cards mine back may others_in others_out holds others =
      let cases : (i : ℕ) (u : Side V) → slice_get t.sides i ≡ Some u → ((i ≡ r) × (u ≡ y)) ⊎ ((i ≢ r) × (slice_get s.sides i ≡ Some u)) =
      λ i u h. get_set_cases s.sides r i y u (subst (λ zs. slice_get zs i ≡ Some u) es h) in
      record {
        lock = lock;
        all_cards = cards;
        names = λ i n u h c.
            ⊎_elim
            (λ q. mine n (subst (λ z. card_of T z ≡ Some n) q.1 c) ∙ ap (λ k. k + 1) (sym q.0))
            (λ q. others_in i n q.0 (g.names i n u q.1 c))
            (cases i u h);
        named = λ i n h.
            ⊎_elim
            (λ q. (
              y,
              subst (λ zs. slice_get zs i ≡ Some y) (sym es) (subst (λ k. slice_get (slice_set s.sides r y) k ≡ Some y) (sym q)
                  (get_set_same s.sides r x y has)),
              back n (h ∙ ap (λ k. k + 1) q),
            ))
            (λ q. let old = g.named i n (others_out i n q h) in
            (old.0, subst (λ zs. slice_get zs i ≡ Some old.0) (sym es) (get_set_other s.sides r i y q ∙ old.1), old.2))
            (same_or_not i r);
        still = λ i u h.
            ⊎_elim (λ q. subst (λ z. StandsStill t.words (T.plan z.view) z.card) (sym q.1) holds) (λ q. others i u q.0 q.1) (cases i u h);
        domain = λ i n u h c.
            ⊎_elim (λ q. subst (UsesCards T.may_make) (sym q.0) (may n (subst (λ z. card_of T z ≡ Some n) q.1 c))) (λ q. g.domain i n u q.1 c) (cases i u h);
      }

  -- the same with the cards as they were
  pub same_cards : (s t : SplitState V) (r : ℕ) (x y : Side V) → LockGood T good layout s → slice_get s.sides r ≡ Some x → t.sides ≡ slice_set s.sides r y →
      good (lock_of t) → t.cards ≡ s.cards → card_of T y ≡ card_of T x →
      StandsStill t.words (T.plan y.view) y.card →
      ((i : ℕ) (u : Side V) → i ≢ r → slice_get s.sides i ≡ Some u → StandsStill t.words (T.plan u.view) u.card) →
      LockGood T good layout t
  same_cards s t r x y g has es lock ec ey holds others =
      changed s t r x y g has es lock (ap length ec ∙ g.all_cards)
      (λ n c. ap (λ cs. slice_index cs n) ec ∙ g.names r n x has (sym ey ∙ c))
      (λ n c. let o = g.named r n (sym (ap (λ cs. slice_index cs n) ec) ∙ c) in
      ey ∙ ap (card_of T) (same_Some _ _ (sym has ∙ o.1)) ∙ o.2)
      (λ n c. g.domain r n x has (sym ey ∙ c))
      (λ i n ne c. ap (λ cs. slice_index cs n) ec ∙ c)
      (λ i n ne c. sym (ap (λ cs. slice_index cs n) ec) ∙ c)
      holds others

  -- a rank in a card leaves it
  pub leave_keeps : (s t : SplitState V) (r : ℕ) (v : V) (p : Option Act) (n : ℕ) → LockGood T good layout s →
      slice_get s.sides r ≡ Some (record { view = v; card = ToLeave n }) →
      Leads T s t r v p (ToLeave n) (atom.Leave n) → LockGood T good layout t
  leave_keeps s t r v p n g has l =
      let here : slice_index s.cards n ≡ r + 1 = g.names r n _ has refl in
      let fits : n < length s.cards = in_range s.cards n r here in
      changed s t r (record { view = v; card = ToLeave n }) (record { view = v; card = Free }) g has l.sides
      (lock_same s t r (record { view = v; card = ToLeave n }) (record { view = v; card = Free }) g.lock has l.words l.sides refl l.modes
      (l.past ∙ grown_nil s.past))
      (ap length l.cards ∙ length-set s.cards n 0 ∙ g.all_cards)
      (λ k c. cc)
      (λ k c. ⊎_elim
      (λ q. let z : slice_index t.cards k ≡ 0 = ap (λ cs. slice_index cs k) l.cards ∙ ap (slice_index (slice_set s.cards n 0)) q
      ∙ get_or-set_same s.cards n 0 0 fits in absurd (omega arith))
      (λ q. let old : slice_index s.cards k ≡ r + 1 = sym (get_or-set_other s.cards n k 0 0 q) ∙ sym (ap (λ cs. slice_index cs k) l.cards) ∙ c in
      let o = g.named r k old in
      absurd (q (same_Some _ _ (sym o.2 ∙ ap (card_of T) (same_Some _ _ (sym o.1 ∙ has))))))
      (same_or_not k n))
      (λ k c. cc)
      (λ i k ne c. ap (λ cs. slice_index cs k) l.cards ∙ get_or-set_other s.cards n k 0 0
      (λ q. ne (let d : slice_index s.cards n ≡ i + 1 = sym (ap (slice_index s.cards) q) ∙ c in omega arith)) ∙ c)
      (λ i k ne c. ⊎_elim
      (λ q. let z : slice_index t.cards k ≡ 0 = ap (λ cs. slice_index cs k) l.cards ∙ ap (slice_index (slice_set s.cards n 0)) q
      ∙ get_or-set_same s.cards n 0 0 fits in absurd (omega arith))
      (λ q. sym (get_or-set_other s.cards n k 0 0 q) ∙ sym (ap (λ cs. slice_index cs k) l.cards) ∙ c)
      (same_or_not k n))
      tt
      (λ i u ne h. subst (λ ws. StandsStill ws (T.plan u.view) u.card) (sym l.words) (g.still i u h))

  -- a rank takes a free card
  pub take_keeps : (s t : SplitState V) (r : ℕ) (v : V) (a : Act) (n : ℕ) → LockGood T good layout s →
      slice_get s.sides r ≡ Some (record { view = v; card = Free }) → T.plan v ≡ Some a →
      by_card a ≡ true → T.may_make r a ≡ true → n ≡ home_of T (word_of a) → n < length s.cards → slice_index s.cards n ≡ 0 →
      t.words ≡ s.words → t.cards ≡ slice_set s.cards n (r + 1) → t.sides ≡ slice_set s.sides r
      (record { view = v; card = InCard }) → t.modes ≡ s.modes → t.past ≡ s.past →
      LockGood T good layout t
  take_keeps s t r v a n g has pl bc may en fits free ew ec es em et =
      let x : Side V = record { view = v; card = Free } in
      let y : Side V = record { view = v; card = InCard } in
      let cy : card_of T y ≡ Some n = ap (λ q. card_in T q InCard) pl ∙ ap (λ k. Some k) (sym en) in
      changed s t r x y g has es
      (lock_same s t r x y g.lock has ew es refl em et)
      (ap length ec ∙ length-set s.cards n (r + 1) ∙ g.all_cards)
      (λ k c. ap (λ cs. slice_index cs k) ec ∙ ap (slice_index (slice_set s.cards n (r + 1))) (same_Some _ _ (sym c ∙ cy))
      ∙ get_or-set_same s.cards n (r + 1) 0 fits)
      (λ k c. ⊎_elim
      (λ q. cy ∙ ap (λ j. Some j) (sym q))
      (λ q. let old : slice_index s.cards k ≡ r + 1 = sym (get_or-set_other s.cards n k (r + 1) 0 q) ∙ sym (ap (λ cs. slice_index cs k) ec) ∙ c in
      let o = g.named r k old in
      let none : card_of T x ≡ Some k = ap (card_of T) (same_Some _ _ (sym has ∙ o.1)) ∙ o.2 in cc)
      (same_or_not k n))
      (λ k c. (a, bc, may))
      (λ i k ne c. ap (λ cs. slice_index cs k) ec ∙ get_or-set_other s.cards n k (r + 1) 0 (λ q. let z : slice_index s.cards n ≡ i + 1 =
      sym (ap (slice_index s.cards) q) ∙ c in absurd (omega arith)) ∙ c)
      (λ i k ne c. ⊎_elim
      (λ q. let z : slice_index t.cards k ≡ r + 1 = ap (λ cs. slice_index cs k) ec ∙ ap (slice_index (slice_set s.cards n (r + 1))) q
      ∙ get_or-set_same s.cards n (r + 1) 0 fits in
      absurd (ne (omega arith)))
      (λ q. sym (get_or-set_other s.cards n k (r + 1) 0 q) ∙ sym (ap (λ cs. slice_index cs k) ec) ∙ c)
      (same_or_not k n))
      (subst (λ q. StandsStill t.words q InCard) (sym pl) bc)
      (λ i u ne h. subst (λ ws. StandsStill ws (T.plan u.view) u.card) (sym ew) (g.still i u h))

  -- nothing is changed
  pub busy_keeps : (s t : SplitState V) (r : ℕ) (x : Side V) → LockGood T good layout s → slice_get s.sides r ≡ Some x →
      t.words ≡ s.words → t.cards ≡ s.cards → t.sides ≡ slice_set s.sides r x → t.modes ≡ s.modes → t.past ≡ s.past →
      LockGood T good layout t
  busy_keeps s t r x g has ew ec es em et =
      same_cards s t r x x g has es (lock_same s t r x x g.lock has ew es refl em et) ec refl
      (subst (λ ws. StandsStill ws (T.plan x.view) x.card) (sym ew) (g.still r x has))
      (λ i u ne h. subst (λ ws. StandsStill ws (T.plan u.view) u.card) (sym ew) (g.still i u h))

  -- a rank in a card loads
  pub load_keeps : (s t : SplitState V) (r : ℕ) (v : V) (a : Act) → LockGood T good layout s →
      slice_get s.sides r ≡ Some (record { view = v; card = InCard }) → T.plan v ≡ Some a →
      skips a (slice_index s.words (word_of a)) ≡ false →
      t.words ≡ s.words → t.cards ≡ s.cards → t.sides ≡ slice_set s.sides r
      (record { view = v; card = Loaded (slice_index s.words (word_of a)) }) → t.modes ≡ s.modes → t.past ≡ s.past →
      LockGood T good layout t
  load_keeps s t r v a g has pl sk ew ec es em et =
      let x : Side V = record { view = v; card = InCard } in
      let y : Side V = record { view = v; card = Loaded (slice_index s.words (word_of a)) } in
      let bc : by_card a ≡ true = subst (λ q. StandsStill s.words q InCard) pl (g.still r x has) in
      same_cards s t r x y g has es (lock_same s t r x y g.lock has ew es refl em et) ec
      (ap (λ q. card_in T q y.card) pl ∙ sym (ap (λ q. card_in T q InCard) pl))
      (subst (λ q. StandsStill t.words q y.card) (sym pl) (bc, sk, ap (λ ws. slice_index ws (word_of a)) ew))
      (λ i u ne h. subst (λ ws. StandsStill ws (T.plan u.view) u.card) (sym ew) (g.still i u h))

  -- no other rank has loaded the word of a rank's act
  pub not_loaded : (s : SplitState V) (r : ℕ) (x : Side V) (a : Act) → LockGood T good layout s → slice_get s.sides r ≡ Some x → T.plan x.view ≡ Some a →
      ((by_card a ≡ true) × (slice_index s.cards (home_of T (word_of a)) ≡ r + 1)) ⊎ ((T.spot (word_of a)).class ≢ class.Card) →
      (i : ℕ) (u : Side V) → i ≢ r → slice_get s.sides i ≡ Some u → (b : Act)
      (k : ℕ) → T.plan u.view ≡ Some b → u.card ≡ Loaded k → by_card b ≡ true → word_of b ≢ word_of a
  not_loaded s r x a g has pl how i u ne hu b k pb hk bc same =
      let card : slice_index s.cards (home_of T (word_of b)) ≡ i + 1 =
      g.names i (home_of T (word_of b)) u hu (ap (λ h. card_in T (T.plan u.view) h) hk ∙ ap (λ q. card_in T q (Loaded k)) pb) in
      ⊎_elim
      (λ q. let mine : slice_index s.cards (home_of T (word_of b)) ≡ r + 1 = ap (λ w. slice_index s.cards (home_of T w)) same ∙ q.1 in ne (omega arith))
      (λ q. q (sym (ap (λ w. (T.spot w).class) same) ∙
      card_class V T layout.node_of i (T.spot (word_of b)) b bc
      (laws.lawful (lock_of s) i u.view b (record { is_good = g.lock; has = get_map view_of s.sides i u hu; planned = pb })).0.allowed))
      how

  -- a learnt act that writes
  pub learnt_keeps : (s t : SplitState V) (r : ℕ) (x y : Side V) (a : Act) → LockGood T good layout s → slice_get s.sides r ≡ Some x → T.plan x.view ≡ Some a →
      ((by_card a ≡ true) × (slice_index s.cards (home_of T (word_of a)) ≡ r + 1)) ⊎ ((T.spot (word_of a)).class ≢ class.Card) →
      t.words ≡ slice_set s.words (word_of a) (written a (slice_index s.words (word_of a))) → t.cards ≡ s.cards → t.sides ≡ slice_set s.sides r y →
      y.view ≡ (T.learn x.view (told a (slice_index s.words (word_of a)))).view → t.modes ≡ s.modes →
      t.past ≡ grown s.past (T.learn x.view (told a (slice_index s.words (word_of a)))).events
      (deed_of r (Some a) (told a (slice_index s.words (word_of a))) (T.learn x.view (told a (slice_index s.words (word_of a)))).events)
      →
      card_of T y ≡ card_of T x → StandsStill t.words (T.plan y.view) y.card → LockGood T good layout t
  learnt_keeps s t r x y a g has pl how ew ec es ev em et cy holds =
      same_cards s t r x y g has es (lock_acted s t r x y a g.lock has pl ew es ev em et) ec cy holds
      (λ i u ne h. subst (λ ws. StandsStill ws (T.plan u.view) u.card) (sym ew)
      (still_after_write s.words (word_of a) (written a (slice_index s.words (word_of a))) (T.plan u.view) u.card (g.still i u h)
      (λ b k pb hk bc. not_loaded s r x a g has pl how i u ne h b k pb hk bc)))

  -- a learnt act that writes nothing
  pub learnt_reads : (s t : SplitState V) (r : ℕ) (x y : Side V) (a : Act) → LockGood T good layout s → slice_get s.sides r ≡ Some x → T.plan x.view ≡ Some a →
      written a (slice_index s.words (word_of a)) ≡ slice_index s.words (word_of a) →
      t.words ≡ s.words → t.cards ≡ s.cards → t.sides ≡ slice_set s.sides r y →
      y.view ≡ (T.learn x.view (told a (slice_index s.words (word_of a)))).view → t.modes ≡ s.modes →
      t.past ≡ grown s.past (T.learn x.view (told a (slice_index s.words (word_of a)))).events
      (deed_of r (Some a) (told a (slice_index s.words (word_of a))) (T.learn x.view (told a (slice_index s.words (word_of a)))).events)
      →
      card_of T y ≡ card_of T x → StandsStill t.words (T.plan y.view) y.card → LockGood T good layout t
  learnt_reads s t r x y a g has pl same ew ec es ev em et cy holds =
      same_cards s t r x y g has es
      (lock_acted s t r x y a g.lock has pl (ew ∙ sym (ap (slice_set s.words (word_of a)) same ∙ set-get_or s.words (word_of a) 0)) es ev em et)
      ec cy holds
      (λ i u ne h. subst (λ ws. StandsStill ws (T.plan u.view) u.card) (sym ew) (g.still i u h))

  pub lawful_act : (s : SplitState V) (r : ℕ) (x : Side V) (a : Act) → LockGood T good layout s → slice_get s.sides r ≡ Some x →
      T.plan x.view ≡ Some a → IsLawful T.size T.spot layout r a
  lawful_act s r x a g has pl = (laws.lawful (lock_of s) r x.view a (record { is_good = g.lock; has = get_map view_of s.sides r x has; planned = pl })).0

  pub free_keeps : (s t : SplitState V) (r : ℕ) (v : V) (a : Act) → LockGood T good layout s →
      slice_get s.sides r ≡ Some (record { view = v; card = Free }) → T.plan v ≡ Some a →
      Leads T s t r v (Some a) Free (first_atom T a) → LockGood T good layout t
  free_keeps s t r v a g has pl l =
      let x : Side V = record { view = v; card = Free } in
      let w : ℕ = word_of a in
      let n : ℕ = home_of T w in
      let law : IsLawful T.size T.spot layout r a = lawful_act s r x a g has pl in
      ⊎_elim
      (λ bc.
      let fa : first_atom T a ≡ atom.Take n = first_card V T a bc in
      let ew : t.words ≡ s.words = l.words ∙ ap (λ z. do_words z s.words) fa in
      let ec : t.cards ≡ (if slice_index s.cards n == 0 then slice_set s.cards n (r + 1) else s.cards) = l.cards ∙ ap (λ z. do_cards r z s.cards) fa in
      let eg : card_after T r v (Some a) Free (do_got (first_atom T a) s.words s.cards) ≡ card_after T r v (Some a) Free (slice_index s.cards n) =
      ap (λ z. card_after T r v (Some a) Free (do_got z s.words s.cards)) fa in
      ⊎_elim
      (λ q. let ha : card_after T r v (Some a) Free (do_got (first_atom T a) s.words s.cards) ≡ turned_side T r v (Some a)
      (Stay InCard Moved) = eg ∙ after_take V T r v a (slice_index s.cards n) bc q.0 in
      take_keeps s t r v a n g has pl bc (laws.lawful (lock_of s) r v a
      (record { is_good = g.lock; has = get_map view_of s.sides r x has; planned = pl })).1 refl
      (subst (λ k. n < k) (sym g.all_cards) law.homed) q.1 ew
      (ec ∙ ap (λ b. if b then slice_set s.cards n (r + 1) else s.cards) q.0)
      (l.sides ∙ ap (λ z. slice_set s.sides r z.side) ha) l.modes (l.past ∙ ap (λ z. grown s.past z.events z.deeds) ha ∙ grown_nil s.past))
      (λ q. let ha : card_after T r v (Some a) Free (do_got (first_atom T a) s.words s.cards) ≡ turned_side T r v (Some a)
      (Stay Free (Busy n (slice_index s.cards n - 1))) = eg ∙ after_busy V T r v a (slice_index s.cards n) bc q.0 in
      busy_keeps s t r x g has ew
      (ec ∙ ap (λ b. if b then slice_set s.cards n (r + 1) else s.cards) q.0)
      (l.sides ∙ ap (λ z. slice_set s.sides r z.side) ha) l.modes (l.past ∙ ap (λ z. grown s.past z.events z.deeds) ha ∙ grown_nil s.past))
      (eqb_tells (slice_index s.cards n) 0))
      (λ bc.
      let ew : t.words ≡ slice_set s.words w (written a (slice_index s.words w)) = l.words ∙ plain_words V T a s.words bc in
      let ec : t.cards ≡ s.cards = l.cards ∙ plain_cards V T a r s.cards bc in
      let ha : card_after T r v (Some a) Free (do_got (first_atom T a) s.words s.cards) ≡ turned_side T r v (Some a)
      (Learn Free (told a (slice_index s.words w)) (skips a (told a (slice_index s.words w)))) =
      after_plain V T r v a (do_got (first_atom T a) s.words s.cards) bc
      ∙ ap (λ z. turned_side T r v (Some a) (Learn Free z (skips a z))) (plain_got V T a s.words s.cards bc) in
      let y : Side V = record { view = (T.learn v (told a (slice_index s.words w))).view; card = Free } in
      ⊎_elim
      (λ q. learnt_reads s t r x y a g has pl (q (slice_index s.words w))
      (ew ∙ ap (slice_set s.words w) (q (slice_index s.words w)) ∙ set-get_or s.words w 0) ec
      (l.sides ∙ ap (λ z. slice_set s.sides r z.side) ha) refl l.modes (l.past ∙ ap (λ z. grown s.past z.events z.deeds) ha) refl tt)
      (λ q. learnt_keeps s t r x y a g has pl (inr q) ew ec
      (l.sides ∙ ap (λ z. slice_set s.sides r z.side) ha) refl l.modes (l.past ∙ ap (λ z. grown s.past z.events z.deeds) ha) refl tt)
      (plain_class V T layout.node_of r (T.spot w) a bc law.allowed))
      (bool_cases (by_card a))

  pub in_card_keeps : (s t : SplitState V) (r : ℕ) (v : V) (a : Act) → LockGood T good layout s →
      slice_get s.sides r ≡ Some (record { view = v; card = InCard }) → T.plan v ≡ Some a →
      Leads T s t r v (Some a) InCard (atom.CardLoad (word_of a)) → LockGood T good layout t
  in_card_keeps s t r v a g has pl l =
      let x : Side V = record { view = v; card = InCard } in
      let k : ℕ = slice_index s.words (word_of a) in
      let n : ℕ = home_of T (word_of a) in
      let bc : by_card a ≡ true = subst (λ q. StandsStill s.words q InCard) pl (g.still r x has) in
      let tc : told a k ≡ k = told_card V T a k bc in
      ⊎_elim
      (λ sk. let ha : card_after T r v (Some a) InCard k ≡ turned_side T r v (Some a) (Learn (ToLeave n) k true) = after_skip V T r v a k sk in
      let y : Side V = record { view = (T.learn v k).view; card = ToLeave n } in
      learnt_reads s t r x y a g has pl (skipped_words V T a k bc sk) l.words l.cards
      (l.sides ∙ ap (λ z. slice_set s.sides r z.side) ha) (ap (λ z. (T.learn v z).view) (sym tc)) l.modes
      (l.past ∙ ap (λ z. grown s.past z.events z.deeds) ha ∙ ap (λ z. grown s.past (T.learn v z).events (deed_of r (Some a) z (T.learn v z).events)) (sym tc))
      (sym (ap (λ q. card_in T q InCard) pl)) tt)
      (λ sk. let ha : card_after T r v (Some a) InCard k ≡ turned_side T r v (Some a) (Stay (Loaded k) Moved) = after_load V T r v a k sk in
      load_keeps s t r v a g has pl sk l.words l.cards
      (l.sides ∙ ap (λ z. slice_set s.sides r z.side) ha) l.modes (l.past ∙ ap (λ z. grown s.past z.events z.deeds) ha ∙ grown_nil s.past))
      (bool_cases (skips a k))

  pub loaded_keeps : (s t : SplitState V) (r : ℕ) (v : V) (a : Act) (k : ℕ) → LockGood T good layout s →
      slice_get s.sides r ≡ Some (record { view = v; card = Loaded k }) → T.plan v ≡ Some a →
      Leads T s t r v (Some a) (Loaded k) (atom.CardStore (word_of a) (written a k)) → LockGood T good layout t
  loaded_keeps s t r v a k g has pl l =
      let x : Side V = record { view = v; card = Loaded k } in
      let n : ℕ = home_of T (word_of a) in
      let holds : StandsStill s.words (Some a) (Loaded k) = subst (λ q. StandsStill s.words q (Loaded k)) pl (g.still r x has) in
      let card : slice_index s.cards n ≡ r + 1 = g.names r n x has (ap (λ q. card_in T q (Loaded k)) pl) in
      let y : Side V = record { view = (T.learn v (told a k)).view; card = ToLeave n } in
      learnt_keeps s t r x y a g has pl (inl (holds.0, card))
      (l.words ∙ ap (λ z. slice_set s.words (word_of a) (written a z)) (sym holds.2)) l.cards l.sides
      (ap (λ z. (T.learn v (told a z)).view) (sym holds.2)) l.modes
      (l.past ∙ ap (λ z. grown s.past (T.learn v (told a z)).events (deed_of r (Some a) (told a z) (T.learn v (told a z)).events))
      (sym holds.2))
      (sym (ap (λ q. card_in T q (Loaded k)) pl)) tt

  pub keeps : (s t : SplitState V) (r : ℕ) (v : V) (p : Option Act) (h : CardState) (at : Atom) → LockGood T good layout s →
      slice_get s.sides r ≡ Some (record { view = v; card = h }) → T.plan v ≡ p →
      card_atom T p h ≡ Some at → Leads T s t r v p h at → LockGood T good layout t
  keeps s t r v p (ToLeave n) at g has pl e l = leave_keeps s t r v p n g has (subst (Leads T s t r v p (ToLeave n)) (sym (same_Some _ _ e)) l)
  keeps s t r v None Free at g has pl e l = cc
  keeps s t r v None InCard at g has pl e l = cc
  keeps s t r v None (Loaded k) at g has pl e l = cc
  keeps s t r v (Some a) Free at g has pl e l = free_keeps s t r v a g has pl (subst (Leads T s t r v (Some a) Free) (sym (same_Some _ _ e)) l)
  keeps s t r v (Some a) InCard at g has pl e l = in_card_keeps s t r v a g has pl (subst (Leads T s t r v (Some a) InCard) (sym (same_Some _ _ e)) l)
  keeps s t r v (Some a) (Loaded k) at g has pl e l = loaded_keeps s t r v a k g has pl (subst (Leads T s t r v (Some a) (Loaded k)) (sym (same_Some _ _ e)) l)

  -- each atom of each rank keeps the lock's part of the rule
  pub atom_keeps : (s : SplitState V) (r : ℕ) (x : Side V) (at : Atom) → LockGood T good layout s → slice_get s.sides r ≡ Some x →
      side_atom T x ≡ Some at → LockGood T good layout (moved T s r x at)
  atom_keeps s r x at g has e =
      keeps s (moved T s r x at) r x.view (T.plan x.view) x.card at g has refl e
      (record { words = refl; cards = refl; sides = refl; modes = refl; past = refl })

  -- each planned atom can be made
  pub can_first : (s : SplitState V) (r : ℕ) (a : Act) → length s.words ≡ T.size → length s.cards ≡ layout.nodes → IsLawful T.size T.spot layout r a →
      CanDo (home_at (home_of T) (first_atom T a)) r (first_atom T a) s.words s.cards
  can_first s r (act.Load w) ew ec l = subst (λ n. w < n) (sym ew) l.there
  can_first s r (act.Store w v) ew ec l = subst (λ n. w < n) (sym ew) l.there
  can_first s r (act.LocalCas w old new) ew ec l = subst (λ n. w < n) (sym ew) l.there
  can_first s r (act.CardCas w old new) ew ec l = subst (λ n. home_of T w < n) (sym ec) l.homed
  can_first s r (act.CardSwap w v) ew ec l = subst (λ n. home_of T w < n) (sym ec) l.homed
  can_first s r (act.CardAdd w d) ew ec l = subst (λ n. home_of T w < n) (sym ec) l.homed

  pub can_at : (s : SplitState V) (r : ℕ) (v : V) (p : Option Act) (h : CardState) (at : Atom) → LockGood T good layout s →
      slice_get s.sides r ≡ Some (record { view = v; card = h }) → T.plan v ≡ p →
      card_atom T p h ≡ Some at → CanDo (home_at (home_of T) at) r at s.words s.cards
  can_at s r v p (ToLeave n) at g has pl e =
      let here : slice_index s.cards n ≡ r + 1 = g.names r n _ has refl in
      subst (λ z. CanDo (home_at (home_of T) z) r z s.words s.cards) (same_Some _ _ e) (in_range s.cards n r here, here)
  can_at s r v None Free at g has pl e = cc
  can_at s r v None InCard at g has pl e = cc
  can_at s r v None (Loaded k) at g has pl e = cc
  can_at s r v (Some a) Free at g has pl e =
      subst (λ z. CanDo (home_at (home_of T) z) r z s.words s.cards) (same_Some _ _ e)
      (can_first s r a (laws.sized (lock_of s) g.lock).0 g.all_cards (lawful_act s r _ a g has pl))
  can_at s r v (Some a) InCard at g has pl e =
      let here : slice_index s.cards (home_of T (word_of a)) ≡ r + 1 = g.names r _ _ has (ap (λ q. card_in T q InCard) pl) in
      subst (λ z. CanDo (home_at (home_of T) z) r z s.words s.cards) (same_Some _ _ e)
      (subst (λ n. word_of a < n) (sym (laws.sized (lock_of s) g.lock).0) (lawful_act s r _ a g has pl).there, in_range s.cards _ r here, here)
  can_at s r v (Some a) (Loaded k) at g has pl e =
      let here : slice_index s.cards (home_of T (word_of a)) ≡ r + 1 = g.names r _ _ has (ap (λ q. card_in T q (Loaded k)) pl) in
      subst (λ z. CanDo (home_at (home_of T) z) r z s.words s.cards) (same_Some _ _ e)
      (subst (λ n. word_of a < n) (sym (laws.sized (lock_of s) g.lock).0) (lawful_act s r _ a g has pl).there, in_range s.cards _ r here, here)

  pub atom_can : (s : SplitState V) (r : ℕ) (x : Side V) (at : Atom) → LockGood T good layout s → slice_get s.sides r ≡ Some x → side_atom T x ≡ Some at →
      CanDo (home_at (home_of T) at) r at s.words s.cards
  atom_can s r x at g has e = can_at s r x.view (T.plan x.view) x.card at g has refl e

  -- with no atom of the lock, no act is planned, and the rank is in no card
  pub none_at : (ws : List ℕ) (p : Option Act) (h : CardState) → StandsStill ws p h → card_atom T p h ≡ None → (p ≡ None) × (h ≡ Free)
  none_at ws p (ToLeave n) k e = cc
  none_at ws None Free k e = (refl, refl)
  none_at ws None InCard k e = absurd k
  none_at ws None (Loaded g) k e = absurd k
  none_at ws (Some a) Free k e = cc
  none_at ws (Some a) InCard k e = cc
  none_at ws (Some a) (Loaded g) k e = cc

  -- the same state, field by field
  pub split_at : (s t : SplitState V) → s.words ≡ t.words → s.cards ≡ t.cards → s.sides ≡ t.sides → s.modes ≡ t.modes → s.past ≡ t.past →
      LockGood T good layout s → LockGood T good layout t
  split_at s t ew ec es em et g =
      subst (λ z. LockGood T good layout (record { words = t.words; cards = t.cards; sides = t.sides; modes = t.modes; past = z })) et
      (subst (λ z. LockGood T good layout (record { words = t.words; cards = t.cards; sides = t.sides; modes = z; past = s.past })) em
      (subst (λ z. LockGood T good layout (record { words = t.words; cards = t.cards; sides = z; modes = s.modes; past = s.past })) es
      (subst (λ z. LockGood T good layout (record { words = t.words; cards = z; sides = s.sides; modes = s.modes; past = s.past })) ec
      (subst (λ z. LockGood T good layout (record { words = z; cards = s.cards; sides = s.sides; modes = s.modes; past = s.past })) ew g))))
