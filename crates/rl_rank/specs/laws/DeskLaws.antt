-- What a rank has at the shard, as its own view tells it and as the words do: how openings and atoms turn it.
use Rattle.std.specs.Prelude.{◌≡◌, ◌⊎◌, ℕ, suc, Bool, true, false, ◌&&◌, ◌||◌, List, [], ◌∷◌, ◌++◌, All, map, slice_get, slice_set, Some, None, refl}
use Rattle.std.proofs.Common.{sym, ◌∙◌, ap, subst, inl, inr, ⊎_elim, arith}
use Rattle.std.proofs.lemmas.List.Elements.{All-cons, All-nil, All-head, All-tail}
use Rattle.rl_model.proofs.Counts.{count-append}
use Rattle.rl_word.specs.laws.Places.{get_set_cases, one_at}
use Rattle.rl_word.specs.Acts.{Layout}
use Rattle.rl_word.specs.declared.acts.Atom.{Atom}
use Rattle.rl_model.specs.declared.call.Call.{Call}
use Rattle.rl_model.specs.declared.entry.Entry.{Entry}
use Rattle.rl_journal.specs.Legal.{updates}
use Rattle.rl_journal.specs.laws.Lists.{get_left}
use Rattle.rl_journal.specs.Ranks.{IsOwn}
use Rattle.rl_step.specs.declared.events.Event.{Event}
use Rattle.rl_step.specs.Lock.{Deed}
use Rattle.rl_step.specs.Do.{TheWindow, do_got, do_words}
use Rattle.rl_site.specs.Site.{Site}
use Rattle.rl_site.specs.Opens.{IsOpen, IsOwnTranscript}
use Rattle.rl_work.specs.Ways.{Look, BlockGoesOn, EndsWork, AtomWork, Takes, look, own_look, opened_look}
use Rattle.rl_core.specs.Desks.{KeepsBlock, EndsBlock, OpensBlock, Turns}
use Rattle.rl_core.specs.ShardLaws.{IsDeskOf, IsNewDesk}
use Rattle.rl_rank.specs.declared.card_state.CardState.TheVariants.{Free}
use Rattle.rl_rank.specs.declared.whole.WholeView.{WholeView}
use Rattle.rl_rank.specs.Running.{LockAt, Goods, BothLaws}
use Rattle.rl_rank.specs.Opening.{first_view, opened_in}
use Rattle.rl_rank.specs.laws.OpenLaws.{closed_parts, shut_is_none}
use Rattle.rl_rank.specs.Whole.{Good, after_of, desk_by, is_at_work, is_open, next_of, own_desk, told_desk, work_side}
use Rattle.rl_rank.specs.laws.WholeLaws.{keeps_at, work_at}
use Rattle.rl_rank.specs.laws.WorkEnds.{atom_work, atom_turn}

-- where a rank keeps all its entries itself both desks are one
pub keeps_all : {V K : Type 0} (L : LockAt V K) (words : List ℕ) (r : ℕ) (x : WholeView V K) →
    (L.work.transcript words r x.work ≡ (L.work.kept x.work).items) × (L.work.owes words r x.work ≡ L.work.pends x.work) → told_desk L words r x ≡ own_desk L x
keeps_all L words r x same =
    ap (λ z. record {
      kept = record { items = z; room = (L.work.kept x.work).room };
      is_open = is_open L x;
      owes =
          L.work.is_open x.work && L.work.owes words r x.work;
      calls = L.work.calls x.work;
      seq = L.work.seq x.work;
    }) same.0
    ∙ ap (λ b. record {
      kept = record { items = (L.work.kept x.work).items; room = (L.work.kept x.work).room };
      is_open = is_open L x;
      owes = L.work.is_open x.work && b;
      calls = L.work.calls x.work;
      seq = L.work.seq x.work;
    }) same.1

-- a look that goes on is a desk that does
way_of : (shard rank : ℕ) (p q : Bool) (a b : Look) → AtomWork shard rank a b →
    KeepsBlock (desk_by p a) (desk_by q b) ⊎ EndsBlock shard rank (desk_by p a) (desk_by q b)
way_of shard rank p q a b w =
    ⊎_elim
    (λ (g : BlockGoesOn a b). inl (record {
      same_calls = g.same_calls;
      same_seq = g.same_seq;
      same_kept = ap (λ z. record { items = z; room = b.room }) g.same_items ∙ ap (λ z. record { items = a.items; room = z }) g.same_room;
      same_owes = g.owes;
    }))
    (λ (g : EndsWork shard rank a b). inr (record {
      owed = g.was;
      is_over = g.is_over;
      same_room = g.same_room;
      entries = g.entries;
      items = g.items;
      calls_are = g.calls_are;
      tells = g.tells;
    }))
    w

-- a look with a block opened is a desk that opens it
opened_by : (p q : Bool) (a b : Look) (calls : List Call) (seq : ℕ) → b ≡ opened_look a calls seq → q ≡ true → OpensBlock calls seq (desk_by p a) (desk_by q b)
opened_by p q a b calls seq e is =
    record {
      same_kept = ap (λ (z : Look). record { items = z.items; room = z.room }) e;
      is_open = is;
      owed = ap (λ (z : Look). z.owes) e;
      calls_are = ap (λ (z : Look). z.calls) e;
      seq_is = ap (λ (z : Look). z.seq) e;
    }

or_true : (b c : Bool) → c ≡ true → (b || c) ≡ true
or_true true c e = refl
or_true false c e = e

and_first : (b c : Bool) → (b && c) ≡ true → b ≡ true
and_first true c e = refl
and_first false c e = e

or_false : (b c : Bool) → (b || c) ≡ false → c ≡ false
or_false true c e = cc
or_false false c e = e

-- the first of a rank's entries are its own, too
all_front : {X : Type 0} (P : X → Type 0) (xs ys : List X) → All P (xs ++ ys) → All P xs
all_front P [] ys all = All-nil P
all_front P (x ∷ xs) ys all = All-cons P x xs (All-head P x (xs ++ ys) all) (all_front P xs ys (All-tail P x (xs ++ ys) all))

own_front : (site : Site) (rank : ℕ) (t more : List Entry) → IsOwnTranscript site rank (t ++ more) → IsOwnTranscript site rank t
own_front site rank t more o =
    record {
      own = all_front (IsOwn site.shard rank) t more o.own;
      in_order = λ i e f a b. o.in_order i e f (get_left t more i e a) (get_left t more (suc i) f b);
      place = let p = o.place in omega (arith, count-append updates t more);
    }

module _ (V K : Type 0) (L : LockAt V K) (good : Goods V K) (further : List Event → List Deed → Type 0) (layout : Layout)
    (laws : BothLaws L good further layout) (home : ℕ) where
  -- before its first block
  pub first_is_new : (room rank : ℕ) → IsNewDesk room (own_desk L (first_view L room rank))
  first_is_new room rank =
      record {
        shut = ap (λ st. is_at_work st Free || L.work.is_open (L.work.first rank room)) (laws.lock.first_out rank) ∙ (laws.work.first rank room).2;
        nothing = ap (λ z. z.items) (laws.work.first rank room).0;
        room_is = ap (λ z. z.room) (laws.work.first rank room).0;
      }

  module _ (h : TheWindow) (vs : List (WholeView V K)) (r : ℕ) (x : WholeView V K) (g : Good L good layout h vs) (has : slice_get vs r ≡ Some x) where
    pub told_is : IsDeskOf L.work.site r (told_desk L h.words r x)
    told_is =
        record {
          own = laws.work.own h.words (map (work_side L.table) vs) r (work_side L.table x) (work_at V K L good further layout laws home h vs g r x has);
          owing = λ e. or_true (is_at_work (L.table.standing x.side.view) x.side.card) (L.work.is_open x.work)
              (and_first (L.work.is_open x.work) (L.work.owes h.words r x.work) e);
        }

    pub own_is : IsDeskOf L.work.site r (own_desk L x)
    own_is =
        let at = work_at V K L good further layout laws home h vs g r x has in
        let keeps = laws.work.keeps h.words (map (work_side L.table) vs) r (work_side L.table x) at in
        record {
          own = own_front L.work.site r (L.work.kept x.work).items keeps.0
              (subst (IsOwnTranscript L.work.site r) keeps.1 (laws.work.own h.words (map (work_side L.table) vs) r (work_side L.table x)
              at));
          owing = λ e. or_true (is_at_work (L.table.standing x.side.view) x.side.card) (L.work.is_open x.work)
              (and_first (L.work.is_open x.work) (L.work.pends x.work) e);
        }

    -- where no block is open both are one
    pub settled_is : is_open L x ≡ false → told_desk L h.words r x ≡ own_desk L x
    settled_is shut =
        let closed : L.work.is_open x.work ≡ false = or_false (is_at_work (L.table.standing x.side.view) x.side.card) (L.work.is_open x.work) shut in
        let items = (laws.work.closed h.words (map (work_side L.table) vs) r (work_side L.table x)
        (work_at V K L good further layout laws home h vs g r x has) closed).0 in
        let owes : (L.work.is_open x.work && L.work.owes h.words r x.work) ≡ (L.work.is_open x.work && L.work.pends x.work) =
        ap (λ b. b && L.work.owes h.words r x.work) closed ∙ sym (ap (λ b. b && L.work.pends x.work) closed) in
        ap (λ z. record {
          kept = record { items = z; room = (L.work.kept x.work).room };
          is_open = is_open L x;
          owes =
              L.work.is_open x.work && L.work.owes h.words r x.work;
          calls = L.work.calls x.work;
          seq = L.work.seq x.work;
        }) items
        ∙ ap (λ b. record {
          kept = record { items = (L.work.kept x.work).items; room = (L.work.kept x.work).room };
          is_open = is_open L x;
          owes = b;
          calls = L.work.calls x.work;
          seq = L.work.seq x.work;
        }) owes

    -- a block is opened where none is
    module _ (calls : List Call) (seq : ℕ) (none : next_of L x ≡ None) (fits : IsOpen L.work.site r calls seq (L.work.kept x.work))
        (takes : Takes L.work calls) where
      abbrev y : WholeView V K
      y = opened_in L calls seq x

      opens_looks : (look L.work h.words r (L.work.opens r x.work calls seq) ≡ opened_look (look L.work h.words r x.work) calls seq)
          × (own_look L.work (L.work.opens r x.work calls seq) ≡ opened_look (own_look L.work x.work) calls seq) ×
          (L.work.is_open (L.work.opens r x.work calls seq) ≡ true)
      opens_looks =
          let parts = closed_parts V K L good further layout laws home h vs r x g has none in
          let o = laws.work.opened h.words (map (work_side L.table) vs) r (work_side L.table x) calls seq
          (work_at V K L good further layout laws home h vs g r x has) parts.0 parts.2 fits takes in
          (o.0, o.1, o.2)

      abbrev SeenOpen : ℕ → Type 0
      SeenOpen n = is_open L (record { side = y.side; kept = x.kept; rank = x.rank; work = L.work.opens n x.work calls seq }) ≡ true

      is_opened : (n : ℕ) → L.work.is_open (L.work.opens n x.work calls seq) ≡ true → SeenOpen n
      is_opened n e = or_true (is_at_work (L.table.standing y.side.view) y.side.card) (L.work.is_open (L.work.opens n x.work calls seq)) e

      pub told_opens : OpensBlock calls seq (told_desk L h.words r x) (told_desk L h.words r y)
      told_opens =
          subst (λ n. OpensBlock calls seq (told_desk L h.words r x)
          (told_desk L h.words r (record { side = y.side; kept = x.kept; rank = x.rank; work = L.work.opens n x.work calls seq })))
          (sym (g.own r x has))
          (opened_by (is_open L x) (is_open L
          (record { side = y.side; kept = x.kept; rank = x.rank; work = L.work.opens r x.work calls seq }))
          (look L.work h.words r x.work) (look L.work h.words r (L.work.opens r x.work calls seq)) calls seq
          opens_looks.0 (is_opened r opens_looks.2))

      pub own_opens : OpensBlock calls seq (own_desk L x) (own_desk L y)
      own_opens =
          subst (λ n. OpensBlock calls seq (own_desk L x) (own_desk L
          (record { side = y.side; kept = x.kept; rank = x.rank; work = L.work.opens n x.work calls seq }))) (sym (g.own r x has))
          (opened_by (is_open L x) (is_open L
          (record { side = y.side; kept = x.kept; rank = x.rank; work = L.work.opens r x.work calls seq })) (own_look L.work x.work)
          (own_look L.work (L.work.opens r x.work calls seq)) calls seq
          opens_looks.1 (is_opened r opens_looks.2))

    -- the rank makes an atom
    module _ (at : Atom) (e : next_of L x ≡ Some at) where
      abbrev z : WholeView V K
      z = (after_of L x (do_got at h.words h.cards)).view

      has_block : is_open L x ≡ false → ⊥
      has_block shut = let bad : None ≡ Some at =
          sym (shut_is_none V K L good further layout laws home x (record { held = h; views = vs; rank = r; is_ruled = g; has = has }) shut)
          ∙ e in cc

      pub own_turns : Turns L.work.site.shard r (own_desk L x) (own_desk L z)
      own_turns =
          record {
            opens_none = λ shut. absurd (has_block shut);
            way = way_of L.work.site.shard r (is_open L x) (is_open L z) (own_look L.work x.work) (own_look L.work z.work)
                (atom_turn V K L good further layout laws home h vs r x at g has e);
          }

      pub told_turns : (j : ℕ) (u w : WholeView V K) → slice_get vs j ≡ Some u → slice_get (slice_set vs r z) j ≡ Some w →
          Turns L.work.site.shard j (told_desk L h.words j u) (told_desk L (do_words at h.words) j w)
      told_turns j u w was now =
          let named : u.rank ≡ j = g.own j u was in
          let named_now : w.rank ≡ j = (keeps_at V K L good further layout laws home h vs r x at g has e).0.own j w now in
          let looks : AtomWork L.work.site.shard j (look L.work h.words j u.work) (look L.work (do_words at h.words) j w.work) =
          subst (λ n. AtomWork L.work.site.shard j (look L.work h.words j u.work) (look L.work (do_words at h.words) n w.work)) named_now
          (subst (λ n. AtomWork L.work.site.shard j (look L.work h.words n u.work) (look L.work (do_words at h.words) w.rank w.work)) named
          (atom_work V K L good further layout laws home h vs r x at g has e j u w was now)) in
          record {
            opens_none = λ shut. ⊎_elim
                (λ q. absurd (has_block (ap (is_open L) (one_at vs r x u has (ap (slice_get vs) (sym q.0) ∙ was)) ∙ shut)))
                (λ q. ap (is_open L) (one_at vs j w u q.1 was) ∙ shut)
                (get_set_cases vs r j z w now);
            way = way_of L.work.site.shard j (is_open L u) (is_open L w) (look L.work h.words j u.work) (look L.work (do_words at h.words) j w.work) looks;
          }
