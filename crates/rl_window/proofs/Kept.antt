-- Each step keeps the rule of the table.
use Rattle.std.proofs.Common.{◌≡◌, ℕ, ◌+◌, ◌*◌, ◌<◌, ◌≤◌, ◌^◌, ◌≢◌, eqb, List, [], length, get_or, set, slice_get, Option, Some, sym, refl, ap, ◌∙◌, subst, ⊎_elim, arith, length-set, set-set}
use Rattle.std.proofs.lemmas.List.{take-set-le, drop-set-lt}
use Rattle.std.proofs.lemmas.Option.{slice_get_within}
use mathlib.Core.Option.{some}
use lib.ListN.{get_elem?}
use prog.Atomic.{either}
use Rattle.atomic_table.specs.Table.{State, Me, keeps, stepped, Allows}
use Rattle.atomic_table.proofs.Lists.{at_set}
use Rattle.rl_word.specs.laws.Places.{get_set_same, get_set_other}
use Rattle.rl_word.specs.declared.acts.Atom.{Atom}
use Rattle.rl_word.specs.declared.acts.Atom.TheVariants.{Load, Store, LocalCas, Take, CardLoad, CardStore, Leave}
use Rattle.rl_step.specs.Do.{TheWindow, do_got, do_atom, CanDo}
use Rattle.rl_step.specs.Core.{CoreTable, CoreLaws, Plans, home_at}
use Rattle.rl_window.specs.declared.knows.Setup.{Setup}
use Rattle.rl_window.specs.declared.knows.RankKnows.{RankKnows}
use Rattle.rl_window.specs.declared.knows.Knows.{Knows}
use Rattle.rl_window.specs.declared.knows.Knows.TheVariants.{Root, Rank, Spent}
use Rattle.rl_window.specs.Rule.{sized, MayBeAt, Keeps, Fits, IsRuled}
use Rattle.rl_window.specs.Plays.{after_step, Moves, MovesWhereTold, IsRankAt, last_of, steps_of}
use Rattle.rl_window.specs.laws.AtomLengths.{as_many_words, as_many_cards}
use Rattle.rl_window.proofs.Effects.{IsAtom, loads, card_loads, stores, card_stores, exchanges, takes, leaves}

module _ {C V : Type 0} where
  -- what another seat knows stays so, where the view of the rank n changes
  others_fit : (core : C) (size nodes : ℕ) (views : List V) (given joined j n : ℕ) (w : V) → joined ≤ n → n < given → j ≢ n + 1 → (k : Knows C V)
      → Fits core size nodes views given joined j k → Fits core size nodes (set views n w) given joined j k
  others_fit core size nodes views given joined j n w low high other (Root r) f =
      (f.0, f.1, f.2, f.3, f.4, f.5 ∙ sym (drop-set-lt given views n w high), f.6 ∙ sym (take-set-le joined views n w low))
  others_fit core size nodes views given joined j n w low high other (Rank r) f =
      let apart : r.rank ≢ n = λ e. other (f.0 ∙ ap (λ (x : ℕ). x + 1) e) in (f.0, f.1, f.2, f.3, f.4, f.5, get_set_other views n r.rank w apart ∙ f.6)
  others_fit core size nodes views given joined j n w low high other Spent f = tt

  module _ (rule : C → TheWindow → List V → Type 0) (table : C → CoreTable V) (laws : (c : C) → CoreLaws (table c) (rule c)) where
    abbrev pub St : Type 0
    St = State ℕ (Knows C V)

    -- what a step of a rank's seat leaves
    record Done (key : Setup C V) (s : St) (id : ℕ) (r : RankKnows C V) (v : V) (i : ℕ) (f g : ℕ → ℕ) (c : List (ℕ × ℕ)) : Type 0 where
      kept : IsRuled rule key (stepped s i (f (get_or s.words i 0)) id c (after_step table r v (g (get_or s.words i 0))) keeps)
      moves : Moves rule table v (g (get_or s.words i 0)) (Rank r) (after_step table r v (g (get_or s.words i 0)))

    done : (key : Setup C V) (s : St) (R : IsRuled rule key s) (id : ℕ) (r : RankKnows C V) (v : V) (a : Atom) (i : ℕ) (f g : ℕ → ℕ) (c : List (ℕ × ℕ))
        → get_elem? s.views id ≡ some (Rank r) → Keeps (rule r.core) r.rank r.view v → (table r.core).next v ≡ Some a
        → ((ws cs : List ℕ) → length ws ≡ r.size → length cs ≡ r.nodes → CanDo (home_at (table r.core).home a) r.rank a ws cs → IsAtom r.rank a i f g ws cs)
        → g (get_or s.words i 0) < 2 ^ 64 → Done key s id r v i f g c
    done key s R id r v a i f g c at same plan acts small =
        let F = R.each id (Rank r) at in
        let n : ℕ = get_or s.words i 0 in
        let h : TheWindow = R.held in
        let w : V = ((table r.core).after v (g n)).view in
        let low : r.rank < length R.views = slice_get_within R.views r.rank r.view F.6 in
        let ruled : rule r.core h R.views = subst (λ (x : C). rule x h R.views) (sym F.1) R.kept.0 in
        let told : rule r.core h (set R.views r.rank v) = same h R.views ruled F.6 in
        let here = get_set_same R.views r.rank r.view v F.6 in
        let p : Plans (table r.core) (rule r.core) h (set R.views r.rank v) r.rank v a = record { is_ruled = told; has = here; planned = plan } in
        let can = (laws r.core).can h (set R.views r.rank v) r.rank v a p in
        let wide = R.kept.1 ∙ sym F.2 in
        let deep = R.kept.2 ∙ sym F.3 in
        let act = acts h.words h.cards wide deep can in
        let gives : g n ≡ do_got a h.words h.cards = ap (λ (l : List ℕ). g (get_or l i 0)) R.laid ∙ act.1 in
        let next_rule = (laws r.core).keeps h (set R.views r.rank v) r.rank v a p (subst (λ (x : ℕ). x < 2 ^ 64) gives small) in
        let with_gives : rule r.core (do_atom r.rank a h) (set (set R.views r.rank v) r.rank w) =
        subst (λ (x : ℕ). rule r.core (do_atom r.rank a h) (set (set R.views r.rank v) r.rank ((table r.core).after v x).view)) (sym gives) next_rule in
        let goes_on : rule r.core (do_atom r.rank a h) (set R.views r.rank w) = subst (rule r.core (do_atom r.rank a h)) (set-set R.views r.rank v w) with_gives in
        let at_key : rule key.core (do_atom r.rank a h) (set R.views r.rank w) = subst (λ (x : C). rule x (do_atom r.rank a h) (set R.views r.rank w)) F.1 goes_on in
        let now = get_set_same R.views r.rank r.view w F.6 in
        record {
          kept = record {
            held = do_atom r.rank a h;
            views = set R.views r.rank w;
            given = R.given;
            joined = R.joined;
            laid = ap (λ (l : List ℕ). set l i (f (get_or l i 0))) R.laid ∙ act.0;
            kept = (at_key, as_many_words a h.words ∙ R.kept.1, as_many_cards r.rank a h.cards ∙ R.kept.2);
            seats = length-set s.views id (after_step table r v (g n)) ∙ R.seats;
            enough = let same_length = length-set R.views r.rank w in let e = R.enough in omega arith;
            order = R.order;
            each = λ j k e. ⊎_elim
                (λ (t : (j ≡ id) × (after_step table r v (g n) ≡ k)). subst (Fits key.core key.size key.nodes (set R.views r.rank w) R.given R.joined j) t.1
                (t.0 ∙ F.0, F.1, F.2, F.3, F.4, F.5, now))
                (λ (t : (j ≢ id) × (get_elem? s.views j ≡ some k)). others_fit key.core key.size key.nodes R.views R.given R.joined j r.rank w F.4 F.5 (λ (is : j ≡ r.rank + 1). t.0 (is ∙ sym F.0)) k (R.each j k t.1))
                (at_set s.views id j (after_step table r v (g n)) k e);
          };
          moves = (
            (
              record {
                held = h;
                views = set R.views r.rank v;
                rank = r.rank;
                atom = a;
                plans = record { is_ruled = (told, wide, deep); has = here; planned = plan };
                gives = gives;
              },
              refl,
            ),
            (
              record {
                held = do_atom r.rank a h;
                views = set R.views r.rank w;
                rank = r.rank;
                is_ruled = (goes_on, as_many_words a h.words ∙ wide, as_many_cards r.rank a h.cards ∙ deep);
                has = now;
              },
              refl,
            ),
            refl,
          );
        }

    allowed_at : (key : Setup C V) (slots id : ℕ) (r : RankKnows C V) (v : V) (a : Atom) (i : ℕ) (f g : ℕ → ℕ) → Keeps (rule r.core) r.rank r.view v → (table r.core).next v ≡ Some a
        → ((ws cs : List ℕ) → length ws ≡ r.size → length cs ≡ r.nodes → CanDo (home_at (table r.core).home a) r.rank a ws cs → IsAtom r.rank a i f g ws cs) → ((n : ℕ) → n < 2 ^ 64 → g n < 2 ^ 64)
        → Allows (IsRuled rule key) slots id (Rank r, []) i f (λ n w. (w.1 ≡ []) × Moves rule table v (g n) (Rank r) w.0)
    allowed_at key slots id r v a i f g same plan acts fits s R _ at small = let d = done key s R id r v a i f g [] at same plan acts (fits (get_or s.words i 0) small) in
        (after_step table r v (g (get_or s.words i 0)), keeps, tt, d.kept, (refl, d.moves))

    pub allowed : (key : Setup C V) (slots id : ℕ) (core : C) (size nodes rank : ℕ) (v : V) (a : Atom) (i : ℕ) (f g : ℕ → ℕ) (told : Option V) (me : Me ℕ (Knows C V))
        → told ≡ Some v → IsRankAt core size nodes rank v me → Keeps (rule core) rank (last_of v me.0) v → (table core).next v ≡ Some a
        → ((ws cs : List ℕ) → length ws ≡ size → length cs ≡ nodes → CanDo (home_at (table core).home a) rank a ws cs → IsAtom rank a i f g ws cs) → ((n : ℕ) → n < 2 ^ 64 → g n < 2 ^ 64)
        → Allows (IsRuled rule key) slots id me i f (λ n w. (w.1 ≡ me.1) × MovesWhereTold rule table told (g n) me.0 w.0)
    allowed key slots id core size nodes rank v a i f g told me says is same plan acts fits =
        let r : RankKnows C V = record { core = core; size = size; nodes = nodes; rank = rank; view = last_of v me.0; steps = steps_of me.0 } in
        let base = allowed_at key slots id r v a i f g same plan acts fits in
        let P : Me ℕ (Knows C V) → Option V → Type 0 = λ m t. Allows (IsRuled rule key) slots id m i f (λ n w. (w.1 ≡ m.1) × MovesWhereTold rule table t (g n) m.0 w.0) in
        subst (P me) (sym says) (subst (λ (m : Me ℕ (Knows C V)). P m (Some v)) (sym is) base)

    module _ (key : Setup C V) (slots id : ℕ) (core : C) (size nodes rank : ℕ) (v : V) (a : Atom) (told : Option V) (me : Me ℕ (Knows C V)) (says : told ≡ Some v) (at : IsRankAt core size nodes rank v me)
        (may_be : MayBeAt (sized (rule core) size nodes) rank v) (same : Keeps (rule core) rank (last_of v me.0) v) (plan : (table core).next v ≡ Some a) where
      abbrev pub May : ℕ → (ℕ → ℕ) → (ℕ → ℕ) → Type 0
      May i f g = (i < size + 8 * nodes) × Allows (IsRuled rule key) slots id me i f (λ n w. (w.1 ≡ me.1) × MovesWhereTold rule table told (g n) me.0 w.0)

      there : (b : Atom) → a ≡ b → (ws : List ℕ) × (cs : List ℕ) × (length ws ≡ size) × (length cs ≡ nodes) × CanDo (home_at (table core).home b) rank b ws cs
      there b e =
          let m = may_be.0 in (
            m.held.words,
            m.held.cards,
            m.is_ruled.1,
            m.is_ruled.2,
            (laws core).can m.held m.views rank v b (record { is_ruled = m.is_ruled.0; has = subst (λ (n : ℕ). slice_get m.views n ≡ Some v) may_be.1 m.has; planned = plan ∙ ap (λ (x : Atom). Some x) e }),
          )

      may : (b : Atom) → a ≡ b → (i : ℕ) (f g : ℕ → ℕ) → ((ws cs : List ℕ) → length ws ≡ size → length cs ≡ nodes → CanDo (home_at (table core).home b) rank b ws cs → (i < size + 8 * nodes) × IsAtom rank b i f g ws cs) → ((n : ℕ) → n < 2 ^ 64 → g n < 2 ^ 64) → May i f g
      may b e i f g acts fits = let t = there b e in (
        (acts t.0 t.1 t.2 t.3 t.4).0,
        allowed key slots id core size nodes rank v b i f g told me says at same (plan ∙ ap (λ (x : Atom). Some x) e)
            (λ ws cs wide deep can. (acts ws cs wide deep can).1) fits,
      )

      pub may_load : (w : ℕ) → a ≡ Load w → May w (λ n. n) (λ n. n)
      may_load w e = may (Load w) e w (λ n. n) (λ n. n) (λ ws cs wide deep can. (omega arith, loads ws cs rank w can)) (λ n h. h)

      pub may_store : (w x : ℕ) → a ≡ Store w x → May w (λ _. x) (λ _. 0)
      may_store w x e = may (Store w x) e w (λ _. x) (λ _. 0) (λ ws cs wide deep can. (omega arith, stores ws cs rank w x can)) (λ n h. omega arith)

      pub may_exchange : (w old new : ℕ) → a ≡ LocalCas w old new → May w (λ n. either (eqb n old) new n) (λ n. n)
      may_exchange w old new e = may (LocalCas w old new) e w (λ n. either (eqb n old) new n) (λ n. n) (λ ws cs wide deep can. (omega arith, exchanges ws cs rank w old new can)) (λ n h. h)

      pub may_take : (n : ℕ) → a ≡ Take n → May (size + (8 * n + 7)) (λ x. either (eqb x 0) (rank + 1) x) (λ x. x)
      may_take n e = may (Take n) e (size + (8 * n + 7)) (λ x. either (eqb x 0) (rank + 1) x) (λ x. x) (λ ws cs wide deep can. (omega arith, takes ws cs size rank n wide)) (λ x h. h)

      pub may_card_load : (w : ℕ) → a ≡ CardLoad w → May w (λ n. n) (λ n. n)
      may_card_load w e = may (CardLoad w) e w (λ n. n) (λ n. n) (λ ws cs wide deep can. let h = can.0 in (omega arith, card_loads ws cs rank w h)) (λ n h. h)

      pub may_card_store : (w x : ℕ) → a ≡ CardStore w x → May w (λ _. x) (λ _. 0)
      may_card_store w x e = may (CardStore w x) e w (λ _. x) (λ _. 0) (λ ws cs wide deep can. let h = can.0 in (omega arith, card_stores ws cs rank w x h)) (λ n h. omega arith)

      pub may_leave : (n : ℕ) → a ≡ Leave n → May (size + (8 * n + 7)) (λ _. 0) (λ _. 0)
      may_leave n e = may (Leave n) e (size + (8 * n + 7)) (λ _. 0) (λ _. 0) (λ ws cs wide deep can. let h = can.0 in (omega arith, leaves ws cs size rank n wide)) (λ x h. omega arith)
