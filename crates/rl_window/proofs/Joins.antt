-- The root seat takes in the seats, in their order, and at the end it has all views.
use Rattle.std.proofs.Common.{◌≡◌, ℕ, ◌+◌, ◌<◌, ◌≢◌, List, [], ◌∷◌, ◌++◌, length, set, take, Option, Some, sym, ap, ◌∙◌, subst, ⊎_elim, arith, length-set, length-take-le, take_all, take_at, ◌-◌, length-drop}
use Rattle.std.proofs.lemmas.List.{take_more_set, drop-set-lt}
use Rattle.rl_word.specs.laws.Places.{get_set_other}
use mathlib.Core.Option.{some}
use lib.ListN.{get_elem?}
use Rattle.atomic_table.specs.Table.{Me, Joins, Seen, Final}
use Rattle.atomic_table.proofs.Lists.{at_set, set_else}
use Rattle.rl_step.specs.Do.{TheWindow}
use Rattle.rl_window.specs.declared.knows.Setup.{Setup}
use Rattle.rl_window.specs.declared.knows.RootKnows.{RootKnows}
use Rattle.rl_window.specs.declared.knows.RankKnows.{RankKnows}
use Rattle.rl_window.specs.declared.knows.Knows.{Knows}
use Rattle.rl_window.specs.declared.knows.Knows.TheVariants.{Root, Rank, Spent}
use Rattle.rl_window.specs.Rule.{apart, Keeps, Fits, IsRuled}
use Rattle.rl_window.specs.Plays.{with_ended, CanEnd}

module _ {C V : Type 0} (rule : C → TheWindow → List V → Type 0) where
  -- what another seat knows stays so, where the rank `joined` ends
  left_fit : (core : C) (size nodes : ℕ) (views : List V) (given joined j : ℕ) (v : V) → j ≢ 0 → j ≢ joined + 1 → (k : Knows C V) → Fits core size nodes views given joined j k → Fits core size nodes (set views joined v) given (joined + 1) j k
  left_fit core size nodes views given joined j v root other (Root r) f = absurd (root f.0)
  left_fit core size nodes views given joined j v root other (Rank r) f =
      let differs : r.rank ≢ joined = λ e. other (f.0 ∙ ap (λ (n : ℕ). n + 1) e) in
      (f.0, f.1, f.2, f.3, (let h = f.4 in omega arith), f.5, get_set_other views joined r.rank v differs ∙ f.6)
  left_fit core size nodes views given joined j v root other Spent f = tt

  joins_at : (key : Setup C V) (id other : ℕ) (q : RootKnows C V) (r : RankKnows C V) (v : V) → r.rank ≡ length q.ended → Keeps (rule r.core) r.rank r.view v
      → Joins (IsRuled rule key) id (Root q) other (Rank r) (Root (record q { ended = q.ended ++ v ∷ [] })) Spent
  joins_at key id other q r v next same s R at differ there =
      let both : Knows C V = Root (record q { ended = q.ended ++ v ∷ [] }) in
      let there' : get_elem? s.views other ≡ some (Rank r) = sym (set_else s.views id other both differ) ∙ there in
      let F = R.each id (Root q) at in
      let G = R.each other (Rank r) there' in
      let e = R.enough in
      let o = R.order in
      let n : r.rank ≡ R.joined = next ∙ (ap length F.6 ∙ length-take-le R.joined R.views (omega arith)) in
      let below : R.joined < R.given = subst (λ (k : ℕ). k < R.given) n G.5 in
      let kept : rule r.core R.held (set R.views r.rank v) = same R.held R.views (subst (λ (c : C). rule c R.held R.views) (sym G.1) R.kept.0) G.6 in
      let kept' : rule key.core R.held (set R.views R.joined v) = subst (λ (c : C). rule c R.held (set R.views R.joined v)) G.1 (subst (λ (k : ℕ). rule r.core R.held (set R.views k v)) n kept) in
      record {
        held = R.held;
        views = set R.views R.joined v;
        given = R.given;
        joined = R.joined + 1;
        laid = R.laid;
        kept = (kept', R.kept.1, R.kept.2);
        seats = length-set (set s.views id both) other Spent ∙ (length-set s.views id both ∙ R.seats);
        enough = let l = length-set R.views R.joined v in omega arith;
        order = omega arith;
        each = λ j k h. ⊎_elim
            (λ (t : (j ≡ other) × (Spent ≡ k)). subst (Fits key.core key.size key.nodes (set R.views R.joined v) R.given (R.joined + 1) j) t.1 tt)
            (λ (t : (j ≢ other) × (get_elem? (set s.views id both) j ≡ some k)). ⊎_elim
            (λ (u : (j ≡ id) × (both ≡ k)). subst (Fits key.core key.size key.nodes (set R.views R.joined v) R.given (R.joined + 1) j) u.1
            (u.0 ∙ F.0, F.1, F.2, F.3, F.4, F.5 ∙ sym (drop-set-lt R.given R.views R.joined v below), ap (λ (l : List V). l ++ v ∷ []) F.6 ∙ sym (take_more_set R.views R.joined v (omega arith))))
            (λ (u : (j ≢ id) × (get_elem? s.views j ≡ some k)). left_fit key.core key.size key.nodes R.views R.given R.joined j v (λ (z : j ≡ 0). u.0 (z ∙ sym F.0))
            (λ (z : j ≡ R.joined + 1). t.0 (z ∙ (ap (λ (m : ℕ). m + 1) (sym n) ∙ sym G.0))) k (R.each j k u.1))
            (at_set s.views id j both k t.1))
            (at_set (set s.views id both) other j Spent k h);
      }

  pub joins : (key : Setup C V) (id other : ℕ) (root me : Me ℕ (Knows C V)) (v : V) (told : Option V) → told ≡ Some v → CanEnd rule root me v → Joins (IsRuled rule key) id root.0 other me.0 (with_ended told root.0) Spent
  joins key id other root me v told says E =
      let base = joins_at key id other E.0 E.1 v E.4 E.6 in
      let P : Me ℕ (Knows C V) → Me ℕ (Knows C V) → Option V → Type 0 = λ m k t. Joins (IsRuled rule key) id m.0 other k.0 (with_ended t m.0) Spent in
      subst (P root me) (sym says) (subst (λ (m : Me ℕ (Knows C V)). P m me (Some v)) (sym E.2) (subst (λ (k : Me ℕ (Knows C V)). P (Root E.0, []) k (Some v)) (sym E.3) base))

  -- once all are taken in, the last words and the views meet the rule
  pub last : (key : Setup C V) (id : ℕ) (q : RootKnows C V) (root : Me ℕ (Knows C V)) (ws : List ℕ) (xs : List ℕ) → root ≡ (Root q, []) → q.to_come ≡ [] → q.given ≡ length q.ended → Final (Seen (IsRuled rule key) id root.0) ws xs
      → (cards : List ℕ) × rule key.core (record { words = take key.size ws; cards = cards }) q.ended
  last key id q root ws xs is none all F =
      let R = F.1.0 in
      let T = R.each id (Root q) (F.1.1 ∙ ap (λ (m : Me ℕ (Knows C V)). some m.0) is) in
      let e = R.enough in
      let o = R.order in
      let over : length R.views - R.given ≡ 0 = sym (length-drop R.given R.views) ∙ ap length (sym T.5 ∙ none) in
      let taken : length q.ended ≡ R.joined = ap length T.6 ∙ length-take-le R.joined R.views (omega arith) in
      let given : q.given ≡ R.given = T.4 in
      let whole : q.ended ≡ R.views = T.6 ∙ take_all R.joined R.views (omega arith) in
      let words : take key.size ws ≡ R.held.words = ap (take key.size) (sym F.2 ∙ R.laid) ∙ take_at R.held.words (apart R.held.cards) key.size R.kept.1 in
      (R.held.cards, subst (λ (l : List ℕ). rule key.core (record { words = l; cards = R.held.cards }) q.ended) (sym words) (subst (rule key.core R.held) (sym whole) R.kept.0))
