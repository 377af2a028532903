-- The rows of the table of views: who is at the marks is at the hook, a reader is out of the tree, and what goes on from the hook is
-- away from it.
use Rattle.std.specs.Prelude.{◌≡◌, ◌≢◌, ℕ, ◌+◌, ◌*◌, ◌/◌, ◌<◌, Bool, true, false, List, [], length, slice_get, slice_set, Some, None, refl}
use Rattle.std.proofs.Common.{sym, ◌∙◌, ap, subst, inl, inr, ⊎_elim, arith, length-set}
use Rattle.std.proofs.lemmas.Option.{same_Some, slice_get_within}
use Rattle.rl_word.specs.laws.Places.{get_set_cases, get_set_same, get_set_other, map_set}
use Rattle.rl_word.specs.declared.classes.Mode.{Mode}
use Rattle.rl_step.specs.declared.events.Standing.TheVariants as standing
use Rattle.rl_step.specs.Lock.{LockState}
use Rattle.rl_step.specs.Batches.{Batched}
use Rattle.rl_queue.specs.declared.view.Phase.{Phase}
use Rattle.rl_queue.specs.declared.view.Phase.TheVariants.{Settle}
use Rattle.rl_queue.specs.Queue.{plan_at}
use Rattle.rl_queue.specs.laws.RankViewLaws.{each_set}
use Rattle.rl_tree.specs.declared.view.TreeView.{TreeView}
use Rattle.rl_tree.specs.Tree.{TheTree, names_at, works_for, tree_plan, hook_by, at_hook, resume_by, tree_resume, tree_standing}
use Rattle.rl_tree.specs.laws.Cases.{plan_by}
use Rattle.rl_tree.specs.Elements.{ranks_in}
use Rattle.rl_tree.specs.TreeGood.{GoodAt, IsAbove}
use Rattle.rl_tree.specs.laws.TreeStandings.{above_is, hook_cases, out_is}
use Rattle.rl_counter.specs.declared.view.Doing.{Doing}
use Rattle.rl_counter.specs.declared.view.Doing.TheVariants.{Nothing, Put, Count, Compare, TakeOut, TakeOff}
use Rattle.rl_counter.specs.CounterGood.{GroupGood, IsMark, mark_by}
use Rattle.rl_rw.specs.declared.view.RwView.{RwView}
use Rattle.rl_rw.specs.Rw.{Shared, groups, behind_tree, counters_of, hooks, mine_of}
use Rattle.rl_rw.specs.RwGood.{trees, doings, Place, Moded, Lonely, Hooked, RwGood}

settle_at : (t : TreeView) → t.query ≡ false → t.phase ≡ Settle → at_hook t ≡ true
settle_at t e f = ap (λ z. hook_by z t.phase) e ∙ ap (hook_by false) f

above_at : (t : TreeView) → t.query ≡ false → IsAbove t.phase → at_hook t ≡ true
above_at t e h = let s = above_is t.phase h in ap (λ z. hook_by z t.phase) e ∙ ap (hook_by false) s.1

-- who is at the marks is at the hook
pub marks_hook : (n : ℕ) (p : Doing) (t : TreeView) → IsMark p → Place n p t → at_hook t ≡ true
marks_hook n (Put i) t m h = settle_at t h.0 h.1
marks_hook n (Count i) t m h = settle_at t h.0 h.1
marks_hook n (Compare i a) t m h = settle_at t h.0 h.1
marks_hook n (TakeOut i) t m h = above_at t h.0 h.1
marks_hook n (TakeOff i x) t m h = above_at t h.0 h.1
marks_hook n _ t m h = absurd m

-- who comes to the hook begins at the marks
pub hook_place : (n : ℕ) (t : TreeView) → 0 < n → at_hook t ≡ true → Place n (hooks t.phase) t × IsMark (hooks t.phase)
hook_place n t lt e =
    let c = hook_cases t.query t.phase e in
    ⊎_elim
    (λ s. let b : hooks t.phase ≡ Put 0 = ap hooks s in (subst (λ z. Place n z t) (sym b) (c.0, s, lt), subst IsMark (sym b) tt))
    (λ a. let k = above_is t.phase a in let b : hooks t.phase ≡ TakeOut 0 = ap hooks k.1 in
    (subst (λ z. Place n z t) (sym b) (c.0, a, lt), subst IsMark (sym b) tt)) c.1

-- nothing waits where the tree goes on from the hook
pub resume_goes : (T : TheTree) (v : TreeView) → (tree_resume T v).waits ≡ false
resume_goes T v = by v.phase where
  by : (p : Phase) → (resume_by T v p []).waits ≡ false
  by Settle = refl
  by _ = refl

-- one that is out of the tree is away from the hook, and plans nothing there
pub out_away : (t : TreeView) → tree_standing t ≡ standing.Out → at_hook t ≡ false
out_away t e = let o = out_is t.query t.phase e in ap (λ z. hook_by z t.phase) o.0 ∙ ap (hook_by false) o.1

pub out_plans_not : (T : TheTree) (t : TreeView) → tree_standing t ≡ standing.Out → tree_plan T t ≡ None
out_plans_not T t e = let o = out_is t.query t.phase e in ap (plan_by T t) o.0 ∙ ap (plan_at (names_at T t t.level) (works_for T t t.level)) o.1

-- the marks by what is done: what is done at the marks tells them alone
pub mark_free : (o n : Bool) (p : Doing) (g : ℕ) → IsMark p → mark_by o p g ≡ mark_by n p g
mark_free o n (Put i) g m = refl
mark_free o n (Count i) g m = refl
mark_free o n (Compare i a) g m = refl
mark_free o n (TakeOut i) g m = refl
mark_free o n (TakeOff i x) g m = refl
mark_free o n _ g m = absurd m

-- Who is at the marks, where rank r's view changes: nobody else's doing changes.
abbrev pub OthersAway : List RwView → ℕ → Type 0
OthersAway vs r = (k : ℕ) (x : RwView) → slice_get vs k ≡ Some x → k ≢ r → IsMark x.counter.doing → ⊥

pub hooked_same : (vs : List RwView) (r : ℕ) (v w : RwView) (h : Doing) → slice_get vs r ≡ Some v → (IsMark v.counter.doing → ⊥) →
    (IsMark w.counter.doing → ⊥) → Hooked vs h → Hooked (slice_set vs r w) h
hooked_same vs r v w h has nv nw b =
    record {
      all = λ k x e m. ⊎_elim (λ p. absurd (nw (subst (λ z. IsMark z.counter.doing) p.1 m))) (λ p. b.all k x p.1 m) (get_set_cases vs r k w x e);
      some = ⊎_elim inl
          (λ a. inr (record {
            rank = a.rank;
            view = a.view;
            has = get_set_other vs r a.rank w
                (λ e. nv (subst (λ z. IsMark z.counter.doing) (same_Some _ _ (sym a.has ∙ ap (slice_get vs) e ∙ has)) a.marks)) ∙ a.has;
            does = a.does;
            marks = a.marks;
          })) b.some;
    }

pub hooked_at : (vs : List RwView) (r : ℕ) (v w : RwView) → slice_get vs r ≡ Some v → IsMark w.counter.doing → OthersAway vs r →
    Hooked (slice_set vs r w) w.counter.doing
hooked_at vs r v w has mw away =
    record {
      all = λ k x e m. ⊎_elim (λ p. ap (λ z. z.counter.doing) p.1) (λ p. absurd (away k x p.1 p.0 m)) (get_set_cases vs r k w x e);
      some = inr (record { rank = r; view = w; has = get_set_same vs r v w has; does = refl; marks = mw });
    }

pub hooked_off : (vs : List RwView) (r : ℕ) (w : RwView) → (IsMark w.counter.doing → ⊥) → OthersAway vs r → Hooked (slice_set vs r w) Nothing
hooked_off vs r w nw away =
    record {
      all = λ k x e m. ⊎_elim (λ p. absurd (nw (subst (λ z. IsMark z.counter.doing) p.1 m))) (λ p. absurd (away k x p.1 p.0 m)) (get_set_cases vs r k w x e);
      some = inl refl;
    }

module _ (K : Shared) (levels : ℕ) where
  -- A state stays good where rank r's view changes.
  pub stays : (s u : LockState RwView) (r : ℕ) (v w : RwView) → RwGood K levels s → slice_get s.views r ≡ Some v →
      length u.words ≡ length s.words → u.views ≡ slice_set s.views r w → length u.modes ≡ length s.modes →
      w.counter.counter ≡ v.counter.counter →
      Place (groups K) w.counter.doing w.tree → ((m : Mode) → slice_get u.modes r ≡ Some m → Moded w.counter.doing w.tree m) →
      ((k : ℕ) → k ≢ r → slice_get u.modes k ≡ slice_get s.modes k) →
      (o : Bool) → GoodAt K.rooted levels o u.words (slice_set (trees s.views) r w.tree) u.trace → (h : Doing) → Hooked (slice_set s.views r w) h →
      ((g : ℕ) → g < groups K → GroupGood (counters_of K) (mine_of K g) g u.words (slice_set (doings s.views) r w.counter.doing) (mark_by o h g)) →
      ((g : ℕ) → g < groups K → Batched (mine_of K g) (behind_tree K + 2 * g) K.readers u.words u.deeds) →
      (ranks_in K.rooted ≡ 1 → Lonely K u.words w.counter.doing) → RwGood K levels u
  stays s u r v w g has lw ev lm own place moded modes o tree h hooked counters batches lonely =
      record {
        all_words = lw ∙ g.all_words;
        all_views = ap length ev ∙ length-set s.views r w ∙ g.all_views;
        all_modes = lm ∙ g.all_modes;
        inside = o;
        tree = subst (λ z. GoodAt K.rooted levels o u.words z u.trace) (sym (ap (λ z. trees z) ev ∙ map_set (λ x. x.tree) s.views r w)) tree;
        hook = h;
        hooked = subst (λ z. Hooked z h) (sym ev) hooked;
        counters = λ i lt. subst (λ z. GroupGood (counters_of K) (mine_of K i) i u.words z (mark_by o h i))
            (sym (ap (λ z. doings z) ev ∙ map_set (λ x. x.counter.doing) s.views r w)) (counters i lt);
        own = each_set (λ i x. x.counter.counter ≡ i / K.group) s.views u.views r w ev (own ∙ g.own r v has) (λ i x ne e. g.own i x e);
        place = each_set (λ i x. Place (groups K) x.counter.doing x.tree) s.views u.views r w ev place (λ i x ne e. g.place i x e);
        moded = λ i x m e f. each_set (λ i x. slice_get u.modes i ≡ Some m → Moded x.counter.doing x.tree m) s.views u.views r w ev
            (moded m) (λ i x ne e f. g.moded i x m e (sym (modes i ne) ∙ f)) i x e f;
        batches = batches;
        lonely = λ one. each_set (λ i x. Lonely K u.words x.counter.doing) s.views u.views r w ev (lonely one)
            (λ i x ne e. let a = slice_get_within s.views i x e in let b = slice_get_within s.views r v has in let c = g.all_views in
            absurd (ne (omega arith)));
      }
