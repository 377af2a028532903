-- Where nobody goes out of a counter, its arrive word is the mark and what departed, no more.
use Rattle.std.specs.Prelude.{◌≡◌, ℕ, suc, ◌+◌, ◌<◌, ◌≤◌, Bool, true, false, List, [], ◌∷◌, slice_get, slice_index, Some, refl}
use Rattle.std.proofs.Common.{subst, arith}
use Rattle.rl_word.specs.laws.Places.{get_map_back}
use Rattle.rl_step.specs.Lock.{LockState}
use Rattle.rl_tree.specs.declared.view.TreeView.{TreeView}
use Rattle.rl_counter.specs.declared.view.Doing.{Doing}
use Rattle.rl_counter.specs.declared.view.Doing.TheVariants.{Refused, Reset as ResetOff, Inside, Depart}
use Rattle.rl_counter.specs.Counter.{arrive_word, depart_word}
use Rattle.rl_counter.specs.CounterGood.{GroupGood, Mark, group_sum, if_one, inside_of, mark_adds, mark_by, mark_took, refused_of, sum_at, taken_of}
use Rattle.rl_rw.specs.declared.view.RwView.{RwView}
use Rattle.rl_rw.specs.Rw.{Shared, groups, counters_of, mine_of}
use Rattle.rl_rw.specs.RwGood.{doings, RwGood}
use Rattle.rl_rw.specs.RwUrgency.{urgency_at, rw_urgent}

-- who doesn't go out has no share in a counter
no_share : (K : Shared) (ws : List ℕ) (p : Doing) (t : TreeView) → (urgency_at K ws p t ≡ Some 0 → ⊥) →
    (inside_of p ≡ 0) × (refused_of p ≡ 0) × (taken_of p ≡ 0)
no_share K ws Inside t h = absurd (h refl)
no_share K ws Depart t h = absurd (h refl)
no_share K ws (Refused a) t h = absurd (h refl)
no_share K ws (ResetOff x) t h = absurd (h refl)
no_share K ws _ t h = (refl, refl, refl)

sum_zero : (mine : ℕ → Bool) (share : Doing → ℕ) (from : ℕ) (ps : List Doing) →
    ((r : ℕ) (p : Doing) → slice_get ps r ≡ Some p → share p ≡ 0) → sum_at (λ k p. if_one (mine k) (share p)) from ps ≡ 0
sum_zero mine share from [] h = refl
sum_zero mine share from (p ∷ ps) h =
    let one : if_one (mine from) (share p) ≡ 0 = by (mine from) (h 0 p refl) in
    let k = sum_zero mine share (from + 1) ps (λ r q e. h (suc r) q e) in omega arith where
      by : (b : Bool) → share p ≡ 0 → if_one b (share p) ≡ 0
      by true e = e
      by false e = refl

module _ (K : Shared) where
  -- no rank is as urgent as this
  abbrev pub NoneAt : LockState RwView → ℕ → Type 0
  NoneAt s k = (i : ℕ) (x : RwView) → slice_get s.views i ≡ Some x → rw_urgent K s.words x ≡ Some k → ⊥

  shares : (s : LockState RwView) (r : ℕ) (p : Doing) → NoneAt s 0 → slice_get (doings s.views) r ≡ Some p →
      (inside_of p ≡ 0) × (refused_of p ≡ 0) × (taken_of p ≡ 0)
  shares s r p none h =
      let b = get_map_back (λ v. v.counter.doing) s.views r p h in
      subst (λ z. (inside_of z ≡ 0) × (refused_of z ≡ 0) × (taken_of z ≡ 0)) b.2 (no_share K s.words b.0.counter.doing b.0.tree (none r b.0 b.1))

  pub balanced : (n : ℕ) (s : LockState RwView) (i : ℕ) (m : Mark) (g : RwGood K n s) → NoneAt s 0 → i < groups K →
      mark_by g.inside g.hook i ≡ m → mark_took m ≡ 0 →
      (slice_index s.words (arrive_word (counters_of K) i) ≡ mark_adds m + slice_index s.words (depart_word (counters_of K) i)) ×
      (slice_index s.words (depart_word (counters_of K) i) ≤ K.readers)
  balanced n s i m g none lt e took =
      let good : GroupGood (counters_of K) (mine_of K i) i s.words (doings s.views) m =
      subst (λ z. GroupGood (counters_of K) (mine_of K i) i s.words (doings s.views) z) e (g.counters i lt) in
      let a : group_sum (mine_of K i) inside_of (doings s.views) ≡ 0 = sum_zero (mine_of K i) inside_of 0 (doings s.views) (λ r p h. (shares s r p none h).0) in
      let b : group_sum (mine_of K i) refused_of (doings s.views) ≡ 0 =
      sum_zero (mine_of K i) refused_of 0 (doings s.views) (λ r p h. (shares s r p none h).1) in
      let c : group_sum (mine_of K i) taken_of (doings s.views) ≡ 0 = sum_zero (mine_of K i) taken_of 0 (doings s.views) (λ r p h. (shares s r p none h).2) in
      let x = good.balance in
      let y = good.ceiling in
      (omega arith, omega arith)
