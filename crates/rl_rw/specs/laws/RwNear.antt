-- How many counters are full, and the change of the ranks, where one word changes.
use Rattle.std.specs.Prelude.{◌≡◌, ◌≢◌, ℕ, zero, suc, ◌+◌, ◌-◌, ◌^◌, ◌<◌, ◌≤◌, ◌==◌, Bool, true, false, List, length, nat_lt, if◌then◌else◌, slice_index, slice_set, refl}
use Rattle.std.proofs.Common.{sym, ◌∙◌, ap, ⊎_elim, arith, get_or-set_other, get_or-set_same}
use Rattle.rl_word.specs.laws.Places.{same_or_not}
use Rattle.rl_queue.specs.declared.view.Phase.{Phase}
use Rattle.rl_queue.specs.declared.view.Phase.TheVariants.{Swing}
use Rattle.rl_queue.specs.laws.Choices.{choose, other_test}
use Rattle.rl_tree.specs.declared.view.TreeView.{TreeView}
use Rattle.rl_tree.specs.Tree.{path}
use Rattle.rl_tree.specs.Elements.{tree_of}
use Rattle.rl_counter.specs.declared.view.Doing.{Doing}
use Rattle.rl_counter.specs.declared.view.Doing.TheVariants.{Nothing, Arrive, Refused, SeeTail, Reset as ResetOff, RoundTail, Count, Compare}
use Rattle.rl_counter.specs.Counter.{depart_word}
use Rattle.rl_rw.specs.Rw.{Shared, counters_of}
use Rattle.rl_rw.specs.RwLeft.{is_full, ones, fulls, near_if, near_by, near_at}

-- ones and zeros
bit : (a b : Bool) → (a ≡ true → b ≡ true) → ones a ≤ ones b
bit true true h = omega arith
bit true false h = let e = h refl in cc
bit false true h = omega arith
bit false false h = omega arith

bit_low : (a : Bool) → ones a ≤ 1
bit_low true = omega arith
bit_low false = omega arith

-- a refused reader that takes itself off has less change
pub refused_falls : (b : Bool) (a : ℕ) → near_if b (SeeTail a) < near_if b (Refused a)
refused_falls false a = omega arith
refused_falls true a = by (nat_lt a (2 ^ 32)) where
  by : (x : Bool) → (if x then 2 else 7) < (if x then 3 else 8)
  by true = omega arith
  by false = omega arith

-- so has one that has taken off what departed
pub reset_falls : (b : Bool) (x : ℕ) → near_if b Arrive < near_if b (ResetOff x)
reset_falls true x = omega arith
reset_falls false x = omega arith

if_few : (b : Bool) (p : Doing) → near_if b p ≤ 8
if_few true (Refused a) = choose (λ k. k ≤ 8) (nat_lt a (2 ^ 32)) 3 8 (omega arith) (omega arith)
if_few true (SeeTail a) = choose (λ k. k ≤ 8) (nat_lt a (2 ^ 32)) 2 7 (omega arith) (omega arith)
if_few true (RoundTail a) = choose (λ k. k ≤ 8) (nat_lt a (2 ^ 32)) 5 7 (omega arith) (omega arith)
if_few true _ = omega arith
if_few false Arrive = omega arith
if_few false _ = omega arith

by_few : (q : Bool) (t : ℕ) (p : Phase) → near_by q t p ≤ 8
by_few true t p = omega arith
by_few false t (Swing g) = choose (λ k. k ≤ 8) (t == g) 0 1 (omega arith) (omega arith)
by_few false t _ = omega arith

module _ (K : Shared) where
  abbrev departed : List ℕ → ℕ → ℕ
  departed ws g = slice_index ws (depart_word (counters_of K) g)

  -- the change of a rank is so much at most
  pub near_few : (ws : List ℕ) (c : ℕ) (p : Doing) (t : TreeView) → near_at K ws c p t ≤ 8
  near_few ws c Nothing t = by_few t.query (slice_index ws (path (tree_of K.rooted) t.leaf t.level)) t.phase
  near_few ws c (Count i) t = omega arith
  near_few ws c (Compare i a) t = choose (λ k. k ≤ 8) (departed ws i == a - 2 ^ 32) 1 3 (omega arith) (omega arith)
  near_few ws c p t = if_few (is_full K ws c) p

  -- it is the same where what it is counted by is
  pub near_kept : (ws us : List ℕ) (c : ℕ) (p : Doing) (t : TreeView) →
      slice_index us (path (tree_of K.rooted) t.leaf t.level) ≡ slice_index ws (path (tree_of K.rooted) t.leaf t.level) →
      is_full K us c ≡ is_full K ws c →
      ((i a : ℕ) → p ≡ Compare i a → departed us i ≡ departed ws i) → near_at K us c p t ≡ near_at K ws c p t
  near_kept ws us c Nothing t tail full gone = ap (λ z. near_by t.query z t.phase) tail
  near_kept ws us c (Count i) t tail full gone = refl
  near_kept ws us c (Compare i a) t tail full gone = ap (λ z. if z == a - 2 ^ 32 then 1 else 3) (gone i a refl)
  near_kept ws us c p t tail full gone = ap (λ b. near_if b p) full

  -- a write to another word, and a reset, which leaves no counter full
  pub other_gone : (ws : List ℕ) (w x g : ℕ) → w ≢ depart_word (counters_of K) g → departed (slice_set ws w x) g ≡ departed ws g
  other_gone ws w x g ne = get_or-set_other ws w (depart_word (counters_of K) g) x 0 (λ e. ne (sym e))

  pub other_full : (ws : List ℕ) (w x g : ℕ) → w ≢ depart_word (counters_of K) g → is_full K (slice_set ws w x) g ≡ is_full K ws g
  other_full ws w x g ne = ap (λ z. z == K.readers) (other_gone ws w x g ne)

  pub reset_full : (ws : List ℕ) (g : ℕ) → 0 < K.readers → depart_word (counters_of K) g < length ws →
      is_full K (slice_set ws (depart_word (counters_of K) g) 0) g ≡ false
  reset_full ws g some there =
      ap (λ z. z == K.readers) (get_or-set_same ws (depart_word (counters_of K) g) 0 0 there) ∙ other_test 0 K.readers (λ e. absurd (omega arith))

  -- How many are full: no more where none is that wasn't; fewer where one was that isn't; and one more at most where one changes.
  pub fulls_less : (ws us : List ℕ) (k : ℕ) → ((g : ℕ) → g < k → is_full K us g ≡ true → is_full K ws g ≡ true) → fulls K us k ≤ fulls K ws k
  fulls_less ws us zero h = omega arith
  fulls_less ws us (suc k) h =
      let top : k < suc k = omega arith in
      let a = bit (is_full K us k) (is_full K ws k) (h k top) in
      let b = fulls_less ws us k (λ g lt e. let l : g < suc k = omega arith in h g l e) in omega arith

  pub fulls_same : (ws us : List ℕ) (k : ℕ) → ((g : ℕ) → g < k → is_full K us g ≡ is_full K ws g) → fulls K us k ≡ fulls K ws k
  fulls_same ws us zero h = refl
  fulls_same ws us (suc k) h =
      let top : k < suc k = omega arith in
      let a : ones (is_full K us k) ≡ ones (is_full K ws k) = ap ones (h k top) in
      let b = fulls_same ws us k (λ g lt. let l : g < suc k = omega arith in h g l) in omega arith

  pub fulls_fall : (ws us : List ℕ) (c k : ℕ) → c < k → ((g : ℕ) → g < k → is_full K us g ≡ true → is_full K ws g ≡ true) →
      is_full K ws c ≡ true → is_full K us c ≡ false → fulls K us k < fulls K ws k
  fulls_fall ws us c zero lt h was now = absurd (omega arith)
  fulls_fall ws us c (suc k) lt h was now =
      let top : k < suc k = omega arith in
      let less : (g : ℕ) → g < k → is_full K us g ≡ true → is_full K ws g ≡ true = λ g lg e. let l : g < suc k = omega arith in h g l e in
      ⊎_elim
      (λ e.
      let a : ones (is_full K us k) ≡ 0 = ap (λ z. ones (is_full K us z)) (sym e) ∙ ap ones now in
      let b : ones (is_full K ws k) ≡ 1 = ap (λ z. ones (is_full K ws z)) (sym e) ∙ ap ones was in
      let k' = fulls_less ws us k less in omega arith)
      (λ ne.
      let lc : c < k = let x : c ≢ k = ne in omega arith in
      let a = bit (is_full K us k) (is_full K ws k) (h k top) in
      let k' = fulls_fall ws us c k lc less was now in omega arith)
      (same_or_not c k)

  pub fulls_grow : (ws us : List ℕ) (c k : ℕ) → ((g : ℕ) → g < k → g ≢ c → is_full K us g ≡ is_full K ws g) → fulls K us k ≤ fulls K ws k + 1
  fulls_grow ws us c zero h = omega arith
  fulls_grow ws us c (suc k) h =
      let top : k < suc k = omega arith in
      let rest : (g : ℕ) → g < k → g ≢ c → is_full K us g ≡ is_full K ws g = λ g lg ne. let l : g < suc k = omega arith in h g l ne in
      ⊎_elim
      (λ e.
      let a = bit_low (is_full K us k) in
      let b = fulls_same ws us k (λ g lg. rest g lg (λ z. let bad : g ≡ k = z ∙ sym e in absurd (omega arith))) in omega arith)
      (λ ne.
      let a : ones (is_full K us k) ≡ ones (is_full K ws k) = ap ones (h k top ne) in
      let b = fulls_grow ws us c k rest in omega arith)
      (same_or_not k c)
