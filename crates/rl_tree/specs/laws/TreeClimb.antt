-- A rank that has been given the queue at a level settles in all queues below, from the upper one down, in one act.
use Rattle.std.specs.Prelude.{◌≡◌, ◌≢◌, ◌⊎◌, ℕ, zero, suc, ◌+◌, ◌<◌, ◌≤◌, ◌==◌, ◌&&◌, Bool, true, false, not, List, [], ◌∷◌, ◌++◌, if◌then◌else◌, slice_index, Some, None, refl}
use Rattle.std.proofs.Common.{sym, ◌∙◌, ap, subst, inl, inr, ⊎_elim, arith, append_assoc}
use Rattle.std.proofs.lemmas.List.{append-nil}
use Rattle.std.proofs.lemmas.Option.{same_Some}
use Rattle.rl_word.specs.laws.Places.{same_or_not}
use Rattle.rl_step.specs.declared.events.Event.{Event}
use Rattle.rl_step.specs.declared.events.Event.TheVariants as event
use Rattle.rl_step.specs.Queues.{tenures, count}
use Rattle.rl_step.specs.laws.QueueLemmas.{tenures-append}
use Rattle.rl_queue.specs.laws.Choices.{same_test, other_test}
use Rattle.rl_queue.specs.declared.view.Phase.{Phase}
use Rattle.rl_queue.specs.declared.view.Phase.TheVariants.{Settle, Granted}
use Rattle.rl_queue.specs.Queue.{status_word, settled_at}
use Rattle.rl_queue.specs.Lane.{Lane, lane_of, Has, IsFirst}
use Rattle.rl_queue.specs.laws.LaneLaws.{is_first}
use Rattle.rl_queue.specs.QueueGood.{QueueGood}
use Rattle.rl_queue.specs.laws.QueueLaws.{still_keeps}
use Rattle.rl_queue.specs.laws.QueueMoves.{settle_keeps, beside_keeps}
use Rattle.rl_queue.specs.Heads.{head_in}
use Rattle.rl_queue.specs.laws.QueueHeads.{head, head_at, head_first}
use Rattle.rl_tree.specs.Tree.{settles_below}
use Rattle.rl_tree.specs.declared.rooted.Rooted.{Rooted}
use Rattle.rl_tree.specs.Elements.{how_many, is_node, names_in, tree_of, queue_at}
use Rattle.rl_step.specs.LockQueues.{is_at}
use Rattle.rl_tree.specs.TreeGood.{Open, gate_of, Matches, IsGrantedAt, InQueue, granted_in}
use Rattle.rl_tree.specs.laws.TreePaths.{put, put_here, put_away, put_moves, head_by, AllGood, OnPath, el, me, el_there, el_deep, el_apart, el_up, el_top, leaf_node}

-- the line stays who it is where no word and no phase of its members changes
pub heads_same : (L M : Lane) (l : List ℕ) → ((x : ℕ) → M.phase x ≡ L.phase x) → ((x : ℕ) → Has x l → M.status x ≡ L.status x) → head_in M l ≡ head_in L l
heads_same L M [] p s = refl
heads_same L M (h ∷ r) p s = head_at M h r (L.phase h) (L.status h) (p h) (s h (inl refl))

-- what is counted for an element and not for a node
pub else_zero : (b : Bool) (c : ℕ) → c ≡ 0 → (if b then 0 else c) ≡ 0
else_zero true c e = refl
else_zero false c e = e

pub else_parts : (b : Bool) (y z c : ℕ) → y ≡ 1 → z ≡ 0 → c ≡ 1 → (if b then 0 else y) ≡ (if b then 0 else z) + (if b then 0 else c)
else_parts true y z c a e f = refl
else_parts false y z c a e f = omega arith

module _ {K : Rooted} {levels : ℕ} (r : OnPath K levels) where
  abbrev pub whole : ℕ → Phase
  whole j = settled_at (names_in K (el r j)).budget

  -- the phases once the queue at a level has settled, and once all below a level have
  abbrev pub settle_at : (ℕ → ℕ → Phase) → ℕ → ℕ → ℕ → Phase
  settle_at F j = put F (el r j) (me r j) (whole j)

  abbrev pub settled : (ℕ → ℕ → Phase) → ℕ → ℕ → ℕ → Phase
  settled F zero = F
  settled F (suc j) = settled (settle_at F j) j

  -- the rank must settle in all queues below a level; and an element is off its path there
  abbrev pub MustSettle : (ℕ → ℕ → Phase) → ℕ → Type 0
  MustSettle F j = (i : ℕ) → i < j → F (el r i) (me r i) ≡ Settle

  abbrev pub OffPath : ℕ → ℕ → Type 0
  OffPath j x = (i : ℕ) → i < j → x ≢ el r i

  -- one queue settles, and no other is moved
  settle_one : (ws : List ℕ) (F : ℕ → ℕ → Phase) (L : ℕ → List ℕ) (e : ℕ → ℕ) (t : List Event) (j : ℕ) → j ≤ levels →
      AllGood K ws F L e t → F (el r j) (me r j) ≡ Settle →
      AllGood K ws (settle_at F j) L e (t ++ event.Settle (el r j) (me r j) ∷ [])
  settle_one ws F L e t j le g st x there =
      ⊎_elim
      (λ q. subst (λ z. QueueGood (names_in K z) (InQueue K z) ws (settle_at F j z) (L z) (t ++ event.Settle (el r j) (me r j) ∷ []) (e z)) (sym q)
      (settle_keeps (names_in K (el r j)) (InQueue K (el r j)) ws (F (el r j)) (settle_at F j (el r j)) (L (el r j)) t (e (el r j))
      (me r j) (g (el r j) (el_there r j le)) (put_moves F (el r j) (me r j) Settle (whole j) st)))
      (λ ne. beside_keeps (names_in K x) (InQueue K x) ws (settle_at F j x) (L x) t (e x) (event.Settle (el r j) (me r j))
      (still_keeps (names_in K x) (InQueue K x) ws ws (F x) (settle_at F j x) (L x) t (e x) (g x there)
      (λ y. put_away F (el r j) (me r j) (whole j) x y (inl ne)) refl (λ y i. refl) (λ y i. refl))
      (λ k. ne (sym k)))
      (same_or_not x (el r j))

  -- All queues below a level settle, one after the other, from the upper one down.
  pub cascade : (ws : List ℕ) (F : ℕ → ℕ → Phase) (L : ℕ → List ℕ) (e : ℕ → ℕ) (t : List Event) (j : ℕ) → j ≤ suc levels →
      AllGood K ws F L e t → MustSettle F j →
      AllGood K ws (settled F j) L e (t ++ settles_below (tree_of K) r.view j)
  cascade ws F L e t zero le g st x there = subst (λ z. QueueGood (names_in K x) (InQueue K x) ws (F x) (L x) z (e x)) (sym (append-nil t)) (g x there)
  cascade ws F L e t (suc j) le g st x there =
      let lj : j ≤ levels = omega arith in
      let one = settle_one ws F L e t j lj g (st j (omega arith)) in
      let rest = cascade ws (settle_at F j) L e (t ++ event.Settle (el r j) (me r j) ∷ []) j (omega arith) one
      (λ i b. put_away F (el r j) (me r j) (whole j) (el r i) (me r i) (inl (el_apart r i j (omega arith) lj (omega arith))) ∙ st i (omega arith)) in
      subst (λ z. QueueGood (names_in K x) (InQueue K x) ws (settled (settle_at F j) j x) (L x) z (e x))
      (append_assoc t (event.Settle (el r j) (me r j) ∷ []) (settles_below (tree_of K) r.view j)) (rest x there)

  -- What phases there are then: each queue below has settled for the rank's member, and nothing else has changed.
  pub settled_away : (F : ℕ → ℕ → Phase) (j : ℕ) (x y : ℕ) → ((i : ℕ) → i < j → (x ≢ el r i) ⊎ (y ≢ me r i)) → settled F j x y ≡ F x y
  settled_away F zero x y h = refl
  settled_away F (suc j) x y h = settled_away (settle_at F j) j x y (λ i b. h i (omega arith))
      ∙ put_away F (el r j) (me r j) (whole j) x y (h j (omega arith))

  pub settled_here : (F : ℕ → ℕ → Phase) (j i : ℕ) → j ≤ suc levels → i < j → settled F j (el r i) (me r i) ≡ whole i
  settled_here F zero i le b = absurd (omega arith)
  settled_here F (suc j) i le b =
      ⊎_elim
      (λ q.
      let away = settled_away (settle_at F j) j (el r i) (me r i) (λ k c. inl (el_apart r i k (omega arith) (omega arith) (omega arith))) in
      away ∙ ap (λ z. settle_at F j (el r z) (me r z)) q ∙ put_here F (el r j) (me r j) (whole j) ∙ ap whole (sym q))
      (λ ne. settled_here (settle_at F j) j i (omega arith) (omega arith))
      (same_or_not i j)

  -- an element is on the path below a level, or isn't
  pub on_path : (j x : ℕ) → ((i : ℕ) × (i < j) × (x ≡ el r i)) ⊎ OffPath j x
  on_path zero x = inr (λ i b. absurd (omega arith))
  on_path (suc j) x =
      ⊎_elim (λ q. inl (j, omega arith, q))
      (λ ne. ⊎_elim (λ k. inl (k.0, omega arith, k.2)) (λ f. inr
      (λ i b. ⊎_elim (λ q. subst (λ z. x ≢ el r z) (sym q) ne) (λ m. f i (omega arith)) (same_or_not i j))) (on_path j x))
      (same_or_not x (el r j))

  -- the head of a queue on the path, after it has settled, has the queue
  pub settled_head : (ws : List ℕ) (F : ℕ → ℕ → Phase) (L : ℕ → List ℕ) (e : ℕ → ℕ) (t : List Event) (j i : ℕ) → j ≤ suc levels → i < j →
      AllGood K ws F L e t → F (el r i) (me r i) ≡ Settle →
      head_by K ws (settled F j) L (el r i) ≡ head (me r i) (whole i) (slice_index ws (status_word (names_in K (el r i)) (me r i)))
  settled_head ws F L e t j i le b g st =
      let f : IsFirst (F (el r i) (me r i)) (slice_index ws (status_word (names_in K (el r i)) (me r i))) =
      subst (λ z. IsFirst z (slice_index ws (status_word (names_in K (el r i)) (me r i)))) (sym st) tt in
      let a = is_first (names_in K (el r i)).budget (InQueue K (el r i)) (lane_of (names_in K (el r i)) ws (F (el r i))) (L (el r i)) (me r i)
      (g (el r i) (el_there r i (omega arith))).inv f in
      ap (head_in (lane_of (names_in K (el r i)) ws (settled F j (el r i)))) a.1
      ∙ head_at (lane_of (names_in K (el r i)) ws (settled F j (el r i))) (me r i) a.0 (whole i)
      (slice_index ws (status_word (names_in K (el r i)) (me r i))) (settled_here F j i le b) refl

  -- and that of a queue off the path is who it was
  pub settled_off : (ws : List ℕ) (F : ℕ → ℕ → Phase) (L : ℕ → List ℕ) (j x : ℕ) → OffPath j x →
      head_by K ws (settled F j) L x ≡ head_by K ws F L x
  settled_off ws F L j x off =
      heads_same (lane_of (names_in K x) ws (F x)) (lane_of (names_in K x) ws (settled F j x)) (L x)
      (λ y. settled_away F j x y (λ i b. inl (off i b))) (λ y h. refl)

  -- an element of the path that has a parent has the next one of the path
  el_parent : (i p : ℕ) → i ≤ levels → (tree_of K).parent (el r i) ≡ Some p → (suc i ≤ levels) × (p ≡ el r (suc i))
  el_parent i p le up =
      ⊎_elim
      (λ q. let none : Some p ≡ None = sym up ∙ ap (λ z. (tree_of K).parent (el r z)) q ∙ el_top r in cc)
      (λ ne. (omega arith, same_Some _ _ (sym up ∙ el_up r i (omega arith))))
      (same_or_not i levels)

  opens : (q : Phase) → IsGrantedAt q → Matches Open q
  opens (Granted a) h = tt
  opens _ h = h

  -- the place of an element off the path in its parent's queue isn't one that has settled
  off_cell : (j x p : ℕ) → j ≤ suc levels → x < how_many K → (tree_of K).parent x ≡ Some p → OffPath j x → (i : ℕ) →
      i < j → (p ≢ el r i) ⊎ (x ≢ me r i)
  off_cell j x p le there up off zero c =
      inl (λ e.
      let d : r.well.treed.depth p ≡ 0 = ap r.well.treed.depth e ∙ el_deep r 0 (omega arith) in
      let d2 : r.well.treed.depth p ≡ suc (r.well.treed.depth x) = (r.well.treed.over x p there up).1 in absurd (omega arith))
  off_cell j x p le there up off (suc k) c = inr (λ e. off k (omega arith) e)

  -- The gates after it: those of the queues that have settled are open, and their elements have the queues above.
  pub settled_gates : (ws : List ℕ) (F : ℕ → ℕ → Phase) (L : ℕ → List ℕ) (e : ℕ → ℕ) (t : List Event) (j : ℕ) → j ≤ suc levels →
      AllGood K ws F L e t → MustSettle F j →
      (j ≤ levels → IsGrantedAt (F (el r j) (me r j))) →
      ((x p : ℕ) → x < how_many K → (tree_of K).parent x ≡ Some p → OffPath j x → Matches
      (gate_of (head_by K ws F L x)) (F p x)) →
      (x p : ℕ) → x < how_many K → (tree_of K).parent x ≡ Some p → Matches
      (gate_of (head_by K ws (settled F j) L x)) (settled F j p x)
  settled_gates ws F L e t j le g st top gates x p there up =
      ⊎_elim
      (λ k.
      let lt : k.0 < j = k.1 in
      let li : k.0 ≤ levels = omega arith in
      let nx = el_parent k.0 p li (sym (ap (tree_of K).parent k.2) ∙ up) in
      let open_now : gate_of (head_by K ws (settled F j) L x) ≡ Open =
      ap (λ z. gate_of (head_by K ws (settled F j) L z)) k.2 ∙ ap gate_of (settled_head ws F L e t j k.0 le lt g (st k.0 lt)) in
      let cell : IsGrantedAt (settled F j (el r (suc k.0)) (me r (suc k.0))) =
      ⊎_elim
      (λ q. subst IsGrantedAt (sym (settled_away F j (el r (suc k.0)) (me r (suc k.0))
      (λ i c. inl (el_apart r (suc k.0) i nx.0 (omega arith) (omega arith)))))
      (subst (λ z. IsGrantedAt (F (el r z) (me r z))) (sym q) (top (subst (λ z. z ≤ levels) q nx.0))))
      (λ ne. subst IsGrantedAt (sym (settled_here F j (suc k.0) le (omega arith))) tt)
      (same_or_not (suc k.0) j) in
      subst (λ z. Matches z (settled F j p x)) (sym open_now)
      (opens (settled F j p x) (subst (λ z. IsGrantedAt (settled F j z x)) (sym nx.1)
      (subst (λ z. IsGrantedAt (settled F j (el r (suc k.0)) z)) (sym k.2) cell))))
      (λ off.
      subst (λ z. Matches z (settled F j p x)) (ap gate_of (sym (settled_off ws F L j x off)))
      (subst (Matches (gate_of (head_by K ws F L x))) (sym (settled_away F j p x (off_cell j x p le there up off)))
      (gates x p there up off)))
      (on_path j x)

  -- The tenures: the settlement of a queue counts for the queue above it, which its element has from then on.
  abbrev pub owed : List ℕ → (ℕ → ℕ → Phase) → (ℕ → List ℕ) → ℕ → ℕ
  owed ws F L x = if is_node K x then 0 else granted_in (head_by K ws F L x)

  -- what the queue above the next one that settles has been had once more than was counted
  abbrev pub debt : ℕ → ℕ → ℕ
  debt zero x = 0
  debt (suc i) x = if is_node K x then 0 else count (is_at ((tree_of K).parent (el r i)) x)

  abbrev pub Owes : List ℕ → (ℕ → ℕ → Phase) → (ℕ → List ℕ) → (ℕ → ℕ) → List Event → ℕ → Type 0
  Owes ws F L e t j = (x : ℕ) → x < how_many K → e x + owed ws F L x ≡ tenures (queue_at K x) t + debt j x

  if_plus : (b y z : Bool) → count (not b && (if b then y else z)) + 0 ≡ (if b then 0 else count z)
  if_plus true y z = refl
  if_plus false y true = refl
  if_plus false y false = refl

  pub ends_settle : (x q m : ℕ) → tenures (queue_at K x) (event.Settle q m ∷ []) ≡ (if is_node K x then 0 else count (is_at ((tree_of K).parent q) x))
  ends_settle x q m = if_plus (is_node K x) _ (is_at ((tree_of K).parent q) x)

  -- what is owed once the queue at a level has settled
  pub debt_is : (i x : ℕ) → i ≤ levels → x < how_many K → debt i x ≡ (if is_node K x then 0 else count (el r i == x))
  debt_is zero x le there = at (is_node K x) refl where
    at : (b : Bool) → is_node K x ≡ b → 0 ≡ (if is_node K x then 0 else count (el r 0 == x))
    at true e = ap (λ z. if z then 0 else count (el r 0 == x)) (sym e)
    at false e =
        let ne : el r 0 ≢ x = λ q. let k : is_node K (el r 0) ≡ true = leaf_node r in let f : true ≡ false = sym k
        ∙ ap (is_node K) q ∙ e in cc in
        ap count (sym (other_test (el r 0) x ne)) ∙ ap (λ z. if z then 0 else count (el r 0 == x)) (sym e)
  debt_is (suc k) x le there = ap (λ z. if is_node K x then 0 else count (is_at z x)) (el_up r k (omega arith))

  granted_put : (ws : List ℕ) (F : ℕ → ℕ → Phase) (L : ℕ → List ℕ) (e : ℕ → ℕ) (t : List Event) (i : ℕ) → i ≤ levels →
      AllGood K ws F L e t → F (el r i) (me r i) ≡ Settle →
      (granted_in (head_by K ws F L (el r i)) ≡ 0) ×
      (granted_in (head_by K ws (settle_at F i) L (el r i)) ≡ 1)
  granted_put ws F L e t i le g st =
      let f = head_first (names_in K (el r i)) (InQueue K (el r i)) ws (F (el r i)) (settle_at F i (el r i)) (L (el r i)) t (e (el r i))
      (me r i) Settle (whole i) (g (el r i) (el_there r i le)) (put_moves F (el r i) (me r i) Settle (whole i) st) tt in
      (ap granted_in f.0, ap granted_in f.1)

  owed_put : (ws : List ℕ) (F : ℕ → ℕ → Phase) (L : ℕ → List ℕ) (e : ℕ → ℕ) (t : List Event) (i x : ℕ) → i ≤ levels →
      AllGood K ws F L e t → F (el r i) (me r i) ≡ Settle →
      owed ws (settle_at F i) L x ≡ owed ws F L x + (if is_node K x then 0 else count (el r i == x))
  owed_put ws F L e t i x le g st =
      ⊎_elim
      (λ q.
      let gp = granted_put ws F L e t i le g st in
      subst (λ z. owed ws (settle_at F i) L z ≡ owed ws F L z + (if is_node K z then 0 else count (el r i == z))) (sym q)
      (else_parts (is_node K (el r i)) _ _ (count (el r i == el r i)) gp.1 gp.0 (ap count (same_test (el r i)))))
      (λ ne.
      let same : head_by K ws (settle_at F i) L x ≡ head_by K ws F L x =
      heads_same (lane_of (names_in K x) ws (F x)) (lane_of (names_in K x) ws (settle_at F i x)) (L x)
      (λ y. put_away F (el r i) (me r i) (whole i) x y (inl ne)) (λ y h. refl) in
      off (is_node K x) _ _ (count (el r i == x)) (ap granted_in same) (ap count (other_test (el r i) x (λ k. ne (sym k)))))
      (same_or_not x (el r i)) where
        off : (b : Bool) (y z c : ℕ) → y ≡ z → c ≡ 0 → (if b then 0 else y) ≡ (if b then 0 else z) + (if b then 0 else c)
        off true y z c a f = refl
        off false y z c a f = omega arith

  pub owes_all : (ws : List ℕ) (F : ℕ → ℕ → Phase) (L : ℕ → List ℕ) (e : ℕ → ℕ) (t : List Event) (j : ℕ) → j ≤ suc levels →
      AllGood K ws F L e t → MustSettle F j → Owes ws F L e t j →
      Owes ws (settled F j) L e (t ++ settles_below (tree_of K) r.view j) 0
  owes_all ws F L e t zero le g st o x there = subst (λ z. e x + owed ws F L x ≡ tenures (queue_at K x) z + 0) (sym (append-nil t)) (o x there)
  owes_all ws F L e t (suc i) le g st o x there =
      let li : i ≤ levels = omega arith in
      let one = settle_one ws F L e t i li g (st i (omega arith)) in
      let next : Owes ws (settle_at F i) L e (t ++ event.Settle (el r i) (me r i) ∷ []) i = λ y ty.
      let a = owed_put ws F L e t i y li g (st i (omega arith)) in
      let b = debt_is i y li ty in
      let c = tenures-append (queue_at K y) t (event.Settle (el r i) (me r i) ∷ []) in
      let d = ends_settle y (el r i) (me r i) in
      let k = o y ty in omega arith in
      let rest = owes_all ws (settle_at F i) L e (t ++ event.Settle (el r i) (me r i) ∷ []) i (omega arith) one
      (λ k b. put_away F (el r i) (me r i) (whole i) (el r k) (me r k) (inl (el_apart r k i (omega arith) li (omega arith))) ∙ st k (omega arith)) next in
      subst (λ z. e x + owed ws (settled (settle_at F i) i) L x ≡ tenures (queue_at K x) z + 0)
      (append_assoc t (event.Settle (el r i) (me r i) ∷ []) (settles_below (tree_of K) r.view i)) (rest x there)
