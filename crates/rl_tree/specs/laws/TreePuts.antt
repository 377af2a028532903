-- What a move of one member of a queue leaves of the parts of a state that speak of all queues.
use Rattle.std.specs.Prelude.{◌≡◌, ◌≢◌, ℕ, suc, ◌+◌, ◌<◌, ◌==◌, Bool, true, false, List, if◌then◌else◌, Option, Some, None, refl, is_some}
use Rattle.std.proofs.Common.{sym, ◌∙◌, ap, subst, inl, inr, ⊎_elim, arith}
use Rattle.std.proofs.lemmas.Option.{same_Some}
use Rattle.rl_word.specs.laws.Places.{same_or_not}
use Rattle.rl_step.specs.declared.events.Event.{Event}
use Rattle.rl_step.specs.Queues.{tenures, count}
use Rattle.rl_queue.specs.laws.Choices.{same_test, other_test}
use Rattle.rl_queue.specs.declared.view.Phase.{Phase}
use Rattle.rl_queue.specs.declared.view.Phase.TheVariants.{Idle, Clear, Settle, Granted, Above}
use Rattle.rl_queue.specs.Queue.{resume_at}
use Rattle.rl_queue.specs.Lane.{lane_of, Listed}
use Rattle.rl_queue.specs.QueueGood.{QueueGood}
use Rattle.rl_queue.specs.laws.QueueLaws.{still_keeps}
use Rattle.rl_queue.specs.laws.QueueMoves.{join_keeps, resume_keeps}
use Rattle.rl_queue.specs.Heads.{Head}
use Rattle.rl_queue.specs.laws.QueueHeads.{head_first, head_kept, unlisted}
use Rattle.rl_tree.specs.Tree.{hook_by}
use Rattle.rl_tree.specs.declared.rooted.Rooted.{Rooted}
use Rattle.rl_tree.specs.Elements.{how_many, is_node, names_in, tree_of, queue_at}
use Rattle.rl_tree.specs.TreeGood.{Down, way_of, Gate, Shut, Asking, Open, Releasing, gate_at, gate_of, granted_in, one_if, Matches, Spent, IsGrantedAt, InQueue}
use Rattle.rl_tree.specs.laws.TreePaths.{put, put_here, put_away, put_moves, head_by, AllGood}
use Rattle.rl_tree.specs.laws.TreeClimb.{heads_same}

pub plus_one : (n : ℕ) → n + 1 ≡ suc n
plus_one n = omega arith

pub spent_clear : (b : Bool) → Spent b Clear
spent_clear true = tt
spent_clear false = tt

pub spent_idle : (b : Bool) → Spent b Idle
spent_idle true = tt
spent_idle false = tt

pub spent_settle : (b : Bool) → Spent b Settle
spent_settle true = tt
spent_settle false = tt

pub spent_resume : (b : Bool) (s : Option ℕ) → Spent b (resume_at (Above s))
spent_resume true None = refl
spent_resume true (Some s) = tt
spent_resume false None = tt
spent_resume false (Some s) = tt

pub idle_unlisted : (p : Phase) → p ≡ Idle → Listed p → ⊥
idle_unlisted p e h = subst Listed e h

pub granted_opens : (q : Phase) → Matches Open q → IsGrantedAt q
granted_opens (Granted a) h = tt
granted_opens _ h = h

pub granted_releases : (q : Phase) → Matches Open q → Matches Releasing q
granted_releases (Granted a) h = tt
granted_releases _ h = absurd h

pub resume_way : (s : Option ℕ) → way_of false (resume_at (Above s)) ≡ Down
resume_way None = refl
resume_way (Some s) = refl

pub resume_unhooked : (s : Option ℕ) → hook_by false (resume_at (Above s)) ≡ false
resume_unhooked None = refl
resume_unhooked (Some s) = refl

pub resume_matches : (s : Option ℕ) (y : Gate) → Matches y (Above s) → Matches y (resume_at (Above s))
resume_matches s Shut h = cc
resume_matches s Asking h = absurd h
resume_matches s Open h = absurd h
resume_matches None Releasing h = tt
resume_matches (Some s) Releasing h = tt

pub resume_shut : (o : Option ℕ) (s : ℕ) → gate_at (resume_at (Above o)) s ≡ Shut
resume_shut None s = refl
resume_shut (Some x) s = refl

pub resume_none : (o : Option ℕ) → one_if (resume_at (Above o)) ≡ 0
resume_none None = refl
resume_none (Some x) = refl

-- the parts that speak of all queues
abbrev pub Gated : Rooted → List ℕ → (ℕ → ℕ → Phase) → (ℕ → List ℕ) → Type 0
Gated K ws F L = (x p : ℕ) → x < how_many K → (tree_of K).parent x ≡ Some p → Matches (gate_of (head_by K ws F L x)) (F p x)

abbrev pub AllSpent : Rooted → (ℕ → ℕ → Phase) → Type 0
AllSpent K F = (q m : ℕ) → Spent (is_some (names_in K q).budget) (F q m)

abbrev pub Tenured : Rooted → List ℕ → (ℕ → ℕ → Phase) → (ℕ → List ℕ) → (ℕ → ℕ) → List Event → Type 0
Tenured K ws F L e t = (q : ℕ) → q < how_many K → e q + (if is_node K q then 0 else granted_in (head_by K ws F L q)) ≡ tenures (queue_at K q) t

-- what is spent stays so
pub spent_put : (K : Rooted) (F : ℕ → ℕ → Phase) (q m : ℕ) (p : Phase) → AllSpent K F → Spent (is_some (names_in K q).budget) p → AllSpent K (put F q m p)
spent_put K F q m p h s x y =
    ⊎_elim
    (λ a. ⊎_elim
    (λ b. subst (λ z. Spent (is_some (names_in K z).budget) (put F q m p z y)) (sym a)
    (subst (λ z. Spent (is_some (names_in K q).budget) (put F q m p q z)) (sym b)
    (subst (Spent (is_some (names_in K q).budget)) (sym (put_here F q m p)) s)))
    (λ b. subst (Spent (is_some (names_in K x).budget)) (sym (put_away F q m p x y (inr b))) (h x y)) (same_or_not y m))
    (λ a. subst (Spent (is_some (names_in K x).budget)) (sym (put_away F q m p x y (inl a))) (h x y)) (same_or_not x q)

-- a place matches a gate still where the phase that is put there does
pub match_put : (F : ℕ → ℕ → Phase) (q m : ℕ) (p : Phase) (y : Gate) → (Matches y (F q m) → Matches y p) → (s x : ℕ) → Matches y (F s x) →
    Matches y (put F q m p s x)
match_put F q m p y f s x h =
    ⊎_elim
    (λ a. ⊎_elim
    (λ b.
    let now : put F q m p s x ≡ p = ap (λ z. put F q m p z x) a ∙ ap (put F q m p q) b ∙ put_here F q m p in
    let was : F s x ≡ F q m = ap (λ z. F z x) a ∙ ap (F q) b in
    subst (Matches y) (sym now) (f (subst (Matches y) was h)))
    (λ b. subst (Matches y) (sym (put_away F q m p s x (inr b))) h) (same_or_not x m))
    (λ a. subst (Matches y) (sym (put_away F q m p s x (inl a))) h) (same_or_not s q)

-- no other queue's head moves; so what is so of the heads stays so of all, where it does of that queue's
pub head_put : (K : Rooted) (ws : List ℕ) (F : ℕ → ℕ → Phase) (L : ℕ → List ℕ) (q m : ℕ) (p : Phase) (x : ℕ) → x ≢ q →
    head_by K ws (put F q m p) L x ≡ head_by K ws F L x
head_put K ws F L q m p x ne = heads_same (lane_of (names_in K x) ws (F x)) (lane_of (names_in K x) ws (put F q m p x)) (L x)
    (λ y. put_away F q m p x y (inl ne)) (λ y h. refl)

pub kept_put : {X : Type 0} (f : Option Head → X) (K : Rooted) (ws : List ℕ) (F : ℕ → ℕ → Phase) (L : ℕ → List ℕ) (q m : ℕ) (p : Phase) →
    f (head_by K ws (put F q m p) L q) ≡ f (head_by K ws F L q) → (x : ℕ) → f (head_by K ws (put F q m p) L x) ≡ f (head_by K ws F L x)
kept_put f K ws F L q m p same x =
    ⊎_elim (λ e. subst (λ z. f (head_by K ws (put F q m p) L z) ≡ f (head_by K ws F L z)) (sym e) same)
    (λ ne. ap f (head_put K ws F L q m p x ne)) (same_or_not x q)

-- all queues stay good where one does, with what happens beside the others
pub good_put : (K : Rooted) (ws : List ℕ) (F : ℕ → ℕ → Phase) (L : ℕ → List ℕ) (e d : ℕ → ℕ) (t s : List Event) (q m : ℕ) (p : Phase) →
    AllGood K ws F L e t → QueueGood (names_in K q) (InQueue K q) ws (put F q m p q) (L q) s (d q) → ((x : ℕ) → x ≢ q → d x ≡ e x) →
    ((x : ℕ) → QueueGood (names_in K x) (InQueue K x) ws (F x) (L x) t (e x) → x ≢ q → QueueGood (names_in K x) (InQueue K x) ws (F x)
    (L x) s (e x)) → AllGood K ws (put F q m p) L d s
good_put K ws F L e d t s q m p g one rest beside x there =
    ⊎_elim
    (λ a. subst (λ z. QueueGood (names_in K z) (InQueue K z) ws (put F q m p z) (L z) s (d z)) (sym a) one)
    (λ ne. subst (QueueGood (names_in K x) (InQueue K x) ws (put F q m p x) (L x) s) (sym (rest x ne))
    (still_keeps (names_in K x) (InQueue K x) ws ws (F x) (put F q m p x) (L x) s (e x) (beside x (g x there) ne)
    (λ y. put_away F q m p x y (inl ne)) refl (λ y i. refl) (λ y i. refl)))
    (same_or_not x q)

-- the gates match where that of one queue does, and those of all others
pub gated_at : (K : Rooted) (ws : List ℕ) (F : ℕ → ℕ → Phase) (L : ℕ → List ℕ) (q u : ℕ) → (tree_of K).parent q ≡ Some u →
    Matches (gate_of (head_by K ws F L q)) (F u q) → ((x p : ℕ) → x < how_many K → (tree_of K).parent x ≡ Some p → x ≢ q →
    Matches (gate_of (head_by K ws F L x)) (F p x)) → Gated K ws F L
gated_at K ws F L q u uq one rest x p tx ux =
    ⊎_elim
    (λ e. subst (λ z. Matches (gate_of (head_by K ws F L z)) (F p z)) (sym e)
    (subst (λ z. Matches (gate_of (head_by K ws F L q)) (F z q)) (same_Some _ _ (sym uq ∙ ap (tree_of K).parent (sym e) ∙ ux)) one))
    (λ ne. rest x p tx ux ne) (same_or_not x q)

-- the tenures stay where nobody comes to have the queue, or has left it
pub tenured_put : (K : Rooted) (ws : List ℕ) (F : ℕ → ℕ → Phase) (L : ℕ → List ℕ) (e : ℕ → ℕ) (t : List Event) (q m : ℕ) (p : Phase) →
    Tenured K ws F L e t → granted_in (head_by K ws (put F q m p) L q) ≡ granted_in (head_by K ws F L q) → Tenured K ws (put F q m p) L e t
tenured_put K ws F L e t q m p ten same x tx =
    ap (λ y. e x + (if is_node K x then 0 else y)) (kept_put granted_in K ws F L q m p same x) ∙ ten x tx

-- a member that is out begins to join: all queues stay good, and no head moves
pub join_put : (K : Rooted) (ws : List ℕ) (F : ℕ → ℕ → Phase) (L : ℕ → List ℕ) (e : ℕ → ℕ) (t : List Event) (q m : ℕ) →
    AllGood K ws F L e t → q < how_many K → InQueue K q m → F q m ≡ Idle →
    AllGood K ws (put F q m Clear) L e t × ((x : ℕ) → head_by K ws (put F q m Clear) L x ≡ head_by K ws F L x)
join_put K ws F L e t q m g there member idle =
    let mv = put_moves F q m Idle Clear idle in (
      good_put K ws F L e e t t q m Clear g
          (join_keeps (names_in K q) (InQueue K q) ws (F q) (put F q m Clear q) (L q) t (e q) m (g q there) member mv)
          (λ x ne. refl) (λ x k ne. k),
      kept_put (λ h. h) K ws F L q m Clear
          (head_kept (names_in K q) (InQueue K q) ws ws (F q) (put F q m Clear q) (L q) t (e q) m Idle Clear (g q there) mv
          (unlisted (L q) m (λ h. idle_unlisted _ idle ((g q there).inv.only m h))) (λ x i n. refl)),
    )

-- one that has given up what is above goes on: all queues stay good, and the gate of its queue is shut
pub resume_put : (K : Rooted) (ws : List ℕ) (F : ℕ → ℕ → Phase) (L : ℕ → List ℕ) (e : ℕ → ℕ) (t : List Event) (q m : ℕ) (s : Option ℕ) →
    AllGood K ws F L e t → q < how_many K → F q m ≡ Above s →
    AllGood K ws (put F q m (resume_at (Above s))) L e t × (gate_of (head_by K ws (put F q m (resume_at (Above s))) L q) ≡ Shut) ×
    (granted_in (head_by K ws (put F q m (resume_at (Above s))) L q) ≡ granted_in (head_by K ws F L q))
resume_put K ws F L e t q m s g there gave =
    let mv = put_moves F q m (Above s) (resume_at (Above s)) gave in
    let heads = head_first (names_in K q) (InQueue K q) ws (F q) (put F q m (resume_at (Above s)) q) (L q) t (e q) m (Above s)
    (resume_at (Above s)) (g q there) mv tt in (
      good_put K ws F L e e t t q m (resume_at (Above s)) g
          (resume_keeps (names_in K q) (InQueue K q) ws (F q) (put F q m (resume_at (Above s)) q) (L q) t (e q) m s (g q there) mv)
          (λ x ne. refl) (λ x k ne. k),
      ap gate_of heads.1 ∙ resume_shut s _,
      ap granted_in heads.1 ∙ resume_none s ∙ sym (ap granted_in heads.0),
    )

pub no_count : (n : ℕ) (b : Bool) → b ≡ false → n + count b ≡ n
no_count n b e = let k : count b ≡ 0 = ap count e in omega arith

pub one_count : (n : ℕ) (b : Bool) → b ≡ true → n + count b ≡ n + 1
one_count n b e = let k : count b ≡ 1 = ap count e in omega arith

-- and where one tenure of the queue ends, and none of another
pub tenured_ends : (K : Rooted) (ws : List ℕ) (F : ℕ → ℕ → Phase) (L : ℕ → List ℕ) (e : ℕ → ℕ) (t s : List Event) (q m : ℕ) (p : Phase) →
    Tenured K ws F L e t →
    (e q + 1) + (if is_node K q then 0 else granted_in (head_by K ws (put F q m p) L q)) ≡ tenures (queue_at K q) s →
    ((x : ℕ) → x ≢ q → tenures (queue_at K x) s ≡ tenures (queue_at K x) t) → Tenured K ws (put F q m p) L (λ x. e x + count (x == q)) s
tenured_ends K ws F L e t s q m p ten one rest x tx =
    ⊎_elim
    (λ c. subst (λ z. (e z + count (z == q)) + (if is_node K z then 0 else granted_in (head_by K ws (put F q m p) L z)) ≡ tenures (queue_at K z) s)
    (sym c) (ap (λ n. n + (if is_node K q then 0 else granted_in (head_by K ws (put F q m p) L q))) (one_count (e q) (q == q) (same_test q)) ∙ one))
    (λ ne.
    ap (λ n. n + (if is_node K x then 0 else granted_in (head_by K ws (put F q m p) L x))) (no_count (e x) (x == q) (other_test x q ne))
    ∙ ap (λ h. e x + (if is_node K x then 0 else granted_in h)) (head_put K ws F L q m p x ne) ∙ ten x tx ∙ sym (rest x ne))
    (same_or_not x q)
