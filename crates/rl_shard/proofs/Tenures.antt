-- The tenures of a queue are what the transcripts and the settlements say.
use Rattle.std.proofs.Common.{◌≡◌, ◌≢◌, ◌<◌, ◌+◌, ℕ, zero, suc, ◌==◌, ◌&&◌, not, cond, Bool, true, false, List, [], ◌∷◌, All, count_by, length, slice_get, Some, sym, refl, ap, ◌∙◌, subst, ⊎_elim, zero-add, arith}
use Rattle.std.specs.Prelude.{if◌then◌else◌}
use Rattle.std.proofs.lemmas.Bool.Decides.{nat_tests}
use Rattle.std.proofs.lemmas.List.Elements.{All-head, All-tail}
use Rattle.rl_word.specs.laws.Places.{same_or_not}
use Rattle.rl_model.specs.Table.{sum_below}
use Rattle.rl_model.specs.declared.entry.Entry.{Entry}
use Rattle.rl_model.proofs.Counts.{count-cons}
use Rattle.rl_journal.specs.Ranks.{count_in}
use Rattle.rl_step.specs.declared.events.Event.{Event}
use Rattle.rl_step.specs.declared.events.Event.TheVariants as event
use Rattle.rl_step.specs.Queues.{QueueOf, count, tenures, settled}
use Rattle.rl_journal.specs.Blocks.{is_tenure}
use Rattle.rl_core.specs.Standings.{leaves}
use Rattle.rl_shard.specs.Queues.{is_had_by}

-- a number, if the test is met
abbrev pub only_if : Bool → ℕ → ℕ
only_if b n = if b then n else 0

pub sum_same : (f g : ℕ → ℕ) (n : ℕ) → ((k : ℕ) → k < n → f k ≡ g k) → sum_below f n ≡ sum_below g n
sum_same f g zero same = refl
sum_same f g (suc n) same = omega (arith, sum_same f g n (λ k h. same k (omega arith)), same n (omega arith))

sum_add : (f g : ℕ → ℕ) (n : ℕ) → sum_below (λ k. f k + g k) n ≡ sum_below f n + sum_below g n
sum_add f g zero = refl
sum_add f g (suc n) = omega (arith, sum_add f g n)

sum_first : (f : ℕ → ℕ) (n : ℕ) → sum_below f (suc n) ≡ f 0 + sum_below (λ k. f (suc k)) n
sum_first f zero = omega arith
sum_first f (suc n) = omega (arith, sum_first f n)

sum_none : (f : ℕ → ℕ) (n : ℕ) → ((k : ℕ) → k < n → f k ≡ 0) → sum_below f n ≡ 0
sum_none f zero none = refl
sum_none f (suc n) none = omega (arith, sum_none f n (λ k h. none k (omega arith)), none n (omega arith))

zero_if : (b : Bool) → only_if b 0 ≡ 0
zero_if true = refl
zero_if false = refl

add_if : (b : Bool) (m n : ℕ) → only_if b (m + n) ≡ only_if b m + only_if b n
add_if true m n = refl
add_if false m n = omega arith

module _ (weigh : Bool → ℕ) (one : weigh true ≡ 1) (none : weigh false ≡ 0) (members : ℕ → Bool) where
  met : (j k : ℕ) → j ≡ k → weigh (j == k) ≡ 1
  met j k e = let yes : (j == k) ≡ true = grind (arith, nat_tests) in ap weigh yes ∙ one

  missed : (j k : ℕ) → j ≢ k → weigh (j == k) ≡ 0
  missed j k ne = let no : (j == k) ≡ false = grind (arith, nat_tests) in ap weigh no ∙ none

  one_member : (b : Bool) → only_if b 1 ≡ weigh b
  one_member true = sym one
  one_member false = sym none

  -- among the members below n one number stands once, if it is a member
  picks : (j n : ℕ) → j < n → sum_below (λ k. only_if (members k) (weigh (j == k))) n ≡ weigh (members j)
  picks j zero h = absurd (omega arith)
  picks j (suc n) h =
      ⊎_elim
      (λ (e : j ≡ n).
      let before : sum_below (λ k. only_if (members k) (weigh (j == k))) n ≡ 0 =
      sum_none (λ k. only_if (members k) (weigh (j == k))) n (λ k low. ap (only_if (members k)) (missed j k (omega arith)) ∙ zero_if (members k)) in
      let here : only_if (members n) (weigh (j == n)) ≡ weigh (members j) = ap (only_if (members n)) (met j n e) ∙ one_member (members n) ∙ ap (λ k. weigh (members k)) (sym e) in
      omega arith)
      (λ (ne : j ≢ n).
      let here : only_if (members n) (weigh (j == n)) ≡ 0 = ap (only_if (members n)) (missed j n ne) ∙ zero_if (members n) in
      let before = picks j n (omega arith) in
      omega arith)
      (same_or_not j n)

  -- also where the number isn't below, and so no member
  pub picked : (j n : ℕ) → (members j ≡ true → j < n) → sum_below (λ k. only_if (members k) (weigh (j == k))) n ≡ weigh (members j)
  picked j n there = by_test (members j) refl where
    by_test : (b : Bool) → members j ≡ b → sum_below (λ k. only_if (members k) (weigh (j == k))) n ≡ weigh (members j)
    by_test true e = picks j n (there e)
    by_test false e = sum_none (λ k. only_if (members k) (weigh (j == k))) n (λ k low. ⊎_elim
        (λ (is : j ≡ k). ap (λ b. only_if b (weigh (j == k))) (ap members (sym is) ∙ e))
        (λ (ne : j ≢ k). ap (only_if (members k)) (missed j k ne) ∙ zero_if (members k))
        (same_or_not j k)) ∙ sym (ap weigh e ∙ none)

  -- one more of it
  pub picked_more : (j n m : ℕ) (f : ℕ → ℕ) → (members j ≡ true → j < n) → sum_below (λ k. only_if (members k) (f k)) n ≡ m → sum_below (λ k. only_if (members k) (weigh (j == k) + f k)) n ≡ weigh (members j) + m
  picked_more j n m f there so_far =
      let split : sum_below (λ k. only_if (members k) (weigh (j == k) + f k)) n ≡ sum_below (λ k. only_if (members k) (weigh (j == k)) + only_if (members k) (f k)) n =
      sum_same _ _ n (λ k low. add_if (members k) (weigh (j == k)) (f k)) in
      omega (arith, sum_add (λ k. only_if (members k) (weigh (j == k))) (λ k. only_if (members k) (f k)) n, picked j n there)

-- the tenures of a queue of ranks are its members' departures
module _ (d : QueueOf) (ranks : d.of_ranks ≡ true) (n : ℕ) (there : (k : ℕ) → d.members k ≡ true → k < n) where
  pub rank_tenures : (t : List Event) → tenures d t ≡ sum_below (λ k. only_if (d.members k) (leaves k t)) n
  rank_tenures [] = sym (sum_none (λ k. only_if (d.members k) 0) n (λ k h. zero_if (d.members k)))
  rank_tenures (event.Join q m ∷ t) = zero-add (tenures d t) ∙ rank_tenures t
  rank_tenures (event.Announce c ∷ t) = zero-add (tenures d t) ∙ rank_tenures t
  rank_tenures (event.Pass q m ∷ t) = zero-add (tenures d t) ∙ rank_tenures t
  rank_tenures (event.Settle q m ∷ t) = ap (λ b. count (not b && d.members q) + tenures d t) ranks ∙ zero-add (tenures d t) ∙ rank_tenures t
  rank_tenures (event.Touch k w ∷ t) = zero-add (tenures d t) ∙ rank_tenures t
  rank_tenures (event.EnterW k ∷ t) = zero-add (tenures d t) ∙ rank_tenures t
  rank_tenures (event.EnterR k ∷ t) = zero-add (tenures d t) ∙ rank_tenures t
  rank_tenures (event.LeaveW j ∷ t) =
      let same : count (d.of_ranks && d.members j) ≡ count (d.members j) = ap (λ b. count (b && d.members j)) ranks in
      omega (arith, picked_more count refl refl d.members j n (tenures d t) (λ k. leaves k t) (there j) (sym (rank_tenures t)))
  rank_tenures (event.LeaveR k ∷ t) = zero-add (tenures d t) ∙ rank_tenures t

-- those of a queue of elements are the settlements of its members' queues
module _ (d : QueueOf) (elements : d.of_ranks ≡ false) (n : ℕ) (there : (k : ℕ) → d.members k ≡ true → k < n) where
  -- an event that settles nothing
  calm : (t : List Event) → sum_below (λ k. only_if (d.members k) (0 + settled k t)) n ≡ sum_below (λ k. only_if (d.members k) (settled k t)) n
  calm t = sum_same _ _ n (λ k low. ap (only_if (d.members k)) (zero-add (settled k t)))

  pub element_tenures : (t : List Event) → tenures d t ≡ sum_below (λ k. only_if (d.members k) (settled k t)) n
  element_tenures [] = sym (sum_none (λ k. only_if (d.members k) 0) n (λ k h. zero_if (d.members k)))
  element_tenures (event.Join q m ∷ t) = zero-add (tenures d t) ∙ element_tenures t ∙ sym (calm t)
  element_tenures (event.Announce c ∷ t) = zero-add (tenures d t) ∙ element_tenures t ∙ sym (calm t)
  element_tenures (event.Pass q m ∷ t) = zero-add (tenures d t) ∙ element_tenures t ∙ sym (calm t)
  element_tenures (event.Settle q m ∷ t) =
      let same : count (not d.of_ranks && d.members q) ≡ count (d.members q) = ap (λ b. count (not b && d.members q)) elements in
      omega (arith, picked_more count refl refl d.members q n (tenures d t) (λ k. settled k t) (there q) (sym (element_tenures t)))
  element_tenures (event.Touch k w ∷ t) = zero-add (tenures d t) ∙ element_tenures t ∙ sym (calm t)
  element_tenures (event.EnterW k ∷ t) = zero-add (tenures d t) ∙ element_tenures t ∙ sym (calm t)
  element_tenures (event.EnterR k ∷ t) = zero-add (tenures d t) ∙ element_tenures t ∙ sym (calm t)
  element_tenures (event.LeaveW j ∷ t) = ap (λ b. count (b && d.members j) + tenures d t) elements ∙ zero-add (tenures d t) ∙ element_tenures t ∙ sym (calm t)
  element_tenures (event.LeaveR k ∷ t) = zero-add (tenures d t) ∙ element_tenures t ∙ sym (calm t)

-- a rank's own entries, counted for the members of a queue
had_own : (d : QueueOf) (shares : Bool) (r : ℕ) (es : List Entry) → All (λ e. e.rank ≡ r) es → count_by (is_had_by d shares) es ≡ only_if (d.members r) (count_by (is_tenure shares) es)
had_own d shares r [] own = sym (zero_if (d.members r))
had_own d shares r (e ∷ es) own =
    let rest = had_own d shares r es (All-tail (λ (f : Entry). f.rank ≡ r) e es own) in
    let here : e.rank ≡ r = All-head (λ (f : Entry). f.rank ≡ r) e es own in
    let mine : ◌≡◌ {A = ℕ} (cond (d.members e.rank && is_tenure shares e) 1 0) (only_if (d.members r) (cond (is_tenure shares e) 1 0)) =
    ap (λ k. cond {A = ℕ} (d.members k && is_tenure shares e) 1 0) here ∙ of_both (d.members r) (is_tenure shares e) in
    count-cons (is_had_by d shares) e es ∙ (omega (arith, add_if (d.members r) (cond (is_tenure shares e) 1 0) (count_by (is_tenure shares) es), ap (only_if (d.members r)) (count-cons (is_tenure shares) e es)))
  where
    of_both : (a b : Bool) → ◌≡◌ {A = ℕ} (cond (a && b) 1 0) (only_if a (cond b 1 0))
    of_both true b = refl
    of_both false b = refl

-- and of all ranks, from a rank on
pub had_in : (d : QueueOf) (shares : Bool) (t : List Event) (from : ℕ) (ts : List (List Entry)) → ((k : ℕ) (es : List Entry) → slice_get ts k ≡ Some es → All (λ e. e.rank ≡ from + k) es × (leaves (from + k) t ≡ count_by (is_tenure shares) es)) →
    count_in (is_had_by d shares) ts ≡ sum_below (λ k. only_if (d.members (from + k)) (leaves (from + k) t)) (length ts)
had_in d shares t from [] own = refl
had_in d shares t from (es ∷ ts) own =
    let first = own 0 es refl in
    let here : count_by (is_had_by d shares) es ≡ only_if (d.members (from + 0)) (leaves (from + 0) t) = had_own d shares (from + 0) es first.0 ∙ ap (only_if (d.members (from + 0))) (sym first.1) in
    let rest = had_in d shares t (from + 1) ts (λ k fs get. subst (λ n. All (λ e. e.rank ≡ n) fs × (leaves n t ≡ count_by (is_tenure shares) fs)) (let at : from + suc k ≡ (from + 1) + k = omega arith in at) (own (suc k) fs get)) in
    let moved : sum_below (λ k. only_if (d.members ((from + 1) + k)) (leaves ((from + 1) + k) t)) (length ts) ≡ sum_below (λ k. only_if (d.members (from + suc k)) (leaves (from + suc k) t)) (length ts) =
    sum_same _ _ (length ts) (λ k low. let at : (from + 1) + k ≡ from + suc k = omega arith in ap (λ n. only_if (d.members n) (leaves n t)) at) in
    omega (arith, sum_first (λ k. only_if (d.members (from + k)) (leaves (from + k) t)) (length ts))

pub had_all : (d : QueueOf) (shares : Bool) (t : List Event) (ts : List (List Entry)) → ((k : ℕ) (es : List Entry) → slice_get ts k ≡ Some es → All (λ e. e.rank ≡ k) es × (leaves k t ≡ count_by (is_tenure shares) es)) →
    count_in (is_had_by d shares) ts ≡ sum_below (λ k. only_if (d.members k) (leaves k t)) (length ts)
had_all d shares t ts own =
    had_in d shares t 0 ts (λ k es get. subst (λ n. All (λ e. e.rank ≡ n) es × (leaves n t ≡ count_by (is_tenure shares) es)) (let at : k ≡ 0 + k = omega arith in at) (own k es get))
    ∙ sum_same _ _ (length ts) (λ k low. let at : 0 + k ≡ k = omega arith in ap (λ n. only_if (d.members n) (leaves n t)) at)
