-- What the code of the tree needs of its lists: the words of a queue stand at its number, and one settlement more is told.
use Rattle.std.proofs.Common.{◌≡◌, ◌∙◌, sym, ap, ⊎_elim, arith, ℕ, zero, suc, ◌+◌, ◌-◌, ◌<◌, ◌==◌, ◌||◌, List, [], ◌∷◌, ◌++◌, length, slice_index_or, refl, append_assoc}
use Rattle.std.specs.List.{list_any}
use Rattle.rl_word.specs.laws.Places.{same_or_not}
use Rattle.rl_step.specs.declared.events.Event.{Event}
use Rattle.rl_step.specs.declared.events.Event.TheVariants as event
use Rattle.rl_step.specs.LockQueues.{stands}
use Rattle.rl_tree.specs.declared.view.TreeView.{TreeView}
use Rattle.rl_tree.specs.Tree.{TheTree, names_at, works_for, settles_below}
use Rattle.rl_tree.specs.Elements.{upto}

-- a number stands in a list where one of it equals it
pub any_stands : (xs : List ℕ) (e : ℕ) → list_any (λ y. y == e) xs ≡ stands xs e
any_stands [] e = refl
any_stands (x ∷ xs) e = ap (λ z. (x == e) || z) (any_stands xs e)

-- the first values of a function
pub length-upto : {X : Type 0} (f : ℕ → X) (n : ℕ) → length (upto f n) ≡ n
length-upto f zero = refl
length-upto f (suc n) = more (upto f n) (f n) ∙ ap suc (length-upto f n) where
  more : {X : Type 0} (xs : List X) (x : X) → length (xs ++ x ∷ []) ≡ suc (length xs)
  more [] x = refl
  more (y ∷ ys) x = ap suc (more ys x)

index_before : {X : Type 0} (xs : List X) (x d : X) (i : ℕ) → i < length xs → slice_index_or (xs ++ x ∷ []) i d ≡ slice_index_or xs i d
index_before [] x d i h = absurd (omega arith)
index_before (y ∷ ys) x d zero h = refl
index_before (y ∷ ys) x d (suc i) h = index_before ys x d i (omega arith)

index_last : {X : Type 0} (xs : List X) (x d : X) (i : ℕ) → i ≡ length xs → slice_index_or (xs ++ x ∷ []) i d ≡ x
index_last [] x d zero e = refl
index_last [] x d (suc i) e = absurd (omega arith)
index_last (y ∷ ys) x d zero e = absurd (omega arith)
index_last (y ∷ ys) x d (suc i) e = index_last ys x d i (omega arith)

pub upto_at : {X : Type 0} (f : ℕ → X) (n q : ℕ) (d : X) → q < n → slice_index_or (upto f n) q d ≡ f q
upto_at f zero q d h = absurd (omega arith)
upto_at f (suc n) q d h =
    let l : length (upto f n) ≡ n = length-upto f n in
    ⊎_elim (λ e. index_last (upto f n) (f n) d q (omega arith) ∙ ap f (sym e)) (λ ne. index_before (upto f n) (f n) d q (omega arith) ∙ upto_at f n q d (omega arith)) (same_or_not q n)

-- one value more
pub upto_next : {X : Type 0} (f : ℕ → X) (n : ℕ) (x : X) (xs : List X) → xs ≡ upto f n → x ≡ f n → xs ++ x ∷ [] ≡ upto f (n + 1)
upto_next f n x xs a b = let e : suc n ≡ n + 1 = omega arith in ap (λ z. z ++ x ∷ []) a ∙ ap (λ z. upto f n ++ z ∷ []) b ∙ ap (upto f) e

-- one settlement more
pub settles_next : (T : TheTree) (v : TreeView) (es : List Event) (level step k q m : ℕ) → step < level → k ≡ level - 1 - step → q ≡ (names_at T v k).queue → m ≡ works_for T v k →
    (es ++ event.Settle q m ∷ []) ++ settles_below T v (level - (step + 1)) ≡ es ++ settles_below T v (level - step)
settles_next T v es level step k q m lt ek eq em =
    let a : level - (step + 1) ≡ k = omega arith in
    let b : level - step ≡ suc k = omega arith in
    append_assoc es (event.Settle q m ∷ []) (settles_below T v (level - (step + 1))) ∙
    ap (λ z. es ++ (event.Settle q m ∷ settles_below T v z)) a ∙
    ap (λ z. es ++ (event.Settle z m ∷ settles_below T v k)) eq ∙
    ap (λ z. es ++ (event.Settle (names_at T v k).queue z ∷ settles_below T v k)) em ∙
    ap (λ z. es ++ settles_below T v z) (sym b)
