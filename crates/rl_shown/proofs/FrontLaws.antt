-- The ranks of the first steps of a schedule.
use Rattle.std.proofs.Common.{◌≡◌, ℕ, zero, suc, ◌+◌, ◌-◌, ◌≤◌, min, List, [], ◌∷◌, ◌++◌, length, replicate, take, slice_get, Some, refl, sym, ap, ◌∙◌, subst, append_assoc, arith, length-append}
use Rattle.std.specs.List.{AllByRecursion}
use Rattle.std.proofs.lemmas.List.{append-nil, length-replicate}
use Rattle.std.proofs.lemmas.Option.{same_Some}
use Rattle.rl_ops.specs.declared.schedule.Turn.{Turn}
use Rattle.rl_ops.specs.declared.schedule.Turn.TheVariants as turn
use Rattle.rl_ops.specs.Schedule.{TurnFits, rank_of, steps_of}
use Rattle.rl_machine.specs.Run.{turn_ranks, ranks_of_turns, steps_in}
use Rattle.rl_machine.specs.laws.ReplayLaws.{ranks-more, steps-more}

pub ranks_append : (ts us : List Turn) → ranks_of_turns (ts ++ us) ≡ ranks_of_turns ts ++ ranks_of_turns us
ranks_append [] us = refl
ranks_append (t ∷ ts) us = ap (λ z. turn_ranks t ++ z) (ranks_append ts us) ∙ sym (append_assoc (turn_ranks t) (ranks_of_turns ts) (ranks_of_turns us))

-- so many ranks as steps
pub turn_long : (t : Turn) → length (turn_ranks t) ≡ steps_of t
turn_long (turn.Steps rank count) = length-replicate count rank
turn_long (turn.Stop rank) = refl

pub ranks_long : (ts : List Turn) → length (ranks_of_turns ts) ≡ steps_in ts
ranks_long [] = refl
ranks_long (t ∷ ts) = let one = turn_long t in let on = ranks_long ts in let both = length-append (turn_ranks t) (ranks_of_turns ts) in omega arith

-- the first of two lists, one behind the other
pub take_both : {X : Type 0} (n : ℕ) (xs ys : List X) → take n (xs ++ ys) ≡ take n xs ++ take (n - length xs) ys
take_both zero [] ys = refl
take_both zero (x ∷ xs) ys = let e : zero - length (x ∷ xs) ≡ zero = omega arith in sym (ap (λ k. take k ys) e)
take_both (suc n) [] ys = let e : suc n ≡ suc n - zero = omega arith in ap (λ k. take k ys) e
take_both (suc n) (x ∷ xs) ys =
    let e : n - length xs ≡ suc n - length (x ∷ xs) = omega arith in
    ap (λ z. x ∷ z) (take_both n xs ys ∙ ap (λ k. take n xs ++ take k ys) e)

take_short : {X : Type 0} (n : ℕ) (xs : List X) → length xs ≤ n → take n xs ≡ xs
take_short zero [] few = refl
take_short zero (x ∷ xs) few = absurd (omega arith)
take_short (suc n) [] few = refl
take_short (suc n) (x ∷ xs) few = ap (λ z. x ∷ z) (take_short n xs (omega arith))

pub take_same : {X : Type 0} (n most : ℕ) (x : X) → replicate (min n most) x ≡ take most (replicate n x)
take_same zero zero x = let e : min zero zero ≡ zero = omega arith in ap (λ k. replicate k x) e
take_same zero (suc most) x = let e : min zero (suc most) ≡ zero = omega arith in ap (λ k. replicate k x) e
take_same (suc n) zero x = let e : min (suc n) zero ≡ zero = omega arith in ap (λ k. replicate k x) e
take_same (suc n) (suc most) x = let e : min (suc n) (suc most) ≡ suc (min n most) = omega arith in ap (λ k. replicate k x) e ∙ ap (λ z. x ∷ z) (take_same n most x)

-- one turn more
pub front_more : (ts front : List Turn) (steps left i : ℕ) (t short : Turn) → slice_get ts i ≡ Some t → ranks_of_turns front ≡ take steps (ranks_of_turns (take i ts)) → left ≡ steps - steps_in (take i ts) → turn_ranks short ≡ take left (turn_ranks t) →
    ranks_of_turns (front ++ short ∷ []) ≡ take steps (ranks_of_turns (take (i + 1) ts))
front_more ts front steps left i t short at so_far is_left is_short =
    let long : length (ranks_of_turns (take i ts)) ≡ steps_in (take i ts) = ranks_long (take i ts) in
    ranks_append front (short ∷ []) ∙ ap (λ z. ranks_of_turns front ++ z) (append-nil (turn_ranks short))
    ∙ ap (λ z. z ++ turn_ranks short) so_far ∙ ap (λ z. take steps (ranks_of_turns (take i ts)) ++ z) is_short
    ∙ ap (λ n. take steps (ranks_of_turns (take i ts)) ++ take n (turn_ranks t)) (is_left ∙ sym (ap (λ n. steps - n) long))
    ∙ sym (take_both steps (ranks_of_turns (take i ts)) (turn_ranks t)) ∙ ap (take steps) (sym (ranks-more ts i t at))

pub left_more : (ts : List Turn) (steps left now i : ℕ) (t : Turn) → slice_get ts i ≡ Some t → left ≡ steps - steps_in (take i ts) → now ≡ left - steps_of t → now ≡ steps - steps_in (take (i + 1) ts)
left_more ts steps left now i t at is_left is_now = let more = steps-more ts i t at in omega arith

pub few_in : (front : List Turn) (steps : ℕ) (ks : List ℕ) → ranks_of_turns front ≡ take steps ks → steps_in front ≤ steps
few_in front steps ks is = let long = ranks_long front in let same = ap length is in let few = length_take steps ks in omega arith where
  length_take : (n : ℕ) (xs : List ℕ) → length (take n xs) ≤ n
  length_take zero xs = omega arith
  length_take (suc n) [] = omega arith
  length_take (suc n) (x ∷ xs) = let h = length_take n xs in omega arith

-- a turn of the same rank as one of these is there, where those are
pub all_at : {X : Type 0} (P : X → Type 0) (xs : List X) (i : ℕ) (x : X) → AllByRecursion P xs → slice_get xs i ≡ Some x → P x
all_at P [] i x all e = absurd (cc)
all_at P (y ∷ xs) zero x all e = subst P (same_Some _ _ e) all.0
all_at P (y ∷ xs) (suc i) x all e = all_at P xs i x all.1 e

pub all_more : {X : Type 0} (P : X → Type 0) (xs : List X) (x : X) → AllByRecursion P xs → P x → AllByRecursion P (xs ++ x ∷ [])
all_more P [] x all here = (here, tt)
all_more P (y ∷ xs) x all here = (all.0, all_more P xs x all.1 here)

pub same_there : (ranks : ℕ) (t short : Turn) → rank_of short ≡ rank_of t → TurnFits ranks t → TurnFits ranks short
same_there ranks t short same fits = let e = same in let h = fits in omega arith
