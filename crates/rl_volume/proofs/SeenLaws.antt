-- What was read, what there is room for, and what is read next.
use Rattle.std.proofs.Common.{◌≡◌, ℕ, zero, suc, ◌+◌, ◌<◌, ◌≤◌, Bool, true, false, cond, eqb, ltb, List, [], ◌∷◌, ◌++◌, length, get_or, refl, sym, ap, ◌∙◌, subst, arith, Option, Some, None, IfSome, is_some, slice_index}
use Rattle.std.specs.List.{count_by}
use Rattle.std.proofs.lemmas.Bool.Decides.{nat_tests}
use Rattle.std.proofs.lemmas.List.{length-append}
use Rattle.rl_model.proofs.Counts.{count-cons, count-append, sum_of_counts}
use Rattle.rl_volume.specs.Seen.{value_of, AgreesWith, AreApart}
use Rattle.rl_volume.proofs.Sums.{sum_le, sum_changed, sum_one, cond_true, cond_false}

-- a word that wasn't read stands in no pair
unseen_count : (word : ℕ) (pairs : List (ℕ × ℕ)) → value_of pairs word ≡ None → count_by (λ p. eqb p.0 word) pairs ≡ 0
unseen_count word [] none = refl
unseen_count word (p ∷ ps) none =
    elim (eqb p.0 word) as (λ b. eqb p.0 word ≡ b → cond b (Some p.1) (value_of ps word) ≡ None → count_by (λ q. eqb q.0 word) (p ∷ ps) ≡ 0) [
      | true ↦ λ e bad. absurd (cc)
      | false ↦ λ e rest.
          let zero_here : ◌≡◌ {A = ℕ} (cond (eqb p.0 word) 1 0) 0 = cond_false (eqb p.0 word) 1 0 e in
          omega (arith, unseen_count word ps rest, count-cons (λ (q : ℕ × ℕ). eqb q.0 word) p ps)
    ] refl none

-- there is room for one more word
pub room_left : (pairs : List (ℕ × ℕ)) (room word : ℕ) → AreApart pairs room → word < room → value_of pairs word ≡ None → length pairs < room
room_left pairs room word apart below none =
    let f : ℕ → ℕ = λ w. count_by (λ p. eqb p.0 w) pairs in
    let g : ℕ → ℕ = λ w. cond (eqb w word) 1 (f w) in
    let at_word : g word ≡ 1 = cond_true (eqb word word) _ _ (grind (arith, nat_tests)) in
    let at_most : (w : ℕ) → w < room → g w ≤ 1 = λ w h. elim (eqb w word) as (λ b. cond b 1 (f w) ≤ 1) [ true ↦ omega arith | false ↦ apart.once w ] in
    omega (
      arith,
      sum_of_counts (λ (p : ℕ × ℕ). p.0) room pairs,
      apart.below,
      sum_changed g f room word below (λ w h other. cond_false (eqb w word) _ _ (grind (arith, nat_tests))),
      at_word,
      unseen_count word pairs none,
      sum_le g (λ w. 1) room at_most,
      sum_one room,
    )

-- the words stay apart with one more
pub apart_more : (pairs : List (ℕ × ℕ)) (room word value : ℕ) → AreApart pairs room → word < room → value_of pairs word ≡ None → AreApart (pairs ++ (word, value) ∷ []) room
apart_more pairs room word value apart below none = record {
  once = λ w.
      let more = count-append (λ (p : ℕ × ℕ). eqb p.0 w) pairs ((word, value) ∷ []) in
      let one = count-cons (λ (p : ℕ × ℕ). eqb p.0 w) (word, value) [] in
      elim (eqb word w) as (λ b. eqb word w ≡ b → count_by (λ (p : ℕ × ℕ). eqb p.0 w) (pairs ++ (word, value) ∷ []) ≤ 1) [
        | true ↦ λ e.
            let same : word ≡ w = grind (arith, nat_tests) in
            let hit : ◌≡◌ {A = ℕ} (cond (eqb word w) 1 0) 1 = cond_true (eqb word w) 1 0 e in
            omega (arith, unseen_count word pairs none, ap (λ v. count_by (λ (p : ℕ × ℕ). eqb p.0 v) pairs) same)
        | false ↦ λ e. let miss : ◌≡◌ {A = ℕ} (cond (eqb word w) 1 0) 0 = cond_false (eqb word w) 1 0 e in omega (arith, apart.once w)
      ] refl;
  below =
      let hit : ◌≡◌ {A = ℕ} (cond (ltb word room) 1 0) 1 = cond_true (ltb word room) 1 0 (grind (arith, nat_tests)) in
      omega (
        arith,
        apart.below,
        count-append (λ (p : ℕ × ℕ). ltb p.0 room) pairs ((word, value) ∷ []),
        count-cons (λ (p : ℕ × ℕ). ltb p.0 room) (word, value) [],
        length-append pairs ((word, value) ∷ []),
      );
}

at_place : (pairs : List (ℕ × ℕ)) (i word value : ℕ) → i < length pairs → get_or pairs i (0, 0) ≡ (word, value) → 0 < count_by (λ p. eqb p.0 word) pairs
at_place [] i word value h e = absurd (omega arith)
at_place (p ∷ ps) zero word value h e =
    let hit : eqb p.0 word ≡ true = let same = ap (λ (q : ℕ × ℕ). q.0) e in grind (arith, nat_tests) in
    omega (arith, count-cons (λ (q : ℕ × ℕ). eqb q.0 word) p ps, cond_true {A = ℕ} (eqb p.0 word) 1 0 hit)
at_place (p ∷ ps) (suc i) word value h e = omega (arith, count-cons (λ (q : ℕ × ℕ). eqb q.0 word) p ps, at_place ps i word value (omega arith) e)

not_hit : (b : Bool) (n : ℕ) → cond {A = ℕ} b 1 0 + n ≤ 1 → 0 < n → b ≡ false
not_hit true n h k = absurd (omega arith)
not_hit false n h k = refl

-- a word that stands somewhere in the list, where no word stands twice, gave what stands with it
pub value_at : (pairs : List (ℕ × ℕ)) (i word value : ℕ) → i < length pairs → get_or pairs i (0, 0) ≡ (word, value) → count_by (λ p. eqb p.0 word) pairs ≤ 1 → value_of pairs word ≡ Some value
value_at [] i word value h e once = absurd (omega arith)
value_at (p ∷ ps) zero word value h e once =
    let hit : eqb p.0 word ≡ true = let same = ap (λ (q : ℕ × ℕ). q.0) e in grind (arith, nat_tests) in
    cond_true (eqb p.0 word) _ _ hit ∙ ap (λ (q : ℕ × ℕ). Some q.1) e
value_at (p ∷ ps) (suc i) word value h e once =
    let counted = count-cons (λ (q : ℕ × ℕ). eqb q.0 word) p ps in
    let later = at_place ps i word value (omega arith) e in
    let miss : eqb p.0 word ≡ false = not_hit (eqb p.0 word) _ (omega arith) later in
    cond_false (eqb p.0 word) _ _ miss ∙ value_at ps i word value (omega arith) e (omega arith)

-- what a word gives in a list with one pair more
pub value_more : (pairs : List (ℕ × ℕ)) (word value w : ℕ) → value_of (pairs ++ (word, value) ∷ []) w ≡ cond (is_some (value_of pairs w)) (value_of pairs w) (cond (eqb word w) (Some value) None)
value_more [] word value w = refl
value_more (p ∷ ps) word value w =
    elim (eqb p.0 w) as (λ b. cond b (Some p.1) (value_of (ps ++ (word, value) ∷ []) w) ≡ cond (is_some (cond b (Some p.1) (value_of ps w))) (cond b (Some p.1) (value_of ps w)) (cond (eqb word w) (Some value) None)) [
      | true ↦ refl
      | false ↦ value_more ps word value w
    ]

-- where the words that were read have what they gave, one more has it too
pub agrees_more : (pairs : List (ℕ × ℕ)) (words : List ℕ) (word value : ℕ) → AgreesWith pairs words → slice_index words word ≡ value → AgreesWith (pairs ++ (word, value) ∷ []) words
agrees_more pairs words word value agrees is w =
    let P : Option ℕ → Type 0 = λ o. IfSome o (λ v. slice_index words w ≡ v) in
    let added : P (cond (eqb word w) (Some value) None) =
    elim (eqb word w) as (λ b. eqb word w ≡ b → P (cond b (Some value) None)) [
      | true ↦ λ e. let same : word ≡ w = grind (arith, nat_tests) in ap (slice_index words) (sym same) ∙ is
      | false ↦ λ e. tt
    ] refl in
    subst P (sym (value_more pairs word value w))
    (elim (value_of pairs w) as (λ o. P o → P (cond (is_some o) o (cond (eqb word w) (Some value) None))) [ None ↦ λ h. added | Some v ↦ λ h. h ] (agrees w))
