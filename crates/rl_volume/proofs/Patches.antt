-- What was seen, with writes applied.
use Rattle.std.proofs.Common.{◌≡◌, ◌≢◌, ℕ, zero, suc, ◌+◌, ◌<◌, ◌≤◌, Bool, true, false, cond, eqb, ltb, List, [], ◌∷◌, ◌++◌, length, refl, sym, ap, ◌∙◌, subst, arith, Some, None, IsSome, IfSome, is_some, slice_index, slice_set, length-set, get_or-set_same, get_or-set_other}
use Rattle.std.specs.List.{count_by, All, position, position_from}
use Rattle.std.proofs.lemmas.Bool.Decides.{nat_tests}
use Rattle.std.proofs.lemmas.List.Elements.{All-head, All-tail}
use Rattle.std.proofs.lemmas.Iterator.Adapters.{position_from-zero}
use Rattle.rl_model.proofs.Counts.{count-cons}
use Rattle.rl_volume.specs.declared.write.Write.{Write}
use Rattle.rl_volume.specs.Seen.{value_of, AgreesWith, AreApart, with_value, patched}
use Rattle.rl_volume.specs.Decision.{words_written}
use Rattle.rl_volume.proofs.Sums.{cond_false}
use Rattle.rl_volume.proofs.SeenLaws.{value_more}

-- what a word gives in the patched list
pub value_patched : (pairs : List (ℕ × ℕ)) (word value w : ℕ) → value_of (with_value pairs word value) w ≡ cond (eqb word w) (Some value) (value_of pairs w)
value_patched [] word value w = refl
value_patched (p ∷ ps) word value w =
    elim (eqb p.0 word) as (λ b. eqb p.0 word ≡ b → value_of (cond b ((word, value) ∷ ps) (p ∷ with_value ps word value)) w ≡ cond (eqb word w) (Some value) (cond (eqb p.0 w) (Some p.1) (value_of ps w))) [
      | true ↦ λ e.
          let same : p.0 ≡ word = grind (arith, nat_tests) in
          elim (eqb word w) as (λ b. eqb word w ≡ b → cond b (Some value) (value_of ps w) ≡ cond b (Some value) (cond (eqb p.0 w) (Some p.1) (value_of ps w))) [
            | true ↦ λ f. refl
            | false ↦ λ f. let miss : eqb p.0 w ≡ false = ap (λ n. eqb n w) same ∙ f in sym (cond_false (eqb p.0 w) (Some p.1) (value_of ps w) miss)
          ] refl
      | false ↦ λ e.
          elim (eqb p.0 w) as (λ b. eqb p.0 w ≡ b → cond b (Some p.1) (value_of (with_value ps word value) w) ≡ cond (eqb word w) (Some value) (cond b (Some p.1) (value_of ps w))) [
            | true ↦ λ f.
                let miss : eqb word w ≡ false = grind (arith, nat_tests) in
                sym (cond_false (eqb word w) (Some value) (Some p.1) miss)
            | false ↦ λ f. value_patched ps word value w
          ] refl
    ] refl

-- where what was seen agrees with a volume, the patched agrees with that volume after the write
pub agrees_one : (pairs : List (ℕ × ℕ)) (words : List ℕ) (word value : ℕ) → word < length words → AgreesWith pairs words → AgreesWith (with_value pairs word value) (slice_set words word value)
agrees_one pairs words word value there agrees w =
    subst (λ o. IfSome o (λ v. slice_index (slice_set words word value) w ≡ v)) (sym (value_patched pairs word value w))
    (elim (eqb word w) as (λ b. eqb word w ≡ b → IfSome (cond b (Some value) (value_of pairs w)) (λ v. slice_index (slice_set words word value) w ≡ v)) [
      | true ↦ λ e. let same : word ≡ w = grind (arith, nat_tests) in subst (λ z. slice_index (slice_set words word value) z ≡ value) same (get_or-set_same words word value 0 there)
      | false ↦ λ e.
          let other : w ≢ word = grind (arith, nat_tests) in
          subst (λ n. IfSome (value_of pairs w) (λ v. n ≡ v)) (sym (get_or-set_other words word w value 0 other)) (agrees w)
    ] refl)

-- and after all the writes
pub agrees_below : (room : ℕ) (ws : List Write) (pairs : List (ℕ × ℕ)) (words : List ℕ) → length words ≡ room → All (λ w. w.word < room) ws → AgreesWith pairs words → AgreesWith (patched pairs ws) (words_written words ws)
agrees_below room [] pairs words size all agrees = agrees
agrees_below room (w ∷ ws) pairs words size all agrees =
    let here : w.word < length words = let h = All-head (λ v. v.word < room) w ws all in omega arith in
    agrees_below room ws (with_value pairs w.word w.value) (slice_set words w.word w.value) (length-set words w.word w.value ∙ size) (All-tail (λ v. v.word < room) w ws all)
    (agrees_one pairs words w.word w.value here agrees)

-- a word that isn't in the patched list was not read, and no write names it
pub patched_none : (ws : List Write) (pairs : List (ℕ × ℕ)) (w : ℕ) → value_of (patched pairs ws) w ≡ None → (value_of pairs w ≡ None) × ((words : List ℕ) → slice_index (words_written words ws) w ≡ slice_index words w)
patched_none [] pairs w none = (none, λ words. refl)
patched_none (v ∷ ws) pairs w none =
    let q = patched_none ws (with_value pairs v.word v.value) w none in
    let here : cond (eqb v.word w) (Some v.value) (value_of pairs w) ≡ None = sym (value_patched pairs v.word v.value w) ∙ q.0 in
    elim (eqb v.word w) as (λ b. eqb v.word w ≡ b → cond b (Some v.value) (value_of pairs w) ≡ None → (value_of pairs w ≡ None) × ((words : List ℕ) → slice_index (words_written words (v ∷ ws)) w ≡ slice_index words w)) [
      | true ↦ λ e bad. absurd (cc)
      | false ↦ λ e is.
          let other : w ≢ v.word = grind (arith, nat_tests) in
          (is, λ words. q.1 (slice_set words v.word v.value) ∙ get_or-set_other words v.word w v.value 0 other)
    ] refl here

-- a word that isn't in the list with one more was not in it before
pub none_before : (pairs : List (ℕ × ℕ)) (word value w : ℕ) → value_of (pairs ++ (word, value) ∷ []) w ≡ None → value_of pairs w ≡ None
none_before pairs word value w none =
    let here : cond (is_some (value_of pairs w)) (value_of pairs w) (cond (eqb word w) (Some value) None) ≡ None = sym (value_more pairs word value w) ∙ none in
    elim (value_of pairs w) as (λ o. cond (is_some o) o (cond (eqb word w) (Some value) None) ≡ None → o ≡ None) [ None ↦ λ h. refl | Some v ↦ λ h. h ] here

-- the place of a word
place_next : (pairs : List (ℕ × ℕ)) (n word : ℕ) → (i : ℕ) → position_from (λ (q : ℕ × ℕ). eqb q.0 word) n pairs ≡ Some i → n ≤ i
place_next [] n word i e = absurd (cc)
place_next (p ∷ ps) n word i e =
    elim (eqb p.0 word) as (λ b. cond b (Some n) (position_from (λ (q : ℕ × ℕ). eqb q.0 word) (n + 1) ps) ≡ Some i → n ≤ i) [
      | true ↦ λ h. let same : n ≡ i = cc in omega arith
      | false ↦ λ h. let low = place_next ps (n + 1) word i h in omega arith
    ] e

-- a word that stands there gets its new value there
replaced_from : (pairs : List (ℕ × ℕ)) (n word value i : ℕ) → position_from (λ (q : ℕ × ℕ). eqb q.0 word) n pairs ≡ Some (n + i) → (i < length pairs) × (slice_set pairs i (word, value) ≡ with_value pairs word value) × IsSome (value_of pairs word)
replaced_from [] n word value i e = absurd (cc)
replaced_from (p ∷ ps) n word value zero e =
    elim (eqb p.0 word) as (λ b. cond b (Some n) (position_from (λ (q : ℕ × ℕ). eqb q.0 word) (n + 1) ps) ≡ Some (n + 0) →
    (0 < length (p ∷ ps)) × ((word, value) ∷ ps ≡ cond b ((word, value) ∷ ps) (p ∷ with_value ps word value)) × IsSome (cond b (Some p.1) (value_of ps word))) [
      | true ↦ λ h. (omega arith, refl, refl)
      | false ↦ λ h. let low = place_next ps (n + 1) word (n + 0) h in absurd (omega arith)
    ] e
replaced_from (p ∷ ps) n word value (suc i) e =
    elim (eqb p.0 word) as (λ b. cond b (Some n) (position_from (λ (q : ℕ × ℕ). eqb q.0 word) (n + 1) ps) ≡ Some (n + suc i) →
    (suc i < length (p ∷ ps)) × (p ∷ slice_set ps i (word, value) ≡ cond b ((word, value) ∷ ps) (p ∷ with_value ps word value)) × IsSome (cond b (Some p.1) (value_of ps word))) [
      | true ↦ λ h. let same : n ≡ n + suc i = cc in absurd (omega arith)
      | false ↦ λ h.
          let q = replaced_from ps (n + 1) word value i (h ∙ ap (λ m. Some m) (omega arith)) in
          (let low = q.0 in omega arith, ap (λ z. p ∷ z) q.1, q.2)
    ] e

-- where the list tells its first place
pub place_of : (pairs : List (ℕ × ℕ)) (word : ℕ) → position (λ (q : ℕ × ℕ). eqb q.0 word) pairs ≡ position_from (λ (q : ℕ × ℕ). eqb q.0 word) 0 pairs
place_of pairs word = position_from-zero (λ (q : ℕ × ℕ). eqb q.0 word) pairs

pub replaced : (pairs : List (ℕ × ℕ)) (word value i : ℕ) → position (λ (q : ℕ × ℕ). eqb q.0 word) pairs ≡ Some i
    → (i < length pairs) × (slice_set pairs i (word, value) ≡ with_value pairs word value) × IsSome (value_of pairs word)
replaced pairs word value i e = replaced_from pairs 0 word value i (sym (place_of pairs word) ∙ e ∙ ap (λ n. Some n) (omega arith))

-- one that stands nowhere is added
pub added : (pairs : List (ℕ × ℕ)) (n word value : ℕ) → position_from (λ (q : ℕ × ℕ). eqb q.0 word) n pairs ≡ None → (value_of pairs word ≡ None) × (with_value pairs word value ≡ pairs ++ (word, value) ∷ [])
added [] n word value e = (refl, refl)
added (p ∷ ps) n word value e =
    elim (eqb p.0 word) as (λ b. cond b (Some n) (position_from (λ (q : ℕ × ℕ). eqb q.0 word) (n + 1) ps) ≡ None →
    (cond b (Some p.1) (value_of ps word) ≡ None) × (cond b ((word, value) ∷ ps) (p ∷ with_value ps word value) ≡ p ∷ (ps ++ (word, value) ∷ []))) [
      | true ↦ λ h. absurd (cc)
      | false ↦ λ h. let q = added ps (n + 1) word value h in (q.0, ap (λ z. p ∷ z) q.1)
    ] e

-- a new value changes no word
count_replaced : (f : ℕ → Bool) (pairs : List (ℕ × ℕ)) (word value : ℕ) → IsSome (value_of pairs word) → count_by (λ p. f p.0) (with_value pairs word value) ≡ count_by (λ p. f p.0) pairs
count_replaced f [] word value some = absurd (cc)
count_replaced f (p ∷ ps) word value some =
    elim (eqb p.0 word) as (λ b. eqb p.0 word ≡ b → IsSome (cond b (Some p.1) (value_of ps word)) → count_by (λ (q : ℕ × ℕ). f q.0) (cond b ((word, value) ∷ ps) (p ∷ with_value ps word value)) ≡ count_by (λ (q : ℕ × ℕ). f q.0) (p ∷ ps)) [
      | true ↦ λ e s.
          let same : p.0 ≡ word = grind (arith, nat_tests) in
          omega (arith, count-cons (λ (q : ℕ × ℕ). f q.0) (word, value) ps, count-cons (λ (q : ℕ × ℕ). f q.0) p ps, ap (λ n. cond {A = ℕ} (f n) 1 0) same)
      | false ↦ λ e s. omega (arith, count-cons (λ (q : ℕ × ℕ). f q.0) p (with_value ps word value), count-cons (λ (q : ℕ × ℕ). f q.0) p ps, count_replaced f ps word value s)
    ] refl some

length_replaced : (pairs : List (ℕ × ℕ)) (word value : ℕ) → IsSome (value_of pairs word) → length (with_value pairs word value) ≡ length pairs
length_replaced [] word value some = absurd (cc)
length_replaced (p ∷ ps) word value some =
    elim (eqb p.0 word) as (λ b. IsSome (cond b (Some p.1) (value_of ps word)) → length (cond b ((word, value) ∷ ps) (p ∷ with_value ps word value)) ≡ length (p ∷ ps)) [
      | true ↦ λ s. refl
      | false ↦ λ s. omega (arith, length_replaced ps word value s)
    ] some

pub apart_replaced : (pairs : List (ℕ × ℕ)) (room word value : ℕ) → AreApart pairs room → IsSome (value_of pairs word) → AreApart (with_value pairs word value) room
apart_replaced pairs room word value apart some =
    record {
      once = λ w. let o = apart.once w in omega (arith, count_replaced (λ n. eqb n w) pairs word value some);
      below = count_replaced (λ n. ltb n room) pairs word value some ∙ apart.below ∙ sym (length_replaced pairs word value some);
    }
