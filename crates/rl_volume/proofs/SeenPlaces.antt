-- Where the words that were read stand among them, as it is noted.
use Rattle.std.proofs.Common.{◌≡◌, ◌≢◌, ℕ, zero, suc, ◌+◌, ◌-◌, ◌<◌, ◌≤◌, true, false, cond, eqb, ltb, List, [], ◌∷◌, ◌++◌, length, drop, get_or, refl, sym, ap, ◌∙◌, subst, arith, Option, Some, None, IsSome, slice_index, slice_set, get_or-set_same, get_or-set_other}
use Rattle.std.specs.List.{count_by, position, position_from}
use Rattle.std.proofs.lemmas.Bool.Decides.{nat_tests}
use Rattle.std.proofs.lemmas.List.{drop_more, get_or_read}
use Rattle.std.proofs.lemmas.List.Sums.{count_by-le-length}
use Rattle.std.proofs.lemmas.List.Quantifiers.{position-Some}
use Rattle.rl_model.proofs.Counts.{count-cons}
use Rattle.rl_volume.specs.Seen.{value_of, ArePlaced, place_number, with_value}
use Rattle.rl_volume.proofs.Sums.{cond_true, cond_false}
use Rattle.rl_volume.proofs.SeenLaws.{value_at}
use Rattle.rl_volume.proofs.Pairs.{same_pair}
use Rattle.rl_volume.proofs.Patches.{added, place_of}

-- the place from a number on, as it is noted
abbrev number_from : ℕ → List (ℕ × ℕ) → ℕ → ℕ
number_from n pairs word = elim (position_from (λ (q : ℕ × ℕ). eqb q.0 word) n pairs) [ None ↦ 0 | Some place ↦ place + 1 ]

number_is : (pairs : List (ℕ × ℕ)) (word : ℕ) → place_number pairs word ≡ number_from 0 pairs word
number_is pairs word = ap (λ (o : Option ℕ). elim o as (λ _. ℕ) [ None ↦ 0 | Some place ↦ place + 1 ]) (place_of pairs word)

-- a word that wasn't read has none
unread : (n : ℕ) (pairs : List (ℕ × ℕ)) (word : ℕ) → value_of pairs word ≡ None → number_from n pairs word ≡ 0
unread n [] word none = refl
unread n (p ∷ ps) word none =
    elim (eqb p.0 word) as (λ b. cond b (Some p.1) (value_of ps word) ≡ None → elim (cond b (Some n) (position_from (λ (q : ℕ × ℕ). eqb q.0 word) (n + 1) ps)) as (λ _. ℕ) [ None ↦ 0 | Some place ↦ place + 1 ] ≡ 0) [
      | true ↦ λ bad. absurd (cc)
      | false ↦ λ rest. unread (n + 1) ps word rest
    ] none

-- one word more, which wasn't read: it stands at the end
at_end : (n : ℕ) (pairs : List (ℕ × ℕ)) (word value : ℕ) → value_of pairs word ≡ None → number_from n (pairs ++ (word, value) ∷ []) word ≡ n + length pairs + 1
at_end n [] word value none =
    let hit : eqb word word ≡ true = grind (arith, nat_tests) in
    ap (λ b. elim (cond b (Some n) None) as (λ _. ℕ) [ None ↦ 0 | Some place ↦ place + 1 ]) hit ∙ omega arith
at_end n (p ∷ ps) word value none =
    elim (eqb p.0 word) as (λ b. cond b (Some p.1) (value_of ps word) ≡ None → elim (cond b (Some n) (position_from (λ (q : ℕ × ℕ). eqb q.0 word) (n + 1) (ps ++ (word, value) ∷ []))) as (λ _. ℕ) [ None ↦ 0 | Some place ↦ place + 1 ] ≡ n + length (p ∷ ps) + 1) [
      | true ↦ λ bad. absurd (cc)
      | false ↦ λ rest. at_end (n + 1) ps word value rest ∙ omega arith
    ] none

-- and the others stand where they stood
others_stay : (n : ℕ) (pairs : List (ℕ × ℕ)) (word value w : ℕ) → word ≢ w → number_from n (pairs ++ (word, value) ∷ []) w ≡ number_from n pairs w
others_stay n [] word value w other =
    let miss : eqb word w ≡ false = grind (arith, nat_tests) in
    ap (λ b. elim (cond b (Some n) None) as (λ _. ℕ) [ None ↦ 0 | Some place ↦ place + 1 ]) miss
others_stay n (p ∷ ps) word value w other =
    elim (eqb p.0 w) as (λ b. elim (cond b (Some n) (position_from (λ (q : ℕ × ℕ). eqb q.0 w) (n + 1) (ps ++ (word, value) ∷ []))) as (λ _. ℕ) [ None ↦ 0 | Some place ↦ place + 1 ]
    ≡ elim (cond b (Some n) (position_from (λ (q : ℕ × ℕ). eqb q.0 w) (n + 1) ps)) as (λ _. ℕ) [ None ↦ 0 | Some place ↦ place + 1 ]) [
      | true ↦ refl
      | false ↦ others_stay (n + 1) ps word value w other
    ]

-- one word more is noted at the end
pub placed_more : (pairs : List (ℕ × ℕ)) (places : List ℕ) (word value place : ℕ) → ArePlaced pairs places → word < length places → value_of pairs word ≡ None → place ≡ length pairs + 1 → ArePlaced (pairs ++ (word, value) ∷ []) (slice_set places word place)
placed_more pairs places word value place placed there none is w =
    elim (eqb word w) as (λ b. eqb word w ≡ b → slice_index (slice_set places word place) w ≡ place_number (pairs ++ (word, value) ∷ []) w) [
      | true ↦ λ e.
          let same : word ≡ w = grind (arith, nat_tests) in
          let P : ℕ → Type 0 = λ v. slice_index (slice_set places word place) v ≡ place_number (pairs ++ (word, value) ∷ []) v in
          let end : place ≡ 0 + length pairs + 1 = omega (arith, is) in
          subst P same (get_or-set_same places word place 0 there ∙ end ∙ sym (number_is (pairs ++ (word, value) ∷ []) word ∙ at_end 0 pairs word value none))
      | false ↦ λ e.
          let other : word ≢ w = grind (arith, nat_tests) in
          get_or-set_other places word w place 0 (grind (arith, nat_tests)) ∙ placed w ∙ number_is pairs w ∙ sym (number_is (pairs ++ (word, value) ∷ []) w ∙ others_stay 0 pairs word value w other)
    ] refl

-- a new value moves no word
unmoved : (n : ℕ) (pairs : List (ℕ × ℕ)) (word value w : ℕ) → IsSome (value_of pairs word) → number_from n (with_value pairs word value) w ≡ number_from n pairs w
unmoved n [] word value w some = absurd (cc)
unmoved n (p ∷ ps) word value w some =
    elim (eqb p.0 word) as (λ b. eqb p.0 word ≡ b → IsSome (cond b (Some p.1) (value_of ps word)) → number_from n (cond b ((word, value) ∷ ps) (p ∷ with_value ps word value)) w ≡ number_from n (p ∷ ps) w) [
      | true ↦ λ e s. let same : word ≡ p.0 = grind (arith, nat_tests) in ap (λ v. elim (cond (eqb v w) (Some n) (position_from (λ (q : ℕ × ℕ). eqb q.0 w) (n + 1) ps)) as (λ _. ℕ) [ None ↦ 0 | Some place ↦ place + 1 ]) same
      | false ↦ λ e s.
          elim (eqb p.0 w) as (λ b. elim (cond b (Some n) (position_from (λ (q : ℕ × ℕ). eqb q.0 w) (n + 1) (with_value ps word value))) as (λ _. ℕ) [ None ↦ 0 | Some place ↦ place + 1 ]
          ≡ elim (cond b (Some n) (position_from (λ (q : ℕ × ℕ). eqb q.0 w) (n + 1) ps)) as (λ _. ℕ) [ None ↦ 0 | Some place ↦ place + 1 ]) [
            | true ↦ refl
            | false ↦ unmoved (n + 1) ps word value w s
          ]
    ] refl some

pub placed_same : (pairs : List (ℕ × ℕ)) (places : List ℕ) (word value : ℕ) → ArePlaced pairs places → IsSome (value_of pairs word) → ArePlaced (with_value pairs word value) places
placed_same pairs places word value placed some w = placed w ∙ number_is pairs w ∙ sym (number_is (with_value pairs word value) w ∙ unmoved 0 pairs word value w some)

-- what is noted of a word tells its place
pub place_noted : (pairs : List (ℕ × ℕ)) (places : List ℕ) (word : ℕ) → ArePlaced pairs places → slice_index places word ≢ 0 → Some (slice_index places word - 1) ≡ position (λ (q : ℕ × ℕ). eqb q.0 word) pairs
place_noted pairs places word placed some =
    elim (position (λ (q : ℕ × ℕ). eqb q.0 word) pairs) as (λ o. slice_index places word ≡ elim o as (λ _. ℕ) [ None ↦ 0 | Some place ↦ place + 1 ] → Some (slice_index places word - 1) ≡ o) [
      | None ↦ λ e. absurd (some e)
      | Some place ↦ λ e. ap (λ n. Some n) (omega (arith, e))
    ] (placed word)

pub none_noted : (pairs : List (ℕ × ℕ)) (places : List ℕ) (word : ℕ) → ArePlaced pairs places → slice_index places word ≡ 0 → None ≡ position (λ (q : ℕ × ℕ). eqb q.0 word) pairs
none_noted pairs places word placed none =
    elim (position (λ (q : ℕ × ℕ). eqb q.0 word) pairs) as (λ o. slice_index places word ≡ elim o as (λ _. ℕ) [ None ↦ 0 | Some place ↦ place + 1 ] → None ≡ o) [
      | None ↦ λ e. refl
      | Some place ↦ λ e. absurd (omega (arith, e, none))
    ] (placed word)

-- what the word at a place gave
pub value_there : (pairs : List (ℕ × ℕ)) (word i : ℕ) (pair : ℕ × ℕ) → count_by (λ p. eqb p.0 word) pairs ≤ 1 → position (λ (q : ℕ × ℕ). eqb q.0 word) pairs ≡ Some i → pair ≡ get_or pairs i pair → Some pair.1 ≡ value_of pairs word
value_there pairs word i pair once at is =
    let found = position-Some (λ (q : ℕ × ℕ). eqb q.0 word) pairs i pair at in
    let same : pair.0 ≡ word = let e = found.1 in grind (arith, nat_tests) in
    sym (value_at pairs i word pair.1 found.0 (sym (get_or_read pairs i pair found.0 is (0, 0)) ∙ same_pair pair.0 pair.1 word pair.1 same refl) once)

pub none_there : (pairs : List (ℕ × ℕ)) (word : ℕ) → None ≡ position (λ (q : ℕ × ℕ). eqb q.0 word) pairs → None ≡ value_of pairs word
none_there pairs word e = sym (added pairs 0 word 0 (sym (place_of pairs word) ∙ sym e)).0

-- a word that stands there is one of the volume
pub in_volume : (pairs : List (ℕ × ℕ)) (room i : ℕ) (d : ℕ × ℕ) → count_by (λ p. ltb p.0 room) pairs ≡ length pairs → i < length pairs → (get_or pairs i d).0 < room
in_volume [] room i d below there = absurd (omega arith)
in_volume (p ∷ ps) room i d below there =
    let here : ltb p.0 room ≡ true =
    elim (ltb p.0 room) as (λ b. cond {A = ℕ} b 1 0 + count_by (λ (q : ℕ × ℕ). ltb q.0 room) ps ≡ suc (length ps) → b ≡ true) [
      | true ↦ λ e. refl
      | false ↦ λ e. absurd (omega (arith, e, count_by-le-length (λ (q : ℕ × ℕ). ltb q.0 room) ps))
    ] (sym (count-cons (λ (q : ℕ × ℕ). ltb q.0 room) p ps) ∙ below) in
    let rest : count_by (λ (q : ℕ × ℕ). ltb q.0 room) ps ≡ length ps = omega (arith, below, count-cons (λ (q : ℕ × ℕ). ltb q.0 room) p ps, cond_true {A = ℕ} (ltb p.0 room) 1 0 here) in
    elim i as (λ i. i < length (p ∷ ps) → (get_or (p ∷ ps) i d).0 < room) [
      | zero ↦ λ h. grind (arith, nat_tests)
      | suc j ↦ λ h. in_volume ps room j d rest (omega (arith, h))
    ] there

-- before any is forgotten, a word that wasn't read has no place
pub none_forgotten : (pairs : List (ℕ × ℕ)) (places : List ℕ) → ArePlaced pairs places → (word : ℕ) → value_of pairs word ≡ None → slice_index places word ≡ 0
none_forgotten pairs places placed word none = placed word ∙ number_is pairs word ∙ unread 0 pairs word none

-- one word more is forgotten
pub one_forgotten : (pairs : List (ℕ × ℕ)) (places : List ℕ) (i : ℕ) (d : ℕ × ℕ) → i < length pairs → (get_or pairs i d).0 < length places
    → ((word : ℕ) → value_of (drop i pairs) word ≡ None → slice_index places word ≡ 0) → (word : ℕ) → value_of (drop (i + 1) pairs) word ≡ None → slice_index (slice_set places (get_or pairs i d).0 0) word ≡ 0
one_forgotten pairs places i d more there before word none =
    let pair = get_or pairs i d in
    elim (eqb pair.0 word) as (λ b. eqb pair.0 word ≡ b → slice_index (slice_set places pair.0 0) word ≡ 0) [
      | true ↦ λ e. let same : pair.0 ≡ word = grind (arith, nat_tests) in subst (λ w. slice_index (slice_set places pair.0 0) w ≡ 0) same (get_or-set_same places pair.0 0 0 there)
      | false ↦ λ e.
          get_or-set_other places pair.0 word 0 0 (grind (arith, nat_tests)) ∙ before word (ap (λ ps. value_of ps word) (drop_more pairs i d more) ∙ cond_false (eqb pair.0 word) (Some pair.1) (value_of (drop (i + 1) pairs) word) e ∙ none)
    ] refl
