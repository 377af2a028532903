-- COURSE, both ways.
use Rattle.std.proofs.Common.{◌≡◌, ℕ, ◌+◌, ◌^◌, ◌<◌, ◌≤◌, true, false, cond, List, [], ◌∷◌, get_or, codes, decimal, Some, Result, Ok, inl, inr, refl, ap, subst, ◌∙◌, lit≤, arith}
use Rattle.std.specs.List.{AllByRecursion}
use Rattle.rl_text.specs.declared.causes.Refusal.{Refusal}
use Rattle.rl_text.specs.declared.causes.Why.TheVariants.{Word}
use Rattle.rl_text.specs.Rows.{Row, word_at}
use Rattle.rl_text.specs.LineWords.{words_from}
use Rattle.rl_text.specs.Reading.{◌>>=◌, fixed_at, number_at, below_at, no_word_at}
use Rattle.rl_text.proofs.TextLaws.{is_plain}
use Rattle.rl_text.proofs.WordLaws.{ok_is, chosen, fixed-takes, fixed-again, number-takes, number-again, below-takes, below-again, no_word-again, decimal-no_word, plain-decimal}
use Rattle.rl_text.proofs.FromLaws.{from_bind, word_at-rest}
use Rattle.rl_text.proofs.LineWordLemmas.{past-word, word-there}
use Rattle.rl_ops.specs.declared.schedule.TheConstants.{MOST_STEPS}
use Rattle.rl_sketch.specs.declared.sketch.Sight.{Sight}
use Rattle.rl_sketch.specs.declared.sketch.Sight.TheVariants as sight
use Rattle.rl_sketch.specs.declared.sketch.Course.{Course}
use Rattle.rl_sketch.specs.declared.sketch.Course.TheVariants as course
use Rattle.rl_sketch.specs.Sketch.{sight_words, course_words, is_one_line, SightFits, CourseFits}
use Rattle.rl_sketch.specs.SketchReading.{count_at, sight_at, until_at, before_at, in_turn_at, at_random_at, course_at, stands_at}
use Rattle.rl_sketch.proofs.PlainWords.{pieces-plain}
use Rattle.rl_sketch.proofs.RankReading.{letter-no_number, these_words}
use Rattle.rl_sketch.proofs.RankLists.{StopsRanks, stands-takes, stands-is, last_words}
use Rattle.rl_sketch.proofs.SightLaws.{sight-takes, sight-again}

-- the course is spelled by the words from one on
abbrev pub CourseTaken : Row → ℕ → Course → Type 0
CourseTaken line n made = (words_from line n ≡ course_words made) × CourseFits made

-- ---- a count

pub count-takes : (line : Row) (n count : ℕ) → 1 ≤ n → count_at line n ≡ Ok count → (words_from line n ≡ decimal count ∷ []) × (count ≤ MOST_STEPS)
unfolding count_at
count-takes line n count one e =
    from_bind (below_at line n (MOST_STEPS + 1)) _ count e (λ k b rest.
    from_bind (no_word_at line (n + 1)) (λ alone. Ok k) count rest (λ alone a last.
    let t = below-takes line n (MOST_STEPS + 1) k b in
    let all : words_from line n ≡ decimal k ∷ [] = these_words line n (decimal k) one t.0.word ∙ ap (λ (vs : List (List ℕ)). decimal k ∷ vs) (last_words line (n + 1) alone a) in
    let few : k ≤ MOST_STEPS = omega (arith, t.1) in
    subst (λ (j : ℕ). (words_from line n ≡ decimal j ∷ []) × (j ≤ MOST_STEPS)) (ok_is k count last) (all, few)))

pub count-again : (line : Row) (n count : ℕ) → 1 ≤ n → words_from line n ≡ decimal count ∷ [] → count ≤ MOST_STEPS → count_at line n ≡ Ok count
unfolding count_at
count-again line n count one from few =
    rw (
      below-again line n (MOST_STEPS + 1) count (record { word = word-there line n (decimal count) [] one from; fits = omega (arith, few) }) (omega (arith, few)),
      no_word-again line (n + 1) (word_at-rest line n (n + 1) 1 (decimal count ∷ []) one refl from),
    ) refl

-- ---- behind the first word

-- a sight comes behind it
sighted : (line : Row) (n : ℕ) (made : Course) (word : List ℕ) (by : Sight → Course) → is_one_line line.text ≡ true → 1 ≤ n → word_at line n ≡ Some word →
    ((seen : Sight) → words_from line n ≡ word ∷ sight_words seen → SightFits seen → CourseTaken line n (by seen)) → (sight_at line (n + 1) >>= λ seen. Ok (by seen)) ≡ Ok made → CourseTaken line n made
sighted line n made word by one_line one there spelled e =
    from_bind (sight_at line (n + 1)) (λ seen. Ok (by seen)) made e (λ seen s last.
    let t = sight-takes line (n + 1) seen one_line (omega arith) s in
    subst (λ (c : Course). CourseTaken line n c) (ok_is (by seen) made last) (spelled seen (these_words line n word one there ∙ ap (λ (vs : List (List ℕ)). word ∷ vs) t.0) t.1))

until-takes : (line : Row) (n : ℕ) (made : Course) → is_one_line line.text ≡ true → 1 ≤ n → word_at line n ≡ Some (codes "until") → until_at line (n + 1) ≡ Ok made → CourseTaken line n made
unfolding until_at
until-takes line n made one_line one there e = sighted line n made (codes "until") (λ seen. course.Until seen) one_line one there (λ seen words fits. (words, fits)) e

before-takes : (line : Row) (n : ℕ) (made : Course) → is_one_line line.text ≡ true → 1 ≤ n → word_at line n ≡ Some (codes "before") → before_at line (n + 1) ≡ Ok made → CourseTaken line n made
unfolding before_at
before-takes line n made one_line one there e = sighted line n made (codes "before") (λ seen. course.Before seen) one_line one there (λ seen words fits. (words, fits)) e

two_more : (line : Row) (n : ℕ) (ws : List (List ℕ)) → words_from line (n + 2) ≡ ws → words_from line (n + 1 + 1) ≡ ws
two_more line n ws e = let k : n + 1 + 1 ≡ n + 2 = omega arith in rw k e

in_turn-takes : (line : Row) (n : ℕ) (made : Course) → is_one_line line.text ≡ true → 1 ≤ n → word_at line n ≡ Some (codes "in") → in_turn_at line (n + 1) ≡ Ok made → CourseTaken line n made
unfolding in_turn_at
in_turn-takes line n made one_line one there e =
    let m : ℕ = n + 1 in
    let m_one : 1 ≤ m = omega arith in
    from_bind (fixed_at line m (codes "turn") Word) _ made e (λ turn t rest.
    let first : words_from line n ≡ codes "in" ∷ words_from line m = these_words line n (codes "in") one there in
    let second : words_from line m ≡ codes "turn" ∷ words_from line (m + 1) = these_words line m (codes "turn") m_one (fixed-takes line m (codes "turn") Word turn t) in
    let both : words_from line n ≡ codes "in" ∷ codes "turn" ∷ words_from line (m + 1) = first ∙ ap (λ (vs : List (List ℕ)). codes "in" ∷ vs) second in
    elim (chosen (stands_at line (m + 1) (codes "until")) (sight_at line (m + 2) >>= λ sight. Ok (course.InTurnUntil sight)) (count_at line (m + 1) >>= λ count. Ok (course.InTurn count)) (Ok made) rest) [
      | inl p ↦
          from_bind (sight_at line (m + 2)) (λ sight. Ok (course.InTurnUntil sight)) made p.1 (λ seen s last.
          let st = sight-takes line (m + 2) seen one_line (omega arith) s in
          let third : words_from line (m + 1) ≡ codes "until" ∷ sight_words seen = these_words line (m + 1) (codes "until") (omega arith) (stands-takes line (m + 1) (codes "until") p.0) ∙ ap (λ (vs : List (List ℕ)). codes "until" ∷ vs) (two_more line m (sight_words seen) st.0) in
          subst (λ (c : Course). CourseTaken line n c) (ok_is (course.InTurnUntil seen) made last)
          (both ∙ ap (λ (vs : List (List ℕ)). codes "in" ∷ codes "turn" ∷ vs) third, st.1))
      | inr p ↦
          from_bind (count_at line (m + 1)) (λ count. Ok (course.InTurn count)) made p.1 (λ count c last.
          let ct = count-takes line (m + 1) count (omega arith) c in
          subst (λ (made : Course). CourseTaken line n made) (ok_is (course.InTurn count) made last)
          (both ∙ ap (λ (vs : List (List ℕ)). codes "in" ∷ codes "turn" ∷ vs) ct.0, ct.1))
    ])

at_random-takes : (line : Row) (n : ℕ) (made : Course) → 1 ≤ n → word_at line n ≡ Some (codes "at") → at_random_at line (n + 1) ≡ Ok made → CourseTaken line n made
unfolding at_random_at
at_random-takes line n made one there e =
    let m : ℕ = n + 1 in
    let m_one : 1 ≤ m = omega arith in
    from_bind (fixed_at line m (codes "random") Word) _ made e (λ random r rest.
    from_bind (number_at line (m + 1)) _ made rest (λ seed s more.
    from_bind (count_at line (m + 2)) (λ count. Ok (course.AtRandom seed count)) made more (λ count c last.
    let seed_there = number-takes line (m + 1) seed s in
    let ct = count-takes line (m + 2) count (omega arith) c in
    let third : words_from line (m + 1) ≡ decimal seed ∷ decimal count ∷ [] = these_words line (m + 1) (decimal seed) (omega arith) seed_there.word ∙ ap (λ (vs : List (List ℕ)). decimal seed ∷ vs) (two_more line m (decimal count ∷ []) ct.0) in
    let second : words_from line m ≡ codes "random" ∷ decimal seed ∷ decimal count ∷ [] = these_words line m (codes "random") m_one (fixed-takes line m (codes "random") Word random r) ∙ ap (λ (vs : List (List ℕ)). codes "random" ∷ vs) third in
    let first : words_from line n ≡ codes "at" ∷ codes "random" ∷ decimal seed ∷ decimal count ∷ [] = these_words line n (codes "at") one there ∙ ap (λ (vs : List (List ℕ)). codes "at" ∷ vs) second in
    subst (λ (made : Course). CourseTaken line n made) (ok_is (course.AtRandom seed count) made last) (first, (seed_there.fits, ct.1)))))

-- ---- all of them

steps-takes : (line : Row) (n : ℕ) (made : Course) → 1 ≤ n → (count_at line n >>= λ count. Ok (course.Steps count)) ≡ Ok made → CourseTaken line n made
steps-takes line n made one e =
    from_bind (count_at line n) (λ count. Ok (course.Steps count)) made e (λ count c last.
    subst (λ (made : Course). CourseTaken line n made) (ok_is (course.Steps count) made last) (count-takes line n count one c))

pub course-takes : (line : Row) (n : ℕ) (made : Course) → is_one_line line.text ≡ true → 1 ≤ n → course_at line n ≡ Ok made → CourseTaken line n made
unfolding course_at
course-takes line n made one_line one e =
    let steps : Result Course Refusal = count_at line n >>= λ count. Ok (course.Steps count) in
    let no_in : Result Course Refusal = cond (stands_at line n (codes "at")) (at_random_at line (n + 1)) steps in
    let no_before : Result Course Refusal = cond (stands_at line n (codes "in")) (in_turn_at line (n + 1)) no_in in
    let no_until : Result Course Refusal = cond (stands_at line n (codes "before")) (before_at line (n + 1)) no_before in
    elim (chosen (stands_at line n (codes "until")) (until_at line (n + 1)) no_until (Ok made) e) [
      | inl p ↦ until-takes line n made one_line one (stands-takes line n (codes "until") p.0) p.1
      | inr p ↦ elim (chosen (stands_at line n (codes "before")) (before_at line (n + 1)) no_before (Ok made) p.1) [
        | inl q ↦ before-takes line n made one_line one (stands-takes line n (codes "before") q.0) q.1
        | inr q ↦ elim (chosen (stands_at line n (codes "in")) (in_turn_at line (n + 1)) no_in (Ok made) q.1) [
          | inl r ↦ in_turn-takes line n made one_line one (stands-takes line n (codes "in") r.0) r.1
          | inr r ↦ elim (chosen (stands_at line n (codes "at")) (at_random_at line (n + 1)) steps (Ok made) r.1) [
            | inl s ↦ at_random-takes line n made one (stands-takes line n (codes "at") s.0) s.1
            | inr s ↦ steps-takes line n made one s.1
          ]
        ]
      ]
    ]

-- ---- what is spelled is read

past-two : (line : Row) (n : ℕ) (v w : List ℕ) (more : List (List ℕ)) → 1 ≤ n → words_from line n ≡ v ∷ w ∷ more → words_from line (n + 2) ≡ more
past-two line n v w more one from =
    let k : n + 2 ≡ n + 1 + 1 = omega arith in
    rw k (past-word line (n + 1) w more (omega arith) (past-word line n v (w ∷ more) one from))

in_turn-again : (line : Row) (n count : ℕ) → 1 ≤ n → words_from line n ≡ codes "turn" ∷ decimal count ∷ [] → count ≤ MOST_STEPS → in_turn_at line n ≡ Ok (course.InTurn count)
unfolding in_turn_at
in_turn-again line n count one from few =
    let second : words_from line (n + 1) ≡ decimal count ∷ [] = past-word line n (codes "turn") (decimal count ∷ []) one from in
    let number : stands_at line (n + 1) (codes "until") ≡ false = stands-is line (n + 1) (decimal count) (codes "until") (word-there line (n + 1) (decimal count) [] (omega arith) second) ∙ decimal-no_word count (codes "until") (omega (arith, few)) (lit≤ tt) in
    rw (
      fixed-again line n (codes "turn") Word (word-there line n (codes "turn") (decimal count ∷ []) one from),
      number,
      count-again line (n + 1) count (omega arith) second few,
    ) refl

in_turn_until-again : (line : Row) (n : ℕ) (seen : Sight) → 1 ≤ n → words_from line n ≡ codes "turn" ∷ codes "until" ∷ sight_words seen → SightFits seen → in_turn_at line n ≡ Ok (course.InTurnUntil seen)
unfolding in_turn_at
in_turn_until-again line n seen one from fits =
    let second : words_from line (n + 1) ≡ codes "until" ∷ sight_words seen = past-word line n (codes "turn") (codes "until" ∷ sight_words seen) one from in
    let until : stands_at line (n + 1) (codes "until") ≡ true = stands-is line (n + 1) (codes "until") (codes "until") (word-there line (n + 1) (codes "until") (sight_words seen) (omega arith) second) in
    rw (
      fixed-again line n (codes "turn") Word (word-there line n (codes "turn") (codes "until" ∷ sight_words seen) one from),
      until,
      sight-again line (n + 2) seen (omega arith) (past-two line n (codes "turn") (codes "until") (sight_words seen) one from) fits,
    ) refl

at_random-again : (line : Row) (n seed count : ℕ) → 1 ≤ n → words_from line n ≡ codes "random" ∷ decimal seed ∷ decimal count ∷ [] → seed < 2 ^ 64 → count ≤ MOST_STEPS → at_random_at line n ≡ Ok (course.AtRandom seed count)
unfolding at_random_at
at_random-again line n seed count one from small few =
    let second : words_from line (n + 1) ≡ decimal seed ∷ decimal count ∷ [] = past-word line n (codes "random") (decimal seed ∷ decimal count ∷ []) one from in
    rw (
      fixed-again line n (codes "random") Word (word-there line n (codes "random") (decimal seed ∷ decimal count ∷ []) one from),
      number-again line (n + 1) seed (record { word = word-there line (n + 1) (decimal seed) (decimal count ∷ []) (omega arith) second; fits = small }),
      count-again line (n + 2) count (omega arith) (past-two line n (codes "random") (decimal seed) (decimal count ∷ []) one from) few,
    ) refl

-- what the first word of a course says
pub course-again : (line : Row) (n : ℕ) (made : Course) → 1 ≤ n → words_from line n ≡ course_words made → CourseFits made → course_at line n ≡ Ok made
unfolding course_at until_at before_at
course-again line n (course.Steps count) one from few =
    let there = word-there line n (decimal count) [] one from in
    let small : count < 2 ^ 64 = omega (arith, few) in
    let until : stands_at line n (codes "until") ≡ false = stands-is line n (decimal count) (codes "until") there ∙ decimal-no_word count (codes "until") small (lit≤ tt) in
    let before : stands_at line n (codes "before") ≡ false = stands-is line n (decimal count) (codes "before") there ∙ decimal-no_word count (codes "before") small (lit≤ tt) in
    let in_turn : stands_at line n (codes "in") ≡ false = stands-is line n (decimal count) (codes "in") there ∙ decimal-no_word count (codes "in") small (lit≤ tt) in
    let at_random : stands_at line n (codes "at") ≡ false = stands-is line n (decimal count) (codes "at") there ∙ decimal-no_word count (codes "at") small (lit≤ tt) in
    rw (until, before, in_turn, at_random, count-again line n count one from few) refl
course-again line n (course.Until seen) one from fits =
    let there = word-there line n (codes "until") (sight_words seen) one from in
    let until : stands_at line n (codes "until") ≡ true = stands-is line n (codes "until") (codes "until") there in
    rw (until, sight-again line (n + 1) seen (omega arith) (past-word line n (codes "until") (sight_words seen) one from) fits) refl
course-again line n (course.Before seen) one from fits =
    let there = word-there line n (codes "before") (sight_words seen) one from in
    let until : stands_at line n (codes "until") ≡ false = stands-is line n (codes "before") (codes "until") there in
    let before : stands_at line n (codes "before") ≡ true = stands-is line n (codes "before") (codes "before") there in
    rw (until, before, sight-again line (n + 1) seen (omega arith) (past-word line n (codes "before") (sight_words seen) one from) fits) refl
course-again line n (course.InTurn count) one from few =
    let more = codes "turn" ∷ decimal count ∷ [] in
    let there = word-there line n (codes "in") more one from in
    let until : stands_at line n (codes "until") ≡ false = stands-is line n (codes "in") (codes "until") there in
    let before : stands_at line n (codes "before") ≡ false = stands-is line n (codes "in") (codes "before") there in
    let in_turn : stands_at line n (codes "in") ≡ true = stands-is line n (codes "in") (codes "in") there in
    rw (until, before, in_turn, in_turn-again line (n + 1) count (omega arith) (past-word line n (codes "in") more one from) few) refl
course-again line n (course.InTurnUntil seen) one from fits =
    let more = codes "turn" ∷ codes "until" ∷ sight_words seen in
    let there = word-there line n (codes "in") more one from in
    let until : stands_at line n (codes "until") ≡ false = stands-is line n (codes "in") (codes "until") there in
    let before : stands_at line n (codes "before") ≡ false = stands-is line n (codes "in") (codes "before") there in
    let in_turn : stands_at line n (codes "in") ≡ true = stands-is line n (codes "in") (codes "in") there in
    rw (until, before, in_turn, in_turn_until-again line (n + 1) seen (omega arith) (past-word line n (codes "in") more one from) fits) refl
course-again line n (course.AtRandom seed count) one from fits =
    let more = codes "random" ∷ decimal seed ∷ decimal count ∷ [] in
    let there = word-there line n (codes "at") more one from in
    let until : stands_at line n (codes "until") ≡ false = stands-is line n (codes "at") (codes "until") there in
    let before : stands_at line n (codes "before") ≡ false = stands-is line n (codes "at") (codes "before") there in
    let in_turn : stands_at line n (codes "in") ≡ false = stands-is line n (codes "at") (codes "in") there in
    let at_random : stands_at line n (codes "at") ≡ true = stands-is line n (codes "at") (codes "at") there in
    rw (until, before, in_turn, at_random, at_random-again line (n + 1) seed count (omega arith) (past-word line n (codes "at") more one from) fits.0 fits.1) refl

-- ---- its words

letter-stops : (w : List ℕ) (ws : List (List ℕ)) → 58 ≤ get_or w 0 0 → StopsRanks (w ∷ ws)
letter-stops w [] letter = tt
letter-stops w (v ∷ vs) letter = letter-no_number w letter

-- ranks that are read end where a course begins
pub course-stops : (made : Course) → StopsRanks (course_words made)
course-stops (course.Steps count) = tt
course-stops (course.Until seen) = letter-stops (codes "until") (sight_words seen) (lit≤ tt)
course-stops (course.Before seen) = letter-stops (codes "before") (sight_words seen) (lit≤ tt)
course-stops (course.InTurn count) = letter-stops (codes "in") (codes "turn" ∷ decimal count ∷ []) (lit≤ tt)
course-stops (course.InTurnUntil seen) = letter-stops (codes "in") (codes "turn" ∷ codes "until" ∷ sight_words seen) (lit≤ tt)
course-stops (course.AtRandom seed count) = letter-stops (codes "at") (codes "random" ∷ decimal seed ∷ decimal count ∷ []) (lit≤ tt)

sight-plain : (seen : Sight) → SightFits seen → AllByRecursion (λ w. is_plain w ≡ true) (sight_words seen)
sight-plain sight.Done fits = (refl, tt)
sight-plain sight.Out fits = (refl, tt)
sight-plain (sight.Words text) fits = (pieces-plain text fits.1).1

count-plain : (count : ℕ) → count ≤ MOST_STEPS → is_plain (decimal count) ≡ true
count-plain count few = plain-decimal count (omega (arith, few))

pub course-plain : (made : Course) → CourseFits made → AllByRecursion (λ w. is_plain w ≡ true) (course_words made)
course-plain (course.Steps count) few = (count-plain count few, tt)
course-plain (course.Until seen) fits = (refl, sight-plain seen fits)
course-plain (course.Before seen) fits = (refl, sight-plain seen fits)
course-plain (course.InTurn count) few = (refl, (refl, (count-plain count few, tt)))
course-plain (course.InTurnUntil seen) fits = (refl, (refl, (refl, sight-plain seen fits)))
course-plain (course.AtRandom seed count) fits = (refl, (refl, (plain-decimal seed fits.0, (count-plain count fits.1, tt))))
