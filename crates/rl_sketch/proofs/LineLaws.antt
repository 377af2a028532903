-- A line of a sketch, both ways.
use Rattle.std.proofs.Common.{◌≡◌, ℕ, ◌^◌, ◌<◌, ◌≤◌, true, false, cond, eqb, List, [], ◌∷◌, ◌++◌, map, length, get_or, codes, decimal, Ok, inl, inr, refl, sym, ap, subst, ◌∙◌, eqb-true, ne_eqb, lit≤, arith}
use Rattle.std.specs.List.{AllByRecursion, onto_first, join_with_byte}
use Rattle.std.specs.Str.{bytes_eq}
use Rattle.std.proofs.lemmas.Fmt.{decimal_nonempty, digits_decimal}
use Rattle.std.proofs.lemmas.List.Splits.{slice_split-cons_no, join_with_byte-slice_split}
use Rattle.std.proofs.lemmas.Slice.Eq.{bytes_eq-Decides}
use Rattle.std.proofs.lemmas.Str.Parse.{digit_at}
use Rattle.rl_text.specs.declared.causes.Why.TheVariants.{Order, Repeat}
use Rattle.rl_text.specs.Cut.{pieces}
use Rattle.rl_text.specs.Rows.{Row, words}
use Rattle.rl_text.specs.Reading.{◌>>=◌, begins}
use Rattle.rl_text.proofs.Decimals.{own}
use Rattle.rl_text.proofs.RowLemmas.{first_piece}
use Rattle.rl_text.proofs.TextLaws.{is_plain, IsPlain, AllByRecursion-append}
use Rattle.rl_text.proofs.WordLaws.{ok_is, chosen, begins-is, begins-takes, decimal-no_word, plain-decimal}
use Rattle.rl_text.proofs.FromLaws.{from_bind}
use Rattle.rl_text.proofs.LineWordLemmas.{past-word, word-there}
use Rattle.rl_sketch.specs.declared.sketch.Ranks.{Ranks}
use Rattle.rl_sketch.specs.declared.sketch.Ranks.TheVariants.{All, These}
use Rattle.rl_sketch.specs.declared.sketch.Course.{Course}
use Rattle.rl_sketch.specs.declared.sketch.SketchLine.{SketchLine}
use Rattle.rl_sketch.specs.declared.sketch.SketchLine.TheVariants.{Note, Goes, Stops}
use Rattle.rl_sketch.specs.Sketch.{ranks_words, course_words, line_words, is_note, is_one_line, first_word, RanksFit, LineFits}
use Rattle.rl_sketch.specs.SketchReading.{MayName, going_ranks_at, course_at, stopped_ranks_at, goes_at, stops_at, line_after}
use Rattle.rl_sketch.proofs.Outcomes.{either_way, untrue, clash}
use Rattle.rl_sketch.proofs.PlainWords.{pieces-plain}
use Rattle.rl_sketch.proofs.RankReading.{these_words}
use Rattle.rl_sketch.proofs.RankLists.{going-takes, going-again, stopped-takes, stopped-again}
use Rattle.rl_sketch.proofs.CourseLaws.{course-takes, course-again, course-stops, course-plain}

-- ---- notes

onto-word : (b : ℕ) (ps : List (List ℕ)) → (more : List ℕ) × (first_word (onto_first b ps) ≡ b ∷ more)
onto-word b [] = ([], refl)
onto-word b (p ∷ ps) = (p, refl)

-- the first word of a text that begins with no space begins with its first byte
text-word : (b : ℕ) (bs : List ℕ) → eqb b 32 ≡ false → (more : List ℕ) × (first_word (pieces 32 (b ∷ bs)) ≡ b ∷ more)
text-word b bs fails =
    let o = onto-word b (pieces 32 bs) in
    (o.0, ap first_word (slice_split-cons_no (λ c. eqb c 32) b bs fails) ∙ o.1)

-- a text of which the first word doesn't begin with `#` is no note
not_note : (text w : List ℕ) (ws : List (List ℕ)) → pieces 32 text ≡ w ∷ ws → is_note w ≡ false → is_note text ≡ false
not_note [] w ws e other =
    let first : [] ≡ w = ap first_word e in
    absurd (clash (is_note []) (is_note w) (ap is_note first) refl other)
not_note (b ∷ bs) w ws e other =
    either_way (eqb b 32)
    (λ space. ne_eqb b 35 (λ hash. omega (arith, hash, eqb-true b 32 space)))
    (λ fails.
    let t = text-word b bs fails in
    let first : b ∷ t.0 ≡ w = sym t.1 ∙ ap first_word e in
    ap is_note first ∙ other)

line-not_note : (line : Row) (w : List ℕ) (ws : List (List ℕ)) → words line ≡ w ∷ ws → is_note w ≡ false → is_note line.text ≡ false
unfolding words
line-not_note line w ws e other = not_note line.text w ws e other

high-not_note : (w : List ℕ) → 36 ≤ get_or w 0 0 → is_note w ≡ false
high-not_note [] high = absurd (omega (arith, high))
high-not_note (b ∷ bs) high = ne_eqb b 35 (λ hash. omega (arith, high, hash))

decimal-not_note : (k : ℕ) → k < 2 ^ 64 → is_note (decimal k) ≡ false
decimal-not_note k h =
    let digit = digit_at (decimal k) 0 (digits_decimal own k h) (decimal_nonempty k h) in
    high-not_note (decimal k) (omega (arith, digit.0))

other_word : (w text : List ℕ) (b : ℕ) (more : List ℕ) → w ≡ b ∷ more → (get_or text 0 0 ≡ b → ⊥) → bytes_eq w text ≡ false
other_word w text b more is fails = untrue (bytes_eq w text) (λ e.
    let same : w ≡ text = (bytes_eq-Decides w text).0 e in
    fails (ap (λ (v : List ℕ). get_or v 0 0) (sym same ∙ is)))

-- a note isn't the last line
note-word : (text : List ℕ) → is_note text ≡ true → bytes_eq (first_word (pieces 32 text)) (codes "end") ≡ false
note-word [] note = refl
note-word (b ∷ bs) note =
    let hash : b ≡ 35 = eqb-true b 35 note in
    let t = text-word b bs (ne_eqb b 32 (λ space. omega (arith, hash, space))) in
    other_word (first_word (pieces 32 (b ∷ bs))) (codes "end") b t.0 t.1 (λ e. omega (arith, hash, e))

-- ---- what is read

stops-takes : (may : MayName) (line : Row) (made : SketchLine) → begins line (codes "stop") ≡ true → stops_at may line ≡ Ok made → (words line ≡ line_words made) × LineFits may.ranks may.stopped made
unfolding stops_at
stops-takes may line made stop e =
    from_bind (stopped_ranks_at may line) (λ which. Ok (Stops which)) made e (λ which w last.
    let t = stopped-takes may line which w in
    subst (λ (l : SketchLine). (words line ≡ line_words l) × LineFits may.ranks may.stopped l) (ok_is (Stops which) made last)
    (these_words line 1 (codes "stop") (omega arith) (begins-takes line (codes "stop") stop) ∙ ap (λ (vs : List (List ℕ)). codes "stop" ∷ vs) t.0, t.1))

goes-takes : (may : MayName) (line : Row) (made : SketchLine) → is_one_line line.text ≡ true → goes_at may line ≡ Ok made → (words line ≡ line_words made) × LineFits may.ranks may.stopped made
unfolding goes_at
goes-takes may line made one_line e =
    from_bind (going_ranks_at may line) (λ named. course_at line named.1 >>= λ course. Ok (Goes named.0 course)) made e (λ named n rest.
    from_bind (course_at line named.1) (λ course. Ok (Goes named.0 course)) made rest (λ course c last.
    let rt = going-takes may line named n in
    let ct = course-takes line named.1 course one_line rt.one c in
    subst (λ (l : SketchLine). (words line ≡ line_words l) × LineFits may.ranks may.stopped l) (ok_is (Goes named.0 course) made last)
    (rt.words ∙ ap (λ (vs : List (List ℕ)). ranks_words named.0 ++ vs) ct.0, (rt.fit, ct.1))))

pub line-takes : (ranks : ℕ) (stopped : List ℕ) (line : Row) (made : SketchLine) → is_one_line line.text ≡ true → line_after ranks stopped line ≡ Ok made → (words line ≡ line_words made) × LineFits ranks stopped made
unfolding line_after words
line-takes ranks stopped line made one_line e =
    let stops : MayName = record { ranks = ranks; stopped = stopped; again = Repeat } in
    let goes : MayName = record { ranks = ranks; stopped = stopped; again = Order } in
    elim (chosen (is_note line.text) (Ok (Note line.text)) (cond (begins line (codes "stop")) (stops_at stops line) (goes_at goes line)) (Ok made) e) [
      | inl p ↦ subst (λ (l : SketchLine). (words line ≡ line_words l) × LineFits ranks stopped l) (ok_is (Note line.text) made p.1) (refl, (p.0, one_line))
      | inr p ↦ elim (chosen (begins line (codes "stop")) (stops_at stops line) (goes_at goes line) (Ok made) p.1) [
        | inl q ↦ stops-takes stops line made q.0 q.1
        | inr q ↦ goes-takes goes line made one_line q.1
      ]
    ]

-- ---- what is spelled

note-again : (ranks : ℕ) (stopped : List ℕ) (line : Row) (text : List ℕ) → words line ≡ pieces 32 text → is_note text ≡ true → line_after ranks stopped line ≡ Ok (Note text)
unfolding line_after words
note-again ranks stopped line text e note =
    let same : line.text ≡ text = sym (join_with_byte-slice_split 32 line.text) ∙ ap (join_with_byte 32) e ∙ join_with_byte-slice_split 32 text in
    rw (same, note) refl

stops-again : (ranks : ℕ) (stopped : List ℕ) (line : Row) (which : Ranks) → ranks < 2 ^ 32 → words line ≡ line_words (Stops which) → RanksFit ranks stopped which → line_after ranks stopped line ≡ Ok (Stops which)
unfolding line_after stops_at
stops-again ranks stopped line which small e fits =
    let stops : MayName = record { ranks = ranks; stopped = stopped; again = Repeat } in
    let one : 1 ≤ 1 = omega arith in
    let other : is_note line.text ≡ false = line-not_note line (codes "stop") (ranks_words which) e refl in
    let stop : begins line (codes "stop") ≡ true = begins-is line (codes "stop") (codes "stop") (word-there line 1 (codes "stop") (ranks_words which) one e) in
    rw (other, stop, stopped-again stops line which small (past-word line 1 (codes "stop") (ranks_words which) one e) fits) refl

goes-again : (ranks : ℕ) (stopped : List ℕ) (line : Row) (which : Ranks) (course : Course) → ranks < 2 ^ 32 → words line ≡ line_words (Goes which course) → LineFits ranks stopped (Goes which course)
    → is_note line.text ≡ false → begins line (codes "stop") ≡ false → line_after ranks stopped line ≡ Ok (Goes which course)
unfolding line_after goes_at
goes-again ranks stopped line which course small e fits other no_stop =
    let goes : MayName = record { ranks = ranks; stopped = stopped; again = Order } in
    let again = going-again goes line which (course_words course) small e (course-stops course) fits.0 in
    rw (other, no_stop, again.read, course-again line again.next course again.one again.behind fits.1) refl

pub line-again : (ranks : ℕ) (stopped : List ℕ) (line : Row) (made : SketchLine) → ranks < 2 ^ 32 → words line ≡ line_words made → LineFits ranks stopped made → line_after ranks stopped line ≡ Ok made
line-again ranks stopped line (Note text) small e fits = note-again ranks stopped line text e fits.0
line-again ranks stopped line (Stops which) small e fits = stops-again ranks stopped line which small e fits
line-again ranks stopped line (Goes All course) small e fits =
    let one : 1 ≤ 1 = omega arith in
    goes-again ranks stopped line All course small e fits (line-not_note line (codes "all") (course_words course) e refl)
    (begins-is line (codes "all") (codes "stop") (word-there line 1 (codes "all") (course_words course) one e))
line-again ranks stopped line (Goes (These []) course) small e fits = absurd (omega (arith, fits.0.0))
line-again ranks stopped line (Goes (These (k ∷ more)) course) small e fits =
    let one : 1 ≤ 1 = omega arith in
    let below : k < ranks = fits.0.1.0 in
    let k_small : k < 2 ^ 64 = omega (arith, below, small) in
    goes-again ranks stopped line (These (k ∷ more)) course small e fits
    (line-not_note line (decimal k) (map decimal more ++ course_words course) e (decimal-not_note k k_small))
    (begins-is line (decimal k) (codes "stop") (word-there line 1 (decimal k) (map decimal more ++ course_words course) one e) ∙ decimal-no_word k (codes "stop") k_small (lit≤ tt))

-- ---- its words

ranks-plain : (ranks : ℕ) (list : List ℕ) → ranks < 2 ^ 32 → AllByRecursion (λ k. k < ranks) list → AllByRecursion (λ w. is_plain w ≡ true) (map decimal list)
ranks-plain ranks [] small all = tt
ranks-plain ranks (k ∷ list) small all = (plain-decimal k (omega (arith, small, all.0)), ranks-plain ranks list small all.1)

which-plain : (ranks : ℕ) (stopped : List ℕ) (which : Ranks) → ranks < 2 ^ 32 → RanksFit ranks stopped which → AllByRecursion (λ w. is_plain w ≡ true) (ranks_words which)
which-plain ranks stopped All small fits = (refl, tt)
which-plain ranks stopped (These list) small fits = ranks-plain ranks list small fits.1

which-some : (ranks : ℕ) (stopped : List ℕ) (which : Ranks) (more : List (List ℕ)) → RanksFit ranks stopped which → 0 < length (ranks_words which ++ more)
which-some ranks stopped All more fits = omega arith
which-some ranks stopped (These []) more fits = absurd (omega (arith, fits.0))
which-some ranks stopped (These (k ∷ list)) more fits = omega arith

pub line-plain : (ranks : ℕ) (stopped : List ℕ) (made : SketchLine) → ranks < 2 ^ 32 → LineFits ranks stopped made → IsPlain (line_words made)
line-plain ranks stopped (Note text) small fits = pieces-plain text fits.1
line-plain ranks stopped (Goes which course) small fits =
    (which-some ranks stopped which (course_words course) fits.0, AllByRecursion-append _ (ranks_words which) (course_words course) (which-plain ranks stopped which small fits.0) (course-plain course fits.1))
line-plain ranks stopped (Stops which) small fits = (omega arith, (refl, which-plain ranks stopped which small fits))

-- a line of a sketch is not the last line of its file
pub line-no_end : (ranks : ℕ) (stopped : List ℕ) (line : Row) (made : SketchLine) → ranks < 2 ^ 32 → words line ≡ line_words made → LineFits ranks stopped made → begins line (codes "end") ≡ false
line-no_end ranks stopped line (Note text) small e fits =
    let one : 1 ≤ 1 = omega arith in
    let p = first_piece 32 text in
    let first : p.0 ≡ first_word (pieces 32 text) = sym (ap first_word p.2) in
    begins-is line p.0 (codes "end") (word-there line 1 p.0 p.1 one (e ∙ p.2)) ∙ ap (λ (w : List ℕ). bytes_eq w (codes "end")) first ∙ note-word text fits.0
line-no_end ranks stopped line (Stops which) small e fits =
    let one : 1 ≤ 1 = omega arith in
    begins-is line (codes "stop") (codes "end") (word-there line 1 (codes "stop") (ranks_words which) one e)
line-no_end ranks stopped line (Goes All course) small e fits =
    let one : 1 ≤ 1 = omega arith in
    begins-is line (codes "all") (codes "end") (word-there line 1 (codes "all") (course_words course) one e)
line-no_end ranks stopped line (Goes (These []) course) small e fits = absurd (omega (arith, fits.0.0))
line-no_end ranks stopped line (Goes (These (k ∷ more)) course) small e fits =
    let one : 1 ≤ 1 = omega arith in
    let below : k < ranks = fits.0.1.0 in
    begins-is line (decimal k) (codes "end") (word-there line 1 (decimal k) (map decimal more ++ course_words course) one e) ∙ decimal-no_word k (codes "end") (omega (arith, below, small)) (lit≤ tt)
