-- What is printed of a line is its words between single spaces.
use Rattle.std.proofs.Common.{◌≡◌, ℕ, List, [], ◌∷◌, ◌++◌, map, codes, decimal, refl, sym, ap, ◌∙◌, append_assoc}
use Rattle.std.specs.List.{flat_map, join_with_byte}
use Rattle.std.proofs.lemmas.List.{append-nil}
use Rattle.std.proofs.lemmas.List.Splits.{join_with_byte-slice_split}
use Rattle.rl_text.specs.Cut.{pieces}
use Rattle.rl_text.proofs.RowLemmas.{first_piece}
use Rattle.rl_sketch.specs.declared.sketch.Ranks.{Ranks}
use Rattle.rl_sketch.specs.declared.sketch.Sight.{Sight}
use Rattle.rl_sketch.specs.declared.sketch.Sight.TheVariants as sight
use Rattle.rl_sketch.specs.declared.sketch.Course.{Course}
use Rattle.rl_sketch.specs.declared.sketch.Course.TheVariants as course
use Rattle.rl_sketch.specs.Sketch.{ranks_words, sight_words, course_words}

-- ---- appending

-- two texts that are appended one after the other
pub both_put : (old first second both between new : List ℕ) → between ≡ old ++ first → new ≡ between ++ second → both ≡ first ++ second → new ≡ old ++ both
both_put old first second both between new a b are = b ∙ ap (λ (text : List ℕ). text ++ second) a ∙ append_assoc old first second ∙ ap (λ (text : List ℕ). old ++ text) (sym are)

-- ---- a word before others

-- there are words, and a word before them has a space behind it
pub record AreSome (words : List (List ℕ)) : Type 0 where
  pub first : List ℕ
  pub more : List (List ℕ)
  pub are : words ≡ first ∷ more

join-behind : (word : List ℕ) (words : List (List ℕ)) → AreSome words → join_with_byte 32 (word ∷ words) ≡ word ++ 32 ∷ join_with_byte 32 words
join-behind word words some = rw some.are refl

pieces-some : (text : List ℕ) → AreSome (pieces 32 text)
pieces-some text = let p = first_piece 32 text in record { first = p.0; more = p.1; are = p.2 }

sight-some : (seen : Sight) → AreSome (sight_words seen)
sight-some (sight.Words text) = pieces-some text
sight-some sight.Done = record { first = codes "done"; more = []; are = refl }
sight-some sight.Out = record { first = codes "out"; more = []; are = refl }

course-some : (what : Course) → AreSome (course_words what)
course-some (course.Steps count) = record { first = decimal count; more = []; are = refl }
course-some (course.Until seen) = record { first = codes "until"; more = sight_words seen; are = refl }
course-some (course.Before seen) = record { first = codes "before"; more = sight_words seen; are = refl }
course-some (course.InTurn count) = record { first = codes "in"; more = codes "turn" ∷ decimal count ∷ []; are = refl }
course-some (course.InTurnUntil seen) = record { first = codes "in"; more = codes "turn" ∷ codes "until" ∷ sight_words seen; are = refl }
course-some (course.AtRandom seed count) = record { first = codes "at"; more = codes "random" ∷ decimal seed ∷ decimal count ∷ []; are = refl }

-- ---- a sight

pub sight_behind : (word : List ℕ) (seen : Sight) → join_with_byte 32 (word ∷ sight_words seen) ≡ word ++ 32 ∷ join_with_byte 32 (sight_words seen)
sight_behind word seen = join-behind word (sight_words seen) (sight-some seen)

-- the words of a text, joined
pub text_joined : (text : List ℕ) → join_with_byte 32 (pieces 32 text) ≡ text
text_joined text = join_with_byte-slice_split 32 text

-- ---- ranks

-- words before others, with a space behind each
join-front : (words others : List (List ℕ)) → AreSome others → join_with_byte 32 (words ++ others) ≡ flat_map (λ word. word ++ codes " ") words ++ join_with_byte 32 others
join-front [] others some = refl
join-front (word ∷ words) others some =
    join-behind word (words ++ others) (front-some words) ∙ ap (λ (bytes : List ℕ). word ++ 32 ∷ bytes) (join-front words others some)
    ∙ sym (append_assoc word (codes " ") (flat_map (λ word. word ++ codes " ") words ++ join_with_byte 32 others))
    ∙ sym (append_assoc (word ++ codes " ") (flat_map (λ word. word ++ codes " ") words) (join_with_byte 32 others))
  where
    front-some : (words : List (List ℕ)) → AreSome (words ++ others)
    front-some [] = some
    front-some (word ∷ words) = record { first = word; more = words ++ others; are = refl }

-- words behind another, with a space before each
join-back : (word : List ℕ) (words : List (List ℕ)) → join_with_byte 32 (word ∷ words) ≡ word ++ flat_map (λ word. codes " " ++ word) words
join-back word [] = sym (append-nil word)
join-back word (next ∷ words) = ap (λ (bytes : List ℕ). word ++ 32 ∷ bytes) (join-back next words)

pub goes_joined : (ranks : Ranks) (what : Course) → join_with_byte 32 (ranks_words ranks ++ course_words what) ≡ flat_map (λ word. word ++ codes " ") (ranks_words ranks) ++ join_with_byte 32 (course_words what)
goes_joined ranks what = join-front (ranks_words ranks) (course_words what) (course-some what)

pub stops_joined : (ranks : Ranks) → join_with_byte 32 (codes "stop" ∷ ranks_words ranks) ≡ codes "stop" ++ flat_map (λ word. codes " " ++ word) (ranks_words ranks)
stops_joined ranks = join-back (codes "stop") (ranks_words ranks)

-- each rank of a list
pub each_before : (list : List ℕ) → flat_map (λ rank. [] ++ decimal rank ++ codes " ") list ≡ flat_map (λ word. word ++ codes " ") (map decimal list)
each_before [] = refl
each_before (rank ∷ list) = ap (λ (bytes : List ℕ). (decimal rank ++ codes " ") ++ bytes) (each_before list)

pub each_behind : (list : List ℕ) → flat_map (λ rank. codes " " ++ decimal rank ++ []) list ≡ flat_map (λ word. codes " " ++ word) (map decimal list)
each_behind [] = refl
each_behind (rank ∷ list) = rw (append-nil (decimal rank)) (ap (λ (bytes : List ℕ). (codes " " ++ decimal rank) ++ bytes) (each_behind list))
