-- Lines that are appended one after the other.
use Rattle.std.proofs.Common.{◌≡◌, ℕ, ◌+◌, List, [], ◌∷◌, ◌++◌, length, Result, Ok, Err, codes, refl, sym, ap, ◌∙◌, append_assoc, arith}
use Rattle.std.specs.Prelude.{flat_map, map, OnOk}
use Rattle.std.specs.List.{range_with_len}
use Rattle.std.proofs.lemmas.Grind.{flat_map-append}
use Rattle.std.proofs.lemmas.List.FromFn.{map-range_with_len_more}
use Rattle.std.proofs.lemmas.List.{append-nil}
use Rattle.rl_text.specs.Spelling.{line_text, text_of}
use Rattle.rl_report.specs.Printing.{spaced}
use Rattle.rl_report.proofs.Lines.{join-spaced}
use Rattle.rl_place.specs.Places.{ThePlace}
use Rattle.rl_report.specs.Naming.{TheNaming, naming_of}
use Rattle.rl_machine.specs.Running.{Running}
use Rattle.rl_shown.specs.State.{lines_of_shard, card_lines, rank_lines, body_lines}
use Rattle.rl_shown.proofs.ListingLaws.{text-append}

-- ---- a line, word by word

pub line_begins : (out now w : List ℕ) → now ≡ out ++ w → now ≡ out ++ (w ++ spaced [])
line_begins out now w e = e ∙ ap (λ z. out ++ z) (sym (append-nil w))

pub line_words : (out before now w : List ℕ) (ws vs : List (List ℕ)) → before ≡ out ++ (w ++ spaced ws) → now ≡ before ++ spaced vs → now ≡ out ++ (w ++ spaced (ws ++ vs))
line_words out before now w ws vs was is =
    is ∙ ap (λ z. z ++ spaced vs) was ∙ append_assoc out (w ++ spaced ws) (spaced vs)
    ∙ ap (λ z. out ++ z) (append_assoc w (spaced ws) (spaced vs) ∙ ap (λ z. w ++ z) (sym (flat_map-append (λ w. 32 ∷ w) ws vs)))

pub line_word : (out before now w : List ℕ) (ws : List (List ℕ)) (v u : List ℕ) → before ≡ out ++ (w ++ spaced ws) → now ≡ before ++ 32 ∷ v → v ≡ u → now ≡ out ++ (w ++ spaced (ws ++ u ∷ []))
line_word out before now w ws v u was is same =
    line_words out before now w ws (u ∷ []) was (is ∙ ap (λ z. before ++ 32 ∷ z) (same ∙ sym (append-nil u)))

pub line_ends : (out before now w : List ℕ) (ws : List (List ℕ)) → before ≡ out ++ (w ++ spaced ws) → now ≡ before ++ 10 ∷ [] → now ≡ out ++ line_text (w ∷ ws)
line_ends out before now w ws was is =
    is ∙ ap (λ z. z ++ 10 ∷ []) was ∙ append_assoc out (w ++ spaced ws) (10 ∷ []) ∙ ap (λ z. out ++ (z ++ 10 ∷ [])) (sym (join-spaced w ws))

-- ---- lines

-- the lines of the numbers below one, and of that one
below_more : (f : ℕ → List (List (List ℕ))) (n : ℕ) → flat_map f (range_with_len 0 (n + 1)) ≡ flat_map f (range_with_len 0 n) ++ f n
below_more f n =
    let at : 0 + n ≡ n = omega arith in
    ap (flat_map f) (same (n + 1) ∙ map-range_with_len_more (λ k. k) 0 n n at ∙ ap (λ z. z ++ n ∷ []) (sym (same n)))
    ∙ flat_map-append f (range_with_len 0 n) (n ∷ []) ∙ ap (λ z. flat_map f (range_with_len 0 n) ++ z) (append-nil (f n)) where
      same_all : (xs : List ℕ) → xs ≡ map (λ k. k) xs
      same_all [] = refl
      same_all (x ∷ xs) = ap (λ z. x ∷ z) (same_all xs)

      same : (k : ℕ) → range_with_len 0 k ≡ map (λ k. k) (range_with_len 0 k)
      same k = same_all (range_with_len 0 k)

pub lines_more : (f : ℕ → List (List (List ℕ))) (before now next : List ℕ) (n : ℕ) → now ≡ before ++ text_of (flat_map f (range_with_len 0 n)) → next ≡ now ++ text_of (f n) → next ≡ before ++ text_of (flat_map f (range_with_len 0 (n + 1)))
lines_more f before now next n so_far is =
    is ∙ ap (λ z. z ++ text_of (f n)) so_far ∙ append_assoc before (text_of (flat_map f (range_with_len 0 n))) (text_of (f n))
    ∙ ap (λ z. before ++ z) (sym (text-append (flat_map f (range_with_len 0 n)) (f n))) ∙ ap (λ z. before ++ text_of z) (sym (below_more f n))

-- three parts of a text
pub three_parts : (before one two three : List ℕ) (xs ys zs : List (List (List ℕ))) → one ≡ before ++ text_of xs → two ≡ one ++ text_of ys → three ≡ two ++ text_of zs → three ≡ before ++ text_of (xs ++ (ys ++ zs))
three_parts before one two three xs ys zs a b c =
    c ∙ ap (λ z. z ++ text_of zs) (b ∙ ap (λ z. z ++ text_of ys) a)
    ∙ append_assoc (before ++ text_of xs) (text_of ys) (text_of zs) ∙ append_assoc before (text_of xs) (text_of ys ++ text_of zs)
    ∙ ap (λ z. before ++ (text_of xs ++ z)) (sym (text-append ys zs)) ∙ ap (λ z. before ++ z) (sym (text-append xs (ys ++ zs)))

-- first lines, a body and the end
pub closed : (head body : List (List (List ℕ))) (one two three : List ℕ) → one ≡ text_of head → two ≡ one ++ text_of body → three ≡ two ++ (codes "end" ++ 10 ∷ []) → three ≡ text_of (head ++ (body ++ (codes "end" ∷ []) ∷ []))
closed head body one two three a b c =
    c ∙ ap (λ z. z ++ (codes "end" ++ 10 ∷ [])) (b ∙ ap (λ z. z ++ text_of body) a) ∙ append_assoc (text_of head) (text_of body) (codes "end" ++ 10 ∷ [])
    ∙ ap (λ z. text_of head ++ z) (sym (text-append body ((codes "end" ∷ []) ∷ []))) ∙ sym (text-append head (body ++ (codes "end" ∷ []) ∷ []))

-- the words, the cards and the ranks of a machine
pub body_is : {V E : Type 0} (place : ThePlace) (m : Running V) (naming : TheNaming) (shards ranks : ℕ) (result : Result (Unit {0}) E) (before one two three : List ℕ) → naming ≡ naming_of place → shards ≡ length m.shards → ranks ≡ length m.calls →
    one ≡ before ++ text_of (flat_map (lines_of_shard place naming m) (range_with_len 0 shards)) → two ≡ one ++ text_of (flat_map (card_lines m) (range_with_len 0 ranks)) → OnOk result (three ≡ two ++ text_of (flat_map (rank_lines m) (range_with_len 0 ranks))) →
    OnOk result (three ≡ before ++ text_of (body_lines place (naming_of place) m))
body_is place m naming shards ranks (Err why) before one two three named all many a b c = tt
body_is place m naming shards ranks (Ok done) before one two three named all many a b c =
    three_parts before one two three
    (flat_map (lines_of_shard place (naming_of place) m) (range_with_len 0 (length m.shards))) (flat_map (card_lines m) (range_with_len 0 (length m.calls))) (flat_map (rank_lines m) (range_with_len 0 (length m.calls)))
    (a ∙ ap (λ n. before ++ text_of (flat_map (lines_of_shard place n m) (range_with_len 0 shards))) named ∙ ap (λ n. before ++ text_of (flat_map (lines_of_shard place (naming_of place) m) (range_with_len 0 n))) all)
    (b ∙ ap (λ n. one ++ text_of (flat_map (card_lines m) (range_with_len 0 n))) many)
    (c ∙ ap (λ n. two ++ text_of (flat_map (rank_lines m) (range_with_len 0 n))) many)
