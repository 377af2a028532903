-- What the loops of the printer of shapes have printed so far, and its sections.
use Rattle.std.proofs.Common.{◌≡◌, ℕ, zero, suc, ◌+◌, ◌<◌, List, [], ◌∷◌, ◌++◌, ◌⊎◌, inl, inr, length, take, get_or, map, codes, refl, sym, ap, ◌∙◌, append_assoc, add-one, arith}
use Rattle.std.specs.List.{enumerate_from, zip}
use Rattle.std.proofs.lemmas.Grind.{flat_map-append}
use Rattle.std.proofs.lemmas.List.{append-nil}
use Rattle.rl_text.specs.Spelling.{line_text, text_of}
use Rattle.rl_word.specs.declared.shapes.Element.{Element}
use Rattle.rl_word.specs.Shapes.{TheShape}
use Rattle.rl_place.specs.declared.path.Path.{Path}
use Rattle.rl_place.specs.Numbering.{node_paths, element_paths}
use Rattle.rl_place.specs.Places.{ThePlace}
use Rattle.rl_place.specs.Shapes.{shape_of}
use Rattle.rl_place.specs.ShapeText.{size_words, node_lines, element_lines, shard_lines, shape_spelling}

-- ---- one line more

lines-push : {X : Type 0} (words : ℕ × X → List (List ℕ)) (from : ℕ) (xs : List X) (i : ℕ) (d : X) → i < length xs
    → text_of (map words (enumerate_from from (take (suc i) xs))) ≡ text_of (map words (enumerate_from from (take i xs))) ++ line_text (words (from + i, get_or xs i d))
lines-push words from [] i d h = absurd (omega arith)
lines-push words from (x ∷ xs) zero d h =
    let same : from + 0 ≡ from = omega arith in
    rw (same, append-nil (line_text (words (from, x)))) refl
lines-push words from (x ∷ xs) (suc i) d h =
    let same : from + suc i ≡ from + 1 + i = omega arith in
    rw (same, lines-push words (from + 1) xs i d (omega arith)) (sym (append_assoc (line_text (words (from, x))) (text_of (map words (enumerate_from (from + 1) (take i xs)))) (line_text (words (from + 1 + i, get_or xs i d)))))

pub lines-more : {X : Type 0} (words : ℕ × X → List (List ℕ)) (xs : List X) (i : ℕ) (d : X) → i < length xs
    → text_of (map words (enumerate_from 0 (take (i + 1) xs))) ≡ text_of (map words (enumerate_from 0 (take i xs))) ++ line_text (words (i, get_or xs i d))
lines-more words xs i d h =
    let same : 0 + i ≡ i = omega arith in
    rw add-one (lines-push words 0 xs i d h ∙ rw same refl)

-- a pair is left where something is left of both
pub zip-none : {X Y : Type 0} (xs : List X) (ys : List Y) → (length xs ≡ 0) ⊎ (length ys ≡ 0) → zip xs ys ≡ []
zip-none [] ys e = refl
zip-none (x ∷ xs) [] e = refl
zip-none (x ∷ xs) (y ∷ ys) (inl e) = absurd (omega (arith, e))
zip-none (x ∷ xs) (y ∷ ys) (inr e) = absurd (omega (arith, e))

-- ---- the sections

-- what stood before all pieces stands before the whole
pulled : (start a b c d e f : List ℕ) → (((((start ++ a) ++ b) ++ c) ++ d) ++ e) ++ f ≡ start ++ (((((a ++ b) ++ c) ++ d) ++ e) ++ f)
pulled start a b c d e f = simp append_assoc

-- the first line, the sizes and three sections, written one after the other behind what was there before, and the last line
sections : (start o1 o2 o3 o4 o5 o6 : List ℕ) (sizes : List (List ℕ)) (nodes elements shards : List (List (List ℕ))) → o1 ≡ start ++ codes "rmalock-shape 1\n" → o2 ≡ o1 ++ line_text sizes
    → o3 ≡ o2 ++ text_of nodes → o4 ≡ o3 ++ text_of elements → o5 ≡ o4 ++ text_of shards → o6 ≡ o5 ++ codes "end\n"
    → o6 ≡ start ++ text_of ((codes "rmalock-shape" ∷ codes "1" ∷ []) ∷ sizes ∷ (nodes ++ (elements ++ (shards ++ (codes "end" ∷ []) ∷ []))))
sections start o1 o2 o3 o4 o5 o6 sizes nodes elements shards e1 e2 e3 e4 e5 e6 =
    let last : List (List (List ℕ)) = (codes "end" ∷ []) ∷ [] in
    let apart : text_of (nodes ++ (elements ++ (shards ++ last))) ≡ text_of nodes ++ (text_of elements ++ (text_of shards ++ codes "end\n")) =
    flat_map-append line_text nodes (elements ++ (shards ++ last))
    ∙ ap (λ (t : List ℕ). text_of nodes ++ t) (flat_map-append line_text elements (shards ++ last)
    ∙ ap (λ (t : List ℕ). text_of elements ++ t) (flat_map-append line_text shards last)) in
    rw (e6, e5, e4, e3, e2, e1)
    (pulled start (codes "rmalock-shape 1\n") (line_text sizes) (text_of nodes) (text_of elements) (text_of shards) (codes "end\n")
    ∙ ap (λ (t : List ℕ). start ++ t) (append_assoc (((codes "rmalock-shape 1\n" ++ line_text sizes) ++ text_of nodes) ++ text_of elements) (text_of shards) (codes "end\n")
    ∙ append_assoc ((codes "rmalock-shape 1\n" ++ line_text sizes) ++ text_of nodes) (text_of elements) (text_of shards ++ codes "end\n")
    ∙ append_assoc (codes "rmalock-shape 1\n" ++ line_text sizes) (text_of nodes) (text_of elements ++ (text_of shards ++ codes "end\n"))
    ∙ append_assoc (codes "rmalock-shape 1\n") (line_text sizes) (text_of nodes ++ (text_of elements ++ (text_of shards ++ codes "end\n")))
    ∙ ap (λ (t : List ℕ). codes "rmalock-shape 1\n" ++ (line_text sizes ++ t)) (sym apart)))

-- the pieces of a shape's text, one after the other, behind what was there before
pub shape-printed : (place : ThePlace) (shape : TheShape) (paths : List Path) (elements : List Element) (homes start o1 o2 o3 o4 o5 o6 : List ℕ)
    → shape ≡ shape_of place → paths ≡ place.paths → elements ≡ shape.elements → homes ≡ place.homes
    → o1 ≡ start ++ codes "rmalock-shape 1\n" → o2 ≡ o1 ++ line_text (size_words (length shape.node_of) shape.nodes (length shape.elements)) → o3 ≡ o2 ++ text_of (node_lines (node_paths paths))
    → o4 ≡ o3 ++ text_of (element_lines (element_paths place.paths) elements) → o5 ≡ o4 ++ text_of (shard_lines homes) → o6 ≡ o5 ++ codes "end\n" → o6 ≡ start ++ shape_spelling place
shape-printed place shape paths elements homes start o1 o2 o3 o4 o5 o6 s p x h e1 e2 e3 e4 e5 e6 =
    let elements-are : elements ≡ (shape_of place).elements = x ∙ ap (λ (t : TheShape). t.elements) s in
    let sizes = size_words (length (shape_of place).node_of) (shape_of place).nodes (length (shape_of place).elements) in
    sections start o1 o2 o3 o4 o5 o6 sizes (node_lines (node_paths place.paths)) (element_lines (element_paths place.paths) (shape_of place).elements) (shard_lines place.homes) e1
    (e2 ∙ ap (λ (t : TheShape). o1 ++ line_text (size_words (length t.node_of) t.nodes (length t.elements))) s)
    (e3 ∙ ap (λ (ps : List Path). o2 ++ text_of (node_lines (node_paths ps))) p)
    (e4 ∙ ap (λ (es : List Element). o3 ++ text_of (element_lines (element_paths place.paths) es)) elements-are)
    (e5 ∙ ap (λ (hs : List ℕ). o4 ++ text_of (shard_lines hs)) h) e6
