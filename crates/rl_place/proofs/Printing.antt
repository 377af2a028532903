-- What the loops of the printer have printed so far.
use Rattle.std.proofs.Common.{◌≡◌, ℕ, zero, suc, ◌+◌, ◌<◌, List, [], ◌∷◌, ◌++◌, length, take, get_or, map, codes, decimal, refl, sym, ap, ◌∙◌, append_assoc, add-one, arith}
use Rattle.std.specs.List.{join_with_byte}
use Rattle.std.proofs.lemmas.List.{append-nil}
use Rattle.rl_text.specs.Spelling.{line_text, text_of}
use Rattle.rl_place.specs.declared.path.Path.{Path}
use Rattle.rl_place.specs.Paths.{root_path}
use Rattle.rl_place.specs.Numbering.{node_paths}
use Rattle.rl_place.specs.Places.{ThePlace}
use Rattle.rl_place.specs.Spelling.{setting_words, budget_words, lock_lines, geom_lines, rank_words, rank_lines, home_words, home_lines, place_spelling}

-- ---- one word more

join-push : (w : List ℕ) (ws : List (List ℕ)) (v : List ℕ) → join_with_byte 32 (w ∷ ws ++ v ∷ []) ≡ join_with_byte 32 (w ∷ ws) ++ 32 ∷ v
join-push w [] v = refl
join-push w (u ∷ ws) v = ap (λ (rest : List ℕ). w ++ 32 ∷ rest) (join-push u ws v) ∙ sym (append_assoc w (32 ∷ join_with_byte 32 (u ∷ ws)) (32 ∷ v))

map-more : (budgets : List ℕ) (i d : ℕ) → i < length budgets → map decimal (take (suc i) budgets) ≡ map decimal (take i budgets) ++ decimal (get_or budgets i d) ∷ []
map-more [] i d h = absurd (omega arith)
map-more (budget ∷ budgets) zero d h = refl
map-more (budget ∷ budgets) (suc i) d h = ap (λ (ws : List (List ℕ)). decimal budget ∷ ws) (map-more budgets i d (omega arith))

pub budgets-more : (budgets : List ℕ) (i d : ℕ) → i < length budgets
    → join_with_byte 32 (budget_words (take (i + 1) budgets)) ≡ join_with_byte 32 (budget_words (take i budgets)) ++ 32 ∷ decimal (get_or budgets i d)
budgets-more budgets i d h = rw (add-one, map-more budgets i d h) (join-push (codes "budget") (map decimal (take i budgets)) (decimal (get_or budgets i d)))

-- ---- one line more

ranks-push : (next : ℕ) (paths : List Path) (i : ℕ) (d : Path) → i < length paths
    → text_of (rank_lines next (take (suc i) paths)) ≡ text_of (rank_lines next (take i paths)) ++ line_text (rank_words (next + i) (get_or paths i d))
ranks-push next [] i d h = absurd (omega arith)
ranks-push next (path ∷ paths) zero d h =
    let same : next + 0 ≡ next = omega arith in
    rw (same, append-nil (line_text (rank_words next path))) refl
ranks-push next (path ∷ paths) (suc i) d h =
    let same : next + suc i ≡ next + 1 + i = omega arith in
    rw (same, ranks-push (next + 1) paths i d (omega arith)) (sym (append_assoc (line_text (rank_words next path)) (text_of (rank_lines (next + 1) (take i paths))) (line_text (rank_words (next + 1 + i) (get_or paths i d)))))

pub ranks-more : (paths : List Path) (i : ℕ) (d : Path) → i < length paths
    → text_of (rank_lines 0 (take (i + 1) paths)) ≡ text_of (rank_lines 0 (take i paths)) ++ line_text (rank_words i (get_or paths i d))
ranks-more paths i d h =
    let same : 0 + i ≡ i = omega arith in
    rw add-one (ranks-push 0 paths i d h ∙ rw same refl)

homes-push : (nodes : List Path) (next : ℕ) (homes : List ℕ) (i d : ℕ) → i < length homes
    → text_of (home_lines nodes next (take (suc i) homes)) ≡ text_of (home_lines nodes next (take i homes)) ++ line_text (home_words (next + i) (get_or nodes (get_or homes i d) root_path))
homes-push nodes next [] i d h = absurd (omega arith)
homes-push nodes next (home ∷ homes) zero d h =
    let same : next + 0 ≡ next = omega arith in
    rw (same, append-nil (line_text (home_words next (get_or nodes home root_path)))) refl
homes-push nodes next (home ∷ homes) (suc i) d h =
    let same : next + suc i ≡ next + 1 + i = omega arith in
    rw (same, homes-push nodes (next + 1) homes i d (omega arith))
    (sym (append_assoc (line_text (home_words next (get_or nodes home root_path))) (text_of (home_lines nodes (next + 1) (take i homes))) (line_text (home_words (next + 1 + i) (get_or nodes (get_or homes i d) root_path)))))

pub homes-more : (nodes : List Path) (homes : List ℕ) (i d : ℕ) → i < length homes
    → text_of (home_lines nodes 0 (take (i + 1) homes)) ≡ text_of (home_lines nodes 0 (take i homes)) ++ line_text (home_words i (get_or nodes (get_or homes i d) root_path))
homes-more nodes homes i d h =
    let same : 0 + i ≡ i = omega arith in
    rw add-one (homes-push nodes 0 homes i d h ∙ rw same refl)

-- ---- the sections

text_of-append : (xs ys : List (List (List ℕ))) → text_of (xs ++ ys) ≡ text_of xs ++ text_of ys
text_of-append [] ys = refl
text_of-append (x ∷ xs) ys = ap (λ (more : List ℕ). line_text x ++ more) (text_of-append xs ys) ∙ sym (append_assoc (line_text x) (text_of xs) (text_of ys))

-- the spelling, as it is printed one section after the other
pub in_sections : (place : ThePlace) → place_spelling place
    ≡ (((((codes "rmalock-place 1\n" ++ line_text (setting_words (codes "levels") place.levels)) ++ text_of (lock_lines place.lock)) ++ text_of (geom_lines place.geom))
    ++ text_of (rank_lines 0 place.paths)) ++ text_of (home_lines (node_paths place.paths) 0 place.homes)) ++ codes "end\n"
in_sections place =
    let opening = codes "rmalock-place 1\n" in
    let levels = line_text (setting_words (codes "levels") place.levels) in
    let lock = lock_lines place.lock in
    let geom = geom_lines place.geom in
    let ranks = rank_lines 0 place.paths in
    let homes = home_lines (node_paths place.paths) 0 place.homes in
    let closing : List (List (List ℕ)) = (codes "end" ∷ []) ∷ [] in
    let last = text_of homes ++ codes "end\n" in
    let third = text_of ranks ++ last in
    let second = text_of geom ++ third in
    let first = text_of lock ++ second in
    let apart : text_of (lock ++ (geom ++ (ranks ++ (homes ++ closing)))) ≡ first =
    text_of-append lock (geom ++ (ranks ++ (homes ++ closing)))
    ∙ ap (λ (t : List ℕ). text_of lock ++ t) (text_of-append geom (ranks ++ (homes ++ closing))
    ∙ ap (λ (t : List ℕ). text_of geom ++ t) (text_of-append ranks (homes ++ closing)
    ∙ ap (λ (t : List ℕ). text_of ranks ++ t) (text_of-append homes closing))) in
    ap (λ (t : List ℕ). opening ++ (levels ++ t)) apart
    ∙ sym (append_assoc opening levels first)
    ∙ sym (append_assoc (opening ++ levels) (text_of lock) second)
    ∙ sym (append_assoc ((opening ++ levels) ++ text_of lock) (text_of geom) third)
    ∙ sym (append_assoc (((opening ++ levels) ++ text_of lock) ++ text_of geom) (text_of ranks) last)
    ∙ sym (append_assoc ((((opening ++ levels) ++ text_of lock) ++ text_of geom) ++ text_of ranks) (text_of homes) (codes "end\n"))

-- one piece more behind what was printed
pub one_more : (out a b piece now next : List ℕ) → now ≡ out ++ a → next ≡ now ++ piece → b ≡ a ++ piece → next ≡ out ++ b
one_more out a b piece now next so_far put e = put ∙ ap (λ (t : List ℕ). t ++ piece) so_far ∙ append_assoc out a piece ∙ ap (λ (t : List ℕ). out ++ t) (sym e)

-- two pieces more
pub two_more : (out a b p q now mid next : List ℕ) → now ≡ out ++ a → mid ≡ now ++ p → next ≡ mid ++ q → b ≡ a ++ (p ++ q) → next ≡ out ++ b
two_more out a b p q now mid next so_far first second e = one_more out a b (p ++ q) now next so_far (second ∙ ap (λ (t : List ℕ). t ++ q) first ∙ append_assoc now p q) e

-- what stood before all pieces stands before the whole
pulled : (start a b c d e f g : List ℕ) → ((((((start ++ a) ++ b) ++ c) ++ d) ++ e) ++ f) ++ g ≡ start ++ ((((((a ++ b) ++ c) ++ d) ++ e) ++ f) ++ g)
pulled start a b c d e f g = simp append_assoc

-- all sections, one after the other, behind what was there before
pub printed : (place : ThePlace) (start first levels lock geom ranks homes last : List ℕ)
    → first ≡ start ++ codes "rmalock-place 1\n" → levels ≡ first ++ line_text (setting_words (codes "levels") place.levels) → lock ≡ levels ++ text_of (lock_lines place.lock) → geom ≡ lock ++ text_of (geom_lines place.geom)
    → ranks ≡ geom ++ text_of (rank_lines 0 place.paths) → homes ≡ ranks ++ text_of (home_lines (node_paths place.paths) 0 place.homes) → last ≡ homes ++ codes "end\n" → last ≡ start ++ place_spelling place
printed place start first levels lock geom ranks homes last a b c d e f g =
    rw (g, f, e, d, c, b, a) (pulled start (codes "rmalock-place 1\n") (line_text (setting_words (codes "levels") place.levels)) (text_of (lock_lines place.lock)) (text_of (geom_lines place.geom)) (text_of (rank_lines 0 place.paths)) (text_of (home_lines (node_paths place.paths) 0 place.homes)) (codes "end\n")
    ∙ ap (λ (t : List ℕ). start ++ t) (sym (in_sections place)))
