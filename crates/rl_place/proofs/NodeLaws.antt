-- The numbers of nodes: each path has one number, and each number one path.
use Rattle.std.proofs.Common.{◌≡◌, ℕ, zero, suc, ◌+◌, ◌<◌, Bool, true, false, ◌||◌, ◌&&◌, cond, eqb, ltb, List, [], ◌∷◌, ◌++◌, length, get_or, fold, Some, refl, sym, ap, ◌∙◌, arith}
use Rattle.std.specs.List.{AllByRecursion, list_any, position, position_or_len}
use Rattle.std.specs.Str.{bytes_eq}
use Rattle.std.proofs.lemmas.Bool.{eqb-true, eq-eqb, ne_eqb, lt-ltb, ltb-true, ltb-false}
use Rattle.std.proofs.lemmas.List.{length-append}
use Rattle.std.proofs.lemmas.List.Folds.{position_or_len_push}
use Rattle.std.proofs.lemmas.List.Quantifiers.{position-Some}
use Rattle.std.proofs.lemmas.List.Sums.{position_or_len_is}
use Rattle.std.proofs.lemmas.Slice.Eq.{bytes_eq-Decides}
use Rattle.rl_text.proofs.TextLaws.{AllByRecursion-append}
use Rattle.rl_place.specs.declared.path.Path.{Path}
use Rattle.rl_place.specs.Paths.{root_path}
use Rattle.rl_place.specs.Numbering.{same_path, seen_after, node_paths}

-- ---- the same path

same_record : (m n : ℕ) (xs ys : List ℕ) → m ≡ n → xs ≡ ys → ◌≡◌ {A = Path} (record { len = m; parts = xs }) (record { len = n; parts = ys })
same_record m n xs ys e f = cc

same_parts : (a b : Path) → a.len ≡ b.len → a.parts ≡ b.parts → a ≡ b
same_parts a b e f = same_record a.len b.len a.parts b.parts e f

and_true : (a b : Bool) → (a && b) ≡ true → (a ≡ true) × (b ≡ true)
and_true true true e = (refl, refl)
and_true true false e = absurd cc
and_true false b e = absurd cc

pub same_path-is : (a b : Path) → same_path a b ≡ true → a ≡ b
same_path-is a b e =
    let p = and_true (eqb a.len b.len) (bytes_eq a.parts b.parts) e in
    same_parts a b (eqb-true a.len b.len p.0) ((bytes_eq-Decides a.parts b.parts).0 p.1)

pub same_path-same : (a : Path) → same_path a a ≡ true
same_path-same a =
    let parts : bytes_eq a.parts a.parts ≡ true = (bytes_eq-Decides a.parts a.parts).1 refl in
    rw (eq-eqb a.len a.len refl, parts) refl

-- ---- what each step of the numbering keeps

pub fold_keeps : {A B : Type 0} (P : B → Type 0) (Q : A → Type 0) (f : B → A → B) → ((b : B) (a : A) → P b → Q a → P (f b a)) → (b : B) (xs : List A) → P b → AllByRecursion Q xs → P (fold f b xs)
fold_keeps P Q f step b [] p q = p
fold_keeps P Q f step b (x ∷ xs) p q = fold_keeps P Q f step (f b x) xs (step b x p q.0) q.1

anything : {A : Type 0} (xs : List A) → AllByRecursion (λ x. Unit {0}) xs
anything [] = tt
anything (x ∷ xs) = (tt, anything xs)

-- each path that was seen is found at its own place
pub FindsItself : List Path → Type 0
FindsItself seen = (i : ℕ) → i < length seen → position_or_len (same_path (get_or seen i root_path)) seen ≡ i

none_passes : {X : Type 0} (test : X → Bool) (xs : List X) (k : ℕ) (d : X) → list_any test xs ≡ false → k < length xs → test (get_or xs k d) ≡ false
none_passes test [] k d e h = absurd (omega arith)
none_passes test (x ∷ xs) zero d e h = (neither (test x) (list_any test xs) e).0
  where
    neither : (a b : Bool) → (a || b) ≡ false → (a ≡ false) × (b ≡ false)
    neither true b e = absurd cc
    neither false b e = (refl, e)
none_passes test (x ∷ xs) (suc k) d e h = none_passes test xs k d (neither (test x) (list_any test xs) e).1 (omega arith)
  where
    neither : (a b : Bool) → (a || b) ≡ false → (a ≡ false) × (b ≡ false)
    neither true b e = absurd cc
    neither false b e = (refl, e)

not_there : {X : Type 0} (test : X → Bool) (xs : List X) (d : X) → list_any test xs ≡ false → position_or_len test xs ≡ length xs
not_there test xs d e = position_or_len_is test xs (length xs) d (omega arith) (λ k h. none_passes test xs k d e h) (λ h. absurd (omega (arith, h)))

pub get_or-front : {X : Type 0} (xs : List X) (y : X) (i : ℕ) (d : X) → i < length xs → get_or (xs ++ y ∷ []) i d ≡ get_or xs i d
get_or-front [] y i d h = absurd (omega arith)
get_or-front (x ∷ xs) y zero d h = refl
get_or-front (x ∷ xs) y (suc i) d h = get_or-front xs y i d (omega arith)

pub get_or-last : {X : Type 0} (xs : List X) (y : X) (d : X) → get_or (xs ++ y ∷ []) (length xs) d ≡ y
get_or-last [] y d = refl
get_or-last (x ∷ xs) y d = get_or-last xs y d

finds_itself-push : (seen : List Path) (path : Path) → list_any (same_path path) seen ≡ false → FindsItself seen → FindsItself (seen ++ path ∷ [])
unfolding FindsItself
finds_itself-push seen path fresh finds i h = by (ltb i (length seen)) refl
  where
    pushed : length (seen ++ path ∷ []) ≡ length seen + 1
    pushed = length-append seen (path ∷ [])

    by : (b : Bool) → ltb i (length seen) ≡ b → position_or_len (same_path (get_or (seen ++ path ∷ []) i root_path)) (seen ++ path ∷ []) ≡ i
    by true e =
        let before : i < length seen = ltb-true _ _ e in
        let old : position_or_len (same_path (get_or seen i root_path)) seen ≡ i = finds i before in
        ap (λ (p : Path). position_or_len (same_path p) (seen ++ path ∷ [])) (get_or-front seen path i root_path before)
        ∙ position_or_len_push (same_path (get_or seen i root_path)) seen path ∙ rw (old, ne_eqb i (length seen) (λ e. omega arith)) refl
    by false e =
        let last : i ≡ length seen = omega (arith, ltb-false _ _ e, pushed, h) in
        let new : position_or_len (same_path path) seen ≡ length seen = not_there (same_path path) seen root_path fresh in
        let there : get_or (seen ++ path ∷ []) i root_path ≡ path = ap (λ (k : ℕ). get_or (seen ++ path ∷ []) k root_path) last ∙ get_or-last seen path root_path in
        ap (λ (p : Path). position_or_len (same_path p) (seen ++ path ∷ [])) there
        ∙ position_or_len_push (same_path path) seen path ∙ rw (new, eq-eqb (length seen) (length seen) refl, same_path-same path) (omega (arith, last))

pub finds_itself-after : (seen : List Path) (path : Path) → FindsItself seen → FindsItself (seen_after seen path)
finds_itself-after seen path finds = by (list_any (same_path path) seen) refl
  where
    by : (b : Bool) → list_any (same_path path) seen ≡ b → FindsItself (cond b seen (seen ++ path ∷ []))
    by true e = finds
    by false e = finds_itself-push seen path e finds

nodes_find : (paths : List Path) → FindsItself (node_paths paths)
unfolding node_paths FindsItself
nodes_find paths = fold_keeps FindsItself (λ p. Unit {0}) seen_after (λ seen path finds any. finds_itself-after seen path finds) [] paths (λ i h. absurd (omega arith)) (anything paths)

-- the number of a node is its place
pub node_found : (paths : List Path) (node : ℕ) → node < length (node_paths paths) → position (same_path (get_or (node_paths paths) node root_path)) (node_paths paths) ≡ Some node
unfolding FindsItself
node_found paths node h = rw (nodes_find paths node h, lt-ltb node (length (node_paths paths)) h) refl

-- the path at the place that was found is the path that was looked for
pub found_node : (nodes : List Path) (path : Path) (node : ℕ) → position (same_path path) nodes ≡ Some node → (node < length nodes) × (get_or nodes node root_path ≡ path)
found_node nodes path node e =
    let p = position-Some (same_path path) nodes node root_path e in
    (p.0, sym (same_path-is path (get_or nodes node root_path) p.1))

-- ---- what is true of each path is true of each node

pub all-after : (Q : Path → Type 0) (seen : List Path) (path : Path) → AllByRecursion Q seen → Q path → AllByRecursion Q (seen_after seen path)
all-after Q seen path all one = by (list_any (same_path path) seen)
  where
    by : (b : Bool) → AllByRecursion Q (cond b seen (seen ++ path ∷ []))
    by true = all
    by false = AllByRecursion-append Q seen (path ∷ []) all (one, tt)

pub all_nodes : (Q : Path → Type 0) (paths : List Path) → AllByRecursion Q paths → AllByRecursion Q (node_paths paths)
unfolding node_paths
all_nodes Q paths all = fold_keeps (AllByRecursion Q) Q seen_after (λ seen path. all-after Q seen path) [] paths tt all

pub all-get_or : {X : Type 0} (Q : X → Type 0) (xs : List X) (i : ℕ) (d : X) → AllByRecursion Q xs → i < length xs → Q (get_or xs i d)
all-get_or Q [] i d all h = absurd (omega arith)
all-get_or Q (x ∷ xs) zero d all h = all.0
all-get_or Q (x ∷ xs) (suc i) d all h = all-get_or Q xs i d all.1 (omega arith)
