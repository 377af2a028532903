-- The lines of the homes: what is read is spelled so, and what is spelled so is read.
use Rattle.std.proofs.Common.{◌≡◌, ℕ, zero, suc, ◌+◌, ◌^◌, ◌<◌, ◌≤◌, List, [], ◌∷◌, length, get_or, codes, Option, Some, None, Ok, refl, sym, ap, subst, ◌∙◌, arith}
use Rattle.std.specs.List.{AllByRecursion, position}
use Rattle.rl_text.specs.declared.causes.Why.TheVariants.{Word}
use Rattle.rl_text.specs.Rows.{Row, Left, words}
use Rattle.rl_text.specs.Reading.{fixed_at, below_at, next_at, no_word_at, next_left}
use Rattle.rl_text.proofs.FromLaws.{from_bind}
use Rattle.rl_text.proofs.WordLaws.{ok_is, words-cons, words-nil, fixed-takes, fixed-again, below-takes, below-again, in_order-takes, in_order-again, no_word-takes, no_word-again}
use Rattle.rl_text.proofs.SectionLaws.{Followed, Followed-head, line-takes, line-again, line_then, left_of}
use Rattle.rl_place.specs.declared.path.Path.{Path}
use Rattle.rl_place.specs.Paths.{IsPath, path_at, root_path}
use Rattle.rl_place.specs.Numbering.{same_path}
use Rattle.rl_place.specs.Reading.{home_at, homes_from, or_no_node}
use Rattle.rl_place.specs.Spelling.{home_words, home_lines}
use Rattle.rl_place.proofs.NodeLaws.{found_node, all-get_or}
use Rattle.rl_place.proofs.PathLaws.{path-takes, path-again}
use Rattle.rl_place.proofs.SettingLaws.{ReadsTo}

-- ---- one line

found : (row : Row) (o : Option ℕ) (node : ℕ) → or_no_node row o ≡ Ok node → o ≡ Some node
found row None node e = absurd cc
found row (Some k) node e = cc

pub record HomeTaken (row : Row) (nodes : List Path) (shards next node : ℕ) : Type 0 where
  pub are : words row ≡ home_words next (get_or nodes node root_path)
  pub few : next < shards
  pub there : node < length nodes

pub home-takes : (row : Row) (levels : ℕ) (nodes : List Path) (shards next node : ℕ) → home_at row levels nodes shards next ≡ Ok node → HomeTaken row nodes shards next node
unfolding home_at
home-takes row levels nodes shards next node e =
    from_bind (fixed_at row 1 (codes "home") Word) _ node e (λ u named e1.
    from_bind (below_at row 2 shards) _ node e1 (λ k number e2.
    from_bind (next_at row 2 k next) _ node e2 (λ v in_order e3.
    from_bind (path_at row 3 levels) _ node e3 (λ path is_path e4.
    from_bind (or_no_node row (position (same_path path) nodes)) _ node e4 (λ m is_node e5.
    from_bind (no_word_at row 4) _ node e5 (λ x alone e6.
    let shard = below-takes row 2 shards k number in
    let same : k ≡ next = in_order-takes row 2 k next v in_order in
    let taken = path-takes row 3 levels path is_path in
    let at_node = found_node nodes path m (found row (position (same_path path) nodes) m is_node) in
    let all : words row ≡ home_words k path = words-cons (words row) 0 _ _ (fixed-takes row 1 (codes "home") Word u named)
    (words-cons (words row) 1 _ _ shard.0.word (words-cons (words row) 2 _ _ taken.word (words-nil (words row) 3 (no_word-takes row 4 x alone)))) in
    subst (λ (n : ℕ). HomeTaken row nodes shards next n) (ok_is m node e6) (record {
      are = all ∙ ap (λ (n : ℕ). home_words n path) same ∙ ap (λ (p : Path). home_words next p) (sym at_node.1);
      few = omega (arith, shard.1, same);
      there = at_node.0;
    })))))))

-- nodes that are found at their own places
abbrev pub AreFound : List Path → Type 0
AreFound nodes = (node : ℕ) → node < length nodes → position (same_path (get_or nodes node root_path)) nodes ≡ Some node

pub home-again : (row : Row) (levels : ℕ) (nodes : List Path) (shards next node : ℕ) → 1 ≤ levels → shards < 2 ^ 32 → AllByRecursion (λ path. IsPath levels path) nodes → AreFound nodes
    → next < shards → node < length nodes → words row ≡ home_words next (get_or nodes node root_path) → home_at row levels nodes shards next ≡ Ok node
unfolding home_at
home-again row levels nodes shards next node some fits proper finds few there e =
    let path = get_or nodes node root_path in
    rw (
      fixed-again row 1 (codes "home") Word (rw e refl),
      below-again row 2 shards next (record { word = rw e refl; fits = omega arith }) few,
      in_order-again row 2 next,
      path-again row 3 levels path some (all-get_or (λ p. IsPath levels p) nodes node root_path proper there) (rw e refl),
      finds node there,
      no_word-again row 4 (rw e refl),
    ) refl

-- ---- the section

pub record HomesTaken (nodes : List Path) (next count : ℕ) (left : Left) (p : List ℕ × Left) : Type 0 where
  pub lines : Followed left.rows (home_lines nodes next p.0) p.1.rows
  pub each : length p.0 ≡ count
  pub there : AllByRecursion (λ home. home < length nodes) p.0

pub homes-take : (levels : ℕ) (nodes : List Path) (shards next count : ℕ) (left : Left) (p : List ℕ × Left) → homes_from levels nodes shards next count left ≡ Ok p → HomesTaken nodes next count left p
unfolding homes_from
homes-take levels nodes shards next zero left p e =
    subst (λ (q : List ℕ × Left). HomesTaken nodes next 0 left q) (ok_is ([], left) p e) (record { lines = refl; each = refl; there = tt })
homes-take levels nodes shards next (suc count) left p e =
    from_bind (next_left left) _ p e (λ line taken e1.
    from_bind (home_at line.0 levels nodes shards next) _ p e1 (λ node is_home e2.
    from_bind (homes_from levels nodes shards (next + 1) count line.1) _ p e2 (λ others more e3.
    let t = home-takes line.0 levels nodes shards next node is_home in
    let m = homes-take levels nodes shards (next + 1) count line.1 others more in
    subst (λ (q : List ℕ × Left). HomesTaken nodes next (suc count) left q) (ok_is (node ∷ others.0, others.1) p e3) (record {
      lines = line_then left line (home_words next (get_or nodes node root_path)) (home_lines nodes (next + 1) others.0) others.1.rows (line-takes left line taken) t.are m.lines;
      each = ap suc m.each;
      there = (t.there, m.there);
    }))))

pub homes-again : (levels : ℕ) (nodes : List Path) (shards next count : ℕ) (homes : List ℕ) (left : Left) (rest : List Row) → 1 ≤ levels → shards < 2 ^ 32 → AllByRecursion (λ path. IsPath levels path) nodes → AreFound nodes
    → length homes ≡ count → next + count ≤ shards → AllByRecursion (λ home. home < length nodes) homes → Followed left.rows (home_lines nodes next homes) rest → ReadsTo (homes_from levels nodes shards next count left) homes rest
unfolding homes_from
homes-again levels nodes shards next zero [] left rest some fits proper finds each most there f = (left.read, ap (λ (rows : List Row). Ok ([], left_of rows left.read)) f)
homes-again levels nodes shards next (suc count) [] left rest some fits proper finds each most there f = absurd (omega (arith, each))
homes-again levels nodes shards next zero (home ∷ homes) left rest some fits proper finds each most there f = absurd (omega (arith, each))
homes-again levels nodes shards next (suc count) (home ∷ homes) left rest some fits proper finds each most there f =
    let h = Followed-head left.rows (home_words next (get_or nodes home root_path)) (home_lines nodes (next + 1) homes) rest f in
    let good = home-again h.row levels nodes shards next home some fits proper finds (omega (arith, most)) there.0 h.line.words in
    let more = homes-again levels nodes shards (next + 1) count homes (left_of h.more (left.read + 1)) rest some fits proper finds (omega (arith, each)) (omega (arith, most)) there.1 h.others in
    (more.0, rw (line-again left h.row h.more h.are h.line.ended, good, more.1) refl)
