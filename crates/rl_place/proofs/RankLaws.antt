-- The lines of the ranks: what is read is spelled so, and what is spelled so is read.
use Rattle.std.proofs.Common.{◌≡◌, ℕ, ◌+◌, ◌<◌, ◌≤◌, true, false, List, [], ◌∷◌, length, codes, decimal, Ok, inl, inr, refl, ap, subst, ◌∙◌, arith}
use Rattle.std.specs.List.{AllByRecursion}
use Rattle.rl_text.specs.declared.causes.Why.TheVariants.{Word}
use Rattle.rl_text.specs.Rows.{Row, Left, words}
use Rattle.rl_text.specs.Reading.{fixed_at, below_at, next_at, no_word_at, whole, begins, next_begins}
use Rattle.rl_text.proofs.FromLaws.{from_bind}
use Rattle.rl_text.proofs.WordLaws.{ok_is, chosen, begins-is, words-cons, words-nil, fixed-takes, fixed-again, below-takes, below-again, in_order-takes, in_order-again, no_word-takes, no_word-again, whole-takes, whole-again}
use Rattle.rl_text.proofs.SectionLaws.{Followed, Followed-head, left_of}
use Rattle.rl_place.specs.declared.limits.TheConstants.{MOST_RANKS}
use Rattle.rl_place.specs.declared.path.Path.{Path}
use Rattle.rl_place.specs.Paths.{IsPath, path_at, path_word}
use Rattle.rl_place.specs.Reading.{rank_at, ranks_from}
use Rattle.rl_place.specs.Spelling.{rank_words, rank_lines}
use Rattle.rl_place.proofs.PathLaws.{path-takes, path-again}
use Rattle.rl_place.proofs.SettingLaws.{ReadsTo}

-- ---- one line

pub record RankTaken (row : Row) (levels next : ℕ) (path : Path) : Type 0 where
  pub are : words row ≡ rank_words next path
  pub proper : IsPath levels path
  pub few : next < MOST_RANKS

pub rank-takes : (row : Row) (levels next : ℕ) (path : Path) → rank_at row levels next ≡ Ok path → RankTaken row levels next path
unfolding rank_at
rank-takes row levels next path e =
    from_bind (fixed_at row 1 (codes "rank") Word) _ path e (λ u named e1.
    from_bind (below_at row 2 MOST_RANKS) _ path e1 (λ k number e2.
    from_bind (next_at row 2 k next) _ path e2 (λ v in_order e3.
    from_bind (fixed_at row 3 (codes "at") Word) _ path e3 (λ w at_there e4.
    from_bind (path_at row 4 levels) _ path e4 (λ found is_path e5.
    from_bind (no_word_at row 5) _ path e5 (λ x alone e6.
    let rank = below-takes row 2 MOST_RANKS k number in
    let same : k ≡ next = in_order-takes row 2 k next v in_order in
    let taken = path-takes row 4 levels found is_path in
    let all : words row ≡ codes "rank" ∷ decimal k ∷ codes "at" ∷ path_word found ∷ [] = words-cons (words row) 0 _ _ (fixed-takes row 1 (codes "rank") Word u named)
    (words-cons (words row) 1 _ _ rank.0.word (words-cons (words row) 2 _ _ (fixed-takes row 3 (codes "at") Word w at_there)
    (words-cons (words row) 3 _ _ taken.word (words-nil (words row) 4 (no_word-takes row 5 x alone))))) in
    subst (λ (p : Path). RankTaken row levels next p) (ok_is found path e6) (record {
      are = all ∙ ap (λ (n : ℕ). codes "rank" ∷ decimal n ∷ codes "at" ∷ path_word found ∷ []) same;
      proper = taken.proper;
      few = omega (arith, rank.1, same);
    })))))))

pub rank-again : (row : Row) (levels next : ℕ) (path : Path) → 1 ≤ levels → IsPath levels path → next < MOST_RANKS → words row ≡ rank_words next path → rank_at row levels next ≡ Ok path
unfolding rank_at
rank-again row levels next path some proper few e =
    rw (
      fixed-again row 1 (codes "rank") Word (rw e refl),
      below-again row 2 MOST_RANKS next (record { word = rw e refl; fits = omega arith }) few,
      in_order-again row 2 next,
      fixed-again row 3 (codes "at") Word (rw e refl),
      path-again row 4 levels path some proper (rw e refl),
      no_word-again row 5 (rw e refl),
    ) refl

-- ---- the section

pub record RanksTaken (levels next : ℕ) (rows : List Row) (p : List Path × Left) : Type 0 where
  pub lines : Followed rows (rank_lines next p.0) p.1.rows
  pub proper : AllByRecursion (λ path. IsPath levels path) p.0
  pub some : 1 ≤ length p.0
  pub few : next + length p.0 ≤ MOST_RANKS

pub ranks-take : (levels next read : ℕ) (rows : List Row) (p : List Path × Left) → ranks_from levels next read rows ≡ Ok p → RanksTaken levels next rows p
unfolding ranks_from
ranks-take levels next read [] p e = absurd cc
ranks-take levels next read (row ∷ rows) p e =
    from_bind (whole row) _ p e (λ line there e1.
    from_bind (rank_at line levels next) _ p e1 (λ path is_rank e2.
    let w = whole-takes row line there in
    let t = rank-takes line levels next path is_rank in
    let words_are : words row ≡ rank_words next path = ap words w.0 ∙ t.are in
    elim (chosen (next_begins rows (codes "home")) _ _ _ e2) [
      | inl q ↦ subst (λ (r : List Path × Left). RanksTaken levels next (row ∷ rows) r) (ok_is (path ∷ [], left_of rows (read + 1)) p q.1) (record {
        lines = (record { ended = w.1; words = words_are }, refl);
        proper = (t.proper, tt);
        some = omega arith;
        few = omega (arith, t.few);
      })
      | inr q ↦ from_bind (ranks_from levels (next + 1) (read + 1) rows) _ p q.1 (λ others more e3.
          let m = ranks-take levels (next + 1) (read + 1) rows others more in
          subst (λ (r : List Path × Left). RanksTaken levels next (row ∷ rows) r) (ok_is (path ∷ others.0, others.1) p e3) (record {
            lines = (record { ended = w.1; words = words_are }, m.lines);
            proper = (t.proper, m.proper);
            some = omega (arith, m.some);
            few = omega (arith, m.few);
          }))
    ]))

-- a line of a rank doesn't begin with home
not_home : (row : Row) (next : ℕ) (path : Path) → words row ≡ rank_words next path → begins row (codes "home") ≡ false
not_home row next path e = begins-is row (codes "rank") (codes "home") (rw e refl)

pub ranks-again : (levels next read : ℕ) (rows : List Row) (paths : List Path) (rest : List Row) → 1 ≤ levels → AllByRecursion (λ path. IsPath levels path) paths → 1 ≤ length paths → next + length paths ≤ MOST_RANKS
    → next_begins rest (codes "home") ≡ true → Followed rows (rank_lines next paths) rest → ReadsTo (ranks_from levels next read rows) paths rest
unfolding ranks_from
ranks-again levels next read rows [] rest level proper some few home f = absurd (omega (arith, some))
ranks-again levels next read [] (path ∷ paths) rest level proper some few home f = absurd f
ranks-again levels next read (row ∷ rows) (path ∷ []) rest level proper some few home f =
    let good = rank-again row levels next path level proper.0 (omega (arith, few)) f.0.words in
    let last : next_begins rows (codes "home") ≡ true = ap (λ (rs : List Row). next_begins rs (codes "home")) f.1 ∙ home in
    (read + 1, rw (whole-again row f.0.ended, good, last) (ap (λ (rs : List Row). Ok (path ∷ [], left_of rs (read + 1))) f.1))
ranks-again levels next read (row ∷ rows) (path ∷ second ∷ paths) rest level proper some few home f =
    let good = rank-again row levels next path level proper.0 (omega (arith, few)) f.0.words in
    let h = Followed-head rows (rank_words (next + 1) second) (rank_lines (next + 1 + 1) paths) rest f.1 in
    let other : next_begins rows (codes "home") ≡ false = ap (λ (rs : List Row). next_begins rs (codes "home")) h.are ∙ not_home h.row (next + 1) second h.line.words in
    let more = ranks-again levels (next + 1) (read + 1) rows (second ∷ paths) rest level proper.1 (omega arith) (omega (arith, few)) home f.1 in
    (more.0, rw (whole-again row f.0.ended, good, other, more.1) refl)
