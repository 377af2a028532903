-- A line of a name and a number: what is read is spelled so, and what is spelled so is read.
use Rattle.std.proofs.Common.{◌≡◌, ℕ, ◌+◌, ◌^◌, ◌<◌, ◌≤◌, List, [], ◌∷◌, codes, Result, Ok, refl, ap, subst, ◌∙◌, arith}
use Rattle.rl_text.specs.declared.causes.Refusal.{Refusal}
use Rattle.rl_text.specs.declared.causes.Why.TheVariants.{Word}
use Rattle.rl_text.specs.Rows.{Row, Left, words}
use Rattle.rl_text.specs.Reading.{fixed_at, between_at, no_word_at, next_left}
use Rattle.rl_text.proofs.FromLaws.{from_bind}
use Rattle.rl_text.proofs.WordLaws.{ok_is, words-cons, words-nil, fixed-takes, fixed-again, between-takes, between-again, no_word-takes, no_word-again}
use Rattle.rl_text.proofs.SectionLaws.{Followed, Followed-head, Followed-then, Followed-split, line-takes, line-again, one_line, left_of}
use Rattle.rl_model.specs.declared.geom.Geom.{Geom}
use Rattle.rl_model.specs.Geom.{GeomFits}
use Rattle.rl_place.specs.declared.limits.TheConstants.{MOST_BUCKETS, MOST_CELLS, MOST_SHARDS}
use Rattle.rl_place.specs.Reading.{setting_at, setting_next, geom_next}
use Rattle.rl_place.specs.Spelling.{setting_words, geom_lines}

-- ---- one line

pub record SettingTaken (row : Row) (name : List ℕ) (low high n : ℕ) : Type 0 where
  pub are : words row ≡ setting_words name n
  pub least : low ≤ n
  pub most : n ≤ high

pub setting-takes : (row : Row) (name : List ℕ) (low high n : ℕ) → setting_at row name low high ≡ Ok n → SettingTaken row name low high n
unfolding setting_at
setting-takes row name low high n e =
    from_bind (fixed_at row 1 name Word) _ n e (λ u named e1.
    from_bind (between_at row 2 low high) _ n e1 (λ k number e2.
    from_bind (no_word_at row 3) _ n e2 (λ v alone e3.
    let taken = between-takes row 2 low high k number in
    let all : words row ≡ setting_words name k = words-cons (words row) 0 _ _ (fixed-takes row 1 name Word u named) (words-cons (words row) 1 _ _ taken.0.word (words-nil (words row) 2 (no_word-takes row 3 v alone))) in
    subst (λ (m : ℕ). SettingTaken row name low high m) (ok_is k n e3) (record { are = all; least = taken.1; most = taken.2 }))))

pub setting-again : (row : Row) (name : List ℕ) (low high n : ℕ) → high < 2 ^ 32 → low ≤ n → n ≤ high → words row ≡ setting_words name n → setting_at row name low high ≡ Ok n
unfolding setting_at
setting-again row name low high n fits least most e =
    rw (
      fixed-again row 1 name Word (rw e refl),
      between-again row 2 low high n (record { word = rw e refl; fits = omega arith }) least most,
      no_word-again row 3 (rw e refl),
    ) refl

-- ---- the next line

pub record SettingSection (left : Left) (name : List ℕ) (low high : ℕ) (p : ℕ × Left) : Type 0 where
  pub lines : Followed left.rows (setting_words name p.0 ∷ []) p.1.rows
  pub least : low ≤ p.0
  pub most : p.0 ≤ high

pub setting_next-takes : (name : List ℕ) (low high : ℕ) (left : Left) (p : ℕ × Left) → setting_next name low high left ≡ Ok p → SettingSection left name low high p
unfolding setting_next
setting_next-takes name low high left p e =
    from_bind (next_left left) _ p e (λ line taken e1.
    from_bind (setting_at line.0 name low high) _ p e1 (λ n number e2.
    let t = setting-takes line.0 name low high n number in
    subst (λ (q : ℕ × Left). SettingSection left name low high q) (ok_is (n, line.1) p e2)
    (record { lines = one_line left line (setting_words name n) (line-takes left line taken) t.are; least = t.least; most = t.most })))

-- reading gives this value and leaves these rows
abbrev pub ReadsTo : {X : Type 0} → Result (X × Left) Refusal → X → List Row → Type 0
ReadsTo read x rest = (n : ℕ) × (read ≡ Ok (x, left_of rest n))

pub setting_next-again : (name : List ℕ) (low high : ℕ) (left : Left) (n : ℕ) (rest : List Row) → high < 2 ^ 32 → low ≤ n → n ≤ high
    → Followed left.rows (setting_words name n ∷ []) rest → ReadsTo (setting_next name low high left) n rest
unfolding setting_next
setting_next-again name low high left n rest fits least most f =
    let h = Followed-head left.rows (setting_words name n) [] rest f in
    let rows : left.rows ≡ h.row ∷ rest = h.are ∙ ap (λ (more : List Row). h.row ∷ more) h.others in
    (left.read + 1, rw (line-again left h.row rest rows h.line.ended, setting-again h.row name low high n fits least most h.line.words) refl)

-- ---- shards, buckets, overflow

pub record GeomSection (left : Left) (p : Geom × Left) : Type 0 where
  pub lines : Followed left.rows (geom_lines p.0) p.1.rows
  pub fits : GeomFits p.0

pub geom-takes : (left : Left) (p : Geom × Left) → geom_next left ≡ Ok p → GeomSection left p
unfolding geom_next
geom-takes left p e =
    from_bind (setting_next (codes "shards") 1 MOST_SHARDS left) _ p e (λ shards first e1.
    from_bind (setting_next (codes "buckets") 1 MOST_BUCKETS shards.1) _ p e1 (λ buckets second e2.
    from_bind (setting_next (codes "overflow") 0 MOST_CELLS buckets.1) _ p e2 (λ overflow third e3.
    let a = setting_next-takes (codes "shards") 1 MOST_SHARDS left shards first in
    let b = setting_next-takes (codes "buckets") 1 MOST_BUCKETS shards.1 buckets second in
    let c = setting_next-takes (codes "overflow") 0 MOST_CELLS buckets.1 overflow third in
    let geom : Geom = record { shards = shards.0; buckets = buckets.0; overflow = overflow.0 } in
    let last = setting_words (codes "overflow") overflow.0 ∷ [] in
    let others = setting_words (codes "buckets") buckets.0 ∷ last in
    let both : Followed shards.1.rows others overflow.1.rows = Followed-then shards.1.rows buckets.1.rows overflow.1.rows (setting_words (codes "buckets") buckets.0 ∷ []) (setting_words (codes "overflow") overflow.0 ∷ []) b.lines c.lines in
    subst (λ (q : Geom × Left). GeomSection left q) (ok_is (geom, overflow.1) p e3)
    (record {
      lines = Followed-then left.rows shards.1.rows overflow.1.rows (setting_words (codes "shards") shards.0 ∷ []) others a.lines both;
      fits = record { some_shards = a.least; shards = a.most; some_buckets = b.least; buckets = b.most; overflow = c.most };
    }))))

pub geom-again : (left : Left) (geom : Geom) (rest : List Row) → GeomFits geom → Followed left.rows (geom_lines geom) rest → ReadsTo (geom_next left) geom rest
unfolding geom_next
geom-again left geom rest fits f =
    let last = setting_words (codes "overflow") geom.overflow ∷ [] in
    let one = Followed-split left.rows rest (setting_words (codes "shards") geom.shards ∷ []) (setting_words (codes "buckets") geom.buckets ∷ last) f in
    let two = Followed-split one.0 rest (setting_words (codes "buckets") geom.buckets ∷ []) last one.2 in
    let a = setting_next-again (codes "shards") 1 MOST_SHARDS left geom.shards one.0 (omega arith) fits.some_shards fits.shards one.1 in
    let b = setting_next-again (codes "buckets") 1 MOST_BUCKETS (left_of one.0 a.0) geom.buckets two.0 (omega arith) fits.some_buckets fits.buckets two.1 in
    let c = setting_next-again (codes "overflow") 0 MOST_CELLS (left_of two.0 b.0) geom.overflow rest (omega arith) (omega arith) fits.overflow two.2 in
    (c.0, rw (a.1, b.1, c.1) refl)
