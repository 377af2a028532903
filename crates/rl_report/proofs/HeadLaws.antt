-- Lines of a fixed form: what is read is spelled so, and what is spelled so is read.
use Rattle.std.proofs.Common.{◌≡◌, ℕ, ◌+◌, ◌^◌, ◌<◌, ◌≤◌, Bool, true, false, eqb, ltb, List, [], ◌∷◌, codes, decimal, Option, Some, None, Result, Ok, inl, inr, refl, sym, ap, subst, ◌∙◌, arith}
use Rattle.std.specs.Str.{bytes_eq}
use Rattle.std.proofs.lemmas.Bool.{eqb-true, eq-eqb, ne_eqb, ltb-false, le-ltb}
use Rattle.rl_text.specs.declared.causes.Refusal.{Refusal}
use Rattle.rl_text.specs.declared.causes.Why.TheVariants.{Word, Range, Repeat, Order, Version}
use Rattle.rl_text.specs.Rows.{Row, words, word_at}
use Rattle.rl_text.specs.Reading.{◌>>=◌, refusal_at, needed_at, fixed_at, number_at, below_at, between_at, no_word_at}
use Rattle.rl_text.proofs.FromLaws.{from_bind}
use Rattle.rl_text.proofs.TextLaws.{is_plain, IsPlain}
use Rattle.rl_text.proofs.WordLaws.{ok_is, chosen, needed-takes, needed-again, fixed-takes, fixed-again, number-takes, number-again, below-takes, below-again, between-takes, between-again, no_word-takes, no_word-again, plain-decimal}
use Rattle.rl_step.specs.declared.tallies.Steps.{Steps}
use Rattle.rl_step.specs.declared.tallies.Tally.{Tally}
use Rattle.rl_step.specs.Answers.{steps_made}
use Rattle.rl_report.specs.declared.report.Done.{Done}
use Rattle.rl_report.specs.declared.version.Version.{Version as TheVersion}
use Rattle.rl_report.specs.declared.version.Version.TheVariants.{First, Second}
use Rattle.rl_report.specs.Naming.{TheNaming, TheQueueName}
use Rattle.rl_report.specs.Reports.{TallyFits, IsBeyond, PairFits, DoneFits}
use Rattle.rl_report.specs.Spelling.{queue_words, pair_words, rank_done_words, steps_words, sizes_words}
use Rattle.rl_report.specs.Reading.{or_refused, version_named, version_at, mode_named, mode_at, sizes_at, counted_at, tally_in_row, rising_at, pair_at, shard_at, done_at, count_at, steps_at}
use Rattle.rl_report.proofs.WordsLaws.{test-takes, refused_ok, named, all_words}

-- ---- the first line

abbrev pub version_word : TheVersion → List ℕ
version_word First = codes "1"
version_word Second = codes "2"

abbrev pub first_words : TheVersion → List (List ℕ)
first_words version = codes "rmalock-report" ∷ version_word version ∷ []

pub version-takes : (row : Row) (version : TheVersion) → version_at row ≡ Ok version → words row ≡ first_words version
unfolding version_at
version-takes row version e =
    from_bind (fixed_at row 1 (codes "rmalock-report") Word) _ version e (λ u1 name e1.
    from_bind (needed_at row 2) _ version e1 (λ word there e2.
    from_bind (version_named row word) _ version e2 (λ found is e3.
    from_bind (no_word_at row 3) _ version e3 (λ u2 alone e4.
    let w : word_at row 2 ≡ Some word = needed-takes row 2 word there in
    let second : word_at row 2 ≡ Some (version_word found) = elim (chosen (bytes_eq word (codes "1")) _ _ (Ok found) is) [
      | inl p ↦ subst (λ (v : TheVersion). word_at row 2 ≡ Some (version_word v)) (ok_is First found p.1) (named row 2 word (codes "1") w p.0)
      | inr p ↦ elim (chosen (bytes_eq word (codes "2")) _ _ (Ok found) p.1) [
        | inl q ↦ subst (λ (v : TheVersion). word_at row 2 ≡ Some (version_word v)) (ok_is Second found q.1) (named row 2 word (codes "2") w q.0)
        | inr q ↦ absurd (refused_ok (refusal_at row 2 Version) found q.1)
      ]
    ] in
    all_words row 0 (first_words found) (fixed-takes row 1 (codes "rmalock-report") Word u1 name, (second, no_word-takes row 3 u2 alone)) ∙ ap first_words (ok_is found version e4)))))

pub version-again : (row : Row) (version : TheVersion) → words row ≡ first_words version → version_at row ≡ Ok version
unfolding version_at
version-again row First e = rw (fixed-again row 1 (codes "rmalock-report") Word (rw e refl), needed-again row 2 (codes "1") (rw e refl), no_word-again row 3 (rw e refl)) refl
version-again row Second e = rw (fixed-again row 1 (codes "rmalock-report") Word (rw e refl), needed-again row 2 (codes "2") (rw e refl), no_word-again row 3 (rw e refl)) refl

-- ---- mode and sizes

abbrev pub mode_of : Bool → List ℕ
mode_of true = codes "replay"
mode_of false = codes "run"

pub mode-takes : (naming : TheNaming) (row : Row) (replay : Bool) → mode_at naming row ≡ Ok replay → words row ≡ mode_of replay ∷ naming.lock ∷ []
unfolding mode_at
mode-takes naming row replay e =
    from_bind (needed_at row 1) _ replay e (λ word there e1.
    from_bind (mode_named row word) _ replay e1 (λ found is e2.
    from_bind (fixed_at row 2 naming.lock Word) _ replay e2 (λ u1 lock e3.
    from_bind (no_word_at row 3) _ replay e3 (λ u2 alone e4.
    let w : word_at row 1 ≡ Some word = needed-takes row 1 word there in
    let first : word_at row 1 ≡ Some (mode_of found) = elim (chosen (bytes_eq word (codes "replay")) _ _ (Ok found) is) [
      | inl p ↦ subst (λ (b : Bool). word_at row 1 ≡ Some (mode_of b)) (ok_is true found p.1) (named row 1 word (codes "replay") w p.0)
      | inr p ↦ elim (chosen (bytes_eq word (codes "run")) _ _ (Ok found) p.1) [
        | inl q ↦ subst (λ (b : Bool). word_at row 1 ≡ Some (mode_of b)) (ok_is false found q.1) (named row 1 word (codes "run") w q.0)
        | inr q ↦ absurd (refused_ok (refusal_at row 1 Word) found q.1)
      ]
    ] in
    all_words row 0 (mode_of found ∷ naming.lock ∷ []) (first, (fixed-takes row 2 naming.lock Word u1 lock, no_word-takes row 3 u2 alone)) ∙ ap (λ b. mode_of b ∷ naming.lock ∷ []) (ok_is found replay e4)))))

pub mode-again : (naming : TheNaming) (row : Row) (replay : Bool) → words row ≡ mode_of replay ∷ naming.lock ∷ [] → mode_at naming row ≡ Ok replay
unfolding mode_at
mode-again naming row true e = rw (needed-again row 1 (codes "replay") (rw e refl), fixed-again row 2 naming.lock Word (rw e refl), no_word-again row 3 (rw e refl)) refl
mode-again naming row false e = rw (needed-again row 1 (codes "run") (rw e refl), fixed-again row 2 naming.lock Word (rw e refl), no_word-again row 3 (rw e refl)) refl

pub sizes-takes : (naming : TheNaming) (row : Row) (u : Unit {0}) → sizes_at naming row ≡ Ok u → words row ≡ sizes_words naming
unfolding sizes_at
sizes-takes naming row u e =
    from_bind (fixed_at row 1 (codes "ranks") Word) _ u e (λ u1 ranks_named e1.
    from_bind (between_at row 2 naming.ranks naming.ranks) _ u e1 (λ r ranks e2.
    from_bind (fixed_at row 3 (codes "shards") Word) _ u e2 (λ u2 shards_named e3.
    from_bind (between_at row 4 naming.shards naming.shards) _ u e3 (λ s shards e4.
    let a = between-takes row 2 naming.ranks naming.ranks r ranks in
    let b = between-takes row 4 naming.shards naming.shards s shards in
    let same_ranks : r ≡ naming.ranks = omega (arith, a.1, a.2) in
    let same_shards : s ≡ naming.shards = omega (arith, b.1, b.2) in
    all_words row 0 (sizes_words naming) (
      fixed-takes row 1 (codes "ranks") Word u1 ranks_named,
      (
        a.0.word ∙ ap (λ n. Some (decimal n)) same_ranks,
        (fixed-takes row 3 (codes "shards") Word u2 shards_named, (b.0.word ∙ ap (λ n. Some (decimal n)) same_shards, no_word-takes row 5 u e4)),
      ),
    )))))

pub sizes-again : (naming : TheNaming) (row : Row) → naming.ranks < 2 ^ 32 → naming.shards < 2 ^ 32 → words row ≡ sizes_words naming → sizes_at naming row ≡ Ok tt
unfolding sizes_at
sizes-again naming row ranks shards e =
    rw (
      fixed-again row 1 (codes "ranks") Word (rw e refl),
      between-again row 2 naming.ranks naming.ranks naming.ranks (record { word = rw e refl; fits = omega arith }) (omega arith) (omega arith),
      fixed-again row 3 (codes "shards") Word (rw e refl),
      between-again row 4 naming.shards naming.shards naming.shards (record { word = rw e refl; fits = omega arith }) (omega arith) (omega arith),
    ) (no_word-again row 5 (rw e refl))

-- ---- numbers that count on

pub counted-takes : (row : Row) (n next : ℕ) (u : Unit {0}) → counted_at row n next ≡ Ok u → word_at row n ≡ Some (decimal next)
unfolding counted_at
counted-takes row n next u e =
    from_bind (number_at row n) _ u e (λ k read e1.
    let t = number-takes row n k read in
    let same : k ≡ next = eqb-true k next (test-takes (eqb k next) (refusal_at row n Order) u e1) in
    t.word ∙ ap (λ m. Some (decimal m)) same)

pub counted-again : (row : Row) (n next : ℕ) → next < 2 ^ 64 → word_at row n ≡ Some (decimal next) → counted_at row n next ≡ Ok tt
unfolding counted_at
counted-again row n next fits e = rw (number-again row n next (record { word = e; fits = fits }), eq-eqb next next refl) refl

-- ---- queues and pairs

pub record TallyTaken (queue : TheQueueName) (row : Row) (t : Tally) : Type 0 where
  pub are : words row ≡ queue_words queue t
  pub fits : TallyFits t

pub tally-takes : (queue : TheQueueName) (row : Row) (t : Tally) → tally_in_row queue row ≡ Ok t → TallyTaken queue row t
unfolding tally_in_row
tally-takes queue row t e =
    from_bind (fixed_at row 1 (codes "queue") Word) _ t e (λ u1 w1 e1.
    from_bind (fixed_at row 2 queue.word Word) _ t e1 (λ u2 w2 e2.
    from_bind (fixed_at row 3 (codes "settled") Word) _ t e2 (λ u3 w3 e3.
    from_bind (number_at row 4) _ t e3 (λ settled w4 e4.
    from_bind (fixed_at row 5 (codes "passed") Word) _ t e4 (λ u5 w5 e5.
    from_bind (number_at row 6) _ t e5 (λ passed w6 e6.
    from_bind (no_word_at row 7) _ t e6 (λ u7 w7 e7.
    let a = number-takes row 4 settled w4 in
    let b = number-takes row 6 passed w6 in
    let made : Tally = record { settled = settled; passed = passed } in
    subst (λ (x : Tally). TallyTaken queue row x) (ok_is made t e7) (record {
      are = all_words row 0 (queue_words queue made) (
        fixed-takes row 1 (codes "queue") Word u1 w1,
        (
          fixed-takes row 2 queue.word Word u2 w2,
          (
            fixed-takes row 3 (codes "settled") Word u3 w3,
            (a.word, (fixed-takes row 5 (codes "passed") Word u5 w5, (b.word, no_word-takes row 7 u7 w7))),
          ),
        ),
      );
      fits = (a.fits, b.fits);
    }))))))))

pub tally-again : (queue : TheQueueName) (row : Row) (t : Tally) → TallyFits t → words row ≡ queue_words queue t → tally_in_row queue row ≡ Ok t
unfolding tally_in_row
tally-again queue row t fits e =
    rw (
      fixed-again row 1 (codes "queue") Word (rw e refl),
      fixed-again row 2 queue.word Word (rw e refl),
      fixed-again row 3 (codes "settled") Word (rw e refl),
      number-again row 4 t.settled (record { word = rw e refl; fits = fits.0 }),
      fixed-again row 5 (codes "passed") Word (rw e refl),
      number-again row 6 t.passed (record { word = rw e refl; fits = fits.1 }),
      no_word-again row 7 (rw e refl),
    ) refl

pub tally-plain : (queue : TheQueueName) (t : Tally) → is_plain queue.word ≡ true → TallyFits t → IsPlain (queue_words queue t)
tally-plain queue t plain fits = (omega arith, (refl, (plain, (refl, (plain-decimal t.settled fits.0, (refl, (plain-decimal t.passed fits.1, tt)))))))

rising-takes : (row : Row) (last : Option ℕ) (key : ℕ) (u : Unit {0}) → rising_at row last key ≡ Ok u → IsBeyond last key
rising-takes row None key u e = tt
rising-takes row (Some last) key u e = elim (chosen (eqb key last) _ _ (Ok u) e) [
  | inl p ↦ absurd (refused_ok (refusal_at row 2 Repeat) u p.1)
  | inr p ↦ elim (chosen (ltb key last) _ _ (Ok u) p.1) [
    | inl q ↦ absurd (refused_ok (refusal_at row 2 Order) u q.1)
    | inr q ↦ let other : key ≡ last → ⊥ = λ same. differ (eqb key last) p.0 (eq-eqb key last same) in beyond key last (ltb-false key last q.0) other
  ]
]
  where
    differ : (b : Bool) → b ≡ false → b ≡ true → ⊥
    differ b f t = absurd (cc)

    beyond : (a b : ℕ) → b ≤ a → (a ≡ b → ⊥) → b < a
    beyond a b low ne = omega arith

rising-again : (row : Row) (last : Option ℕ) (key : ℕ) → IsBeyond last key → rising_at row last key ≡ Ok tt
rising-again row None key beyond = refl
rising-again row (Some last) key beyond = rw (ne_eqb key last (λ e. absurd (omega arith)), le-ltb key last (omega arith)) refl

pub pair-takes : (last : Option ℕ) (row : Row) (p : ℕ × ℕ) → pair_at last row ≡ Ok p → (words row ≡ pair_words p) × PairFits last p
unfolding pair_at
pair-takes last row p e =
    from_bind (fixed_at row 1 (codes "pair") Word) _ p e (λ u1 w1 e1.
    from_bind (number_at row 2) _ p e1 (λ key w2 e2.
    from_bind (rising_at row last key) _ p e2 (λ u2 rises e3.
    from_bind (number_at row 3) _ p e3 (λ value w3 e4.
    from_bind (no_word_at row 4) _ p e4 (λ u4 w4 e5.
    let a = number-takes row 2 key w2 in
    let b = number-takes row 3 value w3 in
    subst (λ (x : ℕ × ℕ). (words row ≡ pair_words x) × PairFits last x) (ok_is (key, value) p e5)
    (all_words row 0 (pair_words (key, value)) (fixed-takes row 1 (codes "pair") Word u1 w1, (a.word, (b.word, no_word-takes row 4 u4 w4))), (rising-takes row last key u2 rises, a.fits, b.fits)))))))

pub pair-again : (last : Option ℕ) (row : Row) (p : ℕ × ℕ) → words row ≡ pair_words p → PairFits last p → pair_at last row ≡ Ok p
unfolding pair_at
pair-again last row p e fits =
    rw (
      fixed-again row 1 (codes "pair") Word (rw e refl),
      number-again row 2 p.0 (record { word = rw e refl; fits = fits.1 }),
      rising-again row last p.0 fits.0,
      number-again row 3 p.1 (record { word = rw e refl; fits = fits.2 }),
      no_word-again row 4 (rw e refl),
    ) refl

pub pair-plain : (last : Option ℕ) (p : ℕ × ℕ) → PairFits last p → IsPlain (pair_words p)
pair-plain last p fits = (omega arith, (refl, (plain-decimal p.0 fits.1, (plain-decimal p.1 fits.2, tt))))

-- ---- shards and ranks

-- the words of a line with a number and two counts
abbrev counts_line : ℕ → List ℕ → List ℕ → List ℕ → ℕ → ℕ → List (List ℕ)
counts_line number name one two a b = name ∷ decimal number ∷ one ∷ decimal a ∷ two ∷ decimal b ∷ []

-- and how it is read: each count is at most 20,000
unfoldable counts_at : {X : Type 0} → Row → ℕ → List ℕ → List ℕ → List ℕ → (ℕ → ℕ → X) → Result X Refusal
counts_at row number name one two made = do
  named ← fixed_at row 1 name Word
  in_order ← counted_at row 2 number
  one_named ← fixed_at row 3 one Word
  a ← below_at row 4 20001
  two_named ← fixed_at row 5 two Word
  b ← below_at row 6 20001
  alone ← no_word_at row 7
  Ok (made a b)

record CountsTaken {X : Type 0} (row : Row) (number : ℕ) (name one two : List ℕ) (made : ℕ → ℕ → X) (x : X) : Type 0 where
  pub a : ℕ
  pub b : ℕ
  pub is : made a b ≡ x
  pub are : words row ≡ counts_line number name one two a b
  pub few : a ≤ 20000
  pub few_more : b ≤ 20000

counts-takes : {X : Type 0} (row : Row) (number : ℕ) (name one two : List ℕ) (made : ℕ → ℕ → X) (x : X) → counts_at row number name one two made ≡ Ok x → CountsTaken row number name one two made x
unfolding counts_at
counts-takes row number name one two made x e =
    from_bind (fixed_at row 1 name Word) _ x e (λ u1 w1 e1.
    from_bind (counted_at row 2 number) _ x e1 (λ u2 w2 e2.
    from_bind (fixed_at row 3 one Word) _ x e2 (λ u3 w3 e3.
    from_bind (below_at row 4 20001) _ x e3 (λ a w4 e4.
    from_bind (fixed_at row 5 two Word) _ x e4 (λ u5 w5 e5.
    from_bind (below_at row 6 20001) _ x e5 (λ b w6 e6.
    from_bind (no_word_at row 7) _ x e6 (λ u7 w7 e7.
    let s = below-takes row 4 20001 a w4 in
    let t = below-takes row 6 20001 b w6 in
    record {
      a = a;
      b = b;
      is = ok_is (made a b) x e7;
      are = all_words row 0 (counts_line number name one two a b) (
        fixed-takes row 1 name Word u1 w1,
        (
          counted-takes row 2 number u2 w2,
          (fixed-takes row 3 one Word u3 w3, (s.0.word, (fixed-takes row 5 two Word u5 w5, (t.0.word, no_word-takes row 7 u7 w7)))),
        ),
      );
      few = omega (arith, s.1);
      few_more = omega (arith, t.1);
    })))))))

counts-again : {X : Type 0} (row : Row) (number : ℕ) (name one two : List ℕ) (made : ℕ → ℕ → X) (a b : ℕ) → number < 2 ^ 32 → a ≤ 20000 → b ≤ 20000 → words row ≡ counts_line number name one two a b
    → counts_at row number name one two made ≡ Ok (made a b)
unfolding counts_at
counts-again row number name one two made a b fits few few_more e =
    rw (
      fixed-again row 1 name Word (rw e refl),
      counted-again row 2 number (omega arith) (rw e refl),
      fixed-again row 3 one Word (rw e refl),
      below-again row 4 20001 a (record { word = rw e refl; fits = omega arith }) (omega arith),
      fixed-again row 5 two Word (rw e refl),
      below-again row 6 20001 b (record { word = rw e refl; fits = omega arith }) (omega arith),
      no_word-again row 7 (rw e refl),
    ) refl

abbrev pub shard_line : ℕ → ℕ → ℕ → List (List ℕ)
shard_line number updates entries = counts_line number (codes "shard") (codes "updates") (codes "entries") updates entries

pub record ShardTaken (number : ℕ) (row : Row) (x : ℕ × ℕ) : Type 0 where
  pub are : words row ≡ shard_line number x.0 x.1
  pub updates : x.0 ≤ 20000
  pub entries : x.1 ≤ 20000

pub shard-takes : (number : ℕ) (row : Row) (x : ℕ × ℕ) → shard_at number row ≡ Ok x → ShardTaken number row x
unfolding shard_at counts_at
shard-takes number row x e =
    let t = counts-takes row number (codes "shard") (codes "updates") (codes "entries") (λ a b. (a, b)) x e in
    subst (λ (y : ℕ × ℕ). ShardTaken number row y) t.is (record { are = t.are; updates = t.few; entries = t.few_more })

pub shard-again : (number : ℕ) (row : Row) (updates entries : ℕ) → number < 2 ^ 32 → updates ≤ 20000 → entries ≤ 20000 → words row ≡ shard_line number updates entries → shard_at number row ≡ Ok (updates, entries)
unfolding shard_at counts_at
shard-again number row updates entries fits few_updates few_entries e =
    counts-again row number (codes "shard") (codes "updates") (codes "entries") (λ a b. (a, b)) updates entries fits few_updates few_entries e

pub shard-plain : (number updates entries : ℕ) → number < 2 ^ 32 → updates ≤ 20000 → entries ≤ 20000 → IsPlain (shard_line number updates entries)
shard-plain number updates entries fits few_updates few_entries =
    (omega arith, (refl, (plain-decimal number (omega arith), (refl, (plain-decimal updates (omega arith), (refl, (plain-decimal entries (omega arith), tt)))))))

pub record DoneTaken (rank : ℕ) (row : Row) (d : Done) : Type 0 where
  pub are : words row ≡ rank_done_words rank d
  pub fits : DoneFits d

-- how many calls are done, of how many
abbrev done_of : ℕ → ℕ → Done
done_of done given = record { done = done; given = given }

pub done-takes : (rank : ℕ) (row : Row) (d : Done) → done_at rank row ≡ Ok d → DoneTaken rank row d
unfolding done_at counts_at
done-takes rank row d e =
    let t = counts-takes row rank (codes "rank") (codes "done") (codes "of") done_of d e in
    subst (λ (y : Done). DoneTaken rank row y) t.is (record { are = t.are; fits = (t.few, t.few_more) })

pub done-again : (rank : ℕ) (row : Row) (d : Done) → rank < 2 ^ 32 → DoneFits d → words row ≡ rank_done_words rank d → done_at rank row ≡ Ok d
unfolding done_at counts_at
done-again rank row d fits few e = counts-again row rank (codes "rank") (codes "done") (codes "of") done_of d.done d.given fits few.0 few.1 e

pub done-plain : (rank : ℕ) (d : Done) → rank < 2 ^ 32 → DoneFits d → IsPlain (rank_done_words rank d)
done-plain rank d fits few = (omega arith, (refl, (plain-decimal rank (omega arith), (refl, (plain-decimal d.done (omega (arith, few.0)), (refl, (plain-decimal d.given (omega (arith, few.1)), tt)))))))

-- ---- steps

pub record CountTaken (row : Row) (n : ℕ) (name : List ℕ) (k : ℕ) : Type 0 where
  pub name_there : word_at row n ≡ Some name
  pub number : word_at row (n + 1) ≡ Some (decimal k)
  pub few : k ≤ 2000000

count-takes : (row : Row) (n : ℕ) (name : List ℕ) (k : ℕ) → count_at row n name ≡ Ok k → CountTaken row n name k
unfolding count_at
count-takes row n name k e =
    from_bind (fixed_at row n name Word) _ k e (λ u w e1.
    let b = below-takes row (n + 1) 2000001 k e1 in
    record { name_there = fixed-takes row n name Word u w; number = b.0.word; few = omega (arith, b.1) })

count-again : (row : Row) (n : ℕ) (name : List ℕ) (k : ℕ) → word_at row n ≡ Some name → word_at row (n + 1) ≡ Some (decimal k) → k ≤ 2000000 → count_at row n name ≡ Ok k
unfolding count_at
count-again row n name k first second few = rw (fixed-again row n name Word first) (below-again row (n + 1) 2000001 k (record { word = second; fits = omega arith }) (omega arith))

pub record StepsTaken (row : Row) (s : Steps) : Type 0 where
  pub are : words row ≡ steps_words s
  pub few : steps_made s ≤ 2000000

pub steps-takes : (row : Row) (s : Steps) → steps_at row ≡ Ok s → StepsTaken row s
unfolding steps_at
steps-takes row s e =
    from_bind (count_at row 1 (codes "steps")) _ s e (λ all w1 e1.
    from_bind (count_at row 3 (codes "moved")) _ s e1 (λ moved w2 e2.
    from_bind (count_at row 5 (codes "waiting")) _ s e2 (λ waiting w3 e3.
    from_bind (count_at row 7 (codes "lost")) _ s e3 (λ lost w4 e4.
    from_bind (count_at row 9 (codes "busy")) _ s e4 (λ busy w5 e5.
    from_bind (count_at row 11 (codes "finished")) _ s e5 (λ finished w6 e6.
    from_bind (or_refused (eqb (moved + waiting + lost + busy + finished) all) (refusal_at row 2 Range)) _ s e6 (λ u7 sum e7.
    from_bind (no_word_at row 13) _ s e7 (λ u8 alone e8.
    let c1 = count-takes row 1 (codes "steps") all w1 in
    let c2 = count-takes row 3 (codes "moved") moved w2 in
    let c3 = count-takes row 5 (codes "waiting") waiting w3 in
    let c4 = count-takes row 7 (codes "lost") lost w4 in
    let c5 = count-takes row 9 (codes "busy") busy w5 in
    let c6 = count-takes row 11 (codes "finished") finished w6 in
    let made : Steps = record { moved = moved; waiting = waiting; lost = lost; busy = busy; finished = finished } in
    let same : steps_made made ≡ all = eqb-true _ all (test-takes (eqb (moved + waiting + lost + busy + finished) all) (refusal_at row 2 Range) u7 sum) in
    subst (λ (y : Steps). StepsTaken row y) (ok_is made s e8) (record {
      are = all_words row 0 (steps_words made) (
        c1.name_there,
        (
          c1.number ∙ ap (λ n. Some (decimal n)) (sym same),
          (
            c2.name_there,
            (c2.number, (c3.name_there, (c3.number, (c4.name_there, (c4.number, (c5.name_there, (c5.number, (c6.name_there, (c6.number, no_word-takes row 13 u8 alone))))))))),
          ),
        ),
      );
      few = let h = c1.few in omega (arith, same);
    })))))))))

pub steps-again : (row : Row) (s : Steps) → steps_made s ≤ 2000000 → words row ≡ steps_words s → steps_at row ≡ Ok s
unfolding steps_at
steps-again row s few e =
    rw (
      count-again row 1 (codes "steps") (steps_made s) (rw e refl) (rw e refl) few,
      count-again row 3 (codes "moved") s.moved (rw e refl) (rw e refl) (omega (arith, few)),
      count-again row 5 (codes "waiting") s.waiting (rw e refl) (rw e refl) (omega (arith, few)),
      count-again row 7 (codes "lost") s.lost (rw e refl) (rw e refl) (omega (arith, few)),
      count-again row 9 (codes "busy") s.busy (rw e refl) (rw e refl) (omega (arith, few)),
      count-again row 11 (codes "finished") s.finished (rw e refl) (rw e refl) (omega (arith, few)),
      eq-eqb (steps_made s) (steps_made s) refl,
      no_word-again row 13 (rw e refl),
    ) refl

pub steps-plain : (s : Steps) → steps_made s ≤ 2000000 → IsPlain (steps_words s)
steps-plain s few = (
  omega arith,
  (
    refl,
    (
      plain-decimal (steps_made s) (omega (arith, few)),
      (
        refl,
        (
          plain-decimal s.moved (omega (arith, few)),
          (
            refl,
            (
              plain-decimal s.waiting (omega (arith, few)),
              (
                refl,
                (
                  plain-decimal s.lost (omega (arith, few)),
                  (refl, (plain-decimal s.busy (omega (arith, few)), (refl, (plain-decimal s.finished (omega (arith, few)), tt)))),
                ),
              ),
            ),
          ),
        ),
      ),
    ),
  ),
)
