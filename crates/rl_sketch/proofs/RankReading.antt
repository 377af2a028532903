-- The ranks of a line: those that are read are spelled so, and those that are spelled so are read.
use Rattle.std.proofs.Common.{◌≡◌, ℕ, ◌+◌, ◌-◌, ◌^◌, ◌<◌, ◌≤◌, Bool, true, false, not, cond, List, [], ◌∷◌, ◌++◌, length, get_or, decimal, Option, Some, None, Result, Ok, Err, refl, sym, ap, subst, ◌∙◌, length-append, arith}
use Rattle.std.specs.List.{AllByRecursion}
use Rattle.std.specs.Str.{bytes_eq}
use Rattle.std.proofs.lemmas.Slice.Eq.{bytes_eq-Decides}
use Rattle.rl_text.specs.declared.causes.Refusal.{Refusal}
use Rattle.rl_text.specs.declared.causes.Why.{Why}
use Rattle.rl_text.specs.declared.causes.Why.TheVariants.{Repeat}
use Rattle.rl_text.specs.Number.{number_of}
use Rattle.rl_text.specs.Rows.{Row, words, word_at}
use Rattle.rl_text.specs.LineWords.{TheLineWords, stepped, words_from}
use Rattle.rl_text.specs.Reading.{◌>>=◌, refusal_at, below_at}
use Rattle.rl_text.proofs.Decimals.{number_of-spelled, number_of-decimal}
use Rattle.rl_text.proofs.TextLaws.{AllByRecursion-append}
use Rattle.rl_text.proofs.WordLaws.{ok_is, test_ok, below-takes, below-again, words-nil, decimal-no_word}
use Rattle.rl_text.proofs.FromLaws.{from_bind, rest_from-word}
use Rattle.rl_ops.specs.Body.{passed_at}
use Rattle.rl_sketch.specs.Sketch.{is_among, EachOnce}
use Rattle.rl_sketch.specs.SketchReading.{MayName, rank_at, is_number, is_there, is_rank_before, ranks_before, ranks_to_end, listed_before, listed_to_end}
use Rattle.rl_sketch.proofs.Outcomes.{negated, clash}
use Rattle.rl_sketch.proofs.RankLaws.{once-push, once-before, few-below}

-- ---- one rank

-- ranks that a line may name, each once
pub record MayBeNamed (may : MayName) (list : List ℕ) : Type 0 where
  pub there : AllByRecursion (λ k. k < may.ranks) list
  pub go_on : AllByRecursion (λ k. is_among may.stopped k ≡ false) list
  pub once : EachOnce list

-- a rank that is read behind those that were taken
pub record RankTaken (may : MayName) (taken : List ℕ) (line : Row) (n k : ℕ) : Type 0 where
  pub word : word_at line n ≡ Some (decimal k)
  pub there : k < may.ranks
  pub goes_on : is_among may.stopped k ≡ false
  pub once : is_among taken k ≡ false

pub passed-takes : (line : Row) (n : ℕ) (why : Why) (b : Bool) (u : Unit {0}) → passed_at line n why (not b) ≡ Ok u → b ≡ false
passed-takes line n why b u e = negated b (test_ok (not b) (refusal_at line n why) tt u e).0

pub rank-takes : (may : MayName) (taken : List ℕ) (line : Row) (n k : ℕ) → rank_at may taken line n ≡ Ok k → RankTaken may taken line n k
unfolding rank_at
rank-takes may taken line n k e =
    from_bind (below_at line n may.ranks) _ k e (λ rank r e1.
    from_bind (passed_at line n may.again (not (is_among may.stopped rank))) _ k e1 (λ on o e2.
    from_bind (passed_at line n Repeat (not (is_among taken rank))) (λ once. Ok rank) k e2 (λ once u last.
    let rt = below-takes line n may.ranks rank r in
    subst (λ (j : ℕ). RankTaken may taken line n j) (ok_is rank k last)
    (record { word = rt.0.word; there = rt.1; goes_on = passed-takes line n may.again (is_among may.stopped rank) on o; once = passed-takes line n Repeat (is_among taken rank) once u }))))

pub rank-again : (may : MayName) (taken : List ℕ) (line : Row) (n k : ℕ) → may.ranks < 2 ^ 32 → RankTaken may taken line n k → rank_at may taken line n ≡ Ok k
unfolding rank_at
rank-again may taken line n k small t =
    rw (below-again line n may.ranks k (record { word = t.word; fits = omega (arith, small, t.there) }) t.there, t.goes_on, t.once) refl

pub named-push : (may : MayName) (taken : List ℕ) (line : Row) (n k : ℕ) → MayBeNamed may taken → RankTaken may taken line n k → MayBeNamed may (taken ++ k ∷ [])
named-push may taken line n k named t = record {
  there = AllByRecursion-append _ taken (k ∷ []) named.there (t.there, tt);
  go_on = AllByRecursion-append _ taken (k ∷ []) named.go_on (t.goes_on, tt);
  once = once-push taken k named.once t.once;
}

pub named-first : (may : MayName) (line : Row) (n k : ℕ) → RankTaken may [] line n k → MayBeNamed may (k ∷ [])
named-first may line n k t = record { there = (t.there, tt); go_on = (t.goes_on, tt); once = (refl, tt) }

pub few-named : (may : MayName) (list : List ℕ) → MayBeNamed may list → length list ≤ may.ranks
few-named may list named = few-below may.ranks list named.once named.there

all-mid : (P : ℕ → Type 0) (taken : List ℕ) (k : ℕ) (more : List ℕ) → AllByRecursion P (taken ++ k ∷ more) → P k
all-mid P [] k more all = all.0
all-mid P (x ∷ taken) k more all = all-mid P taken k more all.1

-- a rank in the midst of ranks that may be named
pub named-mid : (may : MayName) (taken : List ℕ) (line : Row) (n k : ℕ) (more : List ℕ) → MayBeNamed may (taken ++ k ∷ more) → word_at line n ≡ Some (decimal k) → RankTaken may taken line n k
named-mid may taken line n k more named word = record {
  word = word;
  there = all-mid (λ j. j < may.ranks) taken k more named.there;
  goes_on = all-mid (λ j. is_among may.stopped j ≡ false) taken k more named.go_on;
  once = once-before taken k more named.once;
}

-- ---- numbers and words

pub number-decimal : (k : ℕ) → k < 2 ^ 64 → is_number (number_of (decimal k)) ≡ true
number-decimal k h = ap is_number (number_of-decimal k h)

letter-at : (w : List ℕ) (o : Option ℕ) → number_of w ≡ o → 58 ≤ get_or w 0 0 → is_number o ≡ false
letter-at w None e letter = refl
letter-at w (Some k) e letter =
    let s = number_of-spelled w k e in
    let fails : bytes_eq (decimal k) w ≡ false = decimal-no_word k w s.0 letter in
    let passes : bytes_eq (decimal k) w ≡ true = (bytes_eq-Decides (decimal k) w).1 (sym s.1) in
    absurd (clash (bytes_eq (decimal k) w) (bytes_eq (decimal k) w) refl passes fails)

-- a word that begins with a letter is no number
pub letter-no_number : (w : List ℕ) → 58 ≤ get_or w 0 0 → is_number (number_of w) ≡ false
letter-no_number w letter = letter-at w (number_of w) refl letter

pub some_is : (v w : List ℕ) → ◌≡◌ {A = Option (List ℕ)} (Some v) (Some w) → v ≡ w
some_is v w e = cc

-- ---- the words from one on, by the word there

no_words : (line : Row) (n : ℕ) → word_at line n ≡ None → words_from line n ≡ []
no_words line n e = words-nil (words line) (n - 1) e

pub these_words : (line : Row) (n : ℕ) (w : List ℕ) → 1 ≤ n → word_at line n ≡ Some w → words_from line n ≡ w ∷ words_from line (n + 1)
these_words line n w one e = rest_from-word line n (n + 1) w one refl e

-- ---- a list of ranks, read step by step

-- `total` is what reading from the first rank on gives
pub record RanksSoFar (reads : Row → ℕ → List ℕ → List (List ℕ) → Result (List ℕ) Refusal) (may : MayName) (before : ℕ) (line : Row) (w : TheLineWords) (taken : List ℕ) (total : Result (List ℕ) Refusal) : Type 0 where
  pub same_row : w.row ≡ line
  pub next : w.next ≡ before + length taken
  pub named : MayBeNamed may taken
  pub so_far : reads w.row w.next taken (words_from w.row w.next) ≡ total

-- another rank is read at word n
abbrev pub ReadsRank : (Row → ℕ → List ℕ → List (List ℕ) → Result (List ℕ) Refusal) → MayName → Row → ℕ → List ℕ → Type 0
ReadsRank reads may line n taken = reads line n taken (words_from line n) ≡ (rank_at may taken line n >>= λ rank. reads line (n + 1) (taken ++ rank ∷ []) (words_from line (n + 1)))

pub bad_rank : (reads : Row → ℕ → List ℕ → List (List ℕ) → Result (List ℕ) Refusal) (may : MayName) (before : ℕ) (line : Row) (w : TheLineWords) (taken : List ℕ) (f : Refusal) (total : Result (List ℕ) Refusal)
    → RanksSoFar reads may before line w taken total → ReadsRank reads may w.row w.next taken → rank_at may taken w.row w.next ≡ Err f → total ≡ Err f
bad_rank reads may line before w taken f total s step bad = sym s.so_far ∙ step ∙ rw bad refl

pub next_rank : (reads : Row → ℕ → List ℕ → List (List ℕ) → Result (List ℕ) Refusal) (may : MayName) (before : ℕ) (line : Row) (w after : TheLineWords) (taken : List ℕ) (rank : ℕ) (total : Result (List ℕ) Refusal)
    → RanksSoFar reads may before line w taken total → ReadsRank reads may w.row w.next taken → rank_at may taken w.row w.next ≡ Ok rank → after ≡ stepped w
    → RanksSoFar reads may before line after (taken ++ rank ∷ []) total
next_rank reads may line before w after taken rank total s step good past =
    let one : reads w.row w.next taken (words_from w.row w.next) ≡ reads w.row (w.next + 1) (taken ++ rank ∷ []) (words_from w.row (w.next + 1)) = step ∙ rw good refl in
    record {
      same_row = rw past s.same_row;
      next = rw past (omega (arith, s.next, length-append taken (rank ∷ [])));
      named = named-push may taken w.row w.next rank s.named (rank-takes may taken w.row w.next rank good);
      so_far = rw past (sym one ∙ s.so_far);
    }

-- the first rank was read, at word n
first_rank : (reads : Row → ℕ → List ℕ → List (List ℕ) → Result (List ℕ) Refusal) (may : MayName) (line : Row) (w : TheLineWords) (n first : ℕ) (total : Result (List ℕ) Refusal) → w ≡ record { row = line; next = n + 1 }
    → rank_at may [] line n ≡ Ok first → reads line (n + 1) (first ∷ []) (words_from line (n + 1)) ≡ total → RanksSoFar reads may n line w (first ∷ []) total
first_rank reads may line w n first total place r read = record {
  same_row = rw place refl;
  next = rw place refl;
  named = named-first may line n first (rank-takes may [] line n first r);
  so_far = rw place read;
}

if_true : (b c : Bool) → cond b c false ≡ true → (b ≡ true) × (c ≡ true)
if_true true c e = (refl, e)
if_true false c e = absurd cc

-- ---- of a line that goes

before-step : (may : MayName) (line : Row) (n : ℕ) (taken : List ℕ) (o behind : Option (List ℕ)) → 1 ≤ n → word_at line n ≡ o → word_at line (n + 1) ≡ behind → is_rank_before o behind ≡ true → ReadsRank (ranks_before may) may line n taken
unfolding ranks_before
before-step may line n taken None behind one e f rank = absurd cc
before-step may line n taken (Some w) None one e f rank = absurd (clash false false refl (if_true (is_number (number_of w)) false rank).1 refl)
before-step may line n taken (Some w) (Some v) one e f rank =
    let two = if_true (is_number (number_of w)) true rank in
    rw (these_words line n w one e, these_words line (n + 1) v (omega arith) f, two.0) refl

pub before-goes : (may : MayName) (line : Row) (n : ℕ) (taken : List ℕ) → 1 ≤ n → is_rank_before (word_at line n) (word_at line (n + 1)) ≡ true → ReadsRank (ranks_before may) may line n taken
before-goes may line n taken one rank = before-step may line n taken (word_at line n) (word_at line (n + 1)) one refl refl rank

before-end : (may : MayName) (line : Row) (n : ℕ) (taken : List ℕ) (o behind : Option (List ℕ)) → 1 ≤ n → word_at line n ≡ o → word_at line (n + 1) ≡ behind → is_rank_before o behind ≡ false → ranks_before may line n taken (words_from line n) ≡ Ok taken
unfolding ranks_before
before-end may line n taken None behind one e f rank = rw (no_words line n e) refl
before-end may line n taken (Some w) None one e f rank = rw (these_words line n w one e, no_words line (n + 1) f) refl
before-end may line n taken (Some w) (Some v) one e f rank =
    let not_number : is_number (number_of w) ≡ false = if_not (is_number (number_of w)) rank in
    rw (these_words line n w one e, these_words line (n + 1) v (omega arith) f, not_number) refl
  where
    if_not : (b : Bool) → cond b true false ≡ false → b ≡ false
    if_not true e = absurd cc
    if_not false e = refl

pub before-ends : (may : MayName) (line : Row) (n : ℕ) (taken : List ℕ) → 1 ≤ n → is_rank_before (word_at line n) (word_at line (n + 1)) ≡ false → ranks_before may line n taken (words_from line n) ≡ Ok taken
before-ends may line n taken one rank = before-end may line n taken (word_at line n) (word_at line (n + 1)) one refl refl rank

pub before-first : (may : MayName) (line : Row) (w : TheLineWords) (first : ℕ) → w ≡ record { row = line; next = 2 } → rank_at may [] line 1 ≡ Ok first → RanksSoFar (ranks_before may) may 1 line w (first ∷ []) (listed_before may line)
unfolding listed_before
before-first may line w first place r = first_rank (ranks_before may) may line w 1 first (listed_before may line) place r (rw r refl)

pub no_first : (may : MayName) (line : Row) (f : Refusal) → rank_at may [] line 1 ≡ Err f → listed_before may line ≡ Err f
unfolding listed_before
no_first may line f r = rw r refl

-- ---- of a line that stops them

end-step : (may : MayName) (line : Row) (n : ℕ) (taken : List ℕ) (o : Option (List ℕ)) → 1 ≤ n → word_at line n ≡ o → is_there o ≡ true → ReadsRank (ranks_to_end may) may line n taken
unfolding ranks_to_end
end-step may line n taken None one e there = absurd cc
end-step may line n taken (Some w) one e there = rw (these_words line n w one e) refl

pub end-goes : (may : MayName) (line : Row) (n : ℕ) (taken : List ℕ) → 1 ≤ n → is_there (word_at line n) ≡ true → ReadsRank (ranks_to_end may) may line n taken
end-goes may line n taken one there = end-step may line n taken (word_at line n) one refl there

end-last : (may : MayName) (line : Row) (n : ℕ) (taken : List ℕ) (o : Option (List ℕ)) → word_at line n ≡ o → is_there o ≡ false → ranks_to_end may line n taken (words_from line n) ≡ Ok taken
unfolding ranks_to_end
end-last may line n taken None e there = rw (no_words line n e) refl
end-last may line n taken (Some w) e there = absurd cc

pub end-ends : (may : MayName) (line : Row) (n : ℕ) (taken : List ℕ) → is_there (word_at line n) ≡ false → ranks_to_end may line n taken (words_from line n) ≡ Ok taken
end-ends may line n taken there = end-last may line n taken (word_at line n) refl there

pub end-first : (may : MayName) (line : Row) (w : TheLineWords) (first : ℕ) → w ≡ record { row = line; next = 3 } → rank_at may [] line 2 ≡ Ok first → RanksSoFar (ranks_to_end may) may 2 line w (first ∷ []) (listed_to_end may line)
unfolding listed_to_end
end-first may line w first place r = first_rank (ranks_to_end may) may line w 2 first (listed_to_end may line) place r (rw r refl)

pub no_first-end : (may : MayName) (line : Row) (f : Refusal) → rank_at may [] line 2 ≡ Err f → listed_to_end may line ≡ Err f
unfolding listed_to_end
no_first-end may line f r = rw r refl

-- ---- what the loops ask

-- another rank follows, as the code sees it
pub before-more : (may : MayName) (line : Row) (w : TheLineWords) (taken : List ℕ) (total : Result (List ℕ) Refusal) (n : ℕ) (answer : Bool)
    → RanksSoFar (ranks_before may) may 1 line w taken total → n ≡ w.next → answer ≡ is_rank_before (word_at line n) (word_at line (n + 1)) → answer ≡ true → ReadsRank (ranks_before may) may w.row w.next taken
before-more may line w taken total n answer s n_is answer_is passes =
    before-goes may w.row w.next taken (omega (arith, s.next)) (rw (s.same_row, ← n_is) (sym answer_is ∙ passes))

-- no other rank follows
pub before-done : (may : MayName) (line : Row) (w : TheLineWords) (taken : List ℕ) (total : Result (List ℕ) Refusal) (n : ℕ) (answer : Bool)
    → RanksSoFar (ranks_before may) may 1 line w taken total → n ≡ w.next → answer ≡ is_rank_before (word_at line n) (word_at line (n + 1)) → answer ≡ false → total ≡ Ok taken
before-done may line w taken total n answer s n_is answer_is fails =
    sym s.so_far ∙ before-ends may w.row w.next taken (omega (arith, s.next)) (rw (s.same_row, ← n_is) (sym answer_is ∙ fails))

pub end-more : (may : MayName) (line : Row) (w : TheLineWords) (taken : List ℕ) (total : Result (List ℕ) Refusal) (answer : Bool)
    → RanksSoFar (ranks_to_end may) may 2 line w taken total → answer ≡ is_there (word_at w.row w.next) → answer ≡ true → ReadsRank (ranks_to_end may) may w.row w.next taken
end-more may line w taken total answer s answer_is passes = end-goes may w.row w.next taken (omega (arith, s.next)) (sym answer_is ∙ passes)

pub end-done : (may : MayName) (line : Row) (w : TheLineWords) (taken : List ℕ) (total : Result (List ℕ) Refusal) (answer : Bool)
    → RanksSoFar (ranks_to_end may) may 2 line w taken total → answer ≡ is_there (word_at w.row w.next) → answer ≡ false → total ≡ Ok taken
end-done may line w taken total answer s answer_is fails = sym s.so_far ∙ end-ends may w.row w.next taken (sym answer_is ∙ fails)
