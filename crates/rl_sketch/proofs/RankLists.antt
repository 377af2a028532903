-- RANKS, both ways.
use Rattle.std.proofs.Common.{◌≡◌, ℕ, ◌+◌, ◌-◌, ◌^◌, ◌<◌, ◌≤◌, true, false, not, eqb, List, [], ◌∷◌, ◌++◌, map, length, drop, codes, decimal, Option, Some, None, Result, Ok, inl, inr, refl, sym, ap, subst, ◌∙◌, append_assoc, ne_eqb, lit≤, arith}
use Rattle.std.specs.Str.{bytes_eq}
use Rattle.std.proofs.lemmas.List.{append-nil}
use Rattle.std.proofs.lemmas.Slice.Eq.{bytes_eq-Decides}
use Rattle.rl_text.specs.declared.causes.Refusal.{Refusal}
use Rattle.rl_text.specs.Number.{number_of}
use Rattle.rl_text.specs.Rows.{Row, words, word_at}
use Rattle.rl_text.specs.LineWords.{words_from}
use Rattle.rl_text.specs.Reading.{◌>>=◌, begins, no_word_at, starts_with_word}
use Rattle.rl_text.proofs.WordLaws.{done, ok_is, test_ok, chosen, no_word-takes, no_word-again, words-nil, begins-is, begins-takes, decimal-no_word}
use Rattle.rl_text.proofs.FromLaws.{from_bind, word_at-rest}
use Rattle.rl_text.proofs.LineWordLemmas.{past-word, word-there}
use Rattle.rl_ops.specs.Body.{passed_at}
use Rattle.rl_sketch.specs.declared.sketch.Ranks.{Ranks}
use Rattle.rl_sketch.specs.declared.sketch.Ranks.TheVariants.{All, These}
use Rattle.rl_sketch.specs.Sketch.{ranks_words, going, RanksFit}
use Rattle.rl_sketch.specs.SketchReading.{MayName, rank_at, is_number, ranks_before, ranks_to_end, listed_before, listed_to_end, all_at, going_ranks_at, stopped_ranks_at, stands_at}
use Rattle.rl_sketch.proofs.Outcomes.{negated, differ}
use Rattle.rl_sketch.proofs.RankReading.{MayBeNamed, RankTaken, rank-takes, rank-again, named-push, named-first, named-mid, number-decimal, some_is, these_words}

-- ---- the list of a line that goes

-- more ranks were read, from word n on
pub record ListTaken (may : MayName) (line : Row) (n : ℕ) (taken : List ℕ) (ws : List (List ℕ)) (list : List ℕ) : Type 0 where
  pub more : List ℕ
  pub whole : list ≡ taken ++ more
  pub words : ws ≡ map decimal more ++ words_from line (n + length more)
  pub named : MayBeNamed may list

none-taken : (may : MayName) (line : Row) (n : ℕ) (taken : List ℕ) (ws : List (List ℕ)) (list : List ℕ) → words_from line n ≡ ws → MayBeNamed may taken → taken ≡ list → ListTaken may line n taken ws list
none-taken may line n taken ws list from named same = record {
  more = [];
  whole = sym same ∙ sym (append-nil taken);
  words = sym from ∙ ap (λ (m : ℕ). words_from line m) (let same : n ≡ n + 0 = omega arith in same);
  named = subst (λ (l : List ℕ). MayBeNamed may l) same named;
}

before-takes : (may : MayName) (line : Row) (n : ℕ) (taken : List ℕ) (ws : List (List ℕ)) (list : List ℕ) → 1 ≤ n → words_from line n ≡ ws → MayBeNamed may taken → ranks_before may line n taken ws ≡ Ok list → ListTaken may line n taken ws list
unfolding ranks_before
before-takes may line n taken [] list one from named e = none-taken may line n taken [] list from named (ok_is taken list e)
before-takes may line n taken (w ∷ []) list one from named e = none-taken may line n taken (w ∷ []) list from named (ok_is taken list e)
before-takes may line n taken (w ∷ next ∷ more) list one from named e =
    elim (chosen (is_number (number_of w)) (rank_at may taken line n >>= λ rank. ranks_before may line (n + 1) (taken ++ rank ∷ []) (next ∷ more)) (Ok taken) (Ok list) e) [
      | inl p ↦
          from_bind (rank_at may taken line n) (λ rank. ranks_before may line (n + 1) (taken ++ rank ∷ []) (next ∷ more)) list p.1 (λ rank r rest.
          let t = rank-takes may taken line n rank r in
          let after : words_from line (n + 1) ≡ next ∷ more = past-word line n w (next ∷ more) one from in
          let b = before-takes may line (n + 1) (taken ++ rank ∷ []) (next ∷ more) list (omega arith) after (named-push may taken line n rank named t) rest in
          let this : w ≡ decimal rank = some_is w (decimal rank) (sym (word-there line n w (next ∷ more) one from) ∙ t.word) in
          let k : n + 1 + length b.more ≡ n + length (rank ∷ b.more) = omega arith in
          let others : next ∷ more ≡ map decimal b.more ++ words_from line (n + length (rank ∷ b.more)) = b.words ∙ ap (λ (m : ℕ). map decimal b.more ++ words_from line m) k in
          record {
            more = rank ∷ b.more;
            whole = b.whole ∙ append_assoc taken (rank ∷ []) b.more;
            words = ap (λ (v : List ℕ). v ∷ next ∷ more) this ∙ ap (λ (vs : List (List ℕ)). decimal rank ∷ vs) others;
            named = b.named;
          })
      | inr p ↦ none-taken may line n taken (w ∷ next ∷ more) list from named (ok_is taken list p.1)
    ]

-- the list of ranks at the beginning of a line
pub record BeforeTaken (may : MayName) (line : Row) (list : List ℕ) : Type 0 where
  pub some : 0 < length list
  pub words : words line ≡ map decimal list ++ words_from line (1 + length list)
  pub named : MayBeNamed may list

pub listed_before-takes : (may : MayName) (line : Row) (list : List ℕ) → listed_before may line ≡ Ok list → BeforeTaken may line list
unfolding listed_before
listed_before-takes may line list e =
    from_bind (rank_at may [] line 1) (λ first. ranks_before may line 2 (first ∷ []) (drop 1 (words line))) list e (λ first r rest.
    let t = rank-takes may [] line 1 first r in
    let b = before-takes may line 2 (first ∷ []) (drop 1 (words line)) list (omega arith) refl (named-first may line 1 first t) rest in
    let k : 2 + length b.more ≡ 1 + length (first ∷ b.more) = omega arith in
    let others : words_from line 2 ≡ map decimal b.more ++ words_from line (1 + length (first ∷ b.more)) = b.words ∙ ap (λ (m : ℕ). map decimal b.more ++ words_from line m) k in
    let all : words line ≡ map decimal (first ∷ b.more) ++ words_from line (1 + length (first ∷ b.more)) = these_words line 1 (decimal first) (omega arith) t.word ∙ ap (λ (vs : List (List ℕ)). decimal first ∷ vs) others in
    let named : MayBeNamed may (first ∷ b.more) = subst (λ (l : List ℕ). MayBeNamed may l) b.whole b.named in
    subst (λ (l : List ℕ). BeforeTaken may line l) (sym b.whole) (record { some = omega arith; words = all; named = named }))

-- what stands behind the ranks of a line that goes: a word that is the last, or one that is no number
abbrev pub StopsRanks : List (List ℕ) → Type 0
StopsRanks [] = ⊥
StopsRanks (w ∷ []) = Unit {0}
StopsRanks (w ∷ next ∷ more) = is_number (number_of w) ≡ false

before-stops : (may : MayName) (line : Row) (n : ℕ) (taken : List ℕ) (left : List (List ℕ)) → StopsRanks left → ranks_before may line n taken left ≡ Ok taken
unfolding ranks_before
before-stops may line n taken [] stops = absurd stops
before-stops may line n taken (w ∷ []) stops = refl
before-stops may line n taken (w ∷ next ∷ more) stops = rw stops refl

before-one : (may : MayName) (line : Row) (n : ℕ) (taken : List ℕ) (w : List ℕ) (ws : List (List ℕ)) (k : ℕ) → 0 < length ws → is_number (number_of w) ≡ true → rank_at may taken line n ≡ Ok k → ranks_before may line n taken (w ∷ ws) ≡ ranks_before may line (n + 1) (taken ++ k ∷ []) ws
unfolding ranks_before
before-one may line n taken w [] k some number rank = absurd (omega (arith, some))
before-one may line n taken w (v ∷ vs) k some number rank = rw (number, rank) refl

some-left : (more : List ℕ) (left : List (List ℕ)) → StopsRanks left → 0 < length (map decimal more ++ left)
some-left [] [] stops = absurd stops
some-left [] (w ∷ ws) stops = omega arith
some-left (k ∷ more) left stops = omega arith

before-again : (may : MayName) (line : Row) (n : ℕ) (taken more : List ℕ) (left : List (List ℕ)) → 1 ≤ n → may.ranks < 2 ^ 32 → words_from line n ≡ map decimal more ++ left → StopsRanks left → MayBeNamed may (taken ++ more)
    → ranks_before may line n taken (map decimal more ++ left) ≡ Ok (taken ++ more)
before-again may line n taken [] left one small from stops named = before-stops may line n taken left stops ∙ ap (λ (l : List ℕ). done l) (sym (append-nil taken))
before-again may line n taken (k ∷ more) left one small from stops named =
    let rest = map decimal more ++ left in
    let t : RankTaken may taken line n k = named-mid may taken line n k more named (word-there line n (decimal k) rest one from) in
    let whole : (taken ++ k ∷ []) ++ more ≡ taken ++ k ∷ more = append_assoc taken (k ∷ []) more in
    let others = before-again may line (n + 1) (taken ++ k ∷ []) more left (omega arith) small (past-word line n (decimal k) rest one from) stops (subst (λ (l : List ℕ). MayBeNamed may l) (sym whole) named) in
    before-one may line n taken (decimal k) rest k (some-left more left stops) (number-decimal k (omega (arith, small, t.there))) (rank-again may taken line n k small t)
    ∙ others ∙ ap (λ (l : List ℕ). done l) whole

pub listed_before-again : (may : MayName) (line : Row) (k : ℕ) (more : List ℕ) (left : List (List ℕ)) → may.ranks < 2 ^ 32 → words line ≡ map decimal (k ∷ more) ++ left → StopsRanks left → MayBeNamed may (k ∷ more)
    → listed_before may line ≡ Ok (k ∷ more)
unfolding listed_before
listed_before-again may line k more left small from stops named =
    let rest = map decimal more ++ left in
    let one : 1 ≤ 1 = omega arith in
    let t : RankTaken may [] line 1 k = named-mid may [] line 1 k more named (word-there line 1 (decimal k) rest one from) in
    let behind : drop 1 (words line) ≡ rest = past-word line 1 (decimal k) rest one from in
    rw (rank-again may [] line 1 k small t, behind) (before-again may line 2 (k ∷ []) more left (omega arith) small behind stops named)

-- ---- the list of a line that stops them

end-takes : (may : MayName) (line : Row) (n : ℕ) (taken : List ℕ) (ws : List (List ℕ)) (list : List ℕ) → 1 ≤ n → words_from line n ≡ ws → MayBeNamed may taken → ranks_to_end may line n taken ws ≡ Ok list
    → (more : List ℕ) × (list ≡ taken ++ more) × (ws ≡ map decimal more) × MayBeNamed may list
unfolding ranks_to_end
end-takes may line n taken [] list one from named e =
    let same : taken ≡ list = ok_is taken list e in
    ([], sym same ∙ sym (append-nil taken), refl, subst (λ (l : List ℕ). MayBeNamed may l) same named)
end-takes may line n taken (w ∷ more) list one from named e =
    from_bind (rank_at may taken line n) (λ rank. ranks_to_end may line (n + 1) (taken ++ rank ∷ []) more) list e (λ rank r rest.
    let t = rank-takes may taken line n rank r in
    let b = end-takes may line (n + 1) (taken ++ rank ∷ []) more list (omega arith) (past-word line n w more one from) (named-push may taken line n rank named t) rest in
    let this : w ≡ decimal rank = some_is w (decimal rank) (sym (word-there line n w more one from) ∙ t.word) in
    (rank ∷ b.0, b.1 ∙ append_assoc taken (rank ∷ []) b.0, ap (λ (v : List ℕ). v ∷ more) this ∙ ap (λ (vs : List (List ℕ)). decimal rank ∷ vs) b.2, b.3))

pub record EndTaken (may : MayName) (line : Row) (list : List ℕ) : Type 0 where
  pub some : 0 < length list
  pub words : words_from line 2 ≡ map decimal list
  pub named : MayBeNamed may list

pub listed_to_end-takes : (may : MayName) (line : Row) (list : List ℕ) → listed_to_end may line ≡ Ok list → EndTaken may line list
unfolding listed_to_end
listed_to_end-takes may line list e =
    from_bind (rank_at may [] line 2) (λ first. ranks_to_end may line 3 (first ∷ []) (drop 2 (words line))) list e (λ first r rest.
    let t = rank-takes may [] line 2 first r in
    let b = end-takes may line 3 (first ∷ []) (drop 2 (words line)) list (omega arith) refl (named-first may line 2 first t) rest in
    let all : words_from line 2 ≡ map decimal (first ∷ b.0) = these_words line 2 (decimal first) (omega arith) t.word ∙ ap (λ (vs : List (List ℕ)). decimal first ∷ vs) b.2 in
    let named : MayBeNamed may (first ∷ b.0) = subst (λ (l : List ℕ). MayBeNamed may l) b.1 b.3 in
    subst (λ (l : List ℕ). EndTaken may line l) (sym b.1) (record { some = omega arith; words = all; named = named }))

end-again : (may : MayName) (line : Row) (n : ℕ) (taken more : List ℕ) → 1 ≤ n → may.ranks < 2 ^ 32 → words_from line n ≡ map decimal more → MayBeNamed may (taken ++ more) → ranks_to_end may line n taken (map decimal more) ≡ Ok (taken ++ more)
unfolding ranks_to_end
end-again may line n taken [] one small from named = ap (λ (l : List ℕ). done l) (sym (append-nil taken))
end-again may line n taken (k ∷ more) one small from named =
    let rest = map decimal more in
    let t : RankTaken may taken line n k = named-mid may taken line n k more named (word-there line n (decimal k) rest one from) in
    let whole : (taken ++ k ∷ []) ++ more ≡ taken ++ k ∷ more = append_assoc taken (k ∷ []) more in
    rw (rank-again may taken line n k small t)
    (end-again may line (n + 1) (taken ++ k ∷ []) more (omega arith) small (past-word line n (decimal k) rest one from) (subst (λ (l : List ℕ). MayBeNamed may l) (sym whole) named) ∙ ap (λ (l : List ℕ). done l) whole)

pub listed_to_end-again : (may : MayName) (line : Row) (k : ℕ) (more : List ℕ) → may.ranks < 2 ^ 32 → words_from line 2 ≡ map decimal (k ∷ more) → MayBeNamed may (k ∷ more) → listed_to_end may line ≡ Ok (k ∷ more)
unfolding listed_to_end
listed_to_end-again may line k more small from named =
    let rest = map decimal more in
    let two : 1 ≤ 2 = omega arith in
    let t : RankTaken may [] line 2 k = named-mid may [] line 2 k more named (word-there line 2 (decimal k) rest two from) in
    let behind : drop 2 (words line) ≡ rest = past-word line 2 (decimal k) rest two from in
    rw (rank-again may [] line 2 k small t, behind) (end-again may line 3 (k ∷ []) more (omega arith) small behind named)

-- ---- all of them, or a list

some_left : (n : ℕ) → not (eqb n 0) ≡ true → 0 < n
some_left n e = omega (arith, differ n 0 (negated (eqb n 0) e))

all-takes : (may : MayName) (line : Row) (n : ℕ) (which : Ranks) → all_at may line n ≡ Ok which → (All ≡ which) × (0 < length (going may.ranks may.stopped))
unfolding all_at
all-takes may line n which e =
    from_bind (passed_at line n may.again (not (eqb (length (going may.ranks may.stopped)) 0))) (λ left. Ok All) which e (λ left l last.
    (ok_is All which last, some_left (length (going may.ranks may.stopped)) (test_ok (not (eqb (length (going may.ranks may.stopped)) 0)) _ tt left l).0))

all-again : (may : MayName) (line : Row) (n : ℕ) → 0 < length (going may.ranks may.stopped) → all_at may line n ≡ Ok All
unfolding all_at
all-again may line n some = rw (ne_eqb (length (going may.ranks may.stopped)) 0 (λ none. omega (arith, some, none))) refl

named-fits : (may : MayName) (list : List ℕ) → 0 < length list → MayBeNamed may list → RanksFit may.ranks may.stopped (These list)
named-fits may list some named = (some, named.there, named.go_on, named.once)

fits-named : (may : MayName) (list : List ℕ) → RanksFit may.ranks may.stopped (These list) → MayBeNamed may list
fits-named may list fits = record { there = fits.1; go_on = fits.2; once = fits.3 }

pub record GoingTaken (may : MayName) (line : Row) (which : Ranks) (n : ℕ) : Type 0 where
  pub words : words line ≡ ranks_words which ++ words_from line n
  pub fit : RanksFit may.ranks may.stopped which
  pub one : 1 ≤ n

-- `all` and what is behind it, and a list and what is behind it
abbrev after_all : Ranks → Result (Ranks × ℕ) Refusal
after_all which = Ok (which, 2)

abbrev after_list : List ℕ → Result (Ranks × ℕ) Refusal
after_list list = Ok (These list, 1 + length list)

pub going-takes : (may : MayName) (line : Row) (p : Ranks × ℕ) → going_ranks_at may line ≡ Ok p → GoingTaken may line p.0 p.1
unfolding going_ranks_at
going-takes may line p e =
    elim (chosen (begins line (codes "all")) (all_at may line 1 >>= after_all) (listed_before may line >>= after_list) (Ok p) e) [
      | inl q ↦
          from_bind (all_at may line 1) after_all p q.1 (λ all a last.
          let t = all-takes may line 1 all a in
          let made : GoingTaken may line All 2 = record { words = these_words line 1 (codes "all") (omega arith) (begins-takes line (codes "all") q.0); fit = t.1; one = omega arith } in
          subst (λ (q : Ranks × ℕ). GoingTaken may line q.0 q.1) (ok_is {A = Ranks × ℕ} (all, 2) p last) (subst (λ (r : Ranks). GoingTaken may line r 2) t.0 made))
      | inr q ↦
          from_bind (listed_before may line) after_list p q.1 (λ list l last.
          let t = listed_before-takes may line list l in
          let made : GoingTaken may line (These list) (1 + length list) = record { words = t.words; fit = named-fits may list t.some t.named; one = omega arith } in
          subst (λ (q : Ranks × ℕ). GoingTaken may line q.0 q.1) (ok_is {A = Ranks × ℕ} (These list, 1 + length list) p last) made)
    ]

drop-listed : (list : List ℕ) (left : List (List ℕ)) → drop (length list) (map decimal list ++ left) ≡ left
drop-listed [] left = refl
drop-listed (k ∷ list) left = drop-listed list left

pub record GoingAgain (may : MayName) (line : Row) (which : Ranks) (left : List (List ℕ)) : Type 0 where
  pub next : ℕ
  pub read : going_ranks_at may line ≡ Ok (which, next)
  pub behind : words_from line next ≡ left
  pub one : 1 ≤ next

pub going-again : (may : MayName) (line : Row) (which : Ranks) (left : List (List ℕ)) → may.ranks < 2 ^ 32 → words line ≡ ranks_words which ++ left → StopsRanks left → RanksFit may.ranks may.stopped which → GoingAgain may line which left
unfolding going_ranks_at
going-again may line All left small from stops fit =
    let all : begins line (codes "all") ≡ true = begins-is line (codes "all") (codes "all") (word-there line 1 (codes "all") left (omega arith) from) in
    record {
      next = 2;
      read = rw (all, all-again may line 1 fit) refl;
      behind = past-word line 1 (codes "all") left (omega arith) from;
      one = omega arith;
    }
going-again may line (These []) left small from stops fit = absurd (omega (arith, fit.0))
going-again may line (These (k ∷ more)) left small from stops fit =
    let rest = map decimal more ++ left in
    let named : MayBeNamed may (k ∷ more) = fits-named may (k ∷ more) fit in
    let number : begins line (codes "all") ≡ false = begins-is line (decimal k) (codes "all") (word-there line 1 (decimal k) rest (omega arith) from) ∙ decimal-no_word k (codes "all") (omega (arith, small, named.there.0)) (lit≤ tt) in
    let i : 1 + length (k ∷ more) - 1 ≡ length (k ∷ more) = omega arith in
    record {
      next = 1 + length (k ∷ more);
      read = rw (number, listed_before-again may line k more left small from stops named) refl;
      behind = ap (λ (m : ℕ). drop m (words line)) i ∙ ap (λ (ws : List (List ℕ)). drop (length (k ∷ more)) ws) from ∙ drop-listed (k ∷ more) left;
      one = omega arith;
    }

begun : (o : Option (List ℕ)) (text : List ℕ) → starts_with_word text o ≡ true → o ≡ Some text
begun None text e = absurd cc
begun (Some w) text e = ap (λ (v : List ℕ). Some v) ((bytes_eq-Decides w text).0 e)

-- word n is this one
pub stands-takes : (line : Row) (n : ℕ) (text : List ℕ) → stands_at line n text ≡ true → word_at line n ≡ Some text
stands-takes line n text e = begun (word_at line n) text e

pub stands-is : (line : Row) (n : ℕ) (w text : List ℕ) → word_at line n ≡ Some w → stands_at line n text ≡ bytes_eq w text
stands-is line n w text e = rw e refl

-- no word from n on
pub last_words : (line : Row) (n : ℕ) (u : Unit {0}) → no_word_at line n ≡ Ok u → words_from line n ≡ []
last_words line n u e = words-nil (words line) (n - 1) (no_word-takes line n u e)

pub stopped-takes : (may : MayName) (line : Row) (which : Ranks) → stopped_ranks_at may line ≡ Ok which → (words_from line 2 ≡ ranks_words which) × RanksFit may.ranks may.stopped which
unfolding stopped_ranks_at
stopped-takes may line which e =
    elim (chosen (stands_at line 2 (codes "all")) (all_at may line 2 >>= λ all. no_word_at line 3 >>= λ alone. Ok all) (listed_to_end may line >>= λ list. Ok (These list)) (Ok which) e) [
      | inl q ↦
          from_bind (all_at may line 2) (λ all. no_word_at line 3 >>= λ alone. Ok all) which q.1 (λ all a rest.
          from_bind (no_word_at line 3) (λ alone. Ok all) which rest (λ alone n last.
          let t = all-takes may line 2 all a in
          let same : All ≡ which = t.0 ∙ ok_is all which last in
          let all_words : words_from line 2 ≡ codes "all" ∷ [] = these_words line 2 (codes "all") (omega arith) (stands-takes line 2 (codes "all") q.0) ∙ ap (λ (vs : List (List ℕ)). codes "all" ∷ vs) (last_words line 3 alone n) in
          subst (λ (r : Ranks). (words_from line 2 ≡ ranks_words r) × RanksFit may.ranks may.stopped r) same (all_words, t.1)))
      | inr q ↦
          from_bind (listed_to_end may line) (λ list. Ok (These list)) which q.1 (λ list l last.
          let t = listed_to_end-takes may line list l in
          subst (λ (r : Ranks). (words_from line 2 ≡ ranks_words r) × RanksFit may.ranks may.stopped r) (ok_is (These list) which last) (t.words, named-fits may list t.some t.named))
    ]

pub stopped-again : (may : MayName) (line : Row) (which : Ranks) → may.ranks < 2 ^ 32 → words_from line 2 ≡ ranks_words which → RanksFit may.ranks may.stopped which → stopped_ranks_at may line ≡ Ok which
unfolding stopped_ranks_at
stopped-again may line All small from fit =
    let two : 1 ≤ 2 = omega arith in
    let all : stands_at line 2 (codes "all") ≡ true = stands-is line 2 (codes "all") (codes "all") (word-there line 2 (codes "all") [] two from) in
    rw (all, all-again may line 2 fit, no_word-again line 3 (word_at-rest line 2 3 1 (codes "all" ∷ []) two (omega arith) from)) refl
stopped-again may line (These []) small from fit = absurd (omega (arith, fit.0))
stopped-again may line (These (k ∷ more)) small from fit =
    let two : 1 ≤ 2 = omega arith in
    let named : MayBeNamed may (k ∷ more) = fits-named may (k ∷ more) fit in
    let number : stands_at line 2 (codes "all") ≡ false = stands-is line 2 (decimal k) (codes "all") (word-there line 2 (decimal k) (map decimal more) two from) ∙ decimal-no_word k (codes "all") (omega (arith, small, named.there.0)) (lit≤ tt) in
    rw (number, listed_to_end-again may line k more small from named) refl
