-- What was seen stays seen; and a word that is seen now, and wasn't, leaves one less.
use Rattle.std.specs.Prelude.{◌≡◌, ℕ, zero, suc, ◌+◌, ◌<◌, ◌≤◌, ◌==◌, Bool, true, false, cond, if◌then◌else◌, List, [], ◌∷◌, ◌++◌, Option, Some, None, refl}
use Rattle.std.proofs.Common.{sym, subst, ⊎_elim, arith}
use Rattle.std.proofs.lemmas.Bool.{cases_lt}
use Rattle.std.proofs.lemmas.Bool.Decides.{nat_tests}
use Rattle.rl_volume.specs.declared.write.Write.{Write}
use Rattle.rl_volume.specs.Seen.{value_of, with_value, patched}
use Rattle.rl_work.specs.LockedLeft.{one_unless, words_unseen}

-- no word is less seen than it was
abbrev StaySeen : List (ℕ × ℕ) → List (ℕ × ℕ) → Type 0
StaySeen pairs more = (w : ℕ) → one_unless (value_of more w) ≤ one_unless (value_of pairs w)

cond_less : (b : Bool) (v : ℕ) (o p : Option ℕ) → one_unless o ≤ one_unless p → one_unless (cond b (Some v) o) ≤ one_unless (cond b (Some v) p)
cond_less true v o p le = omega arith
cond_less false v o p le = le

few_one : (o : Option ℕ) → one_unless o ≤ 1
few_one None = omega arith
few_one (Some v) = omega arith

pub appended_stays : (pairs : List (ℕ × ℕ)) (word got : ℕ) → StaySeen pairs (pairs ++ (word, got) ∷ [])
appended_stays [] word got w = few_one (value_of ((word, got) ∷ []) w)
appended_stays (p ∷ ps) word got w = cond_less (p.0 == w) p.1 (value_of (ps ++ (word, got) ∷ []) w) (value_of ps w) (appended_stays ps word got w)

here_seen : (word got : ℕ) (b : Bool) → b ≡ true → one_unless (cond b (Some got) None) ≡ 0
here_seen word got true e = refl
here_seen word got false e = cc

cond_seen : (b : Bool) (v : ℕ) (o : Option ℕ) → one_unless o ≡ 0 → one_unless (cond b (Some v) o) ≡ 0
cond_seen true v o e = refl
cond_seen false v o e = e

pub appended_seen : (pairs : List (ℕ × ℕ)) (word got : ℕ) → one_unless (value_of (pairs ++ (word, got) ∷ []) word) ≡ 0
appended_seen [] word got = let e : (word == word) ≡ true = grind (arith, nat_tests) in here_seen word got (word == word) e
appended_seen (p ∷ ps) word got = cond_seen (p.0 == word) p.1 (value_of (ps ++ (word, got) ∷ []) word) (appended_seen ps word got)

-- a value that is written to a word
put_there : (q : ℕ × ℕ) (ps : List (ℕ × ℕ)) (word value w : ℕ) (b : Bool) → (b ≡ true → q.0 ≡ word) → StaySeen ps (with_value ps word value) →
    one_unless (value_of (if b then (word, value) ∷ ps else q ∷ with_value ps word value) w) ≤ one_unless (value_of (q ∷ ps) w)
put_there q ps word value w true same rest =
    let e : q.0 ≡ word = same refl in
    subst (λ n. one_unless (cond (word == w) (Some value) (value_of ps w)) ≤ one_unless (cond (n == w) (Some q.1) (value_of ps w))) (sym e)
    (either (word == w)) where
      either : (c : Bool) → one_unless (cond c (Some value) (value_of ps w)) ≤ one_unless (cond c (Some q.1) (value_of ps w))
      either true = omega arith
      either false = omega arith
put_there q ps word value w false same rest = cond_less (q.0 == w) q.1 (value_of (with_value ps word value) w) (value_of ps w) (rest w)

same_by : (a b : ℕ) → (a == b) ≡ true → a ≡ b
same_by a b e = grind (arith, nat_tests)

put_stays : (pairs : List (ℕ × ℕ)) (word value : ℕ) → StaySeen pairs (with_value pairs word value)
put_stays [] word value w = few_one (value_of ((word, value) ∷ []) w)
put_stays (p ∷ ps) word value w = put_there p ps word value w (p.0 == word) (λ e. same_by p.0 word e) (put_stays ps word value)

pub patched_stays : (pairs : List (ℕ × ℕ)) (ws : List Write) → StaySeen pairs (patched pairs ws)
patched_stays pairs [] w = omega arith
patched_stays pairs (x ∷ ws) w = let a = put_stays pairs x.word x.value w in let b = patched_stays (with_value pairs x.word x.value) ws w in omega arith

pub words_unseen_less : (n : ℕ) (pairs more : List (ℕ × ℕ)) → StaySeen pairs more → words_unseen n more ≤ words_unseen n pairs
words_unseen_less zero pairs more stay = omega arith
words_unseen_less (suc n) pairs more stay = let a = stay n in let b = words_unseen_less n pairs more stay in omega arith

pub words_unseen_falls : (n : ℕ) (pairs more : List (ℕ × ℕ)) (word : ℕ) → word < n → one_unless (value_of pairs word) ≡ 1 →
    one_unless (value_of more word) ≡ 0 → StaySeen pairs more → words_unseen n more + 1 ≤ words_unseen n pairs
words_unseen_falls zero pairs more word low was is stay = absurd (omega arith)
words_unseen_falls (suc n) pairs more word low was is stay =
    ⊎_elim
    (λ lt. let a = stay n in let b = words_unseen_falls n pairs more word lt was is stay in omega arith)
    (λ ge.
    let e : word ≡ n = omega arith in
    let a : one_unless (value_of pairs n) ≡ 1 = subst (λ k. one_unless (value_of pairs k) ≡ 1) e was in
    let b : one_unless (value_of more n) ≡ 0 = subst (λ k. one_unless (value_of more k) ≡ 0) e is in
    let c = words_unseen_less n pairs more stay in omega arith)
    (cases_lt word n)

pub few_words_unseen : (n : ℕ) (pairs : List (ℕ × ℕ)) → words_unseen n pairs ≤ n
few_words_unseen zero pairs = omega arith
few_words_unseen (suc n) pairs = let a = few_one (value_of pairs n) in let b = few_words_unseen n pairs in omega arith
