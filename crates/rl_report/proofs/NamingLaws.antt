-- A proper placement names things by plain words, no two queues by the same.
use Rattle.std.proofs.Common.{◌≡◌, ℕ, zero, suc, ◌+◌, ◌-◌, ◌*◌, ◌^◌, ◌<◌, ◌≤◌, true, false, cond, List, [], ◌∷◌, ◌++◌, length, map, fold, take, codes, decimal, Some, ◌⊎◌, inl, inr, refl, sym, ap, subst, ◌∙◌, ⊎_elim, arith}
use Rattle.std.specs.List.{AllByRecursion, list_any, slice_get, join_with_byte}
use Rattle.std.specs.Str.{bytes_eq}
use Rattle.std.proofs.lemmas.Bool.{eq-eqb, ne_eqb}
use Rattle.std.proofs.lemmas.List.{length-append, length-map, length-take-le}
use Rattle.std.proofs.lemmas.Option.{same_Some}
use Rattle.std.proofs.lemmas.Slice.Eq.{bytes_eq-Decides}
use Rattle.rl_text.specs.Cut.{pieces}
use Rattle.rl_text.specs.Number.{number_of}
use Rattle.rl_text.proofs.Decimals.{number_of-decimal}
use Rattle.rl_text.proofs.TextLaws.{pieces-join, is_plain}
use Rattle.rl_text.proofs.WordLaws.{decimal-no_word}
use Rattle.rl_word.specs.declared.locks.LockName.{LockName}
use Rattle.rl_word.specs.declared.locks.LockName.TheVariants as named
use Rattle.rl_word.specs.declared.locks.QueueKind.{QueueKind}
use Rattle.rl_word.specs.declared.locks.QueueKind.TheVariants.{NoQueue, OneForAll, TwoCohorts, Elements}
use Rattle.rl_word.specs.laws.Places.{get_map_back}
use Rattle.rl_place.specs.declared.path.Path.{Path}
use Rattle.rl_place.specs.LockWords.{lock_word, name_of}
use Rattle.rl_place.specs.Paths.{IsPath, root_path, path_of, path_word, prefix}
use Rattle.rl_place.specs.Numbering.{same_path, seen_after, prefixes_to, elements_after, element_paths}
use Rattle.rl_place.specs.Places.{ThePlace, IsProper}
use Rattle.rl_place.proofs.PathLaws.{all-fit, no_dots, numbers_in-path, plain-path}
use Rattle.rl_place.proofs.PrefixLaws.{IsTrim, front_path, trim-path}
use Rattle.rl_place.proofs.NumberingLaws.{IsFrom, ElementsAre, elements-are}
use Rattle.rl_report.specs.Naming.{TheQueueName, element_word, element_queue_name, element_queue_names, lone_queue, queue_names, cohort_queue_names, queue_kind, naming_of}
use Rattle.rl_report.proofs.EventLaws.{IsNaming}

-- ---- how many queues there are

few-after : (seen : List Path) (p : Path) → length (seen_after seen p) ≤ length seen + 1
few-after seen p = elim (list_any (same_path p) seen) as (λ b. length (cond b seen (seen ++ p ∷ [])) ≤ length seen + 1) [ true ↦ omega arith | false ↦ omega (arith, length-append seen (p ∷ [])) ]

few-groups : (seen : List Path) (ps : List Path) → length (fold seen_after seen ps) ≤ length seen + length ps
few-groups seen [] = omega arith
few-groups seen (p ∷ ps) = omega (arith, few-after seen p, few-groups (seen_after seen p) ps)

length-prefixes : (path : Path) (n : ℕ) → length (prefixes_to path n) ≡ n
length-prefixes path zero = refl
length-prefixes path (suc n) = length-append (prefixes_to path n) (prefix path (suc n) ∷ []) ∙ ap (λ k. k + 1) (length-prefixes path n) ∙ omega arith

few-elements : (levels : ℕ) (seen : List Path) (paths : List Path) → levels ≤ 3 → AllByRecursion (IsPath levels) paths → length (fold elements_after seen paths) ≤ length seen + 3 * length paths
few-elements levels seen [] most proper = omega arith
few-elements levels seen (p ∷ ps) most proper =
    let whole : IsPath levels p = proper.0 in
    let same : p.len ≡ levels = ap (λ (q : Path). q.len) whole.is ∙ whole.count in
    omega (arith, most, same, length-prefixes p p.len, few-groups seen (prefixes_to p p.len), few-elements levels (elements_after seen p) ps most proper.1)

pub few_of_kind : (place : ThePlace) → IsProper place → (kind : QueueKind) → length (queue_names kind place.levels place.paths) < 2 ^ 32
unfolding element_paths
few_of_kind place proper kind = by kind where
  few : length (element_queue_names place.levels (element_paths place.paths)) < 2 ^ 32
  few =
      let most : length (element_paths place.paths) ≤ 1 + 3 * length place.paths = few-elements place.levels (root_path ∷ []) place.paths proper.most_levels proper.paths in
      omega (arith, most, proper.most_ranks, length-map (element_paths place.paths) (element_queue_name place.levels (element_paths place.paths)))

  by : (k : QueueKind) → length (queue_names k place.levels place.paths) < 2 ^ 32
  by NoQueue = omega arith
  by OneForAll = omega arith
  by TwoCohorts = omega arith
  by (Elements root) = few

pub few_queues : (place : ThePlace) → IsProper place → length (naming_of place).queues < 2 ^ 32
few_queues place proper = few_of_kind place proper (queue_kind place.lock)

-- ---- a path's word tells its numbers

-- the pieces of a path's word
pieces-path : (levels : ℕ) (p : Path) → 1 ≤ levels → (proper : IsPath levels p) → pieces 46 (path_word p) ≡ map decimal proper.numbers
pieces-path levels p some proper =
    ap (λ (ns : List ℕ). pieces 46 (join_with_byte 46 (map decimal ns))) (numbers_in-path levels p proper)
    ∙ pieces-join 46 (map decimal proper.numbers) (omega (arith, some, proper.count, length-map proper.numbers decimal)) (no_dots proper.numbers (all-fit proper.numbers proper.small)) refl

same_decimal : (m n : ℕ) → m < 2 ^ 64 → n < 2 ^ 64 → decimal m ≡ decimal n → m ≡ n
same_decimal m n h k e = same_Some m n (sym (number_of-decimal m h) ∙ ap number_of e ∙ number_of-decimal n k)

heads : (a b : List ℕ) (xs ys : List (List ℕ)) → ◌≡◌ {A = List (List ℕ)} (a ∷ xs) (b ∷ ys) → (a ≡ b) × (xs ≡ ys)
heads a b xs ys e = (cc, cc)

same_numbers : (ms ns : List ℕ) → AllByRecursion (λ n. n < 2 ^ 64) ms → AllByRecursion (λ n. n < 2 ^ 64) ns → map decimal ms ≡ map decimal ns → ms ≡ ns
same_numbers [] [] h k e = refl
same_numbers [] (n ∷ ns) h k e = absurd (cc)
same_numbers (m ∷ ms) [] h k e = absurd (cc)
same_numbers (m ∷ ms) (n ∷ ns) h k e =
    let t = heads (decimal m) (decimal n) (map decimal ms) (map decimal ns) e in
    ap (λ z. z ∷ ms) (same_decimal m n h.0 k.0 t.0) ∙ ap (λ zs. n ∷ zs) (same_numbers ms ns h.1 k.1 t.1)

same_word : (a b : Path) (n m : ℕ) → 1 ≤ n → 1 ≤ m → IsPath n a → IsPath m b → path_word a ≡ path_word b → a ≡ b
same_word a b n m some other p q e =
    let numbers : p.numbers ≡ q.numbers = same_numbers p.numbers q.numbers (all-fit p.numbers p.small) (all-fit q.numbers q.small) (sym (pieces-path n a some p) ∙ ap (pieces 46) e ∙ pieces-path m b other q) in
    p.is ∙ ap path_of numbers ∙ sym q.is

-- the root's word is no path's
root_word : (p : Path) (n : ℕ) → 1 ≤ n → IsPath n p → path_word p ≡ codes "root" → ⊥
root_word p n some proper e = by proper.numbers proper.count (all-fit proper.numbers proper.small) (sym (pieces-path n p some proper) ∙ ap (pieces 46) e) where
  by : (ns : List ℕ) → length ns ≡ n → AllByRecursion (λ k. k < 2 ^ 64) ns → map decimal ns ≡ codes "root" ∷ [] → ⊥
  by [] count fits is = omega (arith, count)
  by (k ∷ ns) count fits is =
      let same : decimal k ≡ codes "root" = (heads (decimal k) (codes "root") (map decimal ns) [] is).0 in
      let hit = (bytes_eq-Decides (decimal k) (codes "root")).1 same in
      let miss = decimal-no_word k (codes "root") fits.0 (omega arith) in
      cc

-- the two cohorts have different names
unlike : codes "local" ≡ codes "remote" → ⊥
unlike e = let hit : bytes_eq (codes "local") (codes "remote") ≡ true = (bytes_eq-Decides (codes "local") (codes "remote")).1 e in cc

-- ---- elements

take_small : (k : ℕ) (ns : List ℕ) → AllByRecursion (λ part. part ≤ 999) ns → AllByRecursion (λ part. part ≤ 999) (take k ns)
take_small zero ns h = tt
take_small (suc k) [] h = tt
take_small (suc k) (n ∷ ns) h = (h.0, take_small k ns h.1)

pub all_paths : (levels : ℕ) (paths : List Path) (r : ℕ) (p : Path) → AllByRecursion (λ path. IsPath levels path) paths → slice_get paths r ≡ Some p → IsPath levels p
all_paths levels [] r p all get = absurd (cc)
all_paths levels (q ∷ paths) zero p all get = subst (IsPath levels) (same_Some q p get) all.0
all_paths levels (q ∷ paths) (suc r) p all get = all_paths levels paths r p all.1 get

pub all_trim : (levels : ℕ) (paths : List Path) → AllByRecursion (λ path. IsPath levels path) paths → AllByRecursion IsTrim paths
all_trim levels [] all = tt
all_trim levels (p ∷ paths) all = (trim-path levels p all.0, all_trim levels paths all.1)

module _ (place : ThePlace) (proper : IsProper place) where
  abbrev names : List Path
  names = element_paths place.paths

  are : ElementsAre place.paths names
  are = elements-are place.paths proper.some_ranks (all_trim place.levels place.paths proper.paths)

  -- an element's path has as many numbers as it says
  element_path : (i : ℕ) (p : Path) → slice_get names i ≡ Some p → IsPath p.len p
  element_path i p get =
      let f : IsFrom place.paths p = are.are.of i p get in
      let whole : IsPath place.levels f.path = all_paths place.levels place.paths f.there.0 f.path proper.paths f.there.1 in
      let few : p.len ≤ length whole.numbers = let most = f.most in omega (arith, ap (λ (q : Path). q.len) whole.is) in
      record {
        numbers = take p.len whole.numbers;
        count = length-take-le p.len whole.numbers few;
        small = take_small p.len whole.numbers whole.small;
        is = f.is ∙ ap (λ (q : Path). prefix q p.len) whole.is ∙ front_path whole.numbers p.len few;
      }

  -- an element's word
  word_cases : (p : Path) → IsPath p.len p → ((p.len ≡ 0) × (element_word p ≡ codes "root")) ⊎ ((1 ≤ p.len) × (element_word p ≡ path_word p))
  word_cases p path = by p.len refl where
    by : (n : ℕ) → p.len ≡ n → ((p.len ≡ 0) × (element_word p ≡ codes "root")) ⊎ ((1 ≤ p.len) × (element_word p ≡ path_word p))
    by zero is = inl (is, ap (λ b. cond b (codes "root") (path_word p)) (eq-eqb p.len 0 is))
    by (suc n) is = inr (omega arith, ap (λ b. cond b (codes "root") (path_word p)) (ne_eqb p.len 0 (λ e. absurd (omega arith))))

  no_numbers : (p : Path) → IsPath p.len p → p.len ≡ 0 → p ≡ path_of []
  no_numbers p path none = by path.numbers (path.count ∙ none) path.is where
    by : (ns : List ℕ) → length ns ≡ 0 → p ≡ path_of ns → p ≡ path_of []
    by [] count is = is
    by (n ∷ ns) count is = absurd (omega (arith, count))

  same_element : (a b : Path) → IsPath a.len a → IsPath b.len b → element_word a ≡ element_word b → a ≡ b
  same_element a b p q e = ⊎_elim
      (λ x. ⊎_elim
      (λ y. no_numbers a p x.0 ∙ sym (no_numbers b q y.0))
      (λ y. absurd (root_word b b.len y.0 q (sym y.1 ∙ sym e ∙ x.1)))
      (word_cases b q))
      (λ x. ⊎_elim
      (λ y. absurd (root_word a a.len x.0 p (sym x.1 ∙ e ∙ y.1)))
      (λ y. same_word a b a.len b.len x.0 y.0 p q (sym x.1 ∙ e ∙ y.1))
      (word_cases b q))
      (word_cases a p)

  element_plain : (p : Path) → IsPath p.len p → is_plain (element_word p) ≡ true
  element_plain p path = ⊎_elim (λ x. ap is_plain x.1) (λ x. ap is_plain x.1 ∙ plain-path p.len p path) (word_cases p path)

  elements_apart : (i j : ℕ) (a b : TheQueueName) → slice_get (element_queue_names place.levels names) i ≡ Some a → slice_get (element_queue_names place.levels names) j ≡ Some b → a.word ≡ b.word → i ≡ j
  elements_apart i j a b get other same =
      let x = get_map_back (element_queue_name place.levels names) names i a get in
      let y = get_map_back (element_queue_name place.levels names) names j b other in
      let paths : x.0 ≡ y.0 = same_element x.0 y.0 (element_path i x.0 x.1) (element_path j y.0 y.1) (ap (λ (q : TheQueueName). q.word) x.2 ∙ same ∙ sym (ap (λ (q : TheQueueName). q.word) y.2)) in
      are.are.once i j y.0 (x.1 ∙ ap (λ (p : Path). Some p) paths) y.1

  elements_plain : AllByRecursion (λ queue. is_plain queue.word ≡ true) (element_queue_names place.levels names)
  elements_plain = by names (λ i p get. element_plain p (element_path i p get)) where
    by : (ps : List Path) → ((i : ℕ) (p : Path) → slice_get ps i ≡ Some p → is_plain (element_word p) ≡ true) → AllByRecursion (λ queue. is_plain queue.word ≡ true) (map (element_queue_name place.levels names) ps)
    by [] all = tt
    by (p ∷ ps) all = (all 0 p refl, by ps (λ i q get. all (suc i) q get))

  queues_plain : (kind : QueueKind) → AllByRecursion (λ queue. is_plain queue.word ≡ true) (queue_names kind place.levels place.paths)
  queues_plain NoQueue = tt
  queues_plain OneForAll = (refl, tt)
  queues_plain TwoCohorts = (refl, (refl, tt))
  queues_plain (Elements root) = elements_plain

  word : (q a : TheQueueName) → Some q ≡ Some a → q.word ≡ a.word
  word q a e = ap (λ (z : TheQueueName). z.word) (same_Some q a e)

  cohorts_apart : (i j : ℕ) (a b : TheQueueName) → slice_get cohort_queue_names i ≡ Some a → slice_get cohort_queue_names j ≡ Some b → a.word ≡ b.word → i ≡ j
  cohorts_apart zero zero a b get other same = refl
  cohorts_apart zero (suc zero) a b get other same = absurd (unlike (word (lone_queue (codes "local")) a get ∙ same ∙ sym (word (lone_queue (codes "remote")) b other)))
  cohorts_apart zero (suc (suc j)) a b get other same = absurd (cc)
  cohorts_apart (suc zero) zero a b get other same = absurd (unlike (sym (word (lone_queue (codes "remote")) a get ∙ same ∙ sym (word (lone_queue (codes "local")) b other))))
  cohorts_apart (suc zero) (suc zero) a b get other same = refl
  cohorts_apart (suc zero) (suc (suc j)) a b get other same = absurd (cc)
  cohorts_apart (suc (suc i)) j a b get other same = absurd (cc)

  queues_apart : (kind : QueueKind) (i j : ℕ) (a b : TheQueueName) → slice_get (queue_names kind place.levels place.paths) i ≡ Some a → slice_get (queue_names kind place.levels place.paths) j ≡ Some b → a.word ≡ b.word → i ≡ j
  queues_apart NoQueue i j a b get other same = absurd (cc)
  queues_apart OneForAll zero zero a b get other same = refl
  queues_apart OneForAll zero (suc j) a b get other same = absurd (cc)
  queues_apart OneForAll (suc i) j a b get other same = absurd (cc)
  queues_apart TwoCohorts i j a b get other same = cohorts_apart i j a b get other same
  queues_apart (Elements root) i j a b get other same = elements_apart i j a b get other same

  lock_plain : (name : LockName) → is_plain (lock_word name) ≡ true
  lock_plain named.Spin = refl
  lock_plain named.Dmcs = refl
  lock_plain named.Alock = refl
  lock_plain named.Mcs = refl
  lock_plain named.Rw = refl
  lock_plain named.Seq = refl
  lock_plain named.Combine = refl

  pub is_naming : IsNaming (naming_of place)
  is_naming = record {
    lock_plain = lock_plain (name_of place.lock);
    few_ranks = proper.most_ranks;
    few_shards = proper.geom.shards;
    plain = queues_plain (queue_kind place.lock);
    apart = queues_apart (queue_kind place.lock);
  }
