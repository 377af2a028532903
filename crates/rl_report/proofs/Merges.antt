-- The gets and holds, sorted by the counts that they looked at and put between the updates, are the history.
use Rattle.std.proofs.Common.{◌≡◌, ℕ, suc, ◌+◌, ◌-◌, ◌<◌, ◌≤◌, ◌&&◌, Bool, true, false, not, cond, leb, ltb, eqb, List, [], ◌∷◌, ◌++◌, length, take, drop, filter, get_or, Result, Ok, Err, IfOk, refl, sym, ap, subst, ◌∙◌, add-one, append_assoc, arith, drop-cons}
use denote.Ref.{Bor}
use Rattle.std.specs.List.Sorted.{IsNonDecreasingBy, IsStableByKey, ties}
use Rattle.std.specs.Ordering.{nat_cmp, is_lt}
use Rattle.std.specs.declared.cmp.Ordering.TheVariants.{Less, Equal, Greater}
use Rattle.std.proofs.Math.ListN.{get_or-map}
use Rattle.std.proofs.lemmas.Bool.Decides.{nat_tests}
use Rattle.std.proofs.lemmas.List.{drop-drop, drop-map, length-drop, length-map, take-map, take_all}
use Rattle.std.proofs.lemmas.List.Sums.{prefix_len-le-length}
use Rattle.std.proofs.lemmas.List.Elements.{filter-append, filter_agree}
use Rattle.rl_model.specs.declared.call.Call.TheVariants.{Hold}
use Rattle.rl_model.specs.declared.entry.Entry.{Entry}
use Rattle.rl_model.specs.declared.entry.Reply.TheVariants.{Held}
use Rattle.rl_journal.specs.History.{looked_at, reads_at, history_from, history}
use Rattle.rl_journal.specs.Legal.{updates}
use Rattle.rl_report.specs.Merging.{is_read, all_reads, seen, up_to, merged}

pub up_to_inside : (count : ℕ) (entries : List Entry) → up_to count entries ≤ length entries
up_to_inside count entries = prefix_len-le-length (λ e. leb e.at count) entries

-- a reference to an entry, wherever it may point
abbrev to : Entry → Bor Entry
to e = record { ref_ptr = (0, 0); now = e }

-- a test of the entries that references show
filter_seen : (p : Entry → Bool) (rs : List (Bor Entry)) → filter p (seen rs) ≡ seen (filter (λ r. p r.now) rs)
filter_seen p [] = refl
filter_seen p (r ∷ rs) =
    elim (p r.now) as (λ b. cond b (r.now ∷ filter p (seen rs)) (filter p (seen rs)) ≡ seen (cond b (r ∷ filter (λ r. p r.now) rs) (filter (λ r. p r.now) rs))) [
      | true ↦ ap (λ z. r.now ∷ z) (filter_seen p rs)
      | false ↦ filter_seen p rs
    ]

pub up_to_within : (count : ℕ) (rs : List (Bor Entry)) → up_to count (seen rs) ≤ length rs
up_to_within count rs = rw length-map at (up_to_inside count (seen rs))

pub up_to_stops : (count i : ℕ) (rs : List (Bor Entry)) (d : Bor Entry) → i < length rs → count < (get_or rs i d).now.at → up_to count (seen (drop i rs)) ≡ 0
up_to_stops count i rs d lt high =
    let miss : leb (get_or rs i d).now.at count ≡ false = grind (arith, nat_tests) in
    rw (drop-cons rs i d) (ap (λ b. cond {A = ℕ} b (1 + up_to count (seen (drop (suc i) rs))) 0) miss)

-- those so far are all of the first ones
pub first_ones : (count i : ℕ) (rs : List (Bor Entry)) (d : Bor Entry) → i < length rs → count < (get_or rs i d).now.at → up_to count (seen rs) ≡ i + up_to count (seen (drop i rs)) → seen (take i rs) ≡ take (up_to count (seen rs)) (seen rs)
first_ones count i rs d lt high counted =
    let none = up_to_stops count i rs d lt high in
    let here : up_to count (seen rs) ≡ i = omega arith in
    sym (take-map (λ (r : Bor Entry). r.now) i rs) ∙ ap (λ n. take n (seen rs)) (sym here)

-- at one place of the journal: the gets and holds up to its count, the update, and the rest
pub merged_more : (rs : List (Bor Entry)) (start place : ℕ) (es : List Entry) (d : Entry) → place < length es
    → merged (seen (drop start rs)) place (drop place es) ≡ take (up_to place (seen (drop start rs))) (seen (drop start rs)) ++ get_or es place d ∷ merged (seen (drop (start + up_to place (seen (drop start rs))) rs)) (place + 1) (drop (place + 1) es)
merged_more rs start place es d lt =
    let n = up_to place (seen (drop start rs)) in
    let later : drop n (seen (drop start rs)) ≡ seen (drop (start + n) rs) = drop-map (λ (r : Bor Entry). r.now) n (drop start rs) ∙ ap seen (drop-drop n start rs) in
    let opened : drop place es ≡ get_or es place d ∷ drop (place + 1) es = rw (drop-cons es place d, add-one) refl in
    ap (λ z. merged (seen (drop start rs)) place z) opened
    ∙ ap (λ z. take n (seen (drop start rs)) ++ get_or es place d ∷ merged z (place + 1) (drop (place + 1) es)) later

-- an iteration: those up to the count and the update come to what stands
pub one_more : (rs : List (Bor Entry)) (start n place : ℕ) (es : List Entry) (d : Entry) (before among after whole : List Entry) → place < length es
    → before ++ merged (seen (drop start rs)) place (drop place es) ≡ whole
    → among ≡ before ++ take (up_to place (seen (drop start rs))) (seen (drop start rs)) → n ≡ up_to place (seen (drop start rs))
    → after ≡ among ++ get_or es place d ∷ []
    → after ++ merged (seen (drop (start + n) rs)) (place + 1) (drop (place + 1) es) ≡ whole
one_more rs start n place es d before among after whole lt stands pushed counted updated =
    let here = take (up_to place (seen (drop start rs))) (seen (drop start rs)) in
    let rest = merged (seen (drop (start + n) rs)) (place + 1) (drop (place + 1) es) in
    let step : merged (seen (drop start rs)) place (drop place es) ≡ here ++ get_or es place d ∷ rest =
    subst (λ k. merged (seen (drop start rs)) place (drop place es) ≡ here ++ get_or es place d ∷ merged (seen (drop (start + k) rs)) (place + 1) (drop (place + 1) es)) (sym counted) (merged_more rs start place es d lt) in
    ap (λ z. z ++ rest) updated
    ∙ ap (λ z. (z ++ get_or es place d ∷ []) ++ rest) pushed
    ∙ append_assoc (before ++ here) (get_or es place d ∷ []) rest
    ∙ append_assoc before here (get_or es place d ∷ rest)
    ∙ ap (λ z. before ++ z) (sym step)
    ∙ stands

-- all from a place on
pub from_there : (start : ℕ) (rs : List (Bor Entry)) → take (length rs - start) (drop start rs) ≡ drop start rs
from_there start rs = take_all (length rs - start) (drop start rs) (omega (arith, length-drop start rs))

pub start_within : (place start : ℕ) (rs : List (Bor Entry)) → start ≤ length rs → start + up_to place (seen (drop start rs)) ≤ length rs
start_within place start rs low = let h = up_to_within place (drop start rs) in omega (arith, length-drop start rs)

-- sorted references show sorted entries
pub sorted_seen : (rs : List (Bor Entry)) → IsNonDecreasingBy (λ r. r.now.at) rs → IsNonDecreasingBy (λ e. e.at) (seen rs)
sorted_seen rs up i j d le lt =
    let lower = get_or-map (λ (r : Bor Entry). r.now) rs i (to d) in
    let higher = get_or-map (λ (r : Bor Entry). r.now) rs j (to d) in
    let within : j < length rs = rw length-map at lt in
    let rises = up i j (to d) le within in
    rw (lower, higher) rises

pub stable_seen : (before after : List (Bor Entry)) → IsStableByKey (λ r. r.now.at) nat_cmp before after → IsStableByKey (λ e. e.at) nat_cmp (seen before) (seen after)
stable_seen before after stable e =
    let tied = ties (λ (x y : Entry). is_lt (nat_cmp x.at y.at)) e in
    filter_seen tied after ∙ ap seen (stable (to e)) ∙ sym (filter_seen tied before)

-- the entry looked at this count
abbrev pub is_at : ℕ → Entry → Bool
is_at p e = eqb e.at p

-- each entry of a list looked at this count or a later one
abbrev AreFrom : ℕ → List Entry → Type 0
AreFrom p [] = Unit {0}
AreFrom p (e ∷ es) = (p ≤ e.at) × AreFrom p es

-- the counts don't fall
abbrev pub AreSorted : List Entry → Type 0
AreSorted [] = Unit {0}
AreSorted (e ∷ es) = AreFrom e.at es × AreSorted es

from_weaker : (p q : ℕ) (es : List Entry) → q ≤ p → AreFrom p es → AreFrom q es
from_weaker p q [] low all = tt
from_weaker p q (e ∷ es) low all = (omega (arith, all.0), from_weaker p q es low all.1)

-- none is at an earlier count
none_earlier : (p q : ℕ) (es : List Entry) → q < p → AreFrom p es → filter (is_at q) es ≡ []
none_earlier p q [] low all = refl
none_earlier p q (e ∷ es) low all =
    let miss : is_at q e ≡ false = let h = all.0 in grind (arith, nat_tests) in
    ap (λ b. cond b (e ∷ filter (is_at q) es) (filter (is_at q) es)) miss ∙ none_earlier p q es low all.1

-- What is known of a sorted list from count p on, cut after the entries at p: the front are those, and the rest are sorted and later.
record IsCut (p : ℕ) (es : List Entry) : Type 0 where
  here : take (up_to p es) es ≡ filter (is_at p) es
  later : AreFrom (p + 1) (drop (up_to p es) es)
  sorted : AreSorted (drop (up_to p es) es)
  others : (q : ℕ) → p < q → filter (is_at q) (drop (up_to p es) es) ≡ filter (is_at q) es

cut : (p : ℕ) (es : List Entry) → AreFrom p es → AreSorted es → IsCut p es
cut p [] from sorted = record { here = refl; later = tt; sorted = tt; others = λ q h. refl }
cut p (e ∷ es) from sorted =
    elim (leb e.at p) as (λ b. leb e.at p ≡ b → IsCut p (e ∷ es)) [
      | true ↦ λ h.
          let same : e.at ≡ p = let low = from.0 in grind (arith, nat_tests) in
          let hit : is_at p e ≡ true = grind (arith, nat_tests) in
          let c : IsCut p es = cut p es from.1 sorted.1 in
          let one_more : up_to p (e ∷ es) ≡ suc (up_to p es) = ap (λ b. cond {A = ℕ} b (1 + up_to p es) 0) h ∙ omega arith in
          record {
            here = ap (λ n. take n (e ∷ es)) one_more ∙ ap (λ z. e ∷ z) c.here ∙ ap (λ b. cond b (e ∷ filter (is_at p) es) (filter (is_at p) es)) (sym hit);
            later = subst (λ n. AreFrom (p + 1) (drop n (e ∷ es))) (sym one_more) c.later;
            sorted = subst (λ n. AreSorted (drop n (e ∷ es))) (sym one_more) c.sorted;
            others = λ q low.
                let miss : is_at q e ≡ false = grind (arith, nat_tests) in
                ap (λ n. filter (is_at q) (drop n (e ∷ es))) one_more ∙ c.others q low ∙ ap (λ b. cond b (e ∷ filter (is_at q) es) (filter (is_at q) es)) (sym miss);
          }
      | false ↦ λ h.
          let beyond : p < e.at = grind (arith, nat_tests) in
          let none : up_to p (e ∷ es) ≡ 0 = ap (λ b. cond {A = ℕ} b (1 + up_to p es) 0) h in
          let all : AreFrom (p + 1) (e ∷ es) = (omega arith, from_weaker e.at (p + 1) es (omega arith) sorted.0) in
          record {
            here = ap (λ n. take n (e ∷ es)) none ∙ sym (none_earlier (p + 1) p (e ∷ es) (omega arith) all);
            later = subst (λ n. AreFrom (p + 1) (drop n (e ∷ es))) (sym none) all;
            sorted = subst (λ n. AreSorted (drop n (e ∷ es))) (sym none) sorted;
            others = λ q low. ap (λ n. filter (is_at q) (drop n (e ∷ es))) none;
          }
    ] refl

-- put between the updates, they are the history
merged_from : (ts : List (List Entry)) (rest : List Entry) (p : ℕ) (es : List Entry) → AreFrom p rest → AreSorted rest → ((q : ℕ) → p ≤ q → filter (is_at q) rest ≡ reads_at q ts) → merged rest p es ≡ history_from ts p es
merged_from ts rest p [] from sorted same = (cut p rest from sorted).here ∙ same p (omega arith)
merged_from ts rest p (e ∷ es) from sorted same =
    let c : IsCut p rest = cut p rest from sorted in
    let on : merged (drop (up_to p rest) rest) (p + 1) es ≡ history_from ts (p + 1) es =
    merged_from ts (drop (up_to p rest) rest) (p + 1) es c.later c.sorted (λ q low. c.others q (omega arith) ∙ same q (omega arith)) in
    ap (λ z. z ++ e ∷ merged (drop (up_to p rest) rest) (p + 1) es) (c.here ∙ same p (omega arith)) ∙ ap (λ z. reads_at p ts ++ e ∷ z) on

-- the reads at a count among all reads
reads-twice : (p : ℕ) (t : List Entry) → filter (looked_at p) t ≡ filter (is_at p) (filter is_read t)
reads-twice p [] = refl
reads-twice p (e ∷ es) =
    elim (updates e) as (λ b. cond (not b && eqb e.at p) (e ∷ filter (looked_at p) es) (filter (looked_at p) es) ≡ filter (is_at p) (cond (not b) (e ∷ filter is_read es) (filter is_read es))) [
      | true ↦ reads-twice p es
      | false ↦ ap (λ z. cond (eqb e.at p) (e ∷ z) z) (reads-twice p es)
    ]

reads_among : (p : ℕ) (ts : List (List Entry)) → filter (is_at p) (all_reads ts) ≡ reads_at p ts
reads_among p [] = refl
reads_among p (t ∷ ts) = filter-append (is_at p) (filter is_read t) (all_reads ts) ∙ ap (λ z. z ++ filter (is_at p) (all_reads ts)) (sym (reads-twice p t)) ∙ ap (λ z. filter (looked_at p) t ++ z) (reads_among p ts)

-- sorted as std says, they are sorted so
from_bound : (p : ℕ) (es : List Entry) → ((i : ℕ) (d : Entry) → i < length es → p ≤ (get_or es i d).at) → AreFrom p es
from_bound p [] h = tt
from_bound p (e ∷ es) h = (h 0 e (omega arith), from_bound p es (λ i d low. h (suc i) d (omega arith)))

sorted_is : (es : List Entry) → IsNonDecreasingBy (λ e. e.at) es → AreSorted es
sorted_is [] up = tt
sorted_is (e ∷ es) up =
    (from_bound e.at es (λ i d low. up 0 (suc i) d (omega arith) (omega arith)), sorted_is es (λ i j d le low. up (suc i) (suc j) d (omega arith) (omega arith)))

-- all of a list
from_zero : (es : List Entry) → AreFrom 0 es
from_zero [] = tt
from_zero (e ∷ es) = (omega arith, from_zero es)

-- an entry at a count, to compare with
abbrev entry_at : ℕ → Entry
entry_at p = record { shard = 0; rank = 0; seq = 0; call = Hold 0; at = p; reply = Held; batch = 0; part = 0 }

-- one number is less than another where it is
less_is : (a b : Bool) → is_lt (cond a Less (cond b Equal Greater)) ≡ a
less_is true b = refl
less_is false true = refl
less_is false false = refl

nat_cmp-ltb : (m n : ℕ) → is_lt (nat_cmp m n) ≡ ltb m n
nat_cmp-ltb m n = less_is (ltb m n) (eqb m n)

-- what ties with it looked at that count
ties_at : (p : ℕ) (e : Entry) → ties (λ (x y : Entry). is_lt (nat_cmp x.at y.at)) (entry_at p) e ≡ is_at p e
ties_at p e = rw (nat_cmp-ltb p e.at, nat_cmp-ltb e.at p) (grind (arith, nat_tests))

same_at : (sorted reads : List Entry) → IsStableByKey (λ e. e.at) nat_cmp reads sorted → (p : ℕ) → filter (is_at p) sorted ≡ filter (is_at p) reads
same_at sorted reads stable p =
    filter_agree (is_at p) (ties (λ (x y : Entry). is_lt (nat_cmp x.at y.at)) (entry_at p)) (λ e. sym (ties_at p e)) sorted
    ∙ stable (entry_at p)
    ∙ filter_agree (ties (λ (x y : Entry). is_lt (nat_cmp x.at y.at)) (entry_at p)) (is_at p) (ties_at p) reads

pub merged_is : (journal : List Entry) (ts : List (List Entry)) (sorted : List Entry) → IsNonDecreasingBy (λ e. e.at) sorted → IsStableByKey (λ e. e.at) nat_cmp (all_reads ts) sorted → merged sorted 0 journal ≡ history journal ts
merged_is journal ts sorted up stable =
    merged_from ts sorted 0 journal (from_zero sorted) (sorted_is sorted up) (λ q low. same_at sorted (all_reads ts) stable q ∙ reads_among q ts)

-- the same of the result that was handed on
pub is_history : {X E : Type 0} (items : X → List Entry) (journal : List Entry) (ts : List (List Entry)) (sorted : List Entry) (r : Result X E) → IsNonDecreasingBy (λ e. e.at) sorted → IsStableByKey (λ e. e.at) nat_cmp (all_reads ts) sorted
    → IfOk r (λ x. items x ≡ merged sorted 0 journal) → IfOk r (λ x. items x ≡ history journal ts)
is_history items journal ts sorted (Ok x) up stable e = e ∙ merged_is journal ts sorted up stable
is_history items journal ts sorted (Err f) up stable e = tt
