-- A rank's entries by number.
use Rattle.std.proofs.Common.{◌≡◌, ◌≢◌, ℕ, zero, suc, ◌+◌, ◌<◌, ◌≤◌, Bool, true, false, cond, List, [], ◌∷◌, ◌++◌, length, take, get_or, Some, replicate, refl, sym, ap, subst, ◌∙◌, ⊎_elim, arith}
use Rattle.std.specs.Prelude.{slice_get, slice_set}
use Rattle.std.specs.List.{count_by}
use Rattle.std.proofs.lemmas.Option.{same_Some, slice_get_within, slice_get-get_or}
use Rattle.std.proofs.lemmas.List.{take_all}
use Rattle.std.proofs.lemmas.Bool.Decides.{nat_tests}
use Rattle.rl_word.specs.laws.Places.{get_set_cases}
use Rattle.rl_model.specs.declared.entry.Entry.{Entry}
use Rattle.rl_model.proofs.Counts.{count-append, count-cons}
use Rattle.rl_journal.specs.laws.Lists.{get_left}
use Rattle.rl_check.specs.declared.slots.Slot.{Slot}
use Rattle.rl_check.specs.declared.slots.Slot.TheVariants.{Empty, One, More}
use Rattle.rl_check.specs.Ranks.{is_numbered}
use Rattle.rl_check.specs.Slots.{SlotTells, AreSlots, slot_with}
use Rattle.rl_check.proofs.Places.{take_more}

one_more : (test : Entry → Bool) (xs : List Entry) (e : Entry) → count_by test (xs ++ e ∷ []) ≡ count_by test xs + cond (test e) 1 0
one_more test xs e = count-append test xs (e ∷ []) ∙ ap (λ n. count_by test xs + n) (count-cons test e [] ∙ omega arith)

numbered : (i : ℕ) (e : Entry) → e.seq ≡ i → is_numbered i e ≡ true
numbered i e h = grind (arith, nat_tests)

not_numbered : (i : ℕ) (e : Entry) → e.seq ≢ i → is_numbered i e ≡ false
not_numbered i e h = grind (arith, nat_tests)

last_there : (xs : List Entry) (e : Entry) → slice_get (xs ++ e ∷ []) (length xs) ≡ Some e
last_there [] e = refl
last_there (x ∷ xs) e = last_there xs e

-- an entry with another number
stays : (xs : List Entry) (e : Entry) (i : ℕ) (s : Slot) → e.seq ≢ i → SlotTells xs i s → SlotTells (xs ++ e ∷ []) i s
stays xs e i Empty ne t = let c = one_more (is_numbered i) xs e in let z : ◌≡◌ {A = ℕ} (cond (is_numbered i e) 1 0) 0 = ap (λ b. cond {A = ℕ} b 1 0) (not_numbered i e ne) in omega arith
stays xs e i (One d) ne t =
    let c = one_more (is_numbered i) xs e in
    let z : ◌≡◌ {A = ℕ} (cond (is_numbered i e) 1 0) 0 = ap (λ b. cond {A = ℕ} b 1 0) (not_numbered i e ne) in
    let o = t.0 in (omega arith, (t.1.0, get_left xs (e ∷ []) t.1.0 d t.1.1), t.2)
stays xs e i More ne t = let c = one_more (is_numbered i) xs e in omega arith

-- an entry with this number
joins : (xs : List Entry) (e : Entry) (s : Slot) → SlotTells xs e.seq s → SlotTells (xs ++ e ∷ []) e.seq (slot_with s e)
joins xs e Empty t =
    let c = one_more (is_numbered e.seq) xs e in
    let z : ◌≡◌ {A = ℕ} (cond (is_numbered e.seq e) 1 0) 1 = ap (λ b. cond {A = ℕ} b 1 0) (numbered e.seq e refl) in
    (omega arith, (length xs, last_there xs e), refl)
joins xs e (One d) t =
    let c = one_more (is_numbered e.seq) xs e in
    let z : ◌≡◌ {A = ℕ} (cond (is_numbered e.seq e) 1 0) 1 = ap (λ b. cond {A = ℕ} b 1 0) (numbered e.seq e refl) in
    let o = t.0 in omega arith
joins xs e More t =
    let c = one_more (is_numbered e.seq) xs e in
    omega arith

module _ (own : List Entry) (place : ℕ) (o : Entry) (there : place < length own) (slots : List Slot) (so_far : AreSlots (take place own) slots) where
  abbrev e : Entry
  e = get_or own place o

  more : take (place + 1) own ≡ take place own ++ e ∷ []
  more = take_more own place e (slice_get-get_or own place o there)

  pub put_in : (x : Slot) (v : Slot) → e.seq < length slots → v ≡ slot_with (get_or slots e.seq x) e → AreSlots (take (place + 1) own) (slice_set slots e.seq v)
  put_in x v low is i s get =
      subst (λ z. SlotTells z i s) (sym more)
      (⊎_elim
      (λ q. subst (λ z. SlotTells (take place own ++ e ∷ []) z s) (sym q.0)
      (subst (SlotTells (take place own ++ e ∷ []) e.seq) (sym is ∙ sym q.1) (joins (take place own) e (get_or slots e.seq x) (so_far e.seq (get_or slots e.seq x) (slice_get-get_or slots e.seq x low)))))
      (λ q. stays (take place own) e i s (λ same. q.0 (sym same)) (so_far i s q.1))
      (get_set_cases slots e.seq i v s get))

  pub put_nowhere : length slots ≤ e.seq → AreSlots (take (place + 1) own) slots
  put_nowhere high i s get =
      subst (λ z. SlotTells z i s) (sym more) (stays (take place own) e i s (λ same. let h = slice_get_within slots i s get in absurd (omega arith)) (so_far i s get))

-- no entry yet
pub none_put : (own : List Entry) (n : ℕ) (slots : List Slot) → slots ≡ replicate n Empty → AreSlots (take 0 own) slots
none_put own n slots is i s get = subst (λ z. SlotTells (take 0 own) i z) (sym (empty n i (ap (λ z. slice_get z i) (sym is) ∙ get))) (none own) where
  empty : (n i : ℕ) → slice_get (replicate n Empty) i ≡ Some s → s ≡ Empty
  empty zero i g = absurd (cc)
  empty (suc n) zero g = sym (same_Some _ _ g)
  empty (suc n) (suc i) g = empty n i g

  none : (xs : List Entry) → count_by (is_numbered i) (take 0 xs) ≡ 0
  none [] = refl
  none (x ∷ xs) = refl

pub all_put : (own : List Entry) (n : ℕ) (slots : List Slot) → length own ≤ n → AreSlots (take n own) slots → AreSlots own slots
all_put own n slots past are = subst (λ z. AreSlots z slots) (take_all n own past) are

-- ---- one of one

pub counted_one : (test : Entry → Bool) (xs : List Entry) (b : Entry) (j : ℕ) → slice_get xs j ≡ Some b → test b ≡ true → 1 ≤ count_by test xs
counted_one test [] b j get is = absurd (cc)
counted_one test (x ∷ xs) b zero get is =
    let one : ◌≡◌ {A = ℕ} (cond (test x) 1 0) 1 = ap (λ c. cond {A = ℕ} c 1 0) (ap test (same_Some _ _ get) ∙ is) in omega (arith, count-cons test x xs)
counted_one test (x ∷ xs) b (suc j) get is = omega (arith, count-cons test x xs, counted_one test xs b j get is)

pub one_of_one : (test : Entry → Bool) (xs : List Entry) (a b : Entry) (j k : ℕ) → count_by test xs ≡ 1 → slice_get xs j ≡ Some a → test a ≡ true → slice_get xs k ≡ Some b → test b ≡ true → a ≡ b
one_of_one test [] a b j k one ga ta gb tb = absurd (cc)
one_of_one test (x ∷ xs) a b zero zero one ga ta gb tb = same_Some _ _ (sym ga ∙ gb)
one_of_one test (x ∷ xs) a b zero (suc k) one ga ta gb tb =
    let c : ◌≡◌ {A = ℕ} (cond (test x) 1 0) 1 = ap (λ z. cond {A = ℕ} z 1 0) (ap test (same_Some _ _ ga) ∙ ta) in
    absurd (omega (arith, count-cons test x xs, counted_one test xs b k gb tb))
one_of_one test (x ∷ xs) a b (suc j) zero one ga ta gb tb =
    let c : ◌≡◌ {A = ℕ} (cond (test x) 1 0) 1 = ap (λ z. cond {A = ℕ} z 1 0) (ap test (same_Some _ _ gb) ∙ tb) in
    absurd (omega (arith, count-cons test x xs, counted_one test xs a j ga ta))
one_of_one test (x ∷ xs) a b (suc j) (suc k) one ga ta gb tb =
    let low = counted_one test xs a j ga ta in
    let c = count-cons test x xs in
    one_of_one test xs a b j k (omega arith) ga ta gb tb
