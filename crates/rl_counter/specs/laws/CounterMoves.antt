-- What each act does to one counter, as numbers.
use Rattle.std.specs.Prelude.{◌≡◌, ℕ, zero, suc, ◌+◌, ◌-◌, ◌^◌, ◌%◌, ◌<◌, ◌≤◌, List, [], ◌∷◌, length, slice_get, slice_set, Some, refl}
use Rattle.std.proofs.Common.{sym, ◌∙◌, ap, subst, arith}
use Rattle.std.proofs.lemmas.Option.{same_Some}
use Rattle.rl_counter.specs.Counter.{off}
use Rattle.rl_counter.specs.CounterGood.{Mark, Down, Up, Loaded, Clear, Taking, mark_adds, Marked, sum_at, CounterGood}

-- taking off what is there, and adding where there is room
pub takes_off : (a x : ℕ) → x ≤ a → a < 2 ^ 64 → (a + off x) % 2 ^ 64 ≡ a - x
takes_off a x h k = omega arith

pub adds : (a x : ℕ) → a + x < 2 ^ 64 → (a + x) % 2 ^ 64 ≡ a + x
adds a x h = omega arith

-- a mark adds the mark or nothing
mark_small : (m : Mark) → mark_adds m ≤ 2 ^ 32
mark_small Down = omega arith
mark_small Up = omega arith
mark_small (Loaded a) = omega arith
mark_small Clear = omega arith
mark_small (Taking x) = omega arith

-- so a counter's words are small
pub counter_small : (T a d i r t : ℕ) (m : Mark) → CounterGood T a d i r t m → T ≤ 1000 → r ≤ 32 → a < 2 ^ 34
counter_small T a d i r t m g few low = let k = mark_small m in let b = g.balance in let c = g.ceiling in omega arith

-- Where arrive is below the bound of readers no mark is up.
pub below_down : (T a d i r t : ℕ) (m : Mark) → CounterGood T a d i r t m → T ≤ 1000 → a < T → m ≡ Down
below_down T a d i r t Down g few lt = refl
below_down T a d i r t Up g few lt = let b = g.balance in absurd (omega arith)
below_down T a d i r t (Loaded x) g few lt = let b = g.balance in absurd (omega arith)
below_down T a d i r t Clear g few lt = let b = g.balance in absurd (omega arith)
below_down T a d i r t (Taking x) g few lt = let b = g.balance in absurd (omega arith)

-- what is known under a mark stays while the readers inside and depart don't grow
pub marked_less : (m : Mark) (i d j e : ℕ) → j ≤ i → j + e ≤ i + d → Marked m i d → Marked m j e
marked_less Down i d j e h k q = tt
marked_less Up i d j e h k q = tt
marked_less (Loaded a) i d j e h k q = omega arith
marked_less Clear i d j e h k q = omega arith
marked_less (Taking x) i d j e h k q = omega arith

-- a reader comes in, where there is room: no mark is up then
pub comes_in : (T a d i r t : ℕ) (m : Mark) → CounterGood T a d i r t m → T ≤ 1000 → a < T → CounterGood T ((a + 1) % 2 ^ 64) d (i + 1) r t m
comes_in T a d i r t m g few lt =
    let e = below_down T a d i r t m g few lt in
    subst (CounterGood T ((a + 1) % 2 ^ 64) d (i + 1) r t) (sym e)
    (let h : CounterGood T a d i r t Down = subst (CounterGood T a d i r t) e g in
    let b = h.balance in let c = h.ceiling in record { balance = omega arith; ceiling = omega arith; marked = tt })

-- it is refused
pub is_refused : (T a d i r t : ℕ) (m : Mark) → CounterGood T a d i r t m → T ≤ 1000 → r ≤ 32 → CounterGood T ((a + 1) % 2 ^ 64) d i (r + 1) t m
is_refused T a d i r t m g few low =
    let k = counter_small T a d i r t m g few low in
    let b = g.balance in record { balance = omega arith; ceiling = g.ceiling; marked = g.marked }

-- and takes its own off again
pub gives_back : (T a d i r t : ℕ) (m : Mark) → CounterGood T a d i (r + 1) t m → T ≤ 1000 → r + 1 ≤ 32 → CounterGood T ((a + off 1) % 2 ^ 64) d i r t m
gives_back T a d i r t m g few low =
    let k = counter_small T a d i (r + 1) t m g few low in
    let b = g.balance in record { balance = omega arith; ceiling = g.ceiling; marked = g.marked }

-- a reset takes out what departed
pub takes_out : (T a d i r t : ℕ) (m : Mark) → CounterGood T a d i r t m → CounterGood T a 0 i r (t + d) m
takes_out T a d i r t m g =
    let b = g.balance in let c = g.ceiling in record {
      balance = omega arith;
      ceiling = omega arith;
      marked =
          marked_less m i d i 0 (omega arith) (omega arith) g.marked;
    }

-- and takes it off arrive
pub resets : (T a d i r t x : ℕ) (m : Mark) → CounterGood T a d i r (t + x) m → T ≤ 1000 → r ≤ 32 → CounterGood T ((a + off x) % 2 ^ 64) d i r t m
resets T a d i r t x m g few low =
    let k = counter_small T a d i r (t + x) m g few low in
    let b = g.balance in let c = g.ceiling in
    let e : (a + off x) % 2 ^ 64 ≡ a - x = takes_off a x (omega arith) (omega arith) in
    record { balance = omega arith; ceiling = omega arith; marked = g.marked }

-- a reader goes out
pub goes_out : (T a d i r t : ℕ) (m : Mark) → CounterGood T a d (i + 1) r t m → T ≤ 1000 → CounterGood T a ((d + 1) % 2 ^ 64) i r t m
goes_out T a d i r t m g few =
    let b = g.balance in let c = g.ceiling in
    let e : (d + 1) % 2 ^ 64 ≡ d + 1 = adds d 1 (omega arith) in
    record { balance = omega arith; ceiling = omega arith; marked = marked_less m (i + 1) d i ((d + 1) % 2 ^ 64) (omega arith) (omega arith) g.marked }

-- The mark: it is put up, what has come is loaded, what has gone is loaded and is as much, or isn't; what has gone is taken out, and
-- the mark is taken off with it.
pub puts : (T a d i r t : ℕ) → CounterGood T a d i r t Down → T ≤ 1000 → r ≤ 32 → CounterGood T ((a + 2 ^ 32) % 2 ^ 64) d i r t Up
puts T a d i r t g few low = let k = counter_small T a d i r t Down g few low in let b = g.balance in
    record { balance = omega arith; ceiling = g.ceiling; marked = tt }

pub counts : (T a d i r t : ℕ) → CounterGood T a d i r t Up → CounterGood T a d i r t (Loaded a)
counts T a d i r t g = let b = g.balance in record { balance = g.balance; ceiling = g.ceiling; marked = omega arith }

pub clears : (T a d i r t f : ℕ) → CounterGood T a d i r t (Loaded f) → d ≡ f - 2 ^ 32 → CounterGood T a d i r t Clear
clears T a d i r t f g e = let k : 2 ^ 32 + (i + d) ≤ f = g.marked in record { balance = g.balance; ceiling = g.ceiling; marked = omega arith }

pub looks_again : (T a d i r t f : ℕ) → CounterGood T a d i r t (Loaded f) → CounterGood T a d i r t Up
looks_again T a d i r t f g = record { balance = g.balance; ceiling = g.ceiling; marked = tt }

pub mark_takes : (T a d i r t : ℕ) → CounterGood T a d i r t Clear → CounterGood T a 0 i r t (Taking d)
mark_takes T a d i r t g = let b = g.balance in let c = g.ceiling in record { balance = omega arith; ceiling = omega arith; marked = g.marked }

pub mark_off : (T a d i r t x : ℕ) → CounterGood T a d i r t (Taking x) → T ≤ 1000 → r ≤ 32 →
    CounterGood T ((a + off ((2 ^ 32 + x) % 2 ^ 64)) % 2 ^ 64) d i r t Down
mark_off T a d i r t x g few low =
    let k = counter_small T a d i r t (Taking x) g few low in
    let b = g.balance in let c = g.ceiling in
    let e : (a + off ((2 ^ 32 + x) % 2 ^ 64)) % 2 ^ 64 ≡ a - ((2 ^ 32 + x) % 2 ^ 64) = takes_off a ((2 ^ 32 + x) % 2 ^ 64) (omega arith) (omega arith) in
    record { balance = omega arith; ceiling = omega arith; marked = tt }

-- how a sum changes where one item does
pub sum_set : {X : Type 0} (f : ℕ → X → ℕ) (from : ℕ) (xs : List X) (r : ℕ) (p q : X) → slice_get xs r ≡ Some p →
    sum_at f from (slice_set xs r q) + f (from + r) p ≡ sum_at f from xs + f (from + r) q
sum_set f from [] r p q h = cc
sum_set f from (x ∷ xs) zero p q h =
    let e : x ≡ p = same_Some _ _ h in
    let z : from + 0 ≡ from = omega arith in
    let a : f (from + 0) p ≡ f from x = ap (λ y. f y p) z ∙ ap (f from) (sym e) in
    let b : f (from + 0) q ≡ f from q = ap (λ y. f y q) z in omega arith
sum_set f from (x ∷ xs) (suc r) p q h =
    let k = sum_set f (from + 1) xs r p q h in
    let z : (from + 1) + r ≡ from + suc r = omega arith in
    let a : f ((from + 1) + r) p ≡ f (from + suc r) p = ap (λ y. f y p) z in
    let b : f ((from + 1) + r) q ≡ f (from + suc r) q = ap (λ y. f y q) z in omega arith

-- a sum of ones is at most as long as the list
pub sum_low : {X : Type 0} (f : ℕ → X → ℕ) (from : ℕ) (xs : List X) → ((k : ℕ) (x : X) → f k x ≤ 1) → sum_at f from xs ≤ length xs
sum_low f from [] h = omega arith
sum_low f from (x ∷ xs) h = let a = h from x in let b = sum_low f (from + 1) xs h in omega arith

-- an item is at most the sum
pub sum_has : {X : Type 0} (f : ℕ → X → ℕ) (from : ℕ) (xs : List X) (r : ℕ) (p : X) → slice_get xs r ≡ Some p → f (from + r) p ≤ sum_at f from xs
sum_has f from [] r p h = cc
sum_has f from (x ∷ xs) zero p h =
    let e : x ≡ p = same_Some _ _ h in
    let z : from + 0 ≡ from = omega arith in
    let a : f (from + 0) p ≡ f from x = ap (λ y. f y p) z ∙ ap (f from) (sym e) in omega arith
sum_has f from (x ∷ xs) (suc r) p h =
    let k = sum_has f (from + 1) xs r p h in
    let z : (from + 1) + r ≡ from + suc r = omega arith in
    let a : f ((from + 1) + r) p ≡ f (from + suc r) p = ap (λ y. f y p) z in omega arith
