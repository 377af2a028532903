-- What events at the end of a trace change for a queue, and that the two forms of the pass budget say the same.
use Rattle.std.specs.Prelude.{◌≡◌, ℕ, zero, suc, Option, length, ◌+◌, ◌-◌, ◌*◌, ◌<◌, ◌≤◌, ◌==◌, Bool, true, false, List, [], ◌∷◌, ◌++◌, if◌then◌else◌, refl}
use Rattle.std.proofs.Common.{sym, ◌∙◌, ap, subst, ⊎_elim, arith, append_assoc, zero-add}
use Rattle.std.proofs.lemmas.Bool.Decides.{eqb_tells}
use Rattle.std.proofs.lemmas.Bool.{true≢false}
use Rattle.rl_step.specs.declared.events.Event.{Event}
use Rattle.rl_step.specs.declared.events.Event.TheVariants.{Join, Announce, Pass, Settle, Touch, EnterW, EnterR, LeaveW, LeaveR}
use Rattle.rl_word.specs.Shapes.{TheShape}
use Rattle.rl_step.specs.LockQueues.{element_queues}
use Rattle.rl_step.specs.Queues.{QueueOf, count, joins, gives, joined, given, settled, passed, room_after, PassFits, WithinFrom, room_of, tenures, IsWithin, IsWithinBudget, tally_of}

-- a tree has a queue for each element
pub elements_long : (shape : TheShape) (root : Option ℕ) (from n : ℕ) → length (element_queues shape root from n) ≡ n
elements_long shape root from zero = refl
elements_long shape root from (suc n) = ap suc (elements_long shape root (from + 1) n)

-- what a trace after another one adds
pub joined-append : (q : ℕ) (t es : List Event) → joined q (t ++ es) ≡ joined q t ++ joined q es
joined-append q [] es = refl
joined-append q (e ∷ t) es = ap (λ z. joins q e ++ z) (joined-append q t es) ∙ sym (append_assoc (joins q e) (joined q t) (joined q es))

pub given-append : (q : ℕ) (t es : List Event) → given q (t ++ es) ≡ given q t ++ given q es
given-append q [] es = refl
given-append q (e ∷ t) es = ap (λ z. gives q e ++ z) (given-append q t es) ∙ sym (append_assoc (gives q e) (given q t) (given q es))

pub settled-append : (q : ℕ) (t es : List Event) → settled q (t ++ es) ≡ settled q t + settled q es
settled-append q [] es = omega arith
settled-append q (e ∷ t) es = let h : settled q (t ++ es) ≡ settled q t + settled q es = settled-append q t es in omega arith

pub passed-append : (q : ℕ) (t es : List Event) → passed q (t ++ es) ≡ passed q t + passed q es
passed-append q [] es = omega arith
passed-append q (e ∷ t) es = let h : passed q (t ++ es) ≡ passed q t + passed q es = passed-append q t es in omega arith

pub tenures-append : (d : QueueOf) (t es : List Event) → tenures d (t ++ es) ≡ tenures d t + tenures d es
tenures-append d [] es = omega arith
tenures-append d (e ∷ t) es = let h : tenures d (t ++ es) ≡ tenures d t + tenures d es = tenures-append d t es in omega arith

pub room-append : (q B room : ℕ) (t es : List Event) → room_of q B room (t ++ es) ≡ room_of q B (room_of q B room t) es
room-append q B room [] es = refl
room-append q B room (e ∷ t) es = room-append q B (room_after q B e room) t es

pub within-append : (q B room : ℕ) (t es : List Event) → WithinFrom q B room t → WithinFrom q B (room_of q B room t) es → WithinFrom q B room (t ++ es)
within-append q B room [] es w v = v
within-append q B room (e ∷ t) es w v = (w.0, within-append q B (room_after q B e room) t es w.1 v)

-- what one event adds to both sides of the bound
other_step : (B room p s : ℕ) → p ≤ room + B * s → 0 + p ≤ room + B * (0 + s)
other_step B room p s h = let e : B * (0 + s) ≡ B * s = ap (λ z. B * z) (zero-add s) in omega arith

pass_step : (b : Bool) (B room p s : ℕ) → (b ≡ true → 0 < room) → p ≤ (if b then room - 1 else room) + B * s → count b + p ≤ room + B * (0 + s)
pass_step true B room p s fits h = let e : B * (0 + s) ≡ B * s = ap (λ z. B * z) (zero-add s) in let f : 0 < room = fits refl in omega arith
pass_step false B room p s fits h = other_step B room p s h

settle_step : (b : Bool) (B room p s : ℕ) → p ≤ (if b then B else room) + B * s → 0 + p ≤ room + B * (count b + s)
settle_step true B room p s h = let e : B * (1 + s) ≡ B + B * s = grind arith in omega arith
settle_step false B room p s h = other_step B room p s h

-- the test of two numbers that are equal
pub eqb_means : (a b : ℕ) → (a == b) ≡ true → a ≡ b
eqb_means a b e = ⊎_elim (λ q. q.1) (λ q. absurd (true≢false (sym e ∙ q.0))) (eqb_tells a b)

-- a queue that keeps its budget between settlements keeps it over all of them
bound_from : (q B room : ℕ) (t : List Event) → WithinFrom q B room t → passed q t ≤ room + B * settled q t
bound_from q B room [] w = omega arith
bound_from q B room (Join k m ∷ t) w = other_step B room (passed q t) (settled q t) (bound_from q B room t w.1)
bound_from q B room (Announce c ∷ t) w = other_step B room (passed q t) (settled q t) (bound_from q B room t w.1)
bound_from q B room (Pass k m ∷ t) w =
    pass_step (k == q) B room (passed q t) (settled q t) (λ e. w.0 (eqb_means k q e)) (bound_from q B (if k == q then room - 1 else room) t w.1)
bound_from q B room (Settle k m ∷ t) w = settle_step (k == q) B room (passed q t) (settled q t) (bound_from q B (if k == q then B else room) t w.1)
bound_from q B room (Touch k x ∷ t) w = other_step B room (passed q t) (settled q t) (bound_from q B room t w.1)
bound_from q B room (EnterW k ∷ t) w = other_step B room (passed q t) (settled q t) (bound_from q B room t w.1)
bound_from q B room (EnterR k ∷ t) w = other_step B room (passed q t) (settled q t) (bound_from q B room t w.1)
bound_from q B room (LeaveW k ∷ t) w = other_step B room (passed q t) (settled q t) (bound_from q B room t w.1)
bound_from q B room (LeaveR k ∷ t) w = other_step B room (passed q t) (settled q t) (bound_from q B room t w.1)

-- one event and the room for passes
pass_fit : (b : Bool) (room p : ℕ) → (b ≡ true → 0 < room) → p ≤ (if b then room - 1 else room) → count b + p ≤ room
pass_fit true room p fits h = let f : 0 < room = fits refl in omega arith
pass_fit false room p fits h = omega arith

settle_fit : (b : Bool) (B room p s : ℕ) → count b + s ≡ 0 → p ≤ (if b then B else room) → 0 + p ≤ room
settle_fit true B room p s z h = absurd (omega arith)
settle_fit false B room p s z h = omega arith

pass_room : (b : Bool) (room p : ℕ) → count b + p ≤ room → p ≤ (if b then room - 1 else room)
pass_room true room p h = omega arith
pass_room false room p h = omega arith

settle_room : (b : Bool) (B room p : ℕ) → p ≤ B → (count b ≡ 0 → p ≤ room) → p ≤ (if b then B else room)
settle_room true B room p h f = h
settle_room false B room p h f = f refl

if_low : (b : Bool) (B x y : ℕ) → x ≤ B → y ≤ B → (if b then x else y) ≤ B
if_low true B x y hx hy = hx
if_low false B x y hx hy = hy

-- a stretch that isn't settled passes at most as often as there was room
passes_fit : (q B room : ℕ) (u s : List Event) → WithinFrom q B room (u ++ s) → settled q u ≡ 0 → passed q u ≤ room
passes_fit q B room [] s w z = omega arith
passes_fit q B room (Join k m ∷ u) s w z = let h : passed q u ≤ room = passes_fit q B room u s w.1 (omega (arith, z)) in omega arith
passes_fit q B room (Announce c ∷ u) s w z = let h : passed q u ≤ room = passes_fit q B room u s w.1 (omega (arith, z)) in omega arith
passes_fit q B room (Pass k m ∷ u) s w z =
    pass_fit (k == q) room (passed q u) (λ e. w.0 (eqb_means k q e)) (passes_fit q B (if k == q then room - 1 else room) u s w.1 (omega (arith, z)))
passes_fit q B room (Settle k m ∷ u) s w z =
    settle_fit (k == q) B room (passed q u) (settled q u) z (passes_fit q B (if k == q then B else room) u s w.1 (omega (arith, z)))
passes_fit q B room (Touch k x ∷ u) s w z = let h : passed q u ≤ room = passes_fit q B room u s w.1 (omega (arith, z)) in omega arith
passes_fit q B room (EnterW k ∷ u) s w z = let h : passed q u ≤ room = passes_fit q B room u s w.1 (omega (arith, z)) in omega arith
passes_fit q B room (EnterR k ∷ u) s w z = let h : passed q u ≤ room = passes_fit q B room u s w.1 (omega (arith, z)) in omega arith
passes_fit q B room (LeaveW k ∷ u) s w z = let h : passed q u ≤ room = passes_fit q B room u s w.1 (omega (arith, z)) in omega arith
passes_fit q B room (LeaveR k ∷ u) s w z = let h : passed q u ≤ room = passes_fit q B room u s w.1 (omega (arith, z)) in omega arith

-- the pass budget from the end of a beginning on
within_rest : (q B room : ℕ) (p s : List Event) → WithinFrom q B room (p ++ s) → WithinFrom q B (room_of q B room p) s
within_rest q B room [] s w = w
within_rest q B room (e ∷ p) s w = within_rest q B (room_after q B e room) p s w.1

-- the room is never above the budget
after_low : (q B room : ℕ) (e : Event) → room ≤ B → room_after q B e room ≤ B
after_low q B room (Join k m) h = h
after_low q B room (Announce c) h = h
after_low q B room (Pass k m) h = let l : room - 1 ≤ B = omega arith in if_low (k == q) B (room - 1) room l h
after_low q B room (Settle k m) h = let l : B ≤ B = omega arith in if_low (k == q) B B room l h
after_low q B room (Touch k x) h = h
after_low q B room (EnterW k) h = h
after_low q B room (EnterR k) h = h
after_low q B room (LeaveW k) h = h
after_low q B room (LeaveR k) h = h

room_low : (q B room : ℕ) (p : List Event) → room ≤ B → room_of q B room p ≤ B
room_low q B room [] h = h
room_low q B room (e ∷ p) h = room_low q B (room_after q B e room) p (after_low q B room e h)

-- a trace that keeps the budget event by event keeps it
pub is_within : (t : List Event) (q B : ℕ) → WithinFrom q B 0 t → IsWithin t q B
is_within t q B w =
    record {
      stretch = λ p u s e z.
          let fit : passed q u ≤ room_of q B 0 p = passes_fit q B (room_of q B 0 p) u s (within_rest q B 0 p (u ++ s) (subst (WithinFrom q B 0) e w)) z in
          let low : room_of q B 0 p ≤ B = room_low q B 0 p (omega arith) in omega arith;
      beginning = λ u s e z. let fit : passed q u ≤ 0 = passes_fit q B 0 u s (subst (WithinFrom q B 0) e w) z in omega arith;
    }

-- what is left of the budget's two facts behind an event
abbrev pub Begins : ℕ → ℕ → List Event → Type 0
Begins q room t = (u s : List Event) → t ≡ u ++ s → settled q u ≡ 0 → passed q u ≤ room

abbrev pub Stretches : ℕ → ℕ → List Event → Type 0
Stretches q B t = (p u s : List Event) → t ≡ p ++ (u ++ s) → settled q u ≡ 0 → passed q u ≤ B

begins_on : (q B room : ℕ) (e : Event) (t : List Event) → Begins q room (e ∷ t) → Stretches q B (e ∷ t) → Begins q (room_after q B e room) t
begins_on q B room (Join k m) t b g u s h z = let f : 0 + passed q u ≤ room = b (Join k m ∷ u) s (ap (λ y. Join k m ∷ y) h) (omega (arith, z)) in omega arith
begins_on q B room (Announce c) t b g u s h z = let f : 0 + passed q u ≤ room =
    b (Announce c ∷ u) s (ap (λ y. Announce c ∷ y) h) (omega (arith, z)) in omega arith
begins_on q B room (Pass k m) t b g u s h z = pass_room (k == q) room (passed q u) (b (Pass k m ∷ u) s (ap (λ y. Pass k m ∷ y) h) (omega (arith, z)))
begins_on q B room (Settle k m) t b g u s h z =
    settle_room (k == q) B room (passed q u) (g (Settle k m ∷ []) u s (ap (λ y. Settle k m ∷ y) h) z)
    (λ n. let f : 0 + passed q u ≤ room = b (Settle k m ∷ u) s (ap (λ y. Settle k m ∷ y) h) (omega (arith, z, n)) in omega arith)
begins_on q B room (Touch k x) t b g u s h z = let f : 0 + passed q u ≤ room = b (Touch k x ∷ u) s (ap (λ y. Touch k x ∷ y) h) (omega (arith, z)) in omega arith
begins_on q B room (EnterW k) t b g u s h z = let f : 0 + passed q u ≤ room = b (EnterW k ∷ u) s (ap (λ y. EnterW k ∷ y) h) (omega (arith, z)) in omega arith
begins_on q B room (EnterR k) t b g u s h z = let f : 0 + passed q u ≤ room = b (EnterR k ∷ u) s (ap (λ y. EnterR k ∷ y) h) (omega (arith, z)) in omega arith
begins_on q B room (LeaveW k) t b g u s h z = let f : 0 + passed q u ≤ room = b (LeaveW k ∷ u) s (ap (λ y. LeaveW k ∷ y) h) (omega (arith, z)) in omega arith
begins_on q B room (LeaveR k) t b g u s h z = let f : 0 + passed q u ≤ room = b (LeaveR k ∷ u) s (ap (λ y. LeaveR k ∷ y) h) (omega (arith, z)) in omega arith

count_same : (k q : ℕ) → k ≡ q → count (k == q) ≡ 1
count_same k q e = ⊎_elim (λ y. ap count y.0) (λ y. absurd (y.1 e)) (eqb_tells k q)

pass_fits : (q room : ℕ) (e : Event) (t : List Event) → Begins q room (e ∷ t) → PassFits q e room
pass_fits q room (Join k m) t b = tt
pass_fits q room (Announce c) t b = tt
pass_fits q room (Pass k m) t b =
    λ e. let one : count (k == q) ≡ 1 = count_same k q e in let f : count (k == q) + 0 ≤ room = b (Pass k m ∷ []) t refl refl in omega arith
pass_fits q room (Settle k m) t b = tt
pass_fits q room (Touch k x) t b = tt
pass_fits q room (EnterW k) t b = tt
pass_fits q room (EnterR k) t b = tt
pass_fits q room (LeaveW k) t b = tt
pass_fits q room (LeaveR k) t b = tt

within_on : (q B room : ℕ) (t : List Event) → Begins q room t → Stretches q B t → WithinFrom q B room t
within_on q B room [] b g = tt
within_on q B room (e ∷ t) b g =
    (pass_fits q room e t b, within_on q B (room_after q B e room) t (begins_on q B room e t b g) (λ p u s h z. g (e ∷ p) u s (ap (λ y. e ∷ y) h) z))

-- and a trace that keeps the budget keeps it event by event
pub within_from : (t : List Event) (q B : ℕ) → IsWithin t q B → WithinFrom q B 0 t
within_from t q B w = within_on q B 0 t (λ u s h z. let n : passed q u ≡ 0 = w.beginning u s h z in omega arith) w.stretch

-- a queue that keeps its budget keeps it in its tally
pub within_bound : (t : List Event) (q B : ℕ) → IsWithin t q B → IsWithinBudget (tally_of q t) B
within_bound t q B w = let h : passed q t ≤ 0 + B * settled q t = bound_from q B 0 t (within_from t q B w) in omega arith
