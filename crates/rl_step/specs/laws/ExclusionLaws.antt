-- Exclusion along a trace: what events at its end change, and that the two forms of exclusion say the same.
use Rattle.std.specs.Prelude.{◌≡◌, ◌≢◌, ◌⊎◌, ℕ, ◌==◌, Bool, true, false, List, [], ◌∷◌, ◌++◌, if◌then◌else◌, refl}
use Rattle.std.proofs.Common.{sym, ◌∙◌, ap, subst, inl, inr, ⊎_elim, append_assoc}
use Rattle.std.proofs.lemmas.Bool.{true≢false}
use Rattle.std.proofs.lemmas.Bool.Decides.{eqb_tells}
use Rattle.rl_step.specs.declared.events.Event.{Event}
use Rattle.rl_step.specs.declared.events.Event.TheVariants.{Join, Announce, Pass, Settle, Touch, EnterW, EnterR, LeaveW, LeaveR}
use Rattle.rl_step.specs.Lock.{holds_only}
use Rattle.rl_step.specs.Exclusion.{Has, IsInside, writers, readers, IsExclusive, writers_after, readers_after, Alone, TouchFits, ExclusiveFrom, nobody, along, writers_of, readers_of}

-- a trace after another one
pub exclusive_append : (ws rs : ℕ → Bool) (t es : List Event) → ExclusiveFrom ws rs t →
    ExclusiveFrom (writers_of ws t) (readers_of rs t) es → ExclusiveFrom ws rs (t ++ es)
exclusive_append ws rs [] es a b = b
exclusive_append ws rs (e ∷ t) es a b = (a.0, a.1, exclusive_append (writers_after e ws) (readers_after e rs) t es a.2 b)

pub writers_append : (ws : ℕ → Bool) (t es : List Event) → writers_of ws (t ++ es) ≡ writers_of (writers_of ws t) es
writers_append ws [] es = refl
writers_append ws (e ∷ t) es = writers_append (writers_after e ws) t es

pub readers_append : (rs : ℕ → Bool) (t es : List Event) → readers_of rs (t ++ es) ≡ readers_of (readers_of rs t) es
readers_append rs [] es = refl
readers_append rs (e ∷ t) es = readers_append (readers_after e rs) t es

-- events that speak of no holder change nothing
pub quiet_writers : (ws : ℕ → Bool) (es : List Event) → holds_only es ≡ [] → writers_of ws es ≡ ws
quiet_writers ws [] h = refl
quiet_writers ws (Join q m ∷ es) h = quiet_writers ws es h
quiet_writers ws (Announce c ∷ es) h = quiet_writers ws es h
quiet_writers ws (Pass q m ∷ es) h = quiet_writers ws es h
quiet_writers ws (Settle q m ∷ es) h = quiet_writers ws es h
quiet_writers ws (Touch k w ∷ es) h = cc
quiet_writers ws (EnterW k ∷ es) h = cc
quiet_writers ws (EnterR k ∷ es) h = cc
quiet_writers ws (LeaveW k ∷ es) h = cc
quiet_writers ws (LeaveR k ∷ es) h = cc

pub quiet_readers : (rs : ℕ → Bool) (es : List Event) → holds_only es ≡ [] → readers_of rs es ≡ rs
quiet_readers rs [] h = refl
quiet_readers rs (Join q m ∷ es) h = quiet_readers rs es h
quiet_readers rs (Announce c ∷ es) h = quiet_readers rs es h
quiet_readers rs (Pass q m ∷ es) h = quiet_readers rs es h
quiet_readers rs (Settle q m ∷ es) h = quiet_readers rs es h
quiet_readers rs (Touch k w ∷ es) h = cc
quiet_readers rs (EnterW k ∷ es) h = cc
quiet_readers rs (EnterR k ∷ es) h = cc
quiet_readers rs (LeaveW k ∷ es) h = cc
quiet_readers rs (LeaveR k ∷ es) h = cc

-- nor do they break exclusion
pub quiet_exclusive : (ws rs : ℕ → Bool) (es : List Event) → holds_only es ≡ [] → Alone ws rs → ExclusiveFrom ws rs es
quiet_exclusive ws rs [] h a = a
quiet_exclusive ws rs (Join q m ∷ es) h a = (a, tt, quiet_exclusive ws rs es h a)
quiet_exclusive ws rs (Announce c ∷ es) h a = (a, tt, quiet_exclusive ws rs es h a)
quiet_exclusive ws rs (Pass q m ∷ es) h a = (a, tt, quiet_exclusive ws rs es h a)
quiet_exclusive ws rs (Settle q m ∷ es) h a = (a, tt, quiet_exclusive ws rs es h a)
quiet_exclusive ws rs (Touch k w ∷ es) h a = cc
quiet_exclusive ws rs (EnterW k ∷ es) h a = cc
quiet_exclusive ws rs (EnterR k ∷ es) h a = cc
quiet_exclusive ws rs (LeaveW k ∷ es) h a = cc
quiet_exclusive ws rs (LeaveR k ∷ es) h a = cc

-- events of which one speaks of a holder
pub record OneHolds (ws rs : ℕ → Bool) (es : List Event) (e : Event) : Type 0 where
  pub writers : writers_of ws es ≡ writers_after e ws
  pub readers : readers_of rs es ≡ readers_after e rs
  pub exclusive : Alone ws rs → TouchFits ws rs e → Alone (writers_after e ws) (readers_after e rs) → ExclusiveFrom ws rs es

one_here : (ws rs : ℕ → Bool) (d : Event) (es : List Event) (e : Event) → d ≡ e → holds_only es ≡ [] → OneHolds ws rs (d ∷ es) e
one_here ws rs d es e same rest =
    record {
      writers = quiet_writers (writers_after d ws) es rest ∙ ap (λ z. writers_after z ws) same;
      readers = quiet_readers (readers_after d rs) es rest ∙ ap (λ z. readers_after z rs) same;
      exclusive = λ a t b. (
        a,
        subst (TouchFits ws rs) (sym same) t,
        quiet_exclusive (writers_after d ws) (readers_after d rs) es rest (subst (λ z. Alone (writers_after z ws) (readers_after z rs)) (sym same) b),
      );
    }

-- a stretch with one event of a holder changes what that event changes
pub one_holds : (ws rs : ℕ → Bool) (es : List Event) (e : Event) → holds_only es ≡ e ∷ [] → OneHolds ws rs es e
one_holds ws rs [] e h = cc
one_holds ws rs (Join q m ∷ es) e h = let o = one_holds ws rs es e h in
    record { writers = o.writers; readers = o.readers; exclusive = λ a t b. (a, tt, o.exclusive a t b) }
one_holds ws rs (Announce c ∷ es) e h = let o = one_holds ws rs es e h in
    record { writers = o.writers; readers = o.readers; exclusive = λ a t b. (a, tt, o.exclusive a t b) }
one_holds ws rs (Pass q m ∷ es) e h = let o = one_holds ws rs es e h in
    record { writers = o.writers; readers = o.readers; exclusive = λ a t b. (a, tt, o.exclusive a t b) }
one_holds ws rs (Settle q m ∷ es) e h = let o = one_holds ws rs es e h in
    record { writers = o.writers; readers = o.readers; exclusive = λ a t b. (a, tt, o.exclusive a t b) }
one_holds ws rs (Touch k w ∷ es) e h = one_here ws rs (Touch k w) es e (cc) (cc)
one_holds ws rs (EnterW k ∷ es) e h = one_here ws rs (EnterW k) es e (cc) (cc)
one_holds ws rs (EnterR k ∷ es) e h = one_here ws rs (EnterR k) es e (cc) (cc)
one_holds ws rs (LeaveW k ∷ es) e h = one_here ws rs (LeaveW k) es e (cc) (cc)
one_holds ws rs (LeaveR k ∷ es) e h = one_here ws rs (LeaveR k) es e (cc) (cc)

-- What an event makes of a test at rank k: true where it is the rank's enter, false where it is the rank's leave, and else
-- what it was.
abbrev pub StepCase : (ℕ → Event) → (ℕ → Event) → (Event → (ℕ → Bool) → ℕ → Bool) → Event → (ℕ → Bool) → ℕ → Type 0
StepCase enter leave step e ws k =
    ((e ≡ enter k) × (step e ws k ≡ true)) ⊎ (((e ≡ leave k) × (step e ws k ≡ false)) ⊎ ((e ≢ leave k) × (step e ws k ≡ ws k)))

module _ (enter leave : ℕ → Event) (step : Event → (ℕ → Bool) → ℕ → Bool)
    (cases : (e : Event) (ws : ℕ → Bool) (k : ℕ) → StepCase enter leave step e ws k) (enters : (ws : ℕ → Bool) (k : ℕ) → step (enter k) ws k ≡ true) where
  -- a rank that the test finds has entered and not left, or was found at first and hasn't left
  inside_since : (ws : ℕ → Bool) (t : List Event) (k : ℕ) → along step ws t k ≡ true → IsInside (enter k) (leave k) t ⊎ ((ws k ≡ true) × (Has (leave k) t → ⊥))
  inside_since ws [] k h = inr (h, λ x. x)
  inside_since ws (e ∷ t) k h =
      ⊎_elim (λ i. inl (record { before = e ∷ i.before; after = i.after; entered = ap (λ z. e ∷ z) i.entered; stayed = i.stayed }))
      (λ q. ⊎_elim (λ c. inl (record { before = []; after = t; entered = ap (λ z. z ∷ t) c.0; stayed = q.1 }))
      (λ d. ⊎_elim (λ c. absurd (true≢false (sym q.0 ∙ c.1))) (λ c. inr (sym c.1 ∙ q.0, λ x. ⊎_elim (λ y. c.0 y) q.1 x)) d)
      (cases e ws k))
      (inside_since (step e ws) t k h)

  -- a rank that the test finds and that doesn't leave is found on
  stays : (ws : ℕ → Bool) (t : List Event) (k : ℕ) → ws k ≡ true → (Has (leave k) t → ⊥) → along step ws t k ≡ true
  stays ws [] k h s = h
  stays ws (e ∷ t) k h s =
      ⊎_elim (λ c. stays (step e ws) t k c.1 (λ x. s (inr x)))
      (λ d. ⊎_elim (λ c. absurd (s (inl c.0))) (λ c. stays (step e ws) t k (c.1 ∙ h) (λ x. s (inr x))) d)
      (cases e ws k)

  -- a rank that has entered and not left since is found
  found_since : (ws : ℕ → Bool) (before after : List Event) (k : ℕ) → (Has (leave k) after → ⊥) → along step ws (before ++ enter k ∷ after) k ≡ true
  found_since ws [] after k s = stays (step (enter k) ws) after k (enters ws k) s
  found_since ws (e ∷ before) after k s = found_since (step e ws) before after k s

  -- from nobody on, the test finds exactly the ranks that are inside
  is_inside : (t : List Event) (k : ℕ) → along step nobody t k ≡ true → IsInside (enter k) (leave k) t
  is_inside t k h = ⊎_elim (λ i. i) (λ q. absurd (true≢false (sym q.0))) (inside_since nobody t k h)

  is_found : (t : List Event) (k : ℕ) → IsInside (enter k) (leave k) t → along step nobody t k ≡ true
  is_found t k i = subst (λ z. along step nobody z k ≡ true) (sym i.entered) (found_since nobody i.before i.after k i.stayed)

-- an event that sets the test of rank j, or clears it
sets : (ws : ℕ → Bool) (j k : ℕ) → ((j ≡ k) × ((if k == j then true else ws k) ≡ true)) ⊎ ((j ≢ k) × ((if k == j then true else ws k) ≡ ws k))
sets ws j k = ⊎_elim (λ q. inl (sym q.1, ap (λ b. if b then true else ws k) q.0))
    (λ q. inr (λ e. q.1 (sym e), ap (λ b. if b then true else ws k) q.0)) (eqb_tells k j)

clears : (ws : ℕ → Bool) (j k : ℕ) → ((j ≡ k) × ((if k == j then false else ws k) ≡ false)) ⊎ ((j ≢ k) × ((if k == j then false else ws k) ≡ ws k))
clears ws j k = ⊎_elim (λ q. inl (sym q.1, ap (λ b. if b then false else ws k) q.0))
    (λ q. inr (λ e. q.1 (sym e), ap (λ b. if b then false else ws k) q.0)) (eqb_tells k j)

writer_cases : (e : Event) (ws : ℕ → Bool) (k : ℕ) → StepCase EnterW LeaveW writers_after e ws k
writer_cases (Join q m) ws k = inr (inr (λ e. cc, refl))
writer_cases (Announce c) ws k = inr (inr (λ e. cc, refl))
writer_cases (Pass q m) ws k = inr (inr (λ e. cc, refl))
writer_cases (Settle q m) ws k = inr (inr (λ e. cc, refl))
writer_cases (Touch j w) ws k = inr (inr (λ e. cc, refl))
writer_cases (EnterW j) ws k = ⊎_elim (λ q. inl (ap (λ z. EnterW z) q.0, q.1)) (λ q. inr (inr (λ e. cc, q.1))) (sets ws j k)
writer_cases (EnterR j) ws k = inr (inr (λ e. cc, refl))
writer_cases (LeaveW j) ws k = ⊎_elim (λ q. inr (inl (ap (λ z. LeaveW z) q.0, q.1))) (λ q. inr (inr (λ e. q.0 (same_rank e), q.1))) (clears ws j k) where
  same_rank : LeaveW j ≡ LeaveW k → j ≡ k
  same_rank e = cc
writer_cases (LeaveR j) ws k = inr (inr (λ e. cc, refl))

reader_cases : (e : Event) (rs : ℕ → Bool) (k : ℕ) → StepCase EnterR LeaveR readers_after e rs k
reader_cases (Join q m) rs k = inr (inr (λ e. cc, refl))
reader_cases (Announce c) rs k = inr (inr (λ e. cc, refl))
reader_cases (Pass q m) rs k = inr (inr (λ e. cc, refl))
reader_cases (Settle q m) rs k = inr (inr (λ e. cc, refl))
reader_cases (Touch j w) rs k = inr (inr (λ e. cc, refl))
reader_cases (EnterW j) rs k = inr (inr (λ e. cc, refl))
reader_cases (EnterR j) rs k = ⊎_elim (λ q. inl (ap (λ z. EnterR z) q.0, q.1)) (λ q. inr (inr (λ e. cc, q.1))) (sets rs j k)
reader_cases (LeaveW j) rs k = inr (inr (λ e. cc, refl))
reader_cases (LeaveR j) rs k = ⊎_elim (λ q. inr (inl (ap (λ z. LeaveR z) q.0, q.1))) (λ q. inr (inr (λ e. q.0 (same_rank e), q.1))) (clears rs j k) where
  same_rank : LeaveR j ≡ LeaveR k → j ≡ k
  same_rank e = cc

set_here : (ws : ℕ → Bool) (k : ℕ) → (if k == k then true else ws k) ≡ true
set_here ws k = ⊎_elim (λ q. ap (λ b. if b then true else ws k) q.0) (λ q. absurd (q.1 refl)) (eqb_tells k k)

-- the tests along a trace find exactly its writers and readers
pub is_writer : (t : List Event) (k : ℕ) → writers_of nobody t k ≡ true → writers t k
is_writer = is_inside EnterW LeaveW writers_after writer_cases set_here

pub writer_found : (t : List Event) (k : ℕ) → writers t k → writers_of nobody t k ≡ true
writer_found = is_found EnterW LeaveW writers_after writer_cases set_here

pub is_reader : (t : List Event) (k : ℕ) → readers_of nobody t k ≡ true → readers t k
is_reader = is_inside EnterR LeaveR readers_after reader_cases set_here

pub reader_found : (t : List Event) (k : ℕ) → readers t k → readers_of nobody t k ≡ true
reader_found = is_found EnterR LeaveR readers_after reader_cases set_here

true_or_false : (b : Bool) → (b ≡ true) ⊎ (b ≡ false)
true_or_false true = inl refl
true_or_false false = inr refl

-- exclusion from the end of a beginning on
exclusive_rest : (ws rs : ℕ → Bool) (p s : List Event) → ExclusiveFrom ws rs (p ++ s) → ExclusiveFrom (writers_of ws p) (readers_of rs p) s
exclusive_rest ws rs [] s a = a
exclusive_rest ws rs (e ∷ p) s a = exclusive_rest (writers_after e ws) (readers_after e rs) p s a.2

exclusive_now : (ws rs : ℕ → Bool) (s : List Event) → ExclusiveFrom ws rs s → Alone ws rs
exclusive_now ws rs [] a = a
exclusive_now ws rs (e ∷ s) a = a.0

-- a trace that is exclusive event by event is exclusive
pub is_exclusive : (t : List Event) → ExclusiveFrom nobody nobody t → IsExclusive t
is_exclusive t a =
    let at : (p s : List Event) → t ≡ p ++ s → ExclusiveFrom (writers_of nobody p) (readers_of nobody p) s =
    λ p s e. exclusive_rest nobody nobody p s (subst (ExclusiveFrom nobody nobody) e a) in
    let alone : (p s : List Event) → t ≡ p ++ s → Alone (writers_of nobody p) (readers_of nobody p) =
    λ p s e. exclusive_now (writers_of nobody p) (readers_of nobody p) s (at p s e) in
    record {
      one_writer = λ p s i j e wi wj. (alone p s e).one i j (writer_found p i wi) (writer_found p j wj);
      no_reader = λ p s i j e wi rj. (alone p s e).none i j (writer_found p i wi) (reader_found p j rj);
      writes = λ p s k e. is_writer p k (at p (Touch k true ∷ s) e).1;
      reads = λ p s k e.
          ⊎_elim (λ w. inl (is_writer p k w)) (λ f. inr (is_reader p k ((at p (Touch k false ∷ s) e).1 f))) (true_or_false (writers_of nobody p k));
    }

touch_fits : (t : List Event) → IsExclusive t → (p : List Event) (e : Event) (s : List Event) → t ≡ p ++ e ∷ s →
    TouchFits (writers_of nobody p) (readers_of nobody p) e
touch_fits t x p (Join q m) s h = tt
touch_fits t x p (Announce c) s h = tt
touch_fits t x p (Pass q m) s h = tt
touch_fits t x p (Settle q m) s h = tt
touch_fits t x p (Touch k true) s h = writer_found p k (x.writes p s k h)
touch_fits t x p (Touch k false) s h =
    λ f. ⊎_elim (λ w. absurd (true≢false (sym (writer_found p k w) ∙ f))) (λ r. reader_found p k r) (x.reads p s k h)
touch_fits t x p (EnterW k) s h = tt
touch_fits t x p (EnterR k) s h = tt
touch_fits t x p (LeaveW k) s h = tt
touch_fits t x p (LeaveR k) s h = tt

exclusive_on : (t : List Event) → IsExclusive t → (p s : List Event) → t ≡ p ++ s → ExclusiveFrom (writers_of nobody p) (readers_of nobody p) s
exclusive_on t x p [] h =
    record {
      one = λ i j a b. x.one_writer p [] i j h (is_writer p i a) (is_writer p j b);
      none =
          λ i j a b. x.no_reader p [] i j h (is_writer p i a) (is_reader p j b);
    }
exclusive_on t x p (e ∷ s) h =
    let alone : Alone (writers_of nobody p) (readers_of nobody p) =
    record {
      one = λ i j a b. x.one_writer p (e ∷ s) i j h (is_writer p i a) (is_writer p j b);
      none =
          λ i j a b. x.no_reader p (e ∷ s) i j h (is_writer p i a) (is_reader p j b);
    } in
    let rest : ExclusiveFrom (writers_of nobody (p ++ e ∷ [])) (readers_of nobody (p ++ e ∷ [])) s =
    exclusive_on t x (p ++ e ∷ []) s (h ∙ sym (append_assoc p (e ∷ []) s)) in (
      alone,
      touch_fits t x p e s h,
      subst (λ z. ExclusiveFrom (writers_after e (writers_of nobody p)) z s) (readers_append nobody p (e ∷ []))
          (subst (λ z. ExclusiveFrom z (readers_of nobody (p ++ e ∷ [])) s) (writers_append nobody p (e ∷ [])) rest),
    )

-- and an exclusive trace is exclusive event by event
pub exclusive_from : (t : List Event) → IsExclusive t → ExclusiveFrom nobody nobody t
exclusive_from t x = exclusive_on t x [] t refl
