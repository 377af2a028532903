-- How what turns lead to is joined, one after the other.
use Rattle.std.proofs.Common.{◌≡◌, ℕ, suc, ◌+◌, ◌≤◌, ◌<◌, Bool, true, false, cond, List, [], ◌∷◌, ◌++◌, length, take, drop, get_or, Result, Ok, Err, refl, sym, ap, subst, ◌∙◌, append_assoc, arith}
use Rattle.std.specs.Prelude.{replicate, slice_index}
use Rattle.std.proofs.lemmas.Bool.{cases_lt}
use Rattle.std.proofs.lemmas.List.{append-nil}
use Rattle.std.proofs.Math.Logic.{⊎_elim}
use Rattle.rl_chance.specs.Draws.{draw}
use Rattle.rl_ops.specs.declared.schedule.Turn.{Turn}
use Rattle.rl_ops.specs.declared.schedule.Turn.TheVariants as turn
use Rattle.rl_ops.specs.Schedule.{steps_of}
use Rattle.rl_place.specs.Places.{ThePlace}
use Rattle.rl_machine.specs.Running.{Running}
use Rattle.rl_machine.specs.Run.{stepped, run_of, turn_ranks, steps_in}
use Rattle.rl_drawing.specs.declared.stage.Halt.{Halt}
use Rattle.rl_drawing.specs.declared.stage.Halt.TheVariants.{Never, Memory}
use Rattle.rl_drawing.specs.declared.courses.Each.TheVariants as each
use Rattle.rl_drawing.specs.Drawing.{steps_each, stops_each, laps, drawn_turns, AreEach, IsFirst, IsUntil, IsBefore, AreInTurn}
use Rattle.rl_drawing.specs.Leads.{IsOf, IsNone, Leads, Adds, AddsTurn}

pub steps_append : (ts us : List Turn) → steps_in (ts ++ us) ≡ steps_in ts + steps_in us
steps_append [] us = omega arith
steps_append (t ∷ ts) us = let on = steps_append ts us in omega (arith, on)

-- nothing was added yet
pub leads_none : (whole : List Turn → Type 0) (old : List Turn) → Leads whole whole old old
leads_none whole old = record { turns = []; are = sym (append-nil old); on = λ more r. r; back = λ all w. (all, refl, w) }

-- more was added
pub leads_on : (a b c : List Turn → Type 0) (x y z : List Turn) → Leads a b x y → Leads b c y z → Leads a c x z
leads_on a b c x y z l k = record {
  turns = l.turns ++ k.turns;
  are = k.are ∙ ap (λ t. t ++ k.turns) l.are ∙ append_assoc x l.turns k.turns;
  on = λ more r. subst a (sym (append_assoc l.turns k.turns more)) (l.on (k.turns ++ more) (k.on more r));
  back = λ all w.
      let p = l.back all w in
      let q = k.back p.0 p.2 in
      (q.0, p.1 ∙ ap (λ t. l.turns ++ t) q.1 ∙ sym (append_assoc l.turns k.turns q.0), q.2);
}

-- what is left is the same said otherwise
pub leads_as : (a b c : List Turn → Type 0) (x y : List Turn) → Leads a b x y → ((more : List Turn) → c more → b more) → ((more : List Turn) → b more → c more) → Leads a c x y
leads_as a b c x y l from to = record {
  turns = l.turns;
  are = l.are;
  on = λ more r. l.on more (from more r);
  back = λ all w. let p = l.back all w in (p.0, p.1, to p.0 p.2);
}

-- the whole is the same said otherwise
pub leads_of : (a b c : List Turn → Type 0) (x y : List Turn) → Leads a b x y → ((all : List Turn) → c all → a all) → ((all : List Turn) → a all → c all) → Leads c b x y
leads_of a b c x y l from to = record {
  turns = l.turns;
  are = l.are;
  on = λ more r. to (l.turns ++ more) (l.on more r);
  back = λ all w. l.back all (from all w);
}

-- these turns are the next
pub leads_list : (ts us x y : List Turn) → y ≡ x ++ ts → Leads (λ all. all ≡ ts ++ us) (λ more. more ≡ us) x y
leads_list ts us x y are = record { turns = ts; are = are; on = λ more e. ap (λ r. ts ++ r) e; back = λ all e. (us, e, refl) }

-- what came to its end was made of the turns that were added
pub leads_whole : (a : List Turn → Type 0) (x y : List Turn) (l : Leads a IsNone x y) → a l.turns
leads_whole a x y l = subst a (append-nil l.turns) (l.on [] refl)

-- where no turns of the rest have so few steps, none of the whole have
pub never_on : (a b : List Turn → Type 0) (x y : List Turn) (m n : ℕ) → Leads a b x y → n + steps_in y ≡ m + steps_in x → ((more : List Turn) → b more → n < steps_in more) → (all : List Turn) → a all → m < steps_in all
never_on a b x y m n l same none all w =
    let p = l.back all w in
    let of_all : steps_in all ≡ steps_in l.turns + steps_in p.0 = ap steps_in p.1 ∙ steps_append l.turns p.0 in
    let of_now : steps_in y ≡ steps_in x + steps_in l.turns = ap steps_in l.are ∙ steps_append x l.turns in
    let more : n < steps_in p.0 = none p.0 p.2 in
    omega (arith, of_all, of_now, more, same)

-- what came of the rest is what comes of the whole
pub draws_on : {X Y : Type 0} (a b : List Turn → Type 0) (x y z : List Turn) (m n : ℕ) (done : X) (e : Result Y Halt) → Leads a b x y → n + steps_in y ≡ m + steps_in x → Adds b n y z e → Adds a m x z e
draws_on a b x y z m n done (Ok u) l same d = leads_on a b IsNone x y z l d
draws_on a b x y z m n done (Err Never) l same d = never_on a b x y m n l same d
draws_on a b x y z m n done (Err Memory) l same d = tt

-- and why nothing came of it
pub fails_on : (X Y : Type 0) (a b : List Turn → Type 0) (x y z u : List Turn) (m n : ℕ) (e : Halt) → Leads a b x y → n + steps_in y ≡ m + steps_in x → Adds {X = X} b n y z (Err e) → Adds {X = Y} a m x u (Err e)
fails_on X Y a b x y z u m n Never l same d = never_on a b x y m n l same d
fails_on X Y a b x y z u m n Memory l same d = tt

-- the same said otherwise
pub draws_of : {X : Type 0} (a c : List Turn → Type 0) (x z : List Turn) (m : ℕ) (e : Result X Halt) → Adds a m x z e → ((all : List Turn) → c all → a all) → ((all : List Turn) → a all → c all) → Adds c m x z e
draws_of a c x z m (Ok u) d from to = leads_of a IsNone c x z d from to
draws_of a c x z m (Err Never) d from to = λ all w. d all (from all w)
draws_of a c x z m (Err Memory) d from to = tt

-- ---- one rank after the other

module _ {V : Type 0} (Is : Running V → ℕ → Turn → Type 0) where
  each_done : (m : Running V) (k : ℕ) (ks : List ℕ) (x y : List Turn) (t : Turn) → y ≡ x ++ t ∷ [] → Is m k t → ((other : Turn) → Is m k other → other ≡ t) →
      Leads (AreEach Is m (k ∷ ks)) (AreEach Is (run_of m (turn_ranks t)) ks) x y
  each_done m k ks x y t are is only = record { turns = t ∷ []; are = are; on = λ more r. (is, r); back = back }
    where
      back : (all : List Turn) → AreEach Is m (k ∷ ks) all → (more : List Turn) × (all ≡ t ∷ more) × AreEach Is (run_of m (turn_ranks t)) ks more
      back [] none = absurd none
      back (o ∷ more) w =
          let same = only o w.0 in
          (more, ap (λ z. z ∷ more) same, subst (λ z. AreEach Is (run_of m (turn_ranks z)) ks more) same w.1)

  each_never : (m : Running V) (k : ℕ) (ks : List ℕ) (n : ℕ) → ((t : Turn) → Is m k t → n < steps_of t) → (all : List Turn) → AreEach Is m (k ∷ ks) all → n < steps_in all
  each_never m k ks n none [] w = absurd w
  each_never m k ks n none (t ∷ more) w = let few = none t w.0 in omega (arith, few)

  -- the turn of the next rank is added
  pub each_on : (a : List Turn → Type 0) (m now : Running V) (k : ℕ) (ks js : List ℕ) (x y z : List Turn) (t : Turn) → ks ≡ k ∷ js → Leads a (AreEach Is m ks) x y → z ≡ y ++ t ∷ [] → Is m k t → ((other : Turn) → Is m k other → other ≡ t) →
      now ≡ run_of m (turn_ranks t) → Leads a (AreEach Is now js) x z
  each_on a m now k ks js x y z t next l are is only moved =
      let first = subst (λ i. Leads a (AreEach Is m i) x y) next l in
      subst (λ n. Leads a (AreEach Is n js) x z) (sym moved) (leads_on a (AreEach Is m (k ∷ js)) (AreEach Is (run_of m (turn_ranks t)) js) x y z first (each_done m k js y z t are is only))

  -- or it isn't
  pub each_fails : (X Y : Type 0) (a : List Turn → Type 0) (m : Running V) (k : ℕ) (ks js : List ℕ) (x y z u : List Turn) (most left : ℕ) (e : Halt) → ks ≡ k ∷ js → Leads a (AreEach Is m ks) x y → left + steps_in y ≡ most + steps_in x →
      AddsTurn {X = X} (Is m k) left y z (Err e) → Adds {X = Y} a most x u (Err e)
  each_fails X Y a m k ks js x y z u most left Never next l same none = never_on a (AreEach Is m ks) x y most left l same (λ all w. each_never m k js left none all (subst (λ i. AreEach Is m i all) next w))
  each_fails X Y a m k ks js x y z u most left Memory next l same none = tt

-- ---- turns that no machine is asked for

module _ {V : Type 0} (place : ThePlace) (count : ℕ) where
  pub each_steps : (m : Running V) (ks : List ℕ) (ts : List Turn) → AreEach (IsOf place (each.Steps count)) m ks ts → ts ≡ steps_each count ks
  each_steps m [] ts none = none
  each_steps m (k ∷ ks) [] w = absurd w
  each_steps m (k ∷ ks) (t ∷ ts) w = ap (λ z. z ∷ ts) w.0 ∙ ap (λ z. turn.Steps k count ∷ z) (each_steps (run_of m (turn_ranks t)) ks ts w.1)

  steps_are_each : (m : Running V) (ks : List ℕ) → AreEach (IsOf place (each.Steps count)) m ks (steps_each count ks)
  steps_are_each m [] = refl
  steps_are_each m (k ∷ ks) = (refl, steps_are_each (run_of m (replicate count k)) ks)

  pub are_steps : (m : Running V) (ks : List ℕ) (ts : List Turn) → ts ≡ steps_each count ks → AreEach (IsOf place (each.Steps count)) m ks ts
  are_steps m ks ts e = subst (AreEach (IsOf place (each.Steps count)) m ks) (sym e) (steps_are_each m ks)

module _ {V : Type 0} (place : ThePlace) where
  pub each_stops : (m : Running V) (ks : List ℕ) (ts : List Turn) → AreEach (IsOf place each.Stop) m ks ts → ts ≡ stops_each ks
  each_stops m [] ts none = none
  each_stops m (k ∷ ks) [] w = absurd w
  each_stops m (k ∷ ks) (t ∷ ts) w = ap (λ z. z ∷ ts) w.0 ∙ ap (λ z. turn.Stop k ∷ z) (each_stops (run_of m (turn_ranks t)) ks ts w.1)

  stops_are_each : (m : Running V) (ks : List ℕ) → AreEach (IsOf place each.Stop) m ks (stops_each ks)
  stops_are_each m [] = refl
  stops_are_each m (k ∷ ks) = (refl, stops_are_each m ks)

  pub are_stops : (m : Running V) (ks : List ℕ) (ts : List Turn) → ts ≡ stops_each ks → AreEach (IsOf place each.Stop) m ks ts
  are_stops m ks ts e = subst (AreEach (IsOf place each.Stop) m ks) (sym e) (stops_are_each m ks)

-- ---- laps

-- one lap more
pub laps_on : {V : Type 0} (place : ThePlace) (a : List Turn → Type 0) (m : Running V) (ks : List ℕ) (n left : ℕ) (x y z : List Turn) → n ≡ suc left → Leads a (λ ts. ts ≡ laps n ks) x y → Leads (AreEach (IsOf place (each.Steps 1)) m ks) IsNone y z →
    Leads a (λ ts. ts ≡ laps left ks) x z
laps_on place a m ks n left x y z next l lap =
    let are = each_steps place 1 m ks lap.turns (leads_whole _ y z lap) in
    leads_on a (λ ts. ts ≡ laps (suc left) ks) (λ ts. ts ≡ laps left ks) x y z (subst (λ i. Leads a (λ ts. ts ≡ laps i ks) x y) next l)
    (leads_list (steps_each 1 ks) (laps left ks) y z (lap.are ∙ ap (λ ts. y ++ ts) are))

-- no lap more
pub laps_fail : {V : Type 0} (X Y : Type 0) (place : ThePlace) (a : List Turn → Type 0) (m : Running V) (ks : List ℕ) (n rest most left : ℕ) (x y z u : List Turn) (e : Halt) → n ≡ suc rest → Leads a (λ ts. ts ≡ laps n ks) x y → left + steps_in y ≡ most + steps_in x →
    Adds {X = X} (AreEach (IsOf place (each.Steps 1)) m ks) left y z (Err e) → Adds {X = Y} a most x u (Err e)
laps_fail X Y place a m ks n rest most left x y z u Never next l same none =
    never_on a (λ ts. ts ≡ laps n ks) x y most left l same
    (λ all w.
    let these : steps_in all ≡ steps_in (steps_each 1 ks) + steps_in (laps rest ks) = ap steps_in w ∙ ap (λ i. steps_in (laps i ks)) next ∙ steps_append (steps_each 1 ks) (laps rest ks) in
    let few : left < steps_in (steps_each 1 ks) = none (steps_each 1 ks) (are_steps place 1 m ks (steps_each 1 ks) refl) in
    omega (arith, these, few))
laps_fail X Y place a m ks n rest most left x y z u Memory next l same none = tt

-- ---- the first that shows it

module _ {V : Type 0} (shown : Running V → ℕ → Bool) where
  not_before : (m : Running V) (k a b : ℕ) → IsFirst shown m k a → IsFirst shown m k b → b ≤ a
  not_before m k a b first other = ⊎_elim (λ (less : a < b). let no : true ≡ false = sym first.0 ∙ other.1 a less in cc) (λ (least : b ≤ a). least) (cases_lt a b)

  pub first_same : (m : Running V) (k a b : ℕ) → IsFirst shown m k a → IsFirst shown m k b → a ≡ b
  first_same m k a b first other = let low = not_before m k a b first other in let high = not_before m k b a other first in omega (arith, low, high)

  -- none of so many steps shows it, so what shows it first comes behind them
  pub none_before : (m : Running V) (k most n : ℕ) → ((i : ℕ) → i < most → shown (run_of m (replicate i k)) k ≡ false) → IsFirst shown m k n → most ≤ n
  none_before m k most n none first = ⊎_elim (λ (less : n < most). let no : true ≡ false = sym first.0 ∙ none n less in cc) (λ (least : most ≤ n). least) (cases_lt n most)

  pub until_same : (m : Running V) (k n : ℕ) → IsFirst shown m k n → (other : Turn) → IsUntil shown m k other → other ≡ turn.Steps k (n + 1)
  until_same m k n first other is = is.1 ∙ ap (λ a. turn.Steps k (a + 1)) (first_same m k is.0 n is.2 first)

  pub before_same : (m : Running V) (k n : ℕ) → IsFirst shown m k n → (other : Turn) → IsBefore shown m k other → other ≡ turn.Steps k n
  before_same m k n first other is = is.1 ∙ ap (λ a. turn.Steps k a) (first_same m k is.0 n is.2 first)

-- ---- ranks that chance draws

pub drawn_on : (a : List Turn → Type 0) (state n left limit drawn after : ℕ) (ks : List ℕ) (x y z : List Turn) (t : Turn) → n ≡ suc left → limit ≡ length ks → (drawn, after) ≡ draw limit state →
    Leads a (λ ts. ts ≡ drawn_turns state n ks) x y → z ≡ y ++ t ∷ [] → t ≡ turn.Steps (slice_index ks drawn) 1 → Leads a (λ ts. ts ≡ drawn_turns after left ks) x z
drawn_on a state n left limit drawn after ks x y z t next many draws l are is =
    let e : (drawn, after) ≡ draw (length ks) state = draws ∙ ap (λ (k : ℕ). draw k state) many in
    let which : drawn ≡ (draw (length ks) state).0 = ap (λ (p : ℕ × ℕ). p.0) e in
    let on : after ≡ (draw (length ks) state).1 = ap (λ (p : ℕ × ℕ). p.1) e in
    let here : t ≡ turn.Steps (slice_index ks (draw (length ks) state).0) 1 = is ∙ ap (λ i. turn.Steps (slice_index ks i) 1) which in
    subst (λ s. Leads a (λ ts. ts ≡ drawn_turns s left ks) x z) (sym on)
    (leads_on a (λ ts. ts ≡ drawn_turns state (suc left) ks) (λ ts. ts ≡ drawn_turns (draw (length ks) state).1 left ks) x y z (subst (λ i. Leads a (λ ts. ts ≡ drawn_turns state i ks) x y) next l)
    (leads_list (turn.Steps (slice_index ks (draw (length ks) state).0) 1 ∷ []) (drawn_turns (draw (length ks) state).1 left ks) y z (are ∙ ap (λ u. y ++ u ∷ []) here)))

pub drawn_fail : (X Y : Type 0) (a : List Turn → Type 0) (state n rest limit drawn after : ℕ) (ks : List ℕ) (x y z u : List Turn) (most left : ℕ) (e : Halt) → n ≡ suc rest → limit ≡ length ks → (drawn, after) ≡ draw limit state →
    Leads a (λ ts. ts ≡ drawn_turns state n ks) x y → left + steps_in y ≡ most + steps_in x → AddsTurn {X = X} (λ t. t ≡ turn.Steps (slice_index ks drawn) 1) left y z (Err e) → Adds {X = Y} a most x u (Err e)
drawn_fail X Y a state n rest limit drawn after ks x y z u most left Never next many draws l same none =
    let few : left < 1 = none (turn.Steps (slice_index ks drawn) 1) refl in
    never_on a (λ ts. ts ≡ drawn_turns state n ks) x y most left l same
    (λ all w.
    let these : steps_in all ≡ 1 + steps_in (drawn_turns (draw (length ks) state).1 rest ks) = ap steps_in w ∙ ap (λ i. steps_in (drawn_turns state i ks)) next in
    omega (arith, these, few))
drawn_fail X Y a state n rest limit drawn after ks x y z u most left Memory next many draws l same none = tt

-- ---- ranks in turn

module _ {V : Type 0} (shown : Running V → ℕ → Bool) where
  in_turn_done : (m : Running V) (k : ℕ) (js : List ℕ) (y z : List Turn) (t : Turn) → z ≡ y ++ t ∷ [] → t ≡ turn.Steps k 1 →
      Leads (AreInTurn shown m (k ∷ js)) (AreInTurn shown (stepped m k) (cond (shown m k) js (js ++ k ∷ []))) y z
  in_turn_done m k js y z t are is = record { turns = t ∷ []; are = are; on = λ more r. (is, r); back = back }
    where
      back : (all : List Turn) → AreInTurn shown m (k ∷ js) all → (more : List Turn) × (all ≡ t ∷ more) × AreInTurn shown (stepped m k) (cond (shown m k) js (js ++ k ∷ [])) more
      back [] none = absurd none
      back (o ∷ more) w = (more, ap (λ u. u ∷ more) (w.0 ∙ sym is), w.1)

  pub in_turn_on : (a : List Turn → Type 0) (m now : Running V) (ws js vs : List ℕ) (k : ℕ) (x y z : List Turn) (t : Turn) → ws ≡ k ∷ js → Leads a (AreInTurn shown m ws) x y → z ≡ y ++ t ∷ [] → t ≡ turn.Steps k 1 → now ≡ stepped m k →
      vs ≡ cond (shown m k) js (js ++ k ∷ []) → Leads a (AreInTurn shown now vs) x z
  in_turn_on a m now ws js vs k x y z t next l are is moved left =
      subst (λ n. Leads a (AreInTurn shown n vs) x z) (sym moved) (subst (λ q. Leads a (AreInTurn shown (stepped m k) q) x z) (sym left)
      (leads_on a (AreInTurn shown m (k ∷ js)) (AreInTurn shown (stepped m k) (cond (shown m k) js (js ++ k ∷ []))) x y z (subst (λ q. Leads a (AreInTurn shown m q) x y) next l) (in_turn_done m k js y z t are is)))

  in_turn_never : (m : Running V) (k : ℕ) (js : List ℕ) (n : ℕ) → n < 1 → (all : List Turn) → AreInTurn shown m (k ∷ js) all → n < steps_in all
  in_turn_never m k js n few [] w = absurd w
  in_turn_never m k js n few (t ∷ more) w = let one : steps_of t ≡ 1 = ap steps_of w.0 in omega (arith, few, one)

  pub in_turn_fails : (X Y : Type 0) (a : List Turn → Type 0) (m : Running V) (ws js : List ℕ) (k : ℕ) (x y z u : List Turn) (most left : ℕ) (e : Halt) → ws ≡ k ∷ js → Leads a (AreInTurn shown m ws) x y → left + steps_in y ≡ most + steps_in x →
      AddsTurn {X = X} (λ t. t ≡ turn.Steps k 1) left y z (Err e) → Adds {X = Y} a most x u (Err e)
  in_turn_fails X Y a m ws js k x y z u most left Never next l same none =
      never_on a (AreInTurn shown m ws) x y most left l same (λ all w. in_turn_never m k js left (none (turn.Steps k 1) refl) all (subst (λ q. AreInTurn shown m q all) next w))
  in_turn_fails X Y a m ws js k x y z u most left Memory next l same none = tt

  -- no rank waits
  pub in_turn_end : (a : List Turn → Type 0) (m : Running V) (ws : List ℕ) (x y : List Turn) → length ws ≡ 0 → Leads a (AreInTurn shown m ws) x y → Leads a IsNone x y
  in_turn_end a m [] x y none l = leads_as a (AreInTurn shown m []) IsNone x y l (λ more r. r) (λ more r. r)
  in_turn_end a m (w ∷ ws) x y none l = absurd (omega (arith, none))

-- no lap is left
pub laps_end : (a : List Turn → Type 0) (ks : List ℕ) (n : ℕ) (x y : List Turn) → n ≡ 0 → Leads a (λ ts. ts ≡ laps n ks) x y → Leads a IsNone x y
laps_end a ks n x y none l = leads_as a (λ ts. ts ≡ laps 0 ks) IsNone x y (subst (λ i. Leads a (λ ts. ts ≡ laps i ks) x y) none l) (λ more r. r) (λ more r. r)

pub drawn_end : (a : List Turn → Type 0) (state n : ℕ) (ks : List ℕ) (x y : List Turn) → n ≡ 0 → Leads a (λ ts. ts ≡ drawn_turns state n ks) x y → Leads a IsNone x y
drawn_end a state n ks x y none l = leads_as a (λ ts. ts ≡ drawn_turns state 0 ks) IsNone x y (subst (λ i. Leads a (λ ts. ts ≡ drawn_turns state i ks) x y) none l) (λ more r. r) (λ more r. r)

-- the first of those that wait, and the others
pub first_waits : (ws : List ℕ) (d : ℕ) → 0 < length ws → ws ≡ get_or ws 0 d ∷ drop 1 ws
first_waits [] d some = absurd (omega (arith, some))
first_waits (w ∷ ws) d some = refl

pub others_wait : (ws now : List ℕ) → now ≡ take 0 ws ++ drop (0 + 1) ws → now ≡ drop 1 ws
others_wait [] now e = e
others_wait (w ∷ ws) now e = e
