-- One event more, by what is seen of those before it.
use Rattle.std.proofs.Common.{◌≡◌, ◌≢◌, ℕ, zero, suc, ◌+◌, ◌-◌, ◌<◌, ◌≤◌, ◌==◌, Bool, true, false, cond, List, [], ◌∷◌, ◌++◌, length, take, drop, get_or, Option, Some, None, refl, sym, ap, subst, ◌∙◌, arith, length-set, replicate}
use Rattle.std.specs.Prelude.{slice_get, slice_set}
use Rattle.std.specs.Option.{is_some}
use Rattle.std.proofs.lemmas.Option.{same_Some, slice_get_within, slice_get-get_or}
use Rattle.std.proofs.lemmas.List.{get_or-set_same, get_or-set_other, append-nil, length-replicate}
use Rattle.std.proofs.lemmas.Bool.Decides.{nat_tests}
use Rattle.rl_word.specs.laws.Places.{some_at}
use Rattle.rl_step.specs.declared.events.Event.{Event}
use Rattle.rl_step.specs.declared.events.Event.TheVariants.{Join, Announce, Pass, Settle, EnterW, EnterR, LeaveW, LeaveR}
use Rattle.rl_step.specs.Exclusion.{writers_of, readers_of, writers_after, readers_after, nobody, Alone, TouchFits, ExclusiveFrom}
use Rattle.rl_step.specs.laws.ExclusionLaws.{exclusive_append, exclusive_from, is_exclusive, writers_append, readers_append}
use Rattle.rl_step.specs.Queues.{QueueOf, WithinFrom, PassFits, room_of, room_after, IsWithin}
use Rattle.rl_step.specs.laws.QueueLemmas.{room-append, within-append, is_within, within_from}
use Rattle.std.specs.Bool.{MatchBool}
use Rattle.rl_check.specs.Shards.{KeepsRules}
use Rattle.std.proofs.lemmas.List.{map-append}
use Rattle.std.proofs.Math.Seq.{take-add}
use Rattle.rl_word.specs.declared.locks.QueueKind.{QueueKind}
use Rattle.rl_word.specs.declared.shapes.Knobs.{Knobs}
use Rattle.rl_word.specs.Shapes.{TheShape}
use Rattle.rl_step.specs.LockQueues.{queues_of_kind}
use Rattle.rl_step.specs.Traces.{events_of}
use Rattle.rl_check.specs.Shards.{event_tests}
use Rattle.rl_check.specs.Tests.{IsFirstOf}
use Rattle.rl_check.specs.Finding.{of_event}
use Rattle.rl_check.specs.Tallying.{queue_in}
use Rattle.rl_check.proofs.Places.{take_more, away}
use Rattle.rl_check.proofs.TallyLaws.{queue_is}
use Rattle.rl_check.specs.Watching.{is_the, AreBudgets, IsSeen, told_budget, budget_in}
use Rattle.rl_model.proofs.Counts.{all_zero}

-- ---- numbers

pub same_number : (i k : ℕ) → (i == k) ≡ true → i ≡ k
same_number i k h = grind (arith, nat_tests)

is_same : (k : ℕ) → (k == k) ≡ true
is_same k = grind (arith, nat_tests)

other_number : (i k : ℕ) → i ≢ k → (i == k) ≡ false
other_number i k h = grind (arith, nat_tests)

turned : (i k : ℕ) → (i == k) ≡ (k == i)
turned i k = elim (i == k) as (λ b. (i == k) ≡ b → b ≡ (k == i)) [
  | true ↦ λ h. let e = same_number i k h in grind (arith, nat_tests)
  | false ↦ λ h. grind (arith, nat_tests)
] refl

decide : {B : Type 0} (i k : ℕ) → (i ≡ k → B) → (i ≢ k → B) → B
decide {B} i k same other = elim (i == k) as (λ b. (i == k) ≡ b → B) [
  | true ↦ λ h. same (same_number i k h)
  | false ↦ λ h. other (λ e. let bad : true ≡ false = sym (grind (arith, nat_tests)) ∙ h in cc)
] refl

-- ---- options

pub none_is : {X : Type 0} (o : Option X) → is_some o ≡ false → o ≡ None
none_is None h = refl
none_is (Some x) h = absurd (cc)

pub some_is : {X : Type 0} (o : Option X) → is_some o ≡ true → (x : X) × (o ≡ Some x)
some_is None h = absurd (cc)
some_is (Some x) h = (x, refl)

-- ---- the end of a trace

exclusive_rest : (ws rs : ℕ → Bool) (p s : List Event) → ExclusiveFrom ws rs (p ++ s) → ExclusiveFrom (writers_of ws p) (readers_of rs p) s
exclusive_rest ws rs [] s x = x
exclusive_rest ws rs (e ∷ p) s x = exclusive_rest (writers_after e ws) (readers_after e rs) p s x.2

within_rest : (q B room : ℕ) (p s : List Event) → WithinFrom q B room (p ++ s) → WithinFrom q B (room_of q B room p) s
within_rest q B room [] s w = w
within_rest q B room (e ∷ p) s w = within_rest q B (room_after q B e room) p s w.1

-- the one writer
one_is : (w : Option ℕ) (i j : ℕ) → is_the w i ≡ true → is_the w j ≡ true → i ≡ j
one_is None i j a b = absurd (cc)
one_is (Some x) i j a b = sym (same_number x i a) ∙ same_number x j b

module _ (queues : List QueueOf) (ranks : ℕ) (t : List Event) (writer : Option ℕ) (reads : List Bool) (budgets : List (Option ℕ)) (room : List ℕ) (s : IsSeen queues ranks t writer reads budgets room) where
  abbrev ws : ℕ → Bool
  ws = writers_of nobody t

  abbrev rs : ℕ → Bool
  rs = readers_of nobody t

  alone : Alone ws rs
  alone = exclusive_rest nobody nobody t [] (subst (ExclusiveFrom nobody nobody) (sym (append-nil t)) s.exclusive)

  none_beside : (i j : ℕ) → is_the writer i ≡ true → get_or reads j false ≡ true → ⊥
  none_beside i j w r = alone.none i j (s.writers_are i ∙ w) (s.readers_are j ∙ r)

  -- the budget of a queue
  budget_at : (q B : ℕ) → budget_in budgets q ≡ Some B → slice_get budgets q ≡ Some (Some B)
  budget_at q B h = by (slice_get budgets q) refl h where
    by : (o : Option (Option ℕ)) → slice_get budgets q ≡ o → told_budget o ≡ Some B → slice_get budgets q ≡ Some (Some B)
    by None e h = absurd (cc)
    by (Some o) e h = e ∙ ap (λ z. Some z) h

  budget_is : (q B : ℕ) → slice_get budgets q ≡ Some (Some B) → budget_in budgets q ≡ Some B
  budget_is q B h = ap told_budget h

  -- the rules hold
  pub keeps : KeepsRules queues t
  keeps = record {
    exclusive = is_exclusive t s.exclusive;
    budgets = λ q B d at has. by q B d at has;
  } where
    by : (q B : ℕ) (d : QueueOf) → slice_get queues q ≡ Some d → d.budget ≡ Some B → IsWithin t q B
    by q B d at has =
        let low : q < length budgets = let h = slice_get_within queues q d at in let e = s.each in omega arith in
        let o : Option ℕ = get_or budgets q None in
        let get : slice_get budgets q ≡ Some o = slice_get-get_or budgets q None low in
        let b = s.budgets_are q o get in
        let same : d ≡ b.0 = same_Some _ _ (sym at ∙ b.1) in
        let is : o ≡ Some B = sym b.2 ∙ ap (λ (z : QueueOf). z.budget) (sym same) ∙ has in
        is_within t q B (s.within q B (get ∙ ap (λ z. Some z) is))

  -- what the rules say with one event more
  after_alone : (e : Event) → KeepsRules queues (t ++ e ∷ []) → Alone (writers_after e ws) (readers_after e rs)
  after_alone e k = (exclusive_rest nobody nobody t (e ∷ []) (exclusive_from (t ++ e ∷ []) k.exclusive)).2

  after_fits : (e : Event) (q B : ℕ) → slice_get budgets q ≡ Some (Some B) → KeepsRules queues (t ++ e ∷ []) → PassFits q e (room_of q B 0 t)
  after_fits e q B at k =
      let b = s.budgets_are q (Some B) at in
      (within_rest q B 0 t (e ∷ []) (within_from (t ++ e ∷ []) q B (k.budgets q B b.0 b.1 b.2))).0

  -- an event more that keeps them
  record Fits (e : Event) (writer' : Option ℕ) (reads' : List Bool) (room' : List ℕ) : Type 0 where
    writers_are : (k : ℕ) → writers_after e ws k ≡ is_the writer' k
    readers_are : (k : ℕ) → readers_after e rs k ≡ get_or reads' k false
    all_ranks : length reads' ≡ ranks
    beside : (i j : ℕ) → is_the writer' i ≡ true → get_or reads' j false ≡ true → ⊥
    touch : TouchFits ws rs e
    rooms : length room' ≡ length queues
    room_is : (q B : ℕ) → slice_get budgets q ≡ Some (Some B) → get_or room' q 0 ≡ room_after q B e (room_of q B 0 t)
    fits : (q B : ℕ) → slice_get budgets q ≡ Some (Some B) → PassFits q e (room_of q B 0 t)

  next : (e : Event) (writer' : Option ℕ) (reads' : List Bool) (room' : List ℕ) → Fits e writer' reads' room' → IsSeen queues ranks (t ++ e ∷ []) writer' reads' budgets room'
  next e writer' reads' room' f =
      record {
        writers_are = λ k. ap (λ (g : ℕ → Bool). g k) (writers_append nobody t (e ∷ [])) ∙ f.writers_are k;
        readers_are = λ k. ap (λ (g : ℕ → Bool). g k) (readers_append nobody t (e ∷ [])) ∙ f.readers_are k;
        all_ranks = f.all_ranks;
        exclusive = exclusive_append nobody nobody t (e ∷ []) s.exclusive (alone, f.touch, after);
        budgets_are = s.budgets_are;
        each = s.each;
        rooms = f.rooms;
        room_is = λ q B at. f.room_is q B at ∙ sym (room-append q B 0 t (e ∷ []));
        within = λ q B at. within-append q B 0 t (e ∷ []) (s.within q B at) (f.fits q B at, tt);
      } where
        after : Alone (writers_after e ws) (readers_after e rs)
        after = record {
          one = λ i j a b. one_is writer' i j (sym (f.writers_are i) ∙ a) (sym (f.writers_are j) ∙ b);
          none = λ i j a b. f.beside i j (sym (f.writers_are i) ∙ a) (sym (f.readers_are j) ∙ b);
        }

  -- ---- writers

  enters : (k : ℕ) → ((j : ℕ) → get_or reads j false ≡ false) → ((i : ℕ) → is_the writer i ≡ true → k ≡ i) → IsSeen queues ranks (t ++ EnterW k ∷ []) (Some k) reads budgets room
  enters k nobody_reads mine =
      next (EnterW k) (Some k) reads room (record {
        writers_are = who;
        readers_are = s.readers_are;
        all_ranks = s.all_ranks;
        beside = λ i j a b. let bad : false ≡ true = sym (nobody_reads j) ∙ b in cc;
        touch = tt;
        rooms = s.rooms;
        room_is = s.room_is;
        fits = λ q B at. tt;
      }) where
        who : (i : ℕ) → cond (i == k) true (ws i) ≡ (k == i)
        who i =
            elim (i == k) as (λ b. (i == k) ≡ b → cond b true (ws i) ≡ (k == i)) [
              | true ↦ λ h. sym h ∙ turned i k
              | false ↦ λ h.
                  elim (is_the writer i) as (λ b. is_the writer i ≡ b → ws i ≡ (k == i)) [
                    | true ↦ λ w. absurd (let e = mine i w in let bad : true ≡ false = sym (ap (λ z. z == k) (sym e) ∙ is_same k) ∙ h in cc)
                    | false ↦ λ w. s.writers_are i ∙ w ∙ sym h ∙ turned i k
                  ] refl
            ] refl

  pub enters_first : (k : ℕ) → ((j : ℕ) → get_or reads j false ≡ false) → writer ≡ None → IsSeen queues ranks (t ++ EnterW k ∷ []) (Some k) reads budgets room
  enters_first k nobody_reads none = enters k nobody_reads (λ i w. absurd (let bad : false ≡ true = ap (λ z. is_the z i) (sym none) ∙ w in cc))

  pub enters_again : (k o : ℕ) → ((j : ℕ) → get_or reads j false ≡ false) → writer ≡ Some o → o ≡ k → IsSeen queues ranks (t ++ EnterW k ∷ []) writer reads budgets room
  enters_again k o nobody_reads has same =
      subst (λ w. IsSeen queues ranks (t ++ EnterW k ∷ []) w reads budgets room) (ap (λ z. Some z) (sym same) ∙ sym has)
      (enters k nobody_reads (λ i w. sym same ∙ same_number o i (ap (λ z. is_the z i) (sym has) ∙ w)))

  -- another one is there, or the same
  pub enters_beside : (k o : ℕ) → ((j : ℕ) → get_or reads j false ≡ false) → writer ≡ Some o →
      MatchBool (o == k) (IsSeen queues ranks (t ++ EnterW k ∷ []) writer reads budgets room) (KeepsRules queues (t ++ EnterW k ∷ []) → ⊥)
  enters_beside k o nobody_reads has =
      elim (o == k) as (λ b. (o == k) ≡ b → MatchBool b (IsSeen queues ranks (t ++ EnterW k ∷ []) writer reads budgets room) (KeepsRules queues (t ++ EnterW k ∷ []) → ⊥)) [
        | true ↦ λ h. enters_again k o nobody_reads has (same_number o k h)
        | false ↦ λ h. beside_writer_too h
      ] refl where
        beside_writer_too : (o == k) ≡ false → KeepsRules queues (t ++ EnterW k ∷ []) → ⊥
        beside_writer_too h keep =
            let there : ws o ≡ true = s.writers_are o ∙ ap (λ z. is_the z o) has ∙ is_same o in
            let me : cond (o == k) true (ws o) ≡ true = ap (λ b. cond b true (ws o)) h ∙ there in
            let same : k ≡ o = (after_alone (EnterW k) keep).one k o (ap (λ b. cond b true (ws k)) (is_same k)) me in
            let bad : true ≡ false = sym (ap (λ z. z == k) (sym same) ∙ is_same k) ∙ h in cc

  pub beside_reader : (k j : ℕ) → get_or reads j false ≡ true → KeepsRules queues (t ++ EnterW k ∷ []) → ⊥
  beside_reader k j r keep = (after_alone (EnterW k) keep).none k j (ap (λ b. cond b true (ws k)) (is_same k)) (s.readers_are j ∙ r)

  leaves : (k : ℕ) (writer' : Option ℕ) → ((i : ℕ) → cond (i == k) false (is_the writer i) ≡ is_the writer' i) → IsSeen queues ranks (t ++ LeaveW k ∷ []) writer' reads budgets room
  leaves k writer' is =
      next (LeaveW k) writer' reads room (record {
        writers_are = λ i. ap (λ b. cond (i == k) false b) (s.writers_are i) ∙ is i;
        readers_are = s.readers_are;
        all_ranks = s.all_ranks;
        beside = λ i j a b. none_beside i j (was i (is i ∙ a)) b;
        touch = tt;
        rooms = s.rooms;
        room_is = s.room_is;
        fits = λ q B at. tt;
      }) where
        was : (i : ℕ) → cond (i == k) false (is_the writer i) ≡ true → is_the writer i ≡ true
        was i = elim (i == k) as (λ b. cond b false (is_the writer i) ≡ true → is_the writer i ≡ true) [ true ↦ λ h. absurd (cc) | false ↦ λ h. h ]

  pub leaves_off : (k o : ℕ) → writer ≡ Some o → o ≡ k → IsSeen queues ranks (t ++ LeaveW k ∷ []) None reads budgets room
  leaves_off k o has same = leaves k None (λ i. ap (λ z. cond (i == k) false (is_the z i)) has ∙ ap (λ z. cond (i == z) false (o == i)) (sym same) ∙ nobody_else i) where
    nobody_else : (i : ℕ) → cond (i == o) false (o == i) ≡ false
    nobody_else i = elim (i == o) as (λ b. (i == o) ≡ b → cond b false (o == i) ≡ false) [ true ↦ λ h. refl | false ↦ λ h. sym (turned i o) ∙ h ] refl

  pub leaves_nobody : (k : ℕ) → writer ≡ None → IsSeen queues ranks (t ++ LeaveW k ∷ []) writer reads budgets room
  leaves_nobody k none = leaves k writer (λ i. ap (λ z. cond (i == k) false (is_the z i)) none ∙ (elim (i == k) as (λ b. cond b false false ≡ false) [ true ↦ refl | false ↦ refl ]) ∙ ap (λ z. is_the z i) (sym none))

  pub leaves_other : (k o : ℕ) → writer ≡ Some o → o ≢ k → IsSeen queues ranks (t ++ LeaveW k ∷ []) writer reads budgets room
  leaves_other k o has ne = leaves k writer (λ i. ap (λ z. cond (i == k) false (is_the z i)) has ∙ still i ∙ ap (λ z. is_the z i) (sym has)) where
    still : (i : ℕ) → cond (i == k) false (o == i) ≡ (o == i)
    still i = elim (i == k) as (λ b. (i == k) ≡ b → cond b false (o == i) ≡ (o == i)) [
      | true ↦ λ h. sym (other_number o i (λ e. ne (e ∙ same_number i k h)))
      | false ↦ λ h. refl
    ] refl

  -- ---- readers

  pub reads_too : (k : ℕ) → k < ranks → writer ≡ None → IsSeen queues ranks (t ++ EnterR k ∷ []) writer (slice_set reads k true) budgets room
  reads_too k there none =
      next (EnterR k) writer (slice_set reads k true) room (record {
        writers_are = s.writers_are;
        readers_are = who;
        all_ranks = length-set reads k true ∙ s.all_ranks;
        beside = λ i j a b. let bad : false ≡ true = ap (λ z. is_the z i) (sym none) ∙ a in cc;
        touch = tt;
        rooms = s.rooms;
        room_is = s.room_is;
        fits = λ q B at. tt;
      }) where
        who : (i : ℕ) → cond (i == k) true (rs i) ≡ get_or (slice_set reads k true) i false
        who i = decide i k
            (λ same.
            ap (λ b. cond b true (rs i)) (ap (λ z. z == k) same ∙ is_same k)
            ∙ sym (ap (λ z. get_or (slice_set reads k true) z false) same ∙ get_or-set_same reads k true false (let a = s.all_ranks in omega arith)))
            (λ ne. ap (λ b. cond b true (rs i)) (other_number i k ne) ∙ s.readers_are i ∙ sym (get_or-set_other reads k i true false ne))

  pub reader_beside : (k o : ℕ) → writer ≡ Some o → KeepsRules queues (t ++ EnterR k ∷ []) → ⊥
  reader_beside k o has keep =
      (after_alone (EnterR k) keep).none o k (s.writers_are o ∙ ap (λ z. is_the z o) has ∙ is_same o) (ap (λ b. cond b true (rs k)) (is_same k))

  pub reads_no_more : (k : ℕ) → IsSeen queues ranks (t ++ LeaveR k ∷ []) writer (slice_set reads k false) budgets room
  reads_no_more k =
      next (LeaveR k) writer (slice_set reads k false) room (record {
        writers_are = s.writers_are;
        readers_are = who;
        all_ranks = length-set reads k false ∙ s.all_ranks;
        beside = λ i j a b. none_beside i j a (was j (who j ∙ b));
        touch = tt;
        rooms = s.rooms;
        room_is = s.room_is;
        fits = λ q B at. tt;
      }) where
        off : (xs : List Bool) (k : ℕ) → get_or (slice_set xs k false) k false ≡ false
        off [] k = refl
        off (x ∷ xs) zero = refl
        off (x ∷ xs) (suc k) = off xs k

        who : (i : ℕ) → cond (i == k) false (rs i) ≡ get_or (slice_set reads k false) i false
        who i = decide i k
            (λ same. ap (λ b. cond b false (rs i)) (ap (λ z. z == k) same ∙ is_same k) ∙ sym (ap (λ z. get_or (slice_set reads k false) z false) same ∙ off reads k))
            (λ ne. ap (λ b. cond b false (rs i)) (other_number i k ne) ∙ s.readers_are i ∙ sym (get_or-set_other reads k i false false ne))

        was : (j : ℕ) → cond (j == k) false (rs j) ≡ true → get_or reads j false ≡ true
        was j = elim (j == k) as (λ b. cond b false (rs j) ≡ true → get_or reads j false ≡ true) [ true ↦ λ h. absurd (cc) | false ↦ λ h. sym (s.readers_are j) ∙ h ]

  -- ---- queues

  -- an event that speaks of no holder, and leaves these rooms
  quiet : (e : Event) (room' : List ℕ) → writers_after e ws ≡ ws → readers_after e rs ≡ rs → TouchFits ws rs e → length room' ≡ length room →
      ((q B : ℕ) → slice_get budgets q ≡ Some (Some B) → get_or room' q 0 ≡ room_after q B e (room_of q B 0 t)) → ((q B : ℕ) → slice_get budgets q ≡ Some (Some B) → PassFits q e (room_of q B 0 t)) →
      IsSeen queues ranks (t ++ e ∷ []) writer reads budgets room'
  quiet e room' same_ws same_rs touch long is fits =
      next e writer reads room' (record {
        writers_are = λ k. ap (λ (g : ℕ → Bool). g k) same_ws ∙ s.writers_are k;
        readers_are = λ k. ap (λ (g : ℕ → Bool). g k) same_rs ∙ s.readers_are k;
        all_ranks = s.all_ranks;
        beside = none_beside;
        touch = touch;
        rooms = long ∙ s.rooms;
        room_is = is;
        fits = fits;
      })

  pub joins_in : (q m : ℕ) → IsSeen queues ranks (t ++ Join q m ∷ []) writer reads budgets room
  joins_in q m = quiet (Join q m) room refl refl tt refl s.room_is (λ q B at. tt)

  pub announces : (c : ℕ) → IsSeen queues ranks (t ++ Announce c ∷ []) writer reads budgets room
  announces c = quiet (Announce c) room refl refl tt refl s.room_is (λ q B at. tt)

  budget_low : (q B : ℕ) → slice_get budgets q ≡ Some (Some B) → q < length room
  budget_low q B at = let h = slice_get_within budgets q (Some B) at in let a = s.each in let b = s.rooms in omega arith

  -- a queue is settled
  pub settles_on : (q m B : ℕ) → budget_in budgets q ≡ Some B → IsSeen queues ranks (t ++ Settle q m ∷ []) writer reads budgets (slice_set room q B)
  settles_on q m B has =
      quiet (Settle q m) (slice_set room q B) refl refl tt (length-set room q B)
      (λ p C at. decide q p
      (λ same.
      let mine : B ≡ C = same_Some _ _ (sym has ∙ ap (budget_in budgets) same ∙ budget_is p C at) in
      ap (λ z. get_or (slice_set room q B) z 0) (sym same) ∙ get_or-set_same room q B 0 (let h = budget_low p C at in omega arith) ∙ mine
      ∙ sym (ap (λ b. cond b C (room_of p C 0 t)) (ap (λ z. z == p) same ∙ is_same p)))
      (λ ne. get_or-set_other room q p B 0 (λ e. ne (sym e)) ∙ s.room_is p C at ∙ sym (ap (λ b. cond b C (room_of p C 0 t)) (other_number q p ne))))
      (λ p C at. tt)

  pub settles_free : (q m : ℕ) → budget_in budgets q ≡ None → IsSeen queues ranks (t ++ Settle q m ∷ []) writer reads budgets room
  settles_free q m has =
      quiet (Settle q m) room refl refl tt refl
      (λ p C at. s.room_is p C at ∙ sym (ap (λ b. cond b C (room_of p C 0 t)) (other_number q p (λ same. absurd (let bad : ◌≡◌ {A = Option ℕ} None (Some C) = sym has ∙ ap (budget_in budgets) same ∙ budget_is p C at in cc)))))
      (λ p C at. tt)

  -- a queue is passed
  pub passes_free : (q m : ℕ) → budget_in budgets q ≡ None → IsSeen queues ranks (t ++ Pass q m ∷ []) writer reads budgets room
  passes_free q m has =
      quiet (Pass q m) room refl refl tt refl
      (λ p C at. s.room_is p C at ∙ sym (ap (λ b. cond b (room_of p C 0 t - 1) (room_of p C 0 t)) (other_number q p (λ same. absurd (let bad : ◌≡◌ {A = Option ℕ} None (Some C) = sym has ∙ ap (budget_in budgets) same ∙ budget_is p C at in cc)))))
      (λ p C at same. absurd (let bad : ◌≡◌ {A = Option ℕ} None (Some C) = sym has ∙ ap (budget_in budgets) same ∙ budget_is p C at in cc))

  pub passes_on : (q m B : ℕ) → budget_in budgets q ≡ Some B → get_or room q 0 ≢ 0 → IsSeen queues ranks (t ++ Pass q m ∷ []) writer reads budgets (slice_set room q (get_or room q 0 - 1))
  passes_on q m B has some =
      quiet (Pass q m) (slice_set room q (get_or room q 0 - 1)) refl refl tt (length-set room q (get_or room q 0 - 1))
      (λ p C at. decide q p
      (λ same.
      ap (λ z. get_or (slice_set room q (get_or room q 0 - 1)) z 0) (sym same) ∙ get_or-set_same room q (get_or room q 0 - 1) 0 (let h = budget_low p C at in omega arith)
      ∙ ap (λ z. get_or room z 0 - 1) same ∙ ap (λ n. n - 1) (s.room_is p C at)
      ∙ sym (ap (λ b. cond b (room_of p C 0 t - 1) (room_of p C 0 t)) (ap (λ z. z == p) same ∙ is_same p)))
      (λ ne. get_or-set_other room q p (get_or room q 0 - 1) 0 (λ e. ne (sym e)) ∙ s.room_is p C at ∙ sym (ap (λ b. cond b (room_of p C 0 t - 1) (room_of p C 0 t)) (other_number q p ne))))
      (λ p C at same. let r = s.room_is p C at in let e : get_or room q 0 ≡ get_or room p 0 = ap (λ z. get_or room z 0) same in omega arith)

  pub passes_over : (q m B : ℕ) → budget_in budgets q ≡ Some B → get_or room q 0 ≡ 0 → KeepsRules queues (t ++ Pass q m ∷ []) → ⊥
  passes_over q m B has none keep =
      let at = budget_at q B has in
      let r = s.room_is q B at in
      let more : 0 < room_of q B 0 t = after_fits (Pass q m) q B at keep refl in
      absurd (omega arith)

-- nothing is seen yet
pub nothing_seen : (queues : List QueueOf) (ranks : ℕ) (reads : List Bool) (budgets : List (Option ℕ)) (room : List ℕ) → reads ≡ replicate ranks false → length budgets ≡ length queues → AreBudgets queues budgets → room ≡ replicate (length queues) 0 →
    IsSeen queues ranks [] None reads budgets room
nothing_seen queues ranks reads budgets room none each are rooms =
    record {
      writers_are = λ k. refl;
      readers_are = λ k. sym (ap (λ (z : List Bool). get_or z k false) none ∙ off ranks k);
      all_ranks = ap length none ∙ length-replicate ranks false;
      exclusive = record { one = λ i j a b. absurd (cc); none = λ i j a b. absurd (cc) };
      budgets_are = are;
      each = each;
      rooms = ap length rooms ∙ length-replicate (length queues) 0;
      room_is = λ q B at. ap (λ (z : List ℕ). get_or z q 0) rooms ∙ all_zero (length queues) q;
      within = λ q B at. tt;
    } where
      off : (n k : ℕ) → get_or (replicate n false) k false ≡ false
      off zero k = refl
      off (suc n) zero = refl
      off (suc n) (suc k) = off n k

-- the budgets that the code lists
pub budgets_listed : (kind : QueueKind) (shape : TheShape) (home : ℕ) (knobs : Knobs) (budgets : List (Option ℕ)) → length budgets ≡ length (queues_of_kind kind shape home knobs) →
    ((q : ℕ) (o : Option ℕ) → slice_get budgets q ≡ Some o → o ≡ (queue_in kind shape home knobs q).budget) → AreBudgets (queues_of_kind kind shape home knobs) budgets
budgets_listed kind shape home knobs budgets each are q o at =
    let queues : List QueueOf = queues_of_kind kind shape home knobs in
    let d = some_at queues q (let h = slice_get_within budgets q o at in omega arith) in
    (d.0, d.1, ap (λ (z : QueueOf). z.budget) (sym (queue_is kind shape home knobs q d.0 d.1)) ∙ sym (are q o at))

-- ---- beginnings of traces

exclusive_front : (ws rs : ℕ → Bool) (p s : List Event) → ExclusiveFrom ws rs (p ++ s) → ExclusiveFrom ws rs p
exclusive_front ws rs [] [] x = x
exclusive_front ws rs [] (e ∷ s) x = x.0
exclusive_front ws rs (e ∷ p) s x = (x.0, x.1, exclusive_front (writers_after e ws) (readers_after e rs) p s x.2)

within_front : (q B room : ℕ) (p s : List Event) → WithinFrom q B room (p ++ s) → WithinFrom q B room p
within_front q B room [] s w = tt
within_front q B room (e ∷ p) s w = (w.0, within_front q B (room_after q B e room) p s w.1)

keeps_front : (queues : List QueueOf) (p s : List Event) → KeepsRules queues (p ++ s) → KeepsRules queues p
keeps_front queues p s k =
    record {
      exclusive = is_exclusive p (exclusive_front nobody nobody p s (exclusive_from (p ++ s) k.exclusive));
      budgets = λ q B d at has. is_within p q B (within_front q B 0 p s (within_from (p ++ s) q B (k.budgets q B d at has)));
    }

-- the rules hold at each event so far
pub hold_below : (queues : List QueueOf) (events : List (ℕ × Event)) (n : ℕ) → KeepsRules queues (events_of (take n events)) → (p : ℕ) →
    p < n → KeepsRules queues (events_of (take (p + 1) events))
hold_below queues events n k p low =
    let more = away (p + 1) n (omega arith) in
    let split : events_of (take n events) ≡ events_of (take (p + 1) events) ++ events_of (take more.0 (drop (p + 1) events)) =
    ap (λ m. events_of (take m events)) more.1 ∙ ap events_of (take-add (p + 1) more.0 events) ∙ map-append (λ (e : ℕ × Event). e.1) (take (p + 1) events) (take more.0 (drop (p + 1) events)) in
    keeps_front queues (events_of (take (p + 1) events)) (events_of (take more.0 (drop (p + 1) events))) (subst (KeepsRules queues) split k)

-- and all events are there
pub all_hold : (queues : List QueueOf) (events : List (ℕ × Event)) (n : ℕ) → length events ≤ n →
    KeepsRules queues (events_of (take n events)) → (event_tests queues events).pass
all_hold queues events n past k p there = hold_below queues events n k p (omega arith)

-- the trace with one event more
pub trace_more : (events : List (ℕ × Event)) (place : ℕ) (d : ℕ × Event) → place < length events → events_of (take (place + 1) events) ≡ events_of (take place events) ++ (get_or events place d).1 ∷ []
trace_more events place d there =
    ap events_of (take_more events place (get_or events place d) (slice_get-get_or events place d there)) ∙ map-append (λ (e : ℕ × Event). e.1) (take place events) (get_or events place d ∷ [])

-- with an event the rules are broken, and not before
pub first_broken : (queues : List QueueOf) (events : List (ℕ × Event)) (place n : ℕ) (d : ℕ × Event) → place < length events → n ≡ place → KeepsRules queues (events_of (take place events)) →
    (KeepsRules queues (events_of (take place events) ++ (get_or events place d).1 ∷ []) → ⊥) → IsFirstOf (event_tests queues events)
    (of_event (Some n))
first_broken queues events place n d there same kept broken = (
  place,
  there,
  hold_below queues events place kept,
  (same, (refl, λ hold. broken (subst (KeepsRules queues) (trace_more events place d there) hold))),
)
