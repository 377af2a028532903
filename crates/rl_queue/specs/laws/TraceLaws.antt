-- What new events at the end of a trace change in what it says of a queue.
use Rattle.std.specs.Prelude.{◌≡◌, ℕ, ◌+◌, ◌-◌, ◌≤◌, ◌==◌, false, List, [], ◌∷◌, ◌++◌, Option, Some, if◌then◌else◌, refl}
use Rattle.std.proofs.Common.{sym, ◌∙◌, ap, subst, arith, append_assoc}
use Rattle.std.proofs.lemmas.List.{append-nil}
use Rattle.rl_step.specs.declared.events.Event.{Event}
use Rattle.rl_step.specs.declared.events.Event.TheVariants.{Join, Announce, Pass, Settle, Touch, EnterW, EnterR, LeaveW, LeaveR}
use Rattle.rl_step.specs.Queues.{joins, gives, joined, given, settles, passes, settled, passed, room_after, PassFits, WithinFrom, room_of, count, alone_if}
use Rattle.rl_step.specs.laws.QueueLemmas.{joined-append, given-append, settled-append, passed-append, room-append, within-append}
use Rattle.rl_queue.specs.laws.Choices.{same_test, other_test}
use Rattle.rl_queue.specs.Queue.{full_budget}
use Rattle.rl_queue.specs.Lane.{QueueTrace}
use Rattle.rl_queue.specs.QueuesApart.{Apart}

module _ (q : ℕ) (B : Option ℕ) where
  -- more events, by what they say of the queue
  trace_more : (t es : List Event) (e e' c c' h h' : ℕ) (w w' : List ℕ) → QueueTrace q B t e w c h →
      w ++ joined q es ≡ given q es ++ w' → (settled q es + passed q es) + (e + h) ≡ e' + h' →
      ((b room : ℕ) → B ≡ Some b → c ≤ room → WithinFrom q b room es × (c' ≤ room_of q b room es)) → QueueTrace q B (t ++ es) e' w' c' h'
  trace_more t es e e' c c' h h' w w' s fifo tally rooms =
      record {
        fifo =
            joined-append q t es ∙ ap (λ z. z ++ joined q es) s.fifo ∙ append_assoc (given q t) w (joined q es) ∙ ap (λ z. given q t ++ z) fifo ∙
            sym (append_assoc (given q t) (given q es) w') ∙ ap (λ z. z ++ w') (sym (given-append q t es));
        tenure =
            let a : settled q (t ++ es) ≡ settled q t + settled q es = settled-append q t es in
            let b : passed q (t ++ es) ≡ passed q t + passed q es = passed-append q t es in
            let k : settled q t + passed q t ≡ e + h = s.tenure in
            omega arith;
        within = λ b eb.
            let old = s.within b eb in
            let new = rooms b (room_of q b 0 t) eb old.1 in
            (within-append q b 0 t es old.0 new.0, subst (λ z. c' ≤ z) (sym (room-append q b 0 t es)) new.1);
      }

  -- no event, and no more credit than before
  pub trace_quiet : (t : List Event) (e c c' h : ℕ) (w : List ℕ) → QueueTrace q B t e w c h → c' ≤ c → QueueTrace q B (t ++ []) e w c' h
  trace_quiet t e c c' h w s le =
      trace_more t [] e e c c' h h w w s (append-nil w) (omega arith) (λ b room eb k. (tt, omega arith))

  -- a member joins: it waits behind all others
  pub trace_join : (t : List Event) (e c c' h : ℕ) (w : List ℕ) (m : ℕ) → QueueTrace q B t e w c h → c' ≤ c →
      QueueTrace q B (t ++ Join q m ∷ []) e (w ++ m ∷ []) c' h
  trace_join t e c c' h w m s le =
      trace_more t (Join q m ∷ []) e e c c' h h w (w ++ m ∷ []) s (rw (same_test q)) (omega arith) (λ b room eb k. ((tt, tt), omega arith))

  -- the first that waits settles: it has the queue, with the whole budget
  pub trace_settle : (t : List Event) (e c c' : ℕ) (w : List ℕ) (m : ℕ) → QueueTrace q B t e (m ∷ w) c 0 → c' ≤ full_budget B →
      QueueTrace q B (t ++ Settle q m ∷ []) e w c' 1
  trace_settle t e c c' w m s le =
      let one : settled q (Settle q m ∷ []) ≡ 1 = rw (same_test q) in
      trace_more t (Settle q m ∷ []) e e c c' 0 1 (m ∷ w) w s (rw (same_test q) (append-nil (m ∷ w))) (omega arith)
      (λ b room eb k.
      let f : c' ≤ b = subst (λ z. c' ≤ full_budget z) eb le in
      ((tt, tt), subst (λ z. c' ≤ z) (sym (after b room)) f)) where
        after : (b room : ℕ) → room_of q b room (Settle q m ∷ []) ≡ b
        after b room = rw (same_test q)

  -- the first that waits is passed to: it has the queue, with one pass less than there was credit
  pub trace_pass : (t : List Event) (e c c' : ℕ) (w : List ℕ) (m : ℕ) → QueueTrace q B t e (m ∷ w) c 0 →
      ((b : ℕ) → B ≡ Some b → c' + 1 ≤ c) → QueueTrace q B (t ++ Pass q m ∷ []) e w c' 1
  trace_pass t e c c' w m s le =
      let one : passed q (Pass q m ∷ []) ≡ 1 = rw (same_test q) in
      trace_more t (Pass q m ∷ []) e e c c' 0 1 (m ∷ w) w s (rw (same_test q) (append-nil (m ∷ w))) (omega arith)
      (λ b room eb k.
      let f : c' + 1 ≤ c = le b eb in
      ((λ same. omega arith, tt), subst (λ z. c' ≤ z) (sym (after b room)) (omega arith))) where
        after : (b room : ℕ) → room_of q b room (Pass q m ∷ []) ≡ room - 1
        after b room = rw (same_test q)

  pub record Nothing (e : Event) : Type 0 where
    pub no_join : joins q e ≡ []
    pub no_gift : gives q e ≡ []
    pub no_settle : settles q e ≡ 0
    pub no_pass : passes q e ≡ 0
    pub no_room : (b room : ℕ) → room_after q b e room ≡ room
    pub fits : (room : ℕ) → PassFits q e room

  -- an event that isn't of the queue changes nothing of it
  apart_nothing : (e : Event) → Apart q B e → Nothing e
  apart_nothing (Join k m) ne =
      let f : (k == q) ≡ false = other_test k q ne in
      record { no_join = ap (λ z. alone_if z m) f; no_gift = refl; no_settle = refl; no_pass = refl; no_room = λ b room. refl; fits = λ room. tt }
  apart_nothing (Announce c) ne = record { no_join = refl; no_gift = refl; no_settle = refl; no_pass = refl; no_room = λ b room. refl; fits = λ room. tt }
  apart_nothing (Pass k m) ne =
      let f : (k == q) ≡ false = other_test k q ne in
      record {
        no_join = refl;
        no_gift = ap (λ z. alone_if z m) f;
        no_settle = refl;
        no_pass = ap count f;
        no_room =
            λ b room. ap (λ z. if z then room - 1 else room) f;
        fits = λ room same. absurd (ne same);
      }
  apart_nothing (Settle k m) ne =
      let f : (k == q) ≡ false = other_test k q ne in
      record {
        no_join = refl;
        no_gift = ap (λ z. alone_if z m) f;
        no_settle = ap count f;
        no_pass = refl;
        no_room =
            λ b room. ap (λ z. if z then b else room) f;
        fits = λ room. tt;
      }
  apart_nothing (Touch k x) ne = record { no_join = refl; no_gift = refl; no_settle = refl; no_pass = refl; no_room = λ b room. refl; fits = λ room. tt }
  apart_nothing (EnterW k) ne = record { no_join = refl; no_gift = refl; no_settle = refl; no_pass = refl; no_room = λ b room. refl; fits = λ room. tt }
  apart_nothing (EnterR k) ne = record { no_join = refl; no_gift = refl; no_settle = refl; no_pass = refl; no_room = λ b room. refl; fits = λ room. tt }
  apart_nothing (LeaveW k) ne = record { no_join = refl; no_gift = refl; no_settle = refl; no_pass = refl; no_room = λ b room. refl; fits = λ room. tt }
  apart_nothing (LeaveR k) ne = record { no_join = refl; no_gift = refl; no_settle = refl; no_pass = refl; no_room = λ b room. refl; fits = λ room. tt }

  -- such an event, with which a tenure may end
  trace_beside : (t : List Event) (ev : Event) (e e' c h h' : ℕ) (w : List ℕ) → Apart q B ev → e + h ≡ e' + h' → QueueTrace q B t e w c h →
      QueueTrace q B (t ++ ev ∷ []) e' w c h'
  trace_beside t ev e e' c h h' w ap_ev sum s =
      let n = apart_nothing ev ap_ev in
      let a : settles q ev ≡ 0 = n.no_settle in
      let b : passes q ev ≡ 0 = n.no_pass in
      trace_more t (ev ∷ []) e e' c c h h' w w s
      (ap (λ z. w ++ (z ++ [])) n.no_join ∙ append-nil w ∙ sym (ap (λ z. (z ++ []) ++ w) n.no_gift))
      (omega arith)
      (λ d room eb k. ((n.fits room, tt), subst (λ z. c ≤ z) (sym (n.no_room d room)) k))

  -- such an event, where nobody leaves the queue
  pub trace_apart : (t : List Event) (ev : Event) (e c h : ℕ) (w : List ℕ) → Apart q B ev → QueueTrace q B t e w c h → QueueTrace q B (t ++ ev ∷ []) e w c h
  trace_apart t ev e c h w a s = trace_beside t ev e e c h h w a refl s

  -- such an event, with which the holder leaves the queue
  pub trace_leave : (t : List Event) (ev : Event) (e c : ℕ) (w : List ℕ) → Apart q B ev → QueueTrace q B t e w c 1 → QueueTrace q B (t ++ ev ∷ []) (e + 1) w c 0
  trace_leave t ev e c w a s = trace_beside t ev e (e + 1) c 1 0 w a (omega arith) s

  -- a tenure may end with no event
  pub trace_leave_quiet : (t : List Event) (e c : ℕ) (w : List ℕ) → QueueTrace q B t e w c 1 → QueueTrace q B t (e + 1) w c 0
  trace_leave_quiet t e c w s = record { fifo = s.fifo; tenure = s.tenure ∙ omega arith; within = s.within }
