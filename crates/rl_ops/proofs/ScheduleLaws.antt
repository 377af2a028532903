-- A schedule that is read is spelled so, and one that is spelled so is read.
use Rattle.std.proofs.Common.{◌≡◌, ◌≢◌, ℕ, ◌+◌, ◌-◌, ◌^◌, ◌<◌, ◌≤◌, Bool, true, false, not, ◌||◌, eqb, List, [], ◌∷◌, ◌++◌, map, fold, length, sum_by, codes, decimal, None, Result, Ok, Err, IfOk, inl, inr, refl, sym, ap, subst, ◌∙◌, append_assoc, eq-eqb, lit≤, arith}
use Rattle.std.specs.List.{AllByRecursion, join_with_byte}
use Rattle.std.proofs.lemmas.Bool.{ne_eqb}
use Rattle.std.proofs.lemmas.List.{append-nil}
use Rattle.std.proofs.lemmas.List.Sums.{sum_by-cons}
use Rattle.rl_text.specs.declared.causes.Refusal.{Refusal}
use Rattle.rl_text.specs.declared.causes.Why.{Why}
use Rattle.rl_text.specs.declared.causes.Why.TheVariants.{Repeat, Order}
use Rattle.rl_text.specs.declared.failing.TextErr.{TextErr}
use Rattle.rl_text.specs.Rows.{Row, Left, words, rows_from}
use Rattle.rl_text.specs.Short.{pair_row}
use Rattle.rl_text.specs.Reading.{◌>>=◌, Gives, fault_of, refusal_at, begins, below_at, no_word_at, next_row, header_at}
use Rattle.rl_text.proofs.TextLaws.{AreLines, IsPlain, rows_of_lines, rows-text, text-lines}
use Rattle.rl_text.proofs.WordLaws.{ok_is, test_ok, chosen, below-takes, below-again, no_word-takes, no_word-again, words-cons, words-nil, begins-is, begins-takes, decimal-no_word, plain-decimal, next-takes, next-again, header-takes, header-again, words-made}
use Rattle.rl_text.proofs.FromLaws.{from_bind}
use Rattle.rl_ops.specs.declared.schedule.Turn.{Turn}
use Rattle.rl_ops.specs.declared.schedule.Turn.TheVariants.{Steps, Stop}
use Rattle.rl_ops.specs.declared.schedule.Schedule.{Schedule}
use Rattle.rl_ops.specs.declared.schedule.TheConstants.{MOST_STEPS}
use Rattle.rl_ops.specs.Body.{passed_at, body_lines, gathered}
use Rattle.rl_ops.specs.Schedule.{turn_words, schedule_lines, schedule_spelling, steps_of, rank_of, TurnFits, StayStopped, ScheduleFits, SpellsSchedule}
use Rattle.rl_ops.specs.ScheduleReading.{Turned, is_stopped, steps_at, stop_at, turn_after, turn_items, no_turn, with_turn, turns_at, schedule_at, schedule_fault}
use Rattle.rl_ops.specs.NextTurn.{IsNextTurn}
use Rattle.rl_ops.proofs.BodyLaws.{FitsAfter, ItemLaws, body-takes, body-again, body-plain}

-- there is room for the steps of a turn
abbrev pub StepsFit : ℕ → Turn → Type 0
StepsFit steps (Steps rank count) = count < MOST_STEPS + 1 - steps
StepsFit steps (Stop rank) = Unit {0}

-- the limits of a turn after those that were read
pub record TurnFitsAfter (ranks : ℕ) (turned : Turned) (turn : Turn) : Type 0 where
  pub there : rank_of turn < ranks
  pub goes_on : is_stopped turned.stopped (rank_of turn) ≡ false
  pub few : StepsFit turned.steps turn

passed-takes : (row : Row) (n : ℕ) (why : Why) (b : Bool) (u : Unit {0}) → passed_at row n why (not b) ≡ Ok u → b ≡ false
passed-takes row n why b u e = negated b (test_ok (not b) (refusal_at row n why) tt u e).0
  where
    negated : (b : Bool) → not b ≡ true → b ≡ false
    negated true e = absurd cc
    negated false e = refl

steps-takes : (ranks : ℕ) (turned : Turned) (row : Row) (turn : Turn) → steps_at ranks turned row ≡ Ok turn → (words row ≡ turn_words turn) × TurnFitsAfter ranks turned turn
unfolding steps_at
steps-takes ranks turned row turn e =
    let most : ℕ = MOST_STEPS + 1 - turned.steps in
    from_bind (below_at row 1 ranks) _ turn e (λ rank r e1.
    from_bind (passed_at row 1 Order (not (is_stopped turned.stopped rank))) _ turn e1 (λ on o e2.
    from_bind (below_at row 2 most) _ turn e2 (λ count c e3.
    from_bind (no_word_at row 3) (λ alone. Ok (Steps rank count)) turn e3 (λ alone n last.
    let rt = below-takes row 1 ranks rank r in
    let ct = below-takes row 2 most count c in
    let all : words row ≡ turn_words (Steps rank count) = words-cons (words row) 0 _ _ rt.0.word (words-cons (words row) 1 _ _ ct.0.word (words-nil (words row) 2 (no_word-takes row 3 alone n))) in
    subst (λ (t : Turn). (words row ≡ turn_words t) × TurnFitsAfter ranks turned t) (ok_is (Steps rank count) turn last)
    (all, record { there = rt.1; goes_on = passed-takes row 1 Order (is_stopped turned.stopped rank) on o; few = ct.1 })))))

stop-takes : (ranks : ℕ) (turned : Turned) (row : Row) (turn : Turn) → stop_at ranks turned row ≡ Ok turn → begins row (codes "stop") ≡ true → (words row ≡ turn_words turn) × TurnFitsAfter ranks turned turn
unfolding stop_at
stop-takes ranks turned row turn e b =
    from_bind (below_at row 2 ranks) _ turn e (λ rank r e1.
    from_bind (passed_at row 2 Repeat (not (is_stopped turned.stopped rank))) _ turn e1 (λ on o e2.
    from_bind (no_word_at row 3) (λ alone. Ok (Stop rank)) turn e2 (λ alone n last.
    let rt = below-takes row 2 ranks rank r in
    let all : words row ≡ turn_words (Stop rank) = words-cons (words row) 0 _ _ (begins-takes row (codes "stop") b) (words-cons (words row) 1 _ _ rt.0.word (words-nil (words row) 2 (no_word-takes row 3 alone n))) in
    subst (λ (t : Turn). (words row ≡ turn_words t) × TurnFitsAfter ranks turned t) (ok_is (Stop rank) turn last)
    (all, record { there = rt.1; goes_on = passed-takes row 2 Repeat (is_stopped turned.stopped rank) on o; few = tt }))))

turn-takes : (ranks : ℕ) (turned : Turned) (row : Row) (turn : Turn) → turn_after ranks turned row ≡ Ok turn → (words row ≡ turn_words turn) × TurnFitsAfter ranks turned turn
unfolding turn_after
turn-takes ranks turned row turn e =
    elim (chosen (begins row (codes "stop")) (stop_at ranks turned row) (steps_at ranks turned row) (Ok turn) e) [
      | inl p ↦ stop-takes ranks turned row turn p.1 p.0
      | inr p ↦ steps-takes ranks turned row turn p.1
    ]

turn-again : (ranks : ℕ) (turned : Turned) (row : Row) (turn : Turn) → ranks < 2 ^ 32 → words row ≡ turn_words turn → TurnFitsAfter ranks turned turn → turn_after ranks turned row ≡ Ok turn
unfolding turn_after steps_at stop_at
turn-again ranks turned row (Steps rank count) small e fits =
    let number : begins row (codes "stop") ≡ false = begins-is row (decimal rank) (codes "stop") (rw e refl) ∙ decimal-no_word rank (codes "stop") (omega (arith, fits.there)) (lit≤ tt) in
    rw (
      number,
      below-again row 1 ranks rank (record { word = rw e refl; fits = omega (arith, fits.there) }) fits.there,
      fits.goes_on,
      below-again row 2 (MOST_STEPS + 1 - turned.steps) count (record { word = rw e refl; fits = omega (arith, fits.few) }) fits.few,
      no_word-again row 3 (rw e refl),
    ) refl
turn-again ranks turned row (Stop rank) small e fits =
    let stops : begins row (codes "stop") ≡ true = begins-is row (codes "stop") (codes "stop") (rw e refl) in
    rw (
      stops,
      below-again row 2 ranks rank (record { word = rw e refl; fits = omega (arith, fits.there) }) fits.there,
      fits.goes_on,
      no_word-again row 3 (rw e refl),
    ) refl

turn-plain : (ranks : ℕ) (turned : Turned) (turn : Turn) → ranks < 2 ^ 32 → TurnFitsAfter ranks turned turn → IsPlain (turn_words turn)
turn-plain ranks turned (Steps rank count) small fits = (omega arith, (plain-decimal rank (omega (arith, fits.there)), (plain-decimal count (omega (arith, fits.few)), tt)))
turn-plain ranks turned (Stop rank) small fits = (omega arith, (refl, (plain-decimal rank (omega (arith, fits.there)), tt)))

-- a turn is not the last line
turn-no_end : (ranks : ℕ) (turned : Turned) (row : Row) (turn : Turn) → ranks < 2 ^ 32 → words row ≡ turn_words turn → TurnFitsAfter ranks turned turn → begins row (codes "end") ≡ false
turn-no_end ranks turned row (Steps rank count) small e fits =
    begins-is row (decimal rank) (codes "end") (rw e refl) ∙ decimal-no_word rank (codes "end") (omega (arith, fits.there)) (lit≤ tt)
turn-no_end ranks turned row (Stop rank) small e fits = begins-is row (codes "stop") (codes "end") (rw e refl)

-- a line of two short numbers is the next turn, where no rank is stopped
pub short-turn : (ranks : ℕ) (turned : Turned) (old new : Left) (rank count : ℕ) → ranks < 2 ^ 32 → turned.steps ≤ MOST_STEPS → turned.stopped ≡ [] → rank < ranks → count < MOST_STEPS - turned.steps + 1 →
    old.rows ≡ pair_row (old.read + 1) rank count ∷ new.rows → new.read ≡ old.read + 1 → IsNextTurn ranks turned old new (Steps rank count)
short-turn ranks turned old new rank count small most none there few rows read =
    let turn : Turn = Steps rank count in
    let row : Row = pair_row (old.read + 1) rank count in
    let fits : TurnFitsAfter ranks turned turn = record { there = there; goes_on = ap (λ stopped. is_stopped stopped rank) none; few = omega arith } in
    let made : words row ≡ turn_words turn = words-made (old.read + 1) (turn_words turn) (turn-plain ranks turned turn small fits) in
    record {
      row = row;
      next = ap (next_row old.read) rows ∙ next-again old.read row new.rows refl;
      goes_on = turn-no_end ranks turned row turn small made fits;
      same = turn-again ranks turned row turn small made fits;
      read = read;
      fewer = omega (arith, ap (λ (all : List Row). length all) rows);
      few = omega arith;
    }

pub turn_laws : (ranks : ℕ) → ranks < 2 ^ 32 → ItemLaws (turn_items ranks) turn_words (TurnFitsAfter ranks)
turn_laws ranks small = record {
  takes = turn-takes ranks;
  again = λ turned row turn e fits. turn-again ranks turned row turn small e fits;
  plain = λ turned turn fits. turn-plain ranks turned turn small fits;
  no_end = λ turned row turn e fits. turn-no_end ranks turned row turn small e fits;
}

-- ---- turns that may follow each other

-- no turn is of a rank that is stopped
abbrev GoOn : List ℕ → List Turn → Type 0
GoOn stopped turns = AllByRecursion (λ turn. is_stopped stopped (rank_of turn) ≡ false) turns

stopped-push : (stopped : List ℕ) (rank other : ℕ) → is_stopped (stopped ++ rank ∷ []) other ≡ (is_stopped stopped other || eqb rank other)
stopped-push [] rank other = none (eqb rank other)
  where
    none : (b : Bool) → (b || false) ≡ b
    none true = refl
    none false = refl
stopped-push (first ∷ stopped) rank other = rw (stopped-push stopped rank other) (assoc (eqb first other) (is_stopped stopped other) (eqb rank other))
  where
    assoc : (a b c : Bool) → (a || (b || c)) ≡ ((a || b) || c)
    assoc true b c = refl
    assoc false b c = refl

or_false : (a b : Bool) → (a || b) ≡ false → (a ≡ false) × (b ≡ false)
or_false true b e = absurd cc
or_false false b e = (refl, e)

-- with one rank more stopped: no turn is of those before, nor of that one
go_on-split : (stopped : List ℕ) (rank : ℕ) (turns : List Turn) → GoOn (stopped ++ rank ∷ []) turns → GoOn stopped turns × AllByRecursion (λ turn. rank_of turn ≢ rank) turns
go_on-split stopped rank [] all = (tt, tt)
go_on-split stopped rank (turn ∷ turns) all =
    let both = or_false (is_stopped stopped (rank_of turn)) (eqb rank (rank_of turn)) (sym (stopped-push stopped rank (rank_of turn)) ∙ all.0) in
    let others = go_on-split stopped rank turns all.1 in
    ((both.0, others.0), (λ same. absurd (let t = eq-eqb rank (rank_of turn) (sym same) in let f = both.1 in cc), others.1))

go_on-join : (stopped : List ℕ) (rank : ℕ) (turns : List Turn) → GoOn stopped turns → AllByRecursion (λ turn. rank_of turn ≢ rank) turns → GoOn (stopped ++ rank ∷ []) turns
go_on-join stopped rank [] all none = tt
go_on-join stopped rank (turn ∷ turns) all none =
    (stopped-push stopped rank (rank_of turn) ∙ rw (all.0, ne_eqb rank (rank_of turn) (λ same. none.0 (sym same))) refl, go_on-join stopped rank turns all.1 none.1)

-- turns that fit one after the other
record TurnsFit (ranks steps : ℕ) (stopped : List ℕ) (turns : List Turn) : Type 0 where
  fit : AllByRecursion (TurnFits ranks) turns
  few : steps + sum_by steps_of turns ≤ MOST_STEPS
  go_on : GoOn stopped turns
  stay : StayStopped turns

turns-fit : (ranks steps : ℕ) (stopped : List ℕ) (turns : List Turn) → steps ≤ MOST_STEPS → FitsAfter (TurnFitsAfter ranks) (turn_items ranks) (record { steps = steps; stopped = stopped }) turns → TurnsFit ranks steps stopped turns
turns-fit ranks steps stopped [] few fits = record { fit = tt; few = omega arith; go_on = tt; stay = tt }
turns-fit ranks steps stopped (Steps rank count ∷ turns) few fits =
    let others = turns-fit ranks (steps + count) stopped turns (omega (arith, fits.0.few)) fits.1 in
    record { fit = (fits.0.there, others.fit); few = rw sum_by-cons (omega (arith, others.few)); go_on = (fits.0.goes_on, others.go_on); stay = others.stay }
turns-fit ranks steps stopped (Stop rank ∷ turns) few fits =
    let others = turns-fit ranks steps (stopped ++ rank ∷ []) turns few fits.1 in
    let two = go_on-split stopped rank turns others.go_on in
    record { fit = (fits.0.there, others.fit); few = rw sum_by-cons (omega (arith, others.few)); go_on = (fits.0.goes_on, two.0); stay = (two.1, others.stay) }

fit-turns : (ranks steps : ℕ) (stopped : List ℕ) (turns : List Turn) → TurnsFit ranks steps stopped turns → FitsAfter (TurnFitsAfter ranks) (turn_items ranks) (record { steps = steps; stopped = stopped }) turns
fit-turns ranks steps stopped [] t = refl
fit-turns ranks steps stopped (Steps rank count ∷ turns) t =
    let total : steps + (count + sum_by steps_of turns) ≤ MOST_STEPS = rw sum_by-cons at t.few in (
      record { there = t.fit.0; goes_on = t.go_on.0; few = omega (arith, total) },
      fit-turns ranks (steps + count) stopped turns (record { fit = t.fit.1; few = omega (arith, total); go_on = t.go_on.1; stay = t.stay }),
    )
fit-turns ranks steps stopped (Stop rank ∷ turns) t =
    let total : steps + (0 + sum_by steps_of turns) ≤ MOST_STEPS = rw sum_by-cons at t.few in (
      record { there = t.fit.0; goes_on = t.go_on.0; few = tt },
      fit-turns ranks steps (stopped ++ rank ∷ []) turns (record { fit = t.fit.1; few = omega (arith, total); go_on = go_on-join stopped rank turns t.go_on.1 t.stay.0; stay = t.stay.1 }),
    )

-- no rank is stopped before the first turn
nobody_stopped : (turns : List Turn) → GoOn [] turns
nobody_stopped [] = tt
nobody_stopped (turn ∷ turns) = (refl, nobody_stopped turns)

-- ---- the file

pub schedule-takes : (ranks : ℕ) (text : List ℕ) (schedule : Schedule) → ranks < 2 ^ 32 → schedule_at ranks text ≡ Ok schedule → SpellsSchedule ranks schedule text
unfolding schedule_at
schedule-takes ranks text schedule small e =
    from_bind (next_row 0 (rows_from 1 text)) (λ first. header_at first.0 (codes "rmalock-schedule") >>= λ header. turns_at ranks no_turn 1 first.1 >>= λ turns. Ok (record { turns = turns })) schedule e (λ first f rest.
    from_bind (header_at first.0 (codes "rmalock-schedule")) (λ header. turns_at ranks no_turn 1 first.1 >>= λ turns. Ok (record { turns = turns })) schedule rest (λ header h more.
    from_bind (turns_at ranks no_turn 1 first.1) (λ turns. Ok (record { turns = turns })) schedule more (λ turns t last.
    let n = next-takes 0 (rows_from 1 text) first.1 first.0 f in
    let taken = body-takes (turn_laws ranks small) no_turn 1 first.1 turns t in
    let fit = turns-fit ranks 0 [] turns (omega arith) taken.fit in
    let made : Schedule = record { turns = turns } in
    let lines : AreLines (rows_from 1 text) (schedule_lines made) =
    subst (λ (rows : List Row). AreLines rows (schedule_lines made)) (sym n.0) (record { ended = n.1; words = header-takes first.0 (codes "rmalock-schedule") header h }, taken.lines) in
    subst (λ (s : Schedule). SpellsSchedule ranks s text) (ok_is made schedule last)
    (record { fit = fit.fit; few = omega (arith, fit.few); stopped = fit.stay }, text-lines 1 text (schedule_lines made) lines))))

pub schedule-again : (ranks : ℕ) (schedule : Schedule) → ranks < 2 ^ 32 → ScheduleFits ranks schedule → schedule_at ranks (schedule_spelling schedule) ≡ Ok schedule
unfolding schedule_at
schedule-again ranks schedule small fits =
    let header : IsPlain (codes "rmalock-schedule" ∷ codes "1" ∷ []) = (omega arith, (refl, (refl, tt))) in
    let after : FitsAfter (TurnFitsAfter ranks) (turn_items ranks) no_turn schedule.turns =
    fit-turns ranks 0 [] schedule.turns (record { fit = fits.fit; few = omega (arith, fits.few); go_on = nobody_stopped schedule.turns; stay = fits.stopped }) in
    let row : Row = record { number = 1; text = join_with_byte 32 (codes "rmalock-schedule" ∷ codes "1" ∷ []); ended = true } in
    rw (
      rows-text 1 (schedule_lines schedule) (header, body-plain (turn_laws ranks small) no_turn schedule.turns after),
      next-again 0 row (rows_of_lines 2 (body_lines (map turn_words schedule.turns))) refl,
      header-again row (codes "rmalock-schedule") (words-made 1 _ header),
      body-again (turn_laws ranks small) no_turn 1 2 schedule.turns after,
    ) refl

-- ---- the loop

gathered-turns : (front turns : List Turn) → fold with_turn front turns ≡ front ++ turns
gathered-turns front [] = sym (append-nil front)
gathered-turns front (turn ∷ turns) = gathered-turns (front ++ turn ∷ []) turns ∙ append_assoc front (turn ∷ []) turns

-- gathering turns one by one gives the turns
pub gathered-nil : (read : Result (List Turn) Refusal) → gathered with_turn [] read ≡ read
gathered-nil (Ok turns) = ap (λ (ts : List Turn). Ok ts) (gathered-turns [] turns)
gathered-nil (Err f) = refl

-- ---- the clauses of the reader

pub is_found : (ranks : ℕ) (text : List ℕ) (r : Result Schedule TextErr) → ranks < 2 ^ 32 → Gives r (schedule_at ranks text) → IfOk r (λ schedule. SpellsSchedule ranks schedule text)
is_found ranks text (Ok schedule) small given = schedule-takes ranks text schedule small given
is_found ranks text (Err e) small given = tt

no_fault-at : (ranks : ℕ) (text : List ℕ) (r : Result Schedule Refusal) → ranks < 2 ^ 32 → schedule_at ranks text ≡ r → fault_of r ≡ None → (schedule : Schedule) × SpellsSchedule ranks schedule text
no_fault-at ranks text (Ok schedule) small e none = (schedule, schedule-takes ranks text schedule small e)
no_fault-at ranks text (Err f) small e none = absurd cc

pub no_fault-value : (ranks : ℕ) (text : List ℕ) → ranks < 2 ^ 32 → schedule_fault ranks text ≡ None → (schedule : Schedule) × SpellsSchedule ranks schedule text
no_fault-value ranks text small none = no_fault-at ranks text (schedule_at ranks text) small refl none

pub value-no_fault : (ranks : ℕ) (text : List ℕ) → ranks < 2 ^ 32 → (schedule : Schedule) × SpellsSchedule ranks schedule text → schedule_fault ranks text ≡ None
value-no_fault ranks text small v = ap fault_of (ap (schedule_at ranks) v.1.1 ∙ schedule-again ranks v.0 small v.1.0)

-- ---- the clause of the printer

pub is_printed : {V E : Type 0} (items : V → List ℕ) (schedule : Schedule) (r : Result V E) → IfOk r (λ text. items text ≡ schedule_spelling schedule)
    → IfOk r (λ text. (ranks : ℕ) → ranks < 2 ^ 32 → ScheduleFits ranks schedule → schedule_at ranks (items text) ≡ Ok schedule)
is_printed items schedule (Ok text) e = λ ranks small fits. ap (schedule_at ranks) e ∙ schedule-again ranks schedule small fits
is_printed items schedule (Err e) h = tt
