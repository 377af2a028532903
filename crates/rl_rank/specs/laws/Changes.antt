-- The holders that a trace tells of are the ranks that stand so: each change of a standing keeps this, and its events are exclusive.
use Rattle.std.specs.Prelude.{◌≡◌, ◌≢◌, ◌⊎◌, ℕ, ◌==◌, Bool, true, false, List, [], ◌∷◌, if◌then◌else◌, slice_get, slice_set, Option, Some, None, refl}
use Rattle.std.proofs.Common.{sym, ◌∙◌, ap, subst, inl, inr, ⊎_elim, eq-eqb}
use Rattle.std.proofs.lemmas.Bool.{ne_eqb, true≢false}
use Rattle.rl_word.specs.laws.Places.{get_set_cases, get_set_same, get_set_other, same_or_not, one_at, set_same_get}
use Rattle.rl_step.specs.declared.events.Event.{Event}
use Rattle.rl_step.specs.declared.events.Event.TheVariants.{Touch, EnterW, EnterR, LeaveW, LeaveR}
use Rattle.rl_step.specs.declared.events.Standing.{Standing}
use Rattle.rl_step.specs.declared.events.Standing.TheVariants.{Out, Asking, Writer, Reader, Leaving}
use Rattle.rl_step.specs.Lock.{Shift, Rests, holds_only}
use Rattle.rl_step.specs.Exclusion.{Alone, ExclusiveFrom, TouchFits, writers_after, readers_after, writers_of, readers_of}
use Rattle.rl_step.specs.laws.ExclusionLaws.{quiet_writers, quiet_readers, quiet_exclusive, one_holds}
use Rattle.rl_work.specs.declared.follow.Follow.{Follow}
use Rattle.rl_work.specs.declared.follow.Follow.TheVariants.{On, Ask, Over}
use Rattle.rl_work.specs.Ways.{AsksOut, TouchesAs, standing_after}
use Rattle.rl_core.specs.Standings.{AloneIn}
use Rattle.rl_rank.specs.Whole.{work_events}
use Rattle.rl_rank.specs.Holders.{Match}

-- A change of a rank's standing, and the events of holders that come with it: those of an act; a touch alone, of a writer or, to
-- read, of a reader; or the holder's leave, with such a touch before it or without.
abbrev pub Change : ℕ → Standing → Standing → List Event → Type 0
Change r Out Asking es = holds_only es ≡ []
Change r Asking Asking es = holds_only es ≡ []
Change r Asking Writer es = holds_only es ≡ EnterW r ∷ []
Change r Asking Reader es = holds_only es ≡ EnterR r ∷ []
Change r Writer Writer es = (holds_only es ≡ []) ⊎ ((w : Bool) × (es ≡ Touch r w ∷ []))
Change r Writer Leaving es = (es ≡ LeaveW r ∷ []) ⊎ ((w : Bool) × (es ≡ Touch r w ∷ LeaveW r ∷ []))
Change r Reader Reader es = (holds_only es ≡ []) ⊎ (es ≡ Touch r false ∷ [])
Change r Reader Leaving es = (es ≡ LeaveR r ∷ []) ⊎ (es ≡ Touch r false ∷ LeaveR r ∷ [])
Change r Leaving Leaving es = holds_only es ≡ []
Change r Leaving Out es = holds_only es ≡ []
Change r Out Out es = holds_only es ≡ []
Change r _ _ es = ⊥

alone_of : (ws rs : ℕ → Bool) (sts : List Standing) → Match ws rs sts → AloneIn sts → Alone ws rs
alone_of ws rs sts m a =
    record { one = λ i j p q. a.one i j (m.writes i p) (m.writes j q); none = λ i j p q. a.none i j (m.writes i p) (m.reads j q) }

-- the match after rank r's standing becomes st
match_set : (ws rs ws' rs' : ℕ → Bool) (sts : List Standing) (r : ℕ) (old st : Standing) → Match ws rs sts → slice_get sts r ≡ Some old →
    ((k : ℕ) → k ≢ r → (ws' k ≡ ws k) × (rs' k ≡ rs k)) →
    (ws' r ≡ true → st ≡ Writer) → (st ≡ Writer → ws' r ≡ true) → (rs' r ≡ true → st ≡ Reader) → (st ≡ Reader → rs' r ≡ true) →
    Match ws' rs' (slice_set sts r st)
match_set ws rs ws' rs' sts r old st m has others w1 w2 r1 r2 =
    record {
      writes = λ k e. ⊎_elim
          (λ q. subst (λ z. slice_get (slice_set sts r st) z ≡ Some Writer) (sym q)
          (get_set_same sts r old st has ∙ ap (λ z. Some z) (w1 (subst (λ z. ws' z ≡ true) q e))))
          (λ q. get_set_other sts r k st q ∙ m.writes k (sym (others k q).0 ∙ e)) (same_or_not k r);
      writer = λ k e. ⊎_elim
          (λ q. subst (λ z. ws' z ≡ true) (sym q.0) (w2 (sym q.1)))
          (λ q. (others k q.0).0 ∙ m.writer k q.1) (get_set_cases sts r k st Writer e);
      reads = λ k e. ⊎_elim
          (λ q. subst (λ z. slice_get (slice_set sts r st) z ≡ Some Reader) (sym q)
          (get_set_same sts r old st has ∙ ap (λ z. Some z) (r1 (subst (λ z. rs' z ≡ true) q e))))
          (λ q. get_set_other sts r k st q ∙ m.reads k (sym (others k q).1 ∙ e)) (same_or_not k r);
      reader = λ k e. ⊎_elim
          (λ q. subst (λ z. rs' z ≡ true) (sym q.0) (r2 (sym q.1)))
          (λ q. (others k q.0).1 ∙ m.reader k q.1) (get_set_cases sts r k st Reader e);
    }

-- one test at a rank and elsewhere
set_here : (r : ℕ) (b : Bool) (ws : ℕ → Bool) → (if r == r then b else ws r) ≡ b
set_here r b ws = let e : (r == r) ≡ true = eq-eqb r r refl in rw e

set_there : (k r : ℕ) (b : Bool) (ws : ℕ → Bool) → k ≢ r → (if k == r then b else ws k) ≡ ws k
set_there k r b ws ne = let e : (k == r) ≡ false = ne_eqb k r ne in rw e

-- what a step keeps of a trace
pub record Goes (ws rs : ℕ → Bool) (es : List Event) (sts : List Standing) : Type 0 where
  pub match : Match (writers_of ws es) (readers_of rs es) sts
  pub exclusive : ExclusiveFrom ws rs es

quiet_goes : (ws rs : ℕ → Bool) (sts : List Standing) (r : ℕ) (old st : Standing) (es : List Event) → Match ws rs sts → AloneIn sts →
    slice_get sts r ≡ Some old → holds_only es ≡ [] →
    (old ≡ Writer → st ≡ Writer) → (st ≡ Writer → old ≡ Writer) → (old ≡ Reader → st ≡ Reader) → (st ≡ Reader → old ≡ Reader) →
    Goes ws rs es (slice_set sts r st)
quiet_goes ws rs sts r old st es m a has q w1 w2 r1 r2 =
    record {
      match = match_set ws rs (writers_of ws es) (readers_of rs es) sts r old st m has
          (λ k ne. (ap (λ f. f k) (quiet_writers ws es q), ap (λ f. f k) (quiet_readers rs es q)))
          (λ e. w1 (one_of old Writer (m.writes r (sym (ap (λ f. f r) (quiet_writers ws es q)) ∙ e))))
          (λ e. ap (λ f. f r) (quiet_writers ws es q) ∙ m.writer r (has ∙ ap (λ z. Some z) (w2 e)))
          (λ e. r1 (one_of old Reader (m.reads r (sym (ap (λ f. f r) (quiet_readers rs es q)) ∙ e))))
          (λ e. ap (λ f. f r) (quiet_readers rs es q) ∙ m.reader r (has ∙ ap (λ z. Some z) (r2 e)));
      exclusive = quiet_exclusive ws rs es q (alone_of ws rs sts m a);
    } where
      one_of : (u v : Standing) → slice_get sts r ≡ Some v → old ≡ v
      one_of u v e = one_at sts r old v has e

event_goes : (ws rs : ℕ → Bool) (sts sts' : List Standing) (es : List Event) (e : Event) → holds_only es ≡ e ∷ [] → Match ws rs sts →
    AloneIn sts → AloneIn sts' → TouchFits ws rs e →
    Match (writers_after e ws) (readers_after e rs) sts' → Goes ws rs es sts'
event_goes ws rs sts sts' es e h m a b t after =
    let o = one_holds ws rs es e h in
    record {
      match = subst (λ w. Match w (readers_of rs es) sts') (sym o.writers) (subst (λ z. Match (writers_after e ws) z sts') (sym o.readers) after);
      exclusive = o.exclusive (alone_of ws rs sts m a) t (alone_of (writers_after e ws) (readers_after e rs) sts' after b);
    }

enter_w_goes : (ws rs : ℕ → Bool) (sts : List Standing) (r : ℕ) (es : List Event) → Match ws rs sts → AloneIn sts →
    AloneIn (slice_set sts r Writer) → slice_get sts r ≡ Some Asking → holds_only es ≡ EnterW r ∷ [] →
    Goes ws rs es (slice_set sts r Writer)
enter_w_goes ws rs sts r es m a b has h =
    event_goes ws rs sts (slice_set sts r Writer) es (EnterW r) h m a b tt
    (match_set ws rs (writers_after (EnterW r) ws) (readers_after (EnterW r) rs) sts r Asking Writer m has
    (λ k ne. (set_there k r true ws ne, refl))
    (λ e. refl) (λ e. set_here r true ws) (λ e. let q : Asking ≡ Reader = one_at sts r Asking Reader has (m.reads r e) in cc) (λ e. cc))

enter_r_goes : (ws rs : ℕ → Bool) (sts : List Standing) (r : ℕ) (es : List Event) → Match ws rs sts → AloneIn sts →
    AloneIn (slice_set sts r Reader) → slice_get sts r ≡ Some Asking → holds_only es ≡ EnterR r ∷ [] →
    Goes ws rs es (slice_set sts r Reader)
enter_r_goes ws rs sts r es m a b has h =
    event_goes ws rs sts (slice_set sts r Reader) es (EnterR r) h m a b tt
    (match_set ws rs (writers_after (EnterR r) ws) (readers_after (EnterR r) rs) sts r Asking Reader m has
    (λ k ne. (refl, set_there k r true rs ne))
    (λ e. let q : Asking ≡ Writer = one_at sts r Asking Writer has (m.writes r e) in cc) (λ e. cc) (λ e. refl) (λ e. set_here r true rs))

-- a writer's touch, and a reader's
touch_w_fits : (ws rs : ℕ → Bool) (r : ℕ) (w : Bool) → ws r ≡ true → TouchFits ws rs (Touch r w)
touch_w_fits ws rs r true here = here
touch_w_fits ws rs r false here = λ f. absurd (true≢false (sym here ∙ f))

touch_goes : (ws rs : ℕ → Bool) (sts : List Standing) (r : ℕ) (st : Standing) (w : Bool) (es : List Event) → Match ws rs sts → AloneIn sts →
    slice_get sts r ≡ Some st → es ≡ Touch r w ∷ [] → TouchFits ws rs (Touch r w) →
    Goes ws rs es (slice_set sts r st)
touch_goes ws rs sts r st w es m a has e fits =
    let same : slice_set sts r st ≡ sts = set_same_get sts r st has in
    let alone : Alone ws rs = alone_of ws rs sts m a in
    subst (λ z. Goes ws rs z (slice_set sts r st)) (sym e)
    (record { match = subst (Match ws rs) (sym same) m; exclusive = (alone, fits, alone) })

-- a holder's touch and leave
leave_goes : (ws rs : ℕ → Bool) (sts : List Standing) (r : ℕ) (w : Bool) (e : Event) (es : List Event) → Match ws rs sts → AloneIn sts →
    AloneIn (slice_set sts r Leaving) → es ≡ Touch r w ∷ e ∷ [] →
    TouchFits ws rs (Touch r w) → TouchFits ws rs e → Match (writers_after e ws) (readers_after e rs)
    (slice_set sts r Leaving) → Goes ws rs es (slice_set sts r Leaving)
leave_goes ws rs sts r w e es m a b h touch leave after =
    let alone : Alone ws rs = alone_of ws rs sts m a in
    subst (λ z. Goes ws rs z (slice_set sts r Leaving)) (sym h)
    (record { match = after; exclusive = (alone, touch, (alone, leave, alone_of (writers_after e ws) (readers_after e rs) (slice_set sts r Leaving) after b)) })

left_w : (ws rs : ℕ → Bool) (sts : List Standing) (r : ℕ) → Match ws rs sts → slice_get sts r ≡ Some Writer →
    Match (writers_after (LeaveW r) ws) (readers_after (LeaveW r) rs) (slice_set sts r Leaving)
left_w ws rs sts r m has =
    match_set ws rs (writers_after (LeaveW r) ws) (readers_after (LeaveW r) rs) sts r Writer Leaving m has
    (λ k ne. (set_there k r false ws ne, refl))
    (λ e. let q : false ≡ true = sym (set_here r false ws) ∙ e in cc) (λ e. cc)
    (λ e. let q : Writer ≡ Reader = one_at sts r Writer Reader has (m.reads r e) in cc) (λ e. cc)

left_r : (ws rs : ℕ → Bool) (sts : List Standing) (r : ℕ) → Match ws rs sts → slice_get sts r ≡ Some Reader →
    Match (writers_after (LeaveR r) ws) (readers_after (LeaveR r) rs) (slice_set sts r Leaving)
left_r ws rs sts r m has =
    match_set ws rs (writers_after (LeaveR r) ws) (readers_after (LeaveR r) rs) sts r Reader Leaving m has
    (λ k ne. (refl, set_there k r false rs ne))
    (λ e. let q : Reader ≡ Writer = one_at sts r Reader Writer has (m.writes r e) in cc) (λ e. cc)
    (λ e. let q : false ≡ true = sym (set_here r false rs) ∙ e in cc) (λ e. cc)

leave_w_goes : (ws rs : ℕ → Bool) (sts : List Standing) (r : ℕ) (w : Bool) (es : List Event) → Match ws rs sts → AloneIn sts →
    AloneIn (slice_set sts r Leaving) → slice_get sts r ≡ Some Writer → es ≡ Touch r w ∷ LeaveW r ∷ [] →
    Goes ws rs es (slice_set sts r Leaving)
leave_w_goes ws rs sts r w es m a b has h =
    leave_goes ws rs sts r w (LeaveW r) es m a b h (touch_w_fits ws rs r w (m.writer r has)) tt (left_w ws rs sts r m has)

leave_r_goes : (ws rs : ℕ → Bool) (sts : List Standing) (r : ℕ) (es : List Event) → Match ws rs sts → AloneIn sts →
    AloneIn (slice_set sts r Leaving) → slice_get sts r ≡ Some Reader → es ≡ Touch r false ∷ LeaveR r ∷ [] →
    Goes ws rs es (slice_set sts r Leaving)
leave_r_goes ws rs sts r es m a b has h =
    leave_goes ws rs sts r false (LeaveR r) es m a b h (λ f. m.reader r has) tt (left_r ws rs sts r m has)

-- a step that changes a rank's standing as it may keeps the match, and its events are exclusive
pub goes : (ws rs : ℕ → Bool) (sts : List Standing) (r : ℕ) (old st : Standing) (es : List Event) → Match ws rs sts → AloneIn sts →
    AloneIn (slice_set sts r st) → slice_get sts r ≡ Some old →
    Change r old st es → Goes ws rs es (slice_set sts r st)
goes ws rs sts r Out Out es m a b has h = quiet_goes ws rs sts r Out Out es m a has h (λ e. cc) (λ e. cc) (λ e. cc) (λ e. cc)
goes ws rs sts r Out Asking es m a b has h = quiet_goes ws rs sts r Out Asking es m a has h (λ e. cc) (λ e. cc) (λ e. cc) (λ e. cc)
goes ws rs sts r Out Writer es m a b has h = absurd h
goes ws rs sts r Out Reader es m a b has h = absurd h
goes ws rs sts r Out Leaving es m a b has h = absurd h
goes ws rs sts r Asking Out es m a b has h = absurd h
goes ws rs sts r Asking Asking es m a b has h = quiet_goes ws rs sts r Asking Asking es m a has h (λ e. cc) (λ e. cc) (λ e. cc) (λ e. cc)
goes ws rs sts r Asking Writer es m a b has h = enter_w_goes ws rs sts r es m a b has h
goes ws rs sts r Asking Reader es m a b has h = enter_r_goes ws rs sts r es m a b has h
goes ws rs sts r Asking Leaving es m a b has h = absurd h
goes ws rs sts r Writer Out es m a b has h = absurd h
goes ws rs sts r Writer Asking es m a b has h = absurd h
goes ws rs sts r Writer Writer es m a b has h =
    ⊎_elim (λ q. quiet_goes ws rs sts r Writer Writer es m a has q (λ e. refl) (λ e. refl) (λ e. cc) (λ e. cc))
    (λ q. touch_goes ws rs sts r Writer q.0 es m a has q.1 (touch_w_fits ws rs r q.0 (m.writer r has))) h
goes ws rs sts r Writer Reader es m a b has h = absurd h
goes ws rs sts r Writer Leaving es m a b has h =
    ⊎_elim (λ q. event_goes ws rs sts (slice_set sts r Leaving) es (LeaveW r) (ap holds_only q) m a b tt (left_w ws rs sts r m has))
    (λ q. leave_w_goes ws rs sts r q.0 es m a b has q.1) h
goes ws rs sts r Reader Out es m a b has h = absurd h
goes ws rs sts r Reader Asking es m a b has h = absurd h
goes ws rs sts r Reader Writer es m a b has h = absurd h
goes ws rs sts r Reader Reader es m a b has h =
    ⊎_elim (λ q. quiet_goes ws rs sts r Reader Reader es m a has q (λ e. cc) (λ e. cc) (λ e. refl) (λ e. refl))
    (λ q. touch_goes ws rs sts r Reader false es m a has q (λ f. m.reader r has)) h
goes ws rs sts r Reader Leaving es m a b has h =
    ⊎_elim (λ q. event_goes ws rs sts (slice_set sts r Leaving) es (LeaveR r) (ap holds_only q) m a b tt (left_r ws rs sts r m has))
    (λ q. leave_r_goes ws rs sts r es m a b has q) h
goes ws rs sts r Leaving Out es m a b has h = quiet_goes ws rs sts r Leaving Out es m a has h (λ e. cc) (λ e. cc) (λ e. cc) (λ e. cc)
goes ws rs sts r Leaving Asking es m a b has h = absurd h
goes ws rs sts r Leaving Writer es m a b has h = absurd h
goes ws rs sts r Leaving Reader es m a b has h = absurd h
goes ws rs sts r Leaving Leaving es m a b has h = quiet_goes ws rs sts r Leaving Leaving es m a has h (λ e. cc) (λ e. cc) (λ e. cc) (λ e. cc)

-- the changes of an act of the lock are five
pub shift_cases : (r : ℕ) (hs : List Event) (P : Standing → Standing → Type 0) → (hs ≡ [] → P Asking Asking) →
    (hs ≡ EnterW r ∷ [] → P Asking Writer) → (hs ≡ EnterR r ∷ [] → P Asking Reader) →
    (hs ≡ [] → P Leaving Leaving) → (hs ≡ [] → P Leaving Out) → (old st : Standing) → Shift r old st hs → P old st
shift_cases r hs P asks writes reads leaves out Out st h = absurd h
shift_cases r hs P asks writes reads leaves out Asking Out h = absurd h
shift_cases r hs P asks writes reads leaves out Asking Asking h = asks h
shift_cases r hs P asks writes reads leaves out Asking Writer h = writes h
shift_cases r hs P asks writes reads leaves out Asking Reader h = reads h
shift_cases r hs P asks writes reads leaves out Asking Leaving h = absurd h
shift_cases r hs P asks writes reads leaves out Writer st h = absurd h
shift_cases r hs P asks writes reads leaves out Reader st h = absurd h
shift_cases r hs P asks writes reads leaves out Leaving Out h = out h
shift_cases r hs P asks writes reads leaves out Leaving Asking h = absurd h
shift_cases r hs P asks writes reads leaves out Leaving Writer h = absurd h
shift_cases r hs P asks writes reads leaves out Leaving Reader h = absurd h
shift_cases r hs P asks writes reads leaves out Leaving Leaving h = leaves h

-- the change of an act, by the lock's laws
pub shift_change : (r : ℕ) (old st : Standing) (es : List Event) → Shift r old st (holds_only es) → Change r old st es
shift_change r old st es h = shift_cases r (holds_only es) (λ o s. Change r o s es) (λ e. e) (λ e. e) (λ e. e) (λ e. e) (λ e. e) old st h

-- no change
pub change_refl : (r : ℕ) (st : Standing) → Change r st st []
change_refl r Out = refl
change_refl r Asking = refl
change_refl r Writer = inl refl
change_refl r Reader = inl refl
change_refl r Leaving = refl

-- the change by an atom of the work: a rank that is out touches nothing, and a reader's touch writes nothing
out_quiet : (r : ℕ) (touch : Option Bool) (follow : Follow) → TouchesAs touch Out → holds_only (work_events r touch Out follow) ≡ []
out_quiet r None On t = refl
out_quiet r None (Ask m) t = refl
out_quiet r None Over t = refl
out_quiet r (Some true) follow t = absurd (cc)
out_quiet r (Some false) follow t = absurd t

out_change : (r : ℕ) (touch : Option Bool) (follow : Follow) → TouchesAs touch Out → Change r Out (standing_after follow Out) (work_events r touch Out follow)
out_change r touch On t = out_quiet r touch On t
out_change r touch (Ask m) t = out_quiet r touch (Ask m) t
out_change r touch Over t = out_quiet r touch Over t

holder_change_w : (r : ℕ) (touch : Option Bool) (follow : Follow) → AsksOut follow Writer →
    Change r Writer (standing_after follow Writer) (work_events r touch Writer follow)
holder_change_w r None On a = inl refl
holder_change_w r (Some w) On a = inr (w, refl)
holder_change_w r touch (Ask m) a = absurd (cc)
holder_change_w r None Over a = inl refl
holder_change_w r (Some w) Over a = inr (w, refl)

holder_change_r : (r : ℕ) (touch : Option Bool) (follow : Follow) → TouchesAs touch Reader → AsksOut follow Reader →
    Change r Reader (standing_after follow Reader) (work_events r touch Reader follow)
holder_change_r r None On t a = inl refl
holder_change_r r (Some true) On t a = absurd (cc)
holder_change_r r (Some false) On t a = inr refl
holder_change_r r touch (Ask m) t a = absurd (cc)
holder_change_r r None Over t a = inl refl
holder_change_r r (Some true) Over t a = absurd (cc)
holder_change_r r (Some false) Over t a = inr refl

pub work_change : (r : ℕ) (st : Standing) (touch : Option Bool) (follow : Follow) (new : Standing) → Rests st → TouchesAs touch st →
    AsksOut follow st → new ≡ standing_after follow st → Change r st new (work_events r touch st follow)
work_change r Out touch follow new h t a e = subst (λ z. Change r Out z (work_events r touch Out follow)) (sym e) (out_change r touch follow t)
work_change r Asking touch follow new h t a e = absurd h
work_change r Writer touch follow new h t a e = subst (λ z. Change r Writer z (work_events r touch Writer follow)) (sym e) (holder_change_w r touch follow a)
work_change r Reader touch follow new h t a e = subst (λ z. Change r Reader z (work_events r touch Reader follow)) (sym e) (holder_change_r r touch follow t a)
work_change r Leaving touch follow new h t a e = absurd h
