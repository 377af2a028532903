-- Each block under its lock keeps the laws of a way of working.
use Rattle.std.specs.Prelude.{◌≡◌, ℕ, zero, suc, ◌+◌, ◌<◌, ◌≤◌, ◌==◌, Bool, true, false, not, ◌&&◌, cond, List, [], ◌∷◌, length, replicate, count_by, take, slice_get, slice_set, Option, Some, None, refl}
use Rattle.std.proofs.Common.{sym, ◌∙◌, ap, subst, inl, inr, ⊎_elim, arith, length-take}
use Rattle.std.proofs.lemmas.List.{length-map, take_at, get_or-take, append-nil}
use Rattle.std.proofs.lemmas.Bool.Decides.{nat_tests}
use Rattle.std.proofs.lemmas.Option.{same_Some}
use Rattle.std.specs.FinMap as finite
use Rattle.rl_word.specs.laws.Places.{get_set_cases, get_set_same, one_at}
use Rattle.rl_word.specs.declared.acts.Atom.{Atom}
use Rattle.rl_word.specs.declared.acts.Atom.TheVariants as atom
use Rattle.rl_word.specs.declared.classes.Mode.TheVariants as mode
use Rattle.rl_model.specs.declared.call.Call.{Call}
use Rattle.rl_model.specs.declared.call.Call.TheVariants as call
use Rattle.rl_model.specs.declared.entry.Entry.{Entry}
use Rattle.rl_model.specs.declared.geom.Geom.{Geom}
use Rattle.rl_model.specs.Asked.{asks_update}
use Rattle.rl_model.specs.Call.{is_update, reads}
use Rattle.rl_model.proofs.Counts.{count-append, count-cons}
use Rattle.rl_step.specs.declared.events.Standing.{Standing}
use Rattle.rl_step.specs.declared.events.Standing.TheVariants.{Out, Asking, Writer, Reader, Leaving}
use Rattle.rl_step.specs.Lock.{IsHolder, Rests, Suits}
use Rattle.rl_step.specs.laws.CoreLemmas.{length-do_words}
use Rattle.rl_step.specs.Do.{do_got, do_words, CanDo}
use Rattle.rl_step.specs.Core.{home_at}
use Rattle.rl_volume.specs.declared.write.Write.{Write}
use Rattle.rl_volume.specs.Volume.{IsVolume}
use Rattle.rl_journal.specs.Blocks.{calls_of, is_tenure}
use Rattle.rl_journal.specs.Legal.{IsLegal, table_after}
use Rattle.rl_journal.specs.History.{history, IsSorted}
use Rattle.rl_work.specs.declared.follow.Follow.TheVariants.{Over}
use Rattle.rl_work.specs.declared.stage.Stage.{Stage}
use Rattle.rl_work.specs.declared.stage.Stage.TheVariants.{Rest, Begin, Read, Journal, Volume}
use Rattle.rl_site.specs.Site.{Site, lock_base, volume_of, journal_of}
use Rattle.rl_work.specs.Work.{TheWork, WorkTurned, CanName, CanTurn, batch_in, has_work, stage_atom, stores, work_atom, work_after, write_atom}
use Rattle.rl_site.specs.Opens.{opening_words}
use Rattle.rl_work.specs.WorkGood.{WorkSide, IsApart as LockedApart, IsDone, IsInCall, FitsAt, WorkGood, is_writing, transcripts, IsFirst as FirstLocked, side_turned as locked_turned, standing_after as locked_standing}
use Rattle.rl_work.specs.laws.AtomLaws.{opening_good, open_keeps, shift_keeps, atom_keeps, atom_can, can_name, can_turn, holder_asks, stores_alone, few_replies, entry_calls}
use Rattle.rl_site.specs.laws.OpeningLaws.{opening_size}
use Rattle.rl_work.specs.laws.RoomLaws.{journal_short}
use Rattle.rl_work.specs.laws.RuleLaws.{journal_is, always_legal, always_sorted}
use Rattle.rl_work.specs.PlainWork.{IsPlain, Rises}
use Rattle.rl_work.specs.laws.EndLaws.{plain_atom, tells_rise, Ends, EndsBy, turn_ends}
use Rattle.rl_work.specs.Locked.{mode_of, locked_table, locked_good}
use Rattle.rl_work.specs.laws.Cases.{follow_by}
use Rattle.rl_work.specs.laws.Cases.{mode_by}
use Rattle.rl_work.specs.Ways.{WorkTable, WorkLaws, IsApart, IsSide, Works, IsFirst, IsWorkAtom, Look, AtomWork, MayWork, MayTurn, GoesOnAt, TouchesAs, AsksOut, mode_after, side_after, standing_after, tenure_of, tenure_by, transcripts_from, IsFrontAtom, TellsTouch}

-- a lock that readers share gives them to gets alone, and no writer to a get; another lock has no reader
read_mode : (b : Bool) → mode_by b ≡ mode.Read → b ≡ true
read_mode true e = refl
read_mode false e = absurd (cc)

write_mode : (b : Bool) → mode_by b ≡ mode.Write → b ≡ false
write_mode true e = absurd (cc)
write_mode false e = refl

no_update : (c : Call) → reads c ≡ true → is_update c ≡ false
no_update (call.Put key value) e = absurd (cc)
no_update (call.Get key) e = refl
no_update (call.Del key) e = absurd (cc)
no_update (call.Add key by) e = absurd (cc)
no_update (call.Cas key old new) e = absurd (cc)
no_update (call.Hold shard) e = refl

reader_gets : (cs : List Call) → mode_of cs ≡ mode.Read → asks_update cs ≡ false
reader_gets [] s = refl
reader_gets (c ∷ cs) s = no_update c (read_mode (reads c) s)

writer_counts : (shares : Bool) (e : Entry) (cs : List Call) → e.part ≡ 0 → Suits shares (mode_of (e.call ∷ cs)) Writer → is_tenure shares e ≡ true
writer_counts false e cs first s = ap (λ n. n == 0) first
writer_counts true e cs first s = ap (λ n. (n == 0) && not (reads e.call)) first ∙ ap not (write_mode (reads e.call) s)

reader_counts : (shares : Bool) (e : Entry) (cs : List Call) → e.part ≡ 0 → Suits shares (mode_of (e.call ∷ cs)) Reader → is_tenure shares e ≡ false
reader_counts false e cs first s = absurd s
reader_counts true e cs first s = ap (λ n. (n == 0) && not (reads e.call)) first ∙ ap not (read_mode (reads e.call) s)

-- later parts of a block count nothing
later_part : (shares : Bool) (e : Entry) → (e.part == 0) ≡ false → is_tenure shares e ≡ false
later_part false e miss = miss
later_part true e miss = ap (λ b. b && not (reads e.call)) miss

later_parts : (shares : Bool) (n : ℕ) (es : List Entry) → Rises (n + 1) es → count_by (is_tenure shares) es ≡ 0
later_parts shares n [] rises = refl
later_parts shares n (e ∷ es) rises =
    let here : e.part ≡ n + 1 = rises.0 in
    let miss : (e.part == 0) ≡ false = grind (arith, nat_tests) in
    let zero_is : ◌≡◌ {A = ℕ} (cond (is_tenure shares e) 1 0) 0 = ap (λ b. cond {A = ℕ} b 1 0) (later_part shares e miss) in
    omega (arith, count-cons (is_tenure shares) e es, later_parts shares (n + 1) es rises.1)

-- a block is one tenure where a writer has done it
block_counts : (shares : Bool) (st : Standing) (b : List Entry) → IsHolder st → 1 ≤ length b → Rises 0 b →
    Suits shares (mode_of (calls_of b)) st → count_by (is_tenure shares) b ≡ tenure_by st
block_counts shares st [] h some rises s = absurd (omega arith)
block_counts shares st (e ∷ es) h some rises s = omega (arith, count-cons (is_tenure shares) e es, later_parts shares 0 es rises.1, by_standing st h s) where
  by_standing : (st : Standing) → IsHolder st → Suits shares (mode_of (calls_of (e ∷ es))) st → cond {A = ℕ} (is_tenure shares e) 1 0 ≡ tenure_by st
  by_standing Out h s = absurd h
  by_standing Asking h s = absurd h
  by_standing Writer h s = ap (λ b. cond {A = ℕ} b 1 0) (writer_counts shares e (calls_of es) rises.0 s)
  by_standing Reader h s = ap (λ b. cond {A = ℕ} b 1 0) (reader_counts shares e (calls_of es) rises.0 s)
  by_standing Leaving h s = absurd h

-- a holder that goes on has its block open
holder_open : (st : Standing) (busy : Bool) (next : Option Atom) → IsHolder st → GoesOnAt st busy next → busy ≡ true
holder_open Out busy next h e = absurd h
holder_open Asking busy next h e = absurd h
holder_open Writer busy next h e = e.0
holder_open Reader busy next h e = e.0
holder_open Leaving busy next h e = absurd h

-- each atom of the work inside a lock is told as a touch
pub work_tells : (geom : Geom) (x : TheWork) (base : ℕ) (st : Standing) (calls : List Call) (stage : Stage) (at : Atom) →
    stage_atom geom x stage ≡ Some at → TellsTouch base at st calls (Some (stores stage))
work_tells geom x base st calls Rest at p = absurd (cc)
work_tells geom x base st calls Begin at p = subst (λ z. TellsTouch base z st calls (Some false)) (same_Some _ _ p) (λ low. inl refl)
work_tells geom x base st calls (Read count word) at p = subst (λ z. TellsTouch base z st calls (Some false)) (same_Some _ _ p) (λ low. inl refl)
work_tells geom x base st calls (Journal made) at p = subst (λ z. TellsTouch base z st calls (Some true)) (same_Some _ _ p) (λ low. refl)
work_tells geom x base st calls (Volume made) at p = subst (λ z. TellsTouch base z st calls (Some true)) (same_Some _ _ p)
    (by_write (slice_get x.writes made)) where
      by_write : (o : Option Write) → TellsTouch base (write_atom (x.at + length x.entries) o) st calls (Some true)
      by_write (Some w) = λ low. refl
      by_write None = λ low. refl

-- an atom that can be made on the first words of a list is made on them alone
take_set_in : (n : ℕ) (l : List ℕ) (i v : ℕ) → i < n → take n (slice_set l i v) ≡ slice_set (take n l) i v
take_set_in zero l i v h = absurd (omega arith)
take_set_in (suc n) [] i v h = refl
take_set_in (suc n) (x ∷ xs) zero v h = refl
take_set_in (suc n) (x ∷ xs) (suc i) v h = ap (λ z. x ∷ z) (take_set_in n xs i v (omega arith))

record OnFront (base : ℕ) (at : Atom) (ws cs : List ℕ) : Type 0 where
  front : take base (do_words at ws) ≡ do_words at (take base ws)
  got : do_got at ws cs ≡ do_got at (take base ws) cs

on_front : (base r home : ℕ) (at : Atom) (ws cs : List ℕ) → IsPlain at → CanDo home r at (take base ws) cs → OnFront base at ws cs
on_front base r home (atom.Load w) ws cs p c =
    let low : w < length (take base ws) = c in
    record { front = refl; got = sym (get_or-take base ws w 0 (omega (arith, length-take base ws))) }
on_front base r home (atom.Store w v) ws cs p c =
    let low : w < length (take base ws) = c in
    record { front = take_set_in base ws w v (omega (arith, length-take base ws)); got = refl }
on_front base r home (atom.LocalCas w old new) ws cs p c = absurd p
on_front base r home (atom.Take n) ws cs p c = absurd p
on_front base r home (atom.CardLoad w) ws cs p c = absurd p
on_front base r home (atom.CardStore w v) ws cs p c = absurd p
on_front base r home (atom.Leave n) ws cs p c = absurd p

-- it names a word of these
pub front_names : (base r home : ℕ) (at : Atom) (ws cs : List ℕ) → IsPlain at → CanDo home r at (take base ws) cs → IsFrontAtom base at
front_names base r home (atom.Load w) ws cs p c = let low : w < length (take base ws) = c in let here : w < base = omega (arith, length-take base ws) in here
front_names base r home (atom.Store w v) ws cs p c = let low : w < length (take base ws) = c in let here : w < base = omega (arith, length-take base ws) in here
front_names base r home (atom.LocalCas w old new) ws cs p c = absurd p
front_names base r home (atom.Take n) ws cs p c = absurd p
front_names base r home (atom.CardLoad w) ws cs p c = absurd p
front_names base r home (atom.CardStore w v) ws cs p c = absurd p
front_names base r home (atom.Leave n) ws cs p c = absurd p

-- and it is an atom of the work
front_atom : (site : Site) (behind r home : ℕ) (at : Atom) (ws cs : List ℕ) → lock_base site ≤ behind → IsPlain at →
    CanDo home r at (take (lock_base site) ws) cs → IsWorkAtom (locked_table site behind) at
front_atom site behind r home (atom.Load w) ws cs le p c =
    let low : w < length (take (lock_base site) ws) = c in
    let here : w < lock_base site = omega (arith, length-take (lock_base site) ws) in
    record { there = omega arith; place = inl here }
front_atom site behind r home (atom.Store w v) ws cs le p c =
    let low : w < length (take (lock_base site) ws) = c in
    let here : w < lock_base site = omega (arith, length-take (lock_base site) ws) in
    record { there = omega arith; place = inl here }
front_atom site behind r home (atom.LocalCas w old new) ws cs le p c = absurd p
front_atom site behind r home (atom.Take n) ws cs le p c = absurd p
front_atom site behind r home (atom.CardLoad w) ws cs le p c = absurd p
front_atom site behind r home (atom.CardStore w v) ws cs le p c = absurd p
front_atom site behind r home (atom.Leave n) ws cs le p c = absurd p

-- by how it stands
resting_holds : (st : Standing) → Rests st → (st ≡ Out → ⊥) → IsHolder st
resting_holds Out r never = absurd (never refl)
resting_holds Asking r never = absurd r
resting_holds Writer r never = tt
resting_holds Reader r never = tt
resting_holds Leaving r never = absurd r

done_after : (b : Bool) (st : Standing) → IsHolder st → standing_after (follow_by b) st ≡ locked_standing b st
done_after false st h = refl
done_after true Out h = absurd h
done_after true Asking h = absurd h
done_after true Writer h = refl
done_after true Reader h = refl
done_after true Leaving h = absurd h

not_writing : (st : Stage) → has_work st ≡ false → is_writing st ≡ false
not_writing Rest e = refl
not_writing Begin e = refl
not_writing (Read count word) e = refl
not_writing (Journal made) e = refl
not_writing (Volume made) e = e

module _ (site : Site) (behind : ℕ) where
  abbrev T : WorkTable TheWork
  T = locked_table site behind

  abbrev good : List ℕ → List WorkSide → Type 0
  good = locked_good site

  same_transcripts : (words : List ℕ) (r : ℕ) (sides : List WorkSide) → transcripts sides ≡ transcripts_from T words r sides
  same_transcripts words r [] = refl
  same_transcripts words r (x ∷ sides) = ap (λ z. x.work.transcript.items ∷ z) (same_transcripts words (r + 1) sides)

  apart : (sides : List WorkSide) → IsApart T sides → LockedApart sides
  apart sides a = record { excludes = a.excludes; reads = λ r x get reader. reader_gets x.work.calls (a.reads r x get reader) }

  module _ (words : List ℕ) (sides : List WorkSide) (r : ℕ) (x : WorkSide) (s : IsSide T good words sides r x) where
    abbrev front : List ℕ
    front = take (lock_base site) words

    abbrev g : WorkGood site front sides
    g = s.is_good

    -- where a rank is out its block is closed, and it is open where the rank asks or holds
    by_standing : (st : Stage) → FitsAt site front g.journal g.before r x st → GoesOnAt x.standing (has_work st) (stage_atom site.geom x.work st)
    by_standing Rest f = rests x.standing f where
      rests : (st : Standing) → IsDone st → GoesOnAt st false None
      rests Out d = refl
      rests Asking d = absurd d
      rests Writer d = absurd d
      rests Reader d = absurd d
      rests Leaving d = refl
    by_standing Begin f = in_call x.standing f.1 where
      in_call : (st : Standing) → IsInCall st → GoesOnAt st true (stage_atom site.geom x.work Begin)
      in_call Out d = absurd d
      in_call Asking d = refl
      in_call Writer d = (refl, refl)
      in_call Reader d = (refl, refl)
      in_call Leaving d = absurd d
    by_standing (Read count word) f = holds x.standing f.holds where
      holds : (st : Standing) → IsHolder st → GoesOnAt st true (stage_atom site.geom x.work (Read count word))
      holds Out d = absurd d
      holds Asking d = absurd d
      holds Writer d = (refl, refl)
      holds Reader d = (refl, refl)
      holds Leaving d = absurd d
    by_standing (Journal made) f = subst (λ st. GoesOnAt st true (stage_atom site.geom x.work (Journal made))) (sym f.0.writes) (refl, refl)
    by_standing (Volume made) f = subst (λ st. GoesOnAt st true (stage_atom site.geom x.work (Volume made))) (sym f.0.writes) (refl, refl)

    goes_on : GoesOnAt x.standing (has_work x.work.stage) (work_atom site.geom x.work)
    goes_on = by_standing x.work.stage (g.fits r x s.there)

    out_rests : (st : Stage) → FitsAt site front g.journal g.before r x st → x.standing ≡ Out → stage_atom site.geom x.work st ≡ None
    out_rests Rest f out = refl
    out_rests Begin f out = absurd (subst IsInCall out f.1)
    out_rests (Read count word) f out = absurd (subst IsHolder out f.holds)
    out_rests (Journal made) f out = let e = f.0.writes in absurd (cc)
    out_rests (Volume made) f out = let e = f.0.writes in absurd (cc)

    holds : (at : Atom) → Rests x.standing → work_atom site.geom x.work ≡ Some at → IsHolder x.standing
    holds at rests planned = resting_holds x.standing rests (λ out. let none = out_rests x.work.stage (g.fits r x s.there) out in cc)

  module _ (words cards : List ℕ) (sides : List WorkSide) (r : ℕ) (x : WorkSide) (at : Atom) (w : Works T good words sides r x at) where
    abbrev rule : WorkGood site (take (lock_base site) words) sides
    rule = w.side.is_good

    abbrev got : ℕ
    got = do_got at words cards

    abbrev turned : WorkTurned
    turned = work_after site.geom site.shard r x.work (do_got at words cards)

    holder : IsHolder x.standing
    holder = holds words sides r x w.side at w.rests w.planned

    on : OnFront (lock_base site) at words cards
    on = on_front (lock_base site) r (home_at (λ w. w) at) at words cards (plain_atom site.geom x.work x.work.stage at w.planned)
        (atom_can site (take (lock_base site) words) sides rule r x w.side.there at (λ w. w) cards w.planned)

    plain : IsWorkAtom T at
    plain = front_atom site behind r (home_at (λ w. w) at) at words cards w.side.laid.low (plain_atom site.geom x.work x.work.stage at w.planned)
        (atom_can site (take (lock_base site) words) sides rule r x w.side.there at (λ w. w) cards w.planned)

    fronts : IsFrontAtom (lock_base site) at
    fronts = front_names (lock_base site) r (home_at (λ w. w) at) at words cards (plain_atom site.geom x.work x.work.stage at w.planned)
        (atom_can site (take (lock_base site) words) sides rule r x w.side.there at (λ w. w) cards w.planned)

    makes : good (do_words at words) (slice_set sides r (side_after T r x got))
    makes =
        subst (λ z. WorkGood site z (slice_set sides r (side_after T r x got))) (sym on.front)
        (subst (λ st. WorkGood site (do_words at (take (lock_base site) words))
        (slice_set sides r (record { standing = st; work = turned.work }))) (sym (done_after turned.over x.standing holder))
        (subst (λ n. WorkGood site (do_words at (take (lock_base site) words))
        (slice_set sides r (locked_turned x.standing (work_after site.geom site.shard r x.work n)))) (sym on.got)
        (atom_keeps site (take (lock_base site) words) sides rule r x w.side.there (apart sides w.apart) holder at cards w.planned)))

    ended : Ends site.shard r x.work turned
    ended = turn_ends site.geom site.shard r x.work x.work.stage got
        (few_replies site (take (lock_base site) words) sides rule r x w.side.there)
        (λ made st. entry_calls site (take (lock_base site) words) sides rule r x w.side.there made st)

    -- the block is open before the atom, and after it where its work isn't over
    was_open : has_work x.work.stage ≡ true
    was_open = holder_open x.standing (has_work x.work.stage) (work_atom site.geom x.work) holder (goes_on words sides r x w.side)

    after_there : slice_get (slice_set sides r (side_after T r x got)) r ≡ Some (side_after T r x got)
    after_there = get_set_same sides r x (side_after T r x got) w.side.there

    after_is : IsSide T good (do_words at words) (slice_set sides r (side_after T r x got)) r (side_after T r x got)
    after_is =
        let laid = w.side.laid in
        record { is_good = makes; laid = record { low = laid.low; all = length-do_words at words ∙ laid.all; fits = laid.fits }; there = after_there }

    still_open : (b : Bool) → turned.over ≡ b → b ≡ false → has_work turned.work.stage ≡ true
    still_open true e f = cc
    still_open false e f = holder_open x.standing (has_work turned.work.stage) (work_atom site.geom turned.work) holder
        (subst (λ b. GoesOnAt (standing_after (follow_by b) x.standing) (has_work turned.work.stage) (work_atom site.geom turned.work)) e
        (goes_on (do_words at words) (slice_set sides r (side_after T r x got)) r (side_after T r x got) after_is))

    now_closed : turned.over ≡ true → has_work turned.work.stage ≡ false
    now_closed e = by_holder x.standing holder
        (subst (λ b. GoesOnAt (standing_after (follow_by b) x.standing) (has_work turned.work.stage) (work_atom site.geom turned.work)) e
        (goes_on (do_words at words) (slice_set sides r (side_after T r x got)) r (side_after T r x got) after_is)) where
          by_holder : (st : Standing) → IsHolder st → GoesOnAt (standing_after Over st) (has_work turned.work.stage)
              (work_atom site.geom turned.work) → has_work turned.work.stage ≡ false
          by_holder Out h e = absurd h
          by_holder Asking h e = absurd h
          by_holder Writer h e = e
          by_holder Reader h e = e
          by_holder Leaving h e = absurd h

    abbrev seen : TheWork → Look
    seen y = record { calls = y.calls; seq = y.seq; items = y.transcript.items; room = y.transcript.room; owes = has_work y.stage && has_work y.stage }

    own_by : (b : Bool) → turned.over ≡ b → AtomWork site.shard r (seen x.work) (seen turned.work)
    own_by false e =
        inl (record {
          same_calls = ended.same_calls;
          same_seq = ended.same_seq;
          same_items = subst (EndsBy site.shard r x.work turned.work) e ended.kept;
          same_room = ended.same_room;
          owes = ap (λ b. b && b) (still_open false e refl ∙ sym was_open);
        })
    own_by true e =
        let k : EndsBy site.shard r x.work turned.work true = subst (EndsBy site.shard r x.work turned.work) e ended.kept in
        inr (record {
          was = ap (λ b. b && b) was_open;
          is_over = ap (λ b. b && b) (now_closed e);
          same_room = ended.same_room;
          entries = k.0;
          items = k.1;
          calls_are = k.2;
          tells = k.3;
        })

    own_work : AtomWork site.shard r (seen x.work) (seen turned.work)
    own_work = own_by turned.over refl

    changes : (k : ℕ) (u y : WorkSide) → slice_get sides k ≡ Some u → slice_get (slice_set sides r (side_after T r x got)) k ≡ Some y →
        AtomWork site.shard k (seen u.work) (seen y.work)
    changes k u y was is =
        ⊎_elim
        (λ q.
        let before : x ≡ u = one_at sides r x u w.side.there (ap (slice_get sides) (sym q.0) ∙ was) in
        subst (λ n. AtomWork site.shard n (seen u.work) (seen y.work)) (sym q.0)
        (subst (λ (z : WorkSide). AtomWork site.shard r (seen z.work) (seen y.work)) before
        (subst (λ (z : WorkSide). AtomWork site.shard r (seen x.work) (seen z.work)) (sym q.1) own_work)))
        (λ q.
        let same : u ≡ y = one_at sides k u y was q.1 in
        subst (λ (z : WorkSide). AtomWork site.shard k (seen u.work) (seen z.work)) same
        (inl (record { same_calls = refl; same_seq = refl; same_items = refl; same_room = refl; owes = refl })))
        (get_set_cases sides r k (side_after T r x got) y is)

    asks_out : (b : Bool) → AsksOut (follow_by b) x.standing
    asks_out true = tt
    asks_out false = tt

    same_mode : (b : Bool) → mode_of turned.work.calls ≡ mode_after (follow_by b) (mode_of x.work.calls)
    same_mode true = ap mode_of ended.same_calls
    same_mode false = ap mode_of ended.same_calls

    touches : (b : Bool) → stores x.work.stage ≡ b → TouchesAs (Some b) x.standing
    touches true e = stores_alone site (take (lock_base site) words) sides rule r x w.side.there e
    touches false e = holder

    tenures_by : (shares : Bool) → Suits shares (mode_of x.work.calls) x.standing → (b : Bool) → turned.over ≡ b →
        count_by (is_tenure shares) turned.work.transcript.items ≡ count_by (is_tenure shares) x.work.transcript.items + tenure_of (follow_by b) x.standing
    tenures_by shares s false e = ap (count_by (is_tenure shares)) (subst (EndsBy site.shard r x.work turned.work) e ended.kept) ∙ omega arith
    tenures_by shares s true e =
        let k : EndsBy site.shard r x.work turned.work true = subst (EndsBy site.shard r x.work turned.work) e ended.kept in
        let some : 1 ≤ length k.0 = omega (
          arith,
          length-map k.0 (λ (e : Entry). e.call),
          ap length k.2,
          holder_asks site
              (take (lock_base site) words) sides rule r x w.side.there holder,
        ) in
        let more : count_by (is_tenure shares) k.0 ≡ tenure_by x.standing =
        block_counts shares x.standing k.0 holder some (tells_rise site.shard r (batch_in x.work) x.work.seq 0 k.0 k.3)
        (subst (λ c. Suits shares (mode_of c) x.standing) (sym k.2) s) in
        ap (count_by (is_tenure shares)) k.1 ∙ count-append (is_tenure shares) x.work.transcript.items k.0
        ∙ ap (λ n. count_by (is_tenure shares) x.work.transcript.items + n) more

  first_good : (x : WorkSide) (r : ℕ) → IsFirst T r x → FirstLocked site.geom x
  first_good x r f =
      record {
        out = f.out;
        rests = ap (λ (z : TheWork). z.stage) f.work;
        nothing = ap (λ (z : TheWork). z.transcript.items) f.work;
        seen_room = ap (λ (z : TheWork). z.seen.room) f.work;
      }

  pub locked_laws : WorkLaws T good
  locked_laws =
      record {
        few_words = λ few. omega arith;
        begins = λ fits n low all sides ranks first.
            subst (λ z. WorkGood site z sides) (sym (take_at (opening_words site) (replicate n 0) (lock_base site) (opening_size site)))
            (opening_good site fits sides ranks (λ r x get. first_good x r (first r x get)));
        first = λ r room. (refl, refl, refl);
        fits = λ words sides g. (g.geom_fits, g.ranks);
        frame = λ words others sides g laid same. subst (λ z. WorkGood site z sides) (sym same.before) g;
        same_look = λ words others sides r x s same. refl;
        opens = λ words sides r x calls seq s out closed is takes. open_keeps site (take (lock_base site) words) sides s.is_good r x s.there calls seq out is;
        opened = λ words sides r x calls seq s out closed is takes. (refl, refl, refl, refl, refl);
        closed = λ words sides r x s closed. (refl, refl);
        keeps = λ words sides r x s. ([], sym (append-nil _));
        shifts = λ words sides r x standing events s shift. shift_keeps site (take (lock_base site) words) sides s.is_good r x s.there standing events shift;
        makes = λ words cards sides r x at w. makes words cards sides r x at w;
        plain = λ words sides r x at w. plain words [] sides r x at w;
        goes_on = λ words sides r x s. goes_on words sides r x s;
        follows = λ words cards sides r x at w. (asks_out words cards sides r x at w _, same_mode words cards sides r x at w _);
        touches = λ words sides r x at w. touches words [] sides r x at w (stores x.work.stage) refl;
        tells = λ words sides r x at w. work_tells site.geom x.work (lock_base site) x.standing x.work.calls x.work.stage at w.planned;
        fronts = λ words sides r x at w told. fronts words [] sides r x at w;
        answers = λ words cards sides r x at w. tt;
        alone = λ words cards sides r x at one w. refl;
        legal = λ words sides g laid. subst (IsLegal site.geom (journal_of site (take (lock_base site) words)))
            (same_transcripts words 0 sides) (always_legal site (take (lock_base site) words) sides g);
        sorted = λ words sides g laid. subst (λ t. IsSorted (history (journal_of site (take (lock_base site) words)) t))
            (same_transcripts words 0 sides) (always_sorted site (take (lock_base site) words) sides g);
        short = λ words sides g laid. let short = journal_short site (take (lock_base site) words) sides g in
            let same = ap length (journal_is site (take (lock_base site) words) sides g) in omega arith;
        own = λ words sides r x s. let g = s.is_good in g.own r x s.there;
        changes = λ words cards sides r x at w k u y was is. changes words cards sides r x at w k u y was is;
        turns = λ words cards sides r x at w. own_work words cards sides r x at w;
        tenures = λ words cards sides r x at w shares s. tenures_by words cards sides r x at w shares s _ refl;
        volume = λ words sides g laid closed.
            let same : volume_of site.geom (take (lock_base site) words) ≡ g.before = g.still (λ r x get. not_writing x.work.stage (closed r x get)) in
            subst (λ j. IsVolume site.geom site.shard (volume_of site.geom (take (lock_base site) words))
            (table_after site.geom finite.empty j)) (sym (journal_is site (take (lock_base site) words) sides g))
            (subst (λ l. IsVolume site.geom site.shard l (table_after site.geom finite.empty g.journal)) (sym same) g.volume);
      }

  -- what the code needs of a side: its numbers fit
  pub may_name : (r : ℕ) (x : TheWork) → MayWork T good r x → CanName site.geom x x.stage
  may_name r x m =
      let s = m.side in
      let laid = s.laid in
      can_name site (take (lock_base site) m.words) m.sides s.is_good r _ s.there (omega arith)

  pub may_turn : (r : ℕ) (x : TheWork) (got : ℕ) → MayTurn T good r x got → CanTurn site.geom x got x.stage
  may_turn r x got m =
      let w = m.works in
      let laid = w.side.laid in
      let o = on m.words m.cards m.sides r _ m.at w in
      subst (λ n. CanTurn site.geom x n x.stage) (sym (m.gives ∙ o.got))
      (can_turn site (take (lock_base site) m.words) m.sides w.side.is_good r _ w.side.there (omega arith) m.at m.cards w.planned)
