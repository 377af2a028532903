-- What an atom of the work under a sequence lock comes to: how the rank goes on, its answer, its touch, and what changes of its block.
use Rattle.std.specs.Prelude.{◌≡◌, ℕ, ◌+◌, ◌-◌, ◌%◌, ◌==◌, ◌<◌, ◌≤◌, Bool, true, false, not, ◌&&◌, cond, List, [], ◌∷◌, ◌++◌, length, map, count_by, take, slice_get, slice_set, Option, Some, None, is_some, refl}
use Rattle.std.proofs.Common.{sym, ◌∙◌, ap, subst, inl, inr, ⊎_elim, arith, length-append}
use Rattle.std.proofs.lemmas.List.{length-map, take_at, take-take}
use Rattle.std.proofs.lemmas.Bool.Decides.{nat_tests}
use Rattle.std.proofs.lemmas.Option.{same_Some, slice_get_within}
use Rattle.rl_word.specs.laws.Places.{get_set_cases, one_at}
use Rattle.rl_word.specs.declared.acts.Atom.{Atom}
use Rattle.rl_word.specs.declared.acts.Atom.TheVariants.{Load, Store}
use Rattle.rl_word.specs.declared.classes.Mode.TheVariants as mode
use Rattle.rl_model.specs.declared.call.Call.{Call}
use Rattle.rl_model.specs.declared.call.Call.TheVariants as call
use Rattle.rl_model.specs.declared.entry.Entry.{Entry}
use Rattle.rl_model.specs.Asked.{asks_update, batch_number}
use Rattle.rl_model.specs.Call.{reads}
use Rattle.rl_model.proofs.Counts.{count-append, count-cons}
use Rattle.rl_step.specs.declared.events.Standing.{Standing}
use Rattle.rl_step.specs.declared.events.Standing.TheVariants.{Out, Asking, Writer, Reader, Leaving}
use Rattle.rl_step.specs.declared.events.Stepped.TheVariants.{Moved}
use Rattle.rl_step.specs.Lock.{IsHolder, Suits}
use Rattle.rl_step.specs.Do.{do_got}
use Rattle.rl_volume.specs.Seen.{next_word}
use Rattle.rl_journal.specs.Blocks.{calls_of, is_tenure}
use Rattle.rl_work.specs.declared.stage.Stage.{Stage}
use Rattle.rl_work.specs.declared.stage.Stage.TheVariants.{Rest, Begin, Read, Journal, Volume}
use Rattle.rl_work.specs.laws.AtomLaws.{few_replies, entry_calls, holder_asks}
use Rattle.rl_work.specs.PlainWork.{Rises}
use Rattle.rl_work.specs.laws.EndLaws.{tells_rise, Ends, EndsBy, turn_ends}
use Rattle.rl_work.specs.Locked.{first_reads}
use Rattle.rl_work.specs.laws.LockedLaws.{locked_laws, work_tells}
use Rattle.rl_site.specs.Site.{lock_base, WaySite}
use Rattle.rl_work.specs.Unlocked.{wanted, wanted_by, with_word}
use Rattle.rl_site.specs.Opens.{IsOpen, IsGetAlone}
use Rattle.rl_work.specs.Ways.{WorkTable, Worked, IsApart, IsSide, Works, Look, AtomWork, GoesOnAt, TouchesAs, AsksOut, AnswersAs, IsLoadAtom, mode_after, side_after, tenure_of, tenure_by, TellsTouch}
use Rattle.rl_site.specs.Transcript.{TheTranscript}
use Rattle.rl_work.specs.Work.{TheWork, WorkTurned, has_work, stores, stage_atom, work_atom, work_after, seen_on, with_seen}
use Rattle.rl_work.specs.WorkGood.{WorkSide, WorkGood}
use Rattle.rl_seq.specs.declared.stage.SeqStage.{SeqStage}
use Rattle.rl_seq.specs.declared.stage.SeqStage.TheVariants as stage
use Rattle.rl_seq.specs.laws.CheckLaws.{get_alone}
use Rattle.rl_seq.specs.laws.FitLaws.{fit_at, locked_there, decided_writes, is_decided}
use Rattle.rl_seq.specs.laws.MakeLaws.{works_on, loads_holding}
use Rattle.rl_seq.specs.laws.FrontLaws.{front_long}
use Rattle.rl_seq.specs.laws.OutcomeLaws.{Outcome, load_outcome, StoreOutcome, store_outcome, IsReadOff, reads_off, read_entry, IsMoved, loaded_each, stored_each, looked_each, read_each, checked_each}
use Rattle.rl_seq.specs.Site.{front, version_in}
use Rattle.rl_seq.specs.SeqGood.{SeqRank, SeqGood, IsSeqApart, IsQuiet, IsGetting, HasJoined, as_locked, locked_at, is_between}
use Rattle.rl_seq.specs.SeqWork.{TheSeqWork, seq_at_stage, seq_atom, seq_stage_atom, seq_stage_after, seq_after, loaded_by, looked_on, checked_on, seq_touch_at, seq_is_open, is_open_at, seq_owes, owes_at, ended_at, before_last, seq_table}
use Rattle.rl_seq.specs.laws.Cases.{looked_by}
use Rattle.rl_seq.specs.laws.Cases.{stored_by, checked_by}

-- a rank whose last ask was to write stands as a writer where it holds
holds_writing : (shares : Bool) (st : Standing) → Suits shares mode.Write st → IsHolder st → st ≡ Writer
holds_writing shares Out s h = absurd h
holds_writing shares Asking s h = absurd h
holds_writing shares Writer s h = refl
holds_writing false Reader s h = absurd s
holds_writing true Reader s h = absurd (cc)
holds_writing shares Leaving s h = absurd h

-- a block that isn't a get alone is one tenure
later_parts : (n : ℕ) (es : List Entry) → Rises (n + 1) es → count_by (is_tenure true) es ≡ 0
later_parts n [] rises = refl
later_parts n (e ∷ es) rises =
    let here : e.part ≡ n + 1 = rises.0 in
    let miss : (e.part == 0) ≡ false = grind (arith, nat_tests) in
    let none : is_tenure true e ≡ false = ap (λ b. b && not (reads e.call)) miss in
    let zero_is : ◌≡◌ {A = ℕ} (cond (is_tenure true e) 1 0) 0 = ap (λ b. cond {A = ℕ} b 1 0) none in
    omega (arith, count-cons (is_tenure true) e es, later_parts (n + 1) es rises.1)

one_tenure : (b : List Entry) → 1 ≤ length b → Rises 0 b → first_reads (calls_of b) ≡ false → count_by (is_tenure true) b ≡ 1
one_tenure [] some rises other = absurd (omega arith)
one_tenure (e ∷ es) some rises other =
    let counts : is_tenure true e ≡ true = ap (λ n. (n == 0) && not (reads e.call)) rises.0 ∙ ap not other in
    let one_is : ◌≡◌ {A = ℕ} (cond (is_tenure true e) 1 0) 1 = ap (λ b. cond {A = ℕ} b 1 0) counts in
    omega (arith, count-cons (is_tenure true) e es, later_parts 0 es rises.1)

update_no_get : (cs : List Call) → asks_update cs ≡ true → first_reads cs ≡ false
update_no_get [] e = absurd (cc)
update_no_get (call.Put key value ∷ cs) e = refl
update_no_get (call.Get key ∷ cs) e = absurd (cc)
update_no_get (call.Del key ∷ cs) e = refl
update_no_get (call.Add key by ∷ cs) e = refl
update_no_get (call.Cas key old new ∷ cs) e = refl
update_no_get (call.Hold shard ∷ cs) e = absurd (cc)

some_update : (cs : List Call) → asks_update cs ≡ true → 1 ≤ length cs
some_update [] e = absurd (cc)
some_update (c ∷ cs) e = omega arith

reads_is_get : (c : Call) → reads c ≡ true → (key : ℕ) × (c ≡ call.Get key)
reads_is_get (call.Put key value) e = absurd (cc)
reads_is_get (call.Get key) e = (key, refl)
reads_is_get (call.Del key) e = absurd (cc)
reads_is_get (call.Add key by) e = absurd (cc)
reads_is_get (call.Cas key old new) e = absurd (cc)
reads_is_get (call.Hold shard) e = absurd (cc)

-- the entries before the last ones
last_off : (xs ys : List Entry) → before_last (xs ++ ys) (length ys) ≡ xs
last_off xs ys = let same : length (xs ++ ys) - length ys ≡ length xs = omega (arith, length-append xs ys) in
    ap (λ n. take n (xs ++ ys)) same ∙ take_at xs ys (length xs) refl

-- how a work looks whose calls, numbers and entries these are
abbrev looks_so : TheWork → Bool → Look
looks_so w seq_owes = record { calls = w.calls; seq = w.seq; items = w.transcript.items; room = w.transcript.room; owes = seq_owes }

module _ (at : WaySite) (home : ℕ) where
  abbrev T : WorkTable TheSeqWork
  T = seq_table at home

  pub apart_of : (sides : List SeqRank) → IsApart T sides → IsSeqApart sides
  apart_of sides a = record { excludes = a.excludes; no_readers = λ r x get reader. let read : mode.Write ≡ mode.Read = a.reads r x get reader in cc }

  abbrev seen : TheSeqWork → Look
  seen x = looks_so x.work (seq_is_open x && seq_owes x)

  module _ (words : List ℕ) (sides : List SeqRank) (r : ℕ) (x : SeqRank) (s : IsSide T (SeqGood at) words sides r x) where
    abbrev w : TheWork
    w = x.work.work

    size : length words ≡ at.behind + 1
    size = let laid = s.laid in laid.all

    low : lock_base at.site ≤ at.behind
    low = let laid = s.laid in laid.low

    g : SeqGood at words sides
    g = s.is_good

    -- inside the lock it goes on as that work does
    inside_goes : x.work.stage ≡ stage.Locked → GoesOnAt x.standing (has_work w.stage) (work_atom at.site.geom w)
    inside_goes e =
        let base : ℕ = lock_base at.site in
        let laid = s.laid in
        let laws = locked_laws at.site base in
        laws.goes_on (front at words) (map as_locked sides) r (record { standing = x.standing; work = w })
        (record {
          is_good = subst (λ z. WorkGood at.site z (map as_locked sides)) (sym (take-take base base words (omega arith))) g.locked;
          laid = record { low = omega arith; all = omega (arith, front_long at words low size); fits = omega arith };
          there = locked_there at words sides g r x s.there stage.Locked e;
        })

    some_store : (st : Stage) → stores st ≡ true → is_some (stage_atom at.site.geom w st) ≡ true
    some_store Rest e = absurd (cc)
    some_store Begin e = absurd (cc)
    some_store (Read count word) e = absurd (cc)
    some_store (Journal made) e = refl
    some_store (Volume made) e = refl

    pub goes_on : GoesOnAt x.standing (seq_is_open x.work) (seq_atom at x.work)
    goes_on = by_stage x.work.stage refl where
      goes_out : (a : Atom) → x.standing ≡ Out → GoesOnAt x.standing true (Some a)
      goes_out a out = subst (λ st. GoesOnAt st true (Some a)) (sym out) refl

      decided : (st : SeqStage) → x.work.stage ≡ st → is_decided st ≡ true → (o : Option Atom) → is_some o ≡ true → GoesOnAt x.standing true o
      decided st e d o some = subst (λ z. GoesOnAt z true o) (sym (decided_writes at words sides g r x s.there (ap is_decided e ∙ d))) (refl, some)

      by_stage : (st : SeqStage) → x.work.stage ≡ st → GoesOnAt x.standing (is_open_at w x.work.stage) (seq_stage_atom at w x.work.stage)
      by_stage st e = subst (λ z. GoesOnAt x.standing (is_open_at w z) (seq_stage_atom at w z)) (sym e) (here st e) where
        here : (st : SeqStage) → x.work.stage ≡ st → GoesOnAt x.standing (is_open_at w st) (seq_stage_atom at w st)
        here stage.Locked e = inside_goes e
        here stage.Look e = goes_out _ (fit_at at words sides g r x s.there stage.Look e).0.out
        here (stage.Count v) e = goes_out _ (fit_at at words sides g r x s.there (stage.Count v) e).0.out
        here (stage.Read v count word) e = goes_out _ (fit_at at words sides g r x s.there (stage.Read v count word) e).getting.out
        here (stage.Again v count) e = goes_out _ (fit_at at words sides g r x s.there (stage.Again v count) e).getting.out
        here stage.Decided e = decided stage.Decided e refl _ refl
        here (stage.Open v) e = decided (stage.Open v) e refl _ refl
        here (stage.Write v) e = decided (stage.Write v) e refl _ (some_store w.stage (fit_at at words sides g r x s.there (stage.Write v) e).0)
        here (stage.Close v) e = decided (stage.Close v) e refl _ refl

  -- an atom never asks for the lock
  abbrev Follows : Standing → Worked TheSeqWork → Type 0
  Follows st t = AsksOut t.follow st × (mode.Write ≡ mode_after t.follow mode.Write)

  pub follows_at : (r : ℕ) (st : Standing) (w : TheWork) (got : ℕ) (stage : SeqStage) → Follows st (seq_stage_after at r w got stage)
  follows_at r st w got stage.Locked = loaded_each (Follows st) _ _ _ (tt, refl) (tt, refl) (tt, refl)
  follows_at r st w got stage.Look = looked_each (Follows st) at w got _ (tt, refl) (tt, refl)
  follows_at r st w got (stage.Count v) = read_each (Follows st) w v got _ (λ next. (tt, refl)) (tt, refl)
  follows_at r st w got (stage.Read v count word) = read_each (Follows st) (with_word w word got) v count _ (λ next. (tt, refl)) (tt, refl)
  follows_at r st w got (stage.Again v count) = checked_each (Follows st) at r w v count got _ (tt, refl) (tt, refl)
  follows_at r st w got stage.Decided = (tt, refl)
  follows_at r st w got (stage.Open v) = (tt, refl)
  follows_at r st w got (stage.Write v) = stored_each (Follows st) v _ _ (tt, refl) (tt, refl)
  follows_at r st w got (stage.Close v) = (tt, refl)

  -- the answers
  abbrev Answers : Atom → ℕ → Worked TheSeqWork → Type 0
  Answers a got t = AnswersAs a got (seq_atom at t.work) t.follow t.stepped

  pub answers_at : (r : ℕ) (w : TheWork) (got : ℕ) (a : Atom) (st : SeqStage) → seq_stage_atom at w st ≡ Some a → Answers a got (seq_stage_after at r w got st)
  answers_at r w got a stage.Locked p = loaded_each (Answers a got) _ _ _ tt tt tt
  answers_at r w got a stage.Look p = looked_each (Answers a got) at w got _ tt (sym (same_Some _ _ p), refl, tt, refl)
  answers_at r w got a (stage.Count v) p = read_each (Answers a got) w v got _ (λ next. tt) tt
  answers_at r w got a (stage.Read v count word) p = read_each (Answers a got) (with_word w word got) v count _ (λ next. tt) tt
  answers_at r w got a (stage.Again v count) p =
      elim (got == v) as (λ b. (got == v) ≡ b → Answers a got (checked_by at r w v count got b)) [
        | true ↦ λ is. tt
        | false ↦ λ is. (subst IsLoadAtom (same_Some _ _ p) tt, refl, λ e. let hit : (got == v) ≡ true = grind (arith, nat_tests) in cc)
      ] refl
  answers_at r w got a stage.Decided p = tt
  answers_at r w got a (stage.Open v) p = tt
  answers_at r w got a (stage.Write v) p = stored_each (Answers a got) v _ _ tt tt
  answers_at r w got a (stage.Close v) p = tt

  -- of an atom that a rank is about to make
  module _ (words cards : List ℕ) (sides : List SeqRank) (r : ℕ) (x : SeqRank) (a : Atom) (m : Works T (SeqGood at) words sides r x a) where
    abbrev rule : SeqGood at words sides
    rule = m.side.is_good

    abbrev work : TheWork
    work = x.work.work

    abbrev got : ℕ
    got = do_got a words cards

    abbrev turned : WorkTurned
    turned = work_after at.site.geom at.site.shard r x.work.work (do_got a words cards)

    pub touches : TouchesAs (seq_touch_at x.work.work x.work.stage) x.standing
    touches = by_stage x.work.stage refl m.planned where
      by_stage : (st : SeqStage) → x.work.stage ≡ st → seq_stage_atom at work st ≡ Some a → TouchesAs (seq_touch_at work st) x.standing
      by_stage stage.Locked e p =
          let none : stores work.stage ≡ false = (fit_at at words sides rule r x m.side.there stage.Locked e).0 in
          subst (λ b. TouchesAs (Some b) x.standing) (sym none)
          (loads_holding at words (let laid = m.side.laid in laid.low)
          (let laid = m.side.laid in laid.all) sides rule r x m.side.there m.rests e a p)
      by_stage stage.Look e p = tt
      by_stage (stage.Count v) e p = tt
      by_stage (stage.Read v count word) e p = tt
      by_stage (stage.Again v count) e p = tt
      by_stage stage.Decided e p = tt
      by_stage (stage.Open v) e p = tt
      by_stage (stage.Write v) e p =
          let yes : stores work.stage ≡ true = (fit_at at words sides rule r x m.side.there (stage.Write v) e).0 in
          subst (λ b. TouchesAs (Some b) x.standing) (sym yes) (decided_writes at words sides rule r x m.side.there (ap is_decided e))
      by_stage (stage.Close v) e p = tt

    -- an atom before the lock's words is told as a touch, or it is a get's
    pub tells : TellsTouch (lock_base at.site) a x.standing x.work.work.calls (seq_touch_at x.work.work x.work.stage)
    tells = by_stage x.work.stage refl m.planned where
      low : lock_base at.site ≤ at.behind
      low = let laid = m.side.laid in laid.low

      alone_get : IsGetting at.site r x.standing work → (x.standing ≡ Out) × IsGetAlone work.calls
      alone_get q =
          let g = get_alone work.calls q.open_call.is_block q.get in
          let c = reads_is_get g.0 g.2 in
          (q.out, (c.0, g.1 ∙ ap (λ (z : Call). z ∷ []) c.1))

      by_get : (word : ℕ) → IsGetting at.site r x.standing work → Load word ≡ a → TellsTouch (lock_base at.site) a x.standing work.calls None
      by_get word q p = subst (λ z. TellsTouch (lock_base at.site) z x.standing work.calls None) p (λ under. inr (alone_get q))

      behind_load : Load at.behind ≡ a → TellsTouch (lock_base at.site) a x.standing work.calls None
      behind_load p = subst (λ z. TellsTouch (lock_base at.site) z x.standing work.calls None) p (λ under. absurd (omega arith))

      behind_store : (v : ℕ) → Store at.behind v ≡ a → TellsTouch (lock_base at.site) a x.standing work.calls None
      behind_store v p = subst (λ z. TellsTouch (lock_base at.site) z x.standing work.calls None) p (λ under. absurd (omega arith))

      by_stage : (st : SeqStage) → x.work.stage ≡ st → seq_stage_atom at work st ≡ Some a →
          TellsTouch (lock_base at.site) a x.standing work.calls (seq_touch_at work st)
      by_stage stage.Locked e p = work_tells at.site.geom work (lock_base at.site) x.standing work.calls work.stage a p
      by_stage stage.Look e p = behind_load (same_Some _ _ p)
      by_stage (stage.Count v) e p = by_get _ (fit_at at words sides rule r x m.side.there (stage.Count v) e).0 (same_Some _ _ p)
      by_stage (stage.Read v count word) e p = by_get _ (fit_at at words sides rule r x m.side.there (stage.Read v count word) e).getting (same_Some _ _ p)
      by_stage (stage.Again v count) e p = behind_load (same_Some _ _ p)
      by_stage stage.Decided e p = behind_load (same_Some _ _ p)
      by_stage (stage.Open v) e p = behind_store _ (same_Some _ _ p)
      by_stage (stage.Write v) e p = work_tells at.site.geom work (lock_base at.site) x.standing work.calls work.stage a p
      by_stage (stage.Close v) e p = behind_store _ (same_Some _ _ p)

    -- one rank alone finds the version as it left it
    pub alone : length sides ≡ 1 → (seq_after at r x.work (do_got a words cards)).stepped ≡ Moved
    alone one = by_stage x.work.stage refl m.planned where
      only : (i : ℕ) (u : SeqRank) → slice_get sides i ≡ Some u → u ≡ x
      only i u get =
          let h : i < length sides = slice_get_within sides i u get in
          let k : r < length sides = slice_get_within sides r x m.side.there in
          let same : i ≡ r = omega arith in
          one_at sides r u x (subst (λ z. slice_get sides z ≡ Some u) same get) m.side.there

      by_stage : (st : SeqStage) → x.work.stage ≡ st → seq_stage_atom at work st ≡ Some a →
          (seq_stage_after at r work (do_got a words cards) st).stepped ≡ Moved
      by_stage stage.Locked e p = loaded_each IsMoved turned.work turned.over (stores turned.work.stage) refl refl refl
      by_stage stage.Look e p =
          let quiet : IsQuiet sides = λ i u get. ap (λ (z : SeqRank). is_between z.work.stage) (only i u get) ∙ ap is_between e in
          let even : version_in at words % 2 ≡ 0 = (rule.quiet quiet).even in
          let hit : (version_in at words % 2 == 0) ≡ true = grind (arith, nat_tests) in
          subst (λ b. (looked_on at work (do_got b words cards)).stepped ≡ Moved) (same_Some _ _ p)
          (ap (λ b. (looked_by at work (version_in at words) b).stepped) hit)
      by_stage (stage.Count v) e p = read_each IsMoved work v (do_got a words cards) (wanted at.site.geom work) (λ next. refl) refl
      by_stage (stage.Read v count word) e p = let y : TheWork = with_word work word (do_got a words cards) in
          read_each IsMoved y v count (wanted at.site.geom y) (λ next. refl) refl
      by_stage (stage.Again v count) e p =
          let f = fit_at at words sides rule r x m.side.there (stage.Again v count) e in
          let rooms : length at.site.rooms ≡ 1 = sym rule.locked.ranks ∙ length-map sides as_locked ∙ one in
          let same : version_in at words ≡ v = f.has.alone rooms in
          let hit : (version_in at words == v) ≡ true = grind (arith, nat_tests) in
          subst (λ b. (checked_on at r work v count (do_got b words cards)).stepped ≡ Moved) (same_Some _ _ p)
          (ap (λ b. (checked_by at r work v count (version_in at words) b).stepped) hit)
      by_stage stage.Decided e p = refl
      by_stage (stage.Open v) e p = refl
      by_stage (stage.Write v) e p = stored_each IsMoved v turned.work turned.over refl refl
      by_stage (stage.Close v) e p = refl

    -- what an atom inside the lock leaves
    inside_ends : (st : SeqStage) → x.work.stage ≡ st → locked_at x.standing work st ≡ record { standing = x.standing; work = work } →
        Ends at.site.shard r work turned
    inside_ends st e same =
        let side : WorkSide = record { standing = x.standing; work = work } in
        let there : slice_get (map as_locked sides) r ≡ Some side = locked_there at words sides rule r x m.side.there st e ∙ ap Some same in
        turn_ends at.site.geom at.site.shard r work work.stage (do_got a words cards)
        (few_replies at.site (front at words) (map as_locked sides) rule.locked r side there)
        (λ made s. entry_calls at.site (front at words) (map as_locked sides) rule.locked r side there made s)

    -- the block goes on, or its entries join
    abbrev Changes : SeqStage → TheSeqWork → Type 0
    Changes st y = AtomWork at.site.shard r (looks_so work (is_open_at work st && owes_at work st)) (seen y)

    goes : (y : TheSeqWork) (b : Bool) → y.work.calls ≡ work.calls → y.work.seq ≡ work.seq → y.work.transcript ≡ work.transcript →
        (seq_is_open y && seq_owes y) ≡ b → AtomWork at.site.shard r (looks_so work b) (seen y)
    goes y b calls seq kept same =
        inl (record {
          same_calls = calls;
          same_seq = seq;
          same_items = ap (λ (z : TheTranscript). z.items) kept;
          same_room =
              ap (λ (z : TheTranscript). z.room) kept;
          owes = same;
        })

    joins : (y : TheSeqWork) → Ends at.site.shard r work turned → y.work ≡ turned.work → (seq_is_open y && seq_owes y) ≡ false →
        turned.over ≡ true → AtomWork at.site.shard r (looks_so work true) (seen y)
    joins y ended same over is =
        let k : EndsBy at.site.shard r work turned.work true = subst (EndsBy at.site.shard r work turned.work) is ended.kept in
        inr (record {
          was = refl;
          is_over = over;
          same_room = ap (λ (z : TheWork). z.transcript.room) same ∙ ended.same_room;
          entries = k.0;
          items = ap (λ (z : TheWork). z.transcript.items) same ∙ k.1;
          calls_are = k.2;
          tells = k.3;
        })

    goes_inside : (y : TheSeqWork) → Ends at.site.shard r work turned → y.work ≡ turned.work → (seq_is_open y && seq_owes y) ≡ true →
        turned.over ≡ false → AtomWork at.site.shard r (looks_so work true) (seen y)
    goes_inside y ended same on is =
        inl (record {
          same_calls = ap (λ (z : TheWork). z.calls) same ∙ ended.same_calls;
          same_seq = ap (λ (z : TheWork). z.seq) same ∙ ended.same_seq;
          same_items = ap (λ (z : TheWork). z.transcript.items) same ∙ subst (EndsBy at.site.shard r work turned.work) is ended.kept;
          same_room = ap (λ (z : TheWork). z.transcript.room) same ∙ ended.same_room;
          owes = on;
        })

    -- a get that has read all that it needs
    read_off : (v count : ℕ) → x.work.stage ≡ stage.Again v count →
        (c : Call) × (work.calls ≡ c ∷ []) × IsReadOff at.site.geom at.site.shard r count work c
        (seen_on at.site.geom at.site.shard r work count) × (reads c ≡ true)
    read_off v count e =
        let f = fit_at at words sides rule r x m.side.there (stage.Again v count) e in
        let q : IsGetting at.site r x.standing work = f.getting in
        let o : IsOpen at.site r work.calls work.seq work.transcript = q.open_call in
        let c = get_alone work.calls o.is_block q.get in
        let none : next_word at.site.geom c.0 work.seen.pairs ≡ None = ap (λ cs. wanted_by at.site.geom cs work.seen.pairs) (sym c.1) ∙ f.wants in
        (c.0, c.1, reads_off at.site.geom at.site.shard r count work c.0 c.1 q.no_reply c.2 none, c.2)

    pub own_work : AtomWork at.site.shard r (seen x.work) (seen (seq_after at r x.work (do_got a words cards)).work)
    own_work = by_stage x.work.stage refl m.planned where
      by_stage : (st : SeqStage) → x.work.stage ≡ st → seq_stage_atom at work st ≡ Some a →
          Changes st (seq_stage_after at r work (do_got a words cards) st).work
      by_stage stage.Locked e p =
          let on : has_work work.stage ≡ true = works_on at work work.stage a p in
          let ended : Ends at.site.shard r work turned = inside_ends stage.Locked e refl in
          let o : Outcome work.calls turned = load_outcome at.site.geom at.site.shard r work (do_got a words cards) work.stage
          (fit_at at words sides rule r x m.side.there stage.Locked e).0 on in
          subst (λ b. AtomWork at.site.shard r (looks_so work (b && b)) (seen (loaded_by turned.work turned.over (stores turned.work.stage)).work)) (sym on)
          (elim turned.over as (λ b. turned.over ≡ b → AtomWork at.site.shard r (looks_so work true)
          (seen (loaded_by turned.work b (stores turned.work.stage)).work)) [
            | true ↦ λ over. joins (seq_at_stage turned.work stage.Locked) ended refl (ap (λ st. has_work st && has_work st) (o.rests over)) over
            | false ↦ λ over.
                elim (stores turned.work.stage) as (λ b. AtomWork at.site.shard r (looks_so work true) (seen (loaded_by turned.work false b).work)) [
                  | true ↦ goes_inside (seq_at_stage turned.work stage.Decided) ended refl refl over
                  | false ↦ goes_inside (seq_at_stage turned.work stage.Locked) ended refl (ap (λ b. b && b) (o.goes_on over)) over
                ]
          ] refl)
      by_stage stage.Look e p =
          looked_each (λ t. Changes stage.Look t.work) at work (do_got a words cards) _
          (goes (seq_at_stage work (stage.Count (do_got a words cards))) true refl refl refl refl)
          (goes (seq_at_stage work stage.Look) true refl refl refl refl)
      by_stage (stage.Count v) e p =
          read_each (λ t. Changes (stage.Count v) t.work) work v (do_got a words cards) _
          (λ next. goes (seq_at_stage work (stage.Read v (do_got a words cards) next)) true refl refl refl refl)
          (goes (seq_at_stage work (stage.Again v (do_got a words cards))) true refl refl refl refl)
      by_stage (stage.Read v count word) e p =
          let y : TheWork = with_word work word (do_got a words cards) in
          read_each (λ t. Changes (stage.Read v count word) t.work) y v count _
          (λ next. goes (seq_at_stage y (stage.Read v count next)) true refl refl refl refl)
          (goes (seq_at_stage y (stage.Again v count)) true refl refl refl refl)
      by_stage (stage.Again v count) e p =
          elim (do_got a words cards == v) as (λ b. Changes (stage.Again v count) (checked_by at r work v count (do_got a words cards) b).work) [
            | true ↦
                (let q = read_off v count e in
                let off : IsReadOff at.site.geom at.site.shard r count work q.0 (seen_on at.site.geom at.site.shard r work count) = q.2 in
                inr (record {
                  was = refl;
                  is_over = ap (λ st. has_work st && has_work st) off.rests;
                  same_room = off.transcript_room;
                  entries = read_entry at.site.geom at.site.shard r count work q.0 ∷ [];
                  items = off.items;
                  calls_are = sym q.1;
                  tells = ((refl, refl, sym (ap (λ cs. batch_number (length cs)) q.1), refl, refl), tt);
                }))
            | false ↦ goes (seq_at_stage (with_seen work []) stage.Look) true refl refl refl refl
          ]
      by_stage stage.Decided e p = goes (seq_at_stage work (stage.Open (do_got a words cards))) true refl refl refl refl
      by_stage (stage.Open v) e p = goes (seq_at_stage work (stage.Write v)) true refl refl refl refl
      by_stage (stage.Write v) e p =
          let ended : Ends at.site.shard r work turned = inside_ends (stage.Write v) e refl in
          elim turned.over as (λ b. turned.over ≡ b → Changes (stage.Write v) (stored_by v turned.work b).work) [
            | true ↦ λ over. joins (seq_at_stage turned.work (stage.Close v)) ended refl refl over
            | false ↦ λ over. goes_inside (seq_at_stage turned.work (stage.Write v)) ended refl refl over
          ] refl
      by_stage (stage.Close v) e p =
          let rests : work.stage ≡ Rest = (fit_at at words sides rule r x m.side.there (stage.Close v) e).0 in
          goes (seq_at_stage work stage.Locked) false refl refl refl (ap (λ st. has_work st && has_work st) rests)

    pub changes : (k : ℕ) (u y : SeqRank) → slice_get sides k ≡ Some u →
        slice_get (slice_set sides r (side_after T r x (do_got a words cards))) k ≡ Some y →
        AtomWork at.site.shard k (seen u.work) (seen y.work)
    changes k u y was is =
        ⊎_elim
        (λ q.
        let before : x ≡ u = one_at sides r x u m.side.there (ap (slice_get sides) (sym q.0) ∙ was) in
        subst (λ n. AtomWork at.site.shard n (seen u.work) (seen y.work)) (sym q.0)
        (subst (λ (z : SeqRank). AtomWork at.site.shard r (seen z.work) (seen y.work)) before
        (subst (λ (z : SeqRank). AtomWork at.site.shard r (seen x.work) (seen z.work)) (sym q.1) own_work)))
        (λ q.
        let same : u ≡ y = one_at sides k u y was q.1 in
        subst (λ (z : SeqRank). AtomWork at.site.shard k (seen u.work) (seen z.work)) same
        (inl (record { same_calls = refl; same_seq = refl; same_items = refl; same_room = refl; owes = refl })))
        (get_set_cases sides r k (side_after T r x (do_got a words cards)) y is)

    -- the blocks that are over are one tenure more where a writer's is over
    abbrev Counts : SeqStage → Worked TheSeqWork → Type 0
    Counts st t = count_by (is_tenure true) (T.ended t.work) ≡ count_by (is_tenure true) (ended_at work st) + tenure_of t.follow x.standing

    same_count : (xs ys : List Entry) → xs ≡ ys → count_by (is_tenure true) xs ≡ count_by (is_tenure true) ys + 0
    same_count xs ys e = ap (count_by (is_tenure true)) e ∙ omega arith

    none_more : count_by (is_tenure true) work.transcript.items ≡ count_by (is_tenure true) work.transcript.items + 0
    none_more = same_count work.transcript.items work.transcript.items refl

    pub tenures : (shares : Bool) → Suits shares mode.Write x.standing → Counts x.work.stage (seq_after at r x.work (do_got a words cards))
    tenures shares suits = by_stage x.work.stage refl m.planned where
      as_writer : x.standing ≡ Writer → tenure_by x.standing ≡ 1
      as_writer writer = ap tenure_by writer

      by_stage : (st : SeqStage) → x.work.stage ≡ st → seq_stage_atom at work st ≡ Some a → Counts st (seq_stage_after at r work (do_got a words cards) st)
      by_stage stage.Locked e p =
          let ended : Ends at.site.shard r work turned = inside_ends stage.Locked e refl in
          elim turned.over as (λ b. turned.over ≡ b → Counts stage.Locked (loaded_by turned.work b (stores turned.work.stage))) [
            | true ↦ λ over.
                let k : EndsBy at.site.shard r work turned.work true = subst (EndsBy at.site.shard r work turned.work) over ended.kept in
                let holds : IsHolder x.standing = loads_holding at words (let laid = m.side.laid in laid.low) (let laid = m.side.laid in
                laid.all) sides rule r x m.side.there m.rests e a p in
                let asked : 1 ≤ length work.calls = holder_asks at.site (front at words) (map as_locked sides) rule.locked r
                (record { standing = x.standing; work = work })
                (locked_there at words sides rule r x m.side.there stage.Locked e) holds in
                let some : 1 ≤ length k.0 = omega (arith, length-map k.0 (λ (z : Entry). z.call), ap length k.2) in
                let other : first_reads (calls_of k.0) ≡ false = ap first_reads k.2
                ∙ (fit_at at words sides rule r x m.side.there stage.Locked e).1 (works_on at work work.stage a p) in
                let one : count_by (is_tenure true) k.0 ≡ 1 = one_tenure k.0 some (tells_rise _ _ _ _ 0 k.0 k.3) other in
                let writer : tenure_by x.standing ≡ 1 = as_writer (holds_writing shares x.standing suits holds) in
                ap (count_by (is_tenure true)) k.1 ∙ count-append (is_tenure true) work.transcript.items k.0 ∙ omega arith
            | false ↦ λ over.
                elim (stores turned.work.stage) as (λ b. Counts stage.Locked (loaded_by turned.work false b)) [
                  | true ↦ same_count turned.work.transcript.items work.transcript.items (subst (EndsBy at.site.shard r work turned.work) over ended.kept)
                  | false ↦ same_count turned.work.transcript.items work.transcript.items (subst (EndsBy at.site.shard r work turned.work) over ended.kept)
                ]
          ] refl
      by_stage stage.Look e p = looked_each (Counts stage.Look) at work (do_got a words cards) _ (none_more) (none_more)
      by_stage (stage.Count v) e p = read_each (Counts (stage.Count v)) work v (do_got a words cards) _ (λ next. none_more) (none_more)
      by_stage (stage.Read v count word) e p = read_each (Counts (stage.Read v count word)) (with_word work word (do_got a words cards)) v
          count _ (λ next. none_more) (none_more)
      by_stage (stage.Again v count) e p =
          elim (do_got a words cards == v) as (λ b. Counts (stage.Again v count) (checked_by at r work v count (do_got a words cards) b)) [
            | true ↦
                (let q = read_off v count e in
                let off : IsReadOff at.site.geom at.site.shard r count work q.0 (seen_on at.site.geom at.site.shard r work count) = q.2 in
                let entry : Entry = read_entry at.site.geom at.site.shard r count work q.0 in
                let none : is_tenure true entry ≡ false = ap not q.3 in
                let zero_is : ◌≡◌ {A = ℕ} (cond (is_tenure true entry) 1 0) 0 = ap (λ b. cond {A = ℕ} b 1 0) none in
                let out : tenure_by x.standing ≡ 0 = ap tenure_by (fit_at at words sides rule r x m.side.there (stage.Again v count) e).getting.out in
                ap (count_by (is_tenure true)) off.items ∙ count-append (is_tenure true) work.transcript.items (entry ∷ [])
                ∙ omega (arith, count-cons (is_tenure true) entry []))
            | false ↦ none_more
          ]
      by_stage stage.Decided e p = none_more
      by_stage (stage.Open v) e p = none_more
      by_stage (stage.Write v) e p =
          let o : StoreOutcome work turned = store_outcome at.site.geom at.site.shard r work (do_got a words cards) work.stage
          (fit_at at words sides rule r x m.side.there (stage.Write v) e).0 in
          elim turned.over as (λ b. turned.over ≡ b → Counts (stage.Write v) (stored_by v turned.work b)) [
            | true ↦ λ over.
                same_count (before_last turned.work.transcript.items (length turned.work.entries)) work.transcript.items
                (ap (λ z. before_last z (length turned.work.entries)) (o.joined over) ∙ last_off work.transcript.items turned.work.entries)
            | false ↦ λ over. same_count turned.work.transcript.items work.transcript.items (o.kept over)
          ] refl
      by_stage (stage.Close v) e p =
          let f = fit_at at words sides rule r x m.side.there (stage.Close v) e in
          let j : HasJoined work = f.4 in
          let before : before_last work.transcript.items (length work.entries) ≡ j.earlier =
          ap (λ z. before_last z (length work.entries)) j.items ∙ last_off j.earlier work.entries in
          let some : 1 ≤ length work.entries =
          omega (arith, length-map work.entries (λ (z : Entry). z.call), ap length j.calls_are, some_update work.calls j.update) in
          let one : count_by (is_tenure true) work.entries ≡ 1 =
          one_tenure work.entries some j.parts (ap first_reads j.calls_are ∙ update_no_get work.calls j.update) in
          let writer : tenure_by x.standing ≡ 1 = as_writer f.1 in
          let was : count_by (is_tenure true) (before_last work.transcript.items (length work.entries)) ≡ count_by
          (is_tenure true) j.earlier = ap (count_by (is_tenure true)) before in
          ap (count_by (is_tenure true)) j.items ∙ count-append (is_tenure true) j.earlier work.entries ∙ omega arith
