-- What the rule says of the version, and what gets come to.
use Rattle.std.specs.Prelude.{◌≡◌, ◌≢◌, ◌↔◌, ◌⊎◌, ℕ, ◌+◌, ◌%◌, ◌==◌, ◌<◌, ◌*◌, ◌≤◌, true, false, List, [], ◌∷◌, zero, suc, length, map, take, get_or, slice_get, slice_index, Some, IfSome, refl}
use Rattle.std.proofs.Common.{sym, ◌∙◌, ap, subst, inl, inr, arith}
use Rattle.std.proofs.lemmas.Bool.Decides.{nat_tests}
use Rattle.std.proofs.lemmas.Option.{same_Some}
use Rattle.std.proofs.lemmas.List.{length-take-le, take-take, get_or-take}
use Rattle.rl_model.specs.declared.call.Call.{Call}
use Rattle.rl_model.specs.declared.geom.Geom.{Geom}
use Rattle.rl_model.specs.Asked.{IsAsked}
use Rattle.rl_model.specs.Call.{reads}
use Rattle.rl_volume.specs.Seen.{AgreesWith, AreNamed, next_word}
use Rattle.rl_volume.specs.Walk.{most_reads}
use Rattle.rl_volume.proofs.NextWord.{few_read}
use Rattle.rl_word.specs.declared.acts.Atom.{Atom}
use Rattle.rl_word.specs.declared.acts.Atom.TheVariants as atom
use Rattle.rl_step.specs.declared.events.Standing.TheVariants.{Writer}
use Rattle.rl_step.specs.declared.events.Stepped.TheVariants.{Moved, Waiting, Lost}
use Rattle.rl_step.specs.Core.{home_at}
use Rattle.rl_step.specs.Do.{do_words}
use Rattle.rl_work.specs.laws.AtomLaws.{atom_can}
use Rattle.rl_work.specs.laws.EndLaws.{plain_atom}
use Rattle.rl_work.specs.Locked.{first_reads}
use Rattle.rl_site.specs.Site.{count_word, volume_base, lock_base, volume_of, WaySite}
use Rattle.rl_work.specs.Unlocked.{wanted, wanted_by, with_word}
use Rattle.rl_work.specs.Ways.{Works}
use Rattle.rl_work.specs.Work.{TheWork, work_atom}
use Rattle.rl_seq.specs.declared.stage.SeqStage.{SeqStage}
use Rattle.rl_seq.specs.declared.stage.SeqStage.TheVariants as stage
use Rattle.rl_seq.specs.laws.CheckLaws.{get_key, get_alone}
use Rattle.rl_seq.specs.laws.FitLaws.{is_decided, fit_at, locked_there, decided_writes, even_quiet}
use Rattle.rl_seq.specs.laws.FrontLaws.{IsInFront, in_front, version_stored}
use Rattle.rl_seq.specs.laws.KeepLaws.{wanted_there}
use Rattle.rl_seq.specs.laws.OutcomeLaws.{IsMoved, loaded_each, stored_each, read_each}
use Rattle.rl_seq.specs.Site.{seq_version_word, version_in, front}
use Rattle.rl_seq.specs.SeqGood.{AreWanted, SeqRank, SeqGood, IsQuiet, as_locked, locked_at, is_between, HasVersion}
use Rattle.rl_seq.specs.SeqWork.{seq_atom, seq_stage_atom, seq_stage_after, seq_table}
use Rattle.rl_seq.specs.laws.Cases.{checked_by}
use Rattle.rl_seq.specs.laws.Cases.{looked_by}
use Rattle.rl_seq.specs.Rule.{is_getting, found_version, found_count}

decided_between : (st : SeqStage) → is_between st ≡ true → is_decided st ≡ true
decided_between stage.Locked e = absurd (cc)
decided_between stage.Look e = absurd (cc)
decided_between (stage.Count v) e = absurd (cc)
decided_between (stage.Read v count word) e = absurd (cc)
decided_between (stage.Again v count) e = absurd (cc)
decided_between stage.Decided e = absurd (cc)
decided_between (stage.Open v) e = absurd (cc)
decided_between (stage.Write v) e = refl
decided_between (stage.Close v) e = refl

-- a get that has loaded what it wanted, word after word, has loaded few
few_pairs : (geom : Geom) (cs : List Call) (pairs : List (ℕ × ℕ)) → IsAsked cs → first_reads cs ≡ true → AreWanted geom cs pairs →
    length pairs ≤ 3 + 2 * geom.overflow
few_pairs geom cs pairs asked get wanted = by_length (length pairs) refl where
  a : (c : Call) × (cs ≡ c ∷ []) × (reads c ≡ true)
  a = get_alone cs asked get

  most : (c : Call) → reads c ≡ true → most_reads geom c ≡ 3 + 2 * geom.overflow
  most c e = ap (most_reads geom) (get_key c e).1

  named : (i : ℕ) → i < length pairs → next_word geom a.0 (take i pairs) ≡ Some (get_or pairs i (0, 0)).0
  named i h = ap (λ ds. wanted_by geom ds (take i pairs)) (sym a.1) ∙ wanted i h

  by_length : (n : ℕ) → length pairs ≡ n → n ≤ 3 + 2 * geom.overflow
  by_length zero e = omega arith
  by_length (suc m) e =
      let before : List (ℕ × ℕ) = take m pairs in
      let long : length before ≡ m = length-take-le m pairs (omega arith) in
      let before_named : AreNamed geom a.0 before = λ i h.
      ap (next_word geom a.0) (take-take i m pairs (omega arith)) ∙ named i (omega arith) ∙ ap (λ (p : ℕ × ℕ). Some p.0)
      (sym (get_or-take m pairs i (0, 0) (omega arith))) in
      let less : length before < most_reads geom a.0 = subst (λ o. IfSome o (λ word. length before < most_reads geom a.0))
      (named m (omega arith)) (few_read geom a.0 before before_named) in
      let top = most a.0 a.2 in
      omega arith

module _ (at : WaySite) (words : List ℕ) (sides : List SeqRank) (g : SeqGood at words sides) where
  pub odd_between : (version_in at words % 2 ≡ 0) ↔ IsQuiet sides
  odd_between = (even_quiet at words sides g, λ q. (g.quiet q).even)

  module _ (r : ℕ) (x : SeqRank) (has : slice_get sides r ≡ Some x) where
    pub writers_odd : is_between x.work.stage ≡ true → x.standing ≡ Writer
    writers_odd b = decided_writes at words sides g r x has (decided_between x.work.stage b)

    has_version : (st : SeqStage) → x.work.stage ≡ st → (v : ℕ) → found_version st ≡ Some v → HasVersion at.site v (version_in at words)
    has_version stage.Locked e v f = absurd (cc)
    has_version stage.Look e v f = absurd (cc)
    has_version (stage.Count u) e v f = subst (λ n. HasVersion at.site n (version_in at words)) (same_Some _ _ f)
        (fit_at at words sides g r x has (stage.Count u) e).1
    has_version (stage.Read u count word) e v f = subst (λ n. HasVersion at.site n (version_in at words)) (same_Some _ _ f)
        (fit_at at words sides g r x has (stage.Read u count word) e).has
    has_version (stage.Again u count) e v f = subst (λ n. HasVersion at.site n (version_in at words)) (same_Some _ _ f)
        (fit_at at words sides g r x has (stage.Again u count) e).has
    has_version stage.Decided e v f = absurd (cc)
    has_version (stage.Open u) e v f = absurd (cc)
    has_version (stage.Write u) e v f = absurd (cc)
    has_version (stage.Close u) e v f = absurd (cc)

    pub no_lower : (v : ℕ) → found_version x.work.stage ≡ Some v → (v % 2 ≡ 0) × (v ≤ version_in at words)
    no_lower v f = let h = has_version x.work.stage refl v f in (h.even, h.past)

    words_still : (st : SeqStage) → x.work.stage ≡ st → found_version st ≡ Some (version_in at words)
        → AgreesWith x.work.work.seen.pairs (volume_of at.site.geom (front at words)) ×
        ((count : ℕ) → found_count st ≡ Some count → slice_index (front at words) count_word ≡ count)
    words_still stage.Locked e f = absurd (cc)
    words_still stage.Look e f = absurd (cc)
    words_still (stage.Count u) e f =
        let nothing : x.work.work.seen.pairs ≡ [] = (fit_at at words sides g r x has (stage.Count u) e).2 in
        (subst (λ z. AgreesWith z (volume_of at.site.geom (front at words))) (sym nothing) (λ w. tt), λ count q. absurd (cc))
    words_still (stage.Read u count word) e f =
        let s = (fit_at at words sides g r x has (stage.Read u count word) e).still in
        let same : version_in at words ≡ u = sym (same_Some _ _ f) in
        (s.same_words same, λ c q. s.same_count same ∙ same_Some _ _ q)
    words_still (stage.Again u count) e f =
        let s = (fit_at at words sides g r x has (stage.Again u count) e).still in
        let same : version_in at words ≡ u = sym (same_Some _ _ f) in
        (s.same_words same, λ c q. s.same_count same ∙ same_Some _ _ q)
    words_still stage.Decided e f = absurd (cc)
    words_still (stage.Open u) e f = absurd (cc)
    words_still (stage.Write u) e f = absurd (cc)
    words_still (stage.Close u) e f = absurd (cc)

    pub stands_still : found_version x.work.stage ≡ Some (version_in at words)
        → IsQuiet sides × AgreesWith x.work.work.seen.pairs (volume_of at.site.geom (front at words)) ×
        ((count : ℕ) → found_count x.work.stage ≡ Some count → slice_index (front at words) count_word ≡ count)
    stands_still f =
        let s = words_still x.work.stage refl f in
        (even_quiet at words sides g (has_version x.work.stage refl (version_in at words) f).even, s.0, s.1)

    pub gets_load : is_getting x.work.stage ≡ true → (w : ℕ) × (seq_atom at x.work ≡ Some (atom.Load w)) × ((w ≡ seq_version_word at) ⊎ (w < lock_base at.site))
    gets_load b = subst (λ st. (w : ℕ) × (seq_stage_atom at x.work.work st ≡ Some (atom.Load w)) ×
        ((w ≡ seq_version_word at) ⊎ (w < lock_base at.site))) refl (by_stage x.work.stage refl b) where
          by_stage : (st : SeqStage) → x.work.stage ≡ st → is_getting st ≡ true →
              (w : ℕ) × (seq_stage_atom at x.work.work st ≡ Some (atom.Load w)) × ((w ≡ seq_version_word at) ⊎ (w < lock_base at.site))
          by_stage stage.Locked e d = absurd (cc)
          by_stage stage.Look e d = (seq_version_word at, refl, inl refl)
          by_stage (stage.Count v) e d = (count_word, refl, inr (omega arith))
          by_stage (stage.Read v count word) e d =
              let there = wanted_there at.site.geom g.locked.geom_fits x.work.work.calls x.work.work.seen.pairs word
              (fit_at at words sides g r x has (stage.Read v count word) e).wants in
              (volume_base + word, refl, inr (omega arith))
          by_stage (stage.Again v count) e d = (seq_version_word at, refl, inl refl)
          by_stage stage.Decided e d = absurd (cc)
          by_stage (stage.Open v) e d = absurd (cc)
          by_stage (stage.Write v) e d = absurd (cc)
          by_stage (stage.Close v) e d = absurd (cc)

    pub reads_few : is_getting x.work.stage ≡ true → length x.work.work.seen.pairs ≤ 3 + 2 * at.site.geom.overflow
    reads_few b = by_stage x.work.stage refl b where
      none : x.work.work.seen.pairs ≡ [] → length x.work.work.seen.pairs ≤ 3 + 2 * at.site.geom.overflow
      none e = let empty : length x.work.work.seen.pairs ≡ 0 = ap length e in omega arith

      by_stage : (st : SeqStage) → x.work.stage ≡ st → is_getting st ≡ true → length x.work.work.seen.pairs ≤ 3 + 2 * at.site.geom.overflow
      by_stage stage.Locked e d = absurd (cc)
      by_stage stage.Look e d = none (fit_at at words sides g r x has stage.Look e).1
      by_stage (stage.Count v) e d = none (fit_at at words sides g r x has (stage.Count v) e).2
      by_stage (stage.Read v count word) e d =
          let f = fit_at at words sides g r x has (stage.Read v count word) e in
          few_pairs at.site.geom x.work.work.calls x.work.work.seen.pairs f.getting.open_call.is_block f.getting.get f.named
      by_stage (stage.Again v count) e d =
          let f = fit_at at words sides g r x has (stage.Again v count) e in
          few_pairs at.site.geom x.work.work.calls x.work.work.seen.pairs f.getting.open_call.is_block f.getting.get f.named
      by_stage stage.Decided e d = absurd (cc)
      by_stage (stage.Open v) e d = absurd (cc)
      by_stage (stage.Write v) e d = absurd (cc)
      by_stage (stage.Close v) e d = absurd (cc)

pub never_lowers : (at : WaySite) (home : ℕ) (words : List ℕ) (sides : List SeqRank) (r : ℕ) (x : SeqRank) (a : Atom) →
    Works (seq_table at home) (SeqGood at) words sides r x a → version_in at words ≤ version_in at (do_words a words)
never_lowers at home words sides r x a m = by_stage x.work.stage refl m.planned where
  g : SeqGood at words sides
  g = m.side.is_good

  low : lock_base at.site ≤ at.behind
  low = let laid = m.side.laid in laid.low

  size : length words ≡ at.behind + 1
  size = let laid = m.side.laid in laid.all

  loads : (w : ℕ) → Some (atom.Load w) ≡ Some a → version_in at words ≤ version_in at (do_words a words)
  loads w p = subst (λ b. version_in at words ≤ version_in at (do_words b words)) (same_Some _ _ p) (omega arith)

  inside : (st : SeqStage) → x.work.stage ≡ st → locked_at x.standing x.work.work st ≡ record { standing = x.standing; work = x.work.work }
      → work_atom at.site.geom x.work.work ≡ Some a → version_in at words ≤ version_in at (do_words a words)
  inside st e same planned =
      let w : TheWork = x.work.work in
      let q : IsInFront at words low size a [] =
      in_front at words low size (home_at (λ z. 0) a) r a [] (plain_atom at.site.geom w w.stage a planned)
      (atom_can at.site (front at words) (map as_locked sides) g.locked r (record { standing = x.standing; work = w })
      (locked_there at words sides g r x m.side.there st e ∙ ap Some same) a (λ z. 0) [] planned) in
      let kept = q.same_version in omega arith

  stored : (v : ℕ) → version_in at words ≤ v → Some (atom.Store at.behind v) ≡ Some a → version_in at words ≤ version_in at (do_words a words)
  stored v up p =
      subst (λ b. version_in at words ≤ version_in at (do_words b words)) (same_Some _ _ p) (let is = version_stored at words low size v in omega arith)

  by_stage : (st : SeqStage) → x.work.stage ≡ st → seq_stage_atom at x.work.work st ≡ Some a → version_in at words ≤ version_in at (do_words a words)
  by_stage stage.Locked e p = inside stage.Locked e refl p
  by_stage stage.Look e p = loads (seq_version_word at) p
  by_stage (stage.Count v) e p = loads count_word p
  by_stage (stage.Read v count word) e p = loads (volume_base + word) p
  by_stage (stage.Again v count) e p = loads (seq_version_word at) p
  by_stage stage.Decided e p = loads (seq_version_word at) p
  by_stage (stage.Open v) e p = let now = (fit_at at words sides g r x m.side.there (stage.Open v) e).1 in stored (v + 1) (omega arith) p
  by_stage (stage.Write v) e p = inside (stage.Write v) e refl p
  by_stage (stage.Close v) e p = let now = (fit_at at words sides g r x m.side.there (stage.Close v) e).2.one_more in stored (v + 2) (omega arith) p

module _ (at : WaySite) (r : ℕ) (w : TheWork) (got : ℕ) where
  -- an answer is Moved but in two cases
  abbrev Waits : ℕ → ℕ → SeqStage → Type 0
  Waits word value st = (st ≡ stage.Look) × (got % 2 ≢ 0) × (word ≡ seq_version_word at) × (value ≡ got)

  abbrev Loses : ℕ → ℕ → SeqStage → Type 0
  Loses guess seen st = (count : ℕ) × (st ≡ stage.Again guess count) × (seen ≡ got) × (got ≢ guess)

  -- all other stages only move
  by_move : (P : SeqStage → Type 0) → ((st : SeqStage) → (seq_stage_after at r w got st).stepped ≡ Moved → P st) → P stage.Look →
      ((v count : ℕ) → P (stage.Again v count)) → (st : SeqStage) → P st
  by_move P moves look check stage.Locked = moves stage.Locked (loaded_each IsMoved _ _ _ refl refl refl)
  by_move P moves look check stage.Look = look
  by_move P moves look check (stage.Count v) = moves (stage.Count v) (read_each IsMoved w v got (wanted at.site.geom w) (λ next. refl) refl)
  by_move P moves look check (stage.Read v count word) =
      let y : TheWork = with_word w word got in moves (stage.Read v count word) (read_each IsMoved y v count (wanted at.site.geom y) (λ next. refl) refl)
  by_move P moves look check (stage.Again v count) = check v count
  by_move P moves look check stage.Decided = moves stage.Decided refl
  by_move P moves look check (stage.Open v) = moves (stage.Open v) refl
  by_move P moves look check (stage.Write v) = moves (stage.Write v) (stored_each IsMoved v _ _ refl refl)
  by_move P moves look check (stage.Close v) = moves (stage.Close v) refl

  pub waits_at : (word value : ℕ) (st : SeqStage) → ((seq_stage_after at r w got st).stepped ≡ Waiting word value) ↔ Waits word value st
  waits_at word value st = (forth st, back st) where
    forth : (st : SeqStage) → (seq_stage_after at r w got st).stepped ≡ Waiting word value → Waits word value st
    forth = by_move (λ z. (seq_stage_after at r w got z).stepped ≡ Waiting word value → Waits word value z) (λ z moved e. absurd (cc)) look check where
      look : (seq_stage_after at r w got stage.Look).stepped ≡ Waiting word value → Waits word value stage.Look
      look e =
          elim (got % 2 == 0) as (λ b. (got % 2 == 0) ≡ b → (looked_by at w got b).stepped ≡ Waiting word value → Waits word value stage.Look) [
            | true ↦ λ is f. absurd (cc)
            | false ↦ λ is f. (
              refl,
              λ even. let hit : (got % 2 == 0) ≡ true = grind (arith, nat_tests) in
                  cc,
              (let same : seq_version_word at ≡ word = cc in sym same),
              (let same : got ≡ value = cc in sym same),
            )
          ] refl e

      check : (v count : ℕ) → (seq_stage_after at r w got (stage.Again v count)).stepped ≡ Waiting word value → Waits word value (stage.Again v count)
      check v count e =
          elim (got == v) as (λ b. (checked_by at r w v count got b).stepped ≡ Waiting word value → Waits word value (stage.Again v count)) [
            | true ↦ λ f. absurd (cc)
            | false ↦ λ f. absurd (cc)
          ] e

    back : (st : SeqStage) → Waits word value st → (seq_stage_after at r w got st).stepped ≡ Waiting word value
    back st q =
        subst (λ z. (seq_stage_after at r w got z).stepped ≡ Waiting word value) (sym q.0)
        (elim (got % 2 == 0) as (λ b. (got % 2 == 0) ≡ b → (looked_by at w got b).stepped ≡ Waiting word value) [
          | true ↦ λ is. absurd (q.1 (grind (arith, nat_tests)))
          | false ↦ λ is. ap (λ z. Waiting z got) (sym q.2) ∙ ap (λ z. Waiting word z) (sym q.3)
        ] refl)

  pub loses_at : (guess seen : ℕ) (st : SeqStage) → ((seq_stage_after at r w got st).stepped ≡ Lost guess seen) ↔ Loses guess seen st
  loses_at guess seen st = (forth st, back st) where
    forth : (st : SeqStage) → (seq_stage_after at r w got st).stepped ≡ Lost guess seen → Loses guess seen st
    forth = by_move (λ z. (seq_stage_after at r w got z).stepped ≡ Lost guess seen → Loses guess seen z) (λ z moved e. absurd (cc)) look check where
      look : (seq_stage_after at r w got stage.Look).stepped ≡ Lost guess seen → Loses guess seen stage.Look
      look e =
          elim (got % 2 == 0) as (λ b. (looked_by at w got b).stepped ≡ Lost guess seen → Loses guess seen stage.Look) [
            | true ↦ λ f. absurd (cc)
            | false ↦ λ f. absurd (cc)
          ] e

      check : (v count : ℕ) → (seq_stage_after at r w got (stage.Again v count)).stepped ≡ Lost guess seen → Loses guess seen (stage.Again v count)
      check v count e =
          elim (got == v) as (λ b. (got == v) ≡ b → (checked_by at r w v count got b).stepped ≡ Lost guess seen → Loses guess seen (stage.Again v count)) [
            | true ↦ λ is f. absurd (cc)
            | false ↦ λ is f.
                let same : v ≡ guess = cc in (
                  count,
                  ap (λ z. stage.Again z count) same,
                  (let s : got ≡ seen = cc in sym s),
                  λ q. let hit : (got == v) ≡ true =
                      grind (arith, nat_tests) in cc,
                )
          ] refl e

    back : (st : SeqStage) → Loses guess seen st → (seq_stage_after at r w got st).stepped ≡ Lost guess seen
    back st q =
        subst (λ z. (seq_stage_after at r w got z).stepped ≡ Lost guess seen) (sym q.1)
        (elim (got == guess) as (λ b. (got == guess) ≡ b → (checked_by at r w guess q.0 got b).stepped ≡ Lost guess seen) [
          | true ↦ λ is. absurd (q.3 (grind (arith, nat_tests)))
          | false ↦ λ is. ap (λ z. Lost guess z) (sym q.2)
        ] refl)
