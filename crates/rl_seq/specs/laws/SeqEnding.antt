-- Optimistic readers have no dead end: an atom inside the lock makes its rank less far from the end, and so does one that ends a get; and
-- where nobody is at the lock the version is even, so that each other atom of a get goes on with its try.
use Rattle.std.specs.Prelude.{◌≡◌, ℕ, ◌+◌, ◌*◌, ◌%◌, ◌==◌, ◌<◌, ◌≤◌, Bool, true, false, if◌then◌else◌, List, [], ◌∷◌, ◌++◌, length, slice_get, slice_index, slice_set, sum_by, Some, None, refl}
use Rattle.std.proofs.Common.{sym, ◌∙◌, ap, subst, ⊎_elim, arith, length-set}
use Rattle.std.proofs.Math.Nat.{mul-le-mul_left}
use Rattle.std.proofs.lemmas.Bool.{cases_Bool}
use Rattle.std.proofs.lemmas.Bool.Decides.{nat_tests}
use Rattle.std.proofs.lemmas.List.{length-map}
use Rattle.std.proofs.lemmas.Option.{same_Some}
use Rattle.rl_word.specs.laws.Places.{get_map}
use Rattle.rl_word.specs.declared.acts.Atom.{Atom}
use Rattle.rl_model.specs.declared.call.Call.{Call}
use Rattle.rl_model.specs.declared.geom.Geom.{Geom}
use Rattle.rl_step.specs.declared.events.Standing.TheVariants.{Out, Writer}
use Rattle.rl_step.specs.Do.{do_got, do_words}
use Rattle.rl_step.specs.Lock.{IsHolder}
use Rattle.rl_ending.specs.laws.Sums.{sum_grows}
use Rattle.rl_ending.specs.laws.SumLaws.{nearer, less_change}
use Rattle.rl_ending.specs.TwoSums.{two_sums}
use Rattle.rl_volume.specs.Words.{volume_words}
use Rattle.rl_work.specs.declared.stage.Stage.{Stage}
use Rattle.rl_work.specs.declared.stage.Stage.TheVariants.{Rest, Begin, Read, Journal, Volume}
use Rattle.rl_work.specs.Locked.{first_reads}
use Rattle.rl_work.specs.LockedLeft.{one_unless, words_unseen, far_at, far as work_far}
use Rattle.rl_work.specs.laws.LockedSteps.{BeginsAnew, stage_less}
use Rattle.rl_work.specs.laws.UnseenLaws.{appended_stays, appended_seen, words_unseen_falls, few_words_unseen}
use Rattle.rl_site.specs.Site.{volume_base, WaySite}
use Rattle.rl_work.specs.Unlocked.{wanted, wanted_by, with_word}
use Rattle.rl_work.specs.Ways.{Works}
use Rattle.rl_work.specs.Work.{TheWork, WorkTurned, CanTurn, stage_atom, stores, with_block, with_seen, work_after, seen_on}
use Rattle.rl_work.specs.WorkEnding.{works_in, MayGo, WorkEnds}
use Rattle.rl_work.specs.WorkGood.{FitsAt, HasOpen}
use Rattle.rl_seq.specs.declared.stage.SeqStage.{SeqStage}
use Rattle.rl_seq.specs.declared.stage.SeqStage.TheVariants as stage
use Rattle.rl_seq.specs.laws.CheckLaws.{get_alone}
use Rattle.rl_seq.specs.laws.CodeLaws.{may_turn}
use Rattle.rl_seq.specs.laws.FitLaws.{fit_at, locked_there}
use Rattle.rl_seq.specs.laws.KeepLaws.{wanted_there, wanted_unseen}
use Rattle.rl_seq.specs.laws.MakeLaws.{works_on}
use Rattle.rl_seq.specs.laws.OutcomeLaws.{load_outcome, reads_off, read_each}
use Rattle.rl_seq.specs.SeqCode.{CanTurnAt}
use Rattle.rl_seq.specs.SeqGood.{SeqRank, SeqGood, IsGetting, IsReadingOut}
use Rattle.rl_seq.specs.SeqLeft.{open_far, far_in, far, anew, near_in, near, most_near, seq_left, seq_most}
use Rattle.rl_seq.specs.SeqWork.{TheSeqWork, seq_at_stage, seq_block, seq_stage_atom, seq_stage_after, seq_after, is_over, loaded_by, seq_table}
use Rattle.rl_seq.specs.laws.Cases.{stored_by}
use Rattle.rl_seq.specs.laws.Cases.{stage_of, looked_by, checked_by}
use Rattle.rl_seq.specs.Site.{version_in, front}
use Rattle.rl_seq.specs.laws.StateLaws as state
use Rattle.rl_seq.specs.laws.VersionLaws.{writers_odd}

-- ---- the measure

few_anew : (volume now version : ℕ) → anew volume now version ≤ volume + 5
few_anew volume now version = by (now == version) where
  by : (b : Bool) → (if b then 0 else volume + 5) ≤ volume + 5
  by true = omega arith
  by false = omega arith

-- the version that there is now
same_anew : (volume now : ℕ) → anew volume now now ≡ 0
same_anew volume now = let e : (now == now) ≡ true = grind (arith, nat_tests) in ap (λ b. if b then 0 else volume + 5) e

-- another one
other_anew : (volume now version : ℕ) → (now == version) ≡ false → anew volume now version ≡ volume + 5
other_anew volume now version e = ap (λ b. if b then 0 else volume + 5) e

few_near : (volume now : ℕ) (w : TheWork) (st : SeqStage) → near_in volume now w st ≤ most_near volume
few_near volume now w stage.Locked = omega arith
few_near volume now w stage.Look = omega arith
few_near volume now w (stage.Count version) = let k = few_anew volume now version in omega arith
few_near volume now w (stage.Read version count word) = let k = few_anew volume now version in let u = few_words_unseen volume w.seen.pairs in omega arith
few_near volume now w (stage.Again version count) = let k = few_anew volume now version in omega arith
few_near volume now w stage.Decided = omega arith
few_near volume now w (stage.Open version) = omega arith
few_near volume now w (stage.Write version) = omega arith
few_near volume now w (stage.Close version) = omega arith

open_few : (volume : ℕ) (w : TheWork) (inside : Stage) → open_far volume w inside ≤ far_at volume w inside + 4
open_few volume w Rest = omega arith
open_few volume w Begin = omega arith
open_few volume w (Read count word) = omega arith
open_few volume w (Journal made) = omega arith
open_few volume w (Volume made) = omega arith

open_is : (geom : Geom) (volume : ℕ) (w : TheWork) (a : Atom) (inside : Stage) → stage_atom geom w inside ≡ Some a →
    open_far volume w inside ≡ far_at volume w inside + 4
open_is geom volume w a Rest e = let bad : None ≡ Some a = e in cc
open_is geom volume w a Begin e = refl
open_is geom volume w a (Read count word) e = refl
open_is geom volume w a (Journal made) e = refl
open_is geom volume w a (Volume made) e = refl

-- a block that is over has nothing left
over_none : (volume : ℕ) (w : TheWork) → w.stage ≡ Rest → far volume (is_over w).work ≡ 0
over_none volume w rests = ap (open_far volume w) rests

-- an atom inside the lock, before the versions and between them
loaded_less : (volume n : ℕ) (t : TheWork) (over writes : Bool) → (over ≡ true → t.stage ≡ Rest) → work_far volume t < n →
    far volume (loaded_by t over writes).work < n + 4
loaded_less volume n t true writes rests less = let k = over_none volume t (rests refl) in omega arith
loaded_less volume n t false true rests less = omega arith
loaded_less volume n t false false rests less = let k = open_few volume t t.stage in omega arith

stored_less : (volume n version : ℕ) (t : TheWork) (over : Bool) → work_far volume t < n → far volume (stored_by version t over).work < n + 1
stored_less volume n version t true less = omega arith
stored_less volume n version t false less = omega arith

-- a rank that is farther and nearer
more : (weight a b n m k c : ℕ) → a ≤ b + k → n ≤ m + c → weight * a + n ≤ weight * b + m + (k * weight + c)
more weight a b n m k c le small =
    let l : weight * a ≤ weight * (b + k) = mul-le-mul_left weight le in
    let e : weight * (b + k) ≡ weight * b + k * weight = grind arith in
    omega arith

grows_both : (change : ℕ) (f g : TheSeqWork → ℕ) (vs : List TheSeqWork) (n r k : ℕ) (v u : TheSeqWork) → length vs ≡ n →
    slice_get vs r ≡ Some v → f u ≤ k → g u ≤ change
    → two_sums change f g (slice_set vs r u) ≤ two_sums change f g vs + (k * (1 + change * n) + change)
grows_both change f g vs n r k v u long has far_few near_few =
    let len : length (slice_set vs r u) ≡ length vs = length-set vs r u in
    let a : sum_by f (slice_set vs r u) ≤ sum_by f vs + k = sum_grows f vs r k v u has far_few in
    let c : sum_by g (slice_set vs r u) ≤ sum_by g vs + change = sum_grows g vs r change v u has near_few in
    subst (λ m. (1 + change * m) * sum_by f (slice_set vs r u) + sum_by g (slice_set vs r u) ≤ two_sums change f g vs +
    (k * (1 + change * n) + change)) (sym len)
    (subst (λ m. (1 + change * length vs) * sum_by f (slice_set vs r u) + sum_by g (slice_set vs r u) ≤ two_sums change f g vs +
    (k * (1 + change * m) + change)) long
    (more (1 + change * length vs) (sum_by f (slice_set vs r u)) (sum_by f vs) (sum_by g (slice_set vs r u)) (sum_by g vs) k change a c))

-- ---- an atom of a rank that may be let work

module _ (at : WaySite) (home : ℕ) where
  abbrev V : ℕ
  V = volume_words at.site.geom

  module _ (words cards : List ℕ) (sides : List SeqRank) (r : ℕ) (x : SeqRank) (a : Atom)
      (m : Works (seq_table at home) (SeqGood at) words sides r x a) (may : MayGo sides x) where
    abbrev w : TheWork
    w = x.work.work

    abbrev now : ℕ
    now = version_in at words

    g : SeqGood at words sides
    g = m.side.is_good

    has : slice_get (works_in sides) r ≡ Some x.work
    has = get_map (λ (z : SeqRank). z.work) sides r x m.side.there

    -- less is left where the rank is less far, whatever words it has changed
    farther : (st : SeqStage) → x.work.stage ≡ st → (vs : List ℕ) (y : TheSeqWork) → far V y < far_in V w st →
        seq_left at vs (slice_set (works_in sides) r y) < seq_left at words (works_in sides)
    farther st e vs y less =
        nearer (most_near V) (far V) (near V now) (near V (version_in at vs)) (λ z. few_near V (version_in at vs) z.work z.stage)
        (works_in sides) r x.work y has
        (subst (λ s. far V y < far_in V w s) (sym e) less)

    -- and where it has gone on with its try, and no word has changed
    tries : (st : SeqStage) → x.work.stage ≡ st → (y : TheSeqWork) → far V y ≡ far_in V w st → near V now y < near_in V now w st →
        seq_left at words (slice_set (works_in sides) r y) < seq_left at words (works_in sides)
    tries st e y same less =
        less_change (most_near V) (far V) (near V now) (works_in sides) r x.work y has (subst (λ s. far V y ≡ far_in V w s) (sym e) same)
        (subst (λ s. near V now y < near_in V now w s) (sym e) less)

    can : CanTurnAt at.site.geom w (do_got a words cards) x.work.stage
    can = (may_turn at home r x.work (do_got a words cards)
        (record { words = words; cards = cards; sides = sides; standing = x.standing; at = a; works = m; gives = refl })).1

    can_at : (st : SeqStage) → x.work.stage ≡ st → CanTurnAt at.site.geom w (do_got a words cards) st
    can_at st e = subst (CanTurnAt at.site.geom w (do_got a words cards)) e can

    -- inside the lock
    begins_at : (inside : Stage) → stage_atom at.site.geom w inside ≡ Some a →
        FitsAt at.site (front at words) g.locked.journal g.locked.before r (record { standing = x.standing; work = w }) inside →
        BeginsAnew at.site.geom at.site.shard r w inside
    begins_at Rest p f = let bad : None ≡ Some a = p in cc
    begins_at Begin p f = (f.2, f.3, f.4)
    begins_at (Read count word) p f = tt
    begins_at (Journal made) p f = tt
    begins_at (Volume made) p f = tt

    stores_anew : (inside : Stage) → stores inside ≡ true → BeginsAnew at.site.geom at.site.shard r w inside
    stores_anew Rest e = cc
    stores_anew Begin e = cc
    stores_anew (Read count word) e = tt
    stores_anew (Journal made) e = tt
    stores_anew (Volume made) e = tt

    abbrev turned : WorkTurned
    turned = work_after at.site.geom at.site.shard r w (do_got a words cards)

    inside_less : CanTurn at.site.geom w (do_got a words cards) w.stage → BeginsAnew at.site.geom at.site.shard r w w.stage →
        work_far V (work_after at.site.geom at.site.shard r w (do_got a words cards)).work < work_far V w
    inside_less c new = stage_less at.site.geom at.site.shard r w (do_got a words cards) w.stage new c

    -- where nobody is at the lock the version is even
    even : x.standing ≡ Out → now % 2 ≡ 0
    even out = (g.quiet (λ i y get. ⊎_elim (λ b. let bad : Writer ≡ Out = sym (writers_odd at words sides g i y get b) ∙ all i y get in cc)
        (λ b. b) (cases_Bool _))).even where
          all : (i : ℕ) (y : SeqRank) → slice_get sides i ≡ Some y → y.standing ≡ Out
          all = ⊎_elim (λ holds. let bad : IsHolder Out = subst IsHolder out holds in absurd bad) (λ q. q) may

    -- an atom that loads
    loads : (b : Atom) (st : SeqStage) → Some b ≡ Some a → seq_left at (do_words b words)
        (slice_set (works_in sides) r (seq_stage_after at r w (do_got b words cards) st).work) < seq_left at words (works_in sides)
        → seq_left at (do_words a words) (slice_set (works_in sides) r (seq_stage_after at r w (do_got a words cards) st).work) < seq_left
        at words (works_in sides)
    loads b st p less = subst (λ c. seq_left at (do_words c words)
        (slice_set (works_in sides) r (seq_stage_after at r w (do_got c words cards) st).work) < seq_left at words (works_in sides))
        (same_Some _ _ p) less

    abbrev IsLess : SeqStage → Type 0
    IsLess st = seq_left at (do_words a words) (slice_set (works_in sides) r (seq_stage_after at r w (do_got a words cards) st).work) <
        seq_left at words (works_in sides)

    looks : x.work.stage ≡ stage.Look → seq_left at words (slice_set (works_in sides) r (looked_by at w now (now % 2 == 0)).work) < seq_left
        at words (works_in sides)
    looks e =
        let f = fit_at at words sides g r x m.side.there stage.Look e in
        let is_even : now % 2 ≡ 0 = even f.0.out in
        let hit : (now % 2 == 0) ≡ true = grind (arith, nat_tests) in
        let none = same_anew V now in
        subst (λ b. seq_left at words (slice_set (works_in sides) r (looked_by at w now b).work) < seq_left at words (works_in sides)) (sym hit)
        (tries stage.Look e (seq_at_stage w (stage.Count now)) refl (omega arith))

    reads_word : (version count word got : ℕ) → x.work.stage ≡ stage.Read version count word →
        words_unseen V (with_word w word got).seen.pairs + 1 ≤ words_unseen V w.seen.pairs
    reads_word version count word got e =
        let f : IsReadingOut at.site (front at words) now r x.standing w version count (Some word) =
        fit_at at words sides g r x m.side.there (stage.Read version count word) e in
        let low : word < V = wanted_there at.site.geom g.locked.geom_fits w.calls w.seen.pairs word f.wants in
        words_unseen_falls V w.seen.pairs (w.seen.pairs ++ (word, got) ∷ []) word low
        (ap one_unless (wanted_unseen at.site.geom w.calls w.seen.pairs word f.wants)) (appended_seen w.seen.pairs word got)
        (appended_stays w.seen.pairs word got)

    checks : (version count : ℕ) → x.work.stage ≡ stage.Again version count → (b : Bool) → (now == version) ≡ b
        → seq_left at words (slice_set (works_in sides) r (checked_by at r w version count now b).work) < seq_left at words (works_in sides)
    checks version count e true is =
        let f : IsReadingOut at.site (front at words) now r x.standing w version count None =
        fit_at at words sides g r x m.side.there (stage.Again version count) e in
        let q : IsGetting at.site r x.standing w = f.getting in
        let o : HasOpen at.site r w = q.open_call in
        let c = get_alone w.calls o.is_block q.get in
        let off = reads_off at.site.geom at.site.shard r count w c.0 c.1 q.no_reply c.2
        (ap (λ cs. wanted_by at.site.geom cs w.seen.pairs) (sym c.1) ∙ f.wants) in
        let none = over_none V (seen_on at.site.geom at.site.shard r w count).work off.rests in
        farther (stage.Again version count) e words (seq_at_stage (seen_on at.site.geom at.site.shard r w count).work stage.Locked) (omega arith)
    checks version count e false is = let k = other_anew V now version is in
        tries (stage.Again version count) e (seq_at_stage (with_seen w []) stage.Look) refl (omega arith)

    by_stage : (st : SeqStage) → x.work.stage ≡ st → seq_stage_atom at w st ≡ Some a → IsLess st
    by_stage stage.Locked e p =
        let o = load_outcome at.site.geom at.site.shard r w (do_got a words cards) w.stage
        (fit_at at words sides g r x m.side.there stage.Locked e).0 (works_on at w w.stage a p) in
        let new = begins_at w.stage p (g.locked.fits r (record { standing = x.standing; work = w })
        (locked_there at words sides g r x m.side.there stage.Locked e)) in
        let k = loaded_less V (work_far V w) turned.work turned.over (stores turned.work.stage) o.rests (inside_less (can_at stage.Locked e) new) in
        let is = open_is at.site.geom V w a w.stage p in
        farther stage.Locked e (do_words a words) (seq_stage_after at r w (do_got a words cards) stage.Locked).work (omega arith)
    by_stage stage.Look e p = loads _ stage.Look p (looks e)
    by_stage (stage.Count version) e p = loads _ (stage.Count version) p
        (read_each (λ t. seq_left at words (slice_set (works_in sides) r t.work) < seq_left at words (works_in sides)) w version _
        (wanted at.site.geom w)
        (λ word. let u = few_words_unseen V w.seen.pairs in tries (stage.Count version) e (seq_at_stage w (stage.Read version _ word)) refl (omega arith))
        (tries (stage.Count version) e (seq_at_stage w (stage.Again version _)) refl (omega arith)))
    by_stage (stage.Read version count word) e p = loads _ (stage.Read version count word) p
        (let got : ℕ = slice_index words (volume_base + word) in
        let y : TheWork = with_word w word got in
        let fall : words_unseen V y.seen.pairs + 1 ≤ words_unseen V w.seen.pairs = reads_word version count word got e in
        read_each (λ t. seq_left at words (slice_set (works_in sides) r t.work) < seq_left at words (works_in sides)) y version count (wanted at.site.geom y)
        (λ next. tries (stage.Read version count word) e (seq_at_stage y (stage.Read version count next)) refl (omega arith))
        (tries (stage.Read version count word) e (seq_at_stage y (stage.Again version count)) refl (omega arith)))
    by_stage (stage.Again version count) e p = loads _ (stage.Again version count) p (checks version count e (now == version) refl)
    by_stage stage.Decided e p = farther stage.Decided e (do_words a words) _ (omega arith)
    by_stage (stage.Open version) e p = farther (stage.Open version) e (do_words a words) _ (omega arith)
    by_stage (stage.Write version) e p =
        let f = fit_at at words sides g r x m.side.there (stage.Write version) e in
        let k = stored_less V (work_far V w) version turned.work turned.over (inside_less (can_at (stage.Write version) e) (stores_anew w.stage f.0)) in
        farther (stage.Write version) e (do_words a words) (seq_stage_after at r w (do_got a words cards) (stage.Write version)).work (omega arith)
    by_stage (stage.Close version) e p =
        let f = fit_at at words sides g r x m.side.there (stage.Close version) e in
        let none = over_none V w f.0 in
        farther (stage.Close version) e (do_words a words) (seq_at_stage w stage.Locked) (omega arith)

    atom_less : seq_left at (do_words a words) (slice_set (works_in sides) r (seq_after at r x.work (do_got a words cards)).work) < seq_left
        at words (works_in sides)
    atom_less = by_stage x.work.stage refl m.planned

  opened_far : (w : TheWork) (calls : List Call) (seq : ℕ) (b : Bool) → length calls ≤ 8 → far V (seq_at_stage (with_block w calls seq) (stage_of b)) ≤ V + 97
  opened_far w calls seq true few = omega arith
  opened_far w calls seq false few = omega arith

  pub seq_ends : WorkEnds (seq_table at home) (SeqGood at) (seq_left at) (seq_most at)
  seq_ends =
      record {
        nears = λ words cards sides r x a m may. atom_less words cards sides r x a m may;
        frame = λ words others sides g laid same. ap (λ v. two_sums (most_near V) (far V) (near V v) (works_in sides)) (same.behind at.behind (omega arith));
        open_adds = λ words sides r x calls seq s shut fits takes.
            let few : length calls ≤ 8 = fits.is_block.few in
            let y : TheSeqWork = seq_block x.work calls seq in
            grows_both (most_near V) (far V) (near V (version_in at words)) (works_in sides) (length at.site.rooms) r (V + 97) x.work y
            (length-map sides (λ (z : SeqRank). z.work) ∙ state.ranks at home words sides s.is_good) (get_map (λ (z : SeqRank). z.work) sides r x s.there)
            (opened_far x.work.work calls seq (first_reads calls) few) (few_near V (version_in at words) y.work y.stage);
      }
