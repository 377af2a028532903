-- The rank that is alone at its site: it is given the lock, makes the atoms of its work, and leaves.
use Rattle.std.proofs.Common.{◌≡◌, ltb, get_or, ℕ, zero, suc, ◌+◌, ◌^◌, ◌<◌, ◌≤◌, true, false, List, [], ◌∷◌, length, refl, sym, ◌∙◌, subst, arith, Some}
use Rattle.std.specs.List.{All, list_all}
use Rattle.std.specs.Prelude.{slice_get}
use Rattle.std.proofs.lemmas.List.Sums.{count_by-le-length, AllPass-from_list_all}
use Rattle.std.proofs.lemmas.Bool.Decides.{nat_tests}
use Rattle.std.proofs.lemmas.Option.{same_Some}
use Rattle.rl_word.specs.declared.acts.Atom.{Atom}
use Rattle.rl_word.specs.declared.acts.Atom.TheVariants as atom
use Rattle.rl_model.specs.Asked.{IsAsked, asks_update}
use Rattle.rl_model.specs.declared.call.Call.{Call}
use Rattle.rl_model.specs.declared.entry.Entry.{Entry}
use Rattle.rl_model.specs.declared.geom.Geom.{Geom}
use Rattle.rl_model.specs.Geom.{GeomFits}
use Rattle.rl_model.specs.Call.{shard_of}
use Rattle.rl_step.specs.Core.{home_at}
use Rattle.rl_step.specs.Do.{CanDo, do_got, do_words}
use Rattle.rl_step.specs.declared.events.Event.TheVariants.{EnterW}
use Rattle.rl_step.specs.declared.events.Standing.TheVariants.{Out, Asking, Writer, Reader, Leaving}
use Rattle.rl_step.specs.Lock.{IsHolder}
use Rattle.rl_journal.specs.Legal.{updates}
use Rattle.rl_site.specs.Site.{lock_base}
use Rattle.rl_work.specs.Work.{TheWork, WorkTurned, first_work, CanName, CanTurn, work_atom, work_after, with_block}
use Rattle.rl_site.specs.Opens.{IsOpen, places_needed, opening_words}
use Rattle.rl_work.specs.WorkGood.{WorkSide, IsApart, standing_after, IsFirst}
use Rattle.rl_work.specs.laws.AtomLaws.{opening_good, atom_can, atom_keeps, can_name, can_turn, shift_keeps, open_keeps, entry_calls, few_replies}
use Rattle.rl_work.specs.laws.EndLaws.{Ends, turn_ends}
use Rattle.table_tests.specs.OneRank.{one_site, one_side, IsAlone}

-- nobody is beside it
pub apart : (x : TheWork) → IsApart (one_side Writer x)
apart x = record { excludes = excludes; reads = reads } where
  only : (i : ℕ) (y : WorkSide) → slice_get (one_side Writer x) i ≡ Some y → i ≡ 0
  only zero y e = refl
  only (suc i) y e = absurd (cc)

  excludes : (i j : ℕ) (y z : WorkSide) → slice_get (one_side Writer x) i ≡ Some y → slice_get (one_side Writer x) j ≡ Some z → y.standing ≡ Writer → IsHolder z.standing → i ≡ j
  excludes i j y z a b w h = only i y a ∙ sym (only j z b)

  reads : (r : ℕ) (y : WorkSide) → slice_get (one_side Writer x) r ≡ Some y → y.standing ≡ Reader → asks_update y.work.calls ≡ false
  reads zero y e reader = absurd (cc)
  reads (suc r) y e reader = absurd (cc)

module _ (geom : Geom) (room : ℕ) (words : List ℕ) (x : TheWork) where
  -- it opens a block, and is given the lock
  pub begun : IsAlone geom room words Out x → (calls : List Call) (seq : ℕ) → IsOpen (one_site geom room) 0 calls seq x.transcript → IsAlone geom room words Writer (with_block x calls seq)
  begun a calls seq o =
      let asks = open_keeps (one_site geom room) words (one_side Out x) a.good 0 (record { standing = Out; work = x }) refl calls seq refl o in
      let y : TheWork = with_block x calls seq in
      record {
        good = shift_keeps (one_site geom room) words (one_side Asking y) asks 0 (record { standing = Asking; work = y }) refl Writer (EnterW 0 ∷ []) refl;
        same_room = a.same_room;
      }

  -- its block may be opened
  pub may_open : IsAlone geom room words Out x → (calls : List Call) (seq : ℕ) → IsAsked calls → All (λ c. shard_of geom c ≡ 0) calls → All (λ e. e.seq < seq) x.transcript.items → seq ≤ 1000 → length x.transcript.items + length calls ≤ room
      → IsOpen (one_site geom room) 0 calls seq x.transcript
  may_open a calls seq asked here fresh small fits =
      record {
        is_block = asked;
        of_shard = here;
        fresh = fresh;
        small = let few = asked.few in omega arith;
        room = let same = a.same_room in omega arith;
        place = let most = count_by-le-length updates x.transcript.items in let needed = at_most (asks_update calls) (length calls) in omega arith;
      } where
        at_most : (b : _) (n : ℕ) → places_needed b n ≤ n
        at_most true n = omega arith
        at_most false n = omega arith

  -- it leaves
  pub ended : IsAlone geom room words Leaving x → IsAlone geom room words Out x
  ended a = record { good = shift_keeps (one_site geom room) words (one_side Leaving x) a.good 0 (record { standing = Leaving; work = x }) refl Out [] refl; same_room = a.same_room }

  module _ (a : IsAlone geom room words Writer x) where
    low : GeomFits geom → room ≤ 1000 → lock_base (one_site geom room) < 2 ^ 32
    low fits few = let b = fits.buckets in let o = fits.overflow in omega arith

    pub names : GeomFits geom → room ≤ 1000 → CanName geom x x.stage
    names fits few = can_name (one_site geom room) words (one_side Writer x) a.good 0 (record { standing = Writer; work = x }) refl (low fits few)

    pub can : (at : Atom) → work_atom geom x ≡ Some at → CanDo 0 0 at words []
    can at planned = subst (λ n. CanDo n 0 at words []) (home_is at) (atom_can (one_site geom room) words (one_side Writer x) a.good 0 (record { standing = Writer; work = x }) refl at (λ w. 0) [] planned) where
      home_is : (b : Atom) → home_at (λ w. 0) b ≡ 0
      home_is (atom.Load w) = refl
      home_is (atom.Store w v) = refl
      home_is (atom.LocalCas w old new) = refl
      home_is (atom.Take n) = refl
      home_is (atom.CardLoad w) = refl
      home_is (atom.CardStore w v) = refl
      home_is (atom.Leave n) = refl

    pub turns : GeomFits geom → room ≤ 1000 → (at : Atom) → work_atom geom x ≡ Some at → CanTurn geom x (do_got at words []) x.stage
    turns fits few at planned = can_turn (one_site geom room) words (one_side Writer x) a.good 0 (record { standing = Writer; work = x }) refl (low fits few) at [] planned

    -- an atom of its work is made
    pub stepped : (at : Atom) → work_atom geom x ≡ Some at → let t : WorkTurned = work_after geom 0 0 x (do_got at words []) in IsAlone geom room (do_words at words) (standing_after t.over Writer) t.work
    stepped at planned =
        let side : WorkSide = record { standing = Writer; work = x } in
        let ends : Ends 0 0 x (work_after geom 0 0 x (do_got at words [])) =
        turn_ends geom 0 0 x x.stage (do_got at words []) (few_replies (one_site geom room) words (one_side Writer x) a.good 0 side refl)
        (λ made e. entry_calls (one_site geom room) words (one_side Writer x) a.good 0 side refl made e) in
        record {
          good = atom_keeps (one_site geom room) words (one_side Writer x) a.good 0 side refl (apart x) tt at [] planned;
          same_room = ends.same_room ∙ a.same_room;
        }

-- entries that were found to be below a number
pub all_below : (seq : ℕ) (es : List Entry) → list_all (λ e. ltb e.seq seq) es ≡ true → All (λ e. e.seq < seq) es
all_below seq es found k d h =
    let hit : ltb (get_or es k d).seq seq ≡ true = AllPass-from_list_all (λ e. ltb e.seq seq) es found k d h in
    grind (arith, nat_tests)

-- before the first block
pub at_first : (geom : Geom) (room : ℕ) → GeomFits geom → IsAlone geom room (opening_words (one_site geom room)) Out (first_work geom room)
at_first geom room fits = record { good = opening_good (one_site geom room) fits (one_side Out (first_work geom room)) refl first; same_room = refl } where
  first : (r : ℕ) (x : WorkSide) → slice_get (one_side Out (first_work geom room)) r ≡ Some x → IsFirst geom x
  first zero x e = subst (IsFirst geom) (same_Some _ _ e) (record { out = refl; rests = refl; nothing = refl; seen_room = refl })
  first (suc r) x e = absurd (cc)
