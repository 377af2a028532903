-- Each atom is a load or a store of a word that is there and isn't the lock's; and the code can name it and go on behind it.
use Rattle.std.specs.Prelude.{◌≡◌, ◌≢◌, ℕ, ◌+◌, ◌*◌, ◌<◌, List, [], length, slice_get, slice_index, Option, Some, None, refl}
use Rattle.std.proofs.Common.{subst, inl, inr, arith}
use Rattle.std.proofs.lemmas.Option.{same_Some}
use Rattle.rl_word.specs.declared.acts.Atom.{Atom}
use Rattle.rl_word.specs.declared.acts.Atom.TheVariants as atom
use Rattle.rl_volume.specs.declared.write.Write.{Write}
use Rattle.rl_work.specs.declared.stage.Stage.TheVariants as block
use Rattle.rl_site.specs.Site.{count_word, volume_base, journal_base, lock_base, WaySite}
use Rattle.rl_work.specs.Ways.{IsApart, IsLaid, IsWorkWord, IsWorkAtom, IsFrontAtom}
use Rattle.rl_work.specs.Work.{work_atom, write_atom}
use Rattle.rl_work.specs.WorkGood.{WorkSide as Seat}
use Rattle.rl_work.specs.laws.AtomLaws.{atom_can}
use Rattle.rl_journal.specs.Journal.{spelling}
use Rattle.rl_combine.specs.declared.stage.CombineStage.{CombineStage}
use Rattle.rl_combine.specs.declared.stage.CombineStage.TheVariants.{Rest, Post, Raise, Look, Count, Sweep, Copy, Read, Journal, Volume, Answer, Mark, Collect, Lower}
use Rattle.rl_combine.specs.Posts.{combine_ranks, post_word, post_of}
use Rattle.rl_combine.specs.Combine.{combine_stage_atom, combine_touch_at, combine_table}
use Rattle.rl_combine.specs.CombineGood.{RankSide, front_of, OwnAt, SweepAt, CombineGood, reading, deciding}
use Rattle.rl_combine.specs.laws.MoveLaws.{seat_of, is_rank}
use Rattle.rl_combine.specs.laws.SeatLaws.{seat_word}

module _ (S : WaySite) (node : ℕ → ℕ) (words : List ℕ) (laid : IsLaid (combine_table S node) words) (sides : List RankSide)
    (g : CombineGood S words sides) (apart : IsApart (combine_table S node) sides) (r : ℕ) (x : RankSide)
    (has : slice_get sides r ≡ Some x) where
  post_there : (k i : ℕ) → k < combine_ranks S → i < 9 → IsWorkWord (combine_table S node) (post_word S k i)
  post_there k i low few = record { there = omega arith; place = inr (omega arith) }

  front_there : (w : ℕ) → w < lock_base S.site → IsWorkWord (combine_table S node) w
  front_there w low = record { there = (let l = laid.low in omega arith); place = inl low }

  write_there : (owner made : ℕ) (seat : Seat) → slice_get g.seats owner ≡ Some seat → (o : Option Write) →
      work_atom S.site.geom seat.work ≡ Some (write_atom (x.work.count + 1) o) → (a : Atom) →
      Some (write_atom (x.work.count + 1) o) ≡ Some a → IsWorkAtom (combine_table S node) a
  write_there owner made seat there (Some w) planned a e =
      subst (IsWorkAtom (combine_table S node)) (same_Some _ _ e)
      (front_there (volume_base + w.word) (seat_word S node words laid sides g apart r x has owner seat there (volume_base + w.word)
      w.value planned))
  write_there owner made seat there None planned a e = subst (IsWorkAtom (combine_table S node)) (same_Some _ _ e) (front_there count_word (omega arith))

  pub plain : (at : Atom) → combine_stage_atom S r x.work x.work.stage ≡ Some at → IsWorkAtom (combine_table S node) at
  plain at planned =
      let s = seat_of S node words laid sides g r x has in
      by_stage s.0 x.work.stage (g.own r x s.0 has s.1) (g.sweeps r x has) planned
    where
      rank : r < combine_ranks S
      rank = is_rank S node words laid sides g r x has

      here : (a : Atom) → IsWorkAtom (combine_table S node) a → Some a ≡ Some at → IsWorkAtom (combine_table S node) at
      here a is e = subst (IsWorkAtom (combine_table S node)) (same_Some _ _ e) is

      by_stage : (y : Seat) (st : CombineStage) → OwnAt S (post_of S words r) r x y st → SweepAt S words g.seats r x.work st →
          combine_stage_atom S r x.work st ≡ Some at → IsWorkAtom (combine_table S node) at
      by_stage y Rest o w e = absurd (cc)
      by_stage y (Post made) o w e = let few = o.1 in here _ (post_there r (1 + made) rank (omega arith)) e
      by_stage y Raise o w e = here _ (post_there r 0 rank (omega arith)) e
      by_stage y Look o w e = here _ (post_there r 0 rank (omega arith)) e
      by_stage y Count o w e = here _ (front_there count_word (omega arith)) e
      by_stage y (Sweep owner) o w e = here _ (post_there owner 0 w.there (omega arith)) e
      by_stage y (Copy owner made) o w e = let few = w.1.few in here _ (post_there owner (1 + made) w.0.there (omega arith)) e
      by_stage y (Read owner word) o w e =
          let can : volume_base + word < length (front_of S words) =
          atom_can S.site (front_of S words) g.seats g.work owner
          (reading x.work (block.Read x.work.count word) w.1.at w.1.entries w.1.t) w.1.seat (atom.Load (volume_base + word))
          (λ n. 0) [] refl in
          here _ (front_there (volume_base + word) (let size = g.work.size in omega arith)) e
      by_stage y (Journal owner made) o w e =
          here _ (front_there (journal_base S.site.geom + (6 * x.work.count + made))
          (seat_word S node words laid sides g apart r x has owner (deciding x.work (block.Journal made) w.1.seen w.1.t) w.1.seat
          (journal_base S.site.geom + (6 * x.work.count + made)) (slice_index (spelling x.work.entry) made) refl)) e
      by_stage y (Volume owner made) o w e = write_there owner made (deciding x.work (block.Volume made) w.1.seen w.1.t) w.1.seat
          (slice_get x.work.writes made) refl at e
      by_stage y (Answer owner made) o w e = let few = w.1 in here _ (post_there owner (6 + made) w.0.there (omega arith)) e
      by_stage y (Mark owner) o w e = here _ (post_there owner 0 w.0.there (omega arith)) e
      by_stage y (Collect made) o w e = let few = o.1 in here _ (post_there r (6 + made) rank (omega arith)) e
      by_stage y Lower o w e = here _ (post_there r 0 rank (omega arith)) e

  write_front : (owner made : ℕ) (seat : Seat) → slice_get g.seats owner ≡ Some seat → (o : Option Write) →
      work_atom S.site.geom seat.work ≡ Some (write_atom (x.work.count + 1) o) → (a : Atom) →
      Some (write_atom (x.work.count + 1) o) ≡ Some a → IsFrontAtom (lock_base S.site) a
  write_front owner made seat there (Some w) planned a e =
      subst (IsFrontAtom (lock_base S.site)) (same_Some _ _ e) (seat_word S node words laid sides g apart r x has owner seat there
      (volume_base + w.word) w.value planned)
  write_front owner made seat there None planned a e =
      let low : count_word < lock_base S.site = omega arith in
      subst (IsFrontAtom (lock_base S.site)) (same_Some _ _ e) low

  -- an atom that is told as a touch is on a word before the lock's
  pub fronts : (at : Atom) → combine_stage_atom S r x.work x.work.stage ≡ Some at → combine_touch_at x.work.stage ≢ None → IsFrontAtom (lock_base S.site) at
  fronts at planned told =
      let s = seat_of S node words laid sides g r x has in
      by_stage s.0 x.work.stage (g.own r x s.0 has s.1) (g.sweeps r x has) planned told
    where
      loads : (word : ℕ) → word < lock_base S.site → Some (atom.Load word) ≡ Some at → IsFrontAtom (lock_base S.site) at
      loads word low e = subst (IsFrontAtom (lock_base S.site)) (same_Some _ _ e) low

      stores : (word value : ℕ) → word < lock_base S.site → Some (atom.Store word value) ≡ Some at → IsFrontAtom (lock_base S.site) at
      stores word value low e = subst (IsFrontAtom (lock_base S.site)) (same_Some _ _ e) low

      by_stage : (y : Seat) (st : CombineStage) → OwnAt S (post_of S words r) r x y st → SweepAt S words g.seats r x.work st →
          combine_stage_atom S r x.work st ≡ Some at → combine_touch_at st ≢ None → IsFrontAtom (lock_base S.site) at
      by_stage y Rest o w e told = absurd (told refl)
      by_stage y (Post made) o w e told = absurd (told refl)
      by_stage y Raise o w e told = absurd (told refl)
      by_stage y Look o w e told = absurd (told refl)
      by_stage y Count o w e told = loads count_word (omega arith) e
      by_stage y (Sweep owner) o w e told = absurd (told refl)
      by_stage y (Copy owner made) o w e told = absurd (told refl)
      by_stage y (Read owner word) o w e told =
          let can : volume_base + word < length (front_of S words) =
          atom_can S.site (front_of S words) g.seats g.work owner
          (reading x.work (block.Read x.work.count word) w.1.at w.1.entries w.1.t) w.1.seat (atom.Load (volume_base + word))
          (λ n. 0) [] refl in
          loads (volume_base + word) (let size = g.work.size in omega arith) e
      by_stage y (Journal owner made) o w e told =
          stores _ _ (seat_word S node words laid sides g apart r x has owner (deciding x.work (block.Journal made) w.1.seen w.1.t) w.1.seat
          (journal_base S.site.geom + (6 * x.work.count + made)) (slice_index (spelling x.work.entry) made) refl) e
      by_stage y (Volume owner made) o w e told = write_front owner made (deciding x.work (block.Volume made) w.1.seen w.1.t) w.1.seat
          (slice_get x.work.writes made) refl at e
      by_stage y (Answer owner made) o w e told = absurd (told refl)
      by_stage y (Mark owner) o w e told = absurd (told refl)
      by_stage y (Collect made) o w e told = absurd (told refl)
      by_stage y Lower o w e told = absurd (told refl)
