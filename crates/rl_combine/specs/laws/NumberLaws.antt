-- Where some good state has a side, its numbers fit.
use Rattle.std.specs.Prelude.{◌≡◌, ℕ, ◌+◌, ◌^◌, ◌<◌, List, [], ◌∷◌, length, slice_get, slice_index, Some, refl}
use Rattle.std.proofs.Common.{sym, ◌∙◌, ap, subst, arith}
use Rattle.std.proofs.lemmas.List.{length-take-le}
use Rattle.std.proofs.lemmas.Option.{same_Some}
use Rattle.rl_word.specs.laws.Places.{some_at}
use Rattle.rl_word.specs.declared.acts.Atom.{Atom}
use Rattle.rl_word.specs.declared.acts.Atom.TheVariants as atom
use Rattle.rl_step.specs.Do.{do_got}
use Rattle.rl_volume.specs.Words.{volume_words}
use Rattle.rl_work.specs.declared.stage.Stage.TheVariants as block
use Rattle.rl_site.specs.Site.{count_word, lock_base, WaySite}
use Rattle.rl_work.specs.Ways.{IsLaid, MayWork, MayTurn}
use Rattle.rl_work.specs.Work.{CanName as SeatCanName, CanTurn as SeatCanTurn}
use Rattle.rl_work.specs.WorkGood.{WorkSide as Seat}
use Rattle.rl_work.specs.laws.AtomLaws.{can_name, can_turn}
use Rattle.rl_work.specs.laws.RoomLaws.{journal_short}
use Rattle.rl_combine.specs.declared.stage.CombineStage.{CombineStage}
use Rattle.rl_combine.specs.declared.stage.CombineStage.TheVariants.{Rest, Post, Raise, Look, Count, Sweep, Copy, Read, Journal, Volume, Answer, Mark, Collect, Lower}
use Rattle.rl_combine.specs.Posts.{combine_ranks, post_of}
use Rattle.rl_combine.specs.Combine.{TheCombineSide, opened_of, combine_table, combine_stage_atom}
use Rattle.rl_combine.specs.CombineGood.{RankSide, front_of, IsPosted, OwnAt, SweepAt, CombineGood, reading, deciding}
use Rattle.rl_combine.specs.Numbers.{HasPost, CanName, CanTurn}
use Rattle.rl_combine.specs.laws.PostLaws.{front_get, call_word}
use Rattle.rl_combine.specs.laws.SideLaws.{posted_at}
use Rattle.rl_combine.specs.laws.MoveLaws.{seat_of, is_rank}

-- the number of a posted call, at its place
last_word : (p : List ℕ) (kind key first second seq made : ℕ) → p ≡ kind ∷ key ∷ first ∷ second ∷ seq ∷ [] → made + 1 ≡ 5 → slice_index p made ≡ seq
last_word p kind key first second seq made same four =
    let e : made ≡ 4 = omega arith in
    ap (slice_index p) e ∙ ap (λ l. slice_index l 4) same

module _ (S : WaySite) (node : ℕ → ℕ) (words : List ℕ) (laid : IsLaid (combine_table S node) words) (sides : List RankSide)
    (g : CombineGood S words sides) (r : ℕ) (x : RankSide) (has : slice_get sides r ≡ Some x) where
  base_fits : lock_base S.site < 2 ^ 32
  base_fits = let low = laid.low in let fits = laid.fits in omega arith

  count_fits : slice_index words count_word < 2 ^ 32
  count_fits =
      let found : slice_index (front_of S words) count_word ≡ length g.work.journal = g.work.count in
      let same = front_get S words count_word (omega arith) in
      let short = journal_short S.site (front_of S words) g.seats g.work in
      let low = laid.low in
      let fits = laid.fits in
      omega arith

  post_fits : (k : ℕ) → k < combine_ranks S → HasPost S k
  post_fits k there = (there, laid.fits)

  -- what the seat of the call in hand may do
  seat_names : (owner : ℕ) (y : Seat) → slice_get g.seats owner ≡ Some y → SeatCanName S.site.geom y.work y.work.stage
  seat_names owner y there = can_name S.site (front_of S words) g.seats g.work owner y there base_fits

  names_at : (y : Seat) (st : CombineStage) → OwnAt S (post_of S words r) r x y st → SweepAt S words g.seats r x.work st → CanName S r x.work st
  names_at y Rest o w = tt
  names_at y (Post made) o w = (post_fits r (is_rank S node words laid sides g r x has), o.1)
  names_at y Raise o w = post_fits r (is_rank S node words laid sides g r x has)
  names_at y Look o w = post_fits r (is_rank S node words laid sides g r x has)
  names_at y Count o w = tt
  names_at y (Sweep owner) o w = post_fits owner w.there
  names_at y (Copy owner made) o w = (post_fits owner w.0.there, w.1.few)
  names_at y (Read owner word) o w =
      let low : word < volume_words S.site.geom = seat_names owner (reading x.work (block.Read x.work.count word) w.1.at w.1.entries w.1.t) w.1.seat in
      let fits = g.work.geom_fits in
      omega arith
  names_at y (Journal owner made) o w = seat_names owner (deciding x.work (block.Journal made) w.1.seen w.1.t) w.1.seat
  names_at y (Volume owner made) o w = seat_names owner (deciding x.work (block.Volume made) w.1.seen w.1.t) w.1.seat
  names_at y (Answer owner made) o w = (post_fits owner w.0.there, w.1)
  names_at y (Mark owner) o w = post_fits owner w.0.there
  names_at y (Collect made) o w = (post_fits r (is_rank S node words laid sides g r x has), o.1)
  names_at y Lower o w = post_fits r (is_rank S node words laid sides g r x has)

  names : CanName S r x.work x.work.stage
  names = let s = seat_of S node words laid sides g r x has in names_at s.0 x.work.stage (g.own r x s.0 has s.1) (g.sweeps r x has)

  -- the number of a posted call whose flag is 1
  number_fits : (owner made : ℕ) → owner < combine_ranks S → (post_of S words owner).flag ≡ 1 → made + 1 ≡ 5 →
      slice_index (post_of S words owner).call made < 2 ^ 32
  number_fits owner made there one last =
      let z = some_at sides owner (let ranks = g.ranks in omega arith) in
      let s = seat_of S node words laid sides g owner z.0 z.1 in
      let is : IsPosted S (post_of S words owner) owner (opened_of z.0.work) s.0 =
      posted_at S (post_of S words owner) owner z.0 s.0 z.0.work.stage (g.own owner z.0 s.0 z.1 s.1) one in
      let seq : slice_index (post_of S words owner).call made ≡ z.0.work.seq =
      last_word (post_of S words owner).call _ _ _ _ z.0.work.seq made is.spelled last in
      let small = is.open_call.small in
      omega arith

  turns_at : (y : Seat) (st : CombineStage) → OwnAt S (post_of S words r) r x y st → SweepAt S words g.seats r x.work st →
      (at : Atom) (cards : List ℕ) → combine_stage_atom S r x.work st ≡ Some at → CanTurn S r x.work (do_got at words cards) st
  turns_at y Rest o w at cards p = tt
  turns_at y (Post made) o w at cards p = o.1
  turns_at y Raise o w at cards p = tt
  turns_at y Look o w at cards p = tt
  turns_at y Count o w at cards p = subst (λ a. do_got a words cards < 2 ^ 32) (same_Some _ _ p) count_fits
  turns_at y (Sweep owner) o w at cards p = w.there
  turns_at y (Copy owner made) o w at cards p = (
    w.1.few,
    (let few = w.1.few in ap length w.1.same ∙ length-take-le made (post_of S words owner).call (omega arith)),
    λ last. subst (λ a. do_got a words cards < 2 ^ 32) (same_Some _ _ p)
        (subst (λ n. n < 2 ^ 32) (sym (call_word S words owner made w.1.few)) (number_fits owner made w.0.there w.1.flag last)),
  )
  turns_at y (Read owner word) o w at cards p =
      let c : SeatCanTurn S.site.geom (reading x.work (block.Read x.work.count word) w.1.at w.1.entries w.1.t).work
      (do_got (atom.Load (2 + word)) (front_of S words) cards) (block.Read x.work.count word) =
      can_turn S.site (front_of S words) g.seats g.work owner (reading x.work (block.Read x.work.count word) w.1.at w.1.entries w.1.t)
      w.1.seat base_fits (atom.Load (2 + word)) cards refl in
      (c.0, c.1)
  turns_at y (Journal owner made) o w at cards p = (seat_names owner (deciding x.work (block.Journal made) w.1.seen w.1.t) w.1.seat).0
  turns_at y (Volume owner made) o w at cards p =
      let c : SeatCanName S.site.geom (deciding x.work (block.Volume made) w.1.seen w.1.t).work (block.Volume made) =
      seat_names owner (deciding x.work (block.Volume made) w.1.seen w.1.t) w.1.seat in
      (c.0, c.2)
  turns_at y (Answer owner made) o w at cards p = w.1
  turns_at y (Mark owner) o w at cards p = w.0.there
  turns_at y (Collect made) o w at cards p = (o.1, (let few = o.1 in ap length o.2.same ∙ length-take-le made (post_of S words r).answer (omega arith)))
  turns_at y Lower o w at cards p = (
    ap length o.1.same,
    subst (λ l. slice_index l 0 < 2 ^ 32) (sym o.1.same) o.1.done.small,
    (let room = o.1.open_call.room in omega arith),
  )

  pub turns : (at : Atom) (cards : List ℕ) → combine_stage_atom S r x.work x.work.stage ≡ Some at → CanTurn S r x.work (do_got at words cards) x.work.stage
  turns at cards planned = let s = seat_of S node words laid sides g r x has in
      turns_at s.0 x.work.stage (g.own r x s.0 has s.1) (g.sweeps r x has) at cards planned

pub may_name : (S : WaySite) (node : ℕ → ℕ) (r : ℕ) (x : TheCombineSide) → MayWork (combine_table S node) (CombineGood S) r x → CanName S r x x.stage
may_name S node r x m = let s = m.side in names S node m.words s.laid m.sides s.is_good r (record { standing = m.standing; work = x }) s.there

pub may_turn : (S : WaySite) (node : ℕ → ℕ) (r : ℕ) (x : TheCombineSide) (got : ℕ) →
    MayTurn (combine_table S node) (CombineGood S) r x got → CanTurn S r x got x.stage
may_turn S node r x got m =
    let w = m.works in
    subst (λ n. CanTurn S r x n x.stage) (sym m.gives) (turns S node m.words w.side.laid m.sides w.side.is_good r
    (record { standing = m.standing; work = x }) w.side.there m.at m.cards w.planned)
