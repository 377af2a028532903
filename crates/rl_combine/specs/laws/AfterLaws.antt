-- What an atom leaves, whatever the words are: what follows it, and the open call.
use Rattle.std.specs.Prelude.{◌≡◌, ℕ, ◌+◌, ◌==◌, Bool, true, false, cond, slice_get, Option, Some, None, refl}
use Rattle.rl_model.specs.Call.{is_update}
use Rattle.rl_step.specs.declared.events.Stepped.TheVariants.{Moved}
use Rattle.rl_volume.specs.declared.write.Write.{Write}
use Rattle.rl_volume.specs.Seen.{next_word}
use Rattle.rl_work.specs.declared.follow.Follow.TheVariants.{On}
use Rattle.rl_work.specs.Ways.{Worked}
use Rattle.rl_combine.specs.declared.stage.CombineStage.{CombineStage}
use Rattle.rl_combine.specs.declared.stage.CombineStage.TheVariants.{Rest, Post, Raise, Look, Count, Sweep, Copy, Read, Journal, Volume, Answer, Mark, Collect, Lower}
use Rattle.rl_combine.specs.Posts.{combine_ranks}
use Rattle.rl_site.specs.Site.{WaySite}
use Rattle.rl_combine.specs.Combine.{TheCombineSide, opened_of, combine_is_open, combine_stage_after, combine_to_stage, to_collect, sweep_on, with_nothing, with_copied, with_posted, combine_with_word, combine_read_next, combine_read_on, combine_written_on}
use Rattle.rl_combine.specs.laws.Cases.{decided_stage}

-- the call goes on, with what is kept
pub record StaysOpen (x : TheCombineSide) (t : Worked TheCombineSide) : Type 0 where
  pub same : opened_of t.work ≡ opened_of x
  pub open_still : combine_is_open t.work.stage ≡ true
  pub moved : t.stepped ≡ Moved

pub record GoesOnOpen (x : TheCombineSide) (t : Worked TheCombineSide) : Type 0 where
  pub stays : StaysOpen x t
  pub on : t.follow ≡ On

on_stage : (x y : TheCombineSide) (st : CombineStage) → opened_of y ≡ opened_of x → combine_is_open st ≡ true → GoesOnOpen x (combine_to_stage y st)
on_stage x y st same is = record { stays = record { same = same; open_still = is; moved = refl }; on = refl }

-- by a test
on_test : (x : TheCombineSide) (b : Bool) (s t : Worked TheCombineSide) → GoesOnOpen x s → GoesOnOpen x t → GoesOnOpen x (cond b s t)
on_test x true s t a c = a
on_test x false s t a c = c

on_sweep : (S : WaySite) (x y : TheCombineSide) (owner : ℕ) → opened_of y ≡ opened_of x → GoesOnOpen x (sweep_on S y owner)
on_sweep S x y owner same = on_test x (owner == combine_ranks S) (to_collect y) (combine_to_stage y (Sweep owner))
    (on_stage x (with_nothing y) (Collect 0) same refl) (on_stage x y (Sweep owner) same refl)

on_read : (S : WaySite) (x y : TheCombineSide) (owner : ℕ) → opened_of y ≡ opened_of x → GoesOnOpen x (combine_read_on S y owner)
on_read S x y owner same = by_next (next_word S.site.geom y.posted y.seen.pairs) where
  by_kind : (b : Bool) → combine_is_open (decided_stage owner b) ≡ true
  by_kind true = refl
  by_kind false = refl

  by_next : (o : Option ℕ) → GoesOnOpen x (combine_read_next S y owner o)
  by_next (Some word) = on_stage x y (Read owner word) same refl
  by_next None = record { stays = record { same = same; open_still = by_kind (is_update y.posted); moved = refl }; on = refl }

on_write : (x : TheCombineSide) (owner made : ℕ) (o : Option Write) → GoesOnOpen x (combine_written_on x owner made o)
on_write x owner made (Some w) = on_stage x x (Volume owner (made + 1)) refl refl
on_write x owner made None = on_stage x (record x { count = x.count + 1 }) (Answer owner 0) refl refl

-- what happens to a rank's open call and its kept entries with an atom: they stay, unless the flag is lowered
pub data Happens (S : WaySite) (r : ℕ) (x : TheCombineSide) (got : ℕ) (st : CombineStage) : Type 0 where
  goes : GoesOnOpen x (combine_stage_after S r x got st) → Happens S r x got st
  asks : st ≡ Raise → Happens S r x got st
  ends : st ≡ Lower → Happens S r x got st
  rests : st ≡ Rest → Happens S r x got st

pub happens : (S : WaySite) (r : ℕ) (x : TheCombineSide) (got : ℕ) (st : CombineStage) → Happens S r x got st
happens S r x got Rest = rests refl
happens S r x got (Post made) =
    goes (on_test x (made + 1 == 5) (combine_to_stage x Raise) (combine_to_stage x (Post (made + 1))) (on_stage x x Raise refl refl)
    (on_stage x x (Post (made + 1)) refl refl))
happens S r x got Raise = asks refl
happens S r x got Look = goes (on_test x (got == 2) (to_collect x) (combine_to_stage x Count) (on_stage x (with_nothing x) (Collect 0) refl refl) (on_stage x x Count refl refl))
happens S r x got Count = goes (on_sweep S x (record x { count = got }) 0 refl)
happens S r x got (Sweep owner) =
    goes (on_test x (got == 1) (combine_to_stage (with_nothing x) (Copy owner 0)) (sweep_on S x (owner + 1))
    (on_stage x (with_nothing x) (Copy owner 0) refl refl) (on_sweep S x x (owner + 1) refl))
happens S r x got (Copy owner made) =
    goes (on_test x (made + 1 == 5) (combine_read_on S (with_posted S (with_copied x got)) owner) (combine_to_stage (with_copied x got) (Copy owner (made + 1)))
    (on_read S x (with_posted S (with_copied x got)) owner refl) (on_stage x (with_copied x got) (Copy owner (made + 1)) refl refl))
happens S r x got (Read owner word) = goes (on_read S x (combine_with_word x word got) owner refl)
happens S r x got (Journal owner made) =
    goes (on_test x (made + 1 == 6) (combine_to_stage x (Volume owner 0)) (combine_to_stage x (Journal owner (made + 1)))
    (on_stage x x (Volume owner 0) refl refl) (on_stage x x (Journal owner (made + 1)) refl refl))
happens S r x got (Volume owner made) = goes (on_write x owner made (slice_get x.writes made))
happens S r x got (Answer owner made) =
    goes (on_test x (made + 1 == 3) (combine_to_stage x (Mark owner)) (combine_to_stage x (Answer owner (made + 1)))
    (on_stage x x (Mark owner) refl refl) (on_stage x x (Answer owner (made + 1)) refl refl))
happens S r x got (Mark owner) = goes (on_sweep S x x (owner + 1) refl)
happens S r x got (Collect made) =
    goes (on_test x (made + 1 == 3) (combine_to_stage (with_copied x got) Lower) (combine_to_stage (with_copied x got) (Collect (made + 1)))
    (on_stage x (with_copied x got) Lower refl refl) (on_stage x (with_copied x got) (Collect (made + 1)) refl refl))
happens S r x got Lower = ends refl
