-- What a rank's own part of the rule says, whatever its stage is.
use Rattle.std.specs.Prelude.{◌≡◌, ℕ, List, Some}
use Rattle.std.proofs.Common.{arith}
use Rattle.rl_step.specs.declared.events.Standing.TheVariants.{Out, Writer}
use Rattle.rl_work.specs.WorkGood.{WorkSide as Seat}
use Rattle.rl_combine.specs.declared.stage.CombineStage.{CombineStage}
use Rattle.rl_combine.specs.declared.stage.CombineStage.TheVariants.{Rest, Post, Raise, Look, Count, Sweep, Copy, Read, Journal, Volume, Answer, Mark, Collect, Lower}
use Rattle.rl_combine.specs.Posts.{ThePost}
use Rattle.rl_site.specs.Site.{WaySite}
use Rattle.rl_combine.specs.Combine.{opened_of, in_hand}
use Rattle.rl_combine.specs.CombineGood.{RankSide, Progress, waits, handled, counted, answered, IsPosted, OwnAt, SweepAt}

module _ (S : WaySite) (p : ThePost) (k : ℕ) (z : RankSide) (y : Seat) where
  -- where the flag is 1 the call is posted
  pub posted_at : (st : CombineStage) → OwnAt S p k z y st → p.flag ≡ 1 → IsPosted S p k (opened_of z.work) y
  posted_at Rest o e = let f = o.1 in absurd (omega arith)
  posted_at (Post made) o e = let f = o.2.flag in absurd (omega arith)
  posted_at Raise o e = let f = o.1.flag in absurd (omega arith)
  posted_at Look o e = o.1
  posted_at Count o e = o.1
  posted_at (Sweep owner) o e = o.1
  posted_at (Copy owner made) o e = o.1
  posted_at (Read owner word) o e = o.1
  posted_at (Journal owner made) o e = o.1
  posted_at (Volume owner made) o e = o.1
  posted_at (Answer owner made) o e = o.1
  posted_at (Mark owner) o e = o.1
  posted_at (Collect made) o e = let f = o.2.done.flag in absurd (omega arith)
  posted_at Lower o e = let f = o.1.done.flag in absurd (omega arith)

  -- and stays so whatever becomes of post and seat
  pub posted_on : (st : CombineStage) → OwnAt S p k z y st → p.flag ≡ 1 → (q : ThePost) (u : Seat) → IsPosted S q k (opened_of z.work) u → OwnAt S q k z u st
  posted_on Rest o e q u is = let f = o.1 in absurd (omega arith)
  posted_on (Post made) o e q u is = let f = o.2.flag in absurd (omega arith)
  posted_on Raise o e q u is = let f = o.1.flag in absurd (omega arith)
  posted_on Look o e q u is = (o.0, is)
  posted_on Count o e q u is = (o.0, is)
  posted_on (Sweep owner) o e q u is = (o.0, is)
  posted_on (Copy owner made) o e q u is = (o.0, is)
  posted_on (Read owner word) o e q u is = (o.0, is)
  posted_on (Journal owner made) o e q u is = (o.0, is)
  posted_on (Volume owner made) o e q u is = (o.0, is)
  posted_on (Answer owner made) o e q u is = (o.0, is)
  posted_on (Mark owner) o e q u is = (o.0, is)
  posted_on (Collect made) o e q u is = let f = o.2.done.flag in absurd (omega arith)
  posted_on Lower o e q u is = let f = o.1.done.flag in absurd (omega arith)

  -- who has a call in hand is a writer
  pub hand_writes : (st : CombineStage) → OwnAt S p k z y st → (j : ℕ) → in_hand st ≡ Some j → z.standing ≡ Writer
  hand_writes Rest o j e = absurd (cc)
  hand_writes (Post made) o j e = absurd (cc)
  hand_writes Raise o j e = absurd (cc)
  hand_writes Look o j e = absurd (cc)
  hand_writes Count o j e = absurd (cc)
  hand_writes (Sweep owner) o j e = absurd (cc)
  hand_writes (Copy owner made) o j e = absurd (cc)
  hand_writes (Read owner word) o j e = o.0
  hand_writes (Journal owner made) o j e = o.0
  hand_writes (Volume owner made) o j e = o.0
  hand_writes (Answer owner made) o j e = o.0
  hand_writes (Mark owner) o j e = o.0
  hand_writes (Collect made) o j e = absurd (cc)
  hand_writes Lower o j e = absurd (cc)

  -- and nothing is said of the sweep of any other
  pub sweep_any : (st : CombineStage) → OwnAt S p k z y st → (z.standing ≡ Writer → ⊥) → (vs : List ℕ) (seats : List Seat) → SweepAt S vs seats k z.work st
  sweep_any Rest o isnt vs seats = tt
  sweep_any (Post made) o isnt vs seats = tt
  sweep_any Raise o isnt vs seats = tt
  sweep_any Look o isnt vs seats = tt
  sweep_any Count o isnt vs seats = tt
  sweep_any (Sweep owner) o isnt vs seats = absurd (isnt o.0)
  sweep_any (Copy owner made) o isnt vs seats = absurd (isnt o.0)
  sweep_any (Read owner word) o isnt vs seats = absurd (isnt o.0)
  sweep_any (Journal owner made) o isnt vs seats = absurd (isnt o.0)
  sweep_any (Volume owner made) o isnt vs seats = absurd (isnt o.0)
  sweep_any (Answer owner made) o isnt vs seats = absurd (isnt o.0)
  sweep_any (Mark owner) o isnt vs seats = absurd (isnt o.0)
  sweep_any (Collect made) o isnt vs seats = tt
  sweep_any Lower o isnt vs seats = tt

  -- a seat that isn't out is one whose flag is 1
  flag_by : Progress S p k (opened_of z.work) y → (y.standing ≡ Out → ⊥) → p.flag ≡ 1
  flag_by (waits w) isnt = w.flag
  flag_by (handled h) isnt = h.flag
  flag_by (counted c) isnt = c.flag
  flag_by (answered a) isnt = absurd (isnt a.free.out)

  pub flag_at : (st : CombineStage) → OwnAt S p k z y st → (y.standing ≡ Out → ⊥) → p.flag ≡ 1
  flag_at Rest o isnt = absurd (isnt o.2.out)
  flag_at (Post made) o isnt = absurd (isnt o.2.free.out)
  flag_at Raise o isnt = absurd (isnt o.1.free.out)
  flag_at Look o isnt = flag_by o.1.progress isnt
  flag_at Count o isnt = flag_by o.1.progress isnt
  flag_at (Sweep owner) o isnt = flag_by o.1.progress isnt
  flag_at (Copy owner made) o isnt = flag_by o.1.progress isnt
  flag_at (Read owner word) o isnt = flag_by o.1.progress isnt
  flag_at (Journal owner made) o isnt = flag_by o.1.progress isnt
  flag_at (Volume owner made) o isnt = flag_by o.1.progress isnt
  flag_at (Answer owner made) o isnt = flag_by o.1.progress isnt
  flag_at (Mark owner) o isnt = flag_by o.1.progress isnt
  flag_at (Collect made) o isnt = absurd (isnt o.2.done.free.out)
  flag_at Lower o isnt = absurd (isnt o.1.done.free.out)
