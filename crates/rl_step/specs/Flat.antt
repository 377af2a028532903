-- What a flat machine ends as, where a `&mut` to a view is returned; and what a port keeps.
use Rattle.std.specs.Prelude.{ℕ}
use Rattle.std.specs.Borrow.{Lends, Fml, RattleType, MutBor}
use Rattle.std.specs.Vec.{with_item}
use Rattle.rl_step.specs.declared.flat.Flat.{Flat}
use Rattle.rl_step.specs.contracts.flat.Flat.{the_row}

module _ (C V : RattleType) (f : MutBor (Flat C.Denot V.Denot)) where
  -- once the borrow ends, the rank's view is the last value written through it
  abbrev pub lends_view : ℕ → MutBor V.Denot → Fml
  lends_view rank w = Lends (the_row C V) V f w (λ z. record f.now { views = with_item f.now.views rank z })
