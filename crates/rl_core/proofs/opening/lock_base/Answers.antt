use Rattle.std.proofs.Common.{◌≤◌, sum, subst, sym}
use Rattle.rl_model.specs.Geom.{GeomFits}
use Rattle.rl_core.proofs.opening.lock_base.Goals as goal

pub journal_end-requires-clause-fits : goal.journal_end-requires-clause-fits
journal_end-requires-clause-fits g c = subst GeomFits (sym c.geom.ensures) c.requires.fits

pub journal_end-requires-clause-few : goal.journal_end-requires-clause-few
journal_end-requires-clause-few g c = subst (λ l. sum l ≤ 20000) (sym c.rooms.ensures) c.requires.few

pub returns : goal.returns
returns g c = c.journal_end.ensures ((g.C.ShardCore.says c.args.core.now).table).site (sym c.geom.ensures) (sym c.rooms.ensures)
