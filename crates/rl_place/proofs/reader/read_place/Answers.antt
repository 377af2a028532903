use Rattle.rl_place.proofs.PlaceLaws.{is_found, is_only}
use Rattle.rl_place.proofs.reader.read_place.Goals as goal

pub returns-clause-found : goal.returns-clause-found
returns-clause-found c = is_found c.args.bytes.now c.place_of.result c.place_of.ensures

pub returns-clause-only : goal.returns-clause-only
returns-clause-only c = λ place proper e. is_only c.args.bytes.now c.place_of.result place c.place_of.ensures proper e
