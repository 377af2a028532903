use Rattle.rl_text.specs.Rows.{row_of}
use Rattle.rl_sketch.proofs.SightLaws.{needed-long}
use Rattle.rl_sketch.proofs.sight_reader.step_words.Goals as goal

pub behind_words-requires : goal.behind_words-requires
behind_words-requires c = needed-long (row_of c.args.line.now) c.args.n c.args.word.now c.requires.there
