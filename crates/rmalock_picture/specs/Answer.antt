-- What the program shows: a picture, whose bytes are left open.
use Rattle.std.specs.Prelude.{ℕ, List}
use Rattle.rl_inputs.specs.declared.replay.Replay.{Replay}
use Rattle.rl_viewer.specs.declared.asking.Window.{Window}

-- any bytes may be a picture
abbrev pub IsPicture : Replay → Window → List ℕ → Type 0
IsPicture replay window bytes = Unit {0}
