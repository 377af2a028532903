-- What contracts see of the entries that a rank keeps.
use Rattle.std.specs.Prelude.{ℕ, List}
use Rattle.rl_model.specs.declared.entry.Entry.{Entry}

-- entries that were kept, and how many there is room for
pub record TheTranscript : Type 0 where
  pub items : List Entry
  pub room : ℕ
