-- The names of the causes, as they are printed.
use Rattle.std.specs.Prelude.{ℕ, List, codes}
use Rattle.rl_text.specs.declared.causes.Why.{Why}
use Rattle.rl_text.specs.declared.causes.Why.TheVariants.{Word, Number, Range, Repeat, Missing, Extra, Order, NoEnd, Version}

-- the small-letter name of a cause
abbrev pub why_name : Why → List ℕ
why_name Word = codes "word"
why_name Number = codes "number"
why_name Range = codes "range"
why_name Repeat = codes "repeat"
why_name Missing = codes "missing"
why_name Extra = codes "extra"
why_name Order = codes "order"
why_name NoEnd = codes "noend"
why_name Version = codes "version"
