-- What is left to do of the blocks under their lock: of each rank by its stage, and while it reads by the words that it hasn't seen.
use Rattle.std.specs.Prelude.{ℕ, zero, suc, ◌+◌, ◌*◌, ◌-◌, List, length, sum_by, Option, Some, None}
use Rattle.rl_volume.specs.Seen.{value_of}
use Rattle.rl_volume.specs.Words.{volume_words}
use Rattle.rl_work.specs.declared.stage.Stage.{Stage}
use Rattle.rl_work.specs.declared.stage.Stage.TheVariants.{Rest, Begin, Read, Journal, Volume}
use Rattle.rl_site.specs.Site.{Site}
use Rattle.rl_work.specs.Work.{TheWork}

abbrev pub one_unless : Option ℕ → ℕ
one_unless None = 1
one_unless (Some v) = 0

-- how many of the first words have no value among these
abbrev pub words_unseen : ℕ → List (ℕ × ℕ) → ℕ
words_unseen zero pairs = 0
words_unseen (suc n) pairs = one_unless (value_of pairs n) + words_unseen n pairs

-- how many atoms a rank has before it at most: a call makes 5 writes at most, and an entry has 6 words
abbrev pub far_at : ℕ → TheWork → Stage → ℕ
far_at volume x Rest = 0
far_at volume x Begin = volume + 11 * length x.calls + 5
far_at volume x (Read count word) = words_unseen volume x.seen.pairs + length x.writes + 5 * (length x.calls - length x.replies) + 6 * length x.calls + 4
far_at volume x (Journal made) = 6 * length x.entries - made + length x.writes + 2
far_at volume x (Volume made) = length x.writes - made + 1

abbrev pub far : ℕ → TheWork → ℕ
far volume x = far_at volume x x.stage

abbrev pub locked_left : Site → List ℕ → List TheWork → ℕ
locked_left site words works = sum_by (far (volume_words site.geom)) works

-- a block has 8 calls at most
abbrev pub locked_most : Site → ℕ
locked_most site = volume_words site.geom + 93
