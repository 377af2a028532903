-- What the causes of answers come to, by the atom and what it found alone.
use Rattle.std.specs.Prelude.{◌≡◌, ◌≢◌, ℕ, ◌+◌, slice_index, Some}
use Rattle.std.proofs.Common.{sym, subst, ⊎_elim}
use Rattle.rl_word.specs.declared.acts.Act.{Act}
use Rattle.rl_word.specs.declared.acts.Act.TheVariants as act
use Rattle.rl_word.specs.declared.acts.Atom.{Atom}
use Rattle.rl_word.specs.declared.acts.Atom.TheVariants as atom
use Rattle.rl_word.specs.Acts.{word_of}
use Rattle.rl_step.specs.declared.events.Stepped.{Stepped}
use Rattle.rl_step.specs.declared.events.Stepped.TheVariants.{Moved, Waiting, Lost, Busy, Finished}
use Rattle.rl_step.specs.Do.{TheWindow, do_got}
use Rattle.rl_work.specs.Ways.{IsLoadAtom}
use Rattle.rl_core.specs.Answering.{LosesAt, AnswersTo}
use Rattle.rl_rank.specs.Running.{LockAt}
use Rattle.rl_rank.specs.declared.whole.WholeView.{WholeView}
use Rattle.rl_rank.specs.Causes.{Compares, Cause}

-- an act that compares is lost there
act_loses : (h : TheWindow) (base guess seen : ℕ) (a : Act) (at : Atom) → Compares base a at guess →
    slice_index h.words (base + word_of a) ≡ seen → seen ≢ guess → LosesAt h at guess seen
act_loses h base guess seen (act.Load w) at c found other = absurd c
act_loses h base guess seen (act.Store w v) at c found other = absurd c
act_loses h base guess seen (act.LocalCas w old new) at c found other = subst (λ z. LosesAt h z guess seen) (sym c.0) (found, other, c.1)
act_loses h base guess seen (act.CardCas w old new) at c found other = subst (λ z. LosesAt h z guess seen) (sym c.0) (found, other)
act_loses h base guess seen (act.CardSwap w v) at c found other = absurd c
act_loses h base guess seen (act.CardAdd w d) at c found other = absurd c

-- and so is a load
load_loses : (h : TheWindow) (guess seen : ℕ) (at : Atom) → IsLoadAtom at → do_got at h.words h.cards ≡ seen → seen ≢ guess → LosesAt h at guess seen
load_loses h guess seen (atom.Load w) loads found other = (found, other)
load_loses h guess seen (atom.Store w v) loads found other = absurd loads
load_loses h guess seen (atom.LocalCas w old new) loads found other = absurd loads
load_loses h guess seen (atom.Take n) loads found other = absurd loads
load_loses h guess seen (atom.CardLoad w) loads found other = absurd loads
load_loses h guess seen (atom.CardStore w v) loads found other = absurd loads
load_loses h guess seen (atom.Leave n) loads found other = absurd loads

-- so each cause gives what its answer says
pub cause_answers : {V K : Type 0} (L : LockAt V K) (h : TheWindow) (x : WholeView V K) (at : Atom) (answer : Stepped) →
    Cause L h x (Some at) answer → AnswersTo h at answer
cause_answers L h x at Moved c = tt
cause_answers L h x at (Waiting word value) c = ⊎_elim (λ w. (w.made, sym w.tells)) (λ w. (w.made, sym w.tells)) c
cause_answers L h x at (Lost guess seen) c = ⊎_elim (λ l. act_loses h L.base guess seen l.act at l.compares l.found l.other)
    (λ l. load_loses h guess seen at l.loads l.found l.other) c
cause_answers L h x at (Busy node holder) c = c
cause_answers L h x at Finished c = absurd c
