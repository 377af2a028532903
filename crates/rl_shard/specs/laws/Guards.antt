-- Who comes to count, volume and journal, the words before the lock's, on a shard that threads share.
use Rattle.std.specs.Prelude.{ℕ, List}
use Rattle.std.proofs.Common.{inl, inr, ⊎_elim}
use Rattle.rl_word.specs.declared.acts.Atom.{Atom}
use Rattle.rl_word.specs.declared.acts.Atom.TheVariants as atom
use Rattle.rl_model.specs.declared.call.Call.{Call}
use Rattle.rl_step.specs.declared.events.Event.{Event}
use Rattle.rl_step.specs.declared.events.Standing.{Standing}
use Rattle.rl_core.specs.Touches.{IsGuarded}
use Rattle.rl_shard.specs.Guards.{NamesAs}

-- so does a rank whose atom is guarded
pub guarded_names : (base r : ℕ) (at : Atom) (st : Standing) (calls : List Call) (es : List Event) → IsGuarded base r at st calls es → NamesAs base at st calls
guarded_names base r (atom.Load w) st calls es g = λ under. ⊎_elim (λ q. inl q.0) (λ q. inr (q.0, q.1)) (g.0 under)
guarded_names base r (atom.Store w n) st calls es g = λ under. (g.0 under).0
guarded_names base r (atom.LocalCas w old new) st calls es g = g.0
guarded_names base r (atom.Take n) st calls es g = tt
guarded_names base r (atom.CardLoad w) st calls es g = g.0
guarded_names base r (atom.CardStore w n) st calls es g = g.0
guarded_names base r (atom.Leave n) st calls es g = tt
