-- Which atoms a rank's next one may be: those of cards only where the rank may make acts through cards.
use Rattle.std.specs.Prelude.{◌≡◌, List, Some}
use Rattle.rl_word.specs.declared.acts.Atom.{Atom}
use Rattle.rl_step.specs.Core.{MayBe}
use Rattle.rl_step.specs.Do.{TheWindow}
use Rattle.rl_word.specs.Acts.{Layout}
use Rattle.rl_rank.specs.Running.{LockAt, Tables, Rules, lock_at}
use Rattle.rl_rank.specs.declared.whole.Whole.{Whole}
use Rattle.rl_core.specs.Domains.{IsCardAtom, IsLocalAtom, UsesCards, UsesLocals}
use Rattle.rl_rank.specs.declared.whole.WholeView.{WholeView}
use Rattle.rl_rank.specs.Whole.{next_of, rule_of}

-- in every state under the rule a rank's next atom is one of a card only where it may make acts through cards, and a local
-- compare-and-swap only where it may make one
abbrev pub KeepsToCards : {V K : Type 0} → LockAt V K → (TheWindow → List (WholeView V K) → Type 0) → Type 0
KeepsToCards L rule = (x : _) (at : Atom) → MayBe rule x → next_of L x ≡ Some at → IsCardAtom at → UsesCards L.table.may_make x.rank

abbrev pub KeepsToLocals : {V K : Type 0} → LockAt V K → (TheWindow → List (WholeView V K) → Type 0) → Type 0
KeepsToLocals L rule = (x : _) (at : Atom) → MayBe rule x → next_of L x ≡ Some at → IsLocalAtom at → UsesLocals L.table.may_make x.rank

-- and so does the machine of a core
module _ {A W V K : Type 0} (table : Tables A W V K) (good : Rules A W V K) (layout : A → Layout) (core : Whole A W V K) where
  abbrev pub CoreKeepsToCards : Type 0
  CoreKeepsToCards = KeepsToCards (lock_at table core) (rule_of table good layout core)

  abbrev pub CoreKeepsToLocals : Type 0
  CoreKeepsToLocals = KeepsToLocals (lock_at table core) (rule_of table good layout core)
