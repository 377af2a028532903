-- Each law of the rule, by its proof.
use Rattle.std.specs.Prelude.{◌≡◌, Option, Some, None, IsSome, refl}
use Rattle.rl_word.specs.declared.acts.Atom.{Atom}
use Rattle.rl_work.specs.Work.{work_atom}
use Rattle.rl_work.specs.laws.AtomLaws.{opening_good, open_keeps, shift_keeps, atom_keeps, atom_can, can_name, can_turn, few_loads, holder_works}
use Rattle.rl_work.specs.laws.RuleLaws.{always_legal, always_sorted}
use Rattle.rl_work.proofs.laws.work_laws.Goals as goal

pub returns-clause-opening : goal.returns-clause-opening
returns-clause-opening c = λ site sides fits ranks first. opening_good site fits sides ranks first

pub returns-clause-open : goal.returns-clause-open
returns-clause-open c = λ site words sides rank x is calls seq out new. open_keeps site words sides is.good rank x is.there calls seq out new

pub returns-clause-shift : goal.returns-clause-shift
returns-clause-shift c = λ site words sides rank x is standing events shift. shift_keeps site words sides is.good rank x is.there standing events shift

pub returns-clause-atom : goal.returns-clause-atom
returns-clause-atom c = λ site words sides rank x is apart holds at cards planned. atom_keeps site words sides is.good rank x is.there apart holds at cards planned

some_or : (o : Option Atom) → ((o ≡ None) → ⊥) → IsSome o
some_or None never = absurd (never refl)
some_or (Some at) never = refl

pub returns-clause-goes_on : goal.returns-clause-goes_on
returns-clause-goes_on c = λ site words sides rank x is holds. some_or (work_atom site.geom x.work) (holder_works site words sides is.good rank x is.there holds)

pub returns-clause-can : goal.returns-clause-can
returns-clause-can c = λ site words sides rank x is at home cards planned. atom_can site words sides is.good rank x is.there at home cards planned

pub returns-clause-legal : goal.returns-clause-legal
returns-clause-legal c = always_legal

pub returns-clause-sorted : goal.returns-clause-sorted
returns-clause-sorted c = always_sorted

pub returns-clause-names : goal.returns-clause-names
returns-clause-names c = λ site words sides rank x is low. can_name site words sides is.good rank x is.there low

pub returns-clause-turns : goal.returns-clause-turns
returns-clause-turns c = λ site words sides rank x is low at cards planned. can_turn site words sides is.good rank x is.there low at cards planned

pub returns-clause-few : goal.returns-clause-few
returns-clause-few c = λ site words sides rank x is call count word alone stage. few_loads site words sides is.good rank x is.there call count word alone stage
