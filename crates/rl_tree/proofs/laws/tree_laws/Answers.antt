-- The laws hold of each shape.
use Rattle.rl_tree.specs.TreeShape.{levels_of}
use Rattle.rl_tree.specs.laws.TreeLaws.{tree_facts}
use Rattle.rl_tree.proofs.laws.tree_laws.Goals as goal
use Rattle.rl_tree.specs.laws.TreeLaid.{proper_laid, laid_shaped}

pub returns-clause-shapes : goal.returns-clause-shapes
returns-clause-shapes c K proper homed budgeted modest = laid_shaped K (levels_of K.shape) (proper_laid K proper homed budgeted modest)

pub returns-clause-begins : goal.returns-clause-begins
returns-clause-begins c K levels S = (tree_facts K levels S).begins

pub returns-clause-beyond : goal.returns-clause-beyond
returns-clause-beyond c K levels S = (tree_facts K levels S).beyond

pub returns-clause-beside : goal.returns-clause-beside
returns-clause-beside c K levels S = (tree_facts K levels S).beside

pub returns-clause-asks : goal.returns-clause-asks
returns-clause-asks c K levels S = (tree_facts K levels S).asks

pub returns-clause-leaves : goal.returns-clause-leaves
returns-clause-leaves c K levels S = (tree_facts K levels S).leaves

pub returns-clause-acts : goal.returns-clause-acts
returns-clause-acts c K levels S = (tree_facts K levels S).acts

pub returns-clause-resumes : goal.returns-clause-resumes
returns-clause-resumes c K levels S = (tree_facts K levels S).resumes

pub returns-clause-queues : goal.returns-clause-queues
returns-clause-queues c K levels S = (tree_facts K levels S).queues

pub returns-clause-above : goal.returns-clause-above
returns-clause-above c K levels S = (tree_facts K levels S).above

pub returns-clause-one_agent : goal.returns-clause-one_agent
returns-clause-one_agent c K levels S = (tree_facts K levels S).one_agent

pub returns-clause-one_hook : goal.returns-clause-one_hook
returns-clause-one_hook c K levels S = (tree_facts K levels S).one_hook

pub returns-clause-hook_shut : goal.returns-clause-hook_shut
returns-clause-hook_shut c K levels S = (tree_facts K levels S).hook_shut

pub returns-clause-comes_in : goal.returns-clause-comes_in
returns-clause-comes_in c K levels S = (tree_facts K levels S).comes_in

pub returns-clause-one_holder : goal.returns-clause-one_holder
returns-clause-one_holder c K levels S = (tree_facts K levels S).one_holder

pub returns-clause-holder_open : goal.returns-clause-holder_open
returns-clause-holder_open c K levels S = (tree_facts K levels S).holder_open

pub returns-clause-rest_shut : goal.returns-clause-rest_shut
returns-clause-rest_shut c K levels S = (tree_facts K levels S).rest_shut

pub returns-clause-within : goal.returns-clause-within
returns-clause-within c K levels S = (tree_facts K levels S).within

pub returns-clause-fifo : goal.returns-clause-fifo
returns-clause-fifo c K levels S = (tree_facts K levels S).fifo

pub returns-clause-counted : goal.returns-clause-counted
returns-clause-counted c K levels S = (tree_facts K levels S).counted

pub returns-clause-homes : goal.returns-clause-homes
returns-clause-homes c K levels S = (tree_facts K levels S).homes

pub returns-clause-lawful : goal.returns-clause-lawful
returns-clause-lawful c K levels S = (tree_facts K levels S).lawful

pub returns-clause-placed : goal.returns-clause-placed
returns-clause-placed c K levels S = (tree_facts K levels S).placed

pub returns-clause-may_plan : goal.returns-clause-may_plan
returns-clause-may_plan c K levels S = (tree_facts K levels S).may_plan

pub returns-clause-may_learn : goal.returns-clause-may_learn
returns-clause-may_learn c K levels S = (tree_facts K levels S).may_learn

pub returns-clause-learns : goal.returns-clause-learns
returns-clause-learns c K levels S = (tree_facts K levels S).learns

pub returns-clause-goes_on : goal.returns-clause-goes_on
returns-clause-goes_on c K levels S = (tree_facts K levels S).goes_on

pub returns-clause-joins : goal.returns-clause-joins
returns-clause-joins c K levels S = (tree_facts K levels S).joins

pub returns-clause-unhooks : goal.returns-clause-unhooks
returns-clause-unhooks c K levels S = (tree_facts K levels S).unhooks

pub returns-clause-waits : goal.returns-clause-waits
returns-clause-waits c K levels S = (tree_facts K levels S).waits

pub returns-clause-finds : goal.returns-clause-finds
returns-clause-finds c K levels S = (tree_facts K levels S).finds

pub returns-clause-moves_on : goal.returns-clause-moves_on
returns-clause-moves_on c K levels S = (tree_facts K levels S).moves_on
