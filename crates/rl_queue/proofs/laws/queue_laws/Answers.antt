-- Each law of a queue, by its proof.
use Rattle.rl_queue.specs.laws.QueueCredit.{act_spends}
use Rattle.rl_queue.specs.laws.QueueFits.{plan_fits, learn_fits, alone_finds, alone_moves_on, waits_on, holder_told}
use Rattle.rl_queue.specs.laws.QueueMoves.{act_keeps, join_keeps, settle_keeps, leave_keeps, leave_keeps_quietly, resume_keeps, one_first, queue_fifo, queue_within, queue_counted}
use Rattle.rl_queue.specs.laws.QueueServed.{served_back, settle_unserved}
use Rattle.rl_queue.specs.laws.QueueFrame.{begins_good, beside_all_keep, elsewhere_keeps, other_queue_keeps}
use Rattle.rl_queue.specs.QueueStatements.{In}
use Rattle.rl_queue.proofs.laws.queue_laws.Goals as goal

pub returns-clause-begins : goal.returns-clause-begins
returns-clause-begins c = λ n members. begins_good n (In members)

pub returns-clause-beside : goal.returns-clause-beside
returns-clause-beside c = λ n members q es. beside_all_keep n (In members) q.words q.phases q.line q.trace es q.ended

pub returns-clause-elsewhere : goal.returns-clause-elsewhere
returns-clause-elsewhere c = λ n members q w v. elsewhere_keeps n (In members) q.words q.phases q.line q.trace q.ended w v

pub returns-clause-acts : goal.returns-clause-acts
returns-clause-acts c = λ n members q ph' m. act_keeps n (In members) q.words q.phases ph' q.line q.trace q.ended m

pub returns-clause-joins : goal.returns-clause-joins
returns-clause-joins c = λ n members q ph' m. join_keeps n (In members) q.words q.phases ph' q.line q.trace q.ended m

pub returns-clause-settles : goal.returns-clause-settles
returns-clause-settles c = λ n members q ph' m. settle_keeps n (In members) q.words q.phases ph' q.line q.trace q.ended m

pub returns-clause-leaves : goal.returns-clause-leaves
returns-clause-leaves c = λ n members q ph' m left. leave_keeps n (In members) q.words q.phases ph' q.line q.trace q.ended m left

pub returns-clause-leaves_quietly : goal.returns-clause-leaves_quietly
returns-clause-leaves_quietly c = λ n members q ph' m left. leave_keeps_quietly n (In members) q.words q.phases ph' q.line q.trace q.ended m left

pub returns-clause-resumes : goal.returns-clause-resumes
returns-clause-resumes c = λ n members q ph' m. resume_keeps n (In members) q.words q.phases ph' q.line q.trace q.ended m

pub returns-clause-one_first : goal.returns-clause-one_first
returns-clause-one_first c = λ n members q i j. one_first n (In members) q.words q.phases q.line q.trace q.ended i j

pub returns-clause-fifo : goal.returns-clause-fifo
returns-clause-fifo c = λ n members q. queue_fifo n (In members) q.words q.phases q.line q.trace q.ended

pub returns-clause-within : goal.returns-clause-within
returns-clause-within c = λ n members q b. queue_within n (In members) q.words q.phases q.line q.trace q.ended b

pub returns-clause-counted : goal.returns-clause-counted
returns-clause-counted c = λ n members q. queue_counted n (In members) q.words q.phases q.line q.trace q.ended

pub returns-clause-plans : goal.returns-clause-plans
returns-clause-plans c = λ n members q m. plan_fits n (In members) q.words q.phases q.line q.trace q.ended m

pub returns-clause-learns : goal.returns-clause-learns
returns-clause-learns c = λ n members q m. learn_fits n (In members) q.words q.phases q.line q.trace q.ended m

pub returns-clause-finds : goal.returns-clause-finds
returns-clause-finds c = λ n members q m. alone_finds n (In members) q.words q.phases q.line q.trace q.ended m

pub returns-clause-moves_on : goal.returns-clause-moves_on
returns-clause-moves_on c = λ n members. alone_moves_on n (In members)

pub returns-clause-waits : goal.returns-clause-waits
returns-clause-waits c = λ n members. waits_on n (In members)

pub returns-clause-spends : goal.returns-clause-spends
returns-clause-spends c = λ n members q ph' k m b. act_spends n (In members) q.words q.phases ph' q.line k q.trace q.ended m b

pub returns-clause-served : goal.returns-clause-served
returns-clause-served c = λ n members q ph' k t' e' m. served_back n (In members) q.words q.phases ph' q.line k q.trace t' q.ended e' m

pub returns-clause-unserved : goal.returns-clause-unserved
returns-clause-unserved c = λ n members q m i. settle_unserved n (In members) q.words q.phases q.line q.trace q.ended m i

pub returns-clause-holder : goal.returns-clause-holder
returns-clause-holder c = λ n members q m left. holder_told n (In members) q.words q.phases q.line q.trace q.ended m left

pub returns-clause-apart : goal.returns-clause-apart
returns-clause-apart c = λ n o members they. other_queue_keeps n o (In members) (In they)
