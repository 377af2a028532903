-- A rank that rests: its steps count one answer, and change nothing else.
use Rattle.std.specs.Prelude.{◌≡◌, ℕ, ◌+◌}
use Rattle.rl_step.specs.declared.events.Stepped.{Stepped}
use Rattle.rl_step.specs.declared.events.Stepped.TheVariants.{Moved, Waiting, Lost, Busy, Finished}
use Rattle.rl_step.specs.declared.tallies.Steps.{Steps}
use Rattle.rl_step.specs.Answers.{counted}
use Rattle.rl_machine.specs.Running.{Running}
use Rattle.rl_machine.specs.Run.{stepped, answer_of_step}

-- so many more of the answer's kind
abbrev pub counted_more : Stepped → ℕ → Steps → Steps
counted_more Moved n s = record { moved = s.moved + n; waiting = s.waiting; lost = s.lost; busy = s.busy; finished = s.finished }
counted_more (Waiting w v) n s = record { moved = s.moved; waiting = s.waiting + n; lost = s.lost; busy = s.busy; finished = s.finished }
counted_more (Lost guess seen) n s = record { moved = s.moved; waiting = s.waiting; lost = s.lost + n; busy = s.busy; finished = s.finished }
counted_more (Busy node holder) n s = record { moved = s.moved; waiting = s.waiting; lost = s.lost; busy = s.busy + n; finished = s.finished }
counted_more Finished n s = record { moved = s.moved; waiting = s.waiting; lost = s.lost; busy = s.busy; finished = s.finished + n }

-- the machine with other counts of answers, and all else as it was
abbrev pub with_steps : {V : Type 0} → Running V → Steps → Running V
with_steps m counts = record { shards = m.shards; geom = m.geom; calls = m.calls; sizes = m.sizes; opened = m.opened; steps = counts }

-- rank k rests with this answer: its next step is answered so, and whatever was counted so far, a step of it counts the answer and
-- changes nothing else
abbrev pub RestsWith : {V : Type 0} → Running V → ℕ → Stepped → Type 0
RestsWith m k answer = (answer_of_step m k ≡ answer) × ((counts : Steps) → stepped (with_steps m counts) k ≡ with_steps m (counted answer counts))

-- it does so if the answer is Busy
abbrev pub RestsIfBusy : {V : Type 0} → Running V → ℕ → Stepped → Type 0
RestsIfBusy m k answer = (node holder : ℕ) → answer ≡ Busy node holder → RestsWith m k answer
