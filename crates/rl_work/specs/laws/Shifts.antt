-- What an act of the lock leaves of a standing: who is done stays so, who has asked has asked still, and none had the lock.
use Rattle.std.specs.Prelude.{ℕ, List}
use Rattle.rl_step.specs.declared.events.Event.{Event}
use Rattle.rl_step.specs.declared.events.Standing.{Standing}
use Rattle.rl_step.specs.declared.events.Standing.TheVariants.{Out, Asking, Writer, Reader, Leaving}
use Rattle.rl_step.specs.Lock.{IsHolder, Shift}
use Rattle.rl_work.specs.WorkGood.{IsDone, IsInCall}

pub stays_done : (r : ℕ) (a b : Standing) (es : List Event) → Shift r a b es → IsDone a → IsDone b
stays_done r Out b es s i = absurd s
stays_done r Asking b es s i = absurd i
stays_done r Writer b es s i = absurd s
stays_done r Reader b es s i = absurd s
stays_done r Leaving Out es s i = tt
stays_done r Leaving Asking es s i = absurd s
stays_done r Leaving Writer es s i = absurd s
stays_done r Leaving Reader es s i = absurd s
stays_done r Leaving Leaving es s i = tt

pub asks_on : (r : ℕ) (a b : Standing) (es : List Event) → Shift r a b es → IsInCall a → IsInCall b
asks_on r Out b es s i = absurd i
asks_on r Asking Out es s i = absurd s
asks_on r Asking Asking es s i = tt
asks_on r Asking Writer es s i = tt
asks_on r Asking Reader es s i = tt
asks_on r Asking Leaving es s i = absurd s
asks_on r Writer b es s i = absurd s
asks_on r Reader b es s i = absurd s
asks_on r Leaving b es s i = absurd i

pub no_holder : (r : ℕ) (a b : Standing) (es : List Event) → Shift r a b es → IsHolder a → ⊥
no_holder r Out b es s i = i
no_holder r Asking b es s i = i
no_holder r Writer b es s i = s
no_holder r Reader b es s i = s
no_holder r Leaving b es s i = i
