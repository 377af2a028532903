-- The events of an atom name the rank that makes it, as the one that enters, leaves or touches.
use Rattle.std.specs.Prelude.{◌≡◌, ℕ, ◌<◌, false, List, [], ◌∷◌, ◌++◌}
use Rattle.std.proofs.Common.{sym, subst, ⊎_elim}
use Rattle.rl_step.specs.declared.events.Event.{Event}
use Rattle.rl_step.specs.declared.events.Event.TheVariants.{Join, Announce, Pass, Settle, Touch, EnterW, EnterR, LeaveW, LeaveR}
use Rattle.rl_step.specs.declared.events.Standing.{Standing}
use Rattle.rl_step.specs.declared.events.Standing.TheVariants.{Out, Asking, Writer, Reader, Leaving}
use Rattle.rl_step.specs.Lock.{holds_only}
use Rattle.rl_core.specs.EventRanks.{AreByRanks}
use Rattle.rl_rank.specs.laws.Changes.{Change}

pub by_ranks_more : (n : ℕ) (t es : List Event) → AreByRanks n t → AreByRanks n es → AreByRanks n (t ++ es)
by_ranks_more n [] es a b = b
by_ranks_more n (e ∷ t) es a b = (a.0, by_ranks_more n t es a.1 b)

-- those that speak of holders are all that name ranks
by_holders : (n : ℕ) (es : List Event) → AreByRanks n (holds_only es) → AreByRanks n es
by_holders n [] a = tt
by_holders n (Join q m ∷ es) a = (tt, by_holders n es a)
by_holders n (Announce c ∷ es) a = (tt, by_holders n es a)
by_holders n (Pass q m ∷ es) a = (tt, by_holders n es a)
by_holders n (Settle q m ∷ es) a = (tt, by_holders n es a)
by_holders n (Touch k w ∷ es) a = (a.0, by_holders n es a.1)
by_holders n (EnterW k ∷ es) a = (a.0, by_holders n es a.1)
by_holders n (EnterR k ∷ es) a = (a.0, by_holders n es a.1)
by_holders n (LeaveW k ∷ es) a = (a.0, by_holders n es a.1)
by_holders n (LeaveR k ∷ es) a = (a.0, by_holders n es a.1)

-- whose holders are these
holders_are : (n : ℕ) (es hs : List Event) → holds_only es ≡ hs → AreByRanks n hs → AreByRanks n es
holders_are n es hs is a = by_holders n es (subst (AreByRanks n) (sym is) a)

these_are : (n : ℕ) (es hs : List Event) → es ≡ hs → AreByRanks n hs → AreByRanks n es
these_are n es hs is a = subst (AreByRanks n) (sym is) a

pub change_by : (n r : ℕ) (old st : Standing) (es : List Event) → r < n → Change r old st es → AreByRanks n es
change_by n r Out Asking es low c = holders_are n es [] c tt
change_by n r Asking Asking es low c = holders_are n es [] c tt
change_by n r Asking Writer es low c = holders_are n es (EnterW r ∷ []) c (low, tt)
change_by n r Asking Reader es low c = holders_are n es (EnterR r ∷ []) c (low, tt)
change_by n r Writer Writer es low c = ⊎_elim (λ q. holders_are n es [] q tt) (λ q. these_are n es (Touch r q.0 ∷ []) q.1 (low, tt)) c
change_by n r Writer Leaving es low c = ⊎_elim (λ q. these_are n es (LeaveW r ∷ []) q (low, tt))
    (λ q. these_are n es (Touch r q.0 ∷ LeaveW r ∷ []) q.1 (low, (low, tt))) c
change_by n r Reader Reader es low c = ⊎_elim (λ q. holders_are n es [] q tt) (λ q. these_are n es (Touch r false ∷ []) q (low, tt)) c
change_by n r Reader Leaving es low c = ⊎_elim (λ q. these_are n es (LeaveR r ∷ []) q (low, tt))
    (λ q. these_are n es (Touch r false ∷ LeaveR r ∷ []) q (low, (low, tt))) c
change_by n r Leaving Leaving es low c = holders_are n es [] c tt
change_by n r Leaving Out es low c = holders_are n es [] c tt
change_by n r Out Out es low c = holders_are n es [] c tt
change_by n r Out Writer es low c = absurd c
change_by n r Out Reader es low c = absurd c
change_by n r Out Leaving es low c = absurd c
change_by n r Asking Out es low c = absurd c
change_by n r Asking Leaving es low c = absurd c
change_by n r Writer Out es low c = absurd c
change_by n r Writer Asking es low c = absurd c
change_by n r Writer Reader es low c = absurd c
change_by n r Reader Out es low c = absurd c
change_by n r Reader Asking es low c = absurd c
change_by n r Reader Writer es low c = absurd c
change_by n r Leaving Asking es low c = absurd c
change_by n r Leaving Writer es low c = absurd c
change_by n r Leaving Reader es low c = absurd c
