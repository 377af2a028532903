-- What is left to do at the ticket lock: of each rank the acts up to its work, or after it; and who goes on, as its turn has come or it needn't wait.
use Rattle.std.specs.Prelude.{ℕ, ◌==◌, List, sum_by, if◌then◌else◌, slice_index, Option, Some, None}
use Rattle.ticket_lock.specs.declared.view.TicketView.{TicketView}
use Rattle.ticket_lock.specs.declared.view.Phase.{Phase}
use Rattle.ticket_lock.specs.declared.view.Phase.TheVariants.{Out, Drawing, Waiting, Inside, Releasing}

abbrev pub acts_in : Phase → ℕ
acts_in Out = 0
acts_in Drawing = 2
acts_in (Waiting x) = 1
acts_in (Inside x) = 0
acts_in (Releasing x) = 1

abbrev pub ticket_left : List ℕ → List TicketView → ℕ
ticket_left words views = sum_by (λ v. acts_in v.phase) views

-- how urgently a rank goes on in this phase, by the ticket that is served
abbrev pub urgent_in : ℕ → Phase → Option ℕ
urgent_in served Out = None
urgent_in served (Waiting x) = if served == x then Some 0 else None
urgent_in served _ = Some 0

abbrev pub ticket_urgent : List ℕ → TicketView → Option ℕ
ticket_urgent words v = urgent_in (slice_index words 1) v.phase
