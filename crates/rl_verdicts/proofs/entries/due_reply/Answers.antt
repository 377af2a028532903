-- What one thread is told at a place is the reply with which the entry there passes its test.
use Rattle.std.proofs.Common.{rules, ◌≡◌, ◌+◌, ℕ, length, List, Some, IfSome, Option, None, slice_get, subst}
use Rattle.rl_model.specs.declared.geom.Geom.{Geom}
use Rattle.rl_model.specs.declared.entry.Entry.{Entry}
use Rattle.rl_model.specs.declared.entry.Reply.{Reply}
use Rattle.rl_model.specs.Table.{Table}
use Rattle.rl_check.specs.OneThread.{IsToldTo, BatchesFit, Tells}
use Rattle.rl_verdicts.proofs.entries.due_reply.Goals as goal

due_tells : (geom : Geom) (entries : List Entry) (n p : ℕ) (replies : List (Option Reply)) (table : Table) (o : Option Reply) → IsToldTo geom entries n replies table → IfSome o (λ reply. slice_get replies p ≡ Some (Some reply)) →
    IfSome o (λ reply. BatchesFit entries (p + 1) → Tells geom entries p (Some reply))
due_tells geom entries n p replies table None told h = tt
due_tells geom entries n p replies table (Some reply) told h = λ fit. told.tells p (Some reply) h fit

pub returns : goal.returns
returns c = due_tells c.args.geom c.args.entries.now (length c.args.entries.now) c.args.at c.in_ok-told.told.replies.items c.in_ok-told.told.table.table c.told_at.result c.in_ok-told.ensures
    (subst (λ l. IfSome c.told_at.result (λ reply. slice_get l c.args.at ≡ Some (Some reply))) (search rules) c.told_at.ensures)
