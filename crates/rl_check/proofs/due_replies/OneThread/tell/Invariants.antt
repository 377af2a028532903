use Rattle.std.proofs.Common.{◌≡◌, ◌++◌, map, take, Some}
use Rattle.rl_model.specs.declared.entry.Reply.{Reply}
use Rattle.rl_check.proofs.due_replies.OneThread.tell.Given as goal

abbrev pub invariant-loop-reply : goal.invariant-loop-reply
invariant-loop-reply l = record {
  table : l.self.table ≡ l.fn.self.table;
  told : l.self.replies.items ≡ l.fn.self.replies.items ++ map (λ (r : Reply). Some r) (take l.reply-index l.replies);
}
