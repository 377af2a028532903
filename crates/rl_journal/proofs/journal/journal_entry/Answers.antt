-- An entry is read from its own words.
use Rattle.std.proofs.Common.{◌≡◌, ◌∙◌, ap, ℕ}
use Rattle.rl_model.specs.declared.call.Call.{Call}
use Rattle.rl_model.specs.declared.entry.Entry.{Entry}
use Rattle.rl_model.specs.declared.entry.Reply.{Reply}
use Rattle.rl_journal.specs.Journal.{entry_of}
use Rattle.rl_journal.specs.laws.ReadBack.{read_back}
use Rattle.rl_journal.proofs.journal.journal_entry.Goals as goal

-- entries of the same call and reply
same_entry : (shard rank seq at batch part : ℕ) (c d : Call) (a b : Reply) → c ≡ d → a ≡ b →
    ◌≡◌ {A = Entry} (record { shard = shard; rank = rank; seq = seq; call = c; at = at; reply = a; batch = batch; part = part }) (record { shard = shard; rank = rank; seq = seq; call = d; at = at; reply = b; batch = batch; part = part })
same_entry shard rank seq at batch part c d a b e f = cc

pub returns-clause-back : goal.returns-clause-back
returns-clause-back c = λ entry may same.
    same_entry _ _ _ _ _ _ _ _ _ _ c.update_of.ensures c.reply_of.ensures ∙ ap (entry_of c.args.shard c.args.at) same ∙ read_back c.args.shard c.args.at entry may
