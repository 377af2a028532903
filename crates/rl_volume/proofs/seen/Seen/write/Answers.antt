use Rattle.std.proofs.Common.{◌∙◌, sym}
use Rattle.rl_volume.proofs.Patches.{added, replaced, place_of}
use Rattle.rl_volume.proofs.seen.Seen.write.Goals as goal

pub add-requires-clause-unseen : goal.add-requires-clause-unseen
add-requires-clause-unseen c = (added c.args.self.now.pairs 0 c.args.word c.args.value (sym (place_of c.args.self.now.pairs c.args.word) ∙ sym c.position.ensures ∙ c.in-None.is)).0

pub returns-in-None-clause-written : goal.returns-in-None-clause-written
returns-in-None-clause-written c =
    c.add.ensures.added ∙ sym (added c.args.self.now.pairs 0 c.args.word c.args.value (sym (place_of c.args.self.now.pairs c.args.word) ∙ sym c.position.ensures ∙ c.in-None.is)).1

pub replace-requires-clause-inside : goal.replace-requires-clause-inside
replace-requires-clause-inside c = (replaced c.args.self.now.pairs c.args.word c.args.value c.in-Some.index (sym c.position.ensures ∙ c.in-Some.is)).0
