use Rattle.rl_run.proofs.working.fn.work_all.for_each_mut+FnOnce.call_once.Goals as goal

pub for_each_mut-requires : goal.for_each_mut-requires
for_each_mut-requires g c = assumption c.requires
