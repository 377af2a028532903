use Rattle.std.proofs.Common.{rules, vec_items, map, length, vec_len, ◌≡◌, All, ◌∙◌, ap, sym, subst}
use Rattle.std.proofs.lemmas.List.{length-map}
use Rattle.rl_shard.specs.Shards.{IsShardOf}
use Rattle.rl_shard.specs.Ends.{IsEnd}
use Rattle.rl_run.specs.Rows.{AreEnded}
use Rattle.rl_run.specs.Callers.{IsCaller, IsAtEnd, seats_of, who}
use Rattle.rl_run.specs.Runs.{HasRun}
use Rattle.rl_run.proofs.Running.{callers_grid, each_caller, has_run, ok_more, written_back}
use Rattle.rl_run.proofs.run.run_callers.Goals as goal
use Rattle.rl_run.proofs.run.run_callers.Goals.{In_ok-rows}
use Rattle.rl_run.proofs.run.run_callers.Given.{Over}

pub work_all-requires : goal.work_all-requires
work_all-requires g c =
    let here : All (IsCaller g.C.ShardCore.says c.args.shards.items) c.args.callers.items = each_caller g.C.ShardCore.says c.args.shards.items c.args.callers.items c.requires.callers in
    let lent : All (IsCaller g.C.ShardCore.says c.args.shards.items) c.as_mut_slice.result.now = subst (λ l. All (IsCaller g.C.ShardCore.says c.args.shards.items) l) (sym c.as_mut_slice.ensures.value) here in
    let all : All (IsCaller g.C.ShardCore.says c.as_slice.result.now) c.as_mut_slice.result.now = subst (λ l. All (IsCaller g.C.ShardCore.says l) c.as_mut_slice.result.now) (sym c.as_slice.ensures.value) lent in
    (search rules, (search rules, (search rules, (search rules, (search rules, (search rules, all))))))

-- the callers after their work, and their seats as rows
module _ (g : Over) (c : In_ok-rows g) where
  is : map vec_items c.in_ok-rows.rows.items ≡ map seats_of c.work_all.new.callers
  is = c.in_ok-rows.ensures ∙ ap (map seats_of) (written_back c.args.callers.items c.work_all.new.callers c.args.callers.len (search rules))

  all : All (IsCaller g.C.ShardCore.says c.args.shards.items) c.work_all.new.callers
  all = subst (λ l. All (IsCaller g.C.ShardCore.says l) c.work_all.new.callers) c.as_slice.ensures.value c.work_all.ensures.callers

  done : All (IsAtEnd g.C.ShardCore.says c.args.shards.items) c.work_all.new.callers
  done = subst (λ l. All (IsAtEnd g.C.ShardCore.says l) c.work_all.new.callers) c.as_slice.ensures.value c.work_all.ensures.all_done

  same : map who c.work_all.new.callers ≡ map who c.args.callers.items
  same = c.work_all.ensures.same ∙ ap (map who) c.as_mut_slice.ensures.value

pub close_all-requires-clause-rooted : goal.close_all-requires-clause-rooted
close_all-requires-clause-rooted g c =
    let d = (goal.at.close_all-requires-clause-rooted g c).In_ok-rows in
    let long : length c.in_ok-rows.rows.items ≡ length c.work_all.new.callers = sym (length-map c.in_ok-rows.rows.items vec_items) ∙ (ap length (is g d) ∙ length-map c.work_all.new.callers seats_of) in
    let same : map who c.work_all.new.callers ≡ map who c.args.callers.items = same g d in
    let n : vec_len c.in_ok-rows.rows ≡ vec_len c.args.callers = search rules in
    subst (λ k. All (IsShardOf g.C.ShardCore.says k) c.args.shards.items) (sym n) c.requires.rooted

pub close_all-requires-clause-grid : goal.close_all-requires-clause-grid
close_all-requires-clause-grid g c =
    let d = (goal.at.close_all-requires-clause-grid g c).In_ok-rows in
    callers_grid g.C.ShardCore.says vec_items c.args.shards.items c.args.callers.items c.work_all.new.callers c.in_ok-rows.rows.items c.requires.callers (all g d) (done g d) (same g d) (is g d)

pub returns : goal.returns
returns g c =
    let d = (goal.at.returns g c).In_ok-rows in
    ok_more (λ ends. AreEnded (IsEnd g.C.ShardCore.says) c.args.shards.items (map vec_items c.in_ok-rows.rows.items) ends.items) (λ ends. HasRun g.C.ShardCore.says c.args.shards.items c.args.callers.items ends.items) c.close_all.result
    (λ ends a. has_run g.C.ShardCore.says c.args.shards.items c.args.callers.items c.work_all.new.callers c.requires.callers (all g d) (done g d) (same g d) (map vec_items c.in_ok-rows.rows.items) ends.items (is g d) a) c.close_all.ensures
