-- What was made is the start, and the start has all that is true of a machine.
use Rattle.std.proofs.Common.{◌≡◌, ℕ, List, ◌∙◌, ap, sym, length, map, replicate}
use Rattle.rl_word.specs.Shapes.{layout_of}
use Rattle.rl_model.specs.declared.call.Call.{Call}
use Rattle.rl_model.specs.declared.geom.Geom.{Geom}
use Rattle.rl_step.specs.declared.tallies.Steps.{Steps}
use Rattle.rl_step.specs.LockQueues.{queues_of}
use Rattle.rl_machine.specs.laws.StartLaws.{MayStart}
use Rattle.rl_machine.specs.laws.CoreLaws.{is_machine, says_on, queues_on}
use Rattle.rl_core.specs.laws.OpsBridge.{can_begin}
use Rattle.rl_machine.specs.Running.{ShardRun, Running, TheMachine, running}
use Rattle.rl_machine.specs.Start.{first_shards_of, start_of}
use Rattle.rl_machine.specs.State.{shard_view}
use Rattle.rl_machine.proofs.machine.Machine.new.Goals as goal
use Rattle.rl_machine.proofs.machine.Machine.new.Goals.{After-none}
use Rattle.rl_machine.proofs.machine.Machine.new.Given.{Over}

-- a machine of these parts
abbrev machine_of : {V : Type 0} → Geom → List (List Call) → List (List ℕ) → List (ShardRun V) → List ℕ → Steps → Running V
machine_of geom calls sizes shards opened steps = record { shards = shards; geom = geom; calls = calls; sizes = sizes; opened = opened; steps = steps }

-- the machine that was made
abbrev machine : (g : Over) → After-none g → TheMachine g.row.C.Denot g.row.C-View.Denot
machine g c =
    record {
      shards = map shard_view c.in_ok-shards.shards.items;
      geom = c.args.geom;
      calls = c.args.ops.by_rank;
      sizes = c.args.ops.sizes;
      opened = c.in_ok-opened.opened.items;
      steps = c.none.result;
    }

-- is the start
made : (g : Over) (c : After-none g) → running g.C.ShardCore.says (machine g c) ≡ start_of g.C.ShardCore.defined c.args.shape.now c.args.knobs c.args.geom c.args.homes.now c.args.ops
made g c =
    let ops = c.args.ops in
    let geom = c.args.geom in
    let first = first_shards_of g.C.ShardCore.defined c.args.shape.now c.args.knobs geom c.args.homes.now ops in
    ap (λ z. machine_of geom ops.by_rank ops.sizes z c.in_ok-opened.opened.items c.none.result) c.in_ok-shards.ensures.made
    ∙ ap (λ z. machine_of geom ops.by_rank ops.sizes first z c.none.result) c.in_ok-opened.ensures
    ∙ ap (machine_of geom ops.by_rank ops.sizes first (replicate (length ops.by_rank) 0)) c.none.ensures

may : (g : Over) (c : After-none g) →
    MayStart (λ home. g.C.ShardCore.defined c.args.shape.now home c.args.knobs) (layout_of c.args.shape.now) c.args.geom c.args.homes.now c.args.ops.by_rank c.args.ops.sizes
may g c =
    let shape = c.args.shape.now in
    record {
      laid = λ home site. g.met.C.ShardCore.laid shape home c.args.knobs site;
      fits = c.requires.fits;
      many = c.requires.many;
      ranks = c.requires.ops.ranks_there;
      few_ranks = c.requires.proper.few;
      can = can_begin _ c.args.geom c.args.ops c.requires.fits c.requires.ops;
      takes = λ home site none. c.requires.batches (sym (g.met.C.ShardCore.has_batches shape home c.args.knobs site) ∙ none);
    }

pub invariant_of-result : goal.invariant_of-result
invariant_of-result g c =
    let d = (goal.at.invariant_of-result g c).After-none in
    is_machine g.C.ShardCore.says g.met.C.ShardCore.shard_laws _ _ _ _ _ _ (may g d) (machine g d) (made g d) c.in_ok-shards.ensures.layout c.requires.ops.few

-- and from it the locks and their queues keep what they promise, whatever steps follow
pub returns-clause-says : goal.returns-clause-says
returns-clause-says g c = λ ks there s home has.
    let d = (goal.at.returns-clause-says g c).After-none in
    says_on g.C.ShardCore.says g.met.C.ShardCore.shard_laws _ _ _ _ _ _ (may g d) (machine g d) (made g d) c.in_ok-shards.ensures.layout
    (λ h. g.C.ShardCore.promised c.args.shape.now h c.args.knobs) c.in_ok-shards.ensures.promised ks there s home has

pub returns-clause-keeps : goal.returns-clause-keeps
returns-clause-keeps g c = λ ks there s home has.
    let d = (goal.at.returns-clause-keeps g c).After-none in
    queues_on g.C.ShardCore.says g.met.C.ShardCore.shard_laws _ _ _ _ _ _ (may g d) (machine g d) (made g d) c.in_ok-shards.ensures.layout
    (λ h. queues_of g.C.ShardCore.name c.args.shape.now h c.args.knobs) (λ h site. g.met.C.ShardCore.has_queues c.args.shape.now h c.args.knobs site) ks there s home has
