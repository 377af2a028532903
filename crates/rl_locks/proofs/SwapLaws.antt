-- A lock that makes no local act makes no local compare-and-swap; and neither does a rank of ALock away from the shard's home.
use Rattle.std.proofs.Common.{◌≡◌, ◌≢◌, ℕ, true, false, slice_index, sym, ◌∙◌}
use Rattle.rl_word.specs.declared.acts.Act.{Act}
use Rattle.rl_word.specs.declared.acts.Act.TheVariants as act
use Rattle.rl_step.specs.Lock.{no_local}
use Rattle.rl_alock.specs.Alock.{Cohorts, HasTwoDomains, alock_table}
use Rattle.rl_core.specs.Domains.{IsLocalAct, UsesLocals}

no_swap : (r : ℕ) (a : Act) → IsLocalAct a → no_local r a ≡ true → ⊥
no_swap r (act.Load w) is may = is
no_swap r (act.Store w v) is may = is
no_swap r (act.LocalCas w old new) is may = cc
no_swap r (act.CardCas w old new) is may = is
no_swap r (act.CardSwap w v) is may = is
no_swap r (act.CardAdd w d) is may = is

pub uses_none : (r : ℕ) → UsesLocals no_local r → ⊥
uses_none r u = no_swap r u.0 u.1 u.2

pub never_away : (K : Cohorts) → HasTwoDomains K → (r : ℕ) → slice_index K.node_of r ≢ K.home → UsesLocals (alock_table K).may_make r → ⊥
never_away K law r far u = by_act u.0 u.1 u.2 where
  by_act : (a : Act) → IsLocalAct a → (alock_table K).may_make r a ≡ true → ⊥
  by_act (act.Load w) is may = is
  by_act (act.Store w v) is may = is
  by_act (act.LocalCas w old new) is may = let clash : true ≡ false = sym may ∙ law.away r w old new far in cc
  by_act (act.CardCas w old new) is may = is
  by_act (act.CardSwap w v) is may = is
  by_act (act.CardAdd w d) is may = is
