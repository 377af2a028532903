-- What a stable sort by the counts says.
use Rattle.std.proofs.Common.{rules, ◌≡◌, subst}
use Rattle.std.specs.List.Sorted.{IsStableByKey}
use Rattle.std.specs.Ordering.{nat_cmp}
use Rattle.std.proofs.lemmas.Fn.{always_returns_same}
use Rattle.std.proofs.lemmas.List.Sorted.{IsNonDecreasingBy-from_sort_by_key}
use denote.Ref.{Bor}
use Rattle.rl_model.specs.declared.entry.Entry.{Entry}
use Rattle.rl_report.specs.Merging.{seen}
use Rattle.rl_report.proofs.Merges.{sorted_seen, stable_seen}
use Rattle.rl_report.proofs.merging.sorted_reads.Goals as goal

pub returns-clause-sorted : goal.returns-clause-sorted
returns-clause-sorted c = sorted_seen _ (IsNonDecreasingBy-from_sort_by_key (λ (r : Bor Entry). r.now.at) _ c.in_ok-sort_by_key.ensures.sorted (λ a r q k. search rules))

pub returns-clause-stable : goal.returns-clause-stable
returns-clause-stable c =
    subst (λ before. IsStableByKey (λ (e : Entry). e.at) nat_cmp before (seen c.sort_by_key.new.self.items)) c.in_ok-reads.ensures
    (stable_seen _ _ (c.in_ok-sort_by_key.ensures.stable (λ (r : Bor Entry). r.now.at) (always_returns_same _ (λ a r. r ≡ a.0.now.now.at) _ (λ a r q k. search rules))))
