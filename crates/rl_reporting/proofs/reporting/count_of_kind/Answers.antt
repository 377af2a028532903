use Rattle.std.proofs.Common.{◌≡◌, ℕ, ◌<◌, ◌^◌, length, Vec, Global, vec_len, ap, ◌∙◌, arith}
use Rattle.std.proofs.lemmas.List.{length-map}
use Rattle.rl_word.specs.declared.locks.QueueKind.{QueueKind}
use Rattle.rl_place.specs.Numbering.{element_paths}
use Rattle.rl_place.specs.Places.{ThePlace, IsProper}
use Rattle.rl_report.specs.Naming.{queue_names, element_queue_name}
use Rattle.rl_report.proofs.NamingLaws.{few_of_kind}
use Rattle.rl_reporting.proofs.reporting.count_of_kind.Goals as goal

-- a tree has a queue for each element, and they are few
few_elements : {X : Type 0} (place : ThePlace) (kind : QueueKind) (names : Vec X Global) (elements n : ℕ) → IsProper place → length (queue_names kind place.levels place.paths) ≡ elements →
    length names.items ≡ elements → n ≡ vec_len names → n < 2 ^ 32
few_elements place kind names elements n proper each named counted = omega (arith, few_of_kind place proper kind, each, named, counted)

pub overflow_cast-result : goal.overflow_cast-result
overflow_cast-result c =
    let place = c.args.place.now in
    let elements = element_paths place.paths in
    let each = ap (λ kind. length (queue_names kind place.levels place.paths)) c.in-Elements.is ∙ length-map elements (element_queue_name place.levels elements) in
    omega (arith, few_elements place c.args.kind c.in_ok-names-in-Elements.field-0 (length elements) _ c.requires each (ap length c.in_ok-names-in-Elements.ensures) c.len.ensures)
