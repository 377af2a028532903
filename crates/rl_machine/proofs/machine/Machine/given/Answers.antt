-- A rank has at most as many calls as all ranks.
use Rattle.std.proofs.Common.{◌≡◌, ◌≤◌, List, [], length, map, get_or, ap, sym, subst, ◌∙◌, arith, Vec, Global}
use Rattle.std.proofs.lemmas.List.{length-map, get_or-map}
use Rattle.rl_model.specs.declared.call.Call.{Call}
use Rattle.rl_ops.specs.Ops.{total_calls}
use Rattle.rl_core.specs.laws.AskLaws.{few_calls}
use Rattle.rl_machine.proofs.machine.Machine.given.Goals as goal

pub overflow_cast-result : goal.overflow_cast-result
overflow_cast-result g c =
    let xs = c.as_slice.result.now in
    let v = c.index-as_slice-rank.result in
    let calls = c.args.self.now.calls in
    let items : Vec Call Global → List Call = λ list. list.items in
    let same : map items xs ≡ calls = c.as_slice.ensures ∙ ap (λ m. m.calls) c.self.view_is in
    let few : total_calls calls ≤ 20000 = subst (λ m. total_calls m.calls ≤ 20000) c.self.view_is c.self.invariant.few in
    let all : length (map items xs) ≡ length calls = ap length same in
    let long : length (map items xs) ≡ length xs = length-map xs items in
    let low = c.requires in
    let at : get_or calls c.args.rank [] ≡ v.items =
    ap (λ l. get_or l c.args.rank []) (sym same) ∙ get_or-map items xs c.args.rank v [] (omega (arith, all, long, low)) ∙ ap items (sym c.index-as_slice-rank.is) in
    let most : length (get_or calls c.args.rank []) ≤ 20000 = few_calls calls c.args.rank 20000 few in
    let most_here : length v.items ≤ 20000 = subst (λ l. length l ≤ 20000) at most in
    let is = c.len.ensures in
    omega (arith, most_here, is)
