-- The page's own lines, and the two texts behind them.
use Rattle.std.proofs.Common.{ap, ◌∙◌}
use Rattle.rl_text.specs.Spelling.{text_of}
use Rattle.rl_page.specs.PageData.{own_lines, files_text, replay_text}
use Rattle.rl_page.proofs.PageLaws.{two_behind}
use Rattle.rl_page.proofs.paging.page_data.Goals as goal

pub returns : goal.returns
returns c =
    let place = c.args.place.now in
    let schedule = c.args.schedule.now in
    two_behind
    (text_of (own_lines c.args.window schedule.turns)) (files_text place c.args.ops) (replay_text place c.args.ops schedule c.args.window)
    c.in_ok-out.out.items c.extend_from_slice.new.self.items c.extend_from_slice-2.new.self.items c.as_slice-2.result.now c.as_slice-3.result.now
    (c.in_ok-out.ensures ∙ ap (λ t. text_of (own_lines c.args.window t)) c.as_slice.ensures)
    c.in_ok-extend_from_slice.ensures.items
    (c.as_slice-2.ensures.value ∙ c.in_ok-files_text.ensures)
    c.in_ok-extend_from_slice-2.ensures.items
    (c.as_slice-3.ensures.value ∙ c.in_ok-replay_text.ensures)
