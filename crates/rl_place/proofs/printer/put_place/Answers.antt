use Rattle.std.proofs.Common.{◌++◌, ap, ◌∙◌, List, ℕ}
use Rattle.rl_text.specs.Spelling.{text_of}
use Rattle.rl_place.specs.declared.path.Path.{Path}
use Rattle.rl_place.specs.Numbering.{node_paths}
use Rattle.rl_place.specs.Places.{ThePlace}
use Rattle.rl_place.specs.Spelling.{rank_lines, home_lines}
use Rattle.rl_place.proofs.Printing.{printed}
use Rattle.rl_place.proofs.printer.put_place.Goals as goal

pub returns : goal.returns
returns c =
    let place : ThePlace = record { levels = c.place.inside.levels; lock = c.place.inside.lock; geom = c.place.inside.geom; paths = c.place.inside.paths.items; homes = c.place.inside.homes.items } in
    let ranks = c.in_ok-put_ranks.ensures ∙ ap (λ (paths : List Path). c.put_geom.new.out.items ++ text_of (rank_lines 0 paths)) c.as_slice-paths.ensures.value in
    let homes = c.in_ok-put_homes_under.ensures
    ∙ ap (λ (paths : List Path). c.put_ranks.new.out.items ++ text_of (home_lines (node_paths paths) 0 c.as_slice.result.now)) c.as_slice-paths.ensures.value
    ∙ ap (λ (homes : List ℕ). c.put_ranks.new.out.items ++ text_of (home_lines (node_paths place.paths) 0 homes)) c.as_slice.ensures.value in
    rw (← c.place.view_is) (printed place _ _ _ _ _ _ _ _ c.in_ok-extend_from_slice.ensures.items c.in_ok-put_setting.ensures c.in_ok-put_lock.ensures c.in_ok-put_geom.ensures ranks homes c.in_ok-extend_from_slice-2.ensures.items)
