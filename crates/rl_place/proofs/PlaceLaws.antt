-- A placement's text: what is read is spelled so, and what is spelled so is read.
use Rattle.std.proofs.Common.{◌≡◌, ℕ, ◌+◌, ◌^◌, ◌<◌, ◌≤◌, true, List, [], ◌∷◌, ◌++◌, length, get_or, codes, None, Result, Ok, Err, refl, sym, ap, subst, ◌∙◌, arith}
use Rattle.std.specs.List.{AllByRecursion}
use Rattle.std.specs.Prelude.{IfOk}
use Rattle.rl_text.specs.declared.causes.Refusal.{Refusal}
use Rattle.rl_text.specs.declared.causes.Why.TheVariants.{Word}
use Rattle.rl_text.specs.declared.failing.TextErr.{TextErr}
use Rattle.rl_text.specs.Rows.{Row, Left, rows_from}
use Rattle.rl_text.specs.Reading.{Gives, fault_of, fixed_at, header_at, next_left, begins, next_begins}
use Rattle.rl_text.proofs.FromLaws.{from_bind}
use Rattle.rl_text.proofs.TextLaws.{IsPlain, AllByRecursion-append, is_plain, rows_of_lines, rows-text, text-lines, AreLines}
use Rattle.rl_text.proofs.WordLaws.{ok_is, begins-is, fixed-takes, fixed-again, header-takes, header-again, end-takes, end-again, plain-decimal, words-made}
use Rattle.rl_text.proofs.SectionLaws.{Followed, Followed-head, Followed-then, Followed-split, Followed-lines, Lines-followed, line-takes, line-again, one_line, left_of}
use Rattle.rl_model.specs.declared.geom.Geom.{Geom}
use Rattle.rl_model.specs.Geom.{GeomFits}
use Rattle.rl_place.specs.declared.limits.TheConstants.{MOST_BUDGET, MOST_RANKS}
use Rattle.rl_place.specs.declared.path.Path.{Path}
use Rattle.rl_place.specs.declared.lock.Lock.{Lock}
use Rattle.rl_place.specs.declared.lock.Lock.TheVariants.{Spin, Dmcs, Alock, Mcs, Rw, Seq, Combine}
use Rattle.rl_place.specs.Paths.{IsPath, root_path}
use Rattle.rl_place.specs.Numbering.{node_paths}
use Rattle.rl_place.specs.Places.{ThePlace, IsProper, LockFits}
use Rattle.rl_place.specs.Reading.{setting_next, lock_next, geom_next, ranks_next, homes_next, opening_next, closing_at, place_at, place_fault}
use Rattle.rl_place.specs.Spelling.{setting_words, budget_words, lock_lines, geom_lines, rank_lines, home_words, home_lines, place_lines, place_spelling}
use Rattle.rl_place.proofs.SettingLaws.{ReadsTo, setting_next-takes, setting_next-again, geom-takes, geom-again}
use Rattle.rl_place.proofs.LockSections.{lock-takes, lock-again}
use Rattle.rl_place.proofs.PathLaws.{plain-path, plain-numbers}
use Rattle.rl_place.proofs.NodeLaws.{node_found, all_nodes, all-get_or}
use Rattle.rl_place.proofs.RankLaws.{ranks-take, ranks-again}
use Rattle.rl_place.proofs.HomeLaws.{homes-take, homes-again}

-- ---- the first line and the last

abbrev opening : List (List (List ℕ))
opening = (codes "rmalock-place" ∷ codes "1" ∷ []) ∷ []

abbrev closing : List (List (List ℕ))
closing = (codes "end" ∷ []) ∷ []

opening-takes : (left : Left) (p : Unit {0} × Left) → opening_next left ≡ Ok p → Followed left.rows opening p.1.rows
unfolding opening_next
opening-takes left p e =
    from_bind (next_left left) _ p e (λ line taken e1.
    from_bind (header_at line.0 (codes "rmalock-place")) _ p e1 (λ u header e2.
    subst (λ (q : Unit {0} × Left). Followed left.rows opening q.1.rows) (ok_is (tt, line.1) p e2)
    (one_line left line _ (line-takes left line taken) (header-takes line.0 (codes "rmalock-place") u header))))

opening-again : (left : Left) (rest : List Row) → Followed left.rows opening rest → ReadsTo (opening_next left) tt rest
unfolding opening_next
opening-again left rest f =
    let h = Followed-head left.rows (codes "rmalock-place" ∷ codes "1" ∷ []) [] rest f in
    let rows : left.rows ≡ h.row ∷ rest = h.are ∙ ap (λ (more : List Row). h.row ∷ more) h.others in
    (left.read + 1, rw (line-again left h.row rest rows h.line.ended, header-again h.row (codes "rmalock-place") h.line.words) refl)

closing-takes : (left : Left) (u : Unit {0}) → closing_at left ≡ Ok u → Followed left.rows closing []
unfolding closing_at
closing-takes left u e =
    from_bind (next_left left) _ u e (λ line taken e1.
    from_bind (fixed_at line.0 1 (codes "end") Word) _ u e1 (λ v named e2.
    let t = line-takes left line taken in
    let first : begins line.0 (codes "end") ≡ true = begins-is line.0 (codes "end") (codes "end") (fixed-takes line.0 1 (codes "end") Word v named) in
    subst (λ (rows : List Row). Followed rows closing []) (sym t.rows) (Lines-followed (line.0 ∷ line.1.rows) closing (end-takes line.0 line.1.rows u t.ended first e2))))

closing-again : (left : Left) → Followed left.rows closing [] → closing_at left ≡ Ok tt
unfolding closing_at
closing-again left f =
    let h = Followed-head left.rows (codes "end" ∷ []) [] [] f in
    let rows : left.rows ≡ h.row ∷ [] = h.are ∙ ap (λ (more : List Row). h.row ∷ more) h.others in
    rw (line-again left h.row [] rows h.line.ended, fixed-again h.row 1 (codes "end") Word (rw h.line.words refl)) (end-again h.row h.line.words).1

-- ---- what is read is spelled so

pub record PlaceTaken (text : List ℕ) (place : ThePlace) : Type 0 where
  pub proper : IsProper place
  pub spelled : text ≡ place_spelling place

pub place-takes : (text : List ℕ) (place : ThePlace) → place_at text ≡ Ok place → PlaceTaken text place
unfolding place_at
place-takes text place e =
    let start = left_of (rows_from 1 text) 0 in
    from_bind (opening_next start) _ place e (λ first first_read e1.
    from_bind (setting_next (codes "levels") 1 3 first.1) _ place e1 (λ levels levels_read e2.
    from_bind (lock_next levels.0 levels.1) _ place e2 (λ lock lock_read e3.
    from_bind (geom_next lock.1) _ place e3 (λ geom geom_read e4.
    from_bind (ranks_next levels.0 geom.1) _ place e4 (λ paths paths_read e5.
    from_bind (homes_next levels.0 (node_paths paths.0) geom.0.shards paths.1) _ place e5 (λ homes homes_read e6.
    from_bind (closing_at homes.1) _ place e6 (λ last last_read e7.
    let a = opening-takes start first first_read in
    let b = setting_next-takes (codes "levels") 1 3 first.1 levels levels_read in
    let c = lock-takes levels.0 levels.1 lock lock_read in
    let d = geom-takes lock.1 geom geom_read in
    let r = ranks-take levels.0 0 geom.1.read geom.1.rows paths paths_read in
    let h = homes-take levels.0 (node_paths paths.0) geom.0.shards 0 geom.0.shards paths.1 homes homes_read in
    let z = closing-takes homes.1 last last_read in
    let homes_on = home_lines (node_paths paths.0) 0 homes.0 ++ closing in
    let ranks_on = rank_lines 0 paths.0 ++ homes_on in
    let geom_on = geom_lines geom.0 ++ ranks_on in
    let lock_on = lock_lines lock.0 ++ geom_on in
    let levels_on = setting_words (codes "levels") levels.0 ∷ lock_on in
    let f1 : Followed paths.1.rows homes_on [] = Followed-then paths.1.rows homes.1.rows [] (home_lines (node_paths paths.0) 0 homes.0) closing h.lines z in
    let f2 : Followed geom.1.rows ranks_on [] = Followed-then geom.1.rows paths.1.rows [] (rank_lines 0 paths.0) homes_on r.lines f1 in
    let f3 : Followed lock.1.rows geom_on [] = Followed-then lock.1.rows geom.1.rows [] (geom_lines geom.0) ranks_on d.lines f2 in
    let f4 : Followed levels.1.rows lock_on [] = Followed-then levels.1.rows lock.1.rows [] (lock_lines lock.0) geom_on c.lines f3 in
    let f5 : Followed first.1.rows levels_on [] = Followed-then first.1.rows levels.1.rows [] (setting_words (codes "levels") levels.0 ∷ []) lock_on b.lines f4 in
    let made : ThePlace = record { levels = levels.0; lock = lock.0; geom = geom.0; paths = paths.0; homes = homes.0 } in
    let all : Followed (rows_from 1 text) (place_lines made) [] = Followed-then (rows_from 1 text) first.1.rows [] opening levels_on a f5 in
    subst (λ (q : ThePlace). PlaceTaken text q) (ok_is made place e7) (record {
      proper = record {
        some_levels = b.least;
        most_levels = b.most;
        lock = c.fits;
        geom = d.fits;
        some_ranks = r.some;
        most_ranks = omega (arith, r.few);
        paths = r.proper;
        each_shard = h.each;
        homes = h.there;
      };
      spelled = text-lines 1 text (place_lines made) (Followed-lines (rows_from 1 text) (place_lines made) all);
    }))))))))

-- ---- the words of its lines are plain

plain-setting : (name : List ℕ) (n : ℕ) → is_plain name ≡ true → n < 2 ^ 64 → IsPlain (setting_words name n)
plain-setting name n named fits = (omega arith, (named, (plain-decimal n fits, tt)))

fit : (budgets : List ℕ) → AllByRecursion (λ budget. budget ≤ MOST_BUDGET) budgets → AllByRecursion (λ n. n < 2 ^ 64) budgets
fit [] h = tt
fit (budget ∷ budgets) h = (omega (arith, h.0), fit budgets h.1)

plain-budgets : (budgets : List ℕ) → AllByRecursion (λ budget. budget ≤ MOST_BUDGET) budgets → IsPlain (budget_words budgets)
plain-budgets budgets small = (omega arith, (refl, plain-numbers budgets (fit budgets small)))

plain-lock : (levels : ℕ) (lock : Lock) → LockFits levels lock → AllByRecursion IsPlain (lock_lines lock)
plain-lock levels Spin fits = ((omega arith, (refl, (refl, tt))), tt)
plain-lock levels Dmcs fits = ((omega arith, (refl, (refl, tt))), tt)
plain-lock levels (Alock local remote) fits = ((omega arith, (refl, (refl, tt))), (plain-budgets (local ∷ remote ∷ []) (fits.0, (fits.1, tt)), tt))
plain-lock levels (Seq local remote) fits = ((omega arith, (refl, (refl, tt))), (plain-budgets (local ∷ remote ∷ []) (fits.0, (fits.1, tt)), tt))
plain-lock levels (Combine local remote) fits = ((omega arith, (refl, (refl, tt))), (plain-budgets (local ∷ remote ∷ []) (fits.0, (fits.1, tt)), tt))
plain-lock levels (Mcs budgets) fits = ((omega arith, (refl, (refl, tt))), (plain-budgets budgets fits.small, tt))
plain-lock levels (Rw budgets writers readers group) fits = (
  (omega arith, (refl, (refl, tt))),
  (
    plain-budgets budgets fits.each.small,
    (
      plain-setting (codes "writers") writers refl (omega (arith, fits.most_writers)),
      (
        plain-setting (codes "readers") readers refl (omega (arith, fits.most_readers)),
        (plain-setting (codes "group") group refl (omega (arith, fits.most_group)), tt),
      ),
    ),
  ),
)

plain-geom : (geom : Geom) → GeomFits geom → AllByRecursion IsPlain (geom_lines geom)
plain-geom geom fits = (
  plain-setting (codes "shards") geom.shards refl (omega (arith, fits.shards)),
  (
    plain-setting (codes "buckets") geom.buckets refl (omega (arith, fits.buckets)),
    (plain-setting (codes "overflow") geom.overflow refl (omega (arith, fits.overflow)), tt),
  ),
)

plain-ranks : (levels next : ℕ) (paths : List Path) → next + length paths ≤ MOST_RANKS → AllByRecursion (λ path. IsPath levels path) paths → AllByRecursion IsPlain (rank_lines next paths)
plain-ranks levels next [] few proper = tt
plain-ranks levels next (path ∷ paths) few proper =
    ((omega arith, (refl, (plain-decimal next (omega (arith, few)), (refl, (plain-path levels path proper.0, tt))))), plain-ranks levels (next + 1) paths (omega (arith, few)) proper.1)

plain-homes : (levels : ℕ) (nodes : List Path) (next : ℕ) (homes : List ℕ) → next + length homes ≤ 16 → AllByRecursion (λ path. IsPath levels path) nodes → AllByRecursion (λ home. home < length nodes) homes
    → AllByRecursion IsPlain (home_lines nodes next homes)
plain-homes levels nodes next [] few proper there = tt
plain-homes levels nodes next (home ∷ homes) few proper there =
    let path = all-get_or (λ p. IsPath levels p) nodes home root_path proper there.0 in
    ((omega arith, (refl, (plain-decimal next (omega (arith, few)), (plain-path levels (get_or nodes home root_path) path, tt)))), plain-homes levels nodes (next + 1) homes (omega (arith, few)) proper there.1)

plain-place : (place : ThePlace) → IsProper place → AllByRecursion IsPlain (place_lines place)
plain-place place proper =
    let nodes = all_nodes (λ p. IsPath place.levels p) place.paths proper.paths in
    let few_homes : 0 + length place.homes ≤ 16 = omega (arith, proper.each_shard, proper.geom.shards) in
    let few_ranks : 0 + length place.paths ≤ MOST_RANKS = omega (arith, proper.most_ranks) in
    let homes_on = home_lines (node_paths place.paths) 0 place.homes ++ closing in
    let ranks_on = rank_lines 0 place.paths ++ homes_on in
    let geom_on = geom_lines place.geom ++ ranks_on in (
      (omega arith, (refl, (refl, tt))),
      (
        plain-setting (codes "levels") place.levels refl (omega (arith, proper.most_levels)),
        AllByRecursion-append IsPlain (lock_lines place.lock) geom_on (plain-lock place.levels place.lock proper.lock)
            (AllByRecursion-append IsPlain (geom_lines place.geom) ranks_on (plain-geom place.geom proper.geom)
            (AllByRecursion-append IsPlain (rank_lines 0 place.paths) homes_on (plain-ranks place.levels 0 place.paths few_ranks proper.paths)
            (AllByRecursion-append IsPlain (home_lines (node_paths place.paths) 0 place.homes) closing (plain-homes place.levels (node_paths place.paths) 0 place.homes few_homes nodes proper.homes)
            ((omega arith, (refl, tt)), tt)))),
      ),
    )

-- ---- what is spelled so is read

are-made : (n : ℕ) (lines : List (List (List ℕ))) → AllByRecursion IsPlain lines → AreLines (rows_of_lines n lines) lines
are-made n [] plain = tt
are-made n (ws ∷ lines) plain = (record { ended = refl; words = words-made n ws plain.0 }, are-made (n + 1) lines plain.1)

-- the first line of the homes begins with home
home_first : (nodes : List Path) (homes : List ℕ) (rows rest : List Row) → 1 ≤ length homes → Followed rows (home_lines nodes 0 homes) rest → next_begins rows (codes "home") ≡ true
home_first nodes [] rows rest some f = absurd (omega (arith, some))
home_first nodes (home ∷ homes) rows rest some f =
    let h = Followed-head rows (home_words 0 (get_or nodes home root_path)) (home_lines nodes 1 homes) rest f in
    ap (λ (rs : List Row). next_begins rs (codes "home")) h.are ∙ begins-is h.row (codes "home") (codes "home") (rw h.line.words refl)

read-again : (text : List ℕ) (place : ThePlace) → IsProper place → Followed (rows_from 1 text) (place_lines place) [] → place_at text ≡ Ok place
unfolding place_at
read-again text place proper all =
    let start = left_of (rows_from 1 text) 0 in
    let nodes = node_paths place.paths in
    let nodes_proper = all_nodes (λ p. IsPath place.levels p) place.paths proper.paths in
    let few_ranks : 0 + length place.paths ≤ MOST_RANKS = omega (arith, proper.most_ranks) in
    let homes_on = home_lines nodes 0 place.homes ++ closing in
    let ranks_on = rank_lines 0 place.paths ++ homes_on in
    let geom_on = geom_lines place.geom ++ ranks_on in
    let lock_on = lock_lines place.lock ++ geom_on in
    let f1 = Followed-split (rows_from 1 text) [] opening (setting_words (codes "levels") place.levels ∷ lock_on) all in
    let f2 = Followed-split f1.0 [] (setting_words (codes "levels") place.levels ∷ []) lock_on f1.2 in
    let f3 = Followed-split f2.0 [] (lock_lines place.lock) geom_on f2.2 in
    let f4 = Followed-split f3.0 [] (geom_lines place.geom) ranks_on f3.2 in
    let f5 = Followed-split f4.0 [] (rank_lines 0 place.paths) homes_on f4.2 in
    let f6 = Followed-split f5.0 [] (home_lines nodes 0 place.homes) closing f5.2 in
    let home = home_first nodes place.homes f5.0 f6.0 (omega (arith, proper.each_shard, proper.geom.some_shards)) f6.1 in
    let a = opening-again start f1.0 f1.1 in
    let b = setting_next-again (codes "levels") 1 3 (left_of f1.0 a.0) place.levels f2.0 (omega arith) proper.some_levels proper.most_levels f2.1 in
    let c = lock-again place.levels place.lock (left_of f2.0 b.0) f3.0 proper.lock f3.1 in
    let d = geom-again (left_of f3.0 c.0) place.geom f4.0 proper.geom f4.1 in
    let r = ranks-again place.levels 0 d.0 f4.0 place.paths f5.0 proper.some_levels proper.paths proper.some_ranks few_ranks home f5.1 in
    let h = homes-again place.levels nodes place.geom.shards 0 place.geom.shards place.homes (left_of f5.0 r.0) f6.0 proper.some_levels (omega (arith, proper.geom.shards)) nodes_proper (node_found place.paths)
    proper.each_shard (omega arith) proper.homes f6.1 in
    let z = closing-again (left_of f6.0 h.0) f6.2 in
    rw (a.1, b.1, c.1, d.1, r.1, h.1, z) refl

pub place-again : (place : ThePlace) → IsProper place → place_at (place_spelling place) ≡ Ok place
place-again place proper =
    let plain = plain-place place proper in
    let rows : rows_from 1 (place_spelling place) ≡ rows_of_lines 1 (place_lines place) = rows-text 1 (place_lines place) plain in
    read-again (place_spelling place) place proper (subst (λ (rs : List Row). Followed rs (place_lines place) []) (sym rows) (Lines-followed (rows_of_lines 1 (place_lines place)) (place_lines place) (are-made 1 (place_lines place) plain)))

-- ---- the contracts of the reader

pub is_found : (text : List ℕ) (r : Result ThePlace TextErr) → Gives r (place_at text) → IfOk r (λ place. IsProper place × (text ≡ place_spelling place))
is_found text (Ok place) given = let t = place-takes text place given in (t.proper, t.spelled)
is_found text (Err e) given = tt

pub is_only : (text : List ℕ) (r : Result ThePlace TextErr) (place : ThePlace) → Gives r (place_at text) → IsProper place → text ≡ place_spelling place → Gives r (Ok place)
is_only text r place given proper e = subst (λ (read : Result ThePlace Refusal). Gives r read) (ap place_at e ∙ place-again place proper) given

no_fault-at : (text : List ℕ) (r : Result ThePlace Refusal) → place_at text ≡ r → fault_of r ≡ None → (place : ThePlace) × IsProper place × (text ≡ place_spelling place)
no_fault-at text (Ok place) e none = let t = place-takes text place e in (place, t.proper, t.spelled)
no_fault-at text (Err f) e none = absurd cc

pub no_fault-value : (text : List ℕ) → place_fault text ≡ None → (place : ThePlace) × IsProper place × (text ≡ place_spelling place)
no_fault-value text none = no_fault-at text (place_at text) refl none

pub value-no_fault : (text : List ℕ) → (place : ThePlace) × IsProper place × (text ≡ place_spelling place) → place_fault text ≡ None
value-no_fault text v = ap fault_of (ap place_at v.2 ∙ place-again v.0 v.1)

ok_place : (a b : ThePlace) → ◌≡◌ {A = Result ThePlace Refusal} (Ok a) (Ok b) → a ≡ b
ok_place a b e = ok_is a b e

-- two proper placements with one spelling are the same
pub one_place : (a b : ThePlace) → IsProper a → IsProper b → place_spelling a ≡ place_spelling b → a ≡ b
one_place a b first second e = ok_place a b (sym (place-again a first) ∙ ap place_at e ∙ place-again b second)
