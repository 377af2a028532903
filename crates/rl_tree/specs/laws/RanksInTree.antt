-- Where a rank stands in a good state of a tree, and where it acts there, as one value; and what follows of each.
use Rattle.std.specs.Prelude.{◌≡◌, ℕ, ◌<◌, ◌≤◌, false, List, length, slice_get, slice_index, slice_set, Option, Some}
use Rattle.std.proofs.Common.{sym, ◌∙◌, ap, subst}
use Rattle.std.proofs.lemmas.Option.{slice_get_within}
use Rattle.rl_word.specs.Acts.{word_of, written, told}
use Rattle.rl_word.specs.declared.acts.Act.{Act}
use Rattle.rl_step.specs.declared.events.Event.{Event}
use Rattle.rl_queue.specs.declared.view.Phase.{Phase}
use Rattle.rl_queue.specs.Queue.{TheNames, QueueTurn, plan_at, turn_at}
use Rattle.rl_queue.specs.Heads.{Head}
use Rattle.rl_tree.specs.declared.view.TreeView.{TreeView}
use Rattle.rl_tree.specs.declared.rooted.Rooted.{Rooted}
use Rattle.rl_tree.specs.Elements.{how_many, ranks_in, leaf_of_rank, names_in}
use Rattle.rl_tree.specs.TreeGood.{Tells, Shaped, TreeGood}
use Rattle.rl_tree.specs.TreeShape.{IsWellShaped}
use Rattle.rl_tree.specs.laws.TreePaths.{put, head_by, OnPath, el, me, el_there}
use Rattle.rl_tree.specs.laws.TreeWords.{IsWorded}

-- a rank stands in a good state of the tree
pub record StandsInTree (K : Rooted) (levels : ℕ) : Type 0 where
  pub on : OnPath K levels
  pub words : List ℕ
  pub views : List TreeView
  pub trace : List Event
  pub good : TreeGood K levels words views trace
  pub has : slice_get views on.view.rank ≡ Some on.view
  pub all_there : length views ≡ ranks_in K

module _ {K : Rooted} {levels : ℕ} (s : StandsInTree K levels) where
  -- the queue at the rank's level, and the member for which it works there
  abbrev pub queue_of : ℕ
  queue_of = el s.on s.on.view.level

  abbrev pub member_of : ℕ
  member_of = me s.on s.on.view.level

  abbrev pub names_of : TheNames
  names_of = names_in K queue_of

  -- the head of each queue
  abbrev pub head_before : ℕ → Option Head
  head_before x = head_by K s.words s.good.phase s.good.line x

  pub shape_of : Shaped levels s.on.view
  shape_of = s.good.by.shaped s.on.view.rank s.on.view s.has

  pub level_low : s.on.view.level ≤ levels
  level_low = shape_of.within

  pub queue_there : queue_of < how_many K
  queue_there = el_there s.on s.on.view.level level_low

  pub phase_of : s.on.view.query ≡ false → s.good.phase queue_of member_of ≡ s.on.view.phase
  phase_of asks_none = subst (λ z. Tells s.on.view z (s.good.phase queue_of member_of)) asks_none (s.good.by.here s.on.view.rank s.on.view s.has)

module _ {K : Rooted} {levels : ℕ} (S : IsWellShaped K levels) {ws : List ℕ} {vs : List TreeView} {t : List Event}
    (g : TreeGood K levels ws vs t) (all : length vs ≡ ranks_in K) (r : ℕ) (v : TreeView) (has : slice_get vs r ≡ Some v) where
  pub rank_is : v.rank ≡ r
  rank_is = (g.by.own r v has).0

  -- a rank of a good state stands there
  abbrev pub stands_of : StandsInTree K levels
  stands_of =
      record {
        on = record {
          well = S;
          view = v;
          own = (g.by.own r v has).1 ∙ ap (leaf_of_rank K) (sym rank_is);
          there = subst (λ z. z < ranks_in K) (sym rank_is) (subst (λ n. r < n) all (slice_get_within vs r v has));
        };
        words = ws;
        views = vs;
        trace = t;
        good = g;
        has = subst (λ z. slice_get vs z ≡ Some v) (sym rank_is) has;
        all_there = all;
      }

-- a rank acts where it stands: it plans an act in the queue at its level
pub record ActsInTree (K : Rooted) (levels : ℕ) : Type 0 where
  pub stands : StandsInTree K levels
  pub act : Act
  pub no_query : stands.on.view.query ≡ false
  pub worded : IsWorded K (length stands.words)
  pub planned : plan_at (names_of stands) (member_of stands) stands.on.view.phase ≡ Some act

module _ {K : Rooted} {levels : ℕ} (x : ActsInTree K levels) where
  -- what it finds, the words after it, and the turn of the queue at its level
  abbrev pub finds : ℕ
  finds = told x.act (slice_index x.stands.words (word_of x.act))

  abbrev pub words_after : List ℕ
  words_after = slice_set x.stands.words (word_of x.act) (written x.act (slice_index x.stands.words (word_of x.act)))

  abbrev pub turn_of : QueueTurn
  turn_of = turn_at (names_of x.stands) (member_of x.stands) x.stands.on.view.phase finds

  abbrev pub phases_after : ℕ → ℕ → Phase
  phases_after = put x.stands.good.phase (queue_of x.stands) (member_of x.stands) turn_of.phase

  pub phase_was : x.stands.good.phase (queue_of x.stands) (member_of x.stands) ≡ x.stands.on.view.phase
  phase_was = phase_of x.stands x.no_query
