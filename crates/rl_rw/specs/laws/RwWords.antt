-- The words of the counters stand behind those of the tree, and no two are one; an act keeps the counters that it doesn't speak of.
use Rattle.std.specs.Prelude.{Bool, false, nat_lt, ◌≡◌, ◌≢◌, ◌⊎◌, ℕ, suc, ◌+◌, ◌-◌, ◌*◌, ◌/◌, ◌<◌, ◌≤◌, true, List, [], ◌∷◌, ◌++◌, length, slice_index, slice_set, Some, refl, is_some}
use Rattle.std.proofs.Common.{sym, ◌∙◌, ap, subst, inl, inr, ⊎_elim, arith}
use Rattle.std.proofs.lemmas.Bool.Decides.{eqb_tells, nat_tests}
use Rattle.std.proofs.Math.Nat.{div-mul-le_self, le-div_iff_mul-le, suc-mul}
use Rattle.rl_word.specs.declared.acts.Act.{Act}
use Rattle.rl_word.specs.declared.acts.Act.TheVariants.{CardAdd}
use Rattle.rl_word.specs.Acts.{word_of, written, told}
use Rattle.rl_step.specs.declared.events.Event.{Event}
use Rattle.rl_step.specs.Lock.{Deed}
use Rattle.rl_step.specs.laws.QueueLemmas.{eqb_means}
use Rattle.rl_step.specs.Batches.{Batched}
use Rattle.rl_step.specs.laws.BatchLaws.{MayEnter, act_batches}
use Rattle.rl_queue.specs.laws.RankWordLaws.{every_second_at, length-every_second}
use Rattle.rl_tree.specs.Elements.{ranks_in, how_many}
use Rattle.rl_counter.specs.declared.view.Doing.{Doing}
use Rattle.rl_counter.specs.CounterGood.{AreCounted, AreSound}
use Rattle.rl_counter.specs.CounterStatements.{IsOfGroup}
use Rattle.rl_counter.specs.Counter.{arrive_word, busy, depart_word}
use Rattle.rl_rw.specs.declared.view.RwView.{RwView}
use Rattle.rl_rw.specs.Rw.{Shared, groups, behind_tree, counters_of, plan_of, rw_learn, mine_of}
use Rattle.rl_rw.specs.laws.RwEnters.{rw_fits}

-- what is asked of the numbers: a budget for the root, few readers, few ranks, groups of one rank at least, few elements, and ranks
-- that sit on nodes
pub record IsSound (K : Shared) : Type 0 where
  pub limited : is_some K.rooted.root ≡ true
  pub few : K.readers ≤ 1000
  pub seats : ranks_in K.rooted ≤ 32
  pub grouped : 0 < K.group
  pub small : how_many K.rooted ≤ ranks_in K.rooted * 4
  pub seated : (r : ℕ) → r < ranks_in K.rooted → slice_index K.rooted.shape.node_of r < K.rooted.shape.nodes

-- a group that has a rank is there
pub group_there : (K : Shared) (r : ℕ) → IsSound K → r < ranks_in K.rooted → r / K.group < groups K
group_there K r d lt =
    let a : r / K.group * K.group ≤ r = div-mul-le_self r K.group in
    let b : suc (r / K.group) * K.group ≡ r / K.group * K.group + K.group = suc-mul (r / K.group) K.group in
    let c : 0 < K.group = d.grouped in
    let e : suc (r / K.group) * K.group ≤ ranks_in K.rooted + K.group - 1 = omega arith in
    let f : suc (r / K.group) ≤ groups K = (le-div_iff_mul-le d.grouped).1 e in omega arith

-- and the first rank of a group is there
pub group_first : (K : Shared) (g : ℕ) → IsSound K → g < groups K → g * K.group < ranks_in K.rooted
group_first K g d lt =
    let f : suc g ≤ groups K = omega arith in
    let e : suc g * K.group ≤ ranks_in K.rooted + K.group - 1 = (le-div_iff_mul-le d.grouped).0 f in
    let b : suc g * K.group ≡ g * K.group + K.group = suc-mul g K.group in
    let c : 0 < K.group = d.grouped in omega arith

-- few ranks make few groups
pub groups_low : (n g : ℕ) → n ≤ 32 → 0 < g → (n + g - 1) / g ≤ 32
groups_low n g few some = by (nat_lt 32 ((n + g - 1) / g)) refl where
  by : (b : Bool) → nat_lt 32 ((n + g - 1) / g) ≡ b → (n + g - 1) / g ≤ 32
  by true e =
      let many : suc 32 ≤ (n + g - 1) / g = grind (arith, nat_tests) in
      let much : suc 32 * g ≤ n + g - 1 = (le-div_iff_mul-le some).0 many in absurd (omega arith)
  by false e = grind (arith, nat_tests)

pub arrive_is : (K : Shared) (g : ℕ) → g < groups K → arrive_word (counters_of K) g ≡ behind_tree K + 2 * g
arrive_is K g lt = every_second_at (behind_tree K) (groups K) g lt

pub depart_is : (K : Shared) (g : ℕ) → g < groups K → depart_word (counters_of K) g ≡ behind_tree K + 1 + 2 * g
depart_is K g lt = every_second_at (behind_tree K + 1) (groups K) g lt

pub are_counted : (K : Shared) (size : ℕ) → size ≡ behind_tree K + 2 * groups K → AreCounted (counters_of K) (groups K) size
are_counted K size e =
    record {
      many = length-every_second (behind_tree K) (groups K);
      arrive_there = λ g l. let a = arrive_is K g l in omega arith;
      depart_there = λ g l. let a = depart_is K g l in omega arith;
      arrive_once = λ g h l m q. let a = arrive_is K g l in let b = arrive_is K h m in omega arith;
      depart_once = λ g h l m q. let a = depart_is K g l in let b = depart_is K h m in omega arith;
      apart = λ g h l m q. let a = arrive_is K g l in let b = depart_is K h m in absurd (omega arith);
    }

pub self_mine : (K : Shared) (r : ℕ) → mine_of K (r / K.group) r ≡ true
self_mine K r = ⊎_elim (λ q. q.0) (λ q. absurd (q.1 refl)) (eqb_tells (r / K.group) (r / K.group))

-- an act of the tree leaves all counters
pub tree_word_apart : (K : Shared) (g w : ℕ) → g < groups K → w < behind_tree K → (w ≢ arrive_word (counters_of K) g) × (w ≢ depart_word (counters_of K) g)
tree_word_apart K g w lt low = (λ e. let a = arrive_is K g lt in absurd (omega arith), λ e. let a = depart_is K g lt in absurd (omega arith))

module _ (K : Shared) (d : IsSound K) where
  -- the counters have their words, and a rank is of its own group alone
  pub are_sound : (ws : List ℕ) (ps : List Doing) → length ws ≡ behind_tree K + 2 * groups K → length ps ≤ 32 → AreSound (counters_of K) (groups K) ws ps
  are_sound ws ps long le = record { few = d.few; seats = le; counted = are_counted K (length ws) long }

  pub of_group : (r : ℕ) → IsOfGroup (mine_of K) r (r / K.group)
  of_group r = record { mine_is = self_mine K r; alone = λ h e. sym (eqb_means (r / K.group) h e) }

  -- Each act keeps the batches bounded.
  pub batches_keep : (ws : List ℕ) (ds : List Deed) (r : ℕ) (v : RwView) (a : Act) → length ws ≡ behind_tree K + 2 * groups K →
      v.tree.rank ≡ r → v.counter.counter ≡ r / K.group → plan_of K v (busy v.counter.doing) ≡ Some a →
      ((word_of a < behind_tree K) ⊎ ((x : ℕ) → told a x ≡ x)) →
      ((g : ℕ) → g < groups K → Batched (mine_of K g) (behind_tree K + 2 * g) K.readers ws ds) → (g : ℕ) → g < groups K →
      Batched (mine_of K g) (behind_tree K + 2 * g) K.readers (slice_set ws (word_of a) (written a (slice_index ws (word_of a))))
      (ds ++ record {
        rank = r;
        act = a;
        got = told a (slice_index ws (word_of a));
        events =
            (rw_learn K v (busy v.counter.doing) (told a (slice_index ws (word_of a)))).events;
      } ∷ [])
  batches_keep ws ds r v a long name own pl tells all g lt =
      let x : ℕ = slice_index ws (word_of a) in
      let es : List Event = (rw_learn K v (busy v.counter.doing) (told a (slice_index ws (word_of a)))).events in
      let fits : MayEnter (mine_of K g) (arrive_word (counters_of K) g) K.readers a (told a x) es =
      rw_fits (mine_of K g) K v (busy v.counter.doing) g a (told a x)
      (λ e. own ∙ eqb_means (r / K.group) g (subst (λ z. mine_of K g z ≡ true) name e)) refl pl in
      act_batches (mine_of K g) (behind_tree K + 2 * g) K.readers ws ds r a es (omega arith) (all g lt)
      (λ e. ⊎_elim (λ low. absurd (omega arith)) (λ f. f x) tells)
      (⊎_elim inl (λ z. inr (z.0 ∙ ap (λ y. CardAdd y 1) (arrive_is K g lt), subst (λ y. y < K.readers) (ap (λ y. told y x) z.0) z.1, z.2)) fits)
