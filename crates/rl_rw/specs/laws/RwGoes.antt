-- What makes a rank go on: an act that brings it nearer or empties a counter; or one with less change, that is a load or is on an arrive word.
-- So who goes out of a counter goes on, whatever others do.
use Rattle.std.specs.Prelude.{◌≡◌, ◌≢◌, ℕ, ◌+◌, ◌*◌, ◌%◌, ◌^◌, ◌<◌, ◌≤◌, true, false, List, length, slice_get, slice_index, slice_set, Some, refl}
use Rattle.std.proofs.Common.{sym, ◌∙◌, ap, subst, inr, ⊎_elim, arith, get_or-set_other}
use Rattle.std.proofs.lemmas.List.{set-get_or}
use Rattle.rl_word.specs.laws.Places.{same_or_not}
use Rattle.rl_word.specs.declared.acts.Act.{Act}
use Rattle.rl_word.specs.declared.acts.Act.TheVariants.{Load, CardAdd}
use Rattle.rl_word.specs.Acts.{word_of, written, told}
use Rattle.rl_step.specs.declared.events.Standing.TheVariants as standing
use Rattle.rl_step.specs.Lock.{LockState, found}
use Rattle.rl_tree.specs.declared.view.TreeView.{TreeView}
use Rattle.rl_tree.specs.Tree.{path, tree_standing}
use Rattle.rl_tree.specs.Elements.{how_many, tree_of}
use Rattle.rl_tree.specs.TreeFacts.{TreeFacts}
use Rattle.rl_tree.specs.TreeShape.{IsWellShaped}
use Rattle.rl_tree.specs.laws.RanksInTree.{stands_of, queue_there}
use Rattle.rl_tree.specs.laws.TreeStandings.{out_is}
use Rattle.rl_counter.specs.declared.view.Doing.{Doing}
use Rattle.rl_counter.specs.declared.view.Doing.TheVariants.{Arrive, Refused, SeeTail, Reset as ResetOff, Depart, Compare}
use Rattle.rl_counter.specs.Counter.{arrive_word, busy, depart_word, off}
use Rattle.rl_counter.specs.CounterGood.{AreCounted}
use Rattle.rl_ending.specs.Ending.{CanGoOn}
use Rattle.rl_ending.specs.laws.EndingLaws.{goes_on_by}
use Rattle.rl_rw.specs.declared.view.RwView.{RwView}
use Rattle.rl_rw.specs.Rw.{Shared, groups, behind_tree, counters_of, rw_view, plan_of, rw_learn, rw_table}
use Rattle.rl_rw.specs.RwGood.{Place, RwGood}
use Rattle.rl_rw.specs.laws.RwWords.{IsSound, group_there, arrive_is, are_counted}
use Rattle.rl_rw.specs.laws.RwKeeps.{as_tree, all_trees, is_there}
use Rattle.rl_rw.specs.RwLeft.{far_by, far_in, far_at, rw_far, is_full, fulls, near_at, rw_near, rw_left}
use Rattle.rl_rw.specs.laws.RwSums.{nearer, less_change}
use Rattle.rl_rw.specs.laws.RwNear.{near_few, near_kept, other_gone, other_full, reset_full, fulls_less, fulls_same, fulls_fall, fulls_grow, refused_falls, reset_falls}

-- who is out isn't far
pub out_far : (n m : ℕ) (t : TreeView) → tree_standing t ≡ standing.Out → far_in n m t ≡ 0
out_far n m t out = let o = out_is t.query t.phase out in ap (λ z. far_by n (2 * m) z t.level t.phase) o.0 ∙ ap (far_by n (2 * m) false t.level) o.1

module _ (K : Shared) (n : ℕ) (F : TreeFacts K.rooted n) (d : IsSound K) (S : IsWellShaped K.rooted n) where
  abbrev pub there : List ℕ → Act → List ℕ
  there ws a = slice_set ws (word_of a) (written a (slice_index ws (word_of a)))

  abbrev pub full_of : List ℕ → ℕ
  full_of ws = fulls K ws (groups K)

  abbrev pub Goes : LockState RwView → ℕ → Type 0
  Goes s r = CanGoOn (rw_table K) (rw_left K n) s r

  abbrev pub learns : LockState RwView → RwView → Act → RwView
  learns s v a = (rw_learn K v (busy v.counter.doing) (told a (found s a))).view

  -- an act that brings its rank nearer, or by which fewer counters are full
  pub by_far : (s : LockState RwView) (r : ℕ) (v : RwView) (a : Act) → slice_get s.views r ≡ Some v → plan_of K v (busy v.counter.doing) ≡ Some a →
      rw_far K n (learns s v a) + full_of (there s.words a) < rw_far K n v + full_of s.words → Goes s r
  by_far s r v a has pl lt =
      goes_on_by v a has pl
      (nearer 8 (rw_far K n) (rw_near K s.words) (rw_near K (there s.words a))
      (λ x. near_few K (there s.words a) x.counter.counter x.counter.doing x.tree) (full_of s.words)
      (full_of (there s.words a)) s.views r v (learns s v a) has lt)

  -- one by which its rank has less change, and no other rank another
  pub by_change : (s : LockState RwView) (r : ℕ) (v u : RwView) (a : Act) → slice_get s.views r ≡ Some v →
      plan_of K v (busy v.counter.doing) ≡ Some a → learns s v a ≡ u →
      ((i : ℕ) (x : RwView) → slice_get s.views i ≡ Some x → rw_near K (there s.words a) x ≡ rw_near K s.words x) → rw_far K n u ≡ rw_far K
      n v → full_of (there s.words a) ≡ full_of s.words → rw_near K (there s.words a) u < rw_near K s.words v → Goes s r
  by_change s r v u a has pl e others far full lt =
      goes_on_by v a has pl
      (subst (λ z. rw_left K n (there s.words a) (slice_set s.views r z) < rw_left K n s.words s.views) (sym e)
      (less_change 8 (rw_far K n) (rw_near K s.words) (rw_near K (there s.words a)) (full_of s.words)
      (full_of (there s.words a)) s.views r v u has others far full lt))

  -- so with one that writes what stands there
  pub by_still : (s : LockState RwView) (r : ℕ) (v u : RwView) (a : Act) → slice_get s.views r ≡ Some v →
      plan_of K v (busy v.counter.doing) ≡ Some a → there s.words a ≡ s.words → learns s v a ≡ u → rw_far K n u ≡ rw_far K n v →
      rw_near K s.words u < rw_near K s.words v → Goes s r
  by_still s r v u a has pl still e far lt =
      by_change s r v u a has pl e (λ i x h. ap (λ z. rw_near K z x) still) far (ap (λ z. full_of z) still)
      (subst (λ z. rw_near K z u < rw_near K s.words v) (sym still) lt)

  -- with a load
  pub by_look : (s : LockState RwView) (r : ℕ) (v u : RwView) (w : ℕ) → slice_get s.views r ≡ Some v →
      plan_of K v (busy v.counter.doing) ≡ Some (Load w) → learns s v (Load w) ≡ u → rw_far K n u ≡ rw_far K n v →
      rw_near K s.words u < rw_near K s.words v → Goes s r
  by_look s r v u w has pl e far lt = by_still s r v u (Load w) has pl (set-get_or s.words w 0) e far lt

  -- where a rank's counter, the one it compares, and its queue are
  pub own_there : (s : LockState RwView) (r : ℕ) (v : RwView) → RwGood K n s → slice_get s.views r ≡ Some v → v.counter.counter < groups K
  own_there s r v g has = subst (λ z. z < groups K) (sym (g.own r v has)) (group_there K r d (is_there K n F d s r v g has))

  pub compared_there : (s : LockState RwView) (r : ℕ) (v : RwView) (i a : ℕ) → RwGood K n s → slice_get s.views r ≡ Some v →
      v.counter.doing ≡ Compare i a → i < groups K
  compared_there s r v i a g has e = let row = subst (λ z. Place (groups K) z v.tree) e (g.place r v has) in row.2

  pub tail_low : (s : LockState RwView) (r : ℕ) (v : RwView) → RwGood K n s → slice_get s.views r ≡ Some v →
      path (tree_of K.rooted) v.tree.leaf v.tree.level < behind_tree K
  tail_low s r v g has =
      let lt : path (tree_of K.rooted) v.tree.leaf v.tree.level < how_many K.rooted =
      queue_there (stands_of S g.tree.tree (all_trees K n F d s g) r v.tree (as_tree K n F d s r v has)) in omega arith

  pub words_of_all : (s : LockState RwView) → RwGood K n s → AreCounted (counters_of K) (groups K) (length s.words)
  words_of_all s g = are_counted K (length s.words) g.all_words

  -- an arrive word is no queue's tail, and no depart word
  pub arrive_apart : (s : LockState RwView) (c g : ℕ) → RwGood K n s → c < groups K → g < groups K →
      arrive_word (counters_of K) c ≢ depart_word (counters_of K) g
  arrive_apart s c g good lc lg = (words_of_all s good).apart c g lc lg

  tail_kept : (s : LockState RwView) (r : ℕ) (v : RwView) (c x : ℕ) → RwGood K n s → slice_get s.views r ≡ Some v → c < groups K →
      slice_index (slice_set s.words (arrive_word (counters_of K) c) x)
      (path (tree_of K.rooted) v.tree.leaf v.tree.level) ≡ slice_index s.words (path (tree_of K.rooted) v.tree.leaf v.tree.level)
  tail_kept s r v c x g has lc =
      let low = tail_low s r v g has in
      let high = arrive_is K c lc in
      get_or-set_other s.words (arrive_word (counters_of K) c) (path (tree_of K.rooted) v.tree.leaf v.tree.level) x 0 (λ e. absurd (omega arith))

  -- a write to an arrive word changes nobody's change, and no counter that is full
  pub arrive_full : (s : LockState RwView) (c x : ℕ) → RwGood K n s → c < groups K →
      full_of (slice_set s.words (arrive_word (counters_of K) c) x) ≡ full_of s.words
  arrive_full s c x g lc = fulls_same K s.words (slice_set s.words (arrive_word (counters_of K) c) x) (groups K)
      (λ h lh. other_full K s.words (arrive_word (counters_of K) c) x h (arrive_apart s c h g lc lh))

  arrive_near : (s : LockState RwView) (r : ℕ) (v : RwView) (c x : ℕ) → RwGood K n s → slice_get s.views r ≡ Some v → c < groups K →
      rw_near K (slice_set s.words (arrive_word (counters_of K) c) x) v ≡ rw_near K s.words v
  arrive_near s r v c x g has lc =
      near_kept K s.words (slice_set s.words (arrive_word (counters_of K) c) x) v.counter.counter v.counter.doing v.tree (tail_kept s r v c x g has lc)
      (other_full K s.words (arrive_word (counters_of K) c) x v.counter.counter (arrive_apart s c v.counter.counter g lc (own_there s r v g has)))
      (λ i a e. other_gone K s.words (arrive_word (counters_of K) c) x i (arrive_apart s c i g lc (compared_there s r v i a g has e)))

  -- a reader that adds to its arrive word
  pub by_arrive : (s : LockState RwView) (r : ℕ) (t : TreeView) (c : ℕ) (p q : Doing) (y : ℕ) → RwGood K n s →
      slice_get s.views r ≡ Some (rw_view t c p) → plan_of K (rw_view t c p) (busy p) ≡ Some (CardAdd (arrive_word (counters_of K) c) y) →
      learns s (rw_view t c p) (CardAdd (arrive_word (counters_of K) c) y) ≡ rw_view t c q →
      far_at n (groups K) q t ≡ far_at n (groups K) p t → ((i a : ℕ) → q ≡ Compare i a → ⊥) →
      near_at K s.words c q t < near_at K s.words c p t → Goes s r
  by_arrive s r t c p q y g has pl e far plain lt =
      let v : RwView = rw_view t c p in
      let lc : c < groups K = own_there s r v g has in
      let x : ℕ = (slice_index s.words (arrive_word (counters_of K) c) + y) % 2 ^ 64 in
      let us : List ℕ = slice_set s.words (arrive_word (counters_of K) c) x in
      let own : near_at K us c q t ≡ near_at K s.words c q t =
      near_kept K s.words us c q t (tail_kept s r v c x g has lc)
      (other_full K s.words (arrive_word (counters_of K) c) x c (arrive_apart s c c g lc lc)) (λ i a h. absurd (plain i a h)) in
      by_change s r v (rw_view t c q) (CardAdd (arrive_word (counters_of K) c) y) has pl e (λ i z h. arrive_near s i z c x g h lc) far
      (arrive_full s c x g lc) (subst (λ z. z < near_at K s.words c p t) (sym own) lt)

  -- A reset leaves its counter not full, and the others as they were.
  swap_other : (s : LockState RwView) (c h : ℕ) → RwGood K n s → c < groups K → h < groups K → h ≢ c →
      is_full K (slice_set s.words (depart_word (counters_of K) c) 0) h ≡ is_full K s.words h
  swap_other s c h g lc lh ne = other_full K s.words (depart_word (counters_of K) c) 0 h (λ e. ne (sym ((words_of_all s g).depart_once c h lc lh e)))

  swap_at : (s : LockState RwView) (c : ℕ) → 0 < K.readers → RwGood K n s → c < groups K →
      is_full K (slice_set s.words (depart_word (counters_of K) c) 0) c ≡ false
  swap_at s c some g lc = reset_full K s.words c some ((words_of_all s g).depart_there c lc)

  swap_one : (s : LockState RwView) (c h : ℕ) → 0 < K.readers → RwGood K n s → c < groups K → h < groups K →
      is_full K (slice_set s.words (depart_word (counters_of K) c) 0) h ≡ true → is_full K s.words h ≡ true
  swap_one s c h some g lc lh e =
      ⊎_elim
      (λ same. let bad : false ≡ true = sym (swap_at s c some g lc)
      ∙ (ap (is_full K (slice_set s.words (depart_word (counters_of K) c) 0)) (sym same) ∙ e) in cc)
      (λ ne. sym (swap_other s c h g lc lh ne) ∙ e) (same_or_not h c)

  pub swap_less : (s : LockState RwView) (c : ℕ) → 0 < K.readers → RwGood K n s → c < groups K →
      full_of (slice_set s.words (depart_word (counters_of K) c) 0) ≤ full_of s.words
  swap_less s c some g lc = fulls_less K s.words (slice_set s.words (depart_word (counters_of K) c) 0) (groups K) (λ h lh e. swap_one s c h some g lc lh e)

  pub swap_fall : (s : LockState RwView) (c : ℕ) → 0 < K.readers → RwGood K n s → c < groups K → is_full K s.words c ≡ true →
      full_of (slice_set s.words (depart_word (counters_of K) c) 0) < full_of s.words
  swap_fall s c some g lc full = fulls_fall K s.words (slice_set s.words (depart_word (counters_of K) c) 0) c (groups K) lc
      (λ h lh e. swap_one s c h some g lc lh e) full (swap_at s c some g lc)

  pub swap_still : (s : LockState RwView) (c h : ℕ) → 0 < K.readers → RwGood K n s → c < groups K → h < groups K →
      is_full K s.words c ≡ false → is_full K (slice_set s.words (depart_word (counters_of K) c) 0) h ≡ is_full K s.words h
  swap_still s c h some g lc lh full =
      ⊎_elim
      (λ same. ap (is_full K (slice_set s.words (depart_word (counters_of K) c) 0)) same
      ∙ (swap_at s c some g lc ∙ (sym full ∙ ap (is_full K s.words) (sym same))))
      (λ ne. swap_other s c h g lc lh ne) (same_or_not h c)

  -- WHO GOES OUT: a reader that departs, that was refused, or that takes off what departed
  pub depart_goes : (s : LockState RwView) (r : ℕ) (t : TreeView) (c : ℕ) → RwGood K n s → slice_get s.views r ≡ Some (rw_view t c Depart) → Goes s r
  depart_goes s r t c g has =
      let v : RwView = rw_view t c Depart in
      let lc : c < groups K = own_there s r v g has in
      let w : ℕ = depart_word (counters_of K) c in
      let us : List ℕ = there s.words (CardAdd w 1) in
      let out : far_in n (groups K) t ≡ 0 = out_far n (groups K) t (g.place r v has) in
      let grown : full_of us ≤ full_of s.words + 1 =
      fulls_grow K s.words us c (groups K) (λ h lh ne. other_full K s.words w ((slice_index s.words w + 1) % 2 ^ 64) h
      (λ e. ne (sym ((words_of_all s g).depart_once c h lc lh e)))) in
      let lt : far_in n (groups K) t + full_of us < 2 + full_of s.words = omega arith in
      by_far s r v (CardAdd w 1) has refl lt

  pub refused_goes : (s : LockState RwView) (r : ℕ) (t : TreeView) (c a : ℕ) → RwGood K n s → slice_get s.views r ≡ Some (rw_view t c (Refused a)) → Goes s r
  refused_goes s r t c a g has = by_arrive s r t c (Refused a) (SeeTail a) (off 1) g has refl refl refl (λ i x h. cc) (refused_falls (is_full K s.words c) a)

  pub reset_goes : (s : LockState RwView) (r : ℕ) (t : TreeView) (c x : ℕ) → RwGood K n s → slice_get s.views r ≡ Some (rw_view t c (ResetOff x)) → Goes s r
  reset_goes s r t c x g has = by_arrive s r t c (ResetOff x) Arrive (off x) g has refl refl refl (λ i y h. cc) (reset_falls (is_full K s.words c) x)
