-- A shard at its start meets the rule, and no block is open.
use Rattle.std.proofs.Common.{◌≡◌, ◌<◌, ◌≤◌, ◌^◌, ℕ, zero, suc, ◌+◌, ◌++◌, List, [], ◌∷◌, false, length, map, replicate, take, sum, sum_by, slice_get, slice_index, Some, sym, refl, ap, ◌∙◌, subst, inr, arith, length-append}
use Rattle.std.proofs.lemmas.List.{length-map, length-replicate, map-append}
use Rattle.std.proofs.lemmas.List.Sums.{sum_by-cons}
use Rattle.rl_word.specs.laws.Places.{get_map_back}
use Rattle.rl_word.specs.Acts.{Layout}
use Rattle.rl_word.specs.Shapes.{TheShape, layout_of}
use Rattle.rl_word.specs.declared.locks.LockName.{LockName}
use Rattle.rl_word.specs.declared.shapes.Knobs.{Knobs}
use Rattle.rl_step.specs.LockQueues.{queues_of}
use Rattle.rl_shard.proofs.Members.{members_there}
use Rattle.rl_model.specs.declared.geom.Geom.{Geom}
use Rattle.rl_model.specs.Geom.{GeomFits}
use Rattle.rl_step.specs.declared.tallies.Tally.{Tally}
use Rattle.rl_site.specs.Site.{Site, lock_base}
use Rattle.rl_site.specs.Opens.{opening_words}
use Rattle.rl_site.specs.laws.OpeningLaws.{opening_size}
use Rattle.rl_core.specs.ShardTables.{ShardTable, site_with, opening_held, first_views}
use Rattle.rl_core.specs.Moments.{Moment, CoreSays}
use Rattle.rl_core.specs.ShardLaws.{LawsOf, ShardCoreLaws, MayBegin, IsLaidAtSite, IsNewDesk}
use Rattle.rl_shard.specs.declared.counting.CountedView.{CountedView}
use Rattle.rl_shard.specs.Tallies.{no_tally, tally_at}
use Rattle.rl_shard.specs.Queues.{AreMembersThere}
use Rattle.rl_shard.specs.Reached.{IsReached}
use Rattle.rl_shard.specs.Counting.{whole_of, rooms_of, settled_by, passed_by, first_counted, CountGood}
use Rattle.rl_shard.specs.Starts.{IsStart}
use Rattle.rl_core.specs.laws.Filling.{views_next, first_at, first_length}

-- a view with a tally of nothing for each queue
abbrev pub fresh : {V : Type 0} → ℕ → V → CountedView V
fresh queues x = record { whole = x; tallies = replicate queues no_tally }

pub first_more : {V : Type 0} (T : ShardTable V) (queues : ℕ) (rooms : List ℕ) (i : ℕ) → i < length rooms → first_counted T queues (take (i + 1) rooms) ≡ first_counted T queues (take i rooms) ++ fresh queues (T.first (slice_index rooms i) i) ∷ []
first_more T queues rooms i h =
    let more : i + 1 ≡ suc i = omega arith in
    let at : 0 + i ≡ i = omega arith in
    ap (λ n. first_counted T queues (take n rooms)) more ∙ ap (map (fresh queues)) (views_next T 0 rooms i h) ∙ map-append (fresh queues) (first_views T 0 (take i rooms)) (T.first (slice_index rooms i) (0 + i) ∷ [])
    ∙ ap (λ n. first_counted T queues (take i rooms) ++ fresh queues (T.first (slice_index rooms i) n) ∷ []) at

whole_fresh : {V : Type 0} (queues : ℕ) (vs : List V) → map whole_of (map (fresh queues) vs) ≡ vs
whole_fresh queues [] = refl
whole_fresh queues (x ∷ vs) = ap (λ z. x ∷ z) (whole_fresh queues vs)

nothing_at : (n q : ℕ) → tally_at q (replicate n no_tally) ≡ no_tally
nothing_at zero q = refl
nothing_at (suc n) zero = refl
nothing_at (suc n) (suc q) = nothing_at n q

-- the rooms are those that the first views have
first_rooms : {V : Type 0} (T : ShardTable V) (first_desk : (room rank : ℕ) → IsNewDesk room (T.own (T.first room rank))) (queues from : ℕ) (rooms : List ℕ) → rooms_of T (map (fresh queues) (first_views T from rooms)) ≡ rooms
first_rooms T first_desk queues from [] = refl
first_rooms T first_desk queues from (room ∷ rooms) =
    ap (λ n. n ∷ rooms_of T (map (fresh queues) (first_views T (from + 1) rooms))) (first_desk room from).room_is ∙ ap (λ l. room ∷ l) (first_rooms T first_desk queues (from + 1) rooms)

-- nothing was counted
none_settled : {V : Type 0} (q queues : ℕ) (vs : List V) → sum_by (settled_by q) (map (fresh queues) vs) ≡ 0
none_settled q queues [] = refl
none_settled q queues (x ∷ vs) = omega (arith, sum_by-cons (settled_by q) (fresh queues x) (map (fresh queues) vs), ap (λ (t : Tally). t.settled) (nothing_at queues q), none_settled q queues vs)

none_passed : {V : Type 0} (q queues : ℕ) (vs : List V) → sum_by (passed_by q) (map (fresh queues) vs) ≡ 0
none_passed q queues [] = refl
none_passed q queues (x ∷ vs) = omega (arith, sum_by-cons (passed_by q) (fresh queues x) (map (fresh queues) vs), ap (λ (t : Tally). t.passed) (nothing_at queues q), none_passed q queues vs)

-- a shard of few updates has few words
few_words : (geom : Geom) (size : ℕ) (site : Site) → GeomFits geom → site.geom ≡ geom → size ≤ 2 ^ 17 → sum site.rooms ≤ 20000 → lock_base site + size < 2 ^ 32
few_words geom size site fits is small few =
    let b = fits.buckets in let o = fits.overflow in let eb = ap (λ z. z.buckets) is in let eo = ap (λ z. z.overflow) is in omega arith

module _ {V : Type 0} (S : CoreSays V) (laws : ShardCoreLaws S) (rooms : List ℕ) (may : MayBegin S rooms) (queues : ℕ) (many : queues ≡ length S.table.queues) (members : AreMembersThere S.table.queues (length S.layout.node_of)) where
  abbrev T : ShardTable V
  T = S.table

  -- with these views all is as at the start
  abbrev first_with : List V → Moment V
  first_with vs = record { held = opening_held T.site T.behind S.layout.nodes; views = vs; trace = []; acts = [] }

  -- the rule at the start
  pub first_counts : CountGood S (opening_held T.site T.behind S.layout.nodes) (first_counted T queues rooms)
  first_counts =
      let vs : List V = first_views T 0 rooms in
      record {
        trace = [];
        acts = [];
        is_good = subst (λ l. S.good (first_with l)) (sym (whole_fresh queues vs)) (laws.begins rooms may);
        reached = subst (λ ro. IsReached T S.layout.nodes ro (first_with (map whole_of (map (fresh queues) vs)))) (sym (first_rooms T laws.first_desk queues 0 rooms))
            (subst (λ l. IsReached T S.layout.nodes rooms (first_with l)) (sym (whole_fresh queues vs)) IsReached.opening);
        each = λ r x e. let q = get_map_back (fresh queues) vs r x e in ap (λ z. length z.tallies) (sym q.2) ∙ length-replicate queues no_tally ∙ many;
        members = members;
        settled_are = λ q h. inr (none_settled q queues vs);
        passed_are = λ q h. inr (none_passed q queues vs);
      }

  -- no block is open
  pub first_closed : (r : ℕ) (x : CountedView V) → slice_get (first_counted T queues rooms) r ≡ Some x → (T.own x.whole).is_open ≡ false
  first_closed r x e =
      let vs : List V = first_views T 0 rooms in
      let q = get_map_back (fresh queues) vs r x e in
      let first = first_at T 0 rooms r q.0 q.1 in
      ap (λ (z : CountedView V). (T.own z.whole).is_open) (sym q.2) ∙ ap (λ z. (T.own z).is_open) first ∙ (laws.first_desk (slice_index rooms r) (0 + r)).shut

-- as many views as ranks, and some words
pub counted_length : {V : Type 0} (T : ShardTable V) (queues : ℕ) (rooms : List ℕ) → length (first_counted T queues rooms) ≡ length rooms
counted_length T queues rooms = length-map (first_views T 0 rooms) (fresh queues) ∙ first_length T 0 rooms

pub words_some : (site : Site) (behind : ℕ) (words : List ℕ) → words ≡ opening_words site ++ replicate behind 0 → 0 < length words
words_some site behind words e = let n = ap length e ∙ length-append (opening_words site) (replicate behind 0) in let o = opening_size site in omega arith

-- a core that was just made may begin
module _ {C V : Type 0} (says : C → CoreSays V) (laws : LawsOf says) where
  is_start : (core : C) (T : ShardTable V) (geom : Geom) (shard : ℕ) (updates rooms : List ℕ) (is : Layout) (queues : ℕ) → (says core).table ≡ T → IsLaidAtSite T (site_with geom shard updates) →
      (says core).layout ≡ is → GeomFits geom → sum updates ≤ 20000 → length updates ≡ length is.node_of → length rooms ≡ length is.node_of → 0 < length is.node_of → length is.node_of ≤ 32 →
      queues ≡ length T.queues → AreMembersThere T.queues (length is.node_of) → IsStart says core is.nodes queues rooms
  is_start core T geom shard updates rooms is queues made laid lay fits few all_updates all_rooms some few_ranks many members =
      let S : CoreSays V = says core in
      let K : ShardTable V = S.table in
      let site_is : K.site ≡ site_with geom shard updates = ap (λ z. z.site) made ∙ laid.site_is in
      let core_fits : GeomFits K.site.geom = subst GeomFits (sym (ap (λ z. z.geom) site_is)) fits in
      let core_laid : IsLaidAtSite K K.site = subst (λ z. IsLaidAtSite z z.site) (sym made)
      (record { site_is = refl; words_are = laid.words_are ∙ ap (λ z. lock_base z + T.behind) (sym laid.site_is); own_last = laid.own_last }) in
      let core_few : sum K.site.rooms ≤ 20000 = subst (λ z. sum z ≤ 20000) (sym (ap (λ z. z.rooms) site_is)) few in
      let nodes_are : length S.layout.node_of ≡ length is.node_of = ap (λ (l : Layout). length l.node_of) lay in
      let sited : length K.site.rooms ≡ length S.layout.node_of = ap (λ z. length z.rooms) site_is ∙ all_updates ∙ sym nodes_are in
      let small : lock_base K.site + K.behind < 2 ^ 32 = few_words K.site.geom K.behind K.site core_fits refl ((laws core).few_words (omega arith)) core_few in
      let few_nodes : length S.layout.node_of < 2 ^ 32 = omega arith in
      let roomed : length rooms ≡ length S.layout.node_of = all_rooms ∙ sym nodes_are in
      let queued : queues ≡ length K.queues = many ∙ ap (λ (t : ShardTable V). length t.queues) (sym made) in
      let there : AreMembersThere K.queues (length S.layout.node_of) =
      subst (λ n. AreMembersThere K.queues n) (sym nodes_are) (subst (λ (t : ShardTable V). AreMembersThere t.queues (length is.node_of)) (sym made) members) in
      let may : MayBegin S rooms = record { laid = core_laid; fits = core_fits; small = small; updates = sited; entries = roomed; few = few_nodes } in
      record {
        fits = core_fits;
        few = core_few;
        small = small;
        ranks = roomed;
        some = omega arith;
        few_ranks = omega arith;
        rule = subst (λ (l : Layout). CountGood S (opening_held K.site K.behind l.nodes) (first_counted K queues rooms)) lay (first_counts S (laws core) rooms may queues queued there);
        closed = first_closed S (laws core) rooms may queues queued there;
      }

  -- of a machine over the lock of this name, as it is defined for a shape
  pub is_placed : (core : C) (name : LockName) (T : ShardTable V) (shape : TheShape) (home : ℕ) (knobs : Knobs) (geom : Geom) (shard : ℕ) (updates rooms : List ℕ) (queues : ℕ) →
      T.queues ≡ queues_of name shape home knobs → (says core).table ≡ T → IsLaidAtSite T (site_with geom shard updates) → (says core).layout ≡ layout_of shape → GeomFits geom → sum updates ≤ 20000 →
      length updates ≡ length shape.node_of → length rooms ≡ length shape.node_of → 0 < length shape.node_of → length shape.node_of ≤ 32 →
      queues ≡ length (queues_of name shape home knobs) → IsStart says core shape.nodes queues rooms
  is_placed core name T shape home knobs geom shard updates rooms queues own made laid lay fits few all_updates all_rooms some few_ranks many =
      is_start core T geom shard updates rooms (layout_of shape) queues made laid lay fits few all_updates all_rooms some few_ranks (many ∙ ap length (sym own))
      (subst (λ q. AreMembersThere q (length shape.node_of)) (sym own) (members_there name shape home knobs))
