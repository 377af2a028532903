-- At its start a machine has all that is true of a run.
use Rattle.std.specs.Prelude.{◌≡◌, ℕ, zero, suc, ◌+◌, ◌≤◌, ◌<◌, ◌^◌, false, List, [], ◌∷◌, length, map, replicate, sum, get_or, slice_get, slice_index, Some, refl}
use Rattle.std.proofs.Common.{sym, ◌∙◌, ap, subst, arith}
use Rattle.std.proofs.lemmas.List.{length-map, length-replicate}
use Rattle.std.proofs.lemmas.Option.{same_Some, slice_get_within}
use Rattle.rl_word.specs.laws.Places.{get_map_back, some_at}
use Rattle.rl_word.specs.Acts.{Layout}
use Rattle.rl_model.specs.declared.call.Call.{Call}
use Rattle.rl_model.specs.declared.geom.Geom.{Geom}
use Rattle.rl_model.specs.Geom.{GeomFits}
use Rattle.rl_step.specs.Lock.{Deed}
use Rattle.rl_ops.specs.Room.{calls_on, updates_on}
use Rattle.rl_site.specs.Site.{Site, lock_base}
use Rattle.rl_core.specs.Asks.{place_after}
use Rattle.rl_core.specs.RankGood.{IsFreshDesk, RankGood}
use Rattle.rl_core.specs.laws.RankLaws.{rank_begins}
use Rattle.rl_core.specs.ShardTables.{ShardTable}
use Rattle.rl_core.specs.ShardLaws.{LawsOf, IsLaidAtSite, IsSeated, IsDeskOf, IsNewDesk}
use Rattle.rl_core.specs.laws.OpsBridge.{CanBegin}
use Rattle.rl_core.specs.laws.Filling.{first_at, first_length}
use Rattle.rl_core.specs.Moments.{CoreSays, first_moment}
use Rattle.rl_machine.specs.Running.{ShardRun, Running, moment_of}
use Rattle.rl_machine.specs.ShardSteps.{desk_at, desk_on}
use Rattle.rl_machine.specs.Run.{desks_by}
use Rattle.rl_machine.specs.EventOrder.{AreTold}
use Rattle.rl_machine.specs.MachineGood.{IsShardOf, MachineGood}
use Rattle.rl_machine.specs.laws.MachineLaws.{laws_of, said_by}
use Rattle.rl_machine.specs.Start.{site_of, first_shard, first_shards, start}

-- the first shards, one by one
pub shard_first : {V : Type 0} (tables : ℕ → Site → ShardTable V) (nodes : ℕ) (geom : Geom) (calls : List (List Call)) (from : ℕ) (homes : List ℕ) (s : ℕ) (S : ShardRun V) →
    slice_get (first_shards tables nodes geom calls from homes) s ≡ Some S →
    (home : ℕ) × (slice_get homes s ≡ Some home) × (S ≡ first_shard (tables home (site_of geom calls (from + s))) nodes (map (calls_on geom (from + s)) calls))
shard_first tables nodes geom calls from [] s S e = absurd (cc)
shard_first tables nodes geom calls from (home ∷ homes) zero S e =
    let at : from ≡ from + 0 = omega arith in
    (home, refl, sym (same_Some _ _ e) ∙ ap (λ n. first_shard (tables home (site_of geom calls n)) nodes (map (calls_on geom n) calls)) at)
shard_first tables nodes geom calls from (home ∷ homes) (suc s) S e =
    let q = shard_first tables nodes geom calls (from + 1) homes s S e in
    let at : (from + 1) + s ≡ from + suc s = omega arith in
    (q.0, q.1, q.2 ∙ ap (λ n. first_shard (tables q.0 (site_of geom calls n)) nodes (map (calls_on geom n) calls)) at)

pub shards_length : {V : Type 0} (tables : ℕ → Site → ShardTable V) (nodes : ℕ) (geom : Geom) (calls : List (List Call)) (from : ℕ) (homes : List ℕ) →
    length (first_shards tables nodes geom calls from homes) ≡ length homes
shards_length tables nodes geom calls from [] = refl
shards_length tables nodes geom calls from (home ∷ homes) = ap suc (shards_length tables nodes geom calls (from + 1) homes)

-- a machine of few calls has few words
pub few_words : (geom : Geom) (size : ℕ) (site : Site) → GeomFits geom → site.geom ≡ geom → size ≤ 2 ^ 17 → sum site.rooms ≤ 20000 → lock_base site + size < 2 ^ 32
few_words geom size site fits is small few =
    let b = fits.buckets in let o = fits.overflow in let eb = ap (λ z. z.buckets) is in let eo = ap (λ z. z.overflow) is in omega arith

index_none : (n k : ℕ) → slice_index (replicate n 0) k ≡ 0
index_none zero k = refl
index_none (suc n) zero = refl
index_none (suc n) (suc k) = index_none n k

index_at : (f : List Call → ℕ) (l : List (List Call)) (k : ℕ) → f [] ≡ 0 → slice_index (map f l) k ≡ f (get_or l k [])
index_at f [] k e = sym e
index_at f (x ∷ l) zero e = refl
index_at f (x ∷ l) (suc k) e = index_at f l k e

none_at : (n s : ℕ) (ds : List Deed) → slice_get (replicate n []) s ≡ Some ds → ds ≡ []
none_at zero s ds e = absurd (cc)
none_at (suc n) zero ds e = sym (same_Some _ _ e)
none_at (suc n) (suc s) ds e = none_at n s ds e

-- A machine may start with such tables, by the home, where the ranks sit so, with this size of the table, these homes and calls: the tables are laid
-- out by their sites, all numbers fit, and where a core does no batches each block is a call alone.
pub record MayStart {V : Type 0} (tables : ℕ → Site → ShardTable V) (layout : Layout) (geom : Geom) (homes : List ℕ) (calls : List (List Call)) (sizes : List (List ℕ)) : Type 0 where
  pub laid : (home : ℕ) (site : Site) → IsLaidAtSite (tables home site) site
  pub fits : GeomFits geom
  pub many : length homes ≡ geom.shards
  pub ranks : length calls ≡ length layout.node_of
  pub few_ranks : length layout.node_of ≤ 32
  pub can : CanBegin geom calls sizes
  pub takes : (home : ℕ) (site : Site) → (tables home site).batches ≡ false → (k i : ℕ) → slice_index (get_or sizes k []) i ≤ 1

-- the cores are those of a machine's shards: of this kind by the home, on these homes, for these calls
abbrev pub AreCores : {C V : Type 0} → (C → CoreSays V) → (ℕ → Site → ShardTable V) → Layout → Geom → List ℕ → List (List Call) → List C → Type 0
AreCores says tables layout geom homes calls cores =
    (s home : ℕ) (core : _) → slice_get homes s ≡ Some home → slice_get cores s ≡ Some core →
    ((says core).table ≡ tables home (site_of geom calls s)) × ((says core).layout ≡ layout)

module _ {C V : Type 0} (says : C → CoreSays V) (laws : LawsOf says) (tables : ℕ → Site → ShardTable V) (layout_is : Layout) (geom : Geom) (homes : List ℕ)
    (calls : List (List Call)) (sizes : List (List ℕ)) (may : MayStart tables layout_is geom homes calls sizes)
    (cores : List C) (are : AreCores says tables layout_is geom homes calls cores) (all : length cores ≡ length homes) where
  abbrev first : Running V
  first = start tables layout_is.nodes geom homes calls sizes

  -- a shard of the start, and its table
  pub record IsFirstShard (s : ℕ) (S : ShardRun V) (core : C) : Type 0 where
    pub shard_is : S ≡ first_shard (says core).table layout_is.nodes (map (calls_on geom s) calls)
    pub layout_same : (says core).layout ≡ layout_is
    pub site_is : (says core).table.site ≡ site_of geom calls s
    pub laid_out : IsLaidAtSite (says core).table (says core).table.site

  first_shard_is : (s : ℕ) (S : ShardRun V) (core : C) → slice_get first.shards s ≡ Some S → slice_get cores s ≡ Some core → IsFirstShard s S core
  first_shard_is s S core get getC =
      let q = shard_first tables layout_is.nodes geom calls 0 homes s S get in
      let at : 0 + s ≡ s = omega arith in
      let c = are s q.0 core q.1 getC in
      record {
        shard_is = q.2 ∙ ap (λ n. first_shard (tables q.0 (site_of geom calls n)) layout_is.nodes (map (calls_on geom n) calls)) at
            ∙ ap (λ T. first_shard T layout_is.nodes (map (calls_on geom s) calls)) (sym c.0);
        layout_same = c.1;
        site_is = ap (λ T. T.site) c.0 ∙ (may.laid q.0 (site_of geom calls s)).site_is;
        laid_out = let l = may.laid q.0 (site_of geom calls s) in subst (λ T. IsLaidAtSite T T.site) (sym c.0)
            (record { site_is = refl; words_are = l.words_are ∙ ap (λ z. lock_base z + (tables q.0 (site_of geom calls s)).behind) (sym l.site_is); own_last = l.own_last });
      }

  -- all is true of it that is true of a shard
  shard_at : (s : ℕ) (S : ShardRun V) (core : C) → slice_get first.shards s ≡ Some S → slice_get cores s ≡ Some core → IsShardOf says geom calls s core [] S
  shard_at s S core get getC =
      let f = first_shard_is s S core get getC in
      let T : ShardTable V = (says core).table in
      let seats : length layout_is.node_of ≡ length (says core).layout.node_of = ap (λ (l : Layout). length l.node_of) (sym f.layout_same) in
      let as_many : length T.site.rooms ≡ length layout_is.node_of = ap (λ z. length z.rooms) f.site_is ∙ length-map calls (updates_on geom s) ∙ may.ranks in
      let small : lock_base T.site + T.behind < 2 ^ 32 =
      few_words geom T.behind T.site may.fits (ap (λ z. z.geom) f.site_is) ((laws core).few_words (let few = may.few_ranks in omega arith))
      (subst (λ z. sum z ≤ 20000) (sym (ap (λ z. z.rooms) f.site_is)) (may.can.room s)) in
      subst (IsShardOf says geom calls s core []) (sym f.shard_is)
      (record {
        table_is = refl;
        geom_is = ap (λ z. z.geom) f.site_is;
        shard_is = ap (λ z. z.shard) f.site_is;
        rooms_are = ap (λ z. z.rooms) f.site_is;
        ranks = first_length T 0 (map (calls_on geom s) calls) ∙ length-map calls (calls_on geom s);
        is_good = subst (λ n. (says core).good (first_moment T n (map (calls_on geom s) calls))) (ap (λ (l : Layout). l.nodes) f.layout_same)
            ((laws core).begins (map (calls_on geom s) calls) (record {
              laid = f.laid_out;
              fits = subst GeomFits (sym (ap (λ z. z.geom) f.site_is)) may.fits;
              small = small;
              updates = as_many ∙ seats;
              entries = length-map calls (calls_on geom s) ∙ may.ranks ∙ seats;
              few = let some = may.few_ranks in omega arith;
            }));
      })

  -- a rank has its first desk there
  fresh_desk : (k : ℕ) → k < length calls → (s : ℕ) (S : ShardRun V) → slice_get first.shards s ≡ Some S → IsFreshDesk geom (get_or calls k []) s (desk_on k S)
  fresh_desk k low s S get =
      let core = some_at cores s (let h = slice_get_within first.shards s S get in let a = shards_length tables layout_is.nodes geom calls 0 homes in omega arith) in
      let is = shard_at s S core.0 get core.1 in
      let f = first_shard_is s S core.0 get core.1 in
      let lawful = laws_of says laws cores core.0 S.table is.table_is in
      let x = some_at S.views k (let a = is.ranks in omega arith) in
      let rooms : List ℕ = map (calls_on geom s) calls in
      let at : 0 + k ≡ k = omega arith in
      let table_same : (says core.0).table ≡ S.table = sym is.table_is in
      let x_is : x.0 ≡ S.table.first (slice_index rooms k) k =
      first_at (says core.0).table 0 rooms k x.0 (ap (λ z. slice_get z.views k) (sym f.shard_is) ∙ x.1)
      ∙ ap ((says core.0).table.first (slice_index rooms k)) at ∙ ap (λ T. T.first (slice_index rooms k) k) table_same in
      let new : IsNewDesk (slice_index rooms k) (S.table.own x.0) = subst (λ z. IsNewDesk (slice_index rooms k) (S.table.own z)) (sym x_is) (lawful.first_desk (slice_index rooms k) k) in
      let seat : IsSeated (said_by (says core.0) S.table) (moment_of S []) k x.0 = record { is_good = is.is_good; has = x.1 } in
      let same : desk_on k S ≡ S.table.own x.0 = ap (desk_at S.table S.held.words k) x.1 ∙ lawful.settled (moment_of S []) k x.0 seat new.shut in
      let own : IsDeskOf S.table.site k (S.table.own x.0) = lawful.own_desk (moment_of S []) k x.0 seat in
      subst (IsFreshDesk geom (get_or calls k []) s) (sym same)
      (record { shut = new.shut; owing = own.owing; nothing = new.nothing; room = let r = new.room_is ∙ index_at (calls_on geom s) calls k refl in omega arith })

  rank_first : (k : ℕ) → k < length calls → RankGood geom (get_or calls k []) (get_or sizes k []) 0 (desks_by first k) k
  rank_first k low =
      rank_begins geom (get_or calls k []) (get_or sizes k []) k (desks_by first k) (may.can.blocks k)
      (λ s d e. let q = get_map_back (desk_on k) first.shards s d e in subst (IsFreshDesk geom (get_or calls k []) s) q.2 (fresh_desk k low s q.0 q.1))

  told_first : (s : ℕ) (S : ShardRun V) → slice_get first.shards s ≡ Some S → AreTold 0 S.trace
  told_first s S get =
      let core = some_at cores s (let h = slice_get_within first.shards s S get in let a = shards_length tables layout_is.nodes geom calls 0 homes in omega arith) in
      subst (λ z. AreTold 0 z.trace) (sym (first_shard_is s S core.0 get core.1).shard_is) (record { before = tt; ordered = tt })

  pub start_good : MachineGood says cores (replicate (length cores) []) first
  start_good =
      record {
        all = shards_length tables layout_is.nodes geom calls 0 homes ∙ sym all;
        all_acts = length-replicate (length cores) [];
        many = shards_length tables layout_is.nodes geom calls 0 homes ∙ may.many;
        shards = λ s S core ds get getC getD. subst (λ z. IsShardOf says geom calls s core z S) (sym (none_at (length cores) s ds getD)) (shard_at s S core get getC);
        told = told_first;
        all_opened = length-replicate (length calls) 0;
        few = may.can.few;
        blocks = may.can.blocks;
        takes = λ s core get none.
            let q = some_at homes s (let h = slice_get_within cores s core get in omega arith) in
            may.takes q.0 (site_of geom calls s) (sym (ap (λ (T : ShardTable V). T.batches) (are s q.0 core q.1 get).0) ∙ none);
        stands = λ k h. subst (λ n. place_after geom (get_or calls k []) n < length first.shards) (sym (index_none (length calls) k))
            (let a = shards_length tables layout_is.nodes geom calls 0 homes in let b = may.fits.some_shards in let c = may.many in omega arith);
        ranks = λ k h. subst (λ n. RankGood geom (get_or calls k []) (get_or sizes k []) n (desks_by first k) k) (sym (index_none (length calls) k)) (rank_first k h);
      }
