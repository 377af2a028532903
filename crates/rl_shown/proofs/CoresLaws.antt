-- Cores that are made one after the other, and what a run leaves of a machine's shards.
use Rattle.std.proofs.Common.{◌≡◌, ℕ, zero, suc, ◌+◌, ◌<◌, ◌^◌, List, [], ◌∷◌, ◌++◌, length, map, take, slice_get, Some, None, Result, refl, sym, ap, ◌∙◌, subst, add-one, arith}
use Rattle.std.specs.Prelude.{OnOk}
use Rattle.std.proofs.lemmas.Option.{same_Some}
use Rattle.std.proofs.lemmas.List.{length-map}
use Rattle.rl_word.specs.laws.Places.{get_map, get_map_back}
use Rattle.rl_model.specs.declared.call.Call.{Call}
use Rattle.rl_model.specs.declared.geom.Geom.{Geom}
use Rattle.rl_step.specs.Core.{CoreTable, CoreLaws}
use Rattle.rl_step.specs.Do.{TheWindow}
use Rattle.rl_site.specs.Site.{Site, lock_base}
use Rattle.rl_core.specs.ShardTables.{ShardTable}
use Rattle.rl_core.specs.Moments.{Moment, CoreSays}
use Rattle.rl_core.specs.ShardLaws.{LawsOf}
use Rattle.rl_machine.specs.Running.{ShardRun, Running, moment_of}
use Rattle.rl_machine.specs.Ruled.{AreRuled}
use Rattle.rl_machine.specs.Run.{run_of}
use Rattle.rl_machine.specs.laws.Alike.{run_alike}
use Rattle.rl_machine.specs.Start.{site_of, first_shards}
use Rattle.rl_machine.specs.Run.{on_shard}
use Rattle.rl_machine.specs.Records.{window_of}
use Rattle.rl_machine.specs.NextAtoms.{behind_journal}
use Rattle.rl_text.specs.Spelling.{text_of}
use Rattle.rl_place.specs.Places.{ThePlace}
use Rattle.rl_report.specs.Naming.{TheNaming}
use Rattle.rl_names.specs.declared.word_map.WordMap.{WordMap}
use Rattle.rl_names.specs.Layout.{map_of}
use Rattle.rl_shown.specs.Cores.{HaveTables, tables_of}
use Rattle.rl_shown.specs.State.{words_lines, shard_lines, lines_of_shard}

-- one more of the first shards
pub tables_more : {V : Type 0} (tables : ℕ → Site → ShardTable V) (nodes : ℕ) (geom : Geom) (calls : List (List Call)) (from : ℕ) (homes : List ℕ) (i home : ℕ) → slice_get homes i ≡ Some home →
    map (λ (S : ShardRun V). S.table) (first_shards tables nodes geom calls from (take (i + 1) homes)) ≡ map (λ (S : ShardRun V). S.table) (first_shards tables nodes geom calls from (take i homes)) ++ tables home (site_of geom calls (from + i)) ∷ []
tables_more tables nodes geom calls from homes i home e = rw add-one (more from homes i e) where
  more : (from : ℕ) (homes : List ℕ) (i : ℕ) → slice_get homes i ≡ Some home →
      map (λ (S : ShardRun _). S.table) (first_shards tables nodes geom calls from (take (suc i) homes)) ≡ map (λ (S : ShardRun _). S.table) (first_shards tables nodes geom calls from (take i homes)) ++ tables home (site_of geom calls (from + i)) ∷ []
  more from [] i e = absurd (cc)
  more from (h ∷ homes) zero e =
      let at : from ≡ from + zero = omega arith in
      ap (λ z. tables z (site_of geom calls from) ∷ []) (same_Some _ _ e) ∙ ap (λ n. tables home (site_of geom calls n) ∷ []) at
  more from (h ∷ homes) (suc i) e =
      let at : (from + 1) + i ≡ from + suc i = omega arith in
      ap (λ z. tables h (site_of geom calls from) ∷ z) (more (from + 1) homes i e ∙ ap (λ n. map (λ (S : ShardRun _). S.table) (first_shards tables nodes geom calls (from + 1) (take i homes)) ++ tables home (site_of geom calls n) ∷ []) at)

-- one more core
pub cores_more : {C T : Type 0} (table : C → T) (cores : List C) (core : C) → map table (cores ++ core ∷ []) ≡ map table cores ++ table core ∷ []
cores_more table [] core = refl
cores_more table (c ∷ cores) core = ap (λ z. table c ∷ z) (cores_more table cores core)

-- ---- no step changes a table

-- nor what the ranks ask for
pub run_tables : {V : Type 0} (m : Running V) (ks : List ℕ) → (tables_of (run_of m ks) ≡ tables_of m) × ((run_of m ks).calls ≡ m.calls)
run_tables m ks = let alike = run_alike m ks in (alike.tables, alike.calls)

-- ---- a shard of a machine, and a core that has its table

-- the words of the shard, by a core that has its table
pub record IsSized {V : Type 0} (T : ShardTable V) (h : TheWindow) : Type 0 where
  pub all : length h.words ≡ lock_base T.site + T.behind
  pub few : length h.words < 2 ^ 32
  pub sized : T.core.size ≡ length h.words

module _ {C V : Type 0} (says : C → CoreSays V) (laws : LawsOf says)
    (atoms : C → CoreTable V) (rule : C → TheWindow → List V → Type 0) (ruled : (c : C) (m : Moment V) → (says c).good m → rule c m.held m.views)
    (core_laws : (c : C) → CoreLaws (atoms c) (rule c)) (same : (c : C) → (says c).table.core ≡ atoms c) (cores : List C) (m : Running V) (are : AreRuled says cores m) where
  pub is_sized : (s : ℕ) (S : ShardRun V) → slice_get m.shards s ≡ Some S → IsSized S.table S.held
  is_sized s S has =
      let q = are.shards s S has in
      let lawful = laws q.core in
      let size : length S.held.words ≡ (atoms q.core).size = (core_laws q.core).sized S.held S.views (ruled q.core (moment_of S q.acts) q.is.is_good) in
      subst (λ T. IsSized T S.held) (sym q.is.table_is)
      (record {
        all = lawful.words (moment_of S q.acts) q.is.is_good;
        few = (let all = lawful.words (moment_of S q.acts) q.is.is_good in let few = lawful.fits (moment_of S q.acts) q.is.is_good in omega arith);
        sized = ap (λ z. z.size) (same q.core) ∙ sym size;
      })

  -- what is found of a shard by a core that has its table
  pub record Held (T : ShardTable V) (place : ThePlace) (naming : TheNaming) (s : ℕ) (h : TheWindow) (map : WordMap) : Type 0 where
    pub all : length h.words ≡ map.lock_at + T.behind
    pub few : length h.words < 2 ^ 32
    pub sized : T.core.size ≡ length h.words
    pub lines : words_lines naming map s T.core.home h.words ≡ lines_of_shard place naming m s

  pub held_by : (s : ℕ) (core : C) (h : TheWindow) (place : ThePlace) (naming : TheNaming) (behind : ℕ) (map : WordMap) → slice_get (tables_of m) s ≡ Some (says core).table → window_of m s ≡ Some h → behind ≡ behind_journal m s → map ≡ map_of place naming behind →
      Held (says core).table place naming s h map
  held_by s core h place naming behind map found held at is =
      let back = get_map_back (λ (S : ShardRun V). S.table) m.shards s (says core).table found in
      let S : ShardRun V = back.0 in
      let same_held : S.held ≡ h = same_Some _ _ (ap (on_shard None (λ (Z : ShardRun V). Some Z.held)) (sym back.1) ∙ held) in
      let base : behind ≡ lock_base S.table.site = at ∙ ap (on_shard 0 (λ (Z : ShardRun V). lock_base Z.table.site)) back.1 in
      let map_is : map ≡ map_of place naming (lock_base S.table.site) = is ∙ ap (map_of place naming) base in
      let told : lines_of_shard place naming m s ≡ words_lines naming (map_of place naming (lock_base S.table.site)) s S.table.core.home S.held.words = ap (on_shard [] (shard_lines place naming s)) back.1 in
      let sized : IsSized S.table S.held = is_sized s S back.1 in
      let here : IsSized (says core).table h = subst (λ z. IsSized (says core).table z) same_held (subst (λ z. IsSized z S.held) back.2 sized) in
      let base_same : lock_base S.table.site ≡ lock_base (says core).table.site = ap (λ (z : ShardTable V). lock_base z.site) back.2 in
      record {
        all = here.all ∙ ap (λ n. n + (says core).table.behind) (sym (ap (λ z. z.lock_at) map_is ∙ base_same));
        few = here.few;
        sized = here.sized;
        lines = ap (λ z. words_lines naming z s (says core).table.core.home h.words) map_is
            ∙ ap (λ z. words_lines naming (map_of place naming (lock_base S.table.site)) s (says core).table.core.home z.words) (sym same_held)
            ∙ ap (λ (z : ShardTable V). words_lines naming (map_of place naming (lock_base S.table.site)) s z.core.home S.held.words) (sym back.2)
            ∙ sym told;
      }

-- the lines of a shard were appended
pub told_shard : {E : Type 0} (result : Result (Unit {0}) E) (before after : List ℕ) (xs ys : List (List (List ℕ))) → xs ≡ ys → OnOk result (after ≡ before ++ text_of xs) → OnOk result (after ≡ before ++ text_of ys)
told_shard result before after xs ys same told = subst (λ z. OnOk result (after ≡ before ++ text_of z)) same told

-- a core of the list has the table of the shard with its number
pub core_at : {C V : Type 0} (says : C → CoreSays V) (cores : List C) (m : Running V) (s : ℕ) (core : C) → HaveTables says cores (tables_of m) → slice_get cores s ≡ Some core → slice_get (tables_of m) s ≡ Some (says core).table
core_at says cores m s core have at = ap (λ z. slice_get z s) (sym have) ∙ get_map (λ k. (says k).table) cores s core at

pub as_many : {C V : Type 0} (says : C → CoreSays V) (cores : List C) (m : Running V) → HaveTables says cores (tables_of m) → length cores ≡ length m.shards
as_many says cores m have = sym (length-map cores (λ k. (says k).table)) ∙ ap length have ∙ length-map m.shards (λ (S : ShardRun _). S.table)
