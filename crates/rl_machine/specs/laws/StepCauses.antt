-- The causes of a step's answer, and a Take that finds the card held changes nothing.
use Rattle.std.specs.Prelude.{◌≡◌, ◌↔◌, ℕ, ◌+◌, ◌-◌, ◌<◌, ◌≤◌, ◌==◌, Bool, true, false, not, ◌&&◌}
use Rattle.std.specs.Prelude.{nat_lt, if◌then◌else◌, List, drop, length, map, slice_get, slice_index, slice_set, Option, Some, None, refl}
use Rattle.std.proofs.Common.{sym, ◌∙◌, ap, subst, ⊎_elim, arith, get_or-set_same}
use Rattle.std.proofs.lemmas.List.{length-drop}
use Rattle.std.proofs.lemmas.Bool.Decides.{nat_tests, eqb_tells}
use Rattle.rl_word.specs.laws.Places.{some_at, get_map, get_set_same, map_set, one_at, set_same_get}
use Rattle.rl_word.specs.declared.acts.Atom.{Atom}
use Rattle.rl_word.specs.declared.acts.Atom.TheVariants as atom
use Rattle.rl_model.specs.declared.call.Call.{Call}
use Rattle.rl_step.specs.declared.events.Stepped.{Stepped}
use Rattle.rl_step.specs.declared.events.Stepped.TheVariants.{Busy, Finished}
use Rattle.rl_step.specs.Answers.{counted, steps_made}
use Rattle.rl_step.specs.Lock.{Deed}
use Rattle.rl_step.specs.Do.{TheWindow}
use Rattle.rl_core.specs.Asks.{block_shard}
use Rattle.rl_core.specs.laws.AskLaws.{NextBlock, next_of_blocks, block_is, block_at}
use Rattle.rl_core.specs.Desks.{Desk, desk_entries}
use Rattle.rl_core.specs.RankGood.{RankGood, entries_in}
use Rattle.rl_core.specs.laws.RankLaws.{all_done}
use Rattle.rl_core.specs.ShardLaws.{LawsOf, MayOpen, IsSeated, ShardCoreLaws}
use Rattle.rl_core.specs.Moments.{CoreSays, Moment}
use Rattle.rl_machine.specs.Running.{ShardRun, Running, moment_of}
use Rattle.rl_machine.specs.ShardSteps.{opened_at, opened_on, makes, made_at, atom_on, answer_to, answer_at, answer_on, desk_at, desk_on, open_at, open_on, kept_on}
use Rattle.rl_machine.specs.Run.{desks_by, changed, changed_if, on_shard, calls_by, sizes_by, place_of, has_open_call}
use Rattle.rl_machine.specs.Run.{opens, next_block, opened_if, block_opened, atom_answer, only_counted, atom_made, stepped, answer_of_step}
use Rattle.rl_machine.specs.MachineGood.{MachineGood}
use Rattle.rl_machine.specs.laws.MachineLaws.{Found, found_at, laws_of, not_open, OpensAt, opens_at, block_good, opened_calls, said_by}
use Rattle.rl_machine.specs.laws.SoundLaws.{kept_desks}
use Rattle.rl_core.specs.Answering.{AnswersNext}
use Rattle.rl_core.specs.Idle.{IsIdle}
use Rattle.rl_machine.specs.Rest.{RestsWith}
use Rattle.rl_machine.specs.laws.RestLaws.{idle_makes, idle_rests}
use Rattle.rl_machine.specs.Causes.{tells_at, tells_on, AtomTells, StepCause, StepTells, IsFinished}

-- a card that is held isn't free
pub held_not_free : (n holder : ℕ) → n ≡ holder + 1 → (n == 0) ≡ false
held_not_free n holder e = ⊎_elim (λ q. let bad : n ≡ 0 = q.1 in absurd (omega arith)) (λ q. q.0) (eqb_tells n 0)

module _ {V : Type 0} where
  -- a block that is opened leaves all entries as they are, where it does so at the rank's desk
  kept_opened : (S : ShardRun V) (k : ℕ) (block : List Call) (seq : ℕ) (o : Option V) → slice_get S.views k ≡ o →
      ((x : V) → slice_get S.views k ≡ Some x → desk_entries (S.table.desk S.held.words k (S.table.opened block seq x)) ≡ desk_entries (S.table.desk S.held.words k x)) →
      kept_on k (opened_at S k block seq o) ≡ kept_on k S
  kept_opened S k block seq None e same = refl
  kept_opened S k block seq (Some x) e same =
      ap (λ o. desk_entries (desk_at S.table S.held.words k o)) (get_set_same S.views k x (S.table.opened block seq x) e) ∙ same x e ∙ sym (ap (λ o. desk_entries (desk_at S.table S.held.words k o)) e)

-- whether a call is left decides, where none is open
opens_not : (b left : Bool) → b ≡ false → (not b && left) ≡ left
opens_not b left e = ap (λ o. not o && left) e

pub none_left : (b : Bool) (n m : ℕ) → b ≡ false → (not b && nat_lt n m) ≡ false → m ≤ n
none_left b n m e q =
    let t : nat_lt n m ≡ false = sym (opens_not b (nat_lt n m) e) ∙ q in
    grind (arith, nat_tests)

one_left : (b : Bool) (n m : ℕ) → b ≡ false → (not b && nat_lt n m) ≡ true → n < m
one_left b n m e q =
    let t : nat_lt n m ≡ true = sym (opens_not b (nat_lt n m) e) ∙ q in
    grind (arith, nat_tests)

module _ {C V : Type 0} (says : C → CoreSays V) (laws : LawsOf says) (cores : List C) where
  abbrev Fine : List (List Deed) → Running V → Type 0
  Fine acts m = MachineGood says cores acts m

  -- a rank that is there, where it stands
  pub record Stands (acts : List (List Deed)) (m : Running V) (k : ℕ) : Type 0 where
    pub found : Found says laws cores acts m (place_of m k)
    pub view : V
    pub has_view : slice_get found.shard.views k ≡ Some view

  pub stands_there : (acts : List (List Deed)) (m : Running V) (k : ℕ) → Fine acts m → k < length m.calls → Stands acts m k
  stands_there acts m k g h =
      let f = found_at says laws cores acts m (place_of m k) g (g.stands k h) in
      let x = some_at f.shard.views k (let a = f.is.ranks in omega arith) in
      record { found = f; view = x.0; has_view = x.1 }

  module _ (acts : List (List Deed)) (m : Running V) (k : ℕ) (g : Fine acts m) (h : k < length m.calls) (t : Stands acts m k) where
    pub lawful : ShardCoreLaws (said_by (says t.found.core) t.found.shard.table)
    lawful = laws_of says laws cores t.found.core t.found.shard.table t.found.is.table_is

    -- the moment of its shard
    abbrev pub moment : Moment V
    moment = moment_of t.found.shard t.found.deeds

    pub seat : IsSeated (said_by (says t.found.core) t.found.shard.table) moment k t.view
    seat = record { is_good = t.found.is.is_good; has = t.has_view }

    -- what is said of the machine there is said of the view
    pub answer_there : atom_answer m k ≡ answer_to t.found.shard.table t.found.shard.held t.view (t.found.shard.table.core.next t.view)
    answer_there = ap (on_shard Finished (answer_on k)) t.found.has ∙ ap (answer_at t.found.shard) t.has_view

    pub open_there : has_open_call m k ≡ (t.found.shard.table.own t.view).is_open
    open_there = ap (on_shard false (open_on k)) t.found.has ∙ ap (open_at t.found.shard.table) t.has_view

    -- it has no next atom exactly where no call is open
    pub next_shut : (t.found.shard.table.core.next t.view ≡ None) ↔ ((t.found.shard.table.own t.view).is_open ≡ false)
    next_shut = lawful.open_is moment k t.view seat

    -- an answer of an atom, and Finished where there is none, has its cause
    to_cause : (o : Option Atom) → t.found.shard.table.core.next t.view ≡ o → (says t.found.core).cause t.found.shard.held t.view o (answer_to t.found.shard.table t.found.shard.held t.view o)
    to_cause None e = lawful.rests t.found.shard.held t.view
    to_cause (Some at) e = lawful.causes moment k t.view at (record { seated = seat; next = e })

    -- and what it has to say
    to_answer : (o : Option Atom) → t.found.shard.table.core.next t.view ≡ o → AnswersNext t.found.shard.held o (answer_to t.found.shard.table t.found.shard.held t.view o)
    to_answer None e = refl
    to_answer (Some at) e = lawful.answers moment k t.view at (record { seated = seat; next = e })

    -- what is said of the view's next atom and its answer is said of the machine's
    said_there : (tells : C → TheWindow → V → Option Atom → Stepped → Type 0) →
        tells t.found.core t.found.shard.held t.view (t.found.shard.table.core.next t.view) (answer_to t.found.shard.table t.found.shard.held t.view (t.found.shard.table.core.next t.view)) →
        AtomTells tells cores m k (atom_answer m k)
    said_there tells said =
        subst (AtomTells tells cores m k) (sym answer_there)
        (subst (λ o. tells_on tells k (answer_to t.found.shard.table t.found.shard.held t.view (t.found.shard.table.core.next t.view)) o (slice_get m.shards (place_of m k))) (sym t.found.has_core)
        (subst (tells_on tells k (answer_to t.found.shard.table t.found.shard.held t.view (t.found.shard.table.core.next t.view)) (Some t.found.core)) (sym t.found.has)
        (subst (λ o. tells_at tells t.found.core t.found.shard o (answer_to t.found.shard.table t.found.shard.held t.view (t.found.shard.table.core.next t.view))) (sym t.has_view) said)))

    cause_there : AtomTells (λ core. (says core).cause) cores m k (atom_answer m k)
    cause_there = said_there (λ core. (says core).cause) (to_cause (t.found.shard.table.core.next t.view) refl)

    answers_there : AtomTells (λ core h x next a. AnswersNext h next a) cores m k (atom_answer m k)
    answers_there = said_there (λ core h x next a. AnswersNext h next a) (to_answer (t.found.shard.table.core.next t.view) refl)

    -- no answer but Finished where there is no atom
    finished_to : (o : Option Atom) → t.found.shard.table.core.next t.view ≡ o → answer_to t.found.shard.table t.found.shard.held t.view o ≡ Finished → o ≡ None
    finished_to None e q = refl
    finished_to (Some at) e q = absurd (lawful.goes_on moment k t.view at (record { seated = seat; next = e }) q)

    -- a rank that takes a card that is held, on these words and cards, is idle
    pub held_idle : (node : ℕ) (w : TheWindow) → t.found.shard.table.core.next t.view ≡ Some (atom.Take node) → (slice_index w.cards node == 0) ≡ false →
        IsIdle t.found.shard.table w k t.view (t.found.shard.table.core.next t.view) (Busy node (slice_index w.cards node - 1))
    held_idle node w e held =
        let q = lawful.held moment k t.view node w (record { seated = seat; next = e }) held in
        subst (λ o. IsIdle t.found.shard.table w k t.view o (Busy node (slice_index w.cards node - 1))) (sym e)
        (ap (λ b. record { words = w.words; cards = if b then slice_set w.cards node (k + 1) else w.cards }) held, q.0, q.1, q.2)

    -- an atom that is answered by Busy takes a card that is held
    pub record TakesHeld (node holder : ℕ) : Type 0 where
      pub next : t.found.shard.table.core.next t.view ≡ Some (atom.Take node)
      pub held : slice_index t.found.shard.held.cards node ≡ holder + 1

    pub busy_takes : (node holder : ℕ) (o : Option Atom) → t.found.shard.table.core.next t.view ≡ o →
        answer_to t.found.shard.table t.found.shard.held t.view o ≡ Busy node holder → TakesHeld node holder
    busy_takes node holder None e b = let bad : Finished ≡ Busy node holder = b in cc
    busy_takes node holder (Some at) e b =
        let q = lawful.busy moment k t.view at node holder (record { seated = seat; next = e }) b in record { next = e ∙ ap (λ z. Some z) q.0; held = q.1 }

    -- and leaves the shard as it was
    busy_to : (step node holder : ℕ) (o : Option Atom) → t.found.shard.table.core.next t.view ≡ o →
        answer_to t.found.shard.table t.found.shard.held t.view o ≡ Busy node holder → makes t.found.shard k step t.view o ≡ t.found.shard
    busy_to step node holder o e b =
        let q = busy_takes node holder o e b in
        let idle = held_idle node t.found.shard.held q.next (held_not_free (slice_index t.found.shard.held.cards node) holder q.held) in
        (idle_makes t.found.shard k step t.view o (Busy node (slice_index t.found.shard.held.cards node - 1)) t.has_view
        (subst (λ z. IsIdle t.found.shard.table t.found.shard.held k t.view z (Busy node (slice_index t.found.shard.held.cards node - 1))) e idle)).0

    busy_there : (node holder : ℕ) → atom_answer m k ≡ Busy node holder → atom_made m k ≡ only_counted m (Busy node holder)
    busy_there node holder q =
        let S : ShardRun V = t.found.shard in
        let step : ℕ = steps_made m.steps in
        let same : made_at S k step (Some t.view) ≡ S = busy_to step node holder (S.table.core.next t.view) refl (sym answer_there ∙ q) in
        let shards : changed m.shards (place_of m k) (atom_on k step) ≡ m.shards =
        ap (changed_if m.shards (place_of m k) (atom_on k step)) t.found.has ∙ ap (λ o. slice_set m.shards (place_of m k) (made_at S k step o)) t.has_view ∙ ap (slice_set m.shards (place_of m k)) same
        ∙ set_same_get m.shards (place_of m k) S t.found.has in
        ap (λ z. record { shards = z; geom = m.geom; calls = m.calls; sizes = m.sizes; opened = m.opened; steps = counted (atom_answer m k) m.steps }) shards ∙ ap (only_counted m) q

    -- Finished is the answer exactly where no call is open
    finished_shut : atom_answer m k ≡ Finished → has_open_call m k ≡ false
    finished_shut q =
        let none : t.found.shard.table.core.next t.view ≡ None = finished_to (t.found.shard.table.core.next t.view) refl (sym answer_there ∙ q) in
        open_there ∙ next_shut.0 none

    shut_finished : has_open_call m k ≡ false → atom_answer m k ≡ Finished
    shut_finished shut =
        let none : t.found.shard.table.core.next t.view ≡ None = next_shut.1 (sym open_there ∙ shut) in
        answer_there ∙ ap (answer_to t.found.shard.table t.found.shard.held t.view) none

    -- where no call of the rank is open it has an entry for each call that it has opened
    all_done_there : has_open_call m k ≡ false → entries_in (map (kept_on k) m.shards) ≡ slice_index m.opened k
    all_done_there shut =
        let r : RankGood m.geom (calls_by m k) (sizes_by m k) (slice_index m.opened k) (desks_by m k) k = g.ranks k h in
        let desk : slice_get (desks_by m k) (place_of m k) ≡ Some (desk_on k t.found.shard) = get_map (desk_on k) m.shards (place_of m k) t.found.shard t.found.has in
        let shut_desk : (desk_on k t.found.shard).is_open ≡ false =
        ap (λ o. (desk_at t.found.shard.table t.found.shard.held.words k o).is_open) t.has_view ∙ lawful.knows_open moment k t.view seat ∙ sym open_there ∙ shut in
        let closed : (d : Desk) → slice_get (desks_by m k) (place_of m k) ≡ Some d → d.is_open ≡ false =
        λ d e. ap (λ (z : Desk). z.is_open) (one_at (desks_by m k) (place_of m k) d (desk_on k t.found.shard) e desk) ∙ shut_desk in
        ap entries_in (sym (kept_desks k m.shards)) ∙ r.total ∙ all_done m.geom (calls_by m k) (sizes_by m k) k (slice_index m.opened k) (desks_by m k) r closed (desk_on k t.found.shard) desk

  pub shut_done : (acts : List (List Deed)) (m : Running V) (k : ℕ) → Fine acts m → k < length m.calls → has_open_call m k ≡ false → entries_in (map (kept_on k) m.shards) ≡ slice_index m.opened k
  shut_done acts m k g h shut = all_done_there acts m k g h (stands_there acts m k g h) shut

  -- the next block has a call
  some_next : (acts : List (List Deed)) (m : Running V) (k : ℕ) → Fine acts m → k < length m.calls → slice_index m.opened k < length (calls_by m k) → 1 ≤ length (next_block m k)
  some_next acts m k g h left =
      let n : ℕ = slice_index m.opened k in
      let b : NextBlock m.geom (drop n (calls_by m k)) (drop n (sizes_by m k)) =
      next_of_blocks m.geom (drop n (calls_by m k)) (drop n (sizes_by m k)) (g.ranks k h).rest (omega (arith, length-drop n (calls_by m k))) in
      subst (λ z. 1 ≤ length z) (sym (block_is m.geom (calls_by m k) (sizes_by m k) n b)) b.is_block.is_asked.some

  -- a block that is opened leaves all entries of its rank as they are
  kept_block : (acts : List (List Deed)) (m : Running V) (k : ℕ) → Fine acts m → k < length m.calls → opens m k ≡ true → map (kept_on k) (opened_if m k true).shards ≡ map (kept_on k) m.shards
  kept_block acts m k g h o =
      let block : List Call = next_block m k in
      let n : ℕ = slice_index m.opened k in
      let at : OpensAt says laws cores acts m k = opens_at says laws cores acts m k g h o in
      let S : ShardRun V = at.found.shard in
      let same_block : block ≡ at.next.block = block_is m.geom (calls_by m k) (sizes_by m k) n at.next in
      let place : block_shard m.geom block ≡ at.next.is_block.shard = ap (block_shard m.geom) same_block ∙ block_at m.geom (calls_by m k) (sizes_by m k) n at.next in
      let has : slice_get m.shards (block_shard m.geom block) ≡ Some S = ap (slice_get m.shards) place ∙ at.found.has in
      let law = laws_of says laws cores at.found.core S.table at.found.is.table_is in
      let seat : IsSeated (said_by (says at.found.core) S.table) (moment_of S at.found.deeds) k at.view = record { is_good = at.found.is.is_good; has = at.has_view } in
      let opens_desk = law.opens_told (moment_of S at.found.deeds) k at.view block n seat (subst (λ b. MayOpen S.table k at.view b n) (sym same_block) at.fits) in
      let same : kept_on k (opened_on k block n S) ≡ kept_on k S =
      kept_opened S k block n (slice_get S.views k) refl
      (λ x e.
      subst (λ z. desk_entries (S.table.desk S.held.words k (S.table.opened block n z)) ≡ desk_entries (S.table.desk S.held.words k z))
      (one_at S.views k at.view x at.has_view e) (ap (λ z. z.items) opens_desk.same_kept)) in
      ap (λ s. map (kept_on k) (changed_if m.shards (block_shard m.geom block) (opened_on k block n) s)) has ∙ map_set (kept_on k) m.shards (block_shard m.geom block) (opened_on k block n S)
      ∙ ap (slice_set (map (kept_on k) m.shards) (block_shard m.geom block)) same
      ∙ set_same_get (map (kept_on k) m.shards) (block_shard m.geom block) (kept_on k S) (get_map (kept_on k) m.shards (block_shard m.geom block) S has)

  -- a rank that has just opened a block is in it
  just_opened : (acts : List (List Deed)) (m : Running V) (k : ℕ) → Fine acts m → k < length m.calls → opens m k ≡ true → has_open_call (opened_if m k true) k ≡ false → ⊥
  just_opened acts m k g h o shut =
      let n : ℕ = slice_index m.opened k in
      let block : List Call = next_block m k in
      let was : has_open_call m k ≡ false = not_open (has_open_call m k) (nat_lt n (length (calls_by m k))) o in
      let some : 1 ≤ length block = some_next acts m k g h (one_left (has_open_call m k) n (length (calls_by m k)) was o) in
      let old : entries_in (map (kept_on k) m.shards) ≡ n = shut_done acts m k g h was in
      let fine : Fine acts (opened_if m k true) = subst (λ b. Fine acts (opened_if m k b)) o (block_good says laws cores acts m k g h) in
      let new : entries_in (map (kept_on k) (opened_if m k true).shards) ≡ slice_index (opened_if m k true).opened k = shut_done acts (opened_if m k true) k fine h shut in
      let same : map (kept_on k) (opened_if m k true).shards ≡ map (kept_on k) m.shards = kept_block acts m k g h o in
      let now : slice_index (slice_set m.opened k (n + length block)) k ≡ n + length block = get_or-set_same m.opened k (n + length block) 0 (let a = g.all_opened in omega arith) in
      let whole : n ≡ n + length block = sym old ∙ ap entries_in (sym same) ∙ new ∙ now in
      absurd (omega arith)

  -- so its next step opens no other
  shuts_if : (b left : Bool) → (b ≡ false → ⊥) → (not b && left) ≡ false
  shuts_if true left is_in = refl
  shuts_if false left is_in = absurd (is_in refl)

  opens_once_if : (acts : List (List Deed)) (m : Running V) (k : ℕ) → Fine acts m → k < length m.calls → (b : Bool) → opens m k ≡ b → opens (opened_if m k b) k ≡ false
  opens_once_if acts m k g h false o = o
  opens_once_if acts m k g h true o =
      let n : Running V = opened_if m k true in
      shuts_if (has_open_call n k) (nat_lt (slice_index n.opened k) (length (calls_by n k))) (just_opened acts m k g h o)

  pub opens_once : (acts : List (List Deed)) (m : Running V) (k : ℕ) → Fine acts m → k < length m.calls → opens (block_opened m k) k ≡ false
  opens_once acts m k g h = opens_once_if acts m k g h (opens m k) refl

  module _ (acts : List (List Deed)) (m : Running V) (k : ℕ) (g : Fine acts m) (h : k < length m.calls) where
    pub fine_opened : Fine acts (block_opened m k)
    fine_opened = block_good says laws cores acts m k g h

    pub still_there : k < length (block_opened m k).calls
    still_there = subst (λ c. k < length c) (sym (opened_calls says laws cores m k (opens m k))) h

    -- each answer of a step has its cause
    pub step_cause : StepCause says cores m k (answer_of_step m k)
    step_cause = cause_there acts (block_opened m k) k fine_opened still_there (stands_there acts (block_opened m k) k fine_opened still_there)

    -- and says what it has to say
    pub step_tells : StepTells cores m k (answer_of_step m k)
    step_tells = answers_there acts (block_opened m k) k fine_opened still_there (stands_there acts (block_opened m k) k fine_opened still_there)

    -- a step that is answered by Busy changes nothing but the count of answers, and the block that it may have opened
    pub step_busy : (node holder : ℕ) → answer_of_step m k ≡ Busy node holder → stepped m k ≡ only_counted (block_opened m k) (Busy node holder)
    step_busy node holder q = busy_there acts (block_opened m k) k fine_opened still_there (stands_there acts (block_opened m k) k fine_opened still_there) node holder q

    finished_if : (b : Bool) → opens m k ≡ b → Fine acts (opened_if m k b) → k < length (opened_if m k b).calls → atom_answer (opened_if m k b) k ≡ Finished → IsFinished m k
    finished_if true o fine low q = absurd (just_opened acts m k g h o (finished_shut acts (opened_if m k true) k fine low (stands_there acts (opened_if m k true) k fine low) q))
    finished_if false o fine low q =
        let shut : has_open_call m k ≡ false = finished_shut acts m k g h (stands_there acts m k g h) q in
        (shut, none_left (has_open_call m k) (slice_index m.opened k) (length (calls_by m k)) shut o)

    if_finished : IsFinished m k → answer_of_step m k ≡ Finished
    if_finished f =
        let few : length (calls_by m k) ≤ slice_index m.opened k = f.1 in
        let none : nat_lt (slice_index m.opened k) (length (calls_by m k)) ≡ false = grind (arith, nat_tests) in
        let still : opens m k ≡ false = opens_not (has_open_call m k) (nat_lt (slice_index m.opened k) (length (calls_by m k))) f.0 ∙ none in
        ap (λ b. atom_answer (opened_if m k b) k) still ∙ shut_finished acts m k g h (stands_there acts m k g h) f.0

    -- a step is answered by Finished exactly where no call of the rank is open and none is left
    pub step_finished : (answer_of_step m k ≡ Finished) ↔ IsFinished m k
    step_finished = (finished_if (opens m k) refl fine_opened still_there, if_finished)

    -- a rank that is finished rests so
    pub finished_rests : IsFinished m k → RestsWith m k Finished
    finished_rests f =
        let t : Stands acts m k = stands_there acts m k g h in
        let S : ShardRun V = t.found.shard in
        let few : length (calls_by m k) ≤ slice_index m.opened k = f.1 in
        let none_is_left : nat_lt (slice_index m.opened k) (length (calls_by m k)) ≡ false = grind (arith, nat_tests) in
        let still : opens m k ≡ false = opens_not (has_open_call m k) (nat_lt (slice_index m.opened k) (length (calls_by m k))) f.0 ∙ none_is_left in
        let none : S.table.core.next t.view ≡ None =
        (next_shut acts m k g h t).1 (sym (open_there acts m k g h t) ∙ f.0) in
        idle_rests m k S t.view Finished t.found.has t.has_view still (subst (λ o. IsIdle S.table S.held k t.view o Finished) (sym none) refl)
