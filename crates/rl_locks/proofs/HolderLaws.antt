-- Under the rule of blocks that are done under their lock, over any lock, what holders have read still stands.
use Rattle.std.proofs.Common.{◌≡◌, ◌<◌, ℕ, ◌+◌, Bool, true, false, List, [], ◌∷◌, ◌++◌, drop, length, map, slice_get, take, Option, Some, None, refl, sym, ap, ◌∙◌, subst, ⊎_elim, arith, length-append}
use Rattle.std.proofs.lemmas.Option.{same_Some}
use Rattle.rl_word.specs.laws.Places.{get_map}
use Rattle.rl_word.specs.Acts.{Layout}
use Rattle.rl_word.specs.declared.acts.Atom.TheVariants.{Load}
use Rattle.rl_model.specs.declared.call.Call.{Call}
use Rattle.rl_step.specs.declared.events.Event.{Event}
use Rattle.rl_step.specs.declared.events.Standing.{Standing}
use Rattle.rl_step.specs.declared.events.Standing.TheVariants.{Out, Asking, Writer, Reader, Leaving}
use Rattle.rl_step.specs.Core.{Turned}
use Rattle.rl_step.specs.Lock.{LockTable, LockState, Deed, IsHolder, Rests}
use Rattle.rl_volume.specs.Decision.{words_written}
use Rattle.rl_volume.specs.Seen.{SeenWords, AgreesWith}
use Rattle.rl_volume.specs.Words.{volume_words}
use Rattle.rl_volume.specs.declared.write.Write.{Write}
use Rattle.std.specs.FinMap as finite
use Rattle.rl_journal.specs.Blocks.{in_turn}
use Rattle.rl_journal.specs.Legal.{table_after}
use Rattle.rl_work.specs.declared.stage.Stage.{Stage}
use Rattle.rl_work.specs.declared.stage.Stage.TheVariants.{Rest, Begin, Read, Journal, Volume}
use Rattle.rl_work.specs.laws.AtomLaws.{few_loads}
use Rattle.rl_work.specs.Locked.{locked_table, locked_good, locked_turn}
use Rattle.rl_site.specs.Site.{Site, count_word, volume_base, lock_base, volume_of}
use Rattle.rl_work.specs.Ways.{IsApart}
use Rattle.rl_work.specs.Work.{TheWork, with_seen, stage_atom, stage_after, write_atom, left_of, read_on}
use Rattle.rl_work.specs.WorkGood.{WorkSide, WorkGood, FitsAt, IsReading, HasDecided, is_writing}
use Rattle.rl_core.specs.ShardTables.{ShardTable}
use Rattle.rl_core.specs.Moments.{Moment}
use Rattle.rl_rank.specs.declared.whole.WholeView.{WholeView}
use Rattle.rl_rank.specs.Running.{LockAt, Goods, BothLaws}
use Rattle.rl_rank.specs.Whole.{work_side, next_of, after_of, work_turned}
use Rattle.rl_rank.specs.laws.WholeLaws.{apart, next_either}
use Rattle.rl_rank.specs.WholeShards.{stand, standing_while, whole_shard, WholeGood}
use Rattle.rl_locks.specs.Holding.{Reads, ReadsAlone, KeepsReads}
use Rattle.rl_locks.proofs.DecidedLaws.{reads_on}
use Rattle.rl_locks.proofs.LockAtoms.{loads_of_lock, works_at_rest}

-- a holder rests at the lock, and on the shard it stands as it does there
holder_rests : (st : Standing) → IsHolder st → Rests st
holder_rests Out i = absurd i
holder_rests Asking i = absurd i
holder_rests Writer i = tt
holder_rests Reader i = tt
holder_rests Leaving i = absurd i

holds_on : (st : Standing) (b : Bool) → IsHolder st → IsHolder (standing_while st b)
holds_on Out b i = absurd i
holds_on Asking b i = absurd i
holds_on Writer b i = tt
holds_on Reader b i = tt
holds_on Leaving b i = absurd i

holds_there : (st : Standing) (b : Bool) → IsHolder (standing_while st b) → IsHolder st
holds_there Out true i = absurd i
holds_there Out false i = absurd i
holds_there Asking b i = absurd i
holds_there Writer b i = tt
holds_there Reader b i = tt
holds_there Leaving b i = absurd i

-- nothing of a call alone stands before its one call
none_first : (first : List Call) (c call : Call) (rest : List Call) → first ++ c ∷ rest ≡ call ∷ [] → first ≡ []
none_first [] c call rest e = refl
none_first (a ∷ first) c call rest e = absurd (omega (arith, ap length e, length-append first (c ∷ rest)))

module _ (V : Type 0) (base : ℕ) (table : LockTable V) (site : Site) (behind : ℕ) (lock_good : LockState V → Type 0) where
  abbrev pub L : LockAt V TheWork
  L = record { base = base; table = table; work = locked_table site behind }

  abbrev pub good : Goods V TheWork
  good = record { lock = lock_good; work = locked_good site }

  module _ (further : List Event → List Deed → Type 0) (layout : Layout) (laws : BothLaws L good further layout) (home : ℕ)
      (m : Moment (WholeView V TheWork)) (g : WholeGood L good layout m) where
    abbrev T : ShardTable (WholeView V TheWork)
    T = whole_shard L home

    abbrev sides : List WorkSide
    sides = map (work_side table) m.views

    abbrev front : List ℕ
    front = take (lock_base site) m.held.words

    rule : WorkGood site front sides
    rule = g.rule.work_part

    there : (r : ℕ) (x : WholeView V TheWork) → slice_get m.views r ≡ Some x → slice_get sides r ≡ Some (work_side table x)
    there r x has = get_map (work_side table) m.views r x has

    reading : (r count word : ℕ) (x : WholeView V TheWork) → Reads T m.held m.views r count word x → IsReading site r rule.journal rule.before (work_side table x) count word
    reading r count word x q = subst (FitsAt site front rule.journal rule.before r (work_side table x)) q.reads (rule.fits r (work_side table x) (there r x q.there))

    alone_there : IsApart L.work sides
    alone_there = apart V TheWork L good further layout laws home m.held m.views g.rule

    -- while it reads nobody makes writes, so the volume is as it was
    unwritten : (r count word : ℕ) (x : WholeView V TheWork) → Reads T m.held m.views r count word x → volume_of site.geom front ≡ rule.before
    unwritten r count word x q = rule.still (λ i u get. calm i u get u.work.stage refl) where
      calm : (i : ℕ) (u : WorkSide) → slice_get sides i ≡ Some u → (st : Stage) → u.work.stage ≡ st → is_writing st ≡ false
      calm i u get Rest e = refl
      calm i u get Begin e = refl
      calm i u get (Read k w) e = refl
      calm i u get (Journal made) e = refl
      calm i u get (Volume made) e =
          let f = subst (FitsAt site front rule.journal rule.before i u) e (rule.fits i u get) in
          let same : i ≡ r = alone_there.excludes i r u (work_side table x) get (there r x q.there) f.0.writes (reading r count word x q).holds in
          let here : u ≡ work_side table x = same_Some _ _ (sym get ∙ ap (slice_get sides) same ∙ there r x q.there) in
          let clash : Volume made ≡ Read count word = sym e ∙ ap (λ (z : WorkSide). z.work.stage) here ∙ q.reads in
          absurd (cc)

    -- the next load of a holder is one of its work
    loads_on : (r w got : ℕ) (x : WholeView V TheWork) → slice_get m.views r ≡ Some x → IsHolder (stand table x) → next_of L x ≡ Some (Load w) → after_of L x got ≡ work_turned L x (locked_turn (stage_after site.geom site.shard r x.work got x.work.stage))
    loads_on r w got x has holds next = works_at_rest V TheWork L good further layout laws home m g r x has (holder_rests (stand table x) holds) (Load w) (λ n e. absurd (cc)) next got

    -- what an atom of the work leaves of the work
    work_is : (r w got : ℕ) (x : WholeView V TheWork) → slice_get m.views r ≡ Some x → IsHolder (stand table x) → next_of L x ≡ Some (Load w) → (after_of L x got).view.work ≡ (stage_after site.geom site.shard r x.work got x.work.stage).work
    work_is r w got x has holds next = ap (λ (z : Turned (WholeView V TheWork)). z.view.work) (loads_on r w got x has holds next)

    fresh_on : (r count word got : ℕ) (x : WholeView V TheWork) (call : Call) → slice_get m.views r ≡ Some x → IsHolder (T.standing x) → x.work.stage ≡ Begin → x.work.calls ≡ call ∷ [] → next_of L x ≡ Some (Load count_word) → (after_of L x got).view.work.stage ≡ Read count word →
        ((after_of L x got).view.work.seen.pairs ≡ []) × ((after_of L x got).view.work.writes ≡ [])
    fresh_on r count word got x call has holds e alone next on =
        let holder : IsHolder (stand table x) = holds_there (stand table x) (L.work.is_open x.work) holds in
        let f = subst (FitsAt site front rule.journal rule.before r (work_side table x)) e (rule.fits r (work_side table x) (there r x has)) in
        let left : left_of x.work ≡ call ∷ [] = ap (λ rs. drop (length rs) x.work.calls) f.3 ∙ alone in
        let is : (after_of L x got).view.work ≡ (read_on site.geom site.shard r got (call ∷ []) x.work).work =
        work_is r count_word got x has holder next ∙ ap (λ st. (stage_after site.geom site.shard r x.work got st).work) e ∙ ap (λ cs. (read_on site.geom site.shard r got cs x.work).work) left in
        let same = reads_on site.geom site.shard r got call x.work count word (sym (ap (λ (z : TheWork). z.stage) is) ∙ on) in (
          ap (λ (z : TheWork). z.seen.pairs) is ∙ ap (λ (z : SeenWords). z.pairs) same.0 ∙ f.2,
          ap (λ (z : TheWork). z.writes) is ∙ same.1 ∙ f.4,
        )

    one_more_on : (r count word got next : ℕ) (x : WholeView V TheWork) (call : Call) → ReadsAlone T m.held m.views r count word x call → next_of L x ≡ Some (Load (volume_base + word)) → (after_of L x got).view.work.stage ≡ Read count next →
        ((after_of L x got).view.work.seen.pairs ≡ x.work.seen.pairs ++ (word, got) ∷ []) × ((after_of L x got).view.work.writes ≡ x.work.writes)
    one_more_on r count word got next x call q plans on =
        let f = reading r count word x q.is in
        let p : HasDecided site rule.journal rule.before x.work (f.call ∷ f.rest) = f.partly in
        let none : p.first ≡ [] = none_first p.first f.call call f.rest (p.split ∙ q.alone) in
        let left : left_of x.work ≡ call ∷ [] = ap (λ rs. drop (length rs) x.work.calls) (nothing_decided r count word x q.is none) ∙ q.alone in
        let w : TheWork = with_seen x.work (x.work.seen.pairs ++ (word, got) ∷ []) in
        let is : (after_of L x got).view.work ≡ (read_on site.geom site.shard r count (call ∷ []) w).work =
        work_is r (volume_base + word) got x q.is.there f.holds plans ∙ ap (λ st. (stage_after site.geom site.shard r x.work got st).work) q.is.reads ∙ ap (λ cs. (read_on site.geom site.shard r count cs w).work) left in
        let same = reads_on site.geom site.shard r count call w count next (sym (ap (λ (z : TheWork). z.stage) is) ∙ on) in (
          ap (λ (z : TheWork). z.seen.pairs) is ∙ ap (λ (z : SeenWords). z.pairs) same.0,
          ap (λ (z : TheWork). z.writes) is ∙ same.1,
        )
      where
        nothing_decided : (r count word : ℕ) (x : WholeView V TheWork) (q : Reads T m.held m.views r count word x) → (reading r count word x q).partly.first ≡ [] → x.work.replies ≡ []
        nothing_decided r count word x q none = (reading r count word x q).partly.replies_are ∙ ap (λ cs. (in_turn site.geom (table_after site.geom finite.empty rule.journal) cs).1) none

    -- whoever loads a word of the volume reads it for its block: no word of the lock lies there, and no other stage loads one
    reads_there : (w : TheWork) (word : ℕ) (st : Stage) → w.stage ≡ st → stage_atom site.geom w st ≡ Some (Load (volume_base + word)) → (count : ℕ) × (w.stage ≡ Read count word)
    reads_there w word Rest e is = absurd (cc)
    reads_there w word Begin e is = let same : count_word ≡ volume_base + word = (cc) in absurd (omega arith)
    reads_there w word (Read count there) e is = let same : volume_base + there ≡ volume_base + word = (cc) in (count, e ∙ ap (Read count) (omega arith))
    reads_there w word (Journal made) e is = absurd (cc)
    reads_there w word (Volume made) e is = stores (slice_get w.writes made) is where
      stores : (o : Option Write) → Some (write_atom (w.at + length w.entries) o) ≡ Some (Load (volume_base + word)) → (count : ℕ) × (w.stage ≡ Read count word)
      stores (Some v) q = absurd (cc)
      stores None q = absurd (cc)

    loads_so : (r word : ℕ) (x : WholeView V TheWork) → slice_get m.views r ≡ Some x → next_of L x ≡ Some (Load (volume_base + word)) → word < volume_words site.geom → (count : ℕ) × Reads T m.held m.views r count word x
    loads_so r word x has next low =
        ⊎_elim
        (λ q. absurd (loads_of_lock site base g.rule.base_is q.0 word low q.2))
        (λ q. let p = reads_there x.work word x.work.stage refl q.2 in (p.0, record { there = has; reads = p.1 }))
        (next_either V TheWork L good further layout laws home x (Load (volume_base + word)) next)

    pub keeps_reads : KeepsReads T m.held m.views
    keeps_reads =
        record {
          holds = λ r count word x q. holds_on (stand table x) (L.work.is_open x.work) (reading r count word x q).holds;
          same_count = λ r count word x q. rule.count ∙ sym (reading r count word x q).found;
          same_words = λ r count word x q. subst (λ v. AgreesWith x.work.seen.pairs (words_written v x.work.writes)) (sym (unwritten r count word x q)) (reading r count word x q).partly.agrees;
          fresh = fresh_on;
          one_more = one_more_on;
          few = λ r count word x call q. few_loads site front sides rule r (work_side table x) (there r x q.is.there) call count word q.alone q.is.reads;
          loads = loads_so;
        }
