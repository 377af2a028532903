-- The part of a shard: what is read is spelled so, and what is spelled so is read.
use Rattle.std.proofs.Common.{◌≡◌, ℕ, zero, suc, ◌+◌, ◌^◌, ◌<◌, ◌≤◌, Bool, true, false, not, List, [], ◌∷◌, ◌++◌, length, map, codes, decimal, None, Ok, refl, sym, ap, subst, ◌∙◌, arith}
use Rattle.std.specs.List.{AllByRecursion}
use Rattle.rl_text.specs.Rows.{Row, Left, words}
use Rattle.rl_text.specs.Reading.{next_left, next_begins}
use Rattle.rl_text.proofs.FromLaws.{from_bind}
use Rattle.rl_text.proofs.TextLaws.{IsPlain, AllByRecursion-append}
use Rattle.rl_text.proofs.WordLaws.{ok_is, begins-is}
use Rattle.rl_text.proofs.SectionLaws.{Followed, Followed-head, Followed-then, Followed-split, line-takes, line-again, line_then, left_of}
use Rattle.rl_place.proofs.SettingLaws.{ReadsTo}
use Rattle.rl_step.specs.declared.events.Event.{Event}
use Rattle.rl_step.specs.declared.events.Event.TheVariants.{Join, Announce, Pass, Settle, Touch, EnterW, EnterR, LeaveW, LeaveR}
use Rattle.rl_report.specs.declared.version.Version.{Version}
use Rattle.rl_report.specs.declared.version.Version.TheVariants.{First}
use Rattle.rl_report.specs.Naming.{TheNaming, EventFits}
use Rattle.rl_report.specs.Reports.{TheShard, EachAfter, PairFits, pair_key, StepFits, step_of, OnlyWhere, ShardFits, ShardsFit, IsOldShard}
use Rattle.rl_report.specs.Spelling.{entry_words, queue_lines, pair_words, event_line, is_printed, event_lines, shard_words, shard_lines, shards_lines}
use Rattle.rl_report.specs.Reading.{entries_next, tallies_next, pair_at, event_at, pairs_next, events_next, shard_at, shard_next, shards_next}
use Rattle.rl_report.proofs.HeadLaws.{pair-takes, pair-again, pair-plain, ShardTaken, shard-takes, shard-again, shard-plain}
use Rattle.rl_report.proofs.EntryLaws.{EntriesTaken, entries-take, entries-again, entries-plain}
use Rattle.rl_report.proofs.EventLaws.{IsNaming, event-takes, event-again, event-plain}
use Rattle.rl_report.proofs.SectionLaws.{ItemLaws, while-takes, while-again, while-plain, TalliesTaken, tallies-take, tallies-again, tallies-plain}

-- ---- pairs

pair_laws : ItemLaws (codes "pair") pair_at pair_words PairFits
pair_laws = record {
  takes = pair-takes;
  again = pair-again;
  plain = pair-plain;
  begins = λ row x e. begins-is row (codes "pair") (codes "pair") (rw e refl);
}

record PairsTaken (replay : Bool) (left : Left) (p : List (ℕ × ℕ) × Left) : Type 0 where
  lines : Followed left.rows (map pair_words p.0) p.1.rows
  fit : OnlyWhere (not replay) (EachAfter PairFits pair_key None) p.0

pairs-take : (replay : Bool) (left : Left) (p : List (ℕ × ℕ) × Left) → pairs_next replay left ≡ Ok p → PairsTaken replay left p
unfolding pairs_next
pairs-take true left p e = subst (λ (q : List (ℕ × ℕ) × Left). PairsTaken true left q) (ok_is ([], left) p e) (record { lines = refl; fit = refl })
pairs-take false left p e = let t = while-takes pair_laws pair_key None left.read left.rows p e in record { lines = t.lines; fit = t.fit }

pairs-again : (replay : Bool) (ps : List (ℕ × ℕ)) (left : Left) (rest : List Row) → OnlyWhere (not replay) (EachAfter PairFits pair_key None) ps → next_begins rest (codes "pair") ≡ false → Followed left.rows (map pair_words ps) rest → ReadsTo (pairs_next replay left) ps rest
unfolding pairs_next
pairs-again true [] left rest fit none f = (left.read, ap (λ (rows : List Row). Ok ([], left_of rows left.read)) f)
pairs-again true (p ∷ ps) left rest fit none f = absurd (cc)
pairs-again false ps left rest fit none f = while-again pair_laws pair_key None left.read left.rows ps rest fit none f

pairs-plain : (replay : Bool) (ps : List (ℕ × ℕ)) → OnlyWhere (not replay) (EachAfter PairFits pair_key None) ps → AllByRecursion IsPlain (map pair_words ps)
pairs-plain true [] fit = tt
pairs-plain true (p ∷ ps) fit = absurd (cc)
pairs-plain false ps fit = while-plain pair_laws pair_key None ps fit

module _ (naming : TheNaming) (ok : IsNaming naming) where
  -- ---- events

  event_laws : ItemLaws (codes "event") (event_at naming) (event_line naming) (StepFits naming)
  event_laws = record {
    takes = event-takes naming;
    again = event-again naming ok;
    plain = event-plain naming ok;
    begins = λ row x e. begins-is row (codes "event") (codes "event") (rw e refl);
  }

  -- events that fit are all printed
  printed : (e : Event) → EventFits naming e → is_printed e ≡ true
  printed (Join q m) fits = refl
  printed (Announce c) fits = refl
  printed (Pass q m) fits = refl
  printed (Settle q m) fits = refl
  printed (Touch k w) fits = absurd fits
  printed (EnterW k) fits = refl
  printed (EnterR k) fits = refl
  printed (LeaveW k) fits = refl
  printed (LeaveR k) fits = refl

  all_printed : (least : ℕ) (es : List (ℕ × Event)) → EachAfter (StepFits naming) step_of least es → event_lines naming es ≡ map (event_line naming) es
  all_printed least [] fit = refl
  all_printed least (e ∷ es) fit = rw (printed e.1 fit.0.2, all_printed e.0 es fit.1) refl

  record EventsTaken (replay : Bool) (left : Left) (p : List (ℕ × Event) × Left) : Type 0 where
    lines : Followed left.rows (event_lines naming p.0) p.1.rows
    fit : OnlyWhere replay (EachAfter (StepFits naming) step_of 0) p.0

  events-take : (replay : Bool) (left : Left) (p : List (ℕ × Event) × Left) → events_next naming replay left ≡ Ok p → EventsTaken replay left p
  unfolding events_next
  events-take false left p e = subst (λ (q : List (ℕ × Event) × Left). EventsTaken false left q) (ok_is ([], left) p e) (record { lines = refl; fit = refl })
  events-take true left p e =
      let t = while-takes event_laws step_of 0 left.read left.rows p e in
      record { lines = subst (λ ls. Followed left.rows ls p.1.rows) (sym (all_printed 0 p.0 t.fit)) t.lines; fit = t.fit }

  events-again : (replay : Bool) (es : List (ℕ × Event)) (left : Left) (rest : List Row) → OnlyWhere replay (EachAfter (StepFits naming) step_of 0) es → next_begins rest (codes "event") ≡ false → Followed left.rows (event_lines naming es) rest
      → ReadsTo (events_next naming replay left) es rest
  unfolding events_next
  events-again false [] left rest fit none f = (left.read, ap (λ (rows : List Row). Ok ([], left_of rows left.read)) f)
  events-again false (e ∷ es) left rest fit none f = absurd (cc)
  events-again true es left rest fit none f = while-again event_laws step_of 0 left.read left.rows es rest fit none (subst (λ ls. Followed left.rows ls rest) (all_printed 0 es fit) f)

  events-plain : (replay : Bool) (es : List (ℕ × Event)) → OnlyWhere replay (EachAfter (StepFits naming) step_of 0) es → AllByRecursion IsPlain (event_lines naming es)
  events-plain false [] fit = tt
  events-plain false (e ∷ es) fit = absurd (cc)
  events-plain true es fit = subst (AllByRecursion IsPlain) (sym (all_printed 0 es fit)) (while-plain event_laws step_of 0 es fit)

  -- ---- a shard

  pub record ShardRead (version : Version) (replay : Bool) (number : ℕ) (left : Left) (p : TheShard × Left) : Type 0 where
    pub lines : Followed left.rows (shard_lines naming number p.0) p.1.rows
    pub fit : ShardFits naming replay number p.0
    pub old : version ≡ First → IsOldShard p.0

  pub shard_next-takes : (version : Version) (replay : Bool) (number : ℕ) (left : Left) (p : TheShard × Left) → shard_next naming version replay number left ≡ Ok p → ShardRead version replay number left p
  unfolding shard_next
  shard_next-takes version replay number left p e =
      from_bind (next_left left) _ p e (λ line taken e1.
      from_bind (shard_at number line.0) _ p e1 (λ head head_read e2.
      from_bind (entries_next naming version number head.1 line.1) _ p e2 (λ entries entries_read e3.
      from_bind (tallies_next naming.queues entries.1) _ p e3 (λ queues queues_read e4.
      from_bind (pairs_next replay queues.1) _ p e4 (λ pairs pairs_read e5.
      from_bind (events_next naming replay pairs.1) _ p e5 (λ events events_read e6.
      let h : ShardTaken number line.0 head = shard-takes number line.0 head head_read in
      let a : EntriesTaken naming version number head.1 line.1 entries = entries-take naming version number head.1 line.1 entries entries_read in
      let b : TalliesTaken naming.queues entries.1 queues = tallies-take naming.queues entries.1 queues queues_read in
      let c : PairsTaken replay queues.1 pairs = pairs-take replay queues.1 pairs pairs_read in
      let d : EventsTaken replay pairs.1 events = events-take replay pairs.1 events events_read in
      let made : TheShard = record { updates = head.0; entries = entries.0; queues = queues.0; pairs = pairs.0; events = events.0 } in
      let pairs_on = map pair_words pairs.0 ++ event_lines naming events.0 in
      let queues_on = queue_lines naming.queues queues.0 ++ pairs_on in
      let entries_on = map entry_words entries.0 ++ queues_on in
      let f1 : Followed queues.1.rows pairs_on events.1.rows = Followed-then queues.1.rows pairs.1.rows events.1.rows (map pair_words pairs.0) (event_lines naming events.0) c.lines d.lines in
      let f2 : Followed entries.1.rows queues_on events.1.rows = Followed-then entries.1.rows queues.1.rows events.1.rows (queue_lines naming.queues queues.0) pairs_on b.lines f1 in
      let f3 : Followed line.1.rows entries_on events.1.rows = Followed-then line.1.rows entries.1.rows events.1.rows (map entry_words entries.0) queues_on a.lines f2 in
      let words_are : words line.0 ≡ shard_words number made = h.are ∙ ap (λ n. codes "shard" ∷ decimal number ∷ codes "updates" ∷ decimal head.0 ∷ codes "entries" ∷ decimal n ∷ []) (sym a.many) in
      subst (λ (q : TheShard × Left). ShardRead version replay number left q) (ok_is (made, events.1) p e6) (record {
        lines = line_then left line (shard_words number made) entries_on events.1.rows (line-takes left line taken) words_are f3;
        fit = record {
          few_updates = h.updates;
          few_entries = let m = a.many in let l = h.entries in omega arith;
          entries = a.fit;
          each_queue = b.each;
          queues = b.fit;
          pairs = c.fit;
          events = d.fit;
        };
        old = a.old;
      })))))))

  -- what comes after a shard is no pair and no event
  pub record EndsShard (rest : List Row) : Type 0 where
    pub no_pair : next_begins rest (codes "pair") ≡ false
    pub no_event : next_begins rest (codes "event") ≡ false

  -- events, where there are some, are no pairs
  before_events : (es : List (ℕ × Event)) (rows rest : List Row) → Followed rows (map (event_line naming) es) rest → next_begins rest (codes "pair") ≡ false → next_begins rows (codes "pair") ≡ false
  before_events [] rows rest f none = ap (λ (rs : List Row). next_begins rs (codes "pair")) f ∙ none
  before_events (e ∷ es) [] rest f none = absurd f
  before_events (e ∷ es) (row ∷ rows) rest f none = begins-is row (codes "event") (codes "pair") (rw f.0.words refl)

  no_pairs : (replay : Bool) (es : List (ℕ × Event)) (rows rest : List Row) → OnlyWhere replay (EachAfter (StepFits naming) step_of 0) es → Followed rows (event_lines naming es) rest → next_begins rest (codes "pair") ≡ false → next_begins rows (codes "pair") ≡ false
  no_pairs false [] rows rest fit f none = ap (λ (rs : List Row). next_begins rs (codes "pair")) f ∙ none
  no_pairs false (e ∷ es) rows rest fit f none = absurd (cc)
  no_pairs true es rows rest fit f none = before_events es rows rest (subst (λ ls. Followed rows ls rest) (all_printed 0 es fit) f) none

  few_ranks : naming.ranks < 2 ^ 32
  few_ranks = let h = ok.few_ranks in omega arith

  few_shards : naming.shards < 2 ^ 32
  few_shards = let h = ok.few_shards in omega arith

  pub shard_next-again : (version : Version) (replay : Bool) (number : ℕ) (s : TheShard) (left : Left) (rest : List Row) → number < 2 ^ 32 → ShardFits naming replay number s → (version ≡ First → IsOldShard s) → EndsShard rest
      → Followed left.rows (shard_lines naming number s) rest → ReadsTo (shard_next naming version replay number left) s rest
  unfolding shard_next
  shard_next-again version replay number s left rest small fit old ends f =
      let pairs_on = map pair_words s.pairs ++ event_lines naming s.events in
      let queues_on = queue_lines naming.queues s.queues ++ pairs_on in
      let entries_on = map entry_words s.entries ++ queues_on in
      let h = Followed-head left.rows (shard_words number s) entries_on rest f in
      let f1 = Followed-split h.more rest (map entry_words s.entries) queues_on h.others in
      let f2 = Followed-split f1.0 rest (queue_lines naming.queues s.queues) pairs_on f1.2 in
      let f3 = Followed-split f2.0 rest (map pair_words s.pairs) (event_lines naming s.events) f2.2 in
      let a = entries-again naming version number (length s.entries) s.entries (left_of h.more (left.read + 1)) f1.0 few_ranks few_shards refl fit.entries old f1.1 in
      let b = tallies-again naming.queues s.queues (left_of f1.0 a.0) f2.0 fit.each_queue fit.queues f2.1 in
      let c = pairs-again replay s.pairs (left_of f2.0 b.0) f3.0 fit.pairs (no_pairs replay s.events f3.0 rest fit.events f3.2 ends.no_pair) f3.1 in
      let d = events-again replay s.events (left_of f3.0 c.0) rest fit.events ends.no_event f3.2 in
      (d.0, rw (line-again left h.row h.more h.are h.line.ended, shard-again number h.row s.updates (length s.entries) small fit.few_updates fit.few_entries h.line.words, a.1, b.1, c.1, d.1) refl)

  pub shard_next-plain : (replay : Bool) (number : ℕ) (s : TheShard) → number < 2 ^ 32 → ShardFits naming replay number s → AllByRecursion IsPlain (shard_lines naming number s)
  shard_next-plain replay number s small fit = (
    shard-plain number s.updates (length s.entries) small fit.few_updates fit.few_entries,
    AllByRecursion-append IsPlain (map entry_words s.entries) _ (entries-plain naming number s.entries few_ranks few_shards fit.entries)
        (AllByRecursion-append IsPlain (queue_lines naming.queues s.queues) _ (tallies-plain naming.queues s.queues ok.plain fit.queues)
        (AllByRecursion-append IsPlain (map pair_words s.pairs) _ (pairs-plain replay s.pairs fit.pairs) (events-plain replay s.events fit.events))),
  )

  -- ---- the shards

  pub record ShardsRead (version : Version) (replay : Bool) (number n : ℕ) (left : Left) (p : List TheShard × Left) : Type 0 where
    pub lines : Followed left.rows (shards_lines naming number p.0) p.1.rows
    pub each : length p.0 ≡ n
    pub fit : ShardsFit naming replay number p.0
    pub old : version ≡ First → AllByRecursion IsOldShard p.0

  pub shards-take : (version : Version) (replay : Bool) (number n : ℕ) (left : Left) (p : List TheShard × Left) → shards_next naming version replay number n left ≡ Ok p → ShardsRead version replay number n left p
  unfolding shards_next
  shards-take version replay number zero left p e = subst (λ (q : List TheShard × Left). ShardsRead version replay number zero left q) (ok_is ([], left) p e) (record { lines = refl; each = refl; fit = tt; old = λ first. tt })
  shards-take version replay number (suc n) left p e =
      from_bind (shard_next naming version replay number left) _ p e (λ shard shard_read e1.
      from_bind (shards_next naming version replay (number + 1) n shard.1) _ p e1 (λ others more e2.
      let t : ShardRead version replay number left shard = shard_next-takes version replay number left shard shard_read in
      let m : ShardsRead version replay (number + 1) n shard.1 others = shards-take version replay (number + 1) n shard.1 others more in
      subst (λ (q : List TheShard × Left). ShardsRead version replay number (suc n) left q) (ok_is (shard.0 ∷ others.0, others.1) p e2) (record {
        lines = Followed-then left.rows shard.1.rows others.1.rows (shard_lines naming number shard.0) (shards_lines naming (number + 1) others.0) t.lines m.lines;
        each = ap suc m.each;
        fit = (t.fit, m.fit);
        old = λ first. (t.old first, m.old first);
      })))

  -- a shard's first line is no pair and no event
  shard_ends : (number : ℕ) (s : TheShard) (rows rest : List Row) → Followed rows (shard_lines naming number s) rest → EndsShard rows
  shard_ends number s [] rest f = absurd f
  shard_ends number s (row ∷ rows) rest f = record {
    no_pair = begins-is row (codes "shard") (codes "pair") (rw f.0.words refl);
    no_event = begins-is row (codes "shard") (codes "event") (rw f.0.words refl);
  }

  shards_end : (number : ℕ) (ss : List TheShard) (rows rest : List Row) → Followed rows (shards_lines naming number ss) rest → EndsShard rest → EndsShard rows
  shards_end number [] rows rest f ends = subst EndsShard (sym f) ends
  shards_end number (s ∷ ss) rows rest f ends =
      let q = Followed-split rows rest (shard_lines naming number s) (shards_lines naming (number + 1) ss) f in
      shard_ends number s rows q.0 q.1

  pub shards-again : (version : Version) (replay : Bool) (number n : ℕ) (ss : List TheShard) (left : Left) (rest : List Row) → number + n ≤ 16 → length ss ≡ n → ShardsFit naming replay number ss → (version ≡ First → AllByRecursion IsOldShard ss) → EndsShard rest
      → Followed left.rows (shards_lines naming number ss) rest → ReadsTo (shards_next naming version replay number n left) ss rest
  unfolding shards_next
  shards-again version replay number zero [] left rest few each fit old ends f = (left.read, ap (λ (rows : List Row). Ok ([], left_of rows left.read)) f)
  shards-again version replay number zero (s ∷ ss) left rest few each fit old ends f = absurd (omega (arith, each))
  shards-again version replay number (suc n) [] left rest few each fit old ends f = absurd (omega (arith, each))
  shards-again version replay number (suc n) (s ∷ ss) left rest few each fit old ends f =
      let q = Followed-split left.rows rest (shard_lines naming number s) (shards_lines naming (number + 1) ss) f in
      let a = shard_next-again version replay number s left q.0 (omega arith) fit.0 (λ first. (old first).0) (shards_end (number + 1) ss q.0 rest q.2 ends) q.1 in
      let b = shards-again version replay (number + 1) n ss (left_of q.0 a.0) rest (omega arith) (omega (arith, each)) fit.1 (λ first. (old first).1) ends q.2 in
      (b.0, rw (a.1, b.1) refl)

  pub shards-plain : (replay : Bool) (number : ℕ) (ss : List TheShard) → number + length ss ≤ 16 → ShardsFit naming replay number ss → AllByRecursion IsPlain (shards_lines naming number ss)
  shards-plain replay number [] few fit = tt
  shards-plain replay number (s ∷ ss) few fit =
      AllByRecursion-append IsPlain (shard_lines naming number s) _ (shard_next-plain replay number s (omega (arith, few)) fit.0) (shards-plain replay (number + 1) ss (omega (arith, few)) fit.1)
