-- Sections of a report: lines as long as they begin so, and so many lines.
use Rattle.std.proofs.Common.{◌≡◌, ℕ, zero, suc, ◌+◌, ◌≤◌, Bool, true, false, List, [], ◌∷◌, length, map, Option, Some, None, Result, Ok, inl, inr, refl, ap, subst, ◌∙◌, arith}
use Rattle.std.specs.List.{AllByRecursion}
use Rattle.rl_text.specs.declared.causes.Refusal.{Refusal}
use Rattle.rl_text.specs.Rows.{Row, Left, words}
use Rattle.rl_text.specs.Reading.{whole, begins, next_left, next_begins}
use Rattle.rl_text.proofs.FromLaws.{from_bind}
use Rattle.rl_text.proofs.TextLaws.{IsPlain}
use Rattle.rl_text.proofs.WordLaws.{ok_is, chosen, whole-takes, whole-again}
use Rattle.rl_text.proofs.SectionLaws.{Followed, Followed-head, line-takes, line-again, line_then, one_line, left_of}
use Rattle.rl_place.proofs.SettingLaws.{ReadsTo}
use Rattle.rl_step.specs.declared.tallies.Tally.{Tally}
use Rattle.rl_step.specs.declared.tallies.Steps.{Steps}
use Rattle.rl_report.specs.declared.report.Done.{Done}
use Rattle.rl_text.proofs.TextLaws.{is_plain}
use Rattle.rl_report.specs.Naming.{TheQueueName}
use Rattle.rl_report.specs.Reports.{EachAfter, TallyFits, DoneFits, StepsFit}
use Rattle.rl_report.specs.Spelling.{queue_words, queue_lines, rank_done_words, rank_done_lines, steps_words, steps_lines}
use Rattle.rl_report.specs.Reading.{lines_while, tally_in_row, tallies_next, done_at, dones_next, steps_at, steps_next}
use Rattle.rl_report.proofs.HeadLaws.{TallyTaken, tally-takes, tally-again, tally-plain, DoneTaken, done-takes, done-again, done-plain, StepsTaken, steps-takes, steps-again, steps-plain}

-- ---- lines as long as they begin with a word

pub record ItemLaws {X S : Type 0} (name : List ℕ) (item : S → Row → Result X Refusal) (words_of : X → List (List ℕ)) (Fits : S → X → Type 0) : Type 0 where
  pub takes : (s : S) (row : Row) (x : X) → item s row ≡ Ok x → (words row ≡ words_of x) × Fits s x
  pub again : (s : S) (row : Row) (x : X) → words row ≡ words_of x → Fits s x → item s row ≡ Ok x
  pub plain : (s : S) (x : X) → Fits s x → IsPlain (words_of x)
  pub begins : (row : Row) (x : X) → words row ≡ words_of x → begins row name ≡ true

module _ {X S : Type 0} {name : List ℕ} {item : S → Row → Result X Refusal} {words_of : X → List (List ℕ)} {Fits : S → X → Type 0} (laws : ItemLaws name item words_of Fits) (after : X → S) where
  pub record WhileTaken (s : S) (rows : List Row) (p : List X × Left) : Type 0 where
    pub lines : Followed rows (map words_of p.0) p.1.rows
    pub fit : EachAfter Fits after s p.0

  pub while-takes : (s : S) (read : ℕ) (rows : List Row) (p : List X × Left) → lines_while name item after s read rows ≡ Ok p → WhileTaken s rows p
  unfolding lines_while
  while-takes s read [] p e = subst (λ (q : List X × Left). WhileTaken s [] q) (ok_is ([], left_of [] read) p e) (record { lines = refl; fit = tt })
  while-takes s read (row ∷ rows) p e = elim (chosen (begins row name) _ _ (Ok p) e) [
    | inl c ↦
        from_bind (whole row) _ p c.1 (λ line there e1.
        from_bind (item s line) _ p e1 (λ x read_x e2.
        from_bind (lines_while name item after (after x) (read + 1) rows) _ p e2 (λ others more e3.
        let w = whole-takes row line there in
        let t = laws.takes s line x read_x in
        let m : WhileTaken (after x) rows others = while-takes (after x) (read + 1) rows others more in
        subst (λ (q : List X × Left). WhileTaken s (row ∷ rows) q) (ok_is (x ∷ others.0, others.1) p e3) (record {
          lines = (record { ended = w.1; words = ap words w.0 ∙ t.0 }, m.lines);
          fit = (t.1, m.fit);
        }))))
    | inr c ↦ subst (λ (q : List X × Left). WhileTaken s (row ∷ rows) q) (ok_is ([], left_of (row ∷ rows) read) p c.1) (record { lines = refl; fit = tt })
  ]

  -- nothing more of this kind comes
  nothing : (s : S) (read : ℕ) (rows : List Row) → next_begins rows name ≡ false → lines_while name item after s read rows ≡ Ok ([], left_of rows read)
  unfolding lines_while
  nothing s read [] none = refl
  nothing s read (row ∷ rows) none = rw none refl

  pub while-again : (s : S) (read : ℕ) (rows : List Row) (xs : List X) (rest : List Row) → EachAfter Fits after s xs → next_begins rest name ≡ false → Followed rows (map words_of xs) rest → ReadsTo (lines_while name item after s read rows) xs rest
  unfolding lines_while
  while-again s read rows [] rest fit none f =
      (read, nothing s read rows (ap (λ (rs : List Row). next_begins rs name) f ∙ none) ∙ ap (λ (rs : List Row). Ok ([], left_of rs read)) f)
  while-again s read [] (x ∷ xs) rest fit none f = absurd f
  while-again s read (row ∷ rows) (x ∷ xs) rest fit none f =
      let more = while-again (after x) (read + 1) rows xs rest fit.1 none f.1 in
      (more.0, rw (laws.begins row x f.0.words, whole-again row f.0.ended, laws.again s row x f.0.words fit.0, more.1) refl)

  pub while-plain : (s : S) (xs : List X) → EachAfter Fits after s xs → AllByRecursion IsPlain (map words_of xs)
  while-plain s [] fit = tt
  while-plain s (x ∷ xs) fit = (laws.plain s x fit.0, while-plain (after x) xs fit.1)

-- ---- a line for each queue

pub record TalliesTaken (queues : List TheQueueName) (left : Left) (p : List Tally × Left) : Type 0 where
  pub lines : Followed left.rows (queue_lines queues p.0) p.1.rows
  pub each : length p.0 ≡ length queues
  pub fit : AllByRecursion TallyFits p.0

pub tallies-take : (queues : List TheQueueName) (left : Left) (p : List Tally × Left) → tallies_next queues left ≡ Ok p → TalliesTaken queues left p
unfolding tallies_next
tallies-take [] left p e = subst (λ (q : List Tally × Left). TalliesTaken [] left q) (ok_is ([], left) p e) (record { lines = refl; each = refl; fit = tt })
tallies-take (queue ∷ queues) left p e =
    from_bind (next_left left) _ p e (λ line taken e1.
    from_bind (tally_in_row queue line.0) _ p e1 (λ tally read e2.
    from_bind (tallies_next queues line.1) _ p e2 (λ others more e3.
    let t : TallyTaken queue line.0 tally = tally-takes queue line.0 tally read in
    let m : TalliesTaken queues line.1 others = tallies-take queues line.1 others more in
    subst (λ (q : List Tally × Left). TalliesTaken (queue ∷ queues) left q) (ok_is (tally ∷ others.0, others.1) p e3) (record {
      lines = line_then left line (queue_words queue tally) (queue_lines queues others.0) others.1.rows (line-takes left line taken) t.are m.lines;
      each = ap suc m.each;
      fit = (t.fits, m.fit);
    }))))

pub tallies-again : (queues : List TheQueueName) (ts : List Tally) (left : Left) (rest : List Row) → length ts ≡ length queues → AllByRecursion TallyFits ts → Followed left.rows (queue_lines queues ts) rest → ReadsTo (tallies_next queues left) ts rest
unfolding tallies_next
tallies-again [] [] left rest each fit f = (left.read, ap (λ (rows : List Row). Ok ([], left_of rows left.read)) f)
tallies-again [] (t ∷ ts) left rest each fit f = absurd (omega (arith, each))
tallies-again (queue ∷ queues) [] left rest each fit f = absurd (omega (arith, each))
tallies-again (queue ∷ queues) (t ∷ ts) left rest each fit f =
    let h = Followed-head left.rows (queue_words queue t) (queue_lines queues ts) rest f in
    let more = tallies-again queues ts (left_of h.more (left.read + 1)) rest (omega (arith, each)) fit.1 h.others in
    (more.0, rw (line-again left h.row h.more h.are h.line.ended, tally-again queue h.row t fit.0 h.line.words, more.1) refl)

pub tallies-plain : (queues : List TheQueueName) (ts : List Tally) → AllByRecursion (λ queue. is_plain queue.word ≡ true) queues → AllByRecursion TallyFits ts → AllByRecursion IsPlain (queue_lines queues ts)
tallies-plain [] ts plain fit = tt
tallies-plain (queue ∷ queues) [] plain fit = tt
tallies-plain (queue ∷ queues) (t ∷ ts) plain fit = (tally-plain queue t plain.0 fit.0, tallies-plain queues ts plain.1 fit.1)

-- ---- a line for each rank

pub record DonesTaken (rank n : ℕ) (left : Left) (p : List Done × Left) : Type 0 where
  pub lines : Followed left.rows (rank_done_lines rank p.0) p.1.rows
  pub each : length p.0 ≡ n
  pub fit : AllByRecursion DoneFits p.0

pub dones-take : (rank n : ℕ) (left : Left) (p : List Done × Left) → dones_next rank n left ≡ Ok p → DonesTaken rank n left p
unfolding dones_next
dones-take rank zero left p e = subst (λ (q : List Done × Left). DonesTaken rank zero left q) (ok_is ([], left) p e) (record { lines = refl; each = refl; fit = tt })
dones-take rank (suc n) left p e =
    from_bind (next_left left) _ p e (λ line taken e1.
    from_bind (done_at rank line.0) _ p e1 (λ done read e2.
    from_bind (dones_next (rank + 1) n line.1) _ p e2 (λ others more e3.
    let t : DoneTaken rank line.0 done = done-takes rank line.0 done read in
    let m : DonesTaken (rank + 1) n line.1 others = dones-take (rank + 1) n line.1 others more in
    subst (λ (q : List Done × Left). DonesTaken rank (suc n) left q) (ok_is (done ∷ others.0, others.1) p e3) (record {
      lines = line_then left line (rank_done_words rank done) (rank_done_lines (rank + 1) others.0) others.1.rows (line-takes left line taken) t.are m.lines;
      each = ap suc m.each;
      fit = (t.fits, m.fit);
    }))))

pub dones-again : (rank n : ℕ) (ds : List Done) (left : Left) (rest : List Row) → rank + n ≤ 32 → length ds ≡ n → AllByRecursion DoneFits ds → Followed left.rows (rank_done_lines rank ds) rest → ReadsTo (dones_next rank n left) ds rest
unfolding dones_next
dones-again rank zero [] left rest few each fit f = (left.read, ap (λ (rows : List Row). Ok ([], left_of rows left.read)) f)
dones-again rank zero (d ∷ ds) left rest few each fit f = absurd (omega (arith, each))
dones-again rank (suc n) [] left rest few each fit f = absurd (omega (arith, each))
dones-again rank (suc n) (d ∷ ds) left rest few each fit f =
    let h = Followed-head left.rows (rank_done_words rank d) (rank_done_lines (rank + 1) ds) rest f in
    let more = dones-again (rank + 1) n ds (left_of h.more (left.read + 1)) rest (omega arith) (omega (arith, each)) fit.1 h.others in
    (more.0, rw (line-again left h.row h.more h.are h.line.ended, done-again rank h.row d (omega arith) fit.0 h.line.words, more.1) refl)

pub dones-plain : (rank : ℕ) (ds : List Done) → rank + length ds ≤ 32 → AllByRecursion DoneFits ds → AllByRecursion IsPlain (rank_done_lines rank ds)
dones-plain rank [] few fit = tt
dones-plain rank (d ∷ ds) few fit = (done-plain rank d (omega (arith, few)) fit.0, dones-plain (rank + 1) ds (omega (arith, few)) fit.1)

-- ---- the steps of a replay

-- a replay has steps
abbrev pub HasSteps : Bool → Option Steps → Type 0
HasSteps true None = ⊥
HasSteps true (Some s) = Unit {0}
HasSteps false None = Unit {0}
HasSteps false (Some s) = ⊥

pub record StepsRead (replay : Bool) (left : Left) (p : Option Steps × Left) : Type 0 where
  pub lines : Followed left.rows (steps_lines p.0) p.1.rows
  pub has : HasSteps replay p.0
  pub fit : StepsFit p.0

pub steps_next-takes : (replay : Bool) (left : Left) (p : Option Steps × Left) → steps_next replay left ≡ Ok p → StepsRead replay left p
unfolding steps_next
steps_next-takes false left p e = subst (λ (q : Option Steps × Left). StepsRead false left q) (ok_is (None, left) p e) (record { lines = refl; has = tt; fit = tt })
steps_next-takes true left p e =
    from_bind (next_left left) _ p e (λ line taken e1.
    from_bind (steps_at line.0) _ p e1 (λ steps read e2.
    let t : StepsTaken line.0 steps = steps-takes line.0 steps read in
    subst (λ (q : Option Steps × Left). StepsRead true left q) (ok_is (Some steps, line.1) p e2) (record {
      lines = one_line left line (steps_words steps) (line-takes left line taken) t.are;
      has = tt;
      fit = t.few;
    })))

pub steps_next-again : (replay : Bool) (o : Option Steps) (left : Left) (rest : List Row) → HasSteps replay o → StepsFit o → Followed left.rows (steps_lines o) rest → ReadsTo (steps_next replay left) o rest
unfolding steps_next
steps_next-again true None left rest has fit f = absurd has
steps_next-again false None left rest has fit f = (left.read, ap (λ (rows : List Row). Ok (None, left_of rows left.read)) f)
steps_next-again false (Some s) left rest has fit f = absurd has
steps_next-again true (Some s) left rest has fit f =
    let h = Followed-head left.rows (steps_words s) [] rest f in
    (left.read + 1, rw (line-again left h.row h.more h.are h.line.ended, steps-again h.row s fit h.line.words) (ap (λ (rows : List Row). Ok (Some s, left_of rows (left.read + 1))) h.others))

pub steps_next-plain : (o : Option Steps) → StepsFit o → AllByRecursion IsPlain (steps_lines o)
steps_next-plain None fit = tt
steps_next-plain (Some s) fit = (steps-plain s fit, tt)
