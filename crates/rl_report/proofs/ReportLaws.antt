-- A report's text: what is read is spelled so, and what is spelled so is read.
use Rattle.std.proofs.Common.{◌≡◌, ◌↔◌, ℕ, ◌+◌, Bool, true, false, List, [], ◌∷◌, ◌++◌, codes, Option, Some, None, is_some, Result, Ok, Err, IfOk, inl, inr, refl, sym, ap, subst, ◌∙◌, ⊎_elim, arith}
use Rattle.std.specs.List.{AllByRecursion}
use Rattle.rl_text.specs.declared.causes.Refusal.{Refusal}
use Rattle.rl_text.specs.declared.causes.Why.TheVariants.{Word}
use Rattle.rl_text.specs.declared.failing.TextErr.{TextErr}
use Rattle.rl_text.specs.Rows.{Row, Left, rows_from, words}
use Rattle.rl_text.specs.Reading.{Gives, fixed_at, begins, next_left, fault_of}
use Rattle.rl_text.specs.Spelling.{text_of}
use Rattle.rl_text.proofs.FromLaws.{from_bind}
use Rattle.rl_text.proofs.TextLaws.{is_plain, IsPlain, AllByRecursion-append, AreLines, rows_of_lines, rows-text, text-lines}
use Rattle.rl_text.proofs.WordLaws.{ok_is, begins-is, fixed-takes, fixed-again, end-takes, end-again, words-made, plain-decimal}
use Rattle.rl_text.proofs.SectionLaws.{Followed, Followed-head, Followed-then, Followed-split, Followed-lines, Lines-followed, line-takes, line-again, line_then, left_of}
use Rattle.rl_step.specs.declared.tallies.Steps.{Steps}
use Rattle.rl_report.specs.declared.report.Done.{Done}
use Rattle.rl_report.specs.declared.version.Version.{Version}
use Rattle.rl_report.specs.declared.version.Version.TheVariants.{First, Second}
use Rattle.rl_report.specs.Naming.{TheNaming}
use Rattle.rl_report.specs.Reports.{TheReport, ShardsFit, ReportFits, IsOld}
use Rattle.rl_report.specs.Spelling.{shards_lines, rank_done_lines, steps_lines, mode_word, sizes_words, report_body_lines, report_lines, report_spelling, SpellsReport, IsTextOf}
use Rattle.rl_report.specs.Reading.{version_at, mode_at, sizes_at, shards_next, dones_next, steps_next, closing_at, body_next, report_at, report_fault}
use Rattle.rl_report.proofs.HeadLaws.{version_word, first_words, version-takes, version-again, mode_of, mode-takes, mode-again, sizes-takes, sizes-again}
use Rattle.rl_report.proofs.SectionLaws.{DonesTaken, dones-take, dones-again, dones-plain, HasSteps, StepsRead, steps_next-takes, steps_next-again, steps_next-plain}
use Rattle.rl_report.proofs.EventLaws.{IsNaming}
use Rattle.rl_report.proofs.ShardLaws.{EndsShard, ShardsRead, shards-take, shards-again, shards-plain}

-- a replay has steps, and is called so
mode_is : (replay : Bool) (o : Option Steps) → HasSteps replay o → (is_some o ≡ replay) × (mode_word o ≡ mode_of replay)
mode_is true None has = absurd has
mode_is true (Some s) has = (refl, refl)
mode_is false None has = (refl, refl)
mode_is false (Some s) has = absurd has

has_steps : (o : Option Steps) → HasSteps (is_some o) o
has_steps None = tt
has_steps (Some s) = tt

abbrev closing_lines : List (List (List ℕ))
closing_lines = (codes "end" ∷ []) ∷ []

module _ (naming : TheNaming) (ok : IsNaming naming) where
  -- ---- the lines after the first

  record BodyTaken (version : Version) (left : Left) (r : TheReport) : Type 0 where
    lines : Followed left.rows (report_body_lines naming r) []
    fit : ReportFits naming r
    old : version ≡ First → IsOld r

  body-takes : (version : Version) (left : Left) (r : TheReport) → body_next naming version left ≡ Ok r → BodyTaken version left r
  unfolding body_next closing_at
  body-takes version left r e =
      from_bind (next_left left) _ r e (λ mode mode_line e1.
      from_bind (mode_at naming mode.0) _ r e1 (λ replay mode_read e2.
      from_bind (next_left mode.1) _ r e2 (λ sizes sizes_line e3.
      from_bind (sizes_at naming sizes.0) _ r e3 (λ u1 sizes_read e4.
      from_bind (shards_next naming version replay 0 naming.shards sizes.1) _ r e4 (λ shards shards_read e5.
      from_bind (dones_next 0 naming.ranks shards.1) _ r e5 (λ dones dones_read e6.
      from_bind (steps_next replay dones.1) _ r e6 (λ steps steps_read e7.
      from_bind (closing_at steps.1) _ r e7 (λ u3 closed e10.
      from_bind (next_left steps.1) _ u3 closed (λ last last_line e8.
      from_bind (fixed_at last.0 1 (codes "end") Word) _ u3 e8 (λ u2 named alone.
      let made : TheReport = record { shards = shards.0; done = dones.0; steps = steps.0 } in
      let a : ShardsRead naming ok version replay 0 naming.shards sizes.1 shards = shards-take naming ok version replay 0 naming.shards sizes.1 shards shards_read in
      let b : DonesTaken 0 naming.ranks shards.1 dones = dones-take 0 naming.ranks shards.1 dones dones_read in
      let c : StepsRead replay dones.1 steps = steps_next-takes replay dones.1 steps steps_read in
      let m = mode_is replay steps.0 c.has in
      let t = line-takes steps.1 last last_line in
      let first : begins last.0 (codes "end") ≡ true = begins-is last.0 (codes "end") (codes "end") (fixed-takes last.0 1 (codes "end") Word u2 named) in
      let f0 : Followed steps.1.rows closing_lines [] = subst (λ (rows : List Row). Followed rows closing_lines []) (sym t.rows) (Lines-followed (last.0 ∷ last.1.rows) closing_lines (end-takes last.0 last.1.rows u3 t.ended first alone)) in
      let f1 : Followed dones.1.rows (steps_lines steps.0 ++ closing_lines) [] = Followed-then dones.1.rows steps.1.rows [] (steps_lines steps.0) closing_lines c.lines f0 in
      let f2 : Followed shards.1.rows (rank_done_lines 0 dones.0 ++ (steps_lines steps.0 ++ closing_lines)) [] = Followed-then shards.1.rows dones.1.rows [] (rank_done_lines 0 dones.0) _ b.lines f1 in
      let f3 : Followed sizes.1.rows (shards_lines naming 0 shards.0 ++ (rank_done_lines 0 dones.0 ++ (steps_lines steps.0 ++ closing_lines))) [] = Followed-then sizes.1.rows shards.1.rows [] (shards_lines naming 0 shards.0) _ a.lines f2 in
      let f4 : Followed mode.1.rows (sizes_words naming ∷ (shards_lines naming 0 shards.0 ++ (rank_done_lines 0 dones.0 ++ (steps_lines steps.0 ++ closing_lines)))) [] = line_then mode.1 sizes (sizes_words naming) (shards_lines naming 0 shards.0 ++ (rank_done_lines 0 dones.0 ++ (steps_lines steps.0 ++ closing_lines))) [] (line-takes mode.1 sizes sizes_line) (sizes-takes naming sizes.0 u1 sizes_read) f3 in
      let first_line : words mode.0 ≡ mode_word steps.0 ∷ naming.lock ∷ [] = mode-takes naming mode.0 replay mode_read ∙ ap (λ w. w ∷ naming.lock ∷ []) (sym m.1) in
      subst (λ (q : TheReport). BodyTaken version left q) (ok_is made r e10) (record {
        lines = line_then left mode (mode_word steps.0 ∷ naming.lock ∷ []) (sizes_words naming ∷ (shards_lines naming 0 shards.0 ++ (rank_done_lines 0 dones.0 ++ (steps_lines steps.0 ++ closing_lines)))) [] (line-takes left mode mode_line) first_line f4;
        fit = record {
          each_shard = a.each;
          shards = subst (λ b. ShardsFit naming b 0 shards.0) (sym m.0) a.fit;
          each_rank = b.each;
          done = b.fit;
          steps = c.fit;
        };
        old = a.old;
      })))))))))))

  -- after the shards comes no pair and no event
  ends_shards : (rank : ℕ) (ds : List Done) (o : Option Steps) (rows : List Row) → Followed rows (rank_done_lines rank ds ++ (steps_lines o ++ closing_lines)) [] → EndsShard naming ok rows
  ends_shards rank [] None [] f = absurd f
  ends_shards rank [] None (row ∷ rows) f = record {
    no_pair = begins-is row (codes "end") (codes "pair") (rw f.0.words refl);
    no_event = begins-is row (codes "end") (codes "event") (rw f.0.words refl);
  }
  ends_shards rank [] (Some s) [] f = absurd f
  ends_shards rank [] (Some s) (row ∷ rows) f = record {
    no_pair = begins-is row (codes "steps") (codes "pair") (rw f.0.words refl);
    no_event = begins-is row (codes "steps") (codes "event") (rw f.0.words refl);
  }
  ends_shards rank (d ∷ ds) o [] f = absurd f
  ends_shards rank (d ∷ ds) o (row ∷ rows) f = record {
    no_pair = begins-is row (codes "rank") (codes "pair") (rw f.0.words refl);
    no_event = begins-is row (codes "rank") (codes "event") (rw f.0.words refl);
  }

  body-again : (version : Version) (left : Left) (r : TheReport) → ReportFits naming r → (version ≡ First → IsOld r) → Followed left.rows (report_body_lines naming r) [] → body_next naming version left ≡ Ok r
  unfolding body_next closing_at
  body-again version left r fit old f =
      let few_ranks = ok.few_ranks in
      let few_shards = ok.few_shards in
      let replay : Bool = is_some r.steps in
      let steps_on = steps_lines r.steps ++ closing_lines in
      let ranks_on = rank_done_lines 0 r.done ++ steps_on in
      let shards_on = shards_lines naming 0 r.shards ++ ranks_on in
      let mode = Followed-head left.rows (mode_word r.steps ∷ naming.lock ∷ []) (sizes_words naming ∷ shards_on) [] f in
      let sizes = Followed-head mode.more (sizes_words naming) shards_on [] mode.others in
      let f1 = Followed-split sizes.more [] (shards_lines naming 0 r.shards) ranks_on sizes.others in
      let f2 = Followed-split f1.0 [] (rank_done_lines 0 r.done) steps_on f1.2 in
      let f3 = Followed-split f2.0 [] (steps_lines r.steps) closing_lines f2.2 in
      let last = Followed-head f3.0 (codes "end" ∷ []) [] [] f3.2 in
      let first_line : words mode.row ≡ mode_of replay ∷ naming.lock ∷ [] = mode.line.words ∙ ap (λ w. w ∷ naming.lock ∷ []) (mode_is replay r.steps (has_steps r.steps)).1 in
      let a = shards-again naming ok version replay 0 naming.shards r.shards (left_of sizes.more (left.read + 1 + 1)) f1.0 (omega arith) fit.each_shard fit.shards old (ends_shards 0 r.done r.steps f1.0 f1.2) f1.1 in
      let b = dones-again 0 naming.ranks r.done (left_of f1.0 a.0) f2.0 (omega arith) fit.each_rank fit.done f2.1 in
      let c = steps_next-again replay r.steps (left_of f2.0 b.0) f3.0 (has_steps r.steps) fit.steps f3.1 in
      let rows : f3.0 ≡ last.row ∷ [] = last.are ∙ ap (λ (more : List Row). last.row ∷ more) last.others in
      rw (
        line-again left mode.row mode.more mode.are mode.line.ended,
        mode-again naming mode.row replay first_line,
        line-again (left_of mode.more (left.read + 1)) sizes.row sizes.more sizes.are sizes.line.ended,
        sizes-again naming sizes.row (omega arith) (omega arith) sizes.line.words,
        a.1,
        b.1,
        c.1,
        line-again (left_of f3.0 c.0) last.row [] rows last.line.ended,
        fixed-again last.row 1 (codes "end") Word (rw last.line.words refl),
        (end-again last.row last.line.words).1,
      ) refl

  -- ---- the text

  pub record ReportTaken (text : List ℕ) (r : TheReport) : Type 0 where
    pub fit : ReportFits naming r
    pub spelled : SpellsReport naming r text

  spells : (version : Version) (text : List ℕ) (r : TheReport) → (version ≡ First → IsOld r) → text ≡ text_of (report_lines (version_word version) naming r) → SpellsReport naming r text
  spells First text r old e = inr (old refl, e)
  spells Second text r old e = inl e

  pub report-takes : (text : List ℕ) (r : TheReport) → report_at naming text ≡ Ok r → ReportTaken text r
  unfolding report_at
  report-takes text r e =
      let start = left_of (rows_from 1 text) 0 in
      from_bind (next_left start) _ r e (λ first first_line e1.
      from_bind (version_at first.0) _ r e1 (λ version version_read e2.
      let b : BodyTaken version first.1 r = body-takes version first.1 r e2 in
      let all : Followed (rows_from 1 text) (report_lines (version_word version) naming r) [] = line_then start first (first_words version) (report_body_lines naming r) [] (line-takes start first first_line) (version-takes first.0 version version_read) b.lines in
      record { fit = b.fit; spelled = spells version text r b.old (text-lines 1 text (report_lines (version_word version) naming r) (Followed-lines (rows_from 1 text) (report_lines (version_word version) naming r) all)) }))

  -- ---- and back

  are-made : (n : ℕ) (lines : List (List (List ℕ))) → AllByRecursion IsPlain lines → AreLines (rows_of_lines n lines) lines
  are-made n [] plain = tt
  are-made n (ws ∷ lines) plain = (record { ended = refl; words = words-made n ws plain.0 }, are-made (n + 1) lines plain.1)

  body-plain : (r : TheReport) → ReportFits naming r → AllByRecursion IsPlain (report_body_lines naming r)
  body-plain r fit =
      let few_ranks = ok.few_ranks in
      let few_shards = ok.few_shards in
      let each_shard = fit.each_shard in
      let each_rank = fit.each_rank in (
        (omega arith, (mode-plain r.steps, (ok.lock_plain, tt))),
        (
          (omega arith, (refl, (plain-decimal naming.ranks (omega arith), (refl, (plain-decimal naming.shards (omega arith), tt))))),
          AllByRecursion-append IsPlain (shards_lines naming 0 r.shards) _ (shards-plain naming ok (is_some r.steps) 0 r.shards (omega arith) fit.shards)
              (AllByRecursion-append IsPlain (rank_done_lines 0 r.done) _ (dones-plain 0 r.done (omega arith) fit.done)
              (AllByRecursion-append IsPlain (steps_lines r.steps) closing_lines (steps_next-plain r.steps fit.steps) ((omega arith, (refl, tt)), tt))),
        ),
      )
    where
      mode-plain : (o : Option Steps) → is_plain (mode_word o) ≡ true
      mode-plain None = refl
      mode-plain (Some s) = refl

  read-again : (version : Version) (r : TheReport) → ReportFits naming r → (version ≡ First → IsOld r) → report_at naming (text_of (report_lines (version_word version) naming r)) ≡ Ok r
  unfolding report_at
  read-again version r fit old =
      let lines : List (List (List ℕ)) = report_lines (version_word version) naming r in
      let text = text_of lines in
      let plain : AllByRecursion IsPlain lines = ((omega arith, (refl, (version-plain version, tt))), body-plain r fit) in
      let rows : rows_from 1 text ≡ rows_of_lines 1 lines = rows-text 1 lines plain in
      let all : Followed (rows_from 1 text) lines [] = subst (λ (rs : List Row). Followed rs lines []) (sym rows) (Lines-followed (rows_of_lines 1 lines) lines (are-made 1 lines plain)) in
      let h = Followed-head (rows_from 1 text) (first_words version) (report_body_lines naming r) [] all in
      let body = body-again version (left_of h.more 1) r fit old h.others in
      rw (line-again (left_of (rows_from 1 text) 0) h.row h.more h.are h.line.ended, version-again h.row version h.line.words, body) refl
    where
      version-plain : (v : Version) → is_plain (version_word v) ≡ true
      version-plain First = refl
      version-plain Second = refl

  pub report-again : (text : List ℕ) (r : TheReport) → ReportFits naming r → SpellsReport naming r text → report_at naming text ≡ Ok r
  report-again text r fit spelled = ⊎_elim
      (λ e. ap (report_at naming) e ∙ read-again Second r fit (λ first. absurd (cc)))
      (λ q. ap (report_at naming) q.1 ∙ read-again First r fit (λ first. q.0))
      spelled

  -- ---- the contracts

  pub is_found : (text : List ℕ) (result : Result TheReport TextErr) → Gives result (report_at naming text) → IfOk result (λ r. ReportFits naming r × SpellsReport naming r text)
  is_found text (Ok r) given = let t = report-takes text r given in (t.fit, t.spelled)
  is_found text (Err e) given = tt

  pub is_only : (text : List ℕ) (result : Result TheReport TextErr) (r : TheReport) → Gives result (report_at naming text) → ReportFits naming r → SpellsReport naming r text → Gives result (Ok r)
  is_only text result r given fit e = subst (λ (read : Result TheReport Refusal). Gives result read) (report-again text r fit e) given

  no_fault-at : (text : List ℕ) (read : Result TheReport Refusal) → report_at naming text ≡ read → fault_of read ≡ None → (r : TheReport) × IsTextOf naming r text
  no_fault-at text (Ok r) e none = let t = report-takes text r e in (r, (t.fit, t.spelled))
  no_fault-at text (Err f) e none = absurd (cc)

  pub no_fault : (text : List ℕ) → (report_fault naming text ≡ None) ↔ ((r : TheReport) × IsTextOf naming r text)
  no_fault text = ((λ none. no_fault-at text (report_at naming text) refl none), (λ v. ap fault_of (report-again text v.0 v.1.0 v.1.1)))

  ok_report : (a b : TheReport) → ◌≡◌ {A = Result TheReport Refusal} (Ok a) (Ok b) → a ≡ b
  ok_report a b e = ok_is a b e

  -- a text spells one report
  pub one_report : (text : List ℕ) (a b : TheReport) → ReportFits naming a → ReportFits naming b → SpellsReport naming a text → SpellsReport naming b text → a ≡ b
  one_report text a b first second e f = ok_report a b (sym (report-again text a first e) ∙ report-again text b second f)

  -- what is printed is read back
  pub printed-again : {V E : Type 0} (r : TheReport) (printed : Result V E) (items : V → List ℕ)
      → IfOk printed (λ text. items text ≡ report_spelling naming r) → ReportFits naming r → IfOk printed (λ text. report_at naming (items text) ≡ Ok r)
  printed-again r (Ok text) items e fit = report-again (items text) r fit (inl e)
  printed-again r (Err f) items e fit = tt
