-- An act keeps a state of D-MCS good.
use Rattle.std.specs.Prelude.{◌≡◌, ◌≢◌, ℕ, ◌<◌, Bool, List, [], ◌∷◌, ◌++◌, length, slice_get, slice_index, slice_set, Some, refl}
use Rattle.std.proofs.Common.{sym, ◌∙◌, ap, subst, ⊎_elim, arith, length-set, append_assoc}
use Rattle.std.proofs.lemmas.Option.{slice_get_within}
use Rattle.rl_word.specs.laws.Places.{same_or_not}
use Rattle.rl_word.specs.Acts.{word_of, written, told}
use Rattle.rl_word.specs.declared.acts.Act.{Act}
use Rattle.rl_step.specs.declared.events.Event.{Event}
use Rattle.rl_step.specs.declared.events.Event.TheVariants as event
use Rattle.rl_step.specs.Lock.{LockState, acted, Told}
use Rattle.rl_step.specs.Queues.{tenures}
use Rattle.rl_step.specs.laws.QueueLemmas.{tenures-append}
use Rattle.rl_queue.specs.declared.view.Phase.{Phase}
use Rattle.rl_queue.specs.declared.view.Phase.TheVariants.{Settle, Granted, Hand}
use Rattle.rl_queue.specs.declared.view.QueueView.{QueueView}
use Rattle.rl_queue.specs.Queue.{TheNames, QueueTurn, at_phase, plan_at, turn_at}
use Rattle.rl_queue.specs.QueueGood.{QueueGood}
use Rattle.rl_queue.specs.laws.QueueLaws.{still_keeps}
use Rattle.rl_queue.specs.laws.QueueMoves.{act_keeps, settle_keeps, beside_keeps, hand_succ}
use Rattle.rl_queue.specs.Dmcs.{dmcs_names, dmcs_enter, dmcs_learn, dmcs_queue, dmcs_table, phase_in, Calm, Below, DmcsGood}
use Rattle.rl_queue.specs.laws.DmcsWords.{dmcs_named}
use Rattle.rl_queue.specs.laws.DmcsPhases.{phase_get, view_moves, moves_in}
use Rattle.rl_queue.specs.laws.DmcsTurns.{TurnFits, turn_fits}
use Rattle.rl_queue.specs.laws.RankViewLaws.{each_set}

-- some line makes the queue good
abbrev pub HasLine : ℕ → List ℕ → (ℕ → Phase) → List Event → ℕ → Type 0
HasLine n ws ph t e = (k : List ℕ) × QueueGood (dmcs_names n) (Below n) ws ph k t e

-- a queue stays good where no phase changes
same_phase_keeps : (n : ℕ) (ws : List ℕ) (ph ph' : ℕ → Phase) (l : List ℕ) (t : List Event) (e m : ℕ) (p : Phase) →
    QueueGood (dmcs_names n) (Below n) ws ph l t e → ph m ≡ p → ph' m ≡ p → ((x : ℕ) → x ≢ m → ph' x ≡ ph x) →
    QueueGood (dmcs_names n) (Below n) ws ph' l t e
same_phase_keeps n ws ph ph' l t e m p g was now others =
    still_keeps (dmcs_names n) (Below n) ws ws ph ph' l t e g
    (λ x. ⊎_elim (λ q. subst (λ z. ph' z ≡ ph z) (sym q) (now ∙ sym was)) (λ q. others x q) (same_or_not x m)) refl (λ x i. refl) (λ x i. refl)

-- the queue stays good where a head settles at once, and who has it enters
enter_keeps : (n : ℕ) (ws : List ℕ) (ph ph' : ℕ → Phase) (t : List Event) (e m : ℕ) (q : Phase) (es : List Event) (w : Bool) →
    HasLine n ws ph (t ++ es) e → ph m ≡ q →
    ph' m ≡ (dmcs_enter m q es w).view.phase → ((x : ℕ) → x ≢ m → ph' x ≡ ph x) → HasLine n ws ph' (t ++ (dmcs_enter m q es w).events) e
enter_keeps n ws ph ph' t e m Settle es w g was now others =
    let a = settle_keeps (dmcs_names n) (Below n) ws ph ph' g.0 (t ++ es) e m g.1 (record { was = was; now = now; others = others }) in
    let b = beside_keeps (dmcs_names n) (Below n) ws ph' g.0 ((t ++ es) ++ event.Settle 0 m ∷ []) e (event.EnterW m) a tt in
    let eq : ((t ++ es) ++ event.Settle 0 m ∷ []) ++ event.EnterW m ∷ [] ≡ t ++ (es ++ event.Settle 0 m ∷ event.EnterW m ∷ []) =
    append_assoc (t ++ es) (event.Settle 0 m ∷ []) (event.EnterW m ∷ []) ∙ append_assoc t es (event.Settle 0 m ∷ event.EnterW m ∷ []) in
    (g.0, subst (λ z. QueueGood (dmcs_names n) (Below n) ws ph' g.0 z e) eq b)
enter_keeps n ws ph ph' t e m (Granted left) es w g was now others =
    let a = same_phase_keeps n ws ph ph' g.0 (t ++ es) e m (Granted left) g.1 was now others in
    let b = beside_keeps (dmcs_names n) (Below n) ws ph' g.0 (t ++ es) e (event.EnterW m) a tt in
    (g.0, subst (λ z. QueueGood (dmcs_names n) (Below n) ws ph' g.0 z e) (append_assoc t es (event.EnterW m ∷ [])) b)
enter_keeps n ws ph ph' t e m p es w g was now others = (g.0, same_phase_keeps n ws ph ph' g.0 (t ++ es) e m p g.1 was now others)

-- A state stays good where rank r's view changes and its queue stays good with some line.
pub stays_good : (n : ℕ) (s t : LockState QueueView) (r : ℕ) (v w : QueueView) → DmcsGood n s → slice_get s.views r ≡ Some v →
    length t.words ≡ length s.words → t.views ≡ slice_set s.views r w → length t.modes ≡ length s.modes →
    w.member ≡ r → Calm w.phase → HasLine n t.words (phase_in (slice_set s.views r w)) t.trace (tenures (dmcs_queue n) t.trace) → DmcsGood n t
stays_good n s t r v w g has ew ev em name calm q =
    record {
      all_words = ew ∙ g.all_words;
      all_views = ap length ev ∙ length-set s.views r w ∙ g.all_views;
      all_modes = em ∙ g.all_modes;
      named = each_set (λ i u. u.member ≡ i) s.views t.views r w ev name (λ i u ne h. g.named i u h);
      calm = each_set (λ i u. Calm u.phase) s.views t.views r w ev calm (λ i u ne h. g.calm i u h);
      line = q.0;
      queue = subst (λ z. QueueGood (dmcs_names n) (Below n) t.words (phase_in z) q.0 t.trace (tenures (dmcs_queue n) t.trace)) (sym ev) q.1;
    }

-- a rank's number is below n, and so is its successor's
pub rank_below : (n : ℕ) (s : LockState QueueView) (r : ℕ) (v : QueueView) → DmcsGood n s → slice_get s.views r ≡ Some v → r < n
rank_below n s r v g has = let a : r < length s.views = slice_get_within s.views r v has in let b : length s.views ≡ n = g.all_views in omega arith

pub succ_below : (n : ℕ) (s : LockState QueueView) (k : ℕ) (p : Phase) → DmcsGood n s → slice_get s.views k ≡ Some (at_phase k p) →
    (succ left : ℕ) → p ≡ Hand succ left → succ < n
succ_below n s k p g has succ left e =
    hand_succ (dmcs_names n) (Below n) s.words (phase_in s.views) g.line s.trace (tenures (dmcs_queue n) s.trace) k succ left g.queue
    (phase_get s.views k (at_phase k p) has ∙ e)

-- so what a planned act tells fits
pub act_fits : (home n : ℕ) (s : LockState QueueView) (k : ℕ) (p : Phase) (a : Act) (got : ℕ) → DmcsGood n s →
    slice_get s.views k ≡ Some (at_phase k p) → plan_at (dmcs_names n) k p ≡ Some a → TurnFits n k p (dmcs_learn n k p got)
act_fits home n s k p a got g has pl = turn_fits n k p a got pl (g.calm k (at_phase k p) has) (rank_below n s k (at_phase k p) g has) (succ_below n s k p g has)

-- an act keeps a state good
pub act_keeps_at : (home : ℕ) (node_of : List ℕ) (s : LockState QueueView) (k : ℕ) (p : Phase) (a : Act) → DmcsGood (length node_of) s →
    slice_get s.views k ≡ Some (at_phase k p) → plan_at (dmcs_names (length node_of)) k p ≡ Some a →
    DmcsGood (length node_of) (acted (dmcs_table home node_of) s k (at_phase k p) a)
act_keeps_at home node_of s k p a g has pl =
    let n : ℕ = length node_of in
    let N : TheNames = dmcs_names (length node_of) in
    let ok = act_fits home (length node_of) s k p a (told a (slice_index s.words (word_of a))) g has pl in
    let tu : QueueTurn = turn_at (dmcs_names (length node_of)) k p (told a (slice_index s.words (word_of a))) in
    let u : Told QueueView = dmcs_learn (length node_of) k p (told a (slice_index s.words (word_of a))) in
    let ws : List ℕ = slice_set s.words (word_of a) (written a (slice_index s.words (word_of a))) in
    let ph1 : ℕ → Phase = phase_in (slice_set s.views k (at_phase k tu.phase)) in
    let ph2 : ℕ → Phase = phase_in (slice_set s.views k u.view) in
    let e : ℕ = tenures (dmcs_queue (length node_of)) s.trace in
    let first = moves_in s.views k k p tu.phase has in
    let next = view_moves s.views k (at_phase k p) u.view has in
    let done = act_keeps (dmcs_names (length node_of)) (Below (length node_of)) s.words (phase_in s.views) ph1 g.line s.trace
    (tenures (dmcs_queue (length node_of)) s.trace) k p a (dmcs_named (length node_of) (length s.words) g.all_words) g.queue pl
    first in
    let entered = enter_keeps (length node_of) ws ph1 ph2 s.trace (tenures (dmcs_queue (length node_of)) s.trace) k tu.phase tu.events tu.waits (done.0, done.1)
    first.now next.now (λ x ne. next.others x ne ∙ sym (first.others x ne)) in
    let same : tenures (dmcs_queue (length node_of)) s.trace ≡ tenures (dmcs_queue (length node_of)) (s.trace ++ u.events) =
    let z : tenures (dmcs_queue (length node_of)) u.events ≡ 0 = ok.ends in
    let y = tenures-append (dmcs_queue (length node_of)) s.trace u.events in omega arith in
    stays_good (length node_of) s (acted (dmcs_table home node_of) s k (at_phase k p) a) k (at_phase k p) u.view g has
    (length-set s.words (word_of a) _) refl refl ok.member ok.calm
    (entered.0, subst (λ z. QueueGood (dmcs_names (length node_of)) (Below (length node_of)) ws ph2 entered.0 (s.trace ++ u.events) z) same entered.1)
