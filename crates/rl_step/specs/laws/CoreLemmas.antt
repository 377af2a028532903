-- Lemmas on what an atom of a core needs and changes.
use Rattle.std.specs.Prelude.{◌≡◌, ℕ, ◌<◌, ◌^◌, ◌==◌, Bool, true, false, if◌then◌else◌, List, length, get_or, slice_get, slice_index, slice_set, Option, Some, refl}
use Rattle.std.proofs.Common.{subst, sym, ap, ◌∙◌}
use Rattle.std.proofs.lemmas.List.{length-set}
use Rattle.std.proofs.lemmas.Option.{same_Some, slice_get-get_or, get_or_from_slice_get}
use Rattle.rl_word.specs.declared.acts.Atom.{Atom}
use Rattle.rl_word.specs.declared.acts.Atom.TheVariants.{Load, Store, LocalCas, Take, CardLoad, CardStore, Leave}
use Rattle.rl_step.specs.declared.events.Event.{Event}
use Rattle.rl_step.specs.declared.events.Stepped.{Stepped}
use Rattle.rl_step.specs.declared.events.Stepped.TheVariants.{Finished}
use Rattle.rl_step.specs.Do.{TheWindow, do_words, do_atom, do_got, CanDo}
use Rattle.rl_step.specs.Core.{CoreTable, CoreLaws, MayBe, Plans, MayGet, Performs, MadeFlat, card_word_of}

-- the view of a rank in a state under the rule is one that some such state has
pub may_be : {V : Type 0} (rule : TheWindow → List V → Type 0) (h : TheWindow) (vs : List V) (r : ℕ) (v : V) → rule h vs →
    slice_get vs r ≡ Some v → MayBe rule v
may_be rule h vs r v ruled has = record { held = h; views = vs; rank = r; is_ruled = ruled; has = has }

-- an atom doesn't change how many words there are
pub length-do_words : (at : Atom) (ws : List ℕ) → length (do_words at ws) ≡ length ws
length-do_words (Load w) ws = refl
length-do_words (Store w v) ws = length-set ws w v
length-do_words (LocalCas w old new) ws = either (slice_index ws w == old) where
  either : (b : Bool) → length (if b then slice_set ws w new else ws) ≡ length ws
  either true = length-set ws w new
  either false = refl
length-do_words (Take n) ws = refl
length-do_words (CardLoad w) ws = refl
length-do_words (CardStore w v) ws = length-set ws w v
length-do_words (Leave n) ws = refl

-- the word of a card load or store is there
pub card_word_there : (home rank : ℕ) (at : Atom) (ws cs : List ℕ) (w : ℕ) → CanDo home rank at ws cs → card_word_of at ≡ Some w → w < length ws
card_word_there home rank (Load k) ws cs w c e = cc
card_word_there home rank (Store k v) ws cs w c e = cc
card_word_there home rank (LocalCas k old new) ws cs w c e = cc
card_word_there home rank (Take n) ws cs w c e = cc
card_word_there home rank (CardLoad k) ws cs w c e = subst (λ z. z < length ws) (same_Some _ _ e) c.0
card_word_there home rank (CardStore k v) ws cs w c e = subst (λ z. z < length ws) (same_Some _ _ e) c.0
card_word_there home rank (Leave n) ws cs w c e = cc

-- a view that was lent out of a list is the one that stands there
pub lent_view : {V : Type 0} (vs : List V) (r : ℕ) (u v d : V) → u ≡ get_or vs r d → slice_get vs r ≡ Some v → u ≡ v
lent_view vs r u v d e h = e ∙ get_or_from_slice_get vs r v d h

-- the rule after an atom, from what its parts are known to be; u is the view that it was made with
pub rule_after : {V : Type 0} (C : CoreTable V) (rule : TheWindow → List V → Type 0) → CoreLaws C rule →
    (h k : TheWindow) (vs : List V) (r : ℕ) (u v w : V) (at : Atom) (got : ℕ) → Plans C rule h vs r v at → u ≡ v →
    k ≡ do_atom r at h → got ≡ do_got at h.words h.cards → got < 2 ^ 64 → w ≡ (C.after u got).view → rule k (slice_set vs r w)
rule_after C rule laws h k vs r u v w at got p eu ek eg low ew =
    subst (λ z. rule z (slice_set vs r w)) (sym ek)
    (subst (λ z. rule (do_atom r at h) (slice_set vs r z)) (sym (ew ∙ ap (λ z. (C.after z got).view) eu ∙ ap (λ n. (C.after v n).view) eg))
    (laws.keeps h vs r v at p (subst (λ n. n < 2 ^ 64) eg low)))

-- what an atom changes that was made on told words, with the view u, and left the view x
pub performs_made : {V : Type 0} (C : CoreTable V) (rule : TheWindow → List V → Type 0) (h k : TheWindow) (vs : List V) (r : ℕ)
    (u v x w : V) (at : Atom) (got : ℕ) (events : List Event) (stepped : Stepped) →
    Plans C rule h vs r v at → u ≡ v → w ≡ x → k ≡ do_atom r at h → got ≡ do_got at h.words h.cards → x ≡ (C.after u got).view →
    events ≡ (C.after u got).events → stepped ≡ (C.after u got).stepped → Performs C rule r at v w (Some h) (Some k) events stepped
performs_made C rule h k vs r u v x w at got events stepped p eu ex ek eg ew ev es =
    record {
      got = got;
      may_get = record { held = h; views = vs; rank = r; atom = at; plans = p; gives = eg };
      same_rank = refl;
      view = ex ∙ ew ∙ ap (λ z. (C.after z got).view) eu;
      answer = record { same_events = ev ∙ ap (λ z. (C.after z got).events) eu; same_answer = es ∙ ap (λ z. (C.after z got).stepped) eu };
      told = λ m e.
          (ap (λ z. Some z) ek ∙ ap (λ z. Some (do_atom r at z)) (same_Some _ _ e), eg ∙ ap (λ z. do_got at z.words z.cards) (same_Some _ _ e));
    }

-- an atom that was made isn't answered as if none was
pub performs_answers : {V : Type 0} (C : CoreTable V) (rule : TheWindow → List V → Type 0) → CoreLaws C rule →
    (r : ℕ) (v w : V) (at : Atom) (old new : Option TheWindow) (events : List Event) (stepped : Stepped) →
    Performs C rule r at v w old new events stepped → stepped ≡ Finished → ⊥
performs_answers C rule laws r v w at old new events stepped p e =
    let m : MayGet C rule v p.got = p.may_get in
    laws.goes_on m.held m.views m.rank v m.atom m.plans (ap (λ n. (C.after v n).stepped) (sym m.gives) ∙ sym p.answer.same_answer ∙ e)

-- what a made atom changes of plain words and views, from what its port says
pub made_flat : {V : Type 0} (C : CoreTable V) (rule : TheWindow → List V → Type 0) (h k : TheWindow) (vs ws : List V) (r : ℕ) (v : V)
    (at : Atom) (events : List Event) (stepped : Stepped) →
    ((x y : V) (b : Atom) → slice_get vs r ≡ Some x → slice_get ws r ≡ Some y → C.next x ≡ Some b → Performs C rule r b x y (Some h) (Some k) events stepped) →
    ((y : V) → slice_get ws r ≡ Some y → ws ≡ slice_set vs r y) → r < length ws → slice_get vs r ≡ Some v → C.next v ≡ Some at → MadeFlat C
    h k vs ws r v at events stepped
made_flat C rule h k vs ws r v at events stepped made frame there has next =
    let y = get_or ws r v in
    let new : slice_get ws r ≡ Some y = slice_get-get_or ws r v there in
    let p : Performs C rule r at v y (Some h) (Some k) events stepped = made v y at has new next in
    let t = p.told h refl in
    record {
      held = same_Some _ _ t.0;
      views = frame y new ∙ ap (slice_set vs r) (p.view ∙ ap (λ n. (C.after v n).view) t.1);
      answer = record {
        same_events = p.answer.same_events ∙ ap (λ n. (C.after v n).events) t.1;
        same_answer = p.answer.same_answer
            ∙ ap (λ n. (C.after v n).stepped) t.1;
      };
    }
