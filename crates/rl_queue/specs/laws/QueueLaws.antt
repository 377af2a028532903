-- The same over any words: when names give words of their own to each member, and what stays where one member moves.
use Rattle.std.specs.Prelude.{◌≡◌, ◌≢◌, ℕ, ◌+◌, List, [], ◌∷◌, length, slice_index, slice_set, Option, refl}
use Rattle.std.proofs.Common.{◌∙◌, sym, subst, inl, ⊎_elim, get_or-set_same, get_or-set_other}
use Rattle.rl_word.specs.laws.Places.{same_or_not}
use Rattle.rl_word.specs.Acts.{word_of}
use Rattle.rl_word.specs.declared.classes.Class.{Class}
use Rattle.rl_word.specs.declared.classes.Class.TheVariants as class
use Rattle.rl_step.specs.declared.events.Event.{Event}
use Rattle.rl_step.specs.Queues.{count}
use Rattle.rl_queue.specs.declared.view.Phase.{Phase}
use Rattle.rl_queue.specs.declared.view.Phase.TheVariants.{Idle, Clear, Reset, Swing, Await}
use Rattle.rl_queue.specs.Queue.{TheNames, queue_next_word, status_word, swap_act}
use Rattle.rl_queue.specs.Lane.{Awaits, Lane, lane_of, Has, Listed, Busy, Leads, Own, QueueInvariant, served, credit, holds, rest_if, waits_in, credit_in, held_in, QueueTrace, SuitsAlone, IsAlone, IsFirst}
use Rattle.rl_queue.specs.laws.LaneLaws.{in_line, is_first, outside, first_moves, line_frame, own_stays}
use Rattle.rl_queue.specs.QueueGood.{IsNaming, Moves, QueueGood}

-- what a write of v leaves of a queue's words: to the tail, to the next word of member k, and to its status word
pub record TailWrite (In : ℕ → Type 0) (L M : Lane) (v : ℕ) : Type 0 where
  pub tail : M.tail ≡ v
  pub next : (x : ℕ) → In x → M.next x ≡ L.next x
  pub status : (x : ℕ) → In x → M.status x ≡ L.status x

pub record NextWrite (In : ℕ → Type 0) (L M : Lane) (k v : ℕ) : Type 0 where
  pub tail : M.tail ≡ L.tail
  pub here : M.next k ≡ v
  pub next : (x : ℕ) → In x → x ≢ k → M.next x ≡ L.next x
  pub status : (x : ℕ) → In x → M.status x ≡ L.status x

pub record StatusWrite (In : ℕ → Type 0) (L M : Lane) (k v : ℕ) : Type 0 where
  pub tail : M.tail ≡ L.tail
  pub here : M.status k ≡ v
  pub next : (x : ℕ) → In x → M.next x ≡ L.next x
  pub status : (x : ℕ) → In x → x ≢ k → M.status x ≡ L.status x

-- the word of a compare-and-swap, whatever its class
pub swap_word : (c : Class) (w old new : ℕ) → word_of (swap_act c w old new) ≡ w
swap_word class.Local w old new = refl
swap_word class.Card w old new = refl
swap_word class.Plain w old new = refl
swap_word class.Fixed w old new = refl

-- who awaits its follower stands in the line
awaits_listed : (p : Phase) → Awaits p → Listed p
awaits_listed (Await left) a = tt
awaits_listed Idle a = absurd a
awaits_listed Clear a = absurd a
awaits_listed Reset a = absurd a
awaits_listed (Swing g) a = absurd a
awaits_listed _ a = tt

-- what the trace says of a line rests on the first's phase and status alone
pub says_same : (q : ℕ) (B : Option ℕ) (L M : Lane) (l : List ℕ) (t : List Event) (e : ℕ) →
    ((x : ℕ) → Has x l → (M.status x ≡ L.status x) × (M.phase x ≡ L.phase x)) →
    QueueTrace q B t e (waits_in L l) (credit_in L l) (held_in L l) → QueueTrace q B t e (waits_in M l) (credit_in M l) (held_in M l)
says_same q B L M [] t e f s = s
says_same q B L M (h ∷ r) t e f s =
    let k = f h (inl refl) in
    let P : Phase → ℕ → Type 0 = λ p st. QueueTrace q B t e (rest_if (served p st) h r) (credit p st) (count (holds p st)) in
    subst (λ z. P z (M.status h)) (sym k.1) (subst (λ z. P (L.phase h) z) (sym k.0) s)

-- what the trace says of a line, by the first's phase and status: from these
pub says_first : (q : ℕ) (B : Option ℕ) (L : Lane) (h : ℕ) (r : List ℕ) (t : List Event) (e : ℕ) (p : Phase) (st : ℕ) → L.phase h ≡ p → L.status h ≡ st →
    QueueTrace q B t e (rest_if (served p st) h r) (credit p st) (count (holds p st)) → QueueTrace q B t e (waits_in L (h ∷ r))
    (credit_in L (h ∷ r)) (held_in L (h ∷ r))
says_first q B L h r t e p st ep es s =
    let P : Phase → ℕ → Type 0 = λ p st. QueueTrace q B t e (rest_if (served p st) h r) (credit p st) (count (holds p st)) in
    subst (λ z. P z (L.status h)) (sym ep) (subst (λ z. P p z) (sym es) s)

-- and to these
pub first_says : (q : ℕ) (B : Option ℕ) (L : Lane) (h : ℕ) (r : List ℕ) (t : List Event) (e : ℕ) (p : Phase) (st : ℕ) → L.phase h ≡ p → L.status h ≡ st →
    QueueTrace q B t e (waits_in L (h ∷ r)) (credit_in L (h ∷ r)) (held_in L (h ∷ r)) → QueueTrace q B t e (rest_if (served p st) h r)
    (credit p st) (count (holds p st))
first_says q B L h r t e p st ep es s =
    let P : Phase → ℕ → Type 0 = λ p st. QueueTrace q B t e (rest_if (served p st) h r) (credit p st) (count (holds p st)) in
    subst (λ z. P p z) es (subst (λ z. P z (L.status h)) ep s)

module _ (n : TheNames) (In : ℕ → Type 0) where
  -- a write to the tail, to a next word and to a status word changes no other word of the queue
  pub tail_write : (ws : List ℕ) (ph ph' : ℕ → Phase) (v : ℕ) → IsNaming n In (length ws) →
      TailWrite In (lane_of n ws ph) (lane_of n (slice_set ws n.tail v) ph') v
  tail_write ws ph ph' v d =
      record {
        tail = get_or-set_same ws n.tail v 0 d.tail_there;
        next = λ x i. get_or-set_other ws n.tail (queue_next_word n x) v 0 (d.next_tail x i);
        status = λ x i. get_or-set_other ws n.tail (status_word n x) v 0 (d.status_tail x i);
      }

  pub next_write : (ws : List ℕ) (ph ph' : ℕ → Phase) (k v : ℕ) → IsNaming n In (length ws) → In k →
      NextWrite In (lane_of n ws ph) (lane_of n (slice_set ws (queue_next_word n k) v) ph') k v
  next_write ws ph ph' k v d i =
      record {
        tail = get_or-set_other ws (queue_next_word n k) n.tail v 0 (λ e. d.next_tail k i (sym e));
        here = get_or-set_same ws (queue_next_word n k) v 0 (d.next_there k i);
        next = λ x j ne. get_or-set_other ws (queue_next_word n k) (queue_next_word n x) v 0 (λ e. ne (d.next_once x k j i e));
        status = λ x j. get_or-set_other ws (queue_next_word n k) (status_word n x) v 0 (λ e. d.next_status k x i j (sym e));
      }

  pub status_write : (ws : List ℕ) (ph ph' : ℕ → Phase) (k v : ℕ) → IsNaming n In (length ws) → In k →
      StatusWrite In (lane_of n ws ph) (lane_of n (slice_set ws (status_word n k) v) ph') k v
  status_write ws ph ph' k v d i =
      record {
        tail = get_or-set_other ws (status_word n k) n.tail v 0 (λ e. d.status_tail k i (sym e));
        here = get_or-set_same ws (status_word n k) v 0 (d.status_there k i);
        next = λ x j. get_or-set_other ws (status_word n k) (queue_next_word n x) v 0 (d.next_status x k j i);
        status = λ x j ne. get_or-set_other ws (status_word n k) (status_word n x) v 0 (λ e. ne (d.status_once x k j i e));
      }

  -- a move that suits a member that is alone leaves all such members so
  pub alone_moves : (ph ph' : ℕ → Phase) (m : ℕ) (p p' : Phase) → Moves ph ph' m p p' → ((x : ℕ) → IsAlone In x → SuitsAlone (ph x)) →
      (IsAlone In m → SuitsAlone p → SuitsAlone p') → (x : ℕ) → IsAlone In x → SuitsAlone (ph' x)
  alone_moves ph ph' m p p' mv old new x s =
      ⊎_elim
      (λ q. subst (λ z. SuitsAlone (ph' z)) (sym q) (subst SuitsAlone (sym mv.now)
      (new (subst (IsAlone In) q s) (subst SuitsAlone mv.was (old m (subst (IsAlone In) q s))))))
      (λ q. subst SuitsAlone (sym (mv.others x q)) (old x s))
      (same_or_not x m)

  -- who awaits its follower is still not the last, where one member moves
  pub awaited_moves : (ws us : List ℕ) (ph ph' : ℕ → Phase) (m : ℕ) (p p' : Phase) → Moves ph ph' m p p' →
      ((x : ℕ) → Awaits (ph x) → slice_index ws n.tail ≢ x + 1) → (Awaits p' → slice_index us n.tail ≢ m + 1) →
      ((x : ℕ) → x ≢ m → slice_index ws n.tail ≢ x + 1 → slice_index us n.tail ≢ x + 1) → (x : ℕ) → Awaits (ph' x) → slice_index us n.tail ≢ x + 1
  awaited_moves ws us ph ph' m p p' mv old own others x a =
      ⊎_elim
      (λ q. subst (λ z. slice_index us n.tail ≢ z + 1) (sym q) (own (subst Awaits mv.now (subst (λ z. Awaits (ph' z)) q a))))
      (λ q. others x q (old x (subst Awaits (mv.others x q) a)))
      (same_or_not x m)

  -- and where the tail stays
  pub awaited_stays : (ws us : List ℕ) (ph ph' : ℕ → Phase) (m : ℕ) (p p' : Phase) → Moves ph ph' m p p' →
      ((x : ℕ) → Awaits (ph x) → slice_index ws n.tail ≢ x + 1) → slice_index us n.tail ≡ slice_index ws n.tail →
      (Awaits p' → slice_index ws n.tail ≢ m + 1) → (x : ℕ) → Awaits (ph' x) → slice_index us n.tail ≢ x + 1
  awaited_stays ws us ph ph' m p p' mv old same own = awaited_moves ws us ph ph' m p p' mv old (λ a e. own a (sym same ∙ e)) (λ x ne k e. k (sym same ∙ e))

  -- a queue stays good where none of its words and phases changes
  pub still_keeps : (ws us : List ℕ) (ph ph' : ℕ → Phase) (l : List ℕ) (t : List Event) (e : ℕ) → QueueGood n In ws ph l t e →
      ((x : ℕ) → ph' x ≡ ph x) → slice_index us n.tail ≡ slice_index ws n.tail →
      ((x : ℕ) → In x → slice_index us (queue_next_word n x) ≡ slice_index ws (queue_next_word n x)) →
      ((x : ℕ) → In x → slice_index us (status_word n x) ≡ slice_index ws (status_word n x)) → QueueGood n In us ph' l t e
  still_keeps ws us ph ph' l t e g same tl nx st =
      let ins : (x : ℕ) → Has x l → In x = λ x h. in_line n.budget In (lane_of n ws ph) l x g.inv h in
      record {
        inv = record {
          distinct = g.inv.distinct;
          listed = λ x h. g.inv.listed x (subst Listed (same x) h);
          only = λ x h. subst Listed (sym (same x)) (g.inv.only x h);
          line = line_frame n.budget In (lane_of n ws ph) (lane_of n us ph') l tl (λ x h. (nx x (ins x h), st x (ins x h), same x)) g.inv.line;
          own = λ x.
              subst (λ z. Own n.budget In z (slice_index us (queue_next_word n x)) (slice_index us (status_word n x))) (sym (same x))
              (own_stays n.budget In (ph x) _ _ _ _ (g.inv.own x) (λ b. nx x (g.inv.inside x b)) (λ b. st x (g.inv.inside x b)));
          inside = λ x b. g.inv.inside x (subst Busy (same x) b);
        };
        alone = λ x s. subst SuitsAlone (sym (same x)) (g.alone x s);
        awaited = λ x a e. g.awaited x (subst Awaits (same x) a) (sym tl ∙ e);
        says = says_same n.queue n.budget (lane_of n ws ph) (lane_of n us ph') l t e (λ x h. (st x (ins x h), same x)) g.says;
      }

  -- a member outside the line moves, and stays outside
  pub outside_keeps : (ws us : List ℕ) (ph ph' : ℕ → Phase) (l : List ℕ) (t : List Event) (e m : ℕ) (p p' : Phase) →
      QueueGood n In ws ph l t e → Moves ph ph' m p p' → (Listed p → ⊥) → (Listed p' → ⊥) →
      slice_index us n.tail ≡ slice_index ws n.tail →
      ((x : ℕ) → x ≢ m → In x → slice_index us (queue_next_word n x) ≡ slice_index ws (queue_next_word n x)) →
      ((x : ℕ) → x ≢ m → In x → slice_index us (status_word n x) ≡ slice_index ws (status_word n x)) →
      Own n.budget In p' (slice_index us (queue_next_word n m)) (slice_index us (status_word n m)) → (Busy p' → In m) →
      (IsAlone In m → SuitsAlone p → SuitsAlone p') → QueueGood n In us ph' l t e
  outside_keeps ws us ph ph' l t e m p p' g mv was now tl nx st own ins alone =
      let L : Lane = lane_of n ws ph in
      let M : Lane = lane_of n us ph' in
      let out : Listed (ph m) → ⊥ = λ h. was (subst Listed mv.was h) in
      record {
        inv = outside n.budget In L M l m g.inv out (λ h. now (subst Listed mv.now h)) tl
            (λ x ne. record { phase = mv.others x ne; next = nx x ne; status = st x ne })
            (subst (λ z. Own n.budget In z (slice_index us (queue_next_word n m)) (slice_index us (status_word n m))) (sym mv.now) own)
            (λ b. ins (subst Busy mv.now b));
        alone = alone_moves ph ph' m p p' mv g.alone alone;
        awaited = awaited_stays ws us ph ph' m p p' mv g.awaited tl (λ a. absurd (now (awaits_listed p' a)));
        says = says_same n.queue n.budget L M l t e
            (λ x h.
            let ne : x ≢ m = λ k. out (g.inv.only m (subst (λ z. Has z l) k h)) in
            (st x ne (in_line n.budget In L l x g.inv h), mv.others x ne)) g.says;
      }

  -- the head moves and stays the head, and no word changes
  pub first_keeps : (ws : List ℕ) (ph ph' : ℕ → Phase) (l : List ℕ) (t t' : List Event) (e e' m : ℕ) (p p' : Phase) →
      QueueGood n In ws ph l t e → Moves ph ph' m p p' →
      IsFirst p (slice_index ws (status_word n m)) → Leads n.budget p' (slice_index ws (status_word n m)) →
      Own n.budget In p' (slice_index ws (queue_next_word n m)) (slice_index ws (status_word n m)) →
      (IsAlone In m → SuitsAlone p → SuitsAlone p') → (Awaits p' → slice_index ws n.tail ≢ m + 1) →
      ((r : List ℕ) →
      QueueTrace n.queue n.budget t e (rest_if (served p (slice_index ws (status_word n m))) m r)
      (credit p (slice_index ws (status_word n m))) (count (holds p (slice_index ws (status_word n m)))) →
      QueueTrace n.queue n.budget t' e' (rest_if (served p' (slice_index ws (status_word n m))) m r)
      (credit p' (slice_index ws (status_word n m))) (count (holds p' (slice_index ws (status_word n m))))) →
      QueueGood n In ws ph' l t' e'
  first_keeps ws ph ph' l t t' e e' m p p' g mv first leads own alone waits says =
      let L : Lane = lane_of n ws ph in
      let M : Lane = lane_of n ws ph' in
      let st : ℕ = slice_index ws (status_word n m) in
      let a = is_first n.budget In L l m g.inv (subst (λ z. IsFirst z (slice_index ws (status_word n m))) (sym mv.was) first) in
      let r : List ℕ = a.0 in
      let g1 : QueueInvariant n.budget In L (m ∷ a.0) = subst (λ z. QueueInvariant n.budget In L z) a.1 g.inv in
      let s1 : QueueTrace n.queue n.budget t e (waits_in L (m ∷ a.0)) (credit_in L (m ∷ a.0)) (held_in L (m ∷ a.0)) =
      subst (λ z. QueueTrace n.queue n.budget t e (waits_in L z) (credit_in L z) (held_in L z)) a.1 g.says in
      subst (λ z. (QueueGood n In) ws ph' z t' e') (sym a.1)
      (record {
        inv = first_moves n.budget In L M m a.0 g1 refl refl refl
            (λ x ne. record { phase = mv.others x ne; next = λ i. refl; status = λ i. refl })
            (subst (λ z. Leads n.budget z (slice_index ws (status_word n m))) (sym mv.now) leads)
            (subst (λ z. Own n.budget In z (slice_index ws (queue_next_word n m)) (slice_index ws (status_word n m))) (sym mv.now) own);
        alone = alone_moves ph ph' m p p' mv g.alone alone;
        awaited = awaited_stays ws ws ph ph' m p p' mv g.awaited refl waits;
        says = says_first n.queue n.budget M m a.0 t' e' p' _ mv.now refl (says a.0 (first_says n.queue n.budget L m a.0 t e p _ mv.was refl s1));
      })
