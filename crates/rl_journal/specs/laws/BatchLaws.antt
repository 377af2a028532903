-- All of a batch or none: which of its calls are undone, and what becomes of the table.
use Rattle.std.specs.Prelude.{◌≡◌, ◌≢◌, ◌↔◌, ℕ, zero, suc, ◌+◌, ◌^◌, ◌==◌, nat_lt, Bool, true, false, ◌||◌, cond, List, [], ◌∷◌, length, slice_get, Option, Some, None, refl}
use Rattle.std.specs.FinMap as finite
use Rattle.std.proofs.Common.{sym, ◌∙◌, ap, subst, arith}
use Rattle.std.proofs.lemmas.Option.{same_Some}
use Rattle.rl_model.specs.declared.call.Call.{Call}
use Rattle.rl_model.specs.declared.call.Call.TheVariants.{Put, Get, Del, Add, Cas, Hold}
use Rattle.rl_model.specs.declared.entry.Entry.{Entry}
use Rattle.rl_model.specs.declared.entry.Reply.{Reply}
use Rattle.rl_model.specs.declared.entry.Reply.TheVariants.{New, Was, Full, Val, Nothing, Sum, Over, No, Held, Undone}
use Rattle.rl_model.specs.declared.geom.Geom.{Geom}
use Rattle.rl_model.specs.Table.{Table, apply, after_put, after_get, after_del, after_add, after_cas, has_no_room}
use Rattle.rl_journal.specs.Blocks.{stops, in_turn, any_stops, undone, only_first, apply_block, size_of, calls_of, replies_of}
use Rattle.rl_journal.specs.Legal.{table_after, IsLegalBlock, AnotherStops}
use Rattle.rl_journal.specs.laws.BlockLaws.{block_done}

-- the reply says that the call was undone
abbrev is_undone : Reply → Bool
is_undone New = false
is_undone (Was v) = false
is_undone Full = false
is_undone (Val v) = false
is_undone Nothing = false
is_undone (Sum v) = false
is_undone (Over v) = false
is_undone (No v) = false
is_undone Held = false
is_undone Undone = true

-- a call by itself is never undone, and leaves the table where its reply would stop a batch
module _ (geom : Geom) (t : Table) where
  abbrev Alone : Table × Reply → Type 0
  Alone r = (is_undone r.1 ≡ false) × (stops r.1 ≡ true → r.0 ≡ t)

  put_alone : (key value : ℕ) (o : Option ℕ) → Alone (after_put geom t key value o)
  put_alone key value None =
      elim (has_no_room geom t key) as (λ b. Alone (cond {A = Table × Reply} b (t, Full) (finite.insert t key value, New)))
      [ true ↦ (refl, λ h. refl) | false ↦ (refl, λ h. absurd (cc)) ]
  put_alone key value (Some was) = (refl, λ h. absurd (cc))

  get_alone : (o : Option ℕ) → Alone (after_get t o)
  get_alone None = (refl, λ h. refl)
  get_alone (Some was) = (refl, λ h. refl)

  del_alone : (key : ℕ) (o : Option ℕ) → Alone (after_del t key o)
  del_alone key None = (refl, λ h. refl)
  del_alone key (Some was) = (refl, λ h. absurd (cc))

  add_alone : (key by : ℕ) (o : Option ℕ) → Alone (after_add t key by o)
  add_alone key by None = (refl, λ h. refl)
  add_alone key by (Some was) =
      elim (nat_lt (was + by) (2 ^ 64)) as (λ b. Alone (cond {A = Table × Reply} b (finite.insert t key (was + by), Sum (was + by))
      (t, Over was))) [ true ↦ (refl, λ h. absurd (cc)) | false ↦ (refl, λ h. refl) ]

  cas_alone : (key old new : ℕ) (o : Option ℕ) → Alone (after_cas t key old new o)
  cas_alone key old new None = (refl, λ h. refl)
  cas_alone key old new (Some was) =
      elim (was == old) as (λ b. Alone (cond {A = Table × Reply} b (finite.insert t key new, Was was) (t, No was)))
      [ true ↦ (refl, λ h. absurd (cc)) | false ↦ (refl, λ h. refl) ]

  call_alone : (c : Call) → Alone (apply geom c t)
  call_alone (Put key value) = put_alone key value (finite.get t key)
  call_alone (Get key) = get_alone (finite.get t key)
  call_alone (Del key) = del_alone key (finite.get t key)
  call_alone (Add key by) = add_alone key by (finite.get t key)
  call_alone (Cas key old new) = cas_alone key old new (finite.get t key)
  call_alone (Hold shard) = (refl, λ h. refl)

-- replies of which none is undone
abbrev NoneUndone : List Reply → Type 0
NoneUndone [] = Unit {0}
NoneUndone (a ∷ rest) = (is_undone a ≡ false) × NoneUndone rest

turn_none : (geom : Geom) (t : Table) (cs : List Call) → NoneUndone (in_turn geom t cs).1
turn_none geom t [] = tt
turn_none geom t (c ∷ cs) = ((call_alone geom t c).0, turn_none geom (apply geom c t).0 cs)

none_at : (rs : List Reply) (i : ℕ) (a : Reply) → NoneUndone rs → slice_get rs i ≡ Some a → is_undone a ≡ false
none_at [] i a none get = absurd (cc)
none_at (r ∷ rs) zero a none get = ap is_undone (sym (same_Some _ _ get)) ∙ none.0
none_at (r ∷ rs) (suc i) a none get = none_at rs i a none.1 get

-- another reply than the one at place i stops
abbrev Other : List Reply → ℕ → Type 0
Other rs i = (j : ℕ) × (x : Reply) × (j ≢ i) × (slice_get rs j ≡ Some x) × (stops x ≡ true)

-- a test of a choice
either : (a b : Bool) → (a || b) ≡ true → a ≡ false → b ≡ true
either true b h off = absurd (cc)
either false b h off = h

neither : (a b : Bool) → (a || b) ≡ false → (a ≡ false) × (b ≡ false)
neither true b h = absurd (cc)
neither false b h = (refl, h)

-- where no reply stops, none at any place does
none_stops : (rs : List Reply) (i : ℕ) (a : Reply) → any_stops rs ≡ false → slice_get rs i ≡ Some a → stops a ≡ false
none_stops [] i a none get = absurd (cc)
none_stops (r ∷ rs) zero a none get = ap stops (sym (same_Some _ _ get)) ∙ (neither _ _ none).0
none_stops (r ∷ rs) (suc i) a none get = none_stops rs i a (neither _ _ none).1 get

undone_at : (rs : List Reply) (i : ℕ) (a : Reply) → slice_get (undone rs) i ≡ Some a → a ≡ Undone
undone_at [] i a get = absurd (cc)
undone_at (r ∷ rs) zero a get = sym (same_Some _ _ get)
undone_at (r ∷ rs) (suc i) a get = undone_at rs i a get

-- of replies of which one stops, the first such one stays
first_there : (rs : List Reply) → any_stops rs ≡ true → (j : ℕ) × (x : Reply) × (slice_get (only_first rs) j ≡ Some x) × (stops x ≡ true)
first_there [] any = absurd (cc)
first_there (r ∷ rs) any =
    elim (stops r) as (λ b. stops r ≡ b → (j : ℕ) × (x : Reply) × (slice_get (cond b (r ∷ undone rs) (Undone ∷ only_first rs)) j ≡ Some x) × (stops x ≡ true)) [
      | true ↦ λ yes. (0, r, refl, yes)
      | false ↦ λ no_stop. let rest = first_there rs (either _ _ any no_stop) in (suc rest.0, rest.1, rest.2, rest.3)
    ] refl

-- so what is undone has another one that stops
undone_by_other : (rs : List Reply) → NoneUndone rs → any_stops rs ≡ true → (i : ℕ) → slice_get (only_first rs) i ≡ Some Undone → Other (only_first rs) i
undone_by_other [] none any i get = absurd (cc)
undone_by_other (r ∷ rs) none any i get =
    elim (stops r) as (λ b. stops r ≡ b → slice_get (cond b (r ∷ undone rs) (Undone ∷ only_first rs)) i ≡ Some Undone → Other
    (cond b (r ∷ undone rs) (Undone ∷ only_first rs)) i) [
      | true ↦ λ hit has. stopped i hit has
      | false ↦ λ no_stop has. later (undone_by_other rs none.1) i (either _ _ any no_stop) has
    ] refl get
  where
    stopped : (i : ℕ) → stops r ≡ true → slice_get (r ∷ undone rs) i ≡ Some Undone → Other (r ∷ undone rs) i
    stopped zero hit has = let is : is_undone r ≡ true = ap is_undone (same_Some _ _ has) in let not : is_undone r ≡ false = none.0 in absurd (cc)
    stopped (suc i) hit has = (0, r, (λ e. cc), refl, hit)

    later : (any_stops rs ≡ true → (i : ℕ) → slice_get (only_first rs) i ≡ Some Undone → Other (only_first rs) i) → (i : ℕ) →
        any_stops rs ≡ true → slice_get (Undone ∷ only_first rs) i ≡ Some Undone → Other (Undone ∷ only_first rs) i
    later on zero more has = let first = first_there rs more in (suc first.0, first.1, (λ e. cc), first.2, first.3)
    later on (suc i) more has = let o = on more i has in (suc o.0, o.1, (λ e. o.2 (omega arith)), o.3, o.4)

-- and beside one that stops all are undone
beside_undone : (rs : List Reply) (i : ℕ) (a : Reply) → slice_get (only_first rs) i ≡ Some a → Other (only_first rs) i → a ≡ Undone
beside_undone [] i a get o = absurd (cc)
beside_undone (r ∷ rs) i a get o =
    elim (stops r) as (λ b. slice_get (cond b (r ∷ undone rs) (Undone ∷ only_first rs)) i ≡ Some a → Other
    (cond b (r ∷ undone rs) (Undone ∷ only_first rs)) i → a ≡ Undone) [
      | true ↦ λ has other. stopped i other.0 other.1 has other.2 other.3 other.4
      | false ↦ λ has other. later (λ k. beside_undone rs k a) i other.0 other.1 has other.2 other.3 other.4
    ] get o
  where
    stopped : (i j : ℕ) (x : Reply) → slice_get (r ∷ undone rs) i ≡ Some a → j ≢ i → slice_get (r ∷ undone rs) j ≡ Some x → stops x ≡ true → a ≡ Undone
    stopped (suc i) j x has ne there hit = undone_at rs i a has
    stopped zero zero x has ne there hit = absurd (ne refl)
    stopped zero (suc j) x has ne there hit = let is : x ≡ Undone = undone_at rs j x there in let no_stop : stops x ≡ false = ap stops is in absurd (cc)

    later : ((k : ℕ) → slice_get (only_first rs) k ≡ Some a → Other (only_first rs) k → a ≡ Undone) → (i j : ℕ) (x : Reply) →
        slice_get (Undone ∷ only_first rs) i ≡ Some a → j ≢ i → slice_get (Undone ∷ only_first rs) j ≡ Some x → stops x ≡ true → a ≡ Undone
    later on zero j x has ne there hit = sym (same_Some _ _ has)
    later on (suc i) zero x has ne there hit = let no_stop : stops x ≡ false = ap stops (sym (same_Some _ _ there)) in absurd (cc)
    later on (suc i) (suc j) x has ne there hit = on i has (j, x, (λ e. ne (ap suc e)), there, hit)

-- the same of the replies of a block, whatever its batch number
reply_undone : (geom : Geom) (batch : ℕ) (cs : List Call) (t : Table) (i : ℕ) (a : Reply) →
    (batch ≡ 0 → (j k : ℕ) (x y : Reply) → slice_get (apply_block geom batch cs t).1 j ≡ Some x →
    slice_get (apply_block geom batch cs t).1 k ≡ Some y → j ≡ k) →
    slice_get (apply_block geom batch cs t).1 i ≡ Some a → (a ≡ Undone) ↔ Other (apply_block geom batch cs t).1 i
reply_undone geom zero cs t i a alone get = (
  (λ is. let not : is_undone a ≡ false = none_at _ i a (turn_none geom t cs) get in let yes : is_undone a ≡ true = ap is_undone is in absurd (cc)),
  (λ o. absurd (o.2 (alone refl o.0 i o.1 a o.3 get))),
)
reply_undone geom (suc n) cs t i a alone get =
    elim (any_stops (in_turn geom t cs).1) as (λ b. any_stops (in_turn geom t cs).1 ≡ b → slice_get
    (cond b (t, only_first (in_turn geom t cs).1) (in_turn geom t cs)).1 i ≡ Some a → (a ≡ Undone) ↔ Other
    (cond b (t, only_first (in_turn geom t cs).1) (in_turn geom t cs)).1 i) [
      | true ↦ λ any has. (
        (λ is. undone_by_other (in_turn geom t cs).1 (turn_none geom t cs) any i (has ∙ ap (λ z. Some z) is)),
        (λ o. beside_undone (in_turn geom t cs).1 i a has o),
      )
      | false ↦ λ none has. (
        (λ is. let not : is_undone a ≡ false = none_at _ i a (turn_none geom t cs) has in let yes : is_undone a ≡ true = ap is_undone is in absurd (cc)),
        (λ o. let no_stop : stops o.1 ≡ false = none_stops _ o.0 o.1 none o.3 in let yes : stops o.1 ≡ true = o.4 in absurd (cc)),
      )
    ] refl get

-- a reply at a place is that of the entry there
reply_of_entry : (b : List Entry) (j : ℕ) (x : Reply) → slice_get (replies_of b) j ≡ Some x → (f : Entry) × (slice_get b j ≡ Some f) × (f.reply ≡ x)
reply_of_entry [] j x get = absurd (cc)
reply_of_entry (f ∷ fs) zero x get = (f, refl, same_Some _ _ get)
reply_of_entry (f ∷ fs) (suc j) x get = reply_of_entry fs j x get

entry_reply : (b : List Entry) (j : ℕ) (f : Entry) → slice_get b j ≡ Some f → slice_get (replies_of b) j ≡ Some f.reply
entry_reply [] j f get = absurd (cc)
entry_reply (e ∷ es) zero f get = ap (λ (z : Entry). Some z.reply) (same_Some _ _ get)
entry_reply (e ∷ es) (suc j) f get = entry_reply es j f get

-- a block of one has one place
one_place : (xs : List Entry) (j k : ℕ) (x y : Reply) → length xs ≡ 1 → slice_get (replies_of xs) j ≡ Some x → slice_get (replies_of xs) k ≡ Some y → j ≡ k
one_place [] j k x y one a b = absurd (omega arith)
one_place (z ∷ []) zero zero x y one a b = refl
one_place (z ∷ []) zero (suc k) x y one a b = absurd (cc)
one_place (z ∷ []) (suc j) k x y one a b = absurd (cc)
one_place (z ∷ w ∷ xs) j k x y one a b = absurd (omega arith)

-- a call of a block is undone exactly where another one stops the batch
pub undone_where : (geom : Geom) (t : Table) (n : ℕ) (b : List Entry) → IsLegalBlock geom t n b → (i : ℕ) (e : Entry) →
    slice_get b i ≡ Some e → (e.reply ≡ Undone) ↔ AnotherStops b i
undone_where geom t n b l i e get =
    let P : List Reply → Type 0 = λ rs. slice_get rs i ≡ Some e.reply → (e.reply ≡ Undone) ↔ Other rs i in
    let one : l.batch ≡ 0 → (j k : ℕ) (x y : Reply) → slice_get (apply_block geom l.batch (calls_of b) t).1 j ≡ Some x → slice_get
    (apply_block geom l.batch (calls_of b) t).1 k ≡ Some y → j ≡ k =
    λ alone j k x y. subst (λ rs. slice_get rs j ≡ Some x → slice_get rs k ≡ Some y → j ≡ k) l.answered (one_place b j k x y (l.is.whole ∙ ap size_of alone)) in
    let both : (e.reply ≡ Undone) ↔ Other (replies_of b) i =
    subst P (sym l.answered) (reply_undone geom l.batch (calls_of b) t i e.reply one) (entry_reply b i e get) in (
      λ is. let o = both.0 is in let f = reply_of_entry b o.0 o.1 o.3 in (o.0, f.0, o.2, f.1, ap stops f.2 ∙ o.4),
      λ o. both.1 (o.0, o.1.reply, o.2, entry_reply b o.0 o.1 o.3, o.4),
    )

-- replies of one call alone
turn_stays : (geom : Geom) (t : Table) (c : Call) → any_stops (in_turn geom t (c ∷ [])).1 ≡ true → (in_turn geom t (c ∷ [])).0 ≡ t
turn_stays geom t c any = (call_alone geom t c).1 (first_of any) where
  first_of : {a : Bool} → (a || false) ≡ true → a ≡ true
  first_of {a = true} h = refl
  first_of {a = false} h = h

-- a batch by its number, and a call alone
block_stays : (geom : Geom) (batch : ℕ) (cs : List Call) (t : Table) → (batch ≡ 0 → length cs ≡ 1) →
    any_stops (apply_block geom batch cs t).1 ≡ true → (apply_block geom batch cs t).0 ≡ t
block_stays geom zero [] t one any = refl
block_stays geom zero (c ∷ []) t one any = turn_stays geom t c any
block_stays geom zero (c ∷ d ∷ cs) t one any = absurd (let h = one refl in omega arith)
block_stays geom (suc n) cs t one any =
    elim (any_stops (in_turn geom t cs).1) as (λ b. any_stops (in_turn geom t cs).1 ≡ b → any_stops
    (cond b (t, only_first (in_turn geom t cs).1) (in_turn geom t cs)).1 ≡ true →
    (cond b (t, only_first (in_turn geom t cs).1) (in_turn geom t cs)).0 ≡ t) [
      | true ↦ λ is h. refl
      | false ↦ λ is h. absurd (cc)
    ] refl any

block_turns : (geom : Geom) (batch : ℕ) (cs : List Call) (t : Table) → any_stops (apply_block geom batch cs t).1 ≡ false →
    apply_block geom batch cs t ≡ in_turn geom t cs
block_turns geom zero cs t none = refl
block_turns geom (suc n) cs t none =
    elim (any_stops (in_turn geom t cs).1) as (λ b. any_stops (in_turn geom t cs).1 ≡ b → any_stops
    (cond b (t, only_first (in_turn geom t cs).1) (in_turn geom t cs)).1 ≡ false → cond b (t, only_first (in_turn geom t cs).1)
    (in_turn geom t cs) ≡ in_turn geom t cs) [
      | true ↦ λ is h.
          let first = first_there (in_turn geom t cs).1 is in
          let no_stop : stops first.1 ≡ false = none_stops (only_first (in_turn geom t cs).1) first.0 first.1 h first.2 in
          let hit : stops first.1 ≡ true = first.3 in
          absurd (cc)
      | false ↦ λ is h. refl
    ] refl none

-- where a reply would stop it, a block leaves the table as it was
pub stopped_stays : (geom : Geom) (t : Table) (n : ℕ) (b : List Entry) → IsLegalBlock geom t n b → any_stops (replies_of b) ≡ true → table_after geom t b ≡ t
stopped_stays geom t n b l any =
    block_done geom l.rank l.batch l.seq n t b l.is
    ∙ block_stays geom l.batch (calls_of b) t (λ alone. length_map b ∙ l.is.whole ∙ ap size_of alone) (ap any_stops (sym l.answered) ∙ any)
  where
    length_map : (b : List Entry) → length (calls_of b) ≡ length b
    length_map [] = refl
    length_map (e ∷ es) = ap suc (length_map es)

-- else its calls were applied one after the other
pub unstopped_turns : (geom : Geom) (t : Table) (n : ℕ) (b : List Entry) → IsLegalBlock geom t n b → any_stops (replies_of b) ≡ false →
    (table_after geom t b, replies_of b) ≡ in_turn geom t (calls_of b)
unstopped_turns geom t n b l none =
    ap (λ z. (z, replies_of b)) (block_done geom l.rank l.batch l.seq n t b l.is) ∙ ap (λ z. ((apply_block geom l.batch (calls_of b) t).0, z)) l.answered
    ∙ block_turns geom l.batch (calls_of b) t (ap any_stops (sym l.answered) ∙ none)
