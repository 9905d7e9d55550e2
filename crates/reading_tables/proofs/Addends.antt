-- What the code finds that a write adds is what its expression adds.
use Rattle.reading_tables.proofs.Vocabulary.{◌≡◌, ◌<◌, ◌≤◌, ◌+◌, ℕ, zero, suc, Bool, true, false, if◌then◌else◌, List, [], ◌∷◌, ◌++◌}
use Rattle.reading_tables.proofs.Vocabulary.{Option, Some, None, length, slice_index_or, get_or, arith, refl, ap, ◌∙◌, Entry}
use Rattle.basic_laws.specs.Types.{Operator, Add, And, Or, Subtract, Xor}
use Rattle.refutation_laws.specs.Known.{same_event}
use Rattle.possible_reads.specs.Expressions.{Expression, Constant, Returned, Combined, Negated, Exchanged}
use Rattle.possible_reads.specs.Possible.{Reading, addend_in, addend_or_none, load_part_of, amount_in, least_read, least_sum, least_by}
use Rattle.possible_reads.specs.Facts.{value_facts}
use Rattle.reading_tables.specs.declared.expressions.Held.{Held}
use Rattle.reading_tables.specs.declared.expressions.Making.{Making}
use Rattle.reading_tables.specs.declared.expressions.Held.TheVariants.{Number, Returned as Read, Made}
use Rattle.reading_tables.specs.declared.expressions.Making.TheVariants as making
use Rattle.reading_tables.specs.inner.Told.{unmade, held_of, making_of, made_after, all_made}
use Rattle.reading_tables.specs.inner.Addends.{addend_by, made_addend}
use Rattle.std.specs.Option.{unwrap_or}
use Rattle.tso_terms.specs.ProgramOrder.{same_kind}
use Rattle.basic_laws.specs.Types.{LW}
use Rattle.reading_tables.proofs.Makings.{length-more, at-front, at-end, count}

-- neither a number nor what a read returned
abbrev IsComputed : Expression → Type 0
IsComputed (Combined operator left right) = Unit {0}
IsComputed (Negated inner) = Unit {0}
IsComputed (Exchanged word eax new) = Unit {0}
IsComputed _ = ⊥

abbrev AreComputed : List Expression → Type 0
AreComputed [] = Unit {0}
AreComputed (e ∷ es) = IsComputed e × AreComputed es

computed-at : (es : List Expression) (i : ℕ) → AreComputed es → IsComputed (slice_index_or es i unmade)
computed-at [] i h = tt
computed-at (e ∷ es) zero h = h.0
computed-at (e ∷ es) (suc i) h = computed-at es i h.1

making-computed : (made : List Expression) (m : Making) → IsComputed (making_of made m)
making-computed made (making.Combined operator left right) = tt
making-computed made (making.Negated inner) = tt
making-computed made (making.Exchanged word eax new) = tt

computed-more : (es : List Expression) (e : Expression) → AreComputed es → IsComputed e → AreComputed (es ++ (e ∷ []))
computed-more [] e h k = (k, tt)
computed-more (x ∷ es) e h k = (h.0, computed-more es e h.1 k)

pub all-computed : (made : List Expression) (ms : List Making) → AreComputed made → AreComputed (made_after made ms)
all-computed made [] h = h
all-computed made (m ∷ ms) h = all-computed (made ++ (making_of made m ∷ [])) ms (computed-more made (making_of made m) h (making-computed made m))

made-computed : (makings : List Making) (k : ℕ) → IsComputed (held_of (all_made makings) (Made k))
made-computed makings k = computed-at (all_made makings) k (all-computed [] makings tt)

-- ---- one making

number-left : (own : Entry) (operator : Operator) (v : ℕ) (e : Expression) → addend_in own (Combined operator (Constant v) e) ≡ None
number-left own Add v e = refl
number-left own Subtract v e = refl
number-left own And v e = refl
number-left own Or v e = refl
number-left own Xor v e = refl

computed-left : (own : Entry) (operator : Operator) (e right : Expression) → IsComputed e → addend_in own (Combined operator e right) ≡ None
computed-left own Add (Combined operator left other) right h = refl
computed-left own Add (Negated inner) right h = refl
computed-left own Add (Exchanged word eax new) right h = refl
computed-left own Add (Constant value) right h = absurd h
computed-left own Add (Returned read) right h = absurd h
computed-left own Subtract (Combined operator left other) right h = refl
computed-left own Subtract (Negated inner) right h = refl
computed-left own Subtract (Exchanged word eax new) right h = refl
computed-left own Subtract (Constant value) right h = absurd h
computed-left own Subtract (Returned read) right h = absurd h
computed-left own And e right h = refl
computed-left own Or e right h = refl
computed-left own Xor e right h = refl

read-right : (own : Entry) (operator : Operator) (r q : Entry) → addend_in own (Combined operator (Returned r) (Returned q)) ≡ None
read-right own Add r q = refl
read-right own Subtract r q = refl
read-right own And r q = refl
read-right own Or r q = refl
read-right own Xor r q = refl

computed-right : (own : Entry) (operator : Operator) (r : Entry) (e : Expression) → IsComputed e → addend_in own (Combined operator (Returned r) e) ≡ None
computed-right own Add r (Combined operator left other) h = refl
computed-right own Add r (Negated inner) h = refl
computed-right own Add r (Exchanged word eax new) h = refl
computed-right own Add r (Constant value) h = absurd h
computed-right own Add r (Returned read) h = absurd h
computed-right own Subtract r (Combined operator left other) h = refl
computed-right own Subtract r (Negated inner) h = refl
computed-right own Subtract r (Exchanged word eax new) h = refl
computed-right own Subtract r (Constant value) h = absurd h
computed-right own Subtract r (Returned read) h = absurd h
computed-right own And r e h = refl
computed-right own Or r e h = refl
computed-right own Xor r e h = refl

neither : (b : Bool) → ◌≡◌ {A = Option ℕ} None (if b then None else None)
neither true = refl
neither false = refl

number-right : (own : Entry) (operator : Operator) (r : Entry) (n : ℕ)
    → addend_in own (Combined operator (Returned r) (Constant n)) ≡ (if same_event r own then addend_by operator n else None)
number-right own Add r n = refl
number-right own Subtract r n = refl
number-right own And r n = neither (same_event r own)
number-right own Or r n = neither (same_event r own)
number-right own Xor r n = neither (same_event r own)

-- by the two that it combines
same-addend : (own : Entry) (made : List Expression) (operator : Operator) (left right : Held) → AreComputed made
    → addend_in own (Combined operator (held_of made left) (held_of made right)) ≡ made_addend own (making.Combined operator left right)
same-addend own made operator (Number v) right h = number-left own operator v (held_of made right)
same-addend own made operator (Made k) right h = computed-left own operator (held_of made (Made k)) (held_of made right) (computed-at made k h)
same-addend own made operator (Read r) (Number n) h = number-right own operator r n
same-addend own made operator (Read r) (Read q) h = read-right own operator r q
same-addend own made operator (Read r) (Made k) h = computed-right own operator r (held_of made (Made k)) (computed-at made k h)

making-addend : (own : Entry) (made : List Expression) (m : Making) → AreComputed made → addend_in own (making_of made m) ≡ made_addend own m
making-addend own made (making.Combined operator left right) h = same-addend own made operator left right h
making-addend own made (making.Negated inner) h = refl
making-addend own made (making.Exchanged word eax new) h = refl

-- ---- all of them

front-kept : (made : List Expression) (ms : List Making) (i : ℕ) → i < length made → slice_index_or (made_after made ms) i unmade ≡ slice_index_or made i unmade
front-kept made [] i l = refl
front-kept made (m ∷ ms) i l =
    let a = length-more made (making_of made m) in
    front-kept (made ++ (making_of made m ∷ [])) ms i (omega (arith, l, a)) ∙ at-front made (making_of made m ∷ []) i unmade l

at-number : (own : Entry) (made : List Expression) (ms : List Making) (i j : ℕ) (d : Making) → AreComputed made → i < length ms → j ≡ length made + i
    → addend_in own (slice_index_or (made_after made ms) j unmade) ≡ made_addend own (get_or ms i d)
at-number own made [] i j d h l e = absurd (omega arith)
at-number own made (m ∷ ms) zero j d h l e =
    let a = length-more made (making_of made m) in
    let n : j ≡ length made = omega (arith, e) in
    ap (addend_in own)
    (front-kept (made ++ (making_of made m ∷ [])) ms j (omega (arith, a, n))
    ∙ (ap (λ k. slice_index_or (made ++ (making_of made m ∷ [])) k unmade) n ∙ at-end made (making_of made m) unmade))
    ∙ making-addend own made m h
at-number own made (m ∷ ms) (suc i) j d h l e =
    let a = length-more made (making_of made m) in
    at-number own (made ++ (making_of made m ∷ [])) ms i j d (computed-more made (making_of made m) h (making-computed made m)) (omega (arith, l))
    (omega (arith, e, a))

pub addend-at : (own : Entry) (ms : List Making) (i : ℕ) (d : Making) → i < length ms
    → addend_in own (held_of (all_made ms) (Made i)) ≡ made_addend own (get_or ms i d)
addend-at own ms i d l = at-number own [] ms i i d tt l (omega arith)

beyond : (es : List Expression) (i : ℕ) → length es ≤ i → slice_index_or es i unmade ≡ unmade
beyond [] i l = refl
beyond (e ∷ es) zero l = absurd (omega arith)
beyond (e ∷ es) (suc i) l = beyond es i (omega (arith, l))

pub no-addend : (own : Entry) (ms : List Making) (i : ℕ) → length ms ≤ i → addend_in own (held_of (all_made ms) (Made i)) ≡ None
no-addend own ms i l = let n = count ms in ap (addend_in own) (beyond (all_made ms) i (omega (arith, l, n)))

-- ---- what is computed says nothing of a read

computed-silent : (e : Expression) (value : ℕ) (truth : Bool) → IsComputed e → value_facts e value truth ≡ []
computed-silent (Combined operator left right) value truth h = refl
computed-silent (Negated inner) value truth h = refl
computed-silent (Exchanged word eax new) value truth h = refl
computed-silent (Constant n) value truth h = absurd h
computed-silent (Returned read) value truth h = absurd h

pub no_facts : (makings : List Making) (k value : ℕ) (truth : Bool) → value_facts (held_of (all_made makings) (Made k)) value truth ≡ []
no_facts makings k value truth =
    computed-silent (held_of (all_made makings) (Made k)) value truth (made-computed makings k)

-- ---- what isn't a number by itself can be an addition

pub none-is-zero : (o : Option ℕ) → unwrap_or o 0 ≡ addend_or_none o
none-is-zero None = refl
none-is-zero (Some n) = refl

added-amount : (write : Entry) (e : Expression) → IsComputed e
    → amount_in write e ≡ (if same_kind write.kind LW then addend_in (load_part_of write) e else None)
added-amount write (Combined operator left right) h = refl
added-amount write (Negated inner) h = refl
added-amount write (Exchanged word eax new) h = refl
added-amount write (Constant n) h = absurd h
added-amount write (Returned read) h = absurd h

added-least : (table : List Reading) (write : Entry) (e : Expression) → IsComputed e
    → least_by table write e ≡ least_sum (least_read table (load_part_of write)) (addend_or_none (addend_in (load_part_of write) e))
added-least table write (Combined operator left right) h = refl
added-least table write (Negated inner) h = refl
added-least table write (Exchanged word eax new) h = refl
added-least table write (Constant n) h = absurd h
added-least table write (Returned read) h = absurd h

pub held-amount : (write : Entry) (makings : List Making) (held : Held) → ((n : ℕ) → held ≡ Number n → ⊥)
    → amount_in write (held_of (all_made makings) held)
    ≡ (if same_kind write.kind LW then addend_in (load_part_of write) (held_of (all_made makings) held) else None)
held-amount write makings (Number n) other = absurd (other n refl)
held-amount write makings (Read r) other = refl
held-amount write makings (Made k) other = added-amount write (held_of (all_made makings) (Made k)) (made-computed makings k)

pub held-least : (table : List Reading) (write : Entry) (makings : List Making) (held : Held) → ((n : ℕ) → held ≡ Number n → ⊥)
    → least_by table write (held_of (all_made makings) held)
    ≡ least_sum (least_read table (load_part_of write)) (addend_or_none (addend_in (load_part_of write) (held_of (all_made makings) held)))
held-least table write makings (Number n) other = absurd (other n refl)
held-least table write makings (Read r) other = refl
held-least table write makings (Made k) other = added-least table write (held_of (all_made makings) (Made k)) (made-computed makings k)
