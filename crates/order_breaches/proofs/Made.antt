-- What the programs make, whatever their reads return: each entry precedes those after it, and all are within the limits of the
-- test. With the order's own values it is what they make with the order.
use Rattle.order_breaches.proofs.Vocabulary.{◌≡◌, ◌<◌, ◌≤◌, ℕ, ◌+◌, ◌*◌, suc, zero, List, [], ◌∷◌, ◌++◌, length, length-append, Some}
use Rattle.order_breaches.proofs.Vocabulary.{IfSome, slice_get, slice_index, slice_index_or, take, drop, if◌then◌else◌, Bool, true, false}
use Rattle.order_breaches.proofs.Vocabulary.{All, arith, ap, sym, ◌∙◌, subst, refl, ◌⊎◌, inl, inr, cases_order, action_of, location_of}
use Rattle.order_breaches.proofs.Vocabulary.{entries_by, entries_of, is_reading, reads_in, Litmus, KnownLocation, IsProgram, IsTest}
use Rattle.order_breaches.proofs.Vocabulary.{values_by, read_values, made_from, made, Instr, Action, Store, Load, Move, Fence, Lock, Entry}
use Rattle.order_breaches.proofs.Vocabulary.{rank, Each, each-append, each-at, reads_of_all, made_reading, Precedes, Ascends, IsEntryWithin}
use Rattle.order_breaches.proofs.Vocabulary.{EntriesAreWithin}
use Rattle.std.proofs.Math.Seq.{take-append_seam}
use Rattle.tso_terms.specs.Limits.{most_instructions}
use Rattle.order_breaches.proofs.Actions.{same-rank, NoneTwice}

pub all-first : {X : Type 0} (P : X → Type 0) (x : X) (xs : List X) → All P (x ∷ xs) → P x
all-first P x xs h = h 0 x (omega arith)

pub all-rest : {X : Type 0} (P : X → Type 0) (x : X) (xs : List X) → All P (x ∷ xs) → All P xs
all-rest P x xs h = λ k d l. h (suc k) d (omega arith)

-- the order's own values for all reads, core by core
abbrev pub all_reads : ℕ → List (List Instr) → List Entry → List ℕ
all_reads core [] order = []
all_reads core (p ∷ ps) order = read_values core 0 p order ++ all_reads (core + 1) ps order

count-first : (core place : ℕ) (a : Action) (values : List ℕ) (order : List Entry) (n : ℕ)
    → length values ≡ n
    → length (values_by core place a order ++ values) ≡ (if is_reading a then suc n else n)
count-first core place (Store loc operand) values order n h = h
count-first core place (Load reg loc) values order n h = ap suc h
count-first core place (Move change) values order n h = h
count-first core place Fence values order n h = h
count-first core place (Lock loc reg update) values order n h = ap suc h

pub reads-count : (core place : ℕ) (program : List Instr) (order : List Entry) → length (read_values core place program order) ≡ reads_in program
reads-count core place [] order = refl
reads-count core place (i ∷ rest) order =
    count-first core place (action_of i) (read_values core (place + 1) rest order) order (reads_in rest) (reads-count core (place + 1) rest order)

drop-seam : (xs ys : List ℕ) → drop (length xs) (xs ++ ys) ≡ ys
drop-seam [] ys = refl
drop-seam (x ∷ xs) ys = drop-seam xs ys

pub all-count : (core : ℕ) (programs : List (List Instr)) (order : List Entry) → length (all_reads core programs order) ≡ reads_of_all programs
all-count core [] order = refl
all-count core (p ∷ ps) order =
    length-append (read_values core 0 p order) (all_reads (core + 1) ps order)
    ∙ ap (λ n. n + length (all_reads (core + 1) ps order)) (reads-count core 0 p order)
    ∙ ap (λ n. reads_in p + n) (all-count (core + 1) ps order)

pub made-by-reads : (core : ℕ) (programs : List (List Instr)) (registers : List (List ℕ)) (order : List Entry)
    → made_reading core programs registers (all_reads core programs order) ≡ made_from core programs registers order
made-by-reads core [] registers order = refl
made-by-reads core (p ∷ ps) registers order =
    let own = read_values core 0 p order in
    let rest = all_reads (core + 1) ps order in
    let front : take (reads_in p) (own ++ rest) ≡ own = ap (λ n. take n (own ++ rest)) (sym (reads-count core 0 p order)) ∙ take-append_seam own rest in
    let back : drop (reads_in p) (own ++ rest) ≡ rest = ap (λ n. drop n (own ++ rest)) (sym (reads-count core 0 p order)) ∙ drop-seam own rest in
    ap (λ z. entries_of core 0 p (slice_index_or registers core []) z ++ made_reading (core + 1) ps registers (drop (reads_in p) (own ++ rest))) front
    ∙ ap (λ z. entries_of core 0 p (slice_index_or registers core []) own ++ made_reading (core + 1) ps registers z) back
    ∙ ap (λ z. entries_of core 0 p (slice_index_or registers core []) own ++ z) (made-by-reads (core + 1) ps registers order)

-- what holds whatever the reads return
pub of-made : (P : List Entry → Type 0) (t : Litmus) (order : List Entry)
    → ((reads : List ℕ) → P (made_reading 0 t.programs t.registers reads))
    → P (made t order)
of-made P t order h = subst P (made-by-reads 0 t.programs t.registers order) (h (all_reads 0 t.programs order))

-- a core and rank at most as late as another one
abbrev Reaches : ℕ → ℕ → ℕ → ℕ → Type 0
Reaches core low other high = (core < other) ⊎ ((core ≡ other) × (low ≤ high))

-- the entries come at this core and rank or later, each after the one before it
abbrev Rises : ℕ → ℕ → List Entry → Type 0
Rises core low [] = Unit {0}
Rises core low (e ∷ es) = Reaches core low e.core.0 (rank e) × Rises e.core.0 (rank e + 1) es

abbrev RisesFrom : ℕ → ℕ → List Entry → Type 0
RisesFrom core high es = (c low : ℕ) → Reaches c low core high → Rises c low es

rise-by : (core place : ℕ) (a : Action) (registers : List ℕ) (word : ℕ) (es ys : List Entry) → RisesFrom core ((place + 1) + (place + 1) + 0) (es ++ ys)
    → RisesFrom core (place + place + 0) ((entries_by core place a registers word ++ es) ++ ys)
rise-by core place (Store loc operand) registers word es ys h = λ c low r. (r, h core _ (inr (refl, omega arith)))
rise-by core place (Load reg loc) registers word es ys h = λ c low r. (r, h core _ (inr (refl, omega arith)))
rise-by core place (Move change) registers word es ys h = λ c low r. h c low (elim r [ inl l ↦ inl l | inr p ↦ inr (p.0, let l = p.1 in omega arith) ])
rise-by core place Fence registers word es ys h = λ c low r. (r, h core _ (inr (refl, omega arith)))
rise-by core place (Lock loc reg update) registers word es ys h = λ c low r. (r, (inr (refl, omega arith), h core _ (inr (refl, omega arith))))

entries-rise : (core place : ℕ) (program : List Instr) (registers values : List ℕ) (ys : List Entry)
    → ((c low : ℕ) → c ≤ core → Rises c low ys)
    → RisesFrom core (place + place + 0) (entries_of core place program registers values ++ ys)
entries-rise core place [] registers values ys h = λ c low r.
    h c low (elim r [
      | inl l ↦ (let m : c ≤ core = omega arith in m)
      | inr p ↦ (let q = p.0 in let m : c ≤ core = omega arith in m)
    ])
entries-rise core place (i ∷ rest) registers values ys h =
    rise-by core place (action_of i) registers (slice_index values 0) _ ys (entries-rise core (place + 1) rest _ _ ys h)

made-rise : (core : ℕ) (programs : List (List Instr)) (registers : List (List ℕ)) (reads : List ℕ)
    → RisesFrom core 0 (made_reading core programs registers reads)
made-rise core [] registers reads = λ c low r. tt
made-rise core (p ∷ ps) registers reads =
    entries-rise core 0 p (slice_index_or registers core []) (take (reads_in p) reads) (made_reading (core + 1) ps registers (drop (reads_in p) reads))
    (λ c low l. made-rise (core + 1) ps registers (drop (reads_in p) reads) c low (inl (omega arith)))

rise-on : (core low : ℕ) (list : List Entry) → Rises core low list → (k : ℕ) (e : Entry) → slice_get list k ≡ Some e → Reaches core low e.core.0 (rank e)
rise-on core low [] h k e s = absurd (let z : ⊥ = cc in z)
rise-on core low (x ∷ xs) h zero e s = let q : x ≡ e = cc in subst (λ z. Reaches core low z.core.0 (rank z)) q h.0
rise-on core low (x ∷ xs) h (suc k) e s = elim (rise-on x.core.0 (rank x + 1) xs h.1 k e s) [
  | inl l ↦ inl (elim h.0 [ inl m ↦ (let z : core < e.core.0 = omega arith in z) | inr p ↦ (let q = p.0 in let z : core < e.core.0 = omega arith in z) ])
  | inr r ↦ elim h.0 [
    | inl m ↦ inl (let q = r.0 in omega arith)
    | inr p ↦ inr (p.0 ∙ r.0, let l = p.1 in let m = r.1 in omega arith)
  ]
]

rising-ascend : (core low : ℕ) (list : List Entry) → Rises core low list → Ascends list
rising-ascend core low [] h j k d e l f g = absurd (let z : ⊥ = cc in z)
rising-ascend core low (x ∷ xs) h j zero d e l f g = absurd (omega arith)
rising-ascend core low (x ∷ xs) h zero (suc k) d e l f g =
    let q : x ≡ d = cc in
    subst (λ z. Precedes z e) q (elim (rise-on x.core.0 (rank x + 1) xs h.1 k e g) [ inl m ↦ inl m | inr p ↦ inr (p.0, let m = p.1 in omega arith) ])
rising-ascend core low (x ∷ xs) h (suc j) (suc k) d e l f g = rising-ascend x.core.0 (rank x + 1) xs h.1 j k d e (omega arith) f g

pub reading-ascends : (t : Litmus) (reads : List ℕ) → Ascends (made_reading 0 t.programs t.registers reads)
reading-ascends t reads = rising-ascend 0 0 _ (made-rise 0 t.programs t.registers reads 0 0 (inr (refl, omega arith)))

pub made-ascends : (t : Litmus) (order : List Entry) → Ascends (made t order)
made-ascends t order = of-made Ascends t order (reading-ascends t)

-- no two of them are of one core and rank, nor of one core, place and kind
pub one-at : (list : List Entry)
    → Ascends list
    → (j k : ℕ) (d e : Entry)
    → slice_get list j ≡ Some d
    → slice_get list k ≡ Some e
    → d.core.0 ≡ e.core.0
    → rank d ≡ rank e
    → j ≡ k
one-at list up j k d e f g c r = elim (cases_order j k) [
  | inl q ↦ q
  | inr w ↦ elim w [
    | inl l ↦ absurd (elim (up j k d e l f g) [ inl m ↦ (let z : ⊥ = omega arith in z) | inr p ↦ (let m = p.1 in let z : ⊥ = omega arith in z) ])
    | inr l ↦ absurd (elim (up k j e d l g f) [ inl m ↦ (let z : ⊥ = omega arith in z) | inr p ↦ (let m = p.1 in let z : ⊥ = omega arith in z) ])
  ]
]

pub made-once : (t : Litmus) (order : List Entry) → NoneTwice (made t order)
made-once t order i j x y l e f s = let q = one-at (made t order) (made-ascends t order) i j x y e f s.core (same-rank x y s) in omega arith

-- all are within the limits of the test
within-by : (cores n core place : ℕ) (a : Action) (registers : List ℕ) (word : ℕ)
    → core < cores
    → place < most_instructions
    → IfSome (location_of a) (λ loc. loc.0 < n)
    → Each (IsEntryWithin cores n) (entries_by core place a registers word)
within-by cores n core place (Store loc operand) registers word c p l = (record { core = c; fits = omega arith; known = λ _. l }, tt)
within-by cores n core place (Load reg loc) registers word c p l = (record { core = c; fits = omega arith; known = λ w. absurd (let z : ⊥ = cc in z) }, tt)
within-by cores n core place (Move change) registers word c p l = tt
within-by cores n core place Fence registers word c p l = (record { core = c; fits = omega arith; known = λ w. absurd (let z : ⊥ = cc in z) }, tt)
within-by cores n core place (Lock loc reg update) registers word c p l =
    (record { core = c; fits = omega arith; known = λ w. absurd (let z : ⊥ = cc in z) }, (record { core = c; fits = omega arith; known = λ _. l }, tt))

entries-within : (cores n core place : ℕ) (program : List Instr) (registers values : List ℕ)
    → core < cores
    → place + length program ≤ most_instructions
    → All (KnownLocation n) program
    → Each (IsEntryWithin cores n) (entries_of core place program registers values)
entries-within cores n core place [] registers values c l h = tt
entries-within cores n core place (i ∷ rest) registers values c l h =
    each-append (IsEntryWithin cores n) (entries_by core place (action_of i) registers (slice_index values 0)) _
    (within-by cores n core place (action_of i) registers (slice_index values 0) c (omega arith) (all-first (KnownLocation n) i rest h))
    (entries-within cores n core (place + 1) rest _ _ c (omega arith) (all-rest (KnownLocation n) i rest h))

programs-within : (cores n core : ℕ) (programs : List (List Instr)) (registers : List (List ℕ)) (reads : List ℕ)
    → core + length programs ≤ cores
    → All (IsProgram n) programs
    → Each (IsEntryWithin cores n) (made_reading core programs registers reads)
programs-within cores n core [] registers reads l h = tt
programs-within cores n core (p ∷ ps) registers reads l h =
    let first = all-first (IsProgram n) p ps h in
    each-append (IsEntryWithin cores n)
    (entries_of core 0 p (slice_index_or registers core []) (take (reads_in p) reads))
    (made_reading (core + 1) ps registers (drop (reads_in p) reads))
    (entries-within cores n core 0 p (slice_index_or registers core []) (take (reads_in p) reads) (omega arith)
    (let s = first.size in omega arith) first.locations_known)
    (programs-within cores n (core + 1) ps registers (drop (reads_in p) reads) (omega arith) (all-rest (IsProgram n) p ps h))

pub reading-within : (t : Litmus)
    → IsTest t
    → (reads : List ℕ)
    → EntriesAreWithin (length t.programs) (length t.locations) (made_reading 0 t.programs t.registers reads)
reading-within t valid reads k e f =
    each-at (IsEntryWithin (length t.programs) (length t.locations)) _ k e
    (programs-within (length t.programs) (length t.locations) 0 t.programs t.registers reads (omega arith) valid.programs_fit)
    f

pub made-within : (t : Litmus) (order : List Entry) → IsTest t → EntriesAreWithin (length t.programs) (length t.locations) (made t order)
made-within t order valid = of-made (EntriesAreWithin (length t.programs) (length t.locations)) t order (reading-within t valid)

-- so many reads there are at most
program-few : (program : List Instr) → reads_in program ≤ length program
program-few [] = omega arith
program-few (i ∷ rest) = let l = program-few rest in one-more (is_reading (action_of i)) (reads_in rest) (length rest) l
  where
    one-more : (b : Bool) (n m : ℕ) → n ≤ m → (if b then suc n else n) ≤ suc m
    one-more true n m l = omega arith
    one-more false n m l = omega arith

pub reads-few : (n : ℕ) (programs : List (List Instr)) → All (IsProgram n) programs → reads_of_all programs ≤ most_instructions * length programs
reads-few n [] h = omega arith
reads-few n (p ∷ ps) h =
    let s = (all-first (IsProgram n) p ps h).size in
    let l = program-few p in
    let r = reads-few n ps (all-rest (IsProgram n) p ps h) in
    omega arith
