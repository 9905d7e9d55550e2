-- A program cut at a place: what it makes, and its registers, are those of the first part and then of the rest.
use Rattle.tso_laws.proofs.Vocabulary.{◌≡◌, ℕ, ◌+◌, zero, suc, List, [], ◌∷◌, ◌++◌, Some, take, drop, slice_get, slice_index, arith, ap}
use Rattle.tso_laws.proofs.Vocabulary.{sym, ◌∙◌, append_assoc, refl, add-one, subst, action_of, entries_by, registers_by, values_after}
use Rattle.tso_laws.proofs.Vocabulary.{entries_of, registers_after, values_by, made_by, read_values, registers_of, Instr, Action, Store}
use Rattle.tso_laws.proofs.Vocabulary.{Entry}

-- what a program makes from a place on, with the order's own read values
abbrev pub makes : ℕ → ℕ → List Instr → List ℕ → List Entry → List Entry
makes c k p regs order = entries_of c k p regs (read_values c k p order)

-- its registers then
abbrev pub leaves : ℕ → ℕ → List Instr → List ℕ → List Entry → List ℕ
leaves c k p regs order = registers_after p regs (read_values c k p order)

shift : (k n : ℕ) → (k + 1) + n ≡ k + suc n
shift k n = omega arith

-- the value that an action reads in the order; 0 where it reads none
abbrev word_by : ℕ → ℕ → Action → List Entry → ℕ
word_by c k a order = slice_index (values_by c k a order) 0

-- an action takes its own value from the front, and leaves the others
registers-first : (c k : ℕ) (a : Action) (p : List Instr) (regs values : List ℕ) (order : List Entry)
    → registers_after p (registers_by a regs (slice_index (values_by c k a order ++ values) 0)) (values_after a (values_by c k a order ++ values))
    ≡ registers_after p (registers_by a regs (word_by c k a order)) values
registers-first c k (Store loc operand) p regs values order = refl
registers-first c k _ p regs values order = refl

entries-first : (c k : ℕ) (a : Action) (p : List Instr) (regs values : List ℕ) (order : List Entry)
    → entries_by c k a regs (slice_index (values_by c k a order ++ values) 0)
    ++ entries_of c (k + 1) p
    (registers_by a regs (slice_index (values_by c k a order ++ values) 0))
    (values_after a (values_by c k a order ++ values))
    ≡ entries_by c k a regs (word_by c k a order) ++ entries_of c (k + 1) p (registers_by a regs (word_by c k a order)) values
entries-first c k (Store loc operand) p regs values order = refl
entries-first c k _ p regs values order = refl

leaves-first : (c k : ℕ) (i : Instr) (p : List Instr) (regs : List ℕ) (order : List Entry)
    → leaves c k (i ∷ p) regs order
    ≡ leaves c (k + 1) p (registers_by (action_of i) regs (word_by c k (action_of i) order)) order
leaves-first c k i p regs order = registers-first c k (action_of i) p regs (read_values c (k + 1) p order) order

makes-first : (c k : ℕ) (i : Instr) (p : List Instr) (regs : List ℕ) (order : List Entry)
    → makes c k (i ∷ p) regs order
    ≡ entries_by c k (action_of i) regs (word_by c k (action_of i) order)
    ++ makes c (k + 1) p (registers_by (action_of i) regs (word_by c k (action_of i) order)) order
makes-first c k i p regs order = entries-first c k (action_of i) p regs (read_values c (k + 1) p order) order

leaves-split : (c k n : ℕ) (p : List Instr) (regs : List ℕ) (order : List Entry)
    → leaves c k p regs order ≡ leaves c (k + n) (drop n p) (leaves c k (take n p) regs order) order
leaves-split c k zero p regs order = rw (let z : k + 0 ≡ k = omega arith in z) refl
leaves-split c k (suc n) [] regs order = refl
leaves-split c k (suc n) (i ∷ p) regs order =
    rw (leaves-first c k i p regs order, leaves-first c k i (take n p) regs order, ← shift k n) (leaves-split c (k + 1) n p _ order)

pub makes-split : (c k n : ℕ) (p : List Instr) (regs : List ℕ) (order : List Entry)
    → makes c k p regs order ≡ makes c k (take n p) regs order ++ makes c (k + n) (drop n p) (leaves c k (take n p) regs order) order
makes-split c k zero p regs order = rw (let z : k + 0 ≡ k = omega arith in z) refl
makes-split c k (suc n) [] regs order = refl
makes-split c k (suc n) (i ∷ p) regs order =
    let a : Action = action_of i in
    let w : ℕ = word_by c k a order in
    let es : List Entry = entries_by c k a regs w in
    let next : List ℕ = registers_by a regs w in
    rw (makes-first c k i p regs order, makes-first c k i (take n p) regs order, leaves-first c k i (take n p) regs order, ← shift k n)
    (ap (λ z. es ++ z) (makes-split c (k + 1) n p next order) ∙ sym (append_assoc es (makes c (k + 1) (take n p) next order) _))

-- one instruction more
take-more : (p : List Instr) (n : ℕ) (i : Instr) → slice_get p n ≡ Some i → take n (take (suc n) p) ≡ take n p
take-more [] n i e = refl
take-more (x ∷ p) zero i e = refl
take-more (x ∷ p) (suc n) i e = ap (λ z. x ∷ z) (take-more p n i e)

drop-more : (p : List Instr) (n : ℕ) (i : Instr) → slice_get p n ≡ Some i → drop n (take (suc n) p) ≡ i ∷ []
drop-more [] n i e = absurd (let z : ⊥ = cc in z)
drop-more (x ∷ p) zero i e = ap (λ z. z ∷ []) (let z : x ≡ i = cc in z)
drop-more (x ∷ p) (suc n) i e = drop-more p n i e

pub makes-next : (c n : ℕ) (p : List Instr) (regs : List ℕ) (order : List Entry) (i : Instr) → slice_get p n ≡ Some i
    → made_by c (take (n + 1) p) regs order ≡ made_by c (take n p) regs order ++ makes c n (i ∷ []) (registers_of c (take n p) regs order) order
makes-next c n p regs order i e =
    let h = makes-split c 0 n (take (suc n) p) regs order in
    rw add-one (subst (λ z.
    makes c 0 (take (suc n) p) regs order
    ≡ makes c 0 z regs order ++ makes c n (i ∷ []) (leaves c 0 z regs order) order)
    (take-more p n i e)
    (subst (λ z.
    makes c 0 (take (suc n) p) regs order
    ≡ makes c 0 (take n (take (suc n) p)) regs order
    ++ makes c n z (leaves c 0 (take n (take (suc n) p)) regs order) order)
    (drop-more p n i e)
    (subst (λ z.
    makes c 0 (take (suc n) p) regs order
    ≡ makes c 0 (take n (take (suc n) p)) regs order
    ++ makes c z (drop n (take (suc n) p)) (leaves c 0 (take n (take (suc n) p)) regs order) order)
    (let z : 0 + n ≡ n = omega arith in z) h)))

pub leaves-next : (c n : ℕ) (p : List Instr) (regs : List ℕ) (order : List Entry) (i : Instr) → slice_get p n ≡ Some i
    → registers_of c (take (n + 1) p) regs order ≡ leaves c n (i ∷ []) (registers_of c (take n p) regs order) order
leaves-next c n p regs order i e =
    let h = leaves-split c 0 n (take (suc n) p) regs order in
    rw add-one (subst (λ z. leaves c 0 (take (suc n) p) regs order ≡ leaves c n (i ∷ []) (leaves c 0 z regs order) order) (take-more p n i e)
    (subst (λ z. leaves c 0 (take (suc n) p) regs order ≡ leaves c n z (leaves c 0 (take n (take (suc n) p)) regs order) order) (drop-more p n i e)
    (subst (λ z.
    leaves c 0 (take (suc n) p) regs order
    ≡ leaves c z (drop n (take (suc n) p)) (leaves c 0 (take n (take (suc n) p)) regs order) order)
    (let z : 0 + n ≡ n = omega arith in z) h)))
