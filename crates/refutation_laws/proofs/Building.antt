-- The events of a test whose reads return what is given; each event is there once, and so a known write has one value.
use Rattle.refutation_laws.proofs.Vocabulary.{◌≡◌, ℕ, zero, suc, ◌+◌, Bool, true, false, if◌then◌else◌, List, [], ◌∷◌, ◌++◌, Option, Some}
use Rattle.refutation_laws.proofs.Vocabulary.{None, slice_get, slice_index, slice_index_or, arith, refl, sym, ap, ◌∙◌, ◌⊎◌, inl, inr, subst}
use Rattle.refutation_laws.proofs.Vocabulary.{Litmus, action_of, entry, value_in, value_of, updated, entries_by, registers_by, values_after}
use Rattle.refutation_laws.proofs.Vocabulary.{entries_of, is_read, is_write, Instr, Action, Store, Load, Move, Fence, Lock, Entry, R, W, LR}
use Rattle.refutation_laws.proofs.Vocabulary.{LW, part_of, IsIn, events_from, in-case, in-none, in-first, in-later, in-append, only}
use Rattle.refutation_laws.proofs.Vocabulary.{same-events-from, bare, same_event, writes_from, value_among}
use Rattle.refutation_laws.proofs.Standing.{same-bare}
use Rattle.refutation_laws.proofs.Soundness.{bare-same}
use Rattle.refutation_laws.proofs.Knowing.{Tells, Given, all-writes-in}

-- ---- reads that return what is given

abbrev pub or_zero : Option ℕ → ℕ
or_zero None = 0
or_zero (Some v) = v

-- what is given of a read, and 0 where nothing is
abbrev pub chosen : (Entry → Option ℕ) → Entry → ℕ
chosen given e = or_zero (given e)

abbrev pub read_by : (Entry → ℕ) → ℕ → ℕ → Action → List ℕ
read_by val core place (Load reg loc) = val (entry core place R loc 0) ∷ []
read_by val core place (Lock loc reg update) = val (entry core place LR loc 0) ∷ []
read_by val core place _ = []

abbrev pub values_by : (Entry → ℕ) → ℕ → ℕ → List Instr → List ℕ
values_by val core place [] = []
values_by val core place (i ∷ p) = read_by val core place (action_of i) ++ values_by val core (place + 1) p

abbrev pub reads_by : (Entry → ℕ) → ℕ → List (List Instr) → List (List ℕ)
reads_by val core [] = []
reads_by val core (p ∷ ps) = values_by val core 0 p ∷ reads_by val (core + 1) ps

after-read : (val : Entry → ℕ) (core place : ℕ) (a : Action) (vs : List ℕ) → values_after a (read_by val core place a ++ vs) ≡ vs
after-read val core place (Store loc operand) vs = refl
after-read val core place (Load reg loc) vs = refl
after-read val core place (Move change) vs = refl
after-read val core place Fence vs = refl
after-read val core place (Lock loc reg update) vs = refl

as-chosen : (val : Entry → ℕ) (e x : Entry) → x ≡ e → e.value ≡ val (bare e) → x.value ≡ val (bare x)
as-chosen val e x q h = subst (λ (y : Entry). y.value ≡ val (bare y)) (sym q) h

unread : (e x : Entry) → x ≡ e → is_read e ≡ false → is_read x ≡ true → ⊥
unread e x q n r = let s : is_read x ≡ is_read e = ap is_read q in let z : ⊥ = cc in z

pub unwritten : (e x : Entry) → x ≡ e → is_write e ≡ false → is_write x ≡ true → ⊥
unwritten e x q n r = let s : is_write x ≡ is_write e = ap is_write q in let z : ⊥ = cc in z

by-chosen : (val : Entry → ℕ) (core place : ℕ) (a : Action) (regs vs : List ℕ) (x : Entry)
    → IsIn (entries_by core place a regs (slice_index (read_by val core place a ++ vs) 0)) x → is_read x ≡ true → x.value ≡ val (bare x)
by-chosen val core place (Store loc operand) regs vs x i r =
    absurd (unread (entry core place W loc (value_of regs operand)) x (only (entry core place W loc (value_of regs operand)) x i) refl r)
by-chosen val core place (Load reg loc) regs vs x i r =
    let e : Entry = entry core place R loc (val (entry core place R loc 0)) in
    as-chosen val (entry core place R loc (val (entry core place R loc 0))) x (only (entry core place R loc (val (entry core place R loc 0))) x i) refl
by-chosen val core place (Move change) regs vs x i r = absurd (in-none x i)
by-chosen val core place Fence regs vs x i r = absurd (unread _ x (only _ x i) refl r)
by-chosen val core place (Lock loc reg update) regs vs x i r =
    elim (in-case first (second ∷ []) x i) [ inl q ↦ as-chosen val first x q refl | inr j ↦ absurd (unread second x (only second x j) refl r) ]
  where
    word : ℕ
    word = val (entry core place LR loc 0)

    first : Entry
    first = entry core place LR loc word

    second : Entry
    second = entry core place LW loc (updated update regs word)

program-chosen : (val : Entry → ℕ) (core place : ℕ) (p : List Instr) (regs : List ℕ) (x : Entry)
    → IsIn (entries_of core place p regs (values_by val core place p)) x → is_read x ≡ true → x.value ≡ val (bare x)
program-chosen val core place [] regs x i r = absurd (in-none x i)
program-chosen val core place (s ∷ p) regs x i r = elim (in-append (entries_by core place (action_of s) regs (slice_index values 0)) _ x i) [
  | inl j ↦ by-chosen val core place (action_of s) regs (values_by val core (place + 1) p) x j r
  | inr j ↦
      program-chosen val core (place + 1) p (registers_by (action_of s) regs (slice_index values 0)) x
      (subst (λ vs. IsIn (entries_of core (place + 1) p (registers_by (action_of s) regs (slice_index values 0)) vs) x)
      (after-read val core place (action_of s) (values_by val core (place + 1) p)) j) r
]
  where
    values : List ℕ
    values = read_by val core place (action_of s) ++ values_by val core (place + 1) p

    later : List Entry
    later = entries_of core (place + 1) p (registers_by (action_of s) regs (slice_index values 0)) (values_after (action_of s) values)

reads-at : (val : Entry → ℕ) (core : ℕ) (ps : List (List Instr)) (j : ℕ) (p : List Instr) → slice_get ps j ≡ Some p
    → slice_index_or (reads_by val core ps) j [] ≡ values_by val (core + j) 0 p
reads-at val core [] j p e = let z : ⊥ = cc in absurd z
reads-at val core (q ∷ ps) zero p e =
    let same : q ≡ p = cc in
    let z : core ≡ core + 0 = omega arith in
    ap (λ x. values_by val core 0 x) same ∙ ap (λ k. values_by val k 0 p) z
reads-at val core (q ∷ ps) (suc j) p e =
    let z : (core + 1) + j ≡ core + suc j = omega arith in
    reads-at val (core + 1) ps j p e ∙ ap (λ k. values_by val k 0 p) z

all-chosen : (val : Entry → ℕ) (core : ℕ) (ps : List (List Instr)) (registers reads : List (List ℕ))
    → ((j : ℕ) (p : List Instr) → slice_get ps j ≡ Some p → slice_index_or reads (core + j) [] ≡ values_by val (core + j) 0 p)
    → (x : Entry) → IsIn (events_from core ps registers reads) x → is_read x ≡ true → x.value ≡ val (bare x)
all-chosen val core [] registers reads h x i r = absurd (in-none x i)
all-chosen val core (p ∷ ps) registers reads h x i r =
    go (in-append (entries_of core 0 p (slice_index_or registers core []) (slice_index_or reads core [])) _ x i)
    (λ j. all-chosen val (core + 1) ps registers reads
    (λ j q e. subst (λ k. slice_index_or reads k [] ≡ values_by val k 0 q) (let z : core + suc j ≡ (core + 1) + j = omega arith in z)
    (h (suc j) q e)) x j r)
  where
    here : slice_index_or reads core [] ≡ values_by val core 0 p
    here = subst (λ k. slice_index_or reads k [] ≡ values_by val k 0 p) (let z : core + 0 ≡ core = omega arith in z) (h 0 p refl)

    go : IsIn (entries_of core 0 p (slice_index_or registers core []) (slice_index_or reads core [])) x
        ⊎ IsIn (events_from (core + 1) ps registers reads) x
        → (IsIn (events_from (core + 1) ps registers reads) x → x.value ≡ val (bare x)) → x.value ≡ val (bare x)
    go (inl j) more =
        program-chosen val core 0 p (slice_index_or registers core []) x
        (subst (λ vs. IsIn (entries_of core 0 p (slice_index_or registers core []) vs) x) here j) r
    go (inr j) more = more j

-- what the reads of each core return
abbrev pub reads_given : Litmus → (Entry → Option ℕ) → List (List ℕ)
reads_given t given = reads_by (chosen given) 0 t.programs

abbrev pub events_given : Litmus → (Entry → Option ℕ) → List Entry
events_given t given = events_from 0 t.programs t.registers (reads_given t given)

pub returns-chosen : (t : Litmus) (given : Entry → Option ℕ) (x : Entry) → IsIn (events_given t given) x → is_read x ≡ true
    → x.value ≡ chosen given (bare x)
returns-chosen t given x i r =
    all-chosen (chosen given) 0 t.programs t.registers (reads_given t given)
    (λ j p e. subst (λ k. slice_index_or (reads_given t given) k [] ≡ values_by (chosen given) (0 + j) 0 p)
    (let z : j ≡ 0 + j = omega arith in z) (reads-at (chosen given) 0 t.programs j p e)) x i r

given-right : (t : Litmus) (given : Entry → Option ℕ) → Given given (events_given t given)
given-right t given x i r = go (given (bare x)) (returns-chosen t given x i r)
  where
    go : (o : Option ℕ) → x.value ≡ or_zero o → Tells o x.value
    go None e = tt
    go (Some v) e = sym e

-- ---- each event is there once

pub same-place : (t : Litmus) (reads : List (List ℕ)) (x y : Entry) → IsIn (events_from 0 t.programs t.registers reads) x
    → IsIn (events_from 0 t.programs t.registers reads) y → x.core.0 ≡ y.core.0 → x.place ≡ y.place → part_of x.kind ≡ part_of y.kind → x ≡ y
same-place t reads x y i j a b d = same-events-from 0 t.programs t.registers reads x y i j a b d

pub one-event : (t : Litmus) (reads : List (List ℕ)) (x y : Entry) → IsIn (events_from 0 t.programs t.registers reads) x
    → IsIn (events_from 0 t.programs t.registers reads) y → bare x ≡ bare y → x ≡ y
one-event t reads x y i j h =
    same-place t reads x y i j (ap (λ (z : Entry). z.core.0) h) (ap (λ (z : Entry). z.place) h) (ap (λ (z : Entry). part_of z.kind) h)

-- known writes have one value
one-write : (t : Litmus) (given : Entry → Option ℕ) (x y : Entry) → IsIn (writes_from given 0 t.programs t.registers) x
    → IsIn (writes_from given 0 t.programs t.registers) y → bare x ≡ bare y → x ≡ y
one-write t given x y i j h =
    one-event t (reads_given t given) x y
    (all-writes-in given 0 t.programs t.registers (reads_given t given) (given-right t given) x i)
    (all-writes-in given 0 t.programs t.registers (reads_given t given) (given-right t given) y j) h

value-in : (ws : List Entry) (w y : Entry) → bare w ≡ bare y → ((x : Entry) → IsIn ws x → bare x ≡ bare y → x ≡ y) → IsIn ws y
    → value_among ws w ≡ Some y.value
value-in [] w y h one i = absurd (in-none y i)
value-in (x ∷ xs) w y h one i =
    go (same_event x w) refl (in-case x xs y i) (λ j. value-in xs w y h (λ z k. one z (in-later x xs z k)) j)
  where
    go : (b : Bool) → same_event x w ≡ b → (y ≡ x) ⊎ IsIn xs y → (IsIn xs y → value_among xs w ≡ Some y.value)
        → (if b then Some x.value else value_among xs w) ≡ Some y.value
    go true q k later =
        ap (λ (z : Entry). Some z.value) (one x (in-first x xs x refl) (same-bare x w q ∙ h))
    go false q (inl e) later =
        let same : same_event x w ≡ true = bare-same x w (ap bare (sym e) ∙ sym h) in
        let z : ⊥ = cc in absurd z
    go false q (inr j) later = later j

pub known-value : (t : Litmus) (given : Entry → Option ℕ) (w y : Entry) → bare w ≡ bare y → IsIn (writes_from given 0 t.programs t.registers) y
    → value_among (writes_from given 0 t.programs t.registers) w ≡ Some y.value
known-value t given w y h i =
    value-in (writes_from given 0 t.programs t.registers) w y h (λ x j e. one-write t given x y j i e) i
