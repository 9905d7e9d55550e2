-- Where reads are given, registers are known, and writes: a write whose earlier reads are given is among those that are known.
use Rattle.std.specs.Prelude.{◌==◌, if◌then◌else◌, Bool, false}
use Rattle.tso_terms.specs.Thread.{with_taken, changed, combined}
use Rattle.refutation_laws.specs.Values.{known_changed, known_combined, known_negated, known_exchanged, known_taken}
use Rattle.basic_laws.specs.Types.{Operator, Replace, Negate, CompareExchange, Change, Keep, Set, Swap}
use Rattle.tso_terms.specs.declared.action.Update.TheVariants.{Combine}
use Rattle.refutation_laws.proofs.Vocabulary.{◌≡◌, ◌<◌, ◌≤◌, ℕ, zero, suc, ◌+◌, true, List, [], ◌∷◌, length, Option, Some, None}
use Rattle.refutation_laws.proofs.Vocabulary.{slice_index, slice_index_or, arith, refl, sym, ap, ◌∙◌, inl, inr, subst, map, slice_set}
use Rattle.refutation_laws.proofs.Vocabulary.{Litmus, index_of, action_of, entry, value_in, value_of, updated, entries_by, registers_by}
use Rattle.refutation_laws.proofs.Vocabulary.{values_after, entries_of, registers_after, is_before, is_read, is_write, Reg, Eax, Ebx, Ecx}
use Rattle.refutation_laws.proofs.Vocabulary.{Edx, Esi, Edi, Loc, Instr, Operand, Number, Held, Update, Action, Store, Load, Move, Fence}
use Rattle.refutation_laws.proofs.Vocabulary.{Lock, Entry, Kind, R, W, LR, LW, rank, part-small, IsIn, events_from, in-case, in-none}
use Rattle.refutation_laws.proofs.Vocabulary.{in-first, in-append, in-left, in-right, rank-before, only, here-by, from-place, bare}
use Rattle.refutation_laws.proofs.Vocabulary.{known_in, known_operand, known_update, write_with, word_given, writes_by, registers_left_by}
use Rattle.refutation_laws.proofs.Vocabulary.{writes_of, left_of, known_first_registers, writes_from, length-set}
use Rattle.refutation_laws.proofs.Building.{unwritten}

-- ---- registers that are all known

abbrev pub all_of : List ℕ → List (Option ℕ)
all_of ns = map (λ v. Some v) ns

at-all : (ns : List ℕ) (i : ℕ) → i < length ns → slice_index_or (all_of ns) i None ≡ Some (slice_index ns i)
at-all [] i l = absurd (omega arith)
at-all (n ∷ ns) zero l = refl
at-all (n ∷ ns) (suc i) l = at-all ns i (omega (arith, l))

set-all : (ns : List ℕ) (i v : ℕ) → slice_set (all_of ns) i (Some v) ≡ all_of (slice_set ns i v)
set-all [] i v = refl
set-all (n ∷ ns) zero v = refl
set-all (n ∷ ns) (suc i) v = ap (λ os. Some n ∷ os) (set-all ns i v)

small : (reg : Reg) → index_of reg < 6
small Eax = omega arith
small Ebx = omega arith
small Ecx = omega arith
small Edx = omega arith
small Esi = omega arith
small Edi = omega arith

pub in-all : (ns : List ℕ) (reg : Reg) → 6 ≤ length ns → known_in (all_of ns) reg ≡ Some (value_in ns reg)
in-all ns reg six = at-all ns (index_of reg) (let s : index_of reg < 6 = small reg in omega (arith, s, six))

operand-all : (ns : List ℕ) (operand : Operand) → 6 ≤ length ns → known_operand (all_of ns) operand ≡ Some (value_of ns operand)
operand-all ns (Number value) six = refl
operand-all ns (Held reg) six = in-all ns reg six

update-all : (u : Update) (ns : List ℕ) (o : Option ℕ) (word : ℕ) → 6 ≤ length ns → o ≡ Some word → known_update u (all_of ns) o ≡ Some (updated u ns word)
update-all (Replace operand) ns o word six a = operand-all ns operand six
update-all (Combine operator operand) ns o word six a =
    ap (λ w. known_combined operator w (known_operand (all_of ns) operand)) a ∙ ap (λ v. known_combined operator (Some word) v) (operand-all ns operand six)
update-all Negate ns o word six a = ap known_negated a
update-all (CompareExchange reg) ns o word six a =
    ap (λ w. known_exchanged w (known_in (all_of ns) Eax) (known_in (all_of ns) reg)) a
    ∙ ap (λ e. known_exchanged (Some word) e (known_in (all_of ns) reg)) (in-all ns Eax six)
    ∙ ap (λ v. known_exchanged (Some word) (Some (value_in ns Eax)) v) (in-all ns reg six) ∙ go (word == value_in ns Eax)
  where
    go : (b : Bool) → (if b then Some (value_in ns reg) else Some word) ≡ Some (if b then value_in ns reg else word)
    go true = refl
    go false = refl

taken-all : (ns : List ℕ) (target : Option Reg) (v : ℕ) → known_taken (all_of ns) target (Some v) ≡ all_of (with_taken ns target v)
taken-all ns None v = refl
taken-all ns (Some reg) v = set-all ns (index_of reg) v

change-all : (change : Change) (ns : List ℕ) → 6 ≤ length ns → known_changed change (all_of ns) ≡ all_of (changed change ns)
change-all Keep ns six = refl
change-all (Set reg update) ns six =
    ap (λ o. slice_set (all_of ns) (index_of reg) o) (update-all update ns (known_in (all_of ns) reg) (value_in ns reg) six (in-all ns reg six))
    ∙ set-all ns (index_of reg) (updated update ns (value_in ns reg))
change-all (Swap reg other) ns six =
    ap (λ o. slice_set (slice_set (all_of ns) (index_of reg) o) (index_of other) (known_in (all_of ns) reg)) (in-all ns other six)
    ∙ (ap (λ o. slice_set (slice_set (all_of ns) (index_of reg) (Some (value_in ns other))) (index_of other) o) (in-all ns reg six)
    ∙ (ap (λ os. slice_set os (index_of other) (Some (value_in ns reg))) (set-all ns (index_of reg) (value_in ns other))
    ∙ set-all (slice_set ns (index_of reg) (value_in ns other)) (index_of other) (value_in ns reg)))

-- each of these reads is given
abbrev pub AllGiven : (Entry → Option ℕ) → List Entry → Type 0
AllGiven given es = (x : Entry) → IsIn es x → is_read x ≡ true → given (bare x) ≡ Some x.value

left-all : (given : Entry → Option ℕ) (core place : ℕ) (a : Action) (ns : List ℕ) (v : ℕ) → 6 ≤ length ns
    → AllGiven given (entries_by core place a ns v) → registers_left_by a (all_of ns) (word_given given core place a) ≡ all_of (registers_by a ns v)
left-all given core place (Store loc operand) ns v six g = refl
left-all given core place (Load reg loc) ns v six g =
    ap (λ o. slice_set (all_of ns) (index_of reg) o) (g (entry core place R loc v) (0, refl) refl) ∙ set-all ns (index_of reg) v
left-all given core place (Move change) ns v six g = change-all change ns six
left-all given core place Fence ns v six g = refl
left-all given core place (Lock loc reg update) ns v six g =
    ap (λ o. known_taken (all_of ns) reg o) (g (entry core place LR loc v) (0, refl) refl) ∙ taken-all ns reg v

six-after : (a : Action) (ns : List ℕ) (v : ℕ) → length (registers_by a ns v) ≡ length ns
six-after (Store loc operand) ns v = refl
six-after (Load reg loc) ns v = length-set ns (index_of reg) v
six-after (Move Keep) ns v = refl
six-after (Move (Set reg update)) ns v = length-set ns (index_of reg) (updated update ns (value_in ns reg))
six-after (Move (Swap reg other)) ns v =
    length-set (slice_set ns (index_of reg) (value_in ns other)) (index_of other) (value_in ns reg) ∙ length-set ns (index_of reg) (value_in ns other)
six-after Fence ns v = refl
six-after (Lock loc None update) ns v = refl
six-after (Lock loc (Some reg) update) ns v = length-set ns (index_of reg) v

pub length-after : (p : List Instr) (ns values : List ℕ) → length (registers_after p ns values) ≡ length ns
length-after [] ns values = refl
length-after (i ∷ p) ns values =
    length-after p (registers_by (action_of i) ns (slice_index values 0)) (values_after (action_of i) values)
    ∙ six-after (action_of i) ns (slice_index values 0)

pub left-all-of : (given : Entry → Option ℕ) (core place : ℕ) (p : List Instr) (ns values : List ℕ) → 6 ≤ length ns
    → AllGiven given (entries_of core place p ns values) → left_of given core place p (all_of ns) ≡ all_of (registers_after p ns values)
left-all-of given core place [] ns values six g = refl
left-all-of given core place (i ∷ p) ns values six g =
    ap (λ os. left_of given core (place + 1) p os)
    (left-all given core place (action_of i) ns (slice_index values 0) six
    (λ x j r. g x (in-left (entries_by core place (action_of i) ns (slice_index values 0)) _ x j) r))
    ∙ left-all-of given core (place + 1) p (registers_by (action_of i) ns (slice_index values 0)) (values_after (action_of i) values)
    (let e = six-after (action_of i) ns (slice_index values 0) in omega (arith, e, six))
    (λ x j r. g x (in-right (entries_by core place (action_of i) ns (slice_index values 0)) _ x j) r)

-- ---- writes that are known

-- each read before y in its program is given
abbrev pub EarlyGiven : (Entry → Option ℕ) → List Entry → Entry → Type 0
EarlyGiven given es y = (x : Entry) → IsIn es x → is_read x ≡ true → is_before x y ≡ true → given (bare x) ≡ Some x.value

written : (core place : ℕ) (kind : Kind) (loc : Loc) (o : Option ℕ) (v : ℕ) (y : Entry) → y ≡ entry core place kind loc v → o ≡ Some v
    → IsIn (write_with core place kind loc o) y
written core place kind loc o v y e q =
    subst (λ p. IsIn (write_with core place kind loc p) y) (sym q) (in-first (entry core place kind loc v) [] y e)

by-known : (given : Entry → Option ℕ) (core place : ℕ) (a : Action) (ns : List ℕ) (v : ℕ) (y : Entry) → 6 ≤ length ns
    → IsIn (entries_by core place a ns v) y → is_write y ≡ true → EarlyGiven given (entries_by core place a ns v) y
    → IsIn (writes_by core place a (all_of ns) (word_given given core place a)) y
by-known given core place (Store loc operand) ns v y six i w g =
    written core place W loc (known_operand (all_of ns) operand) (value_of ns operand) y
    (only (entry core place W loc (value_of ns operand)) y i) (operand-all ns operand six)
by-known given core place (Load reg loc) ns v y six i w g = absurd (unwritten (entry core place R loc v) y (only (entry core place R loc v) y i) refl w)
by-known given core place (Move change) ns v y six i w g = absurd (in-none y i)
by-known given core place Fence ns v y six i w g = absurd (unwritten _ y (only _ y i) refl w)
by-known given core place (Lock loc reg update) ns v y six i w g = elim (in-case first (second ∷ []) y i) [
  | inl q ↦ absurd (unwritten first y q refl w)
  | inr j ↦
      let q : y ≡ second = only second y j in
      let l : rank first < rank second = omega arith in
      let b : is_before first y ≡ true = subst (λ z. is_before first z ≡ true) (sym q) (rank-before first second refl l) in
      written core place LW loc (known_update update (all_of ns) (given (entry core place LR loc 0)))
      (updated update ns v) y q
      (update-all update ns (given (entry core place LR loc 0)) v six (g first (0, refl) refl b))
]
  where
    first : Entry
    first = entry core place LR loc v

    second : Entry
    second = entry core place LW loc (updated update ns v)

earlier-place : (x y : Entry) (place : ℕ) → x.core.0 ≡ y.core.0 → x.place ≡ place → place + 1 ≤ y.place → is_before x y ≡ true
earlier-place x y place c e l =
    let s = part-small x.kind in
    rank-before x y c (omega (arith, e, l, s))

program-known : (given : Entry → Option ℕ) (core place : ℕ) (p : List Instr) (ns values : List ℕ) (y : Entry) → 6 ≤ length ns
    → IsIn (entries_of core place p ns values) y → is_write y ≡ true → EarlyGiven given (entries_of core place p ns values) y
    → IsIn (writes_of given core place p (all_of ns)) y
program-known given core place [] ns values y six i w g = absurd (in-none y i)
program-known given core place (s ∷ p) ns values y six i w g = elim (in-append first rest y i) [
  | inl j ↦
      in-left own _ y
      (by-known given core place (action_of s) ns (slice_index values 0) y six j w (λ x k r b. g x (in-left first rest x k) r b))
  | inr j ↦
      in-right own _ y
      (subst (λ os. IsIn (writes_of given core (place + 1) p os) y)
      (sym (left-all given core place (action_of s) ns (slice_index values 0) six
      (λ x k r. g x (in-left first rest x k) r (before x k j))))
      (program-known given core (place + 1) p (registers_by (action_of s) ns (slice_index values 0)) (values_after (action_of s) values) y
      (let e = six-after (action_of s) ns (slice_index values 0) in omega (arith, e, six)) j w (λ x k r b. g x (in-right first rest x k) r b)))
]
  where
    first : List Entry
    first = entries_by core place (action_of s) ns (slice_index values 0)

    rest : List Entry
    rest = entries_of core (place + 1) p (registers_by (action_of s) ns (slice_index values 0)) (values_after (action_of s) values)

    before : (x : Entry) → IsIn first x → IsIn rest y → is_before x y ≡ true
    before x j k =
        let h = here-by core place (action_of s) ns (slice_index values 0) x j in
        let m = from-place core (place + 1) p (registers_by (action_of s) ns (slice_index values 0)) (values_after (action_of s) values) y k in
        earlier-place x y place (h.0 ∙ sym m.0) h.1 m.1

    own : List Entry
    own = writes_by core place (action_of s) (all_of ns) (word_given given core place (action_of s))

-- each of these cores has its six registers
abbrev pub HaveSix : ℕ → ℕ → List (List ℕ) → Type 0
HaveSix core count registers = (i : ℕ) → i < count → 6 ≤ length (slice_index_or registers (core + i) [])

pub next-six : (core : ℕ) (p : List Instr) (ps : List (List Instr)) (registers : List (List ℕ)) → HaveSix core (length (p ∷ ps)) registers
    → HaveSix (core + 1) (length ps) registers
next-six core p ps registers h i l =
    let z : core + suc i ≡ (core + 1) + i = omega arith in
    subst (λ k. 6 ≤ length (slice_index_or registers k [])) z (h (suc i) (let m : i < length ps = l in omega (arith, m)))

pub first-six : (core : ℕ) (p : List Instr) (ps : List (List Instr)) (registers : List (List ℕ)) → HaveSix core (length (p ∷ ps)) registers
    → 6 ≤ length (slice_index_or registers core [])
first-six core p ps registers h =
    let z : core + 0 ≡ core = omega arith in
    subst (λ k. 6 ≤ length (slice_index_or registers k [])) z (h 0 (omega arith))

all-known : (given : Entry → Option ℕ) (core : ℕ) (ps : List (List Instr)) (registers reads : List (List ℕ)) (y : Entry)
    → HaveSix core (length ps) registers → IsIn (events_from core ps registers reads) y → is_write y ≡ true
    → EarlyGiven given (events_from core ps registers reads) y → IsIn (writes_from given core ps registers) y
all-known given core [] registers reads y six i w g = absurd (in-none y i)
all-known given core (p ∷ ps) registers reads y six i w g = elim (in-append first rest y i) [
  | inl j ↦
      in-left (writes_of given core 0 p (known_first_registers registers core)) _ y
      (program-known given core 0 p (slice_index_or registers core []) (slice_index_or reads core []) y
      (first-six core p ps registers six) j w (λ x k r b. g x (in-left first rest x k) r b))
  | inr j ↦
      in-right (writes_of given core 0 p (known_first_registers registers core)) _ y
      (all-known given (core + 1) ps registers reads y (next-six core p ps registers six) j w (λ x k r b. g x (in-right first rest x k) r b))
]
  where
    first : List Entry
    first = entries_of core 0 p (slice_index_or registers core []) (slice_index_or reads core [])

    rest : List Entry
    rest = events_from (core + 1) ps registers reads

-- a write of these events whose earlier reads are given is known, with its value
pub known-write : (t : Litmus) (given : Entry → Option ℕ) (reads : List (List ℕ)) (y : Entry) → HaveSix 0 (length t.programs) t.registers
    → IsIn (events_from 0 t.programs t.registers reads) y → is_write y ≡ true
    → EarlyGiven given (events_from 0 t.programs t.registers reads) y → IsIn (writes_from given 0 t.programs t.registers) y
known-write t given reads y six i w g = all-known given 0 t.programs t.registers reads y six i w g
