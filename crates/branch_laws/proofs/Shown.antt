-- The program of a path with keepings makes the entries of the tree with notes, and its final states show what it read.
use Rattle.std.proofs.Common.{◌≡◌, ◌≢◌, ℕ, ◌+◌, zero, suc, List, [], ◌∷◌, ◌++◌, ◌<◌, length, slice_index, drop, arith, ap, sym, ◌∙◌, refl}
use Rattle.std.proofs.Common.{subst, get_or-set_same, get_or-set_other, length-set}
use Rattle.tso_terms.specs.Registers.{index_of}
use Rattle.tso_terms.specs.Thread.{entry, fence, entries_of, registers_after, with_value, value_in}
use Rattle.tso_terms.specs.ProgramEntries.{read_value, read_values}
use Rattle.basic_laws.specs.Types.{Entry, Instr, Loc, Reg, R, W, LR, LW, Eax, Ebx, Ecx, Edx, Esi, Edi, Load, StoreImm, SetImm, Fence}
use Rattle.branch_laws.specs.Trees.{Change, Tree, Done, Cut, Reads, Stores, Fences, Locks, written, operand, locking, path, entries_along, outputs_along}
use Rattle.branch_laws.specs.Shown.{Keeping, InRegister, InLocation, Nowhere, register_for, note_of, first_keeping, shown_path, note}
use Rattle.branch_laws.specs.Shown.{tree_with_notes, DecidesNothing, TakesOneNumber, NoneInto, StaysToTheEnd, CanShow, IsSameIfFound}
use Rattle.branch_laws.specs.Shown.{AreSameIfFound}
use Rattle.branch_laws.proofs.Locking.{left-by-operand, locking-entries, locking-reads, locking-registers}

index-small : (r : Reg) → index_of r < 6
index-small Eax = omega arith
index-small Ebx = omega arith
index-small Ecx = omega arith
index-small Edx = omega arith
index-small Esi = omega arith
index-small Edi = omega arith

abbrev register_at : ℕ → Reg
register_at zero = Eax
register_at (suc zero) = Ebx
register_at (suc (suc zero)) = Ecx
register_at (suc (suc (suc zero))) = Edx
register_at (suc (suc (suc (suc zero)))) = Esi
register_at _ = Edi

at-index : (r : Reg) → register_at (index_of r) ≡ r
at-index Eax = refl
at-index Ebx = refl
at-index Ecx = refl
at-index Edx = refl
at-index Esi = refl
at-index Edi = refl

pub held : (regs : List ℕ) (r : Reg) (u : ℕ) → length regs ≡ 6 → value_in (with_value regs r u) r ≡ u
held regs r u l = get_or-set_same regs (index_of r) u 0 (let z = index-small r in omega arith)

pub six : (regs : List ℕ) (r : Reg) (u : ℕ) → length regs ≡ 6 → length (with_value regs r u) ≡ 6
six regs r u l = length-set regs (index_of r) u ∙ l

unheld : (regs : List ℕ) (r s : Reg) (u : ℕ) → r ≢ s → value_in (with_value regs r u) s ≡ value_in regs s
unheld regs r s u n = get_or-set_other regs (index_of r) (index_of s) u 0 (λ q. n (sym (at-index r) ∙ ap (λ z. register_at z) (sym q) ∙ at-index s))

-- what the programs read

note-reads : (c p : ℕ) (k : Keeping) (v : ℕ) (program : List Instr) (sub : Tree) (values : List ℕ) (order : List Entry)
    → ((q : ℕ) → read_values c q program order ≡ read_values c q (path sub values) order)
    → read_values c p (note_of k ++ program) order ≡ read_values c p (path (note k v sub) values) order
note-reads c p (InRegister reg) v program sub values order f = f p
note-reads c p (InLocation reg own) v program sub values order f = f (p + 1)
note-reads c p (Nowhere reg) v program sub values order f = f p

pub same-reads : (c p : ℕ) (tree : Tree) (values : List ℕ) (keeps : List Keeping) (order : List Entry)
    → read_values c p (shown_path tree values keeps) order ≡ read_values c p (path (tree_with_notes tree keeps) values) order
same-reads c p (Done o) values keeps order = refl
same-reads c p Cut values keeps order = refl
same-reads c p (Reads loc next) values keeps order =
    let v : ℕ = slice_index values 0 in
    ap (λ z. read_value c p R order ∷ z)
    (note-reads c (p + 1) (first_keeping keeps) v (shown_path (next v) (drop 1 values) (drop 1 keeps))
    (tree_with_notes (next v) (drop 1 keeps)) (drop 1 values) order
    (λ q. same-reads c q (next v) (drop 1 values) (drop 1 keeps) order))
same-reads c p (Stores loc value next) values keeps order = same-reads c (p + 1) next values keeps order
same-reads c p (Fences next) values keeps order = same-reads c (p + 1) next values keeps order
same-reads c p (Locks loc change next) values keeps order =
    let v : ℕ = slice_index values 0 in let k : Keeping = first_keeping keeps in let u : ℕ = operand change v in
    locking-reads c p change loc (register_for k) (note_of k ++ shown_path (next v) (drop 1 values) (drop 1 keeps)) u order
    ∙ ap (λ z. read_value c (p + 1) LR order ∷ z)
    (note-reads c ((p + 1) + 1) k v (shown_path (next v) (drop 1 values) (drop 1 keeps))
    (tree_with_notes (next v) (drop 1 keeps)) (drop 1 values) order
    (λ q. same-reads c q (next v) (drop 1 values) (drop 1 keeps) order))
    ∙ sym (locking-reads c p change loc Ebx (path (note k v (tree_with_notes (next v) (drop 1 keeps))) (drop 1 values)) u order)

-- what they make

note-entries : (c p : ℕ) (k : Keeping) (v : ℕ) (program : List Instr) (sub : Tree) (regs rv : List ℕ) → value_in regs (register_for k) ≡ v
    → ((q : ℕ) → entries_of c q program regs rv ≡ entries_along c q sub rv)
    → entries_of c p (note_of k ++ program) regs rv ≡ entries_along c p (note k v sub) rv
note-entries c p (InRegister reg) v program sub regs rv h f = f p
note-entries c p (InLocation reg own) v program sub regs rv h f =
    ap (λ z. entry c p W own z ∷ entries_of c (p + 1) program regs rv) h ∙ ap (λ z. entry c p W own v ∷ z) (f (p + 1))
note-entries c p (Nowhere reg) v program sub regs rv h f = f p

pub same-entries : (c p : ℕ) (tree : Tree) (rv : List ℕ) (keeps : List Keeping) (regs : List ℕ) → length regs ≡ 6
    → entries_of c p (shown_path tree rv keeps) regs rv ≡ entries_along c p (tree_with_notes tree keeps) rv
same-entries c p (Done o) rv keeps regs l = refl
same-entries c p Cut rv keeps regs l = refl
same-entries c p (Reads loc next) rv keeps regs l =
    let v : ℕ = slice_index rv 0 in let k : Keeping = first_keeping keeps in let now : List ℕ = with_value regs (register_for k) v in
    ap (λ z. entry c p R loc v ∷ z)
    (note-entries c (p + 1) k v (shown_path (next v) (drop 1 rv) (drop 1 keeps))
    (tree_with_notes (next v) (drop 1 keeps)) now (drop 1 rv) (held regs (register_for k) v l)
    (λ q. same-entries c q (next v) (drop 1 rv) (drop 1 keeps) now (six regs (register_for k) v l)))
same-entries c p (Stores loc value next) rv keeps regs l = ap (λ z. entry c p W loc value ∷ z) (same-entries c (p + 1) next rv keeps regs l)
same-entries c p (Fences next) rv keeps regs l = ap (λ z. fence c p ∷ z) (same-entries c (p + 1) next rv keeps regs l)
same-entries c p (Locks loc change next) rv keeps regs l =
    let v : ℕ = slice_index rv 0 in let k : Keeping = first_keeping keeps in let r : Reg = register_for k in let u : ℕ = operand change v in
    let first : List ℕ = with_value regs r u in let now : List ℕ = with_value first r v in
    let program : List Instr = shown_path (next v) (drop 1 rv) (drop 1 keeps) in
    locking-entries c p change loc r (note_of k ++ program) regs rv u (held regs r u l)
    ∙ ap (λ z.
    entry c (p + 1) LR loc v
    ∷ (entry c (p + 1) LW loc z ∷ entries_of c ((p + 1) + 1) (note_of k ++ program) now (drop 1 rv)))
    (left-by-operand change v)
    ∙ ap (λ z. entry c (p + 1) LR loc v ∷ (entry c (p + 1) LW loc (written change v) ∷ z))
    (note-entries c ((p + 1) + 1) k v program (tree_with_notes (next v) (drop 1 keeps)) now (drop 1 rv) (held first r v (six regs r u l))
    (λ q. same-entries c q (next v) (drop 1 rv) (drop 1 keeps) now (six first r v (six regs r u l))))

-- values that are the same where they are found choose the same program

next-same : (k : Keeping) (next : ℕ → Tree) (v w : ℕ) → DecidesNothing k next → IsSameIfFound k v w → next v ≡ next w
next-same (InRegister reg) next v w d s = ap next (sym s)
next-same (InLocation reg own) next v w d s = ap next (sym s)
next-same (Nowhere reg) next v w d s = d v w

number-same : (k : Keeping) (change : Change) (v w : ℕ) → TakesOneNumber k change → IsSameIfFound k v w → operand change v ≡ operand change w
number-same (InRegister reg) change v w d s = ap (λ z. operand change z) (sym s)
number-same (InLocation reg own) change v w d s = ap (λ z. operand change z) (sym s)
number-same (Nowhere reg) change v w d s = d v w

pub record Same (tree : Tree) (values rv : List ℕ) (keeps : List Keeping) : Type 0 where
  pub program : shown_path tree values keeps ≡ shown_path tree rv keeps
  pub shows : CanShow tree rv keeps
  pub outputs : outputs_along tree values ≡ outputs_along tree rv

pub same-if-found : (tree : Tree) (values rv : List ℕ) (keeps : List Keeping)
    → CanShow tree values keeps
    → AreSameIfFound keeps values rv
    → Same tree values rv keeps
same-if-found (Done o) [] [] [] s f = record { program = refl; shows = tt; outputs = refl }
same-if-found (Done o) [] (w ∷ rv) [] s f = absurd f
same-if-found (Done o) [] rv (k ∷ keeps) s f = absurd s
same-if-found (Done o) (v ∷ values) rv keeps s f = absurd s
same-if-found Cut values rv keeps s f = absurd s
same-if-found (Reads loc next) [] rv keeps s f = absurd s
same-if-found (Reads loc next) (v ∷ values) rv [] s f = absurd s
same-if-found (Reads loc next) (v ∷ values) [] (k ∷ keeps) s f = absurd f
same-if-found (Reads loc next) (v ∷ values) (w ∷ rv) (k ∷ keeps) s f =
    let r = same-if-found (next v) values rv keeps s.2 f.1 in
    let e : next v ≡ next w = next-same k next v w s.0 f.0 in
    record {
      program = r_of (register_for k) loc (note_of k) (r.program ∙ ap (λ z. shown_path z rv keeps) e);
      shows = (s.0, s.1, subst (λ z. CanShow z rv keeps) e r.shows);
      outputs = r.outputs ∙ ap (λ z. outputs_along z rv) e;
    }
  where
    r_of : (reg : Reg) (loc : Loc) (pre : List Instr) → {p q : List Instr} → p ≡ q → Load reg loc ∷ (pre ++ p) ≡ Load reg loc ∷ (pre ++ q)
    r_of reg loc pre e = ap (λ z. Load reg loc ∷ (pre ++ z)) e
same-if-found (Stores loc value next) values rv keeps s f =
    let r = same-if-found next values rv keeps s f in record { program = ap (λ z. StoreImm loc value ∷ z) r.program; shows = r.shows; outputs = r.outputs }
same-if-found (Fences next) values rv keeps s f =
    let r = same-if-found next values rv keeps s f in record { program = ap (λ z. Fence ∷ z) r.program; shows = r.shows; outputs = r.outputs }
same-if-found (Locks loc change next) [] rv keeps s f = absurd s
same-if-found (Locks loc change next) (v ∷ values) rv [] s f = absurd s
same-if-found (Locks loc change next) (v ∷ values) [] (k ∷ keeps) s f = absurd f
same-if-found (Locks loc change next) (v ∷ values) (w ∷ rv) (k ∷ keeps) s f =
    let r = same-if-found (next v) values rv keeps s.3 f.1 in
    let e : next v ≡ next w = next-same k next v w s.0 f.0 in
    record {
      program =
          ap (λ z.
          SetImm (register_for k) z
          ∷ (locking change loc (register_for k) ∷ (note_of k ++ shown_path (next v) values keeps)))
          (number-same k change v w s.1 f.0)
          ∙ ap (λ z.
          SetImm (register_for k) (operand change w) ∷ (locking change loc (register_for k) ∷ (note_of k ++ z)))
          (r.program ∙ ap (λ z. shown_path z rv keeps) e);
      shows = (s.0, s.1, s.2, subst (λ z. CanShow z rv keeps) e r.shows);
      outputs = r.outputs ∙ ap (λ z. outputs_along z rv) e;
    }

-- what registers hold at the end

note-registers : (k : Keeping) (program : List Instr) (regs rv : List ℕ) → registers_after (note_of k ++ program) regs rv ≡ registers_after program regs rv
note-registers (InRegister reg) program regs rv = refl
note-registers (InLocation reg own) program regs rv = refl
note-registers (Nowhere reg) program regs rv = refl

stays-held : (tree : Tree) (values : List ℕ) (keeps : List Keeping) (regs rv : List ℕ) (s : Reg) → CanShow tree values keeps → NoneInto s keeps
    → value_in (registers_after (shown_path tree values keeps) regs rv) s ≡ value_in regs s
stays-held (Done o) [] [] regs rv s c n = refl
stays-held (Done o) [] (k ∷ keeps) regs rv s c n = absurd c
stays-held (Done o) (v ∷ values) keeps regs rv s c n = absurd c
stays-held Cut values keeps regs rv s c n = absurd c
stays-held (Reads loc next) [] keeps regs rv s c n = absurd c
stays-held (Reads loc next) (v ∷ values) [] regs rv s c n = absurd c
stays-held (Reads loc next) (v ∷ values) (k ∷ keeps) regs rv s c n =
    let now : List ℕ = with_value regs (register_for k) (slice_index rv 0) in
    ap (λ z. value_in z s) (note-registers k (shown_path (next v) values keeps) now (drop 1 rv))
    ∙ stays-held (next v) values keeps now (drop 1 rv) s c.2 n.1 ∙ unheld regs (register_for k) s (slice_index rv 0) n.0
stays-held (Stores loc value next) values keeps regs rv s c n = stays-held next values keeps regs rv s c n
stays-held (Fences next) values keeps regs rv s c n = stays-held next values keeps regs rv s c n
stays-held (Locks loc change next) [] keeps regs rv s c n = absurd c
stays-held (Locks loc change next) (v ∷ values) [] regs rv s c n = absurd c
stays-held (Locks loc change next) (v ∷ values) (k ∷ keeps) regs rv s c n =
    let r : Reg = register_for k in let u : ℕ = operand change v in
    let first : List ℕ = with_value regs r u in let now : List ℕ = with_value first r (slice_index rv 0) in
    ap (λ z. value_in z s) (locking-registers change loc r (note_of k ++ shown_path (next v) values keeps) regs rv u)
    ∙ ap (λ z. value_in z s) (note-registers k (shown_path (next v) values keeps) now (drop 1 rv))
    ∙ stays-held (next v) values keeps now (drop 1 rv) s c.3 n.1 ∙ unheld first r s (slice_index rv 0) n.0 ∙ unheld regs r s u n.0

abbrev IsHeld : Keeping → ℕ → List ℕ → Type 0
IsHeld (InRegister reg) v registers = value_in registers reg ≡ v
IsHeld (InLocation reg own) v registers = Unit {0}
IsHeld (Nowhere reg) v registers = Unit {0}

abbrev pub AreHeld : List Keeping → List ℕ → List ℕ → Type 0
AreHeld [] rv registers = Unit {0}
AreHeld (k ∷ keeps) rv registers = IsHeld k (slice_index rv 0) registers × AreHeld keeps (drop 1 rv) registers

abbrev IsKept : Keeping → Type 0
IsKept (InRegister reg) = Unit {0}
IsKept (InLocation reg own) = ⊥
IsKept (Nowhere reg) = ⊥

left-kept : (k : Keeping) (keeps : List Keeping) → IsKept k → StaysToTheEnd k keeps → NoneInto (register_for k) keeps
left-kept (InRegister reg) keeps i h = h
left-kept (InLocation reg own) keeps i h = absurd i
left-kept (Nowhere reg) keeps i h = absurd i

held-first : (k : Keeping) (v : ℕ) (registers : List ℕ) → (IsKept k → value_in registers (register_for k) ≡ v) → IsHeld k v registers
held-first (InRegister reg) v registers f = f tt
held-first (InLocation reg own) v registers f = tt
held-first (Nowhere reg) v registers f = tt

pub are-held : (tree : Tree) (values : List ℕ) (keeps : List Keeping) (regs rv : List ℕ) → CanShow tree values keeps → length regs ≡ 6
    → AreHeld keeps rv (registers_after (shown_path tree values keeps) regs rv)
are-held (Done o) [] [] regs rv c l = tt
are-held (Done o) [] (k ∷ keeps) regs rv c l = absurd c
are-held (Done o) (v ∷ values) keeps regs rv c l = absurd c
are-held Cut values keeps regs rv c l = absurd c
are-held (Reads loc next) [] keeps regs rv c l = absurd c
are-held (Reads loc next) (v ∷ values) [] regs rv c l = absurd c
are-held (Reads loc next) (v ∷ values) (k ∷ keeps) regs rv c l =
    let w : ℕ = slice_index rv 0 in let now : List ℕ = with_value regs (register_for k) w in
    let e = note-registers k (shown_path (next v) values keeps) now (drop 1 rv) in
    subst (λ z. IsHeld k w z × AreHeld keeps (drop 1 rv) z) (sym e) (
      held-first k w _ (λ i. stays-held (next v) values keeps now (drop 1 rv) (register_for k) c.2 (left-kept k keeps i c.1) ∙ held regs (register_for k) w l),
      are-held (next v) values keeps now (drop 1 rv) c.2 (six regs (register_for k) w l),
    )
are-held (Stores loc value next) values keeps regs rv c l = are-held next values keeps regs rv c l
are-held (Fences next) values keeps regs rv c l = are-held next values keeps regs rv c l
are-held (Locks loc change next) [] keeps regs rv c l = absurd c
are-held (Locks loc change next) (v ∷ values) [] regs rv c l = absurd c
are-held (Locks loc change next) (v ∷ values) (k ∷ keeps) regs rv c l =
    let w : ℕ = slice_index rv 0 in let r : Reg = register_for k in let u : ℕ = operand change v in
    let first : List ℕ = with_value regs r u in let now : List ℕ = with_value first r w in
    let e =
    locking-registers change loc r (note_of k ++ shown_path (next v) values keeps) regs rv u
    ∙ note-registers k (shown_path (next v) values keeps) now (drop 1 rv) in
    subst (λ z. IsHeld k w z × AreHeld keeps (drop 1 rv) z) (sym e) (
      held-first k w _ (λ i. stays-held (next v) values keeps now (drop 1 rv) r c.3 (left-kept k keeps i c.2) ∙ held first r w (six regs r u l)),
      are-held (next v) values keeps now (drop 1 rv) c.3 (six first r w (six regs r u l)),
    )
