-- What the locations of notes hold at the end: each is written once, with the value that was read.
use Rattle.std.proofs.Common.{◌≡◌, ◌≢◌, ℕ, ◌+◌, List, [], ◌∷◌, ◌++◌, true, false, ◌≤◌, ◌==◌, length, slice_index, drop, arith, ap, sym, ◌∙◌}
use Rattle.std.proofs.Common.{refl, subst, inl, inr}
use Rattle.basic_laws.proofs.Basics.{test-false, test-true}
use Rattle.tso_terms.specs.Thread.{entry, fence, entries_of, with_value, value_in}
use Rattle.tso_terms.specs.ProgramOrder.{writes_to}
use Rattle.basic_laws.specs.Types.{Entry, Instr, Reg, R, W, LR, LW}
use Rattle.branch_laws.specs.Trees.{Tree, Done, Cut, Reads, Stores, Fences, Locks, operand}
use Rattle.branch_laws.specs.Rounds.{StandsAmong}
use Rattle.branch_laws.specs.Shown.{Keeping, InRegister, InLocation, Nowhere, register_for, note_of, shown_path, CanShow, note_at, notes_at}
use Rattle.branch_laws.specs.Shown.{AreApart, UsesFirst}
use Rattle.branch_laws.proofs.Locking.{left_by, locking-entries}
use Rattle.branch_laws.proofs.Among.{among-left, among-right, among-either}
use Rattle.branch_laws.proofs.Shown.{held, six}

abbrev pub WritesNone : ℕ → List Entry → Type 0
WritesNone own es = (e : Entry) → StandsAmong e es → writes_to own e ≡ true → ⊥

-- these entries write a location, and nothing but this value
pub record HasNote (own v : ℕ) (es : List Entry) : Type 0 where
  pub some : (e : Entry) × StandsAmong e es × (writes_to own e ≡ true)
  pub only : (e : Entry) → StandsAmong e es → writes_to own e ≡ true → e.value ≡ v

abbrev pub IsNoted : Keeping → ℕ → List Entry → Type 0
IsNoted (InRegister reg) v es = Unit {0}
IsNoted (InLocation reg own) v es = HasNote own.0 v es
IsNoted (Nowhere reg) v es = Unit {0}

abbrev pub AreNoted : List Keeping → List ℕ → List Entry → Type 0
AreNoted [] rv es = Unit {0}
AreNoted (k ∷ keeps) rv es = IsNoted k (slice_index rv 0) es × AreNoted keeps (drop 1 rv) es

none-first : (own : ℕ) (e : Entry) (es : List Entry) → (writes_to own e ≡ true → ⊥) → WritesNone own es → WritesNone own (e ∷ es)
none-first own e es f g x (inl q) h = f (subst (λ z. writes_to own z ≡ true) q h)
none-first own e es f g x (inr m) h = g x m h

pub none-both : (own : ℕ) (xs ys : List Entry) → WritesNone own xs → WritesNone own ys → WritesNone own (xs ++ ys)
none-both own xs ys f g x m h = elim (among-either x xs ys m) [ inl k ↦ f x k h | inr k ↦ g x k h ]

other-loc : (own loc : ℕ) → loc ≢ own → (loc == own) ≡ true → ⊥
other-loc own loc n h = let z : false ≡ true = sym (test-false loc own n) ∙ h in cc

-- entries in front and behind that don't write it
pub note-behind : (own v : ℕ) (xs es : List Entry) → WritesNone own xs → HasNote own v es → HasNote own v (xs ++ es)
note-behind own v xs es f h = record {
  some = (h.some.0, among-right h.some.0 xs es h.some.1, h.some.2);
  only = λ e m w. elim (among-either e xs es m) [ inl k ↦ absurd (f e k w) | inr k ↦ h.only e k w ];
}

note-before : (own v : ℕ) (es ys : List Entry) → WritesNone own ys → HasNote own v es → HasNote own v (es ++ ys)
note-before own v es ys f h = record {
  some = (h.some.0, among-left h.some.0 es ys h.some.1, h.some.2);
  only = λ e m w. elim (among-either e es ys m) [ inl k ↦ h.only e k w | inr k ↦ absurd (f e k w) ];
}

-- where something holds of each note of the list
pub each-note : (keeps : List Keeping) (rv : List ℕ) (es fs : List Entry)
    → ((own v : ℕ) → StandsAmong own (notes_at keeps) → HasNote own v es → HasNote own v fs)
    → AreNoted keeps rv es → AreNoted keeps rv fs
each-note [] rv es fs f h = tt
each-note (InRegister reg ∷ keeps) rv es fs f h = (tt, each-note keeps (drop 1 rv) es fs f h.1)
each-note (InLocation reg own ∷ keeps) rv es fs f h = (
  f own.0 (slice_index rv 0) (inl refl) h.0,
  each-note keeps (drop 1 rv) es fs (λ o v m k. f o v (inr m) k) h.1,
)
each-note (Nowhere reg ∷ keeps) rv es fs f h = (tt, each-note keeps (drop 1 rv) es fs f h.1)

pub noted-behind : (keeps : List Keeping) (rv : List ℕ) (xs es : List Entry)
    → ((own : ℕ) → StandsAmong own (notes_at keeps) → WritesNone own xs)
    → AreNoted keeps rv es
    → AreNoted keeps rv (xs ++ es)
noted-behind keeps rv xs es f h = each-note keeps rv es (xs ++ es) (λ own v m k. note-behind own v xs es (f own m) k) h

noted-first : (keeps : List Keeping) (rv : List ℕ) (e : Entry) (es : List Entry)
    → ((own : ℕ) → StandsAmong own (notes_at keeps) → writes_to own e ≡ true → ⊥)
    → AreNoted keeps rv es
    → AreNoted keeps rv (e ∷ es)
noted-first keeps rv e es f h = noted-behind keeps rv (e ∷ []) es (λ own m. none-first own e [] (f own m) (λ x k w. k)) h

pub noted-before : (keeps : List Keeping) (rv : List ℕ) (es ys : List Entry)
    → ((own : ℕ) → StandsAmong own (notes_at keeps) → WritesNone own ys)
    → AreNoted keeps rv es
    → AreNoted keeps rv (es ++ ys)
noted-before keeps rv es ys f h = each-note keeps rv es (es ++ ys) (λ own v m k. note-before own v es ys (f own m) k) h

-- one core

note-none : (own c p : ℕ) (k : Keeping) (program : List Instr) (regs rv : List ℕ)
    → (StandsAmong own (note_at k) → ⊥)
    → ((q : ℕ) → WritesNone own (entries_of c q program regs rv))
    → WritesNone own (entries_of c p (note_of k ++ program) regs rv)
note-none own c p (InRegister reg) program regs rv f g = g p
note-none own c p (InLocation reg loc) program regs rv f g =
    none-first own (entry c p W loc (value_in regs reg)) (entries_of c (p + 1) program regs rv)
    (λ h. other-loc own loc.0 (λ q. f (inl (sym q))) h) (g (p + 1))
note-none own c p (Nowhere reg) program regs rv f g = g p

pub none-noted : (own n c p : ℕ) (tree : Tree) (values : List ℕ) (keeps : List Keeping) (regs rv : List ℕ)
    → n ≤ own
    → UsesFirst n tree
    → CanShow tree values keeps
    → length regs ≡ 6
    → (StandsAmong own (notes_at keeps) → ⊥) → WritesNone own (entries_of c p (shown_path tree values keeps) regs rv)
none-noted own n c p (Done o) [] [] regs rv l u s z f = λ e m h. m
none-noted own n c p (Done o) [] (k ∷ keeps) regs rv l u s z f = absurd s
none-noted own n c p (Done o) (v ∷ values) keeps regs rv l u s z f = absurd s
none-noted own n c p Cut values keeps regs rv l u s z f = absurd s
none-noted own n c p (Reads loc next) [] keeps regs rv l u s z f = absurd s
none-noted own n c p (Reads loc next) (v ∷ values) [] regs rv l u s z f = absurd s
none-noted own n c p (Reads loc next) (v ∷ values) (k ∷ keeps) regs rv l u s z f =
    let w : ℕ = slice_index rv 0 in let now : List ℕ = with_value regs (register_for k) w in
    none-first own (entry c p R loc w) (entries_of c (p + 1) (note_of k ++ shown_path (next v) values keeps) now (drop 1 rv)) (λ h. (let y : ⊥ = cc in y))
    (note-none own c (p + 1) k (shown_path (next v) values keeps) now (drop 1 rv) (λ m. f (among-left own (note_at k) (notes_at keeps) m))
    (λ q.
    none-noted own n c q (next v) values keeps now (drop 1 rv) l (u.1 v) s.2 (six regs (register_for k) w z)
    (λ m. f (among-right own (note_at k) (notes_at keeps) m))))
none-noted own n c p (Stores loc value next) values keeps regs rv l u s z f =
    none-first own (entry c p W loc value) (entries_of c (p + 1) (shown_path next values keeps) regs rv)
    (λ h. other-loc own loc.0 (λ q. (let y = u.0 in let x : ⊥ = omega arith in x)) h)
    (none-noted own n c (p + 1) next values keeps regs rv l u.1 s z f)
none-noted own n c p (Fences next) values keeps regs rv l u s z f =
    none-first own (fence c p) (entries_of c (p + 1) (shown_path next values keeps) regs rv) (λ h. (let y : ⊥ = cc in y))
    (none-noted own n c (p + 1) next values keeps regs rv l u s z f)
none-noted own n c p (Locks loc change next) [] keeps regs rv l u s z f = absurd s
none-noted own n c p (Locks loc change next) (v ∷ values) [] regs rv l u s z f = absurd s
none-noted own n c p (Locks loc change next) (v ∷ values) (k ∷ keeps) regs rv l u s z f =
    let w : ℕ = slice_index rv 0 in let r : Reg = register_for k in let number : ℕ = operand change v in
    let first : List ℕ = with_value regs r number in let now : List ℕ = with_value first r w in
    let rest : List Entry = entries_of c ((p + 1) + 1) (note_of k ++ shown_path (next v) values keeps) now (drop 1 rv) in
    subst (λ y. WritesNone own y) (sym (locking-entries c p change loc r (note_of k ++ shown_path (next v) values keeps) regs rv number (held regs r number z)))
    (none-first own (entry c (p + 1) LR loc w) (entry c (p + 1) LW loc (left_by change w number) ∷ rest) (λ h. (let y : ⊥ = cc in y))
    (none-first own (entry c (p + 1) LW loc (left_by change w number)) rest (λ h. other-loc own loc.0 (λ q. (let y = u.0 in let x : ⊥ = omega arith in x)) h)
    (note-none own c ((p + 1) + 1) k (shown_path (next v) values keeps) now (drop 1 rv) (λ m. f (among-left own (note_at k) (notes_at keeps) m))
    (λ q.
    none-noted own n c q (next v) values keeps now (drop 1 rv) l (u.1 v) s.3 (six first r w (six regs r number z))
    (λ m. f (among-right own (note_at k) (notes_at keeps) m))))))

note-noted : (c p : ℕ) (k : Keeping) (keeps : List Keeping) (w : ℕ) (program : List Instr) (now rv : List ℕ)
    → value_in now (register_for k) ≡ w
    → AreApart (note_at k ++ notes_at keeps)
    → ((own q : ℕ) → StandsAmong own (note_at k) → WritesNone own (entries_of c q program now rv))
    → ((q : ℕ) → AreNoted keeps rv (entries_of c q program now rv))
    → IsNoted k w (entries_of c p (note_of k ++ program) now rv) × AreNoted keeps rv (entries_of c p (note_of k ++ program) now rv)
note-noted c p (InRegister reg) keeps w program now rv h a f g = (tt, g p)
note-noted c p (InLocation reg own) keeps w program now rv h a f g = (
  record {
    some = (entry c p W own (value_in now reg), inl refl, test-true own.0 own.0 refl);
    only = λ e m x. only-one e m x;
  },
  noted-first keeps rv (entry c p W own (value_in now reg)) (entries_of c (p + 1) program now rv)
      (λ o m x. other-loc o own.0 (λ q. a.0 (subst (λ z. StandsAmong z (notes_at keeps)) (sym q) m)) x) (g (p + 1)),
)
  where
    only-one : (e : Entry) → StandsAmong e (entry c p W own (value_in now reg) ∷ entries_of c (p + 1) program now rv) → writes_to own.0 e ≡ true → e.value ≡ w
    only-one e (inl q) x = ap (λ z. z.value) q ∙ h
    only-one e (inr m) x = absurd (f own.0 (p + 1) (inl refl) e m x)
note-noted c p (Nowhere reg) keeps w program now rv h a f g = (tt, g p)

-- one entry more in front
one-more : (k : Keeping) (w : ℕ) (e : Entry) (es : List Entry)
    → ((own : ℕ) → StandsAmong own (note_at k) → writes_to own e ≡ true → ⊥)
    → IsNoted k w es
    → IsNoted k w (e ∷ es)
one-more (InRegister reg) w e es f h = tt
one-more (InLocation reg own) w e es f h = note-behind own.0 w (e ∷ []) es (none-first own.0 e [] (f own.0 (inl refl)) (λ x k y. k)) h
one-more (Nowhere reg) w e es f h = tt

-- parts of a list without repeats
pub apart-left : (xs ys : List ℕ) → AreApart (xs ++ ys) → AreApart xs
apart-left [] ys a = tt
apart-left (x ∷ xs) ys a = ((λ m. a.0 (among-left x xs ys m)), apart-left xs ys a.1)

pub apart-right : (xs ys : List ℕ) → AreApart (xs ++ ys) → AreApart ys
apart-right [] ys a = a
apart-right (x ∷ xs) ys a = apart-right xs ys a.1

pub apart-from : (xs ys : List ℕ) (o : ℕ) → AreApart (xs ++ ys) → StandsAmong o xs → StandsAmong o ys → ⊥
apart-from [] ys o a m k = m
apart-from (x ∷ xs) ys o a (inl q) k = a.0 (among-right x xs ys (subst (λ z. StandsAmong z ys) q k))
apart-from (x ∷ xs) ys o a (inr m) k = apart-from xs ys o a.1 m k

-- none of the notes lies among the first n locations
abbrev pub AllBeyond : ℕ → List Keeping → Type 0
AllBeyond n keeps = (own : ℕ) → StandsAmong own (notes_at keeps) → n ≤ own

pub are-noted : (n c p : ℕ) (tree : Tree) (values : List ℕ) (keeps : List Keeping) (regs rv : List ℕ)
    → UsesFirst n tree
    → CanShow tree values keeps
    → length regs ≡ 6
    → AllBeyond n keeps → AreApart (notes_at keeps) → AreNoted keeps rv (entries_of c p (shown_path tree values keeps) regs rv)
are-noted n c p (Done o) [] [] regs rv u s z b a = tt
are-noted n c p (Done o) [] (k ∷ keeps) regs rv u s z b a = absurd s
are-noted n c p (Done o) (v ∷ values) keeps regs rv u s z b a = absurd s
are-noted n c p Cut values keeps regs rv u s z b a = absurd s
are-noted n c p (Reads loc next) [] keeps regs rv u s z b a = absurd s
are-noted n c p (Reads loc next) (v ∷ values) [] regs rv u s z b a = absurd s
are-noted n c p (Reads loc next) (v ∷ values) (k ∷ keeps) regs rv u s z b a =
    let w : ℕ = slice_index rv 0 in let now : List ℕ = with_value regs (register_for k) w in
    let program : List Instr = shown_path (next v) values keeps in
    let long = six regs (register_for k) w z in
    let r = note-noted c (p + 1) k keeps w program now (drop 1 rv) (held regs (register_for k) w z) a
    (λ own q m.
    none-noted own n c q (next v) values keeps now (drop 1 rv)
    (b own (among-left own (note_at k) (notes_at keeps) m)) (u.1 v) s.2 long
    (λ y. apart-from (note_at k) (notes_at keeps) own a m y))
    (λ q.
    are-noted n c q (next v) values keeps now (drop 1 rv) (u.1 v) s.2 long
    (λ own m. b own (among-right own (note_at k) (notes_at keeps) m))
    (apart-right (note_at k) (notes_at keeps) a)) in
    let e : Entry = entry c p R loc w in let rest : List Entry = entries_of c (p + 1) (note_of k ++ program) now (drop 1 rv) in
    (one-more k w e rest (λ own m h. (let y : ⊥ = cc in y)) r.0, noted-first keeps (drop 1 rv) e rest (λ own m h. (let y : ⊥ = cc in y)) r.1)
are-noted n c p (Stores loc value next) values keeps regs rv u s z b a =
    noted-first keeps rv (entry c p W loc value) (entries_of c (p + 1) (shown_path next values keeps) regs rv)
    (λ own m h. other-loc own loc.0 (λ q. (let y = u.0 in let t = b own m in let x : ⊥ = omega arith in x)) h)
    (are-noted n c (p + 1) next values keeps regs rv u.1 s z b a)
are-noted n c p (Fences next) values keeps regs rv u s z b a =
    noted-first keeps rv (fence c p) (entries_of c (p + 1) (shown_path next values keeps) regs rv) (λ own m h. (let y : ⊥ = cc in y))
    (are-noted n c (p + 1) next values keeps regs rv u s z b a)
are-noted n c p (Locks loc change next) [] keeps regs rv u s z b a = absurd s
are-noted n c p (Locks loc change next) (v ∷ values) [] regs rv u s z b a = absurd s
are-noted n c p (Locks loc change next) (v ∷ values) (k ∷ keeps) regs rv u s z b a =
    let w : ℕ = slice_index rv 0 in let g : Reg = register_for k in let number : ℕ = operand change v in
    let first : List ℕ = with_value regs g number in let now : List ℕ = with_value first g w in
    let program : List Instr = shown_path (next v) values keeps in
    let long = six first g w (six regs g number z) in
    let r = note-noted c ((p + 1) + 1) k keeps w program now (drop 1 rv) (held first g w (six regs g number z)) a
    (λ own q m.
    none-noted own n c q (next v) values keeps now (drop 1 rv)
    (b own (among-left own (note_at k) (notes_at keeps) m)) (u.1 v) s.3 long
    (λ y. apart-from (note_at k) (notes_at keeps) own a m y))
    (λ q.
    are-noted n c q (next v) values keeps now (drop 1 rv) (u.1 v) s.3 long
    (λ own m. b own (among-right own (note_at k) (notes_at keeps) m))
    (apart-right (note_at k) (notes_at keeps) a)) in
    let rest : List Entry = entries_of c ((p + 1) + 1) (note_of k ++ program) now (drop 1 rv) in
    let x : Entry = entry c (p + 1) LR loc w in let y : Entry = entry c (p + 1) LW loc (left_by change w number) in
    let not-y : (own : ℕ) → n ≤ own → writes_to own y ≡ true → ⊥ = (λ own l h. other-loc own loc.0 (λ q. (let t = u.0 in let d : ⊥ = omega arith in d)) h) in
    subst (λ t. IsNoted k w t × AreNoted keeps (drop 1 rv) t)
    (sym (locking-entries c p change loc g (note_of k ++ program) regs rv number (held regs g number z))) (
      one-more k w x (y ∷ rest) (λ own m h. (let d : ⊥ = cc in d))
          (one-more k w y rest (λ own m h. not-y own (b own (among-left own (note_at k) (notes_at keeps) m)) h) r.0),
      noted-first keeps (drop 1 rv) x (y ∷ rest) (λ own m h. (let d : ⊥ = cc in d))
          (noted-first keeps (drop 1 rv) y rest (λ own m h. not-y own (b own (among-right own (note_at k) (notes_at keeps) m)) h) r.1),
    )
