-- A first breach is real, and an order has at most one.
use Rattle.order_breaches.proofs.Vocabulary.{◌≡◌, ◌≢◌, refl, ◌<◌, ℕ, ◌+◌, suc, zero, List, Some, slice_get, arith, ap, sym, ◌∙◌, inl, inr}
use Rattle.order_breaches.proofs.Vocabulary.{subst, cases_order, Litmus, entry, made, IsWhole, KeepsProgramOrder, IsAdjacent, HasReadValues}
use Rattle.order_breaches.proofs.Vocabulary.{IsTsoExecution, Entry, IsFirst, IsNowhere, IsExtra, IsStray, IsMissing, IsWrongWrite}
use Rattle.order_breaches.proofs.Vocabulary.{written_value, Overtakes, IsLate, IsSeparated, IsWrongRead, due_at, IsFirstBreach, Breach}
use Rattle.order_breaches.proofs.Vocabulary.{Extra, Twice, Missing, WrongValue, ProgramOrder, NotAdjacent, ReadValue, NoMemory}
use Rattle.order_breaches.proofs.Whole.{whole-clean}
use Rattle.order_breaches.proofs.Keeps.{none-late, none-separated, none-wrong}

-- the letters of the breaches, from 0
abbrev pub level : Breach → ℕ
level (Extra x) = 0
level (Twice x) = 0
level (Missing core place kind loc) = 1
level (WrongValue x due) = 2
level (ProgramOrder a b) = 3
level (NotAdjacent x) = 4
level (ReadValue x due) = 5
level NoMemory = 6

-- no breach of this letter occurs
abbrev NoneAt : Litmus → List Entry → ℕ → Type 0
NoneAt t order zero = IsNowhere order (IsStray (made t order) order)
NoneAt t order (suc zero) = IsNowhere (made t order) (IsMissing order)
NoneAt t order (suc (suc zero)) = IsNowhere order (IsWrongWrite (made t order))
NoneAt t order (suc (suc (suc zero))) = KeepsProgramOrder order
NoneAt t order (suc (suc (suc (suc zero)))) = IsAdjacent order
NoneAt t order (suc (suc (suc (suc (suc n))))) = HasReadValues t order

occurs : (t : Litmus) (order : List Entry) (b : Breach) → IsFirstBreach t order b → NoneAt t order (level b) → ⊥
occurs t order (Extra x) f none = none f.1.0 x f.1.1.stands f.1.1.holds
occurs t order (Twice x) f none = none f.1.0 x f.1.1.stands f.1.1.holds
occurs t order (Missing core place kind loc) f none = none f.1.0 (entry core.0 place kind loc f.1.1) f.1.2.stands f.1.2.holds
occurs t order (WrongValue x due) f none = none f.2.0 x f.2.1.stands f.2.1.holds
occurs t order (ProgramOrder a b) f none = none-late order none f.1.0 a f.1.2.stands f.1.2.holds
occurs t order (NotAdjacent x) f none = none-separated order none f.2.0 x f.2.1.stands f.2.1.holds
occurs t order (ReadValue x due) f none = none-wrong t order none f.3.0 x f.3.1.stands f.3.1.holds
occurs t order NoMemory f none = f

-- of a whole order, and of one that keeps the next axioms too
none-whole : (t : Litmus) (order : List Entry)
    → IsWhole t order
    → (level : ℕ) → ((m : ℕ) → suc (suc (suc m)) < level → NoneAt t order (suc (suc (suc m))))
    → (n : ℕ) → n < level
    → NoneAt t order n
none-whole t order w level rest zero l = (whole-clean t order w).no_stray
none-whole t order w level rest (suc zero) l = (whole-clean t order w).no_missing
none-whole t order w level rest (suc (suc zero)) l = (whole-clean t order w).no_wrong
none-whole t order w level rest (suc (suc (suc m))) l = rest m l

-- no breach of a lower letter occurs
none-lower : (t : Litmus) (order : List Entry) (b : Breach) → IsFirstBreach t order b → (n : ℕ) → n < level b → NoneAt t order n
none-lower t order (Extra x) f n l = absurd (omega arith)
none-lower t order (Twice x) f n l = absurd (omega arith)
none-lower t order (Missing core place kind loc) f zero l = f.0
none-lower t order (Missing core place kind loc) f (suc n) l = absurd (omega arith)
none-lower t order (WrongValue x due) f zero l = f.0
none-lower t order (WrongValue x due) f (suc zero) l = f.1
none-lower t order (WrongValue x due) f (suc (suc n)) l = absurd (omega arith)
none-lower t order (ProgramOrder a b) f n l = none-whole t order f.0 3 (λ m k. absurd (omega arith)) n l
none-lower t order (NotAdjacent x) f n l = none-whole t order f.0 4 rest n l
  where
    rest : (m : ℕ) → suc (suc (suc m)) < 4 → NoneAt t order (suc (suc (suc m)))
    rest zero k = f.1
    rest (suc m) k = absurd (omega arith)
none-lower t order (ReadValue x due) f n l = none-whole t order f.0 5 rest n l
  where
    rest : (m : ℕ) → suc (suc (suc m)) < 5 → NoneAt t order (suc (suc (suc m)))
    rest zero k = f.1
    rest (suc zero) k = f.2
    rest (suc (suc m)) k = absurd (omega arith)
none-lower t order NoMemory f n l = absurd f

pub breach-is-real : (t : Litmus) (order : List Entry) (b : Breach) → IsFirstBreach t order b → IsTsoExecution t order → ⊥
breach-is-real t order b f e = occurs t order b f (none-whole t order e.whole (level b + 1) rest (level b) (omega arith))
  where
    rest : (m : ℕ) → suc (suc (suc m)) < level b + 1 → NoneAt t order (suc (suc (suc m)))
    rest zero k = e.program_order
    rest (suc zero) k = e.adjacent
    rest (suc (suc m)) k = e.read_values

-- a list has one first entry of a fact
record Same (i j : ℕ) (x y : Entry) : Type 0 where
  pub place : i ≡ j
  pub entry : x ≡ y

one-first : (list : List Entry) (Fact : ℕ → Entry → Type 0) (i j : ℕ) (x y : Entry) → IsFirst list Fact i x → IsFirst list Fact j y → Same i j x y
one-first list Fact i j x y f g = elim (cases_order i j) [
  | inl q ↦ let s : slice_get list i ≡ Some y = subst (λ k. slice_get list k ≡ Some y) (sym q) g.stands in let e = f.stands in record { place = q; entry = cc }
  | inr w ↦ elim w [ inl l ↦ absurd (g.earliest i x l f.stands f.holds) | inr l ↦ absurd (f.earliest j y l g.stands g.holds) ]
]

same-letter : (t : Litmus) (order : List Entry) (b c : Breach) → level b ≡ level c → IsFirstBreach t order b → IsFirstBreach t order c → b ≡ c
same-letter t order (Extra x) (Extra y) l f g = let s = one-first order (IsStray (made t order) order) f.1.0 g.1.0 x y f.1.1 g.1.1 in ap Extra s.entry
same-letter t order (Extra x) (Twice y) l f g =
    let s = one-first order (IsStray (made t order) order) f.1.0 g.1.0 x y f.1.1 g.1.1 in absurd (g.0 (subst (λ z. IsExtra (made t order) z) s.entry f.0))
same-letter t order (Twice x) (Extra y) l f g =
    let s = one-first order (IsStray (made t order) order) f.1.0 g.1.0 x y f.1.1 g.1.1 in absurd (f.0 (subst (λ z. IsExtra (made t order) z) (sym s.entry) g.0))
same-letter t order (Twice x) (Twice y) l f g = let s = one-first order (IsStray (made t order) order) f.1.0 g.1.0 x y f.1.1 g.1.1 in ap Twice s.entry
same-letter t order (Missing core place kind loc) (Missing core' place' kind' loc') l f g =
    let s = one-first (made t order) (IsMissing order) f.1.0 g.1.0 (entry core.0 place kind loc f.1.1) (entry core'.0 place' kind' loc' g.1.1) f.1.2 g.1.2 in
    ap (λ e. Missing e.core e.place e.kind e.loc) s.entry
same-letter t order (WrongValue x due) (WrongValue y due') l f g =
    let s = one-first order (IsWrongWrite (made t order)) f.2.0 g.2.0 x y f.2.1 g.2.1 in
    ap (λ d. WrongValue x d) (f.3 ∙ ap (λ z. written_value (made t order) z) s.entry ∙ sym g.3) ∙ ap (λ z. WrongValue z due') s.entry
same-letter t order (ProgramOrder a b) (ProgramOrder a' b') l f g =
    let s = one-first order (IsLate order) f.1.0 g.1.0 a a' f.1.2 g.1.2 in
    let moved : IsFirst order (Overtakes g.1.0 a') f.1.1 b =
    subst (λ at. IsFirst order (Overtakes at a') f.1.1 b) s.place (subst (λ z. IsFirst order (Overtakes f.1.0 z) f.1.1 b) s.entry f.1.3) in
    let u = one-first order (Overtakes g.1.0 a') f.1.1 g.1.1 b b' moved g.1.3 in
    ap (λ z. ProgramOrder z b) s.entry ∙ ap (λ z. ProgramOrder a' z) u.entry
same-letter t order (NotAdjacent x) (NotAdjacent y) l f g = let s = one-first order (IsSeparated order) f.2.0 g.2.0 x y f.2.1 g.2.1 in ap NotAdjacent s.entry
same-letter t order (ReadValue x due) (ReadValue y due') l f g =
    let s = one-first order (IsWrongRead t order) f.3.0 g.3.0 x y f.3.1 g.3.1 in
    ap (λ d. ReadValue x d) (f.3.2 ∙ ap (λ at. due_at t order at x) s.place ∙ ap (λ z. due_at t order g.3.0 z) s.entry ∙ sym g.3.2)
    ∙ ap (λ z. ReadValue z due') s.entry
same-letter t order b c l f g = absurd (omega arith)

pub one-breach : (t : Litmus) (order : List Entry) (b c : Breach) → IsFirstBreach t order b → IsFirstBreach t order c → b ≡ c
one-breach t order b c f g = elim (cases_order (level b) (level c)) [
  | inl q ↦ same-letter t order b c q f g
  | inr w ↦ elim w [
    | inl l ↦ absurd (occurs t order b f (none-lower t order c g (level b) l))
    | inr l ↦ absurd (occurs t order c g (none-lower t order b f (level c) l))
  ]
]

-- who is told of a breach, unless memory ran out, has no execution
pub no-memory-else : (t : Litmus) (order : List Entry) (b : Breach) → (b ≢ NoMemory → IsFirstBreach t order b) → IsTsoExecution t order → b ≡ NoMemory
no-memory-else t order NoMemory first holds = refl
no-memory-else t order (Extra x) first holds = absurd (breach-is-real t order (Extra x) (first (λ e. let z : ⊥ = cc in z)) holds)
no-memory-else t order (Twice x) first holds = absurd (breach-is-real t order (Twice x) (first (λ e. let z : ⊥ = cc in z)) holds)
no-memory-else t order (Missing core place kind loc) first holds =
    absurd (breach-is-real t order (Missing core place kind loc) (first (λ e. let z : ⊥ = cc in z)) holds)
no-memory-else t order (WrongValue x due) first holds = absurd (breach-is-real t order (WrongValue x due) (first (λ e. let z : ⊥ = cc in z)) holds)
no-memory-else t order (ProgramOrder a b) first holds = absurd (breach-is-real t order (ProgramOrder a b) (first (λ e. let z : ⊥ = cc in z)) holds)
no-memory-else t order (NotAdjacent x) first holds = absurd (breach-is-real t order (NotAdjacent x) (first (λ e. let z : ⊥ = cc in z)) holds)
no-memory-else t order (ReadValue x due) first holds = absurd (breach-is-real t order (ReadValue x due) (first (λ e. let z : ⊥ = cc in z)) holds)
