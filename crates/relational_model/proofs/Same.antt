-- Entries that the programs make at one core and place, and of one kind, are one entry.
use Rattle.relational_model.proofs.Vocabulary.{◌≡◌, ◌≤◌, ℕ, ◌+◌, List, [], ◌∷◌, slice_index, arith, refl, sym, ap, ◌∙◌, ◌⊎◌, inl, inr}
use Rattle.relational_model.proofs.Vocabulary.{subst, action_of, entry, fence, value_in, value_of, updated, entries_by, registers_by}
use Rattle.relational_model.proofs.Vocabulary.{values_after, entries_of, Instr, Action, Store, Load, Move, Fence, Lock, Entry, R, W, LR, LW}
use Rattle.relational_model.proofs.Vocabulary.{IsIn, part_of}
use Rattle.relational_model.proofs.Lists.{in-case, in-none, in-append}

-- the one entry of a list
pub only : (e x : Entry) → IsIn (e ∷ []) x → x ≡ e
only e x h = elim (in-case e [] x h) [ inl q ↦ q | inr k ↦ absurd (in-none x k) ]

-- where what an action makes stands
abbrev pub Here : ℕ → ℕ → Entry → Type 0
Here core place x = (x.core.0 ≡ core) × (x.place ≡ place)

here-only : (core place : ℕ) (e x : Entry) → Here core place e → IsIn (e ∷ []) x → Here core place x
here-only core place e x h i = subst (Here core place) (sym (only e x i)) h

pub here-by : (core place : ℕ) (a : Action) (registers : List ℕ) (word : ℕ) (x : Entry) → IsIn (entries_by core place a registers word) x
    → Here core place x
here-by core place (Store loc operand) registers word x i =
    here-only core place (entry core place W loc (value_of registers operand)) x (refl, refl) i
here-by core place (Load reg loc) registers word x i = here-only core place (entry core place R loc word) x (refl, refl) i
here-by core place (Move change) registers word x i = absurd (in-none x i)
here-by core place Fence registers word x i = here-only core place (fence core place) x (refl, refl) i
here-by core place (Lock loc reg update) registers word x i =
    go (in-case (entry core place LR loc word) (entry core place LW loc (updated update registers word) ∷ []) x i)
  where
    go : (x ≡ entry core place LR loc word) ⊎ IsIn (entry core place LW loc (updated update registers word) ∷ []) x
        → Here core place x
    go (inl q) = subst (Here core place) (sym q) (refl, refl)
    go (inr k) = here-only core place (entry core place LW loc (updated update registers word)) x (refl, refl) k

both-only : (e x y : Entry) → IsIn (e ∷ []) x → IsIn (e ∷ []) y → x ≡ y
both-only e x y i j = only e x i ∙ sym (only e y j)

two : (e f x y : Entry) → e.kind ≡ LR → f.kind ≡ LW → IsIn (e ∷ (f ∷ [])) x → IsIn (e ∷ (f ∷ [])) y → part_of x.kind ≡ part_of y.kind
    → x ≡ y
two e f x y le lf i j k = go (in-case e (f ∷ []) x i) (in-case e (f ∷ []) y j)
  where
    clash : part_of e.kind ≡ part_of f.kind → ⊥
    clash q = let z : 0 ≡ 1 = ap part_of (sym le) ∙ (q ∙ ap part_of lf) in let w : ⊥ = cc in w

    of : (u v : Entry) → u ≡ v → part_of u.kind ≡ part_of v.kind
    of u v h = ap (λ (z : Entry). part_of z.kind) h

    go : (x ≡ e) ⊎ IsIn (f ∷ []) x → (y ≡ e) ⊎ IsIn (f ∷ []) y → x ≡ y
    go (inl p) (inl q) = p ∙ sym q
    go (inl p) (inr q) = absurd (clash (of e x (sym p) ∙ (k ∙ of y f (only f y q))))
    go (inr p) (inl q) = absurd (clash (of e y (sym q) ∙ (sym k ∙ of x f (only f x p))))
    go (inr p) (inr q) = both-only f x y p q

same-by : (core place : ℕ) (a : Action) (registers : List ℕ) (word : ℕ) (x y : Entry) → IsIn (entries_by core place a registers word) x
    → IsIn (entries_by core place a registers word) y → part_of x.kind ≡ part_of y.kind → x ≡ y
same-by core place (Store loc operand) registers word x y i j k = both-only (entry core place W loc (value_of registers operand)) x y i j
same-by core place (Load reg loc) registers word x y i j k = both-only (entry core place R loc word) x y i j
same-by core place (Move change) registers word x y i j k = absurd (in-none x i)
same-by core place Fence registers word x y i j k = both-only (fence core place) x y i j
same-by core place (Lock loc reg update) registers word x y i j k =
    two (entry core place LR loc word) (entry core place LW loc (updated update registers word)) x y refl refl i j k

-- what a program makes from a place on is at that place or after it
pub from-place : (core place : ℕ) (p : List Instr) (registers values : List ℕ) (x : Entry)
    → IsIn (entries_of core place p registers values) x
    → (x.core.0 ≡ core) × (place ≤ x.place)
from-place core place [] registers values x i = absurd (in-none x i)
from-place core place (s ∷ p) registers values x i =
    go (in-append (entries_by core place (action_of s) registers (slice_index values 0))
    (entries_of core (place + 1) p (registers_by (action_of s) registers (slice_index values 0)) (values_after (action_of s) values)) x i)
    (λ b. from-place core (place + 1) p (registers_by (action_of s) registers (slice_index values 0))
    (values_after (action_of s) values) x b)
  where
    go : IsIn (entries_by core place (action_of s) registers (slice_index values 0)) x
        ⊎ IsIn (entries_of core (place + 1) p (registers_by (action_of s) registers (slice_index values 0))
        (values_after (action_of s) values)) x
        → (IsIn (entries_of core (place + 1) p (registers_by (action_of s) registers (slice_index values 0))
        (values_after (action_of s) values)) x → (x.core.0 ≡ core) × (place + 1 ≤ x.place))
        → (x.core.0 ≡ core) × (place ≤ x.place)
    go (inl a) later =
        let h = here-by core place (action_of s) registers (slice_index values 0) x a in
        (h.0, let q : x.place ≡ place = h.1 in omega arith)
    go (inr b) later =
        let h = later b in
        (h.0, let q : place + 1 ≤ x.place = h.1 in omega arith)

pub same-of : (core place : ℕ) (p : List Instr) (registers values : List ℕ) (x y : Entry)
    → IsIn (entries_of core place p registers values) x
    → IsIn (entries_of core place p registers values) y → x.place ≡ y.place → part_of x.kind ≡ part_of y.kind → x ≡ y
same-of core place [] registers values x y i j e k = absurd (in-none x i)
same-of core place (s ∷ p) registers values x y i j e k =
    go (in-append first rest x i) (in-append first rest y j)
    (λ a b. same-of core (place + 1) p (registers_by (action_of s) registers (slice_index values 0))
    (values_after (action_of s) values) x y a b e k)
  where
    first : List Entry
    first = entries_by core place (action_of s) registers (slice_index values 0)

    rest : List Entry
    rest = entries_of core (place + 1) p (registers_by (action_of s) registers (slice_index values 0)) (values_after (action_of s) values)

    apart : (u v : Entry) → IsIn first u → IsIn rest v → u.place ≡ v.place → ⊥
    apart u v a b q =
        let h : u.place ≡ place = (here-by core place (action_of s) registers (slice_index values 0) u a).1 in
        let l : place + 1 ≤ v.place =
        (from-place core (place + 1) p (registers_by (action_of s) registers (slice_index values 0))
        (values_after (action_of s) values) v b).1 in
        omega (arith, q)

    go : IsIn first x ⊎ IsIn rest x → IsIn first y ⊎ IsIn rest y → (IsIn rest x → IsIn rest y → x ≡ y) → x ≡ y
    go (inl a) (inl b) later = same-by core place (action_of s) registers (slice_index values 0) x y a b k
    go (inl a) (inr b) later = absurd (apart x y a b e)
    go (inr a) (inl b) later = absurd (apart y x b a (sym e))
    go (inr a) (inr b) later = later a b
