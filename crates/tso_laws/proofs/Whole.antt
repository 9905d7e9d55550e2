-- A TSO execution has just the entries of the programs, each once.
use Rattle.tso_laws.proofs.Vocabulary.{◌≡◌, ◌≢◌, ◌<◌, ◌≤◌, ℕ, ◌+◌, zero, suc, List, [], ◌∷◌, ◌++◌, Some, Bool, true, false, length}
use Rattle.tso_laws.proofs.Vocabulary.{slice_get, slice_index, slice_index_or, arith, ap, sym, ◌∙◌, refl, inl, inr, subst, action_of, entry}
use Rattle.tso_laws.proofs.Vocabulary.{fence, value_in, value_of, updated, entries_by, entries_of, Litmus, may_be_passed, rank, part-small}
use Rattle.tso_laws.proofs.Vocabulary.{KeepsProgramOrder, IsAdjacent, IsWhole, IsTsoExecution, StandsIn, read_values, IsStorePart, made_by}
use Rattle.tso_laws.proofs.Vocabulary.{made_from, made, Entry, Instr, Action, Store, Load, Move, Fence, Lock, R, W, LR, LW, program_of}
use Rattle.tso_laws.proofs.Vocabulary.{Each, each-map, Member, member-at}
use Rattle.tso_laws.proofs.Folds.{due-is, needs, HasLocations}
use Rattle.tso_laws.proofs.Entries.{Fine, Ordered}
use Rattle.tso_laws.proofs.CoreInvariant.{Paired, Next}
use Rattle.tso_laws.proofs.Held.{member-left, member-right, member-split, each-of, Distinct, Apart}
use Rattle.tso_laws.proofs.OrderSteps.{first_of, Good, entries-from}

pub at-member : {A : Type 0} (xs : List A) (i : ℕ) (e : A) → slice_get xs i ≡ Some e → Member e xs
at-member [] i e h = absurd (let z : ⊥ = cc in z)
at-member (x ∷ xs) zero e h = inl (let z : e ≡ x = cc in z)
at-member (x ∷ xs) (suc i) e h = inr (at-member xs i e h)

pub each-from : {A : Type 0} (P : A → Type 0) (xs : List A) → ((y : A) → Member y xs → P y) → Each P xs
each-from P [] f = tt
each-from P (x ∷ xs) f = (f x (inl refl), each-from P xs (λ y m. f y (inr m)))

-- a list cut at a member
pub record Cut (e : Entry) (xs : List Entry) : Type 0 where
  pub front : List Entry
  pub back : List Entry
  pub is : xs ≡ front ++ (e ∷ back)

pub cut-at : (e : Entry) (xs : List Entry) → Member e xs → Cut e xs
cut-at e [] m = absurd m
cut-at e (x ∷ xs) (inl q) = record { front = []; back = xs; is = ap (λ z. z ∷ xs) (sym q) }
cut-at e (x ∷ xs) (inr m) = let c = cut-at e xs m in record { front = x ∷ c.front; back = c.back; is = ap (λ z. x ∷ z) c.is }

each-middle : {A : Type 0} (P : A → Type 0) (xs ys : List A) (e : A) → Each P (xs ++ ys) → P e → Each P (xs ++ (e ∷ ys))
each-middle P [] ys e h p = (p, h)
each-middle P (x ∷ xs) ys e h p = (h.0, each-middle P xs ys e h.1 p)

turned : (x y : Entry) → Apart x y → Apart y x
turned x y a = λ c r. a (sym c) (sym r)

distinct-middle : (xs ys : List Entry) (e : Entry) → Distinct (xs ++ ys) → ((y : Entry) → Member y (xs ++ ys) → Apart e y) → Distinct (xs ++ (e ∷ ys))
distinct-middle [] ys e d f = (each-from (Apart e) ys f, d)
distinct-middle (x ∷ xs) ys e d f = (each-middle (Apart x) xs ys e d.0 (turned e x (f x (inl refl))), distinct-middle xs ys e d.1 (λ y m. f y (inr m)))

pub record Same (made order : List Entry) : Type 0 where
  pub distinct : Distinct order
  pub in_made : (e : Entry) → Member e order → Member e made

pub length-middle : (xs ys : List Entry) (e : Entry) → length (xs ++ (e ∷ ys)) ≡ suc (length (xs ++ ys))
length-middle [] ys e = refl
length-middle (x ∷ xs) ys e = ap suc (length-middle xs ys e)

-- as many entries, and each of these distinct ones among them: the same entries
pub pigeons : (made order : List Entry) → Distinct made → ((e : Entry) → Member e made → Member e order) → length order ≡ length made → Same made order
pigeons [] [] d f n = record { distinct = tt; in_made = λ e m. m }
pigeons [] (x ∷ xs) d f n = absurd (omega arith)
pigeons (e ∷ made) order d f n =
    let c = cut-at e order (f e (inl refl)) in
    let inside : (y : Entry) → Member y made → Member y (c.front ++ c.back) =
    (λ (y : Entry) (m : Member y made). elim (member-split y c.front (e ∷ c.back) (subst (λ z. Member y z) c.is (f y (inr m)))) [
      | inl a ↦ member-left y c.front c.back a
      | inr a ↦ elim a [
        | inl q ↦ absurd (each-of (Apart e) y made d.0 m (ap (λ z. z.core.0) (sym q)) (ap (λ z. rank z) (sym q)))
        | inr b ↦ member-right y c.front c.back b
      ]
    ]) in
    let size : length (c.front ++ c.back) ≡ length made = (let a = ap length c.is in let b = length-middle c.front c.back e in omega arith) in
    let s = pigeons made (c.front ++ c.back) d.1 inside size in
    record {
      distinct = subst (λ z. Distinct z) (sym c.is) (distinct-middle c.front c.back e s.distinct (λ y m. each-of (Apart e) y made d.0 (s.in_made y m)));
      in_made = λ y m. elim (member-split y c.front (e ∷ c.back) (subst (λ z. Member y z) c.is m)) [
        | inl a ↦ inr (s.in_made y (member-left y c.front c.back a))
        | inr a ↦ elim a [ inl q ↦ inl q | inr b ↦ inr (s.in_made y (member-right y c.front c.back b)) ]
      ];
    }

-- what a program makes is distinct
apart-later : (c place : ℕ) (e : Entry) (xs : List Entry) → e.place ≡ place → Each (λ y. (y.core.0 ≡ c) × (place + 1 ≤ y.place)) xs → Each (Apart e) xs
apart-later c place e xs l h =
    let s = part-small e.kind in
    each-map (λ y. (y.core.0 ≡ c) × (place + 1 ≤ y.place)) (Apart e) xs (λ y q. λ k r. let p = q.1 in omega (arith, r, p, l, s)) h

distinct-by : (c place : ℕ) (a : Action) (registers : List ℕ) (word : ℕ) (xs : List Entry)
    → Each (λ y. (y.core.0 ≡ c) × (place + 1 ≤ y.place)) xs
    → Distinct xs
    → Distinct (entries_by c place a registers word ++ xs)
distinct-by c place (Store loc operand) registers word xs h d = (apart-later c place (entry c place W loc (value_of registers operand)) xs refl h, d)
distinct-by c place (Load reg loc) registers word xs h d = (apart-later c place (entry c place R loc word) xs refl h, d)
distinct-by c place (Move change) registers word xs h d = d
distinct-by c place Fence registers word xs h d = (apart-later c place (fence c place) xs refl h, d)
distinct-by c place (Lock loc reg update) registers word xs h d = (
  (
    (
        λ k r. omega (arith, r)),
    apart-later c place (entry c place LR loc word) xs refl h,
  ),
  (
    apart-later c place (entry c place LW loc (updated update registers word)) xs refl h,
    d,
  ),
)

pub entries-distinct : (c place : ℕ) (p : List Instr) (registers values : List ℕ) → Distinct (entries_of c place p registers values)
entries-distinct c place [] registers values = tt
entries-distinct c place (i ∷ p) registers values =
    distinct-by c place (action_of i) registers (slice_index values 0) _ (entries-from c (place + 1) p _ _) (entries-distinct c (place + 1) p _ _)

distinct-append : (xs ys : List Entry) → Distinct xs → Distinct ys → ((x y : Entry) → Member x xs → Member y ys → x.core.0 ≢ y.core.0) → Distinct (xs ++ ys)
distinct-append [] ys a b f = b
distinct-append (x ∷ xs) ys a b f = (
  each-from (Apart x) (xs ++ ys) (λ y m. elim (member-split y xs ys m) [ inl i ↦ each-of (Apart x) y xs a.0 i | inr i ↦ λ c r. absurd (f x y (inl refl) i c) ]),
  distinct-append xs ys a.1 b (λ u v m n. f u v (inr m) n),
)

-- an entry of all programs is one of its core's program
pub record Made (k : ℕ) (ps : List (List Instr)) (registers : List (List ℕ)) (order : List Entry) (e : Entry) : Type 0 where
  pub at : ℕ
  pub within : at < length ps
  pub core : e.core.0 ≡ k + at
  pub member : Member e (made_by (k + at) (slice_index_or ps at []) (slice_index_or registers (k + at) []) order)

pub made-at : (k : ℕ) (ps : List (List Instr)) (registers : List (List ℕ)) (order : List Entry) (e : Entry)
    → Member e (made_from k ps registers order)
    → Made k ps registers order e
made-at k [] registers order e m = absurd m
made-at k (p ∷ ps) registers order e m = elim (member-split e (made_by k p (slice_index_or registers k []) order) (made_from (k + 1) ps registers order) m) [
  | inl a ↦ here k p (slice_index_or registers k []) a
  | inr a ↦ later (made-at (k + 1) ps registers order e a)
]
  where
    here : (k : ℕ) (p : List Instr) (first : List ℕ) → Member e (made_by k p (slice_index_or registers k []) order) → Made k (p ∷ ps) registers order e
    here k p first a = record {
      at = 0;
      within = omega arith;
      core =
          (each-of (λ z. (z.core.0 ≡ k) × (0 ≤ z.place)) e _ (entries-from k 0 p (slice_index_or registers k []) (read_values k 0 p order)) a).0
          ∙ (let z : k ≡ k + 0 = omega arith in z);
      member = subst (λ z. Member e (made_by z p (slice_index_or registers z []) order)) (let z : k ≡ k + 0 = omega arith in z) a;
    }

    later : Made (k + 1) ps registers order e → Made k (p ∷ ps) registers order e
    later h = record {
      at = suc h.at;
      within = let l = h.within in omega arith;
      core = h.core ∙ (let z : (k + 1) + h.at ≡ k + suc h.at = omega arith in z);
      member =
          subst (λ z. Member e (made_by z (slice_index_or ps h.at []) (slice_index_or registers z []) order))
          (let z : (k + 1) + h.at ≡ k + suc h.at = omega arith in z) h.member;
    }

made-in : (k : ℕ) (ps : List (List Instr)) (registers : List (List ℕ)) (order : List Entry) (j : ℕ) (e : Entry) → j < length ps
    → Member e (made_by (k + j) (slice_index_or ps j []) (slice_index_or registers (k + j) []) order) → Member e (made_from k ps registers order)
made-in k [] registers order j e l m = absurd (omega arith)
made-in k (p ∷ ps) registers order zero e l m =
    member-left e (made_by k p (slice_index_or registers k []) order) _
    (subst (λ z. Member e (made_by z p (slice_index_or registers z []) order)) (let z : k + 0 ≡ k = omega arith in z) m)
made-in k (p ∷ ps) registers order (suc j) e l m =
    member-right e (made_by k p (slice_index_or registers k []) order) (made_from (k + 1) ps registers order)
    (made-in (k + 1) ps registers order j e (omega arith)
    (subst (λ z. Member e (made_by z (slice_index_or ps j []) (slice_index_or registers z []) order))
    (let z : k + suc j ≡ (k + 1) + j = omega arith in z) m))

made-distinct : (k : ℕ) (ps : List (List Instr)) (registers : List (List ℕ)) (order : List Entry) → Distinct (made_from k ps registers order)
made-distinct k [] registers order = tt
made-distinct k (p ∷ ps) registers order =
    distinct-append (made_by k p (slice_index_or registers k []) order) (made_from (k + 1) ps registers order)
    (entries-distinct k 0 p (slice_index_or registers k []) (read_values k 0 p order)) (made-distinct (k + 1) ps registers order)
    (λ x y m n e. let h = made-at (k + 1) ps registers order y n in
    let a = (each-of (λ z. (z.core.0 ≡ k) × (0 ≤ z.place)) x _ (entries-from k 0 p (slice_index_or registers k []) (read_values k 0 p order)) m).0 in
    let b = h.core in omega (arith, e))

may : (b : Bool) → (b ≡ false → ⊥) → b ≡ true
may true f = refl
may false f = absurd (f refl)

kept-ordered : (k : ℕ) (xs : List Entry) → KeepsProgramOrder xs → Ordered 1 k xs
kept-ordered k [] h = tt
kept-ordered k (x ∷ xs) h = (
  each-from (λ y. Fine 1 k x y) xs (λ y m c b. let i = member-at y xs m in
      (may (may_be_passed y x) (λ f. let l = h (suc i.0) 0 y x i.1 refl b f in let z : ⊥ = omega (arith, l) in z), omega arith)),
  kept-ordered k xs (λ i j x y a b c d. let l = h (suc i) (suc j) x y a b c d in omega (arith, l)),
)

kept-paired : (xs : List Entry) → IsAdjacent xs → Paired xs
kept-paired [] h = tt
kept-paired (x ∷ xs) h = (λ l. next xs (h 0 x refl l), kept-paired xs (λ i y e l. h (suc i) y e l))
  where
    next : (xs : List Entry) → (y : Entry) × (slice_get (x ∷ xs) 1 ≡ Some y) × IsStorePart x y → Next x xs
    next [] p = absurd (let q = p.1 in let z : ⊥ = cc in z)
    next (z ∷ zs) p = record { store = p.0; rest = zs; is = ap (λ w. w ∷ zs) (let q = p.1 in let w : z ≡ p.0 = cc in w); pair = p.2 }

-- the entries of a whole order are those of the programs
pub record Own (t : Litmus) (order : List Entry) : Type 0 where
  pub within : (e : Entry) → Member e (made t order) → Member e order
  pub distinct : Distinct order
  pub made : (e : Entry) → Member e order → Member e (made t order)
  pub in_made : (e : Entry) → Member e order → (e.core.0 < length t.programs) × Member e (made_by e.core.0 (program_of t e.core.0) (first_of t e.core.0) order)

-- an entry that the programs make is made by the program of its core
pub of-core : (t : Litmus) (order : List Entry) (e : Entry)
    → Made 0 t.programs t.registers order e
    → (e.core.0 < length t.programs) × Member e (made_by e.core.0 (program_of t e.core.0) (first_of t e.core.0) order)
of-core t order e m =
    let c : m.at ≡ e.core.0 = (let q = m.core in omega arith) in
    let z : 0 + m.at ≡ m.at = omega arith in
    let one : Member e (made_by m.at (program_of t m.at) (first_of t m.at) order) =
    subst (λ w. Member e (made_by w (program_of t m.at) (first_of t w) order)) z m.member in
    ((let l = m.within in omega arith), subst (λ w. Member e (made_by w (program_of t w) (first_of t w) order)) c one)

pub whole-own : (t : Litmus) (order : List Entry) → IsWhole t order → Own t order
whole-own t order h =
    let within : (e : Entry) → Member e (made t order) → Member e order =
    (λ (e : Entry) (m : Member e (made t order)). let i = member-at e (made t order) m in let s = h.each i.0 e i.1 in at-member order s.0 e s.1) in
    let s = pigeons (made t order) order (made-distinct 0 t.programs t.registers order) within h.count in
    record {
      within = within;
      distinct = s.distinct;
      made = s.in_made;
      in_made = λ e m. of-core t order e (made-at 0 t.programs t.registers order e (s.in_made e m));
    }

-- each entry is in a distinct list once
pub distinct-once : (xs : List Entry) (i j : ℕ) (e : Entry) → Distinct xs → slice_get xs i ≡ Some e → slice_get xs j ≡ Some e → i ≡ j
distinct-once [] i j e d a b = absurd (let z : ⊥ = cc in z)
distinct-once (x ∷ xs) zero zero e d a b = refl
distinct-once (x ∷ xs) zero (suc j) e d a b =
    absurd (let q : x ≡ e = cc in each-of (Apart x) e xs d.0 (at-member xs j e b) (ap (λ z. z.core.0) q) (ap (λ z. rank z) q))
distinct-once (x ∷ xs) (suc i) zero e d a b =
    absurd (let q : x ≡ e = cc in each-of (Apart x) e xs d.0 (at-member xs i e a) (ap (λ z. z.core.0) q) (ap (λ z. rank z) q))
distinct-once (x ∷ xs) (suc i) (suc j) e d a b = ap suc (distinct-once xs i j e d.1 a b)

pub whole-once : (t : Litmus) (order : List Entry) (i j : ℕ) (e : Entry) → IsWhole t order → slice_get order i ≡ Some e → slice_get order j ≡ Some e → i ≡ j
whole-once t order i j e h a b = distinct-once order i j e (whole-own t order h).distinct a b

pub whole-made : (t : Litmus) (order : List Entry) (e : Entry) → IsWhole t order → StandsIn order e → StandsIn (made t order) e
whole-made t order e h m = member-at e (made t order) ((whole-own t order h).made e (at-member order m.0 e m.1))

pub tso-good : (d : ℕ) (t : Litmus) (order : List Entry) → HasLocations t → IsTsoExecution t order → needs order ≤ d → Good d t order
tso-good d t order known h n =
    let s = whole-own t order h.whole in
    record {
      made_in = λ k e l m.
          s.within e (made-in 0 t.programs t.registers order k e l
          (subst (λ z. Member e (made_by z (program_of t k) (first_of t z) order)) (let z : k ≡ 0 + k = omega arith in z) m));
      in_made = s.in_made;
      distinct = s.distinct;
      ordered = λ k l. kept-ordered k order h.program_order;
      due = λ front x back q r. h.read_values front x back q r ∙ due-is x front back (slice_index t.words x.loc.0);
      pairs = kept-paired order h.adjacent;
      enough = n;
      known = known;
    }
