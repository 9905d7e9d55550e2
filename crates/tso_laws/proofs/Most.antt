-- No order needs more depth than a program has plain stores.
use Rattle.tso_laws.proofs.Vocabulary.{◌≡◌, ◌<◌, ◌≤◌, ℕ, ◌+◌, zero, suc, List, [], ◌∷◌, ◌++◌, Bool, true, false, length, slice_index}
use Rattle.tso_laws.proofs.Vocabulary.{slice_index_or, arith, ap, sym, ◌∙◌, refl, inl, inr, subst, if◌then◌else◌, nat_lt, ◌==◌, ◌&&◌}
use Rattle.tso_laws.proofs.Vocabulary.{nat_tests, action_of, entries_by, entries_of, Litmus, max-left, max-right, max-within, load-kind}
use Rattle.tso_laws.proofs.Vocabulary.{needed, store_count, stores_in, most_stores, is_store, is_load, rank, IsTsoExecution, read_values}
use Rattle.tso_laws.proofs.Vocabulary.{made_by, Entry, Instr, Action, Store, program_of, Member, cases_Bool}
use Rattle.tso_laws.proofs.Folds.{needed-is, passed, asks, needs}
use Rattle.tso_laws.proofs.Held.{member-left, member-right, member-split, each-of, Distinct, Apart, is_held, held, held-passed}
use Rattle.tso_laws.proofs.OrderSteps.{first_of}
use Rattle.tso_laws.proofs.Whole.{cut-at, length-middle, each-from, Own, whole-own}

-- distinct entries that all are in a list are no more than it has
fewer : (xs ys : List Entry) → Distinct xs → ((e : Entry) → Member e xs → Member e ys) → length xs ≤ length ys
fewer [] ys d f = omega arith
fewer (x ∷ xs) ys d f =
    let c = cut-at x ys (f x (inl refl)) in
    let h = fewer xs (c.front ++ c.back) d.1 (λ y m. elim (member-split y c.front (x ∷ c.back) (subst (λ z. Member y z) c.is (f y (inr m)))) [
      | inl a ↦ member-left y c.front c.back a
      | inr a ↦ elim a [
        | inl q ↦ absurd (each-of (Apart x) y xs d.0 m (ap (λ z. z.core.0) (sym q)) (ap (λ z. rank z) (sym q)))
        | inr b ↦ member-right y c.front c.back b
      ]
    ]) in
    let a = ap length c.is in let b = length-middle c.front c.back x in omega arith

abbrev pick : List Entry → List Entry
pick [] = []
pick (y ∷ ys) = if is_store y then y ∷ pick ys else pick ys

pick-member : (e : Entry) (ys : List Entry) → Member e ys → is_store e ≡ true → Member e (pick ys)
pick-member e [] m w = absurd m
pick-member e (y ∷ ys) (inl q) w = let v : is_store y ≡ true = ap is_store (sym q) ∙ w in rw v (inl q)
pick-member e (y ∷ ys) (inr m) w = elim (cases_Bool (is_store y)) [ inl is ↦ rw is (inr (pick-member e ys m w)) | inr is ↦ rw is (pick-member e ys m w) ]

pick-by : (c place : ℕ) (a : Action) (registers : List ℕ) (word : ℕ) (xs : List Entry)
    → length (pick (entries_by c place a registers word ++ xs)) ≡ store_count a + length (pick xs)
pick-by c place (Store loc operand) registers word xs = omega arith
pick-by c place _ registers word xs = omega arith

pick-count : (c place : ℕ) (p : List Instr) (registers values : List ℕ) → length (pick (entries_of c place p registers values)) ≡ stores_in p
pick-count c place [] registers values = refl
pick-count c place (i ∷ p) registers values =
    pick-by c place (action_of i) registers (slice_index values 0) _ ∙ ap (λ n. store_count (action_of i) + n) (pick-count c (place + 1) p _ _)

-- what is held are stores of the core, in the list
pub record In (k : ℕ) (ys : List Entry) (e : Entry) : Type 0 where
  pub member : Member e ys
  pub core : e.core.0 ≡ k
  pub store : is_store e ≡ true

held-in : (k n : ℕ) (ys : List Entry) (e : Entry) → Member e (held k n ys) → In k ys e
held-in k n [] e m = absurd m
held-in k n (y ∷ ys) e m = go (is_held k n y) refl m (λ h. held-in k n ys e h)
  where
    core-of : (b : Bool) (c k p n : ℕ) → (b && ((c == k) && nat_lt p n)) ≡ true → c ≡ k
    core-of b c k p n h = grind (arith, nat_tests)

    store-of : (b : Bool) (c k p n : ℕ) → (b && ((c == k) && nat_lt p n)) ≡ true → b ≡ true
    store-of b c k p n h = grind (arith, nat_tests)

    up : In k ys e → In k (y ∷ ys) e
    up h = record { member = inr h.member; core = h.core; store = h.store }

    go : (b : Bool) → is_held k n y ≡ b → Member e (if b then y ∷ held k n ys else held k n ys) → (Member e (held k n ys) → In k ys e) → In k (y ∷ ys) e
    go true q (inl i) r = record {
      member = inl i;
      core = ap (λ z. z.core.0) i ∙ core-of (is_store y) y.core.0 k y.place n q;
      store = ap is_store i ∙ store-of (is_store y) y.core.0 k y.place n q;
    }
    go true q (inr i) r = up (r i)
    go false q i r = up (r i)

held-distinct : (k n : ℕ) (ys : List Entry) → Distinct ys → Distinct (held k n ys)
held-distinct k n [] d = tt
held-distinct k n (y ∷ ys) d = elim (cases_Bool (is_held k n y)) [
  | inl is ↦ rw is (each-from (Apart y) (held k n ys) (λ e m. each-of (Apart y) e ys d.0 (held-in k n ys e m).member), held-distinct k n ys d.1)
  | inr is ↦ rw is (held-distinct k n ys d.1)
]

most-at : (ps : List (List Instr)) (k : ℕ) → stores_in (slice_index_or ps k []) ≤ most_stores ps
most-at [] k = omega arith
most-at (p ∷ ps) zero = max-left (stores_in p) (most_stores ps)
most-at (p ∷ ps) (suc k) = let a = most-at ps k in let b = max-right (stores_in p) (most_stores ps) in omega arith

within_depth : (d : ℕ) (t : Litmus) (order xs : List Entry)
    → Own t order
    → most_stores t.programs ≤ d
    → Distinct xs
    → ((e : Entry) → Member e xs → Member e order)
    → needs xs ≤ d
within_depth d t order [] o m u f = omega arith
within_depth d t order (x ∷ xs) o m u f =
    max-within (asks x xs) (needs xs) d (here (is_load x) refl) (within_depth d t order xs o m u.1 (λ e i. f e (inr i)))
  where
    some : (ys : List Entry) → Member x ys → 0 < length ys
    some [] i = absurd i
    some (y ∷ ys) i = omega arith

    asked : (b : Bool) → is_store x ≡ b → (if b then 1 else 0) ≤ d
    asked false q = omega arith
    asked true q =
        let k : ℕ = x.core.0 in
        let a =
        some (pick (made_by k (program_of t k) (first_of t k) order))
        (pick-member x (made_by k (program_of t k) (first_of t k) order) (o.in_made x (f x (inl refl))).1 q) in
        let n = pick-count k 0 (program_of t k) (first_of t k) (read_values k 0 (program_of t k) order) in
        let l = most-at t.programs k in omega arith

    here : (b : Bool) → is_load x ≡ b → (if b then passed x xs else (if is_store x then 1 else 0)) ≤ d
    here true q =
        let k : ℕ = x.core.0 in
        let h = held-passed x xs (load-kind x.kind q) in
        let c = fewer (held k x.place xs) (pick (made_by k (program_of t k) (first_of t k) order)) (held-distinct k x.place xs u.1)
        (λ e i. let j = held-in k x.place xs e i in pick-member e (made_by k (program_of t k) (first_of t k) order)
        (subst (λ z. Member e (made_by z (program_of t z) (first_of t z) order)) j.core (o.in_made e (f e (inr j.member))).1) j.store) in
        let n = pick-count k 0 (program_of t k) (first_of t k) (read_values k 0 (program_of t k) order) in
        let l = most-at t.programs k in omega arith
    here false q = asked (is_store x) refl

pub most-is-enough : (t : Litmus) (order : List Entry) → IsTsoExecution t order → needed order ≤ most_stores t.programs
most-is-enough t order h =
    let o = whole-own t order h.whole in
    rw (needed-is order) (within_depth (most_stores t.programs) t order order o (omega arith) o.distinct (λ e i. i))
