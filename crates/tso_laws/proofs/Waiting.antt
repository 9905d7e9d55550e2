-- What is pending are the issued and uncommitted plain stores of a core, in program order.
use Rattle.tso_laws.proofs.Vocabulary.{◌≡◌, ◌<◌, ◌≤◌, ℕ, ◌+◌, suc, List, [], ◌∷◌, ◌++◌, Bool, true, false, not, length, take, slice_index}
use Rattle.tso_laws.proofs.Vocabulary.{arith, ap, sym, ◌∙◌, refl, inl, inr, subst, ◌==◌, ◌&&◌, ◌||◌, if◌then◌else◌, nat_lt, filter}
use Rattle.tso_laws.proofs.Vocabulary.{nat_tests, action_of, entry, fence, value_in, value_of, updated, entries_by, entries_of, same_kind}
use Rattle.tso_laws.proofs.Vocabulary.{is_before, is_store, rank, part_of, is_store_kind, is_load_kind, by-rank, is_at, made_by}
use Rattle.tso_laws.proofs.Vocabulary.{read_values, CoreState, Instr, Action, Store, Load, Move, Fence, Lock, Entry, Kind, R, W, LR, LW}
use Rattle.tso_laws.proofs.Vocabulary.{part-small, is_committed, is_waiting, Each, each-map, Member, cases_Bool}
use Rattle.tso_laws.proofs.Entries.{Fine, Ordered, count}
use Rattle.tso_laws.proofs.OneList.{Queued}
use Rattle.tso_laws.proofs.CoreInvariant.{CoreInvariant}
use Rattle.tso_laws.proofs.Held.{member-left, member-right, member-split, each-of, Distinct, Apart}
use Rattle.tso_laws.proofs.OrderSteps.{entries-from}
use Rattle.tso_laws.proofs.UpToEntry.{ordered-right, distinct-right}
use Rattle.tso_laws.proofs.Whole.{entries-distinct, pigeons, each-from}

-- by rank, from the lowest
abbrev pub Sorted : List Entry → Type 0
Sorted [] = Unit {0}
Sorted (x ∷ xs) = Each (λ y. rank x < rank y) xs × Sorted xs

below : (x : Entry) (xs : List Entry) (y : Entry) → Each (λ y. rank x < rank y) xs → Member y xs → rank x < rank y
below x xs y h m = each-of (λ y. rank x < rank y) y xs h m

-- two sorted lists with the same members are one
same-list : (xs ys : List Entry) → Sorted xs → Sorted ys → ((e : Entry) → Member e xs → Member e ys) → ((e : Entry) → Member e ys → Member e xs) → xs ≡ ys
same-list [] [] a b f g = refl
same-list [] (y ∷ ys) a b f g = absurd (g y (inl refl))
same-list (x ∷ xs) [] a b f g = absurd (f x (inl refl))
same-list (x ∷ xs) (y ∷ ys) a b f g =
    let e : x ≡ y = first (f x (inl refl)) (g y (inl refl)) in
    ap (λ z. z ∷ xs) e ∙ ap (λ z. y ∷ z) (same-list xs ys a.1 b.1 (λ v m. right v m e (f v (inr m))) (λ v m. left v m e (g v (inr m))))
  where
    first : Member x (y ∷ ys) → Member y (x ∷ xs) → x ≡ y
    first (inl p) n = p
    first (inr m) (inl q) = sym q
    first (inr m) (inr n) = absurd (let l = below y ys x b.0 m in let k = below x xs y a.0 n in let z : ⊥ = omega arith in z)

    right : (v : Entry) → Member v xs → x ≡ y → Member v (y ∷ ys) → Member v ys
    right v m e (inl p) = absurd (let l = below x xs v a.0 m in let q : rank v ≡ rank x = ap (λ z. rank z) (p ∙ sym e) in let z : ⊥ = omega (arith, l, q) in z)
    right v m e (inr n) = n

    left : (v : Entry) → Member v ys → x ≡ y → Member v (x ∷ xs) → Member v xs
    left v m e (inl p) = absurd (let l = below y ys v b.0 m in let q : rank v ≡ rank y = ap (λ z. rank z) (p ∙ e) in let z : ⊥ = omega (arith, l, q) in z)
    left v m e (inr n) = n

-- what a program makes is sorted
later : (c place : ℕ) (e : Entry) (xs : List Entry) → e.place ≡ place → Each (λ y. (y.core.0 ≡ c) × (place + 1 ≤ y.place)) xs → Each (λ y. rank e < rank y) xs
later c place e xs l h =
    let s = part-small e.kind in
    each-map (λ y. (y.core.0 ≡ c) × (place + 1 ≤ y.place)) (λ y. rank e < rank y) xs (λ y q. let p = q.1 in omega (arith, p, l, s)) h

sorted-by : (c place : ℕ) (a : Action) (registers : List ℕ) (word : ℕ) (xs : List Entry)
    → Each (λ y. (y.core.0 ≡ c) × (place + 1 ≤ y.place)) xs
    → Sorted xs
    → Sorted (entries_by c place a registers word ++ xs)
sorted-by c place (Store loc operand) registers word xs h s = (later c place (entry c place W loc (value_of registers operand)) xs refl h, s)
sorted-by c place (Load reg loc) registers word xs h s = (later c place (entry c place R loc word) xs refl h, s)
sorted-by c place (Move change) registers word xs h s = s
sorted-by c place Fence registers word xs h s = (later c place (fence c place) xs refl h, s)
sorted-by c place (Lock loc reg update) registers word xs h s =
    ((omega arith, later c place (entry c place LR loc word) xs refl h), (later c place (entry c place LW loc (updated update registers word)) xs refl h, s))

entries-sorted : (c place : ℕ) (p : List Instr) (registers values : List ℕ) → Sorted (entries_of c place p registers values)
entries-sorted c place [] registers values = tt
entries-sorted c place (i ∷ p) registers values =
    sorted-by c place (action_of i) registers (slice_index values 0) _ (entries-from c (place + 1) p _ _) (entries-sorted c (place + 1) p _ _)

each-filter : (P : Entry → Type 0) (test : Entry → Bool) (xs : List Entry) → Each P xs → Each P (filter test xs)
each-filter P test [] h = tt
each-filter P test (x ∷ xs) h = elim (cases_Bool (test x)) [ inl is ↦ rw is (h.0, each-filter P test xs h.1) | inr is ↦ rw is (each-filter P test xs h.1) ]

filter-sorted : (test : Entry → Bool) (xs : List Entry) → Sorted xs → Sorted (filter test xs)
filter-sorted test [] h = tt
filter-sorted test (x ∷ xs) h = elim (cases_Bool (test x)) [
  | inl is ↦ rw is (each-filter (λ y. rank x < rank y) test xs h.0, filter-sorted test xs h.1)
  | inr is ↦ rw is (filter-sorted test xs h.1)
]

pub in-filter : (test : Entry → Bool) (xs : List Entry) (e : Entry) → Member e xs → test e ≡ true → Member e (filter test xs)
in-filter test [] e m q = absurd m
in-filter test (x ∷ xs) e (inl p) q = let v : test x ≡ true = ap test (sym p) ∙ q in rw v (inl p)
in-filter test (x ∷ xs) e (inr m) q = elim (cases_Bool (test x)) [ inl is ↦ rw is (inr (in-filter test xs e m q)) | inr is ↦ rw is (in-filter test xs e m q) ]

from-filter : (test : Entry → Bool) (xs : List Entry) (e : Entry) → Member e (filter test xs) → Member e xs × test e ≡ true
from-filter test [] e m = absurd m
from-filter test (x ∷ xs) e m = go (test x) refl m (λ h. from-filter test xs e h)
  where
    go : (b : Bool)
        → test x ≡ b
        → Member e (if b then x ∷ filter test xs else filter test xs)
        → (Member e (filter test xs) → Member e xs × test e ≡ true)
        → Member e (x ∷ xs) × test e ≡ true
    go true q (inl p) f = (inl p, ap test p ∙ q)
    go true q (inr m) f = (inr (f m).0, (f m).1)
    go false q m f = (inr (f m).0, (f m).1)

-- the entries of one core
abbrev pub own : ℕ → List Entry → List Entry
own c xs = filter (λ e. e.core.0 == c) xs

own-count : (c : ℕ) (xs : List Entry) → length (own c xs) ≡ count c xs
own-count c [] = refl
own-count c (x ∷ xs) = elim (cases_Bool (x.core.0 == c)) [ inl is ↦ rw is (ap suc (own-count c xs)) | inr is ↦ rw is (own-count c xs) ]

own-append : (c : ℕ) (xs ys : List Entry) → Each (λ y. y.core.0 ≡ c) ys → own c (xs ++ ys) ≡ own c xs ++ ys
own-append c [] [] h = refl
own-append c [] (y ∷ ys) h = let v : (y.core.0 == c) ≡ true = (let k = h.0 in grind (arith, nat_tests)) in rw v (ap (λ z. y ∷ z) (own-append c [] ys h.1))
own-append c (x ∷ xs) ys h = rw (own-append c xs ys h) (go (x.core.0 == c))
  where
    go : (b : Bool) → (if b then x ∷ (own c xs ++ ys) else own c xs ++ ys) ≡ (if b then x ∷ own c xs else own c xs) ++ ys
    go true = refl
    go false = refl

is-own : (a c : ℕ) → a ≡ c → (a == c) ≡ true
is-own a c h = grind (arith, nat_tests)

-- an entry is committed where its like is in the commits
same-kinds : (k : Kind) → same_kind k k ≡ true
same-kinds R = refl
same-kinds _ = refl

at-itself : (e : Entry) → is_at e.core.0 e.place e.kind e ≡ true
at-itself e = rw (same-kinds e.kind) (both e.core.0 e.place)
  where
    both : (a b : ℕ) → ((a == a) && (b == b) && true) ≡ true
    both a b = grind (arith, nat_tests)

pub committed-in : (commits : List Entry) (e : Entry) → Member e commits → is_committed commits e ≡ true
committed-in [] e m = absurd m
committed-in (x ∷ xs) e (inl p) =
    let v : is_at e.core.0 e.place e.kind x ≡ true =
    subst (λ z. is_at e.core.0 e.place e.kind z ≡ true) p (at-itself e) in
    rw v refl
committed-in (x ∷ xs) e (inr m) = rw (committed-in xs e m) (go (is_at e.core.0 e.place e.kind x))
  where
    go : (b : Bool) → (b || true) ≡ true
    go true = refl
    go false = refl

pub record Like (commits : List Entry) (e : Entry) : Type 0 where
  pub other : Entry
  pub member : Member other commits
  pub core : other.core.0 ≡ e.core.0
  pub rank : rank other ≡ rank e

at-rank : (x e : Entry) → is_at e.core.0 e.place e.kind x ≡ true → (x.core.0 ≡ e.core.0) × (rank x ≡ rank e)
at-rank x e h = (
  cores x.core.0 e.core.0 x.place e.place (same_kind x.kind e.kind) h,
  ranks x.place e.place x.kind e.kind
      (places x.core.0 e.core.0 x.place e.place (same_kind x.kind e.kind) h)
      (kinds x.core.0 e.core.0 x.place e.place (same_kind x.kind e.kind) h),
)
  where
    cores : (a b p q : ℕ) (k : Bool) → ((a == b) && (p == q) && k) ≡ true → a ≡ b
    cores a b p q k h = grind (arith, nat_tests)

    places : (a b p q : ℕ) (k : Bool) → ((a == b) && (p == q) && k) ≡ true → p ≡ q
    places a b p q k h = grind (arith, nat_tests)

    kinds : (a b p q : ℕ) (k : Bool) → ((a == b) && (p == q) && k) ≡ true → k ≡ true
    kinds a b p q k h = grind (arith, nat_tests)

    parts : (k j : Kind) → same_kind k j ≡ true → part_of k ≡ part_of j
    parts LW LW h = refl
    parts LW _ h = absurd (let z : ⊥ = cc in z)
    parts _ LW h = absurd (let z : ⊥ = cc in z)
    parts _ _ h = refl

    ranks : (p q : ℕ) (k j : Kind) → p ≡ q → same_kind k j ≡ true → p + p + part_of k ≡ q + q + part_of j
    ranks p q k j e h = let s = parts k j h in omega arith

like : (commits : List Entry) (e : Entry) → is_committed commits e ≡ true → Like commits e
like [] e h = absurd (let z : ⊥ = cc in z)
like (x ∷ xs) e h = go (is_at e.core.0 e.place e.kind x) refl h (like xs e)
  where
    go : (b : Bool) → is_at e.core.0 e.place e.kind x ≡ b → (b || is_committed xs e) ≡ true → (is_committed xs e ≡ true → Like xs e) → Like (x ∷ xs) e
    go true q k f = let r = at-rank x e q in record { other = x; member = inl refl; core = r.0; rank = r.1 }
    go false q k f = let r = f k in record { other = r.other; member = inr r.member; core = r.core; rank = r.rank }

-- of a distinct list, no entry of the first part is like one of the rest
separated : (xs ys : List Entry) (x y : Entry) → Distinct (xs ++ ys) → Member x xs → Member y ys → Apart x y
separated [] ys x y d m n = absurd m
separated (z ∷ zs) ys x y d (inl p) n = subst (λ v. Apart v y) (sym p) (each-of (Apart z) y (zs ++ ys) d.0 (member-right y zs ys n))
separated (z ∷ zs) ys x y d (inr m) n = separated zs ys x y d.1 m n

-- pending stores are in program order
queue-sorted : (d c n : ℕ) (ys : List Entry) → Ordered d c ys → Distinct ys → Each (Queued c n) ys → Sorted ys
queue-sorted d c n [] o u q = tt
queue-sorted d c n (y ∷ ys) o u q = (each-from (λ z. rank y < rank z) ys (λ z m. above z m), queue-sorted d c n ys o.1 u.1 q.1)
  where
    not-passed : (a b : Kind) → b ≡ W → (is_store_kind a && is_load_kind b) ≡ true → ⊥
    not-passed a b w h = let l : is_load_kind b ≡ false = rw w refl in let e : ⊥ = grind (arith, l, h) in e

    less : (x y : Entry) → x.core.0 ≡ y.core.0 → (is_before y x ≡ true → ⊥) → (rank x ≡ rank y → ⊥) → rank x < rank y
    less x y c f g = let b = λ (h : ((y.core.0 == x.core.0) && nat_lt (rank y) (rank x)) ≡ true). f (by-rank y x ∙ h) in grind (arith, nat_tests)

    above : (z : Entry) → Member z ys → rank y < rank z
    above z m =
        let p = each-of (Queued c n) z ys q.1 m in
        let f = each-of (λ z. Fine d c y z) z ys o.0 m in
        let a = each-of (Apart y) z ys u.0 m in
        let k : y.core.0 ≡ z.core.0 = q.0.own ∙ sym p.own in
        less y z k (λ b. not-passed z.kind y.kind q.0.kind (f p.own b).0) (λ r. a k r)

-- what a core has done, and what is still pending of it
pub record Waits (c : ℕ) (commits done : List Entry) (s : CoreState) : Type 0 where
  pub pending : s.pending ≡ filter (is_waiting commits) done
  pub others : (e : Entry) → Member e done → is_waiting commits e ≡ false → Member e commits
  pub issued : (e : Entry) → Member e commits → e.core.0 ≡ c → Member e done

pub waits : (d c : ℕ) (program : List Instr) (first words : List ℕ) (commits : List Entry) (s : CoreState)
    (h : CoreInvariant d c program first words commits s)
    → Waits c commits h.done s
waits d c program first words commits s h =
    let makes : made_by c (take s.place program) first (commits ++ []) ≡ h.done = h.made [] in
    let distinct : Distinct h.done =
    subst (λ z. Distinct z) makes (entries-distinct c 0 (take s.place program) first (read_values c 0 (take s.place program) (commits ++ []))) in
    let sorted : Sorted h.done =
    subst (λ z. Sorted z) makes (entries-sorted c 0 (take s.place program) first (read_values c 0 (take s.place program) (commits ++ []))) in
    let of_core : Each (λ e. e.core.0 ≡ c) h.done =
    subst (λ z. Each (λ e. e.core.0 ≡ c) z) makes
    (each-map (λ e. (e.core.0 ≡ c) × (0 ≤ e.place)) (λ e. e.core.0 ≡ c) _ (λ e q. q.0)
    (entries-from c 0 (take s.place program) first (read_values c 0 (take s.place program) (commits ++ [])))) in
    let queue : Each (λ e. e.core.0 ≡ c) s.pending = each-map (Queued c (length words)) (λ e. e.core.0 ≡ c) s.pending (λ e q. q.own) h.queued in
    let split : own c (commits ++ s.pending) ≡ own c commits ++ s.pending = own-append c commits s.pending queue in
    let inside : (e : Entry) → Member e h.done → Member e (own c (commits ++ s.pending)) =
    (λ (e : Entry) (m : Member e h.done).
    in-filter (λ z. z.core.0 == c) (commits ++ s.pending) e
    (each-of (λ z. Member z (commits ++ s.pending)) e h.done h.sees.members m)
    (is-own e.core.0 c (each-of (λ z. z.core.0 ≡ c) e h.done of_core m))) in
    let same = pigeons h.done (own c (commits ++ s.pending)) distinct inside (own-count c (commits ++ s.pending) ∙ sym h.sees.counted) in
    let apart : Distinct (own c commits ++ s.pending) = subst (λ z. Distinct z) split same.distinct in
    let uncommitted : (e : Entry) → Member e s.pending → is_committed commits e ≡ false =
    (λ (e : Entry) (m : Member e s.pending). no (is_committed commits e) (λ q. let k = like commits e q in
    separated (own c commits) s.pending k.other e apart
    (in-filter (λ z. z.core.0 == c) commits k.other k.member (is-own k.other.core.0 c (k.core ∙ each-of (λ z. z.core.0 ≡ c) e s.pending queue m)))
    m k.core k.rank)) in
    let waiting : (e : Entry) → Member e s.pending → is_waiting commits e ≡ true =
    (λ (e : Entry) (m : Member e s.pending). rw (ap is_store_kind (each-of (Queued c (length words)) e s.pending h.queued m).kind, uncommitted e m) refl) in
    let from : (e : Entry) → Member e s.pending → Member e h.done =
    (λ (e : Entry) (m : Member e s.pending). same.in_made e (subst (λ z. Member e z) (sym split) (member-right e (own c commits) s.pending m))) in
    let to : (e : Entry) → Member e h.done → is_committed commits e ≡ false → Member e s.pending =
    (λ (e : Entry) (m : Member e h.done) (q : is_committed commits e ≡ false).
    elim (member-split e commits s.pending (each-of (λ z. Member z (commits ++ s.pending)) e h.done h.sees.members m)) [
      | inl a ↦ absurd (let k = committed-in commits e a in let z : ⊥ = cc in z)
      | inr a ↦ a
    ]) in
    record {
      pending = same-list s.pending (filter (is_waiting commits) h.done)
          (queue-sorted d c (length words) s.pending (ordered-right d c commits s.pending h.sees.kept)
          (distinct-right (own c commits) s.pending apart) h.queued)
          (filter-sorted (is_waiting commits) h.done sorted)
          (λ e m. in-filter (is_waiting commits) h.done e (from e m) (waiting e m))
          (λ e m. let f = from-filter (is_waiting commits) h.done e m in to e f.0 (not-true (is_store e) (is_committed commits e) f.1));
      others = λ e m q. elim (member-split e commits s.pending (each-of (λ z. Member z (commits ++ s.pending)) e h.done h.sees.members m)) [
        | inl a ↦ a
        | inr a ↦ absurd (let w = waiting e a in let z : ⊥ = cc in z)
      ];
      issued = λ e m k. same.in_made e (in-filter (λ z. z.core.0 == c) (commits ++ s.pending) e (member-left e commits s.pending m) (is-own e.core.0 c k));
    }
  where
    no : (b : Bool) → (b ≡ true → ⊥) → b ≡ false
    no true h = absurd (h refl)
    no false h = refl

    not-true : (a b : Bool) → (a && not b) ≡ true → b ≡ false
    not-true true true h = absurd (let z : ⊥ = cc in z)
    not-true true false h = refl
    not-true false b h = absurd (let z : ⊥ = cc in z)
