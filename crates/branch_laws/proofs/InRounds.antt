-- Each read of an execution has a value of the round whose number is that of the writes before it, in memory order or in its program.
use Rattle.std.proofs.Common.{◌≡◌, ℕ, ◌+◌, zero, suc, List, [], ◌∷◌, ◌++◌, Some, filter, Bool, true, false, ◌⊎◌, ◌<◌, ◌≤◌, ◌==◌, ◌&&◌, ◌||◌}
use Rattle.std.proofs.Common.{nat_lt, length, slice_get, slice_index, slice_index_or, arith, ap, sym, ◌∙◌, refl, subst, inl, inr, ◌↔◌}
use Rattle.std.proofs.lemmas.Bool.Decides.{nat_tests}
use Rattle.basic_laws.proofs.Basics.{and-left, and-right, before, core-before}
use Rattle.basic_laws.proofs.Ranks.{by-rank}
use Rattle.basic_laws.specs.Ranks.{rank}
use Rattle.tso_terms.specs.ProgramOrder.{same_kind, is_before, is_read, is_write, writes_to}
use Rattle.tso_terms.specs.Axioms.{KeepsProgramOrder, last_value, counting}
use Rattle.tso_terms.specs.Standing.{StandsIn}
use Rattle.tso_laws.specs.inner.Laws.{WholeOrdersHaveEachEntryOnce}
use Rattle.basic_laws.specs.Types.{Entry, Kind, R, W, F, LR, LW}
use Rattle.branch_laws.specs.Trees.{Tree, Cut, entries_along, values_along, outputs_along}
use Rattle.branch_laws.specs.Branching.{Branching, Give, values_from, made_along, straight, IsBranchExecution, IsBranchOutcome, IsPathOutcome}
use Rattle.branch_laws.specs.Rounds.{StandsAmong, round, all_may_write, all_paths, ArePaths, writes_in, AddsNothing, AreEnough}
use Rattle.branch_laws.proofs.Among.{among-left, among-right, among-either, among-filter, among-get, get-among}
use Rattle.branch_laws.proofs.Rounds.{later-round, stays-so, write-among-all, more-paths}
use Rattle.branch_laws.proofs.Causes.{IsOf, write-rests, path-rests}
use Rattle.branch_laws.proofs.Counted.{count, count-less, count-filter}
use Rattle.branch_laws.proofs.Splitting.{to-own, to-path, makes-own, same-outcomes}

-- the entry is of this core's tree, with the order's own read values
abbrev pub IsMadeBy : Branching → List Entry → ℕ → Entry → Type 0
IsMadeBy b order k e =
    StandsAmong e (entries_along k 0 (slice_index_or b.trees k Cut) (values_along k 0 (slice_index_or b.trees k Cut) order))

made-of : (c : ℕ) (trees : List Tree) (order : List Entry) (e : Entry) → StandsAmong e (made_along c trees order)
    → (k : ℕ)
    × (k < length trees)
    × StandsAmong e (entries_along (c + k) 0 (slice_index_or trees k Cut) (values_along (c + k) 0 (slice_index_or trees k Cut) order))
made-of c [] order e h = absurd h
made-of c (tree ∷ trees) order e h = elim (among-either e (entries_along c 0 tree (values_along c 0 tree order)) (made_along (c + 1) trees order) h) [
  | inl k ↦ (0, omega arith, subst (λ z. StandsAmong e (entries_along z 0 tree (values_along z 0 tree order))) (let z : c ≡ c + 0 = omega arith in z) k)
  | inr k ↦ (let r = made-of (c + 1) trees order e k in (
    suc r.0,
    (let z = r.1 in omega arith),
    subst (λ z.
        StandsAmong e (entries_along z 0 (slice_index_or trees r.0 Cut) (values_along z 0 (slice_index_or trees r.0 Cut) order)))
        (let z : (c + 1) + r.0 ≡ c + suc r.0 = omega arith in z) r.2,
  ))
]

of-made : (c : ℕ) (trees : List Tree) (order : List Entry) (e : Entry) (k : ℕ) → k < length trees
    → StandsAmong e (entries_along (c + k) 0 (slice_index_or trees k Cut) (values_along (c + k) 0 (slice_index_or trees k Cut) order))
    → StandsAmong e (made_along c trees order)
of-made c [] order e k l h = absurd (omega arith)
of-made c (tree ∷ trees) order e zero l h =
    among-left e (entries_along c 0 tree (values_along c 0 tree order)) (made_along (c + 1) trees order)
    (subst (λ z. StandsAmong e (entries_along z 0 tree (values_along z 0 tree order))) (let z : c + 0 ≡ c = omega arith in z) h)
of-made c (tree ∷ trees) order e (suc k) l h =
    among-right e (entries_along c 0 tree (values_along c 0 tree order)) (made_along (c + 1) trees order)
    (of-made (c + 1) trees order e k (omega arith)
    (subst (λ z.
    StandsAmong e (entries_along z 0 (slice_index_or trees k Cut) (values_along z 0 (slice_index_or trees k Cut) order)))
    (let z : c + suc k ≡ (c + 1) + k = omega arith in z) h))

-- what is used of an execution here
pub record Facts (b : Branching) (order : List Entry) : Type 0 where
  pub stands : (k : ℕ) (e : Entry) → k < length b.trees → IsMadeBy b order k e → (i : ℕ) × (slice_get order i ≡ Some e)
  pub made : (i : ℕ) (e : Entry) → slice_get order i ≡ Some e → (k : ℕ) × (k < length b.trees) × IsMadeBy b order k e
  pub keeps : KeepsProgramOrder order
  pub reads : (front : List Entry) (x : Entry) (back : List Entry) → order ≡ front ++ (x ∷ back) → is_read x ≡ true
      → x.value ≡ last_value (counting x front back) (slice_index b.words x.loc.0)

pub facts-of : WholeOrdersHaveEachEntryOnce → (b : Branching) (order : List Entry) (outputs : List (List ℕ)) → IsBranchExecution b order outputs → Facts b order
facts-of law b order outputs h = record {
  stands = λ k e l m. (let r = among-get e (made_along 0 b.trees order) (of-made 0 b.trees order e k l
      (subst (λ z.
      StandsAmong e (entries_along z 0 (slice_index_or b.trees k Cut) (values_along z 0 (slice_index_or b.trees k Cut) order)))
      (let z : k ≡ 0 + k = omega arith in z) m)) in
      h.each r.0 e r.2);
  made = λ i e g. (
      let s : StandsIn (made_along 0 b.trees order) e = subst (λ z. StandsIn z e) (makes-own b order)
      (law.made_by_the_programs (straight b (values_from 0 b.trees order)) order e (to-own b order outputs h).1.whole (i, g)) in
      let r = made-of 0 b.trees order e (get-among e (made_along 0 b.trees order) s.0 s.1) in (
        r.0,
        r.1,
        subst (λ z.
            StandsAmong e (entries_along z 0 (slice_index_or b.trees r.0 Cut) (values_along z 0 (slice_index_or b.trees r.0 Cut) order)))
            (let z : 0 + r.0 ≡ r.0 = omega arith in z) r.2,
      )
      );
  keeps = h.program_order;
  reads = h.read_values;
}

-- program order

rank-before : (x y : Entry) → is_before x y ≡ true → rank x < rank y
rank-before x y h =
    let t : nat_lt (rank x) (rank y) ≡ true =
    and-right (x.core.0 == y.core.0) (nat_lt (rank x) (rank y)) (sym (by-rank x y) ∙ h) in
    less (rank x) (rank y) t
  where
    less : (m n : ℕ) → nat_lt m n ≡ true → m < n
    less m n t = grind (arith, nat_tests)

through : (x y z : Entry) → is_before x y ≡ true → is_before y z ≡ true → is_before x z ≡ true
through x y z h k = before x z (core-before x y h ∙ core-before y z k) (let a = rank-before x y h in let b = rank-before y z k in omega arith)

not-back : (x y : Entry) → is_before x y ≡ true → is_before y x ≡ false
not-back x y h = go (is_before y x) refl
  where
    go : (t : Bool) → is_before y x ≡ t → t ≡ false
    go true q = absurd (let a = rank-before x y h in let b = rank-before y x q in let z : ⊥ = omega arith in z)
    go false q = refl

passed-read : (j k : Kind) → (same_kind j R || same_kind j LR) ≡ true → (same_kind j W && same_kind k R) ≡ false
passed-read R k h = refl
passed-read LR k h = refl
passed-read W k h = absurd (let z : ⊥ = cc in z)
passed-read LW k h = refl
passed-read F k h = refl

passed-write : (j k : Kind) → (same_kind k W || same_kind k LW) ≡ true → (same_kind j W && same_kind k R) ≡ false
passed-write j W h = no-pass (same_kind j W)
  where
    no-pass : (t : Bool) → (t && false) ≡ false
    no-pass true = refl
    no-pass false = refl
passed-write j LW h = no-pass (same_kind j W)
  where
    no-pass : (t : Bool) → (t && false) ≡ false
    no-pass true = refl
    no-pass false = refl
passed-write j R h = absurd (let z : ⊥ = cc in z)
passed-write j LR h = absurd (let z : ⊥ = cc in z)
passed-write j F h = absurd (let z : ⊥ = cc in z)

-- the writes that a read x at place j of the order can see: those before it in the order, or in its program
abbrev can_see : ℕ → Entry → ℕ → Entry → Bool
can_see j x i e = is_write e && (nat_lt i j || is_before e x)

true-or : (s t : Bool) → (s || t) ≡ true → (s ≡ true) ⊎ (t ≡ true)
true-or true t h = inl refl
true-or false t h = inr h

or-left : (s t : Bool) → s ≡ true → (s || t) ≡ true
or-left s t h = rw h refl

or-right : (s t : Bool) → t ≡ true → (s || t) ≡ true
or-right true t h = refl
or-right false t h = h

both : (s t : Bool) → s ≡ true → t ≡ true → (s && t) ≡ true
both s t h k = rw (h, k) refl

neither : (s t u : Bool) → t ≡ false → u ≡ false → (s && (t || u)) ≡ false
neither true t u h k = rw (h, k) refl
neither false t u h k = refl

lt-true : (m n : ℕ) → m < n → nat_lt m n ≡ true
lt-true m n h = grind (arith, nat_tests)

lt-false : (m n : ℕ) → n ≤ m → nat_lt m n ≡ false
lt-false m n h = grind (arith, nat_tests)

true-lt : (m n : ℕ) → nat_lt m n ≡ true → m < n
true-lt m n h = grind (arith, nat_tests)

-- a read r before a write w that x can see: r sees fewer
fewer : (order : List Entry) (i j h : ℕ) (r w x : Entry)
    → KeepsProgramOrder order
    → slice_get order i ≡ Some r
    → slice_get order h ≡ Some w
    → slice_get order j ≡ Some x
    → is_read r ≡ true → is_write w ≡ true → is_before r w ≡ true → i < j → i < h → (h < j) ⊎ (is_before w x ≡ true)
    → count (can_see i r) 0 order < count (can_see j x) 0 order
fewer order i j h r w x keeps gr gw gx ir iw rw_before ij ih sees = count-less (can_see i r) (can_see j x) 0 order h w more gw
    (subst (λ z. (is_write w && (nat_lt z i || is_before w r)) ≡ false) (let z : h ≡ 0 + h = omega arith in z)
    (neither (is_write w) (nat_lt h i) (is_before w r) (lt-false h i (omega arith)) (not-back r w rw_before)))
    (subst (λ z. (is_write w && (nat_lt z j || is_before w x)) ≡ true) (let z : h ≡ 0 + h = omega arith in z)
    (both (is_write w) (nat_lt h j || is_before w x) iw (elim sees [
      | inl l ↦ or-left (nat_lt h j) (is_before w x) (lt-true h j l)
      | inr l ↦ or-right (nat_lt h j) (is_before w x) l
    ])))
  where
    seen_value : (k : ℕ) (e : Entry)
        → slice_get order k ≡ Some e
        → is_write e ≡ true
        → (nat_lt k i ≡ true) ⊎ (is_before e r ≡ true)
        → (nat_lt k j || is_before e x) ≡ true
    seen_value k e g wr (inl l) = or-left (nat_lt k j) (is_before e x) (lt-true k j (let z = true-lt k i l in omega arith))
    seen_value k e g wr (inr l) = elim sees [
      | inl m ↦
          or-left (nat_lt k j) (is_before e x)
          (lt-true k j (let z : k < h = keeps k h e w g gw (through e r w l rw_before) (passed-write e.kind w.kind iw) in omega arith))
      | inr m ↦ or-right (nat_lt k j) (is_before e x) (through e w x (through e r w l rw_before) m)
    ]

    more : (k : ℕ) (e : Entry) → slice_get order k ≡ Some e → can_see i r (0 + k) e ≡ true → can_see j x (0 + k) e ≡ true
    more k e g t =
        let s : (is_write e && (nat_lt k i || is_before e r)) ≡ true =
        subst (λ z. (is_write e && (nat_lt z i || is_before e r)) ≡ true) (let z : 0 + k ≡ k = omega arith in z) t in
        let wr = and-left (is_write e) (nat_lt k i || is_before e r) s in
        subst (λ z. (is_write e && (nat_lt z j || is_before e x)) ≡ true) (let z : k ≡ 0 + k = omega arith in z)
        (both (is_write e) (nat_lt k j || is_before e x) wr
        (seen_value k e g wr (true-or (nat_lt k i) (is_before e r) (and-right (is_write e) (nat_lt k i || is_before e r) s))))

-- an order at one of its entries

record SplitAt (order : List Entry) (j : ℕ) (x : Entry) : Type 0 where
  pub front : List Entry
  pub back : List Entry
  pub is : order ≡ front ++ (x ∷ back)
  pub size : length front ≡ j

split-at : (order : List Entry) (j : ℕ) (x : Entry) → slice_get order j ≡ Some x → SplitAt order j x
split-at [] j x e = absurd (let z : ⊥ = cc in z)
split-at (y ∷ order) zero x e = record { front = []; back = order; is = ap (λ z. z ∷ order) (let z : y ≡ x = cc in z); size = refl }
split-at (y ∷ order) (suc j) x e =
    let r = split-at order j x e in
    record { front = y ∷ r.front; back = r.back; is = ap (λ z. y ∷ z) r.is; size = ap suc r.size }

in-front : (w : Entry) (front rest : List Entry) → StandsAmong w front → (i : ℕ) × (i < length front) × (slice_get (front ++ rest) i ≡ Some w)
in-front w [] rest h = absurd h
in-front w (y ∷ front) rest (inl q) = (0, omega arith, ap Some (sym q))
in-front w (y ∷ front) rest (inr h) = let r = in-front w front rest h in (suc r.0, (let z = r.1 in omega arith), r.2)

in-back : (w x : Entry) (front back : List Entry) → StandsAmong w back → (i : ℕ) × (slice_get (front ++ (x ∷ back)) i ≡ Some w)
in-back w x [] back h = let r = among-get w back h in (suc r.0, r.2)
in-back w x (y ∷ front) back h = let r = in-back w x front back h in (suc r.0, r.1)

last-of : (es : List Entry) (word : ℕ) → (last_value es word ≡ word) ⊎ ((w : Entry) × StandsAmong w es × (last_value es word ≡ w.value))
last-of [] word = inl refl
last-of (e ∷ es) word = elim (last-of es e.value) [
  | inl q ↦ inr (e, inl refl, q)
  | inr r ↦ inr (r.0, inr r.1, r.2)
]

same-number : (a b : ℕ) → (a == b) ≡ true → a ≡ b
same-number a b h = grind (arith, nat_tests)

-- where a read's value comes from: from the first word, or from a write that it can see
data Source (b : Branching) (order : List Entry) (j : ℕ) (x : Entry) : Type 0 where
  word : x.value ≡ slice_index b.words x.loc.0 → Source b order j x
  from : (h : ℕ) (w : Entry) → slice_get order h ≡ Some w → is_write w ≡ true → w.loc.0 ≡ x.loc.0 → x.value ≡ w.value
      → (h < j) ⊎ (is_before w x ≡ true) → Source b order j x

source : (b : Branching) (order : List Entry) (j : ℕ) (x : Entry) → Facts b order → slice_get order j ≡ Some x → is_read x ≡ true → Source b order j x
source b order j x f g ir = go (last-of (counting x s.front s.back) (slice_index b.words x.loc.0))
  where
    s : SplitAt order j x
    s = split-at order j x g

    due : x.value ≡ last_value (counting x s.front s.back) (slice_index b.words x.loc.0)
    due = f.reads s.front x s.back s.is ir

    place : (w : Entry)
        → StandsAmong w s.front ⊎ StandsAmong w (filter (λ e. is_before e x) s.back)
        → (h : ℕ) × (slice_get order h ≡ Some w) × ((h < j) ⊎ (is_before w x ≡ true))
    place w (inl m) =
        let r = in-front w s.front (x ∷ s.back) m in
        (r.0, subst (λ z. slice_get z r.0 ≡ Some w) (sym s.is) r.2, inl (let z = r.1 in let y = s.size in omega arith))
    place w (inr m) =
        let k = among-filter (λ e. is_before e x) w s.back m in
        let r = in-back w x s.front s.back k.0 in
        (r.0, subst (λ z. slice_get z r.0 ≡ Some w) (sym s.is) r.1, inr k.1)

    go : (last_value (counting x s.front s.back) (slice_index b.words x.loc.0) ≡ slice_index b.words x.loc.0)
        ⊎ ((w : Entry)
        × StandsAmong w (counting x s.front s.back)
        × (last_value (counting x s.front s.back) (slice_index b.words x.loc.0) ≡ w.value))
        → Source b order j x
    go (inl q) = word (due ∙ q)
    go (inr r) =
        let k = among-filter (writes_to x.loc.0) r.0 (s.front ++ filter (λ e. is_before e x) s.back) r.1 in
        let p = place r.0 (among-either r.0 s.front (filter (λ e. is_before e x) s.back) k.0) in
        from p.0 r.0 p.1 (and-left (is_write r.0) (r.0.loc.0 == x.loc.0) k.1)
        (same-number r.0.loc.0 x.loc.0 (and-right (is_write r.0) (r.0.loc.0 == x.loc.0) k.1)) (due ∙ r.2) p.2

pub tree-among : (trees : List Tree) (k : ℕ) → k < length trees → StandsAmong (slice_index_or trees k Cut) trees
tree-among [] k l = absurd (omega arith)
tree-among (tree ∷ trees) zero l = inl refl
tree-among (tree ∷ trees) (suc k) l = inr (tree-among trees k (omega arith))

abbrev IsOfRound : Branching → List Entry → ℕ → Entry → Type 0
IsOfRound b order j x = StandsAmong x.value (round b (count (can_see j x) 0 order) x.loc.0)

by-source : (b : Branching) (order : List Entry) (j : ℕ) (x : Entry) → Facts b order → slice_get order j ≡ Some x → is_read x ≡ true
    → ((i : ℕ) (r : Entry) → i < j → slice_get order i ≡ Some r → is_read r ≡ true → IsOfRound b order i r) → Source b order j x → IsOfRound b order j x
by-source b order j x f g ir earlier (word q) =
    later-round b 0 (count (can_see j x) 0 order) (omega arith) x.loc.0 x.value (inl q)
by-source b order j x f g ir earlier (from h w gw iw at q sees) = go (count (can_see j x) 0 order) refl
  where
    own : (k : ℕ) × (k < length b.trees) × IsMadeBy b order k w
    own = f.made h w gw

    goal_at : ℕ → Type 0
    goal_at n = StandsAmong x.value (round b n x.loc.0)

    -- the reads before w come before x, and are of earlier rounds
    rests : (m : ℕ) → count (can_see j x) 0 order ≡ suc m → (r : Entry)
        → StandsAmong r (entries_along own.0 0 (slice_index_or b.trees own.0 Cut) (values_along own.0 0 (slice_index_or b.trees own.0 Cut) order))
        → is_read r ≡ true → is_before r w ≡ true → IsOf (round b m) r
    rests m e r made ird rw_before =
        let s = f.stands own.0 r own.1 made in
        let ih : s.0 < h = f.keeps s.0 h r w s.1 gw rw_before (passed-read r.kind w.kind ird) in
        let ij : s.0 < j = elim sees [
          | inl l ↦ (let z = ih in let y = l in omega arith)
          | inr l ↦ f.keeps s.0 j r x s.1 g (through r w x rw_before l) (passed-read r.kind x.kind ird)
        ] in
        let less = fewer order s.0 j h r w x f.keeps s.1 gw g ird iw rw_before ij ih sees in
        later-round b (count (can_see s.0 r) 0 order) m (omega arith) r.loc.0 r.value (earlier s.0 r ij s.1 ird)

    wrote : (m : ℕ) → count (can_see j x) 0 order ≡ suc m → StandsAmong w.value (all_may_write (round b m) w.loc.0 b.trees)
    wrote m e = write-among-all (round b m) w.loc.0 w.value b.trees (slice_index_or b.trees own.0 Cut) (tree-among b.trees own.0 own.1)
        (write-rests (round b m) own.0 0 (slice_index_or b.trees own.0 Cut) order w own.2 iw (rests m e))

    -- x sees w, so at least one write
    some : 0 < count (can_see j x) 0 order
    some =
        let least = count-less (λ i e. false) (can_see j x) 0 order h w (λ k e g z. absurd (let y : ⊥ = cc in y)) gw refl
        (subst (λ z. (is_write w && (nat_lt z j || is_before w x)) ≡ true) (let z : h ≡ 0 + h = omega arith in z)
        (both (is_write w) (nat_lt h j || is_before w x) iw
        (elim sees [ inl l ↦ or-left (nat_lt h j) (is_before w x) (lt-true h j l) | inr l ↦ or-right (nat_lt h j) (is_before w x) l ]))) in
        omega arith

    go : (n : ℕ) → count (can_see j x) 0 order ≡ n → goal_at n
    go zero e = absurd (let z = some in let y : ⊥ = omega arith in y)
    go (suc m) e =
        subst (λ z. StandsAmong z (round b (suc m) x.loc.0)) (sym q)
        (subst (λ z. StandsAmong w.value (round b (suc m) z)) at
        (among-right w.value (round b m w.loc.0) (all_may_write (round b m) w.loc.0 b.trees) (wrote m e)))

of-round : (b : Branching) (order : List Entry)
    → Facts b order
    → (n j : ℕ) (x : Entry)
    → j < n
    → slice_get order j ≡ Some x
    → is_read x ≡ true
    → IsOfRound b order j x
of-round b order f zero j x l g ir = absurd (omega arith)
of-round b order f (suc n) j x l g ir =
    by-source b order j x f g ir (λ i r m h k. of-round b order f n i r (omega arith) h k) (source b order j x f g ir)

-- so all reads are of the round whose number is that of all writes
pub all-of-round : (b : Branching) (order : List Entry) → Facts b order → (j : ℕ) (x : Entry) → slice_get order j ≡ Some x → is_read x ≡ true
    → IsOf (round b (writes_in order)) x
all-of-round b order f j x g ir =
    let l = count-filter (can_see j x) is_write 0 order (λ k e h. and-left (is_write e) (nat_lt k j || is_before e x) h) in
    later-round b (count (can_see j x) 0 order) (writes_in order) l x.loc.0 x.value (of-round b order f (suc j) j x (omega arith) g ir)

values-at : (c : ℕ) (trees : List Tree) (order : List Entry) (k : ℕ) → k < length trees
    → slice_index_or (values_from c trees order) k [] ≡ values_along (c + k) 0 (slice_index_or trees k Cut) order
values-at c [] order k l = absurd (omega arith)
values-at c (tree ∷ trees) order zero l = ap (λ z. values_along z 0 tree order) (let z : c ≡ c + 0 = omega arith in z)
values-at c (tree ∷ trees) order (suc k) l =
    values-at (c + 1) trees order k (omega arith)
    ∙ ap (λ z. values_along z 0 (slice_index_or trees k Cut) order) (let z : (c + 1) + k ≡ c + suc k = omega arith in z)

pub own-values : (b : Branching) (order : List Entry) (k : ℕ) → k < length b.trees
    → slice_index_or (values_from 0 b.trees order) k [] ≡ values_along k 0 (slice_index_or b.trees k Cut) order
own-values b order k l =
    values-at 0 b.trees order k l ∙ ap (λ z. values_along z 0 (slice_index_or b.trees k Cut) order) (let z : 0 + k ≡ k = omega arith in z)

pub gives-at : (c : ℕ) (trees : List Tree) (outputs : List (List ℕ)) (order : List Entry) (k : ℕ)
    → Give trees (values_from c trees order) outputs
    → k < length trees
    → outputs_along (slice_index_or trees k Cut) (values_along (c + k) 0 (slice_index_or trees k Cut) order) ≡ Some (slice_index_or outputs k [])
gives-at c [] outputs order k g l = absurd (omega arith)
gives-at c (tree ∷ trees) [] order k g l = absurd g
gives-at c (tree ∷ trees) (o ∷ outputs) order zero g l =
    subst (λ z. outputs_along tree (values_along z 0 tree order) ≡ Some o) (let z : c ≡ c + 0 = omega arith in z) g.0
gives-at c (tree ∷ trees) (o ∷ outputs) order (suc k) g l =
    subst (λ z. outputs_along (slice_index_or trees k Cut) (values_along z 0 (slice_index_or trees k Cut) order) ≡ Some (slice_index_or outputs k []))
    (let z : (c + 1) + k ≡ c + suc k = omega arith in z) (gives-at (c + 1) trees outputs order k g.1 (omega arith))

pub paths-of-rounds : WholeOrdersHaveEachEntryOnce → (b : Branching) (order : List Entry) (outputs : List (List ℕ)) → IsBranchExecution b order outputs
    → ArePaths (round b (writes_in order)) b.trees (values_from 0 b.trees order)
paths-of-rounds law b order outputs h k l =
    let f = facts-of law b order outputs h in
    let tree : Tree = slice_index_or b.trees k Cut in
    let e = subst (λ z. outputs_along tree (values_along z 0 tree order) ≡ Some (slice_index_or outputs k [])) (let z : 0 + k ≡ k = omega arith in z)
    (gives-at 0 b.trees outputs order k h.done l) in
    subst (λ z. StandsAmong z (all_paths (round b (writes_in order)) tree)) (sym (own-values b order k l))
    (path-rests (round b (writes_in order)) k 0 tree order (slice_index_or outputs k []) e
    (λ r m ir. (let s = f.stands k r l m in all-of-round b order f s.0 r s.1 ir)))

pub last-round : (b : Branching) (n : ℕ) → AddsNothing b n → (m loc v : ℕ) → StandsAmong v (round b m loc) → StandsAmong v (round b n loc)
last-round b n f m loc v h = stays-so b n m f loc v h

enough-paths : (b : Branching) (n : ℕ) (order : List Entry) (outputs : List (List ℕ)) → AreEnough b n → IsBranchExecution b order outputs
    → ArePaths (round b (writes_in order)) b.trees (values_from 0 b.trees order) → ArePaths (round b n) b.trees (values_from 0 b.trees order)
enough-paths b n order outputs (inl f) h are k l =
    more-paths (round b (writes_in order)) (round b n) _ (slice_index_or b.trees k Cut) (stays-so b n (writes_in order) f) (are k l)
enough-paths b n order outputs (inr f) h are k l =
    more-paths (round b (writes_in order)) (round b n) _ (slice_index_or b.trees k Cut) (later-round b (writes_in order) n (f order outputs h)) (are k l)

pub union-of-paths : WholeOrdersHaveEachEntryOnce → (b : Branching) (n : ℕ) (outputs : List (List ℕ)) (memory : List ℕ) → AreEnough b n
    → IsBranchOutcome b outputs memory ↔ ((values : List (List ℕ)) × ArePaths (round b n) b.trees values × IsPathOutcome b values outputs memory)
union-of-paths law b n outputs memory enough = (
  λ h. (
    values_from 0 b.trees h.order,
    enough-paths b n h.order outputs enough h.execution (paths-of-rounds law b h.order outputs h.execution),
    record { order = h.order; execution = to-path b h.order outputs h.execution; memory_is = h.memory_is },
  ),
  λ h. (same-outcomes b outputs memory).1 (h.0, h.2),
)
