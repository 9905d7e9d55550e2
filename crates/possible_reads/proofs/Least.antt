-- Where the writes to a location set numbers and add them, and all of these together are less than 2^32, no sum wraps: along coherence no
-- word is more than what was set and added up to it. So a write leaves no less than what its load part finds at least, and what it adds.
use Rattle.possible_reads.proofs.Vocabulary.{◌≡◌, ◌+◌, ◌<◌, ◌≤◌, ℕ, zero, suc, Bool, true, false, if◌then◌else◌, List, [], ◌∷◌, ◌++◌}
use Rattle.possible_reads.proofs.Vocabulary.{Option, Some, None, arith, refl, sym, ap, ◌∙◌, ◌⊎◌, inl, inr, subst, map, filter, slice_get}
use Rattle.possible_reads.proofs.Vocabulary.{slice_index, Entry, LR, LW, Litmus, entry, sum_of, IsIn, in-case, in-none, in-first, in-later}
use Rattle.possible_reads.proofs.Vocabulary.{in-append, in-left, in-right, filter-in, append_assoc, bare, events_of, same_event}
use Rattle.possible_reads.proofs.Vocabulary.{Stands, Candidate, events, is_read, is_write, writes_to, same_kind, Sound, and-both}
use Rattle.possible_reads.proofs.Vocabulary.{equal-kinds, part_of, location, writes-at, IsAllowed, ArePair, IsEarlier, one-way, stand-once, share}
use Rattle.possible_reads.proofs.Vocabulary.{at_once, onward, IsBeforeOnLocation, po_loc, rf, co, nat_tests}
use Rattle.std.specs.Prelude.{◌^◌, min}
use Rattle.std.proofs.Math.Nat.{mod-le, mod-eq_of_lt}
use Rattle.relational_model.specs.inner.Rows.{Once}
use Rattle.relational_model.specs.Candidates.{Returns as ReturnsFrom}
use Rattle.relational_model.proofs.KindFacts.{writes}
use Rattle.relational_model.proofs.Lists.{Cut, cut}
use Rattle.relational_model.proofs.Pairs.{coupled, HasLoad}
use Rattle.relational_model.proofs.Ranks.{rank-before}
use Rattle.relational_model.proofs.Fences.{true-or}
use Rattle.relational_model.proofs.Sources.{in-front}
use Rattle.locked_laws.specs.Sums.{total_of}
use Rattle.locked_laws.proofs.Turns.{load-part-reads}
use Rattle.refutation_laws.proofs.Standing.{event-in, same-bare, bare-events}
use Rattle.possible_reads.specs.Expressions.{Expression, Constant, Returned, Combined, Negated, Exchanged, Written, expression_among, expression_of, written}
use Rattle.possible_reads.specs.Possible.{Reading, least_read, load_part_of, addend_in, addend_or_none, is_addition, amount_in, amount_of}
use Rattle.possible_reads.specs.Possible.{can_add, can_add_all, never_wraps, least_sum, least_by, least_written, smallest_with, smallest}
use Rattle.possible_reads.proofs.Values.{value_of}
use Rattle.possible_reads.proofs.Programs.{returned_in, returns, writes-value}
use Rattle.possible_reads.proofs.Additions.{IsSum, is-sum, filter-bare}

-- ---- the smallest of some numbers

smallest-first : (least : ℕ) (ns : List ℕ) → smallest_with least ns ≤ least
smallest-first least [] = omega arith
smallest-first least (n ∷ ns) = let h : smallest_with (min n least) ns ≤ min n least = smallest-first (min n least) ns in omega arith

smallest-later : (least : ℕ) (ns : List ℕ) (i n : ℕ) → slice_get ns i ≡ Some n → smallest_with least ns ≤ n
smallest-later least [] i n h = let z : ⊥ = cc in absurd z
smallest-later least (m ∷ ns) zero n h =
    let e : m ≡ n = cc in let k : smallest_with (min m least) ns ≤ min m least = smallest-first (min m least) ns in omega arith
smallest-later least (m ∷ ns) (suc i) n h = smallest-later (min m least) ns i n h

pub smallest-is : (ns : List ℕ) (i n : ℕ) → slice_get ns i ≡ Some n → smallest ns ≤ n
smallest-is [] i n h = let z : ⊥ = cc in absurd z
smallest-is (m ∷ ns) zero n h = let e : m ≡ n = cc in subst (λ k. smallest_with m ns ≤ k) e (smallest-first m ns)
smallest-is (m ∷ ns) (suc i) n h = smallest-later m ns i n h

-- ---- totals

total-middle : (number : Entry → ℕ) (xs ys : List Entry) (e : Entry) → total_of number (xs ++ (e ∷ ys)) ≡ number e + total_of number (xs ++ ys)
total-middle number [] ys e = refl
total-middle number (x ∷ xs) ys e =
    let h : total_of number (xs ++ (e ∷ ys)) ≡ number e + total_of number (xs ++ ys) = total-middle number xs ys e in omega arith

-- members of another list, each once, have no greater total
no-greater : (number : Entry → ℕ) (xs ys : List Entry) → Once xs → ((x : Entry) → IsIn xs x → IsIn ys x) → total_of number xs ≤ total_of number ys
no-greater number [] ys o f = omega arith
no-greater number (x ∷ xs) ys o f =
    let k = cut ys x (f x (in-first x xs x refl)) in
    let all : total_of number ys ≡ number x + total_of number (k.front ++ k.back) = ap (total_of number) k.is ∙ total-middle number k.front k.back x in
    let rest : total_of number xs ≤ total_of number (k.front ++ k.back) = no-greater number xs (k.front ++ k.back) o.1 (inside k) in
    omega arith
  where
    inside : (k : Cut ys x) (y : Entry) → IsIn xs y → IsIn (k.front ++ k.back) y
    inside k y i = elim (in-append k.front (x ∷ k.back) y (subst (λ zs. IsIn zs y) k.is (f y (in-later x xs y i)))) [
      | inl a ↦ in-left k.front k.back y a
      | inr b ↦ elim (in-case x k.back y b) [ inl e ↦ absurd (o.0 (subst (IsIn xs) e i)) | inr b ↦ in-right k.front k.back y b ]
    ]

-- ---- numbers of writes

added : (sum : ℕ) (o : Option ℕ) → can_add sum o ≡ true → (is_addition o ≡ true) × (sum + addend_or_none o < 2 ^ 32)
added sum None h = let z : ⊥ = cc in absurd z
added sum (Some n) h = (refl, let l : sum + n < 2 ^ 32 = grind (arith, nat_tests) in l)

-- an expression that is no number
record IsOther (x : Expression) : Type 0 where
  number : (w : Entry) → amount_in w x ≡ (if same_kind w.kind LW then addend_in (load_part_of w) x else None)
  least : (table : List Reading) (w : Entry)
      → least_by table w x ≡ least_sum (least_read table (load_part_of w)) (addend_or_none (addend_in (load_part_of w) x))

number-or-other : (x : Expression) → ((n : ℕ) × (x ≡ Constant n)) ⊎ IsOther x
number-or-other (Constant n) = inl (n, refl)
number-or-other (Returned read) = inr (record { number = λ w. refl; least = λ table w. refl })
number-or-other (Combined operator left right) = inr (record { number = λ w. refl; least = λ table w. refl })
number-or-other (Negated inner) = inr (record { number = λ w. refl; least = λ table w. refl })
number-or-other (Exchanged word eax new) = inr (record { number = λ w. refl; least = λ table w. refl })

module _ (t : Litmus) where
  -- what a write sets or adds
  abbrev pub number : Entry → ℕ
  number w = addend_or_none (amount_of t (bare w))

  has-number : (sum : ℕ) (ws : List Entry) (w : Entry) → can_add_all t sum ws ≡ true → IsIn ws w → is_addition (amount_of t w) ≡ true
  has-number sum [] w h i = absurd (in-none w i)
  has-number sum (x ∷ ws) w h i =
      let m = and-both (can_add sum (amount_of t x)) _ h in
      elim (in-case x ws w i) [
        | inl e ↦ subst (λ z. is_addition (amount_of t z) ≡ true) (sym e) (added sum (amount_of t x) m.0).0
        | inr j ↦ has-number (sum + addend_or_none (amount_of t x)) ws w m.1 j
      ]

  has-room : (sum : ℕ) (ws : List Entry) → sum < 2 ^ 32 → can_add_all t sum (map bare ws) ≡ true → sum + total_of number ws < 2 ^ 32
  has-room sum [] l h = omega arith
  has-room sum (w ∷ ws) l h =
      let m = and-both (can_add sum (amount_of t (bare w))) _ h in
      let k : (sum + number w) + total_of number ws < 2 ^ 32 = has-room (sum + number w) ws (added sum (amount_of t (bare w)) m.0).1 m.1 in
      omega arith

  -- by one write there is room for the word itself
  some-room : (sum : ℕ) (ws : List Entry) (w : Entry) → IsIn ws w → can_add_all t sum (map bare ws) ≡ true → sum + total_of number ws < 2 ^ 32
  some-room sum [] w i h = absurd (in-none w i)
  some-room sum (x ∷ ws) w i h =
      let m = and-both (can_add sum (amount_of t (bare x))) _ h in
      let k : sum + number x < 2 ^ 32 = (added sum (amount_of t (bare x)) m.0).1 in
      has-room sum (x ∷ ws) (omega arith) h

  among-bare : (xs : List Written) (w : Entry) → expression_among xs w ≡ expression_among xs (bare w)
  among-bare [] w = refl
  among-bare (x ∷ xs) w = ap (λ z. if same_event x.write w then x.value else z) (among-bare xs w)

  least-bare : (table : List Reading) (w : Entry) → least_written t table w ≡ least_written t table (bare w)
  least-bare table w =
      ap (λ n. if never_wraps t w.loc.0 then n else 0)
      (ap (least_by table w) (among-bare (written t) w) ∙ by-bare (number-or-other (expression_of t (bare w))))
    where
      by-bare : ((n : ℕ) × (expression_of t (bare w) ≡ Constant n)) ⊎ IsOther (expression_of t (bare w))
          → least_by table w (expression_of t (bare w)) ≡ least_by table (bare w) (expression_of t (bare w))
      by-bare (inl (n, e)) = ap (least_by table w) e ∙ sym (ap (least_by table (bare w)) e)
      by-bare (inr o) = o.least table w ∙ sym (o.least table (bare w))

-- ---- a location where nothing wraps

module _ (t : Litmus) (c : Candidate) (d : Sound t c) (a : IsAllowed t c) (loc : ℕ) (q : never_wraps t loc ≡ true) where
  abbrev word : ℕ
  word = slice_index t.words loc

  writes-bare : filter (writes_to loc) (events_of t) ≡ map bare (filter (writes_to loc) (events t c))
  writes-bare = ap (filter (writes_to loc)) (sym (bare-events t c)) ∙ filter-bare loc (events t c)

  -- a write that adds
  record Adds (w : Entry) : Type 0 where
    read : Entry
    inside : IsIn (events t c) read
    pair : ArePair read w
    value : w.value ≡ sum_of read.value (number t w)
    number_is : number t w ≡ addend_or_none (addend_in (load_part_of w) (expression_of t (bare w)))

  same-location : (r w : Entry) → IsIn (events t c) r → IsIn (events t c) w → ArePair r w → r.loc.0 ≡ w.loc.0
  same-location r w i j p =
      let m = (coupled t c r i).0 p.read in
      m.location ∙ ap (λ (z : Entry). z.loc.0)
      (d.same m.other w m.inside j (sym m.pair.core ∙ p.core) (sym m.pair.place ∙ p.place) (ap part_of (m.pair.write ∙ sym p.write)))

  bare-load : (r w : Entry) → IsIn (events t c) r → IsIn (events t c) w → ArePair r w → bare (load_part_of w) ≡ bare r
  bare-load r w i j p =
      ap (λ n. entry n w.place LR w.loc 0) (sym p.core)
      ∙ (ap (λ n. entry r.core.0 n LR w.loc 0) (sym p.place)
      ∙ (ap (λ k. entry r.core.0 r.place k w.loc 0) (sym p.read)
      ∙ ap (λ n. entry r.core.0 r.place r.kind (record { 0 = n }) 0) (sym (same-location r w i j p))))

  value-is : (w : Entry) → IsIn (events t c) w → writes_to loc w ≡ true → value_of (returned_in t c d) (expression_of t (bare w)) ≡ w.value
  value-is w i to = writes-value t c d (bare w) w (record { inside = i; same = refl }) (writes loc w to)

  has : (w : Entry) → IsIn (events t c) w → writes_to loc w ≡ true → is_addition (amount_of t (bare w)) ≡ true
  has w i to =
      has-number t word (filter (writes_to loc) (events_of t)) (bare w) q (filter-in (writes_to loc) (events_of t) (bare w) (event-in t c w i) to)

  adds : (w : Entry) → IsIn (events t c) w → writes_to loc w ≡ true → IsOther (expression_of t (bare w)) → Adds w
  adds w i to o = go (same_kind w.kind LW) refl
    where
      x : Expression
      x = expression_of t (bare w)

      addition : is_addition (if same_kind w.kind LW then addend_in (load_part_of w) x else None) ≡ true
      addition = subst (λ z. is_addition z ≡ true) (o.number (bare w)) (has w i to)

      go : (b : Bool) → same_kind w.kind LW ≡ b → Adds w
      go false e =
          let h : is_addition None ≡ true = subst (λ b. is_addition (if b then addend_in (load_part_of w) x else None) ≡ true) e addition in
          let z : ⊥ = cc in absurd z
      go true e = record {
        read = load.other;
        inside = load.inside;
        pair = load.pair;
        value =
            sym (value-is w i to)
            ∙ (sum.value (returned_in t c d)
            ∙ (ap (λ n. sum_of n (addend_or_none (addend_in (load_part_of w) x)))
            (returns t c d sum.read load.other
            (record {
              inside = load.inside;
              same = same-bare sum.read (load_part_of w) sum.same ∙ bare-load load.other w load.inside i load.pair;
            }))
            ∙ ap (sum_of load.other.value) (sym number-is)));
        number_is = number-is;
      }
        where
          load : HasLoad (events t c) w
          load = (coupled t c w i).1 (equal-kinds w.kind LW e)

          sum : IsSum (load_part_of w) x
          sum = is-sum (load_part_of w) x (subst (λ b. is_addition (if b then addend_in (load_part_of w) x else None) ≡ true) e addition)

          number-is : number t w ≡ addend_or_none (addend_in (load_part_of w) x)
          number-is = ap addend_or_none (o.number (bare w) ∙ ap (λ b. if b then addend_in (load_part_of w) x else None) e)

  -- the source of a load part comes before its store part
  source-first : (r w z : Entry) → IsIn (events t c) r → IsIn (events t c) w → ArePair r w → writes_to loc w ≡ true → c.source r ≡ Some z
      → IsIn (events t c) z → writes_to loc z ≡ true → IsEarlier (c.coherence loc) z w
  source-first r w z i j p to s k to-z = go (one-way (c.coherence loc) z w (a.candidate.writes loc z k to-z) (a.candidate.writes loc w j to))
    where
      po : IsBeforeOnLocation c r w
      po = po_loc r w
          (rank-before r w p.core
          (let m : part_of r.kind ≡ 0 = ap part_of p.read in let n : part_of w.kind ≡ 1 = ap part_of p.write in
          let e : r.place ≡ w.place = p.place in omega arith))
          (share r w (true-or (is_read r) (is_write r) (inl (load-part-reads r p.read))) (true-or (is_read w) (is_write w) (inr (writes loc w to)))
          (same-location r w i j p))

      read : IsBeforeOnLocation c z r
      read = rf z r (record { read = load-part-reads r p.read; source = s })

      go : (z ≡ w) ⊎ (IsEarlier (c.coherence loc) z w ⊎ IsEarlier (c.coherence loc) w z) → IsEarlier (c.coherence loc) z w
      go (inl e) = absurd (a.uniproc r (onward r w r i po (at_once w r j i (subst (λ v. IsBeforeOnLocation c v r) e read))))
      go (inr (inl first)) = first
      go (inr (inr back)) =
          absurd (a.uniproc r
          (onward r w r i po
          (onward w z r j (co w z (subst (λ l. IsEarlier (c.coherence l) w z) (sym (location loc w to)) back)) (at_once z r k i read))))

  -- no sum of what a load part finds wraps
  abbrev Fits : Entry → Type 0
  Fits w = (r : Entry) → IsIn (events t c) r → ArePair r w → r.value + number t w < 2 ^ 32

  module _ (front ws : List Entry) (w : Entry) (most : ℕ) (is : c.coherence loc ≡ front ++ (w ∷ ws)) (first : word ≤ most)
      (below : (x : Entry) → IsIn front x → x.value ≤ most) where
    stands : IsIn (events t c) w × (writes_to loc w ≡ true)
    stands = d.coherent loc w (subst (λ xs. IsIn xs w) (sym is) (in-right front (w ∷ ws) w (in-first w ws w refl)))

    finds : (r : Entry) → IsIn (events t c) r → ArePair r w → r.value ≤ most
    finds r i p = go (c.source r) refl (a.candidate.reads r i (load-part-reads r p.read))
      where
        same : r.loc.0 ≡ loc
        same = same-location r w i stands.0 p ∙ location loc w stands.1

        go : (o : Option Entry) → c.source r ≡ o → ReturnsFrom t c r o → r.value ≤ most
        go None e h = subst (λ n. n ≤ most) (sym (h ∙ ap (slice_index t.words) same)) first
        go (Some z) e h =
            let to : writes_to loc z ≡ true = subst (λ l. writes_to l z ≡ true) same h.1 in
            subst (λ n. n ≤ most) (sym h.2)
            (below z
            (in-front (c.coherence loc) front ws w z (stand-once (c.coherence loc) (d.single loc)) is
            (source-first r w z i stands.0 p stands.1 e h.0 to)))

    -- and so is what it leaves
    leaves : w.value ≤ most + number t w
    leaves = go (number-or-other (expression_of t (bare w)))
      where
        go : ((n : ℕ) × (expression_of t (bare w) ≡ Constant n)) ⊎ IsOther (expression_of t (bare w)) → w.value ≤ most + number t w
        go (inl (n, e)) =
            let v : n ≡ w.value = ap (value_of (returned_in t c d)) (sym e) ∙ value-is w stands.0 stands.1 in
            let m : number t w ≡ n = ap (λ x. addend_or_none (amount_in (bare w) x)) e in omega arith
        go (inr o) =
            let s = adds w stands.0 stands.1 o in
            let v : w.value ≡ sum_of s.read.value (number t w) = s.value in
            let l : sum_of s.read.value (number t w) ≤ s.read.value + number t w = mod-le (s.read.value + number t w) (2 ^ 32) in
            let f : s.read.value ≤ most = finds s.read s.inside s.pair in omega arith

  walk : (front ws : List Entry) (most : ℕ) → c.coherence loc ≡ front ++ ws → word ≤ most → ((x : Entry) → IsIn front x → x.value ≤ most)
      → most + total_of (number t) ws < 2 ^ 32 → (w : Entry) → IsIn ws w → Fits w
  walk front [] most is first below room w i = absurd (in-none w i)
  walk front (x ∷ ws) most is first below room w i = elim (in-case x ws w i) [
    | inl e ↦ subst Fits (sym e) (λ r j p. let f : r.value ≤ most = finds front ws x most is first below r j p in omega arith)
    | inr k ↦
        walk (front ++ (x ∷ [])) ws (most + number t x) (is ∙ sym (append_assoc front (x ∷ []) ws)) (omega arith) next (omega arith) w k
  ]
    where
      next : (y : Entry) → IsIn (front ++ (x ∷ [])) y → y.value ≤ most + number t x
      next y k = elim (in-append front (x ∷ []) y k) [
        | inl f ↦ let l : y.value ≤ most = below y f in omega arith
        | inr g ↦ elim (in-case x [] y g) [
          | inl e ↦ subst (λ z. z.value ≤ most + number t x) (sym e) (leaves front ws x most is first below)
          | inr n ↦ absurd (in-none y n)
        ]
      ]

  fits : (w : Entry) → IsIn (events t c) w → writes_to loc w ≡ true → Fits w
  fits w i to =
      walk [] (c.coherence loc) word refl (omega arith) (λ x k. absurd (in-none x k)) room w (a.candidate.writes loc w i to)
    where
      among : IsIn (filter (writes_to loc) (events t c)) w
      among = filter-in (writes_to loc) (events t c) w i to

      room : word + total_of (number t) (c.coherence loc) < 2 ^ 32
      room =
          let all : word + total_of (number t) (filter (writes_to loc) (events t c)) < 2 ^ 32 =
          some-room t word (filter (writes_to loc) (events t c)) w among (subst (λ xs. can_add_all t word xs ≡ true) writes-bare q) in
          let less : total_of (number t) (c.coherence loc) ≤ total_of (number t) (filter (writes_to loc) (events t c)) =
          no-greater (number t) (c.coherence loc) (filter (writes_to loc) (events t c)) (d.single loc)
          (λ x k. let m = d.coherent loc x k in filter-in (writes_to loc) (events t c) x m.0 m.1) in
          omega arith

  -- ---- what is left at least

  module _ (table : List Reading) (least : (read r : Entry) → Stands t c read r → is_read r ≡ true → least_read table read ≤ r.value) where
    pub least-by : (w : Entry) → IsIn (events t c) w → writes_to loc w ≡ true → least_by table (bare w) (expression_of t (bare w)) ≤ w.value
    least-by w i to = go (number-or-other (expression_of t (bare w)))
      where
        go : ((n : ℕ) × (expression_of t (bare w) ≡ Constant n)) ⊎ IsOther (expression_of t (bare w))
            → least_by table (bare w) (expression_of t (bare w)) ≤ w.value
        go (inl (n, e)) =
            let v : n ≡ w.value = ap (value_of (returned_in t c d)) (sym e) ∙ value-is w i to in
            let m : least_by table (bare w) (expression_of t (bare w)) ≡ n = ap (least_by table (bare w)) e in omega arith
        go (inr o) =
            let s = adds w i to o in
            let l : least_read table (load_part_of w) ≤ s.read.value =
            least (load_part_of w) s.read (record { inside = s.inside; same = bare-load s.read w s.inside i s.pair }) (load-part-reads s.read s.pair.read) in
            let v : w.value ≡ s.read.value + number t w = s.value ∙ mod-eq_of_lt (fits w i to s.read s.inside s.pair) in
            let m : least_by table (bare w) (expression_of t (bare w)) ≡ least_sum (least_read table (load_part_of w)) (number t w) =
            o.least table (bare w) ∙ ap (least_sum (least_read table (load_part_of w))) (sym s.number_is) in
            omega arith

-- what a write writes at least
pub written-least : (t : Litmus) (c : Candidate) (d : Sound t c) → IsAllowed t c → (table : List Reading)
    → ((read r : Entry) → Stands t c read r → is_read r ≡ true → least_read table read ≤ r.value)
    → (w x : Entry) → Stands t c w x → is_write x ≡ true → least_written t table w ≤ x.value
written-least t c d a table least w x s k =
    subst (λ n. n ≤ x.value) (sym (least-bare t table w ∙ ap (least_written t table) s.same)) (go (never_wraps t x.loc.0) refl)
  where
    go : (b : Bool) → never_wraps t x.loc.0 ≡ b → (if b then least_by table (bare x) (expression_of t (bare x)) else 0) ≤ x.value
    go false q = omega arith
    go true q = least-by t c d a x.loc.0 q table least x s.inside (writes-at x.loc.0 x k refl)
