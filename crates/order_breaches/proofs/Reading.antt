-- The values with which the reads came are the order's own read values, and with them the programs make what they make.
use Rattle.order_breaches.proofs.Vocabulary.{◌≡◌, ◌≤◌, ℕ, ◌+◌, suc, List, [], ◌∷◌, ◌++◌, length, Option, Some, slice_get, slice_index}
use Rattle.order_breaches.proofs.Vocabulary.{slice_index_or, take, drop, Bool, true, false, if◌then◌else◌, arith, ap, sym, ◌∙◌, refl, subst}
use Rattle.order_breaches.proofs.Vocabulary.{inl, inr, unwrap_or, action_of, entries_by, entries_of, reads_in, Litmus, is_read, read_value}
use Rattle.order_breaches.proofs.Vocabulary.{values_by, made, read_values, Instr, Action, Store, Load, Move, Fence, Lock, Entry, IsNowhere}
use Rattle.order_breaches.proofs.Vocabulary.{IsStray, reads_of_all, made_reading, kept_in, reads_that_came, HasCome, HasNotCome}
use Rattle.order_breaches.proofs.Actions.{SameAction, same-parts, same-turned, NoneTwice, value-at, looked-up}
use Rattle.order_breaches.proofs.Made.{all_reads, all-count, made-by-reads}
use Rattle.order_breaches.proofs.Whole.{none-twice}
use Rattle.order_breaches.proofs.Coming.{there-or-not}

-- the values of the reads among these entries
abbrev pub reads_by : (Entry → ℕ) → List Entry → List ℕ
reads_by value [] = []
reads_by value (e ∷ es) = if is_read e then value e ∷ reads_by value es else reads_by value es

abbrev pub own_value : List Entry → Entry → ℕ
own_value order e = read_value e.core.0 e.place e.kind order

step : (b : Bool) (u v : ℕ) (us vs : List ℕ) → (b ≡ true → u ≡ v) → us ≡ vs → (if b then u ∷ us else us) ≡ (if b then v ∷ vs else vs)
step true u v us vs h e = ap (λ z. z ∷ us) (h refl) ∙ ap (λ z. v ∷ z) e
step false u v us vs h e = e

came-by : (order : List Entry) (came : List (Option ℕ)) (i : ℕ) (es : List Entry)
    → ((k : ℕ) (e : Entry) → slice_get es k ≡ Some e → unwrap_or (kept_in came (i + k)) 0 ≡ own_value order e)
    → reads_that_came i came es ≡ reads_by (own_value order) es
came-by order came i [] h = refl
came-by order came i (e ∷ es) h =
    step (is_read e) (unwrap_or (kept_in came i) 0) (own_value order e) (reads_that_came (i + 1) came es) (reads_by (own_value order) es)
    (λ _. ap (λ n. unwrap_or (kept_in came n) 0) (let q : i ≡ i + 0 = omega arith in q) ∙ h 0 e refl)
    (came-by order came (i + 1) es (λ k x f. ap (λ n. unwrap_or (kept_in came n) 0) (let q : i + 1 + k ≡ i + suc k = omega arith in q) ∙ h (suc k) x f))

reads-first : (core place : ℕ) (a : Action) (registers : List ℕ) (word : ℕ) (es : List Entry) (order : List Entry)
    → reads_by (own_value order) (entries_by core place a registers word ++ es) ≡ values_by core place a order ++ reads_by (own_value order) es
reads-first core place (Store loc operand) registers word es order = refl
reads-first core place (Load reg loc) registers word es order = refl
reads-first core place (Move change) registers word es order = refl
reads-first core place Fence registers word es order = refl
reads-first core place (Lock loc reg update) registers word es order = refl

entries-reads : (core place : ℕ) (program : List Instr) (registers values : List ℕ) (order : List Entry)
    → reads_by (own_value order) (entries_of core place program registers values) ≡ read_values core place program order
entries-reads core place [] registers values order = refl
entries-reads core place (i ∷ rest) registers values order =
    reads-first core place (action_of i) registers (slice_index values 0) _ order
    ∙ ap (λ z. values_by core place (action_of i) order ++ z) (entries-reads core (place + 1) rest _ _ order)

if-append : (b : Bool) (x : ℕ) (xs ys : List ℕ) → (if b then x ∷ (xs ++ ys) else (xs ++ ys)) ≡ (if b then x ∷ xs else xs) ++ ys
if-append true x xs ys = refl
if-append false x xs ys = refl

reads-append : (value : Entry → ℕ) (xs ys : List Entry) → reads_by value (xs ++ ys) ≡ reads_by value xs ++ reads_by value ys
reads-append value [] ys = refl
reads-append value (x ∷ xs) ys =
    ap (λ z. if is_read x then value x ∷ z else z) (reads-append value xs ys) ∙ if-append (is_read x) (value x) (reads_by value xs) (reads_by value ys)

shape-reads : (core : ℕ) (programs : List (List Instr)) (registers : List (List ℕ)) (reads : List ℕ)
    (order : List Entry)
    → reads_by (own_value order) (made_reading core programs registers reads) ≡ all_reads core programs order
shape-reads core [] registers reads order = refl
shape-reads core (p ∷ ps) registers reads order =
    let rest = made_reading (core + 1) ps registers (drop (reads_in p) reads) in
    reads-append (own_value order) (entries_of core 0 p (slice_index_or registers core []) (take (reads_in p) reads)) rest
    ∙ ap (λ z. z ++ reads_by (own_value order) rest) (entries-reads core 0 p (slice_index_or registers core []) (take (reads_in p) reads) order)
    ∙ ap (λ z. read_values core 0 p order ++ z) (shape-reads (core + 1) ps registers (drop (reads_in p) reads) order)

-- where all came, each came with the order's own value
came-own : (shape order : List Entry) (at : ℕ) (came : List (Option ℕ)) → NoneTwice order → HasCome shape order at came → IsNowhere shape (HasNotCome came)
    → (k : ℕ) (e : Entry) → slice_get shape k ≡ Some e → unwrap_or (kept_in came k) 0 ≡ own_value order e
came-own shape order at came once come all k e f = elim (there-or-not (kept_in came k)) [
  | inl n ↦ absurd (all k e f n)
  | inr s ↦
      let r = come.only k s.0 s.1 in
      let q : r.2 ≡ e = let g = r.5 in cc in
      let a : SameAction e r.1 = subst (λ w. SameAction w r.1) q (same-parts r.2 r.1 r.6) in
      ap (λ o. unwrap_or o 0) s.1 ∙ sym r.7 ∙ sym (value-at order once r.0 r.1 r.4) ∙ looked-up r.1 e order (same-turned e r.1 a)
]

pub record ReadsAll (t : Litmus) (order : List Entry) (reads : List ℕ) : Type 0 where
  pub enough : reads_of_all t.programs ≤ length reads
  pub makes : made_reading 0 t.programs t.registers reads ≡ made t order

pub came-reads : (t : Litmus) (order : List Entry) (at : ℕ) (came : List (Option ℕ)) (shape : List Entry)
    → (reads : List ℕ) × (shape ≡ made_reading 0 t.programs t.registers reads)
    → IsNowhere order (IsStray shape order)
    → HasCome shape order at came
    → IsNowhere shape (HasNotCome came) → ReadsAll t order (reads_that_came 0 came shape)
came-reads t order at came shape is stray come all =
    let e : reads_that_came 0 came shape ≡ all_reads 0 t.programs order =
    came-by order came 0 shape
    (λ k e f.
    ap (λ n. unwrap_or (kept_in came n) 0) (let q : 0 + k ≡ k = omega arith in q)
    ∙ came-own shape order at came (none-twice shape order stray) come all k e f)
    ∙ ap (λ s. reads_by (own_value order) s) is.1 ∙ shape-reads 0 t.programs t.registers is.0 order in
    record {
      enough = let n = all-count 0 t.programs order in let m = ap length e in omega arith;
      makes = ap (λ r. made_reading 0 t.programs t.registers r) e ∙ made-by-reads 0 t.programs t.registers order;
    }
